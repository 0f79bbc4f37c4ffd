use Rattle.std.proofs.Common.{rules, sym, ◌∙◌}
use Rattle.cache_law.specs.Steps.{process_step}
use Rattle.cache_law.proofs.Keeps.{Taken-from, can_finish, can_fill, can_answer, IsSound-processed, shown_after, processes}
use Rattle.cache_unit.proofs.Calls.{makes}
use Rattle.cache_unit.proofs.unit.ShapedUnit.process.Goals as goal

pub finish_word-end-requires : goal.finish_word-end-requires
finish_word-end-requires c =
    let s = c.self.inside in
    let r = can_finish s.sizes _ c.self.invariant.sound _ c.in-Some.e (Taken-from s.stack _ c.in-Some.e (sym c.remove.ensures.value ∙
    c.in-Some.is)) in
    record { slot = r.0; in_stack = r.1; done = (c.self.invariant.sound.registers.each c.in-Some.e.slot).done }

pub fill_live-requires : goal.fill_live-requires
fill_live-requires c =
    let s = c.self.inside in
    let there = can_fill s.sizes _ c.self.invariant.sound _ c.in-Some.e (Taken-from s.stack _ c.in-Some.e (sym c.remove.ensures.value ∙
    c.in-Some.is)) in
    record { there = rw (sym c.finish_word-end.ensures.live) at there }

pub answer_all-requires : goal.answer_all-requires
answer_all-requires c =
    let s = c.self.inside in
    rw c.finish_word-end.ensures.send (can_answer s.sizes _ c.self.invariant.sound _ c.in-Some.e (Taken-from s.stack _ c.in-Some.e (sym
    c.remove.ensures.value ∙ c.in-Some.is)) c.self.invariant.ranges.few_replies)

pub invariant_of-self-2 : goal.invariant_of-self-2
invariant_of-self-2 c =
    let s = c.self.inside in
    let e = c.in-Some.e in
    let f = c.finish_word-end.ensures in
    record {
      ranges = c.self.invariant.ranges;
      sound = rw (c.fill_live.ensures.filled, f.registers, c.in-Some.ensures.taken, f.live, f.keep, f.last, c.answer_all.ensures, f.send)
          (IsSound-processed s.sizes _ c.self.invariant.sound _ e (Taken-from s.stack _ e (sym c.remove.ensures.value ∙ c.in-Some.is)) _);
      limit = c.self.invariant.limit;
    }

pub returns : goal.returns
returns c =
    let s = c.self.inside in
    let e = c.in-Some.e in
    let some = sym c.remove.ensures.value ∙ c.in-Some.is in
    let f = c.finish_word-end.ensures in
    rw (
      c.fill_live.ensures.filled,
      f.registers,
      c.in-Some.ensures.taken,
      c.answer_all.ensures,
      f.send,
      f.live,
      f.keep,
      f.last,
      ← c.self.view_is,
    ) (makes s.sizes _ c.self.invariant.sound _ _ _ _ (processes _ _ e some) _ (shown_after s.sizes _ c.self.invariant.sound _ e
    (Taken-from s.stack _ e some)))

pub returns-in_default : goal.returns-in_default
unfolding process_step
returns-in_default c = record {
  sound = rw (← c.self.view_is) c.self.invariant.sound;
  answer = search rules;
  unit = search rules;
}
