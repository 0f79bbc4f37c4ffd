use Rattle.std.proofs.Common.{sym, ◌∙◌, refl, ◌≡◌, nat_le, length, true, false, arith}
use Rattle.std.proofs.lemmas.Bool.{false≢true, lt-leb}
use Rattle.input_stack.specs.declared.Entry.{Entry}
use Rattle.cache_law.proofs.Present.{stray-shown, arrived-shown, IsSound-arrived}
use Rattle.cache_unit.proofs.Calls.{arrive_by}
use Rattle.cache_unit.proofs.Calls.{makes}
use Rattle.cache_unit.proofs.unit.ShapedUnit.arrive.Goals as goal

pub invariant_of-self : goal.invariant_of-self
invariant_of-self c =
    let s = c.self.inside in
    let e : Entry = record { slot = c.args.slot; i = c.args.i; word = c.args.word } in
    record {
      ranges = c.self.invariant.ranges;
      sound = rw (c.mark_in_stack.ensures.registers, c.in-Ok.ensures.ok)
          (IsSound-arrived s.sizes _ e c.self.invariant.sound (sym c.expects.ensures.answer ∙ c.if-not-expects.false));
      limit = c.self.invariant.limit;
    }

pub returns-then-not-expects : goal.returns-then-not-expects
returns-then-not-expects c =
    let s = c.self.inside in
    rw (← c.self.view_is) (makes s.sizes _ c.self.invariant.sound _ _ _ _ (arrive_by s.sizes _ _ _ _ true _ (sym (stray-shown s.sizes _ _ _
    c.self.invariant.sound) ∙ rw (← c.expects.ensures.answer, c.if-not-expects.true) refl) refl) _ refl)

pub returns-in-Ok : goal.returns-in-Ok
returns-in-Ok c =
    let s = c.self.inside in
    rw (c.mark_in_stack.ensures.registers, c.in-Ok.ensures.ok, ← c.self.view_is)
    (makes s.sizes _ c.self.invariant.sound _ _ _ _ (arrive_by s.sizes _ _ _ _ false false (sym (stray-shown s.sizes _ _ _
    c.self.invariant.sound) ∙ rw (← c.expects.ensures.answer, c.if-not-expects.false) refl) (lt-leb _ _ (c.in-Ok.ensures.variant.0
    refl))) _ (arrived-shown _ _ _ _))

pub returns-in-Err : goal.returns-in-Err
returns-in-Err c =
    let s = c.self.inside in
    let full : nat_le s.sizes.depth (length s.stack) ≡ true = grind (arith, c.in-Err.ensures.variant.1, false≢true) in
    rw (c.in-Err.ensures.err, ← c.self.view_is)
    (makes s.sizes _ c.self.invariant.sound _ _ _ _ (arrive_by s.sizes _ _ _ _ false true (sym (stray-shown s.sizes _ _ _
    c.self.invariant.sound) ∙ rw (← c.expects.ensures.answer, c.if-not-expects.false) refl) full) _ refl)
