use Rattle.std.proofs.Common.{◌≡◌, ◌<◌, ℕ, length, set, ap, sym, ◌∙◌, arith}
use Rattle.std.proofs.lemmas.Bool.{lt-leb}
use Rattle.flat_model.specs.declared.Word.{Word}
use Rattle.flat_model.specs.declared.Lanes.{Lanes}
use Rattle.miss_registers.specs.declared.TheConstants.{MAX_WAITING}
use Rattle.miss_registers.specs.declared.Owed.{Owed}
use Rattle.cache_unit.specs.View.{cache_of}
use Rattle.cache_law.specs.declared.Reply.{Reply}
use Rattle.cache_law.specs.State.{Cache, cell_of}
use Rattle.cache_law.specs.Causes.{Found, Here, Coming, targets_full}
use Rattle.cache_law.specs.Steps.{loaded}
use Rattle.cache_unit.specs.Findings.{finding_of}
use Rattle.cache_law.specs.Requests.{load_present}
use Rattle.cache_law.proofs.Fetching.{IsSound-ready}
use Rattle.cache_unit.proofs.Calls.{made}
use Rattle.cache_law.proofs.Tags.{length-tags, owes-added, owing-push, owing-awaited, not_waiting}
use Rattle.cache_law.proofs.Present.{can_await, IsSound-awaited}
use Rattle.cache_unit.proofs.Findings.{is_coming}
use Rattle.miss_registers.specs.Registers as regs
use Rattle.cache_unit.specs.declared.unit.present.Finding.TheVariants as finding
use Rattle.cache_unit.proofs.unit.ShapedUnit.load_present.Goals as goal

pub invariant_of-self : goal.invariant_of-self
invariant_of-self c =
    let s = c.self.inside in
    let now = cache_of s in
    let r : Reply = record { tag = c.args.tag; word = c.in-Here.word } in
    record {
      ranges = c.self.invariant.ranges;
      sound = rw c.push.ensures.items (IsSound-ready s.sizes now _ (owes-added s.sizes now s.registers _ _ c.self.invariant.sound
          (rw (sym c.self.view_is) at c.requires.new_tag) (rw (sym c.self.view_is) at c.requires.replies) (λ p. owing-push p s.ready.items
          s.registers r)) c.self.invariant.sound);
      limit = c.self.invariant.limit;
    }

pub await_word-requires : goal.await_word-requires
await_word-requires c =
    let s = c.self.inside in
    let now = cache_of s in
    let new_tag = rw (sym c.self.view_is) at c.requires.new_tag in
    let room = rw (sym c.self.view_is) at c.requires.replies in
    let said = rw (sym c.self.view_is) at (sym c.find_word.ensures ∙ c.in-Coming.is) in
    let there = rw (sym c.self.view_is) at c.requires.word in
    let coming = is_coming now _ _ c.in-Coming.slot c.in-Coming.held c.in-Coming.code c.in-Coming.waiting said in
    let can = can_await s.sizes now c.self.invariant.sound _ _ c.in-Coming.slot there coming.coming in
    let tag = not_waiting now _ c.self.invariant.sound.registers new_tag in
    let owed = length-tags now c.self.invariant.sound.registers in
    let few : length (regs.field_at s.registers c.in-Coming.slot c.args.i).waiting < MAX_WAITING = omega (arith, coming.waiting_is) in
    record { slot = can.slot_there; live = can.live; expected = can.expected; room = few; few = grind arith; new_tag = tag }

pub invariant_of-self-in-Coming : goal.invariant_of-self-in-Coming
invariant_of-self-in-Coming c =
    let s = c.self.inside in
    let now = cache_of s in
    let coming = is_coming now _ _ c.in-Coming.slot c.in-Coming.held c.in-Coming.code c.in-Coming.waiting
    (rw (sym c.self.view_is) at (sym c.find_word.ensures ∙ c.in-Coming.is)) in
    let can = can_await s.sizes now c.self.invariant.sound _ _ c.in-Coming.slot (rw (sym c.self.view_is) at c.requires.word)
    coming.coming in
    let o : Owed = record { tag = c.args.tag; held = c.in-Coming.held; lanes = c.in-Coming.code } in
    record {
      ranges = c.self.invariant.ranges;
      sound = rw c.await_word.ensures.registers
          (IsSound-awaited s.sizes now c.in-Coming.slot _ o can.slot_there can.live can.expected (omega (arith, coming.waiting_is))
          (not_waiting now _ c.self.invariant.sound.registers (rw (sym c.self.view_is) at c.requires.new_tag)) (owes-added s.sizes now (set
          s.registers c.in-Coming.slot _) s.ready.items _ c.self.invariant.sound (rw (sym c.self.view_is) at c.requires.new_tag) (rw
          (sym c.self.view_is) at c.requires.replies) (λ p. owing-awaited p s.ready.items s.registers c.in-Coming.slot _ o
          can.slot_there can.there)) c.self.invariant.sound);
      limit = c.self.invariant.limit;
    }

-- a word that is said to be at hand is
here_from : (c : Cache) (block i : ℕ) (x : Found) (w : Word) → finding_of c block i x ≡ finding.Here w → x ≡ Here w
here_from c block i (Here v) w e = cc
here_from c block i (Coming slot) w e = cc

pub returns-in-Here-clause-unit : goal.returns-in-Here-clause-unit
returns-in-Here-clause-unit c =
    let s = c.self.inside in
    let now = cache_of s in
    let here = here_from now _ _ _ c.in-Here.word (rw (sym c.self.view_is) at (sym c.find_word.ensures ∙ c.in-Here.is)) in
    rw (c.push.ensures.items, ← c.self.view_is) (ap (made s.sizes) (ap (loaded now _ _ ((cell_of now _ _).word)) (sym here) ∙ ap
    (load_present now _ _ _) (sym (ap (targets_full now _) here))))

pub returns-else-waiting-clause-unit : goal.returns-else-waiting-clause-unit
returns-else-waiting-clause-unit c =
    let s = c.self.inside in
    let now = cache_of s in
    let coming = is_coming now _ _ c.in-Coming.slot c.in-Coming.held c.in-Coming.code c.in-Coming.waiting
    (rw (sym c.self.view_is) at (sym c.find_word.ensures ∙ c.in-Coming.is)) in
    let few : length (regs.field_at s.registers c.in-Coming.slot c.args.i).waiting < MAX_WAITING = omega (arith, coming.waiting_is) in
    let buffer = (cell_of now _ _).word in
    let waiting : Word → Lanes → Cache = λ h m. record now {
      registers = set s.registers c.in-Coming.slot
          (regs.awaited (regs.register_at s.registers c.in-Coming.slot) c.args.i (record { tag = c.args.tag; held = h; lanes = m }));
    } in
    rw (c.await_word.ensures.registers, ← c.self.view_is) (ap (made s.sizes) (ap (λ h. waiting h c.in-Coming.code) coming.held_is ∙ ap
    (waiting _) coming.code_is ∙ ap (loaded now _ _ buffer) (sym coming.coming) ∙ ap
    (load_present now _ _ _) (sym (ap (targets_full now c.args.i) coming.coming ∙ lt-leb MAX_WAITING _ few))))
