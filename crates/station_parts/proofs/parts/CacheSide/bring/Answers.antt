use Rattle.std.proofs.Common.{◌<◌, length, refl, sym, ap, ◌∙◌, arith, append-nil}
use Rattle.std.proofs.Math.Bool.{and-false}
use Rattle.std.proofs.Math.Logic.{∥∥₁_map}
use Rattle.std.proofs.lemmas.Bool.{ltb-true}
use Rattle.flat_model.specs.declared.Answer.TheVariants.{Moved}
use Rattle.cache_law.specs.declared.Sizes.{Sizes}
use Rattle.cache_law.specs.State.{UnitState}
use Rattle.station_journal.specs.declared.journal.Source.TheVariants as sources
use Rattle.station_journal.proofs.Bringing.{none_popped, side_stray, side_word, counts}
use Rattle.station_journal.proofs.Sourcing.{word_is_of}
use Rattle.station_parts.specs.SideState.{state_of}
use Rattle.station_parts.specs.SideSteps.{arrives}
use Rattle.station_parts.proofs.Rows.{only-here}
use Rattle.station_parts.proofs.WordFaults as word
use Rattle.station_parts.proofs.SideMakes.{idles, steps, popped_none, words_looked}
use Rattle.station_parts.proofs.Porting.{ports_silent, behind}
use Rattle.station_parts.proofs.parts.CacheSide.bring.Goals as goal

pub invariant_of-self-clause-tells : goal.invariant_of-self-clause-tells
invariant_of-self-clause-tells c =
    ∥∥₁_map c.args.self.now.tells (none_popped _ _ _ _ _ _ (popped_none _ _ _ c.in_default.ensures.pops))

pub invariant_of-self-clause-counted : goal.invariant_of-self-clause-counted
invariant_of-self-clause-counted c sound b =
    c.args.self.now.counted sound b ∙ ap length (sym (popped_none _ _ _ c.in_default.ensures.pops b))

pub invariant_of-self-then-not-is_called-clause-tells : goal.invariant_of-self-then-not-is_called-clause-tells
invariant_of-self-then-not-is_called-clause-tells c =
    word.tells_uncalled c.args.self.now _ _ _ c.in-Some.ensures.pops c.requires.sound (sym c.is_called.ensures ∙ c.if-not-is_called.true)

pub invariant_of-self-in_default-arrive-clause-tells : goal.invariant_of-self-in_default-arrive-clause-tells
invariant_of-self-in_default-arrive-clause-tells c =
    let s = c.args.self.now in
    let no_register = word.refused_here s _ _ _ c.in-Some.ensures.pops
    (omega (arith, c.stack_len.ensures, ap (λ (z : Sizes). z.depth) s.shaped))
    (λ e. c.in_default-arrive.not-Moved (c.arrive.ensures.answer ∙ e)) in
    ∥∥₁_map (word.tells_stray s _ _ _ c.in-Some.ensures.pops c.requires.sound (sym c.is_called.ensures ∙ c.if-not-is_called.false)
    no_register.cause) (side_stray s.unit _ _ _ _ _ _ no_register c.arrive.ensures.unit)

pub invariant_of-self-2-clause-tells : goal.invariant_of-self-2-clause-tells
invariant_of-self-2-clause-tells c =
    let s = c.args.self.now in
    let pops = c.in-Some.ensures.pops in
    let due = ltb-true _ _ (word.awaited s _ _ _ pops c.requires.sound (sym c.is_called.ensures ∙ c.if-not-is_called.false)) in
    ∥∥₁_map s.tells (side_word s.unit _ _ _ _ _ s.fault _ _ _ c.in-Some.word Moved c.requires.sound (word.in_banks s _ _ _ pops) due
    (word.more s _ _ _ pops) (word.others s _ _ _ pops) c.note_word.ensures.sent (sym c.in-Moved.is ∙ c.arrive.ensures.answer) refl
    c.in-Moved.ensures.unit
    (behind _ _ _ _ c.push_reserved.ensures.items))

pub invariant_of-self-2-clause-counted : goal.invariant_of-self-2-clause-counted
invariant_of-self-2-clause-counted c sound =
    let s = c.args.self.now in
    let pops = c.in-Some.ensures.pops in
    counts _ _ _ _ _ c.in-Some.word (s.counted sound) (word.more s _ _ _ pops) (word.others s _ _ _ pops)
    c.note_word.ensures.here c.note_word.ensures.others

pub invariant_of-self-2-clause-ports : goal.invariant_of-self-2-clause-ports
invariant_of-self-2-clause-ports c =
    let s = c.args.self.now in
    ports_silent _ _ _ _ _ _ _ s.ports (word_is_of (length s.asks.items) _) (λ p. refl) (λ p. refl)
    (behind _ _ _ _ c.push_reserved.ensures.items)

-- ---- what the step makes

pub is_called-requires : goal.is_called-requires
is_called-requires c =
    grind (arith, word.in_banks c.args.self.now _ _ _ c.in-Some.ensures.pops)

pub note_word-requires-clause-there : goal.note_word-requires-clause-there
note_word-requires-clause-there c =
    grind (arith, word.in_banks c.args.self.now _ _ _ c.in-Some.ensures.pops)

pub returns-then-stack_len-self-clause-makes : goal.returns-then-stack_len-self-clause-makes
returns-then-stack_len-self-clause-makes c =
    idles _ _ _ (grind (arith, append-nil))
    (grind (arith, c.stack_len.ensures, ap (λ (z : Sizes). z.depth) c.args.self.now.shaped))

pub returns-in_default-clause-makes : goal.returns-in_default-clause-makes
returns-in_default-clause-makes c =
    idles _ _ _ (words_looked c.args.self.now _ _ c.in_default.ensures.pops)
    (grind (arith, c.in_default.ensures.none, and-false))

pub returns-then-not-is_called-clause-makes : goal.returns-then-not-is_called-clause-makes
returns-then-not-is_called-clause-makes c =
    let s = c.args.self.now in
    let pops = c.in-Some.ensures.pops in
    word.loses s _ _ _ pops _ s.unit (omega (arith, c.stack_len.ensures, ap (λ (z : Sizes). z.depth) c.args.self.now.shaped))
    (word.fault-uncalled s _ _ _ pops c.requires.sound (sym c.is_called.ensures ∙ c.if-not-is_called.true)) refl

pub returns-in_default-arrive : goal.returns-in_default-arrive
returns-in_default-arrive c =
    let s = c.args.self.now in
    let a = c.in-Some.word in
    let pops = c.in-Some.ensures.pops in
    let room : length s.unit.cache.stack < s.unit.sizes.depth =
    omega (arith, c.stack_len.ensures, ap (λ (z : Sizes). z.depth) s.shaped) in
    let stray = word.refused_here s _ _ _ pops room (λ e. c.in_default-arrive.not-Moved (c.arrive.ensures.answer ∙ e)) in
    record {
      makes = word.loses s _ _ _ pops _ _ room
          (word.fault-stray s _ _ _ pops c.requires.sound (sym c.is_called.ensures ∙ c.if-not-is_called.false) stray.cause)
          (ap (λ (u : UnitState). u.cache) c.arrive.ensures.unit ∙ stray.same);
      same = grind arith;
    }

pub returns-clause-makes : goal.returns-clause-makes
returns-clause-makes c =
    let s = state_of c.args.self.now in
    let bank = c.args.bank in
    let a = c.in-Some.word in
    let pops = c.in-Some.ensures.pops in
    let unit = c.arrive.ensures in
    let none = word.fault-none c.args.self.now _ _ _ pops c.requires.sound (sym c.is_called.ensures ∙ c.if-not-is_called.false)
    (sym unit.answer ∙ c.in-Moved.is) in
    steps _ s _ _ (word.looks c.args.self.now _ _ _ pops) _
    _ _ c.requires.sound
    (word.works c.args.self.now _ _ _ pops (omega (arith, c.stack_len.ensures, ap (λ (z : Sizes). z.depth) c.args.self.now.shaped)))
    (word.work_is c.args.self.now _ _ _ pops ∙ ap (arrives s bank a) none)
    (grind (arith, append-nil, word.arrive_silent s.sizes s.cache a.slot a.i a.word))
    (rw (only-here bank _) ((c.each_step_makes_forms.ensures s.sizes s.cache unit.sound).arrive a.slot a.i a.word))
