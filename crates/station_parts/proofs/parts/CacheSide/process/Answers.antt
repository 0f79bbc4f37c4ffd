use Rattle.std.proofs.Common.{refl, arith, append-nil, eq-eqb}
use Rattle.std.proofs.lemmas.Bool.{lt-ltb, le-ltb}
use Rattle.std.proofs.Math.Logic.{∥∥₁_map}
use Rattle.cache_law.proofs.Silent.{process_silent}
use Rattle.station_journal.proofs.Sides.{side_process}
use Rattle.station_parts.specs.SideState.{state_of}
use Rattle.station_parts.specs.SideSteps.{no_words}
use Rattle.station_parts.proofs.SideMakes.{idles, steps}
use Rattle.station_parts.proofs.Porting.{ports_silent, behind}
use Rattle.station_parts.proofs.parts.CacheSide.process.Goals as goal

pub invariant_of-self-clause-tells : goal.invariant_of-self-clause-tells
invariant_of-self-clause-tells c =
    ∥∥₁_map c.args.self.now.tells (λ h. side_process _ _ _ _ _ _ _ _ _ c.requires.sound h c.process-answer.ensures.unit
    c.process-answer.ensures.answer (behind _ _ _ _ c.push_reserved.ensures.items))

pub invariant_of-self-clause-ports : goal.invariant_of-self-clause-ports
invariant_of-self-clause-ports c =
    ports_silent _ _ _ _ _ _ _ c.args.self.now.ports (eq-eqb c.args.place _ refl) (λ p. refl) (λ p. refl)
    (behind _ _ _ _ c.push_reserved.ensures.items)

pub returns-then-place-stack_len-clause-makes : goal.returns-then-place-stack_len-clause-makes
returns-then-place-stack_len-clause-makes c =
    idles _ _ _ (grind (arith, append-nil)) (le-ltb _ _ (omega (arith, c.stack_len.ensures)))

pub returns-clause-makes : goal.returns-clause-makes
returns-clause-makes c =
    let s = state_of c.args.self.now in
    steps _ s _ s.known (grind (arith, append-nil)) _ _ no_words
    c.requires.sound (lt-ltb _ _ (omega (arith, c.stack_len.ensures))) refl (grind (arith, append-nil, process_silent s.cache c.args.place))
    ((c.each_step_makes_forms.ensures s.sizes s.cache c.process-answer.ensures.sound).process _)
