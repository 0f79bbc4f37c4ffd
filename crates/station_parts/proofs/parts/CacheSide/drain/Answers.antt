use Rattle.std.proofs.Common.{append-nil, ◌∙◌, refl, ap, arith}
use Rattle.std.proofs.Math.Logic.{∥∥₁_map}
use Rattle.flat_model.specs.declared.Event.TheVariants as events
use Rattle.cache_law.specs.declared.Sizes.{Sizes}
use Rattle.station_journal.specs.declared.journal.Source.TheVariants as sources
use Rattle.station_journal.proofs.Sides.{side_drain, side_looked}
use Rattle.station_parts.specs.Rows.{free_at}
use Rattle.station_parts.specs.SideState.{state_of}
use Rattle.station_parts.specs.SideSteps.{no_words}
use Rattle.station_parts.proofs.SideMakes.{idles, steps}
use Rattle.station_parts.proofs.Porting.{ports_silent, behind}
use Rattle.station_parts.proofs.parts.CacheSide.drain.Goals as goal

pub nonzero_rem-front : goal.nonzero_rem-front
nonzero_rem-front c =
    omega (arith, ap (λ (z : Sizes). z.banks) c.args.self.now.shaped)

pub invariant_of-self-clause-tells : goal.invariant_of-self-clause-tells
invariant_of-self-clause-tells c = ∥∥₁_map c.args.self.now.tells (side_looked _ _ _ _ _ _ c.look.ensures.looks.sent)

pub invariant_of-self-clause-counted : goal.invariant_of-self-clause-counted
invariant_of-self-clause-counted c sound b = c.look.ensures.looks.kept.taken b ∙ c.args.self.now.counted sound b

pub invariant_of-self-2-clause-tells : goal.invariant_of-self-2-clause-tells
invariant_of-self-2-clause-tells c =
    let s = c.args.self.now in
    ∥∥₁_map s.tells (λ h. side_drain s.unit c.drain-answer.new.self _ _ _ _ _ _ _ _ _ (omega (arith, s.in_range.some_words))
    c.requires.sound h c.drain-answer.ensures.made.unit c.drain-answer.ensures.made.answer c.look.ensures.looks.sent
    c.drain-answer.ensures.lines.queued (behind _ _ _ _ c.push_reserved.ensures.items))

pub invariant_of-self-2-clause-counted : goal.invariant_of-self-2-clause-counted
invariant_of-self-2-clause-counted c sound b =
    c.drain-answer.ensures.lines.kept.taken b ∙ c.look.ensures.looks.kept.taken b ∙ c.args.self.now.counted sound b

pub invariant_of-self-2-clause-ports : goal.invariant_of-self-2-clause-ports
invariant_of-self-2-clause-ports c = ports_silent _ _ _ _ _ _ _ c.args.self.now.ports refl (λ p. refl) (λ p. refl)
    (behind _ _ _ _ c.push_reserved.ensures.items)

-- ---- what the step makes

pub returns-in_default-clause-makes : goal.returns-in_default-clause-makes
returns-in_default-clause-makes c =
    idles sources.Drain _ _ (grind (arith, append-nil)) (grind (arith, c.queue_entry.ensures))

pub returns-then-look-eq0-clause-makes : goal.returns-then-look-eq0-clause-makes
returns-then-look-eq0-clause-makes c =
    idles sources.Drain _ _ (grind (arith, append-nil)) (grind (arith, c.queue_entry.ensures))

pub returns-clause-makes : goal.returns-clause-makes
returns-clause-makes c =
    let s = state_of c.args.self.now in
    let free = free_at c.look.new.self.lines.items in
    steps sources.Drain s _ (record s.known { command_places = free }) (grind (arith, append-nil)) events.Drain
    _ no_words c.requires.sound (grind (arith, c.queue_entry.ensures)) refl (grind (arith, append-nil))
    ((c.each_step_makes_forms.ensures s.sizes s.cache c.drain-answer.ensures.made.sound).drain free)
