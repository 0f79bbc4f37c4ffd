use Rattle.std.proofs.Common.{◌∙◌, Some, refl, sym, ap, arith, append-nil}
use Rattle.std.proofs.Math.Logic.{∥∥₁_map}
use Rattle.cache_law.specs.Steps.{take_step}
use Rattle.cache_law.proofs.Silent.{take_silent}
use Rattle.station_journal.specs.declared.journal.Source.TheVariants as sources
use Rattle.station_parts.specs.Rows.{room_at}
use Rattle.station_parts.specs.SideState.{state_of}
use Rattle.station_parts.specs.SideSteps.{no_words}
use Rattle.station_journal.proofs.Recording.{take_recorded}
use Rattle.station_journal.proofs.Sides.{silent_step}
use Rattle.station_parts.proofs.SideMakes.{idles, steps}
use Rattle.station_parts.proofs.Porting.{ports_step, ports_looked, behind}
use Rattle.station_parts.proofs.ReplySteps.{shown_taken, only_value}
use Rattle.station_parts.proofs.parts.CacheSide.reply.Goals as goal

pub invariant_of-self-clause-ports : goal.invariant_of-self-clause-ports
invariant_of-self-clause-ports c =
    ports_looked _ _ _ _ _ refl c.look_at.ensures.looks.rings c.args.self.now.ports (λ p. refl) c.look_at.ensures.looks.pushed

pub invariant_of-self-2-clause-tells : goal.invariant_of-self-2-clause-tells
invariant_of-self-2-clause-tells c =
    let place = c.args.place in
    let made = c.take-answer.ensures in
    ∥∥₁_map c.args.self.now.tells (λ h. silent_step _ _ _ _ _ _ _ _ _ (λ k. take_step k place) _
    c.requires.sound h (λ come s. take_recorded _ _ s place) (take_silent _ place) made.unit made.answer
    (behind _ _ _ _ c.push_reserved.ensures.items))

pub invariant_of-self-2-clause-ports : goal.invariant_of-self-2-clause-ports
invariant_of-self-2-clause-ports c =
    let s = c.args.self.now in
    let v = c.in-Some-Value in
    let shown = shown_taken s.unit.cache c.args.place v.tag v.word (sym c.reply.ensures ∙ v.is ∙ ap Some v.field-0-is) in
    let told = only_value c.args.place v.tag c.from-port.result v.word c.take-answer.result _ c.from-port.ensures
    (c.take-answer.ensures.answer ∙ shown) c.value_told.ensures in
    ports_step _ _ _ _ _ _ _ refl (c.push_at.ensures.rings ∙ c.look_at.ensures.looks.rings) s.ports (grind arith)
    (λ p. grind (arith, append-nil))
    (λ p. grind (arith, told p, c.push_at.ensures.pushed p, c.look_at.ensures.looks.pushed p))
    (behind _ _ _ _ c.push_reserved.ensures.items)

-- ---- what the step makes

pub returns-in_default-2-clause-makes : goal.returns-in_default-2-clause-makes
returns-in_default-2-clause-makes c =
    idles _ _ _ (grind (arith, append-nil)) (grind (arith, c.reply.ensures))

pub returns-then-look_at-eq0-clause-makes : goal.returns-then-look_at-eq0-clause-makes
returns-then-look_at-eq0-clause-makes c =
    let value = sym c.reply.ensures ∙ c.in-Some-Value.is ∙ ap Some c.in-Some-Value.field-0-is in
    idles _ _ _ (grind (arith, append-nil)) (grind (arith, value))

pub returns-clause-makes : goal.returns-clause-makes
returns-clause-makes c =
    let s = state_of c.args.self.now in
    let place = c.args.place in
    let v = c.in-Some-Value in
    let value = sym c.reply.ensures ∙ v.is ∙ ap Some v.field-0-is in
    let told = only_value place v.tag c.from-port.result v.word _ _ c.from-port.ensures
    (shown_taken s.cache place v.tag v.word value) c.value_told.ensures in
    steps _ s _ (record s.known { telling_places = (room_at c.look_at.new.ends.items) }) (grind (arith, append-nil)) _
    _ no_words c.requires.sound (grind (arith, value)) refl (grind (arith, append-nil, take_silent s.cache place, told))
    ((c.each_step_makes_forms.ensures s.sizes s.cache c.take-answer.ensures.sound).take place)
