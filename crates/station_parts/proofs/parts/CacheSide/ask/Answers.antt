use Rattle.std.proofs.Common.{ℕ, ◌+◌, ◌++◌, ◌∷◌, [], ◌∙◌, refl, sym, ap, subst, arith, append-nil}
use Rattle.std.proofs.Math.Bool.{and-false}
use Rattle.std.proofs.Math.Logic.{∥∥₁_map}
use Rattle.station_journal.specs.declared.journal.Source.TheVariants as sources
use Rattle.station_journal.specs.declared.journal.Entry.TheVariants.{Ended}
use Rattle.station_journal.specs.Parts.{IsVerdict, verdict}
use Rattle.station_parts.specs.declared.parts.Stepped.TheVariants.{Did}
use Rattle.station_parts.specs.Rows.{free_at, known_at, room_at, only}
use Rattle.station_parts.specs.Asking.{event_for, asked_step}
use Rattle.station_parts.specs.SideState.{state_of}
use Rattle.station_parts.specs.SideSteps.{no_words, nothing, asked}
use Rattle.station_journal.proofs.Sides.{side_step}
use Rattle.station_parts.proofs.Rows.{only-here}
use Rattle.station_parts.proofs.SideMakes.{idles, steps, acts, popped_none, there_popped, asks_looked, asked_forms}
use Rattle.station_parts.proofs.Porting.{ports_step, ports_looked, behind}
use Rattle.station_parts.proofs.AskSteps.{asked_recorded, asked_verdict, side_ended, only_asked, only_told}
use Rattle.station_parts.proofs.parts.CacheSide.ask.Goals as goal

pub invariant_of-self-clause-ports : goal.invariant_of-self-clause-ports
invariant_of-self-clause-ports c =
    ports_looked _ _ _ _ _ refl c.look_at.ensures.looks.rings c.args.self.now.ports (λ p. refl) c.look_at.ensures.looks.pushed

pub invariant_of-self-in_default-clause-ports : goal.invariant_of-self-in_default-clause-ports
invariant_of-self-in_default-clause-ports c =
    let pops = c.in_default.ensures.pops in
    ports_looked _ _ _ _ _ pops.rings c.look_at.ensures.looks.rings c.args.self.now.ports (popped_none _ _ _ pops)
    c.look_at.ensures.looks.pushed

pub invariant_of-self-in-Done-clause-tells : goal.invariant_of-self-in-Done-clause-tells
invariant_of-self-in-Done-clause-tells c =
    ∥∥₁_map c.args.self.now.tells (side_ended _ _ _ _ _ _ c.args.port (behind _ _ _ _ c.push_reserved.ensures.items))

pub invariant_of-self-in-Done-clause-ports : goal.invariant_of-self-in-Done-clause-ports
invariant_of-self-in-Done-clause-ports c =
    let pops = c.in-Some.ensures.pops in
    let there = there_popped _ _ _ _ pops in
    let looks = c.look_at.ensures.looks in
    ports_step _ _ _ _ _ _ (Ended c.args.port ∷ []) pops.rings looks.rings c.args.self.now.ports (grind (arith, there))
    (λ p. grind (arith, pops.popped p)) (λ p. grind (arith, append-nil, looks.pushed p)) (behind _ _ _ _ c.push_reserved.ensures.items)

pub verdict_of-requires : goal.verdict_of-requires
verdict_of-requires c =
    subst IsVerdict (sym c.answer_ask-answer.ensures.made.answer) (asked_verdict _ _ _ _ c.in-Some.ask c.in_default-ask.not-Done)

pub invariant_of-self-2-clause-tells : goal.invariant_of-self-2-clause-tells
invariant_of-self-2-clause-tells c =
    let made = c.answer_ask-answer.ensures in
    ∥∥₁_map c.args.self.now.tells (λ h. side_step _ _ _ _ _ _ _ _ _ _
    (λ k. asked_step c.args.self.now.unit.sizes (free_at c.look_all.new.self.lines.items) c.args.port k c.in-Some.ask) _
    c.requires.sound h (λ come s. rw c.event_for.ensures.event (asked_recorded _ _ s _ _ _ c.in_default-ask.not-Done))
    made.made.unit made.made.answer (λ b l. grind (arith, made.sent b, c.look_all.ensures.sent b))
    (behind _ _ _ _ c.push_reserved-2.ensures.items))

pub invariant_of-self-2-clause-counted : goal.invariant_of-self-2-clause-counted
invariant_of-self-2-clause-counted c sound b =
    c.answer_ask-answer.ensures.kept.taken b ∙ c.look_all.ensures.kept.taken b ∙ c.args.self.now.counted sound b

pub invariant_of-self-2-clause-ports : goal.invariant_of-self-2-clause-ports
invariant_of-self-2-clause-ports c =
    let pops = c.in-Some.ensures.pops in
    let answer = c.answer_ask-answer.result in
    let asked = only_asked c.args.port _ _ answer c.in_default-ask.not-Done c.event_for.ensures.event in
    let told = only_told c.args.port c.event_for.result answer _ c.verdict_of.ensures in
    ports_step _ _ _ _ _ _ _ pops.rings (c.push_at.ensures.rings ∙ c.look_at.ensures.looks.rings) c.args.self.now.ports
    (grind (arith, c.event_for.ensures.sourced _ (there_popped _ _ _ _ pops))) (λ p. grind (arith, asked p, pops.popped p))
    (λ p. grind (arith, told p, c.push_at.ensures.pushed p, c.look_at.ensures.looks.pushed p))
    (behind _ _ _ _ c.push_reserved-2.ensures.items)

-- ---- what the step makes

pub returns-then-look_at-eq0-clause-makes : goal.returns-then-look_at-eq0-clause-makes
returns-then-look_at-eq0-clause-makes c =
    idles _ _ _ (grind (arith, append-nil)) (grind (arith, c.look_at.ensures.room))

pub returns-in_default-clause-makes : goal.returns-in_default-clause-makes
returns-in_default-clause-makes c =
    idles _ _ _
    (asks_looked c.args.self.now _ _ _ c.in_default.ensures.pops c.look_at.ensures.looks)
    (grind (arith, c.in_default.ensures.none, and-false))

pub returns-in-Done-clause-makes : goal.returns-in-Done-clause-makes
returns-in-Done-clause-makes c =
    let s = state_of c.args.self.now in
    let port = c.args.port in
    let pops = c.in-Some.ensures.pops in
    let asks = λ (p : ℕ). only port (c.in-Some.ask ∷ []) p ++ known_at c.pop_at.new.ends.items p in
    let first = only-here port (c.in-Some.ask ∷ []) in
    acts (sources.Ask port) s _ (record s.known { asks = asks; telling_places = room_at c.look_at.new.ends.items })
    (grind (arith, append-nil, pops.known)) (record (nothing s) { entries = Ended port ∷ [] }) Did
    (grind (arith, first, c.look_at.ensures.room)) (grind (arith, first)) (grind arith) (grind (arith, append-nil)) tt

pub answer_ask-answer-requires : goal.answer_ask-answer-requires
answer_ask-answer-requires c =
    let there = there_popped _ _ _ _ c.in-Some.ensures.pops in
    record { few_ports = omega arith; not_done = c.in_default-ask.not-Done }

pub event_for-requires-clause-few_ports : goal.event_for-requires-clause-few_ports
event_for-requires-clause-few_ports c =
    omega (arith, c.args.self.now.few_ports, there_popped _ _ _ _ c.in-Some.ensures.pops)

pub returns-clause-makes : goal.returns-clause-makes
returns-clause-makes c =
    let s = state_of c.args.self.now in
    let port = c.args.port in
    let ask = c.in-Some.ask in
    let not_done = c.in_default-ask.not-Done in
    let free = free_at _ in
    let asks = λ (p : ℕ). only port (ask ∷ []) p ++ known_at c.pop_at.new.ends.items p in
    let first = only-here port (ask ∷ []) in
    let event = event_for port ask in
    let d = asked_step s.sizes free port s.cache ask in
    let made = c.answer_ask-answer.ensures.made in
    let told = only_told port event d.answer _ (ap verdict (sym made.answer) ∙ c.verdict_of.ensures) in
    steps _ s _
    (record s.known { asks = asks; telling_places = room_at c.look_at.new.ends.items; command_places = free })
    (grind (arith, append-nil, c.in-Some.ensures.pops.known)) event d no_words c.requires.sound
    (grind (arith, first, c.look_at.ensures.room)) (grind (arith, first))
    (grind (arith, append-nil, only_asked port ask event d.answer not_done refl, told))
    (asked_forms (c.each_step_makes_forms.ensures s.sizes s.cache made.sound) free port ask not_done)
