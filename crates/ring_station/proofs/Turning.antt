-- What one turn makes of a part, and the runs of ports and banks from their first turn to their last.
use Rattle.std.proofs.Common.{◌≡◌, ℕ, ◌+◌, ◌-◌, ◌≤◌, Bool, true, false, cond, List, [], ◌∷◌, ◌++◌, length, refl, sym, ap, ◌∙◌, arith}
use Rattle.std.proofs.Common.{append-nil, length-append, zero-add, ⊎_elim}
use Rattle.std.specs.Prelude.{Option, Some, None, IfSome, IfNone}
use Rattle.std.specs.List.{All}
use Rattle.std.proofs.lemmas.Bool.{leb-true}
use Rattle.station_journal.specs.declared.asks.Ask.{Ask}
use Rattle.station_journal.specs.declared.asks.Ask.TheVariants.{Done}
use Rattle.station_journal.specs.declared.journal.Source.{Source}
use Rattle.station_journal.specs.declared.journal.Entry.{Entry}
use Rattle.station_journal.specs.declared.journal.Entry.TheVariants.{Step, Ended}
use Rattle.station_journal.specs.declared.journal.SideFault.{SideFault}
use Rattle.memory_banks.specs.declared.BankAnswer.{BankAnswer}
use Rattle.station_parts.specs.declared.bank.BankSide.{BankSide}
use Rattle.station_parts.specs.declared.parts.CacheSide.{CacheSide}
use Rattle.station_parts.specs.declared.parts.Stepped.{Stepped}
use Rattle.station_parts.specs.declared.parts.Stepped.TheVariants.{Idle, JournalFull, Faulted}
use Rattle.station_parts.specs.SideState.{SideState, Known, OnlyLooks, state_of}
use Rattle.station_parts.specs.SideSteps.{Effect, asked, arrives, brought, work_of, nothing, effect_of, refusal_of, answer_of}
use Rattle.station_parts.specs.SideSteps.{StepMakes, SideSteps}
use Rattle.station_parts.specs.Serving.{BankSteps}
use Rattle.station_parts.specs.Words.{earlier_of, held_of, journal_limit, received_by}
use Rattle.ring_station.specs.Turns.{IsTurn, IsStuck, bank_turn}
use Rattle.ring_station.specs.Round.{TurnsRound}
use Rattle.ring_station.specs.Idle.{turn_of}
use Rattle.ring_station.specs.declared.crew.BankRun.{BankRun}
use Rattle.ring_station.specs.declared.round.Round.{Round}
use Rattle.ring_station.specs.declared.thread_end.ThreadEnd.{ThreadEnd}
use Rattle.ring_station.specs.declared.thread_end.ThreadFault.{ThreadFault}
use Rattle.ring_station.specs.Ends.{Stands, goes_on, not_begun, HasEnded}
use Rattle.ring_station.specs.Crew.{EachServed, EachServesOn, HasNotBegun, HasCome}
use Rattle.ring_station.specs.PartRuns.{ends_at, ended_in, BankRan}
use Rattle.station_journal.specs.declared.asks.Told.{Told}
use Rattle.station_parts.specs.declared.port.Port.{Port}
use Rattle.ring_station.specs.declared.thread_end.ThreadFault.TheVariants.{TurnLimit, OutOfMemory}
use Rattle.ring_station.specs.declared.crew.PortRun.{PortRun}
use Rattle.ring_station.specs.PortRuns.{IsOnItsWay, PortRan}
use Rattle.station_journal.specs.declared.journal.Source.TheVariants as sources

-- ---- the run of a port before its first turn

pub come_at_first : (script : List Ask) (run : PortRun) → HasNotBegun run → HasCome script 0 run.port run
come_at_first script run h =
    let on : IsOnItsWay script run.talk run.port run.port run.list.items = grind (arith, append-nil) in
    record {
      ran = rw h.end (record {
        same = refl;
        before = refl;
        took = on.taken_is;
        moved = omega arith;
        ended = record { within = omega arith; stands = refl };
      });
      ready = record { owed = omega (arith, h.owed); placed = λ w. cc };
      on = λ goes. on;
    }

-- ---- a thread's end, of what follows of what it did, and with more turns if it is over

stands_along : (A B memory full full' : Type 0) (turn turns begun : ℕ) (fault : Option ThreadFault)
    → (goes_on fault ≡ true → turn ≡ turns) → (A → B) → (full → full') → Stands A memory full turn begun fault
    → Stands B memory full' turns begun fault
stands_along A B memory full full' turn turns begun None same f g h = (h.0, f h.1)
stands_along A B memory full full' turn turns begun (Some TurnLimit) same f g h = h ∙ same refl
stands_along A B memory full full' turn turns begun (Some OutOfMemory) same f g h = h
stands_along A B memory full full' turn turns begun (Some fault) same f g h = g h

pub ended_along : {A B memory full full' : Type 0} {turn turns : ℕ} {end : ThreadEnd} → turn ≤ turns
    → (goes_on end.fault ≡ true → turn ≡ turns) → (A → B) → (full → full') → HasEnded A memory full turn end
    → HasEnded B memory full' turns end
ended_along {A} {B} {memory} {full} {full'} {turn} {turns} {end} more same f g h = record {
  within = omega (arith, h.within);
  stands = stands_along A B memory full full' turn turns end.turns end.fault same f g h.stands;
}

pub ran_longer : {script : List Ask} {turn turns : ℕ} {old new : Port} {list : List Told} {end : ThreadEnd} → turn ≤ turns
    → goes_on end.fault ≡ false → PortRan script turn old new list end → PortRan script turns old new list end
ran_longer more over h = record {
  same = h.same;
  before = h.before;
  took = h.took;
  moved = h.moved;
  ended = ended_along more (λ on. absurd (cc)) (λ x. x) (λ x. x) h.ended;
}

-- ---- a step of the cache side notes at most one entry

one : 1 ≤ 1
one = omega arith

none : 0 ≤ 1
none = omega arith

asked_few : (s : SideState) (k : Known) (port : ℕ) (asks : List Ask) → length (asked s k port asks).entries ≤ 1
asked_few s k port [] = none
asked_few s k port (Done ∷ rest) = one
asked_few s k port (ask ∷ rest) = one

arrives_few : (s : SideState) (bank : ℕ) (a : BankAnswer) (fault : Option SideFault) → length (arrives s bank a fault).entries ≤ 1
arrives_few s bank a None = one
arrives_few s bank a (Some fault) = none

brought_few : (s : SideState) (bank : ℕ) (words : List BankAnswer) → length (brought s bank words).entries ≤ 1
brought_few s bank [] = none
brought_few s bank (a ∷ rest) = arrives_few s bank a _

work_few : (source : Source) (s : SideState) (k : Known) → length (work_of source s k).entries ≤ 1
work_few (sources.Ask port) s k = asked_few s k port _
work_few (sources.Word bank) s k = brought_few s bank _
work_few source s k = one

either_few : (b : Bool) (x y : Effect) → length x.entries ≤ 1 → length y.entries ≤ 1 → length (cond b x y).entries ≤ 1
either_few true x y p q = p
either_few false x y p q = q

effect_few : (source : Source) (s : SideState) (k : Known) → length (effect_of source s k).entries ≤ 1
effect_few source s k = either_few _ (work_of source s k) (nothing s) (work_few source s k) none

-- how many ports an entry that is new ends
counted_one : (es : List Entry) → length es ≤ 1 → ended_in es ≡ cond (ends_at es 0) 1 0
counted_one [] few = refl
counted_one (Ended port ∷ []) few = refl
counted_one (Step source event answer ∷ []) few = refl
counted_one (e ∷ f ∷ es) few = absurd (omega arith)

counted : (old es : List Entry) → length es ≤ 1 → ended_in (old ++ es) ≡ ended_in old + cond (ends_at (old ++ es) (length old)) 1 0
counted [] es few = counted_one es few ∙ sym (zero-add _)
counted (Ended port ∷ old) es few = omega (arith, counted old es few)
counted (Step source event answer ∷ old) es few = counted old es few

-- one entry at most is new in the journal, and ends a port or none
pub record Notes (old new : CacheSide) : Type 0 where
  pub earlier : earlier_of new ≡ earlier_of old
  pub few : length (held_of new) ≤ length (held_of old) + 1
  pub ended : ended_in (held_of new) ≡ ended_in (held_of old) + cond (ends_at (held_of new) (length (held_of old))) 1 0

notes : (old new : CacheSide) (entries : List Entry) → earlier_of new ≡ earlier_of old
    → held_of new ≡ held_of old ++ entries → length entries ≤ 1 → Notes old new
notes old new entries earlier held few = record {
  earlier = earlier;
  few = omega (arith, ap length held, length-append (held_of old) entries);
  ended = rw held (counted (held_of old) entries few);
}

notes_nothing : (old looked new : CacheSide) → OnlyLooks (state_of old) (state_of looked) → new ≡ looked
    → Notes old new
notes_nothing old looked new looks same = rw same (notes old looked [] looks.earlier (looks.held ∙ sym (append-nil _)) none)

step_notes : (source : Source) (old looked new : CacheSide) (stepped : Stepped) (refusal : Option Stepped)
    → OnlyLooks (state_of old) (state_of looked) → IfSome refusal (λ r. (stepped ≡ r) × (new ≡ looked))
    → IfNone refusal (StepMakes source (state_of looked) (state_of new) stepped) → Notes old new
step_notes source old looked new stepped (Some r) looks refused makes = notes_nothing old looked new looks refused.1
step_notes source old looked new stepped None looks refused makes =
    let made = makes.makes in
    notes old new _ (made.earlier ∙ looks.earlier) (rw (← looks.held) made.held) (effect_few source (state_of looked) makes.looked)

turn_notes : (source : Source) (may : Bool) (old looked new : CacheSide) (result : Option Stepped)
    → OnlyLooks (state_of old) (state_of looked) → IsTurn (SideSteps source) may looked new result → Notes old new
turn_notes source false old looked new None looks h = notes_nothing old looked new looks h
turn_notes source true old looked new (Some stepped) looks h =
    step_notes source old looked new stepped _ looks h.refused h.makes
turn_notes source may old looked new result looks h = absurd h

pub round_notes : {may : Bool} {r s : Round} {old new : CacheSide} {stepped : Option Stepped}
    → TurnsRound may r s old new stepped → Notes old new
round_notes {may = may} {old = old} {new = new} {stepped = stepped} h =
    turn_notes _ may old h.looked new stepped h.looks h.turn

open_after : (ended : Bool) (still still' first now now' : ℕ) → still' ≡ cond ended (still - 1) still → now' ≡ now + cond ended 1 0
    → first ≤ now + still → first ≤ now' + still'
open_after true still still' first now now' o n h = omega arith
open_after false still still' first now now' o n h = omega arith

-- so many ports are still to end
pub ended_more : {place still' first : ℕ} {old new : CacheSide} (ended : Bool) (still : ℕ) → Notes old new
    → place ≡ length (held_of old) → ended ≡ ends_at (held_of new) place → still' ≡ cond ended (still - 1) still
    → first ≤ ended_in (held_of old) + still → first ≤ ended_in (held_of new) + still'
ended_more {still' = still'} {first = first} {old = old} {new = new} ended still h at is o before =
    open_after ended still still' first _ _ o (rw (is, at) h.ended) before

-- ---- a step of a bank serves at most one command

step_serves : (old new : BankSide) (stepped : Stepped) → BankSteps old new stepped
    → length (received_by new) ≤ length (received_by old) + 1
step_serves old new stepped h = ⊎_elim
    (λ did. let one = h.did did in omega (arith, ap length one.received, length-append (received_by old) (one.command ∷ [])))
    (λ idle. omega (arith, ap length (h.idle idle).received)) h.answer

pub turn_serves : (may : Bool) (old new : BankSide) (result : Option Stepped) → IsTurn BankSteps may old new result
    → length (received_by new) ≤ length (received_by old) + 1
turn_serves false old new None h = rw h (omega arith)
turn_serves true old new (Some stepped) h = step_serves old new stepped h
turn_serves may old new result h = absurd h

-- and one that finds none has finished
pub is_stuck : (may : Bool) (old new : BankSide) (result : Option Stepped) → IsTurn BankSteps may old new result
    → result ≡ Some Idle → IsStuck new
is_stuck true old new (Some Idle) h e = h.stuck refl
is_stuck false old new (Some stepped) h e = absurd h
is_stuck may old new result h e = cc

-- ---- the threads of banks

-- one that is over stands as it did if there are more turns
bank_stays_over : {turn turns : ℕ} {old new : BankSide} {end : ThreadEnd} → turn ≤ turns → goes_on end.fault ≡ false
    → BankRan turn old new end → BankRan turns old new end
bank_stays_over more over h = record {
  same = h.same;
  served = h.served;
  ended = ended_along more (λ on. absurd (cc)) (λ x. x) (λ x. x) h.ended;
}

-- ---- banks that have had so many turns: before the first, behind one more, and if all of them are over

pub served_at_first : (runs : List BankRun) → All (λ r. r.end ≡ not_begun) runs → EachServed 0 runs runs
served_at_first runs begun = record {
  number = refl;
  each = λ b d less.
      rw (begun b d less)
      (record { same = refl; served = omega arith; ended = record { within = omega arith; stands = refl } });
}

pub served_more : {turn : ℕ} {first old new : List BankRun} → EachServesOn turn old new → EachServed turn first old
    → EachServed (turn + 1) first new
served_more on h = record {
  number = on.number ∙ h.number;
  each = λ b d less. on.each b d (rw h.number less) _ (h.each b d less);
}

pub served_out : {turn turns : ℕ} {first new : List BankRun} → turn ≤ turns → All (λ r. goes_on r.end.fault ≡ false) new
    → EachServed turn first new → EachServed turns first new
served_out more over h = record {
  number = h.number;
  each = λ b d less. bank_stays_over more (over b d (rw h.number less)) (h.each b d less);
}

-- ---- what a turn of a bank comes to

pub bank_is_over : (is_done : Bool) (stepped : Option Stepped) → is_done ≡ true → stepped ≡ Some Idle → None ≡ bank_turn is_done stepped
bank_is_over is_done stepped done idle = rw (done, idle) refl

pub bank_is_not_over : (is_done : Bool) (stepped : Option Stepped) → (is_done ≡ true → stepped ≡ Some Idle → ⊥)
    → Some (turn_of stepped) ≡ bank_turn is_done stepped
bank_is_not_over true (Some Idle) on = absurd (on refl refl)
bank_is_not_over is_done stepped on = refl

-- ---- a step that is refused for a full journal found it full

never_full : (works : Bool) (fault : Option SideFault) → JournalFull ≡ answer_of works fault → ⊥
never_full true None e = cc
never_full works fault e = cc

full_by : (faulted full : Bool) (limit count : ℕ) → (full ≡ true → limit ≤ count)
    → cond faulted (Some Faulted) (cond full (Some JournalFull) None) ≡ Some JournalFull → limit ≤ count
full_by false true limit count h e = h refl
full_by faulted full limit count h e = absurd (cc)

full_step : (source : Source) (old new : CacheSide) (refusal : Option Stepped)
    → refusal_of (state_of old) ≡ refusal → IfSome refusal (λ r. (JournalFull ≡ r) × (new ≡ old))
    → IfNone refusal (StepMakes source (state_of old) (state_of new) JournalFull) → journal_limit new ≤ length (held_of new)
full_step source old new (Some r) is refused makes =
    rw refused.1 (full_by _ _ _ _
    (leb-true _ _) (is ∙ ap (λ x. Some x) (sym refused.0)))
full_step source old new None is refused makes =
    absurd (never_full _ (effect_of source _ makes.looked).fault makes.answer)

pub full_turn : (source : Source) (may : Bool) (old new : CacheSide) (result : Option Stepped)
    → IsTurn (SideSteps source) may old new result → result ≡ Some JournalFull → journal_limit new ≤ length (held_of new)
full_turn source true old new (Some JournalFull) h e = full_step source old new _ refl h.refused h.makes
full_turn source false old new (Some stepped) h e = absurd h
full_turn source may old new result h e = absurd (cc)
