-- What a verdict makes of a port's conversation.
use Rattle.std.proofs.Common.{◌≡◌, ℕ, ◌+◌, ◌<◌, ◌≤◌, Bool, true, false, cond, List, [], ◌∷◌, ◌++◌, length, drop, refl, sym}
use Rattle.std.proofs.Common.{arith, add-one}
use Rattle.std.proofs.Math.Seq.{drop-cons}
use Rattle.flat_model.specs.declared.Word.{Word}
use Rattle.station_journal.specs.declared.asks.Ask.{Ask}
use Rattle.station_journal.specs.declared.asks.Ask.TheVariants.{Load, Done}
use Rattle.station_journal.specs.declared.asks.Told.{Told}
use Rattle.station_journal.specs.declared.asks.Told.TheVariants.{Accepted, Refused, Value}
use Rattle.station_journal.specs.Conversation.{is_value, value_count, is_final, accepted_load}
use Rattle.station_journal.proofs.Conversing.{under_way_judged}
use Rattle.ring_station.specs.declared.talk.Phase.{Phase}
use Rattle.ring_station.specs.declared.talk.Phase.TheVariants.{Offering, Awaiting}
use Rattle.ring_station.specs.Scripts.{ask_at, HasTalked}

-- all but values are verdicts
pub verdict-if-not-value : (told : Told) → ((tag : ℕ) (word : Word) → told ≡ Value tag word → ⊥) → is_value told ≡ false
verdict-if-not-value Accepted not_value = refl
verdict-if-not-value (Refused cause) not_value = refl
verdict-if-not-value (Value tag word) not_value = absurd (not_value tag word refl)

-- what is left of a script from one of its places on
left_at : (script : List Ask) (next : ℕ) → next < length script → drop next script ≡ ask_at script next ∷ drop (next + 1) script
left_at script next less = rw (add-one next) (drop-cons script next Done less)

left_behind : (final : Bool) (script : List Ask) (next : ℕ) → next < length script
    → cond final (drop (next + 1) script) (ask_at script next ∷ drop (next + 1) script) ≡ drop (cond final (next + 1) next) script
left_behind true script next less = refl
left_behind false script next less = sym (left_at script next less)

at_most_one_load : (ask : Ask) (verdict : Told) → accepted_load ask verdict ≤ 1
at_most_one_load (Load tag at) Accepted = omega arith
at_most_one_load ask verdict = omega arith

-- the ask that waits for its verdict is told it, over the phases and numbers of the code
pub judged : (script : List Ask) (old new : Phase) (next next' owed owed' : ℕ) (ask : Ask) (verdict : Told) → old ≡ Awaiting
    → new ≡ Offering → is_value verdict ≡ false → next < length script → ask ≡ ask_at script next
    → next' ≡ cond (is_final verdict) (next + 1) next → owed' ≡ owed + accepted_load ask verdict
    → record {
      talked : (offered : List Ask)
          (taken : List Told) → HasTalked script old next owed offered taken
          → HasTalked script new next' owed' offered (taken ++ verdict ∷ []);
      owed : owed' ≤ owed + 1;
      placed : new ≡ Awaiting → next' < length script;
    }
judged script old new next next' owed owed' ask verdict o n none less a e f = rw (o, n, e, f, a) (record {
  talked = λ offered taken h.
      let ask = ask_at script next in
      let values = value_count taken in
      let told = under_way_judged script _ ask _ values offered taken verdict none (rw (left_at script next h.0) at h.1) in
      let sum : values + (owed + accepted_load ask verdict) ≡ values + owed + accepted_load ask verdict = omega arith in
      rw (← left_behind _ script next h.0, told.values_are, sum) told;
  owed = omega (arith, at_most_one_load (ask_at script next) verdict);
  placed = λ w. absurd (cc);
})
