-- One event of a journal is the machine's event, and then all banks serve what they were sent.
use Rattle.std.proofs.Common.{◌≡◌, ℕ, ◌<◌, Bool, true, false, cond, ◌&&◌, ◌==◌, nat_lt, [], slice_get, Option}
use Rattle.std.proofs.Common.{Some, None, refl, sym, ap, subst, arith, append-nil}
use Rattle.std.proofs.lemmas.Bool.{and_parts, eqb-true, ltb-true}
use Rattle.std.proofs.lemmas.Option.{slice_get_within}
use Rattle.flat_model.specs.declared.Cause.{Cause}
use Rattle.flat_model.specs.declared.Event.{Event}
use Rattle.flat_model.specs.declared.Event.TheVariants.{Serve, Arrive}
use Rattle.flat_model.specs.declared.Answer.{Answer}
use Rattle.flat_model.specs.declared.Answer.TheVariants.{Nothing, Refused}
use Rattle.flat_model.specs.Flat.{flat_step}
use Rattle.memory_banks.specs.declared.BankAnswer.{BankAnswer}
use Rattle.memory_banks.specs.Banks.{bank_at, answers_to, room_in}
use Rattle.cache_law.specs.declared.Sizes.{Sizes}
use Rattle.cache_law.specs.Causes.{arrive_cause, load_cause, store_cause, prefetch_cause}
use Rattle.cache_law.specs.Steps.{Stepped, unless, moved as unit_moved, arrived, arrive_step, load_step, store_step, prefetch_step}
use Rattle.cache_law.specs.Steps.{drain_step}
use Rattle.machine_core.specs.Law.{IsLawful}
use Rattle.machine_core.specs.Machine.{Machine, apply, joined_with, take_in, flat_of}
use Rattle.station_journal.specs.Journal.{Stand, ample, brought, true_word, zeros_in, step, moved_on}
use Rattle.station_journal.specs.Law.{TakesABlock}
use Rattle.station_journal.proofs.FlatFrom.{FlatFrom, makes}
use Rattle.station_journal.proofs.Rooms.{Suffices, ample-suffices, idle-suffices}
use Rattle.station_journal.proofs.Standing.{Stands, Next, moved, sent_ok, first_dropped, taken_stands}

module _ (z : Sizes) (lawful : IsLawful z) (takes : TakesABlock z) (s : Stand) (m : Machine) (h : Stands z s m) (from : FlatFrom z m) where
  abbrev own : ℕ → ℕ
  own = room_in z.bank_queue m.banks

  suffices : Suffices z own
  suffices = grind (arith, idle-suffices)

  places : (b : ℕ) → b < z.banks → nat_lt 0 (own b) ≡ nat_lt 0 (ample z b)
  places b l = grind arith

  -- a step that the machine's event makes of the unit
  by_step : (event : Event) (d : Stepped) → apply z m event ≡ joined_with m.banks d
      → (n : Machine) × Next z (moved s d) event d.answer m n
  by_step event d e = let is = makes z m from event _ e in sent_ok z s m event d h is.next is.run

  -- nothing happens
  still : (event : Event) (answer : Answer) → flat_step (flat_of z m) event answer ≡ Some (flat_of z m)
      → (n : Machine) × Next z (moved s (record { answer = answer; cache = s.cache; sent = [] })) event answer m n
  still event answer run = grind (arith, append-nil)

  -- ---- a word arrives

  abbrev Arrives : ℕ → ℕ → Stepped → Type 0
  Arrives bank place d = (n : Machine) × Next z (moved_on s (Arrive bank place) d) (Arrive bank place) d.answer m n

  module _ (bank : ℕ) (here : bank < z.banks) where
    abbrev word : Option BankAnswer
    word = true_word z bank (s.arrived bank) (s.sent bank)

    first : slice_get (bank_at m.banks bank).answers 0 ≡ word
    first = grind (arith, first_dropped)

    taken_in : (a : BankAnswer) → word ≡ Some a → (o : Option Cause) → arrive_cause z s.cache a.slot a.i ≡ o
        → Arrives bank 0 (unless o s.cache (unit_moved (arrived s.cache a.slot a.i a.word)))
    taken_in a e (Some cause) c =
        still (Arrive bank 0) (Refused cause)
        (makes z m from (Arrive bank 0) (take_in z m bank 0 a (Some cause)) (grind (arith, first))).run
    taken_in a e None c =
        let is = makes z m from (Arrive bank 0) (take_in z m bank 0 a None) (grind (arith, first)) in
        let some = slice_get_within (answers_to (zeros_in z bank) (s.sent bank)) (s.arrived bank) a e in (
          (take_in z m bank 0 a None).machine,
          record {
            stands =
                taken_stands z s m bank (arrived s.cache a.slot a.i a.word) (arrived m.cache a.slot a.i a.word) h here some
                (ap (λ c. arrived c a.slot a.i a.word) h.cache);
            from = is.next;
            run = is.run;
          },
        )

    arrive_ok : (o : Option BankAnswer) → word ≡ o → Arrives bank 0 (brought z s.cache o)
    unfolding arrive_step
    arrive_ok None e = still (Arrive bank 0) Nothing refl
    arrive_ok (Some a) e = taken_in a e (arrive_cause z s.cache a.slot a.i) refl

  -- ---- every event

  pub event_ok : (event : Event)
      → (n : Machine) × Next z (moved_on s event (step z (true_word z) s event)) event (step z (true_word z) s event).answer m n
  unfolding load_step load_cause store_step store_cause prefetch_step prefetch_cause drain_step
  event_ok (Serve bank) = still (Serve bank) Nothing refl
  event_ok (Arrive bank place) = by_place (nat_lt bank z.banks && (place == 0)) refl
    where
      by_place : (t : Bool) → (nat_lt bank z.banks && (place == 0)) ≡ t
          → Arrives bank place (brought z s.cache (cond t (true_word z bank (s.arrived bank) (s.sent bank)) None))
      by_place false e = still (Arrive bank place) Nothing refl
      by_place true e =
          let parts = and_parts _ _ e in
          subst (λ k. Arrives bank k (brought z s.cache (true_word z bank (s.arrived bank) (s.sent bank)))) (sym (eqb-true place 0 parts.1))
          (arrive_ok bank (ltb-true bank z.banks parts.0) _ refl)
  event_ok event = by_step event (step z (true_word z) s event) (grind (arith, suffices, ample-suffices, places))
