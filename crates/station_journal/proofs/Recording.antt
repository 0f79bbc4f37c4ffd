-- What the unit does with the rooms that are known may stand in the journal.
use Rattle.std.proofs.Common.{◌≡◌, ℕ, ◌<◌, Bool, true, false, [], ◌++◌}
use Rattle.std.proofs.Common.{refl, IsTrue, append-nil, arith}
use Rattle.flat_model.specs.declared.Cause.TheVariants.{BankFull}
use Rattle.flat_model.specs.declared.Event.{Event}
use Rattle.flat_model.specs.declared.Event.TheVariants.{Evict, Drain, Process, Take}
use Rattle.flat_model.specs.declared.Answer.{Answer}
use Rattle.flat_model.specs.declared.Answer.TheVariants.{Refused}
use Rattle.memory_banks.specs.declared.BankAnswer.{BankAnswer}
use Rattle.memory_banks.specs.Banks.{commands_for}
use Rattle.cache_law.specs.declared.Request.{Request}
use Rattle.cache_law.specs.declared.Request.TheVariants as requests
use Rattle.cache_law.specs.declared.Sizes.{Sizes}
use Rattle.cache_law.specs.State.{Cache}
use Rattle.cache_law.specs.Causes.{load_cause}
use Rattle.cache_law.specs.Causes.{store_cause, prefetch_cause, evict_cause}
use Rattle.cache_law.specs.Steps.{Stepped, request_step}
use Rattle.cache_law.specs.Steps.{load_step, store_step, prefetch_step, evict_step, drain_step, arrive_step, process_step}
use Rattle.cache_law.specs.Steps.{take_step}
use Rattle.station_journal.specs.Journal.{Stand, Brings, step, may_be_full, may_stand, is_full, event_of}
use Rattle.station_journal.specs.Journal.{arrived_after, Fits, after_entry}
use Rattle.station_journal.proofs.Rooms.{ample-suffices}

-- ---- a step of the unit may stand in the journal

-- an event that is no arrival, with the step that the unit made, where the answer is one for want of
-- room or isn't
pub record RecordedAs (z : Sizes) (brings : Brings) (s : Stand) (event : Event) (d : Stepped) (t : Bool) : Type 0 where
  pub fits : Fits z brings s event d.answer t
  pub cache : (after_entry z brings s event t).cache ≡ d.cache
  pub sent : (b : ℕ) → (after_entry z brings s event t).sent b ≡ s.sent b ++ commands_for b d.sent
  pub arrived : (b : ℕ) → (after_entry z brings s event t).arrived b ≡ s.arrived b

abbrev pub Recorded : Sizes → Brings → Stand → Event → Stepped → Type 0
Recorded z brings s event d = RecordedAs z brings s event d (is_full d.answer)

-- no word comes by this event
abbrev IsNoArrival : Event → Type 0
IsNoArrival event =
    (arrived : ℕ → ℕ) (answer : Answer) (b : ℕ) → arrived_after arrived event answer b ≡ arrived b

-- ---- rooms

-- the rooms that are known decide nothing but a refusal for want of room, and that only where it may be
record Decided (z : Sizes) (brings : Brings) (s : Stand) (event : Event) (d : Stepped) : Type 0 where
  may : is_full d.answer ≡ true → IsTrue (may_be_full z s.cache event)
  refused : is_full d.answer ≡ true → d ≡ record { answer = Refused BankFull; cache = s.cache; sent = [] }
  same : is_full d.answer ≡ false → d ≡ step z brings s event

module _ (z : Sizes) (brings : Brings) (s : Stand) where
  recorded : (event : Event) (d : Stepped) → IsTrue (may_stand z brings s event) → IsNoArrival event → Decided z brings s event d
      → Recorded z brings s event d
  recorded event d stands none_comes h = go _ refl
    where
      go : (t : Bool) → is_full d.answer ≡ t → RecordedAs z brings s event d t
      go true e = grind (arith, append-nil)
      go false e = grind arith

  pub request_recorded : (room : ℕ → ℕ) (request : Request) → Recorded z brings s (event_of request) (request_step z room s.cache request)
  unfolding load_step store_step prefetch_step load_cause store_cause prefetch_cause
  request_recorded room (requests.Load tag at) = recorded _ _ refl (λ arrived answer b. refl) (grind (arith, ample-suffices))
  request_recorded room request = grind (arith, recorded, ample-suffices)

  pub evict_recorded : (block : ℕ) → Recorded z brings s (Evict block) (evict_step z s.cache block)
  unfolding evict_step evict_cause
  evict_recorded block = grind arith

  pub drain_recorded : (room : ℕ → ℕ) → 0 < z.block_words → Recorded z brings s Drain (drain_step z room s.cache)
  unfolding drain_step
  drain_recorded room some = grind (arith, recorded)

  pub process_recorded : (place : ℕ) → Recorded z brings s (Process place) (process_step s.cache place)
  unfolding process_step
  process_recorded place = grind arith

  pub take_recorded : (place : ℕ) → Recorded z brings s (Take place) (take_step s.cache place)
  unfolding take_step
  take_recorded place = grind arith

-- ---- a word that has come

pub arrive_silent : (z : Sizes) (c : Cache) (a : BankAnswer) → (arrive_step z c a.slot a.i a.word).sent ≡ []
unfolding arrive_step
arrive_silent z c a = grind arith
