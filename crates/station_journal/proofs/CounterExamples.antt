-- Journals that aren't true of the banks, and exchanges that are no conversations.
use Rattle.std.proofs.Common.{◌≡◌, List, [], ◌∷◌, ◌++◌, arith}
use Rattle.flat_model.specs.declared.Cause.TheVariants.{BankFull, NotPresent}
use Rattle.flat_model.specs.declared.Event.TheVariants.{Load, Prefetch, Evict, Drain, Arrive}
use Rattle.flat_model.specs.declared.Answer.TheVariants.{Accepted, Moved, Refused}
use Rattle.station_journal.specs.declared.journal.Source.TheVariants as sources
use Rattle.station_journal.specs.declared.journal.Entry.TheVariants.{Step}
use Rattle.station_journal.specs.declared.asks.Ask.{Ask}
use Rattle.station_journal.specs.declared.asks.Ask.TheVariants as asks
use Rattle.station_journal.specs.declared.asks.Told.TheVariants as told
use Rattle.station_journal.specs.Journal.{IsBankTrue}
use Rattle.station_journal.specs.Conversation.{accepted_loads, Follows, Converses}
use Rattle.station_journal.specs.Examples.{shape_S, smallest, word, zeros, asked, comes, all_steps, by_hand, read_back, script}

-- ---- wrong values

-- a load of a zero word is told nothing but zeros
by_hand-false : IsBankTrue shape_S (by_hand (word 1 0 0 0)) → ⊥
unfolding all_steps
by_hand-false h = grind arith

-- a load of a stored word isn't told what was there before
read_back-false : IsBankTrue smallest (read_back zeros) → ⊥
unfolding all_steps
read_back-false h = grind arith

-- ---- refusals for want of room that may not stand

-- of a hit
refused_hit : IsBankTrue shape_S (asked 0 (Prefetch 5) Accepted ++ asked 0 (Load 1 5) (Refused BankFull)) → ⊥
unfolding all_steps
refused_hit h = cc

-- of a request that another cause refuses
refused_outside : IsBankTrue shape_S (asked 0 (Prefetch 32) (Refused BankFull)) → ⊥
unfolding all_steps
refused_outside h = cc

-- of a drain of an empty queue, and of an eviction
refused_drain : IsBankTrue shape_S (Step sources.Drain Drain (Refused BankFull) ∷ []) → ⊥
refused_drain h = cc

refused_eviction : IsBankTrue shape_S (asked 0 (Evict 0) (Refused BankFull)) → ⊥
refused_eviction h = cc

-- ---- words that no read asked for

uncalled : IsBankTrue shape_S (Step (sources.Word 0) (Arrive 0 0) Moved ∷ []) → ⊥
uncalled h = cc

-- a third word of a bank that holds two of the block's words
third_word : IsBankTrue shape_S (asked 0 (Load 1 5) Accepted ++ comes 0 ++ comes 0 ++ comes 0) → ⊥
unfolding all_steps
third_word h = grind arith

-- ---- no conversations

-- a port goes on after a refusal for want of room
given_up : Converses script (asks.Load 1 5 ∷ asks.Evict 7 ∷ asks.Done ∷ []) (told.Refused BankFull ∷ told.Refused NotPresent ∷ []) → ⊥
given_up h = gone h.asked h.offered_is h.follows
  where
    gone : (asked : List Ask) → asks.Load 1 5 ∷ asks.Evict 7 ∷ asks.Done ∷ [] ≡ asked ++ asks.Done ∷ []
        → Follows script asked (told.Refused BankFull ∷ told.Refused NotPresent ∷ []) [] → ⊥
    gone [] e f = f
    gone (a ∷ []) e f = f.1
    gone (a ∷ b ∷ []) e f = grind arith
    gone _ e f = f.1.1

-- an accepted load's value hasn't come
not_answered : Converses (asks.Load 1 5 ∷ []) (asks.Load 1 5 ∷ asks.Done ∷ []) (told.Accepted ∷ []) → ⊥
not_answered h = gone h.asked h.follows h.answered
  where
    gone : (asked : List Ask) → Follows (asks.Load 1 5 ∷ []) asked (told.Accepted ∷ []) [] → 0 ≡ accepted_loads asked (told.Accepted ∷ [])
        → ⊥
    gone [] f e = f
    gone (a ∷ []) f e = grind arith
    gone _ f e = f.1
