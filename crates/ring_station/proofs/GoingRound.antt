-- The turns of the cache side's thread, and of the banks beside it.
use Rattle.std.proofs.Common.{◌≡◌, ◌≤◌, ℕ, ◌+◌, Bool, true, false, if◌then◌else◌, Option, refl, arith, add-one}
use Rattle.station_parts.specs.declared.parts.CacheSide.{CacheSide}
use Rattle.ring_station.specs.declared.thread_end.ThreadEnd.{ThreadEnd}
use Rattle.ring_station.specs.declared.thread_end.ThreadFault.{ThreadFault}
use Rattle.ring_station.specs.Round.{Standing, TurnsRound, TakesTurns, HasGoneRound, standing_first, are_banks_due}

pub counted_within : (is_due : Bool) (had more turns : ℕ) → more ≡ (if is_due then had + 1 else had) → had ≤ turns → more ≤ turns + 1
counted_within true had more turns e less = omega arith
counted_within false had more turns e less = omega arith

pub turned : (CanAnswer : Bool → Type 0) (turns : ℕ) (may is_due : Bool) (first before last : Standing)
    → TakesTurns CanAnswer turns first before → CanAnswer may → is_due ≡ are_banks_due before.round before.stepped
    → last.had ≡ (if is_due then before.had + 1 else before.had)
    → TurnsRound may before.round last.round before.cache last.cache last.stepped → TakesTurns CanAnswer (turns + 1) first last
turned CanAnswer turns may is_due first before last taken answered e had turn =
    rw (add-one turns) (before, taken, record { may = may; answered = answered; had = rw (← e) had; turns = turn })

-- it ends behind its last turn
pub gone_round : {ports banks turn turns : ℕ} (CanAnswer : Bool → Type 0) {old : CacheSide} (last : Standing)
    {end : ThreadEnd} {fault : Option ThreadFault} → end ≡ record { turns = turns; fault = fault } → turn ≡ turns
    → TakesTurns CanAnswer turn (standing_first ports banks old) last → HasGoneRound CanAnswer ports banks end.turns last.had old last.cache
gone_round CanAnswer last e all taken = rw e (record { last = last; taken = rw (← all) taken; had_is = refl; cache_is = refl })
