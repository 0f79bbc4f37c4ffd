-- A journal grows by entries whose events are of their sources.
use Rattle.std.proofs.Common.{◌≡◌, ℕ, true, ◌&&◌, refl, ap, eq-eqb}
use Rattle.flat_model.specs.declared.Event.TheVariants.{Arrive}
use Rattle.station_journal.specs.declared.journal.Source.TheVariants.{Word}
use Rattle.station_journal.specs.Parts.{is_event_of}

-- a bank's first word arrives
pub word_is_of : (ports bank : ℕ) → is_event_of ports (Word bank) (Arrive bank 0) ≡ true
word_is_of ports bank = ap (λ a. a && true) (eq-eqb bank bank refl)
