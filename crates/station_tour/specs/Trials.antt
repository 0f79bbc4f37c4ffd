-- What is drawn for a station of a soak.
use Rattle.std.specs.Prelude.{◌≡◌, ℕ, ◌+◌, ◌-◌, ◌/◌, ◌%◌, ◌^◌, ◌==◌, ◌≤◌, min, if◌then◌else◌}
use Rattle.std.specs.Int.{div_ceil}
use Rattle.flat_model.specs.declared.limits.TheConstants.{MAX_WORDS, MAX_SETS, MAX_BANKS, MAX_BANK_QUEUE, MAX_WRITE_QUEUE, MAX_REPLIES}
use Rattle.station_parts.specs.declared.make.TheConstants.{MAX_PORTS, MAX_ENTRIES}
use Rattle.station_tour.specs.declared.soak.trial.Trial.{Trial}

-- each number is in its range, so that a station is made of them
pub record IsInRange (t : Trial) : Type 0 where
  pub words : (1 ≤ t.shape.words) × (t.shape.words ≤ MAX_WORDS)
  pub whole_blocks : t.shape.words % t.block_words ≡ 0
  pub sets : (1 ≤ t.shape.sets) × (t.shape.sets ≤ MAX_SETS)
  pub banks : (1 ≤ t.shape.banks) × (t.shape.banks ≤ MAX_BANKS)
  pub bank_queue : (div_ceil t.block_words t.shape.banks ≤ t.shape.bank_queue) × (t.shape.bank_queue ≤ MAX_BANK_QUEUE)
  pub write_queue : (t.block_words ≤ t.shape.write_queue) × (t.shape.write_queue ≤ MAX_WRITE_QUEUE)
  pub replies : (1 ≤ t.shape.replies) × (t.shape.replies ≤ MAX_REPLIES)
  pub ports : (1 ≤ t.ports) × (t.ports ≤ MAX_PORTS)
  pub journal : (1 ≤ t.journal) × (t.journal ≤ MAX_ENTRIES)

-- a number from the least to the most, by one that was drawn: each of these two in one of four draws
abbrev pub number_between : ℕ → ℕ → ℕ → ℕ
number_between least most pick =
    if pick % 4 == 0 then least
    else (if pick % 4 == 1 then most
    else least + min (pick / 4 % min (most - least + 1) (2 ^ 32 - 1)) (most - least))
