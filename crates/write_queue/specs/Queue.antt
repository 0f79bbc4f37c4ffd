-- The write queue, and what stands in it for one word.
use Rattle.std.specs.Prelude.{ℕ, ◌≤◌, Bool, ◌&&◌, nat_le, if◌then◌else◌, ◌==◌, List, [], ◌∷◌, length}
use Rattle.flat_model.specs.declared.limits.TheConstants.{MAX_WRITE_QUEUE}
use Rattle.flat_model.specs.declared.Word.{Word}
use Rattle.flat_model.specs.declared.Lanes.{Lanes}
use Rattle.flat_model.specs.Words.{zero_word, no_lanes, joined, merged}
use Rattle.write_queue.specs.declared.Queued.{Queued}
use Rattle.write_queue.specs.declared.Forward.{Forward}

-- a write queue: its entries, the oldest first, and how many it takes
pub record Queue : Type 0 where
  pub entries : List Queued
  pub limit : ℕ

abbrev pub queue : List Queued → ℕ → Queue
queue entries limit = record { entries = entries; limit = limit }

-- whether a queue may take at most so many
abbrev pub is_limit : ℕ → Bool
is_limit n = nat_le 1 n && nat_le n MAX_WRITE_QUEUE

-- what is so of every write queue
pub record IsQueue (q : Queue) : Type 0 where
  pub some : 1 ≤ q.limit
  pub most : q.limit ≤ MAX_WRITE_QUEUE
  pub within : length q.entries ≤ q.limit

-- the entries' bytes for a word laid over it, in their order
abbrev pub overlaid : Word → List Queued → ℕ → Word
overlaid w [] at = w
overlaid w (q ∷ rest) at = overlaid (if q.at == at then merged w q.word q.lanes else w) rest at

-- the lanes that the entries have for a word
abbrev pub queued_lanes : List Queued → ℕ → Lanes
queued_lanes [] at = no_lanes
queued_lanes (q ∷ rest) at = if q.at == at then joined q.lanes (queued_lanes rest at) else queued_lanes rest at

-- the newest queued bytes of a word
abbrev pub newest : List Queued → ℕ → Forward
newest entries at = record { word = overlaid zero_word entries at; lanes = queued_lanes entries at }
