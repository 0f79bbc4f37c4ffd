-- The rings that ends belong to.
use Rattle.std.specs.Prelude.{◌≡◌, ◌+◌, ◌≤◌, List, ◌++◌, length}
use mathlib.Core.List.{IsPrefix}
use denote.RawPtr.{Ptr}
use Rattle.std.specs.declared.alloc.Global.{Global}
use Rattle.rtrb.specs.Shared.{Names}
use Rattle.rtrb.specs.Ring.{sent, received, known_free, known_items}
use Rattle.rtrb.specs.declared.producer.Producer.{Producer}
use Rattle.rtrb.specs.declared.consumer.Consumer.{Consumer}
use Rattle.rtrb.specs.declared.AnyItems.{AnyItems}

-- a ring: where it lies, and the names by which its two ends know each other
pub record RingId : Type 0 where
  pub words : Ptr
  pub slots : Ptr
  pub names : Names
  pub heap : Global

-- the ring that an end pushes to
abbrev pub pushes_to : {T : Type 0} → Producer T Global AnyItems → RingId
pushes_to p = record { words = p.end.words; slots = p.end.slots; names = p.end.names; heap = p.end.heap }

-- the ring that an end pops from
abbrev pub pops_from : {T : Type 0} → Consumer T Global AnyItems → RingId
pops_from c = record { words = c.end.words; slots = c.end.slots; names = c.end.names; heap = c.end.heap }

-- an end that popped these items, and may have looked: what it knew comes first in what it popped and what it knows
pub record HasPopped {T : Type 0} (old new : Consumer T Global AnyItems) (items : List T) : Type 0 where
  pub ring : pops_from new ≡ pops_from old
  pub popped : received new ≡ received old ++ items
  pub known : IsPrefix (known_items old) (items ++ known_items new)

-- an end that only looked
pub record HasLooked {T : Type 0} (old new : Producer T Global AnyItems) : Type 0 where
  pub ring : pushes_to new ≡ pushes_to old
  pub pushed : sent new ≡ sent old
  pub places : known_free old ≤ known_free new

-- an end that pushed these items, and didn't look
pub record HasPushed {T : Type 0} (old new : Producer T Global AnyItems) (items : List T) : Type 0 where
  pub ring : pushes_to new ≡ pushes_to old
  pub pushed : sent new ≡ sent old ++ items
  pub places : known_free old ≡ known_free new + length items
