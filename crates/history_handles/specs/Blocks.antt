-- What lets a block of the heap be given back.
use mir.Syntax.{Ty}
use base.Fml.{Fml}
use denote.RawPtr.{Ptr}
use Rattle.std.specs.contracts.alloc.Global as heap
use Rattle.std.specs.contracts.impls.GlobalAllocator.TheImpl as heap_impl

-- the handle to the heap: it has no number of its own
abbrev pub the_heap : heap.the_row.Denot
the_heap = record { memory = record { seal = tt } }

abbrev pub block_token : Ty → Ptr → Fml
block_token = heap_impl.ghosts.dealloc_token the_heap
