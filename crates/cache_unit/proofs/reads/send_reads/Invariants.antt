use Rattle.memory_banks.specs.Banks.{HasSent}
use Rattle.cache_law.specs.Reads.{block_reads}
use Rattle.cache_unit.proofs.reads.send_reads.Given as goal

abbrev pub invariant-loop-k : goal.invariant-loop-k
invariant-loop-k g l =
    HasSent g.L.Lines.sent_to g.L.Lines.room_of g.L.Lines.same l.fn.lines l.lines (block_reads l.slot l.first l.words l.banks l.k)
