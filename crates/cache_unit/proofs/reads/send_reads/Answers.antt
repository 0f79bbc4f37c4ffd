use Rattle.cache_unit.proofs.BlockReads.{HasSent-none, HasSent-more, room_for_next, block_reads_more}
use Rattle.cache_unit.proofs.reads.send_reads.Goals as goal

pub loop-k-init : goal.loop-k-init
loop-k-init g c = HasSent-none g.L.Lines.sent_to g.L.Lines.room_of g.L.Lines.same _ (g.met.L.Lines.same_self _)

pub send-requires : goal.send-requires
send-requires g c = room_for_next g.L.Lines.sent_to g.L.Lines.room_of g.L.Lines.same _ c.loop-k.lines _ _ _ _ c.loop-k.k c.loop-k-test.true
    (c.requires.room _) c.loop-k.invariant

pub loop-k-preserved : goal.loop-k-preserved
loop-k-preserved g c =
    rw (block_reads_more _ _ _ _ c.loop-k.k) (HasSent-more g.L.Lines.sent_to g.L.Lines.room_of g.L.Lines.same _ c.loop-k.lines _ _ _ _
    (g.met.L.Lines.same_steps _ _ _ c.loop-k.invariant.kept c.send.ensures.same) c.loop-k.invariant c.send.ensures.sent
    c.send.ensures.room c.send.ensures.others)
