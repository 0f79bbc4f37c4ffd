use Rattle.std.proofs.Common.{◌+◌, ◌*◌}
use Rattle.flat_model.specs.Flat.{word_at}
use Rattle.memory_banks.proofs.Sending.{one_more}
use Rattle.memory_banks.proofs.bank.share.Goals as goal

pub loop-k-preserved : goal.loop-k-preserved
loop-k-preserved c = one_more (λ k. word_at c.args.image.now (k * c.args.banks + c.args.bank)) c.loop-k.k _ _ c.loop-k.invariant
    c.in_ok-push.ensures.items
