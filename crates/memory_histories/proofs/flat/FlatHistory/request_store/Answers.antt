use Rattle.std.proofs.Common.{arith, ◌≡◌, nat_eq}
use Rattle.std.specs.HashMap.{get}
use Rattle.std.proofs.Math.Path.{fun_ext}
use Rattle.memory_histories.specs.FlatShown.{shown}
use Rattle.memory_histories.proofs.FlatBytes.{standing-bytes}
use Rattle.memory_histories.proofs.flat.FlatHistory.request_store.Goals as goal

pub returns-clause-ok : goal.returns-clause-ok
unfolding shown
returns-clause-ok c =
    let same : get nat_eq c.reserve-2.new.self ≡ get nat_eq c.args.self.now.written = fun_ext c.in_ok-reserve-2.ensures.entries.2 in
    grind (arith, standing-bytes)
