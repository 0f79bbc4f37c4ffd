use Rattle.std.proofs.Common.{◌≡◌, length, rules}
use Rattle.atomic_histories.proofs.Moving.{used_written}
use Rattle.atomic_histories.proofs.moves.used_by.Goals as goal

pub returns-clause-used : goal.returns-clause-used
returns-clause-used c =
    let long : length _ ≡ c.in_ok-used.used.len = search rules in
    used_written _ c.in_ok-used.used.items c.in_ok-used.used.len _ long c.mark_all.ensures.used
