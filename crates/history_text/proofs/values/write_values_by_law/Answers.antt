use Rattle.std.proofs.Common.{refl}
use Rattle.history_sessions.specs.Session.{session_opening}
use Rattle.history_sessions.proofs.Timely.{timely_at_first}
use Rattle.history_text.proofs.values.write_values_by_law.Goals as goal

pub write_from-requires : goal.write_from-requires
write_from-requires g c =
    let start = session_opening c.args.law c.args.image.now c.args.rest in
    let timely = timely_at_first c.args.law c.args.image.now c.args.rest in
    (start, c.new-judging.ensures start c.in_ok-session.ensures.kept timely refl)

pub returns : goal.returns
returns g c =
    let start = session_opening c.args.law c.args.image.now c.args.rest in
    let timely = timely_at_first c.args.law c.args.image.now c.args.rest in
    c.write_from.ensures start (c.new-judging.ensures start c.in_ok-session.ensures.kept timely refl)
