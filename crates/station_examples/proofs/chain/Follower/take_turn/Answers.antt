use Rattle.station_examples.proofs.Following.{followed_telling}
use Rattle.station_examples.proofs.chain.Follower.take_turn.Goals as goal

pub returns-in-Some-clause-followed : goal.returns-in-Some-clause-followed
returns-in-Some-clause-followed c first h =
    let took = c.in-Some.ensures in
    followed_telling first _ _ _ _ _ h c.in-Some.told _ took.offered took.taken c.note.ensures
