use Rattle.std.proofs.Common.{◌∙◌}
use Rattle.ring_station.proofs.run.run_crew.Goals as goal

pub returns-clause-ports : goal.returns-clause-ports
returns-clause-ports g c =
    let same = c.reserve_lists.ensures in
    let ran = c.run_all.ensures.ports in
    record {
      number = ran.number ∙ same.number;
      each = λ p s d less. rw (← ((same.each p d less).port)) (ran.each p s d (rw same.number less));
    }
