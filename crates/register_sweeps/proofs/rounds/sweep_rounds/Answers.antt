use Rattle.shape_files.specs.MachineFile.{bad_machine}
use Rattle.register_sweeps.proofs.Shapes.{each_good}
use Rattle.register_sweeps.proofs.rounds.sweep_rounds.Goals as goal

pub rows_on_threads-requires-clause-good : goal.rows_on_threads-requires-clause-good
rows_on_threads-requires-clause-good g c κs outlives = each_good bad_machine c.args.machines.now c.in_ok-all_good.ensures.good
