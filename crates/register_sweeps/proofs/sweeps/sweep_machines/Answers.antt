use Rattle.shape_files.specs.MachineFile.{bad_machine}
use Rattle.register_sweeps.proofs.Lawful.{rows_count_all}
use Rattle.register_sweeps.proofs.Shapes.{each_good}
use Rattle.register_sweeps.proofs.sweeps.sweep_machines.Goals as goal

pub rows_on_threads-requires-clause-good : goal.rows_on_threads-requires-clause-good
rows_on_threads-requires-clause-good g c κs outlives = each_good bad_machine c.args.machines.now c.in_ok-all_good.ensures.good

pub returns-clause-counts : goal.returns-clause-counts
returns-clause-counts g c =
    rows_count_all c.args.events.now c.args.machines.now c.rows_on_threads.result
    (each_good bad_machine c.args.machines.now c.in_ok-all_good.ensures.good) c.rows_on_threads.ensures.rows
