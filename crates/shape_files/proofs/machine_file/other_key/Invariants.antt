use Rattle.std.proofs.Common.{◌≡◌}
use Rattle.toml.specs.View.{table_view}
use Rattle.shape_files.specs.MachineFile.{other_key}
use Rattle.shape_files.proofs.Members.{first_other}
use Rattle.shape_files.proofs.machine_file.other_key.Given as goal

-- the answer is that for the keys which are still to come
abbrev pub invariant-loop-key : goal.invariant-loop-key
invariant-loop-key l = other_key (table_view l.table) ≡ first_other l.key-iterator
