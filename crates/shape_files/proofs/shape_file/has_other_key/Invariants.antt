use Rattle.std.proofs.Common.{◌≡◌}
use Rattle.toml.specs.View.{table_view}
use Rattle.shape_files.specs.ShapeFile.{has_other_key}
use Rattle.shape_files.proofs.Members.{others}
use Rattle.shape_files.proofs.shape_file.has_other_key.Given as goal

-- the answer is that for the keys which are still to come
abbrev pub invariant-loop-key : goal.invariant-loop-key
invariant-loop-key l = has_other_key (table_view l.table) ≡ others l.key-iterator
