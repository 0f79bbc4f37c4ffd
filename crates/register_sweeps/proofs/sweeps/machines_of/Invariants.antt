use Rattle.std.proofs.Common.{◌≡◌, take, map}
use Rattle.shape_files.specs.ShapeFile.{sizes_of}
use Rattle.register_sweeps.proofs.sweeps.machines_of.Given as goal

-- the machines so far
abbrev pub invariant-loop-shape : goal.invariant-loop-shape
invariant-loop-shape l = l.machines.items ≡ map sizes_of (take l.shape-index l.shapes)
