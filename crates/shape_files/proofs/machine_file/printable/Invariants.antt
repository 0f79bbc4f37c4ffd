use Rattle.std.proofs.Common.{◌≡◌, map, take}
use Rattle.std.specs.String.{string_bytes}
use Rattle.shape_files.specs.MachineFile.{printable_byte}
use Rattle.shape_files.proofs.machine_file.printable.Given as goal

-- the bytes that were seen are told
abbrev pub invariant-loop-byte : goal.invariant-loop-byte
invariant-loop-byte l = string_bytes l.text ≡ map printable_byte (take l.byte-index l.byte-items)
