use Rattle.std.proofs.Common.{◌≡◌, take}
use Rattle.std.specs.String.{string_bytes}
use Rattle.round_driver.specs.Written.{run_text}
use Rattle.round_driver.proofs.writing.round_text.Given as goal

abbrev pub invariant-loop-note : goal.invariant-loop-note
invariant-loop-note l = string_bytes l.text ≡ run_text (take l.note-index l.notes)
