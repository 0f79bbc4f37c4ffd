-- A writer that isn't asked again once it has failed.
use Rattle.std.specs.Prelude.{Bool}
use Rattle.kroft_command.specs.declared.one_try.OneTryWriter.{OneTryWriter}

-- the writer behind it
abbrev pub writer_behind : {T : Type 0} → OneTryWriter T → T
writer_behind w = w.writer

-- whether it has failed
abbrev pub has_failed : {T : Type 0} → OneTryWriter T → Bool
has_failed w = w.has_failed
