use Rattle.std.proofs.Common.{◌≡◌, ◌++◌, drop}
use Rattle.history_sessions.specs.Session.{Session}
use Rattle.history_text.specs.Notes.{alternatives_of}
use Rattle.history_text.specs.Refusals.{Stands}
use Rattle.history_text.proofs.notes.alternatives_among.Given as goal

-- those that are named, and those of the bytes that are left, are all of them
abbrev pub invariant-loop-byte : goal.invariant-loop-byte
invariant-loop-byte l = (s : Session) → Stands l.session s
    → l.all.items ++ alternatives_of s l.number l.address (drop l.byte-index l.bytes) ≡ alternatives_of s l.number l.address l.bytes
