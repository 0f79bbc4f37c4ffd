use Rattle.std.proofs.Common.{◌≡◌, ◌++◌, drop, map}
use Rattle.history_text.specs.Notes.{named_with}
use Rattle.history_text.proofs.notes.add_sources.Given as goal

-- those that are added, and those that are left, are all of them
abbrev pub invariant-loop-source : goal.invariant-loop-source
invariant-loop-source l =
    l.all.items ++ map (named_with l.byte) (drop l.source-index l.sources)
    ≡ l.initial.all.items ++ map (named_with l.byte) l.sources
