use Rattle.std.proofs.Common.{ℕ, List, ap, sym, ◌∙◌, subst}
use Rattle.std.specs.Fmt.{HasWritten}
use Rattle.trace_text.specs.Written.{line_text}
use Rattle.trace_text.proofs.Recorded.{event_shown}
use Rattle.trace_text.proofs.writers.LineDisplay.fmt.Goals as goal

pub returns-in-Event-clause-writes : goal.returns-in-Event-clause-writes
returns-in-Event-clause-writes g c =
    let P : List ℕ → Type 0 = λ bs. HasWritten {W = g.row.W.Denot} g.W.Write.write_str_gives c.args.f.now bs c.write.new.self in
    λ plain ok. subst P (event_shown c.in-Event.event ∙ ap line_text (sym c.in-Event.is)) (c.write.ensures.writes plain ok)
