use Rattle.std.proofs.Common.{ℕ, List, ap, sym, subst}
use Rattle.std.specs.Fmt.{HasWritten}
use Rattle.history_text.specs.Answers.{overwritten_there_text}
use Rattle.history_text.proofs.answers.OverwrittenThereDisplay.fmt.Goals as goal

pub returns-in-Some-clause-writes : goal.returns-in-Some-clause-writes
returns-in-Some-clause-writes g c =
    let P : List ℕ → Type 0 = λ bs. HasWritten {W = g.row.W.Denot} g.W.Write.write_str_gives c.args.f.now bs c.write.new.self in
    λ plain ok. subst P (ap overwritten_there_text (sym c.in-Some.is)) (c.write.ensures.writes plain ok)
