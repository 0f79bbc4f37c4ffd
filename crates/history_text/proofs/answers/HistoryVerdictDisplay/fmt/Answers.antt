use Rattle.std.proofs.Common.{ℕ, List, ap, sym, subst}
use Rattle.std.specs.Fmt.{HasWritten}
use Rattle.history_text.specs.Answers.{end_text}
use Rattle.history_text.proofs.answers.HistoryVerdictDisplay.fmt.Goals as goal

pub returns-in-OfLaw-clause-writes : goal.returns-in-OfLaw-clause-writes
returns-in-OfLaw-clause-writes g c =
    let P : List ℕ → Type 0 = λ bs. HasWritten {W = g.row.W.Denot} g.W.Write.write_str_gives c.args.f.now bs c.write.new.self in
    λ plain ok. subst P (ap (end_text c.args.self.now.law) (sym c.in-OfLaw.is)) (c.write.ensures.writes plain ok)
