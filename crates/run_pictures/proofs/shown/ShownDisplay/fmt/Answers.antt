use Rattle.std.proofs.Common.{ℕ, List, ap, sym, subst}
use Rattle.std.specs.Fmt.{HasWritten}
use Rattle.run_pictures.specs.Cells.{shown_text}
use Rattle.run_pictures.proofs.shown.ShownDisplay.fmt.Goals as goal

pub returns-in-Obsolete-clause-writes : goal.returns-in-Obsolete-clause-writes
returns-in-Obsolete-clause-writes g c =
    let P : List ℕ → Type 0 = λ bs. HasWritten {W = g.row.W.Denot} g.W.Write.write_str_gives c.args.f.now bs c.write-in-Obsolete.new.self in
    λ plain ok. subst P (ap shown_text (sym c.in-Obsolete.is)) (c.write-in-Obsolete.ensures.writes plain ok)
