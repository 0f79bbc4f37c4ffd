use Rattle.std.proofs.Common.{ℕ, List, ap, sym, subst}
use Rattle.std.specs.Fmt.{HasWritten}
use Rattle.history_text.specs.Answers.{source_text}
use Rattle.history_text.proofs.answers.ByteSourceDisplay.fmt.Goals as goal

pub returns-in-Store-clause-writes : goal.returns-in-Store-clause-writes
returns-in-Store-clause-writes g c =
    let P : List ℕ → Type 0 = λ bs. HasWritten {W = g.row.W.Denot} g.W.Write.write_str_gives c.args.f.now bs c.write.new.self in
    λ plain ok. subst P (ap source_text (sym c.in-Store.is)) (c.write.ensures.writes plain ok)
