use Rattle.std.proofs.Common.{ℕ, List, ap, sym, subst}
use Rattle.std.specs.Fmt.{HasWritten}
use Rattle.run_pictures.specs.Phrases.{text_of}
use Rattle.run_pictures.proofs.phrase.PhraseDisplay.fmt.Goals as goal

pub returns-in-Given-clause-writes : goal.returns-in-Given-clause-writes
returns-in-Given-clause-writes g c =
    let P : List ℕ → Type 0 = λ bs. HasWritten {W = g.row.W.Denot} g.W.Write.write_str_gives c.args.f.now bs c.write-in-Given.new.self in
    λ plain ok. subst P (ap text_of (sym c.in-Given.is)) (c.write-in-Given.ensures.writes plain ok)

pub returns-in-Sent-clause-writes : goal.returns-in-Sent-clause-writes
returns-in-Sent-clause-writes g c =
    let P : List ℕ → Type 0 = λ bs. HasWritten {W = g.row.W.Denot} g.W.Write.write_str_gives c.args.f.now bs c.write-in-Sent.new.self in
    λ plain ok. subst P (ap text_of (sym c.in-Sent.is)) (c.write-in-Sent.ensures.writes plain ok)

pub returns-in-Short-clause-writes : goal.returns-in-Short-clause-writes
returns-in-Short-clause-writes g c =
    let P : List ℕ → Type 0 = λ bs. HasWritten {W = g.row.W.Denot} g.W.Write.write_str_gives c.args.f.now bs c.write-in-Short.new.self in
    λ plain ok. subst P (ap text_of (sym c.in-Short.is)) (c.write-in-Short.ensures.writes plain ok)
