use Rattle.std.proofs.Common.{ℕ, List, ◌++◌, ◌∙◌, ap, sym, subst}
use Rattle.std.specs.Prelude.{codes}
use Rattle.std.specs.Fmt.{HasWritten}
use Rattle.flat_model.specs.Texts.{byte_text}
use Rattle.history_text.specs.declared.answers.AllowedByte.{AllowedByte}
use Rattle.history_text.specs.Answers.{address_text, alternatives_text, overwritten_text, cause_text}
use Rattle.history_text.proofs.answers.RefusalCauseDisplay.fmt.Goals as goal

pub returns-in-OutOfRange-clause-writes : goal.returns-in-OutOfRange-clause-writes
returns-in-OutOfRange-clause-writes g c =
    let P : List ℕ → Type 0 = λ bs. HasWritten {W = g.row.W.Denot} g.W.Write.write_str_gives c.args.f.now bs c.write.new.self in
    λ plain ok. subst P (ap cause_text (sym c.in-OutOfRange.is)) (c.write.ensures.writes plain ok)

pub returns-in-WrongLength-clause-writes : goal.returns-in-WrongLength-clause-writes
returns-in-WrongLength-clause-writes g c =
    let P : List ℕ → Type 0 = λ bs. HasWritten {W = g.row.W.Denot} g.W.Write.write_str_gives c.args.f.now bs
    c.write-in-WrongLength.new.self in
    λ plain ok. subst P (ap cause_text (sym c.in-WrongLength.is)) (c.write-in-WrongLength.ensures.writes plain ok)

pub returns-in-WrongByte-clause-writes : goal.returns-in-WrongByte-clause-writes
returns-in-WrongByte-clause-writes g c =
    let P : List ℕ → Type 0 = λ bs. HasWritten {W = g.row.W.Denot} g.W.Write.write_str_gives c.args.f.now bs
    c.write-in-WrongByte.new.self in
    let w = c.in-WrongByte in
    let Text : List AllowedByte → List ℕ = λ xs. codes "returned " ++ (byte_text w.returned ++ (codes " at " ++ (address_text w.address
    ++ (codes ", which may be " ++ (alternatives_text xs ++ overwritten_text w.overwritten))))) in
    λ plain ok. subst P (ap Text c.as_slice.ensures.value ∙ ap cause_text (sym w.is)) (c.write-in-WrongByte.ensures.writes plain ok)
