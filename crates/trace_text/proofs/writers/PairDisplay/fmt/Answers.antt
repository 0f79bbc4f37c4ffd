use Rattle.std.proofs.Common.{ℕ, List, ◌++◌, Option, ap, sym, ◌∙◌, subst}
use Rattle.std.specs.Prelude.{codes}
use Rattle.std.specs.Fmt.{HasWritten}
use Rattle.flat_model.specs.declared.Answer.{Answer}
use Rattle.trace_text.specs.Written.{line_text}
use Rattle.trace_text.specs.Recorded.{told_text}
use Rattle.trace_text.proofs.Recorded.{answer_shown}
use Rattle.trace_text.proofs.writers.PairDisplay.fmt.Goals as goal

pub returns-in-Some-clause-writes : goal.returns-in-Some-clause-writes
returns-in-Some-clause-writes g c =
    let line = c.args.self.now.line in
    let P : List ℕ → Type 0 = λ bs. HasWritten {W = g.row.W.Denot} g.W.Write.write_str_gives c.args.f.now bs c.write.new.self in
    let told = ap (λ bs. line_text line ++ (codes " -> " ++ bs)) (answer_shown c.in-Some.answer) in
    let whole = ap (λ (o : Option Answer). line_text line ++ (codes " -> " ++ told_text o)) (sym c.in-Some.is) in
    λ plain ok. subst P (told ∙ whole) (c.write.ensures.writes plain ok)
