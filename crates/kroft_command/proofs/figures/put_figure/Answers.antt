use Rattle.std.proofs.Common.{ℕ, List, ap, subst, ◌∙◌, inl}
use Rattle.result_figures.specs.Marks.{omissions_text}
use Rattle.kroft_command.specs.Program.{TellsText, PutsText}
use Rattle.kroft_command.proofs.Answering.{text_put}
use Rattle.kroft_command.proofs.figures.put_figure.Goals as goal

pub returns-clause-ends : goal.returns-clause-ends
returns-clause-ends g c =
    let same = ap (λ m. m.items) c.in_ok-drawing.ensures in
    let omitted = c.as_str.ensures.value ∙ (c.in_ok-omissions.ensures ∙ ap omissions_text (c.marks.ensures ∙ same)) in
    let tells : List ℕ → Type 0 = λ t. TellsText g.E.Sink.took g.E.Sink.refused g.E.Sink.unflushed t c.args.errors.now c.tell.new.errors in
    let puts : List ℕ → Type 0 = λ t. PutsText g.O.Sink.took g.O.Sink.refused g.O.Sink.unflushed t c.args.output.now c.answer.new.output
    c.answer.result in
    let put = text_put g.O.Sink.took g.O.Sink.refused g.O.Sink.unflushed c.args.output.now c.answer.new.output c.as_str-2.result.now
    c.answer.result c.answer.ensures.ok c.answer.ensures.status c.answer.ensures.err c.answer.ensures.fault in
    inl (c.in_ok-drawing.drawing, same, subst tells omitted c.tell.ensures, subst puts c.as_str-2.ensures put)
