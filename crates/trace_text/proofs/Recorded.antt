-- What is written of a line and of a recorded pair, and what is read back of it.
use Rattle.std.proofs.Common.{◌≡◌, decimal, ◌++◌, append_assoc, Option, Some, None, Ok, refl, ◌∙◌, ap, arith}
use Rattle.std.specs.Prelude.{codes}
use Rattle.flat_model.specs.declared.Event.{Event}
use Rattle.flat_model.specs.declared.Event.TheVariants.{Load, Store, Arrive}
use Rattle.flat_model.specs.declared.Answer.{Answer}
use Rattle.flat_model.specs.declared.Answer.TheVariants.{Value}
use Rattle.flat_model.specs.Texts as shown
use Rattle.trace_text.specs.Texts.{answer_text}
use Rattle.trace_text.specs.Pairs.{answered_pair, pair_with, pair_of}
use Rattle.trace_text.specs.Written.{line_text}
use Rattle.trace_text.specs.Recorded.{told_text, pair_text, IsTold, IsFitPair}
use Rattle.trace_text.specs.declared.lines.Line.{Line}
use Rattle.trace_text.specs.declared.lines.Line.TheVariants as line
use Rattle.trace_text.specs.declared.pairs.Pair.{Pair}
use Rattle.trace_text.proofs.Written.{line_back}
use Rattle.trace_text.proofs.AnswerTexts.{answer_back}
use Rattle.trace_text.proofs.Arrows.{read_behind}

-- ---- the texts of words, masks, events and answers are those that they are shown by

pub event_shown : (e : Event) → shown.event_text e ≡ line_text (line.Event e)
event_shown (Load tag at) = append_assoc (codes "load " ++ decimal tag) (codes " ") (decimal at)
event_shown (Store at word lanes) = grind (arith, append_assoc)
event_shown (Arrive bank place) = append_assoc (codes "arrive " ++ decimal bank) (codes " ") (decimal place)
event_shown e = refl

pub answer_shown : (a : Answer) → shown.answer_text a ≡ answer_text a
unfolding answer_text
answer_shown (Value tag word) = grind (arith, append_assoc)
answer_shown a = refl

-- ---- a pair is read back

told_back : (l : Line) (o : Option Answer) → IsTold l o → pair_with l (told_text o) ≡ Ok (record { line = l; answer = o })
told_back (line.Event event) (Some answer) fit = ap (answered_pair (line.Event event)) (answer_back answer fit)
told_back (line.Event event) None fit = absurd fit
told_back l None fit = refl
told_back l (Some answer) fit = absurd fit

pub recorded_back : (pair : Pair) → IsFitPair pair → pair_of (pair_text pair) ≡ Ok pair
recorded_back pair fit = read_behind (line_text pair.line) (told_text pair.answer) pair.line (line_back pair.line fit.0)
    ∙ told_back pair.line pair.answer fit.1
