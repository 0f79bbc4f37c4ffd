use Rattle.trace_text.proofs.Places.{first_end, no_end}
use Rattle.trace_text.proofs.pieces.end_of_line.Goals as goal

pub returns-clause-some : goal.returns-clause-some
returns-clause-some c = first_end _ _ _ c.next.result c.memchr_iter.ensures.value
    c.next.ensures.steps

pub returns-clause-none : goal.returns-clause-none
returns-clause-none c = no_end _ _ _ c.next.result c.memchr_iter.ensures.value
    c.next.ensures.steps
