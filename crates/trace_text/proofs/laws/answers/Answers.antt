use Rattle.trace_text.proofs.AnswerTexts.{answer_is, answer_back}
use Rattle.trace_text.proofs.laws.answers.Goals as goal

pub returns-clause-read : goal.returns-clause-read
returns-clause-read c = answer_is

pub returns-clause-written : goal.returns-clause-written
returns-clause-written c = answer_back
