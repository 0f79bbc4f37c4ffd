use Rattle.trace_text.proofs.Written.{word_read, mask_read}
use Rattle.trace_text.proofs.laws.words_and_masks.Goals as goal

pub returns-clause-words : goal.returns-clause-words
returns-clause-words c = word_read

pub returns-clause-masks : goal.returns-clause-masks
returns-clause-masks c = mask_read
