use Rattle.std.proofs.Common.{arith}
use Rattle.round_driver.proofs.Runs.{text_more}
use Rattle.round_driver.proofs.writing.round_text.Goals as goal

pub loop-note-preserved : goal.loop-note-preserved
loop-note-preserved c = grind (arith, text_more)
