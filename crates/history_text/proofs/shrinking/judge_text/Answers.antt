use Rattle.std.proofs.Common.{Some}
use Rattle.std.specs.Io.KnownBytes.{Keeps}
use Rattle.history_text.proofs.Shortened.{judged_text}
use Rattle.history_text.proofs.shrinking.judge_text.Goals as goal

pub returns : goal.returns
returns c =
    judged_text _ (λ r r'. Keeps (Some r.now) (Some r'.now)) (λ r. r.now) (λ r bytes r' came. came.0) _ _ _ _ c.judge_by_law.ensures
