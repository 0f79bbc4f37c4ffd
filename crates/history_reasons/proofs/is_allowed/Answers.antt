use Rattle.std.proofs.lemmas.Bool.Decides.{same_from_decides}
use Rattle.memory_histories.proofs.Law.{may_return_decides}
use Rattle.history_reasons.proofs.is_allowed.Goals as goal

pub returns : goal.returns
returns c = same_from_decides _ _ c.may_return.ensures.law (may_return_decides _ _ _ c.args.load.now _)
