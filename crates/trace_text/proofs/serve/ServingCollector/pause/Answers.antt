use Rattle.std.proofs.Common.{refl}
use Rattle.trace_text.proofs.Serving.{applied_still}
use Rattle.trace_text.proofs.serve.ServingCollector.pause.Goals as goal

pub returns-clause-kept : goal.returns-clause-kept
returns-clause-kept g c start texts went = applied_still went c.in_ok-flush_all.ensures.ok refl refl
