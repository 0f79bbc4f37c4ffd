use Rattle.std.proofs.Common.{refl}
use Rattle.history_text.proofs.refusals.refusal.Goals as goal

pub returns : goal.returns
returns c s st refused = record {
  at = refl;
  kind = c.kind_of.ensures;
  number = c.number_of.ensures;
  fault = c.args.fault;
  refused = refused;
  cause = c.in_ok-cause.ensures s st;
}
