use Rattle.trace_text.proofs.Unique.{fault_stands}
use Rattle.trace_text.proofs.laws.faults_stand.Goals as goal

pub returns : goal.returns
returns c = fault_stands
