use Rattle.std.proofs.Common.{arith}
use Rattle.memory_banks.specs.Banks.{bank_at}
use Rattle.machine_core.proofs.Weighing.{commands_weigh_all}
use Rattle.machine_core.proofs.weigh.weight_of_bank.Goals as goal

pub returns-clause-value : goal.returns-clause-value
returns-clause-value c =
    let commands = commands_weigh_all (bank_at c.args.banks.now.banks c.args.bank).queue in
    omega (arith, c.queued.ensures.value, c.reads.ensures, c.answers.ensures)
