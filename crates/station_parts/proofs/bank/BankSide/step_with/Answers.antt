use Rattle.std.proofs.Common.{◌∙◌, arith, append-nil, length-set}
use Rattle.memory_banks.proofs.Behind.{after-append, answers_to-append}
use Rattle.station_parts.proofs.Turning.{front_is}
use Rattle.station_parts.proofs.bank.BankSide.step_with.Goals as goal

pub invariant_of-self-in-Read : goal.invariant_of-self-in-Read
invariant_of-self-in-Read c =
    let pop = c.pop_known in
    let first = front_is _ pop.result _ _ c.peek_known.ensures pop.ensures.received.1 ∙ c.in-Read.is in
    record {
      stored = grind (arith, first, after-append);
      answered = grind (arith, first, after-append, answers_to-append);
    }

pub invariant_of-self-in-Write : goal.invariant_of-self-in-Write
invariant_of-self-in-Write c =
    let pop = c.pop_known-in-Write in
    let first = front_is _ pop.result _ _ c.peek_known.ensures pop.ensures.received.1 ∙ c.in-Write.is in
    record {
      stored = grind (arith, first, after-append, length-set);
      answered = grind (arith, first, after-append, answers_to-append, append-nil, length-set);
    }
