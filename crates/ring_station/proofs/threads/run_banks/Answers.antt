use Rattle.std.proofs.Common.{rules}
use Rattle.ring_station.proofs.threads.run_banks.Goals as goal

pub returns-clause-served : goal.returns-clause-served
returns-clause-served g c = record {
  number = search rules;
  each = λ b d less.
      let at = (c.for_each_share.ensures.each b d less).1 in
      rw (← at.old_element, ← at.new_element) (at.call.0.each at.offset d at.offset_in_chunk);
}

pub returns-clause-threads : goal.returns-clause-threads
returns-clause-threads g c = λ n less.
    let at = c.for_each_share.ensures.shares n less in
    rw (← at.argument_is, ← at.left) at.call.1
