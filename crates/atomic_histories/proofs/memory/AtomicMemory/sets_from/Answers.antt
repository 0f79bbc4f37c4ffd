use Rattle.std.proofs.Common.{◌≡◌, ◌+◌, Some, false, sym, subst, arith}
use Rattle.atomic_histories.specs.May.{IsSet, may_return_at, AreSetsFrom, is_wide_at}
use Rattle.atomic_histories.specs.Judge.{held, limit_of}
use Rattle.atomic_histories.proofs.MaySteps.{one_set_more, narrow_more}
use Rattle.atomic_histories.proofs.memory.AtomicMemory.sets_from.Goals as goal

pub loop-i-preserved : goal.loop-i-preserved
loop-i-preserved c =
    let h = held c.args.self.now in
    let number = c.args.number in
    let address = c.args.address in
    let i = c.loop-i.i in
    let set = c.in_ok-set.set in
    let here =
    subst (λ a. IsSet (may_return_at h (Some c.args.load) number a) set) c.byte_address.ensures c.in_ok-set.ensures.set in
    let limit = limit_of c.args.self.now in
    record {
      sets = subst (λ items. AreSetsFrom h (Some c.args.load) number address 0 (i + 1) items) (sym c.in_ok-push_set.ensures)
          (one_set_more h (Some c.args.load) number address i c.loop-i.sets.items set c.loop-i.invariant.sets here);
      narrow = narrow_more limit h number address i c.loop-i.invariant.narrow
          (subst (λ a. is_wide_at limit h number a ≡ false) c.byte_address.ensures c.in_ok-set.ensures.narrow);
    }

pub returns-in_err-set-clause-fault : goal.returns-in_err-set-clause-fault
returns-in_err-set-clause-fault c = grind arith
