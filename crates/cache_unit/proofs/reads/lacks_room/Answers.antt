use Rattle.std.proofs.Common.{◌%◌, ◌==◌, nat_lt, length, sym, ap, ◌∙◌, arith}
use Rattle.std.specs.List.{filter}
use Rattle.cache_law.specs.Reads.{is_short}
use Rattle.cache_unit.proofs.BlockReads.{any_found, none_found}
use Rattle.cache_unit.proofs.reads.lacks_room.Goals as goal

pub returns-then-is_short : goal.returns-then-is_short
returns-then-is_short g c =
    let p = is_short _ _ _ _ in
    let share = length (filter (λ at. at % c.args.banks == c.loop-bank.bank) _) in
    sym (any_found p _ c.loop-bank.bank c.loop-bank-test.true (ap (λ r. nat_lt r share) (sym c.room.ensures) ∙ sym c.is_short.ensures
    ∙ c.if-is_short.true))

pub loop-bank-preserved : goal.loop-bank-preserved
loop-bank-preserved g c = grind arith

pub returns : goal.returns
returns g c = grind (arith, none_found, c.loop-bank.invariant)
