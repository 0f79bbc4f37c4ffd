use Rattle.std.proofs.Common.{◌∙◌, refl, sym, ap}
use Rattle.cache_unit.proofs.Numbers.{in_size}
use Rattle.cache_law.proofs.Opening.{IsSound-opening}
use Rattle.cache_unit.proofs.unit.ShapedUnit.new.Goals as goal

pub invariant_of-result : goal.invariant_of-result
invariant_of-result c =
    let z = c.args.sizes.now in
    let ranges = in_size z (sym c.bad_size.ensures ∙ c.in_default.is) in
    let made = c.in_ok-directory.ensures.made in
    let file = c.in_ok-registers.ensures.ok in
    record {
      ranges = ranges;
      sound = rw (made, file, c.new-4.ensures, c.in_ok-queue.ensures.ok, c.new-5.ensures) (IsSound-opening z ranges.some_words
          ranges.whole_blocks ranges.some_sets);
      limit = ap (λ q. q.limit) c.in_ok-queue.ensures.ok;
    }

pub returns-clause-ok : goal.returns-clause-ok
returns-clause-ok c =
    rw (c.in_ok-directory.ensures.made, c.in_ok-registers.ensures.ok, c.new-4.ensures, c.in_ok-queue.ensures.ok, c.new-5.ensures) refl
