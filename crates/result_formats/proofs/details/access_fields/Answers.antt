use Rattle.std.proofs.Common.{refl}
use Rattle.result_formats.specs.Details.{accesses_named}
use Rattle.result_formats.proofs.details.access_fields.Goals as goal

pub returns : goal.returns
unfolding accesses_named
returns c =
    rw (
      c.sum.ensures,
      c.sum-2.ensures,
      c.sum-3.ensures,
      c.sum-4.ensures,
      c.sum-5.ensures,
      c.count.ensures,
      c.count-2.ensures,
      c.count-3.ensures,
      c.count-4.ensures,
      c.count-5.ensures,
      c.count-6.ensures,
      c.count-7.ensures,
      c.count-8.ensures,
      c.count-9.ensures,
      c.count-10.ensures,
    ) refl
