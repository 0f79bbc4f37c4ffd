use Rattle.std.proofs.Common.{refl}
use Rattle.result_formats.specs.Details.{details_named}
use Rattle.result_formats.proofs.details.detail_fields.Goals as goal

pub returns : goal.returns
unfolding details_named
returns c =
    rw (
      c.count.ensures,
      c.count-2.ensures,
      c.count-3.ensures,
      c.count-4.ensures,
      c.count-5.ensures,
      c.count-6.ensures,
      c.count-7.ensures,
      c.count-8.ensures,
      c.count-9.ensures,
      c.count-10.ensures,
      c.count-11.ensures,
      c.count-12.ensures,
      c.count-13.ensures,
      c.mean-whole.ensures,
    ) refl
