use Rattle.std.proofs.Common.{refl}
use Rattle.result_formats.specs.Details.{series_named}
use Rattle.result_formats.proofs.details.detail_series.Goals as goal

pub returns : goal.returns
unfolding series_named
returns c =
    rw (
      c.as_slice.ensures,
      c.as_slice-2.ensures,
      c.as_slice-3.ensures,
      c.as_slice-4.ensures,
      c.as_slice-5.ensures,
      c.buckets.ensures,
      c.buckets-2.ensures,
    ) refl
