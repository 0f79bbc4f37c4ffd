use Rattle.std.proofs.Common.{refl}
use Rattle.result_formats.specs.Counts.{table_named, requests_named, lost_named, waits_named}
use Rattle.result_formats.proofs.counts.table_fields.Goals as goal

pub returns : goal.returns
unfolding table_named requests_named lost_named waits_named
returns c =
    rw (
      c.count.ensures,
      c.count-2.ensures,
      c.count-3.ensures,
      c.count-4.ensures,
      c.count-5.ensures,
      c.count-6.ensures,
      c.count-7.ensures,
      c.count-8.ensures,
      c.count-9.ensures,
      c.count-10.ensures,
      c.count-11.ensures,
      c.count-12.ensures,
      c.count-13.ensures,
      c.count-14.ensures,
      c.count-15.ensures,
      c.count-16.ensures,
      c.count-17.ensures,
      c.count-18.ensures,
      c.from.ensures,
      c.mean_wait-whole.ensures,
    ) refl
