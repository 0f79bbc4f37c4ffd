use Rattle.std.proofs.Common.{refl}
use Rattle.std.specs.Option.{option_copied}
use Rattle.result_formats.proofs.ToldBytes.{may_is}
use Rattle.result_formats.proofs.histories.why_fields.Goals as goal

pub returns : goal.returns
returns c =
    rw (
      c.cause_field.ensures,
      c.count_if.ensures,
      c.count_if-2.ensures,
      c.length_in.ensures,
      c.count_if-3.ensures,
      c.requested_in.ensures,
      c.count_if-4.ensures,
      c.returned_length_in.ensures,
      c.returned_field.ensures,
      c.may_field.ensures,
      c.is_wrong_byte.ensures,
      may_is (option_copied c.args.cause) c.args.allowed.now c.requires,
    ) refl
