-- The bytes that a load may return are told of a wrong byte alone.
use Rattle.std.proofs.Common.{◌≡◌, ℕ, List, Option, Some, None, refl, ap}
use Rattle.std.specs.Prelude.{codes}
use Rattle.named_fields.specs.Formats.{bytes, written}
use Rattle.history_text.specs.declared.answers.RefusalCause.{RefusalCause}
use Rattle.history_text.specs.declared.answers.RefusalCause.TheVariants.{OutOfRange, NoByteEnabled, NumberInUse, NotOpen, WrongLength}
use Rattle.history_text.specs.declared.answers.RefusalCause.TheVariants.{WrongByte, NoMoment}
use Rattle.result_formats.specs.Histories.{allowed_in, may_named, sources_in, sources_named, is_wrong_byte, may_told, sources_told}

pub may_is : (cause : Option RefusalCause) (allowed : List ℕ) → allowed ≡ allowed_in cause
    → may_told (is_wrong_byte cause) allowed ≡ may_named cause
may_is None allowed is = refl
may_is (Some (OutOfRange address n)) allowed is = refl
may_is (Some NoByteEnabled) allowed is = refl
may_is (Some NumberInUse) allowed is = refl
may_is (Some NotOpen) allowed is = refl
may_is (Some (WrongLength requested returned)) allowed is = refl
may_is (Some (WrongByte address returned set sources overwritten)) allowed is = ap (bytes (codes "may")) is
may_is (Some (NoMoment address overwritten)) allowed is = refl

pub sources_are : (cause : Option RefusalCause) (text : List ℕ) → text ≡ sources_in cause
    → sources_told (is_wrong_byte cause) text ≡ sources_named cause
sources_are None text is = refl
sources_are (Some (OutOfRange address n)) text is = refl
sources_are (Some NoByteEnabled) text is = refl
sources_are (Some NumberInUse) text is = refl
sources_are (Some NotOpen) text is = refl
sources_are (Some (WrongLength requested returned)) text is = refl
sources_are (Some (WrongByte address returned set sources overwritten)) text is = ap (written (codes "may_from")) is
sources_are (Some (NoMoment address overwritten)) text is = refl
