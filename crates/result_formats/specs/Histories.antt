-- What became of a history, by names.
use Rattle.std.specs.Prelude.{ℕ, Bool, true, false, Option, Some, None, List, [], ◌∷◌, ◌++◌, codes}
use Rattle.history_sessions.specs.Words.{bytes_of}
use Rattle.named_fields.specs.Formats.{Named, named, absent, counted, counted_if, worded, written, bytes, verdict_in}
use Rattle.named_fields.specs.declared.figures.Figure.TheVariants.{OfByte}
use Rattle.named_fields.specs.declared.format.VerdictFormat.{VerdictFormat}
use Rattle.history_sessions.specs.History.{name_of, law_text}
use Rattle.history_sessions.specs.declared.judge.HistoryLaw.{HistoryLaw}
use Rattle.history_sessions.specs.declared.judge.HistoryLaw.TheVariants.{Atomic}
use Rattle.history_text.specs.Answers.{bytes_in_set, alternatives_text, kind_text, end_text}
use Rattle.history_text.specs.declared.answers.Refusal.{Refusal}
use Rattle.history_text.specs.declared.answers.OverwrittenByte.{OverwrittenByte}
use Rattle.history_text.specs.declared.answers.RefusalCause.{RefusalCause}
use Rattle.history_text.specs.declared.answers.RefusalCause.TheVariants.{OutOfRange, NoByteEnabled, NumberInUse, NotOpen, WrongLength}
use Rattle.history_text.specs.declared.answers.RefusalCause.TheVariants.{WrongByte, NoMoment}
use Rattle.history_text.specs.declared.answers.HistoryEnd.{HistoryEnd}
use Rattle.history_text.specs.declared.answers.HistoryEnd.TheVariants.{OfLaw, Refused, Undecided}

-- ---- the law

-- the size of a unit, in which an operation takes effect at one moment
abbrev pub unit_of : HistoryLaw → Option ℕ
unit_of (Atomic size limit) = Some (bytes_of size)
unit_of law = None

-- ---- the end

abbrev pub verdict_name : HistoryEnd → List ℕ
verdict_name (OfLaw events still_open) = codes "of_law"
verdict_name (Refused refusal) = codes "refused"
verdict_name (Undecided line address) = codes "undecided"

abbrev pub events_in : HistoryEnd → Option ℕ
events_in (OfLaw events still_open) = Some events
events_in end = None

abbrev pub open_in : HistoryEnd → Option ℕ
open_in (OfLaw events still_open) = Some still_open
open_in end = None

abbrev pub line_in : HistoryEnd → Option ℕ
line_in (OfLaw events still_open) = None
line_in (Refused refusal) = Some refusal.line
line_in (Undecided line address) = Some line

abbrev pub end_named : HistoryLaw → HistoryEnd → List Named
end_named law end =
    worded (codes "verdict") (verdict_name end) ∷ worded (codes "law") (law_text (name_of law))
    ∷ counted_if (codes "unit") (unit_of law) ∷ counted_if (codes "events") (events_in end)
    ∷ counted_if (codes "open") (open_in end) ∷ counted_if (codes "line") (line_in end) ∷ []

-- ---- a refusal

abbrev pub refusal_in : HistoryEnd → Option Refusal
refusal_in (Refused refusal) = Some refusal
refusal_in end = None

abbrev pub operation_named : Option Refusal → List Named
operation_named None = absent (codes "operation") ∷ absent (codes "number") ∷ []
operation_named (Some r) =
    worded (codes "operation") (kind_text r.kind) ∷ counted (codes "number") r.number ∷ []

abbrev pub cause_in : Option Refusal → Option RefusalCause
cause_in None = None
cause_in (Some r) = Some r.cause

abbrev pub cause_name : RefusalCause → List ℕ
cause_name (OutOfRange address length) = codes "out_of_range"
cause_name NoByteEnabled = codes "no_byte_enabled"
cause_name NumberInUse = codes "number_in_use"
cause_name NotOpen = codes "not_open"
cause_name (WrongLength requested returned) = codes "wrong_length"
cause_name (WrongByte address returned allowed sources overwritten) = codes "wrong_byte"
cause_name (NoMoment address overwritten) = codes "no_moment"

abbrev pub cause_named : Option RefusalCause → Named
cause_named None = absent (codes "cause")
cause_named (Some cause) = worded (codes "cause") (cause_name cause)

abbrev pub cause_address : RefusalCause → Option ℕ
cause_address (OutOfRange address length) = Some address
cause_address (WrongByte address returned allowed sources overwritten) = Some address
cause_address (NoMoment address overwritten) = Some address
cause_address cause = None

-- where the operation that is refused begins, or the byte or the unit lies of which that is told, or that it can't be told
abbrev pub address_in : HistoryEnd → Option ℕ
address_in (OfLaw events still_open) = None
address_in (Refused refusal) = cause_address refusal.cause
address_in (Undecided line address) = Some address

-- how many bytes an operation out of range has; how many a load asked for, and how many it returned in their place
abbrev pub length_in : Option RefusalCause → Option ℕ
length_in (Some (OutOfRange address length)) = Some length
length_in cause = None

abbrev pub requested_in : Option RefusalCause → Option ℕ
requested_in (Some (WrongLength requested returned)) = Some requested
requested_in cause = None

abbrev pub returned_length_in : Option RefusalCause → Option ℕ
returned_length_in (Some (WrongLength requested returned)) = Some returned
returned_length_in cause = None

-- the first byte that a load may not return, and those that it may
abbrev pub returned_named : Option RefusalCause → Named
returned_named (Some (WrongByte address returned allowed sources overwritten)) = named (codes "returned") (OfByte returned)
returned_named cause = absent (codes "returned")

abbrev pub allowed_in : Option RefusalCause → List ℕ
allowed_in (Some (WrongByte address returned allowed sources overwritten)) = bytes_in_set allowed
allowed_in cause = []

abbrev pub may_named : Option RefusalCause → Named
may_named (Some (WrongByte address returned allowed sources overwritten)) = bytes (codes "may") (bytes_in_set allowed)
may_named cause = absent (codes "may")

abbrev pub why_named : Option ℕ → Option RefusalCause → List Named
why_named address cause =
    cause_named cause ∷ counted_if (codes "address") address ∷ counted_if (codes "length") (length_in cause)
    ∷ counted_if (codes "requested") (requested_in cause) ∷ counted_if (codes "returned_length") (returned_length_in cause)
    ∷ returned_named cause ∷ may_named cause ∷ []

-- whether that is told
abbrev pub is_wrong_byte : Option RefusalCause → Bool
is_wrong_byte (Some (WrongByte address returned allowed sources overwritten)) = true
is_wrong_byte cause = false

abbrev pub may_told : Bool → List ℕ → Named
may_told true allowed = bytes (codes "may") allowed
may_told false allowed = absent (codes "may")

abbrev pub sources_told : Bool → List ℕ → Named
sources_told true sources = written (codes "may_from") sources
sources_told false sources = absent (codes "may_from")

-- where those bytes come from, in the words of the text
abbrev pub sources_in : Option RefusalCause → List ℕ
sources_in (Some (WrongByte address returned allowed sources overwritten)) = alternatives_text sources.items
sources_in cause = []

abbrev pub sources_named : Option RefusalCause → Named
sources_named (Some (WrongByte address returned allowed sources overwritten)) =
    written (codes "may_from") (alternatives_text sources.items)
sources_named cause = absent (codes "may_from")

-- who overwrote a byte that came: its address, and the store's number
abbrev pub overwritten_in : Option RefusalCause → Option OverwrittenByte
overwritten_in (Some (WrongByte address returned allowed sources overwritten)) = overwritten
overwritten_in (Some (NoMoment address overwritten)) = overwritten
overwritten_in cause = None

abbrev pub overwritten_named : Option OverwrittenByte → List Named
overwritten_named None =
    absent (codes "overwritten") ∷ absent (codes "overwritten_address") ∷ absent (codes "overwritten_by") ∷ []
overwritten_named (Some o) =
    named (codes "overwritten") (OfByte o.byte) ∷ counted (codes "overwritten_address") o.address
    ∷ counted (codes "overwritten_by") o.number ∷ []

abbrev pub stores_named : Option RefusalCause → List Named
stores_named cause = sources_named cause ∷ overwritten_named (overwritten_in cause)

-- ---- the whole

unfoldable pub history_named : HistoryLaw → HistoryEnd → List Named
history_named law end =
    end_named law end ++ (operation_named (refusal_in end)
    ++ (why_named (address_in end) (cause_in (refusal_in end)) ++ stores_named (cause_in (refusal_in end))))

unfoldable pub history_in : VerdictFormat → HistoryLaw → HistoryEnd → List ℕ
history_in format law end = verdict_in format (end_text (name_of law) end) (history_named law end)
