-- Why a recorded run is none of flat memory, by names.
use Rattle.std.specs.Prelude.{ℕ, Option, Some, None, List, [], ◌∷◌, ◌++◌, codes}
use Rattle.flat_model.specs.Causes.{cause_name}
use Rattle.flat_model.specs.Flat.{number}
use Rattle.flat_model.specs.declared.Answer.{Answer}
use Rattle.flat_model.specs.declared.Answer.TheVariants.{Refused}
use Rattle.named_fields.specs.Formats.{Named, named, absent, counted, counted_if, worded, verdict_in}
use Rattle.named_fields.specs.declared.figures.Figure.TheVariants.{Truth, OfWord, OfEvent, OfAnswer}
use Rattle.named_fields.specs.declared.format.VerdictFormat.{VerdictFormat}
use Rattle.run_reasons.specs.Texts.{explanation_text}
use Rattle.run_reasons.specs.declared.explain.Explanation.{Explanation}
use Rattle.run_reasons.specs.declared.explain.Explanation.TheVariants as explained
use Rattle.run_reasons.specs.declared.reason.Mismatch.{Mismatch}
use Rattle.run_reasons.specs.declared.reason.WrongWord.{WrongWord}
use Rattle.run_reasons.specs.declared.reason.Reason.{Reason}
use Rattle.run_reasons.specs.declared.reason.Reason.TheVariants as reason
use Rattle.result_formats.specs.Origins.{origins_in}
use Rattle.result_formats.specs.declared.origins.ByteOrigins.{ByteOrigins}
use Rattle.result_formats.specs.declared.origins.BytePlace.{BytePlace}
use Rattle.result_formats.specs.declared.origins.BytePlace.TheVariants.{First, Second, Third, Fourth}

-- ---- parts of an explanation

abbrev pub mismatch_in : Explanation → Option Mismatch
mismatch_in (explained.Flat steps) = None
mismatch_in (explained.Mismatch m) = Some m

abbrev pub reason_in : Explanation → Option Reason
reason_in (explained.Flat steps) = None
reason_in (explained.Mismatch m) = Some m.reason

abbrev pub wrong_in : Option Reason → Option WrongWord
wrong_in (Some (reason.WrongWord wrong)) = Some wrong
wrong_in why = None

-- ---- the verdict, and the line

abbrev pub ending_named : Explanation → List Named
ending_named (explained.Flat steps) =
    worded (codes "verdict") (codes "flat") ∷ counted (codes "steps") steps ∷ absent (codes "line") ∷ []
ending_named (explained.Mismatch m) =
    worded (codes "verdict") (codes "mismatch") ∷ absent (codes "steps") ∷ counted (codes "line") m.line ∷ []

-- the cause of a refusal, by its number and its name
abbrev pub cause_named : Answer → List Named
cause_named (Refused cause) =
    counted (codes "cause") (number cause) ∷ worded (codes "cause_name") (cause_name cause) ∷ []
cause_named answer = absent (codes "cause") ∷ absent (codes "cause_name") ∷ []

abbrev pub pair_named : Option Mismatch → List Named
pair_named None = absent (codes "event") ∷ absent (codes "answer") ∷ absent (codes "cause") ∷ absent (codes "cause_name") ∷ []
pair_named (Some m) =
    named (codes "event") (OfEvent m.event) ∷ named (codes "answer") (OfAnswer m.answer) ∷ cause_named m.answer

-- ---- why

abbrev pub reason_name : Reason → List ℕ
reason_name reason.NeverAnswered = codes "never_answered"
reason_name reason.NeverRefused = codes "never_refused"
reason_name (reason.Outside at words) = codes "outside_memory"
reason_name (reason.Inside at words) = codes "inside_memory"
reason_name (reason.TagInUse tag line) = codes "tag_in_use"
reason_name (reason.NeverLoaded tag) = codes "never_loaded"
reason_name (reason.Taken tag line) = codes "taken"
reason_name reason.NoLanes = codes "no_lanes"
reason_name reason.HasLanes = codes "has_lanes"
reason_name (reason.WrongWord wrong) = codes "wrong_word"

abbrev pub reason_named : Option Reason → Named
reason_named None = absent (codes "reason")
reason_named (Some why) = worded (codes "reason") (reason_name why)

-- the tag that it is about,
abbrev pub tag_in : Option Reason → Option ℕ
tag_in (Some (reason.TagInUse tag line)) = Some tag
tag_in (Some (reason.NeverLoaded tag)) = Some tag
tag_in (Some (reason.Taken tag line)) = Some tag
tag_in (Some (reason.WrongWord wrong)) = Some wrong.tag
tag_in why = None

-- the word's address,
abbrev pub address_in : Option Reason → Option ℕ
address_in (Some (reason.Outside at words)) = Some at
address_in (Some (reason.Inside at words)) = Some at
address_in (Some (reason.WrongWord wrong)) = Some wrong.load.at
address_in why = None

-- how many words memory has,
abbrev pub words_in : Option Reason → Option ℕ
words_in (Some (reason.Outside at words)) = Some words
words_in (Some (reason.Inside at words)) = Some words
words_in why = None

-- the line of the load that has the tag,
abbrev pub load_line_in : Option Reason → Option ℕ
load_line_in (Some (reason.TagInUse tag line)) = Some line
load_line_in (Some (reason.WrongWord wrong)) = Some wrong.load.line
load_line_in why = None

-- and the line in which the tag's value was taken
abbrev pub taken_line_in : Option Reason → Option ℕ
taken_line_in (Some (reason.Taken tag line)) = Some line
taken_line_in why = None

abbrev pub about_named : Option Reason → List Named
about_named why =
    reason_named why ∷ counted_if (codes "tag") (tag_in why) ∷ counted_if (codes "address") (address_in why)
    ∷ counted_if (codes "words") (words_in why) ∷ counted_if (codes "load_line") (load_line_in why)
    ∷ counted_if (codes "taken_line") (taken_line_in why) ∷ []

-- ---- a wrong word

abbrev pub words_named : Option WrongWord → List Named
words_named None = absent (codes "owed") ∷ absent (codes "got") ∷ []
words_named (Some wrong) = named (codes "owed") (OfWord wrong.load.word) ∷ named (codes "got") (OfWord wrong.got) ∷ []

-- whether the word that came stood there at some moment since the load was accepted: then the run with this line is an atomic
-- history
abbrev pub atomic_named : Option WrongWord → Named
atomic_named None = absent (codes "atomic")
atomic_named (Some wrong) = named (codes "atomic") (Truth wrong.stood_since)

-- where a byte comes from that isn't the one that is owed
abbrev pub origins_named : BytePlace → ByteOrigins → List Named
origins_named First o =
    counted_if (codes "byte0_owed_from") o.owed_from ∷ counted_if (codes "byte0_got_from") o.got_from
    ∷ counted_if (codes "byte0_put_by") o.put_by ∷ counted_if (codes "byte0_overwritten_by") o.overwritten_by ∷ []
origins_named Second o =
    counted_if (codes "byte1_owed_from") o.owed_from ∷ counted_if (codes "byte1_got_from") o.got_from
    ∷ counted_if (codes "byte1_put_by") o.put_by ∷ counted_if (codes "byte1_overwritten_by") o.overwritten_by ∷ []
origins_named Third o =
    counted_if (codes "byte2_owed_from") o.owed_from ∷ counted_if (codes "byte2_got_from") o.got_from
    ∷ counted_if (codes "byte2_put_by") o.put_by ∷ counted_if (codes "byte2_overwritten_by") o.overwritten_by ∷ []
origins_named Fourth o =
    counted_if (codes "byte3_owed_from") o.owed_from ∷ counted_if (codes "byte3_got_from") o.got_from
    ∷ counted_if (codes "byte3_put_by") o.put_by ∷ counted_if (codes "byte3_overwritten_by") o.overwritten_by ∷ []

abbrev pub byte_named : BytePlace → Option WrongWord → List Named
byte_named place wrong = origins_named place (origins_in place wrong)

abbrev pub bytes_named : Option WrongWord → List Named
bytes_named wrong =
    byte_named First wrong ++ (byte_named Second wrong ++ (byte_named Third wrong ++ byte_named Fourth wrong))

-- ---- the whole

-- which answer it is that flat memory doesn't give, and why
abbrev pub front_named : Option Mismatch → Option Reason → List Named
front_named mismatch why = pair_named mismatch ++ (about_named why ++ words_named (wrong_in why))

-- what became of a recorded run
unfoldable pub explanation_named : Explanation → List Named
explanation_named e =
    ending_named e
    ++ (front_named (mismatch_in e) (reason_in e) ++ (bytes_named (wrong_in (reason_in e)) ++ atomic_named (wrong_in (reason_in e)) ∷ []))

unfoldable pub explanation_in : VerdictFormat → Explanation → List ℕ
explanation_in format e = verdict_in format (explanation_text e) (explanation_named e)
