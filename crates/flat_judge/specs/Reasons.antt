-- Why a step isn't one of flat memory.
use Rattle.std.specs.Prelude.{ℕ, if◌then◌else◌, nat_lt, Bool, true, false, List, length, Option, Some, None, is_none}
use Rattle.flat_model.specs.declared.Word.{Word}
use Rattle.flat_model.specs.declared.Event.{Event}
use Rattle.flat_model.specs.declared.Event.TheVariants.{Load, Store, Prefetch, Take}
use Rattle.flat_model.specs.declared.Answer.{Answer}
use Rattle.flat_model.specs.declared.Answer.TheVariants.{Value}
use Rattle.flat_model.specs.Flat.{Flat, may_answer}
use Rattle.flat_model.specs.Words.{has_any}
use Rattle.flat_judge.specs.declared.table.Due.{Due}
use Rattle.flat_judge.specs.declared.reasons.Reason.{Reason}
use Rattle.flat_judge.specs.declared.reasons.Reason.TheVariants.{OutOfRange, NoLanes, TagInUse, NothingOwed, WrongWord, OtherAnswer}
use Rattle.flat_judge.specs.declared.reasons.Reason.TheVariants.{NoEvent, NoAnswer}
use Rattle.flat_judge.specs.Judge.{flat}

-- what stands against any answer to a load but one: there is no such word, or else the tag is owed a word already
abbrev pub against_load : Bool → Bool → Reason
against_load false free = OutOfRange
against_load true false = TagInUse
against_load true true = OtherAnswer

-- to a store: there is no such word, or else it names no lane
abbrev pub against_store : Bool → Bool → Reason
against_store false any = OutOfRange
against_store true false = NoLanes
against_store true true = OtherAnswer

-- to a prefetch: there is no such word
abbrev pub against_prefetch : Bool → Reason
against_prefetch false = OutOfRange
against_prefetch true = OtherAnswer

-- against a value that is taken, by what its tag is owed
abbrev pub against_value : Option Word → Reason
against_value None = NothingOwed
against_value (Some owed) = WrongWord owed

-- what stands against an answer that flat memory doesn't give
abbrev pub against : Flat → Event → Answer → Reason
against s (Load tag at) answer = against_load (nat_lt at (length s.mem)) (is_none (s.due tag))
against s (Store at word lanes) answer = against_store (nat_lt at (length s.mem)) (has_any lanes)
against s (Prefetch at) answer = against_prefetch (nat_lt at (length s.mem))
against s (Take place) (Value tag word) = against_value (s.due tag)
against s event answer = OtherAnswer

-- why flat memory doesn't give this answer to the event: `None` where it does
abbrev pub why_not : Flat → Event → Answer → Option Reason
why_not s event answer = if may_answer s event answer then None else Some (against s event answer)

-- why there is no such step, over words and a table: `None` where there is one
abbrev pub why : List Word → List Due → Option Event → Option Answer → Option Reason
why words due None answer = Some NoEvent
why words due (Some event) None = Some NoAnswer
why words due (Some event) (Some answer) = why_not (flat words due) event answer

-- the number of a reason, and 0 where there is none
abbrev pub number_of : Option Reason → ℕ
number_of None = 0
number_of (Some OutOfRange) = 141
number_of (Some NoLanes) = 142
number_of (Some TagInUse) = 143
number_of (Some NothingOwed) = 144
number_of (Some (WrongWord owed)) = 145
number_of (Some OtherAnswer) = 146
number_of (Some NoEvent) = 147
number_of (Some NoAnswer) = 148

-- the word that was owed, if another one was taken
abbrev pub owed_instead : Option Reason → Option Word
owed_instead (Some (WrongWord owed)) = Some owed
owed_instead reason = None
