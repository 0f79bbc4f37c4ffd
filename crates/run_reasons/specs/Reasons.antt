-- Why flat memory can't answer an event so.
use Rattle.std.specs.Prelude.{ℕ, Bool, true, false, ◌||◌, if◌then◌else◌, nat_lt, length}
use Rattle.std.specs.List.{list_any}
use Rattle.flat_model.specs.declared.Word.{Word}
use Rattle.flat_model.specs.declared.Cause.TheVariants.{OutOfRange}
use Rattle.flat_model.specs.declared.Event.{Event}
use Rattle.flat_model.specs.declared.Event.TheVariants.{Load, Store, Prefetch, Evict, Drain, Serve, Arrive, Process, Take}
use Rattle.flat_model.specs.declared.Answer.{Answer}
use Rattle.flat_model.specs.declared.Answer.TheVariants.{Accepted, Moved, Value, Nothing, Refused}
use Rattle.flat_model.specs.Causes.{may_refuse}
use Rattle.flat_model.specs.Words.{has_any}
use Rattle.flat_model.specs.Flat.{word_at, same_word}
use Rattle.run_reasons.specs.Origins.{Origins, stores_at, later_stores}
use Rattle.run_reasons.specs.Pasts.{pasts_of}
use Rattle.run_reasons.specs.declared.origins.TagUse.{TagUse}
use Rattle.run_reasons.specs.declared.origins.TagUse.TheVariants as state
use Rattle.run_reasons.specs.declared.reason.Mismatch.{Mismatch}
use Rattle.run_reasons.specs.declared.reason.Reason.{Reason}
use Rattle.run_reasons.specs.declared.reason.Reason.TheVariants.{NeverAnswered, NeverRefused, Outside, Inside, TagInUse, NeverLoaded, Taken}
use Rattle.run_reasons.specs.declared.reason.Reason.TheVariants.{NoLanes, HasLanes, WrongWord}

-- ---- what an event is answered, whatever flat memory holds

-- the events that may be accepted
abbrev pub is_accepted : Event → Bool
is_accepted (Load tag at) = true
is_accepted (Store at word lanes) = true
is_accepted (Prefetch at) = true
is_accepted (Evict block) = true
is_accepted event = false

-- the events that may move something on
abbrev pub is_moved : Event → Bool
is_moved Drain = true
is_moved (Serve bank) = true
is_moved (Arrive bank place) = true
is_moved (Process place) = true
is_moved event = false

abbrev pub is_take : Event → Bool
is_take (Take place) = true
is_take event = false

-- whether the event ever gets the answer
abbrev pub is_ever : Event → Answer → Bool
is_ever event Accepted = is_accepted event
is_ever event Moved = is_moved event
is_ever event Nothing = is_moved event || is_take event
is_ever event (Value tag word) = is_take event
is_ever event (Refused cause) = may_refuse event cause

-- ---- reasons

-- against an answer that the event never gets
abbrev pub never : Answer → Reason
never (Refused c) = NeverRefused
never answer = NeverAnswered

abbrev pub is_out_of_range : Answer → Bool
is_out_of_range (Refused OutOfRange) = true
is_out_of_range answer = false

-- against a load under a tag: it is in use, or refused as if it were
abbrev pub tag_reason : ℕ → TagUse → Reason
tag_reason tag state.Never = NeverLoaded tag
tag_reason tag (state.Loaded load) = TagInUse tag load.line
tag_reason tag (state.Taken n) = Taken tag n

-- against a value under a tag
abbrev pub value_reason : Origins → ℕ → Word → TagUse → Reason
value_reason o tag got state.Never = NeverLoaded tag
value_reason o tag got (state.Loaded load) = WrongWord (record {
  tag = tag;
  load = load;
  got = got;
  later = later_stores load.line (word_at o.flat.mem load.at) got (stores_at o.stores load.at);
  past = pasts_of o.past load.at got;
  stood_since = list_any (λ word. same_word word got) (o.since tag);
})
value_reason o tag got (state.Taken n) = Taken tag n

-- against the answer to a request for a word: where it lies comes first, and then what else its answers depend on
abbrev pub place_reason : Origins → ℕ → Answer → Reason → Reason
place_reason o at answer other =
    if nat_lt at (length o.flat.mem) then (if is_out_of_range answer then Inside at (length o.flat.mem) else other)
    else Outside at (length o.flat.mem)

-- against an answer that the event may get elsewhere
abbrev pub reason_here : Origins → Event → Answer → Reason
reason_here o (Load tag at) answer = place_reason o at answer (tag_reason tag (o.tags tag))
reason_here o (Store at word lanes) answer = place_reason o at answer (if has_any lanes then HasLanes else NoLanes)
reason_here o (Prefetch at) answer = place_reason o at answer (never answer)
reason_here o (Take place) (Value tag word) = value_reason o tag word (o.tags tag)
reason_here o event answer = never answer

-- why flat memory can't answer an event so, where it can't
abbrev pub reason_of : Origins → Event → Answer → Reason
reason_of o event answer = if is_ever event answer then reason_here o event answer else never answer

-- the mismatch of line n
abbrev pub mismatch_at : Origins → ℕ → Event → Answer → Mismatch
mismatch_at o n event answer = record { line = n; event = event; answer = answer; reason = reason_of o event answer }
