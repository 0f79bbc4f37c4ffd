-- The causes of refusal as one table: the name of each, what it says in words, whether it ends a request or passes, and which
-- events may be refused so. Their numbers stand with flat memory.
use Rattle.std.specs.Prelude.{ℕ, Bool, true, false, List, codes}
use Rattle.flat_model.specs.declared.Cause.{Cause}
use Rattle.flat_model.specs.declared.Cause.TheVariants.{OutOfRange, NoLanes, TagInUse, RepliesFull, TargetsFull, BlockQueued, NoRegister}
use Rattle.flat_model.specs.declared.Cause.TheVariants.{SetPending, QueueFull, BankFull, NotPresent, StackFull, StrayWord}
use Rattle.flat_model.specs.declared.Event.{Event}
use Rattle.flat_model.specs.declared.Event.TheVariants.{Load, Store, Prefetch, Evict, Drain, Arrive}

abbrev pub cause_name : Cause → List ℕ
cause_name OutOfRange = codes "out of range"
cause_name NoLanes = codes "no lanes"
cause_name TagInUse = codes "tag in use"
cause_name RepliesFull = codes "replies full"
cause_name TargetsFull = codes "targets full"
cause_name BlockQueued = codes "block queued"
cause_name NoRegister = codes "no register"
cause_name SetPending = codes "set pending"
cause_name QueueFull = codes "queue full"
cause_name BankFull = codes "bank full"
cause_name NotPresent = codes "not present"
cause_name StackFull = codes "stack full"
cause_name StrayWord = codes "stray word"

abbrev pub cause_words : Cause → List ℕ
cause_words OutOfRange = codes "it is outside memory"
cause_words NoLanes = codes "the store names no byte"
cause_words TagInUse = codes "the tag is owed a value that wasn't taken yet"
cause_words RepliesFull = codes "the limit of outstanding loads is reached"
cause_words TargetsFull = codes "four loads wait for the word already"
cause_words BlockQueued = codes "the block waits to be written"
cause_words NoRegister = codes "all registers are in use"
cause_words SetPending = codes "every way of the set waits for words"
cause_words QueueFull = codes "the write queue has too few places for the dirty words"
cause_words BankFull = codes "a bank has too little room for the commands"
cause_words NotPresent = codes "no frame holds the block"
cause_words StackFull = codes "the input stack is full"
cause_words StrayWord = codes "no register waits for the word"

-- whether nothing that moves makes room for the request: asked again, it is refused again
abbrev pub ends_request : Cause → Bool
ends_request OutOfRange = true
ends_request NoLanes = true
ends_request NotPresent = true
ends_request cause = false

-- whether it stands against bringing a block in
abbrev pub is_of_a_miss : Cause → Bool
is_of_a_miss BlockQueued = true
is_of_a_miss NoRegister = true
is_of_a_miss SetPending = true
is_of_a_miss QueueFull = true
is_of_a_miss BankFull = true
is_of_a_miss cause = false

-- whether it stands against a load of a tag that is owed nothing
abbrev pub is_of_a_load : Cause → Bool
is_of_a_load RepliesFull = true
is_of_a_load TargetsFull = true
is_of_a_load cause = is_of_a_miss cause

-- whether room for the request comes as things move on, so that it is asked again
abbrev pub passes : Cause → Bool
passes TagInUse = true
passes cause = is_of_a_load cause

-- whether the event may ever be refused so
abbrev pub may_refuse : Event → Cause → Bool
may_refuse (Load tag at) OutOfRange = true
may_refuse (Load tag at) TagInUse = true
may_refuse (Load tag at) cause = is_of_a_load cause
may_refuse (Store at word lanes) OutOfRange = true
may_refuse (Store at word lanes) NoLanes = true
may_refuse (Store at word lanes) cause = is_of_a_miss cause
may_refuse (Prefetch at) OutOfRange = true
may_refuse (Prefetch at) cause = is_of_a_miss cause
may_refuse (Evict block) OutOfRange = true
may_refuse (Evict block) QueueFull = true
may_refuse (Evict block) NotPresent = true
may_refuse Drain BankFull = true
may_refuse (Arrive bank place) StackFull = true
may_refuse event cause = false
