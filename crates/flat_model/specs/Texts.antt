-- The texts of words, masks, events and answers, as a trace has them.
use Rattle.std.specs.Prelude.{ℕ, ◌+◌, ◌/◌, ◌%◌, Bool, if◌then◌else◌, nat_lt, List, [], ◌∷◌, ◌++◌, codes, decimal}
use Rattle.flat_model.specs.declared.Word.{Word}
use Rattle.flat_model.specs.declared.Lanes.{Lanes}
use Rattle.flat_model.specs.declared.Event.{Event}
use Rattle.flat_model.specs.declared.Event.TheVariants.{Load, Store, Prefetch, Evict, Drain, Serve, Arrive, Process, Take}
use Rattle.flat_model.specs.declared.Answer.{Answer}
use Rattle.flat_model.specs.declared.Answer.TheVariants.{Accepted, Moved, Value, Nothing, Refused}
use Rattle.flat_model.specs.Flat.{number}
use Rattle.flat_model.specs.Words.{has, Lane0, Lane1, Lane2, Lane3}

-- a number below 16 as a digit
abbrev pub hex_digit : ℕ → ℕ
hex_digit n = if nat_lt n 10 then 48 + n else 87 + n

-- a byte in two digits
abbrev pub byte_text : ℕ → List ℕ
byte_text b = hex_digit (b / 16) ∷ hex_digit (b % 16) ∷ []

-- a word in eight digits, byte 0 first
unfoldable pub word_text : Word → List ℕ
word_text w = byte_text w.b0 ++ byte_text w.b1 ++ byte_text w.b2 ++ byte_text w.b3

-- a lane's digit
abbrev pub bit_text : Bool → ℕ
bit_text b = if b then 49 else 48

-- a mask in four digits, lane 0 first
unfoldable pub lanes_text : Lanes → List ℕ
lanes_text m = bit_text (has m Lane0) ∷ bit_text (has m Lane1) ∷ bit_text (has m Lane2) ∷ bit_text (has m Lane3) ∷ []

-- a line of a trace, without its LF
abbrev pub event_text : Event → List ℕ
event_text (Load tag at) = codes "load " ++ decimal tag ++ codes " " ++ decimal at
event_text (Store at word lanes) = codes "store " ++ decimal at ++ codes " " ++ lanes_text lanes ++ codes " " ++ word_text word
event_text (Prefetch at) = codes "prefetch " ++ decimal at
event_text (Evict block) = codes "evict " ++ decimal block
event_text Drain = codes "drain"
event_text (Serve bank) = codes "serve " ++ decimal bank
event_text (Arrive bank place) = codes "arrive " ++ decimal bank ++ codes " " ++ decimal place
event_text (Process place) = codes "process " ++ decimal place
event_text (Take place) = codes "take " ++ decimal place

-- what a trace shows of an answer
abbrev pub answer_text : Answer → List ℕ
answer_text Accepted = codes "accepted"
answer_text Moved = codes "moved"
answer_text (Value tag word) = codes "value " ++ decimal tag ++ codes " " ++ word_text word
answer_text Nothing = codes "nothing"
answer_text (Refused cause) = codes "refused " ++ decimal (number cause)
