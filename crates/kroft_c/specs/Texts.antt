-- The text of each result, by its number.
use Rattle.std.specs.Prelude.{ℕ, suc, ◌==◌, if◌then◌else◌, nat_lt, List, ◌∷◌, ◌++◌, length, codes, drop}

unfoldable pub call_text : ℕ → List ℕ
call_text result =
    if result == 0 then codes "ok" else
    if result == 1 then codes "absent: there is no such thing, or nothing to do" else
    if result == 100 then codes "closed: nothing is behind the handle" else
    if result == 101 then codes "out of memory: an allocation was refused" else
    if result == 102 then codes "open already: something is behind the handle" else
    if result == 103 then codes "no law: there is no such law, unit or rest" else
    if result == 104 then codes "too long: 2^64 - 1 events were taken" else
    if result == 105 then codes "undecided: too many orders to follow in a unit" else
    if result == 106 then codes "no rounds: none were begun" else
    if result == 107 then codes "in rounds: they alone make the events" else
    if result == 108 then codes "no units: the law has none to forget" else
    if result == 109 then codes "no room: the buffer is too short" else codes "no result has this number"

unfoldable pub shape_text : ℕ → List ℕ
shape_text result =
    if result == 111 then codes "bad shape: block_words is out of its range" else
    if result == 112 then codes "bad shape: ways is out of its range" else
    if result == 113 then codes "bad shape: regs is out of its range" else
    if result == 114 then codes "bad shape: depth is out of its range" else
    if result == 115 then codes "bad shape: words is out of its range" else
    if result == 116 then codes "bad shape: sets is out of its range" else
    if result == 117 then codes "bad shape: banks is out of its range" else
    if result == 118 then codes "bad shape: bank_queue is out of its range" else
    if result == 119 then codes "bad shape: write_queue is out of its range" else
    if result == 120 then codes "bad shape: replies is out of its range" else
    if result == 121 then codes "bad image: it hasn't as many words as memory" else
    if result == 131 then codes "bad latency: it is more than 1000" else
    if result == 132 then codes "too many: requests of a list, or rounds" else codes "no result has this number"

unfoldable pub step_text : ℕ → List ℕ
step_text result =
    if result == 141 then codes "out of range: memory has no such word" else
    if result == 142 then codes "no lane: a store that writes no byte" else
    if result == 143 then codes "tag in use: its load has no answer yet" else
    if result == 144 then codes "nothing owed: no load waits under the tag" else
    if result == 145 then codes "wrong word: the load gets another" else
    if result == 146 then codes "wrong answer: this event never gets it" else
    if result == 147 then codes "no event: its row is none that may be given here" else
    if result == 148 then codes "no answer: its row says nothing" else codes "no result has this number"

unfoldable pub history_text : ℕ → List ℕ
history_text result =
    if result == 151 then codes "bad range: not 1 to 64 bytes, or not below 2^64" else
    if result == 152 then codes "no byte enabled: a load or a store of no byte" else
    if result == 153 then codes "number in use: an operation is open under it" else
    if result == 154 then codes "not open: no operation is open under the number" else
    if result == 155 then codes "wrong length: the load asks for another" else
    if result == 156 then codes "wrong byte: the load may not return it" else
    if result == 160 then codes "no reason: none is known" else
    if result == 161 then codes "never there: no store put the byte there" else
    if result == 162 then codes "overwritten: memory's first byte, by a store" else
    if result == 163 then codes "overwritten: a store's byte, by a later store" else
    if result == 164 then codes "not together: the bytes stood so at no moment" else
    if result == 171 then codes "no plan: one of its numbers is out of its range" else codes "no result has this number"

unfoldable pub text_of : ℕ → List ℕ
text_of result =
    if nat_lt result 110 then call_text result else
    if nat_lt result 140 then shape_text result else
    if nat_lt result 150 then step_text result else history_text result

-- a buffer after a text and a 0 are written into it: as it was, where they don't fit
abbrev pub written : List ℕ → List ℕ → List ℕ
written buffer text = if nat_lt (length text) (length buffer) then text ++ 0 ∷ drop (suc (length text)) buffer else buffer
