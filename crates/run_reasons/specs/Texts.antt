-- The texts of what an explanation tells.
use Rattle.std.specs.Prelude.{ℕ, Bool, ◌==◌, if◌then◌else◌, Option, Some, None, List, [], ◌++◌, codes, decimal}
use Rattle.flat_model.specs.Texts.{byte_text, word_text, event_text, answer_text}
use Rattle.flat_model.specs.declared.Event.{Event}
use Rattle.flat_model.specs.declared.Event.TheVariants.{Load, Store, Prefetch, Evict, Drain, Serve, Arrive, Process, Take}
use Rattle.flat_model.specs.declared.Answer.{Answer}
use Rattle.run_reasons.specs.declared.explain.Explanation.{Explanation}
use Rattle.run_reasons.specs.declared.explain.Explanation.TheVariants as explained
use Rattle.run_reasons.specs.declared.pasts.Overwritten.{Overwritten}
use Rattle.run_reasons.specs.declared.reason.Mismatch.{Mismatch}
use Rattle.run_reasons.specs.declared.reason.WrongWord.{WrongWord}
use Rattle.run_reasons.specs.declared.reason.Reason.{Reason}
use Rattle.run_reasons.specs.declared.reason.Reason.TheVariants as reason

-- an event's kind, as a sentence has it
abbrev pub kind_text : Event → List ℕ
kind_text (Load tag at) = codes "a load"
kind_text (Store at word lanes) = codes "a store"
kind_text (Prefetch at) = codes "a prefetch"
kind_text (Evict block) = codes "an evict"
kind_text Drain = codes "a drain"
kind_text (Serve bank) = codes "a serve"
kind_text (Arrive bank place) = codes "an arrive"
kind_text (Process place) = codes "a process"
kind_text (Take place) = codes "a take"

-- what an event of a kind may be answered
abbrev pub answers_text : Event → List ℕ
answers_text (Load tag at) = codes "accepted, or refused 1 or 3 to 10"
answers_text (Store at word lanes) = codes "accepted, or refused 1, 2 or 6 to 10"
answers_text (Prefetch at) = codes "accepted, or refused 1 or 6 to 10"
answers_text (Evict block) = codes "accepted, or refused 1, 9 or 11"
answers_text Drain = codes "moved, nothing or refused 10"
answers_text (Serve bank) = codes "moved or nothing"
answers_text (Arrive bank place) = codes "moved, nothing or refused 12"
answers_text (Process place) = codes "moved or nothing"
answers_text (Take place) = codes "a value or nothing"

-- ---- a wrong word

-- a byte that memory began with: one of an image, unless it is zero
abbrev pub initial_text : ℕ → List ℕ
initial_text owed = if owed == 0 then codes "of the initial zeros" else codes "of the initial image"

-- the store that a byte is owed from: none, if it is one that memory began with
abbrev pub owed_from_text : ℕ → ℕ → List ℕ
owed_from_text owed line = if line == 0 then initial_text owed else codes "stored in line " ++ decimal line

-- what had put a byte there, and the line that overwrote it
abbrev pub overwritten_text : ℕ → ℕ → List ℕ
overwritten_text put by =
    if put == 0 then codes "memory began with it, and line " ++ (decimal by ++ codes " overwrote it")
    else codes "line " ++ (decimal put ++ (codes " did, and line " ++ (decimal by ++ codes " overwrote it")))

-- when the byte that came stood there, if it ever did
abbrev pub past_text : Option Overwritten → List ℕ
past_text None = codes "no store ever did"
past_text (Some o) = overwritten_text o.put o.by

-- the store that the byte that came is from, if it is the last one to it, and else when it stood there before
abbrev pub got_from_text : ℕ → Option Overwritten → List ℕ
got_from_text line past =
    if line == 0 then codes "which no last store put there: " ++ past_text past
    else codes "stored in line " ++ decimal line ++ codes ", after the load"

-- a byte that isn't the one that is owed, in a line of its own
unfoldable pub byte_line : ℕ → ℕ → ℕ → ℕ → ℕ → Option Overwritten → List ℕ
byte_line place owed store got later past =
    if owed == got then []
    else codes "\nbyte " ++ decimal place ++ codes ": owed " ++ byte_text owed ++ codes ", " ++ owed_from_text owed store ++ codes "; got "
    ++ byte_text got ++ codes ", " ++ got_from_text later past

-- of a word that stood there at a moment since the load was accepted: what the run is with it
unfoldable pub since_line : Bool → List ℕ
since_line stood =
    if stood then codes "\nthe whole word stood there after the load: no run of flat memory from acceptance on; as a history it is atomic"
    else []

-- the load with what it is owed, a line for each byte that differs, and one if the word that came stood there since
unfoldable pub wrong_word_text : WrongWord → List ℕ
wrong_word_text w =
    codes "the load of line " ++ decimal w.load.line ++ codes " (tag " ++ decimal w.tag ++ codes ", word " ++ decimal w.load.at
    ++ codes ") is owed " ++ word_text w.load.word ++ byte_line 0 w.load.word.b0 w.load.stores.b0 w.got.b0 w.later.b0 w.past.b0
    ++ byte_line 1 w.load.word.b1 w.load.stores.b1 w.got.b1 w.later.b1 w.past.b1
    ++ byte_line 2 w.load.word.b2 w.load.stores.b2 w.got.b2 w.later.b2 w.past.b2
    ++ byte_line 3 w.load.word.b3 w.load.stores.b3 w.got.b3 w.later.b3 w.past.b3 ++ since_line w.stood_since

-- ---- a mismatch

-- why flat memory can't answer an event so
abbrev pub reason_text : Event → Answer → Reason → List ℕ
reason_text event answer reason.NeverAnswered = kind_text event ++ (codes " never gets this answer: it gets " ++ answers_text event)
reason_text event answer reason.NeverRefused =
    kind_text event ++ (codes " never gets " ++ (answer_text answer ++ (codes ": it gets " ++ answers_text event)))
reason_text event answer (reason.Outside at words) =
    codes "word " ++ (decimal at ++ (codes " is outside memory, which has " ++ (decimal words ++ codes " words: it is refused 1")))
reason_text event answer (reason.Inside at words) =
    codes "word " ++ (decimal at ++ (codes " is in memory, which has " ++ (decimal words ++ codes " words")))
reason_text event answer (reason.TagInUse tag line) =
    codes "tag " ++ (decimal tag ++ (codes " is in use since line "
    ++ (decimal line ++ codes ": it is refused 3 until its value is taken")))
reason_text event answer (reason.NeverLoaded tag) = codes "tag " ++ (decimal tag ++ codes " is owed nothing: it was never loaded")
reason_text event answer (reason.Taken tag line) =
    codes "tag " ++ (decimal tag ++ (codes " is owed nothing: its value was taken in line " ++ decimal line))
reason_text event answer reason.NoLanes = codes "the store has no lanes: it is refused 2"
reason_text event answer reason.HasLanes = codes "the store has lanes"
reason_text event answer (reason.WrongWord wrong) = wrong_word_text wrong

-- the line, and why flat memory can't answer it
unfoldable pub mismatch_text : Mismatch → List ℕ
mismatch_text m =
    codes "mismatch at line " ++ decimal m.line ++ codes ": " ++ event_text m.event ++ codes " -> " ++ answer_text m.answer ++ codes "\n"
    ++ reason_text m.event m.answer m.reason

-- what became of a recorded run
abbrev pub explanation_text : Explanation → List ℕ
explanation_text (explained.Flat steps) = codes "flat run, " ++ (decimal steps ++ codes " steps")
explanation_text (explained.Mismatch m) = mismatch_text m
