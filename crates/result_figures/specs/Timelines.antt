-- The figure of requests by rounds, or by events.
use Rattle.std.specs.Prelude.{ℕ, ◌+◌, min, max, Bool, false, if◌then◌else◌, nat_lt, Option, Some, None, List, [], ◌∷◌, ◌++◌, length, take}
use Rattle.std.specs.List.{flat_map, count_by}
use Rattle.std.specs.Option.{unwrap_or}
use Rattle.flat_model.specs.Causes.{ends_request}
use Rattle.machine_core.specs.Words.{Sizes, Event, Load, Answer, Refused, Lookup, Miss, Join, Cause}
use Rattle.round_driver.specs.declared.timing.Timing.{Timing}
use Rattle.result_figures.specs.declared.lives.Life.{Life}
use Rattle.result_figures.specs.declared.lives.Returned.{Returned}
use Rattle.result_figures.specs.declared.mark.Mark.{Mark}
use Rattle.result_figures.specs.declared.mark.Mark.TheVariants as mark
use Rattle.result_figures.specs.declared.mark.Omission.{Omission}
use Rattle.result_figures.specs.declared.mark.Omission.TheVariants.{Undrawn}
use Rattle.result_figures.specs.declared.mark.Shade.{Shade}
use Rattle.result_figures.specs.declared.mark.Shade.TheVariants as shade
use Rattle.result_figures.specs.declared.mark.Title.TheVariants.{Rounds, Events}
use Rattle.result_figures.specs.declared.scale.TheConstants.{MOST_STEPS}
use Rattle.result_figures.specs.declared.seen.Flight.{Flight}
use Rattle.result_figures.specs.declared.timeline.Told.{Told}
use Rattle.result_figures.specs.declared.timeline.TheConstants.{MOST_DRAWN}
use Rattle.result_figures.specs.Turns.{Sight, sight_of}
use Rattle.result_figures.specs.Lives.{lives_of, returned_to, sent_by}
use Rattle.result_figures.specs.Marks.{denials}
use Rattle.result_figures.specs.Scales.{linear}

-- a machine's run
pub record Ran : Type 0 where
  pub sizes : Sizes
  pub seen : Sight

abbrev pub told : Told → Ran
told run = record { sizes = run.sizes; seen = sight_of run.seen.now }

-- ---- a request

abbrev pub shade_of : Option Lookup → Shade
shade_of (Some Miss) = shade.Miss
shade_of (Some Join) = shade.Join
shade_of found = shade.Hit

-- the turn behind this one
abbrev pub behind : ℕ → ℕ
behind turn = min (turn + 1) 18446744073709551615

-- the last turn of all, if something doesn't end
abbrev pub open_end : (turns turn : ℕ) → ℕ
open_end turns turn = max turns (behind turn)

-- a load without a value is open; any other request takes one turn
abbrev pub end_without_value : Event → (turns turn : ℕ) → ℕ
end_without_value (Load tag at) turns turn = open_end turns turn
end_without_value event turns turn = behind turn

abbrev pub end_by : (turns : ℕ) → Life → Option Returned → ℕ
end_by turns life (Some value) = value.round
end_by turns life None = end_without_value life.event turns life.ended

abbrev pub value_marks : Option Returned → List Mark
value_marks (Some value) = mark.Value value.word ∷ []
value_marks None = []

abbrev pub flight_end : (turns : ℕ) → Flight → ℕ
flight_end turns f = unwrap_or f.to (open_end turns f.from)

-- the block that it sent for, from there to its fill
abbrev pub flight_marks : (turns : ℕ) → Option Flight → List Mark
flight_marks turns (Some f) = mark.Bar f.from (flight_end turns f) shade.Flight ∷ []
flight_marks turns None = []

-- an accepted load up to its value
abbrev pub accepted : Sight → Life → Option Returned → List Mark
accepted seen life returned =
    (mark.Bar life.ended (end_by seen.turns life returned) (shade_of life.found) ∷ [])
    ++ flight_marks seen.turns (sent_by life seen.flights) ++ value_marks returned

abbrev pub denial_of : Answer → Option Cause
denial_of (Refused cause) = Some cause
denial_of answer = None

abbrev pub ending : Option Cause → Sight → Life → List Mark
ending (Some cause) seen life = mark.Denied cause ∷ []
ending None seen life = accepted seen life (returned_to life seen.notes)

-- its row: asked, and then accepted or refused
abbrev pub life_marks : Sight → Life → List Mark
life_marks seen life =
    (mark.Request life.event ∷ mark.Bar life.asked life.ended shade.Asked ∷ []) ++ ending (denial_of life.answer) seen life

abbrev pub lives_marks : Sight → List Life → List Mark
lives_marks seen all = flat_map (life_marks seen) all

-- ---- a machine

-- whether no machine of these numbers serves it
abbrev pub is_denied : Answer → Bool
is_denied (Refused cause) = ends_request cause
is_denied answer = false

abbrev pub denied_among : List Life → ℕ
denied_among all = count_by (λ life. is_denied life.answer) all

-- the requests behind those that are drawn
abbrev pub undrawn : (requests : ℕ) → List Mark
undrawn requests =
    if nat_lt MOST_DRAWN requests then mark.Omitted (Undrawn (record { drawn = MOST_DRAWN; requests = requests })) ∷ [] else []

abbrev pub drawn_among : List Life → List Life
drawn_among all = take (min (length all) MOST_DRAWN) all

abbrev pub told_marks : Ran → List Mark
told_marks run =
    let all = lives_of run.seen.notes in
    (((mark.Machine run.sizes ∷ []) ++ denials (denied_among all) (length all)) ++ undrawn (length all))
    ++ lives_marks run.seen (drawn_among all)

abbrev pub all_marks : List Ran → List Mark
all_marks runs = flat_map told_marks runs

-- ---- the figure

abbrev pub end_of : Mark → ℕ
end_of (mark.Bar from to shade) = to
end_of mark = 0

abbrev pub last_end : (least : ℕ) → List Mark → ℕ
last_end least [] = least
last_end least (m ∷ ms) = last_end (max least (end_of m)) ms

abbrev pub title : Option Timing → List Mark
title (Some timing) = mark.Title Rounds ∷ mark.Times timing ∷ []
title None = mark.Title Events ∷ []

abbrev pub omissions : Option Omission → List Mark
omissions (Some omission) = mark.Omitted omission ∷ []
omissions None = []

abbrev pub heading : Option Timing → Option Omission → List Mark
heading timing omitted = title timing ++ omissions omitted

-- The axis goes from 0 to the end of the last bar.
abbrev pub timeline_marks : Option Timing → Option Omission → List Ran → List Mark
timeline_marks timing omitted runs =
    (heading timing omitted ++ linear (last_end 0 (all_marks runs)) MOST_STEPS) ++ all_marks runs
