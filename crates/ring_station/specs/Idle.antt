-- What a turn came to, and how many went by without a step.
use Rattle.std.specs.Prelude.{ℕ, ◌+◌, ◌*◌, ◌-◌, ◌/◌, ◌%◌, ◌^◌, ◌==◌, ◌&&◌, if◌then◌else◌, min, nat_le, nat_lt, Option, Some, None}
use Rattle.std.specs.Prelude.{List, fold}
use Rattle.station_parts.specs.declared.parts.Stepped.{Stepped}
use Rattle.station_parts.specs.declared.parts.Stepped.TheVariants.{Did}
use Rattle.ring_station.specs.declared.idle.Turn.{Turn}
use Rattle.ring_station.specs.declared.idle.Turn.TheVariants.{Moved, Held, Idle}
use Rattle.ring_station.specs.declared.idle.Idling.{Idling}
use Rattle.ring_station.specs.declared.idle.Rest.{Rest}
use Rattle.ring_station.specs.declared.idle.Rest.TheVariants.{GoOn, Pause, Yield, Sleep}
use Rattle.ring_station.specs.declared.idle.TheConstants.{TURNS_WITH_A_YIELD, TURNS_A_NAP, HELD_TURNS_A_YIELD, HELD_TURNS_A_NAP}
use Rattle.ring_station.specs.declared.idle.TheConstants.{FIRST_NAP, LONGEST_NAP}

-- what a turn came to that answered this
abbrev pub turn_of : Option Stepped → Turn
turn_of None = Held
turn_of (Some Did) = Moved
turn_of (Some stepped) = Idle

-- what a turn of two parts came to: a step of one is a step of both, and both are held only if each is
abbrev pub joint_turn : Turn → Turn → Turn
joint_turn Moved other = Moved
joint_turn Held other = other
joint_turn Idle Moved = Moved
joint_turn Idle other = Idle

-- the same if the run of a part may be over
abbrev pub turn_of_both : Option Turn → Option Turn → Option Turn
turn_of_both None other = other
turn_of_both (Some one) None = Some one
turn_of_both (Some one) (Some other) = Some (joint_turn one other)

-- and of all parts of a thread, one after another
abbrev pub turn_of_all : List (Option Turn) → Option Turn
turn_of_all made = fold turn_of_both None made

abbrev pub turn_beside : Turn → Option Turn → Turn
turn_beside one None = one
turn_beside one (Some other) = joint_turn one other

-- ---- in a row

-- before the first turn of a thread: so many turns at first are without a pause, and so many without a sleep
abbrev pub idling_from : ℕ → ℕ → Idling
idling_from at_once awake = record { held = 0; idle = 0; at_once = at_once; awake = awake }

-- one more
abbrev pub more_turns : ℕ → ℕ
more_turns turns = min (turns + 1) (2 ^ 64 - 1)

abbrev pub idling_behind : Turn → Idling → Idling
idling_behind Moved idling = record idling { held = 0; idle = 0 }
idling_behind Held idling = record idling { held = more_turns idling.held }
idling_behind Idle idling = record idling { idle = more_turns idling.idle }

-- ---- the rest of a turn

-- how many nanoseconds a sleep has, longer from time to time
abbrev pub nap_of : ℕ → ℕ
nap_of time = min (time * FIRST_NAP) LONGEST_NAP

-- a thread that the gate holds goes on at once, but for one turn in so many
abbrev pub held_rest : ℕ → Rest
held_rest held =
    if held % HELD_TURNS_A_NAP == 0 then Sleep (nap_of (held / HELD_TURNS_A_NAP))
    else if held % HELD_TURNS_A_YIELD == 0 then Yield
    else GoOn

-- one that finds nothing goes on at once in so many turns; then it yields in some turns, and pauses in all others, but sleeps at
-- one in so many, if it has been awake for long enough
abbrev pub idle_rest : ℕ → ℕ → ℕ → Rest
idle_rest idle at_once awake =
    if nat_le idle at_once then GoOn
    else if nat_lt awake idle && idle % TURNS_A_NAP == 0 then Sleep (nap_of ((idle - awake) / TURNS_A_NAP))
    else if nat_le (idle - at_once) TURNS_WITH_A_YIELD then Yield
    else Pause

-- behind a turn that is among those that were counted
abbrev pub rest_behind : Turn → Idling → Rest
rest_behind Moved idling = GoOn
rest_behind Held idling = held_rest idling.held
rest_behind Idle idling = idle_rest idling.idle idling.at_once idling.awake
