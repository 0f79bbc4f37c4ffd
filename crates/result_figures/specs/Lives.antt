-- The requests of a run, from its notes.
use Rattle.std.specs.Prelude.{ℕ, ◌==◌, ◌&&◌, Bool, false, if◌then◌else◌, nat_lt, Option, Some, None, List, [], ◌∷◌, ◌++◌}
use Rattle.std.specs.List.{find}
use Rattle.std.specs.Option.{option_to_list}
use Rattle.flat_model.specs.contracts.EventPartialEq.TheImpl as event_eq
use Rattle.machine_core.specs.Words.{Answer, Value, Event, Load}
use Rattle.round_driver.specs.Rounds.{is_end}
use Rattle.round_driver.specs.Walks.{is_request}
use Rattle.round_driver.specs.declared.note.Note.{Note}
use Rattle.result_figures.specs.declared.lives.Life.{Life}
use Rattle.result_figures.specs.declared.lives.Returned.{Returned}
use Rattle.result_figures.specs.declared.seen.Flight.{Flight}

abbrev pub is_same : Event → Event → Bool
is_same event other = (event_eq.ghosts).eq event other

-- the turn that first asked a request: this one, unless the same request was refused last
abbrev pub since_of : Option Life → Note → ℕ
since_of None n = n.round
since_of (Some refused) n = if is_same refused.event n.event then refused.asked else n.round

abbrev pub life_of : (asked : ℕ) → Note → Life
life_of asked n = record { event = n.event; asked = asked; ended = n.round; answer = n.answer; found = n.found }

-- a refused request is given up when another one is asked
abbrev pub given_up : Option Life → Note → List Life
given_up None n = []
given_up (Some refused) n = if is_same refused.event n.event then [] else refused ∷ []

-- A request is asked until its answer ends it, or another one is asked, or nothing is any more.
abbrev pub lives_from : (refused : Option Life) → List Note → List Life
lives_from refused [] = option_to_list refused
lives_from refused (n ∷ ns) =
    if is_request n.event
    then given_up refused n
    ++ (let life = life_of (since_of refused n) n in if is_end n.answer then life ∷ lives_from None ns else lives_from (Some life) ns)
    else lives_from refused ns

abbrev pub lives_of : List Note → List Life
lives_of notes = lives_from None notes

-- a load's value has its tag, and comes behind the round that accepted the load
abbrev pub has_tag : (tag : ℕ) → Answer → Bool
has_tag tag (Value other word) = tag == other
has_tag tag answer = false

abbrev pub is_value_at : Event → (ended : ℕ) → Note → Bool
is_value_at (Load tag at) ended n = has_tag tag n.answer && nat_lt ended n.round
is_value_at event ended n = false

abbrev pub is_value_of : Life → Note → Bool
is_value_of life n = is_value_at life.event life.ended n

abbrev pub returned_in : (round : ℕ) → Answer → Option Returned
returned_in round (Value tag word) = Some (record { round = round; word = word })
returned_in round answer = None

abbrev pub returned_by : Note → Option Returned
returned_by n = returned_in n.round n.answer

-- the first such note
abbrev pub returned_to : Life → List Note → Option Returned
returned_to life [] = None
returned_to life (n ∷ ns) = if is_value_of life n then returned_by n else returned_to life ns

-- the block that it sent for, in the turn that ended it
abbrev pub sent_by : Life → List Flight → Option Flight
sent_by life flights = find (λ f. f.from == life.ended) flights
