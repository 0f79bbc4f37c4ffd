-- What is told of the ports: each one's first asks, with what came of them.
use Rattle.std.specs.Prelude.{ℕ, ◌-◌, ◌==◌, nat_lt, if◌then◌else◌, Bool, true, false, not, List, [], ◌∷◌, ◌++◌, take, flat_map}
use Rattle.std.specs.Prelude.{Option, Some, None, codes, decimal}
use Rattle.std.specs.List.{slice_get, filter, find, enumerate_from}
use Rattle.std.specs.Global.{Vec}
use Rattle.flat_model.specs.Causes.{passes}
use Rattle.flat_model.specs.Texts.{word_text}
use Rattle.station_journal.specs.declared.asks.Ask.{Ask}
use Rattle.station_journal.specs.declared.asks.Ask.TheVariants.{Load, Evict}
use Rattle.station_journal.specs.declared.asks.Told.{Told}
use Rattle.station_journal.specs.declared.asks.Told.TheVariants.{Accepted, Refused, Value}
use Rattle.station_parts.specs.Runs.{list_in}
use Rattle.station_checks.specs.declared.plan.Plan.{Plan}
use Rattle.station_checks.specs.declared.story.TheConstants.{SHOWN}
use Rattle.station_checks.specs.Texts.{line_of, ask_text, told_text}

-- a verdict behind which the port goes on
abbrev pub ends_ask : Told → Bool
ends_ask Accepted = true
ends_ask (Refused cause) = not (passes cause)
ends_ask (Value tag word) = false

-- the verdicts on a port's asks, one for each
abbrev pub final_verdicts : List Told → List Told
final_verdicts list = filter ends_ask list

-- the first value that was told under a tag
abbrev pub is_value_under : ℕ → Told → Bool
is_value_under tag (Value under word) = under == tag
is_value_under tag told = false

abbrev pub value_under : ℕ → List Told → Option Told
value_under tag list = find (is_value_under tag) list

-- what came of a load, by the value that was told under its tag
abbrev pub value_text : Option Told → List ℕ
value_text (Some (Value tag word)) = word_text word
value_text told = codes "no value"

abbrev pub load_text : Ask → Option Told → List ℕ
load_text ask value = line_of (codes "  " ++ (ask_text ask ++ (codes " -> " ++ value_text value)))

-- what came of an ask, by the verdict on it and all that its port was told
abbrev pub outcome_text : List Told → Ask → Option Told → List ℕ
outcome_text list (Load tag at) (Some Accepted) = value_text (value_under tag list)
outcome_text list (Evict block) (Some verdict) = codes "done"
outcome_text list ask (Some verdict) = told_text verdict
outcome_text list ask None = codes "no verdict"

abbrev pub ask_line : List Told → Ask → Option Told → List ℕ
ask_line list ask verdict = line_of (codes "  " ++ (ask_text ask ++ (codes " -> " ++ outcome_text list ask verdict)))

-- an ask with the verdict of its place
abbrev pub placed_ask_line : List Told → ℕ × Ask → List ℕ
placed_ask_line list asked = ask_line list asked.1 (slice_get (final_verdicts list) asked.0)

-- the first asks of a port
abbrev pub asks_text : List Ask → List Told → List ℕ
asks_text script list = flat_map (placed_ask_line list) (enumerate_from 0 (take SHOWN script))

-- how many asks aren't shown
abbrev pub more_text : ℕ → List ℕ
more_text asks = if nat_lt SHOWN asks then codes "  and " ++ (decimal (asks - SHOWN) ++ line_of (codes " more")) else []

abbrev pub port_line : ℕ → List ℕ
port_line port = 10 ∷ line_of (codes "port " ++ decimal port)

abbrev pub port_text : ℕ → ℕ → List Ask → List Told → List ℕ
port_text port asks script list = port_line port ++ (asks_text script list ++ more_text asks)

-- each port by its number and its script
abbrev pub numbered_port_text : ℕ → List (Vec Told) → ℕ × Vec Ask → List ℕ
numbered_port_text asks lists port = port_text port.0 asks port.1.items (list_in lists port.0)

abbrev pub each_port_text : ℕ → List (Vec Ask) → List (Vec Told) → List ℕ
each_port_text asks scripts lists = flat_map (numbered_port_text asks lists) (enumerate_from 0 scripts)

abbrev pub plan_text : Plan → List ℕ
plan_text plan =
    decimal plan.ports ++ (codes " ports, " ++ (decimal plan.asks ++ (codes " asks each, seed " ++ line_of (decimal plan.seed))))

-- what came of the first asks of each port in a plan, and how many more it has
abbrev pub ports_text : Plan → List (Vec Ask) → List (Vec Told) → List ℕ
ports_text plan scripts lists = plan_text plan ++ (each_port_text plan.asks scripts lists ++ 10 ∷ [])
