-- A port with a script: what it offers, what it is told, and when both belong together.
use Rattle.std.specs.Prelude.{◌≡◌, ℕ, ◌+◌, Bool, true, false, not, if◌then◌else◌, List, [], ◌∷◌, ◌++◌}
use Rattle.std.specs.List.{filter, count_by}
use Rattle.flat_model.specs.Causes.{ends_request}
use Rattle.station_journal.specs.declared.asks.Ask.{Ask}
use Rattle.station_journal.specs.declared.asks.Ask.TheVariants.{Load, Done}
use Rattle.station_journal.specs.declared.asks.Told.{Told}
use Rattle.station_journal.specs.declared.asks.Told.TheVariants.{Accepted, Refused, Value}

-- ---- tellings

abbrev pub is_value : Told → Bool
is_value (Value tag word) = true
is_value told = false

-- the tellings that answer an ask
abbrev pub verdicts_in : List Told → List Told
verdicts_in tellings = filter (λ t. not (is_value t)) tellings

abbrev pub value_count : List Told → ℕ
value_count tellings = count_by is_value tellings

-- after this verdict a port goes on in its script; after any other one it offers the ask again
abbrev pub is_final : Told → Bool
is_final Accepted = true
is_final (Refused cause) = ends_request cause
is_final told = false

-- ---- asks and their verdicts, each ask beside its own

-- a load that was accepted
abbrev pub accepted_load : Ask → Told → ℕ
accepted_load (Load tag at) Accepted = 1
accepted_load ask verdict = 0

abbrev pub accepted_loads : List Ask → List Told → ℕ
accepted_loads (ask ∷ asked) (verdict ∷ verdicts) = accepted_load ask verdict + accepted_loads asked verdicts
accepted_loads asked verdicts = 0

-- the asks that get a verdict
abbrev pub is_request : Ask → Bool
is_request Done = false
is_request ask = true

abbrev pub requests_in : List Ask → List Ask
requests_in asks = filter is_request asks

-- the asks of a script were offered in its order, each again until its verdict was final; `left` is
-- what of the script is still to come
abbrev pub Follows : List Ask → List Ask → List Told → List Ask → Type 0
Follows script [] [] left = script ≡ left
Follows (ask ∷ more) (offer ∷ asked) (verdict ∷ verdicts) left =
    (offer ≡ ask) × Follows (if is_final verdict then more else ask ∷ more) asked verdicts left
Follows script asked verdicts left = ⊥

-- ---- conversations

-- a port on its way through its script: `unjudged` is the ask that it has offered and that has no verdict
-- yet, if there is one
pub record IsUnderWay (script left unjudged : List Ask) (loads values : ℕ) (offered : List Ask) (taken : List Told) : Type 0 where
  pub asked : List Ask
  pub offered_is : offered ≡ asked ++ unjudged
  pub follows : Follows script asked (verdicts_in taken) left
  pub loads_are : accepted_loads asked (verdicts_in taken) ≡ loads
  pub values_are : value_count taken ≡ values

-- a whole conversation: the script, each ask with its verdicts, then Done; and as many values as
-- loads were accepted
pub record Converses (script offered : List Ask) (taken : List Told) : Type 0 where
  pub asked : List Ask
  pub offered_is : offered ≡ asked ++ Done ∷ []
  pub follows : Follows script asked (verdicts_in taken) []
  pub answered : value_count taken ≡ accepted_loads asked (verdicts_in taken)
