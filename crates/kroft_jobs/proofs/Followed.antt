-- The rounds of a run that is followed, one at a time.
use Rattle.std.proofs.Common.{◌≡◌, ℕ, zero, suc, ◌+◌, ◌-◌, ◌<◌, ◌≤◌, true, false, Option, Some, None}
use Rattle.std.proofs.Common.{List, refl, ap, sym, ◌∙◌, arith}
use Rattle.std.specs.Prelude.{◌&&◌, ◌==◌, slice_get}
use Rattle.machine_core.specs.AnyMachine.{weight_of}
use Rattle.machine_core.specs.Machine.{MachineState}
use Rattle.machine_core.specs.Pump.{weight}
use Rattle.round_driver.specs.Rounds.{Course, attempt, begin, serve_due, bank_turns, arrive_from, arrive, moves, after_round, is_empty}
use Rattle.round_driver.specs.Stepping.{Stepped, RoundsState, one_round, after_one, report_of}
use Rattle.round_driver.specs.declared.stepping.RoundReport.{RoundReport}
use Rattle.kroft_jobs.specs.Words.{Event}
use Rattle.result_figures.specs.Turns.{Sight, sight_behind}
use Rattle.kroft_jobs.specs.Following.{seen_along, seen_in, report_in, left_behind, next}

module _ (n i : ℕ) (f : Stepped) (all so_far : Sight) (here : all ≡ seen_along (n - i) f so_far) where
  turn : i < n → n - i ≡ suc (n - (i + 1))
  turn h = omega arith

  pub goes_on : i < n → (is_empty f.left && (weight f.state.machine == 0)) ≡ false
      → all ≡ seen_along (n - (i + 1)) (next f) (seen_in f so_far)
  unfolding seen_along weight_of
  goes_on h going = grind (arith, turn, going)

  pub over_here : i < n → (is_empty f.left && (weight f.state.machine == 0)) ≡ true → so_far ≡ all
  unfolding seen_along weight_of
  over_here h over = grind (arith, turn, over)

  pub none_left : n ≤ i → so_far ≡ all
  unfolding seen_along
  none_left h = grind (arith)

-- ---- what a round leaves

abbrev stepped : MachineState → RoundsState → List Event → Stepped
stepped s r left = record { state = s; rounds = r; left = left }

pub one_more : (k : ℕ) (f : Stepped) (seen seen' : Sight) (s : MachineState) (r : RoundsState) (left : List Event)
    (request : Option Event) (report : RoundReport) (turn : ℕ) → request ≡ slice_get f.left 0
    → s ≡ (one_round f.state f.rounds request).state → r ≡ after_one f.rounds (one_round f.state f.rounds request)
    → report ≡ report_of request (one_round f.state f.rounds request) → left ≡ left_behind f.left report.asked
    → turn ≡ r.schedule.round → seen' ≡ sight_behind s turn report seen
    → seen_along k (next f) (seen_in f seen) ≡ seen_along k (record { state = s; rounds = r; left = left }) seen'
one_more k f seen seen' s r left request report turn first machine rounds told gone count saw =
    let s_is : s ≡ (next f).state = machine ∙ ap (λ o. (one_round f.state f.rounds o).state) first in
    let r_is : r ≡ (next f).rounds = rounds ∙ ap (λ o. after_one f.rounds (one_round f.state f.rounds o)) first in
    let report_is : report ≡ report_in f = told ∙ ap (λ o. report_of o (one_round f.state f.rounds o)) first in
    let left_is : left ≡ (next f).left = gone ∙ ap (λ p. left_behind f.left p.asked) report_is in
    let turn_is : turn ≡ (next f).rounds.schedule.round = count ∙ ap (λ q. q.schedule.round) r_is in
    let seen_is : seen' ≡ seen_in f seen = saw ∙ (ap (λ x. sight_behind x turn report seen) s_is
    ∙ (ap (λ n. sight_behind (next f).state n report seen) turn_is
    ∙ ap (λ p. sight_behind (next f).state (next f).rounds.schedule.round p seen) report_is)) in
    let step_is : stepped s r left ≡ next f = ap (λ x. stepped x r left) s_is
    ∙ (ap (λ x. stepped (next f).state x left) r_is ∙ ap (λ x. stepped (next f).state (next f).rounds x) left_is) in
    sym (ap (λ x. seen_along k x seen') step_is ∙ ap (λ x. seen_along k (next f) x) seen_is)

-- ---- moves take no time

began : (b : ℕ) (c : Course) → (begin b c).schedule.round ≡ c.schedule.round
unfolding begin
began b c = grind arith

served : (b : ℕ) (c : Course) → (serve_due b c).schedule.round ≡ c.schedule.round
unfolding serve_due attempt
served b c = grind arith

turned : (n b : ℕ) (c : Course) → (bank_turns n b c).schedule.round ≡ c.schedule.round
unfolding bank_turns
turned zero b c = refl
turned (suc n) b c = turned n (b + 1) (serve_due b (begin b c)) ∙ (served b (begin b c) ∙ began b c)

one_arrived : (o : Option ℕ) (c : Course) → (arrive_from o c).schedule.round ≡ c.schedule.round
unfolding attempt
one_arrived None c = refl
one_arrived (Some b) c = refl

arrived : (c : Course) → (arrive c).schedule.round ≡ c.schedule.round
unfolding arrive
arrived c = grind (arith, one_arrived)

moved : (c : Course) → (moves c).schedule.round ≡ c.schedule.round
unfolding moves attempt
moved c = arrived _ ∙ turned _ _ c

pub takes_one : (s : MachineState) (r : RoundsState) (request : Option Event)
    → (one_round s r request).schedule.round ≡ r.schedule.round + 1
unfolding after_round
takes_one s r None = moved _
takes_one s r (Some event) = moved _
