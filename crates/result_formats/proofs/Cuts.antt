-- Behind the last outcome there are none.
use Rattle.std.proofs.Common.{◌≡◌, ℕ, ◌≤◌, List, length, drop, sym, ◌∙◌, arith}
use Rattle.std.proofs.lemmas.List.{drop_all}
use Rattle.round_driver.specs.declared.outcomes.Outcome.{Outcome}

pub none_behind : (outcomes : List Outcome) (n : ℕ) → length outcomes ≤ n → drop n outcomes ≡ drop (length outcomes) outcomes
none_behind outcomes n h = drop_all n outcomes h ∙ sym (drop_all (length outcomes) outcomes (omega arith))
