use Rattle.std.proofs.Common.{ℕ, List, false, ap, ◌∙◌, rules}
use Rattle.round_driver.specs.Tables.{Counting, empty_table}
use Rattle.round_driver.specs.declared.table.Table.{Table}
use Rattle.round_driver.proofs.table.Counter.new.Goals as goal

pub returns-clause-nothing : goal.returns-clause-nothing
returns-clause-nothing c =
    let counting : Table → List ℕ → Counting = λ table since. record { table = table; since = since; is_stalled = false } in
    let items = c.in_ok-since.ensures.items_if_clones_equal (λ x y. search rules) in
    ap (λ t. counting t c.in_ok-since.since.items) (search rules) ∙ ap (counting empty_table) items
