use Rattle.std.proofs.Common.{◌≡◌, ℕ, cond, ◌==◌, nat_eq, refl, Some, Result, Ok, Err, rules}
use Rattle.std.specs.Prelude.{OnOk}
use Rattle.std.specs.HashMap.{get}
use Rattle.std.proofs.lemmas.Bool.{eq-eqb}
use Rattle.memory_histories.specs.declared.answered.KeptUnit.{KeptUnit}
use Rattle.memory_histories.specs.Shown.{answered_in}
use Rattle.memory_histories.proofs.Units.{one_part}
use Rattle.memory_histories.proofs.answered.answer_part.Goals as goal

if_ok : {X E A B : Type 0} (r : Result X E) → (A → B) → OnOk r A → OnOk r B
if_ok (Ok x) f a = f a
if_ok (Err e) f a = tt

pub returns-in-Some-clause-ok : goal.returns-in-Some-clause-ok
returns-in-Some-clause-ok c =
    let p = c.args.part.now in
    let there : KeptUnit = record { parts = c.join_part.new.parts } in
    let before = get nat_eq c.args.units.now in
    let after = get nat_eq (c.get_mut.follows.lender there) in
    let puts : (u : ℕ) → after u ≡ cond (p.unit == u) (Some there) (before u) = ((c.get_mut.follows.holds there).3 (search rules)).0 in
    if_ok c.join_part.result
    (λ joined. one_part c.args.moment p (answered_in before) (answered_in after)
    (rw (puts p.unit, eq-eqb p.unit p.unit refl, ← c.in-Some.ensures.value) joined) (λ u e. rw (puts u, e) refl)) c.join_part.ensures.ok
