use Rattle.std.proofs.Common.{List, [], filter, sym, ap, ap₂, ◌∙◌}
use Rattle.std.proofs.lemmas.Result.{on_ok_weaker}
use Rattle.atomic_histories.specs.Pasts.{Past}
use Rattle.atomic_histories.specs.Followed.{Pair, with_pairs, effects_from}
use Rattle.atomic_histories.specs.Shown.{past_at, pasts, shown, shown_all, aim_of}
use Rattle.atomic_histories.proofs.Frames.{shown_grown, pair_grown}
use Rattle.atomic_histories.proofs.Loops.{effects_done}
use Rattle.atomic_histories.proofs.search.add_effects.Goals as goal

pub returns-then-is_done-clause-pairs : goal.returns-then-is_done-clause-pairs
returns-then-is_done-clause-pairs c =
    let ss = c.args.stretches.now.items in
    let pair = c.args.pair.now in
    let e = shown ss pair in
    let none =
    effects_done _ e [] e.stores (sym (c.if-is_done.ensures)) in
    ap (λ es. with_pairs (shown_all ss c.args.next.now.pairs.items) (filter (aim_of c.args.wanted).hope es)) (sym none)

pub returns-clause-pairs : goal.returns-clause-pairs
returns-clause-pairs c =
    let ss = c.args.stretches.now.items in
    let ts = c.past_on.new.stretches.items in
    let pair = c.args.pair.now in
    let hope = (aim_of _).hope in
    let before = c.in_ok-past.ensures in
    let same = shown_grown ss ts before.grows _ c.requires.pairs in
    let here = pair_grown ss ts before.grows pair c.requires.pair in
    let on : List Pair → Past → Pair → List Pair =
    λ es past e. with_pairs es (filter hope (effects_from past e [] pair.stores.items)) in
    on_ok_weaker c.add_effects_after.result
    (λ h. h ∙ ap (λ es. on es (past_at (pasts ts) c.in_ok-past.past) (shown ts pair)) same
    ∙ ap₂ (on (shown_all ss c.args.next.now.pairs.items)) before.past here)
    c.add_effects_after.ensures.pairs
