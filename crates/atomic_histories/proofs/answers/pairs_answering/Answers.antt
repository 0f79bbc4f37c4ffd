use Rattle.std.proofs.Common.{◌≡◌, false, IfOk, IfErr, OnOk, List, ap, sym, subst, ◌∙◌}
use Rattle.atomic_histories.specs.declared.unit.WatchedLoad.{WatchedLoad}
use Rattle.atomic_histories.specs.Followed.{Pair, gathered, pair_got, pair_missed, with_hope, word_aim, found, needs_more}
use Rattle.atomic_histories.specs.Parts.{AreParts}
use Rattle.atomic_histories.specs.Shown.{shown_all, StopIs}
use Rattle.atomic_histories.proofs.Frames.{shown_grown}
use Rattle.atomic_histories.proofs.Parts.{are_parts, said_of}
use Rattle.atomic_histories.proofs.answers.pairs_answering.Goals.{After-as_slice, After-drop-split-3}
use Rattle.atomic_histories.proofs.answers.pairs_answering.Goals as goal

parts : (c : After-as_slice)
    → AreParts c.args.unit c.args.bytes.now c.args.load.now c.split_stretches.new.stretches.items c.in_ok-split.split
    c.args.kept.now.pairs.items
parts c =
    are_parts _ _ _ _ _
    c.in_ok-split.split c.in_ok-split.ensures.grows c.in_ok-split.ensures.got c.in_ok-split.ensures.missed _
    c.requires

pub search-requires-clause-found : goal.search-requires-clause-found
search-requires-clause-found c =
    let ts = c.split_stretches.new.stretches.items in
    c.in_ok-got.ensures.are_in ts
    (subst (AreParts c.args.unit c.args.bytes.now c.args.load.now ts c.in_ok-split.split) (sym c.as_slice.ensures.value)
    (parts (goal.at.search-requires-clause-found c).After-as_slice))

pub search-requires-clause-pairs : goal.search-requires-clause-pairs
search-requires-clause-pairs c =
    let ts = c.split_stretches.new.stretches.items in
    c.in_ok-missed.ensures.are_in ts
    (subst (AreParts c.args.unit c.args.bytes.now c.args.load.now ts c.in_ok-split.split) (sym c.as_slice-2.ensures.value)
    (parts (goal.at.search-requires-clause-pairs c).After-as_slice))

-- what is said of the search from the pairs that are split, it says from those that the unit showed
from_shown : (c : After-drop-split-3) → (P : List WatchedLoad → List Pair → List Pair → Type 0)
    → P c.as_slice-3.result.now (shown_all c.split_stretches.new.stretches.items c.in_ok-got.got.items)
    (shown_all c.split_stretches.new.stretches.items c.in_ok-missed.missed.items)
    → P c.args.kept.now.loads.items
    (gathered (pair_got c.args.unit c.args.bytes.now c.args.load.now)
    (shown_all c.args.kept.now.stretches.items c.args.kept.now.pairs.items))
    (with_hope (word_aim c.args.unit c.args.load.now.address c.args.bytes.now)
    (gathered (pair_missed c.args.unit c.args.bytes.now c.args.load.now)
    (shown_all c.args.kept.now.stretches.items c.args.kept.now.pairs.items)))
from_shown c P =
    let u = c.args.kept.now in
    let unit = c.args.unit in
    let bytes = c.args.bytes.now in
    let load = c.args.load.now in
    let split = c.in_ok-split.split in
    let ss = u.stretches.items in
    let ts = c.split_stretches.new.stretches.items in
    let aim = word_aim unit load.address bytes in
    let there = parts (goal.at.returns-clause-found c).After-as_slice in
    let same = shown_grown ss ts c.in_ok-split.ensures.grows u.pairs.items c.requires in
    let got = c.in_ok-got.ensures.shown ts (subst (AreParts unit bytes load ts split) (sym c.as_slice.ensures.value) there)
    ∙ (ap (λ ps. gathered (pair_got unit bytes load) (shown_all ts ps)) c.as_slice.ensures.value
    ∙ ap (gathered (pair_got unit bytes load)) same) in
    let missed = c.in_ok-missed.ensures.shown ts (subst (AreParts unit bytes load ts split) (sym c.as_slice-2.ensures.value) there)
    ∙ (ap (λ ps. with_hope aim (gathered (pair_missed unit bytes load) (shown_all ts ps))) c.as_slice-2.ensures.value
    ∙ ap (λ es. with_hope aim (gathered (pair_missed unit bytes load) es)) same) in
    said_of P _ u.loads.items _ _ _ _ c.as_slice-3.ensures.value got missed

pub returns-clause-found : goal.returns-clause-found
returns-clause-found c =
    from_shown c (λ ls es fs. IfOk c.search.result (λ ps. shown_all c.search.new.stretches.items ps.items
    ≡ found ls c.args.kept.now.moment (word_aim c.args.unit c.args.load.now.address c.args.bytes.now) es fs)) c.search.ensures.found

pub returns-clause-few : goal.returns-clause-few
returns-clause-few c =
    from_shown c (λ ls es fs. OnOk c.search.result
    (needs_more c.args.limit ls c.args.kept.now.moment (word_aim c.args.unit c.args.load.now.address c.args.bytes.now) es fs ≡ false))
    c.search.ensures.few

pub returns-clause-stop : goal.returns-clause-stop
returns-clause-stop c =
    from_shown c (λ ls es fs. IfErr c.search.result (StopIs
    (needs_more c.args.limit ls c.args.kept.now.moment (word_aim c.args.unit c.args.load.now.address c.args.bytes.now) es fs)))
    c.search.ensures.stop
