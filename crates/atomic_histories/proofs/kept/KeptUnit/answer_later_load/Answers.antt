use Rattle.std.proofs.Common.{◌≡◌, ◌∷◌, [], get_or, set, IfSome, sym, ap, ap₂, subst, ◌∙◌}
use Rattle.atomic_histories.specs.Words.{written, is_word_of}
use Rattle.atomic_histories.specs.Law.{done_store}
use Rattle.atomic_histories.specs.Pasts.{begins, oldest, cut_for, overwritten}
use Rattle.atomic_histories.specs.Followed.{Pair, Ways, loads_without, moment_with, has_way}
use Rattle.atomic_histories.specs.Shown.{past_at, pasts, shown, shown_all, shown_unit}
use Rattle.atomic_histories.proofs.Loops.{same_pair, same_ways}
use Rattle.atomic_histories.proofs.AtOnce.{one_pair, later_taken, few_load}
use Rattle.atomic_histories.proofs.kept.KeptUnit.answer_later_load.Goals.{After-drop_load}
use Rattle.atomic_histories.proofs.kept.KeptUnit.answer_later_load.Goals as goal

all_pairs : (c : After-drop_load) → c.args.self.now.pairs.items ≡ c.index.result.now ∷ []
all_pairs c = one_pair _ _ c.requires.one ∙ ap (λ p. p ∷ []) (sym c.index.ensures)

pub returns-clause-few : goal.returns-clause-few
returns-clause-few c = λ limit l t.
    let next = c.in-Some.ensures in
    let ss = c.args.self.now.stretches.items in
    few_load limit c.args.place _ c.args.load _ _ next.store l
    (ap (shown_all ss) (all_pairs c)) next.one (ap (past_at (pasts ss)) next.past) next.before

pub returns-clause-ok : goal.returns-clause-ok
returns-clause-ok c =
    let unit = c.args.self.now in
    let u = shown_unit unit in
    let bytes = c.args.bytes.now in
    let number = c.args.number in
    let load = c.args.load in
    let ss = unit.stretches.items in
    let ts = c.past_behind.new.stretches.items in
    let pair = c.index.result.now in
    let e = shown ss pair in
    let next = c.in-Some.ensures in
    let only = all_pairs c in
    let one = ap (shown_all ss) only in
    let again = c.index-2.ensures ∙ ap (λ ps. get_or ps 0 c.index-2.result.now) only in
    let changed = c.index_mut.ensures.value ∙ ap (λ ps. get_or ps 0 c.index_mut.result.now) only in
    let left = loads_without number unit.loads.items in
    let past =
    subst (λ ls. past_at (pasts ts) c.in-Some-2.past ≡ overwritten (loads_without number ls) unit.moment pair.word begins)
    c.as_slice-loads.ensures.value
    (subst (λ p. past_at (pasts ts) c.in-Some-2.past
    ≡ overwritten (loads_without number c.as_slice-loads.result.now) unit.moment p.word begins) again
    (subst (λ o. IfSome o (λ b. past_at (pasts ts) b
    ≡ overwritten (loads_without number c.as_slice-loads.result.now) unit.moment c.index-2.result.now.word begins)) c.in-Some-2.is
    c.in_ok-past_behind.ensures.some)) in
    let cut_ =
    subst (λ ls. cut_for (oldest (loads_without number ls)) (overwritten (loads_without number ls) unit.moment pair.word begins)
    ≡ overwritten (loads_without number ls) unit.moment pair.word begins) c.as_slice-loads.ensures.value
    (subst (λ p. cut_for (oldest (loads_without number c.as_slice-loads.result.now))
    (overwritten (loads_without number c.as_slice-loads.result.now) unit.moment p.word begins)
    ≡ overwritten (loads_without number c.as_slice-loads.result.now) unit.moment p.word begins) again
    (subst (λ o. IfSome o (λ b. cut_for (oldest (loads_without number c.as_slice-loads.result.now))
    (overwritten (loads_without number c.as_slice-loads.result.now) unit.moment c.index-2.result.now.word begins)
    ≡ overwritten (loads_without number c.as_slice-loads.result.now) unit.moment c.index-2.result.now.word begins)) c.in-Some-2.is
    c.in_ok-past_behind.ensures.cut)) in
    let on : Pair = record {
      word = written next.store.bytes pair.word;
      stores = done_store next.store ∷ [];
      past = overwritten left unit.moment pair.word begins;
    } in
    let made = same_pair _ on (c.take_effect.ensures.word ∙ next.made)
    (c.take_effect.ensures.stores next.store (ap (λ p. p.stores.items) changed ∙ next.one))
    (ap (past_at (pasts ts)) c.take_effect.ensures.past ∙ past) in
    let pairs = ap₂ (λ st ps. shown_all st.items ps.items) c.drop_load.ensures.stretches c.drop_load.ensures.pairs
    ∙ (ap (λ ps. shown_all ts (set ps 0 c.take_effect.new.pair)) only ∙ ap (λ x. x ∷ []) made) in
    let after : Ways = record { loads = left; moment = moment_with unit.moment left; pairs = on ∷ [] } in
    let taken = later_taken c.args.place bytes number load u e next.store one next.one next.open_ (ap (past_at (pasts ss)) next.past)
    c.requires.load
    next.before
    (sym (ap (λ w. is_word_of c.args.place.first w load.address bytes) next.made) ∙ next.is_answer) cut_ in (
      same_ways _ after c.drop_load.ensures.loads c.drop_load.ensures.moment pairs ∙ taken,
      ap has_way (sym taken),
    )
