use Rattle.std.proofs.Common.{◌≡◌, take, refl, sym, ap, ◌∙◌, Some, None, false}
use Rattle.atomic_histories.specs.declared.stretches.Before.TheVariants.{Nothing, Behind}
use Rattle.atomic_histories.specs.Pasts.{after, either, stood, got, missed}
use Rattle.atomic_histories.specs.Followed.{is_answer}
use Rattle.atomic_histories.specs.Shown.{past_at, past_of, pasts}
use Rattle.atomic_histories.specs.Shares.{IsShare}
use Rattle.atomic_histories.proofs.Frames.{grows_same, grows_more}
use Rattle.atomic_histories.proofs.Shares.{share_grown, none_got, none_missed, word_same, two_same, word_left, two_left, split_more}
use Rattle.atomic_histories.proofs.Shares.{whole_got, whole_missed, got_word, missed_word, on_ok_both}
use Rattle.atomic_histories.proofs.splits.Split.add.Goals as goal

pub returns-then-is_answer-clause-split : goal.returns-then-is_answer-clause-split
returns-then-is_answer-clause-split c =
    let ss = c.args.stretches.now.items in
    let is = is_answer c.args.unit _ _ _ in
    let o = c.in-Overwritten in
    let place = c.args.place in
    let answers = sym c.is_answer.ensures ∙ c.if-is_answer.true in
    let past = after o.word o.moment _ in
    on_ok_both _
    (split_more is place ss ss c.index.result.now c.args.self.now c.push.new.self past (Some (Behind place)) None c.requires.place
    c.index.ensures (ap (past_of (pasts (take place ss))) o.is) (grows_same ss) c.requires.split
    (whole_got is ss place c.index.result.now o.word o.moment o.before c.requires.place c.index.ensures o.is answers)
    (whole_missed is ss o.word o.moment (past_at (pasts (take place ss)) o.before) answers))
    c.push.ensures.got c.push.ensures.missed

pub left_of_word-requires-clause-same : goal.left_of_word-requires-clause-same
left_of_word-requires-clause-same c =
    let ss = c.args.stretches.now.items in
    let o = c.in-Overwritten in
    word_same None _ ss ss _ o.word o.moment o.before _ c.got-got.result none_got
    c.requires.place c.index.ensures (grows_same ss) o.is c.requires.split.got_places c.got-got.ensures

pub left_of_word-requires-in-Overwritten-clause-same : goal.left_of_word-requires-in-Overwritten-clause-same
left_of_word-requires-in-Overwritten-clause-same c =
    let o = c.in-Overwritten in
    word_same (Some Nothing) c.args.place c.args.stretches.now.items c.left_of_word.new.stretches.items c.index.result.now o.word o.moment
    o.before c.args.self.now.missed.items c.missed-missed.result none_missed c.requires.place c.index.ensures
    c.in_ok-got-in-Overwritten.ensures.grows o.is c.requires.split.missed_places c.missed-missed.ensures

pub left_of_two-requires-clause-same : goal.left_of_two-requires-clause-same
left_of_two-requires-clause-same c =
    let ss = c.args.stretches.now.items in
    two_same None _ ss ss _ c.in-Either.one c.in-Either.other _ _
    c.got-in-Either.result none_got c.requires.place c.index.ensures
    (grows_same ss) c.in-Either.is c.requires.split.got_places c.got.ensures
    c.got-in-Either.ensures

pub left_of_two-requires-in-Either-clause-same : goal.left_of_two-requires-in-Either-clause-same
left_of_two-requires-in-Either-clause-same c =
    two_same (Some Nothing) c.args.place c.args.stretches.now.items c.left_of_two.new.stretches.items c.index.result.now c.in-Either.one
    c.in-Either.other c.args.self.now.missed.items c.missed.result c.missed-in-Either.result none_missed c.requires.place c.index.ensures
    c.in_ok-got-in-Either.ensures.grows c.in-Either.is c.requires.split.missed_places c.missed.ensures c.missed-in-Either.ensures

pub returns-in_ok-missed-in-Overwritten-clause-split : goal.returns-in_ok-missed-in-Overwritten-clause-split
returns-in_ok-missed-in-Overwritten-clause-split c =
    let ss = c.args.stretches.now.items in
    let ts = c.left_of_word.new.stretches.items in
    let us = c.left_of_word-in-Overwritten.new.stretches.items in
    let is = is_answer c.args.unit c.args.load.now.address c.args.load.now.since c.args.bytes.now in
    let o = c.in-Overwritten in
    let place = c.args.place in
    let first = c.in_ok-got-in-Overwritten in
    let second = c.in_ok-missed-in-Overwritten in
    let split = c.args.self.now in
    let before = past_at (pasts (take place ss)) o.before in
    let past = after o.word o.moment before in
    let other : is (stood o.word o.moment) ≡ false = sym c.is_answer.ensures ∙ c.if-is_answer.false in
    let got_here : IsShare us first.got (got is past) =
    share_grown ts us first.got (got is past) second.ensures.grows
    (word_left (got is) None place ss ss ts o.word o.moment o.before split.got.items c.got-got.result first.got
    (got_word is o.word o.moment before other) c.requires.split.got (grows_same ss) c.got-got.ensures first.ensures.share) in
    let missed_here : IsShare us second.missed (missed is past) =
    word_left (missed is) (Some Nothing) place ss ts us o.word o.moment o.before split.missed.items c.missed-missed.result second.missed
    (missed_word is o.word o.moment before other) c.requires.split.missed first.ensures.grows c.missed-missed.ensures second.ensures.share
    in
    on_ok_both c.push-in-Overwritten.result
    (split_more is place ss us c.index.result.now split c.push-in-Overwritten.new.self past first.got second.missed c.requires.place
    c.index.ensures (ap (past_of (pasts (take place ss))) o.is) (grows_more ss ts us first.ensures.grows second.ensures.grows)
    c.requires.split got_here missed_here)
    c.push-in-Overwritten.ensures.got c.push-in-Overwritten.ensures.missed

pub returns-in_ok-missed-in-Either-clause-split : goal.returns-in_ok-missed-in-Either-clause-split
returns-in_ok-missed-in-Either-clause-split c =
    let ss = c.args.stretches.now.items in
    let ts = c.left_of_two.new.stretches.items in
    let us = c.left_of_two-in-Either.new.stretches.items in
    let is = is_answer c.args.unit c.args.load.now.address c.args.load.now.since c.args.bytes.now in
    let o = c.in-Either in
    let place = c.args.place in
    let first = c.in_ok-got-in-Either in
    let second = c.in_ok-missed-in-Either in
    let split = c.args.self.now in
    let past = either (past_at (pasts (take place ss)) o.one) (past_at (pasts (take place ss)) o.other) in
    let got_here : IsShare us first.got (got is past) =
    share_grown ts us first.got (got is past) second.ensures.grows
    (two_left (got is) None place ss ss ts o.one o.other split.got.items c.got.result c.got-in-Either.result first.got refl
    c.requires.split.got (grows_same ss) c.got.ensures c.got-in-Either.ensures first.ensures.share) in
    let missed_here : IsShare us second.missed (missed is past) =
    two_left (missed is) (Some Nothing) place ss ts us o.one o.other split.missed.items c.missed.result c.missed-in-Either.result
    second.missed refl c.requires.split.missed first.ensures.grows c.missed.ensures c.missed-in-Either.ensures second.ensures.share in
    on_ok_both c.push-in-Either.result
    (split_more is place ss us c.index.result.now split c.push-in-Either.new.self past first.got second.missed c.requires.place
    c.index.ensures (ap (past_of (pasts (take place ss))) o.is) (grows_more ss ts us first.ensures.grows second.ensures.grows)
    c.requires.split got_here missed_here)
    c.push-in-Either.ensures.got c.push-in-Either.ensures.missed
