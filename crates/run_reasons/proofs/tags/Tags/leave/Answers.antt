use Rattle.std.proofs.Common.{◌≡◌, length, vec_len, get_or, ap, ◌∙◌, arith}
use Rattle.std.proofs.lemmas.List.{get_or_read_under}
use Rattle.run_reasons.specs.TagSlots.{since_in}
use Rattle.run_reasons.proofs.TagSlots.{few_at, since_left, since_passed}
use Rattle.run_reasons.proofs.tags.Tags.leave.Goals as goal

pub returns-then-index-gt0-clause-since : goal.returns-then-index-gt0-clause-since
returns-then-index-gt0-clause-since c =
    let t = c.args.self.now in
    ap (λ l. since_in l t.slots.items) c.push_reserved.ensures.items
    ∙ since_left t.slots.items t.counts.items t.loads t.left.items (record { at = c.args.at; word = c.args.word }) t.counted

pub returns-else-index-gt0-clause-since : goal.returns-else-index-gt0-clause-since
returns-else-index-gt0-clause-since c =
    let t = c.args.self.now in
    let long : vec_len t.counts ≡ length t.counts.items = omega arith in
    let count : c.index.result.now ≡ get_or t.counts.items c.args.at 0 =
    get_or_read_under t.counts.items c.args.at (vec_len t.counts) c.index.result.now 0 c.index.ensures c.requires.inside long in
    let none : get_or t.counts.items c.args.at 0 ≡ 0 = omega (arith, c.if-index-gt0.false, count) in
    since_passed t.slots.items t.counts.items t.loads t.left.items c.args.at c.args.word t.counted none

pub invariant_of-self-clause-forgotten : goal.invariant_of-self-clause-forgotten
invariant_of-self-clause-forgotten c none =
    let t = c.args.self.now in
    let long : vec_len t.counts ≡ length t.counts.items = omega arith in
    let count : c.index.result.now ≡ get_or t.counts.items c.args.at 0 =
    get_or_read_under t.counts.items c.args.at (vec_len t.counts) c.index.result.now 0 c.index.ensures c.requires.inside long in
    absurd (omega (arith, none, count, t.counted.each_word c.args.at, t.counted.all, few_at c.args.at t.slots.items))
