use Rattle.std.proofs.Common.{◌≡◌, length, vec_len, get_or, ap, ◌∙◌, arith}
use Rattle.std.proofs.lemmas.List.{get_or_read_under}
use Rattle.std.specs.Prelude.{slice_set}
use Rattle.run_reasons.specs.declared.origins.TagUse.TheVariants.{Loaded}
use Rattle.run_reasons.specs.Origins.{is_open_at}
use Rattle.run_reasons.specs.TagSlots.{is_open, since_in}
use Rattle.run_reasons.proofs.TagSlots.{few_counted, none_begun, since_set}
use Rattle.run_reasons.proofs.tags.Tags.begin.Goals as goal

pub overflow_add-index_mut : goal.overflow_add-index_mut
overflow_add-index_mut c =
    let t = c.args.self.now in
    let at = c.args.load.at in
    let long : vec_len t.counts ≡ length t.counts.items = omega arith in
    let count : c.index_mut.result.now ≡ get_or t.counts.items at 0 =
    get_or_read_under t.counts.items at (vec_len t.counts) c.index_mut.result.now 0 c.index_mut.ensures.value
    c.requires.inside long in
    omega (arith, count, t.counted.each_word at, few_counted (is_open_at at) t.slots.items, t.all_tags)

pub overflow_add-self : goal.overflow_add-self
overflow_add-self c =
    let t = c.args.self.now in
    omega (arith, t.counted.all, few_counted is_open t.slots.items, t.all_tags)

pub returns-clause-since : goal.returns-clause-since
returns-clause-since c =
    let t = c.args.self.now in
    let long : vec_len t.left ≡ length t.left.items = omega arith in
    ap (λ n. since_in t.left.items (slice_set t.slots.items c.args.tag (record { state = Loaded c.args.load; before = n })))
    (c.len.ensures ∙ long)
    ∙ since_set t.left.items t.slots.items c.args.tag _ (omega (arith, t.all_tags, c.ranges.tag.fits)) (none_begun t.left.items c.args.load)
