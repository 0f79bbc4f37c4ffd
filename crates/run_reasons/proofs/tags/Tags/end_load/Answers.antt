use Rattle.std.proofs.Common.{◌≡◌, ◌-◌, ◌<◌, length, vec_len, get_or, ap, sym, subst, ◌∙◌, arith}
use Rattle.std.proofs.lemmas.List.{get_or_read_under}
use Rattle.std.proofs.lemmas.Grind.{common_steps}
use Rattle.std.specs.Prelude.{slice_set}
use Rattle.run_reasons.specs.TagSlots.{IsCounted, since_in}
use Rattle.run_reasons.proofs.TagSlots.{load_counted, within, uses_set, since_set, none_behind, since_forgotten, counted_forgotten}
use Rattle.run_reasons.proofs.tags.Tags.end_load.Goals as goal

pub index_mut-requires : goal.index_mut-requires
index_mut-requires c =
    let t = c.args.self.now in
    let load = c.args.load in
    let one = (load_counted t.slots.items t.counts.items t.loads t.left.items c.args.tag load t.counted c.requires.loaded).0 in
    let inside : load.at < length t.counts.items = within t.counts.items load.at one in
    omega (arith, inside)

pub overflow_sub-index_mut : goal.overflow_sub-index_mut
overflow_sub-index_mut c =
    let t = c.args.self.now in
    let load = c.args.load in
    let one = (load_counted t.slots.items t.counts.items t.loads t.left.items c.args.tag load t.counted c.requires.loaded).0 in
    let inside : load.at < length t.counts.items = within t.counts.items load.at one in
    let long : vec_len t.counts ≡ length t.counts.items = omega arith in
    let count : c.index_mut.result.now ≡ get_or t.counts.items load.at 0 =
    get_or_read_under t.counts.items load.at (vec_len t.counts) c.index_mut.result.now 0 c.index_mut.ensures.value
    (omega (arith, inside)) long in
    omega (arith, count, one)

pub invariant_of-self-clause-counted : goal.invariant_of-self-clause-counted
invariant_of-self-clause-counted c =
    let t = c.args.self.now in
    let slots = slice_set t.slots.items c.args.tag (record { state = c.args.state; before = 0 }) in
    let counts = slice_set t.counts.items c.args.load.at (c.index_mut.result.now - 1) in
    let counted : IsCounted slots counts (t.loads - 1) t.left.items = grind (arith, common_steps) in
    subst (IsCounted slots counts (t.loads - 1)) (sym c.forget.ensures) (counted_forgotten slots counts (t.loads - 1) t.left.items counted)

pub returns-clause-uses : goal.returns-clause-uses
returns-clause-uses c =
    let t = c.args.self.now in
    uses_set t.slots.items c.args.tag (record { state = c.args.state; before = 0 }) (omega (arith, t.all_tags, c.ranges.tag.fits))

pub returns-clause-since : goal.returns-clause-since
returns-clause-since c =
    let t = c.args.self.now in
    let slots = slice_set t.slots.items c.args.tag (record { state = c.args.state; before = 0 }) in
    let counts = slice_set t.counts.items c.args.load.at (c.index_mut.result.now - 1) in
    let counted : IsCounted slots counts (t.loads - 1) t.left.items = grind (arith, common_steps) in
    ap (λ l. since_in l slots) c.forget.ensures ∙ since_forgotten slots counts (t.loads - 1) t.left.items counted
    ∙ since_set t.left.items t.slots.items c.args.tag (record { state = c.args.state; before = 0 })
    (omega (arith, t.all_tags, c.ranges.tag.fits)) (none_behind t.left.items 0 c.args.state c.requires.closed)
