use Rattle.std.proofs.Common.{◌≡◌, ◌<◌, List, drop, length, vec_len, ap, sym, ◌∙◌, arith}
use Rattle.std.specs.List.{list_any}
use Rattle.std.proofs.lemmas.List.{get_or_read_under}
use Rattle.run_reasons.specs.declared.origins.TagUse.TheVariants.{Loaded}
use Rattle.run_reasons.specs.declared.tags.LeftWord.{LeftWord}
use Rattle.run_reasons.specs.declared.tags.TagSlot.{TagSlot}
use Rattle.run_reasons.specs.TagSlots.{no_slot, slot_at, uses_in, is_left}
use Rattle.run_reasons.proofs.TagSlots.{rest_of, has_stood}
use Rattle.run_reasons.proofs.tags.Tags.has_stood.Goals as goal

pub returns-in-Loaded : goal.returns-in-Loaded
returns-in-Loaded c =
    let t = c.args.self.now in
    let load = c.in-Loaded.load in
    let long : vec_len t.slots ≡ length t.slots.items = omega arith in
    let within : c.args.tag < vec_len t.slots = omega (arith, t.all_tags, c.ranges.tag.fits) in
    let at : c.index.result.now ≡ slot_at t.slots.items c.args.tag =
    get_or_read_under t.slots.items c.args.tag (vec_len t.slots) c.index.result.now no_slot c.index.ensures within long in
    let is : uses_in t.slots.items c.args.tag ≡ Loaded load = ap (λ (s : TagSlot). s.state) (sym at) ∙ c.in-Loaded.is in
    c.has_word.ensures
    ∙ ap (list_any (is_left load.at c.args.word)) (rest_of c.index.result.now.before c.as_slice.result.now)
    ∙ ap (λ (l : List LeftWord). list_any (is_left load.at c.args.word) (drop c.index.result.now.before l)) c.as_slice.ensures.value
    ∙ ap (λ (s : TagSlot). list_any (is_left load.at c.args.word) (drop s.before t.left.items)) at
    ∙ has_stood t.slots.items t.left.items c.args.tag load c.args.word is
