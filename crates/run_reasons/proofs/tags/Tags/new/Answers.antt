use Rattle.std.proofs.Common.{List, replicate, ap, ◌∙◌, sym, subst}
use Rattle.run_reasons.specs.declared.tags.TheConstants.{TAGS}
use Rattle.run_reasons.specs.declared.tags.LeftWord.{LeftWord}
use Rattle.run_reasons.specs.TagSlots.{no_slot, uses_in, since_in, IsCounted}
use Rattle.run_reasons.proofs.TagSlots.{first_uses, first_since, first_counted}
use Rattle.run_reasons.proofs.tags.Tags.new.Goals as goal

pub invariant_of-result-clause-counted : goal.invariant_of-result-clause-counted
invariant_of-result-clause-counted c =
    subst (λ s. IsCounted s c.in_ok-counts.counts.items 0 c.new-left.result.items) (sym c.in_ok-slots.ensures.items)
    (subst (λ k. IsCounted (replicate TAGS no_slot) k 0 c.new-left.result.items) (sym c.in_ok-counts.ensures.items)
    (subst (λ (l : List LeftWord). IsCounted (replicate TAGS no_slot) (replicate c.args.words 0) 0 l) (sym c.new-left.ensures.items)
    (first_counted TAGS c.args.words)))

pub returns-clause-uses : goal.returns-clause-uses
returns-clause-uses c = ap uses_in c.in_ok-slots.ensures.items ∙ first_uses TAGS

pub returns-clause-since : goal.returns-clause-since
returns-clause-since c =
    ap (λ s. since_in c.new-left.result.items s) c.in_ok-slots.ensures.items
    ∙ ap (λ (l : List LeftWord). since_in l (replicate TAGS no_slot)) c.new-left.ensures.items ∙ first_since TAGS
