use Rattle.std.proofs.Common.{ap, ◌∙◌}
use Rattle.run_reasons.specs.Origins.{with_use, without_since}
use Rattle.run_reasons.specs.TagSlots.{uses_in, since_in, is_open}
use Rattle.run_reasons.specs.declared.origins.TagUse.TheVariants.{Never, Loaded}
use Rattle.run_reasons.proofs.TagSlots.{uses_twice, since_twice, use_there}
use Rattle.run_reasons.proofs.tags.Tags.accept.Goals as goal

pub begin-requires-clause-free : goal.begin-requires-clause-free
begin-requires-clause-free c =
    let uses = uses_in c.args.self.now.slots.items in
    ap (λ f. is_open (f c.args.tag)) c.end.ensures.uses ∙ ap is_open (use_there uses c.args.tag Never)

pub returns-clause-uses : goal.returns-clause-uses
returns-clause-uses c =
    let uses = uses_in c.args.self.now.slots.items in
    c.begin.ensures.uses ∙ ap (λ f. with_use f c.args.tag (Loaded c.args.load)) c.end.ensures.uses
    ∙ uses_twice uses c.args.tag Never (Loaded c.args.load)

pub returns-clause-since : goal.returns-clause-since
returns-clause-since c =
    let since = since_in c.args.self.now.left.items c.args.self.now.slots.items in
    c.begin.ensures.since ∙ ap (λ f. without_since f c.args.tag) c.end.ensures.since ∙ since_twice since c.args.tag
