use Rattle.std.proofs.Common.{◌∙◌, ap}
use Rattle.result_formats.specs.Histories as histories
use Rattle.result_formats.proofs.histories.history_in.Goals as goal

pub object_in-requires-clause-allowed : goal.object_in-requires-clause-allowed
object_in-requires-clause-allowed c =
    let cause = c.cause_in-cause.ensures ∙ ap histories.cause_in c.refusal_in.ensures in
    c.as_slice.ensures.value ∙ c.allowed_in-allowed.ensures ∙ ap histories.allowed_in cause

pub object_in-requires-clause-sources : goal.object_in-requires-clause-sources
object_in-requires-clause-sources c =
    let cause = c.cause_in-cause.ensures ∙ ap histories.cause_in c.refusal_in.ensures in
    c.as_bytes.ensures.value ∙ c.in_ok-sources-in-Json.ensures ∙ ap histories.sources_in cause
