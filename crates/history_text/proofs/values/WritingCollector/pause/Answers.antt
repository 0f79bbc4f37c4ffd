use Rattle.std.proofs.Common.{◌≡◌, true}
use Rattle.history_text.proofs.Written.{told_flushed}
use Rattle.history_text.proofs.values.WritingCollector.pause.Goals as goal

pub returns-in-Ok-clause-kept : goal.returns-in-Ok-clause-kept
returns-in-Ok-clause-kept g c start texts went =
    let due : c.args.self.now.due ≡ true = cc c.if-not-self.false in
    (went.0, λ other h. told_flushed (went.1 other h) (went.2 due) c.in-Ok.ensures.ok, λ none. cc none)
