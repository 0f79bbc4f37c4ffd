use Rattle.std.proofs.Common.{◌≡◌, ◌+◌, [], ◌∷◌, ◌++◌, None, Some, Ok, ◌∙◌, sym, ap, subst, arith}
use Rattle.access_logs.specs.Logs.{state_with, Requested, Asked}
use Rattle.access_logs.proofs.Logs.{requested_line, asked_none}
use Rattle.access_logs.proofs.writing.WritingCollector.collect.Goals as goal

pub returns-in-None-clause-kept : goal.returns-in-None-clause-kept
returns-in-None-clause-kept g c start texts number went =
    let self = c.args.self.now in
    let s = state_with self.pages self.tag self.lines in
    let same : state_with self.pages self.tag c.args.number ≡ state_with self.pages self.tag (self.lines + 1) =
    ap (state_with self.pages self.tag) (omega (arith, number, went.0.number)) in (
      requested_line c.args.text.now None (ap Ok (sym c.in-None.is) ∙ c.in_ok-said.ensures.said) went.0
          (asked_none g.W.Sink.took self.room self.writer.now s _ same went.0.fits),
      went.1,
      went.2,
      went.3,
    )

pub returns-in_ok-ask-in-Some-clause-kept : goal.returns-in_ok-ask-in-Some-clause-kept
returns-in_ok-ask-in-Some-clause-kept g c start texts number went =
    let self = c.args.self.now in
    let new = c.ask.new.self in
    let ok = c.in_ok-ask-in-Some.ensures in
    let access = c.in-Some.access in
    let took = g.W.Sink.took in
    let s = state_with self.pages self.tag self.lines in
    let s' = state_with new.pages new.tag c.args.number in
    let same : state_with new.pages new.tag (new.lines + 1) ≡ s' =
    ap (state_with new.pages new.tag) (omega (arith, number, went.0.number, ok.lines)) in
    let asked : Asked took self.room self.writer.now s (Some access) new.writer.now s' =
    subst (Asked took self.room self.writer.now s (Some access) new.writer.now) same ok.ok in
    let line : Requested took g.F.LogFormat.access_in self.room start.writer.now (texts ++ c.args.text.now ∷ []) new.writer.now s' =
    requested_line c.args.text.now (Some access) (ap Ok (sym c.in-Some.is) ∙ c.in_ok-said.ensures.said) went.0 asked in (
      subst (λ n. Requested took g.F.LogFormat.access_in n start.writer.now (texts ++ c.args.text.now ∷ []) new.writer.now s')
          (sym ok.room) line,
      ok.room ∙ went.1,
      omega (arith, ok.room, went.2),
      ok.none,
    )
