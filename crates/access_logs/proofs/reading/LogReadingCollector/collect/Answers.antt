use Rattle.std.proofs.Common.{◌≡◌, ◌+◌, ◌∷◌, ◌++◌, [], None, Ok, ◌∙◌, sym, ap, subst, arith}
use Rattle.access_logs.specs.Logs.{state_with, state_after}
use Rattle.access_logs.specs.Reads.{Kept, KeptMore}
use Rattle.access_logs.proofs.Kept.{kept_passed, kept_line}
use Rattle.access_logs.proofs.reading.LogReadingCollector.collect.Goals as goal

pub returns-in-None-clause-kept : goal.returns-in-None-clause-kept
returns-in-None-clause-kept g c start texts number went =
    let self = c.args.self.now in
    let s = state_with self.pages self.tag self.lines in
    let s' = state_with self.pages self.tag c.args.number in
    let after : s' ≡ state_after s None = ap (state_with self.pages self.tag) (omega (arith, number, went.0.number)) in
    (kept_passed c.args.text.now s' (ap Ok (sym c.in-None.is) ∙ c.in_ok-said.ensures.said) went.0 after, went.1, went.2, went.3)

pub returns-in_ok-keep-in-Some-clause-kept : goal.returns-in_ok-keep-in-Some-clause-kept
returns-in_ok-keep-in-Some-clause-kept g c start texts number went =
    let self = c.args.self.now in
    let new = c.keep.new.self in
    let ok = c.in_ok-keep-in-Some.ensures in
    let access = c.in-Some.access in
    let access_in = g.F.LogFormat.access_in in
    let s = state_with self.pages self.tag self.lines in
    let s' = state_with new.pages new.tag c.args.number in
    let same : state_with new.pages new.tag (new.lines + 1) ≡ s' =
    ap (state_with new.pages new.tag) (omega (arith, number, went.0.number, ok.lines)) in
    let more : KeptMore self.room s self.requests.items self.groups.items access s' new.requests.items new.groups.items =
    subst (λ x. KeptMore self.room s self.requests.items self.groups.items access x new.requests.items new.groups.items) same ok.ok in
    let line : Kept access_in self.room (texts ++ c.args.text.now ∷ []) s' new.requests.items new.groups.items =
    kept_line c.args.text.now access (ap Ok (sym c.in-Some.is) ∙ c.in_ok-said.ensures.said) went.0 more in
    let kept = subst (λ n. Kept access_in n (texts ++ c.args.text.now ∷ []) s' new.requests.items new.groups.items) (sym ok.room) line in
    (kept, ok.room ∙ went.1, omega (arith, ok.room, went.2), ok.none)
