use Rattle.std.proofs.Common.{◌≡◌, ℕ, Option, Some, None, ap, ◌∙◌}
use Rattle.std.specs.Option.{UnwrapsOrElse}
use Rattle.std.proofs.lemmas.Option.{unwrap_or-slice_get}
use Rattle.std.specs.Option.{unwrap_or}
use Rattle.flat_model.specs.declared.Word.{Word}
use Rattle.flat_model.specs.Words.{zero_word}
use Rattle.flat_model.specs.Memory as memory
use Rattle.run_reasons.specs.Shown.{shown}
use Rattle.run_reasons.proofs.explainer.Explainer.word_at.Goals as goal

-- what is unwrapped, where the default is this word
unwrapped : (o : Option Word) (P : Word → Type 0) (w d : Word) → UnwrapsOrElse o P w → ((v : Word) → P v → v ≡ d) → w ≡ unwrap_or o d
unwrapped None P w d h default = default w h
unwrapped (Some v) P w d h default = h

is_zero : (v : Word) → v.b0 ≡ 0 → v.b1 ≡ 0 → v.b2 ≡ 0 → v.b3 ≡ 0 → v ≡ zero_word
is_zero v e0 e1 e2 e3 =
    let mk : ℕ → ℕ → ℕ → ℕ → Word = λ a b c d. record { b0 = a; b1 = b; b2 = c; b3 = d } in
    ap (λ a. mk a v.b1 v.b2 v.b3) e0 ∙ ap (λ b. mk 0 b v.b2 v.b3) e1 ∙ ap (λ c. mk 0 0 c v.b3) e2 ∙ ap (λ d. mk 0 0 0 d) e3

pub returns : goal.returns
unfolding shown
returns c =
    let mem = (memory.shown c.args.self.now.flat).mem in
    unwrapped c.word.result _ c.unwrap_or_default.result zero_word c.unwrap_or_default.ensures (λ v p. is_zero v p.0 p.1.0 p.1.1.0 p.1.1.1)
    ∙ ap (λ (o : Option Word). unwrap_or o zero_word) c.word.ensures
    ∙ unwrap_or-slice_get mem c.args.at zero_word
