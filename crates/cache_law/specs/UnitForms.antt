-- What each step of a sound unit makes of its forms, and that it keeps the unit sound.
use Rattle.std.specs.Prelude.{ℕ}
use Rattle.flat_model.specs.declared.Word.{Word}
use Rattle.flat_model.specs.declared.Answer.{Answer}
use Rattle.cache_law.specs.declared.Request.{Request}
use Rattle.cache_law.specs.declared.Sizes.{Sizes}
use Rattle.cache_law.specs.State.{Cache}
use Rattle.cache_law.specs.Steps.{Stepped, request_step, evict_step, drain_step, arrive_step, process_step, take_step}
use Rattle.cache_law.specs.FormLaws.{RequestForms, EvictForms, ArriveForms, SameForms, TakenForms}
use Rattle.cache_law.specs.Sound.{IsSound}

-- what is to be so of a step's answer and of the cache after it
abbrev pub Made : Stepped → (Answer → Cache → Type 0) → Type 0
Made step forms = forms step.answer step.cache

-- so it is of each step, for its own forms
pub record StepForms (z : Sizes) (c : Cache) : Type 0 where
  pub request : (room : ℕ → ℕ) (asked : Request) → Made (request_step z room c asked) (RequestForms z c asked)
  pub evict : (block : ℕ) → Made (evict_step z c block) (EvictForms z c block)
  pub drain : (room : ℕ → ℕ) → Made (drain_step z room c) (SameForms z c)
  pub arrive : (slot i : ℕ) (word : Word) → Made (arrive_step z c slot i word) (ArriveForms z c slot i word)
  pub process : (place : ℕ) → Made (process_step c place) (SameForms z c)
  pub take : (place : ℕ) → Made (take_step c place) (TakenForms z c)

abbrev pub EachStepMakesForms : Type 0
EachStepMakesForms = (z : Sizes) (c : Cache) → IsSound z c → StepForms z c

-- the unit is sound after each step
pub record StepKeeps (z : Sizes) (c : Cache) : Type 0 where
  pub request : (room : ℕ → ℕ) (asked : Request) → IsSound z (request_step z room c asked).cache
  pub evict : (block : ℕ) → IsSound z (evict_step z c block).cache
  pub drain : (room : ℕ → ℕ) → IsSound z (drain_step z room c).cache
  pub arrive : (slot i : ℕ) (word : Word) → IsSound z (arrive_step z c slot i word).cache
  pub process : (place : ℕ) → IsSound z (process_step c place).cache
  pub take : (place : ℕ) → IsSound z (take_step c place).cache

abbrev pub EachStepKeeps : Type 0
EachStepKeeps = (z : Sizes) (c : Cache) → IsSound z c → StepKeeps z c
