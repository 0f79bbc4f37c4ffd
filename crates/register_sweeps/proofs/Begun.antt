-- That rows begin behind an open gate.
use Rattle.std.proofs.Common.{◌≡◌, ◌≢◌, ℕ, ◌<◌, Bool, true, get_or, Result, Ok, Err, IfOk, Vec, Global}
use Rattle.register_sweeps.specs.declared.threads.Stop.{Stop}
use Rattle.register_sweeps.specs.declared.threads.Stop.TheVariants.{TurnLimit}

-- where each thread's answer says that, all of them say it
pub each_begun : {A E : Type 0} (n turns : ℕ) (opens : Bool)
    (Same Says : Vec (Result A Stop) Global → ℕ → Result A Stop → Type 0) (r : Result (Vec (Result A Stop) Global) E)
    → IfOk r (λ v. (i : ℕ) (d : Result A Stop) → i < n → Same v i d × Says v i d)
    → ((v : Vec (Result A Stop) Global) (i : ℕ) (d : Result A Stop) → Says v i d → opens ≡ true → 0 < turns
    → get_or v.items i d ≢ Err TurnLimit)
    → IfOk r (λ v. opens ≡ true → 0 < turns → (i : ℕ) (d : Result A Stop) → i < n → get_or v.items i d ≢ Err TurnLimit)
each_begun n turns opens Same Says (Ok v) each begun = λ is_open some i d l. begun v i d (each i d l).1 is_open some
each_begun n turns opens Same Says (Err e) each begun = tt
