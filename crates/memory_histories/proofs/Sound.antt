-- The regular law allows what hidden moments explain.
use Rattle.std.proofs.Common.{◌≡◌, ℕ, ◌<◌, List, Some, inl, inr, arith}
use Rattle.std.specs.List.{Contains}
use Rattle.memory_histories.specs.declared.events.Rest.{Rest}
use Rattle.memory_histories.specs.declared.windows.StoreByte.{StoreByte}
use Rattle.memory_histories.specs.declared.windows.LoadByte.{LoadByte}
use Rattle.memory_histories.specs.Regular.{IsBefore, MayReturn}
use Rattle.memory_histories.specs.Hidden.{Explains}

-- under hidden moments
module _ (image : List ℕ) (rest : Rest) (stores : List StoreByte) (l : LoadByte) (b : ℕ) (x : Explains image rest stores l b) where
  took : (s : StoreByte) → Contains stores s → (t : ℕ) → IsBefore s.ended t
      → (m : ℕ) × ((x.effect s ≡ Some m) × ((x.time s.began < m) × (m < x.time t)))
  took s c t h = grind (arith, x.rises, x.within s c)

  pub explained : MayReturn image rest stores l b
  explained = elim x.got [
    | inl (k, s, i, e, p) ↦ inl (
      k,
      s,
      i,
      e,
      (
        p.0,
        (
          p.1.0,
          λ (j, o, m, f, q).
              let first = took s (k, i, e) o.began q.1.0 in
              let second = took o (j, m, f) l.began q.1.1 in
              let load = x.after_request in grind (arith, p.1.1.1.1.1 o (j, m, f) q.0 second.0),
        ),
      ),
    )
    | inr p ↦ inr (
      p.0,
      λ (j, o, m, f, q).
          let t = took o (j, m, f) l.began q.1 in
          let load = x.after_request in grind (arith, p.1 o (j, m, f) q.0 t.0),
    )
  ]
