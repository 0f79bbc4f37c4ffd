-- What a follower of a chain has asked and was told, after one turn more.
use Rattle.std.proofs.Common.{◌≡◌, ℕ, List, [], ◌∷◌, ◌++◌, length, map, slice_index_or, refl, sym, ap, ◌∙◌, arith}
use Rattle.std.proofs.lemmas.List.{append_assoc}
use Rattle.std.proofs.lemmas.List.Elements.{All-weaker}
use Rattle.station_journal.specs.declared.asks.Ask.{Ask}
use Rattle.station_journal.specs.declared.asks.Ask.TheVariants.{Load, Store, Prefetch, Evict, Done}
use Rattle.station_journal.specs.declared.asks.Told.{Told}
use Rattle.station_examples.specs.Chains.{next_of, stands_at, Follows, IsFollowed}

-- one telling more
stands_more : (at : ℕ) (tellings : List Told) (told : Told) → stands_at at (tellings ++ told ∷ []) ≡ next_of (stands_at at tellings) told
stands_more at [] told = refl
stands_more at (first ∷ rest) told = stands_more (next_of at first) rest told

follows_more : (first : ℕ) (tellings : List Told) (told : Told) (ask : Ask) → Follows first tellings ask
    → Follows first (tellings ++ told ∷ []) ask
follows_more first tellings told (Load tag at) h =
    record {
      before = h.before;
      rest = h.rest ++ told ∷ [];
      is = ap (λ l. l ++ told ∷ []) h.is ∙ append_assoc h.before h.rest (told ∷ []);
      stood = h.stood;
    }
follows_more first tellings told (Store at word lanes) h = tt
follows_more first tellings told (Prefetch at) h = tt
follows_more first tellings told (Evict block) h = tt
follows_more first tellings told Done h = tt

module _ (first : ℕ) (asked asked' : List Ask) (tellings tellings' : List Told) (at : ℕ) (h : IsFollowed first asked tellings at) where
  -- it was told this too
  pub followed_telling : (told : Told) (at' : ℕ) → asked' ≡ asked → tellings' ≡ tellings ++ told ∷ [] → at' ≡ next_of at told
      → IsFollowed first asked' tellings' at'
  followed_telling told at' same more next =
      rw (same, more) (record {
        each = All-weaker (Follows first tellings) (Follows first (tellings ++ told ∷ [])) (follows_more first tellings told) asked h.each;
        now = next ∙ ap (λ n. next_of n told) h.now ∙ sym (stands_more first tellings told);
      })

  -- nothing was asked and nothing told
  pub followed_still : asked' ≡ asked → tellings' ≡ tellings → IsFollowed first asked' tellings' at
  followed_still same still = rw (same, still) h

-- ---- a row of one

-- after a call that leaves something of each, it is of the one as it was
pub same_of_one : {X Y : Type 0} (f : X → Y) (xs ys : List X) (x d : X) → map f ys ≡ map f xs → xs ≡ x ∷ []
    → f (slice_index_or ys 0 d) ≡ f x
same_of_one f xs [] x d same one = let l = ap length same in let m = ap (λ zs. length (map f zs)) one in absurd (omega arith)
same_of_one f xs (y ∷ ys) x d same one =
    ap (λ zs. slice_index_or zs 0 (f x)) same ∙ ap (λ zs. slice_index_or (map f zs) 0 (f x)) one

-- and there is one still
pub still_one : {X Y : Type 0} (f : X → Y) (xs ys : List X) (x d : X) → map f ys ≡ map f xs → xs ≡ x ∷ []
    → ys ≡ slice_index_or ys 0 d ∷ []
still_one f xs [] x d same one = let l = ap length same in let m = ap (λ zs. length (map f zs)) one in absurd (omega arith)
still_one f xs (y ∷ []) x d same one = refl
still_one f xs (y ∷ z ∷ ys) x d same one = let l = ap length same in let m = ap (λ zs. length (map f zs)) one in absurd (omega arith)
