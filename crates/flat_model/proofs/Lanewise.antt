-- Words, one lane at a time.
use Rattle.std.proofs.Common.{◌≡◌, ℕ, zero, suc, bit_or, ◌<◌, Bool, true, false, cond, ◌&&◌, ◌||◌, max, ◌*◌, bit_and, refl, sym, ap, ap₂}
use Rattle.std.proofs.Common.{◌∙◌, arith, ◌==◌}
use Rattle.std.specs.Int.{bit_at}
use Rattle.std.proofs.lemmas.Grind.{common_steps}
use Rattle.std.proofs.lemmas.Nat.Bits.{and_pow, bit_at_or, bit_at-lt}
use Rattle.flat_model.specs.declared.Word.{Word}
use Rattle.flat_model.specs.declared.Lanes.{Lanes}
use Rattle.flat_model.specs.Words.{Lane, Lane0, Lane1, Lane2, Lane3, byte, word_of, mask_of, has, has_any, has_all, no_lanes, joined}
use Rattle.flat_model.specs.Words.{merged}

pub byte_word_of : (f : Lane → ℕ) (l : Lane) → byte (word_of f) l ≡ f l
byte_word_of f Lane0 = refl
byte_word_of f Lane1 = refl
byte_word_of f Lane2 = refl
byte_word_of f Lane3 = refl

-- two words with the same bytes are the same
pub same_word_from : (v w : Word) → ((l : Lane) → byte v l ≡ byte w l) → v ≡ w
same_word_from v w h = λ i. record { b0 = h Lane0 i; b1 = h Lane1 i; b2 = h Lane2 i; b3 = h Lane3 i }

pub byte-merged : (u o : Word) (m : Lanes) (l : Lane) → byte (merged u o m) l ≡ cond (has m l) (byte o l) (byte u l)
unfolding merged
byte-merged u o m l = byte_word_of (λ k. cond (has m k) (byte o k) (byte u k)) l

pub has-none : (l : Lane) → has no_lanes l ≡ false
unfolding has
has-none Lane0 = refl
has-none Lane1 = refl
has-none Lane2 = refl
has-none Lane3 = refl

scaled : (k : ℕ) → (0 * k == k) ≡ false → (1 * k == k) ≡ true → (a : ℕ) → a < 2 → (a * k == k) ≡ (a == 1)
scaled k none one zero h = none
scaled k none one (suc zero) h = one
scaled k none one (suc (suc a)) h = absurd (omega arith)

abbrev place : Lane → ℕ
place Lane0 = 0
place Lane1 = 1
place Lane2 = 2
place Lane3 = 3

-- a lane by its bit
has-bit : (n : ℕ) (l : Lane) → (bit_and n (mask_of l) == mask_of l) ≡ (bit_at n (place l) == 1)
has-bit n Lane0 = ap (λ k. k == 1) (and_pow n 0) ∙ scaled 1 refl refl (bit_at n 0) (bit_at-lt n 0)
has-bit n Lane1 = ap (λ k. k == 2) (and_pow n 1) ∙ scaled 2 refl refl (bit_at n 1) (bit_at-lt n 1)
has-bit n Lane2 = ap (λ k. k == 4) (and_pow n 2) ∙ scaled 4 refl refl (bit_at n 2) (bit_at-lt n 2)
has-bit n Lane3 = ap (λ k. k == 8) (and_pow n 3) ∙ scaled 8 refl refl (bit_at n 3) (bit_at-lt n 3)

pub has-joined : (m n : Lanes) (l : Lane) → has (joined m n) l ≡ (has m l || has n l)
unfolding has joined
has-joined m n l =
    has-bit (bit_or m.0 n.0) l ∙ ap (λ k. k == 1) (bit_at_or m.0 n.0 (place l)) ∙ both (bit_at m.0 (place l)) (bit_at n.0 (place l))
    (bit_at-lt m.0 (place l)) (bit_at-lt n.0 (place l)) ∙ sym (ap₂ (λ x y. x || y) (has-bit m.0 l) (has-bit n.0 l))
  where
    both : (a b : ℕ) → a < 2 → b < 2 → (max a b == 1) ≡ ((a == 1) || (b == 1))
    both a b ha hb = grind arith

pub none_from_any : (m : Lanes) → has_any m ≡ false → (l : Lane) → has m l ≡ false
none_from_any m h l = go (has m Lane0) refl (has m Lane1) refl (has m Lane2) refl (has m Lane3) refl h l
  where
    go : (a : Bool) → has m Lane0 ≡ a → (b : Bool) → has m Lane1 ≡ b → (c : Bool) → has m Lane2 ≡ c → (d : Bool) → has m Lane3 ≡ d
        → (a || (b || (c || d))) ≡ false → (k : Lane) → has m k ≡ false
    go false p false q false r false s e Lane0 = p
    go false p false q false r false s e Lane1 = q
    go false p false q false r false s e Lane2 = r
    go false p false q false r false s e Lane3 = s
    go true p b q c r d s e k = cc
    go false p true q c r d s e k = cc
    go false p false q true r d s e k = cc
    go false p false q false r true s e k = cc

pub all_from_all : (m : Lanes) → has_all m ≡ true → (l : Lane) → has m l ≡ true
all_from_all m h l = go (has m Lane0) refl (has m Lane1) refl (has m Lane2) refl (has m Lane3) refl h l
  where
    go : (a : Bool) → has m Lane0 ≡ a → (b : Bool) → has m Lane1 ≡ b → (c : Bool) → has m Lane2 ≡ c → (d : Bool) → has m Lane3 ≡ d
        → (a && (b && (c && d))) ≡ true → (k : Lane) → has m k ≡ true
    go true p true q true r true s e Lane0 = p
    go true p true q true r true s e Lane1 = q
    go true p true q true r true s e Lane2 = r
    go true p true q true r true s e Lane3 = s
    go false p b q c r d s e k = cc
    go true p false q c r d s e k = cc
    go true p true q false r d s e k = cc
    go true p true q true r false s e k = cc

-- ---- merges

pub merged-none : (u o : Word) → merged u o no_lanes ≡ u
merged-none u o = same_word_from _ _ (λ l. byte-merged u o no_lanes l ∙ ap (λ b. cond b (byte o l) (byte u l)) (has-none l))

pub merged_no_lane : (u o : Word) (m : Lanes) → has_any m ≡ false → merged u o m ≡ u
merged_no_lane u o m h = same_word_from _ _ (λ l. byte-merged u o m l ∙ ap (λ b. cond b (byte o l) (byte u l)) (none_from_any m h l))

-- the bytes that stand outside the lanes don't count
pub merged_held : (u v o : Word) (m : Lanes) → merged u (merged v o m) m ≡ merged u o m
merged_held u v o m = same_word_from _ _ (λ l. byte-merged u (merged v o m) m l ∙ ap (λ b. cond (has m l) b (byte u l))
    (byte-merged v o m l) ∙ twice (has m l) (byte o l) (byte v l) (byte u l) ∙ sym (byte-merged u o m l))
  where
    twice : (b : Bool) (x y z : ℕ) → cond b (cond b x y) z ≡ cond b x z
    twice true x y z = refl
    twice false x y z = refl

-- a second write goes over the first
pub merged_over : (u o w : Word) (m n : Lanes) → merged u (merged o w n) (joined m n) ≡ merged (merged u o m) w n
merged_over u o w m n =
    same_word_from _ _ (λ l.
    byte-merged u (merged o w n) (joined m n) l ∙ ap (λ b. cond b (byte (merged o w n) l) (byte u l)) (has-joined m n l)
    ∙ ap (λ b. cond (has m l || has n l) b (byte u l)) (byte-merged o w n l) ∙ both (has m l) (has n l) (byte w l) (byte o l) (byte u l)
    ∙ ap (λ b. cond (has n l) (byte w l) b) (sym (byte-merged u o m l)) ∙ sym (byte-merged (merged u o m) w n l))
  where
    both : (a b : Bool) (x y z : ℕ) → cond (a || b) (cond b x y) z ≡ cond b x (cond a y z)
    both true true x y z = refl
    both true false x y z = refl
    both false true x y z = refl
    both false false x y z = refl

pub joined-none : (m : Lanes) → joined no_lanes m ≡ m
unfolding joined
joined-none m = grind (arith, common_steps)
