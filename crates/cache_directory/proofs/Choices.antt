-- What a look and a choice find.
use Rattle.std.proofs.Common.{◌≡◌, ℕ, ◌+◌, ◌*◌, ◌/◌, ◌<◌, ◌≤◌, Bool, true, false, not, List, length, Option, Some, None, is_some, is_none}
use Rattle.std.proofs.Common.{refl, sym, ◌∙◌, arith}
use Rattle.std.specs.List.{find}
use Rattle.std.proofs.lemmas.Bool.{both_ways, false_from_ne_true, not-true, not-false}
use Rattle.flat_model.specs.Places.{is_number}
use Rattle.flat_model.proofs.Numbers.{number_from, number_is}
use Rattle.flat_model.proofs.Places.{place_of-first, place_of-none, place_of-nowhere}
use Rattle.cache_directory.specs.declared.directory.Choice.TheVariants.{Free, Victim}
use Rattle.cache_directory.specs.Frames.{Frames, IsSound, empty_frame, frame_at, is_held, frame_of, order_of, ways_of, set_of, choice_from}
use Rattle.cache_directory.specs.Frames.{free_way, oldest, chosen, is_all_pending, are_pending}
use Rattle.cache_directory.proofs.Finds.{find-passes, find-all, find-nowhere, range_within, All-range, list_all-passes, range_not_all}
use Rattle.cache_directory.proofs.Whole.{times-all, held_there, slot_in, in_row, of_row, held_in_order, order_held}

-- ---- the frame that holds a block

-- no frame holds the block
pub found_nowhere : (d : Frames) (block f : ℕ) → frame_of d.frames block ≡ None → (frame_at d.frames f).block ≡ Some block → ⊥
unfolding frame_of
found_nowhere d block f e held =
    let no = place_of-nowhere (λ y. is_number y.block block) _ f empty_frame e (held_there d f (cc)) in
    both_ways _ no (number_is (frame_at _ f).block block held)

-- the one frame that holds it
pub found_held : (ways words : ℕ) (d : Frames) (block f : ℕ) → IsSound ways words d → (frame_at d.frames f).block ≡ Some block
    → frame_of d.frames block ≡ Some f
unfolding frame_of
found_held ways words d block f h held = place_of-first (λ y. is_number y.block block) _ f empty_frame (held_there d f (cc))
    (λ j l. false_from_ne_true _ (λ y. (let q = h.alone j f block (number_from (frame_at _ j).block block y) held in
    absurd (omega arith)))) (number_is (frame_at _ f).block block held)

-- where none does, a look finds none
pub found_none : (d : Frames) (block : ℕ) → ((f : ℕ) → (frame_at d.frames f).block ≡ Some block → ⊥) → frame_of d.frames block ≡ None
unfolding frame_of
found_none d block nowhere = place_of-none (λ y. is_number y.block block) _ empty_frame
    (λ j l. false_from_ne_true _ (λ y. nowhere j (number_from (frame_at _ j).block block y)))

-- a look over the ways of the block's set finds it
pub look_in_set : (ways words : ℕ) (d : Frames) (block : ℕ) → IsSound ways words d
    → find (λ f. is_number (frame_at d.frames f).block block) (ways_of ways (set_of d block)) ≡ frame_of d.frames block
look_in_set ways words d block h = go _ refl
  where
    p : ℕ → Bool
    p f = is_number (frame_at d.frames f).block block

    set : ℕ
    set = set_of d block

    row : List ℕ
    row = ways_of ways set

    go : (o : Option ℕ) → find p row ≡ o → find p row ≡ frame_of d.frames block
    go (Some f) e = e ∙ sym (found_held ways words d block f h (number_from (frame_at _ f).block block (find-passes p row f e)))
    go None e = e ∙ sym (found_none d block (λ f held. (let some = (slot_in f ways _ _ h.frames_there (held_there d f (cc))).0 in
        let at = in_row f ways set some (h.in_set f block held) in
        both_ways (p f) (All-range (λ x. p x ≡ false) _ ways f (find-nowhere p row e) at.0 at.1)
        (number_is (frame_at _ f).block block held))))

-- ---- the choice

-- a free frame of a set
pub record IsFreeWay (ways : ℕ) (d : Frames) (set f : ℕ) : Type 0 where
  pub there : f < length d.frames
  pub in_set : f / ways ≡ set
  pub free : (frame_at d.frames f).block ≡ None

-- a frame of a set that holds a block with all its words
pub record IsResidentWay (ways : ℕ) (d : Frames) (set f : ℕ) : Type 0 where
  pub there : f < length d.frames
  pub in_set : f / ways ≡ set
  pub held : is_held d f ≡ true
  pub settled : (frame_at d.frames f).pending ≡ false

not_some : (o : Option ℕ) → is_none o ≡ true → o ≡ None
not_some (Some x) e = absurd (cc)
not_some None e = refl

not_none : (o : Option ℕ) → is_none o ≡ false → is_some o ≡ true
not_none (Some x) e = refl
not_none None e = absurd (cc)

pub free_way_is : (ways words : ℕ) (d : Frames) (set f : ℕ) → IsSound ways words d → set < length d.orders → free_way ways d set ≡ Some f
    → IsFreeWay ways d set f
unfolding free_way
free_way_is ways words d set f h s e =
    let at = find-all (λ f. is_none (frame_at _ f).block) (λ x. (set * ways ≤ x) × (x < set * ways + ways)) _ f e
    (range_within (λ x. _ × (x < set * ways + ways)) _ ways (λ x l m. (l, m))) in
    record {
      there = grind arith;
      in_set = grind arith;
      free = not_some (frame_at _ f).block (find-passes (λ f. is_none (frame_at d.frames f).block) _ f e);
    }

pub oldest_is : (ways words : ℕ) (d : Frames) (set f : ℕ) → IsSound ways words d → oldest d set ≡ Some f → IsResidentWay ways d set f
unfolding oldest
oldest_is ways words d set f h e =
    let at = find-all (λ f. not (frame_at _ f).pending) (λ x. (is_held d x ≡ true) × (x / ways ≡ set)) _ f e
    (order_held ways words d set h) in
    record {
      there = held_there d f at.0;
      in_set = at.1;
      held = at.0;
      settled = not-true (frame_at _ f).pending (find-passes (λ f. not (frame_at d.frames f).pending) _ f e);
    }

pub chosen-free : (ways words : ℕ) (d : Frames) (set f : ℕ) → IsSound ways words d → set < length d.orders → chosen ways d set ≡ Free f
    → IsFreeWay ways d set f
unfolding chosen
chosen-free ways words d set f h s e = go _ refl _ e
  where
    go : (o : Option ℕ) → free_way ways d set ≡ o → (v : Option ℕ) → choice_from o v ≡ Free f → IsFreeWay ways d set f
    go (Some g) q v e =
        let same : g ≡ f = cc in
        free_way_is ways words d set f h s (rw (← same) q)
    go None q (Some g) e = absurd (cc)
    go None q None e = absurd (cc)

pub chosen-victim : (ways words : ℕ) (d : Frames) (set f : ℕ) → IsSound ways words d → chosen ways d set ≡ Victim f
    → IsResidentWay ways d set f
unfolding chosen
chosen-victim ways words d set f h e = go _ _ refl e
  where
    go : (o v : Option ℕ) → oldest d set ≡ v → choice_from o v ≡ Victim f → IsResidentWay ways d set f
    go (Some g) v q e = absurd (cc)
    go None (Some g) q e =
        let same : g ≡ f = cc in
        oldest_is ways words d set f h (rw (← same) q)
    go None None q e = absurd (cc)

-- where there is no frame to take, all ways of the set are pending, and only there
pub chosen-all_pending : (ways words : ℕ) (d : Frames) (set : ℕ) → IsSound ways words d
    → is_all_pending (chosen ways d set) ≡ are_pending ways d set
unfolding chosen free_way oldest
chosen-all_pending ways words d set h = go _ refl _ refl
  where
    free : ℕ → Bool
    free f = is_none (frame_at d.frames f).block

    settled : ℕ → Bool
    settled f = not (frame_at d.frames f).pending

    pending : ℕ → Bool
    pending f = (frame_at d.frames f).pending

    row : List ℕ
    row = ways_of ways set

    waits : (f : ℕ) → find free row ≡ None → find settled (order_of d set) ≡ None → set * ways ≤ f → f < set * ways + ways
        → pending f ≡ true
    waits f e q l m =
        let held = not_none (frame_at _ f).block (All-range (λ x. free x ≡ false) _ ways f (find-nowhere free row e) l m) in
        let stands = held_in_order ways words d set f h held (of_row f ways set l m) in
        not-false _ (times-all (λ x. settled x ≡ false) _ f (find-nowhere settled _ q) (omega arith))

    go : (o : Option ℕ) → find free row ≡ o → (v : Option ℕ) → find settled (order_of d set) ≡ v
        → is_all_pending (choice_from o v) ≡ are_pending ways d set
    go (Some f) e v q =
        let at = find-all free (λ x. (set * ways ≤ x) × (x < set * ways + ways)) row f e
        (range_within (λ x. _ × (x < set * ways + ways)) _ ways (λ x l m. (l, m))) in
        let vacant = h.empty f (not_some (frame_at _ f).block (find-passes free row f e)) in
        sym (range_not_all pending _ ways f at.0 at.1 (cc))
    go None e (Some f) q =
        let held = find-all settled (λ x. (is_held d x ≡ true) × (x / ways ≡ set)) _ f q (order_held ways words d set h) in
        let some = (slot_in f ways _ _ h.frames_there (held_there d f held.0)).0 in
        let at = in_row f ways set some held.1 in
        sym (range_not_all pending _ ways f at.0 at.1 (not-true _ (find-passes settled _ f q)))
    go None e None q = sym (list_all-passes pending row (range_within (λ x. pending x ≡ true) _ ways (λ x l m. waits x e q l m)))
