-- What each call leaves is whole. Here `d` is what the fields show, and `v` what the caller sees.
use Rattle.std.proofs.Common.{◌≡◌, ℕ, ◌*◌, ◌/◌, ◌%◌, ◌<◌, true, List, [], ◌∷◌, ◌++◌, length, get_or, set, Option, Some, None, is_none, not}
use Rattle.std.proofs.Common.{length-set, refl, ap, ap₂, sym, ◌∙◌, arith, length-append, get_or-set_same}
use Rattle.std.specs.List.{All, find, range_with_len}
use Rattle.std.proofs.lemmas.List.{get_or_default}
use Rattle.flat_model.specs.declared.limits.TheConstants.{MAX_WAYS}
use Rattle.flat_model.specs.declared.Word.{Word}
use Rattle.flat_model.specs.declared.Lanes.{Lanes}
use Rattle.flat_model.specs.Places.{is_number}
use Rattle.cache_directory.specs.declared.directory.Choice.{Choice}
use Rattle.cache_directory.specs.declared.directory.Choice.TheVariants.{Free}
use Rattle.cache_directory.specs.Frames.{Frame, Frames, IsWhole, empty_frame, frame_at, is_held, frame_of, order_of, set_of, with_frame}
use Rattle.cache_directory.specs.Frames.{filled, written, settled, fresh_frame, without, installed, released, choice_from, free_way, oldest}
use Rattle.cache_directory.specs.Frames.{chosen, is_all_pending, are_pending}
use Rattle.cache_directory.proofs.Misses.{MayInstall}
use Rattle.cache_directory.proofs.Choices.{look_in_set, chosen-all_pending}
use Rattle.cache_directory.proofs.Whole.{held_there, slot_in, order_short, order_there, whole-kept, whole-installed, whole-released}
use Rattle.cache_directory.proofs.Whole.{still_whole}

pub whole_inside : (ways words : ℕ) (d v : Frames) → d ≡ v → IsWhole ways words v → IsWhole ways words d
whole_inside ways words d v e h = rw e h

-- the frame that an index gives
frame_read : (d : Frames) (f : ℕ) (x : Frame) → is_held d f ≡ true → x ≡ get_or d.frames f x → x ≡ frame_at d.frames f
frame_read d f x held e = e ∙ get_or_default _ f x empty_frame (held_there d f held)

-- the order that an index gives
order_read : (ways words : ℕ) (d : Frames) (f : ℕ) (o : List ℕ) → IsWhole ways words d → f < length d.frames
    → o ≡ get_or d.orders (f / ways) o → o ≡ order_of d (f / ways)
order_read ways words d f o h there e = e ∙ get_or_default _ _ o [] (slot_in f ways _ _ h.sound.frames_there there).1

-- a frame that keeps its block
pub change_whole : (ways words : ℕ) (d v : Frames) (f : ℕ) (x y : Frame) → IsWhole ways words v → d ≡ v → is_held v f ≡ true
    → x ≡ get_or d.frames f x → (y.block ≡ x.block) × (length y.cells ≡ length x.cells) → IsWhole ways words (with_frame d f y)
change_whole ways words d v f x y h e held read same =
    let held' : is_held d f ≡ true = rw e held in
    let is = frame_read d f x held' read in
    let h' : IsWhole ways words d = rw e h in
    still_whole ways words d _ h' refl (whole-kept ways words d f y h'.sound held' (same.0 ∙ ap (λ (k : Frame). k.block) is)
    (same.1 ∙ ap (λ (k : Frame). length k.cells) is))

pub filled_keeps : (x : Frame) (i : ℕ) (w : Word) (keep : Lanes) (y : Frame) → y ≡ filled x i w keep
    → (y.block ≡ x.block) × (length y.cells ≡ length x.cells)
unfolding filled
filled_keeps x i w keep y e = (ap (λ (k : Frame). k.block) e, ap (λ (k : Frame). length k.cells) e ∙ length-set x.cells i _)

pub written_keeps : (x : Frame) (i : ℕ) (w : Word) (lanes : Lanes) (y : Frame) → y ≡ written x i w lanes
    → (y.block ≡ x.block) × (length y.cells ≡ length x.cells)
unfolding written
written_keeps x i w lanes y e = (ap (λ (k : Frame). k.block) e, ap (λ (k : Frame). length k.cells) e ∙ length-set x.cells i _)

pub settled_keeps : (x y : Frame) → y ≡ settled x → (y.block ≡ x.block) × (length y.cells ≡ length x.cells)
unfolding settled
settled_keeps x y e = (ap (λ (k : Frame). k.block) e, ap (λ (k : Frame). length k.cells) e)

-- what `install` asks, of what the fields show
pub may_install : (ways : ℕ) (d v : Frames) (f block : ℕ) → d ≡ v → f < length v.frames → (frame_at v.frames f).block ≡ None
    → f / ways ≡ set_of v block → frame_of v.frames block ≡ None → MayInstall ways d f block
may_install ways d v f block e there free of_set absent = grind arith

pub install_room : (ways words : ℕ) (d : Frames) (f block : ℕ) (o : List ℕ) → IsWhole ways words d → MayInstall ways d f block
    → o ≡ get_or d.orders (f / ways) o → length o < MAX_WAYS
unfolding installed
install_room ways words d f block o h m read =
    let t = f / ways in
    let within = (slot_in f ways _ _ h.sound.frames_there m.there).1 in
    let after = whole-installed ways words d f block h.sound m.there m.free m.of_set m.absent in
    let short = order_short ways words _ t after in
    let at = ap (λ l. length l) (get_or-set_same _ t (order_of d t ++ f ∷ []) [] within) in
    let same = ap (λ l. length l) (order_read ways words d f o h m.there read) in
    omega (arith, h.few_ways, length-append (order_of d t) (f ∷ []))

pub install_whole : (ways words : ℕ) (d : Frames) (f block : ℕ) (x : Frame) (o p : List ℕ) → IsWhole ways words d
    → MayInstall ways d f block → x ≡ fresh_frame words block → o ≡ get_or d.orders (f / ways) o → p ≡ o ++ f ∷ []
    → IsWhole ways words (record { frames = set d.frames f x; orders = set d.orders (f / ways) p })
unfolding installed
install_whole ways words d f block x o p h m fresh read push =
    rw (fresh, push, order_read ways words d f o h m.there read) (still_whole ways words d _ h (length-set _ _ _)
    (whole-installed ways words d f block h.sound m.there m.free m.of_set m.absent))

pub release_whole : (ways words : ℕ) (d v : Frames) (f : ℕ) (x : Frame) (o p : List ℕ) → IsWhole ways words d → d ≡ v → is_held v f ≡ true
    → x ≡ empty_frame → o ≡ get_or d.orders (f / ways) o → p ≡ without o f
    → IsWhole ways words (record { frames = set d.frames f x; orders = set d.orders (f / ways) p })
unfolding released
release_whole ways words d v f x o p h e held empty read taken =
    let held' : is_held d f ≡ true = rw e held in
    rw (empty, taken, order_read ways words d f o h (held_there d f held') read) (still_whole ways words d _ h
    (length-set _ _ _) (whole-released ways words d f h.sound held'))

-- ---- a look, and a choice: `n` is the number of sets, and `fs` the frames, as the code reads them

pub look_finds : (ways words : ℕ) (d v : Frames) (block n : ℕ) (fs : List Frame) (r : Option ℕ) → IsWhole ways words d → d ≡ v
    → n ≡ length d.orders → fs ≡ d.frames → r ≡ find (λ f. is_number (frame_at fs f).block block) (range_with_len (block % n * ways) ways)
    → r ≡ frame_of v.frames block
look_finds ways words d v block n fs r h e sets frames found =
    let there = found ∙ rw (frames, sets) (look_in_set ways words d block h.sound) in
    there ∙ ap (λ w. frame_of w.frames block) e

pub order_within : (ways words : ℕ) (d : Frames) (block n : ℕ) (fs : List Frame) (o xs : List ℕ) → IsWhole ways words d
    → n ≡ length d.orders → fs ≡ d.frames → o ≡ get_or d.orders (block % n) o → xs ≡ o → All (λ f. f < length fs) xs
order_within ways words d block n fs o xs h sets frames read same =
    let within : block % n < length _ = omega arith in
    rw (same, frames, read, get_or_default _ _ o [] within) (order_there ways words d _ h.sound)

-- a choice that is the specified one says whether all ways of the set are pending
choice_pends : (ways words : ℕ) (d v : Frames) (block : ℕ) (c : Choice) → IsWhole ways words d → d ≡ v → c ≡ chosen ways d (set_of d block)
    → is_all_pending c ≡ are_pending ways v (set_of v block)
choice_pends ways words d v block c h e made =
    let here = ap is_all_pending made ∙ chosen-all_pending ways words d (set_of d block) h.sound in
    cc (here, e)

pub free_pends : (ways words : ℕ) (d v : Frames) (block n f : ℕ) (fs : List Frame) (r : Option ℕ) → IsWhole ways words d → d ≡ v
    → n ≡ length d.orders → fs ≡ d.frames → r ≡ find (λ g. is_none (frame_at fs g).block) (range_with_len (block % n * ways) ways)
    → r ≡ Some f → is_all_pending (Free f) ≡ are_pending ways v (set_of v block)
unfolding chosen free_way
free_pends ways words d v block n f fs r h e sets frames found is =
    let way : find (λ g. is_none (frame_at d.frames g).block) _ ≡ Some f = rw (← sets, ← frames) (cc) in
    choice_pends ways words d v block _ h e (ap (λ o. choice_from o (oldest d (set_of d block))) (sym way))

-- where no way is free, the choice is by the order
pub order_pends : (ways words : ℕ) (d v : Frames) (block n : ℕ) (fs gs : List Frame) (o xs : List ℕ) (r q : Option ℕ) → IsWhole ways words d
    → d ≡ v → n ≡ length d.orders → fs ≡ d.frames → r ≡ find (λ g. is_none (frame_at fs g).block) (range_with_len (block % n * ways) ways)
    → ((f : ℕ) → r ≡ Some f → ⊥) → gs ≡ d.frames → o ≡ get_or d.orders (block % n) o → xs ≡ o
    → q ≡ find (λ g. not (frame_at gs g).pending) xs → is_all_pending (choice_from None q) ≡ are_pending ways v (set_of v block)
unfolding chosen free_way oldest
order_pends ways words d v block n fs gs o xs r q h e sets frames found none frames' read same first =
    let within : block % n < length _ = omega arith in
    let order = same ∙ (read ∙ get_or_default _ _ o [] within) in
    let way : find (λ g. is_none (frame_at d.frames g).block) _ ≡ None = rw (← sets, ← frames) (sym found ∙ no_some r none) in
    let old : q ≡ find (λ g. not (frame_at d.frames g).pending) _ = rw (← sets, ← order, ← frames') first in
    choice_pends ways words d v block _ h e (ap₂ choice_from (sym way) old)
  where
    no_some : (o : Option ℕ) → ((f : ℕ) → o ≡ Some f → ⊥) → o ≡ None
    no_some (Some f) n = absurd (n f refl)
    no_some None n = refl
