-- A miss: the frame that is chosen may be released, and then takes the block.
use Rattle.std.proofs.Common.{arith, ◌≡◌, ℕ, ◌/◌, ◌<◌, length, Some, None, length-set, get_or-set_same, get_or-set_other}
use Rattle.std.proofs.lemmas.Bool.{cases_eq}
use Rattle.cache_directory.specs.Frames.{Frames, empty_frame, frame_at, frame_of, set_of, fresh_frame, installed, released}
use Rattle.cache_directory.proofs.Choices.{found_nowhere, found_none}

-- what `install` asks
pub record MayInstall (ways : ℕ) (d : Frames) (f block : ℕ) : Type 0 where
  pub there : f < length d.frames
  pub free : (frame_at d.frames f).block ≡ None
  pub of_set : f / ways ≡ set_of d block
  pub absent : frame_of d.frames block ≡ None

-- ---- a frame is released

-- it holds nothing then
pub released-here : (ways : ℕ) (d : Frames) (f : ℕ) → f < length d.frames → frame_at (released ways d f).frames f ≡ empty_frame
unfolding released
released-here ways d f there = get_or-set_same _ f empty_frame empty_frame there

-- every other frame is as it was
pub released-elsewhere : (ways : ℕ) (d : Frames) (f g : ℕ) → (g ≡ f → ⊥) → frame_at (released ways d f).frames g ≡ frame_at d.frames g
unfolding released
released-elsewhere ways d f g n = get_or-set_other _ f g empty_frame empty_frame n

pub released-frames : (ways : ℕ) (d : Frames) (f : ℕ) → length (released ways d f).frames ≡ length d.frames
unfolding released
released-frames ways d f = length-set _ f empty_frame

pub released-sets : (ways : ℕ) (d : Frames) (f : ℕ) → length (released ways d f).orders ≡ length d.orders
unfolding released
released-sets ways d f = length-set _ _ _

-- a block that is absent stays absent
pub released-absent : (ways : ℕ) (d : Frames) (f block : ℕ) → f < length d.frames → frame_of d.frames block ≡ None
    → frame_of (released ways d f).frames block ≡ None
released-absent ways d f block there absent = found_none (released ways d f) block (λ g held. nowhere g held)
  where
    nowhere : (g : ℕ) → (frame_at (released ways d f).frames g).block ≡ Some block → ⊥
    nowhere g held = grind (arith, cases_eq, released-here, released-elsewhere, found_nowhere)

-- ---- a block is installed

pub installed-here : (ways words : ℕ) (d : Frames) (f block : ℕ) → f < length d.frames → frame_at (installed ways words d f block).frames f
    ≡ fresh_frame words block
unfolding installed
installed-here ways words d f block there = get_or-set_same _ f _ empty_frame there
