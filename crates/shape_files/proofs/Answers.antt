-- The answers about a shape file that are not for want of memory.
use Rattle.std.proofs.Common.{◌≡◌, ◌≢◌, ℕ, ℤ, Bool, true, false, cond, Result, Ok, Err, Option, Some, None, refl, ap, codes}
use Rattle.flat_model.specs.declared.ShapeField.{ShapeField}
use Rattle.flat_model.specs.declared.ShapeField.TheVariants.{Ways, Regs, Words, Sets, Banks, BankQueue, WriteQueue, Replies}
use Rattle.toml.specs.Data.{Members, no_members}
use Rattle.shape_files.specs.declared.shape_file.TheConstants.{DEFAULT_SHAPE}
use Rattle.shape_files.specs.declared.shape_file.ShapeFault.{ShapeFault}
use Rattle.shape_files.specs.declared.shape_file.ShapeFault.TheVariants.{NotToml, UnknownKey, NotWhole, BadShape, OutOfMemory}
use Rattle.shape_files.specs.declared.shape_file.Numbers.{Numbers}
use Rattle.shape_files.specs.ShapeFile.{and_then, integer_at, whole, numbers_of, bad_field, shape_said, or_bad, shape_of, has_other_key}
use Rattle.shape_files.specs.ShapeFile.{table_says}

-- whether an answer is not for want of memory
abbrev pub has_room : {A : Type 0} → Result A ShapeFault → Bool
has_room (Ok x) = true
has_room (Err OutOfMemory) = false
has_room (Err e) = true

then_room : {A B : Type 0} (r : Result A ShapeFault) (f : A → Result B ShapeFault) → has_room r ≡ true → ((x : A) → has_room (f x) ≡ true)
    → has_room (and_then r f) ≡ true
then_room (Ok x) f h k = k x
then_room (Err NotToml) f h k = refl
then_room (Err UnknownKey) f h k = refl
then_room (Err (NotWhole e)) f h k = refl
then_room (Err (BadShape e)) f h k = refl
then_room (Err OutOfMemory) f h k = h

whole_room : (e : ShapeField) (n : ℕ) (found : Option (Option ℤ)) → has_room (whole e n found) ≡ true
whole_room e n None = refl
whole_room e n (Some (Some z)) = refl
whole_room e n (Some None) = refl

numbers_room : (ms : Members) → has_room (numbers_of ms) ≡ true
numbers_room ms =
    then_room _ _ (whole_room Ways DEFAULT_SHAPE.ways (integer_at (codes "ways") ms)) (λ ways.
    then_room _ _ (whole_room Regs DEFAULT_SHAPE.regs (integer_at (codes "regs") ms)) (λ regs.
    then_room _ _ (whole_room Words DEFAULT_SHAPE.shape.words (integer_at (codes "words") ms)) (λ words.
    then_room _ _ (whole_room Sets DEFAULT_SHAPE.shape.sets (integer_at (codes "sets") ms)) (λ sets.
    then_room _ _ (whole_room Banks DEFAULT_SHAPE.shape.banks (integer_at (codes "banks") ms)) (λ banks.
    then_room _ _ (whole_room BankQueue DEFAULT_SHAPE.shape.bank_queue (integer_at (codes "bank_queue") ms)) (λ bank_queue.
    then_room _ _ (whole_room WriteQueue DEFAULT_SHAPE.shape.write_queue (integer_at (codes "write_queue") ms)) (λ write_queue.
    then_room _ _ (whole_room Replies DEFAULT_SHAPE.shape.replies (integer_at (codes "replies") ms)) (λ replies. refl))))))))

shape_room : (n : Numbers) → has_room (shape_of n) ≡ true
shape_room n = go (bad_field (shape_said n))
  where
    go : (o : Option ShapeField) → has_room (or_bad (shape_said n) o) ≡ true
    go None = refl
    go (Some field) = refl

pub table_room : (ms : Members) → has_room (table_says ms) ≡ true
table_room ms = go (has_other_key ms)
  where
    go : (b : Bool) → has_room (cond b (Err UnknownKey) (and_then (numbers_of ms) shape_of)) ≡ true
    go true = refl
    go false = then_room _ _ (numbers_room ms) shape_room

-- a table without keys says the program's own shape
pub no_key_is_default : table_says no_members ≡ Ok DEFAULT_SHAPE
no_key_is_default = refl

-- a table is never refused for want of memory
pub table_has_room : (ms : Members) → table_says ms ≢ Err OutOfMemory
table_has_room ms h = absurd (false_is (ap has_room h) (table_room ms))
  where
    false_is : {b : Bool} → b ≡ false → b ≡ true → ⊥
    false_is h k = cc
