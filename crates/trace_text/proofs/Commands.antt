-- The command that a text begins with is the one that stands up to its first space.
use Rattle.std.proofs.Common.{◌≡◌, ◌≢◌, ℕ, Bool, true, false, Option, Some, None, List, [], ◌∷◌, ◌++◌, refl, sym, ◌∙◌, ap}
use Rattle.std.proofs.Common.{append_assoc, append-nil, length, drop, get_or, ◌<◌, arith}
use Rattle.std.specs.Prelude.{◌==◌, IfNone}
use Rattle.std.proofs.lemmas.Bool.{eqb-true}
use Rattle.trace_text.specs.Lines.{cut_of, name_of, command_named, command_told, BeginsNoCommand}
use Rattle.trace_text.specs.declared.lines.Command.{Command}
use Rattle.trace_text.specs.declared.lines.Command.TheVariants as command
use Rattle.trace_text.proofs.Cuts.{NoSpace, cut_whole, whole, cut_is}
use Rattle.trace_text.proofs.Serving.{all_then}
use Rattle.trace_text.proofs.Written.{named, own_command, name_spaceless}

-- ---- names

-- no command's name goes on behind another's
goes_on : (c : Command) (b : ℕ) (bs : List ℕ) → command_named (name_of c ++ b ∷ bs) ≡ None
unfolding command_named
goes_on command.Load b bs = refl
goes_on c b bs = refl

-- a name tells its command by its first and its third byte
told : (c : Command) (bs : List ℕ) → command_told (get_or (name_of c ++ bs) 0 0) (get_or (name_of c ++ bs) 2 0) ≡ Some c
unfolding command_told
told command.Load bs = refl
told c bs = refl

-- ---- cuts

-- a front without a space, and what stands behind the space after it
abbrev Parted : List ℕ → Type 0
Parted text = (front : List ℕ) × (rest : Option (List ℕ)) × NoSpace front × (text ≡ whole front rest)

behind : (xs : List ℕ) (b : ℕ) (bs front : List ℕ) (rest : Option (List ℕ)) → bs ≡ whole front rest
    → xs ++ b ∷ bs ≡ whole (xs ++ b ∷ front) rest
behind xs b bs front None is = cc
behind xs b bs front (Some rest) is = grind (arith, append_assoc)

parted_on : (b : ℕ) (bs : List ℕ) (t : Bool) → (b == 32) ≡ t → Parted bs → Parted (b ∷ bs)
parted_on b bs true e p = ([], Some bs, tt, ap (λ x. x ∷ bs) (eqb-true b 32 e))
parted_on b bs false e p = (b ∷ p.0, p.1, grind arith, behind [] b bs p.0 p.1 p.3)

parted : (text : List ℕ) → Parted text
parted [] = ([], None, tt, refl)
parted (b ∷ bs) = parted_on b bs (b == 32) refl (parted bs)

-- ---- what stands up to the first space

pub command_is : (c : Command) (text : List ℕ) (rest : Option (List ℕ)) → cut_of text ≡ (name_of c, rest)
    → Some c ≡ command_named (cut_of text).0
command_is c text rest cut = grind (arith, own_command)

pub longer_name : (c : Command) (b : ℕ) (bs : List ℕ) → b ≢ 32 → command_named (cut_of (name_of c ++ b ∷ bs)).0 ≡ None
longer_name c b bs ne =
    let p = parted bs in
    let none = all_then (λ b. b ≢ 32) (name_of c) (b ∷ p.0) (name_spaceless c) (ne, p.2) in
    grind (arith, behind (name_of c) b bs p.0 p.1 p.3, cut_whole (name_of c ++ b ∷ p.0) p.1 none, goes_on c b p.0)

no_command_in : (text : List ℕ) (o : Option Command) → BeginsNoCommand text → command_named (cut_of text).0 ≡ o → o ≡ None
no_command_in text None none e = refl
no_command_in text (Some c) none e = elim (cut_of text).1 as (λ o. text ≡ whole (name_of c) o → Some c ≡ None)
    [ None ↦ (λ is. absurd (none c [] (grind (arith, append-nil)))) | Some rest ↦ (λ is. absurd (none c (32 ∷ rest) is)) ]
    (grind (arith, cut_is text, named))

pub no_command : (text : List ℕ) → BeginsNoCommand text → command_named (cut_of text).0 ≡ None
no_command text none = grind (arith, no_command_in)

-- ---- what tells that no command begins

pub told_another : (text : List ℕ) (o : Option Command) → command_told (get_or text 0 0) (get_or text 2 0) ≡ o
    → (c : Command) (rest : List ℕ) → text ≡ name_of c ++ rest → o ≡ Some c
told_another text o is c rest e = sym is ∙ ap (λ l. command_told (get_or l 0 0) (get_or l 2 0)) e ∙ told c rest

pub told_none : (text : List ℕ) → command_told (get_or text 0 0) (get_or text 2 0) ≡ None → BeginsNoCommand text
told_none text is c rest e = grind (arith, told_another)

pub only_told : (text : List ℕ) (d : Command) → command_told (get_or text 0 0) (get_or text 2 0) ≡ Some d
    → ((rest : List ℕ) → text ≢ name_of d ++ rest) → BeginsNoCommand text
only_told text d is none c rest e = grind (arith, told_another)

pub if_none : {A : Type 0} (o : Option A) (P : Type 0) → P → IfNone o P
if_none None P p = p
if_none (Some x) P p = tt

-- ---- a name, and what follows it

pub bare_said : (c : Command) (text rest : List ℕ) → text ≡ name_of c ++ rest → length rest < 1 → cut_of text ≡ (name_of c, None)
bare_said c text [] is lt = grind (arith, append-nil, cut_whole (name_of c) None (name_spaceless c))
bare_said c text (b ∷ bs) is lt = absurd (omega arith)

pub fields_said : (c : Command) (text rest : List ℕ) → text ≡ name_of c ++ rest → 0 < length rest → get_or rest 0 0 ≡ 32
    → cut_of text ≡ (name_of c, Some (drop 1 rest))
fields_said c text [] is lt first = absurd (omega arith)
fields_said c text (b ∷ bs) is lt first = grind (arith, cut_whole (name_of c) (Some bs) (name_spaceless c))

pub longer_said : (c : Command) (text rest : List ℕ) → text ≡ name_of c ++ rest → 0 < length rest → get_or rest 0 0 ≢ 32
    → command_named (cut_of text).0 ≡ None
longer_said c text [] is lt ne = absurd (omega arith)
longer_said c text (b ∷ bs) is lt ne = grind (arith, longer_name)
