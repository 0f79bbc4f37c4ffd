-- An answer is the text that it has, and no other text.
use Rattle.std.proofs.Common.{◌≡◌, ℕ, ◌≤◌, Bool, true, false, Option, Some, None, List, ◌∷◌, ◌++◌, refl, sym, ◌∙◌, subst, arith}
use Rattle.std.proofs.Common.{decimal}
use Rattle.std.specs.Prelude.{cond, codes}
use Rattle.std.specs.Option.{option_and_then}
use Rattle.std.proofs.lemmas.Bool.{eqb-true}
use Rattle.flat_model.specs.declared.Word.{Word}
use Rattle.flat_model.specs.declared.Cause.{Cause}
use Rattle.flat_model.specs.declared.Cause.TheVariants.{OutOfRange}
use Rattle.flat_model.specs.declared.Answer.{Answer}
use Rattle.flat_model.specs.declared.Answer.TheVariants.{Accepted, Moved, Value, Nothing, Refused}
use Rattle.flat_model.specs.Flat.{number, cause_of}
use Rattle.flat_model.specs.Texts.{word_text}
use Rattle.trace_text.specs.Lines.{cut_of, same}
use Rattle.trace_text.specs.declared.fields.TheConstants.{MAX_NUMBER}
use Rattle.trace_text.specs.Texts.{answer_text}
use Rattle.trace_text.specs.Pairs.{bare_answer, value_answer, value_from, value_of, refusal, refusal_of, answer_from, answer_of}
use Rattle.trace_text.specs.Written.{IsNumber, IsTag, IsWord, IsFitAnswer}
use Rattle.trace_text.proofs.Written.{word_read}
use Rattle.trace_text.proofs.Cuts.{NoSpace, cut_front, cut_whole, cut_read, whole, cut_is}
use Rattle.trace_text.proofs.Written.{Tells, same_is, tag_is, number_is, word_is, tag_back, number_back, number_spaceless}

abbrev IsAnswered : List ℕ → Option (List ℕ) → Answer → Type 0
IsAnswered kind fields a = IsFitAnswer a × (whole kind fields ≡ answer_text a)

cause_is : (n : ℕ) (c : Cause) → cause_of n ≡ Some c → n ≡ number c
unfolding cause_of
cause_is n c e = grind (arith, eqb-true)

cause_back : (c : Cause) → cause_of (number c) ≡ Some c
unfolding cause_of
cause_back OutOfRange = refl
cause_back c = refl

number_fits : (c : Cause) → number c ≤ MAX_NUMBER
number_fits c = grind arith

bare_is : (said : Answer) (kind : List ℕ) (fields : Option (List ℕ)) (a : Answer) → IsAnswered kind None said
    → bare_answer said fields ≡ Some a → IsAnswered kind fields a
bare_is said kind None a shape e = grind arith
bare_is said kind (Some f) a shape e = cc

value_join : (t w : List ℕ) (o : Option ℕ) (p : Option Word) (a : Answer) → Tells decimal IsTag t o → Tells word_text IsWord w p
    → value_answer o p ≡ Some a → IsAnswered (codes "value") (Some (t ++ 32 ∷ w)) a
unfolding answer_text
value_join t w (Some tag) (Some word) a first second e = grind (arith, first tag refl, second word refl)
value_join t w o p a first second e = cc

value_is : (fields : Option (List ℕ)) (a : Answer) → value_of fields ≡ Some a → IsAnswered (codes "value") fields a
value_is None a e = cc
value_is (Some f) a e =
    cut_read (λ x. IsAnswered (codes "value") (Some x) a) value_from a f (λ t. refl)
    (λ t w. value_join t w _ _ a (tag_is t) (word_is w)) e

refusal_join : (f : List ℕ) (o : Option ℕ) (a : Answer) → Tells decimal IsNumber f o → refusal (option_and_then cause_of o) ≡ Some a
    → IsAnswered (codes "refused") (Some f) a
unfolding answer_text
refusal_join f (Some n) a first e = grind (arith, first n refl, cause_is n)
refusal_join f None a first e = cc

refusal_is : (fields : Option (List ℕ)) (a : Answer) → refusal_of fields ≡ Some a → IsAnswered (codes "refused") fields a
refusal_is None a e = cc
refusal_is (Some f) a e = refusal_join f _ a (number_is f) e

chosen : (kind name : List ℕ) (fields : Option (List ℕ)) (o p : Option Answer) (a : Answer) → (o ≡ Some a → IsAnswered name fields a)
    → (p ≡ Some a → IsAnswered kind fields a) → cond (same kind name) o p ≡ Some a → IsAnswered kind fields a
chosen kind name fields o p a here further e = go (same kind name) refl e
  where
    go : (b : Bool) → same kind name ≡ b → cond b o p ≡ Some a → IsAnswered kind fields a
    go true is e = subst (λ k. IsAnswered k fields a) (sym (same_is kind name is)) (here e)
    go false is e = further e

answer_parts : (kind : List ℕ) (fields : Option (List ℕ)) (a : Answer) → answer_from kind fields ≡ Some a → IsAnswered kind fields a
unfolding answer_from answer_text
answer_parts kind fields a e =
    chosen kind (codes "accepted") fields _ _ a (bare_is Accepted (codes "accepted") fields a (tt, refl))
    (chosen kind (codes "moved") fields _ _ a (bare_is Moved (codes "moved") fields a (tt, refl))
    (chosen kind (codes "value") fields _ _ a (value_is fields a)
    (chosen kind (codes "nothing") fields _ _ a (bare_is Nothing (codes "nothing") fields a (tt, refl))
    (chosen kind (codes "refused") fields _ _ a (refusal_is fields a) (λ (none : None ≡ Some a). cc))))) e

pub answer_is : (text : List ℕ) (a : Answer) → answer_of text ≡ Some a → IsFitAnswer a × (text ≡ answer_text a)
unfolding answer_of
answer_is text a e =
    let read = answer_parts (cut_of text).0 (cut_of text).1 a e in
    (read.0, cut_is text ∙ read.1)

-- an answer and its fields are read as what they are
said : (kind : List ℕ) (fields : Option (List ℕ)) → NoSpace kind → answer_of (whole kind fields) ≡ answer_from kind fields
unfolding answer_of
said kind fields none = grind (arith, cut_whole)

value_back : (tag : ℕ) (w : Word) → IsTag tag → IsWord w → value_of (Some (decimal tag ++ 32 ∷ word_text w)) ≡ Some (Value tag w)
value_back tag w ft fw = grind (arith, cut_front, number_spaceless, tag_back, word_read)

pub answer_back : (a : Answer) → IsFitAnswer a → answer_of (answer_text a) ≡ Some a
unfolding answer_from answer_text
answer_back Accepted fit = said (codes "accepted") None (grind arith)
answer_back Moved fit = said (codes "moved") None (grind arith)
answer_back (Value tag word) fit = said (codes "value") (Some (decimal tag ++ 32 ∷ word_text word)) (grind arith)
    ∙ value_back tag word fit.0 fit.1
answer_back Nothing fit = said (codes "nothing") None (grind arith)
answer_back (Refused cause) fit = said (codes "refused") (Some (decimal (number cause))) (grind arith)
    ∙ rw (number_back (number cause) (number_fits cause), cause_back cause) refl
