-- A line is the text that it has, and no other text.
use Rattle.std.proofs.Common.{◌≡◌, ℕ, ◌+◌, ◌/◌, ◌%◌, ◌<◌, ◌≤◌, Bool, true, false, Option, Some, None, Ok, List}
use Rattle.std.proofs.Common.{[], ◌∷◌, ◌++◌, refl, sym, ◌∙◌, subst, arith, decimal, lit<}
use Rattle.std.specs.Prelude.{cond, codes}
use Rattle.std.specs.Option.{option_map}
use Rattle.std.specs.List.{AllByRecursion}
use Rattle.std.specs.Cmp.Lexicographic.{bytes_decides}
use Rattle.flat_model.specs.declared.Word.{Word}
use Rattle.flat_model.specs.declared.Lanes.{Lanes}
use Rattle.flat_model.specs.declared.Event.TheVariants.{Load, Store, Prefetch, Evict, Drain, Serve, Arrive, Process, Take}
use Rattle.flat_model.specs.Words.{has}
use Rattle.flat_model.specs.Texts.{lanes_text, hex_digit, byte_text, word_text}
use Rattle.trace_text.specs.Fields.{number_of, bit_of, lanes_from, lanes_of, nibble_of}
use Rattle.trace_text.specs.Fields.{byte_from, byte_of, word_from, word_of}
use Rattle.trace_text.specs.Lines.{cut_of, same, name_of, command_named, number_in, load_line, load_from}
use Rattle.trace_text.specs.Lines.{store_line, store_behind, store_from, arrive_line, arrive_from, line_from, or_field}
use Rattle.trace_text.specs.Lines.{said_by, line_of}
use Rattle.trace_text.specs.Written.{line_text, IsNumber, IsTag, IsWord, IsFit}
use Rattle.trace_text.specs.declared.fields.TheConstants.{MAX_NUMBER, MAX_TAG}
use Rattle.trace_text.specs.declared.lines.Command.{Command}
use Rattle.trace_text.specs.declared.lines.Command.TheVariants as command
use Rattle.trace_text.specs.declared.lines.Line.{Line}
use Rattle.trace_text.specs.declared.lines.Line.TheVariants as line
use Rattle.trace_text.proofs.Numbers.{number_read, number_written, all_digits, decimal_digits}
use Rattle.std.proofs.lemmas.Nat.Bits.{and_pow}
use Rattle.trace_text.proofs.Cuts.{NoSpace, cut_front, cut_read, cut_whole, whole, cut_is}

-- ---- the digits of a word and of a mask are read as that word and that mask

nibble_read : (n : ℕ) → n < 16 → nibble_of (hex_digit n) ≡ Some n
nibble_read n lt = grind arith

byte_read : (b : ℕ) → b < 256 → byte_of (hex_digit (b / 16)) (hex_digit (b % 16)) ≡ Some b
byte_read b lt = grind (arith, nibble_read)

pub word_read : (w : Word) → w.b0 < 256 → w.b1 < 256 → w.b2 < 256 → w.b3 < 256 → word_of (word_text w) ≡ Some w
unfolding word_text
word_read w l0 l1 l2 l3 = grind (arith, byte_read)

-- a mask's digits
pub lanes_digits : (n : ℕ) → lanes_text (record { 0 = n })
    ≡ (48 + n % 2) ∷ (48 + n / 2 % 2) ∷ (48 + n / 4 % 2) ∷ (48 + n / 8 % 2) ∷ []
unfolding has lanes_text
lanes_digits n = grind (arith, and_pow n 0, and_pow n 1, and_pow n 2, and_pow n 3)

pub mask_read : (m : Lanes) → m.0 < 16 → lanes_of (lanes_text m) ≡ Some m
mask_read m lt = grind (arith, lanes_digits m.0)

-- ---- words and masks are what their digits say

-- a field that is read as a value is its text, and the value is fit
abbrev pub Tells : {X : Type 0} → (X → List ℕ) → (X → Type 0) → List ℕ → Option X → Type 0
Tells {X} text fits field o = (x : X) → o ≡ Some x → (field ≡ text x) × fits x

nibble_is : (b n : ℕ) → nibble_of b ≡ Some n → (b ∷ [] ≡ hex_digit n ∷ []) × (n < 16)
nibble_is b n e = grind arith

byte_join : (high low n : ℕ) (o p : Option ℕ) → Tells (λ d. hex_digit d ∷ []) (λ d. d < 16) (high ∷ []) o
    → Tells (λ d. hex_digit d ∷ []) (λ d. d < 16) (low ∷ []) p → byte_from o p ≡ Some n
    → (high ∷ low ∷ [] ≡ byte_text n) × (n < 256)
byte_join high low n (Some h) (Some l) front back e = grind (arith, front h refl, back l refl)
byte_join high low n o p front back e = cc

byte_is : (high low n : ℕ) → byte_of high low ≡ Some n → (high ∷ low ∷ [] ≡ byte_text n) × (n < 256)
byte_is high low n e = byte_join high low n _ _ (nibble_is high) (nibble_is low) e

word_join : (a b c d e f g h : ℕ) (w : Word) (o p q r : Option ℕ) → Tells byte_text (λ n. n < 256) (a ∷ b ∷ []) o
    → Tells byte_text (λ n. n < 256) (c ∷ d ∷ []) p → Tells byte_text (λ n. n < 256) (e ∷ f ∷ []) q
    → Tells byte_text (λ n. n < 256) (g ∷ h ∷ []) r → word_from o p q r ≡ Some w
    → (a ∷ b ∷ c ∷ d ∷ e ∷ f ∷ g ∷ h ∷ [] ≡ word_text w) × IsWord w
unfolding word_text
word_join a b c d e f g h w (Some o) (Some p) (Some q) (Some r) first second third fourth all =
    grind (arith, first o refl, second p refl, third q refl, fourth r refl)
word_join a b c d e f g h w o p q r first second third fourth all = cc

pub word_is : (text : List ℕ) (w : Word) → word_of text ≡ Some w → (text ≡ word_text w) × IsWord w
word_is (a ∷ b ∷ c ∷ d ∷ e ∷ f ∷ g ∷ h ∷ []) w all =
    word_join a b c d e f g h w _ _ _ _ (byte_is a b) (byte_is c d) (byte_is e f) (byte_is g h) all
word_is text w all = cc

-- a lane's digit, and its bit
bit_is : (b n : ℕ) → bit_of b ≡ Some n → (b ≡ 48 + n) × (n < 2)
bit_is b n e = grind arith

mask_join : (a b c d : ℕ) (m : Lanes) (o p q r : Option ℕ) → ((n : ℕ) → o ≡ Some n → (a ≡ 48 + n) × (n < 2))
    → ((n : ℕ) → p ≡ Some n → (b ≡ 48 + n) × (n < 2)) → ((n : ℕ) → q ≡ Some n → (c ≡ 48 + n) × (n < 2))
    → ((n : ℕ) → r ≡ Some n → (d ≡ 48 + n) × (n < 2)) → lanes_from o p q r ≡ Some m
    → (a ∷ b ∷ c ∷ d ∷ [] ≡ lanes_text m) × (m.0 < 16)
mask_join a b c d m (Some o) (Some p) (Some q) (Some r) first second third fourth all =
    grind (arith, first o refl, second p refl, third q refl, fourth r refl, lanes_digits m.0)
mask_join a b c d m o p q r first second third fourth all = cc

pub mask_is : (text : List ℕ) (m : Lanes) → lanes_of text ≡ Some m → (text ≡ lanes_text m) × (m.0 < 16)
mask_is (a ∷ b ∷ c ∷ d ∷ []) m all = mask_join a b c d m _ _ _ _ (bit_is a) (bit_is b) (bit_is c) (bit_is d) all
mask_is text m all = cc

-- ---- the fields behind a command

-- a line with these fields is the text of what was read
abbrev IsRead : List ℕ → Option (List ℕ) → Line → Type 0
IsRead name fields l = IsFit l × (whole name fields ≡ line_text l)

pub number_is : (text : List ℕ) (n : ℕ) → number_in text ≡ Some n → (text ≡ decimal n) × IsNumber n
number_is text n e = number_read MAX_NUMBER n text (lit< tt) e

pub tag_is : (text : List ℕ) (n : ℕ) → number_of MAX_TAG text ≡ Some n → (text ≡ decimal n) × IsTag n
tag_is text n e = number_read MAX_TAG n text (lit< tt) e

load_join : (t a : List ℕ) (o p : Option ℕ) (l : Line) → Tells decimal IsTag t o → Tells decimal IsNumber a p → load_line o p ≡ Some l
    → IsRead (codes "load") (Some (t ++ 32 ∷ a)) l
load_join t a (Some tag) (Some at) l first second e = grind (arith, first tag refl, second at refl)
load_join t a o p l first second e = cc

arrive_join : (t a : List ℕ) (o p : Option ℕ) (l : Line) → Tells decimal IsNumber t o → Tells decimal IsNumber a p
    → arrive_line o p ≡ Some l → IsRead (codes "arrive") (Some (t ++ 32 ∷ a)) l
arrive_join t a (Some bank) (Some place) l first second e = grind (arith, first bank refl, second place refl)
arrive_join t a o p l first second e = cc

store_join : (t m w : List ℕ) (o : Option ℕ) (p : Option Lanes) (q : Option Word) (l : Line) → Tells decimal IsNumber t o
    → Tells lanes_text (λ x. x.0 < 16) m p → Tells word_text IsWord w q → store_line o p q ≡ Some l
    → IsRead (codes "store") (Some (t ++ 32 ∷ (m ++ 32 ∷ w))) l
store_join t m w (Some at) (Some lanes) (Some word) l first second third e =
    grind (arith, first at refl, second lanes refl, third word refl)
store_join t m w o p q l first second third e = cc

one_join : (make : ℕ → Line) (name f : List ℕ) (o : Option ℕ) (l : Line)
    → ((n : ℕ) → IsNumber n → IsRead name (Some (decimal n)) (make n)) → Tells decimal IsNumber f o → option_map make o ≡ Some l
    → IsRead name (Some f) l
one_join make name f (Some n) l shape first e = grind (arith, first n refl, shape n)
one_join make name f o l shape first e = cc

fields_are : (c : Command) (fields : Option (List ℕ)) (l : Line) → line_from c fields ≡ Some l → IsRead (name_of c) fields l
unfolding line_from
fields_are command.Load (Some f) l e =
    cut_read (λ x. IsRead (codes "load") (Some x) l) load_from l f (λ t. refl) (λ t a. load_join t a _ _ l (tag_is t) (number_is a)) e
fields_are command.Arrive (Some f) l e =
    cut_read (λ x. IsRead (codes "arrive") (Some x) l) arrive_from l f (λ t. refl)
    (λ t a. arrive_join t a _ _ l (number_is t) (number_is a)) e
fields_are command.Store (Some f) l e =
    cut_read (λ x. IsRead (codes "store") (Some x) l) store_from l f (λ t. refl) (λ t r.
    cut_read (λ x. IsRead (codes "store") (Some (t ++ 32 ∷ x)) l) (store_behind t) l r (λ m. refl)
    (λ m w. store_join t m w _ _ _ l (number_is t) (mask_is m) (word_is w))) e
fields_are command.Drain (Some f) l e = cc
fields_are command.Settled (Some f) l e = cc
fields_are c (Some f) l e = one_join _ (name_of c) f _ l (λ n fit. (fit, refl)) (number_is f) e
fields_are c None l e = grind arith

-- ---- the command

pub same_is : (xs ys : List ℕ) → same xs ys ≡ true → xs ≡ ys
same_is xs ys e = (bytes_decides xs ys).0 e

chosen : (name : List ℕ) (k c : Command) (o : Option Command) → (o ≡ Some c → name ≡ name_of c)
    → cond (same name (name_of k)) (Some k) o ≡ Some c → name ≡ name_of c
chosen name k c o further e = go (same name (name_of k)) refl e
  where
    go : (b : Bool) → same name (name_of k) ≡ b → cond b (Some k) o ≡ Some c → name ≡ name_of c
    go true is e = same_is name (name_of k) is ∙ cc
    go false is e = further e

pub named : (name : List ℕ) (c : Command) → command_named name ≡ Some c → name ≡ name_of c
unfolding command_named
named name c e =
    chosen name command.Load c _ (chosen name command.Store c _ (chosen name command.Prefetch c _ (
    chosen name command.Evict c _ (chosen name command.Drain c _ (chosen name command.Serve c _ (
    chosen name command.Arrive c _ (chosen name command.Process c _ (chosen name command.Take c _ (
    chosen name command.Register c _ (chosen name command.Bank c _ (chosen name command.Settled c _
    (λ (none : None ≡ Some c). cc)))))))))))) e

pub own_command : (c : Command) → command_named (name_of c) ≡ Some c
unfolding command_named
own_command c = grind arith

pub name_spaceless : (c : Command) → NoSpace (name_of c)
name_spaceless c = grind arith

-- ---- the line

of_field : (o : Option Line) (l : Line) → or_field o ≡ Ok l → o ≡ Some l
of_field (Some k) l e = cc
of_field None l e = cc

made_by : (name : List ℕ) (fields : Option (List ℕ)) (o : Option Command) (l : Line) → command_named name ≡ o → said_by o fields ≡ Ok l
    → IsRead name fields l
made_by name fields (Some c) l is e = subst (λ x. IsRead x fields l) (sym (named name c is)) (fields_are c fields l (of_field _ l e))
made_by name fields None l is e = cc

pub line_is : (text : List ℕ) (l : Line) → line_of text ≡ Ok l → IsFit l × (text ≡ line_text l)
unfolding line_of
line_is text l e =
    let read = made_by (cut_of text).0 (cut_of text).1 _ l refl e in
    (read.0, cut_is text ∙ read.1)

-- ---- no field has a space or a hyphen

-- bytes from `0` on
abbrev pub High : List ℕ → Type 0
High = AllByRecursion (λ b. 48 ≤ b)

high_spaceless : (xs : List ℕ) → High xs → NoSpace xs
high_spaceless [] h = tt
high_spaceless (x ∷ xs) h = (λ is. omega (arith, h.0, is), high_spaceless xs h.1)

digits_high : (bs : List ℕ) → all_digits bs ≡ true → High bs
digits_high [] e = tt
digits_high (b ∷ bs) e = grind (arith, digits_high bs)

pub number_high : (n : ℕ) → n ≤ MAX_NUMBER → High (decimal n)
number_high n le = grind (arith, digits_high, decimal_digits)

pub word_high : (w : Word) → High (word_text w)
unfolding word_text
word_high w = grind arith

pub mask_high : (m : Lanes) → High (lanes_text m)
unfolding lanes_text
mask_high m = grind arith

pub number_spaceless : (n : ℕ) → n ≤ MAX_NUMBER → NoSpace (decimal n)
number_spaceless n le = high_spaceless (decimal n) (number_high n le)

mask_spaceless : (m : Lanes) → NoSpace (lanes_text m)
unfolding lanes_text
mask_spaceless m = grind arith

-- ---- what is written is read

pub number_back : (n : ℕ) → IsNumber n → number_in (decimal n) ≡ Some n
number_back n fit = grind (arith, number_written)

pub tag_back : (n : ℕ) → IsTag n → number_of MAX_TAG (decimal n) ≡ Some n
tag_back n fit = number_written MAX_TAG n (lit< tt) fit

-- a command and its fields are read as what they are
said : (c : Command) (fields : Option (List ℕ)) → line_of (whole (name_of c) fields) ≡ or_field (line_from c fields)
unfolding line_of
said c fields = grind (arith, cut_whole, own_command, name_spaceless)

pub line_back : (l : Line) → IsFit l → line_of (line_text l) ≡ Ok l
unfolding line_from
line_back (line.Event (Load tag at)) fit =
    grind (arith, said command.Load (Some (decimal tag ++ 32 ∷ decimal at)), cut_front, number_spaceless, tag_back, number_back)
line_back (line.Event (Store at w m)) fit =
    said command.Store (Some (decimal at ++ 32 ∷ (lanes_text m ++ 32 ∷ word_text w)))
    ∙ rw (
      cut_front (decimal at) (lanes_text m ++ 32 ∷ word_text w) (number_spaceless at fit.0),
      cut_front (lanes_text m) (word_text w) (mask_spaceless m),
      number_back at fit.0,
      mask_read m fit.2,
      word_read w fit.1.0 fit.1.1 fit.1.2 fit.1.3,
    ) refl
line_back (line.Event (Prefetch at)) fit = said command.Prefetch (Some (decimal at)) ∙ cc (number_back at fit)
line_back (line.Event (Evict block)) fit = said command.Evict (Some (decimal block)) ∙ cc (number_back block fit)
line_back (line.Event Drain) fit = said command.Drain None
line_back (line.Event (Serve bank)) fit = said command.Serve (Some (decimal bank)) ∙ cc (number_back bank fit)
line_back (line.Event (Arrive bank place)) fit =
    said command.Arrive (Some (decimal bank ++ 32 ∷ decimal place))
    ∙ rw (cut_front (decimal bank) (decimal place) (number_spaceless bank fit.0), number_back bank fit.0, number_back place fit.1) refl
line_back (line.Event (Process place)) fit = said command.Process (Some (decimal place)) ∙ cc (number_back place fit)
line_back (line.Event (Take place)) fit = said command.Take (Some (decimal place)) ∙ cc (number_back place fit)
line_back (line.Register slot) fit = said command.Register (Some (decimal slot)) ∙ cc (number_back slot fit)
line_back (line.Bank at) fit = said command.Bank (Some (decimal at)) ∙ cc (number_back at fit)
line_back line.Settled fit = said command.Settled None
