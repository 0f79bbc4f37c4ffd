-- The events that move a word or a value: a drained write, a word that arrives, a value that is taken.
use Rattle.std.proofs.Common.{◌≡◌, ℕ, Bool, ◌==◌, List, ◌++◌, map, length, Option, Some, None, option_map, find, refl, sym, ap, ◌∙◌}
use Rattle.std.proofs.Common.{zero, suc, ◌<◌, true, false, cond, not, ◌&&◌, nat_lt, [], ◌∷◌, get_or, set}
use Rattle.std.proofs.Common.{⊎_elim, get_or-set_same, get_or-set_other, eq-eqb, ne_eqb, ◌≤◌, remove, slice_get, arith, eqb-true}
use Rattle.std.proofs.lemmas.List.Folds.{find-append}
use Rattle.std.proofs.lemmas.List.{map-append}
use Rattle.std.proofs.Math.ListN.{get_or-map}
use Rattle.std.proofs.lemmas.Simd.{map-map}
use Rattle.flat_model.specs.declared.Word.{Word}
use Rattle.input_stack.specs.declared.Entry.{Entry}
use Rattle.input_stack.specs.Stack.{stack_word}
use Rattle.cache_law.specs.declared.Reply.{Reply}
use Rattle.cache_law.specs.declared.Sizes.{Sizes}
use Rattle.cache_law.specs.State.{Target, Cache, field_at, frame_of, live_for, cell_in, cell_of, targets, tags, block_of, place_in, Frame}
use Rattle.cache_law.specs.State.{Field, Register, empty_frame, clear_field, free_register, frame_at, register_at, is_live, gathered}
use Rattle.cache_law.specs.State.{targets_of, targets_of_field}
use Rattle.cache_law.specs.Forms.{Form, bytes_of, missing_form, over_form, form_in, owed, coming_form, form, fill}
use Rattle.cache_law.specs.FormLaws.{form_where, form_at, forms, words_without, EvictForms, but_at, filled_form, SameForms, ArriveForms}
use Rattle.cache_law.specs.FormLaws.{TakeForms, TakenForms}
use Rattle.cache_law.specs.Counts.{tally}
use Rattle.cache_law.proofs.Lists.{tally-map, find-map, gathered_part, read_set, in_range, frame_of-some, live_for-some}
use Rattle.cache_law.proofs.Lists.{frame-stays, frame-goes, holds-not, live-stays, serves-not, waits_for}
use Rattle.cache_law.proofs.Lists.{Adds, Adds-tally, Adds-find_other, Adds-find_same}
use Rattle.cache_law.proofs.Lists.{find_none, Adds-right, Adds-map, Adds-remove}
use Rattle.std.proofs.lemmas.Bool.{cases_eq}
use Rattle.cache_law.specs.Causes.{evict_cause}
use Rattle.miss_registers.specs.Registers.{without_code, made_obsolete, marked, field_of}
use Rattle.cache_law.specs.Steps.{obsoleted, released, evicted, evict_step, drain_step}
use Rattle.cache_law.specs.Steps.{arrived, arrive_step, take_step}
use Rattle.cache_law.specs.Sound.{IsSound}
use Rattle.cache_law.proofs.Tags.{owed_once}
use Rattle.flat_model.specs.declared.Lanes.{Lanes}
use Rattle.flat_model.specs.Words.{Lane}
use Rattle.miss_registers.specs.Registers as regs
use Rattle.cache_directory.specs.Frames as dir

-- ---- Two units with the same forms, and with the same owed.

-- ---- words

-- the form at an address goes by these parts alone
pub form_at-same : (z : Sizes) (c d : Cache) (at : ℕ) → frame_of d (block_of z at) ≡ frame_of c (block_of z at)
    → live_for d (block_of z at) ≡ live_for c (block_of z at)
    → (cell_of d (block_of z at) (place_in z at)).word ≡ (cell_of c (block_of z at) (place_in z at)).word
    → ((slot : ℕ) → live_for c (block_of z at) ≡ Some slot
    → ((field_at d slot (place_in z at)).processed ≡ (field_at c slot (place_in z at)).processed)
    × ((field_at d slot (place_in z at)).code ≡ (field_at c slot (place_in z at)).code)
    × (stack_word d.stack slot (place_in z at) ≡ stack_word c.stack slot (place_in z at))) → form_at z d at ≡ form_at z c at
unfolding form_at
form_at-same z c d at ef el ec parts = grind arith

-- a present word's form, with and without a live register
pub form_at-live : (z : Sizes) (c : Cache) (at k s j : ℕ) → frame_of c (block_of z at) ≡ Some k → live_for c (block_of z at) ≡ Some s
    → place_in z at ≡ j → form_at z c at ≡ Some (form_in c (Some s) j (cell_in c (Some k) j).word)
unfolding form_at
form_at-live z c at k s j ef el ej = simp (ef, el, ej)

pub form_at-resident : (z : Sizes) (c : Cache) (at k : ℕ) → frame_of c (block_of z at) ≡ Some k → live_for c (block_of z at) ≡ None
    → form_at z c at ≡ Some (bytes_of (cell_in c (Some k) (place_in z at)).word)
unfolding form_at
form_at-resident z c at k ef el = simp (ef, el)

pub form_at-absent : (z : Sizes) (c : Cache) (at : ℕ) → frame_of c (block_of z at) ≡ None → form_at z c at ≡ None
unfolding form_at
form_at-absent z c at ef = ap (form_where z c at) ef

-- ---- what is owed

-- a tag, and the form that it is owed
pub record Due : Type 0 where
  pub tag : ℕ
  pub form : Form

abbrev pub due_ready : Reply → Due
due_ready r = record { tag = r.tag; form = bytes_of r.word }

abbrev pub due_to : List Entry → Target → Due
due_to stack t = record {
  tag = t.load.tag;
  form = over_form t.load.lanes t.load.held (missing_form (stack_word stack t.slot t.i) t.slot t.i);
}

unfoldable pub dues : Cache → List Due
dues c = map due_ready c.ready ++ map (due_to c.stack) (targets c.registers)

abbrev pub has_tag : ℕ → Due → Bool
has_tag tag d = d.tag == tag

unfoldable pub due_in : List Due → ℕ → Option Form
due_in ds tag = option_map (λ d. d.form) (find (has_tag tag) ds)

pub owed-due : (c : Cache) (tag : ℕ) → owed c tag ≡ due_in (dues c) tag
unfolding due_in dues
owed-due c tag = grind (arith, find-map, find-append, due_ready, due_to)

-- the same ready replies, waiting loads and stack
pub owed-same : (c d : Cache) → d.ready ≡ c.ready → targets d.registers ≡ targets c.registers → d.stack ≡ c.stack → (tag : ℕ)
    → owed d tag ≡ owed c tag
unfolding dues
owed-same c d er et es tag = rw (er, et, es)

-- the tags of what is owed
pub tags-dues : (c : Cache) → map (λ d. d.tag) (dues c) ≡ tags c
unfolding dues
tags-dues c = simp (map-append, map-map)

pub dues-passing : (p : ℕ → Bool) (c : Cache) → tally (λ (d : Due). p d.tag) (dues c) ≡ tally p (tags c)
dues-passing p c = sym (tally-map (λ d. d.tag) p _) ∙ ap (tally p) (tags-dues c)

pub dues-tally : (c : Cache) (tag : ℕ) → tally (has_tag tag) (dues c) ≡ tally (λ t. t == tag) (tags c)
dues-tally c tag = dues-passing (λ t. t == tag) c

-- ---- both

pub forms-from : (z : Sizes) (d : Cache) (words owing : ℕ → Option Form) → ((at : ℕ) → form_at z d at ≡ words at)
    → ((tag : ℕ) → owed d tag ≡ owing tag) → forms z d ≡ record { words = words; owing = owing }
forms-from z d words owing w o = λ i. record { words = λ at. w at i; owing = λ tag. o tag i }

-- ---- A block is given up.

pub codeless_targets : (slot n : ℕ) (fields : List Field)
    → gathered (targets_of_field slot) n (map without_code fields) ≡ gathered (targets_of_field slot) n fields
codeless_targets slot n [] = refl
codeless_targets slot n (f ∷ fields) = cc (codeless_targets slot (suc n) fields)

-- the word of another block stands in another frame
pub cell-other : (z : Sizes) (c d : Cache) (at f : ℕ) (new : Frame) → d.directory.frames ≡ set c.directory.frames f new
    → frame_of d (block_of z at) ≡ frame_of c (block_of z at) → ((frame_at c f).block ≡ Some (block_of z at) → ⊥)
    → cell_of d (block_of z at) (place_in z at) ≡ cell_of c (block_of z at) (place_in z at)
cell-other z c d at f new ed ef n = cc (ef, go _ refl)
  where
    go : (o : Option ℕ) → frame_of c (block_of z at) ≡ o → cell_in d o (place_in z at) ≡ cell_in c o (place_in z at)
    go None e = refl
    go (Some k) e =
        let p = frame_of-some _ _ k e in
        cc (ed, get_or-set_other _ f k new empty_frame (λ q. n (cc (q, p.1))))

abbrev pub waits_in : Sizes → ℕ → Register → Bool
waits_in z j r = r.valid && (nat_lt j z.block_words && not (get_or r.fields j clear_field).processed)

-- the unit once a block is given up
pub record EvictedBy (z : Sizes) (c : Cache) (block : ℕ) (d : Cache) : Type 0 where
  pub waits : (t j : ℕ) → waits_for z d t j ≡ waits_for z c t j
  pub after : forms z d ≡ record { words = words_without z (form_at z c) (Some block); owing = owed c }
  pub absent : frame_of d block ≡ None
  pub cells : (at : ℕ) → (block ≡ block_of z at → ⊥) → cell_of d (block_of z at) (place_in z at) ≡ cell_of c (block_of z at) (place_in z at)

module _ (z : Sizes) (c : Cache) (h : IsSound z c) (block : ℕ) where
  -- what changes where the block's register becomes obsolete
  pub record Retired (registers : List Register) : Type 0 where
    pub stays : (b : ℕ) → (b ≡ block → ⊥) → (d : Cache) → d.registers ≡ registers → live_for d b ≡ live_for c b
    pub others : (b t : ℕ) → (b ≡ block → ⊥) → live_for c b ≡ Some t → get_or registers t free_register ≡ register_at c t
    pub same_targets : targets registers ≡ targets c.registers
    pub waits : (t j : ℕ) → waits_in z j (get_or registers t free_register) ≡ waits_for z c t j

  retired : (o : Option ℕ) → live_for c block ≡ o → Retired (obsoleted c.registers o)
  unfolding targets regs.live_for made_obsolete
  retired None e = record {
    stays = λ b n d ed. ap (λ rs. live_for (record c { registers = rs }) b) ed;
    others = λ b t n l. refl;
    same_targets = refl;
    waits = λ t j. refl;
  }
  retired (Some s) e =
      let r = register_at c s in
      let p = live_for-some c block s e in
      let there = in_range is_live free_register _ s refl p.0 in
      let part = gathered_part targets_of free_register 0 _ s there in
      let own = get_or-set_same c.registers s (made_obsolete r) free_register there in
      record {
        stays = λ b n d ed. live-stays c d s _ b ed
            (cc (never r.valid, serves-not r b (λ l q. n (sym q ∙ p.1))));
        others = λ b t n l. grind (arith, get_or-set_other, live_for-some);
        same_targets = cc (part.then _, codeless_targets _ 0 r.fields, part.now);
        waits = λ t j. read_set (waits_in z j) free_register _ s _ (rw (get_or-map without_code r.fields j clear_field)) t;
      }
    where
      never : (b : Bool) → (b && false) ≡ false
      never true = refl
      never false = refl

  module _ (f : ℕ) (found : frame_of c block ≡ Some f) where
    abbrev gone : Cache
    gone = evicted z c block f

    held : (f < length c.directory.frames) × ((frame_at c f).block ≡ Some block)
    held = frame_of-some _ block f found

    ret : Retired (obsoleted c.registers (live_for c block))
    ret = retired _ refl

    far : (b : ℕ) → (block ≡ b → ⊥) → (frame_at c f).block ≡ Some b → ⊥
    far b n e = grind (arith, held)

    word_gone : (at : ℕ) → form_at z gone at ≡ words_without z (form_at z c) (Some block) at
    unfolding evicted released dir.released
    word_gone at = ⊎_elim here there (cases_eq block _)
      where
        here : block ≡ block_of z at → form_at z gone at ≡ cond (block == block_of z at) None (form_at z c at)
        here q = cc (
          form_at-absent z gone at (frame-goes c gone f empty_frame _ refl held.0 (λ e. cc)
              (λ k e. h.directory.alone k f _ e (held.1 ∙ ap Some q))),
          eq-eqb block _ q,
        )

        there : (block ≡ block_of z at → ⊥) → form_at z gone at ≡ cond (block == block_of z at) None (form_at z c at)
        there n =
            let n' : block_of z at ≡ block → ⊥ = λ q. n (sym q) in
            let ef = frame-stays c gone f empty_frame (block_of z at) refl (sym (holds-not (frame_at c f) _ (far _ n))) in
            cc (
              form_at-same z c gone at ef (ret.stays _ n' gone refl)
                  (ap (λ x. x.word) (cell-other z c gone at f empty_frame refl ef (far _ n)))
                  (λ t l. grind (arith, ret.others (block_of z at) t n' l)),
              ne_eqb block _ n,
            )

    pub evicted-by : EvictedBy z c block gone
    unfolding evicted released dir.released
    evicted-by = record {
      waits = ret.waits;
      after = forms-from z gone _ _ word_gone (owed-same c gone refl ret.same_targets refl);
      absent = frame-goes c gone f empty_frame block refl held.0 (λ e. cc) (λ k e. h.directory.alone k f block e held.1);
      cells = λ at n.
          cell-other z c gone at f empty_frame refl
          (frame-stays c gone f empty_frame _ refl (sym (holds-not (frame_at c f) _ (far _ n)))) (far _ n);
    }

pub evict_forms : (z : Sizes) (c : Cache) → IsSound z c → (block : ℕ)
    → EvictForms z c block (evict_step z c block).answer (evict_step z c block).cache
unfolding EvictForms evict_step evict_cause
evict_forms z c h block = grind (arith, evicted-by z c h block)

-- ---- The mark of a word in the stack changes nothing but itself.

-- what is gathered stays where a new element gives what the old one gave
gathered-set : {X Y : Type 0} (f : ℕ → X → List Y) (d : X) (n : ℕ) (xs : List X) (s : ℕ) (y : X)
    → ((k : ℕ) → f k y ≡ f k (get_or xs s d)) → gathered f n (set xs s y) ≡ gathered f n xs
gathered-set f d n [] s y h = refl
gathered-set f d n (x ∷ xs) zero y h = cc (h n)
gathered-set f d n (x ∷ xs) (suc s) y h = cc (gathered-set f d (suc n) xs s y h)

targets_of-marked : (slot : ℕ) (r : Register) (i : ℕ) → targets_of slot (marked r i) ≡ targets_of slot r
unfolding marked
targets_of-marked slot r i = ap (λ l. cond r.valid l []) (gathered-set _ clear_field 0 r.fields i
    (record (field_of r i) { in_stack = true }) (λ k. refl))

-- what is read of a field but its mark
pub field-marked : {Y : Type 0} (p : Field → Y) → ((f : Field) → p (record f { in_stack = true }) ≡ p f) → (r : Register) (i j : ℕ)
    → p (get_or (marked r i).fields j clear_field) ≡ p (get_or r.fields j clear_field)
unfolding marked
field-marked p e r i j = read_set p clear_field r.fields i (record (field_of r i) { in_stack = true }) (e _) j

module _ (c : Cache) (slot i : ℕ) where
  abbrev pub with_mark : Cache
  with_mark = record c { registers = set c.registers slot (marked (register_at c slot) i) }

  pub targets-marked : targets with_mark.registers ≡ targets c.registers
  unfolding targets
  targets-marked = gathered-set targets_of free_register 0 _ slot _
      (λ k. targets_of-marked k _ i)

  pub read_marked : {Y : Type 0} (p : Field → Y) → ((f : Field) → p (record f { in_stack = true }) ≡ p f) → (s j : ℕ)
      → p (field_at with_mark s j) ≡ p (field_at c s j)
  read_marked p e s j = read_set (λ r. p (get_or r.fields j clear_field)) free_register _ slot _
      (field-marked p e _ i j) s

  pub waits-marked : (z : Sizes) (s j : ℕ) → waits_for z with_mark s j ≡ waits_for z c s j
  unfolding marked
  waits-marked z s j =
      let r = register_at c slot in
      read_set (waits_in z j) free_register _ slot _ (cc (field-marked (λ f. f.processed) (λ f. refl) r i j)) s

  pub live-marked : (b : ℕ) → live_for with_mark b ≡ live_for c b
  unfolding marked
  live-marked b = live-stays c with_mark slot _ b refl refl

  pub forms-marked : (z : Sizes) → forms z with_mark ≡ forms z c
  unfolding dir.frame_of
  forms-marked z = forms-from z with_mark _ _ (λ at. form_at-same z c with_mark at refl (live-marked _) refl
      (λ s e. (read_marked (λ f. f.processed) (λ f. refl) s _, read_marked (λ f. f.code) (λ f. refl) s _, refl)))
      (owed-same c with_mark refl targets-marked refl)

-- ---- drain

pub drain_forms : (z : Sizes) (room : ℕ → ℕ) (c : Cache) → SameForms z c (drain_step z room c).answer (drain_step z room c).cache
unfolding SameForms drain_step form_at dir.frame_of regs.live_for
drain_forms z room c = grind arith

-- ---- arrive

-- the stack with the word
abbrev pushed : Cache → ℕ → ℕ → Word → Cache
pushed c slot i w = record c { stack = c.stack ++ record { slot = slot; i = i; word = w } ∷ [] }

-- a word that arrives fills what comes
coming_filled : (c : Cache) (slot i : ℕ) (w : Word) (s j : ℕ) (l : Lane)
    → coming_form (pushed c slot i w) s j l ≡ fill slot i w (coming_form c s j l)
unfolding stack_word
coming_filled c slot i w s j l = grind (arith, find-append, c.stack)

over_filled : (lanes : Lanes) (u : Word) (slot i : ℕ) (w : Word) (f g : Form) → ((l : Lane) → g l ≡ fill slot i w (f l)) → (l : Lane)
    → over_form lanes u g l ≡ fill slot i w (over_form lanes u f l)
over_filled lanes u slot i w f g same l = grind arith

form_filled : (c : Cache) (slot i : ℕ) (w : Word) (block k : ℕ) (l : Lane)
    → form (pushed c slot i w) block k l ≡ fill slot i w (form c block k l)
unfolding regs.live_for dir.frame_of
form_filled c slot i w block k l = grind (arith, over_filled, coming_filled)

word_filled : (z : Sizes) (c : Cache) (slot i : ℕ) (w : Word) (at : ℕ)
    → form_at z (pushed c slot i w) at ≡ option_map (filled_form slot i w) (form_at z c at)
unfolding form_at dir.frame_of
word_filled z c slot i w at = grind (arith, form_filled)

owed_filled : (c : Cache) (slot i : ℕ) (w : Word) (tag : ℕ) → owed (pushed c slot i w) tag ≡ option_map (filled_form slot i w) (owed c tag)
owed_filled c slot i w tag = grind (arith, over_filled, coming_filled)

pub arrived_forms : (z : Sizes) (c : Cache) (slot i : ℕ) (w : Word) → forms z (arrived c slot i w) ≡ record {
  words = λ at. option_map (filled_form slot i w) (form_at z c at);
  owing = λ tag. option_map (filled_form slot i w) (owed c tag);
}
unfolding arrived
arrived_forms z c slot i w = forms-marked _ slot i z ∙ forms-from z _ _ _ (word_filled z c slot i w) (owed_filled c slot i w)

pub arrive_forms : (z : Sizes) (c : Cache) (slot i : ℕ) (w : Word)
    → ArriveForms z c slot i w (arrive_step z c slot i w).answer (arrive_step z c slot i w).cache
unfolding ArriveForms arrive_step
arrive_forms z c slot i w = grind (arith, arrived_forms)

-- ---- take

tag_same : (r : Due) (t : ℕ) → (t == r.tag) ≡ true → has_tag t r ≡ true
tag_same r t e = grind arith

tag_other : (r : Due) (t : ℕ) → (t == r.tag) ≡ false → has_tag t r ≡ false
tag_other r t e = grind arith

pub due_in-added : (r : Due) (xs ys : List Due) → Adds r xs ys → tally (has_tag r.tag) xs ≡ 0 → (t : ℕ)
    → due_in ys t ≡ but_at (due_in xs) r.tag (Some r.form) t
unfolding due_in
due_in-added r xs ys a none t =
    grind (arith, Adds-find_same (has_tag t) r xs ys a, Adds-find_other (has_tag t) r xs ys a, tag_same, tag_other, eqb-true)

due_in-removed : (r : Due) (xs ys : List Due) → Adds r xs ys → tally (has_tag r.tag) ys ≤ 1 → (t : ℕ)
    → due_in xs t ≡ but_at (due_in ys) r.tag None t
unfolding due_in
due_in-removed r xs ys a once t =
    grind (arith, Adds-tally (has_tag t) r xs ys a, Adds-find_other (has_tag t) r xs ys a, find_none, tag_same, tag_other, eqb-true)

-- the value that is taken is the one that is owed
due_in-at : (r : Due) (xs ys : List Due) → Adds r xs ys → tally (has_tag r.tag) ys ≤ 1 → due_in ys r.tag ≡ Some r.form
unfolding due_in
due_in-at r xs ys a once = grind (arith, Adds-tally (has_tag r.tag) r xs ys a, Adds-find_same (has_tag r.tag) r xs ys a, eq-eqb)

same_words : (z : Sizes) (c : Cache) (ready : List Reply) (at : ℕ) → form_at z (record c { ready = ready }) at ≡ form_at z c at
unfolding form_at dir.frame_of regs.live_for
same_words z c ready at = refl

fewer : (c : Cache) (place : ℕ) (r : Reply) → slice_get c.ready place ≡ Some r
    → Adds (due_ready r) (dues (record c { ready = remove c.ready place })) (dues c)
unfolding dues
fewer c place r e = Adds-right _ _ _ _
    (Adds-map due_ready r _ _ (Adds-remove r _ place e))

pub took_forms : (z : Sizes) (c : Cache) → IsSound z c → (place : ℕ) (r : Reply) → slice_get c.ready place ≡ Some r
    → TakeForms z c r.tag r.word (record c { ready = remove c.ready place })
took_forms z c h place r e =
    let d = record c { ready = remove _ place } in
    let less = fewer c place r e in
    let count = dues-tally c r.tag in
    let one = owed_once z c h r.tag in
    let once : tally _ _ ≤ 1 = omega arith in
    record {
      before = owed-due c r.tag ∙ due_in-at _ _ _ less once;
      after = forms-from z d _ _ (same_words z c _)
          (λ tag. (cc (owed-due d tag, due_in-removed _ _ _ less once tag, owed-due c tag)));
    }

pub take_forms : (z : Sizes) (c : Cache) → IsSound z c → (place : ℕ)
    → TakenForms z c (take_step c place).answer (take_step c place).cache
unfolding TakenForms take_step
take_forms z c h place = grind (arith, took_forms z c h place)
