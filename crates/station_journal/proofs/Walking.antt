-- A journal that is true of the banks is a run of flat memory.
use Rattle.std.proofs.Common.{◌≡◌, ℕ, ◌/◌, ◌%◌, ◌<◌, Bool, true, false, ◌&&◌, List, [], ◌∷◌, Some, None, option_map, refl, sym, ap, ap₂}
use Rattle.std.proofs.Common.{◌∙◌, arith, mod-lt, lt-ltb, IsTrue, ◌||◌, ◌==◌, length, Option, is_some, find, eq-eqb}
use Rattle.std.proofs.Props.{props}
use Rattle.std.specs.List.{list_all, list_any}
use Rattle.std.proofs.lemmas.List.{length-replicate, nil_from_length}
use Rattle.std.proofs.lemmas.List.Elements.{All-from_get_or}
use Rattle.cache_directory.proofs.Finds.{list_all-passes}
use Rattle.flat_model.specs.declared.Cause.TheVariants.{StrayWord, BankFull}
use Rattle.flat_model.specs.declared.Event.{Event}
use Rattle.flat_model.specs.declared.Event.TheVariants.{Arrive, Drain}
use Rattle.memory_banks.specs.declared.BankAnswer.{BankAnswer}
use Rattle.flat_model.specs.declared.Answer.{Answer}
use Rattle.flat_model.specs.declared.Answer.TheVariants.{Refused}
use Rattle.flat_model.specs.Words.{zero_word}
use Rattle.flat_model.specs.Flat.{word_at, flat_run, opening as flat_opening, Flat, flat_step}
use Rattle.memory_banks.specs.Banks.{Bank, no_bank, all_pending}
use Rattle.cache_law.specs.declared.Sizes.{Sizes}
use Rattle.cache_law.specs.Causes.{arrive_cause}
use Rattle.cache_law.specs.Steps.{arrive_step, load_step, store_step, prefetch_step}
use Rattle.cache_law.specs.Views.{is_clean, is_empty}
use Rattle.cache_law.specs.Forms.{owed, filled_by, Form}
use Rattle.machine_core.specs.Law.{IsLawful}
use Rattle.machine_core.specs.Machine.{Machine, opening, flat_of}
use Rattle.station_journal.specs.declared.journal.Entry.{Entry}
use Rattle.station_journal.specs.declared.journal.Entry.TheVariants.{Step, Ended}
use Rattle.station_journal.specs.Journal.{Stand, Brings, stand_after, AllFit, opening_stand, zeros, true_word, step, is_full, Fits}
use Rattle.station_journal.specs.Journal.{after_entry, Walks, events_of, answers_of, may_be_full}
use Rattle.station_journal.specs.Law.{TakesABlock, IsFlatJournal, JournalIsFlat}
use Rattle.station_journal.proofs.FlatFrom.{FlatFrom, flat_from_opening, opens_flat}
use Rattle.station_journal.proofs.Standing.{Stands, Next, opening_stands}
use Rattle.station_journal.proofs.Stepping.{event_ok}
use Rattle.station_journal.proofs.Paying.{loads_are_taken}
use Rattle.cache_law.specs.State.{Cache, tags}
use Rattle.miss_registers.proofs.Tags.{list_any-map}
use Rattle.cache_law.proofs.FormsEvents.{Due, dues, due_in, owed-due, tags-dues}

-- ---- what a unit owes, and its tags

-- a tag is owed something where it is among them
owed_tags : (c : Cache) (tag : ℕ) → is_some (owed c tag) ≡ list_any (λ t. t == tag) (tags c)
unfolding due_in
owed_tags c tag =
    ap is_some (owed-due c tag) ∙ owing _ ∙ sym (any-find _ (dues c)) ∙ sym (list_any-map (λ t. t == tag) (λ (d : Due). d.tag) _)
    ∙ ap (list_any (λ t. t == tag)) (tags-dues c)
  where
    owing : (o : Option Due) → is_some (option_map (λ (d : Due). d.form) o) ≡ is_some o
    owing o = grind arith

    any-find : {X : Type 0} (p : X → Bool) (xs : List X) → list_any p xs ≡ is_some (find p xs)
    any-find p [] = refl
    any-find p (x ∷ xs) = grind (arith, any-find p xs)

-- a unit without tags owes nothing
pub none_owed : (c : Cache) → length (tags c) ≡ 0 → (tag : ℕ) → owed c tag ≡ None
none_owed c few tag = go _ (owed_tags c tag ∙ (ap (list_any (λ t. t == tag)) (nil_from_length (tags c) few)))
  where
    go : (o : Option Form) → is_some o ≡ false → o ≡ None
    go None e = refl
    go _ e = cc

-- and one that owes nothing has none
pub no_tags : (c : Cache) → ((tag : ℕ) → owed c tag ≡ None) → length (tags c) ≡ 0
no_tags c none = go _ (λ tag. sym (owed_tags c tag) ∙ ap is_some (none tag))
  where
    go : (ts : List ℕ) → ((tag : ℕ) → list_any (λ t. t == tag) ts ≡ false) → length ts ≡ 0
    go [] h = refl
    go (t ∷ ts) h =
        absurd (cc (sym (ap (λ b. b || list_any (λ x. x == t) ts) (eq-eqb t t refl)) ∙ h t))

-- ---- a recorded refusal for want of room changes nothing

module _ (z : Sizes) (s : Stand) where
  -- where the step is a step of flat memory, so is the refusal
  pub full_ok : (f g : Flat) (event : Event) → IsTrue (may_be_full z s.cache event)
      → flat_step f event (step z (true_word z) s event).answer ≡ Some g → flat_step f event (Refused BankFull) ≡ Some f
  unfolding load_step store_step prefetch_step
  full_ok f g Drain may run = refl
  full_ok f g event may run = grind arith

-- where events and their answers lead
record Led (z : Sizes) (m : Machine) (events : List Event) (answers : List Answer) (e : Stand) (n : Machine) : Type 0 where
  stands : Stands z e n
  from : FlatFrom z n
  runs : flat_run (flat_of z m) events answers ≡ Some (flat_of z n)

module _ (z : Sizes) (lawful : IsLawful z) (takes : TakesABlock z) where
  entry_ok : (s : Stand) (m : Machine) → Stands z s m → FlatFrom z m → (event : Event) (answer : Answer) (t : Bool) → is_full answer ≡ t
      → Fits z (true_word z) s event answer t → (n : Machine) × Next z (after_entry z (true_word z) s event t) event answer m n
  entry_ok s m h from event answer true e may =
      let made = event_ok z lawful takes s m h from event in
      let run = full_ok z s (flat_of z m) (flat_of z made.0) event may made.1.run in
      (m, record { stands = h; from = from; run = grind arith })
  entry_ok s m h from event answer false e fits = rw fits.1 (event_ok z lawful takes s m h from event)

  walk_ok : (entries : List Entry) (s : Stand) (m : Machine) → Stands z s m → FlatFrom z m → AllFit z (true_word z) s entries
      → (n : Machine) × Led z m (events_of entries) (answers_of entries) (stand_after z (true_word z) s entries) n
  walk_ok [] s m h from fit = (m, record { stands = h; from = from; runs = refl })
  walk_ok (Ended port ∷ rest) s m h from fit = walk_ok rest s m h from fit
  walk_ok (Step source event answer ∷ rest) s m h from fit =
      let first = entry_ok s m h from event answer (is_full answer) refl fit.0 in
      let more = walk_ok rest _ first.0 first.1.stands first.1.from fit.1 in
      (more.0, record { stands = more.1.stands; from = more.1.from; runs = grind arith })

-- entries that lead somewhere all fit, and lead nowhere else
pub led_as : (z : Sizes) (brings : Brings) (entries : List Entry) (s e : Stand) → Walks z brings s entries e
    → AllFit z brings s entries × (stand_after z brings s entries ≡ e)
led_as z brings [] s e h = (tt, h)
led_as z brings (Ended port ∷ rest) s e h = led_as z brings rest s e h
led_as z brings (Step source event answer ∷ rest) s e h =
    let more = led_as z brings rest _ e h.1 in ((h.0, more.0), more.1)

-- that they fit is so in one way
pub fit_prop : (z : Sizes) (brings : Brings) (entries : List Entry) (s : Stand) → IsProp (AllFit z brings s entries)
fit_prop z brings [] s = hlevel props
fit_prop z brings (Ended port ∷ rest) s = fit_prop z brings rest s
fit_prop z brings (Step source event answer ∷ rest) s =
    go (is_full answer) (fit_prop z brings rest (after_entry z brings s event (is_full answer)))
  where
    go : (t : Bool) {X : Type 0} → IsProp X → IsProp (Fits z brings s event answer t × X)
    go true h = hlevel (props, h)
    go false h = hlevel (props, h)

-- the law of a journal
flat_journal : (z : Sizes) (entries : List Entry) (e : Stand) (m : Machine) → IsLawful z → TakesABlock z
    → Led z (opening z (zeros z)) (events_of entries) (answers_of entries) e m → IsFlatJournal z entries e
unfolding arrive_step
flat_journal z entries e m lawful takes led =
    record {
      flat = flat_of z m;
      runs = runs;
      owes = owes;
      owes_no_less = grind arith;
      ends = λ few.
          let none = λ (tag : ℕ). owes tag (none_owed e.cache few tag) in
          record { none_due = none; taken = loads_are_taken entries (flat_opening (zeros z)) (flat_of z m) runs none };
      settles = λ clean at l.
          let here = mod-lt at lawful.some_banks in
          let bank = ap (λ x. word_at x.words (at / z.banks)) (led.stands.bank (at % z.banks) here) in
          sym bank ∙ led.from.settles [] (ap₂ (λ a b. a && b) (ap is_clean led.stands.cache ∙ clean) idle) at l;
      none_stray = stray_never;
    }
  where
    runs : flat_run (flat_opening (zeros z)) (events_of entries) (answers_of entries) ≡ Some (flat_of z m)
    runs =
        ap (λ f. flat_run f (events_of entries) (answers_of entries))
        (sym (opens_flat z lawful (zeros z) (length-replicate z.words zero_word))) ∙ led.runs

    owes : (tag : ℕ) → owed e.cache tag ≡ None → (flat_of z m).due tag ≡ None
    owes tag none = ap (option_map (filled_by (all_pending m.banks))) (ap (λ c. owed c tag) led.stands.cache ∙ none)

    idle : list_all (λ (b : Bank). is_empty b.queue) m.banks ≡ true
    idle =
        list_all-passes (λ b. is_empty b.queue) m.banks (All-from_get_or (λ b. is_empty b.queue ≡ true) m.banks no_bank
        (λ k l. ap (λ x. is_empty x.queue) (led.stands.bank k (omega arith))))

    stray_never : (bank : ℕ) (a : BankAnswer) → bank < z.banks → true_word z bank (e.arrived bank) (e.sent bank) ≡ Some a
        → arrive_cause z e.cache a.slot a.i ≡ Some StrayWord → ⊥
    stray_never bank a here word stray =
        let made = event_ok z lawful takes e m led.stands led.from (Arrive bank 0) in
        let answer : (step z (true_word z) e (Arrive bank 0)).answer ≡ Refused StrayWord = grind (arith, lt-ltb) in
        cc

pub journal_is_flat : (z : Sizes) (entries : List Entry) → JournalIsFlat z entries
journal_is_flat z entries lawful takes fit =
    let last =
    walk_ok z lawful takes entries (opening_stand z) (opening z (zeros z)) (opening_stands z)
    (flat_from_opening z lawful (zeros z) (length-replicate z.words zero_word)) fit in
    flat_journal z entries _ last.0 lawful takes last.1
