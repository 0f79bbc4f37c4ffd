-- What a cache side's journal says stays true with each step, and where the banks are at hand it is
-- true of them.
use Rattle.std.proofs.Common.{◌≡◌, ◌≢◌, ℕ, ◌<◌, List, [], ◌∷◌, ◌++◌, length, Option, Some, None, is_some, refl, sym, ap, ◌∙◌, arith}
use Rattle.std.proofs.Common.{append-nil, append_assoc, length-append, eq-eqb, lt-ltb, ⊎_elim, zero, suc, Bool, true, false, slice_get}
use Rattle.std.specs.List.{count_by}
use Rattle.std.proofs.lemmas.Bool.{cases_eq, ne_eqb, ltb-true}
use Rattle.flat_model.specs.declared.Event.{Event}
use Rattle.flat_model.specs.declared.Event.TheVariants.{Arrive}
use Rattle.flat_model.specs.declared.Answer.{Answer}
use Rattle.flat_model.specs.declared.Answer.TheVariants.{Moved}
use Rattle.memory_banks.specs.declared.Command.{Command}
use Rattle.memory_banks.specs.declared.BankAnswer.{BankAnswer}
use Rattle.memory_banks.specs.Banks.{after, answers_to, commands_for}
use Rattle.memory_banks.specs.Memory.{is_read}
use Rattle.cache_law.specs.declared.Sizes.{Sizes}
use Rattle.cache_law.specs.State.{Cache}
use Rattle.cache_law.specs.Steps.{Stepped, arrive_step}
use Rattle.machine_core.specs.Law.{IsLawful}
use Rattle.station_journal.specs.declared.journal.Source.{Source}
use Rattle.station_journal.specs.declared.journal.Entry.{Entry}
use Rattle.station_journal.specs.declared.journal.Entry.TheVariants.{Step, Ended}
use Rattle.station_journal.specs.declared.journal.SideFault.{SideFault}
use Rattle.station_journal.specs.declared.journal.SideFault.TheVariants.{Uncalled, Stray}
use Rattle.station_journal.specs.Journal.{Stand, opening_stand, come_word, true_word, zeros_in, Walks, IsBankTrue, true_stand}
use Rattle.station_journal.specs.Journal.{moved_on, next_word, step, Brings, is_full, Fits, after_entry}
use Rattle.station_journal.specs.Law.{TakesABlock, IsFlatJournal, SideIsTrue}
use Rattle.station_journal.specs.Side.{SideTells, Popped, ComesOf, IsLost}
use Rattle.memory_banks.proofs.Behind.{answers_to-append}
use Rattle.station_journal.proofs.Recording.{Recorded, arrive_silent}
use Rattle.station_journal.proofs.Walking.{journal_is_flat, led_as}
use Rattle.miss_registers.proofs.Tags.{count_by-append}
use Rattle.std.proofs.lemmas.Option.{slice_get_read, slice_get-get_or}
use Rattle.std.proofs.Math.Seq.{get_or-append_seam}
use Rattle.flat_model.specs.declared.Word.{Word}
use Rattle.flat_model.specs.Flat.{stored}
use Rattle.memory_banks.specs.declared.Command.TheVariants.{Read, Write}

-- ---- one journal behind another

pub walks-append : (z : Sizes) (brings : Brings) (xs ys : List Entry) (s e f : Stand) → Walks z brings s xs e → Walks z brings e ys f
    → Walks z brings s (xs ++ ys) f
walks-append z brings [] ys s e f same walk = grind arith
walks-append z brings (Ended port ∷ xs) ys s e f w walk = walks-append z brings xs ys s e f w walk
walks-append z brings (Step source event answer ∷ xs) ys s e f w walk =
    (w.0, walks-append z brings xs ys _ e f w.1 walk)

-- ---- what was sent stays sent

abbrev pub Begins : List Command → List Command → Type 0
Begins xs ys = (rest : List Command) × (xs ++ rest ≡ ys)

sent_by : (z : Sizes) (brings : Brings) (s : Stand) (event : Event) (t : Bool) (b : ℕ)
    → Begins (s.sent b) ((after_entry z brings s event t).sent b)
sent_by z brings s event true b = ([], append-nil _)
sent_by z brings s event false b = grind arith

pub sent_stays : (z : Sizes) (brings : Brings) (entries : List Entry) (s e : Stand) → Walks z brings s entries e → (b : ℕ)
    → Begins (s.sent b) (e.sent b)
sent_stays z brings [] s e same b = grind (arith, append-nil)
sent_stays z brings (Ended port ∷ rest) s e walk b = sent_stays z brings rest s e walk b
sent_stays z brings (Step source event answer ∷ rest) s e walk b =
    let one = sent_by z brings s event (is_full answer) b in
    let more = sent_stays z brings rest (after_entry z brings s event (is_full answer)) e walk.1 b in
    (one.0 ++ more.0, sym (append_assoc _ one.0 more.0) ∙ ap (λ l. l ++ more.0) one.1 ∙ more.1)

-- ---- another source of words that agrees

-- each word that one brings, the other brings too, as far as these commands have been sent
abbrev pub Agree : Sizes → Brings → Brings → (ℕ → List Command) → Type 0
Agree z f g sent =
    (b k : ℕ) (commands : List Command) (a : BankAnswer) → b < z.banks → Begins commands (sent b) → f b k commands ≡ Some a
    → g b k commands ≡ Some a

module _ (z : Sizes) (f g : Brings) where
  -- an entry fits, and leads to the same stand
  entry_same : (s : Stand) (sent : ℕ → List Command) → Agree z f g sent → ((b : ℕ) → Begins (s.sent b) (sent b))
      → (event : Event) (answer : Answer) (t : Bool) → Fits z f s event answer t
      → Fits z g s event answer t × (after_entry z f s event t ≡ after_entry z g s event t)
  entry_same s sent agree begins (Arrive bank place) answer false h = grind arith
  entry_same s sent agree begins event answer t h = (h, refl)

  pub walks_same : (entries : List Entry) (s e : Stand) → Agree z f g e.sent → Walks z f s entries e → Walks z g s entries e
  walks_same [] s e agree walk = walk
  walks_same (Ended port ∷ rest) s e agree walk = walks_same rest s e agree walk
  walks_same (Step source event answer ∷ rest) s e agree walk =
      let begins = λ (b : ℕ). sent_stays z f (Step source event answer ∷ rest) s e walk b in
      let same = entry_same s e.sent agree begins event answer _ walk.0 in
      (same.0, walks_same rest _ e agree (rw same.1 at walk.1))

-- ---- more words have come

pub slice_get-more : {X : Type 0} (xs ys : List X) (k : ℕ) (a : X) → slice_get xs k ≡ Some a → slice_get (xs ++ ys) k ≡ Some a
slice_get-more [] ys k a e = cc
slice_get-more (x ∷ xs) ys zero a e = e
slice_get-more (x ∷ xs) ys (suc k) a e = slice_get-more xs ys k a e

-- the element behind the first ones
pub slice_get-next : {X : Type 0} (xs : List X) (a : X) (k : ℕ) → k ≡ length xs → slice_get (xs ++ a ∷ []) k ≡ Some a
slice_get-next xs a k e =
    slice_get_read (xs ++ a ∷ []) _ k a refl (omega (arith, length-append xs (a ∷ []))) (cc (get_or-append_seam xs a [] a))

pub come-more : (z : Sizes) (come more : ℕ → List BankAnswer) (sent : ℕ → List Command)
    → ((b : ℕ) → b < z.banks → (rest : List BankAnswer) × (come b ++ rest ≡ more b)) → Agree z (come_word come) (come_word more) sent
come-more z come more sent h b k commands a here begins e =
    let rest = h b here in grind (arith, slice_get-more (come b) rest.0 k a)

-- ---- the words that came are the true ones

pub answers_to-length : (words : List Word) (commands : List Command) → length (answers_to words commands) ≡ count_by is_read commands
answers_to-length words [] = refl
answers_to-length words (Read slot i place ∷ rest) =
    grind (arith, answers_to-length words rest, count_by-append is_read (Read slot i place ∷ []) rest)
answers_to-length words (Write place word lanes ∷ rest) =
    grind (arith, answers_to-length (stored words place word lanes) rest, count_by-append is_read (Write place word lanes ∷ []) rest)

pub come-true : (z : Sizes) (come : ℕ → List BankAnswer) (sent : ℕ → List Command)
    → ((b : ℕ) → b < z.banks → (rest : List BankAnswer) × (answers_to (zeros_in z b) (sent b) ≡ come b ++ rest))
    → Agree z (come_word come) (true_word z) sent
come-true z come sent h b k commands a here begins e =
    let words = zeros_in z b in
    let more = answers_to words commands in
    let came = h b here in
    let there = slice_get-get_or more k a (grind (arith, answers_to-length, ltb-true)) in
    let whole : more ++ answers_to (after words commands) begins.0 ≡ come b ++ came.0 = grind (arith, answers_to-append) in
    cc (slice_get-more (come b) came.0 k a (grind arith), slice_get-more more (answers_to (after words commands) begins.0) k _ there)

-- ---- a step

-- a port said that it ends
pub tells_ended : (z : Sizes) (cache : Cache) (sent : ℕ → List Command) (popped : ℕ → List BankAnswer) (fault : Option SideFault)
    (entries : List Entry) (port : ℕ)
    → SideTells z cache sent popped fault entries → SideTells z cache sent popped fault (entries ++ Ended port ∷ [])
tells_ended z cache sent popped fault entries port h = grind (arith, walks-append)

-- what is known of the words but for the last is a first part of them
but-last : (come popped : ℕ → List BankAnswer) (bank : ℕ) (a : BankAnswer) → IsLost come popped bank a → (b : ℕ)
    → (rest : List BankAnswer) × (come b ++ rest ≡ popped b)
but-last come popped bank a lost b =
    ⊎_elim (λ e. (a ∷ [], grind (arith, lost.lost))) (λ d. ([], grind (arith, append-nil, lost.others b d)))
    (cases_eq b bank)

module _ (z : Sizes) (cache : Cache) (sent : ℕ → List Command) (popped : ℕ → List BankAnswer) (entries : List Entry)
    (h : SideTells z cache sent popped None entries) where
  -- an event by which no word comes: the unit's step may stand in a journal wherever the unit stands
  pub tells_step : (source : Source) (event : Event) (step : Cache → Stepped) (cache' : Cache) (sent' : ℕ → List Command)
      (answer : Answer)
      → ((s : Stand) → Recorded z (come_word h.come) s event (step s.cache)) → cache' ≡ (step cache).cache → answer ≡ (step cache).answer
      → ((b : ℕ) → b < z.banks → sent' b ≡ sent b ++ commands_for b (step cache).sent)
      → SideTells z cache' sent' popped None (entries ++ Step source event answer ∷ [])
  tells_step source event step cache' sent' answer record_of cache_is answer_is sent_is = grind (arith, walks-append)

  -- a word that came of a bank
  pub tells_word : (source : Source) (bank : ℕ) (a : BankAnswer) (cache' : Cache) (popped' : ℕ → List BankAnswer) (answer : Answer)
      → bank < z.banks → length (popped bank) < count_by is_read (sent bank) → popped' bank ≡ popped bank ++ a ∷ []
      → ((b : ℕ) → b ≢ bank → popped' b ≡ popped b) → answer ≡ (arrive_step z cache a.slot a.i a.word).answer → answer ≡ Moved
      → cache' ≡ (arrive_step z cache a.slot a.i a.word).cache
      → SideTells z cache' sent popped' None (entries ++ Step source (Arrive bank 0) answer ∷ [])
  tells_word source bank a cache' popped' answer here called more others answer_is moves cache_is =
      let s = h.stand in
      let next : next_word z (come_word popped') s bank 0 ≡ Some a = grind (arith, lt-ltb, slice_get-next) in
      let before =
      walks_same z (come_word h.come) (come_word popped') entries (opening_stand z) s
      (come-more z h.come popped' s.sent (λ b l. but-last h.come popped' bank a (grind arith) b)) h.walks in
      rw moves (record {
        stand = moved_on s (Arrive bank 0) (step z (come_word popped') s (Arrive bank 0));
        come = popped';
        walks =
            walks-append z (come_word popped') entries (Step source (Arrive bank 0) Moved ∷ []) (opening_stand z) s _ before
            ((ap is_some next, grind arith), refl);
        unit = grind arith;
        commands = λ b l. grind (arith, arrive_silent, append-nil, h.commands b l);
        words = λ b l. grind (arith, length-append, eq-eqb, ne_eqb, h.words b l);
        all = λ b. refl;
      })

-- ---- all banks at hand

module _ (z : Sizes) (lawful : IsLawful z) (takes : TakesABlock z) (cache : Cache) (sent : ℕ → List Command)
    (popped : ℕ → List BankAnswer) (fault : Option SideFault) (entries : List Entry) (h : SideTells z cache sent popped fault entries)
    (banks : (b : ℕ) → b < z.banks → ComesOf (zeros_in z b) (sent b) (popped b)) where
  -- the words in the journal are a first part of those popped
  come-first : (fault : Option SideFault) → Popped z cache sent h.come popped fault → (b : ℕ)
      → (rest : List BankAnswer) × (h.come b ++ rest ≡ popped b)
  come-first None all b = grind (arith, append-nil)
  come-first (Some (Uncalled bank)) all b = but-last h.come popped bank all.1.word all.1.is_lost b
  come-first (Some (Stray bank slot i)) all b = but-last h.come popped bank all.1.word all.1.is_lost b

  -- and those popped of the answers to what was sent
  whole : (b : ℕ) → b < z.banks → (rest : List BankAnswer) × (answers_to (zeros_in z b) (h.stand.sent b) ≡ popped b ++ rest)
  whole b l =
      let part = banks b l in
      let rest = answers_to (after (zeros_in z b) part.served) part.left in (
        part.on_its_way ++ rest,
        cc (h.commands b l, answers_to-append (zeros_in z b) part.served part.left, append_assoc (popped b) part.on_its_way rest),
      )

  walks_true : Walks z (true_word z) (opening_stand z) entries h.stand
  walks_true =
      walks_same z _ _ entries _ h.stand (come-true z h.come h.stand.sent
      (λ b l.
      let first = come-first fault h.all b in
      let all = whole b l in
      (first.0 ++ all.0, cc (append_assoc _ first.0 all.0)))) h.walks

  pub bank_true : IsBankTrue z entries
  bank_true = grind (arith, led_as, walks_true)

  pub stands_true : true_stand z entries ≡ h.stand
  stands_true = grind (arith, led_as, walks_true)

  pub never_faulted : fault ≡ None
  never_faulted = go fault h.all
    where
      go : (f : Option SideFault) → Popped z cache sent h.come popped f → f ≡ None
      go None all = refl
      go (Some (Uncalled bank)) all =
          let answers = whole bank all.0 in
          absurd (omega (
            arith,
            ap length answers.1,
            length-append (popped bank) answers.0,
            ap length all.1.is_lost.lost,
            length-append (h.come bank) (all.1.word ∷ []),
            answers_to-length (zeros_in z bank) (h.stand.sent bank),
            ap (count_by is_read) (h.commands bank all.0),
          ))
      go (Some (Stray bank slot i)) all =
          let flat : IsFlatJournal z entries h.stand = grind (arith, stands_true, journal_is_flat, bank_true) in
          let a = all.1.word in
          let answers = whole bank all.0 in
          let next = slice_get-more (h.come bank ++ a ∷ []) answers.0 (h.stand.arrived bank) a
          (slice_get-next (h.come bank) a _ (h.words bank all.0)) in
          absurd (flat.none_stray bank a all.0 (cc (answers.1, next, all.1.is_lost.lost)) (cc (h.unit, all.1.refused)))

pub side_is_true : SideIsTrue
side_is_true z cache sent popped fault entries lawful takes h banks = (
  bank_true z lawful takes cache sent popped fault entries h banks,
  never_faulted z lawful takes cache sent popped fault entries h banks,
  ap (λ (s : Stand). s.cache) (stands_true z lawful takes cache sent popped fault entries h banks) ∙ h.unit,
)
