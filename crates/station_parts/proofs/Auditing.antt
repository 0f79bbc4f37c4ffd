-- Where all parts are at hand, the cache side's journal is true of the banks, and what follows from it.
use Rattle.std.proofs.Common.{◌≡◌, ℕ, zero, suc, ◌+◌, ◌*◌, ◌-◌, ◌/◌, ◌<◌, Bool, true, false, List, [], ◌∷◌, ◌++◌, map, length}
use Rattle.std.proofs.Common.{replicate, position, slice_index_or, Some, None, refl, sym, ap, ap₂, ◌∙◌, ◌≢◌, ◌%◌, subst, arith}
use Rattle.std.proofs.Common.{zero-add, append-nil, mod-lt, IsTrue}
use Rattle.std.proofs.Props.{props}
use Rattle.std.proofs.Math.Logic.{∥∥₁_elim}
use Rattle.std.specs.List.{range_with_len, position_from}
use Rattle.std.proofs.lemmas.List.{length-replicate, length-map, length-append, nil_from_length}
use Rattle.std.proofs.lemmas.Simd.{map-map}
use Rattle.std.proofs.lemmas.List.FromFn.{length-map-range_with_len, get_or-map-range_with_len}
use Rattle.std.proofs.lemmas.Iterator.Adapters.{position_from-zero}
use Rattle.std.proofs.lemmas.Nat.{le-div}
use Rattle.std.proofs.lemmas.Option.{slice_get-get_or}
use Rattle.std.specs.Global.{Vec}
use Rattle.rtrb.specs.Ring.{received, known_items}
use Rattle.flat_model.specs.Words.{zero_word}
use Rattle.flat_model.specs.Flat.{word_at}
use Rattle.memory_banks.specs.Banks.{after}
use Rattle.cache_law.specs.declared.Sizes.{Sizes}
use Rattle.cache_law.specs.State.{tags}
use Rattle.cache_law.specs.Views.{is_clean}
use Rattle.machine_core.specs.Law.{IsLawful}
use Rattle.station_journal.specs.declared.asks.Ask.{Ask}
use Rattle.station_journal.specs.declared.asks.Told.{Told}
use Rattle.station_journal.specs.declared.journal.Entry.{Entry}
use Rattle.station_journal.specs.Journal.{Stand, opening_stand, true_stand, true_word, zeros_in, IsBankTrue}
use Rattle.station_journal.specs.Law.{IsFlatJournal, IsPaid, IsAnswered, bank_after}
use Rattle.station_journal.specs.Parts.{asks_of, told_of, IsOfPorts}
use Rattle.station_journal.proofs.FlatFrom.{some_same}
use Rattle.station_journal.specs.Side.{ComesOf}
use Rattle.station_journal.proofs.Walking.{fit_prop, journal_is_flat}
use Rattle.station_journal.proofs.Answering.{asks_are_judged, run_is_answered}
use Rattle.station_journal.proofs.Telling.{bank_true, stands_true, never_faulted}
use Rattle.station_parts.specs.declared.port.Port.{Port}
use Rattle.station_parts.specs.declared.bank.BankSide.{BankSide}
use Rattle.station_parts.specs.declared.parts.CacheSide.{CacheSide}
use Rattle.station_parts.specs.Ids.{port_id}
use Rattle.station_parts.specs.Rows.{sent_at, popped_at, come_to}
use Rattle.station_parts.specs.Words.{offered, taken, told_in_all, known_tellings, sent_by, words_of, known_commands, commanded, journal_of}
use Rattle.station_parts.specs.Station.{AreOneStation}
use Rattle.station_parts.specs.Audited.{IsSeen, holds_item, first_left, audit_of}
use Rattle.station_parts.specs.declared.parts.Audit.TheVariants.{Faulted, Clean}
use Rattle.station_parts.specs.Promises.{AreJudged, offered_by, taken_by, words_by, ArePrefixes, AreWhole, IsFlatRun, PaysLoads, HoldFlat}
use Rattle.station_parts.specs.Promises.{IsAudited, IsFoundClean}
use Rattle.station_parts.specs.Runs.{list_in, HaveConversed, AreAnswered}

-- ---- a bank's share of zeros

zero_at : (n k : ℕ) → word_at (replicate n zero_word) k ≡ zero_word
zero_at zero k = refl
zero_at (suc n) zero = refl
zero_at (suc n) (suc k) = zero_at n k

all_zero : (n a count b : ℕ) (words : ℕ)
    → map (λ k. word_at (replicate words zero_word) (k * n + b)) (range_with_len a count) ≡ replicate count zero_word
all_zero n a zero b words = refl
all_zero n a (suc count) b words = ap₂ (λ x xs. x ∷ xs) (zero_at words _) (all_zero n (a + 1) count b words)

pub zeros_are : (z : Sizes) (b : ℕ) → zeros_in z b ≡ replicate (length (zeros_in z b)) zero_word
zeros_are z b =
    let count = (length _ + z.banks - 1 - b) / z.banks in
    let is = all_zero _ 0 count b _ in
    is ∙ ap (λ n. replicate n zero_word) (sym (length-replicate count zero_word) ∙ ap length (sym is))

-- ---- rows

-- the element at a place: a row of what the elements have holds there what it has
record Element {X : Type 0} (xs : List X) (b : ℕ) : Type 1 where
  pub it : X
  pub has : {Y : Type 0} (f : X → Y) (d : Y) → slice_index_or (map f xs) b d ≡ f it

element : {X : Type 0} (xs : List X) (b : ℕ) → b < length xs → Element xs b
element [] b h = absurd (omega arith)
element (x ∷ xs) zero h = record { it = x; has = λ f d. refl }
element (x ∷ xs) (suc b) h = let rest = element xs b (omega arith) in record { it = rest.it; has = rest.has }

-- no place passes a test
none_from : {X : Type 0} (p : X → Bool) (k : ℕ) (xs : List X) → position_from p k xs ≡ None → (i : ℕ) → i < length xs
    → slice_index_or (map p xs) i true ≡ false
none_from p k [] e i h = absurd (omega arith)
none_from p k (x ∷ xs) e zero h = grind arith
none_from p k (x ∷ xs) e (suc i) h = grind (arith, none_from p (k + 1) xs)

none_at : {X : Type 0} (p : X → Bool) (xs : List X) → position p xs ≡ None → (i : ℕ) → i < length xs → (x : Element xs i)
    → p x.it ≡ false
none_at p xs e i h x = sym (x.has p true) ∙ none_from p 0 xs (sym (position_from-zero p xs) ∙ e) i h

-- where no place passes a test, none is found
none_found : {X : Type 0} (p : X → Bool) (k : ℕ) (xs : List X)
    → ((i : ℕ) → i < length xs → slice_index_or (map p xs) i true ≡ false) → position_from p k xs ≡ None
none_found p k [] fails = refl
none_found p k (x ∷ xs) fails =
    grind (arith, fails 0 (omega arith), none_found p (k + 1) xs (λ i l. fails (suc i) (omega arith)))

nothing_behind : {X : Type 0} (xs ys : List X) → xs ++ ys ≡ xs → ys ≡ []
nothing_behind xs ys e = nil_from_length ys (omega (arith, ap length e, length-append xs ys))

none_behind : {X : Type 0} (xs ys zs : List X) → holds_item ys ≡ false → xs ++ ys ≡ zs → xs ≡ zs
none_behind xs [] zs e is = sym (append-nil xs) ∙ is
none_behind xs (y ∷ ys) zs e is = grind arith

-- ---- the audit

module _ (cache : CacheSide) (ports : List Port) (banks : List BankSide)
    (seen : IsSeen cache ports banks) (one : AreOneStation cache ports banks) where
  abbrev pub z : Sizes
  z = cache.unit.sizes

  abbrev pub entries : List Entry
  entries = journal_of cache

  abbrev stand : Stand
  stand = true_stand z entries

  pub bank_number : length banks ≡ z.banks
  bank_number = grind (arith, length-map, length-map-range_with_len)

  pub ask_number : length cache.asks.items ≡ length ports
  ask_number = grind (arith, length-map)

  -- a bank, and what the rows of the banks have of it
  module _ (b : ℕ) (l : b < z.banks) where
    bank : Element banks b
    bank = element banks b (subst (λ n. b < n) (sym bank_number) l)

    -- it has its share of the words
    share : length bank.it.words.items ≡ length (zeros_in z b)
    share =
        sym (bank.has (λ x. length x.words.items) 0) ∙ ap (λ ns. slice_index_or ns b 0) (sym (map-map _ _ banks) ∙ one.words)
        ∙ get_or-map-range_with_len (λ k. length _) 0 _ b b 0 l (zero-add b)

    zeros_same : replicate (length bank.it.words.items) zero_word ≡ zeros_in z b
    zeros_same = ap (λ n. replicate n zero_word) share ∙ sym (zeros_are z b)

    commands_here : commanded bank.it ≡ sent_at cache.row.lines.items b
    commands_here = cc (bank.has commanded [], seen.commands)

    comes_of : ComesOf (zeros_in z b) (sent_at cache.row.lines.items b) (popped_at cache.answers.items b)
    comes_of =
        let end = element cache.answers.items b (subst (λ n. b < n) (sym cache.ends) l) in
        record {
          served = received bank.it.commands;
          left = known_items bank.it.commands;
          on_its_way = known_items end.it;
          commands = commands_here;
          answers = cc (end.has received [], end.has come_to [], seen.answers, bank.has sent_by [], bank.it.answered, zeros_same);
        }

  law : IsLawful z
  law = grind arith

  bank_true_here : IsBankTrue z entries
  bank_true_here =
      ∥∥₁_elim cache.tells (fit_prop z (true_word z) entries (opening_stand z))
      (λ h. bank_true z law cache.in_range.enough_commands _ _ _ cache.fault _ h comes_of)

  pub sound_here : cache.fault ≡ None
  sound_here =
      ∥∥₁_elim cache.tells (hlevel props) (λ h. never_faulted z law cache.in_range.enough_commands _ _ _ cache.fault entries h comes_of)

  -- the unit is as the journal leaves it, and so are the commands
  stand_here : (length (tags stand.cache) ≡ length (tags cache.unit.cache)) × (is_clean stand.cache ≡ is_clean cache.unit.cache)
      × ((b : ℕ) → b < z.banks → stand.sent b ≡ sent_at cache.row.lines.items b)
  stand_here =
      ∥∥₁_elim cache.tells (hlevel props) (λ h.
      let stands = stands_true z law cache.in_range.enough_commands cache.unit.cache _ _ cache.fault entries h comes_of in
      let same = ap (λ s. s.cache) stands ∙ h.unit in
      (ap (λ k. length (tags k)) same, ap is_clean same, λ b l. ap (λ s. s.sent b) stands ∙ h.commands b l))

  flat_here : IsFlatJournal z entries stand
  flat_here = grind (arith, journal_is_flat, law, bank_true_here)

  run_here : IsFlatRun z entries
  run_here = record { flat = flat_here.flat; runs = flat_here.runs }

  sources_here : IsOfPorts (length ports) entries
  sources_here = grind (arith, ask_number)

  judged_here : AreJudged entries
  judged_here before rest p e =
      asks_are_judged z before rest _ p law cache.in_range.enough_commands (rw e at bank_true_here) (rw e at sources_here)

  -- ---- what ports offered and took

  module _ (p : ℕ) (l : p < length ports) where
    port : Element ports p
    port = element ports p l

    ask_there : p < length cache.asks.items
    ask_there = grind (arith, ask_number)

    asks_end : Element cache.asks.items p
    asks_end = element cache.asks.items p ask_there

    -- a port's asks in the journal, and those that are left in its ring
    asks_and_left : asks_of p entries ++ known_items asks_end.it ≡ offered_by ports p
    asks_and_left = cc (asks_end.has received [], asks_end.has come_to [], seen.asks, cache.ports.asked p ask_there)

    -- what a port took, and what is left in the ring to it
    taken_and_left : taken_by ports p ++ known_tellings port.it ≡ told_of p entries
    taken_and_left = cc (port.has taken [], port.has told_in_all [], seen.told, cache.ports.told p ask_there)

  prefixes_here : ArePrefixes entries ports
  prefixes_here =
      record {
        asks = λ p l. (known_items (asks_end p l).it, asks_and_left p l);
        told = λ p l. (known_tellings (port p l).it, taken_and_left p l);
      }

  -- ---- ports that have had their whole conversations

  module _ (scripts : List (Vec Ask)) (lists : List (Vec Told)) (talked : HaveConversed scripts ports lists) where
    all_told : (p : ℕ) (l : p < length ports) → list_in lists p ++ known_tellings (port p l).it ≡ told_of p entries
    all_told p l = cc (talked.took p l, taken_and_left p l)

    all_heard : IsAnswered (length ports) (list_in lists) entries stand.cache
    all_heard =
        run_is_answered z entries _ _ _ _ law cache.in_range.enough_commands
        bank_true_here sources_here (λ p l. record {
          conversation = talked.each p l;
          unasked = known_items (asks_end p l).it;
          asks = asks_and_left p l;
          untaken = known_tellings (port p l).it;
          tellings = all_told p l;
        })

    none_told : position (λ p. holds_item (known_tellings p)) ports ≡ None
    none_told =
        position_from-zero (λ p. holds_item _) ports
        ∙ none_found (λ p. holds_item _) 0 ports
        (λ p l. (port p l).has _ true
        ∙ ap holds_item (nothing_behind _ _ (all_told p l ∙ sym (all_heard.all_taken p l))))

    pub answered_here : AreAnswered (audit_of cache ports banks) entries lists
    answered_here =
        record {
          none_owed = λ count q. grind (arith, stand_here.0, all_heard.none_owed);
          none_left = λ port q. grind (arith, none_told);
          told = λ p l. all_heard.all_taken p (subst (λ n. p < n) talked.number l);
        }

  -- ---- a clean audit

  never_here : audit_of cache ports banks ≢ Faulted
  never_here q = grind (arith, sound_here)

  module _ (clean : audit_of cache ports banks ≡ Clean) where
    parts : (first_left cache ports banks ≡ None) × (length (tags cache.unit.cache) ≡ 0)
    parts = grind arith

    none : (position (λ c. holds_item (known_items c)) cache.asks.items ≡ None) ×
        (position (λ p. holds_item (known_tellings p)) ports ≡ None) × (position (λ b. holds_item (known_commands b)) banks ≡ None) ×
        (position (λ c. holds_item (known_items c)) cache.answers.items ≡ None)
    none = grind arith

    whole_here : AreWhole entries ports
    whole_here =
        record {
          asks = λ p l.
              none_behind _ _ _ (none_at _ _ none.0 p (ask_there p l) (asks_end p l)) (asks_and_left p l);
          told = λ p l. none_behind _ _ _ (none_at _ _ none.1 p l (port p l)) (taken_and_left p l);
        }

    paid_here : PaysLoads z entries
    paid_here flat runs =
        subst (λ f. IsPaid f entries) (some_same flat_here.flat flat (sym flat_here.runs ∙ runs)) (flat_here.ends (stand_here.0 ∙ parts.1))

    -- a bank has served all that it was sent
    bank_holds : (b : ℕ) (l : b < z.banks) → words_by banks b ≡ bank_after z stand b
    bank_holds b l =
        let here = bank b l in
        let served = none_behind _ _ _ (none_at _ _ none.2 b (grind (arith, bank_number)) here) (commands_here b l) in
        here.has words_of [] ∙ here.it.stored ∙ ap₂ after (zeros_same b l) (served ∙ sym (stand_here.2 b l))

    -- and it has a word for each address of its own
    word_there : (at : ℕ) → at < z.words → at / z.banks < length (words_by banks (at % z.banks))
    word_there at l =
        let n = z.banks in
        let some = cache.in_range.some_banks in
        let b = at % n in
        let low = mod-lt at some in
        let count : length (zeros_in z b) ≡ (z.words + n - 1 - b) / n =
        grind (arith, length-map-range_with_len, length-replicate, z.words) in
        omega (
          arith,
          ap length ((bank b low).has words_of []) ∙ share b low ∙ count,
          le-div (at / n + 1) (z.words + n - 1 - b) n some (omega arith),
        )

    held_here : IsTrue (is_clean cache.unit.cache) → HoldFlat z entries banks
    held_here settled flat runs at l =
        let mem = ap (λ f. word_at f.mem at) (some_same flat_here.flat flat (sym flat_here.runs ∙ runs)) in
        slice_get-get_or _ _ zero_word (word_there at l)
        ∙ ap (λ ws. Some (word_at ws (at / z.banks))) (bank_holds _ (mod-lt at cache.in_range.some_banks))
        ∙ ap Some (flat_here.settles (subst IsTrue (sym stand_here.1) settled) at l ∙ mem)

  -- ---- in all

  pub audited_here : IsAudited cache ports banks (audit_of cache ports banks)
  audited_here = record {
    seen = seen;
    exact = refl;
    never = never_here;
    prefixes = prefixes_here;
    bank_true = bank_true_here;
    flat = run_here;
    sources = sources_here;
    judged = judged_here;
  }

  pub clean_here : audit_of cache ports banks ≡ Clean → IsFoundClean cache ports banks
  clean_here clean = record {
    audited = subst (IsAudited cache ports banks) clean audited_here;
    whole = whole_here clean;
    paid = paid_here clean;
    settled = held_here clean;
  }

-- ---- what was offered and taken before an audit's looks

pub conversed_still : (scripts : List (Vec Ask)) (old new : List Port) (lists : List (Vec Told)) → map port_id new ≡ map port_id old
    → map offered new ≡ map offered old → map taken new ≡ map taken old → HaveConversed scripts old lists
    → HaveConversed scripts new lists
conversed_still scripts old new lists ids offers takes talked = grind (arith, length-map)
