-- Where every port has had its whole conversation, no telling is left and nothing is owed.
use Rattle.std.proofs.Common.{◌≡◌, ℕ, suc, ◌+◌, ◌<◌, ◌≤◌, Bool, true, false, cond, List, [], ◌∷◌, ◌++◌, length, refl, sym, ap, ◌∙◌}
use Rattle.std.proofs.Common.{arith, append-nil, length-append, ⊎_elim, nat_lt, ◌/◌, ◌==◌, Some}
use Rattle.std.specs.List.{filter, list_all}
use Rattle.std.proofs.lemmas.Bool.{and_parts, cases_lt}
use Rattle.std.proofs.lemmas.List.Sums.{length-filter, count_by-le-length}
use Rattle.std.proofs.lemmas.List.{nil_from_length}
use Rattle.std.proofs.lemmas.List.Elements.{filter-append}
use Rattle.std.proofs.lemmas.List.Folds.{list_all-append}
use Rattle.miss_registers.proofs.Tags.{count_by-append}
use Rattle.flat_model.specs.declared.Event.{Event}
use Rattle.flat_model.specs.declared.Event.TheVariants as events
use Rattle.flat_model.specs.declared.Answer.{Answer}
use Rattle.flat_model.specs.declared.Answer.TheVariants as answers
use Rattle.flat_model.specs.Flat.{Flat, opening, may_answer, flat_after, flat_run}
use Rattle.cache_law.specs.declared.Sizes.{Sizes}
use Rattle.station_journal.specs.declared.journal.Source.{Source}
use Rattle.station_journal.specs.declared.journal.Source.TheVariants as sources
use Rattle.station_journal.specs.declared.journal.Entry.{Entry}
use Rattle.station_journal.specs.declared.journal.Entry.TheVariants.{Step, Ended}
use Rattle.station_journal.specs.declared.asks.Ask.{Ask}
use Rattle.station_journal.specs.declared.asks.Ask.TheVariants.{Done}
use Rattle.station_journal.specs.declared.asks.Told.{Told}
use Rattle.station_journal.specs.declared.asks.Told.TheVariants.{Value}
use Rattle.station_journal.specs.Journal.{Stand, Brings, AllFit, true_stand, true_word, opening_stand, zeros, events_of, answers_of}
use Rattle.station_journal.specs.Parts.{asks_of, told_of, is_event_of, is_entry_of, IsOfPorts, asked_by, told_by}
use Rattle.station_journal.specs.Conversation.{is_value, verdicts_in, value_count, is_request, requests_in, accepted_loads}
use Rattle.station_journal.specs.Law.{AsksAreJudged, IsHeard, RunIsAnswered}
use Rattle.station_journal.proofs.Walking.{journal_is_flat}
use Rattle.station_journal.proofs.Conversing.{follows-length, accepted-append}
use Rattle.station_journal.proofs.Walking.{no_tags}
use Rattle.station_journal.proofs.OpenTags.{load_by, value_by, counted, run_balance, none_open, none_left}
use Rattle.station_journal.proofs.Paying.{first_of_run}

-- ---- what a port asked and was told, counted

-- the tags of a port
abbrev pub is_of : ℕ → ℕ → Bool
is_of p tag = tag / 256 == p

-- asks and tellings of a port belong together: as many verdicts as asks that get one, and so many
-- accepted loads and values
pub record Tallies (asks : List Ask) (tellings : List Told) (loads values : ℕ) : Type 0 where
  pub judged : length (verdicts_in tellings) ≡ length (requests_in asks)
  pub accepted : accepted_loads (requests_in asks) (verdicts_in tellings) ≡ loads
  pub valued : value_count tellings ≡ values

no_tallies : Tallies [] [] 0 0
no_tallies = grind arith

-- ---- one behind the other

tallies-append : (xs ys : List Ask) (us vs : List Told) (a b c d : ℕ) → Tallies xs us a b → Tallies ys vs c d
    → Tallies (xs ++ ys) (us ++ vs) (a + c) (b + d)
tallies-append xs ys us vs a b c d h k = grind (arith, filter-append, length-append, accepted-append, count_by-append)

-- ---- one entry

entry_tallies : (p ports : ℕ) (source : Source) (event : Event) (answer : Answer) (f : Flat) → is_event_of ports source event ≡ true
    → may_answer f event answer ≡ true
    → Tallies (asked_by p source event) (told_by p source answer) (load_by (is_of p) event answer) (value_by (is_of p) event answer)
entry_tallies p ports (sources.Ask port) (events.Load tag at) answer f of may = grind arith
entry_tallies p ports (sources.Word bank) (events.Arrive b place) answer f of may = no_tallies
entry_tallies p ports (sources.Stack place) (events.Process k) answer f of may = no_tallies
entry_tallies p ports sources.Drain events.Drain answer f of may = no_tallies
entry_tallies p ports (sources.Reply place) (events.Take k) answer f of may = grind arith
entry_tallies p ports source event answer f of may = grind arith

-- ---- a whole journal

pub journal_tallies : (p ports : ℕ) (entries : List Entry) (f g : Flat) → IsOfPorts ports entries
    → flat_run f (events_of entries) (answers_of entries) ≡ Some g
    → Tallies (asks_of p entries) (told_of p entries) (counted (load_by (is_of p)) entries) (counted (value_by (is_of p)) entries)
journal_tallies p ports [] f g of run = no_tallies
journal_tallies p ports (Ended port ∷ rest) f g of run =
    let more = journal_tallies p ports rest f g (and_parts (nat_lt port ports) _ of).1 run in
    let all = tallies-append (cond (port == p) (Done ∷ []) []) (asks_of p rest) [] (told_of p rest) 0 0 _ _ (grind arith) more in
    record { judged = all.judged; accepted = grind arith; valued = grind arith }
journal_tallies p ports (Step source event answer ∷ rest) f g of run =
    let first = first_of_run f g event answer rest run in
    let mine = and_parts _ _ of in
    tallies-append _ (asks_of p rest) _ (told_of p rest) _ _ _ _ (entry_tallies p ports source event answer f mine.0 first.may)
    (journal_tallies p ports rest (flat_after f event answer) g mine.1 first.runs)

-- ---- as many verdicts as asks, up to each entry

fit-first : (z : Sizes) (brings : Brings) (xs ys : List Entry) (s : Stand) → AllFit z brings s (xs ++ ys) → AllFit z brings s xs
fit-first z brings [] ys s h = tt
fit-first z brings (Ended port ∷ xs) ys s h = fit-first z brings xs ys s h
fit-first z brings (Step source event answer ∷ xs) ys s h =
    (h.0, fit-first z brings xs ys _ h.1)

pub asks_are_judged : AsksAreJudged
asks_are_judged z before rest ports p lawful takes true_of_banks of =
    let flat = journal_is_flat z before lawful takes (fit-first z (true_word z) before rest (opening_stand z) true_of_banks) in
    let mine =
    (and_parts (list_all (is_entry_of ports) before) (list_all (is_entry_of ports) rest)
    (sym (list_all-append (is_entry_of ports) before rest) ∙ of)).0 in
    (journal_tallies p ports before (opening (zeros z)) flat.flat mine flat.runs).judged

-- ---- lists

filter-full : {X : Type 0} (q : X → Bool) (xs : List X) → length (filter q xs) ≡ length xs → filter q xs ≡ xs
filter-full q [] e = refl
filter-full q (x ∷ xs) e = go (q x) e (λ h. filter-full q xs h)
  where
    go : (t : Bool) → length (cond t (x ∷ filter q xs) (filter q xs)) ≡ suc (length xs)
        → (length (filter q xs) ≡ length xs → filter q xs ≡ xs) → cond t (x ∷ filter q xs) (filter q xs) ≡ x ∷ xs
    go true e same = ap (λ l. x ∷ l) (same (omega arith))
    go false e same = grind (arith, length-filter, count_by-le-length)

-- a telling is a verdict or a value
nothing_told : (tellings : List Told) → length (verdicts_in tellings) ≡ 0 → value_count tellings ≡ 0 → tellings ≡ []
nothing_told [] e v = refl
nothing_told (Value tag word ∷ rest) e v =
    absurd (let both = count_by-append is_value (Value tag word ∷ []) rest in omega arith)
nothing_told (told ∷ rest) e v = absurd (omega arith)

-- ---- one port

port_quiet : (p : ℕ) (script offered : List Ask) (taken : List Told) (entries : List Entry) (loads values : ℕ)
    → Tallies (asks_of p entries) (told_of p entries) loads values → values ≤ loads → IsHeard p script offered taken entries
    → (taken ≡ told_of p entries) × (loads ≡ values)
port_quiet p script offered taken entries loads values tallies few heard =
    let talk = heard.conversation in
    let asked = talk.asked in
    let asks = asks_of p entries in
    let as_many = follows-length script asked (verdicts_in taken) [] talk.follows in
    let requests : requests_in asks ++ requests_in heard.unasked ≡ requests_in asked =
    cc (
      filter-append is_request asks heard.unasked,
      filter-append is_request asked (Done ∷ []),
      append-nil (requests_in asked),
    ) in
    let verdicts : verdicts_in taken ++ verdicts_in heard.untaken ≡ verdicts_in (told_of p entries) = grind (arith, filter-append) in
    let all_values : value_count taken + value_count heard.untaken ≡ value_count (told_of p entries) = grind (arith, count_by-append) in
    let requests_few : length (requests_in asked) ≤ length asked = grind (arith, length-filter, count_by-le-length) in
    let requests_number = ap length requests in
    let requests_whole = length-append (requests_in asks) (requests_in heard.unasked) in
    let verdicts_number = ap length verdicts in
    let verdicts_whole = length-append (verdicts_in taken) (verdicts_in heard.untaken) in
    let judged = tallies.judged in
    let none_untaken : length (verdicts_in heard.untaken) ≡ 0 = omega arith in
    let none_unasked = nil_from_length (requests_in heard.unasked) (omega arith) in
    let no_verdicts = nil_from_length (verdicts_in heard.untaken) none_untaken in
    let same_asks : requests_in asks ≡ asked = grind (arith, append-nil, filter-full is_request asked (omega arith)) in
    let loads_are : loads ≡ value_count taken = grind (arith, append-nil, tallies.accepted, talk.answered) in
    let values_are = tallies.valued in
    let no_values : value_count heard.untaken ≡ 0 = omega arith in
    let none = nothing_told heard.untaken none_untaken no_values in
    (grind (arith, append-nil, heard.tellings), omega arith)

-- ---- no tag is of another port

event_outside : (p ports : ℕ) (source : Source) (event : Event) (answer : Answer) → ports ≤ p → is_event_of ports source event ≡ true
    → load_by (is_of p) event answer ≡ 0
event_outside p ports (sources.Ask port) (events.Load tag at) answers.Accepted outside of = grind arith
event_outside p ports source (events.Load tag at) answers.Accepted outside of = cc
event_outside p ports source event answer outside of = refl

loads_outside : (p ports : ℕ) (entries : List Entry) → ports ≤ p → IsOfPorts ports entries → counted (load_by (is_of p)) entries ≡ 0
loads_outside p ports [] outside of = refl
loads_outside p ports (Ended port ∷ rest) outside of =
    loads_outside p ports rest outside (and_parts _ _ of).1
loads_outside p ports (Step source event answer ∷ rest) outside of =
    let mine = and_parts _ _ of in
    let one = event_outside p ports source event answer outside mine.0 in
    let more = loads_outside p ports rest outside mine.1 in
    omega arith

-- ---- all ports

pub run_is_answered : RunIsAnswered
run_is_answered z entries ports script offered taken lawful takes true_of_banks of heard =
    let flat = journal_is_flat z entries lawful takes true_of_banks in
    let first = opening (zeros z) in
    let balance = run_balance entries first flat.flat [] (none_open first (λ tag. refl)) flat.runs in
    let quiet =
    λ (p : ℕ) (l : p < ports). let even = balance.balance (is_of p) in
    port_quiet p (script p) (offered p) (taken p) entries _ _ (journal_tallies p ports entries first flat.flat of flat.runs) (omega arith)
    (heard p l) in
    record {
      all_taken = λ p l. (quiet p l).0;
      none_owed = no_tags (true_stand z entries).cache (λ tag. flat.owes_no_less tag (none_left flat.flat balance.left balance.are_open
          (λ p. let even = balance.balance (is_of p) in ⊎_elim (λ l. let same = (quiet p l).1 in omega arith)
          (λ l. let none = loads_outside p ports entries l of in omega arith) (cases_lt p ports)) tag));
    }
