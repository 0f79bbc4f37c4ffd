-- A machine with banks that have served all, as a journal's stand.
use Rattle.std.proofs.Common.{◌≡◌, ℕ, zero, suc, ◌+◌, ◌<◌, ◌≤◌, cond, ◌==◌, List, [], ◌∷◌, ◌++◌, drop, length, set, slice_get, Some, refl}
use Rattle.std.proofs.Common.{sym, ap, ◌∙◌, arith, append-nil, length-append, length-set, lt-ltb, eq-eqb, Bool, nat_lt}
use Rattle.std.proofs.lemmas.Bool.{ne_eqb}
use Rattle.std.proofs.lemmas.List.{drop-append-le, get_or-set_same, get_or-set_other}
use Rattle.std.proofs.lemmas.List.FromFn.{length-map-range_with_len, get_or-map-range_with_len}
use Rattle.std.specs.List.{remove}
use Rattle.flat_model.specs.declared.Word.{Word}
use Rattle.flat_model.specs.declared.Event.{Event}
use Rattle.flat_model.specs.declared.Answer.{Answer}
use Rattle.flat_model.specs.Flat.{flat_step}
use Rattle.memory_banks.specs.declared.Command.{Command}
use Rattle.memory_banks.specs.Banks.{Bank, all_sent, no_bank, bank_at, after, answers_to, commands_for, words_after, pending}
use Rattle.memory_banks.specs.Banks.{served}
use Rattle.memory_banks.specs.Memory.{serve_bank}
use Rattle.memory_banks.proofs.Behind.{after-append, answers_to-append}
use Rattle.memory_banks.proofs.Sending.{extended, all_sent-length, all_sent-at, serve-pending}
use Rattle.cache_law.specs.declared.Sizes.{Sizes}
use Rattle.cache_law.specs.State.{Cache}
use Rattle.cache_law.specs.Steps.{Stepped}
use Rattle.memory_banks.specs.Memory.{without_answer}
use Rattle.machine_core.specs.Machine.{Machine, opening, flat_of, joined_with}
use Rattle.station_journal.specs.Journal.{Stand, opening_stand, zeros, zeros_in}
use Rattle.station_journal.proofs.FlatFrom.{FlatFrom, makes}
use Rattle.flat_model.specs.declared.Event.TheVariants.{Serve}
use Rattle.flat_model.specs.declared.Answer.TheVariants.{Moved}

-- ---- banks that serve all that waits at them

-- a bank that has served all that waits
abbrev pub finished : Bank → Bank
finished b = record { words = words_after b; queue = []; answers = pending b }

idle-finished : (b : Bank) → b.queue ≡ [] → b ≡ finished b
idle-finished b e = grind (arith, append-nil, b.words)

served-after : (b : Bank) (first : Command) (rest : List Command) → b.queue ≡ first ∷ rest
    → words_after (served b first rest) ≡ words_after b
unfolding served
served-after b first rest e = grind arith

served-pending : (b : Bank) (first : Command) (rest : List Command) → b.queue ≡ first ∷ rest → pending (served b first rest) ≡ pending b
served-pending b first rest e = ap (λ q. pending (serve_bank b q)) (sym e) ∙ serve-pending b

served-finished : (b : Bank) (first : Command) (rest : List Command) → b.queue ≡ first ∷ rest → finished (served b first rest) ≡ finished b
served-finished b first rest e = grind (arith, served-after, served-pending)

served-queue : (b : Bank) (first : Command) (rest : List Command) → (served b first rest).queue ≡ rest
unfolding served
served-queue b first rest = refl

-- the machine whose banks with these numbers have served all that waits, and nothing else has changed
pub record Finished (z : Sizes) (m : Machine) (which : ℕ → Bool) (n : Machine) : Type 0 where
  pub cache : n.cache ≡ m.cache
  pub number : length n.banks ≡ length m.banks
  pub banks : (k : ℕ) → bank_at n.banks k ≡ cond (which k) (finished (bank_at m.banks k)) (bank_at m.banks k)
  pub flat : flat_of z n ≡ flat_of z m
  pub from : FlatFrom z n

-- the machine whose bank b has served its first command
abbrev turned : Machine → ℕ → Command → List Command → Machine
turned m b first rest = record m { banks = set m.banks b (served (bank_at m.banks b) first rest) }

finish : (z : Sizes) (m : Machine) (b : ℕ) (queue : List Command) → FlatFrom z m → b < length m.banks
    → (bank_at m.banks b).queue ≡ queue → (n : Machine) × Finished z m (λ k. k == b) n
finish z m b [] h there e = (m, record { cache = refl; number = refl; banks = λ k. grind (arith, idle-finished); flat = refl; from = h })
finish z m b (first ∷ rest) h there e =
    let bank = served (bank_at m.banks b) first rest in
    let is = get_or-set_same m.banks b bank no_bank there in
    let turn = makes z m h (Serve b) (record { answer = Moved; machine = turned m b first rest }) (grind arith) in
    let number = length-set m.banks b bank in
    let done = finish z (turned m b first rest) b rest turn.next (omega arith) (ap (λ x. x.queue) is ∙ served-queue _ first rest) in (
      done.0,
      record {
        cache = done.1.cache;
        number = done.1.number ∙ number;
        banks = λ k. grind (arith, done.1.banks k, get_or-set_other, served-finished);
        flat = grind arith;
        from = done.1.from;
      },
    )

one_more : {X : Type 0} (f : X → X) (x y w : X) (k count : ℕ) → y ≡ cond (nat_lt k count) (f x) x → w ≡ cond (k == count) (f y) y
    → w ≡ cond (nat_lt k (suc count)) (f x) x
one_more f x y w k count e g = grind arith

pub finish_all : (z : Sizes) (m : Machine) (count : ℕ) → FlatFrom z m → count ≤ length m.banks
    → (n : Machine) × Finished z m (λ k. nat_lt k count) n
finish_all z m zero h fits = grind arith
finish_all z m (suc count) h fits =
    let some = finish_all z m count h (omega arith) in
    let number = some.1.number in
    let last = finish z some.0 count (bank_at some.0.banks count).queue some.1.from (omega arith) refl in (
      last.0,
      record {
        cache = grind arith;
        number = last.1.number ∙ number;
        banks = λ k. one_more finished (bank_at _ k) _ _ k count (some.1.banks k) (last.1.banks k);
        flat = grind arith;
        from = last.1.from;
      },
    )

-- ---- stands

-- a bank that has served what it was sent, and of whose answers some have been taken
abbrev pub stood : List Word → List Command → ℕ → Bank
stood words commands taken =
    record { words = after words commands; queue = []; answers = drop taken (answers_to words commands) }

pub record Stands (z : Sizes) (s : Stand) (m : Machine) : Type 0 where
  pub cache : m.cache ≡ s.cache
  pub number : length m.banks ≡ z.banks
  pub bank : (b : ℕ) → b < z.banks → bank_at m.banks b ≡ stood (zeros_in z b) (s.sent b) (s.arrived b)
  -- no more have been taken than were given
  pub few : (b : ℕ) → b < z.banks → s.arrived b ≤ length (answers_to (zeros_in z b) (s.sent b))

pub opening_stands : (z : Sizes) → Stands z (opening_stand z) (opening z (zeros z))
opening_stands z = grind (arith, length-map-range_with_len, get_or-map-range_with_len)

-- ---- commands are sent, and served

stood-sent : (words : List Word) (commands more : List Command) (taken : ℕ) → taken ≤ length (answers_to words commands)
    → finished (extended (stood words commands taken) more) ≡ stood words (commands ++ more) taken
stood-sent words commands more taken few = grind (arith, after-append, drop-append-le, answers_to-append)

-- a stand after a step of the unit in which no word arrives
abbrev pub moved : Stand → Stepped → Stand
moved s d = record { cache = d.cache; sent = λ b. s.sent b ++ commands_for b d.sent; arrived = s.arrived }

-- the machine that stands as a journal after an event with this answer
pub record Next (z : Sizes) (s : Stand) (event : Event) (answer : Answer) (m n : Machine) : Type 0 where
  pub stands : Stands z s n
  pub from : FlatFrom z n
  pub run : flat_step (flat_of z m) event answer ≡ Some (flat_of z n)

pub sent_ok : (z : Sizes) (s : Stand) (m : Machine) (event : Event) (d : Stepped) → Stands z s m
    → FlatFrom z (joined_with m.banks d).machine
    → flat_step (flat_of z m) event d.answer ≡ Some (flat_of z (joined_with m.banks d).machine)
    → (n : Machine) × Next z (moved s d) event d.answer m n
sent_ok z s m event d h from run =
    let number = all_sent-length m.banks d.sent in
    let all = finish_all z (joined_with m.banks d).machine (length (all_sent m.banks d.sent)) from (omega arith) in (
      all.0,
      record {
        stands = record {
          cache = all.1.cache;
          number = grind arith;
          bank = λ b l. grind (arith, all.1.banks b, all_sent-at, h.bank b l, h.few b l, stood-sent, lt-ltb, h.number);
          few = λ b l. grind (arith, h.few b l, length-append, answers_to-append);
        };
        from = all.1.from;
        run = grind arith;
      },
    )

-- ---- a word arrives

pub first_dropped : {X : Type 0} (k : ℕ) (xs : List X) → slice_get (drop k xs) 0 ≡ slice_get xs k
first_dropped zero xs = refl
first_dropped (suc k) [] = refl
first_dropped (suc k) (x ∷ xs) = first_dropped k xs

rest_dropped : {X : Type 0} (k : ℕ) (xs : List X) → remove (drop k xs) 0 ≡ drop (suc k) xs
rest_dropped zero xs = refl
rest_dropped (suc k) [] = refl
rest_dropped (suc k) (x ∷ xs) = rest_dropped k xs

-- one more word of a bank has been taken
abbrev pub one_taken : Stand → ℕ → Cache → Stand
one_taken s bank cache =
    record { cache = cache; sent = λ b. s.sent b ++ []; arrived = λ b. cond (b == bank) (s.arrived b + 1) (s.arrived b) }

pub taken_stands : (z : Sizes) (s : Stand) (m : Machine) (bank : ℕ) (cache cache' : Cache) → Stands z s m → bank < z.banks
    → s.arrived bank < length (answers_to (zeros_in z bank) (s.sent bank)) → cache' ≡ cache
    → Stands z (one_taken s bank cache) (record { cache = cache'; banks = set m.banks bank (without_answer (bank_at m.banks bank) 0) })
taken_stands z s m bank cache cache' h here some same =
    record {
      cache = same;
      number = length-set _ bank _ ∙ h.number;
      bank = λ b l. grind (arith, get_or-set_same, get_or-set_other, h.bank, taken, nil, eq-eqb, ne_eqb);
      few = λ b l. grind (arith, h.few, append-nil);
    }
  where
    there : bank < length m.banks
    there = grind arith

    nil : (b : ℕ) (k : ℕ) → stood (zeros_in z b) (s.sent b) k ≡ stood (zeros_in z b) (s.sent b ++ []) k
    nil b k = grind (arith, append-nil, s.sent)

    taken : without_answer (bank_at m.banks bank) 0 ≡ stood (zeros_in z bank) (s.sent bank) (s.arrived bank + 1)
    taken = grind (arith, h.bank, s.sent, rest_dropped, s.arrived)
