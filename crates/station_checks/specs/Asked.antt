-- What the ports of a plan ask, by the numbers that are drawn.
use Rattle.std.specs.Prelude.{ℕ, zero, suc, ◌+◌, ◌*◌, ◌/◌, ◌%◌, ◌==◌, nat_lt, if◌then◌else◌, List, [], ◌∷◌}
use Rattle.flat_model.specs.declared.Word.{Word}
use Rattle.flat_model.specs.Images.{number_word}
use Rattle.rand_pcg.specs.Lcg.{Lcg, started, increment_of}
use Rattle.rand_pcg.specs.Pcg.{multiplier_64, pcg32}
use Rattle.station_journal.specs.declared.asks.TheConstants.{PORT_TAGS}
use Rattle.station_journal.specs.declared.asks.Ask.{Ask}
use Rattle.station_journal.specs.declared.asks.Ask.TheVariants.{Load, Store, Prefetch, Evict}
use Rattle.station_checks.specs.declared.plan.TheConstants.{BLOCK_WORDS, MOST_PORTS, OWN_WORDS}

-- the ask that a number picks: of eight in a row four load, one stores all lanes and one the two lowest, one
-- prefetches, and one evicts the word's block
abbrev pub ask_picked : ℕ → ℕ → ℕ → Word → ℕ → Ask
ask_picked pick tag at word block_words =
    let kind = pick % 8 in
    if nat_lt kind 4 then Load tag at
    else if kind == 4 then Store at word (record { 0 = 15 })
    else if kind == 5 then Store at word (record { 0 = 3 })
    else if kind == 6 then Prefetch at
    else Evict (at / block_words)

-- the ask of this number in a list, by the next two numbers: the first picks it and its word's address, and the second
-- is the word that a store writes
unfoldable pub ask_drawn : (ℕ → ℕ) → Lcg → ℕ → Ask
ask_drawn address random number =
    let pick = (pcg32 random).0 in let word = (pcg32 (pcg32 random).1).0 in
    ask_picked pick (number % PORT_TAGS) (address pick) (number_word word) BLOCK_WORDS

-- what the next ask is drawn by
unfoldable pub drawn_on : Lcg → Lcg
drawn_on random = (pcg32 (pcg32 random).1).1

-- what is left when so many asks have been drawn
abbrev pub drawn_past : ℕ → Lcg → Lcg
drawn_past zero random = random
drawn_past (suc count) random = drawn_past count (drawn_on random)

-- so many asks of a list, from the one of this number on
abbrev pub asks_drawn : (ℕ → ℕ) → Lcg → ℕ → ℕ → List Ask
asks_drawn address random number zero = []
asks_drawn address random number (suc count) =
    ask_drawn address random number ∷ asks_drawn address (drawn_on random) (number + 1) count

-- ---- the scripts of a plan

-- the word that a picked number names among a port's own
abbrev pub own_word : ℕ → ℕ → ℕ
own_word port pick = pick / 8 % OWN_WORDS * MOST_PORTS + port

-- behind the last port
abbrev pub no_random : Lcg
no_random = record { state = 0; increment = 0 }

-- the whole script of a port that asks so often, in a plan with this seed: each port has a stream of the seed
abbrev pub script_of : ℕ → ℕ → ℕ → List Ask
script_of seed asks port = asks_drawn (own_word port) (started 64 multiplier_64 seed (increment_of 64 port)) 0 asks
