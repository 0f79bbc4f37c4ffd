-- The commands of a bank: an event takes none away but a serve, which takes one.
use Rattle.std.proofs.Common.{◌≡◌, ℕ, suc, ◌≤◌, List, [], ◌∷◌, length, Option, Some, None, refl, ap, arith}
use Rattle.std.proofs.lemmas.List.{length-append}
use Rattle.machine_core.specs.Words.{Cause, Event, Serve, Arrive, Command, BankAnswer, Sizes}
use Rattle.machine_core.specs.Banks.{Bank, bank_at, with_command, served, all_sent}
use Rattle.machine_core.proofs.Places.{bank_at-set}
use Rattle.machine_core.specs.Machine.{Machine, apply, serve_from, arrive_from, take_in}
use Rattle.machine_core.proofs.Weighing.{leaves_commands}

-- at least n commands wait at a bank
abbrev pub HasCommands : ℕ → Bank → Type 0
HasCommands n x = n ≤ length x.queue

sent_more : (n : ℕ) (banks : List Bank) (sent : List (ℕ × Command)) (b : ℕ) → HasCommands n (bank_at banks b)
    → HasCommands n (bank_at (all_sent banks sent) b)
unfolding with_command
sent_more n banks [] b w = w
sent_more n banks (c ∷ rest) b w = sent_more n _ rest b
    (bank_at-set (HasCommands n) banks c.0 (with_command (bank_at banks c.0) c.1) b (λ e. grind (arith, length-append)) w)

module _ (z : Sizes) (m : Machine) (b n : ℕ) (w : n ≤ length (bank_at m.banks b).queue) where
  pub commands_stay : (event : Event) → leaves_commands b event → n ≤ length (bank_at (apply z m event).machine.banks b).queue
  commands_stay (Serve k) other = go (bank_at m.banks k).queue
    where
      go : (queue : List Command) → HasCommands n (bank_at (serve_from m k queue).machine.banks b)
      go [] = w
      go (first ∷ rest) = bank_at-set (HasCommands n) m.banks k _ b (λ e. absurd (other e)) w
  commands_stay (Arrive k place) other = go _
    where
      taken : (a : BankAnswer) (cause : Option Cause) → HasCommands n (bank_at (take_in z m k place a cause).machine.banks b)
      taken a (Some cause) = w
      taken a None = bank_at-set (HasCommands n) m.banks k _ b (λ e. grind arith) w

      go : (o : Option BankAnswer) → HasCommands n (bank_at (arrive_from z m k place o).machine.banks b)
      go None = w
      go (Some a) = taken a _
  commands_stay event other = grind (arith, sent_more)

-- a bank that serves has one command less
pub one_served : (z : Sizes) (m : Machine) (b n : ℕ) → suc n ≤ length (bank_at m.banks b).queue
    → n ≤ length (bank_at (apply z m (Serve b)).machine.banks b).queue
unfolding served
one_served z m b n w = go (bank_at m.banks b).queue refl
  where
    go : (queue : List Command) → (bank_at m.banks b).queue ≡ queue → HasCommands n (bank_at (serve_from m b queue).machine.banks b)
    go [] e = grind arith
    go (first ∷ rest) e =
        let all = ap length e in
        bank_at-set (HasCommands n) m.banks b _ b (λ same. omega (arith, all, w)) (omega (arith, w))
