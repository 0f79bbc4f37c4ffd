use Rattle.std.proofs.Common.{◌≡◌, ℕ, ◌<◌, ◌≤◌, length, get_or, vec_len}
use Rattle.std.specs.List.{All}
use Rattle.std.specs.Global.{Vec}
use Rattle.station_journal.specs.declared.asks.Ask.{Ask}
use Rattle.station_parts.specs.Runs.{list_in}
use Rattle.station_checks.specs.Asked.{asks_drawn, drawn_past, own_word, no_random}
use Rattle.station_checks.specs.Scripts.{AreRequests}
use Rattle.station_checks.proofs.drawing.draw_scripts.Given as goal

abbrev pub invariant-loop-port : goal.invariant-loop-port
invariant-loop-port l =
    let old = λ (p : ℕ). get_or l.fn.randoms.items p no_random in
    record {
      same : length l.randoms.items ≡ length l.fn.randoms.items;
      number : vec_len l.scripts ≡ l.port;
      requests : All (λ (s : Vec Ask). AreRequests s.items) l.scripts.items;
      lengths : All (λ (s : Vec Ask). length s.items ≡ l.count) l.scripts.items;
      asks : (p : ℕ) → p < l.port → list_in l.scripts.items p ≡ asks_drawn (own_word p) (old p) l.begun l.count;
      drawn : (p : ℕ) → p < l.port → get_or l.randoms.items p no_random ≡ drawn_past l.count (old p);
      undrawn : (p : ℕ) → l.port ≤ p → get_or l.randoms.items p no_random ≡ old p;
    }
