use Rattle.std.proofs.Common.{◌≡◌, map, take}
use Rattle.ring_station.specs.Segments.{piece_behind}
use Rattle.ring_station.proofs.segments.cut_scripts.Given as goal

abbrev pub invariant-loop-script : goal.invariant-loop-script
invariant-loop-script l =
    map (λ p. p.items) l.pieces.items ≡ map (λ s. piece_behind l.begin l.asks s.items) (take l.script-index l.scripts)
