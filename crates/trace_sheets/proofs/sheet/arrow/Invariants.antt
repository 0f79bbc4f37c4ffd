use Rattle.std.proofs.Common.{◌≡◌, ◌+◌, drop}
use Rattle.std.specs.Option.{option_map}
use Rattle.trace_text.specs.Pairs.{arrow_in}
use Rattle.trace_sheets.proofs.sheet.arrow.Given as goal

-- the first place is the first one from here on
abbrev pub invariant-loop-at : goal.invariant-loop-at
invariant-loop-at l = arrow_in l.text ≡ option_map (λ k. l.at + k) (arrow_in (drop l.at l.text))
