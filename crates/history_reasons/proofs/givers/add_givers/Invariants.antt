use Rattle.std.proofs.Common.{◌≡◌, ◌++◌, drop, map}
use Rattle.std.specs.List.{filter}
use Rattle.history_reasons.specs.declared.givers.Source.TheVariants.{Store}
use Rattle.history_reasons.specs.Sources.{gives, givers}
use Rattle.history_reasons.proofs.givers.add_givers.Given as goal

-- those that are found, and those among the stores that are left, are all of them
abbrev pub invariant-loop-store : goal.invariant-loop-store
invariant-loop-store l =
    l.found.items ++ map Store (filter (gives l.stores l.load l.byte) (drop l.store-index l.stores))
    ≡ l.initial.found.items ++ map Store (givers l.stores l.load l.byte)
