use Rattle.std.proofs.Common.{◌≡◌, ◌+◌, ◌≤◌, ◌++◌, map, nat_le, vec_len, vec_capacity}
use Rattle.std.specs.List.{filter}
use Rattle.memory_histories.specs.Windows.{store_bytes}
use Rattle.memory_histories.specs.Kept.{unit_of, after_stores}
use Rattle.memory_histories.specs.Parts.{parts_bytes}
use Rattle.memory_histories.specs.Loads.{loads_open}
use Rattle.memory_histories.proofs.kept.add_parts.Given as goal

-- with the bytes of the units that are left it is the whole, and there is room for them
abbrev pub invariant-loop-unit : goal.invariant-loop-unit
invariant-loop-unit l =
    let all = store_bytes l.number l.address l.bytes l.enables l.moment in
    let left = filter (λ s. nat_le l.unit (unit_of s.address)) all in
    record {
      stores : parts_bytes l.stores.items ++ left ≡ parts_bytes l.initial.stores.items ++ all;
      loads : map (after_stores left) (loads_open l.loads) ≡ map (after_stores all) (loads_open l.initial.loads);
      room : vec_len l.stores + (l.last + 1) ≤ vec_capacity l.stores + l.unit;
    }
