use Rattle.std.specs.Prelude.{◌≡◌, ◌++◌, map}
use Rattle.std.specs.List.{range_with_len}
use Rattle.access_logs.specs.Requests.{store_of}
use Rattle.access_logs.proofs.reading.push_stores.Given as goal

-- the requests of the words so far are kept
abbrev pub invariant-loop-i : goal.invariant-loop-i
invariant-loop-i l =
    l.requests.items ≡ l.fn.requests.items ++ map (store_of l.pages l.number l.access) (range_with_len 0 l.i)
