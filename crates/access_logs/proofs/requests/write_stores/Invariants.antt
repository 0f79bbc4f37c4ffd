use Rattle.std.specs.Prelude.{map}
use Rattle.std.specs.List.{range_with_len}
use Rattle.trace_text.specs.Streams.{Moves}
use Rattle.access_logs.specs.Requests.{store_of, requests_text}
use Rattle.access_logs.proofs.requests.write_stores.Given as goal

-- the requests of the words so far are written
abbrev pub invariant-loop-i : goal.invariant-loop-i
invariant-loop-i g l =
    Moves g.W.Sink.took l.fn.writer (requests_text (map (store_of l.pages l.number l.access) (range_with_len 0 l.i))) l.writer
