use Rattle.std.proofs.Common.{◌≡◌, sym, ◌∙◌, arith}
use Rattle.machine_handles.specs.Rounds.{requests_of}
use Rattle.machine_handles.proofs.Requests.{is_over}
use Rattle.machine_handles.proofs.rounds.drive_machine.Goals as goal

pub returns-clause-over : goal.returns-clause-over
returns-clause-over c =
    let latency : c.from-2.result ≡ c.args.latency = grind arith in
    let busy : c.from-3.result ≡ c.args.busy = grind arith in
    let rows : c.as_slice.result.now ≡ requests_of c.args.rows.now = grind arith in
    let are = sym c.are_requests.ensures ∙ c.if-not-are_requests.false in
    is_over c.args.latency c.args.busy c.from-2.result c.from-3.result c.args.machine.now c.args.rows.now
    c.as_slice.result.now latency busy rows are c.in_ok-summarize_with.ensures.over
