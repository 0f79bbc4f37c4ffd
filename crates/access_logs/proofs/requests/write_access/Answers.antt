use Rattle.std.proofs.Common.{◌≡◌, ◌++◌, sym, ap, subst}
use Rattle.trace_text.specs.Streams.{Moves, Stopped}
use Rattle.trace_text.proofs.Held.{on_ok}
use Rattle.access_logs.specs.Requests.{loads_of, stores_of, requests_by, requests_of, requests_text}
use Rattle.access_logs.proofs.Asked.{on_err_more, moved_both, stopped_second}
use Rattle.access_logs.proofs.requests.write_access.Goals as goal

pub returns-in_ok-write_loads-in-Modify-clause-ok : goal.returns-in_ok-write_loads-in-Modify-clause-ok
returns-in_ok-write_loads-in-Modify-clause-ok g c =
    let a = c.args.access in
    let loads = loads_of c.args.pages.now c.args.tag a in
    let stores = stores_of c.args.pages.now c.args.number a in
    let both : requests_of c.args.pages.now c.args.tag c.args.number a ≡ loads ++ stores =
    ap (λ k. requests_by k c.args.pages.now c.args.tag c.args.number a) c.in-Modify.is in
    on_ok c.write_stores-in-Modify.result
    (λ q. subst (λ l. Moves g.W.Sink.took c.args.writer.now (requests_text l) c.write_stores-in-Modify.new.writer) (sym both)
    (moved_both loads stores c.in_ok-write_loads-in-Modify.ensures.ok q))
    c.write_stores-in-Modify.ensures.ok

pub returns-in_ok-write_loads-in-Modify-clause-err : goal.returns-in_ok-write_loads-in-Modify-clause-err
returns-in_ok-write_loads-in-Modify-clause-err g c =
    let a = c.args.access in
    let loads = loads_of c.args.pages.now c.args.tag a in
    let stores = stores_of c.args.pages.now c.args.number a in
    let both : requests_of c.args.pages.now c.args.tag c.args.number a ≡ loads ++ stores =
    ap (λ k. requests_by k c.args.pages.now c.args.tag c.args.number a) c.in-Modify.is in
    on_err_more c.write_stores-in-Modify.result
    (λ q. subst (λ l. Stopped g.W.Sink.took g.W.Sink.refused c.args.writer.now (requests_text l) c.write_stores-in-Modify.new.writer)
    (sym both) (stopped_second loads stores c.in_ok-write_loads-in-Modify.ensures.ok q))
    c.write_stores-in-Modify.ensures.err
