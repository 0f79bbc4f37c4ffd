use Rattle.std.proofs.Common.{refl}
use Rattle.history_text.specs.Histories.{session_of}
use Rattle.history_text.specs.Values.{one_more}
use Rattle.history_text.proofs.Written.{tell_stops}
use Rattle.history_text.proofs.values.Writing.write.Goals as goal

pub returns-in-Ok-clause-ok : goal.returns-in-Ok-clause-ok
returns-in-Ok-clause-ok g c start texts first h told =
    let wrote = c.in-Ok.ensures.ok (session_of start texts) h.kept in
    one_more texts c.args.text.now wrote.0 _ _ told wrote.1 wrote.2

pub returns-in-Err-clause-stop : goal.returns-in-Err-clause-stop
returns-in-Err-clause-stop g c = (
  refl,
  λ start texts first h told. (
      let s = g.W.Sink in
      tell_stops s.took s.refused start first _ _ texts c.args.text.now c.in-Err.stop told
      (c.in-Err.ensures.stop (session_of start texts) h.kept)),
)
