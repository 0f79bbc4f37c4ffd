use Rattle.std.proofs.Common.{arith}
use Rattle.trace_text.proofs.Serving.{applied_line}
use Rattle.trace_text.proofs.serve.ServingCollector.collect.Goals as goal

pub serve-requires-clause-within : goal.serve-requires-clause-within
serve-requires-clause-within g c = c.requires.went.2.within

pub serve-requires-clause-more : goal.serve-requires-clause-more
serve-requires-clause-more g c = omega (arith, c.requires.went.2.number, c.requires.went.3, c.requires.few)

pub returns-clause-kept : goal.returns-clause-kept
returns-clause-kept g c start texts number went = applied_line c.args.text.now went c.in_ok-serve.ensures.ok
