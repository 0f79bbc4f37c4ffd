use Rattle.std.proofs.Common.{ap, ◌/◌}
use Rattle.kroft_jobs.specs.Words.{PAGE_WORDS}
use Rattle.kroft_jobs.specs.Asking.{room_of}
use Rattle.kroft_jobs.proofs.Driving.{lackey_fails, din_fails}
use Rattle.kroft_jobs.proofs.asked.read_asked.Goals as goal

pub returns-in-Lackey-clause-fault : goal.returns-in-Lackey-clause-fault
returns-in-Lackey-clause-fault g c =
    lackey_fails g.I.Source.gave g.I.Source.failed c.args.from (c.min-words.result / PAGE_WORDS) (room_of c.args.sizes.now) c.args.input.now
    c.log_requests.new.input
    (ap (λ n. n / PAGE_WORDS) c.min-words.ensures) c.in-Lackey.is c.log_requests.result c.log_requests.ensures.fault

pub returns-in-Din-clause-fault : goal.returns-in-Din-clause-fault
returns-in-Din-clause-fault g c =
    din_fails g.I.Source.gave g.I.Source.failed c.args.from (c.min-words.result / PAGE_WORDS) (room_of c.args.sizes.now) c.args.input.now
    c.log_requests-in-Din.new.input
    (ap (λ n. n / PAGE_WORDS) c.min-words.ensures) c.in-Din.is c.log_requests-in-Din.result c.log_requests-in-Din.ensures.fault
