use Rattle.std.proofs.Common.{◌≡◌, None, arith}
use Rattle.station_journal.specs.declared.journal.Source.TheVariants as sources
use Rattle.station_parts.specs.SideState.{state_of}
use Rattle.station_parts.specs.SideSteps.{refusal_of}
use Rattle.station_parts.proofs.SideMakes.{side_steps}
use Rattle.station_parts.proofs.parts.CacheSide.step_with.Goals as goal

pub returns-in-Ask : goal.returns-in-Ask
returns-in-Ask c =
    let none : refusal_of (state_of c.args.self.now) ≡ None = grind arith in
    rw c.in-Ask.is
    (side_steps (sources.Ask c.in-Ask.port) c.args.self.now c.ask.new.self _ none c.ask.ensures.makes c.ask.ensures.same)

pub returns-in-Word : goal.returns-in-Word
returns-in-Word c =
    let none : refusal_of (state_of c.args.self.now) ≡ None = grind arith in
    rw c.in-Word.is
    (side_steps (sources.Word c.in-Word.bank) c.args.self.now c.bring.new.self _ none c.bring.ensures.makes c.bring.ensures.same)

pub returns-in-Stack : goal.returns-in-Stack
returns-in-Stack c =
    let none : refusal_of (state_of c.args.self.now) ≡ None = grind arith in
    rw c.in-Stack.is
    (side_steps (sources.Stack c.in-Stack.place) c.args.self.now c.process.new.self _ none c.process.ensures.makes c.process.ensures.same)

pub returns-in-Drain : goal.returns-in-Drain
returns-in-Drain c =
    let none : refusal_of (state_of c.args.self.now) ≡ None = grind arith in
    rw c.in-Drain.is
    (side_steps sources.Drain c.args.self.now c.drain.new.self _ none c.drain.ensures.makes c.drain.ensures.same)

pub returns-in-Reply : goal.returns-in-Reply
returns-in-Reply c =
    let none : refusal_of (state_of c.args.self.now) ≡ None = grind arith in
    rw c.in-Reply.is
    (side_steps (sources.Reply c.in-Reply.place) c.args.self.now c.reply.new.self _ none c.reply.ensures.makes c.reply.ensures.same)
