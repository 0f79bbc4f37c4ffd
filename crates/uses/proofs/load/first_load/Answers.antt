use Rattle.std.proofs.Common.{◌≡◌, Some, subst}
use Rattle.machine_core.specs.Words.{Answer}
use Rattle.flat_model.specs.Flat.{Flat, flat_step}
use Rattle.machine_core.specs.Machine.{flat_of}
use Rattle.uses.proofs.Owing.{owing, value_is}
use Rattle.uses.proofs.load.first_load.Goals as goal

pub returns-in-Value : goal.returns-in-Value
returns-in-Value c =
    let event = c.in-Some.field-0-0 in
    let after = flat_of c.pump.new.self.sizes c.pump.new.self.machine in
    let owed = owing c.args.image.now c.args.at in
    let step = subst (λ (s : Flat). flat_step s event c.in-Some.answer ≡ Some after) c.pumps.invariant c.in-Some.ensures.flat in
    let taken = subst (λ (a : Answer). flat_step owed event a ≡ Some after) c.in-Value.is step in
    value_is c.args.image.now c.args.at event c.in-Value.tag c.in-Value.word after taken
