use Rattle.std.proofs.Common.{Some, if◌then◌else◌, ◌∙◌, sym, ap}
use Rattle.std.specs.String.{string_bytes}
use Rattle.shape_files.specs.MachineFile.{is_machine_key}
use Rattle.shape_files.proofs.Members.{first_other, first_other-keys}
use Rattle.shape_files.proofs.machine_file.other_key.Goals as goal

pub loop-key-init : goal.loop-key-init
loop-key-init c = first_other-keys c.args.table.now.entries
    ∙ ap first_other (sym (c.into_iter-key-iterator.ensures.into_iter_gives ∙ c.keys-key-items.ensures.rest))

pub returns-then-not-is_machine_key : goal.returns-then-not-is_machine_key
returns-then-not-is_machine_key c =
    let no_key = sym (ap is_machine_key c.as_str.ensures.value) ∙ sym c.is_machine_key.ensures ∙ c.if-not-is_machine_key.true in
    let told = ap (λ b. if b then first_other c.next.new.self else Some (string_bytes c.in-Some.key.now)) no_key in
    c.loop-key.invariant ∙ ap first_other c.in-Some.ensures.steps ∙ told ∙ ap Some (sym c.as_str-then-not-is_machine_key.ensures.value)

pub loop-key-preserved : goal.loop-key-preserved
loop-key-preserved c =
    let a_key = sym (ap is_machine_key c.as_str.ensures.value) ∙ sym c.is_machine_key.ensures ∙ c.if-not-is_machine_key.false in
    let later = ap (λ b. if b then first_other c.next.new.self else Some (string_bytes c.in-Some.key.now)) a_key in
    c.loop-key.invariant ∙ ap first_other c.in-Some.ensures.steps ∙ later

pub returns : goal.returns
returns c = c.loop-key.invariant ∙ ap first_other (c.in-None.ensures.steps).0
