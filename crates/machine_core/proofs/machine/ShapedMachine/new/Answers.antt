use Rattle.std.proofs.Common.{sym, ◌∙◌, ap, rules}
use Rattle.memory_banks.specs.Memory.{fault_of}
use Rattle.cache_unit.proofs.Numbers.{in_size}
use Rattle.machine_core.proofs.Whole.{fits_image, whole_opening, flat_new, is_kept, some_queue}
use Rattle.machine_core.proofs.machine.ShapedMachine.new.Goals as goal

pub over-requires : goal.over-requires
over-requires c =
    let fits = fits_image _ c.args.sizes.now _ (cc) in
    let r = in_size c.args.sizes.now fits.0 in
    rw c.shape.ensures (record {
      some_words = r.some_memory;
      few_words = r.little_memory;
      image = fits.1;
      some_banks = r.some_banks;
      few_banks = r.few_banks;
      some_commands = some_queue _ r;
      few_commands = r.few_commands;
    })

pub returns-in_err-banks-clause-fault : goal.returns-in_err-banks-clause-fault
returns-in_err-banks-clause-fault c =
    let same = ap fault_of (sym (sym c.bad_field.ensures ∙ c.in_default.is)) in
    rw (← same) (search rules)

pub invariant_of-result : goal.invariant_of-result
invariant_of-result c = whole_opening c.args.sizes.now _ _ _ _ (sym c.bad_field.ensures ∙ c.in_default.is) c.shape.ensures
    c.in_ok-unit.ensures.ok c.in_ok-banks.ensures

pub returns-clause-flat : goal.returns-clause-flat
returns-clause-flat c = flat_new c.args.sizes.now _ _ _ _ (sym c.bad_field.ensures ∙ c.in_default.is) c.shape.ensures
    c.in_ok-unit.ensures.ok c.in_ok-banks.ensures

pub returns-clause-kept : goal.returns-clause-kept
returns-clause-kept c = is_kept (whole_opening c.args.sizes.now _ _ _ _ (sym c.bad_field.ensures ∙ c.in_default.is) c.shape.ensures
    c.in_ok-unit.ensures.ok c.in_ok-banks.ensures)
