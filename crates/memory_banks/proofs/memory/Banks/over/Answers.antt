use Rattle.std.proofs.Common.{◌≤◌, sym, subst}
use Rattle.flat_model.specs.declared.limits.TheConstants.{MAX_MEMORY}
use Rattle.memory_banks.proofs.Sending.{InRange, made_memory}
use Rattle.memory_banks.proofs.memory.Banks.over.Goals as goal

pub opening_banks-requires-clause-fits : goal.opening_banks-requires-clause-fits
opening_banks-requires-clause-fits c = subst (λ n. n ≤ MAX_MEMORY) (sym c.requires.image) c.requires.few_words

pub invariant_of-result : goal.invariant_of-result
invariant_of-result c =
    let r = c.requires in
    let range : InRange _ _ = record {
      some_words = r.some_words;
      most_words = r.few_words;
      some_banks = r.some_banks;
      most_banks = r.few_banks;
      some_queue = r.some_commands;
      most_queue = r.few_commands;
      image_fits = r.image;
    } in
    made_memory c.args.image.now c.args.shape.now c.in_ok-banks.banks.items range c.in_ok-banks.ensures
