use Rattle.std.proofs.Common.{sym, ◌∙◌}
use Rattle.memory_banks.proofs.Sending.{in_range}
use Rattle.memory_banks.proofs.memory.Banks.new.Goals as goal

pub over-requires : goal.over-requires
over-requires c =
    let r = in_range _ c.args.shape.now (sym c.bad_field.ensures ∙ c.in_default.is) in
    record {
      some_words = r.some_words;
      few_words = r.most_words;
      image = r.image_fits;
      some_banks = r.some_banks;
      few_banks = r.most_banks;
      some_commands = r.some_queue;
      few_commands = r.most_queue;
    }
