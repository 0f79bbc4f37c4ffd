use Rattle.memory_histories.specs.Sets.{no_bytes}
use Rattle.memory_histories.specs.Windows.{load_byte}
use Rattle.memory_histories.proofs.Opened.{place_bound}
use Rattle.memory_histories.proofs.loads.wrong_in.Goals as goal

pub returns-then-is_load_of-clause-bound : goal.returns-then-is_load_of-clause-bound
returns-then-is_load_of-clause-bound c = place_bound _ _ (record { load = load_byte 0 0 0 0 0; may = no_bytes }) _ c.first_wrong.ensures
