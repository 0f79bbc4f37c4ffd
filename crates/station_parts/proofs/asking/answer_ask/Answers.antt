use Rattle.std.proofs.Common.{arith, append-nil}
use Rattle.cache_law.proofs.Silent.{evict_silent}
use Rattle.station_parts.proofs.asking.answer_ask.Goals as goal

pub returns-in-Evict : goal.returns-in-Evict
returns-in-Evict c = grind (arith, evict_silent, append-nil)
