-- A pair that is a step of flat memory: flat memory may answer so, and what it leaves.
use Rattle.std.proofs.Common.{◌≡◌, true, Some, arith}
use Rattle.machine_core.specs.Words.{Event, Answer}
use Rattle.flat_model.specs.Flat.{Flat, may_answer, flat_after, flat_step}

pub listed : (s t : Flat) (event : Event) (a : Answer) → flat_step s event a ≡ Some t → may_answer s event a ≡ true
listed s t event a h = grind arith

pub changed : (s t : Flat) (event : Event) (a : Answer) → flat_step s event a ≡ Some t → flat_after s event a ≡ t
changed s t event a h = grind arith
