use Rattle.std.proofs.Common.{◌∙◌, ◌+◌, Some, sym, ap}
use Rattle.memory_histories.specs.Kept.{Kept}
use Rattle.memory_histories.specs.Shown.{kept}
use Rattle.memory_histories.proofs.regular.RegularMemory.take_store_response.Goals as goal

-- what is kept one event later
abbrev later : Kept → Kept
later k = record {
  image = k.image;
  rest = k.rest;
  moment = k.moment + 1;
  stores = k.stores;
  answered = k.answered;
  open_bytes = k.open_bytes;
}

pub returns-clause-ok : goal.returns-clause-ok
unfolding kept
returns-clause-ok c =
    rw (sym c.store_response_fault.ensures ∙ c.in_ok-refuse.ensures.none)
    (ap (λ k. Some (later k)) (sym c.in_ok-answer_store.ensures.ok))
