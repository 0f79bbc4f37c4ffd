-- Which operations are open after a history, and which events are malformed.
use Rattle.std.specs.Prelude.{ℕ, Bool, if◌then◌else◌, ◌==◌, List, [], ◌∷◌, ◌++◌, length, Option, Some, None, not}
use Rattle.std.specs.List.{filter, list_any, find, fold}
use Rattle.memory_histories.specs.declared.events.HistoryEvent.{HistoryEvent}
use Rattle.memory_histories.specs.declared.events.HistoryEvent.TheVariants.{LoadRequest, LoadResponse, StoreRequest, StoreResponse}
use Rattle.memory_histories.specs.declared.events.HistoryFault.{HistoryFault}
use Rattle.memory_histories.specs.declared.events.HistoryFault.TheVariants.{NotOpen, WrongLength}
use Rattle.atomic_histories.specs.declared.unit.Operation.{Operation}
use Rattle.memory_histories.specs.Regular.{is_inside, has_enabled, enables_any, request_fault, store_response_fault}

-- the open operations
pub record Opened : Type 0 where
  pub loads : List Operation
  pub stores : List Operation

abbrev pub none_opened : Opened
none_opened = record { loads = []; stores = [] }

abbrev pub has_number : ℕ → Operation → Bool
has_number number o = o.number == number

abbrev pub without_number : ℕ → List Operation → List Operation
without_number number os = filter (λ o. not (has_number number o)) os

-- the open operations after an event
abbrev pub opened_after : Opened → HistoryEvent → Opened
opened_after o (LoadRequest number address n enables) =
    record {
      loads = o.loads ++ record { number = number; address = address; length = n; enables = enables } ∷ [];
      stores = o.stores;
    }
opened_after o (LoadResponse number bytes) = record { loads = without_number number o.loads; stores = o.stores }
opened_after o (StoreRequest number address bytes enables) =
    record {
      loads = o.loads;
      stores = o.stores ++ record { number = number; address = address; length = length bytes.now; enables = enables } ∷ [];
    }
opened_after o (StoreResponse number) = record { loads = o.loads; stores = without_number number o.stores }

-- the open operations after a history
abbrev pub opened_by : List HistoryEvent → Opened
opened_by history = fold opened_after none_opened history

abbrev pub answer_fault : Option Operation → ℕ → Option HistoryFault
answer_fault None n = Some NotOpen
answer_fault (Some o) n = if o.length == n then None else Some WrongLength

-- why an event is malformed while these operations are open: of the faults that hold, the first in the order of their list
abbrev pub form_fault : Opened → HistoryEvent → Option HistoryFault
form_fault o (LoadRequest number address n enables) =
    request_fault (is_inside address n) (enables_any n enables) (list_any (has_number number) o.loads)
form_fault o (LoadResponse number bytes) = answer_fault (find (has_number number) o.loads) (length bytes.now)
form_fault o (StoreRequest number address bytes enables) =
    request_fault (is_inside address (length bytes.now)) (has_enabled bytes.now enables) (list_any (has_number number) o.stores)
form_fault o (StoreResponse number) = store_response_fault (list_any (has_number number) o.stores)
