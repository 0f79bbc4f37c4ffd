-- A machine whose numbers are in their ranges keeps what machines keep.
use Rattle.std.proofs.Common.{◌≡◌, true, List, map, get_or, replicate, is_some, None, Result, Ok, Err, IfOk, Vec, Global, sym, ap, subst}
use Rattle.std.proofs.Common.{◌∙◌}
use Rattle.std.specs.List.{list_all}
use Rattle.std.proofs.lemmas.List.{length-replicate, get_or-map}
use Rattle.machine_core.specs.Words.{Event, InRange, Sizes}
use Rattle.flat_model.specs.Words.{zero_word}
use Rattle.shape_files.specs.MachineFile.{bad_machine}
use Rattle.shape_files.proofs.Fits.{at_run_time}
use Rattle.machine_core.proofs.Numbers as numbers
use Rattle.machine_core.specs.Whole.{IsWholeState}
use Rattle.machine_core.proofs.Requests.{sound_opening, flat_opening}
use Rattle.machine_core.proofs.Whole.{lawful}
use Rattle.round_driver.specs.Walks.{is_request}
use Rattle.register_sweeps.specs.declared.row.Row.{Row}
use Rattle.register_sweeps.specs.declared.sweeps.SweepFault.{SweepFault}
use Rattle.register_sweeps.specs.Sweep.{new_machine, row_of, CountsAll, EachCountsAll, AreGood}
use Rattle.register_sweeps.proofs.Ending.{row_counts}

good_machine : (z : Sizes) → InRange z → IsWholeState (new_machine z)
good_machine z r =
    let words = length-replicate z.words zero_word in
    record {
      in_range = r;
      sound = sound_opening z (lawful z r) (replicate z.words zero_word) words;
    }

-- the row of such a machine counts each request once, and each accepted load's value
pub counts_all : (z : Sizes) (events : List Event) → bad_machine z ≡ None → list_all is_request events ≡ true
    → CountsAll events z (row_of events z)
counts_all z events h r =
    let range = numbers.in_size z (at_run_time z h) in
    let opened = flat_opening z (lawful z range) (replicate z.words zero_word) (length-replicate z.words zero_word) in
    let counts = row_counts (new_machine z) z.regs events (good_machine z range)
    (λ tag. ap (λ f. is_some (f.due tag)) opened) r in
    record { each_ends = counts.0; each_is_paid = counts.1; nothing_left = counts.2 }

-- the rows of such machines count all requests
pub rows_count_all : (events : List Event) (zs : List Sizes) (r : Result (Vec Row Global) SweepFault) → AreGood zs
    → IfOk r (λ rows. rows.items ≡ map (row_of events) zs)
    → IfOk r (λ rows. list_all is_request events ≡ true → EachCountsAll events zs rows.items)
rows_count_all events zs (Err e) good said = tt
rows_count_all events zs (Ok rows) good said = λ requests i z row l.
    let each = ap (λ xs. get_or xs i row) said ∙ get_or-map (row_of events) zs i z row l in
    subst (CountsAll events (get_or zs i z)) (sym each) (counts_all (get_or zs i z) events (good i z l) requests)
