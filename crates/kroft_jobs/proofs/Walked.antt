-- One event more of a walk.
use Rattle.std.proofs.Common.{◌≡◌, ℕ, ◌+◌, ◌<◌, List, length, drop, get_or, ap, sym, ◌∙◌}
use Rattle.std.proofs.lemmas.List.{drop_more}
use Rattle.machine_core.specs.AnyMachine.{after_event}
use Rattle.register_sweeps.specs.Machine.{MachineState}
use Rattle.run_pictures.specs.declared.asked.Asked.{Asked}
use Rattle.kroft_jobs.specs.Walking.{Walk, walk_along, walk_behind}

pub walk_more : (whole : Walk) (k : ℕ) (all : List Asked) (d : Asked) (s s' : MachineState) (w w' : Walk) → k < length all
    → whole ≡ walk_along k s (drop k all) w → s' ≡ after_event s (get_or all k d).event
    → w' ≡ walk_behind (k + 1) s (get_or all k d) w → whole ≡ walk_along (k + 1) s' (drop (k + 1) all) w'
walk_more whole k all d s s' w w' inside so_far machine walk =
    let rest = drop (k + 1) all in
    so_far ∙ (ap (λ es. walk_along k s es w) (drop_more all k d inside)
    ∙ (ap (λ t. walk_along (k + 1) t rest (walk_behind (k + 1) s (get_or all k d) w)) (sym machine)
    ∙ ap (λ v. walk_along (k + 1) s' rest v) (sym walk)))
