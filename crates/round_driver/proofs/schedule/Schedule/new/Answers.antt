use Rattle.std.proofs.Common.{◌≡◌, ℕ, ◌<◌, List, [], replicate, sym, ap, ◌∙◌}
use Rattle.std.proofs.lemmas.List.{ext_get_or, get_or-replicate, length-replicate}
use Rattle.std.specs.Array.{AllOfLen}
use Rattle.flat_model.specs.declared.limits.TheConstants.{MAX_BANKS}
use Rattle.round_driver.specs.declared.schedule.Schedule.{Schedule}
use Rattle.round_driver.proofs.schedule.Schedule.new.Goals as goal

-- lists with nothing in them, so many of them
none_begun : (n : ℕ) (begun : List (List ℕ)) → AllOfLen (λ (l : List ℕ). l ≡ []) begun n → begun ≡ replicate n []
none_begun n begun all =
    ext_get_or [] begun _ (all.long ∙ sym (length-replicate n []))
    (λ i below. let here : i < n = rw (sym all.long) below in all.at i [] here ∙ sym (get_or-replicate n i [] [] here))

pub returns : goal.returns
returns c =
    let from : List _ → Schedule = λ begun. record { timing = c.args.timing; round = 0; begun = begun; next = 0 } in
    ap from (none_begun MAX_BANKS _ c.default.ensures)
