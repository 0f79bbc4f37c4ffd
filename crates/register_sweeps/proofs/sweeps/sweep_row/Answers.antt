use Rattle.std.proofs.Common.{sym, ap, subst, ◌∙◌}
use Rattle.shape_files.specs.ShapeFile.{sizes_of}
use Rattle.shape_files.proofs.Fits.{sizes_fit}
use Rattle.register_sweeps.specs.Sweep.{CountsAll, row_of}
use Rattle.register_sweeps.proofs.Lawful.{counts_all}
use Rattle.register_sweeps.proofs.sweeps.sweep_row.Goals as goal

pub returns-clause-counts : goal.returns-clause-counts
returns-clause-counts c = λ requests.
    let good = sizes_fit c.args.shape.now (sym c.bad_field.ensures ∙ c.in_default.is) in
    let sizes = sizes_of c.args.shape.now in
    let row = c.in_ok-row_of.ensures ∙ ap (row_of c.args.events.now) c.sizes.ensures.sizes in
    subst (CountsAll c.args.events.now sizes) (sym row) (counts_all sizes c.args.events.now good requests)
