use Rattle.std.proofs.Common.{refl}
use Rattle.selection.proofs.selection.Selection.keeps.Goals as goal

pub returns : goal.returns
returns g c =
    λ kept selects. selects.answers.only c.args.key.now c.keep.result
    (record { shown = c.args.key; shows = refl; says = record { met = c.keep.ensures } })
