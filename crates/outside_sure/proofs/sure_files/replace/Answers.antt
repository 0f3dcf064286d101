use Rattle.std.proofs.Common.{refl}
use Rattle.outside_sure.proofs.Kepts.{changes_kept}
use Rattle.outside_sure.proofs.sure_files.replace.Goals as goal

pub returns : goal.returns
returns g c name at =
    let old = c.index_mut-file.result.now in
    changes_kept c.args.files.now.items name c.args.place old (record old { kept = c.args.kept }) at c.index_mut-file.ensures.value refl
