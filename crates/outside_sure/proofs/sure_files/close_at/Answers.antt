use Rattle.std.proofs.Common.{refl}
use Rattle.outside_sure.specs.SureKept.{kept_closed}
use Rattle.outside_sure.proofs.Kepts.{changes_at}
use Rattle.outside_sure.proofs.sure_files.close_at.Goals as goal

pub returns : goal.returns
returns g c name at =
    let old = c.index_mut-file.result.now in
    changes_at c.args.files.now.items name c.args.place old (record old { kept = c.close.new.self }) (kept_closed c.args.closing c.args.more)
    at c.index_mut-file.ensures.value refl c.close.ensures
