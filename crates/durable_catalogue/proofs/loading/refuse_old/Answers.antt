use Rattle.std.proofs.Common.{◌∙◌}
use Rattle.commit_journal.specs.Versions.{number_of}
use Rattle.durable_catalogue.proofs.Founds.{found_since}
use Rattle.durable_catalogue.proofs.Loads.{old_unloaded}
use Rattle.durable_catalogue.proofs.loading.refuse_old.Goals as goal

pub returns-in-Ok-clause-refused : goal.returns-in-Ok-clause-refused
returns-in-Ok-clause-refused g c before begun =
    let log = c.in-Ok.found in
    let found = c.in-Ok.ensures.found in
    let version = number_of log.version in
    c.refuse_log.ensures.refused before found.frames c.args.limits
    (found_since c.args.begun log found before begun (g.met.D.Disk.content_len log.disk))
    (old_unloaded _ log.version found.frames c.args.limits c.args.limits c.in-Ok._reading (found.version_is ∙ c.requires.old) found.made)

pub returns-in-Err-clause-refused : goal.returns-in-Err-clause-refused
returns-in-Err-clause-refused g c before begun = c.in-Err.ensures.refused before c.args.limits begun
