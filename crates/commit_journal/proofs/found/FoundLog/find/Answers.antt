use Rattle.std.proofs.Common.{sym, subst}
use Rattle.commit_journal.specs.Journal.{IsFound}
use Rattle.commit_journal.specs.Versions.{number_of}
use Rattle.commit_journal.proofs.Taken.{found_kept}
use Rattle.commit_journal.proofs.found.FoundLog.find.Goals as goal

pub returns-in-Ok-clause-found : goal.returns-in-Ok-clause-found
returns-in-Ok-clause-found g c =
    let seen = g.D.Disk.seen in
    let found = c.in-Ok.found in
    let version = number_of found.version in
    subst (λ frames. IsFound frames found.place version (seen c.args.disk) (seen found.disk)) (sym c.from_vec.ensures)
    (found_kept c.find_with.new.taker.items.items found.place version (seen c.args.disk) (seen found.disk) c.in-Ok.ensures.found)
