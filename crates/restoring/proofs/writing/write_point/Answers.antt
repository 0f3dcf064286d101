use Rattle.std.proofs.Common.{length, sym, subst}
use Rattle.outside.proofs.Disks.{same_disk}
use Rattle.catalogue_rules.specs.Settle.{state_of}
use Rattle.commit_journal.proofs.Steps.{keeps_unchanged, leaves_kept}
use Rattle.restoring.specs.Drafts.{IsWritten, rows_in_turn}
use Rattle.restoring.specs.Writing.{HasPointOrNot}
use Rattle.restoring.proofs.Appended.{no_point, point_behind, leaves_last, leaves_point}
use Rattle.restoring.proofs.writing.write_point.Goals as goal

pub returns-in_default-clause-crash : goal.returns-in_default-clause-crash
returns-in_default-clause-crash g c log told =
    let journal = c.args.point.now in
    let old = g.D.Disk.seen journal.disk in
    let settled = journal.settled c.requires.whole in
    let history = c.args.core.now.history in
    let P = HasPointOrNot (length history) (state_of history) log in
    let has = no_point (length history) (state_of history) log in
    leaves_kept P old old log (g.met.D.Disk.only_now journal.disk) settled.only told has (keeps_unchanged P old old log settled.only told (same_disk old).unchanged has)

pub returns-in_default-clause-last : goal.returns-in_default-clause-last
returns-in_default-clause-last g c log last told has =
    let old = g.D.Disk.seen c.args.point.now.disk in
    let history = c.args.core.now.history in
    leaves_last (length history) (state_of history) old old log last has (returns-in_default-clause-crash g c log told)

pub returns-in-Ok-append_all-clause-crash : goal.returns-in-Ok-append_all-clause-crash
returns-in-Ok-append_all-clause-crash g c log told =
    let journal = c.args.point.now in
    let history = c.args.core.now.history in
    let valid = c.in-Ok.ensures.valid in
    let written = subst (IsWritten (length history) (rows_in_turn (state_of history))) (sym c.as_slice.ensures.value) c.in-Ok.ensures.written in
    leaves_point (length history) (state_of history) c.as_slice.result.now written valid.authorities_ascend valid.bibliographic_ascend journal.place
    (g.D.Disk.seen journal.disk) (g.D.Disk.seen c.append_all.new.self.disk) log (c.append_all.ensures.crash log told)

pub returns-in-Ok-append_all-clause-appended : goal.returns-in-Ok-append_all-clause-appended
returns-in-Ok-append_all-clause-appended g c before after told now =
    let journal = c.args.point.now in
    let history = c.args.core.now.history in
    let valid = c.in-Ok.ensures.valid in
    let written = subst (IsWritten (length history) (rows_in_turn (state_of history))) (sym c.as_slice.ensures.value) c.in-Ok.ensures.written in
    point_behind (length history) (state_of history) c.as_slice.result.now written valid.authorities_ascend valid.bibliographic_ascend journal.place before after
    (c.in-Ok-append_all.ensures.appended before after told now)

pub returns-in-Ok-append_all-clause-last : goal.returns-in-Ok-append_all-clause-last
returns-in-Ok-append_all-clause-last g c log last told has =
    let history = c.args.core.now.history in
    leaves_last (length history) (state_of history) (g.D.Disk.seen c.args.point.now.disk) (g.D.Disk.seen c.append_all.new.self.disk) log last has
    (returns-in-Ok-append_all-clause-crash g c log told)

pub returns-clause-crash : goal.returns-clause-crash
returns-clause-crash g c log told =
    let journal = c.args.point.now in
    let history = c.args.core.now.history in
    let valid = c.in-Ok.ensures.valid in
    let written = subst (IsWritten (length history) (rows_in_turn (state_of history))) (sym c.as_slice.ensures.value) c.in-Ok.ensures.written in
    leaves_point (length history) (state_of history) c.as_slice.result.now written valid.authorities_ascend valid.bibliographic_ascend journal.place
    (g.D.Disk.seen journal.disk) (g.D.Disk.seen c.append_all.new.self.disk) log (c.append_all.ensures.crash log told)

pub returns-clause-last : goal.returns-clause-last
returns-clause-last g c log last told has =
    let history = c.args.core.now.history in
    leaves_last (length history) (state_of history) (g.D.Disk.seen c.args.point.now.disk) (g.D.Disk.seen c.append_all.new.self.disk) log last has
    (returns-clause-crash g c log told)
