use Rattle.std.proofs.Common.{not, subst}
use Rattle.outside_mem.specs.Disk.{TapeState, IsImageAfter}
use Rattle.outside_mem.specs.DiskLaws.{sync_keeps}
use Rattle.outside_mem.proofs.disk.MemDiskDisk.sync.Goals as goal

pub returns-clause-crash : goal.returns-clause-crash
returns-clause-crash c i image =
    let disk = c.args.self.now in
    sync_keeps c.sync_all.result disk.tape c.sync_all.new.self.tape (not c.is_next_listed-done.result) disk.run c.sync_all.ensures.ok c.sync_all.ensures.err i
    (subst (λ (t : TapeState). IsImageAfter t.first t.changes i) c.counted.ensures.tape image)
