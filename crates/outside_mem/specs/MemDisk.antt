-- What clauses see of a disk in memory that keeps its moments.
use Rattle.outside.specs.Disk.{DiskView}
use Rattle.outside_mem.specs.Disk.{view_of}
use Rattle.outside_mem.specs.declared.disk.MemDisk.{MemDisk}

-- a disk in memory as any disk is seen
abbrev pub disk_view : MemDisk → DiskView
disk_view disk = view_of disk.tape.first disk.tape.changes disk.tape.bytes disk.calls.faults
