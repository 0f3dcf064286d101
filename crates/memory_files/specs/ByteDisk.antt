-- What clauses see of a disk of bytes that were read.
use Rattle.outside.specs.Disk.{DiskView}
use Rattle.outside_sure.specs.SureDisk.{sure_view}
use Rattle.memory_files.specs.declared.byte_disk.ByteDisk.{ByteDisk}

-- a disk that has these bytes, and tells its content and no moments
abbrev pub byte_disk_view : ByteDisk → DiskView
byte_disk_view disk = sure_view disk.bytes.items disk.faults
