-- Why the loading of a file ended. The rules are this project's own.
use Rattle.std.specs.Prelude.{Option, Some, None}
use Rattle.marc_types.specs.declared.entry.CommitFault.{CommitFault}
use Rattle.marc_types.specs.declared.entry.CommitFault.TheVariants as fault
use Rattle.loader_workers.specs.declared.file_end.FileEnd.{FileEnd}
use Rattle.loader_workers.specs.declared.file_end.FileEnd.TheVariants.{Full, DeviceFault, NoMemory}

-- the end of a file of which a commit answers this
abbrev pub file_end_of : CommitFault → FileEnd
file_end_of fault.Full = Full
file_end_of fault.NoMemory = NoMemory
file_end_of fault.DeviceFault = DeviceFault
file_end_of fault.Broken = DeviceFault

-- the end of a file by the fault of a commit, where there is one
abbrev pub end_of_commit : Option CommitFault → Option FileEnd
end_of_commit None = None
end_of_commit (Some fault) = Some (file_end_of fault)
