-- The texts of a fault of MARC-8.
use Rattle.std.specs.Prelude.{ℕ, List, Option, Some, codes}
use Rattle.marc8_latin.specs.declared.fault.Marc8Fault.{Marc8Fault}
use Rattle.marc8_latin.specs.declared.fault.Marc8Fault.TheVariants.{BadByte, OtherSet, NoMemory}

-- a fault in words
abbrev pub message_of : Marc8Fault → Option (List ℕ)
message_of (BadByte _) = Some (codes "no MARC-8")
message_of (OtherSet _ _) = Some (codes "another character set")
message_of NoMemory = Some (codes "out of memory")
