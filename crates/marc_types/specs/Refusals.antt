-- The numbers of the refusals. They are this project's own.
use Rattle.std.specs.Prelude.{ℕ}
use Rattle.marc_types.specs.declared.refusal.Refusal.{Refusal}
use Rattle.marc_types.specs.declared.refusal.Refusal.TheVariants.{Overlong, Unfinished, BadLength, BadLeader, BadDirectory, BadField, UnknownCoding, BadText, OtherType, NoNumber, BadCode, NoHeading, HeadingTooLong, NoRoom, OtherSet}

-- the number of a refusal in printed lines
abbrev pub number_of : Refusal → ℕ
number_of Overlong = 1
number_of Unfinished = 2
number_of BadLength = 3
number_of BadLeader = 4
number_of (BadDirectory entry) = 5
number_of (BadField entry) = 6
number_of UnknownCoding = 7
number_of (BadText entry offset) = 8
number_of OtherType = 9
number_of NoNumber = 10
number_of BadCode = 11
number_of NoHeading = 12
number_of HeadingTooLong = 13
number_of NoRoom = 14
number_of (OtherSet set entry offset) = 15
