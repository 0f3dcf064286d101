-- The lines of the console.
use Rattle.std.specs.Prelude.{ℕ, List, [], ◌∷◌, ◌++◌, codes}
use Rattle.std.specs.List.{flat_map}
use Rattle.std.specs.Fmt.{decimal}
use Rattle.marc_types.specs.Refusals.{number_of}
use Rattle.marc_types.specs.declared.refusal.Set.{Set}
use Rattle.marc_types.specs.declared.refusal.Set.TheVariants.{Eacc, BasicHebrew, BasicArabic, ExtendedArabic, BasicCyrillic, ExtendedCyrillic, BasicGreek, GreekSymbols, Subscripts, Superscripts, Unknown}
use Rattle.marc_types.specs.declared.sums.Sums.{Sums}
use Rattle.marc_types.specs.declared.refusal.Refusal.{Refusal}
use Rattle.marc_types.specs.declared.refusal.Refusal.TheVariants.{Overlong, Unfinished, BadLength, BadLeader, BadDirectory, BadField, UnknownCoding, BadText, OtherType, NoNumber, BadCode, NoHeading, HeadingTooLong, NoRoom, OtherSet}
use Rattle.file_entries.specs.declared.refused.RefusedItem.{RefusedItem}
use Rattle.console_lines.specs.declared.totals.Totals.{Totals}

-- the name of a character set that isn't read
abbrev pub set_name : Set → List ℕ
set_name Eacc = codes "EACC"
set_name BasicHebrew = codes "Basic Hebrew"
set_name BasicArabic = codes "Basic Arabic"
set_name ExtendedArabic = codes "Extended Arabic"
set_name BasicCyrillic = codes "Basic Cyrillic"
set_name ExtendedCyrillic = codes "Extended Cyrillic"
set_name BasicGreek = codes "Basic Greek"
set_name GreekSymbols = codes "Greek Symbols"
set_name Subscripts = codes "Subscripts"
set_name Superscripts = codes "Superscripts"
set_name Unknown = codes "Unknown"

-- the words of a refusal
abbrev pub reason_of : Refusal → List ℕ
reason_of Overlong = codes "overlong"
reason_of Unfinished = codes "unfinished"
reason_of BadLength = codes "bad length"
reason_of BadLeader = codes "bad leader"
reason_of (BadDirectory entry) = codes "bad directory at entry " ++ decimal entry
reason_of (BadField entry) = codes "bad field at entry " ++ decimal entry
reason_of UnknownCoding = codes "unknown coding"
reason_of (BadText entry offset) = codes "bad text in entry " ++ decimal entry ++ codes " at " ++ decimal offset
reason_of OtherType = codes "other type"
reason_of NoNumber = codes "no number"
reason_of BadCode = codes "bad code"
reason_of NoHeading = codes "no heading"
reason_of HeadingTooLong = codes "heading too long"
reason_of NoRoom = codes "no room"
reason_of (OtherSet set entry offset) =
    codes "other set " ++ set_name set ++ codes " in entry " ++ decimal entry ++ codes " at " ++ decimal offset

-- a blank
abbrev pub blank : List ℕ
blank = 32 ∷ []

-- a line feed
abbrev pub line_end : List ℕ
line_end = 10 ∷ []

-- the file as the words name it, the piece's number and place, and the refusal's number and reason
unfoldable pub refused_line : List ℕ → RefusedItem → List ℕ
refused_line file item =
    file ++ blank ++ decimal item.ordinal ++ blank ++ decimal item.offset ++ blank ++ decimal (number_of item.refusal)
    ++ blank ++ reason_of item.refusal ++ line_end

-- a line for each refused piece of a file
abbrev pub refused_lines : List ℕ → List RefusedItem → List ℕ
refused_lines file items = flat_map (refused_line file) items

-- the sums over the receipts, as they end a line
unfoldable pub sums_text : Sums → List ℕ
sums_text s =
    codes ", linked " ++ decimal s.linked ++ codes ", ambiguous " ++ decimal s.ambiguous
    ++ codes ", unlinked " ++ decimal s.unlinked ++ codes ", changed " ++ decimal s.changed ++ line_end

-- the line of what was counted of a file
unfoldable pub totals_line : List ℕ → Totals → List ℕ
totals_line file t =
    file ++ codes ": accepted " ++ decimal t.accepted ++ codes ", refused " ++ decimal t.refused ++ sums_text t.sums

-- the line of a workload: how many records were made, and the sums over their receipts in an empty catalogue
unfoldable pub made_line : ℕ → Sums → List ℕ
made_line count s = codes "made " ++ decimal count ++ sums_text s

-- the line of a checkpoint: how many entries the journal has
abbrev pub checkpoint_line : ℕ → List ℕ
checkpoint_line count = codes "checkpoint " ++ decimal count ++ line_end

-- the line of an export that a checkpoint spared so many entries, of how many
abbrev pub resumed_line : ℕ → ℕ → List ℕ
resumed_line taken count = codes "resumed " ++ decimal taken ++ (codes " of " ++ decimal count ++ line_end)

-- the line of a new journal that got a part of what was to be brought
abbrev pub part_line : List ℕ
part_line = codes "union_cat: brought in part\n"

-- the line of parts of a catalogue that differ, up to the name of the file
abbrev pub differ_front : ℕ → List ℕ
differ_front place = codes "union_cat: parts differ at " ++ decimal place ++ codes " of "

-- the line of parts of a catalogue that differ, at that byte of the file of that name
abbrev pub differ_line : ℕ → List ℕ → List ℕ
differ_line place name = differ_front place ++ name ++ line_end
