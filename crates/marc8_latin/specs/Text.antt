-- What the text of MARC-8 bytes is.
use Rattle.std.specs.Prelude.{◌≡◌, ℕ, ◌+◌, List, [], ◌∷◌, ◌++◌, length, map, Some, encode_utf8_all}
use Rattle.std.specs.List.{flat_map}
use Rattle.std.specs.Option.{option_map}
use Rattle.marc8_latin.specs.declared.fault.Marc8Fault.{Marc8Fault}
use Rattle.marc8_latin.specs.declared.fault.Marc8Fault.TheVariants.{BadByte, OtherSet, NoMemory}
use Rattle.marc8_latin.specs.declared.charset.Charset.TheVariants.{BasicLatin, ExtendedLatin}
use Rattle.marc8_latin.specs.declared.part.Designations.{Designations}
use Rattle.marc8_latin.specs.declared.part.Meaning.{Meaning}
use Rattle.marc8_latin.specs.declared.part.Meaning.TheVariants.{DesignatesG0, DesignatesG1, Base, Mark, Control, Subfield}
use Rattle.marc8_latin.specs.Parts.{meaning_of, fault_of}

-- a part of a text: its bytes, and what they mean
pub record Part : Type 0 where
  pub bytes : List ℕ
  pub meaning : Meaning

-- the bytes of parts, one behind the other
abbrev pub joined : List Part → List ℕ
joined parts = flat_map (λ part. part.bytes) parts

-- the set of a side is that of its last designation
abbrev pub after : Designations → Meaning → Designations
after sets (DesignatesG0 set) = record sets { g0 = set }
after sets (DesignatesG1 set) = record sets { g1 = set }
after sets (Base _) = sets
after sets (Mark _) = sets
after sets (Control _) = sets
after sets (Subfield _) = sets

-- the sets behind parts
abbrev pub after_all : Designations → List Part → Designations
after_all sets [] = sets
after_all sets (part ∷ parts) = after_all (after sets part.meaning) parts

-- each part means what it says, under the sets that were designated last before it
abbrev pub AreParts : Designations → List Part → Type 0
AreParts sets [] = Unit {0}
AreParts sets (part ∷ parts) = (meaning_of sets part.bytes ≡ Some part.meaning) × AreParts (after sets part.meaning) parts

-- a field's text starts with Basic Latin as G0 and Extended Latin as G1
abbrev pub latin : Designations
latin = record { g0 = BasicLatin; g1 = ExtendedLatin }

-- designations show nothing
abbrev pub shown : Meaning → List Meaning
shown (DesignatesG0 _) = []
shown (DesignatesG1 _) = []
shown (Base c) = Base c ∷ []
shown (Mark c) = Mark c ∷ []
shown (Control c) = Control c ∷ []
shown (Subfield code) = Subfield code ∷ []

-- what parts show, without the designations
abbrev pub shown_of : List Part → List Meaning
shown_of parts = flat_map (λ part. shown part.meaning) parts

-- a unit: a run of marks, perhaps empty, and its base; or a run that has no base, before a control or before a delimiter and its code
pub data Group : Type 0 where
  Based : List ℕ → ℕ → Group
  Stopped : List ℕ → ℕ → Group
  Parted : List ℕ → ℕ → Group

-- in MARC-8 marks stand before their base
abbrev pub group_characters : Group → List Meaning
group_characters (Based run base) = map Mark run ++ Base base ∷ []
group_characters (Stopped run control) = map Mark run ++ Control control ∷ []
group_characters (Parted run code) = map Mark run ++ Subfield code ∷ []

-- in Unicode marks stand behind their base; a run without one stands where it is
abbrev pub group_points : Group → List ℕ
group_points (Based run base) = base ∷ run
group_points (Stopped run control) = run ++ control ∷ []
group_points (Parted run code) = run ++ 0x1f ∷ code ∷ []

-- the bytes are parts, the parts' characters are units and perhaps a last run of marks, and these are the text in UTF-8
pub record IsText (bytes text : List ℕ) : Type 0 where
  pub parts : List Part
  pub cut : joined parts ≡ bytes
  pub known : AreParts latin parts
  pub groups : List Group
  pub last : List ℕ
  pub grouped : shown_of parts ≡ flat_map group_characters groups ++ map Mark last
  pub written : text ≡ encode_utf8_all (flat_map group_points groups ++ last)

-- a fault that stands so many bytes further on
abbrev pub moved : ℕ → Marc8Fault → Marc8Fault
moved by (BadByte place) = BadByte (by + place)
moved by (OtherSet set place) = OtherSet set (by + place)
moved by NoMemory = NoMemory

-- the first bytes are parts, and what is left begins with no part: that place decides the fault
pub record IsFault (bytes : List ℕ) (fault : Marc8Fault) : Type 0 where
  pub parts : List Part
  pub rest : List ℕ
  pub cut : joined parts ++ rest ≡ bytes
  pub known : AreParts latin parts
  pub stops : option_map (moved (length (joined parts))) (fault_of (after_all latin parts) rest) ≡ Some fault
