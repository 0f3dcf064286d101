-- What reports tell of parts, and what is joined of it. The lines are this project's own.
use Rattle.std.specs.Prelude.{◌≡◌, ◌⊎◌, ◌≢◌, ℕ, ◌-◌, ◌^◌, ◌<◌, ◌≤◌, List, [], ◌∷◌, ◌++◌, length, take, drop, All, Option, Some}
use Rattle.catalogue_parts.specs.declared.totals.Totals.{Totals}
use Rattle.catalogue_parts.specs.Joined.{line_of_totals, joined_totals}

-- whole lines, or nothing
abbrev pub AreLines : List ℕ → Type 0
AreLines bytes = (bytes ≡ []) ⊎ ((front : List ℕ) × (bytes ≡ front ++ 10 ∷ []))

-- each number is below 2^64
pub record AreSmall (t : Totals) : Type 0 where
  pub authorities : t.authorities < 2 ^ 64
  pub bibliographic : t.bibliographic < 2 ^ 64
  pub linked : t.linked < 2 ^ 64
  pub ambiguous : t.ambiguous < 2 ^ 64
  pub unlinked : t.unlinked < 2 ^ 64

-- a report of these numbers: its last line is the line that tells them
pub record IsReportOf (t : Totals) (bytes : List ℕ) : Type 0 where
  pub small : AreSmall t
  pub before : List ℕ
  pub lines : AreLines before
  pub ends : bytes ≡ before ++ line_of_totals t

-- at this place the last line of some bytes begins: no line ends behind it, but at the last byte
pub record IsLastLine (bytes : List ℕ) (place : ℕ) : Type 0 where
  pub within : place ≤ length bytes - 1
  pub begins : AreLines (take place bytes)
  pub alone : All (λ b. b ≢ 10) (take (length bytes - 1 - place) (drop place bytes))

-- a part has the same authorities as all parts have, and counts what they count
pub record IsBeyond (shared t : Totals) : Type 0 where
  pub authorities : t.authorities ≡ shared.authorities
  pub bibliographic : shared.bibliographic ≤ t.bibliographic
  pub linked : shared.linked ≤ t.linked
  pub ambiguous : shared.ambiguous ≤ t.ambiguous
  pub unlinked : shared.unlinked ≤ t.unlinked

-- a file by its name
abbrev pub FileOf : Type 0
FileOf = List ℕ → Option (List ℕ)

-- the file of that name is the report of a catalogue that has authorities alone
pub record IsShared (file : FileOf) (name : List ℕ) (shared : Totals) : Type 0 where
  pub bytes : List ℕ
  pub there : file name ≡ Some bytes
  pub tells : IsReportOf shared bytes
  pub alone : shared.bibliographic ≡ 0

-- the file of that name is the report of a part with these numbers
pub record IsPartReport (file : FileOf) (shared : Totals) (name : List ℕ) (t : Totals) : Type 0 where
  pub bytes : List ℕ
  pub there : file name ≡ Some bytes
  pub tells : IsReportOf t bytes
  pub beyond : IsBeyond shared t

-- the files of these names are reports of parts with these numbers, in their order
abbrev pub AreReports : FileOf → Totals → List (List ℕ) → List Totals → Type 0
AreReports file shared [] [] = Unit {0}
AreReports file shared [] (t ∷ parts) = ⊥
AreReports file shared (name ∷ names) [] = ⊥
AreReports file shared (name ∷ names) (t ∷ parts) = IsPartReport file shared name t × AreReports file shared names parts

-- the numbers to which the reports of parts come, with those that stand in all of them once
pub record AreSummed (file : FileOf) (shared : Totals) (names : List (List ℕ)) (whole : Totals) : Type 0 where
  pub parts : List Totals
  pub reports : AreReports file shared names parts
  pub whole_is : whole ≡ joined_totals shared parts

-- the numbers of the whole: the first report is that of the authorities alone, and the others are those of the parts
pub record AreJoined (file : FileOf) (first : List ℕ) (names : List (List ℕ)) (whole : Totals) : Type 0 where
  pub shared : Totals
  pub is_shared : IsShared file first shared
  pub summed : AreSummed file shared names whole

-- the file of that name is there, its last line begins at that place, and it isn't the report of a catalogue that has authorities alone
pub record IsNotShared (file : FileOf) (name : List ℕ) (place : ℕ) : Type 0 where
  pub bytes : List ℕ
  pub there : file name ≡ Some bytes
  pub last : IsLastLine bytes place
  pub none : (t : Totals) → IsReportOf t bytes → t.bibliographic ≡ 0 → ⊥

-- the same, and it isn't the report of a part with these authorities
pub record IsNotBeyond (file : FileOf) (shared : Totals) (name : List ℕ) (place : ℕ) : Type 0 where
  pub bytes : List ℕ
  pub there : file name ≡ Some bytes
  pub last : IsLastLine bytes place
  pub none : (t : Totals) → IsReportOf t bytes → IsBeyond shared t → ⊥

-- why reports can't be joined, at that place of the file of that name
pub data ReportsDiffer (file : FileOf) (first : List ℕ) (names : List (List ℕ)) (place : ℕ) (name : List ℕ) : Type 0 where
  AtFirst : name ≡ first → IsNotShared file first place → ReportsDiffer file first names place name
  AtPart : (shared : Totals) (before after : List (List ℕ)) → IsShared file first shared → names ≡ before ++ name ∷ after → IsNotBeyond file shared name place
      → ReportsDiffer file first names place name
