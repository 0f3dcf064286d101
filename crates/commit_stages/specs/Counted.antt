-- How many fields of the committed record stand so once they are settled.
use Rattle.std.specs.Prelude.{◌≡◌, ℕ, ◌<◌, Bool, true, false, List, map}
use Rattle.std.specs.List.{count_by}
use Rattle.marc_types.specs.declared.field.Field.{Field}
use Rattle.marc_types.specs.declared.key.Class.{Class}
use Rattle.entry_record.specs.Authority.{Linkable}
use Rattle.catalogue_rules.specs.State.{new_field}
use Rattle.catalogue_rules.specs.Settle.{settle_field}
use Rattle.catalogue_rules.specs.Receipt.{Standing, is_ambiguous, is_linked, is_unlinked, standing_of}
use Rattle.commit_stages.specs.declared.settled.Stands.{Stands}
use Rattle.commit_stages.specs.declared.settled.Stands.TheVariants.{Linked, Ambiguous, Unlinked, NoHeading}
use Rattle.commit_stages.specs.declared.counts.HeadingCounts.{HeadingCounts}

-- of a record's fields as they come, how many stand so once they are settled
abbrev pub count_settled : (Standing → Bool) → List Linkable → Class → List Field → ℕ
count_settled test all class fields = count_by (λ h. test (standing_of all class h)) (map (settle_field all class) (map new_field fields))

-- how many of the fields are linked, ambiguous and unlinked
pub record AreCountsOf (all : List Linkable) (class : Class) (fields : List Field) (counts : HeadingCounts) : Type 0 where
  pub linked : counts.linked ≡ count_settled is_linked all class fields
  pub ambiguous : counts.ambiguous ≡ count_settled is_ambiguous all class fields
  pub unlinked : counts.unlinked ≡ count_settled is_unlinked all class fields

-- ---- one field more

-- it is linked
abbrev pub stands_linked : Stands → Bool
stands_linked Linked = true
stands_linked Ambiguous = false
stands_linked Unlinked = false
stands_linked NoHeading = false

-- it is ambiguous
abbrev pub stands_ambiguous : Stands → Bool
stands_ambiguous Linked = false
stands_ambiguous Ambiguous = true
stands_ambiguous Unlinked = false
stands_ambiguous NoHeading = false

-- it is a heading without a link
abbrev pub stands_unlinked : Stands → Bool
stands_unlinked Linked = false
stands_unlinked Ambiguous = false
stands_unlinked Unlinked = true
stands_unlinked NoHeading = false

-- Each number can grow by one. A record has at most 8,331 fields.
pub record HasRoom (counts : HeadingCounts) : Type 0 where
  pub linked : counts.linked < 8331
  pub ambiguous : counts.ambiguous < 8331
  pub unlinked : counts.unlinked < 8331
