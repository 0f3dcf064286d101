-- The numbers that a field's rows need.
use Rattle.std.specs.Prelude.{ℕ, List, [], Option, None, Some}
use Rattle.marc_types.specs.declared.key.Class.{Class}
use Rattle.marc_types.specs.declared.key.Key.{Key}
use Rattle.marc_types.specs.Order.{same_key}
use Rattle.numbering.specs.Numbers.{IsNumberOf}
use Rattle.catalogue_rules.specs.State.{KeptField}
use Rattle.catalogue_tables.specs.Waiting.{AreNumbersOf, one_or_two}
use Rattle.linked_store.specs.Turning.{Wants}
use Rattle.linked_store.specs.declared.turns.Row.{Row}

-- the number of a key, if there is one
abbrev pub IsLinkNumber : List Key → Option Key → Option ℕ → Type 0
IsLinkNumber keys None None = Unit {0}
IsLinkNumber keys None (Some number) = ⊥
IsLinkNumber keys (Some key) None = ⊥
IsLinkNumber keys (Some key) (Some number) = IsNumberOf same_key keys key number

-- the row says what the field waits for
pub record SaysWants (class : Class) (h : KeptField) (keys : List Key) (row : Row) : Type 0 where
  pub named : List Key
  pub wants : Wants class h (one_or_two row.form row.other) named
  pub numbers : AreNumbersOf same_key keys named row.keys

-- the row, or none, is what a field wants in the waiting table
abbrev pub IsRowFor : Class → KeptField → List Key → Option Row → Type 0
IsRowFor class h keys None = Wants class h [] []
IsRowFor class h keys (Some row) = SaysWants class h keys row
