-- Which authorities the index tells of, and how it follows one that comes, changes or goes.
use Rattle.std.specs.Prelude.{◌≡◌, ℕ, ◌<◌, ◌≤◌, Bool, true, false, List, length, find, Option, Some, None, IfSome, if◌then◌else◌}
use Rattle.std.specs.List.{list_any}
use Rattle.std.specs.Option.{option_map_or}
use Rattle.marc_types.specs.declared.form.Form.{Form}
use Rattle.marc_types.specs.declared.key.Key.{Key}
use Rattle.marc_types.specs.Order.{same_form, same_key}
use Rattle.numbering.specs.Numbers.{number_of, IsNumberOf}
use Rattle.form_index.specs.Forms.{Forms}
use Rattle.form_index.specs.Index.{ExchangesRow, Indexed, IsHeld, IsInOrder, Taken, let_go, put_back, row_under, taken, taken_out}
use Rattle.form_index.specs.Order.{has}
use Rattle.entry_record.specs.Authority.{Linkable, is_bare, linkable_of}
use Rattle.entry_record.specs.Identity.{is_deletion}
use Rattle.catalogue_rules.specs.Choice.{has_key}
use Rattle.catalogue_rules.specs.Settle.{Arrival}

-- a row in numbers has these forms, which all have numbers, and says whether the heading is bare
pub record HasForms (names : List Form) (established : Form) (see_from : List Form) (bare : Bool) (row : Forms) : Type 0 where
  pub established_is : IsNumberOf same_form names established row.established
  pub see_from_are : (form : Form) → has (number_of same_form names form) row.see_from ≡ list_any (same_form form) see_from
  pub given : (n : ℕ) → has n row.see_from ≡ true → n < length names
  pub bare_is : row.bare ≡ bare

-- an authority has its row; where there is none, there is no row
abbrev pub IsRowFor : List Form → Option Linkable → Option Forms → Type 0
IsRowFor names (Some c) (Some row) = HasForms names c.established c.see_from (is_bare c) row
IsRowFor names None None = Unit {0}
IsRowFor names _ _ = ⊥

-- under the number of each key stands the row of its authority, and there are no other rows; the lists are in key order
pub record TellsAuthorities (names : List Form) (keys : List Key) (x : Indexed) (all : List Linkable) : Type 0 where
  pub each : (key : Key) → IsRowFor names (find (has_key key) all) (row_under (number_of same_key keys key) x)
  pub given : (n : ℕ) → length keys ≤ n → row_under n x ≡ None
  pub ordered : IsInOrder keys x

-- under the number stands the row of this authority now, or none, and the other rows are as they were
pub record FollowsAuthority (names : List Form) (number : ℕ) (authority : Option Linkable) (old new : Indexed) : Type 0 where
  pub row : Option Forms
  pub row_is : IsRowFor names authority row
  pub rows : ExchangesRow number row old new

-- of the authorities before, that of one key has come, changed or gone
pub record IsExchanged (key : Key) (authority : Option Linkable) (before now : List Linkable) : Type 0 where
  pub own : find (has_key key) now ≡ authority
  pub others : (other : Key) → same_key key other ≡ false → find (has_key other) now ≡ find (has_key other) before

-- the authority that a record brings, if it can be linked to; a deletion brings none
abbrev pub authority_brought : Arrival → Option Linkable
authority_brought a = if is_deletion a.leader then None else linkable_of a.key a.fields

-- ---- the way back

-- the index without the row under the number, which is let go
abbrev pub without_row : ℕ → Indexed → Indexed
without_row number x = option_map_or (λ forms. let_go (taken number forms) (taken_out (taken number forms) x)) (row_under number x) x

-- the index with a row put back, if there is one
abbrev pub with_row_back : List Key → Option Taken → Indexed → Indexed
with_row_back keys None x = x
with_row_back keys (Some row) x = put_back keys row x

-- the index with the row that was taken in place of the one under the number
abbrev pub restored : List Key → ℕ → Option Taken → Indexed → Indexed
restored keys number row x = with_row_back keys row (without_row number x)

-- the row that was taken, if there is one, can come back in place of the one under the number
abbrev pub CanRestore : ℕ → Option Taken → Indexed → Type 0
CanRestore number row x = IfSome row (λ r. (r.number ≡ number) × IsHeld r (without_row number x))

-- the row that was taken leads back to what the index was
pub record IsWayBack (keys : List Key) (number : ℕ) (row : Option Taken) (before now : Indexed) : Type 0 where
  pub held : CanRestore number row now
  pub restores : restored keys number row now ≡ before
  pub ordered : IsInOrder keys (without_row number now)
