-- What the index in numbers tells of the rows of authorities.
use Rattle.std.specs.Prelude.{◌≡◌, ◌≢◌, ℕ, ◌<◌, ◌≤◌, Bool, true, false, ◌&&◌, List, [], ◌∷◌, length, map, filter}
use Rattle.std.specs.List.{AllByRecursion, list_any}
use Rattle.std.specs.List.Sorted.{IsStrictlySortedBy}
use Rattle.std.specs.Option.{option_map_or}
use Rattle.marc_types.specs.declared.form.Form.{Form}
use Rattle.marc_types.specs.declared.key.Key.{Key}
use Rattle.marc_types.specs.Order.{key_cmp, same_form, same_key}
use Rattle.numbering.specs.Numbers.{is_known, number_of}
use Rattle.form_index.specs.Forms.{Forms, is_among}
use Rattle.form_index.specs.Index.{Indexed, Puts, row_under, taken}
use Rattle.form_index.specs.Order.{has, key_at}
use Rattle.form_index.specs.declared.among.Among.{Among}
use Rattle.form_index.specs.declared.among.Among.TheVariants.{All, Bare}
use Rattle.form_index.specs.declared.candidates.Candidates.{Candidates}
use Rattle.form_index.specs.declared.candidates.Candidates.TheVariants.{Established, SeeFrom, Nobody}
use Rattle.entry_record.specs.Authority.{Linkable, is_bare}
use Rattle.linking_laws.specs.Tables.{IndexRow, has_established, has_traced, index_row, keys_with}
use Rattle.catalogue_tables.specs.Following.{HasForms}

-- a row in numbers has the form as its heading, or as a see-from heading
abbrev pub is_headed : Among → ℕ → Forms → Bool
is_headed among form row = is_among among row && has form (row.established ∷ [])

-- the row has the form among its see-from forms
abbrev pub is_traced : Among → ℕ → Forms → Bool
is_traced among form row = is_among among row && has form row.see_from

-- the keys of rows, in their order
abbrev pub row_keys : List IndexRow → List Key
row_keys rows = map (λ r. r.key) rows

-- the rows of all authorities, or of those with a bare heading
abbrev pub rows_among : Among → List Linkable → List IndexRow
rows_among All all = map index_row all
rows_among Bare all = map index_row (filter is_bare all)

-- the rows under these numbers are those of the keys with the rows that pass
abbrev pub TellsKeys : (Forms → Bool) → (IndexRow → Bool) → List Key → Indexed → List IndexRow → Type 0
TellsKeys belongs passes keys x rows =
    (n : ℕ) → n < length keys → option_map_or belongs (row_under n x) false ≡ list_any (same_key (key_at keys n)) (keys_with passes rows)

-- no row belongs to it
abbrev pub IsBlank : (Forms → Bool) → Indexed → Type 0
IsBlank belongs x = (n : ℕ) → option_map_or belongs (row_under n x) false ≡ false

-- the rows stand in key order, and the index says of each key and form what they say
pub record TellsRows (among : Among) (names : List Form) (keys : List Key) (x : Indexed) (rows : List IndexRow) : Type 0 where
  pub ordered : IsStrictlySortedBy key_cmp (row_keys rows)
  pub known : AllByRecursion (λ key. is_known same_key keys key ≡ true) (row_keys rows)
  pub established : (form : Form) → TellsKeys (is_headed among (number_of same_form names form)) (has_established form) keys x rows
  pub see_from : (form : Form) → TellsKeys (is_traced among (number_of same_form names form)) (has_traced form) keys x rows
  pub named : (form : ℕ) → length names ≤ form → IsBlank (is_headed among form) x
  pub named_too : (form : ℕ) → length names ≤ form → IsBlank (is_traced among form) x

-- these are the numbers of keys, in the keys' order, and there is one at least
pub record ListsKeys (keys listed : List Key) (numbers : List ℕ) : Type 0 where
  pub are : map (key_at keys) numbers ≡ listed
  pub given : AllByRecursion (λ n. n < length keys) numbers
  pub some : numbers ≢ []

-- the keys that the rows give for a form, in key order: those with it as their heading; where there is none, those with it as a
-- see-from heading
abbrev pub IsTold : List Key → List IndexRow → Form → Candidates → Type 0
IsTold keys rows form (Established numbers) = ListsKeys keys (keys_with (has_established form) rows) numbers.now
IsTold keys rows form (SeeFrom numbers) = (keys_with (has_established form) rows ≡ []) × ListsKeys keys (keys_with (has_traced form) rows) numbers.now
IsTold keys rows form Nobody = (keys_with (has_established form) rows ≡ []) × (keys_with (has_traced form) rows ≡ [])

-- the key with the number has a row now, with these forms
pub record PutsAuthority (names : List Form) (number : ℕ) (established : Form) (see_from : List Form) (bare : Bool) (old new : Indexed) : Type 0 where
  pub row : Forms
  pub is : HasForms names established see_from bare row
  pub puts : Puts (taken number row) old new
