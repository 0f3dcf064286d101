-- What clauses see of the index: its rows by key number, and the list of each form.
use Rattle.std.specs.Prelude.{◌≡◌, ℕ, ◌==◌, true, false, List, [], Option, Some, None, is_none, slice_index_or, if◌then◌else◌}
use Rattle.std.specs.Option.{option_map_or}
use Rattle.marc_types.specs.declared.key.Key.{Key}
use Rattle.form_index.specs.Order.{Ascends, has}
use Rattle.numbering.specs.declared.pages.Pages.{Pages}
use Rattle.form_index.specs.Paged.{flat}
use Rattle.form_index.specs.Trimmed.{trimmed, with_at}
use Rattle.form_index.specs.Listed.{InOrder, IsShort, Listed, Stepped, each_of, list_at, released, entered, withdrawn}
use Rattle.form_index.specs.Forms.{Forms, belongs, forms_by}
use Rattle.form_index.specs.declared.among.Among.{Among}
use Rattle.form_index.specs.declared.among.Among.TheVariants.{All, Bare}
use Rattle.form_index.specs.declared.among.By.{By}
use Rattle.form_index.specs.declared.among.By.TheVariants.{Established, SeeFrom}

-- the lists of established and of see-from forms, by form number
pub record Headed : Type 0 where
  pub established : List Listed
  pub see_from : List Listed

-- the lists of all rows, and those of the bare ones
pub record Listing : Type 0 where
  pub all : Headed
  pub bare : Headed

-- the rows by key number, and the lists of their forms
pub record Indexed : Type 0 where
  pub rows : List (Option Forms)
  pub lists : Listing

-- an index of no row
abbrev pub no_index : Indexed
no_index = record { rows = []; lists = record { all = record { established = []; see_from = [] }; bare = record { established = []; see_from = [] } } }

-- a row that was taken out, under the number of its key
pub record Taken : Type 0 where
  pub number : ℕ
  pub forms : Forms

-- ---- rows

-- the row under a number, where there is one
abbrev pub slot_at : List (Option Forms) → ℕ → Option Forms
slot_at rows number = slice_index_or rows number None

-- the rows that stand in pages
abbrev pub rows_in : Pages (Option Forms) → List (Option Forms)
rows_in pages = flat None pages

-- the row under a key's number
abbrev pub row_under : ℕ → Indexed → Option Forms
row_under number x = slot_at x.rows number

-- the rows with this one under the number, or with none
abbrev pub with_slot : ℕ → Option Forms → List (Option Forms) → List (Option Forms)
with_slot number slot rows = trimmed is_none (with_at None number slot rows)

-- one number has this row, or none, and the others have what they had
abbrev pub ExchangesRow : ℕ → Option Forms → Indexed → Indexed → Type 0
ExchangesRow number row old new = (n : ℕ) → row_under n new ≡ (if n == number then row else row_under n old)

-- ---- lists

-- lists of no form
abbrev pub no_headed : Headed
no_headed = record { established = []; see_from = [] }

-- the lists of all rows, or those of the bare ones
abbrev pub headed_among : Among → Listing → Headed
headed_among All l = l.all
headed_among Bare l = l.bare

-- the lists of established forms, or those of see-from forms
abbrev pub headed_by : By → Headed → List Listed
headed_by Established h = h.established
headed_by SeeFrom h = h.see_from

-- the lists of one of the four families
abbrev pub lists_by : Among → By → Listing → List Listed
lists_by among by l = headed_by by (headed_among among l)

-- the list of a form in one of the four families
abbrev pub listed : Among → By → ℕ → Listing → Listed
listed among by form l = list_at (lists_by among by l) form

-- a step at the lists of a row's forms, established and see-from
abbrev pub headed_step : Forms → (Listed → Listed) → Headed → Headed
headed_step row step h = record {
  established = each_of (forms_by Established row) step h.established;
  see_from = each_of (forms_by SeeFrom row) step h.see_from;
}

-- a step at each list to which the row belongs
abbrev pub listing_step : Forms → (Listed → Listed) → Listing → Listing
listing_step row step l = record { all = headed_step row step l.all; bare = if row.bare then headed_step row step l.bare else l.bare }

-- the lists to which the row belongs took the step, and the others are as they were
abbrev pub Took : Forms → (Listed → Listed) → Listing → Listing → Type 0
Took row step old new =
    (among : Among) (by : By) (form : ℕ) →
    listed among by form new ≡ (if belongs among by form row then step (listed among by form old) else listed among by form old)

-- the same of the lists of some rows
pub record TookHeaded (row : Forms) (step : Listed → Listed) (old new : Headed) : Type 0 where
  pub established : Stepped (forms_by Established row) step old.established new.established
  pub see_from : Stepped (forms_by SeeFrom row) step old.see_from new.see_from

-- no blank list stands at an end
pub record IsShortHeaded (h : Headed) : Type 0 where
  pub established : IsShort h.established
  pub see_from : IsShort h.see_from

-- each list is in key order
pub record HeadedInOrder (keys : List Key) (h : Headed) : Type 0 where
  pub established : InOrder keys h.established
  pub see_from : InOrder keys h.see_from

-- no blank list stands at an end of the four families
abbrev pub IsShortListing : Listing → Type 0
IsShortListing l = (among : Among) (by : By) → IsShort (lists_by among by l)

-- each list of the four families is in key order
abbrev pub ListingInOrder : List Key → Listing → Type 0
ListingInOrder keys l = (among : Among) (by : By) (form : ℕ) → Ascends keys (listed among by form l).live

-- each list of the index is in the order of these keys
abbrev pub IsInOrder : List Key → Indexed → Type 0
IsInOrder keys x = ListingInOrder keys x.lists

-- ---- changes

-- the index without a row that stands under the number; the lists hold its places
abbrev pub taken_out : Taken → Indexed → Indexed
taken_out row x = record { rows = with_slot row.number None x.rows; lists = listing_step row.forms (withdrawn row.number) x.lists }

-- the index with a row that was taken out of it
abbrev pub put_back : List Key → Taken → Indexed → Indexed
put_back keys row x = record { rows = with_slot row.number (Some row.forms) x.rows; lists = listing_step row.forms (entered keys row.number) x.lists }

-- the index without the places that it held for a row
abbrev pub let_go : Taken → Indexed → Indexed
let_go row x = record { rows = x.rows; lists = listing_step row.forms (released row.number) x.lists }

-- each list to which the row belongs holds a place for it
abbrev pub IsHeld : Taken → Indexed → Type 0
IsHeld row x =
    (among : Among) (by : By) (form : ℕ) →
    belongs among by form row.forms ≡ true → has row.number (listed among by form x.lists).held ≡ true

-- a row was taken out: others stay, and putting it back gives the old value
pub record TakesOut (keys : List Key) (row : Taken) (old new : Indexed) : Type 0 where
  pub is : new ≡ taken_out row old
  pub rows : ExchangesRow row.number None old new
  pub held : IsHeld row new
  pub undone : put_back keys row new ≡ old

-- a row was put under a number that had none: others stay, and taking it and letting it go gives the old value
pub record Puts (row : Taken) (old new : Indexed) : Type 0 where
  pub rows : ExchangesRow row.number (Some row.forms) old new
  pub undone : let_go row (taken_out row new) ≡ old

-- a row was put back: others stay
pub record PutsBack (keys : List Key) (row : Taken) (old new : Indexed) : Type 0 where
  pub is : new ≡ put_back keys row old
  pub rows : ExchangesRow row.number (Some row.forms) old new

-- a row that was taken out, under its number
abbrev pub taken : ℕ → Forms → Taken
taken number forms = record { number = number; forms = forms }

-- ---- candidates

-- the numbers of the rows that belong to a form's list, each once, in the order of any keys by which the index is in order
pub record IsScan (among : Among) (by : By) (form : ℕ) (x : Indexed) (numbers : List ℕ) : Type 0 where
  pub members : (n : ℕ) → has n numbers ≡ option_map_or (belongs among by form) (row_under n x) false
  pub ordered : (keys : List Key) → IsInOrder keys x → Ascends keys numbers

-- no row belongs to the form's list
abbrev pub IsBlankScan : Among → By → ℕ → Indexed → Type 0
IsBlankScan among by form x = (n : ℕ) → option_map_or (belongs among by form) (row_under n x) false ≡ false
