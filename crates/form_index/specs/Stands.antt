-- How the rows and the lists of the index agree.
use Rattle.std.specs.Prelude.{◌≡◌, ℕ, Bool, true, false, List, Option}
use Rattle.std.specs.Option.{option_map_or}
use Rattle.form_index.specs.Order.{has}
use Rattle.form_index.specs.Forms.{Forms, belongs}
use Rattle.form_index.specs.Index.{IsShortListing, Listing, listed, slot_at}
use Rattle.form_index.specs.declared.among.Among.{Among}
use Rattle.form_index.specs.declared.among.Among.TheVariants.{All}
use Rattle.form_index.specs.declared.among.By.{By}
use Rattle.form_index.specs.declared.among.By.TheVariants.{Established}

-- each list has the numbers of the rows that belong to it
abbrev pub Fits : List (Option Forms) → Listing → Type 0
Fits rows lists =
    (among : Among) (by : By) (form n : ℕ) →
    has n (listed among by form lists).live ≡ option_map_or (belongs among by form) (slot_at rows n) false

-- a number for which a place is held is reached: it has a slot
abbrev pub HasSlots : (ℕ → Bool) → Listing → Type 0
HasSlots reached lists = (form n : ℕ) → has n (listed All Established form lists).held ≡ true → reached n ≡ true

-- the rows, the numbers that are reached, and the lists
pub record Stands (rows : List (Option Forms)) (reached : ℕ → Bool) (lists : Listing) : Type 0 where
  pub fits : Fits rows lists
  pub slots : HasSlots reached lists
  pub short : IsShortListing lists
