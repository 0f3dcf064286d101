-- What a copy shows after one more entry, and what its pages are.
use Rattle.std.proofs.Common.{◌≡◌, ℕ, List, [], ◌∷◌, ◌++◌, length, refl, ap}
use Rattle.std.specs.Prelude.{fold}
use Rattle.marc_types.specs.declared.form.Form.{Form}
use Rattle.marc_types.specs.declared.entry.Entry.{Entry}
use Rattle.heading_rows.specs.Rows.{page_of}
use Rattle.heading_rows.specs.Listing.{empty_table, page_at, table_of, take_entry}
use Rattle.heading_rows.proofs.Tables.{rows_are_of_state, upto_is_length}
use Rattle.browse_readers.specs.Browsing.{page_after}

pub fold_last : {A X : Type 0} (f : A → X → A) (a : A) (xs : List X) (x : X) → fold f a (xs ++ x ∷ []) ≡ f (fold f a xs) x
fold_last f a [] x = refl
fold_last f a (y ∷ xs) x = fold_last f (f a y) xs x

-- the table of a list with one more entry
pub table_more : (entries : List Entry) (e : Entry) → table_of (entries ++ e ∷ []) ≡ take_entry (table_of entries) e
unfolding table_of
table_more entries e = fold_last take_entry empty_table entries e

-- a page of a list's table is a page of the rows of the state behind the list
pub page_is : (entries : List Entry) (from : Form) (most : ℕ) → page_at (table_of entries) from most ≡ page_after entries from most
unfolding page_after
page_is entries from most =
    let upto : (table_of entries).upto ≡ length entries = upto_is_length entries in
    let rows = ap (λ l. page_of l from most) (rows_are_of_state entries) in
    λ i. record { upto = upto i; rows = rows i }
