-- A catalogue that has no entries, and its table.
use Rattle.std.proofs.Common.{◌≡◌, [], List, length, ◌∷◌, refl, ap, arith, length-append}
use Rattle.catalogue_core.specs.Catalogues.{Catalogued, all_entries}
use Rattle.marc_types.specs.declared.entry.Entry.{Entry}
use Rattle.heading_rows.specs.Listing.{empty_table, table_of}

none : (es : List Entry) → length es ≡ 0 → es ≡ []
none [] is = refl
none (e ∷ es) is = absurd (omega (arith, is))

pub no_history : (c : Catalogued) → length (all_entries c) ≡ 0 → c.staged ≡ [] → c.history ≡ []
no_history c is unstaged = none c.history (omega (arith, is, length-append c.history c.staged, ap length unstaged))

-- the table of no entries
pub no_rows : (entries : List Entry) → entries ≡ [] → empty_table ≡ table_of entries
unfolding table_of
no_rows [] is = refl
no_rows (e ∷ es) is = absurd (cc is)
