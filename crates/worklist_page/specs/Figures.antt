-- The headings of a catalogue, counted by library and by kind. A library is the code of a record's key. The rules are this project's own.
use Rattle.std.specs.Prelude.{ℕ, List, [], fold, map, Option, option_map, option_to_list, unwrap_or}
use Rattle.std.specs.List.{flat_map}
use Rattle.std.specs.Map.{lookup}
use Rattle.std.specs.Option.{option_map_or}
use Rattle.std.specs.BTreeMap.{insert_entry, is_at}
use Rattle.std.specs.Cmp.Lexicographic.{slice_cmp}
use Rattle.std.specs.declared.cmp.Ordering.{Ordering}
use Rattle.std.specs.Ordering.{nat_cmp}
use Rattle.marc_types.specs.declared.key.Class.{Class}
use Rattle.marc_types.specs.declared.key.Class.TheVariants.{Authority, Bibliographic}
use Rattle.marc_types.specs.declared.key.Key.{Key}
use Rattle.marc_types.specs.declared.form.Kind.{Kind}
use Rattle.marc_types.specs.Order.{kind_rank}
use Rattle.heading_fields.specs.Tables.{kind_of}
use Rattle.entry_record.specs.Authority.{Linkable}
use Rattle.catalogue_rules.specs.State.{KeptField, Row, State, linkable_authorities, rows_of}
use Rattle.catalogue_rules.specs.Store.{field_at}
use Rattle.catalogue_tables.specs.declared.standing.Standing.{Standing}
use Rattle.catalogue_tables.specs.Stands.{field_standing}
use Rattle.worklist_page.specs.declared.shares.Shares.{Shares}
use Rattle.worklist_page.specs.Shares.{no_shares, with_standing}

-- what is counted of a field: its record's code, the kind of its tag, and how it stands
pub record Mark : Type 0 where
  pub code : List ℕ
  pub kind : Option Kind
  pub standing : Standing

-- that of a field of a record
abbrev pub mark_of : List Linkable → Class → Key → KeptField → Mark
mark_of all class key h = record { code = key.code; kind = kind_of class h.field; standing = field_standing all class h }

-- those of a row's fields
abbrev pub row_marks : List Linkable → Class → Row → List Mark
row_marks all class row = map (mark_of all class row.0) row.1.fields

-- that of the field at a place of a row, if there is one
abbrev pub marks_at : List Linkable → Class → Row → ℕ → List Mark
marks_at all class row place = option_to_list (option_map (mark_of all class row.0) (field_at place row.1))

-- those of rows
abbrev pub marks_in : List Linkable → Class → List Row → List Mark
marks_in all class rows = flat_map (row_marks all class) rows

-- what is counted under a name; under no other is
abbrev pub shares_at : {K : Type 0} → (K → K → Ordering) → List (K × Shares) → K → Shares
shares_at cmp rows name = unwrap_or (lookup (is_at (cmp name)) rows) no_shares

-- one more field is counted under a name; names stay in order
abbrev pub tally : {K : Type 0} → (K → K → Ordering) → Standing → List (K × Shares) → K → List (K × Shares)
tally cmp standing rows name = insert_entry cmp rows name (with_standing standing (shares_at cmp rows name))

-- the codes of libraries are in the order of their bytes
abbrev pub code_cmp : List ℕ → List ℕ → Ordering
code_cmp = slice_cmp nat_cmp

-- All headings, and those under each library's code and under each kind's place in the order of kinds.
pub record Figured : Type 0 where
  pub totals : Shares
  pub libraries : List (List ℕ × Shares)
  pub kinds : List (ℕ × Shares)

-- nothing counted
abbrev pub no_figures : Figured
no_figures = record { totals = no_shares; libraries = []; kinds = [] }

-- one more field is counted under a kind, where it has one
abbrev pub tally_kind : Option Kind → Standing → List (ℕ × Shares) → List (ℕ × Shares)
tally_kind kind standing rows = option_map_or (λ k. tally nat_cmp standing rows (kind_rank k)) kind rows

-- one more field is counted
unfoldable pub with_mark : Figured → Mark → Figured
with_mark f m = record {
  totals = with_standing m.standing f.totals;
  libraries = tally code_cmp m.standing f.libraries m.code;
  kinds = tally_kind m.kind m.standing f.kinds;
}

-- the fields of rows are counted
abbrev pub with_rows : List Linkable → Class → Figured → List Row → Figured
with_rows all class f rows = fold with_mark f (marks_in all class rows)

-- the fields of a class's records are counted
abbrev pub with_class : State → Figured → Class → Figured
with_class s f class = with_rows (linkable_authorities s) class f (rows_of class s)

-- the figures of a state
unfoldable pub figures_of : State → Figured
figures_of s = with_class s (with_class s no_figures Authority) Bibliographic
