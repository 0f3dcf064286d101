-- Each row of a state behind a history of admitted entries can stand in a checkpoint.
use Rattle.std.proofs.Common.{◌≡◌, true, false, List, [], ◌∷◌, map, Option, Some, None, IfSome, refl, sym, subst}
use Rattle.std.specs.Prelude.{◌&&◌, ◌||◌, All, find}
use Rattle.std.specs.Option.{option_map_or}
use Rattle.std.proofs.lemmas.List.Elements.{All-from_recursion, recursion_from_All}
use Rattle.marc_types.specs.Order.{key_Decides}
use Rattle.marc_types.specs.declared.entry.Entry.{Entry}
use Rattle.marc_types.specs.declared.key.Class.{Class}
use Rattle.marc_types.specs.declared.key.Class.TheVariants.{Authority, Bibliographic}
use Rattle.marc_types.specs.declared.key.Key.{Key}
use Rattle.heading_fields.specs.Tables.{kind_of}
use Rattle.entry_record.specs.Authority.{Linkable, is_bare, is_kind}
use Rattle.entry_record.specs.Identity.{is_deletion}
use Rattle.entry_record.specs.History.{IsAdmitted}
use Rattle.catalogue_rules.specs.State.{KeptField, Row, State, fields_of, rows_of, row_linkable, linkable_authorities}
use Rattle.catalogue_rules.specs.Choice.{has_key}
use Rattle.catalogue_rules.specs.Settle.{state_of}
use Rattle.catalogue_rules.specs.Valid.{IsRow, IsLink, IsTied, IsValid}
use Rattle.catalogue_rules.proofs.Elements.{Each, each_weaker, each_both, each_map, find_found}
use Rattle.catalogue_rules.proofs.Proper.{proper_linkable, each_linkable}
use Rattle.kept_rows.specs.Standing.{IsStanding}
use Rattle.checkpoint.specs.Parts.{IsProperKey, IsProperTie}
use Rattle.restoring.specs.Drafts.{CanBeKept}
use Rattle.restoring.proofs.Carried.{IsOwn, own_after}

key_of_row : (class : Class) (row : Row) → IsRow class row → IsProperKey row.0
key_of_row class row r = rw (r.code, r.number) refl

-- ---- a link

abbrev AreProper : List Linkable → Type 0
AreProper all = Each (λ (c : Linkable). IsProperKey c.key) all

linkable_proper : (row : Row) (c : Linkable) → IsRow Authority row → row_linkable row ≡ Some c → IsProperKey c.key
linkable_proper row c r e = subst IsProperKey (sym (proper_linkable row.0 (fields_of row.1) c e).key_is) (key_of_row Authority row r)

linkables_proper : (s : State) → IsValid s → AreProper (linkable_authorities s)
linkables_proper s valid =
    each_linkable (IsRow Authority) (λ (c : Linkable). IsProperKey c.key) linkable_proper s.authorities (recursion_from_All (IsRow Authority) s.authorities valid.rows.0)

found_proper : (all : List Linkable) (class : Class) (h : KeptField) (key : Key) (o : Option Linkable) → AreProper all → find (has_key key) all ≡ o
    → option_map_or (λ c. (h.tie.whole || is_bare c) && is_kind c.kind (kind_of class h.field)) o false ≡ true → IsProperKey key
found_proper all class h key None proper found kept = cc
found_proper all class h key (Some c) proper found kept =
    let both = find_found (λ (d : Linkable). IsProperKey d.key) (has_key key) all c proper found in
    let same : key ≡ c.key = (key_Decides key c.key).0 both.1 in
    subst IsProperKey (sym same) both.0

linked_proper : (all : List Linkable) (class : Class) (h : KeptField) (o : Option Key) → AreProper all → IfSome o (IsLink all class h) → IfSome o IsProperKey
linked_proper all class h None proper link = tt
linked_proper all class h (Some key) proper link = found_proper all class h key (find (has_key key) all) proper refl link.kept

-- ---- a row

tie_proper : (all : List Linkable) (class : Class) → AreProper all → (h : KeptField) → IsTied all class h × IfSome h.tie.awaits IsProperKey → IsProperTie h.tie
tie_proper all class proper h both = record { linked = linked_proper all class h h.tie.key proper both.0.linked; awaited = both.1 }

-- what is told of a row
record IsTold (all : List Linkable) (class : Class) (row : Row) : Type 0 where
  row_is : IsRow class row
  tied : All (IsTied all class) row.1.fields
  own : IsOwn row

row_can : (all : List Linkable) (class : Class) → AreProper all → (row : Row) → IsTold all class row → CanBeKept row
row_can all class proper row told =
    let fields = row.1.fields in
    let P = λ (h : KeptField). IsTied all class h × IfSome h.tie.awaits IsProperKey in
    let both : Each P fields =
    each_both (IsTied all class) (λ (h : KeptField). IfSome h.tie.awaits IsProperKey) fields (recursion_from_All (IsTied all class) fields told.tied) told.own.awaits in
    record {
      key = key_of_row class row told.row_is;
      number = told.own.number;
      ties = All-from_recursion IsProperTie (map (λ (h : KeptField). h.tie) fields) (each_map P IsProperTie (λ (h : KeptField). h.tie) (tie_proper all class proper) fields both);
    }

told_each : (all : List Linkable) (class : Class) (rows : List Row) → Each (IsRow class) rows → Each (λ (row : Row). All (IsTied all class) row.1.fields) rows → Each IsOwn rows
    → Each (IsTold all class) rows
told_each all class [] a b c = tt
told_each all class (row ∷ rows) a b c = (record { row_is = a.0; tied = b.0; own = c.0 }, told_each all class rows a.1 b.1 c.1)

rows_can : (all : List Linkable) (class : Class) (rows : List Row) → AreProper all → All (IsRow class) rows → All (λ (row : Row). All (IsTied all class) row.1.fields) rows → Each IsOwn rows
    → All CanBeKept rows
rows_can all class rows proper a b own =
    All-from_recursion CanBeKept rows
    (each_weaker (IsTold all class) CanBeKept (row_can all class proper) rows
    (told_each all class rows (recursion_from_All (IsRow class) rows a) (recursion_from_All (λ (row : Row). All (IsTied all class) row.1.fields) rows b) own))

-- each row of either class
pub each_can_be_kept : (history : List Entry) (class : Class) → All IsAdmitted history → IsValid (state_of history) → All CanBeKept (rows_of class (state_of history))
each_can_be_kept history class admitted valid = at class where
  s : State
  s = state_of history

  at : (class : Class) → All CanBeKept (rows_of class (state_of history))
  at Authority = rows_can (linkable_authorities s) Authority s.authorities (linkables_proper s valid) valid.rows.0 valid.ties.0 (own_after history admitted).authorities
  at Bibliographic = rows_can (linkable_authorities s) Bibliographic s.bibliographic (linkables_proper s valid) valid.rows.1 valid.ties.1 (own_after history admitted).bibliographic

-- no state behind a history has a record that deletes
pub living : (rows : List Row) → Each IsOwn rows → All (λ (row : Row). is_deletion row.1.leader ≡ false) rows
living rows own =
    All-from_recursion (λ (row : Row). is_deletion row.1.leader ≡ false) rows
    (each_weaker IsOwn (λ (row : Row). is_deletion row.1.leader ≡ false) (λ row own. own.living) rows own)

-- a catalogue can begin with the state behind a history
pub history_stands : (history : List Entry) → All IsAdmitted history → IsValid (state_of history) → IsStanding (state_of history)
history_stands history admitted valid =
    let own = own_after history admitted in
    record { valid = valid; living = (living (state_of history).authorities own.authorities, living (state_of history).bibliographic own.bibliographic) }
