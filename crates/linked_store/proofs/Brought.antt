-- What an entry brings: its record with new ties, and what its fields' seats are to wait for.
use Rattle.std.proofs.Common.{◌≡◌, ◌∙◌, sym, ap, refl, subst, ℕ, ◌+◌, ◌<◌, ◌≤◌, arith, Bool, true, false, cond, List, [], ◌∷◌, ◌++◌, length, Option, Some, None, if◌then◌else◌}
use Rattle.std.specs.Prelude.{◌==◌, IsSomeAnd, nat_lt, slice_get}
use Rattle.std.specs.Cmp.{unsigned_Decides}
use Rattle.std.proofs.lemmas.Bool.{ltb-false, ltb-true}
use Rattle.std.proofs.lemmas.Option.{slice_get_past}
use mathlib.Core.Bool.{false≢true}
use Rattle.marc_types.specs.declared.entry.Entry.{Entry}
use Rattle.marc_types.specs.declared.field.Field.{Field}
use Rattle.marc_types.specs.declared.key.Class.{Class}
use Rattle.marc_types.specs.declared.key.Class.TheVariants.{Authority, Bibliographic}
use Rattle.marc_types.specs.declared.key.Key.{Key}
use Rattle.marc_types.specs.Order.{key_Decides, same_key}
use Rattle.numbering.specs.Numbers.{IsNumberOf, Keeps}
use Rattle.numbering.proofs.Numberlaws.{thing_at}
use Rattle.numbered_store.proofs.Shelving.{low_number}
use Rattle.catalogue_tables.specs.Seam.{KeyLists, KeysKeep, keys_in}
use Rattle.form_index.specs.Order.{key_at}
use Rattle.entry_record.specs.Identity.{is_deletion}
use Rattle.catalogue_rules.specs.Settle.{arrival_of}
use Rattle.iso2709_record.proofs.Lengths.{record_bounds}
use Rattle.catalogue_rules.specs.State.{KeptField, KeptRecord, new_field}
use Rattle.linked_store.specs.Fielding.{IsRowFor}
use Rattle.linked_store.specs.Placing.{AreApart, AreRowsOf, IsRowAt, fields_brought, noted_rows, row_of_field}
use Rattle.linked_store.specs.Turns.{row_lent}
use Rattle.std.specs.Borrow.{Bor}
use Rattle.std.specs.Option.{option_copied, option_map}
use Rattle.linked_store.specs.declared.seating.FieldRow.{FieldRow}
use Rattle.linked_store.specs.declared.turns.LentRow.{LentRow}
use Rattle.linked_store.specs.declared.turns.Row.{Row}
use Rattle.linked_store.proofs.Agreed.{key_there}
use Rattle.linked_store.proofs.Seated.{fails, numbers_kept}

-- ---- how many fields

-- the record that is there has no more fields than the one that was found
pub most_found : (found : KeptRecord) (o : Option KeptRecord) (n : ℕ) → Some found ≡ o → n ≡ length found.fields → (r : KeptRecord) → o ≡ Some r → length r.fields ≤ n
most_found found o n there count r is =
    let same : found ≡ r = some_same found r (there ∙ is) in
    let long : length found.fields ≡ length r.fields = ap (λ (x : KeptRecord). length x.fields) same in
    omega (arith, count, long)
  where
    some_same : (x y : KeptRecord) → Some x ≡ Some y → x ≡ y
    some_same x y e = cc

pub none_found : (o : Option KeptRecord) → None ≡ o → (n : ℕ) (r : KeptRecord) → o ≡ Some r → length r.fields ≤ n
none_found None found n r is = cc
none_found (Some x) found n r is = cc

-- ---- rows, while keys get numbers

row_for_kept : (class : Class) (h : KeptField) (old new : List Key) (row : Option Row) → Keeps same_key old new → IsRowFor class h old row → IsRowFor class h new row
row_for_kept class h old new None keeps is = is
row_for_kept class h old new (Some row) keeps is = record { named = is.named; wants = is.wants; numbers = numbers_kept same_key old new is.named row.keys keeps is.numbers }

row_at_kept : (class : Class) (o : Option Field) (old new : List Key) (row : Option Row) → Keeps same_key old new → IsRowAt class old o row → IsRowAt class new o row
row_at_kept class None old new row keeps is = is
row_at_kept class (Some field) old new row keeps is = row_for_kept class (new_field field) old new row keeps is

-- how far the rows of fields have been found: those of the fields below one
pub record AreRowsBelow (class : Class) (keys : List Key) (fields : List Field) (end : ℕ) (rows : List FieldRow) : Type 0 where
  pub own : (field : ℕ) → field < end → IsRowAt class keys (slice_get fields field) (row_of_field field rows)
  pub past : (field : ℕ) → end ≤ field → row_of_field field rows ≡ None
  pub apart : AreApart rows

pub no_rows_yet : (class : Class) (keys : List Key) (fields : List Field) (rows : List FieldRow) → rows ≡ [] → AreRowsBelow class keys fields 0 rows
no_rows_yet class keys fields rows none =
    subst (λ (l : List FieldRow). AreRowsBelow class keys fields 0 l) (sym none)
    (record { own = λ field low. absurd (omega (arith, low)); past = λ field high. refl; apart = tt })

-- another field's row stays
other_row : (one : ℕ) (row : Option LentRow) (field : ℕ) (rows : List FieldRow) → (one == field) ≡ false → row_of_field field (rows ++ noted_rows one row) ≡ row_of_field field rows
other_row one None field [] apart = refl
other_row one (Some row) field [] apart = ap (λ b. cond b (Some (row_lent row)) None) apart
other_row one row field (x ∷ rows) apart = ap (λ (o : Option Row). cond (x.field == field) (Some (row_lent x.row)) o) (other_row one row field rows apart)

-- the row that was noted
noted_row : (one : ℕ) (row : Option LentRow) (rows : List FieldRow) → row_of_field one rows ≡ None → row_of_field one (rows ++ noted_rows one row) ≡ option_map row_lent row
noted_row one None [] none = refl
noted_row one (Some row) [] none = ap (λ b. cond b (Some (row_lent row)) None) ((unsigned_Decides one one).1 refl)
noted_row one row (x ∷ rows) none = by (x.field == one) refl (λ none. noted_row one row rows none)
  where
    by : (b : Bool) → (x.field == one) ≡ b → (row_of_field one rows ≡ None → row_of_field one (rows ++ noted_rows one row) ≡ option_map row_lent row)
        → cond (x.field == one) (Some (row_lent x.row)) (row_of_field one (rows ++ noted_rows one row)) ≡ option_map row_lent row
    by true e later = let there : Some (row_lent x.row) ≡ None = sym (ap (λ b. cond b (Some (row_lent x.row)) (row_of_field one rows)) e) ∙ none in cc
    by false e later =
        ap (λ b. cond b (Some (row_lent x.row)) (row_of_field one (rows ++ noted_rows one row))) e
        ∙ later (sym (ap (λ b. cond b (Some (row_lent x.row)) (row_of_field one rows)) e) ∙ none)

-- no field has two rows then
apart_noted : (one : ℕ) (row : Option LentRow) (rows : List FieldRow) → row_of_field one rows ≡ None → AreApart rows → AreApart (rows ++ noted_rows one row)
apart_noted one None [] none apart = tt
apart_noted one (Some row) [] none apart = (refl, tt)
apart_noted one row (x ∷ rows) none apart = by (x.field == one) refl (λ none. apart_noted one row rows none apart.1)
  where
    by : (b : Bool) → (x.field == one) ≡ b → (row_of_field one rows ≡ None → AreApart (rows ++ noted_rows one row)) → AreApart (x ∷ (rows ++ noted_rows one row))
    by true e later = let there : Some (row_lent x.row) ≡ None = sym (ap (λ b. cond b (Some (row_lent x.row)) (row_of_field one rows)) e) ∙ none in cc
    by false e later =
        let back : (one == x.field) ≡ false =
        fails (one == x.field) (λ same. false≢true (sym e ∙ (unsigned_Decides x.field one).1 (sym ((unsigned_Decides one x.field).0 same)))) in (
          other_row one row x.field rows back ∙ apart.0,
          later (sym (ap (λ b. cond b (Some (row_lent x.row)) (row_of_field one rows)) e) ∙ none),
        )

below_last : (field end : ℕ) → field < end + 1 → (end ≡ field → ⊥) → field < end
below_last field end low apart = at (nat_lt field end) refl
  where
    at : (b : Bool) → nat_lt field end ≡ b → field < end
    at true e = ltb-true field end e
    at false e = let high = ltb-false field end e in absurd (apart (omega (arith, high, low)))

pub rows_more : (class : Class) (fields : List Field) (old new : List Key) (end : ℕ) (rows more : List FieldRow) (row : Option LentRow) → Keeps same_key old new
    → more ≡ rows ++ noted_rows end row → AreRowsBelow class old fields end rows → IsRowAt class new (slice_get fields end) (option_map row_lent row) → AreRowsBelow class new fields (end + 1) more
rows_more class fields old new end rows more row keeps noted below is =
    subst (λ (l : List FieldRow). AreRowsBelow class new fields (end + 1) l) (sym noted) (record {
      own = λ field low. by field low (end == field) refl;
      past = λ field high. other_row end row field rows (unlike field (λ same. omega (arith, same, high))) ∙ below.past field (omega (arith, high));
      apart = apart_noted end row rows (below.past end (omega arith)) below.apart;
    })
  where
    unlike : (field : ℕ) → (end ≡ field → ⊥) → (end == field) ≡ false
    unlike field apart = fails (end == field) (λ same. apart ((unsigned_Decides end field).0 same))

    by : (field : ℕ) → field < end + 1 → (b : Bool) → (end == field) ≡ b → IsRowAt class new (slice_get fields field) (row_of_field field (rows ++ noted_rows end row))
    by field low true e =
        subst (λ (n : ℕ). IsRowAt class new (slice_get fields n) (row_of_field n (rows ++ noted_rows end row))) ((unsigned_Decides end field).0 e)
        (subst (λ (r : Option Row). IsRowAt class new (slice_get fields end) r) (sym (noted_row end row rows (below.past end (omega arith)))) is)
    by field low false e =
        subst (λ (r : Option Row). IsRowAt class new (slice_get fields field) r) (sym (other_row end row field rows e))
        (row_at_kept class (slice_get fields field) old new (row_of_field field rows) keeps (below.own field (below_last field end low (λ same. false≢true (sym e ∙ (unsigned_Decides end field).1 same)))))

-- the rows of all fields
pub rows_found : (class : Class) (keys : List Key) (fields : List Field) (end : ℕ) (rows : List FieldRow) → length fields ≤ end → AreRowsBelow class keys fields end rows
    → AreRowsOf class keys fields rows
rows_found class keys fields end rows long below = record { own = λ field. by field (nat_lt field end) refl; apart = below.apart }
  where
    by : (field : ℕ) (b : Bool) → nat_lt field end ≡ b → IsRowAt class keys (slice_get fields field) (row_of_field field rows)
    by field true e = below.own field (ltb-true field end e)
    by field false e =
        let high = ltb-false field end e in
        subst (λ (o : Option Field). IsRowAt class keys o (row_of_field field rows)) (sym (slice_get_past fields field (omega (arith, long, high)))) (below.past field high)

-- ---- the number of the entry's key

pub number_key : (keys : List Key) (key : Key) (number : ℕ) → IsNumberOf same_key keys key number → key_at keys number ≡ key
number_key keys key number of =
    let low : number < length keys = low_number keys key number of in
    let found = subst (λ (n : ℕ). IsSomeAnd (slice_get keys n) (λ k. same_key key k ≡ true)) (sym of.is) (thing_at same_key keys key of.known) in
    sym ((key_Decides key (key_at keys number)).0 (subst (λ (o : Option Key). IsSomeAnd o (λ k. same_key key k ≡ true)) (key_there keys number low) found))

pub number_kept : (class : Class) (old new : KeyLists) (key : Key) (number : ℕ) → KeysKeep old new → IsNumberOf same_key (keys_in class old) key number → IsNumberOf same_key (keys_in class new) key number
number_kept Authority old new key number keep of = record { known = keep.authorities.known key of.known; is = of.is ∙ sym (keep.authorities.same_number key of.known) }
number_kept Bibliographic old new key number keep of = record { known = keep.bibliographic.known key of.known; is = of.is ∙ sym (keep.bibliographic.same_number key of.known) }

-- ---- how many fields an entry brings

brought_short : (b : Bool) (fields : List Field) (n : ℕ) → length fields ≤ n → length (if b then [] else fields) ≤ n
brought_short true fields n low = omega arith
brought_short false fields n low = low

pub brought_few : (e : Entry) → length (fields_brought (arrival_of e)) ≤ 8331
brought_few e = brought_short (is_deletion e.rec.leader) e.rec.fields 8331 ((record_bounds e.rec.leader e.rec.fields e.rec.valid).0)

-- ---- a number's key

pub key_found : (keys : List Key) (number : ℕ) (found : Option (Bor Key)) (one : Bor Key) → found ≡ Some one → option_copied found ≡ slice_get keys number → number < length keys
    → one.now ≡ key_at keys number
key_found keys number found one is at low = same_some one.now (key_at keys number) (sym (ap option_copied is) ∙ at ∙ key_there keys number low)
  where
    same_some : (x y : Key) → Some x ≡ Some y → x ≡ y
    same_some x y e = cc
