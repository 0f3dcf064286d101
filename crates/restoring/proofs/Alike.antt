-- When a state is that of rows: row by row, and each record by its written form and its ties.
use Rattle.std.proofs.Common.{◌≡◌, ◌∙◌, ◌↔◌, suc, Bool, true, false, cond, List, [], ◌∷◌, length, map, refl, sym, ap, subst, arith}
use Rattle.std.specs.Prelude.{All, filter}
use Rattle.std.proofs.lemmas.List.Elements.{All-nil, All-cons, All-head, All-tail}
use Rattle.std.specs.Bool.{Decides}
use Rattle.std.specs.Cmp.Lexicographic.{pointwise, pointwise_decides}
use Rattle.std.proofs.lemmas.Bool.{and_parts, and_from}
use Rattle.marc_types.specs.declared.entry.Tie.{Tie}
use Rattle.marc_types.specs.declared.field.Field.{Field}
use Rattle.marc_types.specs.declared.field.Field.TheVariants.{Control}
use Rattle.marc_types.specs.declared.field.Leader.{Leader}
use Rattle.marc_types.specs.declared.key.Class.{Class}
use Rattle.marc_types.specs.declared.key.Key.{Key}
use Rattle.marc_types.specs.Order.{same_key, key_Decides}
use Rattle.marc_types.specs.declared.record.Record.{Record}
use Rattle.iso2709_record.specs.Written.{fits, record_bytes}
use Rattle.written_record.specs.Records.{IsOfRecord, one_record}
use Rattle.catalogue_rules.specs.State.{KeptField, KeptRecord, Row, fields_of, kept_field, new_field, new_tie, tied}
use Rattle.catalogue_rules.specs.Sameness.{same_field, same_tie}
use Rattle.linking_laws.proofs.Sames.{kept_Decides}
use Rattle.numbered_store.specs.Kept.{kept_record}
use Rattle.numbered_store.specs.declared.kept.StoredRecord.{StoredRecord}
use Rattle.numbered_store.proofs.Tied.{kept_fields}
use Rattle.checkpoint.specs.Format.{ties_of}
use Rattle.kept_rows.specs.declared.row.KeptRow.{KeptRow}
use Rattle.kept_rows.specs.Rows.{is_of, row_of, rows_in}

length_mapped : {A B : Type 0} (f : A → B) (xs : List A) → length (map f xs) ≡ length xs
length_mapped f [] = refl
length_mapped f (x ∷ xs) = ap suc (length_mapped f xs)

-- ---- rows of a class

-- the first row is of the class, or is passed
pub own_first : (class : Class) (r : KeptRow) (rest : List KeptRow) → is_of class r ≡ true → rows_in class (r ∷ rest) ≡ row_of r ∷ rows_in class rest
unfolding rows_in
own_first class r rest e = ap (λ b. map row_of (cond b (r ∷ filter (is_of class) rest) (filter (is_of class) rest))) e

pub other_first : (class : Class) (r : KeptRow) (rest : List KeptRow) → is_of class r ≡ false → rows_in class (r ∷ rest) ≡ rows_in class rest
unfolding rows_in
other_first class r rest e = ap (λ b. map row_of (cond b (r ∷ filter (is_of class) rest) (filter (is_of class) rest))) e

pub none_first : (class : Class) (rows : List KeptRow) → length rows ≡ 0 → rows_in class rows ≡ []
unfolding rows_in
none_first class [] e = refl
none_first class (r ∷ rows) e = absurd (omega (arith, e))

-- ---- keys

pub key_is : (a b : Key) (told : Bool) → told ≡ same_key a b → told ≡ true → a ≡ b
key_is a b told is so = (key_Decides a b).0 (sym is ∙ so)

pub is_key : (a b : Key) (told : Bool) → told ≡ same_key a b → a ≡ b → told ≡ true
is_key a b told is same = is ∙ (key_Decides a b).1 same

-- ---- one record

pub fields_of_tied : (fields : List Field) (ties : List Tie) → length ties ≡ length fields → map (λ (h : KeptField). h.field) (tied fields ties) ≡ fields
fields_of_tied [] ties same = refl
fields_of_tied (f ∷ fields) [] same = absurd (omega (arith, same))
fields_of_tied (f ∷ fields) (t ∷ ties) same = ap (λ l. f ∷ l) (fields_of_tied fields ties (omega (arith, same)))

pub ties_of_tied : (fields : List Field) (ties : List Tie) → length ties ≡ length fields → map (λ (h : KeptField). h.tie) (tied fields ties) ≡ ties
ties_of_tied [] [] same = refl
ties_of_tied [] (t ∷ ties) same = absurd (omega (arith, same))
ties_of_tied (f ∷ fields) [] same = absurd (omega (arith, same))
ties_of_tied (f ∷ fields) (t ∷ ties) same = ap (λ l. t ∷ l) (ties_of_tied fields ties (omega (arith, same)))

tied_again : (hs : List KeptField) → tied (map (λ (h : KeptField). h.field) hs) (map (λ (h : KeptField). h.tie) hs) ≡ hs
tied_again [] = refl
tied_again (h ∷ hs) = ap (λ l. h ∷ l) (tied_again hs)

-- a record is that of its leader, its fields and its ties
pub record_of_parts : (k : KeptRecord) (leader : Leader) (fields : List Field) (ties : List Tie) → k.leader ≡ leader → fields_of k ≡ fields → ties_of k ≡ ties
    → k ≡ record { leader = leader; fields = tied fields ties }
record_of_parts k leader fields ties l f t =
    let same : k.fields ≡ tied fields ties = sym (tied_again k.fields) ∙ ap (λ fs. tied fs (ties_of k)) f ∙ ap (tied fields) t in
    λ i. record { leader = l i; fields = same i }

-- records of the same written form have the same leader and fields
pub same_written : (kept : StoredRecord) (rec : Record) → fits rec.fields ≡ true
    → record_bytes (kept_record kept).leader (fields_of (kept_record kept)) ≡ record_bytes rec.leader rec.fields
    → ((kept_record kept).leader ≡ rec.leader) × (fields_of (kept_record kept) ≡ rec.fields)
unfolding kept_record
same_written kept rec fit bytes =
    let own : IsOfRecord (record_bytes kept.written.leader kept.written.fields) = record { rec = kept.written; fitting = kept.fit; spelled = refl } in
    let spelled = ap (record_bytes kept.written.leader) (sym (kept_fields kept)) ∙ bytes in
    let other : IsOfRecord (record_bytes kept.written.leader kept.written.fields) = record { rec = rec; fitting = fit; spelled = spelled } in
    let same : kept.written ≡ rec = one_record _ own other in
    (ap (λ (r : Record). r.leader) same, kept_fields kept ∙ ap (λ (r : Record). r.fields) same)

-- ---- ties

some_field : Field
some_field = Control (record { a = 0; b = 0; c = 0 }) []

-- the test for equal ties decides whether they are the same
tie_Decides : (s t : Tie) → Decides (same_tie s t) (s ≡ t)
tie_Decides s t =
    let alike = (and_parts (same_field some_field some_field) (same_tie s s) ((kept_Decides (kept_field some_field s) (kept_field some_field s)).1 refl)).0 in
    let both = kept_Decides (kept_field some_field s) (kept_field some_field t) in (
      (λ h. ap (λ (k : KeptField). k.tie) (both.0 (and_from (same_field some_field some_field) (same_tie s t) alike h))),
      (λ e. (and_parts (same_field some_field some_field) (same_tie s t) (both.1 (ap (kept_field some_field) e))).1),
    )

-- and so does that for lists of them
pub own_same : (k : KeptRecord) (own ties : List Tie) (told : Bool) → own ≡ ties_of k → told ≡ pointwise same_tie own ties
    → (told ≡ true) ↔ (ties_of k ≡ ties)
own_same k own ties told is result =
    let d = pointwise_decides tie_Decides own ties in (
      (λ so. sym is ∙ d.0 (sym result ∙ so)),
      (λ same. result ∙ d.1 (is ∙ same)),
    )

-- ---- blank ties

new_ties : (fields : List Field) (ties : List Tie) → length ties ≡ length fields → All (λ t. t ≡ new_tie) ties → map (λ (h : KeptField). h.tie) (map new_field fields) ≡ ties
new_ties [] [] same all = refl
new_ties [] (t ∷ ties) same all = absurd (omega (arith, same))
new_ties (f ∷ fields) [] same all = absurd (omega (arith, same))
new_ties (f ∷ fields) (t ∷ ties) same all =
    ap (λ x. x ∷ map (λ (h : KeptField). h.tie) (map new_field fields)) (sym (All-head (λ t. t ≡ new_tie) t ties all))
    ∙ ap (λ l. t ∷ l) (new_ties fields ties (omega (arith, same)) (All-tail (λ t. t ≡ new_tie) t ties all))

all_new : (fields : List Field) (ties : List Tie) → map (λ (h : KeptField). h.tie) (map new_field fields) ≡ ties → All (λ t. t ≡ new_tie) ties
all_new fields ties is = subst (All (λ t. t ≡ new_tie)) is (each fields)
  where
    each : (fields : List Field) → All (λ t. t ≡ new_tie) (map (λ (h : KeptField). h.tie) (map new_field fields))
    each [] = All-nil (λ t. t ≡ new_tie)
    each (f ∷ fields) = All-cons (λ t. t ≡ new_tie) new_tie (map (λ (h : KeptField). h.tie) (map new_field fields)) refl (each fields)

-- where a record has no ties of its own, ties are its where each is blank
pub blank_same : (k : KeptRecord) (ties : List Tie) (told : Bool) → k.fields ≡ map new_field (fields_of k) → length ties ≡ length k.fields
    → ((told ≡ true) ↔ All (λ t. t ≡ new_tie) ties) → (told ≡ true) ↔ (ties_of k ≡ ties)
blank_same k ties told blank long is =
    let own : ties_of k ≡ map (λ (h : KeptField). h.tie) (map new_field (fields_of k)) = ap (map (λ (h : KeptField). h.tie)) blank in
    let counted : length ties ≡ length (fields_of k) = long ∙ sym (length_mapped (λ (h : KeptField). h.field) k.fields) in (
      (λ so. own ∙ new_ties (fields_of k) ties counted (is.0 so)),
      (λ same. is.1 (all_new (fields_of k) ties (sym own ∙ same))),
    )

-- ---- a record, and a row

-- a record of the same written form is that of a row where its ties are
pub alike_is : (kept : StoredRecord) (row : KeptRow) (ties : List Tie) (told : Bool) → ties ≡ row.ties → fits row.rec.fields ≡ true
    → record_bytes (kept_record kept).leader (fields_of (kept_record kept)) ≡ record_bytes row.rec.leader row.rec.fields
    → ((told ≡ true) ↔ (ties_of (kept_record kept) ≡ ties)) → (told ≡ true) ↔ (kept_record kept ≡ (row_of row).1)
alike_is kept row ties told lent fit bytes is =
    let parts = same_written kept row.rec fit bytes in (
      (λ so. record_of_parts (kept_record kept) row.rec.leader row.rec.fields row.ties parts.0 parts.1 (is.0 so ∙ lent)),
      (λ same. is.1 (ap ties_of same ∙ ties_of_tied row.rec.fields row.ties row.tied ∙ sym lent)),
    )

-- and as long
pub alike_long : (kept : StoredRecord) (row : KeptRow) → fits row.rec.fields ≡ true
    → record_bytes (kept_record kept).leader (fields_of (kept_record kept)) ≡ record_bytes row.rec.leader row.rec.fields
    → length row.ties ≡ length (kept_record kept).fields
alike_long kept row fit bytes =
    row.tied ∙ ap length (sym (same_written kept row.rec fit bytes).1) ∙ length_mapped (λ (h : KeptField). h.field) (kept_record kept).fields

-- the record of a row has its written form
pub row_bytes_are : (kept : StoredRecord) (row : KeptRow) → kept_record kept ≡ (row_of row).1
    → record_bytes (kept_record kept).leader (fields_of (kept_record kept)) ≡ record_bytes row.rec.leader row.rec.fields
row_bytes_are kept row same =
    ap (λ (k : KeptRecord). record_bytes k.leader (fields_of k)) same
    ∙ ap (record_bytes row.rec.leader) (fields_of_tied row.rec.fields row.ties row.tied)

pub pair_is : (row other : Row) → row.0 ≡ other.0 → row.1 ≡ other.1 → row ≡ other
pair_is row other k r = λ i. (k i, r i)
