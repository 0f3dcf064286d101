-- A checkpoint in memory, as it grows.
use Rattle.std.proofs.Common.{◌≡◌, ◌∙◌, ℕ, suc, ◌+◌, ◌<◌, ◌≤◌, ◌^◌, List, [], ◌∷◌, ◌++◌, length, map, refl, sym, ap, subst, arith, append_assoc, length-append}
use mathlib.Core.List.{map-append}
use Rattle.std.specs.Prelude.{All}
use Rattle.std.specs.Int.{w64, to_be_bytes}
use Rattle.std.specs.List.{flat_map}
use Rattle.std.proofs.lemmas.List.{append-nil}
use Rattle.std.proofs.lemmas.List.Elements.{All-nil, All-cons, All-append}
use Rattle.std.proofs.lemmas.Grind.{flat_map-append}
use Rattle.marc_types.specs.declared.key.Class.{Class}
use Rattle.marc_types.specs.declared.key.Key.{Key}
use Rattle.iso2709_record.specs.Texts.{HasUtf8Texts}
use Rattle.entry_record.specs.Identity.{control_number_of}
use Rattle.reading.proofs.Written.{written_reads}
use Rattle.catalogue_rules.specs.State.{KeptField, KeptRecord, Row, fields_of, tied}
use Rattle.numbered_store.specs.Kept.{kept_record, tied_record}
use Rattle.numbered_store.specs.declared.kept.StoredRecord.{StoredRecord}
use Rattle.numbered_store.proofs.Tied.{kept_fields}
use Rattle.kept_rows.specs.declared.row.KeptRow.{KeptRow}
use Rattle.kept_rows.specs.Rows.{row_of}
use Rattle.commit_journal.specs.Journal.{IsPayload}
use Rattle.commit_journal.specs.declared.format.TheConstants.{LARGEST_PAYLOAD}
use Rattle.checkpoint.specs.Format.{part_bytes, row_bytes, kept_bytes, head_bytes, ties_of}
use Rattle.checkpoint.specs.Parts.{IsPart, IsKeptRow, ArePartsOf}
use Rattle.checkpoint.specs.Points.{half_checkpoint}
use Rattle.checkpoint.specs.declared.part.Part.{Part}
use Rattle.checkpoint.specs.declared.part.Part.TheVariants.{Begin, Rows, End}
use Rattle.checkpoint.proofs.Bounds.{row_length}
use Rattle.restoring.specs.Drafts.{ClassRow, of_class, class_row_of, CanBeKept, IsDraft, IsWritten}

-- ---- lists

all_one : {X : Type 0} (P : X → Type 0) (x : X) → P x → All P (x ∷ [])
all_one P x p = All-cons P x [] p (All-nil P)

all_more : {X : Type 0} (P : X → Type 0) (xs : List X) (x : X) → All P xs → P x → All P (xs ++ x ∷ [])
all_more P xs x all p = All-append P xs (x ∷ []) all (all_one P x p)

one_chunk : (chunks : List (List KeptRow)) (rows : List KeptRow) → half_checkpoint (chunks ++ rows ∷ []) ≡ half_checkpoint chunks ++ Rows rows ∷ []
one_chunk chunks rows = ap (λ ps. Begin ∷ ps) (map-append (λ rs. Rows rs) chunks (rows ∷ []))

all_with : (chunks : List (List KeptRow)) (rows : List KeptRow) → flat_map (λ c. c) (chunks ++ rows ∷ []) ≡ flat_map (λ c. c) chunks ++ rows
all_with chunks rows = flat_map-append (λ rs. rs) chunks (rows ∷ []) ∙ ap (λ rs. flat_map (λ c. c) chunks ++ rs) (append-nil rows)

-- parts with one more
parts_more : (payloads : List (List ℕ)) (parts : List Part) (payload : List ℕ) (part : Part) → ArePartsOf payloads parts → part_bytes part ≡ payload → IsPart part
    → ArePartsOf (payloads ++ payload ∷ []) (parts ++ part ∷ [])
parts_more payloads parts payload part are is can = record {
  written = map-append part_bytes parts (part ∷ []) ∙ ap (λ ps. ps ++ part_bytes part ∷ []) are.written ∙ ap (λ p. payloads ++ p ∷ []) is;
  can_be = all_more IsPart parts part are.can_be can;
}

-- ---- a checkpoint that begins, and grows

pub none_filling : part_bytes (Rows []) ≡ 0x52 ∷ []
unfolding part_bytes
none_filling = refl

begin_is : part_bytes Begin ≡ 0x53 ∷ []
unfolding part_bytes
begin_is = refl

pub begun : (whole : List (List ℕ)) (filling begin : List ℕ) → whole ≡ begin ∷ [] → begin ≡ part_bytes Begin → filling ≡ part_bytes (Rows []) → IsDraft [] whole filling
begun whole filling begin w b o = record {
  chunks = [];
  last = [];
  rows_are = refl;
  whole_are = record { written = sym (w ∙ ap (λ p. p ∷ []) b); can_be = all_one IsPart Begin tt };
  open_is = sym o;
  can_be = All-nil IsKeptRow;
  fit = subst (All IsPayload) (sym w) (all_one IsPayload begin (omega (arith, ap length (b ∙ begin_is)), omega (arith, ap length (b ∙ begin_is))));
  short = omega (arith, ap length (o ∙ none_filling));
}

some_last : (last : List KeptRow) (filling : List ℕ) → part_bytes (Rows last) ≡ filling → 1 < length filling → 1 ≤ length last
some_last [] filling is long = absurd (omega (arith, ap length (sym none_filling ∙ is), long))
some_last (r ∷ last) filling is long = omega arith

pub closed : (rows : List ClassRow) (whole now : List (List ℕ)) (filling next : List ℕ) → 1 < length filling → now ≡ whole ++ filling ∷ [] → next ≡ part_bytes (Rows []) → IsDraft rows whole filling → IsDraft rows now next
closed rows whole now filling next long is empty d = record {
  chunks = d.chunks ++ d.last ∷ [];
  last = [];
  rows_are = ap (map class_row_of) (append-nil (flat_map (λ c. c) (d.chunks ++ d.last ∷ [])) ∙ all_with d.chunks d.last) ∙ d.rows_are;
  whole_are =
      subst (λ payloads. ArePartsOf payloads (half_checkpoint (d.chunks ++ d.last ∷ []))) (sym is)
      (subst (ArePartsOf (whole ++ filling ∷ [])) (sym (one_chunk d.chunks d.last))
      (parts_more whole (half_checkpoint d.chunks) filling (Rows d.last) d.whole_are d.open_is (some_last d.last filling d.open_is long, d.can_be)));
  open_is = sym empty;
  can_be = All-nil IsKeptRow;
  fit = subst (All IsPayload) (sym is) (all_more IsPayload whole filling d.fit (omega (arith, long), d.short));
  short = omega (arith, ap length (empty ∙ none_filling));
}

rows_bytes_more : (last : List KeptRow) (r : KeptRow) → part_bytes (Rows (last ++ r ∷ [])) ≡ part_bytes (Rows last) ++ row_bytes r
unfolding part_bytes
rows_bytes_more last r = ap (λ bytes. 0x52 ∷ bytes) (flat_map-append row_bytes last (r ∷ []) ∙ ap (λ bytes. flat_map row_bytes last ++ bytes) (append-nil (row_bytes r)))

row_added : (rows : List ClassRow) (whole : List (List ℕ)) (filling out : List ℕ) (r : KeptRow) → length filling + length (row_bytes r) ≤ LARGEST_PAYLOAD → IsKeptRow r → out ≡ filling ++ row_bytes r → IsDraft rows whole filling
    → IsDraft (rows ++ class_row_of r ∷ []) whole out
row_added rows whole filling out r room can is d = record {
  chunks = d.chunks;
  last = d.last ++ r ∷ [];
  rows_are =
      ap (map class_row_of) (sym (append_assoc (flat_map (λ c. c) d.chunks) d.last (r ∷ [])))
      ∙ map-append class_row_of (flat_map (λ c. c) d.chunks ++ d.last) (r ∷ [])
      ∙ ap (λ rs. rs ++ class_row_of r ∷ []) d.rows_are;
  whole_are = d.whole_are;
  open_is = rows_bytes_more d.last r ∙ ap (λ bytes. bytes ++ row_bytes r) d.open_is ∙ sym is;
  can_be = all_more IsKeptRow d.last r d.can_be can;
  fit = d.fit;
  short = omega (arith, room, ap length is, length-append filling (row_bytes r));
}

-- ---- a kept record as a row

tied_back : (hs : List KeptField) → tied (map (λ (h : KeptField). h.field) hs) (map (λ (h : KeptField). h.tie) hs) ≡ hs
tied_back [] = refl
tied_back (h ∷ hs) = ap (λ l. h ∷ l) (tied_back hs)

length_mapped : {A B : Type 0} (f : A → B) (xs : List A) → length (map f xs) ≡ length xs
length_mapped f [] = refl
length_mapped f (x ∷ xs) = ap suc (length_mapped f xs)

ties_long : (kept : StoredRecord) → length (ties_of (kept_record kept)) ≡ length kept.written.fields
ties_long kept =
    length_mapped (λ (h : KeptField). h.tie) (kept_record kept).fields ∙ sym (length_mapped (λ (h : KeptField). h.field) (kept_record kept).fields) ∙ ap length (kept_fields kept)

abbrev row_made : Class → Key → StoredRecord → KeptRow
row_made class key kept = record { class = class; key = key; rec = kept.written; ties = ties_of (kept_record kept); tied = ties_long kept }

leader_kept : (kept : StoredRecord) → kept.written.leader ≡ (kept_record kept).leader
unfolding kept_record
leader_kept kept = refl

made_record : (kept : StoredRecord) → tied_record kept.written.leader kept.written.fields (ties_of (kept_record kept)) ≡ kept_record kept
made_record kept =
    let fields = ap (λ fs. tied fs (ties_of (kept_record kept))) (sym (kept_fields kept)) ∙ tied_back (kept_record kept).fields in
    let leader = leader_kept kept in
    λ i. record { leader = leader i; fields = fields i }

made_row : (class : Class) (key : Key) (kept : StoredRecord) → row_of (row_made class key kept) ≡ (key, kept_record kept)
made_row class key kept = ap (λ (r : KeptRecord). (key, r)) (made_record kept)

made_can : (class : Class) (key : Key) (kept : StoredRecord) → CanBeKept (key, kept_record kept) → All HasUtf8Texts (fields_of (kept_record kept)) → IsKeptRow (row_made class key kept)
made_can class key kept can utf8 = record {
  key = can.key;
  number = can.number ∙ ap control_number_of (kept_fields kept);
  writable = record {
    fitting = kept.fit;
    reads = written_reads kept.written.leader kept.written.fields kept.written.valid kept.fit (subst (All HasUtf8Texts) (kept_fields kept) utf8);
  };
  ties = can.ties;
}

made_bytes : (class : Class) (key : Key) (kept : StoredRecord) → row_bytes (row_made class key kept) ≡ kept_bytes class (key, kept_record kept)
unfolding row_bytes
made_bytes class key kept = ap (kept_bytes class) (made_row class key kept)

-- it has room in a payload
pub made_short : (class : Class) (key : Key) (kept : StoredRecord) (row : List ℕ) → CanBeKept (key, kept_record kept) → All HasUtf8Texts (fields_of (kept_record kept))
    → row ≡ kept_bytes class (key, kept_record kept) → length row ≤ 1474636
made_short class key kept row can utf8 is =
    omega (arith, row_length (row_made class key kept) (made_can class key kept can utf8), ap length (made_bytes class key kept), ap length is)

-- a kept record comes behind the others
pub added : (rows : List ClassRow) (whole now : List (List ℕ)) (filling row out : List ℕ) (class : Class) (key : Key) (kept : StoredRecord) → length filling + length row ≤ LARGEST_PAYLOAD
    → row ≡ kept_bytes class (key, kept_record kept) → CanBeKept (key, kept_record kept) → All HasUtf8Texts (fields_of (kept_record kept)) → out ≡ filling ++ row → now ≡ whole
    → IsDraft rows whole filling → IsDraft (rows ++ (class, (key, kept_record kept)) ∷ []) now out
added rows whole now filling row out class key kept room bytes can utf8 is same d =
    let r = row_made class key kept in
    let row_is : row ≡ row_bytes r = bytes ∙ sym (made_bytes class key kept) in
    let one = row_added rows whole filling out r (omega (arith, room, ap length row_is)) (made_can class key kept can utf8) (is ∙ ap (λ bytes. filling ++ bytes) row_is) d in
    subst (λ ps. IsDraft (rows ++ (class, (key, kept_record kept)) ∷ []) ps out) (sym same)
    (subst (λ (row : Row). IsDraft (rows ++ (class, row) ∷ []) whole out) (made_row class key kept) one)

-- ---- the end

none_last : (last : List KeptRow) (filling : List ℕ) → part_bytes (Rows last) ≡ filling → length filling ≤ 1 → last ≡ []
unfolding part_bytes row_bytes kept_bytes head_bytes
none_last [] filling is short = refl
none_last (r ∷ last) filling is short = absurd (omega (arith, ap length is, short))

end_some : (entries count : ℕ) → length (part_bytes (End entries count)) ≡ 17
unfolding part_bytes
end_some entries count = omega (arith, length-append (to_be_bytes w64 entries) (to_be_bytes w64 count))

pub ended : (entries count : ℕ) (rows : List ClassRow) (whole payloads : List (List ℕ)) (filling end : List ℕ) → entries < 2 ^ 64 → count < 2 ^ 64 → length filling ≤ 1
    → payloads ≡ whole ++ end ∷ [] → end ≡ part_bytes (End entries count) → IsDraft rows whole filling → length rows ≡ count → IsWritten entries rows payloads
ended entries count rows whole payloads filling end few fits short is ends d counted = record {
  chunks = d.chunks;
  rows_are =
      ap (map class_row_of) (sym (append-nil (flat_map (λ c. c) d.chunks)) ∙ ap (λ last. flat_map (λ c. c) d.chunks ++ last) (sym (none_last d.last filling d.open_is short))) ∙ d.rows_are;
  are =
      subst (λ ps. ArePartsOf ps (half_checkpoint d.chunks ++ End entries (length rows) ∷ [])) (sym is)
      (parts_more whole (half_checkpoint d.chunks) end (End entries (length rows)) d.whole_are (ap (λ n. part_bytes (End entries n)) counted ∙ sym ends) (few, subst (λ n. n < 2 ^ 64) (sym counted) fits));
  fit =
      subst (All IsPayload) (sym is)
      (all_more IsPayload whole end d.fit (omega (arith, ap length ends, end_some entries count), omega (arith, ap length ends, end_some entries count)));
}

-- ---- the rows of a class, one after the other

-- these rows of a class are still to come, and with them the checkpoint has those before and all of the class
pub record IsAdding (rows : List ClassRow) (class : Class) (rest all : List Row) (whole : List (List ℕ)) (filling : List ℕ) : Type 0 where
  pub done : List ClassRow
  pub split : done ++ of_class class rest ≡ rows ++ of_class class all
  pub draft : IsDraft done whole filling

pub adding_begun : (rows : List ClassRow) (class : Class) (rest all : List Row) (whole : List (List ℕ)) (filling : List ℕ) → rest ≡ all → IsDraft rows whole filling → IsAdding rows class rest all whole filling
adding_begun rows class rest all whole filling is draft = record { done = rows; split = ap (λ rs. rows ++ of_class class rs) is; draft = draft }

pub adding_next : (rows : List ClassRow) (class : Class) (rest others all : List Row) (row : Row) (whole now : List (List ℕ)) (filling out : List ℕ) → IsAdding rows class rest all whole filling → rest ≡ row ∷ others
    → ((done : List ClassRow) → IsDraft done whole filling → IsDraft (done ++ (class, row) ∷ []) now out) → IsAdding rows class others all now out
adding_next rows class rest others all row whole now filling out adding is more = record {
  done = adding.done ++ (class, row) ∷ [];
  split = append_assoc adding.done ((class, row) ∷ []) (of_class class others) ∙ ap (λ rs. adding.done ++ of_class class rs) (sym is) ∙ adding.split;
  draft = more adding.done adding.draft;
}

pub adding_done : (rows : List ClassRow) (class : Class) (rest all : List Row) (whole : List (List ℕ)) (filling : List ℕ) → IsAdding rows class rest all whole filling → rest ≡ []
    → IsDraft (rows ++ of_class class all) whole filling
adding_done rows class rest all whole filling adding is =
    subst (λ rs. IsDraft rs whole filling) (sym (append-nil adding.done) ∙ ap (λ rs. adding.done ++ of_class class rs) (sym is) ∙ adding.split) adding.draft

pub first_can : (rest others : List Row) (row : Row) → rest ≡ row ∷ others → All CanBeKept rest → CanBeKept row × All CanBeKept others
first_can rest others row is all =
    let same = subst (All CanBeKept) is all in
    (same 0 row (omega arith), λ k d within. same (suc k) d (omega (arith, within)))
