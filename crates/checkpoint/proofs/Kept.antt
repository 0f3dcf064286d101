-- A kept record's bytes, by its record and its ties.
use Rattle.std.proofs.Common.{◌≡◌, ◌∙◌, ℕ, suc, ◌+◌, ◌-◌, ◌<◌, ◌≤◌, List, [], ◌∷◌, ◌++◌, append-nil, append_assoc, length, map, refl, sym, ap, arith}
use Rattle.std.specs.List.{flat_map}
use Rattle.marc_types.specs.declared.entry.Tie.{Tie}
use Rattle.marc_types.specs.declared.field.Field.{Field}
use Rattle.iso2709_record.specs.Written.{record_bytes}
use Rattle.iso2709_record.proofs.Lengths.{length-record_bytes}
use Rattle.entry_record.proofs.Written.{fitting_length}
use Rattle.catalogue_rules.specs.State.{KeptField, KeptRecord, fields_of, new_field, new_tie, tied}
use Rattle.numbered_store.specs.Kept.{blanks, kept_record}
use Rattle.numbered_store.specs.declared.kept.StoredRecord.{StoredRecord}
use Rattle.numbered_store.proofs.Tied.{kept_bytes}
use Rattle.kept_rows.specs.declared.row.KeptRow.{KeptRow}
use Rattle.checkpoint.specs.Format.{tie_bytes, head_bytes, ties_of, row_bytes}
use Rattle.checkpoint.specs.Format.{kept_bytes as kept_row_bytes}

fields_back : (fields : List Field) (ties : List Tie) → length ties ≡ length fields → map (λ (h : KeptField). h.field) (tied fields ties) ≡ fields
fields_back [] ties same = refl
fields_back (f ∷ fields) [] same = absurd (omega (arith, same))
fields_back (f ∷ fields) (t ∷ ties) same = ap (λ l. f ∷ l) (fields_back fields ties (omega (arith, same)))

ties_back : (fields : List Field) (ties : List Tie) → length ties ≡ length fields → map (λ (h : KeptField). h.tie) (tied fields ties) ≡ ties
ties_back [] [] same = refl
ties_back [] (t ∷ ties) same = absurd (omega (arith, same))
ties_back (f ∷ fields) [] same = absurd (omega (arith, same))
ties_back (f ∷ fields) (t ∷ ties) same = ap (λ l. t ∷ l) (ties_back fields ties (omega (arith, same)))

-- the bytes of a row are those of its record, and of its ties
pub row_written : (r : KeptRow) → row_bytes r ≡ head_bytes r.class r.key.code (record_bytes r.rec.leader r.rec.fields) ++ flat_map tie_bytes r.ties
unfolding row_bytes kept_row_bytes
row_written r =
    let fields = fields_back r.rec.fields r.ties r.tied in
    let ties = ties_back r.rec.fields r.ties r.tied in
    λ i. head_bytes r.class r.key.code (record_bytes r.rec.leader (fields i)) ++ flat_map tie_bytes (ties i)

-- a kept record's written form is short
pub kept_short : (kept : StoredRecord) → length (record_bytes (kept_record kept).leader (fields_of (kept_record kept))) ≤ 99999
kept_short kept =
    omega (
      arith,
      ap length (kept_bytes kept),
      length-record_bytes kept.written.leader kept.written.fields,
      fitting_length kept.written.fields kept.fit,
    )

-- blank ties are the ties of a record that keeps none
blank_map : (fields : List Field) → blanks (length (map new_field fields)) ≡ map (λ (h : KeptField). h.tie) (map new_field fields)
blank_map [] = refl
blank_map (f ∷ fields) = ap (λ l. new_tie ∷ l) (blank_map fields)

pub blank_ties : (r : KeptRecord) (count : ℕ) → r.fields ≡ map new_field (fields_of r) → count ≡ length r.fields → blanks count ≡ ties_of r
blank_ties r count is counted =
    ap blanks (counted ∙ ap length is) ∙ blank_map (fields_of r) ∙ sym (ap (map (λ (h : KeptField). h.tie)) is)

blank_tie : tie_bytes new_tie ≡ 0 ∷ []
unfolding tie_bytes
blank_tie = refl

-- written one by one: so many are there, and the others are still to come
abbrev pub AreWritten : ℕ → ℕ → List ℕ → List ℕ → Type 0
AreWritten count done before out = out ++ flat_map tie_bytes (blanks (count - done)) ≡ before ++ flat_map tie_bytes (blanks count)

pub blank_first : (count : ℕ) (before : List ℕ) → AreWritten count 0 before before
blank_first count before = let all : count - 0 ≡ count = omega arith in ap (λ n. before ++ flat_map tie_bytes (blanks n)) all

pub blank_next : (count done : ℕ) (before out now : List ℕ) → done < count → AreWritten count done before out → now ≡ out ++ 0 ∷ [] → AreWritten count (done + 1) before now
blank_next count done before out now low so_far is =
    let rest : count - done ≡ suc (count - (done + 1)) = omega (arith, low) in
    ap (λ l. l ++ flat_map tie_bytes (blanks (count - (done + 1)))) is
    ∙ append_assoc out (0 ∷ []) (flat_map tie_bytes (blanks (count - (done + 1))))
    ∙ ap (λ l. out ++ (l ++ flat_map tie_bytes (blanks (count - (done + 1))))) (sym blank_tie)
    ∙ ap (λ n. out ++ flat_map tie_bytes (blanks n)) (sym rest)
    ∙ so_far

pub blank_done : (count done : ℕ) (before out : List ℕ) → count ≤ done → AreWritten count done before out → out ≡ before ++ flat_map tie_bytes (blanks count)
blank_done count done before out past so_far =
    let none : count - done ≡ 0 = omega (arith, past) in
    sym (append-nil out) ∙ ap (λ n. out ++ flat_map tie_bytes (blanks n)) (sym none) ∙ so_far
