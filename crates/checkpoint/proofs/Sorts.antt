-- Which of the three sorts a payload is.
use Rattle.std.proofs.Common.{◌≡◌, ◌≢◌, ◌∙◌, ℕ, suc, ◌^◌, ◌<◌, ◌≤◌, List, [], ◌∷◌, ◌++◌, length, refl, sym, ap, subst, arith, length-append}
use Rattle.std.specs.Int.{w64, to_be_bytes}
use Rattle.std.specs.List.{All, flat_map}
use Rattle.std.proofs.lemmas.List.{append-nil}
use Rattle.kept_rows.specs.declared.row.KeptRow.{KeptRow}
use Rattle.checkpoint.specs.Format.{row_bytes, part_bytes}
use Rattle.checkpoint.specs.Parts.{IsKeptRow, IsPart, IsPartOf}
use Rattle.checkpoint.specs.Reading.{AreRows, AreNoRows, IsNoPart}
use Rattle.checkpoint.specs.declared.part.Part.{Part}
use Rattle.checkpoint.specs.declared.part.Part.TheVariants.{Begin, Rows, End}
use Rattle.checkpoint.specs.declared.fault.PartFault.{PartFault}
use Rattle.checkpoint.specs.declared.fault.PartFault.TheVariants.{BadPart, NoMemory}
use Rattle.entry_record.proofs.Spelled.{long_once}
use Rattle.checkpoint.proofs.Once.{cons_first, cons_others, row_spelled, row_some}

empty_list : (bytes : List ℕ) → length bytes ≡ 0 → bytes ≡ []
empty_list [] none = refl
empty_list (b ∷ bytes) none = absurd (omega (arith, none))

pub begin_there : (bytes : List ℕ) → length bytes ≡ 0 → IsPartOf (0x53 ∷ bytes) Begin
unfolding part_bytes
begin_there bytes none = record { written = ap (λ xs. 0x53 ∷ xs) (sym (empty_list bytes none)); can_be = tt }

pub no_begin : (bytes : List ℕ) → 1 ≤ length bytes → IsNoPart (0x53 ∷ bytes) BadPart
unfolding part_bytes
no_begin bytes some Begin is = omega (arith, some, ap length (cons_others _ _ _ _ is.written))
no_begin bytes some (Rows rows) is = omega (arith, cons_first 0x52 0x53 _ _ is.written)
no_begin bytes some (End entries count) is = omega (arith, cons_first 0x45 0x53 _ _ is.written)

-- kept records that have bytes are one or more
rows_some : (bytes : List ℕ) (rows : List KeptRow) → 1 ≤ length bytes → flat_map row_bytes rows ≡ bytes → 1 ≤ length rows
rows_some bytes [] some is = omega (arith, some, ap length is)
rows_some bytes (r ∷ rows) some is = omega arith

pub rows_there : (bytes : List ℕ) (rows : List KeptRow) → 1 ≤ length bytes → AreRows bytes rows → IsPartOf (0x52 ∷ bytes) (Rows rows)
unfolding part_bytes
rows_there bytes rows some are = record {
  written = ap (λ xs. 0x52 ∷ xs) are.written;
  can_be = (rows_some bytes rows some are.written, are.can_be);
}

rows_of_nothing : (bytes : List ℕ) (rows : List KeptRow) → 1 ≤ length rows → flat_map row_bytes rows ≡ bytes → length bytes ≡ 0 → ⊥
rows_of_nothing bytes [] some is none = absurd (omega (arith, some))
rows_of_nothing bytes (r ∷ rows) some is none = omega (arith, none, ap length is, row_some r (flat_map row_bytes rows))

pub no_rows_there : (bytes : List ℕ) → length bytes ≡ 0 → IsNoPart (0x52 ∷ bytes) BadPart
unfolding part_bytes
no_rows_there bytes none Begin is = omega (arith, cons_first 0x53 0x52 _ _ is.written)
no_rows_there bytes none (Rows rows) is = rows_of_nothing bytes rows is.can_be.0 (cons_others _ _ _ _ is.written) none
no_rows_there bytes none (End entries count) is = omega (arith, cons_first 0x45 0x52 _ _ is.written)

no_such_rows : (bytes : List ℕ) (part : Part) → AreNoRows bytes BadPart → IsPartOf (0x52 ∷ bytes) part → ⊥
unfolding part_bytes
no_such_rows bytes Begin none is = omega (arith, cons_first 0x53 0x52 _ _ is.written)
no_such_rows bytes (Rows rows) none is = none rows (record { written = cons_others _ _ _ _ is.written; can_be = is.can_be.1 })
no_such_rows bytes (End entries count) none is = omega (arith, cons_first 0x45 0x52 _ _ is.written)

pub not_rows : (bytes : List ℕ) (fault : PartFault) → AreNoRows bytes fault → IsNoPart (0x52 ∷ bytes) fault
not_rows bytes BadPart none = λ part is. no_such_rows bytes part none is
not_rows bytes NoMemory none = tt

pub two_there : (bytes behind rest : List ℕ) (n m : ℕ) → bytes ≡ to_be_bytes w64 n ++ behind → behind ≡ to_be_bytes w64 m ++ rest → length rest ≡ 0
    → to_be_bytes w64 n ++ to_be_bytes w64 m ≡ bytes
two_there bytes behind rest n m first second end =
    ap (λ xs. to_be_bytes w64 n ++ xs) (sym (append-nil (to_be_bytes w64 m)) ∙ ap (λ xs. to_be_bytes w64 m ++ xs) (sym (empty_list rest end)) ∙ sym second) ∙ sym first

pub no_first : (bytes : List ℕ) → length bytes < 8 → length bytes ≢ 16
no_first bytes short = λ is. omega (arith, short, is)

pub no_second : (bytes behind : List ℕ) (n : ℕ) → bytes ≡ to_be_bytes w64 n ++ behind → length behind < 8 → length bytes ≢ 16
no_second bytes behind n first short = λ is. omega (arith, short, is, ap length first, length-append (to_be_bytes w64 n) behind)

pub no_third : (bytes behind rest : List ℕ) (n m : ℕ) → bytes ≡ to_be_bytes w64 n ++ behind → behind ≡ to_be_bytes w64 m ++ rest → 1 ≤ length rest → length bytes ≢ 16
no_third bytes behind rest n m first second some = λ is.
    omega (arith, some, is, ap length first, ap length second, length-append (to_be_bytes w64 n) behind, length-append (to_be_bytes w64 m) rest)

pub end_there : (bytes : List ℕ) (entries count : ℕ) → entries < 2 ^ 64 → count < 2 ^ 64 → to_be_bytes w64 entries ++ to_be_bytes w64 count ≡ bytes
    → IsPartOf (0x45 ∷ bytes) (End entries count)
unfolding part_bytes
end_there bytes entries count p q is = record { written = ap (λ xs. 0x45 ∷ xs) is; can_be = (p, q) }

pub no_end : (bytes : List ℕ) → length bytes ≢ 16 → IsNoPart (0x45 ∷ bytes) BadPart
unfolding part_bytes
no_end bytes other Begin is = omega (arith, cons_first 0x53 0x45 _ _ is.written)
no_end bytes other (Rows rows) is = omega (arith, cons_first 0x52 0x45 _ _ is.written)
no_end bytes other (End entries count) is =
    other (ap length (sym (cons_others _ _ _ _ is.written)) ∙ length-append (to_be_bytes w64 entries) (to_be_bytes w64 count))

pub no_part_there : (payload : List ℕ) → length payload ≡ 0 → IsNoPart payload BadPart
unfolding part_bytes
no_part_there payload none Begin is = omega (arith, none, ap length is.written)
no_part_there payload none (Rows rows) is = omega (arith, none, ap length is.written)
no_part_there payload none (End entries count) is = omega (arith, none, ap length is.written)

pub no_sort : (payload behind : List ℕ) (byte : ℕ) → payload ≡ byte ∷ behind → byte ≢ 0x53 → byte ≢ 0x52 → byte ≢ 0x45 → IsNoPart payload BadPart
unfolding part_bytes
no_sort payload behind byte split a b c Begin is = a (sym (cons_first _ _ _ _ (is.written ∙ split)))
no_sort payload behind byte split a b c (Rows rows) is = b (sym (cons_first _ _ _ _ (is.written ∙ split)))
no_sort payload behind byte split a b c (End entries count) is = c (sym (cons_first _ _ _ _ (is.written ∙ split)))

pub none_behind : (payload behind : List ℕ) (byte named : ℕ) (fault : PartFault) → payload ≡ byte ∷ behind → byte ≡ named → IsNoPart (named ∷ behind) fault
    → IsNoPart payload fault
none_behind payload behind byte named fault split is here = subst (λ xs. IsNoPart xs fault) (ap (λ b. b ∷ behind) (sym is) ∙ sym split) here

-- kept records that are the same bytes are the same
rows_once : (xs ys : List KeptRow) → All IsKeptRow xs → All IsKeptRow ys → flat_map row_bytes xs ≡ flat_map row_bytes ys → xs ≡ ys
rows_once [] [] p q e = refl
rows_once [] (y ∷ ys) p q e = absurd (omega (arith, ap length e, row_some y (flat_map row_bytes ys)))
rows_once (x ∷ xs) [] p q e = absurd (omega (arith, ap length e, row_some x (flat_map row_bytes xs)))
rows_once (x ∷ xs) (y ∷ ys) p q e =
    let first = row_spelled.once x y (flat_map row_bytes xs) (flat_map row_bytes ys) (p 0 x (omega arith)) (q 0 y (omega arith)) e in
    let others = rows_once xs ys (λ k d within. p (suc k) d (omega (arith, within))) (λ k d within. q (suc k) d (omega (arith, within))) first.1 in
    λ i. first.0 i ∷ others i

end_once : (n m a b : ℕ) → n < 2 ^ 64 → m < 2 ^ 64 → a < 2 ^ 64 → b < 2 ^ 64 → to_be_bytes w64 n ++ to_be_bytes w64 m ≡ to_be_bytes w64 a ++ to_be_bytes w64 b
    → (n ≡ a) × (m ≡ b)
end_once n m a b p q r s e =
    let first = long_once n a _ _ p r e in
    let second = long_once m b [] [] q s (ap (λ xs. xs ++ []) first.1) in
    (first.0, second.0)

parts_once : (one other : Part) → IsPart one → IsPart other → part_bytes one ≡ part_bytes other → one ≡ other
unfolding part_bytes
parts_once Begin Begin p q e = refl
parts_once Begin (Rows rows) p q e = absurd (omega (arith, cons_first 0x53 0x52 _ _ e))
parts_once Begin (End entries count) p q e = absurd (omega (arith, cons_first 0x53 0x45 _ _ e))
parts_once (Rows rows) Begin p q e = absurd (omega (arith, cons_first 0x52 0x53 _ _ e))
parts_once (Rows rows) (Rows others) p q e = ap (λ rs. Rows rs) (rows_once rows others p.1 q.1 (cons_others _ _ _ _ e))
parts_once (Rows rows) (End entries count) p q e = absurd (omega (arith, cons_first 0x52 0x45 _ _ e))
parts_once (End entries count) Begin p q e = absurd (omega (arith, cons_first 0x45 0x53 _ _ e))
parts_once (End entries count) (Rows rows) p q e = absurd (omega (arith, cons_first 0x45 0x52 _ _ e))
parts_once (End n m) (End a b) p q e =
    let same = end_once n m a b p.0 p.1 q.0 q.1 (cons_others _ _ _ _ e) in
    λ i. End (same.0 i) (same.1 i)

-- a payload is one part
pub part_once : (payload : List ℕ) (one other : Part) → IsPartOf payload one → IsPartOf payload other → one ≡ other
part_once payload one other p q = parts_once one other p.can_be q.can_be (p.written ∙ sym q.written)
