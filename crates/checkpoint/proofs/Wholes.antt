-- Which checkpoints are whole: what is read of parts, and what half a checkpoint leaves of it.
use Rattle.std.proofs.Common.{◌≡◌, ◌∙◌, ℕ, zero, suc, Bool, true, false, ◌&&◌, List, [], ◌∷◌, ◌++◌, length, map, Option, Some, None, is_some, refl, sym, ap, subst, arith, append_assoc, eq-eqb, eqb-true}
use mathlib.Core.List.{map-append}
use Rattle.std.specs.Prelude.{◌==◌, fold, if◌then◌else◌}
use Rattle.std.specs.Option.{option_or, option_map}
use Rattle.std.specs.List.{All, flat_map}
use Rattle.std.proofs.lemmas.List.{append-nil}
use Rattle.std.proofs.lemmas.List.Sums.{fold-append}
use Rattle.std.proofs.lemmas.Grind.{flat_map-append}
use Rattle.kept_rows.specs.declared.row.KeptRow.{KeptRow}
use Rattle.kept_rows.specs.Rows.{are_in_order}
use Rattle.checkpoint.specs.Points.{point_of, whole_point, nothing_yet, read_on, read_all, last_point, half_checkpoint, IsCheckpoint, HasCheckpoint}
use Rattle.checkpoint.specs.declared.part.Part.{Part}
use Rattle.checkpoint.specs.declared.part.Part.TheVariants.{Begin, Rows, End}
use Rattle.checkpoint.specs.declared.point.Point.{Point}
use Rattle.checkpoint.specs.declared.point.SoFar.{SoFar}
use Rattle.checkpoint.proofs.Once.{cons_first, cons_others}

with_begun : List KeptRow → Option Point → SoFar
with_begun rows last = record { begun = Some rows; last = last }

none_is_some : {X : Type 0} (x : X) → None ≡ Some x → ⊥
none_is_some x e = cc

abbrev all_of : List (List KeptRow) → List KeptRow
all_of chunks = flat_map (λ rows. rows) chunks

-- the records of further payloads come behind those that are there
rows_read : (chunks : List (List KeptRow)) (got : List KeptRow) (last : Option Point)
    → fold read_on (with_begun got last) (map (λ rows. Rows rows) chunks) ≡ with_begun (got ++ all_of chunks) last
unfolding read_on with_begun
rows_read [] got last = ap (λ xs. with_begun xs last) (sym (append-nil got))
rows_read (rows ∷ chunks) got last =
    rows_read chunks (got ++ rows) last ∙ ap (λ xs. with_begun xs last) (append_assoc got rows (all_of chunks))

half_read : (so_far : SoFar) (chunks : List (List KeptRow))
    → fold read_on so_far (half_checkpoint chunks) ≡ with_begun (all_of chunks) so_far.last
unfolding read_on with_begun
half_read so_far chunks = rows_read chunks [] so_far.last

counted : (entries : ℕ) (rows : List KeptRow) → are_in_order rows ≡ true → whole_point entries (length rows) (Some rows) ≡ Some (point_of entries rows)
counted entries rows order =
    ap (λ b. if b && are_in_order rows then Some (point_of entries rows) else None) (eq-eqb (length rows) (length rows) refl)
    ∙ ap (λ b. if b then Some (point_of entries rows) else None) order

ended : (entries : ℕ) (rows : List KeptRow) (last : Option Point) → are_in_order rows ≡ true
    → (read_on (with_begun rows last) (End entries (length rows))).last ≡ Some (point_of entries rows)
unfolding read_on with_begun
ended entries rows last order = ap (λ p. option_or p last) (counted entries rows order)

-- a whole checkpoint is read, whatever stands before it
pub whole_read : (before parts : List Part) (entries : ℕ) (rows : List KeptRow) → IsCheckpoint entries rows parts → last_point (before ++ parts) ≡ Some (point_of entries rows)
whole_read before parts entries rows h =
    let end = End entries (length rows) ∷ [] in
    ap (λ ps. last_point (before ++ ps)) h.parts_are
    ∙ ap (λ (s : SoFar). s.last)
    (fold-append read_on nothing_yet before (half_checkpoint h.chunks ++ end)
    ∙ fold-append read_on (read_all before) (half_checkpoint h.chunks) end
    ∙ ap (λ s. read_on s (End entries (length rows))) (half_read (read_all before) h.chunks ∙ ap (λ xs. with_begun xs (last_point before)) h.rows_are))
    ∙ ended entries rows (last_point before) h.in_order

-- parts that leave the last whole checkpoint as it is
abbrev Keeps : Part → Type 0
Keeps part = (so_far : SoFar) → (read_on so_far part).last ≡ so_far.last

begin_keeps : Keeps Begin
unfolding read_on
begin_keeps so_far = refl

rows_keep : (rows : List KeptRow) → Keeps (Rows rows)
unfolding read_on
rows_keep rows so_far = refl

chunks_keep : (chunks : List (List KeptRow)) → All Keeps (map (λ rows. Rows rows) chunks)
chunks_keep [] k d within = absurd (omega (arith, within))
chunks_keep (rows ∷ chunks) zero d within = rows_keep rows
chunks_keep (rows ∷ chunks) (suc k) d within = chunks_keep chunks k d (omega (arith, within))

half_keeps : (chunks : List (List KeptRow)) → All Keeps (half_checkpoint chunks)
half_keeps chunks zero d within = begin_keeps
half_keeps chunks (suc k) d within = chunks_keep chunks k d (omega (arith, within))

-- a front of parts that is not all of them, where all but the last keep it
front_keeps : (xs front rest : List Part) (e : Part) (so_far : SoFar) → All Keeps xs → xs ++ e ∷ [] ≡ front ++ rest → (rest ≡ [] → ⊥)
    → (fold read_on so_far front).last ≡ so_far.last
front_keeps xs [] rest e so_far keep is some = refl
front_keeps [] (p ∷ []) rest e so_far keep is some = absurd (some (sym (cons_others _ _ _ _ is)))
front_keeps [] (p ∷ (q ∷ front)) rest e so_far keep is some = let empty = cons_others _ _ _ _ is in cc
front_keeps (x ∷ xs) (p ∷ front) rest e so_far keep is some =
    let first : Keeps p = subst Keeps (cons_first _ _ _ _ is) (keep 0 x (omega arith)) in
    front_keeps xs front rest e (read_on so_far p) (λ k d within. keep (suc k) d (omega (arith, within))) (cons_others _ _ _ _ is) some
    ∙ first so_far

-- a front of a checkpoint that is not all of it counts for nothing
pub half_counts_nothing : (before front rest parts : List Part) (entries : ℕ) (rows : List KeptRow) → IsCheckpoint entries rows parts → parts ≡ front ++ rest → (rest ≡ [] → ⊥)
    → last_point (before ++ front) ≡ last_point before
half_counts_nothing before front rest parts entries rows h split some =
    ap (λ (s : SoFar). s.last) (fold-append read_on nothing_yet before front)
    ∙ front_keeps (half_checkpoint h.chunks) front rest (End entries (length rows)) (read_all before) (half_keeps h.chunks) (sym h.parts_are ∙ split) some

-- what is known of parts: where a checkpoint is begun, it is at their end, and the last whole one stands among them
record IsKnown (parts : List Part) (so_far : SoFar) : Type 0 where
  pub begun : (rows : List KeptRow) → so_far.begun ≡ Some rows
      → (before : List Part) × (chunks : List (List KeptRow)) × (parts ≡ before ++ half_checkpoint chunks) × (all_of chunks ≡ rows)
  pub last : (point : Point) → so_far.last ≡ Some point → HasCheckpoint parts point.entries point.rows

more_behind : (parts : List Part) (part : Part) (entries : ℕ) (rows : List KeptRow) → HasCheckpoint parts entries rows → HasCheckpoint (parts ++ part ∷ []) entries rows
more_behind parts part entries rows h = record {
  before = h.before;
  checkpoint = h.checkpoint;
  behind = h.behind ++ part ∷ [];
  split =
      ap (λ ps. ps ++ part ∷ []) h.split
      ∙ append_assoc h.before (h.checkpoint ++ h.behind) (part ∷ [])
      ∙ ap (λ ps. h.before ++ ps) (append_assoc h.checkpoint h.behind (part ∷ []));
  whole = h.whole;
}

one_chunk : (chunks : List (List KeptRow)) (rows : List KeptRow) → half_checkpoint (chunks ++ rows ∷ []) ≡ half_checkpoint chunks ++ Rows rows ∷ []
one_chunk chunks rows = ap (λ ps. Begin ∷ ps) (map-append (λ rs. Rows rs) chunks (rows ∷ []))

all_with : (chunks : List (List KeptRow)) (rows : List KeptRow) → all_of (chunks ++ rows ∷ []) ≡ all_of chunks ++ rows
all_with chunks rows = flat_map-append (λ rs. rs) chunks (rows ∷ []) ∙ ap (λ rs. all_of chunks ++ rs) (append-nil rows)

some_is : {X : Type 0} (x y : X) → Some x ≡ Some y → x ≡ y
some_is x y e = cc

begin_known : (parts : List Part) (so_far : SoFar) → IsKnown parts so_far → IsKnown (parts ++ Begin ∷ []) (read_on so_far Begin)
unfolding read_on
begin_known parts so_far known = record {
  begun = λ rows is. (parts, [], refl, some_is [] rows is);
  last = λ point is. more_behind parts Begin point.entries point.rows (known.last point is);
}

rows_begun : (parts : List Part) (rows : List KeptRow) (begun : Option (List KeptRow)) (all : List KeptRow)
    → ((got : List KeptRow) → begun ≡ Some got → (before : List Part) × (chunks : List (List KeptRow)) × (parts ≡ before ++ half_checkpoint chunks) × (all_of chunks ≡ got))
    → option_map (λ before. before ++ rows) begun ≡ Some all
    → (before : List Part) × (chunks : List (List KeptRow)) × (parts ++ Rows rows ∷ [] ≡ before ++ half_checkpoint chunks) × (all_of chunks ≡ all)
rows_begun parts rows None all known is = absurd (none_is_some all is)
rows_begun parts rows (Some got) all known is =
    let h = known got refl in (
      h.0,
      h.1 ++ rows ∷ [],
      ap (λ ps. ps ++ Rows rows ∷ []) h.2 ∙ append_assoc h.0 (half_checkpoint h.1) (Rows rows ∷ []) ∙ ap (λ ps. h.0 ++ ps) (sym (one_chunk h.1 rows)),
      all_with h.1 rows ∙ ap (λ rs. rs ++ rows) h.3 ∙ some_is (got ++ rows) all is,
    )

rows_known : (parts : List Part) (rows : List KeptRow) (so_far : SoFar) → IsKnown parts so_far → IsKnown (parts ++ Rows rows ∷ []) (read_on so_far (Rows rows))
unfolding read_on
rows_known parts rows so_far known = record {
  begun = λ all is. rows_begun parts rows so_far.begun all known.begun is;
  last = λ point is. more_behind parts (Rows rows) point.entries point.rows (known.last point is);
}

-- the end of a checkpoint makes it whole where its records are so many and in order
end_whole : (parts before : List Part) (chunks : List (List KeptRow)) (entries count : ℕ) (rows : List KeptRow) → parts ≡ before ++ half_checkpoint chunks → all_of chunks ≡ rows
    → length rows ≡ count → are_in_order rows ≡ true → HasCheckpoint (parts ++ End entries count ∷ []) entries rows
end_whole parts before chunks entries count rows split all number order = record {
  before = before;
  checkpoint = half_checkpoint chunks ++ End entries count ∷ [];
  behind = [];
  split =
      ap (λ ps. ps ++ End entries count ∷ []) split
      ∙ append_assoc before (half_checkpoint chunks) (End entries count ∷ [])
      ∙ ap (λ ps. before ++ ps) (sym (append-nil (half_checkpoint chunks ++ End entries count ∷ [])));
  whole = record {
    chunks = chunks;
    rows_are = all;
    in_order = order;
    parts_are = ap (λ n. half_checkpoint chunks ++ End entries n ∷ []) (sym number);
  };
}

end_last : (parts : List Part) (entries count : ℕ) (begun : Option (List KeptRow)) (last : Option Point) (point : Point)
    → ((rows : List KeptRow) → begun ≡ Some rows → (before : List Part) × (chunks : List (List KeptRow)) × (parts ≡ before ++ half_checkpoint chunks) × (all_of chunks ≡ rows))
    → ((point : Point) → last ≡ Some point → HasCheckpoint parts point.entries point.rows)
    → option_or (whole_point entries count begun) last ≡ Some point → HasCheckpoint (parts ++ End entries count ∷ []) point.entries point.rows
end_last parts entries count None last point known before is = more_behind parts (End entries count) point.entries point.rows (before point is)
end_last parts entries count (Some rows) last point known before is = by_test (length rows == count) (are_in_order rows) refl refl is where
  by_test : (few order : Bool) → (length rows == count) ≡ few → are_in_order rows ≡ order
      → option_or (if few && order then Some (point_of entries rows) else None) last ≡ Some point → HasCheckpoint (parts ++ End entries count ∷ []) point.entries point.rows
  by_test true true number ordered is =
      let h = known rows refl in
      let here = end_whole parts h.0 h.1 entries count rows h.2 h.3 (eqb-true (length rows) count number) ordered in
      subst (λ (p : Point). HasCheckpoint (parts ++ End entries count ∷ []) p.entries p.rows) (some_is (point_of entries rows) point is) here
  by_test true false number ordered is = more_behind parts (End entries count) point.entries point.rows (before point is)
  by_test false order number ordered is = more_behind parts (End entries count) point.entries point.rows (before point is)

end_known : (parts : List Part) (entries count : ℕ) (so_far : SoFar) → IsKnown parts so_far → IsKnown (parts ++ End entries count ∷ []) (read_on so_far (End entries count))
unfolding read_on
end_known parts entries count so_far known = record {
  begun = λ rows is. absurd (none_is_some rows is);
  last = λ point is. end_last parts entries count so_far.begun so_far.last point known.begun known.last is;
}

one_known : (parts : List Part) (part : Part) (so_far : SoFar) → IsKnown parts so_far → IsKnown (parts ++ part ∷ []) (read_on so_far part)
one_known parts Begin so_far known = begin_known parts so_far known
one_known parts (Rows rows) so_far known = rows_known parts rows so_far known
one_known parts (End entries count) so_far known = end_known parts entries count so_far known

nothing_known : IsKnown [] nothing_yet
nothing_known = record { begun = λ rows is. absurd (none_is_some rows is); last = λ point is. absurd (none_is_some point is) }

all_known : (before parts : List Part) (so_far : SoFar) → IsKnown before so_far → IsKnown (before ++ parts) (fold read_on so_far parts)
all_known before [] so_far known = subst (λ ps. IsKnown ps so_far) (sym (append-nil before)) known
all_known before (part ∷ parts) so_far known =
    subst (λ ps. IsKnown ps (fold read_on (read_on so_far part) parts)) (append_assoc before (part ∷ []) parts)
    (all_known (before ++ part ∷ []) parts (read_on so_far part) (one_known before part so_far known))

-- the last whole checkpoint is one
pub last_is_whole : (parts : List Part) (point : Point) → last_point parts ≡ Some point → HasCheckpoint parts point.entries point.rows
last_is_whole parts point is = (all_known [] parts nothing_yet nothing_known).last point is

-- a checkpoint that was found stays found, or another takes its place
some_stays : (so_far : SoFar) (part : Part) → is_some so_far.last ≡ true → is_some (read_on so_far part).last ≡ true
unfolding read_on
some_stays so_far Begin found = found
some_stays so_far (Rows rows) found = found
some_stays so_far (End entries count) found = some_or (whole_point entries count so_far.begun) so_far.last found where
  some_or : (a b : Option Point) → is_some b ≡ true → is_some (option_or a b) ≡ true
  some_or None b h = h
  some_or (Some x) b h = refl

some_stay : (parts : List Part) (so_far : SoFar) → is_some so_far.last ≡ true → is_some (fold read_on so_far parts).last ≡ true
some_stay [] so_far found = found
some_stay (part ∷ parts) so_far found = some_stay parts (read_on so_far part) (some_stays so_far part found)

-- where a whole checkpoint stands, one is found
pub whole_is_found : (parts : List Part) (entries : ℕ) (rows : List KeptRow) → HasCheckpoint parts entries rows → is_some (last_point parts) ≡ true
whole_is_found parts entries rows h =
    let found : is_some (last_point (h.before ++ h.checkpoint)) ≡ true = ap is_some (whole_read h.before h.checkpoint entries rows h.whole) in
    ap (λ ps. is_some (last_point ps)) (h.split ∙ sym (append_assoc h.before h.checkpoint h.behind))
    ∙ ap (λ (s : SoFar). is_some s.last) (fold-append read_on nothing_yet (h.before ++ h.checkpoint) h.behind)
    ∙ some_stay h.behind (read_all (h.before ++ h.checkpoint)) found
