-- A field is exchanged at one place of a state: every other place stays.
use Rattle.std.proofs.Common.{◌≡◌, ◌≢◌, ℕ, zero, suc, Bool, true, false, ◌&&◌, cond, List, [], ◌∷◌, length, map, Option, Some, None, refl, sym, ap, ◌∙◌, if◌then◌else◌}
use Rattle.std.specs.Prelude.{◌==◌, slice_get, slice_set}
use Rattle.std.specs.Cmp.{unsigned_Decides}
use Rattle.std.specs.Map.{lookup}
use Rattle.std.specs.Option.{option_map, option_and_then}
use Rattle.marc_types.specs.Order.{key_Decides}
use Rattle.marc_types.specs.declared.key.Class.{Class}
use Rattle.marc_types.specs.declared.key.Class.TheVariants.{Authority, Bibliographic}
use Rattle.marc_types.specs.declared.key.Key.{Key}
use Rattle.marc_types.specs.declared.key.Place.{Place}
use Rattle.marc_types.specs.Order.{same_key}
use Rattle.catalogue_rules.specs.State.{KeptField, KeptRecord, Row, State, rows_of, each_in_record, each_in_row, each_field}
use Rattle.catalogue_rules.specs.Receipt.{same_class}
use Rattle.catalogue_rules.specs.Store.{field_at, field_under, with_field, with_field_under, with_rows}
use Rattle.linking_laws.specs.Partway.{same_place, swapped, row_outline, outlines}

-- ---- one list of fields

get_same : (xs : List KeptField) (i : ℕ) (h : KeptField) → slice_get (slice_set xs i h) i ≡ option_map (λ (x : KeptField). h) (slice_get xs i)
get_same [] i h = refl
get_same (x ∷ xs) zero h = refl
get_same (x ∷ xs) (suc i) h = get_same xs i h

get_other : (xs : List KeptField) (i j : ℕ) (h : KeptField) → i ≢ j → slice_get (slice_set xs i h) j ≡ slice_get xs j
get_other [] i j h apart = refl
get_other (x ∷ xs) zero zero h apart = absurd (apart refl)
get_other (x ∷ xs) zero (suc j) h apart = refl
get_other (x ∷ xs) (suc i) zero h apart = refl
get_other (x ∷ xs) (suc i) (suc j) h apart = get_other xs i j h (λ e. apart (ap suc e))

no_number : (i j : ℕ) → (i == j) ≡ false → i ≢ j
no_number i j e same = let yes = (unsigned_Decides i j).1 same in cc

got_at : (xs : List KeptField) (i j : ℕ) (h : KeptField) (b : Bool) → (i == j) ≡ b →
    slice_get (slice_set xs i h) j ≡ (if b then option_map (λ (x : KeptField). h) (slice_get xs j) else slice_get xs j)
got_at xs i j h true e =
    let same : i ≡ j = (unsigned_Decides i j).0 e in
    ap (λ (k : ℕ). slice_get (slice_set xs k h) j) same ∙ get_same xs j h
got_at xs i j h false e = get_other xs i j h (no_number i j e)

pub set_length : (xs : List KeptField) (i : ℕ) (h : KeptField) → length (slice_set xs i h) ≡ length xs
set_length [] i h = refl
set_length (x ∷ xs) zero h = refl
set_length (x ∷ xs) (suc i) h = ap suc (set_length xs i h)

-- ---- the rows of one class

abbrev row_with : Bool → (KeptRecord → KeptRecord) → Row → Row
row_with c change row = if c then (row.0, change row.1) else row

found_at : (k : Key) (change : KeptRecord → KeptRecord) (row : Row) (o now : Option KeptRecord) (b c d : Bool) → same_key k row.0 ≡ b → (b ≡ true → c ≡ d) →
    now ≡ (if d then option_map change o else o) →
    cond (same_key k (row_with c change row).0) (Some (row_with c change row).1) now ≡ (if d then option_map change (cond (same_key k row.0) (Some row.1) o) else cond (same_key k row.0) (Some row.1) o)
found_at k change row o now true true true e same is =
    ap (λ (x : Bool). cond x (Some (change row.1)) now) e ∙ sym (ap (λ (x : Bool). option_map change (cond x (Some row.1) o)) e)
found_at k change row o now true false false e same is = ap (λ (x : Bool). cond x (Some row.1) now) e ∙ sym (ap (λ (x : Bool). cond x (Some row.1) o) e)
found_at k change row o now true true false e same is = let no_way = same refl in cc
found_at k change row o now true false true e same is = let no_way = same refl in cc
found_at k change row o now false true true e same is =
    ap (λ (x : Bool). cond x (Some (change row.1)) now) e ∙ is ∙ sym (ap (λ (x : Bool). option_map change (cond x (Some row.1) o)) e)
found_at k change row o now false true false e same is =
    ap (λ (x : Bool). cond x (Some (change row.1)) now) e ∙ is ∙ sym (ap (λ (x : Bool). cond x (Some row.1) o) e)
found_at k change row o now false false true e same is =
    ap (λ (x : Bool). cond x (Some row.1) now) e ∙ is ∙ sym (ap (λ (x : Bool). option_map change (cond x (Some row.1) o)) e)
found_at k change row o now false false false e same is =
    ap (λ (x : Bool). cond x (Some row.1) now) e ∙ is ∙ sym (ap (λ (x : Bool). cond x (Some row.1) o) e)

own_alike : (own k : Key) (row : Row) → same_key k row.0 ≡ true → same_key own row.0 ≡ same_key own k
own_alike own k row e = ap (same_key own) (sym ((key_Decides k row.0).0 e))

no_row : (change : KeptRecord → KeptRecord) (b : Bool) → lookup {X = KeptRecord} (λ (key : Key). false) [] ≡ (if b then option_map change None else None)
no_row change true = refl
no_row change false = refl

-- a record that is looked up among rows of which one has changed
pub lookup_changed : (own : Key) (change : KeptRecord → KeptRecord) (k : Key) (rows : List Row) →
    lookup (same_key k) (map (λ (row : Row). row_with (same_key own row.0) change row) rows) ≡ (if same_key own k then option_map change (lookup (same_key k) rows) else lookup (same_key k) rows)
lookup_changed own change k [] = no_row change (same_key own k)
lookup_changed own change k (row ∷ rows) =
    found_at k change row (lookup (same_key k) rows) (lookup (same_key k) (map (λ (row : Row). row_with (same_key own row.0) change row) rows)) (same_key k row.0) (same_key own row.0) (same_key own k) refl
    (own_alike own k row) (lookup_changed own change k rows)

outline_at : (own : Key) (i : ℕ) (h : KeptField) (row : Row) (b : Bool) → row_outline (row_with b (with_field i h) row) ≡ row_outline row
outline_at own i h row true = ap (λ (n : ℕ). (row.0, (row.1.leader, n))) (set_length row.1.fields i h)
outline_at own i h row false = refl

outline_swapped : (own : Key) (i : ℕ) (h : KeptField) (rows : List Row) → map row_outline (with_field_under own i h rows) ≡ map row_outline rows
outline_swapped own i h [] = refl
outline_swapped own i h (row ∷ rows) = λ n. outline_at own i h row (same_key own row.0) n ∷ outline_swapped own i h rows n

-- ---- places of a state

abbrev place_of : Key → ℕ → List Row → Option KeptField
place_of key i rows = option_and_then (field_at i) (lookup (same_key key) rows)

place_at : (i j : ℕ) (h : KeptField) (o : Option KeptRecord) (c b : Bool) → (i == j) ≡ b →
    option_and_then (field_at j) (if c then option_map (with_field i h) o else o)
    ≡ (if c && b then option_map (λ (x : KeptField). h) (option_and_then (field_at j) o) else option_and_then (field_at j) o)
place_at i j h None true true e = refl
place_at i j h None true false e = refl
place_at i j h None false b e = refl
place_at i j h (Some r) true b e = got_at r.fields i j h b e
place_at i j h (Some r) false b e = refl

place_swapped : (own : Key) (i : ℕ) (h : KeptField) (k : Key) (j : ℕ) (rows : List Row) →
    place_of k j (with_field_under own i h rows) ≡ (if same_key own k && (i == j) then option_map (λ (x : KeptField). h) (place_of k j rows) else place_of k j rows)
place_swapped own i h k j rows =
    ap (option_and_then (field_at j)) (lookup_changed own (with_field i h) k rows) ∙ place_at i j h (lookup (same_key k) rows) (same_key own k) (i == j) refl

swapped_in : (c d : Class) (own k : Key) (i j : ℕ) (h : KeptField) (s : State) →
    place_of k j (rows_of d (with_rows c (with_field_under own i h (rows_of c s)) s))
    ≡ (if same_class c d && same_key own k && (i == j) then option_map (λ (x : KeptField). h) (place_of k j (rows_of d s)) else place_of k j (rows_of d s))
swapped_in Authority Authority own k i j h s = place_swapped own i h k j s.authorities
swapped_in Bibliographic Bibliographic own k i j h s = place_swapped own i h k j s.bibliographic
swapped_in Authority Bibliographic own k i j h s = refl
swapped_in Bibliographic Authority own k i j h s = refl

-- the field at a place, once one place has another
pub field_swapped : (p q : Place) (h : KeptField) (s : State) →
    field_under q (swapped p h s) ≡ (if same_place p q then option_map (λ (x : KeptField). h) (field_under q s) else field_under q s)
field_swapped p q h s = swapped_in p.class q.class p.key q.key p.field q.field h s

outlines_in : (c d : Class) (own : Key) (i : ℕ) (h : KeptField) (s : State) → map row_outline (rows_of d (with_rows c (with_field_under own i h (rows_of c s)) s)) ≡ map row_outline (rows_of d s)
outlines_in Authority Authority own i h s = outline_swapped own i h s.authorities
outlines_in Bibliographic Bibliographic own i h s = outline_swapped own i h s.bibliographic
outlines_in Authority Bibliographic own i h s = refl
outlines_in Bibliographic Authority own i h s = refl

pub outlines_swapped : (p : Place) (h : KeptField) (s : State) (class : Class) → outlines class (swapped p h s) ≡ outlines class s
outlines_swapped p h s class = outlines_in p.class class p.key p.field h s

-- ---- a change of each field

pub get_mapped : (f : KeptField → KeptField) (xs : List KeptField) (i : ℕ) → slice_get (map f xs) i ≡ option_map f (slice_get xs i)
get_mapped f [] i = refl
get_mapped f (x ∷ xs) zero = refl
get_mapped f (x ∷ xs) (suc i) = get_mapped f xs i

pub mapped_length : (f : KeptField → KeptField) (xs : List KeptField) → length (map f xs) ≡ length xs
mapped_length f [] = refl
mapped_length f (x ∷ xs) = ap suc (mapped_length f xs)

lookup_each : (f : KeptField → KeptField) (k : Key) (rows : List Row) → lookup (same_key k) (map (each_in_row f) rows) ≡ option_map (each_in_record f) (lookup (same_key k) rows)
lookup_each f k [] = refl
lookup_each f k (row ∷ rows) = at (same_key k row.0) (lookup_each f k rows)
  where
    at : (b : Bool) → lookup (same_key k) (map (each_in_row f) rows) ≡ option_map (each_in_record f) (lookup (same_key k) rows) →
        cond b (Some (each_in_record f row.1)) (lookup (same_key k) (map (each_in_row f) rows)) ≡ option_map (each_in_record f) (cond b (Some row.1) (lookup (same_key k) rows))
    at true is = refl
    at false is = is

each_at : (f : KeptField → KeptField) (j : ℕ) (o : Option KeptRecord) → option_and_then (field_at j) (option_map (each_in_record f) o) ≡ option_map f (option_and_then (field_at j) o)
each_at f j None = refl
each_at f j (Some r) = get_mapped f r.fields j

place_each : (f : KeptField → KeptField) (k : Key) (j : ℕ) (rows : List Row) → place_of k j (map (each_in_row f) rows) ≡ option_map f (place_of k j rows)
place_each f k j rows = ap (option_and_then (field_at j)) (lookup_each f k rows) ∙ each_at f j (lookup (same_key k) rows)

each_in : (change : Class → KeptField → KeptField) (d : Class) (k : Key) (j : ℕ) (s : State) → place_of k j (rows_of d (each_field change s)) ≡ option_map (change d) (place_of k j (rows_of d s))
unfolding each_field
each_in change Authority k j s = place_each (change Authority) k j s.authorities
each_in change Bibliographic k j s = place_each (change Bibliographic) k j s.bibliographic

-- the field at a place, once each has changed
pub field_each : (change : Class → KeptField → KeptField) (q : Place) (s : State) → field_under q (each_field change s) ≡ option_map (change q.class) (field_under q s)
field_each change q s = each_in change q.class q.key q.field s

outline_each : (f : KeptField → KeptField) (rows : List Row) → map row_outline (map (each_in_row f) rows) ≡ map row_outline rows
outline_each f [] = refl
outline_each f (row ∷ rows) = λ n. (row.0, (row.1.leader, mapped_length f row.1.fields n)) ∷ outline_each f rows n

pub outlines_each : (change : Class → KeptField → KeptField) (s : State) (class : Class) → outlines class (each_field change s) ≡ outlines class s
unfolding each_field
outlines_each change s Authority = outline_each (change Authority) s.authorities
outlines_each change s Bibliographic = outline_each (change Bibliographic) s.bibliographic
