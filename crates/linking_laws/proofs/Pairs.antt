-- Two lists of rows with one outline, compared field by field.
use Rattle.std.proofs.Common.{◌≡◌, ℕ, suc, Bool, true, false, cond, List, [], ◌∷◌, map, Option, Some, None, refl, sym, ap, ◌∙◌, subst, ◌⊎◌, inl, inr}
use Rattle.std.specs.Prelude.{slice_get, filter, filter_map}
use Rattle.std.specs.List.{cons_option}
use Rattle.std.specs.Map.{keys_of, lookup}
use Rattle.std.specs.Option.{option_and_then}
use Rattle.std.proofs.lemmas.Map.Keys.{sorted_head, sorted_tail}
use Rattle.marc_types.specs.Order.{key_cmp, key_Decides}
use Rattle.marc_types.specs.declared.field.Field.{Field}
use Rattle.marc_types.specs.declared.field.Leader.{Leader}
use Rattle.marc_types.specs.declared.key.Class.TheVariants.{Authority}
use Rattle.marc_types.specs.declared.key.Key.{Key}
use Rattle.marc_types.specs.declared.form.Kind.{Kind}
use Rattle.marc_types.specs.Fields.{tag_of}
use Rattle.marc_types.specs.Order.{same_key}
use Rattle.entry_record.specs.Authority.{Linkable, is_heading, is_see_from, heading_of, is_tracing_of, see_from_forms, full_form, linkable_kind, linkable_with, linkable_by, linkable_of}
use Rattle.catalogue_rules.specs.State.{KeptField, Row, row_linkable}
use Rattle.catalogue_rules.specs.Valid.{IsAscending}
use Rattle.catalogue_rules.specs.Store.{field_at}
use Rattle.catalogue_rules.proofs.Places.{IsBelow, lookup_below}
use Rattle.linking_laws.specs.Partway.{IsSteady, row_outline}
use Rattle.linking_laws.proofs.Others.{own_key}

-- of the fields of two lists, in turn
abbrev pub Pairs : (KeptField → KeptField → Type 0) → List KeptField → List KeptField → Type 0
Pairs R [] [] = Unit {0}
Pairs R (x ∷ xs) (y ∷ ys) = R x y × Pairs R xs ys
Pairs R [] (y ∷ ys) = ⊥
Pairs R (x ∷ xs) [] = ⊥

-- of what two options hold; or neither holds anything
abbrev pub Both : (KeptField → KeptField → Type 0) → Option KeptField → Option KeptField → Type 0
Both R None None = Unit {0}
Both R (Some x) (Some y) = R x y
Both R (Some x) None = ⊥
Both R None (Some y) = ⊥

pub record IsRowPair (R : KeptField → KeptField → Type 0) (row other : Row) : Type 0 where
  pub key_is : row.0 ≡ other.0
  pub leader_is : row.1.leader ≡ other.1.leader
  pub fields : Pairs R row.1.fields other.1.fields

abbrev pub RowPairs : (KeptField → KeptField → Type 0) → List Row → List Row → Type 0
RowPairs R [] [] = Unit {0}
RowPairs R (x ∷ xs) (y ∷ ys) = IsRowPair R x y × RowPairs R xs ys
RowPairs R [] (y ∷ ys) = ⊥
RowPairs R (x ∷ xs) [] = ⊥

pairs_from : (R : KeptField → KeptField → Type 0) (xs ys : List KeptField) → ((i : ℕ) → Both R (slice_get xs i) (slice_get ys i)) → Pairs R xs ys
pairs_from R [] [] f = tt
pairs_from R (x ∷ xs) (y ∷ ys) f = (f 0, pairs_from R xs ys (λ i. f (suc i)))
pairs_from R [] (y ∷ ys) f = f 0
pairs_from R (x ∷ xs) [] f = f 0

abbrev pub place_of : Key → ℕ → List Row → Option KeptField
place_of key i rows = option_and_then (field_at i) (lookup (same_key key) rows)

both_by : (R : KeptField → KeptField → Type 0) (a b c d : Option KeptField) → a ≡ c → b ≡ d → Both R a b → Both R c d
both_by R a b c d p q x = subst (λ (o : Option KeptField). Both R o d) p (subst (λ (o : Option KeptField). Both R a o) q x)

place_here : (k : Key) (i : ℕ) (row : Row) (rows : List Row) → same_key k row.0 ≡ true → place_of k i (row ∷ rows) ≡ slice_get row.1.fields i
place_here k i row rows e = ap (λ (b : Bool). option_and_then (field_at i) (cond b (Some row.1) (lookup (same_key k) rows))) e

place_behind : (k : Key) (i : ℕ) (row : Row) (rows : List Row) → same_key k row.0 ≡ false → place_of k i (row ∷ rows) ≡ place_of k i rows
place_behind k i row rows e = ap (λ (b : Bool). option_and_then (field_at i) (cond b (Some row.1) (lookup (same_key k) rows))) e

place_none : (k own : Key) (i : ℕ) (rows : List Row) → same_key k own ≡ true → IsBelow own (keys_of rows) → None ≡ place_of k i rows
place_none k own i rows e below =
    let same : k ≡ own = (key_Decides k own).0 e in
    sym (ap (option_and_then (field_at i)) (lookup_below k rows (subst (λ (j : Key). IsBelow j (keys_of rows)) (sym same) below)))

tail_at : (R : KeptField → KeptField → Type 0) (row other : Row) (xs ys : List Row) → row.0 ≡ other.0 → IsBelow row.0 (keys_of xs) → IsBelow other.0 (keys_of ys) →
    ((k : Key) (i : ℕ) → Both R (place_of k i (row ∷ xs)) (place_of k i (other ∷ ys))) → (k : Key) (i : ℕ) (b : Bool) → same_key k row.0 ≡ b → Both R (place_of k i xs) (place_of k i ys)
tail_at R row other xs ys e below beyond f k i true own =
    both_by R None None (place_of k i xs) (place_of k i ys) (place_none k row.0 i xs own below) (place_none k other.0 i ys (ap (same_key k) (sym e) ∙ own) beyond) tt
tail_at R row other xs ys e below beyond f k i false own =
    both_by R (place_of k i (row ∷ xs)) (place_of k i (other ∷ ys)) (place_of k i xs) (place_of k i ys)
    (place_behind k i row xs own) (place_behind k i other ys (ap (same_key k) (sym e) ∙ own)) (f k i)

-- what holds of the fields at each place holds of the rows in turn
pub rows_from : (R : KeptField → KeptField → Type 0) (xs ys : List Row) → map row_outline xs ≡ map row_outline ys → IsAscending xs → IsAscending ys →
    ((k : Key) (i : ℕ) → Both R (place_of k i xs) (place_of k i ys)) → RowPairs R xs ys
rows_from R [] [] e s t f = tt
rows_from R (row ∷ xs) (other ∷ ys) e s t f =
    let heads : row_outline row ≡ row_outline other = cc in
    let tails : map row_outline xs ≡ map row_outline ys = cc in
    let key : row.0 ≡ other.0 = ap (λ (p : Key × (Leader × ℕ)). p.0) heads in (
      record {
        key_is = key;
        leader_is = ap (λ (p : Key × (Leader × ℕ)). p.1.0) heads;
        fields = pairs_from R row.1.fields other.1.fields (λ i.
            both_by R (place_of row.0 i (row ∷ xs)) (place_of row.0 i (other ∷ ys)) (slice_get row.1.fields i) (slice_get other.1.fields i)
            (place_here row.0 i row xs (own_key row.0)) (place_here row.0 i other ys ((key_Decides row.0 other.0).1 key)) (f row.0 i));
      },
      rows_from R xs ys tails (sorted_tail key_cmp row.0 (keys_of xs) s) (sorted_tail key_cmp other.0 (keys_of ys) t)
          (λ k i. tail_at R row other xs ys key (sorted_head key_cmp row.0 (keys_of xs) s) (sorted_head key_cmp other.0 (keys_of ys) t) f k i (same_key k row.0) refl),
    )
rows_from R [] (other ∷ ys) e s t f = cc
rows_from R (row ∷ xs) [] e s t f = cc

-- ---- the same fields

pairs_same : (xs ys : List KeptField) → Pairs (λ x y. x ≡ y) xs ys → xs ≡ ys
pairs_same [] [] a = refl
pairs_same (x ∷ xs) (y ∷ ys) a = λ i. a.0 i ∷ pairs_same xs ys a.1 i
pairs_same [] (y ∷ ys) a = absurd a
pairs_same (x ∷ xs) [] a = absurd a

pub rows_same : (xs ys : List Row) → RowPairs (λ x y. x ≡ y) xs ys → xs ≡ ys
rows_same [] [] a = refl
rows_same (x ∷ xs) (y ∷ ys) a =
    let pair = a.0 in
    λ i. (pair.key_is i, record { leader = pair.leader_is i; fields = pairs_same x.1.fields y.1.fields pair.fields i }) ∷ rows_same xs ys a.1 i
rows_same [] (y ∷ ys) a = absurd a
rows_same (x ∷ xs) [] a = absurd a

both_refl : (o : Option KeptField) → Both (λ x y. x ≡ y) o o
both_refl None = tt
both_refl (Some x) = refl

pub both_same : (a b : Option KeptField) → a ≡ b → Both (λ x y. x ≡ y) a b
both_same a b e = subst (λ (o : Option KeptField). Both (λ x y. x ≡ y) a o) e (both_refl a)

-- ---- steady fields

no_heading : (f : Field) → (tag_of f).a ≡ 53 → is_heading f ≡ false
no_heading f e = rw e refl

no_see_from : (f : Field) → (tag_of f).a ≡ 53 → is_see_from f ≡ false
no_see_from f e = rw e refl

abbrev IsSteadyField : Field → Field → Type 0
IsSteadyField f g = (f ≡ g) ⊎ (((tag_of f).a ≡ 53) × ((tag_of g).a ≡ 53))

heading_at : (f g : Field) (o p : Option Field) → IsSteadyField f g → o ≡ p → cond (is_heading f) (Some f) o ≡ cond (is_heading g) (Some g) p
heading_at f g o p (inl e) ih = rw (e, ih) refl
heading_at f g o p (inr b) ih = rw (no_heading f b.0, no_heading g b.1) ih

heading_stays : (xs ys : List KeptField) → Pairs IsSteady xs ys → heading_of (map (λ h. h.field) xs) ≡ heading_of (map (λ h. h.field) ys)
heading_stays [] [] a = refl
heading_stays (x ∷ xs) (y ∷ ys) a = heading_at x.field y.field _ _ a.0 (heading_stays xs ys a.1)
heading_stays [] (y ∷ ys) a = absurd a
heading_stays (x ∷ xs) [] a = absurd a

tracings_at : (kind : Kind) (f g : Field) (fs gs : List Field) → IsSteadyField f g → fs ≡ gs →
    cond (is_tracing_of kind f) (f ∷ fs) fs ≡ cond (is_tracing_of kind g) (g ∷ gs) gs
tracings_at kind f g fs gs (inl e) ih = rw (e, ih) refl
tracings_at kind f g fs gs (inr b) ih = rw (no_see_from f b.0, no_see_from g b.1) ih

tracings_stay : (kind : Kind) (xs ys : List KeptField) → Pairs IsSteady xs ys →
    filter (is_tracing_of kind) (map (λ h. h.field) xs) ≡ filter (is_tracing_of kind) (map (λ h. h.field) ys)
tracings_stay kind [] [] a = refl
tracings_stay kind (x ∷ xs) (y ∷ ys) a = tracings_at kind x.field y.field _ _ a.0 (tracings_stay kind xs ys a.1)
tracings_stay kind [] (y ∷ ys) a = absurd a
tracings_stay kind (x ∷ xs) [] a = absurd a

linkable_at : (key : Key) (fs gs : List Field) (o p : Option Field) → o ≡ p → ((kind : Kind) → see_from_forms kind fs ≡ see_from_forms kind gs) →
    option_and_then (linkable_by key fs) o ≡ option_and_then (linkable_by key gs) p
linkable_at key fs gs o p e same = ap (option_and_then (linkable_by key fs)) e ∙ by p
  where
    kinds : (f : Field) (k : Option Kind) → elim k as (λ _. Option Linkable) [ None ↦ None | Some kind ↦ Some (linkable_with key fs f kind) ] ≡ elim k as (λ _. Option Linkable) [ None ↦ None | Some kind ↦ Some (linkable_with key gs f kind) ]
    kinds f None = refl
    kinds f (Some kind) = λ i. Some (record { key = key; kind = kind; heading = f; established = full_form kind Authority f; see_from = same kind i })

    by : (p : Option Field) → option_and_then (linkable_by key fs) p ≡ option_and_then (linkable_by key gs) p
    by None = refl
    by (Some f) = kinds f (linkable_kind f)

linkable_pair : (row other : Row) → IsRowPair IsSteady row other → row_linkable row ≡ row_linkable other
unfolding linkable_of see_from_forms
linkable_pair row other pair =
    let fs = map (λ (h : KeptField). h.field) row.1.fields in
    let gs = map (λ (h : KeptField). h.field) other.1.fields in
    linkable_at row.0 fs gs (heading_of fs) (heading_of gs) (heading_stays row.1.fields other.1.fields pair.fields)
    (λ kind. ap (λ (l : List Field). map (full_form kind Authority) l) (tracings_stay kind row.1.fields other.1.fields pair.fields))
    ∙ ap (λ (k : Key). option_and_then (linkable_by k gs) (heading_of gs)) pair.key_is

-- rows whose fields are steady have the same linkable authorities
pub linkables_same : (xs ys : List Row) → RowPairs IsSteady xs ys → filter_map row_linkable xs ≡ filter_map row_linkable ys
linkables_same [] [] a = refl
linkables_same (x ∷ xs) (y ∷ ys) a =
    ap (λ (o : Option Linkable). cons_option o (filter_map row_linkable xs)) (linkable_pair x y a.0) ∙ ap (cons_option (row_linkable y)) (linkables_same xs ys a.1)
linkables_same [] (y ∷ ys) a = absurd a
linkables_same (x ∷ xs) [] a = absurd a
