-- Numbers at places that are named once are together within the sum over the state.
use Rattle.std.proofs.Common.{◌≡◌, ℕ, zero, suc, ◌+◌, ◌≤◌, Bool, true, false, ◌||◌, cond, List, [], ◌∷◌, Some, refl, sym, ap, ◌∙◌, if◌then◌else◌, arith}
use Rattle.std.specs.Prelude.{slice_get}
use Rattle.std.specs.List.{sum_by}
use Rattle.std.specs.Map.{lookup}
use Rattle.std.specs.Option.{option_map_or, option_and_then}
use Rattle.std.proofs.lemmas.List.Sums.{sum_by-cons}
use Rattle.marc_types.specs.Order.{key_Decides}
use Rattle.marc_types.specs.declared.key.Class.{Class}
use Rattle.marc_types.specs.declared.key.Class.TheVariants.{Authority, Bibliographic}
use Rattle.marc_types.specs.declared.key.Key.{Key}
use Rattle.marc_types.specs.declared.key.Place.{Place}
use Rattle.marc_types.specs.Order.{same_key}
use Rattle.catalogue_rules.specs.State.{KeptField, Row, State}
use Rattle.catalogue_rules.specs.Store.{field_at}
use Rattle.linking_laws.specs.Partway.{same_place, is_place_among}
use Rattle.linking_laws.specs.Receipts.{place_in}
use Rattle.linking_laws.specs.Tables.{AreOnce}
use Rattle.linking_laws.specs.Weights.{sum_row, sum_fields, number_at}
use Rattle.linking_laws.proofs.Partial.{place_is, own_place}

-- the numbers of the fields at places that pass
abbrev masked : (ℕ → Bool) → (KeptField → ℕ) → List KeptField → ℕ
masked t f [] = 0
masked t f (h ∷ hs) = (if t 0 then f h else 0) + masked (λ i. t (suc i)) f hs

if_least : (b : Bool) (n : ℕ) → (if b then n else 0) ≤ n
if_least true n = omega arith
if_least false n = omega arith

masked_least : (t : ℕ → Bool) (f : KeptField → ℕ) (hs : List KeptField) → masked t f hs ≤ sum_by f hs
masked_least t f [] = omega arith
masked_least t f (h ∷ hs) =
    let all = sum_by-cons f h hs in
    let own = if_least (t 0) (f h) in
    let rest = masked_least (λ i. t (suc i)) f hs in
    omega arith

if_either : (a b : Bool) (n : ℕ) → (a ≡ true → b ≡ false) → (if a || b then n else 0) ≡ (if a then n else 0) + (if b then n else 0)
if_either true true n apart = let off = apart refl in cc
if_either true false n apart = omega arith
if_either false true n apart = omega arith
if_either false false n apart = omega arith

masked_either : (a b : ℕ → Bool) (f : KeptField → ℕ) (hs : List KeptField) → ((i : ℕ) → a i ≡ true → b i ≡ false) → masked (λ i. a i || b i) f hs ≡ masked a f hs + masked b f hs
masked_either a b f [] apart = refl
masked_either a b f (h ∷ hs) apart =
    let own = if_either (a 0) (b 0) (f h) (apart 0) in
    let rest = masked_either (λ i. a (suc i)) (λ i. b (suc i)) f hs (λ i. apart (suc i)) in
    omega arith

if_on : (b : Bool) (n : ℕ) → b ≡ true → n ≤ (if b then n else 0)
if_on b n e = rw e (omega arith)

masked_has : (t : ℕ → Bool) (f : KeptField → ℕ) (hs : List KeptField) (i : ℕ) → t i ≡ true → option_map_or f (slice_get hs i) 0 ≤ masked t f hs
masked_has t f [] i e = omega arith
masked_has t f (h ∷ hs) zero e = let own = if_on (t 0) (f h) e in omega arith
masked_has t f (h ∷ hs) (suc i) e = let rest = masked_has (λ j. t (suc j)) f hs i e in omega arith

-- ---- rows

abbrev masked_rows : (Key → ℕ → Bool) → (KeptField → ℕ) → List Row → ℕ
masked_rows t f [] = 0
masked_rows t f (row ∷ rows) = masked (t row.0) f row.1.fields + masked_rows t f rows

rows_least : (t : Key → ℕ → Bool) (f : KeptField → ℕ) (rows : List Row) → masked_rows t f rows ≤ sum_by (sum_row f) rows
rows_least t f [] = omega arith
rows_least t f (row ∷ rows) =
    let all = sum_by-cons (sum_row f) row rows in
    let own = masked_least (t row.0) f row.1.fields in
    let rest = rows_least t f rows in
    omega arith

rows_either : (a b : Key → ℕ → Bool) (f : KeptField → ℕ) (rows : List Row) → ((k : Key) (i : ℕ) → a k i ≡ true → b k i ≡ false) →
    masked_rows (λ k i. a k i || b k i) f rows ≡ masked_rows a f rows + masked_rows b f rows
rows_either a b f [] apart = refl
rows_either a b f (row ∷ rows) apart =
    let own = masked_either (a row.0) (b row.0) f row.1.fields (apart row.0) in
    let rest = rows_either a b f rows apart in
    omega arith

has_at : (t : Key → ℕ → Bool) (f : KeptField → ℕ) (row : Row) (rows : List Row) (k : Key) (i : ℕ) (b : Bool) → same_key k row.0 ≡ b → t k i ≡ true →
    option_map_or f (option_and_then (field_at i) (lookup (same_key k) rows)) 0 ≤ masked_rows t f rows →
    option_map_or f (option_and_then (field_at i) (cond b (Some row.1) (lookup (same_key k) rows))) 0 ≤ masked_rows t f (row ∷ rows)
has_at t f row rows k i true e on rest =
    let same : k ≡ row.0 = (key_Decides k row.0).0 e in
    let own = masked_has (t row.0) f row.1.fields i (ap (λ (x : Key). t x i) (sym same) ∙ on) in
    omega arith
has_at t f row rows k i false e on rest = omega arith

rows_have : (t : Key → ℕ → Bool) (f : KeptField → ℕ) (rows : List Row) (k : Key) (i : ℕ) → t k i ≡ true → option_map_or f (option_and_then (field_at i) (lookup (same_key k) rows)) 0 ≤ masked_rows t f rows
rows_have t f [] k i on = omega arith
rows_have t f (row ∷ rows) k i on = has_at t f row rows k i (same_key k row.0) refl on (rows_have t f rows k i on)

-- ---- the state

abbrev among_rows : (Place → Bool) → Class → (KeptField → ℕ) → List Row → ℕ
among_rows t class f rows = masked_rows (λ k i. t (place_in class k i)) f rows

abbrev masked_state : (Place → Bool) → (Class → KeptField → ℕ) → State → ℕ
masked_state t f s = among_rows t Authority (f Authority) s.authorities + among_rows t Bibliographic (f Bibliographic) s.bibliographic

state_least : (t : Place → Bool) (f : Class → KeptField → ℕ) (s : State) → masked_state t f s ≤ sum_fields f s
state_least t f s =
    let first = rows_least (λ k i. t (place_in Authority k i)) (f Authority) s.authorities in
    let second = rows_least (λ k i. t (place_in Bibliographic k i)) (f Bibliographic) s.bibliographic in
    omega arith

state_either : (a b : Place → Bool) (f : Class → KeptField → ℕ) (s : State) → ((q : Place) → a q ≡ true → b q ≡ false) → masked_state (λ q. a q || b q) f s ≡ masked_state a f s + masked_state b f s
state_either a b f s apart =
    let first = rows_either (λ k i. a (place_in Authority k i)) (λ k i. b (place_in Authority k i)) (f Authority) s.authorities (λ k i. apart (place_in Authority k i)) in
    let second = rows_either (λ k i. a (place_in Bibliographic k i)) (λ k i. b (place_in Bibliographic k i)) (f Bibliographic) s.bibliographic (λ k i. apart (place_in Bibliographic k i)) in
    omega arith

one_at : (t : Place → Bool) (f : Class → KeptField → ℕ) (s : State) (class : Class) (k : Key) (i : ℕ) → t (place_in class k i) ≡ true → number_at f s (place_in class k i) ≤ masked_state t f s
one_at t f s Authority k i on = let own = rows_have (λ j n. t (place_in Authority j n)) (f Authority) s.authorities k i on in omega arith
one_at t f s Bibliographic k i on = let own = rows_have (λ j n. t (place_in Bibliographic j n)) (f Bibliographic) s.bibliographic k i on in omega arith

apart_from : (p : Place) (places : List Place) → is_place_among places p ≡ false → (q : Place) → same_place p q ≡ true → is_place_among places q ≡ false
apart_from p places off q same = ap (is_place_among places) (sym (place_is p q same)) ∙ off

named_within : (f : Class → KeptField → ℕ) (s : State) (places : List Place) → AreOnce places → sum_by (number_at f s) places ≤ masked_state (is_place_among places) f s
named_within f s [] once = omega arith
named_within f s (p ∷ places) once =
    let all = sum_by-cons (number_at f s) p places in
    let split = state_either (same_place p) (is_place_among places) f s (apart_from p places once.0) in
    let own = one_at (same_place p) f s p.class p.key p.field (own_place p) in
    let rest = named_within f s places once.1 in
    omega arith

-- the numbers at places that are named once are together within the sum over the state
pub sum_within : (f : Class → KeptField → ℕ) (s : State) (places : List Place) → AreOnce places → sum_by (number_at f s) places ≤ sum_fields f s
sum_within f s places once =
    let named = named_within f s places once in
    let least = state_least (is_place_among places) f s in
    omega arith
