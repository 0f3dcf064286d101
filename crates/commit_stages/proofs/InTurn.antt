-- The fields of one record are settled in turn.
use Rattle.std.proofs.Common.{◌≡◌, ◌∙◌, sym, ap, refl, subst, ℕ, zero, suc, ◌+◌, ◌≤◌, ◌<◌, arith, List, [], ◌∷◌, ◌++◌, map, length, take, get_or, cond, Option, Some, None, Bool, true, false, ◌⊎◌, inl, inr}
use Rattle.std.specs.Prelude.{◌||◌, nat_le, slice_get, IfSome, if◌then◌else◌}
use Rattle.std.specs.List.{AllByRecursion, sum_by}
use Rattle.std.specs.Map.{lookup}
use Rattle.std.specs.Option.{option_and_then, option_map, option_map_or}
use Rattle.std.proofs.lemmas.Bool.{and_parts, leb-true}
use Rattle.std.proofs.lemmas.Cmp.{eq_by_cmp_equiv}
use Rattle.std.proofs.lemmas.List.{length-map}
use Rattle.std.proofs.lemmas.List.Sums.{sum_by-cons, sum_by-take-le, sum_by_more}
use Rattle.std.proofs.lemmas.Option.{slice_get-get_or, slice_get-map, slice_get_cases}
use Rattle.marc_types.specs.Valid.{is_record}
use Rattle.marc_types.specs.Order.{place_cmp_total, same_key}
use Rattle.marc_types.specs.declared.field.Field.{Field}
use Rattle.marc_types.specs.declared.key.Class.{Class}
use Rattle.marc_types.specs.declared.key.Key.{Key}
use Rattle.marc_types.specs.declared.key.Place.{Place}
use Rattle.entry_record.specs.Authority.{Linkable}
use Rattle.numbering.specs.declared.seat.Seat.{Seat}
use Rattle.form_index.specs.Order.{key_at}
use Rattle.catalogue_rules.specs.State.{KeptField, KeptRecord, Row, State, fields_of, linkable_authorities, new_field, rows_of}
use Rattle.catalogue_rules.specs.Settle.{settle_field}
use Rattle.catalogue_rules.specs.Receipt.{kept_under}
use Rattle.catalogue_rules.specs.Store.{field_at, field_under}
use Rattle.catalogue_tables.specs.Seam.{HasKey, KeyLists, keys_in, place_at}
use Rattle.linking_laws.specs.Middle.{IsMiddle}
use Rattle.linking_laws.specs.Partway.{AreOwnDone, HasAtMost, changed_among, is_place_among, own_places, same_place}
use Rattle.linking_laws.specs.Receipts.{place_in}
use Rattle.linking_laws.specs.Tables.{AreOnce}
use Rattle.linking_laws.specs.Visits.{own_row_visits, own_visits}
use Rattle.linking_laws.proofs.Heart.{any_append}
use Rattle.linking_laws.proofs.Listed.{place_by_order}
use Rattle.linking_laws.proofs.Owning.{own_settled}
use Rattle.linking_laws.proofs.Settling.{settle_either}
use Rattle.linking_laws.proofs.Taken.{all_taken, next_own}
use Rattle.linked_store.specs.Linked.{IsAhead, IsNumber, Linked, ListsSeats, field_of, key_of, record_at}
use Rattle.commit_stages.specs.Turns.{IsOnTheWay, IsToDo, IsTurned, visits_at}
use Rattle.commit_stages.specs.Unlinked.{has_no_link}
use Rattle.commit_stages.proofs.Turning.{ahead_then, begins, goes_on, map_join}
use Rattle.commit_stages.specs.OwnFields.{HasFieldsAsCame, IsOwnSettled, own_seat, own_seats, own_visits_of}
use Rattle.commit_stages.proofs.SettledFields.{ordered, with_all}

-- ---- the seats of one record

own_places_are : (keys : KeyLists) (class : Class) (number n : ℕ) → map (place_at keys) (own_seats class number n) ≡ own_places class (key_at (keys_in class keys) number) n
own_places_are keys class number zero = refl
own_places_are keys class number (suc n) =
    map_join (place_at keys) (own_seats class number n) (own_seat class number n ∷ [])
    ∙ ap (λ (l : List Place). l ++ place_in class (key_at (keys_in class keys) number) n ∷ []) (own_places_are keys class number n)

all_with : {A : Type 0} (P : A → Type 0) (xs : List A) (y : A) → AllByRecursion P xs → P y → AllByRecursion P (xs ++ y ∷ [])
all_with P [] y all last = (last, tt)
all_with P (x ∷ xs) y all last = (all.0, all_with P xs y all.1 last)

own_known : (keys : KeyLists) (class : Class) (number n : ℕ) → IsNumber class number keys → AllByRecursion (HasKey keys) (own_seats class number n)
own_known keys class number zero known = tt
own_known keys class number (suc n) known = all_with (HasKey keys) (own_seats class number n) (own_seat class number n) (own_known keys class number n known) known

place_turned : (p q : Place) → same_place p q ≡ same_place q p
place_turned p q = place_by_order p q ∙ (eq_by_cmp_equiv place_cmp_total).symm p q ∙ sym (place_by_order q p)

or_first : (a b : Bool) → (a || b) ≡ false → a ≡ false
or_first true b e = e
or_first false b e = refl

or_second : (a b : Bool) → (a || b) ≡ false → b ≡ false
or_second true b e = cc
or_second false b e = e

neither : (a b : Bool) → a ≡ false → b ≡ false → (a || (b || false)) ≡ false
neither true b first second = cc
neither false true first second = cc
neither false false first second = refl

once_more : (places : List Place) (p : Place) → AreOnce places → is_place_among places p ≡ false → AreOnce (places ++ p ∷ [])
once_more [] p once off = (refl, tt)
once_more (q ∷ places) p once off =
    let differs : same_place q p ≡ false = or_first (same_place q p) (is_place_among places p) off in
    let rest : is_place_among places p ≡ false = or_second (same_place q p) (is_place_among places p) off in (
      any_append (λ (r : Place). same_place r q) places (p ∷ []) ∙ neither (is_place_among places q) (same_place p q) once.0 (place_turned p q ∙ differs),
      once_more places p once.1 rest,
    )

own_once : (class : Class) (key : Key) (n : ℕ) → AreOnce (own_places class key n)
own_once class key zero = tt
own_once class key (suc n) = once_more (own_places class key n) (place_in class key n) (own_once class key n) (next_own class key n)

own_lists : (keys : KeyLists) (class : Class) (number n : ℕ) → IsNumber class number keys
    → ListsSeats keys (is_place_among (map (place_at keys) (own_seats class number n))) (own_seats class number n)
own_lists keys class number n known = record {
  known = own_known keys class number n known;
  places = record {
    members_are = λ p. refl;
    once = subst AreOnce (sym (own_places_are keys class number n)) (own_once class (key_at (keys_in class keys) number) n);
  };
}

-- ---- what stands there

came_at : (o : Option KeptRecord) (fields : List Field) (i : ℕ) (f : Field) → option_map (λ (r : KeptRecord). r.fields) o ≡ Some (map new_field fields) → slice_get fields i ≡ Some f
    → option_and_then (field_at i) o ≡ Some (new_field f)
came_at None fields i f came there = cc
came_at (Some r) fields i f came there =
    let same : r.fields ≡ map new_field fields = cc in
    ap (λ (l : List KeptField). slice_get l i) same ∙ slice_get-map new_field fields i ∙ ap (option_map new_field) there

some_same : {T : Type 0} (x y : T) → Some x ≡ Some y → x ≡ y
some_same x y e = cc

-- a field stands at each place of a record
pub there_is : (fields : List Field) (i : ℕ) → i < length fields → (f : Field) × (f ≡ get_or fields i f)
there_is fields i low = by ((slice_get_cases fields i).1)
  where
    by : (((f : Field) × (i < length fields) × (slice_get fields i ≡ Some f) × (get_or fields i f ≡ f)) ⊎ ((length fields ≤ i) × (slice_get fields i ≡ None))) → (f : Field) × (f ≡ get_or fields i f)
    by (inl found) = (found.0, sym found.3)
    by (inr past) = absurd (omega (arith, low, past.0))

-- what the field at a seat takes
pub own_cost : (seat : Seat) (x : Linked) (all : List Linkable) (h : KeptField) (before after : ℕ) → field_of seat x ≡ Some h
    → after ≤ before + visits_at (own_visits all) x seat → after ≤ before + own_visits all seat.class h
own_cost seat x all h before after there step =
    let all_of : visits_at (own_visits all) x seat ≡ own_visits all seat.class h = ap {B = ℕ} (λ (o : Option KeptField). option_map_or (own_visits all seat.class) o 0) there in
    omega (arith, step, all_of)

-- ---- visits

row_sum : (all : List Linkable) (class : Class) (key : Key) (r : KeptRecord) (rows : List Row) → lookup (same_key key) rows ≡ Some r
    → sum_by (own_visits all class) r.fields ≤ sum_by (own_row_visits all class key) rows
row_sum all class key r [] e = cc
row_sum all class key r (row ∷ rows) e = at (same_key key row.0) (row_sum all class key r rows) refl e
  where
    at : (b : Bool) → (lookup (same_key key) rows ≡ Some r → sum_by (own_visits all class) r.fields ≤ sum_by (own_row_visits all class key) rows)
        → same_key key row.0 ≡ b → cond b (Some row.1) (lookup (same_key key) rows) ≡ Some r
        → sum_by (own_visits all class) r.fields ≤ sum_by (own_row_visits all class key) (row ∷ rows)
    at true behind same e =
        let is : row.1 ≡ r = some_same row.1 r e in
        let own : own_row_visits all class key row ≡ sum_by (own_visits all class) row.1.fields = ap {B = ℕ} (λ (b : Bool). if b then sum_by (own_visits all class) row.1.fields else 0) same in
        let whole = sum_by-cons (own_row_visits all class key) row rows in
        subst (λ (k : KeptRecord). sum_by (own_visits all class) k.fields ≤ sum_by (own_row_visits all class key) (row ∷ rows)) is (omega (arith, own, whole))
    at false behind same e =
        let rest = behind e in
        let whole = sum_by-cons (own_row_visits all class key) row rows in
        omega (arith, rest, whole)

came_sum : (all : List Linkable) (class : Class) (key : Key) (fields : List Field) (s : State) (o : Option KeptRecord) → kept_under class key s ≡ o
    → option_map (λ (r : KeptRecord). r.fields) o ≡ Some (map new_field fields) → sum_by (own_visits all class) (map new_field fields) ≤ own_visits_of all class key s
came_sum all class key fields s None e came = cc
came_sum all class key fields s (Some r) e came =
    subst (λ (l : List KeptField). sum_by (own_visits all class) l ≤ own_visits_of all class key s) (some_same r.fields (map new_field fields) came)
    (row_sum all class key r (rows_of class s) e)

came_most : (fields : List Field) (n : ℕ) (o : Option KeptRecord) (r : KeptRecord) → option_map (λ (k : KeptRecord). k.fields) o ≡ Some (map new_field fields) → length fields ≤ n
    → o ≡ Some r → length r.fields ≤ n
came_most fields n None r came most e = cc
came_most fields n (Some k) r came most e =
    let same : k.fields ≡ map new_field fields = some_same k.fields (map new_field fields) came in
    let long : length k.fields ≡ length fields = ap length same ∙ length-map fields new_field in
    subst (λ (x : KeptRecord). length x.fields ≤ n) (some_same k r e) (omega (arith, long, most))

few_in : (r : KeptRecord) → is_record r.leader (fields_of r) ≡ true → length r.fields ≤ 8331
unfolding is_record
few_in r proper =
    let low : length (fields_of r) ≤ 8331 = leb-true (length (fields_of r)) 8331 (and_parts _ (nat_le (length (fields_of r)) 8331) (and_parts _ _ proper).0).1 in
    subst (λ (n : ℕ). n ≤ 8331) (length-map r.fields (λ (h : KeptField). h.field)) low

came_few : (fields : List Field) (o : Option KeptRecord) → option_map (λ (k : KeptRecord). k.fields) o ≡ Some (map new_field fields)
    → IfSome o (λ (r : KeptRecord). is_record r.leader (fields_of r) ≡ true) → length fields ≤ 8331
came_few fields None came proper = cc
came_few fields (Some r) came proper =
    let few = few_in r proper in
    let same : r.fields ≡ map new_field fields = some_same r.fields (map new_field fields) came in
    let long : length r.fields ≡ length fields = ap length same ∙ length-map fields new_field in
    omega (arith, few, long)

-- so many fields of the record are settled
pub record IsInTurn (all : List Linkable) (class : Class) (number : ℕ) (fields : List Field) (i : ℕ) (old now : Linked) (before steps : ℕ) : Type 0 where
  pub way : IsOnTheWay all (settle_field all) (own_seats class number i) old now
  pub within : steps ≤ before + sum_by (own_visits all class) (take i (map new_field fields))

module _ (class : Class) (number : ℕ) (fields : List Field) (old : Linked) (before : ℕ) (known : IsNumber class number old.keys) (came : HasFieldsAsCame class number fields old) where
  abbrev all : List Linkable
  all = linkable_authorities old.state

  abbrev key : Key
  key = key_of class number old.keys

  pub own_begins : IsMiddle old.state → IsInTurn all class number fields 0 old old before before
  own_begins middle = record { way = begins all (settle_field all) old (with_all old.state middle); within = omega arith }

  module _ (i : ℕ) (f : Field) (now : Linked) (steps : ℕ) (low : i < length fields) (is : f ≡ get_or fields i f) (here : IsInTurn all class number fields i old now before steps) where
    abbrev seat : Seat
    seat = own_seat class number i

    got : slice_get fields i ≡ Some f
    got = slice_get-get_or fields i f low ∙ ap (λ (g : Field). Some g) (sym is)

    off : is_place_among (map (place_at old.keys) (own_seats class number i)) (place_at old.keys seat) ≡ false
    off = ap (λ (l : List Place). is_place_among l (place_at old.keys seat)) (own_places_are old.keys class number i) ∙ next_own class key i

    pub own_known_now : HasKey now.keys seat
    own_known_now = here.way.ahead.keys.seats seat known

    pub own_stands : field_of seat now ≡ Some (new_field f)
    own_stands =
        ap (λ (p : Place). field_under p now.state) (here.way.ahead.keys.places seat known)
        ∙ here.way.partway.fields_are (place_at old.keys seat)
        ∙ ap (option_map (changed_among (map (place_at old.keys) (own_seats class number i)) (settle_field all) (place_at old.keys seat)))
        (came_at (record_at class number old) fields i f came got)
        ∙ ap (λ (b : Bool). Some (if b then settle_field all class (new_field f) else new_field f)) off

    pub own_to_do : IsToDo has_no_link seat now
    own_to_do = record {
      known = own_known_now;
      passes = ap (λ (o : Option KeptField). option_map_or (has_no_link class) o false) own_stands;
    }

    sum_on : sum_by (own_visits all class) (take (i + 1) (map new_field fields)) ≡ sum_by (own_visits all class) (take i (map new_field fields)) + own_visits all class (new_field f)
    sum_on =
        sum_by_more (own_visits all class) (map new_field fields) i (new_field f) low_in
        ∙ ap (λ (g : KeptField). sum_by (own_visits all class) (take i (map new_field fields)) + own_visits all class g) this_one
      where
        low_in : i < length (map new_field fields)
        low_in = subst (λ (n : ℕ). i < n) (sym (length-map fields new_field)) low

        this_one : get_or (map new_field fields) i (new_field f) ≡ new_field f
        this_one =
            some_same (get_or (map new_field fields) i (new_field f)) (new_field f)
            (sym (slice_get-get_or (map new_field fields) i (new_field f) low_in) ∙ slice_get-map new_field fields i ∙ ap (option_map new_field) got)

    pub own_goes_on : (new : Linked) (after : ℕ) → IsTurned (settle_field (linkable_authorities now.state)) seat now new
        → after ≤ steps + own_visits (linkable_authorities now.state) class (new_field f) → IsInTurn all class number fields (i + 1) old new before after
    own_goes_on new after turned step =
        let turned_so : IsTurned (settle_field all) seat now new = subst (λ (l : List Linkable). IsTurned (settle_field l) seat now new) here.way.middle.authorities_are turned in
        let cost : after ≤ steps + own_visits all class (new_field f) =
        subst (λ (l : List Linkable). after ≤ steps + own_visits l class (new_field f)) here.way.middle.authorities_are step in
        let so_far = here.within in
        let more = sum_on in
        let next : suc i ≡ i + 1 = omega arith in
        record {
          way = subst (λ (n : ℕ). IsOnTheWay all (settle_field all) (own_seats class number n) old new) next
              (goes_on all (settle_field all) (is_place_among (map (place_at old.keys) (own_seats class number (suc i)))) (own_seats class number i) [] seat (new_field f) old now new
              (settle_either all) (own_lists old.keys class number (suc i) known) here.way own_stands
              (record { ahead = turned_so.ahead; state = turned_so.state (new_field f) own_stands }));
          within = omega (arith, cost, so_far, more);
        }

    pub own_stops : (new : Linked) → IsAhead now new → IsAhead old new
    own_stops new ahead = ahead_then old now new here.way.ahead ahead

    pub own_visits_stop : (after : ℕ) → after ≤ steps + own_visits (linkable_authorities now.state) class (new_field f) → after ≤ before + own_visits_of all class key old.state
    own_visits_stop after step =
        let cost : after ≤ steps + own_visits all class (new_field f) =
        subst (λ (l : List Linkable). after ≤ steps + own_visits l class (new_field f)) here.way.middle.authorities_are step in
        let so_far = here.within in
        let more = sum_on in
        let part = sum_by-take-le (own_visits all class) (map new_field fields) (i + 1) in
        let whole = came_sum all class key fields old.state (record_at class number old) refl came in
        omega (arith, cost, so_far, more, part, whole)

  module _ (n : ℕ) (now : Linked) (steps : ℕ) (past : length fields ≤ n) (here : IsInTurn all class number fields n old now before steps) where
    pub own_ends : IsMiddle old.state → IsOwnSettled all class key old now
    own_ends middle =
        let places : map (place_at old.keys) (own_seats class number n) ≡ own_places class key n = own_places_are old.keys class number n in
        let most : HasAtMost class key n old.state = λ r there. came_most fields n (record_at class number old) r came past there in
        record {
          ahead = here.way.ahead;
          state = sym (own_settled all class key (map (place_at old.keys) (own_seats class number n)) old.state now.state (ordered old.state middle) here.way.partway
              (subst (λ (l : List Place). AreOwnDone class key l old.state) (sym places) (all_taken class key n old.state most)));
          middle = here.way.middle;
        }

    pub own_visits_end : steps ≤ before + own_visits_of all class key old.state
    own_visits_end =
        let so_far = here.within in
        let part = sum_by-take-le (own_visits all class) (map new_field fields) n in
        let whole = came_sum all class key fields old.state (record_at class number old) refl came in
        omega (arith, so_far, part, whole)

  -- a record has few fields
  pub own_few : IfSome (record_at class number old) (λ (r : KeptRecord). is_record r.leader (fields_of r) ≡ true) → length fields ≤ 8331
  own_few proper = came_few fields (record_at class number old) came proper
