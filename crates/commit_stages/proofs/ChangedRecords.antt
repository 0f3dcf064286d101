-- The records that an authority's commit changed are those with a seat that its stages noted.
use Rattle.std.proofs.Common.{◌≡◌, ◌∙◌, sym, ap, refl, subst, ℕ, ◌+◌, ◌<◌, Bool, true, false, List, [], ◌∷◌, length, map, Option, Some, None}
use Rattle.std.specs.Prelude.{◌||◌, ◌&&◌, ◌==◌, not, nat_eq, IsSome}
use Rattle.std.specs.Cmp.{unsigned_Decides}
use Rattle.std.specs.List.{AllByRecursion, IsDistinct, list_any}
use Rattle.std.specs.Option.{option_and_then}
use Rattle.std.proofs.lemmas.Bool.{and_parts}
use Rattle.std.proofs.lemmas.List.{length-map}
use Rattle.std.proofs.lemmas.Map.Keys.{IsDistinct-head, IsDistinct-tail}
use mathlib.Core.Bool.{false≢true}
use Rattle.marc_types.specs.Order.{key_Decides, same_key}
use Rattle.marc_types.specs.declared.entry.Entry.{Entry}
use Rattle.marc_types.specs.declared.key.Class.{Class}
use Rattle.marc_types.specs.declared.key.Class.TheVariants.{Authority, Bibliographic}
use Rattle.marc_types.specs.declared.key.Key.{Key}
use Rattle.marc_types.specs.declared.key.Place.{Place}
use Rattle.numbering.specs.Numbers.{is_known, number_of}
use Rattle.numbering.specs.Seats.{same_seat, seat_Decides}
use Rattle.numbering.specs.declared.seat.Seat.{Seat}
use Rattle.numbering.proofs.Numberlaws.{number_below}
use Rattle.form_index.specs.Order.{key_at}
use Rattle.catalogue_rules.specs.Receipt.{is_committed, kept_under, same_class}
use Rattle.catalogue_rules.specs.Settle.{Arrival, arrival_of, step}
use Rattle.catalogue_rules.specs.State.{KeptField, KeptRecord, State}
use Rattle.catalogue_rules.specs.Store.{field_at}
use Rattle.catalogue_tables.specs.Seam.{AreDistinct, HasKey, keys_in, place_at}
use Rattle.catalogue_tables.proofs.Seams.{key_numbered}
use Rattle.linking_laws.specs.Changes.{carry_of_commit, choose_of_commit, differs_at, drop_of_commit, is_changed_by_stages, state_dropped, state_own_settled}
use Rattle.linking_laws.specs.Commits.{CanBeCommitted, placed_by}
use Rattle.linking_laws.specs.Receipts.{AreChanged, IsExchanged, is_key_among, place_in, receipt_by}
use Rattle.linking_laws.specs.Receipts as receipts
use Rattle.linking_laws.proofs.Counts.{changed_number}
use Rattle.linking_laws.proofs.Exchanged.{exchanged_by_stages, exchange_told, exchange_tells}
use Rattle.linking_laws.proofs.Partial.{class_same}
use Rattle.linked_store.specs.Linked.{IsAhead, IsNumber, Linked, key_of}
use Rattle.commit_stages.specs.Noted.{AreRecordNumbers, AreRecordsOf, NotesChanges, changes_at, is_record_of, is_seat_of}
use Rattle.commit_stages.proofs.Turning.{ahead_then}
use Rattle.commit_stages.proofs.Numbers.{key_of_known}

-- ---- booleans

or_left : (a b : Bool) → a ≡ true → (a || b) ≡ true
or_left true b e = refl
or_left false b e = cc

or_right : (a b : Bool) → b ≡ true → (a || b) ≡ true
or_right true b e = refl
or_right false b e = e

or_new : (a b : Bool) → a ≡ false → (a || b) ≡ true → b ≡ true
or_new true b e f = cc
or_new false b e f = f

both : (a b : Bool) → a ≡ true → b ≡ true → (a && b) ≡ true
both true b e f = f
both false b e f = cc

class_itself : (class : Class) → same_class class class ≡ true
class_itself Authority = refl
class_itself Bibliographic = refl

-- ---- seats in a list

itself : (seat : Seat) → same_seat seat seat ≡ true
itself seat = (seat_Decides seat seat).1 refl

-- a seat in the list that passes
record IsWitness (test : Seat → Bool) (seats : List Seat) : Type 0 where
  seat : Seat
  is_in : list_any (same_seat seat) seats ≡ true
  passes : test seat ≡ true

witness_at : (test : Seat → Bool) (one : Seat) (seats : List Seat) (b : Bool) → test one ≡ b → (list_any test seats ≡ true → IsWitness test seats) → (b || list_any test seats) ≡ true
    → IsWitness test (one ∷ seats)
witness_at test one seats true is rest h = record { seat = one; is_in = or_left (same_seat one one) (list_any (same_seat one) seats) (itself one); passes = is }
witness_at test one seats false is rest h =
    let w = rest h in
    record { seat = w.seat; is_in = or_right (same_seat w.seat one) (list_any (same_seat w.seat) seats) w.is_in; passes = w.passes }

witness : (test : Seat → Bool) (seats : List Seat) → list_any test seats ≡ true → IsWitness test seats
witness test [] e = cc
witness test (one ∷ seats) e = witness_at test one seats (test one) refl (witness test seats) e

member_at : (test : Seat → Bool) (seat one : Seat) (seats : List Seat) (b : Bool) → same_seat seat one ≡ b → (list_any (same_seat seat) seats ≡ true → list_any test seats ≡ true)
    → (b || list_any (same_seat seat) seats) ≡ true → test seat ≡ true → list_any test (one ∷ seats) ≡ true
member_at test seat one seats true is rest h passes = or_left (test one) (list_any test seats) (ap test (sym ((seat_Decides seat one).0 is)) ∙ passes)
member_at test seat one seats false is rest h passes = or_right (test one) (list_any test seats) (rest h)

member : (test : Seat → Bool) (seat : Seat) (seats : List Seat) → list_any (same_seat seat) seats ≡ true → test seat ≡ true → list_any test seats ≡ true
member test seat [] e passes = cc
member test seat (one ∷ seats) e passes = member_at test seat one seats (same_seat seat one) refl (λ h. member test seat seats h passes) e passes

-- ---- what the stages noted

pub record IsNoted (s : State) (e : Entry) (x0 x1 x2 x4 x5 : Linked) (n1 n2 n3 : List Seat) : Type 0 where
  pub start : x0.state ≡ s
  pub placed : x1.state ≡ placed_by Authority s e
  pub dropped : x2.state ≡ state_dropped s e
  pub settled : x4.state ≡ state_own_settled s e
  pub first : IsAhead x0 x1
  pub second : IsAhead x1 x2
  pub third : IsAhead x2 x4
  pub last : IsAhead x4 x5
  pub by_drop : NotesChanges (drop_of_commit s e) x1 [] n1
  pub by_carry : NotesChanges (carry_of_commit s e) x2 n1 n2
  pub by_choice : NotesChanges (choose_of_commit s e) x4 n2 n3

-- a stage that changes a seat's field differs at its place
differs_then : (f : Class → KeptField → KeptField) (x y : Linked) (t : State) (seat : Seat) → x.state ≡ t → IsAhead x y → HasKey x.keys seat → changes_at f x seat ≡ true
    → differs_at f t (place_at y.keys seat) ≡ true
differs_then f x y t seat at ahead known changes =
    ap (differs_at f t) (ahead.keys.places seat known) ∙ ap (λ (u : State). differs_at f u (place_at x.keys seat)) (sym at) ∙ changes

differs_before : (f : Class → KeptField → KeptField) (x y : Linked) (t : State) (seat : Seat) → x.state ≡ t → IsAhead y x → HasKey y.keys seat
    → differs_at f t (place_at y.keys seat) ≡ true → changes_at f x seat ≡ true
differs_before f x y t seat at ahead known differs =
    ap (differs_at f x.state) (ahead.keys.places seat known) ∙ ap (λ (u : State). differs_at f u (place_at y.keys seat)) at ∙ differs

module _ (s : State) (e : Entry) (x0 x1 x2 x4 x5 : Linked) (n1 n2 n3 : List Seat) (noted : IsNoted s e x0 x1 x2 x4 x5 n1 n2 n3) where
  abbrev a : Arrival
  a = arrival_of e

  from_two : IsAhead x2 x5
  from_two = ahead_then x2 x4 x5 noted.third noted.last

  from_one : IsAhead x1 x5
  from_one = ahead_then x1 x2 x5 noted.second from_two

  -- ---- a noted seat is one of a changed place

  record IsChangedSeat (seat : Seat) : Type 0 where
    known : HasKey x5.keys seat
    changed : is_changed_by_stages s e (place_at x5.keys seat) ≡ true

  abbrev first_differs : Place → Bool
  first_differs = differs_at (drop_of_commit s e) (placed_by Authority s e)

  abbrev second_differs : Place → Bool
  second_differs = differs_at (carry_of_commit s e) (state_dropped s e)

  abbrev third_differs : Place → Bool
  third_differs = differs_at (choose_of_commit s e) (state_own_settled s e)

  -- a seat that a stage noted has a changed place if it has one where it was noted before, and where the stage differs
  stage_seat : (change : Class → KeptField → KeptField) (x : Linked) (t : State) (before now : List Seat) (seat : Seat) → x.state ≡ t → IsAhead x x5 → NotesChanges change x before now
      → list_any (same_seat seat) now ≡ true → (list_any (same_seat seat) before ≡ true → IsChangedSeat seat)
      → (differs_at change t (place_at x5.keys seat) ≡ true → is_changed_by_stages s e (place_at x5.keys seat) ≡ true) → IsChangedSeat seat
  stage_seat change x t before now seat state ahead notes is was differs = at (list_any (same_seat seat) before) refl
    where
      at : (b : Bool) → list_any (same_seat seat) before ≡ b → IsChangedSeat seat
      at true old = was old
      at false new =
          let known : HasKey x.keys seat = notes.known seat is new in
          let changes = or_new (list_any (same_seat seat) before) (changes_at change x seat) new (sym (notes.noted seat known) ∙ is) in
          record { known = ahead.keys.seats seat known; changed = differs (differs_then change x x5 t seat state ahead known changes) }

  dropped_seat : (seat : Seat) → list_any (same_seat seat) n1 ≡ true → IsChangedSeat seat
  dropped_seat seat is =
      let p = place_at x5.keys seat in
      stage_seat (drop_of_commit s e) x1 (placed_by Authority s e) [] n1 seat noted.placed from_one noted.by_drop is (λ none. absurd (false≢true none))
      (λ d. or_left (first_differs p || second_differs p) (third_differs p) (or_left (first_differs p) (second_differs p) d))

  carried_seat : (seat : Seat) → list_any (same_seat seat) n2 ≡ true → IsChangedSeat seat
  carried_seat seat is =
      let p = place_at x5.keys seat in
      stage_seat (carry_of_commit s e) x2 (state_dropped s e) n1 n2 seat noted.dropped from_two noted.by_carry is (dropped_seat seat)
      (λ d. or_left (first_differs p || second_differs p) (third_differs p) (or_right (first_differs p) (second_differs p) d))

  noted_seat : (seat : Seat) → list_any (same_seat seat) n3 ≡ true → IsChangedSeat seat
  noted_seat seat is =
      let p = place_at x5.keys seat in
      stage_seat (choose_of_commit s e) x4 (state_own_settled s e) n2 n3 seat noted.settled noted.last noted.by_choice is (carried_seat seat)
      (or_right (first_differs p || second_differs p) (third_differs p))

  -- ---- a seat of a changed place is noted

  module _ (seat : Seat) (known : HasKey x0.keys seat) where
    to_two : IsAhead x0 x2
    to_two = ahead_then x0 x1 x2 noted.first noted.second

    to_four : IsAhead x0 x4
    to_four = ahead_then x0 x2 x4 to_two noted.third

    abbrev place : Place
    place = place_at x0.keys seat

    in_one : first_differs place ≡ true → list_any (same_seat seat) n1 ≡ true
    in_one differs =
        noted.by_drop.noted seat (noted.first.keys.seats seat known)
        ∙ differs_before (drop_of_commit s e) x1 x0 (placed_by Authority s e) seat noted.placed noted.first known differs

    in_two : list_any (same_seat seat) n1 ≡ true → list_any (same_seat seat) n2 ≡ true
    in_two was =
        noted.by_carry.noted seat (to_two.keys.seats seat known)
        ∙ or_left (list_any (same_seat seat) n1) (changes_at (carry_of_commit s e) x2 seat) was

    new_in_two : second_differs place ≡ true → list_any (same_seat seat) n2 ≡ true
    new_in_two differs =
        noted.by_carry.noted seat (to_two.keys.seats seat known)
        ∙ or_right (list_any (same_seat seat) n1) (changes_at (carry_of_commit s e) x2 seat)
        (differs_before (carry_of_commit s e) x2 x0 (state_dropped s e) seat noted.dropped to_two known differs)

    in_three : list_any (same_seat seat) n2 ≡ true → list_any (same_seat seat) n3 ≡ true
    in_three was =
        noted.by_choice.noted seat (to_four.keys.seats seat known)
        ∙ or_left (list_any (same_seat seat) n2) (changes_at (choose_of_commit s e) x4 seat) was

    new_in_three : third_differs place ≡ true → list_any (same_seat seat) n3 ≡ true
    new_in_three differs =
        noted.by_choice.noted seat (to_four.keys.seats seat known)
        ∙ or_right (list_any (same_seat seat) n2) (changes_at (choose_of_commit s e) x4 seat)
        (differs_before (choose_of_commit s e) x4 x0 (state_own_settled s e) seat noted.settled to_four known differs)

    is_noted : is_changed_by_stages s e place ≡ true → list_any (same_seat seat) n3 ≡ true
    is_noted changed = at (first_differs place) (second_differs place) refl refl changed
      where
        at : (b d : Bool) → first_differs place ≡ b → second_differs place ≡ d → (b || d || third_differs place) ≡ true → list_any (same_seat seat) n3 ≡ true
        at true d one two h = in_three (in_two (in_one one))
        at false true one two h = in_three (new_in_two two)
        at false false one two h = new_in_three h

  -- ---- records

  module _ (c : CanBeCommitted Authority s e) (number count : ℕ) (distinct : AreDistinct x5.keys) (own : key_of Authority number x5.keys ≡ e.key) (low : IsNumber Authority number x5.keys)
      (numbered : (class : Class) (key : Key) → IsSome (kept_under class key x0.state) → is_known same_key (keys_in class x0.keys) key ≡ true) where
    once_in : (class : Class) → IsDistinct same_key (keys_in class x5.keys)
    once_in Authority = distinct.authorities
    once_in Bibliographic = distinct.bibliographic

    -- two numbers with one key are one number
    same_number : (class : Class) (n m : ℕ) → IsNumber class n x5.keys → IsNumber class m x5.keys → key_of class n x5.keys ≡ key_of class m x5.keys → n ≡ m
    same_number class n m first second same =
        (key_numbered (keys_in class x5.keys) n (once_in class) first).is
        ∙ ap (number_of same_key (keys_in class x5.keys)) same ∙ sym (key_numbered (keys_in class x5.keys) m (once_in class) second).is

    apart_keys : (class : Class) (n m : ℕ) → IsNumber class n x5.keys → IsNumber class m x5.keys → nat_eq n m ≡ false → same_key (key_of class n x5.keys) (key_of class m x5.keys) ≡ false
    apart_keys class n m first second apart = at (same_key (key_of class n x5.keys) (key_of class m x5.keys)) refl
      where
        at : (b : Bool) → same_key (key_of class n x5.keys) (key_of class m x5.keys) ≡ b → b ≡ false
        at false e = refl
        at true e =
            let same : n ≡ m = same_number class n m first second ((key_Decides (key_of class n x5.keys) (key_of class m x5.keys)).0 e) in
            absurd (false≢true (sym apart ∙ (unsigned_Decides n m).1 same))

    module _ (class : Class) (numbers : List ℕ) (are : AreRecordNumbers n3 Authority number class numbers) where
      abbrev keys : List Key
      keys = map (λ n. key_of class n x5.keys) numbers

      record IsSeatedAt (n : ℕ) : Type 0 where
        seat : Seat
        is_in : list_any (same_seat seat) n3 ≡ true
        class_is : class ≡ seat.class
        number_is : n ≡ seat.number
        other : is_record_of Authority number class n ≡ false

      not_true : (b : Bool) → not b ≡ true → b ≡ false
      not_true true e = cc
      not_true false e = refl

      seated : (n : ℕ) → list_any (nat_eq n) numbers ≡ true → IsSeatedAt n
      seated n is =
          let parts = and_parts (list_any (is_seat_of class n) n3) (not (is_record_of Authority number class n)) (sym (are.are n) ∙ is) in
          let w = witness (is_seat_of class n) n3 parts.0 in
          let both = and_parts (same_class class w.seat.class) (n == w.seat.number) w.passes in
          record {
            seat = w.seat;
            is_in = w.is_in;
            class_is = class_same class w.seat.class both.0;
            number_is = (unsigned_Decides n w.seat.number).0 both.1;
            other = not_true (is_record_of Authority number class n) parts.1;
          }

      low_number : (n : ℕ) → list_any (nat_eq n) numbers ≡ true → IsNumber class n x5.keys
      low_number n is =
          let w = seated n is in
          subst (λ (m : ℕ). IsNumber class m x5.keys) (sym w.number_is)
          (subst (λ (k : Class). IsNumber k w.seat.number x5.keys) (sym w.class_is) (noted_seat w.seat w.is_in).known)

      not_own : (n : ℕ) → list_any (nat_eq n) numbers ≡ true → is_committed a class (key_of class n x5.keys) ≡ false
      not_own n is = ap (λ (k : Class). same_class k class && same_key e.key (key_of class n x5.keys)) c.class_is ∙ at class n (seated n is).other (low_number n is)
        where
          at : (k : Class) (n : ℕ) → is_record_of Authority number k n ≡ false → IsNumber k n x5.keys → (same_class Authority k && same_key e.key (key_of k n x5.keys)) ≡ false
          at Authority n other known = ap (λ (k : Key). same_key k (key_of Authority n x5.keys)) (sym own) ∙ apart_keys Authority number n low known other
          at Bibliographic n other known = refl

      exchanged : (n : ℕ) → list_any (nat_eq n) numbers ≡ true → (i : ℕ) × IsExchanged (place_in class (key_of class n x5.keys) i) s (step s a)
      exchanged n is =
          let w = seated n is in
          let p = place_in class (key_of class n x5.keys) w.seat.field in
          let same : place_at x5.keys w.seat ≡ p = λ i. place_in (sym w.class_is i) (key_at (keys_in (sym w.class_is i) x5.keys) (sym w.number_is i)) w.seat.field in
          let changed : is_changed_by_stages s e p ≡ true = ap (is_changed_by_stages s e) (sym same) ∙ (noted_seat w.seat w.is_in).changed in
          (w.seat.field, exchange_told p s (step s a) (exchanged_by_stages s e p c (not_own n is) ∙ changed))

      -- a key that is listed is one of these numbers'
      record IsListedAt (key : Key) : Type 0 where
        number_of_key : ℕ
        is_in : list_any (nat_eq number_of_key) numbers ≡ true
        key_is : key_of class number_of_key x5.keys ≡ key

      listed_at : (key : Key) (n : ℕ) (ns : List ℕ) (b : Bool) → same_key key (key_of class n x5.keys) ≡ b
          → ((m : ℕ) → list_any (nat_eq m) (n ∷ ns) ≡ true → list_any (nat_eq m) numbers ≡ true)
          → (list_any (same_key key) (map (λ n. key_of class n x5.keys) ns) ≡ true → IsListedAt key)
          → (b || list_any (same_key key) (map (λ n. key_of class n x5.keys) ns)) ≡ true → IsListedAt key
      listed_at key n ns true same into rest h = record {
        number_of_key = n;
        is_in = into n (or_left (nat_eq n n) (list_any (nat_eq n) ns) ((unsigned_Decides n n).1 refl));
        key_is = sym ((key_Decides key (key_of class n x5.keys)).0 same);
      }
      listed_at key n ns false same into rest h = rest h

      listed_in : (key : Key) (ns : List ℕ) → ((n : ℕ) → list_any (nat_eq n) ns ≡ true → list_any (nat_eq n) numbers ≡ true)
          → list_any (same_key key) (map (λ n. key_of class n x5.keys) ns) ≡ true → IsListedAt key
      listed_in key [] into h = cc
      listed_in key (n ∷ ns) into h =
          listed_at key n ns (same_key key (key_of class n x5.keys)) refl into (listed_in key ns (λ m e. into m (or_right (nat_eq m n) (list_any (nat_eq m) ns) e))) h

      listed : (key : Key) → is_key_among keys key ≡ true → IsListedAt key
      listed key is = listed_in key numbers (λ n e. e) is

      absent : (n : ℕ) → IsNumber class n x5.keys → (ms : List ℕ) → AllByRecursion (λ m. nat_eq n m ≡ false) ms → ((m : ℕ) → list_any (nat_eq m) ms ≡ true → IsNumber class m x5.keys)
          → is_key_among (map (λ n. key_of class n x5.keys) ms) (key_of class n x5.keys) ≡ false
      absent n own_low [] apart lows = refl
      absent n own_low (m ∷ ms) apart lows =
          let head : same_key (key_of class n x5.keys) (key_of class m x5.keys) ≡ false =
          apart_keys class n m own_low (lows m (or_left (nat_eq m m) (list_any (nat_eq m) ms) ((unsigned_Decides m m).1 refl))) apart.0 in
          ap (λ b. b || is_key_among (map (λ n. key_of class n x5.keys) ms) (key_of class n x5.keys)) head
          ∙ absent n own_low ms apart.1 (λ k e. lows k (or_right (nat_eq k m) (list_any (nat_eq k) ms) e))

      once_keys : (ns : List ℕ) → IsDistinct nat_eq ns → ((n : ℕ) → list_any (nat_eq n) ns ≡ true → IsNumber class n x5.keys) → receipts.AreDistinct (map (λ n. key_of class n x5.keys) ns)
      once_keys [] once lows = tt
      once_keys (n ∷ ns) once lows =
          let rest : (m : ℕ) → list_any (nat_eq m) ns ≡ true → IsNumber class m x5.keys = λ m e. lows m (or_right (nat_eq m n) (list_any (nat_eq m) ns) e) in
          let own_low : IsNumber class n x5.keys = lows n (or_left (nat_eq n n) (list_any (nat_eq n) ns) ((unsigned_Decides n n).1 refl)) in
          (absent n own_low ns (IsDistinct-head nat_eq n ns once) rest, once_keys ns (IsDistinct-tail nat_eq n ns once) rest)

      among_at : (key : Key) (n m : ℕ) (ns : List ℕ) (b : Bool) → key_of class n x5.keys ≡ key → nat_eq n m ≡ b
          → (list_any (nat_eq n) ns ≡ true → is_key_among (map (λ n. key_of class n x5.keys) ns) key ≡ true) → (b || list_any (nat_eq n) ns) ≡ true
          → is_key_among (map (λ n. key_of class n x5.keys) (m ∷ ns)) key ≡ true
      among_at key n m ns true key_is same rest h =
          or_left (same_key key (key_of class m x5.keys)) (is_key_among (map (λ n. key_of class n x5.keys) ns) key)
          ((key_Decides key (key_of class m x5.keys)).1 (sym key_is ∙ ap (λ (k : ℕ). key_of class k x5.keys) ((unsigned_Decides n m).0 same)))
      among_at key n m ns false key_is same rest h = or_right (same_key key (key_of class m x5.keys)) (is_key_among (map (λ n. key_of class n x5.keys) ns) key) (rest h)

      among : (key : Key) (n : ℕ) → key_of class n x5.keys ≡ key → (ns : List ℕ) → list_any (nat_eq n) ns ≡ true → is_key_among (map (λ n. key_of class n x5.keys) ns) key ≡ true
      among key n key_is [] h = cc
      among key n key_is (m ∷ ns) h = among_at key n m ns (nat_eq n m) key_is refl (among key n key_is ns) h

      another : (k : Class) (key : Key) (n : ℕ) → key_of k n x5.keys ≡ key → is_committed a k key ≡ false → is_record_of Authority number k n ≡ false
      another Bibliographic key n key_is other = refl
      another Authority key n key_is other = at (number == n) refl
        where
          apart : same_key e.key key ≡ false
          apart = ap (λ (k : Class). same_class k Authority && same_key e.key key) (sym c.class_is) ∙ other

          at : (b : Bool) → (number == n) ≡ b → b ≡ false
          at false same = refl
          at true same =
              let number_is : number ≡ n = (unsigned_Decides number n).0 same in
              let keys_are : e.key ≡ key = sym own ∙ ap (λ (m : ℕ). key_of Authority m x5.keys) number_is ∙ key_is in
              absurd (false≢true (sym apart ∙ (key_Decides e.key key).1 keys_are))

      there : (key : Key) (i : ℕ) (h : KeptField) (o : Option KeptRecord) → option_and_then (field_at i) o ≡ Some h → IsSome o
      there key i h None e = cc
      there key i h (Some r) e = refl

      all_listed : (key : Key) (i : ℕ) → is_committed a class key ≡ false → IsExchanged (place_in class key i) s (step s a) → is_key_among keys key ≡ true
      all_listed key i other exchange =
          let keys0 = keys_in class x0.keys in
          let known : is_known same_key keys0 key ≡ true =
          numbered class key (subst (λ (t : State). IsSome (kept_under class key t)) (sym noted.start) (there key i exchange.old (kept_under class key s) exchange.stood)) in
          let n = number_of same_key keys0 key in
          let low0 : n < length keys0 = number_below same_key keys0 key known in
          let seat : Seat = record { class = class; number = n; field = i } in
          let stands : place_at x0.keys seat ≡ place_in class key i = ap (λ (k : Key). place_in class k i) (key_of_known keys0 key known) in
          let changed : is_changed_by_stages s e (place_at x0.keys seat) ≡ true =
          ap (is_changed_by_stages s e) stands ∙ sym (exchanged_by_stages s e (place_in class key i) c other) ∙ exchange_tells (place_in class key i) s (step s a) exchange in
          let is : list_any (same_seat seat) n3 ≡ true = is_noted seat low0 changed in
          let from_zero = ahead_then x0 x1 x5 noted.first from_one in
          let key_is : key_of class n x5.keys ≡ key = ap (λ (p : Place). p.key) (from_zero.keys.places seat low0 ∙ stands) in
          let first : list_any (is_seat_of class n) n3 ≡ true = member (is_seat_of class n) seat n3 is (both (same_class class class) (n == n) (class_itself class) ((unsigned_Decides n n).1 refl)) in
          let second : not (is_record_of Authority number class n) ≡ true = ap not (another class key n key_is other) in
          among key n key_is numbers (are.are n ∙ both (list_any (is_seat_of class n) n3) (not (is_record_of Authority number class n)) first second)

      -- ---- the whole

      pub changed_keys : AreChanged a s (step s a) class keys
      changed_keys = record {
        distinct = once_keys numbers are.once low_number;
        other = λ key is. let l = listed key is in ap (is_committed a class) (sym l.key_is) ∙ not_own l.number_of_key l.is_in;
        changed = λ key is. let l = listed key is in
            subst (λ (k : Key). (i : ℕ) × IsExchanged (place_in class k i) s (step s a)) l.key_is (exchanged l.number_of_key l.is_in);
        all = all_listed;
      }

    pub changed_count : AreRecordsOf n3 Authority number count → (at : ℕ) → (receipt_by at s e).changed_records ≡ count
    changed_count records at =
        changed_number at s e Authority _ _ c (changed_keys Authority records.authorities records.authorities_are) (changed_keys Bibliographic records.bibliographic records.bibliographic_are)
        ∙ (λ i. length-map records.authorities (λ n. key_of Authority n x5.keys) i + length-map records.bibliographic (λ n. key_of Bibliographic n x5.keys) i)
        ∙ sym records.count_is
