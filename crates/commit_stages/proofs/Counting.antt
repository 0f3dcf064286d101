-- The first seats of records, once for each record, and the numbers of these by class.
use Rattle.std.proofs.Common.{◌≡◌, ◌∙◌, sym, ap, refl, subst, ℕ, ◌+◌, ◌<◌, arith, List, [], ◌∷◌, length, take, Some, Bool, true, false}
use Rattle.std.specs.Prelude.{◌==◌, ◌||◌, ◌&&◌, not, nat_eq, slice_get, if◌then◌else◌}
use Rattle.std.specs.Cmp.{unsigned_Decides}
use Rattle.std.specs.List.{AllByRecursion, IsDistinct, list_any}
use Rattle.std.proofs.lemmas.Bool.{and_parts, or_right}
use Rattle.std.proofs.lemmas.List.Folds.{list_any_more}
use Rattle.std.proofs.lemmas.Option.{get_or_from_slice_get}
use Rattle.marc_types.specs.Order.{class_rank}
use Rattle.marc_types.specs.declared.key.Class.{Class}
use Rattle.marc_types.specs.declared.key.Class.TheVariants.{Authority, Bibliographic}
use Rattle.numbering.specs.Numbers.{with_thing}
use Rattle.numbering.specs.Seats.{same_seat}
use Rattle.numbering.specs.declared.seat.Seat.{Seat}
use Rattle.catalogue_rules.specs.Receipt.{same_class}
use Rattle.commit_stages.specs.Noted.{AreFirstSeats, AreRecordNumbers, AreRecordsOf, first_seat, is_record_of, is_seat_of}
use Rattle.commit_stages.proofs.Notes.{any_thing, seat_laws}

class_alike : (c d : Class) → (class_rank c == class_rank d) ≡ same_class c d
class_alike Authority Authority = refl
class_alike Authority Bibliographic = refl
class_alike Bibliographic Authority = refl
class_alike Bibliographic Bibliographic = refl

classes_same : (c d : Class) → same_class c d ≡ true → c ≡ d
classes_same Authority Authority e = refl
classes_same Authority Bibliographic e = cc
classes_same Bibliographic Authority e = cc
classes_same Bibliographic Bibliographic e = refl

-- two seats are the same where the records are and the fields
seat_parts : (s t : Seat) → same_seat s t ≡ ((s.field == t.field) && is_seat_of s.class s.number t)
unfolding same_seat
seat_parts s t =
    ap (λ b. b && ((s.number == t.number) && (s.field == t.field))) (class_alike s.class t.class)
    ∙ turned (same_class s.class t.class) (s.number == t.number) (s.field == t.field)
  where
    turned : (a b c : Bool) → (a && (b && c)) ≡ (c && (a && b))
    turned true true true = refl
    turned true true false = refl
    turned true false true = refl
    turned true false false = refl
    turned false b true = refl
    turned false b false = refl

-- ---- one more seat

own_goes : (first among same own : Bool) → (same ≡ true → own ≡ true) → (first && (among && not own)) ≡ (first && ((among || same) && not own))
own_goes false among same own e = refl
own_goes true true same own e = refl
own_goes true false false own e = refl
own_goes true false true own e = sym (ap not (e refl))

other_goes : (first among same own : Bool) → (same ≡ true → own ≡ false) → ((first && (among && not own)) || (first && same)) ≡ (first && ((among || same) && not own))
other_goes false among same own e = refl
other_goes true among false own e = more among own
  where
    more : (a o : Bool) → ((a && not o) || false) ≡ ((a || false) && not o)
    more true true = refl
    more true false = refl
    more false o = refl
other_goes true true true own e = ap (λ o. not o || true) (e refl) ∙ sym (ap not (e refl))
other_goes true false true own e = sym (ap not (e refl))

-- whether a record is the own one is the same of all its seats
owns : (class : Class) (number : ℕ) (t s : Seat) → is_seat_of t.class t.number s ≡ true → is_record_of class number t.class t.number ≡ is_record_of class number s.class s.number
owns class number t s e =
    let parts = and_parts (same_class t.class s.class) (t.number == s.number) e in
    ap (λ c. same_class class c && (number == t.number)) (classes_same t.class s.class parts.0)
    ∙ ap (λ n. same_class class s.class && (number == n)) ((unsigned_Decides t.number s.number).0 parts.1)

module _ (class : Class) (number : ℕ) (done seats : List Seat) (s : Seat) where
  pub one_first : (firsts after : List Seat) → ((t : Seat) → list_any (is_seat_of t.class t.number) seats ≡ (list_any (is_seat_of t.class t.number) done || is_seat_of t.class t.number s))
      → AreFirstSeats class number done firsts
      → after ≡ (if is_record_of class number s.class s.number then firsts else with_thing same_seat firsts (first_seat s)) → AreFirstSeats class number seats after
  one_first firsts after more here is = λ t.
      ap (list_any (same_seat t)) is ∙ by t (is_record_of class number s.class s.number) refl
      ∙ ap (λ b. (t.field == 0) && (b && not (is_record_of class number t.class t.number))) (sym (more t))
    where
      by : (t : Seat) (own : Bool) → is_record_of class number s.class s.number ≡ own
          → list_any (same_seat t) (if own then firsts else with_thing same_seat firsts (first_seat s))
          ≡ ((t.field == 0) && ((list_any (is_seat_of t.class t.number) done || is_seat_of t.class t.number s) && not (is_record_of class number t.class t.number)))
      by t true e =
          here t
          ∙ own_goes (t.field == 0) (list_any (is_seat_of t.class t.number) done) (is_seat_of t.class t.number s) (is_record_of class number t.class t.number) (λ on. owns class number t s on ∙ e)
      by t false e =
          any_thing firsts (first_seat s) t
          ∙ ap (λ b. b || same_seat t (first_seat s)) (here t)
          ∙ ap (λ b. ((t.field == 0) && (list_any (is_seat_of t.class t.number) done && not (is_record_of class number t.class t.number))) || b) (seat_parts t (first_seat s))
          ∙ other_goes (t.field == 0) (list_any (is_seat_of t.class t.number) done) (is_seat_of t.class t.number s) (is_record_of class number t.class t.number) (λ on. owns class number t s on ∙ e)

pub next_first : (class : Class) (number : ℕ) (seats : List Seat) (i : ℕ) (s : Seat) (firsts after : List Seat) → i < length seats → slice_get seats i ≡ Some s
    → AreFirstSeats class number (take i seats) firsts → after ≡ (if is_record_of class number s.class s.number then firsts else with_thing same_seat firsts (first_seat s))
    → AreFirstSeats class number (take (i + 1) seats) after
next_first class number seats i s firsts after low at here is =
    one_first class number (take i seats) (take (i + 1) seats) s firsts after
    (λ t. list_any_more (is_seat_of t.class t.number) seats i s low
    ∙ ap (λ (u : Seat). list_any (is_seat_of t.class t.number) (take i seats) || is_seat_of t.class t.number u) (get_or_from_slice_get seats i s s at)) here is

-- ---- numbers by class

abbrev numbers_in : Class → List Seat → List ℕ
numbers_in class [] = []
numbers_in class (s ∷ seats) = if same_class class s.class then s.number ∷ numbers_in class seats else numbers_in class seats

numbers_are : (class : Class) (n : ℕ) (seats : List Seat) → list_any (nat_eq n) (numbers_in class seats) ≡ list_any (is_seat_of class n) seats
numbers_are class n [] = refl
numbers_are class n (s ∷ seats) = by (numbers_are class n seats) (same_class class s.class)
  where
    by : list_any (nat_eq n) (numbers_in class seats) ≡ list_any (is_seat_of class n) seats → (b : Bool)
        → list_any (nat_eq n) (if b then s.number ∷ numbers_in class seats else numbers_in class seats) ≡ ((b && (n == s.number)) || list_any (is_seat_of class n) seats)
    by rest true = ap (λ c. (n == s.number) || c) rest
    by rest false = rest

abbrev AreFirst : List Seat → Type 0
AreFirst seats = AllByRecursion (λ (s : Seat). s.field ≡ 0) seats

firsts_are : (class : Class) (n : ℕ) (seats : List Seat) → AreFirst seats
    → list_any (is_seat_of class n) seats ≡ list_any (same_seat (record { class = class; number = n; field = 0 })) seats
firsts_are class n [] first = refl
firsts_are class n (s ∷ seats) first =
    let one : Seat = record { class = class; number = n; field = 0 } in
    let here : same_seat one s ≡ is_seat_of class n s = seat_parts one s ∙ ap (λ f. (0 == f) && is_seat_of class n s) first.0 in
    ap (λ b. b || list_any (is_seat_of class n) seats) (sym here) ∙ ap (λ b. same_seat one s || b) (firsts_are class n seats first.1)

length_by_class : (seats : List Seat) → length seats ≡ length (numbers_in Authority seats) + length (numbers_in Bibliographic seats)
length_by_class [] = refl
length_by_class (s ∷ seats) = by (length_by_class seats) s.class
  where
    by : length seats ≡ length (numbers_in Authority seats) + length (numbers_in Bibliographic seats) → (c : Class) → length (s ∷ seats) ≡ length (if same_class Authority c then s.number ∷ numbers_in Authority seats else numbers_in Authority seats)
        + length (if same_class Bibliographic c then s.number ∷ numbers_in Bibliographic seats else numbers_in Bibliographic seats)
    by rest Authority = omega (arith, rest)
    by rest Bibliographic = omega (arith, rest)

-- in a class, first seats that differ have numbers that differ
numbers_apart : (class : Class) (s : Seat) (seats : List Seat) → same_class class s.class ≡ true → s.field ≡ 0 → AreFirst seats → AllByRecursion (λ (t : Seat). same_seat s t ≡ false) seats
    → AllByRecursion (λ (n : ℕ). nat_eq s.number n ≡ false) (numbers_in class seats)
numbers_apart class s [] own zero first apart = tt
numbers_apart class s (t ∷ seats) own zero first apart = by (numbers_apart class s seats own zero first.1 apart.1) (same_class class t.class) refl
  where
    by : AllByRecursion (λ (n : ℕ). nat_eq s.number n ≡ false) (numbers_in class seats) → (b : Bool) → same_class class t.class ≡ b
        → AllByRecursion (λ (n : ℕ). nat_eq s.number n ≡ false) (if b then t.number ∷ numbers_in class seats else numbers_in class seats)
    by rest false e = rest
    by rest true e =
        let classes : same_class s.class t.class ≡ true = subst (λ (c : Class). same_class c t.class ≡ true) (classes_same class s.class own) e in
        let fields : (s.field == t.field) ≡ true = (unsigned_Decides s.field t.field).1 (zero ∙ sym first.0) in
        let here : same_seat s t ≡ (s.number == t.number) =
        seat_parts s t ∙ ap (λ b. b && is_seat_of s.class s.number t) fields ∙ ap (λ b. b && (s.number == t.number)) classes in
        (sym here ∙ apart.0, rest)

numbers_once : (class : Class) (seats : List Seat) → AreFirst seats → IsDistinct same_seat seats → IsDistinct nat_eq (numbers_in class seats)
unfolding IsDistinct
numbers_once class [] first once = tt
numbers_once class (s ∷ seats) first once = by (numbers_once class seats first.1 once.1) (same_class class s.class) refl
  where
    by : IsDistinct nat_eq (numbers_in class seats) → (b : Bool) → same_class class s.class ≡ b
        → IsDistinct nat_eq (if b then s.number ∷ numbers_in class seats else numbers_in class seats)
    by rest false e = rest
    by rest true e = (numbers_apart class s seats e first.0 first.1 once.0, rest)

each_member : (P : Seat → Type 0) (seats : List Seat) → ((s : Seat) → list_any (same_seat s) seats ≡ true → P s) → AllByRecursion P seats
each_member P [] h = tt
each_member P (s ∷ seats) h =
    (h s (ap (λ b. b || list_any (same_seat s) seats) (seat_laws.refl s)), each_member P seats (λ t e. h t (or_right (same_seat t s) (list_any (same_seat t) seats) e)))

module _ (class : Class) (number : ℕ) (seats firsts : List Seat) (are : AreFirstSeats class number seats firsts) where
  all_first : AreFirst firsts
  all_first = each_member (λ (s : Seat). s.field ≡ 0) firsts (λ s on.
      (unsigned_Decides s.field 0).0
      (and_parts (s.field == 0) (list_any (is_seat_of s.class s.number) seats && not (is_record_of class number s.class s.number)) (sym (are s) ∙ on)).0)

  numbers_of : (other : Class) → IsDistinct same_seat firsts → AreRecordNumbers seats class number other (numbers_in other firsts)
  numbers_of other once = record {
    once = numbers_once other firsts all_first once;
    are = λ n. numbers_are other n firsts ∙ firsts_are other n firsts all_first ∙ are (record { class = other; number = n; field = 0 });
  }

  pub records_counted : IsDistinct same_seat firsts → AreRecordsOf seats class number (length firsts)
  records_counted once = record {
    authorities = numbers_in Authority firsts;
    bibliographic = numbers_in Bibliographic firsts;
    authorities_are = numbers_of Authority once;
    bibliographic_are = numbers_of Bibliographic once;
    count_is = length_by_class firsts;
  }
