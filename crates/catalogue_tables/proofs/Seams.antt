-- What holds of numbers and seats holds of the names and places that they stand for.
use Rattle.std.proofs.Common.{◌≡◌, ◌∙◌, sym, ap, refl, subst, ℕ, ◌+◌, ◌<◌, ◌≤◌, arith, List, [], ◌∷◌, ◌++◌, length, map, take, get_or, Bool, true, false, ◌&&◌, cond}
use Rattle.std.specs.Prelude.{◌==◌, ◌||◌, nat_eq}
use Rattle.std.specs.Cmp.{IsEquivalence, decided, unsigned_Decides}
use Rattle.std.specs.List.{AllByRecursion, IsDistinct, list_any}
use Rattle.std.proofs.lemmas.Cmp.{eq_by_cmp_equiv}
use Rattle.std.proofs.lemmas.List.Folds.{list_any-append, list_any_more}
use Rattle.std.proofs.lemmas.Map.Keys.{IsDistinct-head, IsDistinct-tail}
use Rattle.std.proofs.lemmas.Map.Steps.{list_any_congr}
use Rattle.std.proofs.lemmas.Option.{slice_get-get_or}
use Rattle.marc_types.specs.declared.key.Class.{Class}
use Rattle.marc_types.specs.declared.key.Class.TheVariants.{Authority, Bibliographic}
use Rattle.marc_types.specs.declared.key.Key.{Key}
use Rattle.marc_types.specs.declared.key.Place.{Place}
use Rattle.marc_types.specs.Order.{same_key, key_cmp_total, class_rank}
use Rattle.catalogue_rules.specs.Receipt.{same_class}
use Rattle.numbering.specs.Numbers.{is_known, number_of, with_thing, IsNumberOf, Keeps}
use Rattle.numbering.specs.Seats.{same_seat, seat_Decides}
use Rattle.numbering.specs.declared.seat.Seat.{Seat}
use Rattle.numbering.proofs.Numberlaws.{alike, keeps_itself, number_at, number_below}
use Rattle.linking_laws.specs.Partway.{same_place, is_place_among}
use Rattle.linking_laws.specs.Tables.{AreOnce, IsListing}
use Rattle.postings.specs.Listed.{ListsEach}
use Rattle.form_index.specs.Order.{key_at, no_key}
use Rattle.catalogue_tables.specs.Seam.{AreDistinct, HasKey, IsRenamed, IsRenumbered, IsSeatOf, IsWithin, KeyLists, KeysKeep, has_number, keys_in, place_at, seat_of, told}

-- ---- seats and places

regroup : (a b c : Bool) → (a && (b && c)) ≡ (a && b && c)
regroup true b c = refl
regroup false b c = refl

class_alike : (c d : Class) → (class_rank c == class_rank d) ≡ same_class c d
class_alike Authority Authority = refl
class_alike Authority Bibliographic = refl
class_alike Bibliographic Authority = refl
class_alike Bibliographic Bibliographic = refl

key_alike : (keys : KeyLists) (c d : Class) (k l : Key) → is_known same_key (keys_in c keys) k ≡ true
    → ((class_rank c == class_rank d) && (number_of same_key (keys_in c keys) k == number_of same_key (keys_in d keys) l)) ≡ (same_class c d && same_key k l)
key_alike keys Authority Authority k l known = alike same_key (eq_by_cmp_equiv key_cmp_total) keys.authorities k l known
key_alike keys Authority Bibliographic k l known = refl
key_alike keys Bibliographic Authority k l known = refl
key_alike keys Bibliographic Bibliographic k l known = alike same_key (eq_by_cmp_equiv key_cmp_total) keys.bibliographic k l known

-- seats are told apart as their places are
pub seat_alike : (keys : KeyLists) (p q : Place) → has_number keys p ≡ true → same_seat (seat_of keys p) (seat_of keys q) ≡ same_place p q
unfolding same_seat
seat_alike keys p q known =
    regroup (class_rank p.class == class_rank q.class) (number_of same_key (keys_in p.class keys) p.key == number_of same_key (keys_in q.class keys) q.key) (p.field == q.field)
    ∙ ap (λ b. b && (p.field == q.field)) (key_alike keys p.class q.class p.key q.key known)

-- ---- exchanges

module _ {T : Type 0} (same : T → T → Bool) (names : List T) (keys : KeyLists) where
  -- other numbers of a seat are other names of its place
  pub told_step : (before after : ℕ → Seat → Bool) (now : ℕ → Bool) (p : Place) (seat : Seat) → IsSeatOf keys p seat → IsRenumbered seat now before after
      → IsRenamed p (λ name. now (number_of same names name)) (told same names keys before) (told same names keys after)
  told_step before after now p seat at step name q =
      step (number_of same names name) (seat_of keys q)
      ∙ ap (λ s. cond (same_seat s (seat_of keys q)) (now (number_of same names name)) (told same names keys before name q)) at.is
      ∙ ap (λ b. cond b (now (number_of same names name)) (told same names keys before name q)) (seat_alike keys p q at.known)

-- an exchange stays within the numbers
pub within_step : (names : ℕ) (keys : KeyLists) (before after : ℕ → Seat → Bool) (now : ℕ → Bool) (seat : Seat)
    → IsRenumbered seat now before after → ((n : ℕ) → now n ≡ true → n < names) → HasKey keys seat
    → IsWithin names keys before → IsWithin names keys after
within_step names keys before after now seat step low has within = record {
  named = λ n s passes. by_name n s (same_seat seat s) (sym (step n s) ∙ passes);
  seated = λ n s passes. by_seat n s (same_seat seat s) refl (sym (step n s) ∙ passes);
}
  where
    by_name : (n : ℕ) (s : Seat) (b : Bool) → cond b (now n) (before n s) ≡ true → n < names
    by_name n s true passes = low n passes
    by_name n s false passes = within.named n s passes

    by_seat : (n : ℕ) (s : Seat) (b : Bool) → same_seat seat s ≡ b → cond b (now n) (before n s) ≡ true → HasKey keys s
    by_seat n s true e passes = subst (λ t. HasKey keys t) ((seat_Decides seat s).0 e) has
    by_seat n s false e passes = within.seated n s passes

-- ---- numbers that were given since

keys_longer : (old new : KeyLists) (c : Class) → KeysKeep old new → length (keys_in c old) ≤ length (keys_in c new)
keys_longer old new Authority keep = keep.authorities.longer
keys_longer old new Bibliographic keep = keep.bibliographic.longer

pub within_stays : (few many : ℕ) (old new : KeyLists) (test : ℕ → Seat → Bool) → few ≤ many → KeysKeep old new → IsWithin few old test → IsWithin many new test
within_stays few many old new test more keep within = record {
  named = λ n s passes. let low : n < few = within.named n s passes in omega (arith, more);
  seated = λ n s passes. let low : HasKey old s = within.seated n s passes in let long = keys_longer old new s.class keep in omega (arith, low, long);
}

-- a test passes at no number that wasn't given, and at no seat of a key without one
fails : (b : Bool) → (b ≡ true → ⊥) → b ≡ false
fails true h = absurd (h refl)
fails false h = refl

pub unnamed : (names : ℕ) (keys : KeyLists) (test : ℕ → Seat → Bool) (n : ℕ) (s : Seat) → IsWithin names keys test → names ≤ n → test n s ≡ false
unnamed names keys test n s within high = fails (test n s) (λ e. let low : n < names = within.named n s e in omega (arith, high, low))

pub unseated : (names : ℕ) (keys : KeyLists) (test : ℕ → Seat → Bool) (n : ℕ) (s : Seat) → IsWithin names keys test → length (keys_in s.class keys) ≤ s.number → test n s ≡ false
unseated names keys test n s within high = fails (test n s) (λ e. let low : s.number < length (keys_in s.class keys) = within.seated n s e in omega (arith, high, low))

keep_in : (old new : KeyLists) (c : Class) → KeysKeep old new → Keeps same_key (keys_in c old) (keys_in c new)
keep_in old new Authority keep = keep.authorities
keep_in old new Bibliographic keep = keep.bibliographic

module _ {T : Type 0} (same : T → T → Bool) (old new : List T) (keys many : KeyLists) (test : ℕ → Seat → Bool) where
  stays_at : (name : T) (p : Place) (b c : Bool) → is_known same old name ≡ b → has_number keys p ≡ c
      → IsWithin (length old) keys test → Keeps same old new → KeysKeep keys many
      → told same new many test name p ≡ told same old keys test name p
  stays_at name p true true known has within keeps keep =
      let number : number_of same new name ≡ number_of same old name = keeps.same_number name known in
      let key : number_of same_key (keys_in p.class many) p.key ≡ number_of same_key (keys_in p.class keys) p.key = (keep_in keys many p.class keep).same_number p.key has in
      λ i. test (number i) (record { class = p.class; number = key i; field = p.field })
  stays_at name p false c known has within keeps keep =
      unnamed (length old) keys test (number_of same new name) (seat_of many p) within (keeps.new_number name known)
      ∙ sym (unnamed (length old) keys test (number_of same old name) (seat_of keys p) within ((keeps_itself same old).new_number name known))
  stays_at name p true false known has within keeps keep =
      unseated (length old) keys test (number_of same new name) (seat_of many p) within ((keep_in keys many p.class keep).new_number p.key has)
      ∙ sym (unseated (length old) keys test (number_of same old name) (seat_of keys p) within ((keeps_itself same_key (keys_in p.class keys)).new_number p.key has))

  -- what is told stays while names and keys get new numbers
  pub told_stays : IsWithin (length old) keys test → Keeps same old new → KeysKeep keys many → (name : T) (p : Place) → told same new many test name p ≡ told same old keys test name p
  told_stays within keeps keep name p = stays_at name p (is_known same old name) (has_number keys p) refl refl within keeps keep

pub within_kept : {T : Type 0} (same : T → T → Bool) (old new : List T) (keys many : KeyLists) (test : ℕ → Seat → Bool) → Keeps same old new → KeysKeep keys many
    → IsWithin (length old) keys test → IsWithin (length new) many test
within_kept same old new keys many test keeps keep within = within_stays (length old) (length new) keys many test keeps.longer keep within

-- ---- lists of numbers

-- a number is in a list of numbers where its thing is in the list of their things
pub numbers_alike : {T : Type 0} (same : T → T → Bool) → IsEquivalence same → (names things : List T) (name : T) → AllByRecursion (λ t. is_known same names t ≡ true) things
    → list_any (λ n. nat_eq n (number_of same names name)) (map (number_of same names) things) ≡ list_any (same name) things
numbers_alike same laws names [] name known = refl
numbers_alike same laws names (t ∷ ts) name known =
    ap (λ b. b || list_any (λ n. nat_eq n (number_of same names name)) (map (number_of same names) ts)) (alike same laws names t name known.0 ∙ laws.symm t name)
    ∙ ap (λ b. same name t || b) (numbers_alike same laws names ts name known.1)

pub numbers_low : {T : Type 0} (same : T → T → Bool) (names things : List T) (n : ℕ) → AllByRecursion (λ t. is_known same names t ≡ true) things
    → list_any (λ m. nat_eq m n) (map (number_of same names) things) ≡ true → n < length names
numbers_low same names [] n known e = cc
numbers_low same names (t ∷ ts) n known e = by (nat_eq (number_of same names t) n) refl (numbers_low same names ts n known.1) e
  where
    by : (b : Bool) → nat_eq (number_of same names t) n ≡ b → (list_any (λ m. nat_eq m n) (map (number_of same names) ts) ≡ true → n < length names)
        → (b || list_any (λ m. nat_eq m n) (map (number_of same names) ts)) ≡ true → n < length names
    by true here rest e = subst (λ m. m < length names) ((unsigned_Decides (number_of same names t) n).0 here) (number_below same names t known.0)
    by false here rest e = rest e

-- a number in a list is below what all its numbers are below
pub low_in : (top : ℕ) (numbers : List ℕ) (n : ℕ) → AllByRecursion (λ m. m < top) numbers → list_any (λ m. nat_eq m n) numbers ≡ true → n < top
low_in top [] n low e = cc
low_in top (m ∷ ms) n low e = by (nat_eq m n) refl (low_in top ms n low.1) e
  where
    by : (b : Bool) → nat_eq m n ≡ b → (list_any (λ k. nat_eq k n) ms ≡ true → n < top) → (b || list_any (λ k. nat_eq k n) ms) ≡ true → n < top
    by true here rest e = subst (λ k. k < top) ((unsigned_Decides m n).0 here) low.0
    by false here rest e = rest e

-- an exchange for nothing stays within the numbers
pub within_less : (names : ℕ) (keys : KeyLists) (before after : ℕ → Seat → Bool) (seat : Seat) → IsRenumbered seat (λ n. false) before after
    → IsWithin names keys before → IsWithin names keys after
within_less names keys before after seat step within = record {
  named = λ n s e. within.named n s (kept n s (same_seat seat s) (sym (step n s) ∙ e));
  seated = λ n s e. within.seated n s (kept n s (same_seat seat s) (sym (step n s) ∙ e));
}
  where
    kept : (n : ℕ) (s : Seat) (b : Bool) → cond b false (before n s) ≡ true → before n s ≡ true
    kept n s true e = cc
    kept n s false e = e

-- ---- numbers that are given in two steps

module _ {T : Type 0} (same : T → T → Bool) (old middle new : List T) where
  new_by : (t : T) (b : Bool) → is_known same middle t ≡ b → Keeps same old middle → Keeps same middle new → is_known same old t ≡ false → length old ≤ number_of same new t
  new_by t true known first second h =
      let low : length old ≤ number_of same middle t = first.new_number t h in
      subst (λ n. length old ≤ n) (sym (second.same_number t known)) low
  new_by t false known first second h =
      let low : length middle ≤ number_of same new t = second.new_number t known in
      let long : length old ≤ length middle = first.longer in
      omega (arith, low, long)

  pub keeps_then : Keeps same old middle → Keeps same middle new → Keeps same old new
  keeps_then first second = record {
    known = λ t h. second.known t (first.known t h);
    same_number = λ t h. second.same_number t (first.known t h) ∙ first.same_number t h;
    longer = let one : length old ≤ length middle = first.longer in let two : length middle ≤ length new = second.longer in omega (arith, one, two);
    new_number = λ t h. new_by t (is_known same middle t) refl first second h;
  }

-- ---- places of listed seats

seat_laws : IsEquivalence same_seat
seat_laws = decided same_seat seat_Decides

distinct_in : (keys : KeyLists) (c : Class) → AreDistinct keys → IsDistinct same_key (keys_in c keys)
distinct_in keys Authority distinct = distinct.authorities
distinct_in keys Bibliographic distinct = distinct.bibliographic

later_passes : (b c : Bool) → c ≡ true → (b || c) ≡ true
later_passes true c e = refl
later_passes false c e = e

-- what holds of all members holds along the list
each_member : (P : Seat → Type 0) (seats : List Seat) → ((s : Seat) → list_any (same_seat s) seats ≡ true → P s) → AllByRecursion P seats
each_member P [] h = tt
each_member P (s ∷ seats) h =
    (h s (ap (λ b. b || list_any (same_seat s) seats) (seat_laws.refl s)), each_member P seats (λ t e. h t (later_passes (same_seat t s) (list_any (same_seat t) seats) e)))

turned : (seats : List Seat) (t : Seat) → list_any (λ s. same_seat s t) seats ≡ list_any (same_seat t) seats
turned [] t = refl
turned (s ∷ seats) t = ap (λ b. b || list_any (λ s. same_seat s t) seats) (seat_laws.symm s t) ∙ ap (λ b. same_seat t s || b) (turned seats t)

none_passes : (seats : List Seat) (s : Seat) → AllByRecursion (λ t. same_seat s t ≡ false) seats → list_any (same_seat s) seats ≡ false
none_passes [] s all = refl
none_passes (t ∷ seats) s all = ap (λ b. b || list_any (same_seat s) seats) all.0 ∙ none_passes seats s all.1

module _ (keys : KeyLists) (distinct : AreDistinct keys) where
  -- a seat is that of the place that it stands for
  pub seat_back : (s : Seat) → HasKey keys s → IsSeatOf keys (place_at keys s) s
  unfolding key_at
  seat_back s low =
      let numbered = number_at same_key (eq_by_cmp_equiv key_cmp_total) (keys_in s.class keys) (key_at (keys_in s.class keys) s.number) s.number (distinct_in keys s.class distinct)
      (slice_get-get_or (keys_in s.class keys) s.number no_key low) in
      record { known = numbered.known; is = λ i. record { class = s.class; number = numbered.is i; field = s.field } }

  place_alike : (s : Seat) (q : Place) → HasKey keys s → same_place (place_at keys s) q ≡ same_seat s (seat_of keys q)
  place_alike s q low =
      let back = seat_back s low in
      sym (seat_alike keys (place_at keys s) q back.known) ∙ ap (λ t. same_seat t (seat_of keys q)) (sym back.is)

  among_places : (seats : List Seat) (q : Place) → AllByRecursion (HasKey keys) seats → is_place_among (map (place_at keys) seats) q ≡ list_any (λ s. same_seat s (seat_of keys q)) seats
  among_places [] q low = refl
  among_places (s ∷ seats) q low =
      ap (λ b. b || is_place_among (map (place_at keys) seats) q) (place_alike s q low.0) ∙ ap (λ b. same_seat s (seat_of keys q) || b) (among_places seats q low.1)

  once_each : (seats : List Seat) → AllByRecursion (HasKey keys) seats → IsDistinct same_seat seats → AreOnce (map (place_at keys) seats)
  once_each [] low once = tt
  once_each (s ∷ seats) low once =
      let back = seat_back s low.0 in (
        among_places seats (place_at keys s) low.1
            ∙ ap (λ t. list_any (λ u. same_seat u t) seats) (sym back.is)
            ∙ turned seats s
            ∙ none_passes seats s (IsDistinct-head same_seat s seats once),
        once_each seats low.1 (IsDistinct-tail same_seat s seats once),
      )

  -- the places of the seats that pass a test are all places that pass it, each once
  pub places_listed : (test : Seat → Bool) (seats : List Seat) → ((s : Seat) → test s ≡ true → HasKey keys s) → ListsEach same_seat test seats
      → IsListing (λ p. test (seat_of keys p)) (map (place_at keys) seats)
  places_listed test seats keyed lists =
      let low : AllByRecursion (HasKey keys) seats = each_member (HasKey keys) seats (λ s e. keyed s (sym (lists.each s) ∙ e)) in
      record {
        members_are = λ p. among_places seats p low ∙ turned seats (seat_of keys p) ∙ lists.each (seat_of keys p);
        once = once_each seats low lists.once;
      }

-- the key that a number stands for has that number
pub key_numbered : (keys : List Key) (n : ℕ) → IsDistinct same_key keys → n < length keys → IsNumberOf same_key keys (key_at keys n) n
unfolding key_at
key_numbered keys n distinct low = number_at same_key (eq_by_cmp_equiv key_cmp_total) keys (key_at keys n) n distinct (slice_get-get_or keys n no_key low)

-- ---- members of a list that grows

or_false : (b : Bool) → (b || false) ≡ b
or_false true = refl
or_false false = refl

any_with : (seats : List Seat) (one s : Seat) (b : Bool) → is_known same_seat seats one ≡ b
    → list_any (same_seat s) (cond b seats (seats ++ one ∷ [])) ≡ (list_any (same_seat s) seats || same_seat s one)
any_with seats one s true known = sym (kept (same_seat s one) refl)
  where
    kept : (c : Bool) → same_seat s one ≡ c → (list_any (same_seat s) seats || c) ≡ list_any (same_seat s) seats
    kept true e = ap (λ b. b || true) (list_any_congr seat_laws s one seats e ∙ known) ∙ sym (list_any_congr seat_laws s one seats e ∙ known)
    kept false e = or_false (list_any (same_seat s) seats)
any_with seats one s false known = list_any-append (same_seat s) seats (one ∷ []) ∙ ap (λ b. list_any (same_seat s) seats || b) (or_false (same_seat s one))

pub or_assoc : (a b c : Bool) → ((a || b) || c) ≡ (a || (b || c))
or_assoc true b c = refl
or_assoc false b c = refl

-- one more seat of a list is noted
pub noted_more : (found now seats : List Seat) (i : ℕ) (other : Seat) (start : List Seat) → i < length seats → now ≡ with_thing same_seat found (get_or seats i other)
    → ((s : Seat) → list_any (same_seat s) found ≡ (list_any (same_seat s) start || list_any (same_seat s) (take i seats)))
    → (s : Seat) → list_any (same_seat s) now ≡ (list_any (same_seat s) start || list_any (same_seat s) (take (i + 1) seats))
noted_more found now seats i other start low is noted s =
    let one = get_or seats i other in
    ap (λ (l : List Seat). list_any (same_seat s) l) is
    ∙ any_with found one s (is_known same_seat found one) refl
    ∙ ap (λ b. b || same_seat s one) (noted s)
    ∙ or_assoc (list_any (same_seat s) start) (list_any (same_seat s) (take i seats)) (same_seat s one)
    ∙ ap (λ b. list_any (same_seat s) start || b) (sym (list_any_more (same_seat s) seats i other low))

-- one more name of a list is asked for
pub noted_asking : (T : Type 0) (found now : List Seat) (passes : Seat → T → Bool) (names : List T) (i : ℕ) (one : T) (start : List Seat) → i < length names
    → one ≡ get_or names i one
    → ((s : Seat) → list_any (same_seat s) found ≡ (list_any (same_seat s) start || list_any (passes s) (take i names)))
    → ((s : Seat) → list_any (same_seat s) now ≡ (list_any (same_seat s) found || passes s one))
    → (s : Seat) → list_any (same_seat s) now ≡ (list_any (same_seat s) start || list_any (passes s) (take (i + 1) names))
noted_asking T found now passes names i one start low is noted more s =
    more s
    ∙ ap (λ t. list_any (same_seat s) found || passes s t) is
    ∙ ap (λ b. b || passes s (get_or names i one)) (noted s)
    ∙ or_assoc (list_any (same_seat s) start) (list_any (passes s) (take i names)) (passes s (get_or names i one))
    ∙ ap (λ b. list_any (same_seat s) start || b) (sym (list_any_more (passes s) names i one low))
