-- A stage over a listing of seats: its first seats are done, and within the visits that they take.
use Rattle.std.proofs.Common.{◌≡◌, ◌∙◌, sym, ap, refl, subst, ℕ, suc, ◌+◌, ◌≤◌, ◌<◌, arith, List, [], ◌∷◌, ◌++◌, map, length, take, drop, Option, Some, None, Bool, true, false, get_or}
use Rattle.std.specs.Prelude.{◌||◌, if◌then◌else◌, zero}
use Rattle.std.specs.List.{sum_by}
use Rattle.std.specs.Option.{option_map, option_map_or}
use Rattle.std.proofs.lemmas.List.{take_all, take_more}
use Rattle.std.proofs.lemmas.List.Sums.{sum_by-cons}
use Rattle.marc_types.specs.declared.key.Class.{Class}
use Rattle.marc_types.specs.declared.key.Place.{Place}
use Rattle.entry_record.specs.Authority.{Linkable}
use Rattle.numbering.specs.declared.seat.Seat.{Seat}
use Rattle.catalogue_rules.specs.State.{KeptField, State}
use Rattle.catalogue_rules.specs.Store.{field_under}
use Rattle.catalogue_tables.specs.Seam.{HasKey, KeyLists, place_at}
use Rattle.linking_laws.specs.Middle.{IsEitherStage, IsMiddleWith}
use Rattle.linking_laws.specs.Partway.{IsPartway, IsWhole, same_place, is_place_among, changed_among}
use Rattle.linking_laws.specs.Tables.{AreOnce, holds_at}
use Rattle.linking_laws.specs.Weights.{number_at, sum_fields}
use Rattle.linking_laws.proofs.Listed.{next_is_new}
use Rattle.linking_laws.proofs.Partial.{own_place}
use Rattle.linking_laws.proofs.Walked.{sum_within}
use Rattle.linked_store.specs.Linked.{IsAhead, Linked, ListsSeats, field_of}
use Rattle.commit_stages.specs.Turns.{AreWithinVisits, IsCarriedOut, IsOnTheWay, IsToDo, IsTurned, visits_at}
use Rattle.commit_stages.proofs.Turning.{begins, ends, goes_on, known_there, map_join}

-- ---- a listing

listed_there : (done : List Place) (p : Place) (rest : List Place) → is_place_among (done ++ p ∷ rest) p ≡ true
listed_there [] p rest = ap (λ (b : Bool). b || is_place_among rest p) (own_place p)
listed_there (q ∷ done) p rest = ap (λ (b : Bool). same_place q p || b) (listed_there done p rest) ∙ either (same_place q p)
  where
    either : (b : Bool) → (b || true) ≡ true
    either true = refl
    either false = refl

-- what isn't done yet holds what it held
still_there : (change : Class → KeptField → KeptField) (done : List Place) (before now : State) (p : Place) → IsPartway change done before now → is_place_among done p ≡ false
    → field_under p now ≡ field_under p before
still_there change done before now p way off = way.fields_are p ∙ by (field_under p before)
  where
    by : (o : Option KeptField) → option_map (changed_among done change p) o ≡ o
    by None = refl
    by (Some h) = ap (λ (b : Bool). Some (if b then change p.class h else h)) off

-- and so does the next seat of a listing
pub next_still : (change : Class → KeptField → KeptField) (members : Place → Bool) (done rest : List Seat) (seat : Seat) (old now : Linked)
    → ListsSeats old.keys members (done ++ seat ∷ rest) → IsPartway change (map (place_at old.keys) done) old.state now.state
    → field_under (place_at old.keys seat) now.state ≡ field_under (place_at old.keys seat) old.state
next_still change members done rest seat old now lists way =
    let once : AreOnce (map (place_at old.keys) done ++ place_at old.keys seat ∷ map (place_at old.keys) rest) = subst AreOnce (map_join (place_at old.keys) done (seat ∷ rest)) lists.places.once in
    still_there change (map (place_at old.keys) done) old.state now.state (place_at old.keys seat) way
    (next_is_new (map (place_at old.keys) done) (place_at old.keys seat) (map (place_at old.keys) rest) once)

module _ (change : Class → KeptField → KeptField) (test : Class → KeptField → Bool) (done rest : List Seat) (seat : Seat) (old now : Linked) where
  -- the next seat of a listing is still to do
  pub next_to_do : ListsSeats old.keys (holds_at test old.state) (done ++ seat ∷ rest) → IsAhead old now → IsPartway change (map (place_at old.keys) done) old.state now.state
      → IsToDo test seat now
  next_to_do lists ahead way =
      let p : Place = place_at old.keys seat in
      let known : HasKey old.keys seat = known_there old.keys done rest seat lists.known in
      let there : place_at now.keys seat ≡ p = ahead.keys.places seat known in
      let among : is_place_among (map (place_at old.keys) (done ++ seat ∷ rest)) p ≡ true =
      ap (λ (l : List Place). is_place_among l p) (map_join (place_at old.keys) done (seat ∷ rest)) ∙ listed_there (map (place_at old.keys) done) p (map (place_at old.keys) rest) in
      record {
        known = ahead.keys.seats seat known;
        passes = ap (holds_at test now.state) there ∙ ap (λ (o : Option KeptField). option_map_or (test seat.class) o false) (next_still change (holds_at test old.state) done rest seat old now lists way)
            ∙ sym (lists.places.members_are p) ∙ among;
      }

  -- and takes the visits that it took
  pub next_visits : (visits : Class → KeptField → ℕ) → ListsSeats old.keys (holds_at test old.state) (done ++ seat ∷ rest) → IsAhead old now
      → IsPartway change (map (place_at old.keys) done) old.state now.state → visits_at visits now seat ≡ visits_at visits old seat
  next_visits visits lists ahead way =
      let known : HasKey old.keys seat = known_there old.keys done rest seat lists.known in
      ap (number_at visits now.state) (ahead.keys.places seat known) ∙ ap (λ (o : Option KeptField). option_map_or (visits seat.class) o 0) (next_still change (holds_at test old.state) done rest seat old now lists way)

-- ---- visits

sum_join : (f : Seat → ℕ) (xs : List Seat) (y : Seat) → sum_by f (xs ++ y ∷ []) ≡ sum_by f xs + f y
sum_join f [] y = let own = sum_by-cons f y [] in omega arith
sum_join f (x ∷ xs) y =
    let one = sum_by-cons f x (xs ++ y ∷ []) in
    let two = sum_by-cons f x xs in
    let rest = sum_join f xs y in
    omega arith

sum_front : (f : Seat → ℕ) (xs ys : List Seat) → sum_by f xs ≤ sum_by f (xs ++ ys)
sum_front f [] ys = omega arith
sum_front f (x ∷ xs) ys =
    let one = sum_by-cons f x (xs ++ ys) in
    let two = sum_by-cons f x xs in
    let rest = sum_front f xs ys in
    omega arith

sum_mapped : (f : Place → ℕ) (g : Seat → Place) (xs : List Seat) → sum_by (λ (s : Seat). f (g s)) xs ≡ sum_by f (map g xs)
sum_mapped f g [] = refl
sum_mapped f g (x ∷ xs) =
    let one = sum_by-cons (λ (s : Seat). f (g s)) x xs in
    let two = sum_by-cons f (g x) (map g xs) in
    let rest = sum_mapped f g xs in
    omega arith

pub visits_more : (visits : Class → KeptField → ℕ) (x : Linked) (done : List Seat) (seat : Seat) (before now after : ℕ) → AreWithinVisits visits x done before now
    → after ≤ now + visits_at visits x seat → AreWithinVisits visits x (done ++ seat ∷ []) before after
visits_more visits x done seat before now after within step = let all = sum_join (visits_at visits x) done seat in omega arith

pub visits_whole : (visits : Class → KeptField → ℕ) (x : Linked) (members : Place → Bool) (done rest : List Seat) (before now : ℕ) → ListsSeats x.keys members (done ++ rest)
    → AreWithinVisits visits x done before now → now ≤ before + sum_fields visits x.state
visits_whole visits x members done rest before now lists within =
    let front = sum_front (visits_at visits x) done rest in
    let mapped = sum_mapped (number_at visits x.state) (place_at x.keys) (done ++ rest) in
    let all = sum_within visits x.state (map (place_at x.keys) (done ++ rest)) lists.places.once in
    omega arith

-- ---- a stage from turn to turn

module _ (all : List Linkable) (change : Class → KeptField → KeptField) (test : Class → KeptField → Bool) (done rest : List Seat) (seat : Seat) (old now new : Linked) where
  pub turns_on : IsEitherStage all change → ListsSeats old.keys (holds_at test old.state) (done ++ seat ∷ rest) → IsOnTheWay all change done old now
      → IsTurned change seat now new → IsOnTheWay all change (done ++ seat ∷ []) old new
  turns_on either lists way turned =
      let to_do = next_to_do change test done rest seat old now lists way.ahead way.partway in
      by (field_of seat now) refl to_do.passes
    where
      by : (o : Option KeptField) → field_of seat now ≡ o → option_map_or (test seat.class) o false ≡ true → IsOnTheWay all change (done ++ seat ∷ []) old new
      by None there passes = cc
      by (Some h) there passes =
          goes_on all change (holds_at test old.state) done rest seat h old now new either lists way there
          (record { ahead = turned.ahead; state = turned.state h there })

-- ---- the next seat of a listing

next_split : (seats : List Seat) (i : ℕ) (seat : Seat) → i < length seats → seat ≡ get_or seats i seat → seats ≡ take i seats ++ seat ∷ drop (suc i) seats
next_split [] i seat low is = absurd (omega (arith, low))
next_split (x ∷ xs) zero seat low is = ap (λ (y : Seat). y ∷ xs) (sym is)
next_split (x ∷ xs) (suc i) seat low is = ap (λ (l : List Seat). x ∷ l) (next_split xs i seat (omega (arith, low)) is)

module _ (seats : List Seat) (i : ℕ) (seat : Seat) (low : i < length seats) (is : seat ≡ get_or seats i seat) where
  pub listed_next : (keys : KeyLists) (members : Place → Bool) → ListsSeats keys members seats → ListsSeats keys members (take i seats ++ seat ∷ drop (suc i) seats)
  listed_next keys members = subst (ListsSeats keys members) (next_split seats i seat low is)

  pub one_more : take i seats ++ seat ∷ [] ≡ take (i + 1) seats
  one_more = ap (λ (t : Seat). take i seats ++ t ∷ []) is ∙ sym (take_more seats i seat low)

  module _ (change : Class → KeptField → KeptField) (visits : Class → KeptField → ℕ) (test : Class → KeptField → Bool) (old now : Linked)
      (lists : ListsSeats old.keys (holds_at test old.state) seats) (ahead : IsAhead old now) (way : IsPartway change (map (place_at old.keys) (take i seats)) old.state now.state) where
    pub turn_to_do : IsToDo test seat now
    turn_to_do = next_to_do change test (take i seats) (drop (suc i) seats) seat old now (listed_next old.keys (holds_at test old.state) lists) ahead way

    module _ (before steps after : ℕ) (within : AreWithinVisits visits old (take i seats) before steps) (step : after ≤ steps + visits_at visits now seat) where
      within_more : AreWithinVisits visits old (take i seats ++ seat ∷ []) before after
      within_more =
          let same = next_visits change test (take i seats) (drop (suc i) seats) seat old now visits (listed_next old.keys (holds_at test old.state) lists) ahead way in
          visits_more visits old (take i seats) seat before steps after within (omega (arith, step, same))

      pub turn_within : AreWithinVisits visits old (take (i + 1) seats) before after
      turn_within = subst (λ (l : List Seat). AreWithinVisits visits old l before after) one_more within_more

      pub turn_stops_within : after ≤ before + sum_fields visits old.state
      turn_stops_within =
          visits_whole visits old (holds_at test old.state) (take i seats ++ seat ∷ []) (drop (suc i) seats) before after
          (subst (ListsSeats old.keys (holds_at test old.state)) (regroup (take i seats) seat (drop (suc i) seats)) (listed_next old.keys (holds_at test old.state) lists)) within_more
        where
          regroup : (xs : List Seat) (y : Seat) (zs : List Seat) → xs ++ y ∷ zs ≡ (xs ++ y ∷ []) ++ zs
          regroup [] y zs = refl
          regroup (x ∷ xs) y zs = ap (λ (l : List Seat). x ∷ l) (regroup xs y zs)

-- behind the last seat
pub last_within : (visits : Class → KeptField → ℕ) (x : Linked) (members : Place → Bool) (seats : List Seat) (n before steps : ℕ) → length seats ≤ n → ListsSeats x.keys members seats
    → AreWithinVisits visits x (take n seats) before steps → steps ≤ before + sum_fields visits x.state
last_within visits x members seats n before steps past lists within =
    visits_whole visits x members seats [] before steps
    (subst (ListsSeats x.keys members) (end seats) lists)
    (subst (λ (l : List Seat). AreWithinVisits visits x l before steps) (take_all n seats past) within)
  where
    end : (xs : List Seat) → xs ≡ xs ++ []
    end [] = refl
    end (x ∷ xs) = ap (λ (l : List Seat). x ∷ l) (end xs)

-- ---- the loop

-- a stage has come so far in a listing of seats
pub record IsAt (all : List Linkable) (change : Class → KeptField → KeptField) (takes : Class → KeptField → ℕ) (seats : List Seat) (i : ℕ) (old now : Linked) (before steps : ℕ) : Type 0 where
  pub way : IsOnTheWay all change (take i seats) old now
  pub within : AreWithinVisits takes old (take i seats) before steps

module _ (all : List Linkable) (change : Class → KeptField → KeptField) (visits : Class → KeptField → ℕ) (test : Class → KeptField → Bool) (seats : List Seat) (old : Linked) (before : ℕ) where
  pub at_first : IsMiddleWith all old.state → IsAt all change visits seats 0 old old before before
  at_first middle = record { way = begins all change old middle; within = omega arith }

  module _ (i : ℕ) (seat : Seat) (now : Linked) (steps : ℕ) (low : i < length seats) (is : seat ≡ get_or seats i seat)
      (lists : ListsSeats old.keys (holds_at test old.state) seats) (here : IsAt all change visits seats i old now before steps) where
    pub at_to_do : IsToDo test seat now
    at_to_do = turn_to_do seats i seat low is change visits test old now lists here.way.ahead here.way.partway

    pub at_next : (new : Linked) (after : ℕ) → IsEitherStage all change → IsTurned change seat now new → after ≤ steps + visits_at visits now seat
        → IsAt all change visits seats (i + 1) old new before after
    at_next new after either turned step = record {
      way = subst (λ (l : List Seat). IsOnTheWay all change l old new) (one_more seats i seat low is)
          (turns_on all change test (take i seats) (drop (suc i) seats) seat old now new either
          (listed_next seats i seat low is old.keys (holds_at test old.state) lists) here.way turned);
      within = turn_within seats i seat low is change visits test old now lists here.way.ahead here.way.partway before steps after here.within step;
    }

    -- where a turn ends without memory
    pub visits_at_stop : (after : ℕ) → after ≤ steps + visits_at visits now seat → after ≤ before + sum_fields visits old.state
    visits_at_stop after step =
        turn_stops_within seats i seat low is change visits test old now lists here.way.ahead here.way.partway before steps after here.within step

  module _ (n : ℕ) (now : Linked) (steps : ℕ) (past : length seats ≤ n) (here : IsAt all change visits seats n old now before steps) where
    pub done_at_last : IsMiddleWith all old.state → IsWhole change (map (place_at old.keys) seats) old.state → IsCarriedOut all change old now
    done_at_last middle changes =
        ends all change seats old now middle (subst (λ (l : List Seat). IsOnTheWay all change l old now) (take_all n seats past) here.way) changes

    pub visits_at_last : ListsSeats old.keys (holds_at test old.state) seats → steps ≤ before + sum_fields visits old.state
    visits_at_last lists = last_within visits old (holds_at test old.state) seats n before steps past lists here.within
