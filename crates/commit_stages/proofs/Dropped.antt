-- Dropping over a listing of seats: what is made of one field may come to its seat, and how far the listing is done.
use Rattle.std.proofs.Common.{◌≡◌, ◌∙◌, sym, ap, refl, subst, ℕ, suc, ◌+◌, ◌≤◌, ◌<◌, arith, List, [], ◌∷◌, ◌++◌, map, length, take, drop, Option, Some, None, Bool, true, false, get_or}
use Rattle.std.specs.Prelude.{IfSome, IsSome}
use Rattle.std.specs.Option.{option_map_or}
use Rattle.std.proofs.lemmas.List.{take_all}
use Rattle.std.proofs.lemmas.List.Elements.{recursion_from_All}
use Rattle.marc_types.specs.Valid.{is_field, is_record}
use Rattle.marc_types.specs.Fields.{tag_of}
use Rattle.marc_types.specs.declared.key.Class.{Class}
use Rattle.marc_types.specs.declared.key.Class.TheVariants.{Authority}
use Rattle.marc_types.specs.declared.key.Key.{Key}
use Rattle.marc_types.specs.declared.key.Place.{Place}
use Rattle.heading_fields.specs.Tables.{is_subdividable}
use Rattle.entry_record.specs.Authority.{Linkable}
use Rattle.numbering.specs.declared.seat.Seat.{Seat}
use Rattle.catalogue_rules.specs.State.{KeptField, KeptRecord, fields_of, linkable_authorities}
use Rattle.catalogue_rules.specs.Valid.{IsRow}
use Rattle.catalogue_rules.proofs.Elements.{Each}
use Rattle.catalogue_rules.proofs.Fit.{IsFit}
use Rattle.catalogue_rules.proofs.Proper.{all_fit}
use Rattle.catalogue_rules.specs.Store.{StaysFit, StaysRecord}
use Rattle.catalogue_tables.specs.Seam.{AreDistinct, HasKey, place_at}
use Rattle.linking_laws.specs.Middle.{AreAuthoritiesInOrder, CanDrop, CanDropOn, IsSparedRightly, IsTiedButTo, IsWithinReach}
use Rattle.linking_laws.specs.Partway.{AreOrdered, IsNext, IsSteady, is_place_among}
use Rattle.linking_laws.specs.Stages.{Dropping, drop_by}
use Rattle.linking_laws.specs.Tables.{AreOnce, dropped_at, holds_at}
use Rattle.linking_laws.specs.Visits.{drop_visits_by}
use Rattle.linking_laws.specs.Weights.{sum_fields}
use Rattle.linking_laws.proofs.Dropped.{dropped_field, handled, steady_dropped}
use Rattle.linking_laws.proofs.Listed.{drop_whole, next_is_new}
use Rattle.linking_laws.proofs.Turning.{drop_fits, drop_stays}
use Rattle.field_settling.specs.Held.{held_as}
use Rattle.field_settling.specs.declared.held.Held.{Held}
use Rattle.linked_store.specs.Linked.{Linked, ListsSeats, SuitsSeat, field_of, record_at}
use Rattle.commit_stages.specs.Fields.{IsProperAt}
use Rattle.commit_stages.specs.Noted.{AreNoted, NotesChanges, noted_with}
use Rattle.commit_stages.specs.Turns.{AreWithinVisits, IsCarriedOut, IsDropping, IsMadeOf, IsToDo, IsTurned, visits_at}
use Rattle.commit_stages.proofs.Looping.{last_within, listed_next, one_more, turn_stops_within, turn_to_do, turn_within}
use Rattle.commit_stages.proofs.Notes.{noting_last, noting_next}
use Rattle.commit_stages.proofs.Suiting.{field_at_place, proper_at}
use Rattle.commit_stages.proofs.Turning.{drop_ends, drop_starts, drop_turns, known_there, map_join}
use Rattle.commit_stages.specs.Dropping.{IsChangedTo, IsDropTurn}

-- ---- what is made may come to the seat

module _ (d : Dropping) (key : Key) (successor : Option Key) (done : List Place) (x : Linked) (seat : Seat) (h : KeptField) where
  stays_at : CanDropOn d key done x.state → IsNext done (place_at x.keys seat) h x.state → is_field (drop_by d (linkable_authorities x.state) key successor seat.class h).field ≡ true
      → (o : Option KeptRecord) → record_at seat.class seat.number x ≡ o → IfSome o (λ (r : KeptRecord). is_record r.leader (fields_of r) ≡ true)
      → IfSome o (StaysRecord seat.field (drop_by d (linkable_authorities x.state) key successor seat.class h).field)
  stays_at can next good None is proper = tt
  stays_at can next good (Some r) is proper =
      drop_stays d key successor done x.state (place_at x.keys seat) h r can next (record { kept = is; visited = proper; proper = good })

  fits_at : CanDropOn d key done x.state → IsNext done (place_at x.keys seat) h x.state → (o : Option KeptRecord) → record_at seat.class seat.number x ≡ o
      → IfSome o (StaysFit seat.field (drop_by d (linkable_authorities x.state) key successor seat.class h).field)
  fits_at can next None is = tt
  fits_at can next (Some r) is = drop_fits d key successor done x.state (place_at x.keys seat) h r can next is

  tied_here : CanDropOn d key done x.state → IsNext done (place_at x.keys seat) h x.state → IsTiedButTo key (linkable_authorities x.state) seat.class h
  tied_here can next = field_at_place (IsTiedButTo key (linkable_authorities x.state)) x.state (place_at x.keys seat) h seat.class refl can.ties next.stands

  whole_at : CanDropOn d key done x.state → IsNext done (place_at x.keys seat) h x.state → (drop_by d (linkable_authorities x.state) key successor seat.class h).tie.whole ≡ true
      → is_subdividable seat.class (tag_of (drop_by d (linkable_authorities x.state) key successor seat.class h).field) ≡ true
  whole_at can next =
      let all : List Linkable = linkable_authorities x.state in
      let fits : Each (IsFit all) all = all_fit x.state.authorities can.authorities_ascend (recursion_from_All (IsRow Authority) x.state.authorities can.rows.0) in
      let tied = tied_here can next in
      let short = field_at_place IsWithinReach x.state (place_at x.keys seat) h seat.class refl can.within next.stands in
      let what = dropped_field all key successor seat.class d h tied (can.spared (place_at x.keys seat) h next) in
      (handled all key successor seat.class fits h (drop_by d all key successor seat.class h) tied short what).tied.whole

  steady_at : CanDropOn d key done x.state → IsNext done (place_at x.keys seat) h x.state → (k : Class) → IsTiedButTo key (linkable_authorities x.state) k h
      → IsSparedRightly d key (linkable_authorities x.state) k h → k ≡ Authority → IsSteady h (drop_by d (linkable_authorities x.state) key successor k h)
  steady_at can next k tied spared own =
      let all : List Linkable = linkable_authorities x.state in
      let t : IsTiedButTo key all Authority h = subst (λ (c : Class). IsTiedButTo key all c h) own tied in
      let s : IsSparedRightly d key all Authority h = subst (λ (c : Class). IsSparedRightly d key all c h) own spared in
      subst (λ (c : Class). IsSteady h (drop_by d all key successor c h)) (sym own)
      (steady_dropped all key successor h (drop_by d all key successor Authority h) t (dropped_field all key successor Authority d h t s))

  drop_suits : CanDropOn d key done x.state → IsNext done (place_at x.keys seat) h x.state → HasKey x.keys seat → IsProperAt seat x
      → is_field (drop_by d (linkable_authorities x.state) key successor seat.class h).field ≡ true
      → SuitsSeat seat (drop_by d (linkable_authorities x.state) key successor seat.class h) x
  drop_suits can next known proper good = record {
    known = known;
    stands = subst IsSome (sym next.stands) refl;
    stays = stays_at can next good (record_at seat.class seat.number x) refl proper;
    fits = fits_at can next (record_at seat.class seat.number x) refl;
    steady = λ own. subst (λ (o : Option KeptField). IfSome o (λ old. IsSteady old (drop_by d (linkable_authorities x.state) key successor seat.class h))) (sym next.stands)
        (steady_at can next seat.class (tied_here can next) (can.spared (place_at x.keys seat) h next) own);
    whole = whole_at can next;
  }

same_field : (g h : KeptField) (o : Option KeptField) → o ≡ Some h → o ≡ Some g → h ≡ g
same_field g h o first second = cc

-- what dropping makes of the field that stands at a seat is what it makes of the seat's field
module _ (d : Dropping) (key : Key) (successor : Option Key) (x : Linked) (seat : Seat) (h : KeptField) where
  pub dropped_made : IsToDo (dropped_at key successor) seat x → IsDropTurn d key seat x → IsProperAt seat x → Some h ≡ field_of seat x
      → (o : Option Held) → IsChangedTo (drop_by d (linkable_authorities x.state) key successor) seat.class h o
      → IsMadeOf (drop_by d (linkable_authorities x.state) key successor) seat x o
  dropped_made to_do turn proper there None is =
      λ g there_too. subst (λ (y : KeptField). drop_by d (linkable_authorities x.state) key successor seat.class y ≡ y) (same_field g h (field_of seat x) (sym there) there_too) is
  dropped_made to_do turn proper there (Some held) is =
      let change : Class → KeptField → KeptField = drop_by d (linkable_authorities x.state) key successor in
      let next : IsNext turn.done (place_at x.keys seat) h x.state = record { is_new = turn.is_new; stands = sym there } in
      let good : is_field (held_as held).field ≡ true = is.proper (proper_at x seat h proper (sym there)) in
      record {
        made_is = λ g there_too. is.made_is ∙ ap (change seat.class) (same_field g h (field_of seat x) (sym there) there_too);
        suits = subst (λ (y : KeptField). SuitsSeat seat y x) (sym is.made_is)
            (drop_suits d key successor turn.done x seat h turn.can next to_do.known proper (subst (λ (y : KeptField). is_field y.field ≡ true) is.made_is good));
      }

-- the field that stands at a seat to do passes the test
pub to_do_there : (test : Class → KeptField → Bool) (seat : Seat) (x : Linked) (h : KeptField) → IsToDo test seat x → Some h ≡ field_of seat x → test seat.class h ≡ true
to_do_there test seat x h to_do there = ap (λ (o : Option KeptField). option_map_or (test seat.class) o false) there ∙ to_do.passes

-- the visits of the field that stands at a seat are the seat's
pub there_within : (visits : Class → KeptField → ℕ) (seat : Seat) (x : Linked) (h : KeptField) (before now after : ℕ) → Some h ≡ field_of seat x → now ≡ before + 1
    → after + 1 ≤ now + visits seat.class h → after ≤ before + visits_at visits x seat
there_within visits seat x h before now after there one step =
    let own : visits seat.class h ≡ visits_at visits x seat = ap (λ (o : Option KeptField). option_map_or (visits seat.class) o 0) there in
    omega (arith, own, one, step)

-- at a seat to do stands a field
pub nowhere : {A : Type 0} (test : Class → KeptField → Bool) (seat : Seat) (x : Linked) → IsToDo test seat x → None ≡ field_of seat x → A
nowhere test seat x to_do off =
    let none : false ≡ true = ap (λ (o : Option KeptField). option_map_or (test seat.class) o false) off ∙ to_do.passes in cc

pub turn_ordered : (d : Dropping) (key : Key) (seat : Seat) (x : Linked) → IsDropTurn d key seat x → AreOrdered x.state
turn_ordered d key seat x turn = record { authorities = turn.can.authorities_ascend; bibliographic = turn.can.bibliographic_ascend }

pub turn_in_order : (d : Dropping) (key : Key) (seat : Seat) (x : Linked) → IsDropTurn d key seat x → AreAuthoritiesInOrder x.state
turn_in_order d key seat x turn = record { ascend = turn.can.authorities_ascend; rows = turn.can.rows.0 }

-- ---- the loop

-- dropping has come so far in a listing of seats
pub record IsDropAt (d : Dropping) (key : Key) (successor : Option Key) (seats : List Seat) (i : ℕ) (old now : Linked) (before steps : ℕ) : Type 0 where
  pub way : IsDropping d key successor (take i seats) old now
  pub within : AreWithinVisits (drop_visits_by d (linkable_authorities old.state) key successor) old (take i seats) before steps

module _ (d : Dropping) (key : Key) (successor : Option Key) (seats : List Seat) (old : Linked) (before : ℕ) where
  pub drop_at_first : CanDrop d key old.state → IsDropAt d key successor seats 0 old old before before
  drop_at_first can = record { way = drop_starts d key successor old can; within = omega arith }

  module _ (i : ℕ) (seat : Seat) (now : Linked) (steps : ℕ) (low : i < length seats) (is : seat ≡ get_or seats i seat)
      (lists : ListsSeats old.keys (holds_at (dropped_at key successor) old.state) seats) (here : IsDropAt d key successor seats i old now before steps) where
    pub drop_to_do : IsToDo (dropped_at key successor) seat now
    drop_to_do =
        turn_to_do seats i seat low is (drop_by d (linkable_authorities old.state) key successor) (drop_visits_by d (linkable_authorities old.state) key successor) (dropped_at key successor)
        old now lists here.way.ahead here.way.partway

    next_lists : ListsSeats old.keys (holds_at (dropped_at key successor) old.state) (take i seats ++ seat ∷ drop (suc i) seats)
    next_lists = listed_next seats i seat low is old.keys (holds_at (dropped_at key successor) old.state) lists

    pub drop_turn : IsDropTurn d key seat now
    drop_turn =
        let places : List Place = map (place_at old.keys) (take i seats) in
        let known : HasKey old.keys seat = known_there old.keys (take i seats) (drop (suc i) seats) seat next_lists.known in
        let once : AreOnce (places ++ place_at old.keys seat ∷ map (place_at old.keys) (drop (suc i) seats)) =
        subst AreOnce (map_join (place_at old.keys) (take i seats) (seat ∷ drop (suc i) seats)) next_lists.places.once in
        record {
          done = places;
          can = here.way.can_go_on;
          is_new = ap (is_place_among places) (here.way.ahead.keys.places seat known)
              ∙ next_is_new places (place_at old.keys seat) (map (place_at old.keys) (drop (suc i) seats)) once;
        }

    -- the visits of the turn, over the authorities that there were
    same_visits : visits_at (drop_visits_by d (linkable_authorities now.state) key successor) now seat ≡ visits_at (drop_visits_by d (linkable_authorities old.state) key successor) now seat
    same_visits = ap (λ (all : List Linkable). visits_at (drop_visits_by d all key successor) now seat) here.way.authorities_stay

    old_step : (after : ℕ) → after ≤ steps + visits_at (drop_visits_by d (linkable_authorities now.state) key successor) now seat
        → after ≤ steps + visits_at (drop_visits_by d (linkable_authorities old.state) key successor) now seat
    old_step after step = let same = same_visits in omega (arith, same, step)

    further : (new : Linked) → IsTurned (drop_by d (linkable_authorities now.state) key successor) seat now new → IsDropping d key successor (take i seats ++ seat ∷ []) old new
    further new turned = by (field_of seat now) refl drop_to_do.passes
      where
        by : (o : Option KeptField) → field_of seat now ≡ o → option_map_or (dropped_at key successor seat.class) o false ≡ true → IsDropping d key successor (take i seats ++ seat ∷ []) old new
        by None there passes = cc
        by (Some h) there passes =
            drop_turns d key successor (holds_at (dropped_at key successor) old.state) (take i seats) (drop (suc i) seats) seat h old now new next_lists here.way there
            (record { ahead = turned.ahead; state = turned.state h there })

    pub drop_at_next : (new : Linked) (after : ℕ) → IsTurned (drop_by d (linkable_authorities now.state) key successor) seat now new
        → after ≤ steps + visits_at (drop_visits_by d (linkable_authorities now.state) key successor) now seat
        → IsDropAt d key successor seats (i + 1) old new before after
    drop_at_next new after turned step = record {
      way = subst (λ (l : List Seat). IsDropping d key successor l old new) (one_more seats i seat low is) (further new turned);
      within =
          turn_within seats i seat low is (drop_by d (linkable_authorities old.state) key successor) (drop_visits_by d (linkable_authorities old.state) key successor) (dropped_at key successor)
          old now lists here.way.ahead here.way.partway before steps after here.within (old_step after step);
    }

    pub drop_notes : (start noted after : List Seat) → AreNoted (drop_by d (linkable_authorities old.state) key successor) old (take i seats) start noted
        → after ≡ noted_with (drop_by d (linkable_authorities now.state) key successor) now seat noted
        → AreNoted (drop_by d (linkable_authorities old.state) key successor) old (take (i + 1) seats) start after
    drop_notes start noted after so_far note =
        noting_next (drop_by d (linkable_authorities old.state) key successor) (holds_at (dropped_at key successor) old.state) seats old start lists
        i seat now noted after low is here.way.ahead here.way.partway so_far
        (note ∙ ap (λ (all : List Linkable). noted_with (drop_by d all key successor) now seat noted) here.way.authorities_stay)

    -- where a turn ends without memory
    pub drop_visits_at_stop : (after : ℕ) → after ≤ steps + visits_at (drop_visits_by d (linkable_authorities now.state) key successor) now seat
        → after ≤ before + sum_fields (drop_visits_by d (linkable_authorities old.state) key successor) old.state
    drop_visits_at_stop after step =
        turn_stops_within seats i seat low is (drop_by d (linkable_authorities old.state) key successor) (drop_visits_by d (linkable_authorities old.state) key successor) (dropped_at key successor)
        old now lists here.way.ahead here.way.partway before steps after here.within (old_step after step)

  module _ (n : ℕ) (now : Linked) (steps : ℕ) (past : length seats ≤ n) (lists : ListsSeats old.keys (holds_at (dropped_at key successor) old.state) seats)
      (here : IsDropAt d key successor seats n old now before steps) where
    pub drop_done : CanDrop d key old.state → IsCarriedOut (linkable_authorities old.state) (drop_by d (linkable_authorities old.state) key successor) old now
    drop_done can =
        drop_ends d key successor seats old now can (subst (λ (l : List Seat). IsDropping d key successor l old now) (take_all n seats past) here.way)
        (drop_whole d key successor old.state (map (place_at old.keys) seats) can lists.places)

    pub drop_visits_at_last : steps ≤ before + sum_fields (drop_visits_by d (linkable_authorities old.state) key successor) old.state
    drop_visits_at_last =
        last_within (drop_visits_by d (linkable_authorities old.state) key successor) old (holds_at (dropped_at key successor) old.state) seats n before steps past lists here.within

    pub drop_all_noted : (start noted : List Seat) → CanDrop d key old.state → AreDistinct old.keys → AreNoted (drop_by d (linkable_authorities old.state) key successor) old (take n seats) start noted
        → NotesChanges (drop_by d (linkable_authorities old.state) key successor) old start noted
    drop_all_noted start noted can distinct =
        noting_last (drop_by d (linkable_authorities old.state) key successor) (holds_at (dropped_at key successor) old.state) seats old start lists n noted past distinct
        (drop_whole d key successor old.state (map (place_at old.keys) seats) can lists.places)
