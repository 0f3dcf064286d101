-- Choosing over the listing of the seats that wait, turn by turn.
use Rattle.std.proofs.Common.{◌≡◌, ◌∙◌, sym, ap, refl, subst, ℕ, ◌+◌, ◌≤◌, ◌<◌, List, map, length, take, get_or, Option, Some, None, Bool, true, false}
use Rattle.std.specs.Prelude.{not, if◌then◌else◌, is_some}
use Rattle.std.specs.Option.{option_map_or}
use Rattle.marc_types.specs.declared.form.Form.{Form}
use Rattle.marc_types.specs.declared.key.Class.{Class}
use Rattle.marc_types.specs.declared.key.Key.{Key}
use Rattle.marc_types.specs.declared.key.Place.{Place}
use Rattle.entry_record.specs.Authority.{Linkable, heading_kind}
use Rattle.numbering.specs.declared.seat.Seat.{Seat}
use Rattle.catalogue_rules.specs.State.{KeptField, linkable_authorities}
use Rattle.catalogue_rules.specs.Sameness.{same_kept}
use Rattle.catalogue_rules.specs.Settle.{settle_field, settle_unlinked}
use Rattle.catalogue_tables.specs.Seam.{AreDistinct, KeyLists, place_at}
use Rattle.linking_laws.specs.Middle.{IsMiddle}
use Rattle.linking_laws.specs.Partway.{swapped}
use Rattle.linking_laws.specs.Stages.{choose_field}
use Rattle.linking_laws.specs.Tables.{holds_at}
use Rattle.linking_laws.specs.Visits.{choose_visits, link_visit}
use Rattle.linking_laws.specs.Waiting.{is_named, is_waiting_for}
use Rattle.linking_laws.specs.Weights.{sum_fields}
use Rattle.linking_laws.proofs.Listed.{choose_whole}
use Rattle.linking_laws.proofs.Settling.{choose_either}
use Rattle.linked_store.specs.Linked.{Linked, ListsSeats, field_of}
use Rattle.numbering.specs.Numbers.{with_thing}
use Rattle.numbering.specs.Seats.{same_seat}
use Rattle.commit_stages.specs.Noted.{AreNoted, NotesChanges, changes_at, noted_with}
use Rattle.commit_stages.specs.Turns.{IsCarriedOut, IsToDo, IsTurned, visits_at}
use Rattle.commit_stages.proofs.Looping.{IsAt, at_first, at_next, at_to_do, done_at_last, visits_at_last, visits_at_stop}
use Rattle.commit_stages.proofs.Notes.{noting_last, noting_next}
use Rattle.commit_stages.specs.Unlinked.{has_no_link, turn_visits}
use Rattle.commit_stages.proofs.SettledFields.{unlinked_settled, with_all}

module _ (forms : List Form) (key : Key) where
  -- what waits isn't linked
  waiting_unlinked : (class : Class) (h : KeptField) → is_waiting_for forms key class h ≡ true → h.tie.key ≡ None
  unfolding is_waiting_for
  waiting_unlinked class h waits = by h.tie.key (option_map_or (λ kind. is_named forms key class kind h) (heading_kind class h.field) false) waits
    where
      by : (o : Option Key) (b : Bool) → (if is_some o then false else b) ≡ true → o ≡ None
      by None b e = refl
      by (Some other) b e = cc

  chosen_settled : (all : List Linkable) (class : Class) (h : KeptField) → is_waiting_for forms key class h ≡ true → choose_field all forms key class h ≡ settle_field all class h
  unfolding choose_field
  chosen_settled all class h waits =
      ap (λ (b : Bool). if b then settle_unlinked all class h else h) waits ∙ sym (unlinked_settled all class h (waiting_unlinked class h waits))

  chosen_visits : (all : List Linkable) (class : Class) (h : KeptField) → is_waiting_for forms key class h ≡ true → choose_visits all forms key class h ≡ turn_visits all class h
  unfolding choose_visits
  chosen_visits all class h waits = ap {B = ℕ} (λ (b : Bool). if b then 1 + link_visit all class h else 0) waits

  module _ (seat : Seat) (x : Linked) (to_do : IsToDo (is_waiting_for forms key) seat x) where
    waits_there : (h : KeptField) → field_of seat x ≡ Some h → is_waiting_for forms key seat.class h ≡ true
    waits_there h there = sym (ap (λ (o : Option KeptField). option_map_or (is_waiting_for forms key seat.class) o false) there) ∙ to_do.passes

    pub unlinked_to_do : IsToDo has_no_link seat x
    unlinked_to_do = record { known = to_do.known; passes = by (field_of seat x) to_do.passes }
      where
        by : (o : Option KeptField) → option_map_or (is_waiting_for forms key seat.class) o false ≡ true → option_map_or (has_no_link seat.class) o false ≡ true
        by None e = e
        by (Some h) e = ap (λ (o : Option Key). not (is_some o)) (waiting_unlinked seat.class h e)

    pub turned_chosen : (all : List Linkable) (new : Linked) → IsTurned (settle_field all) seat x new → IsTurned (choose_field all forms key) seat x new
    turned_chosen all new turned = record {
      ahead = turned.ahead;
      state = λ h there. turned.state h there ∙ ap (λ (g : KeptField). swapped (place_at x.keys seat) g x.state) (sym (chosen_settled all seat.class h (waits_there h there)));
    }

    changes_chosen : (all : List Linkable) → changes_at (settle_field all) x seat ≡ changes_at (choose_field all forms key) x seat
    changes_chosen all = by (field_of seat x) to_do.passes
      where
        by : (o : Option KeptField) → option_map_or (is_waiting_for forms key seat.class) o false ≡ true
            → option_map_or (λ h. not (same_kept h (settle_field all seat.class h))) o false ≡ option_map_or (λ h. not (same_kept h (choose_field all forms key seat.class h))) o false
        by None e = refl
        by (Some h) e = ap (λ (g : KeptField). not (same_kept h g)) (sym (chosen_settled all seat.class h e))

    pub noted_chosen : (all : List Linkable) (noted : List Seat) → noted_with (settle_field all) x seat noted ≡ noted_with (choose_field all forms key) x seat noted
    noted_chosen all noted = ap (λ (b : Bool). if b then with_thing same_seat noted seat else noted) (changes_chosen all)

    pub visits_chosen : (all : List Linkable) → visits_at (turn_visits all) x seat ≡ visits_at (choose_visits all forms key) x seat
    visits_chosen all = by (field_of seat x) to_do.passes
      where
        by : (o : Option KeptField) → option_map_or (is_waiting_for forms key seat.class) o false ≡ true
            → option_map_or (turn_visits all seat.class) o 0 ≡ option_map_or (choose_visits all forms key seat.class) o 0
        by None e = refl
        by (Some h) e = sym (chosen_visits all seat.class h e)

-- ---- the loop

-- a listing that is lent
pub lists_lent : (keys : KeyLists) (test : Place → Bool) (seats lent : List Seat) → lent ≡ seats → ListsSeats keys test seats → ListsSeats keys test lent
lists_lent keys test seats lent same lists = subst (ListsSeats keys test) (sym same) lists

-- so many seats of a listing have been given their choice
abbrev pub IsChoosing : List Form → Key → List Seat → ℕ → Linked → Linked → ℕ → ℕ → Type 0
IsChoosing forms key seats i old now before steps =
    IsAt (linkable_authorities old.state) (choose_field (linkable_authorities old.state) forms key) (choose_visits (linkable_authorities old.state) forms key) seats i old now before steps

module _ (forms : List Form) (key : Key) (seats : List Seat) (old : Linked) (before : ℕ) where
  abbrev all : List Linkable
  all = linkable_authorities old.state

  abbrev change : Class → KeptField → KeptField
  change = choose_field all forms key

  abbrev visits : Class → KeptField → ℕ
  visits = choose_visits all forms key

  abbrev test : Class → KeptField → Bool
  test = is_waiting_for forms key

  pub choosing_begins : IsMiddle old.state → IsChoosing forms key seats 0 old old before before
  choosing_begins middle = at_first all change visits test seats old before (with_all old.state middle)

  module _ (i : ℕ) (seat : Seat) (now : Linked) (steps : ℕ) (low : i < length seats) (is : seat ≡ get_or seats i seat)
      (lists : ListsSeats old.keys (holds_at test old.state) seats) (here : IsChoosing forms key seats i old now before steps) where
    waits : IsToDo test seat now
    waits = at_to_do all change visits test seats old before i seat now steps low is lists here

    pub choosing_to_do : IsToDo has_no_link seat now
    choosing_to_do = unlinked_to_do forms key seat now waits

    within_turn : (after : ℕ) → after ≤ steps + visits_at (turn_visits (linkable_authorities now.state)) now seat → after ≤ steps + visits_at visits now seat
    within_turn after step =
        subst (λ (n : ℕ). after ≤ steps + n) (visits_chosen forms key seat now waits all)
        (subst (λ (l : List Linkable). after ≤ steps + visits_at (turn_visits l) now seat) here.way.middle.authorities_are step)

    pub choosing_goes_on : (new : Linked) (after : ℕ) → IsTurned (settle_field (linkable_authorities now.state)) seat now new
        → after ≤ steps + visits_at (turn_visits (linkable_authorities now.state)) now seat → IsChoosing forms key seats (i + 1) old new before after
    choosing_goes_on new after turned step =
        at_next all change visits test seats old before i seat now steps low is lists here new after (choose_either all forms key)
        (turned_chosen forms key seat now waits all new (subst (λ (l : List Linkable). IsTurned (settle_field l) seat now new) here.way.middle.authorities_are turned))
        (within_turn after step)

    pub choosing_notes : (start noted after : List Seat) → AreNoted change old (take i seats) start noted
        → after ≡ noted_with (settle_field (linkable_authorities now.state)) now seat noted → AreNoted change old (take (i + 1) seats) start after
    choosing_notes start noted after so_far note =
        noting_next change (holds_at test old.state) seats old start lists i seat now noted after low is here.way.ahead here.way.partway so_far
        (note ∙ ap (λ (l : List Linkable). noted_with (settle_field l) now seat noted) here.way.middle.authorities_are ∙ noted_chosen forms key seat now waits all noted)

    pub choosing_visits_stop : (after : ℕ) → after ≤ steps + visits_at (turn_visits (linkable_authorities now.state)) now seat → after ≤ before + sum_fields visits old.state
    choosing_visits_stop after step = visits_at_stop all change visits test seats old before i seat now steps low is lists here after (within_turn after step)

  module _ (n : ℕ) (now : Linked) (steps : ℕ) (past : length seats ≤ n) (here : IsChoosing forms key seats n old now before steps)
      (lists : ListsSeats old.keys (holds_at test old.state) seats) where
    pub choosing_ends : IsMiddle old.state → IsCarriedOut all change old now
    choosing_ends middle =
        done_at_last all change visits test seats old before n now steps past here (with_all old.state middle)
        (choose_whole all forms key old.state (map (place_at old.keys) seats) lists.places)

    pub choosing_visits_end : steps ≤ before + sum_fields visits old.state
    choosing_visits_end = visits_at_last all change visits test seats old before n now steps past here lists

    pub choosing_all_noted : (start noted : List Seat) → AreDistinct old.keys → AreNoted change old (take n seats) start noted → NotesChanges change old start noted
    choosing_all_noted start noted distinct =
        noting_last change (holds_at test old.state) seats old start lists n noted past distinct (choose_whole all forms key old.state (map (place_at old.keys) seats) lists.places)
