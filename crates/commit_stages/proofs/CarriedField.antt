-- Carrying a heading: what is made of one field, and what one visit counts.
use Rattle.std.proofs.Common.{◌≡◌, ◌∙◌, sym, ap, refl, subst, ℕ, ◌+◌, ◌≤◌, ◌<◌, arith, List, map, length, take, get_or, Option, Some, None, Bool, true, false}
use Rattle.std.specs.Prelude.{◌==◌, find, if◌then◌else◌}
use Rattle.std.specs.Cmp.{unsigned_Decides}
use Rattle.std.specs.Option.{option_map, option_map_or}
use Rattle.marc_types.specs.Valid.{is_field}
use Rattle.marc_types.specs.declared.field.Field.{Field}
use Rattle.marc_types.specs.declared.form.Kind.{Kind}
use Rattle.marc_types.specs.declared.key.Class.{Class}
use Rattle.marc_types.specs.declared.key.Key.{Key}
use Rattle.heading_fields.proofs.Fieldlaws.{is_field_rewriting}
use Rattle.entry_record.specs.Authority.{Linkable}
use Rattle.numbering.specs.declared.seat.Seat.{Seat}
use Rattle.catalogue_rules.specs.State.{KeptField, State, linkable_authorities}
use Rattle.catalogue_rules.specs.Choice.{has_key}
use Rattle.catalogue_rules.specs.Settle.{is_linked_to}
use Rattle.field_settling.specs.Held.{linked_by}
use Rattle.linking_laws.specs.Middle.{IsEitherStage, IsMiddle, IsMiddleWith}
use Rattle.linking_laws.specs.Stages.{carry_by, carry_field}
use Rattle.linking_laws.specs.Tables.{holds_at, linked_at}
use Rattle.linking_laws.specs.Visits.{carry_visits}
use Rattle.linking_laws.specs.Weights.{one_if, sum_fields}
use Rattle.linking_laws.proofs.Listed.{carry_whole}
use Rattle.linking_laws.proofs.Settling.{carry_either}
use Rattle.linking_laws.specs.Partway.{IsWhole}
use Rattle.catalogue_tables.specs.Seam.{AreDistinct, place_at}
use Rattle.linked_store.specs.Linked.{Linked, ListsSeats, SuitsSeat, field_of}
use Rattle.commit_stages.specs.Fields.{IsProperAt}
use Rattle.commit_stages.specs.Noted.{AreNoted, NotesChanges, noted_with}
use Rattle.commit_stages.specs.Turns.{IsCarriedOut, IsMade, IsToDo, IsTurned, visits_at}
use Rattle.commit_stages.proofs.Looping.{IsAt, at_first, at_next, at_to_do, done_at_last, visits_at_last, visits_at_stop}
use Rattle.commit_stages.proofs.Notes.{noting_last, noting_next}
use Rattle.commit_stages.proofs.Suiting.{proper_at, stage_suits}
use Rattle.commit_stages.specs.Carrying.{IsHeadingOf, carry_heading, heading_in, linked_visits}

carries_by : (key : Key) (heading : Kind × Field) (o : Option Linkable) → option_map heading_in o ≡ Some heading → carry_heading key heading ≡ carry_by key o
carries_by key heading None e = cc
carries_by key heading (Some c) e =
    let same : heading_in c ≡ heading = cc in λ i class h. carry_field key (sym same i).1 (sym same i).0 class h

visits_by : (key : Key) (heading : Kind × Field) (o : Option Linkable) → option_map heading_in o ≡ Some heading → linked_visits key ≡ carry_visits key o
visits_by key heading None e = cc
visits_by key heading (Some c) e = λ i class h. one_if (is_linked_to key h)

module _ (key : Key) (heading : Kind × Field) (all : List Linkable) (is : IsHeadingOf key heading all) where
  pub carries : carry_heading key heading ≡ carry_by key (find (has_key key) all)
  carries = carries_by key heading (find (has_key key) all) is.found

  pub carries_either : IsEitherStage all (carry_heading key heading)
  carries_either = subst (IsEitherStage all) (sym carries) (carry_either key all)

  pub carried_whole : (old new : Linked) → IsCarriedOut all (carry_heading key heading) old new → IsCarriedOut all (carry_by key (find (has_key key) all)) old new
  carried_whole old new done = subst (λ (change : Class → KeptField → KeptField). IsCarriedOut all change old new) carries done

  pub carried_noted : (x : Linked) (before noted : List Seat) → NotesChanges (carry_heading key heading) x before noted → NotesChanges (carry_by key (find (has_key key) all)) x before noted
  carried_noted x before noted notes = subst (λ (change : Class → KeptField → KeptField). NotesChanges change x before noted) carries notes

  pub carried_visits : (s : State) (before after : ℕ) → after ≤ before + sum_fields (linked_visits key) s → after ≤ before + sum_fields (carry_visits key (find (has_key key) all)) s
  carried_visits s before after within =
      subst (λ (visits : Class → KeptField → ℕ). after ≤ before + sum_fields visits s) (visits_by key heading (find (has_key key) all) is.found) within

  -- the heading is of the same key while the authorities stay
  pub heading_stays : (now : List Linkable) → now ≡ all → IsHeadingOf key heading now
  heading_stays now same = subst (IsHeadingOf key heading) (sym same) is

  carried_as : (class : Class) (h : KeptField) → is_linked_to key h ≡ true → linked_by class h.field h.tie.whole key heading.0 heading.1 ≡ carry_heading key heading class h
  unfolding carry_field
  carried_as class h linked = sym (ap (λ (b : Bool). if b then linked_by class h.field h.tie.whole key heading.0 heading.1 else h) linked)

  carried_proper : (class : Class) (h : KeptField) → is_linked_to key h ≡ true → is_field h.field ≡ true → is_field (carry_heading key heading class h).field ≡ true
  carried_proper class h linked good =
      subst (λ (g : KeptField). is_field g.field ≡ true) (carried_as class h linked)
      (is_field_rewriting h.field heading.0 class heading.1 key h.tie.whole good is.proper is.code is.number)

linked_there : (key : Key) (seat : Seat) (x : Linked) (h : KeptField) → IsToDo (linked_at key) seat x → field_of seat x ≡ Some h → is_linked_to key h ≡ true
linked_there key seat x h to_do there = sym (ap (λ (o : Option KeptField). option_map_or (linked_at key seat.class) o false) there) ∙ to_do.passes

same_field : (g h : KeptField) (o : Option KeptField) → o ≡ Some h → o ≡ Some g → h ≡ g
same_field g h o first second = cc

pub carried_made : (key : Key) (heading : Kind × Field) (seat : Seat) (x : Linked) (h made : KeptField) → IsToDo (linked_at key) seat x → IsHeadingOf key heading (linkable_authorities x.state)
    → IsMiddle x.state → IsProperAt seat x → Some h ≡ field_of seat x → made ≡ linked_by seat.class h.field h.tie.whole key heading.0 heading.1
    → IsMade (carry_heading key heading) seat x made
carried_made key heading seat x h made to_do is middle proper there made_is =
    let all = linkable_authorities x.state in
    let with_all : IsMiddleWith all x.state = record { middle = middle; authorities_are = refl } in
    let linked = linked_there key seat x h to_do (sym there) in
    let written : made ≡ carry_heading key heading seat.class h = made_is ∙ carried_as key heading all is seat.class h linked in
    record {
      made_is = λ g there_too. written ∙ ap (carry_heading key heading seat.class) (same_field g h (field_of seat x) (sym there) there_too);
      suits = subst (λ (g : KeptField). SuitsSeat seat g x) (sym written)
          (stage_suits all (carry_heading key heading) x seat h with_all (carries_either key heading all is) to_do.known (sym there) proper
          (carried_proper key heading all is seat.class h linked (proper_at x seat h proper (sym there))));
    }

pub one_visit : (key : Key) (seat : Seat) (x : Linked) (before after : ℕ) → IsToDo (linked_at key) seat x → after ≡ before + 1 → after ≤ before + visits_at (linked_visits key) x seat
one_visit key seat x before after to_do step = by (field_of seat x) to_do.passes
  where
    one : (b : Bool) → b ≡ true → 1 ≤ one_if b
    one true e = omega arith
    one false e = cc

    by : (o : Option KeptField) → option_map_or (linked_at key seat.class) o false ≡ true → after ≤ before + option_map_or (linked_visits key seat.class) o 0
    by None passes = cc
    by (Some h) passes = let least = one (is_linked_to key h) passes in omega (arith, step, least)

-- where no field stands, none is made
pub none_made : (change : Class → KeptField → KeptField) (seat : Seat) (x : Linked) → None ≡ field_of seat x → (h : KeptField) → field_of seat x ≡ Some h → change seat.class h ≡ h
none_made change seat x off h there = let no_way : None ≡ Some h = off ∙ there in cc

-- the heading that was found is that of the key
pub found_of : (key : Key) (all : List Linkable) (o : Option (Kind × Field)) (copied heading : Kind × Field) → Some copied ≡ o → o ≡ Some heading → IsHeadingOf key heading all
    → IsHeadingOf key copied all
found_of key all o copied heading found under is = let same : heading ≡ copied = some_same heading copied (sym (found ∙ under)) in subst (λ (h : Kind × Field). IsHeadingOf key h all) same is
  where
    some_same : (x y : Kind × Field) → Some x ≡ Some y → x ≡ y
    some_same x y e = cc

pub none_found : (A : Type 0) (o : Option (Kind × Field)) (heading : Kind × Field) → None ≡ o → o ≡ Some heading → A
none_found A o heading off under = let no_way : None ≡ Some heading = off ∙ under in cc

pub none_listed : (seats : List Seat) (b : Bool) → b ≡ (length seats == 0) → b ≡ true → length seats ≤ 0
none_listed seats b e is = let none : length seats ≡ 0 = (unsigned_Decides (length seats) 0).0 (sym e ∙ is) in omega (arith, none)

-- ---- the loop

-- the heading has been carried to so many seats of a listing
abbrev pub IsCarrying : Key → Kind × Field → List Seat → ℕ → Linked → Linked → ℕ → ℕ → Type 0
IsCarrying key heading seats i old now before steps = IsAt (linkable_authorities old.state) (carry_heading key heading) (linked_visits key) seats i old now before steps

module _ (key : Key) (heading : Kind × Field) (seats : List Seat) (old : Linked) (before : ℕ) (is_heading : IsHeadingOf key heading (linkable_authorities old.state)) where
  pub carry_begins : IsMiddle old.state → IsCarrying key heading seats 0 old old before before
  carry_begins middle =
      at_first (linkable_authorities old.state) (carry_heading key heading) (linked_visits key) (linked_at key) seats old before (record { middle = middle; authorities_are = refl })

  module _ (i : ℕ) (seat : Seat) (now : Linked) (steps : ℕ) (low : i < length seats) (is : seat ≡ get_or seats i seat)
      (lists : ListsSeats old.keys (holds_at (linked_at key) old.state) seats) (here : IsCarrying key heading seats i old now before steps) where
    pub carry_to_do : IsToDo (linked_at key) seat now
    carry_to_do = at_to_do (linkable_authorities old.state) (carry_heading key heading) (linked_visits key) (linked_at key) seats old before i seat now steps low is lists here

    pub carry_goes_on : (new : Linked) (after : ℕ) → IsTurned (carry_heading key heading) seat now new → after ≤ steps + visits_at (linked_visits key) now seat
        → IsCarrying key heading seats (i + 1) old new before after
    carry_goes_on new after turned step =
        at_next (linkable_authorities old.state) (carry_heading key heading) (linked_visits key) (linked_at key) seats old before i seat now steps low is lists here new after
        (carries_either key heading (linkable_authorities old.state) is_heading) turned step

    pub carry_notes : (start noted after : List Seat) → AreNoted (carry_heading key heading) old (take i seats) start noted → after ≡ noted_with (carry_heading key heading) now seat noted
        → AreNoted (carry_heading key heading) old (take (i + 1) seats) start after
    carry_notes start noted after =
        noting_next (carry_heading key heading) (holds_at (linked_at key) old.state) seats old start lists i seat now noted after low is here.way.ahead here.way.partway

    pub carry_visits_stop : (after : ℕ) → after ≤ steps + visits_at (linked_visits key) now seat → after ≤ before + sum_fields (linked_visits key) old.state
    carry_visits_stop after step =
        visits_at_stop (linkable_authorities old.state) (carry_heading key heading) (linked_visits key) (linked_at key) seats old before i seat now steps low is lists here after step

  module _ (n : ℕ) (now : Linked) (steps : ℕ) (past : length seats ≤ n) (here : IsCarrying key heading seats n old now before steps)
      (lists : ListsSeats old.keys (holds_at (linked_at key) old.state) seats) where
    carry_is_whole : IsWhole (carry_heading key heading) (map (place_at old.keys) seats) old.state
    carry_is_whole =
        subst (λ (change : Class → KeptField → KeptField). IsWhole change (map (place_at old.keys) seats) old.state) (sym (carries key heading (linkable_authorities old.state) is_heading))
        (carry_whole key (find (has_key key) (linkable_authorities old.state)) old.state (map (place_at old.keys) seats) lists.places)

    pub carry_ends : IsMiddle old.state → IsCarriedOut (linkable_authorities old.state) (carry_heading key heading) old now
    carry_ends middle =
        done_at_last (linkable_authorities old.state) (carry_heading key heading) (linked_visits key) (linked_at key) seats old before n now steps past here
        (record { middle = middle; authorities_are = refl }) carry_is_whole

    pub carry_visits_end : steps ≤ before + sum_fields (linked_visits key) old.state
    carry_visits_end =
        visits_at_last (linkable_authorities old.state) (carry_heading key heading) (linked_visits key) (linked_at key) seats old before n now steps past here lists

    pub carry_all_noted : (start noted : List Seat) → AreDistinct old.keys → AreNoted (carry_heading key heading) old (take n seats) start noted
        → NotesChanges (carry_heading key heading) old start noted
    carry_all_noted start noted distinct =
        noting_last (carry_heading key heading) (holds_at (linked_at key) old.state) seats old start lists n noted past distinct carry_is_whole
