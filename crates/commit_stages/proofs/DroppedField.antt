-- What dropping makes of one field, and how many visits it takes.
use Rattle.std.proofs.Common.{◌≡◌, ◌∙◌, sym, ap, refl, ℕ, ◌+◌, ◌≤◌, arith, Option, Some, None, Bool, true, false, List}
use Rattle.std.specs.Prelude.{◌&&◌, ◌||◌, is_some, if◌then◌else◌}
use Rattle.std.specs.Option.{option_map_or}
use Rattle.marc_types.specs.declared.key.Class.{Class}
use Rattle.marc_types.specs.declared.key.Key.{Key}
use Rattle.numbering.specs.declared.seat.Seat.{Seat}
use Rattle.heading_fields.proofs.Fieldlaws.{is_field_unlinking}
use Rattle.entry_record.specs.Authority.{Linkable}
use Rattle.catalogue_rules.specs.State.{KeptField}
use Rattle.catalogue_rules.specs.Settle.{await, awaits_key, end_link, is_linked_to, settle_unlinked}
use Rattle.linking_laws.specs.Stages.{drop_by, drop_field}
use Rattle.linking_laws.specs.Tables.{dropped_at}
use Rattle.linking_laws.specs.Visits.{drop_visits, drop_visits_by, link_visit, waits_for_key}
use Rattle.linking_laws.proofs.Touched.{drop_off, drop_on}
use Rattle.linked_store.specs.Linked.{Linked, field_of}
use Rattle.commit_stages.specs.Settled.{IsChoiceSettled}
use Rattle.commit_stages.specs.Turns.{IsToDo, visits_at}
use Rattle.commit_stages.specs.Dropping.{IsChanged, dropping_as}

either : (h : KeptField) (b : Bool) → (if b then h else h) ≡ h
either h true = refl
either h false = refl

-- a field whose choice is itself
pub choice_left : (all : List Linkable) (class : Class) (h : KeptField) → settle_unlinked all class h ≡ h → IsChoiceSettled all class h h
choice_left all class h same = record { made_is = sym same; proper = λ good. good }

module _ (all : List Linkable) (key : Key) (successor : Option Key) (class : Class) (h : KeptField) where
  by_field : (b : Bool) → drop_by (dropping_as b) all key successor class h ≡ drop_field all key b successor class h
  by_field true = refl
  by_field false = refl

  visits_by_field : (b : Bool) → drop_visits_by (dropping_as b) all key successor class h ≡ drop_visits all key b successor class h
  visits_by_field true = refl
  visits_by_field false = refl

  -- ---- a linked field

  module _ (b : Bool) (linked : is_linked_to key h ≡ true) where
    on_choice : drop_by (dropping_as b) all key successor class h ≡ (if b && h.tie.whole then h else settle_unlinked all class (end_link key successor h))
    on_choice = by_field b ∙ drop_on all key b successor class h linked

    on_visits : drop_visits_by (dropping_as b) all key successor class h ≡ 1 + (if b && h.tie.whole then 0 else link_visit all class (end_link key successor h))
    unfolding drop_visits
    on_visits = visits_by_field b
        ∙ ap {B = ℕ} (λ (c : Bool). if c
        then 1 + (if b && h.tie.whole then 0 else link_visit all class (end_link key successor h))
        else (if is_some successor && waits_for_key key class h
        then 1 + (if awaits_key key h then option_map_or (λ other. link_visit all class (await h other)) successor 0 else 0)
        else 0)) linked

    pub spared_stays : (b && h.tie.whole) ≡ true → drop_by (dropping_as b) all key successor class h ≡ h
    spared_stays spared = on_choice ∙ ap (λ (c : Bool). if c then h else settle_unlinked all class (end_link key successor h)) spared

    pub linked_visit : 1 ≤ drop_visits_by (dropping_as b) all key successor class h
    linked_visit = let own = on_visits in omega arith

    pub ended_changed : (made : KeptField) → (b && h.tie.whole) ≡ false → IsChoiceSettled all class (end_link key successor h) made
        → IsChanged (drop_by (dropping_as b) all key successor) class h made
    ended_changed made ends settled = record {
      made_is = settled.made_is ∙ sym (on_choice ∙ ap (λ (c : Bool). if c then h else settle_unlinked all class (end_link key successor h)) ends);
      proper = λ good. settled.proper (is_field_unlinking h.field key good);
    }

    pub ended_visits : (before after : ℕ) → (b && h.tie.whole) ≡ false → after ≤ before + link_visit all class (end_link key successor h)
        → after + 1 ≤ before + drop_visits_by (dropping_as b) all key successor class h
    ended_visits before after ends step =
        let own : drop_visits_by (dropping_as b) all key successor class h ≡ 1 + link_visit all class (end_link key successor h) =
        on_visits ∙ ap {B = ℕ} (λ (c : Bool). 1 + (if c then 0 else link_visit all class (end_link key successor h))) ends in
        omega (arith, own, step)

  -- ---- a field that isn't linked to the key

  module _ (b : Bool) (off : is_linked_to key h ≡ false) where
    off_choice : drop_by (dropping_as b) all key successor class h ≡ (if awaits_key key h then option_map_or (λ other. settle_unlinked all class (await h other)) successor h else h)
    off_choice = by_field b ∙ drop_off all key b successor class h off

    off_visits : dropped_at key successor class h ≡ true
        → drop_visits_by (dropping_as b) all key successor class h
        ≡ 1 + (if awaits_key key h then option_map_or (λ other. link_visit all class (await h other)) successor 0 else 0)
    unfolding drop_visits
    off_visits to_do =
        let waits : (is_some successor && waits_for_key key class h) ≡ true = sym (ap (λ (c : Bool). c || (is_some successor && waits_for_key key class h)) off) ∙ to_do in
        visits_by_field b
        ∙ ap {B = ℕ} (λ (c : Bool). if c
        then 1 + (if b && h.tie.whole then 0 else link_visit all class (end_link key successor h))
        else (if is_some successor && waits_for_key key class h
        then 1 + (if awaits_key key h then option_map_or (λ other. link_visit all class (await h other)) successor 0 else 0)
        else 0)) off
        ∙ ap {B = ℕ} (λ (c : Bool). if c then 1 + (if awaits_key key h then option_map_or (λ other. link_visit all class (await h other)) successor 0 else 0) else 0) waits

    pub unawaited_stays : awaits_key key h ≡ false → drop_by (dropping_as b) all key successor class h ≡ h
    unawaited_stays calm = off_choice ∙ ap (λ (c : Bool). if c then option_map_or (λ other. settle_unlinked all class (await h other)) successor h else h) calm

    pub unsucceeded_stays : successor ≡ None → drop_by (dropping_as b) all key successor class h ≡ h
    unsucceeded_stays no_one = off_choice
        ∙ ap (λ (o : Option Key). if awaits_key key h then option_map_or (λ other. settle_unlinked all class (await h other)) o h else h) no_one ∙ either h (awaits_key key h)

    pub waiting_visit : dropped_at key successor class h ≡ true → 1 ≤ drop_visits_by (dropping_as b) all key successor class h
    waiting_visit to_do = let own = off_visits to_do in omega arith

    module _ (other : Key) (succeeds : successor ≡ Some other) (awaits : awaits_key key h ≡ true) where
      pub handed_changed : (made : KeptField) → IsChoiceSettled all class (await h other) made → IsChanged (drop_by (dropping_as b) all key successor) class h made
      handed_changed made settled = record {
        made_is = settled.made_is
            ∙ sym (off_choice
            ∙ ap (λ (c : Bool). if c then option_map_or (λ (k : Key). settle_unlinked all class (await h k)) successor h else h) awaits
            ∙ ap (λ (o : Option Key). option_map_or (λ (k : Key). settle_unlinked all class (await h k)) o h) succeeds);
        proper = λ good. settled.proper good;
      }

      pub handed_visits : (before after : ℕ) → dropped_at key successor class h ≡ true → after ≤ before + link_visit all class (await h other)
          → after + 1 ≤ before + drop_visits_by (dropping_as b) all key successor class h
      handed_visits before after to_do step =
          let own : drop_visits_by (dropping_as b) all key successor class h ≡ 1 + link_visit all class (await h other) =
          off_visits to_do
          ∙ ap {B = ℕ} (λ (c : Bool). 1 + (if c then option_map_or (λ (k : Key). link_visit all class (await h k)) successor 0 else 0)) awaits
          ∙ ap {B = ℕ} (λ (o : Option Key). 1 + option_map_or (λ (k : Key). link_visit all class (await h k)) o 0) succeeds in
          omega (arith, own, step)

-- the field at a seat to do takes at least one visit
pub drop_least : (b : Bool) (all : List Linkable) (key : Key) (successor : Option Key) (seat : Seat) (x : Linked) (before after : ℕ) → IsToDo (dropped_at key successor) seat x → after ≡ before + 1
    → after ≤ before + visits_at (drop_visits_by (dropping_as b) all key successor) x seat
drop_least b all key successor seat x before after to_do step = by (field_of seat x) to_do.passes
  where
    least : (h : KeptField) (linked : Bool) → is_linked_to key h ≡ linked → dropped_at key successor seat.class h ≡ true → 1 ≤ drop_visits_by (dropping_as b) all key successor seat.class h
    least h true is passes = linked_visit all key successor seat.class h b is
    least h false is passes = waiting_visit all key successor seat.class h b is passes

    by : (o : Option KeptField) → option_map_or (dropped_at key successor seat.class) o false ≡ true → after ≤ before + option_map_or (drop_visits_by (dropping_as b) all key successor seat.class) o 0
    by None passes = cc
    by (Some h) passes = let own = least h (is_linked_to key h) refl passes in omega (arith, step, own)
