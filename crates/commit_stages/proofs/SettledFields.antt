-- The choice of an unlinked field is what settling makes of it, and may come to its seat.
use Rattle.std.proofs.Common.{◌≡◌, ◌∙◌, sym, ap, refl, subst, ℕ, ◌+◌, ◌≤◌, arith, List, Option, Some, None, true, false}
use Rattle.std.specs.Prelude.{not, is_some, if◌then◌else◌}
use Rattle.std.specs.Option.{option_map_or}
use Rattle.marc_types.specs.Valid.{is_field}
use Rattle.marc_types.specs.declared.key.Class.{Class}
use Rattle.marc_types.specs.declared.key.Key.{Key}
use Rattle.entry_record.specs.Authority.{Linkable}
use Rattle.numbering.specs.declared.seat.Seat.{Seat}
use Rattle.catalogue_rules.specs.State.{KeptField, State, linkable_authorities}
use Rattle.catalogue_rules.specs.Settle.{settle_field, settle_linked, settle_unlinked}
use Rattle.catalogue_tables.specs.Seam.{HasKey}
use Rattle.linking_laws.specs.Middle.{AreAuthoritiesInOrder, IsMiddle, IsMiddleWith}
use Rattle.linking_laws.specs.Partway.{AreOrdered}
use Rattle.linking_laws.specs.Visits.{link_visit, own_visits}
use Rattle.linking_laws.proofs.Settling.{settle_either}
use Rattle.field_settling.specs.Held.{held_as}
use Rattle.field_settling.specs.declared.held.Held.{Held}
use Rattle.linked_store.specs.Linked.{Linked, SuitsSeat, field_of}
use Rattle.commit_stages.specs.Fields.{IsProperAt}
use Rattle.commit_stages.specs.Turns.{IsMadeOf, IsToDo, visits_at}
use Rattle.commit_stages.proofs.Suiting.{proper_at, stage_suits}
use Rattle.commit_stages.specs.Settled.{IsChoiceSettledTo}
use Rattle.commit_stages.specs.Unlinked.{has_no_link, turn_visits}

pub in_order : (s : State) → IsMiddle s → AreAuthoritiesInOrder s
in_order s middle = record { ascend = middle.authorities_ascend; rows = middle.rows.0 }

pub ordered : (s : State) → IsMiddle s → AreOrdered s
ordered s middle = record { authorities = middle.authorities_ascend; bibliographic = middle.bibliographic_ascend }

pub with_all : (s : State) → IsMiddle s → IsMiddleWith (linkable_authorities s) s
with_all s middle = record { middle = middle; authorities_are = refl }

pub same_field : (g h : KeptField) (o : Option KeptField) → o ≡ Some h → o ≡ Some g → h ≡ g
same_field g h o first second = cc

pub unlinked_settled : (all : List Linkable) (class : Class) (h : KeptField) → h.tie.key ≡ None → settle_field all class h ≡ settle_unlinked all class h
unfolding settle_field
unlinked_settled all class h unlinked = ap (λ (o : Option Key). option_map_or (settle_linked all class h) o (settle_unlinked all class h)) unlinked

pub no_key : (o : Option Key) → not (is_some o) ≡ true → o ≡ None
no_key None e = refl
no_key (Some key) e = cc

module _ (x : Linked) (seat : Seat) (h : KeptField) (middle : IsMiddle x.state) (known : HasKey x.keys seat) (there : field_of seat x ≡ Some h) (unlinked : h.tie.key ≡ None)
    (proper : IsProperAt seat x) where
  abbrev all : List Linkable
  all = linkable_authorities x.state

  -- the choice is what settling makes of the field at the seat
  pub choice_made : (made : Option Held) → IsChoiceSettledTo all seat.class h made → IsMadeOf (settle_field all) seat x made
  choice_made None is = λ g there_too.
      subst (λ (k : KeptField). settle_field all seat.class k ≡ k) (same_field g h (field_of seat x) there there_too) (unlinked_settled all seat.class h unlinked ∙ is)
  choice_made (Some held) is =
      let made_so : held_as held ≡ settle_field all seat.class h = is.made_is ∙ sym (unlinked_settled all seat.class h unlinked) in
      let good : is_field (settle_field all seat.class h).field ≡ true =
      subst (λ (g : KeptField). is_field g.field ≡ true) made_so (is.proper (proper_at x seat h proper there)) in
      record {
        made_is = λ g there_too. made_so ∙ ap (settle_field all seat.class) (same_field g h (field_of seat x) there there_too);
        suits = subst (λ (g : KeptField). SuitsSeat seat g x) (sym made_so)
            (stage_suits all (settle_field all) x seat h (with_all x.state middle) (settle_either all) known there proper good);
      }

module _ (seat : Seat) (x : Linked) where
  -- at a seat that is to do a field stands, and it isn't linked
  pub unlinked_there : (h : KeptField) → IsToDo has_no_link seat x → field_of seat x ≡ Some h → h.tie.key ≡ None
  unlinked_there h to_do there = no_key h.tie.key (sym (ap (λ (o : Option KeptField). option_map_or (has_no_link seat.class) o false) there) ∙ to_do.passes)

  pub field_there : (A : Type 0) → IsToDo has_no_link seat x → None ≡ field_of seat x → A
  field_there A to_do off =
      let no_way : false ≡ true = ap (λ (o : Option KeptField). option_map_or (has_no_link seat.class) o false) off ∙ to_do.passes in cc

  -- a field without a link that is looked at alone costs what its choice does
  pub own_costs : (all : List Linkable) (h : KeptField) (before after : ℕ) → field_of seat x ≡ Some h → h.tie.key ≡ None
      → after ≤ before + link_visit all seat.class h → after ≤ before + visits_at (own_visits all) x seat
  own_costs all h before after there unlinked rest =
      let all_of : visits_at (own_visits all) x seat ≡ link_visit all seat.class h =
      ap {B = ℕ} (λ (o : Option KeptField). option_map_or (own_visits all seat.class) o 0) there
      ∙ ap {B = ℕ} (λ (o : Option Key). if is_some o then 0 else link_visit all seat.class h) unlinked in
      omega (arith, rest, all_of)

  pub turn_costs : (all : List Linkable) (h : KeptField) (before visited after : ℕ) → field_of seat x ≡ Some h → visited ≡ before + 1
      → after ≤ visited + link_visit all seat.class h → after ≤ before + visits_at (turn_visits all) x seat
  turn_costs all h before visited after there one rest =
      let all_of : visits_at (turn_visits all) x seat ≡ 1 + link_visit all seat.class h = ap {B = ℕ} (λ (o : Option KeptField). option_map_or (turn_visits all seat.class) o 0) there in
      omega (arith, one, rest, all_of)
