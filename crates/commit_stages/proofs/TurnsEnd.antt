-- The end of a turn, with another field or with the one that is there.
use Rattle.std.proofs.Common.{◌≡◌, ◌∙◌, sym, ap, refl, [], ◌∷◌, Option, Some, None}
use Rattle.std.specs.Prelude.{IfSome}
use Rattle.marc_types.specs.declared.key.Class.{Class}
use Rattle.marc_types.specs.declared.key.Place.{Place}
use Rattle.numbering.specs.declared.seat.Seat.{Seat}
use Rattle.catalogue_rules.specs.State.{KeptField, State, each_field}
use Rattle.catalogue_rules.specs.Store.{field_under}
use Rattle.catalogue_tables.specs.Seam.{place_at}
use Rattle.field_settling.specs.Held.{held_as}
use Rattle.field_settling.specs.declared.held.Held.{Held}
use Rattle.linking_laws.specs.Partway.{AreOrdered, swapped}
use Rattle.linking_laws.proofs.Partial.{partway_all, partway_none, step_on}
use Rattle.linked_store.specs.Linked.{IsAhead, Linked, SuitsSeat, field_of}
use Rattle.commit_stages.specs.Turns.{IsMade, IsMadeOf, IsTurned}
use Rattle.commit_stages.proofs.Turning.{ahead_itself}

abbrev same : Class → KeptField → KeptField
same class h = h

-- the field that stands at a place put there again changes nothing
swap_same : (p : Place) (h : KeptField) (s : State) → AreOrdered s → field_under p s ≡ Some h → swapped p h s ≡ s
swap_same p h s order stands =
    let once : each_field same s ≡ swapped p h s =
    partway_all same (p ∷ []) s (swapped p h s) order (step_on same [] s s p h (partway_none same s) (record { is_new = refl; stands = stands })) (record { others_stay = λ q x off there. refl }) in
    let none : each_field same s ≡ s = partway_all same [] s s order (partway_none same s) (record { others_stay = λ q x off there. refl }) in
    sym once ∙ none

pub left_turned : (change : Class → KeptField → KeptField) (seat : Seat) (x : Linked) → AreOrdered x.state → ((h : KeptField) → field_of seat x ≡ Some h → change seat.class h ≡ h)
    → IsTurned change seat x x
left_turned change seat x order stays = record {
  ahead = ahead_itself x;
  state = λ h there. sym (swap_same (place_at x.keys seat) h x.state order there) ∙ ap (λ (g : KeptField). swapped (place_at x.keys seat) g x.state) (sym (stays h there));
}

pub made_turned : (change : Class → KeptField → KeptField) (seat : Seat) (made : KeptField) (old new : Linked) → IsAhead old new → new.state ≡ swapped (place_at old.keys seat) made old.state
    → IsMade change seat old made → IsTurned change seat old new
made_turned change seat made old new ahead now is = record {
  ahead = ahead;
  state = λ h there. now ∙ ap (λ (g : KeptField). swapped (place_at old.keys seat) g old.state) (is.made_is h there);
}

pub made_suits : (change : Class → KeptField → KeptField) (seat : Seat) (x : Linked) (made : Option Held) → IsMadeOf change seat x made → IfSome made (λ (held : Held). SuitsSeat seat (held_as held) x)
made_suits change seat x None is = tt
made_suits change seat x (Some held) is = is.suits
