-- A stage that changes nothing notes nothing.
use Rattle.std.proofs.Common.{◌≡◌, ◌∙◌, sym, ap, refl, Bool, true, false, List, Option, Some, None}
use Rattle.std.specs.Prelude.{◌||◌, not}
use Rattle.std.specs.List.{list_any}
use Rattle.std.specs.Option.{option_map_or}
use Rattle.marc_types.specs.declared.key.Class.{Class}
use Rattle.numbering.specs.Seats.{same_seat}
use Rattle.numbering.specs.declared.seat.Seat.{Seat}
use Rattle.catalogue_rules.specs.Sameness.{same_kept}
use Rattle.catalogue_rules.specs.State.{KeptField}
use Rattle.linking_laws.proofs.Sames.{kept_Decides}
use Rattle.linked_store.specs.Linked.{Linked, field_of}
use Rattle.commit_stages.specs.Noted.{NotesChanges}

or_none : (a : Bool) → a ≡ (a || false)
or_none true = refl
or_none false = refl

idle_at : (change : KeptField → KeptField) → ((h : KeptField) → change h ≡ h) → (o : Option KeptField) → option_map_or (λ h. not (same_kept h (change h))) o false ≡ false
idle_at change same None = refl
idle_at change same (Some h) = ap not ((kept_Decides h (change h)).1 (sym (same h)))

both_ways : {A : Type 0} (b : Bool) → b ≡ true → b ≡ false → A
both_ways b is isnt = let clash : true ≡ false = sym is ∙ isnt in cc

pub idle_noted : (change : Class → KeptField → KeptField) (x : Linked) (seats : List Seat) → ((class : Class) (h : KeptField) → change class h ≡ h) → NotesChanges change x seats seats
idle_noted change x seats same = record {
  noted = λ seat known. or_none (list_any (same_seat seat) seats) ∙ ap (λ b. list_any (same_seat seat) seats || b) (sym (idle_at (change seat.class) (same seat.class) (field_of seat x)));
  known = λ seat is isnt. both_ways (list_any (same_seat seat) seats) is isnt;
}
