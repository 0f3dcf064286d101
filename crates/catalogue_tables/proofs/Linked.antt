-- What the link table tells of places.
use Rattle.std.proofs.Common.{◌≡◌, ◌∙◌, sym, ap, refl, subst, ℕ, ◌<◌, length, Bool, true, false, cond, Option, Some, None, IfSome}
use Rattle.std.specs.Prelude.{nat_eq, if◌then◌else◌}
use Rattle.std.specs.Cmp.{unsigned_Decides}
use Rattle.std.proofs.lemmas.Cmp.{eq_by_cmp_equiv}
use Rattle.marc_types.specs.declared.key.Key.{Key}
use Rattle.marc_types.specs.declared.key.Place.{Place}
use Rattle.marc_types.specs.Order.{same_key, key_cmp_total}
use Rattle.numbering.specs.Numbers.{IsNumberOf, number_of}
use Rattle.numbering.specs.Seats.{same_seat}
use Rattle.numbering.specs.declared.seat.Seat.{Seat}
use Rattle.numbering.proofs.Numberlaws.{alike}
use Rattle.link_table.specs.Links.{Links, is_linked, leads_to, with_key, with_row_taken, with_row_back, IsTaken}
use Rattle.link_table.specs.declared.link.Link.{Link}
use Rattle.linking_laws.specs.Partway.{same_place}
use Rattle.form_index.specs.Order.{key_at}
use Rattle.catalogue_tables.specs.Seam.{AreDistinct, IsRenumbered, IsSeatOf, KeyLists, seat_of}
use Rattle.catalogue_tables.specs.Told.{LinksFit, linked_by, TellsLink, TellsNoLink, AddsLink, TakesLink, PutsLinkBack}
use Rattle.catalogue_tables.proofs.Seams.{key_numbered, told_step, within_less, within_step}

leads_by : (n : ℕ) (b : Bool) (x y : Option ℕ) → leads_to n (cond b x y) ≡ cond b (leads_to n x) (leads_to n y)
leads_by n true x y = refl
leads_by n false x y = refl

abbrev Sets : Seat → Option ℕ → Links → Links → Type 0
Sets one to old new = (seat : Seat) → new.key_of seat ≡ (if same_seat one seat then to else old.key_of seat)

renumbered : (one : Seat) (to : Option ℕ) (old new : Links) → Sets one to old new
    → IsRenumbered one (λ n. leads_to n to) (λ n seat. is_linked n old seat) (λ n seat. is_linked n new seat)
renumbered one to old new sets n seat = ap (leads_to n) (sets seat) ∙ leads_by n (same_seat one seat) to (old.key_of seat)

leads_to_key : (keys : KeyLists) (key name : Key) (number : ℕ) → IsNumberOf same_key keys.authorities key number
    → nat_eq number (number_of same_key keys.authorities name) ≡ same_key name key
leads_to_key keys key name number of =
    ap (λ n. nat_eq n (number_of same_key keys.authorities name)) of.is
    ∙ alike same_key (eq_by_cmp_equiv key_cmp_total) keys.authorities key name of.known
    ∙ (eq_by_cmp_equiv key_cmp_total).symm key name

tells_link : (link : Link) (old new : Links) → Sets link.seat (Some link.number) old new → TellsLink link old new
tells_link link old new sets = record {
  told = λ keys place key at of name q.
      told_step same_key keys.authorities keys (λ n seat. is_linked n old seat) (λ n seat. is_linked n new seat) (λ n. leads_to n (Some link.number)) place link.seat at
      (renumbered link.seat (Some link.number) old new sets) name q
      ∙ ap (λ b. cond (same_place place q) b (linked_by keys old name q)) (leads_to_key keys key name link.number of);
  fits = λ keys has low fit.
      within_step (length keys.authorities) keys (λ n seat. is_linked n old seat) (λ n seat. is_linked n new seat) (λ n. leads_to n (Some link.number)) link.seat
      (renumbered link.seat (Some link.number) old new sets)
      (λ n e. subst (λ m. m < length keys.authorities) ((unsigned_Decides link.number n).0 e) low) has fit;
}

tells_no_link : (link : Link) (old new : Links) → Sets link.seat None old new → TellsNoLink link old new
tells_no_link link old new sets = record {
  told = λ keys place at name q.
      told_step same_key keys.authorities keys (λ n seat. is_linked n old seat) (λ n seat. is_linked n new seat) (λ n. leads_to n None) place link.seat at
      (renumbered link.seat None old new sets) name q;
  fits = λ keys fit. within_less (length keys.authorities) keys (λ n seat. is_linked n old seat) (λ n seat. is_linked n new seat) link.seat (renumbered link.seat None old new sets) fit;
}

pub adds : (link : Link) (old new : Links) → new ≡ with_key link.seat (Some link.number) old → AddsLink link old new
adds link old new e = record { is = e; tells = tells_link link old new (λ seat. ap (λ (l : Links). l.key_of seat) e) }

pub takes : (link : Link) (old new : Links) → new ≡ with_row_taken link old → with_row_back link new ≡ old → IsTaken link new → TakesLink link old new
takes link old new e undone taken = record {
  is = e;
  undone = undone;
  taken = taken;
  tells = tells_no_link link old new (λ seat. ap (λ (l : Links). l.key_of seat) e);
}

pub puts_back : (link : Link) (old new : Links) → new ≡ with_row_back link old → PutsLinkBack link old new
puts_back link old new e = record { is = e; tells = tells_link link old new (λ seat. ap (λ (l : Links). l.key_of seat) e) }

pub takes_if : (o : Option Link) (old new : Links) → IfSome o (λ link. new ≡ with_row_taken link old) → IfSome o (λ link. with_row_back link new ≡ old) → IfSome o (λ link. IsTaken link new)
    → IfSome o (λ link. TakesLink link old new)
takes_if None old new is undone taken = tt
takes_if (Some link) old new is undone taken = takes link old new is undone taken

-- a place that is linked to no key has no link
pub unlinked_free : (keys : KeyLists) (links : Links) (place : Place) (seat : Seat) → AreDistinct keys → LinksFit keys links → IsSeatOf keys place seat
    → ((key : Key) → linked_by keys links key place ≡ false) → links.key_of seat ≡ None
unlinked_free keys links place seat distinct fit at none = by (links.key_of seat) refl
  where
    by : (o : Option ℕ) → links.key_of seat ≡ o → o ≡ None
    by None e = refl
    by (Some n) e =
        let linked : is_linked n links seat ≡ true = ap (leads_to n) e ∙ (unsigned_Decides n n).1 refl in
        let numbered = key_numbered keys.authorities n distinct.authorities (fit.named n seat linked) in
        let told : linked_by keys links (key_at keys.authorities n) place ≡ true =
        ap (λ (m : ℕ). is_linked m links (seat_of keys place)) (sym numbered.is) ∙ ap (λ (s : Seat). is_linked n links s) (sym at.is) ∙ linked in
        let both : true ≡ false = sym told ∙ none (key_at keys.authorities n) in
        cc
