-- A heading that is carried, and none.
use Rattle.std.proofs.Common.{◌≡◌, ◌∙◌, sym, ap, refl, subst, ℕ, ◌+◌, ◌≤◌, Bool, true, false, List, [], ◌∷◌, map, Option, Some, None}
use Rattle.std.specs.Prelude.{IfSome, find, if◌then◌else◌}
use Rattle.std.specs.Option.{option_map}
use Rattle.marc_types.specs.Valid.{is_field, is_record}
use Rattle.marc_types.specs.declared.entry.Entry.{Entry}
use Rattle.marc_types.specs.declared.field.Field.{Field}
use Rattle.marc_types.specs.declared.form.Kind.{Kind}
use Rattle.marc_types.specs.declared.key.Class.{Class}
use Rattle.marc_types.specs.declared.key.Class.TheVariants.{Authority}
use Rattle.marc_types.specs.declared.key.Key.{Key}
use Rattle.entry_record.specs.Authority.{Linkable, linkable_of}
use Rattle.entry_record.specs.History.{IsAdmitted}
use Rattle.entry_record.specs.Identity.{is_deletion}
use Rattle.numbering.specs.declared.seat.Seat.{Seat}
use Rattle.catalogue_rules.specs.Choice.{has_key}
use Rattle.catalogue_rules.specs.Settle.{arrival_of}
use Rattle.catalogue_rules.specs.State.{KeptField, KeptRecord, State, fields_of, linkable_authorities, new_field, new_record}
use Rattle.catalogue_rules.proofs.States.{fit_entry}
use Rattle.catalogue_tables.specs.Following.{authority_brought}
use Rattle.linking_laws.specs.Middle.{IsMiddle}
use Rattle.linking_laws.specs.Stages.{carry_by}
use Rattle.linking_laws.specs.Visits.{carry_visits}
use Rattle.linking_laws.specs.Weights.{sum_fields}
use Rattle.linked_store.specs.Linked.{Linked, key_of}
use Rattle.field_settling.specs.Held.{governing_of}
use Rattle.field_settling.proofs.Headings.{heading_found}
use Rattle.commit_stages.specs.Turns.{IsCarriedOut}
use Rattle.commit_stages.proofs.Turning.{ahead_itself}
use Rattle.commit_stages.proofs.Headed.{heading_proper}
use Rattle.commit_stages.proofs.Reached.{code_text, heading_of_key, number_text}
use Rattle.commit_stages.specs.Brought.{brought_as}
use Rattle.commit_stages.specs.Carrying.{CanCarry, heading_in}
use Rattle.commit_stages.specs.declared.brought.BroughtHeading.{BroughtHeading}
use Rattle.commit_stages.proofs.SettledFields.{in_order, with_all}
use Rattle.commit_stages.specs.Noted.{NotesChanges}
use Rattle.commit_stages.proofs.Idle.{idle_noted}
use Rattle.commit_stages.proofs.Parts.{same_state}

fields_came : (fields : List Field) → map (λ (h : KeptField). h.field) (map new_field fields) ≡ fields
fields_came [] = refl
fields_came (f ∷ fields) = λ i. f ∷ fields_came fields i

-- what an entry brings is the authority of its fields
brings : (e : Entry) (c : Linkable) → authority_brought (arrival_of e) ≡ Some c → linkable_of e.key e.rec.fields ≡ Some c
brings e c is = at (is_deletion e.rec.leader) is
  where
    at : (b : Bool) → (if b then None else linkable_of e.key e.rec.fields) ≡ Some c → linkable_of e.key e.rec.fields ≡ Some c
    at true is = cc
    at false is = is

-- its heading can stand in a record
proper_heading : (e : Entry) (c : Linkable) → authority_brought (arrival_of e) ≡ Some c → is_field c.heading ≡ true
proper_heading e c is =
    let r : KeptRecord = new_record e.rec.leader e.rec.fields in
    let same : fields_of r ≡ e.rec.fields = fields_came e.rec.fields in
    let valid : is_record e.rec.leader (fields_of r) ≡ true = ap (is_record e.rec.leader) same ∙ e.rec.valid in
    let governs : governing_of (fields_of r) ≡ Some (c.kind, c.heading) = ap governing_of same ∙ heading_found e.key e.rec.fields c (brings e c is) in
    subst (λ (o : Option (Kind × Field)). IfSome o (λ (heading : Kind × Field). is_field heading.1 ≡ true)) governs (heading_proper (Some r) valid)

pub can_carry : (e : Entry) (key : Key) (number : ℕ) (x : Linked) (heading : BroughtHeading) → key ≡ e.key → IsAdmitted e → key_of Authority number x.keys ≡ e.key → IsMiddle x.state
    → find (has_key e.key) (linkable_authorities x.state) ≡ authority_brought (arrival_of e) → Some heading ≡ option_map brought_as (authority_brought (arrival_of e)) → CanCarry key number x
can_carry e key number x heading same admitted named middle own is = subst (λ (k : Key). CanCarry k number x) (sym same) (at (authority_brought (arrival_of e)) refl is)
  where
    at : (o : Option Linkable) → authority_brought (arrival_of e) ≡ o → Some heading ≡ option_map brought_as o → CanCarry e.key number x
    at None brought is = cc
    at (Some c) brought is =
        let fit = fit_entry e admitted in
        record {
          heading = heading_in c;
          under = heading_of_key x (in_order x.state middle) number e.key c named (own ∙ brought);
          is_of = record {
            found = ap (option_map heading_in) (own ∙ brought);
            proper = proper_heading e c brought;
            code = code_text e.key.code fit.code;
            number = number_text e.key.number fit.number;
          };
        }

module _ (e : Entry) (key : Key) (all : List Linkable) where
  pub carried_noted : (x : Linked) (before after : List Seat) → key ≡ e.key → find (has_key e.key) all ≡ authority_brought (arrival_of e)
      → NotesChanges (carry_by key (find (has_key key) all)) x before after → NotesChanges (carry_by e.key (authority_brought (arrival_of e))) x before after
  carried_noted x before after same own noted =
      subst (λ (o : Option Linkable). NotesChanges (carry_by e.key o) x before after) own
      (subst (λ (k : Key). NotesChanges (carry_by k (find (has_key k) all)) x before after) same noted)

  pub carried_steps : (s : State) (before after : ℕ) → key ≡ e.key → find (has_key e.key) all ≡ authority_brought (arrival_of e)
      → after ≤ before + sum_fields (carry_visits key (find (has_key key) all)) s → after ≤ before + sum_fields (carry_visits e.key (authority_brought (arrival_of e))) s
  carried_steps s before after same own low =
      subst (λ (o : Option Linkable). after ≤ before + sum_fields (carry_visits e.key o) s) own
      (subst (λ (k : Key). after ≤ before + sum_fields (carry_visits k (find (has_key k) all)) s) same low)

-- ---- none

nobody : (o : Option Linkable) → option_map brought_as o ≡ None → o ≡ None
nobody None e = refl
nobody (Some c) e = cc

idle : (e : Entry) → option_map brought_as (authority_brought (arrival_of e)) ≡ None → (class : Class) (h : KeptField) → carry_by e.key (authority_brought (arrival_of e)) class h ≡ h
idle e none class h = ap (λ (o : Option Linkable). carry_by e.key o class h) (nobody (authority_brought (arrival_of e)) none)

pub nothing_carried : (e : Entry) (x : Linked) → option_map brought_as (authority_brought (arrival_of e)) ≡ None → IsMiddle x.state
    → IsCarriedOut (linkable_authorities x.state) (carry_by e.key (authority_brought (arrival_of e))) x x
nothing_carried e x none middle = record {
  ahead = ahead_itself x;
  state = sym (same_state (carry_by e.key (authority_brought (arrival_of e))) x.state (idle e none));
  middle = with_all x.state middle;
}

pub nothing_noted : (e : Entry) (x : Linked) (seats : List Seat) → option_map brought_as (authority_brought (arrival_of e)) ≡ None
    → NotesChanges (carry_by e.key (authority_brought (arrival_of e))) x seats seats
nothing_noted e x seats none = idle_noted (carry_by e.key (authority_brought (arrival_of e))) x seats (idle e none)
