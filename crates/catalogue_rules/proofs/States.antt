-- The state after a history of admitted entries is valid.
use Rattle.std.proofs.Common.{◌≡◌, ℕ, ◌≤◌, Bool, true, false, not, List, [], ◌∷◌, map, Option, Some, None, refl, sym, ◌∙◌, arith, if◌then◌else◌}
use Rattle.std.specs.Prelude.{All, filter_map, find, fold, ◌&&◌}
use Rattle.std.specs.Option.{is_none}
use Rattle.std.specs.List.Sorted.{IsStrictlySortedBy}
use Rattle.std.proofs.lemmas.List.Elements.{All-from_recursion, recursion_from_All}
use Rattle.marc_types.specs.Valid.{is_code, is_number}
use Rattle.marc_types.specs.declared.entry.Entry.{Entry}
use Rattle.marc_types.specs.declared.field.Field.{Field}
use Rattle.marc_types.specs.declared.field.Leader.{Leader}
use Rattle.marc_types.specs.declared.key.Class.{Class}
use Rattle.marc_types.specs.declared.key.Class.TheVariants.{Authority, Bibliographic}
use Rattle.marc_types.specs.declared.key.Key.{Key}
use Rattle.marc_types.specs.declared.refusal.Refusal.{Refusal}
use Rattle.marc_types.specs.declared.refusal.Refusal.TheVariants.{OtherType, NoNumber, BadCode, NoHeading, HeadingTooLong, NoRoom}
use Rattle.marc_types.specs.Fields.{subfields_of}
use Rattle.entry_record.specs.Identity.{class_of, is_known_type, control_number_of, code_of, key_of}
use Rattle.marc_types.specs.Order.{same_key}
use Rattle.entry_record.specs.Authority.{Linkable, heading_of, successor_of}
use Rattle.entry_record.specs.Admission.{is_living_authority, has_long_heading, has_no_room, admission_refusal}
use Rattle.catalogue_rules.specs.State.{KeptField, Row, State, empty_state, new_field, new_record, row_linkable, linkable_authorities, each_in_row, each_field}
use Rattle.catalogue_rules.specs.Choice.{has_key}
use Rattle.catalogue_rules.specs.Settle.{Arrival, place, loosen, put_in, put, settle_field, settle, step, state_after, arrival_of, state_of}
use Rattle.entry_record.specs.History.{IsAdmitted}
use Rattle.catalogue_rules.specs.Valid.{IsAscending, IsRow, IsShort, IsTied, IsRewritten, IsSettled, IsLinkOfHeading, HasRoom, IsValid, reach}
use Rattle.catalogue_rules.proofs.Elements.{Each, each_weaker, each_map}
use Rattle.catalogue_rules.proofs.Fit.{IsFit}
use Rattle.catalogue_rules.proofs.Once.{settled_linkables}
use Rattle.catalogue_rules.proofs.Proper.{all_fit}
use Rattle.catalogue_rules.proofs.Put.{IsTiedBut, IsLoosened, tied_but, tied_new, field_loosened, steady_loosen, link_some}
use Rattle.catalogue_rules.proofs.Room.{room_kept, room_admitted}
use Rattle.catalogue_rules.proofs.Rows.{ascend_place, ascend_changed, each_place, other_place}
use Rattle.catalogue_rules.proofs.Settled.{IsDone, field_done}
use Rattle.catalogue_rules.proofs.Sizes.{part_within_full}
use Rattle.catalogue_rules.proofs.Steady.{IsSteady, linkables_stay}

-- ---- rows and states before and after settling

pub record IsReadyRow (all : List Linkable) (class : Class) (row : Row) : Type 0 where
  pub row_is : IsRow class row
  pub ties : Each (IsTied all class) row.1.fields
  pub room : HasRoom class row

pub record IsDoneRow (all : List Linkable) (class : Class) (row : Row) : Type 0 where
  pub ready : IsReadyRow all class row
  pub rewritten : Each (IsRewritten all class) row.1.fields
  pub settled : Each (IsSettled all class) row.1.fields

pub record IsReady (s : State) : Type 0 where
  pub authorities_ascend : IsAscending s.authorities
  pub bibliographic_ascend : IsAscending s.bibliographic
  pub authorities : Each (IsReadyRow (linkable_authorities s) Authority) s.authorities
  pub bibliographic : Each (IsReadyRow (linkable_authorities s) Bibliographic) s.bibliographic

pub record IsDoneState (s : State) : Type 0 where
  pub authorities_ascend : IsAscending s.authorities
  pub bibliographic_ascend : IsAscending s.bibliographic
  pub authorities : Each (IsDoneRow (linkable_authorities s) Authority) s.authorities
  pub bibliographic : Each (IsDoneRow (linkable_authorities s) Bibliographic) s.bibliographic

still_row : (class : Class) (change : KeptField → KeptField) (row : Row) → IsRow class row → IsRow class (each_in_row change row)
still_row class change row r = record { class_is = r.class_is; code = r.code; number = r.number }

-- ---- settling

pub settled_row : (all : List Linkable) (class : Class) → Each (IsFit all) all → (row : Row) → IsReadyRow all class row → IsDoneRow all class (each_in_row (settle_field all class) row)
settled_row all class fits row r =
    let f = settle_field all class in
    let P = λ (h : KeptField). IsDone all class h (settle_field all class h) in
    let done : Each P row.1.fields = each_weaker (IsTied all class) P (field_done all class fits) row.1.fields r.ties in
    record {
      ready = record {
        row_is = still_row class f row r.row_is;
        ties = each_map P (IsTied all class) f (λ h d. d.tied) row.1.fields done;
        room = room_kept class f row (each_weaker P (λ h. reach class (f h) ≤ reach class h) (λ h d. d.within) row.1.fields done) r.room;
      };
      rewritten = each_map P (IsRewritten all class) f (λ h d. d.rewritten) row.1.fields done;
      settled = each_map P (IsSettled all class) f (λ h d. d.settled) row.1.fields done;
    }

pub link_of_heading : (all : List Linkable) (class : Class) (h : KeptField) → IsTied all class h → IsLinkOfHeading class h
link_of_heading all class h t e = (link_some all class h h.tie.key e t.linked).1.heading

pub settled_done : (s : State) → IsReady s → IsDoneState (settle s)
unfolding settle each_field
settled_done s r =
    let all = linkable_authorities s in
    let rows_are = each_weaker (IsReadyRow all Authority) (IsRow Authority) (λ row x. x.row_is) s.authorities r.authorities in
    let fits = all_fit s.authorities r.authorities_ascend rows_are in
    let links = each_weaker (IsReadyRow all Authority) (λ (row : Row). Each (IsLinkOfHeading Authority) row.1.fields)
    (λ row x. each_weaker (IsTied all Authority) (IsLinkOfHeading Authority) (link_of_heading all Authority) row.1.fields x.ties) s.authorities r.authorities in
    let same = settled_linkables all s.authorities links in
    record {
      authorities_ascend = ascend_changed (settle_field all Authority) s.authorities r.authorities_ascend;
      bibliographic_ascend = ascend_changed (settle_field all Bibliographic) s.bibliographic r.bibliographic_ascend;
      authorities = rw same (each_map (IsReadyRow all Authority) (IsDoneRow all Authority) (each_in_row (settle_field all Authority)) (settled_row all Authority fits) s.authorities r.authorities);
      bibliographic = rw same (each_map (IsReadyRow all Bibliographic) (IsDoneRow all Bibliographic) (each_in_row (settle_field all Bibliographic)) (settled_row all Bibliographic fits) s.bibliographic r.bibliographic);
    }

-- ---- putting

-- what a commit brings, where its record was admitted
pub record IsFitArrival (a : Arrival) : Type 0 where
  pub class_is : class_of a.leader ≡ a.class
  pub code : is_code a.key.code ≡ true
  pub number : is_number a.key.number ≡ true
  pub room : has_no_room a.class a.fields ≡ false

pub record IsLooseRow (own : Key) (all : List Linkable) (class : Class) (row : Row) : Type 0 where
  pub row_is : IsRow class row
  pub ties : Each (IsTiedBut own all class) row.1.fields
  pub room : HasRoom class row

new_ties : (all : List Linkable) (class : Class) (fields : List Field) → Each (IsTied all class) (map new_field fields)
new_ties all class [] = tt
new_ties all class (f ∷ fs) = (tied_new all class (new_field f) refl refl refl, new_ties all class fs)

pub new_ready : (all : List Linkable) (a : Arrival) (class : Class) → a.class ≡ class → IsFitArrival a → IsReadyRow all class (a.key, new_record a.leader a.fields)
new_ready all a class e fit = record {
  row_is = record { class_is = fit.class_is ∙ e; code = fit.code; number = fit.number };
  ties = new_ties all class a.fields;
  room = room_admitted class a.key a.leader a.fields (rw e at fit.room);
}

pub loose_row : (own : Key) (all now : List Linkable) (class : Class) → ((key : Key) → same_key own key ≡ false → find (has_key key) now ≡ find (has_key key) all) →
    (row : Row) → IsReadyRow all class row → IsLooseRow own now class row
loose_row own all now class others row r = record {
  row_is = r.row_is;
  ties = each_weaker (IsTied all class) (IsTiedBut own now class) (tied_but own all now class others) row.1.fields r.ties;
  room = r.room;
}

pub loosened_row : (own : Key) (all : List Linkable) (successor : Option Key) (class : Class) (row : Row) → IsLooseRow own all class row → IsReadyRow all class (each_in_row (loosen all own successor class) row)
loosened_row own all successor class row r =
    let f = loosen all own successor class in
    let P = λ (h : KeptField). IsLoosened all class h (loosen all own successor class h) in
    let done : Each P row.1.fields = each_weaker (IsTiedBut own all class) P (field_loosened own all successor class) row.1.fields r.ties in
    record {
      row_is = still_row class f row r.row_is;
      ties = each_map P (IsTied all class) f (λ h d. d.tied) row.1.fields done;
      room = room_kept class f row (each_weaker P (λ h. reach class (f h) ≤ reach class h) (λ h d. d.within) row.1.fields done) r.room;
    }

put_authority : (a : Arrival) (s : State) → a.class ≡ Authority → IsFitArrival a → IsReady s → IsReady (put_in Authority a s)
unfolding each_field
put_authority a s e fit r =
    let all = linkable_authorities s in
    let placed = place a s.authorities in
    let now = filter_map row_linkable placed in
    let successor = successor_of a.leader a.key a.fields in
    let others = λ (key : Key) (apart : same_key a.key key ≡ false). other_place key a s.authorities apart in
    let authorities : Each (IsLooseRow a.key now Authority) placed =
    each_place (IsLooseRow a.key now Authority) a s.authorities (loose_row a.key now now Authority (λ key apart. refl) (a.key, new_record a.leader a.fields) (new_ready now a Authority e fit))
    (each_weaker (IsReadyRow all Authority) (IsLooseRow a.key now Authority) (loose_row a.key all now Authority others) s.authorities r.authorities) in
    let bibliographic : Each (IsLooseRow a.key now Bibliographic) s.bibliographic =
    each_weaker (IsReadyRow all Bibliographic) (IsLooseRow a.key now Bibliographic) (loose_row a.key all now Bibliographic others) s.bibliographic r.bibliographic in
    let same : filter_map row_linkable (map (each_in_row (loosen now a.key successor Authority)) placed) ≡ now =
    linkables_stay (loosen now a.key successor Authority) placed
    (each_weaker (IsLooseRow a.key now Authority) (λ (row : Row). Each (λ h. IsSteady h.field (loosen now a.key successor Authority h).field) row.1.fields)
    (λ row x. each_weaker (IsTiedBut a.key now Authority) (λ h. IsSteady h.field (loosen now a.key successor Authority h).field) (steady_loosen a.key now successor) row.1.fields x.ties) placed authorities) in
    record {
      authorities_ascend = ascend_changed (loosen now a.key successor Authority) placed (ascend_place a s.authorities r.authorities_ascend);
      bibliographic_ascend = ascend_changed (loosen now a.key successor Bibliographic) s.bibliographic r.bibliographic_ascend;
      authorities = rw same (each_map (IsLooseRow a.key now Authority) (IsReadyRow now Authority) (each_in_row (loosen now a.key successor Authority)) (loosened_row a.key now successor Authority) placed authorities);
      bibliographic = rw same (each_map (IsLooseRow a.key now Bibliographic) (IsReadyRow now Bibliographic) (each_in_row (loosen now a.key successor Bibliographic)) (loosened_row a.key now successor Bibliographic) s.bibliographic bibliographic);
    }

put_bibliographic : (a : Arrival) (s : State) → a.class ≡ Bibliographic → IsFitArrival a → IsReady s → IsReady (put_in Bibliographic a s)
put_bibliographic a s e fit r =
    let all = linkable_authorities s in
    record {
      authorities_ascend = r.authorities_ascend;
      bibliographic_ascend = ascend_place a s.bibliographic r.bibliographic_ascend;
      authorities = r.authorities;
      bibliographic = each_place (IsReadyRow all Bibliographic) a s.bibliographic (new_ready all a Bibliographic e fit) r.bibliographic;
    }

put_at : (a : Arrival) (s : State) (class : Class) → a.class ≡ class → IsFitArrival a → IsReady s → IsReady (put_in class a s)
put_at a s Authority e fit r = put_authority a s e fit r
put_at a s Bibliographic e fit r = put_bibliographic a s e fit r

pub put_ready : (a : Arrival) (s : State) → IsFitArrival a → IsReady s → IsReady (put a s)
unfolding put
put_ready a s fit r = put_at a s a.class refl fit r

-- ---- a history

ready_again : (s : State) → IsDoneState s → IsReady s
ready_again s d = record {
  authorities_ascend = d.authorities_ascend;
  bibliographic_ascend = d.bibliographic_ascend;
  authorities = each_weaker (IsDoneRow (linkable_authorities s) Authority) (IsReadyRow (linkable_authorities s) Authority) (λ row x. x.ready) s.authorities d.authorities;
  bibliographic = each_weaker (IsDoneRow (linkable_authorities s) Bibliographic) (IsReadyRow (linkable_authorities s) Bibliographic) (λ row x. x.ready) s.bibliographic d.bibliographic;
}

steps_done : (history : List Arrival) (s : State) → Each IsFitArrival history → IsDoneState s → IsDoneState (fold step s history)
steps_done [] s fits d = d
steps_done (a ∷ history) s fits d =
    steps_done history (step s a) fits.1 (settled_done (put a s) (put_ready a s fits.0 (ready_again s d)))

empty_done : IsDoneState empty_state
unfolding IsStrictlySortedBy
empty_done = record { authorities_ascend = tt; bibliographic_ascend = tt; authorities = tt; bibliographic = tt }

history_done : (history : List Arrival) → Each IsFitArrival history → IsDoneState (state_after history)
unfolding state_after
history_done history fits = steps_done history empty_state fits empty_done

-- ---- validity

each_all : (P : Row → Type 0) (Q : Row → Type 0) → ((row : Row) → P row → Q row) → (rows : List Row) → Each P rows → All Q rows
each_all P Q f rows a = All-from_recursion Q rows (each_weaker P Q f rows a)

fields_all : (P : Row → Type 0) (Q : KeptField → Type 0) → ((row : Row) → P row → Each Q row.1.fields) → (rows : List Row) → Each P rows → All (λ (row : Row). All Q row.1.fields) rows
fields_all P Q f rows a = each_all P (λ (row : Row). All Q row.1.fields) (λ row p. All-from_recursion Q row.1.fields (f row p)) rows a

short_heading : (all : List Linkable) (c : Linkable) → IsFit all c → IsShort c
short_heading all c fit = let within = part_within_full false c.kind (subfields_of c.heading) in let short = fit.short in omega arith

pub done_valid : (s : State) → IsDoneState s → IsValid s
done_valid s d =
    let all = linkable_authorities s in
    let A = IsDoneRow all Authority in
    let B = IsDoneRow all Bibliographic in
    let rows = each_weaker A (IsRow Authority) (λ row x. x.ready.row_is) s.authorities d.authorities in
    let fits = all_fit s.authorities d.authorities_ascend rows in
    record {
      authorities_ascend = d.authorities_ascend;
      bibliographic_ascend = d.bibliographic_ascend;
      rows = (each_all A (IsRow Authority) (λ row x. x.ready.row_is) s.authorities d.authorities, each_all B (IsRow Bibliographic) (λ row x. x.ready.row_is) s.bibliographic d.bibliographic);
      headings = All-from_recursion IsShort all (each_weaker (IsFit all) IsShort (short_heading all) all fits);
      ties = (fields_all A (IsTied all Authority) (λ row x. x.ready.ties) s.authorities d.authorities, fields_all B (IsTied all Bibliographic) (λ row x. x.ready.ties) s.bibliographic d.bibliographic);
      rewritten = (fields_all A (IsRewritten all Authority) (λ row x. x.rewritten) s.authorities d.authorities, fields_all B (IsRewritten all Bibliographic) (λ row x. x.rewritten) s.bibliographic d.bibliographic);
      settled = (fields_all A (IsSettled all Authority) (λ row x. x.settled) s.authorities d.authorities, fields_all B (IsSettled all Bibliographic) (λ row x. x.settled) s.bibliographic d.bibliographic);
      room = (each_all A (HasRoom Authority) (λ row x. x.ready.room) s.authorities d.authorities, each_all B (HasRoom Bibliographic) (λ row x. x.ready.room) s.bibliographic d.bibliographic);
    }

-- ---- admission

unless : (t : Bool) (x : Refusal) (rest : Option Refusal) → (if t then Some x else rest) ≡ None → (t ≡ false) × (rest ≡ None)
unless true x rest e = cc
unless false x rest e = (refl, e)

not_false : (b : Bool) → not b ≡ false → b ≡ true
not_false true e = refl
not_false false e = cc

record IsTaken (library : List ℕ) (l : Leader) (fields : List Field) : Type 0 where
  number : is_number (control_number_of fields) ≡ true
  code : is_code (code_of library fields) ≡ true
  room : has_no_room (class_of l) fields ≡ false

taken : (library : List ℕ) (l : Leader) (fields : List Field) → admission_refusal library l fields ≡ None → IsTaken library l fields
unfolding admission_refusal
taken library l fields e =
    let one = unless (not (is_known_type l.rtype)) OtherType _ e in
    let two = unless (not (is_number (control_number_of fields))) NoNumber _ one.1 in
    let three = unless (not (is_code (code_of library fields))) BadCode _ two.1 in
    let four = unless (is_living_authority l && is_none (heading_of fields)) NoHeading _ three.1 in
    let five = unless (is_living_authority l && has_long_heading fields) HeadingTooLong _ four.1 in
    let six = unless (has_no_room (class_of l) fields) NoRoom None five.1 in
    record { number = not_false (is_number (control_number_of fields)) two.0; code = not_false (is_code (code_of library fields)) three.0; room = six.0 }

key_parts : (library : List ℕ) (fields : List Field) → ((key_of library fields).code ≡ code_of library fields) × ((key_of library fields).number ≡ control_number_of fields)
unfolding key_of
key_parts library fields = (refl, refl)

pub fit_entry : (e : Entry) → IsAdmitted e → IsFitArrival (arrival_of e)
fit_entry e a =
    let t = taken e.library e.rec.leader e.rec.fields a.taken in
    let parts = key_parts e.library e.rec.fields in
    record {
      class_is = sym a.class_is;
      code = rw (a.key_is, parts.0) t.code;
      number = rw (a.key_is, parts.1) t.number;
      room = rw (a.class_is) t.room;
    }

history_valid : (history : List Entry) → Each IsAdmitted history → IsValid (state_of history)
history_valid history a = done_valid (state_of history) (history_done (map arrival_of history) (each_map IsAdmitted IsFitArrival arrival_of fit_entry history a))

-- the state after any history of admitted entries is valid
pub every_state_valid : (history : List Entry) → All IsAdmitted history → IsValid (state_of history)
every_state_valid history a = history_valid history (recursion_from_All IsAdmitted history a)
