-- What each row has after a history of admitted entries, besides what makes a state valid: its key has the number of its 001, its
-- record doesn't delete, and its fields await proper keys alone.
use Rattle.std.proofs.Common.{◌≡◌, ◌∙◌, ℕ, Bool, true, false, cond, ◌&&◌, List, [], ◌∷◌, map, Option, Some, None, IfSome, refl, sym, ap, if◌then◌else◌}
use Rattle.std.specs.Prelude.{◌==◌, not, All, fold, find, unwrap_or}
use Rattle.std.specs.Option.{option_map_or}
use Rattle.std.specs.BTreeMap.{insert_entry}
use Rattle.std.specs.Map.{remove_entry}
use Rattle.std.proofs.lemmas.List.Elements.{recursion_from_All}
use Rattle.marc_types.specs.Order.{key_cmp, same_key}
use Rattle.marc_types.specs.declared.entry.Entry.{Entry}
use Rattle.marc_types.specs.declared.field.Field.{Field}
use Rattle.marc_types.specs.declared.field.Field.TheVariants.{Control, Variable}
use Rattle.marc_types.specs.declared.field.Leader.{Leader}
use Rattle.marc_types.specs.declared.key.Class.{Class}
use Rattle.marc_types.specs.declared.key.Class.TheVariants.{Authority, Bibliographic}
use Rattle.marc_types.specs.declared.key.Key.{Key}
use Rattle.marc_types.specs.declared.form.Kind.{Kind}
use Rattle.heading_fields.specs.Numbers.{without_blanks}
use Rattle.heading_fields.specs.Rewriting.{rewriting, unlinking}
use Rattle.entry_record.specs.Identity.{has_tag, first_control, control_number_of, key_of, is_deletion}
use Rattle.entry_record.specs.Authority.{Linkable, heading_kind, option_filter, is_left_parenthesis, is_valid_key, key_split_at_parenthesis, key_of_text, only_number_text, replacement_numbers, replacement_key, successor_of}
use Rattle.entry_record.specs.History.{IsAdmitted}
use Rattle.catalogue_rules.specs.State.{KeptField, KeptRecord, Row, State, empty_state, fields_of, new_field, new_record, each_in_row, each_field, linkable_authorities}
use Rattle.catalogue_rules.specs.Choice.{Choice, Link, Ambiguous, Unlinked, has_key, choice}
use Rattle.catalogue_rules.specs.Settle.{Arrival, place, keeps_link, is_linked_to, awaits_key, end_link, await, loosen, loosen_all, put_in, put, link_to, take_choice, settle_linked, settle_unlinked, settle_field, settle, step, state_after, arrival_of, state_of}
use Rattle.catalogue_rules.proofs.Elements.{Each, each_map, if_some_then}
use Rattle.catalogue_rules.proofs.Rows.{each_place}

abbrev pub IsProper : Key → Type 0
IsProper key = is_valid_key key ≡ true

-- ---- one field

-- a field in the place of another leaves the control fields of its record as they were
abbrev SameControl : Field → Field → Type 0
SameControl before now =
    (c : ℕ) (fields others : List Field) → first_control c fields ≡ first_control c others → first_control c (now ∷ fields) ≡ first_control c (before ∷ others)

control_same : (f : Field) → SameControl f f
control_same (Control tag text) c fields others e = ap (λ o. if has_tag 48 48 c tag then Some text else o) e
control_same (Variable tag ind1 ind2 subs) c fields others e = e

control_rewritten : (f : Field) (kind : Kind) (class : Class) (heading : Field) (key : Key) (whole : Bool) → SameControl f (rewriting f kind class heading key whole)
unfolding rewriting
control_rewritten (Control tag text) kind class heading key whole c fields others e = ap (λ o. if has_tag 48 48 c tag then Some text else o) e
control_rewritten (Variable tag ind1 ind2 subs) kind class heading key whole c fields others e = e

control_unlinked : (f : Field) (key : Key) → SameControl f (unlinking f key)
unfolding unlinking
control_unlinked (Control tag text) key c fields others e = ap (λ o. if has_tag 48 48 c tag then Some text else o) e
control_unlinked (Variable tag ind1 ind2 subs) key c fields others e = e

-- a change of a field leaves the control fields, and lets it await proper keys alone
record IsCarried (before now : KeptField) : Type 0 where
  control : SameControl before.field now.field
  awaits : IfSome before.tie.awaits IsProper → IfSome now.tie.awaits IsProper

carried_same : (h : KeptField) → IsCarried h h
carried_same h = record { control = control_same h.field; awaits = λ a. a }

carried_link : (class : Class) (h : KeptField) (whole : Bool) (c : Linkable) → IsCarried h (link_to class h whole c)
carried_link class h whole c = record { control = control_rewritten h.field c.kind class c.heading c.key whole; awaits = λ a. tt }

carried_found : (class : Class) (h : KeptField) (o : Option Linkable) → IsCarried h (option_map_or (link_to class h h.tie.whole) o h)
carried_found class h None = carried_same h
carried_found class h (Some c) = carried_link class h h.tie.whole c

carried_choice : (class : Class) (h : KeptField) (chosen : Choice) → IsCarried h (take_choice class h chosen)
carried_choice class h (Link c whole) = carried_link class h whole c
carried_choice class h (Ambiguous keys) = carried_same h
carried_choice class h Unlinked = carried_same h

carried_kind : (all : List Linkable) (class : Class) (h : KeptField) (o : Option Kind) → IsCarried h (option_map_or (λ kind. take_choice class h (choice all class kind h)) o h)
carried_kind all class h None = carried_same h
carried_kind all class h (Some kind) = carried_choice class h (choice all class kind h)

carried_settled_by : (all : List Linkable) (class : Class) (h : KeptField) (o : Option Key) → IsCarried h (option_map_or (settle_linked all class h) o (settle_unlinked all class h))
carried_settled_by all class h None = carried_kind all class h (heading_kind class h.field)
carried_settled_by all class h (Some key) = carried_found class h (find (has_key key) all)

carried_settled : (all : List Linkable) (class : Class) (h : KeptField) → IsCarried h (settle_field all class h)
unfolding settle_field
carried_settled all class h = carried_settled_by all class h h.tie.key

carried_ended : (key : Key) (successor : Option Key) (h : KeptField) → IfSome successor IsProper → IsCarried h (end_link key successor h)
carried_ended key successor h proper = record { control = control_unlinked h.field key; awaits = λ a. proper }

carried_awaiting : (h : KeptField) (successor : Option Key) → IfSome successor IsProper → IsCarried h (option_map_or (await h) successor h)
carried_awaiting h None proper = carried_same h
carried_awaiting h (Some key) proper = record { control = control_same h.field; awaits = λ a. proper }

carried_loosened : (all : List Linkable) (key : Key) (successor : Option Key) (class : Class) → IfSome successor IsProper → (h : KeptField) → IsCarried h (loosen all key successor class h)
unfolding loosen
carried_loosened all key successor class proper h = linked (is_linked_to key h) (keeps_link all class h key) (awaits_key key h)
  where
    linked : (a b c : Bool) →
        IsCarried h (if a then (if b then h else end_link key successor h) else (if c then option_map_or (await h) successor h else h))
    linked true true c = carried_same h
    linked true false c = carried_ended key successor h proper
    linked false b true = carried_awaiting h successor proper
    linked false b false = carried_same h

-- ---- a successor

valid_at : (key : Key) (b : Bool) → is_valid_key key ≡ b → IfSome (if b then Some key else None) IsProper
valid_at key true e = e
valid_at key false e = tt

key_of_text_at : (text : List ℕ) (b : Bool) → IfSome (if b then option_filter is_valid_key (Some (key_split_at_parenthesis text)) else None) IsProper
key_of_text_at text true = valid_at (key_split_at_parenthesis text) (is_valid_key (key_split_at_parenthesis text)) refl
key_of_text_at text false = tt

key_of_text_proper : (text : List ℕ) → IfSome (key_of_text text) IsProper
unfolding key_of_text
key_of_text_proper [] = tt
key_of_text_proper (b ∷ text) = key_of_text_at text (is_left_parenthesis b)

filter_at : (key : Key) (b : Bool) → IsProper key → IfSome (if b then Some key else None) IsProper
filter_at key true p = p
filter_at key false p = tt

filter_proper : (test : Key → Bool) (o : Option Key) → IfSome o IsProper → IfSome (option_filter test o) IsProper
filter_proper test None p = tt
filter_proper test (Some key) p = filter_at key (test key) p

successor_proper : (l : Leader) (own : Key) (fields : List Field) → IfSome (successor_of l own fields) IsProper
unfolding successor_of
successor_proper l own fields = at ((l.rtype == 122) && (l.status == 120))
  where
    at : (b : Bool) → IfSome (if b then option_filter (λ key. not (same_key own key)) (replacement_key fields) else None) IsProper
    at true =
        filter_proper (λ key. not (same_key own key)) (replacement_key fields)
        (if_some_then IsProper key_of_text (only_number_text (replacement_numbers fields)) key_of_text_proper)
    at false = tt

-- ---- one row

pub record IsOwn (row : Row) : Type 0 where
  pub number : row.0.number ≡ control_number_of (fields_of row.1)
  pub living : is_deletion row.1.leader ≡ false
  pub awaits : Each (λ (h : KeptField). IfSome h.tie.awaits IsProper) row.1.fields

abbrev Carries : (KeptField → KeptField) → Type 0
Carries change = (h : KeptField) → IsCarried h (change h)

controls_stay : (change : KeptField → KeptField) → Carries change → (c : ℕ) (hs : List KeptField) →
    first_control c (map (λ (h : KeptField). h.field) (map change hs)) ≡ first_control c (map (λ (h : KeptField). h.field) hs)
controls_stay change carries c [] = refl
controls_stay change carries c (h ∷ hs) = (carries h).control c _ _ (controls_stay change carries c hs)

numbers_stay : (change : KeptField → KeptField) → Carries change → (r : KeptRecord) (hs : List KeptField) →
    control_number_of (map (λ (h : KeptField). h.field) hs) ≡ control_number_of (map (λ (h : KeptField). h.field) (map change hs))
unfolding control_number_of
numbers_stay change carries r hs = ap (λ o. without_blanks (unwrap_or o [])) (sym (controls_stay change carries 49 hs))

own_changed : (change : KeptField → KeptField) → Carries change → (row : Row) → IsOwn row → IsOwn (each_in_row change row)
own_changed change carries row own = record {
  number = own.number ∙ numbers_stay change carries row.1 row.1.fields;
  living = own.living;
  awaits = each_map (λ (h : KeptField). IfSome h.tie.awaits IsProper) (λ (h : KeptField). IfSome h.tie.awaits IsProper) change (λ h a. (carries h).awaits a) row.1.fields own.awaits;
}

new_back : (fields : List Field) → map (λ (h : KeptField). h.field) (map new_field fields) ≡ fields
new_back [] = refl
new_back (f ∷ fields) = ap (λ l. f ∷ l) (new_back fields)

new_awaits : (fields : List Field) → Each (λ (h : KeptField). IfSome h.tie.awaits IsProper) (map new_field fields)
new_awaits [] = tt
new_awaits (f ∷ fields) = (tt, new_awaits fields)

-- what is brought has its own number
abbrev IsOwnArrival : Arrival → Type 0
IsOwnArrival a = a.key.number ≡ control_number_of a.fields

own_new : (a : Arrival) → IsOwnArrival a → is_deletion a.leader ≡ false → IsOwn (a.key, new_record a.leader a.fields)
own_new a own living = record { number = own ∙ ap control_number_of (sym (new_back a.fields)); living = living; awaits = new_awaits a.fields }

removed : (test : Key → Bool) (rows : List Row) → Each IsOwn rows → Each IsOwn (remove_entry test rows)
removed test [] own = tt
removed test (row ∷ rows) own = at (test row.0) (removed test rows own.1)
  where
    at : (b : Bool) → Each IsOwn (remove_entry test rows) → Each IsOwn (cond b rows (row ∷ remove_entry test rows))
    at true rest = own.1
    at false rest = (own.0, rest)

inserted : (a : Arrival) (rows : List Row) → IsOwn (a.key, new_record a.leader a.fields) → is_deletion a.leader ≡ false → Each IsOwn rows
    → Each IsOwn (insert_entry key_cmp rows a.key (new_record a.leader a.fields))
unfolding place
inserted a rows own living each = let placed = each_place IsOwn a rows own each in rw living at placed

own_placed : (a : Arrival) (rows : List Row) → IsOwnArrival a → Each IsOwn rows → Each IsOwn (place a rows)
unfolding place
own_placed a rows own each = at (is_deletion a.leader) refl
  where
    at : (b : Bool) → is_deletion a.leader ≡ b → Each IsOwn (if b then remove_entry (same_key a.key) rows else insert_entry key_cmp rows a.key (new_record a.leader a.fields))
    at true deletes = removed (same_key a.key) rows each
    at false living = inserted a rows (own_new a own living) living each

-- ---- a state

pub record AreOwn (s : State) : Type 0 where
  pub authorities : Each IsOwn s.authorities
  pub bibliographic : Each IsOwn s.bibliographic

own_each : (change : Class → KeptField → KeptField) → ((class : Class) → Carries (change class)) → (s : State) → AreOwn s → AreOwn (each_field change s)
unfolding each_field
own_each change carries s own = record {
  authorities = each_map IsOwn IsOwn (each_in_row (change Authority)) (own_changed (change Authority) (carries Authority)) s.authorities own.authorities;
  bibliographic = each_map IsOwn IsOwn (each_in_row (change Bibliographic)) (own_changed (change Bibliographic) (carries Bibliographic)) s.bibliographic own.bibliographic;
}

own_settled : (s : State) → AreOwn s → AreOwn (settle s)
unfolding settle
own_settled s own = own_each (settle_field (linkable_authorities s)) (carried_settled (linkable_authorities s)) s own

own_loosened : (a : Arrival) (s : State) → AreOwn s → AreOwn (loosen_all a s)
own_loosened a s own =
    let successor = successor_of a.leader a.key a.fields in
    own_each (loosen (linkable_authorities s) a.key successor)
    (λ class. carried_loosened (linkable_authorities s) a.key successor class (successor_proper a.leader a.key a.fields)) s own

own_put : (a : Arrival) (s : State) (class : Class) → IsOwnArrival a → AreOwn s → AreOwn (put_in class a s)
own_put a s Authority is own =
    own_loosened a (record s { authorities = place a s.authorities })
    (record { authorities = own_placed a s.authorities is own.authorities; bibliographic = own.bibliographic })
own_put a s Bibliographic is own = record { authorities = own.authorities; bibliographic = own_placed a s.bibliographic is own.bibliographic }

own_step : (a : Arrival) (s : State) → IsOwnArrival a → AreOwn s → AreOwn (step s a)
unfolding put
own_step a s is own = own_settled (put_in a.class a s) (own_put a s a.class is own)

own_through : (history : List Arrival) (s : State) → Each IsOwnArrival history → AreOwn s → AreOwn (fold step s history)
own_through [] s are own = own
own_through (a ∷ history) s are own = own_through history (step s a) are.1 (own_step a s are.0 own)

own_arrival : (e : Entry) → IsAdmitted e → IsOwnArrival (arrival_of e)
unfolding key_of
own_arrival e admitted = ap (λ (k : Key). k.number) admitted.key_is

-- each row has these after a history of admitted entries
pub own_after : (history : List Entry) → All IsAdmitted history → AreOwn (state_of history)
unfolding state_after
own_after history admitted =
    own_through (map arrival_of history) empty_state
    (each_map IsAdmitted IsOwnArrival arrival_of own_arrival history (recursion_from_All IsAdmitted history admitted))
    (record { authorities = tt; bibliographic = tt })
