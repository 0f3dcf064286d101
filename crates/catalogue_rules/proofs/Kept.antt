-- What linking does to the fields of kept records: those that are no headings stay.
use Rattle.std.proofs.Common.{◌≡◌, ◌∙◌, Bool, true, false, List, [], ◌∷◌, map, Option, Some, None, refl, sym, ap, if◌then◌else◌}
use Rattle.std.specs.Prelude.{find, fold}
use Rattle.std.specs.BTreeMap.{insert_entry}
use Rattle.std.specs.Map.{remove_entry}
use Rattle.std.specs.Option.{option_map_or}
use Rattle.marc_types.specs.Order.{key_cmp, same_key}
use Rattle.marc_types.specs.declared.field.Field.{Field}
use Rattle.marc_types.specs.declared.key.Class.{Class}
use Rattle.marc_types.specs.declared.key.Class.TheVariants.{Authority, Bibliographic}
use Rattle.marc_types.specs.declared.key.Key.{Key}
use Rattle.marc_types.specs.declared.form.Kind.{Kind}
use Rattle.heading_fields.specs.Tables.{kind_of}
use Rattle.heading_fields.proofs.Fieldlaws.{kind_of_rewriting, kind_of_unlinking}
use Rattle.entry_record.specs.Identity.{is_deletion}
use Rattle.entry_record.specs.Authority.{Linkable, has_form, heading_kind, successor_of}
use Rattle.catalogue_rules.specs.State.{KeptField, KeptRecord, Row, State, empty_state, fields_of, rows_of, new_field, new_record, each_field, each_in_row, linkable_authorities}
use Rattle.catalogue_rules.specs.Choice.{Choice, Link, Ambiguous, Unlinked, has_key, choice}
use Rattle.catalogue_rules.specs.Settle.{Arrival, place, keeps_link, is_linked_to, awaits_key, end_link, await, hand_on, loosen, put_in, put, link_to, take_choice, settle_linked, settle_unlinked, settle_field, settle, step, state_after}
use Rattle.catalogue_rules.proofs.Elements.{Each, each_map}
use Rattle.catalogue_rules.proofs.Rows.{each_place}
use Rattle.catalogue_rules.proofs.Proper.{option_passes}
use Rattle.catalogue_rules.specs.Committed.{Committed, plain_fields, plain_of_kept, plain_of_committed, take_in, take_in_class, committed_after}
use Rattle.catalogue_rules.proofs.Maps.{map_inserted, map_removed}

-- ---- one field

-- a field that is no heading is not linked
abbrev IsUntied : Class → KeptField → Type 0
IsUntied class h = kind_of class h.field ≡ None → h.tie.key ≡ None

-- a change of a field that leaves its kind, and leaves the field where it is no heading
record LeavesPlain (class : Class) (before now : KeptField) : Type 0 where
  kind : kind_of class now.field ≡ kind_of class before.field
  stays : kind_of class before.field ≡ None → now.field ≡ before.field
  untied : IsUntied class now

same_leaves : (class : Class) (h : KeptField) → IsUntied class h → LeavesPlain class h h
same_leaves class h u = record { kind = refl; stays = λ e. refl; untied = u }

some_none : {A : Type 0} (x : A) (o : Option A) → o ≡ Some x → o ≡ None → ⊥
some_none x o e n = cc

-- a heading is linked
linked_leaves : (class : Class) (h : KeptField) (whole : Bool) (c : Linkable) → (kind_of class h.field ≡ None → ⊥) → LeavesPlain class h (link_to class h whole c)
linked_leaves class h whole c heading =
    let same = kind_of_rewriting h.field c.kind class c.heading c.key whole class in
    record { kind = same; stays = λ e. absurd (heading e); untied = λ e. absurd (heading (sym same ∙ e)) }

linked_heading : (class : Class) (h : KeptField) (key : Key) → IsUntied class h → h.tie.key ≡ Some key → kind_of class h.field ≡ None → ⊥
linked_heading class h key u e n = some_none key h.tie.key e (u n)

settle_leaves_linked : (class : Class) (h : KeptField) (key : Key) (o : Option Linkable) → IsUntied class h → h.tie.key ≡ Some key →
    LeavesPlain class h (option_map_or (link_to class h h.tie.whole) o h)
settle_leaves_linked class h key None u e = same_leaves class h u
settle_leaves_linked class h key (Some c) u e = linked_leaves class h h.tie.whole c (linked_heading class h key u e)

choice_leaves : (class : Class) (h : KeptField) (chosen : Choice) → IsUntied class h → (kind_of class h.field ≡ None → ⊥) → LeavesPlain class h (take_choice class h chosen)
choice_leaves class h (Link c whole) u heading = linked_leaves class h whole c heading
choice_leaves class h (Ambiguous keys) u heading = same_leaves class h u
choice_leaves class h Unlinked u heading = same_leaves class h u

heading_of_kind : (class : Class) (h : KeptField) (kind : Kind) → heading_kind class h.field ≡ Some kind → kind_of class h.field ≡ None → ⊥
unfolding heading_kind
heading_of_kind class h kind e n = some_none kind (kind_of class h.field) (option_passes (has_form h.field) kind (kind_of class h.field) e).0 n

settle_leaves_unlinked : (all : List Linkable) (class : Class) (h : KeptField) (o : Option Kind) → heading_kind class h.field ≡ o → IsUntied class h →
    LeavesPlain class h (option_map_or (λ kind. take_choice class h (choice all class kind h)) o h)
settle_leaves_unlinked all class h None e u = same_leaves class h u
settle_leaves_unlinked all class h (Some kind) e u = choice_leaves class h (choice all class kind h) u (heading_of_kind class h kind e)

settle_leaves_by : (all : List Linkable) (class : Class) (h : KeptField) (o : Option Key) → h.tie.key ≡ o → IsUntied class h →
    LeavesPlain class h (option_map_or (settle_linked all class h) o (settle_unlinked all class h))
settle_leaves_by all class h None e u = settle_leaves_unlinked all class h (heading_kind class h.field) refl u
settle_leaves_by all class h (Some key) e u = settle_leaves_linked class h key (find (has_key key) all) u e

settle_leaves : (all : List Linkable) (class : Class) (h : KeptField) → IsUntied class h → LeavesPlain class h (settle_field all class h)
unfolding settle_field
settle_leaves all class h u = settle_leaves_by all class h h.tie.key refl u

-- ---- links that end

linked_some : (key : Key) (o : Option Key) → option_map_or (same_key key) o false ≡ true → o ≡ None → ⊥
linked_some key None e n = cc
linked_some key (Some k) e n = cc

ended_leaves : (class : Class) (key : Key) (successor : Option Key) (h : KeptField) → IsUntied class h → is_linked_to key h ≡ true → LeavesPlain class h (end_link key successor h)
ended_leaves class key successor h u linked = record {
  kind = kind_of_unlinking h.field key class;
  stays = λ e. absurd (linked_some key h.tie.key linked (u e));
  untied = λ e. refl;
}

awaited_leaves : (class : Class) (h : KeptField) (o : Option Key) → IsUntied class h → LeavesPlain class h (option_map_or (await h) o h)
awaited_leaves class h None u = same_leaves class h u
awaited_leaves class h (Some key) u = record { kind = refl; stays = λ e. refl; untied = u }

loosen_leaves : (all : List Linkable) (key : Key) (successor : Option Key) (class : Class) (h : KeptField) → IsUntied class h → LeavesPlain class h (loosen all key successor class h)
unfolding loosen
loosen_leaves all key successor class h u = linked (is_linked_to key h) refl
  where
    kept : (b : Bool) → is_linked_to key h ≡ true → LeavesPlain class h (if b then h else end_link key successor h)
    kept true l = same_leaves class h u
    kept false l = ended_leaves class key successor h u l

    handed : (b : Bool) → LeavesPlain class h (if b then option_map_or (await h) successor h else h)
    handed true = awaited_leaves class h successor u
    handed false = same_leaves class h u

    linked : (b : Bool) → is_linked_to key h ≡ b →
        LeavesPlain class h (if b then (if keeps_link all class h key then h else end_link key successor h) else hand_on key successor h)
    linked true e = kept (keeps_link all class h key) e
    linked false e = handed (awaits_key key h)

-- ---- records and rows

abbrev IsUntiedRow : Class → Row → Type 0
IsUntiedRow class row = Each (IsUntied class) row.1.fields

plain_behind : (class : Class) (f g : Field) (fs gs : List Field) (o : Option Kind) → kind_of class f ≡ o → kind_of class g ≡ o → (o ≡ None → g ≡ f) →
    plain_fields class gs ≡ plain_fields class fs → plain_fields class (g ∷ gs) ≡ plain_fields class (f ∷ fs)
plain_behind class f g fs gs None e k same ih = rw (e, k) (ap (λ x. x ∷ plain_fields class gs) (same refl) ∙ ap (λ l. f ∷ l) ih)
plain_behind class f g fs gs (Some kind) e k same ih = rw (e, k) ih

module _ (class : Class) (change : KeptField → KeptField) (leaves : (h : KeptField) → IsUntied class h → LeavesPlain class h (change h)) where
  fields_leave : (hs : List KeptField) → Each (IsUntied class) hs →
      plain_fields class (map (λ h. h.field) (map change hs)) ≡ plain_fields class (map (λ h. h.field) hs)
  fields_leave [] u = refl
  fields_leave (h ∷ hs) u =
      let l = leaves h u.0 in
      plain_behind class h.field (change h).field (map (λ h. h.field) hs) (map (λ h. h.field) (map change hs)) (kind_of class h.field) refl l.kind l.stays (fields_leave hs u.1)

  rows_leave : (rows : List Row) → Each (IsUntiedRow class) rows → map (plain_of_kept class) (map (each_in_row change) rows) ≡ map (plain_of_kept class) rows
  rows_leave [] u = refl
  rows_leave (row ∷ rows) u =
      ap (λ fs. (row.0, fs) ∷ map (plain_of_kept class) (map (each_in_row change) rows)) (fields_leave row.1.fields u.0)
      ∙ ap (λ l. plain_of_kept class row ∷ l) (rows_leave rows u.1)

  rows_untied : (rows : List Row) → Each (IsUntiedRow class) rows → Each (IsUntiedRow class) (map (each_in_row change) rows)
  rows_untied rows u =
      each_map (IsUntiedRow class) (IsUntiedRow class) (each_in_row change)
      (λ row r. each_map (IsUntied class) (IsUntied class) change (λ h v. (leaves h v).untied) row.1.fields r) rows u

-- the rows of a class are as they were committed
record AreCommitted (class : Class) (rows : List Row) (committed : List Committed) : Type 0 where
  plain : map (plain_of_kept class) rows ≡ map (plain_of_committed class) committed
  untied : Each (IsUntiedRow class) rows

changed_rows : (class : Class) (change : KeptField → KeptField) → ((h : KeptField) → IsUntied class h → LeavesPlain class h (change h)) →
    (rows : List Row) (committed : List Committed) → AreCommitted class rows committed → AreCommitted class (map (each_in_row change) rows) committed
changed_rows class change leaves rows committed are = record {
  plain = rows_leave class change leaves rows are.untied ∙ are.plain;
  untied = rows_untied class change leaves rows are.untied;
}

-- ---- a record that comes in

new_untied : (class : Class) (fields : List Field) → Each (IsUntied class) (map new_field fields)
new_untied class [] = tt
new_untied class (f ∷ fields) = ((λ e. refl), new_untied class fields)

new_fields : (fields : List Field) → map (λ (h : KeptField). h.field) (map new_field fields) ≡ fields
new_fields [] = refl
new_fields (f ∷ fields) = ap (λ l. f ∷ l) (new_fields fields)

placed_rows : (class : Class) (a : Arrival) (rows : List Row) (committed : List Committed) → AreCommitted class rows committed → AreCommitted class (place a rows) (take_in a committed)
unfolding place
placed_rows class a rows committed are = record {
  plain = at (is_deletion a.leader);
  untied = each_place (IsUntiedRow class) a rows (new_untied class a.fields) are.untied;
}
  where
    kept : KeptRecord → List Field
    kept r = plain_fields class (fields_of r)

    came : plain_fields class (fields_of (new_record a.leader a.fields)) ≡ plain_fields class a.fields
    came = ap (plain_fields class) (new_fields a.fields)

    at : (b : Bool) → map (plain_of_kept class) (if b then remove_entry (same_key a.key) rows else insert_entry key_cmp rows a.key (new_record a.leader a.fields))
        ≡ map (plain_of_committed class) (if b then remove_entry (same_key a.key) committed else insert_entry key_cmp committed a.key a.fields)
    at true =
        map_removed (λ (r : KeptRecord). plain_fields class (fields_of r)) (same_key a.key) rows
        ∙ ap (remove_entry (same_key a.key)) are.plain
        ∙ sym (map_removed (plain_fields class) (same_key a.key) committed)
    at false =
        map_inserted (λ (r : KeptRecord). plain_fields class (fields_of r)) key_cmp rows a.key (new_record a.leader a.fields)
        ∙ ap (λ es. insert_entry key_cmp es a.key (plain_fields class (fields_of (new_record a.leader a.fields)))) are.plain
        ∙ ap (insert_entry key_cmp (map (plain_of_committed class) committed) a.key) came
        ∙ sym (map_inserted (plain_fields class) key_cmp committed a.key a.fields)

-- ---- states

record IsCommitted (s : State) (authorities bibliographic : List Committed) : Type 0 where
  for_authorities : AreCommitted Authority s.authorities authorities
  for_bibliographic : AreCommitted Bibliographic s.bibliographic bibliographic

changed_state : (change : Class → KeptField → KeptField) → ((class : Class) (h : KeptField) → IsUntied class h → LeavesPlain class h (change class h)) →
    (s : State) (xs ys : List Committed) → IsCommitted s xs ys → IsCommitted (each_field change s) xs ys
unfolding each_field
changed_state change leaves s xs ys is = record {
  for_authorities = changed_rows Authority (change Authority) (leaves Authority) s.authorities xs is.for_authorities;
  for_bibliographic = changed_rows Bibliographic (change Bibliographic) (leaves Bibliographic) s.bibliographic ys is.for_bibliographic;
}

settled_state : (s : State) (xs ys : List Committed) → IsCommitted s xs ys → IsCommitted (settle s) xs ys
unfolding settle
settled_state s xs ys is = changed_state (settle_field (linkable_authorities s)) (settle_leaves (linkable_authorities s)) s xs ys is

put_state_in : (class : Class) (a : Arrival) → a.class ≡ class → (s : State) (xs ys : List Committed) → IsCommitted s xs ys →
    IsCommitted (put_in class a s) (take_in_class Authority xs a) (take_in_class Bibliographic ys a)
unfolding place
put_state_in Authority a is s xs ys c =
    let placed : State = record s { authorities = place a s.authorities } in
    let there : IsCommitted placed (take_in a xs) ys = record { for_authorities = placed_rows Authority a s.authorities xs c.for_authorities; for_bibliographic = c.for_bibliographic } in
    let all = linkable_authorities placed in
    rw is (changed_state (loosen all a.key (successor_of a.leader a.key a.fields)) (loosen_leaves all a.key (successor_of a.leader a.key a.fields)) placed (take_in a xs) ys there)
put_state_in Bibliographic a is s xs ys c =
    rw is (record { for_authorities = c.for_authorities; for_bibliographic = placed_rows Bibliographic a s.bibliographic ys c.for_bibliographic })

put_state : (a : Arrival) (s : State) (xs ys : List Committed) → IsCommitted s xs ys → IsCommitted (put a s) (take_in_class Authority xs a) (take_in_class Bibliographic ys a)
unfolding put
put_state a s xs ys c = put_state_in a.class a refl s xs ys c

all_states : (history : List Arrival) (s : State) (xs ys : List Committed) → IsCommitted s xs ys →
    IsCommitted (fold step s history) (fold (take_in_class Authority) xs history) (fold (take_in_class Bibliographic) ys history)
all_states [] s xs ys c = c
all_states (a ∷ history) s xs ys c =
    all_states history (step s a) (take_in_class Authority xs a) (take_in_class Bibliographic ys a)
    (settled_state (put a s) (take_in_class Authority xs a) (take_in_class Bibliographic ys a) (put_state a s xs ys c))

pub kept_as_committed : (class : Class) (history : List Arrival) →
    map (plain_of_kept class) (rows_of class (state_after history)) ≡ map (plain_of_committed class) (committed_after class history)
unfolding state_after committed_after
kept_as_committed class history = at class
  where
    begun : IsCommitted empty_state [] []
    begun = record { for_authorities = record { plain = refl; untied = tt }; for_bibliographic = record { plain = refl; untied = tt } }

    both : IsCommitted (fold step empty_state history) (fold (take_in_class Authority) [] history) (fold (take_in_class Bibliographic) [] history)
    both = all_states history empty_state [] [] begun

    at : (class : Class) → map (plain_of_kept class) (rows_of class (fold step empty_state history)) ≡ map (plain_of_committed class) (fold (take_in_class class) [] history)
    at Authority = both.for_authorities.plain
    at Bibliographic = both.for_bibliographic.plain
