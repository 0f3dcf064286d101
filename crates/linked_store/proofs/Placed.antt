-- The tables agree with the records once a record has come into its place with its rows.
use Rattle.std.proofs.Common.{◌≡◌, ◌∙◌, sym, ap, refl, subst, ℕ, ◌<◌, Bool, true, false, cond, List, [], length, map, Option, Some, None, if◌then◌else◌, ◌⊎◌, inl, inr}
use Rattle.std.specs.Prelude.{◌&&◌, ◌==◌, filter, slice_get}
use Rattle.std.specs.Cmp.{unsigned_Decides}
use Rattle.std.specs.Option.{option_and_then, option_map, option_map_or}
use Rattle.std.specs.List.{IsDistinct}
use Rattle.std.specs.Map.{lookup, remove_entry}
use Rattle.std.specs.BTreeMap.{insert_entry}
use Rattle.std.proofs.lemmas.Option.{slice_get-map}
use mathlib.Core.Bool.{false≢true}
use Rattle.marc_types.specs.declared.entry.Entry.{Entry}
use Rattle.marc_types.specs.declared.field.Field.{Field}
use Rattle.marc_types.specs.declared.form.Form.{Form}
use Rattle.marc_types.specs.declared.key.Class.{Class}
use Rattle.marc_types.specs.declared.key.Class.TheVariants.{Authority, Bibliographic}
use Rattle.marc_types.specs.declared.key.Key.{Key}
use Rattle.marc_types.specs.declared.key.Place.{Place}
use Rattle.marc_types.specs.Order.{key_cmp, same_form, same_key}
use Rattle.numbering.specs.Numbers.{IsNumberOf, Keeps, number_of}
use Rattle.numbering.specs.Seats.{same_seat, seat_Decides}
use Rattle.numbering.specs.declared.seat.Seat.{Seat}
use Rattle.numbering.proofs.Numberlaws.{keeps_itself}
use Rattle.entry_record.specs.Authority.{is_bare, is_valid_key}
use Rattle.entry_record.specs.Identity.{is_deletion}
use Rattle.catalogue_rules.specs.Receipt.{is_committed, kept_under, same_class}
use Rattle.catalogue_rules.specs.Settle.{Arrival, arrival_of, place}
use Rattle.catalogue_rules.specs.State.{KeptField, KeptRecord, Row as StateRow, State, linkable_authorities, new_field, new_record, rows_of}
use Rattle.catalogue_rules.specs.Valid.{IsRow}
use Rattle.catalogue_rules.proofs.Rows.{ascend_place, each_place}
use Rattle.catalogue_rules.proofs.States.{IsFitArrival, fit_entry}
use Rattle.entry_record.specs.History.{IsAdmitted}
use Rattle.linking_laws.specs.Middle.{AreAuthoritiesInOrder}
use Rattle.std.proofs.lemmas.List.Elements.{All-from_recursion, recursion_from_All}
use Rattle.catalogue_rules.specs.Store.{field_at, field_under, with_rows}
use Rattle.numbered_store.specs.Numbered.{Numbered, key_at as key_by_number, keys_in as keys_by, with_record}
use Rattle.numbered_store.proofs.Shelving.{low_number}
use Rattle.numbered_store.specs.Rows.{with_row}
use Rattle.numbered_store.proofs.Ordered.{lookup_with_row, own_key}
use Rattle.form_index.specs.Index.{Indexed, IsInOrder}
use Rattle.form_index.specs.Order.{key_at}
use Rattle.link_table.specs.Links.{is_linked, leads_to}
use Rattle.wait_table.specs.Waits.{asks, asks_form, names, names_key}
use Rattle.wait_table.specs.declared.waiting.Waiting.{Waiting}
use Rattle.linking_laws.specs.Behind.{placed_in}
use Rattle.linking_laws.specs.Partway.{AreOrdered}
use Rattle.linking_laws.specs.Tables.{Agree, Tables, asks_at, holds_at, index_row, linked_at}
use Rattle.linking_laws.specs.Visits.{waits_for_key}
use Rattle.linking_laws.proofs.Agreeing.{agree_placed}
use Rattle.linking_laws.proofs.Counts.{kept_placed as others_placed}
use Rattle.linking_laws.proofs.Partial.{place_is}
use Rattle.catalogue_tables.specs.Following.{TellsAuthorities}
use Rattle.catalogue_tables.specs.Seam.{AreDistinct, HasKey, IsWithin, KeyLists, keys_in, seat_of}
use Rattle.catalogue_tables.specs.Told.{LinksFit, linked_by}
use Rattle.catalogue_tables.specs.Waiting.{asking_by, naming_by}
use Rattle.catalogue_tables.proofs.Comings.{follows_arrival}
use Rattle.catalogue_tables.proofs.Followed.{tells_kept}
use Rattle.catalogue_tables.proofs.Seams.{key_numbered, seat_alike, told_stays, within_kept}
use Rattle.linked_store.specs.Contents.{Contents}
use Rattle.linked_store.specs.Transactions.{FormsKeep, GoesOn, contents}
use Rattle.linked_store.specs.Leading.{leading_by, leads, leads_at, leads_form}
use Rattle.linked_store.specs.Linked.{IsAhead, Linked}
use Rattle.linking_laws.specs.Commits.{placed_by}
use Rattle.linked_store.specs.Placing.{AreRowsOf, IndexFollows, IsElsewhere, IsPlaced, IsRowAt, fields_brought, record_brought, row_of_field, seat_in}
use Rattle.linked_store.specs.Sound.{AgreesWith, IsSound, key_lists, keys_of, linked_view, seen_links, seen_waits, state_in}
use Rattle.linked_store.specs.Turns.{IsWaitingOf}
use Rattle.linked_store.specs.declared.transaction.Transaction.{Transaction}
use Rattle.linked_store.specs.declared.seating.FieldRow.{FieldRow}
use Rattle.linked_store.specs.declared.turns.Row.{Row}
use Rattle.linked_store.proofs.Agreed.{key_there, keys_alike, keys_keep, within_first}
use Rattle.linked_store.proofs.Fielded.{IsLeft, ahead_turned, wait_of}
use Rattle.linked_store.proofs.Sounding.{sound_on}
use Rattle.linked_store.proofs.Brought.{number_key}
use Rattle.linked_store.proofs.Seated.{fails}

-- ---- the state

place_row : (a : Arrival) (rows : List StateRow) → place a rows ≡ with_row (Some a.key) (record_brought a) rows
unfolding place
place_row a rows = at (is_deletion a.leader)
  where
    at : (b : Bool) → (if b then remove_entry (same_key a.key) rows else insert_entry key_cmp rows a.key (new_record a.leader a.fields))
        ≡ with_row (Some a.key) (if b then None else Some (new_record a.leader a.fields)) rows
    at true = refl
    at false = refl

rows_placed : (k : Class) (a : Arrival) (s : State) → with_rows k (with_row (Some a.key) (record_brought a) (rows_of k s)) s ≡ placed_in k a s
rows_placed Authority a s = λ i. record { authorities = sym (place_row a s.authorities) i; bibliographic = s.bibliographic }
rows_placed Bibliographic a s = λ i. record { authorities = s.authorities; bibliographic = sym (place_row a s.bibliographic) i }

-- a record under a number is in its key's place
pub state_placed : (a : Arrival) (number : ℕ) (s : Numbered) → number < length (keys_in a.class (key_lists s.keys)) → key_at (keys_in a.class (key_lists s.keys)) number ≡ a.key
    → (with_record a.class number (record_brought a) s).state ≡ placed_in a.class a s.state
state_placed a number s low key =
    let there : key_by_number a.class number s ≡ Some a.key =
    ap (λ (l : List Key). slice_get l number) (sym (keys_alike a.class s)) ∙ key_there (keys_in a.class (key_lists s.keys)) number low ∙ ap (λ (k : Key). Some k) key in
    ap (λ (k : Option Key). with_rows a.class (with_row k (record_brought a) (rows_of a.class s.state)) s.state) there ∙ rows_placed a.class a s.state

ordered_placed : (k : Class) (a : Arrival) (s : State) → AreOrdered s → AreOrdered (placed_in k a s)
ordered_placed Authority a s order = record { authorities = ascend_place a s.authorities order.authorities; bibliographic = order.bibliographic }
ordered_placed Bibliographic a s order = record { authorities = order.authorities; bibliographic = ascend_place a s.bibliographic order.bibliographic }

-- the authorities stand in key order under proper keys then
authorities_at : (k : Class) (a : Arrival) (s : State) → a.class ≡ k → IsFitArrival a → AreAuthoritiesInOrder s → AreAuthoritiesInOrder (placed_in k a s)
authorities_at Authority a s class fit order = record {
  ascend = ascend_place a s.authorities order.ascend;
  rows =
      All-from_recursion (IsRow Authority) (place a s.authorities)
      (each_place (IsRow Authority) a s.authorities (record { class_is = fit.class_is ∙ class; code = fit.code; number = fit.number })
      (recursion_from_All (IsRow Authority) s.authorities order.rows));
}
authorities_at Bibliographic a s class fit order = record { ascend = order.ascend; rows = order.rows }

pub authorities_placed : (s : State) (e : Entry) → IsAdmitted e → AreAuthoritiesInOrder s → AreAuthoritiesInOrder (placed_by e.class s e)
authorities_placed s e admitted order = authorities_at e.class (arrival_of e) s refl (fit_entry e admitted) order

-- the record that stands under the key then
kept_placed : (k : Class) (a : Arrival) (s : State) → AreOrdered s → kept_under k a.key (placed_in k a s) ≡ record_brought a
kept_placed Authority a s order =
    ap (lookup (same_key a.key)) (place_row a s.authorities) ∙ lookup_with_row a.key a.key (record_brought a) s.authorities order.authorities
    ∙ ap (λ b. cond b (record_brought a) (lookup (same_key a.key) s.authorities)) (own_key a.key)
kept_placed Bibliographic a s order =
    ap (lookup (same_key a.key)) (place_row a s.bibliographic) ∙ lookup_with_row a.key a.key (record_brought a) s.bibliographic order.bibliographic
    ∙ ap (λ b. cond b (record_brought a) (lookup (same_key a.key) s.bibliographic)) (own_key a.key)

field_brought : (a : Arrival) (j : ℕ) → option_and_then (field_at j) (record_brought a) ≡ option_map new_field (slice_get (fields_brought a) j)
field_brought a j = at (is_deletion a.leader)
  where
    at : (b : Bool) → option_and_then (field_at j) (if b then None else Some (new_record a.leader a.fields)) ≡ option_map new_field (slice_get (if b then [] else a.fields) j)
    at true = refl
    at false = slice_get-map new_field a.fields j

-- ---- the index

told_placed : (k : Class) (number : ℕ) (e : Entry) (f g : Transaction) (keys : KeyLists) (s : State) → AreDistinct keys → f.store.keys.authorities ≡ keys.authorities → AreOrdered s
    → IsNumberOf same_key (keys_in k keys) e.key number → Keeps same_form f.tables.forms g.tables.forms → IndexFollows k number e f g
    → TellsAuthorities f.tables.forms keys.authorities f.tables.index (linkable_authorities s)
    → TellsAuthorities g.tables.forms keys.authorities g.tables.index (linkable_authorities (placed_in k (arrival_of e) s))
told_placed Authority number e f g keys s distinct same order of keeps follows told =
    follows_arrival f.tables.forms g.tables.forms keys.authorities number (arrival_of e) s f.tables.index g.tables.index distinct.authorities order.authorities of keeps told
    follows.0 (subst (λ (l : List Key). IsInOrder l g.tables.index) same follows.1)
told_placed Bibliographic number e f g keys s distinct same order of keeps follows told =
    subst (λ (x : Indexed). TellsAuthorities g.tables.forms keys.authorities x (linkable_authorities s)) (sym follows)
    (tells_kept f.tables.forms g.tables.forms keys.authorities keys.authorities f.tables.index (linkable_authorities s) distinct.authorities keeps (keeps_itself same_key keys.authorities) told)

-- ---- the rows of one field

no_field : (forms : List Form) (row : Option Row) (waiting : Option Waiting) → row ≡ None → IsWaitingOf forms row waiting → waiting ≡ None
no_field forms None None none is = refl
no_field forms None (Some waiting) none is = absurd is
no_field forms (Some row) waiting none is = cc

module _ (forms : List Form) (keys : List Key) (k : Class) (o : Option Field) (row : Option Row) (waiting : Option Waiting) (is_row : IsRowAt k keys o row) (is_wait : IsWaitingOf forms row waiting) where
  asks_own : (form : Form) → asks_form (number_of same_form forms form) waiting ≡ option_map_or (asks_at form k) (option_map new_field o) false
  asks_own form = by o is_row
    where
      by : (o : Option Field) → IsRowAt k keys o row → asks_form (number_of same_form forms form) waiting ≡ option_map_or (asks_at form k) (option_map new_field o) false
      by None none = ap (asks_form (number_of same_form forms form)) (no_field forms row waiting none is_wait)
      by (Some field) is = (wait_of forms keys k (new_field field) row waiting is is_wait).asks form

  leads_own : (form : Form) → leads_form (number_of same_form forms form) waiting ≡ option_map_or (leads_at form k) (option_map new_field o) false
  leads_own form = by o is_row
    where
      by : (o : Option Field) → IsRowAt k keys o row → leads_form (number_of same_form forms form) waiting ≡ option_map_or (leads_at form k) (option_map new_field o) false
      by None none = ap (leads_form (number_of same_form forms form)) (no_field forms row waiting none is_wait)
      by (Some field) is = (wait_of forms keys k (new_field field) row waiting is is_wait).leads form

  names_own : (key : Key) → is_valid_key key ≡ true → names_key (number_of same_key keys key) waiting ≡ option_map_or (waits_for_key key k) (option_map new_field o) false
  names_own key valid = by o is_row
    where
      by : (o : Option Field) → IsRowAt k keys o row → names_key (number_of same_key keys key) waiting ≡ option_map_or (waits_for_key key k) (option_map new_field o) false
      by None none = ap (names_key (number_of same_key keys key)) (no_field forms row waiting none is_wait)
      by (Some field) is = (wait_of forms keys k (new_field field) row waiting is is_wait).names key valid

  forms_own : (n : ℕ) → asks_form n waiting ≡ true → n < length forms
  forms_own n e = by o is_row
    where
      by : (o : Option Field) → IsRowAt k keys o row → n < length forms
      by None none = absurd (false≢true (sym (ap (asks_form n) (no_field forms row waiting none is_wait)) ∙ e))
      by (Some field) is = (wait_of forms keys k (new_field field) row waiting is is_wait).low_forms n e

  keys_own : (n : ℕ) → names_key n waiting ≡ true → n < length keys
  keys_own n e = by o is_row
    where
      by : (o : Option Field) → IsRowAt k keys o row → n < length keys
      by None none = absurd (false≢true (sym (ap (names_key n) (no_field forms row waiting none is_wait)) ∙ e))
      by (Some field) is = (wait_of forms keys k (new_field field) row waiting is is_wait).low_keys n e

no_link_own : (key : Key) (k : Class) (o : Option Field) → false ≡ option_map_or (linked_at key k) (option_map new_field o) false
no_link_own key k None = refl
no_link_own key k (Some field) = refl

-- ---- seats and places

-- a seat is that of a record's field, or elsewhere
record IsOwn (k : Class) (number : ℕ) (seat : Seat) : Type 0 where
  field : ℕ
  is : seat ≡ seat_in k number field

own_or_elsewhere : (k : Class) (number : ℕ) (seat : Seat) → IsOwn k number seat ⊎ IsElsewhere k number seat
own_or_elsewhere k number seat = by (same_seat (seat_in k number seat.field) seat) refl
  where
    by : (b : Bool) → same_seat (seat_in k number seat.field) seat ≡ b → IsOwn k number seat ⊎ IsElsewhere k number seat
    by true e = inl (record { field = seat.field; is = sym ((seat_Decides (seat_in k number seat.field) seat).0 e) })
    by false e =
        inr (λ field. fails (same_seat (seat_in k number field) seat)
        (λ same. let is : seat_in k number field ≡ seat = (seat_Decides (seat_in k number field) seat).0 same in
        false≢true (sym e ∙ subst (λ (n : ℕ). same_seat (seat_in k number n) seat ≡ true) (ap (λ (s : Seat). s.field) is) same)))

-- a place of a class and a key
abbrev own_place : Class → Key → ℕ → Place
own_place k key field = record { class = k; key = key; field = field }

all_three : (a b c : Bool) → (a && b) ≡ true → c ≡ true → ((a && b) && c) ≡ true
all_three true true true e f = refl
all_three true true false e f = f
all_three true false c e f = cc
all_three false b c e f = cc

not_three : (a b c : Bool) → (a && b) ≡ false → ((a && b) && c) ≡ false
not_three true true c e = cc
not_three true false c e = refl
not_three false b c e = refl

module _ (keys : KeyLists) (a : Arrival) (s : State) (number : ℕ) (of : IsNumberOf same_key (keys_in a.class keys) a.key number) (order : AreOrdered s) where
  own_seat : (j : ℕ) → seat_of keys (own_place a.class a.key j) ≡ seat_in a.class number j
  own_seat j = ap (λ (n : ℕ). seat_in a.class n j) (sym of.is)

  -- the place is one of the record's
  its_place : (q : Place) → is_committed a q.class q.key ≡ true → own_place a.class a.key q.field ≡ q
  its_place q e = place_is (own_place a.class a.key q.field) q (all_three (same_class a.class q.class) (same_key a.key q.key) (q.field == q.field) e ((unsigned_Decides q.field q.field).1 refl))

  -- the seat of another place is elsewhere
  elsewhere : (q : Place) → is_committed a q.class q.key ≡ false → IsElsewhere a.class number (seat_of keys q)
  elsewhere q e field =
      ap (λ (t : Seat). same_seat t (seat_of keys q)) (sym (own_seat field)) ∙ seat_alike keys (own_place a.class a.key field) q of.known
      ∙ not_three (same_class a.class q.class) (same_key a.key q.key) (field == q.field) e

  -- the field that comes in at a place
  field_then : (j : ℕ) → field_under (own_place a.class a.key j) (placed_in a.class a s) ≡ option_map new_field (slice_get (fields_brought a) j)
  field_then j = ap (option_and_then (field_at j)) (kept_placed a.class a s order) ∙ field_brought a j

  -- what a test of seats says once the record's seats are as its fields are, and others as they were
  module _ (before after : Seat → Bool) (test : Class → KeptField → Bool)
      (own : (j : ℕ) → after (seat_in a.class number j) ≡ option_map_or (test a.class) (option_map new_field (slice_get (fields_brought a) j)) false)
      (others : (seat : Seat) → IsElsewhere a.class number seat → after seat ≡ before seat) where
    at_own : (j : ℕ) → after (seat_in a.class number j) ≡ holds_at test (placed_in a.class a s) (own_place a.class a.key j)
    at_own j = own j ∙ ap (λ (o : Option KeptField). option_map_or (test a.class) o false) (sym (field_then j))

    pub says : (q : Place) → after (seat_of keys q) ≡ (if is_committed a q.class q.key then holds_at test (placed_in a.class a s) q else before (seat_of keys q))
    says q = by (is_committed a q.class q.key) refl
      where
        by : (b : Bool) → is_committed a q.class q.key ≡ b → after (seat_of keys q) ≡ (if b then holds_at test (placed_in a.class a s) q else before (seat_of keys q))
        by true e =
            subst (λ (p : Place). after (seat_of keys p) ≡ holds_at test (placed_in a.class a s) p) (its_place q e) (ap after (own_seat q.field) ∙ at_own q.field)
        by false e = others (seat_of keys q) (elsewhere q e)

-- ---- a test once a record is in its place

placed_holds : (test : Class → KeptField → Bool) (a : Arrival) (s : State) (q : Place) (b : Bool) → is_committed a q.class q.key ≡ b
    → (if b then holds_at test (placed_in a.class a s) q else holds_at test s q) ≡ holds_at test (placed_in a.class a s) q
placed_holds test a s q true e = refl
placed_holds test a s q false e =
    sym (ap (λ (o : Option KeptRecord). option_map_or (test q.class) (option_and_then (field_at q.field) o) false) (others_placed a.class q.class a s q.key refl e))

placed_row : (test : Class → KeptField → Bool) (a : Arrival) (s : State) (q : Place) (after before : Bool)
    → after ≡ (if is_committed a q.class q.key then holds_at test (placed_in a.class a s) q else before) → before ≡ holds_at test s q → after ≡ holds_at test (placed_in a.class a s) q
placed_row test a s q after before new was =
    new ∙ ap (λ (b : Bool). if is_committed a q.class q.key then holds_at test (placed_in a.class a s) q else b) was ∙ placed_holds test a s q (is_committed a q.class q.key) refl

-- ---- the whole

seat_back_number : (keys : KeyLists) → AreDistinct keys → (seat : Seat) → HasKey keys seat → IsNumberOf same_key (keys_in seat.class keys) (key_at (keys_in seat.class keys) seat.number) seat.number
seat_back_number keys distinct seat low = key_numbered (keys_in seat.class keys) seat.number (distinct_by seat.class) low
  where
    distinct_by : (k : Class) → IsDistinct same_key (keys_in k keys)
    distinct_by Authority = distinct.authorities
    distinct_by Bibliographic = distinct.bibliographic

module _ (f g : Transaction) (number : ℕ) (e : Entry) (rows : List FieldRow) (distinct : AreDistinct (keys_of (contents f))) (low : number < length (keys_in e.class (keys_of (contents f))))
    (key : key_at (keys_in e.class (keys_of (contents f))) number ≡ e.key) (is : IsPlaced number e rows f g)
    (rows_are : AreRowsOf e.class (keys_of (contents f)).authorities (fields_brought (arrival_of e)) rows) (forms : FormsKeep f.tables g.tables) (agrees : AgreesWith f.tables (contents f)) where
  abbrev a : Arrival
  a = arrival_of e

  abbrev keys : KeyLists
  keys = keys_of (contents f)

  abbrev before : State
  before = state_in (contents f)

  abbrev now : State
  now = placed_in a.class a before

  pub state_now : state_in (contents g) ≡ now
  state_now = ap (λ (s : Numbered). s.state) is.store ∙ state_placed a number f.store low key

  pub keys_now : g.store.keys ≡ f.store.keys
  keys_now = ap (λ (s : Numbered). s.keys) is.store

  of : IsNumberOf same_key (keys_in e.class keys) e.key number
  of = subst (λ (k : Key). IsNumberOf same_key (keys_in e.class keys) k number) key (seat_back_number keys distinct (seat_in e.class number 0) low)

  -- ---- links

  link_then : (n : ℕ) (j : ℕ) → is_linked n (seen_links (contents g).links) (seat_in e.class number j) ≡ false
  link_then n j = ap (leads_to n) (is.own j).link

  link_stays : (n : ℕ) (seat : Seat) → IsElsewhere e.class number seat → is_linked n (seen_links (contents g).links) seat ≡ is_linked n (seen_links (contents f).links) seat
  link_stays n seat far = ap (leads_to n) (is.others seat far).link

  linked_then : (name : Key) (q : Place) → linked_by keys (seen_links (contents g).links) name q
      ≡ (if is_committed a q.class q.key then holds_at (linked_at name) now q else linked_by keys (seen_links (contents f).links) name q)
  linked_then name q =
      let n = number_of same_key keys.authorities name in
      says keys a before number of agrees.ordered (is_linked n (seen_links (contents f).links)) (is_linked n (seen_links (contents g).links)) (linked_at name)
      (λ j. link_then n j ∙ no_link_own name e.class (slice_get (fields_brought a) j)) (λ seat far. link_stays n seat far) q

  links_fit : LinksFit keys (seen_links (contents g).links)
  links_fit = record { named = λ n seat passes. by n seat passes (own_or_elsewhere e.class number seat); seated = λ n seat passes. at n seat passes (own_or_elsewhere e.class number seat) }
    where
      none : (n : ℕ) (seat : Seat) → is_linked n (seen_links (contents g).links) seat ≡ true → IsOwn e.class number seat → ⊥
      none n seat passes own =
          false≢true (sym (link_then n own.field) ∙ ap (λ (s : Seat). is_linked n (seen_links (contents g).links) s) (sym own.is) ∙ passes)

      by : (n : ℕ) (seat : Seat) → is_linked n (seen_links (contents g).links) seat ≡ true → IsOwn e.class number seat ⊎ IsElsewhere e.class number seat
          → n < length keys.authorities
      by n seat passes (inl own) = absurd (none n seat passes own)
      by n seat passes (inr far) = agrees.links_fit.named n seat (sym (link_stays n seat far) ∙ passes)

      at : (n : ℕ) (seat : Seat) → is_linked n (seen_links (contents g).links) seat ≡ true → IsOwn e.class number seat ⊎ IsElsewhere e.class number seat
          → HasKey keys seat
      at n seat passes (inl own) = absurd (none n seat passes own)
      at n seat passes (inr far) = agrees.links_fit.seated n seat (sym (link_stays n seat far) ∙ passes)

  -- ---- what waits

  wait_stays : (seat : Seat) → IsElsewhere e.class number seat → (contents g).waits seat ≡ (contents f).waits seat
  wait_stays seat far = (is.others seat far).waiting

  own_key_low : (seat : Seat) → IsOwn e.class number seat → HasKey keys seat
  own_key_low seat own = subst (λ (s : Seat). HasKey keys s) (sym own.is) low

  asking_before : (form : Form) (p : Place) → asking_by g.tables.forms keys (seen_waits (contents f).waits) form p ≡ holds_at (asks_at form) before p
  asking_before form p =
      told_stays same_form f.tables.forms g.tables.forms keys keys (λ n s. asks n (seen_waits (contents f).waits) s) agrees.waits_fit.asking forms.forms (keys_keep keys) form p
      ∙ agrees.asking form p

  asking_then : (form : Form) (q : Place) → asking_by g.tables.forms keys (seen_waits (contents g).waits) form q
      ≡ (if is_committed a q.class q.key then holds_at (asks_at form) now q else asking_by g.tables.forms keys (seen_waits (contents f).waits) form q)
  asking_then form q =
      let n = number_of same_form g.tables.forms form in
      says keys a before number of agrees.ordered (asks n (seen_waits (contents f).waits)) (asks n (seen_waits (contents g).waits)) (asks_at form)
      (λ j. asks_own g.tables.forms keys.authorities e.class (slice_get (fields_brought a) j) (row_of_field j rows) ((contents g).waits (seat_in e.class number j)) (rows_are.own j)
      (is.own j).waiting form)
      (λ seat far. ap (asks_form n) (wait_stays seat far)) q

  leading_then : (form : Form) (q : Place) → leading_by g.tables.forms keys (seen_waits (contents g).waits) form q
      ≡ (if is_committed a q.class q.key then holds_at (leads_at form) now q else leading_by g.tables.forms keys (seen_waits (contents f).waits) form q)
  leading_then form q =
      let n = number_of same_form g.tables.forms form in
      says keys a before number of agrees.ordered (leads n (seen_waits (contents f).waits)) (leads n (seen_waits (contents g).waits)) (leads_at form)
      (λ j. leads_own g.tables.forms keys.authorities e.class (slice_get (fields_brought a) j) (row_of_field j rows) ((contents g).waits (seat_in e.class number j)) (rows_are.own j)
      (is.own j).waiting form)
      (λ seat far. ap (leads_form n) (wait_stays seat far)) q

  leading_now : (form : Form) (q : Place) → leading_by g.tables.forms keys (seen_waits (contents g).waits) form q ≡ holds_at (leads_at form) now q
  leading_now form q =
      placed_row (leads_at form) a before q (leading_by g.tables.forms keys (seen_waits (contents g).waits) form q)
      (leading_by g.tables.forms keys (seen_waits (contents f).waits) form q) (leading_then form q)
      (told_stays same_form f.tables.forms g.tables.forms keys keys (λ n s. leads n (seen_waits (contents f).waits) s)
      (within_first (length f.tables.forms) keys (seen_waits (contents f).waits) agrees.waits_fit.asking) forms.forms (keys_keep keys) form q
      ∙ agrees.leading form q)

  naming_then : (name : Key) (q : Place) → is_valid_key name ≡ true → naming_by keys (seen_waits (contents g).waits) name q
      ≡ (if is_committed a q.class q.key then holds_at (waits_for_key name) now q else naming_by keys (seen_waits (contents f).waits) name q)
  naming_then name q valid =
      let n = number_of same_key keys.authorities name in
      says keys a before number of agrees.ordered (names n (seen_waits (contents f).waits)) (names n (seen_waits (contents g).waits)) (waits_for_key name)
      (λ j. names_own g.tables.forms keys.authorities e.class (slice_get (fields_brought a) j) (row_of_field j rows) ((contents g).waits (seat_in e.class number j)) (rows_are.own j)
      (is.own j).waiting name valid)
      (λ seat far. ap (names_key n) (wait_stays seat far)) q

  asks_fit : IsWithin (length g.tables.forms) keys (λ n seat. asks n (seen_waits (contents g).waits) seat)
  asks_fit = record { named = λ n seat passes. by n seat passes (own_or_elsewhere e.class number seat); seated = λ n seat passes. at n seat passes (own_or_elsewhere e.class number seat) }
    where
      was : IsWithin (length g.tables.forms) keys (λ n seat. asks n (seen_waits (contents f).waits) seat)
      was = within_kept same_form f.tables.forms g.tables.forms keys keys (λ n s. asks n (seen_waits (contents f).waits) s) forms.forms (keys_keep keys) agrees.waits_fit.asking

      by : (n : ℕ) (seat : Seat) → asks n (seen_waits (contents g).waits) seat ≡ true → IsOwn e.class number seat ⊎ IsElsewhere e.class number seat
          → n < length g.tables.forms
      by n seat passes (inl own) =
          forms_own g.tables.forms keys.authorities e.class (slice_get (fields_brought a) own.field) (row_of_field own.field rows) ((contents g).waits (seat_in e.class number own.field))
          (rows_are.own own.field) (is.own own.field).waiting n
          (ap (λ (s : Seat). asks n (seen_waits (contents g).waits) s) (sym own.is) ∙ passes)
      by n seat passes (inr far) = was.named n seat (sym (ap (asks_form n) (wait_stays seat far)) ∙ passes)

      at : (n : ℕ) (seat : Seat) → asks n (seen_waits (contents g).waits) seat ≡ true → IsOwn e.class number seat ⊎ IsElsewhere e.class number seat → HasKey keys seat
      at n seat passes (inl own) = own_key_low seat own
      at n seat passes (inr far) = was.seated n seat (sym (ap (asks_form n) (wait_stays seat far)) ∙ passes)

  names_fit : IsWithin (length keys.authorities) keys (λ n seat. names n (seen_waits (contents g).waits) seat)
  names_fit = record { named = λ n seat passes. by n seat passes (own_or_elsewhere e.class number seat); seated = λ n seat passes. at n seat passes (own_or_elsewhere e.class number seat) }
    where
      by : (n : ℕ) (seat : Seat) → names n (seen_waits (contents g).waits) seat ≡ true → IsOwn e.class number seat ⊎ IsElsewhere e.class number seat
          → n < length keys.authorities
      by n seat passes (inl own) =
          keys_own g.tables.forms keys.authorities e.class (slice_get (fields_brought a) own.field) (row_of_field own.field rows) ((contents g).waits (seat_in e.class number own.field))
          (rows_are.own own.field) (is.own own.field).waiting n
          (ap (λ (s : Seat). names n (seen_waits (contents g).waits) s) (sym own.is) ∙ passes)
      by n seat passes (inr far) = agrees.waits_fit.naming.named n seat (sym (ap (names_key n) (wait_stays seat far)) ∙ passes)

      at : (n : ℕ) (seat : Seat) → names n (seen_waits (contents g).waits) seat ≡ true → IsOwn e.class number seat ⊎ IsElsewhere e.class number seat → HasKey keys seat
      at n seat passes (inl own) = own_key_low seat own
      at n seat passes (inr far) = agrees.waits_fit.naming.seated n seat (sym (ap (names_key n) (wait_stays seat far)) ∙ passes)

  -- ---- together

  abbrev old_tables : Tables
  old_tables = record {
    forms = map index_row (linkable_authorities before);
    bare = map index_row (filter is_bare (linkable_authorities before));
    asking = asking_by g.tables.forms keys (seen_waits (contents f).waits);
    naming = naming_by keys (seen_waits (contents f).waits);
    linked = linked_by keys (seen_links (contents f).links);
  }

  abbrev new_tables : Tables
  new_tables = record {
    forms = map index_row (linkable_authorities now);
    bare = map index_row (filter is_bare (linkable_authorities now));
    asking = asking_by g.tables.forms keys (seen_waits (contents g).waits);
    naming = naming_by keys (seen_waits (contents g).waits);
    linked = linked_by keys (seen_links (contents g).links);
  }

  both_agree : Agree new_tables now
  both_agree =
      agree_placed old_tables new_tables a before
      (record { forms = refl; bare = refl; asking = λ form p. asking_before form p; naming = λ name p valid. agrees.naming name p valid; linked = λ name p. agrees.linked name p })
      (record {
        forms = refl;
        bare = refl;
        asking = λ form q. asking_then form q;
        naming = λ name q valid. naming_then name q valid;
        linked = λ name q. linked_then name q;
      })

  pub agrees_placed : AgreesWith g.tables (contents g)
  agrees_placed =
      subst (λ (c : Contents). AgreesWith g.tables c)
      (λ i. record {
        numbered = record { state = sym state_now i; keys = sym keys_now i };
        index = g.tables.index;
        links = (contents g).links;
        waits = (contents g).waits;
      }) (record {
        ordered = ordered_placed a.class a before agrees.ordered;
        told = told_placed e.class number e f g keys before distinct refl agrees.ordered of forms.forms is.index agrees.told;
        links_fit = links_fit;
        waits_fit = record { asking = asks_fit; naming = names_fit };
        linked = λ name q. both_agree.linked name q;
        asking = λ form q. both_agree.asking form q;
        leading = λ form q. leading_now form q;
        naming = λ name q valid. both_agree.naming name q valid;
      })

-- ---- what callers see

pub known_by_number : (class : Class) (s : Numbered) (key : Key) (number : ℕ) → IsNumberOf same_key (keys_in class (key_lists s.keys)) key number → number < length (keys_by class s.keys)
known_by_number class s key number of = subst (λ (l : List Key). number < length l) (keys_alike class s) (low_number (keys_in class (key_lists s.keys)) key number of)

module _ (f g : Transaction) (marked number : ℕ) (e : Entry) (rows : List FieldRow) (sound : IsSound f marked) (of : IsNumberOf same_key (keys_in e.class (linked_view f marked).keys) e.key number)
    (rows_are : AreRowsOf e.class (linked_view f marked).keys.authorities (fields_brought (arrival_of e)) rows) (is : IsPlaced number e rows f g) (goes : GoesOn f g) where
  low : number < length (keys_in e.class (linked_view f marked).keys)
  low = low_number (keys_in e.class (linked_view f marked).keys) e.key number of

  key : key_at (keys_in e.class (linked_view f marked).keys) number ≡ e.key
  key = number_key (keys_in e.class (linked_view f marked).keys) e.key number of

  sound_placed : IsSound g marked
  sound_placed =
      sound_on f g marked goes (ap (λ (s : Numbered). s.keys) is.store) sound
      (agrees_placed f g number e rows sound.distinct low key is rows_are goes.rows sound.now)

  state_placed_to : state_in (contents g) ≡ placed_by e.class (linked_view f marked).state e
  state_placed_to = state_now f g number e rows sound.distinct low key is rows_are goes.rows sound.now

  ahead_placed : IsAhead (linked_view f marked) (linked_view g marked)
  ahead_placed = ahead_turned f g marked sound goes (ap (λ (s : Numbered). s.keys) is.store)

-- how the call leaves the store, of which its caller saw this
pub left_placed : (f g : Transaction) (marked : ℕ) (seen : Linked) → linked_view f marked ≡ seen → IsSound f marked → (number : ℕ) (e : Entry) (rows : List FieldRow)
    → IsNumberOf same_key (keys_in e.class seen.keys) e.key number → AreRowsOf e.class seen.keys.authorities (fields_brought (arrival_of e)) rows → IsPlaced number e rows f g → GoesOn f g
    → IsLeft seen (placed_by e.class seen.state e) g marked
left_placed f g marked seen view sound number e rows of rows_are is goes =
    let number_of_it : IsNumberOf same_key (keys_in e.class (linked_view f marked).keys) e.key number =
    subst (λ (x : Linked). IsNumberOf same_key (keys_in e.class x.keys) e.key number) (sym view) of in
    let rows_of_it : AreRowsOf e.class (linked_view f marked).keys.authorities (fields_brought (arrival_of e)) rows =
    subst (λ (x : Linked). AreRowsOf e.class x.keys.authorities (fields_brought (arrival_of e)) rows) (sym view) rows_are in
    subst (λ (x : Linked). IsLeft x (placed_by e.class x.state e) g marked) view (record {
      sound = sound_placed f g marked number e rows sound number_of_it rows_of_it is goes;
      state_is = state_placed_to f g marked number e rows sound number_of_it rows_of_it is goes;
      ahead = ahead_placed f g marked number e rows sound number_of_it rows_of_it is goes;
    })
