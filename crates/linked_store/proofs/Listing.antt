-- Seats that the tables list are the places that the state tells.
use Rattle.std.proofs.Common.{◌≡◌, ◌∙◌, sym, ap, refl, subst, arith, ℕ, zero, suc, ◌+◌, ◌<◌, Bool, true, false, ◌||◌, List, [], ◌∷◌, ◌++◌, length, map, take, Option, Some, None}
use Rattle.std.specs.Prelude.{filter, slice_get, ◌&&◌}
use Rattle.std.specs.Borrow.{Bor}
use Rattle.std.specs.Option.{option_copied, option_map, option_map_or, option_to_list}
use Rattle.std.specs.Cmp.{IsEquivalence, decided}
use Rattle.std.specs.List.{AllByRecursion, IsDistinct, list_any}
use Rattle.marc_types.specs.declared.form.Form.{Form}
use Rattle.marc_types.specs.declared.key.Class.{Class}
use Rattle.marc_types.specs.declared.key.Key.{Key}
use Rattle.marc_types.specs.declared.key.Place.{Place}
use Rattle.marc_types.specs.Order.{same_key}
use Rattle.numbering.specs.Numbers.{IsNumberOf}
use Rattle.numbering.specs.Seats.{same_seat, seat_Decides}
use Rattle.numbering.specs.declared.seat.Seat.{Seat}
use Rattle.entry_record.specs.Authority.{is_bare, is_valid_key}
use Rattle.catalogue_rules.specs.State.{KeptField, State, linkable_authorities}
use Rattle.link_table.specs.Links.{is_linked}
use Rattle.wait_table.specs.Waits.{names}
use Rattle.catalogue_rules.specs.Settle.{is_linked_to}
use Rattle.catalogue_rules.specs.Store.{field_under}
use Rattle.postings.specs.Listed.{ListsEach}
use Rattle.linking_laws.specs.Tables.{Agree, Tables, dropped_at, holds_at, index_row, linked_at}
use Rattle.linking_laws.specs.Visits.{waits_for_key}
use Rattle.linking_laws.specs.Waiting.{is_waiting_for}
use Rattle.linking_laws.proofs.Agreeing.{named_by_tables}
use Rattle.form_index.specs.Order.{key_at}
use Rattle.catalogue_tables.specs.Seam.{AreDistinct, HasKey, KeyLists, seat_of}
use Rattle.catalogue_tables.specs.Told.{linked_by}
use Rattle.catalogue_tables.specs.Waiting.{asking_by, naming_by, waits_for}
use Rattle.catalogue_tables.proofs.Seams.{key_numbered, places_listed}
use Rattle.catalogue_tables.proofs.Waited.{waits_seated, waits_told}
use Rattle.catalogue_tables.specs.declared.tables.CatalogueTables.{CatalogueTables}
use Rattle.linked_store.specs.Contents.{Contents}
use Rattle.catalogue_tables.specs.Choosing.{TellsState, chosen_for, heading_choice}
use Rattle.catalogue_tables.specs.declared.choosing.Chosen.{Chosen}
use Rattle.linking_laws.specs.Middle.{AreAuthoritiesInOrder}
use Rattle.linked_store.specs.Linked.{ListsSeats}
use Rattle.linked_store.specs.Sound.{AgreesWith, keys_of, seen_links, seen_waits, state_in}

seat_laws : IsEquivalence same_seat
seat_laws = decided same_seat seat_Decides

later_passes : (b c : Bool) → c ≡ true → (b || c) ≡ true
later_passes true c e = refl
later_passes false c e = e

each_has : (P : Seat → Type 0) (seats : List Seat) → ((s : Seat) → list_any (same_seat s) seats ≡ true → P s) → AllByRecursion P seats
each_has P [] h = tt
each_has P (s ∷ seats) h =
    (h s (ap (λ b. b || list_any (same_seat s) seats) (seat_laws.refl s)), each_has P seats (λ t e. h t (later_passes (same_seat t s) (list_any (same_seat t) seats) e)))

-- seats that are listed by a test, which says of each place what another says
lists_by : (keys : KeyLists) (distinct : AreDistinct keys) (test : Seat → Bool) (other : Place → Bool) (seats : List Seat) → ((s : Seat) → test s ≡ true → HasKey keys s)
    → ((p : Place) → test (seat_of keys p) ≡ other p) → ListsEach same_seat test seats → ListsSeats keys other seats
lists_by keys distinct test other seats keyed same lists =
    let listing = places_listed keys distinct test seats keyed lists in
    record {
      known = each_has (HasKey keys) seats (λ s e. keyed s (sym (lists.each s) ∙ e));
      places = record { members_are = λ p. listing.members_are p ∙ same p; once = listing.once };
    }

module _ (tables : CatalogueTables) (c : Contents) (distinct : AreDistinct (keys_of c)) (agrees : AgreesWith tables c) (number : ℕ) (low : number < length (keys_of c).authorities) where
  own_number : IsNumberOf same_key (keys_of c).authorities (key_at (keys_of c).authorities number) number
  own_number = key_numbered (keys_of c).authorities number distinct.authorities low

  pub lists_linked : (seats : List Seat) → ListsEach same_seat (λ s. is_linked number (seen_links c.links) s) seats
      → ListsSeats (keys_of c) (holds_at (linked_at (key_at (keys_of c).authorities number)) (state_in c)) seats
  lists_linked seats lists =
      lists_by (keys_of c) distinct (λ s. is_linked number (seen_links c.links) s) (holds_at (linked_at (key_at (keys_of c).authorities number)) (state_in c)) seats
      (λ s e. agrees.links_fit.seated number s e)
      (λ p. ap (λ (n : ℕ). is_linked n (seen_links c.links) (seat_of (keys_of c) p)) own_number.is ∙ agrees.linked (key_at (keys_of c).authorities number) p)
      lists

  -- the tables as the laws of linking see them
  told_tables : Tables
  told_tables = record {
    forms = map index_row (linkable_authorities (state_in c));
    bare = map index_row (filter is_bare (linkable_authorities (state_in c)));
    asking = asking_by tables.forms (keys_of c) (seen_waits c.waits);
    naming = naming_by (keys_of c) (seen_waits c.waits);
    linked = linked_by (keys_of c) (seen_links c.links);
  }

  told_agree : Agree told_tables (state_in c)
  unfolding told_tables
  told_agree = record { forms = refl; bare = refl; asking = agrees.asking; naming = agrees.naming; linked = agrees.linked }

  waiting_is : (asked : List Form) (p : Place) → is_valid_key (key_at (keys_of c).authorities number) ≡ true
      → waits_for tables.forms asked number (seen_waits c.waits) (seat_of (keys_of c) p) ≡ holds_at (is_waiting_for asked (key_at (keys_of c).authorities number)) (state_in c) p
  unfolding told_tables
  waiting_is asked p valid =
      waits_told tables.forms (keys_of c) (seen_waits c.waits) agrees.waits_fit asked (key_at (keys_of c).authorities number) number p own_number.is
      ∙ named_by_tables told_tables (state_in c) asked (key_at (keys_of c).authorities number) p valid told_agree

  pub lists_waiting : (asked : List Form) (seats : List Seat) → is_valid_key (key_at (keys_of c).authorities number) ≡ true
      → ListsEach same_seat (λ s. waits_for tables.forms asked number (seen_waits c.waits) s) seats
      → ListsSeats (keys_of c) (holds_at (is_waiting_for asked (key_at (keys_of c).authorities number)) (state_in c)) seats
  lists_waiting asked seats valid lists =
      lists_by (keys_of c) distinct (λ s. waits_for tables.forms asked number (seen_waits c.waits) s) (holds_at (is_waiting_for asked (key_at (keys_of c).authorities number)) (state_in c)) seats
      (λ s e. waits_seated tables.forms (keys_of c) (seen_waits c.waits) agrees.waits_fit s asked number e)
      (λ p. waiting_is asked p valid)
      lists

-- ---- the choice

pub chosen_as : (tables : CatalogueTables) (c : Contents) (class : Class) (h : KeptField) (keys : List Key) (chosen : Option Chosen) → keys ≡ (keys_of c).authorities → AreDistinct (keys_of c) → AgreesWith tables c
    → AreAuthoritiesInOrder (state_in c)
    → ((s : State) → TellsState tables.forms keys c.index s → chosen ≡ option_map (chosen_for keys) (heading_choice (linkable_authorities s) class h))
    → chosen ≡ option_map (chosen_for (keys_of c).authorities) (heading_choice (linkable_authorities (state_in c)) class h)
chosen_as tables c class h keys chosen same distinct agrees order told =
    told (state_in c) (subst (λ (l : List Key). TellsState tables.forms l c.index (state_in c)) (sym same) (record { distinct = distinct.authorities; in_order = order; tells = agrees.told }))
    ∙ ap (λ (l : List Key). option_map (chosen_for l) (heading_choice (linkable_authorities (state_in c)) class h)) same

-- ---- the seats of a numbering, in turn

take_next : (xs : List Seat) (i : ℕ) → i < length xs → take i xs ++ option_to_list (slice_get xs i) ≡ take (suc i) xs
take_next [] i low = absurd (omega (arith, low))
take_next (x ∷ xs) zero low = refl
take_next (x ∷ xs) (suc i) low = ap (λ l. x ∷ l) (take_next xs i (omega (arith, low)))

pub one_taken : (xs seats more : List Seat) (i : ℕ) → i < length xs → seats ≡ take i xs → more ≡ seats ++ option_to_list (slice_get xs i) → more ≡ take (i + 1) xs
one_taken xs seats more i low before pushed =
    let next : suc i ≡ i + 1 = omega arith in
    pushed ∙ ap (λ l. l ++ option_to_list (slice_get xs i)) before ∙ take_next xs i low ∙ ap (λ n. take n xs) next

take_whole : (xs : List Seat) → take (length xs) xs ≡ xs
take_whole [] = refl
take_whole (x ∷ xs) = ap (λ l. x ∷ l) (take_whole xs)

pub all_taken : (xs seats : List Seat) (n : ℕ) → n ≡ length xs → seats ≡ take n xs → seats ≡ xs
all_taken xs seats n is taken = taken ∙ ap (λ m. take m xs) is ∙ take_whole xs

-- ---- what dropping looks at

either_way : (a b : Bool) → (a || b) ≡ (b || (true && a))
either_way true true = refl
either_way true false = refl
either_way false true = refl
either_way false false = refl

no_more : (b : Bool) → b ≡ (b || false)
no_more true = refl
no_more false = refl

either_holds : (key successor : Key) (class : Class) (o : Option KeptField)
    → (option_map_or (waits_for_key key class) o false || option_map_or (linked_at key class) o false) ≡ option_map_or (dropped_at key (Some successor) class) o false
either_holds key successor class None = refl
either_holds key successor class (Some h) = either_way (waits_for_key key class h) (is_linked_to key h)

linked_holds : (key : Key) (class : Class) (o : Option KeptField) → option_map_or (linked_at key class) o false ≡ option_map_or (dropped_at key None class) o false
linked_holds key class None = refl
linked_holds key class (Some h) = no_more (is_linked_to key h)

-- without a successor dropping looks at links alone
pub lists_dropped : (keys : KeyLists) (key : Key) (s : State) (seats : List Seat) → ListsSeats keys (holds_at (linked_at key) s) seats → ListsSeats keys (holds_at (dropped_at key None) s) seats
lists_dropped keys key s seats lists = record {
  known = lists.known;
  places = record { members_are = λ p. lists.places.members_are p ∙ linked_holds key p.class (field_under p s); once = lists.places.once };
}

either_seated : (b c : Bool) (P : Type 0) → (b ≡ true → P) → (c ≡ true → P) → (b || c) ≡ true → P
either_seated true c P f g e = f refl
either_seated false c P f g e = g e

pub lists_either : (tables : CatalogueTables) (c : Contents) → AreDistinct (keys_of c) → AgreesWith tables c → (number : ℕ) → number < length (keys_of c).authorities
    → is_valid_key (key_at (keys_of c).authorities number) ≡ true → (start found linked : List Seat) → IsDistinct same_seat found
    → ListsEach same_seat (λ s. waits_for tables.forms [] number (seen_waits c.waits) s) start → ListsEach same_seat (λ s. is_linked number (seen_links c.links) s) linked
    → ((s : Seat) → list_any (same_seat s) found ≡ (list_any (same_seat s) start || list_any (same_seat s) linked))
    → (successor : Key) → ListsSeats (keys_of c) (holds_at (dropped_at (key_at (keys_of c).authorities number) (Some successor)) (state_in c)) found
lists_either tables c distinct agrees number low valid start found linked once waits links all successor =
    let key = key_at (keys_of c).authorities number in
    let of = key_numbered (keys_of c).authorities number distinct.authorities low in
    lists_by (keys_of c) distinct (λ s. waits_for tables.forms [] number (seen_waits c.waits) s || is_linked number (seen_links c.links) s)
    (holds_at (dropped_at (key_at (keys_of c).authorities number) (Some successor)) (state_in c)) found
    (λ s e.
    either_seated (waits_for tables.forms [] number (seen_waits c.waits) s) (is_linked number (seen_links c.links) s) (HasKey (keys_of c) s)
    (λ f. waits_seated tables.forms (keys_of c) (seen_waits c.waits) agrees.waits_fit s [] number f) (λ f. agrees.links_fit.seated number s f) e)
    (λ p.
    ap (λ (n : ℕ). (false || names n (seen_waits c.waits) (seat_of (keys_of c) p)) || is_linked n (seen_links c.links) (seat_of (keys_of c) p)) of.is
    ∙ ap (λ b. b || linked_by (keys_of c) (seen_links c.links) key p) (agrees.naming key p valid)
    ∙ ap (λ b. holds_at (waits_for_key key) (state_in c) p || b) (agrees.linked key p)
    ∙ either_holds key successor p.class (field_under p (state_in c)))
    (record {
      each = λ s. all s ∙ ap (λ b. b || list_any (same_seat s) linked) (waits.each s) ∙ ap (λ b. waits_for tables.forms [] number (seen_waits c.waits) s || b) (links.each s);
      once = once;
    })

-- what a reference that may be none copies
pub copied_some : (P : Option Key → Type 0) (o : Option (Bor Key)) (x : Bor Key) → o ≡ Some x → ((key : Key) → P (Some key)) → P (option_copied o)
copied_some P o x is all = subst (λ (p : Option (Bor Key)). P (option_copied p)) (sym is) (all x.now)

pub copied_none : (P : Option Key → Type 0) (o : Option (Bor Key)) → o ≡ None → P None → P (option_copied o)
copied_none P o is none = subst (λ (p : Option (Bor Key)). P (option_copied p)) (sym is) none
