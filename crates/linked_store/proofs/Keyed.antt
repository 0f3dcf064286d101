-- Keys that get numbers, and what a store without records is.
use Rattle.std.proofs.Common.{◌≡◌, ◌∙◌, sym, ap, refl, subst, ℕ, ◌<◌, ◌≤◌, arith, Bool, true, false, List, [], length, map, Option, Some, None, IsSome, Result, Ok, Err, OnOk, OnErr}
use Rattle.std.specs.Prelude.{find, slice_get}
use Rattle.std.specs.List.{IsDistinct}
use Rattle.std.specs.List.Sorted.{IsStrictlySortedBy}
use Rattle.std.proofs.lemmas.Cmp.{eq_by_cmp_equiv}
use Rattle.marc_types.specs.declared.key.Class.{Class}
use Rattle.marc_types.specs.declared.key.Class.TheVariants.{Authority, Bibliographic}
use Rattle.marc_types.specs.declared.key.Key.{Key}
use Rattle.marc_types.specs.declared.key.Place.{Place}
use Rattle.marc_types.specs.Order.{same_key, key_cmp_total}
use Rattle.numbering.specs.Numbers.{is_known, number_of}
use Rattle.numbering.specs.declared.seat.Seat.{Seat}
use Rattle.numbering.proofs.Numberlaws.{distinct_with, keeps_itself, keeps_with}
use Rattle.catalogue_rules.specs.State.{KeptField, empty_state, rows_of}
use Rattle.catalogue_rules.specs.Receipt.{kept_under}
use Rattle.numbered_store.specs.Numbered.{Grows, Numbered, empty_numbered, keys_in as keys_by, record_at as record_by, with_number}
use Rattle.numbered_store.specs.Rows.{row_under}
use Rattle.numbered_store.proofs.Growing.{grows_by_a_key}
use Rattle.link_table.specs.Links.{Links, no_links}
use Rattle.wait_table.specs.Waits.{Waits, no_waits}
use Rattle.linking_laws.specs.Tables.{asks_at, holds_at, linked_at}
use Rattle.linking_laws.specs.Visits.{waits_for_key}
use mathlib.Core.Bool.{false≢true}
use Rattle.form_index.specs.Order.{key_at}
use Rattle.catalogue_tables.specs.Seam.{AreDistinct, HasKey, IsWithin, KeyLists, KeysKeep, keys_in, place_at}
use Rattle.linked_store.specs.Contents.{CanGoBack, Contents, HaveRooms, Step, apply_back, step_of}
use Rattle.linked_store.specs.Leading.{leads_at}
use Rattle.linked_store.specs.Transactions.{contents, links_in, steps_of, waits_in}
use Rattle.linked_store.specs.Linked.{IsNumber, IsUnchanged, KeysGrow, empty_linked, key_of}
use Rattle.linked_store.specs.Sound.{AgreesWith, IsSound, at_start, key_lists, keys_of, linked_view, state_in}
use Rattle.linked_store.specs.declared.transaction.Transaction.{Transaction}
use Rattle.linked_store.proofs.Agreed.{key_there, keys_alike}
use Rattle.form_index.specs.Forms.{Forms}
use Rattle.form_index.specs.Index.{Indexed, IsInOrder, no_index, row_under as row_in}
use Rattle.entry_record.specs.Authority.{Linkable}
use Rattle.catalogue_rules.specs.Choice.{has_key}
use Rattle.marc_types.specs.declared.form.Form.{Form}
use Rattle.catalogue_tables.specs.Following.{IsRowFor, TellsAuthorities}
use Rattle.catalogue_tables.specs.declared.tables.CatalogueTables.{CatalogueTables}
use Rattle.catalogue_tables.proofs.Followed.{tells_nobody}
use Rattle.linked_store.proofs.Noted.{rows_same}
use Rattle.linked_store.proofs.Sounding.{IsGrown, before_grown, marked_grown}

-- ---- one key gets a number

pub record GrowsBy (old new : Numbered) : Type 0 where
  pub grows : Grows old new
  pub keep : KeysKeep (key_lists old.keys) (key_lists new.keys)
  pub distinct : AreDistinct (key_lists old.keys) → AreDistinct (key_lists new.keys)

grows_none : (s : Numbered) → GrowsBy s s
grows_none s = record {
  grows = record { state = refl; longer = λ c n low. low; same_key = λ c n low. refl };
  keep = record { authorities = keeps_itself same_key s.keys.authorities; bibliographic = keeps_itself same_key s.keys.bibliographic };
  distinct = λ d. d;
}

grows_with : (class : Class) (key : Key) (s : Numbered) → GrowsBy s (with_number class key s)
grows_with Authority key s = record {
  grows = grows_by_a_key Authority key s;
  keep = record { authorities = keeps_with same_key s.keys.authorities key; bibliographic = keeps_itself same_key s.keys.bibliographic };
  distinct = λ d. record { authorities = distinct_with same_key (eq_by_cmp_equiv key_cmp_total) s.keys.authorities key d.authorities; bibliographic = d.bibliographic };
}
grows_with Bibliographic key s = record {
  grows = grows_by_a_key Bibliographic key s;
  keep = record { authorities = keeps_itself same_key s.keys.authorities; bibliographic = keeps_with same_key s.keys.bibliographic key };
  distinct = λ d. record { authorities = d.authorities; bibliographic = distinct_with same_key (eq_by_cmp_equiv key_cmp_total) s.keys.bibliographic key d.bibliographic };
}

pub number_grows : {T E : Type 0} (class : Class) (key : Key) (old new : Numbered) (r : Result T E) → OnOk r (new ≡ with_number class key old) → OnErr r (new ≡ old) → GrowsBy old new
number_grows class key old new (Ok n) ok err = subst (λ s. GrowsBy old s) (sym ok) (grows_with class key old)
number_grows class key old new (Err e) ok err = subst (λ s. GrowsBy old s) (sym err) (grows_none old)

-- ---- seats and their places

long_in : (class : Class) (old new : KeyLists) → KeysKeep old new → length (keys_in class old) ≤ length (keys_in class new)
long_in Authority old new keep = keep.authorities.longer
long_in Bibliographic old new keep = keep.bibliographic.longer

seat_kept : (old new : KeyLists) (seat : Seat) → KeysKeep old new → HasKey old seat → HasKey new seat
seat_kept old new seat keep low = let long = long_in seat.class old new keep in let here : seat.number < length (keys_in seat.class old) = low in omega (arith, long, here)

some_same : {T : Type 0} (x y : T) → Some x ≡ Some y → x ≡ y
some_same x y e = cc

place_kept : (old new : Numbered) (seat : Seat) → Grows old new → KeysKeep (key_lists old.keys) (key_lists new.keys) → HasKey (key_lists old.keys) seat
    → place_at (key_lists new.keys) seat ≡ place_at (key_lists old.keys) seat
place_kept old new seat grows keep low =
    let first = key_there (keys_in seat.class (key_lists old.keys)) seat.number low in
    let second = key_there (keys_in seat.class (key_lists new.keys)) seat.number (seat_kept (key_lists old.keys) (key_lists new.keys) seat keep low) in
    let number : seat.number < length (keys_by seat.class old.keys) = subst (λ (l : List Key). seat.number < length l) (keys_alike seat.class old) low in
    let same : slice_get (keys_in seat.class (key_lists new.keys)) seat.number ≡ slice_get (keys_in seat.class (key_lists old.keys)) seat.number =
    ap (λ (l : List Key). slice_get l seat.number) (keys_alike seat.class new) ∙ grows.same_key seat.class seat.number number
    ∙ sym (ap (λ (l : List Key). slice_get l seat.number) (keys_alike seat.class old)) in
    let key : key_at (keys_in seat.class (key_lists new.keys)) seat.number ≡ key_at (keys_in seat.class (key_lists old.keys)) seat.number = some_same _ _ (sym second ∙ same ∙ first) in
    λ i. record { class = seat.class; key = key i; field = seat.field }

pub keys_grow : (old new : Numbered) → Grows old new → KeysKeep (key_lists old.keys) (key_lists new.keys) → KeysGrow (key_lists old.keys) (key_lists new.keys)
keys_grow old new grows keep = record {
  keep = keep;
  seats = λ seat low. seat_kept (key_lists old.keys) (key_lists new.keys) seat keep low;
  places = λ seat low. place_kept old new seat grows keep low;
}

-- a record under a number is the one under its key
pub record_there : (class : Class) (number : ℕ) (s : Numbered) → IsNumber class number (key_lists s.keys)
    → record_by class number s ≡ kept_under class (key_of class number (key_lists s.keys)) s.state
record_there class number s low =
    ap (λ k. row_under k (rows_of class s.state)) (ap (λ (l : List Key). slice_get l number) (sym (keys_alike class s)) ∙ key_there (keys_in class (key_lists s.keys)) number low)

-- ---- nothing yet

abbrev pub nothing : Contents
nothing = record { numbered = empty_numbered; index = no_index; links = λ s. None; waits = λ s. None }

holds_nowhere : (test : Class → KeptField → Bool) (p : Place) → false ≡ holds_at test empty_state p
holds_nowhere test p = by p.class p.key p.field
  where
    by : (c : Class) (k : Key) (i : ℕ) → false ≡ holds_at test empty_state (record { class = c; key = k; field = i })
    by Authority k i = refl
    by Bibliographic k i = refl

within_none : (names : ℕ) (keys : KeyLists) → IsWithin names keys (λ n s. false)
within_none names keys = record { named = λ n s e. absurd (false≢true e); seated = λ n s e. absurd (false≢true e) }

agrees_nothing : (tables : CatalogueTables) → IsInOrder [] no_index → AgreesWith tables nothing
unfolding IsStrictlySortedBy
agrees_nothing tables order = record {
  ordered = record { authorities = tt; bibliographic = tt };
  told = tells_nobody tables.forms [] no_index refl order;
  links_fit = within_none 0 (keys_of nothing);
  waits_fit = record { asking = within_none (length tables.forms) (keys_of nothing); naming = within_none 0 (keys_of nothing) };
  linked = λ key p. holds_nowhere (linked_at key) p;
  asking = λ form p. holds_nowhere (asks_at form) p;
  leading = λ form p. holds_nowhere (leads_at form) p;
  naming = λ key p valid. holds_nowhere (waits_for_key key) p;
}

module _ (f : Transaction) (store : f.store ≡ empty_numbered) (links : links_in f.tables ≡ no_links) (waits : waits_in f.tables ≡ no_waits) (log : f.log.items ≡ []) (index : f.tables.index ≡ no_index) (order : (keys : List Key) → IsInOrder keys f.tables.index) where
  contents_none : contents f ≡ nothing
  contents_none = λ i. record { numbered = store i; index = index i; links = (links i).key_of; waits = (waits i).waiting }

  steps_none : steps_of f ≡ []
  steps_none = ap (map step_of) log

  start_none : at_start f ≡ nothing
  start_none = ap (λ (l : List Step). apply_back l (contents f)) steps_none ∙ contents_none

  rooms_none : HaveRooms [] no_links no_waits
  rooms_none = record { links = λ s. omega arith; keys = λ n s. omega arith; waits = λ s. omega arith; forms = λ n s. omega arith; names = λ n s. omega arith }

  pub sound_none : IsSound f 0
  unfolding IsDistinct
  sound_none = record {
    distinct = subst (λ (s : Numbered). AreDistinct (key_lists s.keys)) (sym store) (record { authorities = tt; bibliographic = tt });
    low = omega arith;
    can = subst (λ (l : List Step). CanGoBack l (contents f)) (sym steps_none) tt;
    rooms =
        subst (λ (l : List Step). HaveRooms l (links_in f.tables) (waits_in f.tables)) (sym steps_none)
        (subst (λ (l : Links). HaveRooms [] l (waits_in f.tables)) (sym links) (subst (λ (w : Waits). HaveRooms [] no_links w) (sym waits) rooms_none));
    now = subst (λ c. AgreesWith f.tables c) (sym contents_none) (agrees_nothing f.tables (subst (IsInOrder []) index (order [])));
    mark = subst (λ c. AgreesWith f.tables c) (sym start_none) (agrees_nothing f.tables (subst (IsInOrder []) index (order [])));
    start = subst (λ c. AgreesWith f.tables c) (sym start_none) (agrees_nothing f.tables (subst (IsInOrder []) index (order [])));
  }

  pub view_none : linked_view f 0 ≡ empty_linked
  view_none = λ i. record {
    state = state_in (contents_none i);
    keys = keys_of (contents_none i);
    marked = state_in (start_none i);
    before = state_in (start_none i);
  }

-- ---- a number is given

-- what the store's growth is to the transaction
pub transaction_grown : (f g : Transaction) → AreDistinct (key_lists f.store.keys) → GrowsBy f.store g.store → g.tables ≡ f.tables → g.log.items ≡ f.log.items → IsGrown f g
transaction_grown f g distinct by tables log = record {
  grows = record { numbered = by.grows; keep = by.keep.authorities; distinct = distinct.authorities; index = ap (λ t. t.index) tables; links = ap (λ t. (links_in t).key_of) tables; waits = ap (λ t. (waits_in t).waiting) tables };
  keep = by.keep;
  distinct = by.distinct distinct;
  rows = rows_same f.tables g.tables tables;
  steps = ap (map step_of) log;
  rooms = λ r.
      subst (λ (l : List Step). HaveRooms l (links_in g.tables) (waits_in g.tables)) (sym (ap (map step_of) log))
      (subst (λ t. HaveRooms (steps_of f) (links_in t) (waits_in t)) (sym tables) r);
}

-- nothing is as it was but the numbers
pub view_unchanged : (f g : Transaction) (marked : ℕ) → IsGrown f g → IsSound f marked → IsUnchanged (linked_view f marked) (linked_view g marked)
view_unchanged f g marked grown sound = record {
  ahead = record {
    keys = keys_grow f.store g.store grown.grows.numbered grown.keep;
    marked = marked_grown f g marked grown sound;
    before = before_grown f g marked grown sound;
  };
  state = grown.grows.numbered.state;
}

-- ---- authorities

no_row_for : (names : List Form) (o : Option Linkable) (row : Option Forms) → IsRowFor names o row → row ≡ None → IsSome o → ⊥
no_row_for names (Some c) (Some row) is none some = cc
no_row_for names (Some c) None is none some = is
no_row_for names None row is none some = absurd (false≢true some)

-- an authority that can be linked to has a row, and so its key has a number
pub known_authority : (names : List Form) (keys : List Key) (x : Indexed) (all : List Linkable) (key : Key) → TellsAuthorities names keys x all → IsSome (find (has_key key) all)
    → is_known same_key keys key ≡ true
known_authority names keys x all key tells some = by (is_known same_key keys key) refl
  where
    by : (b : Bool) → is_known same_key keys key ≡ b → is_known same_key keys key ≡ true
    by true e = e
    by false e =
        absurd (no_row_for names (find (has_key key) all) (row_in (number_of same_key keys key) x) (tells.each key)
        (tells.given (number_of same_key keys key) ((keeps_itself same_key keys).new_number key e)) some)
