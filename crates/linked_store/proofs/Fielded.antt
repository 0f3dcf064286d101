-- A field exchanged with its rows, as callers see it.
use Rattle.std.proofs.Common.{◌≡◌, ◌∙◌, sym, ap, refl, subst, arith, ℕ, ◌<◌, true, false, List, length, map, Option, Some, None, IsSome, IfSome}
use Rattle.std.specs.Prelude.{nat_eq}
use Rattle.std.specs.Cmp.{unsigned_Decides}
use Rattle.std.specs.List.{AllByRecursion}
use Rattle.std.specs.Option.{option_and_then, option_map_or}
use Rattle.std.proofs.lemmas.Cmp.{eq_by_cmp_equiv}
use Rattle.marc_types.specs.declared.form.Form.{Form}
use Rattle.marc_types.specs.declared.key.Class.{Class}
use Rattle.marc_types.specs.declared.key.Key.{Key}
use Rattle.marc_types.specs.Order.{same_form, same_key, form_cmp_total, key_cmp_total}
use Rattle.numbering.specs.Numbers.{is_known, number_of, Keeps}
use Rattle.numbering.specs.declared.seat.Seat.{Seat}
use Rattle.numbering.proofs.Numberlaws.{alike, number_below}
use Rattle.catalogue_rules.specs.State.{KeptField, KeptRecord, State}
use Rattle.catalogue_rules.specs.Receipt.{kept_under}
use Rattle.catalogue_rules.specs.Store.{StaysFit, StaysRecord, field_at, field_under}
use Rattle.numbered_store.specs.Numbered.{Numbered, SuitsSeat as SuitsByNumber, field_of as field_by_number}
use Rattle.wait_table.specs.Waits.{forms_of, has}
use Rattle.wait_table.specs.declared.waiting.Asked.{Asked}
use Rattle.wait_table.specs.declared.waiting.Asked.TheVariants.{One, Two}
use Rattle.wait_table.specs.declared.waiting.Waiting.{Waiting}
use Rattle.linking_laws.specs.Partway.{IsSteady, swapped}
use mathlib.Core.Bool.{false≢true}
use Rattle.catalogue_tables.specs.Asked.{first_of}
use Rattle.catalogue_tables.specs.Seam.{HasKey, KeyLists, place_at}
use Rattle.catalogue_tables.specs.Waiting.{one_or_two}
use Rattle.catalogue_tables.proofs.Seams.{keeps_then, numbers_alike, numbers_low}
use Rattle.linked_store.specs.Contents.{CanGoBack, Contents, Step}
use Rattle.linked_store.proofs.Going.{can_join}
use Rattle.linked_store.specs.Fielding.{IsLinkNumber, IsRowFor}
use Rattle.linked_store.specs.Transactions.{GoesBack, GoesOn, contents, steps_of}
use Rattle.linked_store.specs.Linked.{IsAhead, IsUnchanged, KeysGrow, Linked, SuitsSeat, field_of, record_at}
use Rattle.linked_store.specs.Sound.{AgreesWith, IsSound, key_lists, keys_of, linked_view, state_in}
use Rattle.linked_store.specs.Turning.{IsLinkOf, IsWaitOf, turned}
use Rattle.linked_store.specs.Turns.{IsTurned, IsWaitingOf}
use Rattle.linked_store.specs.declared.transaction.Transaction.{Transaction}
use Rattle.linked_store.specs.declared.turns.Row.{Row}
use Rattle.linked_store.proofs.Agreed.{agrees_turned, keys_keep, state_turned}
use Rattle.linked_store.proofs.Noted.{forms_same, rows_then, steps_long}
use Rattle.linked_store.proofs.Keyed.{record_there}
use Rattle.linked_store.proofs.Wanting.{leading_one}
use Rattle.linked_store.proofs.Sounding.{mark_stays, now_undone, same_view, sound_on, sound_same, start_stays, steps_undone}

-- ---- links and rows in numbers are those of the field

pub link_of : (keys : List Key) (h : KeptField) (link : Option ℕ) → IsLinkNumber keys h.tie.key link → IsLinkOf keys h link
link_of keys h link is = by h.tie.key link refl is
  where
    nat_low : (n m : ℕ) → nat_eq n m ≡ true → n < length keys → m < length keys
    nat_low n m e low = subst (λ k. k < length keys) ((unsigned_Decides n m).0 e) low

    by : (o : Option Key) (l : Option ℕ) → h.tie.key ≡ o → IsLinkNumber keys o l → IsLinkOf keys h l
    by None None e is = record { leads = λ key. sym (ap (λ (o : Option Key). option_map_or (same_key key) o false) e); low = λ n f. absurd (false≢true f) }
    by None (Some n) e is = absurd is
    by (Some own) None e is = absurd is
    by (Some own) (Some n) e is = record {
      leads = λ key.
          ap (λ (m : ℕ). nat_eq m (number_of same_key keys key)) is.is ∙ alike same_key (eq_by_cmp_equiv key_cmp_total) keys own key is.known
          ∙ (eq_by_cmp_equiv key_cmp_total).symm own key ∙ sym (ap (λ (o : Option Key). option_map_or (same_key key) o false) e);
      low = λ m f. nat_low n m f (subst (λ k. k < length keys) (sym is.is) (number_below same_key keys own is.known));
    }

-- the first form's number comes first
first_numbered : (forms : List Form) (form : Form) (other : Option Form) (asked : Asked) → forms_of asked ≡ map (number_of same_form forms) (one_or_two form other)
    → first_of asked ≡ number_of same_form forms form
first_numbered forms form None (One n) are = cc
first_numbered forms form None (Two n m) are = cc
first_numbered forms form (Some other) (One n) are = cc
first_numbered forms form (Some other) (Two n m) are = cc

first_known : (forms : List Form) (form : Form) (other : Option Form) → AllByRecursion (λ t. is_known same_form forms t ≡ true) (one_or_two form other) → is_known same_form forms form ≡ true
first_known forms form None known = known.0
first_known forms form (Some other) known = known.0

pub wait_of : (forms : List Form) (keys : List Key) (class : Class) (h : KeptField) (row : Option Row) (waiting : Option Waiting) → IsRowFor class h keys row → IsWaitingOf forms row waiting
    → IsWaitOf forms keys class h waiting
wait_of forms keys class h None None wants is = record {
  asks = λ form. wants.asking form;
  leads = λ form. wants.leading form;
  names = λ key valid. wants.naming key valid;
  low_forms = λ n e. absurd (false≢true e);
  low_keys = λ n e. absurd (false≢true e);
}
wait_of forms keys class h None (Some waiting) wants is = absurd is
wait_of forms keys class h (Some row) None wants is = absurd is
wait_of forms keys class h (Some row) (Some waiting) says is = record {
  asks = λ form.
      ap (λ (ns : List ℕ). has ns (number_of same_form forms form)) is.asked.are
      ∙ numbers_alike same_form (eq_by_cmp_equiv form_cmp_total) forms (one_or_two row.form row.other) form is.asked.known ∙ says.wants.asking form;
  leads = λ form.
      ap (λ (m : ℕ). nat_eq m (number_of same_form forms form)) (first_numbered forms row.form row.other waiting.forms is.asked.are)
      ∙ alike same_form (eq_by_cmp_equiv form_cmp_total) forms row.form form (first_known forms row.form row.other is.asked.known)
      ∙ (eq_by_cmp_equiv form_cmp_total).symm row.form form ∙ sym (leading_one form row.form row.other) ∙ says.wants.leading form;
  names = λ key valid.
      ap (λ (ns : List ℕ). has ns (number_of same_key keys key)) (is.keys ∙ says.numbers.are)
      ∙ numbers_alike same_key (eq_by_cmp_equiv key_cmp_total) keys says.named key says.numbers.known ∙ says.wants.naming key valid;
  low_forms = λ n e.
      numbers_low same_form forms (one_or_two row.form row.other) n is.asked.known (sym (ap (λ (ns : List ℕ). has ns n) is.asked.are) ∙ e);
  low_keys = λ n e. numbers_low same_key keys says.named n says.numbers.known (sym (ap (λ (ns : List ℕ). has ns n) (is.keys ∙ says.numbers.are)) ∙ e);
}

-- ---- seats of the store

-- what stands at a seat by its number stands there by its key
pub field_there : (seat : Seat) (s : Numbered) → HasKey (key_lists s.keys) seat → field_by_number seat s ≡ field_under (place_at (key_lists s.keys) seat) s.state
field_there seat s low = ap (option_and_then (field_at seat.field)) (record_there seat.class seat.number s low)

pub suits_number : (seat : Seat) (h : KeptField) (f : Transaction) (marked : ℕ) → SuitsSeat seat h (linked_view f marked) → SuitsByNumber seat h.field f.store
suits_number seat h f marked suits =
    let there = sym (record_there seat.class seat.number f.store suits.known) in
    record {
      stays = subst (λ (o : Option KeptRecord). IfSome o (StaysRecord seat.field h.field)) there suits.stays;
      fits = subst (λ (o : Option KeptRecord). IfSome o (StaysFit seat.field h.field)) there suits.fits;
    }

pub stands_number : (seat : Seat) (h : KeptField) (f : Transaction) (marked : ℕ) → SuitsSeat seat h (linked_view f marked) → IsSome (field_by_number seat f.store)
stands_number seat h f marked suits = subst (λ (o : Option KeptField). IsSome o) (sym (field_there seat f.store suits.known)) suits.stands

some_at : {T : Type 0} (o : Option T) → IsSome o → (x : T) × (o ≡ Some x)
some_at None some = absurd (false≢true some)
some_at (Some x) some = (x, refl)

-- ---- the turn

keys_grow_none : (keys : KeyLists) → KeysGrow keys keys
keys_grow_none keys = record { keep = keys_keep keys; seats = λ seat low. low; places = λ seat low. refl }

pub keys_turned : (seat : Seat) (h : KeptField) (link : Option ℕ) (row : Option Row) (f g : Transaction) → IsTurned seat h link row f g → g.store.keys ≡ f.store.keys
keys_turned seat h link row f g turned = ap (λ (c : Contents). c.numbered.keys) turned.now

pub sound_turned : (seat : Seat) (h : KeptField) (link : Option ℕ) (row : Option Row) (f g : Transaction) (marked : ℕ) → IsSound f marked → SuitsSeat seat h (linked_view f marked)
    → IsLinkNumber (keys_of (contents f)).authorities h.tie.key link → IsRowFor seat.class h (keys_of (contents f)).authorities row → GoesOn f g → IsTurned seat h link row f g → IsSound g marked
sound_turned seat h link row f g marked sound suits is_link is_row goes is =
    let was = some_at (field_of seat (linked_view f marked)) suits.stands in
    sound_on f g marked goes (keys_turned seat h link row f g is) sound
    (subst (λ c. AgreesWith g.tables c) (sym is.now)
    (agrees_turned f.tables g.tables seat was.0 h link is.waiting (contents f) sound.distinct suits.known was.1
    (λ class. subst (λ (o : Option KeptField). IfSome o (λ old. IsSteady old h)) was.1 (suits.steady class)) goes.rows
    (link_of (keys_of (contents f)).authorities h link is_link)
    (wait_of g.tables.forms (keys_of (contents f)).authorities seat.class h row is.waiting is_row is.is) sound.now))

pub state_turned_to : (seat : Seat) (h : KeptField) (link : Option ℕ) (row : Option Row) (f g : Transaction) (marked : ℕ) → SuitsSeat seat h (linked_view f marked) → IsTurned seat h link row f g
    → state_in (contents g) ≡ swapped (place_at (keys_of (contents f)) seat) h (state_in (contents f))
state_turned_to seat h link row f g marked suits is = ap state_in is.now ∙ state_turned seat h f.store suits.known

pub ahead_turned : (f g : Transaction) (marked : ℕ) → IsSound f marked → GoesOn f g → g.store.keys ≡ f.store.keys → IsAhead (linked_view f marked) (linked_view g marked)
ahead_turned f g marked sound goes keys = record {
  keys = subst (λ k. KeysGrow (keys_of (contents f)) (key_lists k)) (sym keys) (keys_grow_none (keys_of (contents f)));
  marked = ap state_in (mark_stays f g marked goes keys sound);
  before = ap state_in (start_stays f g marked goes keys sound);
}

-- the turn was taken back
module _ (f middle g : Transaction) (marked : ℕ) (sound : IsSound f marked) (goes : GoesOn f middle) (back : GoesBack (length (steps_of f)) middle g) where
  pub sound_undone : IsSound g marked
  sound_undone =
      sound_same f g marked (steps_undone f middle g goes back) (now_undone f middle g goes back) sound
      (rows_then f.tables middle.tables g.tables goes.rows (forms_same middle.tables g.tables back.same.forms)) back.rooms

  pub view_undone : linked_view g marked ≡ linked_view f marked
  view_undone = same_view f g marked (steps_undone f middle g goes back) (now_undone f middle g goes back) sound

pub ahead_same : (x y : Linked) → y ≡ x → IsAhead x y
ahead_same x y e = subst (λ z. IsAhead x z) (sym e) (record { keys = keys_grow_none x.keys; marked = refl; before = refl })

-- ---- how a call leaves the store, of which its caller saw this

pub record IsLeft (seen : Linked) (state : State) (g : Transaction) (marked : ℕ) : Type 0 where
  pub sound : IsSound g marked
  pub state_is : state_in (contents g) ≡ state
  pub ahead : IsAhead seen (linked_view g marked)

module _ (f : Transaction) (marked : ℕ) (seen : Linked) (view : linked_view f marked ≡ seen) (sound : IsSound f marked) where
  -- as it was
  pub left_undone : (middle g : Transaction) (position : ℕ) → position ≡ f.log.len → GoesOn f middle → GoesBack position middle g → IsLeft seen seen.state g marked
  left_undone middle g position at goes back =
      let whole : position ≡ length (steps_of f) = omega (arith, at, f.log.ok.0, steps_long f.log.items) in
      let went : GoesBack (length (steps_of f)) middle g = subst (λ n. GoesBack n middle g) whole back in
      let same = view_undone f middle g marked sound goes went in
      record {
        sound = sound_undone f middle g marked sound goes went;
        state_is = ap (λ (x : Linked). x.state) (same ∙ view);
        ahead = subst (λ (x : Linked). IsAhead x (linked_view g marked)) view (ahead_same (linked_view f marked) (linked_view g marked) same);
      }

  -- with the field exchanged
  pub left_turned : (seat : Seat) (h : KeptField) (link : Option ℕ) (row : Option Row) (g : Transaction) → SuitsSeat seat h seen → IsLinkNumber seen.keys.authorities h.tie.key link
      → IsRowFor seat.class h seen.keys.authorities row → GoesOn f g → IsTurned seat h link row f g → IsLeft seen (swapped (place_at seen.keys seat) h seen.state) g marked
  left_turned seat h link row g suits is_link is_row goes is =
      let suits_seat : SuitsSeat seat h (linked_view f marked) = subst (λ (x : Linked). SuitsSeat seat h x) (sym view) suits in
      subst (λ (x : Linked). IsLeft x (swapped (place_at x.keys seat) h x.state) g marked) view (record {
        sound = sound_turned seat h link row f g marked sound suits_seat (subst (λ (x : Linked). IsLinkNumber x.keys.authorities h.tie.key link) (sym view) is_link)
            (subst (λ (x : Linked). IsRowFor seat.class h x.keys.authorities row) (sym view) is_row) goes is;
        state_is = state_turned_to seat h link row f g marked suits_seat is;
        ahead = ahead_turned f g marked sound goes (keys_turned seat h link row f g is);
      })

-- ---- one call after another

keys_grow_then : (a b c : KeyLists) → KeysGrow a b → KeysGrow b c → KeysGrow a c
keys_grow_then a b c first second = record {
  keep = record {
    authorities = keeps_then same_key a.authorities b.authorities c.authorities first.keep.authorities second.keep.authorities;
    bibliographic = keeps_then same_key a.bibliographic b.bibliographic c.bibliographic first.keep.bibliographic second.keep.bibliographic;
  };
  seats = λ seat low. second.seats seat (first.seats seat low);
  places = λ seat low. second.places seat (first.seats seat low) ∙ first.places seat low;
}

pub ahead_then : (a b c : Linked) → IsAhead a b → IsAhead b c → IsAhead a c
ahead_then a b c first second = record {
  keys = keys_grow_then a.keys b.keys c.keys first.keys second.keys;
  marked = second.marked ∙ first.marked;
  before = second.before ∙ first.before;
}

pub unchanged_none : (x : Linked) → IsUnchanged x x
unchanged_none x = record { ahead = ahead_same x x refl; state = refl }

pub unchanged_then : (a b c : Linked) → IsUnchanged a b → IsUnchanged b c → IsUnchanged a c
unchanged_then a b c first second = record { ahead = ahead_then a b c first.ahead second.ahead; state = second.state ∙ first.state }

-- a field that suits a seat suits it once keys have got numbers
pub suits_kept : (seat : Seat) (h : KeptField) (x y : Linked) → IsUnchanged x y → SuitsSeat seat h x → SuitsSeat seat h y
suits_kept seat h x y same suits =
    let place : place_at y.keys seat ≡ place_at x.keys seat = same.ahead.keys.places seat suits.known in
    let field : field_of seat y ≡ field_of seat x = λ i. field_under (place i) (same.state i) in
    let kept : record_at seat.class seat.number y ≡ record_at seat.class seat.number x = λ i. kept_under seat.class (place i).key (same.state i) in
    record {
      known = same.ahead.keys.seats seat suits.known;
      stands = subst (λ (o : Option KeptField). IsSome o) (sym field) suits.stands;
      stays = subst (λ (o : Option KeptRecord). IfSome o (StaysRecord seat.field h.field)) (sym kept) suits.stays;
      fits = subst (λ (o : Option KeptRecord). IfSome o (StaysFit seat.field h.field)) (sym kept) suits.fits;
      steady = λ e. subst (λ (o : Option KeptField). IfSome o (λ old. IsSteady old h)) (sym field) (suits.steady e);
      whole = suits.whole;
    }

link_kept : (old new : List Key) (o : Option Key) (l : Option ℕ) → Keeps same_key old new → IsLinkNumber old o l → IsLinkNumber new o l
link_kept old new None None keeps is = tt
link_kept old new None (Some n) keeps is = is
link_kept old new (Some key) None keeps is = is
link_kept old new (Some key) (Some n) keeps is = record { known = keeps.known key is.known; is = is.is ∙ sym (keeps.same_number key is.known) }

pub link_still : (x y : Linked) (o : Option Key) (l : Option ℕ) → IsUnchanged x y → IsLinkNumber x.keys.authorities o l → IsLinkNumber y.keys.authorities o l
link_still x y o l same is = link_kept x.keys.authorities y.keys.authorities o l same.ahead.keys.keep.authorities is

pub state_then : (seat : Seat) (h : KeptField) (x y z : Linked) → IsUnchanged x y → HasKey x.keys seat → z.state ≡ swapped (place_at y.keys seat) h y.state → z.state ≡ swapped (place_at x.keys seat) h x.state
state_then seat h x y z same low is = is ∙ (λ i. swapped (same.ahead.keys.places seat low i) h (same.state i))

-- the way back goes on
pub can_on : (f g : Transaction) → GoesOn f g → CanGoBack (steps_of f) (contents f) → CanGoBack (steps_of g) (contents g)
can_on f g goes can =
    subst (λ (l : List Step). CanGoBack l (contents g)) (sym goes.steps)
    (can_join (steps_of f) goes.more (contents g) (subst (λ x. CanGoBack (steps_of f) x) (sym goes.back) can) goes.can)
