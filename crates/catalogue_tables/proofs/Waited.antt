-- What the waiting table tells of places.
use Rattle.std.proofs.Common.{◌≡◌, ◌∙◌, sym, ap, refl, ℕ, List, [], ◌∷◌, length, Bool, true, false, cond, Option, Some, None, IfSome}
use Rattle.std.specs.Prelude.{◌&&◌, ◌||◌, if◌then◌else◌}
use Rattle.std.specs.List.{IsDistinct, list_any}
use Rattle.std.specs.Borrow.{Bor}
use Rattle.std.specs.Cmp.{IsEquivalence}
use Rattle.std.proofs.lemmas.Cmp.{eq_by_cmp_equiv}
use Rattle.marc_types.specs.declared.form.Form.{Form}
use Rattle.marc_types.specs.declared.key.Key.{Key}
use Rattle.marc_types.specs.declared.key.Place.{Place}
use Rattle.marc_types.specs.Order.{same_form, same_key, key_cmp_total, form_cmp_total}
use Rattle.numbering.specs.Numbers.{is_known, number_of, IsNumberOf, Keeps}
use Rattle.numbering.specs.Seats.{same_seat}
use Rattle.numbering.specs.declared.seat.Seat.{Seat}
use Rattle.wait_table.specs.Waits.{Waits, IsTaken, asks, asks_form, names, names_key, forms_of, has, with_row_back, with_row_taken, with_waiting}
use Rattle.wait_table.specs.declared.waiting.Asked.{Asked}
use Rattle.wait_table.specs.declared.waiting.Waiting.{Waiting}
use Rattle.wait_table.specs.declared.waiting.WaitRow.{WaitRow}
use Rattle.postings.specs.Listed.{ListsEach}
use Rattle.linking_laws.specs.Partway.{same_place}
use Rattle.catalogue_tables.specs.Lent.{shown_forms}
use Rattle.catalogue_tables.specs.Seam.{HasKey, IsRenumbered, KeyLists, seat_of}
use Rattle.catalogue_tables.specs.Waiting.{AddsWait, AreNumbersOf, PutsWaitBack, TakesWait, TellsNoWait, TellsWait, WaitsFit, asking_by, asks_known, naming_by, waits_for}
use Rattle.catalogue_tables.proofs.Seams.{low_in, numbers_alike, told_step, unnamed, within_less, within_step}
use Rattle.numbering.proofs.Numberlaws.{keeps_itself}

asks_cond : (n : ℕ) (b : Bool) (x y : Option Waiting) → asks_form n (cond b x y) ≡ cond b (asks_form n x) (asks_form n y)
asks_cond n true x y = refl
asks_cond n false x y = refl

names_cond : (n : ℕ) (b : Bool) (x y : Option Waiting) → names_key n (cond b x y) ≡ cond b (names_key n x) (names_key n y)
names_cond n true x y = refl
names_cond n false x y = refl

abbrev Sets : Seat → Option Waiting → Waits → Waits → Type 0
Sets one to old new = (seat : Seat) → new.waiting seat ≡ (if same_seat one seat then to else old.waiting seat)

asking_set : (one : Seat) (to : Option Waiting) (old new : Waits) → Sets one to old new
    → IsRenumbered one (λ n. asks_form n to) (λ n seat. asks n old seat) (λ n seat. asks n new seat)
asking_set one to old new sets n seat = ap (asks_form n) (sets seat) ∙ asks_cond n (same_seat one seat) to (old.waiting seat)

naming_set : (one : Seat) (to : Option Waiting) (old new : Waits) → Sets one to old new
    → IsRenumbered one (λ n. names_key n to) (λ n seat. names n old seat) (λ n seat. names n new seat)
naming_set one to old new sets n seat = ap (names_key n) (sets seat) ∙ names_cond n (same_seat one seat) to (old.waiting seat)

-- what stands in a list of numbers is what stands in the list of their things
listed_alike : {T : Type 0} (same : T → T → Bool) → IsEquivalence same → (names things : List T) (numbers : List ℕ) (name : T) → AreNumbersOf same names things numbers
    → has numbers (number_of same names name) ≡ list_any (same name) things
listed_alike same laws names things numbers name of =
    ap (λ (ns : List ℕ). has ns (number_of same names name)) of.are ∙ numbers_alike same laws names things name of.known

tells_wait : (row : WaitRow) (old new : Waits) → Sets row.seat (Some row.waiting) old new → TellsWait row old new
tells_wait row old new sets = record {
  asking = λ keys forms asked place at of name q.
      told_step same_form forms keys (λ n seat. asks n old seat) (λ n seat. asks n new seat) (λ n. asks_form n (Some row.waiting)) place row.seat at
      (asking_set row.seat (Some row.waiting) old new sets) name q
      ∙ ap (λ b. cond (same_place place q) b (asking_by forms keys old name q))
      (listed_alike same_form (eq_by_cmp_equiv form_cmp_total) forms asked (forms_of row.waiting.forms) name of);
  naming = λ keys named place at of name q.
      told_step same_key keys.authorities keys (λ n seat. names n old seat) (λ n seat. names n new seat) (λ n. names_key n (Some row.waiting)) place row.seat at
      (naming_set row.seat (Some row.waiting) old new sets) name q
      ∙ ap (λ b. cond (same_place place q) b (naming_by keys old name q))
      (listed_alike same_key (eq_by_cmp_equiv key_cmp_total) keys.authorities named row.waiting.keys name of);
  fits = λ keys forms seated low below fit. record {
    asking = within_step forms keys (λ n seat. asks n old seat) (λ n seat. asks n new seat) (λ n. asks_form n (Some row.waiting)) row.seat
        (asking_set row.seat (Some row.waiting) old new sets) (λ n e. low_in forms (forms_of row.waiting.forms) n low e) seated fit.asking;
    naming = within_step (length keys.authorities) keys (λ n seat. names n old seat) (λ n seat. names n new seat) (λ n. names_key n (Some row.waiting)) row.seat
        (naming_set row.seat (Some row.waiting) old new sets) (λ n e. low_in (length keys.authorities) row.waiting.keys n below e) seated fit.naming;
  };
}

tells_no_wait : (row : WaitRow) (old new : Waits) → Sets row.seat None old new → TellsNoWait row old new
tells_no_wait row old new sets = record {
  asking = λ keys forms place at name q.
      told_step same_form forms keys (λ n seat. asks n old seat) (λ n seat. asks n new seat) (λ n. asks_form n None) place row.seat at
      (asking_set row.seat None old new sets) name q;
  naming = λ keys place at name q.
      told_step same_key keys.authorities keys (λ n seat. names n old seat) (λ n seat. names n new seat) (λ n. names_key n None) place row.seat at
      (naming_set row.seat None old new sets) name q;
  fits = λ keys forms fit. record {
    asking = within_less forms keys (λ n seat. asks n old seat) (λ n seat. asks n new seat) row.seat (asking_set row.seat None old new sets) fit.asking;
    naming = within_less (length keys.authorities) keys (λ n seat. names n old seat) (λ n seat. names n new seat) row.seat (naming_set row.seat None old new sets) fit.naming;
  };
}

pub adds : (known : List Form) (seat : Seat) (forms : Asked) (keys : List ℕ) (asked : List Form) (old new : Waits) → AreNumbersOf same_form known asked (forms_of forms)
    → new ≡ with_waiting seat (Some (record { forms = forms; keys = keys })) old → AddsWait known seat asked keys old new
adds known seat forms keys asked old new of e = record {
  row = record { seat = seat; waiting = record { forms = forms; keys = keys } };
  seat_is = refl;
  asked_are = of;
  keys_are = refl;
  is = e;
  tells = tells_wait (record { seat = seat; waiting = record { forms = forms; keys = keys } }) old new (λ s. ap (λ (w : Waits). w.waiting s) e);
}

takes : (row : WaitRow) (old new : Waits) → new ≡ with_row_taken row old → with_row_back row new ≡ old → IsTaken row new → TakesWait row old new
takes row old new e undone taken = record {
  is = e;
  undone = undone;
  taken = taken;
  tells = tells_no_wait row old new (λ seat. ap (λ (w : Waits). w.waiting seat) e);
}

pub puts_back : (row : WaitRow) (old new : Waits) → new ≡ with_row_back row old → PutsWaitBack row old new
puts_back row old new e = record { is = e; tells = tells_wait row old new (λ seat. ap (λ (w : Waits). w.waiting seat) e) }

pub takes_if : (o : Option WaitRow) (old new : Waits) → IfSome o (λ row. new ≡ with_row_taken row old) → IfSome o (λ row. with_row_back row new ≡ old)
    → IfSome o (λ row. IsTaken row new) → IfSome o (λ row. TakesWait row old new)
takes_if None old new is undone taken = tt
takes_if (Some row) old new is undone taken = takes row old new is undone taken

-- the numbers of one form and of two
pub one_number : (names : List Form) (form : Form) (number : ℕ) → IsNumberOf same_form names form number → AreNumbersOf same_form names (form ∷ []) (number ∷ [])
one_number names form number of = record { known = (of.known, tt); are = ap (λ n. n ∷ []) of.is }

pub two_numbers : (old names : List Form) (form other : Form) (number base : ℕ) → Keeps same_form old names → IsNumberOf same_form old form number
    → IsNumberOf same_form names other base → AreNumbersOf same_form names (form ∷ other ∷ []) (number ∷ base ∷ [])
two_numbers old names form other number base keeps of of_other =
    let is : number ≡ number_of same_form names form = of.is ∙ sym (keeps.same_number form of.known) in
    record {
      known = (keeps.known form of.known, (of_other.known, tt));
      are = ap (λ n. n ∷ base ∷ []) is ∙ ap (λ n. number_of same_form names form ∷ n ∷ []) of_other.is;
    }

-- ---- what waits for one of several forms or for a key

module _ (known : List Form) (keys : KeyLists) (waits : Waits) (fit : WaitsFit (length known) keys waits) where
  asks_told : (form : Form) (place : Place) (b : Bool) → is_known same_form known form ≡ b
      → (b && asks (number_of same_form known form) waits (seat_of keys place)) ≡ asking_by known keys waits form place
  asks_told form place true e = refl
  asks_told form place false e =
      sym (unnamed (length known) keys (λ n seat. asks n waits seat) (number_of same_form known form) (seat_of keys place) fit.asking ((keeps_itself same_form known).new_number form e))

  all_told : (forms : List Form) (place : Place) → list_any (asks_known known waits (seat_of keys place)) forms ≡ list_any (λ form. asking_by known keys waits form place) forms
  all_told [] place = refl
  all_told (form ∷ forms) place =
      ap (λ b. b || list_any (asks_known known waits (seat_of keys place)) forms) (asks_told form place (is_known same_form known form) refl)
      ∙ ap (λ b. asking_by known keys waits form place || b) (all_told forms place)

  pub waits_told : (forms : List Form) (key : Key) (number : ℕ) (place : Place) → number ≡ number_of same_key keys.authorities key
      → waits_for known forms number waits (seat_of keys place) ≡ (list_any (λ form. asking_by known keys waits form place) forms || naming_by keys waits key place)
  waits_told forms key number place is =
      ap (λ b. b || names number waits (seat_of keys place)) (all_told forms place)
      ∙ ap (λ n. list_any (λ form. asking_by known keys waits form place) forms || names n waits (seat_of keys place)) is

-- a seat that waits has a key with a number
module _ (known : List Form) (keys : KeyLists) (waits : Waits) (fit : WaitsFit (length known) keys waits) (seat : Seat) where
  one_seated : (form : Form) (b c : Bool) → asks (number_of same_form known form) waits seat ≡ c → (b && c) ≡ true → HasKey keys seat
  one_seated form true true f g = fit.asking.seated (number_of same_form known form) seat f
  one_seated form true false f g = cc
  one_seated form false c f g = cc

  first_seated : (form : Form) (b r : Bool) → asks_known known waits seat form ≡ b → (r ≡ true → HasKey keys seat) → (b || r) ≡ true → HasKey keys seat
  first_seated form true r f rest g = one_seated form (is_known same_form known form) (asks (number_of same_form known form) waits seat) refl f
  first_seated form false r f rest g = rest g

  any_seated : (forms : List Form) → list_any (asks_known known waits seat) forms ≡ true → HasKey keys seat
  any_seated [] g = cc
  any_seated (form ∷ forms) g = first_seated form (asks_known known waits seat form) (list_any (asks_known known waits seat) forms) refl (any_seated forms) g

  either_seated : (key : ℕ) (b c : Bool) → (b ≡ true → HasKey keys seat) → names key waits seat ≡ c → (b || c) ≡ true → HasKey keys seat
  either_seated key true c f h g = f refl
  either_seated key false c f h g = fit.naming.seated key seat (h ∙ g)

  pub waits_seated : (forms : List Form) (key : ℕ) → waits_for known forms key waits seat ≡ true → HasKey keys seat
  waits_seated forms key g = either_seated key (list_any (asks_known known waits seat) forms) (names key waits seat) (any_seated forms) refl g

-- a test of forms that are lent
pub any_shown : (passes : Form → Bool) (forms : List (Bor Form)) → list_any (λ (form : Bor Form). passes form.now) forms ≡ list_any passes (shown_forms forms)
any_shown passes [] = refl
any_shown passes (form ∷ forms) = ap (λ b. passes form.now || b) (any_shown passes forms)

-- what is noted from no seat on is what waits
pub all_noted : (known forms : List Form) (key : ℕ) (waits : Waits) (start middle found naming : List Seat) → start ≡ [] → IsDistinct same_seat found
    → ((s : Seat) → list_any (same_seat s) middle ≡ (list_any (same_seat s) start || list_any (asks_known known waits s) forms))
    → ((s : Seat) → list_any (same_seat s) found ≡ (list_any (same_seat s) middle || list_any (same_seat s) naming))
    → ListsEach same_seat (λ s. names key waits s) naming → ListsEach same_seat (λ s. waits_for known forms key waits s) found
all_noted known forms key waits start middle found naming none once first second lists = record {
  each = λ s. second s
      ∙ ap (λ b. b || list_any (same_seat s) naming) (first s ∙ ap (λ (l : List Seat). list_any (same_seat s) l || list_any (asks_known known waits s) forms) none)
      ∙ ap (λ b. list_any (asks_known known waits s) forms || b) (lists.each s);
  once = once;
}
