-- What each change of the parts is to a caller.
use Rattle.std.proofs.Common.{◌≡◌, ◌∙◌, sym, ap, refl, subst, ℕ, ◌+◌, ◌-◌, ◌≤◌, arith, List, [], ◌∷◌, Option, Some, None, Bool, true, false, nat_eq}
use Rattle.std.specs.Prelude.{if◌then◌else◌, cond, ◌||◌}
use Rattle.std.proofs.lemmas.List.Sums.{sum_by-cons}
use Rattle.numbering.specs.declared.seat.Seat.{Seat}
use Rattle.numbering.specs.Seats.{same_seat, seat_Decides}
use Rattle.postings.specs.Slots.{standing, put}
use Rattle.postings.specs.Counts.{brought}
use Rattle.postings.proofs.Rows.{itself_one, brought_itself, put_here, put_again, there_and_back, more_than, took_left, came_left, came_sound, went_sound}
use Rattle.wait_table.specs.declared.waiting.Waiting.{Waiting}
use Rattle.wait_table.specs.declared.waiting.WaitRow.{WaitRow}
use Rattle.wait_table.specs.Waits.{Waits, forms_of, times_of, has, asks_form, names_key, with_waiting, more_taken, less_taken, with_row_taken, with_row_back, row_of, IsTaken}
use Rattle.wait_table.specs.Sound.{WaitsAgree, seen, asking, naming}

module _ {row : Seat → Option Waiting} {rooms : Seat → ℕ} {forms keys : ℕ → Seat → ℕ} (sound : WaitsAgree row rooms forms keys) (one : WaitRow) where
  -- the row leaves its slot
  pub took : {row' : Seat → Option Waiting} {rooms' : Seat → ℕ} → row one.seat ≡ Some one.waiting → ((seat : Seat) → row' seat ≡ put same_seat one.seat None row seat)
      → ((seat : Seat) → rooms' seat ≡ rooms seat) → seen row' rooms' forms keys ≡ with_row_taken one (seen row rooms forms keys)
  took was rows room = λ i. record {
    waiting = λ seat. rows seat i;
    taken = λ seat. took_left seat_Decides standing refl one.seat one.waiting row rooms sound.roomy was rows room seat i;
    taken_forms = λ form seat. took_left seat_Decides (asking form) refl one.seat one.waiting row (forms form) (sound.asked form) was rows (λ s. refl) seat i;
    taken_keys = λ key seat. took_left seat_Decides (naming key) refl one.seat one.waiting row (keys key) (sound.named key) was rows (λ s. refl) seat i;
  }

  -- the row comes into its free slot
  pub came : {row' : Seat → Option Waiting} {rooms' : Seat → ℕ} → row one.seat ≡ None → ((seat : Seat) → row' seat ≡ put same_seat one.seat (Some one.waiting) row seat)
      → ((seat : Seat) → rooms' seat ≡ rooms seat) → seen row' rooms' forms keys ≡ with_row_back one (seen row rooms forms keys)
  came free rows room = λ i. record {
    waiting = λ seat. rows seat i;
    taken = λ seat. came_left seat_Decides standing refl one.seat one.waiting row rooms free rows room seat i;
    taken_forms = λ form seat. came_left seat_Decides (asking form) refl one.seat one.waiting row (forms form) free rows (λ s. refl) seat i;
    taken_keys = λ key seat. came_left seat_Decides (naming key) refl one.seat one.waiting row (keys key) free rows (λ s. refl) seat i;
  }

  pub back_sound : {row' : Seat → Option Waiting} {rooms' : Seat → ℕ} → IsTaken one (seen row rooms forms keys) → row one.seat ≡ None
      → ((seat : Seat) → row' seat ≡ put same_seat one.seat (Some one.waiting) row seat) → ((seat : Seat) → rooms' seat ≡ rooms seat) → WaitsAgree row' rooms' forms keys
  back_sound taken free rows room = record {
    roomy = came_sound seat_Decides standing refl one.seat one.waiting row rooms sound.roomy taken.room free rows room;
    asked = λ form. came_sound seat_Decides (asking form) refl one.seat one.waiting row (forms form) (sound.asked form) (taken.forms form) free rows (λ s. refl);
    named = λ key. came_sound seat_Decides (naming key) refl one.seat one.waiting row (keys key) (sound.named key) (taken.keys key) free rows (λ s. refl);
  }

  pub gone_sound : {row' : Seat → Option Waiting} {rooms' : Seat → ℕ} {forms' keys' : ℕ → Seat → ℕ} → IsTaken one (seen row rooms forms keys) → ((seat : Seat) → row' seat ≡ row seat)
      → ((seat : Seat) → rooms' seat ≡ rooms seat - (if same_seat one.seat seat then 1 else 0))
      → ((form : ℕ) (seat : Seat) → forms' form seat ≡ forms form seat - brought nat_eq same_seat (forms_of one.waiting.forms) one.seat form seat)
      → ((key : ℕ) (seat : Seat) → keys' key seat ≡ keys key seat - brought nat_eq same_seat one.waiting.keys one.seat key seat) → WaitsAgree row' rooms' forms' keys'
  gone_sound taken rows room fewer_forms fewer_keys = record {
    roomy = went_sound seat_Decides standing refl one.seat one.waiting row rooms sound.roomy taken.room rows room;
    asked = λ form. went_sound seat_Decides (asking form) refl one.seat one.waiting row (forms form) (sound.asked form) (taken.forms form) rows (fewer_forms form);
    named = λ key. went_sound seat_Decides (naming key) refl one.seat one.waiting row (keys key) (sound.named key) (taken.keys key) rows (fewer_keys key);
  }

-- what holds of any view
module _ (one : WaitRow) (waits : Waits) where
  pub taken_more : (after : Waits) → after ≡ more_taken one waits → IsTaken one after
  taken_more after e = subst (λ w. IsTaken one w) (sym e) (record {
    room = more_than (waits.taken one.seat) _ 1 (itself_one seat_Decides one.seat);
    forms = λ form. more_than (waits.taken_forms form one.seat) _ _ (brought_itself seat_Decides nat_eq (forms_of one.waiting.forms) one.seat form);
    keys = λ key. more_than (waits.taken_keys key one.seat) _ _ (brought_itself seat_Decides nat_eq one.waiting.keys one.seat key);
  })

  pub taken_now : (after : Waits) → after ≡ with_row_taken one waits → IsTaken one after
  taken_now after e = subst (λ w. IsTaken one w) (sym e) (record {
    room = (taken_more (more_taken one waits) refl).room;
    forms = (taken_more (more_taken one waits) refl).forms;
    keys = (taken_more (more_taken one waits) refl).keys;
  })

  -- what was taken and is put back at once is as it was
  pub back_taken : waits.waiting one.seat ≡ Some one.waiting → with_row_back one (with_row_taken one waits) ≡ waits
  back_taken was = λ i. record {
    waiting = λ seat. put_again seat_Decides one.seat (Some one.waiting) None waits.waiting was seat i;
    taken = λ seat. there_and_back (waits.taken seat) (if same_seat one.seat seat then 1 else 0) i;
    taken_forms = λ form seat. there_and_back (waits.taken_forms form seat) (brought nat_eq same_seat (forms_of one.waiting.forms) one.seat form seat) i;
    taken_keys = λ key seat. there_and_back (waits.taken_keys key seat) (brought nat_eq same_seat one.waiting.keys one.seat key seat) i;
  }

  -- a row that is counted as taken and put in at once is there
  pub back_more : (after : Waits) → after ≡ more_taken one waits → with_row_back one after ≡ with_waiting one.seat (Some one.waiting) waits
  back_more after e = ap (with_row_back one) e ∙ (λ i. record {
    waiting = λ seat. if same_seat one.seat seat then Some one.waiting else waits.waiting seat;
    taken = λ seat. there_and_back (waits.taken seat) (if same_seat one.seat seat then 1 else 0) i;
    taken_forms = λ form seat. there_and_back (waits.taken_forms form seat) (brought nat_eq same_seat (forms_of one.waiting.forms) one.seat form seat) i;
    taken_keys = λ key seat. there_and_back (waits.taken_keys key seat) (brought nat_eq same_seat one.waiting.keys one.seat key seat) i;
  })

  -- what was added comes out
  pub comes_out : (after : Waits) → after ≡ with_waiting one.seat (Some one.waiting) waits → row_of one.seat (after.waiting one.seat) ≡ Some one
  comes_out after e = ap (λ w. row_of one.seat (w.waiting one.seat)) e ∙ ap (row_of one.seat) (put_here seat_Decides one.seat (Some one.waiting) waits.waiting)

  -- a row that comes, is taken and is let go leaves nothing
  pub came_and_went : waits.waiting one.seat ≡ None → less_taken one (with_row_taken one (with_waiting one.seat (Some one.waiting) waits)) ≡ waits
  came_and_went free = λ i. record {
    waiting = λ seat. put_again seat_Decides one.seat None (Some one.waiting) waits.waiting free seat i;
    taken = λ seat. there_and_back (waits.taken seat) (if same_seat one.seat seat then 1 else 0) i;
    taken_forms = λ form seat. there_and_back (waits.taken_forms form seat) (brought nat_eq same_seat (forms_of one.waiting.forms) one.seat form seat) i;
    taken_keys = λ key seat. there_and_back (waits.taken_keys key seat) (brought nat_eq same_seat one.waiting.keys one.seat key seat) i;
  }

-- parts that are alike at each seat look the same
pub seen_as : {row row' : Seat → Option Waiting} {rooms rooms' : Seat → ℕ} (forms keys : ℕ → Seat → ℕ) → ((seat : Seat) → row' seat ≡ row seat) → ((seat : Seat) → rooms' seat ≡ rooms seat)
    → seen row' rooms' forms keys ≡ seen row rooms forms keys
seen_as forms keys rows room = λ i. seen (λ seat. rows seat i) (λ seat. room seat i) forms keys

has_by : (b : Bool) (rest : List ℕ) (number : ℕ) → (has rest number ≡ true → 1 ≤ times_of rest number) → (b || has rest number) ≡ true → 1 ≤ cond b 1 0 + times_of rest number
has_by true rest number more h = omega arith
has_by false rest number more h = let low = more h in omega arith

-- what is in a list is counted there
pub has_once : (numbers : List ℕ) (number : ℕ) → has numbers number ≡ true → 1 ≤ times_of numbers number
has_once [] number h = absurd cc
has_once (n ∷ ns) number h =
    subst (λ k. 1 ≤ k) (sym (sum_by-cons (λ m. cond (nat_eq m number) 1 0) n ns)) (has_by (nat_eq n number) ns number (λ g. has_once ns number g) h)

-- what waits is counted
module _ {row : Seat → Option Waiting} {rooms : Seat → ℕ} {forms keys : ℕ → Seat → ℕ} (sound : WaitsAgree row rooms forms keys) where
  pub asked_once : (form : ℕ) (seat : Seat) → asks_form form (row seat) ≡ true → 1 ≤ forms form seat
  asked_once form seat h = by (row seat) (forms form seat) h (sound.asked form seat)
    where
      by : (r : Option Waiting) (n : ℕ) → asks_form form r ≡ true → asking form r ≤ n → 1 ≤ n
      by None n h low = absurd cc
      by (Some waiting) n h low = let once = has_once (forms_of waiting.forms) form h in omega arith

  pub named_once : (key : ℕ) (seat : Seat) → names_key key (row seat) ≡ true → 1 ≤ keys key seat
  named_once key seat h = by (row seat) (keys key seat) h (sound.named key seat)
    where
      by : (r : Option Waiting) (n : ℕ) → names_key key r ≡ true → naming key r ≤ n → 1 ≤ n
      by None n h low = absurd cc
      by (Some waiting) n h low = let once = has_once waiting.keys key h in omega arith
