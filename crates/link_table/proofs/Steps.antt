-- What each change of the parts is to a caller.
use Rattle.std.proofs.Common.{◌≡◌, ◌∙◌, sym, ap, refl, subst, ℕ, ◌-◌, ◌≤◌, arith, Option, Some, None, Bool, true, false, nat_eq}
use Rattle.std.specs.Prelude.{if◌then◌else◌}
use Rattle.std.specs.Cmp.{unsigned_Decides}
use Rattle.numbering.specs.declared.seat.Seat.{Seat}
use Rattle.numbering.specs.Seats.{same_seat, seat_Decides}
use Rattle.postings.specs.Slots.{standing, put}
use Rattle.postings.specs.Counts.{once}
use Rattle.postings.proofs.Rows.{itself, itself_one, put_here, put_again, there_and_back, more_than, took_left, came_left, came_sound, went_left, went_sound}
use Rattle.link_table.specs.declared.link.Link.{Link}
use Rattle.link_table.specs.Links.{Links, with_key, more_taken, less_taken, with_row_taken, with_row_back, leads_to, row_of, IsTaken}
use Rattle.link_table.specs.Sound.{LinksAgree, seen, leading}

once_itself : (link : Link) → ◌≡◌ {A = ℕ} (once nat_eq same_seat link.number link.seat link.number link.seat) 1
once_itself link =
    ap (λ b. if b then (if nat_eq link.number link.number then 1 else 0) else 0) (itself seat_Decides link.seat)
    ∙ itself_one unsigned_Decides link.number

one_le : (b : Bool) (n : ℕ) → (b ≡ true → 1 ≤ n) → (if b then 1 else 0) ≤ n
one_le true n h = h refl
one_le false n h = omega arith

module _ {row : Seat → Option ℕ} {rooms : Seat → ℕ} {times : ℕ → Seat → ℕ} (sound : LinksAgree row rooms times) (link : Link) where
  -- what is taken under the link's own number is enough for any
  taken_under : IsTaken link (seen row rooms times) → (number : ℕ) → leading number (Some link.number) ≤ times number link.seat - leading number (row link.seat)
  taken_under taken number =
      one_le (nat_eq link.number number) (times number link.seat - leading number (row link.seat))
      (λ same. subst (λ n. 1 ≤ times n link.seat - leading n (row link.seat)) ((unsigned_Decides link.number number).0 same) taken.from)

  -- the row leaves its slot
  pub took : {row' : Seat → Option ℕ} {rooms' : Seat → ℕ} → row link.seat ≡ Some link.number → ((seat : Seat) → row' seat ≡ put same_seat link.seat None row seat)
      → ((seat : Seat) → rooms' seat ≡ rooms seat) → seen row' rooms' times ≡ with_row_taken link (seen row rooms times)
  took was rows room = λ i. record {
    key_of = λ seat. rows seat i;
    taken = λ seat. took_left seat_Decides standing refl link.seat link.number row rooms sound.roomy was rows room seat i;
    taken_from = λ number seat. took_left seat_Decides (leading number) refl link.seat link.number row (times number) (sound.counted number) was rows (λ s. refl) seat i;
  }

  -- the row comes into its free slot
  pub came : {row' : Seat → Option ℕ} {rooms' : Seat → ℕ} → row link.seat ≡ None → ((seat : Seat) → row' seat ≡ put same_seat link.seat (Some link.number) row seat)
      → ((seat : Seat) → rooms' seat ≡ rooms seat) → seen row' rooms' times ≡ with_row_back link (seen row rooms times)
  came free rows room = λ i. record {
    key_of = λ seat. rows seat i;
    taken = λ seat. came_left seat_Decides standing refl link.seat link.number row rooms free rows room seat i;
    taken_from = λ number seat. came_left seat_Decides (leading number) refl link.seat link.number row (times number) free rows (λ s. refl) seat i;
  }

  pub back_sound : {row' : Seat → Option ℕ} {rooms' : Seat → ℕ} → IsTaken link (seen row rooms times) → row link.seat ≡ None
      → ((seat : Seat) → row' seat ≡ put same_seat link.seat (Some link.number) row seat) → ((seat : Seat) → rooms' seat ≡ rooms seat) → LinksAgree row' rooms' times
  back_sound taken free rows room = record {
    roomy = came_sound seat_Decides standing refl link.seat link.number row rooms sound.roomy taken.room free rows room;
    counted = λ number. came_sound seat_Decides (leading number) refl link.seat link.number row (times number) (sound.counted number) (taken_under taken number) free rows (λ s. refl);
  }

  -- a row that is taken is let go
  pub went : {row' : Seat → Option ℕ} {rooms' : Seat → ℕ} {times' : ℕ → Seat → ℕ} → ((seat : Seat) → row' seat ≡ row seat)
      → ((seat : Seat) → rooms' seat ≡ rooms seat - (if same_seat link.seat seat then 1 else 0))
      → ((number : ℕ) (seat : Seat) → times' number seat ≡ times number seat - once nat_eq same_seat link.number link.seat number seat)
      → seen row' rooms' times' ≡ less_taken link (seen row rooms times)
  went rows room fewer = λ i. record {
    key_of = λ seat. rows seat i;
    taken = λ seat. went_left seat_Decides standing refl link.seat link.number row rooms rows room seat i;
    taken_from = λ number seat. went_left seat_Decides (leading number) refl link.seat link.number row (times number) rows (fewer number) seat i;
  }

  pub gone_sound : {row' : Seat → Option ℕ} {rooms' : Seat → ℕ} {times' : ℕ → Seat → ℕ} → IsTaken link (seen row rooms times) → ((seat : Seat) → row' seat ≡ row seat)
      → ((seat : Seat) → rooms' seat ≡ rooms seat - (if same_seat link.seat seat then 1 else 0))
      → ((number : ℕ) (seat : Seat) → times' number seat ≡ times number seat - once nat_eq same_seat link.number link.seat number seat) → LinksAgree row' rooms' times'
  gone_sound taken rows room fewer = record {
    roomy = went_sound seat_Decides standing refl link.seat link.number row rooms sound.roomy taken.room rows room;
    counted = λ number. went_sound seat_Decides (leading number) refl link.seat link.number row (times number) (sound.counted number) (taken_under taken number) rows (fewer number);
  }

-- what leads there is counted
module _ {row : Seat → Option ℕ} {rooms : Seat → ℕ} {times : ℕ → Seat → ℕ} (sound : LinksAgree row rooms times) where
  pub counted_once : (number : ℕ) (seat : Seat) → leads_to number (row seat) ≡ true → 1 ≤ times number seat
  counted_once number seat e = let one : ◌≡◌ {A = ℕ} (leading number (row seat)) 1 = ap (λ b. if b then 1 else 0) e in let low = sound.counted number seat in omega arith

-- what holds of any view
module _ (link : Link) (links : Links) where
  pub taken_more : (after : Links) → after ≡ more_taken link links → IsTaken link after
  taken_more after e = subst (λ l. IsTaken link l) (sym e) (record {
    room = more_than (links.taken link.seat) _ 1 (itself_one seat_Decides link.seat);
    from = more_than (links.taken_from link.number link.seat) _ 1 (once_itself link);
  })

  pub taken_now : (after : Links) → after ≡ with_row_taken link links → IsTaken link after
  taken_now after e = subst (λ l. IsTaken link l) (sym e) (record {
    room = (taken_more (more_taken link links) refl).room;
    from = (taken_more (more_taken link links) refl).from;
  })

  -- what was taken and is put back at once is as it was
  pub back_taken : links.key_of link.seat ≡ Some link.number → with_row_back link (with_row_taken link links) ≡ links
  back_taken was = λ i. record {
    key_of = λ seat. put_again seat_Decides link.seat (Some link.number) None links.key_of was seat i;
    taken = λ seat. there_and_back (links.taken seat) (if same_seat link.seat seat then 1 else 0) i;
    taken_from = λ number seat. there_and_back (links.taken_from number seat) (once nat_eq same_seat link.number link.seat number seat) i;
  }

  -- a row that is counted as taken and put in at once is there
  pub back_more : (after : Links) → after ≡ more_taken link links → with_row_back link after ≡ with_key link.seat (Some link.number) links
  back_more after e = ap (with_row_back link) e ∙ (λ i. record {
    key_of = λ seat. if same_seat link.seat seat then Some link.number else links.key_of seat;
    taken = λ seat. there_and_back (links.taken seat) (if same_seat link.seat seat then 1 else 0) i;
    taken_from = λ number seat. there_and_back (links.taken_from number seat) (once nat_eq same_seat link.number link.seat number seat) i;
  })

  -- what was added comes out
  pub comes_out : (after : Links) → after ≡ with_key link.seat (Some link.number) links → row_of link.seat (after.key_of link.seat) ≡ Some link
  comes_out after e = ap (λ l. row_of link.seat (l.key_of link.seat)) e ∙ ap (row_of link.seat) (put_here seat_Decides link.seat (Some link.number) links.key_of)

  -- a row that comes, is taken and is let go leaves nothing
  pub came_and_went : links.key_of link.seat ≡ None → less_taken link (with_row_taken link (with_key link.seat (Some link.number) links)) ≡ links
  came_and_went free = λ i. record {
    key_of = λ seat. put_again seat_Decides link.seat None (Some link.number) links.key_of free seat i;
    taken = λ seat. there_and_back (links.taken seat) (if same_seat link.seat seat then 1 else 0) i;
    taken_from = λ number seat. there_and_back (links.taken_from number seat) (once nat_eq same_seat link.number link.seat number seat) i;
  }

-- parts that are alike at each seat look the same
pub seen_as : {row row' : Seat → Option ℕ} {rooms rooms' : Seat → ℕ} (times : ℕ → Seat → ℕ) → ((seat : Seat) → row' seat ≡ row seat) → ((seat : Seat) → rooms' seat ≡ rooms seat)
    → seen row' rooms' times ≡ seen row rooms times
seen_as times rows room = λ i. seen (λ seat. rows seat i) (λ seat. room seat i) times
