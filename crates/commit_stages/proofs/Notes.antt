-- What a stage notes from seat to seat: it begins with nothing, goes on by one seat, and ends with all seats that it changes.
use Rattle.std.proofs.Common.{◌≡◌, ◌∙◌, sym, ap, refl, subst, arith, ℕ, suc, ◌+◌, ◌≤◌, ◌<◌, List, [], ◌∷◌, ◌++◌, map, length, take, drop, get_or, Option, Some, None, Bool, true, false}
use Rattle.std.specs.Prelude.{◌||◌, ◌&&◌, not, if◌then◌else◌}
use Rattle.std.specs.Cmp.{IsEquivalence, decided}
use Rattle.std.specs.List.{AllByRecursion, list_any}
use Rattle.std.specs.Option.{option_map_or}
use Rattle.std.proofs.lemmas.List.{take_all}
use Rattle.std.proofs.lemmas.List.Folds.{list_any-append}
use Rattle.marc_types.specs.declared.key.Class.{Class}
use Rattle.marc_types.specs.declared.key.Place.{Place}
use Rattle.numbering.specs.Numbers.{with_thing}
use Rattle.numbering.specs.Seats.{same_seat, seat_Decides}
use Rattle.numbering.specs.declared.seat.Seat.{Seat}
use Rattle.catalogue_rules.specs.Sameness.{same_kept}
use Rattle.catalogue_rules.specs.State.{KeptField}
use Rattle.catalogue_rules.specs.Store.{field_under}
use Rattle.catalogue_tables.specs.Seam.{AreDistinct, HasKey, KeyLists, place_at, seat_of}
use Rattle.catalogue_tables.proofs.Seams.{noted_more, seat_alike, seat_back}
use Rattle.linking_laws.specs.Partway.{IsPartway, IsWhole, is_place_among, same_place}
use Rattle.linking_laws.proofs.Sames.{kept_Decides}
use Rattle.field_settling.specs.Held.{held_as}
use Rattle.field_settling.specs.declared.held.Held.{Held}
use Rattle.linked_store.specs.Linked.{IsAhead, Linked, ListsSeats, field_of}
use Rattle.commit_stages.specs.Noted.{AreNoted, IsOther, NotesChanges, changes_at, is_another, noted_for, noted_with}
use Rattle.commit_stages.specs.Turns.{IsMade, IsMadeOf}
use Rattle.commit_stages.proofs.Looping.{listed_next, next_still, one_more}
use Rattle.commit_stages.proofs.Sames.{kept_alike}
use Rattle.commit_stages.proofs.Turning.{known_there}

pub seat_laws : IsEquivalence same_seat
seat_laws = decided same_seat seat_Decides

-- ---- one turn

-- something else than what was found is to come exactly where the stage changes it
changes_there : (change : Class → KeptField → KeptField) (seat : Seat) (x : Linked) (h : KeptField) → field_of seat x ≡ Some h → changes_at change x seat ≡ not (same_kept h (change seat.class h))
changes_there change seat x h there = ap (λ (o : Option KeptField). option_map_or (λ k. not (same_kept k (change seat.class k))) o false) there

another_change : (change : Class → KeptField → KeptField) (seat : Seat) (x : Linked) (h : KeptField) (made : Option Held) → field_of seat x ≡ Some h → IsMadeOf change seat x made
    → is_another made h ≡ changes_at change x seat
another_change change seat x h None there is = sym (changes_there change seat x h there ∙ ap (λ (g : KeptField). not (same_kept h g)) (is h there) ∙ ap not (kept_alike h))
another_change change seat x h (Some held) there is = ap (λ (g : KeptField). not (same_kept h g)) (is.made_is h there) ∙ sym (changes_there change seat x h there)

same_there : (h k : KeptField) → Some h ≡ Some k → h ≡ k
same_there h k e = cc

pub notes_made : (change : Class → KeptField → KeptField) (seat : Seat) (x : Linked) (h : KeptField) (made : Option Held) (before now : List Seat)
    → now ≡ noted_for made h seat before → Some h ≡ field_of seat x → IsMadeOf change seat x made → now ≡ noted_with change x seat before
notes_made change seat x h made before now is there made_of =
    is ∙ ap (λ (b : Bool). if b then with_thing same_seat before seat else before) (another_change change seat x h made (sym there) made_of)

-- a field that is the one found is the same as it
pub same_found : (h g : KeptField) → same_kept h g ≡ true → g ≡ h
same_found h g same = sym ((kept_Decides h g).0 same)

-- what the stage makes of the field stays the same, where nothing else than was found is to come
pub other_made : (change : Class → KeptField → KeptField) (seat : Seat) (x : Linked) (h : KeptField) (held : Held) (made : Option Held)
    → IsOther held h made → Some h ≡ field_of seat x → IsMade change seat x (held_as held) → IsMadeOf change seat x made
other_made change seat x h held None same there is = λ k at. sym (is.made_is k at) ∙ same ∙ same_there h k (there ∙ at)
other_made change seat x h held (Some made) same there is = subst (λ (m : Held). IsMade change seat x (held_as m)) (sym same) is

-- where no field stands, nothing is noted
pub notes_nothing : (change : Class → KeptField → KeptField) (seat : Seat) (x : Linked) (before : List Seat) → None ≡ field_of seat x → before ≡ noted_with change x seat before
notes_nothing change seat x before none =
    ap (λ (o : Option KeptField). if option_map_or (λ k. not (same_kept k (change seat.class k))) o false then with_thing same_seat before seat else before) none

-- ---- members of a list that grows

or_false : (b : Bool) → (b || false) ≡ b
or_false true = refl
or_false false = refl

pub any_thing : (seats : List Seat) (one s : Seat) → list_any (same_seat s) (with_thing same_seat seats one) ≡ (list_any (same_seat s) seats || same_seat s one)
any_thing seats one s =
    noted_more seats (with_thing same_seat seats one) (one ∷ []) 0 one seats (omega arith) refl (λ t. sym (or_false (list_any (same_seat t) seats))) s
    ∙ ap (λ b. list_any (same_seat s) seats || b) (or_false (same_seat s one))

any_either : (seats : List Seat) (one s : Seat) (c : Bool) → list_any (same_seat s) (if c then with_thing same_seat seats one else seats) ≡ (list_any (same_seat s) seats || (same_seat s one && c))
any_either seats one s true = any_thing seats one s ∙ ap (λ b. list_any (same_seat s) seats || b) (sym (and_true (same_seat s one)))
  where
    and_true : (b : Bool) → (b && true) ≡ b
    and_true true = refl
    and_true false = refl
any_either seats one s false = sym (ap (λ b. list_any (same_seat s) seats || b) (and_false (same_seat s one)) ∙ or_false (list_any (same_seat s) seats))
  where
    and_false : (b : Bool) → (b && false) ≡ false
    and_false true = refl
    and_false false = refl

-- ---- a stage from seat to seat

pub noting_begins : (change : Class → KeptField → KeptField) (x : Linked) (noted : List Seat) → AreNoted change x [] noted noted
noting_begins change x noted = λ seat. sym (or_false (list_any (same_seat seat) noted))

spread : (before done same c : Bool) → ((before || (done && c)) || (same && c)) ≡ (before || ((done || same) && c))
spread true done same c = refl
spread false true same true = refl
spread false true same false = and_false same
  where
    and_false : (b : Bool) → (b && false) ≡ false
    and_false true = refl
    and_false false = refl
spread false false same c = refl

-- what the stage changes at a seat it changes at the same seat
changes_same : (change : Class → KeptField → KeptField) (x : Linked) (s seat : Seat) (b : Bool) → same_seat s seat ≡ b → (b && changes_at change x seat) ≡ (b && changes_at change x s)
changes_same change x s seat true e = ap (changes_at change x) (sym ((seat_Decides s seat).0 e))
changes_same change x s seat false e = refl

module _ (change : Class → KeptField → KeptField) (test : Place → Bool) (done rest : List Seat) (seat : Seat) (old now : Linked) (before noted : List Seat) where
  changes_still : ListsSeats old.keys test (done ++ seat ∷ rest) → IsAhead old now → IsPartway change (map (place_at old.keys) done) old.state now.state
      → changes_at change now seat ≡ changes_at change old seat
  changes_still lists ahead way =
      let known : HasKey old.keys seat = known_there old.keys done rest seat lists.known in
      let there : field_of seat now ≡ field_of seat old =
      ap (λ (p : Place). field_under p now.state) (ahead.keys.places seat known) ∙ next_still change test done rest seat old now lists way in
      ap (λ (o : Option KeptField). option_map_or (λ h. not (same_kept h (change seat.class h))) o false) there

  pub noting_goes_on : ListsSeats old.keys test (done ++ seat ∷ rest) → IsAhead old now → IsPartway change (map (place_at old.keys) done) old.state now.state
      → AreNoted change old done before noted → AreNoted change old (done ++ seat ∷ []) before (noted_with change now seat noted)
  noting_goes_on lists ahead way here = λ s.
      any_either noted seat s (changes_at change now seat)
      ∙ ap (λ b. b || (same_seat s seat && changes_at change now seat)) (here s)
      ∙ ap (λ b. (list_any (same_seat s) before || (list_any (same_seat s) done && changes_at change old s)) || (same_seat s seat && b)) (changes_still lists ahead way)
      ∙ ap (λ b. (list_any (same_seat s) before || (list_any (same_seat s) done && changes_at change old s)) || b) (changes_same change old s seat (same_seat s seat) refl)
      ∙ spread (list_any (same_seat s) before) (list_any (same_seat s) done) (same_seat s seat) (changes_at change old s)
      ∙ ap (λ b. list_any (same_seat s) before || (b && changes_at change old s))
      (sym (list_any-append (same_seat s) done (seat ∷ []) ∙ ap (λ b. list_any (same_seat s) done || b) (or_false (same_seat s seat))))

-- ---- the end

module _ (keys : KeyLists) (distinct : AreDistinct keys) where
  seats_alike : (s t : Seat) → HasKey keys s → HasKey keys t → same_place (place_at keys s) (place_at keys t) ≡ same_seat t s
  seats_alike s t low also =
      let one = seat_back keys distinct s low in
      let two = seat_back keys distinct t also in
      sym (seat_alike keys (place_at keys s) (place_at keys t) one.known)
      ∙ ap (λ r. same_seat r (seat_of keys (place_at keys t))) (sym one.is)
      ∙ ap (same_seat s) (sym two.is)
      ∙ seat_laws.symm s t

  -- a seat is listed exactly where its place is
  seats_among : (seats : List Seat) (t : Seat) → AllByRecursion (HasKey keys) seats → HasKey keys t → is_place_among (map (place_at keys) seats) (place_at keys t) ≡ list_any (same_seat t) seats
  seats_among [] t low also = refl
  seats_among (s ∷ seats) t low also =
      ap (λ b. b || is_place_among (map (place_at keys) seats) (place_at keys t)) (seats_alike s t low.0 also) ∙ ap (λ b. same_seat t s || b) (seats_among seats t low.1 also)

each_known : (keys : KeyLists) (seats : List Seat) (t : Seat) → AllByRecursion (HasKey keys) seats → list_any (same_seat t) seats ≡ true → HasKey keys t
each_known keys [] t low e = cc
each_known keys (s ∷ seats) t low e = by (λ on. each_known keys seats t low.1 on) (same_seat t s) refl e
  where
    by : (list_any (same_seat t) seats ≡ true → HasKey keys t) → (b : Bool) → same_seat t s ≡ b → (b || list_any (same_seat t) seats) ≡ true → HasKey keys t
    by rest true here e = subst (HasKey keys) (sym ((seat_Decides t s).0 here)) low.0
    by rest false here e = rest e

module _ (change : Class → KeptField → KeptField) (test : Place → Bool) (done : List Seat) (x : Linked) (before noted : List Seat) where
  -- a seat that isn't listed isn't changed
  others_still : AreDistinct x.keys → ListsSeats x.keys test done → IsWhole change (map (place_at x.keys) done) x.state → (s : Seat) → HasKey x.keys s
      → list_any (same_seat s) done ≡ false → changes_at change x s ≡ false
  others_still distinct lists whole s known off = by (field_of s x) refl
    where
      by : (o : Option KeptField) → field_of s x ≡ o → option_map_or (λ h. not (same_kept h (change s.class h))) o false ≡ false
      by None there = refl
      by (Some h) there =
          let stays = whole.others_stay (place_at x.keys s) h (seats_among x.keys distinct done s lists.known known ∙ off) there in
          ap (λ (g : KeptField). not (same_kept h g)) stays ∙ ap not (kept_alike h)

  done_or_still : AreDistinct x.keys → ListsSeats x.keys test done → IsWhole change (map (place_at x.keys) done) x.state → (s : Seat) → HasKey x.keys s
      → (b : Bool) → list_any (same_seat s) done ≡ b → (b && changes_at change x s) ≡ changes_at change x s
  done_or_still distinct lists whole s known true e = refl
  done_or_still distinct lists whole s known false e = sym (others_still distinct lists whole s known e)

  was_done : (s : Seat) → (b d c : Bool) → b ≡ false → (b || (d && c)) ≡ true → d ≡ true
  was_done s true d c off e = cc
  was_done s false true c off e = refl
  was_done s false false c off e = e

  pub noting_ends : AreDistinct x.keys → ListsSeats x.keys test done → IsWhole change (map (place_at x.keys) done) x.state → AreNoted change x done before noted
      → NotesChanges change x before noted
  noting_ends distinct lists whole here = record {
    noted = λ s known. here s ∙ ap (λ b. list_any (same_seat s) before || b) (done_or_still distinct lists whole s known (list_any (same_seat s) done) refl);
    known = λ s on off. each_known x.keys done s lists.known
        (was_done s (list_any (same_seat s) before) (list_any (same_seat s) done) (changes_at change x s) off (sym (here s) ∙ on));
  }

-- ---- the loop

module _ (change : Class → KeptField → KeptField) (test : Place → Bool) (seats : List Seat) (old : Linked) (before : List Seat) (lists : ListsSeats old.keys test seats) where
  -- the next seat of a listing
  pub noting_next : (i : ℕ) (seat : Seat) (now : Linked) (noted after : List Seat) → i < length seats → seat ≡ get_or seats i seat → IsAhead old now
      → IsPartway change (map (place_at old.keys) (take i seats)) old.state now.state → AreNoted change old (take i seats) before noted → after ≡ noted_with change now seat noted
      → AreNoted change old (take (i + 1) seats) before after
  noting_next i seat now noted after low is ahead way here note =
      subst (λ (l : List Seat). AreNoted change old l before after) (one_more seats i seat low is)
      (subst (AreNoted change old (take i seats ++ seat ∷ []) before) (sym note)
      (noting_goes_on change test (take i seats) (drop (suc i) seats) seat old now before noted (listed_next seats i seat low is old.keys test lists) ahead way here))

  -- behind the last
  pub noting_last : (n : ℕ) (noted : List Seat) → length seats ≤ n → AreDistinct old.keys → IsWhole change (map (place_at old.keys) seats) old.state
      → AreNoted change old (take n seats) before noted → NotesChanges change old before noted
  noting_last n noted past distinct whole here =
      noting_ends change test seats old before noted distinct lists whole (subst (λ (l : List Seat). AreNoted change old l before noted) (take_all n seats past) here)
