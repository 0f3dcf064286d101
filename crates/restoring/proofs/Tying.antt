-- A record that gets its ties one by one, and what a seat takes.
use Rattle.std.proofs.Common.{◌≡◌, ℕ, zero, suc, ◌+◌, ◌<◌, ◌≤◌, true, List, [], ◌∷◌, map, length, drop, Option, Some, refl, sym, ap, subst, ◌∙◌, add-one, inl, arith}
use Rattle.std.specs.Prelude.{slice_get, slice_set, All, IfSome, IsSome, option_and_then}
use Rattle.std.proofs.lemmas.Option.{get_or_from_slice_get, slice_get_within}
use Rattle.marc_types.specs.Fields.{tag_of}
use Rattle.marc_types.specs.Valid.{is_record}
use Rattle.marc_types.specs.declared.entry.Tie.{Tie}
use Rattle.marc_types.specs.declared.field.Field.{Field}
use Rattle.marc_types.specs.declared.field.Leader.{Leader}
use Rattle.marc_types.specs.declared.key.Class.{Class}
use Rattle.marc_types.specs.declared.key.Key.{Key}
use Rattle.marc_types.specs.declared.key.Place.{Place}
use Rattle.heading_fields.specs.Tables.{is_subdividable}
use Rattle.iso2709_record.specs.Written.{fits}
use Rattle.numbering.specs.declared.seat.Seat.{Seat}
use Rattle.catalogue_rules.specs.State.{KeptField, KeptRecord, State, fields_of, kept_field, new_field, new_record, new_tie, tied}
use Rattle.catalogue_rules.specs.Receipt.{kept_under}
use Rattle.catalogue_rules.specs.Store.{StaysFit, StaysRecord, field_at}
use Rattle.catalogue_tables.specs.Seam.{HasKey, place_at}
use Rattle.linking_laws.specs.Partway.{IsSteady, swapped}
use Rattle.linked_store.specs.Linked.{Linked, IsAhead, IsNumber, SuitsSeat, field_of, key_of, record_at}
use Rattle.kept_rows.specs.declared.row.KeptRow.{KeptRow}
use Rattle.kept_rows.specs.Rows.{row_of}
use Rattle.kept_rows.specs.Standing.{IsSoundField}
use Rattle.kept_rows.proofs.Places.{length-tied, tied_at}
use Rattle.restoring.specs.Feeding.{IsLastKey, IsThere, tied_to, with_last}
use Rattle.restoring.proofs.Lasts.{record_last, swap_last}

-- ---- fields of which so many have their ties

set_there : (hs : List KeptField) (n : ℕ) (h : KeptField) → slice_get hs n ≡ Some h → slice_set (tied_to n hs) n h ≡ tied_to (suc n) hs
set_there [] n h e = cc
set_there (g ∷ hs) zero h e = let same : g ≡ h = cc in rw same refl
set_there (g ∷ hs) (suc n) h e = ap (λ rest. g ∷ rest) (set_there hs n h e)

new_is : (h : KeptField) → h.tie ≡ new_tie → new_field h.field ≡ h
new_is h e = ap (kept_field h.field) (sym e)

new_there : (hs : List KeptField) (n : ℕ) (h : KeptField) → slice_get hs n ≡ Some h → h.tie ≡ new_tie → tied_to n hs ≡ tied_to (suc n) hs
new_there [] n h e new = cc
new_there (g ∷ hs) zero h e new =
    let same : g ≡ h = cc in
    ap (λ f. f ∷ tied_to zero hs) (new_is g (ap (λ (f : KeptField). f.tie) same ∙ new))
new_there (g ∷ hs) (suc n) h e new = ap (λ rest. g ∷ rest) (new_there hs n h e new)

all_tied : (hs : List KeptField) (n : ℕ) → length hs ≤ n → tied_to n hs ≡ hs
all_tied [] n long = refl
all_tied (h ∷ hs) zero long = absurd (omega (arith, long))
all_tied (h ∷ hs) (suc n) long = ap (λ rest. h ∷ rest) (all_tied hs n (omega (arith, long)))

none_tied : (fields : List Field) (ties : List Tie) → length ties ≡ length fields → tied_to zero (tied fields ties) ≡ map new_field fields
none_tied [] ties e = refl
none_tied (f ∷ fields) [] e = absurd (omega (arith, e))
none_tied (f ∷ fields) (t ∷ ties) e = ap (λ rest. new_field f ∷ rest) (none_tied fields ties (omega (arith, e)))

fields_tied : (fields : List Field) (ties : List Tie) (n : ℕ) → length ties ≡ length fields → map (λ h. h.field) (tied_to n (tied fields ties)) ≡ fields
fields_tied [] ties n e = refl
fields_tied (f ∷ fields) [] n e = absurd (omega (arith, e))
fields_tied (f ∷ fields) (t ∷ ties) zero e = ap (λ rest. f ∷ rest) (fields_tied fields ties zero (omega (arith, e)))
fields_tied (f ∷ fields) (t ∷ ties) (suc n) e = ap (λ rest. f ∷ rest) (fields_tied fields ties n (omega (arith, e)))

-- ---- what a seat takes

set_same : {A : Type 0} (xs : List A) (n : ℕ) (x : A) → slice_get xs n ≡ Some x → slice_set xs n x ≡ xs
set_same [] n x e = refl
set_same (y ∷ xs) zero x e = let same : y ≡ x = cc in rw same refl
set_same (y ∷ xs) (suc n) x e = ap (λ rest. y ∷ rest) (set_same xs n x e)

mapped_at : (hs : List KeptField) (n : ℕ) (f : Field) → slice_get (map (λ h. h.field) hs) n ≡ Some f → (h : KeptField) × (slice_get hs n ≡ Some h) × (h.field ≡ f)
mapped_at [] n f e = cc
mapped_at (h ∷ hs) zero f e = let same : h.field ≡ f = cc in (h, refl, same)
mapped_at (h ∷ hs) (suc n) f e = mapped_at hs n f e

-- the field that stands at a seat may have another tie
pub suits : (seat : Seat) (leader : Leader) (fields : List Field) (f : Field) (t : Tie) (x : Linked) → HasKey x.keys seat → IsThere seat leader fields x →
    is_record leader fields ≡ true → fits fields ≡ true → slice_get fields seat.field ≡ Some f → (t.whole ≡ true → is_subdividable seat.class (tag_of f) ≡ true) →
    SuitsSeat seat (kept_field f t) x
suits seat leader fields f t x known is valid room at whole =
    let row = is.row in
    let found = mapped_at row.fields seat.field f (ap (λ l. slice_get l seat.field) is.fields_are ∙ at) in
    let here : field_of seat x ≡ Some found.0 = ap (λ o. option_and_then (field_at seat.field) o) is.there ∙ found.1 in
    let same : slice_set (fields_of row) seat.field f ≡ fields = ap (λ l. slice_set l seat.field f) is.fields_are ∙ set_same fields seat.field f at in
    record {
      known = known;
      stands = subst (λ (o : Option KeptField). IsSome o) (sym here) refl;
      stays = subst (λ (o : Option KeptRecord). IfSome o (StaysRecord seat.field f)) (sym is.there) (λ _. rw (is.leader_is, same) valid);
      fits = subst (λ (o : Option KeptRecord). IfSome o (StaysFit seat.field f)) (sym is.there) (λ _. rw same room);
      steady = λ _. subst (λ (o : Option KeptField). IfSome o (λ old. IsSteady old (kept_field f t))) (sym here) (inl found.2);
      whole = whole;
    }

-- ---- the loop over the ties

-- the row's record, of whose fields so many have their ties
abbrev pub record_tied : ℕ → KeptRow → KeptRecord
record_tied n row = record { leader = row.rec.leader; fields = tied_to n (tied row.rec.fields row.ties) }

-- a row's record stands last under a seat's key, its fields before the seat have their ties, and these are left
pub record IsPutTo (row : KeptRow) (left : List Tie) (before : State) (seat : Seat) (x : Linked) : Type 0 where
  pub class_is : seat.class ≡ row.class
  pub known : IsNumber row.class seat.number x.keys
  pub key_is : key_of row.class seat.number x.keys ≡ row.key
  pub left_is : drop seat.field row.ties ≡ left
  pub within : seat.field ≤ length row.ties
  pub state : x.state ≡ with_last row.class (row.key, record_tied seat.field row) before

pub put_first : (row : KeptRow) (left : List Tie) (before : State) (number : ℕ) (x : Linked) → left ≡ row.ties → IsNumber row.class number x.keys → key_of row.class number x.keys ≡ row.key →
    x.state ≡ with_last row.class (row.key, new_record row.rec.leader row.rec.fields) before → IsPutTo row left before (record { class = row.class; number = number; field = 0 }) x
put_first row left before number x all known key_is state = record {
  class_is = refl;
  known = known;
  key_is = key_is;
  left_is = sym all;
  within = omega arith;
  state = state ∙ ap (λ hs. with_last row.class (row.key, record { leader = row.rec.leader; fields = hs }) before) (sym (none_tied row.rec.fields row.ties row.tied));
}

there_at : (row : KeptRow) (class : Class) (number : ℕ) (r : KeptRecord) (before : State) (x : Linked) → class ≡ row.class → key_of row.class number x.keys ≡ row.key →
    x.state ≡ with_last row.class (row.key, r) before → IsLastKey row.class row.key before → record_at class number x ≡ Some r
there_at row class number r before x same key_is state last =
    ap (λ c. record_at c number x) same ∙ ap (λ k. kept_under row.class k x.state) key_is ∙ ap (kept_under row.class row.key) state ∙ record_last row.class row.key r before last

pub is_there : (row : KeptRow) (left : List Tie) (before : State) (seat : Seat) (x : Linked) → IsLastKey row.class row.key before → IsPutTo row left before seat x →
    IsThere seat row.rec.leader row.rec.fields x
is_there row left before seat x last put = record {
  row = record_tied seat.field row;
  there = there_at row seat.class seat.number (record_tied seat.field row) before x put.class_is put.key_is put.state last;
  leader_is = refl;
  fields_are = fields_tied row.rec.fields row.ties seat.field row.tied;
}

-- what is left begins with a tie: that of the field there
pub record IsNextTie (ties : List Tie) (n : ℕ) (t : Tie) (left : List Tie) : Type 0 where
  pub there : slice_get ties n ≡ Some t
  pub within : n < length ties
  pub others : drop (suc n) ties ≡ left

next_tie : (ties : List Tie) (n : ℕ) (t : Tie) (left : List Tie) → drop n ties ≡ t ∷ left → IsNextTie ties n t left
next_tie [] zero t left e = cc
next_tie [] (suc n) t left e = cc
next_tie (u ∷ ties) zero t left e = record { there = cc; within = omega arith; others = cc }
next_tie (u ∷ ties) (suc n) t left e =
    let rest = next_tie ties n t left e in
    let within = rest.within in
    record { there = rest.there; within = omega arith; others = rest.others }

some_at : {A : Type 0} (xs : List A) (n : ℕ) → n < length xs → (x : A) × (slice_get xs n ≡ Some x)
some_at [] n low = absurd (omega (arith, low))
some_at (x ∷ xs) zero low = (x, refl)
some_at (x ∷ xs) (suc n) low = some_at xs n (omega (arith, low))

pub is_some_at : (xs : List Field) (n : ℕ) (o : Option Field) → o ≡ slice_get xs n → n < length xs → IsSome o
is_some_at xs n o is low = let found = some_at xs n low in subst (λ (p : Option Field). IsSome p) (sym (is ∙ found.1)) refl

-- a sound field's tie is whole only where the field takes subdivisions
whole_there : (class : Class) (fields : List Field) (ties : List Tie) (n : ℕ) (f : Field) (t : Tie) → All (IsSoundField class) (tied fields ties) →
    slice_get fields n ≡ Some f → slice_get ties n ≡ Some t → t.whole ≡ true → is_subdividable class (tag_of f) ≡ true
whole_there class fields ties n f t sound at_field at_tie =
    let at = tied_at fields ties n f t at_field at_tie in
    let own = sound n (kept_field f t) (slice_get_within (tied fields ties) n (kept_field f t) at) in
    let is = get_or_from_slice_get (tied fields ties) n (kept_field f t) (kept_field f t) at in
    (subst (λ h. IsSoundField class h) is own).whole

abbrev place_of : Class → Key → ℕ → Place
place_of class key n = record { class = class; key = key; field = n }

place_is : (row : KeptRow) (seat : Seat) (x : Linked) → seat.class ≡ row.class → key_of row.class seat.number x.keys ≡ row.key → place_at x.keys seat ≡ place_of row.class row.key seat.field
place_is row seat x same key_is =
    ap (λ c. place_of c (key_of c seat.number x.keys) seat.field) same ∙ ap (λ k. place_of row.class k seat.field) key_is

number_ahead : (class : Class) (number : ℕ) (x y : Linked) → IsAhead x y → IsNumber class number x.keys → IsNumber class number y.keys × (key_of class number y.keys ≡ key_of class number x.keys)
number_ahead class number x y ahead known =
    let seat : Seat = record { class = class; number = number; field = 0 } in
    (ahead.keys.seats seat known, ap (λ (p : Place). p.key) (ahead.keys.places seat known))

-- a tie that comes next
module _ (row : KeptRow) (all : List Tie) (t : Tie) (left : List Tie) (before : State) (seat : Seat) (x : Linked) (begins : all ≡ t ∷ left) (put : IsPutTo row all before seat x) where
  next : IsNextTie row.ties seat.field t left
  next = next_tie row.ties seat.field t left (put.left_is ∙ begins)

  pub next_within : seat.field < length row.rec.fields
  next_within = omega (arith, next.within, row.tied)

  pub next_whole : All (IsSoundField row.class) (tied row.rec.fields row.ties) → (f : Field) → slice_get row.rec.fields seat.field ≡ Some f → t.whole ≡ true →
      is_subdividable seat.class (tag_of f) ≡ true
  next_whole sound f at_field whole =
      ap (λ c. is_subdividable c (tag_of f)) put.class_is ∙ whole_there row.class row.rec.fields row.ties seat.field f t sound at_field next.there whole

  here : (f : Field) × (slice_get row.rec.fields seat.field ≡ Some f)
  here = some_at row.rec.fields seat.field next_within

  at_seat : slice_get (tied row.rec.fields row.ties) seat.field ≡ Some (kept_field here.0 t)
  at_seat = tied_at row.rec.fields row.ties seat.field here.0 t here.1 next.there

  -- it is new already
  pub put_new : t ≡ new_tie → IsPutTo row left before (record { class = seat.class; number = seat.number; field = seat.field + 1 }) x
  put_new new =
      let hs = tied row.rec.fields row.ties in
      let more : tied_to seat.field hs ≡ tied_to (seat.field + 1) hs = rw add-one (new_there hs seat.field (kept_field here.0 t) at_seat new) in
      record {
        class_is = put.class_is;
        known = put.known;
        key_is = put.key_is;
        left_is = rw add-one next.others;
        within = let low = next.within in omega arith;
        state = put.state ∙ ap (λ l. with_last row.class (row.key, record { leader = row.rec.leader; fields = l }) before) more;
      }

  -- it is put there
  pub put_more : (y : Linked) → IsLastKey row.class row.key before →
      ((f : Field) → slice_get row.rec.fields seat.field ≡ Some f → y.state ≡ swapped (place_at x.keys seat) (kept_field f t) x.state) → IsAhead x y →
      IsPutTo row left before (record { class = seat.class; number = seat.number; field = seat.field + 1 }) y
  put_more y last swap ahead =
      let hs = tied row.rec.fields row.ties in
      let h = kept_field here.0 t in
      let more : slice_set (tied_to seat.field hs) seat.field h ≡ tied_to (seat.field + 1) hs = rw add-one (set_there hs seat.field h at_seat) in
      let grown = number_ahead row.class seat.number x y ahead put.known in
      record {
        class_is = put.class_is;
        known = grown.0;
        key_is = grown.1 ∙ put.key_is;
        left_is = rw add-one next.others;
        within = let low = next.within in omega arith;
        state = swap here.0 here.1 ∙ ap (λ p. swapped p h x.state) (place_is row seat x put.class_is put.key_is)
            ∙ ap (swapped (place_of row.class row.key seat.field) h) put.state ∙ swap_last row.class row.key seat.field h (record_tied seat.field row) before last
            ∙ ap (λ l. with_last row.class (row.key, record { leader = row.rec.leader; fields = l }) before) more;
      }

none_left : (ties : List Tie) (n : ℕ) → length (drop n ties) ≡ 0 → length ties ≤ n
none_left [] n e = omega arith
none_left (t ∷ ties) zero e = absurd (omega (arith, e))
none_left (t ∷ ties) (suc n) e = omega (arith, none_left ties n e)

-- where no tie is left, the record has them all
pub put_all : (row : KeptRow) (left : List Tie) (before : State) (seat : Seat) (x : Linked) → length left ≡ 0 → IsPutTo row left before seat x →
    x.state ≡ with_last row.class (row_of row) before
put_all row left before seat x none put =
    let long = none_left row.ties seat.field (ap length put.left_is ∙ none) in
    let count = length-tied row.rec.fields row.ties row.tied in
    put.state
    ∙ ap (λ l. with_last row.class (row.key, record { leader = row.rec.leader; fields = l }) before) (all_tied (tied row.rec.fields row.ties) seat.field (omega (arith, long, count, row.tied)))
