-- The seats of a record's fields get their rows, one after another.
use Rattle.std.proofs.Common.{◌≡◌, ◌∙◌, sym, ap, refl, subst, ℕ, ◌+◌, ◌<◌, ◌≤◌, arith, Bool, true, false, cond, List, [], ◌∷◌, ◌++◌, map, Option, Some, None, Result, Ok, Err, OnOk}
use Rattle.std.specs.Prelude.{◌==◌, nat_lt}
use Rattle.std.specs.Cmp.{unsigned_Decides}
use Rattle.std.proofs.lemmas.Bool.{ltb-false, ltb-true}
use mathlib.Core.Bool.{false≢true}
use Rattle.std.specs.List.{AllByRecursion}
use Rattle.marc_types.specs.declared.form.Form.{Form}
use Rattle.marc_types.specs.declared.entry.Entry.{Entry}
use Rattle.marc_types.specs.declared.key.Class.{Class}
use Rattle.marc_types.specs.declared.key.Class.TheVariants.{Authority, Bibliographic}
use Rattle.catalogue_rules.specs.Settle.{arrival_of}
use Rattle.catalogue_rules.specs.State.{KeptRecord}
use Rattle.form_index.specs.Index.{Indexed, IsInOrder}
use Rattle.catalogue_tables.specs.Following.{FollowsAuthority, authority_brought}
use Rattle.catalogue_tables.specs.declared.tables.CatalogueTables.{CatalogueTables}
use Rattle.marc_types.specs.Order.{same_form}
use Rattle.numbering.specs.Numbers.{Keeps, is_known, number_of}
use Rattle.numbering.specs.Seats.{same_seat, seat_Decides}
use Rattle.numbering.specs.declared.seat.Seat.{Seat}
use Rattle.numbered_store.specs.Numbered.{KeyNumbers, Numbered, with_record}
use Rattle.wait_table.specs.declared.waiting.Waiting.{Waiting}
use Rattle.catalogue_tables.specs.Waiting.{AreNumbersOf}
use Rattle.linked_store.specs.Contents.{Contents, ToRecord, ToWait, apply, at_seat}
use Rattle.linked_store.specs.Transactions.{FormsKeep, GoesOn, contents}
use Rattle.linked_store.specs.Placing.{AreApart, AreFreeFrom, HasRow, HaveRows, IndexFollows, IsElsewhere, IsPlaced, IsReseated, StaysAt, StaysInSeats, record_brought, row_of_field, seat_in}
use Rattle.linked_store.specs.Turns.{IsWaiting, IsWaitingOf, row_lent, without_rows}
use Rattle.linked_store.specs.declared.transaction.Transaction.{Transaction}
use Rattle.linked_store.specs.declared.seating.FieldRow.{FieldRow}
use Rattle.linked_store.specs.declared.turns.Row.{Row}
use Rattle.linked_store.proofs.Noted.{goes_none, goes_then}
use Rattle.linked_store.proofs.Outside.{gone_at}
use Rattle.linked_store.proofs.Turned.{no_link_at, no_row_at}

pub fails : (b : Bool) → (b ≡ true → ⊥) → b ≡ false
fails true h = absurd (h refl)
fails false h = refl

-- ---- one seat

left_at : {V : Type 0} (seat other : Seat) (now : Option V) (things : Seat → Option V) → same_seat seat other ≡ false → at_seat seat now things other ≡ things other
left_at seat other now things apart = ap (λ b. cond b now (things other)) apart

-- a seat without rows waits for nothing
waits_for_none : (forms : List Form) (waiting : Option Waiting) → IsWaitingOf forms None waiting → waiting ≡ None
waits_for_none forms None is = refl
waits_for_none forms (Some waiting) is = absurd is

pub no_wait_there : (forms : List Form) (row : Option Row) (seat : Seat) (c : Contents) → row ≡ None → HasRow forms row seat c → c.waits seat ≡ None
no_wait_there forms row seat c none has =
    waits_for_none forms (c.waits seat) (subst (λ (r : Option Row). IsWaitingOf forms r (c.waits seat)) none has.waiting)

pub has_no_row : (forms : List Form) (seat : Seat) (c : Contents) → c.links seat ≡ None → c.waits seat ≡ None → HasRow forms None seat c
has_no_row forms seat c link waiting = record { link = link; waiting = subst (λ (w : Option Waiting). IsWaitingOf forms None w) (sym waiting) tt }

-- another seat is as it was once rows went out of one
stays_without : (seat other : Seat) (c d : Contents) → d ≡ without_rows seat c → same_seat seat other ≡ false → StaysAt other c d
stays_without seat other c d is apart = record {
  link = ap (λ (x : Contents). x.links other) is ∙ left_at seat other None c.links apart;
  waiting = ap (λ (x : Contents). x.waits other) is ∙ left_at seat other None c.waits apart;
}

-- another seat is as it was once one waits
stays_waiting : (seat other : Seat) (waiting : Option Waiting) (c d : Contents) → d ≡ apply (ToWait seat waiting) c → same_seat seat other ≡ false → StaysAt other c d
stays_waiting seat other waiting c d is apart = record {
  link = ap (λ (x : Contents). x.links other) is;
  waiting = ap (λ (x : Contents). x.waits other) is ∙ left_at seat other waiting c.waits apart;
}

pub stays_then : (seat : Seat) (a b c : Contents) → StaysAt seat a b → StaysAt seat b c → StaysAt seat a c
stays_then seat a b c first second = record { link = second.link ∙ first.link; waiting = second.waiting ∙ first.waiting }

-- ---- rows stay while forms get numbers and other seats change

pub numbers_kept : {T : Type 0} (same : T → T → Bool) (old new things : List T) (numbers : List ℕ) → Keeps same old new → AreNumbersOf same old things numbers → AreNumbersOf same new things numbers
numbers_kept {T} same old new things numbers keeps are = record { known = known things are.known; are = are.are ∙ alike things are.known }
  where
    known : (ts : List T) → AllByRecursion (λ t. is_known same old t ≡ true) ts → AllByRecursion (λ t. is_known same new t ≡ true) ts
    known [] k = tt
    known (t ∷ ts) k = (keeps.known t k.0, known ts k.1)

    alike : (ts : List T) → AllByRecursion (λ t. is_known same old t ≡ true) ts → map (number_of same old) ts ≡ map (number_of same new) ts
    alike [] k = refl
    alike (t ∷ ts) k =
        let here : number_of same old t ≡ number_of same new t = sym (keeps.same_number t k.0) in
        let rest = alike ts k.1 in
        λ i. here i ∷ rest i

waiting_kept : (forms more : List Form) (row : Option Row) (waiting : Option Waiting) → Keeps same_form forms more → IsWaitingOf forms row waiting → IsWaitingOf more row waiting
waiting_kept forms more None None keeps is = tt
waiting_kept forms more None (Some waiting) keeps is = is
waiting_kept forms more (Some row) None keeps is = is
waiting_kept forms more (Some row) (Some waiting) keeps is = record { asked = numbers_kept same_form forms more _ _ keeps is.asked; keys = is.keys }

row_kept : (forms more : List Form) (row : Option Row) (seat : Seat) (c d : Contents) → Keeps same_form forms more → StaysAt seat c d → HasRow forms row seat c → HasRow more row seat d
row_kept forms more row seat c d keeps stays has = record {
  link = stays.link ∙ has.link;
  waiting =
      subst (λ (w : Option Waiting). IsWaitingOf more row w) (sym stays.waiting) (waiting_kept forms more row (c.waits seat) keeps has.waiting);
}

pub rows_kept : (forms more : List Form) (class : Class) (number : ℕ) (rows : List FieldRow) (c d : Contents) → Keeps same_form forms more
    → ((field : ℕ) → StaysAt (seat_in class number field) c d) → HaveRows forms class number rows c → HaveRows more class number rows d
rows_kept forms more class number rows c d keeps stays have = λ field.
    row_kept forms more (row_of_field field rows) (seat_in class number field) c d keeps (stays field) (have field)

-- ---- the seats of a record's fields

pub other_field : (class : Class) (number one other : ℕ) → (one ≡ other → ⊥) → same_seat (seat_in class number one) (seat_in class number other) ≡ false
other_field class number one other apart =
    fails (same_seat (seat_in class number one) (seat_in class number other))
    (λ e. apart (ap (λ (s : Seat). s.field) ((seat_Decides (seat_in class number one) (seat_in class number other)).0 e)))

-- how far a record's seats are cleared
pub record IsClearing (class : Class) (number done : ℕ) (start now : Transaction) : Type 0 where
  pub own : (field : ℕ) → field < done → HasRow now.tables.forms None (seat_in class number field) (contents now)
  pub later : (field : ℕ) → done ≤ field → StaysAt (seat_in class number field) (contents start) (contents now)
  pub others : (seat : Seat) → IsElsewhere class number seat → StaysAt seat (contents start) (contents now)
  pub store : now.store ≡ start.store
  pub index : now.tables.index ≡ start.tables.index
  pub goes : GoesOn start now

pub clearing : (class : Class) (number : ℕ) (start : Transaction) → IsClearing class number 0 start start
clearing class number start = record {
  own = λ field low. absurd (omega (arith, low));
  later = λ field high. record { link = refl; waiting = refl };
  others = λ seat elsewhere. record { link = refl; waiting = refl };
  store = refl;
  index = refl;
  goes = goes_none start start refl refl refl;
}

pub cleared_more : (class : Class) (number done : ℕ) (start now next : Transaction) → IsClearing class number done start now
    → contents next ≡ without_rows (seat_in class number done) (contents now) → next.store ≡ now.store → GoesOn now next → IsClearing class number (done + 1) start next
cleared_more class number done start now next way out store goes =
    let seat = seat_in class number done in
    let stays : (other : Seat) → same_seat seat other ≡ false → StaysAt other (contents now) (contents next) =
    λ other apart. stays_without seat other (contents now) (contents next) out apart in
    let gone : HasRow next.tables.forms None seat (contents next) =
    has_no_row next.tables.forms seat (contents next) (no_link_at seat (contents now) (contents next) out) (no_row_at seat (contents now) (contents next) out) in
    record {
      own = λ field low. by field low (nat_lt field done) refl gone stays;
      later = λ field high.
          stays_then (seat_in class number field) (contents start) (contents now) (contents next) (way.later field (omega (arith, high)))
          (stays (seat_in class number field) (other_field class number done field (λ e. omega (arith, e, high))));
      others = λ other elsewhere.
          stays_then other (contents start) (contents now) (contents next) (way.others other elsewhere) (stays other (elsewhere done));
      store = store ∙ way.store;
      index = ap (λ (c : Contents). c.index) out ∙ way.index;
      goes = goes_then start now next way.goes goes;
    }
  where
    by : (field : ℕ) → field < done + 1 → (b : Bool) → nat_lt field done ≡ b → HasRow next.tables.forms None (seat_in class number done) (contents next)
        → ((other : Seat) → same_seat (seat_in class number done) other ≡ false → StaysAt other (contents now) (contents next))
        → HasRow next.tables.forms None (seat_in class number field) (contents next)
    by field low true e gone stays =
        let below = ltb-true field done e in
        row_kept now.tables.forms next.tables.forms None (seat_in class number field) (contents now) (contents next) goes.rows.forms
        (stays (seat_in class number field) (other_field class number done field (λ same. omega (arith, same, below)))) (way.own field below)
    by field low false e gone stays =
        let high = ltb-false field done e in
        let last : field ≡ done = omega (arith, high, low) in
        subst (λ (n : ℕ). HasRow next.tables.forms None (seat_in class number n) (contents next)) (sym last) gone

-- no seat of the record has a row then
pub cleared : (class : Class) (number fields done : ℕ) (start now : Transaction) → AreFreeFrom start.tables.forms class number fields (contents start)
    → fields ≤ done → IsClearing class number done start now → IsReseated class number [] start now
cleared class number fields done start now free all way = record {
  store = way.store;
  index = way.index;
  own = λ field. by field (nat_lt field done) refl;
  others = way.others;
}
  where
    by : (field : ℕ) (b : Bool) → nat_lt field done ≡ b → HasRow now.tables.forms None (seat_in class number field) (contents now)
    by field true e = way.own field (ltb-true field done e)
    by field false e =
        let high = ltb-false field done e in
        row_kept start.tables.forms now.tables.forms None (seat_in class number field) (contents start) (contents now) way.goes.rows.forms
        (way.later field high) (free field (omega (arith, all, high)))

-- how far the rows have come in: those of the last fields are in, and those that are left are out
pub record IsSeating (class : Class) (number : ℕ) (whole left : List FieldRow) (start now : Transaction) : Type 0 where
  pub rest : List FieldRow
  pub parts : whole ≡ left ++ rest
  pub own : HaveRows now.tables.forms class number rest (contents now)
  pub others : (seat : Seat) → IsElsewhere class number seat → StaysAt seat (contents start) (contents now)
  pub store : now.store ≡ start.store
  pub index : now.tables.index ≡ start.tables.index
  pub goes : GoesOn start now

whole_alone : (rows : List FieldRow) → rows ≡ rows ++ []
whole_alone [] = refl
whole_alone (row ∷ rows) = ap (λ l. row ∷ l) (whole_alone rows)

pub seating : (class : Class) (number : ℕ) (rows : List FieldRow) (start : Transaction) → HaveRows start.tables.forms class number [] (contents start)
    → IsSeating class number rows rows start start
seating class number rows start free = record {
  rest = [];
  parts = whole_alone rows;
  own = free;
  others = λ seat elsewhere. record { link = refl; waiting = refl };
  store = refl;
  index = refl;
  goes = goes_none start start refl refl refl;
}

regrouped : (left rest : List FieldRow) (row : FieldRow) → (left ++ row ∷ []) ++ rest ≡ left ++ (row ∷ rest)
regrouped [] rest row = refl
regrouped (x ∷ left) rest row = ap (λ l. x ∷ l) (regrouped left rest row)

apart_behind : (left rest : List FieldRow) → AreApart (left ++ rest) → AreApart rest
apart_behind [] rest apart = apart
apart_behind (x ∷ left) rest apart = apart_behind left rest apart.1

module _ (class : Class) (number : ℕ) (whole left : List FieldRow) (one : FieldRow) (start now : Transaction) (apart : AreApart whole)
    (way : IsSeating class number whole (left ++ one ∷ []) start now) where
  parted : whole ≡ left ++ (one ∷ way.rest)
  parted = way.parts ∙ regrouped left way.rest one

  -- no row of the field is in yet
  new_field_row : row_of_field one.field way.rest ≡ None
  new_field_row = (apart_behind left (one ∷ way.rest) (subst AreApart parted apart)).0

  pub waits_not : (contents now).waits (seat_in class number one.field) ≡ None
  waits_not = no_wait_there now.tables.forms (row_of_field one.field way.rest) (seat_in class number one.field) (contents now) new_field_row (way.own one.field)

  pub seated_more : (next : Transaction) → IsWaiting (seat_in class number one.field) (Some (row_lent one.row)) now next → next.store ≡ now.store → GoesOn now next
      → IsSeating class number whole left start next
  seated_more next waits store goes = record {
    rest = one ∷ way.rest;
    parts = parted;
    own = λ field. by field (one.field == field) refl;
    others = λ seat elsewhere. stays_then seat (contents start) (contents now) (contents next) (way.others seat elsewhere) (stays seat (elsewhere one.field));
    store = store ∙ way.store;
    index = ap (λ (c : Contents). c.index) waits.now ∙ way.index;
    goes = goes_then start now next way.goes goes;
  }
    where
      stays : (other : Seat) → same_seat (seat_in class number one.field) other ≡ false → StaysAt other (contents now) (contents next)
      stays other far = stays_waiting (seat_in class number one.field) other waits.waiting (contents now) (contents next) waits.now far

      here : HasRow next.tables.forms (Some (row_lent one.row)) (seat_in class number one.field) (contents next)
      here = record {
        link = ap (λ (c : Contents). c.links (seat_in class number one.field)) waits.now ∙ (way.own one.field).link;
        waiting =
            subst (λ (w : Option Waiting). IsWaitingOf next.tables.forms (Some (row_lent one.row)) w)
            (sym (ap (λ (c : Contents). c.waits (seat_in class number one.field)) waits.now
            ∙ gone_at (seat_in class number one.field) waits.waiting (contents now).waits)) waits.is;
      }

      by : (field : ℕ) (b : Bool) → (one.field == field) ≡ b → HasRow next.tables.forms (row_of_field field (one ∷ way.rest)) (seat_in class number field) (contents next)
      by field true e =
          subst (λ (n : ℕ). HasRow next.tables.forms (row_of_field field (one ∷ way.rest)) (seat_in class number n) (contents next)) ((unsigned_Decides one.field field).0 e)
          (subst (λ (r : Option Row). HasRow next.tables.forms r (seat_in class number one.field) (contents next))
          (sym (ap (λ c. cond c (Some (row_lent one.row)) (row_of_field field way.rest)) e)) here)
      by field false e =
          subst (λ (r : Option Row). HasRow next.tables.forms r (seat_in class number field) (contents next))
          (sym (ap (λ c. cond c (Some (row_lent one.row)) (row_of_field field way.rest)) e))
          (row_kept now.tables.forms next.tables.forms (row_of_field field way.rest) (seat_in class number field) (contents now) (contents next) goes.rows.forms
          (stays (seat_in class number field) (other_field class number one.field field (λ same. false≢true (sym e ∙ (unsigned_Decides one.field field).1 same))))
          (way.own field))

pub seated : (class : Class) (number : ℕ) (whole left : List FieldRow) (start now : Transaction) → IsSeating class number whole left start now → left ≡ []
    → IsReseated class number whole start now
seated class number whole left start now way none =
    let all : way.rest ≡ whole = sym (way.parts ∙ ap (λ (l : List FieldRow). l ++ way.rest) none) in
    record {
      store = way.store;
      index = way.index;
      own = subst (λ (l : List FieldRow). HaveRows now.tables.forms class number l (contents now)) all way.own;
      others = way.others;
    }

-- cleared, and then seated
pub reseated : (class : Class) (number : ℕ) (rows : List FieldRow) (f a b : Transaction) → IsReseated class number [] f a → IsReseated class number rows a b
    → IsReseated class number rows f b
reseated class number rows f a b first second = record {
  store = second.store ∙ first.store;
  index = second.index ∙ first.index;
  own = second.own;
  others = λ seat far. stays_then seat (contents f) (contents a) (contents b) (first.others seat far) (second.others seat far);
}

-- ---- the rows, the record and the index

follows_from : (k : Class) (number : ℕ) (e : Entry) (f b g : Transaction) → b.tables.index ≡ f.tables.index → b.store.keys ≡ f.store.keys → IndexFollows k number e b g → IndexFollows k number e f g
follows_from Authority number e f b g index keys follows = (
  subst (λ (x : Indexed). FollowsAuthority g.tables.forms number (authority_brought (arrival_of e)) x g.tables.index) index follows.0,
  subst (λ (ks : KeyNumbers). IsInOrder ks.authorities g.tables.index) keys follows.1,
)
follows_from Bibliographic number e f b g index keys follows = follows ∙ index

placed_all : (number : ℕ) (e : Entry) (rows : List FieldRow) (r : Option KeptRecord) (f a b g : Transaction) → IsReseated e.class number rows f a
    → contents b ≡ apply (ToRecord e.class number r) (contents a) → b.tables ≡ a.tables → r ≡ record_brought (arrival_of e) → g.store ≡ b.store → FormsKeep b.tables g.tables
    → IndexFollows e.class number e b g → StaysInSeats b g → IsPlaced number e rows f g
placed_all number e rows r f a b g seats now tables kept store forms follows stays =
    let here : (seat : Seat) → StaysAt seat (contents a) (contents g) = λ seat. record {
      link = ap (λ (l : Seat → Option ℕ). l seat) stays.links ∙ ap (λ (c : Contents). c.links seat) now;
      waiting = ap (λ (l : Seat → Option Waiting). l seat) stays.waits ∙ ap (λ (c : Contents). c.waits seat) now;
    } in
    record {
      store = store ∙ ap (λ (c : Contents). c.numbered) now ∙ (λ i. with_record e.class number (kept i) (seats.store i));
      index =
          follows_from e.class number e f b g (ap (λ (t : CatalogueTables). t.index) tables ∙ seats.index)
          (ap (λ (c : Contents). c.numbered.keys) now ∙ ap (λ (s : Numbered). s.keys) seats.store) follows;
      own =
          rows_kept a.tables.forms g.tables.forms e.class number rows (contents a) (contents g)
          (subst (λ (t : CatalogueTables). Keeps same_form t.forms g.tables.forms) tables forms.forms) (λ field. here (seat_in e.class number field)) seats.own;
      others = λ seat far.
          let was = seats.others seat far in
          record { link = (here seat).link ∙ was.link; waiting = (here seat).waiting ∙ was.waiting };
    }

pub placed_on : {T E : Type 0} (result : Result T E) (number : ℕ) (e : Entry) (rows : List FieldRow) (r : Option KeptRecord) (f a b g : Transaction) → IsReseated e.class number rows f a
    → contents b ≡ apply (ToRecord e.class number r) (contents a) → b.tables ≡ a.tables → r ≡ record_brought (arrival_of e) → g.store ≡ b.store → FormsKeep b.tables g.tables
    → OnOk result (IndexFollows e.class number e b g) → OnOk result (StaysInSeats b g) → OnOk result (IsPlaced number e rows f g)
placed_on (Ok x) number e rows r f a b g seats now tables kept store forms follows stays = placed_all number e rows r f a b g seats now tables kept store forms follows stays
placed_on (Err x) number e rows r f a b g seats now tables kept store forms follows stays = tt
