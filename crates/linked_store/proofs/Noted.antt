-- Transactions: one change more, none, and one after another.
use Rattle.std.proofs.Common.{◌≡◌, ◌∙◌, sym, ap, refl, subst, ℕ, zero, suc, ◌≤◌, arith, Bool, true, false, cond, List, [], ◌∷◌, ◌++◌, length, map, take, drop, Option, Some, None}
use Rattle.std.specs.Option.{is_some}
use Rattle.marc_types.specs.declared.form.Form.{Form}
use Rattle.marc_types.specs.Order.{same_form}
use Rattle.numbering.proofs.Numberlaws.{keeps_itself, keeps_same}
use Rattle.numbering.specs.Seats.{same_seat, seat_Decides}
use Rattle.numbering.specs.declared.seat.Seat.{Seat}
use Rattle.marc_types.specs.declared.key.Class.{Class}
use Rattle.catalogue_rules.specs.State.{KeptRecord}
use Rattle.numbered_store.specs.Numbered.{IsNumber, Numbered, with_record}
use Rattle.link_table.specs.Links.{Links, with_key}
use Rattle.link_table.specs.Table.{links}
use Rattle.wait_table.specs.Waits.{Waits, with_waiting}
use Rattle.wait_table.specs.Table.{waits}
use Rattle.wait_table.specs.declared.waiting.Waiting.{Waiting}
use Rattle.catalogue_tables.specs.Tables.{OnlyLinks, OnlyWaits, OnlyWaitsAndForms}
use Rattle.catalogue_tables.specs.Waiting.{AddsWait}
use Rattle.catalogue_tables.proofs.Seams.{keeps_then}
use Rattle.catalogue_tables.specs.declared.tables.CatalogueTables.{CatalogueTables}
use Rattle.form_index.specs.Index.{Indexed}
use Rattle.linked_store.specs.Contents.{CanGoBack, Fits, HaveRooms, Step, ToIndex, ToLink, ToRecord, ToWait, apply, apply_back, at_seat, step_of}
use Rattle.linked_store.specs.Rooms.{link_back, link_gone, link_out, wait_back, wait_gone, wait_out}
use Rattle.linked_store.specs.Transactions.{GoesOn, IsRoomy, IsRowOut, KeepsRows, LetsGo, FormsKeep, SameForms, StaysButHeld, TakesBack, WaitsNow, contents, links_in, steps_of, waits_in}
use Rattle.linked_store.specs.declared.change.Change.{Change}
use Rattle.linked_store.specs.declared.transaction.Transaction.{Transaction}
use Rattle.linked_store.proofs.Outside.{link_none_out, wait_none_out}
use Rattle.linked_store.proofs.Going.{back_join, can_join, can_less, join_assoc, join_none, last_link_out, last_wait_out, rooms_less, rooms_link_gone, rooms_more, rooms_relinked, rooms_rewaited, rooms_same, rooms_unlinked, rooms_unwaited, rooms_wait_gone, rooms_waited, steps_pushed}

-- one change more, whose step leads back
pub goes_one : (old new : Transaction) (step : Step) → steps_of new ≡ steps_of old ++ step ∷ [] → apply step (contents new) ≡ contents old → Fits step (contents new)
    → (IsRoomy old → IsRoomy new) → FormsKeep old.tables new.tables → GoesOn old new
goes_one old new step steps undone fits rooms rows = record { more = step ∷ []; steps = steps; back = undone; can = (tt, fits); rooms = rooms; rows = rows }

pub steps_noted : (old now middle : List Change) (change : Change) → middle ≡ old → now ≡ middle ++ change ∷ [] → map step_of now ≡ map step_of old ++ step_of change ∷ []
steps_noted old now middle change same is = steps_pushed old now change (is ∙ ap (λ l. l ++ change ∷ []) same)

pub rows_same : (old new : CatalogueTables) → new ≡ old → FormsKeep old new
rows_same old new same = subst (λ t. FormsKeep old t) (sym same) (record { forms = keeps_itself same_form old.forms })

-- nothing changed, but that forms may have got numbers
pub goes_still : (old new : Transaction) → new.store ≡ old.store → new.log.items ≡ old.log.items → links_in new.tables ≡ links_in old.tables → waits_in new.tables ≡ waits_in old.tables
    → new.tables.index ≡ old.tables.index → FormsKeep old.tables new.tables → GoesOn old new
goes_still old new store log links waits index rows = record {
  more = [];
  steps = ap (map step_of) log ∙ join_none (steps_of old);
  back = λ i. record { numbered = store i; index = index i; links = (links i).key_of; waits = (waits i).waiting };
  can = tt;
  rooms = λ r.
      subst (λ l. HaveRooms l (links_in new.tables) (waits_in new.tables)) (sym (ap (map step_of) log))
      (subst (λ (w : Waits). HaveRooms (steps_of old) (links_in new.tables) w) (sym waits)
      (subst (λ (l : Links). HaveRooms (steps_of old) l (waits_in old.tables)) (sym links) r));
  rows = rows;
}

pub goes_none : (old new : Transaction) → new.store ≡ old.store → new.tables ≡ old.tables → new.log.items ≡ old.log.items → GoesOn old new
goes_none old new store tables log = goes_still old new store log (ap links_in tables) (ap waits_in tables) (ap (λ (t : CatalogueTables). t.index) tables) (rows_same old.tables new.tables tables)

-- a record was exchanged
pub goes_exchanged : (old new : Transaction) (class : Class) (number : ℕ) (r : Option KeptRecord) → steps_of new ≡ steps_of old ++ ToRecord class number r ∷ [] → new.tables ≡ old.tables
    → with_record class number r new.store ≡ old.store → Fits (ToRecord class number r) (contents new) → GoesOn old new
goes_exchanged old new class number r steps tables undone fits =
    goes_one old new (ToRecord class number r) steps
    (λ i. record { numbered = undone i; index = (tables i).index; links = (links_in (tables i)).key_of; waits = (waits_in (tables i)).waiting })
    fits
    (λ rooms. subst (λ (t : CatalogueTables). HaveRooms (steps_of new) (links_in t) (waits_in t)) (sym tables) (subst (λ l. HaveRooms l (links_in old.tables) (waits_in old.tables)) (sym steps)
    (rooms_more (steps_of old) (ToRecord class number r) (links_in old.tables) (waits_in old.tables)
    (record { links = λ s. refl; keys = λ n s. refl; waits = λ s. refl; forms = λ n s. refl; names = λ n s. refl }) rooms)))
    (rows_same old.tables new.tables tables)

-- the number stays a key's
pub number_stays : (class : Class) (number : ℕ) (r : Option KeptRecord) (old new : Numbered) → new ≡ with_record class number r old → IsNumber class number old → IsNumber class number new
number_stays class number r old new is low = subst (λ s. IsNumber class number s) (sym is) low

-- another thing at a seat, and then the one that stood there
set_back : {V : Type 0} (seat : Seat) (was now : Option V) (things : Seat → Option V) → was ≡ things seat → (s : Seat) → at_seat seat was (at_seat seat now things) s ≡ things s
set_back {V} seat was now things is s = by (same_seat seat s) refl
  where
    by : (b : Bool) → same_seat seat s ≡ b → cond b was (cond b now (things s)) ≡ things s
    by true e = is ∙ ap things ((seat_Decides seat s).0 e)
    by false e = refl

pub forms_same : (old new : CatalogueTables) → new.forms ≡ old.forms → FormsKeep old new
forms_same old new forms = record { forms = keeps_same same_form forms }

no_thing : {V : Type 0} (thing : Option V) → is_some thing ≡ false → thing ≡ None
no_thing None none = refl
no_thing (Some thing) none = cc

-- a link went out
pub goes_unlinked : (old new : Transaction) (seat : Seat) (number : Option ℕ) → steps_of new ≡ steps_of old ++ ToLink seat number ∷ [] → new.store ≡ old.store → OnlyLinks old.tables new.tables
    → number ≡ (links_in old.tables).key_of seat → links_in new.tables ≡ link_out seat ((links_in old.tables).key_of seat) (links_in old.tables) → GoesOn old new
goes_unlinked old new seat number steps store only was out =
    let waits_same : waits_in new.tables ≡ waits_in old.tables = ap waits only.waits in
    let gone : links_in new.tables ≡ link_out seat number (links_in old.tables) = out ∙ ap (λ n. link_out seat n (links_in old.tables)) (sym was) in
    goes_one old new (ToLink seat number) steps
    ((λ i. record { numbered = store i; index = only.index i; links = at_seat seat number (gone i).key_of; waits = (waits_same i).waiting })
    ∙ (λ i. record { numbered = old.store; index = old.tables.index; links = λ s. set_back seat number None (links_in old.tables).key_of was s i; waits = (waits_in old.tables).waiting }))
    tt
    (λ r. subst (λ l. HaveRooms l (links_in new.tables) (waits_in new.tables)) (sym steps)
    (subst (λ (w : Waits). HaveRooms (steps_of old ++ ToLink seat number ∷ []) (links_in new.tables) w) (sym waits_same)
    (subst (λ (l : Links). HaveRooms (steps_of old ++ ToLink seat number ∷ []) l (waits_in old.tables)) (sym gone)
    (rooms_unlinked (steps_of old) seat number (links_in old.tables) (waits_in old.tables) r))))
    (forms_same old.tables new.tables only.forms)

-- there was no link to go out
pub goes_unlinked_before : (old new : Transaction) (seat : Seat) (number : Option ℕ) → new.store ≡ old.store → new.log.items ≡ old.log.items → OnlyLinks old.tables new.tables
    → number ≡ (links_in old.tables).key_of seat → links_in new.tables ≡ link_out seat ((links_in old.tables).key_of seat) (links_in old.tables) → is_some number ≡ false → GoesOn old new
goes_unlinked_before old new seat number store log only was out none =
    let free : (links_in old.tables).key_of seat ≡ None = sym was ∙ no_thing number none in
    let same : links_in new.tables ≡ links_in old.tables =
    out ∙ ap (λ n. link_out seat n (links_in old.tables)) free ∙ link_none_out seat (links_in old.tables) free in
    goes_still old new store log same (ap waits only.waits) only.index (forms_same old.tables new.tables only.forms)

-- a link came in
pub goes_linked : (old new : Transaction) (seat : Seat) (number : ℕ) → steps_of new ≡ steps_of old ++ ToLink seat None ∷ [] → new.store ≡ old.store → OnlyLinks old.tables new.tables
    → (links_in old.tables).key_of seat ≡ None → links_in new.tables ≡ with_key seat (Some number) (links_in old.tables) → GoesOn old new
goes_linked old new seat number steps store only free came =
    let waits_same : waits_in new.tables ≡ waits_in old.tables = ap waits only.waits in
    goes_one old new (ToLink seat None) steps
    ((λ i. record { numbered = store i; index = only.index i; links = at_seat seat None (came i).key_of; waits = (waits_same i).waiting })
    ∙ (λ i. record { numbered = old.store; index = old.tables.index; links = λ s. set_back seat None (Some number) (links_in old.tables).key_of (sym free) s i; waits = (waits_in old.tables).waiting }))
    tt
    (λ r. subst (λ l. HaveRooms l (links_in new.tables) (waits_in new.tables)) (sym steps)
    (subst (λ (w : Waits). HaveRooms (steps_of old ++ ToLink seat None ∷ []) (links_in new.tables) w) (sym waits_same)
    (rooms_same (steps_of old ++ ToLink seat None ∷ []) (links_in old.tables) (links_in new.tables) (waits_in old.tables) (waits_in old.tables) (ap (λ (l : Links). l.taken) came)
    (ap (λ (l : Links). l.taken_from) came) refl
    (rooms_more (steps_of old) (ToLink seat None) (links_in old.tables) (waits_in old.tables)
    (record { links = λ s. refl; keys = λ n s. refl; waits = λ s. refl; forms = λ n s. refl; names = λ n s. refl }) r))))
    (forms_same old.tables new.tables only.forms)

-- what waits went out
pub goes_unwaited : (old new : Transaction) (seat : Seat) (waiting : Option Waiting) → steps_of new ≡ steps_of old ++ ToWait seat waiting ∷ [] → new.store ≡ old.store → OnlyWaits old.tables new.tables
    → waiting ≡ (waits_in old.tables).waiting seat → waits_in new.tables ≡ wait_out seat ((waits_in old.tables).waiting seat) (waits_in old.tables) → GoesOn old new
goes_unwaited old new seat waiting steps store only was out =
    let links_same : links_in new.tables ≡ links_in old.tables = ap links only.links in
    let gone : waits_in new.tables ≡ wait_out seat waiting (waits_in old.tables) = out ∙ ap (λ n. wait_out seat n (waits_in old.tables)) (sym was) in
    goes_one old new (ToWait seat waiting) steps
    ((λ i. record { numbered = store i; index = only.index i; links = (links_same i).key_of; waits = at_seat seat waiting (gone i).waiting })
    ∙ (λ i. record { numbered = old.store; index = old.tables.index; links = (links_in old.tables).key_of; waits = λ s. set_back seat waiting None (waits_in old.tables).waiting was s i }))
    tt
    (λ r. subst (λ l. HaveRooms l (links_in new.tables) (waits_in new.tables)) (sym steps)
    (subst (λ (l : Links). HaveRooms (steps_of old ++ ToWait seat waiting ∷ []) l (waits_in new.tables)) (sym links_same)
    (subst (λ (w : Waits). HaveRooms (steps_of old ++ ToWait seat waiting ∷ []) (links_in old.tables) w) (sym gone)
    (rooms_unwaited (steps_of old) seat waiting (links_in old.tables) (waits_in old.tables) r))))
    (forms_same old.tables new.tables only.forms)

-- there was nothing that waited to go out
pub goes_unwaited_before : (old new : Transaction) (seat : Seat) (waiting : Option Waiting) → new.store ≡ old.store → new.log.items ≡ old.log.items → OnlyWaits old.tables new.tables
    → waiting ≡ (waits_in old.tables).waiting seat → waits_in new.tables ≡ wait_out seat ((waits_in old.tables).waiting seat) (waits_in old.tables) → is_some waiting ≡ false → GoesOn old new
goes_unwaited_before old new seat waiting store log only was out none =
    let free : (waits_in old.tables).waiting seat ≡ None = sym was ∙ no_thing waiting none in
    let same : waits_in new.tables ≡ waits_in old.tables =
    out ∙ ap (λ n. wait_out seat n (waits_in old.tables)) free ∙ wait_none_out seat (waits_in old.tables) free in
    goes_still old new store log (ap links only.links) same only.index (forms_same old.tables new.tables only.forms)

-- a seat waits now
pub goes_waiting : (old new : Transaction) (seat : Seat) (waiting : Waiting) → steps_of new ≡ steps_of old ++ ToWait seat None ∷ [] → new.store ≡ old.store → OnlyWaitsAndForms old.tables new.tables
    → (waits_in old.tables).waiting seat ≡ None → waits_in new.tables ≡ with_waiting seat (Some waiting) (waits_in old.tables) → GoesOn old new
goes_waiting old new seat waiting steps store only free came =
    let links_same : links_in new.tables ≡ links_in old.tables = ap links only.links in
    goes_one old new (ToWait seat None) steps
    ((λ i. record { numbered = store i; index = only.index i; links = (links_same i).key_of; waits = at_seat seat None (came i).waiting })
    ∙ (λ i. record { numbered = old.store; index = old.tables.index; links = (links_in old.tables).key_of; waits = λ s. set_back seat None (Some waiting) (waits_in old.tables).waiting (sym free) s i }))
    tt
    (λ r. subst (λ l. HaveRooms l (links_in new.tables) (waits_in new.tables)) (sym steps)
    (subst (λ (l : Links). HaveRooms (steps_of old ++ ToWait seat None ∷ []) l (waits_in new.tables)) (sym links_same)
    (subst (λ (w : Waits). HaveRooms (steps_of old ++ ToWait seat None ∷ []) (links_in old.tables) w) (sym came)
    (rooms_waited (steps_of old ++ ToWait seat None ∷ []) seat waiting (links_in old.tables) (waits_in old.tables)
    (rooms_more (steps_of old) (ToWait seat None) (links_in old.tables) (waits_in old.tables)
    (record { links = λ s. refl; keys = λ n s. refl; waits = λ s. refl; forms = λ n s. refl; names = λ n s. refl }) r)))))
    (record { forms = only.forms })

pub rows_then : (a b c : CatalogueTables) → FormsKeep a b → FormsKeep b c → FormsKeep a c
rows_then a b c first second = record { forms = keeps_then same_form a.forms b.forms c.forms first.forms second.forms }

-- one after another
pub goes_then : (a b c : Transaction) → GoesOn a b → GoesOn b c → GoesOn a c
goes_then a b c first second = record {
  more = first.more ++ second.more;
  steps = second.steps ∙ ap (λ l. l ++ second.more) first.steps ∙ join_assoc (steps_of a) first.more second.more;
  back = back_join first.more second.more (contents c) ∙ ap (apply_back first.more) second.back ∙ first.back;
  can = can_join first.more second.more (contents c) (subst (λ x. CanGoBack first.more x) (sym second.back) first.can) second.can;
  rooms = λ r. second.rooms (first.rooms r);
  rows = rows_then a.tables b.tables c.tables first.rows second.rows;
}

-- ---- the way back

pub take_push : (n : ℕ) (xs : List Step) (x : Step) → n ≤ length xs → take n (xs ++ x ∷ []) ≡ take n xs
take_push zero xs x low = refl
take_push (suc n) [] x low = absurd (omega (arith, low))
take_push (suc n) (y ∷ ys) x low = ap (λ l. y ∷ l) (take_push n ys x (omega (arith, low)))

pub drop_push : (n : ℕ) (xs : List Step) (x : Step) → n ≤ length xs → drop n (xs ++ x ∷ []) ≡ drop n xs ++ x ∷ []
drop_push zero xs x low = refl
drop_push (suc n) [] x low = absurd (omega (arith, low))
drop_push (suc n) (y ∷ ys) x low = drop_push n ys x (omega (arith, low))

pub take_short : (n : ℕ) (xs : List Step) → length xs ≤ n → take n xs ≡ xs
take_short zero [] low = refl
take_short zero (y ∷ ys) low = absurd (omega (arith, low))
take_short (suc n) [] low = refl
take_short (suc n) (y ∷ ys) low = ap (λ l. y ∷ l) (take_short n ys (omega (arith, low)))

pub drop_short : (n : ℕ) (xs : List Step) → length xs ≤ n → drop n xs ≡ []
drop_short zero [] low = refl
drop_short zero (y ∷ ys) low = absurd (omega (arith, low))
drop_short (suc n) [] low = refl
drop_short (suc n) (y ∷ ys) low = drop_short n ys (omega (arith, low))

pub steps_long : (changes : List Change) → length (map step_of changes) ≡ length changes
steps_long [] = refl
steps_long (x ∷ xs) = let rest = steps_long xs in omega (arith, rest)

-- how far the way back has come
pub record IsUnderWay (position : ℕ) (start now : Transaction) : Type 0 where
  pub front : take position (steps_of now) ≡ take position (steps_of start)
  pub back : apply_back (drop position (steps_of now)) (contents now) ≡ apply_back (drop position (steps_of start)) (contents start)
  pub can : CanGoBack (steps_of now) (contents now)
  pub rooms : IsRoomy now
  pub same : SameForms start.tables now.tables

pub under_way : (position : ℕ) (start : Transaction) → CanGoBack (steps_of start) (contents start) → IsRoomy start → IsUnderWay position start start
under_way position start can rooms = record { front = refl; back = refl; can = can; rooms = rooms; same = record { forms = refl } }

module _ (position : ℕ) (start now popped : Transaction) (change : Change) (way : IsUnderWay position start now) (is : now.log.items ≡ popped.log.items ++ change ∷ [])
    (store : popped.store ≡ now.store) (tables : popped.tables ≡ now.tables) where
  parted : steps_of now ≡ steps_of popped ++ step_of change ∷ []
  parted = steps_pushed popped.log.items now.log.items change is

  same_contents : contents popped ≡ contents now
  same_contents = λ i. record { numbered = store i; index = (tables i).index; links = (links_in (tables i)).key_of; waits = (waits_in (tables i)).waiting }

  less : CanGoBack (steps_of popped) (apply (step_of change) (contents now)) × Fits (step_of change) (contents now)
  less = can_less (steps_of popped) (step_of change) (contents now) (subst (λ l. CanGoBack l (contents now)) parted way.can)

  pub popped_fits : Fits (step_of change) (contents popped)
  popped_fits = subst (λ x. Fits (step_of change) x) (sym same_contents) less.1

  pub popped_rooms : HaveRooms (steps_of popped ++ step_of change ∷ []) (links_in popped.tables) (waits_in popped.tables)
  popped_rooms =
      subst (λ (t : CatalogueTables). HaveRooms (steps_of popped ++ step_of change ∷ []) (links_in t) (waits_in t)) (sym tables)
      (subst (λ l. HaveRooms l (links_in now.tables) (waits_in now.tables)) parted way.rooms)

  pub one_less : (next : Transaction) → position ≤ length popped.log.items → TakesBack (step_of change) popped next → IsUnderWay position start next
  one_less next low takes =
      let far : position ≤ length (steps_of popped) = let e = steps_long popped.log.items in omega (arith, e, low) in
      let left : steps_of next ≡ steps_of popped = ap (map step_of) takes.log in
      let there : contents next ≡ apply (step_of change) (contents now) = takes.now ∙ ap (apply (step_of change)) same_contents in
      record {
        front = ap (take position) left ∙ sym (take_push position (steps_of popped) (step_of change) far) ∙ ap (take position) (sym parted) ∙ way.front;
        back =
            ap (λ l. apply_back (drop position l) (contents next)) left ∙ ap (apply_back (drop position (steps_of popped))) there
            ∙ sym (back_join (drop position (steps_of popped)) (step_of change ∷ []) (contents now))
            ∙ ap (λ l. apply_back l (contents now)) (sym (drop_push position (steps_of popped) (step_of change) far) ∙ ap (drop position) (sym parted))
            ∙ way.back;
        can = subst (λ l. CanGoBack l (contents next)) (sym left) (subst (λ x. CanGoBack (steps_of popped) x) (sym there) less.0);
        rooms = subst (λ l. HaveRooms l (links_in next.tables) (waits_in next.tables)) (sym left) (takes.rooms (steps_of popped) popped_rooms);
        same = record { forms = takes.same.forms ∙ ap (λ (t : CatalogueTables). t.forms) tables ∙ way.same.forms };
      }

-- ---- keeping

-- an index with the rows that it had, and after another
pub keeps_none : (x : Indexed) → KeepsRows x x
keeps_none x = record { rows = λ n. refl; ordered = λ keys order. order }

pub keeps_as : (x y : Indexed) → y ≡ x → KeepsRows x y
keeps_as x y e = subst (λ z. KeepsRows x z) (sym e) (keeps_none x)

keeps_both : (x y z : Indexed) → KeepsRows x y → KeepsRows y z → KeepsRows x z
keeps_both x y z first second = record { rows = λ n. second.rows n ∙ first.rows n; ordered = λ keys order. second.ordered keys (first.ordered keys order) }

pub record IsKeeping (start here : Transaction) : Type 0 where
  pub now : StaysButHeld (contents start) (contents here)
  pub rooms : IsRoomy here
  pub same : SameForms start.tables here.tables

pub keeping : (start : Transaction) → IsRoomy start → IsKeeping start start
keeping start rooms = record { now = record { numbered = refl; index = keeps_none start.tables.index; links = refl; waits = refl }; rooms = rooms; same = record { forms = refl } }

module _ (start now popped : Transaction) (change : Change) (way : IsKeeping start now) (is : now.log.items ≡ popped.log.items ++ change ∷ []) (tables : popped.tables ≡ now.tables) where
  pub last_rooms : HaveRooms (steps_of popped ++ step_of change ∷ []) (links_in popped.tables) (waits_in popped.tables)
  last_rooms =
      subst (λ (t : CatalogueTables). HaveRooms (steps_of popped ++ step_of change ∷ []) (links_in t) (waits_in t)) (sym tables)
      (subst (λ l. HaveRooms l (links_in now.tables) (waits_in now.tables)) (steps_pushed popped.log.items now.log.items change is) way.rooms)

  pub one_gone : (next : Transaction) → next.store ≡ now.store → next.log.items ≡ popped.log.items → LetsGo (step_of change) popped.tables next.tables → IsKeeping start next
  one_gone next store log gone = record {
    now = record {
      numbered = store ∙ way.now.numbered;
      index =
          keeps_both start.tables.index popped.tables.index next.tables.index
          (subst (λ (t : CatalogueTables). KeepsRows start.tables.index t.index) (sym tables) way.now.index) gone.index;
      links = gone.links ∙ ap (λ (t : CatalogueTables). (links_in t).key_of) tables ∙ way.now.links;
      waits = gone.waits ∙ ap (λ (t : CatalogueTables). (waits_in t).waiting) tables ∙ way.now.waits;
    };
    rooms = subst (λ l. HaveRooms l (links_in next.tables) (waits_in next.tables)) (sym (ap (map step_of) log)) (gone.rooms (steps_of popped) last_rooms);
    same = record { forms = gone.same.forms ∙ ap (λ (t : CatalogueTables). t.forms) tables ∙ way.same.forms };
  }

-- the row that was added is what the seat waits for
pub waits_from : (old new : Transaction) (seat : Seat) (asked : List Form) (keys : List ℕ) → new.store ≡ old.store → OnlyWaitsAndForms old.tables new.tables
    → AddsWait new.tables.forms seat asked keys (waits_in old.tables) (waits_in new.tables) → WaitsNow seat asked keys old new
waits_from old new seat asked keys store only adds =
    let links_same : links_in new.tables ≡ links_in old.tables = ap links only.links in
    let came : waits_in new.tables ≡ with_waiting seat (Some adds.row.waiting) (waits_in old.tables) =
    adds.is ∙ ap (λ (s : Seat). with_waiting s (Some adds.row.waiting) (waits_in old.tables)) adds.seat_is in
    record {
      waiting = adds.row.waiting;
      asked_are = adds.asked_are;
      keys_are = adds.keys_are;
      now = λ i. record { numbered = store i; index = only.index i; links = (links_same i).key_of; waits = (came i).waiting };
    }

-- ---- one step back

pub forms_only : (old new : CatalogueTables) → new.forms ≡ old.forms → SameForms old new
forms_only old new forms = record { forms = forms }

-- a thing comes back to a seat from which what stood there went
pub set_again : {V : Type 0} (seat : Seat) (was now : Option V) (things : Seat → Option V) (s : Seat) → at_seat seat was (at_seat seat now things) s ≡ at_seat seat was things s
set_again {V} seat was now things s = by (same_seat seat s)
  where
    by : (b : Bool) → cond b was (cond b now (things s)) ≡ cond b was (things s)
    by true = refl
    by false = refl

back_links : (seat : Seat) (number : Option ℕ) (l : Links) (s : Seat) → (link_back seat number (with_key seat None l)).key_of s ≡ at_seat seat number l.key_of s
back_links seat None l s = refl
back_links seat (Some number) l s = set_again seat (Some number) None l.key_of s

back_waits : (seat : Seat) (waiting : Option Waiting) (w : Waits) (s : Seat) → (wait_back seat waiting (with_waiting seat None w)).waiting s ≡ at_seat seat waiting w.waiting s
back_waits seat None w s = refl
back_waits seat (Some waiting) w s = set_again seat (Some waiting) None w.waiting s

pub back_linked : (old new : Transaction) (seat : Seat) (number : Option ℕ) → new.store ≡ old.store → new.log.items ≡ old.log.items → OnlyLinks old.tables new.tables
    → links_in new.tables ≡ link_back seat number (with_key seat None (links_in old.tables)) → TakesBack (ToLink seat number) old new
back_linked old new seat number store log only is =
    let waits_same : waits_in new.tables ≡ waits_in old.tables = ap waits only.waits in
    record {
      now = (λ i. record { numbered = store i; index = only.index i; links = (is i).key_of; waits = (waits_same i).waiting })
          ∙ (λ i. record { numbered = old.store; index = old.tables.index; links = λ s. back_links seat number (links_in old.tables) s i; waits = (waits_in old.tables).waiting });
      rooms = λ steps r.
          subst (λ (w : Waits). HaveRooms steps (links_in new.tables) w) (sym waits_same)
          (subst (λ (l : Links). HaveRooms steps l (waits_in old.tables)) (sym is) (rooms_relinked steps seat number (links_in old.tables) (waits_in old.tables) r));
      same = forms_only old.tables new.tables only.forms;
      log = log;
    }

pub back_waiting : (old new : Transaction) (seat : Seat) (waiting : Option Waiting) → new.store ≡ old.store → new.log.items ≡ old.log.items → OnlyWaits old.tables new.tables
    → waits_in new.tables ≡ wait_back seat waiting (with_waiting seat None (waits_in old.tables)) → TakesBack (ToWait seat waiting) old new
back_waiting old new seat waiting store log only is =
    let links_same : links_in new.tables ≡ links_in old.tables = ap links only.links in
    record {
      now = (λ i. record { numbered = store i; index = only.index i; links = (links_same i).key_of; waits = (is i).waiting })
          ∙ (λ i. record { numbered = old.store; index = old.tables.index; links = (links_in old.tables).key_of; waits = λ s. back_waits seat waiting (waits_in old.tables) s i });
      rooms = λ steps r.
          subst (λ (l : Links). HaveRooms steps l (waits_in new.tables)) (sym links_same)
          (subst (λ (w : Waits). HaveRooms steps (links_in old.tables) w) (sym is) (rooms_rewaited steps seat waiting (links_in old.tables) (waits_in old.tables) r));
      same = forms_only old.tables new.tables only.forms;
      log = log;
    }

-- what touches the store alone
pub back_stored : (old new : Transaction) (step : Step) → new.tables ≡ old.tables → new.log.items ≡ old.log.items → contents new ≡ apply step (contents old) → TakesBack step old new
back_stored old new step tables log now = record {
  now = now;
  rooms = λ steps r.
      subst (λ (t : CatalogueTables). HaveRooms steps (links_in t) (waits_in t)) (sym tables) (rooms_less steps step (links_in old.tables) (waits_in old.tables) r);
  same = forms_only old.tables new.tables (ap (λ (t : CatalogueTables). t.forms) tables);
  log = log;
}

-- ---- one step let go

pub gone_stored : (step : Step) (tables : CatalogueTables) → LetsGo step tables tables
gone_stored step tables = record {
  index = keeps_none tables.index;
  links = refl;
  waits = refl;
  rooms = λ steps r. rooms_less steps step (links_in tables) (waits_in tables) r;
  same = forms_only tables tables refl;
}

gone_links : (seat : Seat) (number : Option ℕ) (l : Links) → (link_gone seat number l).key_of ≡ l.key_of
gone_links seat None l = refl
gone_links seat (Some number) l = refl

gone_waits : (seat : Seat) (waiting : Option Waiting) (w : Waits) → (wait_gone seat waiting w).waiting ≡ w.waiting
gone_waits seat None w = refl
gone_waits seat (Some waiting) w = refl

pub gone_linked : (old new : CatalogueTables) (seat : Seat) (number : Option ℕ) → OnlyLinks old new → links_in new ≡ link_gone seat number (links_in old) → LetsGo (ToLink seat number) old new
gone_linked old new seat number only is =
    let waits_same : waits_in new ≡ waits_in old = ap waits only.waits in
    record {
      index = keeps_as old.index new.index only.index;
      links = ap (λ (l : Links). l.key_of) is ∙ gone_links seat number (links_in old);
      waits = ap (λ (w : Waits). w.waiting) waits_same;
      rooms = λ steps r.
          subst (λ (w : Waits). HaveRooms steps (links_in new) w) (sym waits_same)
          (subst (λ (l : Links). HaveRooms steps l (waits_in old)) (sym is) (rooms_link_gone steps seat number (links_in old) (waits_in old) r));
      same = forms_only old new only.forms;
    }

pub gone_waiting : (old new : CatalogueTables) (seat : Seat) (waiting : Option Waiting) → OnlyWaits old new → waits_in new ≡ wait_gone seat waiting (waits_in old) → LetsGo (ToWait seat waiting) old new
gone_waiting old new seat waiting only is =
    let links_same : links_in new ≡ links_in old = ap links only.links in
    record {
      index = keeps_as old.index new.index only.index;
      links = ap (λ (l : Links). l.key_of) links_same;
      waits = ap (λ (w : Waits). w.waiting) is ∙ gone_waits seat waiting (waits_in old);
      rooms = λ steps r.
          subst (λ (l : Links). HaveRooms steps l (waits_in new)) (sym links_same)
          (subst (λ (w : Waits). HaveRooms steps (links_in old) w) (sym is) (rooms_wait_gone steps seat waiting (links_in old) (waits_in old) r));
      same = forms_only old new only.forms;
    }

-- the row of the last step is out
pub row_out : (steps : List Step) (step : Step) (tables : CatalogueTables) → HaveRooms (steps ++ step ∷ []) (links_in tables) (waits_in tables) → IsRowOut step tables
row_out steps (ToRecord class number r) tables rooms = tt
row_out steps (ToIndex number row) tables rooms = tt
row_out steps (ToLink seat number) tables rooms = last_link_out steps seat number (links_in tables) (waits_in tables) rooms
row_out steps (ToWait seat waiting) tables rooms = last_wait_out steps seat waiting (links_in tables) (waits_in tables) rooms
