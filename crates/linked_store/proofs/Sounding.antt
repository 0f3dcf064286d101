-- The tables agree with the records now, at the mark and before all changes: through growth, changes and the way back.
use Rattle.std.proofs.Common.{◌≡◌, ◌∙◌, sym, ap, refl, subst, ℕ, zero, suc, ◌+◌, ◌<◌, ◌≤◌, arith, List, [], ◌∷◌, ◌++◌, length, length-append, take, drop, Option}
use Rattle.numbering.specs.declared.seat.Seat.{Seat}
use Rattle.wait_table.specs.declared.waiting.Waiting.{Waiting}
use Rattle.numbered_store.specs.Numbered.{Grows, Numbered, KeyNumbers, with_record}
use Rattle.numbered_store.proofs.Growing.{record_state}
use Rattle.numbering.specs.Numbers.{Keeps}
use Rattle.marc_types.specs.Order.{same_key}
use Rattle.std.specs.List.{IsDistinct}
use Rattle.form_index.proofs.Growing.{order_kept}
use Rattle.catalogue_tables.specs.Following.{restored, without_row}
use Rattle.catalogue_tables.proofs.WaysBack.{way_stays}
use Rattle.catalogue_tables.proofs.Followed.{tells_rows_kept}
use Rattle.catalogue_rules.specs.State.{State, linkable_authorities}
use Rattle.catalogue_tables.specs.Seam.{AreDistinct, KeysKeep}
use Rattle.linked_store.specs.Contents.{CanGoBack, Contents, CanReturn, Fits, Step, ToIndex, ToLink, ToRecord, ToWait, apply, apply_back, at_seat}
use Rattle.linked_store.specs.Transactions.{FormsKeep, GoesBack, GoesOn, IsKept, IsRoomy, StaysButHeld, contents, steps_of}
use Rattle.catalogue_tables.specs.declared.tables.CatalogueTables.{CatalogueTables}
use Rattle.linked_store.proofs.Noted.{forms_same}
use Rattle.linked_store.specs.Linked.{Linked}
use Rattle.linked_store.specs.Sound.{AgreesWith, IsSound, at_mark, at_start, key_lists, keys_of, linked_view, state_in}
use Rattle.linked_store.specs.declared.transaction.Transaction.{Transaction}
use Rattle.linked_store.proofs.Agreed.{agrees_grown, keys_keep}
use Rattle.linked_store.proofs.Going.{back_join, can_join}

-- ---- keys that grow

pub record GrowsTo (c d : Contents) : Type 0 where
  pub numbered : Grows c.numbered d.numbered
  pub keep : Keeps same_key c.numbered.keys.authorities d.numbered.keys.authorities
  pub distinct : IsDistinct same_key c.numbered.keys.authorities
  pub index : d.index ≡ c.index
  pub links : d.links ≡ c.links
  pub waits : d.waits ≡ c.waits

-- with another state of the records, and the same keys
abbrev in_state : State → Contents → Contents
in_state s c = record { numbered = record { state = s; keys = c.numbered.keys }; index = c.index; links = c.links; waits = c.waits }

state_grown : (c d : Contents) (s t : State) → GrowsTo c d → t ≡ s → GrowsTo (in_state s c) (in_state t d)
state_grown c d s t grows same = record {
  numbered = record { state = same; longer = λ k n low. grows.numbered.longer k n low; same_key = λ k n low. grows.numbered.same_key k n low };
  keep = grows.keep;
  distinct = grows.distinct;
  index = grows.index;
  links = grows.links;
  waits = grows.waits;
}

step_grown : (step : Step) (c d : Contents) → GrowsTo c d → Fits step c → Fits step d × GrowsTo (apply step c) (apply step d)
step_grown (ToRecord class number r) c d grows fits =
    let same = record_state c.numbered d.numbered grows.numbered class number r fits in
    (grows.numbered.longer class number fits, state_grown c d (with_record class number r c.numbered).state (with_record class number r d.numbered).state grows same)
step_grown (ToIndex number row) c d grows fits =
    let here : CanReturn d.numbered.keys.authorities number row c.index = record {
      known = let low : number < length c.numbered.keys.authorities = fits.known in let long = grows.keep.longer in omega (arith, low, long);
      ordered = order_kept c.numbered.keys.authorities d.numbered.keys.authorities grows.keep grows.distinct c.index fits.ordered;
      held = fits.held;
      ordered_without = order_kept c.numbered.keys.authorities d.numbered.keys.authorities grows.keep grows.distinct (without_row number c.index) fits.ordered_without;
    } in
    let way = way_stays c.numbered.keys.authorities d.numbered.keys.authorities number row (restored c.numbered.keys.authorities number row c.index) c.index grows.distinct grows.keep fits.known
    (record { held = fits.held; restores = refl; ordered = fits.ordered_without }) in (
      subst (λ x. CanReturn d.numbered.keys.authorities number row x) (sym grows.index) here,
      record {
        numbered = grows.numbered;
        keep = grows.keep;
        distinct = grows.distinct;
        index = ap (restored d.numbered.keys.authorities number row) grows.index ∙ way.restores;
        links = grows.links;
        waits = grows.waits;
      },
    )
step_grown (ToLink seat number) c d grows fits =
    (tt, record { numbered = grows.numbered; keep = grows.keep; distinct = grows.distinct; index = grows.index; links = ap (λ (l : Seat → Option ℕ). at_seat seat number l) grows.links; waits = grows.waits })
step_grown (ToWait seat waiting) c d grows fits =
    (tt, record { numbered = grows.numbered; keep = grows.keep; distinct = grows.distinct; index = grows.index; links = grows.links; waits = ap (λ (l : Seat → Option Waiting). at_seat seat waiting l) grows.waits })

pub back_grown : (steps : List Step) (c d : Contents) → GrowsTo c d → CanGoBack steps c → CanGoBack steps d × GrowsTo (apply_back steps c) (apply_back steps d)
back_grown [] c d grows can = (tt, grows)
back_grown (step ∷ steps) c d grows can =
    let rest = back_grown steps c d grows can.0 in
    let here = step_grown step (apply_back steps c) (apply_back steps d) rest.1 can.1 in
    ((rest.0, here.0), here.1)

-- ---- keys stay on the way back

keys_step : (step : Step) (c : Contents) → (apply step c).numbered.keys ≡ c.numbered.keys
keys_step (ToRecord class number r) c = refl
keys_step (ToIndex number row) c = refl
keys_step (ToLink seat number) c = refl
keys_step (ToWait seat waiting) c = refl

pub keys_back : (steps : List Step) (c : Contents) → (apply_back steps c).numbered.keys ≡ c.numbered.keys
keys_back [] c = refl
keys_back (step ∷ steps) c = keys_step step (apply_back steps c) ∙ keys_back steps c

keys_then : (more rest : List Step) (c d : Contents) → KeysKeep (keys_of c) (keys_of d) → KeysKeep (keys_of (apply_back more c)) (keys_of (apply_back rest d))
keys_then more rest c d keep =
    subst (λ (k : KeyNumbers). KeysKeep (key_lists k) (keys_of (apply_back rest d))) (sym (keys_back more c))
    (subst (λ (k : KeyNumbers). KeysKeep (keys_of c) (key_lists k)) (sym (keys_back rest d)) keep)

-- the tables that agreed behind some steps agree there once keys and forms have got numbers
agrees_behind : (steps : List Step) (old new : CatalogueTables) (c d : Contents) → FormsKeep old new → AreDistinct (keys_of c) → KeysKeep (keys_of c) (keys_of d) → GrowsTo (apply_back steps c) (apply_back steps d)
    → AgreesWith old (apply_back steps c) → AgreesWith new (apply_back steps d)
agrees_behind steps old new c d rows distinct keep grows agrees =
    agrees_grown old new (apply_back steps c) (apply_back steps d) rows (subst (λ (k : KeyNumbers). AreDistinct (key_lists k)) (sym (keys_back steps c)) distinct) (keys_then steps steps c d keep) grows.index grows.links grows.waits grows.numbered.state agrees

can_drop : (n : ℕ) (steps : List Step) (c : Contents) → CanGoBack steps c → CanGoBack (drop n steps) c
can_drop zero steps c can = can
can_drop (suc n) [] c can = tt
can_drop (suc n) (step ∷ steps) c can = can_drop n steps c can.0

-- keys and forms got numbers, and nothing else
pub record IsGrown (f g : Transaction) : Type 0 where
  pub grows : GrowsTo (contents f) (contents g)
  pub keep : KeysKeep (keys_of (contents f)) (keys_of (contents g))
  pub distinct : AreDistinct (keys_of (contents g))
  pub rows : FormsKeep f.tables g.tables
  pub steps : steps_of g ≡ steps_of f
  pub rooms : IsRoomy f → IsRoomy g

module _ (f g : Transaction) (marked : ℕ) (grown : IsGrown f g) (sound : IsSound f marked) where
  along : CanGoBack (steps_of f) (contents g) × GrowsTo (at_start f) (apply_back (steps_of f) (contents g))
  along = back_grown (steps_of f) (contents f) (contents g) grown.grows sound.can

  to_mark : CanGoBack (drop marked (steps_of f)) (contents g) × GrowsTo (at_mark f marked) (apply_back (drop marked (steps_of f)) (contents g))
  to_mark = back_grown (drop marked (steps_of f)) (contents f) (contents g) grown.grows (can_drop marked (steps_of f) (contents f) sound.can)

  pub sound_grown : IsSound g marked
  sound_grown = record {
    distinct = grown.distinct;
    low = subst (λ (l : List Step). marked ≤ length l) (sym grown.steps) sound.low;
    can = subst (λ (l : List Step). CanGoBack l (contents g)) (sym grown.steps) along.0;
    rooms = grown.rooms sound.rooms;
    now = agrees_behind [] f.tables g.tables (contents f) (contents g) grown.rows sound.distinct grown.keep grown.grows sound.now;
    mark =
        subst (λ (l : List Step). AgreesWith g.tables (apply_back (drop marked l) (contents g))) (sym grown.steps)
        (agrees_behind (drop marked (steps_of f)) f.tables g.tables (contents f) (contents g) grown.rows sound.distinct grown.keep to_mark.1 sound.mark);
    start =
        subst (λ (l : List Step). AgreesWith g.tables (apply_back l (contents g))) (sym grown.steps)
        (agrees_behind (steps_of f) f.tables g.tables (contents f) (contents g) grown.rows sound.distinct grown.keep along.1 sound.start);
  }

  pub marked_grown : state_in (at_mark g marked) ≡ state_in (at_mark f marked)
  marked_grown = ap (λ (l : List Step). state_in (apply_back (drop marked l) (contents g))) grown.steps ∙ to_mark.1.numbered.state

  pub before_grown : state_in (at_start g) ≡ state_in (at_start f)
  before_grown = ap (λ (l : List Step). state_in (apply_back l (contents g))) grown.steps ∙ along.1.numbered.state

-- ---- changes

drop_join : (n : ℕ) (xs ys : List Step) → n ≤ length xs → drop n (xs ++ ys) ≡ drop n xs ++ ys
drop_join zero xs ys low = refl
drop_join (suc n) [] ys low = absurd (omega (arith, low))
drop_join (suc n) (x ∷ xs) ys low = drop_join n xs ys (omega (arith, low))

-- what agreed behind some steps agrees by more forms
pub agrees_still : (old new : CatalogueTables) (steps : List Step) (c : Contents) → FormsKeep old new → AreDistinct (keys_of c) → AgreesWith old (apply_back steps c) → AgreesWith new (apply_back steps c)
agrees_still old new steps c rows distinct agrees =
    agrees_grown old new (apply_back steps c) (apply_back steps c) rows (subst (λ (k : KeyNumbers). AreDistinct (key_lists k)) (sym (keys_back steps c)) distinct)
    (keys_keep (keys_of (apply_back steps c))) refl refl refl refl agrees

-- the transaction went on, and its keys stayed
module _ (f g : Transaction) (marked : ℕ) (goes : GoesOn f g) (keys : g.store.keys ≡ f.store.keys) (sound : IsSound f marked) where
  pub start_stays : at_start g ≡ at_start f
  start_stays =
      ap (λ (l : List Step). apply_back l (contents g)) goes.steps ∙ back_join (steps_of f) goes.more (contents g) ∙ ap (apply_back (steps_of f)) goes.back

  pub mark_stays : at_mark g marked ≡ at_mark f marked
  mark_stays =
      ap (λ (l : List Step). apply_back l (contents g)) (ap (drop marked) goes.steps ∙ drop_join marked (steps_of f) goes.more sound.low)
      ∙ back_join (drop marked (steps_of f)) goes.more (contents g) ∙ ap (apply_back (drop marked (steps_of f))) goes.back

  -- what agreed agrees by more forms
  by_forms : (steps : List Step) → AgreesWith f.tables (apply_back steps (contents f)) → AgreesWith g.tables (apply_back steps (contents f))
  by_forms steps agrees = agrees_still f.tables g.tables steps (contents f) goes.rows sound.distinct agrees

  pub sound_on : AgreesWith g.tables (contents g) → IsSound g marked
  sound_on agrees = record {
    distinct = subst (λ (k : KeyNumbers). AreDistinct (key_lists k)) (sym keys) sound.distinct;
    low =
        let long : length (steps_of g) ≡ length (steps_of f) + length goes.more = ap (λ (l : List Step). length l) goes.steps ∙ length-append (steps_of f) goes.more in
        let low : marked ≤ length (steps_of f) = sound.low in
        omega (arith, long, low);
    can =
        subst (λ (l : List Step). CanGoBack l (contents g)) (sym goes.steps)
        (can_join (steps_of f) goes.more (contents g) (subst (λ x. CanGoBack (steps_of f) x) (sym goes.back) sound.can) goes.can);
    rooms = goes.rooms sound.rooms;
    now = agrees;
    mark = subst (λ x. AgreesWith g.tables x) (sym mark_stays) (by_forms (drop marked (steps_of f)) sound.mark);
    start = subst (λ x. AgreesWith g.tables x) (sym start_stays) (by_forms (steps_of f) sound.start);
  }

-- ---- the way back

-- the same contents and the same steps, where forms may have got numbers
module _ (f g : Transaction) (marked : ℕ) (steps : steps_of g ≡ steps_of f) (now : contents g ≡ contents f) (sound : IsSound f marked) where
  pub same_start : at_start g ≡ at_start f
  same_start = λ i. apply_back (steps i) (now i)

  pub same_mark : at_mark g marked ≡ at_mark f marked
  same_mark = λ i. apply_back (drop marked (steps i)) (now i)

  pub same_view : linked_view g marked ≡ linked_view f marked
  same_view = λ i. record { state = state_in (now i); keys = keys_of (now i); marked = state_in (same_mark i); before = state_in (same_start i) }

  pub sound_same : FormsKeep f.tables g.tables → IsRoomy g → IsSound g marked
  sound_same rows rooms =
      let by : (steps : List Step) (d : Contents) → d ≡ apply_back steps (contents f) → AgreesWith f.tables (apply_back steps (contents f)) → AgreesWith g.tables d = λ steps d e agrees.
      subst (λ x. AgreesWith g.tables x) (sym e) (agrees_still f.tables g.tables steps (contents f) rows sound.distinct agrees) in
      record {
        distinct = subst (λ (c : Contents). AreDistinct (keys_of c)) (sym now) sound.distinct;
        low = subst (λ (l : List Step). marked ≤ length l) (sym steps) sound.low;
        can = subst (λ (l : List Step). CanGoBack l (contents g)) (sym steps) (subst (λ c. CanGoBack (steps_of f) c) (sym now) sound.can);
        rooms = rooms;
        now = by [] (contents g) now sound.now;
        mark = by (drop marked (steps_of f)) (at_mark g marked) same_mark sound.mark;
        start = by (steps_of f) (at_start g) same_start sound.start;
      }

take_join : (xs ys : List Step) → take (length xs) (xs ++ ys) ≡ xs
take_join [] ys = refl
take_join (x ∷ xs) ys = ap (λ l. x ∷ l) (take_join xs ys)

drop_own : (xs ys : List Step) → drop (length xs) (xs ++ ys) ≡ ys
drop_own [] ys = refl
drop_own (x ∷ xs) ys = drop_own xs ys

take_drop : (n : ℕ) (xs : List Step) → take n xs ++ drop n xs ≡ xs
take_drop zero xs = refl
take_drop (suc n) [] = refl
take_drop (suc n) (x ∷ xs) = ap (λ l. x ∷ l) (take_drop n xs)

drop_taken : (n : ℕ) (xs : List Step) → drop n (take n xs) ≡ []
drop_taken zero xs = refl
drop_taken (suc n) [] = refl
drop_taken (suc n) (x ∷ xs) = drop_taken n xs

taken_long : (n : ℕ) (xs : List Step) → n ≤ length xs → n ≤ length (take n xs)
taken_long zero xs low = omega arith
taken_long (suc n) [] low = low
taken_long (suc n) (x ∷ xs) low = let rest = taken_long n xs (omega (arith, low)) in omega (arith, rest)

-- back to where some changes began
pub steps_undone : (f middle g : Transaction) → GoesOn f middle → GoesBack (length (steps_of f)) middle g → steps_of g ≡ steps_of f
steps_undone f middle g goes back = back.steps ∙ ap (take (length (steps_of f))) goes.steps ∙ take_join (steps_of f) goes.more

pub now_undone : (f middle g : Transaction) → GoesOn f middle → GoesBack (length (steps_of f)) middle g → contents g ≡ contents f
now_undone f middle g goes back =
    back.now ∙ ap (λ (l : List Step). apply_back l (contents middle)) (ap (drop (length (steps_of f))) goes.steps ∙ drop_own (steps_of f) goes.more) ∙ goes.back

-- back to the mark
module _ (f g : Transaction) (marked : ℕ) (back : GoesBack marked f g) (sound : IsSound f marked) where
  mark_now : at_mark g marked ≡ contents g
  mark_now = ap (λ (l : List Step). apply_back l (contents g)) (ap (drop marked) back.steps ∙ drop_taken marked (steps_of f))

  pub start_now : at_start g ≡ at_start f
  start_now =
      (λ i. apply_back (back.steps i) (back.now i)) ∙ sym (back_join (take marked (steps_of f)) (drop marked (steps_of f)) (contents f))
      ∙ ap (λ (l : List Step). apply_back l (contents f)) (take_drop marked (steps_of f))

  pub sound_marked : IsSound g marked
  sound_marked =
      let by : (steps : List Step) (d : Contents) → d ≡ apply_back steps (contents f) → AgreesWith f.tables (apply_back steps (contents f)) → AgreesWith g.tables d = λ steps d e agrees.
      subst (λ x. AgreesWith g.tables x) (sym e)
      (agrees_still f.tables g.tables steps (contents f) (forms_same f.tables g.tables back.same.forms) sound.distinct agrees) in
      record {
        distinct =
            subst (λ (k : KeyNumbers). AreDistinct (key_lists k)) (sym (ap (λ (c : Contents). c.numbered.keys) back.now ∙ keys_back (drop marked (steps_of f)) (contents f))) sound.distinct;
        low = subst (λ (l : List Step). marked ≤ length l) (sym back.steps) (taken_long marked (steps_of f) sound.low);
        can = back.can;
        rooms = back.rooms;
        now = by (drop marked (steps_of f)) (contents g) back.now sound.mark;
        mark = by (drop marked (steps_of f)) (at_mark g marked) (mark_now ∙ back.now) sound.mark;
        start = by (steps_of f) (at_start g) start_now sound.start;
      }

  pub view_marked : linked_view g marked ≡ record { state = state_in (at_mark f marked); keys = keys_of (contents f); marked = state_in (at_mark f marked); before = state_in (at_start f) }
  view_marked = λ i. record {
    state = state_in (back.now i);
    keys = key_lists ((ap (λ (c : Contents). c.numbered.keys) back.now ∙ keys_back (drop marked (steps_of f)) (contents f)) i);
    marked = state_in ((mark_now ∙ back.now) i);
    before = state_in (start_now i);
  }

-- what callers see behind the way to the mark, and to the start
abbrev pub rolled_back : Linked → Linked
rolled_back x = record { state = x.marked; keys = x.keys; marked = x.marked; before = x.before }

abbrev pub undone : Linked → Linked
undone x = record { state = x.before; keys = x.keys; marked = x.before; before = x.before }

-- back to what was before all changes
module _ (f g : Transaction) (marked : ℕ) (back : GoesBack 0 f g) (sound : IsSound f marked) where
  from_start : IsSound f 0
  from_start = record {
    distinct = sound.distinct;
    low = omega arith;
    can = sound.can;
    rooms = sound.rooms;
    now = sound.now;
    mark = sound.start;
    start = sound.start;
  }

  pub sound_start : IsSound g 0
  sound_start = sound_marked f g 0 back from_start

  pub view_start : linked_view g 0 ≡ record { state = state_in (at_start f); keys = keys_of (contents f); marked = state_in (at_start f); before = state_in (at_start f) }
  view_start = view_marked f g 0 back from_start

-- ---- the mark, and keeping

drop_all : (xs : List Step) → drop (length xs) xs ≡ []
drop_all [] = refl
drop_all (x ∷ xs) = drop_all xs

-- the tables agree as well where the index holds fewer places
agrees_held : (tables : CatalogueTables) (c d : Contents) → StaysButHeld c d → AgreesWith tables c → AgreesWith tables d
agrees_held tables c d held agrees =
    subst (λ (y : Contents). AgreesWith tables y)
    (λ i. record { numbered = sym held.numbered i; index = d.index; links = sym held.links i; waits = sym held.waits i }) (record {
      ordered = agrees.ordered;
      told =
          tells_rows_kept tables.forms (keys_of c).authorities (linkable_authorities (state_in c)) c.index d.index held.index.rows
          (held.index.ordered (keys_of c).authorities agrees.told.ordered) agrees.told;
      links_fit = agrees.links_fit;
      waits_fit = agrees.waits_fit;
      linked = agrees.linked;
      asking = agrees.asking;
      leading = agrees.leading;
      naming = agrees.naming;
    })

module _ (f g : Transaction) (marked : ℕ) (kept : IsKept f g) (sound : IsSound f marked) where
  kept_start : at_start g ≡ contents g
  kept_start = ap (λ (l : List Step). apply_back l (contents g)) kept.steps

  pub sound_kept : IsSound g 0
  sound_kept =
      let by : (d : Contents) → d ≡ contents g → AgreesWith g.tables d = λ d e.
      subst (λ x. AgreesWith g.tables x) (sym e)
      (agrees_held g.tables (contents f) (contents g) kept.now
      (agrees_still f.tables g.tables [] (contents f) (forms_same f.tables g.tables kept.same.forms) sound.distinct sound.now)) in
      record {
        distinct = subst (λ (s : Numbered). AreDistinct (key_lists s.keys)) (sym kept.now.numbered) sound.distinct;
        low = omega arith;
        can = subst (λ (l : List Step). CanGoBack l (contents g)) (sym kept.steps) tt;
        rooms = kept.rooms;
        now = by (contents g) refl;
        mark = by (at_start g) kept_start;
        start = by (at_start g) kept_start;
      }

  pub view_kept : linked_view g 0 ≡ record { state = state_in (contents f); keys = keys_of (contents f); marked = state_in (contents f); before = state_in (contents f) }
  view_kept = λ i. record {
    state = (kept.now.numbered i).state;
    keys = key_lists (kept.now.numbered i).keys;
    marked = (ap state_in kept_start ∙ ap (λ (s : Numbered). s.state) kept.now.numbered) i;
    before = (ap state_in kept_start ∙ ap (λ (s : Numbered). s.state) kept.now.numbered) i;
  }
