-- A stage from seat to seat: it begins with none, goes on by one, and ends with the last.
use Rattle.std.proofs.Common.{◌≡◌, ◌∙◌, sym, ap, refl, subst, List, [], ◌∷◌, ◌++◌, map, Some}
use Rattle.std.specs.List.{AllByRecursion}
use Rattle.marc_types.specs.Order.{same_key}
use Rattle.marc_types.specs.declared.key.Class.{Class}
use Rattle.marc_types.specs.declared.key.Place.{Place}
use Rattle.std.specs.Prelude.{Bool}
use Rattle.entry_record.specs.Authority.{Linkable}
use Rattle.numbering.specs.declared.seat.Seat.{Seat}
use Rattle.numbering.proofs.Numberlaws.{keeps_itself}
use Rattle.catalogue_rules.specs.State.{KeptField, each_field}
use Rattle.catalogue_rules.specs.Store.{field_under}
use Rattle.catalogue_tables.specs.Seam.{HasKey, KeyLists, place_at}
use Rattle.catalogue_tables.proofs.Seams.{keeps_then}
use Rattle.linking_laws.specs.Middle.{CanDrop, CanDropOn, IsDroppedOn, IsEitherStage, IsMiddleWith}
use Rattle.linking_laws.specs.Partway.{AreOrdered, IsNext, IsPartway, IsWhole, swapped}
use Rattle.linking_laws.specs.Tables.{AreOnce}
use Rattle.linking_laws.proofs.Listed.{next_is_new}
use Rattle.linking_laws.proofs.Partial.{partway_none, partway_all, step_on}
use Rattle.linking_laws.proofs.Turning.{drop_begins, drop_goes_on, turn_ready}
use Rattle.linking_laws.proofs.Dropped.{drop_ready}
use Rattle.linking_laws.specs.Stages.{Dropping, drop_by}
use Rattle.marc_types.specs.declared.key.Key.{Key}
use Rattle.catalogue_rules.specs.State.{linkable_authorities}
use Rattle.std.specs.Prelude.{Option}
use Rattle.linked_store.specs.Linked.{IsAhead, KeysGrow, Linked, ListsSeats, field_of}
use Rattle.commit_stages.specs.Turns.{IsCarriedOut, IsDropping, IsExchanged, IsOnTheWay}

same_keys : (keys : KeyLists) → KeysGrow keys keys
same_keys keys = record {
  keep = record { authorities = keeps_itself same_key keys.authorities; bibliographic = keeps_itself same_key keys.bibliographic };
  seats = λ seat known. known;
  places = λ seat known. refl;
}

keys_then : (a b c : KeyLists) → KeysGrow a b → KeysGrow b c → KeysGrow a c
keys_then a b c first second = record {
  keep = record {
    authorities = keeps_then same_key a.authorities b.authorities c.authorities first.keep.authorities second.keep.authorities;
    bibliographic = keeps_then same_key a.bibliographic b.bibliographic c.bibliographic first.keep.bibliographic second.keep.bibliographic;
  };
  seats = λ seat known. second.seats seat (first.seats seat known);
  places = λ seat known. second.places seat (first.seats seat known) ∙ first.places seat known;
}

pub ahead_itself : (x : Linked) → IsAhead x x
ahead_itself x = record { keys = same_keys x.keys; marked = refl; before = refl }

pub ahead_then : (x y z : Linked) → IsAhead x y → IsAhead y z → IsAhead x z
ahead_then x y z first second = record {
  keys = keys_then x.keys y.keys z.keys first.keys second.keys;
  marked = second.marked ∙ first.marked;
  before = second.before ∙ first.before;
}

-- three, four and five calls, one after another
pub ahead_three : (v x y z : Linked) → IsAhead v x → IsAhead x y → IsAhead y z → IsAhead v z
ahead_three v x y z first second third = ahead_then v y z (ahead_then v x y first second) third

pub ahead_four : (u v x y z : Linked) → IsAhead u v → IsAhead v x → IsAhead x y → IsAhead y z → IsAhead u z
ahead_four u v x y z first second third fourth = ahead_then u y z (ahead_three u v x y first second third) fourth

pub ahead_five : (t u v x y z : Linked) → IsAhead t u → IsAhead u v → IsAhead v x → IsAhead x y → IsAhead y z → IsAhead t z
ahead_five t u v x y z first second third fourth fifth = ahead_then t y z (ahead_four t u v x y first second third fourth) fifth

pub map_join : {A B : Type 0} (f : A → B) (xs ys : List A) → map f (xs ++ ys) ≡ map f xs ++ map f ys
map_join f [] ys = refl
map_join f (x ∷ xs) ys = ap (λ l. f x ∷ l) (map_join f xs ys)

pub known_there : (keys : KeyLists) (done rest : List Seat) (seat : Seat) → AllByRecursion (HasKey keys) (done ++ seat ∷ rest) → HasKey keys seat
known_there keys [] rest seat all = all.0
known_there keys (x ∷ xs) rest seat all = known_there keys xs rest seat all.1

-- the key of a place that a turn comes to is known already, and has stayed where it was
place_stays : (test : Place → Bool) (done rest : List Seat) (seat : Seat) (old now : Linked) → ListsSeats old.keys test (done ++ seat ∷ rest) → IsAhead old now
    → place_at now.keys seat ≡ place_at old.keys seat
place_stays test done rest seat old now lists ahead = ahead.keys.places seat (known_there old.keys done rest seat lists.known)

-- and no turn came to that place before
comes_next : (test : Place → Bool) (done rest : List Seat) (seat : Seat) (h : KeptField) (old now : Linked) → ListsSeats old.keys test (done ++ seat ∷ rest) → IsAhead old now
    → field_of seat now ≡ Some h → IsNext (map (place_at old.keys) done) (place_at old.keys seat) h now.state
comes_next test done rest seat h old now lists ahead stands =
    let p : Place = place_at old.keys seat in
    let places : List Place = map (place_at old.keys) done in
    let once : AreOnce (places ++ p ∷ map (place_at old.keys) rest) = subst AreOnce (map_join (place_at old.keys) done (seat ∷ rest)) lists.places.once in
    record {
      is_new = next_is_new places p (map (place_at old.keys) rest) once;
      stands = subst (λ q. field_under q now.state ≡ Some h) (place_stays test done rest seat old now lists ahead) stands;
    }

pub begins : (all : List Linkable) (change : Class → KeptField → KeptField) (x : Linked) → IsMiddleWith all x.state → IsOnTheWay all change [] x x
begins all change x middle = record { ahead = ahead_itself x; partway = partway_none change x.state; middle = middle }

module _ (all : List Linkable) (change : Class → KeptField → KeptField) (test : Place → Bool) (done rest : List Seat) (seat : Seat) (h : KeptField) (old now new : Linked) where
  pub goes_on : IsEitherStage all change → ListsSeats old.keys test (done ++ seat ∷ rest) → IsOnTheWay all change done old now
      → field_of seat now ≡ Some h → IsExchanged seat (change seat.class h) now new
      → IsOnTheWay all change (done ++ seat ∷ []) old new
  goes_on either lists way stands exchanged =
      let p : Place = place_at old.keys seat in
      let there : place_at now.keys seat ≡ p = place_stays test done rest seat old now lists way.ahead in
      let places : List Place = map (place_at old.keys) done in
      let next : IsNext places p h now.state = comes_next test done rest seat h old now lists way.ahead stands in
      let state : new.state ≡ swapped p (change seat.class h) now.state = exchanged.state ∙ ap (λ q. swapped q (change seat.class h) now.state) there in
      let further : IsPartway change (places ++ p ∷ []) old.state (swapped p (change seat.class h) now.state) = step_on change places old.state now.state p h way.partway next in
      let middle : IsMiddleWith all (swapped p (change seat.class h) now.state) = turn_ready all change places now.state p h way.middle next either in
      record {
        ahead = ahead_then old now new way.ahead exchanged.ahead;
        partway = subst (λ s. IsPartway change (map (place_at old.keys) (done ++ seat ∷ [])) old.state s) (sym state)
            (subst (λ l. IsPartway change l old.state (swapped p (change seat.class h) now.state)) (sym (map_join (place_at old.keys) done (seat ∷ []))) further);
        middle = subst (IsMiddleWith all) (sym state) middle;
      }

pub ends : (all : List Linkable) (change : Class → KeptField → KeptField) (done : List Seat) (old now : Linked) → IsMiddleWith all old.state → IsOnTheWay all change done old now
    → IsWhole change (map (place_at old.keys) done) old.state → IsCarriedOut all change old now
ends all change done old now middle way whole =
    let order : AreOrdered old.state = record { authorities = middle.middle.authorities_ascend; bibliographic = middle.middle.bibliographic_ascend } in
    let state : each_field change old.state ≡ now.state = partway_all change (map (place_at old.keys) done) old.state now.state order way.partway whole in
    record { ahead = way.ahead; state = sym state; middle = way.middle }

-- ---- dropping

pub drop_starts : (d : Dropping) (key : Key) (successor : Option Key) (x : Linked) → CanDrop d key x.state → IsDropping d key successor [] x x
drop_starts d key successor x can = record {
  ahead = ahead_itself x;
  partway = partway_none (drop_by d (linkable_authorities x.state) key successor) x.state;
  can_go_on = drop_begins d key x.state can;
  authorities_stay = refl;
}

module _ (d : Dropping) (key : Key) (successor : Option Key) (test : Place → Bool) (done rest : List Seat) (seat : Seat) (h : KeptField) (old now new : Linked) where
  pub drop_turns : ListsSeats old.keys test (done ++ seat ∷ rest) → IsDropping d key successor done old now → field_of seat now ≡ Some h
      → IsExchanged seat (drop_by d (linkable_authorities now.state) key successor seat.class h) now new
      → IsDropping d key successor (done ++ seat ∷ []) old new
  drop_turns lists way stands exchanged =
      let p : Place = place_at old.keys seat in
      let there : place_at now.keys seat ≡ p = place_stays test done rest seat old now lists way.ahead in
      let places : List Place = map (place_at old.keys) done in
      let next : IsNext places p h now.state = comes_next test done rest seat h old now lists way.ahead stands in
      let same : drop_by d (linkable_authorities now.state) key successor seat.class h ≡ drop_by d (linkable_authorities old.state) key successor seat.class h =
      ap (λ all. drop_by d all key successor seat.class h) way.authorities_stay in
      let made : KeptField = drop_by d (linkable_authorities now.state) key successor seat.class h in
      let state : new.state ≡ swapped p made now.state = exchanged.state ∙ ap (λ q. swapped q made now.state) there in
      let change : Class → KeptField → KeptField = drop_by d (linkable_authorities old.state) key successor in
      let further : IsPartway change (places ++ p ∷ []) old.state (swapped p (change seat.class h) now.state) = step_on change places old.state now.state p h way.partway next in
      let on : IsDroppedOn d key (places ++ p ∷ []) now.state (swapped p made now.state) = drop_goes_on d key successor places now.state p h way.can_go_on next in
      let list : map (place_at old.keys) (done ++ seat ∷ []) ≡ places ++ p ∷ [] = map_join (place_at old.keys) done (seat ∷ []) in
      record {
        ahead = ahead_then old now new way.ahead exchanged.ahead;
        partway = subst (λ s. IsPartway change (map (place_at old.keys) (done ++ seat ∷ [])) old.state s) (ap (λ k. swapped p k now.state) (sym same) ∙ sym state)
            (subst (λ l. IsPartway change l old.state (swapped p (change seat.class h) now.state)) (sym list) further);
        can_go_on = subst (CanDropOn d key (map (place_at old.keys) (done ++ seat ∷ []))) (sym state)
            (subst (λ l. CanDropOn d key l (swapped p made now.state)) (sym list) on.can_go_on);
        authorities_stay = ap linkable_authorities state ∙ on.authorities_stay ∙ way.authorities_stay;
      }

pub drop_ends : (d : Dropping) (key : Key) (successor : Option Key) (done : List Seat) (old now : Linked) → CanDrop d key old.state → IsDropping d key successor done old now
    → IsWhole (drop_by d (linkable_authorities old.state) key successor) (map (place_at old.keys) done) old.state
    → IsCarriedOut (linkable_authorities old.state) (drop_by d (linkable_authorities old.state) key successor) old now
drop_ends d key successor done old now can way whole =
    let change : Class → KeptField → KeptField = drop_by d (linkable_authorities old.state) key successor in
    let order : AreOrdered old.state = record { authorities = can.authorities_ascend; bibliographic = can.bibliographic_ascend } in
    let state : each_field change old.state ≡ now.state = partway_all change (map (place_at old.keys) done) old.state now.state order way.partway whole in
    record { ahead = way.ahead; state = sym state; middle = subst (IsMiddleWith (linkable_authorities old.state)) state (drop_ready d key successor old.state can) }
