-- The state behind a part's entries is the part of the whole's state.
use Rattle.std.proofs.Common.{◌≡◌, Bool, true, false, cond, List, [], ◌∷◌, map, refl, sym, ap, ◌∙◌}
use Rattle.std.specs.List.Sorted.{IsStrictlySortedBy}
use Rattle.std.specs.Prelude.{All, filter, fold}
use Rattle.std.proofs.lemmas.List.Elements.{recursion_from_All}
use Rattle.marc_types.specs.declared.key.Class.{Class}
use Rattle.marc_types.specs.declared.key.Class.TheVariants.{Authority, Bibliographic}
use Rattle.marc_types.specs.declared.entry.Entry.{Entry}
use Rattle.entry_record.specs.Authority.{successor_of}
use Rattle.entry_record.specs.History.{IsAdmitted}
use Rattle.catalogue_rules.specs.State.{KeptField, Row, State, empty_state, linkable_authorities, each_in_row, each_field}
use Rattle.catalogue_rules.specs.Settle.{Arrival, place, loosen, put_in, put, settle_field, settle, step, state_after, arrival_of, state_of}
use Rattle.catalogue_rules.proofs.Elements.{Each, each_weaker, each_map}
use Rattle.catalogue_rules.proofs.States.{IsReadyRow, IsDoneRow, IsReady, IsDoneState, IsFitArrival, settled_done, put_ready, done_valid, fit_entry}
use Rattle.catalogue_rules.proofs.Still.{valid_settled}
use Rattle.catalogue_parts.specs.Parts.{Part, comes_to, part_of, rows_in, cut}
use Rattle.catalogue_parts.proofs.Placed.{own_placed, other_placed}

-- a commit comes to the part
abbrev pub comes : Part → Arrival → Bool
comes mine a = comes_to mine a.class a.key

-- ---- the same change of each field

changed_in_part : (mine : Part) (change : KeptField → KeptField) (rows : List Row) → map (each_in_row change) (rows_in mine rows) ≡ rows_in mine (map (each_in_row change) rows)
changed_in_part mine change [] = refl
changed_in_part mine change (row ∷ rows) = at (mine row.0) (changed_in_part mine change rows)
  where
    at : (b : Bool) → map (each_in_row change) (rows_in mine rows) ≡ rows_in mine (map (each_in_row change) rows) →
        map (each_in_row change) (cond b (row ∷ rows_in mine rows) (rows_in mine rows))
        ≡ cond b (each_in_row change row ∷ rows_in mine (map (each_in_row change) rows)) (rows_in mine (map (each_in_row change) rows))
    at true ih = ap (λ l. each_in_row change row ∷ l) ih
    at false ih = ih

changed_cut : (mine : Part) (change : Class → KeptField → KeptField) (s : State) → each_field change (cut mine s) ≡ cut mine (each_field change s)
unfolding each_field
changed_cut mine change s =
    let same = changed_in_part mine (change Bibliographic) s.bibliographic in
    λ i. record { authorities = map (each_in_row (change Authority)) s.authorities; bibliographic = same i }

settled_cut : (mine : Part) (s : State) → settle (cut mine s) ≡ cut mine (settle s)
unfolding settle
settled_cut mine s = changed_cut mine (settle_field (linkable_authorities s)) s

-- ---- one commit

own_put : (mine : Part) (a : Arrival) (class : Class) (s : State) → comes_to mine class a.key ≡ true → IsReady s → put_in class a (cut mine s) ≡ cut mine (put_in class a s)
own_put mine a Authority s own r =
    let placed : State = record s { authorities = place a s.authorities } in
    changed_cut mine (loosen (linkable_authorities placed) a.key (successor_of a.leader a.key a.fields)) placed
own_put mine a Bibliographic s own r =
    let same = own_placed mine a s.bibliographic own r.bibliographic_ascend in
    λ i. record { authorities = s.authorities; bibliographic = sym same i }

pub own_step : (mine : Part) (a : Arrival) (s : State) → comes mine a ≡ true → IsReady s → step (cut mine s) a ≡ cut mine (step s a)
unfolding put
own_step mine a s own r = ap settle (own_put mine a a.class s own r) ∙ settled_cut mine (put_in a.class a s)

other_put : (mine : Part) (a : Arrival) (class : Class) (s : State) → comes_to mine class a.key ≡ false → cut mine (put_in class a s) ≡ cut mine s
other_put mine a Authority s other = cc
other_put mine a Bibliographic s other =
    let same = other_placed mine a s.bibliographic other in
    λ i. record { authorities = s.authorities; bibliographic = same i }

pub other_step : (mine : Part) (a : Arrival) (s : State) → comes mine a ≡ false → settle s ≡ s → cut mine (step s a) ≡ cut mine s
unfolding put
other_step mine a s other still =
    sym (settled_cut mine (put_in a.class a s)) ∙ ap settle (other_put mine a a.class s other) ∙ settled_cut mine s ∙ ap (cut mine) still

-- ---- a history

pub ready_again : (s : State) → IsDoneState s → IsReady s
ready_again s d = record {
  authorities_ascend = d.authorities_ascend;
  bibliographic_ascend = d.bibliographic_ascend;
  authorities = each_weaker (IsDoneRow (linkable_authorities s) Authority) (IsReadyRow (linkable_authorities s) Authority) (λ row x. x.ready) s.authorities d.authorities;
  bibliographic = each_weaker (IsDoneRow (linkable_authorities s) Bibliographic) (IsReadyRow (linkable_authorities s) Bibliographic) (λ row x. x.ready) s.bibliographic d.bibliographic;
}

pub step_done : (a : Arrival) (s : State) → IsFitArrival a → IsDoneState s → IsDoneState (step s a)
step_done a s fit d = settled_done (put a s) (put_ready a s fit (ready_again s d))

steps_cut : (mine : Part) (history : List Arrival) (s : State) → Each IsFitArrival history → IsDoneState s → fold step (cut mine s) (filter (comes mine) history) ≡ cut mine (fold step s history)
steps_cut mine [] s fits d = refl
steps_cut mine (a ∷ history) s fits d = at (comes mine a) refl (steps_cut mine history (step s a) fits.1 (step_done a s fits.0 d))
  where
    at : (b : Bool) → comes mine a ≡ b → fold step (cut mine (step s a)) (filter (comes mine) history) ≡ cut mine (fold step (step s a) history) →
        fold step (cut mine s) (cond b (a ∷ filter (comes mine) history) (filter (comes mine) history)) ≡ cut mine (fold step (step s a) history)
    at true own ih = ap (λ t. fold step t (filter (comes mine) history)) (own_step mine a s own (ready_again s d)) ∙ ih
    at false other ih =
        ap (λ t. fold step t (filter (comes mine) history)) (sym (other_step mine a s other (valid_settled s (done_valid s d)))) ∙ ih

pub empty_done : IsDoneState empty_state
unfolding IsStrictlySortedBy
empty_done = record { authorities_ascend = tt; bibliographic_ascend = tt; authorities = tt; bibliographic = tt }

after_cut : (mine : Part) (history : List Arrival) → Each IsFitArrival history → state_after (filter (comes mine) history) ≡ cut mine (state_after history)
unfolding state_after
after_cut mine history fits = steps_cut mine history empty_state fits empty_done

pub arrivals_of_part : (mine : Part) (history : List Entry) → map arrival_of (part_of mine history) ≡ filter (comes mine) (map arrival_of history)
arrivals_of_part mine [] = refl
arrivals_of_part mine (e ∷ history) = at (comes_to mine e.class e.key) (arrivals_of_part mine history)
  where
    at : (b : Bool) → map arrival_of (part_of mine history) ≡ filter (comes mine) (map arrival_of history) →
        map arrival_of (cond b (e ∷ part_of mine history) (part_of mine history))
        ≡ cond b (arrival_of e ∷ filter (comes mine) (map arrival_of history)) (filter (comes mine) (map arrival_of history))
    at true ih = ap (λ l. arrival_of e ∷ l) ih
    at false ih = ih

-- the state behind the arrivals of a part is the part of the state
pub part_cut : (mine : Part) (history : List Entry) → All IsAdmitted history → state_after (map arrival_of (part_of mine history)) ≡ cut mine (state_of history)
part_cut mine history a =
    ap state_after (arrivals_of_part mine history)
    ∙ after_cut mine (map arrival_of history) (each_map IsAdmitted IsFitArrival arrival_of fit_entry history (recursion_from_All IsAdmitted history a))
