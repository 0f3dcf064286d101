-- The committed record's own fields: settled at their places, and a bibliographic record in its place.
use Rattle.std.proofs.Common.{◌≡◌, ℕ, Bool, true, false, ◌&&◌, List, [], ◌∷◌, map, Option, Some, None, refl, sym, ap, ◌∙◌, if◌then◌else◌}
use Rattle.std.specs.Map.{lookup}
use Rattle.std.specs.Option.{option_map, option_and_then}
use Rattle.marc_types.specs.Order.{same_key}
use Rattle.marc_types.specs.declared.key.Class.{Class}
use Rattle.marc_types.specs.declared.key.Class.TheVariants.{Authority, Bibliographic}
use Rattle.marc_types.specs.declared.key.Key.{Key}
use Rattle.marc_types.specs.declared.key.Place.{Place}
use Rattle.marc_types.specs.declared.entry.Entry.{Entry}
use Rattle.marc_types.specs.declared.field.Field.{Field}
use Rattle.entry_record.specs.Authority.{Linkable}
use Rattle.catalogue_rules.specs.State.{KeptField, KeptRecord, Row, State, rows_of, linkable_authorities, each_in_record, each_in_row, new_field, new_record}
use Rattle.catalogue_rules.specs.Receipt.{same_class}
use Rattle.catalogue_rules.specs.Settle.{settle_field, arrival_of}
use Rattle.catalogue_rules.specs.Valid.{IsTied}
use Rattle.catalogue_rules.proofs.Elements.{Each}
use Rattle.catalogue_rules.proofs.Put.{tied_new}
use Rattle.catalogue_rules.proofs.Rows.{ascend_place, each_place}
use Rattle.catalogue_rules.proofs.States.{fit_entry}
use Rattle.catalogue_rules.specs.Store.{field_at, field_under}
use Rattle.linking_laws.specs.Commits.{CanBeCommitted, placed_by}
use Rattle.linking_laws.specs.Middle.{IsMiddleWith}
use Rattle.linking_laws.specs.Partway.{is_place_among, is_place_of, row_outline, outlines, changed_among, AreOrdered, AreOwnDone, IsPartway}
use Rattle.linking_laws.specs.Stages.{in_own_row, settle_own}
use Rattle.linking_laws.proofs.Commits.{valid_ready, placed_fit, new_loose}
use Rattle.linking_laws.proofs.Dropped.{new_within}
use Rattle.linking_laws.proofs.Exchanges.{lookup_changed, get_mapped, mapped_length}
use Rattle.linking_laws.proofs.Pairs.{place_of}
use Rattle.linking_laws.proofs.Partial.{ascend_by, states_same}
use Rattle.linking_laws.proofs.Settling.{IsMiddleRow, middle_rows, middle_from, valid_middle}

-- ---- settled at their places

own_outline_at : (f : KeptField → KeptField) (row : Row) (b : Bool) → row_outline (if b then each_in_row f row else row) ≡ row_outline row
own_outline_at f row true = ap (λ (n : ℕ). (row.0, (row.1.leader, n))) (mapped_length f row.1.fields)
own_outline_at f row false = refl

own_outline : (key : Key) (f : KeptField → KeptField) (rows : List Row) → map row_outline (map (in_own_row key f) rows) ≡ map row_outline rows
own_outline key f [] = refl
own_outline key f (row ∷ rows) = λ n. own_outline_at f row (same_key key row.0) n ∷ own_outline key f rows n

own_outlines : (all : List Linkable) (class c : Class) (key : Key) (s : State) → outlines c (settle_own all class key s) ≡ outlines c s
unfolding settle_own
own_outlines all Authority Authority key s = own_outline key (settle_field all Authority) s.authorities
own_outlines all Authority Bibliographic key s = refl
own_outlines all Bibliographic Authority key s = refl
own_outlines all Bibliographic Bibliographic key s = own_outline key (settle_field all Bibliographic) s.bibliographic

own_at : (f : KeptField → KeptField) (i : ℕ) (o : Option KeptRecord) (b : Bool) →
    option_and_then (field_at i) (if b then option_map (each_in_record f) o else o) ≡ (if b then option_map f (option_and_then (field_at i) o) else option_and_then (field_at i) o)
own_at f i None true = refl
own_at f i (Some r) true = get_mapped f r.fields i
own_at f i o false = refl

own_place_of : (f : KeptField → KeptField) (key k : Key) (i : ℕ) (rows : List Row) →
    place_of k i (map (in_own_row key f) rows) ≡ (if same_key key k then option_map f (place_of k i rows) else place_of k i rows)
own_place_of f key k i rows =
    ap (option_and_then (field_at i)) (lookup_changed key (each_in_record f) k rows) ∙ own_at f i (lookup (same_key k) rows) (same_key key k)

pub own_in : (all : List Linkable) (class d : Class) (key k : Key) (i : ℕ) (s : State) →
    place_of k i (rows_of d (settle_own all class key s))
    ≡ (if same_class class d && same_key key k then option_map (settle_field all d) (place_of k i (rows_of d s)) else place_of k i (rows_of d s))
unfolding settle_own
own_in all Authority Authority key k i s = own_place_of (settle_field all Authority) key k i s.authorities
own_in all Authority Bibliographic key k i s = refl
own_in all Bibliographic Authority key k i s = refl
own_in all Bibliographic Bibliographic key k i s = own_place_of (settle_field all Bibliographic) key k i s.bibliographic

done_at : (change : Class → KeptField → KeptField) (done : List Place) (q : Place) (own : Bool) (o : Option KeptField) → ((h : KeptField) → o ≡ Some h → is_place_among done q ≡ own) →
    (if own then option_map (change q.class) o else o) ≡ option_map (changed_among done change q) o
done_at change done q true None are = refl
done_at change done q false None are = refl
done_at change done q true (Some h) are = sym (ap (λ (b : Bool). Some (if b then change q.class h else h)) (are h refl))
done_at change done q false (Some h) are = sym (ap (λ (b : Bool). Some (if b then change q.class h else h)) (are h refl))

-- once exactly the own places are done, the own fields are settled
pub own_settled : (all : List Linkable) (class : Class) (key : Key) (done : List Place) (before now : State) → AreOrdered before → IsPartway (settle_field all) done before now →
    AreOwnDone class key done before → settle_own all class key before ≡ now
own_settled all class key done before now order part own =
    states_same (settle_own all class key before) now (λ c. own_outlines all class c key before ∙ sym (part.outlines_stay c))
    (record {
      authorities = ascend_by now.authorities before.authorities (part.outlines_stay Authority) order.authorities;
      bibliographic = ascend_by now.bibliographic before.bibliographic (part.outlines_stay Bibliographic) order.bibliographic;
    })
    (λ q. own_in all class q.class key q.key q.field before
    ∙ done_at (settle_field all) done q (is_place_of class key q) (field_under q before) (λ h there. own.done_are q h there)
    ∙ sym (part.fields_are q))

-- ---- a bibliographic record in its place

new_ties : (all : List Linkable) (class : Class) (fields : List Field) → Each (IsTied all class) (map new_field fields)
new_ties all class [] = tt
new_ties all class (f ∷ fields) = (tied_new all class (new_field f) refl refl refl, new_ties all class fields)

pub bibliographic_middle : (s : State) (e : Entry) → CanBeCommitted Bibliographic s e → IsMiddleWith (linkable_authorities s) (placed_by Bibliographic s e)
bibliographic_middle s e c =
    let a = arrival_of e in
    let all = linkable_authorities s in
    let fit = fit_entry e c.admitted in
    let fits = placed_fit Bibliographic a s c.class_is fit (valid_ready s c.valid) in
    let m = valid_middle s c.valid in
    let loose = new_loose Bibliographic a s c.class_is fit in
    let first = middle_rows all Authority s.authorities m.rows.0 m.ties.0 m.room.0 m.within.0 in
    let second = middle_rows all Bibliographic s.bibliographic m.rows.1 m.ties.1 m.room.1 m.within.1 in
    let own : IsMiddleRow all Bibliographic (a.key, new_record a.leader a.fields) = record {
      row_is = loose.row_is;
      ties = new_ties all Bibliographic a.fields;
      room = loose.room;
      within = new_within all Bibliographic fits a.fields;
    } in
    middle_from all (placed_by Bibliographic s e) refl m.authorities_ascend (ascend_place a s.bibliographic m.bibliographic_ascend)
    first (each_place (IsMiddleRow all Bibliographic) a s.bibliographic own second)
