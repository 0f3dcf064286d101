-- What a stage makes of a seat's field may come to the seat.
use Rattle.std.proofs.Common.{◌≡◌, sym, refl, subst, ℕ, zero, suc, List, [], ◌∷◌, map, Option, Some, None, Bool, true, false}
use Rattle.std.specs.Prelude.{◌&&◌, slice_get, IfSome, IsSome, length, nat_le}
use Rattle.std.specs.List.{list_all}
use Rattle.std.specs.Option.{option_and_then}
use Rattle.std.proofs.lemmas.List.Elements.{recursion_from_All}
use Rattle.marc_types.specs.Valid.{is_field, is_leader, is_record, fields_size}
use Rattle.marc_types.specs.Fields.{tag_of}
use Rattle.marc_types.specs.declared.field.Field.{Field}
use Rattle.marc_types.specs.declared.field.Leader.{Leader}
use Rattle.marc_types.specs.declared.key.Class.{Class}
use Rattle.marc_types.specs.declared.key.Class.TheVariants.{Authority, Bibliographic}
use Rattle.marc_types.specs.declared.key.Place.{Place}
use Rattle.heading_fields.specs.Tables.{is_subdividable}
use Rattle.entry_record.specs.Authority.{Linkable}
use Rattle.numbering.specs.declared.seat.Seat.{Seat}
use Rattle.catalogue_rules.specs.State.{KeptField, KeptRecord, State, fields_of}
use Rattle.catalogue_rules.specs.Valid.{EachField, IsTied, IsRow}
use Rattle.catalogue_rules.proofs.Elements.{Each}
use Rattle.catalogue_rules.proofs.Fit.{IsFit}
use Rattle.catalogue_rules.proofs.Proper.{all_fit}
use Rattle.catalogue_rules.specs.Store.{StaysFit, StaysRecord, field_at, field_under}
use Rattle.catalogue_tables.specs.Seam.{HasKey, place_at}
use Rattle.linking_laws.specs.Middle.{IsEitherStage, IsMiddleWith, IsWithinReach}
use Rattle.linking_laws.specs.Partway.{IsSteady}
use Rattle.linking_laws.proofs.Settling.{handled_at}
use Rattle.linking_laws.proofs.Steadily.{field_of_authority, field_of_bibliographic, stage_steady}
use Rattle.linking_laws.proofs.Turning.{turn_fits, turn_stays}
use Rattle.linked_store.specs.Linked.{Linked, SuitsSeat, field_of, record_at}
use Rattle.commit_stages.specs.Fields.{IsProperAt}

-- what holds of each field holds of the one at a place
pub field_at_place : (P : Class → KeptField → Type 0) (s : State) (q : Place) (h : KeptField) (k : Class) → q.class ≡ k → EachField P s → field_under q s ≡ Some h → P k h
field_at_place P s q h Authority e a there = field_of_authority (P Authority) s q h a.0 e there
field_at_place P s q h Bibliographic e a there = field_of_bibliographic (P Bibliographic) s q h a.1 e there

-- ---- a field of a record

and_first : (a b : Bool) → (a && b) ≡ true → a ≡ true
and_first true b e = refl
and_first false b e = e

and_second : (a b : Bool) → (a && b) ≡ true → b ≡ true
and_second true b e = e
and_second false b e = cc

fields_are_proper : (leader : Leader) (fields : List Field) → is_record leader fields ≡ true → list_all is_field fields ≡ true
unfolding is_record
fields_are_proper leader fields valid =
    and_second (is_leader leader) (list_all is_field fields)
    (and_first (is_leader leader && list_all is_field fields) (nat_le (length fields) 8331)
    (and_first (is_leader leader && list_all is_field fields && nat_le (length fields) 8331) (nat_le (fields_size fields) 1000000) valid))

proper_in : (hs : List KeptField) (i : ℕ) (h : KeptField) → list_all is_field (map (λ (x : KeptField). x.field) hs) ≡ true → slice_get hs i ≡ Some h → is_field h.field ≡ true
proper_in [] i h all there = cc
proper_in (x ∷ hs) zero h all there =
    let same : x ≡ h = cc in
    subst (λ (y : KeptField). is_field y.field ≡ true) same (and_first (is_field x.field) (list_all is_field (map (λ (y : KeptField). y.field) hs)) all)
proper_in (x ∷ hs) (suc i) h all there = proper_in hs i h (and_second (is_field x.field) (list_all is_field (map (λ (y : KeptField). y.field) hs)) all) there

-- a field that stands at a seat is one as records have them
pub proper_at : (x : Linked) (seat : Seat) (h : KeptField) → IsProperAt seat x → field_of seat x ≡ Some h → is_field h.field ≡ true
proper_at x seat h proper there = by (record_at seat.class seat.number x) proper there
  where
    by : (o : Option KeptRecord) → IfSome o (λ (r : KeptRecord). is_record r.leader (fields_of r) ≡ true) → option_and_then (field_at seat.field) o ≡ Some h → is_field h.field ≡ true
    by None proper there = cc
    by (Some r) proper there = proper_in r.fields seat.field h (fields_are_proper r.leader (fields_of r) proper) there

-- ---- a turn of a stage that leaves each field or settles it

module _ (all : List Linkable) (change : Class → KeptField → KeptField) (x : Linked) (seat : Seat) (h : KeptField) where
  stays_at : IsMiddleWith all x.state → IsEitherStage all change → field_of seat x ≡ Some h → is_field (change seat.class h).field ≡ true
      → (o : Option KeptRecord) → record_at seat.class seat.number x ≡ o → IfSome o (λ (r : KeptRecord). is_record r.leader (fields_of r) ≡ true)
      → IfSome o (StaysRecord seat.field (change seat.class h).field)
  stays_at middle either there good None is proper = tt
  stays_at middle either there good (Some r) is proper =
      turn_stays all change x.state (place_at x.keys seat) h r middle either there (record { kept = is; visited = proper; proper = good })

  fits_at : IsMiddleWith all x.state → IsEitherStage all change → field_of seat x ≡ Some h → (o : Option KeptRecord) → record_at seat.class seat.number x ≡ o
      → IfSome o (StaysFit seat.field (change seat.class h).field)
  fits_at middle either there None is = tt
  fits_at middle either there (Some r) is = turn_fits all change x.state (place_at x.keys seat) h r middle either there is

  whole_at : IsMiddleWith all x.state → IsEitherStage all change → field_of seat x ≡ Some h → (change seat.class h).tie.whole ≡ true
      → is_subdividable seat.class (tag_of (change seat.class h).field) ≡ true
  whole_at m either there =
      let fits : Each (IsFit all) all = subst (λ (l : List Linkable). Each (IsFit l) l) m.authorities_are
      (all_fit x.state.authorities m.middle.authorities_ascend (recursion_from_All (IsRow Authority) x.state.authorities m.middle.rows.0)) in
      let ties : EachField (IsTied all) x.state = subst (λ (l : List Linkable). EachField (IsTied l) x.state) m.authorities_are m.middle.ties in
      let done = handled_at all seat.class fits h (change seat.class h) (either.either seat.class h)
      (field_at_place (IsTied all) x.state (place_at x.keys seat) h seat.class refl ties there)
      (field_at_place IsWithinReach x.state (place_at x.keys seat) h seat.class refl m.middle.within there) in
      done.tied.whole

  pub stage_suits : IsMiddleWith all x.state → IsEitherStage all change → HasKey x.keys seat → field_of seat x ≡ Some h → IsProperAt seat x
      → is_field (change seat.class h).field ≡ true → SuitsSeat seat (change seat.class h) x
  stage_suits middle either known there proper good =
      let steady = stage_steady all change x.state middle either in
      record {
        known = known;
        stands = subst IsSome (sym there) refl;
        stays = stays_at middle either there good (record_at seat.class seat.number x) refl proper;
        fits = fits_at middle either there (record_at seat.class seat.number x) refl;
        steady = λ own. subst (λ (o : Option KeptField). IfSome o (λ old. IsSteady old (change seat.class h))) (sym there)
            (subst (λ (c : Class). IsSteady h (change c h)) (sym own) (steady.steady (place_at x.keys seat) h own there));
        whole = whole_at middle either there;
      }
