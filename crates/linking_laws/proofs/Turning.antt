-- One turn of a stage: a field is exchanged at one place, and the state is still one between stages.
use Rattle.catalogue_rules.specs.Receipt.{kept_under}
use Rattle.std.proofs.Common.{cond, ◌≡◌, ℕ, zero, suc, ◌≤◌, Bool, true, false, ◌||◌, List, [], ◌∷◌, ◌++◌, map, Option, Some, None, refl, sym, ap, ◌∙◌, subst, if◌then◌else◌, arith, inl}
use Rattle.std.specs.Prelude.{All, slice_get, slice_set}
use Rattle.std.specs.List.{sum_by}
use Rattle.std.specs.Map.{lookup}
use Rattle.std.specs.Option.{option_map, option_and_then}
use Rattle.std.proofs.lemmas.List.Elements.{All-from_recursion, recursion_from_All}
use Rattle.std.proofs.lemmas.List.Sums.{sum_by-cons}
use Rattle.marc_types.specs.Order.{key_Decides, same_key}
use Rattle.marc_types.specs.declared.field.Field.{Field}
use Rattle.marc_types.specs.declared.key.Class.{Class}
use Rattle.marc_types.specs.declared.key.Class.TheVariants.{Authority, Bibliographic}
use Rattle.marc_types.specs.declared.key.Key.{Key}
use Rattle.marc_types.specs.declared.key.Place.{Place}
use Rattle.iso2709_record.specs.Written.{fits}
use Rattle.entry_record.specs.Authority.{Linkable}
use Rattle.catalogue_rules.specs.State.{KeptField, KeptRecord, Row, State, rows_of, linkable_authorities}
use Rattle.catalogue_rules.specs.Valid.{EachRow, EachField, IsAscending, IsRow, IsTied, HasRoom, reach}
use Rattle.catalogue_rules.proofs.Elements.{Each, each_weaker, each_both, each_map}
use Rattle.catalogue_rules.proofs.Fit.{IsFit}
use Rattle.catalogue_rules.proofs.Fitting.{row_fits}
use Rattle.catalogue_rules.proofs.Proper.{all_fit}
use Rattle.catalogue_rules.proofs.Put.{tied_but}
use Rattle.catalogue_rules.specs.Store.{StaysFit, StaysRecord, field_at, field_under, with_field, with_field_under, with_rows}
use Rattle.linking_laws.specs.Middle.{IsWithinReach, IsMiddle, IsLeftOrSettled, IsEitherStage, IsMiddleWith, IsTiedButTo, IsSparedRightly, CanDrop, CanDropOn, IsDroppedOn, IsLentAt}
use Rattle.linking_laws.specs.Partway.{same_place, is_place_among, swapped, IsNext, IsSteady}
use Rattle.linking_laws.specs.Stages.{Dropping, drop_by}
use Rattle.linking_laws.proofs.Counts.{looked}
use Rattle.linking_laws.proofs.Exchanges.{field_swapped, outlines_swapped, set_length}
use Rattle.linking_laws.proofs.Heart.{or_false, any_append}
use Rattle.linking_laws.proofs.Pairs.{Both, place_of, rows_from, linkables_same}
use Rattle.linking_laws.proofs.Partial.{place_is, ascend_by}
use Rattle.linking_laws.proofs.Settling.{IsHandled, stays_record, handled_at, steady_at}
use Rattle.linking_laws.proofs.Steadily.{got, each_row_of, field_of_authority, field_of_bibliographic}
use Rattle.linking_laws.proofs.Dropped.{handled, dropped_field, steady_dropped}

-- ---- one record

set_each : (P : KeptField → Type 0) (hs : List KeptField) (i : ℕ) (g : KeptField) → Each P hs → P g → Each P (slice_set hs i g)
set_each P [] i g a p = tt
set_each P (h ∷ hs) zero g a p = (p, a.1)
set_each P (h ∷ hs) (suc i) g a p = (a.0, set_each P hs i g a.1 p)

total_set : (class : Class) (hs : List KeptField) (i : ℕ) (h g : KeptField) → slice_get hs i ≡ Some h → reach class g ≤ reach class h →
    sum_by (reach class) (slice_set hs i g) ≤ sum_by (reach class) hs
total_set class [] i h g e less = cc
total_set class (x ∷ hs) zero h g e less =
    let same : h ≡ x = cc in
    let own : reach class g ≤ reach class x = subst (λ (y : KeptField). reach class g ≤ reach class y) same less in
    let now = sum_by-cons (reach class) g hs in
    let before = sum_by-cons (reach class) x hs in
    omega arith
total_set class (x ∷ hs) (suc i) h g e less =
    let now = sum_by-cons (reach class) x (slice_set hs i g) in
    let before = sum_by-cons (reach class) x hs in
    let rest = total_set class hs i h g e less in
    omega arith

room_set : (class : Class) (row : Row) (i : ℕ) (h g : KeptField) → slice_get row.1.fields i ≡ Some h → reach class g ≤ reach class h → HasRoom class row →
    HasRoom class (row.0, with_field i g row.1)
room_set class row i h g e less room =
    let short = recursion_from_All (λ x. reach class x ≤ 9999) row.1.fields room.fields_fit in
    let was : reach class h ≤ 9999 = got (λ x. reach class x ≤ 9999) row.1.fields i h short e in
    record {
      record_fits = let total = total_set class row.1.fields i h g e less in let same = set_length row.1.fields i g in let fits = room.record_fits in omega arith;
      fields_fit = All-from_recursion (λ x. reach class x ≤ 9999) (slice_set row.1.fields i g) (set_each (λ x. reach class x ≤ 9999) row.1.fields i g short (omega arith));
    }

-- ---- the rows of one class

abbrev row_with : Bool → ℕ → KeptField → Row → Row
row_with b i g row = if b then (row.0, with_field i g row.1) else row

fields_with : (P : KeptField → Type 0) (i : ℕ) (g : KeptField) (row : Row) (b : Bool) → P g → Each P row.1.fields → Each P (row_with b i g row).1.fields
fields_with P i g row true p a = set_each P row.1.fields i g a p
fields_with P i g row false p a = a

all_with : (P : KeptField → Type 0) (own : Key) (i : ℕ) (g : KeptField) (rows : List Row) → P g → All (λ (row : Row). All P row.1.fields) rows →
    All (λ (row : Row). All P row.1.fields) (with_field_under own i g rows)
all_with P own i g rows p a =
    All-from_recursion (λ (row : Row). All P row.1.fields) (with_field_under own i g rows)
    (each_map (λ (row : Row). Each P row.1.fields) (λ (row : Row). All P row.1.fields) (λ (row : Row). row_with (same_key own row.0) i g row)
    (λ row x. All-from_recursion P (row_with (same_key own row.0) i g row).1.fields (fields_with P i g row (same_key own row.0) p x)) rows (each_row_of P rows a))

row_is_with : (class : Class) (i : ℕ) (g : KeptField) (row : Row) (b : Bool) → IsRow class row → IsRow class (row_with b i g row)
row_is_with class i g row true r = record { class_is = r.class_is; code = r.code; number = r.number }
row_is_with class i g row false r = r

rows_are_with : (class : Class) (own : Key) (i : ℕ) (g : KeptField) (rows : List Row) → All (IsRow class) rows → All (IsRow class) (with_field_under own i g rows)
rows_are_with class own i g rows a =
    All-from_recursion (IsRow class) (with_field_under own i g rows)
    (each_map (IsRow class) (IsRow class) (λ (row : Row). row_with (same_key own row.0) i g row) (λ row r. row_is_with class i g row (same_key own row.0) r) rows
    (recursion_from_All (IsRow class) rows a))

room_with : (class : Class) (own : Key) (i : ℕ) (h g : KeptField) (rows : List Row) (row : Row) (b : Bool) → same_key own row.0 ≡ b → place_of own i rows ≡ Some h →
    reach class g ≤ reach class h → lookup (same_key row.0) rows ≡ Some row.1 → HasRoom class row → HasRoom class (row_with b i g row)
room_with class own i h g rows row true e stands less found room =
    let same : own ≡ row.0 = (key_Decides own row.0).0 e in
    let there : slice_get row.1.fields i ≡ Some h =
    sym (ap (option_and_then (field_at i)) found) ∙ sym (ap (λ (k : Key). place_of k i rows) same) ∙ stands in
    room_set class row i h g there less room
room_with class own i h g rows row false e stands less found room = room

rooms_with : (class : Class) (own : Key) (i : ℕ) (h g : KeptField) (rows : List Row) → IsAscending rows → place_of own i rows ≡ Some h → reach class g ≤ reach class h →
    All (HasRoom class) rows → All (HasRoom class) (with_field_under own i g rows)
rooms_with class own i h g rows order stands less a =
    All-from_recursion (HasRoom class) (with_field_under own i g rows)
    (each_map (λ (row : Row). (lookup (same_key row.0) rows ≡ Some row.1) × HasRoom class row) (HasRoom class) (λ (row : Row). row_with (same_key own row.0) i g row)
    (λ row x. room_with class own i h g rows row (same_key own row.0) refl stands less x.0 x.1) rows
    (each_both (λ (row : Row). lookup (same_key row.0) rows ≡ Some row.1) (HasRoom class) rows (looked rows order) (recursion_from_All (HasRoom class) rows a)))

-- ---- a state

-- what a state is within a stage, with this of each field's tie
record IsWithin (P : Class → KeptField → Type 0) (s : State) : Type 0 where
  authorities_ascend : IsAscending s.authorities
  bibliographic_ascend : IsAscending s.bibliographic
  rows : EachRow IsRow s
  ties : EachField P s
  room : EachRow HasRoom s
  within : EachField IsWithinReach s

each_field_with : (P : Class → KeptField → Type 0) (class : Class) (own : Key) (i : ℕ) (g : KeptField) (s : State) → P class g → EachField P s →
    EachField P (with_rows class (with_field_under own i g (rows_of class s)) s)
each_field_with P Authority own i g s p a = (all_with (P Authority) own i g s.authorities p a.0, a.1)
each_field_with P Bibliographic own i g s p a = (a.0, all_with (P Bibliographic) own i g s.bibliographic p a.1)

each_row_with : (class : Class) (own : Key) (i : ℕ) (g : KeptField) (s : State) → EachRow IsRow s → EachRow IsRow (with_rows class (with_field_under own i g (rows_of class s)) s)
each_row_with Authority own i g s a = (rows_are_with Authority own i g s.authorities a.0, a.1)
each_row_with Bibliographic own i g s a = (a.0, rows_are_with Bibliographic own i g s.bibliographic a.1)

each_room_with : (class : Class) (own : Key) (i : ℕ) (h g : KeptField) (s : State) → IsAscending s.authorities → IsAscending s.bibliographic →
    place_of own i (rows_of class s) ≡ Some h → reach class g ≤ reach class h → EachRow HasRoom s → EachRow HasRoom (with_rows class (with_field_under own i g (rows_of class s)) s)
each_room_with Authority own i h g s first second stands less a = (rooms_with Authority own i h g s.authorities first stands less a.0, a.1)
each_room_with Bibliographic own i h g s first second stands less a = (a.0, rooms_with Bibliographic own i h g s.bibliographic second stands less a.1)

turned : (P : Class → KeptField → Type 0) (p : Place) (h g : KeptField) (s : State) → IsWithin P s → field_under p s ≡ Some h →
    P p.class g → reach p.class g ≤ reach p.class h → IsWithinReach p.class g → IsWithin P (swapped p g s)
turned P p h g s m stands tied less short = record {
  authorities_ascend = ascend_by (swapped p g s).authorities s.authorities (outlines_swapped p g s Authority) m.authorities_ascend;
  bibliographic_ascend = ascend_by (swapped p g s).bibliographic s.bibliographic (outlines_swapped p g s Bibliographic) m.bibliographic_ascend;
  rows = each_row_with p.class p.key p.field g s m.rows;
  ties = each_field_with P p.class p.key p.field g s tied m.ties;
  room = each_room_with p.class p.key p.field h g s m.authorities_ascend m.bibliographic_ascend stands less m.room;
  within = each_field_with IsWithinReach p.class p.key p.field g s short m.within;
}

-- what holds of each field holds of the one at a place
pub field_at_place : (P : Class → KeptField → Type 0) (s : State) (q : Place) (h : KeptField) (k : Class) → q.class ≡ k → EachField P s → field_under q s ≡ Some h → P k h
field_at_place P s q h Authority e a there = field_of_authority (P Authority) s q h a.0 e there
field_at_place P s q h Bibliographic e a there = field_of_bibliographic (P Bibliographic) s q h a.1 e there

-- ---- the authorities

some_same : (x h : KeptField) → Some x ≡ Some h → x ≡ h
some_same x h e = cc

steady_exchange : (p q : Place) (h g : KeptField) (s : State) (o : Option KeptField) (b : Bool) → same_place p q ≡ b → field_under q s ≡ o → field_under p s ≡ Some h → IsSteady h g →
    Both IsSteady o (if b then option_map (λ (x : KeptField). g) o else o)
steady_exchange p q h g s None true e is stands steady = tt
steady_exchange p q h g s None false e is stands steady = tt
steady_exchange p q h g s (Some x) false e is stands steady = inl refl
steady_exchange p q h g s (Some x) true e is stands steady =
    let same = place_is p q e in
    let own : x ≡ h = some_same x h (sym is ∙ sym (ap (λ (y : Place). field_under y s) same) ∙ stands) in
    subst (λ (y : KeptField). IsSteady y g) (sym own) steady

-- the rows of authorities with another field, where that is a 5XX before and after
linkables_with : (p : Place) (h g : KeptField) (s : State) → IsAscending s.authorities → field_under p s ≡ Some h → IsSteady h g →
    linkable_authorities (swapped p g s) ≡ linkable_authorities s
linkables_with p h g s order stands steady =
    let now = swapped p g s in
    sym (linkables_same s.authorities now.authorities (rows_from IsSteady s.authorities now.authorities (sym (outlines_swapped p g s Authority)) order
    (ascend_by now.authorities s.authorities (outlines_swapped p g s Authority) order)
    (λ k i.
    let q : Place = record { class = Authority; key = k; field = i } in
    subst (λ (o : Option KeptField). Both IsSteady (place_of k i s.authorities) o) (sym (field_swapped p q g s))
    (steady_exchange p q h g s (field_under q s) (same_place p q) refl refl stands steady))))

-- of an authority record's fields only 5XX change, so that the authorities stay
linkables_turned : (p : Place) (h g : KeptField) (s : State) (k : Class) → p.class ≡ k → IsAscending s.authorities → field_under p s ≡ Some h → (k ≡ Authority → IsSteady h g) →
    linkable_authorities (swapped p g s) ≡ linkable_authorities s
linkables_turned p h g s Authority e order stands steady = linkables_with p h g s order stands (steady refl)
linkables_turned p h g s Bibliographic e order stands steady =
    ap (λ (c : Class). linkable_authorities (with_rows c (with_field_under p.key p.field g (rows_of c s)) s)) e

-- ---- a turn of a stage that leaves each field or settles it

fits_of : (s : State) → IsAscending s.authorities → All (IsRow Authority) s.authorities → Each (IsFit (linkable_authorities s)) (linkable_authorities s)
fits_of s order rows = all_fit s.authorities order (recursion_from_All (IsRow Authority) s.authorities rows)

middle_turned : (all : List Linkable) (p : Place) (h g : KeptField) (s : State) → linkable_authorities s ≡ all → IsMiddle s → field_under p s ≡ Some h →
    IsLeftOrSettled all p.class h g → IsMiddleWith all (swapped p g s)
middle_turned all p h g s e m stands either =
    let ties : EachField (IsTied all) s = subst (λ (l : List Linkable). EachField (IsTied l) s) e m.ties in
    let fits : Each (IsFit all) all = subst (λ (l : List Linkable). Each (IsFit l) l) e (fits_of s m.authorities_ascend m.rows.0) in
    let tied = field_at_place (IsTied all) s p h p.class refl ties stands in
    let short = field_at_place IsWithinReach s p h p.class refl m.within stands in
    let done = handled_at all p.class fits h g either tied short in
    let now = turned (IsTied all) p h g s
    (record { authorities_ascend = m.authorities_ascend; bibliographic_ascend = m.bibliographic_ascend; rows = m.rows; ties = ties; room = m.room; within = m.within })
    stands done.tied done.less done.within in
    let stay = linkables_turned p h g s p.class refl m.authorities_ascend stands
    (λ own. steady_at all h g (subst (λ (c : Class). IsLeftOrSettled all c h g) own either) (subst (λ (c : Class). IsTied all c h) own tied)) in
    record {
      middle = record {
        authorities_ascend = now.authorities_ascend;
        bibliographic_ascend = now.bibliographic_ascend;
        rows = now.rows;
        ties = subst (λ (l : List Linkable). EachField (IsTied l) (swapped p g s)) (sym (stay ∙ e)) now.ties;
        room = now.room;
        within = now.within;
      };
      authorities_are = stay ∙ e;
    }

pub turn_ready : (all : List Linkable) (change : Class → KeptField → KeptField) (done : List Place) (now : State) (p : Place) (h : KeptField) →
    IsMiddleWith all now → IsNext done p h now → IsEitherStage all change → IsMiddleWith all (swapped p (change p.class h) now)
turn_ready all change done now p h m next either =
    middle_turned all p h (change p.class h) now m.authorities_are m.middle next.stands (either.either p.class h)

-- ---- a turn of dropping

pub drop_begins : (d : Dropping) (key : Key) (s : State) → CanDrop d key s → CanDropOn d key [] s
drop_begins d key s m = record {
  authorities_ascend = m.authorities_ascend;
  bibliographic_ascend = m.bibliographic_ascend;
  rows = m.rows;
  ties = m.ties;
  spared = λ p h next. field_at_place (IsSparedRightly d key (linkable_authorities s)) s p h p.class refl m.spared next.stands;
  room = m.room;
  within = m.within;
}

tied_to : (key : Key) (all : List Linkable) (class : Class) (h : KeptField) → IsTied all class h → IsTiedButTo key all class h
tied_to key all class h t =
    let but = tied_but key all all class (λ other apart. refl) h t in
    record { heading = but.heading; kept = but.kept; unawaiting = but.unawaiting; awaits = but.awaits; whole = but.whole }

or_none : (a : Bool) → (a || false) ≡ a
or_none true = refl
or_none false = refl

-- a place that is next behind one more isn't that one, and was to do before
next_before : (done : List Place) (p q : Place) (g h : KeptField) (s : State) → IsNext (done ++ p ∷ []) q h (swapped p g s) → IsNext done q h s
next_before done p q g h s next =
    let both = or_false (is_place_among done q) (same_place p q || false) (sym (any_append (λ x. same_place x q) done (p ∷ [])) ∙ next.is_new) in
    let apart : same_place p q ≡ false = sym (or_none (same_place p q)) ∙ both.1 in
    record {
      is_new = both.0;
      stands = sym (field_swapped p q g s ∙ ap (λ (b : Bool). if b then option_map (λ (x : KeptField). g) (field_under q s) else field_under q s) apart) ∙ next.stands;
    }

pub drop_goes_on : (d : Dropping) (key : Key) (successor : Option Key) (done : List Place) (now : State) (p : Place) (h : KeptField) → CanDropOn d key done now → IsNext done p h now →
    IsDroppedOn d key (done ++ p ∷ []) now (swapped p (drop_by d (linkable_authorities now) key successor p.class h) now)
drop_goes_on d key successor done now p h m next =
    let all = linkable_authorities now in
    let g = drop_by d all key successor p.class h in
    let fits = fits_of now m.authorities_ascend m.rows.0 in
    let tied = field_at_place (IsTiedButTo key all) now p h p.class refl m.ties next.stands in
    let short = field_at_place IsWithinReach now p h p.class refl m.within next.stands in
    let what = dropped_field all key successor p.class d h tied (m.spared p h next) in
    let handled_is = handled all key successor p.class fits h g tied short what in
    let then_is = turned (IsTiedButTo key all) p h g now
    (record { authorities_ascend = m.authorities_ascend; bibliographic_ascend = m.bibliographic_ascend; rows = m.rows; ties = m.ties; room = m.room; within = m.within })
    next.stands (tied_to key all p.class g handled_is.tied) handled_is.less handled_is.within in
    let stay = linkables_turned p h g now p.class refl m.authorities_ascend next.stands (steady_by p.class g tied (m.spared p h next) refl) in
    record {
      can_go_on = record {
        authorities_ascend = then_is.authorities_ascend;
        bibliographic_ascend = then_is.bibliographic_ascend;
        rows = then_is.rows;
        ties = subst (λ (l : List Linkable). EachField (IsTiedButTo key l) (swapped p g now)) (sym stay) then_is.ties;
        spared = λ q x later. subst (λ (l : List Linkable). IsSparedRightly d key l q.class x) (sym stay) (m.spared q x (next_before done p q g x now later));
        room = then_is.room;
        within = then_is.within;
      };
      authorities_stay = stay;
    }
  where
    steady_by : (k : Class) (g : KeptField) → IsTiedButTo key (linkable_authorities now) k h → IsSparedRightly d key (linkable_authorities now) k h →
        drop_by d (linkable_authorities now) key successor k h ≡ g → k ≡ Authority → IsSteady h g
    steady_by Authority g tied spared is own =
        subst (λ (x : KeptField). IsSteady h x) is
        (steady_dropped (linkable_authorities now) key successor h (drop_by d (linkable_authorities now) key successor Authority h) tied
        (dropped_field (linkable_authorities now) key successor Authority d h tied spared))
    steady_by Bibliographic g tied spared is own = cc

-- ---- the record of the place stays one

record_found : (Q : KeptRecord → Type 0) (k : Key) (r : KeptRecord) (rows : List Row) → Each (λ (row : Row). Q row.1) rows → lookup (same_key k) rows ≡ Some r → Q r
record_found Q k r [] a e = cc
record_found Q k r (row ∷ rows) a e = at (same_key k row.0) a.0 (record_found Q k r rows a.1) e
  where
    at : (b : Bool) → Q row.1 → (lookup (same_key k) rows ≡ Some r → Q r) → cond b (Some row.1) (lookup (same_key k) rows) ≡ Some r → Q r
    at true own rest e = let same : row.1 ≡ r = cc in subst Q same own
    at false own rest e = rest e

-- what a lent record has in a state within a stage
record HasRoomFor (class : Class) (key : Key) (r : KeptRecord) : Type 0 where
  room : HasRoom class (key, r)
  within : All (IsWithinReach class) r.fields

roomy_rows : (class : Class) (key : Key) (rows : List Row) → All (HasRoom class) rows → All (λ (row : Row). All (IsWithinReach class) row.1.fields) rows →
    Each (λ (row : Row). HasRoomFor class key row.1) rows
roomy_rows class key rows m w =
    let W = λ (row : Row). All (IsWithinReach class) row.1.fields in
    each_weaker (λ row. HasRoom class row × W row) (λ (row : Row). HasRoomFor class key row.1)
    (λ row x. record { room = record { record_fits = x.0.record_fits; fields_fit = x.0.fields_fit }; within = x.1 }) rows
    (each_both (HasRoom class) W rows (recursion_from_All (HasRoom class) rows m) (recursion_from_All W rows w))

roomy_at : (class : Class) (key : Key) (r : KeptRecord) (s : State) → EachRow HasRoom s → EachField IsWithinReach s → kept_under class key s ≡ Some r → HasRoomFor class key r
roomy_at Authority key r s m w e = record_found (HasRoomFor Authority key) key r s.authorities (roomy_rows Authority key s.authorities m.0 w.0) e
roomy_at Bibliographic key r s m w e = record_found (HasRoomFor Bibliographic key) key r s.bibliographic (roomy_rows Bibliographic key s.bibliographic m.1 w.1) e

exchange_stays : (p : Place) (h g : KeptField) (r : KeptRecord) (s : State) → EachRow HasRoom s → EachField IsWithinReach s → field_under p s ≡ Some h →
    reach p.class g ≤ reach p.class h → IsWithinReach p.class g → IsLentAt p r g.field s → StaysRecord p.field g.field r
exchange_stays p h g r s m w stands less short lent =
    let has = roomy_at p.class p.key r s m w lent.kept in
    let there : slice_get r.fields p.field ≡ Some h = sym (ap (option_and_then (field_at p.field)) lent.kept) ∙ stands in
    let was : reach p.class h ≤ 9999 =
    got (λ x. reach p.class x ≤ 9999) r.fields p.field h (recursion_from_All (λ x. reach p.class x ≤ 9999) r.fields has.room.fields_fit) there in
    stays_record p.class (p.key, r) p.field g.field
    (record { visited = lent.visited; room = has.room; within = has.within; proper = lent.proper; short = omega arith })

-- what a turn of a stage makes of the field at the place, and what one of dropping makes of it
turn_handled : (all : List Linkable) (change : Class → KeptField → KeptField) (now : State) (p : Place) (h : KeptField) → IsMiddleWith all now → IsEitherStage all change →
    field_under p now ≡ Some h → IsHandled all p.class h (change p.class h)
turn_handled all change now p h m either stands =
    let fit : Each (IsFit all) all = subst (λ (l : List Linkable). Each (IsFit l) l) m.authorities_are (fits_of now m.middle.authorities_ascend m.middle.rows.0) in
    let ties : EachField (IsTied all) now = subst (λ (l : List Linkable). EachField (IsTied l) now) m.authorities_are m.middle.ties in
    handled_at all p.class fit h (change p.class h) (either.either p.class h) (field_at_place (IsTied all) now p h p.class refl ties stands)
    (field_at_place IsWithinReach now p h p.class refl m.middle.within stands)

drop_handled : (d : Dropping) (key : Key) (successor : Option Key) (done : List Place) (now : State) (p : Place) (h : KeptField) → CanDropOn d key done now → IsNext done p h now →
    IsHandled (linkable_authorities now) p.class h (drop_by d (linkable_authorities now) key successor p.class h)
drop_handled d key successor done now p h m next =
    let all = linkable_authorities now in
    let tied = field_at_place (IsTiedButTo key all) now p h p.class refl m.ties next.stands in
    let short = field_at_place IsWithinReach now p h p.class refl m.within next.stands in
    handled all key successor p.class (fits_of now m.authorities_ascend m.rows.0) h (drop_by d all key successor p.class h) tied short
    (dropped_field all key successor p.class d h tied (m.spared p h next))

-- in a turn of a stage the record of the place stays one
pub turn_stays : (all : List Linkable) (change : Class → KeptField → KeptField) (now : State) (p : Place) (h : KeptField) (r : KeptRecord) → IsMiddleWith all now →
    IsEitherStage all change → field_under p now ≡ Some h → IsLentAt p r (change p.class h).field now → StaysRecord p.field (change p.class h).field r
turn_stays all change now p h r m either stands lent =
    let done = turn_handled all change now p h m either stands in
    exchange_stays p h (change p.class h) r now m.middle.room m.middle.within stands done.less done.within lent

-- and so in a turn of dropping
pub drop_stays : (d : Dropping) (key : Key) (successor : Option Key) (done : List Place) (now : State) (p : Place) (h : KeptField) (r : KeptRecord) → CanDropOn d key done now →
    IsNext done p h now → IsLentAt p r (drop_by d (linkable_authorities now) key successor p.class h).field now →
    StaysRecord p.field (drop_by d (linkable_authorities now) key successor p.class h).field r
drop_stays d key successor done now p h r m next lent =
    let is = drop_handled d key successor done now p h m next in
    exchange_stays p h (drop_by d (linkable_authorities now) key successor p.class h) r now m.room m.within next.stands is.less is.within lent

-- ---- the record of the place fits its written form

fields_set : (hs : List KeptField) (i : ℕ) (g : KeptField) → map (λ (h : KeptField). h.field) (slice_set hs i g) ≡ slice_set (map (λ (h : KeptField). h.field) hs) i g.field
fields_set [] i g = refl
fields_set (h ∷ hs) zero g = refl
fields_set (h ∷ hs) (suc i) g = ap (λ (l : List Field). h.field ∷ l) (fields_set hs i g)

exchange_fits : (p : Place) (h g : KeptField) (r : KeptRecord) (s : State) → EachRow HasRoom s → EachField IsWithinReach s → field_under p s ≡ Some h →
    reach p.class g ≤ reach p.class h → IsWithinReach p.class g → kept_under p.class p.key s ≡ Some r → StaysFit p.field g.field r
exchange_fits p h g r s m w stands less short kept = λ low.
    let has = roomy_at p.class p.key r s m w kept in
    let there : slice_get r.fields p.field ≡ Some h = sym (ap (option_and_then (field_at p.field)) kept) ∙ stands in
    let within = set_each (IsWithinReach p.class) r.fields p.field g (recursion_from_All (IsWithinReach p.class) r.fields has.within) short in
    subst (λ (l : List Field). fits l ≡ true) (fields_set r.fields p.field g)
    (row_fits p.class (p.key, with_field p.field g r) within (room_set p.class (p.key, r) p.field h g there less has.room))

-- in a turn of a stage the record of the place fits
pub turn_fits : (all : List Linkable) (change : Class → KeptField → KeptField) (now : State) (p : Place) (h : KeptField) (r : KeptRecord) → IsMiddleWith all now →
    IsEitherStage all change → field_under p now ≡ Some h → kept_under p.class p.key now ≡ Some r → StaysFit p.field (change p.class h).field r
turn_fits all change now p h r m either stands kept =
    let done = turn_handled all change now p h m either stands in
    exchange_fits p h (change p.class h) r now m.middle.room m.middle.within stands done.less done.within kept

-- and so in a turn of dropping
pub drop_fits : (d : Dropping) (key : Key) (successor : Option Key) (done : List Place) (now : State) (p : Place) (h : KeptField) (r : KeptRecord) → CanDropOn d key done now →
    IsNext done p h now → kept_under p.class p.key now ≡ Some r → StaysFit p.field (drop_by d (linkable_authorities now) key successor p.class h).field r
drop_fits d key successor done now p h r m next kept =
    let is = drop_handled d key successor done now p h m next in
    exchange_fits p h (drop_by d (linkable_authorities now) key successor p.class h) r now m.room m.within next.stands is.less is.within kept
