-- What holds of each field of a state holds of the one at a place, and so the stages change 5XX fields alone.
use Rattle.std.proofs.Common.{◌≡◌, ℕ, zero, suc, Bool, true, false, cond, List, [], ◌∷◌, Option, Some, None, refl, sym, ap, ◌∙◌, subst}
use Rattle.std.specs.Prelude.{All, slice_get}
use Rattle.std.specs.Map.{lookup}
use Rattle.std.specs.Option.{option_and_then}
use Rattle.std.proofs.lemmas.List.Elements.{recursion_from_All}
use Rattle.marc_types.specs.declared.key.Class.{Class}
use Rattle.marc_types.specs.declared.key.Class.TheVariants.{Authority, Bibliographic}
use Rattle.marc_types.specs.declared.key.Key.{Key}
use Rattle.marc_types.specs.declared.key.Place.{Place}
use Rattle.marc_types.specs.Order.{same_key}
use Rattle.entry_record.specs.Authority.{Linkable}
use Rattle.catalogue_rules.specs.State.{KeptField, KeptRecord, Row, State, rows_of, linkable_authorities}
use Rattle.catalogue_rules.specs.Valid.{IsTied}
use Rattle.catalogue_rules.proofs.Elements.{Each, each_weaker}
use Rattle.catalogue_rules.specs.Store.{field_at, field_under}
use Rattle.linking_laws.specs.Middle.{IsMiddleWith, IsEitherStage, IsTiedButTo, IsSparedRightly, CanDrop}
use Rattle.linking_laws.specs.Partway.{IsSteadyChange}
use Rattle.linking_laws.specs.Stages.{Dropping, drop_by}
use Rattle.linking_laws.proofs.Settling.{steady_at}
use Rattle.linking_laws.proofs.Dropped.{dropped_field, steady_dropped}

pub got : (P : KeptField → Type 0) (hs : List KeptField) (i : ℕ) (h : KeptField) → Each P hs → slice_get hs i ≡ Some h → P h
got P [] i h a e = cc
got P (x ∷ hs) zero h a e = let same : x ≡ h = cc in subst P same a.0
got P (x ∷ hs) (suc i) h a e = got P hs i h a.1 e

found_at : (P : KeptField → Type 0) (row : Row) (o : Option KeptRecord) (b : Bool) (r : KeptRecord) → Each P row.1.fields → (o ≡ Some r → Each P r.fields) → cond b (Some row.1) o ≡ Some r → Each P r.fields
found_at P row o true r a more e = let same : row.1 ≡ r = cc in subst (λ (x : KeptRecord). Each P x.fields) same a
found_at P row o false r a more e = more e

found : (P : KeptField → Type 0) (rows : List Row) (k : Key) (r : KeptRecord) → Each (λ (row : Row). Each P row.1.fields) rows → lookup (same_key k) rows ≡ Some r → Each P r.fields
found P [] k r a e = cc
found P (row ∷ rows) k r a e = found_at P row (lookup (same_key k) rows) (same_key k row.0) r a.0 (found P rows k r a.1) e

field_in : (P : KeptField → Type 0) (rows : List Row) (k : Key) (i : ℕ) (h : KeptField) (o : Option KeptRecord) → Each (λ (row : Row). Each P row.1.fields) rows → lookup (same_key k) rows ≡ o →
    option_and_then (field_at i) o ≡ Some h → P h
field_in P rows k i h None a is e = cc
field_in P rows k i h (Some r) a is e = got P r.fields i h (found P rows k r a is) e

pub each_row_of : (P : KeptField → Type 0) (rows : List Row) → All (λ (row : Row). All P row.1.fields) rows → Each (λ (row : Row). Each P row.1.fields) rows
each_row_of P rows a =
    each_weaker (λ (row : Row). All P row.1.fields) (λ (row : Row). Each P row.1.fields) (λ row b. recursion_from_All P row.1.fields b) rows
    (recursion_from_All (λ (row : Row). All P row.1.fields) rows a)

-- what holds of each field of the authority records holds of the one at a place of theirs
pub field_of_authority : (P : KeptField → Type 0) (s : State) (q : Place) (h : KeptField) → All (λ (row : Row). All P row.1.fields) s.authorities → q.class ≡ Authority → field_under q s ≡ Some h → P h
field_of_authority P s q h a class e =
    field_in P s.authorities q.key q.field h (lookup (same_key q.key) s.authorities) (each_row_of P s.authorities a) refl
    (sym (ap (λ (c : Class). option_and_then (field_at q.field) (lookup (same_key q.key) (rows_of c s))) class) ∙ e)

pub field_of_bibliographic : (P : KeptField → Type 0) (s : State) (q : Place) (h : KeptField) → All (λ (row : Row). All P row.1.fields) s.bibliographic → q.class ≡ Bibliographic →
    field_under q s ≡ Some h → P h
field_of_bibliographic P s q h a class e =
    field_in P s.bibliographic q.key q.field h (lookup (same_key q.key) s.bibliographic) (each_row_of P s.bibliographic a) refl
    (sym (ap (λ (c : Class). option_and_then (field_at q.field) (lookup (same_key q.key) (rows_of c s))) class) ∙ e)

-- a stage that leaves each field or settles it is of 5XX fields
pub stage_steady : (all : List Linkable) (change : Class → KeptField → KeptField) (s : State) → IsMiddleWith all s → IsEitherStage all change → IsSteadyChange change s
stage_steady all change s m either = record {
  steady = λ q h class there.
      let tied : IsTied (linkable_authorities s) Authority h = field_of_authority (IsTied (linkable_authorities s) Authority) s q h m.middle.ties.0 class there in
      steady_at all h (change Authority h) (either.either Authority h) (subst (λ (l : List Linkable). IsTied l Authority h) m.authorities_are tied);
}

-- and so is dropping
pub drop_steady : (d : Dropping) (key : Key) (successor : Option Key) (s : State) → CanDrop d key s → IsSteadyChange (drop_by d (linkable_authorities s) key successor) s
drop_steady d key successor s m = record {
  steady = λ q h class there.
      let all = linkable_authorities s in
      let tied : IsTiedButTo key all Authority h = field_of_authority (IsTiedButTo key all Authority) s q h m.ties.0 class there in
      let spared : IsSparedRightly d key all Authority h = field_of_authority (IsSparedRightly d key all Authority) s q h m.spared.0 class there in
      steady_dropped all key successor h (drop_by d all key successor Authority h) tied (dropped_field all key successor Authority d h tied spared);
}
