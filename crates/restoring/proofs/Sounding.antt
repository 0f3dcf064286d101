-- Rows that are sound alone: as they are handed over, and as the state has them.
use Rattle.std.proofs.Common.{◌≡◌, ◌∙◌, ap, refl, subst, sym, ℕ, ◌+◌, ◌<◌, ◌≤◌, arith, length, get_or, ltb, Bool, true, false, cond, List, [], ◌∷◌, map}
use Rattle.std.specs.Prelude.{filter, Ok, Err, IfErr, IsErrAnd}
use Rattle.std.specs.declared.result.Result.{Result}
use mathlib.Core.Bool.{false≢true}
use Rattle.std.specs.Bool.{Decides}
use Rattle.std.specs.List.{All}
use Rattle.std.proofs.lemmas.Bool.{ltb-false, ltb-true}
use Rattle.std.proofs.lemmas.List.{get_or_default}
use Rattle.std.proofs.lemmas.List.Elements.{All-from_recursion, recursion_from_All}
use Rattle.marc_types.specs.declared.key.Class.{Class}
use Rattle.marc_types.specs.declared.key.Class.TheVariants.{Authority, Bibliographic}
use Rattle.catalogue_rules.specs.Receipt.{same_class}
use Rattle.catalogue_rules.specs.State.{Row, State, linkable_authorities}
use Rattle.catalogue_rules.specs.Valid.{EachField, EachRow, IsAscending}
use Rattle.catalogue_rules.proofs.Elements.{Each}
use Rattle.kept_rows.specs.Rows.{is_of, row_of, rows_in, state_of_rows}
use Rattle.kept_rows.specs.Standing.{DoesRest, IsSound, IsSoundRow, IsStanding}
use Rattle.kept_rows.specs.declared.row.KeptRow.{KeptRow}
use Rattle.linking_laws.specs.Middle.{AreAuthoritiesInOrder}
use Rattle.restoring.specs.Restoring.{IsUnfit}
use Rattle.restoring.specs.declared.engine.EngineFault.{EngineFault}
use Rattle.restoring.specs.declared.engine.EngineFault.TheVariants.{NoMemory}

abbrev pub IsSoundKept : KeptRow → Type 0
IsSoundKept r = IsSoundRow r.class (row_of r)

class_is : (a b : Class) → same_class a b ≡ true → a ≡ b
class_is Authority Authority e = refl
class_is Bibliographic Bibliographic e = refl
class_is Authority Bibliographic e = cc
class_is Bibliographic Authority e = cc

-- ---- the rows of a class

module _ (class : Class) where
  abbrev of_class : List KeptRow → List Row
  of_class rows = map row_of (filter (is_of class) rows)

  each_at : (r : KeptRow) (rest : List KeptRow) (b : Bool) → is_of class r ≡ b → IsSoundKept r → Each (IsSoundRow class) (map row_of rest)
      → Each (IsSoundRow class) (map row_of (cond b (r ∷ rest) rest))
  each_at r rest true e own a = (subst (λ (k : Class). IsSoundRow k (row_of r)) (class_is r.class class e) own, a)
  each_at r rest false e own a = a

  each_of : (rows : List KeptRow) → Each IsSoundKept rows → Each (IsSoundRow class) (of_class rows)
  each_of [] a = tt
  each_of (r ∷ rows) a = each_at r (filter (is_of class) rows) (is_of class r) refl a.0 (each_of rows a.1)

  behind : (r : KeptRow) (rows : List KeptRow) → Each (IsSoundRow class) (of_class (r ∷ rows)) → Each (IsSoundRow class) (of_class rows)
  behind r rows a = by (is_of class r) a
    where
      by : (b : Bool) → Each (IsSoundRow class) (map row_of (cond b (r ∷ filter (is_of class) rows) (filter (is_of class) rows))) → Each (IsSoundRow class) (of_class rows)
      by true a = a.1
      by false a = a

  first : (r : KeptRow) (rows : List KeptRow) → is_of class r ≡ true → Each (IsSoundRow class) (of_class (r ∷ rows)) → IsSoundRow class (row_of r)
  first r rows e a = (subst (λ (b : Bool). Each (IsSoundRow class) (map row_of (cond b (r ∷ filter (is_of class) rows) (filter (is_of class) rows)))) e a).0

each_kept : (rows : List KeptRow) → Each (IsSoundRow Authority) (of_class Authority rows) → Each (IsSoundRow Bibliographic) (of_class Bibliographic rows) → Each IsSoundKept rows
each_kept [] a b = tt
each_kept (r ∷ rows) a b = (by r.class refl, each_kept rows (behind Authority r rows a) (behind Bibliographic r rows b))
  where
    by : (k : Class) → r.class ≡ k → IsSoundRow r.class (row_of r)
    by Authority e = subst (λ (k : Class). IsSoundRow k (row_of r)) (sym e) (first Authority r rows (ap (λ (k : Class). same_class k Authority) e) a)
    by Bibliographic e = subst (λ (k : Class). IsSoundRow k (row_of r)) (sym e) (first Bibliographic r rows (ap (λ (k : Class). same_class k Bibliographic) e) b)

-- rows are sound as they are handed over exactly where those of the state are
pub rows_sound : (rows : List KeptRow) → All IsSoundKept rows → EachRow IsSoundRow (state_of_rows rows)
unfolding rows_in
rows_sound rows all =
    let each = recursion_from_All IsSoundKept rows all in (
      All-from_recursion (IsSoundRow Authority) (rows_in Authority rows) (each_of Authority rows each),
      All-from_recursion (IsSoundRow Bibliographic) (rows_in Bibliographic rows) (each_of Bibliographic rows each),
    )

pub sound_rows : (rows : List KeptRow) → EachRow IsSoundRow (state_of_rows rows) → All IsSoundKept rows
unfolding rows_in
sound_rows rows both =
    All-from_recursion IsSoundKept rows
    (each_kept rows (recursion_from_All (IsSoundRow Authority) (rows_in Authority rows) both.0) (recursion_from_All (IsSoundRow Bibliographic) (rows_in Bibliographic rows) both.1))

-- ---- the state that was fed

-- authorities in order, and sound
pub sound_in_order : (s : State) → IsAscending s.authorities → EachRow IsSoundRow s → AreAuthoritiesInOrder s
sound_in_order s ascend rows = record { ascend = ascend; rows = λ k d within. (rows.0 k d within).row_is }

-- ---- whether a catalogue can begin with rows

module _ (rows : List KeptRow) where
  abbrev fed : State
  fed = state_of_rows rows

  -- a row that isn't sound
  pub unsound : (told : Bool) → told ≡ false → Decides told (All IsSoundKept rows) → (IsStanding fed → IsSound fed) → IsStanding fed → ⊥
  unsound told off decides stands standing = false≢true (sym off ∙ decides.1 (sound_rows rows (stands standing).rows))

  module _ (s : State) (is : s ≡ fed) where
    -- a field that doesn't rest
    pub unresting : (told : Bool) → told ≡ false → Decides told (EachField (DoesRest (linkable_authorities s)) s) → (IsStanding fed → IsSound fed) → IsStanding fed → ⊥
    unresting told off decides stands standing =
        false≢true (sym off ∙ decides.1 (subst (λ (x : State). EachField (DoesRest (linkable_authorities x)) x) (sym is) (stands standing).fields))

    pub fed_in_order : ((class : Class) → IsAscending (rows_in class rows)) → All IsSoundKept rows → AreAuthoritiesInOrder s
    fed_in_order ascend sound = subst AreAuthoritiesInOrder (sym is) (sound_in_order fed (ascend Authority) (rows_sound rows sound))

    pub stands_so : ((class : Class) → IsAscending (rows_in class rows)) → All IsSoundKept rows → EachField (DoesRest (linkable_authorities s)) s
        → (IsSound fed → IsStanding fed) → IsStanding fed
    stands_so ascend sound rests stands = stands (record {
      authorities_ascend = ascend Authority;
      bibliographic_ascend = ascend Bibliographic;
      rows = rows_sound rows sound;
      fields = subst (λ (x : State). EachField (DoesRest (linkable_authorities x)) x) is rests;
    })

-- ---- one row after the other

-- the rows up to one are sound
abbrev pub AreSoundUpTo : List KeptRow → ℕ → Type 0
AreSoundUpTo rows n = (k : ℕ) (d : KeptRow) → k < n → IsSoundKept (get_or rows k d)

module _ (rows : List KeptRow) (n : ℕ) (row : KeptRow) (within : n < length rows) (is : row ≡ get_or rows n row) where
  own : (d : KeptRow) → get_or rows n d ≡ row
  own d = get_or_default rows n d row within ∙ sym is

  pub one_more_sound : AreSoundUpTo rows n → IsSoundKept row → AreSoundUpTo rows (n + 1)
  one_more_sound up sound k d low = by (ltb k n) refl
    where
      by : (b : Bool) → ltb k n ≡ b → IsSoundKept (get_or rows k d)
      by true e = up k d (ltb-true k n e)
      by false e =
          let high : n ≤ k = ltb-false k n e in
          let same : n ≡ k = omega (arith, low, high) in
          subst (λ i. IsSoundKept (get_or rows i d)) same (subst IsSoundKept (sym (own d)) sound)

  pub one_unsound : (told : Bool) → told ≡ false → Decides told (IsSoundKept row) → Decides false (All IsSoundKept rows)
  one_unsound told off decides = (λ on. absurd (false≢true on), λ all. sym off ∙ decides.1 (subst IsSoundKept (own row) (all n row within)))

pub all_sound : (rows : List KeptRow) (n : ℕ) → length rows ≤ n → AreSoundUpTo rows n → Decides true (All IsSoundKept rows)
all_sound rows n whole up = (λ on k d low. up k d (omega (arith, low, whole)), λ all. refl)

-- want of memory says nothing of a state
pub unfit_for_memory : {T : Type 0} (s : State) (r : Result T EngineFault) → IsErrAnd r (λ fault. fault ≡ NoMemory) → IfErr r (IsUnfit s)
unfit_for_memory s (Ok x) e = tt
unfit_for_memory s (Err fault) e = subst (IsUnfit s) (sym e) tt
