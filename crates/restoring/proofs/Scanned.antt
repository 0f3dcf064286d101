-- Rows and fields of which some are looked at already: whether those that are left decide of all.
use Rattle.std.proofs.Common.{◌≡◌, ◌∙◌, sym, refl, subst, ℕ, zero, suc, ◌+◌, ◌<◌, ◌≤◌, arith, Bool, true, false, ltb, List, [], ◌∷◌, length, Some}
use Rattle.std.specs.Prelude.{IfSome, slice_get}
use Rattle.std.specs.Bool.{Decides}
use Rattle.std.specs.List.{All}
use mathlib.Core.Bool.{false≢true}
use Rattle.std.specs.Map.{lookup}
use Rattle.std.proofs.lemmas.Bool.{ltb-false, ltb-true}
use Rattle.std.proofs.lemmas.List.Elements.{All-cons, All-from_recursion, All-head, All-tail, recursion_from_All}
use Rattle.marc_types.specs.Order.{same_key}
use Rattle.marc_types.specs.declared.key.Class.{Class}
use Rattle.entry_record.specs.Authority.{Linkable}
use Rattle.kept_rows.specs.Standing.{DoesRest}
use Rattle.catalogue_rules.specs.State.{KeptField, KeptRecord, Row}
use Rattle.catalogue_rules.specs.Store.{field_at}
use Rattle.catalogue_rules.proofs.Elements.{Each}

-- ---- the fields of a record, by their places

each_place : (P : KeptField → Type 0) (hs : List KeptField) → ((i : ℕ) → i < length hs → IfSome (slice_get hs i) P) → Each P hs
each_place P [] f = tt
each_place P (h ∷ hs) f = (f zero (omega arith), each_place P hs (λ i low. f (suc i) (omega (arith, low))))

place_each : (P : KeptField → Type 0) (hs : List KeptField) (i : ℕ) → Each P hs → IfSome (slice_get hs i) P
place_each P [] i a = tt
place_each P (h ∷ hs) zero a = a.0
place_each P (h ∷ hs) (suc i) a = place_each P hs i a.1

module _ (P : KeptField → Type 0) (r : KeptRecord) where
  -- what holds at each place up to one
  abbrev pub AreUpTo : ℕ → Type 0
  AreUpTo n = (i : ℕ) → i < n → IfSome (field_at i r) P

  -- all places hold it
  pub all_up_to : (n : ℕ) → length r.fields ≤ n → AreUpTo n → Decides true (All P r.fields)
  all_up_to n within up = (λ on. All-from_recursion P r.fields (each_place P r.fields (λ i low. up i (omega (arith, low, within)))), λ all. refl)

  -- one place doesn't
  pub one_off : (n : ℕ) (told : Bool) → told ≡ false → Decides told (IfSome (field_at n r) P) → Decides false (All P r.fields)
  one_off n told off decides =
      (λ on. absurd (false≢true on), λ all. sym off ∙ decides.1 (place_each P r.fields n (recursion_from_All P r.fields all)))

  pub one_more : (n : ℕ) → AreUpTo n → IfSome (field_at n r) P → AreUpTo (n + 1)
  one_more n up next i low = by (ltb i n) refl
    where
      by : (b : Bool) → ltb i n ≡ b → IfSome (field_at i r) P
      by true e = up i (ltb-true i n e)
      by false e =
          let high : n ≤ i = ltb-false i n e in
          let same : n ≡ i = omega (arith, low, high) in
          subst (λ k. IfSome (field_at k r) P) same next

-- ---- rows

-- each field of the row rests
abbrev pub RowRests : List Linkable → Class → Row → Type 0
RowRests authorities class row = All (DoesRest authorities class) row.1.fields

-- the rows that are left decide of all, and each stands under its key
pub record AreLeft (P : Row → Type 0) (rows left : List Row) : Type 0 where
  pub on : All P left → All P rows
  pub back : All P rows → All P left
  pub there : Each (λ (row : Row). lookup (same_key row.0) rows ≡ Some row.1) left

module _ (P : Row → Type 0) (rows : List Row) where
  pub begun : (left : List Row) → left ≡ rows → Each (λ (row : Row). lookup (same_key row.0) rows ≡ Some row.1) rows → AreLeft P rows left
  begun left e there = subst (AreLeft P rows) (sym e) (record { on = λ a. a; back = λ a. a; there = there })

  module _ (row : Row) (behind left : List Row) (e : left ≡ row ∷ behind) (are : AreLeft P rows left) where
    theirs : Each (λ (x : Row). lookup (same_key x.0) rows ≡ Some x.1) (row ∷ behind)
    theirs = subst (Each (λ (x : Row). lookup (same_key x.0) rows ≡ Some x.1)) e are.there

    pub next_there : lookup (same_key row.0) rows ≡ Some row.1
    next_there = theirs.0

    -- the next one has it
    pub passed : P row → AreLeft P rows behind
    passed own = record {
      on = λ a. are.on (subst (All P) (sym e) (All-cons P row behind own a));
      back = λ a. All-tail P row behind (subst (All P) e (are.back a));
      there = theirs.1;
    }

    -- the next one hasn't
    pub stopped : (told : Bool) → told ≡ false → Decides told (P row) → Decides false (All P rows)
    stopped told off decides = (λ on. absurd (false≢true on), λ a. sym off ∙ decides.1 (All-head P row behind (subst (All P) e (are.back a))))
