-- The place of a name in a list of entries.
use Rattle.std.proofs.Common.{◌≡◌, ◌≢◌, ℕ, ◌<◌, ◌≤◌, List, length, Option, Some, None, IfSome, IfNone, Bool, true, false, cond, nat_lt, refl, sym, ◌∙◌, arith, inl, inr}
use Rattle.std.specs.List.{slice_get}
use Rattle.std.specs.Str.{bytes_eq}
use Rattle.std.proofs.lemmas.Grind.{common_steps}
use Rattle.std.proofs.lemmas.Option.{slice_get_cases}
use Rattle.std.proofs.lemmas.Slice.Eq.{bytes_eq-Decides}

abbrev pub first_of : ℕ → ℕ → Bool → Option ℕ
first_of k len within = cond within (Some k) None

pub found_at : (k len : ℕ) (b : Bool) (r : Option ℕ) → nat_lt k len ≡ b → r ≡ first_of k len b → IfSome r (λ i. (i ≡ k) × (i < len))
found_at k len true None test e = cc
found_at k len true (Some i) test e = let same : i ≡ k = cc in (same, grind (arith, common_steps))
found_at k len false None test e = tt
found_at k len false (Some i) test e = cc

pub missing_at : (k len : ℕ) (b : Bool) (r : Option ℕ) → k ≤ len → nat_lt k len ≡ b → r ≡ first_of k len b → IfNone r (k ≡ len)
missing_at k len true None most test e = cc
missing_at k len true (Some i) most test e = tt
missing_at k len false None most test e = grind (arith, common_steps)
missing_at k len false (Some i) most test e = tt

-- a text that is one name isn't another
pub not_both : (own name other : List ℕ) (b : Bool) → bytes_eq own other ≡ b → other ≢ name → own ≡ name → b ≡ false
not_both own name other true test differ same = absurd (differ (sym ((bytes_eq-Decides own other).0 test) ∙ same))
not_both own name other false test differ same = refl

pub slice_get_past : {X : Type 0} (xs : List X) (i : ℕ) → length xs ≤ i → slice_get xs i ≡ None
slice_get_past xs i past = elim (slice_get_cases xs i).1 [ inl w ↦ absurd (omega (arith, past, w.1)) | inr w ↦ w.1 ]
