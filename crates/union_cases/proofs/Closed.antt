-- What is put into a sure room is no open name.
use Rattle.std.proofs.Common.{◌≡◌, ◌≢◌, ◌∙◌, ℕ, Bool, true, false, true≢false, List, Option, refl, sym, ap, None}
use Rattle.marc_types.specs.Order.{text_Decides}
use Rattle.std.specs.Str.{bytes_eq}
use Rattle.outside_sure.specs.SureKept.{kept_sort}
use Rattle.outside_sure.specs.SureRoom.{kept_under, KeepsUnder, MakesDrawer}
use Rattle.outside_sure.specs.declared.kept.Kept.{Kept}
use Rattle.outside_sure.specs.declared.sure_room.SureRoom.{SureRoom}

module _ {room : ℕ} where
  -- in an empty sure room no name is open
  pub sure_empty : (made : SureRoom room) → ((n : List ℕ) → kept_under made n ≡ None) → (n : List ℕ) → kept_sort (kept_under made n) ≡ None
  sure_empty made empty n = ap kept_sort (empty n)

  -- a room with other limits has the same names open
  pub sure_sized : (old new : SureRoom room) → ((n : List ℕ) → kept_under new n ≡ kept_under old n)
      → ((n : List ℕ) → kept_sort (kept_under old n) ≡ None) → (n : List ℕ) → kept_sort (kept_under new n) ≡ None
  sure_sized old new same was n = ap kept_sort (same n) ∙ was n

  closed_at : (b : Bool) (old new : SureRoom room) (name n : List ℕ) → (b ≡ true → n ≡ name) → (n ≡ name → b ≡ true)
      → kept_sort (kept_under new name) ≡ None → (n ≢ name → kept_under new n ≡ kept_under old n) → kept_sort (kept_under old n) ≡ None
      → kept_sort (kept_under new n) ≡ None
  closed_at true old new name n same back here others was = ap (λ m. kept_sort (kept_under new m)) (same refl) ∙ here
  closed_at false old new name n same back here others was = ap kept_sort (others (λ e. absurd (true≢false (sym (back e))))) ∙ was

  still_closed : (old new : SureRoom room) (name : List ℕ) → kept_sort (kept_under new name) ≡ None
      → ((n : List ℕ) → n ≢ name → kept_under new n ≡ kept_under old n) → ((n : List ℕ) → kept_sort (kept_under old n) ≡ None)
      → (n : List ℕ) → kept_sort (kept_under new n) ≡ None
  still_closed old new name here others was n =
      let same = text_Decides n name in
      closed_at (bytes_eq n name) old new name n same.0 same.1 here (others n) (was n)

  -- an input that is given isn't open
  pub sure_given : (old new : SureRoom room) (name : List ℕ) (kept : Option (Kept room)) → kept_sort kept ≡ None → KeepsUnder old new name kept
      → ((n : List ℕ) → kept_sort (kept_under old n) ≡ None) → (n : List ℕ) → kept_sort (kept_under new n) ≡ None
  sure_given old new name kept free keeps was = still_closed old new name (ap kept_sort keeps.here ∙ free) keeps.others was

  -- nor is a drawer that is made
  pub sure_drawer_made : (old new : SureRoom room) (name : List ℕ) (bytes : Option (List ℕ)) → MakesDrawer old new name bytes
      → ((n : List ℕ) → kept_sort (kept_under old n) ≡ None) → (n : List ℕ) → kept_sort (kept_under new n) ≡ None
  sure_drawer_made old new name bytes makes was = still_closed old new name makes.closed makes.others was
