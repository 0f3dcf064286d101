-- A step on one of the three words is a step over plain numbers.
use Rattle.std.proofs.Common.{◌≡◌, ℕ, ◌<◌, List, length, Option, sym, ap, subst, slice_index, slice_set, set}
use mathlib.Core.Option.{Option as Home, some}
use lib.ListN.{get_elem?}
use Rattle.atomic_table.specs.Table.{Me, Act, Valid, Allows, homes_after, carried_after}
use Rattle.catalogue_lock.specs.declared.view.View.{View}
use Rattle.catalogue_lock.specs.declared.view.Terms.{Terms}
use Rattle.catalogue_lock.specs.Rule.{Stands, Kept}

module _ {O I Origin : Type 0} (history : O → List I) (origin : O → Origin) (key : Terms O) (slots id : ℕ) (me : Me (Option O) (View O I)) where
  abbrev S : Type 0
  S = Option O

  abbrev V : Type 0
  V = View O I

  -- where the seat may go from these numbers to those
  abbrev pub Goes : (ℕ → Me S V → Type 0) → ℕ → List (Home S) → List V → ℕ → ℕ → ℕ → Type 0
  Goes then found homes views ticket serving count =
      (w : V) × (a : Act S) × Valid homes me.1 a × Stands history origin key ticket serving count (homes_after homes me.1 a) (set views id w) × then found (w, carried_after me.1 a)

  abbrev pub FromAll : (ℕ → ℕ → ℕ → List (Home S) → List V → Type 0) → Type 0
  FromAll goal = (ticket serving count : ℕ) (homes : List (Home S)) (views : List V) → Stands history origin key ticket serving count homes views
      → length homes ≡ slots → get_elem? views id ≡ some me.0 → goal ticket serving count homes views

  pub on_ticket : (f : ℕ → ℕ) (then : ℕ → Me S V → Type 0)
      → FromAll (λ ticket serving count homes views. ticket < 18446744073709551616 → Goes then ticket homes views (f ticket) serving count)
      → Allows (Kept history origin key) slots id me 0 f then
  on_ticket f then go s kept long at small =
      let e = kept.words in
      let found : slice_index s.words 0 ≡ kept.ticket = ap (λ (ws : List ℕ). slice_index ws 0) e in
      let r = go kept.ticket kept.serving kept.count s.homes s.views kept.stands long at (subst (λ (n : ℕ). n < 18446744073709551616) found small) in (
        r.0,
        r.1,
        r.2,
        record { ticket = f kept.ticket; serving = kept.serving; count = kept.count; words = ap (λ (ws : List ℕ). slice_set ws 0 (f (slice_index ws 0))) e; stands = r.3 },
        subst (λ (n : ℕ). then n (r.0, carried_after me.1 r.1)) (sym found) r.4,
      )

  pub on_serving : (f : ℕ → ℕ) (then : ℕ → Me S V → Type 0)
      → FromAll (λ ticket serving count homes views. serving < 18446744073709551616 → Goes then serving homes views ticket (f serving) count)
      → Allows (Kept history origin key) slots id me 1 f then
  on_serving f then go s kept long at small =
      let e = kept.words in
      let found : slice_index s.words 1 ≡ kept.serving = ap (λ (ws : List ℕ). slice_index ws 1) e in
      let r = go kept.ticket kept.serving kept.count s.homes s.views kept.stands long at (subst (λ (n : ℕ). n < 18446744073709551616) found small) in (
        r.0,
        r.1,
        r.2,
        record { ticket = kept.ticket; serving = f kept.serving; count = kept.count; words = ap (λ (ws : List ℕ). slice_set ws 1 (f (slice_index ws 1))) e; stands = r.3 },
        subst (λ (n : ℕ). then n (r.0, carried_after me.1 r.1)) (sym found) r.4,
      )

  pub on_count : (f : ℕ → ℕ) (then : ℕ → Me S V → Type 0)
      → FromAll (λ ticket serving count homes views. count < 18446744073709551616 → Goes then count homes views ticket serving (f count))
      → Allows (Kept history origin key) slots id me 2 f then
  on_count f then go s kept long at small =
      let e = kept.words in
      let found : slice_index s.words 2 ≡ kept.count = ap (λ (ws : List ℕ). slice_index ws 2) e in
      let r = go kept.ticket kept.serving kept.count s.homes s.views kept.stands long at (subst (λ (n : ℕ). n < 18446744073709551616) found small) in (
        r.0,
        r.1,
        r.2,
        record { ticket = kept.ticket; serving = kept.serving; count = f kept.count; words = ap (λ (ws : List ℕ). slice_set ws 2 (f (slice_index ws 2))) e; stands = r.3 },
        subst (λ (n : ℕ). then n (r.0, carried_after me.1 r.1)) (sym found) r.4,
      )
