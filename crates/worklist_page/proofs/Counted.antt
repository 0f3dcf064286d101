-- Entries of a history, counted one behind the other.
use Rattle.std.proofs.Common.{◌≡◌, ◌∙◌, ℕ, List, [], ◌∷◌, ◌++◌, sym, ap}
use Rattle.std.proofs.lemmas.List.Sums.{fold-append}
use Rattle.marc_types.specs.declared.entry.Entry.{Entry}
use Rattle.worklist_page.specs.declared.bringer.Bringer.{Bringer}
use Rattle.worklist_page.specs.Brought.{brought_by, with_entry}

-- the next entry is counted
pub counted_behind : (before : List Entry) (e : Entry) (old new : List (Bringer × ℕ)) → old ≡ brought_by before → new ≡ with_entry old e
    → new ≡ brought_by (before ++ e ∷ [])
unfolding brought_by
counted_behind before e old new so_far counted =
    counted ∙ ap (λ rows. with_entry rows e) so_far ∙ sym (fold-append with_entry [] before (e ∷ []))
