-- The receipts of a pass's entries are those of its loader's entries.
use Rattle.std.proofs.Common.{◌≡◌, ◌∙◌, ℕ, ◌==◌, Bool, true, false, List, [], ◌∷◌, ◌++◌, Some, if◌then◌else◌, append-nil, refl, sym, ap}
use Rattle.marc_types.specs.declared.entry.Entry.{Entry}
use Rattle.marc_types.specs.declared.entry.Receipt.{Receipt}
use Rattle.catalogue_rules.specs.Receipts.{receipt_behind, receipts_behind, receipts_of_loader}
use Rattle.entry_history.specs.Events.{entries_of}
use Rattle.entry_history.specs.declared.event.Event.{Event}
use Rattle.entry_history.specs.declared.event.Event.TheVariants.{Committed, Broke}
use Rattle.catalogue_lock.specs.declared.view.Numbered.{Numbered}
use Rattle.catalogue_lock.specs.History.{items}
use Rattle.loader_workers.specs.Turns.{receipts_by}
use Rattle.loader_workers.proofs.Receipts.{receipts_by_more, receipts_by_none, behind_none}
use Rattle.loader_workers.proofs.Owned.{Owned, NoItem, OneMore, same_either_way}

of_loader_none : (loader : ℕ) (before : List Entry) → receipts_of_loader loader before [] ≡ []
unfolding receipts_of_loader
of_loader_none loader before = refl

of_loader_more : (loader : ℕ) (before : List Entry) (e : Entry) (es : List Entry)
    → receipts_of_loader loader before (e ∷ es)
    ≡ (if e.loader == loader then receipt_behind before e ∷ receipts_of_loader loader (before ++ e ∷ []) es else receipts_of_loader loader (before ++ e ∷ []) es)
unfolding receipts_of_loader
of_loader_more loader before e es = refl

behind_here : (b : Bool) (before : List Entry) (e : Entry) (rs : List Receipt) → receipts_behind before (if b then e ∷ [] else []) ++ rs ≡ (if b then receipt_behind before e ∷ rs else rs)
unfolding receipts_behind
behind_here true before e rs = refl
behind_here false before e rs = refl

behind_no_entry : (b : Bool) (before : List Entry) (rs : List Receipt) → receipts_behind before (if b then [] else []) ++ rs ≡ rs
behind_no_entry true before rs = ap (λ l. l ++ rs) (behind_none before)
behind_no_entry false before rs = ap (λ l. l ++ rs) (behind_none before)

pub by_loader : (callers loader : ℕ) (before : List Entry) (later : List (Numbered Event)) → Owned callers later
    → receipts_by loader before later ≡ receipts_of_loader loader before (entries_of (items later))
by_loader callers loader before _ NoItem = receipts_by_none loader before ∙ sym (of_loader_none loader before)
by_loader callers loader before _ (OneMore n (Committed e) rest lt is own) =
    let later = receipts_by loader (before ++ e ∷ []) rest in
    let all = entries_of (items rest) in
    receipts_by_more loader before (record { by = Some n; item = Committed e }) rest
    ∙ (behind_here (loader == n) before e later
    ∙ (ap (λ (rs : List Receipt). if loader == n then receipt_behind before e ∷ rs else rs) (by_loader callers loader (before ++ e ∷ []) rest own)
    ∙ (ap (λ (b : Bool). if b then receipt_behind before e ∷ receipts_of_loader loader (before ++ e ∷ []) all else receipts_of_loader loader (before ++ e ∷ []) all)
    (same_either_way loader n ∙ ap (λ (i : ℕ). i == loader) (sym is))
    ∙ sym (of_loader_more loader before e all))))
by_loader callers loader before _ (OneMore n (Broke es) rest lt is own) =
    receipts_by_more loader before (record { by = Some n; item = Broke es }) rest
    ∙ (behind_no_entry (loader == n) before (receipts_by loader (before ++ []) rest)
    ∙ (ap (λ b. receipts_by loader b rest) (append-nil before) ∙ by_loader callers loader before rest own))
