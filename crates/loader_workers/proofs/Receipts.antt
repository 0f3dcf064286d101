-- The receipts of one pass's entries, each at its own place of a history.
use Rattle.std.proofs.Common.{◌≡◌, ◌∙◌, ℕ, Bool, true, false, List, [], ◌∷◌, ◌++◌, length, Some, if◌then◌else◌, append_assoc, append-nil, refl, sym, ap, arith, eq-eqb}
use Rattle.marc_types.specs.declared.entry.Entry.{Entry}
use Rattle.catalogue_rules.specs.Receipts.{receipts_behind}
use Rattle.entry_history.specs.Events.{entries_of, committed_entries, committed}
use Rattle.entry_history.specs.declared.event.Event.{Event}
use Rattle.entry_history.specs.declared.event.Event.TheVariants.{Committed, Broke}
use Rattle.catalogue_lock.specs.declared.view.Numbered.{Numbered}
use Rattle.catalogue_lock.specs.History.{items, numbered, items_by, is_same_number}
use Rattle.loader_workers.specs.Turns.{entries_at, receipts_by}

pub receipts_by_more : (number : ℕ) (before : List Entry) (e : Numbered Event) (later : List (Numbered Event))
    → receipts_by number before (e ∷ later) ≡ receipts_behind before (entries_at number e) ++ receipts_by number (before ++ committed_entries e.item) later
unfolding receipts_by
receipts_by_more number before e later = refl

pub receipts_by_none : (number : ℕ) (before : List Entry) → receipts_by number before [] ≡ []
unfolding receipts_by
receipts_by_none number before = refl

pub behind_none : (before : List Entry) → receipts_behind before [] ≡ []
unfolding receipts_behind
behind_none before = refl

behind_one : (before : List Entry) (e : Entry) (es : List Entry) → receipts_behind before (e ∷ es) ≡ receipts_behind before (e ∷ []) ++ receipts_behind (before ++ e ∷ []) es
unfolding receipts_behind
behind_one before e es = refl

-- one part behind another
pub receipts_by_append : (number : ℕ) (before : List Entry) (xs ys : List (Numbered Event))
    → receipts_by number before (xs ++ ys) ≡ receipts_by number before xs ++ receipts_by number (before ++ entries_of (items xs)) ys
receipts_by_append number before [] ys =
    ap (λ b. receipts_by number b ys) (sym (append-nil before))
    ∙ ap (λ rs. rs ++ receipts_by number (before ++ []) ys) (sym (receipts_by_none number before))
receipts_by_append number before (x ∷ xs) ys =
    let here = receipts_behind before (entries_at number x) in
    let behind = before ++ committed_entries x.item in
    receipts_by_more number before x (xs ++ ys)
    ∙ ap (λ rs. here ++ rs) (receipts_by_append number behind xs ys)
    ∙ ap (λ b. here ++ (receipts_by number behind xs ++ receipts_by number b ys)) (append_assoc before (committed_entries x.item) (entries_of (items xs)))
    ∙ sym (append_assoc here (receipts_by number behind xs) (receipts_by number (before ++ entries_of (items (x ∷ xs))) ys))
    ∙ ap (λ rs. rs ++ receipts_by number (before ++ entries_of (items (x ∷ xs))) ys) (sym (receipts_by_more number before x xs))

-- where an item is another's, it has no receipt here
other_at : (b : Bool) (e : Event) (rest : List Event) → (if b then e ∷ rest else rest) ≡ [] → (if b then committed_entries e else []) ≡ []
other_at true e rest none = absurd (cc none)
other_at false e rest none = refl

other_rest : (b : Bool) (e : Event) (rest : List Event) → (if b then e ∷ rest else rest) ≡ [] → rest ≡ []
other_rest true e rest none = absurd (cc none)
other_rest false e rest none = none

-- a part with none of the number's items has none of its receipts
pub receipts_by_others : (number : ℕ) (before : List Entry) (xs : List (Numbered Event)) → items_by (Some number) xs ≡ [] → receipts_by number before xs ≡ []
receipts_by_others number before [] none = receipts_by_none number before
receipts_by_others number before (x ∷ xs) none =
    let b = is_same_number (Some number) x.by in
    let here : entries_at number x ≡ [] = other_at b x.item (items_by (Some number) xs) none in
    let rest = other_rest b x.item (items_by (Some number) xs) none in
    receipts_by_more number before x xs
    ∙ ap (λ es. receipts_behind before es ++ receipts_by number (before ++ committed_entries x.item) xs) here
    ∙ ap (λ rs. rs ++ receipts_by number (before ++ committed_entries x.item) xs) (behind_none before)
    ∙ receipts_by_others number (before ++ committed_entries x.item) xs rest

own_at : (number : ℕ) (e : Event) → entries_at number (record { by = Some number; item = e }) ≡ committed_entries e
own_at number e = ap (λ (b : Bool). if b then committed_entries e else []) (eq-eqb number number refl)

-- a part that is all the number's own
pub receipts_by_own : (number : ℕ) (before : List Entry) (added : List Event) → receipts_by number before (numbered (Some number) added) ≡ receipts_behind before (entries_of added)
receipts_by_own number before [] = receipts_by_none number before ∙ sym (behind_none before)
receipts_by_own number before (Committed e ∷ added) =
    receipts_by_more number before (record { by = Some number; item = Committed e }) (numbered (Some number) added)
    ∙ ap (λ es. receipts_behind before es ++ receipts_by number (before ++ e ∷ []) (numbered (Some number) added)) (own_at number (Committed e))
    ∙ ap (λ rs. receipts_behind before (e ∷ []) ++ rs) (receipts_by_own number (before ++ e ∷ []) added)
    ∙ sym (behind_one before e (entries_of added))
receipts_by_own number before (Broke es ∷ added) =
    receipts_by_more number before (record { by = Some number; item = Broke es }) (numbered (Some number) added)
    ∙ ap (λ es. receipts_behind before es ++ receipts_by number (before ++ []) (numbered (Some number) added)) (own_at number (Broke es))
    ∙ ap (λ rs. rs ++ receipts_by number (before ++ []) (numbered (Some number) added)) (behind_none before)
    ∙ ap (λ b. receipts_by number b (numbered (Some number) added)) (append-nil before)
    ∙ receipts_by_own number before added

pub entries_append : (xs ys : List Event) → entries_of (xs ++ ys) ≡ entries_of xs ++ entries_of ys
entries_append [] ys = refl
entries_append (x ∷ xs) ys = ap (λ es. committed_entries x ++ es) (entries_append xs ys) ∙ sym (append_assoc (committed_entries x) (entries_of xs) (entries_of ys))

pub entries_committed : (es : List Entry) → entries_of (committed es) ≡ es
entries_committed [] = refl
entries_committed (e ∷ es) = ap (λ rest. e ∷ rest) (entries_committed es)

pub receipts_length : (before es : List Entry) → length (receipts_behind before es) ≡ length es
unfolding receipts_behind
receipts_length before [] = refl
receipts_length before (e ∷ es) = let rest = receipts_length (before ++ e ∷ []) es in omega arith
