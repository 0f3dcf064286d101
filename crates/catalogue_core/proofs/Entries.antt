-- A list of entries with one more behind it, or with its front alone; whether there is room; and what a receipt says.
use Rattle.std.proofs.Common.{◌≡◌, ℕ, zero, suc, ◌+◌, ◌-◌, ◌≤◌, false, ◌||◌, List, [], ◌∷◌, ◌++◌, length, take, drop, map, refl, sym, ap, ◌∙◌, arith}
use Rattle.std.specs.Prelude.{nat_lt}
use Rattle.std.proofs.lemmas.Bool.{or_parts, ltb-false}
use Rattle.std.proofs.lemmas.List.{take-append-drop}
use Rattle.std.proofs.lemmas.List.Sums.{fold-append, sum_by-append}
use Rattle.marc_types.specs.declared.entry.Entry.{Entry}
use Rattle.marc_types.specs.declared.entry.Limits.{Limits}
use Rattle.catalogue_rules.specs.State.{State, empty_state}
use Rattle.catalogue_rules.specs.Settle.{Arrival, step, state_after, arrival_of, state_of}
use Rattle.catalogue_rules.specs.Receipt.{receipt_of, receipt}
use Rattle.catalogue_rules.proofs.Elements.{Each}
use Rattle.entry_record.specs.History.{IsAdmitted, entry_size, entries_size}
use Rattle.commit_stages.specs.Receipts.{AreReceiptCounts}
use Rattle.commit_stages.specs.declared.changes.CommitCounts.{CommitCounts}
use Rattle.catalogue_core.specs.Catalogues.{Catalogued, all_entries, is_full, receipt_with}

-- ---- one more entry

map_last : (xs : List Entry) (e : Entry) → map arrival_of (xs ++ e ∷ []) ≡ map arrival_of xs ++ arrival_of e ∷ []
map_last [] e = refl
map_last (x ∷ xs) e = ap (λ l. arrival_of x ∷ l) (map_last xs e)

after_last : (history : List Arrival) (a : Arrival) → state_after (history ++ a ∷ []) ≡ step (state_after history) a
unfolding state_after
after_last history a = fold-append step empty_state history (a ∷ [])

pub state_last : (entries : List Entry) (e : Entry) → state_of (entries ++ e ∷ []) ≡ step (state_of entries) (arrival_of e)
state_last entries e = ap state_after (map_last entries e) ∙ after_last (map arrival_of entries) (arrival_of e)

pub each_last : (xs : List Entry) (e : Entry) → Each IsAdmitted xs → IsAdmitted e → Each IsAdmitted (xs ++ e ∷ [])
each_last [] e a p = (p, tt)
each_last (x ∷ xs) e a p = (a.0, each_last xs e a.1 p)

pub length_last : (xs : List Entry) (e : Entry) → length (xs ++ e ∷ []) ≡ length xs + 1
length_last [] e = refl
length_last (x ∷ xs) e = let rest = length_last xs e in omega arith

-- ---- all of them, or their front

pub drop_none : (xs : List Entry) → drop (length xs) xs ≡ []
drop_none [] = refl
drop_none (x ∷ xs) = drop_none xs

pub take_whole : (xs : List Entry) → take (length xs) xs ≡ xs
take_whole [] = refl
take_whole (x ∷ xs) = ap (λ l. x ∷ l) (take_whole xs)

pub each_taken : (i : ℕ) (xs : List Entry) → Each IsAdmitted xs → Each IsAdmitted (take i xs)
each_taken zero xs a = tt
each_taken (suc i) [] a = tt
each_taken (suc i) (x ∷ xs) a = (a.0, each_taken i xs a.1)

pub size_taken : (i : ℕ) (xs : List Entry) → entries_size (take i xs) ≤ entries_size xs
size_taken i xs =
    let parts = sum_by-append entry_size (take i xs) (drop i xs) in
    let whole : entries_size (take i xs ++ drop i xs) ≡ entries_size xs = ap entries_size (take-append-drop i xs) in
    omega arith

pub length_taken : (i : ℕ) (xs : List Entry) → length (take i xs) ≤ length xs
length_taken zero xs = omega arith
length_taken (suc i) [] = omega arith
length_taken (suc i) (x ∷ xs) = let rest = length_taken i xs in omega arith

append_none : (xs : List Entry) → xs ++ [] ≡ xs
append_none [] = refl
append_none (x ∷ xs) = ap (λ l. x ∷ l) (append_none xs)

-- without staged entries all are history
pub nothing_staged : (c : Catalogued) → c.staged ≡ [] → all_entries c ≡ c.history
nothing_staged c none = ap (λ l. c.history ++ l) none ∙ append_none c.history

-- ---- whether there is room

pub record HasRoomFor (entries : List Entry) (limits : Limits) (e : Entry) : Type 0 where
  pub count : length entries + 1 ≤ limits.entries
  pub size : entries_size entries + entry_size e ≤ limits.bytes

room_for : (entries : List Entry) (limits : Limits) (e : Entry) → (nat_lt limits.entries (length entries + 1) || nat_lt limits.bytes (entries_size entries + entry_size e)) ≡ false → HasRoomFor entries limits e
room_for entries limits e h =
    let parts = or_parts (nat_lt limits.entries (length entries + 1)) (nat_lt limits.bytes (entries_size entries + entry_size e)) h in
    record { count = ltb-false limits.entries (length entries + 1) parts.0; size = ltb-false limits.bytes (entries_size entries + entry_size e) parts.1 }

pub full_all : (c : Catalogued) (entries : List Entry) (e : Entry) → all_entries c ≡ entries
    → (nat_lt c.limits.entries (length entries + 1) || nat_lt c.limits.bytes (entries_size entries + entry_size e)) ≡ is_full c e
full_all c entries e are =
    ap (λ (all : List Entry). nat_lt c.limits.entries (length all + 1) || nat_lt c.limits.bytes (entries_size all + entry_size e)) (sym are)

-- where it isn't full, there is room for the entry
pub room_of : (c : Catalogued) (entries : List Entry) (e : Entry) → all_entries c ≡ entries → is_full c e ≡ false → HasRoomFor entries c.limits e
room_of c entries e are h = room_for entries c.limits e (full_all c entries e are ∙ h)

-- ---- the receipt

at_is : (at : ℕ) (s : State) (a : Arrival) (next : State) → at ≡ (receipt_of at s a next).at
unfolding receipt_of
at_is at s a next = refl

receipt_is : (history : List Arrival) (a : Arrival) → receipt_of (length history) (state_after history) a (step (state_after history) a) ≡ receipt history a
unfolding receipt
receipt_is history a = refl

length_mapped : (entries : List Entry) → length entries ≡ length (map arrival_of entries)
length_mapped [] = refl
length_mapped (x ∷ xs) = ap suc (length_mapped xs)

numbers_are : (at : ℕ) (s : State) (a : Arrival) (next : State) (changes : CommitCounts) → AreReceiptCounts (receipt_of at s a next) changes → receipt_with at changes ≡ receipt_of at s a next
numbers_are at s a next changes n =
    λ i. record { at = at_is at s a next i; linked = n.linked i; ambiguous = n.ambiguous i; unlinked = n.unlinked i; changed_records = n.changed_records i }

-- the receipt of an entry behind the others
pub receipt_made : (entries : List Entry) (e : Entry) (engine : State) (changes : CommitCounts) → engine ≡ state_of entries
    → ((at : ℕ) → AreReceiptCounts (receipt_of at engine (arrival_of e) (step engine (arrival_of e))) changes) → receipt_with (length entries) changes ≡ receipt (map arrival_of entries) (arrival_of e)
receipt_made entries e engine changes is numbers =
    numbers_are (length entries) engine (arrival_of e) (step engine (arrival_of e)) changes (numbers (length entries))
    ∙ ap (λ (s : State). receipt_of (length entries) s (arrival_of e) (step s (arrival_of e))) is
    ∙ ap (λ (n : ℕ). receipt_of n (state_of entries) (arrival_of e) (step (state_of entries) (arrival_of e))) (length_mapped entries)
    ∙ receipt_is (map arrival_of entries) (arrival_of e)
