-- Rows put in key order from the last slot to the first.
use Rattle.std.proofs.Common.{◌≡◌, ℕ, zero, suc, ◌+◌, ◌-◌, ◌<◌, List, [], ◌∷◌, length, map, drop, Option, Some, None, refl, sym, ap, ◌∙◌, arith}
use Rattle.std.specs.Prelude.{slice_get}
use Rattle.std.specs.Borrow.{Bor}
use Rattle.std.specs.BTreeMap.{insert_entry}
use Rattle.std.specs.declared.cmp.Ordering.{Ordering}
use Rattle.std.specs.declared.cmp.Ordering.TheVariants.{Less, Equal, Greater}
use Rattle.std.specs.Ordering.{match_ordering}
use Rattle.marc_types.specs.Order.{key_cmp}
use Rattle.marc_types.specs.declared.key.Key.{Key}
use Rattle.catalogue_rules.specs.State.{Row}
use Rattle.numbered_store.specs.Kept.{kept_record, shown_row}
use Rattle.numbered_store.specs.declared.kept.StoredRecord.{StoredRecord}
use Rattle.numbered_store.specs.Rows.{HaveSlots, rows_by, slot_at, with_slot}

abbrev pub Lent : Type 0
Lent = Bor Key × Bor StoredRecord

-- the rows of the slots from a number on
abbrev pub rows_from : List Key → List (Option StoredRecord) → ℕ → List Row
rows_from keys slots n = rows_by (drop n keys) (drop n slots)

step_at : (keys : List Key) (slots : List (Option StoredRecord)) (n : ℕ) → length slots ≡ length keys → n < length keys
    → with_slot (slice_get keys n) (slot_at slots n) (rows_from keys slots (suc n)) ≡ rows_from keys slots n
step_at [] slots n long low = absurd (omega (arith, low))
step_at (k ∷ keys) [] n long low = absurd (omega (arith, long))
step_at (k ∷ keys) (None ∷ slots) zero long low = refl
step_at (k ∷ keys) (Some kept ∷ slots) zero long low = refl
step_at (k ∷ keys) (s ∷ slots) (suc n) long low = step_at keys slots n (omega (arith, long)) (omega (arith, low))

pub put_one : (keys : List Key) (slots : List (Option StoredRecord)) (n done more : ℕ) (was now : List Row) → HaveSlots keys slots → done < length keys → n ≡ length keys - 1 - done → more ≡ length keys - done
    → was ≡ rows_from keys slots more → now ≡ with_slot (slice_get keys n) (slot_at slots n) was → now ≡ rows_from keys slots (length keys - (done + 1))
put_one keys slots n done more was now have low n_is more_is before after =
    let next : more ≡ suc n = omega (arith, low, n_is, more_is) in
    let here : n ≡ length keys - (done + 1) = omega (arith, low, n_is) in
    after ∙ ap (with_slot (slice_get keys n) (slot_at slots n)) (before ∙ ap (rows_from keys slots) next) ∙ step_at keys slots n have.long (omega (arith, low, n_is)) ∙ ap (rows_from keys slots) here

drop_past : {X : Type 0} (xs : List X) (n : ℕ) → n ≡ length xs → drop n xs ≡ []
drop_past [] zero e = refl
drop_past [] (suc n) e = absurd (omega (arith, e))
drop_past (x ∷ xs) zero e = absurd (omega (arith, e))
drop_past (x ∷ xs) (suc n) e = drop_past xs n (omega (arith, e))

pub none_in : (keys : List Key) (slots : List (Option StoredRecord)) (n : ℕ) → n ≡ length keys → [] ≡ rows_from keys slots n
none_in keys slots n e = ap (λ l. rows_by l (drop n slots)) (sym (drop_past keys n e))

pub all_in : (keys : List Key) (slots : List (Option StoredRecord)) (n : ℕ) → n ≡ 0 → rows_from keys slots n ≡ rows_by keys slots
all_in keys slots n e = ap (rows_from keys slots) e

insert_at : (k : Bor Key) (v : Bor StoredRecord) (o : Ordering) (row : Lent) (rows more : List Lent) (rest : List Row) → map shown_row more ≡ rest
    → map shown_row (match_ordering o ((k, v) ∷ row ∷ rows) ((row.0, v) ∷ rows) (row ∷ more))
    ≡ match_ordering o ((k.now, kept_record v.now) ∷ map shown_row (row ∷ rows)) ((row.0.now, kept_record v.now) ∷ map shown_row rows) (shown_row row ∷ rest)
insert_at k v Less row rows more rest is = refl
insert_at k v Equal row rows more rest is = refl
insert_at k v Greater row rows more rest is = ap (λ l. shown_row row ∷ l) is

pub shown_insert : (k : Bor Key) (v : Bor StoredRecord) (rows : List Lent) → map shown_row (insert_entry (λ (a b : Bor Key). key_cmp a.now b.now) rows k v) ≡ insert_entry key_cmp (map shown_row rows) k.now (kept_record v.now)
shown_insert k v [] = refl
shown_insert k v (row ∷ rows) =
    insert_at k v (key_cmp k.now row.0.now) row rows (insert_entry (λ (a b : Bor Key). key_cmp a.now b.now) rows k v) (insert_entry key_cmp (map shown_row rows) k.now (kept_record v.now)) (shown_insert k v rows)
