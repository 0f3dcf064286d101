-- What is written record by record, and holding by holding.
use Rattle.std.proofs.Common.{◌≡◌, ◌∙◌, ℕ, ◌+◌, ◌≤◌, Bool, true, false, cond, List, [], ◌∷◌, ◌++◌, append-nil, refl, ap, arith}
use Rattle.std.specs.Prelude.{filter, not, length, if◌then◌else◌}
use Rattle.std.specs.Int.{from_bool}
use Rattle.std.specs.List.{flat_map}
use Rattle.marc_types.specs.declared.key.Key.{Key}
use Rattle.numbered_store.specs.declared.kept.StoredRecord.{StoredRecord}
use Rattle.catalogue_rules.specs.State.{Row, State}
use Rattle.catalogue_rules.specs.Output.{export_of_rows, written_row}
use Rattle.holdings.specs.Shelves.{ShelfRow, written_holding}
use Rattle.holdings_export.specs.Output.{with_holdings, rows_with_holdings, is_attached, is_waiting, attached_holdings, waiting_holdings}
use Rattle.numbered_store.specs.Kept.{kept_record}

-- the next row of a loop over rows, as it is lent
module _ (shelf : List ShelfRow) (key : Key) (kept : StoredRecord) (left rows : List Row) (next : left ≡ (key, kept_record kept) ∷ rows) where
  pub next_with_holdings : (keep : Key → Bool) → keep key ≡ true
      → rows_with_holdings keep shelf left ≡ with_holdings shelf (key, kept_record kept) ++ rows_with_holdings keep shelf rows
  next_with_holdings keep is = ap (rows_with_holdings keep shelf) next ∙ at is
    where
      at : keep key ≡ true → rows_with_holdings keep shelf ((key, kept_record kept) ∷ rows)
          ≡ with_holdings shelf (key, kept_record kept) ++ rows_with_holdings keep shelf rows
      at is = rw is refl

  pub next_without : (keep : Key → Bool) → keep key ≡ false → rows_with_holdings keep shelf left ≡ rows_with_holdings keep shelf rows
  next_without keep skipped = ap (rows_with_holdings keep shelf) next ∙ at skipped
    where
      at : keep key ≡ false → rows_with_holdings keep shelf ((key, kept_record kept) ∷ rows) ≡ rows_with_holdings keep shelf rows
      at skipped = rw skipped refl

-- without holdings it is the export
pub without_holdings : (keep : Key → Bool) (rows : List Row) → rows_with_holdings keep [] rows ≡ export_of_rows keep rows
without_holdings keep [] = refl
without_holdings keep (row ∷ rows) = at (keep row.0) (without_holdings keep rows)
  where
    kept : List Row
    kept = filter (λ row. keep row.0) rows

    at : (b : Bool) → flat_map (with_holdings []) kept ≡ flat_map written_row kept
        → flat_map (with_holdings []) (cond b (row ∷ kept) kept) ≡ flat_map written_row (cond b (row ∷ kept) kept)
    at true ih = ap (λ bytes. bytes ++ flat_map (with_holdings []) kept) (append-nil (written_row row)) ∙ ap (λ bytes. written_row row ++ bytes) ih
    at false ih = ih

-- the written forms of the holdings that wait
abbrev pub waiting_bytes : State → List ShelfRow → List ℕ
waiting_bytes s rows = flat_map written_holding (waiting_holdings s rows)

-- 1 where a test passes
abbrev one_if : Bool → ℕ
one_if b = if b then 1 else 0

-- the next holding of a loop over a shelf
module _ (s : State) (row : ShelfRow) (left rows : List ShelfRow) (next : left ≡ row ∷ rows) where
  pub next_waiting : waiting_bytes s left ≡ (if is_attached s row then [] else written_holding row) ++ waiting_bytes s rows
  next_waiting = ap (waiting_bytes s) next ∙ at (is_attached s row)
    where
      at : (b : Bool) → flat_map written_holding (cond (not b) (row ∷ waiting_holdings s rows) (waiting_holdings s rows))
          ≡ cond b [] (written_holding row) ++ waiting_bytes s rows
      at true = refl
      at false = refl

  pub next_attached_counted : length (attached_holdings s left) ≡ one_if (is_attached s row) + length (attached_holdings s rows)
  next_attached_counted = ap (λ l. length (attached_holdings s l)) next ∙ at (is_attached s row)
    where
      at : (b : Bool) → length (cond b (row ∷ attached_holdings s rows) (attached_holdings s rows)) ≡ one_if b + length (attached_holdings s rows)
      at true = omega arith
      at false = omega arith

  pub next_waiting_counted : length (waiting_holdings s left) ≡ one_if (not (is_attached s row)) + length (waiting_holdings s rows)
  next_waiting_counted = ap (λ l. length (waiting_holdings s l)) next ∙ at (not (is_attached s row))
    where
      at : (b : Bool) → length (cond b (row ∷ waiting_holdings s rows) (waiting_holdings s rows)) ≡ one_if b + length (waiting_holdings s rows)
      at true = omega arith
      at false = omega arith

passing_few : {X : Type 0} (p : X → Bool) (xs : List X) → length (filter p xs) ≤ length xs
passing_few p [] = omega arith
passing_few p (x ∷ xs) = at (p x) (passing_few p xs)
  where
    at : (b : Bool) → length (filter p xs) ≤ length xs → length (cond b (x ∷ filter p xs) (filter p xs)) ≤ length (x ∷ xs)
    at true ih = omega (arith, ih)
    at false ih = omega (arith, ih)

pub attached_few : (s : State) (shelf : List ShelfRow) → length (attached_holdings s shelf) ≤ length shelf
attached_few s shelf = passing_few (is_attached s) shelf

pub waiting_few : (s : State) (shelf : List ShelfRow) → length (waiting_holdings s shelf) ≤ length shelf
waiting_few s shelf = passing_few (is_waiting s) shelf

-- a test as a number
pub bool_few : (b : Bool) (n : ℕ) → n ≡ from_bool b → n ≤ 1
bool_few true n is = omega (arith, is)
bool_few false n is = omega (arith, is)
