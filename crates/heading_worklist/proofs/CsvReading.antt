-- What a reader makes of a list: its cells.
use Rattle.std.proofs.Common.{◌≡◌, ◌∙◌, refl, ap, ◌+◌, ◌<◌, ◌≤◌, ◌==◌, ℕ, zero, suc, Bool, true, false, List, [], ◌∷◌, ◌++◌, length, map, append_assoc, length-append, arith}
use Rattle.std.specs.Prelude.{Option, Some, ◌||◌}
use Rattle.std.specs.List.{flat_map}
use Rattle.csv.specs.Machine.{Read, next_record}
use Rattle.csv.specs.Reading.{default_config, records, records_from, records_next, strip_bom}
use Rattle.csv.specs.Writing.{default_writer, escaped}
use Rattle.csv.specs.declared.parser.State.TheVariants as st
use Rattle.csv.proofs.RoundTrip.{quoted-run}
use Rattle.heading_worklist.specs.Csv.{CsvLine, apostrophe, cell_bytes, is_risky, line_bytes, line_end, list_bytes, meant, quoted, shown, line_texts, then_cell}

-- ---- the apostrophe

true_false : (b : Bool) → b ≡ true → b ≡ false → ⊥
true_false b t f = cc

or_right : (a b : Bool) → (a || b) ≡ false → b ≡ false
or_right false b e = e
or_right true b e = cc e

risky_or_not : (b : ℕ) (text : List ℕ) (r same : Bool) → is_risky b ≡ r → (b == apostrophe) ≡ same → meant (shown (b ∷ text)) ≡ b ∷ text
unfolding shown meant
risky_or_not b text true same e a = rw e refl
risky_or_not b text false true e a = absurd (true_false (b == apostrophe) a (or_right _ (b == apostrophe) e))
risky_or_not b text false false e a = rw (e, a) refl

pub apostrophe_off : (text : List ℕ) → meant (shown text) ≡ text
unfolding shown meant
apostrophe_off [] = refl
apostrophe_off (b ∷ text) = risky_or_not b text (is_risky b) (b == apostrophe) refl refl

-- ---- quotes

quoted_as_escaped : (text : List ℕ) → quoted text ≡ escaped default_writer text
unfolding escaped
quoted_as_escaped [] = refl
quoted_as_escaped (b ∷ text) = at (b == 34) refl (quoted_as_escaped text)
  where
    at : (same : Bool) → (b == 34) ≡ same → quoted text ≡ escaped default_writer text → quoted (b ∷ text) ≡ escaped default_writer (b ∷ text)
    at true e ih = rw e (ap (λ (t : List ℕ). 34 ∷ b ∷ t) ih)
    at false e ih = rw e (ap (λ (t : List ℕ). b ∷ t) ih)

-- ---- a line

-- the text of a cell is read between its quotes
in_quotes : (fields : List (List ℕ)) (x tail : List ℕ)
    → next_record default_config st.InQuoted fields [] (quoted (shown x) ++ 34 ∷ tail) ≡ next_record default_config st.AfterQuote fields (shown x) tail
in_quotes fields x tail = rw (quoted_as_escaped (shown x)) (quoted-run fields [] (shown x) tail)

-- what stands behind the first quote of a cell
opened : (x more : List ℕ) → cell_bytes x ++ more ≡ 34 ∷ (quoted (shown x) ++ 34 ∷ more)
opened x more = ap (λ (t : List ℕ). 34 ∷ t) (append_assoc (quoted (shown x)) (34 ∷ []) more)

first_read : (x tail : List ℕ) → next_record default_config st.StartRecord [] [] (cell_bytes x ++ tail) ≡ next_record default_config st.AfterQuote [] (shown x) tail
unfolding next_record
first_read x tail = ap (λ (t : List ℕ). next_record default_config st.StartRecord [] [] t) (opened x tail) ∙ in_quotes [] x tail

next_read : (fields : List (List ℕ)) (x y tail : List ℕ)
    → next_record default_config st.AfterQuote fields x (then_cell y ++ tail) ≡ next_record default_config st.AfterQuote (fields ++ x ∷ []) (shown y) tail
unfolding next_record
next_read fields x y tail =
    ap (λ (t : List ℕ). next_record default_config st.AfterQuote fields x (44 ∷ t)) (opened y tail) ∙ in_quotes (fields ++ x ∷ []) y tail

rest_read : (fields : List (List ℕ)) (x : List ℕ) (others : List (List ℕ)) (tail : List ℕ)
    → next_record default_config st.AfterQuote fields x (flat_map then_cell others ++ 13 ∷ 10 ∷ tail) ≡ Some (fields ++ x ∷ map shown others, st.AfterCr, 10 ∷ tail)
unfolding next_record
rest_read fields x [] tail = refl
rest_read fields x (y ∷ ys) tail =
    ap (λ (t : List ℕ). next_record default_config st.AfterQuote fields x t) (append_assoc (then_cell y) (flat_map then_cell ys) (13 ∷ 10 ∷ tail))
    ∙ next_read fields x y (flat_map then_cell ys ++ 13 ∷ 10 ∷ tail)
    ∙ rest_read (fields ++ x ∷ []) (shown y) ys tail
    ∙ ap (λ (f : List (List ℕ)). Some (f, st.AfterCr, 10 ∷ tail)) (append_assoc fields (x ∷ []) (map shown (y ∷ ys)))

split_line : (line : CsvLine) (tail : List ℕ) → line_bytes line ++ tail ≡ cell_bytes line.first ++ (flat_map then_cell line.others ++ 13 ∷ 10 ∷ tail)
split_line line tail =
    append_assoc (cell_bytes line.first ++ flat_map then_cell line.others) line_end tail
    ∙ append_assoc (cell_bytes line.first) (flat_map then_cell line.others) (13 ∷ 10 ∷ tail)

line_read : (line : CsvLine) (tail : List ℕ)
    → next_record default_config st.StartRecord [] [] (line_bytes line ++ tail) ≡ Some (map shown (line_texts line), st.AfterCr, 10 ∷ tail)
line_read line tail =
    ap (λ (t : List ℕ). next_record default_config st.StartRecord [] [] t) (split_line line tail)
    ∙ first_read line.first (flat_map then_cell line.others ++ 13 ∷ 10 ∷ tail)
    ∙ rest_read [] (shown line.first) line.others tail

-- ---- all lines

-- a reader passes over the line feed behind a carriage return
over_feed : (n : ℕ) (tail : List ℕ) → records_from default_config n st.AfterCr (10 ∷ tail) ≡ records_from default_config n st.StartRecord tail
unfolding records_from next_record
over_feed zero tail = refl
over_feed (suc n) tail = refl

lines_read : (n : ℕ) (lines : List CsvLine) → length lines < n → records_from default_config n st.StartRecord (flat_map line_bytes lines) ≡ map (λ line. map shown (line_texts line)) lines
unfolding records_from next_record
lines_read zero lines low = absurd (omega (arith, low))
lines_read (suc n) [] low = refl
lines_read (suc n) (line ∷ lines) low =
    ap (λ (r : Option Read). records_next (records_from default_config n) r) (line_read line (flat_map line_bytes lines))
    ∙ ap (λ (t : List (List (List ℕ))). map shown (line_texts line) ∷ t) (over_feed n (flat_map line_bytes lines) ∙ lines_read n lines (omega (arith, low)))

-- a line has a byte or more
long : (lines : List CsvLine) → length lines ≤ length (flat_map line_bytes lines)
long [] = omega arith
long (line ∷ lines) = omega (arith, long lines, length-append (line_bytes line) (flat_map line_bytes lines))

pub read_back : (lines : List CsvLine) → records default_config (strip_bom (list_bytes lines)) ≡ map (λ line. map shown (line_texts line)) lines
unfolding strip_bom
read_back lines = lines_read (length (flat_map line_bytes lines) + 1) lines (omega (arith, long lines))
