-- The rows of a page, one by one.
use Rattle.std.proofs.Common.{◌≡◌, ◌∙◌, sym, ap, ℕ, zero, suc, ◌+◌, ◌<◌, List, [], ◌∷◌, ◌++◌, take, filter, append_assoc, append-nil, arith}
use Rattle.std.specs.BTreeMap.Range.{range_contains}
use Rattle.std.specs.declared.ops.Bound.TheVariants.{Included, Unbounded}
use Rattle.marc_types.specs.declared.form.Form.{Form}
use Rattle.heading_rows.specs.Rows.{browse_row, page_of, row_cmp}
use Rattle.heading_rows.specs.declared.row.BrowseRow.{BrowseRow}
use Rattle.heading_rows.proofs.Ordered.{no_key, rows_reached}

-- so many of the rows from the least key of a form on are its page
pub page_begins : (form : Form) (rows reached : List BrowseRow) (first : BrowseRow) (most : ℕ) → first ≡ browse_row form no_key
    → reached ≡ filter (range_contains row_cmp (Included first) Unbounded) rows → take most reached ≡ page_of rows form most
unfolding page_of
page_begins form rows reached first most least e =
    ap (take most) (e ∙ ap (λ r. filter (range_contains row_cmp (Included r) Unbounded) rows) least ∙ rows_reached form rows)

one_taken : (row : BrowseRow) (rest : List BrowseRow) (left left' : ℕ) → left' + 1 ≡ left → take left (row ∷ rest) ≡ row ∷ take left' rest
one_taken row rest zero left' e = absurd (omega arith)
one_taken row rest (suc left) left' e =
    let same : left ≡ left' = omega arith in ap (λ n. row ∷ take n rest) same

-- a row more is found, and one less is left
pub page_goes_on : (page found found' rest rest' : List BrowseRow) (left left' : ℕ) (row own : BrowseRow) → found ++ take left rest ≡ page
    → rest ≡ row ∷ rest' → left' + 1 ≡ left → own ≡ row → found' ≡ found ++ own ∷ [] → found' ++ take left' rest' ≡ page
page_goes_on page found found' rest rest' left left' row own so more less same push =
    ap (λ xs. xs ++ take left' rest') (push ∙ ap (λ r. found ++ r ∷ []) same)
    ∙ append_assoc found (row ∷ []) (take left' rest')
    ∙ ap (λ xs. found ++ xs) (sym (one_taken row rest' left left' less) ∙ ap (take left) (sym more))
    ∙ so

-- no row is left, or as many as are asked for were found
pub page_ends : (page found rest rest' : List BrowseRow) (left : ℕ) → found ++ take left rest ≡ page → (0 < left → (rest ≡ []) × (rest' ≡ [])) → found ≡ page
page_ends page found rest rest' zero so end = sym (append-nil found) ∙ so
page_ends page found rest rest' (suc left) so end =
    let none : rest ≡ [] = (end (omega arith)).0 in sym (append-nil found) ∙ ap (λ xs. found ++ take (suc left) xs) (sym none) ∙ so
