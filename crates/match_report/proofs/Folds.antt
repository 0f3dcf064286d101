-- Postings are taken in row by row.
use Rattle.std.proofs.Common.{◌≡◌, ◌∙◌, List, [], ◌∷◌, ◌++◌, refl, sym, ap}
use Rattle.std.specs.Prelude.{fold}
use Rattle.std.specs.List.{flat_map}
use Rattle.std.specs.BTreeSet.{insert_key}
use Rattle.match_report.specs.Postings.{Posting, posting_cmp}
use Rattle.match_report.specs.Groups.{RecordNumbers, postings_of_row}

fold_both : {A X : Type 0} (f : A → X → A) (a : A) (xs ys : List X) → fold f a (xs ++ ys) ≡ fold f (fold f a xs) ys
fold_both f a [] ys = refl
fold_both f a (x ∷ xs) ys = fold_both f (f a x) xs ys

pub next_row : (held now : List Posting) (rows rest : List RecordNumbers) (row : RecordNumbers) (all : List Posting) → rows ≡ row ∷ rest →
    now ≡ fold (insert_key posting_cmp) held (postings_of_row row) → fold (insert_key posting_cmp) held (flat_map postings_of_row rows) ≡ all →
    fold (insert_key posting_cmp) now (flat_map postings_of_row rest) ≡ all
next_row held now rows rest row all is added so_far =
    ap (λ keys. fold (insert_key posting_cmp) keys (flat_map postings_of_row rest)) added
    ∙ sym (fold_both (insert_key posting_cmp) held (postings_of_row row) (flat_map postings_of_row rest))
    ∙ sym (ap (λ l. fold (insert_key posting_cmp) held (flat_map postings_of_row l)) is) ∙ so_far
