-- The console's lines, one file at a time.
use Rattle.std.proofs.Common.{◌≡◌, ◌⊎◌, inl, inr, ℕ, List, [], ◌∷◌, ◌++◌, refl, sym, ap, ◌∙◌, append_assoc, append-nil}
use Rattle.command_words.specs.declared.library.Library.{Library}
use Rattle.console_lines.specs.Lines.{refused_lines, totals_line}
use Rattle.loader_workers.specs.declared.result.FileResult.{FileResult}
use Rattle.loading_commands.specs.Texts.{totals_in, refused_text, totals_text}

-- what is told of files, `all`, is a line of each
module _ (line : Library → FileResult → List ℕ) (all : List Library → List FileResult → List ℕ)
    (next : (l : Library) (ls : List Library) (r : FileResult) (rs : List FileResult) → all (l ∷ ls) (r ∷ rs) ≡ line l r ++ all ls rs)
    (text whole : List ℕ) (libraries : List Library) (results : List FileResult) (so_far : text ++ all libraries results ≡ whole) where
  -- one more line is pushed
  pub told_more : (l : Library) (ls : List Library) (r : FileResult) (rs : List FileResult) (lines pushed : List ℕ) → libraries ≡ l ∷ ls → results ≡ r ∷ rs
      → pushed ≡ text ++ lines → lines ≡ line l r → pushed ++ all ls rs ≡ whole
  told_more l ls r rs lines pushed here its more is =
      ap (λ t. t ++ all ls rs) more ∙ (append_assoc text lines (all ls rs)
      ∙ (ap (λ piece. text ++ (piece ++ all ls rs)) is ∙ (ap (λ both. text ++ both)
      (sym (next l ls r rs) ∙ (ap (λ left. all left (r ∷ rs)) (sym here) ∙ ap (all libraries) (sym its))) ∙ so_far)))

  -- no file is left
  pub told_whole : all libraries results ≡ [] → text ≡ whole
  told_whole none = sym (append-nil text) ∙ (ap (λ lines. text ++ lines) (sym none) ∙ so_far)

abbrev pub refused_line : Library → FileResult → List ℕ
refused_line library r = refused_lines library.file r.refused

pub next_refused : (l : Library) (ls : List Library) (r : FileResult) (rs : List FileResult) → refused_text (l ∷ ls) (r ∷ rs) ≡ refused_line l r ++ refused_text ls rs
unfolding refused_text
next_refused l ls r rs = refl

pub none_refused : (ls : List Library) (rs : List FileResult) → (ls ≡ []) ⊎ (rs ≡ []) → refused_text ls rs ≡ []
unfolding refused_text
none_refused [] rs none = refl
none_refused (l ∷ ls) [] none = refl
none_refused (l ∷ ls) (r ∷ rs) (inl is) = cc
none_refused (l ∷ ls) (r ∷ rs) (inr is) = cc

abbrev pub counted_line : Library → FileResult → List ℕ
counted_line library r = totals_line library.file (totals_in r)

pub next_counted : (l : Library) (ls : List Library) (r : FileResult) (rs : List FileResult) → totals_text (l ∷ ls) (r ∷ rs) ≡ counted_line l r ++ totals_text ls rs
unfolding totals_text
next_counted l ls r rs = refl

pub none_counted : (ls : List Library) (rs : List FileResult) → (ls ≡ []) ⊎ (rs ≡ []) → totals_text ls rs ≡ []
unfolding totals_text
none_counted [] rs none = refl
none_counted (l ∷ ls) [] none = refl
none_counted (l ∷ ls) (r ∷ rs) (inl is) = cc
none_counted (l ∷ ls) (r ∷ rs) (inr is) = cc
