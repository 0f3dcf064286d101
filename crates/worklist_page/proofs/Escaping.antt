-- Texts within a page: no byte of markup, and what a reader finds.
use Rattle.std.proofs.Common.{◌≡◌, ◌∙◌, refl, sym, ap, subst, ◌==◌, ℕ, Bool, true, false, List, [], ◌∷◌, ◌++◌}
use Rattle.std.specs.Prelude.{None, ◌||◌}
use Rattle.std.specs.List.{list_any}
use Rattle.std.proofs.lemmas.List.Folds.{list_any-append}
use Rattle.std.proofs.lemmas.Bool.{eqb-true}
use Rattle.worklist_page.specs.Texts.{html_byte, html_text, is_control, is_markup}
use Rattle.worklist_page.specs.Reading.{shown_byte, shown_text, text_from, text_in}

-- ---- no markup

pub either : (a b : Bool) → a ≡ false → b ≡ false → (a || b) ≡ false
either a b x y = rw (x, y) refl

-- a byte, by which of the five it is and whether it is a control character
unmarked : (b : ℕ) (amp lt gt quote apostrophe control : Bool) → (b == 0x26) ≡ amp → (b == 0x3C) ≡ lt → (b == 0x3E) ≡ gt → (b == 0x22) ≡ quote
    → (b == 0x27) ≡ apostrophe → is_control b ≡ control → list_any is_markup (html_byte b) ≡ false
unmarked b true lt gt quote apostrophe control e1 e2 e3 e4 e5 e6 = rw e1 refl
unmarked b false true gt quote apostrophe control e1 e2 e3 e4 e5 e6 = rw (e1, e2) refl
unmarked b false false true quote apostrophe control e1 e2 e3 e4 e5 e6 = rw (e1, e2, e3) refl
unmarked b false false false true apostrophe control e1 e2 e3 e4 e5 e6 = rw (e1, e2, e3, e4) refl
unmarked b false false false false true control e1 e2 e3 e4 e5 e6 = rw (e1, e2, e3, e4, e5) refl
unmarked b false false false false false true e1 e2 e3 e4 e5 e6 = rw (e1, e2, e3, e4, e5, e6) refl
unmarked b false false false false false false e1 e2 e3 e4 e5 e6 = rw (e1, e2, e3, e4, e5, e6, e2, e3, e4, e5) refl

pub byte_unmarked : (b : ℕ) → list_any is_markup (html_byte b) ≡ false
byte_unmarked b = unmarked b (b == 0x26) (b == 0x3C) (b == 0x3E) (b == 0x22) (b == 0x27) (is_control b) refl refl refl refl refl refl

pub text_unmarked : (text : List ℕ) → list_any is_markup (html_text text) ≡ false
text_unmarked [] = refl
text_unmarked (b ∷ text) = list_any-append is_markup (html_byte b) (html_text text) ∙ either _ _ (byte_unmarked b) (text_unmarked text)

-- ---- what a reader finds

pub or_left : (a b : Bool) → (a || b) ≡ false → a ≡ false
or_left false b e = refl
or_left true b e = cc e

pub or_right : (a b : Bool) → (a || b) ≡ false → b ≡ false
or_right false b e = e
or_right true b e = cc e

-- a reader finds the byte as it is shown
abbrev FindsByte : List ℕ → ℕ → Type 0
FindsByte rest b = text_from None (html_byte b ++ rest) ≡ shown_byte b ++ text_from None rest

read_byte : (b : ℕ) (rest : List ℕ) (amp lt gt quote apostrophe control : Bool) → (b == 0x26) ≡ amp → (b == 0x3C) ≡ lt → (b == 0x3E) ≡ gt
    → (b == 0x22) ≡ quote → (b == 0x27) ≡ apostrophe → is_control b ≡ control → FindsByte rest b
unfolding text_from
read_byte b rest true lt gt quote apostrophe control e1 e2 e3 e4 e5 e6 = subst (FindsByte rest) (sym (eqb-true b 0x26 e1)) refl
read_byte b rest false true gt quote apostrophe control e1 e2 e3 e4 e5 e6 = subst (FindsByte rest) (sym (eqb-true b 0x3C e2)) refl
read_byte b rest false false true quote apostrophe control e1 e2 e3 e4 e5 e6 = subst (FindsByte rest) (sym (eqb-true b 0x3E e3)) refl
read_byte b rest false false false true apostrophe control e1 e2 e3 e4 e5 e6 = subst (FindsByte rest) (sym (eqb-true b 0x22 e4)) refl
read_byte b rest false false false false true control e1 e2 e3 e4 e5 e6 = subst (FindsByte rest) (sym (eqb-true b 0x27 e5)) refl
read_byte b rest false false false false false true e1 e2 e3 e4 e5 e6 = rw (e1, e2, e3, e4, e5, e6) refl
read_byte b rest false false false false false false e1 e2 e3 e4 e5 e6 = rw (e1, e2, e3, e4, e5, e6, e1) refl

pub text_read : (text : List ℕ) → text_in (html_text text) ≡ shown_text text
unfolding text_from
text_read [] = refl
text_read (b ∷ text) =
    read_byte b (html_text text) (b == 0x26) (b == 0x3C) (b == 0x3E) (b == 0x22) (b == 0x27) (is_control b) refl refl refl refl refl refl
    ∙ ap (λ (t : List ℕ). shown_byte b ++ t) (text_read text)

plain_byte : (b : ℕ) → is_control b ≡ false → shown_byte b ≡ b ∷ []
plain_byte b e = rw e refl

pub plain_shown : (text : List ℕ) → list_any is_control text ≡ false → shown_text text ≡ text
plain_shown [] e = refl
plain_shown (b ∷ text) e =
    ap (λ (t : List ℕ). t ++ shown_text text) (plain_byte b (or_left _ _ e)) ∙ ap (λ (t : List ℕ). b ∷ t) (plain_shown text (or_right _ _ e))
