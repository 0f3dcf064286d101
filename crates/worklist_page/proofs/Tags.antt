-- The tags that a reader finds in a page.
use Rattle.std.proofs.Common.{◌≡◌, ◌∙◌, refl, sym, ap, ◌==◌, ℕ, Bool, false, List, [], ◌∷◌, ◌++◌, append_assoc, append-nil}
use Rattle.std.specs.Prelude.{Some, None, codes}
use Rattle.std.specs.List.{flat_map, list_any}
use Rattle.std.proofs.lemmas.List.Folds.{list_any-append}
use Rattle.worklist_page.specs.declared.names.Element.{Element}
use Rattle.worklist_page.specs.declared.names.Element.TheVariants.{Html, Head, Meta, Title, Style, Body, H1, Table, Caption, Thead, Tbody, Tr, Th, Td, Svg, Rect}
use Rattle.worklist_page.specs.declared.names.Attribute.{Attribute}
use Rattle.worklist_page.specs.declared.names.Attribute.TheVariants.{Lang, Charset, Scope, Class, Role, Label, ViewBox, Stretch, X, Width, Height}
use Rattle.worklist_page.specs.Names.{attribute_name, element_name}
use Rattle.worklist_page.specs.Texts.{html_text, is_markup}
use Rattle.worklist_page.specs.Pieces.{Valued, Piece, Doctype, Start, End, Words, attribute_bytes, end_words, own_tag, own_tags, page_bytes, piece_bytes, start_words, tag_bytes}
use Rattle.worklist_page.specs.Reading.{tags_from, tags_in}
use Rattle.worklist_page.proofs.Escaping.{either, or_left, or_right, text_unmarked}

-- the byte that ends a tag
abbrev pub is_end : ℕ → Bool
is_end b = b == 0x3E

lt_off : (b : ℕ) → is_markup b ≡ false → (b == 0x3C) ≡ false
lt_off b e = or_left _ _ (or_left _ _ (or_left _ (b == 0x27) e))

end_off : (b : ℕ) → is_markup b ≡ false → is_end b ≡ false
end_off b e = or_right _ _ (or_left _ _ (or_left _ (b == 0x27) e))

-- ---- outside of tags

passed : (text rest : List ℕ) → list_any is_markup text ≡ false → tags_from None (text ++ rest) ≡ tags_from None rest
unfolding tags_from
passed [] rest e = refl
passed (b ∷ text) rest e = rw (lt_off b (or_left (is_markup b) _ e)) (passed text rest (or_right (is_markup b) _ e))

-- ---- within a tag

inside : (read words rest : List ℕ) → list_any is_end words ≡ false → tags_from (Some read) (words ++ rest) ≡ tags_from (Some (read ++ words)) rest
unfolding tags_from
inside read [] rest e = ap (λ (r : List ℕ). tags_from (Some r) rest) (sym (append-nil read))
inside read (b ∷ words) rest e =
    rw (or_left (is_end b) _ e)
    (inside (read ++ b ∷ []) words rest (or_right (is_end b) _ e) ∙ ap (λ (r : List ℕ). tags_from (Some r) rest) (append_assoc read (b ∷ []) words))

tag_read : (words rest : List ℕ) → list_any is_end words ≡ false → tags_from None (tag_bytes words ++ rest) ≡ words ∷ tags_from None rest
unfolding tags_from
tag_read words rest e = ap (λ (t : List ℕ). tags_from (Some []) t) (append_assoc words (0x3E ∷ []) rest) ∙ inside [] words (0x3E ∷ rest) e

-- ---- no tag's words end it

element_closed : (e : Element) → list_any is_end (element_name e) ≡ false
element_closed Html = refl
element_closed Head = refl
element_closed Meta = refl
element_closed Title = refl
element_closed Style = refl
element_closed Body = refl
element_closed H1 = refl
element_closed Table = refl
element_closed Caption = refl
element_closed Thead = refl
element_closed Tbody = refl
element_closed Tr = refl
element_closed Th = refl
element_closed Td = refl
element_closed Svg = refl
element_closed Rect = refl

attribute_closed : (a : Attribute) → list_any is_end (attribute_name a) ≡ false
attribute_closed Lang = refl
attribute_closed Charset = refl
attribute_closed Scope = refl
attribute_closed Class = refl
attribute_closed Role = refl
attribute_closed Label = refl
attribute_closed ViewBox = refl
attribute_closed Stretch = refl
attribute_closed X = refl
attribute_closed Width = refl
attribute_closed Height = refl

unmarked_closed : (text : List ℕ) → list_any is_markup text ≡ false → list_any is_end text ≡ false
unmarked_closed [] e = refl
unmarked_closed (b ∷ text) e = either _ _ (end_off b (or_left (is_markup b) _ e)) (unmarked_closed text (or_right (is_markup b) _ e))

both_closed : (x y : List ℕ) → list_any is_end x ≡ false → list_any is_end y ≡ false → list_any is_end (x ++ y) ≡ false
both_closed x y a b = list_any-append is_end x y ∙ either _ _ a b

valued_closed : (a : Valued) → list_any is_end (attribute_bytes a) ≡ false
valued_closed a =
    both_closed (attribute_name a.0 ++ 0x3D ∷ 0x22 ∷ html_text a.1) (0x22 ∷ [])
    (both_closed (attribute_name a.0) (0x3D ∷ 0x22 ∷ html_text a.1) (attribute_closed a.0) (unmarked_closed (html_text a.1) (text_unmarked a.1)))
    refl

values_closed : (attributes : List Valued) → list_any is_end (flat_map attribute_bytes attributes) ≡ false
values_closed [] = refl
values_closed (a ∷ attributes) = both_closed (attribute_bytes a) (flat_map attribute_bytes attributes) (valued_closed a) (values_closed attributes)

-- ---- pieces

piece_read : (p : Piece) (rest : List ℕ) → tags_from None (piece_bytes p ++ rest) ≡ own_tag p ++ tags_from None rest
piece_read Doctype rest = tag_read (codes "!DOCTYPE html") rest refl
piece_read (Start e attributes) rest =
    tag_read (start_words e attributes) rest (both_closed (element_name e) (flat_map attribute_bytes attributes) (element_closed e) (values_closed attributes))
piece_read (End e) rest = tag_read (end_words e) rest (element_closed e)
piece_read (Words text) rest = passed (html_text text) rest (text_unmarked text)

pub page_read : (pieces : List Piece) → tags_in (page_bytes pieces) ≡ own_tags pieces
unfolding tags_from
page_read [] = refl
page_read (p ∷ pieces) = piece_read p (page_bytes pieces) ∙ ap (λ (t : List (List ℕ)). own_tag p ++ t) (page_read pieces)
