-- A bar of three parts, as a picture within the page. Source: SVG 2. The picture's own unit is one thing counted, so that nothing is
-- divided.
use Rattle.std.specs.Prelude.{ℕ, ◌+◌, List, [], ◌∷◌, ◌++◌, codes}
use Rattle.std.specs.Fmt.{decimal}
use Rattle.worklist_page.specs.declared.names.Element.TheVariants.{Rect, Svg}
use Rattle.worklist_page.specs.declared.names.Attribute.TheVariants.{Class, Height, Label, Role, Stretch, ViewBox, Width, X}
use Rattle.worklist_page.specs.declared.bars.Bar.{Bar}
use Rattle.worklist_page.specs.Pieces.{Piece, Valued, element_with}

-- a part of a bar: so wide, behind so much
abbrev pub part : List ℕ → ℕ → ℕ → List Piece
part class before width =
    element_with Rect ((Class, class) ∷ (X, decimal before) ∷ (Width, decimal width) ∷ (Height, codes "1") ∷ []) []

-- what a reader who can't see the bar is told
abbrev pub bar_words : Bar → List ℕ
bar_words b =
    codes "linked " ++ decimal b.linked ++ codes ", ambiguous " ++ decimal b.ambiguous ++ codes ", unlinked " ++ decimal b.unlinked

-- the picture's size, in its own unit
abbrev pub view_of : Bar → List ℕ
view_of b = codes "0 0 " ++ decimal (b.linked + b.ambiguous + b.unlinked) ++ codes " 1"

-- the three parts, side by side
abbrev pub parts : Bar → List Piece
parts b =
    part (codes "linked") 0 b.linked ++ part (codes "ambiguous") b.linked b.ambiguous
    ++ part (codes "unlinked") (b.linked + b.ambiguous) b.unlinked

-- what is told of the picture
abbrev pub picture : Bar → List Valued
picture b = (Role, codes "img") ∷ (Label, bar_words b) ∷ (ViewBox, view_of b) ∷ (Stretch, codes "none") ∷ []

-- the bar
abbrev pub bar : Bar → List Piece
bar b = element_with Svg (picture b) (parts b)
