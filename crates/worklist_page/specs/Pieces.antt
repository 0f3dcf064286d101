-- A page as a list of pieces: tags, and texts between them. Source: HTML Living Standard.
use Rattle.std.specs.Prelude.{◌≡◌, ℕ, List, [], ◌∷◌, ◌++◌, codes}
use Rattle.std.specs.List.{flat_map}
use Rattle.worklist_page.specs.declared.names.Element.{Element}
use Rattle.worklist_page.specs.declared.names.Attribute.{Attribute}
use Rattle.worklist_page.specs.Names.{attribute_name, element_name}
use Rattle.worklist_page.specs.Texts.{html_text}

-- an attribute and the text of its value
abbrev pub Valued : Type 0
Valued = Attribute × List ℕ

-- the document's type, the start of an element, the end of one, and a text
pub data Piece : Type 0 where
  Doctype : Piece
  Start : Element → List Valued → Piece
  End : Element → Piece
  Words : List ℕ → Piece

-- an attribute, behind a name: `"` stands round its value
abbrev pub attribute_bytes : Valued → List ℕ
attribute_bytes a = 0x20 ∷ attribute_name a.0 ++ 0x3D ∷ 0x22 ∷ html_text a.1 ++ 0x22 ∷ []

-- what stands in a start tag
abbrev pub start_words : Element → List Valued → List ℕ
start_words element attributes = element_name element ++ flat_map attribute_bytes attributes

-- what stands in an end tag
abbrev pub end_words : Element → List ℕ
end_words element = 0x2F ∷ element_name element

-- a tag: `<` and `>` stand round its words
abbrev pub tag_bytes : List ℕ → List ℕ
tag_bytes words = 0x3C ∷ words ++ 0x3E ∷ []

-- the bytes of a piece
abbrev pub piece_bytes : Piece → List ℕ
piece_bytes Doctype = tag_bytes (codes "!DOCTYPE html")
piece_bytes (Start element attributes) = tag_bytes (start_words element attributes)
piece_bytes (End element) = tag_bytes (end_words element)
piece_bytes (Words text) = html_text text

-- the bytes of a page
abbrev pub page_bytes : List Piece → List ℕ
page_bytes pieces = flat_map piece_bytes pieces

-- some pieces were put behind bytes
unfoldable pub Adds : List ℕ → List ℕ → List Piece → Type 0
Adds old new pieces = new ≡ old ++ page_bytes pieces

-- an element with attributes, round some pieces
abbrev pub element_with : Element → List Valued → List Piece → List Piece
element_with element attributes content = Start element attributes ∷ content ++ End element ∷ []

-- an element round some pieces
abbrev pub element : Element → List Piece → List Piece
element name content = element_with name [] content

-- a text as the only piece
abbrev pub words : List ℕ → List Piece
words text = Words text ∷ []

-- the words of a piece's tag, where it has one
abbrev pub own_tag : Piece → List (List ℕ)
own_tag Doctype = codes "!DOCTYPE html" ∷ []
own_tag (Start element attributes) = start_words element attributes ∷ []
own_tag (End element) = end_words element ∷ []
own_tag (Words text) = []

-- the tags that a page has of its own
abbrev pub own_tags : List Piece → List (List ℕ)
own_tags pieces = flat_map own_tag pieces
