-- Elements and attributes of a page, by name. Source: HTML Living Standard, SVG 2, WAI-ARIA.
use Rattle.std.specs.Prelude.{ℕ, List, codes}
use Rattle.worklist_page.specs.declared.names.Element.{Element}
use Rattle.worklist_page.specs.declared.names.Element.TheVariants.{Html, Head, Meta, Title, Style, Body, H1, Table, Caption, Thead, Tbody, Tr, Th, Td, Svg, Rect}
use Rattle.worklist_page.specs.declared.names.Attribute.{Attribute}
use Rattle.worklist_page.specs.declared.names.Attribute.TheVariants.{Lang, Charset, Scope, Class, Role, Label, ViewBox, Stretch, X, Width, Height}

-- the name of an element
abbrev pub element_name : Element → List ℕ
element_name Html = codes "html"
element_name Head = codes "head"
element_name Meta = codes "meta"
element_name Title = codes "title"
element_name Style = codes "style"
element_name Body = codes "body"
element_name H1 = codes "h1"
element_name Table = codes "table"
element_name Caption = codes "caption"
element_name Thead = codes "thead"
element_name Tbody = codes "tbody"
element_name Tr = codes "tr"
element_name Th = codes "th"
element_name Td = codes "td"
element_name Svg = codes "svg"
element_name Rect = codes "rect"

-- the name of an attribute
abbrev pub attribute_name : Attribute → List ℕ
attribute_name Lang = codes "lang"
attribute_name Charset = codes "charset"
attribute_name Scope = codes "scope"
attribute_name Class = codes "class"
attribute_name Role = codes "role"
attribute_name Label = codes "aria-label"
attribute_name ViewBox = codes "viewBox"
attribute_name Stretch = codes "preserveAspectRatio"
attribute_name X = codes "x"
attribute_name Width = codes "width"
attribute_name Height = codes "height"
