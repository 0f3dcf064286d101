-- Pieces put behind bytes, one after another.
use Rattle.std.proofs.Common.{◌≡◌, ◌∙◌, ℕ, List, [], ◌∷◌, ◌++◌, sym, ap, append_assoc, append-nil}
use Rattle.std.proofs.lemmas.Grind.{flat_map-append}
use Rattle.std.specs.List.{flat_map}
use Rattle.worklist_page.specs.declared.names.Element.{Element}
use Rattle.worklist_page.specs.Names.{element_name}
use Rattle.worklist_page.specs.Pieces.{Adds, End, Piece, Start, Valued, attribute_bytes, element_with, page_bytes, piece_bytes, start_words, tag_bytes}

-- nothing is put behind bytes
pub nothing : (a : List ℕ) → Adds a a []
unfolding Adds
nothing a = sym (append-nil a)

-- pieces, and others behind them
pub then : (a b c : List ℕ) (x y : List Piece) → Adds a b x → Adds b c y → Adds a c (x ++ y)
unfolding Adds
then a b c x y first second =
    second ∙ ap (λ (l : List ℕ). l ++ page_bytes y) first ∙ append_assoc a (page_bytes x) (page_bytes y)
    ∙ ap (λ (l : List ℕ). a ++ l) (sym (flat_map-append piece_bytes x y))

-- an element round pieces
pub round : (a b c d : List ℕ) (name : Element) (attributes : List Valued) (content : List Piece)
    → Adds a b (Start name attributes ∷ []) → Adds b c content → Adds c d (End name ∷ []) → Adds a d (element_with name attributes content)
round a b c d name attributes content start within end =
    then a c d (Start name attributes ∷ content) (End name ∷ []) (then a b c (Start name attributes ∷ []) content start within) end

-- ---- a start tag, attribute by attribute

-- a start tag with these attributes so far
unfoldable pub IsOpen : List ℕ → List ℕ → Element → List Valued → Type 0
IsOpen old new name attributes = new ≡ old ++ 0x3C ∷ start_words name attributes

pub begun : (a b : List ℕ) (name : Element) → b ≡ a ++ 0x3C ∷ element_name name → IsOpen a b name []
unfolding IsOpen
begun a b name is = is ∙ ap (λ (l : List ℕ). a ++ 0x3C ∷ l) (sym (append-nil (element_name name)))

pub open_more : (a b c : List ℕ) (name : Element) (attributes : List Valued) (one : Valued)
    → IsOpen a b name attributes → c ≡ b ++ attribute_bytes one → IsOpen a c name (attributes ++ one ∷ [])
unfolding IsOpen
open_more a b c name attributes one so_far is =
    is ∙ ap (λ (l : List ℕ). l ++ attribute_bytes one) so_far
    ∙ append_assoc a (0x3C ∷ start_words name attributes) (attribute_bytes one)
    ∙ ap (λ (l : List ℕ). a ++ 0x3C ∷ l)
    (append_assoc (element_name name) (flat_map attribute_bytes attributes) (attribute_bytes one)
    ∙ ap (λ (l : List ℕ). element_name name ++ l)
    (ap (λ (l : List ℕ). flat_map attribute_bytes attributes ++ l) (sym (append-nil (attribute_bytes one)))
    ∙ sym (flat_map-append attribute_bytes attributes (one ∷ []))))

pub open_end : (a b c : List ℕ) (name : Element) (attributes : List Valued)
    → IsOpen a b name attributes → c ≡ b ++ 0x3E ∷ [] → Adds a c (Start name attributes ∷ [])
unfolding IsOpen Adds
open_end a b c name attributes so_far is =
    is ∙ ap (λ (l : List ℕ). l ++ 0x3E ∷ []) so_far ∙ append_assoc a (0x3C ∷ start_words name attributes) (0x3E ∷ [])
    ∙ ap (λ (l : List ℕ). a ++ l) (sym (append-nil (tag_bytes (start_words name attributes))))
