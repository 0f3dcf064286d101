-- Graphic characters are ASCII, and ASCII bytes are a text.
use Rattle.std.proofs.Common.{◌≡◌, ℕ, zero, suc, ◌<◌, ◌≤◌, nat_le, true, List, [], ◌∷◌, IsUtf8, refl, arith}
use Rattle.std.specs.List.{list_all}
use Rattle.std.specs.Str.{IsAscii}
use Rattle.std.proofs.lemmas.Str.{IsUtf8-from_ascii}
use Rattle.std.proofs.lemmas.Bool.{and_parts, and_from, leb-true}
use Rattle.marc_types.specs.Valid.{is_graphic, is_code_byte}

graphic_below : (b : ℕ) → is_graphic b ≡ true → b < 128
graphic_below b h = let top : b ≤ 0x7e = leb-true b 0x7e (and_parts (nat_le 0x21 b) (nat_le b 0x7e) h).1 in omega arith

pub graphic_is_ascii : (bs : List ℕ) → list_all is_graphic bs ≡ true → IsAscii bs
graphic_is_ascii [] h i = omega arith
graphic_is_ascii (b ∷ bs) h zero = graphic_below b (and_parts _ _ h).0
graphic_is_ascii (b ∷ bs) h (suc i) = graphic_is_ascii bs (and_parts _ _ h).1 i

pub text_of_graphic : (bs : List ℕ) → list_all is_graphic bs ≡ true → IsUtf8 bs
text_of_graphic bs h = IsUtf8-from_ascii bs (graphic_is_ascii bs h)

-- the bytes of a code are graphic characters
pub code_is_graphic : (bs : List ℕ) → list_all is_code_byte bs ≡ true → list_all is_graphic bs ≡ true
code_is_graphic [] h = refl
code_is_graphic (b ∷ bs) h =
    and_from _ _ (and_parts _ _ (and_parts _ _ (and_parts _ _ h).0).0).0 (code_is_graphic bs (and_parts _ _ h).1)
