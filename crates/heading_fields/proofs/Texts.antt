-- The test whether a text without its blanks is a key's text, one byte at a time.
use Rattle.std.proofs.Common.{◌≡◌, ◌≢◌, ◌==◌, ◌+◌, ◌<◌, ◌≤◌, ℕ, zero, suc, Bool, true, false, List, [], ◌∷◌, Some, None, is_some, not, refl, drop, get_or, length, slice_get, bytes_eq, sym, arith, add-one, drop-cons, ne_eqb}
use Rattle.heading_fields.specs.Numbers.{without_blanks}

-- an element of a list begins what is left from its place on
pub drop_at : {A : Type 0} (xs : List A) (i : ℕ) (x : A) → slice_get xs i ≡ Some x → drop i xs ≡ x ∷ drop (suc i) xs
drop_at [] i x h = cc
drop_at (y ∷ ys) zero x h = cc
drop_at (y ∷ ys) (suc i) x h = drop_at ys i x h

-- nothing is left where there is no element
pub drop_past : {A : Type 0} (xs : List A) (i : ℕ) → slice_get xs i ≡ None → drop i xs ≡ []
drop_past [] zero h = cc
drop_past [] (suc i) h = cc
drop_past (y ∷ ys) zero h = cc
drop_past (y ∷ ys) (suc i) h = drop_past ys i h

-- a byte that isn't a blank stands in the text and in the key's text
pub byte_matches : (text due : List ℕ) (b : ℕ) → (b == 0x20) ≡ false → bytes_eq (without_blanks (b ∷ text)) (b ∷ due) ≡ bytes_eq (without_blanks text) due
byte_matches text due b h = grind (arith, h)

pub byte_differs : (text due : List ℕ) (b d : ℕ) → (b == 0x20) ≡ false → d ≢ b → bytes_eq (without_blanks (b ∷ text)) (d ∷ due) ≡ false
byte_differs text due b d h n = grind (arith, h, n)

pub byte_beyond : (text : List ℕ) (b : ℕ) → (b == 0x20) ≡ false → bytes_eq (without_blanks (b ∷ text)) [] ≡ false
byte_beyond text b h = grind (arith, h)

-- the tests of what is left of both, where the next byte isn't a blank
pub rest_matches : (text due : List ℕ) (i p : ℕ) → i < length text → get_or text i 0 ≢ 0x20 → slice_get due p ≡ Some (get_or text i 0) →
    bytes_eq (without_blanks (drop (i + 1) text)) (drop (p + 1) due) ≡ bytes_eq (without_blanks (drop i text)) (drop p due)
rest_matches text due i p l h e =
    rw (drop-cons text i 0 l, drop_at due p _ e, add-one i, add-one p)
    (sym (byte_matches (drop (suc i) text) (drop (suc p) due) (get_or text i 0) (ne_eqb _ _ h)))

pub rest_differs : (text due : List ℕ) (i p d : ℕ) → i < length text → get_or text i 0 ≢ 0x20 → slice_get due p ≡ Some d → d ≢ get_or text i 0 →
    bytes_eq (without_blanks (drop i text)) (drop p due) ≡ false
rest_differs text due i p d l h e n =
    rw (drop-cons text i 0 l, drop_at due p d e) (byte_differs (drop (suc i) text) (drop (suc p) due) (get_or text i 0) d (ne_eqb _ _ h) n)

pub rest_beyond : (text due : List ℕ) (i p : ℕ) → i < length text → get_or text i 0 ≢ 0x20 → slice_get due p ≡ None →
    bytes_eq (without_blanks (drop i text)) (drop p due) ≡ false
rest_beyond text due i p l h e =
    rw (drop-cons text i 0 l, drop_past due p e) (byte_beyond (drop (suc i) text) (get_or text i 0) (ne_eqb _ _ h))

gone : (xs : List ℕ) (i : ℕ) → length xs ≤ i → drop i xs ≡ []
gone [] zero h = refl
gone [] (suc i) h = refl
gone (x ∷ xs) zero h = absurd (omega arith)
gone (x ∷ xs) (suc i) h = gone xs i (omega arith)

-- at the end of the text the key's text must have ended too
key_ends : (due : List ℕ) (p : ℕ) (r : Bool) → is_some (slice_get due p) ≡ not r → r ≡ bytes_eq [] (drop p due)
key_ends [] zero true h = refl
key_ends [] zero false h = cc
key_ends [] (suc p) true h = refl
key_ends [] (suc p) false h = cc
key_ends (x ∷ xs) zero true h = cc
key_ends (x ∷ xs) zero false h = refl
key_ends (x ∷ xs) (suc p) r h = key_ends xs p r h

pub rest_ends : (text due : List ℕ) (i p : ℕ) (r : Bool) → length text ≤ i → is_some (slice_get due p) ≡ not r →
    r ≡ bytes_eq (without_blanks (drop i text)) (drop p due)
rest_ends text due i p r l h = rw (gone text i l) (key_ends due p r h)
