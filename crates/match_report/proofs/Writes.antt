-- What several writes of a line wrote.
use Rattle.std.proofs.Common.{◌≡◌, ℕ, ◌+◌, ◌<◌, List, ◌∷◌, ◌++◌, length, drop, map, get_or, ap, Option, codes}
use Rattle.std.specs.Borrow.{Bor}
use Rattle.std.specs.Io.KnownBytes.{Appends}
use Rattle.outside.specs.Sink.{WritesFront}
use Rattle.outside.proofs.Fronts.{drop_next, front_more, front_then, appends_then}
use Rattle.marc_types.specs.declared.key.Key.{Key}
use Rattle.heading_fields.specs.Numbers.{key_text}
use Rattle.catalogue_rules.specs.Lines.{then_word, then_words}

pub key_next : (xs : List (Bor Key)) (i : ℕ) (x : Bor Key) → i < length xs → x ≡ get_or xs i x →
    then_words (map key_text (map (λ key. key.now) (drop i xs))) ≡ then_word (key_text x.now) ++ then_words (map key_text (map (λ key. key.now) (drop (i + 1) xs)))
key_next xs i x within is = ap (λ (l : List (Bor Key)). then_words (map key_text (map (λ key. key.now) l))) (drop_next xs i x within is)

-- the first word of a line, and what stands behind it
pub word_front : (a b : Option (List ℕ)) (text rest : List ℕ) → WritesFront a b (32 ∷ text) → WritesFront a b (32 ∷ text ++ rest)
word_front a b text rest w = front_more a b (32 ∷ text) rest w

pub word_then : (a b c : Option (List ℕ)) (text rest : List ℕ) → Appends a b (32 ∷ text) → WritesFront b c rest → WritesFront a c (32 ∷ text ++ rest)
word_then a b c text rest first w = front_then a b c (32 ∷ text) rest first w

-- a key's code, and its number
pub code_front : (a b : Option (List ℕ)) (code rest : List ℕ) → WritesFront a b (32 ∷ 40 ∷ code) → WritesFront a b (32 ∷ 40 ∷ code ++ rest)
code_front a b code rest w = front_more a b (32 ∷ 40 ∷ code) rest w

pub code_then : (a b c : Option (List ℕ)) (code rest : List ℕ) → Appends a b (32 ∷ 40 ∷ code) → WritesFront b c rest → WritesFront a c (32 ∷ 40 ∷ code ++ rest)
code_then a b c code rest first w = front_then a b c (32 ∷ 40 ∷ code) rest first w

-- the words of the total, and the number
pub total_front : (a b : Option (List ℕ)) (rest : List ℕ) → WritesFront a b (codes "TOTAL groups=") → WritesFront a b (codes "TOTAL groups=" ++ rest)
total_front a b rest w = front_more a b (codes "TOTAL groups=") rest w

pub total_then : (a b c : Option (List ℕ)) (rest : List ℕ) → Appends a b (codes "TOTAL groups=") → WritesFront b c rest → WritesFront a c (codes "TOTAL groups=" ++ rest)
total_then a b c rest first w = front_then a b c (codes "TOTAL groups=") rest first w

pub total_written : (a b c : Option (List ℕ)) (rest : List ℕ) → Appends a b (codes "TOTAL groups=") → Appends b c rest → Appends a c (codes "TOTAL groups=" ++ rest)
total_written a b c rest first second = appends_then a b c (codes "TOTAL groups=") rest first second
