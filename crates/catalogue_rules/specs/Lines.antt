-- Words of printed lines.
use Rattle.std.specs.Prelude.{ℕ, List, [], ◌∷◌, ◌++◌}
use Rattle.std.specs.List.{flat_map}

-- a line ends with a line feed
abbrev pub line : List ℕ → List ℕ
line text = text ++ 10 ∷ []

-- a word behind a blank
abbrev pub then_word : List ℕ → List ℕ
then_word word = 32 ∷ word

-- words, each behind a blank
abbrev pub then_words : List (List ℕ) → List ℕ
then_words words = flat_map then_word words
