-- The bytes of a text, and what its calls make of them.
use Rattle.std.specs.Prelude.{◌≡◌, ◌≢◌, ℕ, ◌==◌, Bool, true, false, not, List, [], ◌∷◌, ◌++◌, filter, string_bytes}
use Rattle.marc_types.specs.declared.text.Bytes.{Bytes}
use Rattle.marc_types.specs.declared.text.Bytes.TheVariants.{Inline, Apart}

-- those in the text itself, or those of the string that it has
abbrev pub text_bytes : Bytes → List ℕ
text_bytes (Inline short) = short
text_bytes (Apart string) = string_bytes string

-- a text without its blanks
abbrev pub without_blanks : List ℕ → List ℕ
without_blanks bytes = filter (λ b. not (b == 0x20)) bytes

-- the byte was taken off the end of the text where it stood there, else the text stays
abbrev pub DropsIf : ℕ → List ℕ → List ℕ → Bool → Type 0
DropsIf byte old new true = old ≡ new ++ byte ∷ []
DropsIf byte old new false = (new ≡ old) × ((front : List ℕ) → old ≢ front ++ byte ∷ [])
