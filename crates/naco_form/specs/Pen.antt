-- What a pen has written, together with what is to come.
use Rattle.std.specs.Prelude.{◌≡◌, ◌≢◌, ℕ, Bool, true, false, List, ◌∷◌, ◌++◌, chars}
use Rattle.naco_form.specs.declared.pen.At.{At}
use Rattle.naco_form.specs.declared.pen.At.TheVariants.{Front, Word, Blank}
use Rattle.naco_form.specs.declared.pen.Pen.{Pen}
use Rattle.naco_form.specs.Comparison.{commas, squeezed, single_blanks}
use Rattle.naco_form.specs.Table.{blank}

-- what the squeezing of a text still gives, at its front, in a word, and where a blank is held back
unfoldable pub still : At → List ℕ → List ℕ
still Front cs = squeezed cs
still Word cs = single_blanks cs
still Blank cs = single_blanks (blank ∷ cs)

-- the pen's text as it will be once these characters have come, their commas decided
unfoldable pub written_and_still : Pen → List ℕ → List ℕ
written_and_still pen cs = chars pen.out ++ still pen.at cs

-- the same of characters whose commas are still to be decided
unfoldable pub whole : Pen → List ℕ → List ℕ
whole pen cs = written_and_still pen (commas pen.keeps_comma cs)

-- the character c was taken off the front of a list where it stood there, else the list stays
abbrev pub PopsIf : ℕ → List ℕ → List ℕ → Bool → Type 0
PopsIf c old new true = old ≡ c ∷ new
PopsIf c old new false = (new ≡ old) × ((rest : List ℕ) → old ≢ c ∷ rest)
