-- Subfields that are being typed, character by character.
use Rattle.std.specs.Prelude.{ℕ, List, ◌∷◌, ◌++◌, encode_utf8_all, if◌then◌else◌}
use Rattle.marc_types.specs.declared.field.Subfield.{Subfield}
use Rattle.heading_list.specs.Typed.{coded_subfields, text_before}
use Rattle.heading_list.specs.declared.typed.Typing.{Typing}

-- the characters that are still to be read, with the `$` that is held back
abbrev pub with_held : Typing → List ℕ → List ℕ
with_held t cs = if t.held then 36 ∷ cs else cs

-- a subfield that goes on with these characters, and those behind it
abbrev pub typed_on : ℕ → List ℕ → List ℕ → List Subfield
typed_on code text cs = record { code = code; text = text ++ encode_utf8_all (text_before cs) } ∷ coded_subfields cs

-- the subfields that there will be with these characters
unfoldable pub typed_with : Typing → List ℕ → List Subfield
typed_with t cs = t.done.items ++ typed_on t.code t.text (with_held t cs)
