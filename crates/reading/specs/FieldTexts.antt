-- What a field's text is, wherever it stands.
use Rattle.std.specs.Prelude.{ℕ, List}
use Rattle.reading.specs.declared.text.FieldText.{FieldText}
use Rattle.reading.specs.declared.text.FieldText.TheVariants.{Standing, Converted}

-- its bytes in UTF-8
abbrev pub bytes_of : FieldText → List ℕ
bytes_of (Standing text) = text.now
bytes_of (Converted text) = text
