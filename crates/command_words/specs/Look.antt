-- What is looked for in a journal that is read as an input. The rules are this project's own.
use Rattle.std.specs.Prelude.{ℕ, List, Option, Some, None, codes, if◌then◌else◌}
use Rattle.std.specs.Str.{bytes_eq}
use Rattle.marc_types.specs.declared.form.Kind.{Kind}
use Rattle.marc_types.specs.declared.form.Kind.TheVariants.{Personal, Corporate, Meeting, Title, Chronological, Topical, Geographic, Genre}

-- the kind of headings that a word names
unfoldable pub kind_of : List ℕ → Option Kind
kind_of word =
    if bytes_eq word (codes "personal") then Some Personal
    else if bytes_eq word (codes "corporate") then Some Corporate
    else if bytes_eq word (codes "meeting") then Some Meeting
    else if bytes_eq word (codes "title") then Some Title
    else if bytes_eq word (codes "chronological") then Some Chronological
    else if bytes_eq word (codes "topical") then Some Topical
    else if bytes_eq word (codes "geographic") then Some Geographic
    else if bytes_eq word (codes "genre") then Some Genre
    else None

-- the most headings of one list
abbrev pub most_headings : ℕ
most_headings = 100000

-- which headings are listed: those of a kind, from the place of a text on, at most so many
pub record HeadingRange : Type 0 where
  pub kind : Kind
  pub from : List ℕ
  pub most : ℕ

-- what is written of it: the records of all keys or of those with a code, the report on them, which of them share a number, or headings
pub data Look : Type 0 where
  Export : Option (List ℕ) → Look
  Report : Look
  Matches : Look
  Headings : HeadingRange → Look
