-- Cells that are filled some at a time, from none on.
use Rattle.std.specs.Prelude.{ℕ, List, [], length}
use Rattle.std.specs.Option.{option_map_or}
use Rattle.std.specs.Fmt.{decimal}
use Rattle.marc_types.specs.Fields.{tag_of}
use Rattle.marc_types.specs.declared.field.Field.{Field}
use Rattle.marc_types.specs.declared.form.Kind.{Kind}
use Rattle.marc_types.specs.declared.key.Class.{Class}
use Rattle.marc_types.specs.declared.key.Key.{Key}
use Rattle.heading_fields.specs.Numbers.{key_text}
use Rattle.catalogue_rules.specs.State.{State}
use Rattle.catalogue_rules.specs.Output.{tag_text}
use Rattle.heading_worklist.specs.Headings.{OpenHeading}
use Rattle.heading_worklist.specs.Lines.{Cells, names_text}
use Rattle.heading_worklist.specs.Reasons.{reason_of, reason_words}
use Rattle.heading_worklist.specs.Texts.{heading_text, identifiers_text, keys_text, kind_word, name_of_kept}

-- none has a text
abbrev pub no_cells : Cells
no_cells = record {
  state = [];
  kind = [];
  heading = [];
  count = [];
  base_count = [];
  record_key = [];
  library = [];
  title = [];
  tag = [];
  field = [];
  identifiers = [];
  awaits = [];
  candidate_count = [];
  candidates = [];
  candidate_headings = [];
  why = [];
}

-- how a heading stands, its kind, its text and its tag
abbrev pub with_heading : List ℕ → Kind → Class → Field → Cells → Cells
with_heading state kind class f c =
    record c { state = state; kind = kind_word kind; heading = heading_text kind class f; tag = tag_text (tag_of f) }

-- how often its full form and its base form stand
abbrev pub with_counts : ℕ → ℕ → Cells → Cells
with_counts count base_count c = record c { count = decimal count; base_count = decimal base_count }

-- the key of its record, and the library
abbrev pub with_record : Key → Cells → Cells
with_record key c = record c { record_key = key_text key; library = key.code }

-- the record's title, the number of the heading's field, what it is identified by, and what it awaits
abbrev pub with_place : OpenHeading → Cells → Cells
with_place x c = record c {
  title = name_of_kept x.class x.row.1;
  field = decimal x.number;
  identifiers = identifiers_text x.held.field;
  awaits = option_map_or key_text x.held.tie.awaits [];
}

-- how many authorities could be meant, their keys and their names
abbrev pub with_candidates : State → List Key → Cells → Cells
with_candidates s keys c =
    record c { candidate_count = decimal (length keys); candidates = keys_text keys; candidate_headings = names_text s keys }

-- why it isn't linked
abbrev pub with_reason : State → OpenHeading → Cells → Cells
with_reason s x c = record c { why = reason_words (reason_of s x) }
