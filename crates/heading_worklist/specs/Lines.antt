-- The lines of a worklist: the texts of their cells. The columns are this project's own.
use Rattle.std.specs.Prelude.{ℕ, ◌+◌, Bool, true, false, ◌&&◌, ◌||◌, not, List, [], ◌∷◌, ◌++◌, length, map, filter, codes, Option, option_to_list, if◌then◌else◌}
use Rattle.std.specs.List.{count_by, filter_map, flat_map, list_any, sum_by}
use Rattle.std.specs.Option.{option_map, option_map_or}
use Rattle.std.specs.Fmt.{decimal}
use Rattle.marc_types.specs.Fields.{tag_of}
use Rattle.marc_types.specs.declared.key.Class.TheVariants.{Authority}
use Rattle.marc_types.specs.declared.key.Key.{Key}
use Rattle.marc_types.specs.Order.{same_key}
use Rattle.heading_fields.specs.Numbers.{key_text}
use Rattle.catalogue_rules.specs.Settle.{is_linked_to}
use Rattle.catalogue_rules.specs.State.{Row, State, linkable_authorities}
use Rattle.catalogue_rules.specs.Output.{is_least_of, tag_text}
use Rattle.catalogue_rules.specs.Receipt.{kept_under}
use Rattle.catalogue_tables.specs.Sharing.{keys_crossing, keys_sharing}
use Rattle.heading_worklist.specs.Csv.{CsvLine}
use Rattle.heading_worklist.specs.Texts.{kind_word, heading_text, name_of_kept, identifiers_text, bar, joined_by, first_keys, keys_text}
use Rattle.heading_worklist.specs.Authorities.{heading_under}
use Rattle.heading_worklist.specs.declared.authorities.AuthorityHeading.{AuthorityHeading}
use Rattle.heading_worklist.specs.Headings.{OpenHeading, is_ambiguous}
use Rattle.heading_worklist.specs.Reasons.{reason_of, reason_words}

-- the columns
pub record Cells : Type 0 where
  pub state : List ℕ
  pub kind : List ℕ
  pub heading : List ℕ
  pub count : List ℕ
  pub base_count : List ℕ
  pub record_key : List ℕ
  pub library : List ℕ
  pub title : List ℕ
  pub tag : List ℕ
  pub field : List ℕ
  pub identifiers : List ℕ
  pub awaits : List ℕ
  pub candidate_count : List ℕ
  pub candidates : List ℕ
  pub candidate_headings : List ℕ
  pub why : List ℕ

-- a line of those cells
abbrev pub line_of_cells : Cells → CsvLine
line_of_cells c = record {
  first = c.state;
  others =
      c.kind ∷ c.heading ∷ c.count ∷ c.base_count ∷ c.record_key ∷ c.library ∷ c.title ∷ c.tag ∷ c.field
      ∷ c.identifiers ∷ c.awaits ∷ c.candidate_count ∷ c.candidates ∷ c.candidate_headings ∷ c.why ∷ [];
}

-- the first line: the columns' names
abbrev pub column_names : CsvLine
column_names = record {
  first = codes "state";
  others =
      codes "kind" ∷ codes "heading" ∷ codes "count" ∷ codes "base_count" ∷ codes "record" ∷ codes "library" ∷ codes "title"
      ∷ codes "tag" ∷ codes "field" ∷ codes "identifiers" ∷ codes "awaits" ∷ codes "candidate_count" ∷ codes "candidates"
      ∷ codes "candidate_headings" ∷ codes "why" ∷ [];
}

-- the name of the authority under a key
abbrev pub name_under : State → Key → List ℕ
name_under s key = option_map_or (name_of_kept Authority) (kept_under Authority key s) []

-- the names of the authorities under the first of the keys
abbrev pub names_text : State → List Key → List ℕ
names_text s keys = joined_by bar (map (name_under s) (first_keys keys))

-- `ambiguous` or `unlinked`
abbrev pub state_word : Bool → List ℕ
state_word true = codes "ambiguous"
state_word false = codes "unlinked"

-- the cells of an open heading whose full form and base form stand so often
abbrev pub heading_cells : State → OpenHeading → ℕ → ℕ → Cells
heading_cells s x count base_count = record {
  state = state_word (is_ambiguous x);
  kind = kind_word x.kind;
  heading = heading_text x.kind x.class x.held.field;
  count = decimal count;
  base_count = decimal base_count;
  record_key = key_text x.row.0;
  library = x.row.0.code;
  title = name_of_kept x.class x.row.1;
  tag = tag_text (tag_of x.held.field);
  field = decimal x.number;
  identifiers = identifiers_text x.held.field;
  awaits = option_map_or key_text x.held.tie.awaits [];
  candidate_count = decimal (length x.candidates);
  candidates = keys_text x.candidates;
  candidate_headings = names_text s x.candidates;
  why = reason_words (reason_of s x);
}

-- how many fields of rows are linked to the authority under a key
abbrev pub links_in : Key → List Row → ℕ
links_in key rows = sum_by (λ row. count_by (is_linked_to key) row.1.fields) rows

-- how many fields are linked to the authority under a key
abbrev pub links_to : State → Key → ℕ
links_to s key = links_in key s.authorities + links_in key s.bibliographic

-- the cells of an authority that stands so to others; the cells of fields stay empty
abbrev pub authority_cells : State → List ℕ → List Key → Key → AuthorityHeading → Cells
authority_cells s state others key h = record {
  state = state;
  kind = kind_word h.kind;
  heading = heading_text h.kind Authority h.field;
  count = decimal (links_to s key);
  base_count = [];
  record_key = key_text key;
  library = key.code;
  title = name_under s key;
  tag = tag_text (tag_of h.field);
  field = [];
  identifiers = [];
  awaits = [];
  candidate_count = decimal (length others);
  candidates = keys_text others;
  candidate_headings = names_text s others;
  why = [];
}

-- the line of the authority under a key among others
abbrev pub authority_line : State → List ℕ → List Key → Key → Option CsvLine
authority_line s state others key = option_map (λ h. line_of_cells (authority_cells s state others key h)) (heading_under s key)

-- the keys but one
abbrev pub other_keys : Key → List Key → List Key
other_keys own keys = filter (λ key. not (same_key own key)) keys

-- the line of one of those that share a heading
abbrev pub member_line : State → List Key → Key → Option CsvLine
member_line s group key = authority_line s (codes "shared") (other_keys key group) key

-- the lines of a group of two or more, of which one is kept, stand at its least key
abbrev pub group_lines : (Key → Bool) → State → Key → List Key → List CsvLine
group_lines keep s key keys = if is_least_of key keys && list_any keep keys then filter_map (member_line s keys) keys else []

-- the lines that stand at a row, of those that share its authority's heading
abbrev pub shared_at : (Key → Bool) → State → Row → List CsvLine
shared_at keep s row = group_lines keep s row.0 (keys_sharing row.0 (linkable_authorities s))

-- a line for each authority that shares its heading with others, those of a heading together
abbrev pub shared_lines : (Key → Bool) → State → List CsvLine
shared_lines keep s = flat_map (shared_at keep s) s.authorities

-- the line of an authority that is found under the heading of another, or the other way round
abbrev pub crossing_line : State → List Key → Key → Option CsvLine
crossing_line s others key = authority_line s (codes "crossing") others key

-- the line of the one that is found under the headings of others, and behind it a line for each of those
abbrev pub lines_across : State → Key → List Key → List CsvLine
lines_across s key others = option_to_list (crossing_line s others key) ++ filter_map (crossing_line s (key ∷ [])) others

-- these lines, where the one or one of the others is kept
abbrev pub crossing_among : (Key → Bool) → State → Key → List Key → List CsvLine
crossing_among keep s key [] = []
crossing_among keep s key (other ∷ others) = if keep key || list_any keep (other ∷ others) then lines_across s key (other ∷ others) else []

-- the lines that stand at a row, of its authority and of those under whose heading it is found
abbrev pub crossing_at : (Key → Bool) → State → Row → List CsvLine
crossing_at keep s row = crossing_among keep s row.0 (keys_crossing row.0 (linkable_authorities s))

-- the lines of authorities that are found under the heading of others, each with those behind it
abbrev pub crossing_lines : (Key → Bool) → State → List CsvLine
crossing_lines keep s = flat_map (crossing_at keep s) s.authorities
