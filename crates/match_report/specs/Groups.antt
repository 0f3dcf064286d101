-- The records that share a number, and the lines that tell them. The lines are this project's own.
use Rattle.std.specs.Prelude.{ℕ, ◌==◌, Bool, ◌&&◌, nat_le, bytes_eq, List, [], ◌∷◌, ◌++◌, length, map, filter, fold, codes, if◌then◌else◌}
use Rattle.std.specs.List.{flat_map}
use Rattle.std.specs.Fmt.{decimal}
use Rattle.std.specs.BTreeSet.{insert_key}
use Rattle.marc_types.specs.declared.key.Key.{Key}
use Rattle.heading_fields.specs.Numbers.{key_text}
use Rattle.catalogue_rules.specs.Lines.{line, then_words}
use Rattle.match_report.specs.Postings.{Posting, number_rank, number_text, posting_cmp}
use Rattle.match_report.specs.declared.number.Number.{Number}
use Rattle.match_report.specs.declared.number.Number.TheVariants.{Isbn, Lccn}

-- the key of a record, and its numbers
abbrev pub RecordNumbers : Type 0
RecordNumbers = Key × List Number

-- a number and a key that has it
abbrev pub posting : Number → Key → Posting
posting number key = record { number = number; key = key }

-- each number of a record, with its key
abbrev pub postings_of_row : RecordNumbers → List Posting
postings_of_row row = map (λ number. posting number row.0) row.1

-- each number beside each record that has it, once, in their order
abbrev pub postings_of : List RecordNumbers → List Posting
postings_of rows = fold (insert_key posting_cmp) [] (flat_map postings_of_row rows)

-- a number, and the keys of the records that have it
pub record NumberGroup : Type 0 where
  pub number : Number
  pub keys : List Key

-- a number and the keys that have it
abbrev pub number_group : Number → List Key → NumberGroup
number_group number keys = record { number = number; keys = keys }

-- whether two numbers are the same
abbrev pub same_number : Number → Number → Bool
same_number m n = (number_rank m == number_rank n) && bytes_eq (number_text m) (number_text n)

-- a record joins the group behind it where that is of its number
abbrev pub joined : Posting → List NumberGroup → List NumberGroup
joined h [] = number_group h.number (h.key ∷ []) ∷ []
joined h (g ∷ gs) =
    if same_number h.number g.number then number_group h.number (h.key ∷ g.keys) ∷ gs
    else number_group h.number (h.key ∷ []) ∷ g ∷ gs

-- the groups of postings in order
abbrev pub groups_of : List Posting → List NumberGroup
groups_of [] = []
groups_of (h ∷ hs) = joined h (groups_of hs)

-- two records or more have the number
abbrev pub is_match : NumberGroup → Bool
is_match g = nat_le 2 (length g.keys)

-- the groups of two or more, of rows
unfoldable pub matches_of : List RecordNumbers → List NumberGroup
matches_of rows = filter is_match (groups_of (postings_of rows))

-- `ISBN` or `LCCN`
abbrev pub number_word : Number → List ℕ
number_word (Isbn text) = codes "ISBN"
number_word (Lccn text) = codes "LCCN"

-- the number and the keys of a group, each behind a blank
abbrev pub group_words : NumberGroup → List ℕ
group_words g = then_words (number_text g.number ∷ map key_text g.keys)

-- what the line of a group says: what kind of number it is, the number, and the keys
abbrev pub group_text : NumberGroup → List ℕ
group_text g = number_word g.number ++ group_words g

-- a line for a group
abbrev pub group_line : NumberGroup → List ℕ
group_line g = line (group_text g)

-- `TOTAL groups=N`
abbrev pub total_line : List NumberGroup → List ℕ
total_line groups = line (codes "TOTAL groups=" ++ decimal (length groups))

-- a line for each group, and how many there are
unfoldable pub lines_of : List NumberGroup → List ℕ
lines_of groups = flat_map group_line groups ++ total_line groups
