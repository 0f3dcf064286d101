-- The holdings of a file on a shelf. Source: MARC 21 Format for Holdings Data (leader 05 `d` deletes a record). That a later
-- holding takes the place of an earlier one under its key is this project's own rule.
use Rattle.std.specs.Prelude.{ℕ, ◌==◌, Bool, List, [], fold, filter, if◌then◌else◌}
use Rattle.std.specs.BTreeMap.{insert_entry}
use Rattle.std.specs.Map.{remove_entry}
use Rattle.marc_types.specs.Order.{key_cmp, same_key}
use Rattle.marc_types.specs.declared.field.Leader.{Leader}
use Rattle.marc_types.specs.declared.key.Key.{Key}
use Rattle.iso2709_record.specs.Written.{record_bytes}
use Rattle.holdings.specs.declared.holding.HoldingContent.{HoldingContent}
use Rattle.holdings.specs.declared.holding.Holding.{Holding}

-- what is kept of a holding beside its key: the number in its target, and its record's written form
pub record ShelvedHolding : Type 0 where
  pub target_number : List ℕ
  pub written : List ℕ

-- the key of a holding, and what is kept of it
abbrev pub ShelfRow : Type 0
ShelfRow = Key × ShelvedHolding

-- what a shelf keeps of a holding: its target's number, and its written form
abbrev pub shelved : HoldingContent → ShelvedHolding
shelved content = record { target_number = content.target.number; written = record_bytes content.rec.leader content.rec.fields }

-- leader 05 `d`
abbrev pub is_withdrawn : Leader → Bool
is_withdrawn l = l.status == 100

-- a holding comes into its key's place, and one that deletes takes away what stands there
abbrev pub take_holding : List ShelfRow → Holding → List ShelfRow
take_holding shelf h =
    if is_withdrawn h.content.rec.leader then remove_entry (same_key h.key) shelf
    else insert_entry key_cmp shelf h.key (shelved h.content)

-- the shelf of a list of holdings, in key order
unfoldable pub shelf_of : List Holding → List ShelfRow
shelf_of holdings = fold take_holding [] holdings

-- the written form of a holding on the shelf
abbrev pub written_holding : ShelfRow → List ℕ
written_holding row = row.1.written

-- the target of a holding on a shelf: a target has the holding's own code
abbrev pub target_of_row : ShelfRow → Key
target_of_row row = record { code = row.0.code; number = row.1.target_number }

-- the holding's target is the key
abbrev pub belongs_to : Key → ShelfRow → Bool
belongs_to key row = same_key (target_of_row row) key

-- the holdings of the record under a key, in the order of their own keys
abbrev pub holdings_of : Key → List ShelfRow → List ShelfRow
holdings_of key shelf = filter (belongs_to key) shelf
