-- The exports of parts, and what is joined of them. Source of an export's pieces: ISO 2709; that leader 06 `z` is authority data is MARC 21's. How
-- exports are joined is this project's own.
use Rattle.std.specs.Prelude.{◌≡◌, ℕ, ◌==◌, Bool, true, false, ◌&&◌, List, [], ◌∷◌, ◌++◌, map, All, Some, None, get_or, if◌then◌else◌}
use Rattle.std.specs.List.{flat_map}
use Rattle.std.specs.Option.{is_none}
use Rattle.std.specs.Ordering.{is_lt}
use Rattle.marc_types.specs.Order.{key_cmp}
use Rattle.marc_types.specs.declared.field.Field.{Field}
use Rattle.marc_types.specs.declared.field.Leader.{Leader}
use Rattle.marc_types.specs.declared.key.Key.{Key}
use Rattle.entry_record.specs.Identifying.{key_refusal}
use Rattle.entry_record.specs.Identity.{key_of}
use Rattle.marc_stream.specs.Pieces.{Item, items}
use Rattle.reading.specs.Reading.{IsReadAs}
use Rattle.parts_commands.specs.Reports.{FileOf}

-- leader 06 is `z`: authority data
abbrev pub is_authority : List ℕ → Bool
is_authority piece = get_or piece 6 0 == 122

-- an item that is a piece, and an authority's
abbrev pub is_authority_item : Item → Bool
is_authority_item item = is_none item.refusal && is_authority item.bytes

-- an item that is a piece, and a bibliographic record's
abbrev pub IsRecordItem : Item → Type 0
IsRecordItem item = (item.refusal ≡ None) × (is_authority item.bytes ≡ false)

-- the bytes of items
abbrev pub pieces_of : List Item → List (List ℕ)
pieces_of items = map (λ item. item.bytes) items

-- the pieces of the authorities with which items begin
abbrev pub authorities_of : List Item → List (List ℕ)
authorities_of [] = []
authorities_of (item ∷ items) = if is_authority_item item then item.bytes ∷ authorities_of items else []

-- the items behind those
abbrev pub behind_authorities : List Item → List Item
behind_authorities [] = []
behind_authorities (item ∷ items) = if is_authority_item item then behind_authorities items else item ∷ items

-- their pieces: in an export those of the bibliographic records
abbrev pub records_of : List Item → List (List ℕ)
records_of items = pieces_of (behind_authorities items)

-- the key that a piece tells by itself: it can be read as a record with a 001 and a 003 that make a proper key
pub record TellsKey (piece : List ℕ) (key : Key) : Type 0 where
  pub leader : Leader
  pub fields : List Field
  pub read : IsReadAs piece leader fields
  pub proper : key_refusal [] fields ≡ None
  pub key_is : key ≡ key_of [] fields

-- a piece may stand behind another: where both tell their keys, these ascend
abbrev pub MayFollow : List ℕ → List ℕ → Type 0
MayFollow one other = (a b : Key) → TellsKey one a → TellsKey other b → is_lt (key_cmp a b) ≡ true

-- pieces may stand behind that one, by the first of them
abbrev pub CanFollow : List ℕ → List (List ℕ) → Type 0
CanFollow before [] = Unit {0}
CanFollow before (piece ∷ pieces) = MayFollow before piece

-- the last of these pieces, or the one before them where there are none
abbrev pub last_piece : List ℕ → List (List ℕ) → List ℕ
last_piece before [] = before
last_piece before (piece ∷ pieces) = last_piece piece pieces

-- The items of an export of a part: it has these authorities, then bibliographic records alone, and those may stand behind that record of the part
-- before.
pub record IsPart (authorities : List (List ℕ)) (before : List ℕ) (items : List Item) : Type 0 where
  pub same : authorities_of items ≡ authorities
  pub records : All IsRecordItem (behind_authorities items)
  pub follows : CanFollow before (records_of items)

-- exports of parts with these authorities, in the order of the parts, behind that record
abbrev pub AreParts : List (List ℕ) → List ℕ → List (List ℕ) → Type 0
AreParts authorities before [] = Unit {0}
AreParts authorities before (export ∷ exports) =
    IsPart authorities before (items export) × AreParts authorities (last_piece before (records_of (items export))) exports

-- exports that can be joined: all have the first's authorities, and no record is before the first part's
abbrev pub CanBeJoined : List (List ℕ) → Type 0
CanBeJoined exports = AreParts (authorities_of (items (get_or exports 0 []))) [] exports

-- pieces, one behind the other
abbrev pub bytes_of : List (List ℕ) → List ℕ
bytes_of pieces = flat_map (λ piece. piece) pieces

-- what is joined of exports: the authorities of the first, and then the bibliographic records of each
abbrev pub joined_exports : List (List ℕ) → List ℕ
joined_exports exports =
    bytes_of (authorities_of (items (get_or exports 0 []))) ++ flat_map (λ export. bytes_of (records_of (items export))) exports

-- the files of these names can be joined to these bytes
pub record AreJoinedTo (file : FileOf) (names : List (List ℕ)) (due : List ℕ) : Type 0 where
  pub exports : List (List ℕ)
  pub there : map file names ≡ map Some exports
  pub can : CanBeJoined exports
  pub due_is : due ≡ joined_exports exports

-- a place in a file: that of one of its items, or its start
pub data IsPlaceIn (items : List Item) (place : ℕ) : Type 0 where
  AtStart : place ≡ 0 → IsPlaceIn items place
  AtItem : (done rest : List Item) (item : Item) → items ≡ done ++ item ∷ rest → place ≡ item.offset → IsPlaceIn items place

-- Why exports can't be joined: those before the one of that name can, and with it they can't. The place is one of its own.
pub record ExportsDiffer (file : FileOf) (names : List (List ℕ)) (place : ℕ) (name : List ℕ) : Type 0 where
  pub before : List (List ℕ)
  pub after : List (List ℕ)
  pub names_are : names ≡ before ++ name ∷ after
  pub exports : List (List ℕ)
  pub there : map file before ≡ map Some exports
  pub can : CanBeJoined exports
  pub export : List ℕ
  pub export_there : file name ≡ Some export
  pub cannot : CanBeJoined (exports ++ export ∷ []) → ⊥
  pub place_is : IsPlaceIn (items export) place
