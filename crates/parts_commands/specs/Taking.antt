-- What is taken of exports, call by call.
use Rattle.std.specs.Prelude.{◌≡◌, ◌≢◌, ◌⊎◌, ℕ, ◌≤◌, ◌<◌, Bool, true, false, List, [], ◌∷◌, All, Option, Some, None, Result, IsErrOf}
use Rattle.std.specs.Io.KnownBytes.{Appends}
use Rattle.marc_types.specs.declared.refusal.Refusal.{Refusal}
use Rattle.marc_stream.specs.Pieces.{Item}
use Rattle.marc_stream.specs.Stream.{Stream, Answers, Ends, Fails}
use Rattle.outside.specs.Fault.{Rose}
use Rattle.parts_commands.specs.Exports.{IsPart, IsPlaceIn, IsRecordItem, MayFollow, authorities_of, behind_authorities, bytes_of, is_authority_item, last_piece, pieces_of, records_of}
use Rattle.parts_commands.specs.declared.taking.Taken.{Taken}
use Rattle.parts_commands.specs.declared.taking.Taken.TheVariants.{Piece, NoPiece, End, Fault}
use Rattle.parts_commands.specs.declared.comparing.Compared.{Compared}
use Rattle.parts_commands.specs.declared.comparing.Compared.TheVariants.{Same, Record, NoMore, Fewer}
use Rattle.parts_commands.specs.declared.stop.Stop.{Stop}
use Rattle.parts_commands.specs.declared.stop.Stop.TheVariants.{Input, Output}

-- the next item was answered: these bytes at that place, which are a piece or refused
pub record IsTaken (old new : Stream) (place : ℕ) (bytes : List ℕ) (refusal : Option Refusal) : Type 0 where
  pub ordinal : ℕ
  pub answers : Answers old new (record { ordinal = ordinal; offset = place; bytes = bytes; refusal = refusal })

-- what was refused was answered
pub record IsRefusedTaken (old new : Stream) (place : ℕ) : Type 0 where
  pub bytes : List ℕ
  pub refusal : Refusal
  pub taken : IsTaken old new place bytes (Some refusal)

-- what was taken, a piece's bytes, and what is then left to come
abbrev pub GivesTaken : Stream → Taken → List ℕ → Stream → Type 0
GivesTaken old (Piece place) piece new = IsTaken old new place piece None
GivesTaken old (NoPiece place) piece new = IsRefusedTaken old new place
GivesTaken old End piece new = Ends old new
GivesTaken old Fault piece new = Fails old new

-- an item was answered, and there may be a next
pub record GoesOn (old new : Stream) : Type 0 where
  pub over : new.over ≡ false
  pub tells : new.tells ≡ old.tells
  pub falls : new.most < old.most

-- a count of an input's faults never falls, and the input failed only where it rose
pub record HasInputCause {T : Type 0} (before now : ℕ) (result : Result T Stop) : Type 0 where
  pub later : before ≤ now
  pub failed : IsErrOf result Input → Rose before now

-- the same of two inputs, one of which failed
pub record HaveInputCause {T : Type 0} (before now other_before other_now : ℕ) (result : Result T Stop) : Type 0 where
  pub later : before ≤ now
  pub other_later : other_before ≤ other_now
  pub failed : IsErrOf result Input → Rose before now ⊎ Rose other_before other_now

-- the same of the output
pub record HasOutputCause {T : Type 0} (before now : ℕ) (result : Result T Stop) : Type 0 where
  pub later : before ≤ now
  pub failed : IsErrOf result Output → Rose before now

-- the next item is an authority's piece, of these bytes, and what is then left to come; or no authority is next
abbrev pub IsNextAuthority : List Item → Bool → List ℕ → List Item → Type 0
IsNextAuthority items true piece coming =
    (item : Item) × (items ≡ item ∷ coming) × (is_authority_item item ≡ true) × (item.bytes ≡ piece)
IsNextAuthority items false piece coming = authorities_of items ≡ []

-- the next item is a record's piece, of these bytes at that place, and what is then left to come
pub record IsNextRecord (items : List Item) (place : ℕ) (piece : List ℕ) (coming : List Item) : Type 0 where
  pub item : Item
  pub next : items ≡ item ∷ coming
  pub is_record : IsRecordItem item
  pub bytes : item.bytes ≡ piece
  pub place_is : item.offset ≡ place

-- two lists of items have the same authority next, the second at that place, and what is then left to come of each
pub record HaveSameNext (others items : List Item) (place : ℕ) (others_coming coming : List Item) : Type 0 where
  pub other : Item
  pub item : Item
  pub other_next : others ≡ other ∷ others_coming
  pub next : items ≡ item ∷ coming
  pub other_is : is_authority_item other ≡ true
  pub is : is_authority_item item ≡ true
  pub bytes : item.bytes ≡ other.bytes
  pub place_is : item.offset ≡ place

-- what stands next beside what stands next in another export
abbrev pub GivesCompared : List Item → List Item → Compared → List ℕ → List Item → List Item → Type 0
GivesCompared others items (Same place) piece others_coming coming = HaveSameNext others items place others_coming coming
GivesCompared others items (Record place) piece others_coming coming = IsNextRecord items place piece coming × (authorities_of others ≡ [])
GivesCompared others items NoMore piece others_coming coming = (items ≡ []) × (authorities_of others ≡ [])
GivesCompared others items Fewer piece others_coming coming = (items ≡ []) × (authorities_of others ≢ [])

-- where the same stands next in both, both go on; behind the first record the export does
abbrev pub GoOnAs : Compared → Stream → Stream → Stream → Stream → Type 0
GoOnAs (Same place) other other_now export export_now = GoesOn other other_now × GoesOn export export_now
GoOnAs (Record place) other other_now export export_now = GoesOn export export_now
GoOnAs NoMore other other_now export export_now = Unit {0}
GoOnAs Fewer other other_now export export_now = Unit {0}

-- items that are no part with the authorities of others, whatever stands before, and a place of theirs
pub record IsUnlike (others items : List Item) (place : ℕ) : Type 0 where
  pub no_part : (before : List ℕ) → IsPart (authorities_of others) before items → ⊥
  pub place_is : IsPlaceIn items place

-- the first record of items that have the authorities of others was taken from that place, and these are left to come
pub record IsAtRecord (others items : List Item) (place : ℕ) (piece : List ℕ) (coming : List Item) : Type 0 where
  pub same : authorities_of items ≡ authorities_of others
  pub next : IsNextRecord (behind_authorities items) place piece coming
  pub within : (at : ℕ) → IsPlaceIn coming at → IsPlaceIn items at
  pub here : IsPlaceIn items place

-- the authorities of items were passed, which are those of others: up to the first record, or there is none
abbrev pub ArePassed : List Item → List Item → Option ℕ → List ℕ → List Item → Type 0
ArePassed others items (Some place) piece coming = IsAtRecord others items place piece coming
ArePassed others items None piece coming = (authorities_of items ≡ authorities_of others) × (behind_authorities items ≡ [])

-- the next item is a record, which was written and kept as the last
pub record IsRecordCopied (items : List Item) (last_now : List ℕ) (coming : List Item) (old new : Option (List ℕ)) : Type 0 where
  pub item : Item
  pub next : items ≡ item ∷ coming
  pub is_record : IsRecordItem item
  pub last_is : last_now ≡ item.bytes
  pub wrote : Appends old new item.bytes

-- or there is none, and nothing was written
abbrev pub IsNextCopied : List Item → Bool → List ℕ → List ℕ → List Item → Option (List ℕ) → Option (List ℕ) → Type 0
IsNextCopied items true last last_now coming old new = IsRecordCopied items last_now coming old new
IsNextCopied items false last last_now coming old new = (items ≡ []) × (last_now ≡ last) × (new ≡ old)

-- all items were records, and were written; the last of them is kept, or the one before them
pub record AreCopied (items : List Item) (last last_now : List ℕ) (old new : Option (List ℕ)) : Type 0 where
  pub records : All IsRecordItem items
  pub last_is : last_now ≡ last_piece last (pieces_of items)
  pub wrote : Appends old new (bytes_of (pieces_of items))

-- one of them is no record, and a place of theirs
pub record AreNotCopied (items : List Item) (place : ℕ) : Type 0 where
  pub no_records : All IsRecordItem items → ⊥
  pub place_is : IsPlaceIn items place

-- the same of a first record and the items behind it, where it may stand behind the last
pub record AreAllCopied (piece : List ℕ) (items : List Item) (last last_now : List ℕ) (old new : Option (List ℕ)) : Type 0 where
  pub follows : MayFollow last piece
  pub records : All IsRecordItem items
  pub last_is : last_now ≡ last_piece piece (pieces_of items)
  pub wrote : Appends old new (bytes_of (piece ∷ pieces_of items))

-- it may not, or one of the items is no record; and the first record's place, or one of the items'
pub record AreNotAllCopied (piece last : List ℕ) (first : ℕ) (items : List Item) (place : ℕ) : Type 0 where
  pub no : MayFollow last piece → All IsRecordItem items → ⊥
  pub place_is : (place ≡ first) ⊎ IsPlaceIn items place

-- the items are those of a part behind that record, and its records were written
pub record IsAppended (others items : List Item) (last last_now : List ℕ) (old new : Option (List ℕ)) : Type 0 where
  pub part : IsPart (authorities_of others) last items
  pub last_is : last_now ≡ last_piece last (records_of items)
  pub wrote : Appends old new (bytes_of (records_of items))

-- they aren't, and a place of theirs
pub record IsNotAppended (others items : List Item) (last : List ℕ) (place : ℕ) : Type 0 where
  pub no_part : IsPart (authorities_of others) last items → ⊥
  pub place_is : IsPlaceIn items place
