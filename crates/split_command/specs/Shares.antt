-- To which share each entry of a file comes. The rules are this project's own.
use Rattle.std.specs.Prelude.{ℕ, suc, ◌+◌, ◌==◌, List, [], ◌∷◌, filter, map, if◌then◌else◌}
use Rattle.std.specs.List.{flat_map}
use Rattle.marc_types.specs.declared.key.Class.{Class}
use Rattle.marc_types.specs.declared.key.Class.TheVariants.{Authority, Bibliographic}
use Rattle.marc_types.specs.declared.key.Key.{Key}
use Rattle.marc_types.specs.declared.entry.Entry.{Entry}
use Rattle.catalogue_parts.specs.Parts.{before}

-- the number of the part that has a key, among the parts that bounds make: a key comes before no bound of an earlier part, and before
-- the next one
abbrev pub part_number : List Key → Key → ℕ
part_number [] key = 0
part_number (bound ∷ bounds) key = if before bound key then 0 else suc (part_number bounds key)

-- the share of a record: 0 of an authority, and else that of the key's part
abbrev pub share_in : List Key → Class → Key → ℕ
share_in bounds Authority key = 0
share_in bounds Bibliographic key = suc (part_number bounds key)

-- the share of an entry
unfoldable pub share_of : List Key → Entry → ℕ
share_of bounds e = share_in bounds e.class e.key

-- the bytes of a piece, and the entry that it makes
pub record Piece : Type 0 where
  pub bytes : List ℕ
  pub entry : Entry

-- the pieces that come to a share, in their order
abbrev pub own : List Key → ℕ → List Piece → List Piece
own bounds share pieces = filter (λ p. share_of bounds p.entry == share) pieces

-- their bytes, as they stood
abbrev pub dealt : List Key → ℕ → List Piece → List ℕ
dealt bounds share pieces = flat_map (λ p. p.bytes) (own bounds share pieces)

-- the entries of pieces
abbrev pub entries_of : List Piece → List Entry
entries_of pieces = map (λ p. p.entry) pieces

-- entries as the pieces of another file, which are numbered from that number on
abbrev pub numbered : ℕ → List Entry → List Entry
numbered ordinal [] = []
numbered ordinal (e ∷ entries) = record e { ordinal = ordinal } ∷ numbered (ordinal + 1) entries
