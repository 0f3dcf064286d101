-- The items of a file. Source: ISO 2709, by which a record ends with its record terminator 1D; that line ends between
-- records are passed over, and the bound on a piece (a record's length has five digits), are this project's.
use Rattle.std.specs.Prelude.{ℕ, suc, zero, ◌+◌, ◌-◌, ◌==◌, Bool, ◌||◌, nat_lt, List, [], ◌∷◌, length, Option, Some, None, if◌then◌else◌}
use Rattle.std.specs.Io.BufRead.{take_through, drop_through, ends_with_byte}
use Rattle.marc_types.specs.declared.refusal.Refusal.{Refusal}
use Rattle.marc_types.specs.declared.refusal.Refusal.TheVariants.{Overlong, Unfinished}

-- the byte that ends a record
abbrev pub record_terminator : ℕ
record_terminator = 29

-- no piece is longer, since a record's length has five digits
abbrev pub longest_piece : ℕ
longest_piece = 99999

-- a line feed or a carriage return
abbrev pub is_line_end : ℕ → Bool
is_line_end b = b == 10 || b == 13

-- the bytes from the first on that is no line end
abbrev pub skip_line_ends : List ℕ → List ℕ
skip_line_ends [] = []
skip_line_ends (b ∷ bytes) = if is_line_end b then skip_line_ends bytes else b ∷ bytes

-- a piece, or what stands in a piece's place and is refused
pub record Item : Type 0 where
  -- its number in the file, from 1
  pub ordinal : ℕ
  -- the place in the file of its first byte, from 0
  pub offset : ℕ
  -- its bytes, with the terminator where it has one
  pub bytes : List ℕ
  -- why it is no piece, where it is none
  pub refusal : Option Refusal

-- too long whatever its end, else a piece where it ends with its terminator
abbrev pub refusal_of : List ℕ → Option Refusal
refusal_of bytes =
    if nat_lt longest_piece (length bytes) then Some Overlong else if ends_with_byte record_terminator bytes then None else Some Unfinished

-- an item with its place and the reason for which it is no piece, where there is one
abbrev pub item_at : ℕ → ℕ → List ℕ → Item
item_at ordinal offset bytes = record { ordinal = ordinal; offset = offset; bytes = bytes; refusal = refusal_of bytes }

-- the place behind the item
abbrev pub end_of : Item → ℕ
end_of item = item.offset + length item.bytes

-- the items, unless no byte is left
abbrev pub unless_none : List ℕ → List Item → List Item
unless_none [] items = []
unless_none (b ∷ bytes) items = items

-- Skip line ends at the front. If nothing is left, there is no item. Else the next item runs through the first record
-- terminator, or to the end where there is none; and the rest is cut in the same way. (`most` bounds the number of items.)
unfoldable pub first_items : ℕ → ℕ → ℕ → List ℕ → List Item
first_items zero before offset bytes = []
first_items (suc most) before offset bytes =
    let start = skip_line_ends bytes in
    let item = item_at (before + 1) (offset + (length bytes - length start)) (take_through record_terminator start) in
    unless_none start (item ∷ first_items most (before + 1) (end_of item) (drop_through record_terminator start))

-- the items of the bytes at this offset of a file, behind so many other items; there are no more items than bytes
unfoldable pub items_behind : ℕ → ℕ → List ℕ → List Item
items_behind before offset bytes = first_items (length bytes) before offset bytes

-- the items of a file's bytes
abbrev pub items : List ℕ → List Item
items bytes = items_behind 0 0 bytes
