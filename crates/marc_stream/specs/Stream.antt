-- What clauses see of a `Pieces`, and what its `next` does.
use Rattle.std.specs.Prelude.{◌≡◌, ℕ, ◌+◌, ◌≤◌, ◌<◌, ◌^◌, Bool, true, false, List, [], ◌∷◌, All, Option, is_some, unwrap_or}
use Rattle.std.specs.Io.KnownBytes.{IsAtEnd}
use Rattle.std.specs.Io.BufRead.{ends_with_byte}
use Rattle.outside.specs.Fault.{Rose}
use Rattle.marc_stream.specs.Pieces.{Item, items, items_behind, end_of, refusal_of, record_terminator}
use Rattle.marc_stream.specs.View.{View}
use Rattle.marc_stream.specs.Window.{Gives, ahead_of, given_of, most_of}

-- a file that is being cut
pub record Stream : Type 0 where
  -- whether the source tells its bytes
  pub tells : Bool
  -- the items that are still to come, where it does
  pub coming : List Item
  -- how many items were answered
  pub answered : ℕ
  -- the place behind the last of them
  pub offset : ℕ
  -- at most so many bytes stand behind that place
  pub most : ℕ
  -- how many bytes the source gave
  pub given : ℕ
  -- the bytes that the source has left, where it tells them
  pub left : Option (List ℕ)
  -- the source's faults so far
  pub faults : ℕ
  -- whether the end or a fault was answered
  pub over : Bool

-- the bytes, or none where they aren't told
abbrev pub told : Option (List ℕ) → List ℕ
told bytes = unwrap_or bytes []

-- what is still to come of a source, behind the items that were answered
abbrev pub stream_of : ℕ → Bool → View → Stream
stream_of answered over v = record {
  tells = is_some v.left;
  coming = items_behind answered v.offset (told (ahead_of v));
  answered = answered;
  offset = v.offset;
  most = most_of v;
  given = given_of v;
  left = v.left;
  faults = v.faults;
  over = over;
}

-- there are no more items than bytes, and no offset will pass a u64
pub record IsCounted (answered : ℕ) (v : View) : Type 0 where
  pub items : answered ≤ v.offset
  pub fits : v.offset + most_of v < 2 ^ 64

-- a source's file from its next byte on: all items of its bytes are to come
abbrev pub opened : Option (List ℕ) → ℕ → ℕ → Stream
opened left bound faults = record {
  tells = is_some left;
  coming = items (told left);
  answered = 0;
  offset = 0;
  most = bound;
  given = 0;
  left = left;
  faults = faults;
  over = false;
}

-- the source was read on, and its faults don't fall
pub record ReadsOn (old new : Stream) : Type 0 where
  pub gives : Gives old.left new.left old.given new.given
  pub tells : new.tells ≡ old.tells
  pub faults : old.faults ≤ new.faults

-- the next item was answered
pub record Answers (old new : Stream) (item : Item) : Type 0 where
  -- the item is the next, whatever the source tells: its number, its place, and what its bytes make of it
  pub ordinal : item.ordinal ≡ old.answered + 1
  pub place : old.offset ≤ item.offset
  pub refusal : item.refusal ≡ refusal_of item.bytes
  -- it is the first of the items to come, and the others are still to come
  pub coming : old.tells ≡ true → old.coming ≡ item ∷ new.coming
  pub answered : new.answered ≡ old.answered + 1
  pub offset : new.offset ≡ end_of item
  pub over : new.over ≡ false
  -- fewer bytes are ahead
  pub falls : new.most < old.most
  pub reads : ReadsOn old new

-- no item is left, and the source was read to its end
pub record Ends (old new : Stream) : Type 0 where
  pub coming : old.tells ≡ true → old.coming ≡ []
  pub read_all : IsAtEnd new.left
  pub answered : new.answered ≡ old.answered
  pub over : new.over ≡ true
  pub reads : ReadsOn old new

-- the item has its terminator, and ends within so many bytes of the file
pub record EndsWithin (given : ℕ) (item : Item) : Type 0 where
  pub ended : ends_with_byte record_terminator item.bytes ≡ true
  pub within : end_of item ≤ given

-- the source's count of faults rose, and no item that ends, with its terminator, within the bytes given is still to come
pub record Fails (old new : Stream) : Type 0 where
  pub rose : Rose old.faults new.faults
  pub coming : old.tells ≡ true → All (λ item. ¬ EndsWithin new.given item) old.coming
  pub answered : new.answered ≡ old.answered
  pub over : new.over ≡ true
  pub reads : ReadsOn old new
