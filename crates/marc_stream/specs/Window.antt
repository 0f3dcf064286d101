-- What clauses see of a window on a source's bytes, and how its calls move it.
use Rattle.std.specs.Prelude.{◌≡◌, ◌≢◌, ℕ, ◌+◌, ◌-◌, ◌≤◌, ◌<◌, Bool, true, false, List, [], ◌∷◌, ◌++◌, length, take, drop, All, Option, Some, None, is_some, IfSome}
use Rattle.std.specs.Io.KnownBytes.{prepend_known, Consumes, IsAtEnd}
use Rattle.std.specs.Io.BufRead.{take_through, drop_through}
use Rattle.outside.specs.Fault.{Rose}
use Rattle.marc_types.specs.declared.refusal.Refusal.{Refusal}
use Rattle.marc_stream.specs.Pieces.{record_terminator, longest_piece, is_line_end, refusal_of}
use Rattle.marc_stream.specs.View.{View}
use Rattle.marc_stream.specs.declared.scan.Ending.{Ending}
use Rattle.marc_stream.specs.declared.scan.Ending.TheVariants.{At, Missing, Beyond}
use Rattle.marc_stream.specs.declared.scan.Cut.{Cut}
use Rattle.marc_stream.specs.declared.scan.Cut.TheVariants.{Piece, Refused}

-- the bytes that aren't taken yet, where the source tells them
abbrev pub ahead_of : View → Option (List ℕ)
ahead_of v = prepend_known v.buffered v.left

-- how many bytes the source gave
abbrev pub given_of : View → ℕ
given_of v = v.offset + length v.buffered

-- at most so many bytes aren't taken yet
abbrev pub most_of : View → ℕ
most_of v = v.bound + length v.buffered

-- the source gave some bytes, maybe none
pub record Gives (left left' : Option (List ℕ)) (given given' : ℕ) : Type 0 where
  pub bytes : List ℕ
  pub consumed : Consumes left left' bytes
  pub count : given' ≡ given + length bytes

-- these bytes were taken
pub record Moves (old new : View) (taken : List ℕ) : Type 0 where
  pub bytes : Consumes (ahead_of old) (ahead_of new) taken
  pub offset : new.offset ≡ old.offset + length taken
  pub most : most_of new + length taken ≤ most_of old
  pub faults : old.faults ≤ new.faults
  pub tells : is_some new.left ≡ is_some old.left
  pub gives : Gives old.left new.left (given_of old) (given_of new)

-- the new bytes begin with the old
pub record BeginsWith (new old : List ℕ) : Type 0 where
  pub more : List ℕ
  pub grown : new ≡ old ++ more

-- so many more bytes are buffered
pub record Grows (old new : List ℕ) (count : ℕ) : Type 0 where
  pub begins : BeginsWith new old
  pub longer : length new ≡ length old + count

-- no record ends in these bytes
abbrev pub EndsNone : List ℕ → Type 0
EndsNone bytes = All (λ b. b ≢ record_terminator) bytes

-- the bytes run through their first terminator
pub record IsEnded (bytes : List ℕ) : Type 0 where
  pub front : List ℕ
  pub ended : bytes ≡ front ++ record_terminator ∷ []
  pub none : EndsNone front

-- all bytes are carriage returns and line feeds
abbrev pub AreLineEnds : List ℕ → Type 0
AreLineEnds bytes = All (λ b. is_line_end b ≡ true) bytes

-- an item begins with these bytes
abbrev pub BeginsItem : List ℕ → Type 0
BeginsItem [] = ⊥
BeginsItem (b ∷ bytes) = is_line_end b ≡ false

-- the bytes and no more are an item, where these others follow
pub record IsItemBefore (bytes rest : List ℕ) : Type 0 where
  pub taken : take_through record_terminator (bytes ++ rest) ≡ bytes
  pub left : drop_through record_terminator (bytes ++ rest) ≡ rest

-- the source's count of faults rose, and no record ends in what it gave behind the old window's offset
pub record Blocks (old new : View) : Type 0 where
  pub rose : Rose old.faults new.faults
  pub taken : List ℕ
  pub moves : Moves old new taken
  pub none : EndsNone (taken ++ new.buffered)

-- how the item ends with which the buffered bytes begin
abbrev pub EndsAs : View → Ending → Type 0
EndsAs v (At len) = (len ≤ length v.buffered) × IsEnded (take len v.buffered)
EndsAs v Missing = EndsNone v.buffered × IsAtEnd v.left × (length v.buffered ≤ longest_piece)
EndsAs v Beyond = EndsNone v.buffered × (longest_piece < length v.buffered)

-- an item was taken, which began with the buffered bytes
pub record Skips (old new : View) : Type 0 where
  pub text : List ℕ
  pub moves : Moves old new text
  pub begins : BeginsWith text old.buffered
  pub whole : IfSome (ahead_of new) (IsItemBefore text)

-- line ends were taken, and then these bytes, which are an item
pub record CutsItem (old new : View) (text : List ℕ) (offset : ℕ) (refusal : Option Refusal) : Type 0 where
  pub line_ends : List ℕ
  pub moves : Moves old new (line_ends ++ text)
  pub skipped : AreLineEnds line_ends
  pub begins : BeginsItem text
  pub whole : IfSome (ahead_of new) (IsItemBefore text)
  pub place : offset ≡ old.offset + length line_ends
  pub reason : refusal ≡ refusal_of text

-- an item was cut; a piece's bytes are the last that were taken
abbrev pub Cuts : View → Cut → View → Type 0
Cuts old (Piece offset len) new =
    (len ≤ length new.behind) × CutsItem old new (drop (length new.behind - len) new.behind) offset None
Cuts old (Refused offset refusal) new = (text : List ℕ) × CutsItem old new text offset (Some refusal)

-- only line ends were left
pub record CutsNone (old new : View) : Type 0 where
  pub line_ends : List ℕ
  pub moves : Moves old new line_ends
  pub skipped : AreLineEnds line_ends
  pub none_left : IsAtEnd (ahead_of new)
  pub read_all : IsAtEnd new.left

-- line ends were taken, and an item begins where any byte is left
pub record SkipsLineEnds (old new : View) (found : Bool) : Type 0 where
  pub line_ends : List ℕ
  pub moves : Moves old new line_ends
  pub skipped : AreLineEnds line_ends
  pub begins : found ≡ true → BeginsItem new.buffered
  pub none : found ≡ false → (new.buffered ≡ []) × IsAtEnd new.left
