-- What `next` answers, and what it leaves.
use Rattle.std.specs.Prelude.{ℕ, ◌≤◌, List, length, Some, None}
use Rattle.marc_types.specs.declared.refusal.Refusal.{Refusal}
use Rattle.marc_stream.specs.Pieces.{longest_piece}
use Rattle.marc_stream.specs.Stream.{Stream, Answers, Ends, Fails}
use Rattle.marc_stream.specs.declared.pieces.Next.{Next}
use Rattle.marc_stream.specs.declared.pieces.Next.TheVariants.{Piece, Refused, End, ReadFault}

-- a piece is answered with its bytes, which are at most 99,999
pub record GivesPiece (old new : Stream) (ordinal offset : ℕ) (bytes : List ℕ) : Type 0 where
  pub answers : Answers old new (record { ordinal = ordinal; offset = offset; bytes = bytes; refusal = None })
  pub short : length bytes ≤ longest_piece

-- what is refused is answered without its bytes
pub record GivesRefusal (old new : Stream) (ordinal offset : ℕ) (refusal : Refusal) : Type 0 where
  pub bytes : List ℕ
  pub answers : Answers old new (record { ordinal = ordinal; offset = offset; bytes = bytes; refusal = Some refusal })

-- the next item is a piece, refused, the end, or a fault of the source, and what is then left to come
abbrev pub NextGives : Stream → Next → Stream → Type 0
NextGives old (Piece ordinal offset bytes) new = GivesPiece old new ordinal offset bytes.now
NextGives old (Refused ordinal offset refusal) new = GivesRefusal old new ordinal offset refusal
NextGives old End new = Ends old new
NextGives old ReadFault new = Fails old new
