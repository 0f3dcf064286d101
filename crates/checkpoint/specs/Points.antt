-- Checkpoints: which parts in a row are a whole one, and the last whole one of a log. The rules are this project's own.
use Rattle.std.specs.Prelude.{◌≡◌, ℕ, ◌==◌, true, ◌&&◌, List, [], ◌∷◌, ◌++◌, length, map, fold, Option, Some, None, if◌then◌else◌}
use Rattle.std.specs.List.{flat_map}
use Rattle.std.specs.Option.{option_or, option_map}
use Rattle.commit_journal.specs.declared.frame.Frame.{Frame}
use Rattle.commit_journal.specs.Log.{payloads_of}
use Rattle.catalogue_rules.specs.State.{State}
use Rattle.kept_rows.specs.declared.row.KeptRow.{KeptRow}
use Rattle.kept_rows.specs.Rows.{state_of_rows, are_in_order}
use Rattle.checkpoint.specs.Parts.{IsPartOf, ArePartsOf}
use Rattle.checkpoint.specs.declared.part.Part.{Part}
use Rattle.checkpoint.specs.declared.part.Part.TheVariants.{Begin, Rows, End}
use Rattle.checkpoint.specs.declared.point.Point.{Point}
use Rattle.checkpoint.specs.declared.point.SoFar.{SoFar}
use Rattle.checkpoint.specs.declared.fault.PointFault.{PointFault}
use Rattle.checkpoint.specs.declared.fault.PointFault.TheVariants.{BadPoint, NoMemory}

-- the checkpoint of so many entries and these rows
abbrev pub point_of : ℕ → List KeptRow → Point
point_of entries rows = record { entries = entries; rows = rows }

-- the end of a checkpoint makes a point of the records since its beginning, where they are so many and in order
abbrev pub whole_point : ℕ → ℕ → Option (List KeptRow) → Option Point
whole_point entries count None = None
whole_point entries count (Some rows) = if (length rows == count) && are_in_order rows then Some (point_of entries rows) else None

-- nothing is begun, and no checkpoint is whole
abbrev pub nothing_yet : SoFar
nothing_yet = record { begun = None; last = None }

-- What one more part makes of what is known so far: the records since a beginning that has no end yet, and the last whole checkpoint.
-- Records that nothing began are passed over.
unfoldable pub read_on : SoFar → Part → SoFar
read_on so_far Begin = record { begun = Some []; last = so_far.last }
read_on so_far (Rows rows) = record { begun = option_map (λ before. before ++ rows) so_far.begun; last = so_far.last }
read_on so_far (End entries count) = record { begun = None; last = option_or (whole_point entries count so_far.begun) so_far.last }

-- what is known behind all parts
abbrev pub read_all : List Part → SoFar
read_all parts = fold read_on nothing_yet parts

-- the last whole checkpoint
abbrev pub last_point : List Part → Option Point
last_point parts = (read_all parts).last

-- a checkpoint that is not ended
abbrev pub half_checkpoint : List (List KeptRow) → List Part
half_checkpoint chunks = Begin ∷ map (λ rows. Rows rows) chunks

-- a whole checkpoint in any number of payloads: a beginning, records in order, and an end that counts them
pub record IsCheckpoint (entries : ℕ) (rows : List KeptRow) (parts : List Part) : Type 0 where
  pub chunks : List (List KeptRow)
  pub rows_are : flat_map (λ rows. rows) chunks ≡ rows
  pub in_order : are_in_order rows ≡ true
  pub parts_are : parts ≡ half_checkpoint chunks ++ End entries (length rows) ∷ []

-- a whole checkpoint of a state behind so many entries
pub record IsSnapshot (entries : ℕ) (s : State) (parts : List Part) : Type 0 where
  pub rows : List KeptRow
  pub state_is : state_of_rows rows ≡ s
  pub whole : IsCheckpoint entries rows parts

-- a whole checkpoint stands somewhere among parts
pub record HasCheckpoint (parts : List Part) (entries : ℕ) (rows : List KeptRow) : Type 0 where
  pub before : List Part
  pub checkpoint : List Part
  pub behind : List Part
  pub split : parts ≡ before ++ (checkpoint ++ behind)
  pub whole : IsCheckpoint entries rows checkpoint

-- the frames are parts, and this is their last whole checkpoint
pub record IsPointOf (frames : List Frame) (found : Option Point) : Type 0 where
  pub parts : List Part
  pub are : ArePartsOf (payloads_of frames) parts
  pub last : found ≡ last_point parts

-- the first frame whose payload is no part has its gate at that place
pub record IsBadFrame (frames : List Frame) (place : ℕ) : Type 0 where
  pub front : List Frame
  pub bad : Frame
  pub behind : List Frame
  pub parts : List Part
  pub split : frames ≡ front ++ bad ∷ behind
  pub are : ArePartsOf (payloads_of front) parts
  pub none : (part : Part) → IsPartOf bad.payload part → ⊥
  pub at : bad.gate ≡ place

-- the first frame that is no part is at this place, or memory ran out
abbrev pub IsUnread : List Frame → PointFault → Type 0
IsUnread frames (BadPoint place) = IsBadFrame frames place
IsUnread frames NoMemory = Unit {0}

-- the frame's payload is no part, and its gate is at that place; want of memory says nothing
abbrev pub IsUnreadFrame : Frame → PointFault → Type 0
IsUnreadFrame frame (BadPoint place) = ((part : Part) → IsPartOf frame.payload part → ⊥) × (frame.gate ≡ place)
IsUnreadFrame frame NoMemory = Unit {0}
