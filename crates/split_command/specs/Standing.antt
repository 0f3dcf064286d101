-- Whether files of some names are there.
use Rattle.std.specs.Prelude.{◌≡◌, ℕ, Bool, true, false, List, None, IsSome, All, Contains}
use Rattle.outside.specs.Room.{RoomView}

-- a file of one of these names is there, as far as the room tells its files
pub record OneIsThere (room : RoomView) (names : List (List ℕ)) : Type 0 where
  pub name : List ℕ
  pub among : Contains names name
  pub there : room.tells ≡ true → IsSome (room.file name)

-- no file of these names is there, as far as the room tells its files; or one is
abbrev pub TellsFree : RoomView → List (List ℕ) → Bool → Type 0
TellsFree room names true = room.tells ≡ true → All (λ name. room.file name ≡ None) names
TellsFree room names false = OneIsThere room names
