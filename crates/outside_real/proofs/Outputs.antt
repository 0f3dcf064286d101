-- What an output leaves in a room that tells no file.
use Rattle.std.proofs.Common.{List, ℕ, None, refl}
use Rattle.outside.specs.Room.{IsUntouched, IsPut, IsPutOrNot, Untouched}
use Rattle.outside.proofs.Disks.{same_disk}
use Rattle.outside_real.specs.declared.room.FileRoom.{FileRoom}
use Rattle.outside_real.specs.View.{untold_disk, file_room_view}

module _ {R File Dir : Type 0} (old new : FileRoom R File Dir) (name : List ℕ) where
  pub untold_untouched : IsUntouched (file_room_view old) (file_room_view new) name
  untold_untouched = record { file = refl; is_log = refl; log = λ _. same_disk (untold_disk 0 0) }

  pub untold_put : IsPut (file_room_view old) (file_room_view new) name None
  untold_put = record { file = λ _. refl; no_log = refl }

  pub untold_put_or_not : IsPutOrNot (file_room_view old) (file_room_view new) name None
  untold_put_or_not = Untouched untold_untouched
