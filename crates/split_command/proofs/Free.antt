-- Whether files of the names of a split are there.
use Rattle.std.proofs.Common.{◌≡◌, ℕ, ◌+◌, ◌<◌, true, false, List, [], ◌∷◌, Option, Some, None, is_some, IsSome, refl, sym, subst, arith}
use Rattle.std.specs.List.{All}
use Rattle.std.proofs.lemmas.List.Elements.{All-cons, All-append, All-push, Contains-append_left, Contains-append_right, Contains-push}
use Rattle.outside.specs.Room.{RoomView}
use Rattle.split_command.specs.Names.{share_name, parts_name, names_from, names_of_files, split_names}
use Rattle.split_command.specs.Standing.{OneIsThere}
use Rattle.split_command.proofs.Naming.{shares_next, files_next, share_among, file_among}

abbrev pub IsFree : RoomView → List ℕ → Type 0
IsFree room name = room.file name ≡ None

some_there : (file : Option (List ℕ)) → true ≡ is_some file → IsSome file
some_there None is = cc
some_there (Some bytes) is = refl

none_there : (file : Option (List ℕ)) → false ≡ is_some file → file ≡ None
none_there None is = refl
none_there (Some bytes) is = cc

module _ (room : RoomView) (prefix : List ℕ) where
  -- one share more isn't there
  pub shares_more : (file share : ℕ) → (room.tells ≡ true → All (IsFree room) (names_from prefix file 0 share))
      → (room.tells ≡ true → false ≡ is_some (room.file (share_name prefix share file))) → room.tells ≡ true
      → All (IsFree room) (names_from prefix file 0 (share + 1))
  shares_more file share so_far here tells =
      subst (All (IsFree room)) (sym (shares_next prefix file share))
      (All-push (IsFree room) (names_from prefix file 0 share) (share_name prefix share file) (so_far tells)
      (none_there (room.file (share_name prefix share file)) (here tells)))

  -- a share is there
  pub share_there : (file parts share : ℕ) → share < parts + 1 → (room.tells ≡ true → true ≡ is_some (room.file (share_name prefix share file)))
      → OneIsThere room (names_from prefix file 0 (parts + 1))
  share_there file parts share within here = record {
    name = share_name prefix share file;
    among = share_among prefix file 0 (parts + 1) share (omega arith) (omega (arith, within));
    there = λ tells. some_there (room.file (share_name prefix share file)) (here tells);
  }

  -- one file more has none that is there
  pub files_free_more : (parts file : ℕ) → (room.tells ≡ true → All (IsFree room) (names_of_files prefix parts 0 file))
      → (room.tells ≡ true → All (IsFree room) (names_from prefix file 0 (parts + 1))) → room.tells ≡ true
      → All (IsFree room) (names_of_files prefix parts 0 (file + 1))
  files_free_more parts file so_far here tells =
      subst (All (IsFree room)) (sym (files_next prefix parts file))
      (All-append (IsFree room) (names_of_files prefix parts 0 file) (names_from prefix file 0 (parts + 1)) (so_far tells) (here tells))

  -- one of a file's is there
  pub file_there : (parts files file : ℕ) → file < files → OneIsThere room (names_from prefix file 0 (parts + 1)) → OneIsThere room (names_of_files prefix parts 0 files)
  file_there parts files file within one = record {
    name = one.name;
    among = file_among one.name prefix parts 0 files file (omega arith) (omega (arith, within)) one.among;
    there = one.there;
  }

  -- PREFIX.parts is there
  pub parts_there : (parts files : ℕ) → (room.tells ≡ true → true ≡ is_some (room.file (parts_name prefix))) → OneIsThere room (split_names prefix parts files)
  parts_there parts files here = record {
    name = parts_name prefix;
    among = Contains-append_left (parts_name prefix ∷ []) (names_of_files prefix parts 0 files) (parts_name prefix) (Contains-push [] (parts_name prefix));
    there = λ tells. some_there (room.file (parts_name prefix)) (here tells);
  }

  -- one of the files' is there
  pub one_there : (parts files : ℕ) → OneIsThere room (names_of_files prefix parts 0 files) → OneIsThere room (split_names prefix parts files)
  one_there parts files one = record {
    name = one.name;
    among = Contains-append_right (parts_name prefix ∷ []) (names_of_files prefix parts 0 files) one.name one.among;
    there = one.there;
  }

  -- none of the files' is there, nor PREFIX.parts
  pub none_is_there : (parts files : ℕ) → (room.tells ≡ true → false ≡ is_some (room.file (parts_name prefix)))
      → (room.tells ≡ true → All (IsFree room) (names_of_files prefix parts 0 files)) → room.tells ≡ true → All (IsFree room) (split_names prefix parts files)
  none_is_there parts files first others tells =
      All-cons (IsFree room) (parts_name prefix) (names_of_files prefix parts 0 files) (none_there (room.file (parts_name prefix)) (first tells)) (others tells)
