-- The names of what a split writes. The rules are this project's own.
use Rattle.std.specs.Prelude.{ℕ, zero, suc, ◌+◌, List, [], ◌∷◌, ◌++◌, codes}
use Rattle.std.specs.Fmt.{decimal}

-- Of a file, what a split deals out is numbered: 0 are its authorities, and the share of each part has the part's number and one more.
-- A share's name has this word.
abbrev pub share_word : ℕ → List ℕ
share_word zero = codes "authorities"
share_word (suc part) = decimal part

-- the name of a share of the file with that number: `PREFIX.authorities.FILE.mrc`, or `PREFIX.PART.FILE.mrc`
unfoldable pub share_name : List ℕ → ℕ → ℕ → List ℕ
share_name prefix share file = prefix ++ codes "." ++ share_word share ++ codes "." ++ decimal file ++ codes ".mrc"

-- the name of what says how the parts were cut: `PREFIX.parts`
unfoldable pub parts_name : List ℕ → List ℕ
parts_name prefix = prefix ++ codes ".parts"

-- the names of so many shares of a file, from that share on
abbrev pub names_from : List ℕ → ℕ → ℕ → ℕ → List (List ℕ)
names_from prefix file share zero = []
names_from prefix file share (suc more) = share_name prefix share file ∷ names_from prefix file (share + 1) more

-- the names of all shares of so many files, for that many parts, from that file on
abbrev pub names_of_files : List ℕ → ℕ → ℕ → ℕ → List (List ℕ)
names_of_files prefix parts file zero = []
names_of_files prefix parts file (suc more) = names_from prefix file 0 (parts + 1) ++ names_of_files prefix parts (file + 1) more

-- the names of all that a split of so many files into that many parts writes
abbrev pub split_names : List ℕ → ℕ → ℕ → List (List ℕ)
split_names prefix parts files = parts_name prefix ∷ names_of_files prefix parts 0 files
