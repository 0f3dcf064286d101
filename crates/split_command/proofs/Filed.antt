-- All shares of a file, some at a time, and those of all files.
use Rattle.std.proofs.Common.{◌≡◌, ◌≢◌, ◌∙◌, ◌⊎◌, inl, inr, ℕ, zero, suc, ◌+◌, ◌≤◌, ◌<◌, ◌^◌, Bool, true, false, nat_lt, List, [], ◌∷◌, length, Option, Some, None, IsSome, refl, sym, subst, arith, ltb-true, ltb-false}
use Rattle.std.specs.Prelude.{slice_get, IsSomeAnd}
use Rattle.command_words.specs.declared.library.Library.{Library}
use Rattle.marc_stream.specs.Pieces.{items}
use Rattle.outside.specs.Room.{RoomView, SameBut}
use Rattle.outside.proofs.Counts.{rose_since}
use Rattle.outside.proofs.Rooms.{same_but_more, same_but_then}
use Rattle.split_command.specs.Names.{share_name, names_from, names_of_files}
use Rattle.split_command.specs.Cut.{FileCut, IsCut, AreCut}
use Rattle.split_command.specs.Outputs.{AreWhole, AreOldOrWhole, IsPutOrOld}
use Rattle.split_command.specs.Groups.{HasCut, due_of, IsOutside, IsFileWhole, IsFileLeft, IsGroupWhole, IsGroupLeft, IsGroupCause, IsFilesCause, AreNotWritten, AreFilesWhole, AreFilesLeft}
use Rattle.split_command.specs.declared.plan.Plan.{Plan}
use Rattle.split_command.specs.declared.fault.SplitFault.{SplitFault}
use Rattle.split_command.specs.declared.fault.SplitFault.TheVariants.{Input, Output, Memory}
use Rattle.split_command.proofs.Naming.{name_injective, none_of_names, none_within, none_there, none_of_file, none_of_fewer, share_none, among_more, file_among}

-- ---- a share among some

pub whole_at : (due : ℕ → List ℕ) (new : RoomView) (prefix : List ℕ) (file first many share : ℕ) → first ≤ share → share < first + many
    → AreWhole due first new (names_from prefix file first many) → new.file (share_name prefix share file) ≡ Some (due share)
whole_at due new prefix file first zero share low high whole = absurd (omega (arith, low, high))
whole_at due new prefix file first (suc many) share low high whole =
    at (nat_lt first share) (ltb-true first share) (ltb-false first share)
    (λ later. whole_at due new prefix file (first + 1) many share later (omega (arith, high)) whole.1)
  where
    at : (behind : Bool) → (behind ≡ true → first < share) → (behind ≡ false → share ≤ first)
        → (first + 1 ≤ share → new.file (share_name prefix share file) ≡ Some (due share)) → new.file (share_name prefix share file) ≡ Some (due share)
    at true less most rest = rest (omega (arith, less refl))
    at false less most rest =
        let same : first ≡ share = omega (arith, low, most refl) in
        subst (λ s. new.file (share_name prefix s file) ≡ Some (due s)) same whole.0

pub left_at : (due : ℕ → List ℕ) (old new : RoomView) (prefix : List ℕ) (file first many share : ℕ) → first ≤ share → share < first + many
    → AreOldOrWhole due first old new (names_from prefix file first many) → IsPutOrOld old new (share_name prefix share file) (Some (due share))
left_at due old new prefix file first zero share low high left = absurd (omega (arith, low, high))
left_at due old new prefix file first (suc many) share low high left =
    at (nat_lt first share) (ltb-true first share) (ltb-false first share)
    (λ later. left_at due old new prefix file (first + 1) many share later (omega (arith, high)) left.1)
  where
    at : (behind : Bool) → (behind ≡ true → first < share) → (behind ≡ false → share ≤ first)
        → (first + 1 ≤ share → IsPutOrOld old new (share_name prefix share file) (Some (due share))) → IsPutOrOld old new (share_name prefix share file) (Some (due share))
    at true less most rest = rest (omega (arith, less refl))
    at false less most rest =
        let same : first ≡ share = omega (arith, low, most refl) in
        subst (λ s. IsPutOrOld old new (share_name prefix s file) (Some (due s))) same left.0

-- ---- some shares more

-- a share that is none of these has its file as before
share_elsewhere : (old new : RoomView) (prefix : List ℕ) (file first many share : ℕ) → file < 2 ^ 64 → first + many < 2 ^ 64 → share < 2 ^ 64
    → (share < first) ⊎ (first + many ≤ share) → SameBut old new (names_from prefix file first many)
    → new.file (share_name prefix share file) ≡ old.file (share_name prefix share file)
share_elsewhere old new prefix file first many share small few in_range outside same =
    same.files (share_name prefix share file)
    (none_of_names (share_name prefix share file) prefix file first many
    (λ other low high e.
    let is = (name_injective prefix share other file file in_range (omega (arith, high, few)) small small e).0 in
    never outside is low high))
  where
    never : {other : ℕ} → (share < first) ⊎ (first + many ≤ share) → share ≡ other → first ≤ other → other < first + many → ⊥
    never (inl less) is low high = omega (arith, less, is, low)
    never (inr more) is low high = omega (arith, more, is, high)

module _ (old now new : RoomView) (plan : Plan) (library : Library) (file first many : ℕ) (small : file < 2 ^ 64) (few : first + many < 2 ^ 64) (parts_few : plan.parts ≤ 1024) where
  pub shares_apart : SameBut old now (names_from plan.prefix file 0 first) → SameBut now new (names_from plan.prefix file first many)
      → SameBut old new (names_from plan.prefix file 0 (first + many))
  shares_apart before step =
      same_but_then old now new (names_from plan.prefix file 0 (first + many))
      (same_but_more old now (names_from plan.prefix file 0 first) (names_from plan.prefix file 0 (first + many))
      (λ n none. none_within n plan.prefix file 0 (first + many) 0 first (omega arith) (omega arith) none) before)
      (same_but_more now new (names_from plan.prefix file first many) (names_from plan.prefix file 0 (first + many))
      (λ n none. none_within n plan.prefix file 0 (first + many) first many (omega arith) (omega arith) none) step)

  -- the input is as it was
  cut_still : SameBut old now (names_from plan.prefix file 0 first) → first ≤ plan.parts + 1 → IsOutside plan library file → (cut : FileCut)
      → HasCut old library cut → HasCut now library cut
  cut_still before within outside cut has =
      let same = before.files library.file (none_within library.file plan.prefix file 0 (plan.parts + 1) 0 first (omega arith) (omega (arith, within)) outside) in
      subst (λ f. IsSomeAnd f (λ bytes. IsCut library.code (items bytes) cut.pieces cut.refused)) (sym same) has

  module _ (before : SameBut old now (names_from plan.prefix file 0 first)) (step : SameBut now new (names_from plan.prefix file first many)) (within : first + many ≤ plan.parts + 1)
      (so_far : IsFileWhole old now plan library file first) where
    kept_before : (share : ℕ) → share < first → new.file (share_name plan.prefix share file) ≡ now.file (share_name plan.prefix share file)
    kept_before share less = share_elsewhere now new plan.prefix file first many share small few (omega (arith, less, few)) (inl less) step

    -- these are whole too
    pub whole_more : IsGroupWhole now new plan library (record { file = file; first = first; many = many }) → IsFileWhole old new plan library file (first + many)
    whole_more group cut tells outside has share less = at (nat_lt share first) (ltb-true share first) (ltb-false share first)
      where
        at : (earlier : Bool) → (earlier ≡ true → share < first) → (earlier ≡ false → first ≤ share) → new.file (share_name plan.prefix share file) ≡ Some (due_of plan cut share)
        at true low high = kept_before share (low refl) ∙ so_far cut tells outside has share (low refl)
        at false low high =
            whole_at (due_of plan cut) new plan.prefix file first many share (high refl) less
            (group cut (before.tells ∙ tells) (cut_still before (omega (arith, within)) outside cut has))

    -- these are whole or as they were, and those behind them as they were
    pub left_here : IsGroupLeft now new plan library (record { file = file; first = first; many = many }) → IsFileLeft old new plan library file (plan.parts + 1)
    left_here group cut tells outside has share less = at (nat_lt share first) (ltb-true share first) (ltb-false share first)
      where
        name : List ℕ
        name = share_name plan.prefix share file

        fits_share : share < 2 ^ 64
        fits_share = omega (arith, less, parts_few)

        old_kept : first ≤ share → share < 2 ^ 64 → now.file name ≡ old.file name
        old_kept high fits = share_elsewhere old now plan.prefix file 0 first share small (omega (arith, few)) fits (inr (omega (arith, high))) before

        one : first ≤ share → share < 2 ^ 64 → IsPutOrOld now new name (Some (due_of plan cut share)) → IsPutOrOld old new name (Some (due_of plan cut share))
        one high fits (inl put) = inl put
        one high fits (inr kept) = inr (kept ∙ old_kept high fits)

        behind : first ≤ share → (in_group : Bool) → (in_group ≡ true → share < first + many) → (in_group ≡ false → first + many ≤ share)
            → IsPutOrOld old new name (Some (due_of plan cut share))
        behind high true low over =
            one high (omega (arith, low refl, few))
            (left_at (due_of plan cut) now new plan.prefix file first many share high (low refl)
            (group cut (before.tells ∙ tells) (cut_still before (omega (arith, within)) outside cut has)))
        behind high false low over =
            inr (share_elsewhere now new plan.prefix file first many share small few fits_share (inr (over refl)) step ∙ old_kept high fits_share)

        at : (earlier : Bool) → (earlier ≡ true → share < first) → (earlier ≡ false → first ≤ share) → IsPutOrOld old new name (Some (due_of plan cut share))
        at true low high = inl (kept_before share (low refl) ∙ so_far cut tells outside has share (low refl))
        at false low high = behind (high refl) (nat_lt share (first + many)) (ltb-true share (first + many)) (ltb-false share (first + many))

-- a file that was written whole is left so
pub left_of_whole : (old new : RoomView) (plan : Plan) (library : Library) (file end : ℕ) → IsFileWhole old new plan library file end → IsFileLeft old new plan library file end
left_of_whole old new plan library file end whole cut tells outside has share less = inl (whole cut tells outside has share less)

-- no share was written yet
pub whole_none : (old now : RoomView) (plan : Plan) (library : Library) (file : ℕ) → IsFileWhole old now plan library file 0
whole_none old now plan library file cut tells outside has share less = absurd (omega (arith, less))

-- what keeps all but some shares keeps all but more
pub file_within : (old new : RoomView) (prefix : List ℕ) (file many all : ℕ) → many ≤ all → SameBut old new (names_from prefix file 0 many) → SameBut old new (names_from prefix file 0 all)
file_within old new prefix file many all less same =
    same_but_more old new (names_from prefix file 0 many) (names_from prefix file 0 all)
    (λ n none. none_within n prefix file 0 all 0 many (omega arith) (omega (arith, less)) none) same

-- why a group couldn't be written is why its file couldn't
pub file_cause : (old now new : RoomView) (input prefix : List ℕ) (file first many all : ℕ) (names : List (List ℕ)) (why : SplitFault) → SameBut old now names → first + many ≤ all
    → IsGroupCause input (names_from prefix file first many) now new why → IsGroupCause input (names_from prefix file 0 all) old new why
file_cause old now new input prefix file first many all names Input before within cause =
    rose_since (old.in_faults input) (now.in_faults input) (new.in_faults input) (before.ins input) cause
file_cause old now new input prefix file first many all names Output before within cause = record {
  name = cause.name;
  among = among_more cause.name prefix file first many all within cause.among;
  rose = rose_since (old.out_faults cause.name) (now.out_faults cause.name) (new.out_faults cause.name) (before.outs cause.name) cause.rose;
}
file_cause old now new input prefix file first many all names Memory before within cause = tt

-- and why a file couldn't be is why all couldn't
pub files_cause : (old now new : RoomView) (libraries : List Library) (library : Library) (prefix : List ℕ) (parts file : ℕ) (names : List (List ℕ)) (why : SplitFault)
    → SameBut old now names → slice_get libraries file ≡ Some library → file < length libraries
    → IsGroupCause library.file (names_from prefix file 0 (parts + 1)) now new why → IsFilesCause libraries (names_of_files prefix parts 0 (length libraries)) old new why
files_cause old now new libraries library prefix parts file names Input before named within cause = record {
  index = file;
  library = library;
  named = named;
  rose = rose_since (old.in_faults library.file) (now.in_faults library.file) (new.in_faults library.file) (before.ins library.file) cause;
}
files_cause old now new libraries library prefix parts file names Output before named within cause = record {
  name = cause.name;
  among = file_among cause.name prefix parts 0 (length libraries) file (omega arith) (omega (arith, within)) cause.among;
  rose = rose_since (old.out_faults cause.name) (now.out_faults cause.name) (new.out_faults cause.name) (before.outs cause.name) cause.rose;
}
files_cause old now new libraries library prefix parts file names Memory before named within cause = tt

-- ---- one file after the other

-- what stands at a place of a list, with its cut
at_place : (room : RoomView) (libraries : List Library) (cuts : List FileCut) (file : ℕ) (library : Library) (cut : FileCut) → AreCut room libraries cuts
    → slice_get libraries file ≡ Some library → slice_get cuts file ≡ Some cut → HasCut room library cut
at_place room [] [] file library cut are named got = cc
at_place room [] (c ∷ cuts) file library cut are named got = absurd are
at_place room (l ∷ libraries) [] file library cut are named got = absurd are
at_place room (l ∷ libraries) (c ∷ cuts) zero library cut are named got =
    let one : l ≡ library = cc in
    let other : c ≡ cut = cc in
    subst (λ (x : Library). HasCut room x cut) one (subst (λ (y : FileCut). HasCut room l y) other are.0)
at_place room (l ∷ libraries) (c ∷ cuts) (suc file) library cut are named got = at_place room libraries cuts file library cut are.1 named got

cut_is_there : (room : RoomView) (library : Library) (cut : FileCut) → HasCut room library cut → IsSome (room.file library.file)
cut_is_there room library cut has = at (room.file library.file) has
  where
    at : (file : Option (List ℕ)) → IsSomeAnd file (λ bytes. IsCut library.code (items bytes) cut.pieces cut.refused) → IsSome file
    at None missing = absurd missing
    at (Some bytes) is = refl

in_list : (room : RoomView) (libraries : List Library) (cuts : List FileCut) (file : ℕ) (cut : FileCut) → AreCut room libraries cuts → slice_get cuts file ≡ Some cut
    → file < length libraries
in_list room [] [] file cut are got = cc
in_list room [] (c ∷ cuts) file cut are got = absurd are
in_list room (l ∷ libraries) [] file cut are got = absurd are
in_list room (l ∷ libraries) (c ∷ cuts) zero cut are got = omega arith
in_list room (l ∷ libraries) (c ∷ cuts) (suc file) cut are got = let less = in_list room libraries cuts file cut are.1 got in omega (arith, less)

-- each share of the files before this one is whole
abbrev pub AreWholeTo : RoomView → RoomView → Plan → List Library → ℕ → Type 0
AreWholeTo old new plan libraries end = (cuts : List FileCut) → old.tells ≡ true → AreCut old libraries cuts → AreNotWritten old plan (length libraries)
    → (file share : ℕ) (cut : FileCut) → file < end → slice_get cuts file ≡ Some cut → share ≤ plan.parts
    → new.file (share_name plan.prefix share file) ≡ Some (due_of plan cut share)

module _ (old now new : RoomView) (plan : Plan) (libraries : List Library) (file : ℕ) (library : Library) (named : slice_get libraries file ≡ Some library)
    (within : file < length libraries) (fits : length libraries < 2 ^ 64) (few : plan.parts ≤ 1024)
    (before : SameBut old now (names_of_files plan.prefix plan.parts 0 file)) where
  -- the input is as it was, and none of its outputs
  moved : (cuts : List FileCut) → AreCut old libraries cuts → AreNotWritten old plan (length libraries) → (cut : FileCut) → slice_get cuts file ≡ Some cut
      → HasCut now library cut × IsOutside plan library file
  moved cuts are free cut got =
      let has = at_place old libraries cuts file library cut are named got in
      let apart = none_there old library.file (names_of_files plan.prefix plan.parts 0 (length libraries)) free (cut_is_there old library cut has) in
      let same = before.files library.file (none_of_fewer library.file plan.prefix plan.parts 0 file (length libraries) (omega (arith, within)) apart) in (
        subst (λ f. IsSomeAnd f (λ bytes. IsCut library.code (items bytes) cut.pieces cut.refused)) (sym same) has,
        none_of_file library.file plan.prefix plan.parts 0 (length libraries) file (omega arith) (omega (arith, within)) apart,
      )

  other_file : (share other : ℕ) → share ≤ plan.parts → other < length libraries → other ≢ file → SameBut now new (names_from plan.prefix file 0 (plan.parts + 1))
      → new.file (share_name plan.prefix share other) ≡ now.file (share_name plan.prefix share other)
  other_file share other few_share there differ step =
      step.files (share_name plan.prefix share other)
      (none_of_names (share_name plan.prefix share other) plan.prefix file 0 (plan.parts + 1)
      (λ s low high e.
      differ (name_injective plan.prefix share s other file (omega (arith, few_share, few)) (omega (arith, high, few)) (omega (arith, there, fits)) (omega (arith, within, fits)) e).1))

  not_yet : (share other : ℕ) → share ≤ plan.parts → other < length libraries → file ≤ other → now.file (share_name plan.prefix share other) ≡ old.file (share_name plan.prefix share other)
  not_yet share other few_share there behind =
      before.files (share_name plan.prefix share other)
      (share_none plan.prefix plan.parts share other 0 file (omega (arith, few)) (omega (arith, few_share, few)) (omega (arith, there, fits)) (omega (arith, within, fits)) (omega (arith, behind)))

  module _ (step : SameBut now new (names_from plan.prefix file 0 (plan.parts + 1))) (so_far : AreWholeTo old now plan libraries file) where
    -- this file is whole too
    pub files_more : IsFileWhole now new plan library file (plan.parts + 1) → AreWholeTo old new plan libraries (file + 1)
    files_more one cuts tells are free other share cut less got few_share = at (nat_lt other file) (ltb-true other file) (ltb-false other file)
      where
        there : other < length libraries
        there = omega (arith, less, within)

        at : (earlier : Bool) → (earlier ≡ true → other < file) → (earlier ≡ false → file ≤ other) → new.file (share_name plan.prefix share other) ≡ Some (due_of plan cut share)
        at true low high =
            let first = low refl in
            other_file share other few_share there (λ same. omega (arith, same, first)) step ∙ so_far cuts tells are free other share cut first got few_share
        at false low high =
            let last = high refl in
            let same : file ≡ other = omega (arith, less, last) in
            let is = moved cuts are free cut (subst (λ n. slice_get cuts n ≡ Some cut) (sym same) got) in
            subst (λ n. new.file (share_name plan.prefix share n) ≡ Some (due_of plan cut share)) same
            (one cut (before.tells ∙ tells) is.1 is.0 share (omega (arith, few_share)))

    -- this file is left in part, and those behind it as they were
    pub files_left : IsFileLeft now new plan library file (plan.parts + 1) → AreFilesLeft old new plan libraries
    files_left one cuts tells are free other share cut got few_share = at (nat_lt other file) (ltb-true other file) (ltb-false other file)
      where
        name : List ℕ
        name = share_name plan.prefix share other

        there : other < length libraries
        there = in_list old libraries cuts other cut are got

        since : file ≤ other → IsPutOrOld now new name (Some (due_of plan cut share)) → IsPutOrOld old new name (Some (due_of plan cut share))
        since behind (inl put) = inl put
        since behind (inr kept) = inr (kept ∙ not_yet share other few_share there behind)

        here : file ≡ other → IsPutOrOld old new name (Some (due_of plan cut share))
        here same =
            let is = moved cuts are free cut (subst (λ n. slice_get cuts n ≡ Some cut) (sym same) got) in
            since (omega (arith, same)) (subst (λ n. IsPutOrOld now new (share_name plan.prefix share n) (Some (due_of plan cut share))) same
            (one cut (before.tells ∙ tells) is.1 is.0 share (omega (arith, few_share))))

        behind : (later : Bool) → (later ≡ true → file < other) → (later ≡ false → other ≤ file) → file ≤ other → IsPutOrOld old new name (Some (due_of plan cut share))
        behind true more less most =
            let last = more refl in
            inr (other_file share other few_share there (λ same. omega (arith, same, last)) step ∙ not_yet share other few_share there most)
        behind false more less most = here (let last = less refl in omega (arith, last, most))

        at : (earlier : Bool) → (earlier ≡ true → other < file) → (earlier ≡ false → file ≤ other) → IsPutOrOld old new name (Some (due_of plan cut share))
        at true low high =
            let first = low refl in
            inl (other_file share other few_share there (λ same. omega (arith, same, first)) step ∙ so_far cuts tells are free other share cut first got few_share)
        at false low high = behind (nat_lt file other) (ltb-true file other) (ltb-false file other) (high refl)

    pub files_apart : SameBut old new (names_of_files plan.prefix plan.parts 0 (file + 1))
    files_apart =
        same_but_then old now new (names_of_files plan.prefix plan.parts 0 (file + 1))
        (same_but_more old now (names_of_files plan.prefix plan.parts 0 file) (names_of_files plan.prefix plan.parts 0 (file + 1))
        (λ n none. none_of_fewer n plan.prefix plan.parts 0 file (file + 1) (omega arith) none) before)
        (same_but_more now new (names_from plan.prefix file 0 (plan.parts + 1)) (names_of_files plan.prefix plan.parts 0 (file + 1))
        (λ n none. none_of_file n plan.prefix plan.parts 0 (file + 1) file (omega arith) (omega arith) none) step)

    pub files_in_part : SameBut old new (names_of_files plan.prefix plan.parts 0 (length libraries))
    files_in_part =
        same_but_more old new (names_of_files plan.prefix plan.parts 0 (file + 1)) (names_of_files plan.prefix plan.parts 0 (length libraries))
        (λ n none. none_of_fewer n plan.prefix plan.parts 0 (file + 1) (length libraries) (omega (arith, within)) none) files_apart

-- before the first file
pub whole_to_none : (old now : RoomView) (plan : Plan) (libraries : List Library) → AreWholeTo old now plan libraries 0
whole_to_none old now plan libraries cuts tells are free file share cut less got few_share = absurd (omega (arith, less))

-- all files are whole
pub files_whole : (old new : RoomView) (plan : Plan) (libraries : List Library) → AreWholeTo old new plan libraries (length libraries) → AreFilesWhole old new plan libraries
files_whole old new plan libraries to cuts tells are free file share cut got few_share =
    to cuts tells are free file share cut (in_list old libraries cuts file cut are got) got few_share

pub files_left_whole : (old new : RoomView) (plan : Plan) (libraries : List Library) → AreFilesWhole old new plan libraries → AreFilesLeft old new plan libraries
files_left_whole old new plan libraries whole cuts tells are free file share cut got few_share = inl (whole cuts tells are free file share cut got few_share)
