-- What a list of entries has under each name, after one of them changed or was added.
use Rattle.std.proofs.Common.{◌≡◌, ◌≢◌, ℕ, ◌<◌, List, [], ◌∷◌, ◌++◌, length, set, get_or, Option, Some, None, IfSome, IfNone, Bool, true, false, not, cond, refl, sym, ap, ◌∙◌, arith, subst, length-append, Result, Ok, Err, OnErr, true≢false}
use Rattle.std.specs.List.{find, position, position_or_len, slice_get}
use Rattle.std.specs.Option.{option_or}
use Rattle.std.proofs.lemmas.Option.{slice_get-get_or}
use Rattle.std.specs.Str.{bytes_eq}
use Rattle.std.specs.String.{string_bytes}
use Rattle.std.proofs.lemmas.Grind.{common_steps}
use Rattle.std.proofs.lemmas.List.Folds.{find-set, find_past, find-append, find_at, position_or_len_push}
use Rattle.std.proofs.lemmas.List.Sums.{prefix_len-le-length, passes_at_first}
use Rattle.std.proofs.lemmas.Slice.Eq.{bytes_eq-Decides}
use Rattle.outside.proofs.Places.{found_at, missing_at, not_both, slice_get_past}
use Rattle.outside_mem.specs.declared.files.MemFile.{MemFile}
use Rattle.outside_mem.specs.Files.{is_named, without_name, file_in, IsPlaceOf, IsNameless, IsBlank, ChangesFile}

pub place_found : (files : List MemFile) (name : List ℕ) (r : Option ℕ) → r ≡ position (is_named name) files → IfSome r (IsPlaceOf files name)
place_found files name None e = tt
place_found files name (Some i) e =
    let at = found_at (position_or_len (is_named name) files) (length files) _ (Some i) refl e in
    record { first = at.0; within = at.1 }

pub place_missing : (files : List MemFile) (name : List ℕ) (r : Option ℕ) → r ≡ position (is_named name) files → IfNone r (IsNameless files name)
place_missing files name None e = record { none = missing_at (position_or_len (is_named name) files) (length files) _ None (prefix_len-le-length (λ f. not (is_named name f)) files) refl e }
place_missing files name (Some i) e = tt

-- the entry at the place of a name has that name
place_is_named : (files : List MemFile) (name : List ℕ) (place : ℕ) (d : MemFile) → IsPlaceOf files name place → is_named name (get_or files place d) ≡ true
place_is_named files name place d at =
    let found : position_or_len (is_named name) files < length files = rw (← at.first) at.within in
    rw at.first (passes_at_first (is_named name) files d found)

-- an entry of one name hasn't another
named_apart : (name other : List ℕ) (file : MemFile) → other ≢ name → is_named name file ≡ true → is_named other file ≡ false
named_apart name other file differ named = not_both (string_bytes file.name) name other (is_named other file) refl differ ((bytes_eq-Decides (string_bytes file.name) name).0 named)

-- what is under the name whose place it is
pub file_in_place : (files : List MemFile) (name : List ℕ) (place : ℕ) (d : MemFile) → IsPlaceOf files name place → file_in files name ≡ without_name (Some (get_or files place d))
unfolding file_in
file_in_place files name place d at =
    ap without_name (find_at (is_named name) files ∙ sym (ap (slice_get files) at.first) ∙ slice_get-get_or files place d at.within)

-- the entry of a name changes, and keeps its name
pub file_in_changed : (files : List MemFile) (name : List ℕ) (place : ℕ) (file : MemFile) → IsPlaceOf files name place → is_named name file ≡ true
    → file_in (set files place file) name ≡ without_name (Some file)
unfolding file_in
file_in_changed files name place file at named = ap without_name (find-set (is_named name) files place file at.first at.within named)

-- and nothing else does
pub file_in_others : (files : List MemFile) (name other : List ℕ) (place : ℕ) (file : MemFile) → IsPlaceOf files name place → is_named name file ≡ true
    → other ≢ name → file_in (set files place file) other ≡ file_in files other
unfolding file_in
file_in_others files name other place file at named differ =
    ap without_name (find_past (is_named other) files place file file
    (named_apart name other (get_or files place file) differ (place_is_named files name place file at)) (named_apart name other file differ named))

entered : (found : Option MemFile) (file : MemFile) (b : Bool) → without_name (Some file) ≡ without_name None
    → without_name (option_or found (cond b (Some file) None)) ≡ without_name found
entered (Some other) file b blank = refl
entered None file true blank = blank
entered None file false blank = refl

-- a blank entry changes nothing
pub file_in_entered : (files : List MemFile) (name n : List ℕ) (file : MemFile) → IsBlank file name → file_in (files ++ file ∷ []) n ≡ file_in files n
unfolding file_in
file_in_entered files name n file is = ap without_name (find-append (is_named n) files (file ∷ [])) ∙ entered (find (is_named n) files) file (is_named n file) is.blank

-- it stands at the end
pub place_entered : (files : List MemFile) (name : List ℕ) (file : MemFile) → IsNameless files name → IsBlank file name → IsPlaceOf (files ++ file ∷ []) name (length files)
place_entered files name file nameless is =
    let named : is_named name file ≡ true = (let t = bytes_eq-Decides (string_bytes file.name) name in grind (arith, common_steps, is.named)) in
    let pushed = position_or_len_push (is_named name) files file in
    record { first = grind (arith, common_steps, pushed, nameless.none, named); within = omega (arith, length-append files (file ∷ [])) }

-- the entry at a place, and what is under its name
pub is_under : (files : List MemFile) (name : List ℕ) (place : ℕ) (old : MemFile) → IsPlaceOf files name place → old ≡ get_or files place old
    → file_in files name ≡ without_name (Some old)
is_under files name place old at is = file_in_place files name place old at ∙ ap (λ f. without_name (Some f)) (sym is)

-- the entry at a place changes, and keeps its name
pub changes_place : (files : List MemFile) (name : List ℕ) (place : ℕ) (old file : MemFile) → IsPlaceOf files name place → old ≡ get_or files place old
    → string_bytes file.name ≡ string_bytes old.name → ChangesFile files (set files place file) name (without_name (Some file))
changes_place files name place old file at is same =
    let kept : string_bytes file.name ≡ string_bytes (get_or files place old).name = same ∙ ap (λ f. string_bytes f.name) is in
    let named : is_named name file ≡ true = ap (λ own. bytes_eq own name) kept ∙ place_is_named files name place old at in
    record {
      here = file_in_changed files name place file at named;
      others = λ n differ. file_in_others files name n place file at named differ;
    }

-- only the calls that are to fail change
pub changes_fails : (files : List MemFile) (name : List ℕ) (place : ℕ) (old file : MemFile) (fails : List ℕ) → IsPlaceOf files name place
    → old ≡ get_or files place old → string_bytes file.name ≡ string_bytes old.name → file.fails.items ≡ fails → file.state ≡ old.state
    → file.opening_fails ≡ old.opening_fails → file.is_output ≡ old.is_output
    → ChangesFile files (set files place file) name (record (file_in files name) { fails = fails })
changes_fails files name place old file fails at is same now state opening output =
    let changed = changes_place files name place old file at is same in
    let content : without_name (Some file) ≡ record (file_in files name) { fails = fails } = rw (is_under files name place old at is, now, state, opening, output) refl in
    subst (ChangesFile files (set files place file) name) content changed

-- a fact that holds whatever the result is
pub on_err : {T E : Type 0} (r : Result T E) (P : Type 0) → P → OnErr r P
on_err (Ok x) P holds = tt
on_err (Err e) P holds = holds

-- an empty list has nothing under any name
pub file_in_none : (name : List ℕ) → file_in [] name ≡ without_name None
unfolding file_in
file_in_none name = refl

-- where no entry has a name, nothing is under it
pub file_in_nameless : (files : List MemFile) (name : List ℕ) → IsNameless files name → file_in files name ≡ without_name None
unfolding file_in
file_in_nameless files name is = ap without_name (find_at (is_named name) files ∙ ap (slice_get files) is.none ∙ slice_get_past files (length files) (omega arith))

-- what a change to itself of one name's file leaves
pub changes_nothing : (old new : List MemFile) (name : List ℕ) → ChangesFile old new name (file_in old name) → (n : List ℕ) → file_in new n ≡ file_in old n
changes_nothing old new name changed n = decided (bytes_eq n name) refl
  where
    decided : (b : Bool) → bytes_eq n name ≡ b → file_in new n ≡ file_in old n
    decided true same = rw ((bytes_eq-Decides n name).0 same) changed.here
    decided false differ = changed.others n (λ e. true≢false (sym ((bytes_eq-Decides n name).1 e) ∙ differ))
