-- Lines of files and of bounds, one after the other.
use Rattle.std.proofs.Common.{◌≡◌, ◌∙◌, ℕ, ◌+◌, ◌<◌, List, [], ◌∷◌, ◌++◌, length, take, get_or, sym, ap, arith, append_assoc, append-nil, length-take}
use Rattle.std.proofs.lemmas.List.{take_more}
use Rattle.marc_types.specs.declared.key.Key.{Key}
use Rattle.command_words.specs.declared.library.Library.{Library}
use Rattle.split_command.specs.Console.{file_line, file_lines, bound_line, bound_lines}

taken : {X : Type 0} (xs : List X) (at : ℕ) → at < length xs → length (take at xs) ≡ at
taken xs at within = omega (arith, within, length-take at xs)

files_push : (number : ℕ) (libraries : List Library) (library : Library)
    → file_lines number (libraries ++ library ∷ []) ≡ file_lines number libraries ++ file_line (number + length libraries) library
files_push number [] library =
    let here : number ≡ number + 0 = omega arith in
    append-nil (file_line number library) ∙ ap (λ n. file_line n library) here
files_push number (first ∷ libraries) library =
    let here : number + 1 + length libraries ≡ number + length (first ∷ libraries) = omega arith in
    ap (λ l. file_line number first ++ l)
    (files_push (number + 1) libraries library ∙ ap (λ n. file_lines (number + 1) libraries ++ file_line n library) here)
    ∙ sym (append_assoc (file_line number first) (file_lines (number + 1) libraries) (file_line (number + length (first ∷ libraries)) library))

-- one file more
pub file_lines_more : (libraries : List Library) (at : ℕ) (library : Library) → at < length libraries → library ≡ get_or libraries at library
    → file_lines 0 (take (at + 1) libraries) ≡ file_lines 0 (take at libraries) ++ file_line at library
file_lines_more libraries at library within is =
    let same = taken libraries at within in
    let here : 0 + length (take at libraries) ≡ at = omega (arith, same) in
    ap (file_lines 0) (take_more libraries at library within ∙ ap (λ l. take at libraries ++ l ∷ []) (sym is))
    ∙ files_push 0 (take at libraries) library
    ∙ ap (λ n. file_lines 0 (take at libraries) ++ file_line n library) here

bounds_push : (part : ℕ) (bounds : List Key) (bound : Key)
    → bound_lines part (bounds ++ bound ∷ []) ≡ bound_lines part bounds ++ bound_line (part + length bounds) bound
bounds_push part [] bound =
    let here : part ≡ part + 0 = omega arith in
    append-nil (bound_line part bound) ∙ ap (λ n. bound_line n bound) here
bounds_push part (first ∷ bounds) bound =
    let here : part + 1 + length bounds ≡ part + length (first ∷ bounds) = omega arith in
    ap (λ l. bound_line part first ++ l)
    (bounds_push (part + 1) bounds bound ∙ ap (λ n. bound_lines (part + 1) bounds ++ bound_line n bound) here)
    ∙ sym (append_assoc (bound_line part first) (bound_lines (part + 1) bounds) (bound_line (part + length (first ∷ bounds)) bound))

-- one bound more
pub bound_lines_more : (bounds : List Key) (at : ℕ) (bound : Key) → at < length bounds → bound ≡ get_or bounds at bound
    → bound_lines 1 (take (at + 1) bounds) ≡ bound_lines 1 (take at bounds) ++ bound_line (at + 1) bound
bound_lines_more bounds at bound within is =
    let same = taken bounds at within in
    let here : 1 + length (take at bounds) ≡ at + 1 = omega (arith, same) in
    ap (bound_lines 1) (take_more bounds at bound within ∙ ap (λ b. take at bounds ++ b ∷ []) (sym is))
    ∙ bounds_push 1 (take at bounds) bound
    ∙ ap (λ n. bound_lines 1 (take at bounds) ++ bound_line n bound) here
