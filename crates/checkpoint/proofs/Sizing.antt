-- Bytes behind their length.
use Rattle.std.proofs.Common.{◌≡◌, ◌∙◌, ℕ, ◌^◌, ◌<◌, List, ◌++◌, length, take, drop, sym, ap, arith, length-append}
use Rattle.std.proofs.lemmas.List.{take-append-drop}
use Rattle.std.specs.Int.{w32, to_be_bytes}
use Rattle.checkpoint.specs.Format.{sized}
use Rattle.checkpoint.specs.Reading.{AreNotSized}
use Rattle.entry_record.proofs.Spelled.{short_once}
use Rattle.checkpoint.proofs.Once.{sized_parts}

pub sized_there : (bytes behind part rest : List ℕ) (n : ℕ) → bytes ≡ to_be_bytes w32 n ++ behind → part ≡ take n behind → rest ≡ drop n behind → length part ≡ n
    → sized part ++ rest ≡ bytes
sized_there bytes behind part rest n first front back len =
    sized_parts part rest
    ∙ ap (λ k. to_be_bytes w32 k ++ (part ++ rest)) len
    ∙ ap (λ xs. to_be_bytes w32 n ++ xs) (ap (λ xs. xs ++ rest) front ∙ ap (λ xs. take n behind ++ xs) back ∙ take-append-drop n behind)
    ∙ sym first

pub no_size : (bytes : List ℕ) → length bytes < 4 → AreNotSized bytes
no_size bytes short = λ part rest fits is.
    omega (arith, short, ap length (sym (sized_parts part rest) ∙ is), length-append (to_be_bytes w32 (length part)) (part ++ rest))

pub too_short : (bytes behind : List ℕ) (n : ℕ) → bytes ≡ to_be_bytes w32 n ++ behind → n < 2 ^ 32 → length behind < n → AreNotSized bytes
too_short bytes behind n first small short = λ part rest fits is.
    let same = short_once (length part) n (part ++ rest) behind fits small (sym (sized_parts part rest) ∙ is ∙ first) in
    omega (arith, short, same.0, ap length same.1, length-append part rest)
