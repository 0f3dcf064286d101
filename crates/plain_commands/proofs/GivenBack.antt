-- The pieces that are given back.
use Rattle.std.proofs.Common.{◌≡◌, ◌∙◌, ℕ, ◌+◌, List, take, drop, sym, ap, append-nil, Some, None}
use Rattle.std.proofs.lemmas.List.{take-append-drop}
use Rattle.std.specs.Io.BufRead.{take_through}
use Rattle.memchr.specs.Find.{IsFirstByte, is_byte}
use Rattle.marc_stream.specs.Pieces.{record_terminator}
use Rattle.marc_stream.proofs.Scans.{ended_found, ends_none_found, item_ended, item_cut}

-- a search that finds a terminator
pub through_found : (bytes : List ℕ) (at : ℕ) → IsFirstByte (is_byte record_terminator) bytes (Some at) → take (at + 1) bytes ≡ take_through record_terminator bytes
through_found bytes at first =
    let ended = ended_found bytes at first.0 first.1 in
    sym (item_ended (take (at + 1) bytes) (drop (at + 1) bytes) ended).taken ∙ ap (take_through record_terminator) (take-append-drop (at + 1) bytes)

-- and one that finds none
pub through_none : (bytes : List ℕ) → IsFirstByte (is_byte record_terminator) bytes None → bytes ≡ take_through record_terminator bytes
through_none bytes first =
    sym (item_cut bytes (ends_none_found bytes first)).taken ∙ ap (take_through record_terminator) (append-nil bytes)
