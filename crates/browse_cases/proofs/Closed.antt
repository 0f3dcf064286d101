-- What is put into a room is no open name.
use Rattle.std.proofs.Common.{◌≡◌, ◌∙◌, ℕ, Bool, true, false, true≢false, List, refl, sym, ap, None}
use Rattle.std.specs.Str.{bytes_eq}
use Rattle.marc_types.specs.Order.{text_Decides}
use Rattle.outside_mem.specs.Files.{NamedFile}
use Rattle.outside_mem.specs.Room.{file_under, open_sort, ChangesUnder}
use Rattle.outside_mem.specs.declared.room.MemRoom.{MemRoom}

closed_at : (b : Bool) (old new : MemRoom) (name n : List ℕ) (file : NamedFile) → (b ≡ true → n ≡ name) → (n ≡ name → b ≡ true)
    → open_sort file ≡ None → ChangesUnder old new name file → open_sort (file_under old n) ≡ None
    → open_sort (file_under new n) ≡ None
closed_at true old new name n file same back free changes was =
    ap (λ m. open_sort (file_under new m)) (same refl) ∙ ap open_sort changes.here ∙ free
closed_at false old new name n file same back free changes was =
    ap open_sort (changes.others n (λ e. absurd (true≢false (sym (back e))))) ∙ was

pub still_closed : (old new : MemRoom) (name : List ℕ) (file : NamedFile) → open_sort file ≡ None → ChangesUnder old new name file
    → ((n : List ℕ) → open_sort (file_under old n) ≡ None) → (n : List ℕ) → open_sort (file_under new n) ≡ None
still_closed old new name file free changes was n =
    let same = text_Decides n name in
    closed_at (bytes_eq n name) old new name n file same.0 same.1 free changes (was n)
