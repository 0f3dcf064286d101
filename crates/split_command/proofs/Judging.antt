-- A file's pieces, and what a share of them is by itself.
use Rattle.std.proofs.Common.{◌≡◌, ◌∙◌, ℕ, ◌+◌, ◌==◌, List, [], ◌∷◌, ◌++◌, map, length, refl, sym, ap, subst, append_assoc, append-nil}
use Rattle.std.specs.List.{All, flat_map}
use Rattle.std.proofs.lemmas.List.Elements.{All-nil, All-cons, All-head, All-tail, All-push, All-filter}
use Rattle.marc_types.specs.declared.key.Key.{Key}
use Rattle.marc_types.specs.declared.entry.Entry.{Entry}
use Rattle.marc_stream.specs.Pieces.{Item, refusal_of, items, items_behind}
use Rattle.reading.specs.Preparing.{MakesEntry}
use Rattle.file_entries.specs.Files.{IsJudged, NoItem, Accepts, Refuses, listed}
use Rattle.file_entries.specs.declared.refused.RefusedItem.{RefusedItem}
use Rattle.split_command.specs.Cut.{IsCut}
use Rattle.split_command.specs.Cut as cut
use Rattle.split_command.specs.Shares.{Piece, share_of, own, dealt, entries_of, numbered}
use Rattle.split_command.proofs.Pieces.{IsCutOff, items_cut_off, IsWhole, whole_of, itemized, items_of_pieces}

entries_more : (pieces : List Piece) (p : Piece) → entries_of (pieces ++ p ∷ []) ≡ entries_of pieces ++ p.entry ∷ []
entries_more [] p = refl
entries_more (first ∷ pieces) p = ap (λ l. first.entry ∷ l) (entries_more pieces p)

-- a cut is a judgement
pub cut_judged : (library : List ℕ) (all : List Item) (pieces : List Piece) (refused : List RefusedItem) → IsCut library all pieces refused
    → IsJudged library 0 all (entries_of pieces) refused
cut_judged library _ _ _ cut.NoItem = NoItem
cut_judged library _ _ _ (cut.Makes all pieces refused item e before is) =
    subst (λ accepted. IsJudged library 0 (all ++ item ∷ []) accepted refused)
    (sym (entries_more pieces (record { bytes = item.bytes; entry = e })))
    (Accepts all (entries_of pieces) refused item e (cut_judged library all pieces refused before) is)
cut_judged library _ _ _ (cut.Refuses all pieces refused item refusal before why) =
    Refuses all (entries_of pieces) refused item refusal (cut_judged library all pieces refused before) why

-- ---- each piece of a cut

-- it is whole, and makes its entry
record IsPiece (library : List ℕ) (p : Piece) : Type 0 where
  whole : IsWhole p.bytes
  makes : MakesEntry library p.bytes 0 p.entry.ordinal p.entry

-- the ordinal of an entry is that of its item
own_ordinal : (library bytes : List ℕ) (ordinal : ℕ) (e : Entry) → MakesEntry library bytes 0 ordinal e → MakesEntry library bytes 0 e.ordinal e
own_ordinal library bytes ordinal e makes = subst (λ n. MakesEntry library bytes 0 n e) (sym (ap (λ (f : Entry). f.ordinal) makes.is_new)) makes

all_front : {X : Type 0} (P : X → Type 0) (xs ys : List X) → All P (xs ++ ys) → All P xs
all_front P [] ys all = All-nil P
all_front P (x ∷ xs) ys all = All-cons P x xs (All-head P x (xs ++ ys) all) (all_front P xs ys (All-tail P x (xs ++ ys) all))

all_last : {X : Type 0} (P : X → Type 0) (xs : List X) (x : X) → All P (xs ++ x ∷ []) → P x
all_last P [] x all = All-head P x [] all
all_last P (first ∷ xs) x all = all_last P xs x (All-tail P first (xs ++ x ∷ []) all)

all_pieces : (library : List ℕ) (all : List Item) (pieces : List Piece) (refused : List RefusedItem) → All IsCutOff all → IsCut library all pieces refused
    → All (IsPiece library) pieces
all_pieces library _ _ _ are cut.NoItem = All-nil (IsPiece library)
all_pieces library _ _ _ are (cut.Makes all pieces refused item e before is) =
    All-push (IsPiece library) pieces (record { bytes = item.bytes; entry = e })
    (all_pieces library all pieces refused (all_front IsCutOff all (item ∷ []) are) before)
    (record { whole = whole_of item (all_last IsCutOff all item are) is.piece; makes = own_ordinal library item.bytes item.ordinal e is.makes })
all_pieces library _ _ _ are (cut.Refuses all pieces refused item refusal before why) =
    all_pieces library all pieces refused (all_front IsCutOff all (item ∷ []) are) before

-- ---- pieces as a file of their own

judged_both : (library : List ℕ) (xs ys : List Item) (es fs : List Entry) (r s : List RefusedItem) → IsJudged library 0 xs es r → IsJudged library 0 ys fs s
    → IsJudged library 0 (xs ++ ys) (es ++ fs) (r ++ s)
judged_both library xs _ es _ r _ first NoItem =
    subst (λ l. IsJudged library 0 l (es ++ []) (r ++ [])) (sym (append-nil xs))
    (subst (λ l. IsJudged library 0 xs l (r ++ [])) (sym (append-nil es))
    (subst (λ l. IsJudged library 0 xs es l) (sym (append-nil r)) first))
judged_both library xs _ es _ r _ first (Accepts ys fs s item e second is) =
    subst (λ l. IsJudged library 0 l (es ++ (fs ++ e ∷ [])) (r ++ s)) (append_assoc xs ys (item ∷ []))
    (subst (λ l. IsJudged library 0 ((xs ++ ys) ++ item ∷ []) l (r ++ s)) (append_assoc es fs (e ∷ []))
    (Accepts (xs ++ ys) (es ++ fs) (r ++ s) item e (judged_both library xs ys es fs r s first second) is))
judged_both library xs _ es _ r _ first (Refuses ys fs s item refusal second why) =
    subst (λ l. IsJudged library 0 l (es ++ fs) (r ++ (s ++ listed item refusal ∷ []))) (append_assoc xs ys (item ∷ []))
    (subst (λ l. IsJudged library 0 ((xs ++ ys) ++ item ∷ []) (es ++ fs) l) (append_assoc r s (listed item refusal ∷ []))
    (Refuses (xs ++ ys) (es ++ fs) (r ++ s) item refusal (judged_both library xs ys es fs r s first second) why))

-- a piece with another number
renumbered : (library bytes : List ℕ) (ordinal number : ℕ) (e : Entry) → MakesEntry library bytes 0 ordinal e
    → MakesEntry library bytes 0 number (record e { ordinal = number })
renumbered library bytes ordinal number e makes = record {
  read = makes.read;
  taken = makes.taken;
  is_new = ap (λ (f : Entry). record f { ordinal = number }) makes.is_new;
}

abbrev bytes_of : List Piece → List (List ℕ)
bytes_of pieces = map (λ p. p.bytes) pieces

pieces_judged : (library : List ℕ) (before offset : ℕ) (pieces : List Piece) → All (IsPiece library) pieces
    → IsJudged library 0 (itemized before offset (bytes_of pieces)) (numbered (before + 1) (entries_of pieces)) []
pieces_judged library before offset [] are = NoItem
pieces_judged library before offset (p ∷ pieces) are =
    let first = All-head (IsPiece library) p pieces are in
    let e = record p.entry { ordinal = before + 1 } in
    let item : Item = record { ordinal = before + 1; offset = offset; bytes = p.bytes; refusal = refusal_of p.bytes } in
    judged_both library (item ∷ []) (itemized (before + 1) (offset + length p.bytes) (bytes_of pieces)) (e ∷ []) (numbered (before + 1 + 1) (entries_of pieces)) [] []
    (Accepts [] [] [] item e NoItem (record { piece = first.whole.sound; makes = renumbered library p.bytes p.entry.ordinal (before + 1) p.entry first.makes }))
    (pieces_judged library (before + 1) (offset + length p.bytes) pieces (All-tail (IsPiece library) p pieces are))

all_whole : (library : List ℕ) (pieces : List Piece) → All (IsPiece library) pieces → All IsWhole (bytes_of pieces)
all_whole library [] are = All-nil IsWhole
all_whole library (p ∷ pieces) are =
    let first = All-head (IsPiece library) p pieces are in
    All-cons IsWhole p.bytes (bytes_of pieces) first.whole (all_whole library pieces (All-tail (IsPiece library) p pieces are))

same_bytes : (pieces : List Piece) → flat_map (λ p. p) (bytes_of pieces) ≡ flat_map (λ (p : Piece). p.bytes) pieces
same_bytes [] = refl
same_bytes (p ∷ pieces) = ap (λ l. p.bytes ++ l) (same_bytes pieces)

-- a share is judged as what is its own
pub share_judged : (library bytes : List ℕ) (pieces : List Piece) (refused : List RefusedItem) (bounds : List Key) (share : ℕ)
    → IsCut library (items bytes) pieces refused
    → IsJudged library 0 (items (dealt bounds share pieces)) (numbered 1 (entries_of (own bounds share pieces))) []
share_judged library bytes pieces refused bounds share is =
    let all = all_pieces library (items bytes) pieces refused (items_cut_off bytes) is in
    let mine = own bounds share pieces in
    let are : All (IsPiece library) mine = All-filter (λ (p : Piece). share_of bounds p.entry == share) (IsPiece library) pieces all in
    let same : items (dealt bounds share pieces) ≡ itemized 0 0 (bytes_of mine) =
    ap (items_behind 0 0) (sym (same_bytes mine)) ∙ items_of_pieces 0 0 (bytes_of mine) (all_whole library mine are) in
    subst (λ l. IsJudged library 0 l (numbered 1 (entries_of mine)) []) (sym same) (pieces_judged library 0 0 mine are)
