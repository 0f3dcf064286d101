-- The pieces of a file, and a file that is made of some of them.
use Rattle.std.proofs.Common.{◌≡◌, ◌≢◌, ◌∙◌, ◌⊎◌, inl, inr, ℕ, zero, suc, ◌+◌, ◌-◌, ◌==◌, Bool, true, false, List, [], ◌∷◌, length, Some, None, refl, sym, ap, subst, arith, eqb-true, true≢false}
use Rattle.std.specs.Prelude.{if◌then◌else◌, nat_lt}
use Rattle.std.specs.Io.BufRead.{take_through, drop_through, ends_with_byte}
use Rattle.std.specs.List.{All, flat_map}
use Rattle.std.proofs.lemmas.List.Elements.{All-nil, All-cons, All-head, All-tail}
use Rattle.marc_types.specs.declared.refusal.Refusal.TheVariants.{Overlong, Unfinished}
use Rattle.marc_stream.specs.Pieces.{Item, record_terminator, longest_piece, is_line_end, skip_line_ends, refusal_of, item_at, end_of, unless_none, first_items, items_behind, items}
use Rattle.marc_stream.specs.Window.{BeginsItem, IsEnded, EndsNone}
use Rattle.marc_stream.proofs.Scans.{item_ended, none_ends_with}
use Rattle.marc_stream.proofs.Items.{items_cut, items_none}

-- ---- an item of a file

-- it begins with no line end, has its bytes through the first terminator, and is refused for these bytes alone
pub record IsCutOff (item : Item) : Type 0 where
  pub begins : BeginsItem item.bytes
  pub through : take_through record_terminator item.bytes ≡ item.bytes
  pub reason : item.refusal ≡ refusal_of item.bytes

through_again : (bytes : List ℕ) → take_through record_terminator (take_through record_terminator bytes) ≡ take_through record_terminator bytes
through_again [] = refl
through_again (b ∷ bytes) = at (b == record_terminator) refl (through_again bytes)
  where
    at : (test : Bool) → (b == record_terminator) ≡ test → take_through record_terminator (take_through record_terminator bytes) ≡ take_through record_terminator bytes
        → take_through record_terminator (if test then b ∷ [] else b ∷ take_through record_terminator bytes) ≡ (if test then b ∷ [] else b ∷ take_through record_terminator bytes)
    at true is again = rw is refl
    at false is again = rw is (ap (λ l. b ∷ l) again)

-- what is left behind line ends begins with none
skipped_begins : (bytes start : List ℕ) (b : ℕ) → skip_line_ends bytes ≡ b ∷ start → is_line_end b ≡ false
skipped_begins [] start b same = cc
skipped_begins (c ∷ bytes) start b same = at (is_line_end c) refl (skipped_begins bytes start b) same
  where
    at : (test : Bool) → is_line_end c ≡ test → (skip_line_ends bytes ≡ b ∷ start → is_line_end b ≡ false) → (if test then skip_line_ends bytes else c ∷ bytes) ≡ b ∷ start → is_line_end b ≡ false
    at true is further rest = further rest
    at false is further rest = let first : c ≡ b = cc in subst (λ x. is_line_end x ≡ false) first is

begins_through : (b : ℕ) (start : List ℕ) → is_line_end b ≡ false → BeginsItem (take_through record_terminator (b ∷ start))
begins_through b start other = at (b == record_terminator)
  where
    at : (test : Bool) → BeginsItem (if test then b ∷ [] else b ∷ take_through record_terminator start)
    at true = other
    at false = other

all_cut_off : (most before offset : ℕ) (bytes : List ℕ) → All IsCutOff (first_items most before offset bytes)
unfolding first_items
all_cut_off zero before offset bytes = All-nil IsCutOff
all_cut_off (suc most) before offset bytes = at (skip_line_ends bytes) refl (λ place rest. all_cut_off most (before + 1) place rest)
  where
    at : (start : List ℕ) → skip_line_ends bytes ≡ start → ((place : ℕ) (rest : List ℕ) → All IsCutOff (first_items most (before + 1) place rest))
        → All IsCutOff (unless_none start
        (item_at (before + 1) (offset + (length bytes - length start)) (take_through record_terminator start)
        ∷ first_items most (before + 1) (end_of (item_at (before + 1) (offset + (length bytes - length start)) (take_through record_terminator start))) (drop_through record_terminator start)))
    at [] same others = All-nil IsCutOff
    at (b ∷ start) same others =
        let item = item_at (before + 1) (offset + (length bytes - length (b ∷ start))) (take_through record_terminator (b ∷ start)) in
        All-cons IsCutOff item _
        (record { begins = begins_through b start (skipped_begins bytes start b same); through = through_again (b ∷ start); reason = refl })
        (others (end_of item) (drop_through record_terminator (b ∷ start)))

-- each item of a file is so
pub items_cut_off : (bytes : List ℕ) → All IsCutOff (items bytes)
unfolding items_behind
items_cut_off bytes = all_cut_off (length bytes) 0 0 bytes

-- ---- a piece

-- it begins with no line end, and its terminator is its last byte alone
pub record IsWhole (bytes : List ℕ) : Type 0 where
  pub begins : BeginsItem bytes
  pub ended : IsEnded bytes
  pub sound : refusal_of bytes ≡ None

-- there is no terminator, or the first one ends a record
none_or_ended : (bytes : List ℕ) → EndsNone bytes ⊎ IsEnded (take_through record_terminator bytes)
none_or_ended [] = inl (All-nil (λ b. b ≢ record_terminator))
none_or_ended (b ∷ bytes) = at (b == record_terminator) refl (none_or_ended bytes)
  where
    other : (b == record_terminator) ≡ false → b ≢ record_terminator
    other is same = let both : (record_terminator == record_terminator) ≡ false = subst (λ x. (x == record_terminator) ≡ false) same is in cc

    at : (test : Bool) → (b == record_terminator) ≡ test → EndsNone bytes ⊎ IsEnded (take_through record_terminator bytes)
        → EndsNone (b ∷ bytes) ⊎ IsEnded (if test then b ∷ [] else b ∷ take_through record_terminator bytes)
    at true is either = inr (record { front = []; ended = ap (λ x. x ∷ []) (eqb-true b record_terminator is); none = All-nil (λ x. x ≢ record_terminator) })
    at false is (inl none) = inl (All-cons (λ x. x ≢ record_terminator) b bytes (other is) none)
    at false is (inr found) = inr (record {
      front = b ∷ found.front;
      ended = ap (λ l. b ∷ l) found.ended;
      none = All-cons (λ x. x ≢ record_terminator) b found.front (other is) found.none;
    })

sound_ends : (long ends : Bool) → (if long then Some Overlong else if ends then None else Some Unfinished) ≡ None → ends ≡ true
sound_ends true ends is = cc
sound_ends false true is = refl
sound_ends false false is = cc

-- an item that isn't refused is a whole piece
pub whole_of : (item : Item) → IsCutOff item → item.refusal ≡ None → IsWhole item.bytes
whole_of item cut none =
    let sound : refusal_of item.bytes ≡ None = sym cut.reason ∙ none in
    let last : ends_with_byte record_terminator item.bytes ≡ true =
    sound_ends (nat_lt longest_piece (length item.bytes)) (ends_with_byte record_terminator item.bytes) sound in
    record {
      begins = cut.begins;
      ended = found (none_or_ended item.bytes) last;
      sound = sound;
    }
  where
    found : EndsNone item.bytes ⊎ IsEnded (take_through record_terminator item.bytes) → ends_with_byte record_terminator item.bytes ≡ true → IsEnded item.bytes
    found (inl ends_none) last = absurd (true≢false (sym last ∙ none_ends_with item.bytes ends_none))
    found (inr ended) last = subst IsEnded cut.through ended

-- ---- a file that is made of pieces

-- pieces as items of a file that has no more, behind so many others and from that place on
abbrev pub itemized : ℕ → ℕ → List (List ℕ) → List Item
itemized before offset [] = []
itemized before offset (p ∷ ps) = item_at (before + 1) offset p ∷ itemized (before + 1) (offset + length p) ps

-- the items of such a file are its pieces
pub items_of_pieces : (before offset : ℕ) (ps : List (List ℕ)) → All IsWhole ps → items_behind before offset (flat_map (λ p. p) ps) ≡ itemized before offset ps
items_of_pieces before offset [] whole = items_none before offset [] (All-nil (λ b. is_line_end b ≡ true))
items_of_pieces before offset (p ∷ ps) whole =
    let first = All-head IsWhole p ps whole in
    let rest = flat_map (λ q. q) ps in
    let here : offset + 0 ≡ offset = omega arith in
    items_cut before offset [] p rest (All-nil (λ b. is_line_end b ≡ true)) first.begins (item_ended p rest first.ended)
    ∙ ap (λ place. item_at (before + 1) place p ∷ items_behind (before + 1) (place + length p) rest) here
    ∙ ap (λ l. item_at (before + 1) offset p ∷ l) (items_of_pieces (before + 1) (offset + length p) ps (All-tail IsWhole p ps whole))
