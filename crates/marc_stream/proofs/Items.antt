-- The items of bytes, one item at a time.
use Rattle.std.proofs.Common.{◌≡◌, ◌≢◌, ℕ, zero, suc, ◌+◌, ◌-◌, ◌≤◌, ◌<◌, ◌==◌, Bool, true, false, List, [], ◌∷◌, ◌++◌, length, take, drop, get_or, Option, Some, None, is_some, IfSome, refl, sym, ap, ◌∙◌, append_assoc, append-nil, length-append, length-take, length-drop, arith, subst, eqb-true, ltb-true}
use Rattle.std.specs.Prelude.{if◌then◌else◌}
use Rattle.std.specs.Io.KnownBytes.{Consumes, IsAtEnd, prepend_known}
use Rattle.std.specs.Io.BufRead.{take_through, drop_through, ends_with_byte}
use Rattle.std.specs.List.{All}
use Rattle.std.proofs.lemmas.List.{get_or-take, get_or-drop, get_or_append_left, take_at, drop_at}
use Rattle.std.proofs.lemmas.List.Elements.{All-nil, All-cons, All-head, All-tail, All-get_or, All-from_get_or, All-weaker}
use Rattle.std.proofs.lemmas.Bool.{and_parts}
use Rattle.marc_stream.specs.Pieces.{Item, record_terminator, is_line_end, skip_line_ends, item_at, end_of, unless_none, first_items, items_behind}
use Rattle.marc_stream.specs.Stream.{EndsWithin, told}
use Rattle.marc_stream.specs.Window.{AreLineEnds, BeginsItem, IsItemBefore, EndsNone}
use Rattle.marc_stream.proofs.Scans.{begins_append}

-- ---- what is skipped and what is taken

skip_is_drop_when : (test : Bool) (b : ℕ) (bytes : List ℕ) → skip_line_ends bytes ≡ drop (length bytes - length (skip_line_ends bytes)) bytes
    → length (skip_line_ends bytes) ≤ length bytes
    → (let start = if test then skip_line_ends bytes else b ∷ bytes in (start ≡ drop (length (b ∷ bytes) - length start) (b ∷ bytes)) × (length start ≤ length (b ∷ bytes)))
skip_is_drop_when true b bytes same shorter =
    let count : length (b ∷ bytes) - length (skip_line_ends bytes) ≡ suc (length bytes - length (skip_line_ends bytes)) = omega arith in
    (same ∙ ap (λ n. drop n (b ∷ bytes)) (sym count), omega arith)
skip_is_drop_when false b bytes same shorter =
    let count : length (b ∷ bytes) - length (b ∷ bytes) ≡ 0 = omega arith in
    (ap (λ n. drop n (b ∷ bytes)) (sym count), omega arith)

-- what is left behind the line ends is the end of the bytes
pub skip_is_drop : (bytes : List ℕ) → (skip_line_ends bytes ≡ drop (length bytes - length (skip_line_ends bytes)) bytes) × (length (skip_line_ends bytes) ≤ length bytes)
skip_is_drop [] = (refl, omega arith)
skip_is_drop (b ∷ bytes) = let before = skip_is_drop bytes in skip_is_drop_when (is_line_end b) b bytes before.0 before.1

through_when : (test : Bool) (b : ℕ) (bytes : List ℕ) → take_through record_terminator bytes ++ drop_through record_terminator bytes ≡ bytes
    → (if test then b ∷ [] else b ∷ take_through record_terminator bytes) ++ (if test then bytes else drop_through record_terminator bytes) ≡ b ∷ bytes
through_when true b bytes same = refl
through_when false b bytes same = ap (λ l. b ∷ l) same

-- the bytes through the first terminator, and the bytes behind it
pub take_through-drop_through : (bytes : List ℕ) → take_through record_terminator bytes ++ drop_through record_terminator bytes ≡ bytes
take_through-drop_through [] = refl
take_through-drop_through (b ∷ bytes) = through_when (b == record_terminator) b bytes (take_through-drop_through bytes)

some_when : (test : Bool) (b : ℕ) (bytes : List ℕ) → 0 < length (if test then b ∷ [] else b ∷ take_through record_terminator bytes)
some_when true b bytes = omega arith
some_when false b bytes = omega arith

take_through_some : (bytes : List ℕ) → 0 < length bytes → 0 < length (take_through record_terminator bytes)
take_through_some [] some = some
take_through_some (b ∷ bytes) some = some_when (b == record_terminator) b bytes

-- a rest is shorter than what it is left of
rest_shorter : (bytes : List ℕ) → 0 < length bytes → length (drop_through record_terminator bytes) < length bytes
rest_shorter bytes some =
    omega (
      arith,
      take_through_some bytes some,
      ap length (take_through-drop_through bytes),
      length-append (take_through record_terminator bytes) (drop_through record_terminator bytes),
    )

-- ---- one item and those behind it

unless_some : (start : List ℕ) (items : List Item) → 0 < length start → unless_none start items ≡ items
unless_some [] items some = absurd (omega arith)
unless_some (b ∷ bytes) items some = refl

same_unless : (start : List ℕ) (xs ys : List Item) → (0 < length start → xs ≡ ys) → unless_none start xs ≡ unless_none start ys
same_unless [] xs ys same = refl
same_unless (b ∷ bytes) xs ys same = same (omega arith)

-- a greater bound on the number of items makes no difference
pub first_items-enough : (m n before offset : ℕ) (bytes : List ℕ) → length bytes ≤ m → length bytes ≤ n → first_items m before offset bytes ≡ first_items n before offset bytes
unfolding first_items
first_items-enough zero zero before offset bytes enough also = refl
first_items-enough zero (suc n) before offset [] enough also = refl
first_items-enough zero (suc n) before offset (b ∷ bytes) enough also = absurd (omega arith)
first_items-enough (suc m) zero before offset [] enough also = refl
first_items-enough (suc m) zero before offset (b ∷ bytes) enough also = absurd (omega arith)
first_items-enough (suc m) (suc n) before offset bytes enough also =
    let start = skip_line_ends bytes in
    let item = item_at (before + 1) (offset + (length bytes - length start)) (take_through record_terminator start) in
    same_unless start _ _
    (λ some.
    let shorter : length (drop_through record_terminator start) < length bytes = omega (arith, rest_shorter start some, (skip_is_drop bytes).1) in
    ap (λ l. item ∷ l) (first_items-enough m n (before + 1) (end_of item) (drop_through record_terminator start) (omega arith) (omega arith)))

-- the first item, and the others
first_items_at : (most before offset : ℕ) (bytes start text rest : List ℕ) → skip_line_ends bytes ≡ start → take_through record_terminator start ≡ text
    → drop_through record_terminator start ≡ rest → 0 < length start
    → first_items (suc most) before offset bytes ≡ item_at (before + 1) (offset + (length bytes - length start)) text
    ∷ first_items most (before + 1) (offset + (length bytes - length start) + length text) rest
unfolding first_items
first_items_at most before offset bytes start text rest skipped taken left some = rw (skipped, taken, left) (unless_some start _ some)

skip_line_ends_all : (ends start : List ℕ) → AreLineEnds ends → BeginsItem start → skip_line_ends (ends ++ start) ≡ start
skip_line_ends_all [] [] are begins = absurd begins
skip_line_ends_all [] (b ∷ bytes) are begins = rw begins refl
skip_line_ends_all (e ∷ ends) start are begins =
    let test : is_line_end e ≡ true = All-head (λ b. is_line_end b ≡ true) e ends are in
    rw test (skip_line_ends_all ends start (All-tail (λ b. is_line_end b ≡ true) e ends are) begins)

pub begins_some : (bytes : List ℕ) → BeginsItem bytes → 0 < length bytes
begins_some [] begins = absurd begins
begins_some (b ∷ bytes) begins = omega arith

-- line ends, an item, and the rest
pub items_cut : (before offset : ℕ) (ends text rest : List ℕ) → AreLineEnds ends → BeginsItem text → IsItemBefore text rest
    → items_behind before offset (ends ++ (text ++ rest)) ≡ item_at (before + 1) (offset + length ends) text ∷ items_behind (before + 1) (offset + length ends + length text) rest
unfolding items_behind
items_cut before offset ends text rest are begins item =
    let start = text ++ rest in
    let bytes = ends ++ start in
    let start_begins : BeginsItem (text ++ rest) = begins_append text rest begins in
    let size : length bytes ≡ length ends + length start = length-append ends start in
    let start_size : length start ≡ length text + length rest = length-append text rest in
    let skipped : length bytes - length start ≡ length ends = omega arith in
    first_items-enough (length bytes) (suc (length bytes)) before offset bytes (omega arith) (omega arith)
    ∙ first_items_at (length bytes) before offset bytes start text rest (skip_line_ends_all ends start are start_begins) item.taken item.left (begins_some start start_begins)
    ∙ ap (λ n. item_at (before + 1) (offset + n) text ∷ first_items (length bytes) (before + 1) (offset + n + length text) rest) skipped
    ∙ ap (λ l. item_at (before + 1) (offset + length ends) text ∷ l)
    (first_items-enough (length bytes) (length rest) (before + 1) (offset + length ends + length text) rest (omega arith) (omega arith))

skip_all_line_ends : (ends : List ℕ) → AreLineEnds ends → skip_line_ends ends ≡ []
skip_all_line_ends [] are = refl
skip_all_line_ends (e ∷ ends) are =
    let test : is_line_end e ≡ true = All-head (λ b. is_line_end b ≡ true) e ends are in
    rw test (skip_all_line_ends ends (All-tail (λ b. is_line_end b ≡ true) e ends are))

first_items_none : (most before offset : ℕ) (bytes : List ℕ) → skip_line_ends bytes ≡ [] → first_items (suc most) before offset bytes ≡ []
unfolding first_items
first_items_none most before offset bytes skipped = rw skipped refl

-- line ends alone are no item
pub items_none : (before offset : ℕ) (ends : List ℕ) → AreLineEnds ends → items_behind before offset ends ≡ []
unfolding items_behind
items_none before offset ends are =
    first_items-enough (length ends) (suc (length ends)) before offset ends (omega arith) (omega arith)
    ∙ first_items_none (length ends) before offset ends (skip_all_line_ends ends are)

-- ---- where the source tells its bytes

pub takes_first : (before offset : ℕ) (a b : Option (List ℕ)) (ends text : List ℕ) → Consumes a b (ends ++ text) → AreLineEnds ends → BeginsItem text
    → IfSome b (IsItemBefore text) → is_some a ≡ true
    → items_behind before offset (told a) ≡ item_at (before + 1) (offset + length ends) text ∷ items_behind (before + 1) (offset + length (ends ++ text)) (told b)
takes_first before offset None b ends text read are begins whole tells = cc
takes_first before offset (Some x) None ends text read are begins whole tells = absurd read
takes_first before offset (Some x) (Some rest) ends text read are begins whole tells =
    let place : offset + length ends + length text ≡ offset + length (ends ++ text) = omega (arith, length-append ends text) in
    ap (items_behind before offset) (read ∙ append_assoc ends text rest)
    ∙ items_cut before offset ends text rest are begins whole
    ∙ ap (λ n. item_at (before + 1) (offset + length ends) text ∷ items_behind (before + 1) n rest) place

pub none_coming : (before offset : ℕ) (a b : Option (List ℕ)) (ends : List ℕ) → Consumes a b ends → AreLineEnds ends → IsAtEnd b → is_some a ≡ true
    → items_behind before offset (told a) ≡ []
none_coming before offset None b ends read are end tells = cc
none_coming before offset (Some x) None ends read are end tells = absurd read
none_coming before offset (Some x) (Some rest) ends read are end tells =
    ap (items_behind before offset) (read ∙ ap (λ l. ends ++ l) end ∙ append-nil ends) ∙ items_none before offset ends are

-- the bytes ahead are told where those left are
pub ahead_told : (bytes : List ℕ) (left : Option (List ℕ)) → is_some (prepend_known bytes left) ≡ is_some left
ahead_told bytes None = refl
ahead_told bytes (Some rest) = refl

-- ---- what a fault leaves

none_window : (bytes : List ℕ) (n m : ℕ) → EndsNone (take n bytes) → EndsNone (take (n - m) (drop m bytes))
none_window bytes n m none =
    All-from_get_or (λ b. b ≢ record_terminator) (take (n - m) (drop m bytes)) 0
    (λ i within same.
    let low : i < n - m = omega (arith, length-take (n - m) (drop m bytes)) in
    let inside : m + i < length (take n bytes) = omega (arith, length-take (n - m) (drop m bytes), length-drop m bytes, length-take n bytes) in
    let there : get_or (take n bytes) (m + i) 0 ≡ get_or (take (n - m) (drop m bytes)) i 0 =
    get_or-take n bytes (m + i) 0 (omega arith) ∙ sym (get_or-drop m bytes i 0) ∙ sym (get_or-take (n - m) (drop m bytes) i 0 low) in
    All-get_or (λ b. b ≢ record_terminator) (take n bytes) (m + i) 0 inside none (there ∙ same))

below : (n m : ℕ) → (m ≤ n → ⊥) → n < m
below n m wrong = grind (arith, wrong)

-- a terminated front of bytes whose first n end no record is longer than n
longer_than : (bytes rest : List ℕ) (n : ℕ) → EndsNone (take n (bytes ++ rest)) → ends_with_byte record_terminator bytes ≡ true → n < length bytes
longer_than bytes rest n none ended =
    let both = and_parts _ _ ended in
    let some : 0 < length bytes = ltb-true 0 (length bytes) both.0 in
    let last : get_or bytes (length bytes - 1) 0 ≡ record_terminator = eqb-true _ _ both.1 in
    let wrong : length bytes ≤ n → ⊥ =
    λ within.
    let inside : length bytes - 1 < length (take n (bytes ++ rest)) = omega (arith, length-take n (bytes ++ rest), length-append bytes rest) in
    let there : get_or (take n (bytes ++ rest)) (length bytes - 1) 0 ≡ get_or bytes (length bytes - 1) 0 =
    get_or-take n (bytes ++ rest) (length bytes - 1) 0 (omega arith) ∙ get_or_append_left bytes rest 0 (length bytes - 1) (omega arith) in
    All-get_or (λ b. b ≢ record_terminator) (take n (bytes ++ rest)) (length bytes - 1) 0 inside none (there ∙ last) in
    below n (length bytes) wrong

all_unless : (P : Item → Type 0) (start : List ℕ) (items : List Item) → All P items → All P (unless_none start items)
all_unless P [] items all = All-nil P
all_unless P (b ∷ bytes) items all = all

-- no item ends within bytes in which no record ends
pub none_within : (most before offset n : ℕ) (bytes : List ℕ) → EndsNone (take n bytes) → All (λ item. ¬ EndsWithin (offset + n) item) (first_items most before offset bytes)
unfolding first_items
none_within zero before offset n bytes none = All-nil (λ item. ¬ EndsWithin (offset + n) item)
none_within (suc most) before offset n bytes none =
    let start = skip_line_ends bytes in
    let skipped = length bytes - length start in
    let text = take_through record_terminator start in
    let rest = drop_through record_terminator start in
    let item = item_at (before + 1) (offset + skipped) text in
    let split : text ++ rest ≡ start = take_through-drop_through start in
    let none_start : EndsNone (take (n - skipped) start) =
    subst (λ l. EndsNone (take (n - skipped) l)) (sym (skip_is_drop bytes).0) (none_window bytes n skipped none) in
    let none_text : EndsNone (take (n - skipped) (text ++ rest)) = subst (λ l. EndsNone (take (n - skipped) l)) (sym split) none_start in
    let behind : drop (length text) start ≡ rest = ap (drop (length text)) (sym split) ∙ drop_at text rest (length text) refl in
    let none_rest : EndsNone (take (n - skipped - length text) rest) =
    subst (λ l. EndsNone (take (n - skipped - length text) l)) behind (none_window start (n - skipped) (length text) none_start) in
    let first : ¬ EndsWithin (offset + n) item =
    λ w. let long : n - skipped < length text = longer_than text rest (n - skipped) none_text w.ended in
    let within : offset + skipped + length text ≤ offset + n = w.within in
    omega arith in
    let others = none_within most (before + 1) (end_of item) (n - skipped - length text) rest none_rest in
    all_unless (λ i. ¬ EndsWithin (offset + n) i) start _
    (All-cons (λ i. ¬ EndsWithin (offset + n) i) item _ first
    (All-weaker (λ i. ¬ EndsWithin (end_of item + (n - skipped - length text)) i) (λ i. ¬ EndsWithin (offset + n) i)
    (λ i later w. let sooner : end_of i ≤ offset + n = w.within in
    later (record { ended = w.ended; within = omega arith })) _ others))

pub none_coming_within : (before offset n : ℕ) (a left : Option (List ℕ)) (taken more : List ℕ) → Consumes a (prepend_known more left) taken
    → EndsNone (taken ++ more) → n ≡ offset + length (taken ++ more) → is_some a ≡ true
    → All (λ item. ¬ EndsWithin n item) (items_behind before offset (told a))
unfolding items_behind
none_coming_within before offset n None left taken more read none count tells = absurd (cc)
none_coming_within before offset n (Some x) None taken more read none count tells = absurd read
none_coming_within before offset n (Some x) (Some rest) taken more read none count tells =
    let given : take (length (taken ++ more)) x ≡ taken ++ more =
    ap (take (length (taken ++ more))) (read ∙ sym (append_assoc taken more rest)) ∙ take_at (taken ++ more) rest (length (taken ++ more)) refl in
    let within = none_within (length x) before offset (length (taken ++ more)) x (subst EndsNone (sym given) none) in
    subst (λ k. All (λ item. ¬ EndsWithin k item) (first_items (length x) before offset x)) (sym count) within
