-- That the bytes of a text stay UTF-8.
use Rattle.std.proofs.Common.{◌≡◌, ◌≢◌, ℕ, zero, suc, ◌+◌, ◌-◌, ◌<◌, ◌≤◌, ◌==◌, Bool, true, false, not, cond, List, [], ◌∷◌, ◌++◌, length, take, get_or, IsUtf8, IsAscii, encode_utf8, encode_utf8_all, refl, sym, ap, subst, ne_eqb, ◌∙◌, ⊎_elim, arith, suc-le-suc, zero-le, length-append, length-take-le, take_at, take-take}
use Rattle.std.proofs.lemmas.Bool.{and_parts, cases_lt}
use Rattle.std.proofs.lemmas.List.{get_or_push, append-nil}
use Rattle.std.proofs.lemmas.List.Elements.{filter-append}
use Rattle.std.proofs.lemmas.Str.{IsUtf8-append, IsUtf8-encode, IsUtf8-from_ascii, IsUtf8-nil, IsUtf8-take, IsCharBoundary-before_ascii, encode_ascii, inside_one}
use Rattle.std.proofs.lemmas.Slice.{take-put_mid}
use Rattle.std.specs.Str.{all_scalars}
use Rattle.std.specs.Char.{IsScalar}
use Rattle.marc_types.specs.Texts.{without_blanks}
use borrow.Rule.Slice.PartMut.{put_mid}

-- `ys` was written over the bytes `xs` from `a` on
pub joined : (xs ys more : List ℕ) (a k : ℕ) → a ≤ length xs → ys ≡ more → IsUtf8 (take a xs) → IsUtf8 more → IsUtf8 (take (a + length more) (put_mid a k xs ys))
joined xs ys more a k fits same front text =
    rw (take-put_mid a k xs ys (a + length more) (ap (λ l. a + length l) (sym same)) fits ∙ ap (λ l. take a xs ++ l) same) (IsUtf8-append (take a xs) more front text)

pub ascii_text : (bs : List ℕ) → IsAscii bs → IsUtf8 bs
ascii_text bs ascii = IsUtf8-from_ascii bs ascii

one_ascii : (c : ℕ) → c < 128 → IsAscii (c ∷ [])
one_ascii c h zero = h
one_ascii c h (suc i) = omega arith

-- an ASCII character more
pub grown : (bs now : List ℕ) (c : ℕ) → IsUtf8 bs → c < 128 → now ≡ bs ++ c ∷ [] → IsUtf8 now
grown bs now c text ascii e = rw e (IsUtf8-append bs (c ∷ []) text (ascii_text (c ∷ []) (one_ascii c ascii)))

-- an ASCII character less
pub shrunk : (bs front : List ℕ) (c : ℕ) → IsUtf8 bs → c < 128 → bs ≡ front ++ c ∷ [] → IsUtf8 front
shrunk bs front c text ascii e =
    let long : length bs ≡ length front + 1 = ap length e ∙ length-append front (c ∷ []) in
    let last : get_or bs (length front) 0 ≡ c = ap (λ l. get_or l (length front) 0) e ∙ get_or_push front c 0 (length front) refl in
    let cut : take (length front) bs ≡ front = ap (take (length front)) e ∙ take_at front (c ∷ []) (length front) refl in
    subst IsUtf8 cut (IsUtf8-take bs (length front) text (IsCharBoundary-before_ascii bs (length front) (omega arith) (rw last ascii)))

-- the same where the text is the first bytes of its room
pub cut : (xs shown : List ℕ) (n c : ℕ) → n ≤ length xs → take n xs ≡ shown → shown ≡ take (length shown - 1) shown ++ c ∷ [] → IsUtf8 (take n xs) → c < 128 → IsUtf8 (take (n - 1) xs)
cut xs shown n c fits same ends text ascii =
    let long : length shown ≡ n = ap length (sym same) ∙ length-take-le n xs fits in
    let front : take (length shown - 1) shown ≡ take (n - 1) xs =
    ap (λ m. take (m - 1) shown) long ∙ ap (take (n - 1)) (sym same) ∙ take-take (n - 1) n xs (omega arith) in
    shrunk (take n xs) (take (n - 1) xs) c text ascii (same ∙ ends ∙ ap (λ l. l ++ c ∷ []) front)

-- nothing is left out of a text that has no blank
unblanked : (bs : List ℕ) → ((k : ℕ) → k < length bs → get_or bs k 0 ≢ 0x20) → without_blanks bs ≡ bs
unblanked [] h = refl
unblanked (b ∷ bs) h =
    rw (ne_eqb b 0x20 (h zero (suc-le-suc zero-le))) (ap (λ l. b ∷ l) (unblanked bs (λ k l. h (suc k) (suc-le-suc l))))

-- no byte of a character behind ASCII is a blank
beyond : (c : ℕ) → 128 ≤ c → (k : ℕ) → k < length (encode_utf8 c) → get_or (encode_utf8 c) k 0 ≢ 0x20
beyond c high k inside e =
    let low : get_or (encode_utf8 c) k 0 < 128 = omega (arith, e) in
    absurd (omega (arith, inside_one c [] (encode_utf8 c) k (sym (append-nil _)) inside low, e))

kept_or_not : (c : ℕ) (kept : Bool) → IsUtf8 (c ∷ []) → IsUtf8 (cond kept (c ∷ []) [])
kept_or_not c true text = text
kept_or_not c false text = IsUtf8-nil

one : (c : ℕ) → IsScalar c → IsUtf8 (without_blanks (encode_utf8 c))
one c scalar =
    let text = IsUtf8-encode c scalar in
    ⊎_elim
    (λ low. let ascii = encode_ascii c low in rw ascii (kept_or_not c (not (c == 0x20)) (subst IsUtf8 ascii text)))
    (λ high. rw (unblanked (encode_utf8 c) (beyond c high)) text)
    (cases_lt c 128)

filtered : (cs : List ℕ) → all_scalars cs ≡ true → IsUtf8 (without_blanks (encode_utf8_all cs))
filtered [] h = IsUtf8-nil
filtered (c ∷ cs) h =
    let parts = and_parts _ _ h in
    rw (filter-append (λ b. not (b == 0x20)) (encode_utf8 c) (encode_utf8_all cs)) (IsUtf8-append _ _ (one c parts.0) (filtered cs parts.1))

pub text_without_blanks : (bs : List ℕ) → IsUtf8 bs → IsUtf8 (without_blanks bs)
text_without_blanks bs text = subst (λ l. IsUtf8 (without_blanks l)) text.1.1 (filtered text.0 text.1.0)
