-- The end of a text, as the front of its characters in reverse.
use Rattle.std.proofs.Common.{◌≡◌, ◌≢◌, ℕ, ◌<◌, Bool, true, false, List, [], ◌∷◌, ◌++◌, reverse, chars, IsUtf8, encode_utf8, encode_utf8_all, refl, sym, ap, subst, ◌∙◌, arith}
use Rattle.std.proofs.lemmas.Bool.Decides.{nat_tests}
use Rattle.std.proofs.lemmas.List.{reverse-append, reverse-reverse, append-nil}
use Rattle.std.proofs.lemmas.Str.{encodes-append, encode_ascii, encodes-chars}
use Rattle.std.specs.Char.{IsScalar}
use lib.Utf8.{low_scalar}
use Rattle.marc_types.specs.Texts.{DropsIf}
use Rattle.naco_form.specs.Comparison.{drop_first_comma, trim_front, trim_end}
use Rattle.naco_form.specs.Table.{blank, comma}
use Rattle.naco_form.specs.Pen.{PopsIf}
use Rattle.naco_form.proofs.PenLemmas.{chars_snoc}

-- an ASCII character at the end
pub reverse_chars_last : (bs front : List ℕ) (c : ℕ) → IsUtf8 front → IsScalar c → c < 128 → bs ≡ front ++ c ∷ [] → reverse (chars bs) ≡ c ∷ reverse (chars front)
reverse_chars_last bs front c text scalar ascii e =
    let one : bs ≡ front ++ encode_utf8 c = e ∙ ap (λ l. front ++ l) (sym (encode_ascii c ascii)) in
    ap (λ l. reverse l) (ap chars one ∙ sym (append-nil _) ∙ chars_snoc front c [] text scalar) ∙ reverse-append (chars front) (c ∷ [])

-- no ASCII character at the end
pub reverse_chars_other : (bs rest : List ℕ) (c : ℕ) → IsUtf8 bs → c < 128 → reverse (chars bs) ≡ c ∷ rest → bs ≡ encode_utf8_all (reverse rest) ++ c ∷ []
reverse_chars_other bs rest c text ascii e =
    let cs : chars bs ≡ reverse rest ++ c ∷ [] = sym (reverse-reverse (chars bs)) ∙ ap (λ l. reverse l) e ∙ reverse-append (c ∷ []) rest in
    sym (encodes-chars bs text) ∙ ap encode_utf8_all cs ∙ encodes-append (reverse rest) (c ∷ [])
    ∙ ap (λ l. encode_utf8_all (reverse rest) ++ l) (append-nil _ ∙ encode_ascii c ascii)

drop_first_comma-other : (xs : List ℕ) → ((rest : List ℕ) → xs ≢ comma ∷ rest) → drop_first_comma xs ≡ xs
drop_first_comma-other [] h = refl
drop_first_comma-other (x ∷ xs) h =
    let other : x ≢ comma = λ e. h xs (ap (λ y. y ∷ xs) e) in grind (arith, nat_tests)

pub drop_popped : (old new : List ℕ) (popped : Bool) → PopsIf comma (reverse old) (reverse new) popped → new ≡ reverse (drop_first_comma (reverse old))
drop_popped old new true h = sym (reverse-reverse new) ∙ ap (λ l. reverse (drop_first_comma l)) (sym h)
drop_popped old new false h =
    sym (reverse-reverse new) ∙ ap (λ l. reverse l) (h.0 ∙ sym (drop_first_comma-other (reverse old) h.1))

trim_front-other : (xs : List ℕ) → ((rest : List ℕ) → xs ≢ blank ∷ rest) → trim_front xs ≡ xs
unfolding trim_front
trim_front-other [] h = refl
trim_front-other (x ∷ xs) h =
    let other : x ≢ blank = λ e. h xs (ap (λ y. y ∷ xs) e) in grind (arith, nat_tests)

-- a blank was taken off
pub trim_popped : (old new : List ℕ) → PopsIf blank (reverse old) (reverse new) true → trim_end new ≡ trim_end old
unfolding trim_end trim_front
trim_popped old new h = ap (λ l. reverse (trim_front l)) (sym h)

-- no blank stood there
pub trim_done : (old new : List ℕ) → PopsIf blank (reverse old) (reverse new) false → new ≡ trim_end old
unfolding trim_end
trim_done old new h =
    sym (reverse-reverse new) ∙ ap (λ l. reverse l) (h.0 ∙ sym (trim_front-other (reverse old) h.1))

-- an ASCII character is taken off the end of the bytes
pub pops : (old new : List ℕ) (c : ℕ) (popped : Bool) → IsUtf8 new → c < 128 → DropsIf c old new popped → PopsIf c (reverse (chars old)) (reverse (chars new)) popped
pops old new c true text ascii e = reverse_chars_last old new c text (low_scalar c (omega arith)) ascii e
pops old new c false text ascii h =
    (ap (λ l. reverse (chars l)) h.0, λ rest e. h.1 _ (reverse_chars_other old rest c (subst IsUtf8 h.0 text) ascii e))
