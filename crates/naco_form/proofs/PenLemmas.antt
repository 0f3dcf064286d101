-- What a pen's steps do to its text and to what is still to come.
use Rattle.std.proofs.Common.{◌≡◌, ◌≢◌, ℕ, List, [], ◌∷◌, ◌++◌, chars, IsUtf8, encode_utf8, refl, sym, ap, ap₂, ◌∙◌, arith, append_assoc}
use Rattle.std.proofs.lemmas.Bool.Decides.{nat_tests}
use Rattle.std.proofs.lemmas.Str.{chars-append, chars-nil, chars_past_char, IsUtf8-encode, IsUtf8-append}
use Rattle.std.proofs.lemmas.List.{append-nil}
use Rattle.std.specs.Char.{IsScalar}
use Rattle.naco_form.specs.Comparison.{squeezed, trim_front, single_blanks, commas}
use Rattle.naco_form.specs.Table.{blank, comma}
use Rattle.naco_form.specs.Pen.{still, written_and_still, whole}
use Rattle.naco_form.specs.declared.pen.Pen.{Pen}
use Rattle.naco_form.specs.declared.pen.At.{At}
use Rattle.naco_form.specs.declared.pen.At.TheVariants.{Front, Word, Blank}

pub nothing_written : (bs cs : List ℕ) → bs ≡ [] → chars bs ++ cs ≡ cs
nothing_written bs cs h = ap (λ l. chars l ++ cs) h ∙ ap (λ l. l ++ cs) chars-nil

still_begins : (c : ℕ) (cs : List ℕ) (at : At) → c ≢ blank → at ≢ Blank → still at (c ∷ cs) ≡ c ∷ still Word cs
unfolding still squeezed trim_front single_blanks
still_begins c cs Front h free = grind (arith, nat_tests)
still_begins c cs Word h free = grind (arith, nat_tests)
still_begins c cs Blank h free = absurd (free refl)

still_held : (c : ℕ) (cs : List ℕ) → c ≢ blank → still Blank (c ∷ cs) ≡ blank ∷ c ∷ still Word cs
unfolding still single_blanks
still_held c cs h = grind (arith, nat_tests)

chars-encode : (c : ℕ) → IsScalar c → chars (encode_utf8 c) ≡ c ∷ []
chars-encode c h =
    chars_past_char (encode_utf8 c) [] c (IsUtf8-encode c h) (sym (append-nil _)) ∙ ap (λ l. c ∷ l) chars-nil

-- a character more
pub chars_snoc : (bs : List ℕ) (c : ℕ) (cs : List ℕ) → IsUtf8 bs → IsScalar c → chars (bs ++ encode_utf8 c) ++ cs ≡ chars bs ++ c ∷ cs
chars_snoc bs c cs text scalar =
    ap (λ l. l ++ cs) (chars-append bs (encode_utf8 c) text ∙ ap (λ l. chars bs ++ l) (chars-encode c scalar)) ∙ append_assoc (chars bs) (c ∷ []) cs

-- a character is written where no blank is held back
pub write_free : (bs now : List ℕ) (at : At) (c : ℕ) (cs : List ℕ) → IsUtf8 bs → IsScalar c → c ≢ blank → at ≢ Blank → now ≡ bs ++ encode_utf8 c → chars now ++ still Word cs ≡ chars bs ++ still at (c ∷ cs)
write_free bs now at c cs text scalar h free e =
    ap (λ l. chars l ++ still Word cs) e ∙ chars_snoc bs c (still Word cs) text scalar
    ∙ ap (λ l. chars bs ++ l) (sym (still_begins c cs at h free))

-- a character is written behind the blank that was held back
pub write_held : (bs now : List ℕ) (at : At) (c : ℕ) (cs : List ℕ) → IsUtf8 bs → IsScalar c → c ≢ blank → at ≡ Blank → now ≡ (bs ++ encode_utf8 blank) ++ encode_utf8 c → chars now ++ still Word cs ≡ chars bs ++ still at (c ∷ cs)
write_held bs now at c cs text scalar h held e =
    ap (λ l. chars l ++ still Word cs) e
    ∙ chars_snoc (bs ++ encode_utf8 blank) c (still Word cs) (IsUtf8-append bs (encode_utf8 blank) text (IsUtf8-encode blank refl)) scalar
    ∙ chars_snoc bs blank (c ∷ still Word cs) text refl
    ∙ ap (λ l. chars bs ++ l) (sym (still_held c cs h) ∙ ap (λ a. still a (c ∷ cs)) (sym held))

-- a character is put: its comma is decided, and then it is written or held back
pub put_decided : (old decided new : Pen) (c d : ℕ) (cs : List ℕ) → commas old.keeps_comma (c ∷ cs) ≡ d ∷ commas decided.keeps_comma cs → decided.out ≡ old.out → decided.at ≡ old.at → new.keeps_comma ≡ decided.keeps_comma → written_and_still new (commas decided.keeps_comma cs) ≡ written_and_still decided (d ∷ commas decided.keeps_comma cs) → whole new cs ≡ whole old (c ∷ cs)
unfolding whole written_and_still
put_decided old decided new c d cs comma out at keeps step =
    ap (λ k. chars new.out ++ still new.at (commas k cs)) keeps ∙ step
    ∙ ap₂ (λ o a. chars o ++ still a (d ∷ commas decided.keeps_comma cs)) out at
    ∙ ap (λ l. chars old.out ++ still old.at l) (sym comma)

-- nothing more comes
still-nil : (at : At) → still at [] ≡ []
unfolding still squeezed trim_front single_blanks
still-nil Front = refl
still-nil Word = refl
still-nil Blank = refl

pub whole-nil : (pen : Pen) → whole pen [] ≡ chars pen.out
unfolding whole written_and_still commas
whole-nil pen = ap (λ l. chars pen.out ++ l) (still-nil pen.at) ∙ append-nil _
