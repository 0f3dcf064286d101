-- A text has at most three bytes for each of its source.
use Rattle.std.proofs.Common.{◌≡◌, ℕ, ◌+◌, ◌*◌, ◌≤◌, true, List, [], ◌∷◌, ◌++◌, length, length-append, refl, ap, ◌∙◌, arith}
use Rattle.std.proofs.lemmas.Bool.Decides.{nat_tests}
use Rattle.std.proofs.lemmas.Str.{encodes-append}
use Rattle.std.specs.Prelude.{encode_utf8, encode_utf8_all}
use Rattle.marc_types.specs.Valid.{is_graphic}
use Rattle.marc8_latin.specs.declared.charset.Charset.TheVariants.{BasicLatin, ExtendedLatin}
use Rattle.marc8_latin.specs.declared.part.Designations.{Designations}
use Rattle.marc8_latin.specs.declared.part.Meaning.{Meaning}
use Rattle.marc8_latin.specs.declared.part.Meaning.TheVariants.{DesignatesG0, DesignatesG1, Base, Mark, Control, Subfield}
use Rattle.marc8_latin.specs.Text.{Part, joined, AreParts, after, shown, shown_of, latin, IsText}
use Rattle.marc8_latin.proofs.Cases.{Rows, rows}
use Rattle.marc8_latin.proofs.Carried.{hidden}
use Rattle.marc8_latin.proofs.Encoded.{basic_len}
use Rattle.marc8_latin.proofs.OneReading.{arranged, text_by_parts}
use Rattle.marc8_latin.proofs.Points.{fits, is_basic, character_fits, basic_passes, small_basic}

-- the most bytes of a character in UTF-8
abbrev width : Meaning → ℕ
width (DesignatesG0 _) = 0
width (DesignatesG1 _) = 0
width (Base c) = length (encode_utf8 c)
width (Mark c) = length (encode_utf8 c)
width (Control c) = length (encode_utf8 c)
width (Subfield code) = length (encode_utf8 0x1f) + length (encode_utf8 code)

abbrev width_of : List Meaning → ℕ
width_of [] = 0
width_of (m ∷ ms) = width m + width_of ms

encoded_len : (xs ys : List ℕ) → length (encode_utf8_all (xs ++ ys)) ≡ length (encode_utf8_all xs) + length (encode_utf8_all ys)
encoded_len xs ys = ap length (encodes-append xs ys) ∙ length-append (encode_utf8_all xs) (encode_utf8_all ys)

more_len : (c : ℕ) (cs : List ℕ) → length (encode_utf8_all (c ∷ cs)) ≡ length (encode_utf8 c) + length (encode_utf8_all cs)
more_len c cs = length-append (encode_utf8 c) (encode_utf8_all cs)

arranged_len : (run : List ℕ) (characters : List Meaning) → length (encode_utf8_all (arranged run characters)) ≡ length (encode_utf8_all run) + width_of characters
arranged_len run [] = omega arith
arranged_len run (DesignatesG0 _ ∷ ms) = omega (arith, arranged_len run ms)
arranged_len run (DesignatesG1 _ ∷ ms) = omega (arith, arranged_len run ms)
arranged_len run (Mark c ∷ ms) = omega (arith, arranged_len (run ++ c ∷ []) ms, encoded_len run (c ∷ []), more_len c [])
arranged_len run (Base c ∷ ms) = omega (arith, arranged_len [] ms, more_len c (run ++ arranged [] ms), encoded_len run (arranged [] ms))
arranged_len run (Control c ∷ ms) = omega (arith, arranged_len [] ms, encoded_len run (c ∷ arranged [] ms), more_len c (arranged [] ms))
arranged_len run (Subfield code ∷ ms) =
    omega (arith, arranged_len [] ms, encoded_len run (0x1f ∷ code ∷ arranged [] ms), more_len 0x1f (code ∷ arranged [] ms), more_len code (arranged [] ms))

fits_width : (m : Meaning) → fits is_basic m ≡ true → width_of (shown m) ≤ 3
fits_width (DesignatesG0 _) h = absurd (cc)
fits_width (DesignatesG1 _) h = absurd (cc)
fits_width (Base c) h = omega (arith, basic_len c h)
fits_width (Mark c) h = omega (arith, basic_len c h)
fits_width (Control c) h = omega (arith, basic_len c h)
fits_width (Subfield code) h = absurd (cc)

graphic_basic : (b : ℕ) → is_graphic b ≡ true → is_basic b ≡ true
graphic_basic b h = grind (arith, nat_tests)

nothing_wide : (part : List ℕ) (m : Meaning) → shown m ≡ [] → width_of (shown m) ≤ 3 * length part
nothing_wide part m e = rw e (omega arith)

width_rows : (sets : Designations) → Rows sets (λ part m. width_of (shown m) ≤ 3 * length part)
width_rows sets =
    record {
      byte = λ b m h. omega (arith, fits_width m (character_fits is_basic basic_passes sets b m (small_basic b) h));
      code = λ c g. omega (arith, basic_len 0x1f refl, basic_len c (graphic_basic c g));
      reset = omega arith;
      basic = λ side m h. nothing_wide (0x1b ∷ side ∷ 0x42 ∷ []) m (hidden side BasicLatin m h);
      extended = λ side m h. nothing_wide (0x1b ∷ side ∷ 0x21 ∷ 0x45 ∷ []) m (hidden side ExtendedLatin m h);
    }

width_of-append : (xs ys : List Meaning) → width_of (xs ++ ys) ≡ width_of xs + width_of ys
width_of-append [] ys = omega arith
width_of-append (x ∷ xs) ys = omega (arith, width_of-append xs ys)

parts_len : (sets : Designations) (parts : List Part) → AreParts sets parts → width_of (shown_of parts) ≤ 3 * length (joined parts)
parts_len sets [] k = omega arith
parts_len sets (p ∷ ps) k =
    omega (
      arith,
      width_of-append (shown p.meaning) (shown_of ps),
      length-append p.bytes (joined ps),
      parts_len (after sets p.meaning) ps k.1,
      rows sets (λ part m. width_of (shown m) ≤ 3 * length part) (width_rows sets) p.bytes p.meaning k.0,
    )

pub text_size : (bytes text : List ℕ) → IsText bytes text → length text ≤ 3 * length bytes
text_size bytes text t =
    let wide = arranged_len [] (shown_of t.parts) in
    let len = ap length (text_by_parts bytes text t) in
    let most = parts_len latin t.parts t.known in
    let cut : length (joined t.parts) ≡ length bytes = ap length t.cut in
    omega (arith, wide, len, most, cut)
