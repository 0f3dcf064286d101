-- Subfields are carried from the bytes into their text.
use Rattle.std.proofs.Common.{◌≡◌, ◌≢◌, ℕ, ◌==◌, ◌&&◌, not, Bool, true, false, cond, List, [], ◌∷◌, ◌++◌, get_or, Some, None, refl, sym, ap, ◌∙◌, ne_eqb, arith}
use Rattle.std.proofs.lemmas.Bool.Decides.{nat_tests}
use Rattle.std.specs.List.{list_all}
use Rattle.marc_types.specs.Valid.{is_data}
use Rattle.marc8_latin.specs.declared.charset.Charset.{Charset}
use Rattle.marc8_latin.specs.declared.charset.Charset.TheVariants.{BasicLatin, ExtendedLatin}
use Rattle.marc8_latin.specs.declared.part.Designations.{Designations}
use Rattle.marc8_latin.specs.declared.part.Meaning.{Meaning}
use Rattle.marc8_latin.specs.declared.part.Meaning.TheVariants.{DesignatesG0, DesignatesG1, Base, Mark, Control, Subfield}
use Rattle.marc8_latin.specs.Parts.{is_first_side, is_second_side, designates}
use Rattle.marc8_latin.specs.Text.{Part, joined, AreParts, after, shown, shown_of}
use Rattle.marc8_latin.proofs.Choices.{both}
use Rattle.marc8_latin.proofs.Cases.{Rows, rows, byte_ends, is_side, side_of}
use Rattle.marc8_latin.proofs.Encoded.{all_then, all_parts}
use Rattle.marc8_latin.proofs.Points.{fits, is_basic, character_fits, data_passes, basic_passes, small_basic}
use Rattle.marc8_latin.proofs.Splits.{is_sound, codes_of}

-- neither a record's nor a field's terminator
abbrev pub no_end : ℕ → Bool
no_end b = not (b == 0x1d) && not (b == 0x1e)

-- the bytes behind the delimiters, one behind each; the flag says that a delimiter stands before these bytes
abbrev pub codes_in : Bool → List ℕ → List ℕ
codes_in delimited [] = []
codes_in delimited (b ∷ bs) = cond delimited (b ∷ codes_in false bs) (codes_in (b == 0x1f) bs)

sound_fit : (m : Meaning) → fits is_data m ≡ true → list_all is_sound (shown m) ≡ true
sound_fit (DesignatesG0 _) h = refl
sound_fit (DesignatesG1 _) h = refl
sound_fit (Base c) h = rw h refl
sound_fit (Mark c) h = rw h refl
sound_fit (Control c) h = rw h refl
sound_fit (Subfield code) h = absurd (cc)

codes_fit : (p : ℕ → Bool) (m : Meaning) → fits p m ≡ true → codes_of (shown m) ≡ []
codes_fit p (DesignatesG0 _) h = refl
codes_fit p (DesignatesG1 _) h = refl
codes_fit p (Base c) h = refl
codes_fit p (Mark c) h = refl
codes_fit p (Control c) h = refl
codes_fit p (Subfield code) h = absurd (cc)

-- a designation shows nothing
pub hidden : (side : ℕ) (set : Charset) (m : Meaning) → designates side set ≡ Some m → shown m ≡ []
hidden side set m h = by (is_first_side side) (is_second_side side) h
  where
    by : (b c : Bool) → cond b (Some (DesignatesG0 set)) (cond c (Some (DesignatesG1 set)) None) ≡ Some m → shown m ≡ []
    by true c h = let e : DesignatesG0 set ≡ m = cc in sym (ap shown e)
    by false true h = let e : DesignatesG1 set ≡ m = cc in sym (ap shown e)
    by false false h = absurd (cc)

data_byte : (b : ℕ) → no_end b ≡ true → b ≢ 0x1f → is_data b ≡ true
data_byte b h n = grind (arith, nat_tests)

sound_rows : (sets : Designations) → Rows sets (λ part m. list_all no_end part ≡ true → list_all is_sound (shown m) ≡ true)
sound_rows sets =
    record {
      byte = λ b m h e. sound_fit m (character_fits is_data data_passes sets b m (λ _. data_byte b (both (no_end b) true e).0 (byte_ends sets b m h).1) h);
      code = λ c g e. rw g refl;
      reset = λ e. refl;
      basic = λ side m h e. rw (hidden side BasicLatin m h) refl;
      extended = λ side m h e. rw (hidden side ExtendedLatin m h) refl;
    }

pub sound_parts : (sets : Designations) (parts : List Part) → AreParts sets parts → list_all no_end (joined parts) ≡ true → list_all is_sound (shown_of parts) ≡ true
sound_parts sets [] k h = refl
sound_parts sets (p ∷ ps) k h =
    let t = all_parts no_end p.bytes (joined ps) h in
    all_then is_sound (shown p.meaning) (shown_of ps)
    (rows sets (λ part m. list_all no_end part ≡ true → list_all is_sound (shown m) ≡ true) (sound_rows sets) p.bytes p.meaning k.0 t.0)
    (sound_parts (after sets p.meaning) ps k.1 t.1)

no_delimiter : (side : ℕ) → is_side side ≡ true → (side == 0x1f) ≡ false
no_delimiter side h = grind (arith, nat_tests)

codes_rows : (sets : Designations) (rest : List ℕ) → Rows sets (λ part m. codes_in false (part ++ rest) ≡ codes_of (shown m) ++ codes_in false rest)
codes_rows sets rest =
    record {
      byte = λ b m h. rw (ne_eqb b 0x1f (byte_ends sets b m h).1, codes_fit is_basic m (character_fits is_basic basic_passes sets b m (small_basic b) h)) refl;
      code = λ c g. refl;
      reset = refl;
      basic = λ side m h. rw (no_delimiter side (side_of side BasicLatin m h), hidden side BasicLatin m h) refl;
      extended = λ side m h. rw (no_delimiter side (side_of side ExtendedLatin m h), hidden side ExtendedLatin m h) refl;
    }

codes_of-append : (xs ys : List Meaning) → codes_of (xs ++ ys) ≡ codes_of xs ++ codes_of ys
codes_of-append [] ys = refl
codes_of-append (DesignatesG0 _ ∷ xs) ys = codes_of-append xs ys
codes_of-append (DesignatesG1 _ ∷ xs) ys = codes_of-append xs ys
codes_of-append (Base _ ∷ xs) ys = codes_of-append xs ys
codes_of-append (Mark _ ∷ xs) ys = codes_of-append xs ys
codes_of-append (Control _ ∷ xs) ys = codes_of-append xs ys
codes_of-append (Subfield code ∷ xs) ys = ap (λ cs. code ∷ cs) (codes_of-append xs ys)

pub codes_parts : (sets : Designations) (parts : List Part) → AreParts sets parts → codes_in false (joined parts) ≡ codes_of (shown_of parts)
codes_parts sets [] k = refl
codes_parts sets (p ∷ ps) k =
    rows sets (λ part m. codes_in false (part ++ joined ps) ≡ codes_of (shown m) ++ codes_in false (joined ps)) (codes_rows sets (joined ps)) p.bytes p.meaning k.0
    ∙ ap (λ cs. codes_of (shown p.meaning) ++ cs) (codes_parts (after sets p.meaning) ps k.1)
    ∙ sym (codes_of-append (shown p.meaning) (shown_of ps))

-- bytes that begin with a delimiter show a subfield first
pub record Begins (shows : List Meaning) : Type 0 where
  pub code : ℕ
  pub more : List Meaning
  pub is : shows ≡ Subfield code ∷ more

clash : (a b : ℕ) (xs ys : List ℕ) → a ∷ xs ≡ b ∷ ys → a ≡ b
clash a b xs ys e = ap (λ l. get_or l 0 0) e

begins_rows : (sets : Designations) (rest after : List ℕ) → Rows sets (λ part m. part ++ rest ≡ 0x1f ∷ after → Begins (shown m))
begins_rows sets rest after =
    record {
      byte = λ b m h e. absurd ((byte_ends sets b m h).1 (clash _ _ _ _ e));
      code = λ c g e. record { code = c; more = []; is = refl };
      reset = λ e. let k = clash _ _ _ _ e in absurd (omega (arith, k));
      basic = λ side m h e. let k = clash _ _ _ _ e in absurd (omega (arith, k));
      extended = λ side m h e. let k = clash _ _ _ _ e in absurd (omega (arith, k));
    }

pub begins_parts : (sets : Designations) (parts : List Part) (after : List ℕ) → AreParts sets parts → joined parts ≡ 0x1f ∷ after → Begins (shown_of parts)
begins_parts sets [] after k e = absurd (cc)
begins_parts sets (p ∷ ps) after k e =
    let b = rows sets (λ part m. part ++ joined ps ≡ 0x1f ∷ after → Begins (shown m)) (begins_rows sets (joined ps) after) p.bytes p.meaning k.0 e in
    record { code = b.code; more = b.more ++ shown_of ps; is = ap (λ ms. ms ++ shown_of ps) b.is }
