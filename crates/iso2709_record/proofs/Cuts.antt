-- How far a text is cut into subfields, and one more cut off it.
use Rattle.std.proofs.Common.{◌≡◌, ◌∙◌, ℕ, ◌<◌, true, List, [], ◌∷◌, ◌++◌, length, get_or, sym, ap, subst, arith, append_assoc, append-nil, length-append, Some}
use Rattle.std.specs.Str.{IsUtf8, IsCharBoundary}
use Rattle.std.specs.List.{flat_map, list_all}
use Rattle.std.proofs.Math.Seq.{take-append_seam, drop-append_seam, get_or-append_seam}
use Rattle.std.proofs.lemmas.Grind.{common_steps, flat_map-append}
use Rattle.std.proofs.lemmas.Bool.Decides.{nat_tests}
use Rattle.std.proofs.lemmas.Str.{IsUtf8-take, IsUtf8-drop, IsUtf8-nil, IsCharBoundary-after_ascii, IsCharBoundary-before_ascii}
use Rattle.marc_types.specs.Valid.{is_subfield}
use Rattle.marc_types.specs.declared.field.Subfield.{Subfield}
use Rattle.iso2709_record.specs.Written.{delimiter, subfield_bytes}
use Rattle.iso2709_record.specs.Faults.{starts_subfield}
use Rattle.iso2709_record.specs.Spelling.{Spells, IsFirstOf}
use Rattle.iso2709_record.specs.declared.subfields.Cut.{Cut}
use Rattle.iso2709_record.proofs.Cutting.{starts-subfields}

-- these subfields are cut off the text, and the rest of it spells others
pub record IsCutUpTo (text rest : List ℕ) (subfields : List Subfield) : Type 0 where
  pub others : List Subfield
  pub spells : Spells others rest
  pub done : flat_map subfield_bytes subfields ++ rest ≡ text
  pub valid : list_all is_subfield subfields ≡ true
  pub utf8 : IsUtf8 rest

-- both are texts
pub record AreTexts (front back : List ℕ) : Type 0 where
  pub first : IsUtf8 front
  pub second : IsUtf8 back

seam : (text rest : List ℕ) → IsUtf8 (text ++ rest) → IsCharBoundary (text ++ rest) (length text) → AreTexts text rest
seam text rest utf8 boundary = record {
  first = subst IsUtf8 (take-append_seam text rest) (IsUtf8-take (text ++ rest) (length text) utf8 boundary);
  second = subst IsUtf8 (drop-append_seam text rest) (IsUtf8-drop (text ++ rest) (length text) utf8 boundary);
}

-- a text is cut before a delimiter, or at its end
cut_before : (text rest : List ℕ) → starts_subfield rest ≡ true → IsUtf8 (text ++ rest) → AreTexts text rest
cut_before text [] starts utf8 = record { first = subst IsUtf8 (append-nil text) utf8; second = IsUtf8-nil }
cut_before text (b ∷ bs) starts utf8 =
    let within : length text < length (text ++ b ∷ bs) = omega (arith, length-append text (b ∷ bs)) in
    let at : get_or (text ++ b ∷ bs) (length text) 0 ≡ b = get_or-append_seam text b bs 0 in
    let low : b < 128 = grind (arith, common_steps, nat_tests) in
    seam text (b ∷ bs) utf8 (IsCharBoundary-before_ascii (text ++ b ∷ bs) (length text) within (rw at low))

-- behind a delimiter and a code stand a subfield's text and the rest
pub cut_texts : (code : ℕ) (text rest : List ℕ) → code < 128 → starts_subfield rest ≡ true → IsUtf8 (delimiter ∷ code ∷ (text ++ rest)) → AreTexts text rest
cut_texts code text rest low starts utf8 =
    let whole = delimiter ∷ code ∷ (text ++ rest) in
    let within : 1 < length whole = omega arith in
    cut_before text rest starts (IsUtf8-drop whole 2 utf8 (IsCharBoundary-after_ascii whole 1 utf8 within low))

code_low : (s : Subfield) → is_subfield s ≡ true → s.code < 128
unfolding is_subfield
code_low s valid = grind (arith, nat_tests, common_steps)

first_valid : (s : Subfield) (others : List Subfield) → list_all is_subfield (s ∷ others) ≡ true → is_subfield s ≡ true
first_valid s others h = grind (arith, common_steps)

others_valid : (s : Subfield) (others : List Subfield) → list_all is_subfield (s ∷ others) ≡ true → list_all is_subfield others ≡ true
others_valid s others h = grind (arith, common_steps)

push_valid : (xs : List Subfield) (s : Subfield) → list_all is_subfield xs ≡ true → is_subfield s ≡ true → list_all is_subfield (xs ++ s ∷ []) ≡ true
push_valid [] s h v = grind (arith, common_steps)
push_valid (x ∷ xs) s h v =
    let first : is_subfield x ≡ true = first_valid x xs h in
    let more : list_all is_subfield (xs ++ s ∷ []) ≡ true = push_valid xs s (others_valid x xs h) v in
    grind (arith, common_steps)

same_cut : (s : Subfield) (cut : Cut) → cut.code ≡ s.code → cut.text.now ≡ s.text → s ≡ record { code = cut.code; text = cut.text.now }
same_cut s cut c t = λ i. record { code = sym c i; text = sym t i }

-- what was cut off a text, and the rest, are texts
pub cut_off_texts : (text rest : List ℕ) (subfields : List Subfield) (cut : Cut) → IsCutUpTo text rest subfields
    → rest ≡ delimiter ∷ cut.code ∷ (cut.text.now ++ cut.rest.now) → ((others : List Subfield) → Spells others rest → IsFirstOf others (Some cut))
    → AreTexts cut.text.now cut.rest.now
cut_off_texts text rest subfields cut c parts first = off c.others c.spells (first c.others c.spells) where
  off : (others : List Subfield) → Spells others rest → IsFirstOf others (Some cut) → AreTexts cut.text.now cut.rest.now
  off [] spells found = absurd found
  off (s ∷ others) spells found =
      cut_texts cut.code cut.text.now cut.rest.now
      (rw found.code (code_low s (first_valid s others spells.valid)))
      (subst (λ b. starts_subfield b ≡ true) found.rest.whole (starts-subfields others))
      (subst IsUtf8 parts c.utf8)

joined : (text rest : List ℕ) (subfields : List Subfield) (cut : Cut) → flat_map subfield_bytes subfields ++ rest ≡ text
    → rest ≡ delimiter ∷ cut.code ∷ (cut.text.now ++ cut.rest.now)
    → flat_map subfield_bytes (subfields ++ record { code = cut.code; text = cut.text.now } ∷ []) ++ cut.rest.now ≡ text
unfolding subfield_bytes
joined text rest subfields cut done parts =
    let new : Subfield = record { code = cut.code; text = cut.text.now } in
    ap (λ l. l ++ cut.rest.now) (flat_map-append subfield_bytes subfields (new ∷ []))
    ∙ append_assoc (flat_map subfield_bytes subfields) (flat_map subfield_bytes (new ∷ [])) cut.rest.now
    ∙ ap (λ l. flat_map subfield_bytes subfields ++ (l ++ cut.rest.now)) (append-nil (subfield_bytes new))
    ∙ ap (λ l. flat_map subfield_bytes subfields ++ l) (sym parts) ∙ done

-- one more subfield is cut off
pub cut_more : (text rest : List ℕ) (subfields : List Subfield) (cut : Cut) → IsCutUpTo text rest subfields
    → rest ≡ delimiter ∷ cut.code ∷ (cut.text.now ++ cut.rest.now) → ((others : List Subfield) → Spells others rest → IsFirstOf others (Some cut))
    → IsCutUpTo text cut.rest.now (subfields ++ record { code = cut.code; text = cut.text.now } ∷ [])
cut_more text rest subfields cut c parts first = more c.others c.spells (first c.others c.spells) where
  more : (others : List Subfield) → Spells others rest → IsFirstOf others (Some cut)
      → IsCutUpTo text cut.rest.now (subfields ++ record { code = cut.code; text = cut.text.now } ∷ [])
  more [] spells found = absurd found
  more (s ∷ others) spells found = record {
    others = others;
    spells = found.rest;
    done = joined text rest subfields cut c.done parts;
    valid = push_valid subfields (record { code = cut.code; text = cut.text.now }) c.valid
        (subst (λ x. is_subfield x ≡ true) (same_cut s cut found.code found.text) (first_valid s others spells.valid));
    utf8 = (cut_off_texts text rest subfields cut c parts first).second;
  }
