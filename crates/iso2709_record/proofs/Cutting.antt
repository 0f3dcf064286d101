-- Subfields that are cut off one after the other.
use Rattle.std.proofs.Common.{◌≡◌, ◌≢◌, ℕ, ◌≤◌, true, false, ◌==◌, List, [], ◌∷◌, ◌++◌, length, take, drop, take-append-drop, Option, Some, None, lit≤, refl, sym, ap, ◌∙◌, arith, subst, unwrap_or}
use Rattle.std.specs.List.{list_any, list_all, flat_map}
use Rattle.std.proofs.lemmas.Bool.{and_parts, and_from, or_parts, eqb-true, ne_eqb, both_ways, true≢false, leb-true}
use Rattle.std.proofs.lemmas.List.{drop_more, drop_all}
use Rattle.memchr.specs.Find.{IsFirstByte, is_byte}
use Rattle.marc_types.specs.declared.field.Subfield.{Subfield}
use Rattle.marc_types.specs.Valid.{is_graphic, is_data, is_text, is_subfield}
use Rattle.iso2709_record.specs.declared.subfields.Cut.{Cut}
use Rattle.iso2709_record.specs.Written.{delimiter, subfield_bytes}
use Rattle.iso2709_record.specs.Faults.{codes_follow, starts_subfield, is_subfield_data}
use Rattle.iso2709_record.specs.Spelling.{Spells, IsFirstOf}
use Rattle.iso2709_record.proofs.Endings.{none_before}
use Rattle.iso2709_record.proofs.Terminators.{text_has_none}

-- where the first delimiter stands, or the end
pub record IsTextEnd (bytes : List ℕ) (end : ℕ) : Type 0 where
  pub within : end ≤ length bytes
  pub text : list_any (λ b. b == delimiter) (take end bytes) ≡ false
  pub rest : starts_subfield (drop end bytes) ≡ true

pub text_end : (bytes : List ℕ) (found : Option ℕ) → IsFirstByte (is_byte delimiter) bytes found → IsTextEnd bytes (unwrap_or found (length bytes))
text_end bytes None none = record {
  within = omega arith;
  text = none_before delimiter bytes (length bytes) (omega arith) (λ k lt. none k (omega arith) lt);
  rest = ap starts_subfield (drop_all (length bytes) bytes (omega arith));
}
text_end bytes (Some place) found = record {
  within = omega (arith, found.0.high);
  text = none_before delimiter bytes place (omega (arith, found.0.high)) (λ k lt. found.0.before k (omega arith) lt);
  rest = rw (drop_more bytes place 0 found.0.high) found.1;
}

pub graphic_is_no_delimiter : (c : ℕ) → is_graphic c ≡ true → (c == delimiter) ≡ false
graphic_is_no_delimiter c graphic = let low : 33 ≤ c = leb-true _ _ (and_parts _ _ graphic).0 in ne_eqb c delimiter (λ e. omega arith)

-- a text changes nothing of what follows
pub codes_follow-text : (text rest : List ℕ) → list_any (λ b. b == delimiter) text ≡ false → codes_follow (text ++ rest) ≡ codes_follow rest
codes_follow-text [] rest none = refl
codes_follow-text (b ∷ text) rest none =
    let parts : ((b == delimiter) ≡ false) × (list_any (λ b. b == delimiter) text ≡ false) = or_parts _ _ none in
    rw parts.0 (codes_follow-text text rest parts.1)

-- the codes behind a text without delimiters are those of all
pub behind_text : (bytes : List ℕ) (end : ℕ) → list_any (λ b. b == delimiter) (take end bytes) ≡ false → codes_follow (drop end bytes) ≡ codes_follow bytes
behind_text bytes end none =
    sym (codes_follow-text (take end bytes) (drop end bytes) none) ∙ ap codes_follow (take-append-drop end bytes)

-- behind a delimiter and a code the codes go on, and without a code they don't
pub code_follows : (code : ℕ) (rest : List ℕ) → is_graphic code ≡ true → codes_follow (delimiter ∷ code ∷ rest) ≡ codes_follow rest
code_follows code rest graphic = rw (graphic, graphic_is_no_delimiter code graphic) refl

pub code_fails : (code : ℕ) (rest : List ℕ) → is_graphic code ≡ false → codes_follow (delimiter ∷ code ∷ rest) ≡ false
code_fails code rest other = rw other refl

-- where no delimiter with one more byte begins, the codes end with the bytes, or a delimiter has none
pub codes_end : (bytes : List ℕ) → ((code : ℕ) (rest : List ℕ) → bytes ≢ delimiter ∷ code ∷ rest) → starts_subfield bytes ≡ true
    → codes_follow bytes ≡ (length bytes == 0)
codes_end [] other starts = refl
codes_end (b ∷ []) other starts = rw starts refl
codes_end (b ∷ c ∷ bs) other starts = absurd (other c bs (ap (λ x. x ∷ c ∷ bs) (eqb-true b delimiter starts)))

-- behind a first subfield stand subfields
pub cut_follows : (code : ℕ) (text rest : List ℕ) → list_any (λ b. b == delimiter) text ≡ false → starts_subfield rest ≡ true
    → is_subfield_data (delimiter ∷ code ∷ (text ++ rest)) ≡ true → (is_graphic code ≡ true) × (is_subfield_data rest ≡ true)
unfolding is_subfield_data
cut_follows code text rest none starts good =
    let parts = and_parts (is_graphic code) (codes_follow (code ∷ (text ++ rest))) good in
    let others : codes_follow (text ++ rest) ≡ true = rw (graphic_is_no_delimiter code parts.0) at parts.1 in
    (parts.0, and_from _ _ starts (sym (codes_follow-text text rest none) ∙ others))

-- where no subfield begins, nothing is left
pub cut_none : (bytes : List ℕ) → ((code : ℕ) (rest : List ℕ) → bytes ≢ delimiter ∷ code ∷ rest) → is_subfield_data bytes ≡ true → bytes ≡ []
unfolding is_subfield_data
cut_none [] other good = refl
cut_none (b ∷ []) other good =
    let parts : ((b == delimiter) ≡ true) × (codes_follow (b ∷ []) ≡ true) = and_parts _ _ good in
    let follows : false ≡ true = rw parts.0 at parts.1 in
    absurd (true≢false (sym follows))
cut_none (b ∷ c ∷ bs) other good =
    let parts : ((b == delimiter) ≡ true) × (codes_follow (b ∷ c ∷ bs) ≡ true) = and_parts _ _ good in
    absurd (other c bs (ap (λ x. x ∷ c ∷ bs) (eqb-true b delimiter parts.0)))

-- a text before what starts with a delimiter is cut in one way
text_cut_once : (t u x y : List ℕ) → list_any (λ b. b == delimiter) t ≡ false → list_any (λ b. b == delimiter) u ≡ false
    → starts_subfield x ≡ true → starts_subfield y ≡ true → t ++ x ≡ u ++ y → (t ≡ u) × (x ≡ y)
text_cut_once [] [] x y p q m n e = (refl, e)
text_cut_once [] (b ∷ u) x y p q m n e =
    let starts : (b == delimiter) ≡ true = subst (λ l. starts_subfield l ≡ true) e m in
    absurd (both_ways _ (or_parts _ _ q).0 starts)
text_cut_once (a ∷ t) [] x y p q m n e =
    let starts : (a == delimiter) ≡ true = subst (λ l. starts_subfield l ≡ true) (sym e) n in
    absurd (both_ways _ (or_parts _ _ p).0 starts)
text_cut_once (a ∷ t) (b ∷ u) x y p q m n e =
    let head : a ≡ b = cc in
    let tail : t ++ x ≡ u ++ y = cc in
    let rest = text_cut_once t u x y (or_parts _ _ p).1 (or_parts _ _ q).1 m n tail in
    let same : t ≡ u = rest.0 in
    (cc, rest.1)

-- a valid text has no delimiter
pub text_uncut : (text : List ℕ) → list_all is_data text ≡ true → list_any (λ b. b == delimiter) text ≡ false
text_uncut text valid = text_has_none delimiter text (lit≤ tt) (lit≤ tt) valid

pub subfield_uncut : (s : Subfield) → is_subfield s ≡ true → list_any (λ b. b == delimiter) s.text ≡ false
unfolding is_subfield is_text
subfield_uncut s h = text_uncut s.text (and_parts _ _ h).1

pub starts-subfields : (subfields : List Subfield) → starts_subfield (flat_map subfield_bytes subfields) ≡ true
unfolding subfield_bytes
starts-subfields [] = refl
starts-subfields (s ∷ ss) = refl

pub cut_first : (bytes : List ℕ) (cut : Cut) (subfields : List Subfield) → bytes ≡ delimiter ∷ cut.code ∷ (cut.text.now ++ cut.rest.now)
    → list_any (λ b. b == delimiter) cut.text.now ≡ false → starts_subfield cut.rest.now ≡ true → Spells subfields bytes → IsFirstOf subfields (Some cut)
unfolding subfield_bytes
cut_first bytes cut [] parts none starts spelled = let nothing : [] ≡ bytes = spelled.whole in cc
cut_first bytes cut (s ∷ ss) parts none starts spelled =
    let e : delimiter ∷ s.code ∷ (s.text ++ flat_map subfield_bytes ss) ≡ delimiter ∷ cut.code ∷ (cut.text.now ++ cut.rest.now) = spelled.whole ∙ parts in
    let code : s.code ≡ cut.code = cc in
    let behind : s.text ++ flat_map subfield_bytes ss ≡ cut.text.now ++ cut.rest.now = cc in
    let valid : (is_subfield s ≡ true) × (list_all is_subfield ss ≡ true) = and_parts _ _ spelled.valid in
    let texts = text_cut_once s.text cut.text.now (flat_map subfield_bytes ss) cut.rest.now (subfield_uncut s valid.0) none (starts-subfields ss) starts behind in
    record { code = sym code; text = sym texts.0; rest = record { valid = valid.1; whole = texts.1 } }

pub cut_of_none : (bytes : List ℕ) (subfields : List Subfield) → ((code : ℕ) (rest : List ℕ) → bytes ≢ delimiter ∷ code ∷ rest) → Spells subfields bytes
    → IsFirstOf subfields None
unfolding subfield_bytes
cut_of_none bytes [] other spelled = tt
cut_of_none bytes (s ∷ ss) other spelled = other s.code (s.text ++ flat_map subfield_bytes ss) (sym spelled.whole)
