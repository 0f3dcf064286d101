-- Where the last line of some bytes begins.
use Rattle.std.proofs.Common.{◌≡◌, ◌≢◌, inl, inr, ℕ, zero, suc, ◌+◌, ◌-◌, ◌<◌, ◌≤◌, Bool, true, false, List, [], ◌∷◌, ◌++◌, length, take, drop, get_or, nat_lt, Some, None, refl, sym, ap, ◌∙◌, arith, eq-eqb, eqb-true, ltb-true, ltb-false, length-take, length-drop, length-append}
use Rattle.std.specs.Prelude.{All}
use Rattle.std.proofs.lemmas.List.{take_more, get_or-take, get_or-drop}
use Rattle.std.proofs.lemmas.List.Elements.{All-from_get_or}
use Rattle.memchr.specs.Find.{IsLastByte, is_byte}
use Rattle.parts_commands.specs.Reports.{AreLines, IsLastLine}

-- a byte of a stretch is one of the whole
in_stretch : (bytes : List ℕ) (n place i : ℕ) → i < length (take n (drop place bytes)) → get_or (take n (drop place bytes)) i 0 ≡ get_or bytes (place + i) 0
in_stretch bytes n place i within = grind (arith, get_or-take, get_or-drop, length-take, length-drop)

in_front : (bytes : List ℕ) (n i : ℕ) → i < length (take n bytes) → get_or (take n bytes) i 0 ≡ get_or bytes i 0
in_front bytes n i within = get_or-take n bytes i 0 (omega (arith, length-take n bytes))

-- a search that finds a line's end before the last byte
pub found_last : (bytes : List ℕ) (end at : ℕ) → end ≡ length bytes - 1 → IsLastByte (is_byte 10) (take end bytes) (Some at) → IsLastLine bytes (at + 1)
found_last bytes end at is last =
    let size = length-take end bytes in
    let high = last.0.high in
    let byte : get_or bytes at 0 ≡ 10 = sym (in_front bytes end at high) ∙ eqb-true (get_or (take end bytes) at 0) 10 last.1 in
    let n : ℕ = length bytes - 1 - (at + 1) in
    record {
      within = omega (arith, size, high, is);
      begins = inr (take at bytes, take_more bytes at 0 (omega (arith, size, high)) ∙ ap (λ b. take at bytes ++ b ∷ []) byte);
      alone = All-from_get_or (λ b. b ≢ 10) (take n (drop (at + 1) bytes)) 0 (λ i within same.
          let len = length-take n (drop (at + 1) bytes) in
          let low : at + 1 + i < length (take end bytes) = omega (arith, size, len, within, is, high) in
          let here = in_front bytes end (at + 1 + i) low ∙ sym (in_stretch bytes n (at + 1) i within) ∙ same in
          last.0.after (at + 1 + i) (omega arith) low (eq-eqb (get_or (take end bytes) (at + 1 + i) 0) 10 here));
    }

-- and one that finds none
pub found_none : (bytes : List ℕ) (end : ℕ) → end ≡ length bytes - 1 → IsLastByte (is_byte 10) (take end bytes) None → IsLastLine bytes 0
found_none bytes end is none =
    let size = length-take end bytes in
    let n : ℕ = length bytes - 1 - 0 in
    record {
      within = omega arith;
      begins = inl refl;
      alone = All-from_get_or (λ b. b ≢ 10) (take n (drop 0 bytes)) 0 (λ i within same.
          let len = length-take n (drop 0 bytes) in
          let whole = length-drop 0 bytes in
          let low : i < length (take end bytes) = omega (arith, size, len, whole, within, is) in
          let place : 0 + i ≡ i = omega arith in
          let here = in_front bytes end i low ∙ ap (λ k. get_or bytes k 0) (sym place) ∙ sym (in_stretch bytes n 0 i within) ∙ same in
          none i (omega arith) low (eq-eqb (get_or (take end bytes) i 0) 10 here));
    }

-- ---- a line's end is where one stands

behind_front : (front rest : List ℕ) → get_or ((front ++ 10 ∷ []) ++ rest) (length front) 0 ≡ 10
behind_front [] rest = refl
behind_front (x ∷ front) rest = behind_front front rest

at_end : (front rest : List ℕ) (b : ℕ) → get_or (front ++ b ∷ rest) (length front) 0 ≡ b
at_end [] rest b = refl
at_end (x ∷ front) rest b = at_end front rest b

inside_first : (body rest : List ℕ) (j : ℕ) → j < length body → get_or (body ++ rest) j 0 ≡ get_or body j 0
inside_first [] rest j within = absurd (omega (arith, within))
inside_first (b ∷ body) rest zero within = refl
inside_first (b ∷ body) rest (suc j) within = inside_first body rest j (omega (arith, within))

inside : (before body rest : List ℕ) (j : ℕ) → j < length body → get_or (before ++ (body ++ rest)) (length before + j) 0 ≡ get_or body j 0
inside [] body rest j within =
    let place : 0 + j ≡ j = omega arith in
    ap (λ k. get_or (body ++ rest) k 0) place ∙ inside_first body rest j within
inside (x ∷ before) body rest j within =
    let place : length (x ∷ before) + j ≡ suc (length before + j) = omega arith in
    ap (λ k. get_or (x ∷ (before ++ (body ++ rest))) k 0) place ∙ inside before body rest j within

module _ (bytes before body : List ℕ) (place : ℕ) (is : bytes ≡ before ++ (body ++ 10 ∷ [])) (lines : AreLines before) (plain : All (λ b. b ≢ 10) body)
    (last : IsLastLine bytes place) where
  size : length bytes ≡ length before + (length body + 1)
  size = ap length is ∙ omega (arith, length-append before (body ++ 10 ∷ []), length-append body (10 ∷ []))

  no_earlier : place < length before → ⊥
  no_earlier less = by lines
    where
      by : AreLines before → ⊥
      by (inl e) = absurd (omega (arith, less, ap length e))
      by (inr found) =
          let front : List ℕ = found.0 in
          let len : length before ≡ length front + 1 = ap length found.1 ∙ omega (arith, length-append front (10 ∷ [])) in
          let n : ℕ = length bytes - 1 - place in
          let at : ℕ = length front - place in
          let there : place + at ≡ length front = omega (arith, less, len) in
          let byte : get_or bytes (length front) 0 ≡ 10 =
          ap (λ l. get_or l (length front) 0) (is ∙ ap (λ l. l ++ (body ++ 10 ∷ [])) found.1) ∙ behind_front front (body ++ 10 ∷ []) in
          let low : at < length (take n (drop place bytes)) = omega (arith, less, len, size, length-take n (drop place bytes), length-drop place bytes) in
          last.alone at 0 low (in_stretch bytes n place at low ∙ ap (λ k. get_or bytes k 0) there ∙ byte)

  no_later : length before < place → ⊥
  no_later less = by last.begins
    where
      by : AreLines (take place bytes) → ⊥
      by (inl e) = absurd (omega (arith, less, ap length e, length-take place bytes, size))
      by (inr found) =
          let front : List ℕ = found.0 in
          let len : length (take place bytes) ≡ length front + 1 = ap length found.1 ∙ omega (arith, length-append front (10 ∷ [])) in
          let within = last.within in
          let all = length-take place bytes in
          let j : ℕ = length front - length before in
          let there : length before + j ≡ length front = omega (arith, less, len, all, size, within) in
          let low : j < length body = omega (arith, less, len, all, size, within) in
          let byte : get_or bytes (length front) 0 ≡ 10 =
          sym (in_front bytes place (length front) (omega (arith, len))) ∙ ap (λ l. get_or l (length front) 0) found.1 ∙ at_end front [] 10 in
          plain j 0 low (sym (inside before body (10 ∷ []) j low) ∙ ap (λ k. get_or (before ++ (body ++ 10 ∷ [])) k 0) there
          ∙ ap (λ l. get_or l (length front) 0) (sym is) ∙ byte)

  -- the last line begins where it does
  pub one_place : place ≡ length before
  one_place = earlier (nat_lt place (length before)) refl
    where
      later : (less : Bool) → nat_lt (length before) place ≡ less → length before ≤ place → place ≡ length before
      later true e low = absurd (no_later (ltb-true (length before) place e))
      later false e low = omega (arith, low, ltb-false (length before) place e)

      earlier : (less : Bool) → nat_lt place (length before) ≡ less → place ≡ length before
      earlier true e = absurd (no_earlier (ltb-true place (length before) e))
      earlier false e = later (nat_lt (length before) place) refl (ltb-false place (length before) e)
