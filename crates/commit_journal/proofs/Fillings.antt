-- How the parts of a buffer are filled, one after another.
use Rattle.std.proofs.Common.{◌≡◌, ℕ, ◌+◌, ◌≤◌, List, ◌++◌, length, take, drop, sym, ap, ◌∙◌, arith, take-append-drop, length-append}
use Rattle.std.proofs.Math.Seq.{take-append-add}
use Rattle.std.proofs.lemmas.List.{length-take-le, take-append-le, drop-take}
use Rattle.std.proofs.lemmas.Grind.{common_steps}
use borrow.Rule.Slice.PartMut.{put_mid, post_of}

part_front : (a k n : ℕ) (xs ys : List ℕ) → a ≤ length xs → n ≤ length ys → take (a + n) (put_mid a k xs ys) ≡ take a xs ++ take n ys
part_front a k n xs ys in_xs in_ys =
    let len : length (take a xs) ≡ a = length-take-le a xs in_xs in
    ap (λ m. take (m + n) (take a xs ++ (ys ++ post_of a k xs))) (sym len) ∙ take-append-add (take a xs) (ys ++ post_of a k xs) n ∙ ap (λ l. take a xs ++ l) (take-append-le n ys (post_of a k xs) in_ys)

take_sum : (a n : ℕ) (xs : List ℕ) → take (a + n) xs ≡ take a xs ++ take n (drop a xs)
take_sum a n xs = grind (arith, common_steps, take-append-drop a (take (a + n) xs), drop-take a n xs)

-- so many bytes more are those that stand there
pub filled_more : (a k n at : ℕ) (xs ys bytes : List ℕ) → a ≤ length xs → n ≤ length ys → take a xs ≡ take a (drop at bytes) → take n ys ≡ take n (drop (at + a) bytes)
    → take (a + n) (put_mid a k xs ys) ≡ take (a + n) (drop at bytes)
filled_more a k n at xs ys bytes in_xs in_ys before more =
    part_front a k n xs ys in_xs in_ys ∙ ap (λ l. l ++ take n ys) before ∙ ap (λ l. take a (drop at bytes) ++ l) more ∙ sym (again (drop-twice))
  where
    drop-twice : drop a (drop at bytes) ≡ drop (at + a) bytes
    drop-twice = grind (arith, common_steps)

    again : drop a (drop at bytes) ≡ drop (at + a) bytes → take (a + n) (drop at bytes) ≡ take a (drop at bytes) ++ take n (drop (at + a) bytes)
    again twice = take_sum a n (drop at bytes) ∙ ap (λ l. take a (drop at bytes) ++ take n l) twice

-- and within the buffer
pub filled_within : (a k n : ℕ) (xs ys : List ℕ) → a ≤ length xs → n ≤ length ys → a + n ≤ length (put_mid a k xs ys)
filled_within a k n xs ys in_xs in_ys =
    let len : length (take a xs) ≡ a = length-take-le a xs in_xs in
    omega (arith, len, length-append (take a xs) (ys ++ post_of a k xs), length-append ys (post_of a k xs))
