-- Bounds that are chosen of keys in their order.
use Rattle.std.proofs.Common.{◌≡◌, ◌∙◌, ◌⊎◌, inl, inr, ℕ, ◌+◌, ◌-◌, ◌*◌, ◌/◌, ◌≤◌, ◌<◌, false, List, [], ◌∷◌, ◌++◌, length, get_or, refl, sym, ap, subst, arith}
use Rattle.std.specs.List.Sorted.{IsSorted}
use Rattle.std.specs.Ordering.{is_lt}
use Rattle.std.proofs.lemmas.Nat.{mul-le, mul-add-lt, div_below, le-div, div-add-mod'}
use Rattle.std.proofs.lemmas.List.{get_or_push, get_or_default, length_push}
use Rattle.std.proofs.lemmas.List.Kept.{IsSortedBy-push}
use Rattle.std.proofs.lemmas.List.Sorted.{sorted_far, ranks_by}
use Rattle.marc_types.specs.Order.{key_cmp, key_cmp_total}
use Rattle.marc_types.specs.declared.key.Key.{Key}

-- ---- places

pub place_fits : (part parts len : ℕ) → part < parts → parts ≤ 1024 → len ≤ 65536 → part * len ≤ 67108864
place_fits part parts len less few most = let small : part ≤ 1024 = omega (arith, less, few) in mul-le part len 1024 65536 small most

pub place_within : (part parts len : ℕ) → part < parts → 0 < len → part * len / parts < len
place_within part parts len less some =
    let under = mul-add-lt part len 0 parts less some in
    div_below (part * len) parts len (omega (arith, less)) (omega (arith, under))

place_later : (part len parts : ℕ) → 0 < parts → (part - 1) * len / parts ≤ part * len / parts
place_later part len parts some =
    let front = div-add-mod' ((part - 1) * len) parts in
    let grows = mul-le (part - 1) len part len (omega arith) (omega arith) in
    le-div ((part - 1) * len / parts) (part * len) parts some (omega (arith, front, grows))

-- ---- the bounds so far

pub record AreChosen (keys bounds : List Key) (parts part : ℕ) : Type 0 where
  pub many : length bounds + 1 ≡ part
  pub ascend : IsSorted key_cmp bounds
  pub last : (d : Key) → 0 < length bounds → get_or bounds (length bounds - 1) d ≡ get_or keys ((part - 1) * length keys / parts) d

pub chosen_none : (keys bounds : List Key) (parts : ℕ) → bounds ≡ [] → AreChosen keys bounds parts 1
chosen_none keys bounds parts none = subst (λ b. AreChosen keys b parts 1) (sym none) (record {
  many = omega arith;
  ascend = λ k d low high. absurd (omega (arith, high));
  last = λ d some. absurd (omega (arith, some));
})

pub chosen_more : (keys bounds : List Key) (parts part : ℕ) (key : Key) → part < parts → 0 < length keys → IsSorted key_cmp keys → AreChosen keys bounds parts part
    → key ≡ get_or keys (part * length keys / parts) key → AreChosen keys (bounds ++ key ∷ []) parts (part + 1)
chosen_more keys bounds parts part key less some up so_far is =
    let place = part * length keys / parts in
    let within = place_within part parts (length keys) less some in
    let size = length_push bounds key in
    let many = so_far.many in record {
      many = omega (arith, size, many);
      ascend = IsSortedBy-push (λ x y. is_lt (key_cmp x y)) bounds key so_far.ascend
          (λ d has.
          subst (λ y. is_lt (key_cmp y (get_or bounds (length bounds - 1) d)) ≡ false) (sym (is ∙ get_or_default keys place key d within))
          (subst (λ x. is_lt (key_cmp (get_or keys place d) x) ≡ false) (sym (so_far.last d has))
          (sorted_far (λ x y. is_lt (key_cmp x y)) (ranks_by key_cmp_total (λ x. x)) keys up ((part - 1) * length keys / parts) place d
          (place_later part (length keys) parts (omega (arith, less))) within)));
      last = λ d has.
          let at : length (bounds ++ key ∷ []) - 1 ≡ length bounds = omega (arith, size) in
          let next : part + 1 - 1 ≡ part = omega arith in
          subst (λ n. get_or (bounds ++ key ∷ []) n d ≡ get_or keys ((part + 1 - 1) * length keys / parts) d) (sym at)
          (subst (λ n. get_or (bounds ++ key ∷ []) (length bounds) d ≡ get_or keys (n * length keys / parts) d) (sym next)
          (get_or_push bounds key d (length bounds) refl ∙ is ∙ get_or_default keys place key d within));
    }

pub bounds_chosen : (keys bounds : List Key) (parts : ℕ) → AreChosen keys bounds parts parts → (length bounds + 1 ≡ parts) ⊎ ((keys ≡ []) × (bounds ≡ []))
bounds_chosen keys bounds parts chosen = inl chosen.many

-- the same of the keys in the order in which they came
pub bounds_unsorted : (keys sorted bounds : List Key) (parts : ℕ) → length sorted ≡ length keys → (length bounds + 1 ≡ parts) ⊎ ((sorted ≡ []) × (bounds ≡ []))
    → (length bounds + 1 ≡ parts) ⊎ ((keys ≡ []) × (bounds ≡ []))
bounds_unsorted keys sorted bounds parts same (inl many) = inl many
bounds_unsorted [] sorted bounds parts same (inr none) = inr (refl, none.1)
bounds_unsorted (key ∷ keys) sorted bounds parts same (inr none) = absurd (omega (arith, same, ap length none.0))
