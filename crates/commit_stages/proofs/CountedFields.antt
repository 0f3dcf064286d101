-- The fields of one record are counted as they are settled.
use Rattle.std.proofs.Common.{◌≡◌, ◌∙◌, sym, ap, refl, subst, ℕ, ◌+◌, ◌<◌, ◌≤◌, arith, Bool, true, false, cond, List, [], ◌∷◌, length, take, get_or, map}
use Rattle.std.specs.List.{count_by}
use Rattle.std.proofs.lemmas.Grind.{common_steps}
use Rattle.std.proofs.lemmas.List.{take_all}
use Rattle.std.proofs.lemmas.List.Sums.{count_by-le-length, count_by_more_no, count_by_more_yes, sum_by-cons}
use Rattle.marc_types.specs.declared.field.Field.{Field}
use Rattle.marc_types.specs.declared.key.Class.{Class}
use Rattle.entry_record.specs.Authority.{Linkable}
use Rattle.catalogue_rules.specs.State.{KeptField, new_field}
use Rattle.catalogue_rules.specs.Settle.{settle_field}
use Rattle.catalogue_rules.specs.Receipt.{AmbiguousAmong, LinkedTo, Standing, WithoutHeading, WithoutLink, is_ambiguous, is_linked, is_unlinked, standing_of}
use Rattle.commit_stages.specs.Standing.{stands_as, stands_settled}
use Rattle.commit_stages.specs.declared.settled.Stands.{Stands}
use Rattle.commit_stages.specs.Counted.{AreCountsOf, HasRoom, count_settled, stands_ambiguous, stands_linked, stands_unlinked}
use Rattle.commit_stages.specs.declared.counts.HeadingCounts.{HeadingCounts}

linked_alike : (s : Standing) → stands_linked (stands_as s) ≡ is_linked s
linked_alike (LinkedTo key) = refl
linked_alike (AmbiguousAmong keys) = refl
linked_alike WithoutLink = refl
linked_alike WithoutHeading = refl

ambiguous_alike : (s : Standing) → stands_ambiguous (stands_as s) ≡ is_ambiguous s
ambiguous_alike (LinkedTo key) = refl
ambiguous_alike (AmbiguousAmong keys) = refl
ambiguous_alike WithoutLink = refl
ambiguous_alike WithoutHeading = refl

unlinked_alike : (s : Standing) → stands_unlinked (stands_as s) ≡ is_unlinked s
unlinked_alike (LinkedTo key) = refl
unlinked_alike (AmbiguousAmong keys) = refl
unlinked_alike WithoutLink = refl
unlinked_alike WithoutHeading = refl

-- ---- counting in general

count_made : {A B : Type 0} (p : B → Bool) (f : A → B) (xs : List A) → count_by p (map f xs) ≡ count_by (λ x. p (f x)) xs
count_made p f [] = refl
count_made p f (x ∷ xs) =
    sum_by-cons (λ y. cond (p y) 1 0) (f x) (map f xs)
    ∙ ap (λ (n : ℕ). cond (p (f x)) 1 0 + n) (count_made p f xs)
    ∙ sym (sum_by-cons (λ y. cond (p (f y)) 1 0) x xs)

one_more : {A : Type 0} (p : A → Bool) (xs : List A) (i n m : ℕ) (x : A) (b : Bool) → i < length xs → x ≡ get_or xs i x → b ≡ p x → n ≡ count_by p (take i xs) → m ≡ n + cond b 1 0
    → m ≡ count_by p (take (i + 1) xs)
one_more p xs i n m x true low at is so_far e = let more = count_by_more_yes p xs i x low (ap p (sym at) ∙ sym is) in omega (arith, more, so_far, e)
one_more p xs i n m x false low at is so_far e = let more = count_by_more_no p xs i x low (ap p (sym at) ∙ sym is) in omega (arith, more, so_far, e)

few : {A : Type 0} (p : A → Bool) (xs : List A) (i n : ℕ) → i < length xs → length xs ≤ 8331 → n ≡ count_by p (take i xs) → n < 8331
few p xs i n low most e =
    let all = count_by-le-length p (take i xs) in
    let short : length (take i xs) ≤ i = grind (arith, common_steps) in
    omega (arith, all, short, low, most, e)

-- ---- the fields of a record

module _ (all : List Linkable) (class : Class) where
  abbrev stands_so : (Standing → Bool) → Field → Bool
  stands_so test f = test (standing_of all class (settle_field all class (new_field f)))

  count_is : (test : Standing → Bool) (fields : List Field) → count_settled test all class fields ≡ count_by (stands_so test) fields
  count_is test fields =
      count_made (λ (h : KeptField). test (standing_of all class h)) (settle_field all class) (map new_field fields)
      ∙ count_made (λ (h : KeptField). test (standing_of all class (settle_field all class h))) new_field fields

  pub counts_begin : (fields : List Field) → AreCountsOf all class (take 0 fields) (record { linked = 0; ambiguous = 0; unlinked = 0 })
  counts_begin fields = record { linked = refl; ambiguous = refl; unlinked = refl }

  pub counts_end : (fields : List Field) (n : ℕ) (counts : HeadingCounts) → length fields ≤ n → AreCountsOf all class (take n fields) counts → AreCountsOf all class fields counts
  counts_end fields n counts past here = subst (λ (l : List Field). AreCountsOf all class l counts) (take_all n fields past) here

  module _ (fields : List Field) (i : ℕ) (low : i < length fields) where
    room_for : (test : Standing → Bool) (n : ℕ) → length fields ≤ 8331 → n ≡ count_settled test all class (take i fields) → n < 8331
    room_for test n most e = few (stands_so test) fields i n low most (e ∙ count_is test (take i fields))

    pub counts_room : (counts : HeadingCounts) → length fields ≤ 8331 → AreCountsOf all class (take i fields) counts → HasRoom counts
    counts_room counts most here = record {
      linked = room_for is_linked counts.linked most here.linked;
      ambiguous = room_for is_ambiguous counts.ambiguous most here.ambiguous;
      unlinked = room_for is_unlinked counts.unlinked most here.unlinked;
    }

    module _ (f : Field) (is : f ≡ get_or fields i f) where
      more_of : (test : Standing → Bool) (own : Stands → Bool) → ((s : Standing) → own (stands_as s) ≡ test s) → (stands : Stands) → stands ≡ stands_settled all class (new_field f)
          → (n m : ℕ) → n ≡ count_settled test all class (take i fields) → m ≡ n + cond (own stands) 1 0 → m ≡ count_settled test all class (take (i + 1) fields)
      more_of test own alike stands so n m here e =
          one_more (stands_so test) fields i n m f (own stands) low is
          (ap own so ∙ alike (standing_of all class (settle_field all class (new_field f)))) (here ∙ count_is test (take i fields)) e
          ∙ sym (count_is test (take (i + 1) fields))

      pub counts_go_on : (before now : HeadingCounts) (stands : Stands) → AreCountsOf all class (take i fields) before → stands ≡ stands_settled all class (new_field f)
          → now.linked ≡ before.linked + cond (stands_linked stands) 1 0 → now.ambiguous ≡ before.ambiguous + cond (stands_ambiguous stands) 1 0
          → now.unlinked ≡ before.unlinked + cond (stands_unlinked stands) 1 0 → AreCountsOf all class (take (i + 1) fields) now
      counts_go_on before now stands here so linked ambiguous unlinked = record {
        linked = more_of is_linked stands_linked linked_alike stands so before.linked now.linked here.linked linked;
        ambiguous = more_of is_ambiguous stands_ambiguous ambiguous_alike stands so before.ambiguous now.ambiguous here.ambiguous ambiguous;
        unlinked = more_of is_unlinked stands_unlinked unlinked_alike stands so before.unlinked now.unlinked here.unlinked unlinked;
      }
