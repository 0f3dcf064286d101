-- One walk over postings finds the groups of two or more.
use Rattle.std.proofs.Common.{◌≡◌, ◌∙◌, Bool, true, false, cond, List, [], ◌∷◌, ◌++◌, refl, sym, ap, append_assoc, if◌then◌else◌}
use Rattle.std.specs.Prelude.{filter}
use Rattle.marc_types.specs.Order.{text_Decides}
use Rattle.match_report.specs.Postings.{Posting}
use Rattle.match_report.specs.Groups.{NumberGroup, number_group, same_number, joined, groups_of, is_match}
use Rattle.match_report.specs.Walk.{matching, matches_from}
use Rattle.match_report.specs.declared.number.Number.{Number}
use Rattle.match_report.specs.declared.number.Number.TheVariants.{Isbn, Lccn}

same_is : (m n : Number) → same_number m n ≡ true → m ≡ n
same_is (Isbn a) (Isbn b) h = ap (λ t. Isbn t) ((text_Decides a b).0 h)
same_is (Isbn a) (Lccn b) h = cc
same_is (Lccn a) (Isbn b) h = cc
same_is (Lccn a) (Lccn b) h = ap (λ t. Lccn t) ((text_Decides a b).0 h)

-- a group before others: it takes the first where that is of its number
abbrev merged : NumberGroup → List NumberGroup → List NumberGroup
merged g [] = g ∷ []
merged g (x ∷ xs) = if same_number g.number x.number then number_group g.number (g.keys ++ x.keys) ∷ xs else g ∷ x ∷ xs

abbrev alone : Posting → NumberGroup
alone h = number_group h.number (h.key ∷ [])

joined_merged : (h : Posting) (gs : List NumberGroup) → joined h gs ≡ merged (alone h) gs
joined_merged h [] = refl
joined_merged h (g ∷ gs) = refl

merged_same : (g : NumberGroup) (h : Posting) → same_number g.number h.number ≡ true → (gs : List NumberGroup) →
    merged g (merged (alone h) gs) ≡ merged (number_group g.number (g.keys ++ h.key ∷ [])) gs
merged_same g h same [] = rw same refl
merged_same g h same (x ∷ xs) = at (same_number h.number x.number) refl
  where
    is : g.number ≡ h.number
    is = same_is g.number h.number same

    also : (b : Bool) → same_number h.number x.number ≡ b → same_number g.number x.number ≡ b
    also b e = ap (λ n. same_number n x.number) is ∙ e

    at : (b : Bool) → same_number h.number x.number ≡ b → merged g (merged (alone h) (x ∷ xs)) ≡ merged (number_group g.number (g.keys ++ h.key ∷ [])) (x ∷ xs)
    at true e = rw (e, also true e, same) (ap (λ keys. number_group g.number keys ∷ xs) (sym (append_assoc g.keys (h.key ∷ []) x.keys)))
    at false e = rw (e, also false e, same) refl

merged_other : (g : NumberGroup) (h : Posting) → same_number g.number h.number ≡ false → (gs : List NumberGroup) → merged g (merged (alone h) gs) ≡ g ∷ merged (alone h) gs
merged_other g h other [] = rw other refl
merged_other g h other (x ∷ xs) = at (same_number h.number x.number) refl
  where
    at : (b : Bool) → same_number h.number x.number ≡ b → merged g (merged (alone h) (x ∷ xs)) ≡ g ∷ merged (alone h) (x ∷ xs)
    at true e = rw (e, other) refl
    at false e = rw (e, other) refl

match_first : (g : NumberGroup) (gs : List NumberGroup) → filter is_match (g ∷ gs) ≡ matching g ++ filter is_match gs
match_first g gs = at (is_match g)
  where
    at : (b : Bool) → cond b (g ∷ filter is_match gs) (filter is_match gs) ≡ (if b then g ∷ [] else []) ++ filter is_match gs
    at true = refl
    at false = refl

walked : (g : NumberGroup) (hs : List Posting) → matches_from g hs ≡ filter is_match (merged g (groups_of hs))
walked g [] = refl
walked g (h ∷ hs) =
    at (same_number g.number h.number) refl (walked (number_group g.number (g.keys ++ h.key ∷ [])) hs) (walked (alone h) hs)
    ∙ ap (λ gs. filter is_match (merged g gs)) (sym (joined_merged h (groups_of hs)))
  where
    at : (b : Bool) → same_number g.number h.number ≡ b →
        matches_from (number_group g.number (g.keys ++ h.key ∷ [])) hs ≡ filter is_match (merged (number_group g.number (g.keys ++ h.key ∷ [])) (groups_of hs)) →
        matches_from (alone h) hs ≡ filter is_match (merged (alone h) (groups_of hs)) →
        (if b then matches_from (number_group g.number (g.keys ++ h.key ∷ [])) hs else matching g ++ matches_from (alone h) hs)
        ≡ filter is_match (merged g (merged (alone h) (groups_of hs)))
    at true e joins other = joins ∙ ap (filter is_match) (sym (merged_same g h e (groups_of hs)))
    at false e joins other =
        ap (λ gs. matching g ++ gs) other ∙ sym (match_first g (merged (alone h) (groups_of hs)))
        ∙ ap (filter is_match) (sym (merged_other g h e (groups_of hs)))

pub matches_walked : (h : Posting) (hs : List Posting) → matches_from (number_group h.number (h.key ∷ [])) hs ≡ filter is_match (groups_of (h ∷ hs))
matches_walked h hs = walked (alone h) hs ∙ ap (filter is_match) (sym (joined_merged h (groups_of hs)))
