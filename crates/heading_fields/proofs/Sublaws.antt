-- The laws of rewriting and unlinking, on lists of subfields.
use Rattle.std.proofs.Common.{◌≡◌, ◌≢◌, ◌+◌, ◌≤◌, Bool, true, false, not, cond, List, [], ◌∷◌, ◌++◌, filter, length, refl, sym, ap, ◌∙◌, append_assoc, append-nil, arith}
use Rattle.std.specs.List.{list_any}
use Rattle.std.proofs.lemmas.Grind.{common_steps}
use Rattle.std.proofs.lemmas.List.Elements.{filter-append}
use Rattle.marc_types.specs.declared.field.Subfield.{Subfield}
use Rattle.marc_types.specs.declared.key.Key.{Key}
use Rattle.marc_types.specs.declared.form.Kind.{Kind}
use Rattle.marc_types.specs.Valid.{subfields_size}
use Rattle.heading_fields.specs.Parts.{before, onward, is_dividing, region, behind, is_part, part, outside}
use Rattle.heading_fields.specs.Numbers.{is_naming, unnumbered, number_of, is_blankless}
use Rattle.heading_fields.specs.Rewriting.{front, rest, rewritten_subfields}
use Rattle.heading_fields.proofs.Passing.{Free, Full, each_append, before_free, onward_free, filter_free, filter_not_free, filter_full, filter_not_full, before_full, onward_full, filter_not_is_free, each_before, each_filter, each_onward, free_weaker, cut_filter}
use Rattle.heading_fields.proofs.Codes.{part_not_naming, dividing_not_naming, outside_not_dividing, outside_base, dividing_is_part, undivided_part, number_is_naming, length-key_text}
use Rattle.heading_fields.proofs.Pieces.{middle, laid, rewritten_is_laid, IsLaid, rewritten_pieces}

part_of_laid : (whole : Bool) (kind : Kind) (key : Key) (f h : List Subfield) (n : Subfield) (m b : List Subfield) → IsLaid whole kind key f h n m b →
    part whole kind (laid f h n m b) ≡ h
unfolding part
part_of_laid whole kind key f h n m b l =
    let p = is_part whole kind in
    ap (filter p) l.in_region
    ∙ filter-append p (f ++ h) (n ∷ m)
    ∙ rw (filter-append p f h, filter_free p f l.front_outside, filter_full p h l.heading_part, filter_free p (n ∷ m) (l.number_outside, l.middle_outside))
    (append-nil h)

-- a rewritten field has the heading's part as its own
pub part-rewritten : (whole : Bool) (kind : Kind) (key : Key) (heading subs : List Subfield) →
    part whole kind (rewritten_subfields whole kind key heading subs) ≡ part whole kind heading
part-rewritten whole kind key heading subs =
    ap (part whole kind) (rewritten_is_laid whole kind key heading subs)
    ∙ part_of_laid whole kind key _ _ _ _ _ (rewritten_pieces whole kind key heading subs)

front_of_laid : (whole : Bool) (kind : Kind) (key : Key) (f h : List Subfield) (n : Subfield) (m b : List Subfield) → IsLaid whole kind key f h n m b → h ≢ [] →
    unnumbered key (front whole kind (laid f h n m b)) ≡ f
unfolding front
front_of_laid whole kind key f h n m b l some =
    let p = is_part whole kind in
    let cut : before p ((f ++ h) ++ n ∷ m) ≡ f =
    rw (append_assoc f h (n ∷ m), before_free p f (h ++ n ∷ m) l.front_outside, before_full p h (n ∷ m) l.heading_part some) (append-nil f) in
    ap (λ xs. unnumbered key (before p xs)) l.in_region ∙ ap (unnumbered key) cut ∙ l.front_unnumbered

unnumbered_named : (key : Key) (n : Subfield) (m : List Subfield) → is_naming key n ≡ true → unnumbered key (n ∷ m) ≡ unnumbered key m
unnumbered_named key n m e = rw e refl

middle_of_laid : (whole : Bool) (kind : Kind) (key : Key) (f h : List Subfield) (n : Subfield) (m b : List Subfield) → IsLaid whole kind key f h n m b → h ≢ [] →
    is_naming key n ≡ true → unnumbered key (middle whole kind (laid f h n m b)) ≡ m
unfolding middle
middle_of_laid whole kind key f h n m b l some named =
    let p = is_part whole kind in
    let other = λ (s : Subfield). not (is_part whole kind s) in
    let cut : onward p ((f ++ h) ++ n ∷ m) ≡ h ++ n ∷ m =
    rw (append_assoc f h (n ∷ m), onward_free p f (h ++ n ∷ m) l.front_outside, onward_full p h (n ∷ m) l.heading_part some) refl in
    let left : filter other (h ++ n ∷ m) ≡ n ∷ m =
    filter-append other h (n ∷ m) ∙ rw (filter_not_full p h l.heading_part, filter_not_free p (n ∷ m) (l.number_outside, l.middle_outside)) refl in
    ap (λ xs. unnumbered key (filter other (onward p xs))) l.in_region ∙ ap (λ xs. unnumbered key (filter other xs)) cut ∙ ap (unnumbered key) left
    ∙ unnumbered_named key n m named ∙ l.middle_unnumbered

laid_again : (whole : Bool) (kind : Kind) (key : Key) (heading f h : List Subfield) (m b : List Subfield) → IsLaid whole kind key f h (number_of key) m b → h ≢ [] →
    is_naming key (number_of key) ≡ true → part whole kind heading ≡ h →
    rewritten_subfields whole kind key heading (laid f h (number_of key) m b) ≡ laid f h (number_of key) m b
laid_again whole kind key heading f h m b l some named same =
    rewritten_is_laid whole kind key heading (laid f h (number_of key) m b)
    ∙ rw (front_of_laid whole kind key f h (number_of key) m b l some, middle_of_laid whole kind key f h (number_of key) m b l some named, same, l.in_behind, l.behind_unnumbered) refl

-- rewriting twice is rewriting once
pub rewritten_subfields_twice : (whole : Bool) (kind : Kind) (key : Key) (heading subs : List Subfield) → is_blankless key ≡ true → part whole kind heading ≢ [] →
    rewritten_subfields whole kind key heading (rewritten_subfields whole kind key heading subs) ≡ rewritten_subfields whole kind key heading subs
rewritten_subfields_twice whole kind key heading subs filled some =
    let e = rewritten_is_laid whole kind key heading subs in
    ap (rewritten_subfields whole kind key heading) e
    ∙ laid_again whole kind key heading _ _ _ _ (rewritten_pieces whole kind key heading subs) some (number_is_naming key filled) refl
    ∙ sym e

outside_of_laid : (whole : Bool) (kind : Kind) (key : Key) (f h : List Subfield) (n : Subfield) (m b : List Subfield) → IsLaid whole kind key f h n m b →
    is_naming key n ≡ true → unnumbered key (outside whole kind (laid f h n m b)) ≡ f ++ (m ++ b)
unfolding outside
outside_of_laid whole kind key f h n m b l named =
    let p = is_part whole kind in
    let kept = λ (s : Subfield). not (is_naming key s) in
    let other = λ (s : Subfield). not (is_part whole kind s) in
    let left : filter other ((f ++ h) ++ n ∷ m) ≡ f ++ n ∷ m =
    filter-append other (f ++ h) (n ∷ m)
    ∙ rw (filter-append other f h, filter_not_free p f l.front_outside, filter_not_full p h l.heading_part, filter_not_free p (n ∷ m) (l.number_outside, l.middle_outside), append-nil f) refl in
    rw (l.in_region, l.in_behind, left) (filter-append kept (f ++ n ∷ m) b
    ∙ rw (filter-append kept f (n ∷ m), unnumbered_named key n m named, l.front_unnumbered, l.middle_unnumbered, l.behind_unnumbered) (append_assoc f m b))

-- the subfields outside a part, without the `$0` of a key, piece by piece
outside_in_pieces : (whole : Bool) (kind : Kind) (key : Key) (subs : List Subfield) →
    unnumbered key (outside whole kind subs) ≡ unnumbered key (front whole kind subs) ++ (unnumbered key (middle whole kind subs) ++ unnumbered key (behind whole subs))
unfolding outside front middle
outside_in_pieces whole kind key subs =
    let p = is_part whole kind in
    let kept = λ (s : Subfield). not (is_naming key s) in
    let other = λ (s : Subfield). not (is_part whole kind s) in
    ap (λ xs. unnumbered key (xs ++ behind whole subs)) (cut_filter p (region whole subs))
    ∙ rw (
      filter-append kept (before p (region whole subs) ++ filter other (onward p (region whole subs))) (behind whole subs),
      filter-append kept (before p (region whole subs)) (filter other (onward p (region whole subs))),
    )
    (append_assoc (unnumbered key (before p (region whole subs))) (unnumbered key (filter other (onward p (region whole subs)))) (unnumbered key (behind whole subs)))

-- rewriting keeps what stands outside the part, but for the `$0` of the key
pub outside-rewritten : (whole : Bool) (kind : Kind) (key : Key) (heading subs : List Subfield) → is_blankless key ≡ true →
    unnumbered key (outside whole kind (rewritten_subfields whole kind key heading subs)) ≡ unnumbered key (outside whole kind subs)
outside-rewritten whole kind key heading subs filled =
    ap (λ xs. unnumbered key (outside whole kind xs)) (rewritten_is_laid whole kind key heading subs)
    ∙ outside_of_laid whole kind key _ _ _ _ _ (rewritten_pieces whole kind key heading subs) (number_is_naming key filled)
    ∙ sym (outside_in_pieces whole kind key subs)

pub size-append : (xs ys : List Subfield) → subfields_size (xs ++ ys) ≡ subfields_size xs + subfields_size ys
size-append [] ys = omega arith
size-append (x ∷ xs) ys = omega (arith, size-append xs ys)

size_laid : (f h : List Subfield) (n : Subfield) (m b : List Subfield) →
    subfields_size (laid f h n m b) ≡ subfields_size (f ++ (m ++ b)) + subfields_size h + (2 + length n.text)
unfolding laid
size_laid f h n m b =
    omega (arith, size-append ((f ++ h) ++ n ∷ m) b, size-append (f ++ h) (n ∷ m), size-append f h, size-append f (m ++ b), size-append m b)

-- the length of a rewritten field's subfields: what stands outside without the `$0` of the key, the heading's part, and the `$0`
pub size-rewritten : (whole : Bool) (kind : Kind) (key : Key) (heading subs : List Subfield) →
    subfields_size (rewritten_subfields whole kind key heading subs)
    ≡ subfields_size (unnumbered key (outside whole kind subs)) + subfields_size (part whole kind heading) + (length key.code + length key.number + 4)
size-rewritten whole kind key heading subs =
    let f = unnumbered key (front whole kind subs) in
    let m = unnumbered key (middle whole kind subs) in
    let b = unnumbered key (behind whole subs) in
    let pieces = size_laid f (part whole kind heading) (number_of key) m b in
    ap subfields_size (rewritten_is_laid whole kind key heading subs)
    ∙ rw (outside_in_pieces whole kind key subs) (omega (arith, pieces, length-key_text key))

-- a filter, a front and the pieces outside a part are no longer than the list
pub size_filter : (test : Subfield → Bool) (xs : List Subfield) → subfields_size (filter test xs) ≤ subfields_size xs
size_filter test [] = omega arith
size_filter test (x ∷ xs) = grind (arith, common_steps, size_filter test xs)

cut : (test : Subfield → Bool) (xs : List Subfield) → subfields_size (before test xs) + subfields_size (onward test xs) ≡ subfields_size xs
cut test [] = omega arith
cut test (x ∷ xs) = grind (arith, common_steps, cut test xs)

size_regions : (whole : Bool) (subs : List Subfield) → subfields_size (region whole subs) + subfields_size (behind whole subs) ≡ subfields_size subs
size_regions true subs = omega arith
size_regions false subs = cut is_dividing subs

pub size_outside : (whole : Bool) (kind : Kind) (key : Key) (subs : List Subfield) → subfields_size (unnumbered key (outside whole kind subs)) ≤ subfields_size subs
unfolding outside
size_outside whole kind key subs =
    let other = λ (s : Subfield). not (is_part whole kind s) in
    let all = filter other (region whole subs) ++ behind whole subs in
    let kept : subfields_size (unnumbered key all) ≤ subfields_size all = size_filter (λ s. not (is_naming key s)) all in
    omega (arith, kept, size-append (filter other (region whole subs)) (behind whole subs), size_filter other (region whole subs), size_regions whole subs)

full_region : (test : Subfield → Bool) (whole : Bool) (subs : List Subfield) → Full test subs → Full test (region whole subs)
full_region test true subs f = f
full_region test false subs f = each_before true test is_dividing subs f

full_behind : (test : Subfield → Bool) (whole : Bool) (subs : List Subfield) → Full test subs → Full test (behind whole subs)
full_behind test true subs f = tt
full_behind test false subs f = each_onward true test is_dividing subs f

-- what holds of each subfield of the field and of the heading, and of the `$0`, holds of each of the rewritten field
pub full_rewritten : (test : Subfield → Bool) (whole : Bool) (kind : Kind) (key : Key) (heading subs : List Subfield) →
    Full test heading → Full test subs → test (number_of key) ≡ true → Full test (rewritten_subfields whole kind key heading subs)
unfolding rewritten_subfields front rest part
full_rewritten test whole kind key heading subs fh fs fn =
    let p = is_part whole kind in
    let kept = λ (s : Subfield). not (is_naming key s) in
    let other = λ (s : Subfield). not (is_part whole kind s) in
    let inside = full_region test whole subs fs in
    let front_full = each_filter true test kept (before p (region whole subs)) (each_before true test p (region whole subs) inside) in
    let part_full = each_filter true test p (region whole heading) (full_region test whole heading fh) in
    let others = filter other (onward p (region whole subs)) in
    let others_full = each_filter true test other (onward p (region whole subs)) (each_onward true test p (region whole subs) inside) in
    let rest_full = each_filter true test kept (others ++ behind whole subs) (each_append true test others (behind whole subs) others_full (full_behind test whole subs fs)) in
    each_append true test (unnumbered key (before p (region whole subs)) ++ filter p (region whole heading)) (number_of key ∷ unnumbered key (others ++ behind whole subs))
    (each_append true test (unnumbered key (before p (region whole subs))) (filter p (region whole heading)) front_full part_full) (fn, rest_full)

-- no `$0` that names the key is left
pub none_named : (key : Key) (subs : List Subfield) → list_any (is_naming key) (unnumbered key subs) ≡ false
none_named key subs = none (unnumbered key subs) (filter_not_is_free (is_naming key) subs)
  where
    none : (xs : List Subfield) → Free (is_naming key) xs → list_any (is_naming key) xs ≡ false
    none [] f = refl
    none (x ∷ xs) f = rw f.0 (none xs f.1)

base_of_part_at : (kind : Kind) (x : Subfield) (xs hs : List Subfield) (d p : Bool) → is_dividing x ≡ d → is_part true kind x ≡ p →
    filter (is_part false kind) (before is_dividing hs) ≡ filter (is_part false kind) (before is_dividing xs) →
    filter (is_part false kind) (before is_dividing (cond p (x ∷ hs) hs)) ≡ filter (is_part false kind) (before is_dividing (x ∷ xs))
base_of_part_at kind x xs hs true true ed ep ih = rw ed refl
base_of_part_at kind x xs hs true false ed ep ih = let clash = dividing_is_part kind x ed in cc
base_of_part_at kind x xs hs false true ed ep ih =
    let own : is_part false kind x ≡ true = sym (undivided_part kind x ed) ∙ ep in
    rw (ed, own) (ap (λ ys. x ∷ ys) ih)
base_of_part_at kind x xs hs false false ed ep ih =
    let own : is_part false kind x ≡ false = sym (undivided_part kind x ed) ∙ ep in
    rw (ed, own) ih

-- the base part of a full part is the heading's base part
base_of_part : (kind : Kind) (xs : List Subfield) →
    filter (is_part false kind) (before is_dividing (filter (is_part true kind) xs)) ≡ filter (is_part false kind) (before is_dividing xs)
base_of_part kind [] = refl
base_of_part kind (x ∷ xs) =
    base_of_part_at kind x xs (filter (is_part true kind) xs) (is_dividing x) (is_part true kind x) refl refl (base_of_part kind xs)

base_before_at : (kind : Kind) (x : Subfield) (hs ys : List Subfield) (d : Bool) → is_dividing x ≡ d →
    filter (is_part false kind) (before is_dividing (hs ++ ys)) ≡ filter (is_part false kind) (before is_dividing hs) →
    filter (is_part false kind) (before is_dividing (x ∷ (hs ++ ys))) ≡ filter (is_part false kind) (before is_dividing (x ∷ hs))
base_before_at kind x hs ys true e ih = rw e refl
base_before_at kind x hs ys false e ih = rw e (ap (λ zs. cond (is_part false kind x) (x ∷ zs) zs) ih)

-- what is outside the base part adds nothing behind it
base_before : (kind : Kind) (hs ys : List Subfield) → Free (is_part false kind) ys →
    filter (is_part false kind) (before is_dividing (hs ++ ys)) ≡ filter (is_part false kind) (before is_dividing hs)
base_before kind [] ys f = filter_free (is_part false kind) (before is_dividing ys) (each_before false (is_part false kind) is_dividing ys f)
base_before kind (x ∷ hs) ys f = base_before_at kind x hs ys (is_dividing x) refl (base_before kind hs ys f)

base_of_laid : (kind : Kind) (key : Key) (f h : List Subfield) (n : Subfield) (m b : List Subfield) → IsLaid true kind key f h n m b → b ≡ [] →
    part false kind (laid f h n m b) ≡ filter (is_part false kind) (before is_dividing h)
unfolding part laid
base_of_laid kind key f h n m b l e =
    let p = is_part false kind in
    let outside_front : Free p f = free_weaker (is_part true kind) p (outside_base kind) f l.front_outside in
    let undivided_front : Free is_dividing f = free_weaker (is_part true kind) is_dividing (outside_not_dividing kind) f l.front_outside in
    let outside_behind : Free p (n ∷ m) = free_weaker (is_part true kind) p (outside_base kind) (n ∷ m) (l.number_outside, l.middle_outside) in
    rw (
      e,
      append-nil ((f ++ h) ++ n ∷ m),
      append_assoc f h (n ∷ m),
      before_free is_dividing f (h ++ n ∷ m) undivided_front,
      filter-append p f (before is_dividing (h ++ n ∷ m)),
      filter_free p f outside_front,
    )
    (base_before kind h (n ∷ m) outside_behind)

-- a field that is rewritten whole or by its base has the heading's base part as its own
pub base-rewritten : (whole : Bool) (kind : Kind) (key : Key) (heading subs : List Subfield) →
    part false kind (rewritten_subfields whole kind key heading subs) ≡ part false kind heading
unfolding part
base-rewritten false kind key heading subs = part-rewritten false kind key heading subs
base-rewritten true kind key heading subs =
    ap (part false kind) (rewritten_is_laid true kind key heading subs)
    ∙ base_of_laid kind key _ _ _ _ _ (rewritten_pieces true kind key heading subs) refl
    ∙ base_of_part kind heading

-- a heading with a base part has a full part
pub part_is_some : (whole : Bool) (kind : Kind) (subs : List Subfield) → part false kind subs ≢ [] → part whole kind subs ≢ []
unfolding part
part_is_some false kind subs some e = some e
part_is_some true kind subs some e =
    some (sym (base_of_part kind subs) ∙ ap (λ xs. filter (is_part false kind) (before is_dividing xs)) e)

before_filter_at : (p keep : Subfield → Bool) (x : Subfield) (xs ks : List Subfield) (d k : Bool) → p x ≡ d → keep x ≡ k → (p x ≡ true → keep x ≡ true) →
    before p ks ≡ filter keep (before p xs) → before p (cond k (x ∷ ks) ks) ≡ filter keep (cond d [] (x ∷ before p xs))
before_filter_at p keep x xs ks true true ed ek h ih = rw ed refl
before_filter_at p keep x xs ks true false ed ek h ih = let clash = h ed in cc
before_filter_at p keep x xs ks false true ed ek h ih = rw (ed, ek) (ap (λ ys. x ∷ ys) ih)
before_filter_at p keep x xs ks false false ed ek h ih = rw ek ih

-- a filter that keeps what passes leaves the cut where it is
before_filter : (p keep : Subfield → Bool) → ((s : Subfield) → p s ≡ true → keep s ≡ true) → (xs : List Subfield) → before p (filter keep xs) ≡ filter keep (before p xs)
before_filter p keep h [] = refl
before_filter p keep h (x ∷ xs) =
    before_filter_at p keep x xs (filter keep xs) (p x) (keep x) refl refl (h x) (before_filter p keep h xs)

filter_twice_at : (p keep : Subfield → Bool) (x : Subfield) (xs : List Subfield) (d k : Bool) → p x ≡ d → keep x ≡ k → (p x ≡ true → keep x ≡ true) →
    filter p (filter keep xs) ≡ filter p xs → filter p (cond k (x ∷ filter keep xs) (filter keep xs)) ≡ cond d (x ∷ filter p xs) (filter p xs)
filter_twice_at p keep x xs true true ed ek h ih = rw ed (ap (λ ys. x ∷ ys) ih)
filter_twice_at p keep x xs true false ed ek h ih = let clash = h ed in cc
filter_twice_at p keep x xs false true ed ek h ih = rw ed ih
filter_twice_at p keep x xs false false ed ek h ih = ih

filter_twice : (p keep : Subfield → Bool) → ((s : Subfield) → p s ≡ true → keep s ≡ true) → (xs : List Subfield) → filter p (filter keep xs) ≡ filter p xs
filter_twice p keep h [] = refl
filter_twice p keep h (x ∷ xs) = filter_twice_at p keep x xs (p x) (keep x) refl refl (h x) (filter_twice p keep h xs)

region_unnumbered : (whole : Bool) (key : Key) (subs : List Subfield) → region whole (unnumbered key subs) ≡ unnumbered key (region whole subs)
region_unnumbered true key subs = refl
region_unnumbered false key subs = before_filter is_dividing (λ s. not (is_naming key s)) (dividing_not_naming key) subs

-- a `$0` belongs to no part
pub part-unnumbered : (whole : Bool) (kind : Kind) (key : Key) (subs : List Subfield) → part whole kind (unnumbered key subs) ≡ part whole kind subs
unfolding part
part-unnumbered whole kind key subs =
    let p = is_part whole kind in
    ap (filter p) (region_unnumbered whole key subs)
    ∙ filter_twice p (λ s. not (is_naming key s)) (λ s h. ap not (part_not_naming whole kind key s h)) (region whole subs)
