-- A rewritten field as it is laid out: what stands before the part, the heading's part, the `$0`, and what stands behind.
use Rattle.std.proofs.Common.{◌≡◌, Bool, true, false, not, List, [], ◌∷◌, ◌++◌, filter, refl, ◌∙◌, append_assoc, append-nil}
use Rattle.std.proofs.lemmas.List.Elements.{filter-append}
use Rattle.marc_types.specs.declared.field.Subfield.{Subfield}
use Rattle.marc_types.specs.declared.key.Key.{Key}
use Rattle.marc_types.specs.declared.form.Kind.{Kind}
use Rattle.heading_fields.specs.Parts.{before, onward, is_dividing, region, behind, is_part, part}
use Rattle.heading_fields.specs.Numbers.{is_naming, unnumbered, number_of}
use Rattle.heading_fields.specs.Rewriting.{front, rest, rewritten_subfields}
use Rattle.heading_fields.proofs.Passing.{Free, Full, each_append, before_free, onward_free, filter_not_free, before_is_free, filter_is_full, filter_not_is_free, each_filter, each_before, each_onward, tail_begins}
use Rattle.heading_fields.proofs.Codes.{dividing_not_naming, number_not_part, number_not_dividing}

-- the subfields between the `$0` and the first subdivision, or the end
unfoldable pub middle : Bool → Kind → List Subfield → List Subfield
middle whole kind subs = filter (λ s. not (is_part whole kind s)) (onward (is_part whole kind) (region whole subs))

-- five pieces: F, H, N, M, B
unfoldable pub laid : List Subfield → List Subfield → Subfield → List Subfield → List Subfield → List Subfield
laid f h n m b = ((f ++ h) ++ n ∷ m) ++ b

pub rewritten_is_laid : (whole : Bool) (kind : Kind) (key : Key) (heading subs : List Subfield) →
    rewritten_subfields whole kind key heading subs
    ≡ laid (unnumbered key (front whole kind subs)) (part whole kind heading) (number_of key) (unnumbered key (middle whole kind subs)) (unnumbered key (behind whole subs))
unfolding laid middle rewritten_subfields rest
rewritten_is_laid whole kind key heading subs =
    let kept = λ (s : Subfield). not (is_naming key s) in
    rw (filter-append kept (filter (λ s. not (is_part whole kind s)) (onward (is_part whole kind) (region whole subs))) (behind whole subs)) (simp append_assoc)

-- what is known of the pieces
pub record IsLaid (whole : Bool) (kind : Kind) (key : Key) (f h : List Subfield) (n : Subfield) (m b : List Subfield) : Type 0 where
  pub front_outside : Free (is_part whole kind) f
  pub heading_part : Full (is_part whole kind) h
  pub number_outside : is_part whole kind n ≡ false
  pub middle_outside : Free (is_part whole kind) m
  pub in_region : region whole (laid f h n m b) ≡ (f ++ h) ++ n ∷ m
  pub in_behind : behind whole (laid f h n m b) ≡ b
  pub front_unnumbered : unnumbered key f ≡ f
  pub middle_unnumbered : unnumbered key m ≡ m
  pub behind_unnumbered : unnumbered key b ≡ b

unnumbered_twice : (key : Key) (xs : List Subfield) → unnumbered key (unnumbered key xs) ≡ unnumbered key xs
unnumbered_twice key xs = filter_not_free (is_naming key) (unnumbered key xs) (filter_not_is_free (is_naming key) xs)

-- before the first subdivision no subfield begins one
region_undivided : (subs : List Subfield) → Free is_dividing (region false subs)
region_undivided subs = before_is_free is_dividing subs

base_region : (f h : List Subfield) (n : Subfield) (m b : List Subfield) → Free is_dividing f → Free is_dividing h → is_dividing n ≡ false → Free is_dividing m →
    before is_dividing b ≡ [] → region false (laid f h n m b) ≡ (f ++ h) ++ n ∷ m
unfolding laid
base_region f h n m b df dh dn dm db =
    let none : Free is_dividing ((f ++ h) ++ n ∷ m) = each_append false is_dividing (f ++ h) (n ∷ m) (each_append false is_dividing f h df dh) (dn, dm) in
    before_free is_dividing ((f ++ h) ++ n ∷ m) b none ∙ rw db (append-nil ((f ++ h) ++ n ∷ m))

base_behind : (f h : List Subfield) (n : Subfield) (m b : List Subfield) → Free is_dividing f → Free is_dividing h → is_dividing n ≡ false → Free is_dividing m →
    onward is_dividing b ≡ b → behind false (laid f h n m b) ≡ b
unfolding laid
base_behind f h n m b df dh dn dm db =
    let none : Free is_dividing ((f ++ h) ++ n ∷ m) = each_append false is_dividing (f ++ h) (n ∷ m) (each_append false is_dividing f h df dh) (dn, dm) in
    onward_free is_dividing ((f ++ h) ++ n ∷ m) b none ∙ db

regions : (whole : Bool) (kind : Kind) (key : Key) (heading subs : List Subfield) →
    let f = unnumbered key (front whole kind subs) in let h = part whole kind heading in let m = unnumbered key (middle whole kind subs) in
    let b = unnumbered key (behind whole subs) in
    (region whole (laid f h (number_of key) m b) ≡ (f ++ h) ++ number_of key ∷ m) × (behind whole (laid f h (number_of key) m b) ≡ b)
unfolding laid middle front part
regions true kind key heading subs =
    (append-nil ((unnumbered key (front true kind subs) ++ part true kind heading) ++ number_of key ∷ unnumbered key (middle true kind subs)), refl)
regions false kind key heading subs =
    let p = is_part false kind in
    let kept = λ (s : Subfield). not (is_naming key s) in
    let f = unnumbered key (before p (region false subs)) in
    let h = filter p (region false heading) in
    let m = unnumbered key (filter (λ s. not (p s)) (onward p (region false subs))) in
    let b = unnumbered key (behind false subs) in
    let df : Free is_dividing f = each_filter false is_dividing kept (before p (region false subs)) (each_before false is_dividing p (region false subs) (region_undivided subs)) in
    let dh : Free is_dividing h = each_filter false is_dividing p (region false heading) (region_undivided heading) in
    let dm : Free is_dividing m = each_filter false is_dividing kept (filter (λ s. not (p s)) (onward p (region false subs)))
    (each_filter false is_dividing (λ s. not (p s)) (onward p (region false subs)) (each_onward false is_dividing p (region false subs) (region_undivided subs))) in
    let ends = tail_begins is_dividing kept (dividing_not_naming key) subs in
    (base_region f h (number_of key) m b df dh (number_not_dividing key) dm ends.0, base_behind f h (number_of key) m b df dh (number_not_dividing key) dm ends.1)

-- the pieces of a rewritten field
pub rewritten_pieces : (whole : Bool) (kind : Kind) (key : Key) (heading subs : List Subfield) →
    IsLaid whole kind key (unnumbered key (front whole kind subs)) (part whole kind heading) (number_of key)
    (unnumbered key (middle whole kind subs)) (unnumbered key (behind whole subs))
unfolding middle front part
rewritten_pieces whole kind key heading subs =
    let p = is_part whole kind in
    let kept = λ (s : Subfield). not (is_naming key s) in
    let both = regions whole kind key heading subs in
    record {
      front_outside = each_filter false p kept (before p (region whole subs)) (before_is_free p (region whole subs));
      heading_part = filter_is_full p (region whole heading);
      number_outside = number_not_part whole kind key;
      middle_outside = each_filter false p kept (filter (λ s. not (p s)) (onward p (region whole subs))) (filter_not_is_free p (onward p (region whole subs)));
      in_region = both.0;
      in_behind = both.1;
      front_unnumbered = unnumbered_twice key (before p (region whole subs));
      middle_unnumbered = unnumbered_twice key (filter (λ s. not (p s)) (onward p (region whole subs)));
      behind_unnumbered = unnumbered_twice key (behind whole subs);
    }
