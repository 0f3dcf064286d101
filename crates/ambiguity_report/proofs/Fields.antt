-- The lines of fields, by what stands beside each field.
use Rattle.std.proofs.Common.{◌≡◌, ◌∙◌, ℕ, zero, suc, add-one, ◌+◌, ◌<◌, ◌≤◌, List, [], ◌∷◌, ◌++◌, length, map, take, drop, get_or, Option, Some, None, refl, sym, ap, append-nil}
use Rattle.std.specs.Prelude.{option_to_list, slice_get}
use Rattle.std.specs.List.{flat_map, enumerate_from}
use Rattle.std.specs.Option.{option_map}
use Rattle.std.proofs.lemmas.List.{drop_all, drop_more}
use Rattle.outside.proofs.Fronts.{drop_next}
use Rattle.marc_types.specs.Fields.{tag_of}
use Rattle.marc_types.specs.declared.entry.Tie.{Tie}
use Rattle.marc_types.specs.declared.field.Field.{Field}
use Rattle.marc_types.specs.declared.field.Tag.{Tag}
use Rattle.marc_types.specs.declared.key.Class.{Class}
use Rattle.marc_types.specs.declared.key.Key.{Key}
use Rattle.entry_record.specs.Authority.{Linkable}
use Rattle.catalogue_rules.specs.State.{KeptField, KeptRecord, Row, fields_of, new_field}
use Rattle.catalogue_rules.specs.Receipt as definition
use Rattle.catalogue_rules.specs.Output.{ambiguous_line, ambiguous_line_by, awaits_line}
use Rattle.catalogue_tables.specs.Stands.{stands_as, field_standing}
use Rattle.ambiguity_report.specs.Beside.{ambiguous_text, awaits_text, lines_beside, row_lines, rows_lines, tags_of}
use Rattle.catalogue_tables.specs.declared.standing.Standing.{Standing}

-- the next field, and what stands beside it
pub beside_next : {X : Type 0} (line_of : ℕ → Tag → X → List ℕ) (tags : List Tag) (xs : List X) (i : ℕ) (none : Tag) (x : X)
    → i < length tags → i < length xs → x ≡ get_or xs i x
    → lines_beside line_of i (drop i tags) (drop i xs) ≡ line_of i (get_or tags i none) x ++ lines_beside line_of (i + 1) (drop (i + 1) tags) (drop (i + 1) xs)
beside_next line_of tags xs i none x within there beside =
    ap (λ (l : List Tag). lines_beside line_of i l (drop i xs)) (drop_more tags i none within)
    ∙ ap (lines_beside line_of i (get_or tags i none ∷ drop (i + 1) tags)) (drop_next xs i x there beside)

no_lines : {X : Type 0} (line_of : ℕ → Tag → X → List ℕ) (i : ℕ) (tags : List Tag) → lines_beside line_of i tags [] ≡ []
no_lines line_of i [] = refl
no_lines line_of i (tag ∷ tags) = refl

-- nothing stands beside the fields that are left
pub beside_none : {X : Type 0} (line_of : ℕ → Tag → X → List ℕ) (tags : List Tag) (xs : List X) (i : ℕ) → length xs ≤ i
    → lines_beside line_of i (drop i tags) (drop i xs) ≡ []
beside_none line_of tags xs i past = ap (lines_beside line_of i (drop i tags)) (drop_all i xs past) ∙ no_lines line_of i (drop i tags)

-- ---- one field after another

-- what is found of a field is put behind the others, where there is one
pub pushed : {X : Type 0} (o : Option X) (x : X) (old new : List X) → Some x ≡ o → new ≡ old ++ x ∷ [] → new ≡ old ++ option_to_list o
pushed o x old new is push = push ∙ ap (λ (p : Option _). old ++ option_to_list p) is

pub not_pushed : {X : Type 0} (o : Option X) (old : List X) → None ≡ o → old ≡ old ++ option_to_list o
not_pushed o old off = sym (append-nil old) ∙ ap (λ (p : Option _). old ++ option_to_list p) off

module _ {X Y : Type 0} (f : X → Y) where
  joined : (xs : List X) (i : ℕ) → map f (take i xs) ++ option_to_list (option_map f (slice_get xs i)) ≡ map f (take (suc i) xs)
  joined [] zero = refl
  joined [] (suc i) = refl
  joined (x ∷ xs) zero = refl
  joined (x ∷ xs) (suc i) = ap (λ (l : List Y). f x ∷ l) (joined xs i)

  pub one_more : (xs : List X) (i : ℕ) (front more : List Y) → front ≡ map f (take i xs) → more ≡ front ++ option_to_list (option_map f (slice_get xs i)) → more ≡ map f (take (i + 1) xs)
  one_more xs i front more before is =
      is ∙ ap (λ (l : List Y). l ++ option_to_list (option_map f (slice_get xs i))) before ∙ joined xs i ∙ ap (λ (n : ℕ). map f (take n xs)) (sym (add-one i))

-- ---- ambiguous fields

stood_line : (class : Class) (key : Key) (place : ℕ) (h : KeptField) (s : definition.Standing)
    → ambiguous_line_by class key place h s ≡ ambiguous_text class key place (tag_of h.field) (stands_as s)
stood_line class key place h (definition.LinkedTo linked) = refl
stood_line class key place h (definition.AmbiguousAmong keys) = refl
stood_line class key place h definition.WithoutLink = refl
stood_line class key place h definition.WithoutHeading = refl

ambiguous_fields : (all : List Linkable) (class : Class) (key : Key) (place : ℕ) (hs : List KeptField) →
    flat_map (λ numbered. ambiguous_line all class key numbered.0 numbered.1) (enumerate_from place hs)
    ≡ lines_beside (ambiguous_text class key) place (map (λ (h : KeptField). tag_of h.field) hs) (map (field_standing all class) hs)
ambiguous_fields all class key place [] = refl
ambiguous_fields all class key place (h ∷ hs) =
    ap (λ (l : List ℕ). l ++ flat_map (λ numbered. ambiguous_line all class key numbered.0 numbered.1) (enumerate_from (place + 1) hs))
    (stood_line class key place h (definition.standing_of all class h))
    ∙ ap (λ (l : List ℕ). ambiguous_text class key place (tag_of h.field) (field_standing all class h) ++ l) (ambiguous_fields all class key (place + 1) hs)

-- the lines of the next row
pub ambiguous_next : (all : List Linkable) (class : Class) (rows more : List Row) (key : Key) (r : KeptRecord) (standings : List Standing) → rows ≡ (key, r) ∷ more
    → standings ≡ map (field_standing all class) r.fields
    → rows_lines (ambiguous_line all) class rows ≡ lines_beside (ambiguous_text class key) 0 (tags_of r) standings ++ rows_lines (ambiguous_line all) class more
ambiguous_next all class rows more key r standings is are =
    ap (rows_lines (ambiguous_line all) class) is
    ∙ ap (λ (l : List ℕ). l ++ rows_lines (ambiguous_line all) class more)
    (ambiguous_fields all class key 0 r.fields ∙ ap (lines_beside (ambiguous_text class key) 0 (tags_of r)) (sym are))

-- ---- fields that await a key

awaits_fields : (class : Class) (key : Key) (place : ℕ) (hs : List KeptField) →
    flat_map (λ numbered. awaits_line class key numbered.0 numbered.1) (enumerate_from place hs)
    ≡ lines_beside (awaits_text class key) place (map (λ (h : KeptField). tag_of h.field) hs) (map (λ (h : KeptField). h.tie) hs)
awaits_fields class key place [] = refl
awaits_fields class key place (h ∷ hs) = ap (λ (l : List ℕ). awaits_text class key place (tag_of h.field) h.tie ++ l) (awaits_fields class key (place + 1) hs)

pub awaits_row : (class : Class) (key : Key) (r : KeptRecord) (ties : List Tie) → ties ≡ map (λ (h : KeptField). h.tie) r.fields
    → row_lines awaits_line class (key, r) ≡ lines_beside (awaits_text class key) 0 (tags_of r) ties
awaits_row class key r ties are = awaits_fields class key 0 r.fields ∙ ap (lines_beside (awaits_text class key) 0 (tags_of r)) (sym are)

blank_fields : (class : Class) (key : Key) (place : ℕ) (fields : List Field) →
    flat_map (λ numbered. awaits_line class key numbered.0 numbered.1) (enumerate_from place (map new_field fields)) ≡ []
blank_fields class key place [] = refl
blank_fields class key place (f ∷ fields) = blank_fields class key (place + 1) fields

-- a record with blank ties has none
pub blank_awaits : (class : Class) (key : Key) (r : KeptRecord) → r.fields ≡ map new_field (fields_of r) → row_lines awaits_line class (key, r) ≡ []
blank_awaits class key r blank =
    ap (λ (hs : List KeptField). flat_map (λ numbered. awaits_line class key numbered.0 numbered.1) (enumerate_from 0 hs)) blank ∙ blank_fields class key 0 (fields_of r)
