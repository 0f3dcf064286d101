-- The records of a workload are records, and fit.
use Rattle.std.proofs.Common.{◌≡◌, ℕ, ◌*◌, ◌/◌, ◌<◌, ◌≤◌, ◌^◌, not, true, List, [], ◌∷◌, ◌++◌, length, nat_le, codes, refl, arith}
use Rattle.std.specs.List.{list_all}
use Rattle.std.specs.Fmt.{decimal}
use Rattle.std.proofs.lemmas.Bool.{and_from, le-leb}
use Rattle.std.proofs.lemmas.List.Sums.{AllPass-from_list_all}
use Rattle.marc_types.specs.declared.field.Tag.{Tag}
use Rattle.marc_types.specs.declared.field.Leader.{Leader}
use Rattle.marc_types.specs.declared.field.Field.{Field}
use Rattle.marc_types.specs.Valid.{is_tag, is_control_tag, is_leader, is_text, is_subfield, is_field, field_size, fields_size, is_record}
use Rattle.iso2709_record.specs.Written.{field_length, fits}
use Rattle.iso2709_record.proofs.Lengths.{field_length_bound, fields_length_bound, fits_from}
use Rattle.workload.specs.Records.{tag, number_field, organisation_field, name_text, alias_text, name_field, author_field, title_field, authority_leader, bibliographic_leader, authority_fields, linked_authority_fields, deletion_fields, bibliographic_fields}
use Rattle.workload.proofs.Plain.{IsPlain, plain_decimal, plain_append}

-- a good field of at most 200 bytes
pub record IsSmall (f : Field) : Type 0 where
  pub good : is_field f ≡ true
  pub small : field_size f ≤ 200

abbrev pub AreSmall : List Field → Type 0
AreSmall [] = Unit {0}
AreSmall (f ∷ fs) = IsSmall f × AreSmall fs

all_good : (fs : List Field) → AreSmall fs → list_all is_field fs ≡ true
all_good [] small = refl
all_good (f ∷ fs) small = and_from _ _ small.0.good (all_good fs small.1)

all_fit : (fs : List Field) → AreSmall fs → list_all (λ f. nat_le (field_length f) 9999) fs ≡ true
all_fit [] small = refl
all_fit (f ∷ fs) small =
    let bound = field_length_bound f in
    and_from _ _ (le-leb _ _ (omega (arith, bound, small.0.small))) (all_fit fs small.1)

size_bound : (fs : List Field) → AreSmall fs → fields_size fs ≤ 200 * length fs
size_bound [] small = omega arith
size_bound (f ∷ fs) small = omega (arith, small.0.small, size_bound fs small.1)

-- a leader and a few small fields are a record
pub few_make_record : (leader : Leader) (fs : List Field) → is_leader leader ≡ true → AreSmall fs → length fs ≤ 9 → is_record leader fs ≡ true
unfolding is_record
few_make_record leader fs good small few =
    and_from _ _ (and_from _ _ (and_from _ _ good (all_good fs small)) (le-leb _ _ (omega arith))) (le-leb _ _ (omega (arith, size_bound fs small)))

-- a few small fields fit
pub few_fit : (fs : List Field) → AreSmall fs → length fs ≤ 9 → fits fs ≡ true
few_fit fs small few =
    fits_from fs (omega (arith, size_bound fs small, fields_length_bound fs)) (AllPass-from_list_all _ fs (all_fit fs small))

small_number : (letter : List ℕ) (n : ℕ) → IsPlain 1 letter → n < 2 ^ 64 → IsSmall (number_field letter n)
unfolding is_field field_size
small_number letter n plain range =
    let text = plain_append 1 20 letter (decimal n) plain (plain_decimal n range) in
    record { good = text.good; small = omega (arith, text.short) }

small_organisation : IsSmall organisation_field
unfolding is_field field_size is_text
small_organisation = record { good = refl; small = omega arith }

pub plain_name : (name variant : ℕ) → name < 2 ^ 64 → variant < 2 ^ 64 → IsPlain 47 (name_text name variant)
unfolding is_text
plain_name name variant first second =
    plain_append 27 20 (codes "Name" ++ decimal name ++ codes ", V") (decimal variant)
    (plain_append 24 3 (codes "Name" ++ decimal name) (codes ", V")
    (plain_append 4 20 (codes "Name") (decimal name) (record { good = refl; short = omega arith }) (plain_decimal name first))
    (record { good = refl; short = omega arith }))
    (plain_decimal variant second)

pub plain_alias : (alias : ℕ) → alias < 2 ^ 64 → IsPlain 47 (alias_text alias)
unfolding is_text
plain_alias alias range =
    let text = plain_append 25 3 (codes "Alias" ++ decimal alias) (codes ", X")
    (plain_append 5 20 (codes "Alias") (decimal alias) (record { good = refl; short = omega arith }) (plain_decimal alias range))
    (record { good = refl; short = omega arith }) in
    record { good = text.good; short = omega (arith, text.short) }

small_name : (t : Tag) (text : List ℕ) → is_tag t ≡ true → not (is_control_tag t) ≡ true → IsPlain 47 text → IsSmall (name_field t text)
unfolding is_field is_subfield field_size
small_name t text good variable plain = record {
  good = and_from _ _ (and_from _ _ (and_from _ _ (and_from _ _ good variable) refl) refl) (and_from _ _ plain.good refl);
  small = omega (arith, plain.short);
}

small_author : (author : ℕ) → author < 2 ^ 64 → IsSmall (author_field author)
unfolding is_field is_subfield field_size is_text
small_author author range =
    let text = plain_alias author range in
    record { good = and_from _ _ text.good refl; small = omega (arith, text.short) }

small_title : (number : ℕ) → number < 2 ^ 64 → IsSmall (title_field number)
unfolding is_field is_subfield field_size is_text
small_title number range =
    let text = plain_append 6 20 (codes "Title ") (decimal number) (record { good = refl; short = omega arith }) (plain_decimal number range) in
    record { good = and_from _ _ text.good refl; small = omega (arith, text.short) }

-- what a workload's record is made of: a few small fields
record AreSound (fields : List Field) : Type 0 where
  small : AreSmall fields
  few : length fields ≤ 9

authority_sound : (name variant : ℕ) → name < 2 ^ 64 → variant < 2 ^ 64 → AreSound (authority_fields name variant)
unfolding is_text authority_fields
authority_sound name variant first second = record {
  small = (small_number (codes "a") name (record { good = refl; short = omega arith }) first, (small_organisation, (small_name (tag 1 0 0) (name_text name variant) refl refl (plain_name name variant first second), (small_name (tag 4 0 0) (alias_text (name / 2)) refl refl (plain_alias (name / 2) (omega arith)), tt))));
  few = omega arith;
}

linked_sound : (name variant other : ℕ) → name < 2 ^ 64 → variant < 2 ^ 64 → other < 2 ^ 64 → AreSound (linked_authority_fields name variant other)
unfolding authority_fields linked_authority_fields
linked_sound name variant other first second third =
    let four = (authority_sound name variant first second).small in
    record {
      small = (four.0, (four.1.0, (four.1.1.0, (four.1.1.1.0, (small_name (tag 5 0 0) (alias_text other) refl refl (plain_alias other third), tt)))));
      few = omega arith;
    }

deletion_sound : (name : ℕ) → name < 2 ^ 64 → AreSound (deletion_fields name)
unfolding is_text deletion_fields
deletion_sound name range = record {
  small = (small_number (codes "a") name (record { good = refl; short = omega arith }) range, (small_organisation, tt));
  few = omega arith;
}

bibliographic_sound : (number author : ℕ) → number < 2 ^ 64 → author < 2 ^ 64 → AreSound (bibliographic_fields number author)
unfolding is_text bibliographic_fields
bibliographic_sound number author first second = record {
  small = (small_number (codes "b") number (record { good = refl; short = omega arith }) first, (small_organisation, (small_author author second, (small_title number first, tt))));
  few = omega arith;
}

sound_record : (leader : Leader) (fields : List Field) → is_leader leader ≡ true → AreSound fields → is_record leader fields ≡ true
sound_record leader fields good sound = few_make_record leader fields good sound.small sound.few

sound_fits : (fields : List Field) → AreSound fields → fits fields ≡ true
sound_fits fields sound = few_fit fields sound.small sound.few

pub authority_record : (fields : List Field) (name variant : ℕ) → fields ≡ authority_fields name variant → name < 2 ^ 64 → variant < 2 ^ 64
    → is_record (authority_leader 110) fields ≡ true
unfolding is_leader
authority_record fields name variant is first second =
    rw is (sound_record (authority_leader 110) (authority_fields name variant) refl (authority_sound name variant first second))

pub authority_fits : (fields : List Field) (name variant : ℕ) → fields ≡ authority_fields name variant → name < 2 ^ 64 → variant < 2 ^ 64
    → fits fields ≡ true
authority_fits fields name variant is first second =
    rw is (sound_fits (authority_fields name variant) (authority_sound name variant first second))

pub linked_record : (fields : List Field) (name variant other : ℕ) → fields ≡ linked_authority_fields name variant other → name < 2 ^ 64 → variant < 2 ^ 64
    → other < 2 ^ 64 → is_record (authority_leader 110) fields ≡ true
unfolding is_leader
linked_record fields name variant other is first second third =
    rw is (sound_record (authority_leader 110) (linked_authority_fields name variant other) refl (linked_sound name variant other first second third))

pub linked_fits : (fields : List Field) (name variant other : ℕ) → fields ≡ linked_authority_fields name variant other → name < 2 ^ 64 → variant < 2 ^ 64
    → other < 2 ^ 64 → fits fields ≡ true
linked_fits fields name variant other is first second third =
    rw is (sound_fits (linked_authority_fields name variant other) (linked_sound name variant other first second third))

pub deletion_record : (fields : List Field) (name : ℕ) → fields ≡ deletion_fields name → name < 2 ^ 64 → is_record (authority_leader 100) fields ≡ true
unfolding is_leader
deletion_record fields name is range = rw is (sound_record (authority_leader 100) (deletion_fields name) refl (deletion_sound name range))

pub deletion_fits : (fields : List Field) (name : ℕ) → fields ≡ deletion_fields name → name < 2 ^ 64 → fits fields ≡ true
deletion_fits fields name is range = rw is (sound_fits (deletion_fields name) (deletion_sound name range))

pub bibliographic_record : (fields : List Field) (number author : ℕ) → fields ≡ bibliographic_fields number author → number < 2 ^ 64 → author < 2 ^ 64
    → is_record bibliographic_leader fields ≡ true
unfolding is_leader
bibliographic_record fields number author is first second =
    rw is (sound_record bibliographic_leader (bibliographic_fields number author) refl (bibliographic_sound number author first second))

pub bibliographic_fits : (fields : List Field) (number author : ℕ) → fields ≡ bibliographic_fields number author → number < 2 ^ 64 → author < 2 ^ 64
    → fits fields ≡ true
bibliographic_fits fields number author is first second =
    rw is (sound_fits (bibliographic_fields number author) (bibliographic_sound number author first second))
