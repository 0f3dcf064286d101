-- Which key bytes begin with.
use Rattle.std.proofs.Common.{◌≡◌, ◌∙◌, ℕ, Bool, true, false, List, ◌++◌, Option, Some, None, refl, sym, ap}
use Rattle.std.proofs.lemmas.Bool.{both_ways, and_parts, true≢false}
use Rattle.std.specs.List.{list_all}
use Rattle.marc_types.specs.Valid.{is_graphic, is_code, is_number}
use Rattle.entry_record.proofs.Graphic.{code_is_graphic}
use Rattle.marc_types.specs.declared.key.Key.{Key}
use Rattle.entry_record.specs.Authority.{is_valid_key}
use Rattle.checkpoint.specs.Format.{coded, key_bytes, optional_key_bytes}
use Rattle.checkpoint.specs.Parts.{IsProperKey}
use Rattle.checkpoint.specs.Fronts.{BeginWith, BeginWithNone, IsNoFront}
use Rattle.checkpoint.specs.Reading.{AreNotCoded, IsNoKey, IsOptionalKey}
use Rattle.checkpoint.specs.declared.fault.PartFault.{PartFault}
use Rattle.checkpoint.specs.declared.fault.PartFault.TheVariants.{BadPart, NoMemory}
use Rattle.checkpoint.proofs.Once.{coded_once, key_parts}

pub code_graphic : (code : List ℕ) → is_code code ≡ true → list_all is_graphic code ≡ true
unfolding is_code
code_graphic code h = code_is_graphic code (and_parts _ _ h).1

pub number_graphic : (number : List ℕ) → is_number number ≡ true → list_all is_graphic number ≡ true
unfolding is_number
number_graphic number h = (and_parts _ _ h).1

pub no_code : (bytes : List ℕ) → AreNotCoded bytes → BeginWithNone key_bytes IsProperKey bytes
no_code bytes none = λ x rest begin. none x.code (coded x.number ++ rest) (sym (key_parts x rest) ∙ begin.split)

pub no_number : (bytes code behind : List ℕ) → coded code ++ behind ≡ bytes → AreNotCoded behind → BeginWithNone key_bytes IsProperKey bytes
no_number bytes code behind found none = λ x rest begin.
    none x.number rest (coded_once x.code code _ _ (sym (key_parts x rest) ∙ begin.split ∙ sym found)).1

pub both_parts : (bytes code number behind rest : List ℕ) → coded code ++ behind ≡ bytes → coded number ++ rest ≡ behind
    → coded code ++ (coded number ++ rest) ≡ bytes
both_parts bytes code number behind rest first second = ap (λ xs. coded code ++ xs) second ∙ first

-- where code and number make no proper key, bytes begin with none
pub no_proper_key : (bytes code number rest : List ℕ) (fault : PartFault) → coded code ++ (coded number ++ rest) ≡ bytes → IsNoKey code number fault
    → IsNoFront key_bytes IsProperKey bytes fault
no_proper_key bytes code number rest BadPart found none = λ x behind begin.
    let codes = coded_once x.code code _ _ (sym (key_parts x behind) ∙ begin.split ∙ sym found) in
    let numbers = coded_once x.number number _ _ codes.1 in
    let bad : is_valid_key x ≡ false = ap (λ text. is_valid_key (record { code = text; number = x.number })) codes.0
    ∙ ap (λ text. is_valid_key (record { code = code; number = text })) numbers.0 ∙ none in
    both_ways _ bad begin.can
no_proper_key bytes code number rest NoMemory found none = tt

pub key_begins : (bytes code number rest : List ℕ) (key : Key) → coded code ++ (coded number ++ rest) ≡ bytes → key ≡ record { code = code; number = number }
    → IsProperKey key → BeginWith key_bytes IsProperKey bytes key rest
key_begins bytes code number rest key found is proper = record {
  split =
      key_parts key rest
      ∙ ap (λ (k : Key). coded k.code ++ (coded k.number ++ rest)) is
      ∙ found;
  can = proper;
}

pub no_key_there : (bytes : List ℕ) (there : Bool) → there ≡ false → BeginWith optional_key_bytes (IsOptionalKey there) bytes None bytes
no_key_there bytes there absent = record { split = refl; can = record { there_is = sym absent; proper = tt } }

pub key_there : (bytes rest : List ℕ) (there : Bool) (key : Key) → there ≡ true → BeginWith key_bytes IsProperKey bytes key rest
    → BeginWith optional_key_bytes (IsOptionalKey there) bytes (Some key) rest
key_there bytes rest there key present begin = record { split = begin.split; can = record { there_is = sym present; proper = begin.can } }

not_optional : (bytes rest : List ℕ) (there : Bool) (x : Option Key) → there ≡ true → BeginWithNone key_bytes IsProperKey bytes
    → BeginWith optional_key_bytes (IsOptionalKey there) bytes x rest → ⊥
not_optional bytes rest there None present none begin = absurd (true≢false (sym (begin.can.there_is ∙ present)))
not_optional bytes rest there (Some key) present none begin = none key rest (record { split = begin.split; can = begin.can.proper })

pub no_key_begins : (bytes : List ℕ) (there : Bool) (fault : PartFault) → there ≡ true → IsNoFront key_bytes IsProperKey bytes fault
    → IsNoFront optional_key_bytes (IsOptionalKey there) bytes fault
no_key_begins bytes there BadPart present none = λ x rest begin. not_optional bytes rest there x present none begin
no_key_begins bytes there NoMemory present none = tt
