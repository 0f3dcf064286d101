-- Each draft of a workload has numbers below 2 ^ 64, so that a catalogue takes its record, which is short.
use Rattle.std.proofs.Common.{ℕ, zero, suc, ◌+◌, ◌<◌, ◌≤◌, ◌/◌, ◌%◌, ◌^◌, Bool, true, false, List, refl, arith}
use Rattle.std.specs.Prelude.{◌==◌, if◌then◌else◌}
use Rattle.std.specs.List.{AllByRecursion}
use Rattle.iso2709_record.specs.Written.{record_length}
use Rattle.workload.specs.Drafts.{draw, draft_of, state_behind}
use Rattle.workload.specs.Draws.{state_after, drawn_below}
use Rattle.workload.specs.Records.{Contents, contents_of}
use Rattle.workload.specs.Workload.{records_from, workload}
use Rattle.workload.specs.declared.drafts.Draft.{Draft}
use Rattle.workload.specs.declared.drafts.Draft.TheVariants.{Authority, LinkedAuthority, Deletion, Bibliographic}
use Rattle.workload.specs.Records.{authority_fields, linked_authority_fields, deletion_fields, bibliographic_fields}
use Rattle.workload.proofs.Sound.{authority_record, linked_record, deletion_record, bibliographic_record}
use Rattle.plain_commands.specs.Entries.{IsTaken, AreTaken}
use Rattle.plain_commands.proofs.Lengths.{short_record, authority_light, linked_light, deletion_light, bibliographic_light}
use Rattle.plain_commands.proofs.Taken.{authority_taken, linked_taken, deletion_taken, bibliographic_taken}

-- the numbers of a draft fit into a word
abbrev HasSmallNumbers : Draft → Type 0
HasSmallNumbers (Authority name variant) = (name < 2 ^ 64) × (variant < 2 ^ 64)
HasSmallNumbers (LinkedAuthority name variant other) = (name < 2 ^ 64) × (variant < 2 ^ 64) × (other < 2 ^ 64)
HasSmallNumbers (Deletion name) = name < 2 ^ 64
HasSmallNumbers (Bibliographic number author) = (number < 2 ^ 64) × (author < 2 ^ 64)

drawn_small : (bound state : ℕ) → 0 < bound → bound ≤ 2 ^ 64 → drawn_below bound state < 2 ^ 64
unfolding drawn_below
drawn_small bound state some most =
    let n = state / 2 ^ 33 in
    let below : n % bound < bound = omega (arith) in
    omega (arith, below, most)

-- one of four drafts
one_of : (a b c : Bool) (p q r s : Draft) → HasSmallNumbers p → HasSmallNumbers q → HasSmallNumbers r → HasSmallNumbers s
    → HasSmallNumbers (if a then p else if b then q else if c then r else s)
one_of true b c p q r s hp hq hr hs = hp
one_of false true c p q r s hp hq hr hs = hq
one_of false false true p q r s hp hq hr hs = hr
one_of false false false p q r s hp hq hr hs = hs

draft_small : (names number state : ℕ) → 0 < names → names ≤ 2 ^ 64 → number < 2 ^ 64 → HasSmallNumbers (draft_of names number state)
unfolding draft_of
draft_small names number state some most small =
    let name = λ (place : ℕ). drawn_small names (state_after place state) some most in
    let variant = drawn_small 4 (state_after 3 state) (omega arith) (omega arith) in
    one_of (draw state 1 8 == 0) (draw state 1 8 == 1) (draw state 1 8 == 2)
    (Authority (draw state 2 names) (draw state 3 4))
    (LinkedAuthority (draw state 2 names) (draw state 3 4) (draw state 4 names))
    (Deletion (draw state 2 names))
    (Bibliographic number (draw state 2 names))
    (name 2, variant) (name 2, variant, name 4) (name 2) (small, name 2)

draft_taken : (d : Draft) → HasSmallNumbers d → IsTaken (contents_of d)
draft_taken (Authority name variant) h = record {
  valid = authority_record (authority_fields name variant) name variant refl h.0 h.1;
  taken = authority_taken name variant h.0 h.1;
}
draft_taken (LinkedAuthority name variant other) h = record {
  valid = linked_record (linked_authority_fields name variant other) name variant other refl h.0 h.1 h.2;
  taken = linked_taken name variant other h.0 h.1 h.2;
}
draft_taken (Deletion name) h = record {
  valid = deletion_record (deletion_fields name) name refl h;
  taken = deletion_taken name h;
}
draft_taken (Bibliographic number author) h = record {
  valid = bibliographic_record (bibliographic_fields number author) number author refl h.0 h.1;
  taken = bibliographic_taken number author h.0 h.1;
}

draft_short : (d : Draft) → HasSmallNumbers d → record_length (contents_of d).fields ≤ 386
draft_short (Authority name variant) h = short_record (authority_fields name variant) (authority_light name variant h.0 h.1)
draft_short (LinkedAuthority name variant other) h = short_record (linked_authority_fields name variant other) (linked_light name variant other h.0 h.1 h.2)
draft_short (Deletion name) h = short_record (deletion_fields name) (deletion_light name h)
draft_short (Bibliographic number author) h = short_record (bibliographic_fields number author) (bibliographic_light number author h.0 h.1)

records_taken : (names left number state : ℕ) → 0 < names → names ≤ 2 ^ 64 → number + left ≤ 2 ^ 64 → AreTaken (records_from names left number state)
records_taken names zero number state some most small = tt
records_taken names (suc left) number state some most small = (
  draft_taken (draft_of names number state) (draft_small names number state some most (omega (arith, small))),
  records_taken names left (number + 1) (state_behind names number state) some most (omega (arith, small)),
)

-- whose records are of at most 386 bytes
abbrev pub AreShort : List Contents → Type 0
AreShort cs = AllByRecursion (λ c. record_length c.fields ≤ 386) cs

records_short : (names left number state : ℕ) → 0 < names → names ≤ 2 ^ 64 → number + left ≤ 2 ^ 64 → AreShort (records_from names left number state)
records_short names zero number state some most small = tt
records_short names (suc left) number state some most small = (
  draft_short (draft_of names number state) (draft_small names number state some most (omega (arith, small))),
  records_short names left (number + 1) (state_behind names number state) some most (omega (arith, small)),
)

-- a catalogue takes each record of a workload
pub workload_taken : (seed count : ℕ) → count ≤ 1048576 → AreTaken (workload seed count)
unfolding workload
workload_taken seed count most = records_taken (1 + count / 16) count 1 seed (omega arith) (omega (arith, most)) (omega (arith, most))

pub workload_short : (seed count : ℕ) → count ≤ 1048576 → AreShort (workload seed count)
unfolding workload
workload_short seed count most = records_short (1 + count / 16) count 1 seed (omega arith) (omega (arith, most)) (omega (arith, most))
