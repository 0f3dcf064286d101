-- What is joined of the parts: what stands in every part once, and then what each part has beyond it. The rules are this project's
-- own.
use Rattle.std.specs.Prelude.{◌≡◌, ℕ, ◌+◌, ◌-◌, All, List, ◌++◌, length, drop, map, codes}
use Rattle.std.specs.List.{flat_map, sum_by}
use Rattle.std.specs.Fmt.{decimal}
use Rattle.marc_types.specs.declared.entry.Entry.{Entry}
use Rattle.marc_types.specs.declared.entry.Receipt.{Receipt}
use Rattle.marc_types.specs.declared.key.Class.TheVariants.{Bibliographic}
use Rattle.marc_types.specs.declared.key.Key.{Key}
use Rattle.entry_record.specs.History.{IsAdmitted}
use Rattle.catalogue_rules.specs.Lines.{line}
use Rattle.catalogue_rules.specs.Receipts.{receipts_behind}
use Rattle.catalogue_rules.specs.Settle.{state_of}
use Rattle.catalogue_rules.specs.State.{State, linkable_authorities}
use Rattle.catalogue_rules.specs.Receipt.{is_linked, is_ambiguous, is_unlinked}
use Rattle.catalogue_parts.specs.Parts.{InParts, part_of, ranges}
use Rattle.catalogue_parts.specs.declared.totals.Totals.{Totals}
use Rattle.catalogue_rules.specs.Output.{ambiguous_lines, awaiting_lines, shared_lines, cross_lines, count_all}

-- bytes that stand in front of every part's, once, and then what each part has behind them
abbrev pub joined : List ℕ → List (List ℕ) → List ℕ
joined shared parts = shared ++ flat_map (λ bytes. drop (length shared) bytes) parts

-- a number that counts what stands in every part, once, and then what each part's number counts beyond it
abbrev pub joined_number : ℕ → List ℕ → ℕ
joined_number shared numbers = shared + sum_by (λ number. number - shared) numbers

-- the numbers of a state's report: records of each class, and headings that stand in each way
abbrev pub totals_of : State → Totals
totals_of s = record {
  authorities = length s.authorities;
  bibliographic = length s.bibliographic;
  linked = count_all is_linked s;
  ambiguous = count_all is_ambiguous s;
  unlinked = count_all is_unlinked s;
}

-- the line that tells them
abbrev pub line_of_totals : Totals → List ℕ
line_of_totals t =
    line (codes "TOTAL authorities=" ++ decimal t.authorities
    ++ codes " bibliographic=" ++ decimal t.bibliographic
    ++ codes " linked=" ++ decimal t.linked
    ++ codes " ambiguous=" ++ decimal t.ambiguous
    ++ codes " unlinked=" ++ decimal t.unlinked)

-- those of the whole: each number joined
abbrev pub joined_totals : Totals → List Totals → Totals
joined_totals shared parts = record {
  authorities = joined_number shared.authorities (map (λ t. t.authorities) parts);
  bibliographic = joined_number shared.bibliographic (map (λ t. t.bibliographic) parts);
  linked = joined_number shared.linked (map (λ t. t.linked) parts);
  ambiguous = joined_number shared.ambiguous (map (λ t. t.ambiguous) parts);
  unlinked = joined_number shared.unlinked (map (λ t. t.unlinked) parts);
}

-- the report of the whole, from the states of the parts and that of the authorities alone
abbrev pub joined_report : State → List State → List ℕ
joined_report shared parts =
    joined (ambiguous_lines shared) (map ambiguous_lines parts)
    ++ shared_lines (linkable_authorities shared)
    ++ cross_lines (linkable_authorities shared)
    ++ joined (awaiting_lines shared) (map awaiting_lines parts)
    ++ line_of_totals (joined_totals (totals_of shared) (map totals_of parts))

-- what is told of the states that the jobs come to, joined, is what is told of the whole's; what stands in each is told of the job that takes
-- the authorities alone
abbrev pub AreJoined : (State → List ℕ) → InParts → List Entry → Type 0
AreJoined told p none = joined (told (state_of none)) (map (λ job. told (state_of job)) p.jobs) ≡ told (state_of p.whole)

-- so is what is counted in them
abbrev pub AreCounted : (State → ℕ) → InParts → List Entry → Type 0
AreCounted counted p none = joined_number (counted (state_of none)) (map (λ job. counted (state_of job)) p.jobs) ≡ counted (state_of p.whole)

-- and so are the numbers of their reports
abbrev pub HaveTotals : InParts → List Entry → Type 0
HaveTotals p none = joined_totals (totals_of (state_of none)) (map (λ job. totals_of (state_of job)) p.jobs) ≡ totals_of (state_of p.whole)

-- Of bibliographic records that come behind a history, this number of their receipts is the same in the parts, summed, as in the whole.
abbrev pub TellTogether : (Receipt → ℕ) → Type 0
TellTogether number =
    (bounds : List Key) (before added : List Entry) → All IsAdmitted before → All IsAdmitted added → All (λ e. e.class ≡ Bibliographic) added
    → sum_by (λ mine. sum_by number (receipts_behind (part_of mine before) (part_of mine added))) (ranges bounds)
    ≡ sum_by number (receipts_behind before added)
