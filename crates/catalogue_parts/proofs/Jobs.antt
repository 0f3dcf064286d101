-- The states of jobs beside the state of the whole.
use Rattle.std.proofs.Common.{◌≡◌, Bool, true, false, cond, List, [], ◌∷◌, ◌++◌, map, Option, None, refl, sym, ap, ◌∙◌}
use Rattle.std.specs.Prelude.{All, if◌then◌else◌}
use Rattle.std.specs.List.{flat_map}
use Rattle.std.proofs.lemmas.Map.Entries.{lookup-filter-keys}
use Rattle.marc_types.specs.Order.{key_Decides, same_key}
use Rattle.marc_types.specs.declared.key.Class.TheVariants.{Bibliographic}
use Rattle.marc_types.specs.declared.key.Key.{Key}
use Rattle.marc_types.specs.declared.entry.Entry.{Entry}
use Rattle.entry_record.specs.History.{IsAdmitted}
use Rattle.catalogue_rules.specs.State.{KeptRecord, Row, State, linkable_authorities}
use Rattle.catalogue_rules.specs.Settle.{state_after, arrival_of, state_of}
use Rattle.catalogue_rules.specs.Receipt.{kept_under}
use Rattle.catalogue_rules.specs.Output.{shared_lines, cross_lines}
use Rattle.catalogue_rules.proofs.States.{every_state_valid}
use Rattle.catalogue_parts.specs.Parts.{Part, no_records, part_of, rows_in, cut, ranges, IsJobOf, AreJobsOf}
use Rattle.catalogue_parts.proofs.Cut.{part_cut}
use Rattle.catalogue_parts.proofs.Ranges.{rows_in_turn}

-- a job's state is its part of the whole's
pub job_cut : (mine : Part) (whole job : List Entry) → All IsAdmitted whole → IsJobOf whole mine job → state_of job ≡ cut mine (state_of whole)
job_cut mine whole job a same = ap state_after same ∙ part_cut mine whole a

pub same_authorities : (mine : Part) (whole job : List Entry) → All IsAdmitted whole → IsJobOf whole mine job → (state_of job).authorities ≡ (state_of whole).authorities
same_authorities mine whole job a same = ap (λ s. s.authorities) (job_cut mine whole job a same)

pub same_linkables : (mine : Part) (whole job : List Entry) → All IsAdmitted whole → IsJobOf whole mine job → linkable_authorities (state_of job) ≡ linkable_authorities (state_of whole)
same_linkables mine whole job a same = ap linkable_authorities (job_cut mine whole job a same)

pub same_shared : (mine : Part) (whole job : List Entry) → All IsAdmitted whole → IsJobOf whole mine job →
    shared_lines (linkable_authorities (state_of job)) ≡ shared_lines (linkable_authorities (state_of whole))
same_shared mine whole job a same = ap shared_lines (same_linkables mine whole job a same)

pub same_cross : (mine : Part) (whole job : List Entry) → All IsAdmitted whole → IsJobOf whole mine job →
    cross_lines (linkable_authorities (state_of job)) ≡ cross_lines (linkable_authorities (state_of whole))
same_cross mine whole job a same = ap cross_lines (same_linkables mine whole job a same)

none_in : (rows : List Row) → rows_in no_records rows ≡ []
none_in [] = refl
none_in (row ∷ rows) = none_in rows

-- a job without records has the authorities alone
pub no_records_cut : (s : State) → cut no_records s ≡ record { authorities = s.authorities; bibliographic = [] }
no_records_cut s = let none = none_in s.bibliographic in λ i. record { authorities = s.authorities; bibliographic = none i }

cond_same : (b : Bool) (o : Option KeptRecord) → cond b o None ≡ (if b then o else None)
cond_same true o = refl
cond_same false o = refl

-- a record stands in its part as in the whole, and in no other
pub kept_in_part : (mine : Part) (whole job : List Entry) (key : Key) → All IsAdmitted whole → IsJobOf whole mine job →
    kept_under Bibliographic key (state_of job) ≡ (if mine key then kept_under Bibliographic key (state_of whole) else None)
kept_in_part mine whole job key a same =
    let found = lookup-filter-keys (same_key key) mine (mine key) (λ other e. ap mine (sym ((key_Decides key other).0 e))) (state_of whole).bibliographic in
    ap (kept_under Bibliographic key) (job_cut mine whole job a same) ∙ found ∙ cond_same (mine key) (kept_under Bibliographic key (state_of whole))

-- ---- of many jobs

after_arrivals : (jobs : List (List Entry)) → map state_after (map (λ job. map arrival_of job) jobs) ≡ map state_of jobs
after_arrivals [] = refl
after_arrivals (job ∷ jobs) = ap (λ l. state_of job ∷ l) (after_arrivals jobs)

after_parts : (whole : List Entry) (parts : List Part) → All IsAdmitted whole →
    map state_after (map (λ mine. map arrival_of (part_of mine whole)) parts) ≡ map (λ mine. cut mine (state_of whole)) parts
after_parts whole [] a = refl
after_parts whole (mine ∷ parts) a = λ i. part_cut mine whole a i ∷ after_parts whole parts a i

-- the states of jobs are the parts of the whole's
pub jobs_cut : (whole : List Entry) (parts : List Part) (jobs : List (List Entry)) → All IsAdmitted whole → AreJobsOf whole parts jobs →
    map state_of jobs ≡ map (λ mine. cut mine (state_of whole)) parts
jobs_cut whole parts jobs a same = sym (after_arrivals jobs) ∙ ap (map state_after) same ∙ after_parts whole parts a

rows_of_cuts : (s : State) (parts : List Part) → flat_map (λ (t : State). t.bibliographic) (map (λ mine. cut mine s) parts) ≡ flat_map (λ mine. rows_in mine s.bibliographic) parts
rows_of_cuts s [] = refl
rows_of_cuts s (mine ∷ parts) = ap (λ l. rows_in mine s.bibliographic ++ l) (rows_of_cuts s parts)

rows_of_states : (jobs : List (List Entry)) → flat_map (λ job. (state_of job).bibliographic) jobs ≡ flat_map (λ (t : State). t.bibliographic) (map state_of jobs)
rows_of_states [] = refl
rows_of_states (job ∷ jobs) = ap (λ l. (state_of job).bibliographic ++ l) (rows_of_states jobs)

-- their rows, one job after the other, are those of the whole
pub rows_joined : (bounds : List Key) (whole : List Entry) (jobs : List (List Entry)) → All IsAdmitted whole → AreJobsOf whole (ranges bounds) jobs →
    flat_map (λ job. (state_of job).bibliographic) jobs ≡ (state_of whole).bibliographic
rows_joined bounds whole jobs a same =
    rows_of_states jobs ∙ ap (flat_map (λ (t : State). t.bibliographic)) (jobs_cut whole (ranges bounds) jobs a same)
    ∙ rows_of_cuts (state_of whole) (ranges bounds) ∙ rows_in_turn bounds (state_of whole).bibliographic (every_state_valid whole a).bibliographic_ascend
