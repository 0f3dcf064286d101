-- What jobs leave that took the parts of a history.
use Rattle.std.specs.Prelude.{◌≡◌, ℕ, true, List, map, All, Some}
use Rattle.marc_types.specs.Valid.{is_record}
use Rattle.iso2709_record.specs.Texts.{HasUtf8Texts}
use Rattle.marc_types.specs.declared.entry.Entry.{Entry}
use Rattle.catalogue_rules.specs.Output.{report_of}
use Rattle.catalogue_rules.specs.Settle.{state_of}
use Rattle.catalogue_rules.specs.State.{State, fields_of}
use Rattle.catalogue_rules.specs.Valid.{EachRow}
use Rattle.catalogue_parts.specs.Joined.{totals_of}
use Rattle.parts_commands.specs.Reports.{FileOf, AreSmall}

-- the files of these names are the reports of jobs: the first of one that took the authorities alone; each number is below 2^64
pub record AreReportsOfJobs (file : FileOf) (first : List ℕ) (names : List (List ℕ)) (none : List Entry) (jobs : List (List Entry)) : Type 0 where
  pub first_is : file first ≡ Some (report_of (state_of none))
  pub names_are : map file names ≡ map (λ job. Some (report_of (state_of job))) jobs
  pub first_small : AreSmall (totals_of (state_of none))
  pub small : All (λ job. AreSmall (totals_of (state_of job))) jobs

-- each kept record is a record, as the type says of all that a store keeps
abbrev pub AreRecords : State → Type 0
AreRecords s = EachRow (λ class row. is_record row.1.leader (fields_of row.1) ≡ true) s

-- each of its texts is UTF-8, as the type says too
abbrev pub AreTexts : State → Type 0
AreTexts s = EachRow (λ class row. All HasUtf8Texts (fields_of row.1)) s
