-- A catalogue in parts: each part has all authorities, and the bibliographic records whose keys are its own. The rules are this
-- project's own.
use Rattle.std.specs.Prelude.{◌≡◌, Bool, true, false, ◌&&◌, not, All, List, [], ◌∷◌, map, filter}
use Rattle.std.specs.Ordering.{is_lt}
use Rattle.marc_types.specs.Order.{key_cmp, same_key}
use Rattle.marc_types.specs.declared.key.Class.{Class}
use Rattle.marc_types.specs.declared.key.Class.TheVariants.{Authority, Bibliographic}
use Rattle.marc_types.specs.declared.key.Key.{Key}
use Rattle.marc_types.specs.declared.entry.Entry.{Entry}
use Rattle.entry_record.specs.History.{IsAdmitted}
use Rattle.catalogue_rules.specs.State.{Row, State}
use Rattle.catalogue_rules.specs.Settle.{arrival_of}

-- a part, told by the keys of the bibliographic records that are its own
abbrev pub Part : Type 0
Part = Key → Bool

-- the part that has authorities alone
abbrev pub no_records : Part
no_records key = false

-- the part that has every record
abbrev pub every_record : Part
every_record key = true

-- an authority comes to each part, a bibliographic record to the part of its key
abbrev pub comes_to : Part → Class → Key → Bool
comes_to mine Authority key = true
comes_to mine Bibliographic key = mine key

-- the entries of a history that come to a part, in their order
abbrev pub part_of : Part → List Entry → List Entry
part_of mine history = filter (λ e. comes_to mine e.class e.key) history

-- the rows whose keys are the part's own, in their order
abbrev pub rows_in : Part → List Row → List Row
rows_in mine rows = filter (λ row. mine row.0) rows

-- a state with the bibliographic records of one part, and with all its authorities
abbrev pub cut : Part → State → State
cut mine s = record { authorities = s.authorities; bibliographic = rows_in mine s.bibliographic }

-- the keys that come before a bound
abbrev pub before : Key → Part
before bound key = is_lt (key_cmp key bound)

-- those of a part's keys that don't come before a bound
abbrev pub from : Key → Part → Part
from bound mine key = not (before bound key) && mine key

-- The parts that bounds make: the keys before the first bound, those from there before the second, and so on; the last part has the
-- keys from the last bound on. So there is one part more than bounds.
abbrev pub ranges : List Key → List Part
ranges [] = every_record ∷ []
ranges (bound ∷ bounds) = before bound ∷ map (from bound) (ranges bounds)

-- a job's history has the entries of the part, as a commit looks at them; their loaders, runs and numbers may differ
abbrev pub IsJobOf : List Entry → Part → List Entry → Type 0
IsJobOf whole mine job = map arrival_of job ≡ map arrival_of (part_of mine whole)

-- a job for each part, in the order of the parts
abbrev pub AreJobsOf : List Entry → List Part → List (List Entry) → Type 0
AreJobsOf whole parts jobs = map (λ job. map arrival_of job) jobs ≡ map (λ mine. map arrival_of (part_of mine whole)) parts

-- a whole of admitted entries, and a job that takes those of a part
pub record PartJob : Type 0 where
  pub whole : List Entry
  pub mine : Part
  pub job : List Entry
  pub admitted : All IsAdmitted whole
  pub takes : IsJobOf whole mine job

-- a whole of admitted entries, and a job for each part that the bounds make
pub record InParts : Type 0 where
  pub bounds : List Key
  pub whole : List Entry
  pub jobs : List (List Entry)
  pub admitted : All IsAdmitted whole
  pub take : AreJobsOf whole (ranges bounds) jobs

-- a job that takes the authorities alone
abbrev pub TakesNone : InParts → List Entry → Type 0
TakesNone p none = IsJobOf p.whole no_records none

-- of each key, two histories have its bibliographic entries and all authorities in one order, as a commit looks at them
abbrev pub AgreeByKeys : List Entry → List Entry → Type 0
AgreeByKeys one other = (key : Key) → map arrival_of (part_of (same_key key) one) ≡ map arrival_of (part_of (same_key key) other)
