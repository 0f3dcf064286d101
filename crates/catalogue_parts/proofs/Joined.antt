-- Exports, lines and numbers of the whole, from those of the parts.
use Rattle.std.proofs.Common.{◌≡◌, ℕ, ◌+◌, ◌-◌, ◌*◌, ◌≤◌, Bool, List, [], ◌∷◌, ◌++◌, map, length, refl, sym, ap, ◌∙◌, arith, suc-mul}
use Rattle.std.specs.Prelude.{All, filter, drop, sum}
use Rattle.std.specs.List.{flat_map, filter_map, enumerate_from, sum_by}
use Rattle.std.proofs.lemmas.List.{append-nil, length-append, drop_at}
use Rattle.std.proofs.lemmas.List.Elements.{filter-append, All-head, All-tail}
use Rattle.std.proofs.lemmas.List.Sums.{sum_by-cons, sum_by-append}
use Rattle.std.proofs.lemmas.Grind.{flat_map-append}
use Rattle.marc_types.specs.declared.key.Class.{Class}
use Rattle.marc_types.specs.declared.key.Class.TheVariants.{Authority, Bibliographic}
use Rattle.marc_types.specs.declared.key.Key.{Key}
use Rattle.marc_types.specs.declared.entry.Entry.{Entry}
use Rattle.entry_record.specs.History.{IsAdmitted}
use Rattle.catalogue_rules.specs.State.{KeptField, Row, State, row_linkable}
use Rattle.catalogue_rules.specs.Settle.{state_of}
use Rattle.catalogue_rules.specs.Receipt.{Standing, is_linked, is_ambiguous, is_unlinked, count_standing}
use Rattle.catalogue_rules.specs.Output.{written_row, export_of_rows, export_of, field_lines, ambiguous_line, ambiguous_lines, awaits_line, awaiting_lines, report_of, count_all}
use Rattle.catalogue_rules.specs.Valid.{IsAscending}
use Rattle.catalogue_rules.proofs.States.{every_state_valid}
use Rattle.catalogue_parts.specs.declared.totals.Totals.{Totals}
use Rattle.catalogue_parts.specs.Parts.{Part, no_records, rows_in, cut, ranges, IsJobOf, AreJobsOf}
use Rattle.catalogue_parts.specs.Joined.{joined, joined_number, joined_report, totals_of, line_of_totals, joined_totals}
use Rattle.catalogue_parts.proofs.Jobs.{job_cut, same_shared, same_cross, no_records_cut, jobs_cut}
use Rattle.catalogue_parts.proofs.Ranges.{rows_in_turn}

map_map : {A B C : Type 0} (f : A → B) (g : B → C) (xs : List A) → map (λ x. g (f x)) xs ≡ map g (map f xs)
map_map f g [] = refl
map_map f g (x ∷ xs) = ap (λ l. g (f x) ∷ l) (map_map f g xs)

-- ---- bytes

-- what is told of a state: something of its authorities, and then something of its bibliographic records, one after the other
pub record IsInTurn (F : State → List ℕ) (A : List Row → List ℕ) (B : List Row → List Row → List ℕ) : Type 0 where
  pub is : (s : State) → F s ≡ A s.authorities ++ B s.authorities s.bibliographic
  pub nothing : (all : List Row) → B all [] ≡ []
  pub more : (all xs ys : List Row) → B all (xs ++ ys) ≡ B all xs ++ B all ys

tail_bytes : (shared : List ℕ) (own : Part → List ℕ) (parts : List Part) → flat_map (λ bytes. drop (length shared) bytes) (map (λ mine. shared ++ own mine) parts) ≡ flat_map own parts
tail_bytes shared own [] = refl
tail_bytes shared own (mine ∷ parts) = λ i. drop_at shared (own mine) (length shared) refl i ++ tail_bytes shared own parts i

bytes_in_turn : (F : State → List ℕ) (A : List Row → List ℕ) (B : List Row → List Row → List ℕ) → IsInTurn F A B → (all rows : List Row) (parts : List Part) →
    flat_map (λ mine. B all (rows_in mine rows)) parts ≡ B all (flat_map (λ mine. rows_in mine rows) parts)
bytes_in_turn F A B t all rows [] = sym (t.nothing all)
bytes_in_turn F A B t all rows (mine ∷ parts) =
    ap (λ l. B all (rows_in mine rows) ++ l) (bytes_in_turn F A B t all rows parts) ∙ sym (t.more all (rows_in mine rows) (flat_map (λ m. rows_in m rows) parts))

shared_bytes : (F : State → List ℕ) (A : List Row → List ℕ) (B : List Row → List Row → List ℕ) → IsInTurn F A B → (s : State) → F (cut no_records s) ≡ A s.authorities
shared_bytes F A B t s =
    ap F (no_records_cut s) ∙ t.is (record { authorities = s.authorities; bibliographic = [] })
    ∙ ap (λ l. A s.authorities ++ l) (t.nothing s.authorities) ∙ append-nil (A s.authorities)

cuts_bytes : (F : State → List ℕ) (A : List Row → List ℕ) (B : List Row → List Row → List ℕ) → IsInTurn F A B → (s : State) (parts : List Part) →
    map F (map (λ mine. cut mine s) parts) ≡ map (λ mine. A s.authorities ++ B s.authorities (rows_in mine s.bibliographic)) parts
cuts_bytes F A B t s [] = refl
cuts_bytes F A B t s (mine ∷ parts) = λ i. t.is (cut mine s) i ∷ cuts_bytes F A B t s parts i

joined_cuts : (F : State → List ℕ) (A : List Row → List ℕ) (B : List Row → List Row → List ℕ) → IsInTurn F A B → (bounds : List Key) (s : State) → IsAscending s.bibliographic →
    joined (F (cut no_records s)) (map F (map (λ mine. cut mine s) (ranges bounds))) ≡ F s
joined_cuts F A B t bounds s ascend =
    let all = s.authorities in
    let own = λ (mine : Part). B all (rows_in mine s.bibliographic) in
    (λ i. joined (shared_bytes F A B t s i) (cuts_bytes F A B t s (ranges bounds) i))
    ∙ ap (λ l. A all ++ l) (tail_bytes (A all) own (ranges bounds) ∙ bytes_in_turn F A B t all s.bibliographic (ranges bounds) ∙ ap (B all) (rows_in_turn bounds s.bibliographic ascend))
    ∙ sym (t.is s)

-- what is told of the parts, joined, is what is told of the whole
pub joined_in_turn : (F : State → List ℕ) (A : List Row → List ℕ) (B : List Row → List Row → List ℕ) → IsInTurn F A B → (bounds : List Key) (whole none : List Entry) (jobs : List (List Entry)) →
    All IsAdmitted whole → IsJobOf whole no_records none → AreJobsOf whole (ranges bounds) jobs → joined (F (state_of none)) (map (λ job. F (state_of job)) jobs) ≡ F (state_of whole)
joined_in_turn F A B t bounds whole none jobs a first rest =
    let states = map_map state_of F jobs ∙ ap (map F) (jobs_cut whole (ranges bounds) jobs a rest) in
    (λ i. joined (F (job_cut no_records whole none a first i)) (states i)) ∙ joined_cuts F A B t bounds (state_of whole) (every_state_valid whole a).bibliographic_ascend

export_more : (keep : Key → Bool) (xs ys : List Row) → export_of_rows keep (xs ++ ys) ≡ export_of_rows keep xs ++ export_of_rows keep ys
export_more keep xs ys =
    ap (flat_map written_row) (filter-append (λ (row : Row). keep row.0) xs ys)
    ∙ flat_map-append written_row (filter (λ (row : Row). keep row.0) xs) (filter (λ (row : Row). keep row.0) ys)

export_in_turn : (keep : Key → Bool) → IsInTurn (export_of keep) (export_of_rows keep) (λ all rows. export_of_rows keep rows)
unfolding export_of
export_in_turn keep = record { is = λ s. refl; nothing = λ all. refl; more = λ all. export_more keep }

pub exports_joined : (keep : Key → Bool) (bounds : List Key) (whole none : List Entry) (jobs : List (List Entry)) → All IsAdmitted whole → IsJobOf whole no_records none →
    AreJobsOf whole (ranges bounds) jobs → joined (export_of keep (state_of none)) (map (λ job. export_of keep (state_of job)) jobs) ≡ export_of keep (state_of whole)
exports_joined keep = joined_in_turn (export_of keep) (export_of_rows keep) (λ all rows. export_of_rows keep rows) (export_in_turn keep)

-- the lines of rows of a class
abbrev lines_of_rows : (Class → Key → ℕ → KeptField → List ℕ) → Class → List Row → List ℕ
lines_of_rows lines_of class rows = flat_map (λ row. flat_map (λ numbered. lines_of class row.0 numbered.0 numbered.1) (enumerate_from 0 row.1.fields)) rows

lines_more : (lines_of : Class → Key → ℕ → KeptField → List ℕ) (class : Class) (xs ys : List Row) →
    lines_of_rows lines_of class (xs ++ ys) ≡ lines_of_rows lines_of class xs ++ lines_of_rows lines_of class ys
lines_more lines_of class xs ys =
    flat_map-append (λ (row : Row). flat_map (λ numbered. lines_of class row.0 numbered.0 numbered.1) (enumerate_from 0 row.1.fields)) xs ys

-- lines that look at the authorities alone, beside the field's own record
lines_in_turn : (lines_by : List Row → Class → Key → ℕ → KeptField → List ℕ) →
    IsInTurn (λ s. field_lines (lines_by s.authorities) s) (λ all. lines_of_rows (lines_by all) Authority all) (λ all rows. lines_of_rows (lines_by all) Bibliographic rows)
lines_in_turn lines_by = record { is = λ s. refl; nothing = λ all. refl; more = λ all. lines_more (lines_by all) Bibliographic }

pub lines_joined : (lines_by : List Row → Class → Key → ℕ → KeptField → List ℕ) (bounds : List Key) (whole none : List Entry) (jobs : List (List Entry)) → All IsAdmitted whole →
    IsJobOf whole no_records none → AreJobsOf whole (ranges bounds) jobs →
    joined (field_lines (lines_by (state_of none).authorities) (state_of none)) (map (λ job. field_lines (lines_by (state_of job).authorities) (state_of job)) jobs)
    ≡ field_lines (lines_by (state_of whole).authorities) (state_of whole)
lines_joined lines_by =
    joined_in_turn (λ s. field_lines (lines_by s.authorities) s) (λ all. lines_of_rows (lines_by all) Authority all) (λ all rows. lines_of_rows (lines_by all) Bibliographic rows) (lines_in_turn lines_by)

pub ambiguous_joined : (bounds : List Key) (whole none : List Entry) (jobs : List (List Entry)) → All IsAdmitted whole → IsJobOf whole no_records none →
    AreJobsOf whole (ranges bounds) jobs → joined (ambiguous_lines (state_of none)) (map (λ job. ambiguous_lines (state_of job)) jobs) ≡ ambiguous_lines (state_of whole)
ambiguous_joined = lines_joined (λ all. ambiguous_line (filter_map row_linkable all))

pub awaiting_joined : (bounds : List Key) (whole none : List Entry) (jobs : List (List Entry)) → All IsAdmitted whole → IsJobOf whole no_records none →
    AreJobsOf whole (ranges bounds) jobs → joined (awaiting_lines (state_of none)) (map (λ job. awaiting_lines (state_of job)) jobs) ≡ awaiting_lines (state_of whole)
awaiting_joined = lines_joined (λ all. awaits_line)

-- ---- numbers

-- what is counted of a state: something of its authorities, and something of its bibliographic records, each for itself
pub record IsSum (F : State → ℕ) (A : List Row → ℕ) (B : List Row → List Row → ℕ) : Type 0 where
  pub is : (s : State) → F s ≡ A s.authorities + B s.authorities s.bibliographic
  pub nothing : (all : List Row) → B all [] ≡ 0
  pub more : (all xs ys : List Row) → B all (xs ++ ys) ≡ B all xs + B all ys

beyond : (shared : ℕ) (own : Part → ℕ) (parts : List Part) → sum_by (λ number. number - shared) (map (λ mine. shared + own mine) parts) ≡ sum_by own parts
beyond shared own [] = refl
beyond shared own (mine ∷ parts) =
    let head = sum_by-cons (λ (number : ℕ). number - shared) (shared + own mine) (map (λ m. shared + own m) parts) in
    let same = sum_by-cons own mine parts in
    let rest = beyond shared own parts in
    omega arith

counted_in_turn : (F : State → ℕ) (A : List Row → ℕ) (B : List Row → List Row → ℕ) → IsSum F A B → (all rows : List Row) (parts : List Part) →
    sum_by (λ mine. B all (rows_in mine rows)) parts ≡ B all (flat_map (λ mine. rows_in mine rows) parts)
counted_in_turn F A B t all rows [] = sym (t.nothing all)
counted_in_turn F A B t all rows (mine ∷ parts) =
    sum_by-cons (λ (m : Part). B all (rows_in m rows)) mine parts
    ∙ ap (λ n. B all (rows_in mine rows) + n) (counted_in_turn F A B t all rows parts) ∙ sym (t.more all (rows_in mine rows) (flat_map (λ m. rows_in m rows) parts))

shared_number : (F : State → ℕ) (A : List Row → ℕ) (B : List Row → List Row → ℕ) → IsSum F A B → (s : State) → F (cut no_records s) ≡ A s.authorities
shared_number F A B t s =
    let same = ap F (no_records_cut s) ∙ t.is (record { authorities = s.authorities; bibliographic = [] }) in
    let nothing = t.nothing s.authorities in
    omega arith

cuts_numbers : (F : State → ℕ) (A : List Row → ℕ) (B : List Row → List Row → ℕ) → IsSum F A B → (s : State) (parts : List Part) →
    map F (map (λ mine. cut mine s) parts) ≡ map (λ mine. A s.authorities + B s.authorities (rows_in mine s.bibliographic)) parts
cuts_numbers F A B t s [] = refl
cuts_numbers F A B t s (mine ∷ parts) = λ i. t.is (cut mine s) i ∷ cuts_numbers F A B t s parts i

number_of_cuts : (F : State → ℕ) (A : List Row → ℕ) (B : List Row → List Row → ℕ) → IsSum F A B → (bounds : List Key) (s : State) → IsAscending s.bibliographic →
    joined_number (F (cut no_records s)) (map F (map (λ mine. cut mine s) (ranges bounds))) ≡ F s
number_of_cuts F A B t bounds s ascend =
    let all = s.authorities in
    let own = λ (mine : Part). B all (rows_in mine s.bibliographic) in
    (λ i. joined_number (shared_number F A B t s i) (cuts_numbers F A B t s (ranges bounds) i))
    ∙ ap (λ n. A all + n) (beyond (A all) own (ranges bounds) ∙ counted_in_turn F A B t all s.bibliographic (ranges bounds) ∙ ap (B all) (rows_in_turn bounds s.bibliographic ascend))
    ∙ sym (t.is s)

-- numbers of the parts, joined, are the whole's
pub number_joined : (F : State → ℕ) (A : List Row → ℕ) (B : List Row → List Row → ℕ) → IsSum F A B → (bounds : List Key) (whole none : List Entry) (jobs : List (List Entry)) →
    All IsAdmitted whole → IsJobOf whole no_records none → AreJobsOf whole (ranges bounds) jobs → joined_number (F (state_of none)) (map (λ job. F (state_of job)) jobs) ≡ F (state_of whole)
number_joined F A B t bounds whole none jobs a first rest =
    let states = map_map state_of F jobs ∙ ap (map F) (jobs_cut whole (ranges bounds) jobs a rest) in
    (λ i. joined_number (F (job_cut no_records whole none a first i)) (states i)) ∙ number_of_cuts F A B t bounds (state_of whole) (every_state_valid whole a).bibliographic_ascend

-- how many fields of rows of a class stand so
abbrev standing_in : (Standing → Bool) → Class → List Row → List Row → ℕ
standing_in test class all rows = sum_by (λ row. count_standing test (filter_map row_linkable all) class row.1) rows

standing_sum : (test : Standing → Bool) → IsSum (count_all test) (λ all. standing_in test Authority all all) (standing_in test Bibliographic)
standing_sum test = record {
  is = λ s. refl;
  nothing = λ all. refl;
  more = λ all. sum_by-append (λ (row : Row). count_standing test (filter_map row_linkable all) Bibliographic row.1);
}

authorities_sum : IsSum (λ s. length s.authorities) (λ all. length all) (λ all rows. 0)
authorities_sum = record { is = λ s. omega arith; nothing = λ all. refl; more = λ all xs ys. refl }

bibliographic_sum : IsSum (λ s. length s.bibliographic) (λ all. 0) (λ all rows. length rows)
bibliographic_sum = record { is = λ s. omega arith; nothing = λ all. refl; more = λ all. length-append }

pub counts_joined : (test : Standing → Bool) (bounds : List Key) (whole none : List Entry) (jobs : List (List Entry)) → All IsAdmitted whole → IsJobOf whole no_records none →
    AreJobsOf whole (ranges bounds) jobs → joined_number (count_all test (state_of none)) (map (λ job. count_all test (state_of job)) jobs) ≡ count_all test (state_of whole)
counts_joined test = number_joined (count_all test) (λ all. standing_in test Authority all all) (standing_in test Bibliographic) (standing_sum test)

totals_by : (F : Totals → ℕ) (G : State → ℕ) → ((s : State) → F (totals_of s) ≡ G s) → (jobs : List (List Entry)) →
    map F (map (λ job. totals_of (state_of job)) jobs) ≡ map (λ job. G (state_of job)) jobs
totals_by F G same [] = refl
totals_by F G same (job ∷ jobs) = λ i. same (state_of job) i ∷ totals_by F G same jobs i

pub totals_joined : (bounds : List Key) (whole none : List Entry) (jobs : List (List Entry)) → All IsAdmitted whole → IsJobOf whole no_records none →
    AreJobsOf whole (ranges bounds) jobs → joined_totals (totals_of (state_of none)) (map (λ job. totals_of (state_of job)) jobs) ≡ totals_of (state_of whole)
totals_joined bounds whole none jobs a first rest =
    let authorities = ap (joined_number (length (state_of none).authorities)) (totals_by (λ t. t.authorities) (λ s. length s.authorities) (λ s. refl) jobs)
    ∙ number_joined (λ s. length s.authorities) (λ all. length all) (λ all rows. 0) authorities_sum bounds whole none jobs a first rest in
    let bibliographic = ap (joined_number (length (state_of none).bibliographic)) (totals_by (λ t. t.bibliographic) (λ s. length s.bibliographic) (λ s. refl) jobs)
    ∙ number_joined (λ s. length s.bibliographic) (λ all. 0) (λ all rows. length rows) bibliographic_sum bounds whole none jobs a first rest in
    let linked = ap (joined_number (count_all is_linked (state_of none))) (totals_by (λ t. t.linked) (count_all is_linked) (λ s. refl) jobs) ∙ counts_joined is_linked bounds whole none jobs a first rest in
    let ambiguous = ap (joined_number (count_all is_ambiguous (state_of none))) (totals_by (λ t. t.ambiguous) (count_all is_ambiguous) (λ s. refl) jobs) ∙ counts_joined is_ambiguous bounds whole none jobs a first rest in
    let unlinked = ap (joined_number (count_all is_unlinked (state_of none))) (totals_by (λ t. t.unlinked) (count_all is_unlinked) (λ s. refl) jobs) ∙ counts_joined is_unlinked bounds whole none jobs a first rest in
    λ i. record { authorities = authorities i; bibliographic = bibliographic i; linked = linked i; ambiguous = ambiguous i; unlinked = unlinked i }

-- the report, from what is joined of it
pub report_joined : (bounds : List Key) (whole none : List Entry) (jobs : List (List Entry)) → All IsAdmitted whole → IsJobOf whole no_records none →
    AreJobsOf whole (ranges bounds) jobs → joined_report (state_of none) (map state_of jobs) ≡ report_of (state_of whole)
unfolding report_of
report_joined bounds whole none jobs a first rest =
    let ambiguous = ap (joined (ambiguous_lines (state_of none))) (sym (map_map state_of ambiguous_lines jobs)) ∙ ambiguous_joined bounds whole none jobs a first rest in
    let shared = same_shared no_records whole none a first in
    let cross = same_cross no_records whole none a first in
    let awaiting = ap (joined (awaiting_lines (state_of none))) (sym (map_map state_of awaiting_lines jobs)) ∙ awaiting_joined bounds whole none jobs a first rest in
    let totals = ap (joined_totals (totals_of (state_of none))) (sym (map_map state_of totals_of jobs)) ∙ totals_joined bounds whole none jobs a first rest in
    λ i. ambiguous i ++ shared i ++ cross i ++ awaiting i ++ line_of_totals (totals i)

-- a joined number is the sum, less what each part but one has again
pub number_is_sum : (shared : ℕ) (numbers : List ℕ) → All (λ number. shared ≤ number) numbers → joined_number shared numbers + length numbers * shared ≡ shared + sum numbers
number_is_sum shared [] a = omega arith
number_is_sum shared (number ∷ numbers) a =
    let head = sum_by-cons (λ (n : ℕ). n - shared) number numbers in
    let whole = sum_by-cons (λ (n : ℕ). n) number numbers in
    let enough = All-head (λ n. shared ≤ n) number numbers a in
    let rest = number_is_sum shared numbers (All-tail (λ n. shared ≤ n) number numbers a) in
    let more = suc-mul (length numbers) shared in
    omega arith
