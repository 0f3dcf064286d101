-- The reports of jobs, and what they come to.
use Rattle.std.proofs.Common.{◌≡◌, ◌≢◌, ◌∙◌, inl, inr, ℕ, ◌+◌, ◌-◌, ◌<◌, ◌≤◌, ◌^◌, Bool, true, false, true≢false, nat_lt, List, [], ◌∷◌, ◌++◌, length, map, take, drop, Option, Some, None, refl, sym, ap, subst, arith, append_assoc, append-nil, ltb-true, length-append}
use Rattle.std.specs.Prelude.{All, codes, not, ◌&&◌, if◌then◌else◌}
use Rattle.std.specs.List.{flat_map, prefix_len, sum_by, enumerate_from, filter_map}
use Rattle.std.specs.Fmt.{decimal}
use Rattle.std.specs.Option.{option_map_or}
use Rattle.std.specs.Str.Parse.{digits_value}
use Rattle.std.proofs.lemmas.Fmt.{digits_value-decimal}
use Rattle.std.proofs.lemmas.List.{drop_at, take_at}
use Rattle.std.proofs.lemmas.List.Elements.{All-head, All-tail}
use Rattle.marc_types.specs.Order.{same_key}
use Rattle.marc_types.specs.Valid.{is_digit}
use Rattle.marc_types.specs.declared.entry.Entry.{Entry}
use Rattle.marc_types.specs.declared.key.Class.{Class}
use Rattle.marc_types.specs.declared.key.Class.TheVariants.{Authority, Bibliographic}
use Rattle.marc_types.specs.declared.key.Key.{Key}
use Rattle.heading_fields.specs.Numbers.{key_text}
use Rattle.entry_record.specs.Authority.{Linkable}
use Rattle.entry_record.specs.History.{IsAdmitted}
use Rattle.catalogue_rules.specs.Choice.{is_see_from_form}
use Rattle.catalogue_rules.specs.Lines.{line, then_word, then_words}
use Rattle.catalogue_rules.specs.Output.{ambiguous_line, ambiguous_line_by, ambiguous_lines, awaiting_lines, awaits_line, count_all, cross_line, cross_lines, field_lines, is_least_of, keys_sharing_form_of, place_words, report_of, shared_line, shared_lines, total_line}
use Rattle.catalogue_rules.specs.Receipt.{Standing, LinkedTo, AmbiguousAmong, WithoutLink, WithoutHeading, count_standing, is_ambiguous, is_linked, is_unlinked, standing_of}
use Rattle.catalogue_rules.specs.Settle.{state_of}
use Rattle.catalogue_rules.specs.State.{KeptField, Row, State, linkable_authorities, row_linkable}
use Rattle.catalogue_parts.specs.declared.totals.Totals.{Totals}
use Rattle.catalogue_parts.specs.Joined.{joined_totals, line_of_totals, totals_of}
use Rattle.catalogue_parts.specs.Parts.{Part, AreJobsOf, IsJobOf, cut, no_records, ranges, rows_in}
use Rattle.catalogue_parts.proofs.Jobs.{job_cut, jobs_cut, no_records_cut}
use Rattle.catalogue_parts.proofs.Joined.{totals_joined}
use Rattle.parts_commands.specs.Jobs.{AreReportsOfJobs}
use Rattle.parts_commands.specs.Reports.{AreJoined, AreLines, AreReports, AreSmall, FileOf, IsBeyond, IsLastLine, IsReportOf, ReportsDiffer, AtFirst, AtPart}
use Rattle.parts_commands.proofs.Lines.{all_digits, from_ambiguous, from_authorities, from_bibliographic, from_linked, from_unlinked, line_parts, number_len, plain_words, words_of}
use Rattle.parts_commands.proofs.Read.{line_there}

-- ---- a line tells one set of numbers

-- bytes that begin with none that comes behind digits
abbrev begins_low : List ℕ → Bool
begins_low [] = false
begins_low (b ∷ bytes) = nat_lt b 48

len_before : (n : ℕ) (rest : List ℕ) → n < 2 ^ 64 → begins_low rest ≡ true → prefix_len is_digit (decimal n ++ rest) ≡ length (decimal n)
len_before n [] small low = absurd (true≢false (sym low))
len_before n (b ∷ rest) small low = number_len n b rest small (ltb-true b 48 low)

record IsOneNumber (n m : ℕ) (p q : List ℕ) : Type 0 where
  number : n ≡ m
  rest : p ≡ q

one_number : (n m : ℕ) (p q : List ℕ) → decimal n ++ p ≡ decimal m ++ q → n < 2 ^ 64 → m < 2 ^ 64 → begins_low p ≡ true → begins_low q ≡ true → IsOneNumber n m p q
one_number n m p q e small other_small low other_low =
    let len : length (decimal n) ≡ length (decimal m) = sym (len_before n p small low) ∙ ap (prefix_len is_digit) e ∙ len_before m q other_small other_low in
    let digits : decimal n ≡ decimal m =
    sym (take_at (decimal n) p (length (decimal n)) refl) ∙ ap (take (length (decimal n))) e ∙ take_at (decimal m) q (length (decimal n)) (sym len) in
    record {
      number = sym (digits_value-decimal all_digits n small) ∙ ap (digits_value 10) digits ∙ digits_value-decimal all_digits m other_small;
      rest = sym (drop_at (decimal n) p (length (decimal n)) refl) ∙ ap (drop (length (decimal n))) e ∙ drop_at (decimal m) q (length (decimal n)) (sym len);
    }

behind_label : (label p q : List ℕ) → label ++ p ≡ label ++ q → p ≡ q
behind_label label p q e = sym (drop_at label p (length label) refl) ∙ ap (drop (length label)) e ∙ drop_at label q (length label) refl

one_line : (t u : Totals) → AreSmall t → AreSmall u → line_of_totals t ≡ line_of_totals u → t ≡ u
one_line t u small other e =
    let whole : from_authorities t ≡ from_authorities u = sym (line_parts t) ∙ e ∙ line_parts u in
    let a = one_number t.authorities u.authorities (from_bibliographic t) (from_bibliographic u)
    (behind_label (codes "TOTAL authorities=") (decimal t.authorities ++ from_bibliographic t) (decimal u.authorities ++ from_bibliographic u) whole)
    small.authorities other.authorities refl refl in
    let b = one_number t.bibliographic u.bibliographic (from_linked t) (from_linked u)
    (behind_label (codes " bibliographic=") (decimal t.bibliographic ++ from_linked t) (decimal u.bibliographic ++ from_linked u) a.rest)
    small.bibliographic other.bibliographic refl refl in
    let l = one_number t.linked u.linked (from_ambiguous t) (from_ambiguous u)
    (behind_label (codes " linked=") (decimal t.linked ++ from_ambiguous t) (decimal u.linked ++ from_ambiguous u) b.rest)
    small.linked other.linked refl refl in
    let m = one_number t.ambiguous u.ambiguous (from_unlinked t) (from_unlinked u)
    (behind_label (codes " ambiguous=") (decimal t.ambiguous ++ from_unlinked t) (decimal u.ambiguous ++ from_unlinked u) l.rest)
    small.ambiguous other.ambiguous refl refl in
    let n = one_number t.unlinked u.unlinked (10 ∷ []) (10 ∷ [])
    (behind_label (codes " unlinked=") (decimal t.unlinked ++ 10 ∷ []) (decimal u.unlinked ++ 10 ∷ []) m.rest)
    small.unlinked other.unlinked refl refl in
    λ i. record { authorities = a.number i; bibliographic = b.number i; linked = l.number i; ambiguous = m.number i; unlinked = n.number i }

-- the last line begins behind the other lines
last_behind : (t : Totals) (bytes : List ℕ) (r : IsReportOf t bytes) → IsLastLine bytes (length r.before)
last_behind t bytes r =
    let words : List ℕ = words_of t in
    let behind : drop (length r.before) bytes ≡ words ++ 10 ∷ [] = ap (drop (length r.before)) r.ends ∙ drop_at r.before (words ++ 10 ∷ []) (length r.before) refl in
    let size : length bytes ≡ length r.before + (length words + 1) =
    ap length r.ends ∙ omega (arith, length-append r.before (words ++ 10 ∷ []), length-append words (10 ∷ [])) in
    let count : length bytes - 1 - length r.before ≡ length words = omega (arith, size) in
    let body : take (length bytes - 1 - length r.before) (drop (length r.before) bytes) ≡ words =
    ap (take (length bytes - 1 - length r.before)) behind ∙ take_at words (10 ∷ []) (length bytes - 1 - length r.before) (sym count) in
    record {
      within = omega (arith, size);
      begins = subst AreLines (sym (ap (take (length r.before)) r.ends ∙ take_at r.before (words ++ 10 ∷ []) (length r.before) refl)) r.lines;
      alone = subst (All (λ b. b ≢ 10)) (sym body) (plain_words t r.small);
    }

-- a report is of one set of numbers
one_report : (t u : Totals) (bytes : List ℕ) → IsReportOf t bytes → IsReportOf u bytes → t ≡ u
one_report t u bytes r other =
    let last = last_behind t bytes r in
    one_line t u r.small other.small (sym (line_there bytes (length r.before) t last r) ∙ line_there bytes (length r.before) u last other)

-- ---- a state's report is one of its numbers

lines_of : (text : List ℕ) → AreLines (line text)
lines_of text = inr (text, refl)

lines_then : (xs ys : List ℕ) → AreLines xs → AreLines ys → AreLines (xs ++ ys)
lines_then xs ys first (inl none) = subst AreLines (sym (append-nil xs) ∙ ap (λ l. xs ++ l) (sym none)) first
lines_then xs ys first (inr more) = inr (xs ++ more.0, ap (λ l. xs ++ l) more.1 ∙ sym (append_assoc xs more.0 (10 ∷ [])))

lines_each : {X : Type 0} (f : X → List ℕ) → ((x : X) → AreLines (f x)) → (xs : List X) → AreLines (flat_map f xs)
lines_each f each [] = inl refl
lines_each f each (x ∷ xs) = lines_then (f x) (flat_map f xs) (each x) (lines_each f each xs)

lines_where : (b : Bool) (text : List ℕ) → AreLines (if b then line text else [])
lines_where true text = lines_of text
lines_where false text = inl refl

abbrev lines_of_rows : (Class → Key → ℕ → KeptField → List ℕ) → Class → List Row → List ℕ
lines_of_rows lines_by class rows =
    flat_map (λ row. flat_map (λ numbered. lines_by class row.0 numbered.0 numbered.1) (enumerate_from 0 row.1.fields)) rows

row_lines_are : (lines_by : Class → Key → ℕ → KeptField → List ℕ) → ((class : Class) (key : Key) (place : ℕ) (h : KeptField) → AreLines (lines_by class key place h))
    → (class : Class) (rows : List Row) → AreLines (lines_of_rows lines_by class rows)
row_lines_are lines_by each class rows =
    lines_each (λ (row : Row). flat_map (λ numbered. lines_by class row.0 numbered.0 numbered.1) (enumerate_from 0 row.1.fields))
    (λ row. lines_each (λ (numbered : ℕ × KeptField). lines_by class row.0 numbered.0 numbered.1) (λ numbered. each class row.0 numbered.0 numbered.1)
    (enumerate_from 0 row.1.fields)) rows

field_lines_are : (lines_by : Class → Key → ℕ → KeptField → List ℕ) → ((class : Class) (key : Key) (place : ℕ) (h : KeptField) → AreLines (lines_by class key place h))
    → (s : State) → AreLines (field_lines lines_by s)
field_lines_are lines_by each s =
    lines_then (lines_of_rows lines_by Authority s.authorities) (lines_of_rows lines_by Bibliographic s.bibliographic)
    (row_lines_are lines_by each Authority s.authorities) (row_lines_are lines_by each Bibliographic s.bibliographic)

ambiguous_is : (class : Class) (key : Key) (place : ℕ) (h : KeptField) (standing : Standing) → AreLines (ambiguous_line_by class key place h standing)
ambiguous_is class key place h (LinkedTo linked) = inl refl
ambiguous_is class key place h (AmbiguousAmong keys) = lines_of (codes "AMBIGUOUS" ++ place_words class key place h ++ then_words (map key_text keys))
ambiguous_is class key place h WithoutLink = inl refl
ambiguous_is class key place h WithoutHeading = inl refl

awaits_is : (class : Class) (key : Key) (place : ℕ) (h : KeptField) → AreLines (awaits_line class key place h)
awaits_is class key place h = by h.tie.awaits
  where
    by : (awaited : Option Key) → AreLines (option_map_or (λ k. line (codes "AWAITS" ++ place_words class key place h ++ then_word (key_text k))) awaited [])
    by None = inl refl
    by (Some k) = lines_of (codes "AWAITS" ++ place_words class key place h ++ then_word (key_text k))

shared_is : (key : Key) (keys : List Key) → AreLines (shared_line key keys)
shared_is key keys = lines_where (is_least_of key keys) (codes "SHARED" ++ then_words (map key_text keys))

cross_is : (x y : Linkable) → AreLines (cross_line x y)
cross_is x y =
    lines_where (not (same_key x.key y.key) && is_see_from_form y.established x) (codes "CROSS" ++ then_words (key_text x.key ∷ key_text y.key ∷ []))

report_lines : (s : State) → AreLines (ambiguous_lines s ++ shared_lines (linkable_authorities s) ++ cross_lines (linkable_authorities s) ++ awaiting_lines s)
report_lines s =
    let all : List Linkable = linkable_authorities s in
    let ambiguous = field_lines_are (ambiguous_line all) (λ class key place h. ambiguous_is class key place h (standing_of all class h)) s in
    let shared = lines_each (λ c. shared_line c.key (keys_sharing_form_of c all)) (λ c. shared_is c.key (keys_sharing_form_of c all)) all in
    let cross = lines_each (λ x. flat_map (cross_line x) all) (λ x. lines_each (cross_line x) (cross_is x) all) all in
    let awaits = field_lines_are awaits_line awaits_is s in
    lines_then (ambiguous_lines s ++ shared_lines all ++ cross_lines all) (awaiting_lines s)
    (lines_then (ambiguous_lines s ++ shared_lines all) (cross_lines all)
    (lines_then (ambiguous_lines s) (shared_lines all) ambiguous shared) cross) awaits

report_of_state : (s : State) → AreSmall (totals_of s) → IsReportOf (totals_of s) (report_of s)
unfolding report_of
report_of_state s small = record {
  small = small;
  before = ambiguous_lines s ++ shared_lines (linkable_authorities s) ++ cross_lines (linkable_authorities s) ++ awaiting_lines s;
  lines = report_lines s;
  ends = refl;
}

-- ---- the numbers of jobs

same_file : (file : FileOf) (name a b : List ℕ) → file name ≡ Some a → file name ≡ Some b → a ≡ b
same_file file name a b one other = let both : Some a ≡ Some b = sym one ∙ other in cc

abbrev reports : List (List Entry) → List (Option (List ℕ))
reports jobs = map (λ job. Some (report_of (state_of job))) jobs

abbrev SmallJob : List Entry → Type 0
SmallJob job = AreSmall (totals_of (state_of job))

tells_of : (job : List Entry) (t : Totals) (bytes : List ℕ) → SmallJob job → bytes ≡ report_of (state_of job) → IsReportOf t bytes → t ≡ totals_of (state_of job)
tells_of job t bytes small is r = one_report t (totals_of (state_of job)) bytes r (subst (IsReportOf (totals_of (state_of job))) (sym is) (report_of_state (state_of job) small))

parts_are : (file : FileOf) (shared : Totals) (names : List (List ℕ)) (parts : List Totals) (jobs : List (List Entry)) → AreReports file shared names parts
    → map file names ≡ reports jobs → All SmallJob jobs → parts ≡ map (λ job. totals_of (state_of job)) jobs
parts_are file shared [] [] [] so are small = refl
parts_are file shared [] [] (job ∷ jobs) so are small = let both : [] ≡ Some (report_of (state_of job)) ∷ reports jobs = are in cc
parts_are file shared [] (t ∷ parts) jobs so are small = absurd so
parts_are file shared (n ∷ names) [] jobs so are small = absurd so
parts_are file shared (n ∷ names) (t ∷ parts) [] so are small = let both : file n ∷ map file names ≡ [] = are in cc
parts_are file shared (n ∷ names) (t ∷ parts) (job ∷ jobs) so are small =
    let both : file n ∷ map file names ≡ Some (report_of (state_of job)) ∷ reports jobs = are in
    let there : file n ≡ Some (report_of (state_of job)) = cc in
    let rest : map file names ≡ reports jobs = cc in
    let head = tells_of job t so.0.bytes (All-head SmallJob job jobs small) (same_file file n so.0.bytes (report_of (state_of job)) so.0.there there) so.0.tells in
    let tail = parts_are file shared names parts jobs so.1 rest (All-tail SmallJob job jobs small) in
    λ i. head i ∷ tail i

pub line_of_whole : (file : FileOf) (first : List ℕ) (names : List (List ℕ)) (t : Totals) (bounds : List Key) (whole none : List Entry) (jobs : List (List Entry))
    → All IsAdmitted whole → IsJobOf whole no_records none → AreJobsOf whole (ranges bounds) jobs → AreReportsOfJobs file first names none jobs
    → AreJoined file first names t → line_of_totals t ≡ total_line (state_of whole)
line_of_whole file first names t bounds whole none jobs a alone rest are so =
    let one = so.is_shared in
    let shared = tells_of none so.shared one.bytes are.first_small (same_file file first one.bytes (report_of (state_of none)) one.there are.first_is) one.tells in
    let parts = parts_are file so.shared names so.summed.parts jobs so.summed.reports are.names_are are.small in
    let sum : t ≡ totals_of (state_of whole) =
    so.summed.whole_is ∙ (λ i. joined_totals (shared i) (parts i)) ∙ totals_joined bounds whole none jobs a alone rest in
    ap line_of_totals sum

-- ---- none of them is refused

abbrev standing : (Standing → Bool) → Class → List Row → List Row → ℕ
standing test class all rows = sum_by (λ row. count_standing test (filter_map row_linkable all) class row.1) rows

counts_more : (test : Standing → Bool) (mine : Part) (s : State) → count_all test (cut no_records s) ≤ count_all test (cut mine s)
counts_more test mine s =
    let none = ap (count_all test) (no_records_cut s) in
    let zero : count_all test (record { authorities = s.authorities; bibliographic = [] }) ≡ standing test Authority s.authorities s.authorities + 0 = refl in
    let part : count_all test (cut mine s) ≡ standing test Authority s.authorities s.authorities + standing test Bibliographic s.authorities (rows_in mine s.bibliographic) = refl in
    omega (arith, none, zero, part)

no_records_at : (s : State) → length (cut no_records s).bibliographic ≡ 0
no_records_at s = ap (λ (t : State). length t.bibliographic) (no_records_cut s)

beyond_none : (mine : Part) (s : State) → IsBeyond (totals_of (cut no_records s)) (totals_of (cut mine s))
beyond_none mine s = record {
  authorities = refl;
  bibliographic = omega (arith, no_records_at s);
  linked = counts_more is_linked mine s;
  ambiguous = counts_more is_ambiguous mine s;
  unlinked = counts_more is_unlinked mine s;
}

all_cuts : (s : State) (parts : List Part) (jobs : List (List Entry)) → map state_of jobs ≡ map (λ mine. cut mine s) parts
    → (job : List Entry) (before after : List (List Entry)) → jobs ≡ before ++ job ∷ after → IsBeyond (totals_of (cut no_records s)) (totals_of (state_of job))
all_cuts s [] jobs same job [] after is = let no : state_of job ∷ map state_of after ≡ [] = sym (ap (map state_of) is) ∙ same in cc
all_cuts s [] jobs same job (b ∷ before) after is = let no : state_of b ∷ map state_of (before ++ job ∷ after) ≡ [] = sym (ap (map state_of) is) ∙ same in cc
all_cuts s (mine ∷ parts) jobs same job [] after is =
    let both : state_of job ∷ map state_of after ≡ cut mine s ∷ map (λ m. cut m s) parts = sym (ap (map state_of) is) ∙ same in
    let head : state_of job ≡ cut mine s = cc in
    subst (λ (st : State). IsBeyond (totals_of (cut no_records s)) (totals_of st)) (sym head) (beyond_none mine s)
all_cuts s (mine ∷ parts) jobs same job (b ∷ before) after is =
    let both : state_of b ∷ map state_of (before ++ job ∷ after) ≡ cut mine s ∷ map (λ m. cut m s) parts = sym (ap (map state_of) is) ∙ same in
    let tail : map state_of (before ++ job ∷ after) ≡ map (λ m. cut m s) parts = cc in
    all_cuts s parts (before ++ job ∷ after) tail job before after refl

-- the job whose report that is
record IsReportOfJob (file : FileOf) (name : List ℕ) (jobs : List (List Entry)) : Type 0 where
  job : List Entry
  before : List (List Entry)
  after : List (List Entry)
  is : jobs ≡ before ++ job ∷ after
  there : file name ≡ Some (report_of (state_of job))
  small : SmallJob job

job_of : (file : FileOf) (name : List ℕ) (before after : List (List ℕ)) (jobs : List (List Entry)) → map file (before ++ name ∷ after) ≡ reports jobs
    → All SmallJob jobs → IsReportOfJob file name jobs
job_of file name [] after [] are small = let no : file name ∷ map file after ≡ [] = are in cc
job_of file name (b ∷ before) after [] are small = let no : file b ∷ map file (before ++ name ∷ after) ≡ [] = are in cc
job_of file name [] after (job ∷ jobs) are small =
    let both : file name ∷ map file after ≡ Some (report_of (state_of job)) ∷ reports jobs = are in
    record { job = job; before = []; after = jobs; is = refl; there = cc; small = All-head SmallJob job jobs small }
job_of file name (b ∷ before) after (job ∷ jobs) are small =
    let both : file b ∷ map file (before ++ name ∷ after) ≡ Some (report_of (state_of job)) ∷ reports jobs = are in
    let rest : map file (before ++ name ∷ after) ≡ reports jobs = cc in
    let found = job_of file name before after jobs rest (All-tail SmallJob job jobs small) in
    record { job = found.job; before = job ∷ found.before; after = found.after; is = ap (λ l. job ∷ l) found.is; there = found.there; small = found.small }

pub none_differs : (file : FileOf) (first : List ℕ) (names : List (List ℕ)) (place : ℕ) (name : List ℕ) (bounds : List Key) (whole none : List Entry)
    (jobs : List (List Entry)) → All IsAdmitted whole → IsJobOf whole no_records none → AreJobsOf whole (ranges bounds) jobs
    → AreReportsOfJobs file first names none jobs → ReportsDiffer file first names place name → ⊥
none_differs file first names place name bounds whole none jobs a alone rest are (AtFirst is not) =
    let none_is = job_cut no_records whole none a alone in
    let bytes = same_file file first not.bytes (report_of (state_of none)) not.there are.first_is in
    not.none (totals_of (state_of none)) (subst (IsReportOf (totals_of (state_of none))) (sym bytes) (report_of_state (state_of none) are.first_small))
    (ap (λ (s : State). length s.bibliographic) none_is ∙ no_records_at (state_of whole))
none_differs file first names place name bounds whole none jobs a alone rest are (AtPart shared before after one names_are not) =
    let none_is = job_cut no_records whole none a alone in
    let found = job_of file name before after jobs (ap (map file) (sym names_are) ∙ are.names_are) are.small in
    let shared_is = tells_of none shared one.bytes are.first_small (same_file file first one.bytes (report_of (state_of none)) one.there are.first_is) one.tells in
    let bytes = same_file file name not.bytes (report_of (state_of found.job)) not.there found.there in
    let beyond = all_cuts (state_of whole) (ranges bounds) jobs (jobs_cut whole (ranges bounds) jobs a rest) found.job found.before found.after found.is in
    not.none (totals_of (state_of found.job)) (subst (IsReportOf (totals_of (state_of found.job))) (sym bytes) (report_of_state (state_of found.job) found.small))
    (subst (λ (t : Totals). IsBeyond t (totals_of (state_of found.job))) (ap totals_of (sym none_is) ∙ sym shared_is) beyond)
