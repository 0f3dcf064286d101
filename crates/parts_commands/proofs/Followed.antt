-- The keys that the pieces of an export tell by themselves are those of their rows, so those of neighbours ascend.
use Rattle.std.proofs.Common.{◌≡◌, ◌∙◌, ℕ, ◌+◌, Bool, true, false, true≢false, cond, List, [], ◌∷◌, ◌++◌, map, Some, None, refl, sym, ap, subst, arith}
use Rattle.std.specs.Prelude.{All, fold, unwrap_or, not, if◌then◌else◌}
use Rattle.std.specs.BTreeMap.{insert_entry}
use Rattle.std.specs.List.{AllByRecursion, flat_map}
use Rattle.std.specs.List.Sorted.{IsStrictlySortedBy}
use Rattle.std.specs.Map.{keys_of, remove_entry}
use Rattle.std.specs.Ordering.{is_eq, is_lt, match_ordering}
use Rattle.std.specs.declared.cmp.Ordering.{Ordering}
use Rattle.std.specs.declared.cmp.Ordering.TheVariants.{Less, Equal, Greater}
use Rattle.std.proofs.lemmas.List.Elements.{All-head, All-tail}
use Rattle.marc_types.specs.Order.{key_cmp, key_Decides, same_key}
use Rattle.marc_types.specs.Valid.{is_code, is_number}
use Rattle.marc_types.specs.declared.entry.Entry.{Entry}
use Rattle.marc_types.specs.declared.field.Field.{Field}
use Rattle.marc_types.specs.declared.field.Field.TheVariants.{Control, Variable}
use Rattle.marc_types.specs.declared.refusal.Refusal.TheVariants.{NoNumber, BadCode}
use Rattle.marc_types.specs.declared.key.Class.{Class}
use Rattle.marc_types.specs.declared.key.Class.TheVariants.{Bibliographic}
use Rattle.marc_types.specs.declared.key.Key.{Key}
use Rattle.heading_fields.specs.Numbers.{without_blanks}
use Rattle.iso2709_record.specs.Texts.{HasUtf8Texts}
use Rattle.iso2709_record.proofs.Sound.{sound_size}
use Rattle.entry_record.specs.History.{IsAdmitted}
use Rattle.entry_record.specs.Identifying.{key_refusal}
use Rattle.entry_record.specs.Identity.{code_of, control_number_of, first_control, has_tag, is_deletion, key_of, or_library}
use Rattle.reading.proofs.OneReading.{one_fields}
use Rattle.reading.proofs.Written.{written_reads}
use Rattle.catalogue_rules.specs.Committed.{Committed, committed_after, is_plain, plain_fields, plain_of_committed, plain_of_kept, take_in, take_in_class}
use Rattle.catalogue_rules.specs.Output.{all_keys, export_of, written_row}
use Rattle.catalogue_rules.specs.Receipt.{same_class}
use Rattle.catalogue_rules.specs.Settle.{arrival_of, state_of}
use Rattle.catalogue_rules.specs.State.{Row, State, fields_of}
use Rattle.catalogue_rules.specs.Valid.{EachRow, IsAscending}
use Rattle.catalogue_rules.proofs.Kept.{kept_as_committed}
use Rattle.catalogue_rules.proofs.States.{every_state_valid}
use Rattle.catalogue_parts.specs.Parts.{Part, AreJobsOf, cut, ranges, rows_in}
use Rattle.catalogue_parts.proofs.Jobs.{jobs_cut}
use Rattle.catalogue_parts.proofs.Ranges.{rows_in_turn}
use Rattle.marc_stream.specs.Pieces.{items}
use Rattle.parts_commands.specs.Exports.{AreParts, CanBeJoined, CanFollow, ExportsDiffer, MayFollow, TellsKey, authorities_of, last_piece, records_of}
use Rattle.parts_commands.specs.Jobs.{AreRecords, AreTexts}
use Rattle.parts_commands.specs.Reports.{FileOf}
use Rattle.parts_commands.proofs.Exported.{IsWritable, cut_writable, export_parted, exports_of, first_of_parts, map_map, writable}

-- ---- a key by the record alone, and by its file's library

-- where a record tells its key by itself, it is that one
abbrev OwnKey : Key → List Field → Type 0
OwnKey key fields = key_refusal [] fields ≡ None → key ≡ key_of [] fields

-- a code that is left blank is none
no_code : (own : List ℕ) → is_code (or_library [] own) ≡ true → (library : List ℕ) → or_library library own ≡ or_library [] own
unfolding is_code
no_code [] proper library = absurd (true≢false (sym proper ∙ none))
  where
    none : is_code [] ≡ false
    none = refl
no_code (b ∷ own) proper library = refl

code_proper : (number code : Bool) → (if not number then Some NoNumber else if not code then Some BadCode else None) ≡ None → code ≡ true
code_proper true true e = refl
code_proper true false e = let no : Some BadCode ≡ None = e in cc
code_proper false code e = let no : Some NoNumber ≡ None = e in cc

-- the first 003 without its blanks
abbrev own_code : List Field → List ℕ
own_code fields = without_blanks (unwrap_or (first_control 51 fields) [])

own_admitted : (e : Entry) → IsAdmitted e → OwnKey e.key e.rec.fields
unfolding key_of code_of
own_admitted e a proper =
    let code : is_code (or_library [] (own_code e.rec.fields)) ≡ true = code_proper _ _ proper in
    a.key_is ∙ (λ i. record { code = no_code (own_code e.rec.fields) code e.library i; number = control_number_of e.rec.fields })

-- ---- fields that are no headings have all that a key is made of

control_plain : (class : Class) (c : ℕ) (fields : List Field) → first_control c (plain_fields class fields) ≡ first_control c fields
control_plain class c [] = refl
control_plain class c (Control tag text ∷ fields) = by (has_tag 48 48 c tag) (control_plain class c fields)
  where
    by : (b : Bool) → first_control c (plain_fields class fields) ≡ first_control c fields
        → (if b then Some text else first_control c (plain_fields class fields)) ≡ (if b then Some text else first_control c fields)
    by true same = refl
    by false same = same
control_plain class c (Variable tag ind1 ind2 subs ∷ fields) = by (is_plain class (Variable tag ind1 ind2 subs)) (control_plain class c fields)
  where
    by : (b : Bool) → first_control c (plain_fields class fields) ≡ first_control c fields
        → first_control c (cond b (Variable tag ind1 ind2 subs ∷ plain_fields class fields) (plain_fields class fields)) ≡ first_control c fields
    by true same = same
    by false same = same

number_same : (fields others : List Field) → first_control 49 fields ≡ first_control 49 others → control_number_of fields ≡ control_number_of others
unfolding control_number_of
number_same fields others e = ap (λ o. without_blanks (unwrap_or o [])) e

code_same : (fields others : List Field) → first_control 51 fields ≡ first_control 51 others → code_of [] fields ≡ code_of [] others
unfolding code_of
code_same fields others e = ap (λ o. or_library [] (without_blanks (unwrap_or o []))) e

key_same : (fields others : List Field) → control_number_of fields ≡ control_number_of others → code_of [] fields ≡ code_of [] others → key_of [] fields ≡ key_of [] others
unfolding key_of
key_same fields others number code = λ i. record { code = code i; number = number i }

refusal_same : (fields others : List Field) → control_number_of fields ≡ control_number_of others → code_of [] fields ≡ code_of [] others
    → key_refusal [] fields ≡ key_refusal [] others
refusal_same fields others number code =
    λ i. if not (is_number (number i)) then Some NoNumber else if not (is_code (code i)) then Some BadCode else None

-- fields with the same plain ones tell the same key
own_same : (class : Class) (key : Key) (fields others : List Field) → plain_fields class fields ≡ plain_fields class others → OwnKey key others → OwnKey key fields
own_same class key fields others same own proper =
    let control : (c : ℕ) → first_control c fields ≡ first_control c others =
    λ c. sym (control_plain class c fields) ∙ ap (first_control c) same ∙ control_plain class c others in
    let number = number_same fields others (control 49) in
    let code = code_same fields others (control 51) in
    own (sym (refusal_same fields others number code) ∙ proper) ∙ sym (key_same fields others number code)

-- ---- what was committed

abbrev Owned : Committed → Type 0
Owned row = OwnKey row.0 row.1

owned_insert : (rows : List Committed) (key : Key) (fields : List Field) → OwnKey key fields → AllByRecursion Owned rows
    → AllByRecursion Owned (insert_entry key_cmp rows key fields)
owned_insert [] key fields own all = (own, tt)
owned_insert (row ∷ rows) key fields own all = by (key_cmp key row.0) refl (owned_insert rows key fields own all.1)
  where
    by : (o : Ordering) → key_cmp key row.0 ≡ o → AllByRecursion Owned (insert_entry key_cmp rows key fields)
        → AllByRecursion Owned (match_ordering o ((key, fields) ∷ row ∷ rows) ((row.0, fields) ∷ rows) (row ∷ insert_entry key_cmp rows key fields))
    by Less e rest = (own, all)
    by Equal e rest = (subst (λ k. OwnKey k fields) ((key_Decides key row.0).0 (ap is_eq e)) own, all.1)
    by Greater e rest = (all.0, rest)

owned_remove : (test : Key → Bool) (rows : List Committed) → AllByRecursion Owned rows → AllByRecursion Owned (remove_entry test rows)
owned_remove test [] all = tt
owned_remove test (row ∷ rows) all = by (test row.0) (owned_remove test rows all.1)
  where
    by : (b : Bool) → AllByRecursion Owned (remove_entry test rows) → AllByRecursion Owned (cond b rows (row ∷ remove_entry test rows))
    by true rest = all.1
    by false rest = (all.0, rest)

owned_take : (class : Class) (rows : List Committed) (e : Entry) → IsAdmitted e → AllByRecursion Owned rows → AllByRecursion Owned (take_in_class class rows (arrival_of e))
owned_take class rows e a all = by (same_class e.class class)
  where
    take : (b : Bool) → AllByRecursion Owned (if b then remove_entry (same_key e.key) rows else insert_entry key_cmp rows e.key e.rec.fields)
    take true = owned_remove (same_key e.key) rows all
    take false = owned_insert rows e.key e.rec.fields (own_admitted e a) all

    by : (b : Bool) → AllByRecursion Owned (if b then take_in (arrival_of e) rows else rows)
    by true = take (is_deletion e.rec.leader)
    by false = all

owned_after : (class : Class) (history : List Entry) (rows : List Committed) → All IsAdmitted history → AllByRecursion Owned rows
    → AllByRecursion Owned (fold (take_in_class class) rows (map arrival_of history))
owned_after class [] rows a all = all
owned_after class (e ∷ history) rows a all =
    owned_after class history (take_in_class class rows (arrival_of e)) (All-tail IsAdmitted e history a)
    (owned_take class rows e (All-head IsAdmitted e history a) all)

committed_owned : (class : Class) (history : List Entry) → All IsAdmitted history → AllByRecursion Owned (committed_after class (map arrival_of history))
unfolding committed_after
committed_owned class history a = owned_after class history [] a tt

-- ---- what is kept

abbrev OwnRow : Row → Type 0
OwnRow row = OwnKey row.0 (fields_of row.1)

rows_own : (class : Class) (rows : List Row) (committed : List Committed) → map (plain_of_kept class) rows ≡ map (plain_of_committed class) committed
    → AllByRecursion Owned committed → AllByRecursion OwnRow rows
rows_own class [] committed same all = tt
rows_own class (row ∷ rows) [] same all = let no : plain_of_kept class row ∷ map (plain_of_kept class) rows ≡ [] = same in cc
rows_own class (row ∷ rows) (c ∷ committed) same all =
    let both : plain_of_kept class row ∷ map (plain_of_kept class) rows ≡ plain_of_committed class c ∷ map (plain_of_committed class) committed = same in
    let head : plain_of_kept class row ≡ plain_of_committed class c = cc in
    let tail : map (plain_of_kept class) rows ≡ map (plain_of_committed class) committed = cc in
    let key : row.0 ≡ c.0 = ap (λ (p : Committed). p.0) head in
    let fields : plain_fields class (fields_of row.1) ≡ plain_fields class c.1 = ap (λ (p : Committed). p.1) head in
    (subst (λ k. OwnKey k (fields_of row.1)) (sym key) (own_same class c.0 (fields_of row.1) c.1 fields all.0), rows_own class rows committed tail all.1)

-- the written form of a row tells its own key, or none
pub record IsTelling (row : Row) : Type 0 where
  pub writable : IsWritable Bibliographic row
  pub texts : All HasUtf8Texts (fields_of row.1)
  pub own : OwnRow row

told_is_own : (row : Row) → IsTelling row → (key : Key) → TellsKey (written_row row) key → key ≡ row.0
told_is_own row t key told =
    let reads = written_reads row.1.leader (fields_of row.1) t.writable.valid t.writable.fit t.texts in
    let same = one_fields (written_row row) told.leader row.1.leader told.fields (fields_of row.1) told.read reads in
    told.key_is ∙ ap (key_of []) same ∙ sym (t.own (sym (ap (key_refusal []) same) ∙ told.proper))

each_telling : (rows : List Row) → All (IsWritable Bibliographic) rows → All (λ row. All HasUtf8Texts (fields_of row.1)) rows → AllByRecursion OwnRow rows
    → AllByRecursion IsTelling rows
each_telling [] writable texts own = tt
each_telling (row ∷ rows) writable texts own = (
  record {
    writable = All-head (IsWritable Bibliographic) row rows writable;
    texts = All-head (λ (r : Row). All HasUtf8Texts (fields_of r.1)) row rows texts;
    own = own.0;
  },
  each_telling rows (All-tail (IsWritable Bibliographic) row rows writable) (All-tail (λ (r : Row). All HasUtf8Texts (fields_of r.1)) row rows texts) own.1,
)

pub telling : (whole : List Entry) → All IsAdmitted whole → All (IsWritable Bibliographic) (state_of whole).bibliographic
    → All (λ row. All HasUtf8Texts (fields_of row.1)) (state_of whole).bibliographic → AllByRecursion IsTelling (state_of whole).bibliographic
telling whole a writable texts =
    each_telling (state_of whole).bibliographic writable texts
    (rows_own Bibliographic (state_of whole).bibliographic (committed_after Bibliographic (map arrival_of whole))
    (kept_as_committed Bibliographic (map arrival_of whole)) (committed_owned Bibliographic whole a))

-- ---- neighbours

abbrev Below : List ℕ → List Row → Type 0
Below last rows = AllByRecursion (λ row. MayFollow last (written_row row)) rows

row_below : (row : Row) (rows : List Row) → IsTelling row → AllByRecursion IsTelling rows → AllByRecursion (λ key. key_cmp row.0 key ≡ Less) (keys_of rows)
    → Below (written_row row) rows
row_below row [] t all less = tt
row_below row (next ∷ rows) t all less =
    (λ a b tells other. ap is_lt ((λ i. key_cmp (told_is_own row t a tells i) (told_is_own next all.0 b other i)) ∙ less.0), row_below row rows t all.1 less.1)

record FollowsOn (last : List ℕ) (mine rest : List Row) : Type 0 where
  follows : CanFollow last (map written_row mine)
  below : Below (last_piece last (map written_row mine)) rest

follows_on : (last : List ℕ) (mine rest : List Row) → AllByRecursion IsTelling (mine ++ rest) → IsAscending (mine ++ rest) → Below last (mine ++ rest)
    → FollowsOn last mine rest
unfolding IsStrictlySortedBy
follows_on last [] rest all ascend below = record { follows = tt; below = below }
follows_on last (row ∷ mine) rest all ascend below =
    let next = follows_on (written_row row) mine rest all.1 ascend.1 (row_below row (mine ++ rest) all.0 all.1 ascend.0) in
    record { follows = below.0; below = next.below }

behind_ascends : (rows rest : List Row) → IsAscending (rows ++ rest) → IsAscending rest
unfolding IsStrictlySortedBy
behind_ascends [] rest ascend = ascend
behind_ascends (row ∷ rows) rest ascend = behind_ascends rows rest ascend.1

behind_tells : (rows rest : List Row) → AllByRecursion IsTelling (rows ++ rest) → AllByRecursion IsTelling rest
behind_tells [] rest all = all
behind_tells (row ∷ rows) rest all = behind_tells rows rest all.1

parts_follow : (s : State) → EachRow IsWritable s → (parts : List Part) (last : List ℕ)
    → AllByRecursion IsTelling (flat_map (λ mine. rows_in mine s.bibliographic) parts) → IsAscending (flat_map (λ mine. rows_in mine s.bibliographic) parts)
    → Below last (flat_map (λ mine. rows_in mine s.bibliographic) parts) → AreParts (map written_row s.authorities) last (exports_of s parts)
parts_follow s each [] last all ascend below = tt
parts_follow s each (mine ∷ parts) last all ascend below =
    let own : List Row = rows_in mine s.bibliographic in
    let rest : List Row = flat_map (λ m. rows_in m s.bibliographic) parts in
    let parted = export_parted (cut mine s) (cut_writable mine s each) in
    let on = follows_on last own rest all ascend below in (
      record { same = parted.front; records = parted.sound; follows = subst (CanFollow last) (sym parted.behind) on.follows },
      subst (λ before. AreParts (map written_row s.authorities) before (exports_of s parts)) (ap (last_piece last) (sym parted.behind))
          (parts_follow s each parts (last_piece last (map written_row own)) (behind_tells own rest all) (behind_ascends own rest ascend) on.below),
    )

nothing_below : (rows : List Row) → Below [] rows
nothing_below [] = tt
nothing_below (row ∷ rows) = (λ a b tells other. absurd (omega (arith, sound_size [] tells.read.sound)), nothing_below rows)

parts_can : (s : State) → EachRow IsWritable s → AllByRecursion IsTelling s.bibliographic → IsAscending s.bibliographic → (bounds : List Key)
    → CanBeJoined (exports_of s (ranges bounds))
parts_can s each all ascend bounds =
    let turn = sym (rows_in_turn bounds s.bibliographic ascend) in
    subst (λ shared. AreParts shared [] (exports_of s (ranges bounds))) (sym (first_of_parts s each bounds))
    (parts_follow s each (ranges bounds) [] (subst (AllByRecursion IsTelling) turn all) (subst IsAscending turn ascend)
    (nothing_below (flat_map (λ mine. rows_in mine s.bibliographic) (ranges bounds))))

-- ---- so none of the exports is refused

front_parts : (shared : List (List ℕ)) (before : List ℕ) (exports more : List (List ℕ)) → AreParts shared before (exports ++ more) → AreParts shared before exports
front_parts shared before [] more parts = tt
front_parts shared before (export ∷ exports) more parts =
    (parts.0, front_parts shared (last_piece before (records_of (items export))) exports more parts.1)

front_can : (exports more : List (List ℕ)) (export : List ℕ) → CanBeJoined ((exports ++ export ∷ []) ++ more) → CanBeJoined (exports ++ export ∷ [])
front_can [] more export can = front_parts (authorities_of (items export)) [] (export ∷ []) more can
front_can (first ∷ exports) more export can = front_parts (authorities_of (items first)) [] (first ∷ (exports ++ export ∷ [])) more can

record IsFront (all exports : List (List ℕ)) (export : List ℕ) : Type 0 where
  more : List (List ℕ)
  is : all ≡ (exports ++ export ∷ []) ++ more

front_of : (file : FileOf) (all before after exports : List (List ℕ)) (name export : List ℕ) → map file (before ++ name ∷ after) ≡ map Some all
    → map file before ≡ map Some exports → file name ≡ Some export → IsFront all exports export
front_of file [] [] after exports name export are there here = let no : file name ∷ map file after ≡ [] = are in cc
front_of file [] (n ∷ before) after exports name export are there here = let no : file n ∷ map file (before ++ name ∷ after) ≡ [] = are in cc
front_of file (e ∷ all) [] after [] name export are there here =
    let both : file name ∷ map file after ≡ Some e ∷ map Some all = are in
    let head : Some e ≡ Some export = cc in
    let is : e ≡ export = cc in
    record { more = all; is = ap (λ x. x ∷ all) is }
front_of file (e ∷ all) [] after (x ∷ exports) name export are there here = let no : [] ≡ Some x ∷ map Some exports = there in cc
front_of file (e ∷ all) (n ∷ before) after [] name export are there here = let no : file n ∷ map file before ≡ [] = there in cc
front_of file (e ∷ all) (n ∷ before) after (x ∷ exports) name export are there here =
    let both : file n ∷ map file (before ++ name ∷ after) ≡ Some e ∷ map Some all = are in
    let also : file n ∷ map file before ≡ Some x ∷ map Some exports = there in
    let head : Some e ≡ Some x = cc in
    let is : e ≡ x = cc in
    let tail : map file (before ++ name ∷ after) ≡ map Some all = cc in
    let front : map file before ≡ map Some exports = cc in
    let rest = front_of file all before after exports name export tail front here in
    record { more = rest.more; is = λ i. is i ∷ rest.is i }

pub none_unlike : (file : FileOf) (names : List (List ℕ)) (place : ℕ) (name : List ℕ) (bounds : List Key) (whole : List Entry) (jobs : List (List Entry)) → All IsAdmitted whole
    → AreRecords (state_of whole) → AreTexts (state_of whole) → AreJobsOf whole (ranges bounds) jobs
    → map file names ≡ map (λ job. Some (export_of all_keys (state_of job))) jobs → ExportsDiffer file names place name → ⊥
none_unlike file names place name bounds whole jobs a records texts rest are differ =
    let s : State = state_of whole in
    let valid = every_state_valid whole a in
    let each = writable s valid records in
    let all : List (List ℕ) = exports_of s (ranges bounds) in
    let states = jobs_cut whole (ranges bounds) jobs a rest in
    let all_are : map file names ≡ map Some all =
    are ∙ map_map state_of (λ t. Some (export_of all_keys t)) jobs ∙ ap (map (λ t. Some (export_of all_keys t))) states
    ∙ sym (map_map (λ mine. cut mine s) (λ t. Some (export_of all_keys t)) (ranges bounds))
    ∙ map_map (λ mine. export_of all_keys (cut mine s)) (λ e. Some e) (ranges bounds) in
    let front = front_of file all differ.before differ.after differ.exports name differ.export (ap (map file) (sym differ.names_are) ∙ all_are) differ.there differ.export_there in
    let can = parts_can s each (telling whole a each.1 texts.1) valid.bibliographic_ascend bounds in
    differ.cannot (front_can differ.exports front.more differ.export (subst CanBeJoined front.is can))
