-- What every command has that words ask for.
use Rattle.std.proofs.Common.{◌≡◌, ◌≢◌, ℕ, ◌≤◌, Bool, true, false, ◌&&◌, List, [], ◌∷◌, length, Option, Some, None, refl, sym, ap, subst, ◌∙◌, arith, codes, drop, if◌then◌else◌}
use Rattle.std.specs.Prelude.{is_some, option_and_then, option_map, nat_le, All, map}
use Rattle.std.specs.Str.Parse.{digits_value}
use Rattle.std.proofs.lemmas.Bool.Decides.{nat_tests}
use Rattle.std.specs.List.{list_all}
use Rattle.std.specs.Str.{bytes_eq}
use Rattle.std.proofs.lemmas.Bool.{and_parts, not-true, true≢false}
use Rattle.std.proofs.lemmas.List.{length-map}
use Rattle.std.proofs.lemmas.List.Elements.{All-nil, All-cons}
use Rattle.std.proofs.lemmas.Slice.Eq.{bytes_eq-Decides}
use Rattle.marc_types.specs.Valid.{is_code}
use Rattle.outside.specs.Room.{IsNoneOf}
use Rattle.marc_types.specs.Limits.{most_made}
use Rattle.command_words.specs.declared.library.Library.{Library}
use Rattle.command_words.specs.declared.topic.Topic.{Topic}
use Rattle.command_words.specs.declared.topic.Topic.TheVariants as topic
use Rattle.command_words.specs.Topics.{topic_of}
use Rattle.marc_types.specs.declared.form.Kind.{Kind}
use Rattle.command_words.specs.Look.{Look, HeadingRange, most_headings, kind_of}
use Rattle.command_words.specs.Look as look
use Rattle.command_words.specs.Command.{Command, Pass, Run, Load, Browse, Export, Report, Make, Verify, VerifyPoint, VerifyDigest, Matches, Holdings, Headings, Worklist, Migrate, Salvage, Checkpoint, Quick, QuickReport, Read, ReadHoldings, ReadWorklist, Refused, Totals, Join, Split, Help, Version, is_name, differ, split_at_equals, library_of, are_libraries, is_free, number_upto, greatest_number, is_digest, are_two_names, are_three_names, are_four_names, are_three_alone, are_four_alone, as_pass, as_run, as_load, as_browse, as_export, as_report, as_make, as_verify, as_migrate, as_salvage, as_matches, as_holdings, as_headings, as_worklist, as_checkpoint, as_quick, is_looking, looking, unheld, as_reading, as_refused, as_totals, is_export, as_join, most_parts, as_split, as_help, alone, is_version_flag, is_help_flag, only_telling, over_parts, over_input, over_journal, behind_verb, asks_how, takes_no_large, asked_of, is_large, behind_large, command_of, words_of_files, libraries_of, file_count, names_of, AreNames, AreExports, IsBounded, IsRange}

-- a test and what it lets through
pub if_some : {A : Type 0} (good : Bool) (a b : A) → (if good then Some a else None) ≡ Some b → (good ≡ true) × (a ≡ b)
if_some true a b is = (refl, cc)
if_some false a b is = cc

-- of a chain that gives something, the first step gives something
pub and_then_some : {A B : Type 0} (f : A → Option B) (o : Option A) (b : B) → option_and_then f o ≡ Some b → (a : A) × (o ≡ Some a) × (f a ≡ Some b)
and_then_some f None b is = cc
and_then_some f (Some a) b is = (a, refl, is)

apart : (a b : List ℕ) → differ a b ≡ true → a ≢ b
apart a b differs same = true≢false (sym ((bytes_eq-Decides a b).1 same) ∙ not-true (bytes_eq a b) differs)

named : (name : List ℕ) → is_name name ≡ true → name ≢ []
named name good empty = true≢false (sym good ∙ ap is_name empty)

named_word : (good : Bool) (library : Library) → is_some (if good then Some library else None) ≡ true → good ≡ true
named_word true library is = refl
named_word false library is = cc

proper : (word : List ℕ) → is_some (library_of word) ≡ true → is_code (split_at_equals word).code ≡ true
unfolding library_of
proper word good =
    let all = named_word _ (split_at_equals word) good in
    let both = and_parts _ (is_name (split_at_equals word).file) all in
    (and_parts _ (is_code (split_at_equals word).code) both.0).1

all_proper : (files : List (List ℕ)) → list_all (λ word. is_some (library_of word)) files ≡ true
    → All (λ (l : Library). is_code l.code ≡ true) (map split_at_equals files)
all_proper [] good = All-nil (λ (l : Library). is_code l.code ≡ true)
all_proper (word ∷ words) good =
    All-cons (λ (l : Library). is_code l.code ≡ true) (split_at_equals word) (map split_at_equals words) (proper word (and_parts _ _ good).0) (all_proper words (and_parts _ _ good).1)

codes_of : (files : List (List ℕ)) → are_libraries files ≡ true → All (λ (l : Library). is_code l.code ≡ true) (map split_at_equals files)
unfolding are_libraries
codes_of files good = all_proper files (and_parts _ _ good).1

few : (files : List (List ℕ)) → are_libraries files ≡ true → (1 ≤ length files) × (length files ≤ 64)
unfolding are_libraries
few files good =
    let both = and_parts (nat_le 1 (length files) && nat_le (length files) 64) _ good in
    let each = and_parts (nat_le 1 (length files)) (nat_le (length files) 64) both.0 in
    (grind (arith, nat_tests, each.0), grind (arith, nat_tests, each.1))

number_within : (limit : ℕ) (word : List ℕ) (n : ℕ) → number_upto limit word ≡ Some n → n ≤ limit
unfolding number_upto
number_within limit word n is =
    let parts = if_some _ (digits_value 10 word) n is in
    let last = (and_parts _ (nat_le (digits_value 10 word) limit) parts.0).1 in
    subst (λ v. v ≤ limit) parts.1 (grind (arith, nat_tests, last))

all_apart : (files : List (List ℕ)) (name : List ℕ) → list_all (λ word. differ name (split_at_equals word).file) files ≡ true
    → All (λ (l : Library). l.file ≢ name) (map split_at_equals files)
all_apart [] name good = All-nil (λ (l : Library). l.file ≢ name)
all_apart (word ∷ words) name good =
    All-cons (λ (l : Library). l.file ≢ name) (split_at_equals word) (map split_at_equals words)
    (λ same. apart name (split_at_equals word).file (and_parts _ _ good).0 (sym same)) (all_apart words name (and_parts _ _ good).1)

free_apart : (files : List (List ℕ)) (name : List ℕ) → is_free files name ≡ true → All (λ (l : Library). l.file ≢ name) (map split_at_equals files)
unfolding is_free
free_apart files name good = all_apart files name (and_parts _ _ good).1

free_named : (files : List (List ℕ)) (name : List ℕ) → is_free files name ≡ true → name ≢ []
unfolding is_free
free_named files name good = named name (and_parts _ _ good).0

-- its libraries are counted and proper, and its names are apart
record IsCommand (words : List (List ℕ)) (command : Command) : Type 0 where
  count : length (map split_at_equals (words_of_files words (Some command))) ≡ file_count command
  codes : All (λ (l : Library). is_code l.code ≡ true) (map split_at_equals (words_of_files words (Some command)))
  names : AreNames (names_of command)
  files : All (λ (l : Library). IsNoneOf l.file (names_of command)) (map split_at_equals (words_of_files words (Some command)))
  bounded : IsBounded command

pass_is : (verb : List ℕ) (words : List (List ℕ)) (c : Command) → as_pass words ≡ Some c → IsCommand (verb ∷ words) c
pass_is verb [] c is = cc
pass_is verb (out ∷ []) c is = cc
pass_is verb (out ∷ file ∷ []) c is =
    let parts = if_some (are_libraries (file ∷ []) && is_free (file ∷ []) out) (Pass out) c is in
    let good = and_parts (are_libraries (file ∷ [])) (is_free (file ∷ []) out) parts.0 in
    subst (IsCommand (verb ∷ out ∷ file ∷ [])) parts.1 (record {
      count = refl;
      codes = codes_of (file ∷ []) good.0;
      names = (free_named (file ∷ []) out good.1, tt, tt);
      files = λ k d less. (free_apart (file ∷ []) out good.1 k d less, tt);
      bounded = tt;
    })
pass_is verb (out ∷ file ∷ other ∷ rest) c is = cc

refused_is : (verb : List ℕ) (words : List (List ℕ)) (c : Command) → as_refused words ≡ Some c → IsCommand (verb ∷ words) c
refused_is verb [] c is = cc
refused_is verb (out ∷ []) c is = cc
refused_is verb (out ∷ file ∷ []) c is =
    let parts = if_some (are_libraries (file ∷ []) && is_free (file ∷ []) out) (Refused out) c is in
    let good = and_parts (are_libraries (file ∷ [])) (is_free (file ∷ []) out) parts.0 in
    subst (IsCommand (verb ∷ out ∷ file ∷ [])) parts.1 (record {
      count = refl;
      codes = codes_of (file ∷ []) good.0;
      names = (free_named (file ∷ []) out good.1, tt, tt);
      files = λ k d less. (free_apart (file ∷ []) out good.1 k d less, tt);
      bounded = tt;
    })
refused_is verb (out ∷ file ∷ other ∷ rest) c is = cc

-- a log and two outputs, apart from one another and from these files
three_names : (files : List (List ℕ)) (journal out other : List ℕ) → are_three_names files journal out other ≡ true
    → (are_libraries files ≡ true) × AreNames (journal ∷ out ∷ other ∷ []) × All (λ (l : Library). IsNoneOf l.file (journal ∷ out ∷ other ∷ [])) (map split_at_equals files)
three_names files journal out other good =
    let six = and_parts _ (differ out other) good in
    let five = and_parts _ (differ journal other) six.0 in
    let four = and_parts _ (differ journal out) five.0 in
    let three = and_parts _ (is_free files other) four.0 in
    let two = and_parts _ (is_free files out) three.0 in
    let one = and_parts (are_libraries files) (is_free files journal) two.0 in
    let names : AreNames (journal ∷ out ∷ other ∷ []) = (
      free_named files journal one.1,
      (apart journal out four.1, (apart journal other five.1, tt)),
      (free_named files out two.1, (apart out other six.1, tt), (free_named files other three.1, tt, tt)),
    ) in
    (one.0, names, λ k d less. (free_apart files journal one.1 k d less, (free_apart files out two.1 k d less, (free_apart files other three.1 k d less, tt))))

run_is : (verb : List ℕ) (words : List (List ℕ)) (c : Command) → as_run words ≡ Some c → IsCommand (verb ∷ words) c
run_is verb [] c is = cc
run_is verb (journal ∷ []) c is = cc
run_is verb (journal ∷ out ∷ []) c is = cc
run_is verb (journal ∷ out ∷ report ∷ words) c is =
    let parts = if_some (are_three_names words journal out report) (Run journal out report (length words)) c is in
    let names = three_names words journal out report parts.0 in
    subst (IsCommand (verb ∷ journal ∷ out ∷ report ∷ words)) parts.1 (record {
      count = length-map words split_at_equals;
      codes = codes_of words names.0;
      names = names.1;
      files = names.2;
      bounded = few words names.0;
    })

load_is : (verb : List ℕ) (words : List (List ℕ)) (c : Command) → as_load words ≡ Some c → IsCommand (verb ∷ words) c
load_is verb [] c is = cc
load_is verb (journal ∷ words) c is =
    let parts = if_some _ (Load journal (length words)) c is in
    let good = and_parts (are_libraries words) (is_free words journal) parts.0 in
    subst (IsCommand (verb ∷ journal ∷ words)) parts.1 (record {
      count = length-map words split_at_equals;
      codes = codes_of words good.0;
      names = (free_named words journal good.1, tt, tt);
      files = λ k d less. (free_apart words journal good.1 k d less, tt);
      bounded = few words good.0;
    })

-- a log and three outputs, apart from one another and from these files
four_names : (files : List (List ℕ)) (journal out report pages : List ℕ) → are_four_names files journal out report pages ≡ true
    → (are_libraries files ≡ true) × AreNames (journal ∷ out ∷ report ∷ pages ∷ [])
    × All (λ (l : Library). IsNoneOf l.file (journal ∷ out ∷ report ∷ pages ∷ [])) (map split_at_equals files)
four_names files journal out report pages good =
    let four = and_parts _ (differ report pages) good in
    let three = and_parts _ (differ out pages) four.0 in
    let two = and_parts _ (differ journal pages) three.0 in
    let one = and_parts (are_three_names files journal out report) (is_free files pages) two.0 in
    let before = three_names files journal out report one.0 in
    let names = before.1 in
    let all : AreNames (journal ∷ out ∷ report ∷ pages ∷ []) = (
      names.0,
      (names.1.0, (names.1.1.0, (apart journal pages two.1, tt))),
      (names.2.0, (names.2.1.0, (apart out pages three.1, tt)), (names.2.2.0, (apart report pages four.1, tt), (free_named files pages one.1, tt, tt))),
    ) in
    (before.0, all, λ k d less. let is = before.2 k d less in (is.0, (is.1.0, (is.1.1.0, (free_apart files pages one.1 k d less, tt)))))

browse_is : (verb : List ℕ) (words : List (List ℕ)) (c : Command) → as_browse words ≡ Some c → IsCommand (verb ∷ words) c
browse_is verb [] c is = cc
browse_is verb (journal ∷ []) c is = cc
browse_is verb (journal ∷ out ∷ []) c is = cc
browse_is verb (journal ∷ out ∷ report ∷ []) c is = cc
browse_is verb (journal ∷ out ∷ report ∷ pages ∷ words) c is =
    let parts = if_some (are_four_names words journal out report pages) (Browse journal out report pages (length words)) c is in
    let names = four_names words journal out report pages parts.0 in
    subst (IsCommand (verb ∷ journal ∷ out ∷ report ∷ pages ∷ words)) parts.1 (record {
      count = length-map words split_at_equals;
      codes = codes_of words names.0;
      names = names.1;
      files = names.2;
      bounded = few words names.0;
    })

-- a command without files
without_files : (words : List (List ℕ)) (c : Command) → words_of_files words (Some c) ≡ [] → file_count c ≡ 0 → AreNames (names_of c) → IsBounded c → IsCommand words c
without_files words c no_words none names bounded = record {
  count = ap (λ files. length (map split_at_equals files)) no_words ∙ sym none;
  codes = subst (λ files. All (λ (l : Library). is_code l.code ≡ true) (map split_at_equals files)) (sym no_words) (All-nil (λ (l : Library). is_code l.code ≡ true));
  names = names;
  files = subst (λ files. All (λ (l : Library). IsNoneOf l.file (names_of c)) (map split_at_equals files)) (sym no_words)
      (All-nil (λ (l : Library). IsNoneOf l.file (names_of c)));
  bounded = bounded;
}

two_names : (journal out : List ℕ) → are_two_names journal out ≡ true → AreNames (journal ∷ out ∷ [])
two_names journal out good =
    let both = and_parts _ (differ journal out) good in
    let each = and_parts (is_name journal) (is_name out) both.0 in
    (named journal each.0, (apart journal out both.1, tt), (named out each.1, tt, tt))

export_is : (verb : List ℕ) (words : List (List ℕ)) (c : Command) → as_export words ≡ Some c → IsCommand (verb ∷ words) c
export_is verb [] c is = cc
export_is verb (journal ∷ []) c is = cc
export_is verb (journal ∷ out ∷ []) c is =
    let parts = if_some (are_two_names journal out) (Export journal out None) c is in
    subst (IsCommand (verb ∷ journal ∷ out ∷ [])) parts.1 (without_files (verb ∷ journal ∷ out ∷ []) _ refl refl (two_names journal out parts.0) tt)
export_is verb (journal ∷ out ∷ code ∷ []) c is =
    let parts = if_some _ (Export journal out (Some code)) c is in
    subst (IsCommand (verb ∷ journal ∷ out ∷ code ∷ [])) parts.1 (without_files (verb ∷ journal ∷ out ∷ code ∷ []) _ refl refl (two_names journal out (and_parts (are_two_names journal out) _ parts.0).0) tt)
export_is verb (journal ∷ out ∷ code ∷ other ∷ rest) c is = cc

report_is : (verb : List ℕ) (words : List (List ℕ)) (c : Command) → as_report words ≡ Some c → IsCommand (verb ∷ words) c
report_is verb [] c is = cc
report_is verb (journal ∷ []) c is = cc
report_is verb (journal ∷ out ∷ []) c is =
    let parts = if_some (are_two_names journal out) (Report journal out) c is in
    subst (IsCommand (verb ∷ journal ∷ out ∷ [])) parts.1 (without_files (verb ∷ journal ∷ out ∷ []) _ refl refl (two_names journal out parts.0) tt)
report_is verb (journal ∷ out ∷ other ∷ rest) c is = cc

make_is : (verb : List ℕ) (words : List (List ℕ)) (c : Command) → as_make words ≡ Some c → IsCommand (verb ∷ words) c
make_is verb [] c is = cc
make_is verb (seed ∷ []) c is = cc
make_is verb (seed ∷ count ∷ []) c is = cc
make_is verb (seed ∷ count ∷ out ∷ []) c is =
    let first = and_then_some _ (number_upto greatest_number seed) c is in
    let second = and_then_some _ (number_upto most_made count) c first.2 in
    let parts = if_some (is_name out) (Make first.0 second.0 out) c second.2 in
    subst (IsCommand (verb ∷ seed ∷ count ∷ out ∷ [])) parts.1 (without_files (verb ∷ seed ∷ count ∷ out ∷ []) _ refl refl (named out parts.0, tt, tt) (number_within most_made count second.0 second.1))
make_is verb (seed ∷ count ∷ out ∷ other ∷ rest) c is = cc

verify_is : (verb : List ℕ) (words : List (List ℕ)) (c : Command) → as_verify words ≡ Some c → IsCommand (verb ∷ words) c
verify_is verb [] c is = cc
verify_is verb (journal ∷ []) c is =
    let parts = if_some (is_name journal) (Verify journal) c is in
    subst (IsCommand (verb ∷ journal ∷ [])) parts.1 (without_files (verb ∷ journal ∷ []) _ refl refl tt tt)
verify_is verb (journal ∷ point ∷ []) c is =
    let parts = if_some _ (VerifyPoint journal point) c is in
    subst (IsCommand (verb ∷ journal ∷ point ∷ [])) parts.1 (without_files (verb ∷ journal ∷ point ∷ []) _ refl refl tt tt)
verify_is verb (journal ∷ count ∷ digest ∷ []) c is =
    let first = and_then_some _ (number_upto greatest_number count) c is in
    let parts = if_some (is_name journal && is_digest digest) (VerifyDigest journal first.0 digest) c first.2 in
    subst (IsCommand (verb ∷ journal ∷ count ∷ digest ∷ [])) parts.1 (without_files (verb ∷ journal ∷ count ∷ digest ∷ []) _ refl refl tt tt)
verify_is verb (journal ∷ count ∷ digest ∷ other ∷ rest) c is = cc

matches_is : (verb : List ℕ) (words : List (List ℕ)) (c : Command) → as_matches words ≡ Some c → IsCommand (verb ∷ words) c
matches_is verb [] c is = cc
matches_is verb (journal ∷ []) c is = cc
matches_is verb (journal ∷ out ∷ []) c is =
    let parts = if_some (are_two_names journal out) (Matches journal out) c is in
    subst (IsCommand (verb ∷ journal ∷ out ∷ [])) parts.1 (without_files (verb ∷ journal ∷ out ∷ []) _ refl refl (two_names journal out parts.0) tt)
matches_is verb (journal ∷ out ∷ other ∷ rest) c is = cc

-- a log and two outputs with one file
one_file : (verb journal out rest file : List ℕ) (code : Option (List ℕ)) (words : List (List ℕ)) → are_three_names (file ∷ []) journal out rest ≡ true
    → IsCommand (verb ∷ journal ∷ out ∷ rest ∷ file ∷ words) (Holdings journal out rest code)
one_file verb journal out rest file code words good =
    let names = three_names (file ∷ []) journal out rest good in record {
      count = refl;
      codes = codes_of (file ∷ []) names.0;
      names = names.1;
      files = names.2;
      bounded = tt;
    }

holdings_is : (verb : List ℕ) (words : List (List ℕ)) (c : Command) → as_holdings words ≡ Some c → IsCommand (verb ∷ words) c
holdings_is verb [] c is = cc
holdings_is verb (journal ∷ []) c is = cc
holdings_is verb (journal ∷ out ∷ []) c is = cc
holdings_is verb (journal ∷ out ∷ rest ∷ []) c is = cc
holdings_is verb (journal ∷ out ∷ rest ∷ file ∷ []) c is =
    let parts = if_some (are_three_names (file ∷ []) journal out rest) (Holdings journal out rest None) c is in
    subst (IsCommand (verb ∷ journal ∷ out ∷ rest ∷ file ∷ [])) parts.1 (one_file verb journal out rest file None [] parts.0)
holdings_is verb (journal ∷ out ∷ rest ∷ file ∷ code ∷ []) c is =
    let parts = if_some _ (Holdings journal out rest (Some code)) c is in
    subst (IsCommand (verb ∷ journal ∷ out ∷ rest ∷ file ∷ code ∷ [])) parts.1
    (one_file verb journal out rest file (Some code) (code ∷ []) (and_parts (are_three_names (file ∷ []) journal out rest) _ parts.0).0)
holdings_is verb (journal ∷ out ∷ rest ∷ file ∷ code ∷ other ∷ words) c is = cc

migrate_is : (verb : List ℕ) (words : List (List ℕ)) (c : Command) → as_migrate words ≡ Some c → IsCommand (verb ∷ words) c
migrate_is verb [] c is = cc
migrate_is verb (old ∷ []) c is = cc
migrate_is verb (old ∷ new ∷ []) c is =
    let parts = if_some (are_two_names old new) (Migrate old new) c is in
    subst (IsCommand (verb ∷ old ∷ new ∷ [])) parts.1 (without_files (verb ∷ old ∷ new ∷ []) _ refl refl (two_names old new parts.0) tt)
migrate_is verb (old ∷ new ∷ other ∷ rest) c is = cc

salvage_is : (verb : List ℕ) (words : List (List ℕ)) (c : Command) → as_salvage words ≡ Some c → IsCommand (verb ∷ words) c
salvage_is verb [] c is = cc
salvage_is verb (journal ∷ []) c is = cc
salvage_is verb (journal ∷ new ∷ []) c is =
    let parts = if_some (are_two_names journal new) (Salvage journal new) c is in
    subst (IsCommand (verb ∷ journal ∷ new ∷ [])) parts.1 (without_files (verb ∷ journal ∷ new ∷ []) _ refl refl (two_names journal new parts.0) tt)
salvage_is verb (journal ∷ new ∷ other ∷ rest) c is = cc

checkpoint_is : (verb : List ℕ) (words : List (List ℕ)) (c : Command) → as_checkpoint words ≡ Some c → IsCommand (verb ∷ words) c
checkpoint_is verb [] c is = cc
checkpoint_is verb (journal ∷ []) c is = cc
checkpoint_is verb (journal ∷ point ∷ []) c is =
    let parts = if_some (are_two_names journal point) (Checkpoint journal point) c is in
    subst (IsCommand (verb ∷ journal ∷ point ∷ [])) parts.1 (without_files (verb ∷ journal ∷ point ∷ []) _ refl refl (two_names journal point parts.0) tt)
checkpoint_is verb (journal ∷ point ∷ other ∷ rest) c is = cc

three_alone : (journal point out : List ℕ) → are_three_alone journal point out ≡ true → AreNames (journal ∷ point ∷ out ∷ [])
three_alone journal point out good =
    let three = and_parts _ (differ point out) good in
    let two = and_parts _ (differ journal out) three.0 in
    let one = and_parts (are_two_names journal point) (is_name out) two.0 in
    let both = and_parts _ (differ journal point) one.0 in
    let each = and_parts (is_name journal) (is_name point) both.0 in (
      named journal each.0,
      (apart journal point both.1, (apart journal out two.1, tt)),
      (named point each.1, (apart point out three.1, tt), (named out one.1, tt, tt)),
    )

four_alone : (journal point out report : List ℕ) → are_four_alone journal point out report ≡ true → AreNames (journal ∷ point ∷ out ∷ report ∷ [])
four_alone journal point out report good =
    let four = and_parts _ (differ out report) good in
    let three = and_parts _ (differ point report) four.0 in
    let two = and_parts _ (differ journal report) three.0 in
    let one = and_parts (are_three_alone journal point out) (is_name report) two.0 in
    let names = three_alone journal point out one.0 in (
      names.0,
      (names.1.0, (names.1.1.0, (apart journal report two.1, tt))),
      (names.2.0, (names.2.1.0, (apart point report three.1, tt)), (names.2.2.0, (apart out report four.1, tt), (named report one.1, tt, tt))),
    )

quick_is : (verb : List ℕ) (words : List (List ℕ)) (c : Command) → as_quick words ≡ Some c → IsCommand (verb ∷ words) c
quick_is verb [] c is = cc
quick_is verb (journal ∷ []) c is = cc
quick_is verb (journal ∷ point ∷ []) c is = cc
quick_is verb (journal ∷ point ∷ out ∷ []) c is =
    let parts = if_some (are_three_alone journal point out) (Quick journal point out) c is in
    subst (IsCommand (verb ∷ journal ∷ point ∷ out ∷ [])) parts.1
    (without_files (verb ∷ journal ∷ point ∷ out ∷ []) _ refl refl (three_alone journal point out parts.0) tt)
quick_is verb (journal ∷ point ∷ out ∷ report ∷ []) c is =
    let parts = if_some (are_four_alone journal point out report) (QuickReport journal point out report) c is in
    subst (IsCommand (verb ∷ journal ∷ point ∷ out ∷ report ∷ [])) parts.1
    (without_files (verb ∷ journal ∷ point ∷ out ∷ report ∷ []) _ refl refl (four_alone journal point out report parts.0) tt)
quick_is verb (journal ∷ point ∷ out ∷ report ∷ other ∷ rest) c is = cc

headings_is : (verb : List ℕ) (words : List (List ℕ)) (c : Command) → as_headings words ≡ Some c → IsCommand (verb ∷ words) c
headings_is verb [] c is = cc
headings_is verb (journal ∷ []) c is = cc
headings_is verb (journal ∷ kind ∷ []) c is = cc
headings_is verb (journal ∷ kind ∷ from ∷ []) c is = cc
headings_is verb (journal ∷ kind ∷ from ∷ most ∷ []) c is = cc
headings_is verb (journal ∷ kind ∷ from ∷ most ∷ out ∷ []) c is =
    let first = and_then_some _ (kind_of kind) c is in
    let second = and_then_some _ (number_upto most_headings most) c first.2 in
    let range : HeadingRange = record { kind = first.0; from = from; most = second.0 } in
    let parts = if_some _ (Headings journal range out) c second.2 in
    let good = and_parts (nat_le 1 second.0) (are_two_names journal out) parts.0 in
    let low : nat_le 1 second.0 ≡ true = good.0 in
    let words = verb ∷ journal ∷ kind ∷ from ∷ most ∷ out ∷ [] in
    subst (IsCommand words) parts.1
    (without_files words (Headings journal range out) refl refl (two_names journal out good.1)
    (grind (arith, nat_tests, low), number_within most_headings most second.0 second.1))
headings_is verb (journal ∷ kind ∷ from ∷ most ∷ out ∷ other ∷ rest) c is = cc

worklist_is : (verb : List ℕ) (words : List (List ℕ)) (c : Command) → as_worklist words ≡ Some c → IsCommand (verb ∷ words) c
worklist_is verb [] c is = cc
worklist_is verb (journal ∷ []) c is = cc
worklist_is verb (journal ∷ list ∷ []) c is = cc
worklist_is verb (journal ∷ list ∷ page ∷ []) c is =
    let parts = if_some (are_three_alone journal list page) (Worklist journal list page None) c is in
    subst (IsCommand (verb ∷ journal ∷ list ∷ page ∷ [])) parts.1
    (without_files (verb ∷ journal ∷ list ∷ page ∷ []) _ refl refl (three_alone journal list page parts.0) tt)
worklist_is verb (journal ∷ list ∷ page ∷ code ∷ []) c is =
    let parts = if_some _ (Worklist journal list page (Some code)) c is in
    subst (IsCommand (verb ∷ journal ∷ list ∷ page ∷ code ∷ [])) parts.1
    (without_files (verb ∷ journal ∷ list ∷ page ∷ code ∷ []) _ refl refl (three_alone journal list page (and_parts (are_three_alone journal list page) _ parts.0).0) tt)
worklist_is verb (journal ∷ list ∷ page ∷ code ∷ other ∷ rest) c is = cc

totals_is : (verb : List ℕ) (words : List (List ℕ)) (c : Command) → as_totals words ≡ Some c → IsCommand (verb ∷ words) c
totals_is verb [] c is = cc
totals_is verb (first ∷ reports) c is =
    let parts = if_some (is_name first && nat_le 1 (length reports) && list_all is_name reports) (Totals first reports) c is in
    let some = (and_parts (is_name first) (nat_le 1 (length reports)) (and_parts _ (list_all is_name reports) parts.0).0).1 in
    subst (IsCommand (verb ∷ first ∷ reports)) parts.1 (without_files (verb ∷ first ∷ reports) _ refl refl tt (grind (arith, nat_tests, some)))

-- exports that aren't empty names differ from OUT
exports_apart : (out : List ℕ) (exports : List (List ℕ)) → list_all (is_export out) exports ≡ true → All (λ export. export ≢ out) exports
exports_apart out [] good = All-nil (λ export. export ≢ out)
exports_apart out (export ∷ exports) good =
    let both = and_parts (is_export out export) (list_all (is_export out) exports) good in
    All-cons (λ other. other ≢ out) export exports (apart export out (and_parts (is_name export) (differ export out) both.0).1) (exports_apart out exports both.1)

join_is : (verb : List ℕ) (words : List (List ℕ)) (c : Command) → as_join words ≡ Some c → IsCommand (verb ∷ words) c
join_is verb [] c is = cc
join_is verb (out ∷ exports) c is =
    let parts = if_some (is_name out && nat_le 1 (length exports) && list_all (is_export out) exports) (Join out exports) c is in
    let all = and_parts (is_name out && nat_le 1 (length exports)) (list_all (is_export out) exports) parts.0 in
    let each = and_parts (is_name out) (nat_le 1 (length exports)) all.0 in
    let some = each.1 in
    let bounded : AreExports out exports = (grind (arith, nat_tests, some), exports_apart out exports all.1) in
    subst (IsCommand (verb ∷ out ∷ exports)) parts.1 (without_files (verb ∷ out ∷ exports) _ refl refl (named out each.0, tt, tt) bounded)

split_is : (verb : List ℕ) (words : List (List ℕ)) (c : Command) → as_split words ≡ Some c → IsCommand (verb ∷ words) c
split_is verb [] c is = cc
split_is verb (count ∷ []) c is = cc
split_is verb (count ∷ prefix ∷ files) c is =
    let first = and_then_some _ (number_upto most_parts count) c is in
    let parts = if_some (nat_le 2 first.0 && is_name prefix && are_libraries files) (Split first.0 prefix (length files)) c first.2 in
    let all = and_parts (nat_le 2 first.0 && is_name prefix) (are_libraries files) parts.0 in
    let two = (and_parts (nat_le 2 first.0) (is_name prefix) all.0).0 in
    let number = few files all.1 in
    subst (IsCommand (verb ∷ count ∷ prefix ∷ files)) parts.1 (record {
      count = length-map files split_at_equals;
      codes = codes_of files all.1;
      names = tt;
      files = λ k d less. tt;
      bounded = (grind (arith, nat_tests, two), number_within most_parts count first.0 first.1, number.0, number.1);
    })

alone_is : (verb : List ℕ) (words : List (List ℕ)) (one : Command) (c : Command) → IsCommand (verb ∷ words) one → alone one words ≡ Some c
    → IsCommand (verb ∷ words) c
alone_is verb [] one c good is = let same : one ≡ c = cc in subst (IsCommand (verb ∷ [])) same good
alone_is verb (word ∷ words) one c good is = cc

a_help : (words : List (List ℕ)) (topic : Topic) → IsCommand words (Help topic)
a_help words topic = without_files words (Help topic) refl refl tt tt

a_version : (words : List (List ℕ)) → IsCommand words Version
a_version words = without_files words Version refl refl tt tt

-- one of two
pub chosen : {P : Type 0} (test : Bool) (x y : Option Command) (c : Command) → (x ≡ Some c → P) → (y ≡ Some c → P) → (if test then x else y) ≡ Some c → P
chosen true x y c f g is = f is
chosen false x y c f g is = g is

mapped_help : (words : List (List ℕ)) (o : Option Topic) (c : Command) → option_map Help o ≡ Some c → IsCommand words c
mapped_help words None c is = cc
mapped_help words (Some topic) c is = let same : Help topic ≡ c = cc in subst (IsCommand words) same (a_help words topic)

help_is : (verb : List ℕ) (words : List (List ℕ)) (c : Command) → as_help words ≡ Some c → IsCommand (verb ∷ words) c
help_is verb [] c is = let same : Help topic.All ≡ c = cc in subst (IsCommand (verb ∷ [])) same (a_help (verb ∷ []) topic.All)
help_is verb (word ∷ []) c is =
    chosen (is_version_flag word) (Some Version) (option_map Help (topic_of word)) c (λ is. let same : Version ≡ c = cc in subst (IsCommand (verb ∷ word ∷ [])) same (a_version (verb ∷ word ∷ [])))
    (mapped_help (verb ∷ word ∷ []) (topic_of word) c) is
help_is verb (word ∷ other ∷ rest) c is = cc

looking_is : (verb word : List ℕ) (words : List (List ℕ)) (c : Command) → looking verb words ≡ Some c → IsCommand (word ∷ words) c
unfolding looking
looking_is verb word words c is =
    chosen (bytes_eq verb (codes "export")) (as_export words) _ c (export_is word words c) (
    chosen (bytes_eq verb (codes "report")) (as_report words) _ c (report_is word words c) (
    chosen (bytes_eq verb (codes "matches")) (as_matches words) _ c (matches_is word words c) (
    chosen (bytes_eq verb (codes "holdings")) (as_holdings words) _ c (holdings_is word words c) (
    chosen (bytes_eq verb (codes "headings")) (as_headings words) _ c (headings_is word words c) (
    chosen (bytes_eq verb (codes "worklist")) (as_worklist words) None c (worklist_is word words c) (λ none. cc)))))) is

-- the same without a hold on the journal: one word stands before it, and the journal's name isn't kept apart
unheld_is : (verb : List ℕ) (words : List (List ℕ)) (c d : Command) → IsCommand words c → unheld c ≡ Some d → IsCommand (verb ∷ words) d
unheld_is verb words (Export journal out code) d good is =
    let same : Read (look.Export code) journal out ≡ d = cc in
    subst (IsCommand (verb ∷ words)) same (without_files (verb ∷ words) _ refl refl (good.names.2.0, tt, tt) tt)
unheld_is verb words (Report journal out) d good is =
    let same : Read look.Report journal out ≡ d = cc in
    subst (IsCommand (verb ∷ words)) same (without_files (verb ∷ words) _ refl refl (good.names.2.0, tt, tt) tt)
unheld_is verb words (Matches journal out) d good is =
    let same : Read look.Matches journal out ≡ d = cc in
    subst (IsCommand (verb ∷ words)) same (without_files (verb ∷ words) _ refl refl (good.names.2.0, tt, tt) tt)
unheld_is verb words (Headings journal range out) d good is =
    let same : Read (look.Headings range) journal out ≡ d = cc in
    subst (IsCommand (verb ∷ words)) same (without_files (verb ∷ words) _ refl refl (good.names.2.0, tt, tt) good.bounded)
unheld_is verb words (Holdings journal out rest code) d good is =
    let same : ReadHoldings journal out rest code ≡ d = cc in
    subst (IsCommand (verb ∷ words)) same (record {
      count = good.count;
      codes = good.codes;
      names = good.names.2;
      files = λ k x less. (good.files k x less).1;
      bounded = tt;
    })
unheld_is verb words (Worklist journal list page code) d good is =
    let same : ReadWorklist journal list page code ≡ d = cc in
    subst (IsCommand (verb ∷ words)) same (without_files (verb ∷ words) _ refl refl good.names.2 tt)
unheld_is verb words (Pass out) d good is = cc
unheld_is verb words (Run journal out report files) d good is = cc
unheld_is verb words (Load journal files) d good is = cc
unheld_is verb words (Browse journal out report pages files) d good is = cc
unheld_is verb words (Make seed count out) d good is = cc
unheld_is verb words (Verify journal) d good is = cc
unheld_is verb words (VerifyPoint journal point) d good is = cc
unheld_is verb words (VerifyDigest journal count digest) d good is = cc
unheld_is verb words (Migrate old new) d good is = cc
unheld_is verb words (Salvage journal new) d good is = cc
unheld_is verb words (Checkpoint journal point) d good is = cc
unheld_is verb words (Quick journal point out) d good is = cc
unheld_is verb words (QuickReport journal point out report) d good is = cc
unheld_is verb words (Read wanted journal out) d good is = cc
unheld_is verb words (ReadHoldings journal out rest code) d good is = cc
unheld_is verb words (ReadWorklist journal list page code) d good is = cc
unheld_is verb words (Refused out) d good is = cc
unheld_is verb words (Totals first reports) d good is = cc
unheld_is verb words (Join out exports) d good is = cc
unheld_is verb words (Split count prefix files) d good is = cc
unheld_is verb words (Help topic) d good is = cc
unheld_is verb words Version d good is = cc

reading_is : (verb : List ℕ) (words : List (List ℕ)) (c : Command) → as_reading words ≡ Some c → IsCommand (verb ∷ words) c
reading_is verb [] c is = cc
reading_is verb (word ∷ rest) c is =
    let found = and_then_some unheld (looking word rest) c is in
    unheld_is verb (word ∷ rest) found.0 c (looking_is word word rest found.0 found.1) found.2

behind_is : (verb : List ℕ) (words : List (List ℕ)) (c : Command) → behind_verb verb words ≡ Some c → IsCommand (verb ∷ words) c
unfolding behind_verb over_journal over_input over_parts only_telling
behind_is verb words c is =
    chosen (bytes_eq verb (codes "pass")) (as_pass words) _ c (pass_is verb words c) (
    chosen (bytes_eq verb (codes "run")) (as_run words) _ c (run_is verb words c) (
    chosen (bytes_eq verb (codes "load")) (as_load words) _ c (load_is verb words c) (
    chosen (bytes_eq verb (codes "browse")) (as_browse words) _ c (browse_is verb words c) (
    chosen (bytes_eq verb (codes "make")) (as_make words) _ c (make_is verb words c) (
    chosen (is_looking verb) (looking verb words) _ c (looking_is verb verb words c) (
    chosen (bytes_eq verb (codes "verify")) (as_verify words) _ c (verify_is verb words c) (
    chosen (bytes_eq verb (codes "migrate")) (as_migrate words) _ c (migrate_is verb words c) (
    chosen (bytes_eq verb (codes "salvage")) (as_salvage words) _ c (salvage_is verb words c) (
    chosen (bytes_eq verb (codes "checkpoint")) (as_checkpoint words) _ c (checkpoint_is verb words c) (
    chosen (bytes_eq verb (codes "quick")) (as_quick words) _ c (quick_is verb words c) (
    chosen (bytes_eq verb (codes "reading")) (as_reading words) _ c (reading_is verb words c) (
    chosen (bytes_eq verb (codes "refused")) (as_refused words) _ c (refused_is verb words c) (
    chosen (bytes_eq verb (codes "split")) (as_split words) _ c (split_is verb words c) (
    chosen (bytes_eq verb (codes "join")) (as_join words) _ c (join_is verb words c) (
    chosen (bytes_eq verb (codes "totals")) (as_totals words) _ c (totals_is verb words c) (
    chosen (bytes_eq verb (codes "help")) (as_help words) _ c (help_is verb words c) (
    chosen (is_help_flag verb) (alone (Help topic.All) words) _ c (alone_is verb words (Help topic.All) c (a_help (verb ∷ words) topic.All)) (
    chosen (bytes_eq verb (codes "version")) (alone Version words) _ c (alone_is verb words Version c (a_version (verb ∷ words))) (
    chosen (is_version_flag verb) (alone Version words) None c (alone_is verb words Version c (a_version (verb ∷ words))) (λ none. cc)))))))))))))))))))) is

asked_is : (large : Bool) (words : List (List ℕ)) (c : Command) → asked_of large words ≡ Some c → IsCommand words c
unfolding asked_of
asked_is large [] c is = cc
asked_is large (verb ∷ words) c is =
    chosen (asks_how verb words) (option_map Help (topic_of verb)) _ c (mapped_help (verb ∷ words) (topic_of verb) c) (
    chosen (large && takes_no_large verb) None (behind_verb verb words) c (λ none. cc) (behind_is verb words c)) is

command_is : (words : List (List ℕ)) (c : Command) → command_of words ≡ Some c → IsCommand (behind_large words) c
unfolding command_of
command_is words c is = asked_is (is_large words) (behind_large words) c is

-- a command has a library for each of its files
pub libraries_are_counted : (words : List (List ℕ)) (c : Command) → command_of words ≡ Some c → length (libraries_of words) ≡ file_count c
unfolding libraries_of
libraries_are_counted words c is = ap (λ o. length (map split_at_equals (words_of_files (behind_large words) o))) is ∙ (command_is words c is).count

-- their codes are proper
pub codes_are_proper : (words : List (List ℕ)) → All (λ (l : Library). is_code l.code ≡ true) (libraries_of words)
unfolding libraries_of
codes_are_proper words = decided (command_of words) refl
  where
    decided : (o : Option Command) → command_of words ≡ o → All (λ (l : Library). is_code l.code ≡ true) (map split_at_equals (words_of_files (behind_large words) (command_of words)))
    decided None is = subst (λ o. All (λ (l : Library). is_code l.code ≡ true) (map split_at_equals (words_of_files (behind_large words) o))) (sym is) (All-nil (λ (l : Library). is_code l.code ≡ true))
    decided (Some c) is = subst (λ o. All (λ (l : Library). is_code l.code ≡ true) (map split_at_equals (words_of_files (behind_large words) o))) (sym is) (command_is words c is).codes

-- the names of its log and outputs aren't empty, and differ from one another
pub names_are_apart : (words : List (List ℕ)) (c : Command) → command_of words ≡ Some c → AreNames (names_of c)
names_are_apart words c is = (command_is words c is).names

-- and from each of its files
pub files_are_apart : (words : List (List ℕ)) (c : Command) → command_of words ≡ Some c → All (λ (l : Library). IsNoneOf l.file (names_of c)) (libraries_of words)
unfolding libraries_of
files_are_apart words c is = subst (λ o. All (λ (l : Library). IsNoneOf l.file (names_of c)) (map split_at_equals (words_of_files (behind_large words) o))) (sym is) (command_is words c is).files

-- its numbers are within their bounds
pub is_bounded : (words : List (List ℕ)) (c : Command) → command_of words ≡ Some c → IsBounded c
is_bounded words c is = (command_is words c is).bounded

-- a word that isn't this one
isnt : (verb word : List ℕ) → verb ≢ word → bytes_eq verb word ≡ false
isnt verb word differ = at (bytes_eq verb word) refl
  where
    at : (b : Bool) → bytes_eq verb word ≡ b → b ≡ false
    at true same = absurd (differ ((bytes_eq-Decides verb word).0 same))
    at false same = refl

-- a command with another verb is one over a journal, or only tells something
pub only_over_journal : (verb : List ℕ) (rest : List (List ℕ)) → verb ≢ codes "pass" → verb ≢ codes "run" → verb ≢ codes "load" → verb ≢ codes "browse" → verb ≢ codes "make"
    → behind_verb verb rest ≡ over_journal verb rest
unfolding behind_verb
only_over_journal verb rest pass run load browse make =
    rw (isnt verb _ pass, isnt verb _ run, isnt verb _ load, isnt verb _ browse, isnt verb _ make) refl

-- no words have no `large` before them
pub none_large : (words : List (List ℕ)) → length words ≡ 0 → is_large words ≡ false
unfolding is_large
none_large [] none = refl
none_large (first ∷ rest) none = absurd (omega (arith, none))

none_asked : (large : Bool) (words : List (List ℕ)) → length words ≡ 0 → asked_of large words ≡ None
unfolding asked_of
none_asked large [] none = refl
none_asked large (first ∷ rest) none = absurd (omega (arith, none))

-- no words are no command
pub no_words : (words : List (List ℕ)) → length (behind_large words) ≡ 0 → command_of words ≡ None
unfolding command_of
no_words words none = none_asked (is_large words) (behind_large words) none
