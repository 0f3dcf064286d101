-- The words of the command line, without the program's name, and what they ask for. The rules are this project's own.
use Rattle.std.specs.Prelude.{◌≢◌, ◌≤◌, ℕ, ◌^◌, ◌-◌, All, Bool, false, ◌&&◌, ◌||◌, ◌==◌, not, nat_le, nat_lt, List, [], ◌∷◌, length, Option, Some, None, is_some, codes, drop, take, map, if◌then◌else◌, option_and_then, option_map}
use Rattle.std.specs.List.{before_first, after_first, position_or_len, list_all}
use Rattle.std.specs.Str.{bytes_eq}
use Rattle.std.specs.Str.Parse.{digits_value}
use Rattle.marc_types.specs.Limits.{most_made}
use Rattle.marc_types.specs.Valid.{is_code, is_digit}
use Rattle.outside.specs.Room.{IsNoneOf}
use Rattle.command_words.specs.declared.library.Library.{Library}
use Rattle.command_words.specs.declared.topic.Topic.{Topic}
use Rattle.command_words.specs.declared.topic.Topic.TheVariants as topics
use Rattle.command_words.specs.Topics.{topic_of}
use Rattle.command_words.specs.Look.{Look, HeadingRange, most_headings, kind_of}
use Rattle.command_words.specs.Look as look

-- what a command asks for; the names are those of the words
pub data Command : Type 0 where
  -- `pass OUT CODE=FILE`: the records of one file, through an empty catalogue, into the file OUT
  Pass : List ℕ → Command
  -- `run JOURNAL OUT REPORT CODE=FILE ..`: so many files into the journal, then the export into OUT and the report into REPORT
  Run : List ℕ → List ℕ → List ℕ → ℕ → Command
  -- `load JOURNAL CODE=FILE ..`: so many files into the journal
  Load : List ℕ → ℕ → Command
  -- `browse JOURNAL OUT REPORT PAGES CODE=FILE ..`: what `run` does, while a reader pages through the headings; then its pages into PAGES
  Browse : List ℕ → List ℕ → List ℕ → List ℕ → ℕ → Command
  -- `export JOURNAL OUT`, or `export JOURNAL OUT CODE` for the keys with that code
  Export : List ℕ → List ℕ → Option (List ℕ) → Command
  -- `report JOURNAL OUT`: the report into the file OUT
  Report : List ℕ → List ℕ → Command
  -- `make SEED COUNT OUT`: a workload of COUNT records into the file OUT
  Make : ℕ → ℕ → List ℕ → Command
  -- `verify JOURNAL`: what the journal has
  Verify : List ℕ → Command
  -- `verify JOURNAL POINT`: whether POINT's last checkpoint is one of this journal
  VerifyPoint : List ℕ → List ℕ → Command
  -- `verify JOURNAL N HEX`: whether the bytes of the journal's first N entries have this digest
  VerifyDigest : List ℕ → ℕ → List ℕ → Command
  -- `matches JOURNAL OUT`: which records share a number, into the file OUT
  Matches : List ℕ → List ℕ → Command
  -- `holdings JOURNAL OUT REST CODE=FILE`, or with a further CODE for the keys with that code: the records with the file's holdings
  -- into OUT, and the holdings that wait for their record into REST
  Holdings : List ℕ → List ℕ → List ℕ → Option (List ℕ) → Command
  -- `headings JOURNAL KIND FROM MOST OUT`: the headings of one kind from a heading on, at most so many, into the file OUT
  Headings : List ℕ → HeadingRange → List ℕ → Command
  -- `worklist JOURNAL LIST PAGE`, or with a code behind it for the records of that library: the headings that aren't linked into the file
  -- LIST, and what is to be seen of the catalogue into the file PAGE
  Worklist : List ℕ → List ℕ → List ℕ → Option (List ℕ) → Command
  -- `migrate OLD NEW`: the history of the journal OLD into the journal NEW
  Migrate : List ℕ → List ℕ → Command
  -- `salvage JOURNAL NEW`: what is sound of the bytes of the damaged journal JOURNAL into the journal NEW
  Salvage : List ℕ → List ℕ → Command
  -- `checkpoint JOURNAL POINT`: a checkpoint of the journal's catalogue behind the log POINT
  Checkpoint : List ℕ → List ℕ → Command
  -- `quick JOURNAL POINT OUT`: the export into the file OUT, from POINT's last checkpoint and the entries behind it
  Quick : List ℕ → List ℕ → List ℕ → Command
  -- `quick JOURNAL POINT OUT REPORT`: the same, and the report into the file REPORT
  QuickReport : List ℕ → List ℕ → List ℕ → List ℕ → Command
  -- `reading` before `export`, `report`, `matches` or `headings`: the same into the file OUT, of a journal that is an input and isn't held
  Read : Look → List ℕ → List ℕ → Command
  -- `reading holdings JOURNAL OUT REST CODE=FILE`, or with a further CODE: the same of such a journal
  ReadHoldings : List ℕ → List ℕ → List ℕ → Option (List ℕ) → Command
  -- `reading worklist JOURNAL LIST PAGE`, or with a code behind it: the same of such a journal
  ReadWorklist : List ℕ → List ℕ → List ℕ → Option (List ℕ) → Command
  -- `refused OUT CODE=FILE`: the pieces of one file that a pass refuses, as they stand, into the file OUT
  Refused : List ℕ → Command
  -- `totals REPORT0 REPORT ..`: the last line of the whole's report, of that of its authorities alone and those of its parts
  Totals : List ℕ → List (List ℕ) → Command
  -- `join OUT EXPORT ..`: the exports of the parts of a catalogue, in their order, into the file OUT
  Join : List ℕ → List (List ℕ) → Command
  -- `split N PREFIX CODE=FILE ..`: the pieces of so many files into the files of N parts, whose names begin with PREFIX
  Split : ℕ → List ℕ → ℕ → Command
  -- `help`, or `help COMMAND`: how the commands are used, or that one
  Help : Topic → Command
  -- `version`: which version of the program this is
  Version : Command

-- the name of a file isn't empty
abbrev pub is_name : List ℕ → Bool
is_name name = nat_lt 0 (length name)

-- two names differ, compared as text
abbrev pub differ : List ℕ → List ℕ → Bool
differ name other = not (bytes_eq name other)

-- the sign at which a word `CODE=FILE` is split
abbrev pub is_equals_sign : ℕ → Bool
is_equals_sign b = b == 61

-- a word `CODE=FILE` is split at its first `=`
abbrev pub split_at_equals : List ℕ → Library
split_at_equals word = record { code = before_first is_equals_sign word; file = after_first is_equals_sign word }

-- CODE obeys the rule of codes, and FILE isn't empty
unfoldable pub library_of : List ℕ → Option Library
library_of word =
    if nat_lt (position_or_len is_equals_sign word) (length word)
    && is_code (split_at_equals word).code
    && is_name (split_at_equals word).file
    then Some (split_at_equals word) else None

-- 1 to 64 words `CODE=FILE`
unfoldable pub are_libraries : List (List ℕ) → Bool
are_libraries words =
    nat_le 1 (length words) && nat_le (length words) 64 && list_all (λ word. is_some (library_of word)) words

-- the name of a log or an output isn't empty, and differs from every FILE
unfoldable pub is_free : List (List ℕ) → List ℕ → Bool
is_free files name = is_name name && list_all (λ word. differ name (split_at_equals word).file) files

-- the number of 1 to 20 decimal digits, if it isn't above a limit
unfoldable pub number_upto : ℕ → List ℕ → Option ℕ
number_upto limit word =
    if nat_le 1 (length word) && nat_le (length word) 20 && list_all is_digit word && nat_le (digits_value 10 word) limit
    then Some (digits_value 10 word) else None

-- the greatest number of 64 bits
abbrev pub greatest_number : ℕ
greatest_number = 2 ^ 64 - 1

-- the command, if its words are good ones
abbrev pub command_if : Bool → Command → Option Command
command_if good command = if good then Some command else None

-- `OUT CODE=FILE`
abbrev pub as_pass : List (List ℕ) → Option Command
as_pass (out ∷ file ∷ []) =
    command_if (are_libraries (file ∷ []) && is_free (file ∷ []) out) (Pass out)
as_pass words = None

-- `JOURNAL OUT REPORT CODE=FILE ..`
abbrev pub as_run : List (List ℕ) → Option Command
as_run (journal ∷ out ∷ report ∷ files) =
    command_if (are_libraries files && is_free files journal && is_free files out && is_free files report
    && differ journal out && differ journal report && differ out report)
    (Run journal out report (length files))
as_run words = None

-- `JOURNAL CODE=FILE ..`
abbrev pub as_load : List (List ℕ) → Option Command
as_load (journal ∷ files) = command_if (are_libraries files && is_free files journal) (Load journal (length files))
as_load words = None

-- the names of a log and an output that come without files
abbrev pub are_two_names : List ℕ → List ℕ → Bool
are_two_names journal out = is_name journal && is_name out && differ journal out

-- `JOURNAL OUT`, or with a code behind them
abbrev pub as_export : List (List ℕ) → Option Command
as_export (journal ∷ out ∷ []) = command_if (are_two_names journal out) (Export journal out None)
as_export (journal ∷ out ∷ code ∷ []) = command_if (are_two_names journal out && is_code code) (Export journal out (Some code))
as_export words = None

-- `JOURNAL OUT`
abbrev pub as_report : List (List ℕ) → Option Command
as_report (journal ∷ out ∷ []) = command_if (are_two_names journal out) (Report journal out)
as_report words = None

infixl 10 ◌>>=◌
abbrev ◌>>=◌ : {A B : Type 0} → Option A → (A → Option B) → Option B
o >>= f = option_and_then f o

-- `SEED COUNT OUT`
abbrev pub as_make : List (List ℕ) → Option Command
as_make (seed ∷ count ∷ out ∷ []) = do
  s ← number_upto greatest_number seed
  n ← number_upto most_made count
  command_if (is_name out) (Make s n out)
as_make words = None

-- a hexadecimal digit, of either case
unfoldable pub is_hex_digit : ℕ → Bool
is_hex_digit b = is_digit b || (nat_le 65 b && nat_le b 70) || (nat_le 97 b && nat_le b 102)

-- the 64 hexadecimal digits of a SHA-256
unfoldable pub is_digest : List ℕ → Bool
is_digest word = (length word == 64) && list_all is_hex_digit word

-- `JOURNAL`, whatever the word is; or with a point behind it, which may have the same name; or with a number of entries and a digest
abbrev pub as_verify : List (List ℕ) → Option Command
as_verify (journal ∷ []) = command_if (is_name journal) (Verify journal)
as_verify (journal ∷ point ∷ []) = command_if (is_name journal && is_name point) (VerifyPoint journal point)
as_verify (journal ∷ count ∷ digest ∷ []) = do
  n ← number_upto greatest_number count
  command_if (is_name journal && is_digest digest) (VerifyDigest journal n digest)
as_verify words = None

-- `JOURNAL OUT`
abbrev pub as_matches : List (List ℕ) → Option Command
as_matches (journal ∷ out ∷ []) = command_if (are_two_names journal out) (Matches journal out)
as_matches words = None

-- the names of a log and two outputs that come with files
abbrev pub are_three_names : List (List ℕ) → List ℕ → List ℕ → List ℕ → Bool
are_three_names files journal out rest =
    are_libraries files && is_free files journal && is_free files out && is_free files rest
    && differ journal out && differ journal rest && differ out rest

-- the names of a log and three outputs that come with files
abbrev pub are_four_names : List (List ℕ) → List ℕ → List ℕ → List ℕ → List ℕ → Bool
are_four_names files journal out report pages =
    are_three_names files journal out report && is_free files pages && differ journal pages && differ out pages && differ report pages

-- `JOURNAL OUT REPORT PAGES CODE=FILE ..`
abbrev pub as_browse : List (List ℕ) → Option Command
as_browse (journal ∷ out ∷ report ∷ pages ∷ files) =
    command_if (are_four_names files journal out report pages) (Browse journal out report pages (length files))
as_browse words = None

-- `JOURNAL OUT REST CODE=FILE`, or with a code behind them
abbrev pub as_holdings : List (List ℕ) → Option Command
as_holdings (journal ∷ out ∷ rest ∷ file ∷ []) = command_if (are_three_names (file ∷ []) journal out rest) (Holdings journal out rest None)
as_holdings (journal ∷ out ∷ rest ∷ file ∷ code ∷ []) =
    command_if (are_three_names (file ∷ []) journal out rest && is_code code) (Holdings journal out rest (Some code))
as_holdings words = None

-- `OLD NEW`
abbrev pub as_migrate : List (List ℕ) → Option Command
as_migrate (old ∷ new ∷ []) = command_if (are_two_names old new) (Migrate old new)
as_migrate words = None

-- `JOURNAL NEW`
abbrev pub as_salvage : List (List ℕ) → Option Command
as_salvage (journal ∷ new ∷ []) = command_if (are_two_names journal new) (Salvage journal new)
as_salvage words = None

-- `JOURNAL POINT`
abbrev pub as_checkpoint : List (List ℕ) → Option Command
as_checkpoint (journal ∷ point ∷ []) = command_if (are_two_names journal point) (Checkpoint journal point)
as_checkpoint words = None

-- three names that come without files
abbrev pub are_three_alone : List ℕ → List ℕ → List ℕ → Bool
are_three_alone journal other out = are_two_names journal other && is_name out && differ journal out && differ other out

-- four names that come without files
abbrev pub are_four_alone : List ℕ → List ℕ → List ℕ → List ℕ → Bool
are_four_alone journal other out report =
    are_three_alone journal other out && is_name report && differ journal report && differ other report && differ out report

-- `JOURNAL POINT OUT`, or with a report behind them
abbrev pub as_quick : List (List ℕ) → Option Command
as_quick (journal ∷ point ∷ out ∷ []) = command_if (are_three_alone journal point out) (Quick journal point out)
as_quick (journal ∷ point ∷ out ∷ report ∷ []) =
    command_if (are_four_alone journal point out report) (QuickReport journal point out report)
as_quick words = None

-- `JOURNAL KIND FROM MOST OUT`
abbrev pub as_headings : List (List ℕ) → Option Command
as_headings (journal ∷ kind ∷ from ∷ most ∷ out ∷ []) = do
  k ← kind_of kind
  n ← number_upto most_headings most
  command_if (nat_le 1 n && are_two_names journal out) (Headings journal (record { kind = k; from = from; most = n }) out)
as_headings words = None

-- `JOURNAL LIST PAGE`, or with a code behind them
abbrev pub as_worklist : List (List ℕ) → Option Command
as_worklist (journal ∷ list ∷ page ∷ []) = command_if (are_three_alone journal list page) (Worklist journal list page None)
as_worklist (journal ∷ list ∷ page ∷ code ∷ []) =
    command_if (are_three_alone journal list page && is_code code) (Worklist journal list page (Some code))
as_worklist words = None

-- the verbs of commands that only look into a journal
unfoldable pub is_looking : List ℕ → Bool
is_looking verb =
    bytes_eq verb (codes "export") || bytes_eq verb (codes "report") || bytes_eq verb (codes "matches")
    || bytes_eq verb (codes "holdings") || bytes_eq verb (codes "headings") || bytes_eq verb (codes "worklist")

-- the commands that only look into a journal
unfoldable pub looking : List ℕ → List (List ℕ) → Option Command
looking verb words =
    if bytes_eq verb (codes "export") then as_export words
    else if bytes_eq verb (codes "report") then as_report words
    else if bytes_eq verb (codes "matches") then as_matches words
    else if bytes_eq verb (codes "holdings") then as_holdings words
    else if bytes_eq verb (codes "headings") then as_headings words
    else if bytes_eq verb (codes "worklist") then as_worklist words
    else None

-- the same command of a journal that isn't held, where it only looks into one
abbrev pub unheld : Command → Option Command
unheld (Export journal out code) = Some (Read (look.Export code) journal out)
unheld (Report journal out) = Some (Read look.Report journal out)
unheld (Matches journal out) = Some (Read look.Matches journal out)
unheld (Headings journal range out) = Some (Read (look.Headings range) journal out)
unheld (Holdings journal out rest code) = Some (ReadHoldings journal out rest code)
unheld (Worklist journal list page code) = Some (ReadWorklist journal list page code)
unheld command = None

-- a command that only looks into a journal, without holding it
abbrev pub as_reading : List (List ℕ) → Option Command
as_reading [] = None
as_reading (verb ∷ words) = option_and_then unheld (looking verb words)

-- `OUT CODE=FILE`
abbrev pub as_refused : List (List ℕ) → Option Command
as_refused (out ∷ file ∷ []) =
    command_if (are_libraries (file ∷ []) && is_free (file ∷ []) out) (Refused out)
as_refused words = None

-- `REPORT0 REPORT ..`: at least one REPORT
abbrev pub as_totals : List (List ℕ) → Option Command
as_totals (first ∷ reports) = command_if (is_name first && nat_le 1 (length reports) && list_all is_name reports) (Totals first reports)
as_totals words = None

-- the name of an export isn't empty, and isn't OUT
abbrev pub is_export : List ℕ → List ℕ → Bool
is_export out export = is_name export && differ export out

-- `OUT EXPORT ..`: at least one EXPORT
abbrev pub as_join : List (List ℕ) → Option Command
as_join (out ∷ exports) = command_if (is_name out && nat_le 1 (length exports) && list_all (is_export out) exports) (Join out exports)
as_join words = None

-- the most parts of a catalogue
abbrev pub most_parts : ℕ
most_parts = 1024

-- `N PREFIX CODE=FILE ..`: at least two parts
abbrev pub as_split : List (List ℕ) → Option Command
as_split (count ∷ prefix ∷ files) = do
  n ← number_upto most_parts count
  command_if (nat_le 2 n && is_name prefix && are_libraries files) (Split n prefix (length files))
as_split words = None

-- a word that asks for the version, as it does in other programs
abbrev pub is_version_flag : List ℕ → Bool
is_version_flag word = bytes_eq word (codes "--version") || bytes_eq word (codes "-V")

-- a word that asks for help, as it does in other programs
abbrev pub is_help_flag : List ℕ → Bool
is_help_flag word = bytes_eq word (codes "--help") || bytes_eq word (codes "-h")

-- nothing, a topic, or a word that asks for the version
abbrev pub as_help : List (List ℕ) → Option Command
as_help [] = Some (Help topics.All)
as_help (word ∷ []) = if is_version_flag word then Some Version else option_map Help (topic_of word)
as_help words = None

-- a command without words
abbrev pub alone : Command → List (List ℕ) → Option Command
alone command [] = Some command
alone command words = None

-- the commands that only tell something
unfoldable pub only_telling : List ℕ → List (List ℕ) → Option Command
only_telling verb words =
    if bytes_eq verb (codes "help") then as_help words
    else if is_help_flag verb then alone (Help topics.All) words
    else if bytes_eq verb (codes "version") then alone Version words
    else if is_version_flag verb then alone Version words
    else None

-- the commands over the parts of a catalogue
unfoldable pub over_parts : List ℕ → List (List ℕ) → Option Command
over_parts verb words =
    if bytes_eq verb (codes "split") then as_split words
    else if bytes_eq verb (codes "join") then as_join words
    else if bytes_eq verb (codes "totals") then as_totals words
    else only_telling verb words

-- the commands over files that hold no journal
unfoldable pub over_input : List ℕ → List (List ℕ) → Option Command
over_input verb words =
    if bytes_eq verb (codes "reading") then as_reading words
    else if bytes_eq verb (codes "refused") then as_refused words
    else over_parts verb words

-- the commands over a journal that load nothing
unfoldable pub over_journal : List ℕ → List (List ℕ) → Option Command
over_journal verb words =
    if is_looking verb then looking verb words
    else if bytes_eq verb (codes "verify") then as_verify words
    else if bytes_eq verb (codes "migrate") then as_migrate words
    else if bytes_eq verb (codes "salvage") then as_salvage words
    else if bytes_eq verb (codes "checkpoint") then as_checkpoint words
    else if bytes_eq verb (codes "quick") then as_quick words
    else over_input verb words

-- the command of a verb and the words behind it
unfoldable pub behind_verb : List ℕ → List (List ℕ) → Option Command
behind_verb verb words =
    if bytes_eq verb (codes "pass") then as_pass words
    else if bytes_eq verb (codes "run") then as_run words
    else if bytes_eq verb (codes "load") then as_load words
    else if bytes_eq verb (codes "browse") then as_browse words
    else if bytes_eq verb (codes "make") then as_make words
    else over_journal verb words

-- words that ask how their command is used: `load --help`. Behind `verify` such a word is the name of a journal.
unfoldable pub asks_how : List ℕ → List (List ℕ) → Bool
asks_how verb (word ∷ []) = is_help_flag word && not (bytes_eq verb (codes "verify"))
asks_how verb words = false

-- the verbs of commands whose limits `large` doesn't change; it doesn't stand before them
unfoldable pub takes_no_large : List ℕ → Bool
takes_no_large verb =
    bytes_eq verb (codes "make") || bytes_eq verb (codes "help") || bytes_eq verb (codes "version") || is_help_flag verb || is_version_flag verb

-- the command of a verb and the words behind it, where `large` stands before them, or doesn't
unfoldable pub asked_of : Bool → List (List ℕ) → Option Command
asked_of large [] = None
asked_of large (verb ∷ words) =
    if asks_how verb words then option_map Help (topic_of verb)
    else if large && takes_no_large verb then None
    else behind_verb verb words

-- the words begin with `large`, and don't ask how it is used, as `large --help` does; a command behind it has the limits of a large catalogue
unfoldable pub is_large : List (List ℕ) → Bool
is_large [] = false
is_large (word ∷ words) = bytes_eq word (codes "large") && not (asks_how word words)

-- the words without such a `large`
abbrev pub behind_large : List (List ℕ) → List (List ℕ)
behind_large words = if is_large words then drop 1 words else words

-- the command of some words, if they are one
unfoldable pub command_of : List (List ℕ) → Option Command
command_of words = asked_of (is_large words) (behind_large words)

-- the words `CODE=FILE` of a command, which stand behind its names, of the words without `large`; none where there is no command
abbrev pub words_of_files : List (List ℕ) → Option Command → List (List ℕ)
words_of_files words None = []
words_of_files words (Some (Pass out)) = drop 2 words
words_of_files words (Some (Run journal out report files)) = drop 4 words
words_of_files words (Some (Load journal files)) = drop 2 words
words_of_files words (Some (Browse journal out report pages files)) = drop 5 words
words_of_files words (Some (Export journal out code)) = []
words_of_files words (Some (Report journal out)) = []
words_of_files words (Some (Make seed count out)) = []
words_of_files words (Some (Verify journal)) = []
words_of_files words (Some (VerifyPoint journal point)) = []
words_of_files words (Some (VerifyDigest journal count digest)) = []
words_of_files words (Some (Matches journal out)) = []
words_of_files words (Some (Holdings journal out rest code)) = take 1 (drop 4 words)
words_of_files words (Some (Headings journal range out)) = []
words_of_files words (Some (Worklist journal list page code)) = []
words_of_files words (Some (Migrate old new)) = []
words_of_files words (Some (Salvage journal new)) = []
words_of_files words (Some (Checkpoint journal point)) = []
words_of_files words (Some (Quick journal point out)) = []
words_of_files words (Some (QuickReport journal point out report)) = []
words_of_files words (Some (Read wanted journal out)) = []
words_of_files words (Some (ReadHoldings journal out rest code)) = take 1 (drop 5 words)
words_of_files words (Some (ReadWorklist journal list page code)) = []
words_of_files words (Some (Refused out)) = drop 2 words
words_of_files words (Some (Totals first reports)) = []
words_of_files words (Some (Join out exports)) = []
words_of_files words (Some (Split count prefix files)) = drop 3 words
words_of_files words (Some (Help topic)) = []
words_of_files words (Some Version) = []

-- the libraries of the files of the words' command, in their order
unfoldable pub libraries_of : List (List ℕ) → List Library
libraries_of words = map split_at_equals (words_of_files (behind_large words) (command_of words))

-- how many files of libraries a command reads
abbrev pub file_count : Command → ℕ
file_count (Pass out) = 1
file_count (Run journal out report files) = files
file_count (Load journal files) = files
file_count (Browse journal out report pages files) = files
file_count (Export journal out code) = 0
file_count (Report journal out) = 0
file_count (Make seed count out) = 0
file_count (Verify journal) = 0
file_count (VerifyPoint journal point) = 0
file_count (VerifyDigest journal count digest) = 0
file_count (Matches journal out) = 0
file_count (Holdings journal out rest code) = 1
file_count (Headings journal range out) = 0
file_count (Worklist journal list page code) = 0
file_count (Migrate old new) = 0
file_count (Salvage journal new) = 0
file_count (Checkpoint journal point) = 0
file_count (Quick journal point out) = 0
file_count (QuickReport journal point out report) = 0
file_count (Read wanted journal out) = 0
file_count (ReadHoldings journal out rest code) = 1
file_count (ReadWorklist journal list page code) = 0
file_count (Refused out) = 1
file_count (Totals first reports) = 0
file_count (Join out exports) = 0
file_count (Split count prefix files) = files
file_count (Help topic) = 0
file_count Version = 0

-- a command reads files of libraries
abbrev pub ReadsFiles : Command → Type 0
ReadsFiles (Pass out) = Unit {0}
ReadsFiles (Run journal out report files) = Unit {0}
ReadsFiles (Load journal files) = Unit {0}
ReadsFiles (Browse journal out report pages files) = Unit {0}
ReadsFiles (Export journal out code) = ⊥
ReadsFiles (Report journal out) = ⊥
ReadsFiles (Make seed count out) = ⊥
ReadsFiles (Verify journal) = ⊥
ReadsFiles (VerifyPoint journal point) = ⊥
ReadsFiles (VerifyDigest journal count digest) = ⊥
ReadsFiles (Matches journal out) = ⊥
ReadsFiles (Holdings journal out rest code) = Unit {0}
ReadsFiles (Headings journal range out) = ⊥
ReadsFiles (Worklist journal list page code) = ⊥
ReadsFiles (Migrate old new) = ⊥
ReadsFiles (Salvage journal new) = ⊥
ReadsFiles (Checkpoint journal point) = ⊥
ReadsFiles (Quick journal point out) = ⊥
ReadsFiles (QuickReport journal point out report) = ⊥
ReadsFiles (Read wanted journal out) = ⊥
ReadsFiles (ReadHoldings journal out rest code) = Unit {0}
ReadsFiles (ReadWorklist journal list page code) = ⊥
ReadsFiles (Refused out) = Unit {0}
ReadsFiles (Totals first reports) = ⊥
ReadsFiles (Join out exports) = ⊥
ReadsFiles (Split count prefix files) = Unit {0}
ReadsFiles (Help topic) = ⊥
ReadsFiles Version = ⊥

-- the names of a command's logs and outputs, and of a journal that is salvaged; of one that is only looked at none, and none of the outputs
-- of `split`, of whose names the words have the front alone
abbrev pub names_of : Command → List (List ℕ)
names_of (Pass out) = out ∷ []
names_of (Run journal out report files) = journal ∷ out ∷ report ∷ []
names_of (Load journal files) = journal ∷ []
names_of (Browse journal out report pages files) = journal ∷ out ∷ report ∷ pages ∷ []
names_of (Export journal out code) = journal ∷ out ∷ []
names_of (Report journal out) = journal ∷ out ∷ []
names_of (Make seed count out) = out ∷ []
names_of (Verify journal) = []
names_of (VerifyPoint journal point) = []
names_of (VerifyDigest journal count digest) = []
names_of (Matches journal out) = journal ∷ out ∷ []
names_of (Holdings journal out rest code) = journal ∷ out ∷ rest ∷ []
names_of (Headings journal range out) = journal ∷ out ∷ []
names_of (Worklist journal list page code) = journal ∷ list ∷ page ∷ []
names_of (Migrate old new) = old ∷ new ∷ []
names_of (Salvage journal new) = journal ∷ new ∷ []
names_of (Checkpoint journal point) = journal ∷ point ∷ []
names_of (Quick journal point out) = journal ∷ point ∷ out ∷ []
names_of (QuickReport journal point out report) = journal ∷ point ∷ out ∷ report ∷ []
names_of (Read wanted journal out) = out ∷ []
names_of (ReadHoldings journal out rest code) = out ∷ rest ∷ []
names_of (ReadWorklist journal list page code) = list ∷ page ∷ []
names_of (Refused out) = out ∷ []
names_of (Totals first reports) = []
names_of (Join out exports) = out ∷ []
names_of (Split count prefix files) = []
names_of (Help topic) = []
names_of Version = []

-- names that aren't empty, and differ from one another
abbrev pub AreNames : List (List ℕ) → Type 0
AreNames [] = Unit {0}
AreNames (name ∷ names) = (name ≢ []) × IsNoneOf name names × AreNames names

-- the bounds of a range's number
abbrev pub IsRange : HeadingRange → Type 0
IsRange range = (1 ≤ range.most) × (range.most ≤ most_headings)

-- the bounds of the number of what is looked for
abbrev pub IsLookBounded : Look → Type 0
IsLookBounded (look.Export code) = Unit {0}
IsLookBounded look.Report = Unit {0}
IsLookBounded look.Matches = Unit {0}
IsLookBounded (look.Headings range) = IsRange range

-- at least one export, and none of them is OUT
abbrev pub AreExports : List ℕ → List (List ℕ) → Type 0
AreExports out exports = (1 ≤ length exports) × All (λ export. export ≢ out) exports

-- the bounds of a command's numbers: 1 to 64 files, 2 to 1,024 parts, at least one report or export, at most so many records of a workload,
-- and so many headings
abbrev pub IsBounded : Command → Type 0
IsBounded (Pass out) = Unit {0}
IsBounded (Run journal out report files) = (1 ≤ files) × (files ≤ 64)
IsBounded (Load journal files) = (1 ≤ files) × (files ≤ 64)
IsBounded (Browse journal out report pages files) = (1 ≤ files) × (files ≤ 64)
IsBounded (Export journal out code) = Unit {0}
IsBounded (Report journal out) = Unit {0}
IsBounded (Make seed count out) = count ≤ most_made
IsBounded (Verify journal) = Unit {0}
IsBounded (VerifyPoint journal point) = Unit {0}
IsBounded (VerifyDigest journal count digest) = Unit {0}
IsBounded (Matches journal out) = Unit {0}
IsBounded (Holdings journal out rest code) = Unit {0}
IsBounded (Headings journal range out) = IsRange range
IsBounded (Worklist journal list page code) = Unit {0}
IsBounded (Migrate old new) = Unit {0}
IsBounded (Salvage journal new) = Unit {0}
IsBounded (Checkpoint journal point) = Unit {0}
IsBounded (Quick journal point out) = Unit {0}
IsBounded (QuickReport journal point out report) = Unit {0}
IsBounded (Read wanted journal out) = IsLookBounded wanted
IsBounded (ReadHoldings journal out rest code) = Unit {0}
IsBounded (ReadWorklist journal list page code) = Unit {0}
IsBounded (Refused out) = Unit {0}
IsBounded (Totals first reports) = 1 ≤ length reports
IsBounded (Join out exports) = AreExports out exports
IsBounded (Split count prefix files) = (2 ≤ count) × (count ≤ most_parts) × (1 ≤ files) × (files ≤ 64)
IsBounded (Help topic) = Unit {0}
IsBounded Version = Unit {0}
