-- What a command comes to for whose libraries there is no memory.
use Rattle.std.proofs.Common.{◌≡◌, ◌≢◌, ℕ, ◌≤◌, List, [], ◌∷◌, length, Option, Some, None, refl, sym, subst, ◌∙◌, arith}
use Rattle.std.specs.Prelude.{All, IsTrue, IsSomeAnd}
use Rattle.std.specs.Borrow.{Bor}
use Rattle.std.proofs.lemmas.List.Elements.{All-head}
use Rattle.marc_types.specs.Valid.{is_code}
use Rattle.outside.specs.Room.{SameBut, IsNoneOf}
use Rattle.outside.proofs.Rooms.{same_but_none}
use Rattle.command_words.specs.declared.library.Library.{Library}
use Rattle.command_words.specs.declared.asked.AloneRequest.{AloneRequest}
use Rattle.command_words.specs.declared.asked.BrowseRequest.{BrowseRequest}
use Rattle.command_words.specs.declared.asked.LoadRequest.{LoadRequest}
use Rattle.command_words.specs.declared.asked.Outputs.{Outputs}
use Rattle.command_words.specs.declared.asked.Request.TheVariants as request
use Rattle.command_words.specs.Command.{Command, Pass, Run, Load, Browse, Export, Report, Make, Verify, VerifyPoint, VerifyDigest, Matches, Holdings, Headings, Worklist, Migrate, Salvage, Checkpoint, Quick, QuickReport, Read, ReadHoldings, ReadWorklist, Refused as RefusedOf, Totals as TotalsOf, Join, Split, Help, Version, command_of, libraries_of, file_count, names_of, AreNames, IsBounded, ReadsFiles}
use Rattle.command_words.specs.Asked.{alone_asked, browse_asked, load_asked, loading_of, AsksFor}
use Rattle.console_lines.specs.Ends.{Outcome, IsTold}
use Rattle.console_lines.specs.declared.end.End.TheVariants.{Told}
use Rattle.console_lines.specs.declared.fault.Fault.TheVariants as fault
use Rattle.durable_catalogue.specs.declared.fault.OpenFault.TheVariants as opening
use Rattle.journal_files.proofs.Journals.{unopened_keeps}
use Rattle.plain_commands.proofs.Passes.{passes_told}
use Rattle.plain_commands.specs.Passing.{export_due}
use Rattle.plain_commands.specs.GivingBack.{refused_due}
use Rattle.loading_commands.specs.Outcomes.{IsLoadingFault, NotBegun, Unopened}
use Rattle.loading_commands.specs.Inputs.{AreLoadable, IsProper}
use Rattle.union_top.specs.Begun.{IsAskedToBrowse}
use Rattle.union_top.specs.Commands.{touched, Ends, CarriesOut}
use Rattle.loading_commands.specs.Loading.{Loads, Runs, EndsWithOutputs, EndsLoading}
use Rattle.loading_commands.specs.Runs as runs
use Rattle.browsing_commands.specs.Browses.{EndsBrowse, Browses}
use Rattle.browsing_commands.specs.Browsing.{run_of}
use Rattle.browsing_commands.proofs.Outcomes.{browses_failed}
use Rattle.memory_files.specs.declared.reading.ReadFault.TheVariants as read
use Rattle.reading_commands.proofs.Attached.{unheld_unread}
use Rattle.holdings_command.proofs.Endings.{attaches_unopened}
use Rattle.loading_commands.proofs.Ended.{loads_failed, runs_failed, no_memory}
use Rattle.union_top.proofs.Joined.{splits_unasked}

-- what some words ask for is what the request asks for that it is
pub asked_as : (words : List (List ℕ)) (asked : AloneRequest) {is : AloneRequest} → AsksFor words (request.Alone asked) → asked ≡ is → AsksFor words (request.Alone is)
asked_as words asked {is} asks same = subst (λ r. AsksFor words (request.Alone r)) same asks

-- and it is carried out as that one is
pub carries : (words : List (List ℕ)) (asked : AloneRequest) {is : AloneRequest} {o : Outcome} → asked ≡ is → ((name : List ℕ) → o.new.open_as name ≡ None)
    → SameBut o.old o.new (touched (alone_asked is)) → Ends words (alone_asked is) o → o.end ≢ Told fault.Usage → CarriesOut words (alone_asked asked) o
carries words asked {is} {o} same closed apart ends no_usage =
    subst (λ r. CarriesOut words (alone_asked r) o) (sym same) (record { closed = closed; apart = apart; ends = ends; no_usage = no_usage })

-- the libraries of a command's files can be loaded into its journal, the first of its names
pub loadable : (libraries : List Library) (journal : List ℕ) (names : List (List ℕ)) (files : ℕ) → length libraries ≡ files → 1 ≤ files → files ≤ 64
    → All (λ (l : Library). IsTrue (is_code l.code)) libraries → All (λ (l : Library). IsNoneOf l.file (journal ∷ names)) libraries → AreLoadable journal libraries
loadable libraries journal names files count some few proper apart = record {
  some = omega (arith, count, some);
  few = omega (arith, count, few);
  proper = proper;
  apart = λ k d less. (apart k d less).0;
}

-- the one library that a request has is the only one of the words' files
pub only : (library first : Library) (libraries : List Library) → first ∷ [] ≡ libraries → libraries ≡ library ∷ [] → first ≡ library
only library first libraries has named = let same : first ∷ [] ≡ library ∷ [] = has ∙ named in cc

-- a fact of all libraries of the words' files is one of that one
pub of_only : (P : Library → Type 0) (first : Library) (libraries : List Library) → first ∷ [] ≡ libraries → All P libraries → P first
of_only P first libraries has all = All-head P first [] (subst (All P) (sym has) all)

-- a request to load that words ask for can be carried out
pub proper : (words : List (List ℕ)) (asked : LoadRequest) → AsksFor words (request.Load asked)
    → ((command : Command) → command_of words ≡ Some command → length (libraries_of words) ≡ file_count command)
    → All (λ (l : Library). IsTrue (is_code l.code)) (libraries_of words)
    → ((command : Command) → command_of words ≡ Some command → AreNames (names_of command))
    → ((command : Command) → command_of words ≡ Some command → All (λ (l : Library). IsNoneOf l.file (names_of command)) (libraries_of words))
    → ((command : Command) → command_of words ≡ Some command → IsBounded command) → IsProper asked
proper words asked asks count codes names files bounded = record {
  loadable = subst (AreLoadable asked.journal.now) (sym asks.libraries) (decided asked.outputs asks.command (files (load_asked asked) asks.command));
  names = names (load_asked asked) asks.command;
}
  where
    decided : (outputs : Option Outputs) → command_of words ≡ Some (loading_of asked.journal.now (length asked.libraries) outputs)
        → All (λ (l : Library). IsNoneOf l.file (names_of (loading_of asked.journal.now (length asked.libraries) outputs))) (libraries_of words)
        → AreLoadable asked.journal.now (libraries_of words)
    decided None is apart =
        let few = bounded _ is in
        loadable (libraries_of words) asked.journal.now [] (length asked.libraries) (count _ is) few.0 few.1 codes apart
    decided (Some outputs) is apart =
        let few = bounded _ is in
        loadable (libraries_of words) asked.journal.now (outputs.out.now ∷ outputs.report.now ∷ []) (length asked.libraries) (count _ is) few.0 few.1 codes apart

-- and so can one to browse, whose names are apart
pub proper_browse : (words : List (List ℕ)) (asked : BrowseRequest) → AsksFor words (request.Browse asked)
    → ((command : Command) → command_of words ≡ Some command → length (libraries_of words) ≡ file_count command)
    → All (λ (l : Library). IsTrue (is_code l.code)) (libraries_of words)
    → ((command : Command) → command_of words ≡ Some command → AreNames (names_of command))
    → ((command : Command) → command_of words ≡ Some command → All (λ (l : Library). IsNoneOf l.file (names_of command)) (libraries_of words))
    → ((command : Command) → command_of words ≡ Some command → IsBounded command) → IsProper (run_of asked)
proper_browse words asked asks count codes names files bounded =
    let is = asks.command in
    let few = bounded _ is in
    let apart = names _ is in record {
      loadable = subst (AreLoadable asked.journal.now) (sym asks.libraries)
          (loadable (libraries_of words) asked.journal.now (asked.outputs.out.now ∷ asked.outputs.report.now ∷ asked.pages.now ∷ []) (length asked.libraries) (count _ is) few.0 few.1 codes (files _ is));
      names = (apart.0, (apart.1.0, (apart.1.1.0, tt)), (apart.2.0, (apart.2.1.0, tt), (apart.2.2.0, tt, tt)));
    }

-- it is carried out where it ended so
pub browsing_carried : (words : List (List ℕ)) (asked : BrowseRequest) (o : Outcome) → AsksFor words (request.Browse asked) → ((name : List ℕ) → o.new.open_as name ≡ None)
    → SameBut o.old o.new (names_of (browse_asked asked))
    → Browses asked.libraries asked.journal.now asked.outputs.out.now asked.outputs.report.now asked.pages.now o → CarriesOut words (browse_asked asked) o
browsing_carried words asked o asks closed apart did = record {
  closed = closed;
  apart = apart;
  ends = subst (λ ls. Browses ls asked.journal.now asked.outputs.out.now asked.outputs.report.now asked.pages.now o) asks.libraries did;
  no_usage = λ usage. subst EndsBrowse usage did.ends;
}

-- the same of what is known of a loading beside a reader
module _ (words : List (List ℕ)) (loading : LoadRequest) (outputs : Outputs) (pages : Bor (List ℕ)) (asked : IsAskedToBrowse words loading outputs pages) where
  pub browsed_as : (o : Outcome) → ((name : List ℕ) → o.new.open_as name ≡ None)
      → SameBut o.old o.new (loading.journal.now ∷ outputs.out.now ∷ outputs.report.now ∷ pages.now ∷ [])
      → Browses loading.libraries loading.journal.now outputs.out.now outputs.report.now pages.now o → CarriesOut words (browse_asked asked.asked) o
  browsed_as o closed apart did =
      browsing_carried words asked.asked o asked.asks closed
      (subst (λ (p : Bor (List ℕ)). SameBut o.old o.new (asked.asked.journal.now ∷ asked.asked.outputs.out.now ∷ asked.asked.outputs.report.now ∷ p.now ∷ [])) asked.pages_are
      (subst (λ (os : Outputs). SameBut o.old o.new (asked.asked.journal.now ∷ os.out.now ∷ os.report.now ∷ pages.now ∷ [])) asked.outputs_are
      (subst (λ (l : LoadRequest). SameBut o.old o.new (l.journal.now ∷ outputs.out.now ∷ outputs.report.now ∷ pages.now ∷ [])) asked.loading_is apart)))
      (subst (λ (p : Bor (List ℕ)). Browses asked.asked.libraries asked.asked.journal.now asked.asked.outputs.out.now asked.asked.outputs.report.now p.now o) asked.pages_are
      (subst (λ (os : Outputs). Browses asked.asked.libraries asked.asked.journal.now os.out.now os.report.now pages.now o) asked.outputs_are
      (subst (λ (l : LoadRequest). Browses l.libraries l.journal.now outputs.out.now outputs.report.now pages.now o) asked.loading_is did)))

-- once it is loaded the words ask for it still
pub now_asked : (words : List (List ℕ)) (loading : LoadRequest) (outputs : Outputs) (pages : Bor (List ℕ)) (loaded : LoadRequest) (own : Outputs) (same : Bor (List ℕ))
    → IsAskedToBrowse words loading outputs pages → loaded ≡ loading → own ≡ outputs → same ≡ pages → IsAskedToBrowse words loaded own same
now_asked words loading outputs pages loaded own same asked is are as_are = record {
  asked = asked.asked;
  asks = asked.asks;
  loading_is = is ∙ asked.loading_is;
  outputs_are = are ∙ asked.outputs_are;
  pages_are = as_are ∙ asked.pages_are;
}

-- how it ended is how the words' command ends, and not as words end that are no command
pub loading_ends : (words : List (List ℕ)) (asked : LoadRequest) (o : Outcome) → AsksFor words (request.Load asked) → EndsLoading asked o
    → Ends words (load_asked asked) o × (o.end ≢ Told fault.Usage)
loading_ends words asked o asks did = decided asked.outputs did
  where
    decided : (outputs : Option Outputs) → EndsWithOutputs asked.libraries asked.journal.now outputs o
        → Ends words (loading_of asked.journal.now (length asked.libraries) outputs) o × (o.end ≢ Told fault.Usage)
    decided None l = (subst (λ ls. Loads ls asked.journal.now o) asks.libraries l, λ usage. (l.told fault.Usage usage).1 refl)
    decided (Some outputs) r =
        (subst (λ ls. Runs ls asked.journal.now outputs.out.now outputs.report.now o) asks.libraries r, λ usage. (r.told fault.Usage usage).1 refl)

-- what it may change are its names
touched_loading : (asked : LoadRequest) → touched (load_asked asked) ≡ names_of (load_asked asked)
touched_loading asked = decided asked.outputs
  where
    decided : (outputs : Option Outputs) → touched (loading_of asked.journal.now (length asked.libraries) outputs)
        ≡ names_of (loading_of asked.journal.now (length asked.libraries) outputs)
    decided None = refl
    decided (Some outputs) = refl

-- so it is carried out
pub loading_carried : (words : List (List ℕ)) (asked : LoadRequest) (o : Outcome) → AsksFor words (request.Load asked) → ((name : List ℕ) → o.new.open_as name ≡ None)
    → SameBut o.old o.new (names_of (load_asked asked)) → EndsLoading asked o → CarriesOut words (load_asked asked) o
loading_carried words asked o asks closed apart did =
    let both = loading_ends words asked o asks did in
    record { closed = closed; apart = subst (SameBut o.old o.new) (sym (touched_loading asked)) apart; ends = both.0; no_usage = both.1 }

module _ (o : Outcome) (told : o.end ≡ Told fault.Memory) (tells : IsTold fault.Memory o) (stays : SameBut o.old o.new [])
    (free : (name : List ℕ) → o.old.open_as name ≡ None) where
  unbegun : (journal : List ℕ) (libraries : List Library) → IsLoadingFault o.old o.new journal libraries fault.Memory
  unbegun journal libraries = NotBegun (Unopened opening.NoMemory refl tt (λ full. cc) (unopened_keeps _ o.old o.new journal stays))

  closed : (journal : List ℕ) → o.new.open_as journal ≡ None
  closed journal = stays.open_names journal tt ∙ free journal

  unasked : (words : List (List ℕ)) (command : Command) → ReadsFiles command → Ends words command o
  unasked words (Pass out) takes = λ library is. passes_told export_due library out o fault.Memory told tells tt stays (λ input. cc) (λ full. cc)
  unasked words (Run journal out report files) takes =
      runs_failed (libraries_of words) journal o out report fault.Memory told tells (same_but_none o.old o.new (journal ∷ []) stays)
      (no_memory o.old o.new journal (libraries_of words) _ (closed journal) (λ room. runs.NotLoaded (unbegun journal (libraries_of words))))
  unasked words (Load journal files) takes =
      loads_failed (libraries_of words) journal o fault.Memory told tells
      (no_memory o.old o.new journal (libraries_of words) _ (closed journal) (λ room. runs.NotLoaded (unbegun journal (libraries_of words))))
  unasked words (Browse journal out report pages files) takes =
      browses_failed (libraries_of words) journal out report pages o fault.Memory told tells (same_but_none o.old o.new (journal ∷ []) stays)
      (no_memory o.old o.new journal (libraries_of words) _ (closed journal) (λ room. runs.NotLoaded (unbegun journal (libraries_of words))))
  unasked words (Export journal out code) takes = absurd takes
  unasked words (Report journal out) takes = absurd takes
  unasked words (Make seed count out) takes = absurd takes
  unasked words (Verify journal) takes = absurd takes
  unasked words (VerifyPoint journal point) takes = absurd takes
  unasked words (VerifyDigest journal count digest) takes = absurd takes
  unasked words (Matches journal out) takes = absurd takes
  unasked words (Holdings journal out rest code) takes = λ library is.
      attaches_unopened journal out rest library code o opening.NoMemory told tells (same_but_none o.old o.new (journal ∷ []) stays) (λ old. cc) (λ room. tt)
      (λ room. unopened_keeps _ o.old o.new journal stays) (λ device. cc)
  unasked words (Headings journal range out) takes = absurd takes
  unasked words (Worklist journal list page code) takes = absurd takes
  unasked words (Migrate from into) takes = absurd takes
  unasked words (Salvage journal into) takes = absurd takes
  unasked words (Checkpoint journal point) takes = absurd takes
  unasked words (Quick journal point out) takes = absurd takes
  unasked words (QuickReport journal point out report) takes = absurd takes
  unasked words (Read look journal out) takes = absurd takes
  unasked words (ReadHoldings journal out rest code) takes = λ library is.
      unheld_unread journal out rest library code o read.NoMemory fault.Memory refl told tells stays (λ same. cc)
  unasked words (ReadWorklist journal list page code) takes = absurd takes
  unasked words (RefusedOf out) takes = λ library is. passes_told refused_due library out o fault.Memory told tells tt stays (λ input. cc) (λ full. cc)
  unasked words (TotalsOf first reports) takes = absurd takes
  unasked words (Join out exports) takes = absurd takes
  unasked words (Split count prefix files) takes = splits_unasked count prefix (libraries_of words) o told tells stays
  unasked words (Help topic) takes = absurd takes
  unasked words Version takes = absurd takes

  -- and so is a command that wants memory before it begins
  pub carried_unasked : (words : List (List ℕ)) (command : Command) → ReadsFiles command → CarriesOut words command o
  carried_unasked words command takes = record {
    closed = closed;
    apart = same_but_none o.old o.new (touched command) stays;
    ends = unasked words command takes;
    no_usage = λ usage. let no : Told fault.Memory ≡ Told fault.Usage = sym told ∙ usage in cc;
  }

-- words for whose libraries there is no memory have a command that reads files
pub wanting : (words : List (List ℕ)) → IsSomeAnd (command_of words) ReadsFiles → (command : Command) × (command_of words ≡ Some command) × ReadsFiles command
wanting words is = decided (command_of words) refl is
  where
    decided : (asked : Option Command) → command_of words ≡ asked → IsSomeAnd asked ReadsFiles
        → (command : Command) × (command_of words ≡ Some command) × ReadsFiles command
    decided None none takes = absurd takes
    decided (Some command) some takes = (command, some, takes)
