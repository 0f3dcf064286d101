-- What the program tells of itself, and how the telling of a text ends. The texts are this project's own.
use Rattle.std.specs.Prelude.{◌≡◌, ℕ, List, Option}
use Rattle.std.specs.Io.KnownBytes.{Appends}
use Rattle.outside.specs.Fault.{Rose}
use Rattle.outside.specs.Sink.{WritesFront}
use Rattle.console_lines.specs.Ends.{Outcome, console_unwritten}
use Rattle.console_lines.specs.declared.end.End.{End}
use Rattle.console_lines.specs.declared.end.End.TheVariants.{Done, Refused, Unwritten, Told, BroughtInPart, Differ}
use Rattle.console_lines.specs.declared.end.Unwritten.TheVariants.{Out, Side, Pages, Console}
use Rattle.command_words.specs.declared.topic.Topic.{Topic}
use Rattle.command_words.specs.declared.topic.Topic.TheVariants as topic
use Rattle.program_help.specs.declared.texts.TheConstants.{ALL, PASS, RUN, LOAD, BROWSE, EXPORT, REPORT, MAKE, VERIFY, MATCHES, HOLDINGS, HEADINGS, WORKLIST, MIGRATE, SALVAGE, CHECKPOINT, QUICK, READING, REFUSED, SPLIT, JOIN, TOTALS, LARGE, HELP, VERSION, STATUSES, THIS_VERSION}

-- the text of a topic
abbrev pub help_text : Topic → List ℕ
help_text topic.All = ALL.now
help_text topic.Pass = PASS.now
help_text topic.Run = RUN.now
help_text topic.Load = LOAD.now
help_text topic.Browse = BROWSE.now
help_text topic.Export = EXPORT.now
help_text topic.Report = REPORT.now
help_text topic.Make = MAKE.now
help_text topic.Verify = VERIFY.now
help_text topic.Matches = MATCHES.now
help_text topic.Holdings = HOLDINGS.now
help_text topic.Headings = HEADINGS.now
help_text topic.Worklist = WORKLIST.now
help_text topic.Migrate = MIGRATE.now
help_text topic.Salvage = SALVAGE.now
help_text topic.Checkpoint = CHECKPOINT.now
help_text topic.Quick = QUICK.now
help_text topic.Reading = READING.now
help_text topic.Refused = REFUSED.now
help_text topic.Split = SPLIT.now
help_text topic.Join = JOIN.now
help_text topic.Totals = TOTALS.now
help_text topic.Large = LARGE.now
help_text topic.Help = HELP.now
help_text topic.Version = VERSION.now
help_text topic.Statuses = STATUSES.now

-- the text of the version
abbrev pub version_text : List ℕ
version_text = THIS_VERSION.now

-- it is told, or the console failed
abbrev pub EndsTelling : End → Type 0
EndsTelling Done = Unit {0}
EndsTelling Refused = ⊥
EndsTelling (Unwritten Out) = ⊥
EndsTelling (Unwritten Side) = ⊥
EndsTelling (Unwritten Pages) = ⊥
EndsTelling (Unwritten Console) = Unit {0}
EndsTelling (Told fault) = ⊥
EndsTelling BroughtInPart = ⊥
EndsTelling Differ = ⊥

-- The console was told exactly a text; or it failed, was told a front of it, and its count of faults rose.
pub record IsTextTold (text : List ℕ) (old new : Option (List ℕ)) (before now : ℕ) (end : End) : Type 0 where
  pub ends : EndsTelling end
  pub whole : end ≡ Done → Appends old new text
  pub part : end ≡ console_unwritten → WritesFront old new text
  pub cause : end ≡ console_unwritten → Rose before now

-- The commands `help` and `version`: the console is told that text.
abbrev pub Tells : List ℕ → Outcome → Type 0
Tells text o = IsTextTold text o.told o.now o.faults o.faults_now o.end
