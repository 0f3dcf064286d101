-- What `reading` before a command asks for.
use Rattle.std.proofs.Common.{◌≡◌, ℕ, Bool, true, List, [], ◌∷◌, Option, Some, None, Result, Ok, Err, refl, sym, ap, subst, ◌∙◌, codes}
use Rattle.std.specs.Prelude.{is_some, option_and_then, nat_le, map, IsSomeAnd}
use Rattle.std.specs.Str.{bytes_eq}
use Rattle.std.specs.Option.{ok_or}
use Rattle.command_words.specs.declared.asked.AloneRequest.{AloneRequest}
use Rattle.command_words.specs.declared.asked.AloneRequest.TheVariants as alone
use Rattle.command_words.specs.declared.asked.HeldLook.{HeldLook}
use Rattle.command_words.specs.declared.asked.PartsRequest.TheVariants as parts
use Rattle.command_words.specs.declared.asked.PointRequest.TheVariants as point
use Rattle.command_words.specs.declared.asked.UnheldLook.TheVariants as read
use Rattle.command_words.specs.declared.asked.Unasked.{Unasked}
use Rattle.command_words.specs.declared.asked.Unasked.TheVariants.{Usage, NoMemory}
use Rattle.command_words.specs.Look as look
use Rattle.command_words.specs.Look.{HeadingRange, kind_of, most_headings}
use Rattle.command_words.specs.Asked.{alone_asked, alone_libraries, IsAloneFor, IsAloneAskedBy, IsUnasked, IsUnheld}
use Rattle.command_words.specs.Command.{Command, Pass, Run, Load, Browse, Export, Report, Make, Verify, VerifyPoint, VerifyDigest, Matches, Holdings, Headings, Worklist, Migrate, Salvage, Checkpoint, Quick, QuickReport, Read, ReadHoldings, ReadWorklist, Refused, Totals, Join, Split, Help, Version, number_upto, split_at_equals, as_export, as_report, as_matches, as_holdings, as_headings, as_worklist, as_reading, command_if, looking, unheld, words_of_files, ReadsFiles}
use Rattle.command_words.proofs.Commands.{and_then_some, chosen, if_some}

-- a command that only looks into a journal has one that doesn't hold it
unheld_of : (good : Bool) (x c : Command) → is_some (unheld x) ≡ true → command_if good x ≡ Some c → is_some (unheld c) ≡ true
unheld_of good x c some is = subst (λ d. is_some (unheld d) ≡ true) (if_some good x c is).1 some

export_looks : (words : List (List ℕ)) (c : Command) → as_export words ≡ Some c → is_some (unheld c) ≡ true
export_looks [] c is = cc
export_looks (journal ∷ []) c is = cc
export_looks (journal ∷ out ∷ []) c is = unheld_of _ _ c refl is
export_looks (journal ∷ out ∷ code ∷ []) c is = unheld_of _ _ c refl is
export_looks (journal ∷ out ∷ code ∷ other ∷ rest) c is = cc

report_looks : (words : List (List ℕ)) (c : Command) → as_report words ≡ Some c → is_some (unheld c) ≡ true
report_looks [] c is = cc
report_looks (journal ∷ []) c is = cc
report_looks (journal ∷ out ∷ []) c is = unheld_of _ _ c refl is
report_looks (journal ∷ out ∷ other ∷ rest) c is = cc

matches_looks : (words : List (List ℕ)) (c : Command) → as_matches words ≡ Some c → is_some (unheld c) ≡ true
matches_looks [] c is = cc
matches_looks (journal ∷ []) c is = cc
matches_looks (journal ∷ out ∷ []) c is = unheld_of _ _ c refl is
matches_looks (journal ∷ out ∷ other ∷ rest) c is = cc

holdings_looks : (words : List (List ℕ)) (c : Command) → as_holdings words ≡ Some c → is_some (unheld c) ≡ true
holdings_looks [] c is = cc
holdings_looks (journal ∷ []) c is = cc
holdings_looks (journal ∷ out ∷ []) c is = cc
holdings_looks (journal ∷ out ∷ rest ∷ []) c is = cc
holdings_looks (journal ∷ out ∷ rest ∷ file ∷ []) c is = unheld_of _ _ c refl is
holdings_looks (journal ∷ out ∷ rest ∷ file ∷ code ∷ []) c is = unheld_of _ _ c refl is
holdings_looks (journal ∷ out ∷ rest ∷ file ∷ code ∷ other ∷ more) c is = cc

headings_looks : (words : List (List ℕ)) (c : Command) → as_headings words ≡ Some c → is_some (unheld c) ≡ true
headings_looks [] c is = cc
headings_looks (journal ∷ []) c is = cc
headings_looks (journal ∷ kind ∷ []) c is = cc
headings_looks (journal ∷ kind ∷ from ∷ []) c is = cc
headings_looks (journal ∷ kind ∷ from ∷ most ∷ []) c is = cc
headings_looks (journal ∷ kind ∷ from ∷ most ∷ out ∷ []) c is =
    let first = and_then_some _ (kind_of kind) c is in
    let second = and_then_some _ (number_upto most_headings most) c first.2 in
    unheld_of _ _ c refl second.2
headings_looks (journal ∷ kind ∷ from ∷ most ∷ out ∷ other ∷ rest) c is = cc

worklist_looks : (words : List (List ℕ)) (c : Command) → as_worklist words ≡ Some c → is_some (unheld c) ≡ true
worklist_looks [] c is = cc
worklist_looks (journal ∷ []) c is = cc
worklist_looks (journal ∷ list ∷ []) c is = cc
worklist_looks (journal ∷ list ∷ page ∷ []) c is = unheld_of _ _ c refl is
worklist_looks (journal ∷ list ∷ page ∷ code ∷ []) c is = unheld_of _ _ c refl is
worklist_looks (journal ∷ list ∷ page ∷ code ∷ other ∷ rest) c is = cc

looks : (verb : List ℕ) (words : List (List ℕ)) (c : Command) → looking verb words ≡ Some c → is_some (unheld c) ≡ true
unfolding looking
looks verb words c is =
    chosen (bytes_eq verb (codes "export")) (as_export words) _ c (export_looks words c) (
    chosen (bytes_eq verb (codes "report")) (as_report words) _ c (report_looks words c) (
    chosen (bytes_eq verb (codes "matches")) (as_matches words) _ c (matches_looks words c) (
    chosen (bytes_eq verb (codes "holdings")) (as_holdings words) _ c (holdings_looks words c) (
    chosen (bytes_eq verb (codes "headings")) (as_headings words) _ c (headings_looks words c) (
    chosen (bytes_eq verb (codes "worklist")) (as_worklist words) None c (worklist_looks words c) (λ none. cc)))))) is

-- it reads files where the other does
files_still : (c : Command) → is_some (unheld c) ≡ true → ReadsFiles c → IsSomeAnd (unheld c) ReadsFiles
files_still (Pass out) some reads = cc
files_still (Run journal out report files) some reads = cc
files_still (Load journal files) some reads = cc
files_still (Browse journal out report pages files) some reads = cc
files_still (Export journal out code) some reads = absurd reads
files_still (Report journal out) some reads = absurd reads
files_still (Make seed count out) some reads = absurd reads
files_still (Verify journal) some reads = absurd reads
files_still (VerifyPoint journal point) some reads = absurd reads
files_still (VerifyDigest journal count digest) some reads = absurd reads
files_still (Matches journal out) some reads = absurd reads
files_still (Holdings journal out rest code) some reads = tt
files_still (Headings journal range out) some reads = absurd reads
files_still (Worklist journal list page code) some reads = absurd reads
files_still (Migrate old new) some reads = absurd reads
files_still (Salvage journal new) some reads = absurd reads
files_still (Checkpoint journal point) some reads = absurd reads
files_still (Quick journal point out) some reads = absurd reads
files_still (QuickReport journal point out report) some reads = absurd reads
files_still (Read wanted journal out) some reads = absurd reads
files_still (ReadHoldings journal out rest code) some reads = cc
files_still (ReadWorklist journal list page code) some reads = absurd reads
files_still (Refused out) some reads = cc
files_still (Totals first reports) some reads = absurd reads
files_still (Join out exports) some reads = absurd reads
files_still (Split count prefix files) some reads = cc
files_still (Help topic) some reads = absurd reads
files_still Version some reads = absurd reads

unasked_still : (o : Option Command) → ((c : Command) → o ≡ Some c → is_some (unheld c) ≡ true) → (why : Unasked) → IsUnasked why o → IsUnasked why (option_and_then unheld o)
unasked_still o looks Usage none = ap (option_and_then unheld) none
unasked_still None looks NoMemory reads = absurd reads
unasked_still (Some c) looks NoMemory reads = files_still c (looks c refl) reads

-- where there is no command, or no memory for its libraries, there is none to be read so
pub unread : (verb : List ℕ) (rest : List (List ℕ)) (why : Unasked) → IsUnasked why (looking verb rest) → IsUnasked why (as_reading (verb ∷ rest))
unread verb rest why is = unasked_still (looking verb rest) (looks verb rest) why is

-- the words of files are the same ones
words_still : (word verb : List ℕ) (rest : List (List ℕ)) (c d : Command) → unheld c ≡ Some d
    → words_of_files (verb ∷ rest) (Some c) ≡ words_of_files (word ∷ verb ∷ rest) (Some d)
words_still word verb rest (Pass out) d is = cc
words_still word verb rest (Run journal out report files) d is = cc
words_still word verb rest (Load journal files) d is = cc
words_still word verb rest (Browse journal out report pages files) d is = cc
words_still word verb rest (Make seed count out) d is = cc
words_still word verb rest (Verify journal) d is = cc
words_still word verb rest (VerifyPoint journal point) d is = cc
words_still word verb rest (VerifyDigest journal count digest) d is = cc
words_still word verb rest (Migrate old new) d is = cc
words_still word verb rest (Salvage journal new) d is = cc
words_still word verb rest (Checkpoint journal point) d is = cc
words_still word verb rest (Quick journal point out) d is = cc
words_still word verb rest (QuickReport journal point out report) d is = cc
words_still word verb rest (Read wanted journal out) d is = cc
words_still word verb words (ReadHoldings journal out rest code) d is = cc
words_still word verb rest (ReadWorklist journal list page code) d is = cc
words_still word verb rest (Refused out) d is = cc
words_still word verb rest (Totals first reports) d is = cc
words_still word verb rest (Join out exports) d is = cc
words_still word verb rest (Split count prefix files) d is = cc
words_still word verb rest (Help topic) d is = cc
words_still word verb rest Version d is = cc
words_still word verb rest (Export journal out code) d is = let same : Read (look.Export code) journal out ≡ d = cc in ap (λ o. words_of_files (word ∷ verb ∷ rest) (Some o)) same
words_still word verb rest (Report journal out) d is = let same : Read look.Report journal out ≡ d = cc in ap (λ o. words_of_files (word ∷ verb ∷ rest) (Some o)) same
words_still word verb rest (Matches journal out) d is = let same : Read look.Matches journal out ≡ d = cc in ap (λ o. words_of_files (word ∷ verb ∷ rest) (Some o)) same
words_still word verb rest (Headings journal range out) d is = let same : Read (look.Headings range) journal out ≡ d = cc in ap (λ o. words_of_files (word ∷ verb ∷ rest) (Some o)) same
words_still word verb rest (Holdings journal out other code) d is = let same : ReadHoldings journal out other code ≡ d = cc in ap (λ o. words_of_files (word ∷ verb ∷ rest) (Some o)) same
words_still word verb rest (Worklist journal list page code) d is = let same : ReadWorklist journal list page code ≡ d = cc in ap (λ o. words_of_files (word ∷ verb ∷ rest) (Some o)) same

-- a request that isn't a look into a held journal has none into one that isn't held
pub never_unheld : (asked : AloneRequest) → ((look : HeldLook) → asked ≡ alone.Held look → ⊥) → unheld (alone_asked asked) ≡ None
never_unheld (alone.Pass library out) never = refl
never_unheld (alone.Held look) never = absurd (never look refl)
never_unheld (alone.Make seed count out) never = refl
never_unheld (alone.Verify journal) never = refl
never_unheld (alone.VerifyDigest journal count digest) never = refl
never_unheld (alone.Migrate old new) never = refl
never_unheld (alone.Salvage journal new) never = refl
never_unheld (alone.Point (point.Verify journal log)) never = refl
never_unheld (alone.Point (point.Checkpoint journal log)) never = refl
never_unheld (alone.Point (point.Quick journal log out)) never = refl
never_unheld (alone.Point (point.QuickReport journal log out report)) never = refl
never_unheld (alone.Unheld (read.Read look journal out)) never = refl
never_unheld (alone.Unheld (read.Holdings r)) never = refl
never_unheld (alone.Unheld (read.Worklist journal list page code)) never = refl
never_unheld (alone.Refused library out) never = refl
never_unheld (alone.Parts (parts.Totals first reports)) never = refl
never_unheld (alone.Parts (parts.Join out exports)) never = refl
never_unheld (alone.Parts (parts.Split count prefix libraries)) never = refl
never_unheld (alone.Help topic) never = refl
never_unheld alone.Version never = refl

-- what is asked for of a journal that isn't held
pub read_so : (verb : List ℕ) (rest : List (List ℕ)) (asked : AloneRequest) (answer : Option AloneRequest) → IsAloneFor rest (looking verb rest) asked → IsUnheld asked answer
    → IsAloneAskedBy (ok_or answer Usage) (verb ∷ rest) (as_reading (verb ∷ rest))
read_so verb rest asked None is none = ap (option_and_then unheld) is.command ∙ none
read_so verb rest asked (Some read) is so = record {
  command = ap (option_and_then unheld) is.command ∙ so.0;
  libraries = λ word.
      so.1 ∙ is.libraries verb ∙ ap (map split_at_equals) (words_still word verb rest (alone_asked asked) (alone_asked read) so.0);
}
