-- A journal keeps its history where a file to be loaded isn't there.
use Rattle.std.proofs.Common.{◌≡◌, ◌∙◌, ℕ, ◌+◌, true, suc, zero, List, [], length, slice_get, Option, Some, None, sym, ap, subst}
use Rattle.std.proofs.Math.Logic.{∥∥₁_map, ∥∥₁_elim, ∥∥₁_prop}
use Rattle.marc_types.specs.declared.entry.Entry.{Entry}
use Rattle.outside.specs.Room.{RoomView, bytes_or_none}
use Rattle.command_words.specs.declared.library.Library.{Library}
use Rattle.console_lines.specs.declared.fault.Fault.{Fault}
use Rattle.durable_catalogue.specs.Images.{HoldsEntries}
use Rattle.durable_catalogue.specs.Logs.{IsLogOf, HasHistory}
use Rattle.durable_catalogue.proofs.Images.{front_of, whole_is}
use Rattle.loader_workers.specs.declared.result.FileResult.{FileResult}
use Rattle.journal_files.specs.Journals.{log_bytes, KeepsHistory}
use Rattle.journal_files.specs.Journals as journals
use Rattle.journal_files.proofs.Histories.{reading_once}
use Rattle.loading_commands.specs.Outcomes.{AreLibrariesLoaded, NoLibrary, OneLibrary, IsUnbegun, Unopened, Unbegun, IsLoadingFault, NotBegun, InPart, IsFileMissing, HasSameHistory}

some_same : {A : Type 0} {x y : A} → Some x ≡ Some y → x ≡ y
some_same is = cc

-- an image that has all entries has the history
whole_history : (entries : List Entry) (image : List ℕ) → HoldsEntries (length entries) entries [] image → HasHistory entries image
whole_history entries image holds = ∥∥₁_map holds (λ r. whole_is entries image (front_of (length entries) entries image r))

-- a log has one history: another that has it too has each that the first has
same_history : (before : List Entry) (log now : List ℕ) → HasHistory before log → HasHistory before now → (entries : List Entry) → HasHistory entries log → HasHistory entries now
same_history before log now was is entries has =
    ∥∥₁_elim was ∥∥₁_prop (λ (reads : IsLogOf before log). ∥∥₁_elim has ∥∥₁_prop (λ (also : IsLogOf entries log).
    subst (λ es. HasHistory es now) (reading_once before entries log reads also) is))

kept_same : (failed : Type 0) (old new : RoomView) (journal : List ℕ) → KeepsHistory failed old new journal → HasSameHistory old new journal
kept_same failed old new journal (journals.Unopened untouched) entries has =
    subst (λ file. HasHistory entries (bytes_or_none file)) (sym untouched.file) has
kept_same failed old new journal (journals.Opened closed) entries has = closed.history entries has

-- loading didn't begin
unbegun_keeps : (old new : RoomView) (journal : List ℕ) (libraries : List Library) (why : Fault) → old.tells ≡ true → IsUnbegun old new journal libraries why → HasSameHistory old new journal
unbegun_keeps old new journal libraries why tells (Unopened of is so full keeps) = kept_same _ old new journal keeps
unbegun_keeps old new journal libraries why tells (Unbegun before o either opened closed unread) =
    same_history before (log_bytes old journal) (log_bytes new journal) (opened.history tells)
    (subst (HasHistory before) (sym (ap bytes_or_none closed.file)) (whole_history before closed.bytes closed.holds))

-- each file that was loaded is there
loaded_there : (room : RoomView) (before added : List Entry) (mark : Option (List Entry)) (loader : ℕ) (libraries : List Library) (results : List FileResult)
    → AreLibrariesLoaded room before added mark loader libraries results → (index : ℕ) (library : Library) → slice_get libraries index ≡ Some library
    → room.file library.file ≡ None → ⊥
loaded_there room before added mark _ _ _ (NoLibrary loader) index library named missing = cc
loaded_there room before added mark _ _ _ (OneLibrary loader ls rs l r one more) zero library named missing =
    let same : l ≡ library = some_same named in
    let both : Some one.bytes ≡ None = sym one.there ∙ (ap (λ (x : Library). room.file x.file) same ∙ missing) in cc
loaded_there room before added mark _ _ _ (OneLibrary loader ls rs l r one more) (suc index) library named missing =
    loaded_there room before added mark (loader + 1) ls rs more index library named missing

-- where a file isn't there, loading didn't begin
pub loading_keeps : (old new : RoomView) (journal : List ℕ) (libraries : List Library) (why : Fault) → old.tells ≡ true
    → IsLoadingFault old new journal libraries why → IsFileMissing libraries old → HasSameHistory old new journal
loading_keeps old new journal libraries why tells (NotBegun unbegun) gone = unbegun_keeps old new journal libraries why tells unbegun
loading_keeps old new journal libraries why tells (InPart part) gone =
    absurd (loaded_there old part.before part.added part.mark 0 libraries part.results part.loaded.files gone.index gone.library gone.named gone.missing)
