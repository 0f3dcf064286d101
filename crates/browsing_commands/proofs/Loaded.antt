-- What was loaded beside a reader.
use Rattle.std.proofs.Common.{◌≡◌, ◌∙◌, ℕ, ◌+◌, ◌≤◌, List, [], ◌++◌, length, Option, Result, Ok, Err, OnOk, IfOk, sym, ap, subst, arith, length-append, append-nil}
use Rattle.marc_types.specs.declared.copying.NoMemory.{NoMemory}
use Rattle.marc_types.specs.declared.entry.Entry.{Entry}
use Rattle.outside.specs.Room.{RoomView}
use Rattle.command_words.specs.declared.asked.LoadRequest.{LoadRequest}
use Rattle.durable_catalogue.specs.Views.{DurableView}
use Rattle.heading_rows.specs.declared.row.BrowsePage.{BrowsePage}
use Rattle.loader_workers.specs.declared.input.InputFile.{InputFile}
use Rattle.loader_workers.specs.declared.result.FileResult.{FileResult}
use Rattle.loading_commands.specs.Outcomes.{Reads}
use Rattle.browsing_commands.specs.Browsing.{HasPaged}
use Rattle.browsing_commands.specs.Pages.{ArePagesOf}

module _ {S : Type 0} (left : S → Option (List ℕ)) (faults : S → ℕ) (old : RoomView) (asked : LoadRequest) (d now : DurableView) (inputs after : List (InputFile S)) where
  -- a history grows
  longer : (results : Result (List FileResult) NoMemory) → Reads left faults old asked d inputs now after results → length d.entries ≤ length now.entries
  longer (Ok results) reads =
      let loaded = reads.loaded in
      let count = ap length loaded.after_is ∙ length-append d.entries loaded.added in omega (arith, count)
  longer (Err why) reads = let same = ap length reads.unbegun in omega (arith, same)

  module _ (results : Result (List FileResult) NoMemory) (reads : Reads left faults old asked d inputs now after results) (least : ℕ) (counted : least ≡ length d.entries)
      (told : Result Unit NoMemory) (taken : List Entry) (all : OnOk told (taken ≡ now.entries)) where
    -- what took all has taken no fewer than there were
    pub taken_more : OnOk told (least ≤ length taken)
    taken_more = decided told all
      where
        decided : (t : Result Unit NoMemory) → OnOk t (taken ≡ now.entries) → OnOk t (least ≤ length taken)
        decided (Ok value) same = let count = ap length same in let more = longer results reads in omega (arith, counted, count, more)
        decided (Err why) same = tt

    -- and its pages are those of what was loaded
    pub are_paged : (got : Result (List BrowsePage) NoMemory) → IfOk got (λ pages. (told ≡ Ok tt) × ArePagesOf least taken pages) → HasPaged now got
    are_paged (Ok pages) (ok, are) =
        let same : taken ≡ now.entries = subst (λ t. OnOk t (taken ≡ now.entries)) ok all in
        let count : least ≡ now.opened.opened = counted ∙ sym (ap (λ o. o.opened) reads.origin ∙ reads.begun.catalogue.opened) in
        subst (λ n. ArePagesOf n now.entries pages) count (subst (λ es. ArePagesOf least es pages) same are)
    are_paged (Err why) none = tt

-- a catalogue with nothing staged counts its history
pub counts_history : (count : ℕ) (history staged : List Entry) → count ≡ length (history ++ staged) → staged ≡ [] → count ≡ length history
counts_history count history staged is none = is ∙ (ap (λ s. length (history ++ s)) none ∙ ap length (append-nil history))
