-- The entries with which a history begins, one after the other.
use Rattle.std.proofs.Common.{◌≡◌, ℕ, ◌+◌, ◌<◌, ◌≤◌, List, [], ◌∷◌, ◌++◌, length, take, drop, get_or, slice_get, Some, None, refl, sym, ap, subst, ◌∙◌, arith, length-append, take-append-drop}
use Rattle.std.specs.Prelude.{◌≢◌}
use Rattle.std.proofs.Math.Seq.{take-append_seam}
use Rattle.std.proofs.lemmas.List.{take_more, take_all, get_or_append_left}
use Rattle.std.proofs.lemmas.Option.{get_or_from_slice_get, slice_get_within, slice_get-get_or, none-some}
use Rattle.marc_types.specs.declared.entry.Entry.{Entry}
use Rattle.marc_types.specs.declared.entry.Limits.{Limits}
use Rattle.commit_journal.specs.declared.frame.Frame.{Frame}
use Rattle.commit_journal.specs.declared.version.Version.{Version}
use Rattle.commit_journal.specs.declared.version.Version.TheVariants.{One, Two}
use Rattle.commit_journal.specs.Versions.{number_of}
use Rattle.entry_record.specs.History.{IsWithin}
use Rattle.entry_history.specs.Payloads.{IsHistory}
use Rattle.entry_history.proofs.Histories.{history_once}
use Rattle.commit_journal.specs.Log.{payloads_of}
use Rattle.durable_catalogue.specs.declared.fault.OpenFault.{OpenFault}
use Rattle.durable_catalogue.specs.declared.fault.OpenFault.TheVariants as opening
use Rattle.durable_catalogue.specs.Openings.{IsUnread}
use Rattle.migrate_command.specs.Migrations.{Begins, AreWithin}
use Rattle.migrate_command.specs.declared.fault.MigrateFault.TheVariants.{DeviceFault}
use Rattle.migrate_command.specs.Faults.{migrate_opening}
use Rattle.migrate_command.specs.Fronts.{HoldsFront, HoldNoFront, MayGain}

-- the first so many are those of the history
pub record AreSame (history items : List Entry) (at : ℕ) : Type 0 where
  pub most : at ≤ length history
  pub same : take at items ≡ take at history

pub none_same : (history items : List Entry) → AreSame history items 0
none_same history items = record { most = omega arith; same = refl }

module _ (history items : List Entry) (at : ℕ) (so_far : AreSame history items at) where
  pub one_same : (item : Entry) → at < length items → item ≡ get_or items at item → slice_get history at ≡ Some item → AreSame history items (at + 1)
  one_same item within is there =
      let inside = slice_get_within history at item there in
      let both : get_or items at item ≡ get_or history at item = sym is ∙ sym (get_or_from_slice_get history at item item there) in
      record {
        most = omega (arith, inside);
        same = take_more items at item within ∙ ap (λ x. take at items ++ x ∷ []) both ∙ ap (λ xs. xs ++ get_or history at item ∷ []) so_far.same ∙ sym (take_more history at item inside);
      }

  pub all_same : length items ≤ at → Begins history items
  all_same whole = (drop at history, ap (λ xs. xs ++ drop at history) (sym (take_all at items whole) ∙ so_far.same) ∙ take-append-drop at history)

-- a history that has no such entry, or another there
pub ends_before : (history items : List Entry) (at : ℕ) (item : Entry) → at < length items → slice_get history at ≡ None → Begins history items → ⊥
ends_before history items at item within none begins =
    let long : at < length history = omega (arith, within, ap length begins.1, length-append items begins.0) in
    none-some (get_or history at item) (sym none ∙ slice_get-get_or history at item long)

pub has_other : (history items : List Entry) (at : ℕ) (e item : Entry) → at < length items → item ≡ get_or items at item → slice_get history at ≡ Some e
    → (e ≡ item → ⊥) → Begins history items → ⊥
has_other history items at e item within is there other begins =
    other (sym (get_or_from_slice_get history at e item there) ∙ ap (λ xs. get_or xs at item) (sym begins.1) ∙ get_or_append_left items begins.0 item at within ∙ sym is)

-- the entries of frames, with which a history begins
pub front_held : (version : ℕ) (frames : List Frame) (limits : Limits) (history items : List Entry) → IsHistory version [] (payloads_of frames) items
    → IsWithin limits history → IsWithin limits items → Begins history items → HoldsFront version frames limits history (length items)
front_held version frames limits history items holds old new begins = record {
  entries = items;
  holds = holds;
  within = record { old_within = old; new_within = new };
  front = sym (take-append_seam items begins.0) ∙ ap (λ xs. take (length items) xs) begins.1;
  most = omega (arith, ap length begins.1, length-append items begins.0);
}

pub front_most : (history items : List Entry) → Begins history items → length items ≤ length history
front_most history items begins = omega (arith, ap length begins.1, length-append items begins.0)

-- the entry there
pub there_is : (history : List Entry) (at : ℕ) (e item : Entry) → at < length history → e ≡ get_or history at e → e ≡ item → slice_get history at ≡ Some item
there_is history at e item within is same = slice_get-get_or history at e within ∙ ap Some (sym is ∙ same)

-- frames hold one front
pub front_is : (version : ℕ) (frames : List Frame) (limits : Limits) (history : List Entry) (count : ℕ) (entries : List Entry)
    → HoldsFront version frames limits history count → IsHistory version [] (payloads_of frames) entries → take count history ≡ entries
front_is version frames limits history count entries front held =
    sym front.front ∙ history_once version [] front.entries entries (payloads_of frames) front.holds held

-- and they may gain the rest
pub may_gain : (version : ℕ) (frames : List Frame) (limits : Limits) (history : List Entry) (count : ℕ) (entries : List Entry) → version ≡ 2
    → HoldsFront version frames limits history count → IsHistory version [] (payloads_of frames) entries → MayGain version limits history entries
may_gain version frames limits history count entries newest front held = record {
  newest = newest;
  within = subst (AreWithin limits history) (history_once version [] front.entries entries (payloads_of frames) front.holds held) front.within;
  begins = (
    drop count history,
    ap (λ xs. xs ++ drop count history) (sym (front_is version frames limits history count entries front held)) ∙ take-append-drop count history,
  );
}

-- a version that isn't the newest
pub not_newest : (version : Version) → version ≢ Two → number_of version ≢ 2
not_newest One other two = cc
not_newest Two other two = absurd (other refl)

-- why frames are not read, in a migration's words
pub no_front_unread : (version : ℕ) (frames : List Frame) (limits : Limits) (history : List Entry) (fault : OpenFault) → IsUnread version frames fault
    → HoldNoFront version frames limits history (migrate_opening fault)
no_front_unread version frames limits history opening.DeviceFault why = absurd why
no_front_unread version frames limits history (opening.NotAJournal place) why = why
no_front_unread version frames limits history opening.OldVersion why = absurd why
no_front_unread version frames limits history opening.Full why = absurd why
no_front_unread version frames limits history opening.NoMemory why = tt

pub not_device : (fault : OpenFault) → fault ≢ opening.DeviceFault → migrate_opening fault ≢ DeviceFault
not_device opening.DeviceFault other is = other refl
not_device (opening.NotAJournal place) other is = cc
not_device opening.OldVersion other is = cc
not_device opening.Full other is = cc
not_device opening.NoMemory other is = cc
