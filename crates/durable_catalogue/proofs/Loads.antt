-- The loading of a journal's frames.
use Rattle.std.proofs.Common.{◌≡◌, ℕ, ◌+◌, ◌<◌, ◌≤◌, true, false, ◌||◌, nat_lt, List, [], ◌∷◌, ◌++◌, length, take, drop, get_or, Option, Some, None, refl, sym, ap, subst, ◌∙◌, arith, append_assoc, length-append, take-append-drop}
use Rattle.std.proofs.lemmas.List.{append-nil, map-append, drop_more, take_more, take_all}
use Rattle.std.proofs.lemmas.List.Sums.{sum_by-append, sum_by-cons}
use Rattle.std.proofs.lemmas.Bool.Decides.{nat_tests}
use Rattle.marc_types.specs.declared.entry.Entry.{Entry}
use Rattle.marc_types.specs.declared.entry.Limits.{Limits}
use Rattle.commit_journal.specs.declared.frame.Frame.{Frame}
use Rattle.commit_journal.specs.declared.version.Version.{Version}
use Rattle.commit_journal.specs.declared.version.Version.TheVariants.{One}
use Rattle.commit_journal.specs.Versions.{number_of}
use Rattle.entry_record.specs.History.{entry_size, entries_size, last_run, IsWithin}
use Rattle.catalogue_core.specs.Catalogues.{Catalogued, is_full, IsDue, with_entry}
use Rattle.catalogue_core.specs.declared.catalogue.CoreFault.{CoreFault}
use Rattle.catalogue_core.specs.declared.catalogue.CoreFault.TheVariants as commit
use Rattle.entry_history.specs.Payloads.{Holds, IsHistory, NoMore}
use Rattle.entry_history.specs.Readers.{Taken, Takes}
use Rattle.durable_catalogue.specs.Loading.{IsUncommitted, IsBuilt, IsLoaded, IsCatalogueOf}
use Rattle.commit_journal.specs.Log.{payloads_of}
use Rattle.durable_catalogue.specs.Openings.{catalogue_of, IsUnloaded}
use Rattle.entry_history.specs.Frames.{IsBadFrame}
use Rattle.durable_catalogue.specs.declared.fault.OpenFault.TheVariants.{OldVersion, Full}
use Rattle.durable_catalogue.specs.declared.taking.Reading.{Reading}
use Rattle.durable_catalogue.specs.Taking.{WereTaken}
use Rattle.durable_catalogue.proofs.Histories.{one_behind, bounded_behind_none}

-- so many frames are read
pub record AreRead (version : ℕ) (frames : List Frame) (count : ℕ) (taken : Taken) : Type 0 where
  pub version_is : taken.version ≡ version
  pub history : IsHistory version [] (payloads_of (take count frames)) taken.entries

pub none_read : (version : ℕ) (frames : List Frame) → AreRead version frames 0 (record { version = version; entries = [] })
none_read version frames = record { version_is = refl; history = NoMore [] }

module _ (version : ℕ) (frames : List Frame) (count : ℕ) (frame : Frame) (within : count < length frames) (is : frame ≡ get_or frames count frame)
    (taken : Taken) (read : AreRead version frames count taken) where
  pub one_read : (payload : List ℕ) (now : Taken) → payload ≡ frame.payload → Takes taken payload now → AreRead version frames (count + 1) now
  one_read payload now same takes =
      let more : payloads_of (take (count + 1) frames) ≡ payloads_of (take count frames) ++ frame.payload ∷ [] =
      ap payloads_of (take_more frames count frame within ∙ ap (λ x. take count frames ++ x ∷ []) (sym is)) ∙ map-append (λ f. f.payload) (take count frames) (frame ∷ []) in
      let holds : Holds version taken.entries takes.entries frame.payload = subst (λ p. Holds version taken.entries takes.entries p) same (subst (λ v. Holds v taken.entries takes.entries payload) read.version_is takes.holds) in
      record {
        version_is = ap (λ t. t.version) takes.new_is ∙ read.version_is;
        history = subst (λ es. IsHistory version [] (payloads_of (take (count + 1) frames)) es) (sym (ap (λ t. t.entries) takes.new_is))
            (subst (λ ps. IsHistory version [] ps (taken.entries ++ takes.entries)) (sym more) (one_behind version takes.entries frame.payload read.history holds));
      }

  pub bad_frame : (payload : List ℕ) → payload ≡ frame.payload → ((entries : List Entry) → Holds taken.version taken.entries entries payload → ⊥) → IsBadFrame version frames frame.gate
  bad_frame payload same none = record {
    front = take count frames;
    bad = frame;
    behind = drop (count + 1) frames;
    entries = taken.entries;
    split = sym (take-append-drop count frames) ∙ ap (λ fs. take count frames ++ fs) (drop_more frames count frame within ∙ ap (λ x. x ∷ drop (count + 1) frames) (sym is));
    history = read.history;
    invalid = λ more holds. none more (subst (λ v. Holds v taken.entries more payload) (sym read.version_is) (subst (λ p. Holds version taken.entries more p) (sym same) holds));
    at = refl;
  }

pub all_read : (version : ℕ) (frames : List Frame) (count : ℕ) (taken : Taken) → length frames ≤ count → AreRead version frames count taken → IsHistory version [] (payloads_of frames) taken.entries
all_read version frames count taken whole read = subst (λ fs. IsHistory version [] (payloads_of fs) taken.entries) (take_all count frames whole) read.history

-- entries that are committed one behind the other
pub none_committed : (core : Catalogued) → core.staged ≡ [] → core ≡ catalogue_of core.limits (core.history ++ [])
none_committed core unstaged =
    ap (λ es. record core { staged = es }) unstaged ∙ ap (λ es. catalogue_of core.limits es) (sym (append-nil core.history))

pub one_committed : (limits : Limits) (before items : List Entry) (core now : Catalogued) (e : Entry) → core ≡ catalogue_of limits (before ++ items) → now ≡ with_entry core e
    → now ≡ catalogue_of limits (before ++ (items ++ e ∷ []))
one_committed limits before items core now e is adds =
    adds ∙ ap (λ c. with_entry c e) is ∙ ap (λ es. catalogue_of limits es) (append_assoc before items (e ∷ []))

size_behind : (xs ys : List Entry) → entries_size (xs ++ ys) ≡ entries_size xs + entries_size ys
size_behind xs ys = sum_by-append entry_size xs ys

size_first : (e : Entry) (es : List Entry) → entries_size (e ∷ es) ≡ entry_size e + entries_size es
size_first e es = sum_by-cons entry_size e es

test_of : (limits : Limits) (entries : List Entry) (core : Catalogued) (e : Entry) → core ≡ catalogue_of limits entries
    → is_full core e ≡ (nat_lt limits.entries (length entries + 1) || nat_lt limits.bytes (entries_size entries + entry_size e))
test_of limits entries core e is =
    ap (λ c. is_full c e) is ∙ ap (λ es. nat_lt limits.entries (length es + 1) || nat_lt limits.bytes (entries_size es + entry_size e)) (append-nil entries)

-- an entry that doesn't fit, whatever stands behind it
passed_with : (limits : Limits) (entries rest : List Entry) (core : Catalogued) (e : Entry) → core ≡ catalogue_of limits entries → is_full core e ≡ true
    → IsWithin limits (entries ++ e ∷ rest) → ⊥
passed_with limits entries rest core e is full fits =
    let count : length entries + 1 ≤ limits.entries = omega (arith, fits.count, length-append entries (e ∷ rest)) in
    let size : entries_size entries + entry_size e ≤ limits.bytes = omega (arith, fits.size, size_behind entries (e ∷ rest), size_first e rest) in
    let first : nat_lt limits.entries (length entries + 1) ≡ false = grind (arith, nat_tests) in
    let second : nat_lt limits.bytes (entries_size entries + entry_size e) ≡ false = grind (arith, nat_tests) in
    let none : (nat_lt limits.entries (length entries + 1) || nat_lt limits.bytes (entries_size entries + entry_size e)) ≡ false = rw (first, second) refl in
    let some = sym (test_of limits entries core e is) ∙ full in
    cc

-- an entry that is committed, or isn't
module _ (core : Catalogued) (e : Entry) (unstaged : core.staged ≡ []) where
  pub committed_one : (now : Catalogued) → now ≡ with_entry core e → now ≡ catalogue_of core.limits (core.history ++ e ∷ [])
  committed_one now adds = one_committed core.limits core.history [] core now e (none_committed core unstaged) adds

  pub uncommitted_one : (fault : CoreFault) → IsDue (is_full core e) fault → IsUncommitted core.limits (core.history ++ e ∷ []) fault
  uncommitted_one commit.Full full =
      passed_with core.limits core.history [] core e (none_committed core unstaged ∙ ap (λ es. catalogue_of core.limits es) (append-nil core.history)) full
  uncommitted_one commit.NoMemory room = tt

-- what is made of the entries that were taken
pub loaded_of : (IsThat : List Entry → Type 0) (limits begun now : Limits) (core : Option Catalogued) (reading : Reading) → begun ≡ limits
    → WereTaken (λ entries. (now ≡ begun) × IsBuilt now entries core) IsThat limits reading → IsLoaded IsThat limits core reading.last_run
loaded_of IsThat limits begun now core reading same taken = record {
  entries = taken.entries;
  history = taken.history;
  built = subst (λ l. IsBuilt l taken.entries core) (taken.taken.0 ∙ same) taken.taken.1;
  last = taken.last;
}

-- where a catalogue was made, it is of them
pub catalogue_made : (IsThat : List Entry → Type 0) (limits : Limits) (made : Option Catalogued) (core : Catalogued) (run : ℕ) → made ≡ Some core → IsLoaded IsThat limits made run
    → IsCatalogueOf IsThat limits core run
catalogue_made IsThat limits made core run is loaded =
    let built : IsBuilt limits loaded.entries (Some core) = subst (IsBuilt limits loaded.entries) is loaded.built in
    let same : core.history ≡ loaded.entries = ap (λ c. c.history) built.0 in
    record {
      history = subst IsThat (sym same) loaded.history;
      core_is = built.0 ∙ ap (λ es. catalogue_of limits es) (sym same);
      within = subst (IsWithin limits) (sym same) built.1;
      last = loaded.last ∙ ap (λ es. last_run es) (sym same);
    }

-- and where none was, they pass the limits
pub passed_made : (version : ℕ) (frames : List Frame) (limits : Limits) (made : Option Catalogued) (run : ℕ) → made ≡ None → IsLoaded (IsHistory version [] (payloads_of frames)) limits made run
    → IsUnloaded version frames limits Full
passed_made version frames limits made run is loaded = (loaded.entries, loaded.history, subst (IsBuilt limits loaded.entries) is loaded.built)

-- the runs of such a history are no greater than the number of its entries
pub bounded_catalogue : (payloads : List (List ℕ)) (limits : Limits) (core : Catalogued) (run : ℕ) → IsCatalogueOf (IsHistory 2 [] payloads) limits core run
    → last_run core.history ≤ length core.history
bounded_catalogue payloads limits core run is = bounded_behind_none 2 payloads core.history refl is.history

-- entries of version 1 are not loaded as those of the newest
pub old_unloaded : (Has : List Entry → Type 0) (version : Version) (frames : List Frame) (limits within : Limits) (reading : Reading) → version ≡ One
    → WereTaken Has (IsHistory (number_of version) [] (payloads_of frames)) within reading → IsUnloaded (number_of version) frames limits OldVersion
old_unloaded Has version frames limits within reading is taken =
    ((λ two. let one : number_of One ≡ 2 = ap number_of (sym is) ∙ two in absurd (omega (arith, one))), (taken.entries, taken.history))
