-- Frames that come one by one: the entries of each are handed on, and behind the first whose payload isn't valid that one stays the first.
use Rattle.std.proofs.Common.{◌≡◌, ◌∙◌, ℕ, ◌↔◌, Bool, true, false, List, [], ◌∷◌, ◌++◌, length, Option, Some, None, is_some, refl, sym, ap, subst, arith, append_assoc, true≢false}
use Rattle.std.proofs.lemmas.List.{map-append}
use Rattle.marc_types.specs.declared.entry.Entry.{Entry}
use Rattle.marc_types.specs.declared.entry.Limits.{Limits}
use Rattle.outside.specs.Disk.{DiskView}
use Rattle.commit_journal.specs.declared.frame.Frame.{Frame}
use Rattle.commit_journal.specs.Log.{payloads_of}
use Rattle.commit_journal.specs.Taking.{IsTakenFrom}
use Rattle.entry_record.specs.History.{IsWithin}
use Rattle.entry_history.specs.Frames.{IsBadFrame}
use Rattle.entry_history.specs.Payloads.{Holds, IsHistory, NoMore}
use Rattle.entry_history.specs.Readers.{Counted, HasExtent}
use Rattle.durable_catalogue.specs.declared.fault.OpenFault.{OpenFault}
use Rattle.durable_catalogue.specs.declared.fault.OpenFault.TheVariants.{NotAJournal}
use Rattle.durable_catalogue.specs.declared.taking.Reading.{Reading}
use Rattle.durable_catalogue.specs.Loading.{IsUnreadBehind}
use Rattle.durable_catalogue.specs.Openings.{IsUnloaded}
use Rattle.durable_catalogue.specs.Taking.{WereTaken, HasLeft, AreAllHandedOn, AreHandedOn, ReadsPayload, TellsFit}
use Rattle.durable_catalogue.proofs.Histories.{one_behind}

pub none_came : (Has : List Entry → Type 0) (version : ℕ) (first : Option ℕ) (counter : Counted) → counter.version ≡ version → HasExtent [] counter.extent → Has []
    → AreAllHandedOn Has version first [] counter first
none_came Has version first counter named extent taken = record {
  entries = [];
  history = NoMore [];
  version_is = named;
  extent = extent;
  taken = taken;
  left_is = λ bytes left. left;
}

pub one_came : (Has Then : List Entry → Type 0) (version : ℕ) (first : Option ℕ) (frames : List Frame) (frame : Frame) (counter now : Counted) (left rest : Option ℕ) (items : List Entry)
    → AreAllHandedOn Has version first frames counter left → ReadsPayload counter items frame.payload now → now.version ≡ counter.version
    → ((before : List Entry) → Has before → Then (before ++ items)) → ((bytes : ℕ) (before : List Entry) → HasLeft bytes before left → HasLeft bytes (before ++ items) rest)
    → AreAllHandedOn Then version first (frames ++ frame ∷ []) now rest
one_came Has Then version first frames frame counter now left rest items t reads same taken less =
    let counts = reads t.entries t.extent in
    let more : payloads_of (frames ++ frame ∷ []) ≡ payloads_of frames ++ frame.payload ∷ [] = map-append (λ (f : Frame). f.payload) frames (frame ∷ []) in
    let holds : Holds version t.entries items frame.payload = subst (λ v. Holds v t.entries items frame.payload) t.version_is counts.holds in
    record {
      entries = t.entries ++ items;
      history = subst (λ ps. IsHistory version [] ps (t.entries ++ items)) (sym more) (one_behind version items frame.payload t.history holds);
      version_is = same ∙ t.version_is;
      extent = counts.extent;
      taken = taken t.entries t.taken;
      left_is = λ bytes has. less bytes t.entries (t.left_is bytes has);
    }

-- one whose payload isn't valid
pub one_bad : (Has : List Entry → Type 0) (version : ℕ) (first : Option ℕ) (frames : List Frame) (frame : Frame) (counter : Counted) (left : Option ℕ) (gate : ℕ)
    → AreAllHandedOn Has version first frames counter left → IsUnreadBehind counter frame (NotAJournal gate) → IsBadFrame version (frames ++ frame ∷ []) gate
one_bad Has version first frames frame counter left gate t unread =
    let why = unread t.entries t.extent in
    record {
      front = frames;
      bad = frame;
      behind = [];
      entries = t.entries;
      split = refl;
      history = t.history;
      invalid = λ more holds. why.1 more (subst (λ v. Holds v t.entries more frame.payload) (sym t.version_is) holds);
      at = why.0;
    }

longer : (version : ℕ) (frames : List Frame) (frame : Frame) (gate : ℕ) → IsBadFrame version frames gate → IsBadFrame version (frames ++ frame ∷ []) gate
longer version frames frame gate b = record {
  front = b.front;
  bad = b.bad;
  behind = b.behind ++ frame ∷ [];
  entries = b.entries;
  split = ap (λ fs. fs ++ frame ∷ []) b.split ∙ append_assoc b.front (b.bad ∷ b.behind) (frame ∷ []);
  history = b.history;
  invalid = b.invalid;
  at = b.at;
}

-- behind it that one stays the first
pub still_bad : (Has : List Entry → Type 0) (version : ℕ) (first : Option ℕ) (frames : List Frame) (frame : Frame) (counter : Counted) (left bad : Option ℕ) → is_some bad ≡ true
    → AreHandedOn Has version first frames counter left bad → AreHandedOn Has version first (frames ++ frame ∷ []) counter left bad
still_bad Has version first frames frame counter left None some t = absurd (true≢false (sym some))
still_bad Has version first frames frame counter left (Some gate) some b = longer version frames frame gate b

pub none_bad : (Has : List Entry → Type 0) (version : ℕ) (first : Option ℕ) (frames : List Frame) (counter : Counted) (left bad : Option ℕ) → is_some bad ≡ false
    → AreHandedOn Has version first frames counter left bad → AreAllHandedOn Has version first frames counter left
none_bad Has version first frames counter left None none t = t
none_bad Has version first frames counter left (Some gate) none b = absurd (true≢false none)

-- ---- all frames came

pub all_came : (Has : List Entry → Type 0) (limits : Limits) (version : ℕ) (frames : List Frame) (counter : Counted) (left bad : Option ℕ) (reading : Reading)
    → AreHandedOn Has version (Some limits.bytes) frames counter left bad → bad ≡ None → reading.last_run ≡ counter.extent.last_run
    → TellsFit limits left counter.extent.count reading.fits
    → WereTaken Has (IsHistory version [] (payloads_of frames)) limits reading
all_came Has limits version frames counter left bad reading known none last test =
    let t : AreAllHandedOn Has version (Some limits.bytes) frames counter left = subst (AreHandedOn Has version (Some limits.bytes) frames counter left) none known in
    record {
      entries = t.entries;
      history = t.history;
      taken = t.taken;
      last = last ∙ t.extent.last_is;
      fits_is = test t.entries (t.left_is limits.bytes (omega arith)) t.extent.count_is;
    }

pub bad_came : (Has : List Entry → Type 0) (version : ℕ) (first : Option ℕ) (frames : List Frame) (counter : Counted) (left bad : Option ℕ) (gate : ℕ)
    → AreHandedOn Has version first frames counter left bad → bad ≡ Some gate → IsBadFrame version frames gate
bad_came Has version first frames counter left bad gate known is = subst (AreHandedOn Has version first frames counter left) is known

-- what a test tells of so many entries
pub fits_told : (limits : Limits) (left : Option ℕ) (count told : ℕ) (fits : Bool) → told ≡ count
    → ((entries : List Entry) → HasLeft limits.bytes entries left → told ≡ length entries → (fits ≡ true) ↔ IsWithin limits entries) → TellsFit limits left count fits
fits_told limits left count told fits same test entries has is = test entries has (same ∙ is)

-- Of a log that was read by a taker of that name, which held one that is lent no more: what is left of it was behind the name.
module _ {T : Type 0} (Has : T → List Entry → Type 0) (behind lent : T) (first last : ℕ) (limits : Limits) (named version : ℕ) (counter : Counted) (left bad : Option ℕ) (place : ℕ) (disk : DiskView)
    (is_named : named ≡ version)
    (t : IsTakenFrom (λ frames. (last ≡ first) × AreHandedOn (Has behind) named (Some limits.bytes) frames counter left bad) place version disk) where
  pub made_of : (reading : Reading) → (first ≡ last → lent ≡ behind) → bad ≡ None → reading.last_run ≡ counter.extent.last_run
      → TellsFit limits left counter.extent.count reading.fits
      → WereTaken (Has lent) (IsHistory version [] (payloads_of t.frames)) limits reading
  made_of reading given none run test =
      subst (λ l. WereTaken (Has l) (IsHistory version [] (payloads_of t.frames)) limits reading) (sym (given (sym t.has.0)))
      (subst (λ v. WereTaken (Has behind) (IsHistory v [] (payloads_of t.frames)) limits reading) is_named
      (all_came (Has behind) limits named t.frames counter left bad reading t.has.1 none run test))

  -- one that is refused for a payload
  pub unloaded_of : (within : Limits) (fault : OpenFault) → (gate : ℕ) × (bad ≡ Some gate) × (fault ≡ NotAJournal gate) → IsUnloaded version t.frames within fault
  unloaded_of within fault is =
      subst (IsUnloaded version t.frames within) (sym is.2)
      (subst (λ v. IsBadFrame v t.frames is.0) is_named (bad_came (Has behind) named (Some limits.bytes) t.frames counter left bad is.0 t.has.1 is.1))
