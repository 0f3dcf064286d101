-- The entries of frames are taken one behind the other.
use Rattle.std.proofs.Common.{◌≡◌, ◌∙◌, ℕ, ◌+◌, ◌<◌, ◌≤◌, ◌↔◌, Bool, true, List, [], ◌∷◌, ◌++◌, length, map, get_or, Option, Some, refl, sym, ap, subst, arith}
use Rattle.marc_types.specs.declared.entry.Entry.{Entry}
use Rattle.marc_types.specs.declared.entry.Limits.{Limits}
use Rattle.commit_journal.specs.declared.frame.Frame.{Frame}
use Rattle.entry_record.specs.History.{IsWithin}
use Rattle.entry_history.specs.Payloads.{Holds, IsHistory}
use Rattle.entry_history.specs.Readers.{Counted, HasExtent, CountsEntries}
use Rattle.durable_catalogue.specs.declared.fault.OpenFault.{OpenFault}
use Rattle.durable_catalogue.specs.declared.fault.OpenFault.TheVariants.{DeviceFault, NotAJournal, OldVersion, Full, NoMemory}
use Rattle.commit_journal.specs.Log.{payloads_of}
use Rattle.durable_catalogue.specs.Loading.{IsUnreadFrame}
use Rattle.durable_catalogue.specs.Openings.{IsUnread}
use Rattle.entry_history.specs.Frames.{IsBadFrame}
use Rattle.durable_catalogue.specs.Taking.{WereTaken, HasLeft}
use Rattle.durable_catalogue.proofs.Loads.{AreRead, none_read, one_read, bad_frame, all_read}

pub map_same : (xs : List Entry) → map (λ x. x) xs ≡ xs
map_same [] = refl
map_same (x ∷ xs) = ap (λ ys. x ∷ ys) (map_same xs)

-- the entries of so many frames were taken
pub record AreTaken (Has : List Entry → Type 0) (bytes version : ℕ) (frames : List Frame) (count : ℕ) (counter : Counted) (left : Option ℕ) : Type 0 where
  pub entries : List Entry
  pub read : AreRead version frames count (record { version = version; entries = entries })
  pub version_is : counter.version ≡ version
  pub extent : HasExtent entries counter.extent
  pub taken : Has entries
  pub left_is : HasLeft bytes entries left

pub none_taken : (Has : List Entry → Type 0) (bytes version : ℕ) (frames : List Frame) (counter : Counted) → counter.version ≡ version → HasExtent [] counter.extent → Has []
    → AreTaken Has bytes version frames 0 counter (Some bytes)
none_taken Has bytes version frames counter version_is extent taken = record {
  entries = [];
  read = none_read version frames;
  version_is = version_is;
  extent = extent;
  taken = taken;
  left_is = omega arith;
}

module _ (Has : List Entry → Type 0) (bytes version : ℕ) (frames : List Frame) (count : ℕ) (frame : Frame) (within : count < length frames) (is : frame ≡ get_or frames count frame)
    (counter : Counted) (left : Option ℕ) (t : AreTaken Has bytes version frames count counter left) where
  pub one_taken : (Then : List Entry → Type 0) (items : List Entry) (now : Counted) (rest : Option ℕ) (next : ℕ) → next ≡ count + 1 → CountsEntries counter t.entries items frame.payload now
      → now.version ≡ counter.version → ((before : List Entry) → Has before → Then (before ++ items))
      → ((b : ℕ) (before : List Entry) → HasLeft b before left → HasLeft b (before ++ items) rest) → AreTaken Then bytes version frames next now rest
  one_taken Then items now rest next more counts same taken less = record {
    entries = t.entries ++ items;
    read = subst (λ n. AreRead version frames n (record { version = version; entries = t.entries ++ items })) (sym more)
        (one_read version frames count frame within is (record { version = version; entries = t.entries }) t.read frame.payload
        (record { version = version; entries = t.entries ++ items }) refl
        (record { entries = items; holds = subst (λ v. Holds v t.entries items frame.payload) t.version_is counts.holds; new_is = refl }));
    version_is = same ∙ t.version_is;
    extent = counts.extent;
    taken = taken t.entries t.taken;
    left_is = less bytes t.entries t.left_is;
  }

  pub unread : (fault : OpenFault) → IsUnreadFrame counter.version t.entries frame fault → IsUnread version frames fault
  unread (NotAJournal place) h =
      subst (IsBadFrame version frames) h.0
      (bad_frame version frames count frame within is (record { version = version; entries = t.entries }) t.read frame.payload refl
      (λ entries holds. h.1 entries (subst (λ v. Holds v t.entries entries frame.payload) (sym t.version_is) holds)))
  unread NoMemory h = tt
  unread OldVersion h = h
  unread Full h = h
  unread DeviceFault h = h

pub all_taken : (Has : List Entry → Type 0) (version : ℕ) (frames : List Frame) (limits : Limits) (count : ℕ) (counter : Counted) (left : Option ℕ) (run : ℕ) (fits : Bool)
    → length frames ≤ count → (t : AreTaken Has limits.bytes version frames count counter left) → run ≡ counter.extent.last_run
    → ((entries : List Entry) → HasLeft limits.bytes entries left → counter.extent.count ≡ length entries → (fits ≡ true) ↔ IsWithin limits entries)
    → WereTaken Has (IsHistory version [] (payloads_of frames)) limits (record { last_run = run; fits = fits })
all_taken Has version frames limits count counter left run fits whole t last test = record {
  entries = t.entries;
  history = all_read version frames count (record { version = version; entries = t.entries }) whole t.read;
  taken = t.taken;
  last = last ∙ t.extent.last_is;
  fits_is = test t.entries t.left_is t.extent.count_is;
}
