-- What of a catalogue's entries outlasts its further calls.
use Rattle.std.proofs.Common.{◌≡◌, ◌⊎◌, inl, inr, ℕ, ◌+◌, ◌-◌, ◌≤◌, false, Bool, List, [], ◌++◌, length, take, Option, Some, is_some, sym, ap, subst, ◌∙◌, arith, append_assoc}
use Rattle.std.proofs.Math.Logic.{∥∥₁_map}
use Rattle.std.proofs.Math.Seq.{take-append-add}
use Rattle.std.proofs.lemmas.List.{append-nil}
use Rattle.marc_types.specs.declared.entry.Entry.{Entry}
use Rattle.marc_types.specs.declared.entry.CommitFault.{CommitFault}
use Rattle.marc_types.specs.declared.entry.CommitFault.TheVariants.{Full, NoMemory, DeviceFault, Broken}
use Rattle.outside.specs.Disk.{DiskView, LeavesOnly}
use Rattle.durable_catalogue.specs.Logs.{IsLogOf}
use Rattle.durable_catalogue.specs.Images.{Reaches, HasCommitOrNot}
use Rattle.durable_catalogue.specs.Durables.{is_taken, IsLostBy}
use Rattle.durable_catalogue.specs.Lasting.{BeginsWithEntries, StartsWith, GoesOn}
use Rattle.durable_catalogue.proofs.Keeping.{some_of}

-- an image of all entries, and maybe of marked ones, starts with the entries
pub reaches_starts : (entries more : List Entry) (image : List ℕ) → Reaches (length entries) entries more image → BeginsWithEntries entries image
reaches_starts entries more image r =
    let behind = r.count - length entries in
    let count : r.count ≡ length entries + behind = omega (arith, r.at_least) in
    record {
      more = take behind more;
      has = subst (λ es. IsLogOf es image) (ap (λ n. take n (entries ++ more)) count ∙ take-append-add entries more behind) r.has;
    }

-- what starts with more entries starts with the first of them
pub starts_before : (entries added now : List Entry) (image : List ℕ) → now ≡ entries ++ added → StartsWith now image → StartsWith entries image
starts_before entries added now image is starts = ∥∥₁_map starts (λ (f : BeginsWithEntries now image). record {
  more = added ++ f.more;
  has = subst (λ es. IsLogOf es image) (ap (λ es. es ++ f.more) is ∙ append_assoc entries added f.more) f.has;
})

either_starts : (entries more : List Entry) (image : List ℕ) → IsLogOf entries image ⊎ IsLogOf (entries ++ more) image → BeginsWithEntries entries image
either_starts entries more image (inl is) = record { more = []; has = subst (λ es. IsLogOf es image) (sym (append-nil entries)) is }
either_starts entries more image (inr is) = record { more = more; has = is }

-- nothing was called
pub stays_on : (tells : Bool) (entries : List Entry) (disk : DiskView) → GoesOn tells entries entries disk disk
stays_on tells entries disk = record {
  added = [];
  now_is = sym (append-nil entries);
  later = omega arith;
  since = λ t c told earlier left. inl left;
}

-- a frame was appended, or failed to be
pub goes_on : (tells : Bool) (entries added frame now : List Entry) (old new : DiskView) → is_some old.content ≡ tells → now ≡ entries ++ added → old.moment ≤ new.moment
    → ((log : List ℕ) → old.content ≡ Some log → LeavesOnly old new (HasCommitOrNot entries frame log)) → GoesOn tells entries now old new
goes_on tells entries added frame now old new tells_still is later leaves = record {
  added = added;
  now_is = is;
  later = later;
  since = λ t c told earlier left. let log = some_of old.content (tells_still ∙ told) in either log.0 c ((leaves log.0 log.1).since t c earlier left);
}
  where
    either : (log c : List ℕ) {P : Type 0} → P ⊎ HasCommitOrNot entries frame log c → P ⊎ StartsWith entries c
    either log c (inl was) = inl was
    either log c (inr is) = inr (∥∥₁_map is.history (either_starts entries frame c))

-- what was lost is not taken
pub lost_untaken : (fault : CommitFault) (end : Option CommitFault) (mark : Option (List Entry)) (frame : List Entry) → end ≡ Some fault → IsLostBy fault mark frame → is_taken end ≡ false
lost_untaken NoMemory end mark frame is lost = ap is_taken is
lost_untaken DeviceFault end mark frame is lost = ap is_taken is
lost_untaken Full end mark frame is lost = absurd lost
lost_untaken Broken end mark frame is lost = absurd lost
