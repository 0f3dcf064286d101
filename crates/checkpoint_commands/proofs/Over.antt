-- What a command over a journal and a log of checkpoints leaves, where the journal is opened first and closed last.
use Rattle.std.proofs.Common.{◌≡◌, ◌≢◌, ◌∙◌, ⊎_elim, ℕ, List, [], ◌∷◌, None, is_some, sym, ap, subst}
use Rattle.marc_types.specs.declared.entry.Entry.{Entry}
use Rattle.outside.specs.Room.{RoomView, IsNoneOf, SameBut, IsUntouched, bytes_or_none}
use Rattle.outside.proofs.Counts.{rose_later, rose_since}
use Rattle.outside.proofs.Disks.{same_disk_then}
use Rattle.outside.proofs.Rooms.{same_but_first, same_but_more, same_but_then}
use Rattle.commit_journal.specs.Journal.{LeavesLog}
use Rattle.durable_catalogue.specs.Logs.{HasHistory}
use Rattle.durable_catalogue.specs.Refused.{LeavesAlone}
use Rattle.durable_catalogue.specs.declared.fault.OpenFault.{OpenFault}
use Rattle.journal_files.specs.Journals as journals
use Rattle.journal_files.specs.Journals.{log_bytes, KeepsHistory}
use Rattle.outside.proofs.Closings.{none_or_closed}
use Rattle.checkpoint_commands.specs.PointLogs.{IsUntaken, IsPointLog}
use Rattle.checkpoint_commands.specs.Adding.{HasPointOrNone, HasNewPoint}
use Rattle.checkpoint_commands.specs.Refusals.{IsPointRefused}
use Rattle.checkpoint_commands.specs.Rooms.{PutsBehind, Unopened, Opened, IsPutBehind}

-- the journal is opened first and closed last, and between that other names are used
module _ (old opened mid closed : RoomView) (journal : List ℕ) (others : List (List ℕ)) (first : SameBut old opened (journal ∷ []))
    (second : SameBut opened mid others) (last : SameBut mid closed (journal ∷ [])) where
  pub apart_all : SameBut old closed (journal ∷ others)
  apart_all =
      same_but_then old opened closed (journal ∷ others) (same_but_first old opened journal others first)
      (same_but_then opened mid closed (journal ∷ others) (same_but_more opened mid others (journal ∷ others) (λ n other. other.1) second)
      (same_but_first mid closed journal others last))

  pub closed_all : ((name : List ℕ) → opened.open_as name ≡ None → mid.open_as name ≡ None) → closed.open_as journal ≡ None
      → ((name : List ℕ) → old.open_as name ≡ None) → (name : List ℕ) → closed.open_as name ≡ None
  closed_all amid at_journal free name =
      ⊎_elim (λ none. last.open_names name none ∙ amid name (first.open_names name none ∙ free name)) (λ is. is)
      (none_or_closed closed name (journal ∷ []) (at_journal, tt))

-- a name that nothing touched
pub untouched_but : (old new : RoomView) (journal point : List ℕ) → journal ≢ point → SameBut old new (journal ∷ []) → IsUntouched old new point
untouched_but old new journal point differ apart =
    let other : point ≢ journal = λ e. differ (sym e) in
    record { file = apart.files point (other, tt); is_log = apart.log_names point (other, tt); log = apart.logs point (other, tt) }

pub none_of_one : {journal point : List ℕ} → journal ≢ point → IsNoneOf point (journal ∷ [])
none_of_one differ = ((λ e. differ (sym e)), tt)

-- what is used before a name and behind it is none of it
module _ (names : List (List ℕ)) (point : List ℕ) (other : IsNoneOf point names) (old opened mid closed : RoomView) (first : SameBut old opened names)
    (last : SameBut mid closed names) where
  pub bytes_first : log_bytes opened point ≡ log_bytes old point
  bytes_first = ap bytes_or_none (first.files point other)

  pub bytes_last : log_bytes closed point ≡ log_bytes mid point
  bytes_last = ap bytes_or_none (last.files point other)

  untouched_across : IsUntouched opened mid point → IsUntouched old closed point
  untouched_across u = record {
    file = last.files point other ∙ u.file ∙ first.files point other;
    is_log = last.log_names point other ∙ u.is_log ∙ first.log_names point other;
    log = λ is.
        let then = first.log_names point other ∙ is in
        same_disk_then (old.log point) (opened.log point) (closed.log point) (first.logs point other is)
        (same_disk_then (opened.log point) (mid.log point) (closed.log point) (u.log then) (last.logs point other (u.is_log ∙ then)));
  }

  pub puts_across : (history : List Entry) → PutsBehind history opened mid point → PutsBehind history old closed point
  puts_across history (Unopened u) = Unopened (untouched_across u)
  puts_across history (Opened is_log images content unsynced) =
      let unchanged = (last.logs point other is_log).unchanged in
      let amid : (c : List ℕ) → HasPointOrNone history (log_bytes opened point) c → HasPointOrNone history (log_bytes old point) c =
      λ c has. subst (λ log. HasPointOrNone history log c) bytes_first has in
      Opened (last.log_names point other ∙ is_log)
      (λ s c synced left. amid c (images s c (sym (unchanged.syncs 0) ∙ synced) ((unchanged.lefts s c).0 left)))
      (subst (HasPointOrNone history (log_bytes old point)) (sym bytes_last) (amid (log_bytes mid point) content))
      (λ dated none. bytes_last ∙ unsynced (sym unchanged.dated ∙ dated) (sym (unchanged.syncs 0) ∙ none) ∙ bytes_first)

  pub put_across : (history : List Entry) → IsPutBehind history opened mid point → IsPutBehind history old closed point
  put_across history p =
      let unchanged = (last.logs point other p.is_log).unchanged in
      let has : (c : List ℕ) → HasNewPoint history (log_bytes opened point) c → HasNewPoint history (log_bytes old point) c =
      λ c new. subst (λ log. HasNewPoint history log c) bytes_first new in
      record {
        last = p.last;
        was = subst (IsPointLog p.last) bytes_first p.was;
        file = subst (HasNewPoint history (log_bytes old point)) (sym bytes_last) (has (log_bytes mid point) p.file);
        is_log = last.log_names point other ∙ p.is_log;
        images = λ c image. has c (p.images c ((unchanged.images c).0 image));
      }

  pub keeps_across : (failed : Type 0) → KeepsHistory failed opened mid point → KeepsHistory failed old closed point
  keeps_across failed (journals.Unopened u) = journals.Unopened (untouched_across u)
  keeps_across failed (journals.Opened c) =
      let unchanged = (last.logs point other c.is_log).unchanged in
      let was : (entries : List Entry) → HasHistory entries (log_bytes old point) → HasHistory entries (log_bytes opened point) =
      λ entries has. subst (HasHistory entries) (sym bytes_first) has in
      journals.Opened (record {
        is_log = last.log_names point other ∙ c.is_log;
        alone = subst (λ log. LeavesAlone failed log (log_bytes closed point)) bytes_first
            (subst (λ now. LeavesAlone failed (log_bytes opened point) now) (sym bytes_last) c.alone);
        history = λ entries has. subst (HasHistory entries) (sym bytes_last) (c.history entries (was entries has));
        images = λ s i synced left. subst (λ log. LeavesLog log i) bytes_first (c.images s i (sym (unchanged.syncs 0) ∙ synced) ((unchanged.lefts s i).0 left));
        image_history = λ entries s i has synced left.
            c.image_history entries s i (was entries has) (sym (unchanged.syncs 0) ∙ synced) ((unchanged.lefts s i).0 left);
        unsynced = λ dated none. bytes_last ∙ c.unsynced (sym unchanged.dated ∙ dated) (sym (unchanged.syncs 0) ∙ none) ∙ bytes_first;
        settled = λ no_fault synced i image.
            c.settled no_fault (λ dated. ap is_some (sym (unchanged.syncs 0)) ∙ synced (unchanged.dated ∙ dated)) i ((unchanged.images i).0 image) ∙ sym bytes_last;
      })

  pub refused_across : (why : OpenFault) → IsPointRefused opened mid point why → IsPointRefused old closed point why
  refused_across why r = record {
    so = λ tells. subst (λ log. IsUntaken log why) bytes_first (r.so (first.tells ∙ tells));
    kept = λ device memory tells. bytes_last ∙ r.kept device memory (first.tells ∙ tells) ∙ bytes_first;
    alone = λ device tells. keeps_across ⊥ (r.alone device (first.tells ∙ tells));
    cause = λ device.
        rose_later (old.log_faults point) (mid.log_faults point) (closed.log_faults point)
        (rose_since (old.log_faults point) (opened.log_faults point) (mid.log_faults point) (first.log_counts point) (r.cause device)) (last.log_counts point);
  }
