-- How a log's history came into another, or why it didn't, from the steps that were taken.
use Rattle.std.proofs.Common.{◌≡◌, ◌≢◌, ◌∙◌, inl, inr, ℕ, true, List, [], ◌∷◌, length, Result, Ok, Err, OnOk, refl, sym, ap, subst, arith}
use Rattle.std.specs.Prelude.{IfOk, IfErr}
use Rattle.std.proofs.Math.Logic.{∥∥₁_elim, ∥∥₁_prop}
use Rattle.std.specs.Coded.{Coded-set, coded_ℕ}
use Rattle.marc_types.specs.declared.entry.Entry.{Entry}
use Rattle.outside.specs.Disk.{DiskView}
use Rattle.outside.specs.Fault.{Rose}
use Rattle.outside.specs.Room.{RoomView, SameBut, IsUntouched, bytes_or_none}
use Rattle.outside.proofs.Rooms.{same_but_none, same_but_then}
use Rattle.commit_journal.specs.Log.{version_of}
use Rattle.entry_record.specs.History.{IsWithin}
use Rattle.durable_catalogue.specs.Logs.{IsLogOf, HasHistory}
use Rattle.durable_catalogue.specs.Openings.{IsUnopened}
use Rattle.durable_catalogue.specs.declared.fault.OpenFault.{OpenFault}
use Rattle.durable_catalogue.specs.declared.fault.OpenFault.TheVariants as opening
use Rattle.durable_catalogue.proofs.Opened.{either_version}
use Rattle.console_lines.specs.declared.fault.Fault.{Fault}
use Rattle.console_lines.specs.declared.fault.Fault.TheVariants.{Device, OldVersion}
use Rattle.journal_files.specs.Faults.{fault_of_opening}
use Rattle.journal_files.specs.Journals as journals
use Rattle.journal_files.specs.Journals.{journal_limits, log_bytes, IsClosedDisk, KeepsHistory, KeepsLog, HasFittingHistory}
use Rattle.journal_files.proofs.Faults.{opening_device}
use Rattle.journal_files.proofs.Histories.{reading_once, fitting_history}
use Rattle.journal_files.proofs.Journals.{same_limits, closed_keeps, keeps_where, unopened_keeps}
use Rattle.migrate_command.specs.Migrations.{IsFit, IsUnfit, IsUnmigrated, IsBrought}
use Rattle.migrate_command.specs.Bringing as bringing
use Rattle.migrate_command.specs.Bringing.{IsBroughtInto, IsUnbrought, Refused, IsDeviceFaultOf, IsBroughtOver}
use Rattle.migrate_command.specs.Migrates.{BringsInto, Unopened, IsSettledLog, Untouched, HasInEachImage, NotOpened, Newest}
use Rattle.migrate_command.proofs.Endings.{ok_not_err, err_once}
use Rattle.migrate_command.proofs.Rooms.{bytes_first, bytes_last, brings_across, images_across, settled_across, keeps_across}
use mathlib.Core.HLevel.{⊥_prop}

-- entries that are within a room's limits, and these are theirs, are within those of the room behind a call
pub within_still : (old new : RoomView) (names : List (List ℕ)) (entries these : List Entry) → SameBut old new names → these ≡ entries
    → IsWithin (journal_limits old) entries → IsWithin (journal_limits new) these
within_still old new names entries these apart are within =
    subst (λ l. IsWithin l these) (sym (same_limits old new names apart)) (subst (IsWithin (journal_limits old)) (sym are) within)

-- the old log was not opened
module _ (from into : List ℕ) (differ : into ≢ from) (old opened : RoomView) (apart : SameBut old opened (from ∷ [])) where
  other_untouched : IsUntouched old opened into
  other_untouched = record {
    file = apart.files into (differ, tt);
    is_log = apart.log_names into (differ, tt);
    log = apart.logs into (differ, tt);
  }

  pub over_unopened : (reason : OpenFault) (result : Result ℕ Fault) → result ≡ Err (fault_of_opening reason) → reason ≢ opening.OldVersion
      → (old.tells ≡ true → IsUnopened (journal_limits old) (log_bytes old from) reason)
      → (old.tells ≡ true → KeepsHistory (reason ≡ opening.DeviceFault) old opened from)
      → (reason ≡ opening.DeviceFault → Rose (old.log_faults from) (opened.log_faults from)) → IsBroughtOver from into old opened result
  over_unopened reason result is current so keeps rose =
      let fault = fault_of_opening reason in
      record {
        keeps = λ tells. keeps_where (reason ≡ opening.DeviceFault) (IsDeviceFaultOf old opened from result) old opened from
            (λ device. (is ∙ ap (λ r. Err (fault_of_opening r)) device, rose device)) (keeps tells);
        brings = λ entries tells has. ∣ Unopened other_untouched ∣₁;
        alone = λ entries tells has unfit. journals.Unopened other_untouched;
        kept = λ why also other tells. ap bytes_or_none other_untouched.file;
        settled = λ why also other tells. Untouched other_untouched;
        refused = λ why also. inl (NotOpened reason current (err_once result why fault also is) so, apart);
        device = λ also. inl (rose (opening_device reason (err_once result fault Device is also)));
        history = λ count ok. absurd (ok_not_err result count fault ok is);
        version = λ count ok. absurd (ok_not_err result count fault ok is);
        fit = λ count entries ok. absurd (ok_not_err result count fault ok is);
        all = λ count entries ok. absurd (ok_not_err result count fault ok is);
        durable = λ count entries ok. absurd (ok_not_err result count fault ok is);
      }

-- it was opened, its history was brought into the new one or not, and it was closed again
module _ (from into : List ℕ) (differ : into ≢ from) (old opened brought closed : RoomView) (disk : DiskView) (history taken : List Entry) (version number : ℕ)
    (first : SameBut old opened (from ∷ [])) (second : SameBut opened brought (into ∷ [])) (last : SameBut brought closed (from ∷ []))
    (same : history ≡ taken) (took : old.tells ≡ true → HasHistory taken (log_bytes old from)) (fitting : IsWithin (journal_limits old) taken)
    (is_number : version ≡ number) (numbered : old.tells ≡ true → version_of (log_bytes old from) ≡ number)
    (kept : old.tells ≡ true → KeepsLog (log_bytes old from) disk) (log : brought.tells ≡ true → IsClosedDisk disk closed from)
    (brings : (was : List ℕ) → opened.tells ≡ true → HasHistory history was → BringsInto history opened brought into) where
  has : old.tells ≡ true → HasHistory history (log_bytes old from)
  has tells = subst (λ es. HasHistory es (log_bytes old from)) (sym same) (took tells)

  named : old.tells ≡ true → version_of (log_bytes old from) ≡ version
  named tells = numbered tells ∙ sym is_number

  within : IsWithin (journal_limits old) history
  within = subst (IsWithin (journal_limits old)) (sym same) fitting

  first_limits : journal_limits opened ≡ journal_limits old
  first_limits = same_limits old opened (from ∷ []) first

  first_bytes : log_bytes opened into ≡ log_bytes old into
  first_bytes = bytes_first history old opened brought closed from into differ first last

  -- any history of the old log is this one
  of_any : (entries : List Entry) (P : List Entry → Type 0) → old.tells ≡ true → HasHistory entries (log_bytes old from) → P history → ∥ P entries ∥₁
  of_any entries P tells also so =
      ∥∥₁_elim also ∥∥₁_prop (λ (is : IsLogOf entries (log_bytes old from)). ∥∥₁_elim (has tells) ∥∥₁_prop (λ (too : IsLogOf history (log_bytes old from)).
      ∣ subst P (reading_once history entries (log_bytes old from) too is) so ∣₁))

  -- what isn't fit for any history of the old log isn't for this one
  unfit_any : (entries : List Entry) (log : List ℕ) → old.tells ≡ true → HasHistory entries (log_bytes old from)
      → IsUnfit (journal_limits old) entries log → IsUnfit (journal_limits old) history log
  unfit_any entries log tells also none front fit =
      ∥∥₁_elim (of_any entries (λ es. IsFit (journal_limits old) es front log) tells also fit) ⊥_prop
      (λ (it : IsFit (journal_limits old) entries front log). none front it)

  -- what the new log is fit for once the old one is opened it was fit for before
  fit_first : (front : List Entry) → IsFit (journal_limits opened) history front (log_bytes opened into) → IsFit (journal_limits old) history front (log_bytes old into)
  fit_first front fit =
      subst (λ l. IsFit (journal_limits old) history front l) first_bytes (subst (λ l. IsFit l history front (log_bytes opened into)) first_limits fit)

  unfit_first : IsUnfit (journal_limits old) history (log_bytes old into) → IsUnfit (journal_limits opened) history (log_bytes opened into)
  unfit_first none front fit = none front (fit_first front fit)

  -- what has this history has any that the old log has
  has_any : (entries : List Entry) (bytes : List ℕ) → old.tells ≡ true → HasHistory entries (log_bytes old from) → HasHistory history bytes → HasHistory entries bytes
  has_any entries bytes tells also so =
      ∥∥₁_elim (of_any entries (λ es. HasHistory es bytes) tells also so) ∥∥₁_prop (λ (it : HasHistory entries bytes). it)

  brought_any : (entries : List Entry) (bytes : List ℕ) → old.tells ≡ true → HasHistory entries (log_bytes old from) → IsBrought history bytes
      → IsBrought entries bytes
  brought_any entries bytes tells also so = record { has = has_any entries bytes tells also so.has; newest = so.newest; ended = so.ended }

  -- and that is one that fits
  fits : old.tells ≡ true → HasFittingHistory old (log_bytes old from)
  fits tells = fitting_history old history (log_bytes old from) (has tells) within

  keeps_opened : (failed : Type 0) → old.tells ≡ true → KeepsHistory failed old closed from
  keeps_opened failed tells =
      let now = second.tells ∙ first.tells ∙ tells in
      closed_keeps old closed from disk (log now) failed (kept tells)

  brings_opened : (entries : List Entry) → old.tells ≡ true → HasHistory entries (log_bytes old from) → ∥ BringsInto entries old closed into ∥₁
  brings_opened entries tells also =
      of_any entries (λ es. BringsInto es old closed into) tells also
      (brings_across history old opened brought closed from into differ first last (brings (log_bytes old from) (first.tells ∙ tells) (has tells)))

  over_brought : (count : ℕ) (result : Result ℕ Fault) → result ≡ Ok count → count ≡ length history → IsBroughtInto history version opened brought into
      → IsBroughtOver from into old closed result
  over_brought count result is number b = record {
    keeps = keeps_opened (IsDeviceFaultOf old closed from result);
    brings = brings_opened;
    alone = λ entries tells also none.
        let f = b.taken.fit (first.tells ∙ tells) in
        absurd (unfit_any entries (log_bytes old into) tells also none f.0 (fit_first f.0 f.1));
    kept = λ why err. absurd (ok_not_err result count why is err);
    settled = λ why err. absurd (ok_not_err result count why is err);
    refused = λ why err. absurd (ok_not_err result count why is err);
    device = λ err. absurd (ok_not_err result count Device is err);
    history = λ n ok. fits;
    version = λ n ok tells. named tells ∙ b.oldest;
    fit = λ n entries ok tells also.
        let f = b.taken.fit (first.tells ∙ tells) in
        of_any entries (λ es. (front : List Entry) × IsFit (journal_limits old) es front (log_bytes old into)) tells also (f.0, fit_first f.0 f.1);
    all = λ n entries ok tells also. (counted n entries ok tells also, all_brought entries tells also);
    durable = λ n entries ok tells also.
        let left = images_brought tells in record {
          is_log = left.is_log;
          images = λ c image. brought_any entries c tells also (left.images c image);
        };
  }
    where
      counted : (n : ℕ) (entries : List Entry) → result ≡ Ok n → old.tells ≡ true → HasHistory entries (log_bytes old from) → n ≡ length entries
      counted n entries ok tells also =
          let both : Ok n ≡ Ok count = sym ok ∙ is in
          let same : n ≡ count = cc in
          let sized : length history ≡ length entries =
          ∥∥₁_elim also (Coded-set coded_ℕ _ _) (λ (it : IsLogOf entries (log_bytes old from)). ∥∥₁_elim (has tells) (Coded-set coded_ℕ _ _)
          (λ (too : IsLogOf history (log_bytes old from)). ap length (reading_once history entries (log_bytes old from) too it))) in
          same ∙ number ∙ sized

      all_brought : (entries : List Entry) → old.tells ≡ true → HasHistory entries (log_bytes old from) → IsBrought entries (log_bytes closed into)
      all_brought entries tells also =
          let now = b.taken.all (log_bytes old from) (first.tells ∙ tells) (has tells) in
          brought_any entries (log_bytes closed into) tells also
          (subst (λ bytes. IsBrought history bytes) (sym (bytes_last history old opened brought closed from into differ first last)) now)

      images_brought : old.tells ≡ true → HasInEachImage history closed into
      images_brought tells =
          images_across history old opened brought closed from into differ first last (b.taken.durable (log_bytes old from) (first.tells ∙ tells) (has tells))

  still : (why : Fault) (result : Result ℕ Fault) → result ≡ Err why → (why ≢ Device → opened.tells ≡ true → log_bytes brought into ≡ log_bytes opened into)
      → (w : Fault) → result ≡ Err w → w ≢ Device → old.tells ≡ true → log_bytes closed into ≡ log_bytes old into
  still why result is kept w err other tells =
      bytes_last history old opened brought closed from into differ first last
      ∙ kept (λ device. other (err_once result w why err is ∙ device)) (first.tells ∙ tells) ∙ first_bytes

  settled_still : (why : Fault) (result : Result ℕ Fault) → result ≡ Err why → (why ≢ Device → opened.tells ≡ true → IsSettledLog opened brought into)
      → (w : Fault) → result ≡ Err w → w ≢ Device → old.tells ≡ true → IsSettledLog old closed into
  settled_still why result is settled w err other tells =
      settled_across history old opened brought closed from into differ first last
      (settled (λ device. other (err_once result w why err is ∙ device)) (first.tells ∙ tells))

  over_unbrought : (why : Fault) (result : Result ℕ Fault) → result ≡ Err why → (why ≢ Device → opened.tells ≡ true → log_bytes brought into ≡ log_bytes opened into)
      → (why ≢ Device → opened.tells ≡ true → IsSettledLog opened brought into) → IsUnbrought history version opened brought into why → IsBroughtOver from into old closed result
  over_unbrought why result is unchanged settled (bringing.Newest newest other stays) = record {
    keeps = keeps_opened (IsDeviceFaultOf old closed from result);
    brings = brings_opened;
    alone = λ entries tells also none.
        let failed = IsDeviceFaultOf old closed into result in
        keeps_across history old opened brought closed from into differ first last failed (unopened_keeps failed opened brought into stays);
    kept = still why result is unchanged;
    settled = settled_still why result is settled;
    refused = λ w err. inl (Newest (err_once result w why err is ∙ newest) (λ tells. (two tells, fits tells)), apart);
    device = λ err. let device : why ≡ Device = err_once result why Device is err in let never : OldVersion ≡ Device = sym newest ∙ device in cc;
    history = λ count ok. absurd (ok_not_err result count why ok is);
    version = λ count ok. absurd (ok_not_err result count why ok is);
    fit = λ count entries ok. absurd (ok_not_err result count why ok is);
    all = λ count entries ok. absurd (ok_not_err result count why ok is);
    durable = λ count entries ok. absurd (ok_not_err result count why ok is);
  }
    where
      two : old.tells ≡ true → version_of (log_bytes old from) ≡ 2
      two tells =
          let either = either_version (log_bytes old from) in
          let no : version_of (log_bytes old from) ≢ 1 = λ one. other (sym (named tells) ∙ one) in
          omega (arith, either.first, either.last, no)

      apart : SameBut old closed (from ∷ [])
      apart = same_but_then old opened closed (from ∷ []) first (same_but_then opened brought closed (from ∷ []) (same_but_none opened brought (from ∷ []) stays) last)
  over_unbrought why result is unchanged settled (Refused oldest t) = record {
    keeps = keeps_opened (IsDeviceFaultOf old closed from result);
    brings = brings_opened;
    alone = λ entries tells also none.
        keeps_where (why ≡ Device) (IsDeviceFaultOf old closed into result) old closed into (λ device. (is ∙ ap Err device, risen device))
        (keeps_across history old opened brought closed from into differ first last (why ≡ Device)
        (t.alone (log_bytes old from) (first.tells ∙ tells) (has tells) (unfit_first (unfit_any entries (log_bytes old into) tells also none))));
    kept = still why result is unchanged;
    settled = settled_still why result is settled;
    refused = λ w err. inr (record {
      reason = t.reason;
      is = err_once result w why err is ∙ t.is;
      oldest = λ tells. named tells ∙ oldest;
      history = fits;
      so = λ tells. (
        history,
        has tells,
        subst (λ l. IsUnmigrated (journal_limits old) history l t.reason) first_bytes
            (subst (λ l. IsUnmigrated l history (log_bytes opened into) t.reason) first_limits (t.so (first.tells ∙ tells))),
      );
    });
    device = λ err. inr (risen (err_once result why Device is err));
    history = λ count ok. absurd (ok_not_err result count why ok is);
    version = λ count ok. absurd (ok_not_err result count why ok is);
    fit = λ count entries ok. absurd (ok_not_err result count why ok is);
    all = λ count entries ok. absurd (ok_not_err result count why ok is);
    durable = λ count entries ok. absurd (ok_not_err result count why ok is);
  }
    where
      risen : why ≡ Device → Rose (old.log_faults into) (closed.log_faults into)
      risen device =
          let rises = t.rose device in
          let before = first.log_counts into in
          let behind = last.log_counts into in
          omega (arith, rises, before, behind)

  pub over_either : (result : Result ℕ Fault) → IfOk result (λ count. count ≡ length history) → OnOk result (IsBroughtInto history version opened brought into)
      → IfErr result (IsUnbrought history version opened brought into)
      → IfErr result (λ fault. fault ≢ Device → opened.tells ≡ true → log_bytes brought into ≡ log_bytes opened into)
      → IfErr result (λ fault. fault ≢ Device → opened.tells ≡ true → IsSettledLog opened brought into) → IsBroughtOver from into old closed result
  over_either (Ok count) number it why unchanged settled = over_brought count (Ok count) refl number it
  over_either (Err fault) number it why unchanged settled = over_unbrought fault (Err fault) refl unchanged settled why
