-- Which entry bytes begin with.
use Rattle.std.proofs.Common.{◌≡◌, ◌∙◌, ℕ, ◌^◌, ◌<◌, ◌≤◌, true, false, List, [], ◌++◌, length, take, drop, Some, None, refl, sym, ap, subst, arith, length-append}
use Rattle.std.proofs.Math.Seq.{take-append_seam}
use Rattle.std.proofs.lemmas.List.{take-append-drop}
use Rattle.std.specs.Prelude.{nat_eq}
use Rattle.std.specs.Int.{w32, w64, to_be_bytes}
use Rattle.std.specs.Cmp.Lexicographic.{pointwise, same_text, other_text}
use Rattle.marc_types.specs.Valid.{is_code}
use Rattle.marc_types.specs.declared.field.Leader.{Leader}
use Rattle.marc_types.specs.declared.field.Field.{Field}
use Rattle.marc_types.specs.declared.entry.Entry.{Entry}
use Rattle.marc_types.specs.declared.refusal.Refusal.{Refusal}
use Rattle.iso2709_record.specs.Written.{record_length, record_bytes}
use Rattle.iso2709_record.proofs.Lengths.{length-record_bytes}
use Rattle.iso2709_record.proofs.Spelled.{parts_same}
use Rattle.reading.specs.Reading.{IsReadAs}
use Rattle.reading.specs.Preparing.{IsRefusedInFile, Unread, NotTaken}
use Rattle.reading.proofs.OneReading.{one_leader, one_fields, read_or_refused}
use Rattle.entry_record.specs.Admission.{admission_refusal}
use Rattle.entry_record.specs.Identity.{key_of}
use Rattle.entry_record.specs.History.{IsAdmitted, in_run}
use Rattle.entry_history.specs.Format.{entry_bytes}
use Rattle.entry_record.specs.Prepared.{new_entry}
use Rattle.entry_record.proofs.Admitted.{admitted_fits}
use Rattle.entry_record.proofs.Written.{fitting_length}
use Rattle.entry_history.specs.Payloads.{IsEntry}
use Rattle.entry_history.specs.Reading.{IsEntryHead, BeginWithNone, BeginWith, IsNotWritten, IsNoEntry}
use Rattle.entry_history.specs.declared.fault.EntryFault.{EntryFault}
use Rattle.entry_history.specs.declared.fault.EntryFault.TheVariants.{BadEntry, NoMemory}
use Rattle.entry_record.proofs.Spelled.{long_once, short_once}
use Rattle.entry_history.proofs.Spelled.{entry_parts}
use Rattle.entry_history.proofs.Format.{length_entry}

pub head_made : (bytes behind more written rest : List ℕ) (ordinal n : ℕ) → bytes ≡ to_be_bytes w64 ordinal ++ behind → behind ≡ to_be_bytes w32 n ++ more
    → written ≡ take n more → length written ≡ n → rest ≡ drop n more → ordinal < 2 ^ 64 → n < 2 ^ 32 → IsEntryHead bytes written ordinal
head_made bytes behind more written rest ordinal n first second front len back small short = record {
  behind = rest;
  ordinal_fits = small;
  length_fits = rw len short;
  split = first ∙ ap (λ xs. to_be_bytes w64 ordinal ++ xs) (second ∙ rw (len, front, back) (ap (λ xs. to_be_bytes w32 n ++ xs) (sym (take-append-drop n more))));
}

-- what bytes that begin with an entry must be
pub told : (bytes behind more : List ℕ) (ordinal n : ℕ) (e : Entry) (rest : List ℕ) → IsAdmitted e → e.ordinal < 2 ^ 64 → entry_bytes e ++ rest ≡ bytes
    → bytes ≡ to_be_bytes w64 ordinal ++ (to_be_bytes w32 n ++ more) → ordinal < 2 ^ 64 → n < 2 ^ 32
    → (e.ordinal ≡ ordinal) × (record_length e.rec.fields ≡ n) × (record_bytes e.rec.leader e.rec.fields ++ rest ≡ more)
told bytes behind more ordinal n e rest admitted fits is split small short =
    let ordinals = long_once e.ordinal ordinal _ _ fits small (sym (entry_parts e rest) ∙ is ∙ split) in
    let few = fitting_length e.rec.fields (admitted_fits e admitted) in
    let lengths = short_once (record_length e.rec.fields) n _ _ (omega arith) short ordinals.1 in
    (ordinals.0, lengths.0, lengths.1)

pub head_says : (bytes written : List ℕ) (ordinal : ℕ) (e : Entry) (rest : List ℕ) → IsEntryHead bytes written ordinal → IsAdmitted e → e.ordinal < 2 ^ 64
    → entry_bytes e ++ rest ≡ bytes → (e.ordinal ≡ ordinal) × (record_bytes e.rec.leader e.rec.fields ≡ written)
head_says bytes written ordinal e rest head admitted fits is =
    let t = told bytes [] (written ++ head.behind) ordinal (length written) e rest admitted fits is head.split head.ordinal_fits head.length_fits in
    let parts = parts_same (record_bytes e.rec.leader e.rec.fields) written rest head.behind (length-record_bytes e.rec.leader e.rec.fields ∙ t.1) t.2 in
    (t.0, parts.0)

pub entry_long : (e : Entry) (rest : List ℕ) → 12 ≤ length (entry_bytes e ++ rest)
entry_long e rest = omega (arith, length-append (entry_bytes e) rest, length_entry e)

pub no_ordinal : (bytes : List ℕ) → length bytes < 8 → BeginWithNone bytes
no_ordinal bytes short = λ e rest h is. omega (arith, ap length is, entry_long e rest)

pub no_length : (bytes behind : List ℕ) (ordinal : ℕ) → bytes ≡ to_be_bytes w64 ordinal ++ behind → length behind < 4 → BeginWithNone bytes
no_length bytes behind ordinal split short =
    λ e rest h is. omega (arith, ap length is, ap length split, length-append (to_be_bytes w64 ordinal) behind, entry_long e rest)

pub no_record : (bytes behind more : List ℕ) (ordinal n : ℕ) → bytes ≡ to_be_bytes w64 ordinal ++ behind → behind ≡ to_be_bytes w32 n ++ more
    → length more < n → ordinal < 2 ^ 64 → n < 2 ^ 32 → BeginWithNone bytes
no_record bytes behind more ordinal n first second short small fits =
    λ e rest h is.
    let t = told bytes [] more ordinal n e rest h.admitted h.ordinal_fits is (first ∙ ap (λ xs. to_be_bytes w64 ordinal ++ xs) second) small fits in
    omega (arith, t.1, ap length t.2, length-append (record_bytes e.rec.leader e.rec.fields) rest, length-record_bytes e.rec.leader e.rec.fields)

-- the one record that is written so
pub one_record : (written : List ℕ) (l : Leader) (fs : List Field) (e : Entry) → IsEntry e → record_bytes e.rec.leader e.rec.fields ≡ written
    → IsReadAs written l fs → (l ≡ e.rec.leader) × (fs ≡ e.rec.fields)
one_record written l fs e h is read =
    let again : IsReadAs written e.rec.leader e.rec.fields = subst (λ xs. IsReadAs xs e.rec.leader e.rec.fields) is h.reads in
    (one_leader written l e.rec.leader fs e.rec.fields read again, one_fields written l e.rec.leader fs e.rec.fields read again)

-- what is refused is no entry's record
pub refused_is_none : (library written : List ℕ) (refusal : Refusal) → IsRefusedInFile library written refusal
    → (e : Entry) → IsEntry e → e.library ≡ library → record_bytes e.rec.leader e.rec.fields ≡ written → ⊥
refused_is_none library written refusal (Unread refused) e h of_library is =
    read_or_refused written e.rec.leader e.rec.fields refusal (subst (λ xs. IsReadAs xs e.rec.leader e.rec.fields) is h.reads) refused
refused_is_none library written refusal (NotTaken rec read refused) e h of_library is =
    let same = one_record written rec.leader rec.fields e h is read in
    let taken : admission_refusal library e.rec.leader e.rec.fields ≡ None = subst (λ code. admission_refusal code e.rec.leader e.rec.fields ≡ None) of_library h.admitted.taken in
    let again : admission_refusal library e.rec.leader e.rec.fields ≡ Some refusal =
    ap (λ l. admission_refusal library l e.rec.fields) (sym same.0) ∙ ap (λ fs. admission_refusal library rec.leader fs) (sym same.1) ∙ refused in
    cc

same_bytes : (e f : Entry) → e.ordinal ≡ f.ordinal → e.rec.leader ≡ f.rec.leader → e.rec.fields ≡ f.rec.fields → entry_bytes e ≡ entry_bytes f
unfolding entry_bytes
same_bytes e f ordinal leader fields = λ i. to_be_bytes w64 (ordinal i) ++ to_be_bytes w32 (record_length (fields i)) ++ record_bytes (leader i) (fields i)

-- bytes that don't begin with what is written of the record that was read begin with no entry
pub not_begun : (run loader : ℕ) (library bytes written : List ℕ) (ordinal : ℕ) (made : Entry) → IsEntryHead bytes written ordinal
    → IsReadAs written made.rec.leader made.rec.fields → made.ordinal ≡ ordinal
    → pointwise nat_eq (take (length (entry_bytes made)) bytes) (entry_bytes made) ≡ false
    → (e : Entry) (rest : List ℕ) → BeginWith run loader library bytes e rest → ⊥
not_begun run loader library bytes written ordinal made head read its other e rest begin =
    let says = head_says bytes written ordinal e rest head begin.entry_is.admitted begin.entry_is.ordinal_fits begin.written in
    let record_is = one_record written made.rec.leader made.rec.fields e begin.entry_is says.1 read in
    let same : entry_bytes made ≡ entry_bytes e = same_bytes made e (its ∙ sym says.0) record_is.0 record_is.1 in
    let front : take (length (entry_bytes made)) bytes ≡ entry_bytes made =
    ap (take (length (entry_bytes made))) (sym begin.written)
    ∙ ap (λ xs. take (length xs) (entry_bytes e ++ rest)) same ∙ take-append_seam (entry_bytes e) rest ∙ sym same in
    other_text (take (length (entry_bytes made)) bytes) (entry_bytes made) (sym other) front

-- and bytes that do begin with the entry
pub begun : (run loader : ℕ) (library bytes written rest : List ℕ) (ordinal : ℕ) (made : Entry) → IsEntryHead bytes written ordinal
    → is_code library ≡ true → 1 ≤ ordinal → loader < 2 ^ 32 → run < 2 ^ 64 → IsReadAs written made.rec.leader made.rec.fields
    → admission_refusal library made.rec.leader made.rec.fields ≡ None → made ≡ new_entry library loader ordinal made.rec
    → pointwise nat_eq (take (length (entry_bytes made)) bytes) (entry_bytes made) ≡ true → rest ≡ drop (length (entry_bytes made)) bytes
    → BeginWith run loader library bytes (in_run run made) rest
begun run loader library bytes written rest ordinal made head code some loader_fits run_fits read taken is same back =
    let its : made.ordinal ≡ ordinal = ap (λ (e : Entry). e.ordinal) is in
    let from : made.library ≡ library = ap (λ (e : Entry). e.library) is in
    let by : made.loader ≡ loader = ap (λ (e : Entry). e.loader) is in
    let whole : entry_bytes made ++ rest ≡ bytes =
    ap (λ xs. xs ++ rest) (sym (same_text _ _ (sym same))) ∙ ap (λ xs. take (length (entry_bytes made)) bytes ++ xs) back ∙ take-append-drop (length (entry_bytes made)) bytes in
    let admitted : IsAdmitted (in_run run made) = record {
      ordinal = rw its some;
      library = rw from code;
      taken = rw from taken;
      class_is = ap (λ (e : Entry). e.class) is;
      key_is = ap (λ (e : Entry). e.key) is ∙ ap (λ code. key_of code made.rec.fields) (sym from);
    } in
    let ordinal_fits : made.ordinal < 2 ^ 64 = rw its head.ordinal_fits in
    let bytes_same : entry_bytes (in_run run made) ≡ entry_bytes made = same_bytes (in_run run made) made refl refl refl in
    let written_again : entry_bytes (in_run run made) ++ rest ≡ bytes = ap (λ xs. xs ++ rest) bytes_same ∙ whole in
    let says = head_says bytes written ordinal (in_run run made) rest head admitted ordinal_fits written_again in
    record {
      written = written_again;
      shared = record { run_is = refl; loader_is = by; library_is = from };
      entry_is = record {
        admitted = admitted;
        run_fits = run_fits;
        ordinal_fits = ordinal_fits;
        loader_fits = rw by loader_fits;
        reads = subst (λ xs. IsReadAs xs made.rec.leader made.rec.fields) (sym says.1) read;
      };
    }

pub not_written : (run loader : ℕ) (library bytes written : List ℕ) (ordinal : ℕ) (fault : EntryFault) → IsEntryHead bytes written ordinal
    → IsNotWritten library ordinal written fault → IsNoEntry run loader library bytes fault
not_written run loader library bytes written ordinal BadEntry head none = λ e rest begin.
    let says = head_says bytes written ordinal e rest head begin.entry_is.admitted begin.entry_is.ordinal_fits begin.written in
    none e begin.entry_is begin.shared.library_is says.0 says.1
not_written run loader library bytes written ordinal NoMemory head none = tt
