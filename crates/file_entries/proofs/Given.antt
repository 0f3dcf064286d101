-- What a cut item comes to is what is given of it.
use Rattle.std.proofs.Common.{◌≡◌, ◌∙◌, ℕ, Bool, false, List, refl, subst, ap, None, Some}
use Rattle.marc_types.specs.declared.entry.Entry.{Entry}
use Rattle.marc_types.specs.declared.refusal.Refusal.{Refusal}
use Rattle.marc_stream.specs.Stream.{Stream}
use Rattle.marc_stream.specs.Next.{GivesPiece, GivesRefusal}
use Rattle.reading.specs.Reading.{IsReadAs}
use Rattle.reading.specs.Preparing.{IsRefusedInFile}
use Rattle.entry_record.specs.Admission.{admission_refusal}
use Rattle.entry_record.specs.Prepared.{new_entry}
use Rattle.file_entries.specs.Files.{NoPiece, NoEntry}
use Rattle.file_entries.specs.Entries.{FileView, view_of, GivesEntry, GivesRefused}

pub given_entry : (old : FileView) (pieces next : Stream) (library : List ℕ) (loader : ℕ) (over : Bool) (ordinal offset : ℕ) (bytes : List ℕ) (e : Entry)
    → view_of pieces library loader over ≡ old → old.over ≡ false → GivesPiece pieces next ordinal offset bytes
    → IsReadAs bytes e.rec.leader e.rec.fields → admission_refusal library e.rec.leader e.rec.fields ≡ None → e ≡ new_entry library loader ordinal e.rec
    → GivesEntry old (view_of next library loader over) e
given_entry old pieces next library loader over ordinal offset bytes e is going piece read taken entry =
    subst (λ (old : FileView). GivesEntry old (view_of next library loader over) e) is (record {
      item = record { ordinal = ordinal; offset = offset; bytes = bytes; refusal = None };
      answers = piece.answers;
      is = record { piece = refl; makes = record { read = read; taken = taken; is_new = entry } };
      over = ap (λ (old : FileView). old.over) is ∙ going;
    })

pub given_no_entry : (old : FileView) (pieces next : Stream) (library : List ℕ) (loader : ℕ) (over : Bool) (ordinal offset : ℕ) (bytes : List ℕ) (refusal : Refusal)
    → view_of pieces library loader over ≡ old → old.over ≡ false → GivesPiece pieces next ordinal offset bytes
    → IsRefusedInFile library bytes refusal
    → GivesRefused old (view_of next library loader over) (record { ordinal = ordinal; offset = offset; refusal = refusal })
given_no_entry old pieces next library loader over ordinal offset bytes refusal is going piece why =
    subst (λ (old : FileView). GivesRefused old (view_of next library loader over) (record { ordinal = ordinal; offset = offset; refusal = refusal })) is (record {
      item = record { ordinal = ordinal; offset = offset; bytes = bytes; refusal = None };
      answers = piece.answers;
      why = NoEntry refl why;
      listed_is = refl;
      over = ap (λ (old : FileView). old.over) is ∙ going;
    })

pub given_no_piece : (old : FileView) (pieces next : Stream) (library : List ℕ) (loader : ℕ) (over : Bool) (ordinal offset : ℕ) (refusal : Refusal)
    → view_of pieces library loader over ≡ old → old.over ≡ false → GivesRefusal pieces next ordinal offset refusal
    → GivesRefused old (view_of next library loader over) (record { ordinal = ordinal; offset = offset; refusal = refusal })
given_no_piece old pieces next library loader over ordinal offset refusal is going given =
    subst (λ (old : FileView). GivesRefused old (view_of next library loader over) (record { ordinal = ordinal; offset = offset; refusal = refusal })) is (record {
      item = record { ordinal = ordinal; offset = offset; bytes = given.bytes; refusal = Some refusal };
      answers = given.answers;
      why = NoPiece refl;
      listed_is = refl;
      over = ap (λ (old : FileView). old.over) is ∙ going;
    })
