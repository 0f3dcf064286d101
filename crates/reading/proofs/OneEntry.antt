-- A piece of a file makes one entry, or is refused for one reason.
use Rattle.std.proofs.Common.{◌≡◌, ◌∙◌, ℕ, List, Some, None, sym, ap}
use Rattle.std.specs.Prelude.{IsTrue}
use Rattle.marc_types.specs.Valid.{is_record}
use Rattle.marc_types.specs.declared.entry.Entry.{Entry}
use Rattle.marc_types.specs.declared.record.Record.{Record}
use Rattle.marc_types.specs.declared.refusal.Refusal.{Refusal}
use Rattle.entry_record.specs.Admission.{admission_refusal}
use Rattle.entry_record.specs.Prepared.{new_entry}
use Rattle.reading.specs.Reading.{IsReadAs}
use Rattle.reading.specs.Preparing.{MakesEntry, IsRefusedInFile, Unread, NotTaken}
use Rattle.reading.proofs.OneReading.{one_leader, one_fields, read_or_refused, refused_as_once}
use denote.Struct.Props.{props}
use mathlib.Core.HLevel.{is_prop→PathP}

-- a record is its leader and its fields
same_record : (one other : Record) → one.leader ≡ other.leader → one.fields ≡ other.fields → one ≡ other
same_record one other l f = λ i. record {
  leader = l i;
  fields = f i;
  valid = is_prop→PathP (λ j. IsTrue (is_record (l j) (f j))) (λ j. hlevel props) one.valid other.valid i;
}

one_record : (bytes : List ℕ) (one other : Record) → IsReadAs bytes one.leader one.fields → IsReadAs bytes other.leader other.fields → one ≡ other
one_record bytes one other p q = same_record one other (one_leader bytes _ _ _ _ p q) (one_fields bytes _ _ _ _ p q)

pub one_entry : (library bytes : List ℕ) (loader ordinal : ℕ) (one other : Entry) → MakesEntry library bytes loader ordinal one
    → MakesEntry library bytes loader ordinal other → one ≡ other
one_entry library bytes loader ordinal one other p q =
    p.is_new ∙ ap (new_entry library loader ordinal) (one_record bytes one.rec other.rec p.read q.read) ∙ sym q.is_new

-- what is refused by admission has a refusal of its leader and fields, whichever record they stand in
refusal_of_record : (library bytes : List ℕ) (one other : Record) → IsReadAs bytes one.leader one.fields → IsReadAs bytes other.leader other.fields
    → admission_refusal library one.leader one.fields ≡ admission_refusal library other.leader other.fields
refusal_of_record library bytes one other p q =
    ap (λ (r : Record). admission_refusal library r.leader r.fields) (one_record bytes one other p q)

-- what makes an entry isn't refused
pub entry_or_refused : (library bytes : List ℕ) (loader ordinal : ℕ) (e : Entry) (refusal : Refusal) → MakesEntry library bytes loader ordinal e
    → IsRefusedInFile library bytes refusal → ⊥
entry_or_refused library bytes loader ordinal e refusal p (Unread why) = read_or_refused bytes _ _ refusal p.read why
entry_or_refused library bytes loader ordinal e refusal p (NotTaken rec read why) =
    let both : None ≡ Some refusal = sym p.taken ∙ refusal_of_record library bytes e.rec rec p.read read ∙ why in
    cc

-- one reason alone refuses a piece
pub refused_in_file_once : (library bytes : List ℕ) (one other : Refusal) → IsRefusedInFile library bytes one → IsRefusedInFile library bytes other → one ≡ other
refused_in_file_once library bytes one other (Unread p) (Unread q) = refused_as_once bytes one other p q
refused_in_file_once library bytes one other (Unread p) (NotTaken rec read q) = absurd (read_or_refused bytes _ _ one read p)
refused_in_file_once library bytes one other (NotTaken rec read p) (Unread q) = absurd (read_or_refused bytes _ _ other read q)
refused_in_file_once library bytes one other (NotTaken rec read p) (NotTaken rec' read' q) =
    let both : Some one ≡ Some other = sym p ∙ refusal_of_record library bytes rec rec' read read' ∙ q in
    cc
