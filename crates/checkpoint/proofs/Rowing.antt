-- Which kept records bytes begin with, and which they are.
use Rattle.std.proofs.Common.{◌≡◌, ◌∙◌, ℕ, ◌^◌, ◌<◌, ◌≤◌, true, false, List, [], ◌∷◌, ◌++◌, length, refl, sym, ap, subst, arith, length-append}
use Rattle.std.proofs.lemmas.Bool.{both_ways}
use Rattle.std.proofs.lemmas.List.{append-nil}
use Rattle.std.specs.List.{flat_map}
use Rattle.marc_types.specs.declared.key.Class.{Class}
use Rattle.marc_types.specs.declared.key.Key.{Key}
use Rattle.marc_types.specs.declared.record.Record.{Record}
use Rattle.marc_types.specs.declared.refusal.Refusal.{Refusal}
use Rattle.iso2709_record.specs.Written.{record_bytes, fits}
use Rattle.reading.specs.Reading.{IsReadAs, IsRefusedAs}
use Rattle.reading.proofs.OneReading.{one_leader, one_fields, read_or_refused}
use Rattle.entry_record.specs.Authority.{is_valid_key}
use Rattle.entry_record.specs.Identity.{control_number_of}
use Rattle.kept_rows.specs.declared.row.KeptRow.{KeptRow}
use Rattle.checkpoint.specs.Format.{class_byte, coded, sized, head_bytes, tie_bytes, row_bytes}
use Rattle.checkpoint.specs.Parts.{IsProperKey, IsKeptRow}
use Rattle.checkpoint.specs.Fronts.{BeginWith, BeginWithNone, IsNoFront}
use Rattle.checkpoint.specs.Reading.{AreNotCoded, AreNotSized, ties_bytes, AreProperTies, HaveHead, HaveNoHead, IsWrittenOf, IsOfNoRecord, IsNoKey, AreRows, AreNoRows}
use Rattle.checkpoint.specs.declared.fault.PartFault.{PartFault}
use Rattle.checkpoint.specs.declared.fault.PartFault.TheVariants.{BadPart, NoMemory}
use Rattle.entry_record.proofs.Spelled.{record_is}
use Rattle.checkpoint.proofs.Once.{cons_first, cons_others, coded_once, head_parts, head_once, written_small, row_parts, row_spelled, row_some}
use Rattle.checkpoint.proofs.Lists.{AreRead, NoneEnds, none_read, one_more, none_more}

-- bytes that have no head
pub no_class_there : (bytes : List ℕ) → length bytes ≡ 0 → HaveNoHead bytes
no_class_there bytes none = λ class code written rest h. omega (arith, none, ap length (sym (head_parts class code written rest) ∙ h.split))

pub no_such_class : (bytes behind : List ℕ) (byte : ℕ) → bytes ≡ byte ∷ behind → ((class : Class) → class_byte class ≡ byte → ⊥) → HaveNoHead bytes
no_such_class bytes behind byte is none = λ class code written rest h.
    none class (cons_first _ _ _ _ (sym (head_parts class code written rest) ∙ h.split ∙ is))

pub no_code_there : (bytes behind : List ℕ) (byte : ℕ) → bytes ≡ byte ∷ behind → AreNotCoded behind → HaveNoHead bytes
no_code_there bytes behind byte is none = λ class code written rest h.
    none code (sized written ++ rest) (cons_others _ _ _ _ (sym (head_parts class code written rest) ∙ h.split ∙ is))

pub no_record_there : (bytes behind code last : List ℕ) (byte : ℕ) → bytes ≡ byte ∷ behind → coded code ++ last ≡ behind → AreNotSized last → HaveNoHead bytes
no_record_there bytes behind code last byte is found none = λ class other written rest h.
    let same = cons_others _ _ _ _ (sym (head_parts class other written rest) ∙ h.split ∙ is) in
    none written rest h.length_fits (coded_once other code _ _ (same ∙ sym found)).1

pub head_there : (bytes behind code last written rest : List ℕ) (byte : ℕ) (class : Class) → bytes ≡ byte ∷ behind → class_byte class ≡ byte
    → coded code ++ last ≡ behind → sized written ++ rest ≡ last → length written < 2 ^ 32 → HaveHead bytes class code written rest
head_there bytes behind code last written rest byte class is named found sized_is small = record {
  split =
      head_parts class code written rest
      ∙ ap (λ xs. class_byte class ∷ (coded code ++ xs)) sized_is
      ∙ ap (λ xs. class_byte class ∷ xs) found
      ∙ ap (λ b. b ∷ behind) named
      ∙ sym is;
  length_fits = small;
}

-- the one record that is written so
one_record : (written : List ℕ) (r s : Record) → IsReadAs written r.leader r.fields → IsWrittenOf written s → r ≡ s
one_record written r s read is =
    let again = subst (λ xs. IsReadAs xs s.leader s.fields) is.bytes is.writable.reads in
    record_is r s (one_leader written r.leader s.leader r.fields s.fields read again) (one_fields written r.leader s.leader r.fields s.fields read again)

pub refused_record : (written : List ℕ) (refusal : Refusal) → IsRefusedAs written refusal → IsOfNoRecord written BadPart
refused_record written refusal refused = λ rec is.
    read_or_refused written rec.leader rec.fields refusal (subst (λ xs. IsReadAs xs rec.leader rec.fields) is.bytes is.writable.reads) refused

pub unfit_record : (written : List ℕ) (r : Record) → IsReadAs written r.leader r.fields → fits r.fields ≡ false → IsOfNoRecord written BadPart
unfit_record written r read unfit = λ rec is.
    both_ways _ (ap (λ (s : Record). fits s.fields) (sym (one_record written r rec read is)) ∙ unfit) is.writable.fitting

pub otherwise_written : (written : List ℕ) (r : Record) → IsReadAs written r.leader r.fields → (record_bytes r.leader r.fields ≡ written → ⊥) → IsOfNoRecord written BadPart
otherwise_written written r read other = λ rec is.
    other (ap (λ (s : Record). record_bytes s.leader s.fields) (one_record written r rec read is) ∙ is.bytes)

pub record_there : (written : List ℕ) (r : Record) → IsReadAs written r.leader r.fields → fits r.fields ≡ true → record_bytes r.leader r.fields ≡ written
    → IsWrittenOf written r
record_there written r read fit is = record {
  bytes = is;
  writable = record { fitting = fit; reads = subst (λ xs. IsReadAs xs r.leader r.fields) (sym is) read };
}

-- what a kept record at the front of bytes says of their head
record Says (r : KeptRow) (rest : List ℕ) (class : Class) (code written behind : List ℕ) : Type 0 where
  pub class_is : r.class ≡ class
  pub code_is : r.key.code ≡ code
  pub written_is : IsWrittenOf written r.rec
  pub behind_is : flat_map tie_bytes r.ties ++ rest ≡ behind

told : (bytes : List ℕ) (class : Class) (code written behind : List ℕ) (r : KeptRow) (rest : List ℕ) → HaveHead bytes class code written behind
    → BeginWith row_bytes IsKeptRow bytes r rest → Says r rest class code written behind
told bytes class code written behind r rest head begin =
    let heads = head_once r.class class r.key.code (record_bytes r.rec.leader r.rec.fields) (flat_map tie_bytes r.ties ++ rest) code written behind
    (written_small r.rec begin.can.writable) head.length_fits (sym (row_parts r rest) ∙ begin.split ∙ sym head.split) in
    record { class_is = heads.0; code_is = heads.1; written_is = record { bytes = heads.2; writable = begin.can.writable }; behind_is = heads.3 }

pub no_head : (bytes : List ℕ) → HaveNoHead bytes → BeginWithNone row_bytes IsKeptRow bytes
no_head bytes none = λ r rest begin.
    none r.class r.key.code (record_bytes r.rec.leader r.rec.fields) (flat_map tie_bytes r.ties ++ rest)
    (record { split = sym (row_parts r rest) ∙ begin.split; length_fits = written_small r.rec begin.can.writable })

pub no_record : (bytes : List ℕ) (class : Class) (code written behind : List ℕ) (fault : PartFault) → HaveHead bytes class code written behind
    → IsOfNoRecord written fault → IsNoFront row_bytes IsKeptRow bytes fault
no_record bytes class code written behind BadPart head none = λ r rest begin.
    none r.rec (told bytes class code written behind r rest head begin).written_is
no_record bytes class code written behind NoMemory head none = tt

-- the record of any kept record at the front is the one that is read
same_record : (written : List ℕ) (rec other : Record) → IsWrittenOf written rec → IsWrittenOf written other → rec ≡ other
same_record written rec other one two = one_record written rec other (subst (λ xs. IsReadAs xs rec.leader rec.fields) one.bytes one.writable.reads) two

pub no_own_key : (bytes : List ℕ) (class : Class) (code written behind : List ℕ) (rec : Record) (fault : PartFault) → HaveHead bytes class code written behind
    → IsWrittenOf written rec → IsNoKey code (control_number_of rec.fields) fault → IsNoFront row_bytes IsKeptRow bytes fault
no_own_key bytes class code written behind rec BadPart head read none = λ r rest begin.
    let s = told bytes class code written behind r rest head begin in
    let fields = ap (λ (x : Record). x.fields) (same_record written rec r.rec read s.written_is) in
    let bad : is_valid_key r.key ≡ false =
    ap (λ text. is_valid_key (record { code = text; number = r.key.number })) s.code_is
    ∙ ap (λ text. is_valid_key (record { code = code; number = text })) (begin.can.number ∙ ap control_number_of (sym fields))
    ∙ none in
    both_ways _ bad begin.can.key
no_own_key bytes class code written behind rec NoMemory head read none = tt

pub no_ties : (bytes : List ℕ) (class : Class) (code written behind : List ℕ) (rec : Record) (count : ℕ) (fault : PartFault) → HaveHead bytes class code written behind
    → IsWrittenOf written rec → count ≡ length rec.fields → IsNoFront ties_bytes (AreProperTies count) behind fault → IsNoFront row_bytes IsKeptRow bytes fault
no_ties bytes class code written behind rec count BadPart head read number none = λ r rest begin.
    let s = told bytes class code written behind r rest head begin in
    let fields = ap (λ (x : Record). length x.fields) (same_record written rec r.rec read s.written_is) in
    none r.ties rest (record {
      split = s.behind_is;
      can = record { count_is = r.tied ∙ sym fields ∙ sym number; proper = begin.can.ties };
    })
no_ties bytes class code written behind rec count NoMemory head read number none = tt

pub row_begins : (bytes : List ℕ) (class : Class) (code written behind rest : List ℕ) (count : ℕ) (r : KeptRow) → HaveHead bytes class code written behind → r.class ≡ class
    → IsWrittenOf written r.rec → r.key ≡ record { code = code; number = control_number_of r.rec.fields } → IsProperKey r.key → BeginWith ties_bytes (AreProperTies count) behind r.ties rest
    → BeginWith row_bytes IsKeptRow bytes r rest
row_begins bytes class code written behind rest count r head of_class read own proper ties = record {
  split =
      row_parts r rest
      ∙ ap (λ xs. head_bytes r.class r.key.code (record_bytes r.rec.leader r.rec.fields) ++ xs) ties.split
      ∙ ap (λ c. head_bytes c r.key.code (record_bytes r.rec.leader r.rec.fields) ++ behind) of_class
      ∙ ap (λ (k : Key). head_bytes class k.code (record_bytes r.rec.leader r.rec.fields) ++ behind) own
      ∙ ap (λ bs. head_bytes class code bs ++ behind) read.bytes
      ∙ head.split;
  can = record { key = proper; number = ap (λ (k : Key). k.number) own; writable = read.writable; ties = ties.can.proper };
}

-- the kept records that are all of the bytes
abbrev pub SoughtRows : List ℕ → List KeptRow → List ℕ → Type 0
SoughtRows bytes all behind = AreRows bytes all × (behind ≡ [])

abbrev pub AreRowsSoFar : List ℕ → List KeptRow → List ℕ → Type 0
AreRowsSoFar bytes rows rest = AreRead row_bytes IsKeptRow (SoughtRows bytes) bytes rows rest

sought_split : (bytes : List ℕ) (all : List KeptRow) (behind : List ℕ) → SoughtRows bytes all behind → flat_map row_bytes all ++ behind ≡ bytes
sought_split bytes all behind h = ap (λ xs. flat_map row_bytes all ++ xs) h.1 ∙ append-nil (flat_map row_bytes all) ∙ h.0.written

pub no_rows_yet : (bytes : List ℕ) (rows : List KeptRow) → rows ≡ [] → AreRowsSoFar bytes rows bytes
no_rows_yet bytes rows none = subst (λ xs. AreRowsSoFar bytes xs bytes) (sym none)
    (none_read row_bytes IsKeptRow (SoughtRows bytes) bytes (λ all behind h. (h.0.can_be, sought_split bytes all behind h)))

more_there : (bytes : List ℕ) (rows : List KeptRow) (rest : List ℕ) → 1 ≤ length rest → NoneEnds (SoughtRows bytes) rows rest
more_there bytes rows rest some = λ all behind h same ends. omega (arith, some, ap length (sym ends ∙ h.1))

pub one_more_row : (bytes : List ℕ) (rows : List KeptRow) (r : KeptRow) (rest next : List ℕ) → AreRowsSoFar bytes rows rest → 1 ≤ length rest
    → BeginWith row_bytes IsKeptRow rest r next → AreRowsSoFar bytes (rows ++ r ∷ []) next
one_more_row bytes rows r rest next so_far some begin =
    one_more row_bytes IsKeptRow (SoughtRows bytes) bytes rows r rest next row_spelled so_far begin (more_there bytes rows rest some)

pub no_more_rows : (bytes : List ℕ) (rows : List KeptRow) (rest : List ℕ) (fault : PartFault) → AreRowsSoFar bytes rows rest → 1 ≤ length rest
    → IsNoFront row_bytes IsKeptRow rest fault → AreNoRows bytes fault
no_more_rows bytes rows rest BadPart so_far some none = λ all are.
    none_more row_bytes IsKeptRow (SoughtRows bytes) bytes rows rest so_far none (more_there bytes rows rest some) all [] (are, refl)
no_more_rows bytes rows rest NoMemory so_far some none = tt

pub all_rows : (bytes : List ℕ) (rows : List KeptRow) (rest : List ℕ) → AreRowsSoFar bytes rows rest → length rest ≡ 0 → AreRows bytes rows
all_rows bytes rows [] so_far end = record {
  written = sym (append-nil (flat_map row_bytes rows)) ∙ so_far.split;
  can_be = so_far.can;
}
all_rows bytes rows (b ∷ rest) so_far end = absurd (omega (arith, end))

-- what stands behind a kept record is less
pub row_shorter : (rest next : List ℕ) (r : KeptRow) → BeginWith row_bytes IsKeptRow rest r next → length next < length rest
row_shorter rest next r begin = omega (arith, ap length begin.split, length-append (row_bytes r) next, length-append (row_bytes r) [], row_some r [])
