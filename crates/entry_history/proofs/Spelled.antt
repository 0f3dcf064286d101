-- What is written so has one reading.
use Rattle.std.proofs.Common.{◌≡◌, ◌∙◌, ℕ, ◌^◌, ◌<◌, List, ◌++◌, refl, sym, ap, arith, append_assoc}
use Rattle.std.specs.Int.{w32, w64, to_be_bytes}
use Rattle.marc_types.specs.declared.record.Record.{Record}
use Rattle.marc_types.specs.declared.entry.Entry.{Entry}
use Rattle.iso2709_record.specs.Written.{record_length, record_bytes}
use Rattle.iso2709_record.proofs.Spelled.{record_spelled_once}
use Rattle.entry_record.specs.Identity.{class_of, key_of}
use Rattle.entry_history.specs.Format.{entry_bytes}
use Rattle.entry_record.proofs.Admitted.{admitted_fits}
use Rattle.entry_record.proofs.Spelled.{long_once, short_once, record_is}
use Rattle.entry_record.proofs.Written.{fitting_length}
use Rattle.entry_history.specs.Payloads.{IsEntry, IsOf}

entry_same : (e f : Entry) → e.loader ≡ f.loader → e.ordinal ≡ f.ordinal → e.rec ≡ f.rec → e.class ≡ f.class → e.key ≡ f.key → e.run ≡ f.run
    → e.library ≡ f.library → e ≡ f
entry_same e f a b c d g h k =
    λ i. record { loader = a i; ordinal = b i; rec = c i; class = d i; key = g i; run = h i; library = k i }

-- an admitted entry is its numbers, its library and its record
pub entry_is : (e f : Entry) → IsEntry e → IsEntry f → e.loader ≡ f.loader → e.ordinal ≡ f.ordinal → e.run ≡ f.run → e.library ≡ f.library
    → e.rec ≡ f.rec → e ≡ f
entry_is e f p q loader ordinal run library rec =
    let class : e.class ≡ f.class = p.admitted.class_is ∙ ap (λ (r : Record). class_of r.leader) rec ∙ sym q.admitted.class_is in
    let key : e.key ≡ f.key =
    p.admitted.key_is ∙ ap (λ code. key_of code e.rec.fields) library ∙ ap (λ (r : Record). key_of f.library r.fields) rec ∙ sym q.admitted.key_is in
    entry_same e f loader ordinal rec class key run library

pub fitting : (e : Entry) → IsEntry e → record_length e.rec.fields < 2 ^ 32
fitting e h = omega (arith, fitting_length e.rec.fields (admitted_fits e h.admitted))

pub entry_parts : (e : Entry) (x : List ℕ)
    → entry_bytes e ++ x ≡ to_be_bytes w64 e.ordinal ++ (to_be_bytes w32 (record_length e.rec.fields) ++ (record_bytes e.rec.leader e.rec.fields ++ x))
unfolding entry_bytes
entry_parts e x = simp append_assoc refl

-- the bytes of two records that begin the same bytes are those of one record
pub record_once : (e f : Entry) (x y : List ℕ) → IsEntry e → IsEntry f
    → record_bytes e.rec.leader e.rec.fields ++ x ≡ record_bytes f.rec.leader f.rec.fields ++ y → (e.rec ≡ f.rec) × (x ≡ y)
record_once e f x y p q same =
    let once = record_spelled_once e.rec.leader f.rec.leader e.rec.fields f.rec.fields x y e.rec.valid f.rec.valid (admitted_fits e p.admitted) (admitted_fits f q.admitted) same in
    (record_is e.rec f.rec once.0 once.1, once.2)

-- the same of two entries of one run, loader and library
pub entry_once : (run loader : ℕ) (library : List ℕ) (e f : Entry) (x y : List ℕ) → IsEntry e → IsEntry f → IsOf run loader library e → IsOf run loader library f
    → entry_bytes e ++ x ≡ entry_bytes f ++ y → (e ≡ f) × (x ≡ y)
entry_once run loader library e f x y p q of_one of_other same =
    let ordinals = long_once e.ordinal f.ordinal _ _ p.ordinal_fits q.ordinal_fits (sym (entry_parts e x) ∙ same ∙ entry_parts f y) in
    let lengths = short_once (record_length e.rec.fields) (record_length f.rec.fields) _ _ (fitting e p) (fitting f q) ordinals.1 in
    let records = record_once e f x y p q lengths.1 in (
      entry_is e f p q (of_one.loader_is ∙ sym of_other.loader_is) ordinals.0 (of_one.run_is ∙ sym of_other.run_is)
          (of_one.library_is ∙ sym of_other.library_is) records.0,
      records.1,
    )
