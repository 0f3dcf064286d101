-- Payloads hold one history.
use Rattle.std.proofs.Common.{◌≡◌, ◌≢◌, ◌∙◌, ℕ, suc, List, [], ◌∷◌, ◌++◌, length, refl, sym, ap, subst, arith, append_assoc}
use Rattle.std.specs.Int.{w32, w64, to_be_bytes}
use Rattle.std.specs.List.{All, flat_map}
use Rattle.marc_types.specs.declared.entry.Entry.{Entry}
use Rattle.iso2709_record.specs.Written.{record_length, record_bytes}
use Rattle.iso2709_record.proofs.Spelled.{parts_same}
use Rattle.entry_history.specs.Format.{entry_bytes}
use Rattle.entry_history.specs.Payloads.{IsEntry, IsOf, IsOld, HoldsNow, HoldsOld, Holds, Newer, Older, old_entry_bytes, old_payload_bytes, IsHistory, NoMore, OneMore}
use Rattle.entry_history.specs.Reading.{HasHead, HoldsNoneNow, HoldsNoneOld}
use Rattle.entry_history.specs.Readers.{IsVersion, HoldsNone}
use Rattle.entry_history.specs.declared.fault.EntryFault.{EntryFault}
use Rattle.entry_history.specs.declared.fault.EntryFault.TheVariants.{BadEntry, NoMemory}
use Rattle.entry_record.proofs.Spelled.{long_once, short_once}
use Rattle.entry_history.proofs.Spelled.{entry_is, entry_once, fitting, record_once}
use Rattle.entry_history.proofs.ReadPayloads.{payload_split, run_small, held}

cons_first : {X : Type 0} (a b : X) (x y : List X) → a ∷ x ≡ b ∷ y → a ≡ b
cons_first a b x y e = cc

cons_others : {X : Type 0} (a b : X) (x y : List X) → a ∷ x ≡ b ∷ y → x ≡ y
cons_others a b x y e = cc

All-rest : (P : Entry → Type 0) (e : Entry) (es : List Entry) → All P (e ∷ es) → All P es
All-rest P e es all = λ k d within. all (suc k) d (omega arith)

entries_once : (run loader : ℕ) (library : List ℕ) (es fs : List Entry) → All (IsOf run loader library) es → All IsEntry es
    → All (IsOf run loader library) fs → All IsEntry fs → length es ≡ length fs → flat_map entry_bytes es ≡ flat_map entry_bytes fs → es ≡ fs
entries_once run loader library [] [] a b c d len same = refl
entries_once run loader library [] (f ∷ fs) a b c d len same = absurd (omega arith)
entries_once run loader library (e ∷ es) [] a b c d len same = absurd (omega arith)
entries_once run loader library (e ∷ es) (f ∷ fs) a b c d len same =
    let first = entry_once run loader library e f (flat_map entry_bytes es) (flat_map entry_bytes fs) (b 0 e (omega arith)) (d 0 f (omega arith))
    (a 0 e (omega arith)) (c 0 f (omega arith)) same in
    let others : es ≡ fs = entries_once run loader library es fs (All-rest (IsOf run loader library) e es a) (All-rest IsEntry e es b) (All-rest (IsOf run loader library) f fs c) (All-rest IsEntry f fs d) (omega arith) first.1 in
    λ i. first.0 i ∷ others i

now_once : (before es fs : List Entry) (payload : List ℕ) → HoldsNow before es payload → HoldsNow before fs payload → es ≡ fs
now_once before es fs payload p q =
    let small = run_small p.run p.loader p.library es p.shared p.entries_are p.count.some in
    let head : HasHead payload p.run p.loader p.library (length es) (flat_map entry_bytes es) =
    record { run_fits = small.0; loader_fits = small.1; written = payload_split p.run p.loader p.library es ∙ p.written } in
    let other = (held payload p.run p.loader p.library (length es) (flat_map entry_bytes es) before fs head q).3 in
    entries_once p.run p.loader p.library es fs p.shared p.entries_are other.shared other.entries_are (sym other.count_is) (sym other.written)

pub old_parts : (e : Entry) (x : List ℕ)
    → old_entry_bytes e ++ x
    ≡ to_be_bytes w32 e.loader ++ (to_be_bytes w64 e.ordinal ++ (length e.library ∷ (e.library
    ++ (to_be_bytes w32 (record_length e.rec.fields) ++ (record_bytes e.rec.leader e.rec.fields ++ x)))))
unfolding old_entry_bytes
old_parts e x = simp append_assoc refl

pub old_once : (e f : Entry) (x y : List ℕ) → IsEntry e → IsEntry f → IsOld e → IsOld f → old_entry_bytes e ++ x ≡ old_entry_bytes f ++ y → (e ≡ f) × (x ≡ y)
old_once e f x y p q old_one old_other same =
    let loaders = short_once e.loader f.loader _ _ p.loader_fits q.loader_fits (sym (old_parts e x) ∙ same ∙ old_parts f y) in
    let ordinals = long_once e.ordinal f.ordinal _ _ p.ordinal_fits q.ordinal_fits loaders.1 in
    let libraries = parts_same e.library f.library _ _ (cons_first _ _ _ _ ordinals.1) (cons_others _ _ _ _ ordinals.1) in
    let lengths = short_once (record_length e.rec.fields) (record_length f.rec.fields) _ _ (fitting e p) (fitting f q) libraries.1 in
    let records = record_once e f x y p q lengths.1 in
    (entry_is e f p q loaders.0 ordinals.0 (old_one.run_is ∙ sym old_other.run_is) libraries.0 records.0, records.1)

olds_once : (es fs : List Entry) → All IsOld es → All IsEntry es → All IsOld fs → All IsEntry fs → length es ≡ length fs
    → flat_map old_entry_bytes es ≡ flat_map old_entry_bytes fs → es ≡ fs
olds_once [] [] a b c d len same = refl
olds_once [] (f ∷ fs) a b c d len same = absurd (omega arith)
olds_once (e ∷ es) [] a b c d len same = absurd (omega arith)
olds_once (e ∷ es) (f ∷ fs) a b c d len same =
    let first = old_once e f (flat_map old_entry_bytes es) (flat_map old_entry_bytes fs) (b 0 e (omega arith)) (d 0 f (omega arith)) (a 0 e (omega arith)) (c 0 f (omega arith)) same in
    let others : es ≡ fs = olds_once es fs (All-rest IsOld e es a) (All-rest IsEntry e es b) (All-rest IsOld f fs c) (All-rest IsEntry f fs d) (omega arith) first.1 in
    λ i. first.0 i ∷ others i

was_once : (es fs : List Entry) (payload : List ℕ) → HoldsOld es payload → HoldsOld fs payload → es ≡ fs
unfolding old_payload_bytes
was_once es fs payload p q =
    let same = p.written ∙ sym q.written in
    olds_once es fs p.old p.entries_are q.old q.entries_are (cons_first _ _ _ _ same) (cons_others _ _ _ _ same)

pub holds_once : (version : ℕ) (before es fs : List Entry) (payload : List ℕ) → Holds version before es payload → Holds version before fs payload → es ≡ fs
holds_once version before es fs payload (Newer is p) (Newer also q) = now_once before es fs payload p q
holds_once version before es fs payload (Newer is p) (Older also q) = absurd (omega arith)
holds_once version before es fs payload (Older is p) (Newer also q) = absurd (omega arith)
holds_once version before es fs payload (Older is p) (Older also q) = was_once es fs payload p q

history_as : (version : ℕ) (before now : List Entry) (payloads : List (List ℕ)) (all : List Entry) → before ≡ now → IsHistory version before payloads all → IsHistory version now payloads all
history_as version before now payloads all same h = subst (λ es. IsHistory version es payloads all) same h

pub history_once : (version : ℕ) (before all others : List Entry) (payloads : List (List ℕ)) → IsHistory version before payloads all → IsHistory version before payloads others → all ≡ others
history_once version _ _ _ _ (NoMore entries) (NoMore also) = refl
history_once version _ _ _ _ (OneMore before es all payload payloads holds more) (OneMore _ fs others _ _ also rest) =
    let same : es ≡ fs = holds_once version before es fs payload holds also in
    history_once version (before ++ es) all others payloads more (history_as version (before ++ fs) (before ++ es) payloads others (ap (λ xs. before ++ xs) (sym same)) rest)

pub history_more : (version : ℕ) (before all entries : List Entry) (payloads : List (List ℕ)) (payload : List ℕ) → IsHistory version before payloads all
    → Holds version all entries payload → IsHistory version before (payloads ++ payload ∷ []) (all ++ entries)
history_more version _ _ entries _ payload (NoMore all) holds = OneMore all entries (all ++ entries) payload [] holds (NoMore (all ++ entries))
history_more version _ _ entries _ payload (OneMore before es all first payloads here more) holds =
    OneMore before es (all ++ entries) first (payloads ++ payload ∷ []) here (history_more version (before ++ es) all entries payloads payload more holds)

pub newer : (version : ℕ) (before entries : List Entry) (payload : List ℕ) → IsVersion version → version ≢ 1 → HoldsNow before entries payload
    → Holds version before entries payload
newer version before entries payload of_two not_first h = Newer (omega (arith, of_two.first, of_two.last)) h

none_held : (version : ℕ) (before entries : List Entry) (payload : List ℕ) → version ≢ 1 → ((es : List Entry) → HoldsNow before es payload → ⊥)
    → Holds version before entries payload → ⊥
none_held version before entries payload not_first none (Newer is h) = none entries h
none_held version before entries payload not_first none (Older is h) = not_first is

pub none_newer : (version : ℕ) (before : List Entry) (payload : List ℕ) (fault : EntryFault) → version ≢ 1 → HoldsNoneNow before payload fault
    → HoldsNone version before payload fault
none_newer version before payload BadEntry not_first none = λ entries h. none_held version before entries payload not_first none h
none_newer version before payload NoMemory not_first none = tt

pub older : (version : ℕ) (before entries : List Entry) (payload : List ℕ) → version ≡ 1 → HoldsOld entries payload → Holds version before entries payload
older version before entries payload is h = Older is h

none_was : (version : ℕ) (before entries : List Entry) (payload : List ℕ) → version ≡ 1 → ((es : List Entry) → HoldsOld es payload → ⊥)
    → Holds version before entries payload → ⊥
none_was version before entries payload is none (Newer also h) = omega arith
none_was version before entries payload is none (Older also h) = none entries h

pub none_older : (version : ℕ) (before : List Entry) (payload : List ℕ) (fault : EntryFault) → version ≡ 1 → HoldsNoneOld payload fault
    → HoldsNone version before payload fault
none_older version before payload BadEntry is none = λ entries h. none_was version before entries payload is none h
none_older version before payload NoMemory is none = tt
