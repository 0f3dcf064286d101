-- The payload of a batch, piece by piece, and how it changes with the batch.
use Rattle.std.proofs.Common.{◌≡◌, ◌∙◌, ℕ, zero, suc, ◌+◌, ◌*◌, ◌<◌, ◌≤◌, ◌≢◌, List, [], ◌∷◌, ◌++◌, length, take, drop, get_or, set, slice_get, Some, refl, sym, ap, subst, arith, append_assoc, length-append, length-take}
use Rattle.std.specs.Int.{w32, w64, to_be_bytes}
use Rattle.std.specs.List.{All, AllPairs, flat_map}
use Rattle.std.proofs.Math.Seq.{take-append-add, take-append_seam, set-append_seam}
use Rattle.std.proofs.lemmas.Grind.{flat_map-append}
use Rattle.std.proofs.lemmas.List.{get_or-take, get_or-map, length-map, take-append-drop, append-nil}
use Rattle.std.proofs.lemmas.List.Elements.{All-push, All-take, All-map}
use Rattle.std.proofs.lemmas.List.Quantifiers.{all_pairs_push}
use Rattle.marc_types.specs.declared.entry.Entry.{Entry}
use Rattle.entry_record.proofs.Admitted.{admitted_fits, admitted_library}
use Rattle.entry_record.proofs.Written.{fitting_length}
use Rattle.entry_history.proofs.Format.{length_entry}
use Rattle.entry_history.proofs.Runs.{payload_in_run, same_entries}
use Rattle.entry_record.specs.History.{IsAdmitted, in_run, with_run}
use Rattle.entry_history.specs.Format.{payload_head, entry_bytes, payload_bytes, payload_of}
use Rattle.entry_history.specs.Payloads.{IsEntry, IsOf, CanFollow, HoldsNow}
use Rattle.entry_history.specs.Batches.{IsLike, IsBatch, batch_payload, IsLaidOut}

-- what stands before the count of entries
pub front : ℕ → ℕ → List ℕ → List ℕ
front run loader library = to_be_bytes w64 run ++ (to_be_bytes w32 loader ++ length library ∷ library)

pub length-front : (run loader : ℕ) (library : List ℕ) → length (front run loader library) ≡ 13 + length library
unfolding front
length-front run loader library =
    omega (
      arith,
      length-append (to_be_bytes w64 run) (to_be_bytes w32 loader ++ length library ∷ library),
      length-append (to_be_bytes w32 loader) (length library ∷ library),
    )

pub payload-front : (run loader : ℕ) (library : List ℕ) (entries : List Entry)
    → payload_bytes run loader library entries ≡ front run loader library ++ (length entries ∷ flat_map entry_bytes entries)
unfolding front payload_bytes payload_head
payload-front run loader library entries = simp append_assoc refl

pub length-alone : (e : Entry) → length (payload_of e) ≡ 14 + length e.library + length (entry_bytes e)
length-alone e =
    rw (payload-front e.run e.loader e.library (e ∷ []), append-nil (entry_bytes e))
    (omega (arith, length-append (front e.run e.loader e.library) (1 ∷ entry_bytes e), length-front e.run e.loader e.library))

pub entry_bounded : (e : Entry) → IsAdmitted e → length (entry_bytes e) ≤ 100011
entry_bounded e h = omega (arith, length_entry e, fitting_length e.rec.fields (admitted_fits e h))

-- one more part behind, and one more in the count
grown : (before rest part : List ℕ) (n m place : ℕ) → place ≡ length before → set ((before ++ (n ∷ rest)) ++ part) place m ≡ before ++ (m ∷ (rest ++ part))
grown before rest part n m place is = rw (is, append_assoc before (n ∷ rest) part) (set-append_seam before n (rest ++ part) m)

more_entries : (entries : List Entry) (e : Entry) → flat_map entry_bytes (entries ++ e ∷ []) ≡ flat_map entry_bytes entries ++ entry_bytes e
more_entries entries e = flat_map-append entry_bytes entries (e ∷ []) ∙ ap (λ part. flat_map entry_bytes entries ++ part) (append-nil (entry_bytes e))

pushed_payload : (x e : Entry) (xs : List Entry) (place n : ℕ) → IsLike x e → place ≡ 13 + length e.library → n ≡ length (x ∷ (xs ++ e ∷ []))
    → set (batch_payload (x ∷ xs) ++ entry_bytes e) place n ≡ batch_payload (x ∷ (xs ++ e ∷ []))
pushed_payload x e xs place n first is count =
    rw (payload-front x.run x.loader x.library (x ∷ xs), payload-front x.run x.loader x.library (x ∷ (xs ++ e ∷ [])))
    (grown (front x.run x.loader x.library) (flat_map entry_bytes (x ∷ xs)) (entry_bytes e) (length (x ∷ xs)) n place
    (omega (arith, length-front x.run x.loader x.library, is, ap length first.library))
    ∙ ap (λ count. front x.run x.loader x.library ++ (count ∷ (flat_map entry_bytes (x ∷ xs) ++ entry_bytes e))) count
    ∙ ap (λ rest. front x.run x.loader x.library ++ (length (x ∷ (xs ++ e ∷ [])) ∷ rest)) (sym (more_entries (x ∷ xs) e)))

more_laid : (entries : List Entry) (e : Entry) (place n : ℕ) → entries ≢ [] → All (λ x. IsLike x e) entries → place ≡ 13 + length e.library
    → n ≡ length (entries ++ e ∷ []) → set (batch_payload entries ++ entry_bytes e) place n ≡ batch_payload (entries ++ e ∷ [])
more_laid [] e place n some like is count = absurd (some refl)
more_laid (x ∷ xs) e place n some like is count = pushed_payload x e xs place n (like 0 x (omega arith)) is count

-- a batch of one entry
pub begun_laid : (e : Entry) (payload : List ℕ) → IsAdmitted e → payload ≡ payload_of e → IsLaidOut (e ∷ []) payload
begun_laid e payload admitted is = record {
  batch = record {
    few = omega arith;
    admitted = All-push IsAdmitted [] e (λ k d within. absurd (omega arith)) admitted;
    alike = all_pairs_push IsLike [] e (λ i j d first second. absurd (omega arith)) (λ k d within. absurd (omega arith));
  };
  payload_is = is;
}

-- a batch with one more entry
pub pushed_laid : (entries : List Entry) (payload : List ℕ) (e : Entry) (place n : ℕ) → IsLaidOut entries payload → entries ≢ [] → length entries < 32
    → IsAdmitted e → All (λ x. IsLike x e) entries → place ≡ 13 + length e.library
    → n ≡ length (entries ++ e ∷ []) → IsLaidOut (entries ++ e ∷ []) (set (payload ++ entry_bytes e) place n)
pushed_laid entries payload e place n laid some room admitted like at count = record {
  batch = record {
    few = omega (arith, length-append entries (e ∷ []));
    admitted = All-push IsAdmitted entries e laid.batch.admitted admitted;
    alike = all_pairs_push IsLike entries e laid.batch.alike like;
  };
  payload_is = rw laid.payload_is (more_laid entries e place n some like at count);
}

within : (entries : List Entry) (e : Entry) (place : ℕ) → entries ≢ [] → All (λ x. IsLike x e) entries → place ≡ 13 + length e.library
    → place < length (batch_payload entries ++ entry_bytes e)
within [] e place some like at = absurd (some refl)
within (x ∷ xs) e place some like at =
    let first : IsLike x e = like 0 x (omega arith) in
    rw (payload-front x.run x.loader x.library (x ∷ xs))
    (omega (
      arith,
      at,
      length-append (front x.run x.loader x.library ++ (length (x ∷ xs) ∷ flat_map entry_bytes (x ∷ xs))) (entry_bytes e),
      length-append (front x.run x.loader x.library) (length (x ∷ xs) ∷ flat_map entry_bytes (x ∷ xs)),
      length-front x.run x.loader x.library,
      ap length first.library,
    ))

pub place_within : (entries : List Entry) (payload : List ℕ) (e : Entry) (place : ℕ) → IsLaidOut entries payload → entries ≢ []
    → All (λ x. IsLike x e) entries → place ≡ 13 + length e.library → place < length (payload ++ entry_bytes e)
place_within entries payload e place laid some like at = rw laid.payload_is (within entries e place some like at)

-- bounds of a payload
entries_bounded : (entries : List Entry) → All IsAdmitted entries → length (flat_map entry_bytes entries) ≤ 100011 * length entries
entries_bounded [] h = omega arith
entries_bounded (e ∷ es) h =
    omega (
      arith,
      length-append (entry_bytes e) (flat_map entry_bytes es),
      entry_bounded e (h 0 e (omega arith)),
      entries_bounded es (λ k d within. h (suc k) d (omega arith)),
    )

bounded : (entries : List Entry) → IsBatch entries → length (batch_payload entries) ≤ 3200382
bounded [] h = omega arith
bounded (e ∷ es) h =
    rw (payload-front e.run e.loader e.library (e ∷ es))
    (omega (
      arith,
      h.few,
      length-append (front e.run e.loader e.library) (length (e ∷ es) ∷ flat_map entry_bytes (e ∷ es)),
      length-front e.run e.loader e.library,
      admitted_library e (h.admitted 0 e (omega arith)),
      entries_bounded (e ∷ es) h.admitted,
    ))

pub payload_bounded : (entries : List Entry) (payload bytes : List ℕ) → IsLaidOut entries payload → bytes ≡ payload → length bytes ≤ 3200382
payload_bounded entries payload bytes laid is = rw (is, laid.payload_is) (bounded entries laid.batch)

filled : (entries : List Entry) → entries ≢ [] → 14 ≤ length (batch_payload entries)
filled [] h = absurd (h refl)
filled (e ∷ es) h =
    rw (payload-front e.run e.loader e.library (e ∷ es))
    (omega (arith, length-append (front e.run e.loader e.library) (length (e ∷ es) ∷ flat_map entry_bytes (e ∷ es)), length-front e.run e.loader e.library))

pub payload_filled : (entries : List Entry) (payload bytes : List ℕ) → IsLaidOut entries payload → bytes ≡ payload → entries ≢ [] → 14 ≤ length bytes
payload_filled entries payload bytes laid is some = rw (is, laid.payload_is) (filled entries some)

-- all entries in another run
same_admitted : (run : ℕ) (e : Entry) → IsAdmitted e → IsAdmitted (in_run run e)
same_admitted run e h = record { ordinal = h.ordinal; library = h.library; taken = h.taken; class_is = h.class_is; key_is = h.key_is }

same_like : (run : ℕ) (one other : Entry) → IsLike one other → IsLike (in_run run one) (in_run run other)
same_like run one other h = record { run = refl; loader = h.loader; library = h.library }

run_alike : (run : ℕ) (entries : List Entry) → AllPairs IsLike entries → AllPairs IsLike (with_run run entries)
run_alike run entries h i j d first second =
    let count = length-map entries (in_run run) in
    rw (get_or-map (in_run run) entries i d d (omega (arith, count)), get_or-map (in_run run) entries j d d (omega (arith, count)))
    (same_like run (get_or entries i d) (get_or entries j d) (h i j d first (omega (arith, count))))

run_payload : (run : ℕ) (entries : List Entry) → entries ≢ [] → to_be_bytes w64 run ++ drop 8 (batch_payload entries) ≡ batch_payload (with_run run entries)
run_payload run [] some = absurd (some refl)
run_payload run (e ∷ es) some =
    payload_in_run e.run run e.loader e.library (e ∷ es)
    ∙ payload-front run e.loader e.library (e ∷ es)
    ∙ ap (λ count. front run e.loader e.library ++ (count ∷ flat_map entry_bytes (e ∷ es))) (sym (length-map (e ∷ es) (in_run run)))
    ∙ ap (λ rest. front run e.loader e.library ++ (length (with_run run (e ∷ es)) ∷ rest)) (sym (same_entries run (e ∷ es)))
    ∙ sym (payload-front run e.loader e.library (with_run run (e ∷ es)))

pub run_laid : (run : ℕ) (entries : List Entry) (payload : List ℕ) → entries ≢ [] → IsLaidOut entries payload
    → IsLaidOut (with_run run entries) (to_be_bytes w64 run ++ drop 8 payload)
run_laid run entries payload some laid = record {
  batch = record {
    few = omega (arith, laid.batch.few, length-map entries (in_run run));
    admitted = All-map IsAdmitted (in_run run) entries (λ k d within. same_admitted run (get_or entries k d) (laid.batch.admitted k d within));
    alike = run_alike run entries laid.batch.alike;
  };
  payload_is = rw laid.payload_is (run_payload run entries some);
}

-- the first entries alone
cut_alike : (n : ℕ) (entries : List Entry) → AllPairs IsLike entries → AllPairs IsLike (take n entries)
cut_alike n entries h i j d first second =
    let count = length-take n entries in
    rw (get_or-take n entries i d (omega (arith, count)), get_or-take n entries j d (omega (arith, count)))
    (h i j d first (omega (arith, count)))

cut_bytes : (before kept gone : List ℕ) (m n place len : ℕ) → place ≡ length before → len ≡ length kept
    → set (take (place + 1 + len) (before ++ (m ∷ (kept ++ gone)))) place n ≡ before ++ (n ∷ kept)
cut_bytes before kept gone m n place len at count =
    let sum : place + 1 + len ≡ length before + (1 + len) = omega (arith, at) in
    let one_more : 1 + len ≡ length (m ∷ kept) = omega (arith, count) in
    let front_kept : take (1 + len) (m ∷ (kept ++ gone)) ≡ m ∷ kept = rw one_more (take-append_seam (m ∷ kept) gone) in
    rw (sum, take-append-add before (m ∷ (kept ++ gone)) (1 + len), front_kept, at) (set-append_seam before m kept n)

split_entries : (n : ℕ) (entries : List Entry)
    → flat_map entry_bytes entries ≡ flat_map entry_bytes (take n entries) ++ flat_map entry_bytes (drop n entries)
split_entries n entries = ap (flat_map entry_bytes) (sym (take-append-drop n entries)) ∙ flat_map-append entry_bytes (take n entries) (drop n entries)

cut_payload : (entries : List Entry) (d : Entry) (n place len : ℕ) → 1 ≤ n → n ≤ length entries → place ≡ 13 + length (get_or entries 0 d).library
    → len ≡ length (flat_map entry_bytes (take n entries))
    → set (take (place + 1 + len) (batch_payload entries)) place n ≡ batch_payload (take n entries)
cut_payload [] d n place len some within at count = absurd (omega arith)
cut_payload (e ∷ es) d zero place len some within at count = absurd (omega arith)
cut_payload (e ∷ es) d (suc n) place len some within at count =
    let kept = take (suc n) (e ∷ es) in
    let number : suc n ≡ length kept = omega (arith, length-take (suc n) (e ∷ es)) in
    rw (payload-front e.run e.loader e.library (e ∷ es), payload-front e.run e.loader e.library kept, split_entries (suc n) (e ∷ es))
    (cut_bytes (front e.run e.loader e.library) (flat_map entry_bytes kept) (flat_map entry_bytes (drop (suc n) (e ∷ es))) (length (e ∷ es)) (suc n) place len
    (omega (arith, at, length-front e.run e.loader e.library)) count
    ∙ ap (λ count. front e.run e.loader e.library ++ (count ∷ flat_map entry_bytes kept)) number)

pub cut_laid : (entries : List Entry) (payload : List ℕ) (d : Entry) (n place len : ℕ) → IsLaidOut entries payload → 1 ≤ n → n ≤ length entries
    → place ≡ 13 + length (get_or entries 0 d).library → len ≡ length (flat_map entry_bytes (take n entries))
    → IsLaidOut (take n entries) (set (take (place + 1 + len) payload) place n)
cut_laid entries payload d n place len laid some within at count = record {
  batch = record {
    few = omega (arith, laid.batch.few, length-take n entries);
    admitted = All-take IsAdmitted n entries laid.batch.admitted;
    alike = cut_alike n entries laid.batch.alike;
  };
  payload_is = rw laid.payload_is (cut_payload entries d n place len some within at count);
}

-- the count's place is there still
pub cut_within : (entries : List Entry) (payload : List ℕ) (d : Entry) (place len : ℕ) → IsLaidOut entries payload → 1 ≤ length entries
    → place ≡ 13 + length (get_or entries 0 d).library → place < length (take (place + 1 + len) payload)
cut_within [] payload d place len laid some at = absurd (omega arith)
cut_within (e ∷ es) payload d place len laid some at =
    rw (laid.payload_is, payload-front e.run e.loader e.library (e ∷ es))
    (omega (
      arith,
      at,
      length-take (place + 1 + len) (front e.run e.loader e.library ++ (length (e ∷ es) ∷ flat_map entry_bytes (e ∷ es))),
      length-append (front e.run e.loader e.library) (length (e ∷ es) ∷ flat_map entry_bytes (e ∷ es)),
      length-front e.run e.loader e.library,
    ))

-- the payload of a batch whose entries can stand in one
alike_first : (e : Entry) (es : List Entry) → AllPairs IsLike (e ∷ es) → All (IsOf e.run e.loader e.library) (e ∷ es)
alike_first e es like zero d within = record { run_is = refl; loader_is = refl; library_is = refl }
alike_first e es like (suc k) d within =
    let h : IsLike e (get_or es k d) = like 0 (suc k) d (omega arith) within in
    record { run_is = sym h.run; loader_is = sym h.loader; library_is = sym h.library }

pub held_by_payload : (entries before : List Entry) (e : Entry) → IsBatch entries → All IsEntry entries → slice_get entries 0 ≡ Some e → CanFollow before e.run
    → HoldsNow before entries (batch_payload entries)
held_by_payload [] before e batch are first follows = cc
held_by_payload (x ∷ xs) before e batch are first follows =
    let same : x ≡ e = cc in
    record {
      run = x.run;
      loader = x.loader;
      library = x.library;
      written = refl;
      follows = subst (λ (f : Entry). CanFollow before f.run) (sym same) follows;
      count = record { some = omega arith; few = batch.few };
      shared = alike_first x xs batch.alike;
      entries_are = are;
    }
