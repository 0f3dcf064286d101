-- The payload of one entry, and what is read back of it.
use Rattle.std.proofs.Common.{◌≡◌, ◌∙◌, ℕ, zero, suc, ◌+◌, ◌<◌, ◌≤◌, ◌^◌, List, [], ◌∷◌, ◌++◌, length, refl, sym, ap, subst, arith, append_assoc}
use Rattle.std.specs.Int.{w32, w64, to_be_bytes}
use Rattle.std.specs.List.{All}
use Rattle.iso2709_record.proofs.Spelled.{parts_same}
use Rattle.marc_types.specs.declared.entry.Entry.{Entry}
use Rattle.entry_history.specs.Format.{payload_head, entry_bytes, payload_bytes, payload_of}
use Rattle.entry_history.specs.Alone.{IsPayload, copies}
use Rattle.entry_history.specs.Payloads.{IsEntry, IsOf, CanFollow, HoldsNow, Holds, Newer, Older}
use Rattle.entry_history.specs.Readers.{HasExtent}
use Rattle.entry_record.proofs.Spelled.{long_once, short_once}
use Rattle.entry_history.proofs.Spelled.{entry_once}
use Rattle.entry_history.proofs.Histories.{holds_once}
use Rattle.entry_history.proofs.Batches.{length-alone, entry_bounded}
use Rattle.entry_record.proofs.Admitted.{admitted_library}
use Rattle.entry_record.specs.History.{IsAdmitted, last_run}
use Rattle.std.specs.Prelude.{Bool, IsTrue, ◌↔◌, IfOk, Result, Ok, Err}

-- an entry is of its own run, loader and library
own : (e : Entry) → All (IsOf e.run e.loader e.library) (e ∷ [])
own e zero d within = record { run_is = refl; loader_is = refl; library_is = refl }
own e (suc k) d within = absurd (omega arith)

alone : (e : Entry) → IsEntry e → All IsEntry (e ∷ [])
alone e h zero d within = h
alone e h (suc k) d within = absurd (omega arith)

pub held_alone : (before : List Entry) (e : Entry) → IsEntry e → CanFollow before e.run → Holds 2 before (e ∷ []) (payload_of e)
held_alone before e h follows = Newer refl (record {
  run = e.run;
  loader = e.loader;
  library = e.library;
  written = refl;
  follows = follows;
  count = record { some = omega arith; few = omega arith };
  shared = own e;
  entries_are = alone e h;
})

pub read_back : (before entries : List Entry) (e : Entry) → IsEntry e → CanFollow before e.run → Holds 2 before entries (payload_of e) → entries ≡ e ∷ []
read_back before entries e h follows holds = holds_once 2 before entries (e ∷ []) (payload_of e) holds (held_alone before e h follows)

-- the parts of a payload of one entry, in turn
parts : (e : Entry)
    → payload_of e ≡ to_be_bytes w64 e.run ++ (to_be_bytes w32 e.loader ++ (length e.library ∷ (e.library ++ (1 ∷ (entry_bytes e ++ [])))))
unfolding payload_bytes payload_head
parts e = simp append_assoc refl

cons_first : (a b : ℕ) (x y : List ℕ) → a ∷ x ≡ b ∷ y → a ≡ b
cons_first a b x y e = cc

cons_others : (a b : ℕ) (x y : List ℕ) → a ∷ x ≡ b ∷ y → x ≡ y
cons_others a b x y e = cc

pub payload_once : (one other : Entry) → IsEntry one → IsEntry other → payload_of one ≡ payload_of other → one ≡ other
payload_once one other p q same =
    let runs = long_once one.run other.run _ _ p.run_fits q.run_fits (sym (parts one) ∙ same ∙ parts other) in
    let loaders = short_once one.loader other.loader _ _ p.loader_fits q.loader_fits runs.1 in
    let libraries = parts_same one.library other.library _ _ (cons_first _ _ _ _ loaders.1) (cons_others _ _ _ _ loaders.1) in
    let entries = cons_others 1 1 (entry_bytes one ++ []) (entry_bytes other ++ []) libraries.1 in
    let of_other : IsOf one.run one.loader one.library other = record { run_is = sym runs.0; loader_is = sym loaders.0; library_is = sym libraries.0 } in
    (entry_once one.run one.loader one.library one other [] [] p q (own one 0 one (omega arith)) of_other entries).0

-- by their payloads it is told whether entries are one
pub same_entry : (one other : Entry) (payload spelled : List ℕ) (b : Bool) → IsEntry one → IsEntry other → payload ≡ payload_of one → spelled ≡ payload_of other
    → (IsTrue b ↔ (payload ≡ spelled)) → IsTrue b ↔ (one ≡ other)
same_entry one other payload spelled b p q of_one of_other told =
    (λ t. payload_once one other p q (sym of_one ∙ told.0 t ∙ of_other), λ same. told.1 (of_one ∙ ap payload_of same ∙ sym of_other))

-- a payload of an admitted entry has from 1 to 100041 bytes
pub payload_some : (e : Entry) (payload : List ℕ) → payload ≡ payload_of e → 1 ≤ length payload
payload_some e payload is = omega (arith, ap length is, length-alone e)

pub payload_small : (e : Entry) (payload : List ℕ) → IsAdmitted e → payload ≡ payload_of e → length payload ≤ 100041
payload_small e payload h is = omega (arith, ap length is, length-alone e, entry_bounded e h, admitted_library e h)

-- ---- an entry behind as many of its run as the run needs before it

copies_long : (n : ℕ) (e : Entry) → length (copies n e) ≡ n
copies_long zero e = refl
copies_long (suc n) e = ap suc (copies_long n e)

copies_run : (n : ℕ) (e : Entry) → last_run (copies (suc n) e) ≡ e.run
copies_run zero e = refl
copies_run (suc n) e = copies_run n e

own_copies_run : (n : ℕ) (e : Entry) → e.run ≡ n → last_run (copies n e) ≡ n
own_copies_run zero e is = refl
own_copies_run (suc n) e is = copies_run n e ∙ is

pub extent_of_copies : (e : Entry) (run : ℕ) → e.run ≡ run → HasExtent (copies e.run e) (record { count = run; last_run = run })
extent_of_copies e run is = record { count_is = sym is ∙ sym (copies_long e.run e); last_is = sym is ∙ sym (own_copies_run e.run e refl) }

follows_copies : (e : Entry) → CanFollow (copies e.run e) e.run
follows_copies e = record { rises = omega (arith, own_copies_run e.run e refl); bounded = omega (arith, copies_long e.run e) }

-- what is read there is the entry
pub read_alone_is : (e : Entry) (items : List Entry) (payload : List ℕ) → IsPayload e payload → HoldsNow (copies e.run e) items payload → items ≡ e ∷ []
read_alone_is e items payload of holds =
    read_back (copies e.run e) items e of.entry (follows_copies e) (subst (Holds 2 (copies e.run e) items) of.is (Newer refl holds))

held_now : (before entries : List Entry) (payload : List ℕ) → Holds 2 before entries payload → HoldsNow before entries payload
held_now before entries payload (Newer is holds) = holds
held_now before entries payload (Older is holds) = absurd (cc)

-- and something is
pub none_refused : (e : Entry) (payload : List ℕ) → IsPayload e payload → ((entries : List Entry) → HoldsNow (copies e.run e) entries payload → ⊥) → ⊥
none_refused e payload of none =
    none (e ∷ []) (held_now (copies e.run e) (e ∷ []) payload (subst (Holds 2 (copies e.run e) (e ∷ [])) (sym of.is) (held_alone (copies e.run e) e of.entry (follows_copies e))))

-- a payload begins with the run of its entry
pub run_first : (e : Entry) (payload rest : List ℕ) (run : ℕ) → IsPayload e payload → payload ≡ to_be_bytes w64 run ++ rest → run < 2 ^ 64 → e.run ≡ run
run_first e payload rest run of is fits = (long_once e.run run _ rest of.entry.run_fits fits (sym (parts e) ∙ sym of.is ∙ is)).0

pub run_there : (e : Entry) (payload : List ℕ) → IsPayload e payload → length payload < 8 → ⊥
run_there e payload of short = absurd (omega (arith, short, ap length of.is, length-alone e))

pub only_one : (item e : Entry) (items : List Entry) (payload : List ℕ) → item ∷ [] ≡ items → items ≡ e ∷ [] → IsPayload e payload → IsPayload item payload
only_one item e items payload only is of = subst (λ x. IsPayload x payload) (sym (cons_entry item e (only ∙ is))) of
  where
    cons_entry : (a b : Entry) → a ∷ [] ≡ b ∷ [] → a ≡ b
    cons_entry a b same = cc

-- an entry whose payload it is, is the entry
pub of_one_entry : {F : Type 0} (e : Entry) (payload : List ℕ) (result : Result Entry F) → IsPayload e payload → IfOk result (λ item. IsPayload item payload) → IfOk result (λ item. item ≡ e)
of_one_entry e payload (Ok item) of is = payload_once item e is.entry of.entry (sym is.is ∙ of.is)
of_one_entry e payload (Err fault) of is = tt
