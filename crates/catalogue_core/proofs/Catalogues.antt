-- A catalogue before and after its calls.
use Rattle.std.proofs.Common.{◌≡◌, ℕ, zero, suc, ◌+◌, ◌≤◌, false, List, [], ◌∷◌, ◌++◌, length, take, drop, refl, sym, ap, ◌∙◌, arith, subst}
use Rattle.std.specs.declared.snapshot.Snapshot.{Snapshot}
use Rattle.std.proofs.lemmas.List.{take-append-drop, take-append-le, drop-append-le, length-map, map-append, take-map}
use Rattle.std.proofs.lemmas.List.Elements.{recursion_from_All, All-from_recursion}
use Rattle.marc_types.specs.declared.entry.Entry.{Entry}
use Rattle.marc_types.specs.declared.entry.Limits.{Limits}
use Rattle.catalogue_rules.specs.State.{State}
use Rattle.catalogue_rules.specs.Settle.{step, arrival_of, state_of}
use Rattle.entry_record.specs.History.{IsAdmitted, entry_size, entries_size}
use Rattle.catalogue_core.specs.Catalogues.{all_entries, catalogued, is_full, with_kept, with_staged, without_staged, entries_seen, IsCatalogue}
use Rattle.catalogue_core.specs.Engines.{Engined, empty_engine}
use Rattle.catalogue_core.proofs.Engines.{empty_is}
use Rattle.entry_record.proofs.Sizes.{size_behind}
use Rattle.catalogue_core.proofs.Entries.{state_last, each_last, length_last, take_whole, drop_none, each_taken, size_taken, length_taken, room_of}

-- ---- what a catalogue keeps for contracts alone

pub seen_many : (kept : List (Snapshot Entry)) → length (entries_seen kept) ≡ length kept
seen_many kept = length-map kept (λ s. s.value)

pub seen_more : (kept now : List (Snapshot Entry)) (s : Snapshot Entry) (e : Entry) → now ≡ kept ++ s ∷ [] → s.value ≡ e → entries_seen now ≡ entries_seen kept ++ e ∷ []
seen_more kept now s e put is = ap entries_seen put ∙ map-append (λ x. x.value) kept (s ∷ []) ∙ ap (λ x. entries_seen kept ++ x ∷ []) is

pub seen_front : (kept now : List (Snapshot Entry)) (n : ℕ) → now ≡ take n kept → entries_seen now ≡ take n (entries_seen kept)
seen_front kept now n put = ap entries_seen put ∙ sym (take-map (λ s. s.value) n kept)

-- ---- both lists are all entries

pub all_is : (kept : ℕ) (entries : List Entry) (limits : Limits) → all_entries (catalogued kept entries limits) ≡ entries
all_is kept entries limits = take-append-drop kept entries

pub engine_is : (engine : Engined) (kept kept_bytes : ℕ) (entries : List Entry) (bytes : ℕ) (limits : Limits) → IsCatalogue engine kept kept_bytes entries bytes limits
    → engine.state ≡ state_of (all_entries (catalogued kept entries limits))
engine_is engine kept kept_bytes entries bytes limits c = c.state_is ∙ ap state_of (sym (all_is kept entries limits))

pub catalogue_empty : (limits : Limits) → IsCatalogue empty_engine 0 0 [] 0 limits
catalogue_empty limits = record {
  state_is = empty_is;
  before_is = empty_is;
  admitted = All-from_recursion IsAdmitted [] tt;
  bytes_are = refl;
  kept_bytes_are = refl;
  entries_fit = omega arith;
  bytes_fit = omega arith;
  within = omega arith;
}

-- ---- one more entry

pub catalogue_added : (engine next : Engined) (kept kept_bytes : ℕ) (entries now : List Entry) (bytes : ℕ) (limits : Limits) (e : Entry) → IsCatalogue engine kept kept_bytes entries bytes limits → IsAdmitted e
    → is_full (catalogued kept entries limits) e ≡ false → next.state ≡ step engine.state (arrival_of e) → next.before ≡ engine.before → now ≡ entries ++ e ∷ []
    → IsCatalogue next kept kept_bytes now (bytes + entry_size e) limits
catalogue_added engine next kept kept_bytes entries now bytes limits e c admitted full is stays put =
    let room = room_of (catalogued kept entries limits) entries e (all_is kept entries limits) full in
    let size = size_behind entries e in
    let longer = length_last entries e in
    let bytes_were = c.bytes_are in
    let count_fits = room.count in
    let size_fits = room.size in
    let within = c.within in
    let same : take kept (entries ++ e ∷ []) ≡ take kept entries = take-append-le kept entries (e ∷ []) within in
    subst (λ (all : List Entry). IsCatalogue next kept kept_bytes all (bytes + entry_size e) limits) (sym put)
    (record {
      state_is = is ∙ ap (λ (s : State). step s (arrival_of e)) c.state_is ∙ sym (state_last entries e);
      before_is = stays ∙ c.before_is ∙ ap state_of (sym same);
      admitted = All-from_recursion IsAdmitted (entries ++ e ∷ []) (each_last entries e (recursion_from_All IsAdmitted entries c.admitted) admitted);
      bytes_are = omega arith;
      kept_bytes_are = c.kept_bytes_are ∙ ap entries_size (sym same);
      entries_fit = omega arith;
      bytes_fit = omega arith;
      within = omega arith;
    })

-- the entry is staged behind the others
pub staged_is : (kept : ℕ) (entries now : List Entry) (limits : Limits) (e : Entry) → kept ≤ length entries → now ≡ entries ++ e ∷ []
    → catalogued kept now limits ≡ with_staged (catalogued kept entries limits) e
staged_is kept entries now limits e within put =
    ap (λ (all : List Entry). catalogued kept all limits) put
    ∙ (λ i. record { history = take-append-le kept entries (e ∷ []) within i; staged = drop-append-le kept entries (e ∷ []) within i; limits = limits })

-- ---- what is staged is kept or dropped

pub kept_is : (kept n : ℕ) (entries : List Entry) (limits : Limits) → n ≡ length entries → catalogued n entries limits ≡ with_kept (catalogued kept entries limits)
kept_is kept n entries limits whole =
    ap (λ (m : ℕ). catalogued m entries limits) whole
    ∙ (λ i. record { history = (take_whole entries ∙ sym (all_is kept entries limits)) i; staged = drop_none entries i; limits = limits })

pub kept_catalogue : (engine next : Engined) (kept kept_bytes n : ℕ) (entries : List Entry) (bytes : ℕ) (limits : Limits) → IsCatalogue engine kept kept_bytes entries bytes limits
    → next ≡ record { state = engine.state; before = engine.state } → n ≡ length entries → IsCatalogue next n bytes entries bytes limits
kept_catalogue engine next kept kept_bytes n entries bytes limits c is whole =
    let all : take n entries ≡ entries = ap (λ (m : ℕ). take m entries) whole ∙ take_whole entries in
    record {
      state_is = ap (λ (x : Engined). x.state) is ∙ c.state_is;
      before_is = ap (λ (x : Engined). x.before) is ∙ c.state_is ∙ ap state_of (sym all);
      admitted = c.admitted;
      bytes_are = c.bytes_are;
      kept_bytes_are = c.bytes_are ∙ ap entries_size (sym all);
      entries_fit = c.entries_fit;
      bytes_fit = c.bytes_fit;
      within = omega (arith, whole);
    }

take_again : (i : ℕ) (xs : List Entry) → take i (take i xs) ≡ take i xs
take_again zero xs = refl
take_again (suc i) [] = refl
take_again (suc i) (x ∷ xs) = ap (λ l. x ∷ l) (take_again i xs)

drop_taken : (i : ℕ) (xs : List Entry) → drop i (take i xs) ≡ []
drop_taken zero xs = refl
drop_taken (suc i) [] = refl
drop_taken (suc i) (x ∷ xs) = drop_taken i xs

taken_long : (i : ℕ) (xs : List Entry) → i ≤ length xs → length (take i xs) ≡ i
taken_long zero xs h = refl
taken_long (suc i) [] h = omega (arith, h)
taken_long (suc i) (x ∷ xs) h = let rest = taken_long i xs (omega (arith, h)) in omega (arith, rest)

pub undone_catalogue : (engine next : Engined) (kept kept_bytes : ℕ) (entries now : List Entry) (bytes : ℕ) (limits : Limits) → IsCatalogue engine kept kept_bytes entries bytes limits
    → next ≡ record { state = engine.before; before = engine.before } → now ≡ take kept entries → IsCatalogue next kept kept_bytes now kept_bytes limits
undone_catalogue engine next kept kept_bytes entries now bytes limits c is put =
    let size = size_taken kept entries in
    let few = length_taken kept entries in
    let size_fits = c.bytes_fit in
    let count_fits = c.entries_fit in
    let long = taken_long kept entries c.within in
    let again = take_again kept entries in
    subst (λ (all : List Entry). IsCatalogue next kept kept_bytes all kept_bytes limits) (sym put)
    (record {
      state_is = ap (λ (x : Engined). x.state) is ∙ c.before_is;
      before_is = ap (λ (x : Engined). x.before) is ∙ c.before_is ∙ ap state_of (sym again);
      admitted = All-from_recursion IsAdmitted (take kept entries) (each_taken kept entries (recursion_from_All IsAdmitted entries c.admitted));
      bytes_are = c.kept_bytes_are;
      kept_bytes_are = c.kept_bytes_are ∙ ap entries_size (sym again);
      entries_fit = omega arith;
      bytes_fit = omega arith;
      within = omega (arith, long);
    })

pub undone_is : (kept : ℕ) (entries now : List Entry) (limits : Limits) → now ≡ take kept entries → catalogued kept now limits ≡ without_staged (catalogued kept entries limits)
undone_is kept entries now limits put =
    ap (λ (all : List Entry). catalogued kept all limits) put
    ∙ (λ i. record { history = take_again kept entries i; staged = drop_taken kept entries i; limits = limits })
