-- Which entries a payload holds.
use Rattle.std.proofs.Common.{◌≡◌, ◌≢◌, ◌∙◌, ℕ, suc, ◌+◌, ◌-◌, ◌^◌, ◌<◌, ◌≤◌, true, List, [], ◌∷◌, ◌++◌, length, get_or, take, drop, slice_get, Option, Some, None, IsUtf8, refl, sym, ap, subst, arith, append_assoc, length-append, length-drop, add-one}
use Rattle.std.proofs.Math.Seq.{drop-cons, drop-length}
use Rattle.std.proofs.lemmas.Grind.{flat_map-append}
use Rattle.std.proofs.lemmas.List.Elements.{All-push}
use Rattle.std.proofs.lemmas.List.{take-append-drop, append-nil}
use Rattle.std.proofs.lemmas.Bool.{both_ways, and_parts}
use Rattle.std.proofs.lemmas.Option.{get_or_from_slice_get, slice_get-get_or}
use Rattle.std.proofs.Math.Seq.{get_or-append_right}
use Rattle.std.specs.Option.{option_map_or}
use Rattle.std.specs.Int.{w32, w64, to_be_bytes}
use Rattle.std.specs.List.{All, flat_map, last_or}
use Rattle.marc_types.specs.Valid.{is_code}
use Rattle.iso2709_record.proofs.Spelled.{parts_same}
use Rattle.entry_record.specs.History.{last_run}
use Rattle.entry_record.proofs.Graphic.{text_of_graphic, code_is_graphic}
use Rattle.marc_types.specs.declared.entry.Entry.{Entry}
use Rattle.entry_history.specs.Format.{payload_head, entry_bytes, payload_bytes}
use Rattle.entry_history.specs.Payloads.{IsEntry, IsOf, CanFollow, IsCount, HoldsNow}
use Rattle.entry_history.specs.Reading.{BeginWith, IsNoEntry, AreEntries, AreNoEntries, AreReadSoFar, HasHead, HasNoHead, HoldsNoneNow, IsNoCode}
use Rattle.entry_history.specs.declared.fault.EntryFault.{EntryFault}
use Rattle.entry_history.specs.declared.fault.EntryFault.TheVariants.{BadEntry, NoMemory}
use Rattle.entry_history.proofs.ReadEntries.{entry_long}
use Rattle.entry_record.proofs.Spelled.{long_once, short_once}
use Rattle.entry_history.proofs.Spelled.{entry_once}

-- the next entry of all that the bytes can be
next_begins : (run loader : ℕ) (library : List ℕ) (count : ℕ) (bytes : List ℕ) (done : ℕ) (entries : List Entry) (rest : List ℕ) (all : List Entry) (d : Entry)
    → AreReadSoFar run loader library count bytes done entries rest → done < count → AreEntries run loader library count bytes all
    → BeginWith run loader library rest (get_or all done d) (flat_map entry_bytes (drop (suc done) all))
next_begins run loader library count bytes done entries rest all d so_far more are =
    let within : done < length all = omega (arith, are.count_is) in
    record {
      written = ap (flat_map entry_bytes) (sym (drop-cons all done d within)) ∙ so_far.left all are;
      shared = are.shared done d within;
      entry_is = are.entries_are done d within;
    }

pub one_more : (run loader : ℕ) (library : List ℕ) (count : ℕ) (bytes : List ℕ) (done : ℕ) (entries : List Entry) (rest behind : List ℕ) (e : Entry)
    → AreReadSoFar run loader library count bytes done entries rest → done < count → BeginWith run loader library rest e behind
    → AreReadSoFar run loader library count bytes (done + 1) (entries ++ e ∷ []) behind
one_more run loader library count bytes done entries rest behind e so_far more begin = record {
  written =
      ap (λ xs. xs ++ behind) (flat_map-append entry_bytes entries (e ∷ []) ∙ ap (λ xs. flat_map entry_bytes entries ++ xs) (append-nil (entry_bytes e)))
      ∙ append_assoc (flat_map entry_bytes entries) (entry_bytes e) behind
      ∙ ap (λ xs. flat_map entry_bytes entries ++ xs) begin.written
      ∙ so_far.written;
  count_is = omega (arith, length-append entries (e ∷ []), so_far.count_is);
  shared = All-push (IsOf run loader library) entries e so_far.shared begin.shared;
  entries_are = All-push IsEntry entries e so_far.entries_are begin.entry_is;
  left = λ all are.
      let other = next_begins run loader library count bytes done entries rest all e so_far more are in
      let once = entry_once run loader library (get_or all done e) e (flat_map entry_bytes (drop (suc done) all)) behind
      other.entry_is begin.entry_is other.shared begin.shared (other.written ∙ sym begin.written) in
      rw (add-one done) once.1;
}

pub none_more : (run loader : ℕ) (library : List ℕ) (count : ℕ) (bytes : List ℕ) (done : ℕ) (entries : List Entry) (rest : List ℕ) (fault : EntryFault)
    → AreReadSoFar run loader library count bytes done entries rest → done < count → IsNoEntry run loader library rest fault
    → AreNoEntries run loader library count bytes fault
none_more run loader library count bytes done entries rest BadEntry so_far more none = λ all are. at all are (drop done all) refl where
  at : (all : List Entry) → AreEntries run loader library count bytes all → (left : List Entry) → left ≡ drop done all → ⊥
  at all are [] is = absurd (omega (arith, ap length is, length-drop done all, are.count_is, more))
  at all are (f ∷ fs) is =
      none (get_or all done f) (flat_map entry_bytes (drop (suc done) all)) (next_begins run loader library count bytes done entries rest all f so_far more are)
none_more run loader library count bytes done entries rest NoMemory so_far more none = tt

pub begin_so : (run loader : ℕ) (library : List ℕ) (count : ℕ) (bytes : List ℕ) → AreReadSoFar run loader library count bytes 0 [] bytes
begin_so run loader library count bytes = record {
  written = refl;
  count_is = refl;
  shared = λ k d within. absurd (omega (arith, within));
  entries_are = λ k d within. absurd (omega (arith, within));
  left = λ all are. are.written;
}

pub all_read : (run loader : ℕ) (library : List ℕ) (count : ℕ) (bytes : List ℕ) (done : ℕ) (entries : List Entry) (rest : List ℕ)
    → AreReadSoFar run loader library count bytes done entries rest → done ≡ count → rest ≡ [] → AreEntries run loader library count bytes entries
all_read run loader library count bytes done entries rest so_far end empty = record {
  written = sym (append-nil (flat_map entry_bytes entries)) ∙ ap (λ xs. flat_map entry_bytes entries ++ xs) (sym empty) ∙ so_far.written;
  count_is = so_far.count_is ∙ end;
  shared = so_far.shared;
  entries_are = so_far.entries_are;
}

pub too_many : (run loader : ℕ) (library : List ℕ) (count : ℕ) (bytes : List ℕ) (done : ℕ) (entries : List Entry) (rest : List ℕ)
    → AreReadSoFar run loader library count bytes done entries rest → done ≡ count → rest ≢ []
    → (all : List Entry) → AreEntries run loader library count bytes all → ⊥
too_many run loader library count bytes done entries rest so_far end some all are =
    let none : drop done all ≡ [] = ap (λ n. drop n all) (end ∙ sym are.count_is) ∙ drop-length all in
    some (sym (so_far.left all are) ∙ ap (flat_map entry_bytes) none)

pub no_entries : (run loader : ℕ) (library : List ℕ) (count : ℕ) (bytes : List ℕ) (done : ℕ) (entries : List Entry) (rest : List ℕ)
    → AreReadSoFar run loader library count bytes done entries rest → done ≡ count → rest ≢ []
    → AreNoEntries run loader library count bytes BadEntry
no_entries run loader library count bytes done entries rest so_far end some = λ all are. too_many run loader library count bytes done entries rest so_far end some all are

-- the parts of a payload, one behind the other
head_parts : (run loader count : ℕ) (library entries : List ℕ)
    → payload_head run loader library count ++ entries
    ≡ to_be_bytes w64 run ++ (to_be_bytes w32 loader ++ (length library ∷ (library ++ (count ∷ entries))))
unfolding payload_head
head_parts run loader count library entries = simp append_assoc refl

head_told : (run loader count r l n : ℕ) (library entries more payload : List ℕ) → HasHead payload run loader library count entries
    → payload ≡ to_be_bytes w64 r ++ (to_be_bytes w32 l ++ (n ∷ more)) → r < 2 ^ 64 → l < 2 ^ 32
    → (run ≡ r) × (loader ≡ l) × (length library ≡ n) × (library ++ (count ∷ entries) ≡ more)
head_told run loader count r l n library entries more payload h split small short =
    let runs = long_once run r _ _ h.run_fits small (sym (head_parts run loader count library entries) ∙ h.written ∙ split) in
    let loaders = short_once loader l _ _ h.loader_fits short runs.1 in
    let rest = loaders.1 in
    (runs.0, loaders.0, cons_head _ _ _ _ rest, cons_tail _ _ _ _ rest)
  where
    cons_head : (a b : ℕ) (x y : List ℕ) → a ∷ x ≡ b ∷ y → a ≡ b
    cons_head a b x y e = cc

    cons_tail : (a b : ℕ) (x y : List ℕ) → a ∷ x ≡ b ∷ y → x ≡ y
    cons_tail a b x y e = cc

head_long : (payload : List ℕ) (run loader count : ℕ) (library entries : List ℕ) → HasHead payload run loader library count entries → 14 ≤ length payload
head_long payload run loader count library entries h =
    omega (
      arith,
      ap length (sym (head_parts run loader count library entries) ∙ h.written),
      length-append (to_be_bytes w64 run) (to_be_bytes w32 loader ++ (length library ∷ (library ++ (count ∷ entries)))),
      length-append (to_be_bytes w32 loader) (length library ∷ (library ++ (count ∷ entries))),
      length-append library (count ∷ entries),
    )

pub short_run : (payload : List ℕ) → length payload < 8 → HasNoHead payload
short_run payload short = λ run loader count library entries h. omega (arith, head_long payload run loader count library entries h)

pub short_loader : (payload behind : List ℕ) (r : ℕ) → payload ≡ to_be_bytes w64 r ++ behind → length behind < 4 → HasNoHead payload
short_loader payload behind r split short = λ run loader count library entries h.
    omega (arith, head_long payload run loader count library entries h, ap length split, length-append (to_be_bytes w64 r) behind)

pub short_len : (payload behind more : List ℕ) (r l : ℕ) → payload ≡ to_be_bytes w64 r ++ behind → behind ≡ to_be_bytes w32 l ++ more → length more ≡ 0 → HasNoHead payload
short_len payload behind more r l first second short = λ run loader count library entries h.
    omega (
      arith,
      head_long payload run loader count library entries h,
      ap length first,
      ap length second,
      length-append (to_be_bytes w64 r) behind,
      length-append (to_be_bytes w32 l) more,
    )

-- a payload up to the library's length
pub joined : (payload behind more last : List ℕ) (r l n : ℕ) → payload ≡ to_be_bytes w64 r ++ behind → behind ≡ to_be_bytes w32 l ++ more → more ≡ n ∷ last
    → payload ≡ to_be_bytes w64 r ++ (to_be_bytes w32 l ++ (n ∷ last))
joined payload behind more last r l n first second third =
    first ∙ ap (λ xs. to_be_bytes w64 r ++ xs) (second ∙ ap (λ xs. to_be_bytes w32 l ++ xs) third)

pub short_library : (payload more : List ℕ) (r l n : ℕ) → payload ≡ to_be_bytes w64 r ++ (to_be_bytes w32 l ++ (n ∷ more)) → r < 2 ^ 64 → l < 2 ^ 32
    → length more < n + 1 → HasNoHead payload
short_library payload more r l n split small short few = λ run loader count library entries h.
    let t = head_told run loader count r l n library entries more payload h split small short in
    omega (arith, t.2, ap length t.3, length-append library (count ∷ entries))

pub head_here : (payload more library behind entries : List ℕ) (r l n count : ℕ) → payload ≡ to_be_bytes w64 r ++ (to_be_bytes w32 l ++ (n ∷ more)) → r < 2 ^ 64
    → l < 2 ^ 32 → library ≡ take n more → behind ≡ drop n more → length library ≡ n → behind ≡ count ∷ entries → HasHead payload r l library count entries
head_here payload more library behind entries r l n count split small short front back len last = record {
  run_fits = small;
  loader_fits = short;
  written =
      head_parts r l count library entries
      ∙ ap (λ xs. to_be_bytes w64 r ++ (to_be_bytes w32 l ++ xs))
      (rw (len, ← last, front, back) (ap (λ xs. n ∷ xs) (take-append-drop n more)))
      ∙ sym split;
}

pub payload_split : (run loader : ℕ) (library : List ℕ) (entries : List Entry)
    → payload_head run loader library (length entries) ++ flat_map entry_bytes entries ≡ payload_bytes run loader library entries
unfolding payload_bytes
payload_split run loader library entries = refl

pub run_small : (run loader : ℕ) (library : List ℕ) (entries : List Entry) → All (IsOf run loader library) entries → All IsEntry entries → 1 ≤ length entries
    → (run < 2 ^ 64) × (loader < 2 ^ 32) × (is_code library ≡ true)
run_small run loader library [] shared are some = absurd (omega arith)
run_small run loader library (e ∷ es) shared are some =
    let of_load : IsOf run loader library e = shared 0 e (omega arith) in
    let is : IsEntry e = are 0 e (omega arith) in
    (rw (← of_load.run_is) is.run_fits, rw (← of_load.loader_is) is.loader_fits, ap is_code (sym of_load.library_is) ∙ is.admitted.library)

-- what holds of the head of a payload that holds entries
pub held : (payload : List ℕ) (run loader : ℕ) (library : List ℕ) (count : ℕ) (bytes : List ℕ) (before entries : List Entry)
    → HasHead payload run loader library count bytes → HoldsNow before entries payload
    → CanFollow before run × IsCount count × (is_code library ≡ true) × AreEntries run loader library count bytes entries
held payload run loader library count bytes before entries head h =
    let small = run_small h.run h.loader h.library entries h.shared h.entries_are h.count.some in
    let other : HasHead payload h.run h.loader h.library (length entries) (flat_map entry_bytes entries) =
    record { run_fits = small.0; loader_fits = small.1; written = payload_split h.run h.loader h.library entries ∙ h.written } in
    let t = head_told h.run h.loader (length entries) run loader (length library) h.library (flat_map entry_bytes entries) (library ++ (count ∷ bytes)) payload
    other (sym head.written ∙ head_parts run loader count library bytes) head.run_fits head.loader_fits in
    let parts = parts_same h.library library (length entries ∷ flat_map entry_bytes entries) (count ∷ bytes) t.2 t.3 in
    let number : length entries ≡ count = cons_first _ _ _ _ parts.1 in (
      subst (CanFollow before) t.0 h.follows,
      subst IsCount number h.count,
      subst (λ code. is_code code ≡ true) parts.0 small.2,
      record {
        written = cons_others _ _ _ _ parts.1;
        count_is = number;
        shared = subst (λ r. All (IsOf r loader library) entries) t.0 (subst (λ l. All (IsOf h.run l library) entries) t.1 (subst (λ code. All (IsOf h.run h.loader code) entries) parts.0 h.shared));
        entries_are = h.entries_are;
      },
    )
  where
    cons_first : (a b : ℕ) (x y : List ℕ) → a ∷ x ≡ b ∷ y → a ≡ b
    cons_first a b x y e = cc

    cons_others : (a b : ℕ) (x y : List ℕ) → a ∷ x ≡ b ∷ y → x ≡ y
    cons_others a b x y e = cc

pub holds_these : (payload : List ℕ) (run loader : ℕ) (library : List ℕ) (count : ℕ) (bytes : List ℕ) (before entries : List Entry)
    → HasHead payload run loader library count bytes → CanFollow before run → IsCount count → AreEntries run loader library count bytes entries
    → HoldsNow before entries payload
unfolding payload_bytes
holds_these payload run loader library count bytes before entries head follows number are = record {
  run = run;
  loader = loader;
  library = library;
  written = rw (are.count_is, are.written) head.written;
  follows = follows;
  count = rw are.count_is number;
  shared = are.shared;
  entries_are = are.entries_are;
}

pub holds_none : (payload : List ℕ) (run loader : ℕ) (library : List ℕ) (count : ℕ) (bytes : List ℕ) (before : List Entry) (fault : EntryFault)
    → HasHead payload run loader library count bytes → AreNoEntries run loader library count bytes fault → HoldsNoneNow before payload fault
holds_none payload run loader library count bytes before BadEntry head none = λ entries h.
    none entries (held payload run loader library count bytes before entries head h).3
holds_none payload run loader library count bytes before NoMemory head none = tt

pub no_code : (payload : List ℕ) (run loader : ℕ) (library : List ℕ) (count : ℕ) (bytes : List ℕ) (before : List Entry) (fault : EntryFault)
    → HasHead payload run loader library count bytes → IsNoCode library fault → HoldsNoneNow before payload fault
no_code payload run loader library count bytes before BadEntry head none = λ entries h.
    both_ways _ none (held payload run loader library count bytes before entries head h).2
no_code payload run loader library count bytes before NoMemory head none = tt

pub headless : (payload : List ℕ) (before : List Entry) → HasNoHead payload → HoldsNoneNow before payload BadEntry
headless payload before none = λ entries h.
    let small = run_small h.run h.loader h.library entries h.shared h.entries_are h.count.some in
    none h.run h.loader (length entries) h.library (flat_map entry_bytes entries)
    (record { run_fits = small.0; loader_fits = small.1; written = payload_split h.run h.loader h.library entries ∙ h.written })

-- the run of the last entry
last_else : (o : Option Entry) (d : Entry) (entries : List Entry) → 0 < length entries → last_or o entries ≡ Some (get_or entries (length entries - 1) d)
last_else o d [] some = absurd (omega arith)
last_else o d (e ∷ []) some = refl
last_else o d (e ∷ (f ∷ fs)) some =
    let place : length (e ∷ (f ∷ fs)) - 1 ≡ suc (length (f ∷ fs) - 1) = omega arith in
    last_else (Some e) d (f ∷ fs) (omega arith) ∙ ap (λ i. Some (get_or (e ∷ (f ∷ fs)) i d)) (sym place)

pub last_run_is : (entries : List Entry) (e : Entry) → slice_get entries (length entries - 1) ≡ Some e → last_run entries ≡ e.run
last_run_is [] e is = cc
last_run_is (f ∷ fs) e is =
    ap (λ o. option_map_or (λ (g : Entry). g.run) o 0) (last_else None e (f ∷ fs) (omega arith))
    ∙ ap (λ (g : Entry). g.run) (get_or_from_slice_get (f ∷ fs) (length (f ∷ fs) - 1) e e is)

-- the bytes of a code are a text
pub code_is_text : (bytes : List ℕ) → is_code bytes ≡ true → IsUtf8 bytes
unfolding is_code
code_is_text bytes h = text_of_graphic bytes (code_is_graphic bytes (and_parts _ _ h).1)

-- the run of the last entry behind others
pub last_run_behind : (before entries : List Entry) (e : Entry) → slice_get entries (length entries - 1) ≡ Some e → last_run (before ++ entries) ≡ e.run
last_run_behind before [] e is = cc
last_run_behind before (f ∷ fs) e is =
    let len = length-append before (f ∷ fs) in
    let last = length (before ++ f ∷ fs) - 1 in
    let place : last - length before ≡ length (f ∷ fs) - 1 = omega (arith, len) in
    ap (λ o. option_map_or (λ (g : Entry). g.run) o 0) (last_else None e (before ++ f ∷ fs) (omega (arith, len)))
    ∙ ap (λ (g : Entry). g.run)
    (get_or-append_right before (f ∷ fs) last e (omega (arith, len)) ∙ ap (λ i. get_or (f ∷ fs) i e) place
    ∙ get_or_from_slice_get (f ∷ fs) (length (f ∷ fs) - 1) e e is)

pub last_run_before : (before entries : List Entry) → slice_get entries (length entries - 1) ≡ None → last_run (before ++ entries) ≡ last_run before
last_run_before before [] none = ap last_run (append-nil before)
last_run_before before (f ∷ fs) none =
    let some : Some (get_or (f ∷ fs) (length (f ∷ fs) - 1) f) ≡ None = sym (slice_get-get_or (f ∷ fs) (length (f ∷ fs) - 1) f (omega arith)) ∙ none in
    cc

-- an entry takes a byte or more
so_many : (entries : List Entry) → length entries ≤ length (flat_map entry_bytes entries)
so_many [] = omega arith
so_many (e ∷ es) =
    omega (arith, so_many es, length-append (entry_bytes e) (flat_map entry_bytes es), length-append (entry_bytes e) [], entry_long e [])

pub so_many_bytes : (payload : List ℕ) (run loader : ℕ) (library : List ℕ) (count : ℕ) (bytes : List ℕ) (entries : List Entry)
    → HasHead payload run loader library count bytes → AreEntries run loader library count bytes entries → length entries ≤ length payload
so_many_bytes payload run loader library count bytes entries head are =
    omega (arith, so_many entries, ap length are.written, length-append (payload_head run loader library count) bytes, ap length head.written)
