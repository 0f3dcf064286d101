-- Which entries a payload of version 1 holds.
use Rattle.std.proofs.Common.{◌≡◌, ◌∙◌, ℕ, suc, ◌+◌, ◌^◌, ◌<◌, ◌≤◌, true, List, [], ◌∷◌, ◌++◌, length, get_or, drop, None, refl, sym, ap, subst, arith, append_assoc, length-append, length-drop, add-one}
use Rattle.std.proofs.Math.Seq.{drop-cons}
use Rattle.std.proofs.lemmas.Grind.{flat_map-append}
use Rattle.std.proofs.lemmas.List.Elements.{All-push}
use Rattle.std.proofs.lemmas.Bool.{both_ways}
use Rattle.std.specs.Int.{w32, w64, to_be_bytes}
use Rattle.std.specs.List.{flat_map}
use Rattle.std.proofs.lemmas.List.{append-nil}
use Rattle.marc_types.specs.Valid.{is_code}
use Rattle.marc_types.specs.declared.key.Key.{Key}
use Rattle.marc_types.specs.declared.entry.Entry.{Entry}
use Rattle.iso2709_record.specs.Written.{record_length, record_bytes}
use Rattle.iso2709_record.proofs.Lengths.{length-record_bytes}
use Rattle.iso2709_record.proofs.Spelled.{parts_same}
use Rattle.reading.specs.Reading.{IsReadAs}
use Rattle.entry_record.specs.Admission.{admission_refusal}
use Rattle.entry_record.specs.Identity.{key_of}
use Rattle.entry_record.specs.Prepared.{new_entry}
use Rattle.entry_history.specs.Payloads.{IsEntry, IsOld, IsCount, HoldsOld, old_entry_bytes, old_payload_bytes}
use Rattle.entry_history.specs.Reading.{IsNotCoded, IsNotSized, IsOldHead, BeginOld, BeginWithNoOld, IsNoOldEntry, IsOldItem, AreOld, AreNoOld, AreOldSoFar, HoldsNoneOld, IsNotWritten, IsNoCode}
use Rattle.entry_history.specs.declared.fault.EntryFault.{EntryFault}
use Rattle.entry_history.specs.declared.fault.EntryFault.TheVariants.{BadEntry, NoMemory}
use Rattle.entry_record.proofs.Spelled.{long_once, short_once}
use Rattle.entry_history.proofs.Spelled.{fitting}
use Rattle.entry_history.proofs.ReadEntries.{one_record}
use Rattle.entry_history.proofs.Histories.{old_parts, old_once}

cons_first : {X : Type 0} (a b : X) (x y : List X) → a ∷ x ≡ b ∷ y → a ≡ b
cons_first a b x y e = cc

cons_others : {X : Type 0} (a b : X) (x y : List X) → a ∷ x ≡ b ∷ y → x ≡ y
cons_others a b x y e = cc

-- what an entry at the front of bytes says of their parts
old_long : (e : Entry) (rest : List ℕ) → 12 ≤ length (old_entry_bytes e ++ rest)
old_long e rest =
    omega (
      arith,
      ap length (old_parts e rest),
      length-append (to_be_bytes w32 e.loader) (to_be_bytes w64 e.ordinal ++ (length e.library ∷ (e.library ++ (to_be_bytes w32 (record_length e.rec.fields) ++ (record_bytes e.rec.leader e.rec.fields ++ rest))))),
      length-append (to_be_bytes w64 e.ordinal) (length e.library ∷ (e.library ++ (to_be_bytes w32 (record_length e.rec.fields) ++ (record_bytes e.rec.leader e.rec.fields ++ rest)))),
    )

pub no_loader : (bytes : List ℕ) → length bytes < 4 → BeginWithNoOld bytes
no_loader bytes short = λ e rest begin. omega (arith, ap length begin.written, old_long e rest)

pub no_old_ordinal : (bytes behind : List ℕ) (loader : ℕ) → bytes ≡ to_be_bytes w32 loader ++ behind → length behind < 8 → BeginWithNoOld bytes
no_old_ordinal bytes behind loader split short = λ e rest begin.
    omega (arith, ap length begin.written, ap length split, length-append (to_be_bytes w32 loader) behind, old_long e rest)

behind_numbers : (bytes behind more : List ℕ) (loader ordinal : ℕ) (e : Entry) (rest : List ℕ) → bytes ≡ to_be_bytes w32 loader ++ behind
    → behind ≡ to_be_bytes w64 ordinal ++ more → loader < 2 ^ 32 → ordinal < 2 ^ 64 → BeginOld bytes e rest
    → (e.loader ≡ loader) × (e.ordinal ≡ ordinal) × (length e.library ∷ (e.library ++ (to_be_bytes w32 (record_length e.rec.fields) ++ (record_bytes e.rec.leader e.rec.fields ++ rest))) ≡ more)
behind_numbers bytes behind more loader ordinal e rest first second small fits begin =
    let loaders = short_once e.loader loader _ _ begin.entry_is.loader_fits small (sym (old_parts e rest) ∙ begin.written ∙ first) in
    let ordinals = long_once e.ordinal ordinal _ _ begin.entry_is.ordinal_fits fits (loaders.1 ∙ second) in
    (loaders.0, ordinals.0, ordinals.1)

pub no_library : (bytes behind more : List ℕ) (loader ordinal : ℕ) → bytes ≡ to_be_bytes w32 loader ++ behind → behind ≡ to_be_bytes w64 ordinal ++ more
    → loader < 2 ^ 32 → ordinal < 2 ^ 64 → IsNotCoded more → BeginWithNoOld bytes
no_library bytes behind more loader ordinal first second small fits none = λ e rest begin.
    none e.library _ (behind_numbers bytes behind more loader ordinal e rest first second small fits begin).2

written_size : (e : Entry) → length (record_bytes e.rec.leader e.rec.fields) ≡ record_length e.rec.fields
written_size e = length-record_bytes e.rec.leader e.rec.fields

pub no_old_record : (bytes behind more library last : List ℕ) (loader ordinal : ℕ) → bytes ≡ to_be_bytes w32 loader ++ behind → behind ≡ to_be_bytes w64 ordinal ++ more
    → loader < 2 ^ 32 → ordinal < 2 ^ 64 → length library ∷ (library ++ last) ≡ more → IsNotSized last → BeginWithNoOld bytes
no_old_record bytes behind more library last loader ordinal first second small fits third none = λ e rest begin.
    let same = (behind_numbers bytes behind more loader ordinal e rest first second small fits begin).2 ∙ sym third in
    let libraries = parts_same e.library library _ _ (cons_first _ _ _ _ same) (cons_others _ _ _ _ same) in
    none (record_bytes e.rec.leader e.rec.fields) rest (rw (written_size e) (fitting e begin.entry_is))
    (ap (λ n. to_be_bytes w32 n ++ (record_bytes e.rec.leader e.rec.fields ++ rest)) (written_size e) ∙ libraries.1)

pub old_head_here : (bytes behind more library last written rest : List ℕ) (loader ordinal : ℕ) → bytes ≡ to_be_bytes w32 loader ++ behind
    → behind ≡ to_be_bytes w64 ordinal ++ more → loader < 2 ^ 32 → ordinal < 2 ^ 64 → length library ∷ (library ++ last) ≡ more
    → to_be_bytes w32 (length written) ++ (written ++ rest) ≡ last → length written < 2 ^ 32 → IsOldHead bytes loader ordinal library written rest
old_head_here bytes behind more library last written rest loader ordinal first second small fits third fourth short = record {
  loader_fits = small;
  ordinal_fits = fits;
  length_fits = short;
  split =
      first
      ∙ ap (λ xs. to_be_bytes w32 loader ++ xs)
      (second ∙ ap (λ xs. to_be_bytes w64 ordinal ++ xs) (sym third ∙ ap (λ xs. length library ∷ (library ++ xs)) (sym fourth)));
}

pub old_says : (bytes library written behind : List ℕ) (loader ordinal : ℕ) (e : Entry) (rest : List ℕ) → IsOldHead bytes loader ordinal library written behind
    → BeginOld bytes e rest → (e.ordinal ≡ ordinal) × (e.library ≡ library) × (record_bytes e.rec.leader e.rec.fields ≡ written)
old_says bytes library written behind loader ordinal e rest head begin =
    let t = behind_numbers bytes _ _ loader ordinal e rest head.split refl head.loader_fits head.ordinal_fits begin in
    let libraries = parts_same e.library library _ _ (cons_first _ _ _ _ t.2) (cons_others _ _ _ _ t.2) in
    let lengths = short_once (record_length e.rec.fields) (length written) _ _ (fitting e begin.entry_is) head.length_fits libraries.1 in
    let records = parts_same (record_bytes e.rec.leader e.rec.fields) written rest behind (written_size e ∙ lengths.0) lengths.1 in
    (t.1, libraries.0, records.0)

pub no_old_code : (bytes library written behind : List ℕ) (loader ordinal : ℕ) (fault : EntryFault) → IsOldHead bytes loader ordinal library written behind
    → IsNoCode library fault → IsNoOldEntry bytes fault
no_old_code bytes library written behind loader ordinal BadEntry head none = λ e rest begin.
    let says = old_says bytes library written behind loader ordinal e rest head begin in
    both_ways _ none (ap is_code (sym says.1) ∙ begin.entry_is.admitted.library)
no_old_code bytes library written behind loader ordinal NoMemory head none = tt

pub no_old_written : (bytes library written behind : List ℕ) (loader ordinal : ℕ) (fault : EntryFault) → IsOldHead bytes loader ordinal library written behind
    → IsNotWritten library ordinal written fault → IsNoOldEntry bytes fault
no_old_written bytes library written behind loader ordinal BadEntry head none = λ e rest begin.
    let says = old_says bytes library written behind loader ordinal e rest head begin in
    none e begin.entry_is says.1 says.0 says.2
no_old_written bytes library written behind loader ordinal NoMemory head none = tt

-- a record that isn't written so, or stands under another code, is no entry's
pub no_old_item : (bytes library written behind : List ℕ) (loader ordinal : ℕ) (made : Entry) → IsOldHead bytes loader ordinal library written behind
    → IsReadAs written made.rec.leader made.rec.fields → made ≡ new_entry library loader ordinal made.rec → (IsOldItem written made → ⊥) → BeginWithNoOld bytes
no_old_item bytes library written behind loader ordinal made head read is none = λ e rest begin.
    let says = old_says bytes library written behind loader ordinal e rest head begin in
    let same = one_record written made.rec.leader made.rec.fields e begin.entry_is says.2 read in
    let from : made.library ≡ library = ap (λ (f : Entry). f.library) is in
    let key : made.key ≡ e.key =
    ap (λ (f : Entry). f.key) is ∙ ap (λ fs. key_of library fs) same.1 ∙ ap (λ code. key_of code e.rec.fields) (sym says.1) ∙ sym begin.entry_is.admitted.key_is in
    none (record {
      code = ap (λ (k : Key). k.code) key ∙ sym begin.old.library_is ∙ says.1 ∙ sym from;
      written_is = ap (λ l. record_bytes l made.rec.fields) same.0 ∙ ap (λ fs. record_bytes e.rec.leader fs) same.1 ∙ says.2;
    })

pub old_begun : (bytes library written rest : List ℕ) (loader ordinal : ℕ) (made : Entry) → IsOldHead bytes loader ordinal library written rest
    → is_code library ≡ true → 1 ≤ ordinal → IsReadAs written made.rec.leader made.rec.fields → admission_refusal library made.rec.leader made.rec.fields ≡ None
    → made ≡ new_entry library loader ordinal made.rec → IsOldItem written made → BeginOld bytes made rest
old_begun bytes library written rest loader ordinal made head code some read taken is item =
    let its : made.ordinal ≡ ordinal = ap (λ (e : Entry). e.ordinal) is in
    let from : made.library ≡ library = ap (λ (e : Entry). e.library) is in
    let by : made.loader ≡ loader = ap (λ (e : Entry). e.loader) is in
    let none : made.run ≡ 0 = ap (λ (e : Entry). e.run) is in
    let size : record_length made.rec.fields ≡ length written = sym (written_size made) ∙ ap length item.written_is in
    record {
      written = old_parts made rest ∙ rw (by, its, from, size, item.written_is) (sym head.split);
      old = record { run_is = none; library_is = sym item.code };
      entry_is = record {
        admitted = record {
          ordinal = rw its some;
          library = rw from code;
          taken = rw from taken;
          class_is = ap (λ (e : Entry). e.class) is;
          key_is = ap (λ (e : Entry). e.key) is ∙ ap (λ code. key_of code made.rec.fields) (sym from);
        };
        run_fits = rw none (omega arith);
        ordinal_fits = rw its head.ordinal_fits;
        loader_fits = rw by head.loader_fits;
        reads = subst (λ xs. IsReadAs xs made.rec.leader made.rec.fields) (sym item.written_is) read;
      };
    }

-- one entry after the other
next_old : (count : ℕ) (bytes : List ℕ) (done : ℕ) (entries : List Entry) (rest : List ℕ) (all : List Entry) (d : Entry) → AreOldSoFar count bytes done entries rest
    → done < count → AreOld count bytes all → BeginOld rest (get_or all done d) (flat_map old_entry_bytes (drop (suc done) all))
next_old count bytes done entries rest all d so_far more are =
    let within : done < length all = omega (arith, are.count_is) in
    record {
      written = ap (flat_map old_entry_bytes) (sym (drop-cons all done d within)) ∙ so_far.left all are;
      old = are.old done d within;
      entry_is = are.entries_are done d within;
    }

pub one_more_old : (count : ℕ) (bytes : List ℕ) (done : ℕ) (entries : List Entry) (rest behind : List ℕ) (e : Entry) → AreOldSoFar count bytes done entries rest
    → done < count → BeginOld rest e behind → AreOldSoFar count bytes (done + 1) (entries ++ e ∷ []) behind
one_more_old count bytes done entries rest behind e so_far more begin = record {
  written =
      ap (λ xs. xs ++ behind) (flat_map-append old_entry_bytes entries (e ∷ []) ∙ ap (λ xs. flat_map old_entry_bytes entries ++ xs) (append-nil (old_entry_bytes e)))
      ∙ append_assoc (flat_map old_entry_bytes entries) (old_entry_bytes e) behind
      ∙ ap (λ xs. flat_map old_entry_bytes entries ++ xs) begin.written
      ∙ so_far.written;
  count_is = omega (arith, length-append entries (e ∷ []), so_far.count_is);
  old = All-push IsOld entries e so_far.old begin.old;
  entries_are = All-push IsEntry entries e so_far.entries_are begin.entry_is;
  left = λ all are.
      let other = next_old count bytes done entries rest all e so_far more are in
      let once = old_once (get_or all done e) e (flat_map old_entry_bytes (drop (suc done) all)) behind other.entry_is begin.entry_is other.old begin.old (other.written ∙ sym begin.written) in
      rw (add-one done) once.1;
}

pub none_more_old : (count : ℕ) (bytes : List ℕ) (done : ℕ) (entries : List Entry) (rest : List ℕ) (fault : EntryFault) → AreOldSoFar count bytes done entries rest
    → done < count → IsNoOldEntry rest fault → AreNoOld count bytes fault
none_more_old count bytes done entries rest BadEntry so_far more none = λ all are. at all are (drop done all) refl where
  at : (all : List Entry) → AreOld count bytes all → (left : List Entry) → left ≡ drop done all → ⊥
  at all are [] is = absurd (omega (arith, ap length is, length-drop done all, are.count_is, more))
  at all are (f ∷ fs) is = none (get_or all done f) (flat_map old_entry_bytes (drop (suc done) all)) (next_old count bytes done entries rest all f so_far more are)
none_more_old count bytes done entries rest NoMemory so_far more none = tt

-- the whole payload
pub holds_old : (payload bytes : List ℕ) (count : ℕ) (entries : List Entry) → payload ≡ count ∷ bytes → IsCount count → AreOld count bytes entries → HoldsOld entries payload
unfolding old_payload_bytes
holds_old payload bytes count entries split number are = record {
  written = rw (are.count_is, are.written) (sym split);
  count = rw are.count_is number;
  old = are.old;
  entries_are = are.entries_are;
}

pub held_old : (payload bytes : List ℕ) (count : ℕ) (entries : List Entry) → payload ≡ count ∷ bytes → HoldsOld entries payload → IsCount count × AreOld count bytes entries
unfolding old_payload_bytes
held_old payload bytes count entries split h =
    let same = h.written ∙ split in
    let number : length entries ≡ count = cons_first _ _ _ _ same in
    (subst IsCount number h.count, record { written = cons_others _ _ _ _ same; count_is = number; old = h.old; entries_are = h.entries_are })

pub empty_holds_none : (payload : List ℕ) → length payload ≡ 0 → (entries : List Entry) → HoldsOld entries payload → ⊥
unfolding old_payload_bytes
empty_holds_none payload none entries h = omega (arith, none, ap length h.written)

pub holds_no_old : (payload bytes : List ℕ) (count : ℕ) (fault : EntryFault) → payload ≡ count ∷ bytes → AreNoOld count bytes fault → HoldsNoneOld payload fault
holds_no_old payload bytes count BadEntry split none = λ entries h. none entries (held_old payload bytes count entries split h).1
holds_no_old payload bytes count NoMemory split none = tt

-- an entry takes a byte or more
so_many : (entries : List Entry) → length entries ≤ length (flat_map old_entry_bytes entries)
so_many [] = omega arith
so_many (e ∷ es) =
    omega (
      arith,
      so_many es,
      length-append (old_entry_bytes e) (flat_map old_entry_bytes es),
      length-append (old_entry_bytes e) [],
      ap length (old_parts e []),
      length-append (to_be_bytes w32 e.loader) (to_be_bytes w64 e.ordinal ++ (length e.library ∷ (e.library
          ++ (to_be_bytes w32 (record_length e.rec.fields) ++ (record_bytes e.rec.leader e.rec.fields ++ []))))),
    )

pub so_many_old : (payload bytes : List ℕ) (count : ℕ) (entries : List Entry) → payload ≡ count ∷ bytes → AreOld count bytes entries → length entries ≤ length payload
so_many_old payload bytes count entries split are = omega (arith, so_many entries, ap length are.written, ap length split)
