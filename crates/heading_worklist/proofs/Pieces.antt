-- The lines of a worklist, piece by piece.
use Rattle.std.proofs.Common.{◌≡◌, ◌∙◌, refl, sym, ap, ℕ, ◌+◌, ◌<◌, ◌≤◌, Bool, true, List, [], ◌∷◌, ◌++◌, append-nil, append_assoc, arith, drop, get_or, length, map, Option, Some, None}
use Rattle.std.specs.Prelude.{◌||◌, option_to_list}
use Rattle.std.specs.Borrow.{Bor}
use Rattle.std.specs.List.{cons_option, filter_map, flat_map, list_any}
use Rattle.std.proofs.lemmas.Grind.{flat_map-append}
use Rattle.outside.proofs.Fronts.{drop_next}
use Rattle.marc_types.specs.declared.key.Key.{Key}
use Rattle.catalogue_rules.specs.State.{Row, State}
use Rattle.catalogue_tables.specs.Sharing.{shown_keys}
use Rattle.numbered_store.specs.Kept.{kept_record, shown_row}
use Rattle.numbered_store.specs.declared.kept.StoredRecord.{StoredRecord}
use Rattle.heading_worklist.specs.Csv.{CsvLine, line_bytes, list_bytes, mark}
use Rattle.heading_worklist.specs.Counts.{Counted}
use Rattle.heading_worklist.specs.Lines.{column_names, crossing_among, crossing_line, crossing_lines, lines_across, shared_lines}
use Rattle.heading_worklist.specs.Worklist.{counted_lines, lines_behind}

line_then : (o : Option CsvLine) (rest : List CsvLine) → flat_map line_bytes (cons_option o rest) ≡ flat_map line_bytes (option_to_list o) ++ flat_map line_bytes rest
line_then None rest = refl
line_then (Some line) rest = ap (λ (l : List ℕ). l ++ flat_map line_bytes rest) (sym (append-nil (line_bytes line)))

-- the line of one more, where it has one
pub found_next : {X : Type 0} (f : X → Option CsvLine) (xs more : List X) (x : X) → xs ≡ x ∷ more
    → flat_map line_bytes (filter_map f xs) ≡ flat_map line_bytes (option_to_list (f x)) ++ flat_map line_bytes (filter_map f more)
found_next {X} f xs more x is = ap (λ (l : List X). flat_map line_bytes (filter_map f l)) is ∙ line_then (f x) (filter_map f more)

-- of keys as they are lent
pub key_found_next : (f : Key → Option CsvLine) (keys : List (Bor Key)) (i : ℕ) (key : Bor Key) → i < length keys → key ≡ get_or keys i key
    → flat_map line_bytes (filter_map f (shown_keys (drop i keys)))
    ≡ flat_map line_bytes (option_to_list (f key.now)) ++ flat_map line_bytes (filter_map f (shown_keys (drop (i + 1) keys)))
key_found_next f keys i key within is =
    found_next f (shown_keys (drop i keys)) (shown_keys (drop (i + 1) keys)) key.now (ap shown_keys (drop_next keys i key within is))

-- the lines of one more row
pub row_next : (f : Row → List CsvLine) (rows more : List (Bor Key × Bor StoredRecord)) (key : Bor Key) (kept : Bor StoredRecord) → rows ≡ (key, kept) ∷ more
    → flat_map line_bytes (flat_map f (map shown_row rows))
    ≡ flat_map line_bytes (f (key.now, kept_record kept.now)) ++ flat_map line_bytes (flat_map f (map shown_row more))
row_next f rows more key kept is =
    ap (λ (l : List (Bor Key × Bor StoredRecord)). flat_map line_bytes (flat_map f (map shown_row l))) is
    ∙ flat_map-append line_bytes (f (key.now, kept_record kept.now)) (flat_map f (map shown_row more))

-- the line of the one, then those of the others
pub across_parts : (s : State) (key : Key) (others : List Key)
    → flat_map line_bytes (lines_across s key others)
    ≡ flat_map line_bytes (option_to_list (crossing_line s others key)) ++ flat_map line_bytes (filter_map (crossing_line s (key ∷ [])) others)
across_parts s key others =
    flat_map-append line_bytes (option_to_list (crossing_line s others key)) (filter_map (crossing_line s (key ∷ [])) others)

-- an authority that is found under the headings of others, where it or one of them is kept
pub crossing_kept : (keep : Key → Bool) (s : State) (key : Key) (others : List (Bor Key)) → 1 ≤ length others → (keep key || list_any keep (shown_keys others)) ≡ true
    → crossing_among keep s key (shown_keys others) ≡ lines_across s key (shown_keys others)
crossing_kept keep s key [] more so = absurd (omega (arith, more))
crossing_kept keep s key (other ∷ others) more so = rw so refl

-- the whole, in five parts
pub in_parts : (keep : Key → Bool) (s : State) (found : List Counted)
    → list_bytes (lines_behind keep s found)
    ≡ mark ++ line_bytes column_names ++ flat_map line_bytes (counted_lines keep s found) ++ flat_map line_bytes (shared_lines keep s) ++ flat_map line_bytes (crossing_lines keep s)
in_parts keep s found =
    let headings = counted_lines keep s found in
    let shared = shared_lines keep s in
    let crossing = crossing_lines keep s in
    sym (append_assoc mark (line_bytes column_names) (flat_map line_bytes (headings ++ shared ++ crossing)))
    ∙ ap (λ (l : List ℕ). (mark ++ line_bytes column_names) ++ l)
    (flat_map-append line_bytes (headings ++ shared) crossing ∙ ap (λ (l : List ℕ). l ++ flat_map line_bytes crossing) (flat_map-append line_bytes headings shared))
    ∙ sym (append_assoc (mark ++ line_bytes column_names) (flat_map line_bytes headings ++ flat_map line_bytes shared) (flat_map line_bytes crossing))
    ∙ ap (λ (l : List ℕ). l ++ flat_map line_bytes crossing)
    (sym (append_assoc (mark ++ line_bytes column_names) (flat_map line_bytes headings) (flat_map line_bytes shared)))
