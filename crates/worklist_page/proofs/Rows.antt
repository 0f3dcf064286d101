-- Tables put together, and rows put behind bytes one after another.
use Rattle.std.proofs.Common.{◌≡◌, ◌∙◌, ℕ, List, [], ◌∷◌, ◌++◌, map, fold, sym, ap, subst, arith, append_assoc, append-nil, length, take, drop, get_or, ◌+◌, ◌<◌, ◌≤◌, Option, Some, None}
use Rattle.std.specs.Prelude.{codes}
use Rattle.std.proofs.lemmas.List.{drop_all, drop_more, get_or-map, length-map, take_all}
use Rattle.std.specs.Option.{option_map_or}
use Rattle.heading_worklist.specs.Lines.{Cells}
use Rattle.worklist_page.specs.Headings.{cells_row}
use Rattle.std.specs.List.{flat_map}
use Rattle.std.specs.BTreeSet.{insert_key}
use Rattle.worklist_page.specs.declared.names.Element.TheVariants as tag
use Rattle.worklist_page.specs.Pieces.{Adds, End, Piece, Start, element, page_bytes, words}
use Rattle.worklist_page.proofs.Adding.{nothing, then}
use Rattle.worklist_page.specs.declared.shares.Shares.{Shares}
use Rattle.catalogue_rules.specs.State.{State}
use Rattle.worklist_page.specs.declared.bringer.Bringer.{Bringer}
use Rattle.worklist_page.specs.Figures.{Figured, figures_of}
use Rattle.worklist_page.specs.Shares.{no_shares, together}
use Rattle.worklist_page.specs.Page.{library_row, library_rows, page_pieces, state_page, totals_table}
use Rattle.worklist_page.specs.Ranking.{Ranked, others, ranked, ranked_cmp}
use Rattle.worklist_page.specs.Tables.{shares_row, table}

-- ---- a table

-- the pieces of a table, however they are grouped
grouped : (columns rows : List Piece) (a b c d e : Piece)
    → ((columns ++ a ∷ b ∷ c ∷ []) ++ rows) ++ d ∷ e ∷ [] ≡ (((columns ++ a ∷ []) ++ b ∷ []) ++ (c ∷ (rows ++ d ∷ []))) ++ e ∷ []
grouped columns rows a b c d e =
    append_assoc (columns ++ a ∷ b ∷ c ∷ []) rows (d ∷ e ∷ []) ∙ append_assoc columns (a ∷ b ∷ c ∷ []) (rows ++ d ∷ e ∷ [])
    ∙ ap (λ (l : List Piece). columns ++ (a ∷ b ∷ c ∷ l)) (sym (append_assoc rows (d ∷ []) (e ∷ [])))
    ∙ sym (append_assoc columns (a ∷ []) (b ∷ c ∷ ((rows ++ d ∷ []) ++ e ∷ [])))
    ∙ sym (append_assoc (columns ++ a ∷ []) (b ∷ []) (c ∷ ((rows ++ d ∷ []) ++ e ∷ [])))
    ∙ sym (append_assoc ((columns ++ a ∷ []) ++ b ∷ []) (c ∷ (rows ++ d ∷ [])) (e ∷ []))

pub whole_table : (a b c d e f : List ℕ) (caption : List ℕ) (columns rows : List Piece)
    → Adds a b (Start tag.Table [] ∷ element tag.Caption (words caption) ++ Start tag.Thead [] ∷ Start tag.Tr [] ∷ [])
    → Adds b c columns → Adds c d (End tag.Tr ∷ End tag.Thead ∷ Start tag.Tbody [] ∷ []) → Adds d e rows
    → Adds e f (End tag.Tbody ∷ End tag.Table ∷ []) → Adds a f (table caption columns rows)
whole_table a b c d e f caption columns rows first second third fourth last =
    subst (Adds a f)
    (ap (λ (l : List Piece). Start tag.Table [] ∷ element tag.Caption (words caption) ++ (Start tag.Thead [] ∷ Start tag.Tr [] ∷ l))
    (grouped columns rows (End tag.Tr) (End tag.Thead) (Start tag.Tbody []) (End tag.Tbody) (End tag.Table)))
    (then _ _ _ _ _ (then _ _ _ _ _ (then _ _ _ _ _ (then _ _ _ _ _ first second) third) fourth) last)

-- ---- rows

-- rows were put behind bytes, and these are left: whoever adds them has added all
unfoldable pub IsAdding : {X : Type 0} → (X → List Piece) → List ℕ → List X → List ℕ → List X → Type 0
IsAdding row a all b left = (z : List ℕ) → Adds b z (flat_map row left) → Adds a z (flat_map row all)

pub begun_rows : {X : Type 0} (row : X → List Piece) (a : List ℕ) (all : List X) → IsAdding row a all a all
unfolding IsAdding
begun_rows row a all z added = added

pub more_rows : {X : Type 0} (row : X → List Piece) (all left more : List X) (x : X) (a b c : List ℕ)
    → IsAdding row a all b left → left ≡ x ∷ more → Adds b c (row x) → IsAdding row a all c more
unfolding IsAdding
more_rows row all left more x a b c so_far is one z rest =
    so_far z (subst (λ l. Adds b z (flat_map row l)) (sym is) (then b c z (row x) (flat_map row more) one rest))

pub no_rows : {X : Type 0} (row : X → List Piece) (all left : List X) (a b : List ℕ) → IsAdding row a all b left → left ≡ [] → Adds a b (flat_map row all)
unfolding IsAdding
no_rows row all left a b so_far none = so_far b (subst (λ l. Adds b b (flat_map row l)) (sym none) (nothing b))

-- ---- ranks

pub next_rank : (left more : List (List ℕ × Shares)) (x : List ℕ × Shares) (so_far next goal : List Ranked) → left ≡ x ∷ more
    → next ≡ insert_key ranked_cmp so_far (ranked x) → fold (insert_key ranked_cmp) so_far (map ranked left) ≡ goal
    → fold (insert_key ranked_cmp) next (map ranked more) ≡ goal
next_rank left more x so_far next goal is one all =
    ap (λ l. fold (insert_key ranked_cmp) l (map ranked more)) one ∙ sym (ap (λ l. fold (insert_key ranked_cmp) so_far (map ranked l)) is) ∙ all

pub no_rank : (left : List (List ℕ × Shares)) (so_far goal : List Ranked) → left ≡ [] → fold (insert_key ranked_cmp) so_far (map ranked left) ≡ goal → so_far ≡ goal
no_rank left so_far goal none all = sym (ap (λ l. fold (insert_key ranked_cmp) so_far (map ranked l)) none) ∙ all

-- a library of a set is put behind the others
pub next_in_order : (rows left more goal : List Ranked) (x : Ranked) → left ≡ x ∷ more → rows ++ left ≡ goal → (rows ++ x ∷ []) ++ more ≡ goal
next_in_order rows left more goal x is all = append_assoc rows (x ∷ []) more ∙ sym (ap (λ (l : List Ranked). rows ++ l) is) ∙ all

pub none_in_order : (rows left goal : List Ranked) → left ≡ [] → rows ++ left ≡ goal → rows ≡ goal
none_in_order rows left goal none all = sym (append-nil rows) ∙ sym (ap (λ (l : List Ranked). rows ++ l) none) ∙ all

-- where there are fewer than fifty, all are shown
pub all_shown : (ranks front : List Ranked) (count : ℕ) → count ≡ length ranks → count < 50 → front ≡ take count ranks → front ≡ take 50 ranks
all_shown ranks front count is few taken =
    taken ∙ take_all count ranks (omega (arith, is)) ∙ sym (take_all 50 ranks (omega (arith, is, few)))

pub none_left : (ranks back : List Ranked) (count : ℕ) → count ≡ length ranks → count < 50 → back ≡ drop count ranks → back ≡ drop 50 ranks
none_left ranks back count is few dropped =
    dropped ∙ drop_all count ranks (omega (arith, is)) ∙ sym (drop_all 50 ranks (omega (arith, is, few)))

-- the fifty and the others make the rows of all
pub halves : (a b c : List ℕ) (ranks shown rest : List Ranked) → shown ≡ take 50 ranks → rest ≡ drop 50 ranks → Adds a b (flat_map library_row shown)
    → Adds b c (shares_row (codes "all others") (fold (λ sum r. together sum r.shares) no_shares rest)) → Adds a c (library_rows ranks)
halves a b c ranks shown rest front back first second =
    then a b c (flat_map library_row (take 50 ranks)) (shares_row (codes "all others") (others ranks))
    (subst (λ l. Adds a b (flat_map library_row l)) front first)
    (subst (λ l. Adds b c (shares_row (codes "all others") (fold (λ sum r. together sum r.shares) no_shares l))) back second)

-- a row under another name for the same
pub shown_as : (a b name same : List ℕ) (s t : Shares) → name ≡ same → s ≡ t → Adds a b (shares_row name s) → Adds a b (shares_row same t)
shown_as a b name same s t names shares added =
    subst (λ n. Adds a b (shares_row n t)) names (subst (λ u. Adds a b (shares_row name u)) shares added)

-- the next of the things that a loop goes over
pub next_at : {X : Type 0} (xs : List X) (i : ℕ) (x : X) → i < length xs → x ≡ get_or xs i x → drop i xs ≡ x ∷ drop (i + 1) xs
next_at xs i x within is = drop_more xs i x within ∙ ap (λ y. y ∷ drop (i + 1) xs) (sym is)

-- all rows were gone over
pub rows_past : {X : Type 0} (row : X → List Piece) (all : List X) (i : ℕ) (a b : List ℕ) → IsAdding row a all b (drop i all) → length all ≤ i
    → Adds a b (flat_map row all)
rows_past row all i a b so_far past = no_rows row all (drop i all) a b so_far (drop_all i all past)

-- the next of things of which something is seen
pub next_seen : {R X : Type 0} (now : R → X) (xs : List R) (i : ℕ) (x : R) → i < length xs → x ≡ get_or xs i x
    → drop i (map now xs) ≡ now x ∷ drop (i + 1) (map now xs)
next_seen now xs i x within is =
    next_at (map now xs) i (now x) (omega (arith, within, length-map xs now)) (ap now is ∙ sym (get_or-map now xs i x (now x) within))

-- all of them were gone over
pub seen_past : {R X : Type 0} (row : X → List Piece) (now : R → X) (xs : List R) (i : ℕ) (a b : List ℕ)
    → IsAdding row a (map now xs) b (drop i (map now xs)) → length xs ≤ i → Adds a b (flat_map row (map now xs))
seen_past row now xs i a b so_far past = rows_past row (map now xs) i a b so_far (omega (arith, past, length-map xs now))

-- the row of a heading's cells, where it has some
pub row_shown : (o : Option Cells) (x : Cells) (a b : List ℕ) → Some x ≡ o → Adds a b (cells_row x) → Adds a b (option_map_or cells_row o [])
row_shown o x a b is added = subst (λ (p : Option Cells). Adds a b (option_map_or cells_row p [])) is added

pub no_row_shown : (o : Option Cells) (a : List ℕ) → None ≡ o → Adds a a (option_map_or cells_row o [])
no_row_shown o a none = subst (λ (p : Option Cells). Adds a a (option_map_or cells_row p [])) none (nothing a)

-- ---- the whole page

pub shown_totals : (a b : List ℕ) (n m authorities bibliographic : ℕ) (s t : Shares) → n ≡ authorities → m ≡ bibliographic → s ≡ t
    → Adds a b (totals_table n m s) → Adds a b (totals_table authorities bibliographic t)
shown_totals a b n m authorities bibliographic s t first second shares added =
    subst (λ k. Adds a b (totals_table k bibliographic t)) first
    (subst (λ k. Adds a b (totals_table n k t)) second (subst (λ u. Adds a b (totals_table n m u)) shares added))

pub shown_page : (begun page : List ℕ) (s : State) (f : Figured) (brought : List (Bringer × ℕ)) → f ≡ figures_of s → begun ≡ []
    → Adds begun page (page_pieces s f brought) → page ≡ state_page s brought
unfolding Adds
shown_page begun page s f brought figures none added =
    added ∙ ap (λ l. l ++ page_bytes (page_pieces s f brought)) none ∙ ap (λ g. page_bytes (page_pieces s g brought)) figures
