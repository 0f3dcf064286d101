-- Entries that are staged one after the other.
use Rattle.std.proofs.Common.{◌≡◌, ◌<◌, false, List, [], ◌∷◌, ◌++◌, length, take, get_or, refl, sym, ap, ◌∙◌, append_assoc}
use Rattle.std.specs.Prelude.{◌≢◌}
use Rattle.std.proofs.lemmas.List.{append-nil}
use Rattle.marc_types.specs.declared.entry.Entry.{Entry}
use Rattle.marc_types.specs.declared.entry.Limits.{Limits}
use Rattle.marc_types.specs.declared.entry.Receipt.{Receipt}
use Rattle.entry_record.specs.History.{IsWithin, passes_limits}
use Rattle.catalogue_rules.specs.Receipts.{receipt_behind, receipts_behind}
use Rattle.catalogue_core.specs.Catalogues.{Catalogued, all_entries, is_full, with_staged}
use Rattle.durable_catalogue.specs.Staged.{with_all_staged}
use Rattle.durable_catalogue.proofs.Fits.{passes_none}

pub none_behind : (history : List Entry) → receipts_behind history [] ≡ []
unfolding receipts_behind
none_behind history = refl

first_behind : (history : List Entry) (e : Entry) (es : List Entry) → receipts_behind history (e ∷ es) ≡ receipt_behind history e ∷ receipts_behind (history ++ e ∷ []) es
unfolding receipts_behind
first_behind history e es = refl

-- each entry has its receipt
pub some_receipt : (history entries : List Entry) → entries ≢ [] → receipts_behind history entries ≢ []
some_receipt history [] some none = some refl
some_receipt history (e ∷ es) some none = let first = first_behind history e es in absurd cc

pub last_behind : (history entries : List Entry) (e : Entry)
    → receipts_behind history (entries ++ e ∷ []) ≡ receipts_behind history entries ++ receipt_behind (history ++ entries) e ∷ []
last_behind history [] e =
    first_behind history e [] ∙ ap (λ rs. receipt_behind history e ∷ rs) (none_behind (history ++ e ∷ []))
    ∙ ap (λ all. receipt_behind all e ∷ []) (sym (append-nil history))
    ∙ ap (λ rs. rs ++ receipt_behind (history ++ []) e ∷ []) (sym (none_behind history))
last_behind history (x ∷ xs) e =
    first_behind history x (xs ++ e ∷ []) ∙ ap (λ rs. receipt_behind history x ∷ rs) (last_behind (history ++ x ∷ []) xs e)
    ∙ ap (λ all. receipt_behind history x ∷ (receipts_behind (history ++ x ∷ []) xs ++ receipt_behind all e ∷ [])) (append_assoc history (x ∷ []) xs)
    ∙ ap (λ rs. rs ++ receipt_behind (history ++ x ∷ xs) e ∷ []) (sym (first_behind history x xs))

-- some are staged, and their receipts are there
pub record AreStaged (was now : Catalogued) (receipts : List Receipt) (entries : List Entry) : Type 0 where
  pub staged : now ≡ with_all_staged was entries
  pub receipts_are : receipts ≡ receipts_behind was.history entries

pub none_staged : (core : Catalogued) → core.staged ≡ [] → AreStaged core core [] []
none_staged core unstaged = record {
  staged = sym (ap (λ es. record core { staged = es }) (append-nil core.staged));
  receipts_are = sym (none_behind core.history);
}

pub one_staged : (was now after : Catalogued) (receipts : List Receipt) (entries : List Entry) (e : Entry) (r : Receipt) → was.staged ≡ [] → AreStaged was now receipts entries
    → r ≡ receipt_behind (all_entries now) e → after ≡ with_staged now e → AreStaged was after (receipts ++ r ∷ []) (entries ++ e ∷ [])
one_staged was now after receipts entries e r unstaged s answered staged =
    let all : all_entries now ≡ was.history ++ entries = ap all_entries s.staged ∙ ap (λ es. was.history ++ (es ++ entries)) unstaged in
    record {
      staged = staged ∙ ap (λ c. with_staged c e) s.staged ∙ ap (λ es. record was { staged = es }) (append_assoc was.staged entries (e ∷ []));
      receipts_are = ap (λ x. receipts ++ x ∷ []) (answered ∙ ap (λ h. receipt_behind h e) all)
          ∙ ap (λ rs. rs ++ receipt_behind (was.history ++ entries) e ∷ []) s.receipts_are ∙ sym (last_behind was.history entries e);
    }

-- there is room for each of the entries that are within the limits
pub has_room : (was now : Catalogued) (receipts : List Receipt) (done items : List Entry) (e : Entry) → was.staged ≡ [] → AreStaged was now receipts done
    → IsWithin was.limits (was.history ++ items) → done ≡ take (length done) items → length done < length items → e ≡ get_or items (length done) e → is_full now e ≡ false
has_room was now receipts done items e unstaged s within front more at =
    let all : all_entries now ≡ was.history ++ take (length done) items =
    ap all_entries s.staged ∙ ap (λ es. was.history ++ (es ++ done)) unstaged ∙ ap (λ es. was.history ++ es) front in
    ap (λ (limits : Limits). passes_limits limits (all_entries now) e) (ap (λ c. c.limits) s.staged)
    ∙ ap (λ es. passes_limits was.limits es e) all
    ∙ passes_none was.limits was.history items (length done) e within more at
