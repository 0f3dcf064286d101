-- What a shelf's counts and a file's refused items come to.
use Rattle.std.proofs.Common.{◌≡◌, ◌∙◌, ℕ, ◌==◌, ◌<◌, Bool, true, false, List, [], ◌∷◌, ◌++◌, length, append-nil, refl, sym, ap, arith}
use Rattle.std.specs.Prelude.{not, nat_lt, string_bytes}
use Rattle.std.proofs.lemmas.Bool.{eqb-true, eqb-false, lt-ltb}
use Rattle.marc_types.specs.declared.refusal.Refusal.{Refusal}
use Rattle.marc_stream.specs.Pieces.{items}
use Rattle.catalogue_rules.specs.State.{State}
use Rattle.command_words.specs.declared.library.Library.{Library}
use Rattle.console_lines.specs.Lines.{refused_line, refused_lines}
use Rattle.holdings.specs.declared.refusal.HoldingRefusal.{HoldingRefusal}
use Rattle.holdings.specs.declared.refusal.HoldingRefusal.TheVariants.{OfRecord}
use Rattle.file_holdings.specs.declared.refused.RefusedHolding.{RefusedHolding}
use Rattle.holdings_export.specs.Output.{attached_holdings, waiting_holdings}
use Rattle.holdings_command.specs.Lines.{refused_holding_line, refused_holding_lines, holdings_line}
use Rattle.holdings_command.specs.Shelving.{IsShelved}
use Rattle.holdings_command.specs.Ready.{IsReady}
use Rattle.holdings_command.specs.declared.shelving.Shelved.{Shelved}
use Rattle.holdings_command.specs.declared.ready.Ready.{Ready}

-- the line of a piece that is refused for a reason of records
same_line : (file : List ℕ) (ordinal offset : ℕ) (refusal : Refusal)
    → refused_line file (record { ordinal = ordinal; offset = offset; refusal = refusal })
    ≡ refused_holding_line file (record { ordinal = ordinal; offset = offset; refusal = OfRecord refusal })
unfolding refused_line refused_holding_line
same_line file ordinal offset refusal = refl

pub line_of_record : (file : List ℕ) (item : RefusedHolding) (refusal : Refusal) → item.refusal ≡ OfRecord refusal
    → refused_lines file (record { ordinal = item.ordinal; offset = item.offset; refusal = refusal } ∷ []) ≡ refused_holding_line file item
line_of_record file item refusal is =
    append-nil (refused_line file (record { ordinal = item.ordinal; offset = item.offset; refusal = refusal }))
    ∙ same_line file item.ordinal item.offset refusal
    ∙ ap (λ (why : HoldingRefusal). refused_holding_line file (record { ordinal = item.ordinal; offset = item.offset; refusal = why })) (sym is)

-- what the console is told, where its parts are the same
pub same_text : (text file file' : List ℕ) (items items' : List RefusedHolding) (accepted a a' w w' : ℕ)
    → text ≡ refused_holding_lines file items ++ holdings_line file accepted (length items) a w → file ≡ file' → items ≡ items' → a ≡ a' → w ≡ w'
    → text ≡ refused_holding_lines file' items' ++ holdings_line file' accepted (length items') a' w'
same_text text file file' items items' accepted a a' w w' is f it p q =
    let same : refused_holding_lines file items ++ holdings_line file accepted (length items) a w
    ≡ refused_holding_lines file' items' ++ holdings_line file' accepted (length items') a' w' =
    λ i. refused_holding_lines (f i) (it i) ++ holdings_line (f i) accepted (length (it i)) (p i) (q i) in
    is ∙ same

-- something was refused
pub some_refused : (n : ℕ) → not (n == 0) ≡ nat_lt 0 n
some_refused n = at (n == 0) refl
  where
    at : (b : Bool) → (n == 0) ≡ b → not b ≡ nat_lt 0 n
    at true e = ap (λ k. nat_lt 0 k) (sym (eqb-true n 0 e))
    at false e =
        let more : ¬ (n ≡ 0) = eqb-false n 0 e in
        let some : 0 < n = omega arith in
        sym (lt-ltb 0 n some)

-- a shelved file is ready
pub ready_shelved : (library : Library) (bytes : List ℕ) (s : State) (shelved : Shelved) (ready : Ready) → IsShelved library.code (items bytes) shelved
    → ready.shelf ≡ shelved.shelf
    → string_bytes ready.text
    ≡ refused_holding_lines library.file shelved.refused.items
    ++ holdings_line library.file shelved.accepted (length shelved.refused.items)
    (length (attached_holdings s shelved.shelf)) (length (waiting_holdings s shelved.shelf))
    → ready.refused ≡ not (length shelved.refused.items == 0) → IsReady library bytes s ready
ready_shelved library bytes s shelved ready is shelf text refused = record {
  accepted = is.accepted;
  refused = shelved.refused.items;
  judged = is.judged;
  shelf_is = shelf ∙ is.shelf_is;
  text_is = text
      ∙ ap (λ n. refused_holding_lines library.file shelved.refused.items ++ holdings_line library.file n (length shelved.refused.items)
      (length (attached_holdings s shelved.shelf)) (length (waiting_holdings s shelved.shelf))) is.count_is
      ∙ ap (λ rows. refused_holding_lines library.file shelved.refused.items ++ holdings_line library.file (length is.accepted) (length shelved.refused.items)
      (length (attached_holdings s rows)) (length (waiting_holdings s rows))) is.shelf_is;
  refused_is = refused ∙ some_refused (length shelved.refused.items);
}
