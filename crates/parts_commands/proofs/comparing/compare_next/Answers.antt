use Rattle.std.proofs.Common.{◌∙◌, true, true≢false, sym, ap, subst}
use Rattle.marc_types.specs.Order.{text_Decides}
use Rattle.parts_commands.specs.Exports.{is_authority}
use Rattle.parts_commands.specs.Taking.{IsUnlike}
use Rattle.parts_commands.proofs.Copied.{same_place}
use Rattle.parts_commands.proofs.Items.{one_of, unlike_refused, unlike_taken}
use Rattle.parts_commands.proofs.comparing.compare_next.Goals.{else-is_next-via-then-is_next+then-is_due+else-eq, else-is_next-via-then-is_next+else-is_due, else-is_next-via-else-is_next}
use Rattle.parts_commands.proofs.comparing.compare_next.Goals as goal

pub returns-then-is_due-2-clause-unlike : goal.returns-then-is_due-2-clause-unlike
returns-then-is_due-2-clause-unlike g c = λ place is first_tells tells.
    let piece = c.take_next.new.piece.items in
    let beside = c.next_is_authority.new.piece.items in
    let taken = rw (c.in-Piece.is) at c.in_ok-place.ensures.gives in
    subst (IsUnlike c.args.first.now.coming c.args.export.now.coming) (same_place c.in-Piece.place place is)
    (unlike_taken c.args.export.now c.take_next.new.pieces c.args.first.now.coming c.next_is_authority.new.pieces.coming c.in-Piece.place beside
    c.in_ok-is_due.is_due tells (c.in_ok-is_due.ensures.next first_tells) piece c.is_authority-is_next.result taken
    (c.is_authority-is_next.ensures ∙ ap is_authority c.as_slice.ensures.value)
    (elim c.else-is_next.branch [
      | else-is_next-via-then-is_next+then-is_due+else-eq w ↦ λ yes due same.
          let slices = w.as_slice-then-is_due.ensures.value ∙ same ∙ sym w.as_slice-then-is_due-2.ensures.value in
          true≢false (sym ((text_Decides w.as_slice-then-is_due.result.now w.as_slice-then-is_due-2.result.now).1 slices) ∙ sym w.eq.ensures ∙ w.if-eq.false)
      | else-is_next-via-then-is_next+else-is_due w ↦ λ yes due same. true≢false (sym due ∙ w.if-is_due.false)
      | else-is_next-via-else-is_next w ↦ λ yes due same. true≢false (sym yes ∙ w.if-is_next.false)
    ])
    (one_of c.is_authority-is_next.result c.in_ok-is_due.is_due c.if-is_due-2.either))

pub returns-in-NoPiece-clause-unlike : goal.returns-in-NoPiece-clause-unlike
returns-in-NoPiece-clause-unlike g c = λ place is first_tells tells.
    subst (IsUnlike c.args.first.now.coming c.args.export.now.coming) (same_place c.in-NoPiece.place place is)
    (unlike_refused c.args.export.now c.take_next.new.pieces c.args.first.now.coming c.next_is_authority.new.pieces.coming c.in-NoPiece.place
    c.next_is_authority.new.piece.items c.in_ok-is_due.is_due tells (c.in_ok-is_due.ensures.next first_tells)
    (rw (c.in-NoPiece.is) at c.in_ok-place.ensures.gives))
