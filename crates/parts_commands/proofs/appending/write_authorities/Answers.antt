use Rattle.std.proofs.Common.{Bool, ◌∙◌, arith, subst}
use Rattle.std.specs.Io.KnownBytes.{Appends}
use Rattle.outside.proofs.Fronts.{writing_more}
use Rattle.parts_commands.specs.Taking.{IsNextAuthority}
use Rattle.parts_commands.proofs.Items.{bytes_next}
use Rattle.parts_commands.proofs.appending.write_authorities.Goals as goal

pub authorities-preserved : goal.authorities-preserved
authorities-preserved g c =
    let on = c.in_ok-next_is_authority.ensures.going c.if-branch.true in
    let piece = c.next_is_authority.new.piece.items in
    record {
      going = on.over;
      tells = on.tells ∙ c.authorities.invariant.tells;
      later = omega (arith, c.authorities.invariant.later, c.next_is_authority.ensures.input.later);
      out_later = omega (arith, c.authorities.invariant.out_later, c.write_all.ensures.cause.later);
      writing = λ tells.
          writing_more _ _ _ _ _ piece _ (c.authorities.invariant.writing tells)
          (bytes_next c.authorities.first.coming c.next_is_authority.new.pieces.coming piece
          (subst (λ (is : Bool). IsNextAuthority c.authorities.first.coming is piece c.next_is_authority.new.pieces.coming) c.if-branch.true
          (c.in_ok-next_is_authority.ensures.next (c.authorities.invariant.tells ∙ tells))))
          (subst (Appends (g.K.Sink.written c.authorities.out) (g.K.Sink.written c.write_all.new.self)) c.as_slice.ensures.value c.in_ok-write_all.ensures.bytes);
    }
