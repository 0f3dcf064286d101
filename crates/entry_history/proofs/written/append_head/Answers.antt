use Rattle.entry_history.specs.Format.{payload_head}
use Rattle.entry_history.proofs.Format.{head_joined}
use Rattle.entry_history.proofs.written.append_head.Goals as goal

pub returns : goal.returns
unfolding payload_head
returns c =
    rw (
      c.in_ok-push-2.ensures.items,
      c.in_ok-extend_from_slice-3.ensures.items,
      c.in_ok-push.ensures.items,
      c.in_ok-extend_from_slice-2.ensures.items,
      c.in_ok-extend_from_slice.ensures.items,
      c.to_be_bytes.ensures,
      c.to_be_bytes-2.ensures,
    )
    (head_joined _ _ _ _ _ _)
