use Rattle.std.proofs.Common.{◌≡◌, false, subst, sym}
use Rattle.marc_types.specs.declared.entry.Limits.{Limits}
use Rattle.plain_commands.specs.Entries.{GivesNextEntry}
use Rattle.plain_commands.specs.Loading.{lacks_room}
use Rattle.plain_commands.proofs.Committed.{room_for_next}
use Rattle.plain_commands.proofs.summing.commit_all.Goals as goal

pub commit-requires : goal.commit-requires
commit-requires g c =
    subst (λ (limits : Limits). lacks_room limits c.entries.loaded.accepted c.in-Some.entry ≡ false) (sym c.entries.invariant.0)
    (room_for_next c.args.loaded.now.limits _ _ _ _ c.in-Some.entry c.entries.invariant.1 (subst (GivesNextEntry _ _) c.in-Some.is c.in_ok-entry.ensures.given)
    c.requires.few c.requires.small)
