use Rattle.commit_stages.proofs.Turning.{ahead_itself}
use Rattle.commit_stages.proofs.Whole.{low}
use Rattle.commit_stages.proofs.authority.commit_authority.Goals as goal

pub known_authority-requires : goal.known_authority-requires
known_authority-requires g c = low c.args.store.now c.args.item.now c.requires.commit c.args.number c.requires.number

pub returns-in_err-known-clause-ahead : goal.returns-in_err-known-clause-ahead
returns-in_err-known-clause-ahead g c = ahead_itself c.args.store.now
