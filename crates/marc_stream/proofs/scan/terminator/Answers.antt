use Rattle.marc_stream.proofs.Scans.{found_behind, none_behind}
use Rattle.marc_stream.proofs.scan.terminator.Goals as goal

pub returns-in-Some : goal.returns-in-Some
returns-in-Some c = found_behind c.args.bytes.now c.args.searched c.in-Some.at c.requires.within c.requires.none c.in-Some.ensures

pub returns-in-None : goal.returns-in-None
returns-in-None c = none_behind c.args.bytes.now c.args.searched c.requires.none c.in-None.ensures
