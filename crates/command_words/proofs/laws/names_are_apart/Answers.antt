use Rattle.command_words.proofs.Commands.{files_are_apart}
use Rattle.command_words.proofs.laws.names_are_apart.Goals as goal

pub returns-clause-files : goal.returns-clause-files
returns-clause-files c command is = files_are_apart c.args.words.now command is
