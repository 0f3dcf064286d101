use Rattle.std.proofs.Common.{◌≡◌, Some, is_some, sym, ap, subst, ◌∙◌}
use Rattle.commit_journal.specs.Journal.{IsDurableLog}
use Rattle.commit_journal.specs.Versions.{number_of}
use Rattle.durable_catalogue.specs.Durables.{mark_of, marked}
use Rattle.durable_catalogue.proofs.Keeping.{each_image}
use Rattle.durable_catalogue.proofs.durable.Durable.close.Goals as goal

pub returns-clause-whole : goal.returns-clause-whole
returns-clause-whole g c unmarked log image told is =
    let self = c.args.self in
    let seen = g.D.Disk.seen in
    each_image self.opened self.core.history (marked (mark_of self.mark)) (seen self.before.value) (seen self.first.value.disk) (seen self.journal.disk)
    (ap (λ m. marked (mark_of m)) unmarked) self.kept log image (subst (λ d. (seen d).content ≡ Some log) c.close.ensures told) (subst (λ d. (seen d).image image) c.close.ensures is)

pub returns-clause-settled : goal.returns-clause-settled
returns-clause-settled g c unmarked =
    let self = c.args.self in
    let seen = g.D.Disk.seen in
    subst (λ d. IsDurableLog self.journal.place 2 (seen d)) (sym c.close.ensures)
    (subst (λ v. IsDurableLog self.journal.place (number_of v) (seen self.journal.disk)) self.newest (self.journal.settled (self.broken ∙ ap (λ m. is_some m) unmarked)))

pub returns-clause-few : goal.returns-clause-few
returns-clause-few g c = c.args.self.few
