use Rattle.durable_catalogue.specs.Durables.{mark_of}
use Rattle.durable_catalogue.proofs.KeptNews.{status_told, since_told}
use Rattle.durable_catalogue.proofs.durable.DurableObject.look.Goals as goal

pub returns-in-Status : goal.returns-in-Status
returns-in-Status g c =
    let self = c.args.self.now in
    status_told _ self.core (mark_of self.mark) c.args.question.now c.in-Status.place c.tell_status.result self.unstaged c.in-Status.is c.tell_status.ensures

pub returns-in-Since : goal.returns-in-Since
returns-in-Since g c =
    let self = c.args.self.now in
    since_told self.news self.core (mark_of self.mark) c.args.question.now c.in-Since.from c.in-Since.most c.tell_since.result self.is_news c.in-Since.is c.tell_since.ensures
