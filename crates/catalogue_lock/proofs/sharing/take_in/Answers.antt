use Rattle.std.proofs.Common.{◌∷◌, rules, refl, ap, subst, ◌∙◌}
use Rattle.catalogue_lock.specs.Views.{IsAtRest}
use Rattle.catalogue_lock.specs.Steps.{Gathered}
use Rattle.catalogue_lock.proofs.Turning.{settles}
use Rattle.catalogue_lock.proofs.Splitting.{joins}
use Rattle.catalogue_lock.proofs.Meeting.{meets, takes_in}
use Rattle.catalogue_lock.proofs.sharing.take_in.Goals as goal

pub join_seat-requires : goal.join_seat-requires
join_seat-requires g c =
    let rest = c.into_seat.ensures.rest in
    (search rules, ap (λ p. p.lock) c.into_seat.ensures.seat ∙ c.requires.own, rest.hands, search rules, joins _ _ _ _ _ _ _ c.requires.free.0 c.requires.free.1 rest.idle)

pub load-requires : goal.load-requires
load-requires g c = (search rules, search rules, settles _ _ _ _ _ _ (ap (λ m. m.0.opening) c.join_seat.ensures.2 ∙ c.requires.free.0))

pub returns-clause-more : goal.returns-clause-more
returns-clause-more g c = λ done has.
    let rest = c.into_seat.ensures.rest in
    let w = c.into_seat.result.me.0 in
    subst (λ p. Gathered (p ∷ done) c.load.new.seat.me) c.into_seat.ensures.seat
    (takes_in c.into_seat.result.table_id _ w _ _ done has (subst (λ hands. IsAtRest (w, hands)) rest.hands rest)
    (meets _ w w _ _ _ c.join_seat.ensures.2 refl c.requires.free.2 c.load.ensures.2))
