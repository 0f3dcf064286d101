use Rattle.std.proofs.Common.{◌≢◌, IfSome, ◌≡◌, ◌++◌, All, length, map, take, true, refl, sym, ap, subst, ◌∙◌, arith}
use Rattle.std.proofs.lemmas.List.Elements.{All-take}
use Rattle.command_words.specs.declared.library.Library.{Library}
use Rattle.outside.proofs.Rooms.{same_but_then, same_but_none}
use Rattle.durable_catalogue.specs.Durables.{mark_of}
use Rattle.durable_catalogue.specs.Views.{durable_view}
use Rattle.console_lines.specs.declared.fault.Fault.TheVariants as fault
use Rattle.journal_files.proofs.Faults.{opening_device, opening_input}
use Rattle.loading_commands.specs.Inputs.{IsInputFault, AreInputs, IsFresh, lefts_of_inputs}
use Rattle.loading_commands.specs.Outcomes.{Unopened}
use Rattle.loading_commands.proofs.Opened.{inputs_after, take_all, fault_between, unread}
use Rattle.loading_commands.proofs.Begun.{unbegun, opening_usage, opening_other_history, no_other}
use Rattle.loading_commands.proofs.journal.open_all.Goals as goal

pub returns-in-Err-clause-failed : goal.returns-in-Err-clause-failed
returns-in-Err-clause-failed g c =
    let e = c.in-Err.ensures in
    let is = c.fault_of_opening.ensures in record {
      closed = e.refused.closed;
      because = λ tells. Unopened c.in-Err.fault is (e.refused.so tells) (λ full. e.old_first full tells) (e.refused.keeps tells);
      device = λ device. e.refused.cause (opening_device c.in-Err.fault (sym is ∙ device));
      input = λ input. absurd (opening_input c.in-Err.fault (sym is ∙ input));
      no_usage = λ usage. opening_usage c.in-Err.fault (sym is ∙ usage);
      no_other_history = λ other. opening_other_history c.in-Err.fault (sym is ∙ other);
    }

pub open_inputs-inputs-requires-clause-free : goal.open_inputs-inputs-requires-clause-free
open_inputs-inputs-requires-clause-free g c κs within k d less =
    c.open_journal.ensures.apart.open_names _ (c.requires.loadable.apart k d less, tt) ∙ c.requires.free _

pub close_inputs-requires-after_bounds : goal.close_inputs-requires-after_bounds
close_inputs-requires-after_bounds g c κs within =
    let few = c.open_inputs-inputs.ensures.opened.few in let len = ap length c.from_vec-inputs.ensures in omega (arith, few, len)

pub close_journal-requires-after_bounds : goal.close_journal-requires-after_bounds
close_journal-requires-after_bounds g c κs within =
    c.close_inputs.ensures.stays.open_names c.args.journal.now tt ∙ (c.open_inputs-inputs.ensures.stays.open_names c.args.journal.now tt ∙ c.in-Ok.ensures.opened)

pub returns-in-None-clause-apart : goal.returns-in-None-clause-apart
returns-in-None-clause-apart g c = same_but_then _ _ _ _ c.open_journal.ensures.apart (same_but_none _ _ _ c.open_inputs-inputs.ensures.stays)

pub returns-in-None-clause-opened : goal.returns-in-None-clause-opened
returns-in-None-clause-opened g c = c.open_inputs-inputs.ensures.stays.open_names c.args.journal.now tt ∙ c.in-Ok.ensures.opened

pub returns-in-None-clause-inputs : goal.returns-in-None-clause-inputs
returns-in-None-clause-inputs g c =
    let seen = g.R.Room.seen in
    let left = g.R.In.Source.left in
    let libraries = c.args.libraries.now in
    let opened = c.open_inputs-inputs.result.0.items in
    let are = c.open_inputs-inputs.ensures.opened in
    let all : take (length opened) libraries ≡ libraries = take_all libraries (length opened) (are.whole c.in-None.is) in
    let now = subst (λ ls. AreInputs left (seen c.open_journal.new.room) ls opened) all are.inputs in
    subst (λ is. AreInputs left (seen c.args.room.now) libraries is) (sym c.from_vec-inputs.ensures)
    (inputs_after left (seen c.args.room.now) (seen c.open_journal.new.room) c.args.journal.now c.open_journal.ensures.apart libraries opened
    c.requires.loadable.apart now)

pub returns-in-None-clause-fresh : goal.returns-in-None-clause-fresh
returns-in-None-clause-fresh g c =
    subst (All (IsFresh g.R.In.Source.faults)) (sym c.from_vec-inputs.ensures) c.open_inputs-inputs.ensures.opened.fresh

pub returns-in-Some-clause-apart : goal.returns-in-Some-clause-apart
returns-in-Some-clause-apart g c =
    same_but_then _ _ _ _ c.open_journal.ensures.apart (same_but_then _ _ _ _ (same_but_none _ _ _ (same_but_then _ _ _ _ c.open_inputs-inputs.ensures.stays c.close_inputs.ensures.stays)) c.close_journal.ensures.apart)

pub returns-in-Some-clause-failed : goal.returns-in-Some-clause-failed
returns-in-Some-clause-failed g c =
    let seen = g.R.Room.seen in
    let old = seen c.args.room.now in
    let new = seen c.close_journal.new.room in
    let d = c.in-Ok.durable in
    let o = (durable_view d).opened in
    let tells_then = c.close_inputs.ensures.stays.tells ∙ (c.open_inputs-inputs.ensures.stays.tells ∙ c.open_journal.ensures.apart.tells) in
    let other = subst (λ o. IfSome o (λ why. why ≢ fault.Input → why ≡ fault.Memory)) c.in-Some.is c.open_inputs-inputs.ensures.fault in
    let left = g.R.In.Source.left in
    let libraries = c.args.libraries.now in
    let opened = c.open_inputs-inputs.result.0.items in
    let first = take (length opened) libraries in
    let inputs = inputs_after left old (seen c.open_journal.new.room) c.args.journal.now c.open_journal.ensures.apart first opened
    (All-take (λ (l : Library). l.file ≢ c.args.journal.now) (length opened) libraries c.requires.loadable.apart) c.open_inputs-inputs.ensures.opened.inputs in
    let lefts : old.tells ≡ true → new.lefts ≡ map (λ (l : Library). old.file l.file) first ++ old.lefts = λ tells.
    c.close_journal.ensures.lefts ∙ (c.close_inputs.ensures.lefts ∙ (ap (λ ls. lefts_of_inputs left c.from_vec-inputs.result ++ ls) (c.open_inputs-inputs.ensures.lefts ∙ c.open_journal.ensures.lefts)
    ∙ ap (λ ls. ls ++ old.lefts) (ap (lefts_of_inputs left) c.from_vec-inputs.ensures ∙ unread left old tells first opened inputs))) in
    record {
      closed = c.close_journal.ensures.closed;
      because = λ tells.
          unbegun old new c.args.journal.now c.in-Some.fault d.core.history d.core.history (mark_of d.mark) (mark_of d.mark) o tells
          other c.in-Ok.ensures.catalogue refl c.in-Ok.ensures.catalogue.unmarked (c.close_journal.ensures.log (tells_then ∙ tells))
          c.args.libraries.now (record { count = length opened; lefts_are = lefts tells });
      device = λ is. absurd (no_other c.in-Some.fault fault.Device other (λ is. cc) (λ is. cc) is);
      input = λ is.
          fault_between c.args.libraries.now old (seen c.open_journal.new.room) (seen c.open_inputs-inputs.new.room) new c.open_journal.ensures.apart.ins
          (subst (λ o. IfSome o (λ why. why ≡ fault.Input → IsInputFault c.args.libraries.now (seen c.open_journal.new.room) (seen c.open_inputs-inputs.new.room)))
          c.in-Some.is c.open_inputs-inputs.ensures.cause is)
          (λ n. let a = c.close_inputs.ensures.stays.ins n in let b = c.close_journal.ensures.apart.ins n in omega (arith, a, b));
      no_usage = no_other c.in-Some.fault fault.Usage other (λ is. cc) (λ is. cc);
      no_other_history = no_other c.in-Some.fault fault.OtherHistory other (λ is. cc) (λ is. cc);
    }
