-- Words are carried out, by what the calls say.
use Rattle.std.proofs.Common.{◌≡◌, ◌≢◌, ◌≤◌, ◌⊎◌, ◌∙◌, ℕ, true, List, [], Option, Some, None, refl, sym, ap, subst}
use Rattle.outside.specs.Room.{RoomView, SameBut, IsPromiseKept}
use Rattle.outside.proofs.Rooms.{same_but_itself}
use Rattle.command_words.specs.Command.{Command, command_of}
use Rattle.command_words.specs.Asked.{IsUnasked}
use Rattle.command_words.specs.declared.asked.Unasked.{Unasked}
use Rattle.command_words.specs.declared.asked.Unasked.TheVariants as unasked
use Rattle.console_lines.specs.Ends.{Outcome, IsTold, end_status}
use Rattle.console_lines.specs.declared.end.End.{End}
use Rattle.console_lines.specs.declared.end.End.TheVariants.{Told}
use Rattle.console_lines.specs.declared.fault.Fault.{Fault}
use Rattle.console_lines.specs.declared.fault.Fault.TheVariants.{Usage}
use Rattle.union_top.specs.Commands.{touched, Ends, CarriesOut}
use Rattle.union_top.specs.Complete.{Around, CountsStayed, IsUnhindered}
use Rattle.union_top.specs.Misfits.{RefusesMisfits}
use Rattle.union_top.specs.Sure.{IsSure}
use Rattle.union_top.specs.Carried.{AreCarriedOut, unasked_fault}
use Rattle.union_top.proofs.Asked.{carried_unasked, wanting}
use Rattle.union_top.proofs.Complete.{complete, around_of, two_is_usage, same_command}
use Rattle.union_top.proofs.Refusing.{refuses}
use Rattle.union_top.proofs.Sure.{sure}

module _ (words : List (List ℕ)) (status : ℕ) (a : Around) (o : End → Outcome) (end : End) (status_is : status ≡ end_status end) where
  pub usage_carried : command_of words ≡ None → end ≡ Told Usage → SameBut a.old a.new [] → IsTold Usage (o (Told Usage))
      → AreCarriedOut words status a o
  usage_carried none is stays told = record {
    usage = (λ two. none, λ also. status_is ∙ ap end_status is);
    unchanged = λ two. stays;
    usage_told = λ two. told;
    apart = λ command asks. let both : None ≡ Some command = sym none ∙ asks in cc;
    ends = λ command asks. let both : None ≡ Some command = sym none ∙ asks in cc;
    complete = λ command asks u. let both : None ≡ Some command = sym none ∙ asks in cc;
    sure = λ command asks u. let both : None ≡ Some command = sym none ∙ asks in cc;
    misfits = λ command asks tells s. let both : None ≡ Some command = sym none ∙ asks in cc;
  }

  pub command_carried : (asked : Command) → command_of words ≡ Some asked → end ≢ Told Usage → SameBut a.old a.new (touched asked)
      → Ends words asked (o end)
      → ((command : Command) → Ends words command (o end) → IsUnhindered words command a → (end_status end ≤ 1) ⊎ (end_status end ≡ 8))
      → ((command : Command) → Ends words command (o end) → IsSure words command a → (end_status end ≤ 1) ⊎ (end_status end ≡ 8))
      → (a.old.tells ≡ true → (command : Command) → Ends words command (o end) → CountsStayed words command a
      → RefusesMisfits words command a.old (end_status end))
      → AreCarriedOut words status a o
  command_carried asked asks other apart ends well sure refuses = record {
    usage = (λ two. absurd (other (two_is_usage end (sym status_is ∙ two))), λ none. let both : None ≡ Some asked = sym none ∙ asks in cc);
    unchanged = λ two. absurd (other (two_is_usage end (sym status_is ∙ two)));
    usage_told = λ two. absurd (other (two_is_usage end (sym status_is ∙ two)));
    apart = λ command is. subst (λ c. SameBut a.old a.new (touched c)) (same_command asked command (sym asks ∙ is)) apart;
    ends = λ command is. (end, status_is, ends_of command is);
    complete = λ command is u. subst (λ s. (s ≤ 1) ⊎ (s ≡ 8)) (sym status_is) (well command (ends_of command is) u);
    sure = λ command is u. subst (λ s. (s ≤ 1) ⊎ (s ≡ 8)) (sym status_is) (sure command (ends_of command is) u);
    misfits = λ command is tells s. subst (RefusesMisfits words command a.old) (sym status_is) (refuses tells command (ends_of command is) s);
  }
    where
      ends_of : (command : Command) → command_of words ≡ Some command → Ends words command (o end)
      ends_of command is = subst (λ c. Ends words c (o end)) (same_command asked command (sym asks ∙ is)) ends

-- what an end says of a command of words is what its status says of the words
pub carried_out : (words : List (List ℕ)) (asked : Command) (o : End → Outcome) (end : End) (status : ℕ) → status ≡ end_status end
    → command_of words ≡ Some asked → CarriesOut words asked (o end) → (o end).end ≡ end
    → ((n : List ℕ) → IsPromiseKept (o end).new n ((o end).new.promise n)) → AreCarriedOut words status (around_of (o end)) o
carried_out words asked o end status status_is asks did is kept =
    command_carried words status (around_of (o end)) o end status_is asked asks (λ usage. did.no_usage (is ∙ usage)) did.apart did.ends
    (λ command ends u. subst (λ e. (end_status e ≤ 1) ⊎ (end_status e ≡ 8)) is (complete (o end) words command ends u))
    (λ command ends u. subst (λ e. (end_status e ≤ 1) ⊎ (end_status e ≡ 8)) is (sure (o end) did.apart.promises kept words command ends u))
    (λ tells command ends s. subst (λ e. RefusesMisfits words command (o end).old (end_status e)) is (refuses (o end) tells words command ends s))

-- words that ask for nothing that can be done are carried out once the console was told why
module _ (room : RoomView) (told now : Option (List ℕ)) (faults faults_now : ℕ) where
  abbrev telling : End → Outcome
  telling end = record { old = room; new = room; told = told; now = now; faults = faults; faults_now = faults_now; end = end }

  told_so : (words : List (List ℕ)) (why : Unasked) (end : End) (status : ℕ) → status ≡ end_status end → IsUnasked why (command_of words)
      → end ≡ Told (unasked_fault why) → IsTold (unasked_fault why) (telling end) → ((name : List ℕ) → room.open_as name ≡ None)
      → ((n : List ℕ) → IsPromiseKept room n (room.promise n)) → AreCarriedOut words status (around_of (telling end)) telling
  told_so words unasked.Usage end status status_is none is was_told free kept =
      usage_carried words status (around_of (telling end)) telling end status_is none is (same_but_itself room []) was_told
  told_so words unasked.NoMemory end status status_is wants is was_told free kept =
      let command = wanting words wants in
      carried_out words command.0 telling end status status_is command.1
      (carried_unasked (telling end) is was_told (same_but_itself room []) free words command.0 command.2) refl kept

  pub unasked_carried : (words : List (List ℕ)) (why : Unasked) (fault : Fault) (end : End) (status : ℕ) → status ≡ end_status end
      → IsUnasked why (command_of words) → fault ≡ unasked_fault why → end ≡ Told fault → IsTold fault (telling end)
      → ((name : List ℕ) → room.open_as name ≡ None) → ((n : List ℕ) → IsPromiseKept room n (room.promise n))
      → AreCarriedOut words status (around_of (telling end)) telling
  unasked_carried words why fault end status status_is none same is was_told =
      told_so words why end status status_is none (is ∙ ap Told same) (subst (λ f. IsTold f (telling end)) same was_told)
