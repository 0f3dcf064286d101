-- What an end says of the others.
use Rattle.std.proofs.Common.{◌≡◌, ◌≢◌, ◌∙◌, ℕ, Bool, true, false, List, Option, sym, subst}
use Rattle.std.specs.Io.KnownBytes.{Appends}
use Rattle.outside.specs.Fault.{Rose}
use Rattle.outside.specs.Sink.{WritesFront}
use Rattle.outside.proofs.Fronts.{front_all}
use Rattle.console_lines.specs.Ends.{end_of, IsAllDone, TellsNoFault, IsCommon, IsResultTold, ResultTold, ResultUntold, out_unwritten, side_unwritten, pages_unwritten, console_unwritten}
use Rattle.console_lines.specs.declared.fault.Fault.{Fault}
use Rattle.console_lines.specs.declared.end.End.{End}
use Rattle.console_lines.specs.declared.end.End.TheVariants.{Done, Unwritten, Told, BroughtInPart, Differ}
use Rattle.console_lines.specs.declared.end.Unwritten.{Unwritten as Which}
use Rattle.console_lines.specs.declared.end.Unwritten.TheVariants.{Out, Side, Pages, Console}

-- a command tells one fault
pub told_once : (end : End) (one other : Fault) → end ≡ Told one → end ≡ Told other → one ≡ other
told_once end one other is also = let both : Told one ≡ Told other = sym is ∙ also in cc

pub told_not_unwritten : (end : End) (why : Fault) (which : Which) → end ≡ Told why → end ≡ Unwritten which → ⊥
told_not_unwritten end why which is also = let both : Told why ≡ Unwritten which = sym is ∙ also in cc

pub told_not_done : (end : End) (why : Fault) → end ≡ Told why → end ≡ Done → ⊥
told_not_done end why is also = let both : Told why ≡ Done = sym is ∙ also in cc

pub done_not_unwritten : (end : End) (which : Which) → end ≡ Done → end ≡ Unwritten which → ⊥
done_not_unwritten end which is also = let both : Done ≡ Unwritten which = sym is ∙ also in cc

pub all_not_unwritten : (end : End) (which : Which) → IsAllDone end → end ≡ Unwritten which → ⊥
all_not_unwritten end which all is = subst IsAllDone is all

-- one thing is unwritten
pub unwritten_once : (end : End) (one other : Which) → end ≡ Unwritten one → end ≡ Unwritten other → one ≡ other
unwritten_once end one other is also = let both : Unwritten one ≡ Unwritten other = sym is ∙ also in cc

pub out_not_console : (end : End) → end ≡ Unwritten Out → end ≡ Unwritten Console → ⊥
out_not_console end is also = let no : Out ≡ Console = unwritten_once end Out Console is also in cc

pub out_not_side : (end : End) → end ≡ Unwritten Out → end ≡ Unwritten Side → ⊥
out_not_side end is also = let no : Out ≡ Side = unwritten_once end Out Side is also in cc

pub side_not_console : (end : End) → end ≡ Unwritten Side → end ≡ Unwritten Console → ⊥
side_not_console end is also = let no : Side ≡ Console = unwritten_once end Side Console is also in cc

pub pages_not_console : (end : End) → end ≡ Unwritten Pages → end ≡ Unwritten Console → ⊥
pages_not_console end is also = let no : Pages ≡ Console = unwritten_once end Pages Console is also in cc

pub never_told : (end : End) (why : Fault) → TellsNoFault end → end ≡ Told why → ⊥
never_told end why untold is = subst TellsNoFault is untold

pub told_not_all : (end : End) (why : Fault) → end ≡ Told why → IsAllDone end → ⊥
told_not_all end why is all = subst IsAllDone is all

-- a fault that is told, and all done, are ends that any command may have
pub told_common : (end : End) (why : Fault) → end ≡ Told why → IsCommon end
told_common end why is =
    ((λ also. let both : Told why ≡ BroughtInPart = sym is ∙ also in cc), (λ also. let both : Told why ≡ Differ = sym is ∙ also in cc))

pub all_common : (end : End) → IsAllDone end → IsCommon end
all_common end all = ((λ also. subst IsAllDone also all), (λ also. subst IsAllDone also all))

pub all_of : (refused : Bool) → IsAllDone (end_of refused)
all_of true = tt
all_of false = tt

pub untold_of : (refused : Bool) → TellsNoFault (end_of refused)
untold_of true = tt
untold_of false = tt

-- what a result that was told, or of which the console got a front, says of the end and of the console
module _ {old new : Option (List ℕ)} {before now : ℕ} {text : List ℕ} {refused : Bool} {end : End} where
  pub result_untold : IsResultTold old new before now text refused end → TellsNoFault end
  result_untold (ResultTold is line) = subst TellsNoFault (sym is) (untold_of refused)
  result_untold (ResultUntold is rose front) = subst TellsNoFault (sym is) tt

  pub result_done : IsResultTold old new before now text refused end → IsAllDone end → end ≡ end_of refused
  result_done (ResultTold is line) all = is
  result_done (ResultUntold is rose front) all = absurd (all_not_unwritten end Console all is)

  pub result_line : IsResultTold old new before now text refused end → IsAllDone end → Appends old new text
  result_line (ResultTold is line) all = line
  result_line (ResultUntold is rose front) all = absurd (all_not_unwritten end Console all is)

  pub result_front : IsResultTold old new before now text refused end → WritesFront old new text
  result_front (ResultTold is line) = front_all old new text line
  result_front (ResultUntold is rose front) = front

  -- the console alone can be unwritten
  result_console : (which : Which) → IsResultTold old new before now text refused end → end ≡ Unwritten which → which ≡ Console
  result_console which (ResultTold is line) also = absurd (all_not_unwritten (end_of refused) which (all_of refused) (sym is ∙ also))
  result_console which (ResultUntold is rose front) also = unwritten_once end which Console also is

  pub result_no_output : IsResultTold old new before now text refused end → (end ≢ out_unwritten) × (end ≢ side_unwritten)
  result_no_output told =
      ((λ also. let no : Out ≡ Console = result_console Out told also in cc), (λ also. let no : Side ≡ Console = result_console Side told also in cc))

  pub result_no_pages : IsResultTold old new before now text refused end → end ≢ pages_unwritten
  result_no_pages told = λ also. let no : Pages ≡ Console = result_console Pages told also in cc

  pub result_common : IsResultTold old new before now text refused end → IsCommon end
  result_common (ResultTold is line) = subst IsCommon (sym is) (all_common (end_of refused) (all_of refused))
  result_common (ResultUntold is rose front) =
      ((λ also. let both : Unwritten Console ≡ BroughtInPart = sym is ∙ also in cc), (λ also. let both : Unwritten Console ≡ Differ = sym is ∙ also in cc))

  pub result_cause : IsResultTold old new before now text refused end → end ≡ console_unwritten → Rose before now
  result_cause (ResultTold is line) also = absurd (all_not_unwritten (end_of refused) Console (all_of refused) (sym is ∙ also))
  result_cause (ResultUntold is rose front) also = rose
