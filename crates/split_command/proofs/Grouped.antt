-- Some shares of a file: what their outputs hold once the file was dealt out and they were closed.
use Rattle.std.proofs.Common.{◌++◌, take, drop, append-nil, ◌≡◌, ◌∙◌, inl, inr, ℕ, zero, suc, ◌+◌, ◌≤◌, true, List, [], ◌∷◌, length, Option, Some, None, Result, Ok, Err, refl, sym, ap, subst, arith}
use Rattle.std.specs.Prelude.{slice_get, IsSomeAnd}
use Rattle.std.specs.Io.KnownBytes.{Appends}
use Rattle.std.proofs.lemmas.List.{drop_all}
use Rattle.marc_stream.specs.Pieces.{items}
use Rattle.marc_types.specs.declared.key.Key.{Key}
use Rattle.command_words.specs.declared.library.Library.{Library}
use Rattle.outside.specs.Fault.{Rose, count_sum}
use Rattle.outside.specs.Room.{RoomView, SameBut}
use Rattle.outside.proofs.Counts.{rose_later, rose_since, rose_closed}
use Rattle.outside.proofs.Rooms.{same_but_then, same_but_none}
use Rattle.outside.proofs.Fronts.{appends_told}
use Rattle.split_command.specs.Cut.{FileCut, IsCut}
use Rattle.split_command.specs.Shares.{dealt}
use Rattle.split_command.specs.Outputs.{AreFree, AreFresh, AreDealt, AreClosedWhole, AreClosedOrNot, AreWhole, AreOldOrWhole, KeepsFiles, HasOutputFault, IsOutputCause, RaisesFaults, HasSinkFault, IsPutOrOld}
use Rattle.split_command.specs.Reading.{IsDealtWhole}
use Rattle.split_command.specs.Dealing.{HasDealingCause, DealsSource}
use Rattle.split_command.specs.Groups.{HasCut, names_in, due_of, IsGroupWhole, IsGroupLeft, IsGroupCause}
use Rattle.split_command.specs.declared.plan.Group.{Group}
use Rattle.split_command.specs.declared.plan.Plan.{Plan}
use Rattle.split_command.specs.declared.fault.SplitFault.{SplitFault}
use Rattle.split_command.specs.declared.fault.SplitFault.TheVariants.{Input, Output, Memory}
use Rattle.split_command.proofs.Cuts.{pieces_once}
use Rattle.split_command.proofs.Dealt.{dealt_same}
use Rattle.split_command.proofs.SideBySide.{at_among, free_same, all_taken}

module _ {K : Type 0} (written : K → Option (List ℕ)) (faults : K → ℕ) where
  -- what was written to outputs that were fresh
  written_is : (was now : K) (bytes : List ℕ) → written was ≡ Some [] → Appends (written was) (written now) bytes → written now ≡ Some bytes
  written_is was now bytes fresh wrote = appends_told (written was) (written now) [] bytes fresh wrote

  -- closed whole
  pub whole_of_closed : (start new : RoomView) (due : ℕ → List ℕ) (first : ℕ) (names : List (List ℕ)) (outs outs_now : List K) → start.tells ≡ true
      → AreFresh written faults start outs → AreDealt written faults due first outs outs_now → AreClosedWhole written new names outs_now → AreWhole due first new names
  whole_of_closed start new due first [] outs outs_now tells fresh are closed = tt
  whole_of_closed start new due first (name ∷ names) [] [] tells fresh are closed = absurd closed
  whole_of_closed start new due first (name ∷ names) [] (now ∷ rest) tells fresh are closed = absurd are
  whole_of_closed start new due first (name ∷ names) (was ∷ outs) [] tells fresh are closed = absurd are
  whole_of_closed start new due first (name ∷ names) (was ∷ outs) (now ∷ rest) tells fresh are closed = (
    closed.0 ∙ written_is was now (due first) (fresh.0 tells) are.0,
    whole_of_closed start new due (first + 1) names outs rest tells fresh.2 are.2 closed.1,
  )

  -- each closed whole or as it was
  pub left_of_closed : (start old new : RoomView) (due : ℕ → List ℕ) (first : ℕ) (names : List (List ℕ)) (outs outs_now : List K) → start.tells ≡ true
      → KeepsFiles start old → AreFresh written faults start outs → AreDealt written faults due first outs outs_now → AreClosedOrNot written old new names outs_now
      → AreOldOrWhole due first start new names
  left_of_closed start old new due first [] outs outs_now tells kept fresh are closed = tt
  left_of_closed start old new due first (name ∷ names) [] [] tells kept fresh are closed = absurd closed
  left_of_closed start old new due first (name ∷ names) [] (now ∷ rest) tells kept fresh are closed = absurd are
  left_of_closed start old new due first (name ∷ names) (was ∷ outs) [] tells kept fresh are closed = absurd are
  left_of_closed start old new due first (name ∷ names) (was ∷ outs) (now ∷ rest) tells kept fresh are closed =
      (one closed.0, left_of_closed start old new due (first + 1) names outs rest tells kept fresh.2 are.2 closed.1)
    where
      one : IsPutOrOld old new name (written now) → IsPutOrOld start new name (Some (due first))
      one (inl put) = inl (put ∙ written_is was now (due first) (fresh.0 tells) are.0)
      one (inr is) = inr (is ∙ kept.files name)

  fresh_at : (start : RoomView) (outs : List K) (index : ℕ) (out : K) → AreFresh written faults start outs → slice_get outs index ≡ Some out → faults out ≡ 0
  fresh_at start [] index out fresh got = cc
  fresh_at start (first ∷ outs) zero out fresh got = let is : first ≡ out = cc in subst (λ k. faults k ≡ 0) is fresh.1
  fresh_at start (first ∷ outs) (suc index) out fresh got = fresh_at start outs index out fresh.2 got

  -- the fault of an output, counted when all are given up
  pub given_up_fault : (start old new : RoomView) (names : List (List ℕ)) (outs outs_now : List K) → length outs_now ≡ length names
      → ((n : List ℕ) → start.out_faults n ≤ old.out_faults n) → AreFresh written faults start outs → HasSinkFault faults outs outs_now
      → RaisesFaults faults names outs_now old new → HasOutputFault names start new
  given_up_fault start old new names outs outs_now many later fresh fault raises =
      let zero_before = fresh_at start outs fault.index fault.was fresh fault.before in
      let rose : Rose 0 (faults fault.now) = subst (λ n. Rose n (faults fault.now)) zero_before fault.rose in
      let named = name_at names outs_now fault.index fault.now (sym many) fault.behind in record {
        name = named.0;
        among = at_among names fault.index named.0 named.1;
        rose = rose_since (start.out_faults named.0) (old.out_faults named.0) (new.out_faults named.0) (later named.0)
            (raises fault.index named.0 fault.now named.1 fault.behind rose);
      }
    where
      name_at : (names : List (List ℕ)) (outs : List K) (index : ℕ) (out : K) → length names ≡ length outs → slice_get outs index ≡ Some out
          → (name : List ℕ) × (slice_get names index ≡ Some name)
      name_at names [] index out many got = cc
      name_at [] (o ∷ outs) index out many got = absurd (omega (arith, many))
      name_at (n ∷ names) (o ∷ outs) zero out many got = (n, refl)
      name_at (n ∷ names) (o ∷ outs) (suc index) out many got = name_at names outs index out (omega (arith, many)) got

-- where the files are as they were, each share is
pub kept_left : (old new : RoomView) (due : ℕ → List ℕ) (first : ℕ) (names : List (List ℕ)) → KeepsFiles old new → AreOldOrWhole due first old new names
kept_left old new due first [] kept = tt
kept_left old new due first (name ∷ names) kept = (inr (kept.files name), kept_left old new due (first + 1) names kept)

-- one step that keeps the files after another
pub keeps_then : (a b c : RoomView) → KeepsFiles a b → KeepsFiles b c → KeepsFiles a c
keeps_then a b c one two = record { files = λ name. two.files name ∙ one.files name }

pub keeps_same : (a b : RoomView) → SameBut a b [] → KeepsFiles a b
keeps_same a b same = record { files = λ name. same.files name tt }

-- a fault of outputs that was counted between
pub cause_between : (input : List ℕ) (names : List (List ℕ)) (start old new end : RoomView) (why : SplitFault)
    → ((n : List ℕ) → start.out_faults n ≤ old.out_faults n) → ((n : List ℕ) → new.out_faults n ≤ end.out_faults n)
    → IsOutputCause names old new why → IsGroupCause input names start end why
cause_between input names start old new end Input earlier later cause = absurd cause
cause_between input names start old new end Output earlier later cause = record {
  name = cause.name;
  among = cause.among;
  rose = rose_later (start.out_faults cause.name) (new.out_faults cause.name) (end.out_faults cause.name)
      (rose_since (start.out_faults cause.name) (old.out_faults cause.name) (new.out_faults cause.name) (earlier cause.name) cause.rose) (later cause.name);
}
cause_between input names start old new end Memory earlier later cause = tt

-- the pieces that were dealt are those of the file, however it is cut
pub dealt_as_cut : {K : Type 0} (written : K → Option (List ℕ)) (faults : K → ℕ) (room : RoomView) (library : Library) (plan : Plan) (first : ℕ)
    (outs outs_now : List K) (cut : FileCut) (left : Option (List ℕ)) → left ≡ room.file library.file → HasCut room library cut
    → ((bytes : List ℕ) → left ≡ Some bytes → IsDealtWhole written faults library.code plan.bounds first (items bytes) outs outs_now)
    → AreDealt written faults (due_of plan cut) first outs outs_now
dealt_as_cut written faults room library plan first outs outs_now cut left same has dealt_is = at (room.file library.file) same has
  where
    at : (file : Option (List ℕ)) → left ≡ file → IsSomeAnd file (λ bytes. IsCut library.code (items bytes) cut.pieces cut.refused)
        → AreDealt written faults (due_of plan cut) first outs outs_now
    at None is none = absurd none
    at (Some bytes) is cut_is =
        let whole = dealt_is bytes is in
        let pieces = pieces_once library.code (items bytes) whole.pieces cut.pieces whole.refused cut.refused whole.cut cut_is in
        dealt_same written faults (λ share. dealt plan.bounds share whole.pieces) (due_of plan cut) first outs outs_now
        (λ share. ap (dealt plan.bounds share) pieces) whole.dealt_are

-- ---- a group, from its beginning to its end

-- where its outputs couldn't be begun
pub record IsUnbegunGroup (plan : Plan) (library : Library) (group : Group) (names : List (List ℕ)) (old new : RoomView) (why : SplitFault) : Type 0 where
  pub apart : SameBut old new names
  pub closed : AreFree new names
  pub left : IsGroupLeft old new plan library group
  pub cause : IsGroupCause library.file names old new why

pub group_unbegun : (plan : Plan) (library : Library) (group : Group) (names : List (List ℕ)) (old mid new : RoomView) (why : SplitFault) → names ≡ names_in plan group
    → SameBut old mid names → KeepsFiles old mid → AreFree mid names → IsOutputCause names old mid why → SameBut mid new []
    → IsUnbegunGroup plan library group names old new why
group_unbegun plan library group names old mid new why is first kept free cause stays = record {
  apart = same_but_then old mid new names first (same_but_none mid new names stays);
  closed = free_same mid new names stays free;
  left = λ cut tells has.
      subst (AreOldOrWhole (due_of plan cut) group.first old new) is
      (kept_left old new (due_of plan cut) group.first names (keeps_then old mid new kept (keeps_same mid new stays)));
  cause = cause_between library.file names old old mid new why (λ n. omega arith) stays.outs cause;
}

module _ {K : Type 0} (written : K → Option (List ℕ)) (faults : K → ℕ) (plan : Plan) (library : Library) (group : Group) (names : List (List ℕ)) (is : names ≡ names_in plan group)
    (old begun read new : RoomView) (outs outs_now : List K) (first : SameBut old begun names) (kept : KeepsFiles old begun) (fresh : AreFresh written faults old outs)
    (stays : SameBut begun read []) (last : SameBut read new names) where
  since_begun : KeepsFiles old read
  since_begun = keeps_then old begun read kept (keeps_same begun read stays)

  outs_since : (n : List ℕ) → old.out_faults n ≤ read.out_faults n
  outs_since n = let one = first.outs n in let two = stays.outs n in omega (arith, one, two)

  pub group_apart : SameBut old new names
  group_apart = same_but_then old begun new names first (same_but_then begun read new names (same_but_none begun read names stays) last)

  module _ (left : Option (List ℕ)) (there : old.tells ≡ true → left ≡ old.file library.file)
      (dealt_is : (bytes : List ℕ) → left ≡ Some bytes → IsDealtWhole written faults library.code plan.bounds group.first (items bytes) outs outs_now) where
    are_dealt : (cut : FileCut) → old.tells ≡ true → HasCut old library cut → AreDealt written faults (due_of plan cut) group.first outs outs_now
    are_dealt cut tells has = dealt_as_cut written faults old library plan group.first outs outs_now cut left (there tells) has dealt_is

    pub group_whole : (read.tells ≡ true → AreClosedWhole written new names outs_now) → IsGroupWhole old new plan library group
    group_whole closed cut tells has =
        subst (AreWhole (due_of plan cut) group.first new) is
        (whole_of_closed written faults old new (due_of plan cut) group.first names outs outs_now tells fresh (are_dealt cut tells has)
        (closed (stays.tells ∙ first.tells ∙ tells)))

    pub group_left : (read.tells ≡ true → AreClosedOrNot written read new names outs_now) → IsGroupLeft old new plan library group
    group_left closed cut tells has =
        subst (AreOldOrWhole (due_of plan cut) group.first old new) is
        (left_of_closed written faults old read new (due_of plan cut) group.first names outs outs_now tells since_begun fresh (are_dealt cut tells has)
        (closed (stays.tells ∙ first.tells ∙ tells)))

  -- they couldn't be put in the places of their files
  pub closing_cause : (why : SplitFault) → IsOutputCause names read new why → IsGroupCause library.file names old new why
  closing_cause why cause = cause_between library.file names old read new new why outs_since (λ n. omega arith) cause

  -- they were given up
  pub group_given_up : KeepsFiles read new → IsGroupLeft old new plan library group
  group_given_up stay cut tells has =
      subst (AreOldOrWhole (due_of plan cut) group.first old new) is
      (kept_left old new (due_of plan cut) group.first names (keeps_then old read new since_begun stay))

  pub dealing_cause : (before now : ℕ) (why : SplitFault) → before ≡ 0 → read.in_faults library.file ≡ count_sum (begun.in_faults library.file) now
      → length outs_now ≡ length names → RaisesFaults faults names outs_now read new → HasDealingCause faults before now outs outs_now why
      → IsGroupCause library.file names old new why
  dealing_cause before now Input none counted many raises cause =
      rose_later (old.in_faults library.file) (read.in_faults library.file) (new.in_faults library.file)
      (subst (λ n. Rose (old.in_faults library.file) n) (sym counted)
      (rose_closed (old.in_faults library.file) (begun.in_faults library.file) now (first.ins library.file) (subst (λ n. Rose n now) none cause)))
      (last.ins library.file)
  dealing_cause before now Output none counted many raises cause =
      given_up_fault written faults old read new names outs outs_now many outs_since fresh cause raises
  dealing_cause before now Memory none counted many raises cause = tt

-- ---- how a file was dealt out

-- outputs that were lent and came back
pub lent_back : {K : Type 0} (outs back : List K) (len : ℕ) → len ≡ length outs → length back ≡ length outs → take len (back ++ drop (length back) outs) ≡ back
lent_back outs back len all many =
    let over : length outs ≤ length back = omega (arith, many) in
    let whole : len ≡ length back = omega (arith, all, many) in
    ap (λ l. take len (back ++ l)) (drop_all (length back) outs over) ∙ ap (take len) (append-nil back) ∙ all_taken back len whole

module _ {K : Type 0} (written : K → Option (List ℕ)) (faults : K → ℕ) (library : List ℕ) (bounds given : List Key) (first : ℕ) (left : Option (List ℕ)) (before now : ℕ)
    (outs lent outs_now : List K) (result : Result (Unit {0}) SplitFault) (lent_is : lent ≡ outs) (given_is : given ≡ bounds)
    (deals : DealsSource written faults library given first left before now lent outs_now result) where
  pub dealt_so : (value : Unit {0}) → result ≡ Ok value → (bytes : List ℕ) → left ≡ Some bytes → IsDealtWhole written faults library bounds first (items bytes) outs outs_now
  dealt_so value is bytes there =
      let so = subst (λ (r : Result (Unit {0}) SplitFault). DealsSource written faults library given first left before now lent outs_now r) is deals in
      subst (λ b. IsDealtWhole written faults library b first (items bytes) outs outs_now) given_is
      (subst (λ o. IsDealtWhole written faults library given first (items bytes) o outs_now) lent_is (so.dealt bytes there))

  pub stopped_so : (why : SplitFault) → result ≡ Err why → HasDealingCause faults before now outs outs_now why
  stopped_so why is =
      let so = subst (λ (r : Result (Unit {0}) SplitFault). DealsSource written faults library given first left before now lent outs_now r) is deals in
      subst (λ o. HasDealingCause faults before now o outs_now why) lent_is so.cause

-- ---- a group whose file was opened first

module _ (old mid new : RoomView) (plan : Plan) (library : Library) (group : Group) (stays : SameBut old mid []) where
  pub opened_whole : IsGroupWhole mid new plan library group → IsGroupWhole old new plan library group
  opened_whole whole cut tells has =
      whole cut (stays.tells ∙ tells) (subst (λ f. IsSomeAnd f (λ bytes. IsCut library.code (items bytes) cut.pieces cut.refused)) (sym (stays.files library.file tt)) has)

  left_since : (due : ℕ → List ℕ) (first : ℕ) (names : List (List ℕ)) → AreOldOrWhole due first mid new names → AreOldOrWhole due first old new names
  left_since due first [] left = tt
  left_since due first (name ∷ names) left = (one left.0, left_since due (first + 1) names left.1)
    where
      one : IsPutOrOld mid new name (Some (due first)) → IsPutOrOld old new name (Some (due first))
      one (inl put) = inl put
      one (inr is) = inr (is ∙ stays.files name tt)

  pub opened_left : IsGroupLeft mid new plan library group → IsGroupLeft old new plan library group
  opened_left left cut tells has =
      left_since (due_of plan cut) group.first (names_in plan group)
      (left cut (stays.tells ∙ tells) (subst (λ f. IsSomeAnd f (λ bytes. IsCut library.code (items bytes) cut.pieces cut.refused)) (sym (stays.files library.file tt)) has))

  pub opened_cause : (names : List (List ℕ)) (why : SplitFault) → IsGroupCause library.file names mid new why → IsGroupCause library.file names old new why
  opened_cause names Input cause = rose_since (old.in_faults library.file) (mid.in_faults library.file) (new.in_faults library.file) (stays.ins library.file) cause
  opened_cause names Output cause = record {
    name = cause.name;
    among = cause.among;
    rose = rose_since (old.out_faults cause.name) (mid.out_faults cause.name) (new.out_faults cause.name) (stays.outs cause.name) cause.rose;
  }
  opened_cause names Memory cause = tt

  -- nothing is written where nothing changed
  pub same_left : IsGroupLeft old mid plan library group
  same_left cut tells has = kept_left old mid (due_of plan cut) group.first (names_in plan group) (keeps_same old mid stays)
