-- What a join leaves of the room, and how it ended.
use Rattle.std.proofs.Common.{◌≡◌, ◌≢◌, ◌∙◌, ◌⊎◌, inl, inr, ℕ, ◌+◌, ◌<◌, ◌≤◌, Bool, true, false, true≢false, List, [], ◌∷◌, ◌++◌, length, take, drop, get_or, Option, Some, refl, sym, ap, subst, arith, take_all}
use Rattle.std.specs.Io.KnownBytes.{Appends}
use Rattle.std.specs.Str.{bytes_eq}
use Rattle.marc_types.specs.Order.{text_Decides}
use Rattle.marc_stream.specs.Pieces.{items}
use Rattle.marc_stream.specs.Stream.{Stream}
use Rattle.outside.specs.Fault.{Rose, count_sum, count_total}
use Rattle.outside.specs.Room.{RoomView, SameBut, IsUntouched, IsPut, IsPutOrNot, Untouched, Put}
use Rattle.outside.proofs.Counts.{rose_closed, rose_later, rose_since, count_total_more}
use Rattle.outside.proofs.Fronts.{appends_told}
use Rattle.outside.proofs.Rooms.{untouched_same, untouched_then}
use Rattle.console_lines.specs.Ends.{Outcome, IsTold, IsSilent, out_unwritten}
use Rattle.console_lines.specs.declared.end.End.TheVariants.{Done, Told, Differ}
use Rattle.console_lines.specs.declared.fault.Fault.{Fault}
use Rattle.console_lines.specs.declared.fault.Fault.TheVariants as fault
use Rattle.parts_commands.specs.Exports.{AreJoinedTo, ExportsDiffer, authorities_of, bytes_of}
use Rattle.parts_commands.specs.Joining.{AreJoinedBehind, AreWritten, EndsJoining, IsJoinedInto, IsOpened, IsOtherExportTold, IsOtherPart, IsPartWritten, IsStoppedAt, Joins, LeavesOut, StopsJoining}
use Rattle.parts_commands.specs.Reading.{IsFaultOfReading}
use Rattle.parts_commands.specs.Taking.{IsAppended, IsNotAppended}
use Rattle.parts_commands.specs.declared.stop.Stop.{Stop}
use Rattle.parts_commands.specs.declared.stop.Stop.TheVariants as stop
use Rattle.parts_commands.specs.declared.joining.Stopped.{Stopped}
use Rattle.parts_commands.specs.declared.joining.Stopped.TheVariants.{Unlike, Input, NoMemory, Output}
use Rattle.parts_commands.proofs.Found.{names_more, same_file}
use Rattle.parts_commands.proofs.Joins.{AreJoinedSoFar, joining_differs, joining_done, joining_more}
use Rattle.parts_commands.proofs.Read.{parts_at, rose_among}

-- ---- one export

module _ (room : RoomView) (tells : room.tells ≡ true) where
  pub first_written : (name : List ℕ) (pieces : Stream) (old new : Option (List ℕ)) → IsOpened room name pieces
      → (pieces.tells ≡ true → Appends old new (bytes_of (authorities_of pieces.coming))) → AreWritten room.file name old new
  first_written name pieces old new opened wrote = record {
    bytes = opened.bytes;
    there = opened.there tells;
    wrote = subst (λ its. Appends old new (bytes_of (authorities_of its))) (opened.coming tells) (wrote (opened.tells tells));
  }

  pub part_written : (other : RoomView) (first name : List ℕ) (beside pieces : Stream) (last last_now : List ℕ) (old new : Option (List ℕ))
      → SameBut room other [] → IsOpened room first beside → IsOpened other name pieces
      → (beside.tells ≡ true → pieces.tells ≡ true → IsAppended beside.coming pieces.coming last last_now old new)
      → IsPartWritten room.file first name last last_now old new
  part_written other first name beside pieces last last_now old new stays first_opened opened wrote =
      let also : other.tells ≡ true = stays.tells ∙ tells in
      record {
        first_bytes = first_opened.bytes;
        first_there = first_opened.there tells;
        bytes = opened.bytes;
        there = sym (stays.files name tt) ∙ opened.there also;
        appended = subst (λ its. IsAppended its (items opened.bytes) last last_now old new) (first_opened.coming tells)
            (subst (λ its. IsAppended beside.coming its last last_now old new) (opened.coming also) (wrote (first_opened.tells tells) (opened.tells also)));
      }

  pub other_part : (other : RoomView) (first name : List ℕ) (beside pieces : Stream) (last : List ℕ) (place : ℕ)
      → SameBut room other [] → IsOpened room first beside → IsOpened other name pieces
      → (beside.tells ≡ true → pieces.tells ≡ true → IsNotAppended beside.coming pieces.coming last place)
      → IsOtherPart room.file first name last place
  other_part other first name beside pieces last place stays first_opened opened not =
      let also : other.tells ≡ true = stays.tells ∙ tells in
      record {
        first_bytes = first_opened.bytes;
        first_there = first_opened.there tells;
        bytes = opened.bytes;
        there = sym (stays.files name tt) ∙ opened.there also;
        not = subst (λ its. IsNotAppended its (items opened.bytes) last place) (first_opened.coming tells)
            (subst (λ its. IsNotAppended beside.coming its last place) (opened.coming also) (not (first_opened.tells tells) (opened.tells also)));
      }

-- a name's count rose by the faults of an input that was opened without any and then closed
pub closed_rose : (a b c before now : ℕ) → a ≤ b → before ≡ 0 → Rose before now → c ≡ count_sum b now → Rose a c
closed_rose a b c before now later fresh rose is =
    subst (Rose a) (sym is) (rose_closed a b now later (subst (λ n. Rose n now) fresh rose))

pub either_rose : (r0 r2 r3 r4 : RoomView) (first name : List ℕ) (before now other_before other_now : ℕ) → SameBut r0 r2 [] → SameBut r2 r3 [] → SameBut r3 r4 []
    → before ≡ 0 → other_before ≡ 0 → r3.in_faults name ≡ count_sum (r2.in_faults name) other_now → r4.in_faults first ≡ count_sum (r3.in_faults first) now
    → Rose before now ⊎ Rose other_before other_now → Rose (r0.in_faults first) (r4.in_faults first) ⊎ Rose (r0.in_faults name) (r4.in_faults name)
either_rose r0 r2 r3 r4 first name before now other_before other_now opened closed closed_first fresh other_fresh counted first_counted (inl rose) =
    inl (closed_rose (r0.in_faults first) (r3.in_faults first) (r4.in_faults first) before now (omega (arith, opened.ins first, closed.ins first)) fresh rose first_counted)
either_rose r0 r2 r3 r4 first name before now other_before other_now opened closed closed_first fresh other_fresh counted first_counted (inr rose) =
    inr (rose_later (r0.in_faults name) (r3.in_faults name) (r4.in_faults name)
    (closed_rose (r0.in_faults name) (r2.in_faults name) (r3.in_faults name) other_before other_now (opened.ins name) other_fresh rose counted) (closed_first.ins name))

-- ---- why the joining stopped

pub first_stops : (old new : RoomView) (first : List ℕ) (rest : List (List ℕ)) (before now : ℕ) (why : Stop) (stopped : Stopped)
    → ((n : List ℕ) → old.in_faults n ≤ new.in_faults n) → IsStoppedAt why first stopped → ((place : ℕ) → why ≡ stop.Unlike place → ⊥)
    → (why ≡ stop.Input → Rose (old.in_faults first) (new.in_faults first)) → (why ≡ stop.Output → Rose before now)
    → StopsJoining old new (first ∷ rest) before now stopped
first_stops old new first rest before now (stop.Unlike place) (Unlike at of) later is like input output = absurd (like place refl)
first_stops old new first rest before now stop.Input Input later is like input output =
    rose_among old.in_faults new.in_faults [] first rest later (input refl)
first_stops old new first rest before now stop.NoMemory NoMemory later is like input output = tt
first_stops old new first rest before now stop.Output Output later is like input output = output refl
first_stops old new first rest before now _ _ later is like input output = absurd is

pub part_stops : (old new : RoomView) (first : List ℕ) (rest : List (List ℕ)) (name : List ℕ) (others more : List (List ℕ)) (before now : ℕ) (why : Stop) (stopped : Stopped)
    → ((n : List ℕ) → old.in_faults n ≤ new.in_faults n) → others ++ name ∷ more ≡ first ∷ rest → IsStoppedAt why name stopped
    → ((place : ℕ) → why ≡ stop.Unlike place → old.tells ≡ true → ExportsDiffer old.file (first ∷ rest) place name)
    → (why ≡ stop.Input → Rose (old.in_faults first) (new.in_faults first) ⊎ Rose (old.in_faults name) (new.in_faults name)) → (why ≡ stop.Output → Rose before now)
    → StopsJoining old new (first ∷ rest) before now stopped
part_stops old new first rest name others more before now (stop.Unlike place) (Unlike at of) later names is differs input output =
    λ tells. subst (λ n. ExportsDiffer old.file (first ∷ rest) at n) (sym is.1)
    (subst (λ p. ExportsDiffer old.file (first ∷ rest) p name) (sym is.0) (differs place refl tells))
part_stops old new first rest name others more before now stop.Input Input later names is differs input output = by (input refl)
  where
    by : Rose (old.in_faults first) (new.in_faults first) ⊎ Rose (old.in_faults name) (new.in_faults name)
        → Rose (count_total old.in_faults (first ∷ rest)) (count_total new.in_faults (first ∷ rest))
    by (inl rose) = rose_among old.in_faults new.in_faults [] first rest later rose
    by (inr rose) = subst (λ ns. Rose (count_total old.in_faults ns) (count_total new.in_faults ns)) names
        (rose_among old.in_faults new.in_faults others name more later rose)
part_stops old new first rest name others more before now stop.NoMemory NoMemory later names is differs input output = tt
part_stops old new first rest name others more before now stop.Output Output later names is differs input output = output refl
part_stops old new first rest name others more before now _ _ later names is differs input output = absurd is

-- ---- export after export

-- the exports by the first of them
pub names_begin : (names : List (List ℕ)) (first default : List ℕ) → 0 < length names → first ≡ get_or names 0 default → names ≡ first ∷ drop 1 names
names_begin [] first default some is = absurd (omega (arith, some))
names_begin (n ∷ names) first default some is = ap (λ x. x ∷ names) (sym is)

pub stops_at_first : (old new : RoomView) (names : List (List ℕ)) (first : List ℕ) (before now : ℕ) (why : Stop) (stopped : Stopped)
    → names ≡ first ∷ drop 1 names → SameBut old new [] → IsStoppedAt why first stopped → ((place : ℕ) → why ≡ stop.Unlike place → ⊥)
    → (why ≡ stop.Input → Rose (old.in_faults first) (new.in_faults first)) → (why ≡ stop.Output → Rose before now)
    → StopsJoining old new names before now stopped
stops_at_first old new names first before now why stopped names_are stays is like input output =
    subst (λ ns. StopsJoining old new ns before now stopped) (sym names_are)
    (first_stops old new first (drop 1 names) before now why stopped stays.ins is like input output)

module _ (old now : RoomView) (first name : List ℕ) (names : List (List ℕ)) (i : ℕ) (last : List ℕ) (out out_now : Option (List ℕ)) (stays : SameBut old now [])
    (so : old.tells ≡ true → AreJoinedSoFar old.file first (take i names) last out out_now) (within : i < length names) (name_is : name ≡ get_or names i name) where
  pub joining_next : (last_now : List ℕ) (out_new : Option (List ℕ)) → (now.tells ≡ true → IsPartWritten now.file first name last last_now out_now out_new)
      → old.tells ≡ true → AreJoinedSoFar old.file first (take (i + 1) names) last_now out out_new
  joining_next last_now out_new written tells =
      joining_more old.file first name (take i names) (take (i + 1) names) last last_now out out_now out_new (so tells)
      (subst (λ file. IsPartWritten file first name last last_now out_now out_new) (same_file old now stays) (written (stays.tells ∙ tells)))
      (names_more names i name within name_is)

  pub stops_at_part : (new : RoomView) (before mid now_faults : ℕ) (why : Stop) (stopped : Stopped) → names ≡ first ∷ drop 1 names → SameBut now new []
      → before ≤ mid → IsStoppedAt why name stopped
      → ((place : ℕ) → why ≡ stop.Unlike place → now.tells ≡ true → IsOtherPart now.file first name last place)
      → (why ≡ stop.Input → Rose (now.in_faults first) (new.in_faults first) ⊎ Rose (now.in_faults name) (new.in_faults name))
      → (why ≡ stop.Output → Rose mid now_faults) → StopsJoining old new names before now_faults stopped
  stops_at_part new before mid now_faults why stopped names_are also later is other input output =
      let ins : (n : List ℕ) → old.in_faults n ≤ new.in_faults n = λ n. omega (arith, stays.ins n, also.ins n) in
      let here : take i names ++ name ∷ drop (i + 1) names ≡ first ∷ drop 1 names = sym (parts_at names i name within name_is) ∙ names_are in
      subst (λ ns. StopsJoining old new ns before now_faults stopped) (sym names_are)
      (part_stops old new first (drop 1 names) name (take i names) (drop (i + 1) names) before now_faults why stopped ins here is
      (λ place unlike tells. joining_differs old.file first (drop 1 names) (take i names) last out out_now (so tells) name (drop (i + 1) names) place here
      (subst (λ file. IsOtherPart file first name last place) (same_file old now stays) (other place unlike (stays.tells ∙ tells))))
      (λ fault. since (input fault)) (λ fault. rose_since before mid now_faults later (output fault)))
    where
      since : Rose (now.in_faults first) (new.in_faults first) ⊎ Rose (now.in_faults name) (new.in_faults name)
          → Rose (old.in_faults first) (new.in_faults first) ⊎ Rose (old.in_faults name) (new.in_faults name)
      since (inl rose) = inl (rose_since (old.in_faults first) (now.in_faults first) (new.in_faults first) (stays.ins first) rose)
      since (inr rose) = inr (rose_since (old.in_faults name) (now.in_faults name) (new.in_faults name) (stays.ins name) rose)

pub joined_all : (room : RoomView) (first : List ℕ) (names : List (List ℕ)) (i : ℕ) (last : List ℕ) (out out_now : Option (List ℕ))
    → (room.tells ≡ true → AreJoinedSoFar room.file first (take i names) last out out_now) → length names ≤ i → names ≡ first ∷ drop 1 names
    → room.tells ≡ true → AreJoinedBehind room.file names out out_now
joined_all room first names i last out out_now so over names_are tells =
    joining_done room.file first (drop 1 names) names last out out_now
    (subst (λ ns. AreJoinedSoFar room.file first ns last out out_now) (take_all i names over) (so tells)) names_are

-- ---- an output that was begun

-- all files are as they were
same_files : (a b : RoomView) (out : List ℕ) → SameBut a b (out ∷ []) → IsUntouched a b out → b.file ≡ a.file
same_files a b out apart untouched = λ i n. same n i
  where
    same : (n : List ℕ) → b.file n ≡ a.file n
    same n = by (bytes_eq n out) refl
      where
        by : (t : Bool) → bytes_eq n out ≡ t → b.file n ≡ a.file n
        by true e = let is = (text_Decides n out).0 e in ap b.file is ∙ untouched.file ∙ sym (ap a.file is)
        by false e = apart.files n ((λ is. true≢false (sym ((text_Decides n out).1 is) ∙ e)), tt)

module _ (a b c d : RoomView) (names : List (List ℕ)) (out : List ℕ) (begun : SameBut a b (out ∷ [])) (untouched : IsUntouched a b out) (stays : SameBut b c [])
    (ended : SameBut c d (out ∷ [])) (before now : ℕ) (fresh : before ≡ 0) where
  later : (n : List ℕ) → a.in_faults n ≤ d.in_faults n
  later n = omega (arith, begun.ins n, stays.ins n, ended.ins n)

  -- it is given up
  pub stops_given_up : (stopped : Stopped) → d.out_faults out ≡ count_sum (c.out_faults out) now → StopsJoining b c names before now stopped
      → StopsJoining a d names (a.out_faults out) (d.out_faults out) stopped
  stops_given_up (Unlike place name) counted stops =
      λ tells. subst (λ file. ExportsDiffer file names place name.now) (same_files a b out begun untouched) (stops (begun.tells ∙ tells))
  stops_given_up Input counted stops =
      rose_since (count_total a.in_faults names) (count_total b.in_faults names) (count_total d.in_faults names)
      (count_total_more a.in_faults b.in_faults names begun.ins)
      (rose_later (count_total b.in_faults names) (count_total c.in_faults names) (count_total d.in_faults names) stops
      (count_total_more c.in_faults d.in_faults names ended.ins))
  stops_given_up NoMemory counted stops = tt
  stops_given_up Output counted stops =
      closed_rose (a.out_faults out) (c.out_faults out) (d.out_faults out) before now (omega (arith, begun.outs out, stays.outs out)) fresh stops counted

  untouched_then_ended : IsUntouched c d out → IsUntouched a d out
  untouched_then_ended ended_untouched =
      untouched_then a b d out untouched (untouched_then b c d out (untouched_same b c out stays) ended_untouched)

  pub left_given_up : (stopped : Stopped) → IsUntouched c d out → LeavesOut a d names out stopped
  left_given_up (Unlike place name) same = untouched_then_ended same
  left_given_up Input same = untouched_then_ended same
  left_given_up NoMemory same = untouched_then_ended same
  left_given_up Output same = λ tells. inl (untouched_then_ended same)

  -- it is put
  pub put_joined : (old new : Option (List ℕ)) → a.tells ≡ true → (b.tells ≡ true → old ≡ Some []) → (b.tells ≡ true → AreJoinedBehind b.file names old new)
      → IsPut c d out new → IsJoinedInto names out a d
  put_joined old new tells empty joined put =
      let also : b.tells ≡ true = begun.tells ∙ tells in
      let so = joined also in
      record {
        due = so.due;
        joined = subst (λ file. AreJoinedTo file names so.due) (same_files a b out begun untouched) so.joined;
        put = put.file (stays.tells ∙ also) ∙ appends_told old new [] so.due (empty also) so.wrote;
      }

  pub put_or_not_joined : (old new : Option (List ℕ)) → (b.tells ≡ true → old ≡ Some []) → (b.tells ≡ true → AreJoinedBehind b.file names old new)
      → IsPutOrNot c d out new → LeavesOut a d names out Output
  put_or_not_joined old new empty joined (Untouched same) = λ tells. inl (untouched_then_ended same)
  put_or_not_joined old new empty joined (Put put) = λ tells. inr (put_joined old new tells empty joined put)

-- ---- how the command ended

module _ (out : List ℕ) (names : List (List ℕ)) (o : Outcome) where
  pub joins_done : o.end ≡ Done → IsSilent o → (o.old.tells ≡ true → IsJoinedInto names out o.old o.new) → Joins out names o
  joins_done is silent put = record {
    ends = subst EndsJoining (sym is) tt;
    told = λ why also. let both : Done ≡ Told why = sym is ∙ also in absurd (cc);
    input = λ also. let both : Done ≡ Told fault.Input = sym is ∙ also in absurd (cc);
    differ = λ also. let both : Done ≡ Differ = sym is ∙ also in absurd (cc);
    untouched = λ anything. absurd (by anything);
    silent = λ also. silent;
    whole = λ also tells. put tells;
    cause = λ also. let both : Done ≡ out_unwritten = sym is ∙ also in absurd (cc);
    part = λ also. let both : Done ≡ out_unwritten = sym is ∙ also in absurd (cc);
  }
    where
      by : (o.end ≡ Differ) ⊎ ((why : Fault) × (o.end ≡ Told why)) → ⊥
      by (inl also) = let both : Done ≡ Differ = sym is ∙ also in cc
      by (inr also) = let both : Done ≡ Told also.0 = sym is ∙ also.1 in cc

  pub joins_unwritten : o.end ≡ out_unwritten → IsSilent o → Rose (o.old.out_faults out) (o.new.out_faults out)
      → (o.old.tells ≡ true → IsUntouched o.old o.new out ⊎ IsJoinedInto names out o.old o.new) → Joins out names o
  joins_unwritten is silent rose left = record {
    ends = subst EndsJoining (sym is) tt;
    told = λ why also. let both : out_unwritten ≡ Told why = sym is ∙ also in absurd (cc);
    input = λ also. let both : out_unwritten ≡ Told fault.Input = sym is ∙ also in absurd (cc);
    differ = λ also. let both : out_unwritten ≡ Differ = sym is ∙ also in absurd (cc);
    untouched = λ anything. absurd (by anything);
    silent = λ also. silent;
    whole = λ also. let both : out_unwritten ≡ Done = sym is ∙ also in absurd (cc);
    cause = λ also. rose;
    part = λ also tells. left tells;
  }
    where
      by : (o.end ≡ Differ) ⊎ ((why : Fault) × (o.end ≡ Told why)) → ⊥
      by (inl also) = let both : out_unwritten ≡ Differ = sym is ∙ also in cc
      by (inr also) = let both : out_unwritten ≡ Told also.0 = sym is ∙ also.1 in cc

  pub joins_told : (why : Fault) → o.end ≡ Told why → IsTold why o → IsFaultOfReading why → IsUntouched o.old o.new out
      → (why ≡ fault.Input → Rose (count_total o.old.in_faults names) (count_total o.new.in_faults names)) → Joins out names o
  joins_told why is told kind same input = record {
    ends = subst EndsJoining (sym is) kind;
    told = λ other also. let both : Told why ≡ Told other = sym is ∙ also in let one : why ≡ other = cc in subst (λ w. IsTold w o) one told;
    input = λ also. let both : Told why ≡ Told fault.Input = sym is ∙ also in input (cc);
    differ = λ also. let both : Told why ≡ Differ = sym is ∙ also in absurd (cc);
    untouched = λ anything. same;
    silent = λ also. absurd (by also);
    whole = λ also. let both : Told why ≡ Done = sym is ∙ also in absurd (cc);
    cause = λ also. let both : Told why ≡ out_unwritten = sym is ∙ also in absurd (cc);
    part = λ also. let both : Told why ≡ out_unwritten = sym is ∙ also in absurd (cc);
  }
    where
      by : (o.end ≡ Done) ⊎ (o.end ≡ out_unwritten) → ⊥
      by (inl also) = let both : Told why ≡ Done = sym is ∙ also in cc
      by (inr also) = let both : Told why ≡ out_unwritten = sym is ∙ also in cc

  pub joins_differ : o.end ≡ Differ → IsOtherExportTold names o → IsUntouched o.old o.new out → Joins out names o
  joins_differ is told same = record {
    ends = subst EndsJoining (sym is) tt;
    told = λ why also. let both : Differ ≡ Told why = sym is ∙ also in absurd (cc);
    input = λ also. let both : Differ ≡ Told fault.Input = sym is ∙ also in absurd (cc);
    differ = λ also. told;
    untouched = λ anything. same;
    silent = λ also. absurd (by also);
    whole = λ also. let both : Differ ≡ Done = sym is ∙ also in absurd (cc);
    cause = λ also. let both : Differ ≡ out_unwritten = sym is ∙ also in absurd (cc);
    part = λ also. let both : Differ ≡ out_unwritten = sym is ∙ also in absurd (cc);
  }
    where
      by : (o.end ≡ Done) ⊎ (o.end ≡ out_unwritten) → ⊥
      by (inl also) = let both : Differ ≡ Done = sym is ∙ also in cc
      by (inr also) = let both : Differ ≡ out_unwritten = sym is ∙ also in cc
