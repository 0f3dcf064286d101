-- A whole checkpoint behind a log: what it is of, and that it is the last one then.
use Rattle.std.proofs.Common.{◌≡◌, ◌∙◌, ℕ, suc, ◌+◌, ◌≤◌, Bool, true, false, cond, List, [], ◌∷◌, ◌++◌, length, map, Option, refl, sym, ap, subst, ◌⊎◌, inl, inr, arith}
use mathlib.Core.List.{map-append}
use Rattle.std.specs.Prelude.{filter}
use Rattle.std.specs.List.{flat_map}
use Rattle.std.proofs.lemmas.List.{append-nil}
use Rattle.std.proofs.lemmas.List.Elements.{All-append, All-from_recursion}
use Rattle.outside.specs.Disk.{DiskView, LeavesOnly}
use Rattle.marc_types.specs.declared.key.Class.{Class}
use Rattle.marc_types.specs.declared.key.Class.TheVariants.{Authority, Bibliographic}
use Rattle.catalogue_rules.specs.State.{Row, State}
use Rattle.catalogue_rules.specs.Receipt.{same_class}
use Rattle.catalogue_rules.specs.Valid.{IsAscending}
use Rattle.catalogue_rules.proofs.Elements.{Each, each_weaker}
use Rattle.kept_rows.specs.declared.row.KeptRow.{KeptRow}
use Rattle.kept_rows.specs.Rows.{row_of, is_of, rows_in, state_of_rows, are_in_order}
use Rattle.kept_rows.proofs.Classes.{ascending_ordered}
use Rattle.commit_journal.specs.Log.{frames_of, payloads_of}
use Rattle.commit_journal.specs.Journal.{and_frames, frames_from, frames_len, HasAllOrNone}
use Rattle.commit_journal.specs.declared.frame.Frame.{Frame}
use Rattle.commit_journal.specs.declared.format.TheConstants.{LENGTH_BYTES}
use Rattle.commit_journal.proofs.Steps.{leaves_weaker}
use Rattle.checkpoint.specs.Format.{part_bytes}
use Rattle.checkpoint.specs.Parts.{IsPart, ArePartsOf}
use Rattle.checkpoint.specs.Points.{IsSnapshot, half_checkpoint, point_of}
use Rattle.checkpoint.specs.declared.part.Part.{Part}
use Rattle.checkpoint.specs.declared.part.Part.TheVariants.{End}
use Rattle.checkpoint.specs.declared.point.Point.{Point}
use Rattle.checkpoint.proofs.Wholes.{whole_read}
use Rattle.restoring.specs.Drafts.{ClassRow, class_row_of, of_class, rows_in_turn, IsWritten}
use Rattle.restoring.specs.Writing.{HasPoint, HasPointOrNot, HasLast, HasNewLast, HasOldOrNewLast}

-- ---- rows of both classes, in turn

cons_first : {X : Type 0} (a b : X) (x y : List X) → a ∷ x ≡ b ∷ y → a ≡ b
cons_first a b x y e = cc

cons_others : {X : Type 0} (a b : X) (x y : List X) → a ∷ x ≡ b ∷ y → x ≡ y
cons_others a b x y e = cc

none_some : {X : Type 0} (x : X) (xs : List X) → [] ≡ x ∷ xs → ⊥
none_some x xs e = cc

record IsParted (rows : List KeptRow) (firsts seconds : List ClassRow) : Type 0 where
  front : List KeptRow
  rest : List KeptRow
  split : rows ≡ front ++ rest
  front_are : map class_row_of front ≡ firsts
  rest_are : map class_row_of rest ≡ seconds

parted : (rows : List KeptRow) (firsts seconds : List ClassRow) → map class_row_of rows ≡ firsts ++ seconds → IsParted rows firsts seconds
parted rows [] seconds e = record { front = []; rest = rows; split = refl; front_are = refl; rest_are = e }
parted [] (a ∷ firsts) seconds e = absurd (none_some a (firsts ++ seconds) e)
parted (r ∷ rows) (a ∷ firsts) seconds e =
    let p = parted rows firsts seconds (cons_others (class_row_of r) a (map class_row_of rows) (firsts ++ seconds) e) in
    let first = cons_first (class_row_of r) a (map class_row_of rows) (firsts ++ seconds) e in
    record {
      front = r ∷ p.front;
      rest = p.rest;
      split = ap (λ rs. r ∷ rs) p.split;
      front_are = ap (λ l. class_row_of r ∷ l) p.front_are ∙ ap (λ c. c ∷ firsts) first;
      rest_are = p.rest_are;
    }

-- the rows of one class alone
record AreOf (class : Class) (rows : List KeptRow) (firsts : List Row) : Type 0 where
  each : Each (λ (r : KeptRow). r.class ≡ class) rows
  rows_are : map row_of rows ≡ firsts

of_one : (class : Class) (rows : List KeptRow) (firsts : List Row) → map class_row_of rows ≡ of_class class firsts → AreOf class rows firsts
of_one class [] [] e = record { each = tt; rows_are = refl }
of_one class [] (a ∷ firsts) e = absurd (none_some (class, a) (of_class class firsts) e)
of_one class (r ∷ rows) [] e = absurd (none_some (class_row_of r) (map class_row_of rows) (sym e))
of_one class (r ∷ rows) (a ∷ firsts) e =
    let first = cons_first (class_row_of r) (class, a) (map class_row_of rows) (of_class class firsts) e in
    let others = of_one class rows firsts (cons_others (class_row_of r) (class, a) (map class_row_of rows) (of_class class firsts) e) in
    record {
      each = (ap (λ (p : ClassRow). p.0) first, others.each);
      rows_are = ap (λ (row : Row). row ∷ map row_of rows) (ap (λ (p : ClassRow). p.1) first) ∙ ap (λ l. a ∷ l) others.rows_are;
    }

-- all of a class pass its test, and none passes another's
filtered_all : (class : Class) (rows : List KeptRow) → Each (λ (r : KeptRow). is_of class r ≡ true) rows → filter (is_of class) rows ≡ rows
filtered_all class [] e = refl
filtered_all class (r ∷ rows) e =
    ap (λ b. cond b (r ∷ filter (is_of class) rows) (filter (is_of class) rows)) e.0 ∙ ap (λ l. r ∷ l) (filtered_all class rows e.1)

filtered_none : (class : Class) (rows : List KeptRow) → Each (λ (r : KeptRow). is_of class r ≡ false) rows → filter (is_of class) rows ≡ []
filtered_none class [] e = refl
filtered_none class (r ∷ rows) e =
    ap (λ b. cond b (r ∷ filter (is_of class) rows) (filter (is_of class) rows)) e.0 ∙ filtered_none class rows e.1

filter_both : (class : Class) (xs ys : List KeptRow) → filter (is_of class) (xs ++ ys) ≡ filter (is_of class) xs ++ filter (is_of class) ys
filter_both class [] ys = refl
filter_both class (x ∷ xs) ys = at (is_of class x) (filter_both class xs ys) where
  at : (b : Bool) → filter (is_of class) (xs ++ ys) ≡ filter (is_of class) xs ++ filter (is_of class) ys → cond b (x ∷ filter (is_of class) (xs ++ ys)) (filter (is_of class) (xs ++ ys)) ≡ cond b (x ∷ filter (is_of class) xs) (filter (is_of class) xs) ++ filter (is_of class) ys
  at true ih = ap (λ l. x ∷ l) ih
  at false ih = ih

tests : (class other : Class) (b : Bool) → same_class other class ≡ b → (rows : List KeptRow) → Each (λ (r : KeptRow). r.class ≡ other) rows → Each (λ (r : KeptRow). is_of class r ≡ b) rows
tests class other b is rows e =
    each_weaker (λ (r : KeptRow). r.class ≡ other) (λ (r : KeptRow). is_of class r ≡ b) (λ r same. ap (λ c. same_class c class) same ∙ is) rows e

record IsInTurn (rows : List KeptRow) (s : State) : Type 0 where
  state_is : state_of_rows rows ≡ s
  in_order : are_in_order rows ≡ true

in_turn_by : (xs ys : List KeptRow) (s : State) → IsAscending s.authorities → IsAscending s.bibliographic → AreOf Authority xs s.authorities → AreOf Bibliographic ys s.bibliographic
    → IsInTurn (xs ++ ys) s
unfolding rows_in
in_turn_by xs ys s first second x y =
    let xa = tests Authority Authority true refl xs x.each in
    let xb = tests Bibliographic Authority false refl xs x.each in
    let ya = tests Authority Bibliographic false refl ys y.each in
    let yb = tests Bibliographic Bibliographic true refl ys y.each in
    let authorities : filter (is_of Authority) (xs ++ ys) ≡ xs =
    filter_both Authority xs ys ∙ ap (λ l. l ++ filter (is_of Authority) ys) (filtered_all Authority xs xa) ∙ ap (λ l. xs ++ l) (filtered_none Authority ys ya) ∙ append-nil xs in
    let publications : filter (is_of Bibliographic) (xs ++ ys) ≡ ys =
    filter_both Bibliographic xs ys ∙ ap (λ l. l ++ filter (is_of Bibliographic) ys) (filtered_none Bibliographic xs xb) ∙ filtered_all Bibliographic ys yb in
    let a = ap (map row_of) authorities ∙ x.rows_are in
    let b = ap (map row_of) publications ∙ y.rows_are in
    record {
      state_is = λ i. record { authorities = a i; bibliographic = b i };
      in_order =
          ascending_ordered xs ys (All-from_recursion (λ (r : KeptRow). is_of Authority r ≡ true) xs xa) (All-from_recursion (λ (r : KeptRow). is_of Bibliographic r ≡ true) ys yb)
          (subst IsAscending (sym x.rows_are) first) (subst IsAscending (sym y.rows_are) second);
    }

in_turn : (rows : List KeptRow) (s : State) → IsAscending s.authorities → IsAscending s.bibliographic → map class_row_of rows ≡ rows_in_turn s → IsInTurn rows s
in_turn rows s first second is =
    let p = parted rows (of_class Authority s.authorities) (of_class Bibliographic s.bibliographic) is in
    subst (λ rs. IsInTurn rs s) (sym p.split)
    (in_turn_by p.front p.rest s first second (of_one Authority p.front s.authorities p.front_are) (of_one Bibliographic p.rest s.bibliographic p.rest_are))

length_mapped : {A B : Type 0} (f : A → B) (xs : List A) → length (map f xs) ≡ length xs
length_mapped f [] = refl
length_mapped f (x ∷ xs) = ap suc (length_mapped f xs)

-- ---- behind a log

-- what is written of a state's rows is a whole checkpoint of the state
written_snapshot : (entries : ℕ) (s : State) (payloads : List (List ℕ)) (w : IsWritten entries (rows_in_turn s) payloads) → IsAscending s.authorities → IsAscending s.bibliographic
    → IsSnapshot entries s (half_checkpoint w.chunks ++ End entries (length (rows_in_turn s)) ∷ [])
written_snapshot entries s payloads w first second =
    let rows = flat_map (λ (c : List KeptRow). c) w.chunks in
    let turn = in_turn rows s first second w.rows_are in
    let counted : length (rows_in_turn s) ≡ length rows = ap length (sym w.rows_are) ∙ length_mapped class_row_of rows in
    record {
      rows = rows;
      state_is = turn.state_is;
      whole = record {
        chunks = w.chunks;
        rows_are = refl;
        in_order = turn.in_order;
        parts_are = ap (λ n. half_checkpoint w.chunks ++ End entries n ∷ []) counted;
      };
    }

payloads_back : (payloads : List (List ℕ)) (place : ℕ) → payloads_of (frames_from place payloads) ≡ payloads
payloads_back [] place = refl
payloads_back (payload ∷ payloads) place = ap (λ ps. payload ∷ ps) (payloads_back payloads (place + 1 + LENGTH_BYTES + length payload))

pub point_behind : (entries : ℕ) (s : State) (payloads : List (List ℕ)) → IsWritten entries (rows_in_turn s) payloads → IsAscending s.authorities → IsAscending s.bibliographic
    → (place : ℕ) (log image : List ℕ) → frames_of image ≡ and_frames (frames_of log) (frames_from place payloads) → HasPoint entries s log image
point_behind entries s payloads w first second place log image is = record {
  more = frames_from place payloads;
  parts = half_checkpoint w.chunks ++ End entries (length (rows_in_turn s)) ∷ [];
  are = subst (λ ps. ArePartsOf ps (half_checkpoint w.chunks ++ End entries (length (rows_in_turn s)) ∷ [])) (sym (payloads_back payloads place)) w.are;
  snapshot = written_snapshot entries s payloads w first second;
  frames = is;
}

point_or_not : (entries : ℕ) (s : State) (payloads : List (List ℕ)) → IsWritten entries (rows_in_turn s) payloads → IsAscending s.authorities → IsAscending s.bibliographic
    → (place : ℕ) (log image : List ℕ) → HasAllOrNone log place payloads image → HasPointOrNot entries s log image
point_or_not entries s payloads w first second place log image has = record {
  frames = at has.frames;
  version = has.version;
  no_longer = inr (
    half_checkpoint w.chunks ++ End entries (length (rows_in_turn s)) ∷ [],
    written_snapshot entries s payloads w first second,
    subst (λ ps. length image ≤ length log + frames_len ps) (sym w.are.written) has.no_longer,
  );
} where
  at : (frames_of image ≡ frames_of log) ⊎ (frames_of image ≡ and_frames (frames_of log) (frames_from place payloads)) → (frames_of image ≡ frames_of log) ⊎ HasPoint entries s log image
  at (inl same) = inl same
  at (inr more) = inr (point_behind entries s payloads w first second place log image more)

-- what a call leaves that writes all payloads or none, it leaves with the checkpoint or without it
pub leaves_point : (entries : ℕ) (s : State) (payloads : List (List ℕ)) → IsWritten entries (rows_in_turn s) payloads → IsAscending s.authorities → IsAscending s.bibliographic
    → (place : ℕ) (old new : DiskView) (log : List ℕ) → LeavesOnly old new (HasAllOrNone log place payloads) → LeavesOnly old new (HasPointOrNot entries s log)
leaves_point entries s payloads w first second place old new log leaves =
    leaves_weaker (HasAllOrNone log place payloads) (HasPointOrNot entries s log) old new (λ image. point_or_not entries s payloads w first second place log image) leaves

-- where nothing was written
pub no_point : (entries : ℕ) (s : State) (log : List ℕ) → HasPointOrNot entries s log log
no_point entries s log = record { frames = inl refl; version = refl; no_longer = inl (omega arith) }

-- ---- the last one

parts_both : (xs ys : List (List ℕ)) (ps qs : List Part) → ArePartsOf xs ps → ArePartsOf ys qs → ArePartsOf (xs ++ ys) (ps ++ qs)
parts_both xs ys ps qs a b = record {
  written = map-append part_bytes ps qs ∙ ap (λ l. l ++ map part_bytes qs) a.written ∙ ap (λ l. xs ++ l) b.written;
  can_be = All-append IsPart ps qs a.can_be b.can_be;
}

pub new_last : (entries : ℕ) (s : State) (last : Option Point) (log image : List ℕ) → HasLast last log → HasPoint entries s log image → HasNewLast entries s image
new_last entries s last log image old new = record {
  point = point_of entries new.snapshot.rows;
  entries_are = refl;
  state_is = new.snapshot.state_is;
  last = record {
    frames = old.frames ++ new.more;
    frames_are = new.frames ∙ ap (λ found. and_frames found new.more) old.frames_are;
    is = record {
      parts = old.is.parts ++ new.parts;
      are =
          subst (λ ps. ArePartsOf ps (old.is.parts ++ new.parts)) (sym (map-append (λ (f : Frame). f.payload) old.frames new.more))
          (parts_both (payloads_of old.frames) (payloads_of new.more) old.is.parts new.parts old.is.are new.are);
      last = sym (whole_read old.is.parts new.parts entries new.snapshot.rows new.snapshot.whole);
    };
  };
}

pub old_or_new : (entries : ℕ) (s : State) (last : Option Point) (log image : List ℕ) → HasLast last log → HasPointOrNot entries s log image → HasOldOrNewLast entries s last image
old_or_new entries s last log image old has = at has.frames where
  at : (frames_of image ≡ frames_of log) ⊎ HasPoint entries s log image → HasOldOrNewLast entries s last image
  at (inl same) = inl (record { frames = old.frames; frames_are = same ∙ old.frames_are; is = old.is })
  at (inr new) = inr (new_last entries s last log image old new)

pub leaves_last : (entries : ℕ) (s : State) (old new : DiskView) (log : List ℕ) (last : Option Point) → HasLast last log → LeavesOnly old new (HasPointOrNot entries s log)
    → LeavesOnly old new (HasOldOrNewLast entries s last)
leaves_last entries s old new log last has leaves =
    leaves_weaker (HasPointOrNot entries s log) (HasOldOrNewLast entries s last) old new (λ image. old_or_new entries s last log image has) leaves
