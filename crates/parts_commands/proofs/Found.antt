-- What reports tell that are read in a room, and why the reading of them stopped.
use Rattle.std.proofs.Common.{◌≡◌, ◌∙◌, ℕ, ◌+◌, ◌*◌, ◌<◌, ◌≤◌, true, List, [], ◌∷◌, ◌++◌, length, take, get_or, Option, Some, None, sym, ap, subst, arith}
use Rattle.std.proofs.lemmas.List.{take_more}
use Rattle.outside.specs.Fault.{Rose, count_total}
use Rattle.outside.specs.Room.{RoomView, SameBut}
use Rattle.outside.proofs.Counts.{count_total_more, rose_since, rose_total_first, rose_total_rest}
use Rattle.catalogue_parts.specs.declared.totals.Totals.{Totals}
use Rattle.console_lines.specs.declared.fault.Fault.{Fault}
use Rattle.parts_commands.specs.Reading.{AreUpTo, IsAdded, IsRead, StopsAmong, StopsAt, StopsSumming, greatest, with_part}
use Rattle.parts_commands.specs.Reports.{AreJoined, AreSummed, AtFirst, AtPart, IsBeyond, IsNotBeyond, IsNotShared, IsShared}
use Rattle.parts_commands.specs.declared.reports.Stopped.{Stopped}
use Rattle.parts_commands.specs.declared.reports.Stopped.TheVariants as stopped
use Rattle.parts_commands.proofs.Read.{added_of, not_beyond, not_shared, rose_among, shared_of}
use Rattle.parts_commands.proofs.Summed.{summed_more}

-- ---- one report

-- nothing is told
pub none_told : (found : Option Totals) (P : Totals → Type 0) → found ≡ None → (t : Totals) → found ≡ Some t → P t → ⊥
none_told found P none t some is = let both : None ≡ Some t = sym none ∙ some in cc

-- what is told isn't so
pub not_so : (found : Option Totals) (P : Totals → Type 0) (u : Totals) → found ≡ Some u → (P u → ⊥) → (t : Totals) → found ≡ Some t → P t → ⊥
not_so found P u other denied t some is =
    let both : Some t ≡ Some u = sym some ∙ other in
    let same : t ≡ u = cc in
    denied (subst P same is)

module _ (room : RoomView) (name : List ℕ) (found : Option Totals) (place : ℕ)
    (read : room.tells ≡ true → (bytes : List ℕ) × (room.file name ≡ Some bytes) × IsRead bytes found place) (tells : room.tells ≡ true) where
  pub shared_found : (t : Totals) → found ≡ Some t → t.bibliographic ≡ 0 → IsShared room.file name t
  shared_found t is none =
      let r = read tells in
      shared_of room.file name r.0 t place r.1 (subst (λ f. IsRead r.0 f place) is r.2) none

  pub not_shared_found : ((t : Totals) → found ≡ Some t → t.bibliographic ≡ 0 → ⊥) → IsNotShared room.file name place
  not_shared_found denied = let r = read tells in not_shared room.file name r.0 found place r.1 r.2 denied

  pub added_found : (shared t old new : Totals) → found ≡ Some t → IsBeyond shared t → new ≡ with_part old shared t → IsAdded room.file shared name old new
  added_found shared t old new is beyond added =
      let r = read tells in
      added_of room.file shared name r.0 t old new place r.1 (subst (λ f. IsRead r.0 f place) is r.2) beyond added

  pub not_beyond_found : (shared : Totals) → ((t : Totals) → found ≡ Some t → IsBeyond shared t → ⊥) → IsNotBeyond room.file shared name place
  not_beyond_found shared denied = let r = read tells in not_beyond room.file shared name r.0 found place r.1 r.2 denied

-- ---- one report after the other

pub same_file : (old now : RoomView) → SameBut old now [] → now.file ≡ old.file
same_file old now stays = λ i n. stays.files n tt i

up_to : (most more : ℕ) (t : Totals) → most ≤ more → AreUpTo most t → AreUpTo more t
up_to most more t less all = record {
  authorities = omega (arith, less, all.authorities);
  bibliographic = omega (arith, less, all.bibliographic);
  linked = omega (arith, less, all.linked);
  ambiguous = omega (arith, less, all.ambiguous);
  unlinked = omega (arith, less, all.unlinked);
}

-- one part more
pub more_room : (i : ℕ) (t : Totals) → AreUpTo ((i + 1) * greatest + greatest) t → AreUpTo ((i + 1 + 1) * greatest) t
more_room i t all = up_to ((i + 1) * greatest + greatest) ((i + 1 + 1) * greatest) t (omega arith) all

pub names_more : (names : List (List ℕ)) (i : ℕ) (name : List ℕ) → i < length names → name ≡ get_or names i name → take i names ++ name ∷ [] ≡ take (i + 1) names
names_more names i name within is = ap (λ n. take i names ++ n ∷ []) is ∙ sym (take_more names i name within)

pub summed_next : (old now : RoomView) (shared before after : Totals) (names : List (List ℕ)) (i : ℕ) (name : List ℕ) → SameBut old now []
    → (old.tells ≡ true → AreSummed old.file shared (take i names) before) → (now.tells ≡ true → IsAdded now.file shared name before after)
    → i < length names → name ≡ get_or names i name → old.tells ≡ true → AreSummed old.file shared (take (i + 1) names) after
summed_next old now shared before after names i name stays so added within is tells =
    summed_more old.file shared (take i names) (take (i + 1) names) name before after (so tells)
    (subst (λ file. IsAdded file shared name before after) (same_file old now stays) (added (stays.tells ∙ tells))) (names_more names i name within is)

pub stops_among : (old now new : RoomView) (shared : Totals) (names before after : List (List ℕ)) (name : List ℕ) (why : Stopped) → SameBut old now []
    → SameBut now new [] → names ≡ before ++ name ∷ after → StopsAt now new name (IsNotBeyond now.file shared name) why → StopsAmong old new shared names why
stops_among old now new shared names before after name (stopped.Fault why) stays also is stops = (
  stops.0,
  λ input.
      let later : (n : List ℕ) → old.in_faults n ≤ new.in_faults n = λ n. omega (arith, stays.ins n, also.ins n) in
      let rose = rose_since (old.in_faults name) (now.in_faults name) (new.in_faults name) (stays.ins name) (stops.1 input) in
      subst (λ l. Rose (count_total old.in_faults l) (count_total new.in_faults l)) (sym is) (rose_among old.in_faults new.in_faults before name after later rose),
)
stops_among old now new shared names before after name (stopped.Differ place at) stays also is stops = (
  before,
  after,
  is ∙ ap (λ n. before ++ n ∷ after) (sym stops.0),
  λ tells.
      subst (λ n. IsNotBeyond old.file shared n place) (sym stops.0)
      (subst (λ file. IsNotBeyond file shared name place) (same_file old now stays) (stops.1 (stays.tells ∙ tells))),
)

-- ---- the report of the authorities, and then the others

pub stops_first : (old new : RoomView) (first : List ℕ) (names : List (List ℕ)) (why : Stopped) → SameBut old new []
    → StopsAt old new first (IsNotShared old.file first) why → StopsSumming old new first names why
stops_first old new first names (stopped.Fault why) stays stops =
    (stops.0, λ input. rose_total_first old.in_faults new.in_faults first names stays.ins (stops.1 input))
stops_first old new first names (stopped.Differ place at) stays stops = λ tells. AtFirst stops.0 (stops.1 tells)

pub stops_rest : (old now new : RoomView) (first : List ℕ) (names : List (List ℕ)) (shared : Totals) (why : Stopped) → SameBut old now [] → SameBut now new []
    → (old.tells ≡ true → IsShared old.file first shared) → StopsAmong now new shared names why → StopsSumming old new first names why
stops_rest old now new first names shared (stopped.Fault why) stays also is stops = (
  stops.0,
  λ input.
      let later : (n : List ℕ) → old.in_faults n ≤ new.in_faults n = λ n. omega (arith, stays.ins n, also.ins n) in
      let rose = rose_since (count_total old.in_faults names) (count_total now.in_faults names) (count_total new.in_faults names)
      (count_total_more old.in_faults now.in_faults names stays.ins) (stops.1 input) in
      rose_total_rest old.in_faults new.in_faults first names later rose,
)
stops_rest old now new first names shared (stopped.Differ place name) stays also is stops = λ tells.
    AtPart shared stops.0 stops.1 (is tells) stops.2
    (subst (λ file. IsNotBeyond file shared name.now place) (same_file old now stays) (stops.3 (stays.tells ∙ tells)))

pub joined_rest : (old now : RoomView) (first : List ℕ) (names : List (List ℕ)) (shared whole : Totals) → SameBut old now []
    → (old.tells ≡ true → IsShared old.file first shared) → (now.tells ≡ true → AreSummed now.file shared names whole) → old.tells ≡ true
    → AreJoined old.file first names whole
joined_rest old now first names shared whole stays is so tells = record {
  shared = shared;
  is_shared = is tells;
  summed = subst (λ file. AreSummed file shared names whole) (same_file old now stays) (so (stays.tells ∙ tells));
}
