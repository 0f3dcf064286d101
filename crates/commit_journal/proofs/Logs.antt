-- The parts of a log, and what stands for it where its end is other.
use Rattle.std.proofs.Common.{◌≡◌, ◌⊎◌, inl, inr, ℕ, ◌+◌, ◌<◌, ◌≤◌, Bool, true, false, List, [], ◌∷◌, ◌++◌, length, take, drop, get_or, nat_le, Some, None, Ok, Err, refl, sym, ap, ◌∙◌, arith, append_assoc, length-append, take-append-drop}
use Rattle.std.proofs.lemmas.List.{length-take-le, take_at, drop_at, append-nil}
use Rattle.std.proofs.lemmas.Bool.Decides.{nat_tests}
use Rattle.std.proofs.lemmas.Grind.{common_steps}
use Rattle.outside.specs.Disk.{TornCut}
use Rattle.commit_journal.specs.declared.frame.Frame.{Frame}
use Rattle.commit_journal.specs.declared.format.TheConstants.{CLOSED_GATE, FIRST_GATE, BLANK_LENGTH, VERSION_PLACE, EMPTY_LOG}
use Rattle.commit_journal.specs.Log.{header_fault, version_of_header, Walk, walk, walk_of, closed_at, behind, frames_found, frames_of, version_of, first_differing}
use Rattle.commit_journal.specs.Journal.{EndsAt, SameLog, LeavesLog}
use Rattle.commit_journal.specs.Reading.{IsWalk}
use Rattle.commit_journal.proofs.Walks.{split, walk_closed}

-- A log that leads to a closed gate is a front, that gate, and what stands behind it.
pub record Parts (log : List ℕ) : Type 0 where
  pub front : List ℕ
  pub tail : List ℕ
  pub is : log ≡ front ++ CLOSED_GATE ∷ tail
  pub at : length front ≡ (walk_of log).place
  pub room : FIRST_GATE ≤ length front
  pub none : length front ≡ FIRST_GATE → (walk_of log).frames ≡ []
  pub header : (rest : List ℕ) → header_fault (front ++ rest) ≡ header_fault log
  pub says : (rest : List ℕ) → version_of_header (front ++ rest) ≡ version_of_header log
  pub goes_on : (gate : ℕ) (rest : List ℕ) → walk_of (front ++ gate ∷ rest) ≡ behind (walk_of log).frames (walk (length front) 0 (gate ∷ rest))

says_same : (a b : List ℕ) → get_or a VERSION_PLACE 0 ≡ get_or b VERSION_PLACE 0 → version_of_header a ≡ version_of_header b
unfolding version_of_header
says_same a b same = rw same refl

get_or_front : (front rest other : List ℕ) (i : ℕ) → i < length front → get_or (front ++ rest) i 0 ≡ get_or (front ++ other) i 0
get_or_front front rest other i within = grind (arith, common_steps)

header_same : (a b : List ℕ) → take FIRST_GATE a ≡ take FIRST_GATE b → header_fault a ≡ header_fault b
header_same a b same = rw same refl

pub parts : (log : List ℕ) → FIRST_GATE ≤ length log → (walk_of log).is_closed ≡ true → Parts log
parts log long closed =
    let s = split FIRST_GATE 0 (drop FIRST_GATE log) closed in
    let head = take FIRST_GATE log in
    let head_len : length head ≡ FIRST_GATE = length-take-le FIRST_GATE log long in
    let front = head ++ s.front in
    let front_len : length front ≡ FIRST_GATE + length s.front = length-append head s.front ∙ ap (λ n. n + length s.front) head_len in
    let is : log ≡ front ++ CLOSED_GATE ∷ s.tail = sym (take-append-drop FIRST_GATE log) ∙ ap (λ l. head ++ l) s.is ∙ sym (append_assoc head s.front (CLOSED_GATE ∷ s.tail)) in
    let cut : (rest : List ℕ) → drop FIRST_GATE (front ++ rest) ≡ s.front ++ rest = λ rest. ap (drop FIRST_GATE) (append_assoc head s.front rest) ∙ drop_at head (s.front ++ rest) FIRST_GATE head_len in
    let kept : (rest : List ℕ) → take FIRST_GATE (front ++ rest) ≡ head = λ rest. ap (take FIRST_GATE) (append_assoc head s.front rest) ∙ take_at head (s.front ++ rest) FIRST_GATE head_len in
    record {
      front = front;
      tail = s.tail;
      is = is;
      at = front_len ∙ sym s.at;
      room = omega (arith, front_len);
      none = λ no. s.none (omega (arith, front_len, no));
      header = λ rest. header_same (front ++ rest) log (kept rest);
      says = λ rest. says_same (front ++ rest) log (get_or_front front rest (CLOSED_GATE ∷ s.tail) VERSION_PLACE (omega (arith, front_len)) ∙ ap (λ l. get_or l VERSION_PLACE 0) (sym is));
      goes_on = λ gate rest. ap (walk FIRST_GATE 0) (cut (gate ∷ rest)) ∙ s.goes_on gate rest ∙ ap (λ p. behind (walk_of log).frames (walk p 0 (gate ∷ rest))) (sym front_len);
    }

-- a blank log, and one that isn't
pub frames_blank : (log : List ℕ) → length log ≤ BLANK_LENGTH → frames_of log ≡ Ok []
unfolding frames_of
frames_blank log short = let test : nat_le (length log) BLANK_LENGTH ≡ true = grind (arith, nat_tests) in rw test refl

pub frames_long : (log : List ℕ) → BLANK_LENGTH < length log → frames_of log ≡ frames_found (header_fault log) (walk_of log)
unfolding frames_of
frames_long log long = let test : nat_le (length log) BLANK_LENGTH ≡ false = grind (arith, nat_tests) in rw test refl

pub version_blank : (log : List ℕ) → length log ≤ BLANK_LENGTH → version_of log ≡ 2
unfolding version_of
version_blank log short = let test : nat_le (length log) BLANK_LENGTH ≡ true = grind (arith, nat_tests) in rw test refl

pub version_long : (log : List ℕ) → BLANK_LENGTH < length log → version_of log ≡ version_of_header log
unfolding version_of
version_long log long = let test : nat_le (length log) BLANK_LENGTH ≡ false = grind (arith, nat_tests) in rw test refl

-- a right header before a walk that ends at a closed gate
pub frames_walked : (log : List ℕ) (w : Walk) → BLANK_LENGTH < length log → header_fault log ≡ None → walk_of log ≡ w → w.is_closed ≡ true → frames_of log ≡ Ok w.frames
frames_walked log w long header walked closed = frames_long log long ∙ rw (header, walked, closed) refl

-- a wrong header, and a walk that ends at no closed gate
pub frames_wrong : (log : List ℕ) (wrong : ℕ) → BLANK_LENGTH < length log → header_fault log ≡ Some wrong → frames_of log ≡ Err wrong
frames_wrong log wrong long header = frames_long log long ∙ ap (λ h. frames_found h (walk_of log)) header

pub frames_lost : (log : List ℕ) (wrong : ℕ) → BLANK_LENGTH < length log → header_fault log ≡ None → IsWalk wrong log → frames_of log ≡ Err wrong
frames_lost log wrong long header lost = frames_long log long ∙ rw (header, lost.lost, lost.at) refl

pub says_front : (log : List ℕ) → FIRST_GATE ≤ length log → version_of_header (take FIRST_GATE log) ≡ version_of_header log
says_front log long = says_same (take FIRST_GATE log) log (get_or_take log VERSION_PLACE FIRST_GATE (omega arith) long)
  where
    get_or_take : (l : List ℕ) (i n : ℕ) → i < n → n ≤ length l → get_or (take n l) i 0 ≡ get_or l i 0
    get_or_take l i n within long = grind (arith, common_steps)

pub short_or_long : (n m : ℕ) → (n ≤ m) ⊎ (m < n)
short_or_long n m = decided (nat_le n m) refl
  where
    decided : (b : Bool) → nat_le n m ≡ b → (n ≤ m) ⊎ (m < n)
    decided true is = inl (grind (arith, nat_tests))
    decided false is = inr (grind (arith, nat_tests))

-- behind the first closed gate may stand anything
pub frames_closed : (log : List ℕ) (p : Parts log) (rest : List ℕ) → header_fault log ≡ None → frames_of (p.front ++ CLOSED_GATE ∷ rest) ≡ Ok (walk_of log).frames
frames_closed log p rest header = decided (short_or_long (length (p.front ++ CLOSED_GATE ∷ rest)) BLANK_LENGTH)
  where
    decided : (length (p.front ++ CLOSED_GATE ∷ rest) ≤ BLANK_LENGTH) ⊎ (BLANK_LENGTH < length (p.front ++ CLOSED_GATE ∷ rest)) → frames_of (p.front ++ CLOSED_GATE ∷ rest) ≡ Ok (walk_of log).frames
    decided (inl short) = frames_blank (p.front ++ CLOSED_GATE ∷ rest) short ∙ ap Ok (sym (p.none (omega (arith, short, p.room, length-append p.front (CLOSED_GATE ∷ rest)))))
    decided (inr long) = frames_walked (p.front ++ CLOSED_GATE ∷ rest) (behind (walk_of log).frames (closed_at (length p.front))) long (p.header (CLOSED_GATE ∷ rest) ∙ header)
        (p.goes_on CLOSED_GATE rest ∙ ap (behind (walk_of log).frames) (walk_closed (length p.front) CLOSED_GATE rest refl)) refl
        ∙ ap Ok (append-nil (walk_of log).frames)

-- the log itself reads so too
pub frames_self : (log : List ℕ) (p : Parts log) → header_fault log ≡ None → frames_of log ≡ Ok (walk_of log).frames
frames_self log p header = ap frames_of p.is ∙ frames_closed log p p.tail header

-- the version of what isn't blank is that of its header
pub version_kept : (log : List ℕ) (p : Parts log) (rest : List ℕ) → BLANK_LENGTH < length log → BLANK_LENGTH < length (p.front ++ rest) → version_of (p.front ++ rest) ≡ version_of log
version_kept log p rest long now = version_long (p.front ++ rest) now ∙ p.says rest ∙ sym (version_long log long)

-- and of what names version 2
pub version_two : (log : List ℕ) → version_of_header log ≡ 2 → version_of log ≡ 2
version_two log two = decided (short_or_long (length log) BLANK_LENGTH)
  where
    decided : (length log ≤ BLANK_LENGTH) ⊎ (BLANK_LENGTH < length log) → version_of log ≡ 2
    decided (inl short) = version_blank log short
    decided (inr long) = version_long log long ∙ two

-- what stands before the gate stays in a list that is the same up to there
pub front_kept : (log c : List ℕ) (p : Parts log) → take (length p.front + 1) c ≡ take (length p.front + 1) log → c ≡ p.front ++ CLOSED_GATE ∷ drop (length p.front + 1) c
front_kept log c p same =
    let split_log : log ≡ (p.front ++ CLOSED_GATE ∷ []) ++ p.tail = p.is ∙ sym (append_assoc p.front (CLOSED_GATE ∷ []) p.tail) in
    let len : length (p.front ++ CLOSED_GATE ∷ []) ≡ length p.front + 1 = length-append p.front (CLOSED_GATE ∷ []) in
    let head : take (length p.front + 1) log ≡ p.front ++ CLOSED_GATE ∷ [] = ap (take (length p.front + 1)) split_log ∙ take_at (p.front ++ CLOSED_GATE ∷ []) p.tail (length p.front + 1) len in
    sym (take-append-drop (length p.front + 1) c) ∙ ap (λ l. l ++ drop (length p.front + 1) c) (same ∙ head) ∙ append_assoc p.front (CLOSED_GATE ∷ []) (drop (length p.front + 1) c)

-- a log whose end behind the closed gate is being cut off
pub cut_same : (log c : List ℕ) (p : Parts log) → header_fault log ≡ None → BLANK_LENGTH < length log → TornCut (length p.front + 1) log c → SameLog log c
cut_same log c p header long torn =
    let is = front_kept log c p torn.front in
    let rest = CLOSED_GATE ∷ drop (length p.front + 1) c in
    record {
      frames = ap frames_of is ∙ frames_closed log p (drop (length p.front + 1) c) header ∙ sym (frames_self log p header);
      version = λ now. ap version_of is ∙ version_kept log p rest long (omega (arith, now, ap length is));
      no_longer = (let l = torn.no_longer in omega (arith, l));
    }

-- and once it is cut off
pub cut_front : (log : List ℕ) (p : Parts log) → take (length p.front + 1) log ≡ p.front ++ CLOSED_GATE ∷ []
cut_front log p = ap (take (length p.front + 1)) (p.is ∙ sym (append_assoc p.front (CLOSED_GATE ∷ []) p.tail)) ∙ take_at (p.front ++ CLOSED_GATE ∷ []) p.tail (length p.front + 1) (length-append p.front (CLOSED_GATE ∷ []))

pub cut_ends : (log : List ℕ) (p : Parts log) → header_fault log ≡ None → (walk_of log).is_closed ≡ true → EndsAt (length p.front) (take (length p.front + 1) log)
cut_ends log p header closed = rw (cut_front log p) (record {
  header = p.header (CLOSED_GATE ∷ []) ∙ header;
  closed = ap (λ w. w.is_closed) walked;
  gate = ap (λ w. w.place) walked;
  end = length-append p.front (CLOSED_GATE ∷ []);
})
  where
    walked : walk_of (p.front ++ CLOSED_GATE ∷ []) ≡ behind (walk_of log).frames (closed_at (length p.front))
    walked = p.goes_on CLOSED_GATE [] ∙ ap (behind (walk_of log).frames) (walk_closed (length p.front) CLOSED_GATE [] refl)

-- a blank log, whatever it holds
pub blank_same : (log c : List ℕ) → length log ≤ BLANK_LENGTH → length c ≤ BLANK_LENGTH → SameLog log c
blank_same log c short now = record {
  frames = frames_blank c now ∙ sym (frames_blank log short);
  version = λ long. absurd (omega (arith, now, long));
  no_longer = omega (arith, now);
}

pub same_self : (log : List ℕ) → SameLog log log
same_self log = record { frames = refl; version = λ long. refl; no_longer = omega arith }

-- a log that is as it was
pub leaves_self : (log : List ℕ) → LeavesLog log log
leaves_self log = record { same = same_self log; lost = λ place lost. refl }

-- one that has frames has no wrong place
pub leaves_found : (log now : List ℕ) (frames : List Frame) → frames_of log ≡ Ok frames → SameLog log now → LeavesLog log now
leaves_found log now frames found same = record { same = same; lost = λ place lost. let never : Ok frames ≡ Err place = sym found ∙ lost in absurd cc }

-- the log that is written over a blank one
pub empty_ends : EndsAt FIRST_GATE EMPTY_LOG
unfolding walk first_differing
empty_ends = record { header = refl; closed = refl; gate = refl; end = refl }

pub empty_says : version_of_header EMPTY_LOG ≡ 2
unfolding version_of_header
empty_says = refl
