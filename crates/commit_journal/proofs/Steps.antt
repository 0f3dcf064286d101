-- How runs of calls on a disk make steps of its images.
use Rattle.std.proofs.Common.{◌≡◌, inl, inr, ⊎_elim, ℕ, ◌<◌, ◌≤◌, List, Bool, true, false, Option, Some, None, is_some, refl, sym, ap, subst, ◌∙◌, arith, true≢false}
use Rattle.std.specs.Option.{option_or, option_map}
use Rattle.outside.specs.Disk.{DiskView, Follows, NoNewImage, Elapses, SameSyncs, SyncsNow, Unchanged, OnlyContent, Torn, TornCut, LeavesOnly}
use Rattle.commit_journal.specs.Journal.{Continues, Steps, Keeps, StaysShort, LeavesLog, Opens, IsRecovered}
use Rattle.commit_journal.proofs.Logs.{leaves_self}
use Rattle.commit_journal.specs.declared.format.TheConstants.{BLANK_LENGTH}
use Rattle.commit_journal.specs.declared.frame.Frame.{Frame}

-- a first sync stays the first over a call that is no successful sync
pub same_syncs : (old new : DiskView) → SameSyncs old new → (t s : ℕ) → t ≤ old.moment → old.synced t ≡ Some s → new.synced t ≡ Some s
same_syncs old new same t s le first = same t le ∙ first

-- and over one that is
pub syncs_now : (old new : DiskView) → ((t : ℕ) → old.dated ≡ false → old.synced t ≡ None) → SyncsNow old new
    → (t s : ℕ) → t ≤ old.moment → old.synced t ≡ Some s → new.synced t ≡ Some s
syncs_now old new undated now t s le first = decided old.dated refl
  where
    decided : (b : Bool) → old.dated ≡ b → new.synced t ≡ Some s
    decided true is = now is t le ∙ ap (λ o. option_or o (Some new.moment)) first
    decided false is = let none = undated t is in absurd cc

pub continues : (old new : DiskView) → Elapses old new → ((t s : ℕ) → t ≤ old.moment → old.synced t ≡ Some s → new.synced t ≡ Some s) → Continues old new
continues old new time stay = record { later = time.later; keeps = time.keeps; syncs = stay; dated = time.dated; tells = time.tells }

pub continues_then : (a b c : DiskView) → Continues a b → Continues b c → Continues a c
continues_then a b c first second = record {
  later = omega (arith, first.later, second.later);
  keeps = λ t i le was. second.keeps t i (omega (arith, le, first.later)) (first.keeps t i le was);
  syncs = λ t s le was. second.syncs t s (omega (arith, le, first.later)) (first.syncs t s le was);
  dated = second.dated ∙ first.dated;
  tells = second.tells ∙ first.tells;
}

-- one call
pub step_once : (step : List ℕ → List ℕ → Type 0) (old new : DiskView) → Elapses old new → SameSyncs old new → Follows step old new → Steps step old new
step_once step old new time same follows = record {
  continues = continues old new time (same_syncs old new same);
  since = λ t c le left. ⊎_elim (λ was. inl was) (λ now. inr (follows c now)) (time.nothing_else t c le left);
  now = follows;
}

-- and a sync
pub step_synced : (step : List ℕ → List ℕ → Type 0) (old mid new : DiskView) → Steps step old mid → Elapses mid new
    → ((t s : ℕ) → t ≤ mid.moment → mid.synced t ≡ Some s → new.synced t ≡ Some s) → NoNewImage mid new → Steps step old new
step_synced step old mid new first time stay none = record {
  continues = continues_then old mid new first.continues (continues mid new time stay);
  since = λ t c le left. ⊎_elim (first.since t c le) (λ now. inr (first.now c (none c now))) (time.nothing_else t c (omega (arith, le, first.continues.later)) left);
  now = λ c now. first.now c (none c now);
}

-- two runs of calls
pub steps_then : (first second both : List ℕ → List ℕ → Type 0) (a b c : DiskView) → Steps first a b → Steps second b c
    → ((d e : List ℕ) → first d e → both d e) → ((d e f : List ℕ) → first d e → second e f → both d f) → Steps both a c
steps_then first second both a b c one two alone joined = record {
  continues = continues_then a b c one.continues two.continues;
  since = λ t f le left. ⊎_elim (λ was. ⊎_elim (λ earlier. inl earlier) (λ w. inr (w.0, w.1, alone w.0 f w.2)) (one.since t f le was)) (λ w. inr (through f w)) (two.since t f (omega (arith, le, one.continues.later)) left);
  now = λ f image. through f (two.now f image);
}
  where
    through : (f : List ℕ) → (e : List ℕ) × b.image e × second e f → (d : List ℕ) × a.image d × both d f
    through f w = let from = one.now w.0 w.1 in (from.0, from.1, joined from.0 w.0 f from.2 w.2)

-- nothing changes
pub unchanged_continues : (old new : DiskView) → Unchanged old new → Continues old new
unchanged_continues old new same = record {
  later = omega (arith, same.moment);
  keeps = λ t c le was. (same.lefts t c).1 was;
  syncs = λ t s le first. same.syncs t ∙ first;
  dated = same.dated;
  tells = ap is_some same.content;
}

-- a run over a disk of which only the content is left
pub keeps_only : (step : List ℕ → List ℕ → Type 0) (P : List ℕ → Type 0) (old new : DiskView) (log : List ℕ) → OnlyContent old → old.content ≡ Some log → Steps step old new
    → ((c : List ℕ) → step log c → P c) → Keeps P old new
keeps_only step P old new log only told steps has = record {
  since = λ t c le left. ⊎_elim (λ was. inl was) (λ w. inr (from c w)) (steps.since t c le left);
  now = λ c image. from c (steps.now c image);
}
  where
    from : (c : List ℕ) → (d : List ℕ) × old.image d × step d c → P c
    from c w = has c (subst (λ d. step d c) (only log w.0 told w.1) w.2)

-- what only reads
pub keeps_unchanged : (P : List ℕ → Type 0) (old new : DiskView) (log : List ℕ) → OnlyContent old → old.content ≡ Some log → Unchanged old new → P log → Keeps P old new
keeps_unchanged P old new log only told same has = record {
  since = λ t c le left. inl ((same.lefts t c).0 left);
  now = λ c image. subst P (sym (only log c told ((same.images c).0 image))) has;
}

-- one after another
pub keeps_then : (P : List ℕ → Type 0) (a b c : DiskView) → a.moment ≤ b.moment → Keeps P a b → Keeps P b c → Keeps P a c
keeps_then P a b c later first second = record {
  since = λ t i le left. ⊎_elim (first.since t i le) (λ has. inr has) (second.since t i (omega (arith, le, later)) left);
  now = second.now;
}

-- over a disk of which only the content is left, each image has P
pub leaves_kept : (P : List ℕ → Type 0) (old new : DiskView) (log : List ℕ) → ((c : List ℕ) → old.left old.moment c → old.image c) → OnlyContent old → old.content ≡ Some log → P log
    → Keeps P old new → LeavesOnly old new P
leaves_kept P old new log only_now only told has kept = record {
  now = kept.now;
  each = λ c left. ⊎_elim (λ was. subst P (sym (only log c told (only_now c was))) has) (λ p. p) (kept.since old.moment c (omega arith) left);
  since = kept.since;
}

pub leaves_weaker : (P Q : List ℕ → Type 0) (old new : DiskView) → ((c : List ℕ) → P c → Q c) → LeavesOnly old new P → LeavesOnly old new Q
leaves_weaker P Q old new weaker leaves = record {
  now = λ c image. weaker c (leaves.now c image);
  each = λ c left. weaker c (leaves.each c left);
  since = λ t c le left. ⊎_elim (λ was. inl was) (λ has. inr (weaker c has)) (leaves.since t c le left);
}

-- what is told of a changed content
pub told_map : (f : List ℕ → List ℕ) (o : Option (List ℕ)) (c : List ℕ) → option_map f o ≡ Some c → (b : List ℕ) × (o ≡ Some b) × (c ≡ f b)
told_map f None c is = absurd (let no : None ≡ Some c = is in cc)
told_map f (Some b) c is = (b, refl, cc)

-- a blank log is cut to nothing
pub short_cut : (d e : List ℕ) → TornCut 0 d e → StaysShort d e
short_cut d e torn = let l = torn.no_longer in omega (arith, l)

-- and written anew
pub short_written : (n : ℕ) (d e f : List ℕ) → n ≤ BLANK_LENGTH → TornCut 0 d e → Torn 0 n e f → StaysShort d f
short_written n d e f few cut torn =
    let l = cut.no_longer in
    let m = torn.no_longer in
    omega (arith, l, m, few)

-- no sync has succeeded since now
pub no_sync_yet : (disk : DiskView) → ((t s : ℕ) → disk.synced t ≡ Some s → t < s) → ((t s : ℕ) → disk.synced t ≡ Some s → s ≤ disk.moment) → disk.synced disk.moment ≡ None
no_sync_yet disk after by_now = decided (disk.synced disk.moment) refl
  where
    decided : (o : Option ℕ) → disk.synced disk.moment ≡ o → o ≡ None
    decided None is = refl
    decided (Some s) is = absurd (let a = after disk.moment s is in let b = by_now disk.moment s is in omega (arith, a, b))

not_both : (o : Option ℕ) (s : ℕ) → o ≡ None → o ≡ Some s → ⊥
not_both o s none some = cc

-- an opening whose first sync didn't succeed
pub opens_unsynced : (old new : DiskView) → Continues old new → new.content ≡ old.content → new.synced old.moment ≡ None → Opens old new
opens_unsynced old new on content none = record {
  continues = on;
  crash = λ s log c first told left. absurd (not_both (new.synced old.moment) s none first);
  unsynced = λ dated no. content;
}

-- and one whose first sync did
pub opens_synced : (old mid new : DiskView) → old.synced old.moment ≡ None → ((c : List ℕ) → mid.left mid.moment c → mid.image c) → ((t : ℕ) → new.dated ≡ false → new.synced t ≡ None)
    → Continues old mid → SyncsNow old mid → mid.content ≡ old.content → OnlyContent mid → Continues mid new → ((log : List ℕ) → mid.content ≡ Some log → Keeps (LeavesLog log) mid new) → Opens old new
opens_synced old mid new none only_now undated on now content only further kept = record {
  continues = continues_then old mid new on further;
  crash = λ s log c first told left. crashed old.dated refl s log c first told left;
  unsynced = λ dated no. absurd (not_both (new.synced old.moment) mid.moment no (first_is dated));
}
  where
    first_is : old.dated ≡ true → new.synced old.moment ≡ Some mid.moment
    first_is dated = further.syncs old.moment mid.moment on.later (now dated old.moment (omega arith) ∙ ap (λ o. option_or o (Some mid.moment)) none)

    crashed : (b : Bool) → old.dated ≡ b → (s : ℕ) (log c : List ℕ) → new.synced old.moment ≡ Some s → old.content ≡ Some log → new.left s c → LeavesLog log c
    crashed false is s log c first told left = absurd (not_both (new.synced old.moment) s (undated old.moment (further.dated ∙ on.dated ∙ is)) first)
    crashed true is s log c first told left =
        let same : s ≡ mid.moment = (let e : Some s ≡ Some mid.moment = sym first ∙ first_is is in cc) in
        ⊎_elim (λ was. subst (LeavesLog log) (sym (only log c (content ∙ told) (only_now c was))) (leaves_self log)) (λ has. has)
        ((kept log (content ∙ told)).since mid.moment c (omega arith) (subst (λ t. new.left t c) same left))

-- its first sync is told from then on
pub synced_once : (old mid new : DiskView) → SyncsNow old mid → Continues mid new → old.moment ≤ mid.moment → old.dated ≡ true → is_some (new.synced old.moment) ≡ true
synced_once old mid new now further later dated = decided (old.synced old.moment) (now dated old.moment (omega arith))
  where
    decided : (o : Option ℕ) → mid.synced old.moment ≡ option_or o (Some mid.moment) → is_some (new.synced old.moment) ≡ true
    decided None is = ap is_some (further.syncs old.moment mid.moment later is)
    decided (Some s) is = ap is_some (further.syncs old.moment s later is)

pub synced_still : (mid new : DiskView) (t : ℕ) → Continues mid new → t ≤ mid.moment → is_some (mid.synced t) ≡ true → is_some (new.synced t) ≡ true
synced_still mid new t further le some = decided (mid.synced t) refl
  where
    decided : (o : Option ℕ) → mid.synced t ≡ o → is_some (new.synced t) ≡ true
    decided None is = absurd (true≢false (sym some ∙ ap is_some is))
    decided (Some s) is = ap is_some (further.syncs t s le is)

-- an opening that only read
pub opens_read : (old mid new : DiskView) → old.synced old.moment ≡ None → ((c : List ℕ) → mid.left mid.moment c → mid.image c) → ((t : ℕ) → new.dated ≡ false → new.synced t ≡ None)
    → Continues old mid → SyncsNow old mid → mid.content ≡ old.content → OnlyContent mid → Unchanged mid new → Opens old new
opens_read old mid new none only_now undated on now content only same =
    opens_synced old mid new none only_now undated on now content only (unchanged_continues mid new same) (λ log told. keeps_unchanged (LeavesLog log) mid new log only told same (leaves_self log))

-- one that goes on behind its first sync
pub opens_further : (old mid new : DiskView) → Opens old mid → (old.dated ≡ true → is_some (mid.synced old.moment) ≡ true) → ((t s : ℕ) → mid.synced t ≡ Some s → s ≤ mid.moment)
    → ((t : ℕ) → new.dated ≡ false → new.synced t ≡ None) → mid.content ≡ old.content → Continues mid new → ((log : List ℕ) → mid.content ≡ Some log → Keeps (LeavesLog log) mid new) → Opens old new
opens_further old mid new opens synced by_now undated content further kept = record {
  continues = continues_then old mid new opens.continues further;
  crash = λ s log c first told left. crashed (mid.synced old.moment) refl s log c first told left;
  unsynced = λ dated none. absurd (true≢false (sym (synced_still mid new old.moment further opens.continues.later (synced dated)) ∙ ap is_some none));
}
  where
    dated_or_not : (b : Bool) → old.dated ≡ b → (s : ℕ) → mid.synced old.moment ≡ None → new.synced old.moment ≡ Some s → ⊥
    dated_or_not true is s none first = true≢false (sym (synced is) ∙ ap is_some none)
    dated_or_not false is s none first = not_both (new.synced old.moment) s (undated old.moment (further.dated ∙ opens.continues.dated ∙ is)) first

    crashed : (o : Option ℕ) → mid.synced old.moment ≡ o → (s : ℕ) (log c : List ℕ) → new.synced old.moment ≡ Some s → old.content ≡ Some log → new.left s c → LeavesLog log c
    crashed None is s log c first told left = absurd (dated_or_not old.dated refl s is first)
    crashed (Some r) is s log c first told left =
        let again : new.synced old.moment ≡ Some r = further.syncs old.moment r opens.continues.later is in
        let same : r ≡ s = (let e : Some r ≡ Some s = sym again ∙ first in cc) in
        let le : s ≤ mid.moment = (let now = by_now old.moment r is in omega (arith, now, same)) in
        ⊎_elim (opens.crash s log c (is ∙ ap Some same) told) (λ has. has) ((kept log (content ∙ told)).since s c le left)

-- what is recovered of the content is recovered of an earlier one, where it is the same
pub recovered_since : (frames : List Frame) (place version : ℕ) (old mid new : DiskView) → mid.content ≡ old.content → IsRecovered frames place version mid new → IsRecovered frames place version old new
recovered_since frames place version old mid new content is = record {
  was = λ log told. is.was log (content ∙ told);
  named = λ log told. is.named log (content ∙ told);
  is = is.is;
  ordered = λ log told. is.ordered log (content ∙ told);
  settled = is.settled;
}
