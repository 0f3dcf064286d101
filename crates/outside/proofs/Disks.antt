-- How calls on a disk go on, one after the other.
use Rattle.std.proofs.Common.{◌≡◌, inl, inr, ⊎_elim, ℕ, ◌+◌, ◌≤◌, max, List, ◌++◌, length, take, drop, Some, refl, sym, ap, ◌∙◌, arith, append_assoc, length-append, length-drop}
use Rattle.std.proofs.lemmas.List.{length-take-le, take_at, drop_at, take_all}
use Rattle.outside.specs.Disk.{DiskView, OnlyContent, Elapses, Unchanged, SameDisk, LeavesOnly, Torn, TornCut, patch}

pub unchanged_then : (a b c : DiskView) → Unchanged a b → Unchanged b c → Unchanged a c
unchanged_then a b c first second = record {
  len = second.len ∙ first.len;
  content = second.content ∙ first.content;
  images = λ i. (λ now. (first.images i).0 ((second.images i).0 now), λ was. (second.images i).1 ((first.images i).1 was));
  moment = second.moment ∙ first.moment;
  lefts = λ t i. (λ now. (first.lefts t i).0 ((second.lefts t i).0 now), λ was. (second.lefts t i).1 ((first.lefts t i).1 was));
  syncs = λ t. second.syncs t ∙ first.syncs t;
  dated = second.dated ∙ first.dated;
}

pub same_disk : (a : DiskView) → SameDisk a a
same_disk a = record {
  unchanged = record {
    len = refl;
    content = refl;
    images = λ i. (λ now. now, λ was. was);
    moment = refl;
    lefts = λ t i. (λ now. now, λ was. was);
    syncs = λ t. refl;
    dated = refl;
  };
  faults = refl;
}

pub same_disk_then : (a b c : DiskView) → SameDisk a b → SameDisk b c → SameDisk a c
same_disk_then a b c first second = record { unchanged = unchanged_then a b c first.unchanged second.unchanged; faults = second.faults ∙ first.faults }

-- the content stays the only image
pub unchanged_only : (a b : DiskView) → Unchanged a b → OnlyContent a → OnlyContent b
unchanged_only a b same only = λ bytes image told now. only bytes image (sym same.content ∙ told) ((same.images image).0 now)

-- before the first call
pub leaves_start : (a : DiskView) (P : List ℕ → Type 0) → ((c : List ℕ) → a.left a.moment c → a.image c) → ((c : List ℕ) → a.image c → P c) → LeavesOnly a a P
leaves_start a P only_now here = record { now = here; each = λ c left. here c (only_now c left); since = λ t c le left. inl left }

-- one call more, after which each image has P
pub leaves_then : (a b c : DiskView) (P : List ℕ → Type 0) → a.moment ≤ b.moment → LeavesOnly a b P → Elapses b c → ((i : List ℕ) → c.image i → P i) → LeavesOnly a c P
leaves_then a b c P later so_far time here = record {
  now = here;
  each = λ i left. ⊎_elim (so_far.each i) (here i) (time.nothing_else a.moment i later left);
  since = λ t i le left. ⊎_elim (so_far.since t i le) (λ now. inr (here i now)) (time.nothing_else t i (omega (arith, le, later)) left);
}

-- one run after another
pub leaves_both : (a b c : DiskView) (P : List ℕ → Type 0) → a.moment ≤ b.moment → LeavesOnly a b P → LeavesOnly b c P → LeavesOnly a c P
leaves_both a b c P later first second = record {
  now = second.now;
  each = λ i left. ⊎_elim (first.each i) (λ has. has) (second.since a.moment i later left);
  since = λ t i le left. ⊎_elim (first.since t i le) (λ has. inr has) (second.since t i (omega (arith, le, later)) left);
}

-- a write or a cut that did nothing
pub torn_self : (at n : ℕ) (d : List ℕ) → Torn at n d d
torn_self at n d = record { before = refl; behind = refl; no_shorter = omega arith; no_longer = omega arith }

pub cut_self : (n : ℕ) (d : List ℕ) → TornCut n d d
cut_self n d = record { front = refl; no_shorter = omega arith; no_longer = omega arith }

-- how long a patched list is
pub length-patch : (at : ℕ) (bytes d : List ℕ) → at ≤ length d → length (patch at bytes d) ≡ max (length d) (at + length bytes)
length-patch at bytes d within =
    let front = length-take-le at d within in
    omega (arith, front, length-append (take at d ++ bytes) (drop (at + length bytes) d), length-append (take at d) bytes, length-drop (at + length bytes) d)

-- and one that did all
pub torn_patch : (at : ℕ) (bytes d : List ℕ) → at ≤ length d → Torn at (length bytes) d (patch at bytes d)
torn_patch at bytes d within =
    let len = length-patch at bytes d within in
    let front = length-take-le at d within in
    record {
      before = ap (take at) (append_assoc (take at d) bytes (drop (at + length bytes) d)) ∙ take_at (take at d) (bytes ++ drop (at + length bytes) d) at front;
      behind = drop_at (take at d ++ bytes) (drop (at + length bytes) d) (at + length bytes) (omega (arith, front, length-append (take at d) bytes));
      no_shorter = omega (arith, len);
      no_longer = omega (arith, len);
    }

pub torn_cut : (n : ℕ) (d : List ℕ) → n ≤ length d → TornCut n d (take n d)
torn_cut n d within =
    let len = length-take-le n d within in
    record { front = take_all n (take n d) (omega (arith, len)); no_shorter = omega (arith, len); no_longer = omega (arith, len) }

-- what is told is as long as the bytes
pub told_len : (bytes b : List ℕ) → Some bytes ≡ Some b → length b ≡ length bytes
told_len bytes b told = let same : b ≡ bytes = cc in ap length same
