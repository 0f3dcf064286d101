-- Why a disk that tells its content and no moments is a disk, and what its calls leave.
use Rattle.std.specs.Prelude.{◌≡◌, ℕ, ◌+◌, ◌≤◌, max, true, false, List, length, take, Some, None, refl}
use Rattle.std.proofs.Common.{sym, subst, true≢false, arith}
use Rattle.outside.specs.Disk.{longest_disk, longest_write, patch, Follows, ContentFollows, Elapses, SameSyncs, SyncsNow, NoNewImage, OnlyContent, Unchanged}
use Rattle.std.proofs.lemmas.List.{length-take-le}
use Rattle.outside.proofs.Disks.{length-patch}
use Rattle.outside_sure.specs.SureDisk.{sure_view}

-- the content is the only image
pub is_image : (bytes b : List ℕ) → Some bytes ≡ Some b → b ≡ bytes
is_image bytes b told = cc

pub only_image : (bytes b c : List ℕ) → Some bytes ≡ Some b → c ≡ bytes → c ≡ b
only_image bytes b c told image = let same : bytes ≡ b = cc in cc

-- it has no syncs
pub syncs_none : {P : Type 0} (s : ℕ) → None ≡ Some s → P
syncs_none s is = absurd (let e : None ≡ Some s = is in cc)

-- and no moments
pub never_dated : {P : Type 0} → false ≡ true → P
never_dated dated = absurd (true≢false (sym dated))

-- after any call
pub only_content : (bytes : List ℕ) (f : ℕ) → OnlyContent (sure_view bytes f)
only_content bytes f b c told image = only_image bytes b c told image

pub elapses : (old new : List ℕ) (f g : ℕ) → Elapses (sure_view old f) (sure_view new g)
elapses old new f g = record {
  later = omega arith;
  nothing_else = λ t c le left. absurd left;
  keeps = λ t c le left. left;
  dated = refl;
  tells = refl;
}

pub same_syncs : (old new : List ℕ) (f g : ℕ) → SameSyncs (sure_view old f) (sure_view new g)
same_syncs old new f g t le = refl

pub syncs_now : (old new : List ℕ) (f g : ℕ) → SyncsNow (sure_view old f) (sure_view new g)
syncs_now old new f g dated t le = never_dated dated

-- after a call that changed nothing
pub unchanged : (old new : List ℕ) (f g : ℕ) → new ≡ old → Unchanged (sure_view old f) (sure_view new g)
unchanged old new f g same = subst (λ b. Unchanged (sure_view old f) (sure_view b g)) (sym same) (record {
  len = refl;
  content = refl;
  images = λ c. (λ now. now, λ was. was);
  moment = refl;
  lefts = λ t c. (λ now. now, λ was. was);
  syncs = λ t. refl;
  dated = refl;
})

pub no_new_image : (old new : List ℕ) (f g : ℕ) → new ≡ old → NoNewImage (sure_view old f) (sure_view new g)
no_new_image old new f g same c image = cc

-- after a write or a cut
pub follows : (step : List ℕ → List ℕ → Type 0) (old new : List ℕ) (f g : ℕ) → step old new → Follows step (sure_view old f) (sure_view new g)
follows step old new f g made c image = (old, refl, subst (step old) (sym image) made)

pub content_follows : (step : List ℕ → List ℕ → Type 0) (old new : List ℕ) (f g : ℕ) → step old new
    → ContentFollows step (sure_view old f) (sure_view new g)
content_follows step old new f g made b c was is =
    let same : old ≡ b = cc in
    let now : new ≡ c = cc in
    subst (step b) now (subst (λ d. step d new) same made)

-- how long the bytes are then
pub length_patched : (at : ℕ) (bytes old : List ℕ) → at ≤ length old → length (patch at bytes old) ≡ max (length old) (at + length bytes)
length_patched at bytes old within = length-patch at bytes old within

pub length_cut : (n : ℕ) (old : List ℕ) → n ≤ length old → length (take n old) ≡ n
length_cut n old within = length-take-le n old within

-- no more bytes than a disk can have
pub short_enough : {len room : ℕ} → len ≤ room → room + longest_write ≤ longest_disk → len ≤ longest_disk
short_enough within short = omega (arith, within, short)
