-- What a crash leaves by a choice is one of the images.
use Rattle.std.proofs.Common.{◌≡◌, ℕ, zero, suc, ◌+◌, ◌-◌, ◌≤◌, Bool, true, false, List, [], ◌∷◌, ◌++◌, length, take, drop, replicate, reverse, nat_le, ◌==◌, refl, sym, ap, subst, ◌∙◌, arith, length-append, length-drop}
use Rattle.std.specs.Prelude.{if◌then◌else◌}
use Rattle.std.proofs.lemmas.List.{length-replicate, length-take-le, take_at, drop_at, reverse-append, length-reverse, take-append-drop}
use Rattle.std.proofs.lemmas.Bool.Decides.{nat_tests}
use Rattle.outside.specs.Disk.{patch, Torn, TornCut}
use Rattle.outside.proofs.Disks.{torn_self, cut_self, length-patch, torn_patch, torn_cut}
use Rattle.outside_mem.specs.declared.change.Change.{Change}
use Rattle.outside_mem.specs.declared.change.Change.TheVariants.{Write, Cut, Sync}
use Rattle.outside_mem.specs.Disk.{content_after, IsImageAfter, are_within, IsRun, image_after, chosen, synced_content}
use Rattle.outside_mem.specs.DiskLaws.{both, at_most}

-- what a crash leaves by a choice is an image, and no shorter than the content where it keeps what was written
pub record Chosen (choice : ℕ) (first : List ℕ) (changes : List Change) : Type 0 where
  pub image : IsImageAfter first changes (image_after choice first changes)
  pub long : 1 ≤ choice → length (content_after first changes) ≤ length (image_after choice first changes)

filled_write : (at : ℕ) (bytes d : List ℕ) → at ≤ length d → Torn at (length bytes) d (patch at (replicate (length bytes) 255) d)
filled_write at bytes d within = subst (λ n. Torn at n d (patch at (replicate (length bytes) 255) d)) (length-replicate (length bytes) 255) (torn_patch at (replicate (length bytes) 255) d within)

filled_cut : (n : ℕ) (d : List ℕ) → n ≤ length d → TornCut n d (take n d ++ replicate (length d - n) 255)
filled_cut n d within =
    let front = length-take-le n d within in
    let filled : length {A = ℕ} (replicate (length d - n) 255) ≡ length d - n = length-replicate (length d - n) 255 in
    let all = length-append (take n d) (replicate (length d - n) 255) in
    record { front = take_at (take n d) (replicate (length d - n) 255) n front; no_shorter = omega (arith, front, filled, all, within); no_longer = omega (arith, front, filled, all, within) }

chosen_write : (choice at : ℕ) (bytes c i : List ℕ) → (1 ≤ choice → length c ≤ length i) → at ≤ length c → Torn at (length bytes) i (chosen choice i (patch at bytes i) (patch at (replicate (length bytes) 255) i))
chosen_write zero at bytes c i long within = torn_self at (length bytes) i
chosen_write (suc zero) at bytes c i long within = torn_patch at bytes i (let l = long (omega arith) in omega (arith, l, within))
chosen_write (suc (suc choice)) at bytes c i long within = filled_write at bytes i (let l = long (omega arith) in omega (arith, l, within))

chosen_cut : (choice len : ℕ) (done : Bool) (c i : List ℕ) → (1 ≤ choice → length c ≤ length i) → len ≤ length c
    → TornCut len i (chosen choice i (if done then take len i else i) (take len i ++ replicate (length i - len) 255))
chosen_cut zero len done c i long within = cut_self len i
chosen_cut (suc zero) len true c i long within = torn_cut len i (let l = long (omega arith) in omega (arith, l, within))
chosen_cut (suc zero) len false c i long within = cut_self len i
chosen_cut (suc (suc choice)) len done c i long within = filled_cut len i (let l = long (omega arith) in omega (arith, l, within))

long_write : (choice at : ℕ) (bytes c i : List ℕ) (done : Bool) → (1 ≤ choice → length c ≤ length i) → at ≤ length c → 1 ≤ choice
    → length (if done then patch at bytes c else c) ≤ length (chosen choice i (patch at bytes i) (patch at (replicate (length bytes) 255) i))
long_write zero at bytes c i done long within some = absurd (omega (arith, some))
long_write (suc zero) at bytes c i true long within some =
    let l = long (omega arith) in
    let a = length-patch at bytes c within in
    let b = length-patch at bytes i (omega (arith, l, within)) in
    omega (arith, l, a, b)
long_write (suc zero) at bytes c i false long within some =
    let l = long (omega arith) in
    let b = length-patch at bytes i (omega (arith, l, within)) in
    omega (arith, l, b)
long_write (suc (suc choice)) at bytes c i true long within some =
    let l = long (omega arith) in
    let a = length-patch at bytes c within in
    let b = length-patch at (replicate (length bytes) 255) i (omega (arith, l, within)) in
    let n : length {A = ℕ} (replicate (length bytes) 255) ≡ length bytes = length-replicate (length bytes) 255 in
    omega (arith, l, a, b, n)
long_write (suc (suc choice)) at bytes c i false long within some =
    let l = long (omega arith) in
    let b = length-patch at (replicate (length bytes) 255) i (omega (arith, l, within)) in
    omega (arith, l, b)

long_cut : (choice len : ℕ) (done : Bool) (c i : List ℕ) → (1 ≤ choice → length c ≤ length i) → len ≤ length c → 1 ≤ choice
    → length (if done then take len c else c) ≤ length (chosen choice i (if done then take len i else i) (take len i ++ replicate (length i - len) 255))
long_cut zero len done c i long within some = absurd (omega (arith, some))
long_cut (suc zero) len true c i long within some =
    let l = long (omega arith) in
    let a = length-take-le len c within in
    let b = length-take-le len i (omega (arith, l, within)) in
    omega (arith, a, b)
long_cut (suc zero) len false c i long within some = long (omega arith)
long_cut (suc (suc choice)) len done c i long within some =
    let l = long (omega arith) in
    let filled = filled_cut len i (omega (arith, l, within)) in
    let lo = filled.no_shorter in
    let front = length-take-le len i (omega (arith, l, within)) in
    let n : length {A = ℕ} (replicate (length i - len) 255) ≡ length i - len = length-replicate (length i - len) 255 in
    let all = length-append (take len i) (replicate (length i - len) 255) in
    cut_shorter done (omega (arith, front, n, all, l, within))
  where
    cut_shorter : (b : Bool) → length c ≤ length (take len i ++ replicate (length i - len) 255) → length (if b then take len c else c) ≤ length (take len i ++ replicate (length i - len) 255)
    cut_shorter true le = (let a = length-take-le len c within in omega (arith, a, le, within))
    cut_shorter false le = le

as_content : (first : List ℕ) (at : ℕ) (bytes : List ℕ) (done : Bool) (earlier : List Change) → content_after first (Write at bytes done ∷ earlier) ≡ (if done then patch at bytes (content_after first earlier) else content_after first earlier)
as_content first at bytes true earlier = refl
as_content first at bytes false earlier = refl

as_cut : (first : List ℕ) (len : ℕ) (done : Bool) (earlier : List Change) → content_after first (Cut len done ∷ earlier) ≡ (if done then take len (content_after first earlier) else content_after first earlier)
as_cut first len true earlier = refl
as_cut first len false earlier = refl

pub chosen_image : (choice : ℕ) (first : List ℕ) (changes : List Change) → are_within first changes ≡ true → Chosen choice first changes
chosen_image choice first [] within = record { image = refl; long = λ some. omega arith }
chosen_image choice first (Write at bytes done ∷ earlier) within =
    let tests = both (nat_le at (length (content_after first earlier))) (are_within first earlier) within in
    let le = at_most at (length (content_after first earlier)) tests.0 in
    let before = chosen_image choice first earlier tests.1 in
    record {
      image = (image_after choice first earlier, before.image, chosen_write choice at bytes (content_after first earlier) (image_after choice first earlier) before.long le);
      long = λ some. rw (as_content first at bytes done earlier) (long_write choice at bytes (content_after first earlier) (image_after choice first earlier) done before.long le some);
    }
chosen_image choice first (Cut len done ∷ earlier) within =
    let tests = both (nat_le len (length (content_after first earlier))) (are_within first earlier) within in
    let le = at_most len (length (content_after first earlier)) tests.0 in
    let before = chosen_image choice first earlier tests.1 in
    record {
      image = (image_after choice first earlier, before.image, chosen_cut choice len done (content_after first earlier) (image_after choice first earlier) before.long le);
      long = λ some. rw (as_cut first len done earlier) (long_cut choice len done (content_after first earlier) (image_after choice first earlier) before.long le some);
    }
chosen_image choice first (Sync true ∷ earlier) within = record { image = refl; long = λ some. omega arith }
chosen_image choice first (Sync false ∷ earlier) within = (let before = chosen_image choice first earlier within in record { image = before.image; long = before.long })

-- choice 0 keeps what isn't synced as before
pub kept_image : (first : List ℕ) (changes : List Change) → image_after 0 first changes ≡ synced_content first changes
kept_image first [] = refl
kept_image first (Write at bytes done ∷ earlier) = kept_image first earlier
kept_image first (Cut len done ∷ earlier) = kept_image first earlier
kept_image first (Sync true ∷ earlier) = refl
kept_image first (Sync false ∷ earlier) = kept_image first earlier

-- a choice, by its tests
pub chosen_tests : (choice : ℕ) (before written filled : List ℕ) → chosen choice before written filled ≡ (if choice == 0 then before else if choice == 1 then written else filled)
chosen_tests zero before written filled = refl
chosen_tests (suc zero) before written filled = refl
chosen_tests (suc (suc choice)) before written filled = grind (arith, nat_tests)

within_drop : (k : ℕ) (first : List ℕ) (changes : List Change) → are_within first changes ≡ true → are_within first (drop k changes) ≡ true
within_drop zero first changes within = within
within_drop (suc k) first [] within = within
within_drop (suc k) first (Write at bytes done ∷ earlier) within = within_drop k first earlier (both (nat_le at (length (content_after first earlier))) (are_within first earlier) within).1
within_drop (suc k) first (Cut len done ∷ earlier) within = within_drop k first earlier (both (nat_le len (length (content_after first earlier))) (are_within first earlier) within).1
within_drop (suc k) first (Sync done ∷ earlier) within = within_drop k first earlier within

-- at each moment
pub crash_image : (choice k : ℕ) (first : List ℕ) (changes : List Change) (bytes image : List ℕ) → IsRun first changes bytes → image ≡ image_after choice first (drop k changes) → IsImageAfter first (drop k changes) image
crash_image choice k first changes bytes image run is =
    subst (IsImageAfter first (drop k changes)) (sym is) (chosen_image choice first (drop k changes) (within_drop k first changes run.within)).image

-- the first changes are the last of them that are told latest first
pub reverse_front : (changes : List Change) (n : ℕ) → n ≤ length changes → reverse (take n changes) ≡ drop (length (reverse changes) - n) (reverse changes)
reverse_front changes n within =
    let split : reverse changes ≡ reverse (drop n changes) ++ reverse (take n changes) = ap reverse (sym (take-append-drop n changes)) ∙ reverse-append (take n changes) (drop n changes) in
    let len : length (reverse (drop n changes)) ≡ length (reverse changes) - n = omega (arith, length-reverse (drop n changes), length-reverse changes, length-drop n changes, within) in
    sym (ap (drop (length (reverse changes) - n)) split ∙ drop_at (reverse (drop n changes)) (reverse (take n changes)) (length (reverse changes) - n) len)
