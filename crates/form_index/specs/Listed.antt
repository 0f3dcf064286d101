-- The list of a form, the steps of a number in it, and lists by form number.
use Rattle.std.specs.Prelude.{◌≡◌, ℕ, suc, Bool, true, false, not, ◌&&◌, ◌==◌, List, [], ◌∷◌, slice_index_or, if◌then◌else◌}
use Rattle.marc_types.specs.declared.key.Key.{Key}
use Rattle.form_index.specs.Order.{Ascends, has, inserted, without}
use Rattle.numbering.specs.declared.pages.Pages.{Pages}
use Rattle.form_index.specs.Paged.{flat}
use Rattle.form_index.specs.Trimmed.{trimmed}
use Rattle.form_index.specs.declared.key_list.Step.{Step}
use Rattle.form_index.specs.declared.key_list.Step.TheVariants.{Enter, Withdraw}

-- the numbers whose rows have the form, in key order, and those for which a taken row holds a place
pub record Listed : Type 0 where
  pub live : List ℕ
  pub held : List ℕ

-- a list of no number
abbrev pub no_list : Listed
no_list = record { live = []; held = [] }

-- no number
abbrev pub is_empty : List ℕ → Bool
is_empty [] = true
is_empty (n ∷ ns) = false

-- a list of no number, in which no place is held
abbrev pub is_no_list : Listed → Bool
is_no_list l = is_empty l.live && is_empty l.held

-- a place is held for the number
abbrev pub with_held : ℕ → Listed → Listed
with_held n l = record { live = l.live; held = n ∷ l.held }

-- a place that was held for the number is given up
abbrev pub released : ℕ → Listed → Listed
released n l = record { live = l.live; held = without n l.held }

-- the number goes from a place that was held for it to its place in key order
abbrev pub entered : List Key → ℕ → Listed → Listed
entered keys n l =
    if has n l.held && not (has n l.live) then record { live = inserted keys n l.live; held = without n l.held } else l

-- the number goes out of the order, and a place is held for it
abbrev pub withdrawn : ℕ → Listed → Listed
withdrawn n l = if has n l.live then record { live = without n l.live; held = n ∷ l.held } else l

-- what a step makes of a list
abbrev pub stepped : List Key → ℕ → Step → Listed → Listed
stepped keys n Enter = entered keys n
stepped keys n Withdraw = withdrawn n

-- ---- lists by form number

-- the list of a form, a blank one where there is none
abbrev pub list_at : List Listed → ℕ → Listed
list_at lists form = slice_index_or lists form no_list

-- the lists that stand in pages
abbrev pub lists_in : Pages Listed → List Listed
lists_in pages = flat no_list pages

-- a step at the lists from one number on, where the test holds of theirs
abbrev pub each_from : ℕ → (ℕ → Bool) → (Listed → Listed) → List Listed → List Listed
each_from form test step [] = []
each_from form test step (l ∷ ls) = (if test form then step l else l) ∷ each_from (suc form) test step ls

-- a step at the list of each of these forms
unfoldable pub each_of : List ℕ → (Listed → Listed) → List Listed → List Listed
each_of forms step lists = trimmed is_no_list (each_from 0 (λ form. has form forms) step lists)

-- the list of each of these forms took the step, and the other lists are as they were
abbrev pub Stepped : List ℕ → (Listed → Listed) → List Listed → List Listed → Type 0
Stepped forms step old new = (form : ℕ) → list_at new form ≡ (if has form forms then step (list_at old form) else list_at old form)

-- the list of one form took the step
abbrev pub SteppedAt : ℕ → (Listed → Listed) → List Listed → List Listed → Type 0
SteppedAt at step old new = (form : ℕ) → list_at new form ≡ (if at == form then step (list_at old form) else list_at old form)

-- each list has the numbers that it had
abbrev pub SameLists : List Listed → List Listed → Type 0
SameLists old new = (form : ℕ) → list_at new form ≡ list_at old form

-- no blank list stands at the end
abbrev pub IsShort : List Listed → Type 0
IsShort lists = trimmed is_no_list lists ≡ lists

-- each list is in key order
abbrev pub InOrder : List Key → List Listed → Type 0
InOrder keys lists = (form : ℕ) → Ascends keys (list_at lists form).live

-- no number stands twice
abbrev pub is_once : List ℕ → Bool
is_once [] = true
is_once (n ∷ ns) = not (has n ns) && is_once ns
