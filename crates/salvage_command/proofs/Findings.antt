-- What is found of a journal.
use Rattle.std.proofs.Common.{◌≡◌, ◌∙◌, ℕ, ◌+◌, ◌-◌, Bool, true, false, List, [], ◌∷◌, ◌++◌, length, drop, get_or, true≢false, refl, sym, ap, subst}
use Rattle.std.specs.Prelude.{IsTrue, ◌↔◌}
use Rattle.std.specs.List.{flat_map}
use Rattle.marc_types.specs.declared.entry.Entry.{Entry}
use Rattle.marc_types.specs.declared.entry.Limits.{Limits}
use Rattle.entry_record.specs.History.{IsWithin}
use Rattle.console_lines.specs.declared.fault.Fault.TheVariants.{NotAJournal, Full}
use Rattle.sound_frames.specs.declared.damage.Damage.{Damage}
use Rattle.sound_frames.specs.declared.damage.Reason.TheVariants.{Torn}
use Rattle.sound_frames.specs.Sound.{IsNothing}
use Rattle.salvage_command.specs.Told.{damage_line, left_line, count_line}
use Rattle.salvage_command.specs.Finding.{IsReadOf, IsFoundSound, IsUnfound, Nothing, TooMuch}

module _ (limits : Limits) (log : List ℕ) (entries : List Entry) (damages : List Damage) (end bytes : ℕ) (r : IsReadOf log entries damages end bytes) where
  pub found_nothing : (place : ℕ) → IsNothing (record { entries = entries; damages = damages; end = end }) place → IsUnfound limits log (NotAJournal place)
  found_nothing place nothing = Nothing (record { entries = entries; damages = damages; end = end }) place r.sound refl nothing

  pub found_much : (fits : Bool) → (IsTrue fits ↔ IsWithin limits entries) → fits ≡ false → IsUnfound limits log Full
  found_much fits told not = TooMuch (record { entries = entries; damages = damages; end = end }) r.sound refl (λ within. true≢false (sym (told.1 within) ∙ not))

  pub found_sound : (fits : Bool) → (IsTrue fits ↔ IsWithin limits entries) → fits ≡ true
      → ((place : ℕ) → IsNothing (record { entries = entries; damages = damages; end = end }) place → ⊥)
      → (text : List ℕ) (count left : ℕ) → count ≡ length entries → left ≡ bytes - (end + 1)
      → text ≡ count_line count ++ flat_map damage_line damages ++ left_line left end
      → IsFoundSound limits log entries text
  found_sound fits told fitting something text count left count_is left_is text_is = record {
    all = record { entries = entries; damages = damages; end = end };
    is = r.sound;
    entries_are = refl;
    worth = record { something = something; within = told.0 fitting };
    lines = text_is ∙ (λ i. count_line (count_is i) ++ flat_map damage_line damages ++ left_line ((left_is ∙ ap (λ n. n - (end + 1)) r.counted) i) end);
  }

-- where nothing is sound
module _ (entries : List Entry) (damages : List Damage) (end place : ℕ) where
  pub some_entry : (entries ≡ [] → ⊥) → IsNothing (record { entries = entries; damages = damages; end = end }) place → ⊥
  some_entry some nothing = some nothing.none

  pub no_damage : damages ≡ [] → IsNothing (record { entries = entries; damages = damages; end = end }) place → ⊥
  no_damage none nothing = let both : [] ≡ record { place = place; reason = nothing.reason } ∷ nothing.others = sym none ∙ nothing.first in cc

first_is : (damages : List Damage) (d : Damage) → (damages ≡ [] → ⊥) → d ≡ get_or damages 0 d → damages ≡ d ∷ drop 1 damages
first_is [] d some is = absurd (some refl)
first_is (x ∷ damages) d some is = ap (λ y. y ∷ damages) (sym is)

same_first : (one other : Damage) (xs ys : List Damage) → one ∷ xs ≡ other ∷ ys → one ≡ other
same_first one other xs ys same = cc

pub only_torn : (entries : List Entry) (damages : List Damage) (end place : ℕ) (d : Damage) → (damages ≡ [] → ⊥) → d ≡ get_or damages 0 d → d.reason ≡ Torn
    → IsNothing (record { entries = entries; damages = damages; end = end }) place → ⊥
only_torn entries damages end place d some is torn nothing =
    let first = same_first d (record { place = place; reason = nothing.reason }) (drop 1 damages) nothing.others (sym (first_is damages d some is) ∙ nothing.first) in
    nothing.broken (sym (ap (λ x. x.reason) first) ∙ torn)

pub nothing_there : (entries : List Entry) (damages : List Damage) (end : ℕ) (d : Damage) → entries ≡ [] → (damages ≡ [] → ⊥) → d ≡ get_or damages 0 d → (d.reason ≡ Torn → ⊥)
    → IsNothing (record { entries = entries; damages = damages; end = end }) d.place
nothing_there entries damages end d none some is broken = record {
  none = none;
  reason = d.reason;
  others = drop 1 damages;
  first = first_is damages d some is;
  broken = broken;
}

-- the same of equal entries and damages
pub nothing_of : (entries also : List Entry) (damages too : List Damage) (end place : ℕ) → entries ≡ also → damages ≡ too
    → IsNothing (record { entries = entries; damages = damages; end = end }) place → IsNothing (record { entries = also; damages = too; end = end }) place
nothing_of entries also damages too end place same_entries same_damages nothing =
    subst (λ es. IsNothing (record { entries = es; damages = too; end = end }) place) same_entries
    (subst (λ ds. IsNothing (record { entries = entries; damages = ds; end = end }) place) same_damages nothing)
