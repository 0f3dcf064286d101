use Rattle.std.proofs.Common.{◌≡◌, ◌∙◌, ◌++◌, true, false, string_bytes, sym, ap, arith}
use Rattle.std.specs.List.{flat_map}
use Rattle.salvage_command.specs.Told.{damage_line, left_line, count_line}
use Rattle.salvage_command.proofs.Findings.{found_nothing, found_much, found_sound, nothing_of}
use Rattle.salvage_command.proofs.looking.look_over.Goals as goal

pub returns-in-Some-clause-unfound : goal.returns-in-Some-clause-unfound
returns-in-Some-clause-unfound c limits log read told =
    let s = c.args.sound in
    found_nothing limits log s.entries.items s.damages.items s.end s.bytes read c.in-Some.place
    (nothing_of c.as_slice.result.now s.entries.items c.as_slice-2.result.now s.damages.items s.end c.in-Some.place c.as_slice.ensures.value c.as_slice-2.ensures.value
    (c.in-Some.ensures.some s.end))

pub returns-then-not-sound-clause-unfound : goal.returns-then-not-sound-clause-unfound
returns-then-not-sound-clause-unfound c limits log read told =
    let s = c.args.sound in
    let unfit : s.fits ≡ false = let test = c.if-not-sound.true in grind arith in
    found_much limits log s.entries.items s.damages.items s.end s.bytes read s.fits told unfit

pub returns-clause-within : goal.returns-clause-within
returns-clause-within c limits told = let fit : c.args.sound.fits ≡ true = let test = c.if-not-sound.false in grind arith in told.0 fit

pub returns-clause-found : goal.returns-clause-found
returns-clause-found c limits log read told =
    let s = c.args.sound in
    let count = c.len-count.result in
    let left = c.count_behind-left.result in
    let fit : s.fits ≡ true = let test = c.if-not-sound.false in grind arith in
    found_sound limits log s.entries.items s.damages.items s.end s.bytes read s.fits told fit
    (λ place nothing. c.in_default.ensures.none s.end place
    (nothing_of s.entries.items c.as_slice.result.now s.damages.items c.as_slice-2.result.now s.end place (sym c.as_slice.ensures.value) (sym c.as_slice-2.ensures.value) nothing))
    (string_bytes c.in-Ok.text) count left (c.len-count.ensures ∙ s.entries.ok.0) c.count_behind-left.ensures
    (c.in-Ok.ensures ∙ ap (λ ds. count_line count ++ flat_map damage_line ds ++ left_line left s.end) c.as_slice-3.ensures.value)
