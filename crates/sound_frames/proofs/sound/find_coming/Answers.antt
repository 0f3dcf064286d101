use Rattle.std.proofs.Common.{◌∙◌, length, sym, ap, subst, arith}
use Rattle.std.proofs.lemmas.Result.{IfOk-weaker}
use Rattle.sound_frames.specs.Sound.{IsSoundOf}
use Rattle.sound_frames.proofs.Readings.{window_begun, window_short}
use Rattle.sound_frames.proofs.sound.find_coming.Goals as goal

-- the log isn't blank
pub returns-then-window-gt-BLANK_LENGTH-clause-sound : goal.returns-then-window-gt-BLANK_LENGTH-clause-sound
returns-then-window-gt-BLANK_LENGTH-clause-sound g c =
    IfOk-weaker c.find_long.result _ _
    (λ s is log comes. is log (window_begun _ _ log _ _ c.in_ok-more.more _ comes c.in_ok-more.ensures.comes c.in_ok-more.ensures.end)) c.find_long.ensures.sound

pub returns-then-window-gt-BLANK_LENGTH-clause-bytes : goal.returns-then-window-gt-BLANK_LENGTH-clause-bytes
returns-then-window-gt-BLANK_LENGTH-clause-bytes g c =
    IfOk-weaker c.find_long.result _ _
    (λ s is log comes. is log (window_begun _ _ log _ _ c.in_ok-more.more _ comes c.in_ok-more.ensures.comes c.in_ok-more.ensures.end)) c.find_long.ensures.bytes

-- it is
pub returns-clause-sound : goal.returns-clause-sound
returns-clause-sound g c log comes =
    let short = c.if-window-gt-BLANK_LENGTH.false in
    let window = ap length c.window-window.ensures in
    let all = window_short _ _ log _ c.in_ok-more.more _ comes c.in_ok-more.ensures.end c.in_ok-more.ensures.filled (omega (arith, short, window)) in
    let s = c.in_ok-find_blank.field-0 in
    subst (λ l. IsSoundOf l (record { entries = s.entries.items; damages = s.damages.items; end = s.end })) (c.window-window.ensures ∙ sym all) c.in_ok-find_blank.ensures.sound

pub returns-clause-bytes : goal.returns-clause-bytes
returns-clause-bytes g c log comes =
    let short = c.if-window-gt-BLANK_LENGTH.false in
    let window = ap length c.window-window.ensures in
    let all = window_short _ _ log _ c.in_ok-more.more _ comes c.in_ok-more.ensures.end c.in_ok-more.ensures.filled (omega (arith, short, window)) in
    c.in_ok-find_blank.ensures.bytes ∙ window ∙ ap length (sym all)
