use Rattle.std.proofs.Common.{length, length-drop, ◌∙◌, ap, arith}
use Rattle.sound_frames.proofs.Windows.{window_on}
use Rattle.sound_frames.proofs.window.go_on.Goals as goal

pub returns-clause-window : goal.returns-clause-window
returns-clause-window g c log w =
    window_on c.args.coming.now.window.items c.skip.new.self.window.items c.fill.new.self.window.items log c.args.coming.now.place c.args.place.at c.fill.new.self.place _
    (g.S.Source.left c.args.coming.now.source) (g.S.Source.left c.skip.new.self.source) (g.S.Source.left c.fill.new.self.source) c.args.place.more c.in_ok-more.more w
    c.skip.ensures.comes c.in_ok-more.ensures.comes c.in_ok-more.ensures.end (c.fill.ensures.place ∙ c.skip.ensures.place)

pub returns-clause-within : goal.returns-clause-within
returns-clause-within g c =
    let window = c.args.coming.now.window.items in
    let skipped = ap length c.skip.ensures.window in
    let left = length-drop c.args.place.at window in
    let grows = c.in_ok-more.ensures.grows in
    let inside = c.requires in
    omega (arith, skipped, left, grows, inside)
