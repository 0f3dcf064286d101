use Rattle.std.proofs.Common.{◌∙◌, ◌++◌, [], refl, sym, ap, subst}
use Rattle.commit_journal.specs.Log.{header_fault, version_of_header}
use Rattle.sound_frames.specs.Sound.{IsReadAs}
use Rattle.sound_frames.specs.Looking.{HasLeft, HasReadOn, as_list}
use Rattle.sound_frames.proofs.Windows.{total_is}
use Rattle.sound_frames.proofs.Readings.{sound_in}
use Rattle.sound_frames.proofs.sound.find_long.Goals as goal

pub returns-clause-bytes : goal.returns-clause-bytes
returns-clause-bytes g c log w =
    total_is log c.read_on.new.coming.window.items c.read_on.new.coming.place c.in_ok-bytes.bytes _ (c.in_ok-end.ensures.comes log w) c.in_ok-bytes.ensures.total

pub returns-clause-sound : goal.returns-clause-sound
returns-clause-sound g c log w =
    let found = c.read_on.new.found in
    let version = c.in_ok-version.version in
    let first = c.note.new.self.damages.items in
    let end = c.in_ok-end.end in
    let noted = found.damages.items in
    let window = c.window-window.ensures in
    sound_in log c.args.coming.now.window.items (g.S.Source.left c.args.coming.now.source) c.args.more version c.named_version.result c.wrong_place.result _ first
    c.note-2.new.self.entries.items noted c.note-2.new.self.damages.items end.place end.why c.in_ok-bytes.bytes w c.requires.long c.requires.far
    (subst (λ l. IsReadAs l version) window c.in_ok-version.ensures.read) (c.wrong_place.ensures ∙ ap header_fault window)
    (c.named_version.ensures.named ∙ ap version_of_header window) refl
    (c.in_ok-note.ensures.damages ∙ ap (λ d. d ++ as_list c.header_damage.result) c.new-found.ensures.damages ∙ c.header_damage.ensures)
    (subst (λ es. HasReadOn version log first es noted end.place end.why) (sym c.note-2.ensures.entries)
    (subst (λ v. HasReadOn v log first found.entries.items noted end.place end.why) c.new-counter.ensures.version (c.in_ok-end.ensures.read log w)))
    (total_is log c.read_on.new.coming.window.items c.read_on.new.coming.place c.in_ok-bytes.bytes _ (c.in_ok-end.ensures.comes log w) c.in_ok-bytes.ensures.total)
    (c.in_ok-note-2.ensures.damages ∙ ap (λ d. noted ++ d) c.ending_damage.ensures)

pub returns-clause-fits : goal.returns-clause-fits
returns-clause-fits g c =
    let bytes = c.args.limits.bytes in
    let begun = subst (λ left. HasLeft bytes [] left) (sym c.note.ensures.left) c.new-found.ensures.left in
    c.is_within-fits.ensures
    (subst (λ es. HasLeft bytes es c.note-2.new.self.left) (sym c.note-2.ensures.entries)
    (subst (λ left. HasLeft bytes c.read_on.new.found.entries.items left) (sym c.note-2.ensures.left) (c.in_ok-end.ensures.left bytes begun)))
