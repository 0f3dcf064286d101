use Rattle.std.proofs.Common.{◌≡◌, [], take, drop, length, length-drop, ◌∙◌, ap, sym, subst, arith}
use Rattle.std.specs.Prelude.{Err, Some, None}
use Rattle.sha2.specs.Hashers.{Holds256}
use Rattle.sha2.specs.Sha256.{sha256}
use Rattle.commit_journal.specs.declared.format.TheConstants.{FIRST_GATE}
use Rattle.commit_journal.specs.Log.{header_fault, version_of_header, walk}
use Rattle.commit_journal.specs.Versions.{number_of}
use Rattle.journal_verification.specs.Walking.{IsUnread, IsRead}
use Rattle.commit_journal.specs.Tails.{tail_behind}
use Rattle.commit_journal.specs.declared.tail.Tail.TheVariants.{Nothing}
use Rattle.journal_verification.specs.Contents.{torn_behind, IsVerified}
use Rattle.entry_history.specs.Frames.{IsNoJournal}
use Rattle.journal_verification.proofs.Walks.{same_place, same_fault}
use Rattle.journal_verification.proofs.Verifying.{blank_is, blank_front, wrong_header, whole_is, front_read, unread_is, no_less}
use Rattle.journal_verification.proofs.verified.look_coming.Goals as goal

pub returns-then-not-branch-clause-verified : goal.returns-then-not-branch-clause-verified
returns-then-not-branch-clause-verified g c log comes =
    let end = c.in_ok-fill.ensures.end c.if-not-branch.true log comes in
    subst (IsVerified log) (sym c.in_ok-blank.ensures.verified) (blank_is log c.fill.new.self.window.items end.0 end.1)

pub returns-then-not-branch-clause-front : goal.returns-then-not-branch-clause-front
returns-then-not-branch-clause-front g c log comes =
    let end = c.in_ok-fill.ensures.end c.if-not-branch.true log comes in
    let same = ap (λ l. Some (sha256 (take FIRST_GATE l))) (sym end.0) in
    blank_front log c.args.wanted end.1 _ (λ is. c.in_ok-blank.ensures.none is ∙ same) c.in_ok-blank.ensures.more

pub returns-in-Err-clause-lost : goal.returns-in-Err-clause-lost
returns-in-Err-clause-lost g c wrong is log comes =
    let come = c.in_ok-fill.ensures.comes log comes in
    let long = c.in_ok-fill.ensures.filled c.if-not-branch.false in
    subst (IsNoJournal log) (same_place _ wrong is)
    (wrong_header log c.fill.new.self.window.items _ come long c.in-Err.place (ap header_fault (sym c.window.ensures) ∙ c.in-Err.ensures.wrong))

pub returns-in-Err-take_frames-clause-lost : goal.returns-in-Err-take_frames-clause-lost
returns-in-Err-take_frames-clause-lost g c wrong is log comes =
    let come = c.in_ok-fill.ensures.comes log comes in
    let long = c.in_ok-fill.ensures.filled c.if-not-branch.false in
    let right = ap header_fault (sym c.window.ensures) ∙ c.in-Ok.ensures.right in
    let says = c.in-Ok.ensures.version ∙ ap version_of_header c.window.ensures in
    let unread = c.take_frames.ensures.unread wrong (c.in-Err-take_frames.is ∙ ap Err (same_fault _ _ is)) (drop 16 log) (c.pass.ensures.comes log come) in
    let passed = c.pass.ensures.place in
    let filled = c.fill.ensures.place in
    let first = c.requires.place in
    let place : c.pass.new.self.place ≡ 16 = omega (arith, passed, filled, first) in
    unread_is log c.fill.new.self.window.items _ come long (number_of c.in-Ok.version) right says wrong
    (subst (λ p. IsUnread (number_of c.in-Ok.version) (walk p 0 (drop 16 log)) wrong) place unread)

pub returns-clause-verified : goal.returns-clause-verified
returns-clause-verified g c log comes =
    let come = c.in_ok-fill.ensures.comes log comes in
    let long = c.in_ok-fill.ensures.filled c.if-not-branch.false in
    let right = ap header_fault (sym c.window.ensures) ∙ c.in-Ok.ensures.right in
    let says = c.in-Ok.ensures.version ∙ ap version_of_header c.window.ensures in
    let behind = c.pass.ensures.comes log come in
    let number = c.number.result in
    let is = c.number.ensures.number in
    let started = c.pass.new.self.hasher in
    let found = c.in-Ok-take_frames.found in
    let end = c.take_frames.new.coming.place in
    let read = subst (λ v. IsRead v c.pass.new.self.place c.args.wanted started (drop 16 log) found end) (sym is)
    (c.in-Ok-take_frames.ensures.read (drop 16 log) behind) in
    let held = c.pass.ensures.hashed [] (subst (λ h. Holds256 h []) (sym c.fill.ensures.hasher) c.requires.hashed) in
    let on = c.in-Ok-take_frames.ensures.on (drop 16 log) behind in
    let total = c.in_ok-bytes.ensures.total on.now on.comes in
    let passed = c.pass.ensures.place in
    let filled = c.fill.ensures.place in
    let first = c.requires.place in
    let place : c.pass.new.self.place ≡ 16 = omega (arith, passed, filled, first) in
    let size = on.size in
    let rest = length-drop 16 log in
    let least = no_less log c.fill.new.self.window.items _ come long in
    let bytes : c.in_ok-bytes.bytes ≡ length log = omega (arith, total, size, rest, least, place) in
    whole_is log c.fill.new.self.window.items _ come long number right (is ∙ says) c.args.wanted end c.in_ok-bytes.bytes started found c.torn_at.result c.tail_behind.result
    (subst (λ p. IsRead number p c.args.wanted started (drop 16 log) found end) place read) held
    bytes (c.torn_at.ensures ∙ ap (λ p. torn_behind p c.in_ok-bytes.bytes) c.place-place.ensures.value)
    (c.tail_behind.ensures ∙ ap (λ p. tail_behind p c.in_ok-bytes.bytes) c.place-place.ensures.value)

pub returns-clause-front : goal.returns-clause-front
returns-clause-front g c log comes =
    let come = c.in_ok-fill.ensures.comes log comes in
    let long = c.in_ok-fill.ensures.filled c.if-not-branch.false in
    let right = ap header_fault (sym c.window.ensures) ∙ c.in-Ok.ensures.right in
    let says = c.in-Ok.ensures.version ∙ ap version_of_header c.window.ensures in
    let behind = c.pass.ensures.comes log come in
    let number = number_of c.in-Ok.version in
    let started = c.pass.new.self.hasher in
    let found = c.in-Ok-take_frames.found in
    let end = c.take_frames.new.coming.place in
    let held = c.pass.ensures.hashed [] (subst (λ h. Holds256 h []) (sym c.fill.ensures.hasher) c.requires.hashed) in
    let passed = c.pass.ensures.place in
    let filled = c.fill.ensures.place in
    let first = c.requires.place in
    let place : c.pass.new.self.place ≡ 16 = omega (arith, passed, filled, first) in
    front_read log c.fill.new.self.window.items _ come long number right says c.args.wanted end 0 started found None Nothing
    (subst (λ p. IsRead number p c.args.wanted started (drop 16 log) found end) place (c.in-Ok-take_frames.ensures.read (drop 16 log) behind)) held
