-- Frames that are taken one by one: each that is a part leads on, and behind the first that is none that one stays the first.
use Rattle.std.proofs.Common.{◌≡◌, ◌∙◌, ℕ, List, [], ◌∷◌, ◌++◌, Option, Result, Ok, Err, refl, sym, ap, subst, arith, append_assoc}
use Rattle.std.specs.Prelude.{IfOk, IfErr, IfSome}
use mathlib.Core.List.{map-append}
use Rattle.std.proofs.lemmas.List.Elements.{All-push}
use Rattle.std.proofs.lemmas.List.Sums.{fold-append}
use Rattle.commit_journal.specs.declared.frame.Frame.{Frame}
use Rattle.commit_journal.specs.declared.version.Version.{Version}
use Rattle.commit_journal.specs.declared.version.Version.TheVariants.{One}
use Rattle.commit_journal.specs.Versions.{number_of}
use Rattle.checkpoint.specs.Format.{part_bytes}
use Rattle.checkpoint.specs.Parts.{IsPart, IsPartOf}
use Rattle.checkpoint.specs.Points.{nothing_yet, read_on, IsBadFrame, IsPointOf}
use Rattle.checkpoint.specs.declared.part.Part.{Part}
use Rattle.checkpoint.specs.declared.point.SoFar.{SoFar}
use Rattle.checkpoint.specs.declared.point.Point.{Point}
use Rattle.durable_catalogue.specs.declared.fault.OpenFault.{OpenFault}
use Rattle.restoring.specs.Resuming.{IsInOrder}
use Rattle.checkpoint_commands.specs.PointLogs.{AreUntaken}
use Rattle.checkpoint_commands.specs.Taking.{AreRead, IsKnown}
use Rattle.checkpoint_commands.specs.declared.taking.Known.{Known}
use Rattle.checkpoint_commands.specs.declared.taking.Known.TheVariants.{Parts}

pub none_taken : (so_far : SoFar) → so_far ≡ nothing_yet → AreRead [] so_far
none_taken so_far is = record { parts = []; are = record { written = refl; can_be = λ k d within. absurd (omega (arith, within)) }; so_far_is = is }

pub one_part : (frames : List Frame) (frame : Frame) (so_far now : SoFar) (part : Part) → AreRead frames so_far → IsPartOf frame.payload part → now ≡ read_on so_far part
    → AreRead (frames ++ frame ∷ []) now
one_part frames frame so_far now part t here is = record {
  parts = t.parts ++ part ∷ [];
  are = record {
    written =
        map-append part_bytes t.parts (part ∷ []) ∙ (λ i. t.are.written i ++ here.written i ∷ [])
        ∙ sym (map-append (λ (f : Frame). f.payload) frames (frame ∷ []));
    can_be = All-push IsPart t.parts part t.are.can_be here.can_be;
  };
  so_far_is = is ∙ ap (λ s. read_on s part) t.so_far_is ∙ sym (fold-append read_on nothing_yet t.parts (part ∷ []));
}

pub one_bad : (frames : List Frame) (frame : Frame) (so_far : SoFar) → AreRead frames so_far → ((part : Part) → IsPartOf frame.payload part → ⊥)
    → IsBadFrame (frames ++ frame ∷ []) frame.gate
one_bad frames frame so_far t none = record {
  front = frames;
  bad = frame;
  behind = [];
  parts = t.parts;
  split = refl;
  are = t.are;
  none = none;
  at = refl;
}

pub still_bad : (frames : List Frame) (frame : Frame) (place : ℕ) → IsBadFrame frames place → IsBadFrame (frames ++ frame ∷ []) place
still_bad frames frame place b = record {
  front = b.front;
  bad = b.bad;
  behind = b.behind ++ frame ∷ [];
  parts = b.parts;
  split = ap (λ fs. fs ++ frame ∷ []) b.split ∙ append_assoc b.front (b.bad ∷ b.behind) (frame ∷ []);
  are = b.are;
  none = b.none;
  at = b.at;
}

-- ---- what is known behind all of them

pub point_known : (frames : List Frame) (known : Known) (so_far : SoFar) → known ≡ Parts so_far → IsKnown frames known → IsPointOf frames so_far.last
point_known frames known so_far is taken =
    let t : AreRead frames so_far = subst (IsKnown frames) is taken in
    record { parts = t.parts; are = t.are; last = ap (λ (s : SoFar). s.last) t.so_far_is }

pub not_newest : (version : Version) → version ≡ One → number_of version ≡ 2 → ⊥
not_newest version is two = let one : number_of One ≡ 2 = ap number_of (sym is) ∙ two in absurd (omega (arith, one))

pub last_taken : (result : Result (Option Point) OpenFault) (frames : List Frame) (known : Known) → IsKnown frames known
    → IfOk result (λ last. (fs : List Frame) → IsKnown fs known → IsPointOf fs last) → IfOk result (IsPointOf frames)
last_taken (Ok last) frames known is gives = gives frames is
last_taken (Err why) frames known is gives = tt

pub unread_taken : (result : Result (Option Point) OpenFault) (version : ℕ) (frames : List Frame) (known : Known) → IsKnown frames known
    → IfErr result (λ why. (fs : List Frame) → IsKnown fs known → AreUntaken version fs why) → IfErr result (AreUntaken version frames)
unread_taken (Ok last) version frames known is gives = tt
unread_taken (Err why) version frames known is gives = gives frames is

pub order_taken : (result : Result (Option Point) OpenFault) (frames : List Frame) → ((fs : List Frame) (found : Option Point) → IsPointOf fs found → IfSome found IsInOrder)
    → IfOk result (IsPointOf frames) → IfOk result (λ last. IfSome last IsInOrder)
order_taken (Ok last) frames law is = law frames last is
order_taken (Err why) frames law is = tt
