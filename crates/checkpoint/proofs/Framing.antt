-- Frames are read one behind the other.
use Rattle.std.proofs.Common.{◌≡◌, ◌∙◌, ℕ, ◌+◌, ◌<◌, ◌≤◌, List, [], ◌∷◌, ◌++◌, length, take, drop, get_or, refl, sym, ap, subst, arith}
use mathlib.Core.List.{map-append}
use Rattle.std.proofs.lemmas.List.{take_more, take_all, drop_more, take-append-drop}
use Rattle.std.proofs.lemmas.List.Elements.{All-push}
use Rattle.std.proofs.lemmas.List.Sums.{fold-append}
use Rattle.commit_journal.specs.declared.frame.Frame.{Frame}
use Rattle.checkpoint.specs.Format.{part_bytes}
use Rattle.checkpoint.specs.Parts.{IsPart, IsPartOf, ArePartsOf}
use Rattle.checkpoint.specs.Points.{nothing_yet, read_on, read_all, IsPointOf, IsUnreadFrame, IsUnread}
use Rattle.commit_journal.specs.Log.{payloads_of}
use Rattle.checkpoint.specs.declared.part.Part.{Part}
use Rattle.checkpoint.specs.declared.point.SoFar.{SoFar}
use Rattle.checkpoint.specs.declared.fault.PointFault.{PointFault}
use Rattle.checkpoint.specs.declared.fault.PointFault.TheVariants.{BadPoint, NoMemory}

-- so many frames are read
pub record AreFramesRead (frames : List Frame) (count : ℕ) (so_far : SoFar) : Type 0 where
  pub parts : List Part
  pub are : ArePartsOf (payloads_of (take count frames)) parts
  pub so_far_is : so_far ≡ read_all parts

pub none_read : (frames : List Frame) (so_far : SoFar) → so_far ≡ nothing_yet → AreFramesRead frames 0 so_far
none_read frames so_far is = record { parts = []; are = record { written = refl; can_be = λ k d within. absurd (omega (arith, within)) }; so_far_is = is }

one_part : (payloads : List (List ℕ)) (parts : List Part) (payload : List ℕ) (part : Part) → ArePartsOf payloads parts → IsPartOf payload part
    → ArePartsOf (payloads ++ payload ∷ []) (parts ++ part ∷ [])
one_part payloads parts payload part are is = record {
  written = map-append part_bytes parts (part ∷ []) ∙ (λ i. are.written i ++ is.written i ∷ []);
  can_be = All-push IsPart parts part are.can_be is.can_be;
}

payloads_more : (frames : List Frame) (count : ℕ) (frame : Frame) → count < length frames → frame ≡ get_or frames count frame
    → payloads_of (take count frames) ++ frame.payload ∷ [] ≡ payloads_of (take (count + 1) frames)
payloads_more frames count frame within is =
    sym (map-append (λ (f : Frame). f.payload) (take count frames) (frame ∷ []))
    ∙ ap payloads_of (sym (take_more frames count frame within ∙ ap (λ f. take count frames ++ f ∷ []) (sym is)))

pub one_frame : (frames : List Frame) (count : ℕ) (frame : Frame) → count < length frames → frame ≡ get_or frames count frame → (so_far : SoFar)
    → AreFramesRead frames count so_far → (part : Part) → IsPartOf frame.payload part → (now : SoFar) → now ≡ read_on so_far part → (next : ℕ) → next ≡ count + 1
    → AreFramesRead frames next now
one_frame frames count frame within is so_far t part here now now_is next more = record {
  parts = t.parts ++ part ∷ [];
  are = subst (λ n. ArePartsOf (payloads_of (take n frames)) (t.parts ++ part ∷ [])) (sym more)
      (subst (λ ps. ArePartsOf ps (t.parts ++ part ∷ [])) (payloads_more frames count frame within is) (one_part _ t.parts frame.payload part t.are here));
  so_far_is = now_is ∙ ap (λ s. read_on s part) t.so_far_is ∙ sym (fold-append read_on nothing_yet t.parts (part ∷ []));
}

pub bad_frame : (frames : List Frame) (count : ℕ) (frame : Frame) → count < length frames → frame ≡ get_or frames count frame → (so_far : SoFar)
    → AreFramesRead frames count so_far → (fault : PointFault) → IsUnreadFrame frame fault → IsUnread frames fault
bad_frame frames count frame within is so_far t (BadPoint place) h = record {
  front = take count frames;
  bad = frame;
  behind = drop (count + 1) frames;
  parts = t.parts;
  split =
      sym (take-append-drop count frames)
      ∙ ap (λ fs. take count frames ++ fs) (drop_more frames count frame within ∙ ap (λ f. f ∷ drop (count + 1) frames) (sym is));
  are = t.are;
  none = h.0;
  at = h.1;
}
bad_frame frames count frame within is so_far t NoMemory h = tt

pub all_frames : (frames : List Frame) (count : ℕ) (so_far : SoFar) → length frames ≤ count → AreFramesRead frames count so_far → IsPointOf frames so_far.last
all_frames frames count so_far whole t = record {
  parts = t.parts;
  are = subst (λ fs. ArePartsOf (payloads_of fs) t.parts) (take_all count frames whole) t.are;
  last = ap (λ (s : SoFar). s.last) t.so_far_is;
}
