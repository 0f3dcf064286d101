-- What is sound of a log is the history of a log.
use Rattle.std.proofs.Common.{◌≡◌, ◌∙◌, ℕ, ◌+◌, ◌<◌, All, List, [], ◌∷◌, ◌++◌, length, take, drop, true, None, Ok, refl, sym, ap, subst, arith, append_assoc, length-append}
use Rattle.std.proofs.lemmas.List.{append-nil}
use Rattle.std.proofs.lemmas.List.Elements.{All-nil, All-cons}
use Rattle.std.proofs.lemmas.Grind.{common_steps}
use Rattle.marc_types.specs.declared.entry.Entry.{Entry}
use Rattle.commit_journal.specs.declared.format.TheConstants.{HEADER_1, HEADER_2, OPEN_GATE, FIRST_GATE, BLANK_LENGTH, LENGTH_BYTES}
use Rattle.commit_journal.specs.Log.{header_fault, first_differing, version_of_header, payload_length, has_frame, payload_of, walk, closed_at, behind, frames_of, version_of, payloads_of}
use Rattle.commit_journal.specs.Journal.{IsPayload, chain_text, frames_from}
use Rattle.commit_journal.proofs.Walks.{frame_sizes}
use Rattle.commit_journal.proofs.Logs.{frames_walked, frames_blank, version_long}
use Rattle.commit_journal.proofs.Appends.{chain_leads}
use Rattle.entry_history.specs.Payloads.{Newer, Older, IsHistory, NoMore, OneMore}
use Rattle.sound_frames.specs.Sound.{HasEntries, behind_gate, SoundPart, IsSoundFrom, End, Pass, IsSoundOf, Blank, Long}

-- each can stand in a frame
abbrev AreFit : List (List ℕ) → Type 0
AreFit [] = Unit {0}
AreFit (payload ∷ payloads) = IsPayload payload × AreFit payloads

all_fit : (payloads : List (List ℕ)) → AreFit payloads → All IsPayload payloads
all_fit [] fit = All-nil IsPayload
all_fit (payload ∷ payloads) fit = All-cons IsPayload payload payloads fit.0 (all_fit payloads fit.1)

-- that of a whole frame can
payload_fits : (bytes : List ℕ) → has_frame bytes ≡ true → IsPayload (payload_of bytes)
payload_fits bytes has =
    let sizes = frame_sizes bytes has in
    let least = sizes.least in
    let most = sizes.most in
    let whole = sizes.whole in
    let len : length (payload_of bytes) ≡ payload_length bytes = front_len (payload_length bytes) bytes whole in
    (omega (arith, least, len), omega (arith, most, len))
  where
    front_len : (n : ℕ) (l : List ℕ) → LENGTH_BYTES + n < length l → length (take n (drop LENGTH_BYTES l)) ≡ n
    front_len n l within = grind (arith, common_steps)

-- payloads that hold the entries behind others
record HoldAll (version : ℕ) (before entries : List Entry) : Type 0 where
  pub payloads : List (List ℕ)
  pub fit : AreFit payloads
  pub holds : IsHistory version before payloads (before ++ entries)

hold_all : (version : ℕ) (log : List ℕ) {place : ℕ} {before : List Entry} {s : SoundPart} → IsSoundFrom version log place before s → HoldAll version before s.entries
hold_all version log (End place before s damages ends is) =
    let none : s.entries ≡ [] = ap (λ x. x.entries) is in
    record {
      payloads = [];
      fit = tt;
      holds = subst (λ es. IsHistory version before [] es) (sym (append-nil before) ∙ ap (λ es. before ++ es) (sym none)) (NoMore before);
    }
hold_all version log (Pass place before s entries more sound may from is) =
    let rest = hold_all version log from in
    let payload = payload_of (behind_gate log place) in
    let all : (before ++ entries) ++ more.entries ≡ before ++ s.entries = append_assoc before entries more.entries ∙ ap (λ es. before ++ es) (sym (ap (λ x. x.entries) is)) in
    record {
      payloads = payload ∷ rest.payloads;
      fit = (payload_fits (behind_gate log place) sound.whole, rest.fit);
      holds = subst (λ es. IsHistory version before (payload ∷ rest.payloads) es) all
          (OneMore before entries ((before ++ entries) ++ more.entries) payload rest.payloads sound.valid rest.holds);
    }

-- the last of some payloads
record Unjoined (payloads : List (List ℕ)) : Type 0 where
  pub front : List (List ℕ)
  pub last : List ℕ
  pub is : payloads ≡ front ++ last ∷ []
  pub front_fit : AreFit front
  pub last_fits : IsPayload last

unjoined : (payload : List ℕ) (payloads : List (List ℕ)) → AreFit (payload ∷ payloads) → Unjoined (payload ∷ payloads)
unjoined payload [] fit = record { front = []; last = payload; is = refl; front_fit = tt; last_fits = fit.0 }
unjoined payload (next ∷ payloads) fit =
    let rest = unjoined next payloads fit.1 in
    record { front = payload ∷ rest.front; last = rest.last; is = ap (λ l. payload ∷ l) rest.is; front_fit = (fit.0, rest.front_fit); last_fits = rest.last_fits }

payloads_framed : (place : ℕ) (payloads : List (List ℕ)) → payloads_of (frames_from place payloads) ≡ payloads
payloads_framed place [] = refl
payloads_framed place (payload ∷ payloads) = ap (λ l. payload ∷ l) (payloads_framed (place + 1 + LENGTH_BYTES + length payload) payloads)

-- a log of these payloads behind a header
module _ (header : List ℕ) (version : ℕ) (right : (rest : List ℕ) → header_fault (header ++ rest) ≡ None) (says : (rest : List ℕ) → version_of_header (header ++ rest) ≡ version)
    (cut : (rest : List ℕ) → drop FIRST_GATE (header ++ rest) ≡ rest) (sized : length header ≡ FIRST_GATE) where
  framed : (payloads : List (List ℕ)) (entries : List Entry) → Unjoined payloads → IsHistory version [] payloads entries → HasEntries entries
  framed payloads entries u holds =
      let text = chain_text u.front u.last in
      let log : List ℕ = header ++ OPEN_GATE ∷ text in
      let leads = chain_leads FIRST_GATE u.front u.last (all_fit u.front u.front_fit) u.last_fits in
      let some = leads.some in
      let long : BLANK_LENGTH < length log = omega (arith, some, length-append header (OPEN_GATE ∷ text), sized) in
      let frames = frames_from FIRST_GATE (u.front ++ u.last ∷ []) in
      let walked = ap (walk FIRST_GATE 0) (cut (OPEN_GATE ∷ text)) ∙ leads.walked OPEN_GATE refl in
      let found : frames_of log ≡ Ok frames =
      frames_walked log (behind frames (closed_at (FIRST_GATE + length text))) long (right (OPEN_GATE ∷ text)) walked refl ∙ ap Ok (append-nil frames) in
      let named : version_of log ≡ version = version_long log long ∙ says (OPEN_GATE ∷ text) in
      let same : payloads ≡ payloads_of frames = u.is ∙ sym (payloads_framed FIRST_GATE (u.front ++ u.last ∷ [])) in
      record {
        log = log;
        frames = frames;
        found = found;
        holds = subst (λ v. IsHistory v [] (payloads_of frames) entries) (sym named) (subst (λ ps. IsHistory version [] ps entries) same holds);
      }

right_1 : (rest : List ℕ) → header_fault (HEADER_1 ++ rest) ≡ None
unfolding first_differing
right_1 rest = refl

right_2 : (rest : List ℕ) → header_fault (HEADER_2 ++ rest) ≡ None
unfolding first_differing
right_2 rest = refl

says_1 : (rest : List ℕ) → version_of_header (HEADER_1 ++ rest) ≡ 1
unfolding version_of_header
says_1 rest = refl

says_2 : (rest : List ℕ) → version_of_header (HEADER_2 ++ rest) ≡ 2
unfolding version_of_header
says_2 rest = refl

-- a blank log has none
nothing : HasEntries []
nothing = record {
  log = [];
  frames = [];
  found = frames_blank [] (omega arith);
  holds = subst (λ v. IsHistory v [] [] []) refl (NoMore []);
}

framed_as : (version : ℕ) {before all : List Entry} {payloads : List (List ℕ)} → before ≡ [] → AreFit payloads → IsHistory version before payloads all → HasEntries all
framed_as version none fit (NoMore entries) = subst HasEntries (sym none) nothing
framed_as version none fit (OneMore before es all payload payloads (Newer two held) others) =
    framed HEADER_2 version right_2 (λ rest. says_2 rest ∙ sym two) (λ rest. refl) refl (payload ∷ payloads) all (unjoined payload payloads fit)
    (subst (λ b. IsHistory version b (payload ∷ payloads) all) none (OneMore before es all payload payloads (Newer two held) others))
framed_as version none fit (OneMore before es all payload payloads (Older one held) others) =
    framed HEADER_1 version right_1 (λ rest. says_1 rest ∙ sym one) (λ rest. refl) refl (payload ∷ payloads) all (unjoined payload payloads fit)
    (subst (λ b. IsHistory version b (payload ∷ payloads) all) none (OneMore before es all payload payloads (Older one held) others))

pub sound_framed : (log : List ℕ) (s : SoundPart) → IsSoundOf log s → HasEntries s.entries
sound_framed log s (Blank short is) = subst HasEntries (sym (ap (λ x. x.entries) is)) nothing
sound_framed log s (Long version more long read from is) =
    let all = hold_all version log from in
    subst HasEntries (sym (ap (λ x. x.entries) is)) (framed_as version refl all.fit all.holds)
