-- The reading from gate to gate.
use Rattle.std.proofs.Common.{◌≡◌, ◌∙◌, ℕ, ◌<◌, ◌≤◌, List, [], ◌++◌, length, Option, Bool, true, ◌==◌, refl, sym, ap, subst, arith, append_assoc}
use Rattle.std.proofs.lemmas.List.{append-nil}
use Rattle.marc_types.specs.declared.entry.Entry.{Entry}
use Rattle.commit_journal.specs.declared.format.TheConstants.{BLANK_LENGTH, FIRST_GATE}
use Rattle.commit_journal.specs.Log.{header_fault, version_of_header}
use Rattle.entry_history.specs.declared.extent.Extent.{Extent}
use Rattle.sound_frames.specs.declared.damage.Damage.{Damage}
use Rattle.sound_frames.specs.declared.looking.Ahead.{Ahead}
use Rattle.sound_frames.specs.declared.stepping.Ending.{Ending}
use Rattle.sound_frames.specs.declared.stepping.Ending.TheVariants as ending
use Rattle.sound_frames.specs.Sound.{is_closed_gate, next_gate, closed_damage, gate_damage, IsSound, MayPass, Ends, Closed, Unframed, Invalid, SoundPart, behind, IsSoundFrom, End, Pass, IsReadAs, wrong_header, header_damage, has_closed_gate, wrong_blank, blank_damage, IsSoundOf, Blank, Long}
use Rattle.sound_frames.specs.Looking.{Sees, EndsBy, ending_damage, HasPassed, HasReadOn}

-- the damage of an end, by why it is one
ends_of : (version : ℕ) (log : List ℕ) (place : ℕ) (before : List Entry) (why : Ending) (last : List Damage) → EndsBy version log place before why
    → last ≡ ending_damage place why (length log) → Ends version log place before last
ends_of version log place before ending.Closed last ends is = Closed ends.0 ends.1 is
ends_of version log place before ending.NoFrame last ends is = Unframed ends.0 ends.1 is
ends_of version log place before ending.NotValid last ends is = Invalid ends.0 ends.1 ends.2 is

-- reading has come to the gate at that place, behind these entries and damages: what is sound from there on is sound behind them
pub record LeadsTo (version : ℕ) (log : List ℕ) (damages : List Damage) (place : ℕ) (entries : List Entry) (damages_now : List Damage) : Type 0 where
  pub so_far : List Damage
  pub now_is : damages_now ≡ damages ++ so_far
  pub goes_on : (more : SoundPart) → IsSoundFrom version log place entries more → IsSoundFrom version log FIRST_GATE [] (behind entries so_far more)

pub begun : (version : ℕ) (log : List ℕ) (damages : List Damage) → LeadsTo version log damages FIRST_GATE [] damages
begun version log damages = record { so_far = []; now_is = sym (append-nil damages); goes_on = λ more sound. sound }

module _ (version : ℕ) (log : List ℕ) (damages : List Damage) (place : ℕ) (before : List Entry) (damages_now : List Damage) (l : LeadsTo version log damages place before damages_now) where
  -- a gate is passed
  pub passed : (entries now : List Entry) (after : List Damage) (next : ℕ) → IsSound version log place before entries → MayPass version log place (before ++ entries)
      → now ≡ before ++ entries → after ≡ damages_now ++ gate_damage log place → next ≡ next_gate log place → LeadsTo version log damages next now after
  passed entries now after next sound may now_is after_is next_is = record {
    so_far = l.so_far ++ gate_damage log place;
    now_is = after_is ∙ ap (λ d. d ++ gate_damage log place) l.now_is ∙ append_assoc damages l.so_far (gate_damage log place);
    goes_on = λ more from. subst (IsSoundFrom version log FIRST_GATE []) (regroup more)
        (l.goes_on (behind entries (gate_damage log place) more) (Pass place before (behind entries (gate_damage log place) more) entries more sound may (moved more from) refl));
  }
    where
      moved : (more : SoundPart) → IsSoundFrom version log next now more → IsSoundFrom version log (next_gate log place) (before ++ entries) more
      moved more from = subst (λ p. IsSoundFrom version log p (before ++ entries) more) next_is (subst (λ es. IsSoundFrom version log next es more) now_is from)

      regroup : (more : SoundPart) → behind before l.so_far (behind entries (gate_damage log place) more) ≡ behind now (l.so_far ++ gate_damage log place) more
      regroup more =
          let first : before ++ (entries ++ more.entries) ≡ now ++ more.entries = sym (append_assoc before entries more.entries) ∙ ap (λ es. es ++ more.entries) (sym now_is) in
          let second : l.so_far ++ (gate_damage log place ++ more.damages) ≡ (l.so_far ++ gate_damage log place) ++ more.damages = sym (append_assoc l.so_far (gate_damage log place) more.damages) in
          λ i. record { entries = first i; damages = second i; end = more.end }

  -- reading ends
  pub ended : (why : Ending) → EndsBy version log place before why → HasReadOn version log damages before damages_now place why
  ended why ends = record {
    more = l.so_far;
    found = λ last last_is.
        subst (λ es. IsSoundFrom version log FIRST_GATE [] (record { entries = es; damages = l.so_far ++ last; end = place })) (append-nil before)
        (l.goes_on (record { entries = []; damages = last; end = place })
        (End place before (record { entries = []; damages = last; end = place }) last (ends_of version log place before why last ends last_is) refl));
    now_is = l.now_is;
  }

-- reading has come to a gate, and this was seen behind it
pub record IsReading (version : ℕ) (log : List ℕ) (damages : List Damage) (place : ℕ) (entries : List Entry) (damages_now : List Damage) (counted : ℕ) (extent : Extent) (ahead : Ahead) : Type 0 where
  pub leads : LeadsTo version log damages place entries damages_now
  pub seen : Sees version log place entries ahead extent
  pub same : counted ≡ version
  pub within : place < length log

pub read_begun : (version : ℕ) (log : List ℕ) (damages : List Damage) (entries : List Entry) (counted : ℕ) (extent : Extent) (ahead : Ahead) → BLANK_LENGTH < length log → entries ≡ []
    → Sees version log FIRST_GATE [] ahead extent → counted ≡ version → IsReading version log damages FIRST_GATE entries damages counted extent ahead
read_begun version log damages entries counted extent ahead long none seen same = record {
  leads = subst (λ es. LeadsTo version log damages FIRST_GATE es damages) (sym none) (begun version log damages);
  seen = subst (λ es. Sees version log FIRST_GATE es ahead extent) (sym none) seen;
  same = same;
  within = omega (arith, long);
}

module _ (version : ℕ) (log : List ℕ) (damages : List Damage) (place : ℕ) (entries : List Entry) (damages_now : List Damage) (counted : ℕ) (extent : Extent) (ahead : Ahead)
    (r : IsReading version log damages place entries damages_now counted extent ahead) where
  pub read_seen : Sees counted log place entries ahead extent
  read_seen = subst (λ v. Sees v log place entries ahead extent) (sym r.same) r.seen

  pub read_passed : (told : ℕ) (now : List Entry) (after : List Damage) (further : Extent) (next : ℕ) (behind : Ahead) (counts : ℕ)
      → HasPassed counted log place told entries damages_now now after further next behind → told ≡ place → counts ≡ counted
      → IsReading version log damages next now after counts further behind
  read_passed told now after further next behind counts p here same =
      let q : HasPassed version log place told entries damages_now now after further next behind =
      subst (λ v. HasPassed v log place told entries damages_now now after further next behind) r.same p in
      record {
        leads = passed version log damages place entries damages_now r.leads q.entries now after next q.sound q.may q.now_is
            (q.gate ∙ ap (λ t. damages_now ++ closed_damage (is_closed_gate log place) t) here) q.next_is;
        seen = q.seen;
        same = same ∙ r.same;
        within = q.within;
      }

  pub read_ended : (now : List Entry) (after : List Damage) (why : Ending) → EndsBy counted log place entries why → now ≡ entries → after ≡ damages_now
      → HasReadOn version log damages now after place why
  read_ended now after why ends now_is after_is =
      let whole = ended version log damages place entries damages_now r.leads why (subst (λ v. EndsBy v log place entries why) r.same ends) in
      subst (λ ds. HasReadOn version log damages now ds place why) (sym after_is)
      (subst (λ es. HasReadOn version log damages es damages_now place why) (sym now_is) whole)

-- all of a log that isn't blank
pub sound_long : (log : List ℕ) (version named : ℕ) (wrong : Option ℕ) (is_named : Bool) (first : List Damage) (entries : List Entry) (noted damages : List Damage) (end : ℕ) (why : Ending)
    → BLANK_LENGTH < length log → IsReadAs log version → wrong ≡ header_fault log → named ≡ version_of_header log → is_named ≡ (named == version)
    → first ≡ wrong_header wrong is_named → HasReadOn version log first entries noted end why → damages ≡ noted ++ ending_damage end why (length log)
    → IsSoundOf log (record { entries = entries; damages = damages; end = end })
sound_long log version named wrong is_named first entries noted damages end why long read wrong_is named_is is_named_is first_is on all_are =
    let header : first ≡ header_damage version log =
    first_is ∙ (λ i. wrong_header (wrong_is i) (is_named_is i)) ∙ ap (λ v. wrong_header (header_fault log) (v == version)) named_is in
    let last = ending_damage end why (length log) in
    let all : damages ≡ header_damage version log ++ (on.more ++ last) =
    all_are ∙ ap (λ d. d ++ last) on.now_is ∙ append_assoc first on.more last ∙ ap (λ d. d ++ (on.more ++ last)) header in
    Long version (record { entries = entries; damages = on.more ++ last; end = end }) long read (on.found last refl)
    (λ i. record { entries = entries; damages = all i; end = end })

pub sound_blank : (log : List ℕ) (wrong : Option ℕ) (closed : Bool) (damages : List Damage) (entries : List Entry) → length log ≤ BLANK_LENGTH → wrong ≡ header_fault log
    → closed ≡ has_closed_gate log → damages ≡ wrong_blank wrong closed → entries ≡ [] → IsSoundOf log (record { entries = entries; damages = damages; end = FIRST_GATE })
sound_blank log wrong closed damages entries short wrong_is closed_is damages_are none =
    let all : damages ≡ blank_damage log = damages_are ∙ (λ i. wrong_blank (wrong_is i) (closed_is i)) in
    Blank short (λ i. record { entries = none i; damages = all i; end = FIRST_GATE })
