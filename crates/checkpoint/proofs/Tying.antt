-- Which tie bytes begin with, and how many.
use Rattle.std.proofs.Common.{◌≡◌, ◌∙◌, ℕ, ◌+◌, ◌<◌, List, [], ◌∷◌, ◌++◌, length, Option, is_some, refl, sym, ap, subst, arith, length-append}
use Rattle.marc_types.specs.declared.key.Key.{Key}
use Rattle.marc_types.specs.declared.entry.Tie.{Tie}
use Rattle.checkpoint.specs.Format.{flag, tie_flags, tie_bytes, optional_key_bytes}
use Rattle.checkpoint.specs.Parts.{IsProperTie}
use Rattle.checkpoint.specs.Fronts.{BeginWith, BeginWithNone, IsNoFront}
use Rattle.checkpoint.specs.Reading.{IsOptionalKey, ties_bytes, AreProperTies}
use Rattle.checkpoint.specs.declared.ties.Flags.{Flags}
use Rattle.checkpoint.specs.declared.fault.PartFault.{PartFault}
use Rattle.checkpoint.specs.declared.fault.PartFault.TheVariants.{BadPart, NoMemory}
use Rattle.checkpoint.proofs.Once.{cons_first, cons_others, optional_once, flags_once, flags_small, tie_parts, tie_spelled}
use Rattle.checkpoint.proofs.Lists.{AreRead, NoneEnds, none_read, one_more, none_more}

-- what the first byte says
abbrev pub sum_of : Flags → ℕ
sum_of f = flag 1 f.linked + flag 2 f.whole + flag 4 f.awaits

pub no_flags_there : (bytes : List ℕ) → length bytes ≡ 0 → BeginWithNone tie_bytes IsProperTie bytes
no_flags_there bytes none = λ t rest begin. omega (arith, none, ap length (sym (tie_parts t rest) ∙ begin.split))

pub no_such_flags : (bytes behind : List ℕ) (byte : ℕ) → bytes ≡ byte ∷ behind → 7 < byte → BeginWithNone tie_bytes IsProperTie bytes
no_such_flags bytes behind byte is large = λ t rest begin.
    omega (
      arith,
      large,
      cons_first _ _ _ _ (sym (tie_parts t rest) ∙ begin.split ∙ is),
      flags_small (is_some t.key) t.whole (is_some t.awaits),
    )

-- what a tie at the front of bytes says of their parts
record Says (t : Tie) (rest behind : List ℕ) (f : Flags) : Type 0 where
  pub linked : is_some t.key ≡ f.linked
  pub whole : t.whole ≡ f.whole
  pub awaits : is_some t.awaits ≡ f.awaits
  pub behind_is : optional_key_bytes t.key ++ (optional_key_bytes t.awaits ++ rest) ≡ behind

told : (bytes behind rest : List ℕ) (byte : ℕ) (f : Flags) (t : Tie) → bytes ≡ byte ∷ behind → sum_of f ≡ byte → BeginWith tie_bytes IsProperTie bytes t rest
    → Says t rest behind f
told bytes behind rest byte f t is sum begin =
    let same = sym (tie_parts t rest) ∙ begin.split ∙ is in
    let flags = flags_once (is_some t.key) t.whole (is_some t.awaits) f.linked f.whole f.awaits (cons_first _ _ _ _ same ∙ sym sum) in
    record { linked = flags.0; whole = flags.1; awaits = flags.2; behind_is = cons_others _ _ _ _ same }

pub no_linked_key : (bytes behind : List ℕ) (byte : ℕ) (f : Flags) (fault : PartFault) → bytes ≡ byte ∷ behind → sum_of f ≡ byte
    → IsNoFront optional_key_bytes (IsOptionalKey f.linked) behind fault → IsNoFront tie_bytes IsProperTie bytes fault
no_linked_key bytes behind byte f BadPart is sum none = λ t rest begin.
    let s = told bytes behind rest byte f t is sum begin in
    none t.key (optional_key_bytes t.awaits ++ rest) (record { split = s.behind_is; can = record { there_is = s.linked; proper = begin.can.linked } })
no_linked_key bytes behind byte f NoMemory is sum none = tt

pub no_awaited_key : (bytes behind behind_key : List ℕ) (byte : ℕ) (f : Flags) (key : Option Key) (fault : PartFault) → bytes ≡ byte ∷ behind → sum_of f ≡ byte
    → BeginWith optional_key_bytes (IsOptionalKey f.linked) behind key behind_key
    → IsNoFront optional_key_bytes (IsOptionalKey f.awaits) behind_key fault → IsNoFront tie_bytes IsProperTie bytes fault
no_awaited_key bytes behind behind_key byte f key BadPart is sum first none = λ t rest begin.
    let s = told bytes behind rest byte f t is sum begin in
    let keys = optional_once t.key key (optional_key_bytes t.awaits ++ rest) behind_key (s.linked ∙ sym first.can.there_is) (s.behind_is ∙ sym first.split) in
    none t.awaits rest (record { split = keys.1; can = record { there_is = s.awaits; proper = begin.can.awaited } })
no_awaited_key bytes behind behind_key byte f key NoMemory is sum first none = tt

pub tie_begins : (bytes behind behind_key rest : List ℕ) (byte : ℕ) (f : Flags) (t : Tie) → bytes ≡ byte ∷ behind → sum_of f ≡ byte
    → BeginWith optional_key_bytes (IsOptionalKey f.linked) behind t.key behind_key
    → BeginWith optional_key_bytes (IsOptionalKey f.awaits) behind_key t.awaits rest → t.whole ≡ f.whole → BeginWith tie_bytes IsProperTie bytes t rest
tie_begins bytes behind behind_key rest byte f t is sum first second whole = record {
  split =
      tie_parts t rest
      ∙ ap (λ xs. tie_flags t ∷ (optional_key_bytes t.key ++ xs)) second.split
      ∙ ap (λ xs. tie_flags t ∷ xs) first.split
      ∙ ap (λ n. n ∷ behind) (flags_are ∙ sum)
      ∙ sym is;
  can = record { linked = first.can.proper; awaited = second.can.proper };
} where
  flags_are : tie_flags t ≡ sum_of f
  flags_are = ap (λ b. flag 1 b + flag 2 t.whole + flag 4 (is_some t.awaits)) first.can.there_is
      ∙ ap (λ b. flag 1 f.linked + flag 2 b + flag 4 (is_some t.awaits)) whole
      ∙ ap (λ b. flag 1 f.linked + flag 2 f.whole + flag 4 b) second.can.there_is

-- so many ties at the front of bytes
abbrev pub SoughtTies : ℕ → List ℕ → List Tie → List ℕ → Type 0
SoughtTies count bytes all behind = BeginWith ties_bytes (AreProperTies count) bytes all behind

-- so many are read, and what is left
pub record AreTiesSoFar (count : ℕ) (bytes : List ℕ) (done : ℕ) (ties : List Tie) (rest : List ℕ) : Type 0 where
  pub done_is : length ties ≡ done
  pub read : AreRead tie_bytes IsProperTie (SoughtTies count bytes) bytes ties rest

pub no_ties_yet : (count : ℕ) (bytes : List ℕ) (ties : List Tie) → ties ≡ [] → AreTiesSoFar count bytes 0 ties bytes
no_ties_yet count bytes ties none = subst (λ ts. AreTiesSoFar count bytes 0 ts bytes) (sym none) (record {
  done_is = refl;
  read = none_read tie_bytes IsProperTie (SoughtTies count bytes) bytes (λ all behind h. (h.can.proper, h.split));
})

go_on : (count : ℕ) (bytes : List ℕ) (done : ℕ) (ties : List Tie) (rest : List ℕ) → length ties ≡ done → done < count → NoneEnds (SoughtTies count bytes) ties rest
go_on count bytes done ties rest is more = λ all behind h same ends. omega (arith, is, more, ap length same, h.can.count_is)

pub one_more_tie : (count : ℕ) (bytes : List ℕ) (done : ℕ) (ties : List Tie) (t : Tie) (rest next : List ℕ) → AreTiesSoFar count bytes done ties rest → done < count
    → BeginWith tie_bytes IsProperTie rest t next → AreTiesSoFar count bytes (done + 1) (ties ++ t ∷ []) next
one_more_tie count bytes done ties t rest next so_far more begin = record {
  done_is = omega (arith, so_far.done_is, length-append ties (t ∷ []));
  read = one_more tie_bytes IsProperTie (SoughtTies count bytes) bytes ties t rest next tie_spelled so_far.read begin
      (go_on count bytes done ties rest so_far.done_is more);
}

pub no_more_ties : (count : ℕ) (bytes : List ℕ) (done : ℕ) (ties : List Tie) (rest : List ℕ) (fault : PartFault) → AreTiesSoFar count bytes done ties rest → done < count
    → IsNoFront tie_bytes IsProperTie rest fault → IsNoFront ties_bytes (AreProperTies count) bytes fault
no_more_ties count bytes done ties rest BadPart so_far more none =
    none_more tie_bytes IsProperTie (SoughtTies count bytes) bytes ties rest so_far.read none (go_on count bytes done ties rest so_far.done_is more)
no_more_ties count bytes done ties rest NoMemory so_far more none = tt

pub all_ties : (count : ℕ) (bytes : List ℕ) (done : ℕ) (ties : List Tie) (rest : List ℕ) → AreTiesSoFar count bytes done ties rest → done ≡ count
    → BeginWith ties_bytes (AreProperTies count) bytes ties rest
all_ties count bytes done ties rest so_far end = record {
  split = so_far.read.split;
  can = record { count_is = so_far.done_is ∙ end; proper = so_far.read.can };
}
