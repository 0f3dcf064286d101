-- What is written once the shares of all files are: PREFIX.parts; and what a split comes to before the console is told.
use Rattle.std.proofs.Common.{◌≡◌, ◌∙◌, ◌⊎◌, inl, inr, ℕ, ◌+◌, ◌≤◌, true, List, [], ◌∷◌, length, Option, Some, None, IsSome, string_bytes, Result, Ok, Err, refl, sym, subst, arith}
use Rattle.std.specs.Prelude.{IsSomeAnd}
use Rattle.std.specs.List.{All, Contains}
use Rattle.std.specs.List.Sorted.{IsSorted}
use Rattle.std.proofs.lemmas.List.Elements.{All-tail, All-contains, Contains-append_left, Contains-append_right, Contains-push}
use Rattle.marc_types.specs.Order.{key_cmp}
use Rattle.marc_types.specs.declared.key.Key.{Key}
use Rattle.marc_stream.specs.Pieces.{items}
use Rattle.command_words.specs.declared.library.Library.{Library}
use Rattle.outside.specs.Fault.{Rose, HasCause, count_sum}
use Rattle.outside.specs.Room.{RoomView, SameBut, IsUntouched, IsPut, IsPutOrNot, Untouched, Put}
use Rattle.std.specs.Io.KnownBytes.{Appends}
use Rattle.outside.proofs.Counts.{rose_since}
use Rattle.outside.proofs.Fronts.{appends_told}
use Rattle.outside.proofs.Rooms.{same_but_itself, same_but_then, same_but_more}
use Rattle.split_command.specs.Names.{share_name, parts_name, names_of_files, split_names}
use Rattle.split_command.specs.Shares.{dealt}
use Rattle.split_command.specs.Cut.{FileCut, IsCut, AreCut}
use Rattle.split_command.specs.Console.{parts_text}
use Rattle.split_command.specs.Outputs.{IsPutOrOld}
use Rattle.split_command.specs.Standing.{OneIsThere}
use Rattle.split_command.specs.Groups.{AreFilesWhole, AreFilesLeft, IsFilesCause}
use Rattle.split_command.specs.Bounding.{AreBoundsOf}
use Rattle.split_command.specs.Surveying.{AreSurveyed}
use Rattle.split_command.specs.Splitting.{AreBounds, HasNoRecord, IsSplit, IsSplitInPart, IsSplitLeft, Unbegun, InPart, InFull, IsThere, HasFault}
use Rattle.split_command.specs.Written.{NothingIsThere, IsAllWritten, IsPartWritten, WritesFiles, IsWrittenWhole, WhyStopped, IsStopped}
use Rattle.split_command.specs.declared.plan.Plan.{Plan}
use Rattle.split_command.specs.declared.splitting.Told.{Told}
use Rattle.split_command.specs.declared.survey.Survey.{Survey}
use Rattle.split_command.specs.declared.fault.SplitFault.{SplitFault}
use Rattle.split_command.specs.declared.fault.SplitFault.TheVariants.{Input, Output, Memory}
use Rattle.split_command.proofs.Naming.{parts_apart, parts_none}

-- ---- a text in the file of a name

pub text_whole : (old mid new : RoomView) (name text : List ℕ) (empty now : Option (List ℕ)) → SameBut old mid (name ∷ []) → (old.tells ≡ true → empty ≡ Some [])
    → Appends empty now text → IsPut mid new name now → old.tells ≡ true → new.file name ≡ Some text
text_whole old mid new name text empty now first fresh wrote put tells = put.file (first.tells ∙ tells) ∙ appends_told empty now [] text (fresh tells) wrote

pub text_left : (old mid new : RoomView) (name text : List ℕ) (empty now : Option (List ℕ)) → SameBut old mid (name ∷ []) → IsUntouched old mid name
    → (old.tells ≡ true → empty ≡ Some []) → Appends empty now text → IsPutOrNot mid new name now → old.tells ≡ true → IsPutOrOld old new name (Some text)
text_left old mid new name text empty now first untouched fresh wrote (Untouched same) tells = inr (same.file ∙ untouched.file)
text_left old mid new name text empty now first untouched fresh wrote (Put put) tells = inl (text_whole old mid new name text empty now first fresh wrote put tells)

-- the output was given up, which had a fault
pub given_up_cause : {T E : Type 0} (old mid new before now : ℕ) (fault : E) → old ≤ mid → mid ≤ new → before ≡ 0 → Rose before now → new ≡ count_sum mid now
    → HasCause {T = T} old new (Err fault)
given_up_cause old mid new before now fault first second none rose counted = record {
  later = omega (arith, first, second);
  failed = omega (arith, first, none, rose, counted);
}

-- it was closed
pub closed_cause : {T E : Type 0} (old mid new now : ℕ) (result : Result T E) → old ≤ mid → mid ≤ new → HasCause (count_sum mid now) new result → HasCause old new result
closed_cause old mid new now (Ok value) first second cause = record { later = omega (arith, first, second); failed = tt }
closed_cause old mid new now (Err fault) first second cause =
    let rose = cause.failed in
    record { later = omega (arith, first, second); failed = omega (arith, first, second, rose) }

-- ---- the shares, and then PREFIX.parts

module _ (old mid new : RoomView) (plan : Plan) (libraries : List Library)
    (first : SameBut old mid (names_of_files plan.prefix plan.parts 0 (length libraries))) (second : SameBut mid new (parts_name plan.prefix ∷ [])) where
  share_kept : (share file : ℕ) → new.file (share_name plan.prefix share file) ≡ mid.file (share_name plan.prefix share file)
  share_kept share file = second.files (share_name plan.prefix share file) ((λ same. parts_apart plan.prefix share file (sym same)), tt)

  parts_kept : mid.file (parts_name plan.prefix) ≡ old.file (parts_name plan.prefix)
  parts_kept = first.files (parts_name plan.prefix) (parts_none plan.prefix plan.parts 0 (length libraries))

  free_shares : NothingIsThere old plan.parts plan.prefix (length libraries) → All (λ n. old.file n ≡ None) (names_of_files plan.prefix plan.parts 0 (length libraries))
  free_shares free = All-tail (λ n. old.file n ≡ None) (parts_name plan.prefix) (names_of_files plan.prefix plan.parts 0 (length libraries)) free

  -- all is written
  pub all_written : AreFilesWhole old mid plan libraries → new.file (parts_name plan.prefix) ≡ Some (parts_text plan.parts libraries plan.bounds)
      → (cuts : List FileCut) → old.tells ≡ true → AreCut old libraries cuts → NothingIsThere old plan.parts plan.prefix (length libraries) → IsAllWritten plan libraries new cuts
  all_written whole listed cuts tells are free = record {
    shares = λ file share c got few. share_kept share file ∙ whole cuts tells are (free_shares free) file share c got few;
    listed = listed;
  }

  -- all shares are, and PREFIX.parts is as it was or written
  pub written_or_not : AreFilesWhole old mid plan libraries → IsPutOrOld mid new (parts_name plan.prefix) (Some (parts_text plan.parts libraries plan.bounds))
      → (cuts : List FileCut) → old.tells ≡ true → AreCut old libraries cuts → NothingIsThere old plan.parts plan.prefix (length libraries)
      → IsPartWritten plan libraries old new cuts ⊎ IsAllWritten plan libraries new cuts
  written_or_not whole (inl put) cuts tells are free = inr (all_written whole put cuts tells are free)
  written_or_not whole (inr kept) cuts tells are free = inl (record {
    shares = λ file share c got few. inl (share_kept share file ∙ whole cuts tells are (free_shares free) file share c got few);
    unlisted = kept ∙ parts_kept;
  })

-- the shares were left in part
pub part_written : (old new : RoomView) (plan : Plan) (libraries : List Library) → SameBut old new (names_of_files plan.prefix plan.parts 0 (length libraries))
    → AreFilesLeft old new plan libraries → (cuts : List FileCut) → old.tells ≡ true → AreCut old libraries cuts
    → NothingIsThere old plan.parts plan.prefix (length libraries) → IsPartWritten plan libraries old new cuts
part_written old new plan libraries apart left cuts tells are free = record {
  shares = λ file share c got few.
      left cuts tells are (All-tail (λ n. old.file n ≡ None) (parts_name plan.prefix) (names_of_files plan.prefix plan.parts 0 (length libraries)) free) file share c got few;
  unlisted = apart.files (parts_name plan.prefix) (parts_none plan.prefix plan.parts 0 (length libraries));
}

-- a fault of the shares is one of all names
pub files_cause : (libraries : List Library) (prefix : List ℕ) (parts : ℕ) (old new : RoomView) (why : SplitFault)
    → IsFilesCause libraries (names_of_files prefix parts 0 (length libraries)) old new why → IsFilesCause libraries (split_names prefix parts (length libraries)) old new why
files_cause libraries prefix parts old new Input cause = cause
files_cause libraries prefix parts old new Output cause = record {
  name = cause.name;
  among = Contains-append_right (parts_name prefix ∷ []) (names_of_files prefix parts 0 (length libraries)) cause.name cause.among;
  rose = cause.rose;
}
files_cause libraries prefix parts old new Memory cause = tt

-- and so is one of PREFIX.parts
pub parts_fault : (libraries : List Library) (prefix : List ℕ) (parts : ℕ) (old mid new : RoomView) → SameBut old mid (names_of_files prefix parts 0 (length libraries))
    → Rose (mid.out_faults (parts_name prefix)) (new.out_faults (parts_name prefix))
    → IsFilesCause libraries (split_names prefix parts (length libraries)) old new Output
parts_fault libraries prefix parts old mid new first rose = record {
  name = parts_name prefix;
  among = Contains-append_left (parts_name prefix ∷ []) (names_of_files prefix parts 0 (length libraries)) (parts_name prefix) (Contains-push [] (parts_name prefix));
  rose = rose_since (old.out_faults (parts_name prefix)) (mid.out_faults (parts_name prefix)) (new.out_faults (parts_name prefix)) (first.outs (parts_name prefix)) rose;
}

-- ---- a split that wasn't begun

not_in_none : (name : List ℕ) → Contains [] name → ⊥
not_in_none name among = omega (arith, among.1)

module _ (parts : ℕ) (prefix : List ℕ) (libraries : List Library) where
  -- for want of memory, before the names were looked at
  pub stopped_at_once : (old : RoomView) → IsStopped parts prefix libraries old old Memory
  stopped_at_once old = record {
    cause = tt;
    kept = λ name among tells there. (same_but_itself old [], tt);
    left = λ tells. Unbegun (same_but_itself old []);
  }

  -- a file is there
  pub stopped_at_file : (old : RoomView) → OneIsThere old (split_names prefix parts (length libraries)) → IsStopped parts prefix libraries old old Output
  stopped_at_file old one = record {
    cause = IsThere one.name one.among one.there (same_but_itself old []);
    kept = λ name among tells there. (same_but_itself old [], tt);
    left = λ tells. Unbegun (same_but_itself old []);
  }

  none_at : (old : RoomView) (name : List ℕ) → (old.tells ≡ true → NothingIsThere old parts prefix (length libraries))
      → Contains (split_names prefix parts (length libraries)) name → old.tells ≡ true → IsSome (old.file name) → ⊥
  none_at old name free among tells there = at (old.file name) (All-contains (λ n. old.file n ≡ None) (split_names prefix parts (length libraries)) name (free tells) among) there
    where
      at : (file : Option (List ℕ)) → file ≡ None → IsSome file → ⊥
      at None is there = cc
      at (Some bytes) is there = cc

  -- the first reading stopped
  pub stopped_reading : (old mid : RoomView) (why : SplitFault) → (old.tells ≡ true → NothingIsThere old parts prefix (length libraries)) → SameBut old mid []
      → IsFilesCause libraries [] old mid why → IsStopped parts prefix libraries old mid why
  stopped_reading old mid why free same cause = record {
    cause = because why cause;
    kept = λ name among tells there. absurd (none_at old name free among tells there);
    left = λ tells. Unbegun same;
  }
    where
      because : (w : SplitFault) → IsFilesCause libraries [] old mid w → WhyStopped parts prefix libraries old mid w
      because Input fault = fault
      because Output fault = absurd (not_in_none fault.name fault.among)
      because Memory fault = tt

  -- ---- a split that was begun

  moved : (old mid : RoomView) (ls : List Library) (cuts : List FileCut) → SameBut old mid [] → AreCut old ls cuts → AreCut mid ls cuts
  moved old mid [] [] same are = tt
  moved old mid [] (cut ∷ cuts) same are = are
  moved old mid (l ∷ ls) [] same are = are
  moved old mid (l ∷ ls) (cut ∷ cuts) same are =
      (subst (λ f. IsSomeAnd f (λ bytes. IsCut l.code (items bytes) cut.pieces cut.refused)) (sym (same.files l.file tt)) are.0, moved old mid ls cuts same are.1)

  nothing_still : (old mid : RoomView) (names : List (List ℕ)) → SameBut old mid [] → All (λ n. old.file n ≡ None) names → All (λ n. mid.file n ≡ None) names
  nothing_still old mid names same free = λ k d less. same.files _ tt ∙ free k d less

  bounded : (survey : Survey) (bounds : List Key) (cuts : List FileCut) → IsSorted key_cmp bounds → AreBoundsOf survey.sample.keys.items parts bounds
      → (survey.sample.keys.items ≡ [] → All HasNoRecord cuts) → AreBounds parts cuts bounds
  bounded survey bounds cuts ascend many none = record { ascend = ascend; many = at many }
    where
      at : AreBoundsOf survey.sample.keys.items parts bounds → (length bounds + 1 ≡ parts) ⊎ ((bounds ≡ []) × All HasNoRecord cuts)
      at (inl enough) = inl enough
      at (inr other) = inr (other.1, none other.0)

  module _ (old mid new : RoomView) (survey : Survey) (plan : Plan) (named : plan.prefix ≡ prefix) (counted : plan.parts ≡ parts)
      (free : old.tells ≡ true → NothingIsThere old parts prefix (length libraries)) (same : SameBut old mid [])
      (surveyed : old.tells ≡ true → AreSurveyed old libraries survey)
      (ascend : IsSorted key_cmp plan.bounds) (many : AreBoundsOf survey.sample.keys.items parts plan.bounds) where
    free_mid : old.tells ≡ true → NothingIsThere mid plan.parts plan.prefix (length libraries)
    free_mid tells = nothing_still old mid (split_names plan.prefix plan.parts (length libraries)) same
        (subst (λ p. NothingIsThere old p plan.prefix (length libraries)) (sym counted)
        (subst (λ p. NothingIsThere old parts p (length libraries)) (sym named) (free tells)))

    is_split : (tells : old.tells ≡ true) → IsAllWritten plan libraries new (surveyed tells).cuts
        → IsSplit parts prefix libraries old new plan.bounds (surveyed tells).cuts
    is_split tells all =
        let s = surveyed tells in record {
          bounded = bounded survey plan.bounds s.cuts ascend many s.none;
          cut = s.cut;
          shares = λ file share c got few.
              subst (λ p. new.file (share_name p share file) ≡ Some (dealt plan.bounds share c.pieces)) named
              (all.shares file share c got (subst (λ n. share ≤ n) (sym counted) few));
          listed = subst (λ p. new.file (parts_name p) ≡ Some (parts_text parts libraries plan.bounds)) named
              (subst (λ n. new.file (parts_name plan.prefix) ≡ Some (parts_text n libraries plan.bounds)) counted all.listed);
        }

    is_part : (tells : old.tells ≡ true) → IsPartWritten plan libraries mid new (surveyed tells).cuts
        → IsSplitInPart parts prefix libraries old new plan.bounds (surveyed tells).cuts
    is_part tells part =
        let s = surveyed tells in record {
          bounded = bounded survey plan.bounds s.cuts ascend many s.none;
          cut = s.cut;
          shares = λ file share c got few.
              subst (λ p. IsPutOrOld old new (share_name p share file) (Some (dealt plan.bounds share c.pieces))) named
              (since (share_name plan.prefix share file) (part.shares file share c got (subst (λ n. share ≤ n) (sym counted) few)));
          unlisted = subst (λ p. new.file (parts_name p) ≡ old.file (parts_name p)) named (part.unlisted ∙ same.files (parts_name plan.prefix) tt);
        }
      where
        since : {bytes : Option (List ℕ)} (name : List ℕ) → IsPutOrOld mid new name bytes → IsPutOrOld old new name bytes
        since name (inl put) = inl put
        since name (inr kept) = inr (kept ∙ same.files name tt)

    -- all was written
    pub brought_whole : (told : Told) → string_bytes told.text ≡ string_bytes survey.text → told.has_refused ≡ survey.has_refused
        → ((cuts : List FileCut) → mid.tells ≡ true → AreCut mid libraries cuts → NothingIsThere mid plan.parts plan.prefix (length libraries) → IsAllWritten plan libraries new cuts)
        → old.tells ≡ true → IsWrittenWhole parts prefix libraries old new told
    brought_whole told text has whole tells =
        let s = surveyed tells in record {
          bounds = plan.bounds;
          cuts = s.cuts;
          is = is_split tells (whole s.cuts (same.tells ∙ tells) (moved old mid libraries s.cuts same s.cut) (free_mid tells));
          text = text ∙ s.text;
          has = has ∙ s.has;
          free = free tells;
        }

    -- it stopped
    pub brought_part : (why : SplitFault) → IsFilesCause libraries (split_names plan.prefix plan.parts (length libraries)) mid new why
        → ((cuts : List FileCut) → mid.tells ≡ true → AreCut mid libraries cuts → NothingIsThere mid plan.parts plan.prefix (length libraries)
        → IsPartWritten plan libraries mid new cuts ⊎ IsAllWritten plan libraries new cuts)
        → IsStopped parts prefix libraries old new why
    brought_part why cause left = record {
      cause = because why cause;
      kept = λ name among tells there. absurd (none_at old name free among tells there);
      left = λ tells.
          let s = surveyed tells in
          either tells (left s.cuts (same.tells ∙ tells) (moved old mid libraries s.cuts same s.cut) (free_mid tells));
    }
      where
        because : (w : SplitFault) → IsFilesCause libraries (split_names plan.prefix plan.parts (length libraries)) mid new w → WhyStopped parts prefix libraries old new w
        because Input fault = record {
          index = fault.index;
          library = fault.library;
          named = fault.named;
          rose = rose_since (old.in_faults fault.library.file) (mid.in_faults fault.library.file) (new.in_faults fault.library.file) (same.ins fault.library.file) fault.rose;
        }
        because Output fault = HasFault fault.name
            (subst (λ n. Contains (split_names prefix n (length libraries)) fault.name) counted
            (subst (λ p. Contains (split_names p plan.parts (length libraries)) fault.name) named fault.among))
            (rose_since (old.out_faults fault.name) (mid.out_faults fault.name) (new.out_faults fault.name) (same.outs fault.name) fault.rose)
        because Memory fault = tt

        either : (tells : old.tells ≡ true) → IsPartWritten plan libraries mid new (surveyed tells).cuts ⊎ IsAllWritten plan libraries new (surveyed tells).cuts
            → IsSplitLeft parts prefix libraries old new
        either tells (inl part) = InPart plan.bounds (surveyed tells).cuts (is_part tells part)
        either tells (inr all) = InFull plan.bounds (surveyed tells).cuts (is_split tells all)

-- nothing was written yet
pub nothing_written : (old : RoomView) (plan : Plan) (libraries : List Library) → WritesFiles old old plan libraries (Err Memory)
nothing_written old plan libraries = record {
  whole = tt;
  left = λ cuts tells are free. inl (record { shares = λ file share c got few. inr refl; unlisted = refl });
  cause = tt;
}

-- ---- what writing leaves

-- all names of a split, where those of the shares alone were written
pub shares_apart : (old new : RoomView) (prefix : List ℕ) (parts files : ℕ) → SameBut old new (names_of_files prefix parts 0 files) → SameBut old new (split_names prefix parts files)
shares_apart old new prefix parts files same =
    same_but_more old new (names_of_files prefix parts 0 files) (split_names prefix parts files) (λ n none. none.1) same

-- and PREFIX.parts behind them
pub parts_behind : (old mid new : RoomView) (prefix : List ℕ) (parts files : ℕ) → SameBut old mid (names_of_files prefix parts 0 files)
    → SameBut mid new (parts_name prefix ∷ []) → SameBut old new (split_names prefix parts files)
parts_behind old mid new prefix parts files first second =
    same_but_then old mid new (split_names prefix parts files) (shares_apart old mid prefix parts files first)
    (same_but_more mid new (parts_name prefix ∷ []) (split_names prefix parts files) (λ n none. (none.0, tt)) second)

-- the shares could not all be written
pub shares_stopped : (old new : RoomView) (plan : Plan) (libraries : List Library) (why : SplitFault) → SameBut old new (names_of_files plan.prefix plan.parts 0 (length libraries))
    → AreFilesLeft old new plan libraries → IsFilesCause libraries (names_of_files plan.prefix plan.parts 0 (length libraries)) old new why
    → WritesFiles old new plan libraries (Err why)
shares_stopped old new plan libraries why apart left cause = record {
  whole = tt;
  left = λ cuts tells are free. inl (part_written old new plan libraries apart left cuts tells are free);
  cause = files_cause libraries plan.prefix plan.parts old new why cause;
}

-- all was written
pub parts_put : (old mid new : RoomView) (plan : Plan) (libraries : List Library) → SameBut old mid (names_of_files plan.prefix plan.parts 0 (length libraries))
    → SameBut mid new (parts_name plan.prefix ∷ []) → AreFilesWhole old mid plan libraries
    → (mid.tells ≡ true → new.file (parts_name plan.prefix) ≡ Some (parts_text plan.parts libraries plan.bounds)) → WritesFiles old new plan libraries (Ok tt)
parts_put old mid new plan libraries first second whole listed = record {
  whole = λ cuts tells are free. all_written old mid new plan libraries first second whole (listed (first.tells ∙ tells)) cuts tells are free;
  left = λ cuts tells are free. inr (all_written old mid new plan libraries first second whole (listed (first.tells ∙ tells)) cuts tells are free);
  cause = tt;
}

-- PREFIX.parts could not be written
pub parts_stopped : (old mid new : RoomView) (plan : Plan) (libraries : List Library) → SameBut old mid (names_of_files plan.prefix plan.parts 0 (length libraries))
    → SameBut mid new (parts_name plan.prefix ∷ []) → AreFilesWhole old mid plan libraries
    → (mid.tells ≡ true → IsPutOrOld mid new (parts_name plan.prefix) (Some (parts_text plan.parts libraries plan.bounds)))
    → Rose (mid.out_faults (parts_name plan.prefix)) (new.out_faults (parts_name plan.prefix)) → WritesFiles old new plan libraries (Err Output)
parts_stopped old mid new plan libraries first second whole left rose = record {
  whole = tt;
  left = λ cuts tells are free. written_or_not old mid new plan libraries first second whole (left (first.tells ∙ tells)) cuts tells are free;
  cause = parts_fault libraries plan.prefix plan.parts old mid new first rose;
}
