-- An authority's commit as the code goes: what holds behind each stage, and what it has cost.
use Rattle.std.proofs.Common.{◌≡◌, ◌∙◌, sym, ap, refl, subst, ℕ, ◌+◌, ◌≤◌, arith, true, List, [], ◌++◌, Option}
use Rattle.std.specs.Prelude.{IsSome, find}
use Rattle.std.specs.Borrow.{Bor}
use Rattle.std.specs.Option.{option_map_or}
use Rattle.marc_types.specs.Order.{same_key}
use Rattle.marc_types.specs.declared.entry.Entry.{Entry}
use Rattle.marc_types.specs.declared.form.Form.{Form}
use Rattle.marc_types.specs.declared.key.Class.{Class}
use Rattle.marc_types.specs.declared.key.Class.TheVariants.{Authority}
use Rattle.marc_types.specs.declared.key.Key.{Key}
use Rattle.entry_record.specs.Authority.{Linkable, is_valid_key}
use Rattle.numbering.specs.Numbers.{IsNumberOf, is_known}
use Rattle.numbering.specs.declared.seat.Seat.{Seat}
use Rattle.catalogue_rules.specs.Choice.{has_key}
use Rattle.catalogue_rules.specs.Receipt.{kept_under}
use Rattle.catalogue_rules.specs.Settle.{Arrival, arrival_of, step}
use Rattle.catalogue_rules.specs.State.{State, linkable_authorities}
use Rattle.catalogue_tables.specs.Following.{authority_brought}
use Rattle.catalogue_tables.specs.Known.{IsKnownAs}
use Rattle.catalogue_tables.specs.Lent.{shown_forms}
use Rattle.catalogue_tables.specs.Seam.{AreDistinct, keys_in}
use Rattle.catalogue_tables.specs.declared.known.KnownAuthority.{KnownAuthority}
use Rattle.linking_laws.specs.Changes.{state_carried, state_dropped, state_own_settled}
use Rattle.linking_laws.specs.Commits.{CanBeCommitted, authorities_behind, dropping_of, forms_of_commit, placed_by}
use Rattle.linking_laws.specs.Middle.{CanDrop, IsMiddleWith}
use Rattle.linking_laws.specs.Receipts.{receipt_by}
use Rattle.linking_laws.specs.Stages.{carry_by, choose_field, dropping_by}
use Rattle.linking_laws.specs.Visits.{carry_visits, choose_visits, touched}
use Rattle.linking_laws.specs.Waiting.{AreSameForms, forms_of, is_form_among}
use Rattle.linking_laws.specs.Weights.{sum_fields}
use Rattle.linked_store.specs.Linked.{IsAhead, IsNumber, Linked, key_of}
use Rattle.numbered_store.proofs.Shelving.{low_number}
use Rattle.commit_stages.specs.Noted.{AreRecordsOf, NotesChanges}
use Rattle.commit_stages.specs.Turns.{IsCarriedOut}
use Rattle.commit_stages.proofs.Turning.{ahead_then}
use Rattle.commit_stages.specs.OwnFields.{IsOwnSettled, own_visits_of}
use Rattle.commit_stages.specs.declared.counts.HeadingCounts.{HeadingCounts}
use Rattle.commit_stages.specs.Receipts.{AreReceiptCounts}
use Rattle.commit_stages.specs.Stages.{AreCountsBrought, IsBrought, drop_of, drop_visits_of, dropping_to, forms_of_brought}
use Rattle.commit_stages.specs.declared.brought.Ending.{Ending}
use Rattle.commit_stages.proofs.ChangedRecords.{IsNoted, changed_count}
use Rattle.commit_stages.proofs.Numbers.{key_numbered_so, own_numbers}
use Rattle.commit_stages.proofs.Parts.{key_valid}
use Rattle.commit_stages.proofs.Staging.{brought_now, can_drop_now, carried_is, carried_on, carry_cost, carry_noted, carry_within, choose_cost, choose_within, chosen_is, chosen_noted, chosen_on, costs, drop_cost, drop_noted, drop_within, dropped_is, dropped_on, ending_right, key_ahead, number_ahead, own_cost, own_there, own_within, placed_is, same_forms, settled_is, settled_on}

module _ (x0 : Linked) (e : Entry) (c : CanBeCommitted Authority x0.state e) (number : ℕ) (numbered : IsNumberOf same_key (keys_in Authority x0.keys) e.key number) where
  abbrev s : State
  s = x0.state

  abbrev a : Arrival
  a = arrival_of e

  abbrev all : List Linkable
  all = authorities_behind s e

  -- ---- the number

  pub low : IsNumber Authority number x0.keys
  low = low_number (keys_in Authority x0.keys) e.key number numbered

  pub number_now : (x : Linked) → IsAhead x0 x → IsNumber Authority number x.keys
  number_now x ahead = number_ahead Authority number x0 x ahead low

  key_first : key_of Authority number x0.keys ≡ e.key
  key_first = key_numbered_so (keys_in Authority x0.keys) e.key number numbered

  pub key_now : (x : Linked) → IsAhead x0 x → key_of Authority number x.keys ≡ e.key
  key_now x ahead = key_ahead Authority number x0 x ahead low ∙ key_first

  pub number_of_class : (x : Linked) → IsAhead x0 x → IsNumber e.class number x.keys
  number_of_class x ahead = subst (λ (k : Class). IsNumber k number x.keys) (sym c.class_is) (number_now x ahead)

  pub key_of_class : (x : Linked) → IsAhead x0 x → key_of e.class number x.keys ≡ e.key
  key_of_class x ahead = ap (λ (k : Class). key_of k number x.keys) c.class_is ∙ key_now x ahead

  pub valid_now : (x : Linked) → IsAhead x0 x → is_valid_key (key_of Authority number x.keys) ≡ true
  valid_now x ahead = ap is_valid_key (key_now x ahead) ∙ key_valid e c.admitted

  -- ---- what was known

  known_as : (known : Option KnownAuthority) → IsKnownAs (find (has_key (key_of Authority number x0.keys)) (linkable_authorities s)) known
      → IsKnownAs (find (has_key e.key) (linkable_authorities s)) known
  known_as known is = subst (λ (k : Key). IsKnownAs (find (has_key k) (linkable_authorities s)) known) key_first is

  pub right : (known : Option KnownAuthority) (ending : Ending) → IsKnownAs (find (has_key (key_of Authority number x0.keys)) (linkable_authorities s)) known
      → ((before : Option Linkable) → IsKnownAs before known → dropping_to ending ≡ dropping_by before (authority_brought a)) → dropping_to ending ≡ dropping_of s e
  right known ending is ends = ending_right s e c ending (ends (find (has_key e.key) (linkable_authorities s)) (known_as known is))

  forms_right : (known : Option KnownAuthority) (old new : List Form) → IsKnownAs (find (has_key (key_of Authority number x0.keys)) (linkable_authorities s)) known
      → ((before : Option Linkable) → IsKnownAs before known → (form : Form) → is_form_among old form ≡ is_form_among (option_map_or forms_of before []) form) → new ≡ forms_of_brought a
      → AreSameForms (old ++ new) (forms_of_commit s e)
  forms_right known old new is found brought = same_forms s e c old new (found (find (has_key e.key) (linkable_authorities s)) (known_as known is)) brought

  -- the same of a list that lends them
  pub forms_lent : (known : Option KnownAuthority) (old : List Form) (lent : List (Bor Form)) → IsKnownAs (find (has_key (key_of Authority number x0.keys)) (linkable_authorities s)) known
      → ((before : Option Linkable) → IsKnownAs before known → (form : Form) → is_form_among old form ≡ is_form_among (option_map_or forms_of before []) form)
      → shown_forms lent ≡ old ++ forms_of_brought a → AreSameForms (shown_forms lent) (forms_of_commit s e)
  forms_lent known old lent is found lends =
      subst (λ (l : List Form). AreSameForms l (forms_of_commit s e)) (sym lends) (forms_right known old (forms_of_brought a) is found refl)

  -- ---- behind each stage

  pub record IsPlaced (x : Linked) : Type 0 where
    pub ahead : IsAhead x0 x
    pub state : x.state ≡ placed_by Authority s e

  pub record IsDropped (x : Linked) : Type 0 where
    pub ahead : IsAhead x0 x
    pub state : x.state ≡ state_dropped s e
    pub middle : IsMiddleWith all x.state

  pub record IsCarried (x : Linked) : Type 0 where
    pub ahead : IsAhead x0 x
    pub state : x.state ≡ state_carried s e
    pub middle : IsMiddleWith all x.state

  pub record IsSettled (x : Linked) : Type 0 where
    pub ahead : IsAhead x0 x
    pub state : x.state ≡ state_own_settled s e
    pub middle : IsMiddleWith all x.state

  pub placed_so : (x : Linked) → IsAhead x0 x → x.state ≡ placed_by e.class s e → IsPlaced x
  placed_so x ahead is = record { ahead = ahead; state = placed_is s e c x is }

  pub dropped_so : (x y : Linked) (ending : Ending) → IsPlaced x → dropping_to ending ≡ dropping_of s e
      → IsCarriedOut (linkable_authorities x.state) (drop_of ending e (linkable_authorities x.state)) x y → IsDropped y
  dropped_so x y ending at right out =
      let on = dropped_on s e c ending right x at.state y out in
      record { ahead = ahead_then x0 x y at.ahead on.ahead; state = dropped_is s e c x y at.state on; middle = on.middle }

  pub carried_so : (x y : Linked) → IsDropped x → IsCarriedOut (linkable_authorities x.state) (carry_by e.key (authority_brought a)) x y → IsCarried y
  carried_so x y at out =
      let on = carried_on s e c x at.state y at.middle out in
      record { ahead = ahead_then x0 x y at.ahead on.ahead; state = carried_is s e c x y at.state on; middle = on.middle }

  pub settled_so : (x y : Linked) → IsCarried x → IsOwnSettled (linkable_authorities x.state) e.class e.key x y → IsSettled y
  settled_so x y at out =
      let on = settled_on s e c x at.state at.middle y out in
      record { ahead = ahead_then x0 x y at.ahead on.ahead; state = settled_is s e c x y at.state on; middle = on.middle }

  pub chosen_so : (forms : List Form) (x y : Linked) → IsSettled x → AreSameForms forms (forms_of_commit s e)
      → IsCarriedOut (linkable_authorities x.state) (choose_field (linkable_authorities x.state) forms (key_of Authority number x.keys)) x y → y.state ≡ step s a
  chosen_so forms x y at same out = chosen_is s e c x y at.state (chosen_on s e c forms number x at.state at.middle (key_now x at.ahead) same y out)

  -- ---- what each stage asks for

  pub may_drop : (x : Linked) (ending : Ending) → IsPlaced x → dropping_to ending ≡ dropping_of s e → CanDrop (dropping_to ending) e.key x.state
  may_drop x ending at right = can_drop_now s e c ending right x at.state

  pub own_found : (x : Linked) → IsDropped x → find (has_key e.key) (linkable_authorities x.state) ≡ authority_brought a
  own_found x at = own_there s e c x at.middle

  pub brought_there : (x : Linked) → IsCarried x → IsBrought number e x
  brought_there x at = brought_now s e c number x (key_now x at.ahead) at.state

  -- ---- what has been spent

  pub spent_dropping : (x : Linked) (ending : Ending) (before after : ℕ) → IsPlaced x → dropping_to ending ≡ dropping_of s e
      → after ≤ before + sum_fields (drop_visits_of ending e (linkable_authorities x.state)) x.state → after ≤ before + drop_cost s e
  spent_dropping x ending before after at right spent = drop_within s e c ending right x at.state before after spent

  pub spent_carrying : (x : Linked) (before after : ℕ) → IsDropped x → after ≤ before + sum_fields (carry_visits e.key (authority_brought a)) x.state → after ≤ before + carry_cost s e
  spent_carrying x before after at spent = carry_within s e c x at.state before after spent

  pub spent_settling : (x : Linked) (before after : ℕ) → IsCarried x → after ≤ before + own_visits_of (linkable_authorities x.state) e.class e.key x.state → after ≤ before + own_cost s e
  spent_settling x before after at spent = own_within s e c x at.state at.middle before after spent

  pub spent_choosing : (forms : List Form) (x : Linked) (before after : ℕ) → IsSettled x → AreSameForms forms (forms_of_commit s e)
      → after ≤ before + sum_fields (choose_visits (linkable_authorities x.state) forms (key_of Authority number x.keys)) x.state → after ≤ before + choose_cost s e
  spent_choosing forms x before after at same spent = choose_within s e c forms number x at.state at.middle (key_now x at.ahead) same before after spent

  -- after each stage what was spent is within what the commit touches
  pub within_one : (before one : ℕ) → one ≤ before + drop_cost s e → one ≤ before + touched s e
  within_one before one first = let most = costs s e c in omega (arith, most, first)

  pub within_two : (before one two : ℕ) → one ≤ before + drop_cost s e → two ≤ one + carry_cost s e → two ≤ before + touched s e
  within_two before one two first second = let most = costs s e c in omega (arith, most, first, second)

  pub within_three : (before one two three : ℕ) → one ≤ before + drop_cost s e → two ≤ one + carry_cost s e → three ≤ two + own_cost s e → three ≤ before + touched s e
  within_three before one two three first second third = let most = costs s e c in omega (arith, most, first, second, third)

  pub within_four : (before one two three four : ℕ) → one ≤ before + drop_cost s e → two ≤ one + carry_cost s e → three ≤ two + own_cost s e → four ≤ three + choose_cost s e
      → four ≤ before + touched s e
  within_four before one two three four first second third fourth = let most = costs s e c in omega (arith, most, first, second, third, fourth)

  -- ---- the receipt

  pub numbers_so : (x1 x2 x3 x4 x5 : Linked) (n1 n2 n3 : List Seat) (forms : List Form) (ending : Ending) (counts : HeadingCounts) (count : ℕ)
      → IsPlaced x1 → IsDropped x2 → IsCarried x3 → IsSettled x4 → IsAhead x1 x2 → IsAhead x2 x3 → IsAhead x3 x4 → IsAhead x4 x5
      → dropping_to ending ≡ dropping_of s e → AreSameForms forms (forms_of_commit s e)
      → NotesChanges (drop_of ending e (linkable_authorities x1.state)) x1 [] n1
      → NotesChanges (carry_by e.key (authority_brought a)) x2 n1 n2
      → NotesChanges (choose_field (linkable_authorities x4.state) forms (key_of Authority number x4.keys)) x4 n2 n3
      → AreRecordsOf n3 Authority number count → AreDistinct x5.keys
      → ((class : Class) (key : Key) → IsSome (kept_under class key s) → is_known same_key (keys_in class x0.keys) key ≡ true)
      → AreCountsBrought (linkable_authorities x3.state) e counts → (at : ℕ)
      → AreReceiptCounts (receipt_by at s e) (record { linked = counts.linked; ambiguous = counts.ambiguous; unlinked = counts.unlinked; changed_records = count })
  numbers_so x1 x2 x3 x4 x5 n1 n2 n3 forms ending counts count at1 at2 at3 at4 one two three four right same by_drop by_carry by_choice records distinct numbers are at =
      let from_zero : IsAhead x0 x5 = ahead_then x0 x4 x5 at4.ahead four in
      let noted : IsNoted s e x0 x1 x2 x4 x5 n1 n2 n3 = record {
        start = refl;
        placed = at1.state;
        dropped = at2.state;
        settled = at4.state;
        first = at1.ahead;
        second = one;
        third = ahead_then x2 x3 x4 two three;
        last = four;
        by_drop = drop_noted s e c ending right x1 at1.state [] n1 by_drop;
        by_carry = carry_noted s e c x2 at2.state n1 n2 by_carry;
        by_choice = chosen_noted s e c forms number x4 at4.state at4.middle (key_now x4 at4.ahead) same n2 n3 by_choice;
      } in
      let changed = changed_count s e x0 x1 x2 x4 x5 n1 n2 n3 noted c number count distinct (key_now x5 from_zero) (number_now x5 from_zero) numbers records at in
      own_numbers s e Authority c counts count
      (subst (λ (l : List Linkable). AreCountsBrought l e counts) (at3.middle.authorities_are ∙ ap (λ (k : Class). linkable_authorities (placed_by k s e)) (sym c.class_is)) are) at (sym changed)
