-- The tables agree with the records once a field and its rows are exchanged, and while keys and forms get numbers.
use Rattle.std.proofs.Common.{◌≡◌, ◌∙◌, sym, ap, refl, subst, ℕ, ◌<◌, Bool, true, false, cond, List, length, Option, Some, None, if◌then◌else◌, inl}
use Rattle.std.specs.Prelude.{◌||◌, nat_eq, slice_get}
use Rattle.std.specs.Option.{option_map}
use Rattle.std.proofs.lemmas.Option.{slice_get-get_or}
use Rattle.marc_types.specs.declared.form.Form.{Form}
use Rattle.marc_types.specs.declared.key.Class.{Class}
use Rattle.marc_types.specs.declared.key.Class.TheVariants.{Authority, Bibliographic}
use Rattle.marc_types.specs.declared.key.Key.{Key}
use Rattle.marc_types.specs.declared.key.Place.{Place}
use Rattle.marc_types.specs.Order.{same_form, same_key}
use Rattle.numbering.specs.Numbers.{Keeps}
use Rattle.numbering.specs.Seats.{same_seat}
use Rattle.numbering.specs.declared.seat.Seat.{Seat}
use Rattle.numbering.proofs.Numberlaws.{keeps_itself}
use Rattle.entry_record.specs.Authority.{Linkable}
use Rattle.catalogue_rules.specs.State.{KeptField, State, linkable_authorities, rows_of}
use Rattle.catalogue_rules.specs.Store.{field_under, with_rows}
use Rattle.numbered_store.specs.Numbered.{Numbered, keys_in as keys_by, with_field_of}
use Rattle.numbered_store.specs.Rows.{with_row_field}
use Rattle.link_table.specs.Links.{is_linked, leads_to}
use Rattle.wait_table.specs.Waits.{Waits, asks, asks_form, forms_of, has, names, names_key}
use Rattle.wait_table.specs.declared.waiting.Asked.{Asked}
use Rattle.wait_table.specs.declared.waiting.Asked.TheVariants.{One, Two}
use Rattle.wait_table.specs.declared.waiting.Waiting.{Waiting}
use Rattle.linking_laws.specs.Partway.{AreOrdered, IsSteady, same_place, swapped}
use Rattle.linking_laws.specs.Tables.{asks_at, holds_at, linked_at}
use Rattle.linking_laws.specs.Visits.{waits_for_key}
use Rattle.linking_laws.proofs.Exchanges.{field_swapped, outlines_swapped}
use Rattle.linking_laws.proofs.Pairs.{Both, linkables_same, place_of, rows_from}
use Rattle.linking_laws.proofs.Partial.{ascend_by, place_is}
use Rattle.linking_laws.proofs.Agreeing.{exchanged}
use Rattle.form_index.specs.Index.{Indexed}
use Rattle.form_index.specs.Order.{key_at, no_key}
use Rattle.catalogue_tables.specs.Following.{TellsAuthorities}
use Rattle.catalogue_tables.specs.declared.tables.CatalogueTables.{CatalogueTables}
use Rattle.catalogue_tables.proofs.Followed.{tells_kept}
use Rattle.linked_store.specs.Transactions.{FormsKeep}
use Rattle.std.specs.List.{IsDistinct}
use Rattle.catalogue_tables.specs.Seam.{AreDistinct, HasKey, IsRenumbered, IsWithin, IsSeatOf, KeyLists, KeysKeep, keys_in, place_at, told}
use Rattle.catalogue_tables.specs.Asked.{first_of}
use Rattle.catalogue_tables.specs.Told.{linked_by}
use Rattle.catalogue_tables.specs.Waiting.{WaitsFit, asking_by, naming_by}
use Rattle.catalogue_tables.proofs.Seams.{seat_back, told_stays, told_step, within_kept, within_step}
use Rattle.linked_store.specs.Contents.{Contents, at_seat}
use Rattle.linked_store.specs.Leading.{leading_by, leads, leads_at, leads_form}
use Rattle.linked_store.specs.Sound.{AgreesWith, key_lists, keys_of, seen_links, seen_waits, state_in}
use Rattle.linked_store.specs.Turning.{IsLinkOf, IsWaitOf, turned}

-- ---- a seat of a store and its place

pub keys_alike : (class : Class) (s : Numbered) → keys_in class (key_lists s.keys) ≡ keys_by class s.keys
keys_alike Authority s = refl
keys_alike Bibliographic s = refl

pub key_there : (keys : List Key) (n : ℕ) → n < length keys → slice_get keys n ≡ Some (key_at keys n)
unfolding key_at
key_there keys n low = slice_get-get_or keys n no_key low

key_of_seat : (seat : Seat) (s : Numbered) → HasKey (key_lists s.keys) seat → slice_get (keys_by seat.class s.keys) seat.number ≡ Some (key_at (keys_in seat.class (key_lists s.keys)) seat.number)
key_of_seat seat s low =
    ap (λ (l : List Key). slice_get l seat.number) (sym (keys_alike seat.class s)) ∙ key_there (keys_in seat.class (key_lists s.keys)) seat.number low

-- another field at a seat is another field at its place
pub state_turned : (seat : Seat) (h : KeptField) (s : Numbered) → HasKey (key_lists s.keys) seat → (with_field_of seat h s).state ≡ swapped (place_at (key_lists s.keys) seat) h s.state
state_turned seat h s low =
    ap (λ (k : Option Key). with_rows seat.class (with_row_field k seat.field h (rows_of seat.class s.state)) s.state) (key_of_seat seat s low)

-- ---- the authorities

same_both : (o : Option KeptField) → Both IsSteady o o
same_both None = tt
same_both (Some h) = inl refl

-- the rows stay in order while a field is exchanged
ordered_swapped : (p : Place) (h : KeptField) (s : State) → AreOrdered s → AreOrdered (swapped p h s)
ordered_swapped p h s order = record {
  authorities = ascend_by (swapped p h s).authorities s.authorities (outlines_swapped p h s Authority) order.authorities;
  bibliographic = ascend_by (swapped p h s).bibliographic s.bibliographic (outlines_swapped p h s Bibliographic) order.bibliographic;
}

-- where an authority keeps its heading and its tracings, the linkable authorities stay
linkables_swapped : (p : Place) (was h : KeptField) (s : State) → AreOrdered s → field_under p s ≡ Some was → (p.class ≡ Authority → IsSteady was h)
    → linkable_authorities (swapped p h s) ≡ linkable_authorities s
linkables_swapped p was h s order there steady =
    sym (linkables_same s.authorities (swapped p h s).authorities
    (rows_from IsSteady s.authorities (swapped p h s).authorities (sym (outlines_swapped p h s Authority)) order.authorities
    (ascend_by (swapped p h s).authorities s.authorities (outlines_swapped p h s Authority) order.authorities) both))
  where
    at : (q : Place) (b : Bool) → q.class ≡ Authority → same_place p q ≡ b
        → Both IsSteady (field_under q s) (if b then option_map (λ (x : KeptField). h) (field_under q s) else field_under q s)
    at q true class e =
        let here : field_under q s ≡ Some was = ap (λ (x : Place). field_under x s) (sym (place_is p q e)) ∙ there in
        subst (λ (o : Option KeptField). Both IsSteady o (option_map (λ (x : KeptField). h) o)) (sym here) (steady (ap (λ (x : Place). x.class) (place_is p q e) ∙ class))
    at q false class e = same_both (field_under q s)

    both : (k : Key) (i : ℕ) → Both IsSteady (place_of k i s.authorities) (place_of k i (swapped p h s).authorities)
    both k i =
        let q : Place = record { class = Authority; key = k; field = i } in
        subst (λ (o : Option KeptField). Both IsSteady (field_under q s) o) (sym (field_swapped p q h s)) (at q (same_place p q) refl refl)

-- what the index tells stays while forms and keys get numbers
told_still : (old new : CatalogueTables) (keys many : List Key) (x : Indexed) (all : List Linkable) → IsDistinct same_key keys → FormsKeep old new → Keeps same_key keys many
    → TellsAuthorities old.forms keys x all → TellsAuthorities new.forms many x all
told_still old new keys many x all distinct rows keep told = tells_kept old.forms new.forms keys many x all distinct rows.forms keep told

-- ---- a field and its rows are exchanged

cond_leads : (n : ℕ) (b : Bool) (x y : Option ℕ) → leads_to n (cond b x y) ≡ cond b (leads_to n x) (leads_to n y)
cond_leads n true x y = refl
cond_leads n false x y = refl

cond_asks : (n : ℕ) (b : Bool) (x y : Option Waiting) → asks_form n (cond b x y) ≡ cond b (asks_form n x) (asks_form n y)
cond_asks n true x y = refl
cond_asks n false x y = refl

cond_names : (n : ℕ) (b : Bool) (x y : Option Waiting) → names_key n (cond b x y) ≡ cond b (names_key n x) (names_key n y)
cond_names n true x y = refl
cond_names n false x y = refl

cond_first : (n : ℕ) (b : Bool) (x y : Option Waiting) → leads_form n (cond b x y) ≡ cond b (leads_form n x) (leads_form n y)
cond_first n true x y = refl
cond_first n false x y = refl

-- the form that is asked for first is asked for
pub first_asked : (n : ℕ) (o : Option Waiting) → leads_form n o ≡ true → asks_form n o ≡ true
first_asked n None e = e
first_asked n (Some waiting) e = by waiting.forms e
  where
    by : (asked : Asked) → nat_eq (first_of asked) n ≡ true → has (forms_of asked) n ≡ true
    by (One form) e = ap (λ b. b || false) e
    by (Two form base) e = ap (λ b. b || (nat_eq base n || false)) e

pub within_first : (names : ℕ) (keys : KeyLists) (waits : Waits) → IsWithin names keys (λ n s. asks n waits s) → IsWithin names keys (λ n s. leads n waits s)
within_first names keys waits fit = record {
  named = λ n s e. fit.named n s (first_asked n (waits.waiting s) e);
  seated = λ n s e. fit.seated n s (first_asked n (waits.waiting s) e);
}

-- keys keep their own numbers
pub keys_keep : (keys : KeyLists) → KeysKeep keys keys
keys_keep keys = record { authorities = keeps_itself same_key keys.authorities; bibliographic = keeps_itself same_key keys.bibliographic }

module _ (keys : KeyLists) (p : Place) (seat : Seat) (at : IsSeatOf keys p seat) where
  links_step : (links : Seat → Option ℕ) (link : Option ℕ) →
      IsRenumbered seat (λ n. leads_to n link) (λ n s. is_linked n (seen_links links) s) (λ n s. is_linked n (seen_links (at_seat seat link links)) s)
  links_step links link n s = cond_leads n (same_seat seat s) link (links s)

  asks_step : (waits : Seat → Option Waiting) (waiting : Option Waiting) →
      IsRenumbered seat (λ n. asks_form n waiting) (λ n s. asks n (seen_waits waits) s) (λ n s. asks n (seen_waits (at_seat seat waiting waits)) s)
  asks_step waits waiting n s = cond_asks n (same_seat seat s) waiting (waits s)

  leads_step : (waits : Seat → Option Waiting) (waiting : Option Waiting) →
      IsRenumbered seat (λ n. leads_form n waiting) (λ n s. leads n (seen_waits waits) s) (λ n s. leads n (seen_waits (at_seat seat waiting waits)) s)
  leads_step waits waiting n s = cond_first n (same_seat seat s) waiting (waits s)

  names_step : (waits : Seat → Option Waiting) (waiting : Option Waiting) →
      IsRenumbered seat (λ n. names_key n waiting) (λ n s. names n (seen_waits waits) s) (λ n s. names n (seen_waits (at_seat seat waiting waits)) s)
  names_step waits waiting n s = cond_names n (same_seat seat s) waiting (waits s)

  -- by the forms that had numbers before, and those that have one now
  asking_stays : (old new : List Form) (waits : Seat → Option Waiting) → Keeps same_form old new → WaitsFit (length old) keys (seen_waits waits) → (form : Form) (q : Place)
      → asking_by new keys (seen_waits waits) form q ≡ asking_by old keys (seen_waits waits) form q
  asking_stays old new waits keeps fit form q = told_stays same_form old new keys keys (λ n s. asks n (seen_waits waits) s) fit.asking keeps (keys_keep keys) form q

  leading_stays : (old new : List Form) (waits : Seat → Option Waiting) → Keeps same_form old new → WaitsFit (length old) keys (seen_waits waits) → (form : Form) (q : Place)
      → leading_by new keys (seen_waits waits) form q ≡ leading_by old keys (seen_waits waits) form q
  leading_stays old new waits keeps fit form q =
      told_stays same_form old new keys keys (λ n s. leads n (seen_waits waits) s) (within_first (length old) keys (seen_waits waits) fit.asking) keeps (keys_keep keys) form q

pub agrees_turned : (old new : CatalogueTables) (seat : Seat) (was h : KeptField) (link : Option ℕ) (waiting : Option Waiting) (c : Contents) → AreDistinct (keys_of c) → HasKey (keys_of c) seat
    → field_under (place_at (keys_of c) seat) (state_in c) ≡ Some was → (seat.class ≡ Authority → IsSteady was h) → FormsKeep old new → IsLinkOf (keys_of c).authorities h link → IsWaitOf new.forms (keys_of c).authorities seat.class h waiting
    → AgreesWith old c → AgreesWith new (turned seat h link waiting c)
agrees_turned old new seat was h link waiting c distinct low there steady rows is_link is_wait agrees =
    let keys = keys_of c in
    let p = place_at keys seat in
    let at : IsSeatOf keys p seat = seat_back keys distinct seat low in
    let state : state_in (turned seat h link waiting c) ≡ swapped p h (state_in c) = state_turned seat h c.numbered low in
    let same : linkable_authorities (swapped p h (state_in c)) ≡ linkable_authorities (state_in c) = linkables_swapped p was h (state_in c) agrees.ordered there steady in
    record {
      ordered = subst AreOrdered (sym state) (ordered_swapped p h (state_in c) agrees.ordered);
      told =
          subst (λ (all : List Linkable). TellsAuthorities new.forms keys.authorities c.index all) (sym (ap linkable_authorities state ∙ same))
          (told_still old new keys.authorities keys.authorities c.index (linkable_authorities (state_in c)) distinct.authorities rows (keeps_itself same_key keys.authorities) agrees.told);
      links_fit =
          within_step (length keys.authorities) keys (λ n s. is_linked n (seen_links c.links) s) (λ n s. is_linked n (seen_links (at_seat seat link c.links)) s) (λ n. leads_to n link) seat
          (links_step keys p seat at c.links link) is_link.low low agrees.links_fit;
      waits_fit = record {
        asking =
            within_step (length new.forms) keys (λ n s. asks n (seen_waits c.waits) s) (λ n s. asks n (seen_waits (at_seat seat waiting c.waits)) s) (λ n. asks_form n waiting) seat
            (asks_step keys p seat at c.waits waiting) is_wait.low_forms low
            (within_kept same_form old.forms new.forms keys keys (λ n s. asks n (seen_waits c.waits) s) rows.forms (keys_keep keys) agrees.waits_fit.asking);
        naming =
            within_step (length keys.authorities) keys (λ n s. names n (seen_waits c.waits) s) (λ n s. names n (seen_waits (at_seat seat waiting c.waits)) s) (λ n. names_key n waiting) seat
            (names_step keys p seat at c.waits waiting) is_wait.low_keys low agrees.waits_fit.naming;
      };
      linked = λ key q.
          exchanged (linked_at key) p q was h (state_in c) (linked_by keys (seen_links (at_seat seat link c.links)) key q) (linked_by keys (seen_links c.links) key q) there
          (told_step same_key keys.authorities keys (λ n s. is_linked n (seen_links c.links) s) (λ n s. is_linked n (seen_links (at_seat seat link c.links)) s) (λ n. leads_to n link) p seat at
          (links_step keys p seat at c.links link) key q
          ∙ ap (λ b. cond (same_place p q) b (linked_by keys (seen_links c.links) key q)) (is_link.leads key))
          (agrees.linked key q)
          ∙ ap (λ (s : State). holds_at (linked_at key) s q) (sym state);
      asking = λ form q.
          exchanged (asks_at form) p q was h (state_in c) (asking_by new.forms keys (seen_waits (at_seat seat waiting c.waits)) form q) (asking_by new.forms keys (seen_waits c.waits) form q) there
          (told_step same_form new.forms keys (λ n s. asks n (seen_waits c.waits) s) (λ n s. asks n (seen_waits (at_seat seat waiting c.waits)) s) (λ n. asks_form n waiting) p seat at
          (asks_step keys p seat at c.waits waiting) form q
          ∙ ap (λ b. cond (same_place p q) b (asking_by new.forms keys (seen_waits c.waits) form q)) (is_wait.asks form))
          (asking_stays keys p seat at old.forms new.forms c.waits rows.forms agrees.waits_fit form q ∙ agrees.asking form q)
          ∙ ap (λ (s : State). holds_at (asks_at form) s q) (sym state);
      leading = λ form q.
          exchanged (leads_at form) p q was h (state_in c) (leading_by new.forms keys (seen_waits (at_seat seat waiting c.waits)) form q) (leading_by new.forms keys (seen_waits c.waits) form q) there
          (told_step same_form new.forms keys (λ n s. leads n (seen_waits c.waits) s) (λ n s. leads n (seen_waits (at_seat seat waiting c.waits)) s) (λ n. leads_form n waiting) p seat at
          (leads_step keys p seat at c.waits waiting) form q
          ∙ ap (λ b. cond (same_place p q) b (leading_by new.forms keys (seen_waits c.waits) form q)) (is_wait.leads form))
          (leading_stays keys p seat at old.forms new.forms c.waits rows.forms agrees.waits_fit form q ∙ agrees.leading form q)
          ∙ ap (λ (s : State). holds_at (leads_at form) s q) (sym state);
      naming = λ key q valid.
          exchanged (waits_for_key key) p q was h (state_in c) (naming_by keys (seen_waits (at_seat seat waiting c.waits)) key q) (naming_by keys (seen_waits c.waits) key q) there
          (told_step same_key keys.authorities keys (λ n s. names n (seen_waits c.waits) s) (λ n s. names n (seen_waits (at_seat seat waiting c.waits)) s) (λ n. names_key n waiting) p seat at
          (names_step keys p seat at c.waits waiting) key q
          ∙ ap (λ b. cond (same_place p q) b (naming_by keys (seen_waits c.waits) key q)) (is_wait.names key valid))
          (agrees.naming key q valid)
          ∙ ap (λ (s : State). holds_at (waits_for_key key) s q) (sym state);
    }

-- ---- growth

-- the tables agree as well once more keys and forms have numbers
pub agrees_grown : (old new : CatalogueTables) (c d : Contents) → FormsKeep old new → AreDistinct (keys_of c) → KeysKeep (keys_of c) (keys_of d) → d.index ≡ c.index → d.links ≡ c.links → d.waits ≡ c.waits → state_in d ≡ state_in c
    → AgreesWith old c → AgreesWith new d
agrees_grown old new c d rows distinct keep index links waits state agrees =
    by d.index d.links d.waits d.numbered.state index links waits state
  where
    -- the same links and rows under other numbers
    done : AgreesWith new (record { numbered = record { state = c.numbered.state; keys = d.numbered.keys }; index = c.index; links = c.links; waits = c.waits })
    done = record {
      ordered = agrees.ordered;
      told = told_still old new (keys_of c).authorities (keys_of d).authorities c.index (linkable_authorities (state_in c)) distinct.authorities rows keep.authorities agrees.told;
      links_fit = within_kept same_key (keys_of c).authorities (keys_of d).authorities (keys_of c) (keys_of d) (λ n s. is_linked n (seen_links c.links) s) keep.authorities keep agrees.links_fit;
      waits_fit = record {
        asking = within_kept same_form old.forms new.forms (keys_of c) (keys_of d) (λ n s. asks n (seen_waits c.waits) s) rows.forms keep agrees.waits_fit.asking;
        naming = within_kept same_key (keys_of c).authorities (keys_of d).authorities (keys_of c) (keys_of d) (λ n s. names n (seen_waits c.waits) s) keep.authorities keep agrees.waits_fit.naming;
      };
      linked = λ key q.
          told_stays same_key (keys_of c).authorities (keys_of d).authorities (keys_of c) (keys_of d) (λ n s. is_linked n (seen_links c.links) s) agrees.links_fit keep.authorities keep key q ∙ agrees.linked key q;
      asking = λ form q.
          told_stays same_form old.forms new.forms (keys_of c) (keys_of d) (λ n s. asks n (seen_waits c.waits) s) agrees.waits_fit.asking rows.forms keep form q ∙ agrees.asking form q;
      leading = λ form q.
          told_stays same_form old.forms new.forms (keys_of c) (keys_of d) (λ n s. leads n (seen_waits c.waits) s)
          (within_first (length old.forms) (keys_of c) (seen_waits c.waits) agrees.waits_fit.asking) rows.forms keep form q
          ∙ agrees.leading form q;
      naming = λ key q valid.
          told_stays same_key (keys_of c).authorities (keys_of d).authorities (keys_of c) (keys_of d) (λ n s. names n (seen_waits c.waits) s) agrees.waits_fit.naming keep.authorities keep key q ∙ agrees.naming key q valid;
    }

    by : (x : Indexed) (l : Seat → Option ℕ) (w : Seat → Option Waiting) (s : State) → x ≡ c.index → l ≡ c.links → w ≡ c.waits → s ≡ c.numbered.state
        → AgreesWith new (record { numbered = record { state = s; keys = d.numbered.keys }; index = x; links = l; waits = w })
    by x l w s xe le we se = subst (λ (y : Contents). AgreesWith new y)
        (λ i. record { numbered = record { state = sym se i; keys = d.numbered.keys }; index = sym xe i; links = sym le i; waits = sym we i }) done
