-- An authority's commit from its begin: each stage's facts, from what the calls up to it have said.
use Rattle.std.proofs.Common.{◌≡◌, subst, sym, ℕ, ◌+◌, ◌≤◌, List, [], ◌++◌, Option}
use Rattle.std.specs.Prelude.{find}
use Rattle.std.specs.Borrow.{Bor}
use Rattle.std.specs.Option.{option_map_or}
use Rattle.marc_types.specs.Order.{same_key}
use Rattle.marc_types.specs.declared.entry.Entry.{Entry}
use Rattle.marc_types.specs.declared.form.Form.{Form}
use Rattle.marc_types.specs.declared.key.Class.TheVariants.{Authority}
use Rattle.entry_record.specs.Authority.{Linkable}
use Rattle.numbering.specs.Numbers.{IsNumberOf}
use Rattle.catalogue_rules.specs.Choice.{has_key}
use Rattle.catalogue_rules.specs.Settle.{arrival_of, step}
use Rattle.catalogue_rules.specs.State.{linkable_authorities}
use Rattle.catalogue_tables.specs.Following.{authority_brought}
use Rattle.catalogue_tables.specs.Known.{IsKnownAs}
use Rattle.catalogue_tables.specs.Lent.{shown_forms}
use Rattle.catalogue_tables.specs.Seam.{keys_in}
use Rattle.catalogue_tables.specs.declared.known.KnownAuthority.{KnownAuthority}
use Rattle.linking_laws.specs.Commits.{CanBeCommitted, dropping_of, forms_of_commit, placed_by}
use Rattle.linking_laws.specs.Middle.{CanDrop}
use Rattle.linking_laws.specs.Stages.{carry_by, choose_field, dropping_by}
use Rattle.linking_laws.specs.Visits.{carry_visits, choose_visits, touched}
use Rattle.linking_laws.specs.Waiting.{AreSameForms, forms_of, is_form_among}
use Rattle.linking_laws.specs.Weights.{sum_fields}
use Rattle.linked_store.specs.Linked.{IsAhead, Linked, key_of}
use Rattle.commit_stages.specs.OwnFields.{IsOwnSettled, own_visits_of}
use Rattle.commit_stages.specs.Stages.{IsBrought, drop_of, drop_visits_of, dropping_to, forms_of_brought}
use Rattle.commit_stages.specs.Turns.{IsCarriedOut}
use Rattle.commit_stages.specs.declared.brought.Ending.{Ending}
use Rattle.commit_stages.proofs.Whole.{IsCarried, IsDropped, IsPlaced, IsSettled, brought_there, carried_so, chosen_so, dropped_so, forms_lent, may_drop, own_found, placed_so, right, settled_so, spent_carrying, spent_choosing, spent_dropping, spent_settling, within_four, within_one, within_three, within_two}

-- The authority that was known, which links end, and the store in which the entry's record has come into its place.
pub record Begun : Type 0 where
  pub before : Linked
  pub item : Entry
  pub commit : CanBeCommitted Authority before.state item
  pub number : ℕ
  pub numbered : IsNumberOf same_key (keys_in Authority before.keys) item.key number
  pub known : Option KnownAuthority
  pub known_is : IsKnownAs (find (has_key (key_of Authority number before.keys)) (linkable_authorities before.state)) known
  pub ending : Ending
  pub ends : dropping_to ending ≡ dropping_of before.state item
  pub store : Linked
  pub placed : IsPlaced before item commit number numbered store

module _ (before : Linked) (item : Entry) (commit : CanBeCommitted Authority before.state item) (number : ℕ) (numbered : IsNumberOf same_key (keys_in Authority before.keys) item.key number) where
  abbrev pub begun : (known lent : Option KnownAuthority) → IsKnownAs (find (has_key (key_of Authority number before.keys)) (linkable_authorities before.state)) known → lent ≡ known
      → (ending : Ending) → ((was : Option Linkable) → IsKnownAs was lent → dropping_to ending ≡ dropping_by was (authority_brought (arrival_of item)))
      → (store : Linked) → IsAhead before store → store.state ≡ placed_by item.class before.state item → Begun
  begun known lent known_is same ending said store ahead is = record {
    before = before;
    item = item;
    commit = commit;
    number = number;
    numbered = numbered;
    known = known;
    known_is = known_is;
    ending = ending;
    ends = right before item commit number numbered known ending known_is (λ was is. said was (subst (IsKnownAs was) (sym same) is));
    store = store;
    placed = placed_so before item commit number numbered store ahead is;
  }

module _ (b : Begun) where
  abbrev x0 : Linked
  x0 = b.before

  abbrev x1 : Linked
  x1 = b.store

  abbrev e : Entry
  e = b.item

  abbrev all1 : List Linkable
  all1 = linkable_authorities x1.state

  -- ---- the links that end are dropped

  pub ending_can : CanDrop (dropping_to b.ending) e.key x1.state
  ending_can = may_drop x0 e b.commit b.number b.numbered x1 b.ending b.placed b.ends

  abbrev DropsWithin : ℕ → ℕ → Type 0
  DropsWithin n0 n1 = n1 ≤ n0 + sum_fields (drop_visits_of b.ending e all1) x1.state

  pub begun_within : (n0 n1 : ℕ) → DropsWithin n0 n1 → n1 ≤ n0 + touched x0.state e
  begun_within n0 n1 v1 = within_one x0 e b.commit b.number b.numbered n0 n1 (spent_dropping x0 e b.commit b.number b.numbered x1 b.ending n0 n1 b.placed b.ends v1)

  -- the forms under which the authority is and was found, lent
  pub forms_begun : (old : List Form)
      → ((was : Option Linkable) → IsKnownAs was b.known → (form : Form) → is_form_among old form ≡ is_form_among (option_map_or forms_of was []) form)
      → (lent : List (Bor Form)) → shown_forms lent ≡ old ++ forms_of_brought (arrival_of e) → AreSameForms (shown_forms lent) (forms_of_commit x0.state e)
  forms_begun old found lent lends = forms_lent x0 e b.commit b.number b.numbered b.known old lent b.known_is found lends

  module _ (x2 : Linked) (out2 : IsCarriedOut all1 (drop_of b.ending e all1) x1 x2) where
    abbrev all2 : List Linkable
    all2 = linkable_authorities x2.state

    pub dropped : IsDropped x0 e b.commit b.number b.numbered x2
    dropped = dropped_so x0 e b.commit b.number b.numbered x1 x2 b.ending b.placed b.ends out2

    pub dropped_own : find (has_key e.key) all2 ≡ authority_brought (arrival_of e)
    dropped_own = own_found x0 e b.commit b.number b.numbered x2 dropped

    abbrev CarriesWithin : ℕ → ℕ → Type 0
    CarriesWithin n1 n2 = n2 ≤ n1 + sum_fields (carry_visits e.key (authority_brought (arrival_of e))) x2.state

    pub dropped_within : (n0 n1 n2 : ℕ) → DropsWithin n0 n1 → CarriesWithin n1 n2 → n2 ≤ n0 + touched x0.state e
    dropped_within n0 n1 n2 v1 v2 =
        within_two x0 e b.commit b.number b.numbered n0 n1 n2
        (spent_dropping x0 e b.commit b.number b.numbered x1 b.ending n0 n1 b.placed b.ends v1)
        (spent_carrying x0 e b.commit b.number b.numbered x2 n1 n2 dropped v2)

    -- ---- the heading is carried

    module _ (x3 : Linked) (out3 : IsCarriedOut all2 (carry_by e.key (authority_brought (arrival_of e))) x2 x3) where
      abbrev all3 : List Linkable
      all3 = linkable_authorities x3.state

      pub carried : IsCarried x0 e b.commit b.number b.numbered x3
      carried = carried_so x0 e b.commit b.number b.numbered x2 x3 dropped out3

      pub carried_brought : IsBrought b.number e x3
      carried_brought = brought_there x0 e b.commit b.number b.numbered x3 carried

      abbrev SettlesWithin : ℕ → ℕ → Type 0
      SettlesWithin n2 n3 = n3 ≤ n2 + own_visits_of all3 e.class e.key x3.state

      pub carried_within : (n0 n1 n2 n3 : ℕ) → DropsWithin n0 n1 → CarriesWithin n1 n2 → SettlesWithin n2 n3 → n3 ≤ n0 + touched x0.state e
      carried_within n0 n1 n2 n3 v1 v2 v3 =
          within_three x0 e b.commit b.number b.numbered n0 n1 n2 n3
          (spent_dropping x0 e b.commit b.number b.numbered x1 b.ending n0 n1 b.placed b.ends v1)
          (spent_carrying x0 e b.commit b.number b.numbered x2 n1 n2 dropped v2)
          (spent_settling x0 e b.commit b.number b.numbered x3 n2 n3 carried v3)

      -- ---- the own fields are settled

      module _ (x4 : Linked) (out4 : IsOwnSettled all3 e.class e.key x3 x4) where
        abbrev all4 : List Linkable
        all4 = linkable_authorities x4.state

        pub settled : IsSettled x0 e b.commit b.number b.numbered x4
        settled = settled_so x0 e b.commit b.number b.numbered x3 x4 carried out4

        -- ---- the fields that waited are settled

        module _ (forms : List Form) (same : AreSameForms forms (forms_of_commit x0.state e)) where
          pub settled_state : (x5 : Linked) → IsCarriedOut all4 (choose_field all4 forms (key_of Authority b.number x4.keys)) x4 x5 → x5.state ≡ step x0.state (arrival_of e)
          settled_state x5 out5 = chosen_so x0 e b.commit b.number b.numbered forms x4 x5 settled same out5

          pub settled_within : (n0 n1 n2 n3 n4 : ℕ) → DropsWithin n0 n1 → CarriesWithin n1 n2 → SettlesWithin n2 n3
              → n4 ≤ n3 + sum_fields (choose_visits all4 forms (key_of Authority b.number x4.keys)) x4.state → n4 ≤ n0 + touched x0.state e
          settled_within n0 n1 n2 n3 n4 v1 v2 v3 v4 =
              within_four x0 e b.commit b.number b.numbered n0 n1 n2 n3 n4
              (spent_dropping x0 e b.commit b.number b.numbered x1 b.ending n0 n1 b.placed b.ends v1)
              (spent_carrying x0 e b.commit b.number b.numbered x2 n1 n2 dropped v2)
              (spent_settling x0 e b.commit b.number b.numbered x3 n2 n3 carried v3)
              (spent_choosing x0 e b.commit b.number b.numbered forms x4 n3 n4 settled same v4)
