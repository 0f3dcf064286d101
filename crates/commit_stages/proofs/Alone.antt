-- The commit of a bibliographic record, which touches no other.
use Rattle.std.proofs.Common.{◌≡◌, ◌∙◌, sym, ap, subst, ℕ, ◌+◌, ◌≤◌, arith, List, []}
use Rattle.marc_types.specs.Order.{same_key}
use Rattle.marc_types.specs.declared.entry.Entry.{Entry}
use Rattle.marc_types.specs.declared.key.Class.{Class}
use Rattle.marc_types.specs.declared.key.Class.TheVariants.{Authority, Bibliographic}
use Rattle.marc_types.specs.declared.key.Key.{Key}
use Rattle.entry_record.specs.Authority.{Linkable}
use Rattle.numbering.specs.Numbers.{IsNumberOf}
use Rattle.catalogue_rules.specs.Receipt.{kept_under}
use Rattle.catalogue_rules.specs.Settle.{arrival_of, step}
use Rattle.catalogue_rules.specs.State.{State, linkable_authorities}
use Rattle.catalogue_tables.specs.Seam.{keys_in}
use Rattle.linking_laws.specs.Commits.{CanBeCommitted, placed_by}
use Rattle.linking_laws.specs.Middle.{IsMiddle, IsMiddleWith}
use Rattle.linking_laws.specs.Receipts.{AreChanged, place_in, receipt_by}
use Rattle.linking_laws.specs.Stages.{settle_own}
use Rattle.linking_laws.specs.Visits.{own_commit_visits, touched}
use Rattle.linking_laws.proofs.Counts.{changed_number}
use Rattle.linking_laws.proofs.Exchanged.{exchange_tells, nothing_exchanged}
use Rattle.linking_laws.proofs.Owning.{bibliographic_middle}
use Rattle.linking_laws.proofs.Staged.{settled_state}
use Rattle.linking_laws.proofs.Worked.{visits_touched}
use Rattle.linked_store.specs.Linked.{IsAhead, IsNumber, Linked, key_of, record_at}
use Rattle.commit_stages.specs.OwnFields.{IsOwnSettled, own_visits_of}
use Rattle.commit_stages.specs.declared.counts.HeadingCounts.{HeadingCounts}
use Rattle.commit_stages.specs.Receipts.{AreReceiptCounts}
use Rattle.commit_stages.specs.Stages.{AreCountsBrought, IsBrought}
use Rattle.commit_stages.proofs.Numbers.{key_numbered_so, own_numbers}
use Rattle.commit_stages.proofs.Parts.{stands_placed}
use Rattle.commit_stages.proofs.Staging.{key_ahead, number_ahead}
use Rattle.numbered_store.proofs.Shelving.{low_number}

module _ (x : Linked) (e : Entry) (c : CanBeCommitted Bibliographic x.state e) where
  abbrev s : State
  s = x.state

  abbrev all : List Linkable
  all = linkable_authorities s

  placed_now : (y : Linked) → y.state ≡ placed_by e.class s e → y.state ≡ placed_by Bibliographic s e
  placed_now y is = is ∙ ap (λ (k : Class). placed_by k s e) c.class_is

  middle_now : (y : Linked) → y.state ≡ placed_by e.class s e → IsMiddleWith all y.state
  middle_now y is = subst (IsMiddleWith all) (sym (placed_now y is)) (bibliographic_middle s e c)

  pub alone_middle : (y : Linked) → y.state ≡ placed_by e.class s e → IsMiddle y.state
  alone_middle y is = (middle_now y is).middle

  module _ (number : ℕ) (numbered : IsNumberOf same_key (keys_in Bibliographic x.keys) e.key number) (y : Linked) (ahead : IsAhead x y) where
    number_here : IsNumber Bibliographic number y.keys
    number_here = number_ahead Bibliographic number x y ahead (low_number (keys_in Bibliographic x.keys) e.key number numbered)

    key_here : key_of Bibliographic number y.keys ≡ e.key
    key_here =
        key_ahead Bibliographic number x y ahead (low_number (keys_in Bibliographic x.keys) e.key number numbered)
        ∙ key_numbered_so (keys_in Bibliographic x.keys) e.key number numbered

    pub alone_number : IsNumber e.class number y.keys
    alone_number = subst (λ (k : Class). IsNumber k number y.keys) (sym c.class_is) number_here

    pub alone_key : key_of e.class number y.keys ≡ e.key
    alone_key = subst (λ (k : Class). key_of k number y.keys ≡ e.key) (sym c.class_is) key_here

    pub alone_brought : y.state ≡ placed_by e.class s e → IsBrought number e y
    alone_brought is =
        ap (λ (k : Class). record_at k number y) c.class_is
        ∙ ap (λ (k : Key). kept_under Bibliographic k y.state) key_here
        ∙ ap (kept_under Bibliographic e.key) (placed_now y is)
        ∙ stands_placed (arrival_of e) s.bibliographic c.valid.bibliographic_ascend

  module _ (y : Linked) (is : y.state ≡ placed_by e.class s e) where
    pub alone_within : (before after : ℕ) → after ≤ before + own_visits_of (linkable_authorities y.state) e.class e.key y.state → after ≤ before + touched s e
    alone_within before after low =
        let most : own_commit_visits s e ≤ touched s e = visits_touched Bibliographic s e c in
        let same : own_visits_of (linkable_authorities y.state) e.class e.key y.state ≡ own_commit_visits s e =
        ap (λ (l : List Linkable). own_visits_of l e.class e.key y.state) (middle_now y is).authorities_are
        ∙ ap (λ (k : Class). own_visits_of all k e.key y.state) c.class_is
        ∙ ap (own_visits_of all Bibliographic e.key) (placed_now y is) in
        omega (arith, most, same, low)

    pub alone_committed : (z : Linked) → IsOwnSettled (linkable_authorities y.state) e.class e.key y z → z.state ≡ step s (arrival_of e)
    alone_committed z out =
        out.state
        ∙ ap (λ (l : List Linkable). settle_own l e.class e.key y.state) (middle_now y is).authorities_are
        ∙ ap (λ (k : Class). settle_own all k e.key y.state) c.class_is
        ∙ ap (settle_own all Bibliographic e.key) (placed_now y is)
        ∙ sym (settled_state s e c)

    nothing_changed : (class : Class) → AreChanged (arrival_of e) s (step s (arrival_of e)) class []
    nothing_changed class = record {
      distinct = tt;
      other = λ key h. cc;
      changed = λ key h. cc;
      all = λ key i other exchange.
          let none = nothing_exchanged s e (place_in class key i) c other in let some = exchange_tells (place_in class key i) s (step s (arrival_of e)) exchange in cc;
    }

    pub alone_numbers : (counts : HeadingCounts) → AreCountsBrought (linkable_authorities y.state) e counts → (at : ℕ)
        → AreReceiptCounts (receipt_by at s e) (record { linked = counts.linked; ambiguous = counts.ambiguous; unlinked = counts.unlinked; changed_records = 0 })
    alone_numbers counts are at =
        own_numbers s e Bibliographic c counts 0
        (subst (λ (t : State). AreCountsBrought (linkable_authorities t) e counts) is are) at
        (sym (changed_number at s e Bibliographic [] [] c (nothing_changed Authority) (nothing_changed Bibliographic)))
