-- The index follows an authority's entry, and goes back.
use Rattle.std.proofs.Common.{◌≡◌, ◌∙◌, sym, ap, refl, subst, ℕ, ◌<◌, List, [], ◌∷◌, ◌++◌, length, Option}
use Rattle.marc_types.specs.declared.entry.Entry.{Entry}
use Rattle.marc_types.specs.declared.key.Key.{Key}
use Rattle.form_index.specs.Index.{Taken}
use Rattle.link_table.specs.Links.{Links}
use Rattle.link_table.specs.Table.{links}
use Rattle.wait_table.specs.Waits.{Waits}
use Rattle.wait_table.specs.Table.{waits}
use Rattle.catalogue_rules.specs.Settle.{arrival_of}
use Rattle.numbered_store.specs.Numbered.{Numbered}
use Rattle.catalogue_tables.specs.Following.{FollowsAuthority, IsWayBack, authority_brought, restored}
use Rattle.catalogue_tables.specs.Tables.{OnlyIndex, OnlyIndexAndForms}
use Rattle.linked_store.specs.Contents.{CanReturn, HaveRooms, Step, ToIndex}
use Rattle.linked_store.specs.Transactions.{GoesOn, KeepsRows, LetsGo, TakesBack, links_in, steps_of, waits_in}
use Rattle.catalogue_tables.specs.declared.tables.CatalogueTables.{CatalogueTables}
use Rattle.linked_store.specs.Placing.{IsFollowed}
use Rattle.linked_store.specs.declared.transaction.Transaction.{Transaction}
use Rattle.linked_store.proofs.Noted.{forms_only, goes_one}
use Rattle.linked_store.proofs.Going.{rooms_less, rooms_more}

same_links : (old new : CatalogueTables) → new.links ≡ old.links → links_in new ≡ links_in old
same_links old new same = ap links same

same_waits : (old new : CatalogueTables) → new.waits ≡ old.waits → waits_in new ≡ waits_in old
same_waits old new same = ap waits same

rooms_index : (steps : List Step) (number : ℕ) (row : Option Taken) (l : Links) (w : Waits) → HaveRooms steps l w → HaveRooms (steps ++ ToIndex number row ∷ []) l w
rooms_index steps number row l w r =
    rooms_more steps (ToIndex number row) l w (record { links = λ s. refl; keys = λ n s. refl; waits = λ s. refl; forms = λ n s. refl; names = λ n s. refl }) r

-- the rooms stay with the links and the rows
rooms_by : (steps : List Step) (l m : Links) (w v : Waits) → m ≡ l → v ≡ w → HaveRooms steps l w → HaveRooms steps m v
rooms_by steps l m w v links waits r = subst (λ (x : Waits). HaveRooms steps m x) (sym waits) (subst (λ (x : Links). HaveRooms steps x w) (sym links) r)

-- the index followed
pub goes_followed : (old new : Transaction) (number : ℕ) (row : Option Taken) (keys : List Key) → keys ≡ old.store.keys.authorities → steps_of new ≡ steps_of old ++ ToIndex number row ∷ []
    → new.store ≡ old.store → OnlyIndexAndForms keys old.tables new.tables → IsWayBack keys number row old.tables.index new.tables.index → number < length keys → GoesOn old new
goes_followed old new number row keys same steps store only way low =
    let own : keys ≡ new.store.keys.authorities = same ∙ ap (λ (s : Numbered). s.keys.authorities) (sym store) in
    let index = ap (λ (k : List Key). restored k number row new.tables.index) (sym own) ∙ way.restores in
    let links_same = same_links old.tables new.tables only.links in
    let waits_same = same_waits old.tables new.tables only.waits in
    goes_one old new (ToIndex number row) steps
    (λ i. record { numbered = store i; index = index i; links = (links_same i).key_of; waits = (waits_same i).waiting })
    (subst (λ (k : List Key). CanReturn k number row new.tables.index) own (record { known = low; ordered = only.ordered; held = way.held; ordered_without = way.ordered }))
    (λ r. subst (λ (l : List Step). HaveRooms l (links_in new.tables) (waits_in new.tables)) (sym steps)
    (rooms_by (steps_of old ++ ToIndex number row ∷ []) (links_in old.tables) (links_in new.tables) (waits_in old.tables) (waits_in new.tables) links_same waits_same
    (rooms_index (steps_of old) number row (links_in old.tables) (waits_in old.tables) r)))
    (record { forms = only.forms })

pub followed : (old new : Transaction) (number : ℕ) (e : Entry) (keys : List Key) → keys ≡ old.store.keys.authorities → OnlyIndexAndForms keys old.tables new.tables
    → FollowsAuthority new.tables.forms number (authority_brought (arrival_of e)) old.tables.index new.tables.index → IsFollowed number e old new
followed old new number e keys same only follows = record {
  follows = follows;
  ordered = (subst (λ (k : List Key). OnlyIndexAndForms k old.tables new.tables) same only).ordered;
  seats = record {
    links = ap (λ (l : Links). l.key_of) (same_links old.tables new.tables only.links);
    waits = ap (λ (w : Waits). w.waiting) (same_waits old.tables new.tables only.waits);
  };
}

-- the index went back
pub back_indexed : (old new : Transaction) (number : ℕ) (row : Option Taken) (keys : List Key) → keys ≡ old.store.keys.authorities → new.store ≡ old.store → new.log.items ≡ old.log.items
    → OnlyIndex keys old.tables new.tables → new.tables.index ≡ restored keys number row old.tables.index → TakesBack (ToIndex number row) old new
back_indexed old new number row keys same store log only is =
    let index = is ∙ ap (λ (k : List Key). restored k number row old.tables.index) same in
    let links_same = same_links old.tables new.tables only.links in
    let waits_same = same_waits old.tables new.tables only.waits in
    record {
      now = λ i. record { numbered = store i; index = index i; links = (links_same i).key_of; waits = (waits_same i).waiting };
      rooms = λ steps r.
          rooms_by steps (links_in old.tables) (links_in new.tables) (waits_in old.tables) (waits_in new.tables) links_same waits_same
          (rooms_less steps (ToIndex number row) (links_in old.tables) (waits_in old.tables) r);
      same = forms_only old.tables new.tables only.forms;
      log = log;
    }

-- the row was let go
pub gone_indexed : (old new : CatalogueTables) (number : ℕ) (row : Option Taken) → KeepsRows old.index new.index → new.links ≡ old.links → new.waits ≡ old.waits → new.forms ≡ old.forms
    → LetsGo (ToIndex number row) old new
gone_indexed old new number row keeps links waits forms =
    let links_same = same_links old new links in
    let waits_same = same_waits old new waits in
    record {
      index = keeps;
      links = ap (λ (l : Links). l.key_of) links_same;
      waits = ap (λ (w : Waits). w.waiting) waits_same;
      rooms = λ steps r.
          rooms_by steps (links_in old) (links_in new) (waits_in old) (waits_in new) links_same waits_same (rooms_less steps (ToIndex number row) (links_in old) (waits_in old) r);
      same = forms_only old new forms;
    }
