-- The other names of a set or a map stay when one name comes or goes.
use Rattle.std.proofs.Common.{◌≡◌, ◌≢◌, ◌∙◌, ℕ, List, Bool, true, false, cond, String, Option, Some, is_some, ap, subst, sym, refl}
use Rattle.std.specs.Str.{bytes_eq}
use Rattle.std.specs.String.{string_bytes, string_cmp}
use Rattle.std.specs.BTreeSet.{BTreeSet, UpdatesBy, contains_text}
use Rattle.std.specs.BTreeMap.{BTreeMap, get_by_text}
use Rattle.std.specs.BTreeMap as map
use Rattle.std.specs.Ordering.{nat_cmp}
use Rattle.std.specs.Cmp.Lexicographic.{slice_cmp}
use Rattle.std.proofs.lemmas.Bool.{false_from_ne_true}
use Rattle.std.proofs.lemmas.Slice.Eq.{bytes_eq-Decides}
use Rattle.std.proofs.lemmas.Map.Text.{btree_map_updates_text, btree_set_updates_text}

picks_old : {W : Type 0} (test : Bool) (new old : W) → test ≡ false → cond test new old ≡ old
picks_old test new old e = rw e refl

pub other_names_stay : {Y : Type 0} (bs name cs : List ℕ) (old new : BTreeSet (String Y)) (is_in : Bool)
    → bs ≡ name → UpdatesBy string_cmp (λ k. slice_cmp nat_cmp bs (string_bytes k)) old new is_in
    → cs ≢ name → contains_text new cs ≡ contains_text old cs
other_names_stay bs name cs old new is_in same updates other =
    btree_set_updates_text bs old new is_in updates cs
    ∙ picks_old (bytes_eq bs cs) is_in (contains_text old cs)
    (false_from_ne_true (bytes_eq bs cs) (λ e. other (sym ((bytes_eq-Decides bs cs).0 e) ∙ same)))

pub other_keys_stay : {X Y : Type 0} (bs name cs : List ℕ) (old new : BTreeMap (String Y) X) (value : Option X)
    → bs ≡ name → map.UpdatesBy string_cmp (λ k. slice_cmp nat_cmp bs (string_bytes k)) old new value
    → cs ≢ name → is_some (get_by_text new cs) ≡ is_some (get_by_text old cs)
other_keys_stay bs name cs old new value same updates other = ap is_some
    (btree_map_updates_text bs old new value updates cs
    ∙ picks_old (bytes_eq bs cs) value (get_by_text old cs)
    (false_from_ne_true (bytes_eq bs cs) (λ e. other (sym ((bytes_eq-Decides bs cs).0 e) ∙ same))))

pub key_is_in : {X Y : Type 0} (bs name : List ℕ) (old new : BTreeMap (String Y) X) (value : X)
    → bs ≡ name → map.UpdatesBy string_cmp (λ k. slice_cmp nat_cmp bs (string_bytes k)) old new (Some value)
    → is_some (get_by_text new name) ≡ true
key_is_in bs name old new value same updates = subst (λ n. is_some (get_by_text new n) ≡ true) same (ap is_some updates.1)
