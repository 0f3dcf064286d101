-- Images that hold a history, as the history grows.
use Rattle.std.proofs.Common.{◌≡◌, ◌⊎◌, inl, inr, ℕ, ◌≤◌, List, [], ◌++◌, length, take, refl, sym, subst, arith, length-append}
use Rattle.std.proofs.Math.Logic.{∥∥₁_elim}
use Rattle.std.proofs.lemmas.List.{take_all, take-append-le, append-nil}
use Rattle.std.specs.Coded.{Coded-set, coded_ℕ}
use Rattle.marc_types.specs.declared.entry.Entry.{Entry}
use Rattle.commit_journal.specs.Log.{version_of}
use Rattle.durable_catalogue.specs.Logs.{IsLogOf}
use Rattle.durable_catalogue.specs.Images.{Reaches, HoldsEntries}

-- whatever an image holds, it is of version 2
pub holds_newest : (least : ℕ) (entries marked : List Entry) (image : List ℕ) → HoldsEntries least entries marked image → version_of image ≡ 2
holds_newest least entries marked image holds = ∥∥₁_elim holds (Coded-set coded_ℕ _ _) (λ (r : Reaches least entries marked image). r.newest)

-- an image of version 2 of some of the entries, and of none of the marked ones
pub record IsFront (least : ℕ) (entries : List Entry) (image : List ℕ) : Type 0 where
  pub count : ℕ
  pub newest : version_of image ≡ 2
  pub has : IsLogOf (take count entries) image
  pub at_least : least ≤ count
  pub within : count ≤ length entries

pub front_of : (least : ℕ) (entries : List Entry) (image : List ℕ) → Reaches least entries [] image → IsFront least entries image
front_of least entries image r = record {
  count = r.count;
  newest = r.newest;
  has = subst (λ es. IsLogOf (take r.count es) image) (append-nil entries) r.has;
  at_least = r.at_least;
  within = omega (arith, r.within, length-append entries []);
}

pub front_reaches : (least : ℕ) (entries more : List Entry) (image : List ℕ) → IsFront least entries image → Reaches least entries more image
front_reaches least entries more image f = record {
  count = f.count;
  newest = f.newest;
  has = subst (λ es. IsLogOf es image) (sym (take-append-le f.count entries more f.within)) f.has;
  at_least = f.at_least;
  within = omega (arith, f.within, length-append entries more);
  whole = λ beyond. absurd (omega (arith, beyond, f.within));
}

-- a front of some entries is one of these and more
pub front_longer : (least : ℕ) (entries more : List Entry) (image : List ℕ) → IsFront least entries image → IsFront least (entries ++ more) image
front_longer least entries more image f = record {
  count = f.count;
  newest = f.newest;
  has = subst (λ es. IsLogOf es image) (sym (take-append-le f.count entries more f.within)) f.has;
  at_least = f.at_least;
  within = omega (arith, f.within, length-append entries more);
}

pub whole_front : (least : ℕ) (entries : List Entry) (image : List ℕ) → least ≤ length entries → version_of image ≡ 2
    → IsLogOf entries image → IsFront least entries image
whole_front least entries image within newest has = record {
  count = length entries;
  newest = newest;
  has = subst (λ es. IsLogOf es image) (sym (take_all (length entries) entries (omega arith))) has;
  at_least = within;
  within = omega arith;
}

-- an image of all that there are
pub whole_is : (entries : List Entry) (image : List ℕ) → IsFront (length entries) entries image → IsLogOf entries image
whole_is entries image f = subst (λ es. IsLogOf es image) (take_all f.count entries f.at_least) f.has

-- an image of the entries and all that are marked
pub marked_reaches : (least : ℕ) (entries more : List Entry) (image : List ℕ) → least ≤ length entries → version_of image ≡ 2
    → IsLogOf (entries ++ more) image → Reaches least entries more image
marked_reaches least entries more image within newest has = record {
  count = length (entries ++ more);
  newest = newest;
  has = subst (λ es. IsLogOf es image) (sym (take_all (length (entries ++ more)) (entries ++ more) (omega arith))) has;
  at_least = omega (arith, within, length-append entries more);
  within = omega arith;
  whole = λ beyond. refl;
}

-- a commit under way: the history before, or that and all of the frame
pub either_reaches : (least : ℕ) (entries more : List Entry) (image : List ℕ) → least ≤ length entries → version_of image ≡ 2
    → IsLogOf entries image ⊎ IsLogOf (entries ++ more) image → Reaches least entries more image
either_reaches least entries more image within newest (inl has) = front_reaches least entries more image (whole_front least entries image within newest has)
either_reaches least entries more image within newest (inr has) = marked_reaches least entries more image within newest has

-- the same once the frame is committed
pub either_front : (least : ℕ) (entries more : List Entry) (image : List ℕ) → least ≤ length entries → version_of image ≡ 2
    → IsLogOf entries image ⊎ IsLogOf (entries ++ more) image → IsFront least (entries ++ more) image
either_front least entries more image within newest (inl has) = front_longer least entries more image (whole_front least entries image within newest has)
either_front least entries more image within newest (inr has) = whole_front least (entries ++ more) image (omega (arith, within, length-append entries more)) newest has
