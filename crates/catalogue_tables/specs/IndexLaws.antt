-- What is proved of the index: how it follows the authorities of a catalogue, each law as one statement.
use Rattle.std.specs.Prelude.{◌≡◌, ℕ, ◌<◌, List, length, Option, Some}
use Rattle.std.specs.List.{IsDistinct}
use Rattle.marc_types.specs.declared.form.Form.{Form}
use Rattle.marc_types.specs.declared.key.Class.TheVariants.{Authority}
use Rattle.marc_types.specs.declared.key.Key.{Key}
use Rattle.marc_types.specs.Order.{same_form, same_key}
use Rattle.numbering.specs.Numbers.{IsNumberOf, Keeps}
use Rattle.form_index.specs.Index.{Indexed, IsInOrder, Taken, row_under}
use Rattle.form_index.specs.declared.among.Among.{Among}
use Rattle.entry_record.specs.Authority.{Linkable, is_bare}
use Rattle.catalogue_rules.specs.Settle.{Arrival}
use Rattle.catalogue_rules.specs.State.{State, linkable_authorities}
use Rattle.catalogue_rules.specs.Valid.{IsAscending}
use Rattle.linking_laws.specs.Behind.{placed_in}
use Rattle.catalogue_tables.specs.Following.{FollowsAuthority, IsExchanged, IsWayBack, TellsAuthorities, authority_brought}
use Rattle.catalogue_tables.specs.Rows.{PutsAuthority, TellsRows, rows_among}

-- what the index tells of authorities stays while forms and keys get numbers
abbrev pub StaysToldWithNumbers : Type 0
StaysToldWithNumbers = (names more : List Form) (keys many : List Key) (x : Indexed) (all : List Linkable)
    → IsDistinct same_key keys → Keeps same_form names more → Keeps same_key keys many
    → TellsAuthorities names keys x all → TellsAuthorities more many x all

-- a row that was put is the authority's whose forms it has
abbrev pub FollowsByPutting : Type 0
FollowsByPutting = (names : List Form) (number : ℕ) (c : Linkable) (old new : Indexed)
    → PutsAuthority names number c.established c.see_from (is_bare c) old new → FollowsAuthority names number (Some c) old new

-- of two exchanges under one number the second counts
abbrev pub FollowsTheSecond : Type 0
FollowsTheSecond = (names : List Form) (number : ℕ) (one other : Option Linkable) (old middle new : Indexed)
    → FollowsAuthority names number one old middle → FollowsAuthority names number other middle new
    → FollowsAuthority names number other old new

-- once the index has followed the authority that has changed, it tells of those now
abbrev pub TellsBehindAuthority : Type 0
TellsBehindAuthority = (names : List Form) (keys : List Key) (key : Key) (number : ℕ) (authority : Option Linkable)
    (all now : List Linkable) (old new : Indexed)
    → IsNumberOf same_key keys key number → TellsAuthorities names keys old all → IsExchanged key authority all now
    → FollowsAuthority names number authority old new → IsInOrder keys new → TellsAuthorities names keys new now

-- with an authority's record in its place, or gone, the authority under its key is the one that it brought, and the others stay
abbrev pub PlacingExchanges : Arrival → State → Type 0
PlacingExchanges a s =
    IsExchanged a.key (authority_brought a) (linkable_authorities s) (linkable_authorities (placed_in Authority a s))

-- once the index has followed an entry, whose forms may have got numbers, it tells of the state with its record in its place
abbrev pub TellsBehindEntry : Type 0
TellsBehindEntry = (names more : List Form) (keys : List Key) (number : ℕ) (a : Arrival) (s : State) (old new : Indexed)
    → IsDistinct same_key keys → IsAscending s.authorities → IsNumberOf same_key keys a.key number → Keeps same_form names more
    → TellsAuthorities names keys old (linkable_authorities s) → FollowsAuthority more number (authority_brought a) old new
    → IsInOrder keys new → TellsAuthorities more keys new (linkable_authorities (placed_in Authority a s))

-- what the index tells stays where no row changes
abbrev pub StaysToldWithRows : Type 0
StaysToldWithRows = (names : List Form) (keys : List Key) (all : List Linkable) (old new : Indexed)
    → ((n : ℕ) → row_under n new ≡ row_under n old) → IsInOrder keys new
    → TellsAuthorities names keys old all → TellsAuthorities names keys new all

-- an index that tells of a state's authorities tells of their rows: of all, and of those with a bare heading
abbrev pub TellsRowsOfState : Type 0
TellsRowsOfState = (names : List Form) (keys : List Key) (x : Indexed) (s : State) (among : Among)
    → IsDistinct same_key keys → IsAscending s.authorities → TellsAuthorities names keys x (linkable_authorities s)
    → TellsRows among names keys x (rows_among among (linkable_authorities s))

-- a way back stays one while keys get numbers
abbrev pub WayBackStays : Type 0
WayBackStays = (keys more : List Key) (number : ℕ) (row : Option Taken) (before now : Indexed)
    → IsDistinct same_key keys → Keeps same_key keys more → number < length keys
    → IsWayBack keys number row before now → IsWayBack more number row before now
