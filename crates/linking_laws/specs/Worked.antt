-- Worked cases of what a commit touches, as data: a name that is linked to Mark Twain, and commits over it.
use Rattle.std.specs.Prelude.{ℕ, false, [], ◌∷◌, Some, None, codes}
use Rattle.marc_types.specs.declared.field.Leader.{Leader}
use Rattle.marc_types.specs.declared.field.Field.{Field}
use Rattle.marc_types.specs.declared.field.Field.TheVariants.{Variable}
use Rattle.marc_types.specs.declared.key.Class.TheVariants.{Authority, Bibliographic}
use Rattle.marc_types.specs.declared.key.Key.{Key}
use Rattle.catalogue_rules.specs.State.{KeptField, Row, State, new_field}
use Rattle.catalogue_rules.specs.Settle.{Arrival}
use Rattle.catalogue_rules.specs.Worked.{added_name, dlc_key, name_heading, numbered, subfield}

-- leader 05 and 06
abbrev pub leader_of : ℕ → ℕ → Leader
leader_of status rtype = record { status = status; rtype = rtype; level = 32; control = 32; encoding = 97; form = 32; linked = 32 }

-- Mark Twain's key
abbrev pub twain_key : Key
twain_key = dlc_key (codes "n79021164")

-- the key of his successor
abbrev pub clemens_key : Key
clemens_key = dlc_key (codes "n2")

-- Mark Twain's authority
abbrev pub twain_row : Row
twain_row = (twain_key, record { leader = leader_of 110 122; fields = new_field (name_heading (codes "Twain, Mark")) ∷ [] })

-- a book under a key of its own, with one field
abbrev pub book_with : KeptField → Row
book_with h = (dlc_key (codes "b1"), record { leader = leader_of 110 97; fields = h ∷ [] })

-- `700 1_ $aTwain, Mark$0(DLC)n79021164`, linked
abbrev pub linked_name : KeptField
linked_name = record {
  field = added_name (subfield 97 (codes "Twain, Mark") ∷ subfield 48 (codes "(DLC)n79021164") ∷ []);
  tie = record { key = Some twain_key; whole = false; awaits = None };
}

-- Mark Twain, and a book linked to him
abbrev pub linked_state : State
linked_state = record { authorities = twain_row ∷ []; bibliographic = book_with linked_name ∷ [] }

-- leader 05 `x`, and `682 __ $0(DLC)n2`
abbrev pub replaced : Arrival
replaced = record {
  class = Authority;
  key = twain_key;
  leader = leader_of 120 122;
  fields = Variable (record { a = 54; b = 56; c = 50 }) 32 32 (subfield 48 (codes "(DLC)n2") ∷ []) ∷ [];
}

-- leader 05 `d`
abbrev pub deleted : Arrival
deleted = record { class = Authority; key = twain_key; leader = leader_of 100 122; fields = [] }

-- `700 1_ $aTwain, Mark`, as the replacement leaves it
abbrev pub plain_name : Field
plain_name = added_name (subfield 97 (codes "Twain, Mark") ∷ [])

-- the same name, which awaits the successor
abbrev pub awaiting_name : KeptField
awaiting_name = record { field = plain_name; tie = record { key = None; whole = false; awaits = Some clemens_key } }

-- the state that the replacement leaves
abbrev pub awaiting_state : State
awaiting_state = record {
  authorities = [];
  bibliographic = book_with awaiting_name ∷ [];
}

-- the successor comes
abbrev pub arrived : Arrival
arrived = record { class = Authority; key = clemens_key; leader = leader_of 110 122; fields = name_heading (codes "Clemens, Samuel") ∷ [] }

-- a book with `700 1_ $aTwayne, M.$0(DLC)n 79021164`
abbrev pub brought : Arrival
brought = record { class = Bibliographic; key = dlc_key (codes "b2"); leader = leader_of 110 97; fields = numbered ∷ [] }
