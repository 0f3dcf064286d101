-- Worked cases of the choice, as data: authorities with the forms under which they are found, and fields as they come in.
use Rattle.std.specs.Prelude.{ℕ, List, [], ◌∷◌, codes}
use Rattle.marc_types.specs.declared.field.Subfield.{Subfield}
use Rattle.marc_types.specs.declared.field.Field.{Field}
use Rattle.marc_types.specs.declared.field.Field.TheVariants.{Variable}
use Rattle.marc_types.specs.declared.key.Key.{Key}
use Rattle.marc_types.specs.declared.form.Kind.TheVariants.{Personal, Topical}
use Rattle.marc_types.specs.declared.form.Item.{Item}
use Rattle.marc_types.specs.declared.form.Form.{Form}
use Rattle.entry_record.specs.Authority.{Linkable}

-- a subfield
abbrev pub subfield : ℕ → List ℕ → Subfield
subfield code text = record { code = code; text = text }

-- an item of a form
abbrev pub item : ℕ → List ℕ → Item
item code text = record { code = code; text = text }

-- a key of the Library of Congress
abbrev pub dlc_key : List ℕ → Key
dlc_key number = record { code = codes "DLC"; number = number }

-- `100 1_ $a`, `150 __`, `700 1_` and `650 _0`
abbrev pub name_heading : List ℕ → Field
name_heading name = Variable (record { a = 49; b = 48; c = 48 }) 49 32 (subfield 97 name ∷ [])

-- a heading `150 __`
abbrev pub topic_heading : List Subfield → Field
topic_heading subs = Variable (record { a = 49; b = 53; c = 48 }) 32 32 subs

-- a field `700 1_`
abbrev pub added_name : List Subfield → Field
added_name subs = Variable (record { a = 55; b = 48; c = 48 }) 49 32 subs

-- a field `650 _0`
abbrev pub topic : List Subfield → Field
topic subs = Variable (record { a = 54; b = 53; c = 48 }) 32 48 subs

-- the form of a name
abbrev pub name_form : List ℕ → Form
name_form name = record { kind = Personal; items = item 97 name ∷ [] }

-- the form of a topic
abbrev pub topic_form : List Item → Form
topic_form items = record { kind = Topical; items = items }

-- Mark Twain, also found as Samuel Clemens
abbrev pub twain : Linkable
twain = record {
  key = dlc_key (codes "n79021164");
  kind = Personal;
  heading = name_heading (codes "Twain, Mark");
  established = name_form (codes "twain, mark");
  see_from = name_form (codes "clemens, samuel") ∷ [];
}

-- an authority Jane Doe
abbrev pub doe : List ℕ → Linkable
doe number = record {
  key = dlc_key number;
  kind = Personal;
  heading = name_heading (codes "Doe, Jane");
  established = name_form (codes "doe, jane");
  see_from = [];
}

-- Women--History, and Women
abbrev pub women_history : Linkable
women_history = record {
  key = dlc_key (codes "sh3");
  kind = Topical;
  heading = topic_heading (subfield 97 (codes "Women") ∷ subfield 120 (codes "History") ∷ []);
  established = topic_form (item 97 (codes "women") ∷ item 120 (codes "history") ∷ []);
  see_from = [];
}

-- Women
abbrev pub women : Linkable
women = record {
  key = dlc_key (codes "sh4");
  kind = Topical;
  heading = topic_heading (subfield 97 (codes "Women") ∷ []);
  established = topic_form (item 97 (codes "women") ∷ []);
  see_from = [];
}

-- `700 1_ $aTwayne, M.$0(DLC)n 79021164`
abbrev pub numbered : Field
numbered = added_name (subfield 97 (codes "Twayne, M.") ∷ subfield 48 (codes "(DLC)n 79021164") ∷ [])

-- `700 1_ $aClemens, Samuel` and `700 1_ $aDOE, JANE`
abbrev pub clemens : Field
clemens = added_name (subfield 97 (codes "Clemens, Samuel") ∷ [])

-- `700 1_ $aDOE, JANE`
abbrev pub shouted_doe : Field
shouted_doe = added_name (subfield 97 (codes "DOE, JANE") ∷ [])

-- `650 _0 $aWOMEN$zFrance`
abbrev pub french_women : Field
french_women = topic (subfield 97 (codes "WOMEN") ∷ subfield 122 (codes "France") ∷ [])
