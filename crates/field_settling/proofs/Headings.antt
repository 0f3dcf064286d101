-- The heading of a linkable authority is the first 1XX of its record, and its kind is that of the tag.
use Rattle.std.proofs.Common.{◌≡◌, ap, List, Option, Some, None, Bool, true, false}
use Rattle.std.specs.Prelude.{option_and_then, if◌then◌else◌, ◌&&◌}
use Rattle.std.specs.Option.{option_map}
use Rattle.marc_types.specs.Fields.{tag_of}
use Rattle.marc_types.specs.declared.field.Field.{Field}
use Rattle.marc_types.specs.declared.form.Kind.{Kind}
use Rattle.marc_types.specs.declared.key.Key.{Key}
use Rattle.heading_fields.specs.Tables.{authority_kind_of}
use Rattle.entry_record.specs.Authority.{Linkable, heading_of, linkable_of, linkable_by, linkable_kind, linkable_with, has_form, is_short_in_full, option_filter}
use Rattle.field_settling.specs.Held.{governing_of, with_kind}

abbrev beside : Field → Kind → Kind × Field
beside f kind = (kind, f)

abbrev own : Linkable → Kind × Field
own c = (c.kind, c.heading)

module _ (key : Key) (fields : List Field) where
  kind_found : (f : Field) (test : Kind → Bool) (kind : Option Kind) (c : Linkable)
      → option_map (linkable_with key fields f) (option_filter test kind) ≡ Some c → option_map (beside f) kind ≡ Some (c.kind, c.heading)
  kind_found f test None c e = cc
  kind_found f test (Some kind) c e = by (test kind) e
    where
      by : (b : Bool) → option_map (linkable_with key fields f) (if b then Some kind else None) ≡ Some c → Some (beside f kind) ≡ Some (own c)
      by true e = ap (option_map own) e
      by false e = cc

  field_found : (found : Option Field) (c : Linkable) → option_and_then (linkable_by key fields) found ≡ Some c → option_and_then with_kind found ≡ Some (c.kind, c.heading)
  unfolding linkable_kind
  field_found None c e = cc
  field_found (Some f) c e = kind_found f (λ kind. has_form f kind && is_short_in_full f kind) (authority_kind_of (tag_of f)) c e

  pub heading_found : (c : Linkable) → linkable_of key fields ≡ Some c → governing_of fields ≡ Some (c.kind, c.heading)
  unfolding linkable_of
  heading_found c e = field_found (heading_of fields) c e
