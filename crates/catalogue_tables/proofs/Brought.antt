-- The authority that an entry brings, by the forms that were made of it.
use Rattle.std.proofs.Common.{◌≡◌, ◌∙◌, sym, ap, refl, subst, ℕ, List, Bool, true, false, Option, Some, None, if◌then◌else◌}
use Rattle.std.specs.Prelude.{not, option_and_then}
use Rattle.std.specs.Option.{option_map, option_map_or}
use Rattle.marc_types.specs.declared.entry.Entry.{Entry}
use Rattle.marc_types.specs.declared.field.Field.{Field}
use Rattle.marc_types.specs.declared.form.Form.{Form}
use Rattle.marc_types.specs.declared.form.Kind.{Kind}
use Rattle.marc_types.specs.declared.key.Class.{Class}
use Rattle.marc_types.specs.declared.key.Class.TheVariants.{Authority, Bibliographic}
use Rattle.marc_types.specs.declared.key.Key.{Key}
use Rattle.marc_types.specs.Fields.{subfields_of}
use Rattle.form_index.specs.Index.{Indexed}
use Rattle.heading_fields.specs.Parts.{is_subdivided}
use Rattle.entry_record.specs.Authority.{Linkable, heading_of, is_bare, linkable_by, linkable_kind, linkable_of, linkable_with}
use Rattle.entry_record.specs.Identity.{is_deletion}
use Rattle.entry_record.specs.Prepared.{authority_in, authority_of, established_in, established_of, has_bare_heading, see_from_in, see_from_of}
use Rattle.catalogue_rules.specs.Settle.{arrival_of}
use Rattle.catalogue_tables.specs.Following.{FollowsAuthority, authority_brought}
use Rattle.catalogue_tables.specs.Rows.{PutsAuthority}
use Rattle.catalogue_tables.proofs.Followed.{follows_put}

-- ---- whose heading is bare

bare_kind : (key : Key) (fields : List Field) (f : Field) (c : Linkable) (o : Option Kind) → option_map (linkable_with key fields f) o ≡ Some c → c.heading ≡ f
bare_kind key fields f c None e = cc
bare_kind key fields f c (Some kind) e = let same : linkable_with key fields f kind ≡ c = cc in sym (ap (λ (d : Linkable). d.heading) same)

bare_of : (key : Key) (fields : List Field) (c : Linkable) (o : Option Field) → option_and_then (linkable_by key fields) o ≡ Some c
    → option_map_or (λ f. not (is_subdivided (subfields_of f))) o true ≡ is_bare c
bare_of key fields c None e = cc
bare_of key fields c (Some f) e = ap (λ (g : Field). not (is_subdivided (subfields_of g))) (sym (bare_kind key fields f c (linkable_kind f) e))

bare_linkable : (key : Key) (fields : List Field) (c : Linkable) → linkable_of key fields ≡ Some c → has_bare_heading fields ≡ is_bare c
unfolding linkable_of
bare_linkable key fields c e = bare_of key fields c (heading_of fields) e

-- ---- what an entry brings

in_authority : (class : Class) (key : Key) (fields : List Field) → class ≡ Authority → authority_in class key fields ≡ linkable_of key fields
in_authority Authority key fields e = refl
in_authority Bibliographic key fields e = cc

kept_brought : (e : Entry) → e.class ≡ Authority → is_deletion e.rec.leader ≡ false → authority_brought (arrival_of e) ≡ authority_of e
kept_brought e class kept =
    ap (λ b. if b then None else linkable_of e.key e.rec.fields) kept ∙ sym (in_authority e.class e.key e.rec.fields class)

put_of : (names : List Form) (number : ℕ) (o : Option Linkable) (form : Form) (bare : Bool) (old new : Indexed) → Some form ≡ established_in o
    → ((c : Linkable) → o ≡ Some c → bare ≡ is_bare c) → PutsAuthority names number form (see_from_in o) bare old new → FollowsAuthority names number o old new
put_of names number None form bare old new e is puts = cc
put_of names number (Some c) form bare old new e is puts =
    let same : form ≡ c.established = cc in
    follows_put names number c old new
    (subst (λ b. PutsAuthority names number c.established c.see_from b old new) (is c refl) (subst (λ f. PutsAuthority names number f c.see_from bare old new) same puts))

bare_in : (class : Class) (key : Key) (fields : List Field) (c : Linkable) → authority_in class key fields ≡ Some c → has_bare_heading fields ≡ is_bare c
bare_in Authority key fields c e = bare_linkable key fields c e
bare_in Bibliographic key fields c e = cc

-- the row that was put is that of the entry's authority
pub follows_entry : (names : List Form) (number : ℕ) (e : Entry) (form : Form) (see_from : List Form) (bare : Bool) (old new : Indexed) → e.class ≡ Authority → is_deletion e.rec.leader ≡ false
    → Some form ≡ established_of e → see_from ≡ see_from_of e → bare ≡ has_bare_heading e.rec.fields → PutsAuthority names number form see_from bare old new
    → FollowsAuthority names number (authority_brought (arrival_of e)) old new
follows_entry names number e form see_from bare old new class kept made traced is puts =
    subst (λ o. FollowsAuthority names number o old new) (sym (kept_brought e class kept))
    (put_of names number (authority_of e) form bare old new made (λ c h. is ∙ bare_in e.class e.key e.rec.fields c h)
    (subst (λ l. PutsAuthority names number form l bare old new) traced puts))
