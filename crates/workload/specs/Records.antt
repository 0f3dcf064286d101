-- The record of a draft. The rules are this project's own.
use Rattle.std.specs.Prelude.{ℕ, ◌+◌, ◌/◌, List, [], ◌∷◌, ◌++◌, codes}
use Rattle.std.specs.Fmt.{decimal}
use Rattle.marc_types.specs.declared.field.Tag.{Tag}
use Rattle.marc_types.specs.declared.field.Leader.{Leader}
use Rattle.marc_types.specs.declared.field.Subfield.{Subfield}
use Rattle.marc_types.specs.declared.field.Field.{Field}
use Rattle.marc_types.specs.declared.field.Field.TheVariants.{Control, Variable}
use Rattle.iso2709_record.specs.Written.{record_bytes}
use Rattle.workload.specs.declared.drafts.Draft.{Draft}
use Rattle.workload.specs.declared.drafts.Draft.TheVariants.{Authority, LinkedAuthority, Deletion, Bibliographic}

-- a record's leader and fields
pub record Contents : Type 0 where
  pub leader : Leader
  pub fields : List Field

-- its written form
abbrev pub contents_bytes : Contents → List ℕ
contents_bytes c = record_bytes c.leader c.fields

-- a tag of three digits
abbrev pub tag : ℕ → ℕ → ℕ → Tag
tag a b c = record { a = 48 + a; b = 48 + b; c = 48 + c }

-- a blank
abbrev pub blank : ℕ
blank = 32

-- authority data: type `z`, encoding level `n`
abbrev pub authority_leader : ℕ → Leader
authority_leader status = record {
  status = status;
  rtype = 122;
  level = blank;
  control = blank;
  encoding = 110;
  form = blank;
  linked = blank;
}

-- a new monograph: status `n`, type `a`, level `m`, full level, form `a` (AACR 2)
abbrev pub bibliographic_leader : Leader
bibliographic_leader = record {
  status = 110;
  rtype = 97;
  level = 109;
  control = blank;
  encoding = blank;
  form = 97;
  linked = blank;
}

-- 001: a letter and a number
abbrev pub number_field : List ℕ → ℕ → Field
number_field letter number = Control (tag 0 0 1) (letter ++ decimal number)

-- 003: `UCAT`
abbrev pub organisation_field : Field
organisation_field = Control (tag 0 0 3) (codes "UCAT")

-- `NameN, VM`
abbrev pub name_text : ℕ → ℕ → List ℕ
name_text name variant = codes "Name" ++ decimal name ++ codes ", V" ++ decimal variant

-- `AliasN, X`
abbrev pub alias_text : ℕ → List ℕ
alias_text alias = codes "Alias" ++ decimal alias ++ codes ", X"

-- a subfield of a code and a text
abbrev pub subfield : ℕ → List ℕ → Subfield
subfield code text = record { code = code; text = text }

-- a personal name, surname first, in `$a` alone
abbrev pub name_field : Tag → List ℕ → Field
name_field field_tag text = Variable field_tag 49 blank (subfield 97 text ∷ [])

-- 100 `$a`, and `$e` for the author
abbrev pub author_field : ℕ → Field
author_field author = Variable (tag 1 0 0) 49 blank (subfield 97 (alias_text author) ∷ subfield 101 (codes "author") ∷ [])

-- 245 `$a`
abbrev pub title_field : ℕ → Field
title_field number = Variable (tag 2 4 5) 48 48 (subfield 97 (codes "Title " ++ decimal number) ∷ [])

-- a heading, and a see from tracing that two names share
unfoldable pub authority_fields : ℕ → ℕ → List Field
authority_fields name variant =
    number_field (codes "a") name ∷ organisation_field
    ∷ name_field (tag 1 0 0) (name_text name variant)
    ∷ name_field (tag 4 0 0) (alias_text (name / 2)) ∷ []

-- with a see also from tracing by an alias
unfoldable pub linked_authority_fields : ℕ → ℕ → ℕ → List Field
linked_authority_fields name variant other = authority_fields name variant ++ name_field (tag 5 0 0) (alias_text other) ∷ []

-- 001 and 003 alone
unfoldable pub deletion_fields : ℕ → List Field
deletion_fields name = number_field (codes "a") name ∷ organisation_field ∷ []

-- 001, 003 and the author's field
unfoldable pub bibliographic_fields : ℕ → ℕ → List Field
bibliographic_fields number author =
    number_field (codes "b") number ∷ organisation_field ∷ author_field author ∷ title_field number ∷ []

-- the record of a draft; a deletion has the leader status `d`
abbrev pub contents_of : Draft → Contents
contents_of (Authority name variant) = record { leader = authority_leader 110; fields = authority_fields name variant }
contents_of (LinkedAuthority name variant other) =
    record { leader = authority_leader 110; fields = linked_authority_fields name variant other }
contents_of (Deletion name) = record { leader = authority_leader 100; fields = deletion_fields name }
contents_of (Bibliographic number author) =
    record { leader = bibliographic_leader; fields = bibliographic_fields number author }
