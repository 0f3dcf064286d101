-- Which records are holdings, and which bibliographic record each belongs to. Source: MARC 21 Format for Holdings Data (leader
-- 06, and field 004, the control number of the related bibliographic record). That this number stands under the holding's own
-- code, the rules on blanks and numbers, and the order of the reasons are this project's own.
use Rattle.std.specs.Prelude.{◌≡◌, ℕ, ◌==◌, Bool, not, List, [], Option, Some, None, codes, unwrap_or, if◌then◌else◌}
use Rattle.std.specs.List.{list_any}
use Rattle.marc_types.specs.Valid.{is_code, is_number}
use Rattle.marc_types.specs.declared.field.Leader.{Leader}
use Rattle.marc_types.specs.declared.field.Field.{Field}
use Rattle.marc_types.specs.declared.key.Key.{Key}
use Rattle.marc_types.specs.declared.record.Record.{Record}
use Rattle.marc_types.specs.declared.refusal.Refusal.TheVariants.{OtherType, NoNumber, BadCode, NoRoom}
use Rattle.heading_fields.specs.Numbers.{without_blanks}
use Rattle.iso2709_record.specs.Written.{fits}
use Rattle.entry_record.specs.Identity.{first_control, control_number_of, code_of, key_of}
use Rattle.holdings.specs.declared.holding.Holding.{Holding}
use Rattle.holdings.specs.declared.refusal.HoldingRefusal.{HoldingRefusal}
use Rattle.holdings.specs.declared.refusal.HoldingRefusal.TheVariants.{OfRecord, NoTarget}

-- leader 06 of holdings data: of unknown form, of a multipart, of a single-part, and of a serial item
abbrev pub is_holdings_type : ℕ → Bool
is_holdings_type rtype = list_any (λ t. t == rtype) (codes "uvxy")

-- the first 004 without its blanks
unfoldable pub target_number_of : List Field → List ℕ
target_number_of fields = without_blanks (unwrap_or (first_control 52 fields) [])

-- the key of the bibliographic record that a holding belongs to
unfoldable pub target_of : List ℕ → List Field → Key
target_of library fields = record { code = code_of library fields; number = target_number_of fields }

-- the first reason for which a record of a file with this library code is no holding
unfoldable pub holding_refusal : List ℕ → Leader → List Field → Option HoldingRefusal
holding_refusal library l fields =
    if not (is_holdings_type l.rtype) then Some (OfRecord OtherType)
    else if not (is_number (control_number_of fields)) then Some (OfRecord NoNumber)
    else if not (is_code (code_of library fields)) then Some (OfRecord BadCode)
    else if not (is_number (target_number_of fields)) then Some NoTarget
    else if not (fits fields) then Some (OfRecord NoRoom)
    else None

-- the holding of a record, with its key and its target
pub record IsHoldingOf (library : List ℕ) (rec : Record) (h : Holding) : Type 0 where
  pub key_is : h.key ≡ key_of library rec.fields
  pub target_is : h.content.target ≡ target_of library rec.fields
  pub record_is : h.content.rec ≡ rec
