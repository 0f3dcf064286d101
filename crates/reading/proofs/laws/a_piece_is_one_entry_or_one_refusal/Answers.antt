use Rattle.reading.proofs.OneEntry.{one_entry, entry_or_refused, refused_in_file_once}
use Rattle.reading.proofs.laws.a_piece_is_one_entry_or_one_refusal.Goals as goal

pub returns : goal.returns
returns c = record {
  entry = λ loader ordinal. one_entry _ _ loader ordinal;
  either = λ loader ordinal. entry_or_refused _ _ loader ordinal;
  once = refused_in_file_once _ _;
}
