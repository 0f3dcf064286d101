use Rattle.std.proofs.Common.{◌≡◌, ◌+◌, ◌≤◌, ◌++◌, drop}
use Rattle.iso2709_record.specs.Written.{fields_length, directory_bytes}
use Rattle.written_record.proofs.written.WrittenRecord.append_entries.Given as goal

abbrev pub invariant-loop-entry : goal.invariant-loop-entry
invariant-loop-entry l = record {
  done : l.out.items ++ directory_bytes l.next (drop l.entry l.self.fields) ≡ l.fn.out.items ++ directory_bytes l.start (drop l.from l.self.fields);
  left : l.next + fields_length (drop l.entry l.self.fields) ≤ 99999;
}
