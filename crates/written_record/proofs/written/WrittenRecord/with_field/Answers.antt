use Rattle.written_record.proofs.Rewritten.{one_with, leader_with, fields_with, utf8_with}
use Rattle.written_record.proofs.written.WrittenRecord.with_field.Goals as goal

pub invariant_of-result : goal.invariant_of-result
invariant_of-result c =
    (one_with _ c.args.self.now.fields c.args.index c.args.field.now c.requires.valid _ _ c.requires.room c.from_vec.ensures c.in_ok-bytes.ensures, tt)

pub invariant_of-result-2 : goal.invariant_of-result-2
invariant_of-result-2 c =
    utf8_with _ c.args.self.now.fields c.args.index c.args.field.now _ _ c.result-1.given.0 c.requires.valid c.requires.room c.from_vec.ensures
    c.in_ok-bytes.ensures c.each_text_is_utf8.ensures c.texts_are_utf8.ensures

pub returns-clause-leader : goal.returns-clause-leader
returns-clause-leader c =
    leader_with _ c.args.self.now.fields c.args.index c.args.field.now _ _ c.result-1.given.0 c.requires.valid c.requires.room c.from_vec.ensures c.in_ok-bytes.ensures

pub returns-clause-fields : goal.returns-clause-fields
returns-clause-fields c =
    fields_with _ c.args.self.now.fields c.args.index c.args.field.now _ _ c.result-1.given.0 c.requires.valid c.requires.room c.from_vec.ensures c.in_ok-bytes.ensures
