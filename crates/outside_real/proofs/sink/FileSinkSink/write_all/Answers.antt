use Rattle.outside.proofs.Fronts.{front_then}
use Rattle.outside_real.proofs.sink.FileSinkSink.write_all.Goals as goal

pub returns-clause-gained : goal.returns-clause-gained
returns-clause-gained g c =
    rw c.counted-2.ensures.to (front_then _ _ _ _ _ c.in_ok-flush.ensures.written c.write_whole-written.ensures.front)
