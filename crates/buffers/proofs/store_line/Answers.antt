use Rattle.buffers.specs.Buffers.{first_codes}
use Rattle.buffers.proofs.BufferLaws.{stored_from}
use Rattle.buffers.proofs.store_line.Goals as goal

pub returns-then-from-le-PLACES : goal.returns-then-from-le-PLACES
unfolding first_codes
returns-then-from-le-PLACES c =
    stored_from c.args.line.now c.args.at c.args.n c.args.buffer.now c.args.table.now c.args.s c.if-n-buffer.true c.written-from.ensures c.copy.ensures
