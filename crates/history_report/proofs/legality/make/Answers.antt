use Rattle.history_report.proofs.LegalLemmas.{write_within}
use Rattle.history_report.proofs.legality.make.Goals as goal

pub lay-requires : goal.lay-requires
lay-requires c = λ some.
    rw c.bytes.ensures (write_within c.args.geometry.now.block_bytes c.args.position c.args.file.now.items c.args.op.now c.args.reply.now c.in-Pwrite-Wrote.offset c.in-Pwrite-Wrote.length-1 c.in-Pwrite-Wrote.bytes c.args.geometry.now.block_allowed c.requires c.in-Pwrite-Wrote.is-0 c.in-Pwrite-Wrote.is-1 (rw c.bytes.ensures at some))
