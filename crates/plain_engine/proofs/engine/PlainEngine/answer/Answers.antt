use Rattle.plain_engine.proofs.engine.PlainEngine.answer.Goals as goal

pub returns-in-Pwrite-clause-serves : goal.returns-in-Pwrite-clause-serves
returns-in-Pwrite-clause-serves c = rw c.in-Pwrite.is c.pwrite.ensures

pub returns-in-Append-clause-serves : goal.returns-in-Append-clause-serves
returns-in-Append-clause-serves c = rw c.in-Append.is c.append.ensures
