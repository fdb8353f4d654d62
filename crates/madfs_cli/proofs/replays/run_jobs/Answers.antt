-- The run of an engine that starts from what the words stand for.
use Rattle.std.proofs.Common.{ap, ℕ, Vec, Global}
use Rattle.madfs_cli.proofs.TraceLemmas.{one_seat}
use Rattle.madfs_cli.proofs.RunLemmas.{run_of, kinds_of}
use Rattle.madfs_cli.proofs.replays.run_jobs.Goals as goal

pub make_calls-requires : goal.make_calls-requires
make_calls-requires g c = one_seat c.args.jobs.items c.requires.trace

pub print_report-requires : goal.print_report-requires
print_report-requires g c =
    let stands = c.requires.stands in
    let runs = c.in_ok-engine.ensures.runs stands.0 stands.1 stands.2 stands.3 in
    kinds_of c.in_ok-engine.engine c.make_calls.new.engine stands.0 stands.1 c.args.jobs.items c.in_ok-calls.calls.items c.deref.result.now (c.in_ok-calls.ensures stands.0 stands.1 runs.1) c.deref.ensures.value

pub returns : goal.returns
returns g c = λ chain file position stands.
    let runs = c.in_ok-engine.ensures.runs chain file position stands in
    run_of c.args.start.words.items c.in_ok-engine.engine c.make_calls.new.engine chain file position c.args.jobs.items c.in_ok-calls.calls.items c.in_ok-text.text.items c.position.result c.size.result c.into_words.result.items
    (ap (λ (words : Vec ℕ Global). words.items) c.in_ok-engine.ensures.words) runs.0 runs.1 (c.in_ok-calls.ensures chain file runs.1)
    (rw c.deref.ensures.value at c.in_ok-text.ensures) c.position.ensures c.size.ensures (ap (λ (words : Vec ℕ Global). words.items) c.into_words.ensures)
