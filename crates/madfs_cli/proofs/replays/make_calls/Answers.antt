use Rattle.std.proofs.Common.{◌≡◌, ◌∙◌, List, [], ◌∷◌, ◌++◌, refl, sym, subst}
use Rattle.std.proofs.lemmas.List.{map-id}
use Rattle.std.proofs.lemmas.Iterator.Adapters.{YieldsList-from_vec}
use Rattle.std.proofs.lemmas.Iterator.Consumers.{YieldsList-end}
use Rattle.log_entry.proofs.HistoryLemmas.{Mirrors, Mirrors-push}
use Rattle.log_entry.specs.declared.calls.Call.{Call}
use Rattle.log_entry.specs.declared.calls.Job.{Job}
use Rattle.plain_engine.proofs.ReplayLemmas.{SoFar, SoFar-none, SoFar-push, record_of, Replays-all}
use Rattle.madfs_cli.proofs.replays.make_calls.Goals as goal

pub loop-job-init : goal.loop-job-init
loop-job-init g c = record {
  mirrors = subst (λ (l : List Call). Mirrors l []) (sym c.in_ok-calls.ensures.items) tt;
  so_far = λ chain file runs. SoFar-none c.args.engine.now chain file c.in_ok-calls.calls.items c.in_ok-calls.ensures.items runs;
}

pub loop-job-preserved : goal.loop-job-preserved
loop-job-preserved g c = record {
  mirrors = subst (λ (l : List Call). Mirrors l (c.loop-job.yielded ++ c.in-Some.job ∷ [])) (sym c.in_ok-push.ensures.items)
      (Mirrors-push c.loop-job.calls.items c.loop-job.yielded (record_of c.in-Some.job c.position.result c.in_ok-reply.reply) c.in-Some.job c.loop-job.invariant.mirrors refl refl refl);
  so_far = λ chain file runs. subst (λ (l : List Call). SoFar c.args.engine.now c.answer.new.self chain file l) (sym c.in_ok-push.ensures.items)
      (SoFar-push c.args.engine.now c.loop-job.engine c.answer.new.self chain file c.loop-job.calls.items c.in-Some.job c.in_ok-reply.reply c.position.result c.position.ensures (c.loop-job.invariant.so_far chain file runs) c.in_ok-reply.ensures.serves);
}

pub returns : goal.returns
returns g c = λ chain file runs.
    let began = c.into_iter-job-iterator.ensures.into_iter_gives in
    let ended = YieldsList-end (YieldsList-from_vec {s = c.into_iter-job-iterator.result} c.args.jobs.items began.0 (began.1 ∙ c.args.jobs.ok.0)) c.loop-job.yielded c.loop-job.job-iterator c.loop-job.yielded_by c.next.result c.next.new.self c.in-None.is c.next.ensures.steps in
    let whole : c.loop-job.yielded ≡ c.args.jobs.items = simp map-id at ended.0 in
    Replays-all c.args.engine.now c.loop-job.engine chain file c.args.jobs.items c.loop-job.calls.items c.requires
    (subst (λ (l : List Job). Mirrors c.loop-job.calls.items l) whole c.loop-job.invariant.mirrors) (c.loop-job.invariant.so_far chain file runs)
