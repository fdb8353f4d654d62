-- The collections of a run wherever it stops, with those whose running calls have put their head in place, put each generation in place in turn.
use Rattle.std.specs.List.{AllByRecursion}
use Rattle.std.proofs.Common.{◌≡◌, List, refl, sym, ℕ, ap, arith, ◌++◌, IsPermutation, [], ◌∷◌, ◌∙◌, sum_by}
use Rattle.std.proofs.lemmas.List.Sorted.{sum_by-IsPermutation}
use Rattle.std.proofs.lemmas.List.Sums.{sum_by-cons}
use Rattle.log_entry.specs.declared.calls.Op.{Op}
use Rattle.log_entry.specs.declared.calls.Call.{Call}
use Rattle.log_core.specs.Origin.{Origin, Generation, first_generation, start_base}
use Rattle.log_core.specs.Steps.{Step}
use Rattle.log_core.specs.Runs.{end, IsRun}
use Rattle.log_core.proofs.Each.{each_weaker}
use Rattle.log_entry.specs.Order.{IsInOrder}
use Rattle.log_core.specs.Cores.{Core}
use Rattle.log_core.specs.Invariant.{Invariant}
use Rattle.log_core.proofs.kinds.RunHolds.{run_from}
use Rattle.log_core.specs.Starts.{IsStart}
use Rattle.log_core.specs.Histories.{IsQuietCall, recorded_calls, AreQuiet, running_writes, HasCollections, running_collections, running_calls}
use Rattle.log_core.proofs.starts.StartMeets.{start_meets}
use Rattle.log_core.specs.Files.{accepted_reply}
use Rattle.log_core.proofs.following.RecordedCalls.{each_running, collected_over}
use Rattle.log_core.proofs.following.CallsInTime.{each_quiet}
use Rattle.log_entry.specs.declared.calls.Op.TheVariants.{Pwrite, Append, Pread, Size, Sync, Collect}
use Rattle.log_core.specs.Records.{collects, collected_in, SaysOfGenerations}
use Rattle.log_core.proofs.following.Stands.{Stands}
use Rattle.log_core.proofs.following.InTurn.{PutOnce}
use Rattle.log_core.proofs.clauses.JoinedParts.{collected_join}
use Rattle.log_core.proofs.following.Rising.{rises_in_order}
use Rattle.log_core.proofs.following.CollectedCalls.{has_collections}
use Rattle.log_core.proofs.following.Moments.{first_stays}
use Rattle.log_core.proofs.following.QuietCalls.{no_collection_quiet}
use Rattle.log_core.proofs.following.StoppedRuns.{whole_stand}
use Rattle.log_core.proofs.following.RunningCalls.{running_calls_stand, running_calls_write}

-- an accepted write collects nothing
write_collects : (generation : ℕ) (op : Op) (at : ℕ) → collects generation (accepted_reply op at) ≡ 0
write_collects generation (Pwrite offset bytes) at = refl
write_collects generation (Append bytes) at = refl
write_collects generation (Pread offset count) at = refl
write_collects generation Size at = refl
write_collects generation Sync at = refl
write_collects generation Collect at = refl

collected_sum : (generation : ℕ) (calls : List Call) → collected_in generation calls ≡ sum_by (λ (call : Call). collects generation call.reply) calls
collected_sum generation [] = refl
collected_sum generation (call ∷ calls) = (let rest = collected_sum generation calls in let cons = sum_by-cons (λ (c : Call). collects generation c.reply) call calls in omega (arith, rest, cons))

collected_permuted : (generation : ℕ) (calls others : List Call) → IsPermutation calls others → collected_in generation others ≡ collected_in generation calls
collected_permuted generation calls others same = collected_sum generation others ∙ (sum_by-IsPermutation (λ (c : Call). collects generation c.reply) calls others same ∙ sym (collected_sum generation calls))

no_collections : (generation : ℕ) (calls : List Call) → AllByRecursion (λ (call : Call). collects generation call.reply ≡ 0) calls → collected_in generation calls ≡ 0
no_collections generation [] none = refl
no_collections generation (call ∷ calls) none = (let rest = no_collections generation calls none.1 in let here = none.0 in omega (arith, rest, here))

module _ (o : Origin) (start : IsStart o) (steps : List Step) (run : IsRun o steps) (quiet calls : List Call)
    (are : AreQuiet o (end o steps) steps quiet) (same : IsPermutation (recorded_calls (end o steps).views ++ quiet) calls) where
  abbrev c : Core
  c = end o steps

  inv : Invariant o c
  inv = run_from o steps (start_meets o start) run

  abbrev Says : Call → Type 0
  Says call = SaysOfGenerations o c.generations call.position call.reply

  module _ (whole : List Call) (put_in : IsPermutation (calls ++ running_calls o c) whole) (order : IsInOrder whole) where
    -- what each says of generations is so
    say : AllByRecursion Says whole
    say = each_weaker (Stands o c.history c.generations) Says whole (λ call stands. stands.holds.of_generations)
        (whole_stand o start steps run quiet calls are same (running_calls o c) (running_calls_stand o steps start run) (running_calls_write o steps start run) whole put_in order)

    puts_once : PutOnce o c.generations (first_generation o) whole
    puts_once generation low below =
        (let permuted_whole = collected_permuted generation (calls ++ running_calls o c) whole put_in in
        let both_whole = collected_join generation calls (running_calls o c) in
        let both_late = collected_join generation (running_writes o c) (running_collections c.views) in
        let permuted = collected_permuted generation (recorded_calls c.views ++ quiet) calls same in
        let both = collected_join generation (recorded_calls c.views) quiet in
        let over = collected_over generation c.views in
        let once = inv.records.collected_once generation low (omega (arith, below)) in
        let writes = no_collections generation (running_writes o c) (each_running o c inv (λ (call : Call). collects generation call.reply ≡ 0) (λ k won. write_collects generation _ _)) in
        let none = no_collections generation quiet (each_weaker (IsQuietCall o steps c) (λ (call : Call). collects generation call.reply ≡ 0) quiet (λ call is. no_collection_quiet o steps start run c.generations call is generation)
        (each_quiet o c steps quiet are)) in
        omega (arith, permuted_whole, both_whole, both_late, permuted, both, over, once, writes, none))

    pub whole_collections : HasCollections (first_generation o) (start_base o) whole
    whole_collections = has_collections o c.generations inv.order.generations_rise.rise (first_stays o steps).some (ap (λ (g : Generation). g.base) (first_stays o steps).same) whole say (rises_in_order whole order) puts_once
