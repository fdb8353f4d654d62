-- The collections of calls that rise are in turn, and what the other replies of collections say is so.
use Rattle.std.proofs.Common.{◌≡◌, ◌<◌, ◌+◌, ◌-◌, ◌==◌, ◌||◌, ℕ, zero, suc, true, Bool, List, length, map, sym, ◌∙◌, ap, arith}
use Rattle.std.specs.List.{AllByRecursion, list_any}
use Rattle.std.proofs.lemmas.Bool.{eq-eqb, or_right}
use Rattle.log_entry.specs.declared.calls.CollectRefusal.TheVariants.{Nothing, NoSpace, Overtaken, GenerationLimit}
use Rattle.log_entry.specs.declared.calls.Reply.{Reply}
use Rattle.log_entry.specs.declared.calls.Reply.TheVariants.{Wrote, Appended, NotWritten, Bytes, Size as FileSize, Synced, Collected, NotCollected}
use Rattle.log_entry.specs.declared.calls.Call.{Call}
use Rattle.log_core.specs.Origin.{Origin, first_generation, start_base, Generation}
use Rattle.log_core.specs.Order.{nth_generation}
use Rattle.log_core.specs.Records.{SaysOfGenerations}
use Rattle.log_core.specs.Histories.{Put, collections, SaysOfCollections, HasCollections}
use Rattle.log_core.proofs.Each.{each_weaker}
use Rattle.log_core.proofs.following.Rising.{Rises}
use Rattle.log_core.proofs.following.InTurn.{PutOnce, found_put, Turns, turns}

module _ (o : Origin) (generations : List Generation) (rise : (place : ℕ) → place + 1 < length generations → (nth_generation generations place).base < (nth_generation generations (place + 1)).base)
    (some : 0 < length generations) (from_start : (nth_generation generations 0).base ≡ start_base o) (calls : List Call)
    (all : AllByRecursion (λ (call : Call). SaysOfGenerations o generations call.position call.reply) calls) (rises : Rises calls) (once : PutOnce o generations (first_generation o) calls) where
  abbrev first : ℕ
  first = first_generation o

  abbrev puts : List Put
  puts = collections calls

  turned : Turns o generations rise first (start_base o) puts
  turned = turns o generations rise first (start_base o) calls (record {
    low = omega arith;
    below = omega (arith, some);
    at = sym from_start ∙ ap (λ (k : ℕ). (nth_generation generations k).base) (omega arith);
    all = all;
    rises = rises;
    none = λ k low upto. absurd (omega (arith, low, upto));
    once = once;
  })

  -- a position of a generation's snapshot is the start's or a collection's
  at_base : (position place : ℕ) → place < length generations → position ≡ (nth_generation generations place).base →
      ((start_base o == position) || list_any (λ (p : ℕ). p == position) (map (λ (put : Put). put.position) puts)) ≡ true
  at_base position zero inside at = ap (λ (b : Bool). b || list_any (λ (p : ℕ). p == position) (map (λ (put : Put). put.position) puts)) (eq-eqb (start_base o) position (sym (at ∙ from_start)))
  at_base position (suc place) inside at =
      (let counts = once (first + suc place) (omega arith) (omega (arith, inside)) in
      let place_is : first + suc place - first ≡ suc place = omega arith in
      let there = (found_put o generations (first + suc place) calls all (omega (arith, counts))).1 in
      let base_is : (nth_generation generations (first + suc place - first)).base ≡ position = ap (λ (k : ℕ). (nth_generation generations k).base) place_is ∙ sym at in
      or_right (start_base o == position) (list_any (λ (p : ℕ). p == position) (map (λ (put : Put). put.position) puts))
      (sym (ap (λ (b : ℕ). list_any (λ (p : ℕ). p == b) (map (λ (put : Put). put.position) puts)) base_is) ∙ there))

  says : (position : ℕ) (reply : Reply) → SaysOfGenerations o generations position reply → SaysOfCollections first (start_base o) puts position reply
  says position (NotCollected Nothing) is = at_base position is.0 is.1 is.2
  says position (NotCollected (Overtaken generation)) is = (let counts = once generation is.0 is.1 in (found_put o generations generation calls all (omega (arith, counts))).0)
  says position (NotCollected GenerationLimit) is = (let count = turned.count in omega (arith, count, is))
  says position (NotCollected NoSpace) is = tt
  says position (Collected done) is = tt
  says position (Wrote count) is = tt
  says position (Appended at count) is = tt
  says position (NotWritten why) is = tt
  says position (Bytes bytes) is = tt
  says position (FileSize size) is = tt
  says position (Synced last) is = tt

  pub has_collections : HasCollections first (start_base o) calls
  has_collections = record {
    in_turn = turned.in_turn;
    each = each_weaker (λ (call : Call). SaysOfGenerations o generations call.position call.reply) (λ (call : Call). SaysOfCollections first (start_base o) puts call.position call.reply) calls
        (λ call is. says call.position call.reply is) all;
  }
