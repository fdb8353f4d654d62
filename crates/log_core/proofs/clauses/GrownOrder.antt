-- The order of the heads and of the log, and what is synced, where a step puts a word more into the last log block.
use Rattle.std.proofs.Common.{◌≡◌, ◌≢◌, ◌<◌, ◌≤◌, ◌+◌, ◌-◌, ◌^◌, nat_lt, ℕ, Bool, true, false, List, length, refl, sym, ◌∙◌, ap, subst, arith}
use Rattle.std.proofs.lemmas.Bool.{ltb-true, ltb-false}
use Rattle.std.proofs.lemmas.List.{get_or_past}
use Rattle.log_entry.specs.Words.{head_word}
use Rattle.log_image.specs.Image.{words_in}
use Rattle.persistence.specs.Memory.{cell}
use Rattle.log_core.specs.Entries.{place_in}
use Rattle.log_core.specs.Origin.{Origin, shape, first_generation, LogBlock, no_log, Generation}
use Rattle.log_core.specs.Files.{end_of}
use Rattle.log_core.specs.Cores.{Core, head_floor, nth_log}
use Rattle.log_core.specs.Snapshots.{first_or}
use Rattle.log_core.specs.Order.{nth_generation, front_of, HeadsInOrder, GenerationsRise, LogStands, LogsStand}
use Rattle.log_core.specs.Certain.{IsCertain}
use Rattle.log_core.specs.Synced.{IsSyncedIn}
use Rattle.log_core.specs.Invariant.{Invariant, KeptIn}
use Rattle.log_core.proofs.ChainPlaces.{logs_apart}
use Rattle.log_core.proofs.clauses.Narrows.{Narrows, same_narrows, heads_narrow, log_narrows, synced_narrows}
use Rattle.log_core.proofs.clauses.Growth.{Growth, Grows, LogLater, last_log}
use Rattle.log_core.proofs.clauses.GrownWords.{last_inside, last_late, other_block, header_same}

-- behind the last log block there is none
pub past_last : (logs : List LogBlock) (number : ℕ) → length logs ≤ number → nth_log logs number ≡ no_log
past_last logs number past = get_or_past logs number no_log past

-- a number that another one follows, or none does
pub before_last : {P : Type 0} (number count : ℕ) → (number + 1 < count → P) → (count ≤ number + 1 → P) → P
before_last {P} number count before last = go (nat_lt (number + 1) count) refl
  where
    go : (b : Bool) → nat_lt (number + 1) count ≡ b → P
    go true e = before (ltb-true (number + 1) count e)
    go false e = last (ltb-false (number + 1) count e)

module _ (o : Origin) (c : Core) (x : Growth) (inv : Invariant o c) (grows : Grows o c x) where
  abbrev gen : ℕ → Generation
  gen place = nth_generation c.generations place

  -- a chain's first block stays
  pub front_same : (place : ℕ) → place < length c.generations → front_of x.logs (gen place) ≡ front_of c.logs (gen place)
  front_same place inside = ap (λ (block : ℕ). first_or (gen place).snapshots block) (grows.logs.each (gen place).cut (inv.order.generations_rise.cut_inside place inside)).block

  -- the heads are in order
  pub heads_grown : HeadsInOrder o (λ word. cell x.memory word) c.generations x.logs
  heads_grown = (let r = heads_narrow o (λ word. cell c.memory word) (λ word. cell x.memory word) c.generations c.logs
      (λ word low. same_narrows c.memory x.memory word (header_same o c x inv grows word low)) inv.order.heads in
      record {
        header = r.header;
        some = r.some;
        few = r.few;
        count = r.count;
        floor = r.floor;
        small = λ place inside. subst (λ (block : ℕ). block < 2 ^ 16) (sym (front_same place inside)) (r.small place inside);
        each = λ place inside. r.each place inside ∙ ap (λ (block : ℕ). head_word (record { generation = first_generation o + place; block = block })) (sym (front_same place inside));
      })

  -- generations rise
  pub rise_grown : GenerationsRise o (end_of o x.history) c.generations x.logs
  rise_grown = (let r = inv.order.generations_rise in record {
    from_first = r.from_first;
    to_end = λ place inside. (let upto = r.to_end place inside in let more = grows.history.longer in omega (arith, upto, more));
    rise = r.rise;
    cuts_rise = r.cuts_rise;
    cut_inside = λ place inside. (let low = r.cut_inside place inside in let more = grows.logs.longer in omega (arith, low, more));
    cut_base = λ place inside. (grows.logs.each (gen place).cut (r.cut_inside place inside)).base ∙ r.cut_base place inside;
  })

  -- each other log block of a kept chain is another block than the last one
  other_log : (place number : ℕ) → KeptIn o c place → (gen place).cut ≤ number → number + 1 < length c.logs → (nth_log c.logs number).block ≢ (last_log c).block
  other_log place number kept late before = logs_apart o c inv place kept number (length c.logs - 1) late (omega (arith, before)) (last_inside o c inv)

  -- so its words stay
  log_same : (place number : ℕ) → KeptIn o c place → (gen place).cut ≤ number → number + 1 < length c.logs → (k : ℕ) → k < words_in (shape o) →
      Narrows (cell c.memory (place_in (shape o) (nth_log c.logs number).block k)) (cell x.memory (place_in (shape o) (nth_log c.logs number).block k))
  log_same place number kept late before k inside = same_narrows c.memory x.memory (place_in (shape o) (nth_log c.logs number).block k)
      (other_block o c x inv grows (nth_log c.logs number).block k (other_log place number kept late before) inside)

  -- the last one stands with no block behind it
  pub last_stands : (place : ℕ) → KeptIn o c place → LogStands (shape o) (λ word. cell c.memory word) (last_log c) 0
  last_stands place kept = subst (λ (log : LogBlock). LogStands (shape o) (λ word. cell c.memory word) (last_log c) log.block)
      (past_last c.logs (length c.logs - 1 + 1) (omega arith))
      (inv.order.chains place kept (length c.logs - 1) (last_late o c inv place kept) (last_inside o c inv))

  -- the log blocks of a kept generation stand
  pub chains_grown : (place : ℕ) → KeptIn o c place → LogsStand (shape o) (λ word. cell x.memory word) x.logs (gen place).cut
  chains_grown place kept number late inside = before_last number (length c.logs)
      (λ before. subst (λ (log : LogBlock). LogStands (shape o) (λ word. cell x.memory word) log (nth_log x.logs (number + 1)).block) (sym (grows.logs.same number before))
      (subst (λ (block : ℕ). LogStands (shape o) (λ word. cell x.memory word) (nth_log c.logs number) block) (sym (grows.logs.each (number + 1) before).block)
      (log_narrows (shape o) (λ word. cell c.memory word) (λ word. cell x.memory word) (nth_log c.logs number) (nth_log c.logs (number + 1)).block (let wide = inv.sizes.image.wide in omega (arith, wide))
      (log_same place number kept late before) (inv.order.chains place kept number late (omega (arith, before))))))
      (λ last. grows.stands (last_stands place kept) number last inside)

  -- and what was synced is
  pub synced_grown : (place number : ℕ) → KeptIn o c place → head_floor c.memory ≤ place → (gen place).cut ≤ number → number < length x.logs →
      IsSyncedIn (shape o) (λ word. cell x.memory word) c.synced (nth_log x.logs number) (nth_log x.logs (number + 1))
  synced_grown place number kept low late inside = before_last number (length c.logs)
      (λ before. subst (λ (log : LogBlock). IsSyncedIn (shape o) (λ word. cell x.memory word) c.synced log (nth_log x.logs (number + 1))) (sym (grows.logs.same number before))
      (next_same (nth_log c.logs number) (nth_log c.logs (number + 1)) (nth_log x.logs (number + 1)) (grows.logs.each (number + 1) before)
      (synced_narrows (shape o) (λ word. cell c.memory word) (λ word. cell x.memory word) c.synced (nth_log c.logs number) (nth_log c.logs (number + 1)) (inv.order.log.inside number (omega (arith, before)))
      (log_same place number kept late before) (inv.syncs.words place number low kept.inside late (omega (arith, before))))))
      (λ last. grows.synced c.synced inv.syncs.to_end (nth_log c.logs (length c.logs - 1 + 1))
      (inv.syncs.words place (length c.logs - 1) low kept.inside (last_late o c inv place kept) (last_inside o c inv)) number last inside)
    where
      next_same : (log before after : LogBlock) → LogLater (shape o) before after → IsSyncedIn (shape o) (λ word. cell x.memory word) c.synced log before → IsSyncedIn (shape o) (λ word. cell x.memory word) c.synced log after
      next_same log before after later r = record {
        slots = r.slots;
        link = λ some low. subst (λ (block : ℕ). IsCertain (cell x.memory (place_in (shape o) log.block 0)) block) (sym later.block)
            (r.link (λ none. some (later.block ∙ none)) (subst (λ (base : ℕ). base < c.synced) later.base low));
      }
