-- An exchange of the head keeps the invariant, won or lost.
use Rattle.log_image.specs.Image.{total}
use Rattle.log_core.specs.Snapshots.{first_or}
use Rattle.log_entry.specs.Words.{head_word}
use Rattle.std.proofs.Common.{◌≡◌, ◌≢◌, ◌<◌, ◌≤◌, ◌==◌, ℕ, Bool, true, false, List, [], length, refl, sym, subst, slice_index, slice_set, ◌^◌, arith, ◌∷◌, ◌+◌, eq-eqb, nat_lt}
use Rattle.std.proofs.lemmas.Bool.{eqb-true, ltb-true, and_parts}
use Rattle.asks.specs.declared.ask.Place.TheVariants.{Image}
use Rattle.asks.specs.declared.ask.Ask.TheVariants.{Exchange}
use Rattle.log_image.specs.Chains.{is_listed}
use Rattle.persistence.specs.Memory.{Memory, memory_after}
use Rattle.log_core.specs.Entries.{head_place}
use Rattle.log_core.specs.Views.{Ghost, view_of}
use Rattle.log_core.specs.Origin.{Origin}
use Rattle.log_core.specs.Files.{end_of}
use Rattle.log_core.specs.Cores.{Core}
use Rattle.log_core.specs.Works.{words_of, seat_shape}
use Rattle.log_core.specs.Steps.{head_exchanged, new_snapshots, replaced_by, stored_but, stored_if, put_if, overtaken_if}
use Rattle.log_core.specs.After.{generations_if, owner_if, recorded_if, new_generation}
use Rattle.log_core.specs.May.{MayExchangeHead}
use Rattle.log_core.specs.Invariant.{Invariant}
use Rattle.log_core.specs.Knows.{with_seat, Knows}
use Rattle.log_core.specs.Origin.{InChain, LeftTo}
use Rattle.log_core.proofs.clauses.Leaves.{no_changes, pins_leave, changes_leave}
use Rattle.log_core.proofs.clauses.SetCore.{set_core}
use Rattle.log_core.proofs.clauses.HeadMoved.{head_wins, head_lost}
use Rattle.log_core.proofs.kinds.ExchangesHead.{head_won}
use Rattle.log_core.proofs.ChainPlaces.{head_inside}
use Rattle.log_core.proofs.kinds.LosesHead.{lost_facts}
use Rattle.pmem_words.specs.Seats.{Seat}

-- a head word has 64 bits
head_low : (generation block : ℕ) → generation < 2 ^ 32 → block < 2 ^ 16 → head_word (record { generation = generation; block = block }) < 2 ^ 64
head_low generation block limit few = omega (arith, limit, few)

module _ (o : Origin) (c : Core) (n : ℕ) (s : Seat) (g : Ghost) (ends : List ℕ) (before next : ℕ) (inv : Invariant o c) (here : n < length c.views) (unspent : (view_of c.views n).parts ≢ [])
    (f : Knows o c n s g (slice_index c.memory.now.pins n) (slice_index ends n)) (may : MayExchangeHead o c g s before next)
    (ends_fit : length ends ≡ length c.began) (other_ends : (k : ℕ) → k ≢ n → slice_index ends k ≡ slice_index c.began k) (low_ends : (k : ℕ) → slice_index ends k ≤ end_of o c.history) where
  abbrev found : ℕ
  found = slice_index c.memory.now.words head_place

  abbrev memory : Memory
  memory = memory_after c.memory n (Exchange (Image head_place) before next)

  -- what contracts see of the seat, by whether it wins
  abbrev pub ghost_if : Bool → Ghost
  ghost_if won = record {
    marks = g.marks;
    stored = stored_if won (stored_but (words_of s) (λ block. is_listed (new_snapshots s next) block) g.stored) g.stored;
    call = record (g.call) { overtaken = overtaken_if won g.call.overtaken found; put = put_if won g.call.put s next };
  }

  abbrev pub exchanged_if : Bool → Core
  exchanged_if won = record c {
    memory = memory;
    views = slice_set c.views n (with_seat (view_of c.views n) (head_exchanged s next found won) (ghost_if won));
    generations = generations_if won c.generations (new_generation s c.logs next);
    owner = λ block. owner_if won (new_snapshots s next) InChain (owner_if won (replaced_by s) (LeftTo n) (c.owner block) block) block;
    recorded = λ block. recorded_if won (new_snapshots s next) s (c.recorded block) block;
    began = ends;
  }

  -- the next head has 64 bits: a generation of 32, and a block of the image
  next_small : next < 2 ^ 64
  next_small = rw may.next_is (head_low (s.hold.generation + 1) (first_or (new_snapshots s next) 0) (let limit = may.below_limit in omega (arith, limit)) (go (new_snapshots s next) refl))
    where
      go : (blocks : List ℕ) → new_snapshots s next ≡ blocks → first_or blocks 0 < 2 ^ 16
      go [] is = omega arith
      go (block ∷ blocks) is =
          (let listed : is_listed (new_snapshots s next) block ≡ true = subst (λ (l : List ℕ). is_listed l block ≡ true) (sym is) (rw (eq-eqb block block refl) refl) in
          let low = ltb-true block (total (seat_shape s)) (and_parts (nat_lt (seat_shape s).data_blocks block) (nat_lt block (total (seat_shape s))) (may.in_log block listed)).1 in
          let few = s.geometry.few_blocks in omega (arith, low, few))

  wins : (found == before) ≡ true → Invariant o (exchanged_if true)
  wins same = head_won o c n s g ends before next inv here unspent f may (eqb-true found before same) memory
      (head_wins o c.memory (length c.views) inv.sizes.words n before next (head_inside o c inv) (eqb-true found before same) next_small) ends_fit other_ends low_ends

  loses : (found == before) ≡ false → Invariant o (exchanged_if false)
  loses other = subst (λ (m : Memory). Invariant o (record c { memory = m; views = slice_set c.views n (with_seat (view_of c.views n) (head_exchanged s next found false) (ghost_if false)); began = ends }))
      (sym (head_lost o c.memory (length c.views) inv.sizes.words n before next other))
      (set_core o c n (head_exchanged s next found false) (ghost_if false) c.memory c.owner ends inv here unspent (pins_leave o c n inv c.memory.now.pins refl (λ k another. refl))
      (changes_leave o c n c.memory _ c.owner (no_changes c n)) inv.owners.bits (lost_facts o c n s g (slice_index c.memory.now.pins n) (slice_index ends n) next found inv f refl) ends_fit other_ends low_ends)

  pub head_exchange : (won : Bool) → (found == before) ≡ won → Invariant o (exchanged_if won)
  head_exchange true same = wins same
  head_exchange false other = loses other
