-- An exchange of a link keeps the invariant, won or lost.
use Rattle.std.proofs.Common.{◌≡◌, ◌≢◌, ◌<◌, ◌≤◌, ◌==◌, ℕ, Bool, true, false, List, [], ◌∷◌, length, refl, sym, subst, arith, slice_index, slice_set}
use Rattle.std.proofs.lemmas.Bool.{eqb-true, eqb-false}
use Rattle.pmem_words.specs.Seats.{Seat}
use Rattle.asks.specs.declared.ask.Place.TheVariants.{Image}
use Rattle.asks.specs.declared.ask.Ask.TheVariants.{Exchange}
use Rattle.persistence.specs.Memory.{Memory, memory_after}
use Rattle.log_core.specs.Views.{Ghost, view_of}
use Rattle.log_core.specs.Origin.{Origin, InChain}
use Rattle.log_core.specs.Files.{end_of}
use Rattle.log_core.specs.Cores.{Core}
use Rattle.log_core.specs.Works.{words_of}
use Rattle.log_core.specs.Steps.{link_exchanged, stored_but, stored_if}
use Rattle.log_core.specs.After.{log_if, owner_if, recorded_if}
use Rattle.log_core.specs.May.{MayExchangeLink}
use Rattle.log_core.specs.Invariant.{Invariant}
use Rattle.log_core.specs.Knows.{with_seat, Knows}
use Rattle.log_core.proofs.TailEnds.{tail_load, same_words}
use Rattle.log_core.proofs.clauses.Exchanged.{exchange_lost}
use Rattle.log_core.proofs.clauses.Leaves.{no_changes, changes_leave, pins_leave}
use Rattle.log_core.proofs.clauses.SetCore.{set_core}
use Rattle.log_core.proofs.clauses.GrowCore.{grow_core}
use Rattle.log_core.proofs.kinds.ExchangesLink.{x, link_grows, link_knows}
use Rattle.log_core.proofs.kinds.LosesExchange.{lost_facts}

module _ (o : Origin) (c : Core) (n : ℕ) (s : Seat) (g : Ghost) (word block : ℕ) (began : List ℕ) (inv : Invariant o c) (here : n < length c.views) (unspent : (view_of c.views n).parts ≢ [])
    (f : Knows o c n s g (slice_index c.memory.now.pins n) (slice_index began n)) (may : MayExchangeLink s word block)
    (same_began : length began ≡ length c.began) (other_began : (k : ℕ) → k ≢ n → slice_index began k ≡ slice_index c.began k) (low_began : (k : ℕ) → slice_index began k ≤ end_of o c.history) where
  abbrev found : ℕ
  found = slice_index c.memory.now.words word

  abbrev pin : ℕ
  pin = slice_index c.memory.now.pins n

  -- the core after it, won or not
  abbrev pub after_link : Bool → Memory → Core
  after_link won memory = record c {
    memory = memory;
    views = slice_set c.views n (with_seat (view_of c.views n) (link_exchanged s word block found won) (record g { stored = stored_if won (stored_but (words_of s) (λ (other : ℕ). other == block) g.stored) g.stored }));
    logs = log_if won c.logs block s.walk.position;
    owner = λ other. owner_if won (block ∷ []) InChain (c.owner other) other;
    recorded = λ other. recorded_if won (block ∷ []) s (c.recorded other) other;
    began = began;
  }

  pub link_keeps : (won : Bool) → (found == 0) ≡ won → Invariant o (after_link won (memory_after c.memory n (Exchange (Image word) 0 block)))
  link_keeps true is = (let empty = eqb-true found 0 is in
      grow_core o c (x o c n s g pin (slice_index began n) word block inv f unspent may empty) _ _ began inv (link_grows o c n s g pin (slice_index began n) word block inv f unspent may empty) here unspent
      (link_knows o c n s g pin (slice_index began n) word block inv f unspent may empty (low_began n) refl) same_began other_began low_began)
  link_keeps false is = subst (λ (memory : Memory). Invariant o (after_link false memory)) (sym (exchange_lost o c.memory (length c.views) inv.sizes.words n word block is))
      (set_core o c n (link_exchanged s word block found false) g c.memory c.owner began inv here unspent (pins_leave o c n inv c.memory.now.pins refl (λ k other. refl))
      (changes_leave o c n c.memory _ c.owner (no_changes c n)) inv.owners.bits
      (lost_facts o c n s g pin (slice_index began n) word inv f unspent
      (tail_load o c n s g pin (slice_index began n) inv f unspent may.valid may.ready 0 word (let wide = inv.sizes.image.wide in let same = same_words o c n s g pin (slice_index began n) inv f unspent may.valid may.ready in omega (arith, wide, same)) may.link)
      (low_began n) (eqb-false found 0 is))
      same_began other_began low_began)
