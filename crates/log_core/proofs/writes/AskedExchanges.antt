-- The asks of those exchanges: what each is to the core, and that it may be made.
use Rattle.std.proofs.Common.{◌≡◌, ◌≢◌, ◌<◌, ◌≤◌, ◌+◌, ◌*◌, ◌%◌, ℕ, true, List, [], refl, sym, ◌∙◌, subst, arith, mul-le-mul_right}
use Rattle.std.proofs.Math.Nat.{mul-add-mod_self_right, mod-eq_of_lt}
use Rattle.std.proofs.lemmas.Bool.{ne_eqb, eq-eqb}
use Rattle.log_entry.specs.Words.{entry_word}
use Rattle.log_entry.specs.declared.entries.Entry.TheVariants.{Direct, Indirect}
use Rattle.log_entry.specs.declared.words.RunWord.{RunWord}
use Rattle.pmem_words.specs.Seats.{Seat}
use Rattle.asks.specs.declared.ask.Place.TheVariants.{Image}
use Rattle.asks.specs.declared.ask.Ask.TheVariants.{Exchange}
use Rattle.log_core.specs.Entries.{head_place, place_in}
use Rattle.log_core.specs.Views.{Ghost, view_of}
use Rattle.log_core.specs.Origin.{Origin, q_of_origin}
use Rattle.log_core.specs.Cores.{Core}
use Rattle.log_core.specs.Works.{seat_shape, words_of, owned_block}
use Rattle.log_core.specs.Steps.{Kind, ExchangesSlot, ExchangesLink, kind_of_ask}
use Rattle.log_core.specs.May.{May}
use Rattle.log_core.specs.Invariant.{Invariant}
use Rattle.log_core.specs.Knows.{Knows}
use Rattle.log_core.proofs.TailEnds.{walked, same_words}
use Rattle.log_core.proofs.writes.NewLogBlocks.{IsAtLink, IsNewLogBlock, may_link}
use Rattle.log_core.proofs.writes.RunWrites.{IsRunWrite, may_exchange_run}
use Rattle.log_core.proofs.writes.RunsWrites.{IsRunsWrite, may_exchange_runs}

-- an exchange from 0 of a block's word that is not the link, and of its link
module _ (q seat block slot value : ℕ) (wide : 8 ≤ q) (some : block ≢ 0) (inside : slot < q) where
  past_head : block * q + slot ≢ head_place
  past_head same = (let low : 1 * q ≤ block * q = mul-le-mul_right q (omega (arith, some)) in omega (arith, low, wide, same))

  rest_is : (block * q + slot) % q ≡ slot
  rest_is = mul-add-mod_self_right block q slot ∙ mod-eq_of_lt inside

  pub slot_kind : 0 < slot → kind_of_ask q seat (Exchange (Image (block * q + slot)) 0 value) ≡ ExchangesSlot (block * q + slot) value
  slot_kind behind = rw (ne_eqb (block * q + slot) head_place past_head, rest_is, ne_eqb slot 0 (λ e. omega (arith, e, behind))) refl

  pub link_kind : slot ≡ 0 → kind_of_ask q seat (Exchange (Image (block * q + slot)) 0 value) ≡ ExchangesLink (block * q + slot) value
  link_kind none = rw (ne_eqb (block * q + slot) head_place past_head, rest_is, eq-eqb slot 0 none) refl

module _ (o : Origin) (c : Core) (n : ℕ) (s : Seat) (g : Ghost) (pin began : ℕ) (inv : Invariant o c) (unspent : (view_of c.views n).parts ≢ []) (f : Knows o c n s g pin began) where
  module _ (valid : s.hold.valid ≡ true) (ready : s.walk.ready ≡ true) where
    q_same : words_of s ≡ q_of_origin o
    q_same = same_words o c n s g pin began inv f unspent valid ready

    wide : 8 ≤ words_of s
    wide = (let w = inv.sizes.image.wide in let same = q_same in omega (arith, w, same))

    some_tail : s.walk.tail_block ≢ 0
    some_tail = ((f.walk unspent).ready_walked ready).0

    behind_link : 3 ≤ s.walk.tail_slot
    behind_link = (walked o c n s g pin began inv f unspent valid ready).from

    -- at the tail's slot and at its block's link
    pub at_slot : (word value : ℕ) → word ≡ place_in (seat_shape s) s.walk.tail_block s.walk.tail_slot → s.walk.tail_slot < words_of s →
        kind_of_ask (q_of_origin o) n (Exchange (Image word) 0 value) ≡ ExchangesSlot word value
    at_slot word value is inside = subst (λ (q : ℕ). kind_of_ask q n (Exchange (Image word) 0 value) ≡ ExchangesSlot word value) q_same
        (subst (λ (w : ℕ). kind_of_ask (words_of s) n (Exchange (Image w) 0 value) ≡ ExchangesSlot w value) (sym is)
        (slot_kind (words_of s) n s.walk.tail_block s.walk.tail_slot value wide some_tail inside (let low = behind_link in omega (arith, low))))

    pub at_link : (word value : ℕ) → word ≡ place_in (seat_shape s) s.walk.tail_block 0 → kind_of_ask (q_of_origin o) n (Exchange (Image word) 0 value) ≡ ExchangesLink word value
    at_link word value is = subst (λ (q : ℕ). kind_of_ask q n (Exchange (Image word) 0 value) ≡ ExchangesLink word value) q_same
        (subst (λ (w : ℕ). kind_of_ask (words_of s) n (Exchange (Image w) 0 value) ≡ ExchangesLink w value) (sym is)
        (link_kind (words_of s) n s.walk.tail_block 0 value wide some_tail (let w = wide in omega (arith, w)) refl))

  pub may_ask_run : (word virt block count : ℕ) → IsRunWrite s word virt block count → May o c g s (kind_of_ask (q_of_origin o) n (Exchange (Image word) 0 (entry_word (Direct virt block count 0))))
  may_ask_run word virt block count w = subst (λ (kind : Kind). May o c g s kind)
      (sym (at_slot w.writing.at_tail.valid w.writing.at_tail.ready word (entry_word (Direct virt block count 0)) w.writing.slot w.writing.inside))
      (may_exchange_run o c n s g pin began inv unspent f word virt block count w)

  pub may_ask_runs : (word virt holder : ℕ) (runs : List RunWord) → IsRunsWrite s word virt holder runs → May o c g s (kind_of_ask (q_of_origin o) n (Exchange (Image word) 0 (entry_word (Indirect holder))))
  may_ask_runs word virt holder runs w = subst (λ (kind : Kind). May o c g s kind)
      (sym (at_slot w.writing.at_tail.valid w.writing.at_tail.ready word (entry_word (Indirect holder)) w.writing.slot w.writing.inside))
      (may_exchange_runs o c n s g pin began inv unspent f word virt holder runs w)

  pub may_ask_link : (word place : ℕ) → IsAtLink s word → IsNewLogBlock s place → May o c g s (kind_of_ask (q_of_origin o) n (Exchange (Image word) 0 (owned_block s place)))
  may_ask_link word place at new = subst (λ (kind : Kind). May o c g s kind)
      (sym (at_link at.valid at.ready word (owned_block s place) at.link))
      (may_link o c n s g pin began inv unspent f word place at new)
