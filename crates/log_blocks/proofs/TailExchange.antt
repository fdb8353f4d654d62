-- An exchange of the tail's word: its kind, and what it keeps where it lost.
use Rattle.std.proofs.Common.{◌≡◌, ◌≢◌, ◌<◌, ◌≤◌, ◌+◌, ◌-◌, ◌*◌, ◌/◌, ◌%◌, ◌^◌, ◌==◌, nat_lt, ℕ, Bool, true, false, if◌then◌else◌, List, [], ◌∷◌, length, refl, sym, ◌∙◌, ap, subst, arith, slice_index}
use Rattle.std.proofs.lemmas.Bool.{ne_eqb}
use Rattle.std.proofs.lemmas.Nat.{div-mul-add, mod-mul-add}
use Rattle.std.proofs.Math.Nat.{mul-le-mul}
use Rattle.log_image.specs.Image.{words_in}
use Rattle.asks.specs.declared.ask.Ask.TheVariants.{Exchange}
use Rattle.asks.specs.declared.ask.Place.TheVariants.{Image}
use Rattle.pmem_words.specs.Seats.{Seat}
use Rattle.log_core.specs.Entries.{place_in, head_place}
use Rattle.log_core.specs.Views.{Ghost, view_of}
use Rattle.log_core.specs.Origin.{Origin, shape, q_of_origin, Owner, Header}
use Rattle.log_core.specs.Cores.{Core}
use Rattle.log_core.specs.Contents.{IsStillTaken}
use Rattle.log_core.specs.Works.{seat_shape, words_of}
use Rattle.log_core.specs.Steps.{Kind, ExchangesLink, ExchangesSlot, exchange_kind, kind_of_ask, kept_with}
use Rattle.log_core.specs.Invariant.{Invariant}
use Rattle.log_core.specs.Knows.{Knows}
use Rattle.log_core.proofs.PinnedChains.{place, kept}
use Rattle.log_core.proofs.TailEnds.{same_words, walked, tail_named}

-- the word kept by an exchange that lost
pub kept_is : (q block slot f : ℕ) → slot < q → kept_with q [] (block * q + slot) f ≡ record { block = block; slot = slot; word = f } ∷ []
kept_is q block slot f inside =
    ap (λ (b : ℕ). record { block = b; slot = (block * q + slot) % q; word = f } ∷ []) (div-mul-add block q slot inside)
    ∙ ap (λ (k : ℕ). record { block = block; slot = k; word = f } ∷ []) (mod-mul-add block q slot inside)

module _ (o : Origin) (c : Core) (n : ℕ) (s : Seat) (g : Ghost) (pin began : ℕ) (inv : Invariant o c) (knows : Knows o c n s g pin began) (unspent : (view_of c.views n).parts ≢ [])
    (valid : s.hold.valid ≡ true) (ready : s.walk.ready ≡ true) where
  abbrev at : ℕ
  at = place o c n s g pin began inv knows valid

  words_same : words_of s ≡ words_in (shape o)
  words_same = same_words o c n s g pin began inv knows unspent valid ready

  pub wide : 8 ≤ words_of s
  wide = (let many = inv.sizes.image.wide in let same = words_same in omega (arith, many, same))

  -- the tail's block is not the header
  no_header : s.walk.tail_block ≢ 0
  no_header none = by_owner (subst (λ (whose : Owner). IsStillTaken whose) (ap c.owner none ∙ inv.owners.bits.header)
      ((inv.contents at (kept o c n s g pin began inv knows valid)).taken s.walk.tail_block (tail_named o c n s g pin began inv knows unspent valid ready)))
    where
      by_owner : IsStillTaken Header → ⊥
      by_owner (Rattle.std.proofs.Common.inl chain) = cc
      by_owner (Rattle.std.proofs.Common.inr left) = (let e = left.1 in cc)

  module _ (slot : ℕ) (inside : slot < words_of s) where
    abbrev word : ℕ
    word = place_in (seat_shape s) s.walk.tail_block slot

    no_head : word ≢ head_place
    no_head same = (let many = wide in
        let some = no_header in
        let low : 1 * words_of s ≤ s.walk.tail_block * words_of s = mul-le-mul (let one : 1 ≤ s.walk.tail_block = omega (arith, some) in one) (let all : words_of s ≤ words_of s = omega arith in all) in
        omega (arith, many, low, same))

    -- the kind of the exchange, by the slot
    pub kind_at : (after : ℕ) → kind_of_ask (q_of_origin o) n (Exchange (Image word) 0 after) ≡ (if slot == 0 then ExchangesLink word after else ExchangesSlot word after)
    kind_at after = ap (λ (b : Bool). if b then Rattle.log_core.specs.Steps.ExchangesHead 0 after else (if word % words_in (shape o) == 0 then ExchangesLink word after else ExchangesSlot word after)) (ne_eqb word head_place no_head)
        ∙ ap (λ (q : ℕ). if word % q == 0 then ExchangesLink word after else ExchangesSlot word after) (sym words_same)
        ∙ ap (λ (k : ℕ). if k == 0 then ExchangesLink word after else ExchangesSlot word after) (mod-mul-add s.walk.tail_block (words_of s) slot inside)

  -- so that of the tail's slot is an exchange of a slot
  pub kind_at_slot : (inside : s.walk.tail_slot < words_of s) (after : ℕ) →
      kind_of_ask (q_of_origin o) n (Exchange (Image (place_in (seat_shape s) s.walk.tail_block s.walk.tail_slot)) 0 after) ≡ ExchangesSlot (place_in (seat_shape s) s.walk.tail_block s.walk.tail_slot) after
  kind_at_slot inside after = kind_at s.walk.tail_slot inside after
      ∙ ap (λ (b : Bool). if b then ExchangesLink (place_in (seat_shape s) s.walk.tail_block s.walk.tail_slot) after else ExchangesSlot (place_in (seat_shape s) s.walk.tail_block s.walk.tail_slot) after)
      (ne_eqb s.walk.tail_slot 0 (λ none. (let from = (walked o c n s g pin began inv knows unspent valid ready).from in omega (arith, from, none))))
