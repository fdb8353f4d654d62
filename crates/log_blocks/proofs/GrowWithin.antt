-- Linking a block at the tail is lawful within a core.
use Rattle.log_blocks.specs.Walking.{IsOfImage}
use Rattle.log_image.specs.Image.{total, shape_by}
use Rattle.std.proofs.lemmas.Bool.{ltb-true, and_parts}
use Rattle.std.proofs.Common.{slice_index, nat_lt, ◌≡◌, ◌≢◌, ◌<◌, ◌==◌, ℕ, Bool, true, false, List, [], ◌∷◌, refl, sym, ◌∙◌, ap, subst, arith}
use Rattle.std.proofs.lemmas.Bool.{eqb-false}
use Rattle.asks.specs.declared.ask.Ask.TheVariants.{Exchange}
use Rattle.asks.specs.declared.ask.Place.TheVariants.{Image}
use Rattle.pmem_words.specs.Seats.{Seat}
use Rattle.pmem_words.specs.declared.keeps.KeptWord.{KeptWord}
use Rattle.pmem_words.specs.declared.machine.Turn.TheVariants.{Go, Done}
use Rattle.log_core.specs.Entries.{place_in}
use Rattle.log_core.specs.Views.{Ghost, view_of}
use Rattle.log_core.specs.Origin.{Origin, q_of_origin}
use Rattle.log_core.specs.Cores.{Core}
use Rattle.log_core.specs.Works.{Forgets, Follows, HasFoundLink, kept_at, kept_word, word_or_zero, seat_shape, words_of}
use Rattle.log_core.specs.Steps.{ExchangesLink, kind_of_ask, link_exchanged, stored_but, stored_if, kept_with}
use Rattle.log_core.specs.May.{MayExchangeLink}
use Rattle.log_core.specs.Invariant.{Invariant}
use Rattle.log_core.specs.Knows.{Knows}
use Rattle.log_core.specs.Within.{no_record, IsFound, Serves}
use Rattle.log_core.specs.Answers.{Enters}
use Rattle.log_core.proofs.machines.Entering.{enters_works}
use Rattle.log_core.proofs.machines.MachineLaws.{Law, promised}
use Rattle.log_blocks.specs.declared.grow.Grown.{Grown}
use Rattle.log_blocks.specs.Taking.{followed}
use Rattle.log_blocks.specs.Growing.{GrowAdmits, grow_of, linked, grow_after, grow_script, grow_lowers}
use Rattle.log_blocks.specs.PutWithin.{MayGrow, HasGrown, GrowsWithin}
use Rattle.log_blocks.proofs.KeptLists.{kept_last}
use Rattle.log_blocks.proofs.OneExchange.{IsAtFirst, at_first, outcome, serves_at_first}
use Rattle.log_blocks.proofs.TailExchange.{kept_is, kind_at, wide}
use Rattle.log_blocks.proofs.FoundTail.{link_of_image}

module _ (o : Origin) (seat : ℕ) (s : Seat) (g : Ghost) (block : ℕ) (may : MayGrow block o seat s g) where
  abbrev word : ℕ
  word = place_in (seat_shape s) s.walk.tail_block 0

  module _ (c : Core) (pin began : ℕ) (inv : Invariant o c) (unspent : (view_of c.views seat).parts ≢ []) (knows : Knows o c seat s g pin began) where
    some_words : 0 < words_of s
    some_words = (let many = wide o c seat s g pin began inv knows unspent may.valid may.ready in omega (arith, many))

    kind_is : kind_of_ask (q_of_origin o) seat (Exchange (Image word) 0 block) ≡ ExchangesLink word block
    kind_is = kind_at o c seat s g pin began inv knows unspent may.valid may.ready 0 some_words block

  -- the block is of the image
  own_inside : IsOfImage s block
  own_inside = ltb-true block (total (seat_shape s)) (and_parts (nat_lt (seat_shape s).data_blocks block) (nat_lt block (total (seat_shape s))) may.in_log).1

  may_link : MayExchangeLink s word block
  may_link = record { valid = may.valid; ready = may.ready; link = refl; at_end = may.at_end; owned = may.owned; in_log = may.in_log; content = may.content }

  abbrev Found : ℕ → Type 0
  Found f = IsFound o seat s g (Exchange (Image word) 0 block) f

  kind_found : (f : ℕ) → Found f → kind_of_ask (q_of_origin o) seat (Exchange (Image word) 0 block) ≡ ExchangesLink word block
  kind_found f found = kind_is found.core found.pin found.began found.holds found.unspent found.knows

  -- a link that was found is kept, and followed
  abbrev lost : ℕ → Seat
  lost f = link_exchanged s word block f false

  kept_link : (f : ℕ) → Found f → (lost f).walk.kept ≡ record { block = s.walk.tail_block; slot = 0; word = f } ∷ []
  kept_link f found = ap (λ (l : List KeptWord). kept_with (words_of s) l word f) may.none_kept ∙ kept_is (words_of s) s.walk.tail_block 0 f (some_words found.core found.pin found.began found.holds found.unspent found.knows)

  link_word : (f : ℕ) → Found f → kept_word (lost f) s.walk.tail_block 0 ≡ f
  link_word f found = ap (λ (l : List KeptWord). word_or_zero (kept_at l s.walk.tail_block 0)) (kept_link f found) ∙ ap word_or_zero (kept_last [] s.walk.tail_block 0 f)

  may_follow : (f : ℕ) → Found f → f ≢ 0 → HasFoundLink g (lost f)
  may_follow f found some = record { free = may.free; valid = may.valid; ready = may.ready; at_end = may.at_end; linked = λ none. some (sym (link_word f found) ∙ none) }

  -- what enters, by whether the exchange won
  enters_by : (won : Bool) (f : ℕ) → (f == 0) ≡ won → Found f →
      Enters (record g { stored = stored_if won (stored_but (words_of s) (λ (other : ℕ). other == block) g.stored) g.stored }) (link_exchanged s word block f won) (grow_after won (grow_of block) s f).seat []
  enters_by true f is found = enters_works (record g { stored = stored_but (words_of s) (λ (other : ℕ). other == block) g.stored }) (link_exchanged s word block f true) (Forgets ∷ []) (tt, tt) refl
  enters_by false f is found = subst (λ (t : Seat). Enters g (lost f) t []) (ap (λ (b : ℕ). followed s b) (link_word f found))
      (enters_works g (lost f) (Follows ∷ []) (may_follow f found (eqb-false f 0 is), tt) refl)

  ends_by : (won : Bool) (f : ℕ) (out : Grown) → (f == 0) ≡ won → GrowAdmits block s f → (grow_after won (grow_of block) s f).turn ≡ Done out →
      HasGrown block o seat s g out (grow_after won (grow_of block) s f).seat (record g { stored = stored_if won (stored_but (words_of s) (λ (other : ℕ). other == block) g.stored) g.stored })
  ends_by true f out is small done = subst (λ (x : Grown). HasGrown block o seat s g x (linked block s) (record g { stored = stored_but (words_of s) (λ (other : ℕ). other == block) g.stored })) (outcome done) (record { left = refl; ghost = refl })
  ends_by false f out is small done = subst (λ (x : Grown). HasGrown block o seat s g x (followed s f) g) (outcome done) (record { some = (let other = eqb-false f 0 is in omega (arith, other)); small = (let low = small.found (eqb-false f 0 is) in let few = s.geometry.few_blocks in omega (arith, low, few)); left = refl; ghost = refl })

  stops : (won : Bool) (f : ℕ) → (grow_after won (grow_of block) s f).turn ≡ Go → ⊥
  stops true f go = cc
  stops false f go = cc

  pub grow_serves : Serves o seat grow_script no_record (λ m t h. IsAtFirst (grow_of block) s g m t h) (HasGrown block o seat s g)
  grow_serves = serves_at_first o seat grow_script (HasGrown block o seat s g) (grow_of block) s g (ExchangesLink word block) kind_is (λ c pin began inv unspent knows. may_link)
      (λ c pin began inv unspent knows. record { own = own_inside; found = link_of_image o c seat s g pin began inv knows unspent may.valid may.ready _ (ap (λ image. slice_index c.memory.now.words (place_in image s.walk.tail_block 0)) (sym (ap shape_by (knows.fits unspent).geometry))) })
      (λ f found admits. enters_by (f == 0) f refl found) (λ f go. stops (f == 0) f go) (λ f out found admits done. ends_by (f == 0) f out refl admits done)

abbrev pub grow_law : (block : ℕ) → Law grow_script (grow_of block)
grow_law block = record {
  may = MayGrow block;
  stands = λ o seat s0 g0 m s g. IsAtFirst (grow_of block) s0 g0 m s g;
  left = HasGrown block;
  begins = λ o seat s g may. at_first (grow_of block) s g;
  serves = λ o seat s0 g0 may. grow_serves o seat s0 g0 block may;
  lowers = grow_lowers;
}

pub grows_within : GrowsWithin
grows_within block = promised grow_script (grow_of block) (grow_law block)
