-- The words of a core say by themselves whether its log's last block is full: their chain's tail is a link then.
use Rattle.std.proofs.Common.{◌≡◌, ◌≢◌, inl, inr, ℕ, suc, ◌+◌, ◌-◌, ◌*◌, ◌^◌, ◌<◌, ◌≤◌, ◌==◌, ◌||◌, if◌then◌else◌, Bool, true, false, List, [], ◌∷◌, ◌++◌, length, drop, length-drop, slice_index, refl, sym, ap, subst, ◌∙◌, arith}
use Rattle.std.proofs.lemmas.Bool.{eqb-true, eq-eqb}
use Rattle.std.proofs.lemmas.List.{get_or-drop}
use Rattle.log_entry.specs.Fields.{field}
use Rattle.log_entry.specs.Words.{head_word}
use Rattle.log_entry.specs.declared.layouts.TheConstants.{HEAD_GENERATION}
use Rattle.log_image.specs.Image.{Shape, words_in, total, block_words}
use Rattle.log_image.specs.Header.{shape_of, head_block}
use Rattle.log_image.specs.declared.header.TheConstants.{HEADER_BLOCK_POWER, HEADER_DATA, HEADER_LOG}
use Rattle.log_image.specs.Blocks.{slots_of, is_closed}
use Rattle.log_image.specs.Chains.{IsChain}
use Rattle.log_image.specs.Tails.{AtSlot, AtLink, tail_of, last_block}
use Rattle.log_image.proofs.BlockLemmas.{block_inside}
use Rattle.log_image.proofs.ImageLemmas.{in_block, length_range}
use Rattle.log_image.proofs.OneChain.{one_chain}
use Rattle.persistence.specs.Memory.{cell}
use Rattle.persistence.specs.Survivors.{IsPossible, Survives}
use Rattle.log_core.specs.Entries.{head_place}
use Rattle.log_core.specs.Origin.{Origin, shape, first_generation, Owner, Free, InChain, LeftTo, LogBlock, Generation}
use Rattle.log_core.specs.Files.{entries, end_of}
use Rattle.log_core.specs.Cores.{Core, nth_log, is_sealed, is_full}
use Rattle.log_core.specs.Contents.{IsStillTaken}
use Rattle.log_core.specs.Order.{nth_generation, front_of, LogStands}
use Rattle.log_core.specs.Starts.{IsStart}
use Rattle.log_core.specs.Invariant.{Invariant, KeptIn}
use Rattle.log_core.proofs.ChainPlaces.{head_inside, drop_log}
use Rattle.log_core.proofs.Fronts.{head_front}
use Rattle.log_core.proofs.Heads.{generation_field}
use Rattle.log_core.proofs.clauses.Apart.{log_is_named}
use Rattle.log_core.proofs.crashes.LeftBlocks.{split_drop, present_logs}
use Rattle.log_core.proofs.crashes.LeftChains.{chain, is_chain, stay}
use Rattle.log_core.proofs.crashes.Recovered.{present_left}
use Rattle.log_core.proofs.starts.StartFacts.{same_shape}
use Rattle.block_bitmap.proofs.TakeRanges.{same_test}
use Rattle.write_any.specs.LackingAlone.{is_at_link}
use Rattle.write_any.proofs.ClosedSlots.{IsPresent, tail_closed}
use Rattle.write_any.proofs.OpenTail.{last_of}

-- the last of some blocks behind others
last_join : (x : ℕ) (xs : List ℕ) (b : ℕ) (rest : List ℕ) → last_block x (xs ++ b ∷ rest) ≡ last_block b rest
last_join x [] b rest = refl
last_join x (y ∷ xs) b rest = last_join y xs b rest

link_by : (closed : Bool) (block slot : ℕ) → is_at_link (if closed then AtLink block else AtSlot block slot) ≡ closed
link_by true block slot = refl
link_by false block slot = refl

-- the shape that two words of a header say
abbrev shape_in : ℕ → ℕ → Shape
shape_in second third = record { data_blocks = field HEADER_DATA third; log_blocks = field HEADER_LOG third; block_bytes = 2 ^ field HEADER_BLOCK_POWER second }

module _ (o : Origin) (c : Core) (start : IsStart o) (inv : Invariant o c) where
  abbrev words : List ℕ
  words = c.memory.now.words

  abbrev q : ℕ
  q = words_in (shape o)

  left : Survives c.memory words
  left = present_left c.memory

  head_left : IsPossible (cell c.memory head_place) (slice_index words head_place)
  head_left = left.each head_place (let inside = head_inside o c inv in let long = inv.sizes.words.words in omega (arith, inside, long))

  -- the generation at the head
  abbrev place : ℕ
  place = head_left.index

  abbrev g : Generation
  g = nth_generation c.generations place

  inside : place < length c.generations
  inside = (let count = inv.order.heads.count in let last = head_left.inside in omega (arith, count, last))

  kept : KeptIn o c place
  kept = record { inside = inside; why = inl head_left.above }

  few : first_generation o + place < 2 ^ 32
  few = (let few = inv.order.heads.few in let there = inside in omega (arith, few, there))

  head_is : slice_index words head_place ≡ head_word (record { generation = first_generation o + place; block = front_of c.logs g })
  head_is = sym head_left.same ∙ inv.order.heads.each place inside

  front_is : head_block words ≡ front_of c.logs g
  front_is = head_front o c inv (slice_index words head_place) place (record { place = place; inside = head_left.inside; same = head_left.same })
      (ap (λ (w : ℕ). field HEAD_GENERATION w) head_is ∙ generation_field (first_generation o + place) (front_of c.logs g) few (inv.order.heads.small place inside))

  shape_is : shape_of words ≡ shape o
  shape_is = ap (λ (w : ℕ). shape_in w (slice_index words 2)) (inv.order.heads.header 1 (omega arith)).present
      ∙ (ap (λ (w : ℕ). shape_in (slice_index o.words 1) w) (inv.order.heads.header 2 (omega arith)).present ∙ same_shape o.geometry (shape_of o.words) start.same_shape)

  abbrev logs : List LogBlock
  logs = nth_log c.logs g.cut ∷ drop (suc g.cut) c.logs

  cut_inside : g.cut < length c.logs
  cut_inside = inv.order.generations_rise.cut_inside place inside

  many : length logs ≡ length c.logs - g.cut
  many = (let dropped = length-drop (suc g.cut) c.logs in let cut = cut_inside in omega (arith, dropped, cut))

  nth_is : (number : ℕ) → nth_log logs number ≡ nth_log c.logs (g.cut + number)
  nth_is number = ap (λ (l : List LogBlock). nth_log l number) (sym (split_drop c.logs g.cut cut_inside)) ∙ drop_log c.logs g.cut number

  -- each is there
  module _ (number : ℕ) (late : g.cut ≤ number) (there : number < length c.logs) where
    abbrev log : LogBlock
    log = nth_log c.logs number

    stands : LogStands (shape o) (λ word. cell c.memory word) log (nth_log c.logs (number + 1)).block
    stands = inv.order.chains place kept number late there

    taken_some : (whose : Owner) → IsStillTaken whose → whose ≢ Free
    taken_some whose (inl chained) free = (let both : InChain ≡ Free = sym chained ∙ free in cc)
    taken_some whose (inr some) free = (let both : LeftTo some.0 ≡ Free = sym some.1 ∙ free in cc)

    long : length (block_words words (shape o) log.block) ≡ q
    long = length_range words (log.block * q) q
        (let in_image = block_inside q log.block (total (shape o)) (inv.owners.bits.inside log.block (taken_some (c.owner log.block) ((inv.contents place kept).taken log.block (log_is_named o c.logs g number (entries o c.history) late there)))) in
        let whole = inv.sizes.image.whole in let same = inv.sizes.words.words in omega (arith, in_image, whole, same))

    slots_long : length (slots_of (block_words words (shape o) log.block)) + 3 ≡ q
    slots_long = (let dropped = length-drop 3 (block_words words (shape o) log.block) in let all = long in let wide = inv.sizes.image.wide in omega (arith, dropped, all, wide))

    present : IsPresent words (shape o) log (nth_log c.logs (number + 1))
    present = record {
      slots = λ k used. (let fits = inv.order.log.inside number there in
          get_or-drop 3 (block_words words (shape o) log.block) k 0
          ∙ (ap (λ (i : ℕ). slice_index (block_words words (shape o) log.block) i) (let e : 3 + k ≡ k + 3 = omega arith in e)
          ∙ (in_block words (shape o) log.block (k + 3) (omega (arith, fits, used)) ∙ (stands.slots k (omega (arith, fits, used)) (λ sealed. omega (arith, used))).present)));
      link = in_block words (shape o) log.block 0 (let wide = inv.sizes.image.wide in omega (arith, wide)) ∙ stands.link.present;
    }

  each : (number : ℕ) → number < length logs → IsPresent words (shape o) (nth_log logs number) (nth_log logs (suc number))
  each number low = subst (λ (l : LogBlock). IsPresent words (shape o) l (nth_log logs (suc number))) (sym (nth_is number))
      (subst (λ (l : LogBlock). IsPresent words (shape o) (nth_log c.logs (g.cut + number)) l) (sym (nth_is (suc number) ∙ ap (λ (k : ℕ). nth_log c.logs k) (let e : g.cut + suc number ≡ g.cut + number + 1 = omega arith in e)))
      (present (g.cut + number) (omega arith) (let all = many in omega (arith, low, all))))

  last_is : last_of logs ≡ last_of c.logs
  last_is = nth_is (length logs - 1) ∙ ap (λ (k : ℕ). nth_log c.logs k) (let all = many in let cut = cut_inside in let e : g.cut + (length logs - 1) ≡ length c.logs - 1 = omega (arith, all, cut) in e)

  abbrev rest : List ℕ
  rest = (stay o c inv place kept words left head_left.above).rest

  ends : (last_block (nth_log c.logs g.cut).block rest ≡ (last_of logs).block)
      × (is_closed (slots_of (block_words words (shape o) (last_of logs).block)) ≡ (is_sealed (last_of logs).slots || (length (last_of logs).slots == length (slots_of (block_words words (shape o) (last_of logs).block)))))
  ends = tail_closed words (shape o) (end_of o c.history) (nth_log c.logs g.cut) (drop (suc g.cut) c.logs) rest (present_logs o c inv words left place kept refl) each (stay o c inv place kept words left head_left.above).leads

  full_is : is_closed (slots_of (block_words words (shape o) (last_of c.logs).block)) ≡ is_full (shape o) (last_of c.logs).slots
  full_is = subst (λ (l : LogBlock). is_closed (slots_of (block_words words (shape o) l.block)) ≡ (is_sealed l.slots || (length l.slots == length (slots_of (block_words words (shape o) l.block))))) last_is ends.1
      ∙ ap (λ (b : Bool). is_sealed (last_of c.logs).slots || b) (same_test (length (last_of c.logs).slots == length (slots_of (block_words words (shape o) (last_of c.logs).block))) (length (last_of c.logs).slots + 3 == q)
      (λ e. (let n = eqb-true (length (last_of c.logs).slots) (length (slots_of (block_words words (shape o) (last_of c.logs).block))) e in eq-eqb (length (last_of c.logs).slots + 3) q (omega (arith, n, wide))))
      (λ e. (let n = eqb-true (length (last_of c.logs).slots + 3) q e in eq-eqb (length (last_of c.logs).slots) (length (slots_of (block_words words (shape o) (last_of c.logs).block))) (omega (arith, n, wide)))))
    where
      wide : length (slots_of (block_words words (shape o) (last_of c.logs).block)) + 3 ≡ q
      wide = slots_long (length c.logs - 1) (let cut = cut_inside in omega (arith, cut)) (let cut = cut_inside in omega (arith, cut))

  -- so whichever chain the words have
  pub tail_full : (other : List ℕ) → IsChain words (shape_of words) other → is_at_link (tail_of words (shape_of words) other) ≡ is_full (shape o) (last_of c.logs).slots
  tail_full other is = subst (λ (image : Shape). IsChain words image other → is_at_link (tail_of words image other) ≡ is_full (shape o) (last_of c.logs).slots) (sym shape_is)
      (λ of_shape. ap (λ (l : List ℕ). is_at_link (tail_of words (shape o) l)) (one_chain words (shape o) other (chain o c inv place kept words left head_left.above) of_shape (is_chain o c inv place kept words left head_left.above front_is))
      ∙ (ap (λ (b : ℕ). is_at_link (Rattle.log_image.specs.Tails.tail_in b (block_words words (shape o) b))) (last_join 0 g.snapshots (nth_log c.logs g.cut).block rest ∙ (ends.0 ∙ ap (λ (l : LogBlock). l.block) last_is))
      ∙ (link_by (is_closed (slots_of (block_words words (shape o) (last_of c.logs).block))) (last_of c.logs).block _ ∙ full_is))) is
