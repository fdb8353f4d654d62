-- The log blocks of a start, and what stands in the image at their places.
use Rattle.std.proofs.Common.{◌≡◌, ℕ, ◌+◌, ◌-◌, ◌*◌, ◌<◌, ◌==◌, ◌&&◌, ◌||◌, not, Bool, true, false, List, length, take, get_or, refl, sym, ap, ◌∙◌, subst, arith}
use Rattle.std.specs.Prelude.{nat_lt}
use Rattle.std.specs.List.{list_all, flat_map}
use Rattle.std.proofs.lemmas.Bool.{false≢true, true≢false, eqb-true, and_parts, not-true}
use Rattle.std.proofs.lemmas.Bool.Decides.{nat_tests}
use Rattle.std.proofs.lemmas.List.{get_or-map, get_or-drop, get_or_past, length-drop, length-map}
use Rattle.log_image.specs.Image.{Shape, words_in, is_in_log}
use Rattle.log_image.specs.Blocks.{link_of, kind_of, is_snapshot, base_of, slots_of, entry_words, is_closed, leads_on}
use Rattle.log_image.specs.Chains.{snapshots_of, logs_of}
use Rattle.log_image.specs.Format.{is_log_block, is_log_entry, is_kind_word, is_seal_placed, is_seal_last}
use Rattle.log_image.specs.Tails.{Tail, AtSlot, last_block, tail_in, is_after, IsClear}
use Rattle.log_image.proofs.ImageLemmas.{in_block}
use Rattle.log_image.proofs.ListLemmas.{all_back}
use Rattle.persistence.specs.Memory.{cell}
use Rattle.log_image.proofs.ChainSteps.{log_entry_words}
use Rattle.log_core.specs.Entries.{place_in}
use Rattle.log_core.specs.Origin.{Origin, shape, no_log, log_block, used_slots, first_recorded, first_logs, first_memory, start_base}
use Rattle.log_core.specs.Cores.{nth_log}
use Rattle.log_core.specs.Certain.{IsCertain, IsGrowing}
use Rattle.log_image.proofs.SetWordLemmas.{log_inside}
use Rattle.log_core.proofs.starts.StartFacts.{Facts, block_long}
use Rattle.log_core.proofs.starts.StartSlots.{open_used}
use Rattle.log_core.proofs.starts.StartChain.{ChainBlocks, chain_blocks, log_at_place, test_at}

-- a word that has had one value is certain, and as a slot or a link it grows
pub certain_at : (o : Origin) (place value : ℕ) → get_or o.words place 0 ≡ value → IsCertain (cell (first_memory o) place) value
certain_at o place value is = record { present = is; before = λ k from to. absurd (omega (arith, to)) }

pub growing_at : (o : Origin) (place value : ℕ) → get_or o.words place 0 ≡ value → IsGrowing (cell (first_memory o) place) value
growing_at o place value is = record { present = is; before = λ k from to. absurd (omega (arith, to)) }

-- a place behind an open block's tail
behind_slot : (sh : Shape) (block slot index : ℕ) → slot < index → index < words_in sh → is_after sh (AtSlot block slot) (block * words_in sh + index) ≡ true
behind_slot sh block slot index past inside = tests (block * words_in sh) slot index (words_in sh) past inside
  where
    tests : (start slot index size : ℕ) → slot < index → index < size → ((start + index == start) || (nat_lt (start + slot) (start + index) && nat_lt (start + index) (start + size))) ≡ true
    tests start slot index size past inside = grind (arith, nat_tests)

link_behind : (sh : Shape) (block slot : ℕ) → is_after sh (AtSlot block slot) (block * words_in sh + 0) ≡ true
link_behind sh block slot = tests (block * words_in sh) slot (words_in sh)
  where
    tests : (start slot size : ℕ) → ((start + 0 == start) || (nat_lt (start + slot) (start + 0) && nat_lt (start + 0) (start + size))) ≡ true
    tests start slot size = grind (arith, nat_tests)

module _ (o : Origin) (s : Facts o) where
  -- the log blocks of the chain
  abbrev pub blocks : List ℕ
  blocks = logs_of o.words (shape o) o.chain

  -- the one at a place
  abbrev pub block_at : ℕ → ℕ
  block_at number = get_or blocks number 0

  abbrev pub slots_at : ℕ → List ℕ
  slots_at number = slots_of (first_recorded o (block_at number))

  pub chained : ChainBlocks o.words (shape o) o.chain blocks
  chained = chain_blocks o.words (shape o) o.chain s.stands.is_chain.linked

  pub nth : (number : ℕ) → number < length blocks → nth_log (first_logs o) number ≡ log_block (block_at number) (first_recorded o (block_at number))
  nth number inside = get_or-map (λ (block : ℕ). log_block block (first_recorded o block)) blocks number 0 no_log inside

  pub many : length (first_logs o) ≡ length blocks
  many = length-map blocks (λ (block : ℕ). log_block block (first_recorded o block))

  pub nth_past : nth_log (first_logs o) (length blocks) ≡ no_log
  nth_past = get_or_past (first_logs o) (length blocks) no_log (omega (arith, many))

  -- the word of a block is one of the image's
  pub word_of : (block index : ℕ) → index < words_in (shape o) → get_or o.words (place_in (shape o) block index) 0 ≡ get_or (first_recorded o block) index 0
  word_of block index inside = sym (in_block o.words (shape o) block index inside)

  pub slot_of : (block k : ℕ) → k + 3 < words_in (shape o) → get_or o.words (place_in (shape o) block (k + 3)) 0 ≡ get_or (slots_of (first_recorded o block)) k 0
  slot_of block k inside =
      word_of block (k + 3) inside
      ∙ ap (λ (i : ℕ). get_or (first_recorded o block) i 0) (omega arith)
      ∙ sym (get_or-drop 3 (first_recorded o block) k 0)

  -- each is a log block of its area
  pub area_at : (number : ℕ) → number < length blocks → is_in_log (shape o) (block_at number) ≡ true
  area_at number inside =
      test_at (is_in_log (shape o)) blocks number
      (all_back (is_in_log (shape o)) (snapshots_of o.words (shape o) o.chain) blocks (subst (λ (l : List ℕ). list_all (is_in_log (shape o)) l ≡ true) (sym chained.whole) s.stands.format.areas)) inside

  pub kind_at : (number : ℕ) → number < length blocks → is_kind_word (first_recorded o (block_at number)) ≡ true
  kind_at number inside =
      test_at (λ (b : ℕ). is_kind_word (first_recorded o b)) blocks number
      (all_back (λ (b : ℕ). is_kind_word (first_recorded o b)) (snapshots_of o.words (shape o) o.chain) blocks
      (subst (λ (l : List ℕ). list_all (λ (b : ℕ). is_kind_word (first_recorded o b)) l ≡ true) (sym chained.whole) s.stands.format.kinds)) inside

  pub form_at : (number : ℕ) → number < length blocks → is_log_block o.words (shape o) (first_recorded o (block_at number)) ≡ true
  form_at number inside = test_at (λ (b : ℕ). is_log_block o.words (shape o) (first_recorded o b)) blocks number s.stands.format.logs inside

  pub log_at : (number : ℕ) → number < length blocks →
      (kind_of (first_recorded o (block_at number)) ≡ 1) × (base_of (first_recorded o (block_at number)) ≡ start_base o + length (flat_map (log_entry_words o.words (shape o)) (take number blocks)))
  log_at number inside = log_at_place o.words (shape o) (start_base o) blocks number s.stands.is_chain.logs inside

  placed_at : (number : ℕ) → number < length blocks → is_seal_placed (slots_at number) ≡ true
  placed_at number inside =
      (and_parts (get_or (first_recorded o (block_at number)) 2 0 == 0 && list_all (is_log_entry o.words (shape o)) (entry_words (slots_at number))) (is_seal_placed (slots_at number)) (form_at number inside)).1

  pub first_slot : (number : ℕ) → number < length blocks → (get_or (slots_at number) 0 0 == 3) ≡ false
  first_slot number inside = not-true (get_or (slots_at number) 0 0 == 3) (and_parts (not (get_or (slots_at number) 0 0 == 3)) (is_seal_last (slots_at number)) (placed_at number inside)).0

  pub seal_at : (number : ℕ) → number < length blocks → is_seal_last (slots_at number) ≡ true
  seal_at number inside = (and_parts (not (get_or (slots_at number) 0 0 == 3)) (is_seal_last (slots_at number)) (placed_at number inside)).1

  pub third_at : (number : ℕ) → number < length blocks → get_or (first_recorded o (block_at number)) 2 0 ≡ 0
  third_at number inside =
      eqb-true (get_or (first_recorded o (block_at number)) 2 0) 0
      (and_parts (get_or (first_recorded o (block_at number)) 2 0 == 0) (list_all (is_log_entry o.words (shape o)) (entry_words (slots_at number)))
      (and_parts (get_or (first_recorded o (block_at number)) 2 0 == 0 && list_all (is_log_entry o.words (shape o)) (entry_words (slots_at number))) (is_seal_placed (slots_at number)) (form_at number inside)).0).0

  -- a log block that leads on is closed, and its link is not 0; a closed one that does not has the link 0
  pub leads_closed : (number : ℕ) → number < length blocks → leads_on (first_recorded o (block_at number)) ≡ true → is_closed (slots_at number) ≡ true
  leads_closed number inside on = go (is_closed (slots_at number)) (not (link_of (first_recorded o (block_at number)) == 0)) (no_snapshot (kind_of (first_recorded o (block_at number))) (log_at number inside).0) on
    where
      no_snapshot : (kind : ℕ) → kind ≡ 1 → (kind == 2) ≡ false
      no_snapshot kind is = rw is refl

      go : (closed linked : Bool) → is_snapshot (first_recorded o (block_at number)) ≡ false → (is_snapshot (first_recorded o (block_at number)) || (closed && linked)) ≡ true → closed ≡ true
      go true linked log on = refl
      go false linked log on = absurd (false≢true (rw log at on))

  pub ends_unlinked : (number : ℕ) → leads_on (first_recorded o (block_at number)) ≡ false → is_closed (slots_at number) ≡ true → link_of (first_recorded o (block_at number)) ≡ 0
  ends_unlinked number off closed = eqb-true (link_of (first_recorded o (block_at number))) 0 (go (is_snapshot (first_recorded o (block_at number))) (is_closed (slots_at number)) (link_of (first_recorded o (block_at number)) == 0) off closed)
    where
      go : (snapshot closed unlinked : Bool) → (snapshot || (closed && not unlinked)) ≡ false → closed ≡ true → unlinked ≡ true
      go true closed unlinked off is = absurd (true≢false off)
      go false true true off is = refl
      go false true false off is = absurd (true≢false off)
      go false false unlinked off is = absurd (false≢true is)

  -- the number of the last
  abbrev pub final : ℕ
  final = length blocks - 1

  -- where the last is open, its link and the slots behind its tail are 0
  pub tail_is : is_closed (slots_at final) ≡ false → (place : ℕ) → is_after (shape o) (AtSlot (block_at final) (3 + length (entry_words (slots_at final)))) place ≡ true → get_or o.words place 0 ≡ 0
  tail_is opens = subst (λ (h : Tail). IsClear o.words (shape o) h) same s.clear
    where
      open_tail : (block : ℕ) → is_closed (slots_of (first_recorded o block)) ≡ false → tail_in block (first_recorded o block) ≡ AtSlot block (3 + length (entry_words (slots_of (first_recorded o block))))
      open_tail block opens = rw opens refl

      same : tail_in (last_block 0 o.chain) (first_recorded o (last_block 0 o.chain)) ≡ AtSlot (block_at final) (3 + length (entry_words (slots_at final)))
      same = ap (λ (b : ℕ). tail_in b (first_recorded o b)) chained.last ∙ open_tail (block_at final) opens

  pub open_link : is_closed (slots_at final) ≡ false → get_or o.words (place_in (shape o) (block_at final) 0) 0 ≡ 0
  open_link opens = tail_is opens (place_in (shape o) (block_at final) 0) (link_behind (shape o) (block_at final) (3 + length (entry_words (slots_at final))))

  pub open_slot : is_closed (slots_at final) ≡ false → (k : ℕ) → length (used_slots (slots_at final)) < k → k + 3 < words_in (shape o) → get_or o.words (place_in (shape o) (block_at final) (k + 3)) 0 ≡ 0
  open_slot opens k past inside =
      tail_is opens (place_in (shape o) (block_at final) (k + 3))
      (behind_slot (shape o) (block_at final) (3 + length (entry_words (slots_at final))) (k + 3) (omega (arith, past, (open_used (slots_at final) opens).1)) inside)

  -- as many slots as a block has
  pub slots_long : (block : ℕ) → is_in_log (shape o) block ≡ true → length (slots_of (first_recorded o block)) + 3 ≡ words_in (shape o)
  slots_long block area = omega (arith, length-drop 3 (first_recorded o block), block_long o s block (log_inside (shape o) block area), s.wide)
