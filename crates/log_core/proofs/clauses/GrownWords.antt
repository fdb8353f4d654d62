-- Where a step puts a word more into the last log block, all other words stay: those of the header, of seats' blocks, and those that are not 0.
use Rattle.std.proofs.Common.{◌≡◌, ◌≢◌, ◌<◌, ◌≤◌, ◌+◌, ◌-◌, ◌/◌, ℕ, length, refl, sym, ◌∙◌, ap, subst, arith, inl, inr}
use Rattle.std.proofs.lemmas.Nat.{div-mul-add}
use Rattle.log_image.specs.Image.{words_in}
use Rattle.log_image.proofs.BlockLemmas.{other_place}
use Rattle.persistence.specs.Memory.{Cell, cell}
use Rattle.log_core.specs.Entries.{place_in, head_place}
use Rattle.log_core.specs.Origin.{Origin, shape, q_of_origin, Owner, Header, OwnedBy}
use Rattle.log_core.specs.Files.{entries}
use Rattle.log_core.specs.Cores.{Core, head_floor, is_named}
use Rattle.log_core.specs.Order.{nth_generation}
use Rattle.log_core.specs.Contents.{IsStillTaken}
use Rattle.log_core.specs.Invariant.{Invariant, KeptIn}
use Rattle.log_core.proofs.Heads.{current_kept}
use Rattle.log_core.proofs.clauses.Apart.{log_is_named}
use Rattle.log_core.proofs.clauses.Leaves.{taken_apart}
use Rattle.log_core.proofs.clauses.OneView.{same_or_other}
use Rattle.log_core.proofs.clauses.Growth.{Growth, Grows, last_log}

module _ (o : Origin) (c : Core) (inv : Invariant o c) where
  -- there is a last log block
  pub last_inside : length c.logs - 1 < length c.logs
  last_inside = (let some = inv.order.log.some in omega (arith, some))

  -- each kept generation's chain has the last log block
  pub last_late : (place : ℕ) → KeptIn o c place → (nth_generation c.generations place).cut ≤ length c.logs - 1
  last_late place kept = (let cut = inv.order.generations_rise.cut_inside place kept.inside in omega (arith, cut))

  -- so it names that block
  pub last_named : (place : ℕ) → KeptIn o c place → is_named o c.logs (entries o c.history) (nth_generation c.generations place) (last_log c).block ≡ Rattle.std.proofs.Common.true
  last_named place kept = log_is_named o c.logs (nth_generation c.generations place) (length c.logs - 1) (entries o c.history) (last_late place kept) last_inside

  -- which is still taken, and not the header
  pub last_taken : IsStillTaken (c.owner (last_log c).block)
  last_taken = (inv.contents (length (cell c.memory head_place).past) (current_kept o c inv)).taken (last_log c).block (last_named (length (cell c.memory head_place).past) (current_kept o c inv))

  pub last_some : (last_log c).block ≢ 0
  last_some none = no_header (subst (λ (whose : Owner). IsStillTaken whose) (ap c.owner none ∙ inv.owners.bits.header) last_taken)
    where
      no_header : IsStillTaken Header → ⊥
      no_header (inl chain) = cc
      no_header (inr left) = (let e = left.1 in cc)

module _ (o : Origin) (c : Core) (x : Growth) (inv : Invariant o c) (grows : Grows o c x) where
  abbrev word : ℕ
  word = place_in (shape o) (last_log c).block x.index

  word_block : word / q_of_origin o ≡ (last_log c).block
  word_block = div-mul-add (last_log c).block (q_of_origin o) x.index grows.index

  -- each other word stays
  pub other_cell : (k : ℕ) → k ≢ word → cell x.memory k ≡ cell c.memory k
  other_cell = grows.memory.others

  -- a word of the header
  pub header_same : (k : ℕ) → k < 8 → cell x.memory k ≡ cell c.memory k
  header_same k low = other_cell k (λ same. last_some o c inv (sym word_block ∙ (ap (λ (w : ℕ). w / q_of_origin o) (sym same) ∙ first)))
    where
      first : k / q_of_origin o ≡ 0
      first = (let wide = inv.sizes.image.wide in ap (λ (w : ℕ). w / q_of_origin o) (omega arith) ∙ div-mul-add 0 (q_of_origin o) k (omega (arith, wide, low)))

  -- so the head stays, and its floor
  pub head_same : cell x.memory head_place ≡ cell c.memory head_place
  head_same = header_same head_place (omega arith)

  pub floor_same : head_floor x.memory ≡ head_floor c.memory
  floor_same = ap (λ (a : Cell). a.floor) head_same

  -- a word of a seat's block
  pub owned_same : (seat k : ℕ) → c.owner (k / q_of_origin o) ≡ OwnedBy seat → cell x.memory k ≡ cell c.memory k
  owned_same seat k owned = other_cell k (λ same. taken_apart seat (c.owner (last_log c).block) (last_taken o c inv) (ap c.owner (sym word_block ∙ ap (λ (w : ℕ). w / q_of_origin o) (sym same)) ∙ owned))

  -- a word of another block, or with another number in its block
  pub other_block : (block k : ℕ) → block ≢ (last_log c).block → k < words_in (shape o) → cell x.memory (place_in (shape o) block k) ≡ cell c.memory (place_in (shape o) block k)
  other_block block k other inside = other_cell (place_in (shape o) block k) (other_place (words_in (shape o)) block (last_log c).block k x.index other inside grows.index)

  -- or with another number in it
  pub other_index : (block k : ℕ) → k ≢ x.index → k < words_in (shape o) → cell x.memory (place_in (shape o) block k) ≡ cell c.memory (place_in (shape o) block k)
  other_index block k other inside = same_or_other block (last_log c).block
      (λ same. other_cell (place_in (shape o) block k) (λ at. other (let e : place_in (shape o) (last_log c).block k ≡ word = ap (λ (b : ℕ). place_in (shape o) b k) (sym same) ∙ at in omega (arith, e))))
      (λ apart. other_block block k apart inside)

  -- a word that is not 0
  pub some_same : (k : ℕ) → (cell c.memory k).present ≢ 0 → cell x.memory k ≡ cell c.memory k
  some_same k some = other_cell k (λ same. some (ap (λ (w : ℕ). (cell c.memory w).present) same ∙ grows.memory.was))
