-- Words that a step of a seat leaves: those of the header, of the blocks that a kept generation names, and of other seats' blocks.
use Rattle.std.proofs.Common.{◌≡◌, ◌≢◌, ◌<◌, ◌≤◌, ◌/◌, ◌++◌, ◌||◌, ◌==◌, ℕ, zero, suc, Bool, true, false, List, [], ◌∷◌, drop, length, refl, sym, ◌∙◌, ap, arith}
use Rattle.std.proofs.lemmas.Bool.{eq-eqb}
use Rattle.std.proofs.lemmas.Nat.{div-mul-add}
use Rattle.std.proofs.lemmas.List.Folds.{list_any-append}
use Rattle.persistence.specs.Memory.{Memory, cell}
use Rattle.log_image.specs.Chains.{is_listed}
use Rattle.log_core.specs.Entries.{place_in, LogEntry}
use Rattle.log_core.specs.Origin.{Origin, shape, q_of_origin, OwnedBy, LogBlock, Generation}
use Rattle.log_core.specs.Files.{entries}
use Rattle.log_core.specs.Cores.{Core, nth_log, log_blocks, chain_names, data_names, is_named}
use Rattle.log_core.specs.Order.{nth_generation}
use Rattle.log_core.specs.Invariant.{Invariant, KeptIn}
use Rattle.log_core.proofs.clauses.Narrows.{Narrows}
use Rattle.log_core.proofs.clauses.Leaves.{Leaves, header_apart, taken_apart}

either_left : (a b : Bool) → a ≡ true → (a || b) ≡ true
either_left true b e = refl
either_left false b e = cc

either_right : (a b : Bool) → b ≡ true → (a || b) ≡ true
either_right true b e = refl
either_right false b e = e

-- a block is among more
pub has_left : (first second : List ℕ) (block : ℕ) → is_listed first block ≡ true → is_listed (first ++ second) block ≡ true
has_left first second block e = list_any-append (λ (other : ℕ). other == block) first second ∙ either_left (is_listed first block) (is_listed second block) e

pub has_right : (first second : List ℕ) (block : ℕ) → is_listed second block ≡ true → is_listed (first ++ second) block ≡ true
has_right first second block e = list_any-append (λ (other : ℕ). other == block) first second ∙ either_right (is_listed first block) (is_listed second block) e

-- a log block of a chain is among the chain's
pub has_log : (logs : List LogBlock) (cut number : ℕ) → cut ≤ number → number < length logs → is_listed (log_blocks (drop cut logs)) (nth_log logs number).block ≡ true
has_log [] cut number low inside = absurd (omega (arith, inside))
has_log (log ∷ logs) zero zero low inside = either_left (log.block == log.block) (is_listed (log_blocks logs) log.block) (eq-eqb log.block log.block refl)
has_log (log ∷ logs) zero (suc number) low inside =
    either_right (log.block == (nth_log logs number).block) (is_listed (log_blocks logs) (nth_log logs number).block) (has_log logs zero number (omega arith) (omega (arith, inside)))
has_log (log ∷ logs) (suc cut) zero low inside = absurd (omega (arith, low))
has_log (log ∷ logs) (suc cut) (suc number) low inside = has_log logs cut number (omega (arith, low)) (omega (arith, inside))

-- a block among more is of the one or the other
pub either_of : {P : Type 0} (a b : Bool) → (a || b) ≡ true → (a ≡ true → P) → (b ≡ true → P) → P
either_of true b e left right = left refl
either_of false b e left right = right e

module _ (o : Origin) (logs : List LogBlock) (g : Generation) where
  pub log_is_named : (number : ℕ) (es : List LogEntry) → g.cut ≤ number → number < length logs → is_named o logs es g (nth_log logs number).block ≡ true
  log_is_named number es low inside =
      has_left (chain_names logs g) (data_names o es g) (nth_log logs number).block (has_right g.snapshots (log_blocks (drop g.cut logs)) (nth_log logs number).block (has_log logs g.cut number low inside))

-- the blocks of a generation's snapshot, and those that it names in the data area
pub data_is_named : (o : Origin) (logs : List LogBlock) (es : List LogEntry) (g : Generation) (block : ℕ) → is_listed (g.snapshots ++ data_names o es g) block ≡ true → is_named o logs es g block ≡ true
data_is_named o logs es g block listed = either_of (is_listed g.snapshots block) (is_listed (data_names o es g) block) (sym (list_any-append (λ (other : ℕ). other == block) g.snapshots (data_names o es g)) ∙ listed)
    (λ snapshot. has_left (chain_names logs g) (data_names o es g) block (has_left g.snapshots (log_blocks (drop g.cut logs)) block snapshot))
    (λ named. has_right (chain_names logs g) (data_names o es g) block named)

module _ (o : Origin) (c : Core) (n : ℕ) (m : Memory) (inv : Invariant o c) (leaves : Leaves o c n m) where
  -- a word of the header
  pub header_cells : (word : ℕ) → word < 8 → Narrows (cell c.memory word) (cell m word)
  header_cells word low = leaves.cells word (λ mine. (header_apart n).other (sym inv.owners.bits.header ∙ (ap c.owner (sym first) ∙ mine)))
    where
      first : word / q_of_origin o ≡ 0
      first = (let wide = inv.sizes.image.wide in ap (λ (w : ℕ). w / q_of_origin o) (omega arith) ∙ div-mul-add 0 (q_of_origin o) word (omega (arith, wide, low)))

  -- a word of a block that is not the seat's own
  pub block_cells : (block k : ℕ) → c.owner block ≢ OwnedBy n → k < q_of_origin o → Narrows (cell c.memory (place_in (shape o) block k)) (cell m (place_in (shape o) block k))
  block_cells block k apart inside = leaves.cells (place_in (shape o) block k) (λ mine. apart (ap c.owner (sym (div-mul-add block (q_of_origin o) k inside)) ∙ mine))

  -- a block that a kept generation names is no seat's own
  pub named_apart : (place block : ℕ) → KeptIn o c place → is_named o c.logs (entries o c.history) (nth_generation c.generations place) block ≡ true → c.owner block ≢ OwnedBy n
  named_apart place block kept named = taken_apart n (c.owner block) ((inv.contents place kept).taken block named)

  pub named_cells : (place block k : ℕ) → KeptIn o c place → is_named o c.logs (entries o c.history) (nth_generation c.generations place) block ≡ true → k < q_of_origin o →
      Narrows (cell c.memory (place_in (shape o) block k)) (cell m (place_in (shape o) block k))
  named_cells place block k kept named inside = block_cells block k (named_apart place block kept named) inside

  -- a word of a log block of a kept generation's chain
  pub log_cells : (place number k : ℕ) → KeptIn o c place → (nth_generation c.generations place).cut ≤ number → number < length c.logs → k < q_of_origin o →
      Narrows (cell c.memory (place_in (shape o) (nth_log c.logs number).block k)) (cell m (place_in (shape o) (nth_log c.logs number).block k))
  log_cells place number k kept low inside =
      named_cells place (nth_log c.logs number).block k kept (log_is_named o c.logs (nth_generation c.generations place) number (entries o c.history) low inside)
