-- A word of a block that a seat owns.
use Rattle.std.proofs.Common.{◌≡◌, ◌≢◌, ◌<◌, ◌≤◌, ◌+◌, ◌*◌, ◌/◌, ℕ, true, [], length, map, sym, ◌∙◌, ap, subst, arith}
use Rattle.std.proofs.Math.Nat.{mul-le-mul_right, lt-div-mul-add}
use Rattle.log_image.specs.Image.{total}
use Rattle.pmem_words.specs.Seats.{Seat}
use Rattle.persistence.specs.Memory.{Memory, PendingMark, cell, pending_of}
use Rattle.log_image.specs.Chains.{is_listed}
use Rattle.log_core.specs.Views.{Ghost, view_of}
use Rattle.log_core.specs.Origin.{Origin, shape, q_of_origin, OwnedBy, Free}
use Rattle.log_core.specs.Cores.{Core}
use Rattle.log_core.specs.Works.{words_of}
use Rattle.log_core.specs.Needs.{owned_numbers}
use Rattle.log_core.specs.Records.{mark_of}
use Rattle.log_core.specs.Invariant.{Invariant}
use Rattle.log_core.specs.Knows.{Knows}
use Rattle.log_core.proofs.clauses.Leaves.{Leaves}
use Rattle.log_core.proofs.clauses.Others.{mark_same, notes_early}
use Rattle.log_core.proofs.Each.{each_weaker, map_same}

-- a word is in the image where its block is
pub word_below : (q blocks word : ℕ) → 0 < q → word / q < blocks → word < blocks * q
word_below q blocks word some inside =
    (let times : (word / q + 1) * q ≤ blocks * q = mul-le-mul_right q (omega (arith, inside)) in
    let low : word < word / q * q + q = lt-div-mul-add some in
    omega (arith, times, low))

module _ (o : Origin) (c : Core) (n : ℕ) (s : Seat) (g : Ghost) (pin began : ℕ) (inv : Invariant o c) (f : Knows o c n s g pin began) (unspent : (view_of c.views n).parts ≢ []) where
  geometry : s.geometry ≡ o.geometry
  geometry = (f.fits unspent).geometry

  pub same_words : words_of s ≡ q_of_origin o
  same_words = ap Rattle.pmem_words.specs.Seats.q_of geometry

  module _ (word : ℕ) (owned : is_listed (owned_numbers s.blocks.owned) (word / words_of s) ≡ true) where
    pub word_owner : c.owner (word / q_of_origin o) ≡ OwnedBy n
    word_owner = subst (λ (q : ℕ). c.owner (word / q) ≡ OwnedBy n) same_words (f.owns.owned.listed (word / words_of s) owned)

    pub word_inside : word < length o.words
    word_inside =
        (let image = inv.sizes.image in
        let wide = image.wide in
        let whole = image.whole in
        let block : word / q_of_origin o < total (shape o) = inv.owners.bits.inside (word / q_of_origin o) (λ free. (let both : OwnedBy n ≡ Free = sym word_owner ∙ free in cc)) in
        let low : word < total (shape o) * q_of_origin o = word_below (q_of_origin o) (total (shape o)) word (omega (arith, wide)) block in
        omega (arith, whole, low))

    -- a word of a block of another owner is another one
    pub other_word : (k : ℕ) → c.owner (k / q_of_origin o) ≢ OwnedBy n → k ≢ word
    other_word k apart same = apart (ap (λ (w : ℕ). c.owner (w / q_of_origin o)) same ∙ word_owner)

-- the marks that a seat had are of the same values
pub own_marks : (o : Origin) (c : Core) (n : ℕ) (m : Memory) → Invariant o c → Leaves o c n m →
    map (mark_of (λ word. cell m word) m.past) (pending_of n c.memory.pending) ≡ map (mark_of (λ word. cell c.memory word) c.memory.past) (pending_of n c.memory.pending)
own_marks o c n m inv leaves = map_same (mark_of (λ word. cell m word) m.past) (mark_of (λ word. cell c.memory word) c.memory.past) (pending_of n c.memory.pending)
    (each_weaker (λ (note : PendingMark). note.time ≤ length c.memory.past) (λ (note : PendingMark). mark_of (λ word. cell m word) m.past note ≡ mark_of (λ word. cell c.memory word) c.memory.past note) (pending_of n c.memory.pending)
    (mark_same o c n m inv leaves) (notes_early o c n inv))
