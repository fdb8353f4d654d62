-- What a step of a seat leaves to the others: a memory in which every word but those of the seat's own blocks keeps its values, and the
-- owner of every block but those that the seat takes or gives back.
use Rattle.std.proofs.Common.{◌≡◌, ◌≢◌, ◌≤◌, ◌/◌, ℕ, true, List, length, refl, sym, ◌∙◌, ap, arith, ◌⊎◌, inl, inr, ⊎_elim, slice_index, slice_set}
use Rattle.persistence.specs.Memory.{Memory, cell, index_at, pending_of}
use Rattle.persistence.specs.Survivors.{value_at}
use Rattle.log_core.specs.Views.{View}
use Rattle.log_core.specs.Origin.{Origin, q_of_origin, Owner, Free, Header, InChain, OwnedBy, LeftTo}
use Rattle.log_core.specs.Cores.{Core, head_floor, is_named, IsKept}
use Rattle.log_core.specs.Files.{entries}
use Rattle.log_core.specs.Order.{nth_generation}
use Rattle.log_core.specs.Sizes.{MemoryFits}
use Rattle.log_core.specs.Contents.{IsStillTaken}
use Rattle.log_core.specs.Owners.{IsListOf}
use Rattle.log_core.specs.Invariant.{Invariant}
use Rattle.log_core.proofs.clauses.Narrows.{Narrows, floor_inside}

-- the memory after a step of seat n
pub record Leaves (o : Origin) (c : Core) (n : ℕ) (m : Memory) : Type 0 where
  pub fits : MemoryFits o m (length c.views)
  pub pins : (k : ℕ) → k ≢ n → slice_index m.now.pins k ≡ slice_index c.memory.now.pins k
  pub cells : (word : ℕ) → c.owner (word / q_of_origin o) ≢ OwnedBy n → Narrows (cell c.memory word) (cell m word)
  pub values : (word k : ℕ) → k ≤ length (cell c.memory word).past → value_at (cell m word) k ≡ value_at (cell c.memory word) k
  pub pending : (k : ℕ) → k ≢ n → pending_of k m.pending ≡ pending_of k c.memory.pending
  pub times : (time word : ℕ) → time ≤ length c.memory.past → index_at m.past time word ≡ index_at c.memory.past time word

-- nobody's block, or the seat's own
abbrev pub IsFreeOrMine : ℕ → Owner → Type 0
IsFreeOrMine n whose = (whose ≡ Free) ⊎ (whose ≡ OwnedBy n)

-- the owners after it
pub record Changes (c : Core) (n : ℕ) (owner : ℕ → Owner) : Type 0 where
  pub each : (block : ℕ) → (owner block ≡ c.owner block) ⊎ (IsFreeOrMine n (c.owner block) × IsFreeOrMine n (owner block))

-- the core with another memory and other owners
abbrev pub moved : Core → Memory → (ℕ → Owner) → Core
moved c m owner = record c { memory = m; owner = owner }

-- an owner that no seat's step changes: nobody's block and the seat's own are none such
pub record IsApart (n : ℕ) (whose : Owner) : Type 0 where
  pub some : whose ≢ Free
  pub other : whose ≢ OwnedBy n

abbrev owned_number : Owner → ℕ
owned_number (OwnedBy n) = n
owned_number _ = 0

pub chain_apart : (n : ℕ) → IsApart n InChain
chain_apart n = record { some = λ e. cc; other = λ e. cc }

pub left_apart : (n k : ℕ) → IsApart n (LeftTo k)
left_apart n k = record { some = λ e. cc; other = λ e. cc }

pub header_apart : (n : ℕ) → IsApart n Header
header_apart n = record { some = λ e. cc; other = λ e. cc }

pub others_apart : (n k : ℕ) → k ≢ n → IsApart n (OwnedBy k)
others_apart n k other = record { some = λ e. cc; other = λ e. other (ap owned_number e) }

never_apart : {P : Type 0} (n : ℕ) (whose w : Owner) → IsApart n whose → w ≡ whose → IsFreeOrMine n w → P
never_apart n whose w apart is (inl free) = absurd (apart.some (sym is ∙ free))
never_apart n whose w apart is (inr mine) = absurd (apart.other (sym is ∙ mine))

-- the list of an owner that stays
pub others_stay : (before after : ℕ → Owner) (blocks : List ℕ) (whose : Owner) → ((block : ℕ) → after block ≡ whose → before block ≡ whose) → ((block : ℕ) → before block ≡ whose → after block ≡ whose) →
    IsListOf before blocks whose → IsListOf after blocks whose
others_stay before after blocks whose was is list = record { listed = λ block inside. is block (list.listed block inside); all = λ block mine. list.all block (was block mine); once = list.once }

module _ (c : Core) (n : ℕ) (owner : ℕ → Owner) (changes : Changes c n owner) where
  -- such a block had this owner exactly where it has
  pub owner_was : (block : ℕ) (whose : Owner) → IsApart n whose → owner block ≡ whose → c.owner block ≡ whose
  owner_was block whose apart is = ⊎_elim (λ same. sym same ∙ is) (λ both. never_apart n whose (owner block) apart is both.1) (changes.each block)

  pub owner_is : (block : ℕ) (whose : Owner) → IsApart n whose → c.owner block ≡ whose → owner block ≡ whose
  owner_is block whose apart was = ⊎_elim (λ same. same ∙ was) (λ both. never_apart n whose (c.owner block) apart was both.0) (changes.each block)

  pub list_stays : (blocks : List ℕ) (whose : Owner) → IsApart n whose → IsListOf c.owner blocks whose → IsListOf owner blocks whose
  list_stays blocks whose apart list = others_stay c.owner owner blocks whose (λ block. owner_was block whose apart) (λ block. owner_is block whose apart) list

  pub still_taken : (block : ℕ) → IsStillTaken (c.owner block) → IsStillTaken (owner block)
  still_taken block (inl chain) = inl (owner_is block InChain (chain_apart n) chain)
  still_taken block (inr left) = inr (left.0, owner_is block (LeftTo left.0) (left_apart n left.0) left.1)

-- an owner that is not changed where blocks that collections replaced are given back besides
pub record IsOthers (n : ℕ) (whose : Owner) : Type 0 where
  pub apart : IsApart n whose
  pub left : whose ≢ LeftTo n

abbrev pub left_number : Owner → ℕ
left_number (LeftTo n) = n
left_number _ = 0

pub chain_others : (n : ℕ) → IsOthers n InChain
chain_others n = record { apart = chain_apart n; left = λ e. cc }

pub owned_others : (n k : ℕ) → k ≢ n → IsOthers n (OwnedBy k)
owned_others n k other = record { apart = others_apart n k other; left = λ e. cc }

pub left_others : (n k : ℕ) → k ≢ n → IsOthers n (LeftTo k)
left_others n k other = record { apart = left_apart n k; left = λ e. other (ap left_number e) }

-- the owners after a step of seat n that leaves the view w: the others have what they had, and what a kept generation names is still taken
pub record LeavesOwners (o : Origin) (c : Core) (n : ℕ) (m : Memory) (w : View) (owner : ℕ → Owner) : Type 0 where
  pub was : (block : ℕ) (whose : Owner) → IsOthers n whose → owner block ≡ whose → c.owner block ≡ whose
  pub is : (block : ℕ) (whose : Owner) → IsOthers n whose → c.owner block ≡ whose → owner block ≡ whose
  pub taken : (place block : ℕ) → IsKept o c.generations (head_floor m) (slice_set c.views n w) place → is_named o c.logs (entries o c.history) (nth_generation c.generations place) block ≡ true →
      IsStillTaken (c.owner block) → IsStillTaken (owner block)

-- as where the seat takes or gives back own blocks alone
pub changes_leave : (o : Origin) (c : Core) (n : ℕ) (m : Memory) (w : View) (owner : ℕ → Owner) → Changes c n owner → LeavesOwners o c n m w owner
changes_leave o c n m w owner changes = record {
  was = λ block whose others. owner_was c n owner changes block whose others.apart;
  is = λ block whose others. owner_is c n owner changes block whose others.apart;
  taken = λ place block kept named. still_taken c n owner changes block;
}

-- where nothing changes
pub no_changes : (c : Core) (n : ℕ) → Changes c n (λ block. c.owner block)
no_changes c n = record { each = λ block. inl refl }

-- a block that is still taken is no seat's own
pub taken_apart : (n : ℕ) (whose : Owner) → IsStillTaken whose → whose ≢ OwnedBy n
taken_apart n whose (inl chain) mine = (chain_apart n).other (sym chain ∙ mine)
taken_apart n whose (inr left) mine = (left_apart n left.0).other (sym left.1 ∙ mine)

-- other pin words of the seat alone leave all the rest
pub pins_leave : (o : Origin) (c : Core) (n : ℕ) → Invariant o c → (pins : List ℕ) → length pins ≡ length c.memory.now.pins → ((k : ℕ) → k ≢ n → slice_index pins k ≡ slice_index c.memory.now.pins k) →
    Leaves o c n (record (c.memory) { now = record (c.memory.now) { pins = pins } })
pins_leave o c n inv pins same others = record {
  fits = (let r = inv.sizes.words in record { words = r.words; taken = r.taken; pins = same ∙ r.pins; floors = r.floors; reached = r.reached; small = r.small; small_past = r.small_past; pending = r.pending });
  pins = others;
  cells = λ word apart. record { present = refl; past = refl; floor = omega arith; inside = floor_inside c.memory word };
  values = λ word k low. refl;
  pending = λ k other. refl;
  times = λ time word early. refl;
}
