-- A chain says the same of words in which each block of the chain reads the same and each data block is the same.
use Rattle.std.proofs.Common.{◌≡◌, ◌+◌, ◌==◌, ◌&&◌, ℕ, Bool, true, List, [], ◌∷◌, length, refl, sym, ap, ◌∙◌, subst}
use Rattle.std.specs.List.{list_all}
use Rattle.log_entry.specs.Fields.{field}
use Rattle.log_entry.specs.declared.layouts.TheConstants.{BLOCK_KIND, BLOCK_BASE, SNAPSHOT, SNAPSHOT_SIZE}
use Rattle.log_image.specs.Image.{Shape, is_in_data, block_words}
use Rattle.log_image.specs.Header.{head_block}
use Rattle.log_image.specs.Blocks.{is_snapshot, base_of, file_size, slots_of, entry_words}
use Rattle.log_image.specs.Chains.{snapshots_of, logs_of, LeadsAlong, IsLinked, first_base, first_size, HaveOneBase, AreLogsFrom, IsChain}
use Rattle.log_image.proofs.HoldingLemmas.{both_left, both_right}
use Rattle.log_image.proofs.Clearing.{SameReading}

-- each block reads the same, and a data block is the same
pub record SameImage (shape : Shape) (old new : List ℕ) : Type 0 where
  pub head : head_block new ≡ head_block old
  pub reads : (block : ℕ) → SameReading (block_words old shape block) (block_words new shape block)
  pub holds : (block : ℕ) → is_in_data shape block ≡ true → block_words new shape block ≡ block_words old shape block

pub both : (a b : Bool) → a ≡ true → b ≡ true → (a && b) ≡ true
both a b first second = rw (first, second) refl

-- a test that follows from another holds of each element of which the other does
pub all_kept : {X : Type 0} (p q : X → Bool) (xs : List X) → ((x : X) → p x ≡ true → q x ≡ true) → list_all p xs ≡ true → list_all q xs ≡ true
all_kept p q [] follows all = refl
all_kept p q (x ∷ xs) follows all = both (q x) (list_all q xs) (follows x (both_left (p x) (list_all p xs) all)) (all_kept p q xs follows (both_right (p x) (list_all p xs) all))

same_kind : (shape : Shape) (old new : List ℕ) → SameImage shape old new → (block : ℕ) → is_snapshot (block_words new shape block) ≡ is_snapshot (block_words old shape block)
same_kind shape old new same block = ap (λ (w : ℕ). field BLOCK_KIND w == SNAPSHOT) (same.reads block).word

same_base : (shape : Shape) (old new : List ℕ) → SameImage shape old new → (block : ℕ) → base_of (block_words new shape block) ≡ base_of (block_words old shape block)
same_base shape old new same block = ap (λ (w : ℕ). field BLOCK_BASE w) (same.reads block).word

same_size : (shape : Shape) (old new : List ℕ) → SameImage shape old new → (block : ℕ) → file_size (block_words new shape block) ≡ file_size (block_words old shape block)
same_size shape old new same block = ap (λ (w : ℕ). field SNAPSHOT_SIZE w) (same.reads block).third

pub same_snapshots : (shape : Shape) (old new : List ℕ) → SameImage shape old new → (chain : List ℕ) → snapshots_of new shape chain ≡ snapshots_of old shape chain
same_snapshots shape old new same [] = refl
same_snapshots shape old new same (block ∷ blocks) = rw (same_kind shape old new same block, same_snapshots shape old new same blocks) refl

pub same_logs : (shape : Shape) (old new : List ℕ) → SameImage shape old new → (chain : List ℕ) → logs_of new shape chain ≡ logs_of old shape chain
same_logs shape old new same [] = refl
same_logs shape old new same (block ∷ blocks) = rw (same_kind shape old new same block, same_logs shape old new same blocks) refl

same_leads : (shape : Shape) (old new : List ℕ) → SameImage shape old new → (block : ℕ) (rest : List ℕ) → LeadsAlong old shape block rest → LeadsAlong new shape block rest
same_leads shape old new same block [] leads = (same.reads block).leads ∙ leads
same_leads shape old new same block (next ∷ rest) leads = ((same.reads block).leads ∙ leads.0, (same.reads block).link leads.0 ∙ leads.1, same_leads shape old new same next rest leads.2)

same_linked : (shape : Shape) (old new : List ℕ) → SameImage shape old new → (chain : List ℕ) → IsLinked old shape chain → IsLinked new shape chain
same_linked shape old new same [] linked = linked
same_linked shape old new same (first ∷ rest) linked = (same.head ∙ linked.0, same_leads shape old new same first rest linked.1)

same_bases : (shape : Shape) (old new : List ℕ) → SameImage shape old new → (base size : ℕ) (blocks : List ℕ) → HaveOneBase old shape base size blocks → HaveOneBase new shape base size blocks
same_bases shape old new same base size [] have = tt
same_bases shape old new same base size (block ∷ blocks) have = ((same_base shape old new same block ∙ have.0.0, same_size shape old new same block ∙ have.0.1), same_bases shape old new same base size blocks have.1)

same_from : (shape : Shape) (old new : List ℕ) → SameImage shape old new → (base : ℕ) (blocks : List ℕ) → AreLogsFrom old shape base blocks → AreLogsFrom new shape base blocks
same_from shape old new same base [] are = tt
same_from shape old new same base (block ∷ blocks) are = (
  ap (λ (w : ℕ). field BLOCK_KIND w) (same.reads block).word ∙ are.0,
  same_base shape old new same block ∙ are.1,
  subst (λ (l : List ℕ). AreLogsFrom new shape (base + length l) blocks) (sym (same.reads block).entries)
      (same_from shape old new same (base + length (entry_words (slots_of (block_words old shape block)))) blocks are.2),
)

same_first_base : (shape : Shape) (old new : List ℕ) → SameImage shape old new → (blocks : List ℕ) → first_base new shape blocks ≡ first_base old shape blocks
same_first_base shape old new same [] = refl
same_first_base shape old new same (block ∷ blocks) = same_base shape old new same block

same_first_size : (shape : Shape) (old new : List ℕ) → SameImage shape old new → (blocks : List ℕ) → first_size new shape blocks ≡ first_size old shape blocks
same_first_size shape old new same [] = refl
same_first_size shape old new same (block ∷ blocks) = same_size shape old new same block

pub same_snapshot_base : (shape : Shape) (old new : List ℕ) → SameImage shape old new → (chain : List ℕ) → first_base new shape (snapshots_of new shape chain) ≡ first_base old shape (snapshots_of old shape chain)
same_snapshot_base shape old new same chain = ap (λ (l : List ℕ). first_base new shape l) (same_snapshots shape old new same chain) ∙ same_first_base shape old new same (snapshots_of old shape chain)

pub same_snapshot_size : (shape : Shape) (old new : List ℕ) → SameImage shape old new → (chain : List ℕ) → first_size new shape (snapshots_of new shape chain) ≡ first_size old shape (snapshots_of old shape chain)
same_snapshot_size shape old new same chain = ap (λ (l : List ℕ). first_size new shape l) (same_snapshots shape old new same chain) ∙ same_first_size shape old new same (snapshots_of old shape chain)

pub same_chain : (shape : Shape) (old new : List ℕ) → SameImage shape old new → (chain : List ℕ) → IsChain old shape chain → IsChain new shape chain
same_chain shape old new same chain is = record {
  linked = same_linked shape old new same chain is.linked;
  different = is.different;
  snapshots =
      subst (λ (l : List ℕ). HaveOneBase new shape (first_base new shape (snapshots_of new shape chain)) (first_size new shape (snapshots_of new shape chain)) l) (sym (same_snapshots shape old new same chain))
      (subst (λ (n : ℕ). HaveOneBase new shape n (first_size new shape (snapshots_of new shape chain)) (snapshots_of old shape chain)) (sym (same_snapshot_base shape old new same chain))
      (subst (λ (n : ℕ). HaveOneBase new shape (first_base old shape (snapshots_of old shape chain)) n (snapshots_of old shape chain)) (sym (same_snapshot_size shape old new same chain))
      (same_bases shape old new same (first_base old shape (snapshots_of old shape chain)) (first_size old shape (snapshots_of old shape chain)) (snapshots_of old shape chain) is.snapshots)));
  logs =
      subst (λ (l : List ℕ). AreLogsFrom new shape (first_base new shape (snapshots_of new shape chain)) l) (sym (same_logs shape old new same chain))
      (subst (λ (n : ℕ). AreLogsFrom new shape n (logs_of old shape chain)) (sym (same_snapshot_base shape old new same chain))
      (same_from shape old new same (first_base old shape (snapshots_of old shape chain)) (logs_of old shape chain) is.logs));
}
