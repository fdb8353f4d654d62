-- The tail of a chain, the last of its blocks.
use Rattle.std.proofs.Common.{◌≡◌, ◌<◌, ◌≤◌, ◌+◌, ◌-◌, ◌*◌, ◌==◌, ◌&&◌, ◌||◌, not, nat_lt, nat_le, ℕ, zero, suc, Bool, true, false, List, [], ◌∷◌, ◌++◌, length, get_or, Option, Some, None, ◌⊎◌, inl, inr, if◌then◌else◌, refl, sym, ap, ◌∙◌, subst, arith}
use Rattle.std.specs.List.{list_all, slice_get}
use Rattle.std.specs.Option.{option_or}
use Rattle.std.proofs.lemmas.Bool.{eq-eqb, eqb-true, ltb-true}
use Rattle.std.proofs.lemmas.List.Folds.{list_any-append}
use Rattle.log_image.specs.Image.{Shape, words_in, is_in_log, block_words}
use Rattle.log_image.specs.Entries.{Meaning, names, all_names}
use Rattle.log_image.specs.Blocks.{is_snapshot, link_of, slots_of, entry_words, is_closed, leads_on}
use Rattle.log_image.specs.Maps.{block_in, map_of}
use Rattle.log_image.specs.Chains.{LeadsAlong, IsLinked, logs_of, is_listed}
use Rattle.log_image.specs.Positions.{entries_of}
use Rattle.log_image.specs.Format.{is_log_block}
use Rattle.log_image.specs.Stands.{StandsIn}
use Rattle.log_image.specs.Tails.{AtSlot, AtLink, last_block, tail_in, is_after, IsClear}
use Rattle.log_image.specs.Taken.{named_blocks, is_taken}
use Rattle.log_image.proofs.HoldingLemmas.{both_left, both_right}
use Rattle.log_image.proofs.ImageLemmas.{in_block}
use Rattle.log_image.proofs.ListLemmas.{all_back}
use Rattle.log_image.proofs.NameLemmas.{or_left, or_right}
use Rattle.log_image.proofs.ChainSteps.{logs_front}
use Rattle.image_steps.proofs.Extension.{Began}

-- the blocks before the last, and it
pub split_chain : (block : ℕ) (rest : List ℕ) → (front : List ℕ) × (block ∷ rest ≡ front ++ last_block block rest ∷ [])
split_chain block [] = ([], refl)
split_chain block (next ∷ rest) = (let split : (front : List ℕ) × (next ∷ rest ≡ front ++ last_block next rest ∷ []) = split_chain next rest in (block ∷ split.0, ap (λ (l : List ℕ). block ∷ l) split.1))

pub last_of : (first : ℕ) (front : List ℕ) (tail : ℕ) → last_block first (front ++ tail ∷ []) ≡ tail
last_of first [] tail = refl
last_of first (next ∷ front) tail = last_of next front tail

-- what is known of the tail of a chain
pub record AtTail (shape : Shape) (words front : List ℕ) (tail : ℕ) : Type 0 where
  pub began : Began shape words front tail
  pub is_log : is_snapshot (block_words words shape tail) ≡ false
  pub good : is_log_block words shape (block_words words shape tail) ≡ true
  pub area : is_in_log shape tail ≡ true
  pub ends : leads_on (block_words words shape tail) ≡ false

tail_leads : (words : List ℕ) (shape : Shape) (block : ℕ) (front : List ℕ) (tail : ℕ) → LeadsAlong words shape block (front ++ tail ∷ []) → leads_on (block_words words shape tail) ≡ false
tail_leads words shape block [] tail leads = leads.2
tail_leads words shape block (next ∷ front) tail leads = tail_leads words shape next front tail leads.2

tail_ends : (words : List ℕ) (shape : Shape) (front : List ℕ) (tail : ℕ) → IsLinked words shape (front ++ tail ∷ []) → leads_on (block_words words shape tail) ≡ false
tail_ends words shape [] tail linked = linked.1
tail_ends words shape (first ∷ front) tail linked = tail_leads words shape first front tail linked.1

no_first : (a b : Bool) → (a || b) ≡ false → a ≡ false
no_first true b none = cc
no_first false b none = refl

pub at_tail : (shape : Shape) (words front : List ℕ) (tail : ℕ) (file : List ℕ) (position : ℕ) → StandsIn words shape (front ++ tail ∷ []) file position → AtTail shape words front tail
at_tail shape words front tail file position stands =
    let ends : leads_on (block_words words shape tail) ≡ false = tail_ends words shape front tail stands.is_chain.linked in
    let log : is_snapshot (block_words words shape tail) ≡ false = no_first (is_snapshot (block_words words shape tail)) (is_closed (slots_of (block_words words shape tail)) && not (link_of (block_words words shape tail) == 0)) ends in
    record {
      began = record { is_chain = stands.is_chain; format = stands.format };
      is_log = log;
      good = both_left (is_log_block words shape (block_words words shape tail)) true
          (all_back (λ (b : ℕ). is_log_block words shape (block_words words shape b)) (logs_of words shape front) (tail ∷ [])
          (sym (ap (λ (l : List ℕ). list_all (λ (b : ℕ). is_log_block words shape (block_words words shape b)) l) (logs_front words shape front tail [] log)) ∙ stands.format.logs));
      area = both_left (is_in_log shape tail) true (all_back (is_in_log shape) front (tail ∷ []) stands.format.areas);
      ends = ends;
    }

-- a log block with no link leads on to none
pub no_lead : (block : List ℕ) → is_snapshot block ≡ false → link_of block ≡ 0 → leads_on block ≡ false
no_lead block log none = rw (log, none) (go (is_closed (slots_of block)))
  where
    go : (closed : Bool) → (closed && false) ≡ false
    go true = refl
    go false = refl

-- the link of a closed tail is 0
pub link_none : (block : List ℕ) → leads_on block ≡ false → is_closed (slots_of block) ≡ true → link_of block ≡ 0
link_none block ends closed = go (is_snapshot block) (link_of block == 0) refl (rw closed at ends)
  where
    go : (snapshot none : Bool) → (link_of block == 0) ≡ none → (snapshot || not none) ≡ false → link_of block ≡ 0
    go true none is ends = cc
    go false true is ends = eqb-true (link_of block) 0 is
    go false false is ends = cc

-- in one list or the other
pub in_left : (first second : List ℕ) (number : ℕ) → is_listed first number ≡ true → is_listed (first ++ second) number ≡ true
in_left first second number inside = list_any-append (λ (n : ℕ). n == number) first second ∙ or_left (is_listed first number) (is_listed second number) inside

pub in_right : (first second : List ℕ) (number : ℕ) → is_listed second number ≡ true → is_listed (first ++ second) number ≡ true
in_right first second number inside = list_any-append (λ (n : ℕ). n == number) first second ∙ or_right (is_listed first number) (is_listed second number) inside

-- blocks of the chain, and those that its entries name, are taken
pub chain_taken : (words : List ℕ) (shape : Shape) (chain : List ℕ) (block : ℕ) → is_listed chain block ≡ true → is_taken words shape chain block ≡ true
chain_taken words shape chain block inside = or_right (block == 0) (is_listed (named_blocks words shape chain) block) (in_left chain (all_names (entries_of words shape chain)) block inside)

pub name_taken : (words : List ℕ) (shape : Shape) (chain : List ℕ) (block : ℕ) → is_listed (all_names (entries_of words shape chain)) block ≡ true → is_taken words shape chain block ≡ true
name_taken words shape chain block inside = or_right (block == 0) (is_listed (named_blocks words shape chain) block) (in_right chain (all_names (entries_of words shape chain)) block inside)

-- a block that an entry gives is among its blocks
pub at_in : (blocks : List ℕ) (place block : ℕ) → slice_get blocks place ≡ Some block → is_listed blocks block ≡ true
at_in [] place block found = cc
at_in (first ∷ blocks) zero block found = (let same : first ≡ block = cc in or_left (first == block) (is_listed blocks block) (eq-eqb first block same))
at_in (first ∷ blocks) (suc place) block found = or_right (first == block) (is_listed blocks block) (at_in blocks place block found)

pub block_in_blocks : (entry : Meaning) (virt block : ℕ) → block_in entry virt ≡ Some block → is_listed entry.blocks block ≡ true
block_in_blocks entry virt block found = go (nat_le entry.virt virt) found
  where
    go : (named : Bool) → (if named then slice_get entry.blocks (virt - entry.virt) else None) ≡ Some block → is_listed entry.blocks block ≡ true
    go true is = at_in entry.blocks (virt - entry.virt) block is
    go false is = cc

one_of : {X : Type 0} (first second : Option X) (x : X) → option_or first second ≡ Some x → (first ≡ Some x) ⊎ (second ≡ Some x)
one_of None second x found = inr found
one_of (Some y) second x found = inl found

-- a mapped block is named
pub map_in_names : (entries : List Meaning) (virt block : ℕ) → map_of entries virt ≡ Some block → is_listed (all_names entries) block ≡ true
map_in_names [] virt block found = cc
map_in_names (entry ∷ entries) virt block found =
    elim (one_of (map_of entries virt) (block_in entry virt) block found) [
      | inl is ↦ in_right (names entry) (all_names entries) block (map_in_names entries virt block is)
      | inr is ↦ in_left (names entry) (all_names entries) block (in_right entry.holder entry.blocks block (block_in_blocks entry virt block is))
    ]

-- the map with one entry more
pub map_new : (entries : List Meaning) (entry : Meaning) (virt block : ℕ) → block_in entry virt ≡ Some block → map_of (entries ++ entry ∷ []) virt ≡ Some block
map_new [] entry virt block found = found
map_new (first ∷ entries) entry virt block found = rw (map_new entries entry virt block found) refl

pub map_rest : (entries : List Meaning) (entry : Meaning) (virt : ℕ) → block_in entry virt ≡ None → map_of (entries ++ entry ∷ []) virt ≡ map_of entries virt
map_rest [] entry virt none = none
map_rest (first ∷ entries) entry virt none = rw (map_rest entries entry virt none) refl

-- a place after a slot is in the slot's block
pub record InBlock (shape : Shape) (block place : ℕ) : Type 0 where
  pub from : block * words_in shape ≤ place
  pub below : place < block * words_in shape + words_in shape

pub after_in_block : (shape : Shape) (block slot place : ℕ) → 0 < words_in shape → is_after shape (AtSlot block slot) place ≡ true → InBlock shape block place
after_in_block shape block slot place some after = go (place == block * words_in shape) refl after
  where
    go : (link : Bool) → (place == block * words_in shape) ≡ link → (link || (nat_lt (block * words_in shape + slot) place && nat_lt place (block * words_in shape + words_in shape))) ≡ true → InBlock shape block place
    go true is holds = (let same : place ≡ block * words_in shape = eqb-true place (block * words_in shape) is in record { from = omega (arith, same); below = omega (arith, same, some) })
    go false is holds = record {
      from = omega (arith, ltb-true (block * words_in shape + slot) place (both_left (nat_lt (block * words_in shape + slot) place) (nat_lt place (block * words_in shape + words_in shape)) holds));
      below = ltb-true place (block * words_in shape + words_in shape) (both_right (nat_lt (block * words_in shape + slot) place) (nat_lt place (block * words_in shape + words_in shape)) holds);
    }

-- a word of the image by its block
pub by_block : (shape : Shape) (words : List ℕ) (block place : ℕ) → InBlock shape block place → get_or words place 0 ≡ get_or (block_words words shape block) (place - block * words_in shape) 0
by_block shape words block place inside =
    let whole : block * words_in shape + (place - block * words_in shape) ≡ place = omega (arith, inside.from) in
    ap (λ (n : ℕ). get_or words n 0) (sym whole) ∙ sym (in_block words shape block (place - block * words_in shape) (omega (arith, inside.from, inside.below)))

-- where a block is the same, what stands after its tail is the same
pub clear_kept : (shape : Shape) (old new : List ℕ) (block : ℕ) → 0 < words_in shape → block_words new shape block ≡ block_words old shape block → IsClear old shape (tail_in block (block_words old shape block)) → IsClear new shape (tail_in block (block_words new shape block))
clear_kept shape old new block some same clear =
    subst (λ (l : List ℕ). IsClear new shape (tail_in block l)) (sym same) (go (is_closed (slots_of (block_words old shape block))) clear)
  where
    go : (closed : Bool) → IsClear old shape (if closed then AtLink block else AtSlot block (3 + length (entry_words (slots_of (block_words old shape block))))) →
        IsClear new shape (if closed then AtLink block else AtSlot block (3 + length (entry_words (slots_of (block_words old shape block)))))
    go true before place after = cc
    go false before place after =
        let inside : InBlock shape block place = after_in_block shape block (3 + length (entry_words (slots_of (block_words old shape block)))) place some after in
        by_block shape new block place inside ∙ ap (λ (l : List ℕ). get_or l (place - block * words_in shape) 0) same ∙ sym (by_block shape old block place inside) ∙ before place after
