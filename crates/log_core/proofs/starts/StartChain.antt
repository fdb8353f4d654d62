-- The blocks of a chain: its snapshot blocks and then its log blocks, which lead on to one another.
use Rattle.std.proofs.Common.{◌≡◌, ℕ, zero, suc, ◌+◌, ◌-◌, ◌<◌, ◌==◌, ◌&&◌, ◌||◌, not, Bool, true, false, List, [], ◌∷◌, ◌++◌, length, take, get_or, refl, sym, ap, ◌∙◌, subst, arith, length-append}
use Rattle.std.specs.List.{list_all, flat_map}
use Rattle.std.proofs.lemmas.Bool.{true≢false, and_parts}
use Rattle.log_image.specs.Image.{Shape, block_words}
use Rattle.log_image.specs.Blocks.{link_of, kind_of, is_snapshot, base_of, slots_of, is_closed, leads_on}
use Rattle.log_image.specs.Chains.{snapshots_of, logs_of, LeadsAlong, IsLinked, AreLogsFrom}
use Rattle.log_image.specs.Header.{head_block}
use Rattle.log_image.specs.Tails.{last_block}
use Rattle.log_image.proofs.ChainSteps.{log_entry_words}
use Rattle.log_core.specs.Snapshots.{first_or}

-- each of some blocks links to the next, and the last to the block that follows
abbrev pub LinkTo : List ℕ → Shape → List ℕ → ℕ → Type 0
LinkTo words shape [] following = Unit {0}
LinkTo words shape (block ∷ blocks) following = (link_of (block_words words shape block) ≡ first_or blocks following) × LinkTo words shape blocks following

-- a chain's first log block, and those after it
pub record Parted (words : List ℕ) (shape : Shape) (block : ℕ) (rest : List ℕ) : Type 0 where
  pub first : ℕ
  pub others : List ℕ
  pub logs : logs_of words shape (block ∷ rest) ≡ first ∷ others
  pub whole : snapshots_of words shape (block ∷ rest) ++ (first ∷ others) ≡ block ∷ rest
  pub front : first_or (snapshots_of words shape (block ∷ rest)) first ≡ block
  pub last : last_block block rest ≡ last_block first others
  pub leads : LeadsAlong words shape first others
  pub links : LinkTo words shape (snapshots_of words shape (block ∷ rest)) first

at_log : (words : List ℕ) (shape : Shape) (block : ℕ) (rest : List ℕ) → is_snapshot (block_words words shape block) ≡ false → LeadsAlong words shape block rest → Parted words shape block rest
at_log words shape block rest log leads = record {
  first = block;
  others = rest;
  logs = rw log refl;
  whole = rw log refl;
  front = rw log refl;
  last = refl;
  leads = leads;
  links = rw log tt;
}

at_snapshot : (words : List ℕ) (shape : Shape) (block next : ℕ) (rest : List ℕ) → is_snapshot (block_words words shape block) ≡ true → link_of (block_words words shape block) ≡ next → Parted words shape next rest → Parted words shape block (next ∷ rest)
at_snapshot words shape block next rest snapshot link p = record {
  first = p.first;
  others = p.others;
  logs = rw snapshot p.logs;
  whole = rw snapshot (ap (λ (l : List ℕ). block ∷ l) p.whole);
  front = rw snapshot refl;
  last = p.last;
  leads = p.leads;
  links = rw snapshot (link ∙ sym p.front, p.links);
}

pub parted : (words : List ℕ) (shape : Shape) (block : ℕ) (rest : List ℕ) → LeadsAlong words shape block rest → Parted words shape block rest
parted words shape block [] leads = at_log words shape block [] (no_snapshot (is_snapshot (block_words words shape block)) (is_closed (slots_of (block_words words shape block)) && not (link_of (block_words words shape block) == 0)) leads) leads
  where
    no_snapshot : (a b : Bool) → (a || b) ≡ false → a ≡ false
    no_snapshot true b is = absurd (true≢false is)
    no_snapshot false b is = refl
parted words shape block (next ∷ rest) leads = go (is_snapshot (block_words words shape block)) refl (parted words shape next rest leads.2)
  where
    go : (snapshot : Bool) → is_snapshot (block_words words shape block) ≡ snapshot → Parted words shape next rest → Parted words shape block (next ∷ rest)
    go true is p = at_snapshot words shape block next rest is leads.1 p
    go false is p = at_log words shape block (next ∷ rest) is leads

-- each log block but the last leads on to the next, and the last to none
pub leads_at : (words : List ℕ) (shape : Shape) (first : ℕ) (others : List ℕ) (number : ℕ) → LeadsAlong words shape first others → number < length others →
    (leads_on (block_words words shape (get_or (first ∷ others) number 0)) ≡ true) × (link_of (block_words words shape (get_or (first ∷ others) number 0)) ≡ get_or others number 0)
leads_at words shape first [] number leads inside = absurd (omega (arith, inside))
leads_at words shape first (next ∷ others) zero leads inside = (leads.0, leads.1)
leads_at words shape first (next ∷ others) (suc number) leads inside = leads_at words shape next others number leads.2 (omega (arith, inside))

pub leads_last : (words : List ℕ) (shape : Shape) (first : ℕ) (others : List ℕ) → LeadsAlong words shape first others →
    (get_or (first ∷ others) (length others) 0 ≡ last_block first others) × (leads_on (block_words words shape (last_block first others)) ≡ false)
leads_last words shape first [] leads = (refl, leads)
leads_last words shape first (next ∷ others) leads = leads_last words shape next others leads.2

-- the kind and the base of each log block
pub log_at_place : (words : List ℕ) (shape : Shape) (base : ℕ) (blocks : List ℕ) (number : ℕ) → AreLogsFrom words shape base blocks → number < length blocks →
    (kind_of (block_words words shape (get_or blocks number 0)) ≡ 1) × (base_of (block_words words shape (get_or blocks number 0)) ≡ base + length (flat_map (log_entry_words words shape) (take number blocks)))
log_at_place words shape base [] number logs inside = absurd (omega (arith, inside))
log_at_place words shape base (block ∷ blocks) zero logs inside = (logs.0, logs.1 ∙ omega arith)
log_at_place words shape base (block ∷ blocks) (suc number) logs inside =
    let rest : (kind_of (block_words words shape (get_or blocks number 0)) ≡ 1) × (base_of (block_words words shape (get_or blocks number 0)) ≡ base + length (log_entry_words words shape block) + length (flat_map (log_entry_words words shape) (take number blocks))) =
    log_at_place words shape (base + length (log_entry_words words shape block)) blocks number logs.2 (omega (arith, inside)) in
    (rest.0, omega (arith, rest.1, length-append (log_entry_words words shape block) (flat_map (log_entry_words words shape) (take number blocks))))

-- one more block has its entries more
entries_one : (f : ℕ → List ℕ) (blocks : List ℕ) (number : ℕ) → number < length blocks → length (flat_map f (take (suc number) blocks)) ≡ length (flat_map f (take number blocks)) + length (f (get_or blocks number 0))
entries_one f [] number inside = absurd (omega (arith, inside))
entries_one f (block ∷ blocks) zero inside = length-append (f block) [] ∙ omega arith
entries_one f (block ∷ blocks) (suc number) inside =
    length-append (f block) (flat_map f (take (suc number) blocks))
    ∙ ap (λ (k : ℕ). length (f block) + k) (entries_one f blocks number (omega (arith, inside)))
    ∙ omega arith
    ∙ ap (λ (k : ℕ). k + length (f (get_or blocks number 0))) (sym (length-append (f block) (flat_map f (take number blocks))))

pub entries_more : (f : ℕ → List ℕ) (blocks : List ℕ) (number : ℕ) → number < length blocks → length (flat_map f (take (number + 1) blocks)) ≡ length (flat_map f (take number blocks)) + length (f (get_or blocks number 0))
entries_more f blocks number inside = (let next : number + 1 ≡ suc number = omega arith in rw next (entries_one f blocks number inside))

-- a test that each of a list passes
pub test_at : (p : ℕ → Bool) (blocks : List ℕ) (number : ℕ) → list_all p blocks ≡ true → number < length blocks → p (get_or blocks number 0) ≡ true
test_at p [] number all inside = absurd (omega (arith, inside))
test_at p (block ∷ blocks) zero all inside = (and_parts (p block) (list_all p blocks) all).0
test_at p (block ∷ blocks) (suc number) all inside = test_at p blocks number (and_parts (p block) (list_all p blocks) all).1 (omega (arith, inside))

-- the log blocks of a chain
pub record ChainBlocks (words : List ℕ) (shape : Shape) (chain blocks : List ℕ) : Type 0 where
  pub some : 0 < length blocks
  pub whole : snapshots_of words shape chain ++ blocks ≡ chain
  pub front : first_or (snapshots_of words shape chain) (get_or blocks 0 0) ≡ head_block words
  pub last : last_block 0 chain ≡ get_or blocks (length blocks - 1) 0
  pub leads : (number : ℕ) → number + 1 < length blocks →
      (leads_on (block_words words shape (get_or blocks number 0)) ≡ true) × (link_of (block_words words shape (get_or blocks number 0)) ≡ get_or blocks (number + 1) 0)
  pub ends : leads_on (block_words words shape (get_or blocks (length blocks - 1) 0)) ≡ false
  pub links : LinkTo words shape (snapshots_of words shape chain) (get_or blocks 0 0)

of_parted : (words : List ℕ) (shape : Shape) (block : ℕ) (rest : List ℕ) → head_block words ≡ block → (p : Parted words shape block rest) → ChainBlocks words shape (block ∷ rest) (p.first ∷ p.others)
of_parted words shape block rest head p = record {
  some = omega arith;
  whole = p.whole;
  front = p.front ∙ sym head;
  last = p.last ∙ sym same;
  leads = λ number inside. (let next : number + 1 ≡ suc number = omega arith in rw next (leads_at words shape p.first p.others number p.leads (omega (arith, inside))));
  ends = ap (λ (b : ℕ). leads_on (block_words words shape b)) same ∙ end.1;
  links = p.links;
}
  where
    end : (get_or (p.first ∷ p.others) (length p.others) 0 ≡ last_block p.first p.others) × (leads_on (block_words words shape (last_block p.first p.others)) ≡ false)
    end = leads_last words shape p.first p.others p.leads

    same : get_or (p.first ∷ p.others) (suc (length p.others) - 1) 0 ≡ last_block p.first p.others
    same = (let one : suc (length p.others) - 1 ≡ length p.others = omega arith in rw one end.0)

pub chain_blocks : (words : List ℕ) (shape : Shape) (chain : List ℕ) → IsLinked words shape chain → ChainBlocks words shape chain (logs_of words shape chain)
chain_blocks words shape [] linked = absurd linked
chain_blocks words shape (block ∷ rest) linked = go (parted words shape block rest linked.1)
  where
    go : Parted words shape block rest → ChainBlocks words shape (block ∷ rest) (logs_of words shape (block ∷ rest))
    go p = subst (λ (l : List ℕ). ChainBlocks words shape (block ∷ rest) l) (sym p.logs) (of_parted words shape block rest linked.0 p)
