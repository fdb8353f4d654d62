-- What a generation names where a step puts blocks into the chain: those before, and these; and who has each block then.
use Rattle.std.proofs.Common.{◌≡◌, ◌≢◌, ◌<◌, ◌≤◌, ◌-◌, ◌||◌, ◌==◌, if◌then◌else◌, ℕ, Bool, true, false, List, ◌++◌, length, drop, refl, sym, ◌∙◌, ap, subst, arith, append_assoc}
use Rattle.std.proofs.lemmas.List.Folds.{list_any-append}
use Rattle.log_image.specs.Image.{is_in_data, is_in_log}
use Rattle.log_image.specs.Chains.{all_different, is_listed}
use Rattle.log_image.proofs.NameLemmas.{different_join}
use Rattle.log_core.specs.Entries.{head_place}
use Rattle.log_core.specs.Origin.{Origin, shape, start_base, first_generation, Owner, Free, Header, InChain, OwnedBy, Generation}
use Rattle.log_core.specs.Files.{entries}
use Rattle.log_core.specs.Cores.{Core, current, chain_names, data_names, is_named, log_blocks}
use Rattle.log_core.specs.Steps.{content_of}
use Rattle.log_core.specs.Order.{nth_generation}
use Rattle.log_core.specs.Owners.{bit_for, BitsFit, ChainOwns, IsListOf, NamesOnce}
use Rattle.log_core.specs.Contents.{IsStillTaken}
use Rattle.log_core.specs.Invariant.{Invariant, KeptIn}
use Rattle.log_core.proofs.Heads.{current_kept, current_is}
use Rattle.log_core.proofs.ChainWords.{in_one_part, front_different, back_different}
use Rattle.log_core.proofs.clauses.Apart.{has_left, has_right, either_of}
use Rattle.log_core.proofs.clauses.Leaves.{taken_apart}
use Rattle.log_core.proofs.clauses.Growth.{Growth, Grows, joined, owner_grown, recorded_grown}

-- four tests in another order
four : (a l b m : Bool) → ((a || l) || (b || m)) ≡ ((a || b) || (l || m))
four true l b m = refl
four false true true m = refl
four false true false m = refl
four false false b m = refl

-- a block among two lists, each with more
pub listed_more : (a l b m : List ℕ) (block : ℕ) → is_listed ((a ++ l) ++ (b ++ m)) block ≡ (is_listed (a ++ b) block || is_listed (l ++ m) block)
listed_more a l b m block = list_any-append (λ (other : ℕ). other == block) (a ++ l) (b ++ m)
    ∙ (ap (λ (t : Bool). t || is_listed (b ++ m) block) (list_any-append (λ (other : ℕ). other == block) a l)
    ∙ (ap (λ (t : Bool). (is_listed a block || is_listed l block) || t) (list_any-append (λ (other : ℕ). other == block) b m)
    ∙ (four (is_listed a block) (is_listed l block) (is_listed b block) (is_listed m block)
    ∙ sym (ap (λ (t : Bool). t || is_listed (l ++ m) block) (list_any-append (λ (other : ℕ). other == block) a b) ∙ ap (λ (t : Bool). (is_listed a block || is_listed b block) || t) (list_any-append (λ (other : ℕ). other == block) l m)))))

-- what is never true is false
pub never : (b : Bool) → (b ≡ true → ⊥) → b ≡ false
never true untrue = absurd (untrue refl)
never false untrue = refl

-- different numbers, with different ones more in two places
more_different : (a l b m : List ℕ) → all_different (a ++ b) ≡ true → all_different (l ++ m) ≡ true → ((number : ℕ) → is_listed (a ++ b) number ≡ true → is_listed (l ++ m) number ≡ true → ⊥) →
    all_different ((a ++ l) ++ (b ++ m)) ≡ true
more_different a l b m old new apart = different_join (a ++ l) (b ++ m)
    (different_join a l (front_different a b old) (front_different l m new) (λ k here. never (is_listed l k) (λ there. apart k (has_left a b k here) (has_left l m k there))))
    (different_join b m (back_different a b old) (back_different l m new) (λ k here. never (is_listed m k) (λ there. apart k (has_right a b k here) (has_right l m k there))))
    (λ k here. never (is_listed (b ++ m) k) (λ there.
    either_of (is_listed a k) (is_listed l k) (sym (list_any-append (λ (other : ℕ). other == k) a l) ∙ here)
    (λ in_a. either_of (is_listed b k) (is_listed m k) (sym (list_any-append (λ (other : ℕ). other == k) b m) ∙ there)
    (λ in_b. in_one_part a b k old in_a in_b)
    (λ in_m. apart k (has_left a b k in_a) (has_right l m k in_m)))
    (λ in_l. either_of (is_listed b k) (is_listed m k) (sym (list_any-append (λ (other : ℕ). other == k) b m) ∙ there)
    (λ in_b. apart k (has_right a b k in_b) (has_left l m k in_l))
    (λ in_m. in_one_part l m k new in_l in_m))))

module _ (o : Origin) (c : Core) (x : Growth) (inv : Invariant o c) (grows : Grows o c x) where
  abbrev gen : ℕ → Generation
  gen place = nth_generation c.generations place

  -- the blocks of its chain, and those of the data area
  pub chain_more : (place : ℕ) → place < length c.generations → chain_names x.logs (gen place) ≡ chain_names c.logs (gen place) ++ x.linked
  chain_more place inside = ap (λ (l : List ℕ). (gen place).snapshots ++ l) (grows.logs.blocks (gen place).cut (inv.order.generations_rise.cut_inside place inside))
      ∙ sym (append_assoc (gen place).snapshots (log_blocks (drop (gen place).cut c.logs)) x.linked)

  pub base_early : (place : ℕ) → place < length c.generations → (gen place).base - start_base o ≤ length (entries o c.history)
  base_early place inside = (let upto = inv.order.generations_rise.to_end place inside in let count = inv.order.log.count in omega (arith, upto, count))

  pub data_more : (place : ℕ) → place < length c.generations → data_names o (entries o x.history) (gen place) ≡ data_names o (entries o c.history) (gen place) ++ x.named
  data_more place inside = ap (λ (l : List ℕ). (gen place).shared ++ l) (grows.history.names ((gen place).base - start_base o) (base_early place inside))
      ∙ sym (append_assoc (gen place).shared (Rattle.log_core.specs.Entries.entry_names (drop ((gen place).base - start_base o) (entries o c.history))) x.named)

  abbrev was_named : ℕ → ℕ → Bool
  was_named place block = is_named o c.logs (entries o c.history) (gen place) block

  abbrev now_named : ℕ → ℕ → Bool
  now_named place block = is_named o x.logs (entries o x.history) (gen place) block

  -- what it names then
  pub named_is : (place block : ℕ) → place < length c.generations → now_named place block ≡ (was_named place block || is_listed (joined x) block)
  named_is place block inside = ap (λ (l : List ℕ). is_listed (l ++ data_names o (entries o x.history) (gen place)) block) (chain_more place inside)
      ∙ (ap (λ (l : List ℕ). is_listed ((chain_names c.logs (gen place) ++ x.linked) ++ l) block) (data_more place inside)
      ∙ listed_more (chain_names c.logs (gen place)) x.linked (data_names o (entries o c.history) (gen place)) x.named block)

  -- a block that it named, and one that is put into the chain
  pub named_more : (place block : ℕ) → place < length c.generations → was_named place block ≡ true → now_named place block ≡ true
  named_more place block inside named = named_is place block inside ∙ ap (λ (t : Bool). t || is_listed (joined x) block) named

  pub joined_named : (place block : ℕ) → place < length c.generations → is_listed (joined x) block ≡ true → now_named place block ≡ true
  joined_named place block inside listed = named_is place block inside ∙ (ap (λ (t : Bool). was_named place block || t) listed ∙ last_true (was_named place block))
    where
      last_true : (b : Bool) → (b || true) ≡ true
      last_true true = refl
      last_true false = refl

  -- a block that it names now was named, or is put into the chain
  pub named_or_joined : {P : Type 0} (place block : ℕ) → place < length c.generations → now_named place block ≡ true → (was_named place block ≡ true → P) → (is_listed (joined x) block ≡ true → P) → P
  named_or_joined place block inside named was new = either_of (was_named place block) (is_listed (joined x) block) (sym (named_is place block inside) ∙ named) was new

  -- a block that is not the seat's own is not put into the chain
  pub not_joined : (block : ℕ) → c.owner block ≢ OwnedBy x.n → is_listed (joined x) block ≡ false
  not_joined block other = never (is_listed (joined x) block) (λ listed. other (grows.mine block listed))

  -- nor one that a kept generation names
  pub named_not_joined : (place block : ℕ) → KeptIn o c place → was_named place block ≡ true → is_listed (joined x) block ≡ false
  named_not_joined place block kept named = not_joined block (taken_apart x.n (c.owner block) ((inv.contents place kept).taken block named))

  -- so it has its owner and its recorded words
  pub owner_same : (block : ℕ) → c.owner block ≢ OwnedBy x.n → owner_grown c x block ≡ c.owner block
  owner_same block other = ap (λ (b : Bool). if b then InChain else c.owner block) (not_joined block other)

  pub recorded_same : (block : ℕ) → c.owner block ≢ OwnedBy x.n → recorded_grown c x block ≡ c.recorded block
  recorded_same block other = ap (λ (b : Bool). if b then content_of x.seat block else c.recorded block) (not_joined block other)

  pub named_recorded : (place block : ℕ) → KeptIn o c place → was_named place block ≡ true → recorded_grown c x block ≡ c.recorded block
  named_recorded place block kept named = recorded_same block (taken_apart x.n (c.owner block) ((inv.contents place kept).taken block named))

  -- one that is put into the chain has the chain's, and the words of the seat
  pub joined_owner : (block : ℕ) → is_listed (joined x) block ≡ true → owner_grown c x block ≡ InChain
  joined_owner block listed = ap (λ (b : Bool). if b then InChain else c.owner block) listed

  pub joined_recorded : (block : ℕ) → is_listed (joined x) block ≡ true → recorded_grown c x block ≡ content_of x.seat block
  joined_recorded block listed = ap (λ (b : Bool). if b then content_of x.seat block else c.recorded block) listed

  -- a block's owner before, where it is another one than the chain now
  pub owner_was : (block : ℕ) (whose : Owner) → whose ≢ InChain → owner_grown c x block ≡ whose → c.owner block ≡ whose
  owner_was block whose other = go (is_listed (joined x) block)
    where
      go : (b : Bool) → (if b then InChain else c.owner block) ≡ whose → c.owner block ≡ whose
      go true is = absurd (other (sym is))
      go false is = is

  -- the lists of other owners stay
  pub list_same : (blocks : List ℕ) (whose : Owner) → whose ≢ InChain → whose ≢ OwnedBy x.n → IsListOf c.owner blocks whose → IsListOf (λ block. owner_grown c x block) blocks whose
  list_same blocks whose some other list = record {
    listed = λ block listed. (let was = list.listed block listed in owner_same block (λ mine. other (sym was ∙ mine)) ∙ was);
    all = λ block is. list.all block (owner_was block whose some is);
    once = list.once;
  }

  -- a block that is taken stays so
  pub taken_same : (block : ℕ) → IsStillTaken (c.owner block) → IsStillTaken (owner_grown c x block)
  taken_same block taken = subst (λ (whose : Owner). IsStillTaken whose) (sym (owner_same block (taken_apart x.n (c.owner block) taken))) taken

  -- bits and owners fit
  pub bits_grown : BitsFit (shape o) c.memory.now.taken c.owner → BitsFit (shape o) c.memory.now.taken (λ block. owner_grown c x block)
  bits_grown fits = record {
    bits = λ block low. fits.bits block low ∙ bit_same block (is_listed (joined x) block) refl;
    inside = λ block some. inside_is block (is_listed (joined x) block) refl some;
    header = owner_same 0 (λ mine. (let both : Header ≡ OwnedBy x.n = sym fits.header ∙ mine in cc)) ∙ fits.header;
    only = λ block is. fits.only block (owner_was block Header (λ e. cc) is);
  }
    where
      bit_same : (block : ℕ) (b : Bool) → is_listed (joined x) block ≡ b → bit_for (c.owner block) ≡ bit_for (if b then InChain else c.owner block)
      bit_same block true listed = ap bit_for (grows.mine block listed)
      bit_same block false listed = refl

      inside_is : (block : ℕ) (b : Bool) → is_listed (joined x) block ≡ b → (if b then InChain else c.owner block) ≢ Free → block < Rattle.log_image.specs.Image.total (shape o)
      inside_is block true listed some = fits.inside block (λ free. (let both : OwnedBy x.n ≡ Free = sym (grows.mine block listed) ∙ free in cc))
      inside_is block false listed some = fits.inside block some

  -- the place of the present generation
  abbrev present : ℕ
  present = current o c.generations - first_generation o

  present_inside : present < length c.generations
  present_inside = (let is = current_is o c inv in let inside = (current_kept o c inv).inside in omega (arith, is, inside))

  -- the present chain has exactly its blocks
  pub chain_grown : ChainOwns (λ block. now_named present block) (λ block. owner_grown c x block)
  chain_grown = record {
    named = λ block is. named_by block (is_listed (joined x) block) refl is;
    all = λ block named. named_or_joined present block present_inside named
        (λ was. (let chain = inv.owners.chain.all block was in owner_same block (λ mine. (let both : InChain ≡ OwnedBy x.n = sym chain ∙ mine in cc)) ∙ chain))
        (λ new. joined_owner block new);
  }
    where
      named_by : (block : ℕ) (b : Bool) → is_listed (joined x) block ≡ b → (if b then InChain else c.owner block) ≡ InChain → now_named present block ≡ true
      named_by block true listed is = joined_named present block present_inside listed
      named_by block false listed is = named_more present block present_inside (inv.owners.chain.named block is)

  -- and a kept generation names none twice
  pub once_grown : (place : ℕ) → KeptIn o c place → NamesOnce (shape o) (chain_names x.logs (gen place)) (data_names o (entries o x.history) (gen place))
  once_grown place kept = (let old = inv.owners.once place kept in
      subst (λ (l : List ℕ). NamesOnce (shape o) l (data_names o (entries o x.history) (gen place))) (sym (chain_more place kept.inside))
      (subst (λ (l : List ℕ). NamesOnce (shape o) (chain_names c.logs (gen place) ++ x.linked) l) (sym (data_more place kept.inside)) (record {
        once = more_different (chain_names c.logs (gen place)) x.linked (data_names o (entries o c.history) (gen place)) x.named old.once grows.once
            (λ k was new. (let none = named_not_joined place k kept was in let both : true ≡ false = sym new ∙ none in cc));
        chain_area = λ block listed. either_of (is_listed (chain_names c.logs (gen place)) block) (is_listed x.linked block)
            (sym (list_any-append (λ (other : ℕ). other == block) (chain_names c.logs (gen place)) x.linked) ∙ listed) (old.chain_area block) (grows.in_log block);
        data_area = λ block listed. either_of (is_listed (data_names o (entries o c.history) (gen place)) block) (is_listed x.named block)
            (sym (list_any-append (λ (other : ℕ). other == block) (data_names o (entries o c.history) (gen place)) x.named) ∙ listed) (old.data_area block) (grows.in_data block);
      })))
