-- A won exchange of the head: what the new generation names, and who has each block then.
use Rattle.std.proofs.Common.{◌≡◌, ◌≢◌, ◌<◌, ◌≤◌, ◌+◌, ◌-◌, ◌++◌, ◌==◌, ◌||◌, ◌&&◌, not, if◌then◌else◌, ℕ, zero, suc, Bool, true, false, List, [], ◌∷◌, length, drop, refl, sym, ◌∙◌, ap, subst, arith, slice_index, Option, Some, None}
use Rattle.std.proofs.lemmas.Bool.{and_parts, and_from, not-true}
use Rattle.std.proofs.lemmas.List.{drop-drop}
use Rattle.std.proofs.lemmas.List.Folds.{list_any-append}
use Rattle.log_entry.specs.Fields.{field}
use Rattle.log_entry.specs.declared.layouts.TheConstants.{HEAD_GENERATION}
use Rattle.log_image.specs.Image.{is_in_data, is_in_log, total}
use Rattle.log_image.specs.Entries.{Meaning, all_names}
use Rattle.log_image.specs.Maps.{map_of}
use Rattle.log_image.specs.Chains.{all_different, is_listed}
use Rattle.log_image.proofs.NameLemmas.{different_join}
use Rattle.pmem_words.specs.Seats.{Seat}
use Rattle.log_core.specs.Entries.{LogEntry, head_place, entry_names}
use Rattle.log_core.specs.Views.{Ghost, view_of}
use Rattle.log_core.specs.Origin.{Origin, shape, start_base, Owner, Free, Header, InChain, OwnedBy, LeftTo, LogBlock, Generation}
use Rattle.log_core.specs.Files.{entries}
use Rattle.log_core.specs.Cores.{Core, current, generation_at, nth_log, log_at, number_at, log_blocks, chain_names, data_names, is_named}
use Rattle.log_core.specs.Steps.{content_of, new_snapshots, replaced_by}
use Rattle.log_core.specs.After.{new_generation, snapshot_meanings}
use Rattle.log_core.specs.May.{MayExchangeHead}
use Rattle.log_core.specs.Order.{nth_generation}
use Rattle.log_core.specs.Owners.{bit_for, BitsFit, IsListOf, NamesOnce}
use Rattle.log_core.specs.Contents.{IsStillTaken}
use Rattle.log_core.specs.Walks.{WalkHolds}
use Rattle.log_core.specs.Invariant.{Invariant, KeptIn, around}
use Rattle.log_core.specs.Knows.{Knows}
use Rattle.log_core.proofs.Heads.{head_generation, present_place}
use Rattle.log_core.proofs.PinnedChains.{place, kept, from_first}
use Rattle.log_core.proofs.LogTails.{log_found, not_before}
use Rattle.log_core.proofs.ChainWords.{in_one_part, front_different, back_different}
use Rattle.log_core.proofs.ChainEntries.{chain_entries, chain_map, chain_data}
use Rattle.log_core.proofs.MappedBlocks.{mapped_name}
use Rattle.log_core.proofs.SnapshotNames.{snapshot_plain, named_mapped, map_once, names_different}
use Rattle.log_core.proofs.clauses.Apart.{has_left, has_right, either_of}
use Rattle.log_core.proofs.clauses.FencedContents.{fenced_owned}
use Rattle.log_core.proofs.clauses.GrownNames.{never}

-- the later of some numbers
pub listed_drop : (count : ℕ) (blocks : List ℕ) (block : ℕ) → is_listed (drop count blocks) block ≡ true → is_listed blocks block ≡ true
listed_drop zero blocks block listed = listed
listed_drop (suc count) [] block listed = cc
listed_drop (suc count) (first ∷ blocks) block listed = has_right (first ∷ []) blocks block (listed_drop count blocks block listed)

different_drop : (count : ℕ) (blocks : List ℕ) → all_different blocks ≡ true → all_different (drop count blocks) ≡ true
different_drop zero blocks different = different
different_drop (suc count) [] different = refl
different_drop (suc count) (first ∷ blocks) different = different_drop count blocks (and_parts (not (is_listed blocks first)) (all_different blocks) different).1

-- the blocks of the later of some log blocks
drop_blocks : (count : ℕ) (logs : List LogBlock) → log_blocks (drop count logs) ≡ drop count (log_blocks logs)
drop_blocks zero logs = refl
drop_blocks (suc count) [] = refl
drop_blocks (suc count) (log ∷ logs) = drop_blocks count logs

pub later_logs : (first second : ℕ) (logs : List LogBlock) → first ≤ second → log_blocks (drop second logs) ≡ drop (second - first) (log_blocks (drop first logs))
later_logs first second logs low = ap (λ (k : ℕ). log_blocks (drop k logs)) (let e : second ≡ first + (second - first) = omega (arith, low) in e)
    ∙ (ap (λ (l : List LogBlock). log_blocks l) (sym (drop-drop (second - first) first logs)) ∙ drop_blocks (second - first) (drop first logs))

module _ (o : Origin) (c : Core) (n : ℕ) (s : Seat) (g : Ghost) (pin began before next : ℕ) (inv : Invariant o c) (unspent : (view_of c.views n).parts ≢ [])
    (f : Knows o c n s g pin began) (may : MayExchangeHead o c g s before next) (won : slice_index c.memory.now.words head_place ≡ before) where
  -- the place of the pinned generation, which is the present one
  abbrev pub at : ℕ
  at = place o c n s g pin began inv f may.valid

  abbrev pub gen : Generation
  gen = nth_generation c.generations at

  pub in_chain : KeptIn o c at
  in_chain = kept o c n s g pin began inv f may.valid

  pub present_is : s.hold.generation ≡ current o c.generations
  present_is = sym may.generation ∙ (ap (field HEAD_GENERATION) (sym (won ∙ may.pinned)) ∙ head_generation o c inv)

  pub at_last : at + 1 ≡ length c.generations
  at_last = present_place o c inv at (sym present_is ∙ from_first o c n s g pin began inv f may.valid)

  w : WalkHolds (around o c) s.hold s.walk
  w = f.walk unspent

  pub base_is : s.walk.snapshot_base ≡ gen.base
  base_is = w.ready_base may.ready

  pub above : gen.base < s.walk.position
  above = (let base = base_is in let low = may.above in omega (arith, base, low))

  pub from_start : start_base o ≤ gen.base
  from_start = inv.order.generations_rise.from_first at in_chain.inside

  -- the first log block of the new generation
  abbrev pub cut : ℕ
  cut = number_at c.logs s.walk.position

  cut_found : (cut < length c.logs) × (nth_log c.logs cut ≡ log_at c.logs s.walk.position)
  cut_found = log_found c.logs s.walk.position (λ none. (w.ready_walked may.ready).0 (sym may.cut_block ∙ none))

  pub cut_inside : cut < length c.logs
  cut_inside = cut_found.0

  pub cut_block : (nth_log c.logs cut).block ≡ s.walk.tail_block
  cut_block = ap (λ (l : LogBlock). l.block) cut_found.1 ∙ may.cut_block

  pub cut_base : (nth_log c.logs cut).base ≡ s.walk.position
  cut_base = ap (λ (l : LogBlock). l.base) cut_found.1 ∙ may.cut

  pub cut_late : gen.cut ≤ cut
  cut_late = not_before o c inv cut gen.cut cut_inside (inv.order.generations_rise.cut_inside at in_chain.inside)
      (let old = inv.order.generations_rise.cut_base at in_chain.inside in let new = cut_base in let low = above in omega (arith, old, new, low))

  -- the new generation
  abbrev pub snaps : List ℕ
  snaps = new_snapshots s next

  abbrev pub means : List Meaning
  means = snapshot_meanings (λ block. content_of s block) snaps

  abbrev pub new_gen : Generation
  new_gen = new_generation s c.logs next

  abbrev es : List LogEntry
  es = entries o c.history

  abbrev later : List ℕ
  later = entry_names (drop (s.walk.position - start_base o) es)

  abbrev logs_now : List ℕ
  logs_now = log_blocks (drop cut c.logs)

  abbrev pub was_named : ℕ → Bool
  was_named block = is_named o c.logs es gen block

  abbrev pub now_named : ℕ → Bool
  now_named block = is_named o c.logs es new_gen block

  pub mine : (block : ℕ) → is_listed snaps block ≡ true → c.owner block ≡ OwnedBy n
  mine block listed = f.owns.owned.listed block (fenced_owned s.blocks.owned block (may.owned block listed))

  -- the present chain has exactly what the pinned generation names
  present_named : (block : ℕ) → is_named o c.logs es (generation_at o c.generations (current o c.generations)) block ≡ was_named block
  present_named block = ap (λ (number : ℕ). is_named o c.logs es (generation_at o c.generations number) block) (sym present_is)

  pub chain_named : (block : ℕ) → c.owner block ≡ InChain → was_named block ≡ true
  chain_named block is = sym (present_named block) ∙ inv.owners.chain.named block is

  pub named_chain : (block : ℕ) → was_named block ≡ true → c.owner block ≡ InChain
  named_chain block named = inv.owners.chain.all block (present_named block ∙ named)

  -- a log block, or a block of the data area, that it names was named before
  logs_named : (block : ℕ) → is_listed logs_now block ≡ true → is_listed (log_blocks (drop gen.cut c.logs)) block ≡ true
  logs_named block listed = listed_drop (cut - gen.cut) (log_blocks (drop gen.cut c.logs)) block (subst (λ (l : List ℕ). is_listed l block ≡ true) (later_logs gen.cut cut c.logs cut_late) listed)

  low : gen.base ≤ s.walk.position
  low = (let less = above in omega (arith, less))

  map_is : (virt : ℕ) → map_of means virt ≡ map_of (chain_entries o c inv at in_chain s.walk.position low) virt
  map_is virt = may.snapshot.map_is virt ∙ sym (chain_map o c inv at in_chain s.walk.position low virt)

  data_is : data_names o es gen ≡ all_names (chain_entries o c inv at in_chain s.walk.position low) ++ later
  data_is = chain_data o c inv at in_chain s.walk.position low

  shared_among : (block : ℕ) → is_listed (all_names means) block ≡ true → is_listed (all_names (chain_entries o c inv at in_chain s.walk.position low)) block ≡ true
  shared_among block listed =
      (let mapped = named_mapped means block (snapshot_plain (λ b. content_of s b) snaps) may.apart listed in
      mapped_name (chain_entries o c inv at in_chain s.walk.position low) mapped.0 block (sym (map_is mapped.0) ∙ mapped.1))

  pub data_named : (block : ℕ) → is_listed (all_names means ++ later) block ≡ true → is_listed (data_names o es gen) block ≡ true
  data_named block listed = subst (λ (l : List ℕ). is_listed l block ≡ true) (sym data_is)
      (either_of (is_listed (all_names means) block) (is_listed later block) (sym (list_any-append (λ (other : ℕ). other == block) (all_names means) later) ∙ listed)
      (λ shared. has_left (all_names (chain_entries o c inv at in_chain s.walk.position low)) later block (shared_among block shared))
      (λ more. has_right (all_names (chain_entries o c inv at in_chain s.walk.position low)) later block more))

  -- what the new generation names are its snapshot's blocks, and blocks that were named
  pub named_or_new : {P : Type 0} (block : ℕ) → now_named block ≡ true → (is_listed snaps block ≡ true → P) → (was_named block ≡ true → P) → P
  named_or_new block named new was = either_of (is_listed (snaps ++ logs_now) block) (is_listed (all_names means ++ later) block)
      (sym (list_any-append (λ (other : ℕ). other == block) (snaps ++ logs_now) (all_names means ++ later)) ∙ named)
      (λ chain. either_of (is_listed snaps block) (is_listed logs_now block) (sym (list_any-append (λ (other : ℕ). other == block) snaps logs_now) ∙ chain) new
      (λ log. was (has_left (chain_names c.logs gen) (data_names o es gen) block (has_right gen.snapshots (log_blocks (drop gen.cut c.logs)) block (logs_named block log)))))
      (λ other. was (has_right (chain_names c.logs gen) (data_names o es gen) block (data_named block other)))

  pub snap_named : (block : ℕ) → is_listed snaps block ≡ true → now_named block ≡ true
  snap_named block listed = has_left (snaps ++ logs_now) (all_names means ++ later) block (has_left snaps logs_now block listed)

  snap_apart : (block : ℕ) → is_listed snaps block ≡ true → was_named block ≡ true → ⊥
  snap_apart block listed named = (let both : OwnedBy n ≡ InChain = sym (mine block listed) ∙ named_chain block named in cc)

  -- and it names none twice
  pub new_once : NamesOnce (shape o) (chain_names c.logs new_gen) (data_names o es new_gen)
  new_once = record {
    once = different_join (snaps ++ logs_now) (all_names means ++ later)
        (different_join snaps logs_now may.once logs_once (λ k here. never (is_listed logs_now k) (λ there. snap_apart k here (log_was k there))))
        (different_join (all_names means) later shared_once later_once (λ k here. never (is_listed later k) (λ there. in_one_part (all_names (chain_entries o c inv at in_chain s.walk.position low)) later k data_once (shared_among k here) there)))
        (λ k here. never (is_listed (all_names means ++ later) k) (λ there. either_of (is_listed snaps k) (is_listed logs_now k) (sym (list_any-append (λ (other : ℕ). other == k) snaps logs_now) ∙ here)
        (λ snap. snap_apart k snap (has_right (chain_names c.logs gen) (data_names o es gen) k (data_named k there)))
        (λ log. in_one_part (chain_names c.logs gen) (data_names o es gen) k old.once (has_right gen.snapshots (log_blocks (drop gen.cut c.logs)) k (logs_named k log)) (data_named k there))));
    chain_area = λ block listed. either_of (is_listed snaps block) (is_listed logs_now block) (sym (list_any-append (λ (other : ℕ). other == block) snaps logs_now) ∙ listed)
        (λ snap. subst (λ (image : Rattle.log_image.specs.Image.Shape). is_in_log image block ≡ true) same_shape (may.in_log block snap))
        (λ log. old.chain_area block (has_right gen.snapshots (log_blocks (drop gen.cut c.logs)) block (logs_named block log)));
    data_area = λ block listed. old.data_area block (data_named block listed);
  }
    where
      old : NamesOnce (shape o) (chain_names c.logs gen) (data_names o es gen)
      old = inv.owners.once at in_chain

      same_shape : Rattle.log_core.specs.Works.seat_shape s ≡ shape o
      same_shape = ap (λ (geometry : Rattle.log_entry.specs.declared.shapes.Geometry.Geometry). Rattle.log_image.specs.Image.shape_by geometry) (f.fits unspent).geometry

      log_was : (block : ℕ) → is_listed logs_now block ≡ true → was_named block ≡ true
      log_was block listed = has_left (chain_names c.logs gen) (data_names o es gen) block (has_right gen.snapshots (log_blocks (drop gen.cut c.logs)) block (logs_named block listed))

      logs_once : all_different logs_now ≡ true
      logs_once = subst (λ (l : List ℕ). all_different l ≡ true) (sym (later_logs gen.cut cut c.logs cut_late))
          (different_drop (cut - gen.cut) (log_blocks (drop gen.cut c.logs)) (back_different gen.snapshots (log_blocks (drop gen.cut c.logs)) (front_different (chain_names c.logs gen) (data_names o es gen) old.once)))

      data_once : all_different (all_names (chain_entries o c inv at in_chain s.walk.position low) ++ later) ≡ true
      data_once = subst (λ (l : List ℕ). all_different l ≡ true) data_is (back_different (chain_names c.logs gen) (data_names o es gen) old.once)

      later_once : all_different later ≡ true
      later_once = back_different (all_names (chain_entries o c inv at in_chain s.walk.position low)) later data_once

      shared_once : all_different (all_names means) ≡ true
      shared_once = names_different means (snapshot_plain (λ b. content_of s b) snaps) may.apart
          (λ first second block one two. map_once (chain_entries o c inv at in_chain s.walk.position low) first second block
          (front_different (all_names (chain_entries o c inv at in_chain s.walk.position low)) later data_once) (sym (map_is first) ∙ one) (sym (map_is second) ∙ two))

  -- who has each block then
  abbrev pub owner_moved : ℕ → Owner
  owner_moved block = if is_listed snaps block then InChain else if is_listed (replaced_by s) block then LeftTo n else c.owner block

  -- the words that each block is recorded with
  abbrev pub recorded_moved : ℕ → List ℕ
  recorded_moved block = if is_listed snaps block then content_of s block else c.recorded block

  replaced_parts : (block : ℕ) → is_listed (replaced_by s) block ≡ true → (was_named block ≡ true) × (not (now_named block) ≡ true)
  replaced_parts block listed = and_parts (was_named block) (not (now_named block)) (sym (may.replaced block) ∙ listed)

  pub replaced_was : (block : ℕ) → is_listed (replaced_by s) block ≡ true → c.owner block ≡ InChain
  replaced_was block listed = named_chain block (replaced_parts block listed).0

  pub replaced_not_now : (block : ℕ) → is_listed (replaced_by s) block ≡ true → now_named block ≡ false
  replaced_not_now block listed = not-true (now_named block) (replaced_parts block listed).1

  pub not_snap : (block : ℕ) → c.owner block ≢ OwnedBy n → is_listed snaps block ≡ false
  not_snap block other = never (is_listed snaps block) (λ listed. other (mine block listed))

  pub not_replaced : (block : ℕ) → c.owner block ≢ InChain → is_listed (replaced_by s) block ≡ false
  not_replaced block other = never (is_listed (replaced_by s) block) (λ listed. other (replaced_was block listed))

  pub owner_same : (block : ℕ) → c.owner block ≢ OwnedBy n → c.owner block ≢ InChain → owner_moved block ≡ c.owner block
  owner_same block other apart = ap (λ (b : Bool). if b then InChain else if is_listed (replaced_by s) block then LeftTo n else c.owner block) (not_snap block other)
      ∙ ap (λ (b : Bool). if b then LeftTo n else c.owner block) (not_replaced block apart)

  pub owner_snap : (block : ℕ) → is_listed snaps block ≡ true → owner_moved block ≡ InChain
  owner_snap block listed = ap (λ (b : Bool). if b then InChain else if is_listed (replaced_by s) block then LeftTo n else c.owner block) listed

  pub owner_replaced : (block : ℕ) → is_listed (replaced_by s) block ≡ true → owner_moved block ≡ LeftTo n
  owner_replaced block listed = ap (λ (b : Bool). if b then InChain else if is_listed (replaced_by s) block then LeftTo n else c.owner block)
      (not_snap block (λ own. (let both : InChain ≡ OwnedBy n = sym (replaced_was block listed) ∙ own in cc)))
      ∙ ap (λ (b : Bool). if b then LeftTo n else c.owner block) listed

  -- by where it comes from
  pub owner_by : {P : Type 0} (block : ℕ) (whose : Owner) → owner_moved block ≡ whose → (is_listed snaps block ≡ true → InChain ≡ whose → P) → (is_listed snaps block ≡ false → is_listed (replaced_by s) block ≡ true → LeftTo n ≡ whose → P) →
      (is_listed snaps block ≡ false → is_listed (replaced_by s) block ≡ false → c.owner block ≡ whose → P) → P
  owner_by {P} block whose is snap replaced old = go (is_listed snaps block) (is_listed (replaced_by s) block) refl refl is
    where
      go : (a b : Bool) → is_listed snaps block ≡ a → is_listed (replaced_by s) block ≡ b → (if a then InChain else if b then LeftTo n else c.owner block) ≡ whose → P
      go true b first second e = snap first e
      go false true first second e = replaced first second e
      go false false first second e = old first second e

  pub owner_was : (block : ℕ) (whose : Owner) → whose ≢ InChain → whose ≢ LeftTo n → owner_moved block ≡ whose → c.owner block ≡ whose
  owner_was block whose chain left is = owner_by block whose is (λ listed e. absurd (chain (sym e))) (λ a b e. absurd (left (sym e))) (λ a b e. e)

  pub list_same : (blocks : List ℕ) (whose : Owner) → whose ≢ InChain → whose ≢ OwnedBy n → whose ≢ LeftTo n → IsListOf c.owner blocks whose → IsListOf owner_moved blocks whose
  list_same blocks whose chain own left list = record {
    listed = λ block listed. (let was = list.listed block listed in owner_same block (λ e. own (sym was ∙ e)) (λ e. chain (sym was ∙ e)) ∙ was);
    all = λ block is. list.all block (owner_was block whose chain left is);
    once = list.once;
  }

  pub taken_moved : (block : ℕ) → IsStillTaken (c.owner block) → IsStillTaken (owner_moved block)
  taken_moved block taken = go (is_listed snaps block) (is_listed (replaced_by s) block)
    where
      go : (a b : Bool) → IsStillTaken (if a then InChain else if b then LeftTo n else c.owner block)
      go true b = Rattle.std.proofs.Common.inl refl
      go false true = Rattle.std.proofs.Common.inr (n, refl)
      go false false = taken

  pub bits_moved : BitsFit (shape o) c.memory.now.taken owner_moved
  bits_moved = (let r = inv.owners.bits in record {
    bits = λ block inside. r.bits block inside ∙ bit_same block (is_listed snaps block) (is_listed (replaced_by s) block) refl refl;
    inside = λ block some. inside_by block (is_listed snaps block) (is_listed (replaced_by s) block) refl refl some;
    header = owner_same 0 (λ own. (let both : Header ≡ OwnedBy n = sym r.header ∙ own in cc)) (λ chain. (let both : Header ≡ InChain = sym r.header ∙ chain in cc)) ∙ r.header;
    only = λ block is. r.only block (owner_was block Header (λ e. cc) (λ e. cc) is);
  })
    where
      bit_same : (block : ℕ) (a b : Bool) → is_listed snaps block ≡ a → is_listed (replaced_by s) block ≡ b → bit_for (c.owner block) ≡ bit_for (if a then InChain else if b then LeftTo n else c.owner block)
      bit_same block true b snap replaced = ap bit_for (mine block snap)
      bit_same block false true snap replaced = ap bit_for (replaced_was block replaced)
      bit_same block false false snap replaced = refl

      inside_by : (block : ℕ) (a b : Bool) → is_listed snaps block ≡ a → is_listed (replaced_by s) block ≡ b → (if a then InChain else if b then LeftTo n else c.owner block) ≢ Free → block < total (shape o)
      inside_by block true b snap replaced some = inv.owners.bits.inside block (λ free. (let both : OwnedBy n ≡ Free = sym (mine block snap) ∙ free in cc))
      inside_by block false true snap replaced some = inv.owners.bits.inside block (λ free. (let both : InChain ≡ Free = sym (replaced_was block replaced) ∙ free in cc))
      inside_by block false false snap replaced some = inv.owners.bits.inside block some

  pub chain_moved_named : (block : ℕ) → owner_moved block ≡ InChain → now_named block ≡ true
  chain_moved_named block is = owner_by block InChain is (λ listed e. snap_named block listed) (λ a b e. cc)
      (λ snap replaced was. kept_named (was_named block) (now_named block) refl refl (chain_named block was) (sym (may.replaced block) ∙ replaced))
    where
      kept_named : (a b : Bool) → was_named block ≡ a → now_named block ≡ b → was_named block ≡ true → (was_named block && not (now_named block)) ≡ false → now_named block ≡ true
      kept_named a true first second named none = second
      kept_named a false first second named none = (let both : true ≡ false = sym (and_from (was_named block) (not (now_named block)) named (ap (λ (b : Bool). not b) second)) ∙ none in cc)

  pub chain_moved_all : (block : ℕ) → now_named block ≡ true → owner_moved block ≡ InChain
  chain_moved_all block named = named_or_new block named (λ snap. owner_snap block snap)
      (λ was. (let chain = named_chain block was in
      ap (λ (b : Bool). if b then InChain else if is_listed (replaced_by s) block then LeftTo n else c.owner block) (not_snap block (λ own. (let both : InChain ≡ OwnedBy n = sym chain ∙ own in cc)))
      ∙ (ap (λ (b : Bool). if b then LeftTo n else c.owner block) (never (is_listed (replaced_by s) block) (λ listed. (let none = replaced_not_now block listed in let both : true ≡ false = sym named ∙ none in cc))) ∙ chain)))
