-- The walk along a chain, from its first block to its last.
use Rattle.std.proofs.Common.{◌≡◌, ◌<◌, ◌≤◌, ◌+◌, ◌*◌, ◌/◌, ◌==◌, ◌&&◌, ◌||◌, not, nat_lt, ℕ, Bool, true, false, List, [], ◌∷◌, ◌++◌, length, append-nil, append_assoc, Some, None, if◌then◌else◌, refl, sym, ap, ◌∙◌, subst, arith}
use Rattle.std.proofs.lemmas.Bool.{ltb-true, lt-ltb, eqb-true}
use Rattle.std.proofs.lemmas.List.{length-append}
use mathlib.Core.Logic.{∥∥₁_elim}
use native.Mathlib.Nat.{ℕ_set}
use native.Mathlib.Bridge.{le_prop}
use Rattle.std.proofs.Math.Bool.{Bool-set}
use Rattle.block_table.specs.FileMap.{FileMap, block_at}
use Rattle.log_entry.specs.Geometry.{HasShape}
use Rattle.log_entry.specs.declared.shapes.Geometry.{Geometry}
use Rattle.log_image.specs.Image.{Shape, words_in, total, block_words, shape_by}
use Rattle.log_image.specs.Entries.{Meaning}
use Rattle.log_image.specs.Header.{shape_of, head_block, HasHeader}
use Rattle.log_image.specs.Blocks.{link_of, is_snapshot, base_of, slots_of, entry_words, is_closed, leads_on}
use Rattle.log_image.specs.Chains.{LeadsAlong, IsLinked, IsChain}
use Rattle.log_image.specs.Positions.{entries_of, position_of, size_at_end, block_entries}
use Rattle.log_image.specs.Tails.{last_block}
use Rattle.log_image.specs.Format.{HasFormat}
use Rattle.log_image.proofs.OneChain.{one_chain}
use Rattle.chain_reader.specs.Tables.{HasMap}
use Rattle.chain_reader.specs.Reads.{StandForSome, IsReadOf}
use Rattle.chain_reader.specs.Ends.{end_slot}
use Rattle.chain_reader.specs.declared.reading.ChainRead.{ChainRead}
use Rattle.chain_reader.specs.ChainBlocks.{is_sound, size_past}
use Rattle.chain_reader.proofs.ChainLemmas.{Good, sound_at, inside_at, few_blocks, entries_push, size_push, ends_at}

-- a block comes next: the blocks before it are taken in
pub record Ready (words : List ℕ) (shape : Shape) (passed : List ℕ) (block : ℕ) (table : FileMap) (chain : List ℕ) : Type 0 where
  pub rest : List ℕ
  pub parts : chain ≡ passed ++ block ∷ rest
  pub leads : LeadsAlong words shape block rest
  pub map : HasMap table (entries_of words shape passed)
  pub size : table.size ≡ size_at_end words shape passed

-- the last of the blocks that are taken in
pub record WalkedTo (words : List ℕ) (shape : Shape) (passed : List ℕ) (block : ℕ) (table : FileMap) (chain : List ℕ) : Type 0 where
  pub front : List ℕ
  pub rest : List ℕ
  pub ends : passed ≡ front ++ block ∷ []
  pub parts : chain ≡ passed ++ rest
  pub leads : LeadsAlong words shape block rest
  pub map : HasMap table (entries_of words shape passed)
  pub size : table.size ≡ size_at_end words shape passed

-- what holds of every chain that may be the one
pub record Before (words : List ℕ) (shape : Shape) (passed : List ℕ) (block : ℕ) (table : FileMap) : Type 0 where
  pub each : (chain : List ℕ) → Good words shape chain → Ready words shape passed block table chain

pub record After (words : List ℕ) (shape : Shape) (passed : List ℕ) (block : ℕ) (table : FileMap) : Type 0 where
  pub each : (chain : List ℕ) → Good words shape chain → WalkedTo words shape passed block table chain

-- the first block
pub first_ready : (words : List ℕ) (shape : Shape) (table : FileMap) (block : ℕ) → block ≡ head_block words → ((v : ℕ) → block_at table v ≡ None) → table.size ≡ 0 → Before words shape [] block table
first_ready words shape table block head unmapped empty = record { each = λ chain good. go chain good.is_chain.linked }
  where
    go : (chain : List ℕ) → IsLinked words shape chain → Ready words shape [] block table chain
    go [] linked = absurd linked
    go (first ∷ rest) linked = record {
      rest = rest;
      parts = ap (λ (b : ℕ). b ∷ rest) (sym linked.0 ∙ sym head);
      leads = subst (λ (b : ℕ). LeadsAlong words shape b rest) (sym linked.0 ∙ sym head) linked.1;
      map = record { each = unmapped };
      size = empty;
    }

-- a block is taken in
pub taken_in : (words : List ℕ) (shape : Shape) (passed now : List ℕ) (block : ℕ) (old new : FileMap) → now ≡ passed ++ block ∷ [] → Before words shape passed block old →
    ((entries : List Meaning) → HasMap old entries → HasMap new (entries ++ block_entries words shape (block_words words shape block))) →
    new.size ≡ size_past words shape old.size (block_words words shape block) → After words shape now block new
taken_in words shape passed now block old new same ready mapped grown = record { each = λ chain good. go chain good (ready.each chain good) }
  where
    go : (chain : List ℕ) → Good words shape chain → Ready words shape passed block old chain → WalkedTo words shape now block new chain
    go chain good is = record {
      front = passed;
      rest = is.rest;
      ends = same;
      parts = is.parts ∙ sym (append_assoc passed (block ∷ []) is.rest) ∙ ap (λ (l : List ℕ). l ++ is.rest) (sym same);
      leads = is.leads;
      map = subst (λ (l : List ℕ). HasMap new (entries_of words shape l)) (sym same) (subst (λ (l : List Meaning). HasMap new l) (sym (entries_push words shape chain passed is.rest block good is.parts)) (mapped (entries_of words shape passed) is.map));
      size = grown ∙ ap (λ (n : ℕ). size_past words shape n (block_words words shape block)) is.size ∙ sym (size_push words shape chain passed is.rest block good is.parts) ∙ ap (size_at_end words shape) (sym same);
    }

-- a block that leads on leads to its link
leads_some : (words : List ℕ) (shape : Shape) (block next : ℕ) (leads : Bool) → leads_on (block_words words shape block) ≡ leads → (if leads then Some (link_of (block_words words shape block)) else None) ≡ Some next →
    (leads ≡ true) × (link_of (block_words words shape block) ≡ next)
leads_some words shape block next true is found = (refl, cc)
leads_some words shape block next false is found = cc

pub next_ready : (words : List ℕ) (shape : Shape) (passed : List ℕ) (block next : ℕ) (table : FileMap) → (if leads_on (block_words words shape block) then Some (link_of (block_words words shape block)) else None) ≡ Some next →
    After words shape passed block table → Before words shape passed next table
next_ready words shape passed block next table found walked = record { each = λ chain good. go chain (walked.each chain good).rest (walked.each chain good).parts (walked.each chain good).leads (walked.each chain good).map (walked.each chain good).size }
  where
    on : (leads_on (block_words words shape block) ≡ true) × (link_of (block_words words shape block) ≡ next)
    on = leads_some words shape block next (leads_on (block_words words shape block)) refl found

    go : (chain rest : List ℕ) → chain ≡ passed ++ rest → LeadsAlong words shape block rest → HasMap table (entries_of words shape passed) → table.size ≡ size_at_end words shape passed → Ready words shape passed next table chain
    go chain [] parts leads map size = cc
    go chain (other ∷ rest) parts leads map size =
        let same : other ≡ next = sym leads.1 ∙ on.1 in
        record {
          rest = rest;
          parts = parts ∙ ap (λ (b : ℕ). passed ++ b ∷ rest) same;
          leads = subst (λ (b : ℕ). LeadsAlong words shape b rest) same leads.2;
          map = map;
          size = size;
        }

-- a block that leads on to none is the last
pub record Whole (words : List ℕ) (shape : Shape) (passed : List ℕ) (block : ℕ) (table : FileMap) (chain : List ℕ) : Type 0 where
  pub all : passed ≡ chain
  pub last : block ≡ last_block 0 chain
  pub map : HasMap table (entries_of words shape chain)
  pub size : table.size ≡ size_at_end words shape chain
  pub position : position_of words shape chain ≡ base_of (block_words words shape block) + length (entry_words (slots_of (block_words words shape block)))

last_of : (before : ℕ) (front : List ℕ) (block : ℕ) → last_block before (front ++ block ∷ []) ≡ block
last_of before [] block = refl
last_of before (first ∷ front) block = last_of first front block

leads_none : (words : List ℕ) (shape : Shape) (block : ℕ) (leads : Bool) → (if leads then Some (link_of (block_words words shape block)) else None) ≡ None → leads ≡ false
leads_none words shape block true none = cc
leads_none words shape block false none = refl

pub whole_chain : (words : List ℕ) (shape : Shape) (passed : List ℕ) (block : ℕ) (table : FileMap) → (if leads_on (block_words words shape block) then Some (link_of (block_words words shape block)) else None) ≡ None →
    After words shape passed block table → (chain : List ℕ) → Good words shape chain → Whole words shape passed block table chain
whole_chain words shape passed block table none walked chain good =
    let is : WalkedTo words shape passed block table chain = walked.each chain good in
    go is.rest is.leads is.parts is.ends is.map is.size
  where
    last : leads_on (block_words words shape block) ≡ false
    last = leads_none words shape block (leads_on (block_words words shape block)) none

    no_snapshot : (snapshot other : Bool) → (snapshot || other) ≡ false → snapshot ≡ false
    no_snapshot true other is = is
    no_snapshot false other is = refl

    front : List ℕ
    front = (walked.each chain good).front

    go : (rest : List ℕ) → LeadsAlong words shape block rest → chain ≡ passed ++ rest → passed ≡ front ++ block ∷ [] → HasMap table (entries_of words shape passed) → table.size ≡ size_at_end words shape passed → Whole words shape passed block table chain
    go [] leads parts ends map size =
        let all : passed ≡ chain = sym (append-nil passed) ∙ sym parts in
        record {
          all = all;
          last = sym (last_of 0 front block) ∙ ap (last_block 0) (sym ends ∙ all);
          map = subst (λ (l : List ℕ). HasMap table (entries_of words shape l)) all map;
          size = size ∙ ap (size_at_end words shape) all;
          position = ends_at words shape chain front block good (sym all ∙ ends)
              (no_snapshot (is_snapshot (block_words words shape block)) (is_closed (slots_of (block_words words shape block)) && not (link_of (block_words words shape block) == 0)) last);
        }
    go (next ∷ rest) leads parts ends map size = cc

-- what holds of the block that comes next
pub ready_sound : (words : List ℕ) (shape : Shape) (passed : List ℕ) (block : ℕ) (table : FileMap) → Before words shape passed block table → (chain : List ℕ) → Good words shape chain → is_sound words shape (block_words words shape block) ≡ true
ready_sound words shape passed block table ready chain good = sound_at words shape chain passed (ready.each chain good).rest block good (ready.each chain good).parts

pub ready_inside : (words : List ℕ) (shape : Shape) (passed : List ℕ) (block : ℕ) (table : FileMap) → Before words shape passed block table → (chain : List ℕ) → Good words shape chain → nat_lt block (total shape) ≡ true
ready_inside words shape passed block table ready chain good = inside_at words shape chain passed (ready.each chain good).rest block good (ready.each chain good).parts

pub ready_few : (words : List ℕ) (shape : Shape) (passed : List ℕ) (block : ℕ) (table : FileMap) → Before words shape passed block table → (chain : List ℕ) → Good words shape chain → length passed < total shape
ready_few words shape passed block table ready chain good =
    fewer passed (ready.each chain good).rest chain (total shape) (ready.each chain good).parts (few_blocks words shape chain good)
  where
    fewer : (passed rest chain : List ℕ) (most : ℕ) → chain ≡ passed ++ block ∷ rest → length chain ≤ most → length passed < most
    fewer passed rest chain most parts few = omega (arith, few, simp length-append at (ap length parts))

-- the shape that the words say is the geometry's
pub same_shape : (geometry : Geometry) (shape : Shape) → HasShape geometry shape.data_blocks shape.log_blocks shape.block_bytes → shape_by geometry ≡ shape
same_shape geometry shape has = rw (has.same_data, has.same_log, has.same_bytes) refl

-- a proposition that follows from each chain that the words may stand by
pub some_good : (words : List ℕ) (geometry : Geometry) (P : Type 0) → IsProp P → StandForSome words → HasShape geometry (shape_of words).data_blocks (shape_of words).log_blocks (shape_of words).block_bytes →
    ((chain : List ℕ) → Good words (shape_by geometry) chain → P) → P
some_good words geometry P proposition stand has follows =
    ∥∥₁_elim stand proposition (λ some.
    follows some.0 (subst (λ (s : Shape). Good words s some.0) (sym (same_shape geometry (shape_of words) has)) (record { is_chain = some.3.stands.is_chain; format = some.3.stands.format })))

-- a proposition that follows from the header
pub some_image : (words : List ℕ) (P : Type 0) → IsProp P → StandForSome words → (HasHeader words → P) → P
some_image words P proposition stand follows = ∥∥₁_elim stand proposition (λ some. follows some.3.header)

-- the words are all those of the image
pub all_words : (words : List ℕ) (geometry : Geometry) → StandForSome words → HasShape geometry (shape_of words).data_blocks (shape_of words).log_blocks (shape_of words).block_bytes →
    length words ≡ total (shape_by geometry) * words_in (shape_by geometry)
all_words words geometry stand has =
    some_image words (length words ≡ total (shape_by geometry) * words_in (shape_by geometry)) (hlevel ℕ_set) stand
    (λ header. subst (λ (s : Shape). length words ≡ total s * words_in s) (sym (same_shape geometry (shape_of words) has)) header.whole)

-- a block has from 8 to 512 words
pub block_range : (geometry : Geometry) → (8 ≤ words_in (shape_by geometry)) × (words_in (shape_by geometry) ≤ 512)
block_range geometry = of_bytes geometry.block_bytes (geometry.block_bytes == 64) (geometry.block_bytes == 512) (geometry.block_bytes == 4096) refl refl refl geometry.block_allowed
  where
    of_bytes : (bytes : ℕ) (a b c : Bool) → (bytes == 64) ≡ a → (bytes == 512) ≡ b → (bytes == 4096) ≡ c → (a || b || c) ≡ true → (8 ≤ bytes / 8) × (bytes / 8 ≤ 512)
    of_bytes bytes true b c is also last one = let same : bytes ≡ 64 = eqb-true bytes 64 is in (omega (arith, same), omega (arith, same))
    of_bytes bytes false true c is also last one = let same : bytes ≡ 512 = eqb-true bytes 512 also in (omega (arith, same), omega (arith, same))
    of_bytes bytes false false true is also last one = let same : bytes ≡ 4096 = eqb-true bytes 4096 last in (omega (arith, same), omega (arith, same))
    of_bytes bytes false false false is also last one = cc

-- the block that comes next has the words that its kind may have
pub next_sound : (words : List ℕ) (geometry : Geometry) (passed here : List ℕ) (block : ℕ) (table : FileMap) → StandForSome words → HasShape geometry (shape_of words).data_blocks (shape_of words).log_blocks (shape_of words).block_bytes →
    here ≡ block_words words (shape_by geometry) block → Before words (shape_by geometry) passed block table → is_sound words (shape_by geometry) here ≡ true
next_sound words geometry passed here block table stand has is ready =
    some_good words geometry (is_sound words (shape_by geometry) here ≡ true) (hlevel (Bool-set, le_prop)) stand has
    (λ chain good. ap (is_sound words (shape_by geometry)) is ∙ ready_sound words (shape_by geometry) passed block table ready chain good)

-- and it is in the image
pub next_inside : (words : List ℕ) (geometry : Geometry) (passed : List ℕ) (block : ℕ) (table : FileMap) → StandForSome words → HasShape geometry (shape_of words).data_blocks (shape_of words).log_blocks (shape_of words).block_bytes →
    Before words (shape_by geometry) passed block table → block < total (shape_by geometry)
next_inside words geometry passed block table stand has ready =
    ltb-true block (total (shape_by geometry))
    (some_good words geometry (nat_lt block (total (shape_by geometry)) ≡ true) (hlevel Bool-set) stand has (ready_inside words (shape_by geometry) passed block table ready))

-- and the blocks before it are fewer than the image's
pub next_few : (words : List ℕ) (geometry : Geometry) (passed : List ℕ) (block : ℕ) (table : FileMap) → StandForSome words → HasShape geometry (shape_of words).data_blocks (shape_of words).log_blocks (shape_of words).block_bytes →
    Before words (shape_by geometry) passed block table → length passed < total (shape_by geometry)
next_few words geometry passed block table stand has ready =
    ltb-true (length passed) (total (shape_by geometry))
    (some_good words geometry (nat_lt (length passed) (total (shape_by geometry)) ≡ true) (hlevel Bool-set) stand has (λ chain good. lt-ltb (length passed) (total (shape_by geometry)) (ready_few words (shape_by geometry) passed block table ready chain good)))

-- a chain of the words is the one that they stand by
pub is_good : (words : List ℕ) (geometry : Geometry) → StandForSome words → HasShape geometry (shape_of words).data_blocks (shape_of words).log_blocks (shape_of words).block_bytes →
    (chain : List ℕ) → IsChain words (shape_of words) chain → Good words (shape_by geometry) chain
is_good words geometry stand has chain is =
    let here : IsChain words (shape_by geometry) chain = subst (λ (s : Shape). IsChain words s chain) (sym (same_shape geometry (shape_of words) has)) is in
    record {
      is_chain = here;
      format = some_good words geometry (HasFormat words (shape_by geometry) chain) (hlevel (Bool-set, le_prop)) stand has
          (λ other good. subst (λ (l : List ℕ). HasFormat words (shape_by geometry) l) (one_chain words (shape_by geometry) other chain good.is_chain here) good.format);
    }

-- a block of these words is taken in
pub taken_here : (words : List ℕ) (shape : Shape) (passed now here : List ℕ) (block : ℕ) (old new : FileMap) → now ≡ passed ++ block ∷ [] → here ≡ block_words words shape block → Before words shape passed block old →
    ((entries : List Meaning) → HasMap old entries → HasMap new (entries ++ block_entries words shape here)) → new.size ≡ size_past words shape old.size here → After words shape now block new
taken_here words shape passed now here block old new same is ready mapped grown =
    taken_in words shape passed now block old new same ready
    (λ entries has. subst (λ (l : List ℕ). HasMap new (entries ++ block_entries words shape l)) is (mapped entries has))
    (grown ∙ ap (size_past words shape old.size) is)

-- the link of a block of these words
pub link_ready : (words : List ℕ) (shape : Shape) (passed here : List ℕ) (block next : ℕ) (table : FileMap) → here ≡ block_words words shape block → (if leads_on here then Some (link_of here) else None) ≡ Some next →
    After words shape passed block table → Before words shape passed next table
link_ready words shape passed here block next table is found walked =
    next_ready words shape passed block next table (subst (λ (l : List ℕ). (if leads_on l then Some (link_of l) else None) ≡ Some next) is found) walked

-- what is read is what the chain says
pub read_is : (words : List ℕ) (geometry : Geometry) (here : List ℕ) (read : ChainRead) → StandForSome words → HasShape geometry (shape_of words).data_blocks (shape_of words).log_blocks (shape_of words).block_bytes →
    here ≡ block_words words (shape_by geometry) read.tail_block → (if leads_on here then Some (link_of here) else None) ≡ None → After words (shape_by geometry) read.chain.items read.tail_block read.table →
    read.position ≡ base_of here + length (entry_words (slots_of here)) → read.tail_slot ≡ end_slot (shape_by geometry) here → read.tail_base ≡ base_of here →
    (chain : List ℕ) → IsChain words (shape_of words) chain → IsReadOf words (shape_of words) chain read
read_is words geometry here read stand has is none walked position slot base chain linked =
    subst (λ (s : Shape). IsReadOf words s chain read) (same_shape geometry (shape_of words) has)
    (let good : Good words (shape_by geometry) chain = is_good words geometry stand has chain linked in
    of_whole good
    (whole_chain words (shape_by geometry) read.chain.items read.tail_block read.table (subst (λ (l : List ℕ). (if leads_on l then Some (link_of l) else None) ≡ None) is none) walked chain good))
  where
    of_whole : Good words (shape_by geometry) chain → Whole words (shape_by geometry) read.chain.items read.tail_block read.table chain → IsReadOf words (shape_by geometry) chain read
    of_whole good whole =
        let last : here ≡ block_words words (shape_by geometry) (last_block 0 chain) = is ∙ ap (block_words words (shape_by geometry)) whole.last in
        record {
          same_chain = whole.all;
          same_map = whole.map;
          same_size = whole.size;
          same_position = position ∙ ap (λ (l : List ℕ). base_of l + length (entry_words (slots_of l))) is ∙ sym whole.position;
          same_block = whole.last;
          same_slot = slot ∙ ap (end_slot (shape_by geometry)) last;
          same_base = base ∙ ap base_of last;
        }
