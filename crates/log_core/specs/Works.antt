-- What a call computes between two of its steps: small computations over the seat's state alone. Each has a name, a condition, and
-- what it makes of the state.
use Rattle.std.specs.Prelude.{ℕ, ◌+◌, ◌-◌, ◌*◌, ◌/◌, ◌%◌, ◌^◌, ◌<◌, ◌≤◌, ◌≡◌, ◌≢◌, ◌⊎◌, ◌==◌, ◌&&◌, nat_le, nat_lt, max, Bool, true, false, if◌then◌else◌, List, [], ◌∷◌, ◌++◌, length, map, filter, take, drop, not, replicate, slice_index, slice_set, Option, Some, None}
use Rattle.std.specs.List.{range_with_len}
use Rattle.std.specs.Option.{option_or}
use Rattle.log_entry.specs.Fields.{field}
use Rattle.log_entry.specs.Shape.{longest_of, limit_of}
use Rattle.log_entry.specs.WordBytes.{word_bytes}
use Rattle.log_entry.specs.Legal.{touched_blocks, appended_blocks}
use Rattle.log_entry.specs.declared.layouts.TheConstants.{ENTRY_KIND, INDIRECT, INDIRECT_BLOCK, SEAL, HEAD_BLOCK, HEAD_GENERATION, BLOCK_BASE, BLOCK_KIND, LOG, SNAPSHOT, SNAPSHOT_SIZE}
use Rattle.log_entry.specs.declared.calls.Held.{Held}
use Rattle.log_entry.specs.declared.calls.Op.{Op}
use Rattle.log_entry.specs.declared.calls.Op.TheVariants.{Pwrite as PwriteOp, Append as AppendOp}
use Rattle.log_entry.specs.declared.calls.Call.{Call}
use Rattle.log_image.specs.Entries.{Meaning, direct_meaning, names}
use Rattle.log_image.specs.Maps.{block_in, entry_end}
use Rattle.log_image.specs.Image.{Shape, shape_by}
use Rattle.pmem_words.specs.Owned.{with_filled, with_fenced}
use Rattle.pmem_words.specs.declared.keeps.Task.{Task}
use Rattle.pmem_words.specs.declared.keeps.Task.TheVariants.{Idle, Pread, Collect}
use Rattle.pmem_words.specs.declared.keeps.KeptWord.{KeptWord}
use Rattle.pmem_words.specs.Maps.{unmapped, map_at}
use Rattle.pmem_words.specs.Noted.{noted_first, noted_more}
use Rattle.pmem_words.specs.Seats.{Seat, Walk, Calling, Blocks, q_of}
use Rattle.log_core.specs.Entries.{place_in, meaning_by}
use Rattle.log_core.specs.Views.{Ghost, Stored, op_in, op_of}

-- the shape of a seat's image
abbrev pub seat_shape : Seat → Shape
seat_shape s = shape_by s.geometry

-- the words of a block
abbrev pub words_of : Seat → ℕ
words_of s = q_of s.geometry

-- a collection notes the blocks that its chain names: the first one alone where its walk begins, and more as it goes on
abbrev pub is_collection : Task → Bool
is_collection Collect = true
is_collection _ = false

-- a call that makes no step: a `pwrite` of no bytes, or a write that is refused on its arguments alone
abbrev pub is_quiet : ℕ → Op → Bool
is_quiet block_bytes (PwriteOp offset []) = true
is_quiet block_bytes (PwriteOp offset (byte ∷ bytes)) =
    if nat_lt (longest_of block_bytes) (touched_blocks block_bytes offset (length (byte ∷ bytes))) then true
    else nat_lt (limit_of block_bytes) (offset + length (byte ∷ bytes))
is_quiet block_bytes (AppendOp []) = false
is_quiet block_bytes (AppendOp (byte ∷ bytes)) = nat_lt (longest_of block_bytes) (appended_blocks block_bytes (length (byte ∷ bytes)))
is_quiet block_bytes _ = false

-- the bytes that a read has laid so far
abbrev pub laid_bytes : Task → List ℕ → List ℕ
laid_bytes (Pread offset count) bytes = bytes
laid_bytes _ bytes = []

-- a kept word of a block, the one loaded last
abbrev pub kept_at : List KeptWord → ℕ → ℕ → Option ℕ
kept_at [] block slot = None
kept_at (kept ∷ later) block slot = option_or (kept_at later block slot) (if kept.block == block && kept.slot == slot then Some kept.word else None)

abbrev pub word_or_zero : Option ℕ → ℕ
word_or_zero None = 0
word_or_zero (Some word) = word

-- a kept word, 0 where there is none
abbrev pub kept_word : Seat → ℕ → ℕ → ℕ
kept_word s block slot = word_or_zero (kept_at s.walk.kept block slot)

-- the kept words of a block
abbrev pub kept_content : Seat → ℕ → List ℕ
kept_content s block = map (λ (slot : ℕ). kept_word s block slot) (range_with_len 0 (words_of s))

-- each word of a block is kept
abbrev pub IsKeptWhole : Seat → ℕ → Type 0
IsKeptWhole s block = (slot : ℕ) → slot < words_of s → kept_at s.walk.kept block slot ≢ None

-- the first block of the chain whose head was found last, and what its second and third word say
abbrev pub front : Seat → ℕ
front s = field HEAD_BLOCK s.hold.head

abbrev pub front_base : Seat → ℕ
front_base s = field BLOCK_BASE (kept_word s (front s) 1)

abbrev pub front_kind : Seat → ℕ
front_kind s = field BLOCK_KIND (kept_word s (front s) 1)

abbrev pub front_size : Seat → ℕ
front_size s = field SNAPSHOT_SIZE (kept_word s (front s) 2)

-- the number in its block of the tail's word: the next slot or, at the block's end, the link
abbrev pub tail_index : Seat → ℕ
tail_index s = if s.walk.tail_slot == words_of s then 0 else s.walk.tail_slot

-- the word found at the tail's slot, and what it means as an entry
abbrev pub tail_word : Seat → ℕ
tail_word s = kept_word s s.walk.tail_block s.walk.tail_slot

abbrev pub tail_meaning : Seat → Meaning
tail_meaning s = meaning_by (λ block. kept_content s block) (tail_word s)

-- the map with an entry's blocks
abbrev pub with_entry_from : ℕ → Meaning → List (Option ℕ) → List (Option ℕ)
with_entry_from virt meaning [] = []
with_entry_from virt meaning (block ∷ blocks) = option_or (block_in meaning virt) block ∷ with_entry_from (virt + 1) meaning blocks

abbrev pub with_entry : Meaning → List (Option ℕ) → List (Option ℕ)
with_entry meaning blocks = with_entry_from 0 meaning blocks

-- whether an entry names a virtual block
abbrev pub touches : Meaning → ℕ → Bool
touches meaning virt = nat_le meaning.virt virt && nat_lt virt (meaning.virt + length meaning.blocks)

-- the bases that an entry does not touch, and their words
abbrev pub bases_left : Meaning → List ℕ → List ℕ
bases_left meaning bases = filter (λ (virt : ℕ). not (touches meaning virt)) bases

abbrev pub base_words_left : ℕ → Meaning → List ℕ → List ℕ → List ℕ
base_words_left q meaning [] words = []
base_words_left q meaning (virt ∷ bases) words =
    if touches meaning virt then base_words_left q meaning bases (drop q words) else take q words ++ base_words_left q meaning bases (drop q words)

abbrev pub without_bases : ℕ → Meaning → Calling → Calling
without_bases q meaning c = record c { bases = bases_left meaning c.bases; base_words = base_words_left q meaning c.bases c.base_words }

pub data Work : Type 0 where
  -- a call begins, with its task and bytes
  Begins : Task → List ℕ → Work
  -- after a valid pin the kept table is taken again, or the chain is read from its front on
  KeepsTable : Work
  StartsFromLog : Work
  StartsFromSnapshot : Work
  -- in a snapshot: one entry, the next block, the end
  ReadsRun : Work
  NextSnapshot : Work
  EndsReading : Work
  -- the first log block of a table that was kept: over the snapshot's blocks, its front, the next one, and the log block after the last
  SeeksFirst : Work
  SeeksNext : Work
  FindsFirst : Work
  -- in the log: an entry, a seal, the link
  TakesEntry : Work
  TakesSeal : Work
  Follows : Work
  -- the kept words are given up
  Forgets : Work
  -- the present content of a partly touched virtual block: begun, and a word more; and all such content is given up
  OpensBase : ℕ → Work
  AddsBaseWord : Work
  DropsBases : Work
  -- bytes of a read
  Lays : List ℕ → Work
  -- the content of an owned block: a word of it; and that each word is stored and marked
  SetsWord : ℕ → ℕ → ℕ → Work
  CountsFilled : ℕ → Work
  -- a collection sets the bits of the blocks that it will leave, keeps the replaced blocks for later, and notes the pin that holds earlier ones
  NotesNamed : List ℕ → Work
  KeepsReplaced : Work
  NotesHeld : Option Held → Work

-- what a collection that begins forgets
abbrev pub held_at_begin : Task → Option Held → Option Held
held_at_begin Collect held = None
held_at_begin _ held = held

abbrev pub walk_at_begin : Walk → Walk
walk_at_begin w = record w { at_tail = false; kept = [] }

-- a walk that begins at the first log block of a chain without a snapshot
abbrev pub walk_from_log : Walk → ℕ → ℕ → Walk
walk_from_log w block base = record w {
  position = base;
  map = unmapped;
  size = 0;
  tail_block = block;
  tail_slot = 3;
  tail_base = base;
  snapshot_base = base;
  first_log = block;
  at_tail = false;
  ready = true;
  reading = false;
  reading_generation = 0;
  reading_block = 0;
  reading_slot = 0;
  reading_place = 0;
  kept = [];
}

-- the kept table is taken for one of the chain with this base. Where its tail is in the chain's first log block, that is known too
abbrev pub walk_kept : Walk → ℕ → Walk
walk_kept w base = record w { ready = true; snapshot_base = base; first_log = if base == w.tail_base then w.tail_block else w.first_log; reading_block = 0; reading_place = 0 }

-- a walk that begins to read a snapshot
abbrev pub walk_from_snapshot : Walk → ℕ → ℕ → ℕ → ℕ → Walk
walk_from_snapshot w generation block base size = record w {
  position = base;
  map = unmapped;
  size = size;
  first_log = 0;
  at_tail = false;
  ready = false;
  reading = true;
  reading_generation = generation;
  reading_block = block;
  reading_slot = 3;
  reading_place = 0;
  kept = [];
}

-- a snapshot was read whole, and this log block follows it
abbrev pub walk_read : Walk → ℕ → Walk
walk_read w block = record w {
  tail_block = block;
  tail_slot = 3;
  tail_base = w.position;
  snapshot_base = w.position;
  first_log = block;
  ready = true;
  reading = false;
  reading_generation = 0;
  reading_block = 0;
  reading_slot = 0;
  reading_place = 0;
  kept = [];
}

-- a walk that looks for the first log block has come to this block of its snapshot, or has found it
abbrev pub walk_seeking : Walk → ℕ → ℕ → Walk
walk_seeking w block place = record w { reading_block = block; reading_place = place; kept = [] }

abbrev pub walk_found : Walk → ℕ → Walk
walk_found w block = record w { first_log = block; reading_block = 0; reading_place = 0; kept = [] }

-- an entry is taken in
abbrev pub walk_past : Shape → Walk → Meaning → Walk
walk_past image w meaning = record w {
  position = w.position + 1;
  map = with_entry meaning w.map;
  size = max w.size (entry_end image meaning);
  tail_slot = w.tail_slot + 1;
  at_tail = false;
  kept = [];
}

-- the next word of the base that was begun last: 0 where its virtual block is not mapped
abbrev pub last_or : ℕ → List ℕ → ℕ
last_or number [] = number
last_or number (next ∷ rest) = last_or next rest

abbrev pub base_slot : Seat → ℕ
base_slot s = length s.calling.base_words - (length s.calling.bases - 1) * words_of s

abbrev pub base_block : Seat → Option ℕ
base_block s = map_at s.walk.map (last_or 0 s.calling.bases)

abbrev pub word_of_block : Seat → Option ℕ → ℕ → ℕ
word_of_block s None slot = 0
word_of_block s (Some block) slot = kept_word s block slot

-- the bits of more blocks, where the call notes what its chain names
abbrev pub blocks_noted : Seat → List ℕ → Blocks
blocks_noted s blocks = record (s.blocks) { named = noted_more s.calling.noting s.blocks.named blocks }

-- a walk begins at the front of its chain
abbrev pub begun_at_front : Seat → Walk → Seat
begun_at_front s w = record s {
  walk = w;
  calling = record (s.calling) { noting = is_collection s.calling.job };
  blocks = record (s.blocks) { named = noted_first (is_collection s.calling.job) s.blocks.named (front s) };
}

abbrev pub state_after_work : Seat → Work → Seat
state_after_work s (Begins task bytes) = record s {
  walk = walk_at_begin s.walk;
  calling = record { job = task; bytes = bytes; bases = []; base_words = []; lost = 0; won = false; sync_to = None; noting = false };
  blocks = record (s.blocks) { found = replicate (length s.blocks.found) 0 };
  giving = record (s.giving) { limbo_held = held_at_begin task s.giving.limbo_held };
}
state_after_work s KeepsTable = record s { walk = walk_kept s.walk (front_base s); calling = record (s.calling) { noting = false } }
state_after_work s StartsFromLog = begun_at_front s (walk_from_log s.walk (front s) (front_base s))
state_after_work s StartsFromSnapshot = begun_at_front s (walk_from_snapshot s.walk s.hold.generation (front s) (front_base s) (front_size s))
state_after_work s ReadsRun = record s {
  walk = record (s.walk) {
    map = with_entry (direct_meaning (kept_word s s.walk.reading_block s.walk.reading_slot)) s.walk.map;
    reading_slot = s.walk.reading_slot + 1;
    kept = [];
  };
  blocks = blocks_noted s (names (direct_meaning (kept_word s s.walk.reading_block s.walk.reading_slot)));
}
state_after_work s NextSnapshot = record s {
  walk = record (s.walk) { reading_block = kept_word s s.walk.reading_block 0; reading_slot = 3; reading_place = s.walk.reading_place + 1; kept = [] };
  blocks = blocks_noted s (kept_word s s.walk.reading_block 0 ∷ []);
}
state_after_work s EndsReading = record s {
  walk = walk_read s.walk (kept_word s s.walk.reading_block 0);
  blocks = blocks_noted s (kept_word s s.walk.reading_block 0 ∷ []);
}
state_after_work s SeeksFirst = record s { walk = walk_seeking s.walk (front s) 0 }
state_after_work s SeeksNext = record s { walk = walk_seeking s.walk (kept_word s s.walk.reading_block 0) (s.walk.reading_place + 1) }
state_after_work s FindsFirst = record s { walk = walk_found s.walk (kept_word s s.walk.reading_block 0) }
state_after_work s TakesEntry = record s {
  walk = walk_past (seat_shape s) s.walk (tail_meaning s);
  calling = without_bases (words_of s) (tail_meaning s) s.calling;
  blocks = blocks_noted s (names (tail_meaning s));
}
state_after_work s TakesSeal = record s { walk = record (s.walk) { tail_slot = words_of s; kept = [] } }
state_after_work s Follows = record s {
  walk = record (s.walk) { tail_block = kept_word s s.walk.tail_block 0; tail_slot = 3; tail_base = s.walk.position; kept = [] };
  blocks = blocks_noted s (kept_word s s.walk.tail_block 0 ∷ []);
}
state_after_work s Forgets = record s { walk = record (s.walk) { kept = [] } }
state_after_work s (OpensBase virt) = record s { calling = record (s.calling) { bases = s.calling.bases ++ virt ∷ [] } }
state_after_work s AddsBaseWord = record s { calling = record (s.calling) { base_words = s.calling.base_words ++ word_of_block s (base_block s) (base_slot s) ∷ [] } }
state_after_work s DropsBases = record s { calling = record (s.calling) { bases = []; base_words = [] } }
state_after_work s (Lays bytes) = record s { calling = record (s.calling) { bytes = s.calling.bytes ++ bytes } }
state_after_work s (SetsWord place word value) = record s {
  blocks = record (s.blocks) {
    owned = with_fenced (with_filled s.blocks.owned place false) place false;
    contents = slice_set s.blocks.contents (place * words_of s + word) value;
  };
}
state_after_work s (CountsFilled place) = record s { blocks = record (s.blocks) { owned = with_filled s.blocks.owned place true } }
state_after_work s (NotesNamed words) = record s { calling = record (s.calling) { noting = false }; blocks = record (s.blocks) { named = words } }
state_after_work s KeepsReplaced = record s {
  giving = record (s.giving) {
    replaced = [];
    limbo = s.giving.limbo ++ s.giving.replaced;
    limbo_generation = max s.giving.limbo_generation s.giving.replaced_generation;
  };
}
state_after_work s (NotesHeld held) = record s { giving = record (s.giving) { limbo_held = held } }

-- the present call may still take in what it finds: it has put in no entry and no head, laid no byte, and is not synced
pub record IsFree (g : Ghost) (c : Calling) : Type 0 where
  pub not_won : c.won ≡ false
  pub none_laid : laid_bytes c.job c.bytes ≡ []
  pub no_sync : c.sync_to ≡ None
  pub no_head : g.call.put ≡ None

-- the words that the seat keeps, and those that it loads, are of its chain: the pin is valid
abbrev pub MayBelieve : Seat → Type 0
MayBelieve s = s.hold.valid ≡ true

-- the pin is valid, the head found last is the pinned one, and the second word of its first block is kept
pub record IsAtFront (s : Seat) : Type 0 where
  pub valid : MayBelieve s
  pub pinned : field HEAD_GENERATION s.hold.head ≡ s.hold.generation
  pub front : kept_at s.walk.kept (front s) 1 ≢ None

-- and the walk may begin there
pub record MayStart (g : Ghost) (s : Seat) (kind : ℕ) : Type 0 where
  pub at_front : IsAtFront s
  pub free : IsFree g s.calling
  pub no_bases : s.calling.bases ≡ []
  pub kind_is : front_kind s ≡ kind

-- a snapshot of the pinned generation is being read
pub record IsReading (s : Seat) : Type 0 where
  pub valid : MayBelieve s
  pub reading : s.walk.reading ≡ true
  pub pinned : s.walk.reading_generation ≡ s.hold.generation

-- the block that follows the snapshot's block at hand is known, and is of this kind
pub record IsFollowed (s : Seat) (kind : ℕ) : Type 0 where
  pub link : kept_at s.walk.kept s.walk.reading_block 0 ≢ None
  pub next : kept_at s.walk.kept (kept_word s s.walk.reading_block 0) 1 ≢ None
  pub kind_is : field BLOCK_KIND (kept_word s (kept_word s s.walk.reading_block 0) 1) ≡ kind

-- the block at hand has no entry more, and one of this kind follows
pub record HasReadBlock (s : Seat) (kind : ℕ) : Type 0 where
  pub reading : IsReading s
  pub no_more : (s.walk.reading_slot ≡ words_of s) ⊎ (kept_at s.walk.kept s.walk.reading_block s.walk.reading_slot ≡ Some 0)
  pub followed : IsFollowed s kind

-- the first log block of a view that is ready may be looked for, from the front of its snapshot on
pub record MaySeek (s : Seat) : Type 0 where
  pub at_front : IsAtFront s
  pub ready : s.walk.ready ≡ true
  pub kind_is : front_kind s ≡ SNAPSHOT

-- it has come to a block of the snapshot, and one of this kind follows
pub record IsSeeking (s : Seat) (kind : ℕ) : Type 0 where
  pub valid : MayBelieve s
  pub ready : s.walk.ready ≡ true
  pub come_to : s.walk.reading_block ≢ 0
  pub followed : IsFollowed s kind

-- a used slot was found at the tail of a view that is ready
pub record HasFoundSlot (g : Ghost) (s : Seat) : Type 0 where
  pub free : IsFree g s.calling
  pub valid : MayBelieve s
  pub ready : s.walk.ready ≡ true
  pub inside : s.walk.tail_slot ≢ words_of s
  pub used : tail_word s ≢ 0

-- and a link at the end of the tail's block
pub record HasFoundLink (g : Ghost) (s : Seat) : Type 0 where
  pub free : IsFree g s.calling
  pub valid : MayBelieve s
  pub ready : s.walk.ready ≡ true
  pub at_end : s.walk.tail_slot ≡ words_of s
  pub linked : kept_word s s.walk.tail_block 0 ≢ 0

-- the words of mapped blocks may be taken for the file's: the pin is valid, the table is that of its chain, and the view is at the
-- chain's tail
pub record MayReadFile (s : Seat) : Type 0 where
  pub valid : MayBelieve s
  pub own_table : s.walk.ready ≡ true
  pub at_tail : s.walk.at_tail ≡ true

-- a base may be begun: fewer than two are, the last one is whole, and it is none of them
pub record MayOpenBase (s : Seat) (virt : ℕ) : Type 0 where
  pub reads : MayReadFile s
  pub few : length s.calling.bases < 2
  pub whole : length s.calling.base_words ≡ length s.calling.bases * words_of s
  pub other : (place : ℕ) → place < length s.calling.bases → slice_index s.calling.bases place ≢ virt

-- the next word of a base is known: it is kept, or its virtual block is not mapped
pub record MayAddBaseWord (s : Seat) : Type 0 where
  pub reads : MayReadFile s
  pub begun : 0 < length s.calling.bases
  pub inside : base_slot s < words_of s
  pub known : (block : ℕ) → base_block s ≡ Some block → kept_at s.walk.kept block (base_slot s) ≢ None

-- a byte of the file by the seat's map: 0 in a virtual block that is not mapped, else of a kept word
abbrev pub IsByteIn : Seat → Option ℕ → ℕ → ℕ → Type 0
IsByteIn s None at byte = byte ≡ 0
IsByteIn s (Some block) at byte =
    (kept_at s.walk.kept block (at / 8) ≢ None) × (byte ≡ slice_index (word_bytes (kept_word s block (at / 8) ∷ [])) (at % 8))

abbrev pub IsByteAt : Seat → ℕ → ℕ → Type 0
IsByteAt s place byte = IsByteIn s (map_at s.walk.map (place / s.geometry.block_bytes)) (place % s.geometry.block_bytes) byte

-- bytes of a read may be laid: the next ones that it asks, inside the file
pub record MayLay (s : Seat) (bytes : List ℕ) : Type 0 where
  pub reads : MayReadFile s
  pub offset : ℕ
  pub count : ℕ
  pub job : s.calling.job ≡ Pread offset count
  pub few : length s.calling.bytes + length bytes ≤ count
  pub inside : offset + length s.calling.bytes + length bytes ≤ s.walk.size
  pub each : (k : ℕ) → k < length bytes → IsByteAt s (offset + length s.calling.bytes + k) (slice_index bytes k)

-- a block of the owned list, by its place, and a word of its content
abbrev pub owned_block : Seat → ℕ → ℕ
owned_block s place = (Rattle.pmem_words.specs.Owned.owned_at s.blocks.owned place).block

abbrev pub content_word : Seat → ℕ → ℕ → ℕ
content_word s place word = slice_index s.blocks.contents (place * words_of s + word)

-- what is stored at a place of the image, and whether it was marked since; none where nothing was stored
abbrev pub stored_at : List Stored → ℕ → Option Stored
stored_at [] place = None
stored_at (stored ∷ later) place = if stored.word == place then Some stored else stored_at later place

pub record MaySetWord (s : Seat) (place word value : ℕ) : Type 0 where
  pub owned : place < length s.blocks.owned
  pub inside : word < words_of s
  pub small : value < 2 ^ 64

-- each word of the owned block was stored since the block was taken, with its content, and marked after that
pub record MayCountFilled (g : Ghost) (s : Seat) (place : ℕ) : Type 0 where
  pub owned : place < length s.blocks.owned
  pub each : (word : ℕ) → word < words_of s →
      stored_at g.stored (place_in (seat_shape s) (owned_block s place) word)
      ≡ Some (record { word = place_in (seat_shape s) (owned_block s place) word; value = content_word s place word; marked = true })

-- a scan of this collection found the pin of another seat at a generation that needs the blocks kept earlier
pub record IsHeldPin (s : Seat) (generation : ℕ) (held : Held) : Type 0 where
  pub other : held.seat ≢ s.number
  pub seen : held.seat < length s.giving.pins_seen
  pub pin : slice_index s.giving.pins_seen held.seat ≡ held.generation
  pub some : 0 < held.generation
  pub needs : held.generation ≤ generation

-- a call may begin: none runs, nothing is marked, and the last one's head has its record. A read begins with no bytes
pub record MayBegin (g : Ghost) (s : Seat) (task : Task) (bytes : List ℕ) : Type 0 where
  pub none_runs : op_in s ≡ None
  pub not_won : s.calling.won ≡ false
  pub no_head : g.call.put ≡ None
  pub no_marks : g.marks ≡ []
  pub none_laid : laid_bytes task bytes ≡ []
  pub steps : (op : Op) → op_of task bytes ≡ Some op → is_quiet s.geometry.block_bytes op ≡ false

-- when a computation may be made
abbrev pub MayWork : Ghost → Seat → Work → Type 0
MayWork g s (Begins task bytes) = MayBegin g s task bytes
MayWork g s KeepsTable = IsAtFront s × (s.walk.tail_block ≢ 0) × (s.walk.reading ≡ false) × (front_base s ≤ s.walk.tail_base)
MayWork g s StartsFromLog = MayStart g s LOG
MayWork g s StartsFromSnapshot = MayStart g s SNAPSHOT × (kept_at s.walk.kept (front s) 2 ≢ None)
MayWork g s ReadsRun = IsReading s × (kept_word s s.walk.reading_block s.walk.reading_slot ≢ 0)
MayWork g s NextSnapshot = HasReadBlock s SNAPSHOT
MayWork g s EndsReading = HasReadBlock s LOG
MayWork g s SeeksFirst = MaySeek s
MayWork g s SeeksNext = IsSeeking s SNAPSHOT
MayWork g s FindsFirst = IsSeeking s LOG
MayWork g s TakesEntry = HasFoundSlot g s × (tail_word s ≢ SEAL) × (field ENTRY_KIND (tail_word s) ≡ INDIRECT → IsKeptWhole s (field INDIRECT_BLOCK (tail_word s)))
MayWork g s TakesSeal = HasFoundSlot g s × (tail_word s ≡ SEAL)
MayWork g s Follows = HasFoundLink g s
MayWork g s Forgets = Unit {0}
MayWork g s (OpensBase virt) = MayOpenBase s virt
MayWork g s AddsBaseWord = MayAddBaseWord s
MayWork g s DropsBases = Unit {0}
MayWork g s (Lays bytes) = MayLay s bytes
MayWork g s (SetsWord place word value) = MaySetWord s place word value
MayWork g s (CountsFilled place) = MayCountFilled g s place
MayWork g s (NotesNamed words) = length words ≡ length s.blocks.named
MayWork g s KeepsReplaced = s.giving.head_fenced ≡ true
MayWork g s (NotesHeld held) = (pin : Held) → held ≡ Some pin → IsHeldPin s s.giving.limbo_generation pin

-- computations, one after the other
abbrev pub state_after_all_work : Seat → List Work → Seat
state_after_all_work s [] = s
state_after_all_work s (work ∷ works) = state_after_all_work (state_after_work s work) works

abbrev pub MayWorkAll : Ghost → Seat → List Work → Type 0
MayWorkAll g s [] = Unit {0}
MayWorkAll g s (work ∷ works) = MayWork g s work × MayWorkAll g (state_after_work s work) works

-- the later state comes from the earlier one by computing alone
pub record Computes (g : Ghost) (s t : Seat) : Type 0 where
  pub works : List Work
  pub may : MayWorkAll g s works
  pub gives : t ≡ state_after_all_work s works

-- whether a computation goes on with a call, and begins none
abbrev pub is_going_on : Work → Bool
is_going_on (Begins task bytes) = false
is_going_on _ = true

-- a call that adds its record has ended
abbrev pub ended : List Call → Seat → Seat
ended [] s = s
ended (call ∷ calls) s = record s { calling = record (s.calling) { job = Idle; won = false; sync_to = None; noting = false } }
