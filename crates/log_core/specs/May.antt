-- The condition of each kind of step, over the parts that it reads.
use Rattle.std.specs.Prelude.{ℕ, ◌+◌, ◌-◌, ◌*◌, ◌/◌, ◌^◌, ◌<◌, ◌≤◌, ◌≡◌, ◌≢◌, ◌⊎◌, ◌==◌, ◌&&◌, not, max, Bool, true, false, if◌then◌else◌, List, [], ◌∷◌, length, filter, drop, replicate, slice_index, Option, Some, None}
use Rattle.std.specs.List.{range_with_len, list_any}
use Rattle.log_entry.specs.Fields.{field}
use Rattle.log_entry.specs.Shape.{longest_of}
use Rattle.log_entry.specs.Words.{head_word, block_word}
use Rattle.log_entry.specs.Legal.{is_write, file_after, write_refusal, touched_blocks, appended_blocks}
use Rattle.log_entry.specs.declared.layouts.TheConstants.{SEAL, HEAD_GENERATION, INDIRECT_BLOCK}
use Rattle.log_entry.specs.declared.words.BlockKind.TheVariants.{Log as LogKind}
use Rattle.log_entry.specs.declared.shapes.Area.{Area}
use Rattle.log_entry.specs.declared.calls.Op.{Op}
use Rattle.log_entry.specs.declared.calls.Op.TheVariants.{Pwrite, Append}
use Rattle.log_entry.specs.declared.calls.WriteRefusal.{WriteRefusal}
use Rattle.log_image.specs.Image.{Shape, is_in_data, is_in_log}
use Rattle.log_image.specs.Entries.{Meaning, names}
use Rattle.log_image.specs.Maps.{block_in, entry_end}
use Rattle.log_image.specs.Chains.{all_different, is_listed}
use Rattle.log_image.specs.Format.{fits, is_direct, is_indirect, is_indirect_block}
use Rattle.pmem_words.specs.Owned.{is_among}
use Rattle.pmem_words.specs.declared.keeps.Task.TheVariants.{Sync, Collect}
use Rattle.pmem_words.specs.declared.owned.OwnedBlock.{OwnedBlock}
use Rattle.pmem_words.specs.Seats.{Seat}
use Rattle.log_core.specs.Entries.{place_in, head_place, meaning_by}
use Rattle.log_core.specs.Views.{MarkedWord, Ghost, op_in}
use Rattle.log_core.specs.Origin.{Origin, shape}
use Rattle.log_core.specs.Files.{Write, entries, history_map_at, file_at, accepted_reply, byte_in}
use Rattle.log_core.specs.Cores.{Core, generation_at, is_named, log_at, TrailWord, trail}
use Rattle.log_core.specs.Works.{seat_shape, words_of, tail_index}
use Rattle.log_core.specs.Needs.{owned_numbers, lacking, is_in_area}
use Rattle.log_core.specs.Steps.{Kind, LoadsHead, StoresOwnPin, LoadsPinWord, LoadsImageWord, LoadsBitmapWord, SetsBits, ClearsBits, StoresWord, ExchangesSlot, ExchangesLink, ExchangesHead, MarksWord, Fences, NoKind, content_of, new_meaning, new_snapshots, replaced_by}
use Rattle.log_core.specs.After.{new_generation, snapshot_meanings}
use Rattle.log_core.specs.Snapshots.{first_or, IsSnapshot}

-- a store of the own pin word: 0, or the generation of the head found last; a sync that has marks keeps its pin
pub record MayStoreOwnPin (s : Seat) (marks : List MarkedWord) (value : ℕ) : Type 0 where
  pub value_is : (value ≡ 0) ⊎ ((s.hold.head ≢ 0) × (value ≡ field HEAD_GENERATION s.hold.head))
  pub no_marks : s.calling.job ≡ Sync → marks ≡ []

-- a load of a seat's pin word: a scan begins with seat 0's and goes on in order, while the seat has no pin. The head that the seat
-- put in place last outlasts a crash
pub record MayLoadPinWord (s : Seat) (seats other : ℕ) : Type 0 where
  pub head_fenced : s.giving.head_fenced ≡ true
  pub unpinned : s.hold.pin ≡ 0
  pub in_order : (other ≡ 0) ⊎ (other ≡ length s.giving.pins_seen)
  pub inside : other < seats

-- a load of a word of a block that the pinned generation names
pub record MayLoadImageWord (s : Seat) (named_by_pinned : ℕ → Bool) (word : ℕ) : Type 0 where
  pub valid : s.hold.valid ≡ true
  pub named : named_by_pinned (word / words_of s) ≡ true

-- a load of a bitmap word: in a call that takes blocks
pub record MayLoadBitmapWord (s : Seat) (word : ℕ) : Type 0 where
  pub inside : word < length s.blocks.found
  pub area : Area
  pub lacks : 0 < lacking s s.calling.job area

-- a setting of bits: of blocks of one area, no more than the call lacks there
pub record MaySetBits (s : Seat) (word bits : ℕ) : Type 0 where
  pub inside : word < length s.blocks.found
  pub area : Area
  pub in_area : (block : ℕ) → is_among word bits block ≡ true → is_in_area (seat_shape s) area block ≡ true
  pub few : length (filter (λ (block : ℕ). is_among word bits block) (range_with_len (word * 64) 64)) ≤ lacking s s.calling.job area

-- a scan of all seats has found each pin 0 or above this generation
pub record IsClearScan (s : Seat) (seats generation : ℕ) : Type 0 where
  pub whole : length s.giving.pins_seen ≡ seats
  pub each : (seat : ℕ) → seat < seats → (slice_index s.giving.pins_seen seat ≡ 0) ⊎ (generation < slice_index s.giving.pins_seen seat)

-- blocks of one list are given back, and where a chain has named them, after a scan that found no pin that may need them
pub data AreGivenBack (s : Seat) (seats word bits : ℕ) : Type 0 where
  OfOwned : ((block : ℕ) → is_among word bits block ≡ true → is_listed (owned_numbers s.blocks.owned) block ≡ true) → AreGivenBack s seats word bits
  OfReplaced : ((block : ℕ) → is_among word bits block ≡ true → is_listed s.giving.replaced block ≡ true)
      → s.giving.head_fenced ≡ true → IsClearScan s seats s.giving.replaced_generation → AreGivenBack s seats word bits
  OfLimbo : ((block : ℕ) → is_among word bits block ≡ true → is_listed s.giving.limbo block ≡ true)
      → IsClearScan s seats s.giving.limbo_generation → AreGivenBack s seats word bits

-- a clearing of bits: of a bitmap word that there is, of 64 bits
pub record MayClearBits (s : Seat) (seats word bits : ℕ) : Type 0 where
  pub inside : word < length s.blocks.found
  pub small : bits < 2 ^ 64
  pub given : AreGivenBack s seats word bits

-- a store: of a word of an owned block
pub record MayStoreWord (s : Seat) (word value : ℕ) : Type 0 where
  pub owned : is_listed (owned_numbers s.blocks.owned) (word / words_of s) ≡ true
  pub small : value < 2 ^ 64

-- the block is owned, and no other value than its content is possible in its words
abbrev pub is_fenced : List OwnedBlock → ℕ → Bool
is_fenced owned block = list_any (λ (o : OwnedBlock). (o.block == block) && o.fenced) owned

-- why a write is refused on its arguments, the position and the size, if it is
abbrev pub refusal_at : ℕ → ℕ → ℕ → Op → Option WriteRefusal
refusal_at block_bytes position size (Pwrite offset bytes) = write_refusal block_bytes position (touched_blocks block_bytes offset (length bytes)) (offset + length bytes)
refusal_at block_bytes position size (Append bytes) = write_refusal block_bytes position (appended_blocks block_bytes (length bytes)) (size + length bytes)
refusal_at block_bytes position size _ = None

-- the word of an entry that a log block may have, by the words of blocks
abbrev pub is_log_entry_by : (ℕ → List ℕ) → Shape → ℕ → Bool
is_log_entry_by content image word =
    (if is_direct word then true
    else is_indirect word && is_in_data image (field INDIRECT_BLOCK word) && is_indirect_block image (content (field INDIRECT_BLOCK word)))
    && fits image (longest_of image.block_bytes) (meaning_by content word)

-- the view stands at its chain's tail: its pin is valid, it is ready, and its call has put in no entry
pub record IsAtTail (s : Seat) : Type 0 where
  pub valid : s.hold.valid ≡ true
  pub ready : s.walk.ready ≡ true
  pub not_won : s.calling.won ≡ false
  pub at_tail : s.walk.at_tail ≡ true

-- an exchange of the tail's slot for an entry: of a write that is legal there. The blocks that the entry names are data blocks, owned
-- and fenced, none twice; and the map with them holds the file after the write
pub record MayCommit (o : Origin) (history : List Write) (s : Seat) (word entry : ℕ) : Type 0 where
  pub at_tail : IsAtTail s
  pub slot : word ≡ place_in (seat_shape s) s.walk.tail_block s.walk.tail_slot
  pub inside : s.walk.tail_slot < words_of s
  pub small : entry < 2 ^ 64
  pub op : Op
  pub job : op_in s ≡ Some op
  pub is_write : is_write op (accepted_reply op s.walk.size) ≡ true
  pub allowed : refusal_at s.geometry.block_bytes s.walk.position s.walk.size op ≡ None
  pub form : is_log_entry_by (λ block. content_of s block) (seat_shape s) entry ≡ true
  pub owned : (block : ℕ) → is_listed (names (new_meaning s entry)) block ≡ true → is_fenced s.blocks.owned block ≡ true
  pub in_data : (block : ℕ) → is_listed (names (new_meaning s entry)) block ≡ true → is_in_data (seat_shape s) block ≡ true
  pub once : all_different (names (new_meaning s entry)) ≡ true
  pub size_is : max s.walk.size (entry_end (seat_shape s) (new_meaning s entry)) ≡ length (file_after (file_at o history s.walk.position) op (accepted_reply op s.walk.size))
  pub holds : (virt block at : ℕ) → block_in (new_meaning s entry) virt ≡ Some block → at < s.geometry.block_bytes →
      byte_in (λ other. content_of s other) (Some block) at ≡ slice_index (file_after (file_at o history s.walk.position) op (accepted_reply op s.walk.size)) (virt * s.geometry.block_bytes + at)
  pub rest : (virt at : ℕ) → block_in (new_meaning s entry) virt ≡ None → at < s.geometry.block_bytes →
      slice_index (file_at o history s.walk.position) (virt * s.geometry.block_bytes + at)
      ≡ slice_index (file_after (file_at o history s.walk.position) op (accepted_reply op s.walk.size)) (virt * s.geometry.block_bytes + at)

-- an exchange of the tail's slot for a seal: in a collection, and not of a block's first slot
pub record MaySeal (s : Seat) (word : ℕ) : Type 0 where
  pub at_tail : IsAtTail s
  pub slot : word ≡ place_in (seat_shape s) s.walk.tail_block s.walk.tail_slot
  pub later : 3 < s.walk.tail_slot
  pub inside : s.walk.tail_slot < words_of s
  pub job : s.calling.job ≡ Collect

abbrev pub MayExchangeSlot : Origin → List Write → Seat → ℕ → ℕ → Type 0
MayExchangeSlot o history s word entry = (entry ≡ SEAL → MaySeal s word) × (entry ≢ SEAL → MayCommit o history s word entry)

-- an exchange of the link of the tail's block, at the block's end: for an owned and fenced log block whose base is the position
pub record MayExchangeLink (s : Seat) (word block : ℕ) : Type 0 where
  pub valid : s.hold.valid ≡ true
  pub ready : s.walk.ready ≡ true
  pub link : word ≡ place_in (seat_shape s) s.walk.tail_block 0
  pub at_end : s.walk.tail_slot ≡ words_of s
  pub owned : is_fenced s.blocks.owned block ≡ true
  pub in_log : is_in_log (seat_shape s) block ≡ true
  pub content : content_of s block ≡ 0 ∷ block_word (record { kind = LogKind; base = s.walk.position }) ∷ replicate (words_of s - 2) 0

-- entries that give no virtual block twice
abbrev pub names_virt : Meaning → ℕ → Bool
names_virt meaning virt = Rattle.log_core.specs.Works.touches meaning virt

abbrev pub AreApart : List Meaning → Type 0
AreApart [] = Unit {0}
AreApart (meaning ∷ rest) = ((virt : ℕ) → names_virt meaning virt ≡ true → list_any (λ (other : Meaning). names_virt other virt) rest ≡ false) × AreApart rest

-- an exchange of the head, in a collection at its tail that has won none and left nothing from an earlier one: from the pinned word to the next
-- generation. Its new blocks are of the log or spare area, owned and fenced, none twice, and hold the map and the size at the view's
-- position, which is past the old snapshot's; they lead to the tail's block, which begins there. What it replaces is what the
-- pinned generation names and the next does not
pub record MayExchangeHead (o : Origin) (c : Core) (g : Ghost) (s : Seat) (before next : ℕ) : Type 0 where
  pub valid : s.hold.valid ≡ true
  pub ready : s.walk.ready ≡ true
  pub at_tail : s.walk.at_tail ≡ true
  pub job : s.calling.job ≡ Collect
  pub not_put : g.call.put ≡ None
  pub nothing_left : s.giving.replaced ≡ []
  pub pinned : before ≡ s.hold.head
  pub generation : field HEAD_GENERATION s.hold.head ≡ s.hold.generation
  pub below_limit : s.hold.generation < 2 ^ 32 - 1
  pub next_is : next ≡ head_word (record { generation = s.hold.generation + 1; block = first_or (new_snapshots s next) 0 })
  pub above : s.walk.snapshot_base < s.walk.position
  pub cut : (log_at c.logs s.walk.position).base ≡ s.walk.position
  pub cut_block : (log_at c.logs s.walk.position).block ≡ s.walk.tail_block
  pub owned : (block : ℕ) → is_listed (new_snapshots s next) block ≡ true → is_fenced s.blocks.owned block ≡ true
  pub in_log : (block : ℕ) → is_listed (new_snapshots s next) block ≡ true → is_in_log (seat_shape s) block ≡ true
  pub once : all_different (new_snapshots s next) ≡ true
  pub snapshot : IsSnapshot (seat_shape s) (λ block. content_of s block) s.walk.position (length (file_at o c.history s.walk.position)) (new_snapshots s next) s.walk.tail_block
      (history_map_at o (entries o c.history) s.walk.position)
  pub apart : AreApart (snapshot_meanings (λ block. content_of s block) (new_snapshots s next))
  pub replaced : (block : ℕ) → is_listed (replaced_by s) block
      ≡ (is_named o c.logs (entries o c.history) (generation_at o c.generations s.hold.generation) block
      && not (is_named o c.logs (entries o c.history) (new_generation s c.logs next) block))

-- whether a place is marked
abbrev pub is_marked : List MarkedWord → ℕ → Bool
is_marked marks place = list_any (λ (mark : MarkedWord). mark.word == place) marks

-- the used slots and links of the pinned chain up to the tail of a walk
abbrev pub trail_before : ℕ → List TrailWord → List TrailWord
trail_before place [] = []
trail_before place (t ∷ rest) = if t.place == place then [] else t ∷ trail_before place rest

abbrev pub walked_trail : Origin → Core → Seat → List TrailWord
walked_trail o c s =
    trail_before (place_in (shape o) s.walk.tail_block (tail_index s)) (trail (shape o) (drop (generation_at o c.generations s.hold.generation).cut c.logs))

-- a mark: of a word of an owned block, in a call that is no sync; of the head that the call has put in place; in a sync with a valid
-- pin of the head, and of a used slot or link of its chain up to its tail
pub data MayMark (walked : List TrailWord) (g : Ghost) (s : Seat) (word : ℕ) : Type 0 where
  OfOwned : is_listed (owned_numbers s.blocks.owned) (word / words_of s) ≡ true → s.calling.job ≢ Sync → MayMark walked g s word
  OfNewHead : word ≡ head_place → g.call.put ≢ None → MayMark walked g s word
  OfHead : word ≡ head_place → s.calling.job ≡ Sync → s.hold.valid ≡ true → MayMark walked g s word
  OfTrail : list_any (λ (t : TrailWord). t.place == word) walked ≡ true → s.calling.job ≡ Sync → s.hold.valid ≡ true → MayMark walked g s word

-- the head is marked, and each used slot and link up to the tail
pub record IsAllMarked (walked : List TrailWord) (marks : List MarkedWord) : Type 0 where
  pub head : is_marked marks head_place ≡ true
  pub each : (place : ℕ) → list_any (λ (t : TrailWord). t.place == place) walked ≡ true → is_marked marks place ≡ true

-- a fence: a sync at its tail makes it after all its marks
pub record MayFence (walked : List TrailWord) (g : Ghost) (s : Seat) : Type 0 where
  pub in_sync : s.calling.job ≡ Sync → s.walk.at_tail ≡ true → s.calling.sync_to ≡ None →
      (s.hold.valid ≡ true) × (s.walk.ready ≡ true) × IsAllMarked walked g.marks

-- the condition of each kind of step on the seat's state, and on what contracts alone see of it
abbrev pub May : Origin → Core → Ghost → Seat → Kind → Type 0
May o c g s LoadsHead = Unit {0}
May o c g s (StoresOwnPin value) = MayStoreOwnPin s g.marks value
May o c g s (LoadsPinWord other) = MayLoadPinWord s o.seats other
May o c g s (LoadsImageWord word) = MayLoadImageWord s (λ block. is_named o c.logs (entries o c.history) (generation_at o c.generations s.hold.generation) block) word
May o c g s (LoadsBitmapWord word) = MayLoadBitmapWord s word
May o c g s (SetsBits word bits) = MaySetBits s word bits
May o c g s (ClearsBits word bits) = MayClearBits s o.seats word bits
May o c g s (StoresWord word value) = MayStoreWord s word value
May o c g s (ExchangesSlot word entry) = MayExchangeSlot o c.history s word entry
May o c g s (ExchangesLink word block) = MayExchangeLink s word block
May o c g s (ExchangesHead before next) = MayExchangeHead o c g s before next
May o c g s (MarksWord word) = MayMark (walked_trail o c s) g s word
May o c g s Fences = MayFence (walked_trail o c s) g s
May o c g s NoKind = ⊥
