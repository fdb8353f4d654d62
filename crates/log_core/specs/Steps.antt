-- A step, its kind, and what it makes of the seat's state and of its view.
use Rattle.std.specs.Prelude.{ℕ, zero, suc, ◌+◌, ◌-◌, ◌*◌, ◌/◌, ◌%◌, ◌^◌, ◌==◌, ◌&&◌, ◌||◌, not, nat_lt, nat_le, max, min, Bool, true, false, if◌then◌else◌, List, [], ◌∷◌, ◌++◌, length, map, filter, take, drop, replicate, slice_index, slice_set, bit_or, Option, Some, None}
use Rattle.std.specs.Int.{bit_at}
use Rattle.std.specs.List.{range_with_len, list_any, list_all}
use Rattle.log_entry.specs.Fields.{field}
use Rattle.log_entry.specs.declared.layouts.TheConstants.{SEAL, HEAD_BLOCK, HEAD_GENERATION}
use Rattle.log_entry.specs.declared.shapes.Area.{Area}
use Rattle.log_entry.specs.declared.shapes.Area.TheVariants.{Data, Log, Spare}
use Rattle.log_entry.specs.declared.calls.Call.{Call}
use Rattle.log_entry.specs.declared.calls.Op.{Op}
use Rattle.log_image.specs.Image.{Shape, total, is_in_data}
use Rattle.log_image.specs.Entries.{Meaning, names}
use Rattle.pmem_words.specs.Owned.{is_among, owned_but, contents_but, fenced_all}
use Rattle.pmem_words.specs.declared.keeps.KeptWord.{KeptWord}
use Rattle.pmem_words.specs.declared.keeps.Task.{Task}
use Rattle.pmem_words.specs.declared.keeps.Task.TheVariants.{Sync}
use Rattle.pmem_words.specs.declared.owned.OwnedBlock.{OwnedBlock}
use Rattle.pmem_words.specs.Noted.{is_noted, noted_more}
use Rattle.pmem_words.specs.Seats.{Seat, Hold, Walk, Blocks}
use Rattle.asks.specs.Asks.{without_bits}
use Rattle.asks.specs.declared.ask.Place.TheVariants.{Image, Pin, Map, FenceOf}
use Rattle.asks.specs.declared.ask.Ask.{Ask}
use Rattle.asks.specs.declared.ask.Ask.TheVariants.{Load, Store, Exchange, SetBits, ClearBits, Mark, Fence}
use Rattle.log_image.specs.Chains.{is_listed}
use Rattle.log_core.specs.Entries.{head_place, place_in, meaning_by}
use Rattle.log_core.specs.Views.{MarkedWord, Stored, HeadPut, RunningCall, Ghost, View, new_view, op_in}
use Rattle.log_core.specs.Works.{seat_shape, words_of, tail_index, without_bases, walk_past}
use Rattle.log_core.specs.Needs.{owned_numbers, is_pass_found}

-- what a call computed that enters the view with the step: the seat's state at the ask, the state after the answer and what is
-- computed then, the records of a call that ends with it, and the number of the present call
pub record Note : Type 0 where
  pub before : Seat
  pub seat : Seat
  pub adds : List Call
  pub number : ℕ

-- a step: a seat performs an ask; a new seat is split from a seat; or a seat takes another one's parts
pub data Step : Type 0 where
  Does : (seat : ℕ) → Ask → Note → Step
  Splits : (seat : ℕ) → Step
  Joins : (seat other : ℕ) → Step

-- what an ask is to the core
pub data Kind : Type 0 where
  LoadsHead : Kind
  StoresOwnPin : (value : ℕ) → Kind
  LoadsPinWord : (seat : ℕ) → Kind
  LoadsImageWord : (word : ℕ) → Kind
  LoadsBitmapWord : (word : ℕ) → Kind
  SetsBits : (word bits : ℕ) → Kind
  ClearsBits : (word bits : ℕ) → Kind
  StoresWord : (word value : ℕ) → Kind
  ExchangesSlot : (word entry : ℕ) → Kind
  ExchangesLink : (word block : ℕ) → Kind
  ExchangesHead : (found next : ℕ) → Kind
  MarksWord : (word : ℕ) → Kind
  Fences : Kind
  -- an ask that no seat may make
  NoKind : Kind

-- an exchange of an image word: of the head, or from 0 of a link or a slot
abbrev pub exchange_kind : ℕ → ℕ → ℕ → ℕ → Kind
exchange_kind q word before after =
    if word == head_place then ExchangesHead before after
    else if not (before == 0) then NoKind
    else if word % q == 0 then ExchangesLink word after
    else ExchangesSlot word after

-- the kind of an ask, by the words of a block and the seat's number
abbrev pub kind_of_ask : ℕ → ℕ → Ask → Kind
kind_of_ask q seat (Load (Image word)) = if word == head_place then LoadsHead else LoadsImageWord word
kind_of_ask q seat (Load (Pin other)) = LoadsPinWord other
kind_of_ask q seat (Load (Map word)) = LoadsBitmapWord word
kind_of_ask q seat (Load (FenceOf other)) = NoKind
kind_of_ask q seat (Store (Image word) value) = StoresWord word value
kind_of_ask q seat (Store (Pin other) value) = if other == seat then StoresOwnPin value else NoKind
kind_of_ask q seat (Store (Map word) value) = NoKind
kind_of_ask q seat (Store (FenceOf other) value) = NoKind
kind_of_ask q seat (Exchange (Image word) before after) = exchange_kind q word before after
kind_of_ask q seat (Exchange (Pin other) before after) = NoKind
kind_of_ask q seat (Exchange (Map word) before after) = NoKind
kind_of_ask q seat (Exchange (FenceOf other) before after) = NoKind
kind_of_ask q seat (SetBits (Map word) bits) = SetsBits word bits
kind_of_ask q seat (SetBits (Image word) bits) = NoKind
kind_of_ask q seat (SetBits (Pin other) bits) = NoKind
kind_of_ask q seat (SetBits (FenceOf other) bits) = NoKind
kind_of_ask q seat (ClearBits (Map word) bits) = ClearsBits word bits
kind_of_ask q seat (ClearBits (Image word) bits) = NoKind
kind_of_ask q seat (ClearBits (Pin other) bits) = NoKind
kind_of_ask q seat (ClearBits (FenceOf other) bits) = NoKind
kind_of_ask q seat (Mark word) = MarksWord word
kind_of_ask q seat Fence = Fences

-- whether setting these bits takes the block: its bit is among them and was found clear
abbrev pub is_gained : ℕ → ℕ → ℕ → ℕ → Bool
is_gained word bits found block = is_among word bits block && (bit_at found (block % 64) == 0)

-- the area of a block
abbrev pub area_of : Shape → ℕ → Area
area_of image block = if is_in_data image block then Data else if nat_le block (image.data_blocks + image.log_blocks) then Log else Spare

-- the blocks taken by setting these bits, the least first
abbrev pub gained : ℕ → ℕ → ℕ → List ℕ
gained word bits found = filter (λ (block : ℕ). is_gained word bits found block) (range_with_len (word * 64) 64)

abbrev pub taken_block : Shape → ℕ → OwnedBlock
taken_block image block = record { block = block; area = area_of image block; filled = false; fenced = false }

-- a seat's owned blocks, and their contents, without those of which f is true
abbrev pub blocks_but : ℕ → (ℕ → Bool) → Blocks → Blocks
blocks_but q f b = record b { owned = owned_but f b.owned; contents = contents_but q f b.owned b.contents }

-- the owned blocks with what a function makes of each of this number
abbrev pub owned_with : ℕ → (OwnedBlock → OwnedBlock) → List OwnedBlock → List OwnedBlock
owned_with block f owned = map (λ (o : OwnedBlock). if o.block == block then f o else o) owned

-- the words of an owned block, by its number
abbrev pub content_from : ℕ → ℕ → List OwnedBlock → List ℕ → List ℕ
content_from q block [] contents = []
content_from q block (o ∷ owned) contents = if o.block == block then take q contents else content_from q block owned (drop q contents)

abbrev pub content_of : Seat → ℕ → List ℕ
content_of s block = content_from (words_of s) block s.blocks.owned s.blocks.contents

-- a load of the head: where the pin word holds its generation, the pin is valid
abbrev pub hold_found : Hold → ℕ → Hold
hold_found h word = record h {
  head = word;
  generation = if h.pin == field HEAD_GENERATION word then h.pin else h.generation;
  valid = h.valid || (h.pin == field HEAD_GENERATION word);
}

-- and where it is the pin of another generation than the last one, the view is not ready
abbrev pub ready_found : Hold → ℕ → Bool → Bool
ready_found h word ready = if (h.pin == field HEAD_GENERATION word) && not (h.pin == h.generation) then false else ready

-- nor is the first log block known
abbrev pub first_found : Hold → ℕ → ℕ → ℕ
first_found h word block = if (h.pin == field HEAD_GENERATION word) && not (h.pin == h.generation) then 0 else block

-- a word of the image that was loaded
abbrev pub kept_with : ℕ → List KeptWord → ℕ → ℕ → List KeptWord
kept_with q kept word found = kept ++ record { block = word / q; slot = word % q; word = found } ∷ []

-- whether an empty slot or a link 0 was found at the tail of a view that is ready
abbrev pub is_tail_found : Seat → ℕ → ℕ → Bool
is_tail_found s word found = s.walk.ready && (found == 0) && (word == place_in (seat_shape s) s.walk.tail_block (tail_index s))

-- the meaning of the word of an entry, by the contents of the owned blocks
abbrev pub new_meaning : Seat → ℕ → Meaning
new_meaning s entry = meaning_by (λ block. content_of s block) entry

-- an exchange of a slot for an entry, won or lost
abbrev pub slot_exchanged : Seat → ℕ → ℕ → ℕ → Bool → Seat
slot_exchanged s word entry found true = record s {
  walk = record (walk_past (seat_shape s) s.walk (new_meaning s entry)) { at_tail = true; kept = s.walk.kept };
  calling = record (without_bases (words_of s) (new_meaning s entry) s.calling) { won = true };
  blocks = blocks_but (words_of s) (λ block. is_listed (names (new_meaning s entry)) block) s.blocks;
}
slot_exchanged s word entry found false = record s {
  walk = record (s.walk) { kept = kept_with (words_of s) s.walk.kept word found; at_tail = false };
  calling = record (s.calling) { lost = min (s.calling.lost + 1) (2 ^ 32 - 1) };
}

-- for a seal
abbrev pub slot_sealed : Seat → ℕ → ℕ → Bool → Seat
slot_sealed s word found true = record s { walk = record (s.walk) { tail_slot = words_of s; at_tail = true } }
slot_sealed s word found false = record s { walk = record (s.walk) { kept = kept_with (words_of s) s.walk.kept word found; at_tail = false } }

-- an exchange of a link
abbrev pub link_exchanged : Seat → ℕ → ℕ → ℕ → Bool → Seat
link_exchanged s word block found true = record s {
  walk = record (s.walk) { tail_block = block; tail_slot = 3; tail_base = s.walk.position; at_tail = true };
  blocks = record (blocks_but (words_of s) (λ other. other == block) s.blocks) { named = noted_more s.calling.noting s.blocks.named (block ∷ []) };
}
link_exchanged s word block found false = record s { walk = record (s.walk) { kept = kept_with (words_of s) s.walk.kept word found } }

-- the blocks of a new snapshot: from the head's on by the links in the contents of owned blocks
abbrev pub linked_from : Seat → ℕ → ℕ → List ℕ
linked_from s block zero = []
linked_from s block (suc most) =
    if is_listed (owned_numbers s.blocks.owned) block then block ∷ linked_from s (slice_index (content_of s block) 0) most else []

abbrev pub new_snapshots : Seat → ℕ → List ℕ
new_snapshots s next = linked_from s (field HEAD_BLOCK next) (length s.blocks.owned)

-- whether a map gives a block to a virtual block
abbrev pub is_block : ℕ → Option ℕ → Bool
is_block block None = false
is_block block (Some held) = held == block

abbrev pub is_mapped : List (Option ℕ) → ℕ → Bool
is_mapped blocks block = list_any (λ (held : Option ℕ). is_block block held) blocks

-- the blocks that a won exchange of the head leaves to the seat, the least first: those that the walked chain names, but for those
-- of the map and the cut block, which is the tail's
abbrev pub replaced_by : Seat → List ℕ
replaced_by s =
    filter (λ (block : ℕ). is_noted s.blocks.named block && not (is_mapped s.walk.map block) && not (block == s.walk.tail_block))
    (range_with_len 1 (total (seat_shape s) - 1))

-- an exchange of the head
abbrev pub head_exchanged : Seat → ℕ → ℕ → Bool → Seat
head_exchanged s next found true = record s {
  blocks = blocks_but (words_of s) (λ block. is_listed (new_snapshots s next) block) s.blocks;
  giving = record (s.giving) { replaced = replaced_by s; replaced_generation = s.hold.generation; pins_seen = []; head_fenced = false };
}
head_exchanged s next found false = record s { hold = record (s.hold) { head = found } }

-- whether these bits are of owned blocks alone
abbrev pub is_of_owned : Seat → ℕ → ℕ → Bool
is_of_owned s word bits = list_all (λ (block : ℕ). not (is_among word bits block) || is_listed (owned_numbers s.blocks.owned) block) (range_with_len (word * 64) 64)

-- blocks that clearing bits gives back leave the list that they are of: the owned ones, or those that collections replaced
abbrev pub give_if : Bool → Seat → ℕ → ℕ → Seat
give_if true s word bits = record s { blocks = blocks_but (words_of s) (λ block. is_among word bits block) s.blocks }
give_if false s word bits = record s {
  giving = record (s.giving) {
    replaced = filter (λ (block : ℕ). not (is_among word bits block)) s.giving.replaced;
    limbo = filter (λ (block : ℕ). not (is_among word bits block)) s.giving.limbo;
  };
}

abbrev pub not_found : Seat → ℕ → ℕ → Seat
not_found s word bits = record s { blocks = record (s.blocks) { found = slice_set s.blocks.found word (without_bits (slice_index s.blocks.found word) bits) } }

abbrev pub given_back : Seat → ℕ → ℕ → Seat
given_back s word bits = not_found (give_if (is_of_owned s word bits) s word bits) word bits

-- whether a head of a generation above this one is marked
abbrev pub is_head_marked : ℕ → List MarkedWord → Bool
is_head_marked generation marks = list_any (λ (mark : MarkedWord). (mark.word == head_place) && nat_lt generation (field HEAD_GENERATION mark.value)) marks

-- the position that a sync answers, from the fence on that it makes at the tail
abbrev pub sync_fenced : Task → Bool → ℕ → Option ℕ → Option ℕ
sync_fenced Sync true position None = Some position
sync_fenced task at_tail position sync_to = sync_to

-- what a step makes of the seat's state, by its marks, the kind and the answer
abbrev pub effect : List MarkedWord → Seat → Kind → ℕ → Seat
effect marks s LoadsHead f = record s {
  hold = hold_found s.hold f;
  walk = record (s.walk) { ready = ready_found s.hold f s.walk.ready; first_log = first_found s.hold f s.walk.first_log };
}
effect marks s (StoresOwnPin value) f = record s { hold = record (s.hold) { pin = value; valid = false }; walk = record (s.walk) { kept = [] } }
effect marks s (LoadsPinWord seat) f = record s { giving = record (s.giving) { pins_seen = take seat s.giving.pins_seen ++ f ∷ [] } }
effect marks s (LoadsImageWord word) f = record s { walk = record (s.walk) { kept = kept_with (words_of s) s.walk.kept word f; at_tail = s.walk.at_tail || is_tail_found s word f } }
effect marks s (LoadsBitmapWord word) f = record s { blocks = record (s.blocks) { found = slice_set s.blocks.found word (bit_or (slice_index s.blocks.found word) f) } }
effect marks s (SetsBits word bits) f = record s {
  blocks = record (s.blocks) {
    owned = s.blocks.owned ++ map (taken_block (seat_shape s)) (gained word bits f);
    contents = s.blocks.contents ++ replicate (length (gained word bits f) * words_of s) 0;
    found = slice_set s.blocks.found word (bit_or (slice_index s.blocks.found word) (bit_or f bits));
  };
}
effect marks s (ClearsBits word bits) f = given_back s word bits
effect marks s (StoresWord word value) f = record s { blocks = record (s.blocks) { owned = owned_with (word / words_of s) (λ o. record o { filled = false; fenced = false }) s.blocks.owned } }
effect marks s (ExchangesSlot word entry) f = if entry == SEAL then slot_sealed s word f (f == 0) else slot_exchanged s word entry f (f == 0)
effect marks s (ExchangesLink word block) f = link_exchanged s word block f (f == 0)
effect marks s (ExchangesHead before next) f = head_exchanged s next f (f == before)
effect marks s (MarksWord word) f = s
effect marks s Fences f = record s {
  calling = record (s.calling) { sync_to = sync_fenced s.calling.job s.walk.at_tail s.walk.position s.calling.sync_to };
  blocks = record (s.blocks) { owned = fenced_all s.blocks.owned };
  giving = record (s.giving) { head_fenced = s.giving.head_fenced || is_head_marked s.giving.replaced_generation marks };
}
effect marks s NoKind f = s

-- the marks after a step
abbrev pub marks_after : List MarkedWord → Kind → ℕ → List MarkedWord
marks_after marks (MarksWord word) f = marks ++ record { word = word; value = f } ∷ []
marks_after marks Fences f = []
marks_after marks _ f = marks

-- the words stored in owned blocks, without those of blocks of which f is true
abbrev pub stored_but : ℕ → (ℕ → Bool) → List Stored → List Stored
stored_but q f stored = filter (λ (r : Stored). not (f (r.word / q))) stored

abbrev pub stored_with : List Stored → ℕ → ℕ → List Stored
stored_with stored word value = filter (λ (r : Stored). not (r.word == word)) stored ++ record { word = word; value = value; marked = false } ∷ []

abbrev pub stored_marked : List Stored → ℕ → List Stored
stored_marked stored word = map (λ (r : Stored). if r.word == word then record r { marked = true } else r) stored

abbrev pub stored_if : Bool → List Stored → List Stored → List Stored
stored_if true others stored = others
stored_if false others stored = stored

abbrev pub stored_after : List Stored → Seat → Kind → ℕ → List Stored
stored_after stored s (StoresWord word value) f = stored_with stored word value
stored_after stored s (MarksWord word) f = stored_marked stored word
stored_after stored s (ClearsBits word bits) f = stored_but (words_of s) (λ block. is_among word bits block) stored
stored_after stored s (ExchangesSlot word entry) f = stored_if ((f == 0) && not (entry == SEAL)) (stored_but (words_of s) (λ block. is_listed (names (new_meaning s entry)) block) stored) stored
stored_after stored s (ExchangesLink word block) f = stored_if (f == 0) (stored_but (words_of s) (λ other. other == block) stored) stored
stored_after stored s (ExchangesHead before next) f = stored_if (f == before) (stored_but (words_of s) (λ block. is_listed (new_snapshots s next) block) stored) stored
stored_after stored s _ f = stored

-- the areas in which the call has found too few blocks: a step on the bitmap may find it
abbrev pub lacked_after : List Area → Seat → Kind → List Area
lacked_after lacked s (LoadsBitmapWord word) = lacked ++ filter (λ (area : Area). is_pass_found s area) (Data ∷ Log ∷ Spare ∷ [])
lacked_after lacked s (SetsBits word bits) = lacked ++ filter (λ (area : Area). is_pass_found s area) (Data ∷ Log ∷ Spare ∷ [])
lacked_after lacked s _ = lacked

-- the generation that an exchange of the head found instead of its own
abbrev pub overtaken_if : Bool → ℕ → ℕ → ℕ
overtaken_if true overtaken found = overtaken
overtaken_if false overtaken found = field HEAD_GENERATION found

abbrev pub overtaken_after : ℕ → Kind → ℕ → ℕ
overtaken_after overtaken (ExchangesHead before next) f = overtaken_if (f == before) overtaken f
overtaken_after overtaken _ f = overtaken

-- the head that it put in place
abbrev pub put_if : Bool → Option HeadPut → Seat → ℕ → Option HeadPut
put_if true put s next = Some (record { generation = field HEAD_GENERATION next; base = s.walk.position; replaced = length (replaced_by s); limbo = length s.giving.limbo })
put_if false put s next = put

abbrev pub put_after : Option HeadPut → Seat → Kind → ℕ → Option HeadPut
put_after put s (ExchangesHead before next) f = put_if (f == before) put s next
put_after put s _ f = put

abbrev pub call_after : RunningCall → Seat → Seat → Kind → ℕ → RunningCall
call_after c before after kind f = record c {
  lacked = lacked_after c.lacked after kind;
  overtaken = overtaken_after c.overtaken kind f;
  put = put_after c.put before kind f;
}

-- what contracts alone see of a seat, after a step from this state of it to that one
abbrev pub ghost_after : Ghost → Seat → Seat → Kind → ℕ → Ghost
ghost_after g before after kind f = record {
  marks = marks_after g.marks kind f;
  stored = stored_after g.stored before kind f;
  call = call_after g.call before after kind f;
}

-- whether a call begins between two states of a seat
abbrev pub is_begun : Option Op → Option Op → Bool
is_begun None (Some op) = true
is_begun _ _ = false

-- a call that begins has found and put nothing
abbrev pub call_if : Bool → RunningCall → ℕ → RunningCall
call_if true c number = record { number = number; lacked = []; overtaken = 0; put = None }
call_if false c number = c

abbrev pub ghost_begun : Ghost → Seat → Seat → ℕ → Ghost
ghost_begun g s before number = record g { call = call_if (is_begun (op_in s) (op_in before)) g.call number }

-- a call that has ended has its record, and its head is no more the present call's
abbrev pub put_unless : List Call → Option HeadPut → Option HeadPut
put_unless [] put = put
put_unless (call ∷ calls) put = None

abbrev pub ghost_ended : List Call → Ghost → Ghost
ghost_ended adds g = record g { call = record (g.call) { put = put_unless adds g.call.put } }

-- the view after a step: of the view, the kind, the note and the answer alone
abbrev pub view_after : View → Kind → Note → ℕ → View
view_after v kind note f = record v {
  seat = note.seat;
  ghost = ghost_ended note.adds (ghost_after (ghost_begun v.ghost v.seat note.before note.number) note.before (effect v.ghost.marks note.before kind f) kind f);
  done = v.done ++ note.adds;
}

-- a split: seat 0 counts one seat more, and the new view has not walked
abbrev pub view_left : View → View
view_left v = record v { made = v.made + 1 }

abbrev pub view_right : View → View
view_right v = new_view v.seat.geometry v.seat.seats v.first 0 v.made

-- a join: the walk of the view that has come further, the records, parts and kept blocks of both
abbrev pub walk_of : Bool → Walk → Walk → Walk
walk_of true w x = record x { at_tail = false }
walk_of false w x = record w { at_tail = false }

abbrev pub generation_found : Bool → ℕ → ℕ → ℕ
generation_found true generation other = other
generation_found false generation other = generation

abbrev pub seat_joined : Seat → Seat → Seat
seat_joined s t = record s {
  hold = record (s.hold) { generation = generation_found (nat_lt s.walk.position t.walk.position) s.hold.generation t.hold.generation };
  walk = walk_of (nat_lt s.walk.position t.walk.position) s.walk t.walk;
  giving = record (s.giving) {
    limbo = s.giving.limbo ++ t.giving.limbo;
    limbo_generation = max s.giving.limbo_generation t.giving.limbo_generation;
    pins_seen = [];
    limbo_held = None;
  };
}

abbrev pub view_joined : View → View → View
view_joined v u = record v { seat = seat_joined v.seat u.seat; made = max v.made u.made; done = v.done ++ u.done; parts = v.parts ++ u.parts }
