-- The core after a step.
use Rattle.std.specs.Prelude.{ℕ, ◌==◌, ◌&&◌, max, not, Bool, true, false, if◌then◌else◌, List, [], ◌∷◌, ◌++◌, map, take, slice_set, Option, Some, None}
use Rattle.std.specs.List.{flat_map}
use Rattle.log_entry.specs.declared.layouts.TheConstants.{SEAL}
use Rattle.log_entry.specs.declared.calls.Op.{Op}
use Rattle.log_entry.specs.declared.calls.Op.TheVariants.{Size}
use Rattle.log_image.specs.Entries.{Meaning, direct_meaning, names, all_names}
use Rattle.log_image.specs.Blocks.{entry_count as snapshot_count, slots_of}
use Rattle.pmem_words.specs.Owned.{is_among}
use Rattle.pmem_words.specs.Seats.{Seat}
use Rattle.asks.specs.Asks.{answer}
use Rattle.asks.specs.declared.ask.Ask.{Ask}
use Rattle.persistence.specs.Memory.{found, memory_after}
use Rattle.log_image.specs.Chains.{is_listed}
use Rattle.log_core.specs.Views.{view_of, spent_view, op_in}
use Rattle.log_core.specs.Origin.{Origin, q_of_origin, Owner, Free, Header, InChain, OwnedBy, LeftTo, LogBlock, Generation}
use Rattle.log_core.specs.Files.{Write, end_of}
use Rattle.log_core.specs.Cores.{Core, number_at}
use Rattle.log_core.specs.Steps.{Note, Step, Does, Splits, Joins, Kind, SetsBits, ClearsBits, ExchangesSlot, ExchangesLink, ExchangesHead, Fences, kind_of_ask, is_gained, content_of, new_meaning, new_snapshots, replaced_by, effect, is_begun, view_after, view_left, view_right, view_joined}

-- the write of the running call, with this word as its entry
abbrev pub op_or_size : Option Op → Op
op_or_size None = Size
op_or_size (Some op) = op

abbrev pub write_of : ℕ → Note → ℕ → Write
write_of seat note entry = record {
  seat = seat;
  number = note.number;
  op = op_or_size (op_in note.before);
  at = note.before.walk.size;
  entry = record { word = entry; meaning = new_meaning note.before entry };
}

abbrev pub history_if : Bool → List Write → Write → List Write
history_if true history w = history ++ w ∷ []
history_if false history w = history

abbrev pub history_after : List Write → ℕ → Note → Kind → ℕ → List Write
history_after history seat note (ExchangesSlot word entry) f = history_if ((f == 0) && not (entry == SEAL)) history (write_of seat note entry)
history_after history seat note _ f = history

-- one used slot more in the last log block
abbrev pub slot_added : List LogBlock → ℕ → List LogBlock
slot_added [] slot = []
slot_added (log ∷ []) slot = record log { slots = log.slots ++ slot ∷ [] } ∷ []
slot_added (log ∷ next ∷ logs) slot = log ∷ slot_added (next ∷ logs) slot

abbrev pub slot_if : Bool → List LogBlock → ℕ → List LogBlock
slot_if true logs slot = slot_added logs slot
slot_if false logs slot = logs

abbrev pub log_if : Bool → List LogBlock → ℕ → ℕ → List LogBlock
log_if true logs block base = logs ++ record { block = block; base = base; slots = [] } ∷ []
log_if false logs block base = logs

abbrev pub logs_after : List LogBlock → Note → Kind → ℕ → List LogBlock
logs_after logs note (ExchangesSlot word entry) f = slot_if (f == 0) logs entry
logs_after logs note (ExchangesLink word block) f = log_if (f == 0) logs block note.before.walk.position
logs_after logs note _ f = logs

-- the entries of snapshot blocks, by the words of blocks
abbrev pub snapshot_meanings : (ℕ → List ℕ) → List ℕ → List Meaning
snapshot_meanings content blocks = flat_map (λ (block : ℕ). map direct_meaning (take (snapshot_count (content block)) (slots_of (content block)))) blocks

-- the generation that an exchange of the head puts in place
abbrev pub new_generation : Seat → List LogBlock → ℕ → Generation
new_generation s logs next = record {
  snapshots = new_snapshots s next;
  shared = all_names (snapshot_meanings (λ block. content_of s block) (new_snapshots s next));
  cut = number_at logs s.walk.position;
  base = s.walk.position;
  size = s.walk.size;
}

abbrev pub generations_if : Bool → List Generation → Generation → List Generation
generations_if true generations g = generations ++ g ∷ []
generations_if false generations g = generations

abbrev pub generations_after : List Generation → List LogBlock → Note → Kind → ℕ → List Generation
generations_after generations logs note (ExchangesHead before next) f = generations_if (f == before) generations (new_generation note.before logs next)
generations_after generations logs note _ f = generations

-- these blocks get another owner, where an exchange won
abbrev pub owner_if : Bool → List ℕ → Owner → Owner → ℕ → Owner
owner_if won blocks new old block = if won && is_listed blocks block then new else old

abbrev pub owner_after : (ℕ → Owner) → ℕ → Note → Kind → ℕ → ℕ → Owner
owner_after owner seat note (SetsBits word bits) f block = if is_gained word bits f block then OwnedBy seat else owner block
owner_after owner seat note (ClearsBits word bits) f block = if is_among word bits block then Free else owner block
owner_after owner seat note (ExchangesSlot word entry) f block = owner_if ((f == 0) && not (entry == SEAL)) (names (new_meaning note.before entry)) InChain (owner block) block
owner_after owner seat note (ExchangesLink word other) f block = owner_if (f == 0) (other ∷ []) InChain (owner block) block
owner_after owner seat note (ExchangesHead before next) f block =
    owner_if (f == before) (new_snapshots note.before next) InChain (owner_if (f == before) (replaced_by note.before) (LeftTo seat) (owner block) block) block
owner_after owner seat note _ f block = owner block

-- and the chain has them with these words
abbrev pub recorded_if : Bool → List ℕ → Seat → List ℕ → ℕ → List ℕ
recorded_if won blocks s old block = if won && is_listed blocks block then content_of s block else old

abbrev pub recorded_after : (ℕ → List ℕ) → Note → Kind → ℕ → ℕ → List ℕ
recorded_after recorded note (ExchangesSlot word entry) f block = recorded_if ((f == 0) && not (entry == SEAL)) (names (new_meaning note.before entry)) note.before (recorded block) block
recorded_after recorded note (ExchangesLink word other) f block = recorded_if (f == 0) (other ∷ []) note.before (recorded block) block
recorded_after recorded note (ExchangesHead before next) f block = recorded_if (f == before) (new_snapshots note.before next) note.before (recorded block) block
recorded_after recorded note _ f block = recorded block

-- the synced position rises to that of a sync, with the fence after which the sync has it
abbrev pub synced_to : ℕ → Option ℕ → Option ℕ → ℕ
synced_to synced None (Some position) = max synced position
synced_to synced _ _ = synced

abbrev pub synced_after : ℕ → Note → Kind → ℕ
synced_after synced note Fences = synced_to synced note.before.calling.sync_to (effect [] note.before Fences 0).calling.sync_to
synced_after synced note _ = synced

-- the end at a call's first step
abbrev pub began_if : Bool → List ℕ → ℕ → ℕ → List ℕ
began_if true began seat end = slice_set began seat end
began_if false began seat end = began

-- a step of this kind by a seat, which finds this number
abbrev pub stepped : Origin → Core → ℕ → Ask → Note → Kind → ℕ → Core
stepped o c seat ask note kind f = record {
  memory = memory_after c.memory seat ask;
  views = slice_set c.views seat (view_after (view_of c.views seat) kind note (answer ask f));
  history = history_after c.history seat note kind f;
  generations = generations_after c.generations c.logs note kind f;
  logs = logs_after c.logs note kind f;
  owner = λ block. owner_after c.owner seat note kind f block;
  recorded = λ block. recorded_after c.recorded note kind f block;
  synced = synced_after c.synced note kind;
  began = began_if (is_begun (op_in (view_of c.views seat).seat) (op_in note.before)) c.began seat (end_of o c.history);
}

-- what was left to one seat is left to another
abbrev pub owner_joined : ℕ → ℕ → Owner → Owner
owner_joined seat other (LeftTo n) = LeftTo (if n == other then seat else n)
owner_joined seat other Free = Free
owner_joined seat other Header = Header
owner_joined seat other InChain = InChain
owner_joined seat other (OwnedBy n) = OwnedBy n

-- the core after a step
abbrev pub after : Origin → Core → Step → Core
after o c (Does seat ask note) = stepped o c seat ask note (kind_of_ask (q_of_origin o) seat ask) (found c.memory ask)
after o c (Splits seat) = record c {
  views = slice_set c.views seat (view_left (view_of c.views seat)) ++ view_right (view_of c.views seat) ∷ [];
  began = c.began ++ 0 ∷ [];
}
after o c (Joins seat other) = record c {
  views = slice_set (slice_set c.views seat (view_joined (view_of c.views seat) (view_of c.views other))) other spent_view;
  owner = λ block. owner_joined seat other (c.owner block);
}
