-- The invariant of a core: eleven clauses, each over the parts that it reads, and that the parts fit one another.
use Rattle.std.specs.Prelude.{ℕ, ◌+◌, ◌≤◌, ◌≡◌, ◌≢◌, Bool, List, []}
use Rattle.std.specs.List.{AllByRecursion}
use Rattle.persistence.specs.Memory.{Memory, cell}
use Rattle.log_core.specs.Entries.{LogEntry, head_place}
use Rattle.log_core.specs.Views.{View, view_of}
use Rattle.log_core.specs.Origin.{Origin, shape, q_of_origin, first_position, first_generation, Owner, LogBlock, Generation}
use Rattle.log_core.specs.Files.{Write, entries, end_of}
use Rattle.log_core.specs.Cores.{Core, generation_at, current, chain_names, data_names, is_named, IsKept, head_floor}
use Rattle.log_core.specs.Sizes.{Sizes}
use Rattle.log_core.specs.Writes.{HistoryHolds}
use Rattle.log_core.specs.Order.{nth_generation, HeadsInOrder, GenerationsRise, LogInOrder, ChainsStand}
use Rattle.log_core.specs.Owners.{BitsFit, ChainOwns, SeatsOwn, NamesOnce}
use Rattle.log_core.specs.Contents.{GenerationHolds}
use Rattle.log_core.specs.Pins.{PinWordsFit, PinsHold}
use Rattle.log_core.specs.Walks.{Around, WalksHold}
use Rattle.log_core.specs.Noted.{AllNoted}
use Rattle.log_core.specs.Owned.{OwnedAllHold}
use Rattle.log_core.specs.Giving.{GivingsHold, ScansHold}
use Rattle.log_core.specs.Records.{WritesFit, WritesOnce, SeatsOnce, CollectedOnce, PutFits, RecordHolds, NeverFall, CallHolds, TailHolds, MarksFit}
use Rattle.log_core.specs.Synced.{IsSynced, SyncsHold}

-- the generations that are kept, by their places
abbrev pub KeptIn : Origin → Core → ℕ → Type 0
KeptIn o c place = IsKept o c.generations (head_floor c.memory) c.views place

-- order: the heads are the generations', these rise, and the log's blocks have the entries in order
pub record Order (o : Origin) (memory : Memory) (history : List Write) (generations : List Generation) (logs : List LogBlock) (kept : ℕ → Type 0) : Type 0 where
  pub heads : HeadsInOrder o (λ word. cell memory word) generations logs
  pub generations_rise : GenerationsRise o (end_of o history) generations logs
  pub log : LogInOrder o (entries o history) (end_of o history) logs
  pub chains : ChainsStand (shape o) (λ word. cell memory word) logs generations kept

-- owners: bits and owners fit, the present chain and each seat have exactly their blocks, and a kept generation names none twice
pub record Owners (o : Origin) (taken : List ℕ) (views : List View) (history : List Write) (generations : List Generation) (logs : List LogBlock) (owner : ℕ → Owner) (kept : ℕ → Type 0) : Type 0 where
  pub bits : BitsFit (shape o) taken owner
  pub chain : ChainOwns (is_named o logs (entries o history) (generation_at o generations (current o generations))) owner
  pub seats : SeatsOwn owner views
  pub once : (place : ℕ) → kept place →
      NamesOnce (shape o) (chain_names logs (nth_generation generations place)) (data_names o (entries o history) (nth_generation generations place))

-- contents: each kept generation holds its map and its files
abbrev pub Contents : Origin → Memory → List Write → (ℕ → List ℕ) → (ℕ → Owner) → List Generation → List LogBlock → (ℕ → Type 0) → Type 0
Contents o memory history recorded owner generations logs kept =
    (place : ℕ) → kept place → GenerationHolds o (λ word. cell memory word) history recorded owner logs (nth_generation generations place)

-- pins: each pin word is its view's, and what the view knows of the head is so
pub record Pins (o : Origin) (memory : Memory) (views : List View) (generations : List Generation) : Type 0 where
  pub words : PinWordsFit memory.now.pins views
  pub holds : PinsHold (first_generation o) (current o generations) (cell memory head_place) views

-- views: each table, tail and kept word is what the log says
abbrev pub around : Origin → Core → Around
around o c = record {
  origin = o;
  words = c.memory.now.words;
  es = entries o c.history;
  end = end_of o c.history;
  generations = c.generations;
  logs = c.logs;
  recorded = c.recorded;
  kept = λ place. KeptIn o c place;
}

-- giving back: no block that a kept generation may need is given back
abbrev pub names_by : Origin → List LogBlock → List LogEntry → List Generation → ℕ → ℕ → Bool
names_by o logs es generations generation block = is_named o logs es (generation_at o generations generation) block

pub record Givings (o : Origin) (memory : Memory) (views : List View) (history : List Write) (generations : List Generation) (logs : List LogBlock) : Type 0 where
  pub lists : GivingsHold (names_by o logs (entries o history) generations) (current o generations) (first_generation o + head_floor memory) views
  pub scans : ScansHold views

-- records: the views' records are the history's writes, each once, and each has the reply that comes at its position
pub record Records (o : Origin) (memory : Memory) (views : List View) (history : List Write) (generations : List Generation) (began : ℕ → ℕ) : Type 0 where
  pub writes : (seat : ℕ) → WritesFit o history (view_of views seat)
  pub writes_once : (seat : ℕ) → WritesOnce o history (view_of views seat)
  pub seats_once : SeatsOnce history views
  pub collected_once : CollectedOnce (first_generation o) (current o generations) views
  pub put : (seat : ℕ) → PutFits o generations (view_of views seat)
  pub records : (seat : ℕ) → AllByRecursion (RecordHolds o history generations) (view_of views seat).done
  pub never_fall : (seat part : ℕ) → NeverFall part 0 0 (view_of views seat).done
  pub calls : (seat : ℕ) → CallHolds o history (view_of views seat)
  pub begun : (seat : ℕ) → began seat ≤ end_of o history
  pub tails : (seat : ℕ) → TailHolds (view_of views seat) (began seat)
  pub marks : (seat : ℕ) → MarksFit (λ word. cell memory word) memory.past memory.pending seat (view_of views seat)

-- synced: no crash takes back an entry up to the synced position, nor what leads to it; the start's entries are among them
pub record Syncs (o : Origin) (memory : Memory) (views : List View) (history : List Write) (generations : List Generation) (logs : List LogBlock) (synced : ℕ) : Type 0 where
  pub from_first : first_position o ≤ synced
  pub to_end : synced ≤ end_of o history
  pub words : IsSynced (shape o) (λ word. cell memory word) generations logs (head_floor memory) synced
  pub views_hold : SyncsHold (q_of_origin o) (names_by o logs (entries o history) generations) (λ word. cell memory word) memory.past memory.pending synced views

pub record Invariant (o : Origin) (c : Core) : Type 0 where
  pub sizes : Sizes o c.memory c.views c.began
  pub writes : HistoryHolds o c.history
  pub order : Order o c.memory c.history c.generations c.logs (λ place. KeptIn o c place)
  pub owners : Owners o c.memory.now.taken c.views c.history c.generations c.logs c.owner (λ place. KeptIn o c place)
  pub contents : Contents o c.memory c.history c.recorded c.owner c.generations c.logs (λ place. KeptIn o c place)
  pub pins : Pins o c.memory c.views c.generations
  pub walks : WalksHold (around o c) c.views
  pub noted : AllNoted (around o c) c.views
  pub owned : OwnedAllHold (λ word. cell c.memory word) c.memory.past c.memory.pending c.views
  pub givings : Givings o c.memory c.views c.history c.generations c.logs
  pub records : Records o c.memory c.views c.history c.generations (λ seat. Rattle.std.specs.Prelude.slice_index c.began seat)
  pub syncs : Syncs o c.memory c.views c.history c.generations c.logs c.synced
