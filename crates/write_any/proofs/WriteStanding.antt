-- Where a write of whole blocks stands within a core, stage by stage.
use Rattle.std.proofs.Common.{◌≡◌, ◌≢◌, ◌⊎◌, ℕ, ◌+◌, ◌-◌, ◌*◌, ◌^◌, ◌<◌, Bool, true, false, List, [], ◌∷◌, ◌++◌, length, map, slice_index, replicate, Option, None}
use Rattle.log_entry.specs.WordBytes.{word_bytes}
use Rattle.log_entry.specs.Words.{block_word}
use Rattle.log_entry.specs.Legal.{last_position}
use Rattle.log_entry.specs.declared.words.BlockKind.TheVariants.{Log as LogKind}
use Rattle.log_entry.specs.declared.words.RunWord.{RunWord}
use Rattle.log_entry.specs.declared.shapes.Area.TheVariants.{Data, Log}
use Rattle.log_entry.specs.declared.calls.WriteRefusal.{WriteRefusal}
use Rattle.log_image.specs.Image.{shape_by, is_in_log}
use Rattle.log_image.specs.Chains.{all_different, is_listed}
use Rattle.pmem_words.specs.Owned.{owned_at}
use Rattle.pmem_words.specs.declared.owned.OwnedBlock.{OwnedBlock}
use Rattle.pmem_words.specs.Seats.{Seat}
use Rattle.log_core.specs.Views.{Ghost}
use Rattle.log_core.specs.Origin.{Origin}
use Rattle.log_core.specs.Works.{words_of}
use Rattle.log_core.specs.Needs.{owned_numbers, is_in_area}
use Rattle.log_core.proofs.machines.MachineLaws.{IsUnmoved, HasBegun}
use Rattle.log_core.proofs.writes.RunLists.{blocks_of, AreRuns}
use Rattle.log_core.proofs.writes.IndirectBlocks.{indirect_content}
use Rattle.pins.proofs.PinWithin.{pin_law, unpin_law}
use Rattle.block_bitmap.specs.declared.give.GiveFrom.TheVariants.{Owned}
use Rattle.log_blocks.proofs.WalkServes.{walk_law}
use Rattle.log_blocks.proofs.WalkOn.{walk_on_law}
use Rattle.log_blocks.proofs.GrowWithin.{grow_law}
use Rattle.write_any.specs.declared.stage.Stage.{Stage}
use Rattle.write_any.specs.declared.stage.Stage.TheVariants.{Pinning, Walking, Taking, TakingRuns, Filling, TakingLog, FillingLog, Growing, GivingLog, Offering, Unpinning, Giving}
use Rattle.write_any.specs.declared.stage.Target.TheVariants.{At}
use Rattle.write_any.specs.declared.write.Write.{Write}
use Rattle.write_any.specs.Composing.{block_count, virt_at, last_place, are_one_run}
use Rattle.write_any.specs.WriteWithin.{HasCause, unwritten}
use Rattle.write_any.proofs.GiveOne.{give_one_law}
use Rattle.write_any.proofs.OfferLaw.{offering_law}
use Rattle.write_any.proofs.LimitLaw.{taking_log_law}
use Rattle.write_any.proofs.PartLaws.{taking_law, filling_law, giving_law}
use Rattle.write_any.proofs.TakenInOrder.{ordered_law}

-- the view is at its chain's tail, at a position that is not the last one
pub record IsHere (s : Seat) : Type 0 where
  pub valid : s.hold.valid ≡ true
  pub ready : s.walk.ready ≡ true
  pub at_tail : s.walk.at_tail ≡ true
  pub none_kept : s.walk.kept ≡ []
  pub below : s.walk.position ≢ last_position

-- each block of a list is fenced
abbrev pub AreFenced : List OwnedBlock → Type 0
AreFenced owned = (place : ℕ) → place < length owned → (owned_at owned place).fenced ≡ true

-- owned blocks but for their marks
abbrev pub unmarked : OwnedBlock → OwnedBlock
unmarked block = record block { filled = false; fenced = false }

abbrev pub unmarked_all : List OwnedBlock → List OwnedBlock
unmarked_all owned = map unmarked owned

-- a log block without entries, whose base is the position
abbrev pub log_content : Seat → List ℕ
log_content s = 0 ∷ block_word (record { kind = LogKind; base = s.walk.position }) ∷ replicate (words_of s - 2) 0

module _ (offset : ℕ) (o : Origin) (seat : ℕ) (s0 : Seat) (g0 : Ghost) where
  abbrev pub count : ℕ
  count = block_count s0

  -- what a write leaves as it is on its way
  pub record IsWriting (s : Seat) (g : Ghost) : Type 0 where
    pub rest : unwritten s ≡ unwritten s0
    pub not_won : s.calling.won ≡ false
    pub no_bases : s.calling.bases ≡ []
    pub no_marks : g.marks ≡ []
    pub number : g.call.number ≡ g0.call.number
    pub no_head : g.call.put ≡ None

  -- a data block for each virtual block is taken
  pub record AreTaken (owned : List OwnedBlock) : Type 0 where
    pub many : length owned ≡ count
    pub in_data : (place : ℕ) → place < length owned → (owned_at owned place).area ≡ Data
    pub numbers : (block : ℕ) → is_listed (owned_numbers owned) block ≡ true → is_in_area (shape_by s0.geometry) Data block ≡ true
    pub once : all_different (owned_numbers owned) ≡ true

  -- a block of these holds the call's bytes for its virtual block
  abbrev pub HoldsBytes : List ℕ → ℕ → Type 0
  HoldsBytes contents place = (index at : ℕ) → index < words_of s0 → at < 8 →
      slice_index (word_bytes (slice_index contents (place * words_of s0 + index) ∷ [])) at ≡ slice_index s0.calling.bytes (place * s0.geometry.block_bytes + 8 * index + at)

  -- the blocks hold the call's bytes; and are one run, or one more holds the words of their runs
  pub record AreOneRun (owned : List OwnedBlock) : Type 0 where
    pub many : length owned ≡ count
    pub each : (place : ℕ) → place < count → (owned_at owned place).block ≡ (owned_at owned 0).block + place

  pub record AreRunsOf (owned : List OwnedBlock) (contents : List ℕ) : Type 0 where
    pub many : length owned ≡ count + 1
    pub runs : List RunWord
    pub are_runs : AreRuns runs
    pub blocks : (place : ℕ) → place < count → slice_index (blocks_of runs) place ≡ (owned_at owned place).block
    pub long : length (blocks_of runs) ≡ count
    pub words : (index : ℕ) → index < words_of s0 → slice_index contents (count * words_of s0 + index) ≡ slice_index (indirect_content (words_of s0) (virt_at offset s0) 0 runs) index

  pub record AreComposed (owned : List OwnedBlock) (contents : List ℕ) : Type 0 where
    pub form : AreOneRun owned ⊎ AreRunsOf owned contents
    pub holds : (place : ℕ) → place < count → HoldsBytes contents place
    pub in_data : (place : ℕ) → place < length owned → (owned_at owned place).area ≡ Data
    pub numbers : (block : ℕ) → is_listed (owned_numbers owned) block ≡ true → is_in_area (shape_by s0.geometry) Data block ≡ true
    pub once : all_different (owned_numbers owned) ≡ true
    pub small : (k : ℕ) → slice_index contents k < 2 ^ 64
    pub long : length contents ≡ length owned * words_of s0

  pub record AreWritten (owned : List OwnedBlock) (contents : List ℕ) : Type 0 where
    pub composed : AreComposed (unmarked_all owned) contents
    pub fenced : AreFenced owned

  -- the seat owns no block yet, or those that it has written
  pub record OwnsNone (s : Seat) : Type 0 where
    pub owned : s.blocks.owned ≡ []
    pub contents : s.blocks.contents ≡ []

  pub record OwnsWritten (s : Seat) : Type 0 where
    pub written : AreWritten s.blocks.owned s.blocks.contents

  -- and a log block behind them
  pub record OwnsLogBlock (block : ℕ) (s : Seat) : Type 0 where
    pub owned : List OwnedBlock
    pub contents : List ℕ
    pub words : List ℕ
    pub written : AreWritten owned contents
    pub filled : Bool
    pub fenced : Bool
    pub is : s.blocks.owned ≡ owned ++ record { block = block; area = Log; filled = filled; fenced = fenced } ∷ []
    pub contents_are : s.blocks.contents ≡ contents ++ words
    pub long : length words ≡ words_of s0
    pub once : all_different (owned_numbers s.blocks.owned) ≡ true
    pub in_log : is_in_log (shape_by s0.geometry) block ≡ true

  pub record BeforeWalk (s : Seat) (g : Ghost) : Type 0 where
    pub writing : IsWriting s g
    pub owns : OwnsNone s ⊎ OwnsWritten s

  pub record BeforeTake (s : Seat) (g : Ghost) : Type 0 where
    pub writing : IsWriting s g
    pub here : IsHere s
    pub owns : OwnsNone s

  pub record BeforeTakeRuns (s : Seat) (g : Ghost) : Type 0 where
    pub writing : IsWriting s g
    pub here : IsHere s
    pub taken : AreTaken s.blocks.owned
    pub zeros : s.blocks.contents ≡ replicate (count * words_of s0) 0
    pub apart : are_one_run s.blocks.owned ≡ false

  pub record BeforeFill (s : Seat) (g : Ghost) : Type 0 where
    pub writing : IsWriting s g
    pub here : IsHere s
    pub composed : AreComposed (unmarked_all s.blocks.owned) s.blocks.contents

  -- once the blocks are written
  pub record AtEnd (s : Seat) (g : Ghost) : Type 0 where
    pub writing : IsWriting s g
    pub here : IsHere s
    pub owns : OwnsWritten s
    pub at_end : s.walk.tail_slot ≡ words_of s

  pub record AtSlot (s : Seat) (g : Ghost) : Type 0 where
    pub writing : IsWriting s g
    pub here : IsHere s
    pub owns : OwnsWritten s
    pub inside : s.walk.tail_slot ≢ words_of s

  -- and a log block taken
  pub record BeforeFillLog (block : ℕ) (s : Seat) (g : Ghost) : Type 0 where
    pub writing : IsWriting s g
    pub here : IsHere s
    pub owns : OwnsLogBlock block s
    pub at_end : s.walk.tail_slot ≡ words_of s
    pub content : owns.words ≡ log_content s

  pub record BeforeGrow (block : ℕ) (s : Seat) (g : Ghost) : Type 0 where
    pub before : BeforeFillLog block s g
    pub fenced : before.owns.fenced ≡ true

  pub record BeforeGiveLog (block : ℕ) (s : Seat) (g : Ghost) : Type 0 where
    pub writing : IsWriting s g
    pub valid : s.hold.valid ≡ true
    pub ready : s.walk.ready ≡ true
    pub none_kept : s.walk.kept ≡ []
    pub owns : OwnsLogBlock block s

  -- the write is done, or refused, and is to give up its pin and its blocks
  pub record IsEnding (refusal : Option WriteRefusal) (s : Seat) (g : Ghost) : Type 0 where
    pub rest : unwritten s ≡ unwritten s0
    pub cause : HasCause refusal s g
    pub at_tail : s.walk.at_tail ≡ true
    pub none_kept : s.walk.kept ≡ []
    pub few : length s.blocks.owned < 2 ^ 17
    pub no_marks : g.marks ≡ []
    pub number : g.call.number ≡ g0.call.number
    pub no_head : g.call.put ≡ None

  pub record IsUnpinned (refusal : Option WriteRefusal) (s : Seat) (g : Ghost) : Type 0 where
    pub ending : IsEnding refusal s g
    pub unpinned : s.hold.pin ≡ 0

  abbrev pub StageStands : Stage → Seat → Ghost → Type 0
  StageStands (Pinning p) s g = HasBegun pin_law o seat (IsUnmoved s0 g0) p s g
  StageStands (Walking p) s g = HasBegun walk_law o seat BeforeWalk p s g ⊎ ((word : ℕ) × HasBegun (walk_on_law word) o seat BeforeWalk p s g)
  StageStands (Taking p) s g = HasBegun (ordered_law Data count) o seat BeforeTake p s g
  StageStands (TakingRuns p) s g = HasBegun (taking_law Data 1) o seat BeforeTakeRuns p s g
  StageStands (Filling p) s g = (all : ℕ) × HasBegun (filling_law 0 all) o seat (λ t h. BeforeFill t h × (length t.blocks.owned ≡ all)) p s g
  StageStands (TakingLog p) s g = HasBegun taking_log_law o seat AtEnd p s g
  StageStands (FillingLog p) s g = (block place : ℕ) × HasBegun (filling_law place 1) o seat (λ t h. BeforeFillLog block t h × (last_place t ≡ place)) p s g
  StageStands (Growing p) s g = (block : ℕ) × HasBegun (grow_law block) o seat (BeforeGrow block) p s g
  StageStands (GivingLog p) s g = (block : ℕ) × HasBegun (give_one_law block) o seat (BeforeGiveLog block) p s g
  StageStands (Offering p) s g = (entry : ℕ) × HasBegun (offering_law entry) o seat AtSlot p s g
  StageStands (Unpinning refusal p) s g = HasBegun unpin_law o seat (IsEnding refusal) p s g
  StageStands (Giving refusal p) s g = HasBegun (giving_law Owned) o seat (IsUnpinned refusal) p s g

  -- a write of this offset
  abbrev pub WriteStands : Write → Seat → Ghost → Type 0
  WriteStands m s g = (m.target ≡ At offset) × StageStands m.stage s g
