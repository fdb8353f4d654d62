-- Where a write that alone makes steps stands, stage by stage: what it has made of the core since it began.
use Rattle.std.proofs.Common.{◌≡◌, ◌≢◌, ℕ, ◌+◌, ◌≤◌, true, false, List, [], length, Option, Some, None}
use Rattle.log_entry.specs.Legal.{last_position}
use Rattle.log_entry.specs.declared.shapes.Area.TheVariants.{Data, Log}
use Rattle.log_entry.specs.declared.calls.WriteRefusal.{WriteRefusal}
use Rattle.log_entry.specs.declared.calls.WriteRefusal.TheVariants.{NoSpace, PositionLimit}
use Rattle.pmem_words.specs.declared.written.Written.{Written}
use Rattle.pmem_words.specs.Seats.{Seat}
use Rattle.log_core.specs.Origin.{Origin, shape}
use Rattle.log_core.specs.Files.{end_of}
use Rattle.log_core.specs.Cores.{Core, is_full}
use Rattle.log_core.specs.Needs.{is_one_run}
use Rattle.block_bitmap.specs.TakeAlone.{free_blocks}
use Rattle.write_any.specs.declared.stage.Stage.{Stage}
use Rattle.write_any.specs.declared.stage.Stage.TheVariants.{Pinning, Walking, Taking, TakingRuns, Filling, TakingLog, FillingLog, Growing, GivingLog, Offering, Unpinning, Giving}
use Rattle.write_any.specs.declared.write.Write.{Write as WriteMachine}
use Rattle.write_any.specs.Composing.{block_count}
use Rattle.write_any.specs.WriteAlone.{HasAdded}
use Rattle.write_any.specs.LackingAlone.{LacksData}
use Rattle.write_any.proofs.AloneBits.{KnowsBits}
use Rattle.write_any.proofs.OpenTail.{last_of, IsOpenTail}

module _ (offset : ℕ) (o : Origin) (seat number : ℕ) (s0 : Seat) (c0 : Core) where
  -- the blocks that are clear at first, and what is lacking then
  abbrev pub clear_data : List ℕ
  clear_data = free_blocks s0.geometry Data c0.memory.now.taken

  abbrev pub clear_log : List ℕ
  clear_log = free_blocks s0.geometry Log c0.memory.now.taken

  abbrev pub NoData : Type 0
  NoData = LacksData s0 c0.memory.now.taken

  pub record NoLog : Type 0 where
    pub full : is_full (shape o) (last_of c0.logs).slots ≡ true
    pub none_clear : length clear_log ≡ 0

  -- nothing is put in yet: history and log are as at first, no exchange was lost, and the seat knows the bitmap
  pub record IsUnput (s : Seat) (c : Core) : Type 0 where
    pub history : c.history ≡ c0.history
    pub logs : c.logs ≡ c0.logs
    pub none_lost : s.calling.lost ≡ 0
    pub bits : KnowsBits o seat c0.owner s.blocks.found c.owner

  -- it has found the end of the log, and there is a position more
  pub record IsAtLogEnd (s : Seat) (c : Core) : Type 0 where
    pub unput : IsUnput s c
    pub opens : IsOpenTail o c.history c.logs s.walk

  -- as many blocks are clear as are touched, and they are one run only if there are more
  pub record HasApart : Type 0 where
    pub least : block_count s0 ≤ length clear_data
    pub apart : length clear_data ≡ block_count s0 → is_one_run clear_data ≡ false

  pub record HasData (s : Seat) (c : Core) : Type 0 where
    pub at_end : IsAtLogEnd s c
    pub data_space : NoData → ⊥

  pub record HasBoth (s : Seat) (c : Core) : Type 0 where
    pub at_end : IsAtLogEnd s c
    pub data_space : NoData → ⊥
    pub log_space : NoLog → ⊥

  -- a log block may be linked
  pub record IsToOffer (s : Seat) (c : Core) : Type 0 where
    pub history : c.history ≡ c0.history
    pub none_lost : s.calling.lost ≡ 0
    pub opens : IsOpenTail o c.history c.logs s.walk
    pub data_space : NoData → ⊥
    pub log_space : NoLog → ⊥

  -- how it ends, at a position: with its write in the history, or refused for this cause
  abbrev pub IsFor : WriteRefusal → ℕ → Type 0
  IsFor PositionLimit position = position ≡ last_position
  IsFor (NoSpace Data) position = (position ≢ last_position) × NoData
  IsFor (NoSpace Log) position = (position ≢ last_position) × (NoData → ⊥) × NoLog
  IsFor _ position = ⊥

  pub record HasPut (position : ℕ) (c : Core) : Type 0 where
    pub added : HasAdded None o seat number offset s0 c0.history c.history
    pub position_is : position ≡ end_of o c0.history + 1
    pub below : end_of o c0.history ≢ last_position
    pub data_space : NoData → ⊥
    pub log_space : NoLog → ⊥

  pub record IsRefusedFor (why : WriteRefusal) (position : ℕ) (c : Core) : Type 0 where
    pub history : c.history ≡ c0.history
    pub position_is : position ≡ end_of o c0.history
    pub cause : IsFor why position

  abbrev pub EndsBy : Option WriteRefusal → ℕ → Core → Type 0
  EndsBy None position c = HasPut position c
  EndsBy (Some why) position c = IsRefusedFor why position c

  pub record IsEnded (refusal : Option WriteRefusal) (s : Seat) (c : Core) : Type 0 where
    pub none_lost : s.calling.lost ≡ 0
    pub ends : EndsBy refusal s.walk.position c

  pub record EndsAlone (out : Written) (t : Seat) (d : Core) : Type 0 where
    pub none_lost : out.lost ≡ 0
    pub ends : EndsBy out.refusal out.position d

  pub record IsStarting (s : Seat) (c : Core) : Type 0 where
    pub unput : IsUnput s c
    pub none_owned : s.blocks.owned ≡ []

  pub record IsTakingMore (s : Seat) (c : Core) : Type 0 where
    pub at_end : IsAtLogEnd s c
    pub apart : HasApart

  abbrev pub StageAlone : Stage → Seat → Core → Type 0
  StageAlone (Pinning p) s c = IsStarting s c
  StageAlone (Walking p) s c = IsStarting s c
  StageAlone (Taking p) s c = IsAtLogEnd s c
  StageAlone (TakingRuns p) s c = IsTakingMore s c
  StageAlone (Filling p) s c = HasData s c
  StageAlone (TakingLog p) s c = HasData s c
  StageAlone (FillingLog p) s c = HasBoth s c
  StageAlone (Growing p) s c = HasBoth s c
  StageAlone (GivingLog p) s c = ⊥
  StageAlone (Offering p) s c = IsToOffer s c
  StageAlone (Unpinning refusal p) s c = IsEnded refusal s c
  StageAlone (Giving refusal p) s c = IsEnded refusal s c

  abbrev pub WriteStandsAlone : WriteMachine → Seat → Core → Type 0
  WriteStandsAlone m s c = StageAlone m.stage s c
