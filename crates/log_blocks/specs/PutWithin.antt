-- The machines that put a word into the log, within a core: when each may run at a seat, and what it leaves of it, whatever other seats
-- do meanwhile.
use Rattle.std.specs.Prelude.{ℕ, ◌+◌, ◌-◌, ◌^◌, ◌<◌, ◌≡◌, ◌≢◌, ◌==◌, true, [], ◌∷◌, replicate}
use Rattle.log_entry.specs.Fields.{field}
use Rattle.log_entry.specs.Words.{block_word}
use Rattle.log_entry.specs.declared.words.BlockKind.TheVariants.{Log}
use Rattle.log_entry.specs.declared.layouts.TheConstants.{ENTRY_KIND, INDIRECT}
use Rattle.log_image.specs.Image.{is_in_log}
use Rattle.log_image.specs.Entries.{names}
use Rattle.log_image.specs.Chains.{is_listed}
use Rattle.pmem_words.specs.declared.keeps.Task.TheVariants.{Collect}
use Rattle.pmem_words.specs.Seats.{Seat}
use Rattle.log_core.specs.Entries.{place_in}
use Rattle.log_core.specs.Views.{Ghost, view_of}
use Rattle.log_core.specs.Origin.{Origin}
use Rattle.log_core.specs.Cores.{Core}
use Rattle.log_core.specs.Works.{seat_shape, words_of, IsFree}
use Rattle.log_core.specs.Steps.{content_of, new_meaning, stored_but}
use Rattle.log_core.specs.May.{IsAtTail, MayCommit, is_fenced}
use Rattle.log_core.specs.Invariant.{Invariant}
use Rattle.log_core.specs.Knows.{Knows}
use Rattle.log_core.specs.Promising.{Promises}
use Rattle.log_blocks.specs.declared.grow.Grown.{Grown}
use Rattle.log_blocks.specs.declared.grow.Grown.TheVariants.{Linked, Overtaken}
use Rattle.log_blocks.specs.declared.offer.Offered.{Offered}
use Rattle.log_blocks.specs.declared.offer.Offered.TheVariants.{Committed, Overtaken as Lost}
use Rattle.log_blocks.specs.declared.seal.Sealed.{Sealed}
use Rattle.log_blocks.specs.declared.seal.Sealed.TheVariants.{Sealed as IsSealed, Overtaken as Faster}
use Rattle.log_blocks.specs.Taking.{followed}
use Rattle.log_blocks.specs.Committing.{committed, lost_taken}
use Rattle.log_blocks.specs.Growing.{grow_of, linked, grow_script}
use Rattle.log_blocks.specs.Offering.{offer_of, counted, offer_script}
use Rattle.log_blocks.specs.Sealing.{seal_of, sealed, seal_script}
use Rattle.log_blocks.specs.WalkWithin.{MayTakeIn, MayWalkOn}

-- a seat may link a block: its pin is valid, it is ready at the end of its tail's block, and its call may still take in what it finds.
-- The block is of the log or spare area, owned and fenced, and is a new log block whose base is the position
pub record MayGrow (block : ℕ) (o : Origin) (seat : ℕ) (s : Seat) (g : Ghost) : Type 0 where
  pub valid : s.hold.valid ≡ true
  pub ready : s.walk.ready ≡ true
  pub at_end : s.walk.tail_slot ≡ words_of s
  pub free : IsFree g s.calling
  pub none_kept : s.walk.kept ≡ []
  pub owned : is_fenced s.blocks.owned block ≡ true
  pub in_log : is_in_log (seat_shape s) block ≡ true
  pub content : content_of s block ≡ 0 ∷ block_word (record { kind = Log; base = s.walk.position }) ∷ replicate (words_of s - 2) 0

-- the block has left the seat's list, and the tail is its first slot
pub record HasLinked (block : ℕ) (s0 : Seat) (g0 : Ghost) (s : Seat) (g : Ghost) : Type 0 where
  pub left : s ≡ linked block s0
  pub ghost : g ≡ record g0 { stored = stored_but (words_of s0) (λ (other : ℕ). other == block) g0.stored }

-- another seat's block was found to follow, and the tail is the first slot of that
pub record HasFollowed (block : ℕ) (s0 : Seat) (g0 : Ghost) (s : Seat) (g : Ghost) : Type 0 where
  pub some : 0 < block
  pub small : block < 2 ^ 16
  pub left : s ≡ followed s0 block
  pub ghost : g ≡ g0

abbrev pub HasGrown : ℕ → Origin → ℕ → Seat → Ghost → Grown → Seat → Ghost → Type 0
HasGrown block o seat s0 g0 Linked s g = HasLinked block s0 g0 s g
HasGrown block o seat s0 g0 (Overtaken other) s g = HasFollowed other s0 g0 s g

-- an exchange of the tail's slot found this word there: a direct entry and a seal are taken in, and the seat is no more at the tail. Where
-- it is an indirect entry's, the seat keeps it, and may walk on from there
pub record HasTakenIn (word : ℕ) (o : Origin) (seat : ℕ) (s0 : Seat) (g0 : Ghost) (s : Seat) (g : Ghost) : Type 0 where
  pub some : 0 < word
  pub left : s ≡ lost_taken word s0
  pub ghost : g ≡ g0
  pub walks_on : field ENTRY_KIND word ≡ INDIRECT → MayWalkOn word o seat s g

-- a seat may offer an entry: its call may still take in what it finds, it keeps no word, and the core lets it put the entry in at its
-- tail, in each core that knows the seat so
pub record MayOffer (entry : ℕ) (o : Origin) (seat : ℕ) (s : Seat) (g : Ghost) : Type 0 where
  pub takes_in : MayTakeIn s g
  pub none_kept : s.walk.kept ≡ []
  pub commits : (c : Core) (pin began : ℕ) → Invariant o c → (view_of c.views seat).parts ≢ [] → Knows o c seat s g pin began →
      MayCommit o c.history s (place_in (seat_shape s) s.walk.tail_block s.walk.tail_slot) entry

-- the entry is in the log, and the seat at the tail behind it: the entry's blocks are in the table and have left the seat's list
pub record HasCommitted (entry position : ℕ) (s0 : Seat) (g0 : Ghost) (s : Seat) (g : Ghost) : Type 0 where
  pub position_is : position ≡ s0.walk.position + 1
  pub left : s ≡ committed entry s0
  pub ghost : g ≡ record g0 { stored = stored_but (words_of s0) (λ (block : ℕ). is_listed (names (new_meaning s0 entry)) block) g0.stored }

abbrev pub HasOffered : ℕ → Origin → ℕ → Seat → Ghost → Offered → Seat → Ghost → Type 0
HasOffered entry o seat s0 g0 (Committed position) s g = HasCommitted entry position s0 g0 s g
HasOffered entry o seat s0 g0 (Lost word) s g = HasTakenIn word o seat (counted s0) g0 s g

abbrev pub OffersWithin : Type 0
OffersWithin = (entry : ℕ) → Promises offer_script (MayOffer entry) (HasOffered entry) (offer_of entry)

-- a seat may seal its tail's block: its call, a collection, may still take in what it finds, it keeps no word, and its tail is an empty
-- slot after the block's first
pub record MayPutSeal (o : Origin) (seat : ℕ) (s : Seat) (g : Ghost) : Type 0 where
  pub takes_in : MayTakeIn s g
  pub none_kept : s.walk.kept ≡ []
  pub at_tail : IsAtTail s
  pub later : 3 < s.walk.tail_slot
  pub inside : s.walk.tail_slot < words_of s
  pub job : s.calling.job ≡ Collect

-- the tail's block is sealed, and the seat at its end
pub record HasPutSeal (s0 : Seat) (g0 : Ghost) (s : Seat) (g : Ghost) : Type 0 where
  pub left : s ≡ sealed s0
  pub ghost : g ≡ g0

abbrev pub HasSealed : Origin → ℕ → Seat → Ghost → Sealed → Seat → Ghost → Type 0
HasSealed o seat s0 g0 IsSealed s g = HasPutSeal s0 g0 s g
HasSealed o seat s0 g0 (Faster word) s g = HasTakenIn word o seat s0 g0 s g

abbrev pub SealsWithin : Type 0
SealsWithin = Promises seal_script MayPutSeal HasSealed seal_of

abbrev pub GrowsWithin : Type 0
GrowsWithin = (block : ℕ) → Promises grow_script (MayGrow block) (HasGrown block) (grow_of block)
