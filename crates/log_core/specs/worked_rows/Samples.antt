-- Small images and steps that the worked rows begin with.
use Rattle.std.specs.Prelude.{ℕ, zero, suc, ◌+◌, ◌*◌, ◌^◌, ◌<◌, ◌≤◌, refl, List, [], ◌∷◌, replicate, slice_set, Option}
use Rattle.std.proofs.Common.{arith}
use Rattle.log_entry.specs.Shape.{total_of}
use Rattle.log_entry.specs.declared.shapes.Geometry.{Geometry}
use Rattle.log_entry.specs.declared.calls.Call.{Call}
use Rattle.log_image.specs.Image.{Shape}
use Rattle.log_image.specs.Rows.{two_blocks}
use Rattle.pmem_words.specs.declared.keeps.Task.{Task}
use Rattle.pmem_words.specs.declared.keeps.Task.TheVariants.{Pwrite}
use Rattle.pmem_words.specs.Seats.{Seat}
use Rattle.asks.specs.declared.ask.Ask.{Ask}
use Rattle.asks.specs.declared.ask.Ask.TheVariants.{Load, Store, SetBits, Mark, Fence}
use Rattle.asks.specs.declared.ask.Place.TheVariants.{Image, Pin, Map}
use Rattle.persistence.specs.Memory.{found_answer}
use Rattle.log_core.specs.Views.{view_of}
use Rattle.log_core.specs.Origin.{Origin, q_of_origin}
use Rattle.log_core.specs.Cores.{Core}
use Rattle.log_core.specs.Works.{Work, Begins, StartsFromLog, SetsWord, CountsFilled, state_after_all_work, ended}
use Rattle.log_core.specs.Steps.{Step, Does, kind_of_ask, effect}
use Rattle.log_core.specs.After.{after}
use Rattle.log_core.specs.Starts.{origin_of}

pub two_data : 0 < 2
two_data = omega arith

pub one_log : 0 < 1
one_log = omega arith

pub small_total : total_of 2 1 64 ≤ 65535
small_total = omega arith

-- two data blocks and a log block of 64 bytes: 24 blocks of 8 words
abbrev pub small : Geometry
small = record { data_blocks = 2; log_blocks = 1; block_bytes = 64; block_allowed = refl; some_data = two_data; some_log = one_log; few_blocks = small_total }

abbrev pub small_shape : Shape
small_shape = record { data_blocks = 2; log_blocks = 1; block_bytes = 64 }

pub seven_data : 0 < 7
seven_data = omega arith

pub two_logs : 0 < 2
two_logs = omega arith

pub wide_total : total_of 7 2 64 ≤ 65535
wide_total = omega arith

-- seven data blocks and two log blocks
abbrev pub wide : Geometry
wide = record { data_blocks = 7; log_blocks = 2; block_bytes = 64; block_allowed = refl; some_data = seven_data; some_log = two_logs; few_blocks = wide_total }

-- the just-made image of the smaller shape, with two seats, both made
abbrev pub image_a : Origin
image_a = origin_of small 2 2 two_blocks (9 ∷ []) (3 ∷ []) []

-- a step of a seat whose call computes some works before the ask and some after the answer, and then adds some records
abbrev pub step_of : Origin → Core → ℕ → Ask → ℕ → List Work → List Work → List Call → Step
step_of o c seat ask number before later adds = Does seat ask (record {
  before = state_after_all_work (view_of c.views seat).seat before;
  seat = ended adds (state_after_all_work (effect (view_of c.views seat).ghost.marks (state_after_all_work (view_of c.views seat).seat before) (kind_of_ask (q_of_origin o) seat ask) (found_answer c.memory ask)) later);
  adds = adds;
  number = number;
})

-- the core after such a step, which adds no record
abbrev pub stepping : Origin → Core → ℕ → Ask → ℕ → List Work → List Work → Core
stepping o c seat ask number before later = after o c (step_of o c seat ask number before later [])

-- the number of a seat's present call
abbrev pub number_in : Core → ℕ → ℕ
number_in c seat = (view_of c.views seat).ghost.call.number

-- a seat sets and stores the words of the block that it owns at a place, from one of them on
abbrev pub storing : Origin → Core → (seat place block word : ℕ) → List ℕ → Core
storing o c seat place block word [] = c
storing o c seat place block word (value ∷ values) =
    storing o (stepping o c seat (Store (Image (8 * block + word)) value) (number_in c seat) (SetsWord place word value ∷ []) []) seat place block (word + 1) values

-- a seat marks so many words of a block, the last first
abbrev pub marking : Origin → Core → (seat block words : ℕ) → Core
marking o c seat block zero = c
marking o c seat block (suc word) = marking o (stepping o c seat (Mark (8 * block + word)) (number_in c seat) [] []) seat block word

-- the core with another seat in a view, and with another map there
abbrev pub core_with_seat : Core → ℕ → Seat → Core
core_with_seat c seat s = record c { views = slice_set c.views seat (record (view_of c.views seat) { seat = s }) }

abbrev pub with_map : Core → ℕ → List (Option ℕ) → Core
with_map c seat blocks = core_with_seat c seat (record ((view_of c.views seat).seat) { walk = record ((view_of c.views seat).seat.walk) { map = blocks } })

-- the seat with a pin of the second generation
abbrev pub repinned : Seat → Seat
repinned s = record s { hold = record (s.hold) { pin = 2; generation = 2 } }

-- a seat begins a write of one byte at 0 of a file with an empty log in block 3: it pins and walks, takes a block, fills it and fences
abbrev pub pinning : Origin → Core → ℕ → Task → List ℕ → ℕ → Core
pinning o c seat task bytes number =
    stepping o (stepping o (stepping o c seat (Load (Image 3)) number (Begins task bytes ∷ []) []) seat (Store (Pin seat) 1) number [] []) seat (Load (Image 3)) number [] []

abbrev pub walking : Origin → Core → ℕ → Core
walking o c seat = stepping o (stepping o c seat (Load (Image 25)) 1 [] []) seat (Load (Image 27)) 1 (StartsFromLog ∷ []) []

abbrev pub preparing : Origin → Core → (seat block byte : ℕ) → Core
preparing o c seat block byte =
    stepping o (marking o (storing o (stepping o (walking o (pinning o c seat (Pwrite 0) (byte ∷ []) 1) seat) seat (SetBits (Map 0) (2 ^ block)) 1 [] []) seat 0 block 0 (byte ∷ replicate 7 0)) seat block 8)
    seat Fence 1 (CountsFilled 0 ∷ []) []
