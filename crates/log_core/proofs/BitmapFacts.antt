-- What a seat's state tells of the bitmap: its image is the core's, and its words of the bitmap are there.
use Rattle.std.proofs.Common.{◌≡◌, ◌≢◌, ℕ, ◌+◌, ◌<◌, nat_lt, nat_le, true, [], length, ap, arith, subst}
use Rattle.std.proofs.lemmas.Bool.{and_parts, leb-true, ltb-true}
use Rattle.log_entry.specs.declared.shapes.Area.{Area}
use Rattle.log_entry.specs.declared.shapes.Area.TheVariants.{Data, Log, Spare}
use Rattle.log_entry.specs.declared.shapes.Geometry.{Geometry}
use Rattle.log_image.specs.Image.{Shape, total}
use Rattle.pmem_words.specs.Seats.{Seat, bitmap_words}
use Rattle.log_core.specs.Views.{Ghost, view_of}
use Rattle.log_core.specs.Origin.{Origin, shape}
use Rattle.log_core.specs.Cores.{Core}
use Rattle.log_core.specs.Works.{seat_shape}
use Rattle.log_core.specs.Needs.{is_in_area}
use Rattle.log_core.specs.Invariant.{Invariant}
use Rattle.log_core.specs.Knows.{Knows}

-- a block of an area is in the image, and not the header
pub area_inside : (image : Shape) (area : Area) (block : ℕ) → is_in_area image area block ≡ true → (0 < block) × (block < total image)
area_inside image Data block is =
    let parts : (nat_le 1 block ≡ true) × (nat_le block image.data_blocks ≡ true) = and_parts (nat_le 1 block) (nat_le block image.data_blocks) is in
    (omega (arith, leb-true 1 block parts.0), omega (arith, leb-true block image.data_blocks parts.1))
area_inside image Log block is =
    let parts : (nat_lt image.data_blocks block ≡ true) × (nat_le block (image.data_blocks + image.log_blocks) ≡ true) = and_parts (nat_lt image.data_blocks block) (nat_le block (image.data_blocks + image.log_blocks)) is in
    (omega (arith, ltb-true image.data_blocks block parts.0), omega (arith, leb-true block (image.data_blocks + image.log_blocks) parts.1))
area_inside image Spare block is =
    let parts : (nat_lt (image.data_blocks + image.log_blocks) block ≡ true) × (nat_lt block (total image) ≡ true) = and_parts (nat_lt (image.data_blocks + image.log_blocks) block) (nat_lt block (total image)) is in
    (omega (arith, ltb-true (image.data_blocks + image.log_blocks) block parts.0), ltb-true block (total image) parts.1)

module _ (o : Origin) (c : Core) (n : ℕ) (s : Seat) (g : Ghost) (pin began : ℕ) (inv : Invariant o c) (f : Knows o c n s g pin began) (unspent : (view_of c.views n).parts ≢ []) where
  pub same_shape : seat_shape s ≡ shape o
  same_shape = ap (λ (geometry : Geometry). record { data_blocks = geometry.data_blocks; log_blocks = geometry.log_blocks; block_bytes = geometry.block_bytes }) (f.fits unspent).geometry

  pub word_inside : (word : ℕ) → word < length s.blocks.found → word < length c.memory.now.taken
  word_inside word low = (let long : length s.blocks.found ≡ bitmap_words o.geometry = (f.fits unspent).found in let taken = inv.sizes.words.taken in let room = inv.sizes.image.bitmap in omega (arith, low, long, taken, room))

  pub block_inside : (area : Area) (block : ℕ) → is_in_area (seat_shape s) area block ≡ true → (0 < block) × (block < total (shape o))
  block_inside area block is = area_inside (shape o) area block (subst (λ (image : Shape). is_in_area image area block ≡ true) same_shape is)
