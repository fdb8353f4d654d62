-- Where the tail is that an image is cleared after.
use Rattle.std.specs.Prelude.{Bool, ◌&&◌, nat_lt}
use Rattle.log_image.specs.Image.{Shape, words_in, total}
use Rattle.log_image.specs.Tails.{Tail, AtSlot, AtLink}

-- the tail is in a block of the image and, where it is a slot, among its words
abbrev pub is_inside : Shape → Tail → Bool
is_inside shape (AtSlot block slot) = nat_lt block (total shape) && nat_lt slot (words_in shape)
is_inside shape (AtLink block) = nat_lt block (total shape)
