-- What the bytes of an image are to a command that reads it, and to one that makes it.
use Rattle.std.specs.Prelude.{ℕ, ◌+◌, ◌*◌, ◌≡◌, ◌≤◌, ◌<◌, ◌⊎◌, List, [], ◌++◌, length, codes, decimal}
use Rattle.log_entry.specs.WordBytes.{word_bytes}
use Rattle.log_image.specs.Image.{Shape, words_in, total}
use Rattle.log_image.specs.Header.{shape_of}
use Rattle.log_image.specs.Stands.{StandsBy}
use Rattle.log_image.specs.Tails.{tail_of, IsCleared}
use Rattle.log_image.specs.JustMade.{IsJustMade}
use Rattle.opening_rules.specs.Opening.{RefusesBytes, AcceptsBytes, chain_of}
use Rattle.opening_rules.specs.declared.refusals.BadImage.{BadImage}
use Rattle.opening_rules.specs.declared.refusals.BadImage.TheVariants.{Long}
use Rattle.image_tools.specs.DumpText.{dump_text}

-- the most bytes that an image may have
abbrev pub image_limit : ℕ
image_limit = 268431360

-- the bytes are refused as an image, for this: they are too many for any, or opening refuses them
abbrev pub RefusesImage : List ℕ → BadImage → Type 0
RefusesImage bytes why = ((image_limit < length bytes) × (why ≡ Long (image_limit + 1))) ⊎ ((length bytes ≤ image_limit) × RefusesBytes bytes why)

-- the bytes are the words of an image that opens, by this chain, and clearing makes these words of it
pub record Clears (bytes chain cleared : List ℕ) : Type 0 where
  pub words : List ℕ
  pub rest : List ℕ
  pub accepts : AcceptsBytes bytes words rest
  pub chain_is : chain ≡ chain_of words rest
  pub cleared_is : IsCleared (shape_of words) (tail_of words (shape_of words) chain) words cleared

-- the same by some chain
pub record OpensTo (bytes cleared : List ℕ) : Type 0 where
  pub chain : List ℕ
  pub clears : Clears bytes chain cleared

-- the bytes are no more than an image may have, and the words of one that opens, and they stand for this file at this position
pub record IsFileAt (bytes file : List ℕ) (position : ℕ) : Type 0 where
  pub few : length bytes ≤ image_limit
  pub words : List ℕ
  pub rest : List ℕ
  pub accepts : AcceptsBytes bytes words rest
  pub stands : StandsBy words (chain_of words rest) file position

-- the same at some position
abbrev pub IsFileOf : List ℕ → List ℕ → Type 0
IsFileOf bytes file = (position : ℕ) × IsFileAt bytes file position

-- the bytes are an image that opens, and the text shows what opening and clearing make of it
pub record IsDumpOf (bytes text : List ℕ) : Type 0 where
  pub chain : List ℕ
  pub cleared : List ℕ
  pub clears : Clears bytes chain cleared
  pub text_is : text ≡ dump_text cleared (shape_of cleared) chain

-- the line that says how large an image of this shape is
abbrev pub made_text : Shape → List ℕ
made_text shape = codes "blocks " ++ decimal (total shape) ++ codes " bytes " ++ decimal (8 * (total shape * words_in shape)) ++ codes "\n"

-- the bytes are a just-made image of this shape, which opens to the empty file at position 0
pub record IsNewImage (shape : Shape) (bytes : List ℕ) : Type 0 where
  pub words : List ℕ
  pub just_made : IsJustMade shape words
  pub bytes_are : bytes ≡ word_bytes words
  pub opens : IsFileAt bytes [] 0
