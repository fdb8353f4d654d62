-- What opening answers: the refusal of the first condition that holds, or the chain of an image of which none holds.
use Rattle.std.specs.Prelude.{ℕ, ◌*◌, ◌≡◌, ◌<◌, ◌^◌, List, ◌∷◌, ◌++◌, length, slice_index, Some, None}
use Rattle.log_entry.specs.WordBytes.{word_bytes}
use Rattle.log_image.specs.Image.{Shape}
use Rattle.log_image.specs.Header.{shape_of, head_block}
use Rattle.opening_rules.specs.Checks.{first}
use Rattle.opening_rules.specs.HeaderChecks.{header_checks}
use Rattle.opening_rules.specs.Walks.{Passes, end_place, WalkRefuses}
use Rattle.opening_rules.specs.Slack.{HasNoSlack, FirstSlack}
use Rattle.opening_rules.specs.declared.refusals.BadImage.{BadImage}
use Rattle.opening_rules.specs.declared.refusals.BadImage.TheVariants.{BadSlack}

-- the walk passes, and a byte past the end of the file is not 0
pub record SlackRefuses (words : List ℕ) (shape : Shape) (why : BadImage) : Type 0 where
  pub rest : List ℕ
  pub passes : Passes words shape rest
  pub block : ℕ
  pub slack : FirstSlack words shape (end_place words shape rest).entries (end_place words shape rest).size block
  pub gives : why ≡ BadSlack block

-- the first condition that holds of an image of so many bytes, of which these are the whole words, gives this refusal
pub data Refuses (bytes : ℕ) (words : List ℕ) (why : BadImage) : Type 0 where
  ByHeader : first (header_checks bytes words) ≡ Some why → Refuses bytes words why
  ByWalk : first (header_checks bytes words) ≡ None → WalkRefuses words (shape_of words) why → Refuses bytes words why
  BySlack : first (header_checks bytes words) ≡ None → SlackRefuses words (shape_of words) why → Refuses bytes words why

-- no condition holds; the walk passes the head's block and then these
pub record Accepts (bytes : ℕ) (words rest : List ℕ) : Type 0 where
  pub header : first (header_checks bytes words) ≡ None
  pub passes : Passes words (shape_of words) rest
  pub slack : HasNoSlack words (shape_of words) (end_place words (shape_of words) rest).entries (end_place words (shape_of words) rest).size

-- the chain of an image that is accepted so
abbrev pub chain_of : List ℕ → List ℕ → List ℕ
chain_of words rest = head_block words ∷ rest

-- the whole words of some bytes
pub record AreWordsOf (bytes words : List ℕ) : Type 0 where
  pub rest : List ℕ
  pub bytes_are : bytes ≡ word_bytes words ++ rest
  pub few : length rest < 8
  pub small : (index : ℕ) → slice_index words index < 2 ^ 64

-- the first condition that holds of an image of these bytes gives this refusal
pub record RefusesBytes (bytes : List ℕ) (why : BadImage) : Type 0 where
  pub words : List ℕ
  pub are_words : AreWordsOf bytes words
  pub refuses : Refuses (length bytes) words why

-- no condition holds of an image of these bytes, which are these words; the walk passes the head's block and then these
pub record AcceptsBytes (bytes words rest : List ℕ) : Type 0 where
  pub bytes_are : bytes ≡ word_bytes words
  pub small : (index : ℕ) → slice_index words index < 2 ^ 64
  pub accepts : Accepts (8 * length words) words rest
