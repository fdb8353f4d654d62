-- How a refusal of an image is printed: its name, and its numbers each after a space.
use Rattle.std.specs.Prelude.{ℕ, List, ◌++◌, codes, decimal}
use Rattle.opening_rules.specs.declared.refusals.BadImage.{BadImage}
use Rattle.opening_rules.specs.declared.refusals.BadImage.TheVariants.{Short, BadMagic, BadVersion, BadGeometry, BadHead, BadLink, BadBase, BadEntry, BadShare, BadSlack, Long}

abbrev pub bad_image_text : BadImage → List ℕ
bad_image_text (Short bytes) = codes "Short " ++ decimal bytes
bad_image_text BadMagic = codes "BadMagic"
bad_image_text (BadVersion value) = codes "BadVersion " ++ decimal value
bad_image_text BadGeometry = codes "BadGeometry"
bad_image_text (BadHead word) = codes "BadHead " ++ decimal word
bad_image_text (BadLink block word) = codes "BadLink " ++ decimal block ++ codes " " ++ decimal word
bad_image_text (BadBase block word) = codes "BadBase " ++ decimal block ++ codes " " ++ decimal word
bad_image_text (BadEntry block slot word) = codes "BadEntry " ++ decimal block ++ codes " " ++ decimal slot ++ codes " " ++ decimal word
bad_image_text (BadShare block) = codes "BadShare " ++ decimal block
bad_image_text (BadSlack block) = codes "BadSlack " ++ decimal block
bad_image_text (Long bytes) = codes "Long " ++ decimal bytes
