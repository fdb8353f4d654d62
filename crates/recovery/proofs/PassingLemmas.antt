-- What the header, the walk and the look for slack come to together.
use Rattle.std.proofs.Common.{◌≡◌, ◌<◌, ◌≤◌, ◌-◌, ◌*◌, nat_le, ℕ, zero, suc, Bool, true, false, List, [], ◌∷◌, ◌++◌, length, if◌then◌else◌, Option, Some, None, Ok, Err, refl, sym, ◌∙◌, subst, arith, inl, inr, ◌⊎◌}
use Rattle.std.specs.List.{list_all, slice_get}
use Rattle.std.specs.Option.{option_or}
use Rattle.std.proofs.lemmas.Bool.Decides.{nat_tests}
use Rattle.log_entry.specs.declared.shapes.Geometry.{Geometry}
use Rattle.log_image.specs.Image.{Shape, total, is_in_data, shape_by}
use Rattle.log_image.specs.Header.{shape_of}
use Rattle.log_image.specs.Entries.{Meaning, names, all_names}
use Rattle.log_image.specs.Maps.{block_in, map_of}
use Rattle.log_image.proofs.HoldingLemmas.{both_left, both_right}
use Rattle.chain_reader.specs.Tables.{HasMap}
use Rattle.opening_rules.specs.Checks.{first}
use Rattle.opening_rules.specs.HeaderChecks.{header_checks}
use Rattle.opening_rules.specs.BlockChecks.{Place}
use Rattle.opening_rules.specs.Walks.{end_place}
use Rattle.opening_rules.specs.Slack.{HasNoSlack, FirstSlack}
use Rattle.opening_rules.specs.Opening.{SlackRefuses, Refuses, ByWalk, BySlack}
use Rattle.opening_rules.specs.declared.refusals.BadImage.TheVariants.{BadSlack}
use Rattle.recovery.specs.declared.refusals.OpenRefusal.{OpenRefusal}
use Rattle.recovery.specs.declared.refusals.OpenRefusal.TheVariants.{Bad, NoMemory}
use Rattle.recovery.specs.declared.reading.Reading.{Reading}
use Rattle.recovery.specs.Readings.{ReadsUpTo}
use Rattle.recovery.specs.WalkAnswers.{EndsWalk, WalkAnswers}
use Rattle.recovery.specs.Slacks.{MapsInside}
use Rattle.recovery.specs.Passing.{PassesConditions, PassAnswers}

-- what each of two parts is, all of them are, and the other way round
all_left : (p : ℕ → Bool) (blocks others : List ℕ) → list_all p (blocks ++ others) ≡ true → list_all p blocks ≡ true
all_left p [] others all = refl
all_left p (block ∷ blocks) others all =
    rw (both_left (p block) (list_all p (blocks ++ others)) all) (all_left p blocks others (both_right (p block) (list_all p (blocks ++ others)) all))

all_right : (p : ℕ → Bool) (blocks others : List ℕ) → list_all p (blocks ++ others) ≡ true → list_all p others ≡ true
all_right p [] others all = all
all_right p (block ∷ blocks) others all = all_right p blocks others (both_right (p block) (list_all p (blocks ++ others)) all)

-- what all blocks are, the one at a place is
at_place : (p : ℕ → Bool) (blocks : List ℕ) (place block : ℕ) → list_all p blocks ≡ true → slice_get blocks place ≡ Some block → p block ≡ true
at_place p [] place block all found = cc
at_place p (first ∷ blocks) zero block all found = let same : first ≡ block = cc in subst (λ (n : ℕ). p n ≡ true) same (both_left (p first) (list_all p blocks) all)
at_place p (first ∷ blocks) (suc place) block all found = at_place p blocks place block (both_right (p first) (list_all p blocks) all) found

-- what all blocks of an entry are, the one of a virtual block is
in_entry : (p : ℕ → Bool) (entry : Meaning) (virt block : ℕ) → list_all p entry.blocks ≡ true → block_in entry virt ≡ Some block → p block ≡ true
in_entry p entry virt block all found = at (nat_le entry.virt virt) found
  where
    at : (named : Bool) → (if named then slice_get entry.blocks (virt - entry.virt) else None) ≡ Some block → p block ≡ true
    at true is = at_place p entry.blocks (virt - entry.virt) block all is
    at false is = cc

one_of : (one other : Option ℕ) (block : ℕ) → option_or one other ≡ Some block → (one ≡ Some block) ⊎ (other ≡ Some block)
one_of None other block found = inr found
one_of (Some first) other block found = inl found

-- what all named blocks are, the mapped ones are
mapped_named : (p : ℕ → Bool) (entries : List Meaning) (virt block : ℕ) → list_all p (all_names entries) ≡ true → map_of entries virt ≡ Some block → p block ≡ true
mapped_named p [] virt block all found = cc
mapped_named p (entry ∷ entries) virt block all found =
    elim (one_of (map_of entries virt) (block_in entry virt) block found) [
      | inl later ↦ mapped_named p entries virt block (all_right p (names entry) (all_names entries) all) later
      | inr here ↦ in_entry p entry virt block (all_right p entry.holder entry.blocks (all_left p (names entry) (all_names entries) all)) here
    ]

-- the table of a reading maps to blocks of the image
pub maps_inside : (shape : Shape) (reading : Reading) (place : Place) → ReadsUpTo shape reading place → MapsInside shape reading.table
maps_inside shape reading place agrees = record { each = λ virt block found. inside block (mapped_named (is_in_data shape) place.entries virt block agrees.in_data (sym (agrees.map.each virt) ∙ found)) }
  where
    inside : (block : ℕ) → is_in_data shape block ≡ true → block < total shape
    inside block is = grind (arith, nat_tests, is)

-- the walk refuses the image
pub refused_by_walk : (bytes : ℕ) (words : List ℕ) (shape : Shape) (refusal : OpenRefusal) → first (header_checks bytes words) ≡ None → shape ≡ shape_of words →
    WalkAnswers (Err refusal) words shape → PassAnswers (Err refusal) bytes words
refused_by_walk bytes words shape (Bad why) header same walk = ByWalk header (rw same at walk)
refused_by_walk bytes words shape NoMemory header same walk = tt

-- a byte past the end of the file is not 0
pub refused_by_slack : (bytes : ℕ) (words : List ℕ) (shape : Shape) (reading : Reading) (block : ℕ) → first (header_checks bytes words) ≡ None → shape ≡ shape_of words →
    WalkAnswers (Ok reading) words shape → ((entries : List Meaning) → HasMap reading.table entries → FirstSlack words shape entries reading.table.size block) → Refuses bytes words (BadSlack block)
refused_by_slack bytes words shape reading block header same walk slack =
    let ends : EndsWalk words shape reading walk.0 = walk.1 in
    let here : FirstSlack words shape (end_place words shape walk.0).entries (end_place words shape walk.0).size block =
    subst (λ (size : ℕ). FirstSlack words shape (end_place words shape walk.0).entries size block) ends.agrees.size (slack (end_place words shape walk.0).entries ends.agrees.map) in
    BySlack header (subst (λ (s : Shape). SlackRefuses words s (BadSlack block)) same (record { rest = walk.0; passes = ends.passes; block = block; slack = here; gives = refl }))

-- no condition holds
pub all_passed : (bytes : ℕ) (words : List ℕ) (geometry : Geometry) (reading : Reading) → first (header_checks bytes words) ≡ None → shape_by geometry ≡ shape_of words → bytes ≡ 8 * length words → 4 ≤ length words →
    WalkAnswers (Ok reading) words (shape_by geometry) → ((entries : List Meaning) → HasMap reading.table entries → HasNoSlack words (shape_by geometry) entries reading.table.size) → PassesConditions bytes words geometry reading
all_passed bytes words geometry reading header same exact long walk none =
    let ends : EndsWalk words (shape_by geometry) reading walk.0 = walk.1 in
    let here : HasNoSlack words (shape_by geometry) (end_place words (shape_by geometry) walk.0).entries (end_place words (shape_by geometry) walk.0).size =
    subst (λ (size : ℕ). HasNoSlack words (shape_by geometry) (end_place words (shape_by geometry) walk.0).entries size) ends.agrees.size (none (end_place words (shape_by geometry) walk.0).entries ends.agrees.map) in
    let ends_here : EndsWalk words (shape_of words) reading walk.0 = subst (λ (s : Shape). EndsWalk words s reading walk.0) same ends in
    record {
      rest = walk.0;
      accepts = record { header = header; passes = ends_here.passes; slack = subst (λ (s : Shape). HasNoSlack words s (end_place words s walk.0).entries (end_place words s walk.0).size) same here };
      ends = ends_here;
      shape = same;
      exact = exact;
      long = long;
    }
