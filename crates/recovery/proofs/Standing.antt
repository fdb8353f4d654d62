-- Where the walk stands between two blocks.
use Rattle.std.proofs.Common.{◌≡◌, ◌<◌, ◌≤◌, ◌+◌, ◌==◌, ◌||◌, ℕ, zero, suc, Bool, true, false, List, [], ◌∷◌, ◌++◌, if◌then◌else◌, Some, None, Ok, Err, refl, sym, ◌∙◌, subst, arith, append_assoc}
use Rattle.std.proofs.lemmas.Bool.{eqb-true}
use Rattle.std.proofs.lemmas.Bool.Decides.{nat_tests}
use Rattle.log_image.specs.Image.{Shape, total, is_in_log, block_words}
use Rattle.log_image.specs.Header.{head_block}
use Rattle.opening_rules.specs.Checks.{first}
use Rattle.opening_rules.specs.SlotChecks.{is_named_in}
use Rattle.opening_rules.specs.BlockChecks.{Place, start, place_after}
use Rattle.opening_rules.specs.Walks.{PassesFrom, RefusesFrom, end_from, Passes, end_place, WalkRefuses}
use Rattle.opening_rules.specs.declared.refusals.BadImage.{BadImage}
use Rattle.recovery.specs.declared.refusals.OpenRefusal.{OpenRefusal}
use Rattle.recovery.specs.declared.refusals.OpenRefusal.TheVariants.{Bad, NoMemory}
use Rattle.recovery.specs.declared.reading.Reading.{Reading}
use Rattle.recovery.specs.Readings.{ReadsUpTo}
use Rattle.recovery.specs.ReadBlocks.{ReadsBlock}
use Rattle.recovery.specs.WalkAnswers.{EndsWalk, WalkAnswers}

-- the numbers below one that are not among these
abbrev pub unseen : List ℕ → ℕ → ℕ
unseen blocks zero = 0
unseen blocks (suc count) = (if is_named_in count blocks then 0 else 1) + unseen blocks count

-- a block that is among some blocks or is one more
pub is_among-more : (block : ℕ) (blocks : List ℕ) (other : ℕ) → is_named_in block (blocks ++ other ∷ []) ≡ (is_named_in block blocks || (other == block))
is_among-more block [] other = at (other == block)
  where
    at : (b : Bool) → (b || false) ≡ (false || b)
    at true = refl
    at false = refl
is_among-more block (first ∷ blocks) other = at (first == block) (is_among-more block blocks other)
  where
    at : (b : Bool) → is_named_in block (blocks ++ other ∷ []) ≡ (is_named_in block blocks || (other == block)) → (b || is_named_in block (blocks ++ other ∷ [])) ≡ ((b || is_named_in block blocks) || (other == block))
    at true same = refl
    at false same = same

-- one more block leaves no more unseen
unseen-more : (blocks : List ℕ) (block count : ℕ) → unseen (blocks ++ block ∷ []) count ≤ unseen blocks count
unseen-more blocks block zero = omega arith
unseen-more blocks block (suc count) = rw (is_among-more count blocks block) (at (is_named_in count blocks) (block == count) (unseen-more blocks block count))
  where
    at : (a b : Bool) → unseen (blocks ++ block ∷ []) count ≤ unseen blocks count
        → (if a || b then 0 else 1) + unseen (blocks ++ block ∷ []) count ≤ (if a then 0 else 1) + unseen blocks count
    at true b fewer = omega arith
    at false true fewer = omega arith
    at false false fewer = omega arith

-- the same where the number at hand is another
unseen-other : (a : Bool) (old new : ℕ) → new < old → (if a || false then 0 else 1) + new < (if a then 0 else 1) + old
unseen-other true old new fewer = omega arith
unseen-other false old new fewer = omega arith

-- one more that was unseen leaves fewer
pub unseen_falls : (blocks : List ℕ) (block count : ℕ) → block < count → is_named_in block blocks ≡ false → unseen (blocks ++ block ∷ []) count < unseen blocks count
unseen_falls blocks block zero below fresh = absurd (omega arith)
unseen_falls blocks block (suc count) below fresh = rw (is_among-more count blocks block) (at (block == count) refl (unseen_falls blocks block count))
  where
    at : (b : Bool) → (block == count) ≡ b → (block < count → is_named_in block blocks ≡ false → unseen (blocks ++ block ∷ []) count < unseen blocks count)
        → (if is_named_in count blocks || b then 0 else 1) + unseen (blocks ++ block ∷ []) count < (if is_named_in count blocks then 0 else 1) + unseen blocks count
    at true is lower =
        let same : block ≡ count = eqb-true block count is in
        let new : is_named_in count blocks ≡ false = subst (λ (b : ℕ). is_named_in b blocks ≡ false) same fresh in
        rw new (omega (arith, unseen-more blocks block count))
    at false is lower =
        let under : block < count = grind (arith, nat_tests, is, below) in
        unseen-other (is_named_in count blocks) (unseen blocks count) (unseen (blocks ++ block ∷ []) count) (lower under fresh)

-- the walk from the head stands at a block: the reading is what the blocks passed come to, and what the walk from here on gives
-- is what the whole walk gives
pub record Standing (words : List ℕ) (shape : Shape) (reading : Reading) (block : ℕ) : Type 0 where
  pub place : Place
  pub agrees : ReadsUpTo shape reading place
  pub inside : is_in_log shape block ≡ true
  pub fresh : is_named_in block place.before ≡ false
  pub refuses : (rest : List ℕ) (why : BadImage) → RefusesFrom words shape place block rest why → WalkRefuses words shape why
  pub passes : (rest : List ℕ) → PassesFrom words shape place block rest → (whole : List ℕ) × Passes words shape whole × (end_place words shape whole ≡ end_from words shape place block rest)

-- before the first block
pub stands_first : (words : List ℕ) (shape : Shape) (reading : Reading) → ReadsUpTo shape reading start → is_in_log shape (head_block words) ≡ true → Standing words shape reading (head_block words)
stands_first words shape reading agrees inside = record {
  place = start;
  agrees = agrees;
  inside = inside;
  fresh = refl;
  refuses = λ rest why refuses. record { rest = rest; refuses = refuses };
  passes = λ rest passes. (rest, passes, refl);
}

-- a block that is refused
pub refused_by : (words : List ℕ) (shape : Shape) (reading new : Reading) (block : ℕ) (refusal : OpenRefusal) (stands : Standing words shape reading block) →
    ReadsBlock (Err refusal) words shape stands.place block new → WalkAnswers (Err refusal) words shape
refused_by words shape reading new block (Bad why) stands reads = stands.refuses [] why reads
refused_by words shape reading new block NoMemory stands reads = tt

-- a block that leads on
pub stands_next : (words : List ℕ) (shape : Shape) (reading new : Reading) (block next : ℕ) (stands : Standing words shape reading block) →
    ReadsBlock (Ok (Some next)) words shape stands.place block new → Standing words shape new next
stands_next words shape reading new block next stands reads = record {
  place = place_after words shape stands.place block (block_words words shape block);
  agrees = reads.5;
  inside = reads.3;
  fresh = reads.4;
  refuses = λ rest why refuses. stands.refuses (next ∷ rest) why (reads.0, reads.1, reads.2, refuses);
  passes = λ rest passes. stands.passes (next ∷ rest) (reads.0, reads.1, reads.2, passes);
}

-- where the reading of another block leaves fewer unseen
pub stands_falls : (words : List ℕ) (shape : Shape) (reading new : Reading) (block next : ℕ) (stands : Standing words shape reading block) →
    ReadsBlock (Ok (Some next)) words shape stands.place block new → unseen new.chain.items (total shape) < unseen reading.chain.items (total shape)
stands_falls words shape reading new block next stands reads =
    let below : block < total shape = grind (arith, nat_tests, stands.inside) in
    rw (reads.5.chain, stands.agrees.chain) (unseen_falls stands.place.before block (total shape) below stands.fresh)

-- the blocks that a walk has passed where it ends
end_before : (words : List ℕ) (shape : Shape) (place : Place) (block : ℕ) (rest : List ℕ) → (end_from words shape place block rest).before ≡ place.before ++ block ∷ rest
end_before words shape place block [] = refl
end_before words shape place block (next ∷ rest) =
    end_before words shape (place_after words shape place block (block_words words shape block)) next rest ∙ append_assoc place.before (block ∷ []) (next ∷ rest)

-- a block that leads on to none
pub stands_last : (words : List ℕ) (shape : Shape) (reading new : Reading) (block : ℕ) (stands : Standing words shape reading block) →
    ReadsBlock (Ok None) words shape stands.place block new → (rest : List ℕ) × EndsWalk words shape new rest
stands_last words shape reading new block stands reads =
    let all = stands.passes [] (reads.0, reads.1) in
    let agrees : ReadsUpTo shape new (end_place words shape all.0) = subst (λ (p : Place). ReadsUpTo shape new p) (sym all.2) reads.2 in
    (all.0, record { passes = all.1; agrees = agrees; chain = agrees.chain ∙ end_before words shape start (head_block words) all.0 })
