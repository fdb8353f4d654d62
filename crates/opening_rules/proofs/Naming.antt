-- Blocks that are named once.
use Rattle.std.proofs.Common.{◌≡◌, ℕ, Bool, true, false, not, ◌&&◌, ◌||◌, ◌==◌, List, [], ◌∷◌, ◌++◌, None, refl, sym, ◌∙◌, subst, append-nil, append_assoc, arith}
use Rattle.std.specs.List.{list_all}
use Rattle.std.proofs.lemmas.Bool.{or_parts, or_from}
use Rattle.std.proofs.lemmas.Bool.Decides.{nat_tests}
use Rattle.std.proofs.lemmas.List.Folds.{list_any-append}
use Rattle.log_image.specs.Chains.{all_different}
use Rattle.opening_rules.specs.Checks.{first}
use Rattle.opening_rules.specs.SlotChecks.{is_named_in, share_checks}
use Rattle.opening_rules.specs.declared.refusals.BadImage.TheVariants.{BadShare}
use Rattle.opening_rules.proofs.Firsts.{skip, clean_here}

other_way : (a b : ℕ) → (a == b) ≡ false → (b == a) ≡ false
other_way a b is = grind (arith, nat_tests)

-- a block at the end of a list that has it not
among_end : (block last : ℕ) (blocks : List ℕ) → is_named_in block blocks ≡ false → (last == block) ≡ false → is_named_in block (blocks ++ last ∷ []) ≡ false
among_end block last blocks none other = list_any-append (λ (b : ℕ). b == block) blocks (last ∷ []) ∙ rw (none, other) refl

pub different_more : (blocks : List ℕ) (block : ℕ) → all_different blocks ≡ true → is_named_in block blocks ≡ false → all_different (blocks ++ block ∷ []) ≡ true
different_more [] block once none = refl
different_more (head ∷ blocks) block once none =
    let fresh : is_named_in head blocks ≡ false = not_true (is_named_in head blocks) (all_different blocks) once in
    let other : ((head == block) ≡ false) × (is_named_in block blocks ≡ false) = or_parts (head == block) (is_named_in block blocks) none in
    rw (among_end head block blocks fresh (other_way head block other.0))
    (different_more blocks block (and_right (not (is_named_in head blocks)) (all_different blocks) once) other.1)
  where
    not_true : (a b : Bool) → (not a && b) ≡ true → a ≡ false
    not_true true b both = cc
    not_true false b both = refl

    and_right : (a b : Bool) → (a && b) ≡ true → b ≡ true
    and_right true b both = both
    and_right false b both = cc

-- where no share is found, the blocks named before and now are all different
pub shares_once : (named blocks : List ℕ) → first (share_checks named blocks) ≡ None → all_different named ≡ true → all_different (named ++ blocks) ≡ true
shares_once named [] clean once = rw append-nil once
shares_once named (block ∷ blocks) clean once =
    let here : (is_named_in block named ≡ false) × (first (share_checks (named ++ block ∷ []) blocks) ≡ None) = clean_here (is_named_in block named) (BadShare block) (share_checks (named ++ block ∷ []) blocks) clean in
    subst (λ (l : List ℕ). all_different l ≡ true) (append_assoc named (block ∷ []) blocks)
    (shares_once (named ++ block ∷ []) blocks here.1 (different_more named block once here.0))

-- none of some blocks is among others
abbrev pub none_among : List ℕ → List ℕ → Bool
none_among blocks others = list_all (λ (block : ℕ). not (is_named_in block others)) blocks

not_so : (a b : Bool) → (not a && b) ≡ true → (a ≡ false) × (b ≡ true)
not_so true b both = cc
not_so false b both = (refl, both)

both_so : (a b : Bool) → a ≡ false → b ≡ true → (not a && b) ≡ true
both_so a b none is = rw none is

-- a block that is not among some with another in their midst
split_among : (block other : ℕ) (before after : List ℕ) → is_named_in block (before ++ other ∷ after) ≡ false → (is_named_in block before ≡ false) × ((other == block) ≡ false)
split_among block other before after none =
    let parts : (is_named_in block before || ((other == block) || is_named_in block after)) ≡ false = sym (list_any-append (λ (b : ℕ). b == block) before (other ∷ after)) ∙ none in
    let both : (is_named_in block before ≡ false) × (((other == block) || is_named_in block after) ≡ false) = or_parts (is_named_in block before) ((other == block) || is_named_in block after) parts in
    (both.0, (or_parts (other == block) (is_named_in block after) both.1).0)

pub none_among_fewer : (blocks others : List ℕ) (last : ℕ) → none_among blocks (others ++ last ∷ []) ≡ true → none_among blocks others ≡ true
none_among_fewer [] others last none = refl
none_among_fewer (block ∷ blocks) others last none =
    let here : (is_named_in block (others ++ last ∷ []) ≡ false) × (none_among blocks (others ++ last ∷ []) ≡ true) = not_so (is_named_in block (others ++ last ∷ [])) (none_among blocks (others ++ last ∷ [])) none in
    both_so (is_named_in block others) (none_among blocks others) (split_among block last others [] here.0).0 (none_among_fewer blocks others last here.1)

pub last_not_among : (blocks others : List ℕ) (last : ℕ) → none_among blocks (others ++ last ∷ []) ≡ true → is_named_in last blocks ≡ false
last_not_among [] others last none = refl
last_not_among (block ∷ blocks) others last none =
    let here : (is_named_in block (others ++ last ∷ []) ≡ false) × (none_among blocks (others ++ last ∷ []) ≡ true) = not_so (is_named_in block (others ++ last ∷ [])) (none_among blocks (others ++ last ∷ [])) none in
    rw (other_way last block (split_among block last others [] here.0).1) (last_not_among blocks others last here.1)

-- of different blocks none is among those before it
pub none_before : (before after : List ℕ) (block : ℕ) → all_different (before ++ block ∷ after) ≡ true → is_named_in block before ≡ false
none_before [] after block once = refl
none_before (head ∷ before) after block once =
    let here : (is_named_in head (before ++ block ∷ after) ≡ false) × (all_different (before ++ block ∷ after) ≡ true) = not_so (is_named_in head (before ++ block ∷ after)) (all_different (before ++ block ∷ after)) once in
    or_from (head == block) (is_named_in block before) (other_way block head (split_among head block before after here.0).1) (none_before before after block here.1)

-- where the blocks named before, these and those after them are all different, no share is found
pub no_share : (named blocks after : List ℕ) → all_different (named ++ (blocks ++ after)) ≡ true → first (share_checks named blocks) ≡ None
no_share named [] after once = refl
no_share named (block ∷ blocks) after once =
    skip (is_named_in block named) (BadShare block) (share_checks (named ++ block ∷ []) blocks) (none_before named (blocks ++ after) block once)
    ∙ no_share (named ++ block ∷ []) blocks after (subst (λ (l : List ℕ). all_different l ≡ true) (sym (append_assoc named (block ∷ []) (blocks ++ after))) once)
