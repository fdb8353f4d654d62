-- Worked images that stand for nothing, and an entry that does not count.
use Rattle.std.proofs.Common.{◌≡◌, ℕ, ◌+◌, ◌^◌, true, false, List, [], ◌∷◌, length, get_or, refl, sym, subst, arith}
use Rattle.std.proofs.lemmas.List.{get_or_past}
use Rattle.log_image.specs.Header.{shape_of}
use Rattle.log_image.specs.Image.{block_words}
use Rattle.log_image.specs.Blocks.{leads_on, link_of}
use Rattle.log_image.specs.Chains.{all_different, IsLinked}
use Rattle.log_image.specs.Stands.{StandsBy, Stands}
use Rattle.log_image.specs.Rows.{with_words, two_blocks, collected, with_runs, one_byte, behind_tail, StandForNothing, BehindTail, WrongHeader, SealFirst, LinkInCircle, BlockNamedTwice, BytePastEnd, BaseOffByOne, BaseAfterSnapshot, BlockNotInData, UnnamedBit, RunsDoNotAddUp}
use Rattle.log_image.proofs.OneChain.{one_linked, one_meaning}
use Rattle.log_image.proofs.JustMadeRows.{holds_nothing}

-- words that stand for a file do it by the chain that their links make
by_links : (words chain : List ℕ) → IsLinked words (shape_of words) chain → (file : List ℕ) (position : ℕ) → Stands words file position → StandsBy words chain file position
by_links words chain linked file position stands =
    subst (λ (l : List ℕ). StandsBy words l file position) (one_linked words (shape_of words) stands.0 chain stands.1.stands.is_chain.linked linked) stands.1

-- what is not so by the chain that the links make
nothing_by : (words chain : List ℕ) → IsLinked words (shape_of words) chain → ((file : List ℕ) (position : ℕ) → StandsBy words chain file position → ⊥) → StandForNothing words
nothing_by words chain linked none file position stands = none file position (by_links words chain linked file position stands)

pub wrong_header : WrongHeader
wrong_header = (
  λ file position stands. omega (arith, stands.1.header.magic),
  λ file position stands. omega (arith, stands.1.header.version),
  λ file position stands. omega (arith, stands.1.header.generation),
  λ file position stands. omega (arith, stands.1.header.whole),
)

pub seal_first : SealFirst
seal_first = nothing_by (with_words ((27, 3) ∷ []) two_blocks) (3 ∷ []) (refl, refl) (λ file position stands. cc)

-- a chain that comes to a block again has it twice
no_circle : (chain : List ℕ) → IsLinked (with_words ((27, one_byte) ∷ (28, 3) ∷ (24, 3) ∷ []) two_blocks) (shape_of two_blocks) chain → all_different chain ≡ true → ⊥
no_circle [] linked different = linked
no_circle (first ∷ []) linked different =
    let ends : leads_on (block_words (with_words ((27, one_byte) ∷ (28, 3) ∷ (24, 3) ∷ []) two_blocks) (shape_of two_blocks) 3) ≡ false =
    subst (λ (b : ℕ). leads_on (block_words (with_words ((27, one_byte) ∷ (28, 3) ∷ (24, 3) ∷ []) two_blocks) (shape_of two_blocks) b) ≡ false) (sym linked.0) linked.1 in
    cc
no_circle (first ∷ next ∷ rest) linked different =
    let named : link_of (block_words (with_words ((27, one_byte) ∷ (28, 3) ∷ (24, 3) ∷ []) two_blocks) (shape_of two_blocks) 3) ≡ next =
    subst (λ (b : ℕ). link_of (block_words (with_words ((27, one_byte) ∷ (28, 3) ∷ (24, 3) ∷ []) two_blocks) (shape_of two_blocks) b) ≡ next) (sym linked.0) linked.1.1 in
    let twice : all_different (3 ∷ 3 ∷ rest) ≡ true =
    subst (λ (b : ℕ). all_different (3 ∷ b ∷ rest) ≡ true) (sym named) (subst (λ (b : ℕ). all_different (b ∷ next ∷ rest) ≡ true) (sym linked.0) different) in
    cc

pub link_in_circle : LinkInCircle
link_in_circle file position stands = no_circle stands.0 stands.1.stands.is_chain.linked stands.1.stands.is_chain.different

pub block_named_twice : BlockNamedTwice
block_named_twice = nothing_by (with_words ((27, one_byte) ∷ (28, one_byte) ∷ []) two_blocks) (3 ∷ []) (refl, refl) (λ file position stands. cc)

pub byte_past_end : BytePastEnd
byte_past_end = nothing_by (with_words ((27, one_byte) ∷ (8, 256) ∷ []) two_blocks) (3 ∷ []) (refl, refl) (λ file position stands.
    let read : 1 ≡ get_or file 1 0 = stands.stands.holds.mapped 0 1 refl 1 (omega arith) in
    let long : 1 ≡ length file = stands.stands.ends_with in
    omega (arith, read, get_or_past file 1 0 (omega (arith, long))))

pub base_off_by_one : BaseOffByOne
base_off_by_one = nothing_by (with_words ((25, 4611686018427387905) ∷ []) two_blocks) (3 ∷ []) (refl, refl) (λ file position stands. omega (arith, stands.stands.is_chain.logs.1))

pub base_after_snapshot : BaseAfterSnapshot
base_after_snapshot = nothing_by (with_words ((33, 4611686018427387907) ∷ []) collected) (5 ∷ 4 ∷ []) (refl, (refl, refl, refl)) (λ file position stands. omega (arith, stands.stands.is_chain.logs.1))

pub block_not_in_data : BlockNotInData
block_not_in_data = nothing_by (with_words ((27, 277076930985985) ∷ []) two_blocks) (3 ∷ []) (refl, refl) (λ file position stands. cc)

pub unnamed_bit : UnnamedBit
unnamed_bit = nothing_by (with_words ((27, 277076930461697 + 2 ^ 54) ∷ []) two_blocks) (3 ∷ []) (refl, refl) (λ file position stands. cc)

pub runs_do_not_add_up : RunsDoNotAddUp
runs_do_not_add_up = nothing_by (with_words ((40, 8590131204) ∷ []) with_runs) (11 ∷ 10 ∷ []) (refl, (refl, refl, refl)) (λ file position stands. cc)

-- the entry behind the tail is in no chain
pub stands_behind_by : StandsBy behind_tail (3 ∷ []) [] 0
stands_behind_by = record {
  header = record { magic = refl; version = refl; unnamed = refl; allowed = refl; whole = refl; head_unnamed = refl; generation = omega arith };
  stands = record {
    is_chain = record { linked = (refl, refl); different = refl; snapshots = tt; logs = (refl, refl, tt) };
    format = record { areas = refl; kinds = refl; snapshots = refl; logs = refl; named_once = refl; below_limit = omega arith };
    ends_at = refl;
    ends_with = refl;
    holds = holds_nothing behind_tail (shape_of behind_tail);
  };
}

stands_behind : Stands behind_tail [] 0
stands_behind = (3 ∷ [], stands_behind_by)

pub entry_behind_tail : BehindTail
entry_behind_tail = (
  stands_behind,
  λ file position stands. (one_meaning behind_tail stands.0 stands_behind.0 file [] position 0 stands.1 stands_behind.1).2,
  refl,
  refl,
  refl,
  refl,
  refl,
)
