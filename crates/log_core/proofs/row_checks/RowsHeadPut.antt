-- Rows of a collection that puts its head in place.
use Rattle.std.proofs.Common.{◌≡◌, ◌==◌, ◌&&◌, ◌||◌, ◌+◌, ℕ, zero, suc, Bool, true, false, not, if◌then◌else◌, List, [], ◌∷◌, length, map, slice_set, refl, ◌∙◌, ap, subst, arith, Option, None, Some}
use Rattle.std.proofs.lemmas.Bool.{false≢true, true≢false, or_parts, or_from}
use Rattle.std.proofs.lemmas.Bool.Decides.{nat_tests}
use Rattle.std.specs.Option.{option_or}
use Rattle.log_image.specs.Chains.{is_listed}
use Rattle.log_image.specs.Image.{is_in_log}
use Rattle.log_image.specs.Entries.{Meaning, direct_meaning}
use Rattle.log_image.specs.Maps.{block_in}
use Rattle.log_image.proofs.HoldingLemmas.{names_none}
use Rattle.pmem_words.specs.Maps.{listed, unmapped}
use Rattle.pmem_words.specs.Seats.{Seat}
use Rattle.asks.specs.declared.ask.Ask.TheVariants.{Exchange}
use Rattle.asks.specs.declared.ask.Place.TheVariants.{Image}
use Rattle.log_core.specs.Views.{view_of}
use Rattle.log_core.specs.Origin.{InChain, LeftTo}
use Rattle.log_core.specs.Cores.{Core}
use Rattle.log_core.specs.Works.{NotesNamed, state_after_work, with_entry_from, with_entry}
use Rattle.log_core.specs.Steps.{is_block, is_mapped, replaced_by}
use Rattle.log_core.specs.After.{owner_if}
use Rattle.log_core.specs.May.{MayExchangeHead, is_fenced}
use Rattle.log_core.specs.Runs.{IsReached}
use Rattle.log_core.specs.worked_rows.Samples.{image_a, small_shape}
use Rattle.log_core.specs.worked_rows.Rows.{to_first}
use Rattle.log_core.specs.worked_rows.Collecting.{other_fenced, head_put, HeadRuns}
use Rattle.log_core.proofs.row_checks.RowChecks.{in_all}
use Rattle.log_core.proofs.row_checks.RowsStart.{image_starts}
use Rattle.log_core.proofs.row_checks.RowsWrong.{one_part}
use Rattle.log_core.proofs.row_checks.RowsAllowed.{step_reached}
use Rattle.log_core.proofs.row_checks.RowsReached.{reached_holds}
use Rattle.log_core.proofs.row_checks.RowsCollecting.{other_fenced_reached}

-- a map of no block, with an entry that does not name a block, does not either
none_listed : (first count block : ℕ) → is_mapped (listed first count (λ virt. None)) block ≡ false
unfolding listed
none_listed first zero block = refl
none_listed first (suc count) block = none_listed (first + 1) count block

not_held : (held other : Option ℕ) (block : ℕ) → is_block block held ≡ false → is_block block other ≡ false → is_block block (option_or held other) ≡ false
not_held None other block unlike none = none
not_held (Some number) other block unlike none = unlike

none_entered : (meaning : Meaning) (block : ℕ) → ((virt : ℕ) → is_block block (block_in meaning virt) ≡ false) → (first : ℕ) (blocks : List (Option ℕ)) → is_mapped blocks block ≡ false →
    is_mapped (with_entry_from first meaning blocks) block ≡ false
none_entered meaning block unlike first [] none = refl
none_entered meaning block unlike first (held ∷ blocks) none =
    let held_parts = or_parts (is_block block held) (is_mapped blocks block) none in
    or_from (is_block block (option_or (block_in meaning first) held)) (is_mapped (with_entry_from (first + 1) meaning blocks) block)
    (not_held (block_in meaning first) held block (unlike first) held_parts.0) (none_entered meaning block unlike (first + 1) blocks held_parts.1)

-- the entry of block 1 alone
abbrev pub own_map : List (Option ℕ)
own_map = with_entry (direct_meaning to_first) unmapped

pub first_mapped : is_mapped own_map 1 ≡ true
unfolding unmapped listed
first_mapped = refl

others_unnamed : (block : ℕ) → (1 == block) ≡ false → (virt : ℕ) → is_block block (block_in (direct_meaning to_first) virt) ≡ false
others_unnamed block other zero = other
others_unnamed block other (suc virt) = ap (λ (held : Option ℕ). is_block block held) (names_none (direct_meaning to_first) (suc virt) (omega arith))

pub others_unmapped : (block : ℕ) → (1 == block) ≡ false → is_mapped own_map block ≡ false
unfolding unmapped
others_unmapped block other = none_entered (direct_meaning to_first) block (others_unnamed block other) 0 unmapped (none_listed 0 65536 block)

-- of the blocks 1, 3 and 4, of which the map has the first, and the last is the tail's, the second is left
abbrev pub left_if : Bool → Bool → ℕ → List ℕ → List ℕ
left_if mapped at_tail block rest = if not mapped && not at_tail then block ∷ rest else rest

pub one_left : (first second third : Bool) → first ≡ true → second ≡ false → third ≡ false → left_if first false 1 (left_if second false 3 (left_if third true 4 [])) ≡ 3 ∷ []
one_left true false false is_first is_second is_third = refl
one_left true false true is_first is_second is_third = absurd (true≢false is_third)
one_left true true third is_first is_second is_third = absurd (true≢false is_second)
one_left false second third is_first is_second is_third = absurd (false≢true is_first)

-- seat 0 as it is at its exchange
abbrev collector : Seat
collector = state_after_work (view_of other_fenced.views 0).seat (NotesNamed (26 ∷ []))

collector_replaces : replaced_by collector ≡ 3 ∷ []
collector_replaces = one_left (is_mapped own_map 1) (is_mapped own_map 3) (is_mapped own_map 4) first_mapped (others_unmapped 3 refl) (others_unmapped 4 refl)

-- what the first generation names and the second does not
pub left_over : (block : ℕ) → ((3 == block) || false) ≡ (((3 == block) || ((4 == block) || ((1 == block) || false))) && not ((5 == block) || ((4 == block) || ((1 == block) || false))))
left_over block = grind (arith, nat_tests)

may_put : MayExchangeHead image_a other_fenced (view_of other_fenced.views 0).ghost collector 4294967299 8589934597
may_put = record {
  valid = refl;
  ready = refl;
  at_tail = refl;
  job = refl;
  not_put = refl;
  nothing_left = refl;
  pinned = refl;
  generation = refl;
  below_limit = omega arith;
  next_is = refl;
  above = omega arith;
  cut = refl;
  cut_block = refl;
  owned = λ block named. in_all (λ b. is_fenced collector.blocks.owned b) (5 ∷ []) block refl named;
  in_log = λ block named. in_all (λ b. is_in_log small_shape b) (5 ∷ []) block refl named;
  once = refl;
  snapshot = record { some = omega arith; words = (refl, refl, refl, refl, tt); map_is = λ virt. refl };
  apart = (λ virt touched. refl, tt);
  replaced = λ block. ap (λ (blocks : List ℕ). is_listed blocks block) collector_replaces ∙ left_over block;
}

pub head_reached : IsReached image_a head_put
head_reached = step_reached image_a other_fenced 0 2 (Exchange (Image 3) 4294967299 8589934597) (NotesNamed (26 ∷ []) ∷ []) other_fenced_reached (omega arith) (one_part 0) (refl, tt) refl may_put

-- a core after an exchange of the head by seat 0, for a snapshot in block 5, with these blocks as those that it replaced
abbrev pub with_replaced : (before after : Core) → List ℕ → Core
with_replaced before after blocks = record after {
  views = slice_set before.views 0 (record (view_of after.views 0) {
    seat = record ((view_of after.views 0).seat) { giving = record ((view_of after.views 0).seat.giving) { replaced = blocks } };
    ghost = record ((view_of after.views 0).ghost) { call = record ((view_of after.views 0).ghost.call) { put = Some (record { generation = 2; base = 1; replaced = length blocks; limbo = 0 }) } };
  });
  owner = λ block. owner_if true (5 ∷ []) InChain (owner_if true blocks (LeftTo 0) (before.owner block) block) block;
}

abbrev pub put_core : Core
put_core = with_replaced other_fenced head_put (3 ∷ [])

pub head_put_is : head_put ≡ put_core
head_put_is = ap (λ (blocks : List ℕ). with_replaced other_fenced head_put blocks) collector_replaces

pub put_core_reached : IsReached image_a put_core
put_core_reached = subst (λ (c : Core). IsReached image_a c) head_put_is head_reached

pub head_runs : HeadRuns
head_runs = (
  head_reached,
  reached_holds image_a head_put image_starts head_reached,
  refl,
  refl,
  refl,
  refl,
  refl,
  collector_replaces,
  refl,
  refl,
  ap (λ (c : Core). (view_of c.views 0).ghost.call.put) head_put_is,
  ap (λ (c : Core). map c.owner (0 ∷ 1 ∷ 2 ∷ 3 ∷ 4 ∷ 5 ∷ 6 ∷ [])) head_put_is,
  refl,
  refl,
)
