-- Rows of blocks that are given back, and of a sync.
use Rattle.std.proofs.Common.{◌≡◌, ◌⊎◌, ◌≤◌, ◌<◌, ◌||◌, ◌==◌, ◌∙◌, ℕ, zero, suc, Bool, true, false, List, [], length, refl, sym, inl, inr, arith, ap}
use Rattle.std.proofs.lemmas.Bool.{false≢true, true≢false}
use Rattle.pmem_words.specs.Owned.{is_among}
use Rattle.pmem_words.specs.Seats.{Seat}
use Rattle.log_image.specs.Chains.{is_listed}
use Rattle.log_core.specs.Views.{View, view_of}
use Rattle.log_core.specs.Origin.{Origin, Generation}
use Rattle.log_core.specs.Cores.{IsKept, IsPinned}
use Rattle.log_core.specs.Needs.{owned_numbers}
use Rattle.log_core.specs.May.{MayClearBits, AreGivenBack, OfOwned, OfReplaced, OfLimbo, IsClearScan}
use Rattle.log_core.specs.worked_rows.Rows.{collected, scan_held, scan_clear, KeptUntilUnpinned, BitsCleared, BitsNotCleared, CollectEnds, SyncEnds}
use Rattle.log_core.proofs.row_checks.RowTells.{limbo_of, is_put, said, none_not_some}
use Rattle.log_core.proofs.row_checks.RowsTaken.{all_among}

-- what is neither at a head that a crash may leave nor pinned is not kept
pub unkept : (o : Origin) (generations : List Generation) (floor : ℕ) (views : List View) (place : ℕ) → (floor ≤ place → ⊥) → ((seat : ℕ) → (view_of views seat).seat.hold.valid ≡ true → ⊥) → IsKept o generations floor views place → ⊥
unkept o generations floor views place below free k = go k.why
  where
    go : (floor ≤ place) ⊎ IsPinned o views place → ⊥
    go (inl above) = below above
    go (inr pinned) = free pinned.seat pinned.valid

free_clear : (seat : ℕ) → (view_of scan_clear.views seat).seat.hold.valid ≡ true → ⊥
free_clear zero valid = false≢true valid
free_clear (suc zero) valid = false≢true valid
free_clear (suc (suc seat)) valid = false≢true valid

pub kept_until_unpinned : KeptUntilUnpinned
kept_until_unpinned = (
  refl,
  refl,
  refl,
  refl,
  record { inside = omega arith; why = inl (omega arith) },
  unkept _ _ 1 [] 0 (λ above. omega (arith, above)) (λ seat valid. false≢true valid),
  record { inside = omega arith; why = inr (record { seat = 0; valid = refl; same = refl }) },
  record { inside = omega arith; why = inr (record { seat = 1; valid = refl; same = refl }) },
  unkept _ _ 1 scan_clear.views 0 (λ above. omega (arith, above)) free_clear,
  record { inside = omega arith; why = inl (omega arith) },
)

each_clear : (seat : ℕ) → seat < 2 → (Rattle.std.specs.Prelude.slice_index (view_of scan_clear.views 0).seat.giving.pins_seen seat ≡ 0) ⊎ (1 < Rattle.std.specs.Prelude.slice_index (view_of scan_clear.views 0).seat.giving.pins_seen seat)
each_clear zero less = inl refl
each_clear (suc zero) less = inl refl
each_clear (suc (suc seat)) less = absurd (omega (arith, less))

pub bits_cleared : BitsCleared
bits_cleared = (
  refl,
  record { inside = omega arith; small = omega arith; given = OfReplaced (all_among 8 (λ block. is_listed (view_of scan_clear.views 0).seat.giving.replaced block) refl) refl (record { whole = refl; each = each_clear }) },
  refl,
  refl,
  refl,
  record { inside = omega arith; small = omega arith; given = OfOwned (all_among 4 (λ block. is_listed (owned_numbers (view_of collected.views 1).seat.blocks.owned) block) refl) },
  refl,
  refl,
  refl,
  refl,
)

-- a block that is neither owned nor kept from earlier, and may not be given back of the replaced ones
none_given : (s : Seat) (bits block : ℕ) → is_among 0 bits block ≡ true → is_listed (owned_numbers s.blocks.owned) block ≡ false → is_listed s.giving.limbo block ≡ false
    → (is_listed s.giving.replaced block ≡ true → s.giving.head_fenced ≡ true → IsClearScan s 2 s.giving.replaced_generation → ⊥) → AreGivenBack s 2 0 bits → ⊥
none_given s bits block among owned limbo replaced (OfOwned all) = false≢true (sym owned ∙ all block among)
none_given s bits block among owned limbo replaced (OfReplaced all sure scan) = replaced (all block among) sure scan
none_given s bits block among owned limbo replaced (OfLimbo all scan) = false≢true (sym limbo ∙ all block among)

pub no_clear : (s : Seat) (bits block : ℕ) → is_among 0 bits block ≡ true → is_listed (owned_numbers s.blocks.owned) block ≡ false → is_listed s.giving.limbo block ≡ false
    → (is_listed s.giving.replaced block ≡ true → s.giving.head_fenced ≡ true → IsClearScan s 2 s.giving.replaced_generation → ⊥) → MayClearBits s 2 0 bits → ⊥
no_clear s bits block among owned limbo replaced may = none_given s bits block among owned limbo replaced may.given

pub held_by : (pin : ℕ) → pin ≡ 1 → (pin ≡ 0) ⊎ (1 < pin) → ⊥
held_by pin one (inl none) = omega (arith, one, none)
held_by pin one (inr later) = omega (arith, one, later)

pub bits_not_cleared : BitsNotCleared
bits_not_cleared = (
  refl,
  no_clear (view_of scan_held.views 0).seat 8 3 refl refl refl (λ member sure scan. held_by 1 refl (scan.each 1 (omega arith))),
  no_clear (view_of scan_clear.views 0).seat 2 1 refl refl refl (λ member sure scan. false≢true member),
  no_clear (view_of scan_clear.views 0).seat 4 2 refl refl refl (λ member sure scan. false≢true member),
  no_clear (view_of collected.views 0).seat 8 3 refl refl refl (λ member sure scan. false≢true sure),
)

pub collect_ends : CollectEnds
collect_ends = (
  record { at_tail = refl; position = refl; seat = refl; number = refl; op = refl; fits = record { put = record { generation = 2; base = 1; replaced = 1; limbo = 0 }; put_is = refl; generation = refl; none_left = refl; all = refl; one = inr refl; limbo = refl; held = refl } },
  refl,
  refl,
  refl,
  record {
    at_tail = refl;
    position = refl;
    seat = refl;
    number = refl;
    op = refl;
    fits = record {
      put = record { generation = 2; base = 1; replaced = 1; limbo = 0 };
      put_is = refl;
      generation = refl;
      none_left = refl;
      all = refl;
      one = inl refl;
      limbo = refl;
      held = (omega arith, record { other = λ same. omega (arith, same); seen = omega arith; pin = refl; some = omega arith; needs = omega arith });
    };
  },
  λ may. omega (arith, may.fits.held),
  λ may. (let before = ap limbo_of may.fits.put_is in let now = may.fits.limbo in omega (arith, before, now)),
  λ may. may.fits.held.1.other refl,
  λ may. true≢false (ap is_put may.fits.0),
  λ may. (let left = ap (λ (blocks : List ℕ). length blocks) may.fits.none_left in omega (arith, left)),
)

or_last : (a b : Bool) → (b || false) ≡ true → (a || (b || false)) ≡ true
or_last true b last = refl
or_last false b last = last

pub sync_ends : SyncEnds
sync_ends = (
  refl,
  refl,
  refl,
  record { in_sync = λ job tail none. (refl, refl, record { head = refl; each = λ place walked. or_last (3 == place) (27 == place) walked }) },
  λ may. false≢true ((may.in_sync refl refl refl).2.each 27 refl),
  refl,
  refl,
  refl,
  refl,
  refl,
  refl,
  refl,
  record { at_tail = refl; position = refl; seat = refl; number = refl; op = refl; fits = (refl, refl) },
  λ may. none_not_some 1 may.fits.1,
  λ may. (let said_same = ap said may.fits.0 in omega (arith, said_same)),
)
