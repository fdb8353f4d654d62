-- What one clause alone refuses of walks.
use Rattle.std.proofs.Common.{◌≡◌, ℕ, zero, suc, Option, None, refl, sym, ap, inr, arith}
use Rattle.std.specs.Option.{option_or}
use Rattle.log_image.specs.Entries.{direct_meaning}
use Rattle.log_image.specs.Maps.{map_of}
use Rattle.log_image.proofs.HoldingLemmas.{names_none}
use Rattle.pmem_words.specs.Maps.{map_at as mapped_at}
use Rattle.log_core.specs.Walks.{read_meanings}
use Rattle.log_core.specs.worked_rows.WalkGaps.{two_snapshots, two_contents, first_read, gone_on, PlaceOfAnother, FirstLogOfAnother, FirstLogFound}
use Rattle.log_core.proofs.row_checks.RowTells.{some_not_none}

-- the entry of the first block is all that is read, before and after
first_table : (virt : ℕ) → mapped_at first_read.walk.map virt ≡ map_of (read_meanings two_contents two_snapshots.snapshots 11 4) virt
first_table zero = refl
first_table (suc zero) = refl
first_table (suc (suc zero)) = refl
first_table (suc (suc (suc zero))) = refl
first_table (suc (suc (suc (suc virt)))) = sym (ap (λ (o : Option ℕ). option_or None o) (names_none (direct_meaning 1835009) (suc (suc (suc (suc virt)))) (omega arith)))

table : (virt : ℕ) → mapped_at gone_on.walk.map virt ≡ map_of (read_meanings two_contents two_snapshots.snapshots 9 3) virt
table zero = refl
table (suc zero) = refl
table (suc (suc zero)) = refl
table (suc (suc (suc zero))) = refl
table (suc (suc (suc (suc virt)))) = sym (ap (λ (o : Option ℕ). option_or None o) (names_none (direct_meaning 1835009) (suc (suc (suc (suc virt)))) (omega arith)))

pub place_of_another : PlaceOfAnother
place_of_another = (
  record {
    reading = record { valid = refl; reading = refl; pinned = refl };
    no_more = inr refl;
    followed = record { link = some_not_none 9; next = some_not_none 9223372036854775815; kind_is = refl };
  },
  record { inside = omega arith; block = refl; from = omega arith; upto = omega arith; table = first_table; size_is = refl; position_is = refl },
  refl,
  refl,
  record { inside = omega arith; block = refl; from = omega arith; upto = omega arith; table = table; size_is = refl; position_is = refl },
  λ read. (let other = read.block in omega (arith, other)),
  λ read. (let past = read.inside in omega (arith, past)),
)

pub first_log_of_another : FirstLogOfAnother
first_log_of_another = (
  refl,
  refl,
  refl,
  refl,
  record { some = λ none. omega (arith, none); is = refl },
  λ holds. (let other = (holds.first_known (λ none. omega (arith, none))).is in omega (arith, other)),
  refl,
  refl,
  refl,
  refl,
  refl,
  refl,
  refl,
)

pub first_log_found : FirstLogFound
first_log_found = (
  record { at_front = record { valid = refl; pinned = refl; front = λ none. cc }; ready = refl; kind_is = refl },
  refl,
  record { inside = omega arith; block_is = refl },
  λ at. (let past = at.inside in omega (arith, past)),
  record { valid = refl; ready = refl; come_to = λ none. omega (arith, none); followed = record { link = λ none. cc; next = λ none. cc; kind_is = refl } },
  λ may. (let kind = may.followed.kind_is in omega (arith, kind)),
  λ may. may.come_to refl,
  refl,
  λ holds. (let other = (holds.seeking refl (λ none. omega (arith, none))).block_is in omega (arith, other)),
  refl,
  refl,
)
