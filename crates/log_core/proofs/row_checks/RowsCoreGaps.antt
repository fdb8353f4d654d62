-- What one clause alone refuses of cores: ends, parts, seats made, generations found, the synced position, and writes of the history.
use Rattle.std.proofs.Common.{◌≡◌, ◌==◌, ◌&&◌, ◌||◌, not, ℕ, zero, suc, false, List, [], ◌∷◌, length, refl, ap, arith}
use Rattle.std.proofs.lemmas.Bool.{false≢true}
use Rattle.std.proofs.lemmas.Bool.Decides.{nat_tests}
use Rattle.log_image.specs.Image.{is_in_log}
use Rattle.log_core.specs.May.{is_fenced}
use Rattle.log_core.specs.worked_rows.Refused.{right_snapshot}
use Rattle.log_core.proofs.row_checks.RowChecks.{in_all}
use Rattle.log_entry.specs.declared.calls.Call.{Call}
use Rattle.persistence.specs.Memory.{cell}
use Rattle.log_core.specs.Synced.{IsSynced}
use Rattle.log_core.specs.worked_rows.Samples.{small_shape}
use Rattle.log_core.specs.worked_rows.CoreGaps.{synced_short, BegunPastEnd, PartsOfAnother, MadeMore, OvertakenByNone, SyncedBeforeStart, WriteOfAnotherSize, EntryOfAnotherSize, HeadBeforeTail}
use Rattle.log_core.proofs.row_checks.RowTells.{said, offset_said}
use Rattle.log_core.proofs.row_checks.RowsWrong.{one_part}

pub begun_past_end : BegunPastEnd
begun_past_end = (
  refl,
  refl,
  λ tail. (let early = (tail refl).begun in omega (arith, early)),
  λ records. (let low = records.begun 0 in omega (arith, low)),
)

pub parts_of_another : PartsOfAnother
parts_of_another = (
  refl,
  refl,
  λ once. (let times = once (one_part 1) 1 (omega arith) (omega arith) in omega (arith, times)),
  λ seats. false≢true (seats.own 0 (one_part 1)),
)

pub made_more : MadeMore
made_more = (
  record {
    apart = λ same. omega (arith, same);
    made = omega arith;
    made_too = omega arith;
    unspent = one_part 0;
    unspent_too = one_part 1;
    idle = record { no_call = refl; unpinned = refl; nothing_owned = refl; nothing_marked = refl; not_won = refl; no_head = refl; nothing_replaced = refl };
    idle_too = record { no_call = refl; unpinned = refl; nothing_owned = refl; nothing_marked = refl; not_won = refl; no_head = refl; nothing_replaced = refl };
  },
  refl,
  λ sizes. (let made = sizes.made (λ none. (let long = ap (λ (parts : List ℕ). length parts) none in omega (arith, long))) in omega (arith, made)),
  λ sizes. (let few = sizes.few_made 1 in omega (arith, few)),
)

pub overtaken_by_none : OvertakenByNone
overtaken_by_none = (
  record { at_tail = refl; position = refl; seat = refl; number = refl; op = refl; fits = (refl, refl, (λ same. omega (arith, same), omega arith, refl)) },
  λ holds. (let low = holds.of_generations.1 in omega (arith, low)),
  λ fits. (let low = fits.found in omega (arith, low)),
)

before_last : IsSynced small_shape (λ word. cell synced_short.memory word) synced_short.generations synced_short.logs 0 2
before_last zero zero from inside cut within = record { slots = λ k less before. absurd (omega (arith, before)); link = λ some. absurd (some refl) }
before_last zero (suc number) from inside cut within = absurd (omega (arith, within))
before_last (suc place) number from inside cut within = absurd (omega (arith, inside))

pub synced_before_start : SyncedBeforeStart
synced_before_start = (
  refl,
  before_last,
  λ words. (let other = ((words 0 0 (omega arith) (omega arith) (omega arith) (omega arith)).slots 0 (omega arith) (omega arith)).before 0 (omega arith) (omega arith) in omega (arith, other)),
  λ syncs. (let low = syncs.from_first in omega (arith, low)),
)

pub write_of_another_size : WriteOfAnotherSize
write_of_another_size = (
  record { at_tail = refl; position = refl; seat = refl; number = refl; op = refl; fits = refl },
  refl,
  λ fits. (let at = ap (λ (call : Call). offset_said call.reply) (fits.recorded.0 refl).2 in omega (arith, at)),
  λ holds. (let size = (holds.writes 0 (omega arith)).size_before in omega (arith, size)),
)

pub entry_of_another_size : EntryOfAnotherSize
entry_of_another_size = (
  refl,
  λ holds. (let size = ap said holds.answers in omega (arith, size)),
  λ holds. (let size = holds.sizes 1 (omega arith) (omega arith) in omega (arith, size)),
)

-- what the first generation names and the second does not, where the second entry is the first again
left_here : (block : ℕ) → ((3 == block) || false) ≡ (((3 == block) || ((4 == block) || ((1 == block) || ((1 == block) || false)))) && not ((5 == block) || ((4 == block) || ((1 == block) || ((1 == block) || false)))))
left_here block = grind (arith, nat_tests)

pub head_before_tail : HeadBeforeTail
head_before_tail = (
  refl,
  refl,
  refl,
  (λ holds. (let low = holds.from_first in omega (arith, low)), tt),
  λ may. false≢true may.at_tail,
  record {
    valid = refl;
    ready = refl;
    at_tail = refl;
    job = refl;
    not_put = refl;
    nothing_left = refl;
    pinned = refl;
    generation = refl;
    below_limit = omega arith;
    next_is = refl;
    above = omega arith;
    cut = refl;
    cut_block = refl;
    owned = λ block named. in_all (λ b. is_fenced right_snapshot.blocks.owned b) (5 ∷ []) block refl named;
    in_log = λ block named. in_all (λ b. is_in_log small_shape b) (5 ∷ []) block refl named;
    once = refl;
    snapshot = record { some = omega arith; words = (refl, refl, refl, refl, tt); map_is = λ virt. refl };
    apart = (λ virt touched. refl, tt);
    replaced = left_here;
  },
)
