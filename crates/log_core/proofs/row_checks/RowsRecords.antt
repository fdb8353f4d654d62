-- The clauses on records and on syncs hold in the middle of a collection, and of a sync.
use Rattle.std.proofs.Common.{◌≡◌, ◌≢◌, ◌≤◌, ◌<◌, true, [], ◌+◌, ◌-◌, ◌==◌, nat_lt, ℕ, zero, suc, false, slice_index, refl, subst, ap, inl, arith, Option, None, Some}
use Rattle.std.proofs.lemmas.Bool.{false≢true, true≢false}
use Rattle.std.specs.List.{AllByRecursion}
use Rattle.std.proofs.lemmas.Bool.Decides.{nat_tests}
use Rattle.log_entry.specs.declared.calls.Reply.TheVariants.{Wrote, Synced}
use Rattle.persistence.specs.Memory.{cell}
use Rattle.log_image.specs.Chains.{is_listed}
use Rattle.log_core.specs.Views.{HeadPut, view_of}
use Rattle.log_core.specs.Order.{nth_generation}
use Rattle.log_core.specs.Records.{one_if, parts_with, collected_by, WritesFit, WritesOnce, PutFits, NeverFall, RecordHolds, CallHolds, TailHolds, MarksFit}
use Rattle.log_core.specs.Invariant.{names_by}
use Rattle.log_core.specs.Files.{entries}
use Rattle.log_core.specs.Synced.{SyncHolds}
use Rattle.log_core.specs.worked_rows.Samples.{image_a}
use Rattle.log_core.specs.worked_rows.Rows.{collected, slot_marked, synced}
use Rattle.log_core.specs.worked_rows.Accepted.{RecordsStand, SyncsStand}
use Rattle.log_core.proofs.row_checks.RowTells.{is_sync, is_written, number_of, none_not_some}
use Rattle.log_core.proofs.row_checks.RowsWrong.{is_synced}

writes : (seat : ℕ) → WritesFit image_a collected.history (view_of collected.views seat)
writes zero = record { recorded = (λ write. (omega arith, omega arith, refl), tt); running = λ won. absurd (false≢true won) }
writes (suc zero) = record { recorded = tt; running = λ won. absurd (false≢true won) }
writes (suc (suc seat)) = record { recorded = tt; running = λ won. absurd (false≢true won) }

writes_once : (seat : ℕ) → WritesOnce image_a collected.history (view_of collected.views seat)
writes_once zero some zero from to = absurd (omega (arith, from))
writes_once zero some (suc zero) from to = refl
writes_once zero some (suc (suc position)) from to = absurd (omega (arith, to))
writes_once (suc zero) some zero from to = absurd (omega (arith, from))
writes_once (suc zero) some (suc zero) from to = refl
writes_once (suc zero) some (suc (suc position)) from to = absurd (omega (arith, to))
writes_once (suc (suc seat)) some position from to = absurd (some refl)

-- a number that is no seat's
far : (n : ℕ) → 2 ≤ n → one_if (0 == n) + 0 + (one_if (1 == n) + 0 + 0) ≡ one_if (nat_lt n 2)
far n above =
    let not_zero : (0 == n) ≡ false = grind (arith, nat_tests, above) in
    let not_one : (1 == n) ≡ false = grind (arith, nat_tests, above) in
    let past : nat_lt n 2 ≡ false = grind (arith, nat_tests, above) in
    rw (not_zero, not_one, past) refl

parts_once : (seat : ℕ) → parts_with collected.views seat ≡ one_if (nat_lt seat 2)
parts_once zero = refl
parts_once (suc zero) = refl
parts_once (suc (suc seat)) = far (suc (suc seat)) (omega arith)

once_collected : (generation : ℕ) → 1 < generation → generation ≤ 2 → collected_by generation collected.views ≡ 1
once_collected zero from to = absurd (omega (arith, from))
once_collected (suc zero) from to = absurd (omega (arith, from))
once_collected (suc (suc zero)) from to = refl
once_collected (suc (suc (suc generation))) from to = absurd (omega (arith, to))

abbrev put_of : Option HeadPut → HeadPut
put_of None = record { generation = 0; base = 0; replaced = 0; limbo = 0 }
put_of (Some put) = put

abbrev PutSays : HeadPut → Type 0
PutSays put = (1 < put.generation) × (put.generation < 3) × (put.base ≡ 1) × (put.base ≡ (nth_generation collected.generations (put.generation - 1)).base)

puts : (seat : ℕ) → PutFits image_a collected.generations (view_of collected.views seat)
puts zero = record { own = λ put same. subst PutSays (ap put_of same) (omega arith, omega arith, refl, refl); found = omega arith }
puts (suc zero) = record { own = λ put same. cc; found = omega arith }
puts (suc (suc seat)) = record { own = λ put same. cc; found = omega arith }

each_record : (seat : ℕ) → AllByRecursion (RecordHolds image_a collected.history collected.generations) (view_of collected.views seat).done
each_record zero = (record { to_end = omega arith; from_first = omega arith; write_after = λ write. omega arith; answers = inl refl; of_generations = tt }, tt)
each_record (suc zero) = tt
each_record (suc (suc seat)) = tt

never_fall : (seat part : ℕ) → NeverFall part 0 0 (view_of collected.views seat).done
never_fall zero part = (λ same. (omega arith, omega arith), tt)
never_fall (suc zero) part = tt
never_fall (suc (suc seat)) part = tt

calls : (seat : ℕ) → CallHolds image_a collected.history (view_of collected.views seat)
calls zero = record {
  laid = λ offset count same. cc;
  bases = record { most = omega arith; whole = omega arith; from_first = λ some. absurd (some refl); bytes = λ running place at less. absurd (omega (arith, less)) };
  reading = λ reading. absurd (false≢true reading);
  numbers = record { most = (λ same. omega arith, tt); runs = λ running. (λ same. omega arith, tt); some = λ running. omega arith };
  task = record { won_runs = λ won. absurd (false≢true won); put_collects = λ put. refl; synced_syncs = λ some. absurd (some refl) };
}
calls (suc zero) = record {
  laid = λ offset count same. cc;
  bases = record { most = omega arith; whole = omega arith; from_first = λ some. absurd (some refl); bytes = λ running place at less. absurd (omega (arith, less)) };
  reading = λ reading. absurd (false≢true reading);
  numbers = record { most = tt; runs = λ running. tt; some = λ running. omega arith };
  task = record { won_runs = λ won. absurd (false≢true won); put_collects = λ put. absurd (put refl); synced_syncs = λ some. absurd (some refl) };
}
calls (suc (suc seat)) = record {
  laid = λ offset count same. cc;
  bases = record { most = omega arith; whole = omega arith; from_first = λ some. absurd (some refl); bytes = λ running place at less. absurd (omega (arith, less)) };
  reading = λ reading. absurd (false≢true reading);
  numbers = record { most = tt; runs = λ running. tt; some = λ running. absurd (running refl) };
  task = record { won_runs = λ won. absurd (false≢true won); put_collects = λ put. absurd (put refl); synced_syncs = λ some. absurd (some refl) };
}

own_part : (seat : ℕ) → (view_of collected.views seat).parts ≢ [] → is_listed (view_of collected.views seat).parts seat ≡ true
own_part zero some = refl
own_part (suc zero) some = refl
own_part (suc (suc seat)) some = absurd (some refl)

no_later : (seat : ℕ) → slice_index collected.began seat ≤ 1
no_later zero = omega arith
no_later (suc zero) = omega arith
no_later (suc (suc seat)) = omega arith

tails : (seat : ℕ) → TailHolds (view_of collected.views seat) (slice_index collected.began seat)
tails zero at = record { walked = λ none. omega (arith, none); from_first = omega arith; begun = omega arith; records = (omega arith, tt) }
tails (suc zero) at = record { walked = λ none. omega (arith, none); from_first = omega arith; begun = omega arith; records = tt }
tails (suc (suc seat)) at = absurd (false≢true at)

marks : (seat : ℕ) → MarksFit (λ word. cell collected.memory word) collected.memory.past collected.memory.pending seat (view_of collected.views seat)
marks zero = refl
marks (suc zero) = refl
marks (suc (suc seat)) = refl

pub records_stand : RecordsStand
records_stand = record {
  writes = writes;
  writes_once = writes_once;
  seats_once = record { once = parts_once; own = own_part; writes = (omega arith, tt); records = ((refl, tt), (tt, tt)) };
  collected_once = once_collected;
  put = puts;
  records = each_record;
  never_fall = never_fall;
  calls = calls;
  begun = no_later;
  tails = tails;
  marks = marks;
}

no_reply : (seat : ℕ) → Wrote 1 ≡ Synced seat → ⊥
no_reply seat same = true≢false (ap is_written same)

marked_views : (seat : ℕ) → SyncHolds 8 (names_by image_a slot_marked.logs (entries image_a slot_marked.history) slot_marked.generations) (λ word. cell slot_marked.memory word) slot_marked.memory.past slot_marked.memory.pending 0 seat (view_of slot_marked.views seat)
marked_views zero = record {
  to = λ position same. absurd (none_not_some position same);
  marks = λ sync. (
    record { named = λ another. absurd (another refl); head = λ same. omega arith; other = λ another. absurd (another refl) },
    (record { named = λ another. refl; head = λ same. absurd (omega (arith, same)); other = λ another. (refl, λ none. omega (arith, none)) }, tt),
  );
  valid = λ sync some. refl;
  answered = (λ position same. absurd (no_reply position same), tt);
}
marked_views (suc zero) = record { to = λ position same. absurd (none_not_some position same); marks = λ sync. tt; valid = λ sync some. absurd (some refl); answered = tt }
marked_views (suc (suc seat)) = record {
  to = λ position same. absurd (none_not_some position same);
  marks = λ sync. absurd (false≢true (ap is_sync sync));
  valid = λ sync some. absurd (false≢true (ap is_sync sync));
  answered = tt;
}

synced_views : (seat : ℕ) → SyncHolds 8 (names_by image_a synced.logs (entries image_a synced.history) synced.generations) (λ word. cell synced.memory word) synced.memory.past synced.memory.pending 1 seat (view_of synced.views seat)
synced_views zero = record {
  to = λ position same. (let one = ap number_of same in (omega (arith, one), omega (arith, one)));
  marks = λ sync. tt;
  valid = λ sync some. absurd (some refl);
  answered = (λ position same. absurd (no_reply position same), tt);
}
synced_views (suc zero) = record { to = λ position same. absurd (none_not_some position same); marks = λ sync. tt; valid = λ sync some. absurd (some refl); answered = tt }
synced_views (suc (suc seat)) = record { to = λ position same. absurd (none_not_some position same); marks = λ sync. tt; valid = λ sync some. absurd (some refl); answered = tt }

pub syncs_stand : SyncsStand
syncs_stand = (
  record { from_first = omega arith; to_end = omega arith; words = λ place number from inside cut within. record { slots = λ k less before. absurd (omega (arith, before)); link = λ some before. absurd (omega (arith, before)) }; views_hold = marked_views },
  record { from_first = omega arith; to_end = omega arith; words = is_synced; views_hold = synced_views },
  refl,
  refl,
)
