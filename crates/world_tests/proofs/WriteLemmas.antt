-- A seat of a world begins to write whole blocks.
use Rattle.std.proofs.Common.{◌≡◌, ◌≢◌, ◌<◌, ◌≤◌, ◌+◌, ◌*◌, ◌/◌, nat_lt, ℕ, zero, suc, Bool, true, false, if◌then◌else◌, List, [], ◌∷◌, length, refl, sym, ◌∙◌, ap, subst, arith, Option, Some, None}
use Rattle.std.proofs.Math.Nat.{mul-le-mul_right}
use Rattle.std.proofs.lemmas.Bool.{le-ltb}
use Rattle.std.proofs.lemmas.List.{get_or-set_same}
use Rattle.std.proofs.lemmas.Option.{same_Some}
use Rattle.log_entry.specs.Shape.{longest_of, limit_of}
use Rattle.log_entry.specs.Legal.{touched_blocks}
use Rattle.log_entry.specs.declared.shapes.Geometry.{Geometry}
use Rattle.log_entry.specs.declared.calls.Op.{Op}
use Rattle.log_entry.specs.declared.calls.Op.TheVariants.{Pwrite as PwriteOp}
use Rattle.pmem_words.specs.declared.keeps.Task.{Task}
use Rattle.pmem_words.specs.declared.keeps.Task.TheVariants.{Pwrite, Collect}
use Rattle.pmem_words.specs.Seats.{Seat, new_seat}
use Rattle.log_core.specs.Views.{HeadPut, no_geometry}
use Rattle.log_core.specs.Within.{no_record}
use Rattle.log_core.specs.Works.{Begins, is_quiet, laid_bytes, state_after_work}
use Rattle.log_core.proofs.writes.WholeWrites.{whole_touched, some_block_bytes}
use Rattle.crash_model.specs.Worlds.{WorldNow, seat_of, set_seat, new_world}
use Rattle.crash_model.specs.Led.{Held, Rests, Runs, IsAmong, IsResting, HasLeft, HasNoMarks}
use Rattle.crash_model.proofs.Leading.{at_hand, begins_among}
use Rattle.crash_model.proofs.Resting.{begun_rests, no_marks_known}
use Rattle.write_any.specs.declared.stage.Target.TheVariants.{At}
use Rattle.write_any.specs.declared.write.Write.{Write}
use Rattle.write_any.specs.Composing.{block_count, virt_at}
use Rattle.write_any.specs.Writing.{write_of, write_script}
use Rattle.write_any.specs.WriteWithin.{AreBytes, MayWrite, HasWritten}
use Rattle.write_any.proofs.WriteServes.{writes_whole}
use Rattle.world_tests.specs.WriteSeats.{MayBeginWrite, IsToWrite}
use Rattle.world_tests.proofs.BlockLemmas.{new_state}
use Rattle.world_tests.proofs.PairLemmas.{to_one, to_zero}

abbrev pub Writes : Write → Held
Writes m = Runs write_script no_record (λ out t v. HasLeft out t v) m

-- whole blocks that an entry can name, within the file, are written by steps
loud : (size virt count : ℕ) (bytes : List ℕ) → 0 < size → length bytes ≡ count * size → 0 < count → count ≤ longest_of size → virt + count ≤ 65536 → is_quiet size (PwriteOp (virt * size) bytes) ≡ false
loud size virt zero bytes big long some few within = absurd (omega (arith, some))
loud size virt (suc count) [] big long some few within = absurd (omega (arith, long, big))
loud size virt (suc count) (byte ∷ bytes) big long some few within = neither short inside
  where
    touched : touched_blocks size (virt * size) (length (byte ∷ bytes)) ≡ suc count
    touched = ap (λ (n : ℕ). touched_blocks size (virt * size) n) long ∙ whole_touched size virt (suc count) big (omega arith)

    short : nat_lt (longest_of size) (touched_blocks size (virt * size) (length (byte ∷ bytes))) ≡ false
    short = le-ltb (longest_of size) (touched_blocks size (virt * size) (length (byte ∷ bytes))) (omega (arith, few, touched))

    inside : nat_lt (limit_of size) (virt * size + length (byte ∷ bytes)) ≡ false
    inside = le-ltb (limit_of size) (virt * size + length (byte ∷ bytes)) (let low = mul-le-mul_right size within in
        let all : (virt + suc count) * size ≡ virt * size + suc count * size = omega arith in omega (arith, low, all, long))

    neither : {a b : Bool} → a ≡ false → b ≡ false → (if a then true else b) ≡ false
    neither {a} {b} of_a of_b = ap (λ (x : Bool). if x then true else b) of_a ∙ of_b

-- so a call of them begins
module _ (w : WorldNow) (seat offset : ℕ) (bytes : List ℕ) (may : MayBeginWrite offset bytes seat (seat_of w seat)) where
  abbrev begun : Seat
  begun = state_after_work (seat_of w seat) (Begins (Pwrite offset) bytes)

  makes_steps : is_quiet (seat_of w seat).geometry.block_bytes (PwriteOp offset bytes) ≡ false
  makes_steps = subst (λ (n : ℕ). is_quiet (seat_of w seat).geometry.block_bytes (PwriteOp n bytes) ≡ false) (sym may.whole.starts)
      (loud (seat_of w seat).geometry.block_bytes (virt_at offset begun) (block_count begun) bytes (some_block_bytes (seat_of w seat).geometry.block_bytes (seat_of w seat).geometry.block_allowed) may.whole.bytes may.whole.some may.whole.few may.whole.inside)

  pub begun_write_rests : seat < length w.seats → HasNoMarks w seat → IsResting w → IsResting (set_seat w seat begun)
  begun_write_rests inside no_marks resting = begun_rests w seat (Pwrite offset) bytes inside (record {
    none_runs = may.alone.none_runs;
    no_marks = no_marks;
    none_laid = refl;
    steps = λ op same. subst (λ (o : Op). is_quiet (seat_of w seat).geometry.block_bytes o ≡ false) (same_Some (PwriteOp offset bytes) op same) makes_steps;
  }) resting

  -- its state is of a call of whole blocks then
  pub begun_to_write : seat < length w.seats → AreBytes bytes → IsToWrite offset seat (seat_of (set_seat w seat begun) seat)
  begun_to_write inside small = subst (λ (s : Seat). IsToWrite offset seat s) (sym (get_or-set_same w.seats seat begun (new_seat no_geometry 0 0 0) inside)) (record {
    number = may.alone.number;
    job = refl;
    bytes = small;
    whole = may.whole;
    none_owned = may.none_owned;
    no_contents = may.no_contents;
    no_bases = refl;
    not_won = refl;
    no_sync = refl;
  })

-- a write has put no head in place
no_put : (offset : ℕ) (job : Task) (put : Option HeadPut) → job ≡ Pwrite offset → (put ≢ None → job ≡ Collect) → put ≡ None
no_put offset job None is collects = refl
no_put offset job (Some head) is collects = (let never = sym is ∙ collects (λ none. cc) in cc)

-- and its machine, whatever the others are in the middle of
pub write_begins : (F : Held) (w : WorldNow) (seat offset : ℕ) → IsToWrite offset seat (seat_of w seat) → HasNoMarks w seat → IsAmong F seat Rests w → IsAmong F seat (Writes (write_of (At offset))) w
write_begins F w seat offset to no_marks among = begins_among F seat write_script (write_of (At offset)) (MayWrite offset) (HasWritten offset) w (writes_whole offset)
    (λ o c g known. record {
      number = to.number;
      job = to.job;
      bytes = to.bytes;
      whole = to.whole;
      none_owned = to.none_owned;
      no_contents = to.no_contents;
      no_bases = to.no_bases;
      free = record {
        not_won = to.not_won;
        none_laid = ap (λ (t : Task). laid_bytes t (seat_of w seat).calling.bytes) to.job;
        no_sync = to.no_sync;
        no_head = no_put offset (seat_of w seat).calling.job g.call.put to.job known.knows.calls.task.put_collects;
      };
      no_marks = no_marks_known w o c seat g known no_marks;
    }) among

-- a seat of a world in which nothing was done may begin to write one block of 64 bytes
whole_block : (n size : ℕ) → n ≡ 64 → size ≡ 64 → (0 < n / size) × (n / size ≤ longest_of size) × (0 ≡ 0 / size * size) × (0 / size + n / size ≤ 65536) × (n ≡ n / size * size)
whole_block n size long is = rw (long, is) (omega arith, omega arith, refl, omega arith, refl)

pub new_may_write : (geometry : Geometry) (words taken : List ℕ) (position seats seat : ℕ) → seat < seats → geometry.block_bytes ≡ 64 → (bytes : List ℕ) → length bytes ≡ 64 →
    MayBeginWrite 0 bytes seat (seat_of (new_world geometry words taken position seats) seat)
new_may_write geometry words taken position seats seat inside size bytes long = subst (λ (s : Seat). MayBeginWrite 0 bytes seat s) (sym (new_state geometry words taken position seats seat inside)) (record {
  alone = record { number = refl; none_runs = refl };
  none_owned = refl;
  no_contents = refl;
  whole = (let parts = whole_block (length bytes) geometry.block_bytes long size in record { some = parts.0; few = parts.1; starts = parts.2; inside = parts.3; bytes = parts.4 });
})

-- both seats of a world at rest are to write: both begin, before either makes a step
pub both_write : (w : WorldNow) (of_zero of_one : ℕ) → length w.seats ≡ 2 → IsResting w → IsToWrite of_zero 0 (seat_of w 0) → HasNoMarks w 0 → IsToWrite of_one 1 (seat_of w 1) → HasNoMarks w 1 →
    IsAmong (Writes (write_of (At of_one))) 0 (Writes (write_of (At of_zero))) w
both_write w of_zero of_one many resting zero_to zero_none one_to one_none =
    to_zero (Writes (write_of (At of_zero))) (Writes (write_of (At of_one))) w many
    (write_begins (Writes (write_of (At of_zero))) w 1 of_one one_to one_none
    (to_one Rests (Writes (write_of (At of_zero))) w many
    (write_begins Rests w 0 of_zero zero_to zero_none
    (at_hand Rests 0 w (omega (arith, many)) resting))))
