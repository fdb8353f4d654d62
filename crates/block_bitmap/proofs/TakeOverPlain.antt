-- Taking blocks over a plain memory.
use Rattle.std.proofs.Common.{◌≡◌, ◌≢◌, ◌<◌, ◌≤◌, ◌+◌, ◌-◌, ◌*◌, ◌/◌, ◌==◌, nat_lt, ℕ, zero, suc, Bool, true, false, List, [], ◌∷◌, length, take, slice_index, slice_set, refl, sym, ap, ◌∙◌, subst, arith}
use Rattle.std.specs.Prelude.{filter, bit_or, Option, Some, None, map}
use Rattle.std.specs.Int.{bit_at}
use Rattle.log_entry.specs.declared.shapes.Geometry.{Geometry}
use Rattle.std.specs.List.{All, AllByRecursion}
use Rattle.std.proofs.lemmas.Bool.{eqb-true, eqb-false}
use Rattle.std.proofs.lemmas.List.{length-set, length-append, length-map, length-take, take_all}
use Rattle.log_entry.specs.Geometry.{count_of, first_of}
use Rattle.log_entry.specs.Shape.{total_of}
use Rattle.log_entry.specs.declared.shapes.Area.{Area}
use Rattle.pmem_words.specs.Seats.{Seat, owned_room, bitmap_words}
use Rattle.pmem_words.specs.Courses.{over}
use Rattle.pmem_words.specs.Leads.{Leads, LeadsAfter}
use Rattle.asks.specs.SharedWords.{SharedWords}
use Rattle.pmem_words.specs.PlainWords.{plain}
use Rattle.pmem_words.proofs.LeadsLemmas.{leads_weaker}
use Rattle.pmem_words.proofs.PlainLemmas.{leads_plain, leads_plain_kept}
use Rattle.log_core.specs.Works.{seat_shape}
use Rattle.block_bitmap.specs.declared.take.Take.{Take}
use Rattle.block_bitmap.specs.declared.take.Taken.{Taken}
use Rattle.block_bitmap.specs.TakeBits.{bits_of, clear_in, area_in}
use Rattle.block_bitmap.specs.TakeScript.{take_of, fresh, last_word, with_found, with_taken_blocks, settled_by, ended_or, take_script}
use Rattle.block_bitmap.specs.TakeAlone.{outcome, free_blocks, AreSet, found_as, HasFound, HasPassed}
use Rattle.block_bitmap.proofs.TakeWords.{some_in, within_total}
use Rattle.block_bitmap.proofs.TakeSteps.{none_taken}
use Rattle.block_bitmap.proofs.TakeRest.{rest_from, clear_at, rest_first}
use Rattle.block_bitmap.proofs.TakeCompose.{RestAlone, Passes, ends_here}
use Rattle.block_bitmap.proofs.TakeCovered.{clear_still, covered}
use Rattle.block_bitmap.proofs.TakeOneWord.{pass_at, CanPass, inside, inside_found, from_first, to_end, seen_once, seen_twice, next, passes_none, passes_some, moves_by}

module _ (area : Area) (passed count : ℕ) (s : Seat) (p : SharedWords) (can : CanPass area count s p) (some : 0 < count) (to : first_of s.geometry area / 64 + passed ≤ last_word area s)
    (rec : first_of s.geometry area / 64 + passed < last_word area s → (n : ℕ) (t : Seat) (q : SharedWords) → t.geometry ≡ s.geometry → 0 < n → CanPass area n t q →
    Leads take_script (over take_script plain) (λ out u r. RestAlone area n (first_of t.geometry area / 64 + (passed + 1)) t q out u r) (pass_at area n (passed + 1)) t q) where
  abbrev word : ℕ
  word = first_of s.geometry area / 64 + passed

  abbrev found : ℕ
  found = slice_index p.taken (first_of s.geometry area / 64 + passed)

  abbrev here : List ℕ
  here = clear_at s.geometry area p.taken (first_of s.geometry area / 64 + passed)

  abbrev wanted : List ℕ
  wanted = take count here

  abbrev Ends : Taken → Seat → SharedWords → Type 0
  Ends out t q = RestAlone area count word s p out t q

  -- the seat after the load, and the memory after the set
  abbrev loaded : Seat
  loaded = with_found word found s

  abbrev set_there : SharedWords
  set_there = record p { taken = slice_set p.taken word (bit_or found (bits_of wanted)) }

  abbrev taken_there : List ℕ → Seat
  taken_there blocks = with_found word (bit_or found (bits_of wanted)) (with_taken_blocks area blocks loaded)

  abbrev setting : Take
  setting = record { area = area; count = count; passed = passed; known = Some found }

  wanted_count : length wanted ≡ Rattle.std.specs.Prelude.min count (length here)
  wanted_count = length-take count here

  -- after the bits were set
  ended_by : (b : Bool) → (count - length wanted == 0) ≡ b →
      LeadsAfter take_script (over take_script plain) Ends (ended_or b (record { area = area; count = count - length wanted; passed = passed; known = Some found }) (taken_there wanted) (bit_or found (bit_or found (bits_of wanted)))) set_there
  ended_by true e = ends_here area count word s p (next area passed count s p can some to) (seen_twice area passed count s p can some to) (from_first area passed count s p can some to) (to_end area passed count s p can some to) (passes_some area passed count s p can some to) to
      (let none = eqb-true (count - length wanted) 0 e in omega (arith, none, wanted_count))
  ended_by false e =
      subst (λ (blocks : List ℕ). LeadsAfter take_script (over take_script plain) Ends (settled_by blocks (record { area = area; count = count - length wanted; passed = passed; known = Some found }) (taken_there wanted) (bit_or found (bit_or found (bits_of wanted)))) set_there) (sym none)
      (moves_by area passed count s p can some to (next area passed count s p can some to) (seen_twice area passed count s p can some to) (count - length wanted) (taken_there wanted) (Some found)
      (subst (λ (blocks : List ℕ). Passes word blocks p.taken (next area passed count s p can some to) s.blocks.found (seen_twice area passed count s p can some to)) all (passes_some area passed count s p can some to))
      short
      (ap (λ (blocks : List ℕ). found_as (seen_twice area passed count s p can some to) (with_taken_blocks area blocks s)) (sym all))
      (ap (λ (n : ℕ). count - n) (ap length (sym all)))
      (λ less. rec less (count - length wanted) (taken_there wanted) set_there refl (omega (arith, left)) (record { room = room; found = found_long; bitmap = bitmap }))
      (nat_lt word (last_word area s)) refl)
    where
      left : count - length wanted ≢ 0
      left = eqb-false (count - length wanted) 0 e

      short : length here < count
      short = omega (arith, left, wanted_count)

      all : wanted ≡ here
      all = take_all count here (omega (arith, short))

      none : clear_in (bit_or found (bit_or found (bits_of wanted))) (area_in (seat_shape s) area word) ≡ []
      none = covered found (bits_of wanted) (area_in (seat_shape s) area word) (λ i. (let same = ap (λ (blocks : List ℕ). bit_at (bits_of blocks) i) all in omega (arith, same)))

      room : length (taken_there wanted).blocks.owned + (count - length wanted) ≤ owned_room s.geometry
      room = (let room = can.room in let long = length-append s.blocks.owned (map (fresh area) wanted) in let count = length-map wanted (fresh area) in omega (arith, room, long, count, wanted_count))

      found_long : length (taken_there wanted).blocks.found ≡ bitmap_words s.geometry
      found_long = (passes_some area passed count s p can some to).found_is.long ∙ can.found

      bitmap : last_word area s < length (next area passed count s p can some to)
      bitmap = (let long = length-set p.taken word (bit_or found (bits_of wanted)) in let bitmap = can.bitmap in omega (arith, long, bitmap))

  set_on : LeadsAfter take_script (over take_script plain) Ends (take_script.after setting loaded found) set_there
  set_on = subst (λ (blocks : List ℕ). LeadsAfter take_script (over take_script plain) Ends (ended_or (count - length blocks == 0) (record { area = area; count = count - length blocks; passed = passed; known = Some found }) (taken_there blocks) (bit_or found (bit_or found (bits_of wanted)))) set_there)
      (sym (clear_still found count (area_in (seat_shape s) area word))) (ended_by (count - length wanted == 0) refl)

  long_once : length loaded.blocks.found ≡ length s.blocks.found
  long_once = length-set s.blocks.found word (bit_or (slice_index s.blocks.found word) found)

  set_leads : Leads take_script (over take_script plain) Ends setting loaded p
  set_leads = leads_plain take_script Ends setting loaded p (inside area passed count s p can some to)
      (λ small. record { to = to; inside = (let low = inside_found area passed count s p can some to in omega (arith, low, long_once)); room = can.room }) set_on

  -- after the load
  load_on : (blocks : List ℕ) → here ≡ blocks → LeadsAfter take_script (over take_script plain) Ends (settled_by blocks (pass_at area count passed) loaded found) p
  load_on [] none =
      moves_by area passed count s p can some to p.taken (seen_once area passed count s p can some to) count loaded None (passes_none area passed count s p can some to none) (let count_is = ap length none in omega (arith, count_is, some))
      (ap (λ (blocks : List ℕ). found_as (seen_once area passed count s p can some to) (with_taken_blocks area blocks s)) none ∙ ap (found_as (seen_once area passed count s p can some to)) (none_taken area s))
      (let count_is = ap length none in omega (arith, count_is))
      (λ less. rec less count loaded p refl some (record { room = can.room; found = long_once ∙ can.found; bitmap = can.bitmap }))
      (nat_lt word (last_word area s)) refl
  load_on (block ∷ blocks) is = set_leads

  pub one_word : Leads take_script (over take_script plain) Ends (pass_at area count passed) s p
  one_word = leads_plain_kept take_script Ends (pass_at area count passed) s p (inside area passed count s p can some to) refl
      (λ small. record { to = to; inside = inside_found area passed count s p can some to; room = can.room }) (load_on here refl)

-- word by word to the last one
alone_from : (area : Area) (left passed count : ℕ) (s : Seat) (p : SharedWords) → CanPass area count s p → 0 < count → last_word area s ≡ first_of s.geometry area / 64 + passed + left →
    Leads take_script (over take_script plain) (λ out t q. RestAlone area count (first_of s.geometry area / 64 + passed) s p out t q) (pass_at area count passed) s p
alone_from area zero passed count s p can some last = one_word area passed count s p can some (omega (arith, last)) (λ less. absurd (omega (arith, less, last)))
alone_from area (suc left) passed count s p can some last = one_word area passed count s p can some (omega (arith, last))
    (λ less n t q same some_left can_left. alone_from area left (passed + 1) n t q can_left some_left
    (ap (λ (g : Geometry). (first_of g area + count_of g area - 1) / 64) same ∙ (omega (arith, last)) ∙ ap (λ (g : Geometry). first_of g area / 64 + (passed + 1) + left) (sym same)))

-- what is left after taking blocks alone
pub record TakenAlone (area : Area) (count : ℕ) (s : Seat) (p : SharedWords) (out : Taken) (t : Seat) (q : SharedWords) : Type 0 where
  pub outcome_is : out ≡ outcome area count (length (free_blocks s.geometry area p.taken))
  pub seat : t ≡ found_as t.blocks.found (with_taken_blocks area (take count (free_blocks s.geometry area p.taken)) s)
  pub found : HasPassed area out s q.taken t
  pub set : AreSet (take count (free_blocks s.geometry area p.taken)) p.taken q.taken
  pub memory : q ≡ record p { taken = q.taken }

whole : (area : Area) (count word : ℕ) (s : Seat) (p : SharedWords) (out : Taken) (t : Seat) (q : SharedWords) → word ≡ first_of s.geometry area / 64 → RestAlone area count word s p out t q → TakenAlone area count s p out t q
whole area count word s p out t q first r = record {
  outcome_is = r.outcome_is ∙ ap (λ (blocks : List ℕ). outcome area count (length blocks)) all;
  seat = r.seat ∙ ap (λ (blocks : List ℕ). found_as t.blocks.found (with_taken_blocks area (take count blocks) s)) all;
  found = (r.last, subst (λ (w : ℕ). w ≤ r.last) first r.from, r.to, r.ends, subst (λ (w : ℕ). HasFound w r.last q.taken s.blocks.found t.blocks.found) first r.found);
  set = subst (λ (blocks : List ℕ). AreSet (take count blocks) p.taken q.taken) all r.set;
  memory = r.memory;
}
  where
    all : rest_from s.geometry area p.taken word ≡ free_blocks s.geometry area p.taken
    all = ap (rest_from s.geometry area p.taken) first ∙ rest_first s.geometry area p.taken

pub taken_alone : (area : Area) (count : ℕ) (s : Seat) (p : SharedWords) → CanPass area count s p → 0 < count → Leads take_script (over take_script plain) (TakenAlone area count s p) (take_of area count) s p
taken_alone area count s p can some =
    leads_weaker take_script (over take_script plain) (λ out t q. RestAlone area count (first_of s.geometry area / 64 + 0) s p out t q) (TakenAlone area count s p)
    (λ out t q r. whole area count (first_of s.geometry area / 64 + 0) s p out t q (omega arith) r)
    (alone_from area (last_word area s - first_of s.geometry area / 64) 0 count s p can some (let some = some_in s.geometry area in omega (arith, some)))

-- a memory with a bit for each block has each of the area's words
pub bits_for : (area : Area) (s : Seat) (p : SharedWords) → total_of s.geometry.data_blocks s.geometry.log_blocks s.geometry.block_bytes ≤ 64 * length p.taken → last_word area s < length p.taken
bits_for area s p enough = (let inside = within_total s.geometry area in let some = some_in s.geometry area in omega (arith, inside, some, enough))
