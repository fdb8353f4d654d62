-- Taking blocks is lawful within a core.
use Rattle.std.proofs.Common.{◌≡◌, ◌≢◌, ◌<◌, ◌≤◌, ◌+◌, ◌-◌, ◌*◌, ◌/◌, ◌%◌, ◌==◌, ℕ, Bool, true, false, List, [], ◌++◌, length, slice_index, slice_set, refl, sym, ap, ◌∙◌, subst, arith}
use Rattle.std.specs.Prelude.{map, bit_or, Option, Some, None}
use Rattle.std.specs.Int.{bit_at}
use Rattle.std.specs.List.{range_with_len}
use Rattle.std.proofs.lemmas.Bool.{eqb-true, eqb-false, and_from}
use Rattle.std.proofs.lemmas.List.{length-append, length-map, length-take, get_or-set_same, get_or-set_other}
use Rattle.std.proofs.lemmas.Nat.Bits.{bit_at_or}
use Rattle.log_entry.specs.declared.shapes.Area.{Area}
use Rattle.log_entry.specs.Geometry.{first_of}
use Rattle.log_image.specs.Chains.{all_different, is_listed}
use Rattle.log_image.specs.Taken.{bit_of}
use Rattle.pmem_words.specs.Owned.{is_among}
use Rattle.pmem_words.specs.Seats.{Seat, bitmap_words}
use Rattle.pmem_words.specs.declared.machine.Turn.TheVariants.{Go, Done}
use Rattle.asks.specs.declared.ask.Place.TheVariants.{Map}
use Rattle.asks.specs.declared.ask.Ask.TheVariants.{SetBits}
use Rattle.log_core.specs.Views.{Ghost, view_of}
use Rattle.log_core.specs.Origin.{Origin}
use Rattle.log_core.specs.Cores.{Core}
use Rattle.log_core.specs.Needs.{owned_numbers, is_pass_found}
use Rattle.log_core.specs.Steps.{LoadsBitmapWord, SetsBits, effect, ghost_after}
use Rattle.log_core.specs.May.{MaySetBits}
use Rattle.log_core.specs.Answers.{HasLacked}
use Rattle.log_core.specs.Within.{no_record, IsFound, Lawful, Serves}
use Rattle.log_core.specs.Knows.{Knows}
use Rattle.log_core.proofs.BlockLists.{has_filter, among_range}
use Rattle.log_core.proofs.kinds.SetsBits.{sets_facts}
use Rattle.log_core.proofs.machines.Entering.{enters_turn}
use Rattle.block_bitmap.specs.declared.take.Take.{Take}
use Rattle.block_bitmap.specs.declared.take.Taken.{Taken}
use Rattle.block_bitmap.specs.declared.take.Taken.TheVariants.{Taken as HasTaken, NoSpace}
use Rattle.block_bitmap.specs.TakeBits.{bits_of}
use Rattle.block_bitmap.specs.TakeScript.{last_word, open_at, wanted_at, gained_at, with_found, seat_set, known_set, less, settled, ended_or, take_script}
use Rattle.block_bitmap.specs.TakeWithin.{HasEnded}
use Rattle.block_bitmap.proofs.TakeStanding.{TakeStands}
use Rattle.block_bitmap.proofs.TakeSteps.{few_gained, settled_seat}
use Rattle.block_bitmap.proofs.TakeOneWord.{last_inside}
use Rattle.block_bitmap.proofs.TakeGrowth.{grows_on, grows_found, lacking_falls, lacking_found}
use Rattle.block_bitmap.proofs.TakeEffects.{wanted_in_area, gained_in_area, wanted_among, effect_is}
use Rattle.block_bitmap.proofs.TakeSettles.{has_lacked, settles, settles_so}

-- a bit that was found stays found
stays : (found : List ℕ) (word bits block : ℕ) → block / 64 < word → bit_of (slice_set found word bits) block ≡ bit_of found block
stays found word bits block less = ap (λ (w : ℕ). bit_at w (block % 64)) (get_or-set_other found word (block / 64) bits 0 (λ same. omega (arith, less, same)))

pub ended_seat : (b : Bool) (m : Take) (s : Seat) (known : ℕ) → (ended_or b m s known).seat ≡ s
ended_seat true m s known = refl
ended_seat false m s known = settled_seat m s known

module _ (o : Origin) (seat : ℕ) (area : Area) (total_count : ℕ) (first : Seat) (count passed : ℕ) (s : Seat) (g : Ghost) where
  abbrev at : Option ℕ → Take
  at k = record { area = area; count = count; passed = passed; known = k }

  abbrev word : ℕ
  word = first_of s.geometry area / 64 + passed

  -- the word is one of the bitmap
  inside_by : (to : first_of s.geometry area / 64 + passed ≤ last_word area s) (c : Core) (pin began : ℕ) → (view_of c.views seat).parts ≢ [] → Knows o c seat s g pin began → word < length s.blocks.found
  inside_by to c pin began unspent knows = (let fits = knows.fits unspent in let long = fits.found in let same = ap bitmap_words fits.geometry in let last = last_inside area s in omega (arith, to, long, same, last))

  module _ (stands : TakeStands area total_count first (record { area = area; count = count; passed = passed; known = None }) s g) (f : ℕ) (inside : first_of s.geometry area / 64 + passed < length s.blocks.found) where
    abbrev loaded : Seat
    loaded = with_found word f s

    after_load : TakeStands area total_count first (at None) loaded g
    after_load = record {
      area_is = refl;
      may = record { some = stands.may.some; lacks = (let lacks = stands.may.lacks in let same = lacking_found s loaded.blocks.found area s.calling.job in omega (arith, lacks, same)); room = stands.may.room };
      to = stands.to;
      blocks = stands.blocks;
      grown = grows_found area first s stands.blocks loaded.blocks.found stands.grown;
      many = stands.many;
      passed = λ block less in_area. stays s.blocks.found word (bit_or (slice_index s.blocks.found word) f) block less ∙ stands.passed block less in_area;
      known = tt;
    }

    load_known : (place : ℕ) → bit_at f place ≤ bit_at (slice_index loaded.blocks.found word) place
    load_known place = (let now = ap (λ (w : ℕ). bit_at w place) (get_or-set_same s.blocks.found word (bit_or (slice_index s.blocks.found word) f) 0 inside) in omega (arith, now, bit_at_or (slice_index s.blocks.found word) f place))

  load_lawful : TakeStands area total_count first (at None) s g → Lawful o seat take_script no_record (TakeStands area total_count first) (HasEnded area total_count first) (at None) s g
  load_lawful stands = record {
    may = λ c pin began inv unspent knows. record { inside = inside_by stands.to c pin began unspent knows; area = area; lacks = (let some = stands.may.some in let lacks = stands.may.lacks in omega (arith, some, lacks)) };
    admitted = λ c pin began inv unspent knows. record { to = stands.to; inside = inside_by stands.to c pin began unspent knows; room = stands.may.room };
    enters = λ f found admits. enters_turn (ghost_after g s (with_found word f s) (LoadsBitmapWord word) f) (with_found word f s) (settled (at None) (with_found word f s) f).seat (settled (at None) (with_found word f s) f).turn (sym (settled_seat (at None) (with_found word f s) f));
    goes = λ f found admits go. settles area total_count first count passed (with_found word f s) f g (after_load stands f admits.inside) (load_known stands f admits.inside) (open_at (at None) (with_found word f s) f) refl None (ghost_after g s (with_found word f s) (LoadsBitmapWord word) f) go;
    ends = λ f out found admits done. settles_so area total_count first count passed (with_found word f s) f g (after_load stands f admits.inside) (load_known stands f admits.inside) (open_at (at None) (with_found word f s) f) refl None (ghost_after g s (with_found word f s) (LoadsBitmapWord word) f) out
        found.knows.owns.owned.once (has_lacked g.call.lacked (with_found word f s) area) done;
  }

  -- bits of wanted blocks are set
  module _ (known : ℕ) (stands : TakeStands area total_count first (record { area = area; count = count; passed = passed; known = Some known }) s g) where
    abbrev bits : ℕ
    bits = bits_of (wanted_at (at (Some known)) s known)

    set_may : word < length s.blocks.found → MaySetBits s word bits
    set_may inside = record {
      inside = inside;
      area = area;
      in_area = λ block among. wanted_in_area (at (Some known)) s known block
          (ap (λ (blocks : List ℕ). is_listed blocks block) (sym (wanted_among (at (Some known)) s known))
          ∙ has_filter (λ (other : ℕ). is_among word bits other) (range_with_len (word * 64) 64) block
          ∙ and_from (is_among word bits block) (is_listed (range_with_len (word * 64) 64) block) among (among_range word bits block among));
      few = (let many = ap length (wanted_among (at (Some known)) s known) in let front = length-take count (open_at (at (Some known)) s known) in let lacks = stands.may.lacks in omega (arith, many, front, lacks));
    }

    -- no block is owned twice afterwards
    set_once : (f : ℕ) → word < length s.blocks.found → IsFound o seat s g (SetBits (Map word) bits) f → all_different (owned_numbers (seat_set (at (Some known)) s known f).blocks.owned) ≡ true
    set_once f inside found =
        ap (λ (x : Seat). all_different (owned_numbers x.blocks.owned)) (sym (effect_is (at (Some known)) s known g.marks f))
        ∙ ap (λ (x : ℕ). all_different (owned_numbers (effect g.marks s (SetsBits word bits) x).blocks.owned)) (sym found.is)
        ∙ (sets_facts o found.core seat s g found.pin found.began word bits found.holds found.knows found.unspent (set_may inside)).owns.owned.once

    module _ (f : ℕ) (inside : first_of s.geometry area / 64 + passed < length s.blocks.found) where
      abbrev gained : List ℕ
      gained = gained_at (at (Some known)) s known f

      abbrev set : Seat
      set = seat_set (at (Some known)) s known f

      abbrev left : Option ℕ → Take
      left k = record { area = area; count = count - length gained; passed = passed; known = k }

      few : length gained ≤ count
      few = few_gained (at (Some known)) s known f

      many : length (stands.blocks ++ gained) + (count - length gained) ≡ total_count
      many = (let long = length-append stands.blocks gained in let all = stands.many in let few = few in omega (arith, long, all, few))

      after_set : 0 < count - length gained → TakeStands area total_count first (left None) set g
      after_set some = record {
        area_is = refl;
        may = record {
          some = some;
          lacks = (let lacks = stands.may.lacks in let falls = lacking_falls s set.blocks.found area gained s.calling.job (gained_in_area (at (Some known)) s known f) in omega (arith, lacks, falls));
          room = (let room = stands.may.room in let long = length-append s.blocks.owned (map (Rattle.block_bitmap.specs.TakeScript.fresh area) gained) in let same = length-map gained (Rattle.block_bitmap.specs.TakeScript.fresh area) in let few = few in omega (arith, room, long, same, few));
        };
        to = stands.to;
        blocks = stands.blocks ++ gained;
        grown = grows_on area first s stands.blocks gained set.blocks.found stands.grown (gained_in_area (at (Some known)) s known f);
        many = many;
        passed = λ block less in_area. stays s.blocks.found word (bit_or (slice_index s.blocks.found word) (bit_or f bits)) block less ∙ stands.passed block less in_area;
        known = tt;
      }

      set_known : (place : ℕ) → bit_at (known_set (at (Some known)) s known f) place ≤ bit_at (slice_index set.blocks.found word) place
      set_known place =
          (let now = ap (λ (w : ℕ). bit_at w place) (get_or-set_same s.blocks.found word (bit_or (slice_index s.blocks.found word) (bit_or f bits)) 0 inside) in
          let before = stands.known place in
          omega (arith, now, before, bit_at_or (slice_index s.blocks.found word) (bit_or f bits) place, bit_at_or known (bit_or f bits) place))

      goes_by : (b : Bool) → (count - length gained == 0) ≡ b → (h : Ghost) → (ended_or b (left (Some known)) set (known_set (at (Some known)) s known f)).turn ≡ Go →
          TakeStands area total_count first (ended_or b (left (Some known)) set (known_set (at (Some known)) s known f)).machine (ended_or b (left (Some known)) set (known_set (at (Some known)) s known f)).seat h
      goes_by true e h go = cc
      goes_by false e h go = (let more = eqb-false (count - length gained) 0 e in
          settles area total_count first (count - length gained) passed set (known_set (at (Some known)) s known f) g (after_set (omega (arith, more))) set_known (open_at (left None) set (known_set (at (Some known)) s known f)) refl (Some known) h go)

      ends_by : (b : Bool) → (count - length gained == 0) ≡ b → (h : Ghost) (out : Taken) → all_different (owned_numbers set.blocks.owned) ≡ true → (is_pass_found set area ≡ true → HasLacked h area) →
          (ended_or b (left (Some known)) set (known_set (at (Some known)) s known f)).turn ≡ Done out → HasEnded area total_count first out (ended_or b (left (Some known)) set (known_set (at (Some known)) s known f)).seat h
      ends_by true e h out once lacked done = (let same : HasTaken ≡ out = cc in let none = eqb-true (count - length gained) 0 e in let all = many in record {
        blocks = stands.blocks ++ gained;
        grown = grows_on area first s stands.blocks gained set.blocks.found stands.grown (gained_in_area (at (Some known)) s known f);
        once = once;
        taken = λ taken. omega (arith, all, none);
        no_space = λ other is. (let never : HasTaken ≡ NoSpace other = same ∙ is in cc);
      })
      ends_by false e h out once lacked done = (let more = eqb-false (count - length gained) 0 e in
          settles_so area total_count first (count - length gained) passed set (known_set (at (Some known)) s known f) g (after_set (omega (arith, more))) set_known (open_at (left None) set (known_set (at (Some known)) s known f)) refl (Some known) h out once lacked done)

      -- the ghost part notes an area that lacks blocks, by what the step makes of the seat
      set_lacked : is_pass_found set area ≡ true → HasLacked (ghost_after g s (effect g.marks s (SetsBits word bits) f) (SetsBits word bits) f) area
      set_lacked found = has_lacked g.call.lacked (effect g.marks s (SetsBits word bits) f) area (ap (λ (x : Seat). is_pass_found x area) (effect_is (at (Some known)) s known g.marks f) ∙ found)

    set_lawful : Lawful o seat take_script no_record (TakeStands area total_count first) (HasEnded area total_count first) (at (Some known)) s g
    set_lawful = record {
      may = λ c pin began inv unspent knows. set_may (inside_by stands.to c pin began unspent knows);
      admitted = λ c pin began inv unspent knows. record { to = stands.to; inside = inside_by stands.to c pin began unspent knows; room = stands.may.room };
      enters = λ f found admits. enters_turn (ghost_after g s (effect g.marks s (SetsBits word bits) f) (SetsBits word bits) f) (effect g.marks s (SetsBits word bits) f) (take_script.after (at (Some known)) s f).seat (take_script.after (at (Some known)) s f).turn
          (effect_is (at (Some known)) s known g.marks f ∙ sym (ended_seat (count - length (gained f admits.inside) == 0) (left f admits.inside (Some known)) (set f admits.inside) (known_set (at (Some known)) s known f)));
      goes = λ f found admits go. goes_by f admits.inside (count - length (gained f admits.inside) == 0) refl (ghost_after g s (effect g.marks s (SetsBits word bits) f) (SetsBits word bits) f) go;
      ends = λ f out found admits done. ends_by f admits.inside (count - length (gained f admits.inside) == 0) refl (ghost_after g s (effect g.marks s (SetsBits word bits) f) (SetsBits word bits) f) out
          (set_once f admits.inside found) (set_lacked f admits.inside) done;
    }

  lawful_at : (known : Option ℕ) → TakeStands area total_count first (at known) s g → Lawful o seat take_script no_record (TakeStands area total_count first) (HasEnded area total_count first) (at known) s g
  lawful_at None stands = load_lawful stands
  lawful_at (Some known) stands = set_lawful known stands

pub take_serves : (o : Origin) (seat : ℕ) (area : Area) (total_count : ℕ) (first : Seat) → Serves o seat take_script no_record (TakeStands area total_count first) (HasEnded area total_count first)
take_serves o seat area total_count first m s g stands =
    subst (λ (a : Area). TakeStands area total_count first (record { area = a; count = m.count; passed = m.passed; known = m.known }) s g →
    Lawful o seat take_script no_record (TakeStands area total_count first) (HasEnded area total_count first) (record { area = a; count = m.count; passed = m.passed; known = m.known }) s g)
    (sym stands.area_is) (lawful_at o seat area total_count first m.count m.passed s g m.known) stands
