-- Taking blocks over a plain memory: one word of the bitmap.
use Rattle.std.proofs.Common.{◌≡◌, ◌<◌, ◌≤◌, ◌+◌, ◌-◌, ◌*◌, ◌/◌, ◌⊎◌, inl, inr, nat_lt, ℕ, Bool, true, false, List, [], length, take, slice_index, slice_set, refl, sym, ap, ◌∙◌, subst, arith}
use Rattle.std.specs.Prelude.{bit_or, Option, None}
use Rattle.std.proofs.lemmas.Bool.{ltb-true, ltb-false}
use Rattle.std.proofs.lemmas.List.{length-set, get_or-set_same, get_or-set_other}
use Rattle.std.proofs.lemmas.Nat.Bits.{bit_at_or, same_from_bits}
use Rattle.log_entry.specs.Geometry.{count_of, first_of}
use Rattle.log_entry.specs.declared.shapes.Area.{Area}
use Rattle.pmem_words.specs.Seats.{Seat, owned_room, bitmap_words}
use Rattle.pmem_words.specs.Courses.{over}
use Rattle.pmem_words.specs.Leads.{Leads, LeadsAfter}
use Rattle.asks.specs.SharedWords.{SharedWords}
use Rattle.pmem_words.specs.PlainWords.{plain}
use Rattle.pmem_words.proofs.LeadsLemmas.{leads_weaker}
use Rattle.log_core.specs.Works.{seat_shape}
use Rattle.block_bitmap.specs.declared.take.Take.{Take}
use Rattle.block_bitmap.specs.declared.take.Taken.{Taken}
use Rattle.block_bitmap.specs.declared.take.Taken.TheVariants.{NoSpace}
use Rattle.block_bitmap.specs.TakeBits.{bits_of}
use Rattle.block_bitmap.specs.TakeScript.{last_word, with_taken_blocks, moved_on, less, take_script}
use Rattle.block_bitmap.specs.TakeAlone.{AreSet, found_as, HasFound}
use Rattle.block_bitmap.proofs.TakeWords.{some_in, within_total}
use Rattle.block_bitmap.proofs.TakeChosen.{wanted_again}
use Rattle.block_bitmap.proofs.TakeRest.{clear_at}
use Rattle.block_bitmap.proofs.TakeMarks.{none_set, set_in}
use Rattle.block_bitmap.proofs.TakeCompose.{RestAlone, Passes, ends_short, goes_on}

-- a pass that has come so far
abbrev pub pass_at : Area → ℕ → ℕ → Take
pass_at area count passed = record { area = area; count = count; passed = passed; known = None }

-- there is room in the list of owned blocks, and a bit for each block of the image
pub record CanPass (area : Area) (count : ℕ) (s : Seat) (p : SharedWords) : Type 0 where
  pub room : length s.blocks.owned + count ≤ owned_room s.geometry
  pub found : length s.blocks.found ≡ bitmap_words s.geometry
  pub bitmap : last_word area s < length p.taken

-- what setting the same bits once more leaves
twice : (f a b : ℕ) → bit_or (bit_or f a) (bit_or a b) ≡ bit_or f (bit_or a b)
twice f a b = same_from_bits (bit_or (bit_or f a) (bit_or a b)) (bit_or f (bit_or a b)) (λ i. omega (arith, bit_at_or (bit_or f a) (bit_or a b) i, bit_at_or f a i, bit_at_or f (bit_or a b) i, bit_at_or a b i))

pub last_inside : (area : Area) (s : Seat) → last_word area s < bitmap_words s.geometry
last_inside area s = (let inside = within_total s.geometry area in let some = some_in s.geometry area in omega (arith, inside, some))

module _ (area : Area) (passed count : ℕ) (s : Seat) (p : SharedWords) (can : CanPass area count s p) (some : 0 < count) (to : first_of s.geometry area / 64 + passed ≤ last_word area s) where
  abbrev pub word : ℕ
  word = first_of s.geometry area / 64 + passed

  abbrev pub found : ℕ
  found = slice_index p.taken (first_of s.geometry area / 64 + passed)

  abbrev pub here : List ℕ
  here = clear_at s.geometry area p.taken (first_of s.geometry area / 64 + passed)

  abbrev pub seen_once : List ℕ
  seen_once = slice_set s.blocks.found word (bit_or (slice_index s.blocks.found word) found)

  abbrev pub bits : ℕ
  bits = bits_of (take count here)

  abbrev pub seen_twice : List ℕ
  seen_twice = slice_set seen_once word (bit_or (slice_index seen_once word) (bit_or found bits))

  abbrev pub next : List ℕ
  next = slice_set p.taken word (bit_or found bits)

  abbrev pub Ends : Taken → Seat → SharedWords → Type 0
  Ends out t q = RestAlone area count word s p out t q

  pub inside : word < length p.taken
  inside = (let bitmap = can.bitmap in omega (arith, bitmap, to))

  pub inside_found : word < length s.blocks.found
  inside_found = (let long = can.found in let last = last_inside area s in omega (arith, long, last, to))

  pub from_first : first_of s.geometry area < word * 64 + 64
  from_first = omega arith

  pub to_end : word * 64 < first_of s.geometry area + count_of s.geometry area
  to_end = (let some = some_in s.geometry area in omega (arith, to, some))

  pub found_once : HasFound word word p.taken s.blocks.found seen_once
  found_once = record {
    long = length-set s.blocks.found word (bit_or (slice_index s.blocks.found word) found);
    passed = λ v low high. (let same : v ≡ word = omega (arith, low, high) in
        subst (λ (w : ℕ). slice_index seen_once w ≡ bit_or (slice_index s.blocks.found w) (slice_index p.taken w)) (sym same) (get_or-set_same s.blocks.found word (bit_or (slice_index s.blocks.found word) found) 0 inside_found));
    others = λ v out. get_or-set_other s.blocks.found word v (bit_or (slice_index s.blocks.found word) found) 0 (λ same. out_not v out same);
  }
    where
      out_not : (v : ℕ) → (v < word) ⊎ (word < v) → v ≡ word → ⊥
      out_not v (inl less) same = omega (arith, less, same)
      out_not v (inr more) same = omega (arith, more, same)

  -- where nothing of the word is clear
  pub passes_none : here ≡ [] → Passes word here p.taken p.taken s.blocks.found seen_once
  passes_none none = record { found_is = found_once; set = subst (λ (blocks : List ℕ). AreSet blocks p.taken p.taken) (sym none) (none_set p.taken); kept = λ v other. refl }

  -- where the least clear ones are taken
  pub passes_some : Passes word (take count here) p.taken next s.blocks.found seen_twice
  passes_some = record {
    found_is = record {
      long = length-set seen_once word (bit_or (slice_index seen_once word) (bit_or found bits)) ∙ found_once.long;
      passed = λ v low high. (let same : v ≡ word = omega (arith, low, high) in subst (λ (w : ℕ). slice_index seen_twice w ≡ bit_or (slice_index s.blocks.found w) (slice_index next w)) (sym same) at);
      others = λ v out. get_or-set_other seen_once word v (bit_or (slice_index seen_once word) (bit_or found bits)) 0 (λ same. out_not v out same) ∙ found_once.others v out;
    };
    set = subst (λ (blocks : List ℕ). AreSet blocks p.taken next) (wanted_again (seat_shape s) area word found count) (set_in p.taken word bits inside);
    kept = λ v other. get_or-set_other p.taken word v (bit_or found bits) 0 other;
  }
    where
      out_not : (v : ℕ) → (v < word) ⊎ (word < v) → v ≡ word → ⊥
      out_not v (inl less) same = omega (arith, less, same)
      out_not v (inr more) same = omega (arith, more, same)

      at : slice_index seen_twice word ≡ bit_or (slice_index s.blocks.found word) (slice_index next word)
      at = get_or-set_same seen_once word (bit_or (slice_index seen_once word) (bit_or found bits)) 0 (subst (λ (n : ℕ). word < n) (sym found_once.long) inside_found)
          ∙ ap (λ (f : ℕ). bit_or f (bit_or found bits)) (found_once.passed word (omega arith) (omega arith))
          ∙ twice (slice_index s.blocks.found word) found bits
          ∙ ap (bit_or (slice_index s.blocks.found word)) (sym (get_or-set_same p.taken word (bit_or found bits) 0 inside))

  -- on from the word, or the end, after all its clear blocks were taken
  module _ (after seen : List ℕ) (n : ℕ) (t : Seat) (known : Option ℕ) (passes : Passes word here p.taken after s.blocks.found seen) (short : length here < count)
      (is : found_as seen (with_taken_blocks area here s) ≡ t) (left : count - length here ≡ n)
      (later : word < last_word area s → Leads take_script (over take_script plain) (λ out u q. RestAlone area n (first_of s.geometry area / 64 + (passed + 1)) t (record p { taken = after }) out u q) (pass_at area n (passed + 1)) t (record p { taken = after })) where
    pub continues : (out : Taken) (u : Seat) (q : SharedWords) → RestAlone area n (first_of s.geometry area / 64 + (passed + 1)) t (record p { taken = after }) out u q → Ends out u q
    continues out u q r = goes_on area count word s p after seen from_first to_end passes short out u q
        (subst (λ (x : Seat). RestAlone area (count - length here) (word + 1) x (record p { taken = after }) out u q) (sym is)
        (subst (λ (k : ℕ). RestAlone area k (word + 1) t (record p { taken = after }) out u q) (sym left)
        (subst (λ (w : ℕ). RestAlone area n w t (record p { taken = after }) out u q) {x = first_of s.geometry area / 64 + (passed + 1)} {y = word + 1} (omega arith) r)))

    pub moves_by : (b : Bool) → nat_lt word (last_word area s) ≡ b → LeadsAfter take_script (over take_script plain) Ends (moved_on b (record { area = area; count = n; passed = passed; known = known }) t) (record p { taken = after })
    moves_by true e = leads_weaker take_script (over take_script plain) (λ out u q. RestAlone area n (first_of s.geometry area / 64 + (passed + 1)) t (record p { taken = after }) out u q) Ends continues (later (ltb-true word (last_word area s) e))
    moves_by false e = subst (λ (x : Seat). Ends (NoSpace area) x (record p { taken = after })) is
        (ends_short area count word s p after seen from_first to_end passes (let most = ltb-false word (last_word area s) e in omega (arith, most, to)) short)
