-- What the reading of a range makes of one word that was loaded.
use Rattle.std.proofs.Common.{◌≡◌, ◌⊎◌, inl, inr, ℕ, ◌+◌, ◌-◌, ◌/◌, ◌%◌, ◌<◌, ◌≤◌, ◌==◌, ◌||◌, ◌++◌, Bool, true, false, List, [], ◌∷◌, length, length-append, replicate, slice_index, Option, Some, None, refl, sym, ap, subst, ◌∙◌, arith, append_assoc}
use Rattle.std.proofs.lemmas.Bool.{eqb-true, eqb-false, cases_lt}
use Rattle.std.proofs.lemmas.List.{get_or_append_left, get_or-append-add, get_or-replicate, length-replicate}
use Rattle.std.proofs.lemmas.Nat.{mod_below}
use Rattle.log_entry.specs.WordBytes.{word_bytes}
use Rattle.log_entry.proofs.WordBytesLemmas.{eight_each}
use Rattle.log_image.proofs.ImageLemmas.{in_range, length_range}
use Rattle.pmem_words.specs.declared.keeps.KeptWord.{KeptWord}
use Rattle.pmem_words.specs.declared.machine.Turn.TheVariants.{Go, Done}
use Rattle.pmem_words.specs.Maps.{map_at}
use Rattle.pmem_words.specs.Seats.{Seat}
use Rattle.pmem_words.specs.Scripts.{After}
use Rattle.log_core.specs.Views.{Ghost}
use Rattle.log_core.specs.Origin.{Origin}
use Rattle.log_core.specs.Works.{Work, Lays, Forgets, MayReadFile, MayLay, IsByteIn, IsByteAt, kept_at, word_or_zero}
use Rattle.log_core.specs.Steps.{is_tail_found}
use Rattle.log_blocks.proofs.Loading.{at_place, seen, IsComputed}
use Rattle.log_blocks.proofs.KeptLists.{kept_last}
use Rattle.read_validate.specs.declared.range.ReadRange.{ReadRange}
use Rattle.read_validate.specs.Looking.{count_in}
use Rattle.read_validate.specs.Ranges.{next_mapped, reading_at, rest_of, word_at, zeros_laid, taken_of, bytes_from, word_laid, after_laid}
use Rattle.read_validate.proofs.NextMapped.{next_at_most}
use Rattle.read_validate.proofs.RangePlaces.{in_word}
use Rattle.read_validate.proofs.RangeStanding.{unread, IsAt, MayReadRange, IsReading, HasReadRange, goes_on, all_laid}
use Rattle.read_validate.proofs.ZerosLaid.{HasWholeMap, none_mapped, zero_at}

or_kept : (at found : Bool) → at ≡ true → (at || found) ≡ at
or_kept true found is = refl
or_kept false found is = cc

-- both ways lead to the seat with the bytes laid
pub laid_seat : (rest : Option ReadRange) (m : ReadRange) (s : Seat) → (after_laid rest m s).seat ≡ s
laid_seat None m s = refl
laid_seat (Some next) m s = refl

-- where a place is said otherwise
pub goes_at : (offset count end : ℕ) (s : Seat) (p : ℕ) → offset + length s.calling.bytes ≡ p → p ≤ end → end ≡ offset + count_in offset count s → next_mapped end p s < end →
    IsAt offset count (record { place = next_mapped end p s; end = end; word = word_at (next_mapped end p s) s }) (zeros_laid end p s)
goes_at offset count end s p is = subst (λ (x : ℕ). x ≤ end → end ≡ offset + count_in offset count s → next_mapped end x s < end →
    IsAt offset count (record { place = next_mapped end x s; end = end; word = word_at (next_mapped end x s) s }) (zeros_laid end x s)) is (λ upto end_is low. goes_on offset count end s upto end_is low)

pub laid_at : (offset count end : ℕ) (s : Seat) (p : ℕ) → offset + length s.calling.bytes ≡ p → p ≤ end → end ≡ offset + count_in offset count s → next_mapped end p s ≡ end →
    length (zeros_laid end p s).calling.bytes ≡ count_in offset count s
laid_at offset count end s p is = subst (λ (x : ℕ). x ≤ end → end ≡ offset + count_in offset count s → next_mapped end x s ≡ end →
    length (zeros_laid end x s).calling.bytes ≡ count_in offset count s) is (λ upto end_is past. all_laid offset count end s upto end_is past)

module _ (offset count : ℕ) (o : Origin) (seat : ℕ) (m : ReadRange) (s : Seat) (g : Ghost) (may : MayReadRange offset count m s) where
  abbrev pub block : ℕ
  block = may.at.block

  abbrev pub slot : ℕ
  slot = m.place % s.geometry.block_bytes / 8

  abbrev pub e : ℕ → Seat
  e f = seen o seat s g block slot f

  abbrev t : ℕ → Seat
  t f = word_laid m s f

  -- where it goes on after the bytes of the word
  abbrev p : ℕ
  p = m.place + taken_of m

  abbrev next : ℕ → ℕ
  next f = next_mapped m.end p (t f)

  abbrev zeros : ℕ → List ℕ
  zeros f = replicate (next f - p) 0

  abbrev pub told : ℕ → After ReadRange (Unit {0})
  told f = after_laid (rest_of m.end p (t f)) m (zeros_laid m.end p (t f))

  abbrev pub works : ℕ → List Work
  works f = Lays (bytes_from m f ++ zeros f) ∷ Forgets ∷ []

  within_word : m.place % 8 + taken_of m ≤ 8
  within_word = (let low = mod_below m.place 8 (omega arith) in omega (arith, low))

  some_taken : 0 < taken_of m
  some_taken = (let low = mod_below m.place 8 (omega arith) in let inside = may.at.low in omega (arith, low, inside))

  upto : p ≤ m.end
  upto = (let low = may.at.low in omega (arith, low))

  bytes_long : (f : ℕ) → length (bytes_from m f) ≡ taken_of m
  bytes_long f = length_range (word_bytes (f ∷ [])) (m.place % 8) (taken_of m) (let eight = eight_each (f ∷ []) in let inside = within_word in omega (arith, eight, inside))

  all_long : (f : ℕ) → length (bytes_from m f ++ zeros f) ≡ taken_of m + (next f - p)
  all_long f = length-append (bytes_from m f) (zeros f) ∙ (let first = bytes_long f in let rest = length-replicate {A = ℕ} (next f - p) 0 in omega (arith, first, rest))

  p_is : (f : ℕ) → offset + length (t f).calling.bytes ≡ p
  p_is f = (let long = length-append s.calling.bytes (bytes_from m f) in let first = bytes_long f in let at = may.at.place in omega (arith, long, first, at))

  tail_now : (f : ℕ) → (e f).walk.at_tail ≡ s.walk.at_tail
  tail_now f = or_kept s.walk.at_tail (is_tail_found s (at_place o seat s g block slot) f) may.at_tail

  module _ (whole : HasWholeMap s) (f : ℕ) where
    -- each byte is one of the word, or of an unmapped block
    byte_at : (k : ℕ) → k < length (bytes_from m f ++ zeros f) → IsByteAt (e f) (m.place + k) (slice_index (bytes_from m f ++ zeros f) k)
    byte_at k low = by (cases_lt k (taken_of m))
      where
        by : (k < taken_of m) ⊎ (taken_of m ≤ k) → IsByteAt (e f) (m.place + k) (slice_index (bytes_from m f ++ zeros f) k)
        by (inl here) =
            (let inside = within_word in
            let long = bytes_long f in
            let word = in_word s m.place k (omega (arith, here, inside)) in
            let kept : kept_at (e f).walk.kept block ((m.place + k) % s.geometry.block_bytes / 8) ≡ Some f =
            ap (λ (n : ℕ). kept_at (e f).walk.kept block n) word.1 ∙ kept_last s.walk.kept block slot f in
            subst (λ (found : Option ℕ). IsByteIn (e f) found ((m.place + k) % s.geometry.block_bytes) (slice_index (bytes_from m f ++ zeros f) k))
            (sym (ap (λ (v : ℕ). map_at s.walk.map v) word.0 ∙ may.at.mapped)) (
              (λ none. (let both : None ≡ Some f = sym none ∙ kept in cc)),
              get_or_append_left (bytes_from m f) (zeros f) 0 k (omega (arith, here, long))
                  ∙ (in_range (word_bytes (f ∷ [])) (m.place % 8) (taken_of m) k here
                  ∙ (ap (λ (n : ℕ). slice_index (word_bytes (f ∷ [])) n) (sym word.2)
                  ∙ ap (λ (found : Option ℕ). slice_index (word_bytes (word_or_zero found ∷ [])) ((m.place + k) % s.geometry.block_bytes % 8)) (sym kept))),
            ))
        by (inr past) =
            (let long = bytes_long f in
            let all = all_long f in
            zero_at (e f) (m.place + k) (slice_index (bytes_from m f ++ zeros f) k)
            (none_mapped (t f) whole m.end p (m.place + k) (omega (arith, past)) (omega (arith, past, low, all)))
            (ap (λ (n : ℕ). slice_index (bytes_from m f ++ zeros f) n) (let same : k ≡ length (bytes_from m f) + (k - taken_of m) = omega (arith, long, past) in same)
            ∙ (get_or-append-add (bytes_from m f) (zeros f) (k - taken_of m) 0
            ∙ get_or-replicate (next f - p) (k - taken_of m) 0 0 (omega (arith, past, low, all)))))

    reads : MayReadFile (e f)
    reads = record { valid = may.valid; own_table = may.ready; at_tail = tail_now f ∙ may.at_tail }

    lays : MayLay (e f) (bytes_from m f ++ zeros f)
    lays =
        (let all = all_long f in
        let most = next_at_most m.end p (t f) upto in
        let at = may.at.place in
        let low = may.at.low in
        let end_is = may.at.end_is in
        let inside = upto in
        record {
          reads = reads;
          offset = offset;
          count = count;
          job = may.job;
          few = omega (arith, all, most, at, low, end_is, inside);
          inside = omega (arith, all, most, at, low, end_is, inside);
          each = λ k few. subst (λ (n : ℕ). IsByteAt (e f) (n + k) (slice_index (bytes_from m f ++ zeros f) k)) at (byte_at k few);
        })

    pub computed : IsComputed g (e f) (works f) (told f).seat
    computed = record {
      may = (lays, (tt, tt));
      going_on = refl;
      gives = laid_seat (rest_of m.end p (t f)) m (zeros_laid m.end p (t f))
          ∙ (ap (λ (l : List ℕ). record s { calling = record s.calling { bytes = l } }) (append_assoc s.calling.bytes (bytes_from m f) (zeros f))
          ∙ (ap (λ (l : List KeptWord). record s { walk = record s.walk { kept = l }; calling = record s.calling { bytes = s.calling.bytes ++ (bytes_from m f ++ zeros f) } }) may.none_kept
          ∙ ap (λ (b : Bool). record s { walk = record s.walk { kept = []; at_tail = b }; calling = record s.calling { bytes = s.calling.bytes ++ (bytes_from m f ++ zeros f) } }) (sym (tail_now f))));
    }

  -- it goes on at the next mapped byte, or has laid all
  module _ (s0 : Seat) (g0 : Ghost) (rest : unread s ≡ unread s0) (ghost : g ≡ g0) (f : ℕ) where
    pub goes : (told f).turn ≡ Go → IsReading offset count s0 g0 (told f).machine (told f).seat g
    goes = by (next f == m.end) refl
      where
        by : (b : Bool) → (next f == m.end) ≡ b → (after_laid (reading_at b m.end (next f) (t f)) m (zeros_laid m.end p (t f))).turn ≡ Go →
            IsReading offset count s0 g0 (after_laid (reading_at b m.end (next f) (t f)) m (zeros_laid m.end p (t f))).machine (after_laid (reading_at b m.end (next f) (t f)) m (zeros_laid m.end p (t f))).seat g
        by true is go = cc
        by false is go = record {
          rest = rest;
          ghost = ghost;
          at = goes_at offset count m.end (t f) p (p_is f) upto may.at.end_is (let other = eqb-false (next f) m.end is in let most = next_at_most m.end p (t f) upto in omega (arith, other, most));
        }

    pub ends : (out : Unit {0}) → (told f).turn ≡ Done out → HasReadRange offset count s0 g0 out (told f).seat g
    ends out = by (next f == m.end) refl
      where
        by : (b : Bool) → (next f == m.end) ≡ b → (after_laid (reading_at b m.end (next f) (t f)) m (zeros_laid m.end p (t f))).turn ≡ Done out →
            HasReadRange offset count s0 g0 out (after_laid (reading_at b m.end (next f) (t f)) m (zeros_laid m.end p (t f))).seat g
        by true is done = record {
          rest = rest;
          ghost = ghost;
          long = laid_at offset count m.end (t f) p (p_is f) upto may.at.end_is (eqb-true (next f) m.end is);
        }
        by false is done = cc
