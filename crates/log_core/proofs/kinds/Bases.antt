-- The present content of a partly touched virtual block, a base, is begun, or gets a word more: what a core knows of the seat stays.
use Rattle.std.proofs.Common.{◌≡◌, ◌≢◌, ◌<◌, ◌≤◌, ◌+◌, ◌-◌, ◌*◌, ◌/◌, ◌%◌, ◌⊎◌, inl, inr, ◌++◌, ℕ, zero, suc, true, false, List, [], ◌∷◌, length, refl, sym, ◌∙◌, ap, subst, arith, slice_index, Option, Some, None, length-append, mul-le-mul_right}
use Rattle.std.proofs.Math.ListN.{get_or-append}
use Rattle.std.proofs.lemmas.Bool.{cases_lt}
use Rattle.log_entry.specs.WordBytes.{word_bytes}
use Rattle.pmem_words.specs.Maps.{map_at}
use Rattle.pmem_words.specs.Seats.{Seat, q_of}
use Rattle.log_core.specs.Views.{Ghost, view_of, op_in, op_of}
use Rattle.log_core.specs.Origin.{Origin}
use Rattle.log_core.specs.Files.{file_at}
use Rattle.log_core.specs.Cores.{Core}
use Rattle.log_core.specs.Works.{OpensBase, AddsBaseWord, MayOpenBase, MayAddBaseWord, IsByteIn, kept_at, kept_word, word_of_block, last_or, base_slot, base_block, words_of, state_after_work}
use Rattle.log_core.specs.Records.{BasesHold}
use Rattle.log_core.specs.Invariant.{Invariant}
use Rattle.log_core.specs.Knows.{Knows}
use Rattle.log_core.proofs.Facts.{moved_facts}
use Rattle.log_core.proofs.BaseWords.{earlier_byte, later_byte}
use Rattle.log_core.proofs.WordBytesAt.{eight_words}
use Rattle.log_core.proofs.kinds.ReadsFile.{from_start, found_byte}

-- other bases of the call
pub bases_facts : (o : Origin) (c : Core) (n : ℕ) (s : Seat) (g : Ghost) (pin began : ℕ) (bases base_words : List ℕ) → Knows o c n s g pin began →
    BasesHold o c.history (view_of c.views n).first (words_of s) s.walk.position (record (s.calling) { bases = bases; base_words = base_words }) → (s.walk.reading ≡ true → op_in s ≢ None → bases ≡ []) →
    Knows o c n (record s { calling = record (s.calling) { bases = bases; base_words = base_words } }) g pin began
bases_facts o c n s g pin began bases base_words f hold none = moved_facts o c n s g pin began f s.walk (record (s.calling) { bases = bases; base_words = base_words }) s.giving.pins_seen s.giving.limbo_held (record {
  map = λ some. (f.fits some).map;
  walk = f.walk;
  noted = f.noted;
  scan_others = f.scan_others;
  scan_self = f.scan_self;
  writes = (let r = f.writes in record { recorded = r.recorded; running = r.running });
  writes_once = f.writes_once;
  put = f.put;
  calls = (let r = f.calls in record {
    laid = r.laid;
    bases = hold;
    reading = λ reading. (let q = r.reading reading in (q.0, q.1, q.2, q.3, q.4, none reading));
    numbers = r.numbers;
    task = (let t = r.task in record { won_runs = t.won_runs; put_collects = t.put_collects; synced_syncs = t.synced_syncs });
  });
  tail = f.tail;
  syncs = (let r = f.syncs in record { to = r.to; marks = r.marks; valid = r.valid; answered = r.answered });
})

-- numbers of whole bases, and of the words of the last one
least_more : (count more q words : ℕ) → more ≡ count + 1 → words ≡ count * q → words ≤ more * q
least_more count more q words one whole = (let larger : count * q ≤ more * q = mul-le-mul_right q (omega (arith, one)) in omega (arith, larger, whole))

all_whole : (count more q words : ℕ) → more ≡ count + 1 → words ≡ count * q → (more - 1) * q ≤ words
all_whole count more q words one whole = (let same : more - 1 ≡ count = omega (arith, one) in let e : (more - 1) * q ≡ count * q = ap (λ (k : ℕ). k * q) same in omega (arith, e, whole))

bytes_of_words : (count q bytes : ℕ) → 8 * q ≡ bytes → 8 * (count * q) ≡ count * bytes
bytes_of_words count q bytes eight = rw (← eight) (omega arith)

earlier_base : (count q bytes words place at : ℕ) → 8 * q ≡ bytes → words ≡ count * q → place * bytes + at < 8 * words → place < count
earlier_base count q bytes words place at eight whole inside = by (cases_lt place count)
  where
    by : (place < count) ⊎ (count ≤ place) → place < count
    by (inl low) = low
    by (inr past) = (let larger : count * bytes ≤ place * bytes = mul-le-mul_right bytes past in let same = bytes_of_words count q bytes eight in let long : 8 * words ≡ 8 * (count * q) = ap (λ (k : ℕ). 8 * k) whole in
        absurd (omega (arith, larger, same, long, inside)))

-- the last of some numbers
last_is : (default : ℕ) (numbers : List ℕ) → 0 < length numbers → slice_index numbers (length numbers - 1) ≡ last_or default numbers
last_is default [] some = absurd (omega (arith, some))
last_is default (number ∷ []) some = refl
last_is default (number ∷ next ∷ rest) some =
    (let place : length (number ∷ next ∷ rest) - 1 ≡ suc (length (next ∷ rest) - 1) = omega arith in
    ap (λ (k : ℕ). slice_index (number ∷ next ∷ rest) k) place ∙ last_is number (next ∷ rest) (omega arith))

zero_bytes : (k : ℕ) → slice_index (word_bytes (0 ∷ [])) k ≡ 0
zero_bytes zero = refl
zero_bytes (suc zero) = refl
zero_bytes (suc (suc zero)) = refl
zero_bytes (suc (suc (suc zero))) = refl
zero_bytes (suc (suc (suc (suc zero)))) = refl
zero_bytes (suc (suc (suc (suc (suc zero))))) = refl
zero_bytes (suc (suc (suc (suc (suc (suc zero)))))) = refl
zero_bytes (suc (suc (suc (suc (suc (suc (suc zero))))))) = refl
zero_bytes (suc (suc (suc (suc (suc (suc (suc (suc k)))))))) = refl

-- where a byte of one word more stands: behind the words before, in the last base
record PlaceOfNext (count q bytes words place at : ℕ) : Type 0 where
  pub last : place ≡ count - 1
  pub word : at / 8 ≡ words - (count - 1) * q
  pub byte : 8 * words + at % 8 ≡ place * bytes + at

place_of_next : (count q bytes words place at : ℕ) → 8 * q ≡ bytes → 0 < count → (count - 1) * q ≤ words → words - (count - 1) * q < q → place < count → at < bytes →
    8 * words ≤ place * bytes + at → place * bytes + at < 8 * (words + 1) → PlaceOfNext count q bytes words place at
place_of_next count q bytes words place at eight some whole few inside small from below =
    (let last : place ≡ count - 1 = by (cases_lt place (count - 1)) in
    let start : place * bytes ≡ 8 * ((count - 1) * q) = ap (λ (k : ℕ). k * bytes) last ∙ sym (bytes_of_words (count - 1) q bytes eight) in
    record {
      last = last;
      word = omega (arith, start, from, below, whole);
      byte = omega (arith, start, from, below, whole);
    })
  where
    by : (place < count - 1) ⊎ (count - 1 ≤ place) → place ≡ count - 1
    by (inr past) = omega (arith, past, inside)
    by (inl before) =
        (let next : (place + 1) * bytes ≤ (count - 1) * bytes = mul-le-mul_right bytes (omega (arith, before)) in
        let one : (place + 1) * bytes ≡ place * bytes + bytes = omega arith in
        let same = bytes_of_words (count - 1) q bytes eight in
        absurd (omega (arith, next, one, same, small, from, whole)))

module _ (o : Origin) (c : Core) (n : ℕ) (s : Seat) (g : Ghost) (pin began : ℕ) (inv : Invariant o c) (f : Knows o c n s g pin began) (some : (view_of c.views n).parts ≢ []) where
  -- a block is of whole words
  eight : 8 * words_of s ≡ o.geometry.block_bytes
  eight = ap (λ (k : ℕ). 8 * k) (ap q_of (f.fits some).geometry) ∙ eight_words o.geometry.block_bytes o.geometry.block_allowed

  not_reading : s.walk.at_tail ≡ true → s.walk.reading ≡ true → ⊥
  not_reading at_tail reading = (let away = (f.calls.reading reading).0 in let both : true ≡ false = sym at_tail ∙ away in cc)

  pub open_facts : (virt : ℕ) → MayOpenBase s virt → Knows o c n (state_after_work s (OpensBase virt)) g pin began
  open_facts virt may = bases_facts o c n s g pin began (s.calling.bases ++ virt ∷ []) s.calling.base_words f (record {
    most = least_more (length s.calling.bases) (length (s.calling.bases ++ virt ∷ [])) (words_of s) (length s.calling.base_words) one may.whole;
    whole = all_whole (length s.calling.bases) (length (s.calling.bases ++ virt ∷ [])) (words_of s) (length s.calling.base_words) one may.whole;
    from_first = λ some_bases. from_start o c n s g pin began inv f some may.reads;
    bytes = λ running place at inside small below. (let earlier = earlier_base (length s.calling.bases) (words_of s) o.geometry.block_bytes (length s.calling.base_words) place at eight may.whole below in
        f.calls.bases.bytes running place at earlier small below
        ∙ ap (λ (base : ℕ). slice_index (file_at o c.history s.walk.position) (base * o.geometry.block_bytes + at)) (sym (get_or-append s.calling.bases (virt ∷ []) 0 place earlier)));
  }) (λ reading. absurd (not_reading may.reads.at_tail reading))
    where
      one : length (s.calling.bases ++ virt ∷ []) ≡ length s.calling.bases + 1
      one = length-append s.calling.bases (virt ∷ [])

  module _ (may : MayAddBaseWord s) where
    abbrev word : ℕ
    word = word_of_block s (base_block s) (base_slot s)

    abbrev virt : ℕ
    virt = last_or 0 s.calling.bases

    -- each byte of the word is known
    known : (at : ℕ) → at / 8 ≡ base_slot s → IsByteIn s (map_at s.walk.map virt) at (slice_index (word_bytes (word ∷ [])) (at % 8))
    known at slot = go (base_block s) may.known
      where
        go : (found : Option ℕ) → ((block : ℕ) → found ≡ Some block → kept_at s.walk.kept block (base_slot s) ≢ None) →
            IsByteIn s found at (slice_index (word_bytes (word_of_block s found (base_slot s) ∷ [])) (at % 8))
        go None each = zero_bytes (at % 8)
        go (Some block) each = (
          subst (λ (k : ℕ). kept_at s.walk.kept block k ≢ None) (sym slot) (each block refl),
          ap (λ (k : ℕ). slice_index (word_bytes (kept_word s block k ∷ [])) (at % 8)) (sym slot),
        )

    abbrev words : List ℕ
    words = s.calling.base_words

    byte_is : (place at : ℕ) → place < length s.calling.bases → at < o.geometry.block_bytes → op_of s.calling.job s.calling.bytes ≢ None →
        place * o.geometry.block_bytes + at < 8 * length (words ++ word ∷ []) →
        slice_index (word_bytes (words ++ word ∷ [])) (place * o.geometry.block_bytes + at) ≡ slice_index (file_at o c.history s.walk.position) (slice_index s.calling.bases place * o.geometry.block_bytes + at)
    byte_is place at inside small running below = by (cases_lt (place * o.geometry.block_bytes + at) (8 * length words))
      where
        by : (place * o.geometry.block_bytes + at < 8 * length words) ⊎ (8 * length words ≤ place * o.geometry.block_bytes + at) →
            slice_index (word_bytes (words ++ word ∷ [])) (place * o.geometry.block_bytes + at) ≡ slice_index (file_at o c.history s.walk.position) (slice_index s.calling.bases place * o.geometry.block_bytes + at)
        by (inl earlier) = earlier_byte words (word ∷ []) (place * o.geometry.block_bytes + at) earlier ∙ f.calls.bases.bytes running place at inside small earlier
        by (inr late) =
            (let more = length-append words (word ∷ []) in
            let next = place_of_next (length s.calling.bases) (words_of s) o.geometry.block_bytes (length words) place at eight may.begun f.calls.bases.whole may.inside inside small late (omega (arith, below, more)) in
            ap (λ (k : ℕ). slice_index (word_bytes (words ++ word ∷ [])) k) (sym next.byte)
            ∙ (later_byte words (word ∷ []) (at % 8)
            ∙ (found_byte o c n s g pin began inv f some may.reads virt at (slice_index (word_bytes (word ∷ [])) (at % 8)) small (known at next.word)
            ∙ ap (λ (base : ℕ). slice_index (file_at o c.history s.walk.position) (base * o.geometry.block_bytes + at))
            (sym (ap (λ (k : ℕ). slice_index s.calling.bases k) next.last ∙ last_is 0 s.calling.bases may.begun)))))

    pub add_facts : Knows o c n (state_after_work s AddsBaseWord) g pin began
    add_facts = bases_facts o c n s g pin began s.calling.bases (words ++ word ∷ []) f (record {
      most = (let more = length-append words (word ∷ []) in let all = all_words (length s.calling.bases) (words_of s) (length words) may.begun f.calls.bases.whole may.inside in omega (arith, more, all));
      whole = (let more = length-append words (word ∷ []) in let low = f.calls.bases.whole in omega (arith, more, low));
      from_first = λ some_bases. from_start o c n s g pin began inv f some may.reads;
      bytes = λ running place at inside small below. byte_is place at inside small running below;
    }) (λ reading. absurd (not_reading may.reads.at_tail reading))
      where
        all_words : (count q words : ℕ) → 0 < count → (count - 1) * q ≤ words → words - (count - 1) * q < q → words + 1 ≤ count * q
        all_words count q words some low few = (let one : count ≡ (count - 1) + 1 = omega (arith, some) in
            let split : count * q ≡ (count - 1) * q + q = ap (λ (k : ℕ). k * q) one ∙ omega arith in
            omega (arith, split, low, few))
