-- A log block is linked to the tail.
use Rattle.std.proofs.Common.{◌≡◌, ◌≢◌, ◌<◌, ◌≤◌, ◌+◌, ◌*◌, ◌==◌, ◌&&◌, ◌^◌, ◌⊎◌, inl, inr, ℕ, zero, suc, Bool, true, false, List, [], ◌∷◌, ◌++◌, length, get_or, set, not, if◌then◌else◌, refl, sym, ap, ◌∙◌, subst, arith}
use Rattle.std.specs.Prelude.{filter}
use Rattle.std.specs.List.{range_with_len}
use Rattle.std.proofs.lemmas.Bool.{cases_lt, eq-eqb, ne_eqb, lt-ltb}
use Rattle.std.proofs.lemmas.List.{get_or_past, get_or-set_other}
use Rattle.block_table.specs.FileMap.{FileMap}
use Rattle.log_entry.specs.Fields.{field}
use Rattle.log_entry.specs.Words.{block_word}
use Rattle.log_entry.specs.declared.words.BlockKind.TheVariants.{Log}
use Rattle.log_entry.specs.declared.layouts.TheConstants.{BLOCK_KIND, BLOCK_BASE, BLOCK_UNNAMED, LOG}
use Rattle.log_image.specs.Image.{Shape, words_in, total, is_in_data, is_in_log, block_words}
use Rattle.log_image.specs.Tails.{Tail, AtSlot, AtLink, tail_of}
use Rattle.log_image.specs.Taken.{bit_of, is_taken, HasTaken}
use Rattle.log_image.proofs.ImageLemmas.{in_block, length_range}
use Rattle.image_steps.specs.Steps.{KeepsTaken, IsFreshLog}
use Rattle.log_image.proofs.BlockLemmas.{block_inside, same_block, set_elsewhere}
use Rattle.log_image.proofs.NameLemmas.{not_data}
use Rattle.plain_engine.specs.Engine.{KeepsFirstBlock}
use Rattle.plain_engine.specs.Clear.{AllTaken, IsFirstClear}
use Rattle.plain_engine.specs.Fresh.{IsFreshWord}
use Rattle.plain_engine.specs.Running.{Runs}
use Rattle.plain_engine.specs.Space.{clear_blocks, is_link, lacks_log}
use Rattle.plain_engine.proofs.BoundsLemmas.{Bounds, past_first}
use Rattle.plain_engine.proofs.EngineLemmas.{keeps_by, clear_untaken, set_taken}
use Rattle.plain_engine.proofs.RunningSteps.{store_at, link_put}

-- no number of a range passes a test, or one does
pub none_pass : (p : ℕ → Bool) (first count : ℕ) → ((b : ℕ) → first ≤ b → b < first + count → p b ≡ false) → filter p (range_with_len first count) ≡ []
none_pass p first zero none = refl
none_pass p first (suc count) none = rw (none first (omega arith) (omega arith)) (none_pass p (first + 1) count (λ b low high. none b (omega (arith, low)) (omega (arith, high))))

pub one_passes : (p : ℕ → Bool) (first count b : ℕ) → first ≤ b → b < first + count → p b ≡ true → (length (filter p (range_with_len first count)) == 0) ≡ false
one_passes p first zero b low high passes = absurd (omega (arith, low, high))
one_passes p first (suc count) b low high passes = go (p first) refl (cases_lt first b) (λ later. one_passes p (first + 1) count b later (omega (arith, high)) passes)
  where
    go : (here : Bool) → p first ≡ here → (first < b) ⊎ (b ≤ first) → (first + 1 ≤ b → (length (filter p (range_with_len (first + 1) count)) == 0) ≡ false) → (length (filter p (range_with_len first (suc count))) == 0) ≡ false
    go true is where_b rest = rw is (ne_eqb (suc (length (filter p (range_with_len (first + 1) count)))) 0 (λ e. omega (arith, e)))
    go false is (inl before) rest = rw is (rest (omega (arith, before)))
    go false is (inr same) rest = absurd (differ (p first) (ap p (omega (arith, low, same)) ∙ passes) is)
      where
        differ : (b : Bool) → b ≡ true → b ≡ false → ⊥
        differ b yes_b no_b = cc

-- the tail is a slot
pub slot_enough : (shape : Shape) (words taken : List ℕ) (table : FileMap) (position tail_block tail_slot first_clear : ℕ) (chain file : List ℕ) → Runs shape words taken table position tail_block tail_slot first_clear chain file → tail_slot ≢ words_in shape → lacks_log words shape chain ≡ false
slot_enough shape words taken table position tail_block tail_slot first_clear chain file runs opens =
    let at : tail_of words shape chain ≡ AtSlot tail_block tail_slot = runs.fits.tail ∙ ap (λ (b : Bool). if b then AtLink tail_block else AtSlot tail_block tail_slot) (ne_eqb tail_slot (words_in shape) opens) in
    ap (λ (h : Tail). is_link h && length (clear_blocks words shape chain (1 + shape.data_blocks) shape.log_blocks) == 0) at

link_at_end : (shape : Shape) (words taken : List ℕ) (table : FileMap) (position tail_block tail_slot first_clear : ℕ) (chain file : List ℕ) → Runs shape words taken table position tail_block tail_slot first_clear chain file → tail_slot ≡ words_in shape → lacks_log words shape chain ≡ (length (clear_blocks words shape chain (1 + shape.data_blocks) shape.log_blocks) == 0)
link_at_end shape words taken table position tail_block tail_slot first_clear chain file runs closes =
    let at : tail_of words shape chain ≡ AtLink tail_block = runs.fits.tail ∙ ap (λ (b : Bool). if b then AtLink tail_block else AtSlot tail_block tail_slot) (eq-eqb tail_slot (words_in shape) closes) in
    ap (λ (h : Tail). is_link h && length (clear_blocks words shape chain (1 + shape.data_blocks) shape.log_blocks) == 0) at

-- blocks of the log area are in the image
log_area : (shape : Shape) (block : ℕ) → block < 1 + shape.data_blocks + shape.log_blocks → block < total shape
log_area shape block inside = omega (arith, inside)

-- no block of the log area is clear
pub none_lacks : (shape : Shape) (words taken : List ℕ) (table : FileMap) (position tail_block tail_slot first_clear : ℕ) (chain file : List ℕ) → Runs shape words taken table position tail_block tail_slot first_clear chain file → tail_slot ≡ words_in shape →
    AllTaken taken (1 + shape.data_blocks) (1 + shape.data_blocks + shape.log_blocks) → lacks_log words shape chain ≡ true
none_lacks shape words taken table position tail_block tail_slot first_clear chain file runs closes all =
    link_at_end shape words taken table position tail_block tail_slot first_clear chain file runs closes
    ∙ ap (λ (l : List ℕ). length l == 0) (none_pass (λ (b : ℕ). not (is_taken words shape chain b)) (1 + shape.data_blocks) shape.log_blocks
    (λ b low high. ap (λ (t : Bool). not t) (set_taken words shape chain taken b runs.fits.bitmap (log_area shape b high) (all b low high))))

-- one is
pub one_enough : (shape : Shape) (words taken : List ℕ) (table : FileMap) (position tail_block tail_slot first_clear next : ℕ) (chain file : List ℕ) → Runs shape words taken table position tail_block tail_slot first_clear chain file → tail_slot ≡ words_in shape →
    IsFirstClear taken (1 + shape.data_blocks) (1 + shape.data_blocks + shape.log_blocks) next → lacks_log words shape chain ≡ false
one_enough shape words taken table position tail_block tail_slot first_clear next chain file runs closes first =
    link_at_end shape words taken table position tail_block tail_slot first_clear chain file runs closes
    ∙ one_passes (λ (b : ℕ). not (is_taken words shape chain b)) (1 + shape.data_blocks) shape.log_blocks next first.after first.inside
    (ap (λ (t : Bool). not t) (clear_untaken words shape chain taken next runs.fits.bitmap (log_area shape next first.inside) first.clear))

-- the words of a fresh log block
fresh_block : (shape : Shape) (words : List ℕ) (next position : ℕ) → 2 ≤ words_in shape → next * words_in shape + words_in shape ≤ length words → position < 2 ^ 40 →
    ((index : ℕ) → index < words_in shape → IsFreshWord position index (get_or words (next * words_in shape + index) 0)) → IsFreshLog position (block_words words shape next)
fresh_block shape words next position long whole below fresh =
    let second : get_or (block_words words shape next) 1 0 ≡ block_word (record { kind = Log; base = position }) = in_block words shape next 1 (omega (arith, long)) ∙ fresh 1 (omega (arith, long)) in
    record {
      link = in_block words shape next 0 (omega (arith, long)) ∙ fresh 0 (omega (arith, long));
      kind = ap (λ (w : ℕ). field BLOCK_KIND w) second ∙ kind_number below;
      base = ap (λ (w : ℕ). field BLOCK_BASE w) second ∙ base_number below;
      named_bits = ap (λ (w : ℕ). field BLOCK_UNNAMED w == 0) second ∙ ap (λ (n : ℕ). n == 0) (bits_number below);
      rest = λ index some. go index some (cases_lt index (words_in shape));
    }
  where
    kind_number : position < 2 ^ 40 → field BLOCK_KIND (block_word (record { kind = Log; base = position })) ≡ LOG
    kind_number small = omega (arith, small)

    base_number : position < 2 ^ 40 → field BLOCK_BASE (block_word (record { kind = Log; base = position })) ≡ position
    base_number small = omega (arith, small)

    bits_number : position < 2 ^ 40 → field BLOCK_UNNAMED (block_word (record { kind = Log; base = position })) ≡ 0
    bits_number small = omega (arith, small)

    go : (index : ℕ) → 2 ≤ index → (index < words_in shape) ⊎ (words_in shape ≤ index) → get_or (block_words words shape next) index 0 ≡ 0
    go index some (inl inside) = in_block words shape next index inside ∙ fresh index inside ∙ rw (ne_eqb index 1 (λ e. omega (arith, e, some))) refl
    go index some (inr past) = get_or_past (block_words words shape next) index 0 (omega (arith, length_range words (next * words_in shape) (words_in shape) whole, past))

-- what the code did: a block of the log area that was clear has the words of a fresh log block
pub record Stored (shape : Shape) (words new taken : List ℕ) (position next : ℕ) : Type 0 where
  pub long : 8 ≤ words_in shape
  pub whole : length words ≡ total shape * words_in shape
  pub below : position < 2 ^ 40
  pub first : IsFirstClear taken (1 + shape.data_blocks) (1 + shape.data_blocks + shape.log_blocks) next
  pub same_length : length new ≡ length words
  pub fresh : (index : ℕ) → index < words_in shape → IsFreshWord position index (get_or new (next * words_in shape + index) 0)
  pub others : (at : ℕ) → (at < next * words_in shape) ⊎ (next * words_in shape + words_in shape ≤ at) → get_or new at 0 ≡ get_or words at 0

next_in : (shape : Shape) (words new taken : List ℕ) (position next : ℕ) → Stored shape words new taken position next → next < total shape
next_in shape words new taken position next is = log_area shape next is.first.inside

-- another block is the same
pub other_same : (shape : Shape) (words new taken : List ℕ) (position next : ℕ) → Stored shape words new taken position next → (other : ℕ) → other ≢ next → block_words new shape other ≡ block_words words shape other
other_same shape words new taken position next is other differ = same_block shape other words new is.same_length (λ index small. is.others (other * words_in shape + index) (place index small (cases_lt other next)))
  where
    place : (index : ℕ) → index < words_in shape → (other < next) ⊎ (next ≤ other) → (other * words_in shape + index < next * words_in shape) ⊎ (next * words_in shape + words_in shape ≤ other * words_in shape + index)
    place index small (inl before) = inl (omega (arith, small, block_inside (words_in shape) other next before))
    place index small (inr past) = inr (omega (arith, small, block_inside (words_in shape) next other (omega (arith, past, differ))))

pub stored_keeps : (shape : Shape) (words new taken chain : List ℕ) (position next : ℕ) → Stored shape words new taken position next → HasTaken words shape chain taken → KeepsTaken shape chain words new
stored_keeps shape words new taken chain position next is has =
    keeps_by shape words words new taken chain next 1 refl has (omega (arith, next_in shape words new taken position next is))
    (λ block low high. (let same : next ≡ block = omega (arith, low, high) in subst (λ (b : ℕ). bit_of taken b ≡ 0) same is.first.clear))
    is.same_length (λ other away. other_same shape words new taken position next is other (differ other away))
  where
    differ : (other : ℕ) → (other < next) ⊎ (next + 1 ≤ other) → other ≢ next
    differ other (inl before) e = omega (arith, before, e)
    differ other (inr past) e = omega (arith, past, e)

in_log_area : (shape : Shape) (words new taken : List ℕ) (position next : ℕ) → Stored shape words new taken position next → is_in_log shape next ≡ true
in_log_area shape words new taken position next is = rw (lt-ltb shape.data_blocks next (omega (arith, is.first.after)), lt-ltb next (total shape) (next_in shape words new taken position next is)) refl

-- the engine goes on with the block linked
pub grow_runs : (shape : Shape) (words new taken marked : List ℕ) (table : FileMap) (position tail_block tail_slot first_clear next : ℕ) (chain file : List ℕ) → Runs shape words taken table position tail_block tail_slot first_clear chain file → tail_slot ≡ words_in shape →
    Stored shape words new taken position next → length marked ≡ length taken → ((other : ℕ) → bit_of marked other ≡ (if other == next then 1 else bit_of taken other)) →
    Runs shape (set new (tail_block * words_in shape) next) marked table position next 3 first_clear (chain ++ next ∷ []) file
grow_runs shape words new taken marked table position tail_block tail_slot first_clear next chain file runs closes is same_bits marks =
    let keeps : KeepsTaken shape chain words new = stored_keeps shape words new taken chain position next is runs.fits.bitmap in
    let now_runs : Runs shape new taken table position tail_block tail_slot first_clear chain file = store_at shape words new taken table position tail_block tail_slot first_clear chain file runs keeps in
    link_put shape new taken marked table position tail_block tail_slot first_clear next chain file now_runs closes (omega (arith, is.long)) (in_log_area shape words new taken position next is)
    (clear_untaken new shape chain taken next now_runs.fits.bitmap (next_in shape words new taken position next is) is.first.clear)
    (fresh_block shape new next position (omega (arith, is.long)) (omega (arith, is.same_length, is.whole, block_inside (words_in shape) next (total shape) (next_in shape words new taken position next is))) is.below is.fresh)
    same_bits marks

-- what the code did, by the numbers that it has
pub stored_by : (shape : Shape) (words seen new taken seen_taken : List ℕ) (table : FileMap) (position tail_block tail_slot next size first end : ℕ) → Bounds shape words taken table position tail_block tail_slot → seen ≡ words → seen_taken ≡ taken → size ≡ words_in shape →
    first ≡ 1 + shape.data_blocks → end ≡ 1 + shape.data_blocks + shape.log_blocks → IsFirstClear seen_taken first end next → length new ≡ length seen →
    ((index : ℕ) → index < size → IsFreshWord position index (get_or new (next * size + index) 0)) → ((at : ℕ) → (at < next * size) ⊎ (next * size + size ≤ at) → get_or new at 0 ≡ get_or seen at 0) → Stored shape words new taken position next
stored_by shape words seen new taken seen_taken table position tail_block tail_slot next size first end is is_seen is_taken_seen is_size is_first is_end clear long fresh others = record {
  long = is.long;
  whole = is.whole;
  below = is.below;
  first = subst (λ (l : List ℕ). IsFirstClear l (1 + shape.data_blocks) (1 + shape.data_blocks + shape.log_blocks) next) is_taken_seen
      (subst (λ (n : ℕ). IsFirstClear seen_taken n (1 + shape.data_blocks + shape.log_blocks) next) is_first (subst (λ (n : ℕ). IsFirstClear seen_taken first n next) is_end clear));
  same_length = long ∙ ap length is_seen;
  fresh = subst (λ (n : ℕ). (index : ℕ) → index < n → IsFreshWord position index (get_or new (next * n + index) 0)) is_size fresh;
  others = subst (λ (l : List ℕ). (at : ℕ) → (at < next * words_in shape) ⊎ (next * words_in shape + words_in shape ≤ at) → get_or new at 0 ≡ get_or l at 0) is_seen
      (subst (λ (n : ℕ). (at : ℕ) → (at < next * n) ⊎ (next * n + n ≤ at) → get_or new at 0 ≡ get_or seen at 0) is_size others);
}

pub grow_by : (shape : Shape) (words new written taken marked bits_after : List ℕ) (table : FileMap) (position tail_block tail_slot first_clear next size : ℕ) (chain file : List ℕ) → Runs shape words taken table position tail_block tail_slot first_clear chain file → tail_slot ≡ size → size ≡ words_in shape →
    Stored shape words new taken position next → written ≡ new → bits_after ≡ marked → length marked ≡ length taken → ((other : ℕ) → bit_of marked other ≡ (if other == next then 1 else bit_of taken other)) →
    Runs shape (set written (tail_block * size) next) bits_after table position next 3 first_clear (chain ++ next ∷ []) file
grow_by shape words new written taken marked bits_after table position tail_block tail_slot first_clear next size chain file runs closes is_size is back back_taken same_bits marks =
    subst (λ (l : List ℕ). Runs shape (set l (tail_block * size) next) bits_after table position next 3 first_clear (chain ++ next ∷ []) file) (sym back)
    (subst (λ (l : List ℕ). Runs shape (set new (tail_block * size) next) l table position next 3 first_clear (chain ++ next ∷ []) file) (sym back_taken)
    (subst (λ (n : ℕ). Runs shape (set new (tail_block * n) next) marked table position next 3 first_clear (chain ++ next ∷ []) file) (sym is_size)
    (grow_runs shape words new taken marked table position tail_block tail_slot first_clear next chain file runs (closes ∙ is_size) is same_bits marks)))

-- the data blocks keep their words and their bits
pub grow_content : (shape : Shape) (words new written taken : List ℕ) (position tail_block next size : ℕ) → Stored shape words new taken position next → written ≡ new → size ≡ words_in shape → is_in_log shape tail_block ≡ true →
    (block : ℕ) → is_in_data shape block ≡ true → block_words (set written (tail_block * size) next) shape block ≡ block_words words shape block
grow_content shape words new written taken position tail_block next size is back is_size area block stored =
    let at : tail_block * size ≡ tail_block * words_in shape + 0 = omega (arith, ap (λ (n : ℕ). tail_block * n) is_size) in
    ap (λ (l : List ℕ). block_words (set l (tail_block * size) next) shape block) back
    ∙ ap (λ (n : ℕ). block_words (set new n next) shape block) at
    ∙ set_elsewhere shape new tail_block 0 next block (omega (arith, is.long)) (not_data shape block tail_block stored area)
    ∙ other_same shape words new taken position next is block (not_data shape block next stored (in_log_area shape words new taken position next is))

pub grow_bits : (shape : Shape) (words new taken marked bits_after : List ℕ) (position next : ℕ) → Stored shape words new taken position next → bits_after ≡ marked → ((other : ℕ) → bit_of marked other ≡ (if other == next then 1 else bit_of taken other)) →
    (block : ℕ) → is_in_data shape block ≡ true → bit_of bits_after block ≡ bit_of taken block
grow_bits shape words new taken marked bits_after position next is back marks block stored =
    ap (λ (l : List ℕ). bit_of l block) back ∙ marks block
    ∙ ap (λ (b : Bool). if b then 1 else bit_of taken block) (ne_eqb block next (not_data shape block next stored (in_log_area shape words new taken position next is)))

-- the start of the tail's block is inside the image
pub tail_place : (tail_block size small whole : ℕ) → size ≡ small → 8 ≤ small → tail_block * small + small ≤ whole → tail_block * size < whole
tail_place tail_block size small whole same long room = omega (arith, ap (λ (n : ℕ). tail_block * n) same, long, room)

pub block_place : (next size small total whole : ℕ) → size ≡ small → next < total → whole ≡ total * small → next * size + size ≤ whole
block_place next size small total whole same inside is = omega (arith, ap (λ (n : ℕ). next * n) same, same, is, block_inside small next total inside)

-- block 0 is the same
pub grow_first : (shape : Shape) (words new written taken : List ℕ) (position tail_block next size : ℕ) → Stored shape words new taken position next → written ≡ new → size ≡ words_in shape → is_in_log shape tail_block ≡ true → KeepsFirstBlock shape words (set written (tail_block * size) next)
grow_first shape words new written taken position tail_block next size is back is_size area = λ place inside.
    let far : words_in shape ≤ tail_block * words_in shape = past_first shape tail_block area in
    let also : words_in shape ≤ next * words_in shape = past_first shape next (in_log_area shape words new taken position next is) in
    get_or-set_other written (tail_block * size) place next 0 (λ e. omega (arith, e, inside, far, ap (λ (n : ℕ). tail_block * n) is_size))
    ∙ ap (λ (l : List ℕ). get_or l place 0) back ∙ is.others place (inl (omega (arith, inside, also)))
