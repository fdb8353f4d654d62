-- What the steps on an image's words make of what an engine keeps.
use Rattle.std.proofs.Common.{◌≡◌, ◌≢◌, ◌<◌, ◌≤◌, ◌+◌, ◌*◌, ◌==◌, ◌^◌, ◌||◌, ◌⊎◌, inl, inr, ℕ, Bool, true, false, List, [], ◌∷◌, ◌++◌, length, set, if◌then◌else◌, refl, sym, ap, ◌∙◌, subst, arith}
use Rattle.std.proofs.lemmas.List.Folds.{list_any-append}
use Rattle.std.proofs.lemmas.Grind.{flat_map-append}
use Rattle.std.proofs.lemmas.Bool.{eq-eqb, ne_eqb, eqb-true, eqb-false}
use Rattle.block_table.specs.FileMap.{FileMap}
use Rattle.log_image.specs.Image.{Shape, words_in, total, is_in_log, block_words}
use Rattle.log_image.specs.Header.{shape_of}
use Rattle.log_image.specs.Entries.{Meaning, direct_meaning, names, all_names}
use Rattle.log_image.specs.Maps.{map_of}
use Rattle.log_image.specs.Positions.{entries_of}
use Rattle.log_image.specs.Tails.{AtSlot, AtLink, tail_of, IsClear}
use Rattle.log_image.specs.Taken.{bit_of, is_taken}
use Rattle.image_steps.specs.Steps.{StandsClear, KeepsTaken, StandsAsBefore, IsEntryOf, TakesEntry, IsFreshLog, TakesBlock}
use Rattle.image_steps.proofs.StoreStep.{stores_mean_nothing, nothing_after}
use Rattle.image_steps.proofs.EntryStep.{entries_are_writes}
use Rattle.image_steps.proofs.LinkStep.{links_grow_the_log}
use Rattle.log_image.specs.Chains.{is_listed}
use Rattle.log_image.proofs.NameLemmas.{or_left, or_right}
use Rattle.chain_reader.specs.Tables.{HasMap}
use Rattle.plain_engine.specs.Running.{Runs}

-- the image as the laws see it
pub stands_clear : (words taken : List ℕ) (table : FileMap) (position tail_block tail_slot first_clear : ℕ) (chain file : List ℕ) → Runs (shape_of words) words taken table position tail_block tail_slot first_clear chain file → StandsClear words chain file position
stands_clear words taken table position tail_block tail_slot first_clear chain file runs = record { stands = runs.stands; clear = runs.fits.clear }

-- the same entries name the same blocks
taken_same : (old new : List ℕ) (shape : Shape) (chain : List ℕ) → entries_of new shape chain ≡ entries_of old shape chain → (block : ℕ) → is_taken new shape chain block ≡ is_taken old shape chain block
taken_same old new shape chain same block = ap (λ (l : List Meaning). block == 0 || is_listed (chain ++ all_names l) block) same

-- words of blocks that are not taken are stored
pub store_step : (words new taken : List ℕ) (table : FileMap) (position tail_block tail_slot first_clear : ℕ) (chain file : List ℕ) → Runs (shape_of words) words taken table position tail_block tail_slot first_clear chain file →
    KeepsTaken (shape_of words) chain words new → Runs (shape_of words) new taken table position tail_block tail_slot first_clear chain file
store_step words new taken table position tail_block tail_slot first_clear chain file runs keeps =
    let is : StandsAsBefore words new chain file position = stores_mean_nothing words new chain file position (stands_clear words taken table position tail_block tail_slot first_clear chain file runs) keeps in
    record {
      stands = is.stands.stands;
      fits = record {
        same_shape = is.header.same_shape;
        clear = subst (λ (s : Shape). IsClear new s (tail_of new s chain)) is.header.same_shape is.stands.clear;
        tail = is.tail ∙ runs.fits.tail;
        bitmap = record { room = runs.fits.bitmap.room; bits = λ block inside. runs.fits.bitmap.bits block inside ∙ ap (λ (b : Bool). if b then 1 else 0) (sym (taken_same words new (shape_of words) chain is.entries block)) };
        map = record { each = λ virt. runs.fits.map.each virt ∙ ap (λ (l : List Meaning). map_of l virt) (sym is.entries) };
        size = runs.fits.size;
        low = λ block some before. taken_same words new (shape_of words) chain is.entries block ∙ runs.fits.low block some before;
      };
    }

-- a block is taken after an entry where it was, or where the entry names it
pub taken_entry : (old new : List ℕ) (shape : Shape) (chain : List ℕ) (entry : Meaning) → entry.holder ≡ [] → entries_of new shape chain ≡ entries_of old shape chain ++ entry ∷ [] → (block : ℕ) → is_taken new shape chain block ≡ (is_taken old shape chain block || is_listed entry.blocks block)
taken_entry old new shape chain entry direct more block =
    ap (λ (l : List Meaning). block == 0 || is_listed (chain ++ all_names l) block) more
    ∙ ap (λ (l : List ℕ). block == 0 || is_listed (chain ++ l) block) (flat_map-append names (entries_of old shape chain) (entry ∷ []) ∙ ap (λ (l : List ℕ). all_names (entries_of old shape chain) ++ l) (nothing_after (names entry) ∙ ap (λ (l : List ℕ). l ++ entry.blocks) direct))
    ∙ ap (λ (b : Bool). block == 0 || b) (list_any-append (λ (n : ℕ). n == block) chain (all_names (entries_of old shape chain) ++ entry.blocks)
    ∙ ap (λ (b : Bool). is_listed chain block || b) (list_any-append (λ (n : ℕ). n == block) (all_names (entries_of old shape chain)) entry.blocks))
    ∙ regroup (block == 0) (is_listed chain block) (is_listed (all_names (entries_of old shape chain)) block) (is_listed entry.blocks block)
    ∙ ap (λ (b : Bool). (block == 0 || b) || is_listed entry.blocks block) (sym (list_any-append (λ (n : ℕ). n == block) chain (all_names (entries_of old shape chain))))
  where
    regroup : (a b c d : Bool) → (a || (b || (c || d))) ≡ ((a || (b || c)) || d)
    regroup true b c d = refl
    regroup false true c d = refl
    regroup false false c d = refl

-- an entry is put into the tail's slot
pub entry_step : (words taken new_taken : List ℕ) (table new_table : FileMap) (position tail_block tail_slot first_clear new_clear : ℕ) (chain file new_file : List ℕ) (word : ℕ) → Runs (shape_of words) words taken table position tail_block tail_slot first_clear chain file →
    tail_slot ≢ words_in (shape_of words) → position + 1 < 2 ^ 40 → IsEntryOf words (shape_of words) chain file new_file word →
    length new_taken ≡ length taken → ((block : ℕ) → bit_of new_taken block ≡ (if is_listed (direct_meaning word).blocks block then 1 else bit_of taken block)) →
    HasMap new_table (entries_of words (shape_of words) chain ++ direct_meaning word ∷ []) → new_table.size ≡ length new_file →
    ((block : ℕ) → 1 ≤ block → block < new_clear → (is_taken words (shape_of words) chain block ≡ true) ⊎ (is_listed (direct_meaning word).blocks block ≡ true)) →
    Runs (shape_of words) (set words (tail_block * words_in (shape_of words) + tail_slot) word) new_taken new_table (position + 1) tail_block (tail_slot + 1) new_clear chain new_file
entry_step words taken new_taken table new_table position tail_block tail_slot first_clear new_clear chain file new_file word runs opens room entry same_bits bits maps size low =
    let at : tail_of words (shape_of words) chain ≡ AtSlot tail_block tail_slot = runs.fits.tail ∙ ap (λ (b : Bool). if b then AtLink tail_block else AtSlot tail_block tail_slot) (ne_eqb tail_slot (words_in (shape_of words)) opens) in
    let new : List ℕ = set words (tail_block * words_in (shape_of words) + tail_slot) word in
    let is : TakesEntry words (set words (tail_block * words_in (shape_of words) + tail_slot) word) chain new_file position tail_block tail_slot word =
    entries_are_writes words chain file new_file position tail_block tail_slot word (stands_clear words taken table position tail_block tail_slot first_clear chain file runs) at room entry in
    let takes : (block : ℕ) → is_taken (set words (tail_block * words_in (shape_of words) + tail_slot) word) (shape_of words) chain block ≡ (is_taken words (shape_of words) chain block || is_listed (direct_meaning word).blocks block) =
    taken_entry words (set words (tail_block * words_in (shape_of words) + tail_slot) word) (shape_of words) chain (direct_meaning word) refl is.entries in
    record {
      stands = is.stands.stands;
      fits = record {
        same_shape = is.header.same_shape;
        clear = subst (λ (s : Shape). IsClear (set words (tail_block * words_in (shape_of words) + tail_slot) word) s (tail_of (set words (tail_block * words_in (shape_of words) + tail_slot) word) s chain)) is.header.same_shape is.stands.clear;
        tail = is.tail;
        bitmap = record {
          room = subst (λ (n : ℕ). total (shape_of words) ≤ 64 * n) (sym same_bits) runs.fits.bitmap.room;
          bits = λ block inside.
              bits block ∙ ap (λ (n : ℕ). if is_listed (direct_meaning word).blocks block then 1 else n) (runs.fits.bitmap.bits block inside)
              ∙ both_bits (is_taken words (shape_of words) chain block) (is_listed (direct_meaning word).blocks block) ∙ ap (λ (b : Bool). if b then 1 else 0) (sym (takes block));
        };
        map = record { each = λ virt. maps.each virt ∙ ap (λ (l : List Meaning). map_of l virt) (sym is.entries) };
        size = size;
        low = λ block some before. takes block ∙ either (is_taken words (shape_of words) chain block) (is_listed (direct_meaning word).blocks block) (low block some before);
      };
    }
  where
    both_bits : (a b : Bool) → ◌≡◌ {A = ℕ} (if b then 1 else (if a then 1 else 0)) (if a || b then 1 else 0)
    both_bits true true = refl
    both_bits true false = refl
    both_bits false true = refl
    both_bits false false = refl

    either : (a b : Bool) → (a ≡ true) ⊎ (b ≡ true) → (a || b) ≡ true
    either a b (inl is) = or_left a b is
    either a b (inr is) = or_right a b is

-- a block is taken after the log grew where it was, or where it is the new one
pub taken_block : (old new : List ℕ) (shape : Shape) (chain : List ℕ) (next : ℕ) → entries_of new shape (chain ++ next ∷ []) ≡ entries_of old shape chain → (block : ℕ) → is_taken new shape (chain ++ next ∷ []) block ≡ (is_taken old shape chain block || next == block)
taken_block old new shape chain next same block =
    ap (λ (l : List Meaning). block == 0 || is_listed ((chain ++ next ∷ []) ++ all_names l) block) same
    ∙ ap (λ (b : Bool). block == 0 || b) (list_any-append (λ (n : ℕ). n == block) (chain ++ next ∷ []) (all_names (entries_of old shape chain))
    ∙ ap (λ (b : Bool). b || is_listed (all_names (entries_of old shape chain)) block) (list_any-append (λ (n : ℕ). n == block) chain (next ∷ [])))
    ∙ regroup (block == 0) (is_listed chain block) (next == block) (is_listed (all_names (entries_of old shape chain)) block)
    ∙ ap (λ (b : Bool). (block == 0 || b) || next == block) (sym (list_any-append (λ (n : ℕ). n == block) chain (all_names (entries_of old shape chain))))
  where
    regroup : (a b c d : Bool) → (a || ((b || (c || false)) || d)) ≡ ((a || (b || d)) || c)
    regroup true b c d = refl
    regroup false true c d = refl
    regroup false false true true = refl
    regroup false false true false = refl
    regroup false false false true = refl
    regroup false false false false = refl

-- a fresh log block is linked to the tail
pub link_step : (words taken new_taken : List ℕ) (table : FileMap) (position tail_block tail_slot first_clear next : ℕ) (chain file : List ℕ) → Runs (shape_of words) words taken table position tail_block tail_slot first_clear chain file →
    tail_slot ≡ words_in (shape_of words) → 4 ≤ words_in (shape_of words) → is_in_log (shape_of words) next ≡ true → is_taken words (shape_of words) chain next ≡ false → IsFreshLog position (block_words words (shape_of words) next) →
    length new_taken ≡ length taken → ((block : ℕ) → bit_of new_taken block ≡ (if block == next then 1 else bit_of taken block)) →
    Runs (shape_of words) (set words (tail_block * words_in (shape_of words)) next) new_taken table position next 3 first_clear (chain ++ next ∷ []) file
link_step words taken new_taken table position tail_block tail_slot first_clear next chain file runs closes long area untaken fresh same_bits bits =
    let at : tail_of words (shape_of words) chain ≡ AtLink tail_block = runs.fits.tail ∙ ap (λ (b : Bool). if b then AtLink tail_block else AtSlot tail_block tail_slot) (eq-eqb tail_slot (words_in (shape_of words)) closes) in
    let is : TakesBlock words (set words (tail_block * words_in (shape_of words)) next) chain file position next =
    links_grow_the_log words chain file position tail_block next (stands_clear words taken table position tail_block tail_slot first_clear chain file runs) at area untaken fresh in
    let takes : (block : ℕ) → is_taken (set words (tail_block * words_in (shape_of words)) next) (shape_of words) (chain ++ next ∷ []) block ≡ (is_taken words (shape_of words) chain block || next == block) =
    taken_block words (set words (tail_block * words_in (shape_of words)) next) (shape_of words) chain next is.entries in
    record {
      stands = is.stands.stands;
      fits = record {
        same_shape = is.header.same_shape;
        clear = subst (λ (s : Shape). IsClear (set words (tail_block * words_in (shape_of words)) next) s (tail_of (set words (tail_block * words_in (shape_of words)) next) s (chain ++ next ∷ []))) is.header.same_shape is.stands.clear;
        tail = is.tail ∙ ap (λ (b : Bool). if b then AtLink next else AtSlot next 3) (sym (ne_eqb 3 (words_in (shape_of words)) (λ e. omega (arith, e, long))));
        bitmap = record {
          room = subst (λ (n : ℕ). total (shape_of words) ≤ 64 * n) (sym same_bits) runs.fits.bitmap.room;
          bits = λ block inside.
              bits block ∙ ap (λ (n : ℕ). if block == next then 1 else n) (runs.fits.bitmap.bits block inside)
              ∙ both_bits (is_taken words (shape_of words) chain block) (block == next) (next == block) (other_way block) ∙ ap (λ (b : Bool). if b then 1 else 0) (sym (takes block));
        };
        map = record { each = λ virt. runs.fits.map.each virt ∙ ap (λ (l : List Meaning). map_of l virt) (sym is.entries) };
        size = runs.fits.size;
        low = λ block some before. takes block ∙ or_left (is_taken words (shape_of words) chain block) (next == block) (runs.fits.low block some before);
      };
    }
  where
    other_way : (block : ℕ) → (block == next) ≡ (next == block)
    other_way block = go (block == next) refl
      where
        go : (same : Bool) → (block == next) ≡ same → (block == next) ≡ (next == block)
        go true same = same ∙ sym (eq-eqb next block (sym (eqb-true block next same)))
        go false same = same ∙ sym (ne_eqb next block (λ e. eqb-false block next same (sym e)))

    both_bits : (a b c : Bool) → b ≡ c → ◌≡◌ {A = ℕ} (if b then 1 else (if a then 1 else 0)) (if a || c then 1 else 0)
    both_bits true true c same = refl
    both_bits true false c same = refl
    both_bits false true c same = ap (λ (d : Bool). if d then 1 else 0) same
    both_bits false false c same = ap (λ (d : Bool). if d then 1 else 0) same

-- the same steps at the shape that the words have
pub store_at : (shape : Shape) (words new taken : List ℕ) (table : FileMap) (position tail_block tail_slot first_clear : ℕ) (chain file : List ℕ) → Runs shape words taken table position tail_block tail_slot first_clear chain file →
    KeepsTaken shape chain words new → Runs shape new taken table position tail_block tail_slot first_clear chain file
store_at shape words new taken table position tail_block tail_slot first_clear chain file runs keeps =
    subst (λ (s : Shape). Runs s words taken table position tail_block tail_slot first_clear chain file → KeepsTaken s chain words new → Runs s new taken table position tail_block tail_slot first_clear chain file) runs.fits.same_shape
    (store_step words new taken table position tail_block tail_slot first_clear chain file) runs keeps

-- the chain names the same, and has the same tail
pub store_names : (shape : Shape) (words new taken : List ℕ) (table : FileMap) (position tail_block tail_slot first_clear : ℕ) (chain file : List ℕ) → Runs shape words taken table position tail_block tail_slot first_clear chain file →
    KeepsTaken shape chain words new → ((block : ℕ) → is_taken new shape chain block ≡ is_taken words shape chain block) × (tail_of new shape chain ≡ tail_of words shape chain)
store_names shape words new taken table position tail_block tail_slot first_clear chain file runs keeps =
    subst (λ (s : Shape). Runs s words taken table position tail_block tail_slot first_clear chain file → KeepsTaken s chain words new → ((block : ℕ) → is_taken new s chain block ≡ is_taken words s chain block) × (tail_of new s chain ≡ tail_of words s chain)) runs.fits.same_shape
    (λ here keep.
    let is : StandsAsBefore words new chain file position = stores_mean_nothing words new chain file position (stands_clear words taken table position tail_block tail_slot first_clear chain file here) keep in
    (taken_same words new (shape_of words) chain is.entries, is.tail)) runs keeps

pub entry_put : (shape : Shape) (words taken new_taken : List ℕ) (table new_table : FileMap) (position tail_block tail_slot first_clear new_clear : ℕ) (chain file new_file : List ℕ) (word : ℕ) → Runs shape words taken table position tail_block tail_slot first_clear chain file →
    tail_slot ≢ words_in shape → position + 1 < 2 ^ 40 → IsEntryOf words shape chain file new_file word →
    length new_taken ≡ length taken → ((block : ℕ) → bit_of new_taken block ≡ (if is_listed (direct_meaning word).blocks block then 1 else bit_of taken block)) →
    HasMap new_table (entries_of words shape chain ++ direct_meaning word ∷ []) → new_table.size ≡ length new_file →
    ((block : ℕ) → 1 ≤ block → block < new_clear → (is_taken words shape chain block ≡ true) ⊎ (is_listed (direct_meaning word).blocks block ≡ true)) →
    Runs shape (set words (tail_block * words_in shape + tail_slot) word) new_taken new_table (position + 1) tail_block (tail_slot + 1) new_clear chain new_file
entry_put shape words taken new_taken table new_table position tail_block tail_slot first_clear new_clear chain file new_file word runs =
    subst (λ (s : Shape). Runs s words taken table position tail_block tail_slot first_clear chain file →
    tail_slot ≢ words_in s → position + 1 < 2 ^ 40 → IsEntryOf words s chain file new_file word →
    length new_taken ≡ length taken → ((block : ℕ) → bit_of new_taken block ≡ (if is_listed (direct_meaning word).blocks block then 1 else bit_of taken block)) →
    HasMap new_table (entries_of words s chain ++ direct_meaning word ∷ []) → new_table.size ≡ length new_file →
    ((block : ℕ) → 1 ≤ block → block < new_clear → (is_taken words s chain block ≡ true) ⊎ (is_listed (direct_meaning word).blocks block ≡ true)) →
    Runs s (set words (tail_block * words_in s + tail_slot) word) new_taken new_table (position + 1) tail_block (tail_slot + 1) new_clear chain new_file) runs.fits.same_shape
    (entry_step words taken new_taken table new_table position tail_block tail_slot first_clear new_clear chain file new_file word) runs

pub link_put : (shape : Shape) (words taken new_taken : List ℕ) (table : FileMap) (position tail_block tail_slot first_clear next : ℕ) (chain file : List ℕ) → Runs shape words taken table position tail_block tail_slot first_clear chain file →
    tail_slot ≡ words_in shape → 4 ≤ words_in shape → is_in_log shape next ≡ true → is_taken words shape chain next ≡ false → IsFreshLog position (block_words words shape next) →
    length new_taken ≡ length taken → ((block : ℕ) → bit_of new_taken block ≡ (if block == next then 1 else bit_of taken block)) →
    Runs shape (set words (tail_block * words_in shape) next) new_taken table position next 3 first_clear (chain ++ next ∷ []) file
link_put shape words taken new_taken table position tail_block tail_slot first_clear next chain file runs =
    subst (λ (s : Shape). Runs s words taken table position tail_block tail_slot first_clear chain file →
    tail_slot ≡ words_in s → 4 ≤ words_in s → is_in_log s next ≡ true → is_taken words s chain next ≡ false → IsFreshLog position (block_words words s next) →
    length new_taken ≡ length taken → ((block : ℕ) → bit_of new_taken block ≡ (if block == next then 1 else bit_of taken block)) →
    Runs s (set words (tail_block * words_in s) next) new_taken table position next 3 first_clear (chain ++ next ∷ []) file) runs.fits.same_shape
    (link_step words taken new_taken table position tail_block tail_slot first_clear next chain file) runs
