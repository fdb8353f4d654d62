-- The bytes of the file by the table.
use Rattle.std.proofs.Common.{◌≡◌, ◌<◌, ◌≤◌, ◌+◌, ◌-◌, ◌*◌, ◌/◌, ◌%◌, ◌==◌, ◌&&◌, ◌||◌, ◌⊎◌, inl, inr, min, ℕ, Bool, true, List, [], ◌∷◌, ◌++◌, length, get_or, take, drop, map, nat_le, nat_lt, Option, Some, None, IsTrue, refl, sym, ap, ◌∙◌, subst, arith, length-take, length-drop}
use Rattle.std.specs.List.{list_all, flat_map}
use Rattle.std.proofs.lemmas.Bool.{leb-true, cases_lt}
use Rattle.std.proofs.Math.ListN.{get_or-append}
use Rattle.std.proofs.lemmas.List.{ext_get_or, get_or-take, get_or-drop, get_or-append-add}
use Rattle.std.proofs.Math.Nat.{mod-lt}
use Rattle.std.proofs.lemmas.Nat.{div-add-mod'}
use Rattle.log_entry.specs.ByteFile.{read}
use Rattle.log_entry.specs.Fields.{field}
use Rattle.log_entry.specs.Shape.{longest_of, limit_of, is_block_bytes}
use Rattle.log_entry.specs.declared.layouts.TheConstants.{DIRECT_LEFTOVER}
use Rattle.block_table.specs.FileMap.{FileMap, block_at}
use Rattle.log_image.specs.Image.{Shape, words_in, is_in_data, block_words}
use Rattle.log_image.specs.Entries.{Meaning, direct_meaning, meaning}
use Rattle.log_image.specs.Blocks.{entry_count, file_size, slots_of}
use Rattle.log_image.specs.Maps.{map_of}
use Rattle.log_image.specs.Chains.{snapshots_of, logs_of}
use Rattle.log_image.specs.Positions.{snapshot_entries, log_words, log_entries, entries_of}
use Rattle.log_image.specs.Format.{all_zero, fits, is_direct, is_indirect, has_runs, is_log_entry, is_snapshot_entry, is_snapshot_block, HasFormat}
use Rattle.log_image.specs.Stands.{HoldsFile}
use Rattle.log_image.proofs.HoldingLemmas.{both_left, both_right, names_none}
use Rattle.log_image.proofs.ListLemmas.{all_join}
use Rattle.log_image.proofs.EntrySteps.{kept_in}
use Rattle.log_image.proofs.NameLemmas.{all_good}
use Rattle.log_image.proofs.ClearedChains.{both}
use Rattle.plain_engine.specs.Bytes.{byte_of, present_byte}
use Rattle.plain_engine.proofs.WordLemmas.{byte_of_zero}
use Rattle.plain_engine.proofs.StoreLemmas.{byte_in}
use Rattle.plain_engine.specs.Running.{Runs}
use Rattle.plain_engine.proofs.WriteLemmas.{present_is}
use Rattle.std.proofs.lemmas.Bool.Decides.{nat_tests}

-- an entry names virtual blocks of the file alone
abbrev is_in_file : Meaning → Bool
is_in_file entry = nat_le (entry.virt + length entry.blocks) 65536

fits_file : (shape : Shape) (longest : ℕ) (entry : Meaning) → fits shape longest entry ≡ true → is_in_file entry ≡ true
fits_file shape longest entry good =
    both_right (nat_le 1 (length entry.blocks) && nat_le (length entry.blocks) longest) (nat_le (entry.virt + length entry.blocks) 65536)
    (both_left (nat_le 1 (length entry.blocks) && nat_le (length entry.blocks) longest && nat_le (entry.virt + length entry.blocks) 65536) (list_all (is_in_data shape) entry.blocks)
    (both_left (nat_le 1 (length entry.blocks) && nat_le (length entry.blocks) longest && nat_le (entry.virt + length entry.blocks) 65536 && list_all (is_in_data shape) entry.blocks) (nat_lt entry.leftover shape.block_bytes) good))

log_file : (image : List ℕ) (shape : Shape) (words : List ℕ) → list_all (is_log_entry image shape) words ≡ true → list_all is_in_file (map (meaning image shape) words) ≡ true
log_file image shape [] good = refl
log_file image shape (word ∷ words) good =
    both (is_in_file (meaning image shape word)) (list_all is_in_file (map (meaning image shape) words))
    (fits_file shape (longest_of shape.block_bytes) (meaning image shape word) (both_right (is_direct word || (is_indirect word && has_runs image shape word)) (fits shape (longest_of shape.block_bytes) (meaning image shape word)) (both_left (is_log_entry image shape word) (list_all (is_log_entry image shape) words) good)))
    (log_file image shape words (both_right (is_log_entry image shape word) (list_all (is_log_entry image shape) words) good))

direct_file : (shape : Shape) (words : List ℕ) → list_all (is_snapshot_entry shape) words ≡ true → list_all is_in_file (map direct_meaning words) ≡ true
direct_file shape [] good = refl
direct_file shape (word ∷ words) good =
    both (is_in_file (direct_meaning word)) (list_all is_in_file (map direct_meaning words))
    (fits_file shape 256 (direct_meaning word) (both_right (is_direct word && field DIRECT_LEFTOVER word == 0) (fits shape 256 (direct_meaning word)) (both_left (is_snapshot_entry shape word) (list_all (is_snapshot_entry shape) words) good)))
    (direct_file shape words (both_right (is_snapshot_entry shape word) (list_all (is_snapshot_entry shape) words) good))

snapshot_file : (image : List ℕ) (shape : Shape) (blocks : List ℕ) → list_all (λ (b : ℕ). is_snapshot_block shape (block_words image shape b)) blocks ≡ true → list_all is_in_file (flat_map (kept_in image shape) blocks) ≡ true
snapshot_file image shape [] good = refl
snapshot_file image shape (block ∷ blocks) good =
    all_join is_in_file (kept_in image shape block) (flat_map (kept_in image shape) blocks)
    (direct_file shape (take (entry_count (block_words image shape block)) (slots_of (block_words image shape block)))
    (both_right (nat_le (entry_count (block_words image shape block)) (words_in shape - 3) && nat_le (file_size (block_words image shape block)) (limit_of shape.block_bytes))
    (list_all (is_snapshot_entry shape) (take (entry_count (block_words image shape block)) (slots_of (block_words image shape block))))
    (both_left (nat_le (entry_count (block_words image shape block)) (words_in shape - 3) && nat_le (file_size (block_words image shape block)) (limit_of shape.block_bytes)
    && list_all (is_snapshot_entry shape) (take (entry_count (block_words image shape block)) (slots_of (block_words image shape block))))
    (all_zero (drop (entry_count (block_words image shape block)) (slots_of (block_words image shape block))))
    (both_left (is_snapshot_block shape (block_words image shape block)) (list_all (λ (b : ℕ). is_snapshot_block shape (block_words image shape b)) blocks) good))))
    (snapshot_file image shape blocks (both_right (is_snapshot_block shape (block_words image shape block)) (list_all (λ (b : ℕ). is_snapshot_block shape (block_words image shape b)) blocks) good))

all_in_file : (image : List ℕ) (shape : Shape) (chain : List ℕ) → HasFormat image shape chain → list_all is_in_file (entries_of image shape chain) ≡ true
all_in_file image shape chain format =
    all_join is_in_file (snapshot_entries image shape chain) (log_entries image shape chain) (snapshot_file image shape (snapshots_of image shape chain) format.snapshots)
    (log_file image shape (log_words image shape chain) (all_good image shape (logs_of image shape chain) format.logs))

no_map : (entries : List Meaning) (virt : ℕ) → 65536 ≤ virt → list_all is_in_file entries ≡ true → map_of entries virt ≡ None
no_map [] virt past all = refl
no_map (entry ∷ entries) virt past all =
    rw (no_map entries virt past (both_right (is_in_file entry) (list_all is_in_file entries) all))
    (names_none entry virt (omega (arith, past, leb-true (entry.virt + length entry.blocks) 65536 (both_left (is_in_file entry) (list_all is_in_file entries) all))))

-- the file is 0 in virtual blocks past the last
pub past_blocks : (image : List ℕ) (shape : Shape) (chain file : List ℕ) (virt at : ℕ) → HasFormat image shape chain → HoldsFile image shape (entries_of image shape chain) file → 65536 ≤ virt → at < shape.block_bytes → get_or file (virt * shape.block_bytes + at) 0 ≡ 0
past_blocks image shape chain file virt at format holds past inside = holds.unmapped virt (no_map (entries_of image shape chain) virt past (all_in_file image shape chain format)) at inside

-- a place by its virtual block
pub by_virt : (file : List ℕ) (size place : ℕ) → 0 < size → get_or file (place / size * size + place % size) 0 ≡ get_or file place 0
by_virt file size place some = ap (λ (n : ℕ). get_or file n 0) (omega (arith, div-add-mod' place size))

-- bytes that are those of the file from a place on, as many as are read
pub read_is : (file bytes : List ℕ) (offset count start many : ℕ) → start ≡ min offset (length file) → many ≡ min count (length file - start) → length bytes ≡ many → ((k : ℕ) → k < many → get_or bytes k 0 ≡ get_or file (start + k) 0) → bytes ≡ read file offset count
read_is file bytes offset count start many is_start is_many long same =
    ext_get_or 0 bytes (read file offset count) (omega (arith, long, is_many, is_start, length-take count (drop offset file), length-drop offset file))
    (λ k inside.
    let low : start ≡ offset = omega (arith, inside, long, is_many, is_start) in
    same k (omega (arith, inside, long)) ∙ ap (λ (n : ℕ). get_or file (n + k) 0) low ∙ sym (get_or-drop offset file k 0) ∙ sym (get_or-take count (drop offset file) k 0 (omega (arith, inside, long, is_many))))

-- what the block of a place holds is the file's byte there
pub present_at : (shape : Shape) (words taken : List ℕ) (table : FileMap) (position tail_block tail_slot first_clear : ℕ) (chain file : List ℕ) → Runs shape words taken table position tail_block tail_slot first_clear chain file → (place size : ℕ) → size ≡ shape.block_bytes → 0 < shape.block_bytes →
    present_byte words shape (block_at table (place / size)) (place % size) ≡ get_or file place 0
present_at shape words taken table position tail_block tail_slot first_clear chain file runs place size is_size some =
    subst (λ (n : ℕ). present_byte words shape (block_at table (place / n)) (place % n) ≡ get_or file place 0) (sym is_size)
    (present_is words shape chain file table (subst (λ (s : Shape). HoldsFile words s (entries_of words s chain) file) runs.fits.same_shape runs.stands.stands.holds) runs.fits.map.each (place / shape.block_bytes) (place % shape.block_bytes) (mod-lt place some)
    ∙ by_virt file shape.block_bytes place some)

pub past_at : (shape : Shape) (words taken : List ℕ) (table : FileMap) (position tail_block tail_slot first_clear : ℕ) (chain file : List ℕ) → Runs shape words taken table position tail_block tail_slot first_clear chain file → (place size : ℕ) → size ≡ shape.block_bytes → 0 < shape.block_bytes → 65536 ≤ place / size →
    0 ≡ get_or file place 0
past_at shape words taken table position tail_block tail_slot first_clear chain file runs place size is_size some past =
    sym (past_blocks words shape chain file (place / shape.block_bytes) (place % shape.block_bytes)
    (subst (λ (s : Shape). HasFormat words s chain) runs.fits.same_shape runs.stands.stands.format)
    (subst (λ (s : Shape). HoldsFile words s (entries_of words s chain) file) runs.fits.same_shape runs.stands.stands.holds)
    (subst (λ (n : ℕ). 65536 ≤ place / n) is_size past) (mod-lt place some))
    ∙ by_virt file shape.block_bytes place some

-- a block of an allowed shape has some bytes
pub some_bytes : (bytes : ℕ) → IsTrue (is_block_bytes bytes) → 0 < bytes
some_bytes bytes allowed = grind (arith, nat_tests, allowed)

-- one byte more
pub read_more : (file bytes : List ℕ) (start k byte : ℕ) → length bytes ≡ k → ((at : ℕ) → at < k → get_or bytes at 0 ≡ get_or file (start + at) 0) → byte ≡ get_or file (start + k) 0 → (at : ℕ) → at < k + 1 → get_or (bytes ++ byte ∷ []) at 0 ≡ get_or file (start + at) 0
read_more file bytes start k byte long same is at inside = go (cases_lt at k)
  where
    go : (at < k) ⊎ (k ≤ at) → get_or (bytes ++ byte ∷ []) at 0 ≡ get_or file (start + at) 0
    go (inl before) = get_or-append bytes (byte ∷ []) 0 at (omega (arith, long, before)) ∙ same at before
    go (inr past) =
        let place : at ≡ length bytes + 0 = omega (arith, long, inside, past) in
        let last : k ≡ at = omega (arith, inside, past) in
        ap (λ (n : ℕ). get_or (bytes ++ byte ∷ []) n 0) place ∙ get_or-append-add bytes (byte ∷ []) 0 0 ∙ is ∙ ap (λ (n : ℕ). get_or file (start + n) 0) last

-- a word by its block
pub word_present : (shape : Shape) (words taken : List ℕ) (table : FileMap) (position tail_block tail_slot first_clear : ℕ) (chain file : List ℕ) → Runs shape words taken table position tail_block tail_slot first_clear chain file → shape.block_bytes ≡ 8 * words_in shape → 0 < words_in shape →
    (index count block k : ℕ) → count ≡ words_in shape → block_at table (index / count) ≡ Some block → block * words_in shape + words_in shape ≤ length words → k < 8 → byte_of (get_or words (block * count + index % count) 0) k ≡ get_or file (8 * index + k) 0
word_present shape words taken table position tail_block tail_slot first_clear chain file runs eight some index count block k is_count is whole small =
    subst (λ (n : ℕ). byte_of (get_or words (block * n + index % n) 0) k ≡ get_or file (8 * index + k) 0) (sym is_count) here
  where
    at : ℕ
    at = 8 * (index % words_in shape) + k

    inside : 8 * (index % words_in shape) + k < shape.block_bytes
    inside = omega (arith, eight, mod-lt index some, small)

    place : index / words_in shape * shape.block_bytes + (8 * (index % words_in shape) + k) ≡ 8 * index + k
    place = omega (arith, ap (λ (n : ℕ). index / words_in shape * n) eight, div-add-mod' index (words_in shape))

    here : byte_of (get_or words (block * words_in shape + index % words_in shape) 0) k ≡ get_or file (8 * index + k) 0
    here =
        let quotient : (8 * (index % words_in shape) + k) / 8 ≡ index % words_in shape = omega (arith, small) in
        let rest : (8 * (index % words_in shape) + k) % 8 ≡ k = omega (arith, small) in
        let found : present_byte words shape (block_at table (index / words_in shape)) (8 * (index % words_in shape) + k) ≡ get_or file (index / words_in shape * shape.block_bytes + (8 * (index % words_in shape) + k)) 0 =
        present_is words shape chain file table (subst (λ (s : Shape). HoldsFile words s (entries_of words s chain) file) runs.fits.same_shape runs.stands.stands.holds) runs.fits.map.each (index / words_in shape) (8 * (index % words_in shape) + k) inside in
        let held : present_byte words shape (Some block) (8 * (index % words_in shape) + k) ≡ get_or file (index / words_in shape * shape.block_bytes + (8 * (index % words_in shape) + k)) 0 =
        subst (λ (o : Option ℕ). present_byte words shape o (8 * (index % words_in shape) + k) ≡ get_or file (index / words_in shape * shape.block_bytes + (8 * (index % words_in shape) + k)) 0) (subst (λ (n : ℕ). block_at table (index / n) ≡ Some block) is_count is) found in
        sym (byte_in words shape block (8 * (index % words_in shape) + k) eight whole inside ∙ ap (λ (n : ℕ). byte_of (get_or words (block * words_in shape + n) 0) ((8 * (index % words_in shape) + k) % 8)) quotient
        ∙ ap (λ (n : ℕ). byte_of (get_or words (block * words_in shape + index % words_in shape) 0) n) rest) ∙ held ∙ ap (λ (n : ℕ). get_or file n 0) place

-- a word that no block holds
pub word_absent : (shape : Shape) (words taken : List ℕ) (table : FileMap) (position tail_block tail_slot first_clear : ℕ) (chain file : List ℕ) → Runs shape words taken table position tail_block tail_slot first_clear chain file → shape.block_bytes ≡ 8 * words_in shape → 0 < words_in shape →
    (index count k : ℕ) → count ≡ words_in shape → (65536 ≤ index / count) ⊎ (block_at table (index / count) ≡ None) → k < 8 → byte_of 0 k ≡ get_or file (8 * index + k) 0
word_absent shape words taken table position tail_block tail_slot first_clear chain file runs eight some index count k is_count none small =
    byte_of_zero k ∙ sym (ap (λ (n : ℕ). get_or file n 0) (sym place) ∙ go (subst (λ (n : ℕ). (65536 ≤ index / n) ⊎ (block_at table (index / n) ≡ None)) is_count none))
  where
    inside : 8 * (index % words_in shape) + k < shape.block_bytes
    inside = omega (arith, eight, mod-lt index some, small)

    place : index / words_in shape * shape.block_bytes + (8 * (index % words_in shape) + k) ≡ 8 * index + k
    place = omega (arith, ap (λ (n : ℕ). index / words_in shape * n) eight, div-add-mod' index (words_in shape))

    holds : HoldsFile words shape (entries_of words shape chain) file
    holds = subst (λ (s : Shape). HoldsFile words s (entries_of words s chain) file) runs.fits.same_shape runs.stands.stands.holds

    go : (65536 ≤ index / words_in shape) ⊎ (block_at table (index / words_in shape) ≡ None) → get_or file (index / words_in shape * shape.block_bytes + (8 * (index % words_in shape) + k)) 0 ≡ 0
    go (inl past) = past_blocks words shape chain file (index / words_in shape) (8 * (index % words_in shape) + k) (subst (λ (s : Shape). HasFormat words s chain) runs.fits.same_shape runs.stands.stands.format) holds past inside
    go (inr free) = holds.unmapped (index / words_in shape) (sym (runs.fits.map.each (index / words_in shape)) ∙ free) (8 * (index % words_in shape) + k) inside

-- some bytes of a word more
pub read_word : (file bytes buffer piece : List ℕ) (start place from upto word : ℕ) → length bytes ≡ place - start → start ≤ place → ((at : ℕ) → at < place - start → get_or bytes at 0 ≡ get_or file (start + at) 0) →
    from ≡ place % 8 → from + upto ≤ 8 → piece ≡ take upto (drop from buffer) → length piece ≡ upto → ((k : ℕ) → k < 8 → get_or buffer k 0 ≡ get_or file (8 * (place / 8) + k) 0) → (at : ℕ) → at < place + upto - start → get_or (bytes ++ piece) at 0 ≡ get_or file (start + at) 0
read_word file bytes buffer piece start place from upto word long low same is_from short is_piece piece_long held at inside = go (cases_lt at (place - start))
  where
    go : (at < place - start) ⊎ (place - start ≤ at) → get_or (bytes ++ piece) at 0 ≡ get_or file (start + at) 0
    go (inl before) = get_or-append bytes piece 0 at (omega (arith, long, before)) ∙ same at before
    go (inr past) =
        let whole : at ≡ length bytes + (at - (place - start)) = omega (arith, long, past) in
        let spot : 8 * (place / 8) + (from + (at - (place - start))) ≡ start + at = omega (arith, is_from, past, low, div-add-mod' place 8) in
        ap (λ (n : ℕ). get_or (bytes ++ piece) n 0) whole ∙ get_or-append-add bytes piece (at - (place - start)) 0
        ∙ ap (λ (l : List ℕ). get_or l (at - (place - start)) 0) is_piece
        ∙ get_or-take upto (drop from buffer) (at - (place - start)) 0 (omega (arith, inside, past, low))
        ∙ get_or-drop from buffer (at - (place - start)) 0
        ∙ held (from + (at - (place - start))) (omega (arith, inside, past, low, short))
        ∙ ap (λ (n : ℕ). get_or file n 0) spot
