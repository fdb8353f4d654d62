-- Nothing is written yet at a start, and the files of its log are within the limit.
use Rattle.std.proofs.Common.{◌≡◌, ◌<◌, ◌≤◌, ◌-◌, ◌&&◌, nat_le, ℕ, true, List, [], ◌∷◌, length, take, drop, sym, subst, arith, slice_index_or}
use Rattle.std.specs.List.{list_all}
use Rattle.std.proofs.lemmas.Bool.{and_parts, leb-true, cases_lt}
use Rattle.log_entry.specs.Shape.{limit_of}
use Rattle.log_image.specs.Image.{Shape, words_in, block_words}
use Rattle.log_image.specs.Blocks.{entry_count, file_size, slots_of, kept_words}
use Rattle.log_image.specs.Chains.{snapshots_of, first_size}
use Rattle.log_image.specs.Format.{is_snapshot_block, is_snapshot_entry, all_zero}
use Rattle.log_image.specs.Maps.{entry_end, size_after}
use Rattle.log_core.specs.Entries.{LogEntry, no_entry, meanings}
use Rattle.log_core.specs.Origin.{Origin, shape, first_recorded, first_entries, first_position, start_base, start_size}
use Rattle.log_core.specs.Files.{entries, history_size_at}
use Rattle.log_core.specs.Contents.{EntriesSay}
use Rattle.log_core.specs.Writes.{HistoryHolds}
use Rattle.log_core.proofs.FileLimits.{entry_within, sizes_within}
use Rattle.log_core.proofs.starts.StartFacts.{Facts}
use Rattle.log_core.proofs.starts.StartFiles.{same_entries, same_size}
use Rattle.log_core.proofs.starts.StartContents.{says}

-- a snapshot's size is within the limit
first_within : (words : List ℕ) (image : Shape) (blocks : List ℕ) → list_all (λ (b : ℕ). is_snapshot_block image (block_words words image b)) blocks ≡ true → first_size words image blocks ≤ limit_of image.block_bytes
first_within words image [] good = omega arith
first_within words image (block ∷ blocks) good =
    (let here = block_words words image block in
    let few = nat_le (entry_count here) (words_in image - 3) in
    let small = nat_le (file_size here) (limit_of image.block_bytes) in
    let forms = list_all (is_snapshot_entry image) (kept_words here) in
    let zeros = all_zero (drop (entry_count here) (slots_of here)) in
    let first = (and_parts (is_snapshot_block image here) (list_all (λ (b : ℕ). is_snapshot_block image (block_words words image b)) blocks) good).0 in
    let parts = and_parts (few && small) forms (and_parts (few && small && forms) zeros first).0 in
    leb-true (file_size here) (limit_of image.block_bytes) (and_parts few small parts.0).1)

module _ (o : Origin) (s : Facts o) where
  start_within : start_size o ≤ limit_of (shape o).block_bytes
  start_within = first_within o.words (shape o) (snapshots_of o.words (shape o) o.chain) s.stands.format.snapshots

  each_within : (k : ℕ) → k < length (first_entries o) → entry_end (shape o) (slice_index_or (first_entries o) k no_entry).meaning ≤ limit_of (shape o).block_bytes
  each_within k inside =
      (let said : EntriesSay (shape o) (first_recorded o) 0 (first_entries o) = says o s 0 in
      subst (λ (e : LogEntry). entry_end (shape o) e.meaning ≤ limit_of (shape o).block_bytes) (sym (said.same k (omega arith) inside))
      (entry_within (first_recorded o) (shape o) (slice_index_or (first_entries o) k no_entry).word (said.form k (omega arith) inside)))

  sizes_low : (position : ℕ) → history_size_at o (entries o []) position ≤ limit_of (shape o).block_bytes
  sizes_low position = subst (λ (es : List LogEntry). size_after (shape o) (start_size o) (meanings (take (position - start_base o) es)) ≤ limit_of (shape o).block_bytes) (sym (same_entries o s))
      (sizes_within (shape o) (limit_of (shape o).block_bytes) (position - start_base o) (start_size o) (first_entries o) start_within each_within)

  pub start_history : HistoryHolds o []
  start_history = record {
    writes = λ place inside. absurd (omega (arith, inside));
    sizes = λ position from to. same_size o s position (cases_lt position (first_position o));
    within = λ position from to. subst (λ (size : ℕ). size ≤ limit_of (shape o).block_bytes) (sym (same_size o s position (cases_lt position (first_position o)))) (sizes_low position);
  }
