-- What a collection has noted stays: where fewer generations are kept, and where a step puts a word more into the last log block.
use Rattle.std.proofs.Common.{◌≡◌, ◌≢◌, ◌<◌, ◌≤◌, ◌/◌, ◌+◌, ◌-◌, ◌++◌, ◌==◌, if◌then◌else◌, ℕ, zero, suc, Bool, true, false, List, [], ◌∷◌, length, take, drop, slice_index, refl, sym, ◌∙◌, ap, arith}
use Rattle.log_image.specs.Image.{total}
use Rattle.log_image.specs.Chains.{is_listed}
use Rattle.pmem_words.specs.declared.keeps.Task.{Task}
use Rattle.pmem_words.specs.declared.keeps.Task.TheVariants.{Idle, Pwrite, Append, Pread, Size, Sync, Collect, Pin, Unpin, Scan, Take, Give, Fill, Walk as WalkTask, Offer, Grow, Seal}
use Rattle.pmem_words.specs.Seats.{Seat, Hold, Walk, Calling, bitmap_words}
use Rattle.log_core.specs.Entries.{LogEntry}
use Rattle.log_core.specs.Views.{Ghost, view_of}
use Rattle.log_core.specs.Origin.{Origin, shape, start_base, first_generation, LogBlock, Generation}
use Rattle.log_core.specs.Files.{entries, end_of}
use Rattle.log_core.specs.Cores.{Core, nth_log, number_at, log_blocks, is_named, data_names}
use Rattle.log_core.specs.Works.{is_collection}
use Rattle.log_core.specs.Walks.{Around, HasWalked}
use Rattle.log_core.specs.Noted.{NotedHolds, is_named_before}
use Rattle.log_core.specs.Knows.{Knows}
use Rattle.log_core.proofs.LogTails.{log_found}
use Rattle.log_core.proofs.clauses.Growth.{LogsGrow, HistoryGrows}

-- a task that is a collection
pub collects : (task : Task) → is_collection task ≡ true → task ≡ Collect
collects Idle on = cc
collects (Pwrite offset) on = cc
collects Append on = cc
collects (Pread offset count) on = cc
collects Size on = cc
collects Sync on = cc
collects Collect on = refl
collects Pin on = cc
collects Unpin on = cc
collects (Scan generation) on = cc
collects (Take area count) on = cc
collects (Give from) on = cc
collects (Fill first count) on = cc
collects WalkTask on = cc
collects (Offer entry) on = cc
collects (Grow block) on = cc
collects Seal on = cc

-- a block of the image has its bit in the seat's words
pub noted_inside : (o : Origin) (c : Core) (n : ℕ) (s : Seat) (g : Ghost) (pin began : ℕ) → Knows o c n s g pin began → (view_of c.views n).parts ≢ [] → (block : ℕ) → block < total (shape o) → block / 64 < length s.blocks.named
noted_inside o c n s g pin began f some block low = (let long : length s.blocks.named ≡ bitmap_words o.geometry = (f.fits some).named in omega (arith, low, long))

-- where fewer generations are kept
pub noted_left : (a : Around) (kept : ℕ → Type 0) (h : Hold) (w : Walk) (call : Calling) (words : List ℕ) → ((place : ℕ) → kept place → a.kept place) → NotedHolds a h w call words →
    NotedHolds (record a { kept = λ place. kept place }) h w call words
noted_left a kept h w call words before r = (r.0, (λ on reading here. r.1 on reading (before (w.reading_generation - first_generation a.origin) here)), r.2)

-- the number of a base stays where log blocks follow, and each has its base
number_same : (before after : List LogBlock) (base : ℕ) → length before ≤ length after → ((k : ℕ) → k < length before → (nth_log after k).base ≡ (nth_log before k).base) → number_at before base < length before → number_at after base ≡ number_at before base
number_same [] after base longer same inside = absurd (omega (arith, inside))
number_same (log ∷ before) [] base longer same inside = absurd (omega (arith, longer))
number_same (log ∷ before) (other ∷ after) base longer same inside =
    ap (λ (b : ℕ). if b == base then 0 else 1 + number_at after base) (same 0 (omega arith)) ∙ go (log.base == base) inside
    (λ less. number_same before after base (omega (arith, longer)) (λ k low. same (suc k) (omega (arith, low))) less)
  where
    go : (b : Bool) → (if b then 0 else 1 + number_at before base) < suc (length before) → (number_at before base < length before → number_at after base ≡ number_at before base) →
        (if b then 0 else 1 + number_at after base) ≡ (if b then 0 else 1 + number_at before base)
    go true less rest = refl
    go false less rest = ap (λ (k : ℕ). 1 + k) (rest (omega (arith, less)))

-- the first of some log blocks, and of their blocks
first_blocks : (count : ℕ) (logs : List LogBlock) → log_blocks (take count logs) ≡ take count (log_blocks logs)
first_blocks zero logs = refl
first_blocks (suc count) [] = refl
first_blocks (suc count) (log ∷ logs) = ap (λ (l : List ℕ). log.block ∷ l) (first_blocks count logs)

rest_blocks : (cut : ℕ) (logs : List LogBlock) → log_blocks (drop cut logs) ≡ drop cut (log_blocks logs)
rest_blocks zero logs = refl
rest_blocks (suc cut) [] = refl
rest_blocks (suc cut) (log ∷ logs) = rest_blocks cut logs

take_front : (count : ℕ) (first second : List ℕ) → count ≤ length first → take count (first ++ second) ≡ take count first
take_front zero first second low = refl
take_front (suc count) [] second low = absurd (omega (arith, low))
take_front (suc count) (x ∷ first) second low = ap (λ (l : List ℕ). x ∷ l) (take_front count first second (omega (arith, low)))

pub long_blocks : (logs : List LogBlock) → length (log_blocks logs) ≡ length logs
long_blocks [] = refl
long_blocks (log ∷ logs) = ap suc (long_blocks logs)

-- the block of a log block by its number
pub block_at : (logs : List LogBlock) (number : ℕ) → slice_index (log_blocks logs) number ≡ (nth_log logs number).block
block_at [] number = refl
block_at (log ∷ logs) zero = refl
block_at (log ∷ logs) (suc number) = block_at logs number

-- the blocks of the first log blocks, where others follow
pub first_same : (before after : List LogBlock) (linked : List ℕ) (count cut : ℕ) → log_blocks after ≡ log_blocks before ++ linked → count ≤ length before → log_blocks (drop cut (take count after)) ≡ log_blocks (drop cut (take count before))
first_same before after linked count cut more low =
    (let long = long_blocks before in
    rest_blocks cut (take count after) ∙ (ap (λ (l : List ℕ). drop cut l) (first_blocks count after ∙ (ap (λ (l : List ℕ). take count l) more ∙ (take_front count (log_blocks before) linked (omega (arith, low, long)) ∙ sym (first_blocks count before))))
    ∙ sym (rest_blocks cut (take count before))))

-- what a generation names up to a walk's place stays where log blocks and the history grow
module _ (o : Origin) (n : ℕ) (before : Core) (after : Core) (linked named : List ℕ) (logs : LogsGrow (shape o) before.logs after.logs linked) (history : HistoryGrows o n before.history after.history named)
    (count : start_base o + length (entries o before.history) ≡ end_of o before.history) where
  pub named_same : (g : Generation) (w : Walk) → w.tail_block ≢ 0 → w.position ≤ end_of o before.history → HasWalked o (entries o before.history) before.logs w → (block : ℕ) →
      is_named_before o after.logs (entries o after.history) g w block ≡ is_named_before o before.logs (entries o before.history) g w block
  named_same g w some low walked block =
      (let there = log_found before.logs w.tail_base (λ none. some (sym walked.block ∙ none)) in
      let number = number_same before.logs after.logs w.tail_base logs.longer (λ k inside. (logs.each k inside).base) there.0 in
      let inside = there.0 in
      ap (λ (k : ℕ). is_named o (take (k + 1) after.logs) (take (w.position - start_base o) (entries o after.history)) g block) number
      ∙ (ap (λ (es : List LogEntry). is_named o (take (number_at before.logs w.tail_base + 1) after.logs) es g block) (history.front (w.position - start_base o) (omega (arith, low, count)))
      ∙ ap (λ (l : List ℕ). is_listed ((g.snapshots ++ l) ++ data_names o (take (w.position - start_base o) (entries o before.history)) g) block)
      (first_same before.logs after.logs linked (number_at before.logs w.tail_base + 1) g.cut (logs.blocks 0 (omega (arith, inside))) (omega (arith, inside)))))
