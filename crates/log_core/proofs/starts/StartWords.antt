-- A word of 64 bits is the word of what its fields say.
use Rattle.std.proofs.Common.{◌≡◌, ℕ, ◌+◌, ◌*◌, ◌/◌, ◌%◌, ◌^◌, ◌<◌, ap, ◌∙◌, arith}
use Rattle.log_entry.specs.Fields.{field}
use Rattle.log_entry.specs.Words.{head_word, block_word, snapshot_word}
use Rattle.log_entry.specs.declared.layouts.TheConstants.{HEAD_BLOCK, HEAD_UNNAMED, HEAD_GENERATION, BLOCK_BASE, BLOCK_UNNAMED, BLOCK_KIND, SNAPSHOT_SIZE, SNAPSHOT_COUNT}
use Rattle.log_entry.specs.declared.words.BlockKind.TheVariants.{Log, Snapshot}

two_fields : (word : ℕ) → word < 2 ^ 64 → word / 2 ^ 16 % 2 ^ 16 ≡ 0 → word ≡ word / 2 ^ 32 % 2 ^ 32 * 2 ^ 32 + word / 2 ^ 0 % 2 ^ 16 * 2 ^ 0
two_fields word small unnamed = omega (arith, small, unnamed)

kind_and_base : (word : ℕ) → word < 2 ^ 64 → word / 2 ^ 40 % 2 ^ 22 ≡ 0 → word ≡ word / 2 ^ 62 % 2 ^ 2 * 2 ^ 62 + word / 2 ^ 0 % 2 ^ 40 * 2 ^ 0
kind_and_base word small unnamed = omega (arith, small, unnamed)

count_and_size : (word : ℕ) → word < 2 ^ 64 → word ≡ word / 2 ^ 48 % 2 ^ 16 * 2 ^ 48 + word / 2 ^ 0 % 2 ^ 48 * 2 ^ 0
count_and_size word small = omega (arith, small)

pub head_back : (word : ℕ) → word < 2 ^ 64 → field HEAD_UNNAMED word ≡ 0 → word ≡ head_word (record { generation = field HEAD_GENERATION word; block = field HEAD_BLOCK word })
head_back word small unnamed = two_fields word small unnamed

pub log_back : (word : ℕ) → word < 2 ^ 64 → field BLOCK_UNNAMED word ≡ 0 → field BLOCK_KIND word ≡ 1 → word ≡ block_word (record { kind = Log; base = field BLOCK_BASE word })
log_back word small unnamed kind = kind_and_base word small unnamed ∙ ap (λ (k : ℕ). k * 2 ^ 62 + word / 2 ^ 0 % 2 ^ 40 * 2 ^ 0) kind

pub snapshot_back : (word : ℕ) → word < 2 ^ 64 → field BLOCK_UNNAMED word ≡ 0 → field BLOCK_KIND word ≡ 2 → word ≡ block_word (record { kind = Snapshot; base = field BLOCK_BASE word })
snapshot_back word small unnamed kind = kind_and_base word small unnamed ∙ ap (λ (k : ℕ). k * 2 ^ 62 + word / 2 ^ 0 % 2 ^ 40 * 2 ^ 0) kind

pub counts_back : (word : ℕ) → word < 2 ^ 64 → word ≡ snapshot_word (record { count = field SNAPSHOT_COUNT word; size = field SNAPSHOT_SIZE word })
counts_back word small = count_and_size word small
