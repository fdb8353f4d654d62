-- The chain of a valid pin: its generation is kept, and the kept words are of its blocks.
use Rattle.std.proofs.Common.{◌≡◌, ◌≢◌, ◌+◌, ◌-◌, ◌++◌, ℕ, true, [], drop, refl, arith, slice_index, Option, Some, None}
use Rattle.log_image.specs.Chains.{is_listed}
use Rattle.pmem_words.specs.declared.keeps.KeptWord.{KeptWord}
use Rattle.pmem_words.specs.Seats.{Seat}
use Rattle.log_core.specs.Views.{Ghost, view_of}
use Rattle.log_core.specs.Origin.{Origin, shape, first_generation, Generation}
use Rattle.log_core.specs.Files.{entries}
use Rattle.log_core.specs.Cores.{Core, is_named, data_names}
use Rattle.log_core.specs.Works.{MayBelieve, kept_at, word_or_zero, kept_word}
use Rattle.log_core.specs.Order.{nth_generation}
use Rattle.log_core.specs.Walks.{IsKeptWord}
use Rattle.log_core.specs.Invariant.{Invariant, KeptIn}
use Rattle.log_core.specs.Knows.{Knows}
use Rattle.log_core.proofs.Heads.{kept_place}
use Rattle.log_core.proofs.KeptWords.{kept_holds}
use Rattle.log_core.proofs.ChainWords.{chain_word}

module _ (o : Origin) (c : Core) (n : ℕ) (s : Seat) (g : Ghost) (pin began : ℕ) (inv : Invariant o c) (f : Knows o c n s g pin began) (valid : MayBelieve s) where
  -- the place of the pinned generation
  abbrev pub place : ℕ
  place = s.hold.generation - first_generation o

  abbrev pub pinned : Generation
  pinned = nth_generation c.generations place

  pub some_generation : s.hold.generation ≢ 0
  some_generation = f.pin_holds.valid_some valid

  pub from_first : s.hold.generation ≡ first_generation o + place
  from_first = (let low = f.pin_holds.from_first some_generation in omega (arith, low))

  pub kept : KeptIn o c place
  kept = kept_place o c inv place (f.kept place valid from_first)

  -- a word of a block that the chain names, as it may be kept
  abbrev pub IsChainWord : (block slot word : ℕ) → Type 0
  IsChainWord block slot word = IsKeptWord (shape o) c.memory.now.words (λ named. is_named o c.logs (entries o c.history) pinned named) (drop pinned.cut c.logs)
      (record { block = block; slot = slot; word = word })

  module _ (some : (view_of c.views n).parts ≢ []) where
    -- a kept word is such
    pub chain_kept : (block slot word : ℕ) → kept_at s.walk.kept block slot ≡ Some word → IsChainWord block slot word
    chain_kept block slot word is = kept_holds (λ (k : KeptWord). IsKeptWord (shape o) c.memory.now.words (λ named. is_named o c.logs (entries o c.history) pinned named) (drop pinned.cut c.logs) k)
        s.walk.kept block slot word ((f.walk some).kept_words valid) is

    says_by : (block slot : ℕ) → is_listed (pinned.snapshots ++ data_names o (entries o c.history) pinned) block ≡ true → (found : Option ℕ) → kept_at s.walk.kept block slot ≡ found → found ≢ None →
        word_or_zero found ≡ slice_index (c.recorded block) slot
    says_by block slot listed None is none = absurd (none refl)
    says_by block slot listed (Some word) is none = chain_word o c inv place kept block slot word listed (chain_kept block slot word is)

    -- and as recorded, where the block is no log block
    pub chain_says : (block slot : ℕ) → is_listed (pinned.snapshots ++ data_names o (entries o c.history) pinned) block ≡ true → kept_at s.walk.kept block slot ≢ None →
        kept_word s block slot ≡ slice_index (c.recorded block) slot
    chain_says block slot listed found = says_by block slot listed (kept_at s.walk.kept block slot) refl found
