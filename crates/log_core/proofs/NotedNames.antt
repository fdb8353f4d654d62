-- What a generation names up to a place in its log: with one entry more, with one log block more, and at its first log block.
use Rattle.std.proofs.Common.{◌≡◌, ◌<◌, ◌≤◌, ◌+◌, ◌-◌, ◌++◌, ◌==◌, ◌||◌, ℕ, zero, suc, Bool, true, false, List, [], ◌∷◌, length, take, drop, slice_index_or, refl, sym, ◌∙◌, ap, arith, append_assoc}
use Rattle.std.proofs.Math.Seq.{take-suc}
use Rattle.std.proofs.lemmas.Grind.{flat_map-append}
use Rattle.std.proofs.lemmas.List.{length-take, drop-append-le, drop-take, map-append}
use Rattle.std.proofs.lemmas.List.Folds.{list_any-append}
use Rattle.log_image.specs.Entries.{names}
use Rattle.log_image.specs.Chains.{is_listed}
use Rattle.log_core.specs.Entries.{LogEntry, no_entry, entry_names}
use Rattle.log_core.specs.Origin.{Origin, start_base, LogBlock, no_log, Generation}
use Rattle.log_core.specs.Cores.{nth_log, log_blocks, chain_names, data_names, generation_blocks, is_named}

-- a block of two lists with more behind the second, and behind the first
or_last : (a b c : Bool) → (a || (b || c)) ≡ (c || (a || b))
or_last true true true = refl
or_last true true false = refl
or_last true false true = refl
or_last true false false = refl
or_last false true true = refl
or_last false true false = refl
or_last false false true = refl
or_last false false false = refl

or_middle : (a b c : Bool) → ((a || c) || b) ≡ (c || (a || b))
or_middle true b true = refl
or_middle true b false = refl
or_middle false b true = refl
or_middle false b false = refl

split : (a b : List ℕ) (block : ℕ) → is_listed (a ++ b) block ≡ (is_listed a block || is_listed b block)
split a b block = list_any-append (λ (other : ℕ). other == block) a b

pub listed_last : (a b more : List ℕ) (block : ℕ) → is_listed (a ++ (b ++ more)) block ≡ (is_listed more block || is_listed (a ++ b) block)
listed_last a b more block = split a (b ++ more) block
    ∙ (ap (λ (t : Bool). is_listed a block || t) (split b more block)
    ∙ (or_last (is_listed a block) (is_listed b block) (is_listed more block) ∙ ap (λ (t : Bool). is_listed more block || t) (sym (split a b block))))

pub listed_middle : (a b more : List ℕ) (block : ℕ) → is_listed ((a ++ more) ++ b) block ≡ (is_listed more block || is_listed (a ++ b) block)
listed_middle a b more block = split (a ++ more) b block
    ∙ (ap (λ (t : Bool). t || is_listed b block) (split a more block)
    ∙ (or_middle (is_listed a block) (is_listed b block) (is_listed more block) ∙ ap (λ (t : Bool). is_listed more block || t) (sym (split a b block))))

pub or_false : (a : Bool) → (a || false) ≡ a
or_false true = refl
or_false false = refl

pub listed_end : (a : List ℕ) (block : ℕ) → is_listed (a ++ []) block ≡ is_listed a block
listed_end a block = split a [] block ∙ or_false (is_listed a block)

module _ (o : Origin) (logs : List LogBlock) (es : List LogEntry) (g : Generation) where
  -- one entry more
  module _ (position : ℕ) (low : start_base o ≤ position) (late : g.base ≤ position) (inside : position - start_base o < length es) where
    abbrev at : ℕ
    at = position - start_base o

    abbrev from : ℕ
    from = g.base - start_base o

    abbrev entry : LogEntry
    entry = slice_index_or es at no_entry

    long : length (take at es) ≡ at
    long = (let is = length-take at es in omega (arith, is, inside))

    more_data : data_names o (take (position + 1 - start_base o) es) g ≡ data_names o (take at es) g ++ (names entry.meaning ++ [])
    more_data =
        ap (λ (k : ℕ). data_names o (take k es) g) (let next : position + 1 - start_base o ≡ suc at = omega (arith, low) in next)
        ∙ (ap (λ (l : List LogEntry). data_names o l g) (take-suc es at no_entry inside)
        ∙ (ap (λ (l : List LogEntry). g.shared ++ entry_names l) (drop-append-le from (take at es) (entry ∷ []) (let is = long in omega (arith, is, late, low)))
        ∙ (ap (λ (l : List ℕ). g.shared ++ l) (flat_map-append (λ (e : LogEntry). names e.meaning) (drop from (take at es)) (entry ∷ []))
        ∙ sym (append_assoc g.shared (entry_names (drop from (take at es))) (names entry.meaning ++ [])))))

    pub entry_more : (block : ℕ) → is_named o logs (take (position + 1 - start_base o) es) g block ≡ (is_listed (names entry.meaning) block || is_named o logs (take at es) g block)
    entry_more block = ap (λ (l : List ℕ). is_listed (chain_names logs g ++ l) block) more_data
        ∙ (listed_last (chain_names logs g) (data_names o (take at es) g) (names entry.meaning ++ []) block
        ∙ ap (λ (t : Bool). t || is_named o logs (take at es) g block) (listed_end (names entry.meaning) block))

  -- one log block more
  module _ (number : ℕ) (late : g.cut ≤ number + 1) (inside : number + 1 < length logs) where
    abbrev next : LogBlock
    next = nth_log logs (number + 1)

    more_chain : chain_names (take (number + 1 + 1) logs) g ≡ chain_names (take (number + 1) logs) g ++ next.block ∷ []
    more_chain =
        ap (λ (k : ℕ). chain_names (take k logs) g) (let more : number + 1 + 1 ≡ suc (number + 1) = omega arith in more)
        ∙ (ap (λ (l : List LogBlock). chain_names l g) (take-suc logs (number + 1) no_log inside)
        ∙ (ap (λ (l : List LogBlock). g.snapshots ++ log_blocks l) (drop-append-le g.cut (take (number + 1) logs) (next ∷ []) (let is = length-take (number + 1) logs in omega (arith, is, late, inside)))
        ∙ (ap (λ (l : List ℕ). g.snapshots ++ l) (map-append (λ (log : LogBlock). log.block) (drop g.cut (take (number + 1) logs)) (next ∷ []))
        ∙ sym (append_assoc g.snapshots (log_blocks (drop g.cut (take (number + 1) logs))) (next.block ∷ [])))))

    pub log_more : (block : ℕ) → is_named o (take (number + 1 + 1) logs) es g block ≡ (is_listed (next.block ∷ []) block || is_named o (take (number + 1) logs) es g block)
    log_more block = ap (λ (l : List ℕ). is_listed (l ++ data_names o es g) block) more_chain
        ∙ listed_middle (chain_names (take (number + 1) logs) g) (data_names o es g) (next.block ∷ []) block

  -- up to the beginning of the first log block
  take_one : (l : List LogBlock) (k : ℕ) → k < length l → take 1 (drop k l) ≡ nth_log l k ∷ []
  take_one [] k inside = absurd (omega (arith, inside))
  take_one (log ∷ l) zero inside = refl
  take_one (log ∷ l) (suc k) inside = take_one l k (omega (arith, inside))

  pub first_names : g.cut < length logs →
      generation_blocks o (take (g.cut + 1) logs) (take (g.base - start_base o) es) g ≡ (g.snapshots ++ (nth_log logs g.cut).block ∷ []) ++ (g.shared ++ [])
  first_names inside = ap (λ (l : List LogBlock). (g.snapshots ++ log_blocks l) ++ data_names o (take (g.base - start_base o) es) g) (drop-take g.cut 1 logs ∙ take_one logs g.cut inside)
      ∙ ap (λ (l : List LogEntry). (g.snapshots ++ (nth_log logs g.cut).block ∷ []) ++ (g.shared ++ entry_names l)) none
    where
      none : drop (g.base - start_base o) (take (g.base - start_base o) es) ≡ []
      none = ap (λ (k : ℕ). drop (g.base - start_base o) (take k es)) (let same : g.base - start_base o ≡ g.base - start_base o + 0 = omega arith in same) ∙ drop-take (g.base - start_base o) 0 es
