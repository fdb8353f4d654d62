-- Who has each block at a start.
use Rattle.std.proofs.Common.{◌≡◌, ◌≢◌, ◌⊎◌, ℕ, zero, suc, ◌+◌, ◌-◌, ◌<◌, ◌==◌, ◌||◌, Bool, true, false, List, [], ◌∷◌, ◌++◌, drop, map, refl, sym, ap, ◌∙◌, arith, inl, inr, if◌then◌else◌, append-nil}
use Rattle.std.specs.Prelude.{nat_le, nat_lt}
use Rattle.std.proofs.lemmas.Bool.{false≢true, eqb-true, or_cases, and_parts, leb-true, ltb-true, false_from_ne_true}
use Rattle.std.proofs.lemmas.List.Folds.{list_any-append}
use Rattle.std.proofs.lemmas.Grind.{flat_map-append}
use Rattle.log_image.specs.Image.{Shape, total, is_in_data, is_in_log, block_words}
use Rattle.log_image.specs.Entries.{meaning, names, all_names}
use Rattle.log_image.specs.Chains.{snapshots_of, is_listed}
use Rattle.log_image.specs.Positions.{log_words, log_entries, entries_of}
use Rattle.log_image.specs.Taken.{named_blocks}
use Rattle.log_image.proofs.NameLemmas.{test_in, names_in_data, not_data, different_join}
use Rattle.log_core.specs.Entries.{LogEntry, entry_by, entry_names}
use Rattle.log_core.specs.Views.{View}
use Rattle.log_core.specs.Origin.{Origin, shape, Free, Header, InChain, OwnedBy, LeftTo, owner_by, first_owner, first_recorded, first_logs, start_base, first_generation, first_entries, first_snapshot, first_views, start_generation, log_block}
use Rattle.log_core.specs.Files.{entries}
use Rattle.log_core.specs.Cores.{log_blocks, chain_names, data_names, generation_blocks, is_named, IsKept}
use Rattle.log_core.specs.Order.{nth_generation}
use Rattle.log_core.specs.Owners.{bit_for, BitsFit, ChainOwns, IsListOf, SeatOwns, NamesOnce}
use Rattle.log_core.specs.Invariant.{Owners}
use Rattle.log_image.proofs.SetWordLemmas.{log_inside}
use Rattle.log_core.proofs.starts.StartFacts.{Facts}
use Rattle.log_core.proofs.starts.StartViews.{each_view}
use Rattle.log_core.proofs.starts.StartLogs.{blocks, chained}

-- what the two tests of a block say of its owner
bit_by : (named header : Bool) → (if header || named then 1 else 0) ≡ bit_for (owner_by named header)
bit_by true true = refl
bit_by true false = refl
bit_by false true = refl
bit_by false false = refl

chain_by : (named header : Bool) → owner_by named header ≡ InChain → named ≡ true
chain_by true header is = refl
chain_by false true is = cc
chain_by false false is = cc

by_chain : (named header : Bool) → named ≡ true → owner_by named header ≡ InChain
by_chain true header is = refl
by_chain false header is = absurd (false≢true is)

header_by : (named header : Bool) → owner_by named header ≡ Header → header ≡ true
header_by true header is = cc
header_by false true is = refl
header_by false false is = cc

not_free : (named header : Bool) → owner_by named header ≢ Free → (named ≡ true) ⊎ (header ≡ true)
not_free true header some = inl refl
not_free false true some = inr refl
not_free false false some = absurd (some refl)

not_owned : (named header : Bool) (seat : ℕ) → owner_by named header ≡ OwnedBy seat → ⊥
not_owned true header seat is = cc
not_owned false true seat is = cc
not_owned false false seat is = cc

not_left : (named header : Bool) (seat : ℕ) → owner_by named header ≡ LeftTo seat → ⊥
not_left true header seat is = cc
not_left false true seat is = cc
not_left false false seat is = cc

-- where a block of the data area is
data_inside : (s : Shape) (block : ℕ) → is_in_data s block ≡ true → (0 < block) × (block < total s)
data_inside s block area =
    let parts : (nat_le 1 block ≡ true) × (nat_le block s.data_blocks ≡ true) = and_parts (nat_le 1 block) (nat_le block s.data_blocks) area in
    (omega (arith, leb-true 1 block parts.0), omega (arith, leb-true block s.data_blocks parts.1))

log_positive : (s : Shape) (block : ℕ) → is_in_log s block ≡ true → 0 < block
log_positive s block area = omega (arith, ltb-true s.data_blocks block (and_parts (nat_lt s.data_blocks block) (nat_lt block (total s)) area).0)

-- the log blocks of blocks are these
same_blocks : (content : ℕ → List ℕ) (numbers : List ℕ) → log_blocks (map (λ (block : ℕ). log_block block (content block)) numbers) ≡ numbers
same_blocks content [] = refl
same_blocks content (number ∷ numbers) = ap (λ (l : List ℕ). number ∷ l) (same_blocks content numbers)

-- the names of entries are those of what their words mean
same_names : (words : List ℕ) (sh : Shape) (entry_words : List ℕ) →
    entry_names (map (λ (word : ℕ). entry_by (λ (block : ℕ). block_words words sh block) word) entry_words) ≡ all_names (map (meaning words sh) entry_words)
same_names words sh [] = refl
same_names words sh (word ∷ entry_words) = ap (λ (l : List ℕ). names (meaning words sh word) ++ l) (same_names words sh entry_words)

module _ (o : Origin) (s : Facts o) where
  -- the chain of the one generation is the start's
  pub chain_is : chain_names (first_logs o) (start_generation o) ≡ o.chain
  chain_is = ap (λ (l : List ℕ). snapshots_of o.words (shape o) o.chain ++ l) (same_blocks (first_recorded o) (blocks o s)) ∙ (chained o s).whole

  pub data_is : data_names o (entries o []) (start_generation o) ≡ all_names (entries_of o.words (shape o) o.chain)
  data_is =
      let none : start_base o - start_base o ≡ 0 = omega arith in
      ap (λ (n : ℕ). all_names (first_snapshot o) ++ entry_names (drop n (first_entries o ++ []))) none
      ∙ ap (λ (es : List LogEntry). all_names (first_snapshot o) ++ entry_names es) (append-nil (first_entries o))
      ∙ ap (λ (l : List ℕ). all_names (first_snapshot o) ++ l) (same_names o.words (shape o) (log_words o.words (shape o) o.chain))
      ∙ sym (flat_map-append names (first_snapshot o) (log_entries o.words (shape o) o.chain))

  pub named_is : generation_blocks o (first_logs o) (entries o []) (start_generation o) ≡ named_blocks o.words (shape o) o.chain
  named_is = ap (λ (l : List ℕ). l ++ data_names o (entries o []) (start_generation o)) chain_is ∙ ap (λ (l : List ℕ). o.chain ++ l) data_is

  chain_area : (block : ℕ) → is_listed o.chain block ≡ true → is_in_log (shape o) block ≡ true
  chain_area block inside = test_in (is_in_log (shape o)) o.chain block s.stands.format.areas inside

  data_area : (block : ℕ) → is_listed (all_names (entries_of o.words (shape o) o.chain)) block ≡ true → is_in_data (shape o) block ≡ true
  data_area block inside = test_in (is_in_data (shape o)) (all_names (entries_of o.words (shape o) o.chain)) block (names_in_data o.words (shape o) o.chain s.stands.format) inside

  -- a block that the chain names is in the image, and not the header
  pub named_inside : (block : ℕ) → is_listed (named_blocks o.words (shape o) o.chain) block ≡ true → (0 < block) × (block < total (shape o))
  named_inside block inside = go (or_cases (is_listed o.chain block) (is_listed (all_names (entries_of o.words (shape o) o.chain)) block)
      (sym (list_any-append (λ (other : ℕ). other == block) o.chain (all_names (entries_of o.words (shape o) o.chain))) ∙ inside))
    where
      go : (is_listed o.chain block ≡ true) ⊎ (is_listed (all_names (entries_of o.words (shape o) o.chain)) block ≡ true) → (0 < block) × (block < total (shape o))
      go (inl chain) = (log_positive (shape o) block (chain_area block chain), log_inside (shape o) block (chain_area block chain))
      go (inr names) = data_inside (shape o) block (data_area block names)

  start_bits : BitsFit (shape o) o.taken (first_owner o)
  start_bits = record {
    bits = λ block inside. s.bitmap.bits block inside ∙ bit_by (is_listed (named_blocks o.words (shape o) o.chain) block) (block == 0);
    inside = λ block some. go block (not_free (is_listed (named_blocks o.words (shape o) o.chain) block) (block == 0) some);
    header = zero_is (is_listed (named_blocks o.words (shape o) o.chain) 0) refl;
    only = λ block is. eqb-true block 0 (header_by (is_listed (named_blocks o.words (shape o) o.chain) block) (block == 0) is);
  }
    where
      go : (block : ℕ) → (is_listed (named_blocks o.words (shape o) o.chain) block ≡ true) ⊎ ((block == 0) ≡ true) → block < total (shape o)
      go block (inl named) = (named_inside block named).1
      go block (inr header) = omega (arith, eqb-true block 0 header)

      zero_is : (named : Bool) → is_listed (named_blocks o.words (shape o) o.chain) 0 ≡ named → owner_by (is_listed (named_blocks o.words (shape o) o.chain) 0) true ≡ Header
      zero_is true is = absurd (omega (arith, (named_inside 0 is).0))
      zero_is false is = rw is refl

  pub start_owns : ChainOwns (is_named o (first_logs o) (entries o []) (start_generation o)) (first_owner o)
  start_owns = record {
    named = λ block is. ap (λ (l : List ℕ). is_listed l block) named_is ∙ chain_by (is_listed (named_blocks o.words (shape o) o.chain) block) (block == 0) is;
    all = λ block is. by_chain (is_listed (named_blocks o.words (shape o) o.chain) block) (block == 0) (sym (ap (λ (l : List ℕ). is_listed l block) named_is) ∙ is);
  }

  -- a seat has no block
  owns_none : (number : ℕ) → IsListOf (first_owner o) [] (OwnedBy number)
  owns_none number = record {
    listed = λ block inside. absurd (false≢true inside);
    all = λ block is. absurd (not_owned (is_listed (named_blocks o.words (shape o) o.chain) block) (block == 0) number is);
    once = refl;
  }

  left_none : (number : ℕ) → IsListOf (first_owner o) [] (LeftTo number)
  left_none number = record {
    listed = λ block inside. absurd (false≢true inside);
    all = λ block is. absurd (not_left (is_listed (named_blocks o.words (shape o) o.chain) block) (block == 0) number is);
    once = refl;
  }

  apart : (block : ℕ) → is_listed o.chain block ≡ true → is_listed (all_names (entries_of o.words (shape o) o.chain)) block ≡ false
  apart block chain = false_from_ne_true (is_listed (all_names (entries_of o.words (shape o) o.chain)) block) (λ named. not_data (shape o) block block (data_area block named) (chain_area block chain) refl)

  start_names : NamesOnce (shape o) (chain_names (first_logs o) (start_generation o)) (data_names o (entries o []) (start_generation o))
  start_names = rw (chain_is, data_is) (record {
    once = different_join o.chain (all_names (entries_of o.words (shape o) o.chain)) s.stands.is_chain.different s.stands.format.named_once apart;
    chain_area = chain_area;
    data_area = data_area;
  })

  pub start_owners : (floor : ℕ) (views : List View) →
      Owners o o.taken (first_views o) [] (start_generation o ∷ []) (first_logs o) (first_owner o) (λ place. IsKept o (start_generation o ∷ []) floor views place)
  start_owners floor views = record {
    bits = start_bits;
    chain = (let one : first_generation o + 1 - 1 - first_generation o ≡ 0 = omega arith in rw one start_owns);
    seats = each_view o (λ n v. SeatOwns (first_owner o) n v.seat) (λ n before. record { owned = owns_none n; left = left_none n }) (λ n. record { owned = owns_none n; left = left_none n });
    once = names;
  }
    where
      names : (place : ℕ) → IsKept o (start_generation o ∷ []) floor views place →
          NamesOnce (shape o) (chain_names (first_logs o) (nth_generation (start_generation o ∷ []) place)) (data_names o (entries o []) (nth_generation (start_generation o ∷ []) place))
      names zero kept = start_names
      names (suc place) kept = absurd (omega (arith, kept.inside))
