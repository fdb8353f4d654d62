-- A block that the map at a position gives is named in the data area by each kept generation whose chain begins before that.
use Rattle.std.proofs.Common.{◌≡◌, ◌<◌, ◌≤◌, ◌-◌, ◌==◌, nat_le, ◌⊎◌, inl, inr, ℕ, zero, suc, Bool, true, false, List, [], ◌∷◌, ◌++◌, length, take, drop, if◌then◌else◌, Option, Some, None, refl, sym, ◌∙◌, ap, subst, arith, append_assoc}
use Rattle.std.specs.List.{slice_get}
use Rattle.std.specs.Option.{option_or}
use Rattle.std.proofs.Math.Seq.{take-add}
use Rattle.std.proofs.lemmas.Bool.{eq-eqb}
use Rattle.std.proofs.lemmas.List.{map-append}
use Rattle.std.proofs.lemmas.List.Folds.{list_any-append}
use Rattle.log_image.specs.Entries.{Meaning, names, all_names}
use Rattle.log_image.specs.Maps.{block_in, map_of}
use Rattle.log_image.specs.Chains.{is_listed}
use Rattle.log_image.proofs.NameLemmas.{or_left, or_right}
use Rattle.log_core.specs.Entries.{LogEntry, meanings, entry_names}
use Rattle.log_core.specs.Origin.{Origin, start_base, first_snapshot, Generation}
use Rattle.log_core.specs.Files.{entries, history_map_at}
use Rattle.log_core.specs.Cores.{Core, data_names}
use Rattle.log_core.specs.After.{snapshot_meanings}
use Rattle.log_core.specs.Order.{nth_generation}
use Rattle.log_core.specs.Contents.{SnapshotHolds}
use Rattle.log_core.specs.Invariant.{Invariant, KeptIn}
use Rattle.log_core.proofs.WalkMaps.{map_more}
use Rattle.log_core.proofs.clauses.Apart.{has_left, has_right, either_of}

-- a block that an entry gives is among its blocks
pub at_in : (blocks : List ℕ) (place block : ℕ) → slice_get blocks place ≡ Some block → is_listed blocks block ≡ true
at_in [] place block found = cc
at_in (first ∷ blocks) zero block found = (let same : first ≡ block = cc in or_left (first == block) (is_listed blocks block) (eq-eqb first block same))
at_in (first ∷ blocks) (suc place) block found = or_right (first == block) (is_listed blocks block) (at_in blocks place block found)

pub given_name : (entry : Meaning) (virt block : ℕ) → block_in entry virt ≡ Some block → is_listed (names entry) block ≡ true
given_name entry virt block found = go (nat_le entry.virt virt) found
  where
    go : (named : Bool) → (if named then slice_get entry.blocks (virt - entry.virt) else None) ≡ Some block → is_listed (names entry) block ≡ true
    go true is = has_right entry.holder entry.blocks block (at_in entry.blocks (virt - entry.virt) block is)
    go false is = cc

pub one_of : (first second : Option ℕ) (block : ℕ) → option_or first second ≡ Some block → (first ≡ Some block) ⊎ (second ≡ Some block)
one_of None second block found = inr found
one_of (Some other) second block found = inl found

-- a block that entries map is among those that they name
pub mapped_name : (entries : List Meaning) (virt block : ℕ) → map_of entries virt ≡ Some block → is_listed (all_names entries) block ≡ true
mapped_name [] virt block found = cc
mapped_name (entry ∷ entries) virt block found =
    elim (one_of (map_of entries virt) (block_in entry virt) block found) [
      | inl is ↦ has_right (names entry) (all_names entries) block (mapped_name entries virt block is)
      | inr is ↦ has_left (names entry) (all_names entries) block (given_name entry virt block is)
    ]

meanings_more : (first second : List LogEntry) → meanings (first ++ second) ≡ meanings first ++ meanings second
meanings_more first second = map-append (λ (entry : LogEntry). entry.meaning) first second

-- the names of the first of some entries are names of them all
first_names : (count : ℕ) (es : List LogEntry) (block : ℕ) → is_listed (all_names (meanings (take count es))) block ≡ true → is_listed (entry_names es) block ≡ true
first_names zero es block listed = cc
first_names (suc count) [] block listed = cc
first_names (suc count) (entry ∷ es) block listed = either_of (is_listed (names entry.meaning) block) (is_listed (all_names (meanings (take count es))) block)
    (sym (list_any-append (λ (other : ℕ). other == block) (names entry.meaning) (all_names (meanings (take count es)))) ∙ listed)
    (λ here. has_left (names entry.meaning) (entry_names es) block here)
    (λ later. has_right (names entry.meaning) (entry_names es) block (first_names count es block later))

module _ (o : Origin) (c : Core) (inv : Invariant o c) (place : ℕ) (kept : KeptIn o c place) where
  abbrev g : Generation
  g = nth_generation c.generations place

  abbrev es : List LogEntry
  es = entries o c.history

  -- the snapshot's map
  base_name : (virt block : ℕ) → history_map_at o es g.base virt ≡ Some block → is_listed g.shared block ≡ true
  base_name virt block found = go g.snapshots refl (inv.contents place kept).snapshot
    where
      go : (snapshots : List ℕ) → g.snapshots ≡ snapshots → SnapshotHolds o c.history c.recorded c.logs g → is_listed g.shared block ≡ true
      go [] none holds = (let empty = (holds.empty (ap (λ (l : List ℕ). length l) none)).2 virt in let both : None ≡ Some block = sym empty ∙ found in cc)
      go (first ∷ rest) some holds =
          (let whole = holds.whole (subst (λ (l : List ℕ). 0 < length l) (sym some) (omega arith)) in
          subst (λ (l : List ℕ). is_listed l block ≡ true) (sym holds.shared_is) (mapped_name (snapshot_meanings c.recorded g.snapshots) virt block (whole.map_is virt ∙ found)))

  pub mapped_named : (position virt block : ℕ) → g.base ≤ position → history_map_at o es position virt ≡ Some block → is_listed (data_names o es g) block ≡ true
  mapped_named position virt block low found =
      elim (one_of (map_of later virt) (history_map_at o es g.base virt) block (sym parts ∙ found)) [
        | inl is ↦ has_right g.shared (entry_names (drop (g.base - start_base o) es)) block
            (first_names (position - g.base) (drop (g.base - start_base o) es) block (mapped_name later virt block is))
        | inr is ↦ has_left g.shared (entry_names (drop (g.base - start_base o) es)) block (base_name virt block is)
      ]
    where
      later : List Meaning
      later = meanings (take (position - g.base) (drop (g.base - start_base o) es))

      split : take (position - start_base o) es ≡ take (g.base - start_base o) es ++ take (position - g.base) (drop (g.base - start_base o) es)
      split = (let from = inv.order.generations_rise.from_first place kept.inside in
          ap (λ (count : ℕ). take count es) (omega (arith, from, low)) ∙ take-add (g.base - start_base o) (position - g.base) es)

      parts : history_map_at o es position virt ≡ option_or (map_of later virt) (history_map_at o es g.base virt)
      parts = ap (λ (l : List LogEntry). map_of (first_snapshot o ++ meanings l) virt) split
          ∙ (ap (λ (l : List Meaning). map_of (first_snapshot o ++ l) virt) (meanings_more (take (g.base - start_base o) es) (take (position - g.base) (drop (g.base - start_base o) es)))
          ∙ (ap (λ (l : List Meaning). map_of l virt) (sym (append_assoc (first_snapshot o) (meanings (take (g.base - start_base o) es)) later))
          ∙ map_more (first_snapshot o ++ meanings (take (g.base - start_base o) es)) later virt))
