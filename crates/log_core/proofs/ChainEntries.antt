-- The entries that a kept generation's chain says a map by: those of its snapshot, and those of its log up to a position.
use Rattle.std.proofs.Common.{◌≡◌, ◌<◌, ◌≤◌, ◌+◌, ◌-◌, ◌++◌, ℕ, List, [], ◌∷◌, length, take, drop, refl, sym, ◌∙◌, ap, subst, arith, append_assoc, Option}
use Rattle.std.specs.Option.{option_or}
use Rattle.std.proofs.Math.Seq.{take-add}
use Rattle.std.proofs.lemmas.Grind.{flat_map-append}
use Rattle.std.proofs.lemmas.List.{map-append, drop-drop, take-append-drop}
use Rattle.log_image.specs.Entries.{Meaning, names, all_names}
use Rattle.log_image.specs.Maps.{map_of}
use Rattle.log_core.specs.Entries.{LogEntry, meanings, entry_names}
use Rattle.log_core.specs.Origin.{Origin, start_base, first_snapshot, Generation}
use Rattle.log_core.specs.Files.{entries, history_map_at}
use Rattle.log_core.specs.Cores.{Core, data_names}
use Rattle.log_core.specs.After.{snapshot_meanings}
use Rattle.log_core.specs.Order.{nth_generation}
use Rattle.log_core.specs.Contents.{SnapshotHolds}
use Rattle.log_core.specs.Invariant.{Invariant, KeptIn}
use Rattle.log_core.proofs.WalkMaps.{map_more}

-- the names of entries are those of what they mean
pub names_of_meanings : (es : List LogEntry) → all_names (meanings es) ≡ entry_names es
names_of_meanings [] = refl
names_of_meanings (e ∷ es) = ap (λ (l : List ℕ). names e.meaning ++ l) (names_of_meanings es)

module _ (o : Origin) (c : Core) (inv : Invariant o c) (place : ℕ) (kept : KeptIn o c place) where
  abbrev g : Generation
  g = nth_generation c.generations place

  abbrev es : List LogEntry
  es = entries o c.history

  abbrev from : ℕ
  from = g.base - start_base o

  snapshot_map : (virt : ℕ) → map_of (snapshot_meanings c.recorded g.snapshots) virt ≡ history_map_at o es g.base virt
  snapshot_map virt = go g.snapshots refl (inv.contents place kept).snapshot
    where
      go : (snapshots : List ℕ) → g.snapshots ≡ snapshots → SnapshotHolds o c.history c.recorded c.logs g → map_of (snapshot_meanings c.recorded g.snapshots) virt ≡ history_map_at o es g.base virt
      go [] none holds = ap (λ (l : List ℕ). map_of (snapshot_meanings c.recorded l) virt) none ∙ sym ((holds.empty (ap (λ (l : List ℕ). length l) none)).2 virt)
      go (first ∷ rest) some holds = (holds.whole (subst (λ (l : List ℕ). 0 < length l) (sym some) (omega arith))).map_is virt

  module _ (position : ℕ) (low : g.base ≤ position) where
    abbrev pub later : List LogEntry
    later = take (position - g.base) (drop from es)

    abbrev pub chain_entries : List Meaning
    chain_entries = snapshot_meanings c.recorded g.snapshots ++ meanings later

    count_is : position - start_base o ≡ from + (position - g.base)
    count_is = (let first = inv.order.generations_rise.from_first place kept.inside in omega (arith, first, low))

    pub split : take (position - start_base o) es ≡ take from es ++ later
    split = ap (λ (count : ℕ). take count es) count_is ∙ take-add from (position - g.base) es

    pub chain_map : (virt : ℕ) → map_of chain_entries virt ≡ history_map_at o es position virt
    chain_map virt = map_more (snapshot_meanings c.recorded g.snapshots) (meanings later) virt
        ∙ (ap (λ (found : Option ℕ). option_or (map_of (meanings later) virt) found) (snapshot_map virt)
        ∙ (sym (map_more (first_snapshot o ++ meanings (take from es)) (meanings later) virt)
        ∙ (ap (λ (l : List Meaning). map_of l virt) (append_assoc (first_snapshot o) (meanings (take from es)) (meanings later))
        ∙ (ap (λ (l : List Meaning). map_of (first_snapshot o ++ l) virt) (sym (map-append (λ (e : LogEntry). e.meaning) (take from es) later))
        ∙ ap (λ (l : List LogEntry). map_of (first_snapshot o ++ meanings l) virt) (sym split)))))

    -- the generation names in the data area what they do, and what the entries after the position do
    pub chain_data : data_names o es g ≡ all_names chain_entries ++ entry_names (drop (position - start_base o) es)
    chain_data =
        (let rest : entry_names (drop from es) ≡ all_names (meanings later) ++ entry_names (drop (position - start_base o) es) =
        ap (λ (l : List LogEntry). entry_names l) (sym (take-append-drop (position - g.base) (drop from es)))
        ∙ (flat_map-append (λ (e : LogEntry). names e.meaning) later (drop (position - g.base) (drop from es))
        ∙ (ap (λ (l : List ℕ). l ++ entry_names (drop (position - g.base) (drop from es))) (sym (names_of_meanings later))
        ∙ ap (λ (l : List LogEntry). all_names (meanings later) ++ entry_names l) (drop-drop (position - g.base) from es ∙ ap (λ (k : ℕ). drop k es) (sym count_is)))) in
        ap (λ (l : List ℕ). l ++ entry_names (drop from es)) (inv.contents place kept).snapshot.shared_is
        ∙ (ap (λ (l : List ℕ). all_names (snapshot_meanings c.recorded g.snapshots) ++ l) rest
        ∙ (sym (append_assoc (all_names (snapshot_meanings c.recorded g.snapshots)) (all_names (meanings later)) (entry_names (drop (position - start_base o) es)))
        ∙ ap (λ (l : List ℕ). l ++ entry_names (drop (position - start_base o) es)) (sym (flat_map-append names (snapshot_meanings c.recorded g.snapshots) (meanings later))))))
