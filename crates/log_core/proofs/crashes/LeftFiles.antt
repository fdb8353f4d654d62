-- The file that a crash leaves: the chain stands for the file at its position.
use Rattle.std.proofs.Common.{◌≡◌, ◌≤◌, ◌-◌, ℕ, List, [], ◌∷◌, ◌++◌, length, take, drop, max, Some, Option, true, refl, sym, ◌∙◌, ap, subst, arith, slice_index}
use Rattle.std.proofs.lemmas.List.{map-append}
use Rattle.log_entry.specs.WordBytes.{word_bytes}
use Rattle.log_image.specs.Image.{Shape, block_words}
use Rattle.log_image.specs.Header.{head_block}
use Rattle.log_image.specs.Entries.{Meaning, all_names}
use Rattle.log_image.specs.Maps.{map_of, size_after, entry_end}
use Rattle.log_image.specs.Chains.{is_listed}
use Rattle.log_image.specs.Positions.{entries_of, log_entries, size_at_end}
use Rattle.log_image.specs.Stands.{HoldsFile, StandsIn}
use Rattle.persistence.specs.Survivors.{Survives}
use Rattle.log_core.specs.Entries.{LogEntry, meanings, entry_names}
use Rattle.log_core.specs.Origin.{Origin, shape, first_position, start_base, start_size, Generation}
use Rattle.log_core.specs.Files.{entries, end_of, file_at, history_map_at, history_size_at, byte_in}
use Rattle.log_core.specs.Cores.{Core, data_names, head_floor}
use Rattle.log_core.specs.Order.{nth_generation, front_of}
use Rattle.log_core.specs.Contents.{HoldsFileAt}
use Rattle.log_core.specs.Invariant.{Invariant, KeptIn}
use Rattle.log_core.proofs.MappedBlocks.{mapped_name}
use Rattle.log_core.proofs.ChainEntries.{chain_entries, chain_data, chain_map, split}
use Rattle.log_core.proofs.clauses.Apart.{has_left, has_right}
use Rattle.log_core.proofs.crashes.LeftBlocks.{fixed}
use Rattle.log_core.proofs.crashes.LeftChains.{chain, position, to_end, from_synced, from_base, is_chain, has_format, position_is, size_is, entries_are, log_entries_are}

-- the size after entries that are put together
size_join : (image : Shape) (size : ℕ) (first second : List Meaning) → size_after image size (first ++ second) ≡ size_after image (size_after image size first) second
size_join image size [] second = refl
size_join image size (entry ∷ first) second = size_join image (max size (entry_end image entry)) first second

module _ (o : Origin) (c : Core) (inv : Invariant o c) (place : ℕ) (kept : KeptIn o c place) (words : List ℕ) (left : Survives c.memory words) (floor : head_floor c.memory ≤ place) where
  abbrev g : Generation
  g = nth_generation c.generations place

  abbrev es : List LogEntry
  es = entries o c.history

  abbrev blocks : List ℕ
  blocks = chain o c inv place kept words left floor

  abbrev at_end : ℕ
  at_end = position o c inv place kept words left floor

  abbrev low : g.base ≤ at_end
  low = from_base o c inv place kept words left floor

  abbrev file : List ℕ
  file = file_at o c.history at_end

  upto : at_end ≤ end_of o c.history
  upto = to_end o c inv place kept words left floor

  late : first_position o ≤ at_end
  late = (let synced = from_synced o c inv place kept words left floor in let first = inv.syncs.from_first in omega (arith, synced, first))

  file_there : HoldsFileAt o c.history c.recorded at_end
  file_there = (inv.contents place kept).files at_end low upto

  -- the size
  size_there : size_at_end words (shape o) blocks ≡ length file
  size_there = ap (λ (size : ℕ). size_after (shape o) size (log_entries words (shape o) blocks)) (size_is o c inv place kept words left floor ∙ (inv.contents place kept).snapshot.size_is)
      ∙ (ap (λ (l : List Meaning). size_after (shape o) (history_size_at o es g.base) l) (log_entries_are o c inv place kept words left floor)
      ∙ (sym (size_join (shape o) (start_size o) (meanings (take (g.base - start_base o) es)) (meanings (take (at_end - g.base) (drop (g.base - start_base o) es))))
      ∙ (ap (λ (l : List Meaning). size_after (shape o) (start_size o) l)
      (sym (map-append (λ (e : LogEntry). e.meaning) (take (g.base - start_base o) es) (take (at_end - g.base) (drop (g.base - start_base o) es)))
      ∙ ap (λ (l : List LogEntry). meanings l) (sym (split o c inv place kept at_end low)))
      ∙ sym file_there.size_is)))

  -- the map
  map_there : (virt : ℕ) → map_of (entries_of words (shape o) blocks) virt ≡ history_map_at o es at_end virt
  map_there virt = ap (λ (l : List Meaning). map_of l virt) (entries_are o c inv place kept words left floor) ∙ chain_map o c inv place kept at_end low virt

  block_there : (virt block : ℕ) → map_of (entries_of words (shape o) blocks) virt ≡ Some block → block_words words (shape o) block ≡ c.recorded block
  block_there virt block is = fixed o c inv words left place kept block (has_right g.snapshots (data_names o es g) block
      (subst (λ (l : List ℕ). is_listed l block ≡ true) (sym (chain_data o c inv place kept at_end low))
      (has_left (all_names (chain_entries o c inv place kept at_end low)) (entry_names (drop (at_end - start_base o) es)) block
      (mapped_name (chain_entries o c inv place kept at_end low) virt block (sym (ap (λ (l : List Meaning). map_of l virt) (entries_are o c inv place kept words left floor)) ∙ is)))))

  holds : HoldsFile words (shape o) (entries_of words (shape o) blocks) file
  holds = record {
    mapped = λ virt block is at inside.
        ap (λ (l : List ℕ). slice_index (word_bytes l) at) (block_there virt block is)
        ∙ (ap (λ (found : Option ℕ). byte_in c.recorded found at) (sym (sym (map_there virt) ∙ is))
        ∙ (file_there.held late).each virt at inside);
    unmapped = λ virt none at inside.
        sym ((file_there.held late).each virt at inside) ∙ ap (λ (found : Option ℕ). byte_in c.recorded found at) (sym (map_there virt) ∙ none);
  }

  -- the words stand for the file
  pub stands : head_block words ≡ front_of c.logs g → StandsIn words (shape o) blocks file at_end
  stands head = record {
    is_chain = is_chain o c inv place kept words left floor head;
    format = has_format o c inv place kept words left floor;
    ends_at = position_is o c inv place kept words left floor;
    ends_with = size_there;
    holds = holds;
  }
