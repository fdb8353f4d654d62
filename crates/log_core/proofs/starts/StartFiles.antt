-- The files that the blocks of a start hold.
use Rattle.std.proofs.Common.{◌≡◌, ◌⊎◌, ℕ, zero, suc, ◌+◌, ◌-◌, ◌*◌, ◌/◌, ◌%◌, ◌<◌, ◌≤◌, List, [], ◌∷◌, ◌++◌, length, take, get_or, map, refl, sym, ap, ◌∙◌, subst, arith, inl, inr, Option, Some, None, append-nil}
use Rattle.std.proofs.lemmas.Bool.{cases_lt, lt-ltb, le-ltb}
use Rattle.std.proofs.lemmas.List.{take_all, length-map}
use Rattle.std.proofs.lemmas.List.FromFn.{get_or-map-range_with_len, length-map-range_with_len}
use Rattle.std.proofs.lemmas.Nat.{div-mul-add, mod-mul-add}
use Rattle.log_image.specs.Image.{Shape, block_words}
use Rattle.log_image.specs.Entries.{Meaning, meaning}
use Rattle.log_image.specs.Maps.{map_of, size_after}
use Rattle.log_image.specs.Positions.{log_words, log_entries, entries_of}
use Rattle.log_core.specs.Entries.{LogEntry, entry_by, meanings}
use Rattle.log_core.specs.Origin.{Origin, shape, first_recorded, first_snapshot, first_entries, first_position, start_base, start_size}
use Rattle.log_core.specs.Files.{Write, entries, history_entries_to, history_map_at, history_size_at, byte_in, early_file, file_at, Holds, HoldsBelow}
use Rattle.log_core.specs.Contents.{HoldsFileAt}
use Rattle.log_core.proofs.starts.StartFacts.{Facts}

-- the meanings of entries are those of their words
same_meanings : (words : List ℕ) (sh : Shape) (entry_words : List ℕ) → meanings (map (λ (word : ℕ). entry_by (λ (block : ℕ). block_words words sh block) word) entry_words) ≡ map (meaning words sh) entry_words
same_meanings words sh [] = refl
same_meanings words sh (word ∷ entry_words) = ap (λ (l : List Meaning). meaning words sh word ∷ l) (same_meanings words sh entry_words)

no_writes : (count : ℕ) → take {A = Write} count [] ≡ []
no_writes zero = refl
no_writes (suc count) = refl

module _ (o : Origin) (s : Facts o) where
  pub same_entries : entries o [] ≡ first_entries o
  same_entries = append-nil (first_entries o)

  -- the file before the start's position, and from it on
  early : (position : ℕ) → position < first_position o → file_at o [] position ≡ early_file o position
  early position before = rw (lt-ltb position (first_position o) before) refl

  late : (position : ℕ) → first_position o ≤ position → file_at o [] position ≡ o.file
  late position past = rw (le-ltb position (first_position o) past, no_writes (position - first_position o)) refl

  -- a byte of the early file
  abbrev byte_at : ℕ → ℕ → ℕ
  byte_at position place = byte_in (first_recorded o) (history_map_at o (first_entries o) position (place / (shape o).block_bytes)) (place % (shape o).block_bytes)

  early_byte : (position virt at : ℕ) → at < (shape o).block_bytes → virt * (shape o).block_bytes + at < history_size_at o (first_entries o) position →
      get_or (early_file o position) (virt * (shape o).block_bytes + at) 0 ≡ byte_in (first_recorded o) (history_map_at o (first_entries o) position virt) at
  early_byte position virt at inside below =
      get_or-map-range_with_len (byte_at position) 0 (history_size_at o (first_entries o) position) (virt * (shape o).block_bytes + at) (virt * (shape o).block_bytes + at) 0 below (omega arith)
      ∙ ap (λ (v : ℕ). byte_in (first_recorded o) (history_map_at o (first_entries o) position v) ((virt * (shape o).block_bytes + at) % (shape o).block_bytes)) (div-mul-add virt (shape o).block_bytes at inside)
      ∙ ap (λ (i : ℕ). byte_in (first_recorded o) (history_map_at o (first_entries o) position virt) i) (mod-mul-add virt (shape o).block_bytes at inside)

  -- from the start's position on all entries of the log are there
  all_entries : (position : ℕ) → first_position o ≤ position → meanings (history_entries_to o (entries o []) position) ≡ log_entries o.words (shape o) o.chain
  all_entries position past =
      ap (λ (es : List LogEntry). meanings (take (position - start_base o) es)) same_entries
      ∙ ap (λ (es : List LogEntry). meanings es) (take_all (position - start_base o) (first_entries o) (omega (arith, past, length-map (log_words o.words (shape o) o.chain) (λ (word : ℕ). entry_by (first_recorded o) word), long)))
      ∙ same_meanings o.words (shape o) (log_words o.words (shape o) o.chain)
    where
      long : first_position o ≡ start_base o + length (log_words o.words (shape o) o.chain)
      long = refl

  late_map : (position virt : ℕ) → first_position o ≤ position → history_map_at o (entries o []) position virt ≡ map_of (entries_of o.words (shape o) o.chain) virt
  late_map position virt past = ap (λ (l : List Meaning). map_of (first_snapshot o ++ l) virt) (all_entries position past)

  held_byte : (virt at : ℕ) → at < (shape o).block_bytes → (found : Option ℕ) → map_of (entries_of o.words (shape o) o.chain) virt ≡ found → byte_in (first_recorded o) found at ≡ get_or o.file (virt * (shape o).block_bytes + at) 0
  held_byte virt at inside None is = sym (s.stands.holds.unmapped virt is at inside)
  held_byte virt at inside (Some block) is = s.stands.holds.mapped virt block is at inside

  early_holds : (position : ℕ) → position < first_position o → HoldsBelow (shape o) (history_size_at o (entries o []) position) (first_recorded o) (history_map_at o (entries o []) position) (file_at o [] position)
  early_holds position before =
      subst (λ (file : List ℕ). HoldsBelow (shape o) (history_size_at o (entries o []) position) (first_recorded o) (history_map_at o (entries o []) position) file) (sym (early position before))
      (subst (λ (es : List LogEntry). HoldsBelow (shape o) (history_size_at o es position) (first_recorded o) (history_map_at o es position) (early_file o position)) (sym same_entries)
      (record { each = λ virt at inside below. sym (early_byte position virt at inside below) }))

  late_holds : (position : ℕ) → first_position o ≤ position → Holds (shape o) (first_recorded o) (history_map_at o (entries o []) position) (file_at o [] position)
  late_holds position past = record {
    each = λ virt at inside.
        ap (λ (found : Option ℕ). byte_in (first_recorded o) found at) (late_map position virt past)
        ∙ held_byte virt at inside (map_of (entries_of o.words (shape o) o.chain) virt) refl
        ∙ ap (λ (file : List ℕ). get_or file (virt * (shape o).block_bytes + at) 0) (sym (late position past));
  }

  pub same_size : (position : ℕ) → (position < first_position o) ⊎ (first_position o ≤ position) → length (file_at o [] position) ≡ history_size_at o (entries o []) position
  same_size position (inl before) =
      ap (λ (file : List ℕ). length file) (early position before)
      ∙ length-map-range_with_len (byte_at position) 0 (history_size_at o (first_entries o) position)
      ∙ ap (λ (es : List LogEntry). history_size_at o es position) (sym same_entries)
  same_size position (inr past) =
      ap (λ (file : List ℕ). length file) (late position past)
      ∙ sym s.stands.ends_with
      ∙ ap (λ (l : List Meaning). size_after (shape o) (start_size o) l) (sym (all_entries position past))

  pub start_file : (position : ℕ) → HoldsFileAt o [] (first_recorded o) position
  start_file position = record { early = early_holds position; held = late_holds position; size_is = same_size position (cases_lt position (first_position o)) }
