-- The file that mapped blocks without slack hold.
use Rattle.std.proofs.Common.{◌≡◌, ℕ, ◌+◌, ◌*◌, ◌/◌, ◌%◌, ◌<◌, ◌≤◌, List, length, get_or, map, Option, Some, None, ◌⊎◌, inl, inr, sym, ap, ◌∙◌, arith}
use Rattle.std.specs.List.{range_with_len}
use Rattle.std.proofs.lemmas.Bool.{cases_lt, cases_eq}
use Rattle.std.proofs.lemmas.List.{get_or_past}
use Rattle.std.proofs.lemmas.List.FromFn.{get_or-map-range_with_len, length-map-range_with_len}
use Rattle.std.proofs.lemmas.Nat.{div-mul-add, mod-mul-add}
use Rattle.log_image.specs.Image.{Shape, block_content}
use Rattle.log_image.specs.Entries.{Meaning}
use Rattle.log_image.specs.Maps.{map_of}
use Rattle.log_image.specs.Stands.{HoldsFile}
use Rattle.opening_rules.specs.Slack.{HasNoSlack}

module _ (words : List ℕ) (shape : Shape) (entries : List Meaning) where
  -- a byte of a virtual block that is mapped so
  byte_in : Option ℕ → ℕ → ℕ
  byte_in (Some block) at = get_or (block_content words shape block) at 0
  byte_in None at = 0

  byte_at : ℕ → ℕ
  byte_at place = byte_in (map_of entries (place / shape.block_bytes)) (place % shape.block_bytes)

  -- the bytes of a file of this size
  pub held : ℕ → List ℕ
  held size = map byte_at (range_with_len 0 size)

  pub length_held : (size : ℕ) → length (held size) ≡ size
  unfolding held
  length_held size = length-map-range_with_len byte_at 0 size

  held_at : (size virt at : ℕ) → at < shape.block_bytes → virt * shape.block_bytes + at < size → get_or (held size) (virt * shape.block_bytes + at) 0 ≡ byte_in (map_of entries virt) at
  unfolding held byte_at
  held_at size virt at inside below =
      get_or-map-range_with_len byte_at 0 size (virt * shape.block_bytes + at) (virt * shape.block_bytes + at) 0 below (omega arith)
      ∙ ap (λ (v : ℕ). byte_in (map_of entries v) ((virt * shape.block_bytes + at) % shape.block_bytes)) (div-mul-add virt shape.block_bytes at inside)
      ∙ ap (λ (k : ℕ). byte_in (map_of entries virt) k) (mod-mul-add virt shape.block_bytes at inside)

  past_held : (size place : ℕ) → size ≤ place → get_or (held size) place 0 ≡ 0
  past_held size place past = get_or_past (held size) place 0 (omega (arith, length_held size, past))

  pub holds : (size : ℕ) → HasNoSlack words shape entries size → HoldsFile words shape entries (held size)
  unfolding byte_in
  holds size none = record {
    mapped = λ virt block is at inside. mapped_at virt block is at inside (cases_lt (virt * shape.block_bytes + at) size);
    unmapped = λ virt is at inside. unmapped_at virt is at inside (cases_lt (virt * shape.block_bytes + at) size);
  }
    where
      mapped_at : (virt block : ℕ) → map_of entries virt ≡ Some block → (at : ℕ) → at < shape.block_bytes → (virt * shape.block_bytes + at < size) ⊎ (size ≤ virt * shape.block_bytes + at) →
          get_or (block_content words shape block) at 0 ≡ get_or (held size) (virt * shape.block_bytes + at) 0
      mapped_at virt block is at inside (inl below) = sym (held_at size virt at inside below ∙ ap (λ (m : Option ℕ). byte_in m at) is)
      mapped_at virt block is at inside (inr past) = zero_there (cases_eq (get_or (block_content words shape block) at 0) 0) ∙ sym (past_held size (virt * shape.block_bytes + at) past)
        where
          zero_there : (get_or (block_content words shape block) at 0 ≡ 0) ⊎ (get_or (block_content words shape block) at 0 ≡ 0 → ⊥) → get_or (block_content words shape block) at 0 ≡ 0
          zero_there (inl zero) = zero
          zero_there (inr some) = absurd (none virt block (record { mapped = is; at = at; inside = inside; past_end = past; nonzero = some }))

      unmapped_at : (virt : ℕ) → map_of entries virt ≡ None → (at : ℕ) → at < shape.block_bytes → (virt * shape.block_bytes + at < size) ⊎ (size ≤ virt * shape.block_bytes + at) →
          get_or (held size) (virt * shape.block_bytes + at) 0 ≡ 0
      unmapped_at virt is at inside (inl below) = held_at size virt at inside below ∙ ap (λ (m : Option ℕ). byte_in m at) is
      unmapped_at virt is at inside (inr past) = past_held size (virt * shape.block_bytes + at) past
