-- A file after bytes are laid over it, place by place.
use Rattle.std.proofs.Common.{◌≡◌, ◌<◌, ◌≤◌, ◌+◌, ◌-◌, ◌⊎◌, inl, inr, max, ℕ, List, [], ◌∷◌, ◌++◌, length, take, drop, replicate, slice_index, refl, sym, ap, ◌∙◌, arith, length-append, length-take, length-drop}
use Rattle.std.proofs.lemmas.Bool.{cases_lt}
use Rattle.std.proofs.lemmas.Grind.{same_number_lists}
use Rattle.std.proofs.lemmas.List.{get_or_append_left, get_or-append_right, get_or-take, get_or-drop, length-replicate}
use Rattle.log_entry.specs.ByteFile.{write, with_zeros_to, with_bytes_over}
use Rattle.log_image.proofs.HoldingLemmas.{zeros_after}

laid_over : (file : List ℕ) (offset : ℕ) (bytes : List ℕ) → 0 < length bytes → write file offset bytes ≡ with_bytes_over (with_zeros_to file offset) offset bytes
laid_over file offset [] some = absurd (omega (arith, some))
laid_over file offset (byte ∷ bytes) some = refl

module _ (file : List ℕ) (offset : ℕ) (bytes : List ℕ) (some : 0 < length bytes) where
  -- the file reaches the place, and what lies before it and behind the bytes is the file's
  abbrev long : List ℕ
  long = with_zeros_to file offset

  abbrev front : List ℕ
  front = take offset long

  abbrev back : List ℕ
  back = drop (offset + length bytes) long

  length_long : length long ≡ max (length file) offset
  length_long = length-append file (replicate (offset - length file) 0) ∙ omega (arith, length-replicate {A = ℕ} (offset - length file) 0)

  length_front : length front ≡ offset
  length_front = length-take offset long ∙ omega (arith, length_long)

  length_both : length (front ++ bytes) ≡ offset + length bytes
  length_both = length-append front bytes ∙ omega (arith, length_front)

  parts : write file offset bytes ≡ front ++ bytes ++ back
  parts = laid_over file offset bytes some

  pub length_laid : length (write file offset bytes) ≡ max (length file) (offset + length bytes)
  length_laid = ap (λ (l : List ℕ). length l) parts ∙ (length-append (front ++ bytes) back ∙ omega (arith, length_both, length-drop (offset + length bytes) long, length_long))

  -- a byte of those, and a byte of the file before and behind them
  pub byte_inside : (at : ℕ) → at < length bytes → slice_index (write file offset bytes) (offset + at) ≡ slice_index bytes at
  byte_inside at low = ap (λ (l : List ℕ). slice_index l (offset + at)) parts
      ∙ (get_or_append_left (front ++ bytes) back 0 (offset + at) (omega (arith, low, length_both))
      ∙ (get_or-append_right front bytes offset (offset + at) 0 length_front (omega arith)
      ∙ ap (λ (k : ℕ). slice_index bytes k) (let same : offset + at - offset ≡ at = omega arith in same)))

  pub byte_before : (at : ℕ) → at < offset → slice_index (write file offset bytes) at ≡ slice_index file at
  byte_before at low = ap (λ (l : List ℕ). slice_index l at) parts
      ∙ (get_or_append_left (front ++ bytes) back 0 at (omega (arith, low, length_both))
      ∙ (get_or_append_left front bytes 0 at (omega (arith, low, length_front))
      ∙ (get_or-take offset long at 0 low ∙ zeros_after file (offset - length file) at)))

  pub byte_behind : (at : ℕ) → offset + length bytes ≤ at → slice_index (write file offset bytes) at ≡ slice_index file at
  byte_behind at past = ap (λ (l : List ℕ). slice_index l at) parts
      ∙ (get_or-append_right (front ++ bytes) back (offset + length bytes) at 0 length_both past
      ∙ (get_or-drop (offset + length bytes) long (at - (offset + length bytes)) 0
      ∙ (ap (λ (k : ℕ). slice_index long k) (let same : offset + length bytes + (at - (offset + length bytes)) ≡ at = omega (arith, past) in same)
      ∙ zeros_after file (offset - length file) at)))

-- an append lays bytes over the file from its end on
pub append_laid : (file : List ℕ) (offset : ℕ) (bytes : List ℕ) → 0 < length bytes → offset ≡ length file → file ++ bytes ≡ write file offset bytes
append_laid file offset bytes some is = same_number_lists (file ++ bytes) (write file offset bytes)
    (length-append file bytes ∙ (let long = length_laid file offset bytes some in omega (arith, long, is))) (λ at low. go at low (cases_lt at offset))
  where
    go : (at : ℕ) → at < length (file ++ bytes) → (at < offset) ⊎ (offset ≤ at) → slice_index (file ++ bytes) at ≡ slice_index (write file offset bytes) at
    go at low (inl before) = get_or_append_left file bytes 0 at (omega (arith, before, is)) ∙ sym (byte_before file offset bytes some at before)
    go at low (inr past) = get_or-append_right file bytes offset at 0 (sym is) past
        ∙ (sym (byte_inside file offset bytes some (at - offset) (omega (arith, low, past, is, length-append file bytes)))
        ∙ ap (λ (k : ℕ). slice_index (write file offset bytes) k) (let same : offset + (at - offset) ≡ at = omega (arith, past) in same))
