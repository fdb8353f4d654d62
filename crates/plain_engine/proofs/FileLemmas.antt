-- A file after bytes are written, place by place, and the blocks that they touch.
use Rattle.std.proofs.Common.{◌≡◌, ◌<◌, ◌≤◌, ◌+◌, ◌-◌, ◌*◌, ◌/◌, ◌%◌, ◌⊎◌, inl, inr, max, ℕ, List, [], ◌∷◌, ◌++◌, length, get_or, take, drop, replicate, nat_lt, if◌then◌else◌, refl, sym, ap, ◌∙◌, arith, length-append, length-take, length-drop}
use Rattle.std.proofs.lemmas.Bool.{cases_lt, lt-ltb, le-ltb, le-leb}
use Rattle.image_steps.proofs.StoreStep.{nothing_after}
use Rattle.std.proofs.lemmas.List.{get_or-take, get_or-drop, get_or-append-add, length-replicate, drop_all}
use Rattle.std.proofs.Math.ListN.{get_or-append}
use Rattle.std.proofs.Math.Nat.{mod-lt, mul-le-mul_right}
use Rattle.std.proofs.lemmas.Nat.{div-add-mod'}
use Rattle.log_entry.specs.ByteFile.{write, with_zeros_to}
use Rattle.log_entry.specs.Legal.{touched_blocks}
use Rattle.log_image.proofs.HoldingLemmas.{zeros_after}
use Rattle.plain_engine.specs.Bytes.{laid_byte}
use Rattle.plain_engine.proofs.WordLemmas.{laid_outside}

-- a place of three lists, one after another
in_three : (front middle back : List ℕ) (place : ℕ) → get_or (front ++ middle ++ back) place 0 ≡ (if nat_lt place (length front) then get_or front place 0 else if nat_lt place (length front + length middle) then get_or middle (place - length front) 0 else get_or back (place - (length front + length middle)) 0)
in_three front middle back place = go (cases_lt place (length front)) (cases_lt place (length front + length middle))
  where
    after : (l m : List ℕ) (k : ℕ) → length l ≤ k → get_or (l ++ m) k 0 ≡ get_or m (k - length l) 0
    after l m k past = (let whole : length l + (k - length l) ≡ k = omega (arith, past) in ap (λ (n : ℕ). get_or (l ++ m) n 0) (sym whole) ∙ get_or-append-add l m (k - length l) 0)

    go : (place < length front) ⊎ (length front ≤ place) → (place < length front + length middle) ⊎ (length front + length middle ≤ place) → get_or (front ++ middle ++ back) place 0 ≡ (if nat_lt place (length front) then get_or front place 0 else if nat_lt place (length front + length middle) then get_or middle (place - length front) 0 else get_or back (place - (length front + length middle)) 0)
    go (inl before) second =
        rw (lt-ltb place (length front) before)
        (get_or-append (front ++ middle) back 0 place (omega (arith, before, length-append front middle)) ∙ get_or-append front middle 0 place before)
    go (inr past) (inl before) =
        rw (le-ltb place (length front) past, lt-ltb place (length front + length middle) before)
        (get_or-append (front ++ middle) back 0 place (omega (arith, before, length-append front middle)) ∙ after front middle place past)
    go (inr past) (inr beyond) =
        rw (le-ltb place (length front) past, le-ltb place (length front + length middle) beyond)
        (after (front ++ middle) back place (omega (arith, beyond, length-append front middle)) ∙ ap (λ (n : ℕ). get_or back (place - n) 0) (length-append front middle))

length_lengthened : (file : List ℕ) (end : ℕ) → length (with_zeros_to file end) ≡ max (length file) end
length_lengthened file end = length-append file (replicate (end - length file) 0) ∙ omega (arith, length-replicate {A = ℕ} (end - length file) 0)

-- each byte of the file after a write
pub write_place : (file : List ℕ) (offset : ℕ) (bytes : List ℕ) (place : ℕ) → 0 < length bytes → get_or (write file offset bytes) place 0 ≡ laid_byte offset bytes place (get_or file place 0)
write_place file offset [] place some = absurd (omega (arith, some))
write_place file offset (byte ∷ bytes) place some =
    in_three (take offset (with_zeros_to file offset)) (byte ∷ bytes) (drop (offset + length (byte ∷ bytes)) (with_zeros_to file offset)) place
    ∙ ap (λ (n : ℕ). if nat_lt place n then get_or (take offset (with_zeros_to file offset)) place 0 else if nat_lt place (n + length (byte ∷ bytes)) then get_or (byte ∷ bytes) (place - n) 0 else get_or (drop (offset + length (byte ∷ bytes)) (with_zeros_to file offset)) (place - (n + length (byte ∷ bytes))) 0) front
    ∙ go (cases_lt place offset) (cases_lt place (offset + length (byte ∷ bytes)))
  where
    front : length (take offset (with_zeros_to file offset)) ≡ offset
    front = length-take offset (with_zeros_to file offset) ∙ omega (arith, length_lengthened file offset)

    go : (place < offset) ⊎ (offset ≤ place) → (place < offset + length (byte ∷ bytes)) ⊎ (offset + length (byte ∷ bytes) ≤ place) →
        (if nat_lt place offset then get_or (take offset (with_zeros_to file offset)) place 0 else if nat_lt place (offset + length (byte ∷ bytes)) then get_or (byte ∷ bytes) (place - offset) 0 else get_or (drop (offset + length (byte ∷ bytes)) (with_zeros_to file offset)) (place - (offset + length (byte ∷ bytes))) 0)
        ≡ laid_byte offset (byte ∷ bytes) place (get_or file place 0)
    go (inl before) second =
        rw (lt-ltb place offset before) (get_or-take offset (with_zeros_to file offset) place 0 before ∙ zeros_after file (offset - length file) place ∙ sym (laid_outside offset (byte ∷ bytes) place (get_or file place 0) (inl before)))
    go (inr past) (inl before) =
        rw (le-ltb place offset past, lt-ltb place (offset + length (byte ∷ bytes)) before) (rw (le-leb offset place past) refl)
    go (inr past) (inr beyond) =
        let whole : offset + length (byte ∷ bytes) + (place - (offset + length (byte ∷ bytes))) ≡ place = omega (arith, beyond) in
        rw (le-ltb place offset past, le-ltb place (offset + length (byte ∷ bytes)) beyond, le-leb offset place past)
        (get_or-drop (offset + length (byte ∷ bytes)) (with_zeros_to file offset) (place - (offset + length (byte ∷ bytes))) 0
        ∙ ap (λ (n : ℕ). get_or (with_zeros_to file offset) n 0) whole ∙ zeros_after file (offset - length file) place)

pub length_write : (file : List ℕ) (offset : ℕ) (bytes : List ℕ) → 0 < length bytes → length (write file offset bytes) ≡ max (length file) (offset + length bytes)
length_write file offset [] some = absurd (omega (arith, some))
length_write file offset (byte ∷ bytes) some =
    length-append (take offset (with_zeros_to file offset) ++ byte ∷ bytes) (drop (offset + length (byte ∷ bytes)) (with_zeros_to file offset))
    ∙ omega (arith, length-append (take offset (with_zeros_to file offset)) (byte ∷ bytes), length-take offset (with_zeros_to file offset), length-drop (offset + length (byte ∷ bytes)) (with_zeros_to file offset), length_lengthened file offset)

-- an append is a write at the file's end
pub append_is_write : (file bytes : List ℕ) → 0 < length bytes → write file (length file) bytes ≡ file ++ bytes
append_is_write file [] some = absurd (omega (arith, some))
append_is_write file (byte ∷ bytes) some =
    let none : length file - length file ≡ 0 = omega arith in
    let same : with_zeros_to file (length file) ≡ file = ap (λ (n : ℕ). file ++ replicate n 0) none ∙ nothing_after file in
    ap (λ (l : List ℕ). take (length file) l ++ (byte ∷ bytes) ++ drop (length file + length (byte ∷ bytes)) l) same
    ∙ ap (λ (l : List ℕ). l ++ (byte ∷ bytes) ++ drop (length file + length (byte ∷ bytes)) file) (take_whole file)
    ∙ ap (λ (l : List ℕ). (file ++ byte ∷ bytes) ++ l) (drop_all (length file + length (byte ∷ bytes)) file (omega arith))
    ∙ nothing_after (file ++ byte ∷ bytes)
  where
    take_whole : (l : List ℕ) → take (length l) l ≡ l
    take_whole [] = refl
    take_whole (x ∷ l) = ap (λ (m : List ℕ). x ∷ m) (take_whole l)

-- the blocks that a range touches, by numbers
pub record Touches (size virt count offset long : ℕ) : Type 0 where
  pub starts : virt * size ≤ offset
  pub some : 1 ≤ count
  pub ends : offset + long ≤ (virt + count) * size
  pub last : (virt + count) * size < offset + long + size
  pub first : offset < virt * size + size

pub touches : (size offset long : ℕ) → 0 < size → 0 < long → Touches size (offset / size) (touched_blocks size offset long) offset long
touches size offset long big some =
    let first : offset ≡ offset / size * size + offset % size = omega (arith, div-add-mod' offset size) in
    let last : offset + long - 1 ≡ (offset + long - 1) / size * size + (offset + long - 1) % size = omega (arith, div-add-mod' (offset + long - 1) size) in
    let small : offset % size < size = mod-lt offset big in
    let also : (offset + long - 1) % size < size = mod-lt (offset + long - 1) big in
    let order : offset / size ≤ (offset + long - 1) / size = div_order in
    let sum : offset / size + touched_blocks size offset long ≡ (offset + long - 1) / size + 1 = omega (arith, order) in
    let times : (offset / size + touched_blocks size offset long) * size ≡ (offset + long - 1) / size * size + size = ap (λ (n : ℕ). n * size) sum ∙ omega arith in
    record {
      starts = omega (arith, first);
      some = omega arith;
      ends = omega (arith, times, last, also, some);
      last = omega (arith, times, last, also, some);
      first = omega (arith, first, small);
    }
  where
    div_order : offset / size ≤ (offset + long - 1) / size
    div_order = go (cases_lt ((offset + long - 1) / size) (offset / size))
      where
        go : ((offset + long - 1) / size < offset / size) ⊎ (offset / size ≤ (offset + long - 1) / size) → offset / size ≤ (offset + long - 1) / size
        go (inr fine) = fine
        go (inl wrong) =
            let times : ((offset + long - 1) / size + 1) * size ≤ offset / size * size = mul-le-mul_right size (omega (arith, wrong)) in
            absurd (omega (arith, times, div-add-mod' offset size, div-add-mod' (offset + long - 1) size, mod-lt (offset + long - 1) big, some))
