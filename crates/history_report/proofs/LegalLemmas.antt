-- Calls on a plain file: the blocks that a write touches, what a read answers, and bytes laid over a file.
use Rattle.std.specs.Prelude.{◌↔◌, IsTrue, if◌then◌else◌}
use Rattle.std.specs.Cmp.Lexicographic.{pointwise}
use Rattle.std.proofs.Common.{◌≡◌, ℕ, zero, suc, ◌+◌, ◌-◌, ◌/◌, ◌%◌, ◌^◌, ◌<◌, ◌≤◌, ◌==◌, nat_lt, nat_eq, ◌⊎◌, min, Bool, true, false, List, [], ◌∷◌, ◌++◌, append-nil, length, take, drop, replicate, Some, None, inl, inr, refl, sym, ap, subst, ◌∙◌, arith, length-append, length-drop}
use Rattle.std.proofs.lemmas.Bool.{cases_lt}
use Rattle.std.proofs.lemmas.Bool.Decides.{Decides-eqb}
use Rattle.std.proofs.lemmas.List.{take_all, drop_all, take-append-le, length-replicate}
use Rattle.std.proofs.lemmas.Slice.Eq.{slice_eq-Decides}
use Rattle.log_entry.specs.ByteFile.{read, write, with_zeros_to, with_bytes_over}
use Rattle.log_entry.specs.Legal.{Answers, AnswersWrite, touched_blocks, last_position}
use Rattle.log_entry.specs.Shape.{is_block_bytes, limit_of, longest_of}
use Rattle.log_entry.specs.declared.calls.Op.{Op}
use Rattle.log_entry.specs.declared.calls.Op.TheVariants.{Pwrite}
use Rattle.log_entry.specs.declared.calls.Reply.{Reply}
use Rattle.log_entry.specs.declared.calls.Reply.TheVariants.{Wrote, NotWritten, Bytes}
use Rattle.log_entry.specs.declared.calls.WriteRefusal.{WriteRefusal}
use Rattle.log_entry.specs.declared.calls.WriteRefusal.TheVariants.{TooLong, TooLarge, PositionLimit}

block_cases : (block : ℕ) → IsTrue (is_block_bytes block) → (block ≡ 64) ⊎ ((block ≡ 512) ⊎ (block ≡ 4096))
block_cases block allowed = grind (arith)

pub touched_of : (block offset count : ℕ) → IsTrue (is_block_bytes block) → 0 < count → (offset % block + (count - 1)) / block + 1 ≡ touched_blocks block offset count
touched_of block offset count allowed some = elim (block_cases block allowed) [
  | inl small ↦ rw small (omega arith)
  | inr more ↦ elim more [ inl middle ↦ rw middle (omega arith) | inr large ↦ rw large (omega arith) ]
]

cases_le : (a b : ℕ) → (a ≤ b) ⊎ (b < a)
cases_le a b = elim (cases_lt b a) [ inl less ↦ inr less | inr few ↦ inl few ]

-- ---- a read

pub read_part : (file : List ℕ) (offset count start many : ℕ) → start ≡ min offset (length file) → many ≡ min count (length file - start) → take many (drop start file) ≡ read file offset count
read_part file offset count start many is_start is_many = elim (cases_le offset (length file)) [
  | inl inside ↦
      let at : start ≡ offset = omega arith in
      let long = length-drop offset file in
      elim (cases_le count (length file - offset)) [
        | inl few ↦ let same : many ≡ count = omega arith in rw (at, same) refl
        | inr over ↦
            let rest : many ≡ length file - offset = omega arith in
            rw (at, rest) (take_all (length file - offset) (drop offset file) (omega (arith, long)) ∙ sym (take_all count (drop offset file) (omega (arith, long))))
      ]
  | inr past ↦
      let left : drop start file ≡ [] = drop_all start file (omega arith) in
      let none : drop offset file ≡ [] = drop_all offset file (omega arith) in
      let same : many ≡ 0 = omega arith in
      rw (left, none, same) (sym (take_all count [] (omega arith)))
]

-- the bytes of a reply, or these
abbrev bytes_or : List ℕ → Reply → List ℕ
bytes_or other (Bytes bytes) = bytes
bytes_or other _ = other

-- the reply of a read is its bytes
pub pread_answer : (reply : Reply) (found shown part wanted : List ℕ) (eq : Bool) → reply ≡ Bytes found → shown ≡ found → part ≡ wanted → eq ≡ pointwise nat_eq shown part → IsTrue eq ↔ (reply ≡ Bytes wanted)
pread_answer reply found shown part wanted eq is shown_is part_is told =
    let decides = slice_eq-Decides Decides-eqb shown part eq told in
    (λ yes. is ∙ ap Bytes (sym shown_is ∙ decides.0 yes ∙ part_is), λ same. decides.1 (shown_is ∙ ap (bytes_or []) (sym is ∙ same) ∙ sym part_is))

-- ---- bytes laid over a file

-- over one that is long enough
pub lay_inside : (file bytes : List ℕ) (offset : ℕ) → 0 < length bytes → offset + length bytes ≤ length file → with_bytes_over file offset bytes ≡ write file offset bytes
lay_inside file [] offset some inside = absurd (omega arith)
lay_inside file (byte ∷ bytes) offset some inside =
    let none : offset - length file ≡ 0 = omega arith in
    let same : with_zeros_to file offset ≡ file = ap (λ (k : ℕ). file ++ replicate k 0) none ∙ append-nil file in
    ap (λ (f : List ℕ). with_bytes_over f offset (byte ∷ bytes)) (sym same)

take_zeros : (many most : ℕ) → most ≤ many → take {A = ℕ} most (replicate many 0) ≡ replicate most 0
take_zeros many zero few = refl
take_zeros zero (suc most) few = absurd (omega arith)
take_zeros (suc many) (suc most) few = ap (λ (xs : List ℕ). 0 ∷ xs) (take_zeros many most (omega arith))

take_over : (file rest : List ℕ) (n : ℕ) → length file ≤ n → take n (file ++ rest) ≡ file ++ take (n - length file) rest
take_over [] rest n past = ap (λ (k : ℕ). take k rest) (omega arith)
take_over (x ∷ file) rest zero past = absurd (omega arith)
take_over (x ∷ file) rest (suc n) past =
    let less : suc n - length (x ∷ file) ≡ n - length file = omega arith in
    ap (λ (xs : List ℕ). x ∷ xs) (take_over file rest n (omega arith)) ∙ ap (λ (k : ℕ). x ∷ (file ++ take k rest)) (sym less)

take_lengthened : (file : List ℕ) (offset more : ℕ) → offset ≤ length file + more → take offset (file ++ replicate more 0) ≡ take offset (with_zeros_to file offset)
take_lengthened file offset more room = elim (cases_le offset (length file)) [
  | inl inside ↦ take-append-le offset file (replicate more 0) inside ∙ sym (take-append-le offset file (replicate (offset - length file) 0) inside)
  | inr past ↦
      let over : length file ≤ offset = omega arith in
      take_over file (replicate more 0) offset over ∙ ap (λ (xs : List ℕ). file ++ xs) (take_zeros more (offset - length file) (omega arith) ∙ sym (take_zeros (offset - length file) (offset - length file) (omega arith)))
      ∙ sym (take_over file (replicate (offset - length file) 0) offset over)
]

-- over one that was lengthened with zeros to the end of the bytes
pub lay_lengthened : (file long bytes : List ℕ) (offset more : ℕ) → 0 < length bytes → long ≡ file ++ replicate more 0 → length file + more ≡ offset + length bytes → with_bytes_over long offset bytes ≡ write file offset bytes
lay_lengthened file long [] offset more some is room = absurd (omega arith)
lay_lengthened file long (byte ∷ bytes) offset more some is room =
    let all : length long ≡ offset + length (byte ∷ bytes) = ap length is ∙ length-append file (replicate more 0) ∙ ap (λ (k : ℕ). length file + k) (length-replicate more 0) ∙ room in
    let short = length-append file (replicate (offset - length file) 0) in
    let zeros : length (replicate {A = ℕ} (offset - length file) 0) ≡ offset - length file = length-replicate (offset - length file) 0 in
    let none : drop (offset + length (byte ∷ bytes)) long ≡ [] = drop_all (offset + length (byte ∷ bytes)) long (omega arith) in
    let past : drop (offset + length (byte ∷ bytes)) (with_zeros_to file offset) ≡ [] = drop_all (offset + length (byte ∷ bytes)) (with_zeros_to file offset) (omega (arith, short, zeros)) in
    let front : take offset long ≡ take offset (with_zeros_to file offset) = ap (take offset) is ∙ take_lengthened file offset more (omega arith) in
    ap (λ (xs : List ℕ). xs ++ (byte ∷ bytes) ++ drop (offset + length (byte ∷ bytes)) long) front
    ∙ ap (λ (xs : List ℕ). take offset (with_zeros_to file offset) ++ (byte ∷ bytes) ++ xs) (none ∙ sym past)

-- over one that has zeros up to their end, where it was shorter
pub laid : (file bytes : List ℕ) (offset end : ℕ) → 0 < length bytes → end ≡ offset + length bytes → with_bytes_over (with_zeros_to file end) offset bytes ≡ write file offset bytes
laid file bytes offset end some is = elim (cases_le end (length file)) [
  | inl inside ↦
      let none : end - length file ≡ 0 = omega arith in
      let same : with_zeros_to file end ≡ file = ap (λ (k : ℕ). file ++ replicate k 0) none ∙ append-nil file in
      ap (λ (f : List ℕ). with_bytes_over f offset bytes) same ∙ lay_inside file bytes offset some (omega arith)
  | inr past ↦ lay_lengthened file (with_zeros_to file end) bytes offset (end - length file) some refl (omega arith)
]

-- ---- an accepted write

limit_small : (block : ℕ) → IsTrue (is_block_bytes block) → limit_of block ≤ 268435456
limit_small block allowed = elim (block_cases block allowed) [
  | inl small ↦ rw small (omega arith)
  | inr more ↦ elim more [ inl middle ↦ rw middle (omega arith) | inr large ↦ rw large (omega arith) ]
]

refused_write : (why : WriteRefusal) (count other : ℕ) → ◌≡◌ {A = Reply} (Wrote other) (NotWritten why) → ⊥
refused_write why count other same = cc same

within_by : (long large : Bool) (block position blocks end count other : ℕ) → nat_lt (limit_of block) end ≡ large
    → AnswersWrite (if long then Some (TooLong blocks) else if large then Some (TooLarge end) else if position == last_position then Some PositionLimit else None) (Wrote count) (Wrote other) → end ≤ limit_of block
within_by true large block position blocks end count other test answer = absurd (refused_write (TooLong blocks) count other answer)
within_by false true block position blocks end count other test answer = absurd (refused_write (TooLarge end) count other answer)
within_by false false block position blocks end count other test answer = grind (arith)

-- one ends within the limit
pub write_within : (block position : ℕ) (file : List ℕ) (op : Op) (reply : Reply) (offset other : ℕ) (bytes : List ℕ) → IsTrue (is_block_bytes block) → Answers block position file op reply → op ≡ Pwrite offset bytes → reply ≡ Wrote other → 0 < length bytes → offset + length bytes < 2 ^ 63
write_within block position file op reply offset other [] allowed answer op_is reply_is some = absurd (omega arith)
write_within block position file op reply offset other (byte ∷ bytes) allowed answer op_is reply_is some =
    let here : Answers block position file (Pwrite offset (byte ∷ bytes)) (Wrote other) = subst (λ (r : Reply). Answers block position file (Pwrite offset (byte ∷ bytes)) r) reply_is (subst (λ (o : Op). Answers block position file o reply) op_is answer) in
    let count : ℕ = length (byte ∷ bytes) in
    let within = within_by (nat_lt (longest_of block) (touched_blocks block offset count)) (nat_lt (limit_of block) (offset + count)) block position (touched_blocks block offset count) (offset + count) count other refl here in
    let small = limit_small block allowed in
    omega (arith, within, small)
