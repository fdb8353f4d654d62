-- One answer of a scan, and what is known after some.
use Rattle.std.proofs.Common.{ℕ, ◌≡◌, ◌≢◌, ◌+◌, ◌<◌, ◌≤◌, ◌⊎◌, inl, inr, nat_lt, nat_le, Bool, true, false, List, [], ◌∷◌, ◌++◌, length, take, slice_index, refl, sym, ap, subst, ◌∙◌, arith}
use Rattle.std.proofs.lemmas.Bool.{ltb-true, ltb-false, leb-true, leb-false, and_parts, and_cases}
use Rattle.std.proofs.lemmas.List.{length_push, take_all, get_or_append_left, get_or_push}
use borrow.Author.Count.{below_more}
use Rattle.pmem_words.specs.Seats.{Seat}
use Rattle.pmem_words.specs.declared.machine.Turn.TheVariants.{Go, Done}
use Rattle.pins.specs.declared.scan.Scan.{Scan}
use Rattle.pins.specs.declared.scan.Scanned.{Scanned}
use Rattle.pins.specs.declared.scan.Scanned.TheVariants.{Clear, Held}
use Rattle.pins.specs.Steps.{seen_after}
use Rattle.pins.specs.Scanning.{needs, if_left, scan_turn}
use Rattle.pins.specs.Endings.{NeedsNone, AreFree, IsScan, IsFirst, loads}

free_at : (generation word : ℕ) → (nat_lt 0 word ≡ false) ⊎ (nat_le word generation ≡ false) → NeedsNone generation word
free_at generation word (inl none) = inl (let h : word ≤ 0 = ltb-false 0 word none in omega arith)
free_at generation word (inr greater) = inr (leb-false word generation greater)

pub is_free : (generation word : ℕ) → needs generation word ≡ false → NeedsNone generation word
is_free generation word e = free_at generation word (and_cases (nat_lt 0 word) (nat_le word generation) e)

goes_left : (b : Bool) (next seats : ℕ) → nat_lt next seats ≡ b → if_left b ≡ Go → next < seats
goes_left true next seats e go = ltb-true next seats e
goes_left false next seats e go = cc

-- it goes on after a pin word that is free, where a seat is left
pub goes_free : (b : Bool) (m : Scan) (s : Seat) (a : ℕ) → needs m.generation a ≡ b → scan_turn b m s a ≡ Go → NeedsNone m.generation a × (m.next + 1 < s.seats)
goes_free true m s a e go = cc
goes_free false m s a e go = (is_free m.generation a e, goes_left (nat_lt (m.next + 1) s.seats) (m.next + 1) s.seats refl go)

module _ (m : Scan) (s : Seat) (a : ℕ) (words : List ℕ) (out : Scanned) (left : m.next < s.seats) (here : slice_index words m.next ≡ a) (free : AreFree m.generation m.next words) where
  ends_left : (b : Bool) → nat_lt (m.next + 1) s.seats ≡ b → NeedsNone m.generation a → if_left b ≡ Done out → IsScan m.generation s.seats words out × (loads s.seats out ≡ m.next + 1)
  ends_left true e is_free stop = cc
  ends_left false e is_free stop =
      let last : s.seats ≡ m.next + 1 = (let most : s.seats ≤ m.next + 1 = ltb-false (m.next + 1) s.seats e in omega arith) in
      let same : Clear ≡ out = cc in
      subst (λ (o : Scanned). IsScan m.generation s.seats words o × (loads s.seats o ≡ m.next + 1)) same (
        subst (λ (n : ℕ). AreFree m.generation n words) (sym last)
            (below_more (λ k. NeedsNone m.generation (slice_index words k)) m.next free (subst (λ (x : ℕ). NeedsNone m.generation x) (sym here) is_free)),
        last,
      )

  -- what it ends with is found in the words
  pub ends_found : (b : Bool) → needs m.generation a ≡ b → scan_turn b m s a ≡ Done out → IsScan m.generation s.seats words out × (loads s.seats out ≡ m.next + 1)
  ends_found true e stop =
      let both : (nat_lt 0 a ≡ true) × (nat_le a m.generation ≡ true) = and_parts (nat_lt 0 a) (nat_le a m.generation) e in
      let same : Held (record { seat = m.next; generation = a }) ≡ out = cc in
      subst (λ (o : Scanned). IsScan m.generation s.seats words o × (loads s.seats o ≡ m.next + 1)) same
      (record { seat = left; before = free; word = here; some = ltb-true 0 a both.0; most = leb-true a m.generation both.1 }, refl)
  ends_found false e stop = ends_left (nat_lt (m.next + 1) s.seats) refl (is_free m.generation a e) stop

-- one word more is seen
pub more_seen : (n : ℕ) (words seen : List ℕ) (a : ℕ) → IsFirst n words (take n seen) → slice_index words n ≡ a → IsFirst (n + 1) words (seen_after n seen a)
more_seen n words seen a h here = record {
  count = length_push (take n seen) a ∙ ap (λ (x : ℕ). x + 1) h.count;
  each = below_more (λ k. slice_index (take n seen ++ a ∷ []) k ≡ slice_index words k) n
      (λ k below. get_or_append_left (take n seen) (a ∷ []) 0 k (let long : length (take n seen) ≡ n = h.count in omega arith) ∙ h.each k below)
      (get_or_push (take n seen) a 0 n h.count ∙ sym here);
}

-- what is known before the answer of seat n: the words seen are those before it, and they are free
pub record SoFar (generation n : ℕ) (words seen : List ℕ) : Type 0 where
  pub in_order : n ≢ 0 → length seen ≡ n
  pub first : IsFirst n words (take n seen)
  pub free : AreFree generation n words

pub none_yet : (generation : ℕ) (words seen : List ℕ) → SoFar generation 0 words seen
none_yet generation words seen = record {
  in_order = λ some. absurd (some refl);
  first = record { count = refl; each = λ k below. absurd (omega arith) };
  free = λ k below. absurd (omega arith);
}

pub one_more : (generation n : ℕ) (words seen : List ℕ) (a : ℕ) → SoFar generation n words seen → slice_index words n ≡ a → NeedsNone generation a → SoFar generation (n + 1) words (seen_after n seen a)
one_more generation n words seen a h here is_free =
    let more : IsFirst (n + 1) words (seen_after n seen a) = more_seen n words seen a h.first here in
    record {
      in_order = λ some. more.count;
      first = subst (λ (x : List ℕ). IsFirst (n + 1) words x) (sym (take_all (n + 1) (seen_after n seen a) (let long : length (seen_after n seen a) ≡ n + 1 = more.count in omega arith))) more;
      free = below_more (λ k. NeedsNone generation (slice_index words k)) n h.free (subst (λ (x : ℕ). NeedsNone generation x) (sym here) is_free);
    }
