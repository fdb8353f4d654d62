-- What a collection has noted says what an exchange of the head replaces: with the rest of its condition, at a view whose tail begins
-- where the new generation does, the blocks noted, but for those of the map and the tail's, are those that the pinned generation names
-- and the next does not.
use Rattle.std.proofs.Common.{◌≡◌, ◌≢◌, ◌<◌, ◌≤◌, ◌+◌, ◌-◌, ◌++◌, ◌==◌, ◌||◌, ◌&&◌, not, ⊎_elim, ℕ, zero, suc, Bool, true, false, List, [], ◌∷◌, length, take, drop, refl, sym, ◌∙◌, ap, subst, arith, slice_index, Some}
use Rattle.std.specs.List.{range_with_len}
use Rattle.std.proofs.Math.Seq.{take-suc}
use Rattle.std.proofs.lemmas.Bool.{cases_lt}
use Rattle.std.proofs.lemmas.Grind.{flat_map-append}
use Rattle.std.proofs.lemmas.List.{length-take, length-drop, drop-append-le, drop-take, take-append-drop, map-append, get_or-drop}
use Rattle.std.proofs.lemmas.List.Folds.{list_any-append}
use Rattle.log_image.specs.Image.{total}
use Rattle.log_image.specs.Entries.{Meaning, names, all_names}
use Rattle.log_image.specs.Maps.{map_of}
use Rattle.log_image.specs.Chains.{all_different, is_listed}
use Rattle.pmem_words.specs.Noted.{is_noted}
use Rattle.pmem_words.specs.Seats.{Seat}
use Rattle.log_core.specs.Entries.{LogEntry, meanings, entry_names}
use Rattle.log_core.specs.Views.{Ghost, view_of}
use Rattle.log_core.specs.Origin.{Origin, shape, start_base, Header, InChain, OwnedBy, LeftTo, Owner, LogBlock, no_log, Generation}
use Rattle.log_core.specs.Files.{entries, history_map_at}
use Rattle.log_core.specs.Cores.{Core, nth_log, log_at, number_at, log_blocks, chain_names, data_names, is_named}
use Rattle.log_core.specs.Steps.{content_of, is_mapped, new_snapshots, replaced_by}
use Rattle.log_core.specs.Works.{seat_shape}
use Rattle.log_core.specs.After.{new_generation, snapshot_meanings}
use Rattle.log_core.specs.May.{AreApart, is_fenced}
use Rattle.log_core.specs.Order.{nth_generation}
use Rattle.log_core.specs.Contents.{IsStillTaken}
use Rattle.log_core.specs.Walks.{WalkHolds, HasWalked}
use Rattle.log_core.specs.Noted.{is_named_before}
use Rattle.log_core.specs.Invariant.{Invariant, KeptIn, around}
use Rattle.log_core.specs.Knows.{Knows}
use Rattle.log_core.proofs.BitmapFacts.{same_shape}
use Rattle.log_core.proofs.BlockLists.{has_filter, in_range}
use Rattle.log_core.proofs.ChainWords.{in_one_part, front_different, back_different}
use Rattle.log_core.proofs.ChainEntries.{chain_entries, chain_data, names_of_meanings}
use Rattle.log_core.proofs.NotedGrown.{long_blocks, block_at}
use Rattle.log_core.proofs.LogTails.{TailLog, tail_log, log_found, not_before}
use Rattle.log_core.proofs.MappedBlocks.{mapped_name}
use Rattle.log_core.proofs.NamesApart.{not_in_range, past_range, one_place, mapped_at, at_mapped, both_ways, left_over}
use Rattle.log_core.proofs.PinnedChains.{place, kept}
use Rattle.log_core.proofs.SnapshotNames.{snapshot_plain, named_mapped}
use Rattle.log_core.proofs.clauses.Apart.{has_left, has_right, has_log, either_of}
use Rattle.log_core.proofs.clauses.FencedContents.{fenced_owned}
use Rattle.log_core.proofs.clauses.GrownNames.{never}
use Rattle.log_core.proofs.clauses.Leaves.{taken_apart}

module _ (o : Origin) (c : Core) (n : ℕ) (s : Seat) (g : Ghost) (pin began next : ℕ) (inv : Invariant o c) (unspent : (view_of c.views n).parts ≢ []) (f : Knows o c n s g pin began)
    (valid : s.hold.valid ≡ true) (ready : s.walk.ready ≡ true) (noting : s.calling.noting ≡ true) (past_base : s.walk.snapshot_base < s.walk.position)
    (cut_is : (log_at c.logs s.walk.position).base ≡ s.walk.position) (cut_block_is : (log_at c.logs s.walk.position).block ≡ s.walk.tail_block)
    (owned : (block : ℕ) → is_listed (new_snapshots s next) block ≡ true → is_fenced s.blocks.owned block ≡ true)
    (map_says : (virt : ℕ) → map_of (snapshot_meanings (λ block. content_of s block) (new_snapshots s next)) virt ≡ history_map_at o (entries o c.history) s.walk.position virt)
    (apart : AreApart (snapshot_meanings (λ block. content_of s block) (new_snapshots s next))) where
  abbrev at : ℕ
  at = place o c n s g pin began inv f valid

  abbrev gen : Generation
  gen = nth_generation c.generations at

  in_chain : KeptIn o c at
  in_chain = kept o c n s g pin began inv f valid

  w : WalkHolds (around o c) s.hold s.walk
  w = f.walk unspent

  walked : HasWalked o (entries o c.history) c.logs s.walk
  walked = w.walked (w.ready_walked ready).0 (w.ready_walked ready).1

  log : TailLog c s.walk gen.cut
  log = tail_log o c inv at s.walk in_chain (w.ready_walked ready).0 walked (w.ready_base ready) (w.ready_tail ready)

  low : gen.base ≤ s.walk.position
  low = (let base = w.ready_base ready in let above = past_base in omega (arith, base, above))

  -- the log block that begins at the position is the tail's
  abbrev cut : ℕ
  cut = number_at c.logs s.walk.position

  cut_found : (cut < length c.logs) × (nth_log c.logs cut ≡ log_at c.logs s.walk.position)
  cut_found = log_found c.logs s.walk.position (λ none. (w.ready_walked ready).0 (sym cut_block_is ∙ none))

  cut_block : (nth_log c.logs cut).block ≡ s.walk.tail_block
  cut_block = ap (λ (l : LogBlock). l.block) cut_found.1 ∙ cut_block_is

  cut_late : gen.cut ≤ cut
  cut_late = not_before o c inv cut gen.cut cut_found.0 (inv.order.generations_rise.cut_inside at in_chain.inside)
      (let old = inv.order.generations_rise.cut_base at in_chain.inside in let new : (nth_log c.logs cut).base ≡ s.walk.position = ap (λ (l : LogBlock). l.base) cut_found.1 ∙ cut_is in let late = low in omega (arith, old, new, late))

  abbrev es : List LogEntry
  es = entries o c.history

  abbrev all_logs : List ℕ
  all_logs = log_blocks (drop gen.cut c.logs)

  chain_once : all_different (chain_names c.logs gen ++ data_names o es gen) ≡ true
  chain_once = (inv.owners.once at in_chain).once

  names_once : all_different (gen.snapshots ++ all_logs) ≡ true
  names_once = front_different (chain_names c.logs gen) (data_names o es gen) chain_once

  log_block : (number : ℕ) → gen.cut ≤ number → slice_index all_logs (number - gen.cut) ≡ (nth_log c.logs number).block
  log_block number late = block_at (drop gen.cut c.logs) (number - gen.cut)
      ∙ ap (λ (l : LogBlock). l.block) (get_or-drop gen.cut c.logs (number - gen.cut) no_log ∙ ap (λ (k : ℕ). nth_log c.logs k) (let same : gen.cut + (number - gen.cut) ≡ number = omega (arith, late) in same))

  tail_number : number_at c.logs s.walk.tail_base ≡ cut
  tail_number =
      (let late = log.late in
      let cut_from = cut_late in
      let long = long_blocks (drop gen.cut c.logs) in
      let count = length-drop gen.cut c.logs in
      let inside = log.inside in
      let cut_inside = cut_found.0 in
      let same = one_place all_logs (number_at c.logs s.walk.tail_base - gen.cut) (cut - gen.cut) (back_different gen.snapshots all_logs names_once)
      (omega (arith, inside, late, long, count)) (omega (arith, cut_inside, cut_from, long, count))
      (log_block (number_at c.logs s.walk.tail_base) late ∙ (log.block_is ∙ (sym cut_block ∙ sym (log_block cut cut_from)))) in
      omega (arith, same, late, cut_from))

  -- the log blocks before it, and from it on
  abbrev front : List ℕ
  front = log_blocks (drop gen.cut (take cut c.logs))

  abbrev logs_now : List ℕ
  logs_now = log_blocks (drop cut c.logs)

  front_long : gen.cut ≤ length (take cut c.logs)
  front_long = (let long = length-take cut c.logs in let late = cut_late in let inside = cut_found.0 in omega (arith, long, late, inside))

  logs_are : all_logs ≡ front ++ logs_now
  logs_are = ap (λ (l : List LogBlock). log_blocks (drop gen.cut l)) (sym (take-append-drop cut c.logs))
      ∙ (ap (λ (l : List LogBlock). log_blocks l) (drop-append-le gen.cut (take cut c.logs) (drop cut c.logs) front_long) ∙ map-append (λ (l : LogBlock). l.block) (drop gen.cut (take cut c.logs)) (drop cut c.logs))

  logs_before : log_blocks (drop gen.cut (take (cut + 1) c.logs)) ≡ front ++ s.walk.tail_block ∷ []
  logs_before = ap (λ (k : ℕ). log_blocks (drop gen.cut (take k c.logs))) (let one : cut + 1 ≡ suc cut = omega arith in one)
      ∙ (ap (λ (l : List LogBlock). log_blocks (drop gen.cut l)) (take-suc c.logs cut no_log cut_found.0)
      ∙ (ap (λ (l : List LogBlock). log_blocks l) (drop-append-le gen.cut (take cut c.logs) (nth_log c.logs cut ∷ []) front_long)
      ∙ (map-append (λ (l : LogBlock). l.block) (drop gen.cut (take cut c.logs)) (nth_log c.logs cut ∷ []) ∙ ap (λ (b : ℕ). front ++ b ∷ []) cut_block)))

  -- the names of its snapshot and of the entries before the position, and those of the entries from there on
  abbrev before : List ℕ
  before = all_names (chain_entries o c inv at in_chain s.walk.position low)

  abbrev later : List ℕ
  later = entry_names (drop (s.walk.position - start_base o) es)

  data_is : data_names o es gen ≡ before ++ later
  data_is = chain_data o c inv at in_chain s.walk.position low

  data_before : data_names o (take (s.walk.position - start_base o) es) gen ≡ before
  data_before =
      (let from = gen.base - start_base o in
      let more = s.walk.position - gen.base in
      let first = inv.order.generations_rise.from_first at in_chain.inside in
      let high = low in
      let count : s.walk.position - start_base o ≡ from + more = omega (arith, first, high) in
      ap (λ (k : ℕ). gen.shared ++ entry_names (drop from (take k es))) count
      ∙ (ap (λ (l : List LogEntry). gen.shared ++ entry_names l) (drop-take from more es)
      ∙ (ap (λ (l : List ℕ). l ++ entry_names (take more (drop from es))) (inv.contents at in_chain).snapshot.shared_is
      ∙ (ap (λ (l : List ℕ). all_names (snapshot_meanings c.recorded gen.snapshots) ++ l) (sym (names_of_meanings (take more (drop from es))))
      ∙ sym (flat_map-append names (snapshot_meanings c.recorded gen.snapshots) (meanings (take more (drop from es))))))))

  abbrev snaps : List ℕ
  snaps = new_snapshots s next

  abbrev means : List Meaning
  means = snapshot_meanings (λ block. content_of s block) snaps

  abbrev was_named : ℕ → Bool
  was_named block = is_named o c.logs es gen block

  split : (a b : List ℕ) (block : ℕ) → is_listed (a ++ b) block ≡ (is_listed a block || is_listed b block)
  split a b block = list_any-append (λ (other : ℕ). other == block) a b

  -- what was named up to the walk's place, all that is named, and what the next generation names
  before_is : (block : ℕ) → is_named_before o c.logs es gen s.walk block ≡ ((is_listed gen.snapshots block || (is_listed front block || ((s.walk.tail_block == block) || false))) || is_listed before block)
  before_is block = ap (λ (k : ℕ). is_named o (take (k + 1) c.logs) (take (s.walk.position - start_base o) es) gen block) tail_number
      ∙ (ap (λ (l : List ℕ). is_listed ((gen.snapshots ++ l) ++ data_names o (take (s.walk.position - start_base o) es) gen) block) logs_before
      ∙ (ap (λ (l : List ℕ). is_listed ((gen.snapshots ++ (front ++ s.walk.tail_block ∷ [])) ++ l) block) data_before
      ∙ (split (gen.snapshots ++ (front ++ s.walk.tail_block ∷ [])) before block
      ∙ ap (λ (b : Bool). b || is_listed before block) (split gen.snapshots (front ++ s.walk.tail_block ∷ []) block ∙ ap (λ (b : Bool). is_listed gen.snapshots block || b) (split front (s.walk.tail_block ∷ []) block)))))

  was_is : (block : ℕ) → was_named block ≡ ((is_listed gen.snapshots block || (is_listed front block || is_listed logs_now block)) || (is_listed before block || is_listed later block))
  was_is block = split (chain_names c.logs gen) (data_names o es gen) block
      ∙ (ap (λ (b : Bool). b || is_listed (data_names o es gen) block)
      (split gen.snapshots all_logs block ∙ ap (λ (b : Bool). is_listed gen.snapshots block || b) (ap (λ (l : List ℕ). is_listed l block) logs_are ∙ split front logs_now block))
      ∙ ap (λ (b : Bool). (is_listed gen.snapshots block || (is_listed front block || is_listed logs_now block)) || b) (ap (λ (l : List ℕ). is_listed l block) data_is ∙ split before later block))

  now_is : (block : ℕ) → is_named o c.logs es (new_generation s c.logs next) block ≡ ((is_listed snaps block || is_listed logs_now block) || (is_listed (all_names means) block || is_listed later block))
  now_is block = split (snaps ++ logs_now) (all_names means ++ later) block
      ∙ (ap (λ (b : Bool). b || is_listed (all_names means ++ later) block) (split snaps logs_now block)
      ∙ ap (λ (b : Bool). (is_listed snaps block || is_listed logs_now block) || b) (split (all_names means) later block))

  -- the map's blocks are those that the new snapshot names
  map_is : (block : ℕ) → is_mapped s.walk.map block ≡ is_listed (all_names means) block
  map_is block = both_ways (is_mapped s.walk.map block) (is_listed (all_names means) block)
      (λ mapped. (let there = mapped_at s.walk.map block mapped in mapped_name means there.0 block (map_says there.0 ∙ (sym (walked.table there.0) ∙ there.1))))
      (λ listed. (let there = named_mapped means block (snapshot_plain (λ b. content_of s b) snaps) apart listed in at_mapped s.walk.map there.0 block (walked.table there.0 ∙ (sym (map_says there.0) ∙ there.1))))

  -- what the chain names it names once, and nothing of it is the seat's own
  parts_once : all_different ((gen.snapshots ++ (front ++ logs_now)) ++ (before ++ later)) ≡ true
  parts_once = subst (λ (l : List ℕ). all_different ((gen.snapshots ++ l) ++ (before ++ later)) ≡ true) logs_are
      (subst (λ (l : List ℕ). all_different (chain_names c.logs gen ++ l) ≡ true) data_is chain_once)

  chain_part : all_different (gen.snapshots ++ (front ++ logs_now)) ≡ true
  chain_part = front_different (gen.snapshots ++ (front ++ logs_now)) (before ++ later) parts_once

  not_own : (block : ℕ) → was_named block ≡ true → is_listed snaps block ≡ false
  not_own block named = never (is_listed snaps block) (λ snap.
      taken_apart n (c.owner block) ((inv.contents at in_chain).taken block named) (f.owns.owned.listed block (fenced_owned s.blocks.owned block (owned block snap))))

  alone : (block : ℕ) → ((is_listed gen.snapshots block || is_listed front block) || is_listed before block) ≡ true →
      (is_listed logs_now block ≡ false) × (is_listed later block ≡ false) × (is_listed snaps block ≡ false)
  alone block some = either_of (is_listed gen.snapshots block || is_listed front block) (is_listed before block) some
      (λ chain. either_of (is_listed gen.snapshots block) (is_listed front block) chain
      (λ snapshot. (let there = has_left gen.snapshots (front ++ logs_now) block snapshot in (
        never (is_listed logs_now block) (λ log. in_one_part gen.snapshots (front ++ logs_now) block chain_part snapshot (has_right front logs_now block log)),
        not_later block there,
        not_own block (in_parts block there),
      )))
      (λ early. (let there = has_right gen.snapshots (front ++ logs_now) block (has_left front logs_now block early) in (
        never (is_listed logs_now block) (λ log. in_one_part front logs_now block (back_different gen.snapshots (front ++ logs_now) chain_part) early log),
        not_later block there,
        not_own block (in_parts block there),
      ))))
      (λ of_data. (
        never (is_listed logs_now block) (λ log. in_one_part (gen.snapshots ++ (front ++ logs_now)) (before ++ later) block parts_once
            (has_right gen.snapshots (front ++ logs_now) block (has_right front logs_now block log)) (has_left before later block of_data)),
        never (is_listed later block) (λ more. in_one_part before later block (back_different (gen.snapshots ++ (front ++ logs_now)) (before ++ later) parts_once) of_data more),
        not_own block (subst (λ (l : List ℕ). is_listed (chain_names c.logs gen ++ l) block ≡ true) (sym data_is) (has_right (chain_names c.logs gen) (before ++ later) block (has_left before later block of_data))),
      ))
    where
      in_parts : (block : ℕ) → is_listed (gen.snapshots ++ (front ++ logs_now)) block ≡ true → was_named block ≡ true
      in_parts block there = has_left (chain_names c.logs gen) (data_names o es gen) block (subst (λ (l : List ℕ). is_listed (gen.snapshots ++ l) block ≡ true) (sym logs_are) there)

      not_later : (block : ℕ) → is_listed (gen.snapshots ++ (front ++ logs_now)) block ≡ true → is_listed later block ≡ false
      not_later block there = never (is_listed later block) (λ more. in_one_part (gen.snapshots ++ (front ++ logs_now)) (before ++ later) block parts_once there (has_right before later block more))

  tail_now : (block : ℕ) → (s.walk.tail_block == block) ≡ true → is_listed logs_now block ≡ true
  tail_now block same = subst (λ (b : ℕ). is_listed logs_now b ≡ true) (cut_block ∙ Rattle.std.proofs.lemmas.Bool.eqb-true s.walk.tail_block block same) (has_log c.logs cut cut (omega arith) cut_found.0)

  swap : (a b : ℕ) → (a == b) ≡ (b == a)
  swap a b = both_ways (a == b) (b == a) (λ is. Rattle.std.proofs.lemmas.Bool.eq-eqb b a (sym (Rattle.std.proofs.lemmas.Bool.eqb-true a b is))) (λ is. Rattle.std.proofs.lemmas.Bool.eq-eqb a b (sym (Rattle.std.proofs.lemmas.Bool.eqb-true b a is)))

  -- of a block of the image
  left_is : (block : ℕ) → block < total (shape o) → (is_noted s.blocks.named block && (not (is_mapped s.walk.map block) && not (block == s.walk.tail_block)))
      ≡ (was_named block && not (is_named o c.logs es (new_generation s c.logs next) block))
  left_is block inside =
      ap (λ (b : Bool). b && (not (is_mapped s.walk.map block) && not (block == s.walk.tail_block))) ((f.noted unspent).2 noting ready block inside ∙ before_is block)
      ∙ (ap (λ (b : Bool). ((is_listed gen.snapshots block || (is_listed front block || ((s.walk.tail_block == block) || false))) || is_listed before block) && (not b && not (block == s.walk.tail_block))) (map_is block)
      ∙ (ap (λ (b : Bool). ((is_listed gen.snapshots block || (is_listed front block || ((s.walk.tail_block == block) || false))) || is_listed before block) && (not (is_listed (all_names means) block) && not b)) (swap block s.walk.tail_block)
      ∙ (left_over (is_listed gen.snapshots block) (is_listed front block) (s.walk.tail_block == block) (is_listed logs_now block) (is_listed before block) (is_listed later block) (is_listed snaps block) (is_listed (all_names means) block)
      (alone block) (tail_now block)
      ∙ (ap (λ (b : Bool). b && not ((is_listed snaps block || is_listed logs_now block) || (is_listed (all_names means) block || is_listed later block))) (sym (was_is block))
      ∙ ap (λ (b : Bool). was_named block && not b) (sym (now_is block))))))

  -- a block of the chain is one of the image, and not the header
  named_inside : (block : ℕ) → was_named block ≡ true → (0 < block) × (block < total (shape o))
  named_inside block named =
      (let taken = (inv.contents at in_chain).taken block named in (
        some_block block taken (λ zero_is. no_header (subst (λ (whose : Owner). IsStillTaken whose) (ap c.owner zero_is ∙ inv.owners.bits.header) taken)),
        inv.owners.bits.inside block (λ free. not_free (subst (λ (whose : Owner). IsStillTaken whose) free taken)),
      ))
    where
      no_header : IsStillTaken Header → ⊥
      no_header (Rattle.std.proofs.Common.inl chain) = cc
      no_header (Rattle.std.proofs.Common.inr left) = (let e = left.1 in cc)

      not_free : IsStillTaken Rattle.log_core.specs.Origin.Free → ⊥
      not_free (Rattle.std.proofs.Common.inl chain) = cc
      not_free (Rattle.std.proofs.Common.inr left) = (let e = left.1 in cc)

      some_block : (block : ℕ) → IsStillTaken (c.owner block) → (block ≡ 0 → ⊥) → 0 < block
      some_block zero taken never_zero = absurd (never_zero refl)
      some_block (suc block) taken never_zero = omega arith

  -- so what the exchange replaces is so
  pub replaced_is : (block : ℕ) → is_listed (replaced_by s) block
      ≡ (was_named block && not (is_named o c.logs es (new_generation s c.logs next) block))
  replaced_is block = has_filter (λ (b : ℕ). is_noted s.blocks.named b && not (is_mapped s.walk.map b) && not (b == s.walk.tail_block)) (range_with_len 1 (total (seat_shape s) - 1)) block
      ∙ (ap (λ (b : Bool). b && is_listed (range_with_len 1 (total (seat_shape s) - 1)) block) (and_assoc (is_noted s.blocks.named block) (not (is_mapped s.walk.map block)) (not (block == s.walk.tail_block)))
      ∙ (ap (λ (image : Rattle.log_image.specs.Image.Shape). (is_noted s.blocks.named block && (not (is_mapped s.walk.map block) && not (block == s.walk.tail_block))) && is_listed (range_with_len 1 (total image - 1)) block)
      (same_shape o c n s g pin began inv f unspent) ∙ by (is_listed (range_with_len 1 (total (shape o) - 1)) block) refl))
    where
      and_assoc : (a b c : Bool) → ((a && b) && c) ≡ (a && (b && c))
      and_assoc true b c = refl
      and_assoc false b c = refl

      and_true : (b : Bool) → (b && true) ≡ b
      and_true true = refl
      and_true false = refl

      and_false : (b : Bool) → (b && false) ≡ false
      and_false true = refl
      and_false false = refl

      past : (inside : Bool) → is_listed (range_with_len 1 (total (shape o) - 1)) block ≡ inside → (block < 1 → inside ≡ false) × (total (shape o) ≤ block → inside ≡ false)
      past inside is = ((λ low. sym is ∙ not_in_range 1 (total (shape o) - 1) block low), (λ high. sym is ∙ past_range 1 (total (shape o) - 1) block (let some : 0 < total (shape o) = omega arith in omega (arith, high, some))))

      by : (inside : Bool) → is_listed (range_with_len 1 (total (shape o) - 1)) block ≡ inside →
          ((is_noted s.blocks.named block && (not (is_mapped s.walk.map block) && not (block == s.walk.tail_block))) && is_listed (range_with_len 1 (total (shape o) - 1)) block)
          ≡ (was_named block && not (is_named o c.logs es (new_generation s c.logs next) block))
      by true is = ap (λ (b : Bool). (is_noted s.blocks.named block && (not (is_mapped s.walk.map block) && not (block == s.walk.tail_block))) && b) is
          ∙ (and_true (is_noted s.blocks.named block && (not (is_mapped s.walk.map block) && not (block == s.walk.tail_block)))
          ∙ left_is block (⊎_elim (λ low. low) (λ high. (let both : true ≡ false = (past true is).1 high in cc)) (cases_lt block (total (shape o)))))
      by false is = ap (λ (b : Bool). (is_noted s.blocks.named block && (not (is_mapped s.walk.map block) && not (block == s.walk.tail_block))) && b) is
          ∙ (and_false (is_noted s.blocks.named block && (not (is_mapped s.walk.map block) && not (block == s.walk.tail_block)))
          ∙ sym (ap (λ (b : Bool). b && not (is_named o c.logs es (new_generation s c.logs next) block)) (never (was_named block) (λ named.
          (let there = named_inside block named in
          let some = there.0 in
          let low_block = there.1 in
          let listed = in_range 1 (total (shape o) - 1) block (omega (arith, some)) (omega (arith, low_block)) in
          let both : true ≡ false = sym listed ∙ is in cc)))))
