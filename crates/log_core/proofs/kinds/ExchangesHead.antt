-- An exchange of the head that is won: the seat's snapshot becomes the front of the present chain, and what it replaces is left to the seat.
use Rattle.std.proofs.Common.{◌≡◌, ◌≢◌, ◌<◌, ◌≤◌, ◌+◌, ◌-◌, ◌^◌, ◌++◌, ◌==◌, not, if◌then◌else◌, nat_lt, ⊎_elim, inl, inr, ℕ, zero, suc, Bool, true, false, List, [], ◌∷◌, length, filter, refl, sym, ◌∙◌, ap, subst, arith, slice_index, slice_set, Option, Some, None}
use Rattle.std.specs.List.{AllByRecursion}
use Rattle.std.proofs.lemmas.Bool.{and_parts, and_from, not-true, ne_eqb, eq-eqb, cases_lt}
use Rattle.std.proofs.lemmas.List.{length-set, length_push, get_or_push}
use Rattle.std.proofs.lemmas.List.Folds.{list_any-append}
use Rattle.log_entry.specs.Fields.{field}
use Rattle.log_entry.specs.Words.{head_word}
use Rattle.log_entry.specs.declared.layouts.TheConstants.{HEAD_GENERATION}
use Rattle.log_entry.specs.declared.calls.Reply.{Reply}
use Rattle.log_entry.specs.declared.calls.Reply.TheVariants.{Wrote, Appended, NotWritten, Bytes, Size as FileSize, Synced, Collected, NotCollected}
use Rattle.log_entry.specs.declared.calls.Call.{Call}
use Rattle.log_image.specs.Image.{words_in, total, is_in_log}
use Rattle.log_image.specs.Chains.{all_different, is_listed}
use Rattle.log_image.proofs.NameLemmas.{different_join, range_different}
use Rattle.pmem_words.specs.Seats.{Seat}
use Rattle.persistence.specs.Memory.{Memory, PendingMark, Cell, cell}
use Rattle.persistence.specs.Survivors.{value_at}
use Rattle.log_core.specs.Entries.{head_place, place_in}
use Rattle.log_core.specs.Views.{View, Ghost, HeadPut, view_of, spent_view}
use Rattle.log_core.specs.Origin.{Origin, shape, q_of_origin, first_generation, Owner, InChain, OwnedBy, LeftTo, Generation}
use Rattle.log_core.specs.Files.{Write, entries, end_of}
use Rattle.log_core.specs.Cores.{Core, current, head_floor, nth_log, is_named}
use Rattle.log_core.specs.Works.{words_of}
use Rattle.log_core.specs.Steps.{head_exchanged, new_snapshots, replaced_by, stored_but}
use Rattle.log_core.specs.May.{MayExchangeHead}
use Rattle.log_core.specs.Sizes.{Sizes, SeatFits}
use Rattle.log_core.specs.Order.{nth_generation, front_of, HeadsInOrder, GenerationsRise, LogsStand}
use Rattle.log_core.specs.Owners.{BitsFit, IsListOf, SeatOwns}
use Rattle.log_core.specs.Contents.{GenerationHolds}
use Rattle.log_core.specs.Giving.{GivingHolds, ScanHolds}
use Rattle.log_core.specs.Pins.{PinHolds}
use Rattle.log_core.specs.Snapshots.{first_or}
use Rattle.log_core.specs.Walks.{WalkHolds}
use Rattle.log_core.specs.Noted.{NotedBy}
use Rattle.log_core.specs.Owned.{OwnedHold}
use Rattle.log_core.specs.Records.{WritesFit, WritesOnce, SeatsOnce, PutFits, RecordHolds, NeverFall, CallHolds, TailHolds, MarksFit, one_if, collects, collected_in, putting, collected_by}
use Rattle.log_core.specs.Synced.{SyncHolds}
use Rattle.log_core.specs.Invariant.{Invariant, KeptIn, around, names_by, Order, Owners, Pins, Givings, Records, Syncs}
use Rattle.log_core.specs.Knows.{with_seat, Knows}
use Rattle.log_core.proofs.BlockLists.{has_filter, different_filter, numbers_but}
use Rattle.log_core.proofs.Heads.{kept_place, current_is}
use Rattle.log_core.proofs.Each.{each_weaker}
use Rattle.log_core.proofs.clauses.Apart.{has_left, has_right, either_of, log_is_named}
use Rattle.log_core.proofs.clauses.Exchanged.{grown_value}
use Rattle.log_core.proofs.clauses.GrownNames.{never}
use Rattle.log_core.proofs.clauses.Narrows.{same_narrows, log_narrows, synced_narrows, certain_narrows}
use Rattle.log_core.proofs.clauses.OneView.{each_set, parts_set, all_set, all_at}
use Rattle.log_core.proofs.clauses.OwnedBut.{left_hold}
use Rattle.log_core.proofs.clauses.OwnedSame.{owned_kept, owned_view_kept, marks_kept}
use Rattle.log_core.proofs.clauses.HeadMoved.{HeadMoves}
use Rattle.log_core.proofs.clauses.HeadNames.{at, at_last, in_chain, present_is, above, from_start, cut_inside, cut_base, cut_late, mine, snaps, new_once, owner_by, owner_replaced, owner_same, list_same, replaced_was, replaced_not_now, bits_moved, chain_moved_named, chain_moved_all}
use Rattle.log_core.proofs.clauses.HeadContents.{owner_now, recorded_now, block_cell, named_some, old_contents, new_contents}
use Rattle.log_core.proofs.clauses.HeadNoted.{noted_moved}
use Rattle.log_core.proofs.clauses.HeadOthers.{made, gens, gens_count, current_more, old_gen, last_gen, keeps, pin_moved, floor_same, no_later, giving_moved, moved_core, walk_moved, sync_moved, put_moved, record_moved}

-- how often a generation was put in place, where a view gets the head of its call
collected_put : (views : List View) (n : ℕ) (w : View) (generation : ℕ) (put : HeadPut) → w.done ≡ (view_of views n).done → w.ghost.call.put ≡ Some put → (view_of views n).ghost.call.put ≡ None → n < length views →
    collected_by generation (slice_set views n w) ≡ collected_by generation views + one_if (put.generation == generation)
collected_put [] n w generation put done is was here = absurd (omega (arith, here))
collected_put (v ∷ views) zero w generation put done is was here =
    (let mine : collected_in generation w.done + putting generation w.ghost.call.put ≡ collected_in generation v.done + one_if (put.generation == generation) = rw (done, is) refl in
    let old : collected_in generation v.done + putting generation v.ghost.call.put ≡ collected_in generation v.done = ap (λ (p : Option HeadPut). collected_in generation v.done + putting generation p) was ∙ (let e : collected_in generation v.done + 0 ≡ collected_in generation v.done = omega arith in e) in
    omega (arith, mine, old))
collected_put (v ∷ views) (suc n) w generation put done is was here =
    (let rest = collected_put views n w generation put done is was (omega (arith, here)) in omega (arith, rest))

-- a generation that none of the views has put in place
module _ (generation : ℕ) where
  none_in : (calls : List Call) → AllByRecursion (λ (call : Call). collects generation call.reply ≡ 0) calls → collected_in generation calls ≡ 0
  none_in [] all = refl
  none_in (call ∷ calls) all = (let here = all.0 in let rest = none_in calls all.1 in omega (arith, here, rest))

  none_by : (views : List View) → ((k : ℕ) → k < length views → (collected_in generation (view_of views k).done ≡ 0) × (putting generation (view_of views k).ghost.call.put ≡ 0)) → collected_by generation views ≡ 0
  none_by [] each = refl
  none_by (v ∷ views) each = (let here = each 0 (omega arith) in let done = here.0 in let put = here.1 in let rest = none_by views (λ k inside. each (suc k) (omega (arith, inside))) in omega (arith, done, put, rest))

-- a block of a filtered list
filtered : (p : ℕ → Bool) (blocks : List ℕ) (block : ℕ) → is_listed (filter p blocks) block ≡ true → (p block ≡ true) × (is_listed blocks block ≡ true)
filtered p blocks block listed = and_parts (p block) (is_listed blocks block) (sym (has_filter p blocks block) ∙ listed)

module _ (o : Origin) (c : Core) (n : ℕ) (s : Seat) (g : Ghost) (ends : List ℕ) (before next : ℕ) (inv : Invariant o c) (here : n < length c.views) (unspent : (view_of c.views n).parts ≢ [])
    (f : Knows o c n s g (slice_index c.memory.now.pins n) (slice_index ends n)) (may : MayExchangeHead o c g s before next) (won : slice_index c.memory.now.words head_place ≡ before)
    (m : Memory) (moves : HeadMoves o (length c.views) c.memory m next)
    (ends_fit : length ends ≡ length c.began) (other_ends : (k : ℕ) → k ≢ n → slice_index ends k ≡ slice_index c.began k) (low_ends : (k : ℕ) → slice_index ends k ≤ end_of o c.history) where
  abbrev pn : ℕ
  pn = slice_index c.memory.now.pins n

  abbrev bn : ℕ
  bn = slice_index ends n

  abbrev at_now : ℕ
  at_now = at o c n s g pn bn before next inv unspent f may won

  abbrev old : Generation
  old = nth_generation c.generations at_now

  abbrev new_one : Generation
  new_one = made o c n s g pn bn before next inv unspent f may won m moves

  abbrev all_gens : List Generation
  all_gens = gens o c n s g pn bn before next inv unspent f may won m moves

  abbrev owner : ℕ → Owner
  owner block = owner_now o c n s g pn bn before next inv unspent f may won m moves block

  -- the seat and what contracts see of it, after the exchange
  abbrev e : Seat
  e = head_exchanged s next 0 true

  abbrev head_put : HeadPut
  head_put = record { generation = field HEAD_GENERATION next; base = s.walk.position; replaced = length (replaced_by s); limbo = length s.giving.limbo }

  abbrev h : Ghost
  h = record { marks = g.marks; stored = stored_but (words_of s) (λ block. is_listed (new_snapshots s next) block) g.stored; call = record (g.call) { put = Some head_put } }

  abbrev w : View
  w = with_seat (view_of c.views n) e h

  abbrev views : List View
  views = slice_set c.views n w

  abbrev new : Core
  new = moved_core o c n s g pn bn before next inv unspent f may won m moves views ends

  count : length views ≡ length c.views
  count = length-set c.views n w

  kept_here : KeptIn o c at_now
  kept_here = in_chain o c n s g pn bn before next inv unspent f may won

  -- a generation that is kept now was kept before, or is the new one
  kept_before : (place : ℕ) → place < length c.generations → KeptIn o new place → KeptIn o c place
  kept_before place inside kept = ⊎_elim
      (λ floor. record { inside = inside; why = inl (let same = floor_same o c n s g pn bn before next inv unspent f may won m moves in omega (arith, floor, same)) })
      (λ pin. by pin.seat pin.valid pin.same)
      kept.why
    where
      by : (seat : ℕ) → (view_of views seat).seat.hold.valid ≡ true → (view_of views seat).seat.hold.generation ≡ first_generation o + place → KeptIn o c place
      by = each_set (λ (k : ℕ) (v : View). v.seat.hold.valid ≡ true → v.seat.hold.generation ≡ first_generation o + place → KeptIn o c place) c.views n w here
          (λ valid same. kept_place o c inv place (f.kept place valid same))
          (λ k other valid same. record { inside = inside; why = inr (record { seat = k; valid = valid; same = same }) })

  pin_kept : (k : ℕ) → (view_of c.views k).seat.hold.valid ≡ true → KeptIn o c ((view_of c.views k).seat.hold.generation - first_generation o)
  pin_kept k valid = kept_place o c inv ((view_of c.views k).seat.hold.generation - first_generation o)
      (inr (record { seat = k; valid = valid; same = (let low = (inv.pins.holds k).from_first ((inv.pins.holds k).valid_some valid) in omega (arith, low)) }))

  by_place : (P : ℕ → Type 0) (place : ℕ) → place < length all_gens → (place < length c.generations → P place) → P (length c.generations) → P place
  by_place P place inside was now = ⊎_elim (λ low. was low) (λ past. subst P (let long = gens_count o c n s g pn bn before next inv unspent f may won m moves in let is : length c.generations ≡ place = omega (arith, inside, past, long) in is) now)
      (cases_lt place (length c.generations))

  old_is : (place : ℕ) → place < length c.generations → nth_generation all_gens place ≡ nth_generation c.generations place
  old_is place inside = old_gen o c n s g pn bn before next inv unspent f may won m moves place inside

  new_is : nth_generation all_gens (length c.generations) ≡ new_one
  new_is = last_gen o c n s g pn bn before next inv unspent f may won m moves (length c.generations) refl

  sizes : Sizes o m views ends
  sizes = (let mem = moves.fits in record {
    seats = inv.sizes.seats;
    image = inv.sizes.image;
    words = record {
      words = mem.words;
      taken = mem.taken;
      pins = mem.pins;
      floors = mem.floors;
      reached = mem.reached;
      small = mem.small;
      small_past = mem.small_past;
      pending = subst (λ (k : ℕ). AllByRecursion (λ (note : PendingMark). (note.seat < k) × (note.word < length o.words) × (note.time ≤ length m.past)) m.pending) (sym count) mem.pending;
    };
    some = subst (λ (k : ℕ). 0 < k) (sym count) inv.sizes.some;
    few = subst (λ (k : ℕ). k ≤ o.seats) (sym count) inv.sizes.few;
    begun = ends_fit ∙ (inv.sizes.begun ∙ sym count);
    made = λ some. subst (λ (k : ℕ). (view_of views 0).made ≡ k) (sym count)
        (each_set (λ (k : ℕ) (v : View). k ≡ 0 → v.parts ≢ [] → v.made ≡ length c.views) c.views n w here
        (λ zero_is parts. subst (λ (k : ℕ). (view_of c.views k).parts ≢ [] → (view_of c.views k).made ≡ length c.views) (sym zero_is) inv.sizes.made parts)
        (λ k other zero_is parts. subst (λ (j : ℕ). (view_of c.views j).parts ≢ [] → (view_of c.views j).made ≡ length c.views) (sym zero_is) inv.sizes.made parts) 0 refl some);
    few_made = λ number. subst (λ (k : ℕ). (view_of views number).made ≤ k) (sym count)
        (each_set (λ (k : ℕ) (v : View). v.made ≤ length c.views) c.views n w here (inv.sizes.few_made n) (λ k other. inv.sizes.few_made k) number);
    spent = each_set (λ (k : ℕ) (v : View). v.parts ≡ [] → v ≡ spent_view) c.views n w here (λ none. absurd (unspent none)) (λ k other none. inv.sizes.spent k none);
    each = λ number inside some. each_set (λ (k : ℕ) (v : View). k < length c.views → v.parts ≢ [] → SeatFits o k v) c.views n w here
        (λ low parts. (let r = f.fits parts in record { number = r.number; seats = r.seats; geometry = r.geometry; first = r.first; found = r.found; named = r.named; map = r.map }))
        (λ k other low parts. inv.sizes.each k low parts) number (subst (λ (k : ℕ). number < k) count inside) some;
  })

  -- the new head is of the next generation, and of the first block of its snapshot
  first_snap : (block : ℕ) (blocks : List ℕ) → snaps o c n s g pn bn before next inv unspent f may won ≡ block ∷ blocks → is_listed (snaps o c n s g pn bn before next inv unspent f may won) block ≡ true
  first_snap block blocks is = subst (λ (l : List ℕ). is_listed l block ≡ true) (sym is) (rw (eq-eqb block block refl) refl)

  front_now : front_of c.logs new_one ≡ first_or (new_snapshots s next) 0
  front_now = go (new_snapshots s next) refl may.snapshot.some
    where
      go : (l : List ℕ) → new_snapshots s next ≡ l → 0 < length (new_snapshots s next) → first_or (new_snapshots s next) (nth_log c.logs new_one.cut).block ≡ first_or (new_snapshots s next) 0
      go [] is some = absurd (let none = ap (λ (l : List ℕ). length l) is in omega (arith, some, none))
      go (block ∷ blocks) is some = rw is refl

  front_small : front_of c.logs new_one < 2 ^ 16
  front_small = go (new_snapshots s next) refl may.snapshot.some
    where
      small_of : (block : ℕ) → is_listed (new_snapshots s next) block ≡ true → block < 2 ^ 16
      small_of block listed = (let inside = inv.owners.bits.inside block (λ free. (let both : OwnedBy n ≡ Rattle.log_core.specs.Origin.Free = sym (mine o c n s g pn bn before next inv unspent f may won block listed) ∙ free in cc)) in
          let few = o.geometry.few_blocks in omega (arith, inside, few))

      go : (l : List ℕ) → new_snapshots s next ≡ l → 0 < length (new_snapshots s next) → first_or (new_snapshots s next) (nth_log c.logs new_one.cut).block < 2 ^ 16
      go [] is some = absurd (let none = ap (λ (l : List ℕ). length l) is in omega (arith, some, none))
      go (block ∷ blocks) is some = subst (λ (l : List ℕ). first_or l (nth_log c.logs new_one.cut).block < 2 ^ 16) (sym is) (small_of block (first_snap block blocks is))

  next_generation : s.hold.generation + 1 ≡ first_generation o + length c.generations
  next_generation = (let is = present_is o c n s g pn bn before next inv unspent f may won in let now = current_is o c inv in let last = inv.order.heads.count in omega (arith, is, now, last))

  next_is : next ≡ head_word (record { generation = first_generation o + length c.generations; block = front_of c.logs new_one })
  next_is = may.next_is ∙ (ap (λ (k : ℕ). head_word (record { generation = k; block = first_or (new_snapshots s next) 0 })) next_generation
      ∙ ap (λ (b : ℕ). head_word (record { generation = first_generation o + length c.generations; block = b })) (sym front_now))

  few_now : first_generation o + length all_gens ≤ 2 ^ 32
  few_now = (let below = may.below_limit in let is = next_generation in let long = gens_count o c n s g pn bn before next inv unspent f may won m moves in omega (arith, below, is, long))

  heads : HeadsInOrder o (λ word. cell m word) all_gens c.logs
  heads = (let r = inv.order.heads in record {
    header = λ word low. certain_narrows (cell c.memory word) (cell m word) _ (same_narrows c.memory m word (moves.others word (λ same. (let e : word ≡ 3 = same in omega (arith, e, low))))) (r.header word low);
    some = r.some;
    few = few_now;
    count = gens_count o c n s g pn bn before next inv unspent f may won m moves ∙ (let was = r.count in let more = ap (λ (x : Cell). length x.past) moves.here in let long = length_push (cell c.memory head_place).past (cell c.memory head_place).present in omega (arith, was, more, long));
    floor = Rattle.log_core.proofs.clauses.Narrows.floor_inside m head_place;
    small = λ place inside. by_place (λ (k : ℕ). front_of c.logs (nth_generation all_gens k) < 2 ^ 16) place inside
        (λ low. subst (λ (x : Generation). front_of c.logs x < 2 ^ 16) (sym (old_is place low)) (r.small place low))
        (subst (λ (x : Generation). front_of c.logs x < 2 ^ 16) (sym new_is) front_small);
    each = λ place inside. by_place (λ (k : ℕ). value_at (cell m head_place) k ≡ head_word (record { generation = first_generation o + k; block = front_of c.logs (nth_generation all_gens k) })) place inside
        (λ low. ap (λ (x : Cell). value_at x place) moves.here ∙ (grown_value (cell c.memory head_place) next place (let was = r.count in omega (arith, low, was)) ∙ (r.each place low
        ∙ ap (λ (x : Generation). head_word (record { generation = first_generation o + place; block = front_of c.logs x })) (sym (old_is place low)))))
        (ap (λ (x : Cell). value_at x (length c.generations)) moves.here ∙ (last_value (length c.generations) r.count ∙ (next_is
        ∙ ap (λ (x : Generation). head_word (record { generation = first_generation o + length c.generations; block = front_of c.logs x })) (sym new_is))));
  })
    where
      last_value : (k : ℕ) → k ≡ length (cell c.memory head_place).past + 1 → value_at (Rattle.persistence.specs.Steps.with_value (cell c.memory head_place) next) k ≡ next
      last_value k is = get_or_push ((cell c.memory head_place).past ++ (cell c.memory head_place).present ∷ []) next 0 k (length_push (cell c.memory head_place).past (cell c.memory head_place).present ∙ sym is)

  rise : GenerationsRise o (end_of o c.history) all_gens c.logs
  rise = (let r = inv.order.generations_rise in record {
    from_first = λ place inside. by_place (λ (k : ℕ). Rattle.log_core.specs.Origin.start_base o ≤ (nth_generation all_gens k).base) place inside
        (λ low. subst (λ (x : Generation). Rattle.log_core.specs.Origin.start_base o ≤ x.base) (sym (old_is place low)) (r.from_first place low))
        (subst (λ (x : Generation). Rattle.log_core.specs.Origin.start_base o ≤ x.base) (sym new_is)
        (let start = from_start o c n s g pn bn before next inv unspent f may won in let more = above o c n s g pn bn before next inv unspent f may won in omega (arith, start, more)));
    to_end = λ place inside. by_place (λ (k : ℕ). (nth_generation all_gens k).base ≤ end_of o c.history) place inside
        (λ low. subst (λ (x : Generation). x.base ≤ end_of o c.history) (sym (old_is place low)) (r.to_end place low))
        (subst (λ (x : Generation). x.base ≤ end_of o c.history) (sym new_is) (f.walk unspent).to_end);
    rise = λ place inside. by_place (λ (k : ℕ). k ≡ place + 1 → (nth_generation all_gens place).base < (nth_generation all_gens k).base) (place + 1) inside
        (λ low same. (let was : place < length c.generations = omega (arith, low) in
        subst (λ (x : Generation). x.base < (nth_generation all_gens (place + 1)).base) (sym (old_is place was)) (subst (λ (x : Generation). (nth_generation c.generations place).base < x.base) (sym (old_is (place + 1) low)) (r.rise place low))))
        (λ same. (let was : place < length c.generations = omega (arith, same) in
        subst (λ (x : Generation). x.base < (nth_generation all_gens (length c.generations)).base) (sym (old_is place was ∙ ap (λ (k : ℕ). nth_generation c.generations k) (last_place place same)))
        (subst (λ (x : Generation). old.base < x.base) (sym new_is) (above o c n s g pn bn before next inv unspent f may won)))) refl;
    cuts_rise = λ place inside. by_place (λ (k : ℕ). k ≡ place + 1 → (nth_generation all_gens place).cut ≤ (nth_generation all_gens k).cut) (place + 1) inside
        (λ low same. (let was : place < length c.generations = omega (arith, low) in
        subst (λ (x : Generation). x.cut ≤ (nth_generation all_gens (place + 1)).cut) (sym (old_is place was)) (subst (λ (x : Generation). (nth_generation c.generations place).cut ≤ x.cut) (sym (old_is (place + 1) low)) (r.cuts_rise place low))))
        (λ same. (let was : place < length c.generations = omega (arith, same) in
        subst (λ (x : Generation). x.cut ≤ (nth_generation all_gens (length c.generations)).cut) (sym (old_is place was ∙ ap (λ (k : ℕ). nth_generation c.generations k) (last_place place same)))
        (subst (λ (x : Generation). old.cut ≤ x.cut) (sym new_is) (cut_late o c n s g pn bn before next inv unspent f may won)))) refl;
    cut_inside = λ place inside. by_place (λ (k : ℕ). (nth_generation all_gens k).cut < length c.logs) place inside
        (λ low. subst (λ (x : Generation). x.cut < length c.logs) (sym (old_is place low)) (r.cut_inside place low))
        (subst (λ (x : Generation). x.cut < length c.logs) (sym new_is) (cut_inside o c n s g pn bn before next inv unspent f may won));
    cut_base = λ place inside. by_place (λ (k : ℕ). (nth_log c.logs (nth_generation all_gens k).cut).base ≡ (nth_generation all_gens k).base) place inside
        (λ low. subst (λ (x : Generation). (nth_log c.logs x.cut).base ≡ x.base) (sym (old_is place low)) (r.cut_base place low))
        (subst (λ (x : Generation). (nth_log c.logs x.cut).base ≡ x.base) (sym new_is) (cut_base o c n s g pn bn before next inv unspent f may won));
  })
    where
      last_place : (place : ℕ) → length c.generations ≡ place + 1 → place ≡ at_now
      last_place place same = (let last = at_last o c n s g pn bn before next inv unspent f may won in omega (arith, same, last))

  -- the log blocks of each kept generation
  log_cell : (place number k : ℕ) → KeptIn o c place → (nth_generation c.generations place).cut ≤ number → number < length c.logs → k < words_in (shape o) →
      cell m (place_in (shape o) (nth_log c.logs number).block k) ≡ cell c.memory (place_in (shape o) (nth_log c.logs number).block k)
  log_cell place number k kept late inside low = block_cell o c n s g pn bn before next inv unspent f may won m moves (nth_log c.logs number).block k
      (named_some o c n s g pn bn before next inv unspent f may won m moves place (nth_log c.logs number).block kept
      (log_is_named o c.logs (nth_generation c.generations place) number (entries o c.history) late inside)) low

  stand : (place : ℕ) → KeptIn o c place → (cut_now : ℕ) → (nth_generation c.generations place).cut ≤ cut_now → LogsStand (shape o) (λ word. cell m word) c.logs cut_now
  stand place kept cut_now late number low inside = log_narrows (shape o) (λ word. cell c.memory word) (λ word. cell m word) (nth_log c.logs number) (nth_log c.logs (number + 1)).block
      (let wide = inv.sizes.image.wide in omega (arith, wide)) (λ k less. same_narrows c.memory m _ (log_cell place number k kept (omega (arith, late, low)) inside less))
      (inv.order.chains place kept number (omega (arith, late, low)) inside)

  order : Order o m c.history all_gens c.logs (λ place. KeptIn o new place)
  order = record {
    heads = heads;
    generations_rise = rise;
    log = inv.order.log;
    chains = λ place kept. by_place (λ (k : ℕ). KeptIn o new k → LogsStand (shape o) (λ word. cell m word) c.logs (nth_generation all_gens k).cut) place kept.inside
        (λ low kept_now. subst (λ (x : Generation). LogsStand (shape o) (λ word. cell m word) c.logs x.cut) (sym (old_is place low)) (stand place (kept_before place low kept_now) (nth_generation c.generations place).cut (omega arith)))
        (λ kept_now. subst (λ (x : Generation). LogsStand (shape o) (λ word. cell m word) c.logs x.cut) (sym new_is) (stand at_now kept_here new_one.cut (cut_late o c n s g pn bn before next inv unspent f may won))) kept;
  }

  -- the seat's own lists: the blocks that it owns still, and those that it replaced
  own_list : IsListOf owner (Rattle.log_core.specs.Needs.owned_numbers e.blocks.owned) (OwnedBy n)
  own_list = subst (λ (l : List ℕ). IsListOf owner l (OwnedBy n)) (sym (numbers_but (λ block. is_listed (new_snapshots s next) block) s.blocks.owned)) (record {
    listed = λ block listed. (let parts = filtered (λ (b : ℕ). not (is_listed (new_snapshots s next) b)) (Rattle.log_core.specs.Needs.owned_numbers s.blocks.owned) block listed in
        let was = f.owns.owned.listed block parts.1 in
        still block (not-true (is_listed (new_snapshots s next) block) parts.0) was);
    all = λ block is. has_filter (λ (b : ℕ). not (is_listed (new_snapshots s next) b)) (Rattle.log_core.specs.Needs.owned_numbers s.blocks.owned) block
        ∙ owner_by o c n s g pn bn before next inv unspent f may won block (OwnedBy n) is (λ listed same. cc) (λ snap listed same. cc)
        (λ snap other was. and_from (not (is_listed (new_snapshots s next) block)) (is_listed (Rattle.log_core.specs.Needs.owned_numbers s.blocks.owned) block) (ap (λ (b : Bool). not b) snap) (f.owns.owned.all block was));
    once = different_filter (λ (b : ℕ). not (is_listed (new_snapshots s next) b)) (Rattle.log_core.specs.Needs.owned_numbers s.blocks.owned) f.owns.owned.once;
  })
    where
      still : (block : ℕ) → is_listed (new_snapshots s next) block ≡ false → c.owner block ≡ OwnedBy n → owner block ≡ OwnedBy n
      still block snap was = ap (λ (b : Bool). if b then InChain else if is_listed (replaced_by s) block then LeftTo n else c.owner block) snap
          ∙ (ap (λ (b : Bool). if b then LeftTo n else c.owner block) (never (is_listed (replaced_by s) block) (λ listed. (let chain = replaced_was o c n s g pn bn before next inv unspent f may won block listed in
          let both : InChain ≡ OwnedBy n = sym chain ∙ was in cc))) ∙ was)

  left_list : IsListOf owner (replaced_by s ++ s.giving.limbo) (LeftTo n)
  left_list = record {
    listed = λ block listed. either_of (is_listed (replaced_by s) block) (is_listed s.giving.limbo block) (sym (list_any-append (λ (other : ℕ). other == block) (replaced_by s) s.giving.limbo) ∙ listed)
        (λ now. owner_replaced o c n s g pn bn before next inv unspent f may won block now)
        (λ before_now. (let was = limbo_was block before_now in owner_same o c n s g pn bn before next inv unspent f may won block (λ own. (let both = sym was ∙ own in cc)) (λ chain. (let both = sym was ∙ chain in cc)) ∙ was));
    all = λ block is. owner_by o c n s g pn bn before next inv unspent f may won block (LeftTo n) is (λ listed same. cc) (λ snap listed same. has_left (replaced_by s) s.giving.limbo block listed)
        (λ snap other was. has_right (replaced_by s) s.giving.limbo block (subst (λ (l : List ℕ). is_listed (l ++ s.giving.limbo) block ≡ true) may.nothing_left (f.owns.left.all block was)));
    once = different_join (replaced_by s) s.giving.limbo (different_filter _ (Rattle.std.specs.List.range_with_len 1 (total (Rattle.log_core.specs.Works.seat_shape s) - 1)) (range_different 1 (total (Rattle.log_core.specs.Works.seat_shape s) - 1)))
        (subst (λ (l : List ℕ). all_different (l ++ s.giving.limbo) ≡ true) may.nothing_left f.owns.left.once)
        (λ block listed. never (is_listed s.giving.limbo block) (λ also. (let chain = replaced_was o c n s g pn bn before next inv unspent f may won block listed in let left = limbo_was block also in let both : InChain ≡ LeftTo n = sym chain ∙ left in cc)));
  }
    where
      limbo_was : (block : ℕ) → is_listed s.giving.limbo block ≡ true → c.owner block ≡ LeftTo n
      limbo_was block listed = f.owns.left.listed block (subst (λ (l : List ℕ). is_listed (l ++ s.giving.limbo) block ≡ true) (sym may.nothing_left) listed)

  owners : Owners o m.now.taken views c.history all_gens c.logs owner (λ place. KeptIn o new place)
  owners = record {
    bits = subst (λ (taken : List ℕ). BitsFit (shape o) taken owner) (sym moves.taken) (bits_moved o c n s g pn bn before next inv unspent f may won);
    chain = (let is : Rattle.log_core.specs.Cores.generation_at o all_gens (current o all_gens) ≡ new_one =
        ap (λ (k : ℕ). nth_generation all_gens k) (let more = current_more o c n s g pn bn before next inv unspent f may won m moves in let now = current_is o c inv in let last = inv.order.heads.count in
        let e : current o all_gens - first_generation o ≡ length c.generations = omega (arith, more, now, last) in e) ∙ new_is in
        subst (λ (x : Generation). Rattle.log_core.specs.Owners.ChainOwns (is_named o c.logs (entries o c.history) x) owner) (sym is) (record {
          named = λ block own. chain_moved_named o c n s g pn bn before next inv unspent f may won block own;
          all = λ block named. chain_moved_all o c n s g pn bn before next inv unspent f may won block named;
        }));
    seats = each_set (λ (k : ℕ) (v : View). SeatOwns owner k v.seat) c.views n w here (record { owned = own_list; left = left_list }) (λ k other. record {
      owned = list_same o c n s g pn bn before next inv unspent f may won _ (OwnedBy k) (λ is. cc) (λ is. other (ap owned_number is)) (λ is. cc) (inv.owners.seats k).owned;
      left = list_same o c n s g pn bn before next inv unspent f may won _ (LeftTo k) (λ is. cc) (λ is. cc) (λ is. other (ap left_number is)) (inv.owners.seats k).left;
    });
    once = λ place kept. by_place (λ (k : ℕ). KeptIn o new k → Rattle.log_core.specs.Owners.NamesOnce (shape o) (Rattle.log_core.specs.Cores.chain_names c.logs (nth_generation all_gens k)) (Rattle.log_core.specs.Cores.data_names o (entries o c.history) (nth_generation all_gens k))) place kept.inside
        (λ low kept_now. subst (λ (x : Generation). Rattle.log_core.specs.Owners.NamesOnce (shape o) (Rattle.log_core.specs.Cores.chain_names c.logs x) (Rattle.log_core.specs.Cores.data_names o (entries o c.history) x)) (sym (old_is place low)) (inv.owners.once place (kept_before place low kept_now)))
        (λ kept_now. subst (λ (x : Generation). Rattle.log_core.specs.Owners.NamesOnce (shape o) (Rattle.log_core.specs.Cores.chain_names c.logs x) (Rattle.log_core.specs.Cores.data_names o (entries o c.history) x)) (sym new_is) (new_once o c n s g pn bn before next inv unspent f may won)) kept;
  }
    where
      owned_number : Owner → ℕ
      owned_number (OwnedBy k) = k
      owned_number _ = 0

      left_number : Owner → ℕ
      left_number (LeftTo k) = k
      left_number _ = 0

  abbrev recorded : ℕ → List ℕ
  recorded block = recorded_now o c n s g pn bn before next inv unspent f may won m moves block

  contents : (place : ℕ) → KeptIn o new place → GenerationHolds o (λ word. cell m word) c.history (λ block. recorded block) owner c.logs (nth_generation all_gens place)
  contents place kept = by_place (λ (k : ℕ). KeptIn o new k → GenerationHolds o (λ word. cell m word) c.history (λ block. recorded block) owner c.logs (nth_generation all_gens k)) place kept.inside
      (λ low kept_now. subst (λ (x : Generation). GenerationHolds o (λ word. cell m word) c.history (λ block. recorded block) owner c.logs x) (sym (old_is place low)) (old_contents o c n s g pn bn before next inv unspent f may won m moves place (kept_before place low kept_now)))
      (λ kept_now. subst (λ (x : Generation). GenerationHolds o (λ word. cell m word) c.history (λ block. recorded block) owner c.logs x) (sym new_is) (new_contents o c n s g pn bn before next inv unspent f may won m moves)) kept

  pins_hold : Pins o m views all_gens
  pins_hold = record {
    words = λ seat inside. each_set (λ (k : ℕ) (v : View). k < length m.now.pins → slice_index m.now.pins k ≡ v.seat.hold.pin) c.views n w here
        (λ low. ap (λ (pins : List ℕ). slice_index pins n) moves.pins ∙ f.pin_is)
        (λ k other low. ap (λ (pins : List ℕ). slice_index pins k) moves.pins ∙ inv.pins.words k (let many = ap (λ (pins : List ℕ). length pins) moves.pins in omega (arith, low, many))) seat inside;
    holds = each_set (λ (k : ℕ) (v : View). PinHolds (first_generation o) (current o all_gens) (cell m head_place) v.seat.hold) c.views n w here
        (pin_moved o c n s g pn bn before next inv unspent f may won m moves s.hold f.pin_holds)
        (λ k other. pin_moved o c n s g pn bn before next inv unspent f may won m moves (view_of c.views k).seat.hold (inv.pins.holds k));
  }

  walks : (seat : ℕ) → (view_of views seat).parts ≢ [] → WalkHolds (around o new) (view_of views seat).seat.hold (view_of views seat).seat.walk
  walks = each_set (λ (k : ℕ) (v : View). v.parts ≢ [] → WalkHolds (around o new) v.seat.hold v.seat.walk) c.views n w here
      (λ some. walk_moved o c n s g pn bn before next inv unspent f may won m moves views ends kept_before s.hold f.pin_holds (λ valid. kept_here) s.walk (f.walk some))
      (λ k other some. walk_moved o c n s g pn bn before next inv unspent f may won m moves views ends kept_before (view_of c.views k).seat.hold (inv.pins.holds k) (pin_kept k) (view_of c.views k).seat.walk (inv.walks k some))

  noted : (seat : ℕ) → (view_of views seat).parts ≢ [] → NotedBy (around o new) (view_of views seat).seat
  noted = each_set (λ (k : ℕ) (v : View). v.parts ≢ [] → NotedBy (around o new) v.seat) c.views n w here
      (λ some. noted_moved o c n s g pn bn before next inv unspent f may won m moves views ends kept_before s.hold s.walk s.calling s.blocks.named f.pin_holds (f.walk some) (f.noted some))
      (λ k other some. (let u = (view_of c.views k).seat in
      noted_moved o c n s g pn bn before next inv unspent f may won m moves views ends kept_before u.hold u.walk u.calling u.blocks.named (inv.pins.holds k) (inv.walks k some) (inv.noted k some)))

  -- the owned blocks that are left
  own_words : words_of s ≡ q_of_origin o
  own_words = ap Rattle.pmem_words.specs.Seats.q_of (f.fits unspent).geometry

  own_image : Rattle.log_core.specs.Works.seat_shape s ≡ shape o
  own_image = ap Rattle.log_image.specs.Image.shape_by (f.fits unspent).geometry

  keep : Rattle.log_core.proofs.clauses.OwnedSame.KeepsOwned o c m
  keep = keeps o c n s g pn bn before next inv unspent f may won m moves

  owned_mine : OwnedHold (λ word. cell m word) m.past m.pending n h e
  owned_mine = (let r = left_hold (λ word. cell m word) m.past m.pending n s g h
      (owned_kept o c m inv keep n g s own_words own_image (λ block listed. f.owns.owned.listed block listed) f.owned) (λ block. is_listed (new_snapshots s next) block) refl s.blocks.found in record {
        contents = r.contents;
        areas = r.areas;
        stored = r.stored;
        filled = λ place inside filled. (let q = r.filled place inside filled in record { owned = q.owned; each = q.each });
        fenced = r.fenced;
      })

  owned : (seat : ℕ) → OwnedHold (λ word. cell m word) m.past m.pending seat (view_of views seat).ghost (view_of views seat).seat
  owned = each_set (λ (k : ℕ) (v : View). OwnedHold (λ word. cell m word) m.past m.pending k v.ghost v.seat) c.views n w here owned_mine (λ k other. owned_view_kept o c m inv keep k)

  giving_mine : GivingHolds (names_by o c.logs (entries o c.history) all_gens) (current o all_gens) (first_generation o + head_floor m) e.giving
  giving_mine = record {
    replaced_past = (let is = present_is o c n s g pn bn before next inv unspent f may won in let more = current_more o c n s g pn bn before next inv unspent f may won m moves in omega (arith, is, more));
    replaced = no_later o c n s g pn bn before next inv unspent f may won m moves s.hold.generation (replaced_by s)
        (λ block listed. replaced_not_now o c n s g pn bn before next inv unspent f may won block listed)
        (λ block later listed above_it low. absurd (let is = present_is o c n s g pn bn before next inv unspent f may won in omega (arith, above_it, low, is)));
    limbo = old_giving.limbo;
    replaced_sure = λ fenced. cc;
    limbo_sure = old_giving.limbo_sure;
  }
    where
      old_giving : GivingHolds (names_by o c.logs (entries o c.history) all_gens) (current o all_gens) (first_generation o + head_floor m) s.giving
      old_giving = giving_moved o c n s g pn bn before next inv unspent f may won m moves n s.giving f.owns.left f.giving

  givings : Givings o m views c.history all_gens c.logs
  givings = record {
    lists = each_set (λ (k : ℕ) (v : View). GivingHolds (names_by o c.logs (entries o c.history) all_gens) (current o all_gens) (first_generation o + head_floor m) v.seat.giving) c.views n w here giving_mine
        (λ k other. giving_moved o c n s g pn bn before next inv unspent f may won m moves k (view_of c.views k).seat.giving (inv.owners.seats k).left (inv.givings.lists k));
    scans = λ seat other. each_set (λ (k : ℕ) (v : View). ScanHolds v.seat.giving other (view_of views other).seat.hold) c.views n w here
        (record { replaced = λ inside. absurd (omega (arith, inside)); limbo = λ inside. absurd (omega (arith, inside)) })
        (λ k apart. each_set (λ (t : ℕ) (u : View). ScanHolds (view_of c.views k).seat.giving t u.seat.hold) c.views n w here (f.scanned k apart) (λ t other_seat. inv.givings.scans k t) other) seat;
  }

  -- the new generation is this call's alone
  none_before : (generation : ℕ) → generation ≡ first_generation o + length c.generations → collected_by generation c.views ≡ 0
  none_before generation is = none_by generation c.views (λ k inside. (
    none_in generation (view_of c.views k).done
        (each_weaker (RecordHolds o c.history c.generations) (λ (call : Call). collects generation call.reply ≡ 0) (view_of c.views k).done (λ call r. none_said call.position call.reply r.of_generations) (inv.records.records k)),
    none_put (view_of c.views k).ghost.call.put (λ head put. (let low = ((inv.records.put k).own head put).1 in omega (arith, low, is))),
  ))
    where
      none_said : (position : ℕ) (reply : Reply) → Rattle.log_core.specs.Records.SaysOfGenerations o c.generations position reply → collects generation reply ≡ 0
      none_said position (Collected collected) r = ap one_if (ne_eqb collected.generation generation (let low = r.1 in λ same. omega (arith, low, is, same)))
      none_said position (NotCollected why) r = refl
      none_said position (Wrote count) r = refl
      none_said position (Appended at count) r = refl
      none_said position (NotWritten why) r = refl
      none_said position (Bytes bytes) r = refl
      none_said position (FileSize size) r = refl
      none_said position (Synced to) r = refl

      none_put : (put : Option HeadPut) → ((head : HeadPut) → put ≡ Some head → head.generation ≢ generation) → putting generation put ≡ 0
      none_put None other = refl
      none_put (Some head) other = ap one_if (ne_eqb head.generation generation (other head refl))

  put_generation : head_put.generation ≡ first_generation o + length c.generations
  put_generation = ap (field HEAD_GENERATION) next_is ∙ Rattle.log_core.proofs.Heads.generation_field (first_generation o + length c.generations) (front_of c.logs new_one)
      (let few = few_now in let long = gens_count o c n s g pn bn before next inv unspent f may won m moves in omega (arith, few, long)) front_small

  collected_once : (generation : ℕ) → first_generation o < generation → generation ≤ current o all_gens → collected_by generation views ≡ 1
  collected_once generation above_first upto = collected_put c.views n w generation head_put refl refl (sym f.same_put ∙ may.not_put) here ∙ ⊎_elim
      (λ old_one. (let was = inv.records.collected_once generation above_first (let is = current_is o c inv in let last = inv.order.heads.count in omega (arith, old_one, is, last)) in
      let apart : one_if (head_put.generation == generation) ≡ 0 = ap one_if (ne_eqb head_put.generation generation (let is = put_generation in λ same. omega (arith, is, same, old_one))) in
      omega (arith, was, apart)))
      (λ new_now. (let is : generation ≡ first_generation o + length c.generations = (let more = current_more o c n s g pn bn before next inv unspent f may won m moves in let now = current_is o c inv in let last = inv.order.heads.count in omega (arith, new_now, upto, more, now, last)) in
      let none = none_before generation is in
      let mine_now : one_if (head_put.generation == generation) ≡ 1 = ap one_if (eq-eqb head_put.generation generation (put_generation ∙ sym is)) in
      omega (arith, none, mine_now)))
      (cases_lt generation (first_generation o + length c.generations))

  seats_once : SeatsOnce c.history views
  seats_once = record {
    once = λ seat. parts_set c.views n w seat refl here ∙ (inv.records.seats_once.once seat ∙ ap (λ (k : ℕ). one_if (nat_lt seat k)) (sym count));
    own = each_set (λ (k : ℕ) (v : View). v.parts ≢ [] → is_listed v.parts k ≡ true) c.views n w here (inv.records.seats_once.own n) (λ k other. inv.records.seats_once.own k);
    writes = subst (λ (k : ℕ). AllByRecursion (λ (write : Write). write.seat < k) c.history) (sym count) inv.records.seats_once.writes;
    records = all_set (λ (v : View). AllByRecursion (λ (call : Call). is_listed v.parts call.seat ≡ true) v.done) c.views n w
        (all_at (λ (v : View). AllByRecursion (λ (call : Call). is_listed v.parts call.seat ≡ true) v.done) c.views n here inv.records.seats_once.records) inv.records.seats_once.records;
  }

  put_mine : PutFits o all_gens w
  put_mine = record {
    own = λ head is. (let same : head_put ≡ head = cc in subst (λ (put : HeadPut). (first_generation o < put.generation) × (put.generation < first_generation o + length all_gens) × (put.base ≡ s.walk.position)
        × (put.base ≡ (nth_generation all_gens (put.generation - first_generation o)).base)) same (
          (let generation = put_generation in let some = inv.order.heads.count in omega (arith, generation, some)),
          (let generation = put_generation in let long = gens_count o c n s g pn bn before next inv unspent f may won m moves in omega (arith, generation, long)),
          refl,
          ap (λ (x : Generation). x.base) (sym (ap (λ (k : ℕ). nth_generation all_gens k) (let generation = put_generation in let e : head_put.generation - first_generation o ≡ length c.generations = omega (arith, generation) in e) ∙ new_is)),
        ));
    found = (let low = f.put.found in let long = gens_count o c n s g pn bn before next inv unspent f may won m moves in omega (arith, low, long));
  }

  records : Records o m views c.history all_gens (λ seat. slice_index ends seat)
  records = record {
    writes = each_set (λ (k : ℕ) (v : View). WritesFit o c.history v) c.views n w here (let r = f.writes in record { recorded = r.recorded; running = r.running }) (λ k other. inv.records.writes k);
    writes_once = each_set (λ (k : ℕ) (v : View). WritesOnce o c.history v) c.views n w here f.writes_once (λ k other. inv.records.writes_once k);
    seats_once = seats_once;
    collected_once = collected_once;
    put = each_set (λ (k : ℕ) (v : View). PutFits o all_gens v) c.views n w here put_mine
        (λ k other. put_moved o c n s g pn bn before next inv unspent f may won m moves (view_of c.views k).seat.walk.position (view_of c.views k).ghost.call.overtaken (view_of c.views k).ghost.call.put (inv.records.put k));
    records = each_set (λ (k : ℕ) (v : View). AllByRecursion (RecordHolds o c.history all_gens) v.done) c.views n w here (records_more n) (λ k other. records_more k);
    never_fall = λ seat part. each_set (λ (k : ℕ) (v : View). NeverFall part 0 0 v.done) c.views n w here (inv.records.never_fall n part) (λ k other. inv.records.never_fall k part) seat;
    calls = each_set (λ (k : ℕ) (v : View). CallHolds o c.history v) c.views n w here calls_mine (λ k other. inv.records.calls k);
    begun = low_ends;
    tails = each_set (λ (k : ℕ) (v : View). TailHolds v (slice_index ends k)) c.views n w here f.tail
        (λ k other. subst (λ (end : ℕ). TailHolds (view_of c.views k) end) (sym (other_ends k other)) (inv.records.tails k));
    marks = each_set (λ (k : ℕ) (v : View). MarksFit (λ word. cell m word) m.past m.pending k v) c.views n w here (marks_kept o c m inv keep n w f.marks) (λ k other. marks_kept o c m inv keep k (view_of c.views k) (inv.records.marks k));
  }
    where
      records_more : (k : ℕ) → AllByRecursion (RecordHolds o c.history all_gens) (view_of c.views k).done
      records_more k = each_weaker (RecordHolds o c.history c.generations) (RecordHolds o c.history all_gens) (view_of c.views k).done
          (λ call r. record_moved o c n s g pn bn before next inv unspent f may won m moves call r) (inv.records.records k)

      calls_mine : CallHolds o c.history w
      calls_mine = (let r = f.calls in record {
        laid = r.laid;
        bases = r.bases;
        reading = λ reading. (let stopped = ((f.walk unspent).ready_walked may.ready).1 in let both : true ≡ false = sym reading ∙ stopped in cc);
        numbers = r.numbers;
        task = record { won_runs = r.task.won_runs; put_collects = λ some. may.job; synced_syncs = r.task.synced_syncs };
      })

  syncs : Syncs o m views c.history all_gens c.logs c.synced
  syncs = record {
    from_first = inv.syncs.from_first;
    to_end = inv.syncs.to_end;
    words = λ place number low inside late less. by_place (λ (k : ℕ). head_floor m ≤ k → (nth_generation all_gens k).cut ≤ number → Rattle.log_core.specs.Synced.IsSyncedIn (shape o) (λ word. cell m word) c.synced (nth_log c.logs number) (nth_log c.logs (number + 1))) place inside
        (λ old_place floor cut_now. synced_at place number (record { inside = old_place; why = inl (let same = floor_same o c n s g pn bn before next inv unspent f may won m moves in omega (arith, floor, same)) })
        (let same = floor_same o c n s g pn bn before next inv unspent f may won m moves in omega (arith, floor, same)) (subst (λ (x : Generation). x.cut ≤ number) (old_is place old_place) cut_now) less)
        (λ floor cut_now. (let late_cut = cut_late o c n s g pn bn before next inv unspent f may won in let now = subst (λ (x : Generation). x.cut ≤ number) new_is cut_now in
        let high = inv.order.heads.floor in let last = at_last o c n s g pn bn before next inv unspent f may won in let total_now = inv.order.heads.count in
        synced_at at_now number kept_here (omega (arith, high, last, total_now)) (omega (arith, late_cut, now)) less)) low late;
    views_hold = each_set (λ (k : ℕ) (v : View). SyncHolds (q_of_origin o) (names_by o c.logs (entries o c.history) all_gens) (λ word. cell m word) m.past m.pending c.synced k v) c.views n w here
        (let r = sync_moved o c n s g pn bn before next inv unspent f may won m moves n (with_seat (view_of c.views n) s g) (λ valid. kept_here) f.syncs in record { to = r.to; marks = r.marks; valid = r.valid; answered = r.answered })
        (λ k other. sync_moved o c n s g pn bn before next inv unspent f may won m moves k (view_of c.views k) (pin_kept k) (inv.syncs.views_hold k));
  }
    where
      synced_at : (place number : ℕ) → KeptIn o c place → head_floor c.memory ≤ place → (nth_generation c.generations place).cut ≤ number → number < length c.logs →
          Rattle.log_core.specs.Synced.IsSyncedIn (shape o) (λ word. cell m word) c.synced (nth_log c.logs number) (nth_log c.logs (number + 1))
      synced_at place number kept floor late less = synced_narrows (shape o) (λ word. cell c.memory word) (λ word. cell m word) c.synced (nth_log c.logs number) (nth_log c.logs (number + 1)) (inv.order.log.inside number less)
          (λ k within. same_narrows c.memory m _ (log_cell place number k kept late less within)) (inv.syncs.words place number floor kept.inside late less)

  pub head_won : Invariant o new
  head_won = record {
    sizes = sizes;
    writes = inv.writes;
    order = order;
    owners = owners;
    contents = contents;
    pins = pins_hold;
    walks = walks;
    noted = noted;
    owned = owned;
    givings = givings;
    records = records;
    syncs = syncs;
  }
