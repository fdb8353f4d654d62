-- A clearing of bits of blocks that collections replaced gives these back: no kept generation names them.
use Rattle.std.proofs.Common.{◌≡◌, ◌≢◌, ◌⊎◌, ⊎_elim, inl, inr, ℕ, ◌+◌, ◌*◌, ◌/◌, ◌<◌, ◌≤◌, ◌||◌, not, if◌then◌else◌, Bool, true, false, List, [], ◌∷◌, ◌++◌, filter, length, refl, sym, ◌∙◌, ap, subst, arith, slice_index, slice_set}
use Rattle.std.specs.List.{range_with_len, list_all, AllByRecursion}
use Rattle.std.proofs.lemmas.Bool.{cases_lt, false≢true, and_from, and_parts, false_from_ne_true}
use Rattle.std.proofs.lemmas.List.{length-set, get_or_past}
use Rattle.std.proofs.lemmas.List.Elements.{filter-append}
use Rattle.pmem_words.specs.Owned.{is_among}
use Rattle.pmem_words.specs.Seats.{Seat, Hold}
use Rattle.asks.specs.Asks.{without_bits}
use Rattle.asks.specs.declared.ask.Place.TheVariants.{Map}
use Rattle.asks.specs.declared.ask.Ask.TheVariants.{ClearBits}
use Rattle.persistence.specs.Memory.{Memory, cell, memory_after}
use Rattle.log_image.specs.Chains.{is_listed}
use Rattle.log_core.specs.Views.{View, Ghost, Stored, view_of, spent_view}
use Rattle.log_core.specs.Origin.{Origin, shape, first_generation, Owner, Free, OwnedBy, LeftTo}
use Rattle.log_core.specs.Files.{entries}
use Rattle.log_core.specs.Cores.{Core, current, head_floor, is_named, IsKept}
use Rattle.log_core.specs.Contents.{IsStillTaken}
use Rattle.log_core.specs.Order.{nth_generation}
use Rattle.log_core.specs.Works.{words_of}
use Rattle.log_core.specs.Needs.{owned_numbers}
use Rattle.log_core.specs.Steps.{ClearsBits, is_of_owned, give_if, not_found, stored_but, effect, ghost_after}
use Rattle.log_core.specs.May.{MayClearBits, AreGivenBack, OfOwned, OfReplaced, OfLimbo, IsClearScan}
use Rattle.log_core.specs.Owned.{StoredHolds}
use Rattle.log_core.specs.Owners.{BitsFit, IsListOf}
use Rattle.log_core.specs.Giving.{AreInNoLater, ScanHolds}
use Rattle.log_core.specs.Invariant.{Invariant, names_by}
use Rattle.log_core.specs.Knows.{Knows, with_seat}
use Rattle.log_core.proofs.Each.{each_weaker}
use Rattle.log_core.proofs.BitmapFacts.{word_inside}
use Rattle.log_core.proofs.BlockLists.{has_filter}
use Rattle.log_core.proofs.clauses.OneView.{each_set}
use Rattle.log_core.proofs.clauses.Leaves.{Leaves, LeavesOwners, moved, others_stay}
use Rattle.log_core.proofs.clauses.BitmapLeaves.{bitmap_leaves}
use Rattle.log_core.proofs.clauses.Apart.{has_left, has_right}
use Rattle.log_core.proofs.clauses.ClearedOwners.{owner_cleared, cleared_bits, cleared_each, cleared_list}

-- what each element of a list meets, the list does
all_from : (p : ℕ → Bool) (numbers : List ℕ) → ((number : ℕ) → p number ≡ true) → list_all p numbers ≡ true
all_from p [] each = refl
all_from p (number ∷ numbers) each = and_from (p number) (list_all p numbers) (each number) (all_from p numbers each)

not_or : (a b : Bool) → (a ≡ true → b ≡ true) → (not a || b) ≡ true
not_or true b gives = gives refl
not_or false b gives = refl

-- bits that are not of owned blocks alone are of blocks that collections replaced, of one list, after a clear scan
pub record AreReplaced (s : Seat) (seats word bits : ℕ) : Type 0 where
  pub generation : ℕ
  pub blocks : List ℕ
  pub mine : (block : ℕ) → is_among word bits block ≡ true → is_listed blocks block ≡ true
  pub clear : IsClearScan s seats generation
  pub is : ((blocks ≡ s.giving.replaced) × (generation ≡ s.giving.replaced_generation) × (s.giving.head_fenced ≡ true)) ⊎ ((blocks ≡ s.giving.limbo) × (generation ≡ s.giving.limbo_generation))

pub are_replaced : (s : Seat) (seats word bits : ℕ) → is_of_owned s word bits ≡ false → AreGivenBack s seats word bits → AreReplaced s seats word bits
are_replaced s seats word bits none (OfOwned owned) = absurd (false≢true (sym none ∙ all_from (λ block. not (is_among word bits block) || is_listed (owned_numbers s.blocks.owned) block) (range_with_len (word * 64) 64)
    (λ block. not_or (is_among word bits block) (is_listed (owned_numbers s.blocks.owned) block) (owned block))))
are_replaced s seats word bits none (OfReplaced mine sure clear) = record { generation = s.giving.replaced_generation; blocks = s.giving.replaced; mine = mine; clear = clear; is = inl (refl, refl, sure) }
are_replaced s seats word bits none (OfLimbo mine clear) = record { generation = s.giving.limbo_generation; blocks = s.giving.limbo; mine = mine; clear = clear; is = inr (refl, refl) }

-- a test that no element of a list meets leaves the list
none_leave : {X : Type 0} (f : X → Bool) (xs : List X) → AllByRecursion (λ (x : X). f x ≡ false) xs → filter (λ (x : X). not (f x)) xs ≡ xs
none_leave f [] none = refl
none_leave {X} f (x ∷ xs) none = rw none.0 (ap (λ (rest : List X). x ∷ rest) (none_leave f xs none.1))

module _ (o : Origin) (c : Core) (n : ℕ) (s : Seat) (g : Ghost) (pin began word bits : ℕ) (inv : Invariant o c) (f : Knows o c n s g pin began) (here : n < length c.views) (unspent : (view_of c.views n).parts ≢ [])
    (may : MayClearBits s o.seats word bits) (not_owned : is_of_owned s word bits ≡ false) where
  abbrev value : ℕ
  value = slice_index c.memory.now.taken word

  abbrev left : Memory
  left = memory_after c.memory n (ClearBits (Map word) bits)

  abbrev owner : ℕ → Owner
  owner block = owner_cleared c.owner word bits block

  abbrev after : Seat
  after = effect g.marks s (ClearsBits word bits) value

  abbrev left_ghost : Ghost
  left_ghost = ghost_after g s after (ClearsBits word bits) value

  abbrev given : Seat
  given = not_found (give_if false s word bits) word bits

  abbrev names : ℕ → ℕ → Bool
  names = names_by o c.logs (entries o c.history) c.generations

  abbrev stays : ℕ → Bool
  stays block = not (is_among word bits block)

  given_is : after ≡ given
  given_is = ap (λ (mine : Bool). not_found (give_if mine s word bits) word bits) not_owned

  inside : word < length c.memory.now.taken
  inside = word_inside o c n s g pin began inv f unspent word may.inside

  replaced : AreReplaced s o.seats word bits
  replaced = are_replaced s o.seats word bits not_owned may.given

  -- no later generation than the list's names the blocks, and each head that a crash may leave is of a later one
  none_later : AreInNoLater names (current o c.generations) replaced.generation replaced.blocks
  none_later = ⊎_elim
      (λ (of_last : (replaced.blocks ≡ s.giving.replaced) × (replaced.generation ≡ s.giving.replaced_generation) × (s.giving.head_fenced ≡ true)). rw (of_last.0, of_last.1) f.giving.replaced)
      (λ (of_limbo : (replaced.blocks ≡ s.giving.limbo) × (replaced.generation ≡ s.giving.limbo_generation)). rw (of_limbo.0, of_limbo.1) f.giving.limbo)
      replaced.is

  below_heads : replaced.generation < first_generation o + head_floor c.memory
  below_heads = ⊎_elim
      (λ (of_last : (replaced.blocks ≡ s.giving.replaced) × (replaced.generation ≡ s.giving.replaced_generation) × (s.giving.head_fenced ≡ true)). rw of_last.1 (f.giving.replaced_sure of_last.2))
      (λ (of_limbo : (replaced.blocks ≡ s.giving.limbo) × (replaced.generation ≡ s.giving.limbo_generation)). rw of_limbo.1 f.giving.limbo_sure)
      replaced.is

  -- a valid pin of a seat is of a later one
  scanned : (k : ℕ) (h : Hold) → k < o.seats → ScanHolds s.giving k h → h.valid ≡ true → replaced.generation < h.generation
  scanned k h low scan valid = ⊎_elim
      (λ (of_last : (replaced.blocks ≡ s.giving.replaced) × (replaced.generation ≡ s.giving.replaced_generation) × (s.giving.head_fenced ≡ true)).
      rw of_last.1 (scan.replaced seen (subst (λ (generation : ℕ). (slice_index s.giving.pins_seen k ≡ 0) ⊎ (generation < slice_index s.giving.pins_seen k)) of_last.1 (replaced.clear.each k low)) valid))
      (λ (of_limbo : (replaced.blocks ≡ s.giving.limbo) × (replaced.generation ≡ s.giving.limbo_generation)).
      rw of_limbo.1 (scan.limbo seen (subst (λ (generation : ℕ). (slice_index s.giving.pins_seen k ≡ 0) ⊎ (generation < slice_index s.giving.pins_seen k)) of_limbo.1 (replaced.clear.each k low)) valid))
      replaced.is
    where
      seen : k < length s.giving.pins_seen
      seen = (let whole = replaced.clear.whole in omega (arith, low, whole))

  abbrev w : View
  w = with_seat (view_of c.views n) after left_ghost

  -- each kept generation is a later one
  pinned_later : (place seat : ℕ) → (view_of (slice_set c.views n w) seat).seat.hold.valid ≡ true → (view_of (slice_set c.views n w) seat).seat.hold.generation ≡ first_generation o + place →
      replaced.generation < first_generation o + place
  pinned_later place = each_set (λ (k : ℕ) (v : View). v.seat.hold.valid ≡ true → v.seat.hold.generation ≡ first_generation o + place → replaced.generation < first_generation o + place) c.views n w here
      (subst (λ (t : Seat). t.hold.valid ≡ true → t.hold.generation ≡ first_generation o + place → replaced.generation < first_generation o + place) (sym given_is)
      (λ valid same. (let few = inv.sizes.few in let low = scanned n s.hold (omega (arith, here, few)) f.scan_self valid in omega (arith, low, same))))
      other
    where
      other : (k : ℕ) → k ≢ n → (view_of c.views k).seat.hold.valid ≡ true → (view_of c.views k).seat.hold.generation ≡ first_generation o + place → replaced.generation < first_generation o + place
      other k apart valid same = ⊎_elim
          (λ (low : k < length c.views). (let few = inv.sizes.few in let later = scanned k (view_of c.views k).seat.hold (omega (arith, low, few)) (f.scan_others k apart) valid in omega (arith, later, same)))
          (λ (high : length c.views ≤ k). absurd (false≢true (sym (ap (λ (v : View). v.seat.hold.valid) (get_or_past c.views k spent_view high)) ∙ valid)))
          (cases_lt k (length c.views))

  kept_later : (place : ℕ) → IsKept o c.generations (head_floor left) (slice_set c.views n w) place → replaced.generation < first_generation o + place
  kept_later place kept = ⊎_elim (λ (floor : head_floor left ≤ place). (let low = below_heads in omega (arith, floor, low)))
      (λ pin. pinned_later place pin.seat pin.valid pin.same) kept.why

  -- so no kept generation names a block that is given back
  none_named : (place block : ℕ) → IsKept o c.generations (head_floor left) (slice_set c.views n w) place → is_among word bits block ≡ true →
      is_named o c.logs (entries o c.history) (nth_generation c.generations place) block ≡ false
  none_named place block kept among = subst (λ (k : ℕ). is_named o c.logs (entries o c.history) (nth_generation c.generations k) block ≡ false) (omega arith)
      (none_later block (first_generation o + place) (replaced.mine block among) (kept_later place kept) (let low = kept.inside in omega (arith, low)))

  abbrev kept_lists : List ℕ
  kept_lists = s.giving.replaced ++ s.giving.limbo

  mine : (block : ℕ) → is_among word bits block ≡ true → is_listed kept_lists block ≡ true
  mine block among = ⊎_elim
      (λ (of_last : (replaced.blocks ≡ s.giving.replaced) × (replaced.generation ≡ s.giving.replaced_generation) × (s.giving.head_fenced ≡ true)).
      has_left s.giving.replaced s.giving.limbo block (subst (λ (blocks : List ℕ). is_listed blocks block ≡ true) of_last.0 (replaced.mine block among)))
      (λ (of_limbo : (replaced.blocks ≡ s.giving.limbo) × (replaced.generation ≡ s.giving.limbo_generation)).
      has_right s.giving.replaced s.giving.limbo block (subst (λ (blocks : List ℕ). is_listed blocks block ≡ true) of_limbo.0 (replaced.mine block among)))
      replaced.is

  each_block : (block : ℕ) → (owner block ≡ c.owner block) ⊎ ((c.owner block ≡ LeftTo n) × (owner block ≡ Free))
  each_block = cleared_each (shape o) c.memory.now.taken c.owner word bits kept_lists (LeftTo n) inv.owners.bits inside may.small f.owns.left mine (λ e. cc) (λ e. cc)

  owner_was : (block : ℕ) (whose : Owner) → whose ≢ Free → owner block ≡ whose → c.owner block ≡ whose
  owner_was block whose some is = ⊎_elim (λ same. sym same ∙ is) (λ both. absurd (some (sym is ∙ both.1))) (each_block block)

  owner_is : (block : ℕ) (whose : Owner) → whose ≢ LeftTo n → c.owner block ≡ whose → owner block ≡ whose
  owner_is block whose other was = ⊎_elim (λ same. same ∙ was) (λ both. absurd (other (sym was ∙ both.0))) (each_block block)

  pub gives_bits : BitsFit (shape o) left.now.taken owner
  gives_bits = cleared_bits (shape o) c.memory.now.taken c.owner word bits kept_lists (LeftTo n) inv.owners.bits inside may.small f.owns.left mine (λ e. cc) (λ e. cc)

  pub gives_leaves : Leaves o c n left
  gives_leaves = bitmap_leaves o c n word (without_bits value bits) inv

  pub gives_owners : LeavesOwners o c n left w owner
  gives_owners = record {
    was = λ block whose others. owner_was block whose others.apart.some;
    is = λ block whose others. owner_is block whose others.left;
    taken = λ place block kept named. still (is_among word bits block) (λ among. false≢true (sym (none_named place block kept among) ∙ named)) (c.owner block);
  }
    where
      still : (is : Bool) → (is ≡ true → ⊥) → (whose : Owner) → IsStillTaken whose → IsStillTaken (if is then Free else whose)
      still true never whose taken = absurd (never refl)
      still false never whose taken = taken

  -- no owned block is among them
  owned_stays : (block : ℕ) → is_listed (owned_numbers s.blocks.owned) block ≡ true → is_among word bits block ≡ false
  owned_stays block owned = false_from_ne_true (is_among word bits block) (λ among. (let mixed : OwnedBy n ≡ LeftTo n = sym (f.owns.owned.listed block owned) ∙ f.owns.left.listed block (mine block among) in cc))

  stored_is : stored_but (words_of s) (λ (block : ℕ). is_among word bits block) g.stored ≡ g.stored
  stored_is = none_leave (λ (r : Stored). is_among word bits (r.word / words_of s)) g.stored
      (each_weaker (StoredHolds (λ k. cell c.memory k) c.memory.past c.memory.pending n (words_of s) (owned_numbers s.blocks.owned)) (λ (r : Stored). is_among word bits (r.word / words_of s) ≡ false) g.stored
      (λ r holds. owned_stays (r.word / words_of s) holds.mine) f.owned.stored)

  fewer : (blocks : List ℕ) (generation : ℕ) → AreInNoLater names (current o c.generations) generation blocks → AreInNoLater names (current o c.generations) generation (filter (λ block. stays block) blocks)
  fewer blocks generation none block later listed = none block later (and_parts (stays block) (is_listed blocks block) (sym (has_filter (λ other. stays other) blocks block) ∙ listed)).1

  given_facts : Knows o (moved c left owner) n given (record g { stored = g.stored }) pin began
  given_facts = record {
    fits = λ some. (let r = f.fits some in record { number = r.number; seats = r.seats; geometry = r.geometry; first = r.first; found = length-set s.blocks.found word (without_bits (slice_index s.blocks.found word) bits) ∙ r.found; named = r.named; map = r.map });
    kept = f.kept;
    owns = record {
      owned = others_stay c.owner owner (owned_numbers s.blocks.owned) (OwnedBy n) (λ block. owner_was block (OwnedBy n) (λ e. cc)) (λ block. owner_is block (OwnedBy n) (λ e. cc)) f.owns.owned;
      left = subst (λ (blocks : List ℕ). IsListOf owner blocks (LeftTo n)) (filter-append (λ block. stays block) s.giving.replaced s.giving.limbo)
          (cleared_list (shape o) c.memory.now.taken c.owner word bits kept_lists (LeftTo n) inv.owners.bits inside may.small f.owns.left mine (λ e. cc) (λ e. cc));
    };
    pin_is = f.pin_is;
    pin_holds = f.pin_holds;
    walk = λ some. (let r = f.walk some in record {
      to_end = r.to_end;
      from_first = r.from_first;
      to_current = r.to_current;
      read = r.read;
      kept_words = r.kept_words;
      unpinned = r.unpinned;
      walked = r.walked;
      ready_walked = r.ready_walked;
      ready_base = r.ready_base;
      ready_tail = r.ready_tail;
      seeking = r.seeking;
      first_known = r.first_known;
    });
    noted = f.noted;
    owned = (let r = f.owned in record {
      contents = r.contents;
      areas = r.areas;
      stored = r.stored;
      filled = λ place inside filled. (let q = r.filled place inside filled in record { owned = q.owned; each = q.each });
      fenced = r.fenced;
    });
    giving = (let r = f.giving in record {
      replaced_past = r.replaced_past;
      replaced = fewer s.giving.replaced s.giving.replaced_generation r.replaced;
      limbo = fewer s.giving.limbo s.giving.limbo_generation r.limbo;
      replaced_sure = r.replaced_sure;
      limbo_sure = r.limbo_sure;
    });
    scan_others = λ k other. (let r = f.scan_others k other in record { replaced = r.replaced; limbo = r.limbo });
    scan_self = (let r = f.scan_self in record { replaced = r.replaced; limbo = r.limbo });
    scanned = f.scanned;
    writes = (let r = f.writes in record { recorded = r.recorded; running = r.running });
    writes_once = f.writes_once;
    put = f.put;
    same_put = f.same_put;
    calls = (let r = f.calls in record { laid = r.laid; bases = r.bases; reading = r.reading; numbers = r.numbers; task = r.task });
    tail = f.tail;
    marks = f.marks;
    syncs = (let r = f.syncs in record { to = r.to; marks = r.marks; valid = r.valid; answered = r.answered });
  }

  pub gives_facts : Knows o (moved c left owner) n after left_ghost pin began
  gives_facts = subst (λ (stored : List Stored). Knows o (moved c left owner) n after (record g { stored = stored }) pin began) (sym stored_is)
      (subst (λ (t : Seat). Knows o (moved c left owner) n t (record g { stored = g.stored }) pin began) (sym given_is) given_facts)
