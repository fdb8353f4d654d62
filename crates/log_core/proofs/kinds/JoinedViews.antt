-- The views after a join: that of the seat that stays, the spent one and the others; how many they are, and whose blocks they have.
use Rattle.std.proofs.Common.{◌≡◌, ◌≢◌, ◌<◌, ◌≤◌, ◌+◌, inl, inr, ⊎_elim, ℕ, Bool, true, false, nat_lt, List, [], ◌∷◌, ◌++◌, length, refl, sym, ◌∙◌, subst, arith, slice_set}
use Rattle.std.specs.List.{AllByRecursion}
use Rattle.std.proofs.lemmas.Bool.{false≢true, false_from_ne_true}
use Rattle.std.proofs.lemmas.List.{length-set}
use Rattle.pmem_words.specs.Seats.{Seat, Hold}
use Rattle.persistence.specs.Memory.{PendingMark, cell}
use Rattle.log_core.specs.Entries.{head_place}
use Rattle.log_core.specs.Views.{View, view_of, spent_view}
use Rattle.log_core.specs.Origin.{Origin, first_generation, Owner, OwnedBy, LeftTo}
use Rattle.log_core.specs.Cores.{Core, current, IsPinned}
use Rattle.log_core.specs.Sizes.{SeatFits, Sizes}
use Rattle.log_core.specs.Needs.{owned_numbers}
use Rattle.log_core.specs.Owners.{SeatOwns, IsListOf}
use Rattle.log_core.specs.Pins.{PinHolds}
use Rattle.log_core.specs.Steps.{walk_of, view_joined}
use Rattle.log_core.specs.After.{owner_joined}
use Rattle.log_core.specs.Runs.{MayJoin}
use Rattle.log_core.specs.Invariant.{Invariant, KeptIn}
use Rattle.log_core.proofs.clauses.OneView.{each_set}
use Rattle.log_core.proofs.clauses.JoinedOwners.{joined_list, left_list, both_list, spent_list}

module _ (o : Origin) (c : Core) (seat other : ℕ) (inv : Invariant o c) (may : MayJoin c seat other) where
  abbrev v : View
  v = view_of c.views seat

  abbrev u : View
  u = view_of c.views other

  abbrev joined : View
  joined = view_joined v u

  abbrev views : List View
  views = slice_set (slice_set c.views seat joined) other spent_view

  abbrev owner : ℕ → Owner
  owner block = owner_joined seat other (c.owner block)

  abbrev new : Core
  new = record c { views = views; owner = λ block. owner_joined seat other (c.owner block) }

  abbrev further : Bool
  further = nat_lt v.seat.walk.position u.seat.walk.position

  pub count : length views ≡ length c.views
  count = length-set (slice_set c.views seat joined) other spent_view ∙ length-set c.views seat joined

  pub other_here : other < length (slice_set c.views seat joined)
  other_here = (let same = length-set c.views seat joined in let here = may.made_too in omega (arith, same, here))

  -- a fact of each view, by that of the two that a join writes
  pub each_joined : (P : ℕ → View → Type 0) → P seat joined → P other spent_view → ((k : ℕ) → k ≢ seat → k ≢ other → P k (view_of c.views k)) → (k : ℕ) → P k (view_of views k)
  each_joined P stays spent others = each_set P (slice_set c.views seat joined) other spent_view other_here spent
      (λ k not_other. each_set (λ (j : ℕ) (w : View). j ≢ other → P j w) c.views seat joined may.made (λ apart. stays) (λ j not_seat apart. others j not_seat apart) k not_other)

  -- no pin of the two is valid
  pub unpinned : (h : Hold) → PinHolds (first_generation o) (current o c.generations) (cell c.memory head_place) h → h.pin ≡ 0 → h.valid ≡ false
  unpinned h holds none = false_from_ne_true h.valid (λ valid. holds.valid_some valid (sym (holds.valid_is valid) ∙ none))

  pub seat_unpinned : v.seat.hold.valid ≡ false
  seat_unpinned = unpinned v.seat.hold (inv.pins.holds seat) may.idle.unpinned

  pub other_unpinned : u.seat.hold.valid ≡ false
  other_unpinned = unpinned u.seat.hold (inv.pins.holds other) may.idle_too.unpinned

  pub never_valid : {P : Type 0} → v.seat.hold.valid ≡ true → P
  never_valid {P} valid = absurd (false≢true (sym seat_unpinned ∙ valid))

  pinned_before : (place k : ℕ) → (view_of views k).seat.hold.valid ≡ true → (view_of views k).seat.hold.generation ≡ first_generation o + place → IsPinned o c.views place
  pinned_before place = each_joined (λ (k : ℕ) (w : View). w.seat.hold.valid ≡ true → w.seat.hold.generation ≡ first_generation o + place → IsPinned o c.views place)
      (λ valid same. never_valid valid) (λ valid same. absurd (false≢true valid)) (λ k not_seat not_other valid same. record { seat = k; valid = valid; same = same })

  pub kept_before : (place : ℕ) → KeptIn o new place → KeptIn o c place
  kept_before place kept = record { inside = kept.inside; why = ⊎_elim (λ floor. inl floor) (λ pin. inr (pinned_before place pin.seat pin.valid pin.same)) kept.why }

  pub fits : SeatFits o seat v
  fits = inv.sizes.each seat may.made may.unspent

  fits_too : SeatFits o other u
  fits_too = inv.sizes.each other may.made_too may.unspent_too

  -- some part is left
  pub parts_left : joined.parts ≢ []
  parts_left = some v.parts may.unspent
    where
      some : (parts : List ℕ) → parts ≢ [] → parts ++ u.parts ≢ []
      some [] none = absurd (none refl)
      some (part ∷ parts) none = λ e. cc

  map_long : (b : Bool) → length (walk_of b v.seat.walk u.seat.walk).map ≡ 65536
  map_long true = fits_too.map
  map_long false = fits.map

  pub sizes : Sizes o c.memory views c.began
  sizes = record {
    seats = inv.sizes.seats;
    image = inv.sizes.image;
    words = (let r = inv.sizes.words in record {
      words = r.words;
      taken = r.taken;
      pins = r.pins;
      floors = r.floors;
      reached = r.reached;
      small = r.small;
      small_past = r.small_past;
      pending = subst (λ (k : ℕ). AllByRecursion (λ (note : PendingMark). (note.seat < k) × (note.word < length o.words) × (note.time ≤ length c.memory.past)) c.memory.pending) (sym count) r.pending;
    });
    some = subst (λ (k : ℕ). 0 < k) (sym count) inv.sizes.some;
    few = subst (λ (k : ℕ). k ≤ o.seats) (sym count) inv.sizes.few;
    begun = inv.sizes.begun ∙ sym count;
    made = λ some. subst (λ (k : ℕ). (view_of views 0).made ≡ k) (sym count)
        (each_joined (λ (k : ℕ) (w : View). k ≡ 0 → w.parts ≢ [] → w.made ≡ length c.views)
        (λ zero_is parts. (let all = subst (λ (k : ℕ). (view_of c.views k).parts ≢ [] → (view_of c.views k).made ≡ length c.views) (sym zero_is) inv.sizes.made may.unspent in let few = inv.sizes.few_made other in omega (arith, all, few)))
        (λ zero_is none. absurd (none refl))
        (λ k not_seat not_other zero_is parts. subst (λ (j : ℕ). (view_of c.views j).parts ≢ [] → (view_of c.views j).made ≡ length c.views) (sym zero_is) inv.sizes.made parts) 0 refl some);
    few_made = λ number. subst (λ (k : ℕ). (view_of views number).made ≤ k) (sym count)
        (each_joined (λ (k : ℕ) (w : View). w.made ≤ length c.views) (let first = inv.sizes.few_made seat in let second = inv.sizes.few_made other in omega (arith, first, second)) (omega arith) (λ k not_seat not_other. inv.sizes.few_made k) number);
    spent = each_joined (λ (k : ℕ) (w : View). w.parts ≡ [] → w ≡ spent_view) (λ none. absurd (parts_left none)) (λ none. refl) (λ k not_seat not_other. inv.sizes.spent k);
    each = λ number inside. each_joined (λ (k : ℕ) (w : View). k < length c.views → w.parts ≢ [] → SeatFits o k w)
        (λ low some. record { number = fits.number; seats = fits.seats; geometry = fits.geometry; first = fits.first; found = fits.found; named = fits.named; map = map_long further })
        (λ low none. absurd (none refl)) (λ k not_seat not_other low some. inv.sizes.each k low some) number (subst (λ (k : ℕ). number < k) count inside);
  }

  pub owns : (k : ℕ) → SeatOwns owner k (view_of views k).seat
  owns = each_joined (λ (k : ℕ) (w : View). SeatOwns owner k w.seat)
      (record {
        owned = joined_list seat other may.apart c.owner (owned_numbers v.seat.blocks.owned) (OwnedBy seat) (λ n e. cc) (inv.owners.seats seat).owned;
        left = subst (λ (blocks : List ℕ). IsListOf owner (blocks ++ (v.seat.giving.limbo ++ u.seat.giving.limbo)) (LeftTo seat)) (sym may.idle.nothing_replaced)
            (both_list seat other may.apart c.owner v.seat.giving.limbo u.seat.giving.limbo (limbo_of seat v.seat may.idle.nothing_replaced (inv.owners.seats seat)) (limbo_of other u.seat may.idle_too.nothing_replaced (inv.owners.seats other)));
      })
      (record {
        owned = joined_list seat other may.apart c.owner [] (OwnedBy other) (λ n e. cc) (subst (λ (owned : List Rattle.pmem_words.specs.declared.owned.OwnedBlock.OwnedBlock). IsListOf c.owner (owned_numbers owned) (OwnedBy other)) may.idle_too.nothing_owned (inv.owners.seats other).owned);
        left = spent_list seat other may.apart c.owner;
      })
      (λ k not_seat not_other. record {
        owned = joined_list seat other may.apart c.owner (owned_numbers (view_of c.views k).seat.blocks.owned) (OwnedBy k) (λ n e. cc) (inv.owners.seats k).owned;
        left = left_list seat other may.apart c.owner ((view_of c.views k).seat.giving.replaced ++ (view_of c.views k).seat.giving.limbo) k not_seat not_other (inv.owners.seats k).left;
      })
    where
      limbo_of : (k : ℕ) (s : Seat) → s.giving.replaced ≡ [] → SeatOwns c.owner k s → IsListOf c.owner s.giving.limbo (LeftTo k)
      limbo_of k s none r = subst (λ (blocks : List ℕ). IsListOf c.owner (blocks ++ s.giving.limbo) (LeftTo k)) none r.left
