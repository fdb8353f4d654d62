-- What a core knows of the seat that puts a word more into the last log block: its walk, its call and its blocks are others then.
use Rattle.std.proofs.Common.{◌≡◌, ◌≢◌, ◌≤◌, ◌-◌, ◌&&◌, not, if◌then◌else◌, ℕ, Bool, true, false, List, [], length, refl, sym, ◌∙◌, ap, subst, arith, inl, inr, ⊎_elim, slice_index, Some}
use Rattle.std.proofs.lemmas.Bool.{and_parts}
use Rattle.log_image.specs.Chains.{is_listed}
use Rattle.pmem_words.specs.Owned.{owned_but}
use Rattle.pmem_words.specs.declared.owned.OwnedBlock.{OwnedBlock}
use Rattle.pmem_words.specs.Seats.{Seat, Walk, Calling, Blocks}
use Rattle.persistence.specs.Memory.{cell}
use Rattle.log_core.specs.Views.{Ghost, Stored, view_of}
use Rattle.log_core.specs.Origin.{Origin, first_generation, InChain, OwnedBy, LeftTo}
use Rattle.log_core.specs.Cores.{Core}
use Rattle.log_core.specs.Needs.{owned_numbers}
use Rattle.log_core.specs.Owners.{IsListOf}
use Rattle.log_core.specs.Owned.{OwnedHold}
use Rattle.log_core.specs.Walks.{WalkHolds}
use Rattle.log_core.specs.Noted.{NotedHolds}
use Rattle.log_core.specs.Records.{WritesFit, WritesOnce, PutFits, CallHolds, TailHolds}
use Rattle.log_core.specs.Invariant.{Invariant, KeptIn, around}
use Rattle.log_core.specs.Knows.{with_seat, Knows}
use Rattle.log_core.proofs.BlockLists.{has_filter, different_filter, numbers_but}
use Rattle.log_core.proofs.Heads.{kept_place}
use Rattle.log_core.proofs.clauses.OwnedPlaces.{owning}
use Rattle.log_core.proofs.clauses.Growth.{Growth, Grows, joined, grown, owner_grown}
use Rattle.log_core.proofs.clauses.GrownWords.{floor_same}
use Rattle.log_core.proofs.clauses.GrownNames.{owner_was, joined_owner, list_same}
use Rattle.log_core.proofs.clauses.GrownWalks.{walk_grown}
use Rattle.log_core.proofs.clauses.GrownNoted.{noted_grown}
use Rattle.log_core.proofs.clauses.GrownOthers.{giving_grown, pin_grown, marks_grown, sync_grown}

module _ (o : Origin) (c : Core) (x : Growth) (inv : Invariant o c) (grows : Grows o c x) where
  -- the owned blocks without those that are put into the chain
  pub owns_left : (leaves : ℕ → Bool) → ((block : ℕ) → leaves block ≡ is_listed (joined x) block) → (owned : List OwnedBlock) → IsListOf c.owner (owned_numbers owned) (OwnedBy x.n) →
      IsListOf (λ block. owner_grown c x block) (owned_numbers (owned_but leaves owned)) (OwnedBy x.n)
  owns_left leaves same owned list = subst (λ (blocks : List ℕ). IsListOf (λ block. owner_grown c x block) blocks (OwnedBy x.n)) (sym (numbers_but leaves owned)) (record {
    listed = λ block some. (let parts = and_parts (not (leaves block)) (is_listed (owned_numbers owned) block) (sym (has_filter (λ (other : ℕ). not (leaves other)) (owned_numbers owned) block) ∙ some) in
        stays block (is_listed (joined x) block) refl (ap (λ (b : Bool). not b) (sym (same block)) ∙ parts.0) (list.listed block parts.1));
    all = λ block is. has_filter (λ (other : ℕ). not (leaves other)) (owned_numbers owned) block
        ∙ (ap (λ (b : Bool). not b && is_listed (owned_numbers owned) block) (same block)
        ∙ left_in block (is_listed (joined x) block) refl is (list.all block (owner_was o c x inv grows block (OwnedBy x.n) (λ e. cc) is)));
    once = different_filter (λ (other : ℕ). not (leaves other)) (owned_numbers owned) list.once;
  })
    where
      stays : (block : ℕ) (b : Bool) → is_listed (joined x) block ≡ b → not b ≡ true → c.owner block ≡ OwnedBy x.n → owner_grown c x block ≡ OwnedBy x.n
      stays block true e none was = cc
      stays block false e none was = ap (λ (b : Bool). if b then InChain else c.owner block) e ∙ was

      left_in : (block : ℕ) (b : Bool) → is_listed (joined x) block ≡ b → owner_grown c x block ≡ OwnedBy x.n → is_listed (owned_numbers owned) block ≡ true → (not b && is_listed (owned_numbers owned) block) ≡ true
      left_in block true e is listed = (let both : InChain ≡ OwnedBy x.n = sym (joined_owner o c x inv grows block e) ∙ is in cc)
      left_in block false e is listed = listed

  -- generations that are kept then were kept before
  pub kept_then : (place : ℕ) → KeptIn o (grown c x) place → KeptIn o c place
  kept_then place kept = record {
    inside = kept.inside;
    why = ⊎_elim (λ floor. inl (let same = floor_same o c x inv grows in omega (arith, floor, same))) (λ pin. inr pin) kept.why;
  }

  module _ (s : Seat) (g : Ghost) (pin began : ℕ) (f : Knows o c x.n s g pin began) where
    -- the state with another walk, call and blocks, and the ghost with other stored words
    abbrev pub seat_grown : Walk → Calling → Blocks → Seat
    seat_grown walk calling blocks = record s { walk = walk; calling = calling; blocks = blocks }

    abbrev pub ghost_grown : List Stored → Ghost
    ghost_grown stored = record g { stored = stored }

    pinned : s.hold.valid ≡ true → KeptIn o c (s.hold.generation - first_generation o)
    pinned valid = kept_place o c inv (s.hold.generation - first_generation o)
        (f.kept (s.hold.generation - first_generation o) valid (let low = f.pin_holds.from_first (f.pin_holds.valid_some valid) in omega (arith, low)))

    -- the walk where it stands
    pub walk_same : (view_of c.views x.n).parts ≢ [] → WalkHolds (around o (grown c x)) s.hold s.walk
    walk_same some = walk_grown o c x inv grows c.views c.began kept_then s.hold pinned s.walk (f.walk some)

    -- and what it has noted
    pub noted_same : (view_of c.views x.n).parts ≢ [] → NotedHolds (around o (grown c x)) s.hold s.walk s.calling s.blocks.named
    noted_same some = noted_grown o c x inv grows c.views c.began kept_then s.hold s.walk s.calling s.blocks.named (f.walk some) (f.noted some)

    pub record FitsGrown (walk : Walk) (calling : Calling) (blocks : Blocks) (stored : List Stored) : Type 0 where
      pub found : length blocks.found ≡ length s.blocks.found
      pub named : length blocks.named ≡ length s.blocks.named
      pub map : (view_of c.views x.n).parts ≢ [] → length walk.map ≡ 65536
      pub owns : IsListOf (λ block. owner_grown c x block) (owned_numbers blocks.owned) (OwnedBy x.n)
      pub owned : OwnedHold (λ word. cell x.memory word) x.memory.past x.memory.pending x.n (ghost_grown stored) (owning s blocks)
      pub walks : (view_of c.views x.n).parts ≢ [] → WalkHolds (around o (grown c x)) s.hold walk
      pub noted : (view_of c.views x.n).parts ≢ [] → NotedHolds (around o (grown c x)) s.hold walk calling blocks.named
      pub writes : WritesFit o x.history (with_seat (view_of c.views x.n) (seat_grown walk calling blocks) (ghost_grown stored))
      pub writes_once : WritesOnce o x.history (with_seat (view_of c.views x.n) (seat_grown walk calling blocks) (ghost_grown stored))
      pub put : PutFits o c.generations (with_seat (view_of c.views x.n) (seat_grown walk calling blocks) (ghost_grown stored))
      pub calls : CallHolds o x.history (with_seat (view_of c.views x.n) (seat_grown walk calling blocks) (ghost_grown stored))
      pub tail : TailHolds (with_seat (view_of c.views x.n) (seat_grown walk calling blocks) (ghost_grown stored)) began
      pub to : (position : ℕ) → calling.sync_to ≡ Some position → (position ≡ walk.position) × (position ≤ c.synced)
      pub job : calling.job ≡ s.calling.job

    -- what a core knows of the seat then
    pub grown_knows : (walk : Walk) (calling : Calling) (blocks : Blocks) (stored : List Stored) → FitsGrown walk calling blocks stored → slice_index x.memory.now.pins x.n ≡ pin →
        Knows o (grown c x) x.n (seat_grown walk calling blocks) (ghost_grown stored) (slice_index x.memory.now.pins x.n) began
    grown_knows walk calling blocks stored fits same_pin = record {
      fits = λ some. (let r = f.fits some in record { number = r.number; seats = r.seats; geometry = r.geometry; first = r.first; found = fits.found ∙ r.found; named = fits.named ∙ r.named; map = fits.map some });
      kept = f.kept;
      owns = record { owned = fits.owns; left = list_same o c x inv grows _ (LeftTo x.n) (λ e. cc) (λ e. cc) f.owns.left };
      pin_is = same_pin ∙ f.pin_is;
      pin_holds = pin_grown o c x inv grows s.hold f.pin_holds;
      walk = fits.walks;
      noted = fits.noted;
      owned = (let r = fits.owned in record {
        contents = r.contents;
        areas = r.areas;
        stored = r.stored;
        filled = λ place inside filled. (let q = r.filled place inside filled in record { owned = q.owned; each = q.each });
        fenced = r.fenced;
      });
      giving = giving_grown o c x inv grows x.n s.giving f.owns.left f.giving;
      scan_others = f.scan_others;
      scan_self = f.scan_self;
      scanned = f.scanned;
      writes = fits.writes;
      writes_once = fits.writes_once;
      put = fits.put;
      same_put = f.same_put;
      calls = fits.calls;
      tail = fits.tail;
      marks = marks_grown o c x inv grows x.n (with_seat (view_of c.views x.n) s g) f.marks;
      syncs = (let r = sync_grown o c x inv grows x.n (with_seat (view_of c.views x.n) s g) pinned f.syncs in record {
        to = fits.to;
        marks = λ sync. r.marks (sym fits.job ∙ sync);
        valid = λ sync some. r.valid (sym fits.job ∙ sync) some;
        answered = r.answered;
      });
    }
