-- What a core knows of a seat stays where a step of it changes only which blocks it owns and what is known of them.
use Rattle.std.proofs.Common.{◌≡◌, ◌≢◌, [], ◌<◌, ◌≤◌, ◌+◌, ◌-◌, ℕ, Bool, true, List, length, sym, ap, ◌∙◌, subst, arith, inl, inr, ⊎_elim}
use Rattle.std.specs.List.{AllByRecursion}
use Rattle.log_entry.specs.declared.shapes.Area.{Area}
use Rattle.pmem_words.specs.declared.keeps.Task.TheVariants.{Sync}
use Rattle.pmem_words.specs.Seats.{Seat, Blocks}
use Rattle.persistence.specs.Memory.{Memory, PendingMark, cell, pending_of}
use Rattle.log_core.specs.Views.{View, Ghost, MarkedWord, Stored, view_of}
use Rattle.log_core.specs.Origin.{Origin, q_of_origin, first_generation, Owner, OwnedBy, LeftTo}
use Rattle.log_core.specs.Files.{entries}
use Rattle.log_core.specs.Cores.{Core, head_floor}
use Rattle.log_core.specs.Needs.{owned_numbers}
use Rattle.log_core.specs.Owners.{IsListOf}
use Rattle.log_core.specs.Noted.{NotedHolds}
use Rattle.log_core.specs.Owned.{OwnedHold}
use Rattle.log_core.specs.Giving.{GivingHolds}
use Rattle.log_core.specs.Records.{MarksFit}
use Rattle.log_core.specs.Synced.{SyncMarkHolds}
use Rattle.log_core.specs.Invariant.{Invariant, KeptIn, around, names_by}
use Rattle.log_core.specs.Knows.{with_seat, Knows}
use Rattle.log_core.proofs.Heads.{kept_place}
use Rattle.log_core.proofs.NotedGrown.{noted_left}
use Rattle.log_core.proofs.clauses.Leaves.{Leaves, Changes, moved, list_stays, left_apart}
use Rattle.log_core.proofs.clauses.Others.{walk_left, pin_place, floor_rises, pin_left, giving_left, notes_early, sync_marks_left}

-- the seat with other blocks, and perhaps with the head that it put in place last outlasting a crash
abbrev pub with_blocks : Seat → Blocks → Bool → Seat
with_blocks s b fenced = record s { blocks = b; giving = record (s.giving) { head_fenced = fenced } }

-- what contracts alone see of it, with other marks and stored words, and areas in which it found too few blocks
abbrev pub with_marks : Ghost → List MarkedWord → List Stored → List Area → Ghost
with_marks g marks stored lacked = record { marks = marks; stored = stored; call = record (g.call) { lacked = lacked } }

-- what has to hold of the new blocks and marks
pub record FitsBlocks (o : Origin) (n : ℕ) (v : View) (m : Memory) (owner : ℕ → Owner) (s : Seat) (g : Ghost) (b : Blocks) (fenced : Bool) (marks : List MarkedWord) (stored : List Stored) (lacked : List Area) : Type 0 where
  pub found : length b.found ≡ length s.blocks.found
  pub named : b.named ≡ s.blocks.named
  pub owns : IsListOf owner (owned_numbers b.owned) (OwnedBy n)
  pub owned : OwnedHold (λ word. cell m word) m.past m.pending n (with_marks g marks stored lacked) (with_blocks s b fenced)
  pub sure : fenced ≡ true → s.giving.replaced_generation < first_generation o + head_floor m
  pub marks_fit : MarksFit (λ word. cell m word) m.past m.pending n (with_seat v (with_blocks s b fenced) (with_marks g marks stored lacked))

-- what has to hold of the memory's marks of a sync
pub record FitsSync (o : Origin) (c : Core) (n : ℕ) (m : Memory) (s : Seat) : Type 0 where
  pub marks : s.calling.job ≡ Sync →
      AllByRecursion (SyncMarkHolds (q_of_origin o) (names_by o c.logs (entries o c.history) c.generations) (λ word. cell m word) m.past s.hold.generation) (pending_of n m.pending)
  pub valid : s.calling.job ≡ Sync → pending_of n m.pending ≢ [] → s.hold.valid ≡ true

module _ (o : Origin) (c : Core) (n : ℕ) (s : Seat) (g : Ghost) (pin began : ℕ) (m : Memory) (owner : ℕ → Owner) (inv : Invariant o c) (leaves : Leaves o c n m) (changes : Changes c n owner) (f : Knows o c n s g pin began) where
  -- a generation that is kept now was kept before
  kept_before : (place : ℕ) → KeptIn o (moved c m owner) place → KeptIn o c place
  kept_before place kept = ⊎_elim
      (λ floor. record { inside = kept.inside; why = inl (let rises = floor_rises o c n m inv leaves in omega (arith, floor, rises)) })
      (λ pin. record { inside = kept.inside; why = inr pin })
      kept.why

  from_first : s.hold.valid ≡ true → first_generation o ≤ s.hold.generation
  from_first valid = f.pin_holds.from_first (f.pin_holds.valid_some valid)

  pinned : s.hold.valid ≡ true → (place : ℕ) → s.hold.generation ≡ first_generation o + place → KeptIn o c place
  pinned valid place same = kept_place o c inv place (f.kept place valid same)

  -- the marks that a sync had are as they were
  pub marks_stay : s.calling.job ≡ Sync →
      AllByRecursion (SyncMarkHolds (q_of_origin o) (names_by o c.logs (entries o c.history) c.generations) (λ word. cell m word) m.past s.hold.generation) (pending_of n c.memory.pending)
  marks_stay sync = sync_marks_left o c n m inv leaves s (λ valid place same. pinned valid place same) from_first (pending_of n c.memory.pending) (f.syncs.valid sync) (notes_early o c n inv) (f.syncs.marks sync)

  pub notes_stay : (s.calling.job ≡ Sync → pending_of n m.pending ≡ pending_of n c.memory.pending) → FitsSync o c n m s
  notes_stay same = record {
    marks = λ sync. subst (λ (pending : List PendingMark). AllByRecursion (SyncMarkHolds (q_of_origin o) (names_by o c.logs (entries o c.history) c.generations) (λ word. cell m word) m.past s.hold.generation) pending) (sym (same sync))
        (marks_stay sync);
    valid = λ sync some. f.syncs.valid sync (λ none. some (same sync ∙ none));
  }

  module _ (b : Blocks) (fenced : Bool) (marks : List MarkedWord) (stored : List Stored) (lacked : List Area) (fits : FitsBlocks o n (view_of c.views n) m owner s g b fenced marks stored lacked) (notes : FitsSync o c n m s) where
    giving : GivingHolds (names_by o c.logs (entries o c.history) c.generations) (Rattle.log_core.specs.Cores.current o c.generations) (first_generation o + head_floor m) (with_blocks s b fenced).giving
    giving = (let r = giving_left o c n m inv leaves s.giving f.giving in record {
      replaced_past = r.replaced_past;
      replaced = r.replaced;
      limbo = r.limbo;
      replaced_sure = fits.sure;
      limbo_sure = r.limbo_sure;
    })

    pub set_blocks : Knows o (moved c m owner) n (with_blocks s b fenced) (with_marks g marks stored lacked) pin began
    set_blocks = record {
      fits = λ some. (let r = f.fits some in record { number = r.number; seats = r.seats; geometry = r.geometry; first = r.first; found = fits.found ∙ r.found; named = ap (λ (words : List ℕ). length words) fits.named ∙ r.named; map = r.map });
      kept = f.kept;
      owns = record { owned = fits.owns; left = list_stays c n owner changes _ (LeftTo n) (left_apart n n) f.owns.left };
      pin_is = f.pin_is;
      pin_holds = pin_left o c n m inv leaves s.hold f.pin_holds;
      walk = λ some. walk_left o c n m inv leaves c.views owner c.began kept_before s.hold s.walk
          (λ valid. pinned valid (s.hold.generation - first_generation o) (pin_place o c n m inv leaves s.hold.generation (from_first valid))) (f.walk some);
      noted = λ some. subst (λ (words : List ℕ). NotedHolds (around o (moved c m owner)) s.hold s.walk s.calling words) (sym fits.named)
          (noted_left (around o c) (λ place. KeptIn o (moved c m owner) place) s.hold s.walk s.calling s.blocks.named kept_before (f.noted some));
      owned = fits.owned;
      giving = giving;
      scan_others = λ k other. (let r = f.scan_others k other in record { replaced = r.replaced; limbo = r.limbo });
      scan_self = (let r = f.scan_self in record { replaced = r.replaced; limbo = r.limbo });
      scanned = f.scanned;
      writes = (let r = f.writes in record { recorded = r.recorded; running = r.running });
      writes_once = f.writes_once;
      put = f.put;
      same_put = f.same_put;
      calls = (let r = f.calls in record { laid = r.laid; bases = r.bases; reading = r.reading; numbers = r.numbers; task = r.task });
      tail = f.tail;
      marks = fits.marks_fit;
      syncs = record { to = f.syncs.to; marks = notes.marks; valid = notes.valid; answered = f.syncs.answered };
    }
