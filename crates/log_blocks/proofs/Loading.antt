-- A load of a word of the pinned chain: what it makes of the seat, and when a machine that makes it is lawful.
use Rattle.std.proofs.Common.{◌≡◌, ◌≢◌, ◌<◌, ◌≤◌, ◌+◌, ◌*◌, ◌/◌, ◌%◌, ◌==◌, ◌||◌, ℕ, Bool, true, false, if◌then◌else◌, List, [], ◌∷◌, ◌++◌, length, refl, sym, ◌∙◌, ap, subst, arith, slice_index}
use Rattle.std.proofs.lemmas.Bool.{ne_eqb}
use Rattle.std.proofs.lemmas.Nat.{div-mul-add, mod-mul-add}
use Rattle.std.proofs.Math.Nat.{mul-le-mul}
use Rattle.std.specs.List.{list_all}
use Rattle.log_entry.specs.declared.calls.Call.{Call}
use Rattle.log_image.specs.Image.{words_in}
use Rattle.asks.specs.declared.ask.Ask.{Ask}
use Rattle.asks.specs.declared.ask.Ask.TheVariants.{Load}
use Rattle.asks.specs.declared.ask.Place.TheVariants.{Image}
use Rattle.pmem_words.specs.declared.machine.Turn.TheVariants.{Go, Done}
use Rattle.pmem_words.specs.Seats.{Seat, q_of}
use Rattle.pmem_words.specs.Scripts.{After, Script}
use Rattle.persistence.specs.Memory.{found_answer}
use Rattle.log_core.specs.Entries.{place_in, head_place}
use Rattle.log_core.specs.Views.{Ghost, view_of}
use Rattle.log_core.specs.Origin.{Origin, shape, q_of_origin, Owner, Header}
use Rattle.log_core.specs.Files.{entries}
use Rattle.log_core.specs.Cores.{Core, generation_at, is_named}
use Rattle.log_core.specs.Contents.{IsStillTaken}
use Rattle.log_core.specs.Works.{Work, MayWorkAll, state_after_all_work, is_going_on, seat_shape, words_of}
use Rattle.log_core.specs.Steps.{Kind, LoadsHead, LoadsImageWord, kind_of_ask, effect, ghost_after, is_tail_found}
use Rattle.log_core.specs.May.{May, MayLoadImageWord}
use Rattle.log_core.specs.Invariant.{Invariant}
use Rattle.log_core.specs.Knows.{Knows}
use Rattle.log_core.specs.Within.{no_record, adds_at, seat_found, ghost_found, IsFound, Lawful}
use Rattle.log_core.specs.Answers.{Enters}
use Rattle.log_core.proofs.PinnedChains.{place, kept}
use Rattle.log_core.proofs.kinds.LoadsImageWord.{image_facts}
use Rattle.log_core.proofs.machines.Entering.{none_at, enters_works}

-- what is known holds also without a bound on the end at the call's first step
pub known_from_zero : (o : Origin) (c : Core) (n : ℕ) (s : Seat) (g : Ghost) (pin began : ℕ) → Knows o c n s g pin began → Knows o c n s g pin 0
known_from_zero o c n s g pin began f = record {
  fits = f.fits;
  kept = f.kept;
  owns = f.owns;
  pin_is = f.pin_is;
  pin_holds = f.pin_holds;
  walk = f.walk;
  noted = f.noted;
  owned = f.owned;
  giving = f.giving;
  scan_others = f.scan_others;
  scan_self = f.scan_self;
  scanned = f.scanned;
  writes = f.writes;
  writes_once = f.writes_once;
  put = f.put;
  same_put = f.same_put;
  calls = f.calls;
  tail = λ at. (let t = f.tail at in record { walked = t.walked; from_first = t.from_first; begun = omega arith; records = t.records });
  marks = f.marks;
  syncs = f.syncs;
}

-- what each core that knows the seat so gives, a machine may be lawful by
module _ {M Out : Type 0} (o : Origin) (seat : ℕ) (script : Script M Out) (rec : Out → Seat → List Call) (P : M → Seat → Ghost → Type 0) (R : Out → Seat → Ghost → Type 0) (m : M) (s : Seat) (g : Ghost) where
  pub lawful_known : ((c : Core) (pin began : ℕ) → Invariant o c → (view_of c.views seat).parts ≢ [] → Knows o c seat s g pin began → Lawful o seat script rec P R m s g) → Lawful o seat script rec P R m s g
  lawful_known known = record {
    may = λ c pin began inv unspent knows. (known c pin began inv unspent knows).may c pin began inv unspent knows;
    admitted = λ c pin began inv unspent knows. (known c pin began inv unspent knows).admitted c pin began inv unspent knows;
    enters = λ f found. (known found.core found.pin found.began found.holds found.unspent found.knows).enters f found;
    goes = λ f found. (known found.core found.pin found.began found.holds found.unspent found.knows).goes f found;
    ends = λ f out found. (known found.core found.pin found.began found.holds found.unspent found.knows).ends f out found;
  }

-- a state comes from an earlier one by these computations of a call
pub record IsComputed (g : Ghost) (e : Seat) (works : List Work) (t : Seat) : Type 0 where
  pub may : MayWorkAll g e works
  pub going_on : list_all is_going_on works ≡ true
  pub gives : t ≡ state_after_all_work e works

-- where the word is not the empty tail, the view has found none with it
pub no_tail : (at_tail found : Bool) → found ≡ false → (at_tail || found) ≡ at_tail
no_tail true found none = refl
no_tail false found none = none

module _ (o : Origin) (seat : ℕ) (s : Seat) (g : Ghost) (block slot : ℕ) where
  -- the pinned generation names the block in each core that knows the seat so
  abbrev pub NamesAlways : Type 0
  NamesAlways = (c : Core) (pin began : ℕ) → Invariant o c → (view_of c.views seat).parts ≢ [] → Knows o c seat s g pin began →
      is_named o c.logs (entries o c.history) (generation_at o c.generations s.hold.generation) block ≡ true

  abbrev pub at_place : ℕ
  at_place = place_in (seat_shape s) block slot

  -- the word is kept, and the view may have found its tail
  abbrev pub seen : ℕ → Seat
  seen f = record s { walk = record s.walk { kept = s.walk.kept ++ record { block = block; slot = slot; word = f } ∷ []; at_tail = s.walk.at_tail || is_tail_found s at_place f } }

  module _ (valid : s.hold.valid ≡ true) (inside : slot < words_of s) (named : NamesAlways) where
    in_block : at_place / words_of s ≡ block
    in_block = div-mul-add block (words_of s) slot inside

    in_slot : at_place % words_of s ≡ slot
    in_slot = mod-mul-add block (words_of s) slot inside

    effect_is : (f : ℕ) → effect g.marks s (LoadsImageWord at_place) f ≡ seen f
    effect_is f = ap (λ (b : ℕ). record s { walk = record s.walk { kept = s.walk.kept ++ record { block = b; slot = at_place % words_of s; word = f } ∷ []; at_tail = s.walk.at_tail || is_tail_found s at_place f } }) in_block
        ∙ ap (λ (k : ℕ). record s { walk = record s.walk { kept = s.walk.kept ++ record { block = block; slot = k; word = f } ∷ []; at_tail = s.walk.at_tail || is_tail_found s at_place f } }) in_slot

    module _ (c : Core) (pin began : ℕ) (inv : Invariant o c) (unspent : (view_of c.views seat).parts ≢ []) (knows : Knows o c seat s g pin began) where
      same_words : words_of s ≡ words_in (shape o)
      same_words = ap q_of (knows.fits unspent).geometry

      -- a block of a chain is not the header
      no_header : block ≢ 0
      no_header none = by_owner (subst (λ (whose : Owner). IsStillTaken whose) (ap c.owner none ∙ inv.owners.bits.header)
          ((inv.contents (place o c seat s g pin began inv knows valid) (kept o c seat s g pin began inv knows valid)).taken block (named c pin began inv unspent knows)))
        where
          by_owner : IsStillTaken Header → ⊥
          by_owner (Rattle.std.proofs.Common.inl chain) = cc
          by_owner (Rattle.std.proofs.Common.inr left) = (let e = left.1 in cc)

      no_head : at_place ≢ head_place
      no_head same = (let wide = inv.sizes.image.wide in
          let q = same_words in
          let some = no_header in
          let low : 1 * words_of s ≤ block * words_of s = mul-le-mul (let one : 1 ≤ block = omega (arith, some) in one) (let all : words_of s ≤ words_of s = omega arith in all) in
          omega (arith, wide, q, low, same))

      kind_known : kind_of_ask (q_of_origin o) seat (Load (Image at_place)) ≡ LoadsImageWord at_place
      kind_known = ap (λ (b : Bool). if b then LoadsHead else LoadsImageWord at_place) (ne_eqb at_place head_place no_head)

      may_image : MayLoadImageWord s (λ b. is_named o c.logs (entries o c.history) (generation_at o c.generations s.hold.generation) b) at_place
      may_image = record { valid = valid; named = subst (λ (b : ℕ). is_named o c.logs (entries o c.history) (generation_at o c.generations s.hold.generation) b ≡ true) (sym in_block) (named c pin began inv unspent knows) }

      may_known : May o c g s (kind_of_ask (q_of_origin o) seat (Load (Image at_place)))
      may_known = subst (λ (k : Kind). May o c g s k) (sym kind_known) may_image

      -- and what is known then
      pub knows_seen : (f : ℕ) → found_answer c.memory (Load (Image at_place)) ≡ f → Knows o c seat (seen f) g pin 0
      knows_seen f is = subst (λ (value : ℕ). Knows o c seat (seen value) g pin 0) is
          (subst (λ (t : Seat). Knows o c seat t g pin 0) (effect_is (slice_index c.memory.now.words at_place))
          (image_facts o c seat s g pin 0 at_place inv (known_from_zero o c seat s g pin began knows) unspent may_image (omega arith)))

    -- a machine that loads it is lawful where it admits what may be found, and what it makes of the seat is what is computed with that
    module _ {M Out : Type 0} (script : Script M Out) (P : M → Seat → Ghost → Type 0) (R : Out → Seat → Ghost → Type 0) (m : M) (asks : script.asks m s ≡ Load (Image at_place)) (works : ℕ → List Work)
        (told : ℕ → After M Out) (after : (f : ℕ) → script.after m s f ≡ told f) where
      abbrev pub Found : ℕ → Type 0
      Found f = IsFound o seat s g (Load (Image at_place)) f

      pub lawful_load : ((c : Core) (pin began : ℕ) → Invariant o c → (view_of c.views seat).parts ≢ [] → Knows o c seat s g pin began → script.admits m s (found_answer c.memory (Load (Image at_place))))
          → ((f : ℕ) → Found f → script.admits m s f → IsComputed g (seen f) (works f) (told f).seat)
          → ((f : ℕ) → Found f → script.admits m s f → (told f).turn ≡ Go → P (told f).machine (told f).seat g)
          → ((f : ℕ) (out : Out) → Found f → script.admits m s f → (told f).turn ≡ Done out → R out (told f).seat g)
          → Lawful o seat script no_record P R m s g
      lawful_load admitted computed goes ends = record {
        may = λ c pin began inv unspent knows. subst (λ (ask : Ask). May o c g s (kind_of_ask (q_of_origin o) seat ask)) (sym asks) (may_known c pin began inv unspent knows);
        admitted = λ c pin began inv unspent knows. subst (λ (ask : Ask). script.admits m s (found_answer c.memory ask)) (sym asks) (admitted c pin began inv unspent knows);
        enters = λ f found admits. (let here = by_ask f found in
            subst (λ (r : After M Out). Enters (ghost_found o seat (script.asks m s) s g f) (seat_found o seat (script.asks m s) s g f) r.seat (adds_at no_record r.seat r.turn)) (sym (after f))
            (subst (λ (k : Kind). Enters (ghost_after g s (effect g.marks s k f) k f) (effect g.marks s k f) (told f).seat (adds_at no_record (told f).seat (told f).turn)) (sym (kind_found f here))
            (subst (λ (e : Seat). Enters g e (told f).seat (adds_at no_record (told f).seat (told f).turn)) (sym (effect_is f))
            (subst (λ (adds : List Call). Enters g (seen f) (told f).seat adds) (sym (none_at (told f).seat (told f).turn))
            (let is = computed f here admits in
            subst (λ (t : Seat). Enters g (seen f) t []) (sym is.gives) (enters_works g (seen f) (works f) is.may is.going_on))))));
        goes = λ f found admits. (let here = by_ask f found in
            subst (λ (h : Ghost). (script.after m s f).turn ≡ Go → P (script.after m s f).machine (script.after m s f).seat h) (sym (ghost_same f here))
            (subst (λ (r : After M Out). r.turn ≡ Go → P r.machine r.seat g) (sym (after f)) (goes f here admits)));
        ends = λ f out found admits. (let here = by_ask f found in
            subst (λ (h : Ghost). (script.after m s f).turn ≡ Done out → R out (script.after m s f).seat h) (sym (ghost_same f here))
            (subst (λ (r : After M Out). r.turn ≡ Done out → R out r.seat g) (sym (after f)) (ends f out here admits)));
      }
        where
          by_ask : (f : ℕ) → IsFound o seat s g (script.asks m s) f → Found f
          by_ask f found = subst (λ (ask : Ask). IsFound o seat s g ask f) asks found

          kind_found : (f : ℕ) → Found f → kind_of_ask (q_of_origin o) seat (script.asks m s) ≡ LoadsImageWord at_place
          kind_found f found = ap (λ (ask : Ask). kind_of_ask (q_of_origin o) seat ask) asks ∙ kind_known found.core found.pin found.began found.holds found.unspent found.knows

          ghost_same : (f : ℕ) → Found f → ghost_found o seat (script.asks m s) s g f ≡ g
          ghost_same f found = ap (λ (k : Kind). ghost_after g s (effect g.marks s k f) k f) (kind_found f found)
