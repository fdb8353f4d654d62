-- A look whose seat alone makes steps has seen the file at its end.
use Rattle.std.proofs.Common.{◌≡◌, ◌≢◌, ◌+◌, ◌*◌, ◌≤◌, ◌==◌, ℕ, Bool, true, false, if◌then◌else◌, List, [], refl, sym, ◌∙◌, ap, subst, arith, slice_index}
use Rattle.std.proofs.lemmas.Bool.{eqb-true, eqb-false, ne_eqb}
use Rattle.std.proofs.Math.Nat.{mul-le-mul}
use Rattle.std.proofs.lemmas.List.{set-get_or}
use Rattle.asks.specs.declared.ask.Ask.{Ask}
use Rattle.asks.specs.declared.ask.Ask.TheVariants.{Load}
use Rattle.asks.specs.declared.ask.Place.TheVariants.{Image}
use Rattle.asks.specs.SharedWords.{SharedWords, words_after}
use Rattle.pmem_words.specs.Seats.{Seat}
use Rattle.pmem_words.specs.Scripts.{After}
use Rattle.pmem_words.specs.Courses.{Course, over}
use Rattle.pmem_words.specs.Leads.{Leads}
use Rattle.pmem_words.specs.Parts.{Next, Into, End, moved, onward_at, onward}
use Rattle.pmem_words.specs.PlainWords.{plain, PlainStep}
use Rattle.pmem_words.specs.declared.machine.Turn.{Turn}
use Rattle.pmem_words.specs.declared.machine.Turn.TheVariants.{Go, Done}
use Rattle.pmem_words.proofs.LeadsLemmas.{leads_with, leads_weaker}
use Rattle.persistence.specs.Memory.{found, found_answer}
use Rattle.log_core.specs.Entries.{place_in, head_place}
use Rattle.log_core.specs.Views.{View, Ghost, view_of}
use Rattle.log_core.specs.Origin.{Origin, q_of_origin}
use Rattle.log_core.specs.Cores.{Core}
use Rattle.log_core.specs.Files.{Write, file_at, end_of}
use Rattle.log_core.specs.Works.{words_of, seat_shape, tail_index, front}
use Rattle.log_core.specs.May.{May}
use Rattle.log_core.specs.Steps.{Note, Kind, LoadsHead, LoadsImageWord, StoresOwnPin, NoKind, kind_of_ask, ghost_begun}
use Rattle.log_core.specs.After.{history_after, after}
use Rattle.log_core.specs.Invariant.{Invariant}
use Rattle.log_core.specs.Knows.{Knows}
use Rattle.log_core.specs.Within.{no_record, note_of, IsLeft}
use Rattle.log_core.specs.Alone.{IsAlone, ghost_alone}
use Rattle.log_core.proofs.BlockWords.{q_range}
use Rattle.log_core.proofs.TailEnds.{slot_last, link_last}
use Rattle.log_core.proofs.machines.OnCore.{IsReadyOn, alone, step_on, EndsOnCore, EndsOver, leads_alone, alone_plain}
use Rattle.log_core.proofs.machines.Serving.{knows_here, reached_keeps}
use Rattle.log_core.proofs.starts.StartMeets.{start_meets}
use Rattle.pins.specs.declared.pin.Pin.{Pin}
use Rattle.pins.specs.declared.pin.Pin.TheVariants.{Begin, Publish, Confirm}
use Rattle.pins.specs.declared.TheConstants.{HEAD_WORD}
use Rattle.pins.specs.Steps.{generation_in}
use Rattle.pins.specs.Pinning.{pin_script}
use Rattle.log_blocks.specs.declared.walk.Tail.{Tail}
use Rattle.log_blocks.specs.declared.walk.Walk.{Walk}
use Rattle.log_blocks.specs.declared.walk.Walk.TheVariants.{Begin as BeginWalk}
use Rattle.log_blocks.specs.Walking.{walk_script, walk_asks, block_at, word_at}
use Rattle.log_blocks.proofs.FoundTail.{tail_upto}
use Rattle.read_validate.specs.declared.look.Look.{Look}
use Rattle.read_validate.specs.declared.query.Query.{Query}
use Rattle.read_validate.specs.declared.query.Query.TheVariants.{Size, Range}
use Rattle.read_validate.specs.declared.query.Seen.{Seen}
use Rattle.read_validate.specs.declared.query.Stage.{Stage}
use Rattle.read_validate.specs.declared.query.Stage.TheVariants.{Pinning, Walking, Reading, Unpinning}
use Rattle.read_validate.specs.declared.range.ReadRange.{ReadRange}
use Rattle.read_validate.specs.Looking.{at_stage, look_of, count_in, pinned_so, walked_so, range_by, reading_so, read_so, stage_asks, stage_after, look_script}
use Rattle.read_validate.specs.LookWithin.{MayLook, HasLooked}
use Rattle.read_validate.specs.LookSees.{IsSeenIn}
use Rattle.read_validate.specs.LookAlone.{HasLookedAlone, LooksAlone}
use Rattle.read_validate.specs.Ranges.{next_mapped, reading_at, rest_of, zeros_laid, taken_of, word_laid, range_script}
use Rattle.read_validate.proofs.LookSeen.{looks_see}
use Rattle.read_validate.proofs.LookServes.{looks_within}
use Rattle.read_validate.proofs.RangeStep.{laid_seat}
use Rattle.read_validate.proofs.WalkEnds.{walk_ends}

-- what holds where a stage goes on, and where the whole ends with it
abbrev On : {C Out : Type 0} → (C → Seat → Type 0) → (Seat → Type 0) → Next C Out → Type 0
On X Y (Into m s) = X m s
On X Y (End out s) = Y s

module _ {A C OutA Out : Type 0} (inject : A → C) (next : OutA → Seat → Next C Out) (X : C → Seat → Type 0) (Y : Seat → Type 0) where
  moved_goes : (m : C) (n : Next C Out) → On X Y n → (moved m n).turn ≡ Go → X (moved m n).machine (moved m n).seat
  moved_goes m (Into c s) on go = on
  moved_goes m (End out s) on go = cc

  moved_ends : (m : C) (n : Next C Out) (out : Out) → On X Y n → (moved m n).turn ≡ Done out → Y (moved m n).seat
  moved_ends m (Into c s) out on done = cc
  moved_ends m (End other s) out on done = on

  goes_at : (m : A) (s : Seat) (t : Turn OutA) → (t ≡ Go → X (inject m) s) → ((o : OutA) → t ≡ Done o → On X Y (next o s)) → (onward_at inject next m s t).turn ≡ Go → X (onward_at inject next m s t).machine (onward_at inject next m s t).seat
  goes_at m s Go goes ends go = goes refl
  goes_at m s (Done o) goes ends go = moved_goes (inject m) (next o s) (ends o refl) go

  ends_at : (m : A) (s : Seat) (t : Turn OutA) (out : Out) → ((o : OutA) → t ≡ Done o → On X Y (next o s)) → (onward_at inject next m s t).turn ≡ Done out → Y (onward_at inject next m s t).seat
  ends_at m s Go out ends done = cc
  ends_at m s (Done o) out ends done = moved_ends (inject m) (next o s) out (ends o refl) done

  goes_onward : (r : After A OutA) → (r.turn ≡ Go → X (inject r.machine) r.seat) → ((o : OutA) → r.turn ≡ Done o → On X Y (next o r.seat)) → (onward inject next r).turn ≡ Go → X (onward inject next r).machine (onward inject next r).seat
  goes_onward r goes ends go = goes_at r.machine r.seat r.turn goes ends go

  ends_onward : (r : After A OutA) (out : Out) → ((o : OutA) → r.turn ≡ Done o → On X Y (next o r.seat)) → (onward inject next r).turn ≡ Done out → Y (onward inject next r).seat
  ends_onward r out ends done = ends_at r.machine r.seat r.turn out ends done

-- behind its walk a look stays at this position
module _ (position : ℕ) where
  abbrev AtEnd : Seat → Type 0
  AtEnd s = s.walk.position ≡ position

  abbrev StageAt : Stage → Seat → Type 0
  StageAt (Pinning p) s = Unit {0}
  StageAt (Walking p) s = Unit {0}
  StageAt (Reading p) s = AtEnd s
  StageAt (Unpinning p) s = AtEnd s

  abbrev Stood : Look → Seat → Type 0
  Stood m s = StageAt m.stage s

  reading_on : (query : Query) (end place : ℕ) (s : Seat) → AtEnd s → (b : Bool) → On Stood AtEnd (reading_so query (reading_at b end (next_mapped end place s) s) (zeros_laid end place s))
  reading_on query end place s at true = at
  reading_on query end place s at false = at

  range_on : (offset count : ℕ) (s : Seat) → AtEnd s → (none : Bool) → On Stood AtEnd (range_by none (Range offset count) offset (offset + count_in offset count s) s)
  range_on offset count s at true = at
  range_on offset count s at false = reading_on (Range offset count) (offset + count_in offset count s) offset s at (next_mapped (offset + count_in offset count s) offset s == offset + count_in offset count s)

  walked_on : (q : Query) (s : Seat) → AtEnd s → On Stood AtEnd (walked_so q s)
  walked_on Size s at = at
  walked_on (Range offset count) s at = range_on offset count s at (count_in offset count s == 0)

  -- where a walk that ends is there
  abbrev WalkAt : Stage → Seat → ℕ → Type 0
  WalkAt (Walking p) s a = (out : Tail) → (walk_script.after p s a).turn ≡ Done out → AtEnd s
  WalkAt _ s a = Unit {0}

  range_seat : (p : ReadRange) (s : Seat) (a : ℕ) → AtEnd s → AtEnd (range_script.after p s a).seat
  range_seat p s a at = ap (λ (u : Seat). u.walk.position) (laid_seat (rest_of p.end (p.place + taken_of p) (word_laid p s a)) p (zeros_laid p.end (p.place + taken_of p) (word_laid p s a))) ∙ at

  walk_seat : (p : Walk) (s : Seat) (a : ℕ) (out : Tail) → (walk_script.after p s a).turn ≡ Done out → AtEnd s → AtEnd (walk_script.after p s a).seat
  walk_seat p s a out done at = ap (λ (u : Seat). u.walk.position) (walk_ends p s a out done).seat ∙ at

  stage_goes : (q : Query) (stage : Stage) (s : Seat) (a : ℕ) → StageAt stage s → WalkAt stage s a → (stage_after q stage s a).turn ≡ Go → Stood (stage_after q stage s a).machine (stage_after q stage s a).seat
  stage_goes q (Pinning p) s a at walk go = goes_onward (λ n. at_stage q (Pinning n)) (pinned_so q) Stood AtEnd (pin_script.after p s a) (λ go. tt) (λ out done. tt) go
  stage_goes q (Walking p) s a at walk go = goes_onward (λ n. at_stage q (Walking n)) (λ (tail : Tail) (t : Seat). walked_so q t) Stood AtEnd (walk_script.after p s a) (λ go. tt) (λ out done. walked_on q (walk_script.after p s a).seat (walk_seat p s a out done (walk out done))) go
  stage_goes q (Reading p) s a at walk go = goes_onward (λ n. at_stage q (Reading n)) (read_so q) Stood AtEnd (range_script.after p s a) (λ go. range_seat p s a at) (λ out done. range_seat p s a at) go
  stage_goes q (Unpinning p) s a at walk go = cc

  stage_ends : (q : Query) (stage : Stage) (s : Seat) (a : ℕ) (out : Seen) → StageAt stage s → WalkAt stage s a → (stage_after q stage s a).turn ≡ Done out → AtEnd (stage_after q stage s a).seat
  stage_ends q (Pinning p) s a out at walk done = ends_onward (λ n. at_stage q (Pinning n)) (pinned_so q) Stood AtEnd (pin_script.after p s a) out (λ out done. tt) done
  stage_ends q (Walking p) s a out at walk done = ends_onward (λ n. at_stage q (Walking n)) (λ (tail : Tail) (t : Seat). walked_so q t) Stood AtEnd (walk_script.after p s a) out (λ tail done. walked_on q (walk_script.after p s a).seat (walk_seat p s a tail done (walk tail done))) done
  stage_ends q (Reading p) s a out at walk done = ends_onward (λ n. at_stage q (Reading n)) (read_so q) Stood AtEnd (range_script.after p s a) out (λ out done. range_seat p s a at) done
  stage_ends q (Unpinning p) s a out at walk done = at

-- the last word of a walk is found 0 at the tail, so the tail is the end
module _ (o : Origin) (c : Core) (n : ℕ) (s : Seat) (g : Ghost) (pin began : ℕ) (inv : Invariant o c) (f : Knows o c n s g pin began) (unspent : (view_of c.views n).parts ≢ []) (valid : s.hold.valid ≡ true) (ready : s.walk.ready ≡ true) where
  end_found : (closed : Bool) → (s.walk.tail_slot == words_of s) ≡ closed → slice_index c.memory.now.words (place_in (seat_shape s) s.walk.tail_block (if closed then 0 else s.walk.tail_slot)) ≡ 0 → s.walk.position ≡ end_of o c.history
  end_found true is empty = (link_last o c n s g pin began inv f unspent valid ready (eqb-true s.walk.tail_slot (words_of s) is) empty).position
  end_found false is empty = (slot_last o c n s g pin began inv f unspent valid ready
      (let upto = tail_upto o c n s g pin began inv f unspent valid ready in let other = eqb-false s.walk.tail_slot (words_of s) is in omega (arith, upto, other)) empty).position

-- the tail's word is none of the header's, so it is loaded with a valid pin
load_kind : (q seat block index : ℕ) (s : Seat) → block ≢ 0 → kind_of_ask q seat (Load (Image (place_in (seat_shape s) block index))) ≡ LoadsImageWord (place_in (seat_shape s) block index)
load_kind q seat block index s some = ap (λ (b : Bool). if b then LoadsHead else LoadsImageWord (place_in (seat_shape s) block index))
    (ne_eqb (place_in (seat_shape s) block index) head_place (λ same. (let wide = (q_range s.geometry).0 in
    let low : 1 * words_of s ≤ block * words_of s = mul-le-mul (let one : 1 ≤ block = omega (arith, some) in one) (let all : words_of s ≤ words_of s = omega arith in all) in
    omega (arith, wide, low, same))))

asks_tail : (p : Walk) (s : Seat) → p ≡ BeginWalk → s.walk.ready ≡ true → walk_asks p s ≡ Load (Image (place_in (seat_shape s) s.walk.tail_block (tail_index s)))
asks_tail p s begins ready = ap (λ (m : Walk). walk_asks m s) begins
    ∙ ap (λ (b : Bool). Load (Image (place_in (seat_shape s) (if b then s.walk.tail_block else front s) (if b then tail_index s else 1)))) ready

-- a look adds no write, and leaves image and bitmap as they are
store_silent : (b : Bool) (seat : ℕ) (history : List Write) (note : Note) (value f : ℕ) → history_after history seat note (if b then StoresOwnPin value else NoKind) f ≡ history
store_silent true seat history note value f = refl
store_silent false seat history note value f = refl

load_silent : (b : Bool) (seat : ℕ) (history : List Write) (note : Note) (word f : ℕ) → history_after history seat note (if b then LoadsHead else LoadsImageWord word) f ≡ history
load_silent true seat history note word f = refl
load_silent false seat history note word f = refl

pin_silent : (q seat : ℕ) (p : Pin) (s : Seat) (history : List Write) (note : Note) (f : ℕ) → history_after history seat note (kind_of_ask q seat (pin_script.asks p s)) f ≡ history
pin_silent q seat Begin s history note f = refl
pin_silent q seat Publish s history note f = store_silent (s.number == seat) seat history note (generation_in s.hold.head) f
pin_silent q seat Confirm s history note f = refl

stage_silent : (q seat : ℕ) (stage : Stage) (s : Seat) (history : List Write) (note : Note) (f : ℕ) → history_after history seat note (kind_of_ask q seat (stage_asks stage s)) f ≡ history
stage_silent q seat (Pinning p) s history note f = pin_silent q seat p s history note f
stage_silent q seat (Walking p) s history note f = load_silent (place_in (seat_shape s) (block_at p s) (word_at p s) == head_place) seat history note (place_in (seat_shape s) (block_at p s) (word_at p s)) f
stage_silent q seat (Reading p) s history note f = load_silent (p.word == head_place) seat history note p.word f
stage_silent q seat (Unpinning p) s history note f = store_silent (s.number == seat) seat history note 0 f

pub record HasSameWords (p q : SharedWords) : Type 0 where
  pub words : q.words ≡ p.words
  pub taken : q.taken ≡ p.taken

load_same : (p : SharedWords) (word : ℕ) → HasSameWords p (words_after p (Load (Image word)))
load_same p word = record { words = set-get_or p.words word 0; taken = refl }

pin_same : (m : Pin) (s : Seat) (p : SharedWords) → HasSameWords p (words_after p (pin_script.asks m s))
pin_same Begin s p = load_same p HEAD_WORD
pin_same Publish s p = record { words = refl; taken = refl }
pin_same Confirm s p = load_same p HEAD_WORD

stage_same : (stage : Stage) (s : Seat) (p : SharedWords) → HasSameWords p (words_after p (stage_asks stage s))
stage_same (Pinning m) s p = pin_same m s p
stage_same (Walking m) s p = load_same p (place_in (seat_shape s) (block_at m s) (word_at m s))
stage_same (Reading m) s p = load_same p m.word
stage_same (Unpinning m) s p = record { words = refl; taken = refl }

module _ (query : Query) (s0 : Seat) (p0 : SharedWords) (at : IsAlone (MayLook query) s0 p0) where
  abbrev o : Origin
  o = at.origin

  abbrev first : List Write
  first = at.core.history

  abbrev position : ℕ
  position = end_of o first

  abbrev Alone : Course Look Core
  Alone = alone o at.seat at.number look_script no_record

  abbrev Left : Seen → Seat → View → Type 0
  Left = IsLeft at.rest no_record (HasLooked query o at.seat s0 (ghost_alone (MayLook query) s0 p0 at))

  -- on a core
  pub record IsStill (m : Look) (t : Seat) (d : Core) : Type 0 where
    pub same : d.history ≡ first
    pub stood : Stood position m t

  pub record EndsStill (out : Seen) (t : Seat) (d : Core) : Type 0 where
    pub same : d.history ≡ first
    pub at_end : AtEnd position t

  walk_at : (q : Query) (stage : Stage) (t : Seat) (d : Core) (a : ℕ) → d.history ≡ first → IsReadyOn o at.seat at.number look_script no_record (at_stage q stage) t d → a ≡ found_answer d.memory (stage_asks stage t) → WalkAt position stage t a
  walk_at q (Pinning p) t d a same ready answer = tt
  walk_at q (Reading p) t d a same ready answer = tt
  walk_at q (Unpinning p) t d a same ready answer = tt
  walk_at q (Walking p) t d a same ready answer = λ out done.
      (let last = walk_ends p t a out done in
      let inv : Invariant o d = reached_keeps o (start_meets o at.start) d ready.reached in
      let knows = knows_here o (start_meets o at.start) at.seat at.number d t inv ready.allowed.made ready.allowed.unspent ready.allowed.step.begins ready.allowed.step.number in
      let asks = asks_tail p t last.begins last.ready in
      let some = ((knows.walk ready.allowed.unspent).ready_walked last.ready).0 in
      let kind : kind_of_ask (q_of_origin o) at.seat (walk_asks p t) ≡ LoadsImageWord (place_in (seat_shape t) t.walk.tail_block (tail_index t)) =
      ap (λ (ask : Ask). kind_of_ask (q_of_origin o) at.seat ask) asks ∙ load_kind (q_of_origin o) at.seat t.walk.tail_block (tail_index t) t some in
      let may : May o d (ghost_begun (view_of d.views at.seat).ghost (view_of d.views at.seat).seat t at.number) t (LoadsImageWord (place_in (seat_shape t) t.walk.tail_block (tail_index t))) =
      subst (λ (k : Kind). May o d (ghost_begun (view_of d.views at.seat).ghost (view_of d.views at.seat).seat t at.number) t k) kind ready.allowed.step.may in
      let empty : slice_index d.memory.now.words (place_in (seat_shape t) t.walk.tail_block (tail_index t)) ≡ 0 = ap (λ (ask : Ask). found_answer d.memory ask) (sym asks) ∙ (sym answer ∙ last.empty) in
      end_found o d at.seat t _ _ _ inv knows ready.allowed.unspent may.valid last.ready (t.walk.tail_slot == words_of t) refl empty ∙ ap (λ (history : List Write). end_of o history) same)

  history_next : (m : Look) (t : Seat) (d : Core) (a : ℕ) (e : Core) → d.history ≡ first → (a ≡ found_answer d.memory (look_script.asks m t)) × (e ≡ after o d (step_on o at.seat at.number look_script no_record m t d)) → e.history ≡ first
  history_next m t d a e same st = ap (λ (x : Core). x.history) st.1
      ∙ (stage_silent (q_of_origin o) at.seat m.stage t d.history (note_of o at.seat at.number look_script no_record m t (view_of d.views at.seat).ghost (found_answer d.memory (look_script.asks m t))) (found d.memory (look_script.asks m t)) ∙ same)

  on_cores : Leads look_script Alone (λ out t d. EndsOnCore o at.seat Left out t d × EndsStill out t d) (look_of query) s0 at.core
  on_cores = leads_with look_script Alone IsStill (EndsOnCore o at.seat Left) EndsStill
      (λ m t d a e k ready st go. record { same = history_next m t d a e k.same st; stood = stage_goes position m.query m.stage t a k.stood (walk_at m.query m.stage t d a k.same ready st.0) go })
      (λ m t d a e out k ready st done. record { same = history_next m t d a e k.same st; at_end = stage_ends position m.query m.stage t a out k.stood (walk_at m.query m.stage t d a k.same ready st.0) done })
      (record { same = refl; stood = tt })
      (leads_alone o (start_meets o at.start) at.seat at.number look_script no_record Left (look_of query) s0 (view_of at.core.views at.seat) at.core
      (looks_within query o at.start at.seat at.number at.rest s0 (view_of at.core.views at.seat) at.linked) at.reached at.made refl)

  -- and so over a plain memory
  over_plain : Leads look_script (over look_script plain) (λ out t q. EndsOver (λ out t d. EndsOnCore o at.seat Left out t d × EndsStill out t d) out t q × HasSameWords p0 q) (look_of query) s0 p0
  over_plain = leads_with look_script (over look_script plain) (λ m t q. HasSameWords p0 q) (EndsOver (λ out t d. EndsOnCore o at.seat Left out t d × EndsStill out t d)) (λ out t q. HasSameWords p0 q)
      (λ m t q a r k ready st go. same_next m t q a r k st)
      (λ m t q a r out k ready st done. same_next m t q a r k st)
      (record { words = refl; taken = refl })
      (alone_plain o (start_meets o at.start) at.seat at.number look_script no_record (λ out t d. EndsOnCore o at.seat Left out t d × EndsStill out t d) (look_of query) s0 at.core p0 on_cores at.agrees)
    where
      same_next : (m : Look) (t : Seat) (q : SharedWords) (a : ℕ) (r : SharedWords) → HasSameWords p0 q → PlainStep q (look_script.asks m t) a r → HasSameWords p0 r
      same_next m t q a r k st = (let next = stage_same m.stage t q in record {
        words = ap (λ (x : SharedWords). x.words) st.left ∙ (next.words ∙ k.words);
        taken = ap (λ (x : SharedWords). x.taken) st.left ∙ (next.taken ∙ k.taken);
      })

  pub looked_alone : Leads look_script (over look_script plain) (HasLookedAlone query s0 p0 at) (look_of query) s0 p0
  looked_alone = leads_weaker look_script (over look_script plain) (λ out t q. EndsOver (λ out t d. EndsOnCore o at.seat Left out t d × EndsStill out t d) out t q × HasSameWords p0 q) (HasLookedAlone query s0 p0 at)
      (λ out t q ends.
      (let there = ends.0.ends.0 in
      let still = ends.0.ends.1 in
      let is : out.position ≡ position = ap (λ (x : Seen). x.position) there.ends.fits.out_is ∙ still.at_end in
      record {
        left = record { core = ends.0.core; reached = there.reached; agrees = ends.0.agrees; history = still.same; left = there.ends };
        position = is;
        seen = subst (λ (n : ℕ). IsSeenIn query (file_at o first n) out t) is (subst (λ (history : List Write). IsSeenIn query (file_at o history out.position) out t) still.same
            (looks_see query o at.start ends.0.core there.reached at.seat at.rest s0 (ghost_alone (MayLook query) s0 p0 at) out t at.linked.fits.asks there.ends).seen);
        words = ends.1.words;
        taken = ends.1.taken;
      })) over_plain

pub looks_alone : LooksAlone
looks_alone query s p at = looked_alone query s p at
