use Rattle.std.proofs.Common.{◌≡◌, ◌∙◌, ◌<◌, ◌+◌, ◌*◌, ℕ, List, [], ◌∷◌, take, drop, set, ◌++◌, length, ap, sym, subst, refl, arith, ◌==◌, if◌then◌else◌}
use Rattle.std.proofs.Math.Logic.{∥∥₁_map}
use Rattle.log_image.specs.Image.{total, shape_by}
use Rattle.log_image.specs.Taken.{bit_of}
use Rattle.plain_engine.specs.Clear.{AllTaken}
use Rattle.plain_engine.specs.Running.{Runs, RunsOnSome}
use Rattle.plain_engine.specs.declared.engine.PlainEngine.{PlainEngine}
use Rattle.plain_engine.proofs.BoundsLemmas.{Bounds, bounds}
use Rattle.plain_engine.proofs.EngineLemmas.{lent_back}
use Rattle.plain_engine.proofs.GrowLemmas.{Stored, stored_by, grow_by, grow_content, grow_bits, grow_first, tail_place, block_place, none_lacks, one_enough}
use Rattle.plain_engine.proofs.NamesLemmas.{slot_linked}
use Rattle.plain_engine.proofs.engine.PlainEngine.make_slot.Goals as goal

-- the bounds of an engine
in_bounds : (e : PlainEngine) → Bounds (shape_by e.geometry) e.words.items e.taken.items e.table e.position e.tail_block e.tail_slot
in_bounds e = bounds (shape_by e.geometry) e.words.items e.taken.items e.table e.position e.tail_block e.tail_slot e.first_clear e.kept

-- no clear block of the log area was found
taken_all : (e : PlainEngine) (seen : List ℕ) (first end : ℕ) → seen ≡ e.taken.items → first ≡ 1 + e.geometry.data_blocks → end ≡ 1 + e.geometry.data_blocks + e.geometry.log_blocks → AllTaken seen first end →
    AllTaken e.taken.items (1 + e.geometry.data_blocks) (1 + e.geometry.data_blocks + e.geometry.log_blocks)
taken_all e seen first end is_seen is_first is_end all =
    subst (λ (l : List ℕ). AllTaken l (1 + e.geometry.data_blocks) (1 + e.geometry.data_blocks + e.geometry.log_blocks)) is_seen
    (subst (λ (n : ℕ). AllTaken seen n (1 + e.geometry.data_blocks + e.geometry.log_blocks)) is_first (subst (λ (n : ℕ). AllTaken seen first n) is_end all))

pub returns-in_default-clause-none : goal.returns-in_default-clause-none
returns-in_default-clause-none c = λ is_false chain file runs.
    let e = c.args.self.now in
    record {
      runs = runs;
      same = refl;
      lacking = none_lacks (shape_by e.geometry) e.words.items e.taken.items e.table e.position e.tail_block e.tail_slot e.first_clear chain file runs (omega (arith, c.if-self-count.false, c.q-count.ensures))
          (taken_all e c.deref.result.now c.first-first.result c.first-end.result c.deref.ensures.value c.first-first.ensures c.first-end.ensures c.in_default.ensures);
    }

pub store_fresh-requires-clause-room : goal.store_fresh-requires-clause-room
store_fresh-requires-clause-room c =
    let b = in_bounds c.args.self.now in
    let inside : c.in-Some.next < total (shape_by c.args.self.now.geometry) = omega (arith, c.in-Some.ensures.inside, c.first-end.ensures) in
    block_place c.in-Some.next c.q-count.result _ (total (shape_by c.args.self.now.geometry)) (length c.deref_mut.result.now) c.q-count.ensures inside (ap length c.deref_mut.ensures.value ∙ b.whole)

pub store_fresh-requires-clause-below : goal.store_fresh-requires-clause-below
store_fresh-requires-clause-below c = (in_bounds c.args.self.now).below

pub index_mut-requires : goal.index_mut-requires
index_mut-requires c =
    let b = in_bounds c.args.self.now in
    subst (λ (n : ℕ). c.args.self.now.tail_block * c.q-count.result < n) (sym c.args.self.now.words.ok.0)
    (tail_place c.args.self.now.tail_block c.q-count.result _ (length c.args.self.now.words.items) c.q-count.ensures b.long b.tail_inside)

pub mark-requires : goal.mark-requires
mark-requires c = (let b = in_bounds c.args.self.now in omega (arith, b.room, c.in-Some.ensures.inside, c.first-end.ensures, ap length c.deref_mut-2.ensures.value))

pub invariant_of-self : goal.invariant_of-self
invariant_of-self c =
    let e = c.args.self.now in
    let stored : Stored (shape_by e.geometry) e.words.items c.store_fresh.new.words e.taken.items e.position c.in-Some.next =
    stored_by (shape_by e.geometry) e.words.items c.deref_mut.result.now c.store_fresh.new.words e.taken.items c.deref.result.now e.table e.position e.tail_block e.tail_slot c.in-Some.next c.q-count.result c.first-first.result c.first-end.result
    (in_bounds e) c.deref_mut.ensures.value c.deref.ensures.value c.q-count.ensures c.first-first.ensures c.first-end.ensures c.in-Some.ensures c.store_fresh.auto.words c.store_fresh.ensures.stored c.store_fresh.ensures.others in
    let back : take e.words.len (c.store_fresh.new.words ++ drop (length c.store_fresh.new.words) e.words.items) ≡ c.store_fresh.new.words =
    lent_back c.store_fresh.new.words e.words.items e.words.len (c.store_fresh.auto.words ∙ ap length c.deref_mut.ensures.value) e.words.ok.0 in
    let marked : length c.mark.new.taken ≡ length e.taken.items = c.mark.auto.taken ∙ ap length c.deref_mut-2.ensures.value in
    let back_taken : take e.taken.len (c.mark.new.taken ++ drop (length c.mark.new.taken) e.taken.items) ≡ c.mark.new.taken =
    lent_back c.mark.new.taken e.taken.items e.taken.len marked e.taken.ok.0 in
    let marks = subst (λ (l : List ℕ). (other : ℕ) → bit_of c.mark.new.taken other ≡ (if other == c.in-Some.next then 1 else bit_of l other)) c.deref_mut-2.ensures.value c.mark.ensures in
    let closes : e.tail_slot ≡ c.q-count.result = omega (arith, c.if-self-count.false) in
    record {
      kept = ∥∥₁_map e.kept (λ (some : RunsOnSome (shape_by e.geometry) e.words.items e.taken.items e.table e.position e.tail_block e.tail_slot e.first_clear). record {
        chain = some.chain ++ c.in-Some.next ∷ [];
        file = some.file;
        runs = grow_by (shape_by e.geometry) e.words.items c.store_fresh.new.words (take e.words.len (c.store_fresh.new.words ++ drop (length c.store_fresh.new.words) e.words.items)) e.taken.items c.mark.new.taken (take e.taken.len (c.mark.new.taken ++ drop (length c.mark.new.taken) e.taken.items)) e.table e.position e.tail_block e.tail_slot e.first_clear c.in-Some.next c.q-count.result some.chain some.file some.runs closes c.q-count.ensures stored back back_taken marked marks;
      });
    }

pub returns-clause-slot : goal.returns-clause-slot
returns-clause-slot c = λ is_true chain file runs.
    let e = c.args.self.now in
    let stored : Stored (shape_by e.geometry) e.words.items c.store_fresh.new.words e.taken.items e.position c.in-Some.next =
    stored_by (shape_by e.geometry) e.words.items c.deref_mut.result.now c.store_fresh.new.words e.taken.items c.deref.result.now e.table e.position e.tail_block e.tail_slot c.in-Some.next c.q-count.result c.first-first.result c.first-end.result
    (in_bounds e) c.deref_mut.ensures.value c.deref.ensures.value c.q-count.ensures c.first-first.ensures c.first-end.ensures c.in-Some.ensures c.store_fresh.auto.words c.store_fresh.ensures.stored c.store_fresh.ensures.others in
    let back : take e.words.len (c.store_fresh.new.words ++ drop (length c.store_fresh.new.words) e.words.items) ≡ c.store_fresh.new.words =
    lent_back c.store_fresh.new.words e.words.items e.words.len (c.store_fresh.auto.words ∙ ap length c.deref_mut.ensures.value) e.words.ok.0 in
    let marked : length c.mark.new.taken ≡ length e.taken.items = c.mark.auto.taken ∙ ap length c.deref_mut-2.ensures.value in
    let back_taken : take e.taken.len (c.mark.new.taken ++ drop (length c.mark.new.taken) e.taken.items) ≡ c.mark.new.taken =
    lent_back c.mark.new.taken e.taken.items e.taken.len marked e.taken.ok.0 in
    let marks = subst (λ (l : List ℕ). (other : ℕ) → bit_of c.mark.new.taken other ≡ (if other == c.in-Some.next then 1 else bit_of l other)) c.deref_mut-2.ensures.value c.mark.ensures in
    let closes : e.tail_slot ≡ c.q-count.result = omega (arith, c.if-self-count.false) in
    let new_runs : Runs (shape_by e.geometry) (set (take e.words.len (c.store_fresh.new.words ++ drop (length c.store_fresh.new.words) e.words.items)) (e.tail_block * c.q-count.result) c.in-Some.next) (take e.taken.len (c.mark.new.taken ++ drop (length c.mark.new.taken) e.taken.items)) e.table e.position c.in-Some.next 3 e.first_clear (chain ++ c.in-Some.next ∷ []) file =
    grow_by (shape_by e.geometry) e.words.items c.store_fresh.new.words (take e.words.len (c.store_fresh.new.words ++ drop (length c.store_fresh.new.words) e.words.items)) e.taken.items c.mark.new.taken (take e.taken.len (c.mark.new.taken ++ drop (length c.mark.new.taken) e.taken.items)) e.table e.position e.tail_block e.tail_slot e.first_clear c.in-Some.next c.q-count.result chain file runs closes c.q-count.ensures stored back back_taken marked marks in
    record {
      longer = chain ++ c.in-Some.next ∷ [];
      runs = new_runs;
      names = slot_linked (shape_by e.geometry) e.words.items (set (take e.words.len (c.store_fresh.new.words ++ drop (length c.store_fresh.new.words) e.words.items)) (e.tail_block * c.q-count.result) c.in-Some.next) e.taken.items (take e.taken.len (c.mark.new.taken ++ drop (length c.mark.new.taken) e.taken.items))
          e.table e.position e.tail_block e.tail_slot e.first_clear c.in-Some.next chain file runs (closes ∙ c.q-count.ensures) stored.long stored.first new_runs
          (subst (λ (l : List ℕ). (other : ℕ) → bit_of l other ≡ (if other == c.in-Some.next then 1 else bit_of e.taken.items other)) (sym back_taken) marks);
      enough = one_enough (shape_by e.geometry) e.words.items e.taken.items e.table e.position e.tail_block e.tail_slot e.first_clear c.in-Some.next chain file runs (closes ∙ c.q-count.ensures) stored.first;
    }

pub returns-clause-same : goal.returns-clause-same
returns-clause-same c =
    let e = c.args.self.now in
    let stored : Stored (shape_by e.geometry) e.words.items c.store_fresh.new.words e.taken.items e.position c.in-Some.next =
    stored_by (shape_by e.geometry) e.words.items c.deref_mut.result.now c.store_fresh.new.words e.taken.items c.deref.result.now e.table e.position e.tail_block e.tail_slot c.in-Some.next c.q-count.result c.first-first.result c.first-end.result
    (in_bounds e) c.deref_mut.ensures.value c.deref.ensures.value c.q-count.ensures c.first-first.ensures c.first-end.ensures c.in-Some.ensures c.store_fresh.auto.words c.store_fresh.ensures.stored c.store_fresh.ensures.others in
    let back : take e.words.len (c.store_fresh.new.words ++ drop (length c.store_fresh.new.words) e.words.items) ≡ c.store_fresh.new.words =
    lent_back c.store_fresh.new.words e.words.items e.words.len (c.store_fresh.auto.words ∙ ap length c.deref_mut.ensures.value) e.words.ok.0 in
    let marked : length c.mark.new.taken ≡ length e.taken.items = c.mark.auto.taken ∙ ap length c.deref_mut-2.ensures.value in
    let back_taken : take e.taken.len (c.mark.new.taken ++ drop (length c.mark.new.taken) e.taken.items) ≡ c.mark.new.taken =
    lent_back c.mark.new.taken e.taken.items e.taken.len marked e.taken.ok.0 in
    let marks = subst (λ (l : List ℕ). (other : ℕ) → bit_of c.mark.new.taken other ≡ (if other == c.in-Some.next then 1 else bit_of l other)) c.deref_mut-2.ensures.value c.mark.ensures in
    let closes : e.tail_slot ≡ c.q-count.result = omega (arith, c.if-self-count.false) in
    record {
      geometry = refl;
      table = refl;
      position = refl;
      first_clear = refl;
      first_block = grow_first (shape_by e.geometry) e.words.items c.store_fresh.new.words (take e.words.len (c.store_fresh.new.words ++ drop (length c.store_fresh.new.words) e.words.items)) e.taken.items e.position e.tail_block c.in-Some.next c.q-count.result stored back c.q-count.ensures (in_bounds e).tail_area;
      content = grow_content (shape_by e.geometry) e.words.items c.store_fresh.new.words (take e.words.len (c.store_fresh.new.words ++ drop (length c.store_fresh.new.words) e.words.items)) e.taken.items e.position e.tail_block c.in-Some.next c.q-count.result stored back c.q-count.ensures (in_bounds e).tail_area;
      bits = grow_bits (shape_by e.geometry) e.words.items c.store_fresh.new.words e.taken.items c.mark.new.taken (take e.taken.len (c.mark.new.taken ++ drop (length c.mark.new.taken) e.taken.items)) e.position c.in-Some.next stored back_taken marks;
    }
