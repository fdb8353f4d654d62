use Rattle.std.proofs.Common.{◌≡◌, ◌∙◌, ◌<◌, ◌+◌, ◌*◌, ◌&&◌, ℕ, nat_le, nat_lt, if◌then◌else◌, List, take, drop, set, ◌++◌, length, ap, sym, subst, arith}
use Rattle.std.proofs.Math.Logic.{∥∥₁_map}
use Rattle.log_image.specs.Taken.{bit_of}
use Rattle.log_image.specs.Image.{shape_by}
use Rattle.plain_engine.specs.Running.{Runs, RunsOnSome}
use Rattle.plain_engine.specs.declared.engine.PlainEngine.{PlainEngine}
use Rattle.plain_engine.proofs.BoundsLemmas.{Bounds, bounds}
use Rattle.plain_engine.proofs.EngineLemmas.{lent_back}
use Rattle.plain_engine.proofs.CommitLemmas.{commit_by, commit_first, slot_place}
use Rattle.plain_engine.proofs.NamesLemmas.{run_taken}
use Rattle.plain_engine.proofs.engine.PlainEngine.commit.Goals as goal

-- the bounds of an engine
in_bounds : (e : PlainEngine) → Bounds (shape_by e.geometry) e.words.items e.taken.items e.table e.position e.tail_block e.tail_slot
in_bounds e = bounds (shape_by e.geometry) e.words.items e.taken.items e.table e.position e.tail_block e.tail_slot e.first_clear e.kept

pub take_in-requires-clause-whole : goal.take_in-requires-clause-whole
take_in-requires-clause-whole c = ap length c.deref.ensures.value ∙ (in_bounds c.args.self.now).whole

pub index_mut-requires : goal.index_mut-requires
index_mut-requires c = (let b = in_bounds c.args.self.now in subst (λ (n : ℕ). c.args.self.now.tail_block * c.q-count.result + c.args.self.now.tail_slot < n) (sym c.args.self.now.words.ok.0)
    (slot_place c.args.self.now.tail_block c.args.self.now.tail_slot c.q-count.result _ (length c.args.self.now.words.items) c.q-count.ensures b.slot_inside c.requires.slot b.tail_inside))

pub mark_run-requires-clause-inside : goal.mark_run-requires-clause-inside
mark_run-requires-clause-inside c = (let b = in_bounds c.args.self.now in omega (arith, b.room, c.requires.last, ap length c.deref_mut.ensures.value))

pub overflow_add-self-3 : goal.overflow_add-self-3
overflow_add-self-3 c = (let b = in_bounds c.args.self.now in omega (arith, b.slot_inside, b.short))

pub invariant_of-self : goal.invariant_of-self
invariant_of-self c =
    let e = c.args.self.now in
    let back : take e.taken.len (c.mark_run.new.taken ++ drop (length c.mark_run.new.taken) e.taken.items) ≡ c.mark_run.new.taken =
    lent_back c.mark_run.new.taken e.taken.items e.taken.len (c.mark_run.auto.taken ∙ ap length c.deref_mut.ensures.value) e.taken.ok.0 in
    record {
      kept = subst (λ (l : List ℕ). ∥ RunsOnSome (shape_by e.geometry) (set e.words.items (e.tail_block * c.q-count.result + e.tail_slot) c.encode-word.result) l c.take_in.new.table (e.position + 1) e.tail_block (e.tail_slot + 1) (c.args.run.block + c.args.run.count) ∥₁) (sym back)
          (∥∥₁_map e.kept (λ (some : RunsOnSome (shape_by e.geometry) e.words.items e.taken.items e.table e.position e.tail_block e.tail_slot e.first_clear). record {
            chain = some.chain;
            file = (c.requires.entry some.chain some.file some.runs).0;
            runs = commit_by (shape_by e.geometry) e.words.items c.deref.result.now e.taken.items c.deref_mut.result.now c.mark_run.new.taken e.table c.take_in.new.table e.position e.tail_block e.tail_slot e.first_clear some.chain some.file (c.requires.entry some.chain some.file some.runs).0
                c.encode-word.result c.args.run.virt c.args.run.block c.args.run.count c.args.leftover c.q-count.result some.runs c.requires.slot c.requires.room c.encode-word.ensures.small_blocks.0 c.encode-word.ensures.small_blocks.1 c.requires.some c.requires.few c.requires.left
                c.encode-word.ensures.same c.requires.fitting (c.requires.entry some.chain some.file some.runs).1 c.q-count.ensures c.deref.ensures.value c.deref_mut.ensures.value c.mark_run.auto.taken c.mark_run.ensures c.take_in.ensures.map c.take_in.ensures.size (c.requires.least some.chain some.file some.runs);
          }));
    }

pub returns-clause-runs : goal.returns-clause-runs
returns-clause-runs c = λ chain file new_file runs entry.
    let e = c.args.self.now in
    let back : take e.taken.len (c.mark_run.new.taken ++ drop (length c.mark_run.new.taken) e.taken.items) ≡ c.mark_run.new.taken =
    lent_back c.mark_run.new.taken e.taken.items e.taken.len (c.mark_run.auto.taken ∙ ap length c.deref_mut.ensures.value) e.taken.ok.0 in
    subst (λ (l : List ℕ). Runs (shape_by e.geometry) (set e.words.items (e.tail_block * c.q-count.result + e.tail_slot) c.encode-word.result) l c.take_in.new.table (e.position + 1) e.tail_block (e.tail_slot + 1) (c.args.run.block + c.args.run.count) chain new_file) (sym back)
    (commit_by (shape_by e.geometry) e.words.items c.deref.result.now e.taken.items c.deref_mut.result.now c.mark_run.new.taken e.table c.take_in.new.table e.position e.tail_block e.tail_slot e.first_clear chain file new_file
    c.encode-word.result c.args.run.virt c.args.run.block c.args.run.count c.args.leftover c.q-count.result runs c.requires.slot c.requires.room c.encode-word.ensures.small_blocks.0 c.encode-word.ensures.small_blocks.1 c.requires.some c.requires.few c.requires.left
    c.encode-word.ensures.same c.requires.fitting entry c.q-count.ensures c.deref.ensures.value c.deref_mut.ensures.value c.mark_run.auto.taken c.mark_run.ensures c.take_in.ensures.map c.take_in.ensures.size (c.requires.least chain file runs))

pub returns-clause-names : goal.returns-clause-names
returns-clause-names c = λ chain file runs.
    let e = c.args.self.now in
    let new_runs : Runs (shape_by e.geometry) (set e.words.items (e.tail_block * c.q-count.result + e.tail_slot) c.encode-word.result) c.mark_run.new.taken c.take_in.new.table (e.position + 1) e.tail_block (e.tail_slot + 1) (c.args.run.block + c.args.run.count) chain (c.requires.entry chain file runs).0 =
    commit_by (shape_by e.geometry) e.words.items c.deref.result.now e.taken.items c.deref_mut.result.now c.mark_run.new.taken e.table c.take_in.new.table e.position e.tail_block e.tail_slot e.first_clear chain file (c.requires.entry chain file runs).0
    c.encode-word.result c.args.run.virt c.args.run.block c.args.run.count c.args.leftover c.q-count.result runs c.requires.slot c.requires.room c.encode-word.ensures.small_blocks.0 c.encode-word.ensures.small_blocks.1 c.requires.some c.requires.few c.requires.left
    c.encode-word.ensures.same c.requires.fitting (c.requires.entry chain file runs).1 c.q-count.ensures c.deref.ensures.value c.deref_mut.ensures.value c.mark_run.auto.taken c.mark_run.ensures c.take_in.ensures.map c.take_in.ensures.size (c.requires.least chain file runs) in
    run_taken (shape_by e.geometry) e.words.items (set e.words.items (e.tail_block * c.q-count.result + e.tail_slot) c.encode-word.result) e.taken.items c.mark_run.new.taken e.table c.take_in.new.table e.position (e.position + 1) e.tail_block e.tail_slot e.first_clear (c.args.run.block + c.args.run.count) c.args.run.block c.args.run.count
    chain file (c.requires.entry chain file runs).0 runs c.requires.slot new_runs
    (subst (λ (l : List ℕ). (other : ℕ) → bit_of c.mark_run.new.taken other ≡ (if nat_le c.args.run.block other && nat_lt other (c.args.run.block + c.args.run.count) then 1 else bit_of l other)) c.deref_mut.ensures.value c.mark_run.ensures)

pub returns-clause-first_block : goal.returns-clause-first_block
returns-clause-first_block c =
    let e = c.args.self.now in
    let b = in_bounds c.args.self.now in
    commit_first (shape_by e.geometry) e.words.items e.tail_block e.tail_slot c.q-count.result c.encode-word.result c.q-count.ensures b.tail_area
