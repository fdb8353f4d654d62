use Rattle.std.proofs.Common.{◌≡◌, ◌∙◌, ◌≤◌, ◌+◌, ℕ, List, take, drop, ◌++◌, length, ap, sym, subst, refl, arith}
use Rattle.std.proofs.Math.Logic.{∥∥₁_map}
use Rattle.log_image.specs.Image.{total, shape_by}
use Rattle.log_image.specs.Tails.{tail_of}
use Rattle.log_image.specs.Taken.{is_taken}
use Rattle.plain_engine.specs.Running.{Runs, RunsOnSome}
use Rattle.plain_engine.proofs.BoundsLemmas.{bounds}
use Rattle.plain_engine.proofs.RunningSteps.{store_at, store_names}
use Rattle.plain_engine.specs.Engine.{KeepsFirstBlock}
use Rattle.plain_engine.proofs.EngineLemmas.{lent_back, keeps_by, apart_by, stored_kept, stored_first}
use Rattle.plain_engine.proofs.engine.PlainEngine.store.Goals as goal

pub store_run-requires-clause-apart : goal.store_run-requires-clause-apart
store_run-requires-clause-apart c =
    let e = c.args.self.now in
    apart_by (shape_by e.geometry) e.words.items e.taken.items e.table e.position e.tail_block e.tail_slot c.args.run.block c.args.run.count
    (bounds (shape_by e.geometry) e.words.items e.taken.items e.table e.position e.tail_block e.tail_slot e.first_clear e.kept) c.requires.clear

pub invariant_of-self : goal.invariant_of-self
invariant_of-self c =
    let e = c.args.self.now in
    let back : take e.words.len (c.store_run.new.words ++ drop (length c.store_run.new.words) e.words.items) ≡ c.store_run.new.words =
    lent_back c.store_run.new.words e.words.items e.words.len (c.store_run.auto.words ∙ ap length c.deref_mut.ensures.value) e.words.ok.0 in
    let inside : c.args.run.block + c.args.run.count ≤ total (shape_by e.geometry) = omega (arith, c.requires.last) in
    record {
      kept = subst (λ (l : List ℕ). ∥ RunsOnSome (shape_by e.geometry) l e.taken.items e.table e.position e.tail_block e.tail_slot e.first_clear ∥₁) (sym back)
          (∥∥₁_map e.kept (stored_kept (shape_by e.geometry) e.words.items c.deref_mut.result.now c.store_run.new.words e.taken.items e.table e.position e.tail_block e.tail_slot e.first_clear c.args.run.block c.args.run.count
          c.deref_mut.ensures.value inside c.requires.clear c.store_run.auto.words c.store_run.ensures.others));
    }

pub returns-clause-runs : goal.returns-clause-runs
returns-clause-runs c = λ chain file runs.
    let e = c.args.self.now in
    let back : take e.words.len (c.store_run.new.words ++ drop (length c.store_run.new.words) e.words.items) ≡ c.store_run.new.words =
    lent_back c.store_run.new.words e.words.items e.words.len (c.store_run.auto.words ∙ ap length c.deref_mut.ensures.value) e.words.ok.0 in
    let inside : c.args.run.block + c.args.run.count ≤ total (shape_by e.geometry) = omega (arith, c.requires.last) in
    subst (λ (l : List ℕ). Runs (shape_by e.geometry) l e.taken.items e.table e.position e.tail_block e.tail_slot e.first_clear chain file) (sym back)
    (store_at (shape_by e.geometry) e.words.items c.store_run.new.words e.taken.items e.table e.position e.tail_block e.tail_slot e.first_clear chain file runs
    (keeps_by (shape_by e.geometry) e.words.items c.deref_mut.result.now c.store_run.new.words e.taken.items chain c.args.run.block c.args.run.count c.deref_mut.ensures.value runs.fits.bitmap inside c.requires.clear c.store_run.auto.words c.store_run.ensures.others))

pub returns-clause-names : goal.returns-clause-names
returns-clause-names c = λ chain file runs.
    let e = c.args.self.now in
    let back : take e.words.len (c.store_run.new.words ++ drop (length c.store_run.new.words) e.words.items) ≡ c.store_run.new.words =
    lent_back c.store_run.new.words e.words.items e.words.len (c.store_run.auto.words ∙ ap length c.deref_mut.ensures.value) e.words.ok.0 in
    let inside : c.args.run.block + c.args.run.count ≤ total (shape_by e.geometry) = omega (arith, c.requires.last) in
    let both = store_names (shape_by e.geometry) e.words.items c.store_run.new.words e.taken.items e.table e.position e.tail_block e.tail_slot e.first_clear chain file runs
    (keeps_by (shape_by e.geometry) e.words.items c.deref_mut.result.now c.store_run.new.words e.taken.items chain c.args.run.block c.args.run.count c.deref_mut.ensures.value runs.fits.bitmap inside c.requires.clear c.store_run.auto.words c.store_run.ensures.others) in
    record {
      taken = subst (λ (l : List ℕ). (block : ℕ) → is_taken l (shape_by e.geometry) chain block ≡ is_taken e.words.items (shape_by e.geometry) chain block) (sym back) both.0;
      tail = subst (λ (l : List ℕ). tail_of l (shape_by e.geometry) chain ≡ tail_of e.words.items (shape_by e.geometry) chain) (sym back) both.1;
    }

pub returns-clause-same : goal.returns-clause-same
returns-clause-same c =
    let e = c.args.self.now in
    let back : take e.words.len (c.store_run.new.words ++ drop (length c.store_run.new.words) e.words.items) ≡ c.store_run.new.words =
    lent_back c.store_run.new.words e.words.items e.words.len (c.store_run.auto.words ∙ ap length c.deref_mut.ensures.value) e.words.ok.0 in
    record {
      geometry = refl;
      taken = refl;
      table = refl;
      position = refl;
      tail_block = refl;
      tail_slot = refl;
      first_clear = refl;
      first_block = subst (λ (l : List ℕ). KeepsFirstBlock (shape_by e.geometry) e.words.items l) (sym back)
          (stored_first (shape_by e.geometry) e.words.items c.deref_mut.result.now c.store_run.new.words c.args.run.block c.args.run.count c.deref_mut.ensures.value c.requires.first c.store_run.ensures.others);
    }
