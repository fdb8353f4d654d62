use Rattle.std.proofs.Common.{◌≡◌, ◌∙◌, ◌≤◌, ◌+◌, ◌-◌, ◌*◌, ◌/◌, ℕ, zero, suc, true, false, List, Some, None, length, ap, sym, subst, refl, arith}
use Rattle.log_entry.specs.ByteFile.{write}
use Rattle.log_entry.specs.Legal.{touched_blocks}
use Rattle.log_image.specs.Image.{Shape, shape_by}
use Rattle.log_image.specs.Taken.{bit_of}
use Rattle.image_steps.specs.Steps.{fits_log}
use Rattle.plain_engine.specs.Clear.{IsLeastRun}
use Rattle.plain_engine.specs.Space.{lacks_data}
use Rattle.plain_engine.specs.Names.{NamesAfter}
use Rattle.plain_engine.specs.Engine.{Running, HasSlot, LacksSlot, run_word}
use Rattle.plain_engine.specs.declared.engine.PlainEngine.{PlainEngine}
use Rattle.plain_engine.proofs.BoundsLemmas.{header_bit}
use Rattle.plain_engine.proofs.EngineLemmas.{first_then}
use Rattle.plain_engine.proofs.WriteLemmas.{IsRunFor, run_for, run_fits}
use Rattle.plain_engine.proofs.SpaceLemmas.{Cursor, run_enough, no_run_lacks, lacking_data, lacking_log, lacking_none}
use Rattle.plain_engine.proofs.WriteSteps.{IsWay, way_entry, way_least, way_names, shape_slotted, log_lack}
use Rattle.plain_engine.proofs.NamesLemmas.{names_stay}
use Rattle.plain_engine.proofs.engine.PlainEngine.write.Goals as goal

-- a clear block is not the header
not_header : (e : PlainEngine) (block : ℕ) → bit_of e.taken.items block ≡ 0 → 1 ≤ block
not_header e zero clear = absurd (omega (arith, clear, header_bit (shape_by e.geometry) e.words.items e.taken.items e.table e.position e.tail_block e.tail_slot e.first_clear e.kept))
not_header e (suc block) clear = omega arith

-- the bits and the cursor of an engine that runs
cursor : (e : PlainEngine) (chain file : List ℕ) → Running e chain file → Cursor e.words.items (shape_by e.geometry) chain e.taken.items e.first_clear
cursor e chain file runs = record { has = runs.fits.bitmap; low = runs.fits.low }

pub returns-in_default : goal.returns-in_default
returns-in_default c = λ chain file runs.
    let e = c.args.self.now in
    let touch : c.touched-count.result ≡ touched_blocks e.geometry.block_bytes c.args.offset (length c.args.bytes.now) = c.touched-count.ensures ∙ ap (λ (n : ℕ). touched_blocks n c.args.offset (length c.args.bytes.now)) c.block_bytes-block_bytes.ensures.value in
    record {
      space = lacking_data e.words.items (shape_by e.geometry) chain (touched_blocks e.geometry.block_bytes c.args.offset (length c.args.bytes.now))
          (no_run_lacks e.words.items (shape_by e.geometry) chain e.taken.items e.first_clear (touched_blocks e.geometry.block_bytes c.args.offset (length c.args.bytes.now)) (omega arith) (cursor e chain file runs)
          (subst (λ (n : ℕ). (block : ℕ) → IsLeastRun e.taken.items e.first_clear (1 + e.geometry.data_blocks) n block → ⊥) touch
          (subst (λ (l : List ℕ). (block : ℕ) → IsLeastRun l e.first_clear (1 + e.geometry.data_blocks) c.touched-count.result block → ⊥) c.deref.ensures.value
          (subst (λ (n : ℕ). (block : ℕ) → IsLeastRun c.deref.result.now e.first_clear n c.touched-count.result block → ⊥) c.first-end.ensures c.in_default.ensures))));
      geometry = refl;
      position = refl;
      first_block = λ place inside. refl;
      longer = chain;
      runs = runs;
      names = names_stay (shape_by e.geometry) e.words.items e.words.items chain (λ block. refl) refl;
    }

pub store-requires-clause-first : goal.store-requires-clause-first
store-requires-clause-first c =
    let e = c.args.self.now in
    not_header e c.in-Some.block (subst (λ (l : List ℕ). bit_of l c.in-Some.block ≡ 0) c.deref.ensures.value c.in-Some.ensures.first.clear)

pub returns-then-not-make_slot : goal.returns-then-not-make_slot
returns-then-not-make_slot c = λ chain file runs.
    let e = c.args.self.now in
    let touch : c.touched-count.result ≡ touched_blocks e.geometry.block_bytes c.args.offset (length c.args.bytes.now) = c.touched-count.ensures ∙ ap (λ (n : ℕ). touched_blocks n c.args.offset (length c.args.bytes.now)) c.block_bytes-block_bytes.ensures.value in
    let least : IsLeastRun e.taken.items e.first_clear (1 + e.geometry.data_blocks) c.touched-count.result c.in-Some.block =
    subst (λ (l : List ℕ). IsLeastRun l e.first_clear (1 + e.geometry.data_blocks) c.touched-count.result c.in-Some.block) c.deref.ensures.value
    (subst (λ (n : ℕ). IsLeastRun c.deref.result.now e.first_clear n c.touched-count.result c.in-Some.block) c.first-end.ensures c.in-Some.ensures) in
    let first : 1 ≤ c.in-Some.block = not_header e c.in-Some.block least.first.clear in
    let enough : lacks_data e.words.items (shape_by e.geometry) chain (touched_blocks e.geometry.block_bytes c.args.offset (length c.args.bytes.now)) ≡ false =
    subst (λ (n : ℕ). lacks_data e.words.items (shape_by e.geometry) chain n ≡ false) touch (run_enough e.words.items (shape_by e.geometry) chain e.taken.items e.first_clear c.touched-count.result c.in-Some.block first (cursor e chain file runs) least) in
    let none : LacksSlot c.store.new.self c.make_slot.new.self chain file = c.if-not-make_slot.ensures.none refl chain file (c.store.ensures.runs chain file runs) in
    record {
      space = lacking_log e.words.items (shape_by e.geometry) chain (touched_blocks e.geometry.block_bytes c.args.offset (length c.args.bytes.now)) enough (log_lack e c.store.new.self chain c.store.ensures.same (c.store.ensures.names chain file runs) true none.lacking);
      geometry = c.make_slot.ensures.same.geometry ∙ c.store.ensures.same.geometry;
      position = c.make_slot.ensures.same.position ∙ c.store.ensures.same.position;
      first_block = first_then e.geometry c.store.new.self.geometry e.words.items c.store.new.self.words.items c.make_slot.new.self.words.items c.store.ensures.same.geometry c.store.ensures.same.first_block c.make_slot.ensures.same.first_block;
      longer = chain;
      runs = none.runs;
      names = subst (λ (l : List ℕ). NamesAfter (shape_by e.geometry) e.words.items chain None l chain) (sym none.same)
          (names_stay (shape_by e.geometry) e.words.items c.store.new.self.words.items chain (c.store.ensures.names chain file runs).taken (c.store.ensures.names chain file runs).tail);
    }

pub commit-requires-clause-first : goal.commit-requires-clause-first
commit-requires-clause-first c =
    let e = c.args.self.now in
    not_header e c.in-Some.block (subst (λ (l : List ℕ). bit_of l c.in-Some.block ≡ 0) c.deref.ensures.value c.in-Some.ensures.first.clear)

pub commit-requires-clause-fitting : goal.commit-requires-clause-fitting
commit-requires-clause-fitting c =
    let e = c.args.self.now in
    let size : c.from.result ≡ e.geometry.block_bytes = c.from.ensures ∙ c.block_bytes-block_bytes.ensures.value in
    let again : c.from-2.result ≡ e.geometry.block_bytes = c.from-2.ensures ∙ c.block_bytes-block_bytes.ensures.value in
    let touch : c.touched-count.result ≡ touched_blocks e.geometry.block_bytes c.args.offset (length c.args.bytes.now) = c.touched-count.ensures ∙ ap (λ (n : ℕ). touched_blocks n c.args.offset (length c.args.bytes.now)) c.block_bytes-block_bytes.ensures.value in
    let least : IsLeastRun e.taken.items e.first_clear (1 + e.geometry.data_blocks) c.touched-count.result c.in-Some.block =
    subst (λ (l : List ℕ). IsLeastRun l e.first_clear (1 + e.geometry.data_blocks) c.touched-count.result c.in-Some.block) c.deref.ensures.value
    (subst (λ (n : ℕ). IsLeastRun c.deref.result.now e.first_clear n c.touched-count.result c.in-Some.block) c.first-end.ensures c.in-Some.ensures) in
    let first : 1 ≤ c.in-Some.block = not_header e c.in-Some.block least.first.clear in
    let run : IsRunFor (shape_by e.geometry) (c.args.offset / c.from.result) c.in-Some.block c.touched-count.result ((c.args.offset / c.from.result + c.touched-count.result) * c.from-2.result - (c.args.offset + length c.args.bytes.now)) c.args.offset (length c.args.bytes.now) =
    run_for (shape_by e.geometry) c.args.offset (length c.args.bytes.now) c.from.result c.from-2.result c.touched-count.result c.in-Some.block (c.args.offset / c.from.result) ((c.args.offset / c.from.result + c.touched-count.result) * c.from-2.result - (c.args.offset + length c.args.bytes.now))
    e.geometry.block_allowed e.geometry.few_blocks size again touch refl c.requires.some c.requires.few c.requires.fits first least.room refl in
    subst (λ (s : Shape). fits_log s (run_word (record { virt = c.args.offset / c.from.result; block = c.in-Some.block; count = c.touched-count.result }) ((c.args.offset / c.from.result + c.touched-count.result) * c.from-2.result - (c.args.offset + length c.args.bytes.now))) ≡ true)
    (sym (shape_slotted e c.store.new.self c.make_slot.new.self c.store.ensures.same c.make_slot.ensures.same))
    (run_fits (shape_by e.geometry) (c.args.offset / c.from.result) c.in-Some.block c.touched-count.result ((c.args.offset / c.from.result + c.touched-count.result) * c.from-2.result - (c.args.offset + length c.args.bytes.now)) c.args.offset (length c.args.bytes.now) run)

pub commit-requires-clause-least : goal.commit-requires-clause-least
commit-requires-clause-least c = λ chain file runs.
    let e = c.args.self.now in
    let size : c.from.result ≡ e.geometry.block_bytes = c.from.ensures ∙ c.block_bytes-block_bytes.ensures.value in
    let again : c.from-2.result ≡ e.geometry.block_bytes = c.from-2.ensures ∙ c.block_bytes-block_bytes.ensures.value in
    let touch : c.touched-count.result ≡ touched_blocks e.geometry.block_bytes c.args.offset (length c.args.bytes.now) = c.touched-count.ensures ∙ ap (λ (n : ℕ). touched_blocks n c.args.offset (length c.args.bytes.now)) c.block_bytes-block_bytes.ensures.value in
    let least : IsLeastRun e.taken.items e.first_clear (1 + e.geometry.data_blocks) c.touched-count.result c.in-Some.block =
    subst (λ (l : List ℕ). IsLeastRun l e.first_clear (1 + e.geometry.data_blocks) c.touched-count.result c.in-Some.block) c.deref.ensures.value
    (subst (λ (n : ℕ). IsLeastRun c.deref.result.now e.first_clear n c.touched-count.result c.in-Some.block) c.first-end.ensures c.in-Some.ensures) in
    let first : 1 ≤ c.in-Some.block = not_header e c.in-Some.block least.first.clear in
    let run : IsRunFor (shape_by e.geometry) (c.args.offset / c.from.result) c.in-Some.block c.touched-count.result ((c.args.offset / c.from.result + c.touched-count.result) * c.from-2.result - (c.args.offset + length c.args.bytes.now)) c.args.offset (length c.args.bytes.now) =
    run_for (shape_by e.geometry) c.args.offset (length c.args.bytes.now) c.from.result c.from-2.result c.touched-count.result c.in-Some.block (c.args.offset / c.from.result) ((c.args.offset / c.from.result + c.touched-count.result) * c.from-2.result - (c.args.offset + length c.args.bytes.now))
    e.geometry.block_allowed e.geometry.few_blocks size again touch refl c.requires.some c.requires.few c.requires.fits first least.room refl in
    let way : IsWay e c.store.new.self c.make_slot.new.self (c.args.offset / c.from.result) c.in-Some.block c.touched-count.result ((c.args.offset / c.from.result + c.touched-count.result) * c.from-2.result - (c.args.offset + length c.args.bytes.now)) c.args.offset c.args.bytes.now = record {
      run = run;
      least = least;
      runs = c.store.ensures.runs;
      content = c.store.ensures.stored;
      same = c.store.ensures.same;
      slot = c.if-not-make_slot.ensures.slot refl;
      same_tail = c.make_slot.ensures.same;
    } in
    way_least e c.store.new.self c.make_slot.new.self (c.args.offset / c.from.result) c.in-Some.block c.touched-count.result ((c.args.offset / c.from.result + c.touched-count.result) * c.from-2.result - (c.args.offset + length c.args.bytes.now)) c.args.offset c.args.bytes.now way chain file runs

pub commit-requires-clause-entry : goal.commit-requires-clause-entry
commit-requires-clause-entry c = λ chain file runs.
    let e = c.args.self.now in
    let size : c.from.result ≡ e.geometry.block_bytes = c.from.ensures ∙ c.block_bytes-block_bytes.ensures.value in
    let again : c.from-2.result ≡ e.geometry.block_bytes = c.from-2.ensures ∙ c.block_bytes-block_bytes.ensures.value in
    let touch : c.touched-count.result ≡ touched_blocks e.geometry.block_bytes c.args.offset (length c.args.bytes.now) = c.touched-count.ensures ∙ ap (λ (n : ℕ). touched_blocks n c.args.offset (length c.args.bytes.now)) c.block_bytes-block_bytes.ensures.value in
    let least : IsLeastRun e.taken.items e.first_clear (1 + e.geometry.data_blocks) c.touched-count.result c.in-Some.block =
    subst (λ (l : List ℕ). IsLeastRun l e.first_clear (1 + e.geometry.data_blocks) c.touched-count.result c.in-Some.block) c.deref.ensures.value
    (subst (λ (n : ℕ). IsLeastRun c.deref.result.now e.first_clear n c.touched-count.result c.in-Some.block) c.first-end.ensures c.in-Some.ensures) in
    let first : 1 ≤ c.in-Some.block = not_header e c.in-Some.block least.first.clear in
    let run : IsRunFor (shape_by e.geometry) (c.args.offset / c.from.result) c.in-Some.block c.touched-count.result ((c.args.offset / c.from.result + c.touched-count.result) * c.from-2.result - (c.args.offset + length c.args.bytes.now)) c.args.offset (length c.args.bytes.now) =
    run_for (shape_by e.geometry) c.args.offset (length c.args.bytes.now) c.from.result c.from-2.result c.touched-count.result c.in-Some.block (c.args.offset / c.from.result) ((c.args.offset / c.from.result + c.touched-count.result) * c.from-2.result - (c.args.offset + length c.args.bytes.now))
    e.geometry.block_allowed e.geometry.few_blocks size again touch refl c.requires.some c.requires.few c.requires.fits first least.room refl in
    let way : IsWay e c.store.new.self c.make_slot.new.self (c.args.offset / c.from.result) c.in-Some.block c.touched-count.result ((c.args.offset / c.from.result + c.touched-count.result) * c.from-2.result - (c.args.offset + length c.args.bytes.now)) c.args.offset c.args.bytes.now = record {
      run = run;
      least = least;
      runs = c.store.ensures.runs;
      content = c.store.ensures.stored;
      same = c.store.ensures.same;
      slot = c.if-not-make_slot.ensures.slot refl;
      same_tail = c.make_slot.ensures.same;
    } in
    (write file c.args.offset c.args.bytes.now, way_entry e c.store.new.self c.make_slot.new.self (c.args.offset / c.from.result) c.in-Some.block c.touched-count.result ((c.args.offset / c.from.result + c.touched-count.result) * c.from-2.result - (c.args.offset + length c.args.bytes.now)) c.args.offset c.args.bytes.now way chain file runs)

pub returns : goal.returns
returns c = λ chain file runs.
    let e = c.args.self.now in
    let size : c.from.result ≡ e.geometry.block_bytes = c.from.ensures ∙ c.block_bytes-block_bytes.ensures.value in
    let again : c.from-2.result ≡ e.geometry.block_bytes = c.from-2.ensures ∙ c.block_bytes-block_bytes.ensures.value in
    let touch : c.touched-count.result ≡ touched_blocks e.geometry.block_bytes c.args.offset (length c.args.bytes.now) = c.touched-count.ensures ∙ ap (λ (n : ℕ). touched_blocks n c.args.offset (length c.args.bytes.now)) c.block_bytes-block_bytes.ensures.value in
    let least : IsLeastRun e.taken.items e.first_clear (1 + e.geometry.data_blocks) c.touched-count.result c.in-Some.block =
    subst (λ (l : List ℕ). IsLeastRun l e.first_clear (1 + e.geometry.data_blocks) c.touched-count.result c.in-Some.block) c.deref.ensures.value
    (subst (λ (n : ℕ). IsLeastRun c.deref.result.now e.first_clear n c.touched-count.result c.in-Some.block) c.first-end.ensures c.in-Some.ensures) in
    let first : 1 ≤ c.in-Some.block = not_header e c.in-Some.block least.first.clear in
    let run : IsRunFor (shape_by e.geometry) (c.args.offset / c.from.result) c.in-Some.block c.touched-count.result ((c.args.offset / c.from.result + c.touched-count.result) * c.from-2.result - (c.args.offset + length c.args.bytes.now)) c.args.offset (length c.args.bytes.now) =
    run_for (shape_by e.geometry) c.args.offset (length c.args.bytes.now) c.from.result c.from-2.result c.touched-count.result c.in-Some.block (c.args.offset / c.from.result) ((c.args.offset / c.from.result + c.touched-count.result) * c.from-2.result - (c.args.offset + length c.args.bytes.now))
    e.geometry.block_allowed e.geometry.few_blocks size again touch refl c.requires.some c.requires.few c.requires.fits first least.room refl in
    let way : IsWay e c.store.new.self c.make_slot.new.self (c.args.offset / c.from.result) c.in-Some.block c.touched-count.result ((c.args.offset / c.from.result + c.touched-count.result) * c.from-2.result - (c.args.offset + length c.args.bytes.now)) c.args.offset c.args.bytes.now = record {
      run = run;
      least = least;
      runs = c.store.ensures.runs;
      content = c.store.ensures.stored;
      same = c.store.ensures.same;
      slot = c.if-not-make_slot.ensures.slot refl;
      same_tail = c.make_slot.ensures.same;
    } in
    let slot : HasSlot c.store.new.self c.make_slot.new.self chain file = way.slot chain file (way.runs chain file runs) in
    let enough : lacks_data e.words.items (shape_by e.geometry) chain (touched_blocks e.geometry.block_bytes c.args.offset (length c.args.bytes.now)) ≡ false =
    subst (λ (n : ℕ). lacks_data e.words.items (shape_by e.geometry) chain n ≡ false) touch (run_enough e.words.items (shape_by e.geometry) chain e.taken.items e.first_clear c.touched-count.result c.in-Some.block first (cursor e chain file runs) least) in
    record {
      space = lacking_none e.words.items (shape_by e.geometry) chain (touched_blocks e.geometry.block_bytes c.args.offset (length c.args.bytes.now)) enough (log_lack e c.store.new.self chain c.store.ensures.same (c.store.ensures.names chain file runs) false slot.enough);
      geometry = c.commit.ensures.geometry ∙ c.make_slot.ensures.same.geometry ∙ c.store.ensures.same.geometry;
      position = c.commit.ensures.position ∙ ap (λ (n : ℕ). n + 1) (c.make_slot.ensures.same.position ∙ c.store.ensures.same.position);
      first_block = first_then e.geometry c.make_slot.new.self.geometry e.words.items c.make_slot.new.self.words.items c.commit.new.self.words.items (c.make_slot.ensures.same.geometry ∙ c.store.ensures.same.geometry)
          (first_then e.geometry c.store.new.self.geometry e.words.items c.store.new.self.words.items c.make_slot.new.self.words.items c.store.ensures.same.geometry c.store.ensures.same.first_block c.make_slot.ensures.same.first_block)
          c.commit.ensures.first_block;
      longer = slot.longer;
      runs = c.commit.ensures.runs slot.longer file (write file c.args.offset c.args.bytes.now) slot.runs (way_entry e c.store.new.self c.make_slot.new.self (c.args.offset / c.from.result) c.in-Some.block c.touched-count.result ((c.args.offset / c.from.result + c.touched-count.result) * c.from-2.result - (c.args.offset + length c.args.bytes.now)) c.args.offset c.args.bytes.now way slot.longer file slot.runs);
      names = subst (λ (n : ℕ). NamesAfter (shape_by e.geometry) e.words.items chain (Some n) c.commit.new.self.words.items slot.longer) touch
          (way_names e c.store.new.self c.make_slot.new.self c.commit.new.self (c.args.offset / c.from.result) c.in-Some.block c.touched-count.result ((c.args.offset / c.from.result + c.touched-count.result) * c.from-2.result - (c.args.offset + length c.args.bytes.now)) c.args.offset c.args.bytes.now chain file
          way runs (c.store.ensures.names chain file runs) slot (c.commit.ensures.names slot.longer file slot.runs));
    }
