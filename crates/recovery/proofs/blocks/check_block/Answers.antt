use Rattle.std.proofs.Common.{◌≡◌, ◌++◌, ◌∷◌, [], ◌∙◌, ap, sym, subst, not, ℕ, List, arith}
use Rattle.std.proofs.lemmas.Result.{err_from_is_err_and}
use Rattle.std.proofs.lemmas.List.{with_items_is}
use Rattle.std.specs.Vec.{with_items}
use Rattle.log_image.specs.Image.{block_words, shape_by}
use Rattle.log_image.specs.Entries.{all_names}
use Rattle.opening_rules.specs.BlockChecks.{place_after}
use Rattle.recovery.specs.Names.{HasNamed}
use Rattle.recovery.specs.Slots.{HasEntries}
use Rattle.recovery.proofs.CheckLemmas.{begins, words_refused, slots_refused, refused_as, sets_as, link_checked}
use Rattle.recovery.proofs.blocks.check_block.Goals as goal

pub returns-in_err-check_words-clause-answer : goal.returns-in_err-check_words-clause-answer
returns-in_err-check_words-clause-answer c = λ place agrees.
    let own : c.block_at-own.result.now ≡ block_words c.args.words.now (shape_by c.args.geometry) c.args.block = c.block_at-own.ensures.value ∙ ap (λ (n : ℕ). block_words c.args.words.now (shape_by c.args.geometry) n) c.from.ensures in
    let p = err_from_is_err_and c.from_residual.result c.from_residual.ensures.1 in
    rw (p.1, p.2) (refused_as c.args.words.now (shape_by c.args.geometry) place c.args.block c.block_at-own.result.now c.in_err-check_words.field-0.0 c.args.reading.now own
    (words_refused c.args.words.now (shape_by c.args.geometry) place c.args.block c.block_at-own.result.now c.in_err-check_words.field-0.0 (c.in_err-check_words.ensures place agrees)))

pub returns-in_err-ended-clause-answer : goal.returns-in_err-ended-clause-answer
returns-in_err-ended-clause-answer c = λ place agrees.
    let own : c.block_at-own.result.now ≡ block_words c.args.words.now (shape_by c.args.geometry) c.args.block = c.block_at-own.ensures.value ∙ ap (λ (n : ℕ). block_words c.args.words.now (shape_by c.args.geometry) n) c.from.ensures in
    let due = c.in_ok-check_words.ensures place agrees in
    let bits : c.deref_mut-2.result.now ≡ c.set.new.taken = c.deref_mut-2.ensures.value ∙ with_items_is c.args.reading.now.taken c.set.new.taken (omega arith) in
    let has = begins (shape_by c.args.geometry) c.args.reading.now place c.args.block c.set.new.taken agrees c.requires.inside
    (sets_as (shape_by c.args.geometry) c.args.block c.deref_mut.result.now c.args.reading.now.taken.items c.set.new.taken c.deref_mut.ensures.value (c.set.ensures (shape_by c.args.geometry))) in
    let found = c.in_err-ended.ensures.answer (place.before ++ c.args.block ∷ []) place
    (subst (λ (l : List ℕ). HasEntries (shape_by c.args.geometry) c.args.reading.now.table l (place.before ++ c.args.block ∷ []) place.size place.entries) (sym bits) has) agrees.begun due.0 due.1 in
    let p = err_from_is_err_and c.from_residual-in_err-ended.result c.from_residual-in_err-ended.ensures.1 in
    rw (p.1, p.2) (refused_as c.args.words.now (shape_by c.args.geometry) place c.args.block c.block_at-own.result.now c.in_err-ended.field-0.0 c.args.reading.now own
    (slots_refused c.args.words.now (shape_by c.args.geometry) place c.args.block c.block_at-own.result.now c.in_err-ended.field-0.0 due found))

pub returns-clause-answer : goal.returns-clause-answer
returns-clause-answer c = λ place agrees.
    let own : c.block_at-own.result.now ≡ block_words c.args.words.now (shape_by c.args.geometry) c.args.block = c.block_at-own.ensures.value ∙ ap (λ (n : ℕ). block_words c.args.words.now (shape_by c.args.geometry) n) c.from.ensures in
    let due = c.in_ok-check_words.ensures place agrees in
    let bits : c.deref_mut-2.result.now ≡ c.set.new.taken = c.deref_mut-2.ensures.value ∙ with_items_is c.args.reading.now.taken c.set.new.taken (omega arith) in
    let has = begins (shape_by c.args.geometry) c.args.reading.now place c.args.block c.set.new.taken agrees c.requires.inside
    (sets_as (shape_by c.args.geometry) c.args.block c.deref_mut.result.now c.args.reading.now.taken.items c.set.new.taken c.deref_mut.ensures.value (c.set.ensures (shape_by c.args.geometry))) in
    let reads = c.in_ok-ended.ensures.answer (place.before ++ c.args.block ∷ []) place
    (subst (λ (l : List ℕ). HasEntries (shape_by c.args.geometry) c.args.reading.now.table l (place.before ++ c.args.block ∷ []) place.size place.entries) (sym bits) has) agrees.begun due.0 due.1 in
    let items : (with_items (with_items c.args.reading.now.taken c.set.new.taken) c.read_slots.new.taken).items ≡ c.read_slots.new.taken = with_items_is (with_items c.args.reading.now.taken c.set.new.taken) c.read_slots.new.taken (omega arith) in
    let last : c.deref.result.now ≡ c.read_slots.new.taken = c.deref.ensures.value ∙ items in
    link_checked c.follow.result c.args.words.now (shape_by c.args.geometry) place c.args.block c.block_at-own.result.now _ own due reads.0
    (record {
      in_logs = ap not c.is_snapshot.ensures;
      position = reads.2;
      below = c.in_ok-ended.ensures.below;
      has = subst (λ (l : List ℕ). HasEntries (shape_by c.args.geometry) c.read_slots.new.table l (place.before ++ c.args.block ∷ []) (place_after c.args.words.now (shape_by c.args.geometry) place c.args.block c.block_at-own.result.now).size (place_after c.args.words.now (shape_by c.args.geometry) place c.args.block c.block_at-own.result.now).entries) (sym items) reads.3;
    })
    (c.follow.ensures (place.before ++ c.args.block ∷ []) (all_names (place_after c.args.words.now (shape_by c.args.geometry) place c.args.block c.block_at-own.result.now).entries)
    (subst (λ (l : List ℕ). HasNamed (shape_by c.args.geometry) l (place.before ++ c.args.block ∷ []) (all_names (place_after c.args.words.now (shape_by c.args.geometry) place c.args.block c.block_at-own.result.now).entries)) (sym last) reads.3.named) reads.1)
