use Rattle.std.proofs.Common.{◌≡◌, ◌+◌, ◌≤◌, ◌<◌, ◌∷◌, ℕ, List, [], Option, length, take, slice_index_or, refl, sym, ap, ◌∙◌, arith}
use Rattle.std.specs.List.{flat_map, range_with_len}
use Rattle.log_entry.specs.Fields.{field}
use Rattle.log_entry.specs.declared.layouts.TheConstants.{RUNS_VIRT, RUNS_RUNS, RUNS_LEFTOVER, RUN_BLOCK, RUN_COUNT}
use Rattle.log_image.specs.Entries.{indirect_meaning, run_words, run_blocks}
use Rattle.pmem_words.specs.declared.keeps.KeptWord.{KeptWord}
use Rattle.pmem_words.specs.Noted.{noted_more}
use Rattle.pmem_words.specs.Seats.{Seat, Blocks}
use Rattle.log_core.specs.Works.{with_entry, blocks_noted}
use Rattle.chain_reader.proofs.RunsLemmas.{first_runs}
use Rattle.log_blocks.proofs.EntryMaps.{noted_on}
use Rattle.log_blocks.specs.Taking.{kept_words, passed}
use Rattle.log_blocks.proofs.KeptRuns.{no_word, run_fits, run_inside, past_more, map_more, map_none, map_all, past_all, longer, all_runs, virt_is, leftover_is}
use Rattle.log_blocks.proofs.taking.take_indirect.Goals as goal

-- the words at hand are those that the seat had kept
at_kept : (now kept : List KeptWord) (f : ℕ → ℕ) (k n : ℕ) → now ≡ kept → n ≡ f (slice_index_or now k no_word).word → n ≡ f (slice_index_or kept k no_word).word
at_kept now kept f k n same is = is ∙ ap (λ (l : List KeptWord). f (slice_index_or l k no_word).word) same

-- the seat in the loop has kept the same
same_kept : (now : List KeptWord) (s t : Seat) (map : List (Option ℕ)) (blocks : Blocks) → now ≡ t.walk.kept → t ≡ record s { walk = record s.walk { map = map }; blocks = blocks } → now ≡ s.walk.kept
same_kept now s t map blocks is same = is ∙ ap (λ (u : Seat). u.walk.kept) same

pub loop-place-init : goal.loop-place-init
loop-place-init c =
    (let s : Seat = c.args.seat.now in
    record {
      seat = c.note.ensures ∙ ap (λ (map : List (Option ℕ)). record s { walk = record s.walk { map = map }; blocks = blocks_noted s (c.args.block ∷ []) }) (map_none s c.args.block c.requires.whole c.requires.runs c.requires.fits);
      past = omega arith;
    })

pub overflow_cast-past : goal.overflow_cast-past
overflow_cast-past c =
    (let s : Seat = c.args.seat.now in
    let now = same_kept c.kept-in-loop-place.result.now s c.loop-place.seat _ _ c.kept-in-loop-place.ensures c.loop-place.invariant.seat in
    let last = at_kept c.kept.result.now s.walk.kept (field RUNS_RUNS) 1 c.of-place-end.result (c.kept.ensures ∙ ap (λ (t : Seat). t.walk.kept) c.note.ensures) c.of-place-end.ensures in
    let virt = at_kept c.kept.result.now s.walk.kept (field RUNS_VIRT) 1 c.of-virt.result (c.kept.ensures ∙ ap (λ (t : Seat). t.walk.kept) c.note.ensures) c.of-virt.ensures in
    let low : c.loop-place.place < field RUNS_RUNS (slice_index_or s.walk.kept 1 no_word).word = (let less = c.loop-place-test.true in omega (arith, less, last)) in
    let past = c.loop-place.invariant.past ∙ ap (λ (n : ℕ). n + length (flat_map run_blocks (take c.loop-place.place (run_words (kept_words s))))) virt in
    let is = run_fits s c.args.block c.requires.whole c.requires.runs c.requires.fits c.loop-place.place c.loop-place.past (field RUN_BLOCK (slice_index_or s.walk.kept (2 + c.loop-place.place) no_word).word) c.of-count.result
    low past refl (at_kept c.kept-in-loop-place.result.now s.walk.kept (field RUN_COUNT) (2 + c.loop-place.place) c.of-count.result now c.of-count.ensures) in
    omega (arith, is.numbers.in_file, is.numbers.some))

pub apply-requires-clause-some : goal.apply-requires-clause-some
apply-requires-clause-some c =
    (let s : Seat = c.args.seat.now in
    let now = same_kept c.kept-in-loop-place.result.now s c.loop-place.seat _ _ c.kept-in-loop-place.ensures c.loop-place.invariant.seat in
    let last = at_kept c.kept.result.now s.walk.kept (field RUNS_RUNS) 1 c.of-place-end.result (c.kept.ensures ∙ ap (λ (t : Seat). t.walk.kept) c.note.ensures) c.of-place-end.ensures in
    let virt = at_kept c.kept.result.now s.walk.kept (field RUNS_VIRT) 1 c.of-virt.result (c.kept.ensures ∙ ap (λ (t : Seat). t.walk.kept) c.note.ensures) c.of-virt.ensures in
    let low : c.loop-place.place < field RUNS_RUNS (slice_index_or s.walk.kept 1 no_word).word = (let less = c.loop-place-test.true in omega (arith, less, last)) in
    let past = c.loop-place.invariant.past ∙ ap (λ (n : ℕ). n + length (flat_map run_blocks (take c.loop-place.place (run_words (kept_words s))))) virt in
    let first = at_kept c.kept-in-loop-place.result.now s.walk.kept (field RUN_BLOCK) (2 + c.loop-place.place) c.of-block.result now c.of-block.ensures in
    let count = at_kept c.kept-in-loop-place.result.now s.walk.kept (field RUN_COUNT) (2 + c.loop-place.place) c.of-count.result now c.of-count.ensures in
    let is = run_fits s c.args.block c.requires.whole c.requires.runs c.requires.fits c.loop-place.place c.loop-place.past c.of-block.result c.of-count.result low past first count in
    is.numbers.some)

pub apply-requires-clause-cut : goal.apply-requires-clause-cut
apply-requires-clause-cut c =
    (let s : Seat = c.args.seat.now in
    let now = same_kept c.kept-in-loop-place.result.now s c.loop-place.seat _ _ c.kept-in-loop-place.ensures c.loop-place.invariant.seat in
    let last = at_kept c.kept.result.now s.walk.kept (field RUNS_RUNS) 1 c.of-place-end.result (c.kept.ensures ∙ ap (λ (t : Seat). t.walk.kept) c.note.ensures) c.of-place-end.ensures in
    let virt = at_kept c.kept.result.now s.walk.kept (field RUNS_VIRT) 1 c.of-virt.result (c.kept.ensures ∙ ap (λ (t : Seat). t.walk.kept) c.note.ensures) c.of-virt.ensures in
    let low : c.loop-place.place < field RUNS_RUNS (slice_index_or s.walk.kept 1 no_word).word = (let less = c.loop-place-test.true in omega (arith, less, last)) in
    let past = c.loop-place.invariant.past ∙ ap (λ (n : ℕ). n + length (flat_map run_blocks (take c.loop-place.place (run_words (kept_words s))))) virt in
    let first = at_kept c.kept-in-loop-place.result.now s.walk.kept (field RUN_BLOCK) (2 + c.loop-place.place) c.of-block.result now c.of-block.ensures in
    let count = at_kept c.kept-in-loop-place.result.now s.walk.kept (field RUN_COUNT) (2 + c.loop-place.place) c.of-count.result now c.of-count.ensures in
    let is = run_fits s c.args.block c.requires.whole c.requires.runs c.requires.fits c.loop-place.place c.loop-place.past c.of-block.result c.of-count.result low past first count in
    is.cut)

pub apply-requires-clause-taken : goal.apply-requires-clause-taken
apply-requires-clause-taken c =
    (let s : Seat = c.args.seat.now in
    let now = same_kept c.kept-in-loop-place.result.now s c.loop-place.seat _ _ c.kept-in-loop-place.ensures c.loop-place.invariant.seat in
    let last = at_kept c.kept.result.now s.walk.kept (field RUNS_RUNS) 1 c.of-place-end.result (c.kept.ensures ∙ ap (λ (t : Seat). t.walk.kept) c.note.ensures) c.of-place-end.ensures in
    let virt = at_kept c.kept.result.now s.walk.kept (field RUNS_VIRT) 1 c.of-virt.result (c.kept.ensures ∙ ap (λ (t : Seat). t.walk.kept) c.note.ensures) c.of-virt.ensures in
    let low : c.loop-place.place < field RUNS_RUNS (slice_index_or s.walk.kept 1 no_word).word = (let less = c.loop-place-test.true in omega (arith, less, last)) in
    let past = c.loop-place.invariant.past ∙ ap (λ (n : ℕ). n + length (flat_map run_blocks (take c.loop-place.place (run_words (kept_words s))))) virt in
    let first = at_kept c.kept-in-loop-place.result.now s.walk.kept (field RUN_BLOCK) (2 + c.loop-place.place) c.of-block.result now c.of-block.ensures in
    let count = at_kept c.kept-in-loop-place.result.now s.walk.kept (field RUN_COUNT) (2 + c.loop-place.place) c.of-count.result now c.of-count.ensures in
    let is = run_fits s c.args.block c.requires.whole c.requires.runs c.requires.fits c.loop-place.place c.loop-place.past c.of-block.result c.of-count.result low past first count in
    is.numbers.taken)

pub apply-requires-clause-in_file : goal.apply-requires-clause-in_file
apply-requires-clause-in_file c =
    (let s : Seat = c.args.seat.now in
    let now = same_kept c.kept-in-loop-place.result.now s c.loop-place.seat _ _ c.kept-in-loop-place.ensures c.loop-place.invariant.seat in
    let last = at_kept c.kept.result.now s.walk.kept (field RUNS_RUNS) 1 c.of-place-end.result (c.kept.ensures ∙ ap (λ (t : Seat). t.walk.kept) c.note.ensures) c.of-place-end.ensures in
    let virt = at_kept c.kept.result.now s.walk.kept (field RUNS_VIRT) 1 c.of-virt.result (c.kept.ensures ∙ ap (λ (t : Seat). t.walk.kept) c.note.ensures) c.of-virt.ensures in
    let low : c.loop-place.place < field RUNS_RUNS (slice_index_or s.walk.kept 1 no_word).word = (let less = c.loop-place-test.true in omega (arith, less, last)) in
    let past = c.loop-place.invariant.past ∙ ap (λ (n : ℕ). n + length (flat_map run_blocks (take c.loop-place.place (run_words (kept_words s))))) virt in
    let first = at_kept c.kept-in-loop-place.result.now s.walk.kept (field RUN_BLOCK) (2 + c.loop-place.place) c.of-block.result now c.of-block.ensures in
    let count = at_kept c.kept-in-loop-place.result.now s.walk.kept (field RUN_COUNT) (2 + c.loop-place.place) c.of-count.result now c.of-count.ensures in
    let is = run_fits s c.args.block c.requires.whole c.requires.runs c.requires.fits c.loop-place.place c.loop-place.past c.of-block.result c.of-count.result low past first count in
    is.numbers.in_file)

pub apply-requires-clause-in_image : goal.apply-requires-clause-in_image
apply-requires-clause-in_image c =
    (let s : Seat = c.args.seat.now in
    let now = same_kept c.kept-in-loop-place.result.now s c.loop-place.seat _ _ c.kept-in-loop-place.ensures c.loop-place.invariant.seat in
    let last = at_kept c.kept.result.now s.walk.kept (field RUNS_RUNS) 1 c.of-place-end.result (c.kept.ensures ∙ ap (λ (t : Seat). t.walk.kept) c.note.ensures) c.of-place-end.ensures in
    let virt = at_kept c.kept.result.now s.walk.kept (field RUNS_VIRT) 1 c.of-virt.result (c.kept.ensures ∙ ap (λ (t : Seat). t.walk.kept) c.note.ensures) c.of-virt.ensures in
    let low : c.loop-place.place < field RUNS_RUNS (slice_index_or s.walk.kept 1 no_word).word = (let less = c.loop-place-test.true in omega (arith, less, last)) in
    let past = c.loop-place.invariant.past ∙ ap (λ (n : ℕ). n + length (flat_map run_blocks (take c.loop-place.place (run_words (kept_words s))))) virt in
    let first = at_kept c.kept-in-loop-place.result.now s.walk.kept (field RUN_BLOCK) (2 + c.loop-place.place) c.of-block.result now c.of-block.ensures in
    let count = at_kept c.kept-in-loop-place.result.now s.walk.kept (field RUN_COUNT) (2 + c.loop-place.place) c.of-count.result now c.of-count.ensures in
    let is = run_fits s c.args.block c.requires.whole c.requires.runs c.requires.fits c.loop-place.place c.loop-place.past c.of-block.result c.of-count.result low past first count in
    is.numbers.in_image)

pub note_run-requires : goal.note_run-requires
note_run-requires c =
    (let s : Seat = c.args.seat.now in
    let now = same_kept c.kept-in-loop-place.result.now s c.loop-place.seat _ _ c.kept-in-loop-place.ensures c.loop-place.invariant.seat in
    let last = at_kept c.kept.result.now s.walk.kept (field RUNS_RUNS) 1 c.of-place-end.result (c.kept.ensures ∙ ap (λ (t : Seat). t.walk.kept) c.note.ensures) c.of-place-end.ensures in
    let virt = at_kept c.kept.result.now s.walk.kept (field RUNS_VIRT) 1 c.of-virt.result (c.kept.ensures ∙ ap (λ (t : Seat). t.walk.kept) c.note.ensures) c.of-virt.ensures in
    let low : c.loop-place.place < field RUNS_RUNS (slice_index_or s.walk.kept 1 no_word).word = (let less = c.loop-place-test.true in omega (arith, less, last)) in
    let past = c.loop-place.invariant.past ∙ ap (λ (n : ℕ). n + length (flat_map run_blocks (take c.loop-place.place (run_words (kept_words s))))) virt in
    let first = at_kept c.kept-in-loop-place.result.now s.walk.kept (field RUN_BLOCK) (2 + c.loop-place.place) c.of-block.result now c.of-block.ensures in
    let count = at_kept c.kept-in-loop-place.result.now s.walk.kept (field RUN_COUNT) (2 + c.loop-place.place) c.of-count.result now c.of-count.ensures in
    (let inside = run_inside s c.args.block c.requires.whole c.requires.runs c.requires.fits c.loop-place.place c.of-block.result c.of-count.result low first count in rw (c.apply.ensures, c.loop-place.invariant.seat) (omega (arith, inside))))

pub overflow_add-past : goal.overflow_add-past
overflow_add-past c =
    (let s : Seat = c.args.seat.now in
    let now = same_kept c.kept-in-loop-place.result.now s c.loop-place.seat _ _ c.kept-in-loop-place.ensures c.loop-place.invariant.seat in
    let last = at_kept c.kept.result.now s.walk.kept (field RUNS_RUNS) 1 c.of-place-end.result (c.kept.ensures ∙ ap (λ (t : Seat). t.walk.kept) c.note.ensures) c.of-place-end.ensures in
    let virt = at_kept c.kept.result.now s.walk.kept (field RUNS_VIRT) 1 c.of-virt.result (c.kept.ensures ∙ ap (λ (t : Seat). t.walk.kept) c.note.ensures) c.of-virt.ensures in
    let low : c.loop-place.place < field RUNS_RUNS (slice_index_or s.walk.kept 1 no_word).word = (let less = c.loop-place-test.true in omega (arith, less, last)) in
    let past = c.loop-place.invariant.past ∙ ap (λ (n : ℕ). n + length (flat_map run_blocks (take c.loop-place.place (run_words (kept_words s))))) virt in
    let first = at_kept c.kept-in-loop-place.result.now s.walk.kept (field RUN_BLOCK) (2 + c.loop-place.place) c.of-block.result now c.of-block.ensures in
    let count = at_kept c.kept-in-loop-place.result.now s.walk.kept (field RUN_COUNT) (2 + c.loop-place.place) c.of-count.result now c.of-count.ensures in
    let is = run_fits s c.args.block c.requires.whole c.requires.runs c.requires.fits c.loop-place.place c.loop-place.past c.of-block.result c.of-count.result low past first count in
    omega (arith, is.numbers.in_file))

pub loop-place-preserved : goal.loop-place-preserved
loop-place-preserved c =
    (let s : Seat = c.args.seat.now in
    let now = same_kept c.kept-in-loop-place.result.now s c.loop-place.seat _ _ c.kept-in-loop-place.ensures c.loop-place.invariant.seat in
    let last = at_kept c.kept.result.now s.walk.kept (field RUNS_RUNS) 1 c.of-place-end.result (c.kept.ensures ∙ ap (λ (t : Seat). t.walk.kept) c.note.ensures) c.of-place-end.ensures in
    let virt = at_kept c.kept.result.now s.walk.kept (field RUNS_VIRT) 1 c.of-virt.result (c.kept.ensures ∙ ap (λ (t : Seat). t.walk.kept) c.note.ensures) c.of-virt.ensures in
    let low : c.loop-place.place < field RUNS_RUNS (slice_index_or s.walk.kept 1 no_word).word = (let less = c.loop-place-test.true in omega (arith, less, last)) in
    let past = c.loop-place.invariant.past ∙ ap (λ (n : ℕ). n + length (flat_map run_blocks (take c.loop-place.place (run_words (kept_words s))))) virt in
    let first = at_kept c.kept-in-loop-place.result.now s.walk.kept (field RUN_BLOCK) (2 + c.loop-place.place) c.of-block.result now c.of-block.ensures in
    let count = at_kept c.kept-in-loop-place.result.now s.walk.kept (field RUN_COUNT) (2 + c.loop-place.place) c.of-count.result now c.of-count.ensures in
    record {
      seat = rw (c.note_run.ensures, c.apply.ensures, c.loop-place.invariant.seat)
          (ap (λ (map : List (Option ℕ)). record s { walk = record s.walk { map = map }; blocks = record s.blocks { named = noted_more s.calling.noting (noted_more s.calling.noting s.blocks.named (c.args.block ∷ flat_map run_blocks (take c.loop-place.place (run_words (kept_words s))))) (range_with_len c.of-block.result c.of-count.result) } })
          (map_more s c.args.block c.requires.whole c.requires.runs c.requires.fits c.loop-place.place c.loop-place.past c.of-block.result c.of-count.result low past first count)
          ∙ ap (λ (words : List ℕ). record s { walk = record s.walk { map = with_entry (first_runs c.args.block (kept_words s) (c.loop-place.place + 1)) s.walk.map }; blocks = record s.blocks { named = words } })
          (noted_on s.calling.noting s.blocks.named (c.args.block ∷ flat_map run_blocks (take c.loop-place.place (run_words (kept_words s)))) (range_with_len c.of-block.result c.of-count.result)
          ∙ ap (λ (l : List ℕ). noted_more s.calling.noting s.blocks.named (c.args.block ∷ l)) (sym (longer s c.args.block c.requires.whole c.requires.runs c.requires.fits c.loop-place.place c.of-block.result c.of-count.result low first count))));
      past = past_more s c.args.block c.requires.whole c.requires.runs c.requires.fits c.loop-place.place c.loop-place.past c.of-block.result c.of-count.result low past first count
          ∙ ap (λ (n : ℕ). n + length (flat_map run_blocks (take (c.loop-place.place + 1) (run_words (kept_words s))))) (sym virt);
    })

pub returns : goal.returns
returns c =
    (let s : Seat = c.args.seat.now in
    let last = at_kept c.kept.result.now s.walk.kept (field RUNS_RUNS) 1 c.of-place-end.result (c.kept.ensures ∙ ap (λ (t : Seat). t.walk.kept) c.note.ensures) c.of-place-end.ensures in
    let virt = at_kept c.kept.result.now s.walk.kept (field RUNS_VIRT) 1 c.of-virt.result (c.kept.ensures ∙ ap (λ (t : Seat). t.walk.kept) c.note.ensures) c.of-virt.ensures in
    let late : field RUNS_RUNS (slice_index_or s.walk.kept 1 no_word).word ≤ c.loop-place.place = (let less = c.loop-place-test.false in omega (arith, less, last)) in
    let past = past_all s c.args.block c.requires.whole c.requires.runs c.requires.fits c.loop-place.place c.loop-place.past late
    (c.loop-place.invariant.past ∙ ap (λ (n : ℕ). n + length (flat_map run_blocks (take c.loop-place.place (run_words (kept_words s))))) virt) in
    let passed_so : c.pass_entry.new.seat ≡ passed c.loop-place.seat (indirect_meaning c.args.block (kept_words s)) =
    c.pass_entry.ensures (indirect_meaning c.args.block (kept_words s)) (record {
      virt_is = virt_is s c.args.block c.requires.whole c.requires.runs c.requires.fits ∙ sym virt;
      count_is = omega (arith, past, virt);
      leftover_is = leftover_is s c.args.block c.requires.whole c.requires.runs c.requires.fits ∙ sym (at_kept c.kept.result.now s.walk.kept (field RUNS_LEFTOVER) 1 c.of.result (c.kept.ensures ∙ ap (λ (t : Seat). t.walk.kept) c.note.ensures) c.of.ensures);
    }) in
    passed_so ∙ (rw c.loop-place.invariant.seat
    (ap (λ (map : List (Option ℕ)). passed (record s { walk = record s.walk { map = map }; blocks = blocks_noted s (c.args.block ∷ flat_map run_blocks (take c.loop-place.place (run_words (kept_words s)))) }) (indirect_meaning c.args.block (kept_words s)))
    (map_all s c.args.block c.requires.whole c.requires.runs c.requires.fits c.loop-place.place late)
    ∙ ap (λ (runs : List ℕ). passed (record s { walk = record s.walk { map = with_entry (indirect_meaning c.args.block (kept_words s)) s.walk.map }; blocks = blocks_noted s (c.args.block ∷ flat_map run_blocks runs) }) (indirect_meaning c.args.block (kept_words s)))
    (all_runs s c.args.block c.requires.whole c.requires.runs c.requires.fits c.loop-place.place late))))
