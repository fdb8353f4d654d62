use Rattle.std.proofs.Common.{◌≡◌, ◌<◌, ◌+◌, ◌++◌, ◌∷◌, ℕ, List, [], length, sym, ap, ◌∙◌, arith}
use Rattle.log_image.specs.Image.{total, block_words, shape_by}
use Rattle.log_image.specs.Blocks.{base_of}
use Rattle.std.proofs.lemmas.List.{length-append}
use Rattle.chain_reader.proofs.WalkLemmas.{first_ready, taken_here, link_ready, next_sound, next_inside, next_few, all_words, read_is}
use Rattle.chain_reader.proofs.reading.read_chain.Goals as goal

pub take_in_block-requires-clause-sound : goal.take_in_block-requires-clause-sound
take_in_block-requires-clause-sound c =
    next_sound c.args.words.now c.args.geometry [] c.block_at-here.result.now c.of-block.result c.in_ok-table.table c.requires.stands c.requires.geometry
    (c.block_at-here.ensures.value ∙ ap (block_words c.args.words.now (shape_by c.args.geometry)) c.from.ensures)
    (first_ready c.args.words.now (shape_by c.args.geometry) c.in_ok-table.table c.of-block.result c.of-block.ensures c.in_ok-table.ensures.unmapped c.in_ok-table.ensures.size)

pub loop-next-init : goal.loop-next-init
loop-next-init c =
    let here : c.block_at-here.result.now ≡ block_words c.args.words.now (shape_by c.args.geometry) c.of-block.result =
    c.block_at-here.ensures.value ∙ ap (block_words c.args.words.now (shape_by c.args.geometry)) c.from.ensures in
    record {
      walked = taken_here c.args.words.now (shape_by c.args.geometry) [] c.push.new.self.items c.block_at-here.result.now c.of-block.result c.in_ok-table.table c.take_in_block.new.table
          (c.in_ok-push.ensures.items ∙ ap (λ (l : List ℕ). l ++ c.of-block.result ∷ []) c.new-chain.ensures.items) here
          (first_ready c.args.words.now (shape_by c.args.geometry) c.in_ok-table.table c.of-block.result c.of-block.ensures c.in_ok-table.ensures.unmapped c.in_ok-table.ensures.size)
          c.take_in_block.ensures.map c.take_in_block.ensures.size;
      here = here;
      whole = all_words c.args.words.now c.args.geometry c.requires.stands c.requires.geometry;
      long = c.block_at-here.ensures.whole;
      unit = c.take_in_block.ensures.unit ∙ c.in_ok-table.ensures.unit ∙ c.block_bytes.ensures.value;
    }

pub overflow_cast-block-in-Some : goal.overflow_cast-block-in-Some
overflow_cast-block-in-Some c =
    let inside : c.in-Some.next < total (shape_by c.args.geometry) =
    next_inside c.args.words.now c.args.geometry c.loop-next.chain.items c.in-Some.next c.loop-next.table c.requires.stands c.requires.geometry
    (link_ready c.args.words.now (shape_by c.args.geometry) c.loop-next.chain.items c.loop-next.here.now c.loop-next.block c.in-Some.next c.loop-next.table c.loop-next.invariant.here (sym c.in-Some.ensures) c.loop-next.invariant.walked) in
    omega (arith, inside)

pub block_at-here-requires-in-Some-clause-inside : goal.block_at-here-requires-in-Some-clause-inside
block_at-here-requires-in-Some-clause-inside c =
    next_inside c.args.words.now c.args.geometry c.loop-next.chain.items c.in-Some.next c.loop-next.table c.requires.stands c.requires.geometry
    (link_ready c.args.words.now (shape_by c.args.geometry) c.loop-next.chain.items c.loop-next.here.now c.loop-next.block c.in-Some.next c.loop-next.table c.loop-next.invariant.here (sym c.in-Some.ensures) c.loop-next.invariant.walked)

pub take_in_block-requires-in-Some-clause-sound : goal.take_in_block-requires-in-Some-clause-sound
take_in_block-requires-in-Some-clause-sound c =
    next_sound c.args.words.now c.args.geometry c.loop-next.chain.items c.block_at-here-in-Some.result.now c.in-Some.next c.loop-next.table c.requires.stands c.requires.geometry c.block_at-here-in-Some.ensures.value
    (link_ready c.args.words.now (shape_by c.args.geometry) c.loop-next.chain.items c.loop-next.here.now c.loop-next.block c.in-Some.next c.loop-next.table c.loop-next.invariant.here (sym c.in-Some.ensures) c.loop-next.invariant.walked)

pub loop-next-smaller : goal.loop-next-smaller
loop-next-smaller c =
    let few : length c.loop-next.chain.items < total (shape_by c.args.geometry) =
    next_few c.args.words.now c.args.geometry c.loop-next.chain.items c.in-Some.next c.loop-next.table c.requires.stands c.requires.geometry
    (link_ready c.args.words.now (shape_by c.args.geometry) c.loop-next.chain.items c.loop-next.here.now c.loop-next.block c.in-Some.next c.loop-next.table c.loop-next.invariant.here (sym c.in-Some.ensures) c.loop-next.invariant.walked) in
    omega (arith, few, ap length c.in_ok-push-2.ensures.items, length-append {A = ℕ})

pub loop-next-preserved : goal.loop-next-preserved
loop-next-preserved c = record {
  walked = taken_here c.args.words.now (shape_by c.args.geometry) c.loop-next.chain.items c.push-in-Some.new.self.items c.block_at-here-in-Some.result.now c.in-Some.next c.loop-next.table c.take_in_block-in-Some.new.table
      c.in_ok-push-2.ensures.items c.block_at-here-in-Some.ensures.value
      (link_ready c.args.words.now (shape_by c.args.geometry) c.loop-next.chain.items c.loop-next.here.now c.loop-next.block c.in-Some.next c.loop-next.table c.loop-next.invariant.here (sym c.in-Some.ensures) c.loop-next.invariant.walked)
      c.take_in_block-in-Some.ensures.map c.take_in_block-in-Some.ensures.size;
  here = c.block_at-here-in-Some.ensures.value;
  whole = c.loop-next.invariant.whole;
  long = c.block_at-here-in-Some.ensures.whole;
  unit = c.take_in_block-in-Some.ensures.unit ∙ c.loop-next.invariant.unit;
}

pub returns-clause-read : goal.returns-clause-read
returns-clause-read c =
    read_is c.args.words.now c.args.geometry c.loop-next.here.now _ c.requires.stands c.requires.geometry c.loop-next.invariant.here (sym c.in_default.ensures) c.loop-next.invariant.walked
    (ap (λ (n : ℕ). n + length c.entries_in-count.result.now) c.of-tail_base.ensures ∙ ap (λ (n : ℕ). base_of c.loop-next.here.now + n) (ap length c.entries_in-count.ensures))
    c.end_slot_in.ensures c.of-tail_base.ensures
