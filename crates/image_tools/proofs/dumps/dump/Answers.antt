use Rattle.std.proofs.Common.{◌≡◌, ◌++◌, ℕ, List, sym, ap, ◌∙◌, subst}
use Rattle.std.specs.List.{list_all, flat_map}
use Rattle.log_entry.specs.Geometry.{HasShape}
use Rattle.log_image.specs.Header.{shape_of}
use Rattle.log_image.specs.Chains.{IsChain}
use Rattle.log_image.specs.Image.{shape_by}
use Rattle.chain_reader.proofs.WalkLemmas.{all_words, same_shape}
use Rattle.image_tools.specs.Sound.{is_sound_block}
use Rattle.image_tools.specs.DumpText.{block_text, end_text, dump_text}
use Rattle.image_tools.proofs.StartLemmas.{kept_stands, kept_shape}
use Rattle.image_tools.proofs.DumpLemmas.{header_in, read_sound, dump_is}
use Rattle.image_tools.proofs.dumps.dump.Goals as goal

pub read_chain-requires-clause-stands : goal.read_chain-requires-clause-stands
read_chain-requires-clause-stands c = kept_stands c.args.start.now.geometry c.words-words.result.now c.args.start.now.taken.items c.args.start.now.generation c.args.start.now.position c.args.start.now.size c.words-words.ensures.kept

pub read_chain-requires-clause-geometry : goal.read_chain-requires-clause-geometry
read_chain-requires-clause-geometry c =
    subst (λ g. HasShape g (shape_of c.words-words.result.now).data_blocks (shape_of c.words-words.result.now).log_blocks (shape_of c.words-words.result.now).block_bytes) (sym c.geometry-geometry.ensures)
    (kept_shape c.args.start.now.geometry c.words-words.result.now c.args.start.now.taken.items c.args.start.now.generation c.args.start.now.position c.args.start.now.size c.words-words.ensures.kept)

pub push_head-requires : goal.push_head-requires
push_head-requires c =
    header_in c.words-words.result.now c.geometry-geometry.result.now (all_words c.words-words.result.now c.geometry-geometry.result.now
    (kept_stands c.args.start.now.geometry c.words-words.result.now c.args.start.now.taken.items c.args.start.now.generation c.args.start.now.position c.args.start.now.size c.words-words.ensures.kept)
    (subst (λ g. HasShape g (shape_of c.words-words.result.now).data_blocks (shape_of c.words-words.result.now).log_blocks (shape_of c.words-words.result.now).block_bytes) (sym c.geometry-geometry.ensures)
    (kept_shape c.args.start.now.geometry c.words-words.result.now c.args.start.now.taken.items c.args.start.now.generation c.args.start.now.position c.args.start.now.size c.words-words.ensures.kept)))

pub push_blocks-requires-clause-whole : goal.push_blocks-requires-clause-whole
push_blocks-requires-clause-whole c =
    all_words c.words-words.result.now c.geometry-geometry.result.now
    (kept_stands c.args.start.now.geometry c.words-words.result.now c.args.start.now.taken.items c.args.start.now.generation c.args.start.now.position c.args.start.now.size c.words-words.ensures.kept)
    (subst (λ g. HasShape g (shape_of c.words-words.result.now).data_blocks (shape_of c.words-words.result.now).log_blocks (shape_of c.words-words.result.now).block_bytes) (sym c.geometry-geometry.ensures)
    (kept_shape c.args.start.now.geometry c.words-words.result.now c.args.start.now.taken.items c.args.start.now.generation c.args.start.now.position c.args.start.now.size c.words-words.ensures.kept))

pub push_blocks-requires-clause-each : goal.push_blocks-requires-clause-each
push_blocks-requires-clause-each c =
    ap (list_all (is_sound_block c.words-words.result.now (shape_by c.geometry-geometry.result.now))) c.deref.ensures.value
    ∙ read_sound c.words-words.result.now c.geometry-geometry.result.now c.in_ok-read.read
    (kept_stands c.args.start.now.geometry c.words-words.result.now c.args.start.now.taken.items c.args.start.now.generation c.args.start.now.position c.args.start.now.size c.words-words.ensures.kept)
    (subst (λ g. HasShape g (shape_of c.words-words.result.now).data_blocks (shape_of c.words-words.result.now).log_blocks (shape_of c.words-words.result.now).block_bytes) (sym c.geometry-geometry.ensures)
    (kept_shape c.args.start.now.geometry c.words-words.result.now c.args.start.now.taken.items c.args.start.now.generation c.args.start.now.position c.args.start.now.size c.words-words.ensures.kept))
    (record { each = c.in_ok-read.ensures.read })

pub returns : goal.returns
returns c = λ chain linked.
    let words : List ℕ = c.words-words.result.now in
    let has : HasShape c.geometry-geometry.result.now (shape_of words).data_blocks (shape_of words).log_blocks (shape_of words).block_bytes =
    subst (λ g. HasShape g (shape_of words).data_blocks (shape_of words).log_blocks (shape_of words).block_bytes) (sym c.geometry-geometry.ensures)
    (kept_shape c.args.start.now.geometry words c.args.start.now.taken.items c.args.start.now.generation c.args.start.now.position c.args.start.now.size c.words-words.ensures.kept) in
    let linked_here : IsChain words (shape_of words) chain = subst (λ (l : List ℕ). IsChain l (shape_of l) chain) (sym c.words-words.ensures.value) linked in
    subst (λ (l : List ℕ). c.push_end.new.out.items ≡ dump_text l (shape_of l) chain) c.words-words.ensures.value
    (dump_is words c.geometry-geometry.result.now (shape_of words) c.in_ok-read.read chain c.new-out.result.items c.push_shape.new.out.items c.push_head.new.out.items c.push_blocks.new.out.items c.push_end.new.out.items
    (same_shape c.geometry-geometry.result.now (shape_of words) has) c.new-out.ensures.items c.in_ok-push_shape.ensures c.in_ok-push_head.ensures
    (c.in_ok-push_blocks.ensures ∙ ap (λ (l : List ℕ). c.push_head.new.out.items ++ flat_map (block_text words (shape_by c.geometry-geometry.result.now)) l) c.deref.ensures.value)
    (c.in_ok-push_end.ensures ∙ ap (λ (n : ℕ). c.push_blocks.new.out.items ++ end_text c.in_ok-read.read.position n) c.size.ensures)
    (c.in_ok-read.ensures.read chain linked_here))
