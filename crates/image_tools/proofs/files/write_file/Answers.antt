use Rattle.std.proofs.Common.{◌≡◌, ◌<◌, ◌≤◌, ◌+◌, ◌-◌, ◌*◌, ◌++◌, min, ℕ, List, take, append_assoc, sym, ap, ◌∙◌, subst, arith}
use Rattle.io_ends.specs.Giving.{Gives}
use Rattle.io_ends.proofs.GivingLemmas.{gives-twice}
use Rattle.log_entry.specs.Geometry.{HasShape}
use Rattle.log_image.specs.Header.{shape_of}
use Rattle.chain_reader.specs.Reads.{StandForSome}
use Rattle.image_tools.proofs.StartLemmas.{kept_stands, kept_shape, read_within, read_inside}
use Rattle.image_tools.proofs.FileLemmas.{AreLaid, next_laid, before_end, at_end, few_virtual, some_in, if_some, file_begun, file_read, gives_none, gives_part}
use Rattle.image_tools.specs.Files.{held_bytes}
use Rattle.chain_reader.proofs.WalkLemmas.{all_words}
use Rattle.log_image.specs.Image.{total, shape_by}
use Rattle.log_image.specs.Stands.{StandsBy}
use Rattle.std.specs.Int.{div_ceil}
use Rattle.image_tools.proofs.files.write_file.Goals as goal

pub read_chain-requires-clause-stands : goal.read_chain-requires-clause-stands
read_chain-requires-clause-stands g c = kept_stands c.args.start.now.geometry c.words-words.result.now c.args.start.now.taken.items c.args.start.now.generation c.args.start.now.position c.args.start.now.size c.words-words.ensures.kept

pub read_chain-requires-clause-geometry : goal.read_chain-requires-clause-geometry
read_chain-requires-clause-geometry g c =
    subst (λ g. HasShape g (shape_of c.words-words.result.now).data_blocks (shape_of c.words-words.result.now).log_blocks (shape_of c.words-words.result.now).block_bytes) (sym c.geometry.ensures)
    (kept_shape c.args.start.now.geometry c.words-words.result.now c.args.start.now.taken.items c.args.start.now.generation c.args.start.now.position c.args.start.now.size c.words-words.ensures.kept)

pub overflow_cast-virt : goal.overflow_cast-virt
overflow_cast-virt g c =
    let stand : StandForSome c.words-words.result.now = kept_stands c.args.start.now.geometry c.words-words.result.now c.args.start.now.taken.items c.args.start.now.generation c.args.start.now.position c.args.start.now.size c.words-words.ensures.kept in
    let has : HasShape c.geometry.result.now (shape_of c.words-words.result.now).data_blocks (shape_of c.words-words.result.now).log_blocks (shape_of c.words-words.result.now).block_bytes =
    subst (λ g. HasShape g (shape_of c.words-words.result.now).data_blocks (shape_of c.words-words.result.now).log_blocks (shape_of c.words-words.result.now).block_bytes) (sym c.geometry.ensures)
    (kept_shape c.args.start.now.geometry c.words-words.result.now c.args.start.now.taken.items c.args.start.now.generation c.args.start.now.position c.args.start.now.size c.words-words.ensures.kept) in
    let within : c.in-Ok.read.table.size ≤ 65536 * c.geometry.result.now.block_bytes = read_within c.words-words.result.now c.geometry.result.now c.in-Ok.read stand has (record { each = c.in-Ok.ensures.read }) in
    let few : c.loop-virt.virt < 65536 =
    few_virtual c.in-Ok.read.table.size c.geometry.result.now.block_bytes c.loop-virt.virt
    (before_end c.in-Ok.read.table.size c.geometry.result.now.block_bytes c.div_ceil-virt-end.result c.loop-virt.virt (some_in c.geometry.result.now)
    (c.div_ceil-virt-end.ensures ∙ ap (λ (n : ℕ). div_ceil n c.block_bytes-block_bytes.result) c.size-size.ensures ∙ ap (λ (n : ℕ). div_ceil c.in-Ok.read.table.size n) c.block_bytes-block_bytes.ensures.value) c.loop-virt-test.true) within in
    omega (arith, few)

pub add_block-requires-clause-whole : goal.add_block-requires-clause-whole
add_block-requires-clause-whole g c =
    all_words c.words-words.result.now c.geometry.result.now
    (kept_stands c.args.start.now.geometry c.words-words.result.now c.args.start.now.taken.items c.args.start.now.generation c.args.start.now.position c.args.start.now.size c.words-words.ensures.kept)
    (subst (λ g. HasShape g (shape_of c.words-words.result.now).data_blocks (shape_of c.words-words.result.now).log_blocks (shape_of c.words-words.result.now).block_bytes) (sym c.geometry.ensures)
    (kept_shape c.args.start.now.geometry c.words-words.result.now c.args.start.now.taken.items c.args.start.now.generation c.args.start.now.position c.args.start.now.size c.words-words.ensures.kept))

pub add_block-requires-clause-inside : goal.add_block-requires-clause-inside
add_block-requires-clause-inside g c =
    if_some c.block-block.result (total (shape_by c.geometry.result.now)) (λ number found.
    read_inside c.words-words.result.now c.geometry.result.now c.in-Ok.read
    (kept_stands c.args.start.now.geometry c.words-words.result.now c.args.start.now.taken.items c.args.start.now.generation c.args.start.now.position c.args.start.now.size c.words-words.ensures.kept)
    (subst (λ g. HasShape g (shape_of c.words-words.result.now).data_blocks (shape_of c.words-words.result.now).log_blocks (shape_of c.words-words.result.now).block_bytes) (sym c.geometry.ensures)
    (kept_shape c.args.start.now.geometry c.words-words.result.now c.args.start.now.taken.items c.args.start.now.generation c.args.start.now.position c.args.start.now.size c.words-words.ensures.kept))
    (record { each = c.in-Ok.ensures.read }) c.loop-virt.virt number (sym c.block-block.ensures ∙ found))

pub loop-virt-preserved : goal.loop-virt-preserved
loop-virt-preserved g c =
    let given : List ℕ = c.loop-virt.invariant.0.0 in
    let piece : List ℕ = c.loop-virt.piece.items in
    let block : List ℕ = take c.min-count.result (held_bytes c.words-words.result.now (shape_by c.geometry.result.now) c.block-block.result) in
    let before : c.loop-virt.virt * c.geometry.result.now.block_bytes < c.size-size.result =
    before_end c.size-size.result c.geometry.result.now.block_bytes c.div_ceil-virt-end.result c.loop-virt.virt (some_in c.geometry.result.now)
    (c.div_ceil-virt-end.ensures ∙ ap (λ (n : ℕ). div_ceil c.size-size.result n) c.block_bytes-block_bytes.ensures.value) c.loop-virt-test.true in
    let count : c.min-count.result ≡ min c.geometry.result.now.block_bytes (c.size-size.result - c.loop-virt.virt * c.geometry.result.now.block_bytes) =
    c.min-count.ensures ∙ ap (λ (n : ℕ). min n (c.size-size.result - c.loop-virt.virt * n)) c.block_bytes-block_bytes.ensures.value in
    let more : AreLaid c.words-words.result.now (shape_by c.geometry.result.now) c.in-Ok.read.table c.size-size.result (c.loop-virt.virt + 1) (given ++ (piece ++ block)) =
    subst (λ (l : List ℕ). AreLaid c.words-words.result.now (shape_by c.geometry.result.now) c.in-Ok.read.table c.size-size.result (c.loop-virt.virt + 1) l) (append_assoc given piece block)
    (next_laid c.words-words.result.now (shape_by c.geometry.result.now) c.in-Ok.read.table c.size-size.result c.loop-virt.virt c.min-count.result (given ++ piece) c.block-block.result c.block-block.ensures c.add_block.ensures.long before count c.loop-virt.invariant.0.1) in
    let handed = c.in-Ok-add_block.ensures.all in
    let same : given ++ (piece ++ block) ≡ (given ++ handed.front) ++ c.add_block.new.piece.items =
    ap (λ (l : List ℕ). given ++ l) (sym handed.bytes_are) ∙ sym (append_assoc given handed.front c.add_block.new.piece.items) in (
      (
        given ++ handed.front,
        subst (λ (l : List ℕ). AreLaid c.words-words.result.now (shape_by c.geometry.result.now) c.in-Ok.read.table c.size-size.result (c.loop-virt.virt + 1) l) same more,
        gives-twice (g.K.Sink.written c.args.sink.now) (g.K.Sink.written c.loop-virt.sink) (g.K.Sink.written c.add_block.new.sink) given handed.front c.loop-virt.invariant.0.2 handed.gives,
      ),
      omega (arith, c.loop-virt.invariant.1, c.in-Ok-add_block.ensures.later),
      λ exact. c.in-Ok-add_block.ensures.cause exact ∙ c.loop-virt.invariant.2 exact,
    )

pub returns-in_default-clause-part : goal.returns-in_default-clause-part
returns-in_default-clause-part g c = λ chain file position stands. gives_none (g.K.Sink.written c.args.sink.now) file

pub returns-in-Err-clause-part : goal.returns-in-Err-clause-part
returns-in-Err-clause-part g c = λ chain file position stands.
    let has : HasShape c.geometry.result.now (shape_of c.words-words.result.now).data_blocks (shape_of c.words-words.result.now).log_blocks (shape_of c.words-words.result.now).block_bytes =
    subst (λ g. HasShape g (shape_of c.words-words.result.now).data_blocks (shape_of c.words-words.result.now).log_blocks (shape_of c.words-words.result.now).block_bytes) (sym c.geometry.ensures)
    (kept_shape c.args.start.now.geometry c.words-words.result.now c.args.start.now.taken.items c.args.start.now.generation c.args.start.now.position c.args.start.now.size c.words-words.ensures.kept) in
    let by : StandsBy c.words-words.result.now chain file position = subst (λ (l : List ℕ). StandsBy l chain file position) (sym c.words-words.ensures.value) stands in
    let given : List ℕ = c.loop-virt.invariant.0.0 in
    let piece : List ℕ = c.loop-virt.piece.items in
    let block : List ℕ = take c.min-count.result (held_bytes c.words-words.result.now (shape_by c.geometry.result.now) c.block-block.result) in
    let before : c.loop-virt.virt * c.geometry.result.now.block_bytes < c.size-size.result =
    before_end c.size-size.result c.geometry.result.now.block_bytes c.div_ceil-virt-end.result c.loop-virt.virt (some_in c.geometry.result.now)
    (c.div_ceil-virt-end.ensures ∙ ap (λ (n : ℕ). div_ceil c.size-size.result n) c.block_bytes-block_bytes.ensures.value) c.loop-virt-test.true in
    let count : c.min-count.result ≡ min c.geometry.result.now.block_bytes (c.size-size.result - c.loop-virt.virt * c.geometry.result.now.block_bytes) =
    c.min-count.ensures ∙ ap (λ (n : ℕ). min n (c.size-size.result - c.loop-virt.virt * n)) c.block_bytes-block_bytes.ensures.value in
    let more : AreLaid c.words-words.result.now (shape_by c.geometry.result.now) c.in-Ok.read.table c.size-size.result (c.loop-virt.virt + 1) (given ++ (piece ++ block)) =
    subst (λ (l : List ℕ). AreLaid c.words-words.result.now (shape_by c.geometry.result.now) c.in-Ok.read.table c.size-size.result (c.loop-virt.virt + 1) l) (append_assoc given piece block)
    (next_laid c.words-words.result.now (shape_by c.geometry.result.now) c.in-Ok.read.table c.size-size.result c.loop-virt.virt c.min-count.result (given ++ piece) c.block-block.result c.block-block.ensures c.add_block.ensures.long before count c.loop-virt.invariant.0.1) in
    let begun = file_begun c.words-words.result.now c.geometry.result.now c.in-Ok.read chain file position c.size-size.result (c.loop-virt.virt + 1) (given ++ (piece ++ block)) has by (record { each = c.in-Ok.ensures.read }) c.size-size.ensures more in
    gives_part (g.K.Sink.written c.args.sink.now) (g.K.Sink.written c.loop-virt.sink) (g.K.Sink.written c.add_block.new.sink) given (piece ++ block) file c.loop-virt.invariant.0.2 c.in-Err.ensures.part begun.0 (omega (arith, more.long, begun.1))

pub returns-in-Ok-write_all-clause-all : goal.returns-in-Ok-write_all-clause-all
returns-in-Ok-write_all-clause-all g c = λ chain file position stands.
    let has : HasShape c.geometry.result.now (shape_of c.words-words.result.now).data_blocks (shape_of c.words-words.result.now).log_blocks (shape_of c.words-words.result.now).block_bytes =
    subst (λ g. HasShape g (shape_of c.words-words.result.now).data_blocks (shape_of c.words-words.result.now).log_blocks (shape_of c.words-words.result.now).block_bytes) (sym c.geometry.ensures)
    (kept_shape c.args.start.now.geometry c.words-words.result.now c.args.start.now.taken.items c.args.start.now.generation c.args.start.now.position c.args.start.now.size c.words-words.ensures.kept) in
    let by : StandsBy c.words-words.result.now chain file position = subst (λ (l : List ℕ). StandsBy l chain file position) (sym c.words-words.ensures.value) stands in
    let given : List ℕ = c.loop-virt.invariant.0.0 in
    let piece : List ℕ = c.loop-virt.piece.items in
    let same : given ++ piece ≡ file =
    file_read c.words-words.result.now c.geometry.result.now c.in-Ok.read chain file position c.size-size.result c.loop-virt.virt (given ++ piece) has by (record { each = c.in-Ok.ensures.read }) c.size-size.ensures c.loop-virt.invariant.0.1
    (at_end c.size-size.result c.geometry.result.now.block_bytes c.div_ceil-virt-end.result c.loop-virt.virt (some_in c.geometry.result.now)
    (c.div_ceil-virt-end.ensures ∙ ap (λ (n : ℕ). div_ceil c.size-size.result n) c.block_bytes-block_bytes.ensures.value) c.loop-virt-test.false) in
    subst (λ (l : List ℕ). Gives (g.K.Sink.written c.args.sink.now) (g.K.Sink.written c.write_all.new.sink) l) same
    (gives-twice (g.K.Sink.written c.args.sink.now) (g.K.Sink.written c.loop-virt.sink) (g.K.Sink.written c.write_all.new.sink) given piece c.loop-virt.invariant.0.2 (rw c.deref.ensures.value at c.in-Ok-write_all.ensures.all))

pub returns-clause-part : goal.returns-clause-part
returns-clause-part g c = λ chain file position stands.
    let has : HasShape c.geometry.result.now (shape_of c.words-words.result.now).data_blocks (shape_of c.words-words.result.now).log_blocks (shape_of c.words-words.result.now).block_bytes =
    subst (λ g. HasShape g (shape_of c.words-words.result.now).data_blocks (shape_of c.words-words.result.now).log_blocks (shape_of c.words-words.result.now).block_bytes) (sym c.geometry.ensures)
    (kept_shape c.args.start.now.geometry c.words-words.result.now c.args.start.now.taken.items c.args.start.now.generation c.args.start.now.position c.args.start.now.size c.words-words.ensures.kept) in
    let by : StandsBy c.words-words.result.now chain file position = subst (λ (l : List ℕ). StandsBy l chain file position) (sym c.words-words.ensures.value) stands in
    let given : List ℕ = c.loop-virt.invariant.0.0 in
    let piece : List ℕ = c.loop-virt.piece.items in
    let begun = file_begun c.words-words.result.now c.geometry.result.now c.in-Ok.read chain file position c.size-size.result c.loop-virt.virt (given ++ piece) has by (record { each = c.in-Ok.ensures.read }) c.size-size.ensures c.loop-virt.invariant.0.1 in
    gives_part (g.K.Sink.written c.args.sink.now) (g.K.Sink.written c.loop-virt.sink) (g.K.Sink.written c.write_all.new.sink) given piece file c.loop-virt.invariant.0.2 (rw c.deref.ensures.value at c.in-Err-write_all.ensures.part) begun.0 (omega (arith, c.loop-virt.invariant.0.1.long, begun.1))
