use Rattle.std.proofs.Common.{◌≡◌, ◌+◌, ℕ, List, ◌∙◌, get_or, ap, length, arith}
use Rattle.byteorder.specs.Endian.{little_bytes}
use Rattle.partial_blocks.specs.Bytes.{laid_byte}
use Rattle.partial_blocks.proofs.WordBack.{part_laid}
use Rattle.partial_blocks.proofs.bytes.part_word.Goals as goal

pub returns : goal.returns
returns c =
    let began : c.write_u64.new.buf ≡ little_bytes 8 c.args.word = c.write_u64.ensures in
    let eight : length c.write_u64.new.buf ≡ 8 = ap length began in
    c.read_u64.ensures ∙ part_laid c.args.offset c.args.bytes.now c.lay_part.new.into c.args.place c.args.word
    (λ k inside. c.lay_part.ensures k (omega (arith, eight, inside)) ∙ ap (λ (l : List ℕ). laid_byte c.args.offset c.args.bytes.now (c.args.place + k) (get_or l k 0)) began)
