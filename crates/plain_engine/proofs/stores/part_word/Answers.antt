use Rattle.std.proofs.Common.{◌≡◌, ◌+◌, ℕ, List, ◌∙◌, get_or, ap, length, arith}
use Rattle.byteorder.specs.Endian.{little_bytes}
use Rattle.plain_engine.specs.Bytes.{laid_byte}
use Rattle.plain_engine.proofs.WordLemmas.{laid_back}
use Rattle.plain_engine.proofs.stores.part_word.Goals as goal

pub returns : goal.returns
returns c =
    let began : c.write_u64.new.buf ≡ little_bytes 8 c.args.word = c.write_u64.ensures in
    let eight : length c.write_u64.new.buf ≡ 8 = ap length began in
    laid_back c.args.offset c.args.bytes.now c.lay_part.new.into c.args.place c.args.word c.read_u64.result (λ i. omega (arith, c.type_inv.bytes i)) (c.lay_part.auto.into ∙ eight)
    (λ k inside. c.lay_part.ensures k (omega (arith, eight, inside)) ∙ ap (λ (l : List ℕ). laid_byte c.args.offset c.args.bytes.now (c.args.place + k) (get_or l k 0)) began)
    c.read_u64.ensures
