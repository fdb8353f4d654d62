use Rattle.std.proofs.Common.{◌-◌, ℕ, List, ◌∙◌, ap, length, drop, arith}
use Rattle.std.proofs.lemmas.List.{take_all, length-drop}
use Rattle.byteorder.specs.Endian.{little_number}
use Rattle.partial_blocks.proofs.WordBack.{whole_laid}
use Rattle.partial_blocks.proofs.bytes.whole_word.Goals as goal

pub returns : goal.returns
returns c =
    let bytes = c.args.bytes.now in
    let at : ℕ = c.args.place - c.args.offset in
    c.read_u64.ensures ∙ (ap (λ (l : List ℕ). little_number 8 l) (take_all (length bytes - at) (drop at bytes) (let long = length-drop at bytes in omega (arith, long)))
    ∙ whole_laid c.args.offset bytes c.args.place c.args.word c.requires.from c.requires.inside)
