-- What the words hold is what the reading came to.
use Rattle.std.proofs.Common.{◌≡◌, List, ℕ, subst}
use Rattle.log_image.specs.Header.{shape_of}
use Rattle.log_image.specs.Tails.{tail_of}
use Rattle.recovery.specs.Openings.{as_tail}
use Rattle.recovery.proofs.OpeningLemmas.{holds_by, generation_by}
use Rattle.recovery.proofs.openings.opened_by.Goals as goal

pub new-requires : goal.new-requires
new-requires c =
    let tail : as_tail c.end_tail-tail.result ≡ tail_of c.args.words.items (shape_of c.args.words.items) c.args.passed.reading.chain.items =
    subst (λ (l : List ℕ). as_tail c.end_tail-tail.result ≡ tail_of l (shape_of l) c.args.passed.reading.chain.items) c.deref.ensures.value c.end_tail-tail.ensures in
    rw (c.into_taken.ensures, c.size-size.ensures)
    (∣ holds_by c.args.words.items c.args.passed.geometry c.args.passed.reading c.of-generation.result c.end_tail-tail.result c.requires
    (generation_by c.args.words.items c.index.result.now c.of-generation.result c.requires.long c.index.ensures c.of-generation.ensures) tail ∣₁)
