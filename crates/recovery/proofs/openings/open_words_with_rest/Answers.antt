-- The words and the rest are the bytes.
use Rattle.std.proofs.Common.{refl, arith}
use Rattle.recovery.proofs.OpeningLemmas.{bytes_refused, bytes_accepted}
use Rattle.recovery.proofs.openings.open_words_with_rest.Goals as goal

pub returns-in-Err : goal.returns-in-Err
returns-in-Err c =
    bytes_refused c.args.words.items c.args.rest.now _ c.in-Err.refusal (rw c.deref-2.ensures.value at c.in-Err.ensures) (omega arith) c.requires (rw c.deref.ensures.value at c.note_range.ensures)

pub returns-in-Ok : goal.returns-in-Ok
returns-in-Ok c =
    bytes_accepted c.args.words.items c.args.rest.now _ c.in-Ok.passed.geometry c.in-Ok.passed.reading c.opened_by.result.words.items (rw c.deref-2.ensures.value at c.in-Ok.ensures) (omega arith) (rw c.opened_by.ensures refl)
    (rw c.deref.ensures.value at c.note_range.ensures)
