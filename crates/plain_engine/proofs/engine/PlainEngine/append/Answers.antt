use Rattle.std.proofs.Common.{◌≡◌, ◌∙◌, ◌<◌, ◌+◌, ◌-◌, ◌*◌, ◌/◌, ℕ, List, Option, Some, None, length, ap, sym, subst, arith}
use Rattle.std.proofs.lemmas.Grind.{common_steps}
use Rattle.log_entry.specs.Legal.{write_refusal, appended_blocks}
use Rattle.log_entry.specs.declared.shapes.Area.{Area}
use Rattle.log_entry.specs.declared.calls.Op.TheVariants.{Append}
use Rattle.log_entry.specs.declared.calls.WriteRefusal.TheVariants.{NoSpace}
use Rattle.log_entry.specs.declared.calls.Reply.TheVariants.{Appended, NotWritten}
use Rattle.log_image.specs.Image.{shape_by}
use Rattle.plain_engine.specs.Engine.{Writes}
use Rattle.plain_engine.specs.Serving.{Serves}
use Rattle.plain_engine.proofs.BoundsLemmas.{bounds}
use Rattle.plain_engine.proofs.ServeLemmas.{IsAllowed, allowed_by, serve_append, refuse_append, no_bytes, append_nothing, refusal_by}
use Rattle.plain_engine.proofs.engine.PlainEngine.append.Goals as goal

pub returns-in-Some : goal.returns-in-Some
returns-in-Some c = λ chain file runs.
    let e = c.args.self.now in
    let some : 0 < length c.bytes-bytes.result.now = grind (arith, common_steps) in
    let at_end : c.size-at.result ≡ length file = c.size-at.ensures ∙ runs.fits.size in
    let same : (length c.bytes-bytes.result.now + 2 * c.from-block.result - 2) / c.from-block.result ≡ appended_blocks e.geometry.block_bytes (length c.bytes-bytes.result.now) = ap (λ (n : ℕ). (length c.bytes-bytes.result.now + 2 * n - 2) / n) (c.from-block.ensures ∙ c.block_bytes.ensures.value) in
    let refusal : write_refusal e.geometry.block_bytes e.position (appended_blocks e.geometry.block_bytes (length c.bytes-bytes.result.now)) (length file + length c.bytes-bytes.result.now) ≡ Some c.in-Some.why =
    refusal_by e.geometry.block_bytes e.position ((length c.bytes-bytes.result.now + 2 * c.from-block.result - 2) / c.from-block.result) _ (c.from.result + c.from-2.result) (length file + length c.bytes-bytes.result.now) c.refusal.result (Some c.in-Some.why) same (omega (arith, c.from.ensures, c.from-2.ensures, at_end)) c.refusal.ensures c.in-Some.is in
    subst (λ (b : List ℕ). Serves e e chain file (Append b) (NotWritten c.in-Some.why)) c.bytes-bytes.ensures
    (refuse_append e chain file c.bytes-bytes.result.now c.in-Some.why some refusal runs)

pub returns-in-None : goal.returns-in-None
returns-in-None c = λ chain file runs.
    let e = c.args.self.now in
    let some : 0 < length c.bytes-bytes.result.now = grind (arith, common_steps) in
    let at_end : c.size-at.result ≡ length file = c.size-at.ensures ∙ runs.fits.size in
    let same : (length c.bytes-bytes.result.now + 2 * c.from-block.result - 2) / c.from-block.result ≡ appended_blocks e.geometry.block_bytes (length c.bytes-bytes.result.now) = ap (λ (n : ℕ). (length c.bytes-bytes.result.now + 2 * n - 2) / n) (c.from-block.ensures ∙ c.block_bytes.ensures.value) in
    let refusal : write_refusal e.geometry.block_bytes e.position (appended_blocks e.geometry.block_bytes (length c.bytes-bytes.result.now)) (length file + length c.bytes-bytes.result.now) ≡ None =
    refusal_by e.geometry.block_bytes e.position ((length c.bytes-bytes.result.now + 2 * c.from-block.result - 2) / c.from-block.result) _ (c.from.result + c.from-2.result) (length file + length c.bytes-bytes.result.now) c.refusal.result (None) same (omega (arith, c.from.ensures, c.from-2.ensures, at_end)) c.refusal.ensures c.in_default.is in
    let writes : Writes e c.write.new.self chain file c.size-at.result c.bytes-bytes.result.now (None) = subst (λ (o : Option Area). Writes e c.write.new.self chain file c.size-at.result c.bytes-bytes.result.now o) c.in-None.is (c.write.ensures chain file runs) in
    subst (λ (b : List ℕ). Serves e c.write.new.self chain file (Append b) (Appended c.size-at.result (length c.bytes-bytes.result.now))) c.bytes-bytes.ensures
    (serve_append e c.write.new.self chain file c.size-at.result c.bytes-bytes.result.now (None) at_end some refusal writes)

pub returns-in-Some-write : goal.returns-in-Some-write
returns-in-Some-write c = λ chain file runs.
    let e = c.args.self.now in
    let some : 0 < length c.bytes-bytes.result.now = grind (arith, common_steps) in
    let at_end : c.size-at.result ≡ length file = c.size-at.ensures ∙ runs.fits.size in
    let same : (length c.bytes-bytes.result.now + 2 * c.from-block.result - 2) / c.from-block.result ≡ appended_blocks e.geometry.block_bytes (length c.bytes-bytes.result.now) = ap (λ (n : ℕ). (length c.bytes-bytes.result.now + 2 * n - 2) / n) (c.from-block.ensures ∙ c.block_bytes.ensures.value) in
    let refusal : write_refusal e.geometry.block_bytes e.position (appended_blocks e.geometry.block_bytes (length c.bytes-bytes.result.now)) (length file + length c.bytes-bytes.result.now) ≡ None =
    refusal_by e.geometry.block_bytes e.position ((length c.bytes-bytes.result.now + 2 * c.from-block.result - 2) / c.from-block.result) _ (c.from.result + c.from-2.result) (length file + length c.bytes-bytes.result.now) c.refusal.result (None) same (omega (arith, c.from.ensures, c.from-2.ensures, at_end)) c.refusal.ensures c.in_default.is in
    let writes : Writes e c.write.new.self chain file c.size-at.result c.bytes-bytes.result.now (Some c.in-Some-write.area) = subst (λ (o : Option Area). Writes e c.write.new.self chain file c.size-at.result c.bytes-bytes.result.now o) c.in-Some-write.is (c.write.ensures chain file runs) in
    subst (λ (b : List ℕ). Serves e c.write.new.self chain file (Append b) (NotWritten (NoSpace c.in-Some-write.area))) c.bytes-bytes.ensures
    (serve_append e c.write.new.self chain file c.size-at.result c.bytes-bytes.result.now (Some c.in-Some-write.area) at_end some refusal writes)

pub returns-then-is_empty : goal.returns-then-is_empty
returns-then-is_empty c = λ chain file runs.
    let e = c.args.self.now in
    let none : length c.bytes-bytes.result.now ≡ 0 = grind (arith, common_steps) in
    append_nothing e chain file c.args.bytes.now c.size-at.result (length c.bytes-bytes.result.now) (no_bytes c.args.bytes.now (ap length (sym c.bytes-bytes.ensures) ∙ none)) (c.size-at.ensures ∙ runs.fits.size) none runs

pub write-requires-clause-room : goal.write-requires-clause-room
write-requires-clause-room c =
    let e = c.args.self.now in
    let b = bounds (shape_by e.geometry) e.words.items e.taken.items e.table e.position e.tail_block e.tail_slot e.first_clear e.kept in
    let allowed : IsAllowed e.geometry.block_bytes e.position ((length c.bytes-bytes.result.now + 2 * c.from-block.result - 2) / c.from-block.result) (c.from.result + c.from-2.result) = allowed_by e.geometry.block_bytes e.position ((length c.bytes-bytes.result.now + 2 * c.from-block.result - 2) / c.from-block.result) (c.from.result + c.from-2.result) (sym c.refusal.ensures ∙ c.in_default.is) in
    omega (arith, b.below, allowed.room)
