-- The words stand behind those that were there.
use Rattle.std.proofs.Common.{◌≡◌, ◌+◌, ◌-◌, ◌*◌, ◌/◌, ◌++◌, ℕ, List, [], length, drop, replicate, vec_len, ◌∙◌, ap, arith, length-drop}
use Rattle.std.proofs.lemmas.Grind.{common_steps}
use Rattle.std.proofs.lemmas.List.{drop_all, take_all}
use Rattle.log_entry.specs.WordBytes.{word_bytes}
use Rattle.word_reader.proofs.BulkLemmas.{end_filled, word_bytes-append, words_read}
use Rattle.word_reader.proofs.reading.push_words.Goals as goal

pub returns-clause-same : goal.returns-clause-same
returns-clause-same c =
    let old : List ℕ = c.args.words.now.items in
    let held : List ℕ = c.deref_mut.result.now in
    let new : List ℕ = c.read_u64_into.new.dst in
    let more : ℕ = c.len-before.result + length c.args.bytes.now / 8 in
    let zeros : List ℕ = replicate (more - vec_len c.args.words.now) 0 in
    let before : c.len-before.result ≡ length old = grind (arith, common_steps, c.len-before.ensures) in
    let is : held ≡ old ++ zeros = c.deref_mut.ensures.value ∙ c.in_ok-resize.ensures.items ∙ ap (λ (l : List ℕ). l ++ zeros) (take_all more old (omega (arith, before))) in
    let all : c.resize.new.self.len ≡ length held = grind (arith, common_steps, c.deref_mut.ensures) in
    let as_many : length new ≡ length zeros = grind (arith, common_steps, c.deref_mut.ensures) in
    let none : drop (length held - c.len-before.result) (drop c.len-before.result held) ≡ [] = drop_all (length held - c.len-before.result) (drop c.len-before.result held) (omega (arith, length-drop c.len-before.result held)) in
    let eight_each : length c.args.bytes.now ≡ 8 * length new = grind (arith, common_steps) in
    let read : word_bytes new ≡ c.args.bytes.now = words_read new c.args.bytes.now eight_each (λ i. omega (arith, c.type_inv.bytes i)) c.read_u64_into.ensures in
    ap (λ (l : List ℕ). word_bytes l) (end_filled held old zeros new (drop (length held - c.len-before.result) (drop c.len-before.result held)) _ c.len-before.result c.resize.new.self.len is before as_many none all)
    ∙ word_bytes-append old new ∙ ap (λ (l : List ℕ). word_bytes old ++ l) read
