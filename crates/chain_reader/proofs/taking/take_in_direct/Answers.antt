use Rattle.std.proofs.Common.{◌≡◌, ◌+◌, ◌-◌, ◌*◌, ℕ, max, length, refl, ap, ◌∙◌, arith, []}
use Rattle.std.proofs.lemmas.List.FromFn.{length-range_with_len}
use Rattle.std.specs.List.{range_with_len}
use Rattle.log_entry.specs.Fields.{field}
use Rattle.log_entry.specs.declared.layouts.TheConstants.{DIRECT_VIRT, DIRECT_BLOCK, DIRECT_COUNT, DIRECT_LEFTOVER}
use Rattle.log_image.specs.Entries.{direct_meaning}
use Rattle.log_image.specs.Maps.{entry_end}
use Rattle.log_image.specs.Image.{shape_by}
use Rattle.chain_reader.proofs.FitsLemmas.{RunNumbers, direct_numbers}
use Rattle.chain_reader.proofs.MapLemmas.{one_run, mapped_as, grown_by, has_map_of}
use Rattle.chain_reader.proofs.taking.take_in_direct.Goals as goal

pub apply-requires-clause-in_file : goal.apply-requires-clause-in_file
apply-requires-clause-in_file c =
    let is : RunNumbers (field DIRECT_VIRT c.args.word) (field DIRECT_BLOCK c.args.word) (field DIRECT_COUNT c.args.word + 1) =
    direct_numbers (shape_by c.args.geometry) 256 c.args.word (omega arith) c.requires in
    omega (arith, is.in_file)

pub end_of-requires : goal.end_of-requires
end_of-requires c =
    let is : RunNumbers (field DIRECT_VIRT c.args.word) (field DIRECT_BLOCK c.args.word) (field DIRECT_COUNT c.args.word + 1) =
    direct_numbers (shape_by c.args.geometry) 256 c.args.word (omega arith) c.requires in
    omega (arith, is.in_file)

pub returns-clause-map : goal.returns-clause-map
returns-clause-map c = λ entries has.
    has_map_of c.apply.new.self c.grow.new.self _ (ap (λ m. m.blocks) c.grow.ensures.grown)
    (one_run c.args.table.now c.apply.new.self [] (field DIRECT_VIRT c.args.word) (field DIRECT_BLOCK c.args.word) (field DIRECT_COUNT c.args.word + 1) (field DIRECT_LEFTOVER c.args.word)
    (mapped_as c.args.table.now c.apply.new.self c.of-virt.result c.of.result (c.of-count.result + 1) (field DIRECT_VIRT c.args.word) (field DIRECT_BLOCK c.args.word) (field DIRECT_COUNT c.args.word + 1)
    c.of-virt.ensures c.of.ensures (ap (λ (n : ℕ). n + 1) c.of-count.ensures) c.apply.ensures.blocks) entries has)

pub returns-clause-size : goal.returns-clause-size
returns-clause-size c =
    let ends : c.end_of.result ≡ entry_end (shape_by c.args.geometry) (direct_meaning c.args.word) =
    c.end_of.ensures ∙ direct_end c.args.geometry.block_bytes c.of-virt.result c.of-count.result c.of-2.result (field DIRECT_VIRT c.args.word) (field DIRECT_BLOCK c.args.word) (field DIRECT_COUNT c.args.word) (field DIRECT_LEFTOVER c.args.word) c.of-virt.ensures c.of-count.ensures c.of-2.ensures in
    grown_by c.args.table.now c.grow.new.self (shape_by c.args.geometry) (direct_meaning c.args.word)
    (ap (λ m. m.size) c.grow.ensures.grown ∙ ap (λ (n : ℕ). max n c.end_of.result) c.apply.ensures.size ∙ ap (λ (n : ℕ). max c.args.table.now.size n) ends)
  where
    direct_end : (bytes virt count leftover a b n l : ℕ) → virt ≡ a → count ≡ n → leftover ≡ l → (virt + (count + 1)) * bytes - leftover ≡ (a + length (range_with_len b (n + 1))) * bytes - l
    direct_end bytes virt count leftover a b n l same_virt same_count same_leftover = rw (length-range_with_len, same_virt, same_count, same_leftover) refl
