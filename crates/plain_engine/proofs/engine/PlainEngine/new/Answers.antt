use Rattle.std.proofs.Common.{◌≡◌, ◌∙◌, ℕ, List, ap, sym, subst}
use Rattle.std.proofs.Math.Logic.{∥∥₁_map}
use Rattle.log_entry.specs.Geometry.{HasShape}
use Rattle.log_entry.specs.declared.shapes.Geometry.{Geometry}
use Rattle.log_image.specs.Header.{shape_of}
use Rattle.log_image.specs.Chains.{IsChain}
use Rattle.log_image.specs.Image.{shape_by}
use Rattle.chain_reader.specs.Reads.{IsReadOf}
use Rattle.log_image.specs.Stands.{StandsBy}
use Rattle.plain_engine.specs.Running.{Fits, RunsOnSome}
use Rattle.plain_engine.proofs.OpenLemmas.{opened}
use Rattle.plain_engine.proofs.StartLemmas.{start_kept, start_stands, start_shape}
use Rattle.plain_engine.proofs.engine.PlainEngine.new.Goals as goal

pub read_chain-requires-clause-stands : goal.read_chain-requires-clause-stands
read_chain-requires-clause-stands c = start_stands c.args.start.geometry c.words.result.now c.args.start.taken.items c.args.start.generation c.args.start.position c.args.start.size c.words.ensures.kept

pub read_chain-requires-clause-geometry : goal.read_chain-requires-clause-geometry
read_chain-requires-clause-geometry c =
    subst (λ (g : Geometry). HasShape g (shape_of c.words.result.now).data_blocks (shape_of c.words.result.now).log_blocks (shape_of c.words.result.now).block_bytes) (sym c.geometry-geometry.ensures)
    (start_shape c.args.start.geometry c.words.result.now c.args.start.taken.items c.args.start.generation c.args.start.position c.args.start.size c.words.ensures.kept)

pub invariant_of-result : goal.invariant_of-result
invariant_of-result c =
    let s = c.args.start in
    let words : c.into_parts-words.result.0.items ≡ c.words.result.now = ap (λ (v : _). v.items) c.into_parts-words.ensures.same_words ∙ sym c.words.ensures.value in
    let reads : (chain : List ℕ) → IsChain c.into_parts-words.result.0.items (shape_of c.into_parts-words.result.0.items) chain → IsReadOf c.into_parts-words.result.0.items (shape_of c.into_parts-words.result.0.items) chain c.in_ok-read.read =
    subst (λ (l : List ℕ). (chain : List ℕ) → IsChain l (shape_of l) chain → IsReadOf l (shape_of l) chain c.in_ok-read.read) (sym words) c.in_ok-read.ensures.read in
    record {
      kept =
          subst (λ (g : Geometry). ∥ RunsOnSome (shape_by g) c.into_parts-words.result.0.items c.into_parts-words.result.1.items c.in_ok-read.read.table c.position-position.result c.in_ok-read.read.tail_block c.in_ok-read.read.tail_slot 1 ∥₁) (sym c.geometry-geometry.ensures)
          (subst (λ (n : ℕ). ∥ RunsOnSome (shape_by s.geometry) c.into_parts-words.result.0.items c.into_parts-words.result.1.items c.in_ok-read.read.table n c.in_ok-read.read.tail_block c.in_ok-read.read.tail_slot 1 ∥₁) (sym c.position-position.ensures)
          (∥∥₁_map c.into_parts-words.ensures.kept (start_kept s.geometry c.into_parts-words.result.0.items c.into_parts-words.result.1.items s.generation s.position s.size c.in_ok-read.read reads)));
    }

pub returns-clause-runs : goal.returns-clause-runs
returns-clause-runs c = λ chain file position stands.
    let s = c.args.start in
    let words : c.into_parts-words.result.0.items ≡ c.words.result.now = ap (λ (v : _). v.items) c.into_parts-words.ensures.same_words ∙ sym c.words.ensures.value in
    let reads : (chain : List ℕ) → IsChain c.into_parts-words.result.0.items (shape_of c.into_parts-words.result.0.items) chain → IsReadOf c.into_parts-words.result.0.items (shape_of c.into_parts-words.result.0.items) chain c.in_ok-read.read =
    subst (λ (l : List ℕ). (chain : List ℕ) → IsChain l (shape_of l) chain → IsReadOf l (shape_of l) chain c.in_ok-read.read) (sym words) c.in_ok-read.ensures.read in
    let there : StandsBy c.into_parts-words.result.0.items chain file position = subst (λ (l : List ℕ). StandsBy l chain file position) (ap (λ (v : _). v.items) (sym c.into_parts-words.ensures.same_words)) stands in
    let kept : ∥ RunsOnSome (shape_by s.geometry) c.into_parts-words.result.0.items c.into_parts-words.result.1.items c.in_ok-read.read.table s.position c.in_ok-read.read.tail_block c.in_ok-read.read.tail_slot 1 ∥₁ =
    ∥∥₁_map c.into_parts-words.ensures.kept (start_kept s.geometry c.into_parts-words.result.0.items c.into_parts-words.result.1.items s.generation s.position s.size c.in_ok-read.read reads) in
    let both = opened (shape_by s.geometry) c.into_parts-words.result.0.items c.into_parts-words.result.1.items c.in_ok-read.read.table s.position c.in_ok-read.read.tail_block c.in_ok-read.read.tail_slot 1 kept chain file position there in
    let place : position ≡ c.position-position.result = both.0 ∙ sym c.position-position.ensures in (
      place,
      record {
        stands = subst (λ (n : ℕ). StandsBy c.into_parts-words.result.0.items chain file n) place there;
        fits = subst (λ (g : Geometry). Fits (shape_by g) c.into_parts-words.result.0.items c.into_parts-words.result.1.items c.in_ok-read.read.table c.in_ok-read.read.tail_block c.in_ok-read.read.tail_slot 1 chain file) (sym c.geometry-geometry.ensures) both.1;
      },
    )
