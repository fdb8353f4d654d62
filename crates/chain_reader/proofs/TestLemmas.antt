-- A worked image stands for a file by its two blocks.
use Rattle.std.proofs.Common.{ℕ, List, [], ◌∷◌, ◌≡◌, refl, sym, subst}
use Rattle.log_image.specs.Header.{shape_of}
use Rattle.log_image.specs.Chains.{IsChain}
use Rattle.log_image.specs.Stands.{StandsBy}
use Rattle.log_image.specs.Rows.{collected}
use Rattle.log_image.proofs.OneChain.{one_chain}
use Rattle.log_image.proofs.StandingRows.{after_collection}
use Rattle.chain_reader.specs.Reads.{StandForSome}

-- the image after a collection: a snapshot in block 5, and the log in block 4
pub stands_collected : StandsBy collected (5 ∷ 4 ∷ []) (204 ∷ []) 3
stands_collected =
    let is : IsChain collected (shape_of collected) (5 ∷ 4 ∷ []) = record { linked = (refl, (refl, refl, refl)); different = refl; snapshots = ((refl, refl), tt); logs = (refl, refl, tt) } in
    subst (λ (l : List ℕ). StandsBy collected l (204 ∷ []) 3) (one_chain collected (shape_of collected) after_collection.0 (5 ∷ 4 ∷ []) after_collection.1.stands.is_chain is) after_collection.1

pub collected_stands : (words : List ℕ) → words ≡ collected → StandForSome words
collected_stands words same = subst StandForSome (sym same) ∣ (5 ∷ 4 ∷ [], 204 ∷ [], 3, stands_collected) ∣₁
