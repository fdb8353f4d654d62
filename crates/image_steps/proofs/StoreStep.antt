-- Words of blocks that are not taken mean nothing.
use Rattle.std.proofs.Common.{◌≡◌, ◌≤◌, ◌+◌, ◌*◌, ◌==◌, ℕ, true, false, List, [], ◌∷◌, ◌++◌, length, get_or, refl, sym, ap, ◌∙◌, subst, arith}
use Rattle.log_entry.specs.Fields.{field}
use Rattle.log_entry.specs.WordBytes.{word_bytes}
use Rattle.log_entry.specs.declared.layouts.TheConstants.{HEAD_BLOCK}
use Rattle.log_image.specs.Image.{Shape, words_in, block_words}
use Rattle.log_image.specs.Header.{shape_of}
use Rattle.log_image.specs.Entries.{Meaning, all_names}
use Rattle.log_image.specs.Blocks.{slots_of, entry_words, leads_on}
use Rattle.log_image.specs.Format.{is_seal_placed}
use Rattle.std.proofs.lemmas.Bool.{eq-eqb}
use Rattle.log_image.specs.Chains.{all_different, is_listed}
use Rattle.log_image.specs.Positions.{entries_of}
use Rattle.log_image.specs.Stands.{HoldsFile, StandsIn}
use Rattle.log_image.specs.Tails.{Tail, last_block, tail_in, tail_of, IsClear}
use Rattle.log_image.proofs.ImageLemmas.{in_block}
use Rattle.log_image.specs.SameWords.{SameHeader}
use Rattle.image_steps.specs.Steps.{StandsClear, KeepsTaken, StandsAsBefore, StoresMeanNothing}
use Rattle.log_image.proofs.ChainSteps.{log_entry_words}
use Rattle.log_image.proofs.EntrySteps.{placed_in}
use Rattle.image_steps.proofs.Extension.{Extends, Extended, extended}
use Rattle.log_image.proofs.HeaderSteps.{header_shape, header_same, long_words}
use Rattle.image_steps.proofs.KeptHeaders.{keeps_header}
use Rattle.log_image.proofs.NameLemmas.{each_in, or_left}
use Rattle.image_steps.proofs.TailLemmas.{split_chain, last_of, AtTail, at_tail, in_left, in_right, chain_taken, name_taken, map_in_names, clear_kept}

pub nothing_after : {X : Type 0} (xs : List X) → xs ++ [] ≡ xs
nothing_after [] = refl
nothing_after (x ∷ xs) = ap (λ (l : List _). x ∷ l) (nothing_after xs)

-- the first words of the image are those of its first block
pub first_words : (shape : Shape) (old new : List ℕ) → 4 ≤ words_in shape → length new ≡ length old → block_words new shape 0 ≡ block_words old shape 0 → SameHeader old new
first_words shape old new long same_length same = record {
  same_length = same_length;
  each = λ place first.
      let at : 0 * words_in shape + place ≡ place = omega arith in
      ap (λ (n : ℕ). get_or new n 0) (sym at) ∙ sym (in_block new shape 0 place (omega (arith, long, first)))
      ∙ ap (λ (l : List ℕ). get_or l place 0) same
      ∙ in_block old shape 0 place (omega (arith, long, first)) ∙ ap (λ (n : ℕ). get_or old n 0) at;
}

-- the same file is held by the same blocks
pub holds_kept : (shape : Shape) (old new : List ℕ) (entries : List Meaning) (file : List ℕ) → ((block : ℕ) → is_listed (all_names entries) block ≡ true → block_words new shape block ≡ block_words old shape block) → HoldsFile old shape entries file → HoldsFile new shape entries file
holds_kept shape old new entries file same holds = record {
  mapped = λ virt block is at inside.
      ap (λ (l : List ℕ). get_or (word_bytes l) at 0) (same block (map_in_names entries virt block is)) ∙ holds.mapped virt block is at inside;
  unmapped = holds.unmapped;
}

-- for a chain whose tail is known
pub stores_extend : (shape : Shape) (old new front : List ℕ) (tail : ℕ) (file : List ℕ) (position : ℕ) → 4 ≤ words_in shape → StandsIn old shape (front ++ tail ∷ []) file position → KeepsTaken shape (front ++ tail ∷ []) old new →
    Extends shape old new front tail [] []
stores_extend shape old new front tail file position long stands keeps =
    let at : AtTail shape old front tail = at_tail shape old front tail file position stands in
    let header : SameHeader old new = first_words shape old new long keeps.same_length (keeps.each 0 refl) in
    let tail_same : block_words new shape tail ≡ block_words old shape tail = keeps.each tail (chain_taken old shape (front ++ tail ∷ []) tail (in_right front (tail ∷ []) tail (self tail))) in
    record {
      head = ap (λ (w : ℕ). field HEAD_BLOCK w) (header.each 3 (omega arith));
      front_same = each_in (λ (b : ℕ). block_words new shape b ≡ block_words old shape b) front (λ b inside. keeps.each b (chain_taken old shape (front ++ tail ∷ []) b (in_left front (tail ∷ []) b inside)));
      names_same = each_in (λ (b : ℕ). block_words new shape b ≡ block_words old shape b) (all_names (entries_of old shape (front ++ tail ∷ []))) (λ b inside. keeps.each b (name_taken old shape (front ++ tail ∷ []) b inside));
      word = ap (λ (l : List ℕ). get_or l 1 0) tail_same;
      third = ap (λ (l : List ℕ). get_or l 2 0) tail_same;
      is_log = at.is_log;
      placed = subst (λ (l : List ℕ). is_seal_placed (slots_of l) ≡ true) (sym tail_same) (placed_in old shape (block_words old shape tail) at.good);
      tail_words = ap (λ (l : List ℕ). entry_words (slots_of l)) tail_same ∙ sym (nothing_after (log_entry_words old shape tail));
      onward = ap (λ (l : List ℕ). leads_on l) tail_same ∙ at.ends;
      more_logs = tt;
      more_empty = refl;
      more_areas = refl;
      more_kinds = refl;
      more_good = refl;
      different = stands.is_chain.different;
      added_fit = refl;
      named_once = ap (λ (l : List Meaning). all_different (all_names l)) (nothing_after (entries_of old shape (front ++ tail ∷ []))) ∙ stands.format.named_once;
      below_limit = omega (arith, stands.format.below_limit);
    }
  where
    self : (n : ℕ) → is_listed (n ∷ []) n ≡ true
    self n = or_left (n == n) false (eq-eqb n n refl)

stores_at : (old new front : List ℕ) (tail : ℕ) (file : List ℕ) (position : ℕ) → StandsClear old (front ++ tail ∷ []) file position → KeepsTaken (shape_of old) (front ++ tail ∷ []) old new → StandsAsBefore old new (front ++ tail ∷ []) file position
stores_at old new front tail file position clear keeps =
    let long : 8 ≤ words_in (shape_of old) = long_words old clear.stands.header in
    let header : SameHeader old new = first_words (shape_of old) old new (omega (arith, long)) keeps.same_length (keeps.each 0 refl) in
    let is : Extended (shape_of old) old new front tail [] [] =
    extended (shape_of old) old new front tail [] [] (at_tail (shape_of old) old front tail file position clear.stands.stands).began
    (stores_extend (shape_of old) old new front tail file position (omega (arith, long)) clear.stands.stands keeps) in
    let same_entries : entries_of new (shape_of old) (front ++ tail ∷ []) ≡ entries_of old (shape_of old) (front ++ tail ∷ []) = is.entries ∙ nothing_after (entries_of old (shape_of old) (front ++ tail ∷ [])) in
    let tail_same : block_words new (shape_of old) tail ≡ block_words old (shape_of old) tail = keeps.each tail (chain_taken old (shape_of old) (front ++ tail ∷ []) tail (in_right front (tail ∷ []) tail (or_left (tail == tail) false (eq-eqb tail tail refl)))) in
    let last : last_block 0 (front ++ tail ∷ []) ≡ tail = last_of 0 front tail in
    let old_tail : tail_of old (shape_of old) (front ++ tail ∷ []) ≡ tail_in tail (block_words old (shape_of old) tail) = ap (λ (b : ℕ). tail_in b (block_words old (shape_of old) b)) last in
    let new_tail : tail_of new (shape_of old) (front ++ tail ∷ []) ≡ tail_in tail (block_words new (shape_of old) tail) = ap (λ (b : ℕ). tail_in b (block_words new (shape_of old) b)) last in
    record {
      header = keeps_header old new header;
      stands = record {
        stands = record {
          header = header_same old new header clear.stands.header;
          stands = subst (λ (s : Shape). StandsIn new s (front ++ tail ∷ []) file position) (sym (header_shape old new header)) (record {
            is_chain = is.is_chain;
            format = is.format;
            ends_at = is.position ∙ omega (arith, clear.stands.stands.ends_at);
            ends_with = is.size ∙ clear.stands.stands.ends_with;
            holds = subst (λ (l : List Meaning). HoldsFile new (shape_of old) l file) (sym same_entries)
                (holds_kept (shape_of old) old new (entries_of old (shape_of old) (front ++ tail ∷ [])) file (λ b inside. keeps.each b (name_taken old (shape_of old) (front ++ tail ∷ []) b inside)) clear.stands.stands.holds);
          });
        };
        clear = subst (λ (s : Shape). IsClear new s (tail_of new s (front ++ tail ∷ []))) (sym (header_shape old new header))
            (subst (λ (h : Tail). IsClear new (shape_of old) h) (sym new_tail)
            (clear_kept (shape_of old) old new tail (omega (arith, long)) tail_same (subst (λ (h : Tail). IsClear old (shape_of old) h) old_tail clear.clear)));
      };
      entries = same_entries;
      tail = new_tail ∙ ap (λ (l : List ℕ). tail_in tail l) tail_same ∙ sym old_tail;
    }

pub stores_mean_nothing : StoresMeanNothing
stores_mean_nothing old new [] file position clear keeps = absurd clear.stands.stands.is_chain.linked
stores_mean_nothing old new (first ∷ rest) file position clear keeps =
    let split : (front : List ℕ) × (first ∷ rest ≡ front ++ last_block first rest ∷ []) = split_chain first rest in
    subst (λ (l : List ℕ). StandsAsBefore old new l file position) (sym split.1)
    (stores_at old new split.0 (last_block first rest) file position (subst (λ (l : List ℕ). StandsClear old l file position) split.1 clear) (subst (λ (l : List ℕ). KeepsTaken (shape_of old) l old new) split.1 keeps))
