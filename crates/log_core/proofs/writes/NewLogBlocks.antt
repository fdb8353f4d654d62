-- When a new log block may be linked: by the seat's state alone.
use Rattle.std.proofs.Common.{◌≡◌, ◌≢◌, ◌<◌, ◌≤◌, ◌-◌, ◌==◌, ◌||◌, ℕ, zero, suc, Bool, true, false, List, [], ◌∷◌, length, replicate, slice_index, refl, sym, ◌∙◌, arith}
use Rattle.std.proofs.lemmas.Bool.{eqb-true}
use Rattle.std.proofs.lemmas.List.{length-replicate, get_or-replicate}
use Rattle.std.proofs.lemmas.Grind.{same_number_lists}
use Rattle.log_entry.specs.Shape.{is_block_bytes, words_of_block}
use Rattle.log_entry.specs.Words.{block_word}
use Rattle.log_entry.specs.declared.words.BlockKind.TheVariants.{Log as LogKind}
use Rattle.log_entry.specs.declared.shapes.Area.TheVariants.{Data}
use Rattle.pmem_words.specs.Owned.{owned_at}
use Rattle.pmem_words.specs.Seats.{Seat}
use Rattle.log_core.specs.Entries.{place_in}
use Rattle.log_core.specs.Views.{Ghost, view_of}
use Rattle.log_core.specs.Origin.{Origin}
use Rattle.log_core.specs.Cores.{Core}
use Rattle.log_core.specs.Works.{seat_shape, words_of, owned_block, content_word}
use Rattle.log_core.specs.Steps.{content_of}
use Rattle.log_core.specs.May.{MayExchangeLink}
use Rattle.log_core.specs.Invariant.{Invariant}
use Rattle.log_core.specs.Knows.{Knows}
use Rattle.log_core.proofs.writes.OwnAreas.{owns_whole, owned_in_log}
use Rattle.log_core.proofs.writes.OwnContents.{OwnsWhole, content_length, content_at, fenced_at}

-- the owned block at a place is a fenced one of the log or spare area, and its words are those of a log block that begins at the view's
-- position and has no entry
pub record IsNewLogBlock (s : Seat) (place : ℕ) : Type 0 where
  pub inside : place < length s.blocks.owned
  pub fenced : (owned_at s.blocks.owned place).fenced ≡ true
  pub area : (owned_at s.blocks.owned place).area ≢ Data
  pub link : content_word s place 0 ≡ 0
  pub kind : content_word s place 1 ≡ block_word (record { kind = LogKind; base = s.walk.position })
  pub empty : (index : ℕ) → 2 ≤ index → index < words_of s → content_word s place index ≡ 0

-- the view is ready, and its tail is the end of its log block, whose link this word is
pub record IsAtLink (s : Seat) (word : ℕ) : Type 0 where
  pub valid : s.hold.valid ≡ true
  pub ready : s.walk.ready ≡ true
  pub link : word ≡ place_in (seat_shape s) s.walk.tail_block 0
  pub at_end : s.walk.tail_slot ≡ words_of s

-- a block has at least two words
wide : (bytes : ℕ) → is_block_bytes bytes ≡ true → 2 ≤ words_of_block bytes
wide bytes allowed = by (bytes == 64) (bytes == 512) (bytes == 4096) refl refl refl allowed
  where
    by : (small middle large : Bool) → (bytes == 64) ≡ small → (bytes == 512) ≡ middle → (bytes == 4096) ≡ large → (small || middle || large) ≡ true → 2 ≤ words_of_block bytes
    by true middle large is other another some = (let e = eqb-true bytes 64 is in omega (arith, e))
    by false true large is other another some = (let e = eqb-true bytes 512 other in omega (arith, e))
    by false false true is other another some = (let e = eqb-true bytes 4096 another in omega (arith, e))
    by false false false is other another some = cc

-- two words and then none but 0
two_words : (words : List ℕ) (count first second : ℕ) → 2 ≤ count → length words ≡ count → slice_index words 0 ≡ first → slice_index words 1 ≡ second →
    ((index : ℕ) → 2 ≤ index → index < count → slice_index words index ≡ 0) → words ≡ first ∷ second ∷ replicate (count - 2) 0
two_words words count first second some long is next rest = same_number_lists words (first ∷ second ∷ replicate (count - 2) 0)
    (let zeros = length-replicate {A = ℕ} (count - 2) 0 in omega (arith, zeros, long, some)) each
  where
    each : (k : ℕ) → k < length words → slice_index words k ≡ slice_index (first ∷ second ∷ replicate (count - 2) 0) k
    each zero low = is
    each (suc zero) low = next
    each (suc (suc k)) low = rest (suc (suc k)) (omega arith) (omega (arith, low, long)) ∙ sym (get_or-replicate (count - 2) k 0 0 (omega (arith, low, long)))

module _ (o : Origin) (c : Core) (n : ℕ) (s : Seat) (g : Ghost) (pin began : ℕ) (inv : Invariant o c) (unspent : (view_of c.views n).parts ≢ []) (f : Knows o c n s g pin began) where
  -- so a new log block may be linked
  pub may_link : (word place : ℕ) → IsAtLink s word → IsNewLogBlock s place → MayExchangeLink s word (owned_block s place)
  may_link word place at new = record {
    valid = at.valid;
    ready = at.ready;
    link = at.link;
    at_end = at.at_end;
    owned = fenced_at s owns place new.inside new.fenced;
    in_log = owned_in_log o c n s g pin began inv unspent f place new.inside new.area;
    content = two_words (content_of s (owned_block s place)) (words_of s) 0 (block_word (record { kind = LogKind; base = s.walk.position })) enough (content_length s owns place new.inside)
        (content_at s owns place new.inside 0 (omega (arith, enough)) ∙ new.link)
        (content_at s owns place new.inside 1 (omega (arith, enough)) ∙ new.kind)
        (λ index late low. content_at s owns place new.inside index low ∙ new.empty index late low);
  }
    where
      owns : OwnsWhole s
      owns = owns_whole o c n s g pin began inv unspent f

      enough : 2 ≤ words_of s
      enough = wide s.geometry.block_bytes s.geometry.block_allowed
