-- A run goes on while a seat stores and marks each word of a block that it owns.
use Rattle.std.proofs.Common.{◌≡◌, ◌≢◌, ◌<◌, ◌≤◌, ◌+◌, ◌*◌, ◌/◌, ◌^◌, nat_lt, ℕ, zero, suc, true, false, List, [], ◌∷◌, length, refl, sym, ◌∙◌, ap, subst, arith, Some}
use Rattle.std.specs.List.{list_all}
use Rattle.std.proofs.lemmas.Bool.{and_parts, ltb-true}
use Rattle.std.proofs.lemmas.List.{length-map, length-set, get_or-set_same}
use Rattle.log_image.specs.Chains.{is_listed}
use Rattle.pmem_words.specs.Owned.{with_filled, owned_at}
use Rattle.pmem_words.specs.declared.keeps.Task.TheVariants.{Sync}
use Rattle.pmem_words.specs.declared.owned.OwnedBlock.{OwnedBlock}
use Rattle.pmem_words.specs.Seats.{Seat}
use Rattle.asks.specs.declared.ask.Ask.TheVariants.{Store, Mark}
use Rattle.asks.specs.declared.ask.Place.TheVariants.{Image}
use Rattle.log_core.specs.Views.{View, view_of, op_in, spent_view}
use Rattle.log_core.specs.Origin.{Origin}
use Rattle.log_core.specs.Cores.{Core}
use Rattle.log_core.specs.Works.{SetsWord, words_of, state_after_work, stored_at, content_word}
use Rattle.log_core.specs.Needs.{owned_numbers}
use Rattle.log_core.specs.May.{OfOwned}
use Rattle.log_core.specs.Runs.{IsReached}
use Rattle.log_core.specs.worked_rows.Samples.{stepping, number_in, storing, marking}
use Rattle.log_core.proofs.clauses.OwnedLists.{numbers_set}
use Rattle.log_core.proofs.clauses.OwnedStored.{stored_seat, stored_numbers}
use Rattle.log_core.proofs.row_checks.RowsAllowed.{step_reached, same_call}

-- a seat whose view this is owns the block, has some block at the place, and runs no sync. Its blocks have eight words
pub record OwnsBlock (v : View) (place block : ℕ) : Type 0 where
  pub unspent : v.parts ≢ []
  pub no_sync : v.seat.calling.job ≢ Sync
  pub words : words_of v.seat ≡ 8
  pub inside : place < length (owned_numbers v.seat.blocks.owned)
  pub owned : is_listed (owned_numbers v.seat.blocks.owned) block ≡ true

-- the same blocks are owned where a word is set
set_numbers : (s : Seat) (place word value : ℕ) → owned_numbers (state_after_work s (SetsWord place word value)).blocks.owned ≡ owned_numbers s.blocks.owned
set_numbers s place word value =
    numbers_set (with_filled s.blocks.owned place false) place (record (owned_at (with_filled s.blocks.owned place false) place) { fenced = false }) (record { block = refl; area = refl })
    ∙ numbers_set s.blocks.owned place (record (owned_at s.blocks.owned place) { filled = false }) (record { block = refl; area = refl })

place_of : (words block word : ℕ) → words ≡ 8 → word < 8 → (8 * block + word) / words ≡ block
place_of words block word eight below = subst (λ (n : ℕ). (8 * block + word) / n ≡ block) (sym eight) (omega (arith, below))

module _ (o : Origin) (seat place block : ℕ) where
  -- a run leads here, where the seat may fill the block
  pub record Fills (c : Core) : Type 0 where
    pub run : IsReached o c
    pub made : seat < length c.views
    pub owns : OwnsBlock (view_of c.views seat) place block

  store_one : (c : Core) (word value : ℕ) → word < 8 → value < 2 ^ 64 → Fills c → Fills (stepping o c seat (Store (Image (8 * block + word)) value) (number_in c seat) (SetsWord place word value ∷ []) [])
  store_one c word value below small f = record {
    run = step_reached o c seat (number_in c seat) (Store (Image (8 * block + word)) value) (SetsWord place word value ∷ []) f.run f.made f.owns.unspent
        (record { owned = subst (λ (n : ℕ). place < n) (length-map s.blocks.owned (λ (b : OwnedBlock). b.block)) f.owns.inside; inside = subst (λ (n : ℕ). word < n) (sym f.owns.words) below; small = small }, tt)
        (same_call (op_in s) (number_in c seat))
        (record { owned = ap (λ (number : ℕ). is_listed (owned_numbers before.blocks.owned) number) (place_of (words_of s) block word f.owns.words below) ∙ (ap (λ (numbers : List ℕ). is_listed numbers block) set ∙ f.owns.owned); small = small });
    made = subst (λ (n : ℕ). seat < n) (sym (length-set c.views seat _)) f.made;
    owns = subst (λ (v : View). OwnsBlock v place block) (sym (get_or-set_same c.views seat _ spent_view f.made)) (record {
      unspent = f.owns.unspent;
      no_sync = f.owns.no_sync;
      words = f.owns.words;
      inside = subst (λ (numbers : List ℕ). place < length numbers) (sym both) f.owns.inside;
      owned = ap (λ (numbers : List ℕ). is_listed numbers block) both ∙ f.owns.owned;
    });
  }
    where
      s : Seat
      s = (view_of c.views seat).seat

      before : Seat
      before = state_after_work s (SetsWord place word value)

      set : owned_numbers before.blocks.owned ≡ owned_numbers s.blocks.owned
      set = set_numbers s place word value

      both : owned_numbers (stored_seat before (8 * block + word)).blocks.owned ≡ owned_numbers s.blocks.owned
      both = stored_numbers before (8 * block + word) ∙ set

  mark_one : (c : Core) (word : ℕ) → word < 8 → Fills c → Fills (stepping o c seat (Mark (8 * block + word)) (number_in c seat) [] [])
  mark_one c word below f = record {
    run = step_reached o c seat (number_in c seat) (Mark (8 * block + word)) [] f.run f.made f.owns.unspent tt (same_call (op_in s) (number_in c seat))
        (OfOwned (ap (λ (number : ℕ). is_listed (owned_numbers s.blocks.owned) number) (place_of (words_of s) block word f.owns.words below) ∙ f.owns.owned) f.owns.no_sync);
    made = subst (λ (n : ℕ). seat < n) (sym (length-set c.views seat _)) f.made;
    owns = subst (λ (v : View). OwnsBlock v place block) (sym (get_or-set_same c.views seat _ spent_view f.made)) (record {
      unspent = f.owns.unspent;
      no_sync = f.owns.no_sync;
      words = f.owns.words;
      inside = f.owns.inside;
      owned = f.owns.owned;
    });
  }
    where
      s : Seat
      s = (view_of c.views seat).seat

  stores_all : (values : List ℕ) (c : Core) (word : ℕ) → word + length values ≤ 8 → list_all (λ (value : ℕ). nat_lt value (2 ^ 64)) values ≡ true → Fills c → Fills (storing o c seat place block word values)
  stores_all [] c word inside small f = f
  stores_all (value ∷ values) c word inside small f =
      let parts = and_parts (nat_lt value (2 ^ 64)) (list_all (λ (other : ℕ). nat_lt other (2 ^ 64)) values) small in
      stores_all values _ (word + 1) (omega (arith, inside)) parts.1 (store_one c word value (omega (arith, inside)) (ltb-true value (2 ^ 64) parts.0) f)

  marks_all : (words : ℕ) (c : Core) → words ≤ 8 → Fills c → Fills (marking o c seat block words)
  marks_all zero c inside f = f
  marks_all (suc word) c inside f = marks_all word _ (omega (arith, inside)) (mark_one c word (omega (arith, inside)) f)

  -- each word of the block is stored and marked
  pub fills_block : (values : List ℕ) (c : Core) → length values ≤ 8 → list_all (λ (value : ℕ). nat_lt value (2 ^ 64)) values ≡ true → Fills c → IsReached o (marking o (storing o c seat place block 0 values) seat block 8)
  fills_block values c few small f = (marks_all 8 _ (omega arith) (stores_all values c 0 (omega (arith, few)) small f)).run

-- a word of the block is stored with its content, and marked
abbrev pub IsWordFilled : Core → (seat place block word : ℕ) → Type 0
IsWordFilled c seat place block word =
    stored_at (view_of c.views seat).ghost.stored (8 * block + word) ≡ Some (record { word = 8 * block + word; value = content_word (view_of c.views seat).seat place word; marked = true })

-- where each is by computing, all are
module _ (c : Core) (seat place block : ℕ) where
  abbrev is : ℕ → Type 0
  is word = IsWordFilled c seat place block word

  pub all_filled : is 0 → is 1 → is 2 → is 3 → is 4 → is 5 → is 6 → is 7 → (word : ℕ) → word < 8 → is word
  all_filled one two three four five six seven eight zero less = one
  all_filled one two three four five six seven eight (suc zero) less = two
  all_filled one two three four five six seven eight (suc (suc zero)) less = three
  all_filled one two three four five six seven eight (suc (suc (suc zero))) less = four
  all_filled one two three four five six seven eight (suc (suc (suc (suc zero)))) less = five
  all_filled one two three four five six seven eight (suc (suc (suc (suc (suc zero))))) less = six
  all_filled one two three four five six seven eight (suc (suc (suc (suc (suc (suc zero)))))) less = seven
  all_filled one two three four five six seven eight (suc (suc (suc (suc (suc (suc (suc zero))))))) less = eight
  all_filled one two three four five six seven eight (suc (suc (suc (suc (suc (suc (suc (suc word)))))))) less = absurd (omega (arith, less))
