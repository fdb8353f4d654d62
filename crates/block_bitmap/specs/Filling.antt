-- What filling owned blocks means.
use Rattle.std.specs.Prelude.{ℕ, ◌+◌, ◌-◌, ◌*◌, ◌<◌, ◌≤◌, ◌≡◌, nat_lt, Bool, true, false, length, refl}
use Rattle.std.proofs.Common.{ap, ◌∙◌, arith}
use Rattle.std.proofs.lemmas.Bool.{ltb-true, ltb-false}
use Rattle.pmem_words.specs.Seats.{Seat, q_of}
use Rattle.pmem_words.specs.Scripts.{After, Script, Lowers}
use Rattle.asks.specs.declared.ask.Ask.{Ask}
use Rattle.asks.specs.declared.ask.Ask.TheVariants.{Store as StoreWord, Mark as MarkWord, Fence as FenceAll}
use Rattle.asks.specs.declared.ask.Place.TheVariants.{Image}
use Rattle.pmem_words.specs.declared.machine.Turn.TheVariants.{Go, Done}
use Rattle.block_bitmap.specs.declared.fill.Fill.{Fill}
use Rattle.block_bitmap.specs.declared.fill.Fill.TheVariants.{Store, Mark, Fence}
use Rattle.block_bitmap.specs.OwnedWords.{image_word, content_at, unfilled, with_filled_block, all_fenced}

-- a fill that has not begun
abbrev pub fill_of : ℕ → ℕ → Fill
fill_of first count = Store first count 0

-- it stores the words of a block, marks them, and fences when no block is left
abbrev pub fill_asks : Fill → Seat → Ask
fill_asks (Store place left word) s = StoreWord (Image (image_word s place word)) (content_at s place word)
fill_asks (Mark place left word) s = MarkWord (image_word s place word)
fill_asks Fence s = FenceAll

-- there are that many owned blocks from this place on, and the block at hand has this word
pub record HasBlocks (place left word : ℕ) (s : Seat) : Type 0 where
  pub some : 0 < left
  pub owned : place + left ≤ length s.blocks.owned
  pub few : place + left ≤ 65536
  pub inside : word < q_of s.geometry

abbrev pub fill_admits : Fill → Seat → ℕ → Type 0
fill_admits (Store place left word) s a = HasBlocks place left word s
fill_admits (Mark place left word) s a = HasBlocks place left word s
fill_admits Fence s a = Unit {0}

-- after a store: on to the next word, or to the marks
abbrev pub stored_next : Bool → ℕ → ℕ → ℕ → Fill
stored_next true place left word = Store place left (word + 1)
stored_next false place left word = Mark place left 0

-- after the last mark of a block: on to the next block, or to the fence
abbrev pub block_next : Bool → ℕ → ℕ → Fill
block_next true place left = Store (place + 1) (left - 1) 0
block_next false place left = Fence

-- after a mark: on to the next word, or the block counts as filled
abbrev pub marked_after : Bool → ℕ → ℕ → ℕ → Seat → After Fill (Unit {0})
marked_after true place left word s = record { machine = Mark place left (word + 1); seat = s; turn = Go }
marked_after false place left word s = record { machine = block_next (nat_lt 1 left) place left; seat = with_filled_block s place; turn = Go }

abbrev pub fill_after : Fill → Seat → ℕ → After Fill (Unit {0})
fill_after (Store place left word) s a = record { machine = stored_next (nat_lt (word + 1) (q_of s.geometry)) place left word; seat = unfilled s place; turn = Go }
fill_after (Mark place left word) s a = marked_after (nat_lt (word + 1) (q_of s.geometry)) place left word s
fill_after Fence s a = record { machine = Fence; seat = all_fenced s; turn = Done tt }

-- how many steps come before the fence
abbrev pub fill_measure : Fill → Seat → ℕ
fill_measure (Store place left word) s = (left - 1) * (2 * q_of s.geometry) + q_of s.geometry + (q_of s.geometry - word)
fill_measure (Mark place left word) s = (left - 1) * (2 * q_of s.geometry) + (q_of s.geometry - word)
fill_measure Fence s = 0

abbrev pub fill_script : Script Fill (Unit {0})
fill_script = record { asks = fill_asks; admits = fill_admits; after = fill_after; measure = fill_measure }

-- each step before the fence lowers that by one
one_more : (k most : ℕ) → (k + 1) * most ≡ k * most + most
one_more k most = omega arith

fewer : (left most : ℕ) → 1 < left → (left - 1) * most ≡ (left - 1 - 1) * most + most
fewer left most more = ap (λ (k : ℕ). k * most) (let less : left - 1 ≡ (left - 1 - 1) + 1 = omega (arith, more) in less) ∙ one_more (left - 1 - 1) most

store_lowers : (b : Bool) (place left word q : ℕ) (s : Seat) → q_of s.geometry ≡ q → nat_lt (word + 1) q ≡ b → word < q
    → fill_measure (stored_next b place left word) s + 1 ≡ (left - 1) * (2 * q) + q + (q - word)
store_lowers true place left word q s is more inside = (let less = ltb-true (word + 1) q more in rw is (omega (arith, less)))
store_lowers false place left word q s is more inside = (let last = ltb-false (word + 1) q more in rw is (omega (arith, last, inside)))

block_lowers : (b : Bool) (place left word q : ℕ) (s : Seat) → q_of s.geometry ≡ q → nat_lt 1 left ≡ b → word + 1 ≡ q → 0 < left
    → fill_measure (block_next b place left) s + 1 ≡ (left - 1) * (2 * q) + (q - word)
block_lowers true place left word q s is more last some = (let down = fewer left (2 * q) (ltb-true 1 left more) in rw is (omega (arith, down, last)))
block_lowers false place left word q s is more last some = (let one : left ≡ 1 = (let most = ltb-false 1 left more in omega (arith, most, some)) in rw one (omega (arith, last)))

mark_lowers : (b : Bool) (place left word q : ℕ) (s : Seat) → q_of s.geometry ≡ q → nat_lt (word + 1) q ≡ b → word < q → 0 < left
    → fill_measure (marked_after b place left word s).machine (marked_after b place left word s).seat + 1 ≡ (left - 1) * (2 * q) + (q - word)
mark_lowers true place left word q s is more inside some = (let less = ltb-true (word + 1) q more in rw is (omega (arith, less)))
mark_lowers false place left word q s is more inside some = block_lowers (nat_lt 1 left) place left word q (with_filled_block s place) is refl (let last = ltb-false (word + 1) q more in omega (arith, last, inside)) some

pub fill_exact : (m : Fill) (s : Seat) (a : ℕ) → fill_admits m s a → (fill_after m s a).turn ≡ Go → fill_measure (fill_after m s a).machine (fill_after m s a).seat + 1 ≡ fill_measure m s
fill_exact (Store place left word) s a h go = store_lowers (nat_lt (word + 1) (q_of s.geometry)) place left word (q_of s.geometry) (unfilled s place) refl refl h.inside
fill_exact (Mark place left word) s a h go = mark_lowers (nat_lt (word + 1) (q_of s.geometry)) place left word (q_of s.geometry) s refl refl h.inside h.some
fill_exact Fence s a h go = cc

pub fill_lowers : Lowers fill_script
fill_lowers m s a h go = (let exact = fill_exact m s a h go in omega (arith, exact))
