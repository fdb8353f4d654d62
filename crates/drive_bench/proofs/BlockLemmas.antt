-- A fill of one block over a plain memory ends, and leaves what it needs.
use Rattle.std.proofs.Common.{ℕ, zero, suc, ◌≡◌, ◌+◌, ◌*◌, ◌<◌, ◌||◌, nat_lt, true, false, List, [], ◌∷◌, length, refl, ap, ◌∙◌, arith, slice_set}
use Rattle.std.proofs.lemmas.Bool.{lt-ltb, le-ltb}
use Rattle.std.proofs.lemmas.List.{length-map, length-set}
use Rattle.pmem_words.specs.Owned.{owned_at, with_filled, with_fenced, fenced_all}
use Rattle.pmem_words.specs.declared.owned.OwnedBlock.{OwnedBlock}
use Rattle.pmem_words.specs.Seats.{Seat, q_of}
use Rattle.pmem_words.specs.Courses.{over}
use Rattle.pmem_words.specs.Leads.{Leads}
use Rattle.pmem_words.specs.PlainWords.{plain}
use Rattle.pmem_words.proofs.PlainLemmas.{leads_plain, leads_plain_kept}
use Rattle.asks.specs.SharedWords.{SharedWords}
use Rattle.block_bitmap.specs.declared.fill.Fill.TheVariants.{Store, Mark, Fence}
use Rattle.block_bitmap.specs.OwnedWords.{image_word, content_at, unfilled, with_filled_block}
use Rattle.block_bitmap.specs.Filling.{fill_of, fill_script}
use Rattle.drive_bench.specs.Blocks.{OwnsOne}

-- the one block stays, whatever its flags
abbrev IsOne : List OwnedBlock → Type 0
IsOne owned = (length owned ≡ 1) × ((owned_at owned 0).block ≡ 1)

unfilled_one : (owned : List OwnedBlock) → IsOne owned → IsOne (with_fenced (with_filled owned 0 false) 0 false)
unfilled_one [] one = absurd (omega (arith, one.0))
unfilled_one (first ∷ rest) one = one

filled_one : (owned : List OwnedBlock) → IsOne owned → IsOne (with_filled owned 0 true)
filled_one [] one = absurd (omega (arith, one.0))
filled_one (first ∷ rest) one = one

fenced_one : (owned : List OwnedBlock) → IsOne owned → IsOne (fenced_all owned)
fenced_one [] one = absurd (omega (arith, one.0))
fenced_one (first ∷ rest) one = ((let many = length-map rest (λ (o : OwnedBlock). record o { fenced = o.fenced || o.filled }) in omega (arith, many, one.0)), one.1)

abbrev Ends : Unit {0} → Seat → SharedWords → Type 0
Ends out t q = OwnsOne t q

module _ (s : Seat) (p : SharedWords) (owns : OwnsOne s p) where
  inside : (word : ℕ) → word < 512 → image_word s 0 word < length p.words
  inside word low = (let at : image_word s 0 word ≡ 1 * 512 + word = ap (λ (b : ℕ). b * q_of s.geometry + word) owns.block ∙ ap (λ (q : ℕ). 1 * q + word) owns.size in let many = owns.words in omega (arith, at, low, many))

  more : (word n : ℕ) → word + suc (suc n) ≡ 512 → nat_lt (word + 1) (q_of s.geometry) ≡ true
  more word n all = lt-ltb (word + 1) (q_of s.geometry) (let q = owns.size in omega (arith, all, q))

  last : (word : ℕ) → word + 1 ≡ 512 → nat_lt (word + 1) (q_of s.geometry) ≡ false
  last word all = le-ltb (word + 1) (q_of s.geometry) (let q = owns.size in omega (arith, all, q))

  has : (word : ℕ) → word < 512 → fill_script.admits (Mark 0 1 word) s 0
  has word low = record { some = omega arith; owned = (let one = owns.one in omega (arith, one)); few = omega arith; inside = (let q = owns.size in omega (arith, low, q)) }

fence_leads : (s : Seat) (p : SharedWords) → OwnsOne s p → Leads fill_script (over fill_script plain) Ends Fence s p
fence_leads s p owns = leads_plain fill_script Ends Fence s p tt (λ small. tt)
    (let one = fenced_one s.blocks.owned (owns.one, owns.block) in record { one = one.0; block = one.1; size = owns.size; words = owns.words })

marks_lead : (n word : ℕ) (s : Seat) (p : SharedWords) → word + suc n ≡ 512 → OwnsOne s p → Leads fill_script (over fill_script plain) Ends (Mark 0 1 word) s p
marks_lead zero word s p all owns = leads_plain_kept fill_script Ends (Mark 0 1 word) s p (inside s p owns word (omega (arith, all))) refl (λ small. has s p owns word (omega (arith, all)))
    (rw (last s p owns word (omega (arith, all)))
    (fence_leads (with_filled_block s 0) p (let one = filled_one s.blocks.owned (owns.one, owns.block) in record { one = one.0; block = one.1; size = owns.size; words = owns.words })))
marks_lead (suc n) word s p all owns = leads_plain_kept fill_script Ends (Mark 0 1 word) s p (inside s p owns word (omega (arith, all))) refl (λ small. has s p owns word (omega (arith, all)))
    (rw (more s p owns word n all) (marks_lead n (word + 1) s p (omega (arith, all)) owns))

-- the memory after a store, and the seat
abbrev stored : Seat → SharedWords → ℕ → SharedWords
stored s p word = record p { words = slice_set p.words (image_word s 0 word) (content_at s 0 word) }

left : (word : ℕ) (s : Seat) (p : SharedWords) → OwnsOne s p → OwnsOne (unfilled s 0) (stored s p word)
left word s p owns = (let one = unfilled_one s.blocks.owned (owns.one, owns.block) in
    record { one = one.0; block = one.1; size = owns.size; words = length-set p.words (image_word s 0 word) (content_at s 0 word) ∙ owns.words })

stores_lead : (n word : ℕ) (s : Seat) (p : SharedWords) → word + suc n ≡ 512 → OwnsOne s p → Leads fill_script (over fill_script plain) Ends (Store 0 1 word) s p
stores_lead zero word s p all owns = leads_plain fill_script Ends (Store 0 1 word) s p (inside s p owns word (omega (arith, all))) (λ small. has s p owns word (omega (arith, all)))
    (rw (last s p owns word (omega (arith, all))) (marks_lead 511 0 (unfilled s 0) (stored s p word) refl (left word s p owns)))
stores_lead (suc n) word s p all owns = leads_plain fill_script Ends (Store 0 1 word) s p (inside s p owns word (omega (arith, all))) (λ small. has s p owns word (omega (arith, all)))
    (rw (more s p owns word n all) (stores_lead n (word + 1) (unfilled s 0) (stored s p word) (omega (arith, all)) (left word s p owns)))

pub fill_leads : (s : Seat) (p : SharedWords) → OwnsOne s p → Leads fill_script (over fill_script plain) (λ out t q. OwnsOne t q) (fill_of 0 1) s p
fill_leads s p owns = stores_lead 511 0 s p refl owns
