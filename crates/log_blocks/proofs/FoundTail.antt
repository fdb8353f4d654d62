-- What a seat that is ready has at its tail, and what it may find there.
use Rattle.std.proofs.Common.{◌≡◌, ◌≢◌, ◌<◌, ◌≤◌, ◌+◌, ◌-◌, ◌*◌, ◌^◌, ◌==◌, ◌&&◌, ◌||◌, ◌++◌, nat_lt, ℕ, Bool, true, false, if◌then◌else◌, List, [], ◌∷◌, length, refl, sym, ◌∙◌, ap, subst, arith, slice_index}
use Rattle.std.proofs.lemmas.Bool.{ltb-true, ltb-false, and_parts, eqb-true}
use Rattle.log_entry.specs.Fields.{field}
use Rattle.log_entry.specs.Words.{entry_unnamed}
use Rattle.log_entry.specs.Shape.{longest_of}
use Rattle.log_entry.specs.declared.layouts.TheConstants.{EMPTY, SEAL, ENTRY_KIND, DIRECT, INDIRECT, INDIRECT_BLOCK}
use Rattle.log_image.specs.Image.{Shape, words_in, is_in_data}
use Rattle.log_image.specs.Entries.{direct_meaning, indirect_meaning}
use Rattle.log_image.specs.Format.{fits, is_direct, is_indirect, is_indirect_block}
use Rattle.log_image.specs.Chains.{is_listed}
use Rattle.chain_reader.proofs.FitsLemmas.{fits_more}
use Rattle.pmem_words.specs.Seats.{Seat, q_of}
use Rattle.persistence.specs.Memory.{cell}
use Rattle.log_core.specs.Entries.{place_in, meaning_by}
use Rattle.log_core.specs.Views.{Ghost, view_of}
use Rattle.log_core.specs.Origin.{Origin, shape, LogBlock, Generation}
use Rattle.log_core.specs.Files.{entries}
use Rattle.log_core.specs.Cores.{Core, nth_log, number_at, log_at, log_blocks, entries_used, is_named, chain_names, data_names}
use Rattle.log_core.specs.Order.{nth_generation}
use Rattle.log_core.specs.Certain.{IsGrowing}
use Rattle.log_core.specs.Walks.{HasWalked, WalkHolds}
use Rattle.log_core.specs.May.{is_log_entry_by}
use Rattle.log_core.specs.Works.{HasFoundSlot, IsKeptWhole, kept_content, words_of, tail_word}
use Rattle.log_core.specs.Invariant.{Invariant, KeptIn, around}
use Rattle.log_core.specs.Knows.{Knows}
use Rattle.log_core.proofs.ChainWords.{in_one_part}
use Rattle.log_core.proofs.LogTails.{TailLog, tail_log, entries_short}
use Rattle.log_core.proofs.clauses.Apart.{has_right, has_log, log_is_named}
use Rattle.log_core.proofs.kinds.TakesEntry.{form, holder_named, listed_word}
use Rattle.log_blocks.specs.Walking.{IsOfImage}
use Rattle.log_blocks.proofs.FoundWords.{chain, chain_is_kept, named_of_image}

module _ (o : Origin) (c : Core) (n : ℕ) (s : Seat) (g : Ghost) (pin began : ℕ) (inv : Invariant o c) (f : Knows o c n s g pin began) (unspent : (view_of c.views n).parts ≢ []) (valid : s.hold.valid ≡ true) (ready : s.walk.ready ≡ true) where
  abbrev at : ℕ
  at = chain o c n s g pin began inv f valid

  abbrev in_chain : KeptIn o c at
  in_chain = chain_is_kept o c n s g pin began inv f valid

  abbrev pinned : Generation
  pinned = nth_generation c.generations at

  w : WalkHolds (around o c) s.hold s.walk
  w = f.walk unspent

  walked : HasWalked o (entries o c.history) c.logs s.walk
  walked = w.walked (w.ready_walked ready).0 (w.ready_walked ready).1

  log : TailLog c s.walk pinned.cut
  log = tail_log o c inv at s.walk in_chain (w.ready_walked ready).0 walked (w.ready_base ready) (w.ready_tail ready)

  abbrev number : ℕ
  number = number_at c.logs s.walk.tail_base

  abbrev block : LogBlock
  block = nth_log c.logs number

  same_words : words_of s ≡ words_in (shape o)
  same_words = ap q_of (f.fits unspent).geometry

  -- the tail's block is of the chain, and its slot is one of the block's
  pub tail_named : is_named o c.logs (entries o c.history) pinned s.walk.tail_block ≡ true
  tail_named = subst (λ (b : ℕ). is_named o c.logs (entries o c.history) pinned b ≡ true) log.block_is (log_is_named o c.logs pinned number (entries o c.history) log.late log.inside)

  pub tail_listed : is_listed (chain_names c.logs pinned) s.walk.tail_block ≡ true
  tail_listed = subst (λ (b : ℕ). is_listed (chain_names c.logs pinned) b ≡ true) log.block_is
      (has_right pinned.snapshots (log_blocks (Rattle.std.proofs.Common.drop pinned.cut c.logs)) block.block (has_log c.logs pinned.cut number log.late log.inside))

  pub tail_from : 3 ≤ s.walk.tail_slot
  tail_from = walked.from

  pub tail_upto : s.walk.tail_slot ≤ words_of s
  tail_upto = (let high = walked.upto in let same = same_words in omega (arith, high, same))

  pub position_small : s.walk.position < 2 ^ 40
  position_small = (let high = w.to_end in let limit = inv.order.log.limit in omega (arith, high, limit))

  pub few_words : length s.calling.base_words ≤ length s.calling.bases * words_of s
  few_words = f.calls.bases.most

  -- the word at its slot
  module _ (open_block : s.walk.tail_slot ≢ words_of s) (word : ℕ) (present : slice_index c.memory.now.words (place_in (shape o) s.walk.tail_block s.walk.tail_slot) ≡ word) where
    abbrev slot : ℕ
    slot = s.walk.tail_slot - 3

    unclosed : s.walk.tail_slot ≢ words_in (shape o)
    unclosed e = open_block (e ∙ sym same_words)

    few : slot ≤ entries_used block
    few = (let inside = (walked.inside unclosed).1 in let same : entries_used block ≡ entries_used (log_at c.logs s.walk.tail_base) = ap (λ (l : LogBlock). entries_used l) log.log_is in omega (arith, inside, same))

    slot_word : slice_index block.slots slot ≡ word
    slot_word =
        (let upto = walked.upto in
        let from = walked.from in
        let other = unclosed in
        let small = few in
        let short = entries_short block.slots in
        let grows : IsGrowing (cell c.memory (place_in (shape o) block.block (slot + 3))) (slice_index block.slots slot) =
        (inv.order.chains at in_chain number log.late log.inside).slots slot (omega (arith, upto, from, other)) (λ sealed. omega (arith, small, short)) in
        let here : slot + 3 ≡ s.walk.tail_slot = omega (arith, from) in
        sym grows.present ∙ (ap (λ (b : ℕ). slice_index c.memory.now.words (place_in (shape o) b (slot + 3))) log.block_is
        ∙ (ap (λ (k : ℕ). slice_index c.memory.now.words (place_in (shape o) s.walk.tail_block k)) here ∙ present)))

    -- a seal is not a block's first slot
    pub seal_late : word ≡ SEAL → 3 < s.walk.tail_slot
    seal_late seal = (let some = (inv.order.log.seal_last number slot (slot_word ∙ seal)).1 in let from = walked.from in omega (arith, some, from))

  -- the link of a block is 0 or leads to a block of the image
  pub link_of_image : (word : ℕ) → slice_index c.memory.now.words (place_in (shape o) s.walk.tail_block 0) ≡ word → word ≢ EMPTY → IsOfImage s word
  link_of_image word present some = subst (λ (b : ℕ). IsOfImage s b) is (by (nat_lt (number + 1) (length c.logs)) refl)
    where
      is : (nth_log c.logs (number + 1)).block ≡ word
      is = sym (inv.order.chains at in_chain number log.late log.inside).link.present
          ∙ (ap (λ (b : ℕ). slice_index c.memory.now.words (place_in (shape o) b 0)) log.block_is ∙ present)

      by : (b : Bool) → nat_lt (number + 1) (length c.logs) ≡ b → IsOfImage s (nth_log c.logs (number + 1)).block
      by true e = (let late = log.late in named_of_image o c n s g pin began inv f valid unspent (nth_log c.logs (number + 1)).block
          (log_is_named o c.logs pinned (number + 1) (entries o c.history) (omega (arith, late)) (ltb-true (number + 1) (length c.logs) e)))
      by false e = absurd (some (sym is ∙ ap (λ (l : LogBlock). l.block) (Rattle.std.proofs.lemmas.List.get_or_past c.logs (number + 1) Rattle.log_core.specs.Origin.no_log (ltb-false (number + 1) (length c.logs) e))))

-- the form of an entry, by its kind
module _ (content : ℕ → List ℕ) (image : Shape) (word : ℕ) (good : is_log_entry_by content image word ≡ true) where
  parts : ((if is_direct word then true else is_indirect word && is_in_data image (field INDIRECT_BLOCK word) && is_indirect_block image (content (field INDIRECT_BLOCK word))) ≡ true)
      × (fits image (longest_of image.block_bytes) (meaning_by content word) ≡ true)
  parts = and_parts (if is_direct word then true else is_indirect word && is_in_data image (field INDIRECT_BLOCK word) && is_indirect_block image (content (field INDIRECT_BLOCK word)))
      (fits image (longest_of image.block_bytes) (meaning_by content word)) good

  few_of : fits image 256 (meaning_by content word) ≡ true
  few_of = fits_more image (longest_of image.block_bytes) 256 (meaning_by content word) (omega arith) parts.1

  by_kind : (direct : Bool) → is_direct word ≡ direct → field ENTRY_KIND word ≢ INDIRECT →
      (if direct then true else is_indirect word && is_in_data image (field INDIRECT_BLOCK word) && is_indirect_block image (content (field INDIRECT_BLOCK word))) ≡ true → field ENTRY_KIND word ≡ DIRECT
  by_kind true is other e = eqb-true (field ENTRY_KIND word) DIRECT (and_parts (field ENTRY_KIND word == DIRECT) (entry_unnamed word == 0) is).0
  by_kind false is other e = absurd (other (eqb-true (field ENTRY_KIND word) INDIRECT
      (and_parts (field ENTRY_KIND word == INDIRECT) (entry_unnamed word == 0)
      (and_parts (is_indirect word) (is_in_data image (field INDIRECT_BLOCK word))
      (and_parts (is_indirect word && is_in_data image (field INDIRECT_BLOCK word)) (is_indirect_block image (content (field INDIRECT_BLOCK word))) e).0).0).0))

  -- an entry that is not indirect is direct, and fits
  pub is_direct_kind : field ENTRY_KIND word ≢ INDIRECT → field ENTRY_KIND word ≡ DIRECT
  is_direct_kind other = by_kind (is_direct word) refl other parts.0

  pub direct_fits : field ENTRY_KIND word ≢ INDIRECT → fits image 256 (direct_meaning word) ≡ true
  direct_fits other = subst (λ (k : ℕ). fits image 256 (if k == DIRECT then direct_meaning word else indirect_meaning (field INDIRECT_BLOCK word) (content (field INDIRECT_BLOCK word))) ≡ true) (is_direct_kind other) few_of

  no_direct : field ENTRY_KIND word ≡ INDIRECT → is_direct word ≡ false
  no_direct kind = ap (λ (k : ℕ). k == DIRECT && entry_unnamed word == 0) kind

  -- one that is has its runs in its block
  pub runs_of : field ENTRY_KIND word ≡ INDIRECT → is_indirect_block image (content (field INDIRECT_BLOCK word)) ≡ true
  runs_of kind = (and_parts (is_indirect word && is_in_data image (field INDIRECT_BLOCK word)) (is_indirect_block image (content (field INDIRECT_BLOCK word)))
      (subst (λ (b : Bool). (if b then true else is_indirect word && is_in_data image (field INDIRECT_BLOCK word) && is_indirect_block image (content (field INDIRECT_BLOCK word))) ≡ true) (no_direct kind) parts.0)).1

  pub runs_fit_so : field ENTRY_KIND word ≡ INDIRECT → fits image 256 (indirect_meaning (field INDIRECT_BLOCK word) (content (field INDIRECT_BLOCK word))) ≡ true
  runs_fit_so kind = subst (λ (k : ℕ). fits image 256 (if k == DIRECT then direct_meaning word else indirect_meaning (field INDIRECT_BLOCK word) (content (field INDIRECT_BLOCK word))) ≡ true) kind few_of

-- an entry whose word is kept at the tail
module _ (o : Origin) (c : Core) (n : ℕ) (s : Seat) (g : Ghost) (pin began : ℕ) (inv : Invariant o c) (f : Knows o c n s g pin began) (unspent : (view_of c.views n).parts ≢ []) (found : HasFoundSlot g s) (word : ℕ) (is : tail_word s ≡ word) (no_seal : word ≢ SEAL) where
  other : tail_word s ≢ SEAL
  other seal = no_seal (sym is ∙ seal)

  pub entry_form : is_log_entry_by c.recorded (shape o) word ≡ true
  entry_form = subst (λ (x : ℕ). is_log_entry_by c.recorded (shape o) x ≡ true) is (form o c n s g pin began inv unspent f found other)

  -- the block of an indirect one is named, and is not the tail's
  abbrev pinned_now : Generation
  pinned_now = nth_generation c.generations (chain o c n s g pin began inv f found.valid)

  holder_in : field ENTRY_KIND word ≡ INDIRECT → is_listed (data_names o (entries o c.history) pinned_now) (field INDIRECT_BLOCK word) ≡ true
  holder_in kind = subst (λ (x : ℕ). is_listed (data_names o (entries o c.history) pinned_now) (field INDIRECT_BLOCK x) ≡ true) is
      (holder_named o c n s g pin began inv unspent f found other (ap (field ENTRY_KIND) is ∙ kind))

  pub holder_is_named : field ENTRY_KIND word ≡ INDIRECT → is_named o c.logs (entries o c.history) pinned_now (field INDIRECT_BLOCK word) ≡ true
  holder_is_named kind = has_right (chain_names c.logs pinned_now) (data_names o (entries o c.history) pinned_now) (field INDIRECT_BLOCK word) (holder_in kind)

  pub holder_apart : field ENTRY_KIND word ≡ INDIRECT → field INDIRECT_BLOCK word ≢ s.walk.tail_block
  holder_apart kind same = in_one_part (chain_names c.logs pinned_now) (data_names o (entries o c.history) pinned_now) (field INDIRECT_BLOCK word)
      (inv.owners.once (chain o c n s g pin began inv f found.valid) (chain_is_kept o c n s g pin began inv f found.valid)).once
      (subst (λ (b : ℕ). is_listed (chain_names c.logs pinned_now) b ≡ true) (sym same) (tail_listed o c n s g pin began inv f unspent found.valid found.ready)) (holder_in kind)

  -- and where its words are kept, they are as recorded
  pub holder_content : field ENTRY_KIND word ≡ INDIRECT → IsKeptWhole s (field INDIRECT_BLOCK word) → kept_content s (field INDIRECT_BLOCK word) ≡ c.recorded (field INDIRECT_BLOCK word)
  holder_content kind whole = listed_word o c n s g pin began inv unspent f found other (field INDIRECT_BLOCK word)
      (has_right pinned_now.snapshots (data_names o (entries o c.history) pinned_now) (field INDIRECT_BLOCK word) (holder_in kind)) whole
