-- A view at its tail with the table of its chain reads the file: a byte that it knows by its map and its kept words is the file's.
use Rattle.std.proofs.Common.{◌≡◌, ◌≢◌, ◌<◌, ◌≤◌, ◌+◌, ◌*◌, ◌/◌, ◌%◌, ◌==◌, ◌++◌, ℕ, Bool, true, false, List, [], ◌∷◌, length, refl, sym, ◌∙◌, ap, subst, arith, slice_index, Option, Some, None}
use Rattle.log_entry.specs.WordBytes.{word_bytes}
use Rattle.std.proofs.lemmas.Bool.{eqb-true, eqb-false}
use Rattle.log_image.specs.Image.{words_in}
use Rattle.log_image.specs.Chains.{is_listed}
use Rattle.pmem_words.specs.Maps.{map_at}
use Rattle.pmem_words.specs.Seats.{Seat}
use Rattle.log_core.specs.Views.{Ghost, view_of}
use Rattle.log_core.specs.Origin.{Origin, shape, Generation}
use Rattle.log_core.specs.Files.{entries, file_at, history_map_at, byte_in, Holds}
use Rattle.log_core.specs.Cores.{Core, data_names}
use Rattle.log_core.specs.Works.{MayReadFile, IsByteIn, kept_at, kept_word}
use Rattle.log_core.specs.Order.{nth_generation}
use Rattle.log_core.specs.Contents.{HoldsFileAt}
use Rattle.log_core.specs.Walks.{WalkHolds, HasWalked}
use Rattle.log_core.specs.Invariant.{Invariant, KeptIn, around}
use Rattle.log_core.specs.Knows.{Knows}
use Rattle.log_core.proofs.PinnedChains.{place, kept, chain_says}
use Rattle.log_core.proofs.MappedBlocks.{mapped_named}
use Rattle.log_core.proofs.WordBytesAt.{eight_words, byte_in_word}
use Rattle.log_core.proofs.clauses.Apart.{has_right, data_is_named}

module _ (o : Origin) (c : Core) (n : ℕ) (s : Seat) (g : Ghost) (pin began : ℕ) (inv : Invariant o c) (f : Knows o c n s g pin began)
    (some : (view_of c.views n).parts ≢ []) (reads : MayReadFile s) where
  w : WalkHolds (around o c) s.hold s.walk
  w = f.walk some

  -- it has walked in a chain that is kept
  abbrev at_pin : ℕ
  at_pin = place o c n s g pin began inv f reads.valid

  abbrev chain : Generation
  chain = nth_generation c.generations at_pin

  in_chain : KeptIn o c at_pin
  in_chain = kept o c n s g pin began inv f reads.valid

  walked : HasWalked o (entries o c.history) c.logs s.walk
  walked = w.walked (w.ready_walked reads.own_table).0 (w.ready_walked reads.own_table).1

  -- its position is not before its chain's, nor before the start's
  base_low : chain.base ≤ s.walk.position
  base_low = go (s.walk.tail_slot == words_in (shape o)) refl
    where
      go : (b : Bool) → (s.walk.tail_slot == words_in (shape o)) ≡ b → chain.base ≤ s.walk.position
      go true e = (let at = (walked.at_end (eqb-true s.walk.tail_slot (words_in (shape o)) e)).1 in
          let base = w.ready_base reads.own_table in let low = w.ready_tail reads.own_table in omega (arith, at, base, low))
      go false e = (let at = (walked.inside (eqb-false s.walk.tail_slot (words_in (shape o)) e)).0 in
          let base = w.ready_base reads.own_table in let low = w.ready_tail reads.own_table in omega (arith, at, base, low))

  pub from_start : (view_of c.views n).first ≤ s.walk.position
  from_start = (f.tail reads.at_tail).from_first

  -- so its map holds the file
  abbrev pub File : List ℕ
  File = file_at o c.history s.walk.position

  says : HoldsFileAt o c.history c.recorded s.walk.position
  says = (inv.contents at_pin in_chain).files s.walk.position base_low w.to_end

  holds : Holds (shape o) c.recorded (history_map_at o (entries o c.history) s.walk.position) File
  holds = says.held (subst (λ (first : ℕ). first ≤ s.walk.position) (f.fits some).first from_start)

  pub size_is : s.walk.size ≡ length File
  size_is = walked.size_is ∙ sym says.size_is

  module _ (virt at byte : ℕ) (inside : at < (shape o).block_bytes) where
    mapped : (block : ℕ) → map_at s.walk.map virt ≡ Some block →
        (kept_at s.walk.kept block (at / 8) ≢ None) × (byte ≡ slice_index (word_bytes (kept_word s block (at / 8) ∷ [])) (at % 8)) →
        byte ≡ slice_index File (virt * (shape o).block_bytes + at)
    mapped block is known = known.1 ∙ (ap (λ (word : ℕ). slice_index (word_bytes (word ∷ [])) (at % 8)) (chain_says o c n s g pin began inv f reads.valid some block (at / 8) named known.0)
        ∙ (sym (byte_in_word (c.recorded block) at long) ∙ (ap (λ (found : Option ℕ). byte_in c.recorded found at) (sym in_map) ∙ holds.each virt at inside)))
      where
        in_map : history_map_at o (entries o c.history) s.walk.position virt ≡ Some block
        in_map = sym (walked.table virt) ∙ is

        named : is_listed (chain.snapshots ++ data_names o (entries o c.history) chain) block ≡ true
        named = has_right chain.snapshots (data_names o (entries o c.history) chain) block (mapped_named o c inv at_pin in_chain s.walk.position virt block base_low in_map)

        long : at < 8 * length (c.recorded block)
        long = (let whole = (inv.contents at_pin in_chain).whole block (data_is_named o c.logs (entries o c.history) chain block named) in
            let eight = eight_words o.geometry.block_bytes o.geometry.block_allowed in omega (arith, whole, eight, inside))

    pub found_byte : IsByteIn s (map_at s.walk.map virt) at byte → byte ≡ slice_index File (virt * (shape o).block_bytes + at)
    found_byte known = go (map_at s.walk.map virt) refl known
      where
        go : (found : Option ℕ) → map_at s.walk.map virt ≡ found → IsByteIn s found at byte → byte ≡ slice_index File (virt * (shape o).block_bytes + at)
        go None none zero_byte = zero_byte ∙ (ap (λ (found : Option ℕ). byte_in c.recorded found at) (sym (sym (walked.table virt) ∙ none)) ∙ holds.each virt at inside)
        go (Some block) is known = mapped block is known
