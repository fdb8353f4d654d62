-- The link that is the tail, set to a fresh log block, makes the chain longer and changes no more.
use Rattle.std.proofs.Common.{◌≡◌, ◌≢◌, ◌<◌, ◌≤◌, ◌+◌, ◌-◌, ◌*◌, ◌==◌, ◌&&◌, ◌||◌, not, nat_lt, ℕ, Bool, true, false, List, [], ◌∷◌, ◌++◌, length, get_or, set, if◌then◌else◌, refl, sym, ap, ◌∙◌, subst, arith, append_assoc, length-drop}
use Rattle.std.specs.List.{list_all}
use Rattle.std.proofs.lemmas.Bool.{eq-eqb, ne_eqb, eqb-true, ltb-true}
use Rattle.std.proofs.lemmas.List.{get_or-set_other, get_or-set_same, get_or-drop}
use Rattle.log_entry.specs.Fields.{field}
use Rattle.log_entry.specs.declared.layouts.TheConstants.{HEAD_BLOCK, BLOCK_KIND, SNAPSHOT}
use Rattle.log_image.specs.Image.{Shape, words_in, total, is_in_log, block_words}
use Rattle.log_image.specs.Header.{shape_of}
use Rattle.log_image.specs.Entries.{Meaning, all_names}
use Rattle.log_image.specs.Blocks.{is_snapshot, link_of, slots_of, entry_words, is_closed, leads_on, kind_of, base_of}
use Rattle.log_image.specs.Chains.{all_different, is_listed}
use Rattle.log_image.specs.Positions.{entries_of}
use Rattle.log_image.specs.Format.{is_log_entry, is_log_block, is_seal_placed, is_seal_last, is_kind_word}
use Rattle.log_image.proofs.ClearedChains.{both}
use Rattle.log_image.specs.Stands.{HoldsFile, StandsIn}
use Rattle.log_image.specs.Tails.{Tail, AtSlot, AtLink, last_block, tail_in, tail_of, IsClear}
use Rattle.log_image.specs.Taken.{is_taken}
use Rattle.log_image.proofs.HoldingLemmas.{both_left}
use Rattle.log_image.proofs.ImageLemmas.{length_range}
use Rattle.log_image.specs.SameWords.{SameHeader}
use Rattle.image_steps.specs.Steps.{StandsClear, IsFreshLog, TakesBlock, LinksGrowTheLog}
use Rattle.log_image.proofs.ChainSteps.{log_entry_words}
use Rattle.log_image.proofs.EntrySteps.{placed_in, good_block}
use Rattle.image_steps.proofs.Extension.{Extends, Extended, extended}
use Rattle.log_image.proofs.BlockLemmas.{set_here, set_elsewhere}
use Rattle.image_steps.proofs.SlotLemmas.{no_words, no_seal}
use Rattle.log_image.proofs.HeaderSteps.{header_shape, header_same, long_words}
use Rattle.image_steps.proofs.KeptHeaders.{keeps_header}
use Rattle.log_image.proofs.NameLemmas.{or_left, different_join}
use Rattle.image_steps.proofs.TailLemmas.{split_chain, last_of, AtTail, at_tail, no_lead, chain_taken, in_right, InBlock, after_in_block, by_block}
use Rattle.log_image.proofs.SetWordLemmas.{drop_first, set_header, set_front, set_named, set_names, tail_inside}
use Rattle.image_steps.proofs.StoreStep.{nothing_after, holds_kept}

-- what a tail that is a link says
pub record IsEnd (words : List ℕ) (tail block : ℕ) : Type 0 where
  pub closed : is_closed (slots_of words) ≡ true
  pub same_block : tail ≡ block

link_tail : (words : List ℕ) (tail block : ℕ) → tail_in tail words ≡ AtLink block → IsEnd words tail block
link_tail words tail block is = go (is_closed (slots_of words)) refl is
  where
    go : (closed : Bool) → is_closed (slots_of words) ≡ closed → (if closed then AtLink tail else AtSlot tail (3 + length (entry_words (slots_of words)))) ≡ AtLink block → IsEnd words tail block
    go true closes tail = record { closed = closes; same_block = cc }
    go false opens tail = cc

-- the tail, closed, and a fresh log block
pub record ClosedTail (shape : Shape) (old front : List ℕ) (tail next : ℕ) (position : ℕ) : Type 0 where
  pub long : 8 ≤ words_in shape
  pub at : AtTail shape old front tail
  pub whole : tail * words_in shape + words_in shape ≤ length old
  pub next_whole : next * words_in shape + words_in shape ≤ length old
  pub closed : is_closed (slots_of (block_words old shape tail)) ≡ true
  pub next_area : is_in_log shape next ≡ true
  pub untaken : is_taken old shape (front ++ tail ∷ []) next ≡ false
  pub fresh : IsFreshLog position (block_words old shape next)

-- the image with the link set
abbrev linked : Shape → List ℕ → ℕ → ℕ → List ℕ
linked shape old tail next = set old (tail * words_in shape + 0) next

next_some : (shape : Shape) (old front : List ℕ) (tail next position : ℕ) → ClosedTail shape old front tail next position → (next == 0) ≡ false
next_some shape old front tail next position is =
    ne_eqb next 0 (λ e. omega (arith, e, ltb-true shape.data_blocks next (both_left (nat_lt shape.data_blocks next) (nat_lt next (total shape)) is.next_area)))

-- the new block is not one of the chain's
not_in_chain : (shape : Shape) (old front : List ℕ) (tail next position : ℕ) → ClosedTail shape old front tail next position → (block : ℕ) → is_listed (front ++ tail ∷ []) block ≡ true → next ≢ block
not_in_chain shape old front tail next position is block inside same =
    let taken : is_taken old shape (front ++ tail ∷ []) next ≡ true = chain_taken old shape (front ++ tail ∷ []) next (subst (λ (b : ℕ). is_listed (front ++ tail ∷ []) b ≡ true) (sym same) inside) in
    differ (is_taken old shape (front ++ tail ∷ []) next) taken is.untaken
  where
    differ : (b : Bool) → b ≡ true → b ≡ false → ⊥
    differ b yes_b no_b = cc

next_other : (shape : Shape) (old front : List ℕ) (tail next position : ℕ) → ClosedTail shape old front tail next position → next ≢ tail
next_other shape old front tail next position is = not_in_chain shape old front tail next position is tail (in_right front (tail ∷ []) tail (or_left (tail == tail) false (eq-eqb tail tail refl)))

next_same : (shape : Shape) (old front : List ℕ) (tail next position : ℕ) → ClosedTail shape old front tail next position → block_words (linked shape old tail next) shape next ≡ block_words old shape next
next_same shape old front tail next position is = set_elsewhere shape old tail 0 next next (omega (arith, is.long)) (next_other shape old front tail next position is)

tail_linked : (shape : Shape) (old front : List ℕ) (tail next position : ℕ) → ClosedTail shape old front tail next position → block_words (linked shape old tail next) shape tail ≡ set (block_words old shape tail) 0 next
tail_linked shape old front tail next position is = set_here shape old tail 0 next (omega (arith, is.long)) is.whole

tail_word : (shape : Shape) (old front : List ℕ) (tail next position index : ℕ) → ClosedTail shape old front tail next position → 0 < index → get_or (block_words (linked shape old tail next) shape tail) index 0 ≡ get_or (block_words old shape tail) index 0
tail_word shape old front tail next position index is some =
    ap (λ (l : List ℕ). get_or l index 0) (tail_linked shape old front tail next position is) ∙ get_or-set_other (block_words old shape tail) 0 index next 0 (λ e. omega (arith, e, some))

tail_slots : (shape : Shape) (old front : List ℕ) (tail next position : ℕ) → ClosedTail shape old front tail next position → slots_of (block_words (linked shape old tail next) shape tail) ≡ slots_of (block_words old shape tail)
tail_slots shape old front tail next position is = ap (λ (l : List ℕ). slots_of l) (tail_linked shape old front tail next position is) ∙ drop_first (block_words old shape tail) next

-- the tail leads on to the new block, which leads on to none
tail_onward : (shape : Shape) (old front : List ℕ) (tail next position : ℕ) → ClosedTail shape old front tail next position →
    (leads_on (block_words (linked shape old tail next) shape tail) ≡ true) × (link_of (block_words (linked shape old tail next) shape tail) ≡ next)
tail_onward shape old front tail next position is =
    let long : length (block_words old shape tail) ≡ words_in shape = length_range old (tail * words_in shape) (words_in shape) is.whole in
    let link : link_of (block_words (linked shape old tail next) shape tail) ≡ next =
    ap (λ (l : List ℕ). link_of l) (tail_linked shape old front tail next position is) ∙ get_or-set_same (block_words old shape tail) 0 next 0 (omega (arith, long, is.long)) in
    let log : is_snapshot (block_words (linked shape old tail next) shape tail) ≡ false = ap (λ (w : ℕ). field BLOCK_KIND w == SNAPSHOT) (tail_word shape old front tail next position 1 is (omega arith)) ∙ is.at.is_log in
    let closed : is_closed (slots_of (block_words (linked shape old tail next) shape tail)) ≡ true = ap (λ (l : List ℕ). is_closed l) (tail_slots shape old front tail next position is) ∙ is.closed in (
      test (is_snapshot (block_words (linked shape old tail next) shape tail)) (is_closed (slots_of (block_words (linked shape old tail next) shape tail))) (link_of (block_words (linked shape old tail next) shape tail) == 0) closed
          (ap (λ (n : ℕ). n == 0) link ∙ next_some shape old front tail next position is),
      link,
    )
  where
    test : (snapshot closed none : Bool) → closed ≡ true → none ≡ false → (snapshot || (closed && not none)) ≡ true
    test true closed none yes_c no_n = refl
    test false closed none yes_c no_n = rw (yes_c, no_n) refl

fresh_log : (position : ℕ) (block : List ℕ) → IsFreshLog position block → is_snapshot block ≡ false
fresh_log position block fresh = ap (λ (k : ℕ). k == SNAPSHOT) fresh.kind

fresh_first : (position : ℕ) (block : List ℕ) → IsFreshLog position block → get_or (slots_of block) 0 0 ≡ 0
fresh_first position block fresh = get_or-drop 3 block 0 0 ∙ fresh.rest 3 (omega arith)

fresh_leads : (position : ℕ) (block : List ℕ) → IsFreshLog position block → leads_on block ≡ false
fresh_leads position block fresh = no_lead block (fresh_log position block fresh) fresh.link

fresh_good : (image : List ℕ) (shape : Shape) (position : ℕ) (block : List ℕ) → IsFreshLog position block → is_log_block image shape block ≡ true
fresh_good image shape position block fresh =
    good_block image shape block (ap (λ (w : ℕ). w == 0) (fresh.rest 2 (omega arith)))
    (ap (λ (l : List ℕ). list_all (is_log_entry image shape) l) (no_words (slots_of block) (fresh_first position block fresh)))
    (both (not (get_or (slots_of block) 0 0 == 3)) (is_seal_last (slots_of block)) (ap (λ (w : ℕ). not (w == 3)) (fresh_first position block fresh)) (no_seal (slots_of block) (fresh_first position block fresh)))

is_open : (slots : List ℕ) → get_or slots 0 0 ≡ 0 → 0 < length slots → is_closed slots ≡ false
is_open [] first some = absurd (omega (arith, some))
is_open (slot ∷ slots) first some = rw first refl

link_extends : (shape : Shape) (old front : List ℕ) (tail next : ℕ) (file : List ℕ) (position : ℕ) → ClosedTail shape old front tail next position → StandsIn old shape (front ++ tail ∷ []) file position → Extends shape old (linked shape old tail next) front tail (next ∷ []) []
link_extends shape old front tail next file position is stands =
    let header : SameHeader old (linked shape old tail next) = set_header shape old tail 0 next (omega (arith, is.long)) is.at.area in
    let same : block_words (linked shape old tail next) shape next ≡ block_words old shape next = next_same shape old front tail next position is in
    let onward : (leads_on (block_words (linked shape old tail next) shape tail) ≡ true) × (link_of (block_words (linked shape old tail next) shape tail) ≡ next) = tail_onward shape old front tail next position is in
    record {
      head = ap (λ (w : ℕ). field HEAD_BLOCK w) (header.each 3 (omega arith));
      front_same = set_front shape old front tail 0 next (omega (arith, is.long)) stands.is_chain.different;
      names_same = set_names shape old (front ++ tail ∷ []) tail 0 next (omega (arith, is.long)) is.at.area stands.format;
      word = tail_word shape old front tail next position 1 is (omega arith);
      third = tail_word shape old front tail next position 2 is (omega arith);
      is_log = is.at.is_log;
      placed = ap (λ (l : List ℕ). is_seal_placed l) (tail_slots shape old front tail next position is) ∙ placed_in old shape (block_words old shape tail) is.at.good;
      tail_words = ap (λ (l : List ℕ). entry_words l) (tail_slots shape old front tail next position is) ∙ sym (nothing_after (log_entry_words old shape tail));
      onward = (onward.0, onward.1, ap (λ (l : List ℕ). leads_on l) same ∙ fresh_leads position (block_words old shape next) is.fresh);
      more_logs = (ap (λ (l : List ℕ). kind_of l) same ∙ is.fresh.kind, ap (λ (l : List ℕ). base_of l) same ∙ is.fresh.base ∙ omega (arith, stands.ends_at), tt);
      more_empty = ap (λ (l : List ℕ). entry_words (slots_of l) ++ []) same ∙ ap (λ (l : List ℕ). l ++ []) (no_words (slots_of (block_words old shape next)) (fresh_first position (block_words old shape next) is.fresh));
      more_areas = ap (λ (b : Bool). b && true) is.next_area;
      more_kinds = ap (λ (l : List ℕ). is_kind_word l && true) same ∙ ap (λ (b : Bool). b && true) is.fresh.named_bits;
      more_good = ap (λ (l : List ℕ). is_log_block (linked shape old tail next) shape l && true) same ∙ ap (λ (b : Bool). b && true) (fresh_good (linked shape old tail next) shape position (block_words old shape next) is.fresh);
      different = subst (λ (l : List ℕ). all_different l ≡ true) (append_assoc front (tail ∷ []) (next ∷ []))
          (different_join (front ++ tail ∷ []) (next ∷ []) stands.is_chain.different refl (λ b inside. rw (ne_eqb next b (not_in_chain shape old front tail next position is b inside)) refl));
      added_fit = refl;
      named_once = ap (λ (l : List Meaning). all_different (all_names l)) (nothing_after (entries_of old shape (front ++ tail ∷ []))) ∙ stands.format.named_once;
      below_limit = omega (arith, stands.format.below_limit);
    }

-- the tail is the new block's first slot
fresh_tail : (shape : Shape) (old front : List ℕ) (tail next position : ℕ) → ClosedTail shape old front tail next position → tail_in next (block_words (linked shape old tail next) shape next) ≡ AtSlot next 3
fresh_tail shape old front tail next position is =
    let first : get_or (slots_of (block_words old shape next)) 0 0 ≡ 0 = fresh_first position (block_words old shape next) is.fresh in
    let some : 0 < length (slots_of (block_words old shape next)) = omega (arith, length-drop 3 (block_words old shape next), length_range old (next * words_in shape) (words_in shape) is.next_whole, is.long) in
    ap (λ (l : List ℕ). tail_in next l) (next_same shape old front tail next position is)
    ∙ rw (is_open (slots_of (block_words old shape next)) first some, no_words (slots_of (block_words old shape next)) first) refl

-- and nothing stands after it
fresh_clear : (shape : Shape) (old front : List ℕ) (tail next position : ℕ) → ClosedTail shape old front tail next position → IsClear (linked shape old tail next) shape (AtSlot next 3)
fresh_clear shape old front tail next position is place after =
    let inside : InBlock shape next place = after_in_block shape next 3 place (omega (arith, is.long)) after in
    by_block shape (linked shape old tail next) next place inside
    ∙ ap (λ (l : List ℕ). get_or l (place - next * words_in shape) 0) (next_same shape old front tail next position is)
    ∙ go (place == next * words_in shape) refl after
  where
    go : (link : Bool) → (place == next * words_in shape) ≡ link → (link || (nat_lt (next * words_in shape + 3) place && nat_lt place (next * words_in shape + words_in shape))) ≡ true → get_or (block_words old shape next) (place - next * words_in shape) 0 ≡ 0
    go true at holds = (let zero_place : place - next * words_in shape ≡ 0 = omega (arith, eqb-true place (next * words_in shape) at) in rw zero_place is.fresh.link)
    go false at holds = is.fresh.rest (place - next * words_in shape)
        (omega (arith, ltb-true (next * words_in shape + 3) place (both_left (nat_lt (next * words_in shape + 3) place) (nat_lt place (next * words_in shape + words_in shape)) holds)))

link_at : (old front : List ℕ) (tail : ℕ) (file : List ℕ) (position next : ℕ) → StandsClear old (front ++ tail ∷ []) file position → tail_in tail (block_words old (shape_of old) tail) ≡ AtLink tail → is_in_log (shape_of old) next ≡ true →
    is_taken old (shape_of old) (front ++ tail ∷ []) next ≡ false → IsFreshLog position (block_words old (shape_of old) next) → TakesBlock old (linked (shape_of old) old tail next) (front ++ tail ∷ []) file position next
link_at old front tail file position next clear tail_there area untaken fresh =
    let at : AtTail (shape_of old) old front tail = at_tail (shape_of old) old front tail file position clear.stands.stands in
    let is : ClosedTail (shape_of old) old front tail next position = record {
      long = long_words old clear.stands.header;
      at = at;
      whole = tail_inside old tail clear.stands.header at.area;
      next_whole = tail_inside old next clear.stands.header area;
      closed = (link_tail (block_words old (shape_of old) tail) tail tail tail_there).closed;
      next_area = area;
      untaken = untaken;
      fresh = fresh;
    } in
    let header : SameHeader old (linked (shape_of old) old tail next) = set_header (shape_of old) old tail 0 next (omega (arith, is.long)) at.area in
    let done : Extended (shape_of old) old (linked (shape_of old) old tail next) front tail (next ∷ []) [] =
    extended (shape_of old) old (linked (shape_of old) old tail next) front tail (next ∷ []) [] at.began (link_extends (shape_of old) old front tail next file position is clear.stands.stands) in
    let same_entries : entries_of (linked (shape_of old) old tail next) (shape_of old) (front ++ tail ∷ next ∷ []) ≡ entries_of old (shape_of old) (front ++ tail ∷ []) = done.entries ∙ nothing_after (entries_of old (shape_of old) (front ++ tail ∷ [])) in
    let joined : front ++ tail ∷ next ∷ [] ≡ (front ++ tail ∷ []) ++ next ∷ [] = sym (append_assoc front (tail ∷ []) (next ∷ [])) in
    let new_tail : tail_of (linked (shape_of old) old tail next) (shape_of old) ((front ++ tail ∷ []) ++ next ∷ []) ≡ AtSlot next 3 =
    ap (λ (b : ℕ). tail_in b (block_words (linked (shape_of old) old tail next) (shape_of old) b)) (last_of 0 (front ++ tail ∷ []) next) ∙ fresh_tail (shape_of old) old front tail next position is in
    record {
      header = keeps_header old (linked (shape_of old) old tail next) header;
      stands = record {
        stands = record {
          header = header_same old (linked (shape_of old) old tail next) header clear.stands.header;
          stands = subst (λ (s : Shape). StandsIn (linked (shape_of old) old tail next) s ((front ++ tail ∷ []) ++ next ∷ []) file position) (sym (header_shape old (linked (shape_of old) old tail next) header))
              (subst (λ (l : List ℕ). StandsIn (linked (shape_of old) old tail next) (shape_of old) l file position) joined (record {
                is_chain = done.is_chain;
                format = done.format;
                ends_at = done.position ∙ omega (arith, clear.stands.stands.ends_at);
                ends_with = done.size ∙ clear.stands.stands.ends_with;
                holds = subst (λ (l : List Meaning). HoldsFile (linked (shape_of old) old tail next) (shape_of old) l file) (sym same_entries)
                    (holds_kept (shape_of old) old (linked (shape_of old) old tail next) (entries_of old (shape_of old) (front ++ tail ∷ [])) file
                    (set_named (shape_of old) old (front ++ tail ∷ []) tail 0 next (omega (arith, is.long)) at.area clear.stands.stands.format) clear.stands.stands.holds);
              }));
        };
        clear = subst (λ (s : Shape). IsClear (linked (shape_of old) old tail next) s (tail_of (linked (shape_of old) old tail next) s ((front ++ tail ∷ []) ++ next ∷ []))) (sym (header_shape old (linked (shape_of old) old tail next) header))
            (subst (λ (h : Tail). IsClear (linked (shape_of old) old tail next) (shape_of old) h) (sym new_tail) (fresh_clear (shape_of old) old front tail next position is));
      };
      entries = subst (λ (l : List ℕ). entries_of (linked (shape_of old) old tail next) (shape_of old) l ≡ entries_of old (shape_of old) (front ++ tail ∷ [])) joined same_entries;
      tail = new_tail;
    }

pub links_grow_the_log : LinksGrowTheLog
links_grow_the_log old [] file position block next clear tail_there area untaken fresh = absurd clear.stands.stands.is_chain.linked
links_grow_the_log old (first ∷ rest) file position block next clear tail_there area untaken fresh =
    let split : (front : List ℕ) × (first ∷ rest ≡ front ++ last_block first rest ∷ []) = split_chain first rest in
    let same : last_block first rest ≡ block = (link_tail (block_words old (shape_of old) (last_block first rest)) (last_block first rest) block tail_there).same_block in
    let at : block * words_in (shape_of old) + 0 ≡ block * words_in (shape_of old) = omega arith in
    subst (λ (l : List ℕ). TakesBlock old (set old (block * words_in (shape_of old)) next) l file position next) (sym split.1)
    (subst (λ (n : ℕ). TakesBlock old (set old n next) (split.0 ++ last_block first rest ∷ []) file position next) (ap (λ (b : ℕ). b * words_in (shape_of old) + 0) same ∙ at)
    (link_at old split.0 (last_block first rest) file position next (subst (λ (l : List ℕ). StandsClear old l file position) split.1 clear)
    (tail_there ∙ ap (λ (b : ℕ). AtLink b) (sym same)) area
    (subst (λ (l : List ℕ). is_taken old (shape_of old) l next ≡ false) split.1 untaken) fresh))
