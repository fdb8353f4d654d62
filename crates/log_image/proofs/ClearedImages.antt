-- Clearing keeps what the words of an image stand for.
use Rattle.std.proofs.Common.{◌≡◌, ◌≤◌, ◌<◌, ◌+◌, ◌*◌, ◌==◌, ◌&&◌, ◌||◌, not, nat_le, nat_lt, inl, ℕ, Bool, true, false, List, [], ◌∷◌, ◌++◌, length, get_or, if◌then◌else◌, refl, sym, ap, ◌∙◌, subst, arith}
use Rattle.std.specs.List.{list_all}
use Rattle.std.proofs.lemmas.Bool.{leb-true, ltb-true}
use Rattle.std.proofs.lemmas.List.{ext_get_or}
use Rattle.std.proofs.Math.Nat.{mul-le-mul_right}
use Rattle.log_entry.specs.Fields.{field}
use Rattle.log_entry.specs.declared.layouts.TheConstants.{HEAD_BLOCK, HEAD_GENERATION}
use Rattle.log_image.specs.Image.{Shape, words_in, total, is_in_log, block_words}
use Rattle.log_image.specs.Header.{shape_of}
use Rattle.log_image.specs.Entries.{Meaning, all_names}
use Rattle.log_image.specs.Blocks.{is_snapshot, link_of, slots_of, entry_words, is_closed, leads_on}
use Rattle.log_image.specs.Chains.{LeadsAlong, IsLinked}
use Rattle.log_image.specs.Stands.{StandsIn, StandsBy}
use Rattle.log_image.specs.Tails.{Tail, AtSlot, AtLink, last_block, tail_in, tail_of, IsClear, IsSameToTail, IsCleared}
use Rattle.log_image.specs.Laws.{IsReadAs, TailKeeps, ClearingKeeps}
use Rattle.log_image.proofs.HoldingLemmas.{both_left, both_right}
use Rattle.log_image.specs.SameWords.{SameHeader}
use Rattle.log_image.proofs.HeaderSteps.{header_shape, header_same, long_words}
use Rattle.log_image.proofs.Clearing.{SameReading, SameToSlot, each_block, other_block, left_alone}
use Rattle.log_image.proofs.ClearedChains.{SameImage}
use Rattle.log_image.proofs.ClearedEntries.{same_entries_of, same_standing}

-- the last block of a chain leads on to none
last_leads : (words : List ℕ) (shape : Shape) (block : ℕ) (rest : List ℕ) → LeadsAlong words shape block rest → leads_on (block_words words shape (last_block block rest)) ≡ false
last_leads words shape block [] leads = leads
last_leads words shape block (next ∷ rest) leads = last_leads words shape next rest leads.2

chain_ends : (words : List ℕ) (shape : Shape) (chain : List ℕ) → IsLinked words shape chain → leads_on (block_words words shape (last_block 0 chain)) ≡ false
chain_ends words shape [] linked = absurd linked
chain_ends words shape (first ∷ rest) linked = last_leads words shape first rest linked.1

-- what each block of a list is, the last is
last_is : (p : ℕ → Bool) (block : ℕ) (rest : List ℕ) → p block ≡ true → list_all p rest ≡ true → p (last_block block rest) ≡ true
last_is p block [] first all = first
last_is p block (next ∷ rest) first all = last_is p next rest (both_left (p next) (list_all p rest) all) (both_right (p next) (list_all p rest) all)

chain_last : (p : ℕ → Bool) (words : List ℕ) (shape : Shape) (chain : List ℕ) → IsLinked words shape chain → list_all p chain ≡ true → p (last_block 0 chain) ≡ true
chain_last p words shape [] linked all = absurd linked
chain_last p words shape (first ∷ rest) linked all = last_is p first rest (both_left (p first) (list_all p rest) all) (both_right (p first) (list_all p rest) all)

no_first : (a b : Bool) → (a || b) ≡ false → a ≡ false
no_first true b none = cc
no_first false b none = refl

-- words that are the same up to a slot of a block of the log
cleared_header : (old new : List ℕ) (shape : Shape) (block : ℕ) → 8 ≤ words_in shape → is_in_log shape block ≡ true → SameToSlot shape block old new → SameHeader old new
cleared_header old new shape block long log is = record {
  same_length = is.same.same_length;
  each = λ place first.
      let past : shape.data_blocks < block = ltb-true shape.data_blocks block (both_left (nat_lt shape.data_blocks block) (nat_lt block (total shape)) log) in
      let times : 1 * words_in shape ≤ block * words_in shape = mul-le-mul_right (words_in shape) (omega (arith, past)) in
      is.same.each place
      (left_alone shape block (3 + length (entry_words (slots_of (block_words old shape block)))) place (λ e. omega (arith, e, times, long, first)) (inl (omega (arith, times, long, first))));
}

cleared_image : (old new : List ℕ) (shape : Shape) (block : ℕ) → 8 ≤ words_in shape → is_in_log shape block ≡ true → SameToSlot shape block old new → SameImage shape old new
cleared_image old new shape block long log is = record {
  head = ap (λ (w : ℕ). field HEAD_BLOCK w) ((cleared_header old new shape block long log is).each 3 (omega arith));
  reads = each_block shape block old new is;
  holds = λ other inside.
      let past : shape.data_blocks < block = ltb-true shape.data_blocks block (both_left (nat_lt shape.data_blocks block) (nat_lt block (total shape)) log) in
      let low : other ≤ shape.data_blocks = leb-true other shape.data_blocks (both_right (nat_le 1 other) (nat_le other shape.data_blocks) inside) in
      other_block shape block old new is other (λ e. omega (arith, e, past, low));
}

-- the tail is where it was
tail_as : (block : ℕ) (old new : List ℕ) → SameReading old new → tail_in block new ≡ tail_in block old
tail_as block old new same = rw (same.closed, same.entries) refl

-- clearing leaves what stands up to the tail, and nothing after it
pub left_to_tail : (shape : Shape) (tail : Tail) (old new : List ℕ) → IsCleared shape tail old new → IsSameToTail shape tail old new
left_to_tail shape tail old new cleared = record { same_length = cleared.same_length; each = λ place left. cleared.each place ∙ ap (λ (b : Bool). if b then 0 else get_or old place 0) left }

now_clear : (shape : Shape) (tail : Tail) (old new : List ℕ) → IsCleared shape tail old new → IsClear new shape tail
now_clear shape tail old new cleared place after = cleared.each place ∙ ap (λ (b : Bool). if b then 0 else get_or old place 0) after

-- the tail is a slot
kept_at_slot : (old new chain file : List ℕ) (position : ℕ) → (stands : StandsBy old chain file position) → is_closed (slots_of (block_words old (shape_of old) (last_block 0 chain))) ≡ false →
    IsSameToTail (shape_of old) (tail_of old (shape_of old) chain) old new → IsReadAs old new chain file position
kept_at_slot old new chain file position stands opens same =
    let long : 8 ≤ words_in (shape_of old) = long_words old stands.header in
    let log : is_in_log (shape_of old) (last_block 0 chain) ≡ true = chain_last (is_in_log (shape_of old)) old (shape_of old) chain stands.stands.is_chain.linked stands.stands.format.areas in
    let slot : tail_of old (shape_of old) chain ≡ AtSlot (last_block 0 chain) (3 + length (entry_words (slots_of (block_words old (shape_of old) (last_block 0 chain))))) = rw opens refl in
    let at : SameToSlot (shape_of old) (last_block 0 chain) old new = record {
      long = omega (arith, long);
      log = no_first (is_snapshot (block_words old (shape_of old) (last_block 0 chain))) (is_closed (slots_of (block_words old (shape_of old) (last_block 0 chain))) && not (link_of (block_words old (shape_of old) (last_block 0 chain)) == 0)) (chain_ends old (shape_of old) chain stands.stands.is_chain.linked);
      opens = opens;
      same = subst (λ (h : Tail). IsSameToTail (shape_of old) h old new) slot same;
    } in
    let header : SameHeader old new = cleared_header old new (shape_of old) (last_block 0 chain) long log at in
    let image : SameImage (shape_of old) old new = cleared_image old new (shape_of old) (last_block 0 chain) long log at in
    record {
      same_shape = header_shape old new header;
      same_generation = ap (λ (w : ℕ). field HEAD_GENERATION w) (header.each 3 (omega arith));
      stands = record {
        header = header_same old new header stands.header;
        stands = subst (λ (s : Shape). StandsIn new s chain file position) (sym (header_shape old new header)) (same_standing (shape_of old) old new image chain file position stands.stands);
      };
      same_names = ap (λ (l : List Meaning). chain ++ all_names l) (same_entries_of (shape_of old) old new image chain stands.stands.format);
      same_tail = tail_as (last_block 0 chain) (block_words old (shape_of old) (last_block 0 chain)) (block_words new (shape_of old) (last_block 0 chain)) (image.reads (last_block 0 chain));
    }

-- the tail is a link: no word changes
kept_at_link : (old new chain file : List ℕ) (position : ℕ) → StandsBy old chain file position → is_closed (slots_of (block_words old (shape_of old) (last_block 0 chain))) ≡ true →
    IsSameToTail (shape_of old) (tail_of old (shape_of old) chain) old new → IsReadAs old new chain file position
kept_at_link old new chain file position stands closes left =
    let link : tail_of old (shape_of old) chain ≡ AtLink (last_block 0 chain) = rw closes refl in
    let unchanged : IsSameToTail (shape_of old) (AtLink (last_block 0 chain)) old new = subst (λ (h : Tail). IsSameToTail (shape_of old) h old new) link left in
    let same : old ≡ new = ext_get_or 0 old new (sym unchanged.same_length) (λ place inside. sym (unchanged.each place refl)) in
    subst (λ (l : List ℕ). IsReadAs old l chain file position) same (record {
      same_shape = refl;
      same_generation = refl;
      stands = stands;
      same_names = refl;
      same_tail = refl;
    })

pub tail_keeps : TailKeeps
tail_keeps old new chain file position stands same = go (is_closed (slots_of (block_words old (shape_of old) (last_block 0 chain)))) refl
  where
    go : (closed : Bool) → is_closed (slots_of (block_words old (shape_of old) (last_block 0 chain))) ≡ closed → IsReadAs old new chain file position
    go true is = kept_at_link old new chain file position stands is same
    go false is = kept_at_slot old new chain file position stands is same

pub clearing_keeps : ClearingKeeps
clearing_keeps old new chain file position stands cleared = record {
  reads = tail_keeps old new chain file position stands (left_to_tail (shape_of old) (tail_of old (shape_of old) chain) old new cleared);
  clear = now_clear (shape_of old) (tail_of old (shape_of old) chain) old new cleared;
}
