-- The log blocks that a crash leaves of a chain's: each leads on as far as its entries, its seal and its link are left, and what they
-- hold are the first of the chain's entries.
use Rattle.std.proofs.Common.{◌≡◌, ◌≢◌, ◌<◌, ◌≤◌, ◌+◌, ◌-◌, ◌^◌, ◌==◌, ◌&&◌, ◌||◌, not, ◌⊎◌, inl, inr, ℕ, Bool, true, false, List, [], ◌∷◌, ◌++◌, length, take, refl, sym, ◌∙◌, ap, subst, arith, slice_index, ⊎_elim, append-nil, length-append}
use Rattle.std.specs.List.{flat_map, AllByRecursion}
use Rattle.std.proofs.Math.Seq.{take-append-add}
use Rattle.std.proofs.lemmas.Bool.{ne_eqb, eq-eqb, cases_lt}
use Rattle.std.proofs.lemmas.List.{take-append-le, take_all}
use Rattle.log_entry.specs.Fields.{field}
use Rattle.log_entry.specs.Words.{block_word}
use Rattle.log_entry.specs.declared.words.BlockKind.TheVariants.{Log}
use Rattle.log_entry.specs.declared.layouts.TheConstants.{SEAL, BLOCK_BASE, BLOCK_KIND, BLOCK_UNNAMED}
use Rattle.log_image.specs.Image.{Shape, block_words}
use Rattle.log_image.specs.Blocks.{link_of, kind_of, is_snapshot, base_of, slots_of, entry_words, is_closed, leads_on}
use Rattle.log_image.specs.Chains.{LeadsAlong, AreLogsFrom}
use Rattle.log_image.specs.Format.{is_kind_word, is_seal_placed}
use Rattle.log_image.proofs.ChainSteps.{log_entry_words}
use Rattle.log_core.specs.Origin.{LogBlock, no_log}
use Rattle.log_core.specs.Cores.{is_sealed, entries_used, log_blocks}
use Rattle.log_core.proofs.crashes.LeftSlots.{SlotsLeft, SlotsStay, slots_stay, Stayed, Enough, All, stayed}

-- what is left of a log block with the one that follows it: its base; its slots and its link, each as it was used or 0; and of those that
-- are before the synced position each as it was used
pub record LogLeft (words : List ℕ) (image : Shape) (synced : ℕ) (log next : LogBlock) : Type 0 where
  pub base : slice_index (block_words words image log.block) 1 ≡ block_word (record { kind = Log; base = log.base })
  pub small : log.base < 2 ^ 40
  pub third : slice_index (block_words words image log.block) 2 ≡ 0
  pub link : (link_of (block_words words image log.block) ≡ next.block) ⊎ (link_of (block_words words image log.block) ≡ 0)
  pub slots : SlotsLeft log.slots (slots_of (block_words words image log.block))
  pub later : slice_index log.slots 0 ≢ SEAL
  pub sure : (k : ℕ) → k < length log.slots → log.base + k < synced → slice_index (slots_of (block_words words image log.block)) k ≡ slice_index log.slots k
  pub sure_link : next.block ≢ 0 → next.base < synced → link_of (block_words words image log.block) ≡ next.block

-- each log block but the last is full and the next one begins at its end; and the last is not before the synced position
abbrev pub LogsLeft : List ℕ → Shape → ℕ → LogBlock → List LogBlock → Type 0
LogsLeft words image synced log [] = LogLeft words image synced log no_log × (synced ≤ log.base + entries_used log)
LogsLeft words image synced log (next ∷ logs) =
    LogLeft words image synced log next
    × (next.block ≢ 0)
    × (next.base ≡ log.base + entries_used log)
    × ((is_sealed log.slots ≡ true) ⊎ (length log.slots ≡ length (slots_of (block_words words image log.block))))
    × LogsLeft words image synced next logs

-- the words of entries of some log blocks
abbrev pub used_words : List LogBlock → List ℕ
used_words logs = flat_map (λ (log : LogBlock). entry_words log.slots) logs

abbrev pub left_words : List ℕ → Shape → List ℕ → List ℕ
left_words words image blocks = flat_map (log_entry_words words image) blocks

-- a block of the chain that has the words of a log block, but for its entries
pub record HasLogForm (words : List ℕ) (image : Shape) (block : ℕ) : Type 0 where
  pub log : is_snapshot (block_words words image block) ≡ false
  pub kind : is_kind_word (block_words words image block) ≡ true
  pub third : (slice_index (block_words words image block) 2 == 0) ≡ true
  pub placed : is_seal_placed (slots_of (block_words words image block)) ≡ true

-- the blocks of the chain that is left, those behind its first one: a beginning of the log blocks
pub record LogsStay (words : List ℕ) (image : Shape) (synced : ℕ) (log : LogBlock) (logs : List LogBlock) : Type 0 where
  pub rest : List ℕ
  pub beyond : List ℕ
  pub blocks : log_blocks logs ≡ rest ++ beyond
  pub leads : LeadsAlong words image log.block rest
  pub bases : AreLogsFrom words image log.base (log.block ∷ rest)
  pub forms : AllByRecursion (HasLogForm words image) (log.block ∷ rest)
  pub few : length (left_words words image (log.block ∷ rest)) ≤ length (used_words (log ∷ logs))
  pub front : left_words words image (log.block ∷ rest) ≡ take (length (left_words words image (log.block ∷ rest))) (used_words (log ∷ logs))
  pub enough : synced ≤ log.base + length (left_words words image (log.block ∷ rest))

word_kind : (base : ℕ) → base < 2 ^ 40 → field BLOCK_KIND (block_word (record { kind = Log; base = base })) ≡ 1
word_kind base small = omega (arith, small)

word_base : (base : ℕ) → base < 2 ^ 40 → field BLOCK_BASE (block_word (record { kind = Log; base = base })) ≡ base
word_base base small = omega (arith, small)

word_plain : (base : ℕ) → base < 2 ^ 40 → field BLOCK_UNNAMED (block_word (record { kind = Log; base = base })) ≡ 0
word_plain base small = omega (arith, small)

-- a block leads on where it is no snapshot block, closed, and has a link
leads : (block : List ℕ) → is_snapshot block ≡ false → is_closed (slots_of block) ≡ true → link_of block ≢ 0 → leads_on block ≡ true
leads block log closed link = rw (log, closed, ne_eqb (link_of block) 0 link) refl

leads_back : (block : List ℕ) → is_snapshot block ≡ false → leads_on block ≡ true → (is_closed (slots_of block) ≡ true) × (link_of block ≢ 0)
leads_back block log on = by (is_snapshot block) (is_closed (slots_of block)) (link_of block == 0) refl log on
  where
    by : (snapshot closed none : Bool) → (link_of block == 0) ≡ none → snapshot ≡ false → (snapshot || (closed && not none)) ≡ true → (closed ≡ true) × (link_of block ≢ 0)
    by false true false is plain on = (refl, λ link. (let both : false ≡ true = sym is ∙ eq-eqb (link_of block) 0 link in cc))
    by false true true is plain on = cc
    by false false none is plain on = cc
    by true closed none is plain on = cc

leads_not : (block : List ℕ) → is_snapshot block ≡ false → link_of block ≡ 0 → leads_on block ≡ false
leads_not block log link = by (leads_on block) refl
  where
    by : (on : Bool) → leads_on block ≡ on → on ≡ false
    by false is = refl
    by true is = absurd ((leads_back block log is).1 link)

module _ (words : List ℕ) (image : Shape) (synced : ℕ) where
  abbrev left : ℕ → List ℕ
  left block = block_words words image block

  module _ (log next : LogBlock) (is : LogLeft words image synced log next) where
    kind_is : kind_of (left log.block) ≡ 1
    kind_is = ap (λ (w : ℕ). field BLOCK_KIND w) is.base ∙ word_kind log.base is.small

    no_snapshot : is_snapshot (left log.block) ≡ false
    no_snapshot = rw kind_is refl

    base_is : base_of (left log.block) ≡ log.base
    base_is = ap (λ (w : ℕ). field BLOCK_BASE w) is.base ∙ word_base log.base is.small

    stay : SlotsStay log.slots (slots_of (left log.block))
    stay = slots_stay log.slots (slots_of (left log.block)) is.slots

    first_slot : (slice_index (slots_of (left log.block)) 0 == SEAL) ≡ false
    first_slot = ne_eqb (slice_index (slots_of (left log.block)) 0) SEAL (λ seal. first (slots_of (left log.block)) is.slots seal)
      where
        first : (slots : List ℕ) → SlotsLeft log.slots slots → slice_index slots 0 ≡ SEAL → ⊥
        first [] slots seal = absurd (let none : 0 ≡ 3 = seal in omega (arith, none))
        first (slot ∷ rest) slots seal = ⊎_elim (λ same. is.later (sym same ∙ seal)) (λ none. (let both : 0 ≡ 3 = sym none ∙ seal in absurd (omega (arith, both)))) (slots.each 0 (omega arith) (λ sealed. omega arith))

    pub form : HasLogForm words image log.block
    form = record {
      log = no_snapshot;
      kind = rw (ap (λ (w : ℕ). field BLOCK_UNNAMED w) is.base ∙ word_plain log.base is.small) refl;
      third = eq-eqb (slice_index (left log.block) 2) 0 is.third;
      placed = rw (first_slot, stay.placed) refl;
    }

    stayed_slots : Stayed (synced - log.base) log.slots (slots_of (left log.block))
    stayed_slots = stayed (synced - log.base) log.slots (slots_of (left log.block)) is.slots (λ k inside low. is.sure k inside (omega (arith, low)))

    -- where the chain ends in it
    stops : (logs : List LogBlock) → leads_on (left log.block) ≡ false → synced ≤ log.base + length (log_entry_words words image log.block) → LogsStay words image synced log logs
    stops logs last enough = record {
      rest = [];
      beyond = log_blocks logs;
      blocks = refl;
      leads = last;
      bases = (kind_is, base_is, tt);
      forms = (form, tt);
      few = rw only (omega (arith, long, few));
      front = rw only (stay.front ∙ sym (take-append-le (length (log_entry_words words image log.block)) (entry_words log.slots) (used_words logs) few));
      enough = rw only enough;
    }
      where
        only : left_words words image (log.block ∷ []) ≡ log_entry_words words image log.block
        only = append-nil (log_entry_words words image log.block)

        few : length (log_entry_words words image log.block) ≤ length (entry_words log.slots)
        few = stay.few

        long : length (used_words (log ∷ logs)) ≡ length (entry_words log.slots) + length (used_words logs)
        long = length-append (entry_words log.slots) (used_words logs)

  -- the last log block
  ends : (log : LogBlock) → LogLeft words image synced log no_log → synced ≤ log.base + entries_used log → LogsStay words image synced log []
  ends log is late = stops log no_log is [] (leads_not (left log.block) (no_snapshot log no_log is) (⊎_elim (λ none. none) (λ none. none) is.link)) (by (stayed_slots log no_log is))
    where
      by : Stayed (synced - log.base) log.slots (slots_of (left log.block)) → synced ≤ log.base + length (log_entry_words words image log.block)
      by (Enough enough) = omega (arith, enough)
      by (All all closes) = omega (arith, all, late)

  -- another log block
  goes : (log next : LogBlock) (logs : List LogBlock) → LogLeft words image synced log next → next.block ≢ 0 → next.base ≡ log.base + entries_used log →
      (is_sealed log.slots ≡ true) ⊎ (length log.slots ≡ length (slots_of (left log.block))) → LogsStay words image synced next logs → LogsStay words image synced log (next ∷ logs)
  goes log next logs is some base full more = go (leads_on (left log.block)) refl
    where
      by : leads_on (left log.block) ≡ false → Stayed (synced - log.base) log.slots (slots_of (left log.block)) → synced ≤ log.base + length (log_entry_words words image log.block)
      by last (Enough enough) = omega (arith, enough)
      by last (All all closes) = enough_or (cases_lt (log.base + length (log_entry_words words image log.block)) synced)
        where
          enough_or : (log.base + length (log_entry_words words image log.block) < synced) ⊎ (synced ≤ log.base + length (log_entry_words words image log.block)) → synced ≤ log.base + length (log_entry_words words image log.block)
          enough_or (inr enough) = enough
          enough_or (inl less) =
              (let closed = closes (omega (arith, less, all)) full in
              let link = is.sure_link some (omega (arith, less, all, base)) in
              let on = leads (left log.block) (no_snapshot log next is) closed (λ none. some (sym link ∙ none)) in
              let both : true ≡ false = sym on ∙ last in cc)

      go : (on : Bool) → leads_on (left log.block) ≡ on → LogsStay words image synced log (next ∷ logs)
      go false last = stops log next is (next ∷ logs) last (by last (stayed_slots log next is))
      go true on = record {
        rest = next.block ∷ more.rest;
        beyond = more.beyond;
        blocks = ap (λ (l : List ℕ). next.block ∷ l) more.blocks;
        leads = (on, linked, more.leads);
        bases = (kind_is log next is, base_is log next is, subst (λ (from : ℕ). AreLogsFrom words image from (next.block ∷ more.rest)) (omega (arith, base, whole)) more.bases);
        forms = (form log next is, more.forms);
        few = (let few = more.few in omega (arith, few, long, used, whole));
        front = front;
        enough = (let enough = more.enough in omega (arith, enough, long, base, whole));
      }
        where
          closed : (is_closed (slots_of (left log.block)) ≡ true) × (link_of (left log.block) ≢ 0)
          closed = leads_back (left log.block) (no_snapshot log next is) on

          linked : link_of (left log.block) ≡ next.block
          linked = ⊎_elim (λ same. same) (λ none. absurd (closed.1 none)) is.link

          whole : length (log_entry_words words image log.block) ≡ length (entry_words log.slots)
          whole = (stay log next is).whole closed.0

          here : log_entry_words words image log.block ≡ entry_words log.slots
          here = (stay log next is).front ∙ take_all (length (log_entry_words words image log.block)) (entry_words log.slots) (omega (arith, whole))

          long : length (left_words words image (log.block ∷ next.block ∷ more.rest)) ≡ length (log_entry_words words image log.block) + length (left_words words image (next.block ∷ more.rest))
          long = length-append (log_entry_words words image log.block) (left_words words image (next.block ∷ more.rest))

          used : length (used_words (log ∷ next ∷ logs)) ≡ length (entry_words log.slots) + length (used_words (next ∷ logs))
          used = length-append (entry_words log.slots) (used_words (next ∷ logs))

          front : left_words words image (log.block ∷ next.block ∷ more.rest) ≡ take (length (left_words words image (log.block ∷ next.block ∷ more.rest))) (used_words (log ∷ next ∷ logs))
          front = ap (λ (l : List ℕ). l ++ left_words words image (next.block ∷ more.rest)) here
              ∙ (ap (λ (l : List ℕ). entry_words log.slots ++ l) more.front
              ∙ (sym (take-append-add (entry_words log.slots) (used_words (next ∷ logs)) (length (left_words words image (next.block ∷ more.rest))))
              ∙ ap (λ (k : ℕ). take k (used_words (log ∷ next ∷ logs))) (omega (arith, long, whole))))

  pub logs_stay : (log : LogBlock) (logs : List LogBlock) → LogsLeft words image synced log logs → LogsStay words image synced log logs
  logs_stay log [] is = ends log is.0 is.1
  logs_stay log (next ∷ logs) is = goes log next logs is.0 is.1 is.2 is.3 (logs_stay next logs is.4)
