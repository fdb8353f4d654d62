-- The clauses on views, owned blocks and giving back hold in the middle of a collection.
use Rattle.std.proofs.Common.{⊎_elim, ◌≡◌, ◌≢◌, ◌≤◌, ◌<◌, ◌+◌, ◌*◌, not, ℕ, zero, suc, true, false, [], ◌∷◌, refl, sym, ap, inl, inr, arith, Option, None, Some}
use Rattle.std.proofs.lemmas.Bool.{false≢true, true≢false}
use Rattle.std.specs.Option.{option_or}
use Rattle.log_image.specs.Entries.{direct_meaning}
use Rattle.log_image.proofs.HoldingLemmas.{names_none}
use Rattle.pmem_words.specs.Maps.{map_at as mapped_at}
use Rattle.persistence.specs.Memory.{cell}
use Rattle.log_image.specs.Chains.{is_listed}
use Rattle.log_core.specs.Views.{view_of}
use Rattle.log_core.specs.Files.{entries, history_map_at}
use Rattle.log_core.specs.Cores.{is_named, generation_at}
use Rattle.log_core.specs.Works.{owned_block, stored_at, content_word, MayCountFilled}
use Rattle.log_core.specs.Certain.{IsCertain}
use Rattle.log_core.specs.Walks.{WalkHolds}
use Rattle.log_core.specs.Giving.{GivingHolds, ScanHolds}
use Rattle.log_core.specs.Invariant.{around, names_by}
use Rattle.log_core.specs.worked_rows.Samples.{image_a}
use Rattle.log_core.specs.worked_rows.Rows.{collected, scan_clear, to_first}
use Rattle.log_core.specs.worked_rows.Accepted.{ViewsStand, OwnedStands, GivingsStand}
use Rattle.log_core.proofs.row_checks.RowChecks.{below_all, in_all, false_of, is_certain, certain_by}

table_zero : (virt : ℕ) → mapped_at (view_of collected.views 0).seat.walk.map virt ≡ history_map_at image_a (entries image_a collected.history) 1 virt
table_zero zero = refl
table_zero (suc zero) = refl
table_zero (suc (suc zero)) = refl
table_zero (suc (suc (suc zero))) = refl
table_zero (suc (suc (suc (suc virt)))) = sym (ap (λ (o : Option ℕ). option_or None o) (names_none (direct_meaning to_first) (suc (suc (suc (suc virt)))) (omega arith)))

table_one : (virt : ℕ) → mapped_at (view_of collected.views 1).seat.walk.map virt ≡ history_map_at image_a (entries image_a collected.history) 0 virt
table_one zero = refl
table_one (suc zero) = refl
table_one (suc (suc zero)) = refl
table_one (suc (suc (suc zero))) = refl
table_one (suc (suc (suc (suc virt)))) = refl

walk : (seat : ℕ) → (view_of collected.views seat).parts ≢ [] → WalkHolds (around image_a collected) (view_of collected.views seat).seat.hold (view_of collected.views seat).seat.walk
walk zero some = record {
  to_end = omega arith;
  from_first = λ reading. absurd (false≢true reading);
  to_current = λ reading. absurd (false≢true reading);
  read = λ reading. absurd (false≢true reading);
  kept_words = λ valid. (record { named = refl; inside = omega arith; word_is = inr (refl, refl); early = λ at. ⊎_elim (λ e. absurd (omega (arith, e))) (λ e. absurd (omega (arith, e))) at }, tt);
  unpinned = λ invalid. absurd (true≢false invalid);
  walked = λ some stopped. record {
    table = table_zero;
    size_is = refl;
    base = refl;
    block = refl;
    from = omega arith;
    upto = omega arith;
    inside = λ within. (refl, omega arith);
    at_end = λ end. absurd (omega (arith, end));
  };
  ready_walked = λ ready. (λ none. omega (arith, none), refl, λ none. omega (arith, none));
  ready_base = λ ready. refl;
  ready_tail = λ ready. omega arith;
  seeking = λ ready come_to. absurd (come_to refl);
  first_known = λ known. record { some = λ none. omega (arith, none); is = refl };
}
walk (suc zero) some = record {
  to_end = omega arith;
  from_first = λ reading. absurd (false≢true reading);
  to_current = λ reading. absurd (false≢true reading);
  read = λ reading. absurd (false≢true reading);
  kept_words = λ valid. (record { named = refl; inside = omega arith; word_is = inr (refl, refl); early = λ at. ⊎_elim (λ e. absurd (omega (arith, e))) (λ e. absurd (omega (arith, e))) at }, tt);
  unpinned = λ invalid. absurd (true≢false invalid);
  walked = λ some stopped. record {
    table = table_one;
    size_is = refl;
    base = refl;
    block = refl;
    from = omega arith;
    upto = omega arith;
    inside = λ within. (refl, omega arith);
    at_end = λ end. absurd (omega (arith, end));
  };
  ready_walked = λ ready. (λ none. omega (arith, none), refl, λ none. omega (arith, none));
  ready_base = λ ready. refl;
  ready_tail = λ ready. omega arith;
  seeking = λ ready come_to. absurd (come_to refl);
  first_known = λ known. record { some = λ none. omega (arith, none); is = refl };
}
walk (suc (suc seat)) some = absurd (some refl)

pub views_stand : ViewsStand
views_stand = walk

each_stored : (word : ℕ) → word < 8
    → stored_at (view_of collected.views 1).ghost.stored (16 + word) ≡ Some (record { word = 16 + word; value = content_word (view_of collected.views 1).seat 0 word; marked = true })
each_stored zero less = refl
each_stored (suc zero) less = refl
each_stored (suc (suc zero)) less = refl
each_stored (suc (suc (suc zero))) less = refl
each_stored (suc (suc (suc (suc zero)))) less = refl
each_stored (suc (suc (suc (suc (suc zero))))) less = refl
each_stored (suc (suc (suc (suc (suc (suc zero)))))) less = refl
each_stored (suc (suc (suc (suc (suc (suc (suc zero))))))) less = refl
each_stored (suc (suc (suc (suc (suc (suc (suc (suc word)))))))) less = absurd (omega (arith, less))

filled_one : (place : ℕ) → place < 1 → MayCountFilled (view_of collected.views 1).ghost (view_of collected.views 1).seat place
filled_one zero less = record { owned = omega arith; each = each_stored }
filled_one (suc place) less = absurd (omega (arith, less))

fenced_at : (place word : ℕ) → place < 1 → word < 8 → IsCertain (cell collected.memory (owned_block (view_of collected.views 1).seat place * 8 + word)) (content_word (view_of collected.views 1).seat place word)
fenced_at zero word less within =
    certain_by (cell collected.memory (16 + word)) (content_word (view_of collected.views 1).seat 0 word)
    (below_all 8 (λ w. is_certain (cell collected.memory (16 + w)) (content_word (view_of collected.views 1).seat 0 w)) word refl within)
fenced_at (suc place) word less within = absurd (omega (arith, less))

pub owned_stands : OwnedStands
owned_stands zero = record { contents = refl; areas = tt; stored = tt; filled = λ place less. absurd (omega (arith, less)); fenced = λ place word less. absurd (omega (arith, less)) }
owned_stands (suc zero) = record {
  contents = refl;
  areas = (refl, tt);
  stored = (
    record { mine = refl; present = refl; marked = λ m. inl refl },
    (
      record { mine = refl; present = refl; marked = λ m. inl refl },
      (
        record { mine = refl; present = refl; marked = λ m. inl refl },
        (
          record { mine = refl; present = refl; marked = λ m. inl refl },
          (
            record { mine = refl; present = refl; marked = λ m. inl refl },
            (
              record { mine = refl; present = refl; marked = λ m. inl refl },
              (
                record { mine = refl; present = refl; marked = λ m. inl refl },
                (record { mine = refl; present = refl; marked = λ m. inl refl }, tt),
              ),
            ),
          ),
        ),
      ),
    ),
  );
  filled = λ place less filled. filled_one place less;
  fenced = λ place word less fenced within. fenced_at place word less within;
}
owned_stands (suc (suc seat)) = record { contents = refl; areas = tt; stored = tt; filled = λ place less. absurd (omega (arith, less)); fenced = λ place word less. absurd (omega (arith, less)) }

-- the second generation does not name block 3
not_named : (block later : ℕ) → is_listed (3 ∷ []) block ≡ true → 1 < later → later ≤ 2 → is_named image_a collected.logs (entries image_a collected.history) (generation_at image_a collected.generations later) block ≡ false
not_named block zero member from upto = absurd (omega (arith, from))
not_named block (suc zero) member from upto = absurd (omega (arith, from))
not_named block (suc (suc zero)) member from upto =
    false_of (is_named image_a collected.logs (entries image_a collected.history) (generation_at image_a collected.generations 2) block)
    (in_all (λ b. not (is_named image_a collected.logs (entries image_a collected.history) (generation_at image_a collected.generations 2) b)) (3 ∷ []) block refl member)
not_named block (suc (suc (suc later))) member from upto = absurd (omega (arith, upto))

lists_before : (seat : ℕ) → GivingHolds (names_by image_a collected.logs (entries image_a collected.history) collected.generations) 2 1 (view_of collected.views seat).seat.giving
lists_before zero = record { replaced_past = omega arith; replaced = not_named; limbo = λ block later member from upto. absurd (false≢true member); replaced_sure = λ sure. absurd (false≢true sure); limbo_sure = omega arith }
lists_before (suc zero) = record { replaced_past = omega arith; replaced = λ block later member from upto. absurd (false≢true member); limbo = λ block later member from upto. absurd (false≢true member); replaced_sure = λ sure. omega arith; limbo_sure = omega arith }
lists_before (suc (suc seat)) = record { replaced_past = omega arith; replaced = λ block later member from upto. absurd (false≢true member); limbo = λ block later member from upto. absurd (false≢true member); replaced_sure = λ sure. omega arith; limbo_sure = omega arith }

lists_after : (seat : ℕ) → GivingHolds (names_by image_a scan_clear.logs (entries image_a scan_clear.history) scan_clear.generations) 2 2 (view_of scan_clear.views seat).seat.giving
lists_after zero = record { replaced_past = omega arith; replaced = not_named; limbo = λ block later member from upto. absurd (false≢true member); replaced_sure = λ sure. omega arith; limbo_sure = omega arith }
lists_after (suc zero) = record { replaced_past = omega arith; replaced = λ block later member from upto. absurd (false≢true member); limbo = λ block later member from upto. absurd (false≢true member); replaced_sure = λ sure. omega arith; limbo_sure = omega arith }
lists_after (suc (suc seat)) = record { replaced_past = omega arith; replaced = λ block later member from upto. absurd (false≢true member); limbo = λ block later member from upto. absurd (false≢true member); replaced_sure = λ sure. omega arith; limbo_sure = omega arith }

scans_before : (seat other : ℕ) → ScanHolds (view_of collected.views seat).seat.giving other (view_of collected.views other).seat.hold
scans_before zero other = record { replaced = λ seen. absurd (omega (arith, seen)); limbo = λ seen. absurd (omega (arith, seen)) }
scans_before (suc zero) other = record { replaced = λ seen. absurd (omega (arith, seen)); limbo = λ seen. absurd (omega (arith, seen)) }
scans_before (suc (suc seat)) other = record { replaced = λ seen. absurd (omega (arith, seen)); limbo = λ seen. absurd (omega (arith, seen)) }

scans_after : (seat other : ℕ) → ScanHolds (view_of scan_clear.views seat).seat.giving other (view_of scan_clear.views other).seat.hold
scans_after zero zero = record { replaced = λ seen clear valid. absurd (false≢true valid); limbo = λ seen clear valid. absurd (false≢true valid) }
scans_after zero (suc zero) = record { replaced = λ seen clear valid. absurd (false≢true valid); limbo = λ seen clear valid. absurd (false≢true valid) }
scans_after zero (suc (suc other)) = record { replaced = λ seen. absurd (omega (arith, seen)); limbo = λ seen. absurd (omega (arith, seen)) }
scans_after (suc zero) other = record { replaced = λ seen. absurd (omega (arith, seen)); limbo = λ seen. absurd (omega (arith, seen)) }
scans_after (suc (suc seat)) other = record { replaced = λ seen. absurd (omega (arith, seen)); limbo = λ seen. absurd (omega (arith, seen)) }

pub givings_stand : GivingsStand
givings_stand = (record { lists = lists_before; scans = scans_before }, record { lists = lists_after; scans = scans_after })
