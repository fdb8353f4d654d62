-- The parts of a core fit one another, and the seats are once in its views, also where one view is replaced by one of the same parts.
use Rattle.std.proofs.Common.{◌≡◌, ◌≢◌, ◌<◌, ◌≤◌, ℕ, true, nat_lt, List, [], length, refl, sym, ◌∙◌, ap, subst, slice_set}
use Rattle.std.specs.List.{AllByRecursion}
use Rattle.std.proofs.lemmas.List.{length-set}
use Rattle.log_entry.specs.declared.calls.Call.{Call}
use Rattle.persistence.specs.Memory.{Memory, PendingMark}
use Rattle.log_image.specs.Chains.{is_listed}
use Rattle.log_core.specs.Views.{View, view_of, spent_view}
use Rattle.log_core.specs.Origin.{Origin}
use Rattle.log_core.specs.Files.{Write}
use Rattle.log_core.specs.Sizes.{Sizes, MemoryFits, SeatFits}
use Rattle.log_core.specs.Records.{SeatsOnce, one_if}
use Rattle.log_core.proofs.clauses.OneView.{each_set, parts_set, all_set}

module _ (o : Origin) (before : List View) (n : ℕ) (w : View) (here : n < length before) (unspent : (view_of before n).parts ≢ []) (same_parts : w.parts ≡ (view_of before n).parts) where
  abbrev views : List View
  views = slice_set before n w

  count : length views ≡ length before
  count = length-set before n w

  pub sizes_set : (old m : Memory) (began_before began : List ℕ) → Sizes o old before began_before → MemoryFits o m (length before) →
      length began ≡ length began_before → w.made ≡ (view_of before n).made → SeatFits o n w → Sizes o m views began
  sizes_set old m began_before began sizes fits same_began same_made mine = record {
    seats = sizes.seats;
    image = sizes.image;
    words = record {
      words = fits.words;
      taken = fits.taken;
      pins = fits.pins;
      floors = fits.floors;
      reached = fits.reached;
      small = fits.small;
      small_past = fits.small_past;
      pending = subst (λ (k : ℕ). AllByRecursion (λ (note : PendingMark). (note.seat < k) × (note.word < length o.words) × (note.time ≤ length m.past)) m.pending) (sym count) fits.pending;
    };
    some = subst (λ (k : ℕ). 0 < k) (sym count) sizes.some;
    few = subst (λ (k : ℕ). k ≤ o.seats) (sym count) sizes.few;
    begun = same_began ∙ (sizes.begun ∙ sym count);
    made = λ some. subst (λ (k : ℕ). (view_of views 0).made ≡ k) (sym count)
        (each_set (λ (k : ℕ) (v : View). k ≡ 0 → v.parts ≢ [] → v.made ≡ length before) before n w here
        (λ zero_is parts. same_made ∙ at_zero n zero_is unspent)
        (λ k other zero_is parts. at_zero k zero_is parts) 0 refl some);
    few_made = λ number. subst (λ (k : ℕ). (view_of views number).made ≤ k) (sym count)
        (each_set (λ (k : ℕ) (v : View). v.made ≤ length before) before n w here (subst (λ (made : ℕ). made ≤ length before) (sym same_made) (sizes.few_made n)) (λ k other. sizes.few_made k) number);
    spent = each_set (λ (k : ℕ) (v : View). v.parts ≡ [] → v ≡ spent_view) before n w here (λ none. absurd (unspent (sym same_parts ∙ none))) (λ k other none. sizes.spent k none);
    each = λ number inside some. each_set (λ (k : ℕ) (v : View). k < length before → v.parts ≢ [] → SeatFits o k v) before n w here
        (λ low parts. mine) (λ k other low parts. sizes.each k low parts) number (subst (λ (k : ℕ). number < k) count inside) some;
  }
    where
      at_zero : (k : ℕ) → k ≡ 0 → (view_of before k).parts ≢ [] → (view_of before k).made ≡ length before
      at_zero k zero_is = subst (λ (j : ℕ). (view_of before j).parts ≢ [] → (view_of before j).made ≡ length before) (sym zero_is) sizes.made

  pub seats_once_set : (history : List Write) → SeatsOnce history before →
      AllByRecursion (λ (call : Call). is_listed w.parts call.seat ≡ true) w.done → SeatsOnce history views
  seats_once_set history once mine = record {
    once = λ seat. parts_set before n w seat same_parts here ∙ (once.once seat ∙ ap (λ (k : ℕ). one_if (nat_lt seat k)) (sym count));
    own = each_set (λ (k : ℕ) (v : View). v.parts ≢ [] → is_listed v.parts k ≡ true) before n w here
        (λ some. subst (λ (parts : List ℕ). is_listed parts n ≡ true) (sym same_parts) (once.own n unspent)) (λ k other. once.own k);
    writes = subst (λ (k : ℕ). AllByRecursion (λ (write : Write). write.seat < k) history) (sym count) once.writes;
    records = all_set (λ (v : View). AllByRecursion (λ (call : Call). is_listed v.parts call.seat ≡ true) v.done) before n w mine once.records;
  }
