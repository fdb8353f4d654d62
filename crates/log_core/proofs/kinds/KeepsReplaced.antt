-- The blocks that a collection replaced are kept for later: what a core knows of the seat stays.
use Rattle.std.proofs.Common.{◌≡◌, ◌<◌, ◌⊎◌, inl, inr, ◌++◌, ◌==◌, not, max, ℕ, Bool, true, false, List, [], ◌∷◌, refl, sym, ◌∙◌, arith, slice_index}
use Rattle.std.proofs.lemmas.Bool.{and_parts}
use Rattle.std.proofs.lemmas.List.Folds.{list_any-append}
use Rattle.log_image.specs.Chains.{all_different, is_listed}
use Rattle.log_image.proofs.NameLemmas.{different_join}
use Rattle.pmem_words.specs.Seats.{Seat, Giving, Hold}
use Rattle.log_core.specs.Views.{Ghost, view_of}
use Rattle.log_core.specs.Origin.{Origin, Owner, LeftTo}
use Rattle.log_core.specs.Files.{entries}
use Rattle.log_core.specs.Cores.{Core, current}
use Rattle.log_core.specs.Works.{KeepsReplaced, state_after_work}
use Rattle.log_core.specs.Owners.{IsListOf}
use Rattle.log_core.specs.Giving.{AreInNoLater, ScanHolds}
use Rattle.log_core.specs.Invariant.{names_by}
use Rattle.log_core.specs.Knows.{Knows}
use Rattle.log_core.proofs.ChainWords.{in_one_part, front_different}
use Rattle.log_core.proofs.clauses.Apart.{has_left, has_right, either_of}

-- the later part of different numbers are different
back_different : (first second : List ℕ) → all_different (first ++ second) ≡ true → all_different second ≡ true
back_different [] second different = different
back_different (number ∷ first) second different = back_different first second (and_parts (not (is_listed (first ++ second) number)) (all_different (first ++ second)) different).1

in_either : {P : Type 0} (first second : List ℕ) (block : ℕ) → is_listed (first ++ second) block ≡ true → (is_listed first block ≡ true → P) →
    (is_listed second block ≡ true → P) → P
in_either first second block listed = either_of (is_listed first block) (is_listed second block) (sym (list_any-append (λ (other : ℕ). other == block) first second) ∙ listed)

turned : (first second : List ℕ) (block : ℕ) → is_listed (first ++ second) block ≡ true → is_listed (second ++ first) block ≡ true
turned first second block listed = in_either first second block listed (has_right second first block) (has_left second first block)

-- a list of two parts is one of the same parts turned round
list_turned : (owner : ℕ → Owner) (first second : List ℕ) (whose : Owner) → IsListOf owner (first ++ second) whose → IsListOf owner (second ++ first) whose
list_turned owner first second whose r = record {
  listed = λ block listed. r.listed block (turned second first block listed);
  all = λ block is. turned first second block (r.all block is);
  once = different_join second first (back_different first second r.once) (front_different first second r.once) apart;
}
  where
    apart : (number : ℕ) → is_listed second number ≡ true → is_listed first number ≡ false
    apart number there = go (is_listed first number) (λ here. in_one_part first second number r.once here there)
      where
        go : (b : Bool) → (b ≡ true → ⊥) → b ≡ false
        go true none = absurd (none refl)
        go false none = refl

-- blocks of two lists, at the later one of their generations
none_later : (names : ℕ → ℕ → Bool) (current first second : ℕ) (a b : List ℕ) → AreInNoLater names current first a →
    AreInNoLater names current second b → AreInNoLater names current (max first second) (a ++ b)
none_later names current first second a b one other block later listed above upto = in_either a b block listed
    (λ here. one block later here (omega (arith, above)) upto) (λ there. other block later there (omega (arith, above)) upto)

-- no pin that a scan found needs the one list or the other
both_clear : (first second seen : ℕ) → (seen ≡ 0) ⊎ (max first second < seen) → ((seen ≡ 0) ⊎ (first < seen)) × ((seen ≡ 0) ⊎ (second < seen))
both_clear first second seen (inl none) = (inl none, inl none)
both_clear first second seen (inr above) = (inr (omega (arith, above)), inr (omega (arith, above)))

abbrev kept_later : Giving → Giving
kept_later g = record g { replaced = []; limbo = g.limbo ++ g.replaced; limbo_generation = max g.limbo_generation g.replaced_generation }

scan_kept : (g : Giving) (other : ℕ) (h : Hold) → ScanHolds g other h → ScanHolds (kept_later g) other h
scan_kept g other h r = record {
  replaced = r.replaced;
  limbo = λ seen clear valid. (let both = both_clear g.limbo_generation g.replaced_generation (slice_index g.pins_seen other) clear in
      let first = r.limbo seen both.0 valid in
      let second = r.replaced seen both.1 valid in
      omega (arith, first, second));
}

pub replaced_facts : (o : Origin) (c : Core) (n : ℕ) (s : Seat) (g : Ghost) (pin began : ℕ) → Knows o c n s g pin began →
    s.giving.head_fenced ≡ true → Knows o c n (state_after_work s KeepsReplaced) g pin began
replaced_facts o c n s g pin began f fenced = record {
  fits = λ some. (let r = f.fits some in record { number = r.number; seats = r.seats; geometry = r.geometry; first = r.first; found = r.found; named = r.named; map = r.map });
  kept = f.kept;
  owns = record { owned = f.owns.owned; left = list_turned c.owner s.giving.replaced s.giving.limbo (LeftTo n) f.owns.left };
  pin_is = f.pin_is;
  pin_holds = f.pin_holds;
  walk = f.walk;
  noted = f.noted;
  owned = (let r = f.owned in record {
    contents = r.contents;
    areas = r.areas;
    stored = r.stored;
    filled = λ place inside filled. (let q = r.filled place inside filled in record { owned = q.owned; each = q.each });
    fenced = r.fenced;
  });
  giving = (let r = f.giving in record {
    replaced_past = r.replaced_past;
    replaced = λ block later listed. cc;
    limbo = none_later (names_by o c.logs (entries o c.history) c.generations) (current o c.generations) s.giving.limbo_generation s.giving.replaced_generation s.giving.limbo s.giving.replaced r.limbo r.replaced;
    replaced_sure = r.replaced_sure;
    limbo_sure = (let sure = r.replaced_sure fenced in let low = r.limbo_sure in omega (arith, sure, low));
  });
  scan_others = λ k other. scan_kept s.giving k (view_of c.views k).seat.hold (f.scan_others k other);
  scan_self = scan_kept s.giving n s.hold f.scan_self;
  scanned = f.scanned;
  writes = (let r = f.writes in record { recorded = r.recorded; running = r.running });
  writes_once = f.writes_once;
  put = f.put;
  same_put = f.same_put;
  calls = (let r = f.calls in record { laid = r.laid; bases = r.bases; reading = r.reading; numbers = r.numbers; task = r.task });
  tail = f.tail;
  marks = f.marks;
  syncs = (let r = f.syncs in record { to = r.to; marks = r.marks; valid = r.valid; answered = r.answered });
}
