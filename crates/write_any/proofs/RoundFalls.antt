-- Each step of a write lowers its measure: from the tail on, once that was found.
use Rattle.std.proofs.Common.{◌≡◌, ℕ, ◌+◌, ◌-◌, ◌*◌, ◌^◌, ◌<◌, ◌≤◌, ◌==◌, nat_lt, Bool, true, false, List, [], ◌∷◌, length, Option, Some, None, refl, ap, arith, mul-le-mul_right}
use Rattle.std.proofs.lemmas.Bool.{eq-eqb, ne_eqb}
use Rattle.log_entry.specs.declared.layouts.TheConstants.{EMPTY}
use Rattle.log_entry.specs.declared.calls.WriteRefusal.{WriteRefusal}
use Rattle.pmem_words.specs.Seats.{Seat, q_of}
use Rattle.pmem_words.specs.Parts.{onward, LowersOn, lowers_onward}
use Rattle.pmem_words.specs.declared.machine.Turn.TheVariants.{Go, Done}
use Rattle.log_core.specs.Works.{words_of}
use Rattle.pins.specs.declared.unpin.Unpin.{Unpin}
use Rattle.pins.specs.Unpinning.{unpin_script}
use Rattle.block_bitmap.specs.declared.take.Take.{Take}
use Rattle.block_bitmap.specs.declared.take.Taken.{Taken}
use Rattle.block_bitmap.specs.declared.take.Taken.TheVariants.{Taken as HasTaken, NoSpace}
use Rattle.block_bitmap.specs.declared.fill.Fill.{Fill}
use Rattle.block_bitmap.specs.declared.fill.Fill.TheVariants.{Store, Mark, Fence}
use Rattle.block_bitmap.specs.declared.give.Give.{Give}
use Rattle.block_bitmap.specs.TakeScript.{take_script, last_word, word_of, open_at, settled_by, moved_on, ended_or, after_at, gained_at, less, known_set, seat_set, with_found}
use Rattle.block_bitmap.specs.TakeLowering.{take_lowers}
use Rattle.block_bitmap.specs.Filling.{fill_script, fill_lowers, marked_after}
use Rattle.block_bitmap.specs.Giving.{give_script}
use Rattle.block_bitmap.specs.GiveLowering.{give_lowers}
use Rattle.log_core.proofs.BlockWords.{q_range}
use Rattle.log_blocks.specs.declared.grow.Grow.{Grow}
use Rattle.log_blocks.specs.Growing.{grow_after}
use Rattle.log_blocks.specs.declared.walk.Walk.TheVariants.{Begin}
use Rattle.log_blocks.specs.Walking.{rank_by, begin_measure, walk_measure, log_left}
use Rattle.write_any.specs.declared.stage.Target.{Target}
use Rattle.write_any.specs.declared.stage.Stage.TheVariants.{Taking, TakingRuns, Filling, TakingLog, FillingLog, Growing, GivingLog, Unpinning, Giving}
use Rattle.write_any.specs.declared.give_one.GiveOne.{GiveOne}
use Rattle.write_any.specs.GivingOne.{one_given}
use Rattle.write_any.specs.Composing.{composed, are_one_run}
use Rattle.write_any.specs.Writing.{at_stage, offset_of, tail_by, taken_so, taken_stage, taken_seat, taken_runs_so, filled_so, taken_log_so, filled_log_so, grown_so, unpinned_so, unpinned_by, given_so, filling, round_left, stage_measure, write_measure}
use Rattle.write_any.proofs.Composed.{bare, composed_bare}
use Rattle.write_any.proofs.Falls.{Falls, data_low, log_low}

-- a seat but for its owned blocks and those found taken
abbrev pub unfound : Seat → Seat
unfound s = record s { blocks = record s.blocks { owned = []; contents = []; found = [] } }

-- taking changes these alone
moved_seat : (b : Bool) (m : Take) (s : Seat) → (moved_on b m s).seat ≡ s
moved_seat true m s = refl
moved_seat false m s = refl

pub settled_seat : (blocks : List ℕ) (m : Take) (s : Seat) (known : ℕ) → (settled_by blocks m s known).seat ≡ s
settled_seat [] m s known = moved_seat (nat_lt (word_of m s) (last_word m.area s)) m s
settled_seat (block ∷ blocks) m s known = refl

pub ended_seat : (b : Bool) (m : Take) (s : Seat) (known : ℕ) → (ended_or b m s known).seat ≡ s
ended_seat true m s known = refl
ended_seat false m s known = settled_seat (open_at m s known) m s known

take_at : (known : Option ℕ) (m : Take) (s : Seat) (f : ℕ) → unfound (after_at known m s f).seat ≡ unfound s
take_at None m s f = ap unfound (settled_seat (open_at m (with_found (word_of m s) f s) f) m (with_found (word_of m s) f s) f)
take_at (Some known) m s f = ap unfound (ended_seat (m.count - length (gained_at m s known f) == 0) (less m (length (gained_at m s known f))) (seat_set m s known f) (known_set m s known f))

pub take_unfound : (p : Take) (s : Seat) (a : ℕ) → unfound (take_script.after p s a).seat ≡ unfound s
take_unfound p s a = take_at p.known p s a

take_round : (p : Take) (s : Seat) (a : ℕ) → round_left (take_script.after p s a).seat ≡ round_left s
take_round p s a = ap round_left (take_unfound p s a)

-- and so does filling
marked_bare : (b : Bool) (place left word : ℕ) (s : Seat) → bare (marked_after b place left word s).seat ≡ bare s
marked_bare true place left word s = refl
marked_bare false place left word s = refl

pub fill_bare : (p : Fill) (s : Seat) (a : ℕ) → bare (fill_script.after p s a).seat ≡ bare s
fill_bare (Store place left word) s a = refl
fill_bare (Mark place left word) s a = marked_bare (nat_lt (word + 1) (q_of s.geometry)) place left word s
fill_bare Fence s a = refl

fill_round : (p : Fill) (s : Seat) (a : ℕ) → round_left (fill_script.after p s a).seat ≡ round_left s
fill_round p s a = ap round_left (fill_bare p s a)

module _ (t : Target) where
  filling_low : (s : Seat) → length s.blocks.owned ≤ 258 → stage_measure (filling s) (composed (offset_of t) s) < round_left s + 2 ^ 20
  filling_low s few =
      (let q : ℕ = words_of (composed (offset_of t) s) in
      let round : round_left (composed (offset_of t) s) ≡ round_left s = ap round_left (composed_bare (offset_of t) s) in
      let wide : q ≤ 512 = (q_range (composed (offset_of t) s).geometry).1 in
      let most : (length s.blocks.owned - 1) * (2 * q) ≤ 257 * (2 * q) = mul-le-mul_right (2 * q) (omega (arith, few)) in
      omega (arith, round, wide, most))

  taken_low : (one : Bool) (s : Seat) → length s.blocks.owned ≤ 258 → stage_measure (taken_stage one s) (taken_seat one t s) < round_left s + 2 ^ 22
  taken_low true s few = (let low = filling_low s few in omega (arith, low))
  taken_low false s few = (let low = data_low 1 s in omega (arith, low))

  tail_low : (end : Bool) (s : Seat) → stage_measure (tail_by end t s) s < round_left s + 2 ^ 18
  tail_low true s = (let low = log_low 1 s in omega (arith, low))
  tail_low false s = omega arith

  module _ (p : Take) (s : Seat) (a : ℕ) (admits : take_script.admits p s a) where
    abbrev u : Seat
    u = (take_script.after p s a).seat

    pub taking_falls : ((take_script.after p s a).turn ≡ Done HasTaken → length u.blocks.owned ≤ 258) → Falls t (Taking p) s a
    taking_falls few go =
        lowers_onward (λ n. at_stage t (Taking n)) (taken_so t) write_measure (stage_measure (Taking p) s) (take_script.after p s a)
        (λ g. let falls = take_lowers p s a admits g in let same = take_round p s a in omega (arith, falls, same)) by go
      where
        by : (out : Taken) → (take_script.after p s a).turn ≡ Done out → LowersOn write_measure (stage_measure (Taking p) s) (taken_so t out u)
        by HasTaken done = (let low = taken_low (are_one_run u.blocks.owned) u (few done) in let same = take_round p s a in omega (arith, low, same))
        by (NoSpace area) done = omega arith

    pub taking_runs_falls : ((take_script.after p s a).turn ≡ Done HasTaken → length u.blocks.owned ≤ 258) → Falls t (TakingRuns p) s a
    taking_runs_falls few go =
        lowers_onward (λ n. at_stage t (TakingRuns n)) (taken_runs_so t) write_measure (stage_measure (TakingRuns p) s) (take_script.after p s a)
        (λ g. let falls = take_lowers p s a admits g in let same = take_round p s a in omega (arith, falls, same)) by go
      where
        by : (out : Taken) → (take_script.after p s a).turn ≡ Done out → LowersOn write_measure (stage_measure (TakingRuns p) s) (taken_runs_so t out u)
        by HasTaken done = (let low = filling_low u (few done) in let same = take_round p s a in omega (arith, low, same))
        by (NoSpace area) done = omega arith

    pub taking_log_falls : Falls t (TakingLog p) s a
    taking_log_falls go =
        lowers_onward (λ n. at_stage t (TakingLog n)) (taken_log_so t) write_measure (stage_measure (TakingLog p) s) (take_script.after p s a)
        (λ g. let falls = take_lowers p s a admits g in let same = take_round p s a in omega (arith, falls, same)) by go
      where
        by : (out : Taken) → (take_script.after p s a).turn ≡ Done out → LowersOn write_measure (stage_measure (TakingLog p) s) (taken_log_so t out u)
        by HasTaken done = (let same = take_round p s a in let wide = (q_range u.geometry).1 in omega (arith, same, wide))
        by (NoSpace area) done = omega arith

  module _ (p : Fill) (s : Seat) (a : ℕ) (admits : fill_script.admits p s a) where
    abbrev v : Seat
    v = (fill_script.after p s a).seat

    pub filling_falls : Falls t (Filling p) s a
    filling_falls go =
        lowers_onward (λ n. at_stage t (Filling n)) (filled_so t) write_measure (stage_measure (Filling p) s) (fill_script.after p s a)
        (λ g. let falls = fill_lowers p s a admits g in let same = fill_round p s a in omega (arith, falls, same))
        (λ out done. let low = tail_low (v.walk.tail_slot == words_of v) v in let same = fill_round p s a in omega (arith, low, same)) go

    pub filling_log_falls : Falls t (FillingLog p) s a
    filling_log_falls go =
        lowers_onward (λ n. at_stage t (FillingLog n)) (filled_log_so t) write_measure (stage_measure (FillingLog p) s) (fill_script.after p s a)
        (λ g. let falls = fill_lowers p s a admits g in let same = fill_round p s a in omega (arith, falls, same))
        (λ out done. let same = fill_round p s a in omega (arith, same)) go

  -- another block, or the own one, follows: the tail is no more at an end
  end_rank : (s : Seat) → s.walk.tail_slot ≡ words_of s → rank_by (s.walk.tail_slot == words_of s) (s.walk.tail_slot == 3) ≡ 1
  end_rank s at_end = ap (λ (b : Bool). rank_by b (s.walk.tail_slot == 3)) (eq-eqb s.walk.tail_slot (words_of s) at_end)

  first_rank : (s : Seat) → rank_by (3 == words_of s) true ≡ 0
  first_rank s = ap (λ (b : Bool). rank_by b true) (ne_eqb 3 (words_of s) (λ three. let wide = (q_range s.geometry).0 in omega (arith, three, wide)))

  pub growing_falls : (p : Grow) (s : Seat) (a : ℕ) → s.walk.tail_slot ≡ words_of s → Falls t (Growing p) s a
  growing_falls p s a at_end go = by (a == EMPTY) go
    where
      by : (won : Bool) → (onward (λ n. at_stage t (Growing n)) (grown_so t) (grow_after won p s a)).turn ≡ Go →
          write_measure (onward (λ n. at_stage t (Growing n)) (grown_so t) (grow_after won p s a)).machine (onward (λ n. at_stage t (Growing n)) (grown_so t) (grow_after won p s a)).seat < stage_measure (Growing p) s
      by true e = (let last = end_rank s at_end in let first = first_rank s in omega (arith, last, first))
      by false e = (let last = end_rank s at_end in let first = first_rank s in omega (arith, last, first))

  pub unpinning_falls : (refusal : Option WriteRefusal) (p : Unpin) (s : Seat) (a : ℕ) → length s.blocks.owned < 2 ^ 17 → Falls t (Unpinning refusal p) s a
  unpinning_falls refusal p s a few go =
      lowers_onward (λ n. at_stage t (Unpinning refusal n)) (unpinned_so t refusal) write_measure (2 ^ 17) (unpin_script.after p s a) (λ g. cc)
      (λ out done. by (length s.blocks.owned == 0)) go
    where
      by : (none : Bool) → LowersOn write_measure (2 ^ 17) (unpinned_by none t refusal (unpin_script.after p s a).seat)
      by true = tt
      by false = few

  pub giving_falls : (refusal : Option WriteRefusal) (p : Give) (s : Seat) (a : ℕ) → give_script.admits p s a → Falls t (Giving refusal p) s a
  giving_falls refusal p s a admits go =
      lowers_onward (λ n. at_stage t (Giving refusal n)) (given_so t refusal) write_measure (give_script.measure p s) (give_script.after p s a) (λ g. give_lowers p s a admits g) (λ out done. tt) go

  pub giving_log_falls : (p : GiveOne) (s : Seat) (a : ℕ) → s.walk.ready ≡ true → Falls t (GivingLog p) s a
  giving_log_falls p s a ready go =
      (let whole : walk_measure Begin (one_given p.block s) ≡ log_left s * 1024 + 1000 = ap (λ (b : Bool). begin_measure b (one_given p.block s)) ready in
      let low : walk_measure Begin (one_given p.block s) * 2 ^ 24 < round_left s + 2 ^ 24 + 1 = omega (arith, whole) in
      low)
