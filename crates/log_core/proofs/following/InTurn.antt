-- Collections of which each puts the generation in place that its position is the snapshot of, each once, are in turn once the calls rise.
use Rattle.std.proofs.Common.{◌≡◌, ⊎_elim, ◌<◌, ◌≤◌, ◌+◌, ◌-◌, ◌==◌, ◌||◌, ℕ, zero, suc, Bool, true, false, not, List, [], ◌∷◌, ◌++◌, length, map, refl, ◌∙◌, ap, subst, arith}
use Rattle.std.specs.List.{AllByRecursion, list_any}
use Rattle.std.proofs.lemmas.Bool.{cases_lt, eqb-true, eq-eqb, ne_eqb, or_right}
use Rattle.log_entry.specs.Legal.{is_write}
use Rattle.log_entry.specs.declared.calls.Reply.{Reply}
use Rattle.log_entry.specs.declared.calls.Reply.TheVariants.{Wrote, Appended, NotWritten, Bytes, Size as FileSize, Synced, Collected, NotCollected}
use Rattle.log_entry.specs.declared.calls.Call.{Call}
use Rattle.log_core.specs.Origin.{Origin, first_generation, Generation}
use Rattle.log_core.specs.Order.{nth_generation}
use Rattle.log_core.specs.Records.{one_if, collects, collected_in, SaysOfGenerations}
use Rattle.log_core.specs.Histories.{Put, put_by, collections, PutInTurn}
use Rattle.log_core.proofs.following.Rising.{place_number, AllFrom, Rises}
use Rattle.log_core.proofs.clauses.JoinedParts.{one_most}

module _ (o : Origin) (generations : List Generation) where
  abbrev pub first : ℕ
  first = first_generation o

  -- the first number above those of the generations
  abbrev pub limit : ℕ
  limit = first + length generations

  -- the position of a generation's snapshot
  abbrev pub base : ℕ → ℕ
  base number = (nth_generation generations (number - first)).base

  abbrev pub Says : Call → Type 0
  Says call = SaysOfGenerations o generations call.position call.reply

  -- calls that put no generation of the numbers from one on below another, or each of these once
  abbrev pub PutNone : ℕ → ℕ → List Call → Type 0
  PutNone from below calls = (number : ℕ) → from < number → number < below → collected_in number calls ≡ 0

  abbrev pub PutOnce : ℕ → List Call → Type 0
  PutOnce from calls = (number : ℕ) → from < number → number < limit → collected_in number calls ≡ 1

  -- a generation that was put in place is among the collections, at its snapshot's position
  pub found_put : (number : ℕ) (calls : List Call) → AllByRecursion Says calls → 0 < collected_in number calls →
      (list_any (λ (put : Put). put.generation == number) (collections calls) ≡ true)
      × (list_any (λ (p : ℕ). p == base number) (map (λ (put : Put). put.position) (collections calls)) ≡ true)
  found_put number [] all some = absurd (omega (arith, some))
  found_put number (call ∷ calls) all some = go call.reply all.0 some (λ rest. found_put number calls all.1 rest)
    where
      by : (generation : ℕ) (same : Bool) → (generation == number) ≡ same → call.position ≡ base generation → 0 < one_if same + collected_in number calls →
          (0 < collected_in number calls → (list_any (λ (put : Put). put.generation == number) (collections calls) ≡ true)
          × (list_any (λ (p : ℕ). p == base number) (map (λ (put : Put). put.position) (collections calls)) ≡ true)) →
          ((same || list_any (λ (put : Put). put.generation == number) (collections calls)) ≡ true)
          × (((call.position == base number) || list_any (λ (p : ℕ). p == base number) (map (λ (put : Put). put.position) (collections calls))) ≡ true)
      by generation true e at some rest = (
        refl,
        ap (λ (b : Bool). b || list_any (λ (p : ℕ). p == base number) (map (λ (put : Put). put.position) (collections calls)))
            (eq-eqb call.position (base number) (at ∙ ap (λ (k : ℕ). base k) (eqb-true generation number e))),
      )
      by generation false e at some rest = (let there = rest (omega (arith, some)) in (there.0, or_right (call.position == base number) _ there.1))

      go : (reply : Reply) → SaysOfGenerations o generations call.position reply → 0 < collects number reply + collected_in number calls →
          (0 < collected_in number calls → (list_any (λ (put : Put). put.generation == number) (collections calls) ≡ true)
          × (list_any (λ (p : ℕ). p == base number) (map (λ (put : Put). put.position) (collections calls)) ≡ true)) →
          (list_any (λ (put : Put). put.generation == number) (put_by call.position reply ++ collections calls) ≡ true)
          × (list_any (λ (p : ℕ). p == base number) (map (λ (put : Put). put.position) (put_by call.position reply ++ collections calls)) ≡ true)
      go (Collected done) says some rest = by done.generation (done.generation == number) refl says.2 some rest
      go (NotCollected why) says some rest = rest (omega (arith, some))
      go (Wrote count) says some rest = rest (omega (arith, some))
      go (Appended at count) says some rest = rest (omega (arith, some))
      go (NotWritten why) says some rest = rest (omega (arith, some))
      go (Bytes bytes) says some rest = rest (omega (arith, some))
      go (FileSize size) says some rest = rest (omega (arith, some))
      go (Synced position) says some rest = rest (omega (arith, some))

  -- none of a generation is among calls that all stand behind its snapshot's position
  none_above : (place number : ℕ) (calls : List Call) → base number + base number + 1 < place → AllFrom place calls → AllByRecursion Says calls → collected_in number calls ≡ 0
  none_above place number [] low from all = refl
  none_above place number (call ∷ calls) low from all = (let rest = none_above place number calls low from.1 all.1 in let here = go call.reply all.0 in omega (arith, rest, here))
    where
      later : base number < call.position
      later = (let at = from.0 in let most = one_most (not (is_write call.op call.reply)) in omega (arith, at, most, low))

      go : (reply : Reply) → SaysOfGenerations o generations call.position reply → collects number reply ≡ 0
      go (Collected done) says = ap one_if (ne_eqb done.generation number (λ same. (let at : call.position ≡ base number = says.2 ∙ ap (λ (k : ℕ). base k) same in let less = later in omega (arith, at, less))))
      go (NotCollected why) says = refl
      go (Wrote count) says = refl
      go (Appended at count) says = refl
      go (NotWritten why) says = refl
      go (Bytes bytes) says = refl
      go (FileSize size) says = refl
      go (Synced position) says = refl

  module _ (rise : (place : ℕ) → place + 1 < length generations → (nth_generation generations place).base < (nth_generation generations (place + 1)).base) where
    -- the snapshots' positions rise with the generations
    bases_rise : (more number : ℕ) → first ≤ number → number + suc more < limit → base number < base (number + suc more)
    bases_rise zero number low below = (let step = rise (number - first) (omega (arith, low, below)) in
        let place : number - first + 1 ≡ number + suc zero - first = omega (arith, low) in
        subst (λ (k : ℕ). base number < (nth_generation generations k).base) place step)
    bases_rise (suc more) number low below = (let before = bases_rise more number low (omega (arith, below)) in
        let step = rise (number + suc more - first) (omega (arith, low, below)) in
        let place : number + suc more - first + 1 ≡ number + suc (suc more) - first = omega (arith, low) in
        let next : base (number + suc more) < base (number + suc (suc more)) = subst (λ (k : ℕ). base (number + suc more) < (nth_generation generations k).base) place step in
        omega (arith, before, next))

    base_less : (number later : ℕ) → first ≤ number → number < later → later < limit → base number < base later
    base_less number later low less below = subst (λ (k : ℕ). base number < base k) (omega (arith, less)) (bases_rise (later - number - 1) number low (omega (arith, less, below)))

    -- what is to be shown of the calls that are left when a generation is reached
    pub record Turns (number position : ℕ) (puts : List Put) : Type 0 where
      pub in_turn : PutInTurn number position puts
      pub count : number + length puts + 1 ≡ limit

    -- what is known of them
    pub record Reached (number position : ℕ) (calls : List Call) : Type 0 where
      pub low : first ≤ number
      pub below : number < limit
      pub at : position ≡ base number
      pub all : AllByRecursion Says calls
      pub rises : Rises calls
      pub none : PutNone first (number + 1) calls
      pub once : PutOnce number calls

    pub turns : (number position : ℕ) (calls : List Call) → Reached number position calls → Turns number position (collections calls)
    turns number position [] r = record { in_turn = tt; count = ended }
      where
        ended : number + 0 + 1 ≡ limit
        ended = ⊎_elim (λ more. (let one = r.once (number + 1) (omega arith) more in omega (arith, one))) (λ upto. (let low = r.below in omega (arith, upto, low))) (cases_lt (number + 1) limit)
    turns number position (call ∷ calls) r = go call.reply r.all.0 r.none r.once (λ place rest. turns number place calls rest) (λ next place rest. turns next place calls rest)
      where
        same_left : ((k : ℕ) → first < k → k < number + 1 → 0 + collected_in k calls ≡ 0) → ((k : ℕ) → number < k → k < limit → 0 + collected_in k calls ≡ 1) → Reached number position calls
        same_left none once = record {
          low = r.low;
          below = r.below;
          at = r.at;
          all = r.all.1;
          rises = r.rises.1;
          none = λ k low upto. (let counts = none k low upto in omega (arith, counts));
          once = λ k less below. (let counts = once k less below in omega (arith, counts));
        }

        next_put : (generation : ℕ) → (first < generation) × (generation < limit) × (call.position ≡ base generation) →
            ((k : ℕ) → first < k → k < number + 1 → one_if (generation == k) + collected_in k calls ≡ 0) →
            ((k : ℕ) → number < k → k < limit → one_if (generation == k) + collected_in k calls ≡ 1) → (generation ≡ number + 1) × Reached generation call.position calls
        next_put generation says none once = (
          is,
          record {
            low = (let low = says.0 in omega (arith, low));
            below = says.1;
            at = says.2;
            all = r.all.1;
            rises = r.rises.1;
            none = λ k low upto. ⊎_elim (λ (less : k < number + 1). (let counts = none k low less in omega (arith, counts)))
                (λ (high : number + 1 ≤ k). (let counts = once k (omega (arith, high)) (let top = says.1 in omega (arith, upto, top)) in let here = ap one_if (eq-eqb generation k (omega (arith, high, upto, is))) in omega (arith, counts, here)))
                (cases_lt k (number + 1));
            once = λ k less below. (let counts = once k (omega (arith, less, is)) below in let here = ap one_if (ne_eqb generation k (λ same. omega (arith, same, less))) in omega (arith, counts, here));
          },
        )
          where
            is : generation ≡ number + 1
            is = ⊎_elim
                (λ (less : generation < number + 1). (let counts = none generation says.0 less in let here = ap one_if (eq-eqb generation generation refl) in omega (arith, counts, here)))
                (λ (high : number + 1 ≤ generation). ⊎_elim
                (λ (past : number + 1 < generation). (let less = base_less (number + 1) generation (let low = r.low in omega (arith, low)) past says.1 in
                let rest = none_above (place_number call) (number + 1) calls (let at = says.2 in omega (arith, less, at)) r.rises.0 r.all.1 in
                let counts = once (number + 1) (omega arith) (let top = says.1 in omega (arith, past, top)) in
                let here = ap one_if (ne_eqb generation (number + 1) (λ same. omega (arith, same, past))) in omega (arith, rest, counts, here)))
                (λ (upto : generation ≤ number + 1). omega (arith, upto, high))
                (cases_lt (number + 1) generation))
                (cases_lt generation (number + 1))

        put_first : (generation : ℕ) → (first < generation) × (generation < limit) × (call.position ≡ base generation) → generation ≡ number + 1 → Turns generation call.position (collections calls) →
            Turns number position (record { generation = generation; position = call.position } ∷ collections calls)
        put_first generation says is rest = record {
          in_turn = (is, (let less = base_less number generation r.low (omega (arith, is)) says.1 in let at = says.2 in let before = r.at in omega (arith, less, at, before)), rest.in_turn);
          count = (let counts = rest.count in omega (arith, counts, is));
        }

        go : (reply : Reply) → SaysOfGenerations o generations call.position reply →
            ((k : ℕ) → first < k → k < number + 1 → collects k reply + collected_in k calls ≡ 0) →
            ((k : ℕ) → number < k → k < limit → collects k reply + collected_in k calls ≡ 1) →
            ((place : ℕ) → Reached number place calls → Turns number place (collections calls)) →
            ((next place : ℕ) → Reached next place calls → Turns next place (collections calls)) →
            Turns number position (put_by call.position reply ++ collections calls)
        go (Collected done) says none once same later = (let next = next_put done.generation says none once in put_first done.generation says next.0 (later done.generation call.position next.1))
        go (NotCollected why) says none once same later = same position (same_left none once)
        go (Wrote count) says none once same later = same position (same_left none once)
        go (Appended at count) says none once same later = same position (same_left none once)
        go (NotWritten why) says none once same later = same position (same_left none once)
        go (Bytes bytes) says none once same later = same position (same_left none once)
        go (FileSize size) says none once same later = same position (same_left none once)
        go (Synced last) says none once same later = same position (same_left none once)
