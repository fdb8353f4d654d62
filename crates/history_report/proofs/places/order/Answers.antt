use Rattle.std.proofs.Common.{◌≡◌, length, drop, rules}
use Rattle.std.proofs.Math.Seq.{take-append_seam}
use Rattle.std.proofs.lemmas.List.Sorted.{answers_always}
use Rattle.log_entry.specs.Order.{place_of}
use Rattle.history_report.proofs.places.order.Goals as goal

pub returns : goal.returns
returns c =
    let sort = c.in_ok-sort_by_key.ensures in
    let sorted = c.sort_by_key.new.self in
    let calls = c.args.calls in
    let all : calls.len ≡ length sorted = cc in
    rw (all, take-append_seam sorted (drop (length sorted) calls.items)) record {
      same_calls = rw c.as_mut_slice.ensures.value at sort.permutation;
      in_order = sort.sorted place_of (answers_always _ _ _ (λ f a r g h. search rules));
      stable = rw (← c.as_mut_slice.ensures.value) (sort.stable place_of (answers_always _ _ _ (λ f a r g h. search rules)));
    }
