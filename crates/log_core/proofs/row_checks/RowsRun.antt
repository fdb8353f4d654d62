-- Rows of runs, of a whole step, and of splits and joins.
use Rattle.std.proofs.Common.{◌≡◌, false, [], ◌∷◌, refl, inr, arith, ap, subst, Some}
use Rattle.std.proofs.lemmas.Bool.{true≢false}
use Rattle.log_entry.specs.declared.calls.Op.{Op}
use Rattle.pmem_words.specs.declared.keeps.Task.TheVariants.{Pwrite}
use Rattle.log_core.specs.Views.{op_of}
use Rattle.log_core.specs.Works.{is_quiet, Begins}
use Rattle.log_core.specs.After.{op_or_size}
use Rattle.log_core.specs.worked_rows.Accepted.{PinRuns, WriteFits, ViewsJoin, ViewsSplit}
use Rattle.log_core.proofs.row_checks.RowsMay.{entry_may_be_put}
use Rattle.log_core.proofs.row_checks.RowsWrong.{one_part}
use Rattle.log_core.proofs.row_checks.RowTells.{is_op}

-- a write of a byte makes steps
makes_steps : (op : Op) → op_of (Pwrite 0) (170 ∷ []) ≡ Some op → is_quiet 64 op ≡ false
makes_steps op same = subst (λ (o : Op). is_quiet 64 o ≡ false) (ap op_or_size same) refl

pub pin_runs : PinRuns
pin_runs = (
  (
    (
      (
        tt,
        record {
          made = omega arith;
          unspent = one_part 0;
          step = record {
            begins = record {
              works = Begins (Pwrite 0) (170 ∷ []) ∷ [];
              may = (record { none_runs = refl; not_won = refl; no_head = refl; no_marks = refl; none_laid = refl; steps = makes_steps }, tt);
              gives = refl;
            };
            number = omega arith;
            may = tt;
            enters = record { last = _; computed = record { works = []; may = tt; gives = refl }; going_on = refl; adds_are = tt; seat_is = refl };
          };
        },
      ),
      record {
        made = omega arith;
        unspent = one_part 0;
        step = record {
          begins = record { works = []; may = tt; gives = refl };
          number = refl;
          may = record { value_is = inr (λ none. omega (arith, none), refl); no_marks = λ sync. refl };
          enters = record { last = _; computed = record { works = []; may = tt; gives = refl }; going_on = refl; adds_are = tt; seat_is = refl };
        };
      },
    ),
    record {
      made = omega arith;
      unspent = one_part 0;
      step = record {
        begins = record { works = []; may = tt; gives = refl };
        number = refl;
        may = tt;
        enters = record { last = _; computed = record { works = []; may = tt; gives = refl }; going_on = refl; adds_are = tt; seat_is = refl };
      };
    },
  ),
  refl,
)

pub write_fits : WriteFits
write_fits = record {
  made = omega arith;
  unspent = one_part 0;
  step = record {
    begins = record { works = []; may = tt; gives = refl };
    number = refl;
    may = (λ seal. absurd (omega (arith, seal)), λ entry. entry_may_be_put.0);
    enters = record {
      last = _;
      computed = record { works = []; may = tt; gives = refl };
      going_on = refl;
      adds_are = record { at_tail = refl; position = refl; seat = refl; number = refl; op = refl; fits = refl };
      seat_is = refl;
    };
  };
}

pub views_join : ViewsJoin
views_join = (
  record {
    apart = λ same. omega (arith, same);
    made = omega arith;
    made_too = omega arith;
    unspent = one_part 0;
    unspent_too = one_part 1;
    idle = record { no_call = refl; unpinned = refl; nothing_owned = refl; nothing_marked = refl; not_won = refl; no_head = refl; nothing_replaced = refl };
    idle_too = record { no_call = refl; unpinned = refl; nothing_owned = refl; nothing_marked = refl; not_won = refl; no_head = refl; nothing_replaced = refl };
  },
  λ may. may.apart refl,
  λ may. true≢false (ap is_op may.idle.no_call),
  refl,
  refl,
  refl,
  refl,
  refl,
  refl,
  refl,
  refl,
  refl,
  refl,
  refl,
  refl,
)

pub views_split : ViewsSplit
views_split = (
  record { first = refl; made = omega arith; unspent = one_part 0; never_called = refl; room = omega arith },
  λ may. (let room = may.room in omega (arith, room)),
  λ may. (let none = may.never_called in omega (arith, none)),
  λ may. (let first = may.first in omega (arith, first)),
  refl,
  refl,
  refl,
)
