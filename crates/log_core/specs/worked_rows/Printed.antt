-- The calls of whole runs, as a report has them.
use Rattle.std.specs.Prelude.{◌≡◌, [], ◌∷◌, Some}
use Rattle.log_entry.specs.Legal.{Legal}
use Rattle.log_entry.specs.declared.calls.Call.{Call}
use Rattle.log_entry.specs.declared.calls.Op.TheVariants.{Pwrite as PwriteOp, Size as SizeOp}
use Rattle.log_entry.specs.declared.calls.Reply.TheVariants.{Wrote, NotWritten, Size as FileSize}
use Rattle.log_entry.specs.declared.calls.WriteRefusal.TheVariants.{TooLarge}
use Rattle.asks.specs.declared.ask.Ask.TheVariants.{Store, Exchange}
use Rattle.asks.specs.declared.ask.Place.TheVariants.{Image, Pin}
use Rattle.pmem_words.specs.declared.keeps.Task.TheVariants.{Size}
use Rattle.log_core.specs.Views.{view_of, op_in}
use Rattle.log_core.specs.Cores.{Core}
use Rattle.log_core.specs.After.{after}
use Rattle.log_core.specs.Runs.{IsReached}
use Rattle.log_core.specs.Histories.{recorded_calls, Ran}
use Rattle.log_core.specs.worked_rows.Samples.{image_a, step_of, pinning, walking}
use Rattle.log_core.specs.worked_rows.Rows.{to_first, first_call}
use Rattle.log_core.specs.worked_rows.Written.{own_at_tail}
use Rattle.log_core.specs.worked_rows.TwoWriters.{second_call, both_put}

-- where seat 0 stands at the tail with its block, seat 1 asks the size and walks to the same tail
abbrev pub sizing : Core
sizing = walking image_a (pinning image_a own_at_tail 1 Size [] 1) 1

-- seat 0 puts its entry in and returns; then seat 1 gives up its pin, and returns
abbrev pub write_returned : Core
write_returned = after image_a sizing (step_of image_a sizing 0 (Exchange (Image 27) 0 to_first) 1 [] [] (first_call ∷ []))

abbrev pub size_call : Call
size_call = record { position = 0; seat = 1; number = 1; op = SizeOp; reply = FileSize 0 }

abbrev pub size_returned : Core
size_returned = after image_a write_returned (step_of image_a write_returned 1 (Store (Pin 1) 0) 1 [] [] (size_call ∷ []))

-- the write returned while the size call ran. Printed, that one stands first: it saw the file before the write. In the order in which they
-- returned they are no legal history
abbrev pub PrintedInOtherOrder : Type 0
PrintedInOtherOrder =
    IsReached image_a write_returned
    × (recorded_calls write_returned.views ≡ first_call ∷ [])
    × (op_in (view_of write_returned.views 1).seat ≡ Some SizeOp)
    × (recorded_calls size_returned.views ≡ first_call ∷ size_call ∷ [])
    × Ran image_a (size_call ∷ first_call ∷ []) size_returned
    × Legal 64 [] 0 (size_call ∷ first_call ∷ [])
    × (Legal 64 [] 0 (first_call ∷ size_call ∷ []) → ⊥)

-- after both writes of two seats the first one makes a call that needs no step: a write past the limit, which is refused
abbrev pub refused_call : Call
refused_call = record { position = 1; seat = 0; number = 2; op = PwriteOp 4194304 (170 ∷ []); reply = NotWritten (TooLarge 4194305) }

-- it is printed between the two, at the position to which its seat had come. As accepted it is in no legal history
abbrev pub RefusedBetween : Type 0
RefusedBetween =
    Ran image_a (first_call ∷ refused_call ∷ second_call ∷ []) both_put
    × Legal 64 [] 0 (first_call ∷ refused_call ∷ second_call ∷ [])
    × (Legal 64 [] 0 (first_call ∷ record refused_call { reply = Wrote 1 } ∷ second_call ∷ []) → ⊥)
