-- How a trace is printed: a line for each call, of its seat and its operation.
use Rattle.std.specs.Prelude.{ℕ, List, [], ◌∷◌, ◌++◌, codes, decimal}
use Rattle.log_entry.specs.Text.{bytes_text}
use Rattle.log_entry.specs.declared.calls.Op.{Op}
use Rattle.log_entry.specs.declared.calls.Op.TheVariants.{Pwrite, Append, Pread, Size, Sync, Collect}
use Rattle.log_entry.specs.declared.calls.Job.{Job}

-- what a line says after the seat
abbrev pub op_text : Op → List ℕ
op_text (Pwrite offset bytes) = codes "pwrite " ++ (decimal offset ++ (codes " " ++ bytes_text bytes))
op_text (Append bytes) = codes "append " ++ bytes_text bytes
op_text (Pread offset count) = codes "pread " ++ (decimal offset ++ (codes " " ++ decimal count))
op_text Size = codes "size"
op_text Sync = codes "sync"
op_text Collect = codes "collect"

-- a line without its newline
abbrev pub ask_text : ℕ → Op → List ℕ
ask_text seat op = decimal seat ++ (codes " " ++ op_text op)

-- a line
abbrev pub line_text : Job → List ℕ
line_text job = ask_text job.seat job.op ++ codes "\n"

-- a trace
abbrev pub trace_text : List Job → List ℕ
trace_text [] = []
trace_text (job ∷ jobs) = line_text job ++ trace_text jobs
