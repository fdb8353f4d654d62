-- How the program shows the way in which a command ended.
use Rattle.std.specs.Prelude.{ℕ, List, [], ◌++◌, codes}
use Rattle.trace_reader.specs.RefusalText.{bad_trace_text}
use Rattle.opening_rules.specs.RefusalText.{bad_image_text as image_refusal_text}
use Rattle.madfs_cli.specs.declared.statuses.Status.{Status}
use Rattle.madfs_cli.specs.declared.statuses.Status.TheVariants.{Done, Usage, BadImage, BadTrace, ReadFault, WriteFault, NoMemory}

-- the exit status
abbrev pub exit_code_of : Status → ℕ
exit_code_of Done = 0
exit_code_of Usage = 2
exit_code_of (BadImage why) = 3
exit_code_of (BadTrace why) = 4
exit_code_of ReadFault = 5
exit_code_of WriteFault = 6
exit_code_of NoMemory = 7

-- the line on standard error, without its newline
abbrev pub ending_line : Status → List ℕ
ending_line Done = []
ending_line Usage = codes "madfs: usage: madfs <image> <command> <arguments>"
ending_line (BadImage why) = codes "madfs: image: " ++ image_refusal_text why
ending_line (BadTrace why) = codes "madfs: trace: " ++ bad_trace_text why
ending_line ReadFault = codes "madfs: read fault"
ending_line WriteFault = codes "madfs: write fault"
ending_line NoMemory = codes "madfs: no memory"
