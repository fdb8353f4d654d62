-- The texts that a line's form has in the program.
use Rattle.trace_reader.specs.Calls.{Form, WriteForm, AppendForm, ReadForm, SizeForm, SyncForm, CollectForm}
use Rattle.trace_reader.specs.declared.lines.Form.{Form as LineForm}
use Rattle.trace_reader.specs.declared.lines.Form.TheVariants.{Pwrite, Append, Pread, Size, Sync, Collect}

abbrev pub texts_of : LineForm → Form
texts_of (Pwrite offset bytes) = WriteForm offset.now bytes.now
texts_of (Append bytes) = AppendForm bytes.now
texts_of (Pread offset count) = ReadForm offset.now count.now
texts_of Size = SizeForm
texts_of Sync = SyncForm
texts_of Collect = CollectForm
