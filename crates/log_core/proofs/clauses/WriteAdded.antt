-- A history with a write more.
use Rattle.std.proofs.Common.{◌≡◌, ◌≢◌, ◌≤◌, ◌+◌, ◌-◌, ◌==◌, nat_lt, if◌then◌else◌, ℕ, Bool, true, false, List, [], ◌∷◌, ◌++◌, length, map, take, drop, refl, sym, ◌∙◌, ap, subst, arith, slice_index_or, append_assoc, append-nil, Some, None}
use Rattle.std.proofs.lemmas.Bool.{le-ltb, eq-eqb}
use Rattle.std.proofs.lemmas.Grind.{flat_map-append}
use Rattle.std.proofs.lemmas.List.{length_push, get_or_push, get_or_append_left, take-append-le, drop-append-le, map-append, take_all}
use Rattle.log_entry.specs.Shape.{longest_of, limit_of}
use Rattle.log_entry.specs.Legal.{is_write, file_after, write_refusal, last_position, touched_blocks, appended_blocks}
use Rattle.log_entry.specs.declared.calls.Op.{Op}
use Rattle.log_entry.specs.declared.calls.Op.TheVariants.{Pwrite, Append, Pread, Size, Sync, Collect}
use Rattle.log_entry.specs.declared.calls.WriteRefusal.TheVariants.{TooLong, TooLarge, PositionLimit}
use Rattle.log_image.specs.Entries.{names}
use Rattle.log_core.specs.Entries.{LogEntry, no_entry, entry_names}
use Rattle.log_core.specs.Origin.{Origin, first_position, first_entries}
use Rattle.log_core.specs.Files.{Write, no_write, entries, end_of, file_at, early_file, file_after_writes, accepted_reply, write_at}
use Rattle.log_core.specs.May.{refusal_at}
use Rattle.log_core.proofs.clauses.Growth.{HistoryGrows}

module _ (o : Origin) (history : List Write) (w : Write) where
  -- the history then, its end and its entries
  abbrev pub more : List Write
  more = history ++ w ∷ []

  pub end_more : end_of o more ≡ end_of o history + 1
  end_more = (let long = length_push history w in omega (arith, long))

  pub entries_more : entries o more ≡ entries o history ++ w.entry ∷ []
  entries_more = ap (λ (l : List LogEntry). first_entries o ++ l) (map-append (λ (v : Write). v.entry) history (w ∷ []))
      ∙ sym (append_assoc (first_entries o) (map (λ (v : Write). v.entry) history) (w.entry ∷ []))

  files_same : (position : ℕ) → position ≤ end_of o history → file_at o more position ≡ file_at o history position
  files_same position low = ap (λ (l : List Write). if nat_lt position (first_position o) then early_file o position else file_after_writes o.file l)
      (take-append-le (position - first_position o) history (w ∷ []) (omega (arith, low)))

  -- it grows by the write
  pub history_more : HistoryGrows o w.seat history more (names w.entry.meaning)
  history_more = record {
    longer = (let end = end_more in omega (arith, end));
    files = files_same;
    writes = λ position above low. get_or_append_left history (w ∷ []) no_write (position - (first_position o + 1)) (omega (arith, above, low));
    new = λ position above upto. ap (λ (v : Write). v.seat) (get_or_push history w no_write (position - (first_position o + 1)) (let end = end_more in omega (arith, above, upto, end)));
    more = subst (λ (l : List LogEntry). length (entries o history) ≤ length l) (sym entries_more) (let long = length_push (entries o history) w.entry in omega (arith, long));
    same = λ k inside. ap (λ (l : List LogEntry). slice_index_or l k no_entry) entries_more ∙ get_or_append_left (entries o history) (w.entry ∷ []) no_entry k inside;
    front = λ k low. ap (λ (l : List LogEntry). take k l) entries_more ∙ take-append-le k (entries o history) (w.entry ∷ []) low;
    names = λ k low. ap (λ (l : List LogEntry). entry_names (drop k l)) entries_more
        ∙ (ap (λ (l : List LogEntry). entry_names l) (drop-append-le k (entries o history) (w.entry ∷ []) low)
        ∙ (flat_map-append (λ (e : LogEntry). names e.meaning) (drop k (entries o history)) (w.entry ∷ [])
        ∙ ap (λ (l : List ℕ). entry_names (drop k (entries o history)) ++ l) (append-nil (names w.entry.meaning))));
  }

  -- the write is the one at the new end, and so is its entry
  pub write_is : write_at o more (end_of o more) ≡ w
  write_is = get_or_push history w no_write (end_of o more - (first_position o + 1)) (let end = end_more in omega (arith, end))

  -- the last entry is the write's
  pub entry_is : (k : ℕ) → k ≡ length (entries o history) → slice_index_or (entries o more) k no_entry ≡ w.entry
  entry_is k same = ap (λ (l : List LogEntry). slice_index_or l k no_entry) entries_more ∙ get_or_push (entries o history) w.entry no_entry k (sym same)

  -- and the file there is the one after it
  after_more : (file : List ℕ) (history : List Write) → file_after_writes file (history ++ w ∷ []) ≡ file_after (file_after_writes file history) w.op (accepted_reply w.op w.at)
  after_more file [] = refl
  after_more file (v ∷ history) = after_more (file_after file v.op (accepted_reply v.op v.at)) history

  late_file : (l : List Write) (position : ℕ) → position ≡ first_position o + length l → file_at o l position ≡ file_after_writes o.file l
  late_file l position is = ap (λ (b : Bool). if b then early_file o position else file_after_writes o.file (take (position - first_position o) l)) (le-ltb position (first_position o) (omega (arith, is)))
      ∙ ap (λ (k : List Write). file_after_writes o.file k) (take_all (position - first_position o) l (omega (arith, is)))

  -- so it is the file at the new end
  pub file_more : file_at o more (end_of o more) ≡ file_after (file_at o history (end_of o history)) w.op (accepted_reply w.op w.at)
  file_more = late_file more (end_of o more) refl
      ∙ (after_more o.file history ∙ ap (λ (file : List ℕ). file_after file w.op (accepted_reply w.op w.at)) (sym (late_file history (end_of o history) refl)))

-- at the greatest position every write is refused
refused_last : (bytes position blocks end : ℕ) → write_refusal bytes position blocks end ≡ None → position ≢ last_position
refused_last bytes position blocks end none is = by (nat_lt (longest_of bytes) blocks) (nat_lt (limit_of bytes) end) (position == last_position) refl none
  where
    by : (long large last : Bool) → (position == last_position) ≡ last →
        (if long then Some (TooLong blocks) else if large then Some (TooLarge end) else if last then Some PositionLimit else None) ≡ None → ⊥
    by true large last e f = cc
    by false true last e f = cc
    by false false true e f = cc
    by false false false e f = (let both : true ≡ false = sym (eq-eqb position last_position is) ∙ e in cc)

-- a write that is not refused is not at the greatest position
pub below_last : (bytes position size : ℕ) (op : Op) → is_write op (accepted_reply op size) ≡ true → refusal_at bytes position size op ≡ None → position ≢ last_position
below_last bytes position size (Pwrite offset written) write allowed = refused_last bytes position (touched_blocks bytes offset (length written)) (offset + length written) allowed
below_last bytes position size (Append written) write allowed = refused_last bytes position (appended_blocks bytes (length written)) (size + length written) allowed
below_last bytes position size (Pread offset count) write allowed = cc
below_last bytes position size Size write allowed = cc
below_last bytes position size Sync write allowed = cc
below_last bytes position size Collect write allowed = cc
