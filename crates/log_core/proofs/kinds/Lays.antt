-- Bytes of a read are laid: what a core knows of the seat stays.
use Rattle.std.proofs.Common.{◌≡◌, ◌≢◌, ◌<◌, ◌≤◌, ◌+◌, ◌/◌, ◌%◌, ◌++◌, ℕ, suc, true, false, List, [], ◌∷◌, length, take, drop, refl, sym, ◌∙◌, ap, subst, arith, slice_index, length-append, length-drop}
use Rattle.std.proofs.Math.Seq.{take-add}
use Rattle.std.proofs.lemmas.List.{get_or-drop}
use Rattle.log_entry.specs.ByteFile.{read}
use Rattle.log_entry.specs.declared.shapes.Geometry.{Geometry}
use Rattle.pmem_words.specs.Maps.{map_at}
use Rattle.pmem_words.specs.declared.keeps.Task.{Task}
use Rattle.pmem_words.specs.declared.keeps.Task.TheVariants.{Pread}
use Rattle.pmem_words.specs.Seats.{Seat}
use Rattle.log_core.specs.Views.{Ghost, view_of, op_of}
use Rattle.log_core.specs.Origin.{Origin}
use Rattle.log_core.specs.Files.{file_at}
use Rattle.log_core.specs.Cores.{Core}
use Rattle.log_core.specs.Works.{Lays, MayLay, IsByteIn, IsByteAt, state_after_work}
use Rattle.log_core.specs.Invariant.{Invariant}
use Rattle.log_core.specs.Knows.{Knows}
use Rattle.log_core.proofs.Facts.{moved_facts}
use Rattle.log_core.proofs.WordBytesAt.{eight_words}
use Rattle.log_core.proofs.kinds.ReadsFile.{size_is, found_byte}

-- bytes that are a list's, from its beginning on
first_bytes : (bytes file : List ℕ) → length bytes ≤ length file → ((k : ℕ) → k < length bytes → slice_index bytes k ≡ slice_index file k) →
    bytes ≡ take (length bytes) file
first_bytes [] file few same = refl
first_bytes (byte ∷ bytes) [] few same = absurd (omega (arith, few))
first_bytes (byte ∷ bytes) (first ∷ file) few same =
    (let here : byte ≡ first = same 0 (omega arith) in
    ap (λ (b : ℕ). b ∷ bytes) here ∙ ap (λ (l : List ℕ). first ∷ l) (first_bytes bytes file (omega (arith, few)) (λ k inside. same (suc k) (omega (arith, inside)))))

-- what was read, and the next bytes
read_more : (file : List ℕ) (offset : ℕ) (laid bytes : List ℕ) → laid ≡ read file offset (length laid) → offset + length laid + length bytes ≤ length file →
    ((k : ℕ) → k < length bytes → slice_index bytes k ≡ slice_index file (offset + length laid + k)) → laid ++ bytes ≡ read file offset (length (laid ++ bytes))
read_more file offset laid bytes so_far inside each =
    (let rest : bytes ≡ take (length bytes) (drop (length laid) (drop offset file)) = first_bytes bytes (drop (length laid) (drop offset file))
    (let first = length-drop offset file in let second = length-drop (length laid) (drop offset file) in omega (arith, first, second, inside))
    (λ k low. each k low ∙ (ap (λ (place : ℕ). slice_index file place) (omega arith) ∙ (sym (get_or-drop offset file (length laid + k) 0) ∙ sym (get_or-drop (length laid) (drop offset file) k 0)))) in
    ap (λ (l : List ℕ). l ++ bytes) so_far ∙ (ap (λ (l : List ℕ). take (length laid) (drop offset file) ++ l) rest
    ∙ (sym (take-add (length laid) (length bytes) (drop offset file)) ∙ ap (λ (count : ℕ). take count (drop offset file)) (sym (length-append laid bytes)))))

pub lay_facts : (o : Origin) (c : Core) (n : ℕ) (s : Seat) (g : Ghost) (pin began : ℕ) → Invariant o c → (view_of c.views n).parts ≢ [] →
    (bytes : List ℕ) → Knows o c n s g pin began → MayLay s bytes →
    Knows o c n (state_after_work s (Lays bytes)) g pin began
lay_facts o c n s g pin began inv some bytes f may = moved_facts o c n s g pin began f s.walk (record (s.calling) { bytes = s.calling.bytes ++ bytes }) s.giving.pins_seen s.giving.limbo_held (record {
  map = λ some. (f.fits some).map;
  walk = f.walk;
  noted = f.noted;
  scan_others = f.scan_others;
  scan_self = f.scan_self;
  writes = (let r = f.writes in record { recorded = r.recorded; running = λ won. (let q = r.running won in (q.0, q.1, q.2, asks ∙ q.3)) });
  writes_once = f.writes_once;
  put = f.put;
  calls = (let r = f.calls in record {
    laid = λ offset count is. (let asked : Pread may.offset may.count ≡ Pread offset count = sym may.job ∙ is in
        let same : may.offset ≡ offset = cc in
        subst (λ (from : ℕ). s.calling.bytes ++ bytes ≡ read (file_at o c.history s.walk.position) from (length (s.calling.bytes ++ bytes))) same
        (read_more (file_at o c.history s.walk.position) may.offset s.calling.bytes bytes (r.laid may.offset may.count may.job)
        (let long = size_is o c n s g pin began inv f some may.reads in let inside = may.inside in omega (arith, long, inside)) (λ k low. byte_is k low (may.each k low))));
    bases = (let b = r.bases in record { most = b.most; whole = b.whole; from_first = b.from_first; bytes = λ running. b.bytes (λ none. running (asks ∙ none)) });
    reading = λ reading. (let away = (r.reading reading).0 in let both : true ≡ false = sym may.reads.at_tail ∙ away in cc);
    numbers = (let m = r.numbers in record { most = m.most; runs = λ running. m.runs (λ none. running (asks ∙ none)); some = λ running. m.some (λ none. running (asks ∙ none)) });
    task = (let t = r.task in record { won_runs = λ won none. t.won_runs won (sym asks ∙ none); put_collects = t.put_collects; synced_syncs = t.synced_syncs });
  });
  tail = f.tail;
  syncs = (let r = f.syncs in record { to = r.to; marks = r.marks; valid = r.valid; answered = r.answered });
})
  where
    -- the call asks the same
    asks : op_of s.calling.job (s.calling.bytes ++ bytes) ≡ op_of s.calling.job s.calling.bytes
    asks = subst (λ (task : Task). op_of task (s.calling.bytes ++ bytes) ≡ op_of task s.calling.bytes) (sym may.job) refl

    byte_is : (k : ℕ) → k < length bytes → IsByteAt s (may.offset + length s.calling.bytes + k) (slice_index bytes k) →
        slice_index bytes k ≡ slice_index (file_at o c.history s.walk.position) (may.offset + length s.calling.bytes + k)
    byte_is k low known = go (may.offset + length s.calling.bytes + k) (subst (λ (geometry : Geometry). IsByteIn s
        (map_at s.walk.map ((may.offset + length s.calling.bytes + k) / geometry.block_bytes)) ((may.offset + length s.calling.bytes + k) % geometry.block_bytes) (slice_index bytes k)) (f.fits some).geometry known)
      where
        go : (place : ℕ) → IsByteIn s (map_at s.walk.map (place / o.geometry.block_bytes)) (place % o.geometry.block_bytes) (slice_index bytes k) →
            slice_index bytes k ≡ slice_index (file_at o c.history s.walk.position) place
        go place is =
            (let wide = inv.sizes.image.wide in
            let eight = eight_words o.geometry.block_bytes o.geometry.block_allowed in
            let positive : 0 < o.geometry.block_bytes = omega (arith, wide, eight) in
            found_byte o c n s g pin began inv f some may.reads (place / o.geometry.block_bytes) (place % o.geometry.block_bytes) (slice_index bytes k) (omega (arith, positive)) is
            ∙ ap (λ (p : ℕ). slice_index (file_at o c.history s.walk.position) p) (omega (arith, positive)))
