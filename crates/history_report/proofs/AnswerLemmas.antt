-- An answer can be read off its text: the replies of one operation that print alike are the same.
use Rattle.std.proofs.Common.{◌≡◌, ℕ, ◌%◌, ◌<◌, List, [], ◌∷◌, ◌++◌, Option, Some, None, codes, decimal, refl, sym, ap, append_assoc, arith}
use Rattle.std.proofs.lemmas.List.{append_cancel_left}
use Rattle.hex.specs.Hex.{encode_with}
use Rattle.log_entry.specs.Text.{bytes_text}
use Rattle.log_entry.specs.Kinds.{IsReplyTo}
use Rattle.log_entry.specs.declared.shapes.Area.{Area}
use Rattle.log_entry.specs.declared.shapes.Area.TheVariants.{Data, Log, Spare}
use Rattle.log_entry.specs.declared.calls.Op.{Op}
use Rattle.log_entry.specs.declared.calls.Op.TheVariants.{Pwrite, Append, Pread, Size, Sync, Collect}
use Rattle.log_entry.specs.declared.calls.WriteRefusal.{WriteRefusal}
use Rattle.log_entry.specs.declared.calls.WriteRefusal.TheVariants.{TooLong, TooLarge, NoSpace, PositionLimit}
use Rattle.log_entry.specs.declared.calls.CollectRefusal.{CollectRefusal}
use Rattle.log_entry.specs.declared.calls.CollectRefusal.TheVariants.{Nothing, NoSpace as NoSpareSpace, Overtaken, GenerationLimit}
use Rattle.log_entry.specs.declared.calls.Held.{Held}
use Rattle.log_entry.specs.declared.calls.Collected.{Collected as Collection}
use Rattle.log_entry.specs.declared.calls.Reply.{Reply}
use Rattle.log_entry.specs.declared.calls.Reply.TheVariants.{Wrote, Appended, NotWritten, Bytes, Size as FileSize, Synced, Collected, NotCollected}
use Rattle.history_report.specs.Report.{answer_text, area_text, collect_refusal_text, collection_text, held_text, write_refusal_text}
use Rattle.history_report.specs.TextFixes.{IsShort, HasShortRefusal, HasShortHeld, HasShortReply}
use Rattle.history_report.proofs.SplitLemmas.{IsStop, differ, number_then, number_line, number_blank, no_number, no_line, hex_line}

area_line : (a b : Area) (x y : List ℕ) → area_text a ++ (10 ∷ x) ≡ area_text b ++ (10 ∷ y) → (a ≡ b) × (x ≡ y)
area_line Data Data x y e = (refl, cc)
area_line Data Log x y e = absurd (differ 0 _ _ e refl)
area_line Data Spare x y e = absurd (differ 0 _ _ e refl)
area_line Log Data x y e = absurd (differ 0 _ _ e refl)
area_line Log Log x y e = (refl, cc)
area_line Log Spare x y e = absurd (differ 0 _ _ e refl)
area_line Spare Data x y e = absurd (differ 0 _ _ e refl)
area_line Spare Log x y e = absurd (differ 0 _ _ e refl)
area_line Spare Spare x y e = (refl, cc)

write_refusal_line : (v w : WriteRefusal) (x y : List ℕ) → HasShortRefusal v → HasShortRefusal w → write_refusal_text v ++ (10 ∷ x) ≡ write_refusal_text w ++ (10 ∷ y) → (v ≡ w) × (x ≡ y)
unfolding write_refusal_text
write_refusal_line (TooLong m) (TooLong n) x y sv sw e =
    let s : (m ≡ n) × (x ≡ y) = number_line m n x y sv sw (append_cancel_left (codes "TooLong ") (decimal m ++ (10 ∷ x)) (decimal n ++ (10 ∷ y)) e) in
    (ap TooLong s.0, s.1)
write_refusal_line (TooLong m) (TooLarge n) x y sv sw e = absurd (differ 4 _ _ e refl)
write_refusal_line (TooLong m) (NoSpace n) x y sv sw e = absurd (differ 0 _ _ e refl)
write_refusal_line (TooLong m) PositionLimit x y sv sw e = absurd (differ 0 _ _ e refl)
write_refusal_line (TooLarge m) (TooLong n) x y sv sw e = absurd (differ 4 _ _ e refl)
write_refusal_line (TooLarge m) (TooLarge n) x y sv sw e =
    let s : (m ≡ n) × (x ≡ y) = number_line m n x y sv sw (append_cancel_left (codes "TooLarge ") (decimal m ++ (10 ∷ x)) (decimal n ++ (10 ∷ y)) e) in
    (ap TooLarge s.0, s.1)
write_refusal_line (TooLarge m) (NoSpace n) x y sv sw e = absurd (differ 0 _ _ e refl)
write_refusal_line (TooLarge m) PositionLimit x y sv sw e = absurd (differ 0 _ _ e refl)
write_refusal_line (NoSpace m) (TooLong n) x y sv sw e = absurd (differ 0 _ _ e refl)
write_refusal_line (NoSpace m) (TooLarge n) x y sv sw e = absurd (differ 0 _ _ e refl)
write_refusal_line (NoSpace m) (NoSpace n) x y sv sw e =
    let s : (m ≡ n) × (x ≡ y) = area_line m n x y (append_cancel_left (codes "NoSpace ") (area_text m ++ (10 ∷ x)) (area_text n ++ (10 ∷ y)) e) in
    (ap NoSpace s.0, s.1)
write_refusal_line (NoSpace m) PositionLimit x y sv sw e = absurd (differ 0 _ _ e refl)
write_refusal_line PositionLimit (TooLong n) x y sv sw e = absurd (differ 0 _ _ e refl)
write_refusal_line PositionLimit (TooLarge n) x y sv sw e = absurd (differ 0 _ _ e refl)
write_refusal_line PositionLimit (NoSpace n) x y sv sw e = absurd (differ 0 _ _ e refl)
write_refusal_line PositionLimit PositionLimit x y sv sw e = (refl, cc)

collect_refusal_line : (v w : CollectRefusal) (x y : List ℕ) → HasShortReply (NotCollected v) → HasShortReply (NotCollected w) → collect_refusal_text v ++ (10 ∷ x) ≡ collect_refusal_text w ++ (10 ∷ y) → (v ≡ w) × (x ≡ y)
unfolding collect_refusal_text
collect_refusal_line Nothing Nothing x y sv sw e = (refl, cc)
collect_refusal_line Nothing NoSpareSpace x y sv sw e = absurd (differ 2 _ _ e refl)
collect_refusal_line Nothing (Overtaken n) x y sv sw e = absurd (differ 0 _ _ e refl)
collect_refusal_line Nothing GenerationLimit x y sv sw e = absurd (differ 0 _ _ e refl)
collect_refusal_line NoSpareSpace Nothing x y sv sw e = absurd (differ 2 _ _ e refl)
collect_refusal_line NoSpareSpace NoSpareSpace x y sv sw e = (refl, cc)
collect_refusal_line NoSpareSpace (Overtaken n) x y sv sw e = absurd (differ 0 _ _ e refl)
collect_refusal_line NoSpareSpace GenerationLimit x y sv sw e = absurd (differ 0 _ _ e refl)
collect_refusal_line (Overtaken m) Nothing x y sv sw e = absurd (differ 0 _ _ e refl)
collect_refusal_line (Overtaken m) NoSpareSpace x y sv sw e = absurd (differ 0 _ _ e refl)
collect_refusal_line (Overtaken m) (Overtaken n) x y sv sw e =
    let s : (m ≡ n) × (x ≡ y) = number_line m n x y sv sw (append_cancel_left (codes "Overtaken ") (decimal m ++ (10 ∷ x)) (decimal n ++ (10 ∷ y)) e) in
    (ap Overtaken s.0, s.1)
collect_refusal_line (Overtaken m) GenerationLimit x y sv sw e = absurd (differ 0 _ _ e refl)
collect_refusal_line GenerationLimit Nothing x y sv sw e = absurd (differ 0 _ _ e refl)
collect_refusal_line GenerationLimit NoSpareSpace x y sv sw e = absurd (differ 0 _ _ e refl)
collect_refusal_line GenerationLimit (Overtaken n) x y sv sw e = absurd (differ 0 _ _ e refl)
collect_refusal_line GenerationLimit GenerationLimit x y sv sw e = (refl, cc)

-- what stands behind the blocks kept does not begin with a digit
held_stops : (h : Option Held) (x : List ℕ) → IsStop (held_text h ++ (10 ∷ x))
unfolding held_text
held_stops None x = omega arith
held_stops (Some h) x = omega arith

-- a pin and a collection by their parts
abbrev held_of : ℕ → ℕ → Held
held_of seat generation = record { seat = seat; generation = generation }

abbrev collection_of : ℕ → ℕ → ℕ → Option Held → Collection
collection_of generation freed kept held = record { generation = generation; freed = freed; kept = kept; held = held }

held_line : (g h : Option Held) (x y : List ℕ) → HasShortHeld g → HasShortHeld h → held_text g ++ (10 ∷ x) ≡ held_text h ++ (10 ∷ y) → (g ≡ h) × (x ≡ y)
unfolding held_text
held_line None None x y sg sh e = (refl, cc)
held_line None (Some h) x y sg sh e = absurd (differ 0 _ _ e refl)
held_line (Some g) None x y sg sh e = absurd (differ 0 _ _ e refl)
held_line (Some g) (Some h) x y sg sh e =
    let left : decimal g.seat ++ (codes " at " ++ (decimal g.generation ++ (10 ∷ x))) ≡ decimal h.seat ++ (codes " at " ++ (decimal h.generation ++ (10 ∷ y))) = append_cancel_left (codes " pin ") _ _ (simp append_assoc at e) in
    let s : (g.seat ≡ h.seat) × (codes "at " ++ (decimal g.generation ++ (10 ∷ x)) ≡ codes "at " ++ (decimal h.generation ++ (10 ∷ y))) = number_blank g.seat h.seat _ _ sg.0 sh.0 left in
    let t : (g.generation ≡ h.generation) × (x ≡ y) = number_line g.generation h.generation x y sg.1 sh.1 (append_cancel_left (codes "at ") _ _ s.1) in
    let seats : g.seat ≡ h.seat = s.0 in
    let generations : g.generation ≡ h.generation = t.0 in
    let pins : held_of g.seat g.generation ≡ held_of h.seat h.generation = cc in
    (ap Some pins, t.1)

collection_line : (c d : Collection) (x y : List ℕ) → HasShortReply (Collected c) → HasShortReply (Collected d) → collection_text c ++ (10 ∷ x) ≡ collection_text d ++ (10 ∷ y) → (c ≡ d) × (x ≡ y)
unfolding collection_text
collection_line c d x y sc sd e =
    let left : decimal c.generation ++ (codes " freed " ++ (decimal c.freed ++ (codes " kept " ++ (decimal c.kept ++ (held_text c.held ++ (10 ∷ x)))))) ≡ decimal d.generation ++ (codes " freed " ++ (decimal d.freed ++ (codes " kept " ++ (decimal d.kept ++ (held_text d.held ++ (10 ∷ y)))))) = append_cancel_left (codes "generation ") _ _ (simp append_assoc at e) in
    let s : (c.generation ≡ d.generation) × (codes "freed " ++ (decimal c.freed ++ (codes " kept " ++ (decimal c.kept ++ (held_text c.held ++ (10 ∷ x))))) ≡ codes "freed " ++ (decimal d.freed ++ (codes " kept " ++ (decimal d.kept ++ (held_text d.held ++ (10 ∷ y)))))) = number_blank c.generation d.generation _ _ sc.0 sd.0 left in
    let t : (c.freed ≡ d.freed) × (codes "kept " ++ (decimal c.kept ++ (held_text c.held ++ (10 ∷ x))) ≡ codes "kept " ++ (decimal d.kept ++ (held_text d.held ++ (10 ∷ y)))) = number_blank c.freed d.freed _ _ sc.1 sd.1 (append_cancel_left (codes "freed ") _ _ s.1) in
    let u : (c.kept ≡ d.kept) × (held_text c.held ++ (10 ∷ x) ≡ held_text d.held ++ (10 ∷ y)) = number_then c.kept d.kept _ _ sc.2 sd.2 (held_stops c.held x) (held_stops d.held y) (append_cancel_left (codes "kept ") _ _ t.1) in
    let v : (c.held ≡ d.held) × (x ≡ y) = held_line c.held d.held x y sc.3 sd.3 u.1 in
    let generations : c.generation ≡ d.generation = s.0 in
    let freeds : c.freed ≡ d.freed = t.0 in
    let kepts : c.kept ≡ d.kept = u.0 in
    let helds : c.held ≡ d.held = v.0 in
    let all : collection_of c.generation c.freed c.kept c.held ≡ collection_of d.generation d.freed d.kept d.held = cc in
    (all, v.1)

bytes_line : (xs ys x y : List ℕ) → HasShortReply (Bytes xs) → HasShortReply (Bytes ys) → bytes_text xs ++ (10 ∷ x) ≡ bytes_text ys ++ (10 ∷ y) → (xs ≡ ys) × (x ≡ y)
unfolding encode_with
bytes_line [] [] x y bx by e = (refl, cc)
bytes_line [] (b ∷ ys) x y bx by e =
    let low : b < 256 = by 0 in
    absurd (no_line (b % 16) (omega arith) (cc))
bytes_line (a ∷ xs) [] x y bx by e =
    let low : a < 256 = bx 0 in
    absurd (no_line (a % 16) (omega arith) (cc))
bytes_line (a ∷ xs) (b ∷ ys) x y bx by e = hex_line (a ∷ xs) (b ∷ ys) x y bx by e

-- replies that print alike, whatever stands behind the end of the line
abbrev Same : Reply → Reply → Type 0
Same r s = (x y : List ℕ) → HasShortReply r → HasShortReply s → answer_text r ++ (10 ∷ x) ≡ answer_text s ++ (10 ∷ y) → (r ≡ s) × (x ≡ y)

-- a number is not the text of a refusal
not_refused : (n : ℕ) (w : WriteRefusal) (x y : List ℕ) → IsShort n → decimal n ++ x ≡ write_refusal_text w ++ y → ⊥
unfolding write_refusal_text
not_refused n (TooLong m) x y sn e = no_number n 84 x _ sn (omega arith) e
not_refused n (TooLarge m) x y sn e = no_number n 84 x _ sn (omega arith) e
not_refused n (NoSpace m) x y sn e = no_number n 78 x _ sn (omega arith) e
not_refused n PositionLimit x y sn e = no_number n 80 x _ sn (omega arith) e

not_refused_collection : (d : Collection) (w : CollectRefusal) (x y : List ℕ) → collection_text d ++ x ≡ collect_refusal_text w ++ y → ⊥
unfolding collection_text collect_refusal_text
not_refused_collection d Nothing x y e = differ 0 _ _ e refl
not_refused_collection d NoSpareSpace x y e = differ 0 _ _ e refl
not_refused_collection d (Overtaken n) x y e = differ 0 _ _ e refl
not_refused_collection d GenerationLimit x y e = differ 0 _ _ e refl

wrote_wrote : (m n : ℕ) → Same (Wrote m) (Wrote n)
unfolding answer_text
wrote_wrote m n x y sm sn e = let s = number_line m n x y sm sn e in (ap Wrote s.0, s.1)

wrote_refused : (m : ℕ) (w : WriteRefusal) → Same (Wrote m) (NotWritten w)
unfolding answer_text
wrote_refused m w x y sm sw e = absurd (not_refused m w _ _ sm e)

refused_wrote : (v : WriteRefusal) (n : ℕ) → Same (NotWritten v) (Wrote n)
unfolding answer_text
refused_wrote v n x y sv sn e = absurd (not_refused n v _ _ sn (sym e))

refused_refused : (v w : WriteRefusal) → Same (NotWritten v) (NotWritten w)
unfolding answer_text
refused_refused v w x y sv sw e = let s = write_refusal_line v w x y sv sw e in (ap NotWritten s.0, s.1)

appended_appended : (a m b n : ℕ) → Same (Appended a m) (Appended b n)
unfolding answer_text
appended_appended a m b n x y sm sn e =
    let flat : decimal m ++ (codes " at " ++ (decimal a ++ (10 ∷ x))) ≡ decimal n ++ (codes " at " ++ (decimal b ++ (10 ∷ y))) = simp append_assoc at e in
    let s : (m ≡ n) × (codes "at " ++ (decimal a ++ (10 ∷ x)) ≡ codes "at " ++ (decimal b ++ (10 ∷ y))) = number_blank m n _ _ sm.1 sn.1 flat in
    let t : (a ≡ b) × (x ≡ y) = number_line a b x y sm.0 sn.0 (append_cancel_left (codes "at ") _ _ s.1) in
    let counts : m ≡ n = s.0 in
    let places : a ≡ b = t.0 in
    (cc, t.1)

appended_refused : (a m : ℕ) (w : WriteRefusal) → Same (Appended a m) (NotWritten w)
unfolding answer_text
appended_refused a m w x y sm sw e =
    let flat : decimal m ++ (codes " at " ++ (decimal a ++ (10 ∷ x))) ≡ write_refusal_text w ++ (10 ∷ y) = simp append_assoc at e in
    absurd (not_refused m w _ _ sm.1 flat)

refused_appended : (v : WriteRefusal) (b n : ℕ) → Same (NotWritten v) (Appended b n)
refused_appended v b n x y sv sn e = absurd (refuse (appended_refused b n v y x sn sv (sym e)).0)
  where
    refuse : Appended b n ≡ NotWritten v → ⊥
    refuse h = cc

read_read : (xs ys : List ℕ) → Same (Bytes xs) (Bytes ys)
unfolding answer_text
read_read xs ys x y bx by e = let s = bytes_line xs ys x y bx by e in (ap Bytes s.0, s.1)

size_size : (m n : ℕ) → Same (FileSize m) (FileSize n)
unfolding answer_text
size_size m n x y sm sn e = let s = number_line m n x y sm sn e in (ap FileSize s.0, s.1)

synced_synced : (m n : ℕ) → Same (Synced m) (Synced n)
unfolding answer_text
synced_synced m n x y sm sn e = let s = number_line m n x y sm sn e in (ap Synced s.0, s.1)

collected_collected : (c d : Collection) → Same (Collected c) (Collected d)
unfolding answer_text
collected_collected c d x y sc sd e = let s = collection_line c d x y sc sd e in (ap Collected s.0, s.1)

collected_refused : (c : Collection) (w : CollectRefusal) → Same (Collected c) (NotCollected w)
unfolding answer_text
collected_refused c w x y sc sw e = absurd (not_refused_collection c w _ _ e)

refused_collected : (v : CollectRefusal) (d : Collection) → Same (NotCollected v) (Collected d)
unfolding answer_text
refused_collected v d x y sv sd e = absurd (not_refused_collection d v _ _ (sym e))

not_not_collected : (v w : CollectRefusal) → Same (NotCollected v) (NotCollected w)
unfolding answer_text
not_not_collected v w x y sv sw e = let s = collect_refusal_line v w x y sv sw e in (ap NotCollected s.0, s.1)

-- the replies that each operation has
pwrite_cases : (P : Reply → Type 0) → ((m : ℕ) → P (Wrote m)) → ((w : WriteRefusal) → P (NotWritten w)) → (o : ℕ) (bs : List ℕ) (r : Reply) → IsReplyTo (Pwrite o bs) r → P r
pwrite_cases P f g o bs (Wrote m) k = f m
pwrite_cases P f g o bs (Appended a m) k = absurd k
pwrite_cases P f g o bs (NotWritten w) k = g w
pwrite_cases P f g o bs (Bytes xs) k = absurd k
pwrite_cases P f g o bs (FileSize m) k = absurd k
pwrite_cases P f g o bs (Synced m) k = absurd k
pwrite_cases P f g o bs (Collected c) k = absurd k
pwrite_cases P f g o bs (NotCollected v) k = absurd k

append_cases : (P : Reply → Type 0) → ((a m : ℕ) → P (Appended a m)) → ((w : WriteRefusal) → P (NotWritten w)) → (bs : List ℕ) (r : Reply) → IsReplyTo (Append bs) r → P r
append_cases P f g bs (Wrote m) k = absurd k
append_cases P f g bs (Appended a m) k = f a m
append_cases P f g bs (NotWritten w) k = g w
append_cases P f g bs (Bytes xs) k = absurd k
append_cases P f g bs (FileSize m) k = absurd k
append_cases P f g bs (Synced m) k = absurd k
append_cases P f g bs (Collected c) k = absurd k
append_cases P f g bs (NotCollected v) k = absurd k

pread_cases : (P : Reply → Type 0) → ((xs : List ℕ) → P (Bytes xs)) → (o n : ℕ) (r : Reply) → IsReplyTo (Pread o n) r → P r
pread_cases P f o n (Wrote m) k = absurd k
pread_cases P f o n (Appended a m) k = absurd k
pread_cases P f o n (NotWritten w) k = absurd k
pread_cases P f o n (Bytes xs) k = f xs
pread_cases P f o n (FileSize m) k = absurd k
pread_cases P f o n (Synced m) k = absurd k
pread_cases P f o n (Collected c) k = absurd k
pread_cases P f o n (NotCollected v) k = absurd k

size_cases : (P : Reply → Type 0) → ((m : ℕ) → P (FileSize m)) → (r : Reply) → IsReplyTo Size r → P r
size_cases P f (Wrote m) k = absurd k
size_cases P f (Appended a m) k = absurd k
size_cases P f (NotWritten w) k = absurd k
size_cases P f (Bytes xs) k = absurd k
size_cases P f (FileSize m) k = f m
size_cases P f (Synced m) k = absurd k
size_cases P f (Collected c) k = absurd k
size_cases P f (NotCollected v) k = absurd k

sync_cases : (P : Reply → Type 0) → ((m : ℕ) → P (Synced m)) → (r : Reply) → IsReplyTo Sync r → P r
sync_cases P f (Wrote m) k = absurd k
sync_cases P f (Appended a m) k = absurd k
sync_cases P f (NotWritten w) k = absurd k
sync_cases P f (Bytes xs) k = absurd k
sync_cases P f (FileSize m) k = absurd k
sync_cases P f (Synced m) k = f m
sync_cases P f (Collected c) k = absurd k
sync_cases P f (NotCollected v) k = absurd k

collect_cases : (P : Reply → Type 0) → ((c : Collection) → P (Collected c)) → ((v : CollectRefusal) → P (NotCollected v)) → (r : Reply) → IsReplyTo Collect r → P r
collect_cases P f g (Wrote m) k = absurd k
collect_cases P f g (Appended a m) k = absurd k
collect_cases P f g (NotWritten w) k = absurd k
collect_cases P f g (Bytes xs) k = absurd k
collect_cases P f g (FileSize m) k = absurd k
collect_cases P f g (Synced m) k = absurd k
collect_cases P f g (Collected c) k = f c
collect_cases P f g (NotCollected v) k = g v

-- replies of one operation that print alike are the same
pub same_reply : (op : Op) (r s : Reply) → IsReplyTo op r → IsReplyTo op s → Same r s
same_reply (Pwrite o bs) r s kr ks = pwrite_cases (λ t. Same t s) (λ (m : ℕ). pwrite_cases (λ t. Same (Wrote m) t) (wrote_wrote m) (wrote_refused m) o bs s ks) (λ (w : WriteRefusal). pwrite_cases (λ t. Same (NotWritten w) t) (refused_wrote w) (refused_refused w) o bs s ks) o bs r kr
same_reply (Append bs) r s kr ks = append_cases (λ t. Same t s) (λ (a m : ℕ). append_cases (λ t. Same (Appended a m) t) (appended_appended a m) (appended_refused a m) bs s ks) (λ (w : WriteRefusal). append_cases (λ t. Same (NotWritten w) t) (refused_appended w) (refused_refused w) bs s ks) bs r kr
same_reply (Pread o n) r s kr ks = pread_cases (λ t. Same t s) (λ (xs : List ℕ). pread_cases (λ t. Same (Bytes xs) t) (read_read xs) o n s ks) o n r kr
same_reply Size r s kr ks = size_cases (λ t. Same t s) (λ (m : ℕ). size_cases (λ t. Same (FileSize m) t) (size_size m) s ks) r kr
same_reply Sync r s kr ks = sync_cases (λ t. Same t s) (λ (m : ℕ). sync_cases (λ t. Same (Synced m) t) (synced_synced m) s ks) r kr
same_reply Collect r s kr ks = collect_cases (λ t. Same t s) (λ (c : Collection). collect_cases (λ t. Same (Collected c) t) (collected_collected c) (collected_refused c) s ks) (λ (v : CollectRefusal). collect_cases (λ t. Same (NotCollected v) t) (refused_collected v) (not_not_collected v) s ks) r kr
