-- Why the last apply since the last reset holds a virtual block.
use Rattle.std.proofs.Common.{◌≡◌, ℕ, ◌+◌, ◌-◌, Bool, true, false, if◌then◌else◌, List, [], ◌∷◌, ◌++◌, reverse, All, Some, append_assoc, ap, ◌∙◌, refl}
use Rattle.std.proofs.lemmas.List.{reverse-append}
use Rattle.std.proofs.lemmas.List.Elements.{All-nil, All-head, All-tail, All-push}
use Rattle.block_table.specs.FileMap.{is_in_range}
use Rattle.block_table.specs.Calls.{TableCall, Reset, Apply, Grow, latest_block, LeavesAlone, IsHeldSince}

-- the first element of a list is the last from the last back
reverse-cons : {X : Type 0} (x : X) (xs : List X) → reverse (x ∷ xs) ≡ reverse xs ++ x ∷ []
reverse-cons x xs = reverse-append (x ∷ []) xs

-- what is true of each element is true of each from the last back
All-reverse : {X : Type 0} (P : X → Type 0) (xs : List X) → All P xs → All P (reverse xs)
All-reverse P [] all = All-nil P
All-reverse P (x ∷ xs) all = rw (reverse-cons x xs) (All-push P (reverse xs) x (All-reverse P xs (All-tail P x xs all)) (All-head P x xs all))

-- calls that leave v alone hide nothing of the calls before them
latest_block-alone : (v : ℕ) (since before : List TableCall) → All (LeavesAlone v) since → latest_block (since ++ before) v ≡ latest_block before v
latest_block-alone v [] before alone = refl
latest_block-alone v (Reset size ∷ since) before alone = absurd (All-head (LeavesAlone v) (Reset size) since alone)
latest_block-alone v (Apply virt block count ∷ since) before alone =
    rw (All-head (LeavesAlone v) (Apply virt block count) since alone) (latest_block-alone v since before (All-tail (LeavesAlone v) (Apply virt block count) since alone))
latest_block-alone v (Grow end ∷ since) before alone = latest_block-alone v since before (All-tail (LeavesAlone v) (Grow end) since alone)

-- a further call that leaves v alone changes nothing
held_on : (calls : List TableCall) (call : TableCall) (v held : ℕ) → LeavesAlone v call → IsHeldSince calls v held → IsHeldSince (calls ++ call ∷ []) v held
held_on calls call v held alone was = record {
  before = was.before;
  virt = was.virt;
  block = was.block;
  count = was.count;
  since = was.since ++ call ∷ [];
  in_order = ap (λ (l : List TableCall). l ++ call ∷ []) was.in_order ∙ append_assoc was.before (Apply was.virt was.block was.count ∷ was.since) (call ∷ []);
  named = was.named;
  maps = was.maps;
  alone = All-push (LeavesAlone v) was.since call was.alone alone;
}

-- the latest call is an apply: it holds v, or what held v before does
held_after_apply : (before : List TableCall) (virt block count v held : ℕ) (named : Bool) → is_in_range virt count v ≡ named → (if named then Some (block + (v - virt)) else latest_block before v) ≡ Some held → (latest_block before v ≡ Some held → IsHeldSince (reverse before) v held) → IsHeldSince (reverse before ++ Apply virt block count ∷ []) v held
held_after_apply before virt block count v held true is holds earlier = record {
  before = reverse before;
  virt = virt;
  block = block;
  count = count;
  since = [];
  in_order = refl;
  named = is;
  maps = cc;
  alone = All-nil (LeavesAlone v);
}
held_after_apply before virt block count v held false is holds earlier = held_on (reverse before) (Apply virt block count) v held is (earlier holds)

-- by calls from the latest back: a block that holds v does so since an apply
pub held_since : (latest : List TableCall) (v held : ℕ) → latest_block latest v ≡ Some held → IsHeldSince (reverse latest) v held
held_since [] v held holds = cc
held_since (Reset size ∷ before) v held holds = cc
held_since (Apply virt block count ∷ before) v held holds = rw (reverse-cons (Apply virt block count) before) (held_after_apply before virt block count v held (is_in_range virt count v) refl holds (held_since before v held))
held_since (Grow end ∷ before) v held holds = rw (reverse-cons (Grow end) before) (held_on (reverse before) (Grow end) v held tt (held_since before v held holds))

-- the apply that names v last, with calls after it that leave v alone, gives its block
pub latest_block-since : (calls : List TableCall) (v held : ℕ) → IsHeldSince calls v held → latest_block (reverse calls) v ≡ Some held
latest_block-since calls v held is =
    let applied : TableCall = Apply is.virt is.block is.count in
    let turned : reverse calls ≡ reverse is.since ++ (applied ∷ reverse is.before) =
    ap reverse is.in_order ∙ reverse-append is.before (applied ∷ is.since) ∙ ap (λ (l : List TableCall). l ++ reverse is.before) (reverse-cons applied is.since) ∙ append_assoc (reverse is.since) (applied ∷ []) (reverse is.before) in
    let alone : latest_block (reverse is.since ++ (applied ∷ reverse is.before)) v ≡ latest_block (applied ∷ reverse is.before) v =
    latest_block-alone v (reverse is.since) (applied ∷ reverse is.before) (All-reverse (LeavesAlone v) is.since is.alone) in
    rw (turned, alone, is.named, is.maps) refl
