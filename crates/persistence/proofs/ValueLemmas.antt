-- The values of a word among the first ones replaced.
use Rattle.std.proofs.Common.{◌≡◌, ◌≢◌, ℕ, ◌+◌, ◌<◌, ◌≤◌, ◌==◌, Bool, true, false, if◌then◌else◌, min, List, [], ◌∷◌, ◌++◌, length, take, drop, map, not, cond, inl, inr, All, subst, filter, get_or, slice_index, slice_set, refl, sym, ap, ◌∙◌, append-nil, length-append, eq-eqb, arith}
use Rattle.std.proofs.lemmas.Bool.{ne_eqb}
use Rattle.std.proofs.lemmas.Bool.Decides.{eqb_tells, leb_tells}
use Rattle.std.proofs.Math.Seq.{get_or-append_seam}
use Rattle.std.proofs.lemmas.List.{length-map, length-take, map-append, take_all, take-append-drop, take-take, take-append-le, get_or-set_same, get_or-set_other, get_or_append_left, get_or_past}
use Rattle.std.proofs.lemmas.List.Filters.{length-filter_both}
use Rattle.std.proofs.lemmas.List.Elements.{filter-append, filter_more}
use Rattle.persistence.specs.Memory.{Replaced, values_of, index_at}

-- the value of one that is kept
value_kept : (b : Bool) (e : Replaced) → map (λ (r : Replaced). r.value) (cond b (e ∷ []) []) ≡ (if b then e.value ∷ [] else [])
value_kept true e = refl
value_kept false e = refl

-- one that is read at its place: it is the one there, of a word that is known
pub entry_at : (past : List Replaced) (i n : ℕ) (e read : Replaced) → e ≡ read → read ≡ get_or past i read → i < length past → All (λ (r : Replaced). r.word < n) past
    → (e ≡ get_or past i e) × (e.word < n)
entry_at past i n e read same is inside known =
    let at : e ≡ get_or past i e = subst (λ (r : Replaced). r ≡ get_or past i r) (sym same) is in
    (at, subst (λ (r : Replaced). r.word < n) (sym at) (known i e inside))

-- one more is replaced
pub values_of-more : (past : List Replaced) (i word : ℕ) (e : Replaced) → i < length past → e ≡ get_or past i e
    → values_of (take (i + 1) past) word ≡ values_of (take i past) word ++ (if e.word == word then e.value ∷ [] else [])
values_of-more past i word e inside is =
    ap (map (λ (r : Replaced). r.value)) (filter_more (λ (r : Replaced). r.word == word) past i e inside)
    ∙ map-append (λ (r : Replaced). r.value) (filter (λ (r : Replaced). r.word == word) (take i past)) (cond ((get_or past i e).word == word) (get_or past i e ∷ []) [])
    ∙ rw (← is) (ap (λ (xs : List ℕ). values_of (take i past) word ++ xs) (value_kept (e.word == word) e))

-- one of this word
pub values_of-same : (past : List Replaced) (i word : ℕ) (e : Replaced) → i < length past → e ≡ get_or past i e → word ≡ e.word
    → values_of (take (i + 1) past) word ≡ values_of (take i past) word ++ e.value ∷ []
values_of-same past i word e inside is same =
    elim (eqb_tells e.word word) [
      | inl h ↦ values_of-more past i word e inside is ∙ ap (λ (b : Bool). values_of (take i past) word ++ (if b then e.value ∷ [] else [])) h.0
      | inr h ↦ absurd (h.1 (sym same))
    ]

-- one of another word
pub values_of-other : (past : List Replaced) (i word : ℕ) (e : Replaced) → i < length past → e ≡ get_or past i e → word ≢ e.word
    → values_of (take (i + 1) past) word ≡ values_of (take i past) word
values_of-other past i word e inside is other =
    elim (eqb_tells e.word word) [
      | inl h ↦ absurd (other (sym h.1))
      | inr h ↦ values_of-more past i word e inside is ∙ ap (λ (b : Bool). values_of (take i past) word ++ (if b then e.value ∷ [] else [])) h.0 ∙ append-nil _
    ]

-- what counts the values of each word, after one more
pub count_on : (past : List Replaced) (seen : List ℕ) (i n : ℕ) (e : Replaced) → i < length past → e ≡ get_or past i e → length seen ≡ n → e.word < n
    → ((w : ℕ) → w < n → slice_index seen w ≡ index_at past i w)
    → (w : ℕ) → w < n → slice_index (slice_set seen e.word (slice_index seen e.word + 1)) w ≡ index_at past (i + 1) w
count_on past seen i n e inside is long known each w below =
    elim (eqb_tells w e.word) [
      | inl h ↦ rw (h.1, get_or-set_same seen e.word (slice_index seen e.word + 1) 0 (omega arith), values_of-same past i e.word e inside is refl, length-append (values_of (take i past) e.word) (e.value ∷ []), each e.word known) refl
      | inr h ↦ rw (get_or-set_other seen e.word w (slice_index seen e.word + 1) 0 h.1, values_of-other past i w e inside is h.1) (each w below)
    ]

-- the same counted up to a floor only: one of another word
floor_kept : (past : List Replaced) (i floor w : ℕ) (e : Replaced) → i < length past → e ≡ get_or past i e → w ≢ e.word
    → index_at past (min i floor) w ≡ index_at past (min (i + 1) floor) w
floor_kept past i floor w e inside is other =
    elim (leb_tells floor i) [
      | inl h ↦ let same : min i floor ≡ min (i + 1) floor = omega (arith, h.1) in ap (λ (t : ℕ). index_at past t w) same
      | inr h ↦
          let before : min i floor ≡ i = omega (arith, h.1) in
          let after : min (i + 1) floor ≡ i + 1 = omega (arith, h.1) in
          rw (before, after) (sym (ap length (values_of-other past i w e inside is other)))
    ]

-- one before its word's floor
pub floor_on_before : (past : List Replaced) (seen floors : List ℕ) (i n : ℕ) (e : Replaced) → i < length past → e ≡ get_or past i e → length seen ≡ n → e.word < n
    → i < slice_index floors e.word
    → ((w : ℕ) → w < n → slice_index seen w ≡ index_at past (min i (slice_index floors w)) w)
    → (w : ℕ) → w < n → slice_index (slice_set seen e.word (slice_index seen e.word + 1)) w ≡ index_at past (min (i + 1) (slice_index floors w)) w
floor_on_before past seen floors i n e inside is long known before each w below =
    elim (eqb_tells w e.word) [
      | inl h ↦
          let was : min i (slice_index floors e.word) ≡ i = omega (arith, before) in
          let now : min (i + 1) (slice_index floors e.word) ≡ i + 1 = omega (arith, before) in
          rw (h.1, now, get_or-set_same seen e.word (slice_index seen e.word + 1) 0 (omega arith), values_of-same past i e.word e inside is refl, length-append (values_of (take i past) e.word) (e.value ∷ []))
          (ap (λ (n : ℕ). n + 1) (each e.word known ∙ ap (λ (t : ℕ). index_at past t e.word) was))
      | inr h ↦ rw (get_or-set_other seen e.word w (slice_index seen e.word + 1) 0 h.1, ← floor_kept past i (slice_index floors w) w e inside is h.1) (each w below)
    ]

-- one at or after its word's floor
pub floor_on_after : (past : List Replaced) (seen floors : List ℕ) (i n : ℕ) (e : Replaced) → i < length past → e ≡ get_or past i e → e.word < n
    → slice_index floors e.word ≤ i
    → ((w : ℕ) → w < n → slice_index seen w ≡ index_at past (min i (slice_index floors w)) w)
    → (w : ℕ) → w < n → slice_index seen w ≡ index_at past (min (i + 1) (slice_index floors w)) w
floor_on_after past seen floors i n e inside is known after each w below =
    elim (eqb_tells w e.word) [
      | inl h ↦
          let same : min i (slice_index floors e.word) ≡ min (i + 1) (slice_index floors e.word) = omega (arith, after) in
          rw (h.1, ← same) (each e.word known)
      | inr h ↦ rw (← floor_kept past i (slice_index floors w) w e inside is h.1) (each w below)
    ]

-- a value behind others: it is read at its number alone
push_read_at : (xs : List ℕ) (v k d : ℕ) → k ≡ length xs → get_or (xs ++ v ∷ []) k d ≡ v
push_read_at xs v k d same = rw same (get_or-append_seam xs v [] d)

push_read_other : (xs : List ℕ) (v k d : ℕ) → k ≢ length xs → get_or (xs ++ v ∷ []) k d ≡ get_or xs k d
push_read_other xs v k d other =
    elim (leb_tells (length xs) k) [
      | inl h ↦ rw (get_or_past xs k d h.1) (get_or_past (xs ++ v ∷ []) k d (rw (length-append xs (v ∷ [])) (omega (arith, other, h.1))))
      | inr h ↦ get_or_append_left xs (v ∷ []) d k h.1
    ]

-- the values of these numbers, as far as they were seen: one that is asked for
pub value_on_asked : (past : List Replaced) (words now seen indices : List ℕ) (i n : ℕ) (e : Replaced) → i < length past → e ≡ get_or past i e → length words ≡ n → e.word < n
    → slice_index seen e.word ≡ slice_index indices e.word
    → ((w : ℕ) → w < n → slice_index seen w ≡ index_at past i w)
    → ((w : ℕ) → w < n → slice_index words w ≡ get_or (values_of (take i past) w) (slice_index indices w) (slice_index now w))
    → (w : ℕ) → w < n → slice_index (slice_set words e.word e.value) w ≡ get_or (values_of (take (i + 1) past) w) (slice_index indices w) (slice_index now w)
value_on_asked past words now seen indices i n e inside is long known asked counts each w below =
    elim (eqb_tells w e.word) [
      | inl h ↦ rw (h.1, get_or-set_same words e.word e.value 0 (omega arith), values_of-same past i e.word e inside is refl) (sym (push_read_at _ _ _ _ (sym asked ∙ counts e.word known)))
      | inr h ↦ rw (get_or-set_other words e.word w e.value 0 h.1, values_of-other past i w e inside is h.1) (each w below)
    ]

-- one that is not
pub value_on_other : (past : List Replaced) (words now seen indices : List ℕ) (i n : ℕ) (e : Replaced) → i < length past → e ≡ get_or past i e → e.word < n
    → slice_index seen e.word ≢ slice_index indices e.word
    → ((w : ℕ) → w < n → slice_index seen w ≡ index_at past i w)
    → ((w : ℕ) → w < n → slice_index words w ≡ get_or (values_of (take i past) w) (slice_index indices w) (slice_index now w))
    → (w : ℕ) → w < n → slice_index words w ≡ get_or (values_of (take (i + 1) past) w) (slice_index indices w) (slice_index now w)
value_on_other past words now seen indices i n e inside is known other counts each w below =
    elim (eqb_tells w e.word) [
      | inl h ↦ rw (h.1, values_of-same past i e.word e inside is refl, push_read_other (values_of (take i past) e.word) e.value (slice_index indices e.word) (slice_index now e.word) (λ same. other (counts e.word known ∙ sym same))) (each e.word known)
      | inr h ↦ rw (values_of-other past i w e inside is h.1) (each w below)
    ]

-- the values among two lists
pub values_of-append : (past more : List Replaced) (word : ℕ) → values_of (past ++ more) word ≡ values_of past word ++ values_of more word
values_of-append past more word =
    ap (map (λ (r : Replaced). r.value)) (filter-append (λ (r : Replaced). r.word == word) past more)
    ∙ map-append (λ (r : Replaced). r.value) (filter (λ (r : Replaced). r.word == word) past) (filter (λ (r : Replaced). r.word == word) more)

-- no number is past the last
pub index_at-most : (past : List Replaced) (time word : ℕ) → index_at past time word ≤ length (values_of past word)
index_at-most past time word =
    let parts : length (values_of past word) ≡ index_at past time word + length (values_of (drop time past) word) =
    ap (λ (rs : List Replaced). length (values_of rs word)) (sym (take-append-drop time past))
    ∙ ap length (values_of-append (take time past) (drop time past) word)
    ∙ length-append (values_of (take time past) word) (values_of (drop time past) word) in
    omega (arith, parts)

-- and there are at most as many as were replaced
pub values_of-few : (past : List Replaced) (word : ℕ) → length (values_of past word) ≤ length past
values_of-few past word =
    let parts : length (filter (λ (r : Replaced). r.word == word) past) + length (filter (λ (r : Replaced). not (r.word == word)) past) ≡ length past =
    length-filter_both (λ (r : Replaced). r.word == word) (λ (r : Replaced). not (r.word == word)) (λ r. refl) past in
    rw (length-map (filter (λ (r : Replaced). r.word == word) past) (λ (r : Replaced). r.value)) (omega (arith, parts))

-- nor more than the time
pub index_at-few : (past : List Replaced) (time word : ℕ) → index_at past time word ≤ time
index_at-few past time word =
    let most : index_at past time word ≤ length (take time past) = values_of-few (take time past) word in
    let long : length (take time past) ≡ min time (length past) = length-take time past in
    omega (arith, most, long)

-- a time past the end is the end
pub index_at-cut : (past : List Replaced) (floor word : ℕ) → index_at past (min (length past) floor) word ≡ index_at past floor word
index_at-cut past floor word =
    elim (leb_tells floor (length past)) [
      | inl h ↦ let same : min (length past) floor ≡ floor = omega (arith, h.1) in ap (λ (t : ℕ). index_at past t word) same
      | inr h ↦
          let same : min (length past) floor ≡ length past = omega (arith, h.1) in
          rw (same, take_all (length past) past (omega arith), take_all floor past (omega (arith, h.1))) refl
    ]

-- a later time has as many values or more
pub index_at-later : (past : List Replaced) (early late word : ℕ) → early ≤ late → index_at past early word ≤ index_at past late word
index_at-later past early late word order =
    let cut : take early (take late past) ≡ take early past = take-take early late past order in
    rw cut at (index_at-most (take late past) early word)

-- what is replaced later does not change the numbers of a time before
pub index_at-grown : (past more : List Replaced) (time word : ℕ) → time ≤ length past → index_at (past ++ more) time word ≡ index_at past time word
index_at-grown past more time word before = ap (λ (rs : List Replaced). length (values_of rs word)) (take-append-le time past more before)

-- the present value has the number of the values before it
pub index_at-now : (past : List Replaced) (word : ℕ) → index_at past (length past) word ≡ length (values_of past word)
index_at-now past word = ap (λ (rs : List Replaced). length (values_of rs word)) (take_all (length past) past (omega arith))

-- one more behind the others: of this word, and of another
pub values_of-push_same : (past : List Replaced) (e : Replaced) → values_of (past ++ e ∷ []) e.word ≡ values_of past e.word ++ e.value ∷ []
values_of-push_same past e =
    values_of-append past (e ∷ []) e.word
    ∙ ap (λ (xs : List ℕ). values_of past e.word ++ xs) (value_kept (e.word == e.word) e ∙ ap (λ (b : Bool). if b then e.value ∷ [] else []) (eq-eqb e.word e.word refl))

pub values_of-push_other : (past : List Replaced) (e : Replaced) (word : ℕ) → word ≢ e.word → values_of (past ++ e ∷ []) word ≡ values_of past word
values_of-push_other past e word other =
    values_of-append past (e ∷ []) word
    ∙ ap (λ (xs : List ℕ). values_of past word ++ xs) (value_kept (e.word == word) e ∙ ap (λ (b : Bool). if b then e.value ∷ [] else []) (ne_eqb e.word word (λ same. other (sym same))))
    ∙ append-nil (values_of past word)
