-- Calls on an engine.
use Rattle.std.proofs.Common.{◌≡◌, ◌≢◌, ◌<◌, ◌≤◌, ◌+◌, ◌-◌, ◌*◌, ◌/◌, ◌%◌, ◌==◌, ◌⊎◌, inl, inr, ℕ, Bool, true, false, nat_lt, List, [], ◌∷◌, length, Option, Some, None, if◌then◌else◌, refl, sym, ap, ◌∙◌, subst, arith}
use Rattle.std.proofs.lemmas.Bool.{ltb-false, eqb-false, cases_lt}
use Rattle.std.proofs.Math.Nat.{mul-add-div, mod-lt, mul-le-mul_right}
use Rattle.std.proofs.lemmas.Nat.{div-add-mod'}
use Rattle.log_entry.specs.ByteFile.{write}
use Rattle.log_entry.specs.Fields.{field}
use Rattle.log_entry.specs.declared.layouts.TheConstants.{HEAD_GENERATION}
use Rattle.log_entry.specs.Shape.{longest_of, limit_of}
use Rattle.log_entry.specs.Legal.{AnswersWrite, write_refusal, touched_blocks, appended_blocks, last_position, position_after, file_after}
use Rattle.log_entry.specs.declared.shapes.Area.{Area}
use Rattle.log_entry.specs.declared.shapes.Area.TheVariants.{Data, Log}
use Rattle.log_entry.specs.declared.calls.Op.TheVariants.{Pwrite, Append}
use Rattle.log_entry.specs.declared.calls.WriteRefusal.{WriteRefusal}
use Rattle.log_entry.specs.declared.calls.WriteRefusal.TheVariants.{TooLong, TooLarge, NoSpace, PositionLimit}
use Rattle.log_entry.specs.declared.calls.Reply.{Reply}
use Rattle.log_entry.specs.declared.calls.Reply.TheVariants.{Wrote, Appended, NotWritten}
use Rattle.log_image.specs.Image.{Shape, words_in}
use Rattle.plain_engine.specs.Space.{lacks_data, lacks_log, lacking}
use Rattle.plain_engine.specs.Engine.{shape_in, Running, Writes, file_written, position_written, blocks_written}
use Rattle.plain_engine.specs.Serving.{unless_refused, lacking_for, refused_area, written_blocks, Serves}
use Rattle.plain_engine.specs.declared.engine.PlainEngine.{PlainEngine}
use Rattle.image_steps.proofs.StoreStep.{nothing_after}
use Rattle.plain_engine.proofs.BoundsLemmas.{bounds}
use Rattle.plain_engine.proofs.FileLemmas.{append_is_write}
use Rattle.plain_engine.specs.Names.{NamesAfter}
use Rattle.plain_engine.proofs.SpaceLemmas.{touched_from_place}
use Rattle.plain_engine.proofs.NamesLemmas.{names_stay}

-- what follows where nothing refuses a write
pub record IsAllowed (block_bytes position blocks end : ℕ) : Type 0 where
  pub few : blocks ≤ longest_of block_bytes
  pub fits : end ≤ limit_of block_bytes
  pub room : position ≢ last_position

pub allowed_by : (block_bytes position blocks end : ℕ) → write_refusal block_bytes position blocks end ≡ None → IsAllowed block_bytes position blocks end
allowed_by block_bytes position blocks end none = go (nat_lt (longest_of block_bytes) blocks) refl (nat_lt (limit_of block_bytes) end) refl (position == last_position) refl none
  where
    go : (long : Bool) → nat_lt (longest_of block_bytes) blocks ≡ long → (large : Bool) → nat_lt (limit_of block_bytes) end ≡ large → (full : Bool) → (position == last_position) ≡ full →
        (if long then Some (TooLong blocks) else if large then Some (TooLarge end) else if full then Some PositionLimit else None) ≡ None → IsAllowed block_bytes position blocks end
    go true a large b full c wrong = cc
    go false a true b full c wrong = cc
    go false a false b true c wrong = cc
    go false a false b false c fine = record { few = ltb-false (longest_of block_bytes) blocks a; fits = ltb-false (limit_of block_bytes) end b; room = eqb-false position last_position c }

-- the reply to a write that found space, or did not
abbrev pub reply_by : Option Area → Reply → Reply
reply_by None accepted = accepted
reply_by (Some area) accepted = NotWritten (NoSpace area)

-- there is no space for data or in the log
area_of_lack : (words : List ℕ) (shape : Shape) (chain : List ℕ) (count : ℕ) (area : Area) → Some area ≡ lacking words shape chain count → (area ≡ Data) ⊎ (area ≡ Log)
area_of_lack words shape chain count area is = go (lacks_data words shape chain count) (lacks_log words shape chain) is
  where
    go : (one two : Bool) → Some area ≡ (if one then Some Data else if two then Some Log else None) → (area ≡ Data) ⊎ (area ≡ Log)
    go true two same = inl cc
    go false true same = inr cc
    go false false same = cc

answers_write : (words : List ℕ) (shape : Shape) (chain : List ℕ) (count : ℕ) (result : Option Area) (refusal : Option WriteRefusal) (accepted : Reply) → refusal ≡ None → result ≡ lacking words shape chain count → AnswersWrite refusal accepted (reply_by result accepted)
answers_write words shape chain count result refusal accepted none is = subst (λ (o : Option WriteRefusal). AnswersWrite o accepted (reply_by result accepted)) (sym none) (go result is)
  where
    go : (found : Option Area) → found ≡ lacking words shape chain count → AnswersWrite None accepted (reply_by found accepted)
    go None same = inl refl
    go (Some area) same = third (area_of_lack words shape chain count area same)
      where
        second : NotWritten (NoSpace area) ≡ NotWritten (NoSpace Data) → AnswersWrite None accepted (NotWritten (NoSpace area))
        second same_reply = inr (inl same_reply)

        last : NotWritten (NoSpace area) ≡ NotWritten (NoSpace Log) → AnswersWrite None accepted (NotWritten (NoSpace area))
        last same_reply = inr (inr same_reply)

        third : (area ≡ Data) ⊎ (area ≡ Log) → AnswersWrite None accepted (NotWritten (NoSpace area))
        third (inl one) = second (ap (λ (a : Area). NotWritten (NoSpace a)) one)
        third (inr two) = last (ap (λ (a : Area). NotWritten (NoSpace a)) two)

-- the head's word is in block 0
head_inside : (e : PlainEngine) → 3 < words_in (shape_in e)
head_inside e =
    let b = bounds (shape_in e) e.words.items e.taken.items e.table e.position e.tail_block e.tail_slot e.first_clear e.kept in
    omega (arith, b.long)

-- a write at an offset
pub serve_pwrite : (old new : PlainEngine) (chain file : List ℕ) (offset : ℕ) (bytes : List ℕ) (result : Option Area) → 0 < length bytes → write_refusal old.geometry.block_bytes old.position (touched_blocks old.geometry.block_bytes offset (length bytes)) (offset + length bytes) ≡ None →
    Writes old new chain file offset bytes result → Serves old new chain file (Pwrite offset bytes) (reply_by result (Wrote (length bytes)))
serve_pwrite old new chain file offset [] result some none is = absurd (omega (arith, some))
serve_pwrite old new chain file offset (byte ∷ bytes) result some none is = record {
  answers = answers_write old.words.items (shape_in old) chain (touched_blocks old.geometry.block_bytes offset (length (byte ∷ bytes))) result (write_refusal old.geometry.block_bytes old.position (touched_blocks old.geometry.block_bytes offset (length (byte ∷ bytes))) (offset + length (byte ∷ bytes))) (Wrote (length (byte ∷ bytes))) none is.space;
  space = area_same result ∙ is.space ∙ ap (λ (o : Option WriteRefusal). lacking_for old.words.items (shape_in old) chain (unless_refused o (touched_blocks old.geometry.block_bytes offset (length (byte ∷ bytes))))) (sym none);
  geometry = is.geometry;
  position = is.position ∙ place result;
  generation = ap (λ (w : ℕ). field HEAD_GENERATION w) (is.first_block 3 (head_inside old));
  first_block = is.first_block;
  longer = is.longer;
  runs = subst (λ (l : List ℕ). Running new is.longer l) (after result) is.runs;
  names = subst (λ (o : Option ℕ). NamesAfter (shape_in old) old.words.items chain o new.words.items is.longer) (blocks result) is.names;
}
  where
    blocks : (found : Option Area) → blocks_written (touched_blocks old.geometry.block_bytes offset (length (byte ∷ bytes))) found ≡ written_blocks old.geometry.block_bytes file (Pwrite offset (byte ∷ bytes)) (reply_by found (Wrote (length (byte ∷ bytes))))
    blocks None = refl
    blocks (Some area) = refl

    area_same : (found : Option Area) → refused_area (reply_by found (Wrote (length (byte ∷ bytes)))) ≡ found
    area_same None = refl
    area_same (Some area) = refl

    place : (found : Option Area) → position_written old.position found ≡ position_after old.position (Pwrite offset (byte ∷ bytes)) (reply_by found (Wrote (length (byte ∷ bytes))))
    place None = refl
    place (Some area) = refl

    after : (found : Option Area) → file_written file offset (byte ∷ bytes) found ≡ file_after file (Pwrite offset (byte ∷ bytes)) (reply_by found (Wrote (length (byte ∷ bytes))))
    after None = refl
    after (Some area) = refl

-- a write at the file's end
pub serve_append : (old new : PlainEngine) (chain file : List ℕ) (at : ℕ) (bytes : List ℕ) (result : Option Area) → at ≡ length file → 0 < length bytes → write_refusal old.geometry.block_bytes old.position (appended_blocks old.geometry.block_bytes (length bytes)) (length file + length bytes) ≡ None →
    Writes old new chain file at bytes result → Serves old new chain file (Append bytes) (reply_by result (Appended at (length bytes)))
serve_append old new chain file at [] result is_end some none is = absurd (omega (arith, some))
serve_append old new chain file at (byte ∷ bytes) result is_end some none is = record {
  answers = subst (λ (n : ℕ). AnswersWrite (write_refusal old.geometry.block_bytes old.position (appended_blocks old.geometry.block_bytes (length (byte ∷ bytes))) (length file + length (byte ∷ bytes))) (Appended (length file) (length (byte ∷ bytes))) (reply_by result (Appended n (length (byte ∷ bytes))))) (sym is_end)
      (answers_write old.words.items (shape_in old) chain (touched_blocks old.geometry.block_bytes at (length (byte ∷ bytes))) result (write_refusal old.geometry.block_bytes old.position (appended_blocks old.geometry.block_bytes (length (byte ∷ bytes))) (length file + length (byte ∷ bytes))) (Appended (length file) (length (byte ∷ bytes))) none is.space);
  space = area_same result ∙ is.space ∙ ap (λ (n : ℕ). lacking old.words.items (shape_in old) chain (touched_blocks old.geometry.block_bytes n (length (byte ∷ bytes)))) is_end
      ∙ ap (λ (o : Option WriteRefusal). lacking_for old.words.items (shape_in old) chain (unless_refused o (touched_blocks old.geometry.block_bytes (length file) (length (byte ∷ bytes))))) (sym none);
  geometry = is.geometry;
  position = is.position ∙ place result;
  generation = ap (λ (w : ℕ). field HEAD_GENERATION w) (is.first_block 3 (head_inside old));
  first_block = is.first_block;
  longer = is.longer;
  runs = subst (λ (l : List ℕ). Running new is.longer l) (after result) is.runs;
  names = subst (λ (o : Option ℕ). NamesAfter (shape_in old) old.words.items chain o new.words.items is.longer) (blocks result) is.names;
}
  where
    blocks : (found : Option Area) → blocks_written (touched_blocks old.geometry.block_bytes at (length (byte ∷ bytes))) found ≡ written_blocks old.geometry.block_bytes file (Append (byte ∷ bytes)) (reply_by found (Appended at (length (byte ∷ bytes))))
    blocks None = ap (λ (n : ℕ). Some (touched_blocks old.geometry.block_bytes n (length (byte ∷ bytes)))) is_end
    blocks (Some area) = refl

    area_same : (found : Option Area) → refused_area (reply_by found (Appended at (length (byte ∷ bytes)))) ≡ found
    area_same None = refl
    area_same (Some area) = refl

    place : (found : Option Area) → position_written old.position found ≡ position_after old.position (Append (byte ∷ bytes)) (reply_by found (Appended at (length (byte ∷ bytes))))
    place None = refl
    place (Some area) = refl

    after : (found : Option Area) → file_written file at (byte ∷ bytes) found ≡ file_after file (Append (byte ∷ bytes)) (reply_by found (Appended at (length (byte ∷ bytes))))
    after None = ap (λ (n : ℕ). write file n (byte ∷ bytes)) is_end ∙ append_is_write file (byte ∷ bytes) some
    after (Some area) = refl

-- an append touches no more blocks than it is taken to
pub touched_appended : (block offset count : ℕ) → 0 < block → 0 < count → touched_blocks block offset count ≤ appended_blocks block count
touched_appended block offset count some few =
    let same : (offset % block + (count - 1)) / block + 1 ≡ touched_blocks block offset count = touched_from_place block offset count some few in
    let more : count + 2 * block - 2 ≡ block * 1 + (block - 1 + (count - 1)) = omega (arith, some, few) in
    let quotient : appended_blocks block count ≡ 1 + (block - 1 + (count - 1)) / block = rw more (mul-add-div some 1 (block - 1 + (count - 1))) in
    omega (arith, same, quotient, order (cases_lt ((block - 1 + (count - 1)) / block) ((offset % block + (count - 1)) / block)))
  where
    order : ((block - 1 + (count - 1)) / block < (offset % block + (count - 1)) / block) ⊎ ((offset % block + (count - 1)) / block ≤ (block - 1 + (count - 1)) / block) → (offset % block + (count - 1)) / block ≤ (block - 1 + (count - 1)) / block
    order (inr fine) = fine
    order (inl wrong) =
        let times : ((block - 1 + (count - 1)) / block + 1) * block ≤ (offset % block + (count - 1)) / block * block = mul-le-mul_right block (omega (arith, wrong)) in
        absurd (omega (arith, times, div-add-mod' (block - 1 + (count - 1)) block, div-add-mod' (offset % block + (count - 1)) block, mod-lt (block - 1 + (count - 1)) some, mod-lt offset some))

-- a refusal whatever is free is none for want of space
no_area : (block_bytes position blocks end : ℕ) (why : WriteRefusal) → write_refusal block_bytes position blocks end ≡ Some why → refused_area (NotWritten why) ≡ None
no_area block_bytes position blocks end why is = go (nat_lt (longest_of block_bytes) blocks) (nat_lt (limit_of block_bytes) end) (position == last_position) is
  where
    go : (long large full : Bool) → (if long then Some (TooLong blocks) else if large then Some (TooLarge end) else if full then Some PositionLimit else None) ≡ Some why → refused_area (NotWritten why) ≡ None
    go true large full same = (let one : TooLong blocks ≡ why = cc in subst (λ (w : WriteRefusal). refused_area (NotWritten w) ≡ None) one refl)
    go false true full same = (let one : TooLarge end ≡ why = cc in subst (λ (w : WriteRefusal). refused_area (NotWritten w) ≡ None) one refl)
    go false false true same = (let one : PositionLimit ≡ why = cc in subst (λ (w : WriteRefusal). refused_area (NotWritten w) ≡ None) one refl)
    go false false false same = cc

pub refuse_pwrite : (e : PlainEngine) (chain file : List ℕ) (offset : ℕ) (bytes : List ℕ) (why : WriteRefusal) → 0 < length bytes → write_refusal e.geometry.block_bytes e.position (touched_blocks e.geometry.block_bytes offset (length bytes)) (offset + length bytes) ≡ Some why →
    Running e chain file → Serves e e chain file (Pwrite offset bytes) (NotWritten why)
refuse_pwrite e chain file offset [] why some is runs = absurd (omega (arith, some))
refuse_pwrite e chain file offset (byte ∷ bytes) why some is runs = record {
  answers = subst (λ (o : Option WriteRefusal). AnswersWrite o (Wrote (length (byte ∷ bytes))) (NotWritten why)) (sym is) refl;
  space = no_area e.geometry.block_bytes e.position (touched_blocks e.geometry.block_bytes offset (length (byte ∷ bytes))) (offset + length (byte ∷ bytes)) why is
      ∙ ap (λ (o : Option WriteRefusal). lacking_for e.words.items (shape_in e) chain (unless_refused o (touched_blocks e.geometry.block_bytes offset (length (byte ∷ bytes))))) (sym is);
  geometry = refl;
  position = refl;
  generation = refl;
  first_block = λ place inside. refl;
  longer = chain;
  runs = runs;
  names = names_stay (shape_in e) e.words.items e.words.items chain (λ block. refl) refl;
}

pub refuse_append : (e : PlainEngine) (chain file bytes : List ℕ) (why : WriteRefusal) → 0 < length bytes → write_refusal e.geometry.block_bytes e.position (appended_blocks e.geometry.block_bytes (length bytes)) (length file + length bytes) ≡ Some why →
    Running e chain file → Serves e e chain file (Append bytes) (NotWritten why)
refuse_append e chain file [] why some is runs = absurd (omega (arith, some))
refuse_append e chain file (byte ∷ bytes) why some is runs = record {
  answers = subst (λ (o : Option WriteRefusal). AnswersWrite o (Appended (length file) (length (byte ∷ bytes))) (NotWritten why)) (sym is) refl;
  space = no_area e.geometry.block_bytes e.position (appended_blocks e.geometry.block_bytes (length (byte ∷ bytes))) (length file + length (byte ∷ bytes)) why is
      ∙ ap (λ (o : Option WriteRefusal). lacking_for e.words.items (shape_in e) chain (unless_refused o (touched_blocks e.geometry.block_bytes (length file) (length (byte ∷ bytes))))) (sym is);
  geometry = refl;
  position = refl;
  generation = refl;
  first_block = λ place inside. refl;
  longer = chain;
  runs = runs;
  names = names_stay (shape_in e) e.words.items e.words.items chain (λ block. refl) refl;
}

-- a list of no bytes
pub no_bytes : (bytes : List ℕ) → length bytes ≡ 0 → bytes ≡ []
no_bytes [] is = refl
no_bytes (byte ∷ bytes) is = absurd (omega (arith, is))

-- a write of no bytes
pub pwrite_nothing : (e : PlainEngine) (chain file : List ℕ) (offset : ℕ) (bytes : List ℕ) (count : ℕ) → bytes ≡ [] → count ≡ 0 → Running e chain file → Serves e e chain file (Pwrite offset bytes) (Wrote count)
pwrite_nothing e chain file offset bytes count none zero_count runs =
    subst (λ (l : List ℕ). Serves e e chain file (Pwrite offset l) (Wrote count)) (sym none) (record {
      answers = ap (λ (n : ℕ). Wrote n) zero_count;
      space = refl;
      geometry = refl;
      position = refl;
      generation = refl;
      first_block = λ place inside. refl;
      longer = chain;
      runs = runs;
      names = names_stay (shape_in e) e.words.items e.words.items chain (λ block. refl) refl;
    })

-- an append of no bytes
pub append_nothing : (e : PlainEngine) (chain file bytes : List ℕ) (at count : ℕ) → bytes ≡ [] → at ≡ length file → count ≡ 0 → Running e chain file → Serves e e chain file (Append bytes) (Appended at count)
append_nothing e chain file bytes at count none is_end zero_count runs =
    subst (λ (l : List ℕ). Serves e e chain file (Append l) (Appended at count)) (sym none) (record {
      answers = ap (λ (n : ℕ). Appended n count) is_end ∙ ap (λ (n : ℕ). Appended (length file) n) zero_count;
      space = refl;
      geometry = refl;
      position = refl;
      generation = refl;
      first_block = λ place inside. refl;
      longer = chain;
      runs = subst (λ (m : List ℕ). Running e chain m) (sym (nothing_after file)) runs;
      names = names_stay (shape_in e) e.words.items e.words.items chain (λ block. refl) refl;
    })

-- a refusal by numbers that are the same
pub refusal_by : (block_bytes position blocks others end place : ℕ) (result found : Option WriteRefusal) → blocks ≡ others → end ≡ place → result ≡ write_refusal block_bytes position blocks end → result ≡ found → write_refusal block_bytes position others place ≡ found
refusal_by block_bytes position blocks others end place result found same_blocks same_end is given =
    sym (ap (λ (n : ℕ). write_refusal block_bytes position n end) same_blocks ∙ ap (λ (n : ℕ). write_refusal block_bytes position others n) same_end) ∙ sym is ∙ given
