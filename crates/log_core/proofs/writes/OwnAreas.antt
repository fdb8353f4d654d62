-- Owned blocks are blocks of the image behind the header, each of the area that it is kept with.
use Rattle.std.proofs.Common.{◌≡◌, ◌≢◌, ◌<◌, ◌≤◌, ◌+◌, ◌&&◌, ◌⊎◌, inl, inr, nat_le, nat_lt, ℕ, Bool, true, false, [], length, if◌then◌else◌, refl, sym, ap, ◌∙◌, subst, arith}
use Rattle.std.proofs.lemmas.Bool.{lt-ltb, le-leb, cases_lt}
use Rattle.log_entry.specs.declared.shapes.Area.TheVariants.{Data, Log, Spare}
use Rattle.log_image.specs.Image.{Shape, total, is_in_data, is_in_log, shape_by}
use Rattle.pmem_words.specs.Owned.{owned_at}
use Rattle.pmem_words.specs.declared.owned.OwnedBlock.{OwnedBlock}
use Rattle.pmem_words.specs.Seats.{Seat}
use Rattle.log_core.specs.Views.{Ghost, view_of}
use Rattle.log_core.specs.Origin.{Origin, Free, Header, OwnedBy}
use Rattle.log_core.specs.Cores.{Core}
use Rattle.log_core.specs.Works.{seat_shape, owned_block}
use Rattle.log_core.specs.Steps.{area_of}
use Rattle.log_core.specs.Invariant.{Invariant}
use Rattle.log_core.specs.Knows.{Knows}
use Rattle.log_core.proofs.Each.{each_at}
use Rattle.log_core.proofs.clauses.Others.{owned_listed}
use Rattle.log_core.proofs.writes.OwnContents.{OwnsWhole}

-- a block of no data area is of the log or spare area, where it is a block of the image and not the header
not_data : (image : Shape) (block : ℕ) → block ≢ 0 → block < total image → area_of image block ≢ Data → is_in_log image block ≡ true
not_data image block some inside other = go (is_in_data image block) refl
  where
    go : (b : Bool) → is_in_data image block ≡ b → is_in_log image block ≡ true
    go true e = absurd (other (rw e refl))
    go false e = rw (past (cases_lt image.data_blocks block), lt-ltb block (total image) inside) refl
      where
        past : (image.data_blocks < block) ⊎ (block ≤ image.data_blocks) → nat_lt image.data_blocks block ≡ true
        past (inl late) = lt-ltb image.data_blocks block late
        past (inr low) = (let both : (nat_le 1 block && nat_le block image.data_blocks) ≡ true = rw (le-leb 1 block (omega (arith, some)), le-leb block image.data_blocks low) refl in
            let wrong : true ≡ false = sym both ∙ e in cc)

-- a block of the data area
data_area : (image : Shape) (block : ℕ) → area_of image block ≡ Data → is_in_data image block ≡ true
data_area image block is = go (is_in_data image block) (nat_le block (image.data_blocks + image.log_blocks)) is
  where
    go : (here log : Bool) → (if here then Data else if log then Log else Spare) ≡ Data → here ≡ true
    go true log e = refl
    go false true e = cc
    go false false e = cc

module _ (o : Origin) (c : Core) (n : ℕ) (s : Seat) (g : Ghost) (pin began : ℕ) (inv : Invariant o c) (unspent : (view_of c.views n).parts ≢ []) (f : Knows o c n s g pin began) where
  pub owns_whole : OwnsWhole s
  owns_whole = record { once = f.owns.owned.once; long = f.owned.contents }

  module _ (place : ℕ) (inside : place < length s.blocks.owned) where
    abbrev block : ℕ
    block = owned_block s place

    owner_is : c.owner block ≡ OwnedBy n
    owner_is = f.owns.owned.listed block (owned_listed s.blocks.owned place inside)

    area_is : (owned_at s.blocks.owned place).area ≡ area_of (seat_shape s) block
    area_is = each_at (λ (b : OwnedBlock). b.area ≡ area_of (seat_shape s) b.block) s.blocks.owned (record { block = 0; area = Data; filled = false; fenced = false }) place inside f.owned.areas

    -- an owned block is a block of the image behind the header
    pub owned_some : block ≢ 0
    owned_some e = (let both : Header ≡ OwnedBy n = sym inv.owners.bits.header ∙ (ap c.owner (sym e) ∙ owner_is) in cc)

    pub owned_inside : block < total (seat_shape s)
    owned_inside = subst (λ (image : Shape). block < total image) (sym (ap shape_by (f.fits unspent).geometry)) (inv.owners.bits.inside block (λ free. (let both : OwnedBy n ≡ Free = sym owner_is ∙ free in cc)))

    -- so it is in the area that it is kept with
    pub owned_in_data : (owned_at s.blocks.owned place).area ≡ Data → is_in_data (seat_shape s) block ≡ true
    owned_in_data is = data_area (seat_shape s) block (sym area_is ∙ is)

    pub owned_in_log : (owned_at s.blocks.owned place).area ≢ Data → is_in_log (seat_shape s) block ≡ true
    owned_in_log other = not_data (seat_shape s) block owned_some owned_inside (λ is. other (area_is ∙ is))
