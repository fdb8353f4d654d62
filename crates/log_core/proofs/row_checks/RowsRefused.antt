-- Wrong states are refused by their clauses: order, owners, contents and pins.
use Rattle.std.proofs.Common.{ℕ, Bool, true, false, refl, inl, arith, ap}
use Rattle.std.proofs.lemmas.Bool.{false≢true}
use Rattle.log_core.specs.Origin.{Owner, InChain, OwnedBy}
use Rattle.log_core.specs.worked_rows.Refused.{OtherEntryPossible, HeadSkips, LogHasMore, BitWithoutOwner, BlockOnTwoLists, ChainBlockFree, OtherContentPossible, PinOfAnother}

pub other_entry_possible : OtherEntryPossible
other_entry_possible = λ order. (let other = ((order.chains 0 (record { inside = omega arith; why = inl (omega arith) }) 0 (omega arith) (omega arith)).slots 0 (omega arith) (λ sealed. omega arith)).before 0 (omega arith) (omega arith) in omega (arith, other))

pub head_skips : HeadSkips
head_skips = λ order. (let second = order.heads.each 1 (omega arith) in omega (arith, second))

pub log_has_more : LogHasMore
log_has_more = (
  λ order. (let last = order.log.last in omega (arith, last)),
  λ order. (let seal = (order.log.seal_last 0 0 refl).1 in omega (arith, seal)),
)

pub bit_without_owner : BitWithoutOwner
bit_without_owner = (
  λ owners. (let bit = owners.bits.bits 6 (omega arith) in omega (arith, bit)),
  λ owners. (let bit = owners.bits.bits 1 (omega arith) in omega (arith, bit)),
)

-- whether an owner is a seat that owns a block, and which seat an owner is
abbrev is_owned : Owner → Bool
is_owned (OwnedBy seat) = true
is_owned _ = false

abbrev seat_of : Owner → ℕ
seat_of (OwnedBy seat) = seat
seat_of _ = 0

abbrev is_in_chain : Owner → Bool
is_in_chain InChain = true
is_in_chain _ = false

pub block_on_two_lists : BlockOnTwoLists
block_on_two_lists = (
  λ owners. false≢true (ap is_owned ((owners.seats 0).owned.listed 3 refl)),
  λ owners. (let one = ap seat_of ((owners.seats 0).owned.listed 2 refl) in omega (arith, one)),
  λ owners. false≢true (owners.seats 0).left.once,
)

pub chain_block_free : ChainBlockFree
chain_block_free = λ owners. false≢true (ap is_in_chain (owners.chain.all 1 refl))

pub other_content_possible : OtherContentPossible
other_content_possible = (
  λ contents. (let other = ((contents 0 (record { inside = omega arith; why = inl (omega arith) })).words 1 0 refl (omega arith)).before 0 (omega arith) (omega arith) in omega (arith, other)),
  λ contents. (let byte = (((contents 0 (record { inside = omega arith; why = inl (omega arith) })).files 1 (omega arith) (omega arith)).held (omega arith)).each 0 0 (omega arith) in omega (arith, byte)),
)

pub pin_of_another : PinOfAnother
pin_of_another = (
  λ pins. (let pin = pins.words 0 (omega arith) in omega (arith, pin)),
  λ pins. (let present = (pins.holds 0).to_current (λ same. omega (arith, same)) in omega (arith, present)),
)
