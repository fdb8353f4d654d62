-- What a world stands for, as its image does, with as many seats as its run has.
use Rattle.std.proofs.Common.{◌≡◌, ◌<◌, ◌≤◌, ◌+◌, ◌^◌, ℕ, suc, List, [], ◌∷◌, ◌++◌, length, map, inr, refl, sym, ◌∙◌, ap, subst, arith, slice_index}
use Rattle.std.proofs.Math.Logic.{∥∥₁_elim, ∥∥₁_map}
use Rattle.std.proofs.Math.Bridge.{le_prop}
use Rattle.std.specs.List.{AllByRecursion, range_with_len}
use Rattle.std.proofs.lemmas.List.FromFn.{map-range_with_len_more, length-map-range_with_len}
use Rattle.log_image.specs.KeepsStart.{KeepsStart}
use Rattle.log_core.specs.Starts.{origin_of}
use Rattle.log_core.proofs.starts.StartKept.{kept_start, same_position}
use Rattle.pmem_words.specs.Seats.{Seat, new_seat}
use Rattle.pmem_words.specs.declared.TheConstants.{SEATS}
use Rattle.asks.specs.declared.ask.Ask.{Ask}
use Rattle.persistence.specs.Cells.{CellsNow, fresh_memory}
use Rattle.log_core.specs.Origin.{Origin}
use Rattle.log_core.specs.Cores.{Core, first_core}
use Rattle.log_core.specs.Steps.{Note, Does}
use Rattle.log_core.specs.After.{after}
use Rattle.log_core.proofs.machines.Serving.{reached_keeps}
use Rattle.log_core.proofs.starts.StartMeets.{start_meets}
use Rattle.crash_model.specs.Images.{SharedNow, ImageStandsFor, IsOfSomeRun, image_after, FitsImage, MayAsk, ImageTakes}
use Rattle.crash_model.specs.Worlds.{WorldNow, StandsForCore, FitsCore, HasFitting, seat_of, image_of, world_of, world_after, new_world}
use Rattle.crash_model.proofs.ImageStanding.{number_is, stands_after as image_stands_after}

-- a world stands for what its image does
pub image_stands : (w : WorldNow) (o : Origin) (c : Core) → StandsForCore w o c → ImageStandsFor (image_of w) o c
image_stands w o c s = record { start = s.start; geometry = s.geometry; reached = s.reached; memory = s.memory; position = s.position; synced = s.synced }

pub world_stands : (i : SharedNow) (seats : List Seat) (o : Origin) (c : Core) → o.seats ≡ length seats → ImageStandsFor i o c → StandsForCore (world_of i seats) o c
world_stands i seats o c many s = record { start = s.start; geometry = s.geometry; seats = many; reached = s.reached; memory = s.memory; position = s.position; synced = s.synced }

module _ (w : WorldNow) (seat : ℕ) (ask : Ask) (o : Origin) (c : Core) (note : Note) (fits : FitsCore w seat ask o c note) where
  pub fits_image : FitsImage (image_of w) seat (seat_of w seat) ask o c note
  fits_image = record { stands = image_stands w o c fits.stands; step = fits.step; before = fits.before }

  -- the world after the step stands for the core after it
  pub stands_after : StandsForCore (world_after w seat ask) o (after o c (Does seat ask note))
  stands_after = world_stands (image_after (image_of w) seat (seat_of w seat) ask) w.seats o (after o c (Does seat ask note)) fits.stands.seats (image_stands_after (image_of w) seat (seat_of w seat) ask o c note fits_image)

  made_one : seat < length w.seats
  made_one = (let inv = reached_keeps o (start_meets o fits.stands.start) c fits.stands.reached in let made = fits.step.made in let few = inv.sizes.few in let many = fits.stands.seats in omega (arith, made, few, many))

module _ (w : WorldNow) (seat : ℕ) (ask : Ask) (fitting : HasFitting w seat ask) where
  pub may_ask : MayAsk (image_of w) seat (seat_of w seat) ask
  may_ask = ∥∥₁_map fitting (λ f. (f.0, f.1, f.2, fits_image w seat ask f.0 f.1 f.2 f.3))

  module _ (s : Seat) (is : s ≡ seat_of w seat) where
    pub number_here : s.number ≡ seat
    number_here = subst (λ (x : Seat). x.number ≡ seat) (sym is) (number_is (image_of w) seat (seat_of w seat) ask may_ask)

    pub image_takes : 0 < w.cells.room → ImageTakes (image_of w) s ask
    image_takes room = record {
      room = room;
      may = subst (λ (x : Seat). MayAsk (image_of w) x.number x ask) (sym is)
          (subst (λ (k : ℕ). MayAsk (image_of w) k (seat_of w seat) ask) (sym (number_is (image_of w) seat (seat_of w seat) ask may_ask)) may_ask);
    }

    pub world_made : (j : SharedNow) → j ≡ image_after (image_of w) s.number s ask → world_of j w.seats ≡ world_after w seat ask
    world_made j made = ap (λ (x : SharedNow). world_of x w.seats) (made ∙ (ap (λ (k : ℕ). image_after (image_of w) k s ask) number_here ∙ ap (λ (x : Seat). image_after (image_of w) seat x ask) is))

  pub seat_made : seat < length w.seats
  seat_made = ∥∥₁_elim fitting le_prop (λ f. made_one w seat ask f.0 f.1 f.2 f.3)

-- a state of a seat that is lent back changes nothing that a world stands for
pub stands_with : (w : WorldNow) (seats : List Seat) → length seats ≡ length w.seats → (o : Origin) (c : Core) → StandsForCore w o c → StandsForCore (record w { seats = seats }) o c
stands_with w seats same o c s = record { start = s.start; geometry = s.geometry; seats = s.seats ∙ sym same; reached = s.reached; memory = s.memory; position = s.position; synced = s.synced }

-- one seat more
pub seats_more : (geometry : Rattle.log_entry.specs.declared.shapes.Geometry.Geometry) (seats position number : ℕ) (states more : List Seat) (s : Seat) → states ≡ map (λ (n : ℕ). new_seat geometry n seats position) (range_with_len 0 number) →
    s ≡ new_seat geometry number seats position → more ≡ states ++ s ∷ [] → more ≡ map (λ (n : ℕ). new_seat geometry n seats position) (range_with_len 0 (number + 1))
seats_more geometry seats position number states more s states_is s_is more_is =
    more_is ∙ (ap (λ (xs : List Seat). xs ++ s ∷ []) states_is ∙ (ap (λ (x : Seat). map (λ (n : ℕ). new_seat geometry n seats position) (range_with_len 0 number) ++ x ∷ []) s_is
    ∙ sym (map-range_with_len_more (λ (n : ℕ). new_seat geometry n seats position) 0 number number (omega arith))))

each_small : (words : List ℕ) → ((place : ℕ) → slice_index words place < 2 ^ 64) → AllByRecursion (λ (word : ℕ). word < 2 ^ 64) words
each_small [] small = tt
each_small (word ∷ words) small = (small 0, each_small words (λ place. subst (λ (k : ℕ). slice_index (word ∷ words) k < 2 ^ 64) (let e : place + 1 ≡ suc place = omega arith in e) (small (place + 1))))

-- a world in which nothing was done stands for the core that a run of all seats starts with
module _ (geometry : Rattle.log_entry.specs.declared.shapes.Geometry.Geometry) (words taken : List ℕ) (generation position size seats : ℕ) (small : (place : ℕ) → slice_index words place < 2 ^ 64) (some : 0 < seats) (few : seats ≤ SEATS) where
  pub new_stands_by : (k : KeepsStart geometry words taken generation position size) → StandsForCore (new_world geometry words taken position seats) (origin_of geometry seats seats words taken k.chain k.file) (first_core (origin_of geometry seats seats words taken k.chain k.file))
  new_stands_by k = record {
    start = kept_start geometry words taken generation position size seats seats k (each_small words small) (record { some = some; few = few; made = inr refl });
    geometry = refl;
    seats = sym (length-map-range_with_len (λ (n : ℕ). new_seat geometry n seats position) 0 seats);
    reached = record { steps = []; is_run = tt; ends = refl };
    memory = refl;
    position = (let e = same_position geometry words taken generation position size seats seats k in omega (arith, e));
    synced = same_position geometry words taken generation position size seats seats k;
  }

  pub new_stands : ∥ KeepsStart geometry words taken generation position size ∥₁ → IsOfSomeRun (image_of (new_world geometry words taken position seats))
  new_stands kept = ∥∥₁_map kept (λ k. (origin_of geometry seats seats words taken k.chain k.file, first_core (origin_of geometry seats seats words taken k.chain k.file), image_stands (new_world geometry words taken position seats) (origin_of geometry seats seats words taken k.chain k.file) (first_core (origin_of geometry seats seats words taken k.chain k.file)) (new_stands_by k)))

pub made_stands : (geometry : Rattle.log_entry.specs.declared.shapes.Geometry.Geometry) (words taken : List ℕ) (generation position size seats : ℕ) → ((place : ℕ) → slice_index words place < 2 ^ 64) → 0 < seats → seats ≤ SEATS →
    ∥ KeepsStart geometry words taken generation position size ∥₁ → (g : Rattle.log_entry.specs.declared.shapes.Geometry.Geometry) (p : ℕ) (cells : CellsNow) → g ≡ geometry → p ≡ position →
    cells ≡ record { memory = fresh_memory words taken seats; room = 0 } → IsOfSomeRun (record { geometry = g; cells = cells; position = p; synced = p })
made_stands geometry words taken generation position size seats small some few kept g p cells g_is p_is cells_is =
    rw (cells_is, g_is, p_is) (new_stands geometry words taken generation position size seats small some few kept)
