-- The core that a run starts with meets the invariant.
use Rattle.std.proofs.Common.{arith}
use Rattle.log_core.specs.Origin.{Origin, first_memory, first_views}
use Rattle.log_core.specs.Cores.{first_core, head_floor}
use Rattle.log_core.specs.Invariant.{Invariant}
use Rattle.log_core.specs.Starts.{IsStart}
use Rattle.log_core.specs.Laws.{StartMeets}
use Rattle.log_core.proofs.starts.StartFacts.{Facts, facts}
use Rattle.log_core.proofs.starts.StartSeats.{start_sizes, start_pins, start_walks, start_noted, start_owned, start_givings, start_records, start_syncs}
use Rattle.log_core.proofs.starts.StartOrder.{start_heads, start_rises, start_log}
use Rattle.log_core.proofs.starts.StartChains.{start_chains, start_synced}
use Rattle.log_core.proofs.starts.StartOwners.{start_owners}
use Rattle.log_core.proofs.starts.StartContents.{start_contents}
use Rattle.log_core.proofs.starts.StartHistory.{start_history}

meets : (o : Origin) → IsStart o → Facts o → Invariant o (first_core o)
meets o start s = record {
  sizes = start_sizes o start.seats (record { whole = s.whole; bitmap = s.bitmap.room; wide = s.wide }) start.small;
  writes = start_history o s;
  order = record { heads = start_heads o s; generations_rise = start_rises o s; log = start_log o s; chains = start_chains o s (head_floor (first_memory o)) (first_views o) };
  owners = start_owners o s (head_floor (first_memory o)) (first_views o);
  contents = start_contents o s (head_floor (first_memory o)) (first_views o);
  pins = start_pins o;
  walks = start_walks o;
  noted = start_noted o;
  owned = start_owned o;
  givings = start_givings o s.generation;
  records = start_records o;
  syncs = record { from_first = omega arith; to_end = omega arith; words = start_synced o s (head_floor (first_memory o)); views_hold = start_syncs o };
}

pub start_meets : StartMeets
start_meets o start = meets o start (facts o start)
