-- On which channel a terminal goes on after a statement.
use Rattle.std.proofs.Common.{◌≡◌, ℕ, refl}
use Rattle.scql_model.specs.Machine.{Machine}
use Rattle.script.specs.declared.statement.Statement.{Statement}
use Rattle.script.specs.declared.statement.Statement.TheVariants.{Blank, Single, OpenNumber, CloseNumber, UseNumber, Reset}
use Rattle.planner.specs.Held.{channel_after}
use Rattle.planner.proofs.OfRows.{HoldsOfRows, of-rows}
use Rattle.planner.specs.Meaning.{meaning}

channel-rows : (m : Machine) (channel : ℕ) → HoldsOfRows (λ x. x.channel ≡ channel) m channel
channel-rows m channel = record {
  closed = refl;
  refused = λ word. refl;
  selected = λ d. refl;
  inside = λ operation t d is. refl;
  rolled = λ word. refl;
  committed = λ operation d none. refl;
}

pub goes-on : (m : Machine) (channel : ℕ) (s : Statement) → (meaning m channel s).channel ≡ channel_after s channel
unfolding meaning
goes-on m channel Blank = refl
goes-on m channel (Single operation) = refl
goes-on m channel (OpenNumber number) = refl
goes-on m channel (CloseNumber number) = refl
goes-on m channel (UseNumber number) = refl
goes-on m channel Reset = refl
goes-on m channel s = of-rows (λ x. x.channel ≡ channel) m channel (channel-rows m channel) s tt
