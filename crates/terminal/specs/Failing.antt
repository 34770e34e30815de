-- What a failing outlet does, and which device it was that failed.
use Rattle.std.specs.Prelude.{◌≡◌, ℕ, ◌≤◌, Bool, List, ◌++◌, Option, Result, IfErr, OnErr, OnOk}
use Rattle.eeprom.specs.Chip.{Chip}
use Rattle.eeprom.specs.Fault.{Rose}
use Rattle.eeprom.specs.Output.{Prints}
use Rattle.scql_model.specs.Machine.{Machine}
use Rattle.card_link.specs.Link.{AfterOutput, Mutes}
use Rattle.terminal.specs.declared.failure.Failure.{Failure}
use Rattle.terminal.specs.declared.failure.Failure.TheVariants.{Card, Outlet}

-- the start of a text went out
pub record IsStart (text : List ℕ) (old new : Option (List ℕ)) : Type 0 where
  pub said : List ℕ
  pub rest : List ℕ
  pub start : text ≡ said ++ rest
  pub printed : Prints said old new

-- an outlet failed, and its count rose
pub record Breaks {L : Type 0} (faults sink_faults : L → ℕ) (old new : L) : Type 0 where
  pub same : faults new ≡ faults old
  pub rose : Rose (sink_faults old) (sink_faults new)
  pub later : sink_faults old ≤ sink_faults new

-- one device failed, and the other didn't
abbrev pub Causes : {L : Type 0} → (L → Bool) → (L → ℕ) → (L → ℕ) → Failure → L → L → Type 0
Causes is_live faults sink_faults Card old new = Mutes is_live faults old new × (sink_faults new ≡ sink_faults old)
Causes is_live faults sink_faults Outlet old new = Breaks faults sink_faults old new × (is_live new ≡ is_live old)

-- no device failed
pub record Works {L : Type 0} (is_live : L → Bool) (faults sink_faults : L → ℕ) (old new : L) : Type 0 where
  pub live : is_live new ≡ is_live old
  pub faults_same : faults new ≡ faults old
  pub sink_same : sink_faults new ≡ sink_faults old

-- What is carried out on a desk leaves this, whatever is told of its card.
pub record RunLeaves {L T : Type 0} (is_live : L → Bool) (faults sink_faults : L → ℕ) (goes : L → L → Type 0) (result : Result T Failure) (old new : L) : Type 0 where
  -- Where it fails one device failed,
  pub causes : IfErr result (λ failure. Causes is_live faults sink_faults failure old new)
  -- and else none did.
  pub works : OnOk result (Works is_live faults sink_faults old new)
  -- The link goes on in any case.
  pub goes_on : goes old new

-- A text is given to a desk.
pub record GivesToDesk {L T : Type 0} (is_at : L → Machine → Type 0) (given : L → Option (List ℕ)) (is_live : L → Bool) (faults sink_faults mark : L → ℕ) (chip : L → Chip) (goes : L → L → Type 0) (text : List ℕ) (result : Result T Failure) (old new : L) : Type 0 where
  -- It went out,
  pub printed : OnOk result (Prints text (given old) (given new))
  -- or its start did,
  pub cut : OnErr result (IsStart text (given old) (given new))
  -- and then the outlet failed;
  pub fails : IfErr result (λ failure. (failure ≡ Outlet) × Breaks faults sink_faults old new)
  -- else no device did.
  pub works : OnOk result (Works is_live faults sink_faults old new)
  -- The card stays where it is.
  pub gives : AfterOutput is_at is_live faults mark chip old new
  pub goes_on : goes old new
