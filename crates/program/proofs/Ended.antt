-- How a run over its input ends, by how its lines came to an end.
use Rattle.std.proofs.Common.{◌≡◌, ℕ, Bool, true, false, List, Option, refl, ap, subst}
use Rattle.std.proofs.lemmas.Bool.{false≢true}
use Rattle.eeprom.specs.Chip.{Becomes, Chip}
use Rattle.eeprom.specs.Output.{Prints}
use Rattle.scql_model.specs.Lines.{Language, run_text}
use Rattle.line_input.specs.declared.input.InputEnd.{InputEnd}
use Rattle.line_input.specs.declared.input.InputEnd.TheVariants as ends
use Rattle.line_input.specs.Reading.{CountsSource}
use Rattle.line_run.specs.declared.line_stop.LineStop.{LineStop}
use Rattle.line_run.specs.declared.line_stop.LineStop.TheVariants as stops
use Rattle.line_run.specs.Causes.{CausesEnd, Faults}
use Rattle.line_run.specs.Extent.{EndsAt, Extent, Runs, RunsInput, stopped_in, to_end}
use Rattle.program.specs.declared.status.Status.{Status}
use Rattle.program.specs.declared.status.Status.TheVariants.{TooLong}
use Rattle.program.specs.Ends.{AllFaults, EndsBy, RunsTo, reads_all}
use Rattle.program.specs.Numbers.{status_at, status_of}

-- A run that read its input to its end came to the end of its lines
not-done : (stop : LineStop) → reads_all (status_of stop) ≡ true → ⊥
not-done stops.Eeprom whole = false≢true whole
not-done stops.Outlet whole = false≢true whole
not-done stops.Both whole = false≢true whole
not-done stops.NoMemory whole = false≢true whole

pub ends-whole : (end : InputEnd LineStop) (refused : Bool) → reads_all (status_at end refused) ≡ true → end ≡ ends.Ended
ends-whole ends.Ended refused whole = refl
ends-whole ends.ReadFault refused whole = absurd (false≢true whole)
ends-whole ends.TooLong refused whole = absurd (false≢true whole)
ends-whole (ends.Stopped stop) refused whole = absurd (not-done stop whole)

-- and said the texts of its lines
pub said-done : {S X : Type 0} (chip : X → Chip) (eeprom : X → ℕ) (L : Language S) (state : S) (taken : List (List ℕ)) (extent : Extent) (old new : X) → EndsAt chip eeprom L state extent ends.Ended old new → Runs L state taken extent (chip old) (chip new)
    → Prints (run_text L state taken) (chip old).still.given (chip new).still.given
said-done chip eeprom L state taken to_end old new ends runs = subst (λ (said : List ℕ). Prints said (chip old).still.given (chip new).still.given) runs.text.1 runs.text.2
said-done chip eeprom L state taken (stopped_in stop answered line) old new ends runs = absurd cc

-- all of its input was read
pub at-whole : {P : List ℕ → List ℕ → Type 0} (end : InputEnd LineStop) (refused : Bool) (start now : Option (List ℕ)) → (end ≡ ends.Ended → Becomes P start now) → reads_all (status_at end refused) ≡ true → Becomes P start now
at-whole end refused start now becomes whole = becomes (ends-whole end refused whole)

-- or more came than is taken
pub at-longer : {P : List ℕ → List ℕ → Type 0} (end : InputEnd LineStop) (refused : Bool) (start now : Option (List ℕ)) → (end ≡ ends.TooLong → Becomes P start now) → status_at end refused ≡ TooLong → Becomes P start now
at-longer ends.TooLong refused start now becomes long = becomes refl
at-longer ends.Ended true start now becomes long = absurd cc
at-longer ends.Ended false start now becomes long = absurd cc
at-longer ends.ReadFault refused start now becomes long = absurd cc
at-longer (ends.Stopped stops.Eeprom) refused start now becomes long = absurd cc
at-longer (ends.Stopped stops.Outlet) refused start now becomes long = absurd cc
at-longer (ends.Stopped stops.Both) refused start now becomes long = absurd cc
at-longer (ends.Stopped stops.NoMemory) refused start now becomes long = absurd cc

-- A run over what has a desk is one over the desk.
ends-through : {S X Y : Type 0} (desk : X → Y) (chip : Y → Chip) (eeprom : Y → ℕ) (L : Language S) (state : S) (extent : Extent) (end : InputEnd LineStop) (old new : X)
    → EndsAt (λ (x : X). chip (desk x)) (λ (x : X). eeprom (desk x)) L state extent end old new → EndsAt chip eeprom L state extent end (desk old) (desk new)
ends-through desk chip eeprom L state to_end end old new ends = ends
ends-through desk chip eeprom L state (stopped_in stop answered line) end old new ends =
    let begins = ends.2 in (ends.0, desk ends.1, record { quiet = begins.quiet; text = begins.text; image = begins.image }, ends.3)

pub through : {S X Y : Type 0} (old new : X) (desk : X → Y) (chip : Y → Chip) (eeprom : Y → ℕ) (L : Language S) (state : S) (status : Status) (input left : List ℕ) → RunsTo (λ (x : X). chip (desk x)) (λ (x : X). eeprom (desk x)) L state status input left old new
    → RunsTo chip eeprom L state status input left (desk old) (desk new)
through old new desk chip eeprom L state status input left ran = record {
  end = ran.end;
  refused = ran.refused;
  ends = ran.ends;
  runs = record { taken = ran.runs.taken; are_taken = ran.runs.are_taken; extent = ran.runs.extent; ends = ends-through desk chip eeprom L state ran.runs.extent ran.end old new ran.runs.ends; runs = ran.runs.runs };
}

pub runs-through : {S X Y : Type 0} (old new : X) (desk : X → Y) (chip : Y → Chip) (eeprom : Y → ℕ) (L : Language S) (state : S) (end : InputEnd LineStop) (refused : Bool) (status : Status) (start now : Option (List ℕ)) → status ≡ status_at end refused
    → Becomes (λ (input left : List ℕ). RunsInput (λ (x : X). chip (desk x)) (λ (x : X). eeprom (desk x)) L state end input left old new) start now
    → Becomes (λ (input left : List ℕ). RunsTo chip eeprom L state status input left (desk old) (desk new)) start now
runs-through old new desk chip eeprom L state end refused status start now is runs = λ left told.
    let last = runs left told in
    (last.0, last.1, through old new desk chip eeprom L state status last.0 left (record { end = end; refused = refused; ends = is; runs = last.2 }))

-- How the counts of faults move: none rose,
same-all : (a b c d s t : ℕ) → (let was : Faults = record { eeprom = a; outlet = c } in let now : Faults = record { eeprom = b; outlet = d } in now ≡ was) → t ≡ s
    → (let was : AllFaults = record { eeprom = a; source = s; outlet = c } in let now : AllFaults = record { eeprom = b; source = t; outlet = d } in now ≡ was)
same-all a b c d s t same source =
    let eeprom : b ≡ a = ap (λ (f : Faults). f.eeprom) same in
    let outlet : d ≡ c = ap (λ (f : Faults). f.outlet) same in
    rw (eeprom, outlet, source) refl

-- or each fault has its cause
pub input-causes : (end : InputEnd LineStop) (refused : Bool) (eeprom eeprom_now outlet outlet_now source source_now : ℕ) → CausesEnd end (record { eeprom = eeprom; outlet = outlet }) (record { eeprom = eeprom_now; outlet = outlet_now }) → CountsSource end source source_now
    → EndsBy (status_at end refused) (record { eeprom = eeprom; source = source; outlet = outlet }) (record { eeprom = eeprom_now; source = source_now; outlet = outlet_now })
input-causes ends.Ended true eeprom eeprom_now outlet outlet_now source source_now causes counts = same-all eeprom eeprom_now outlet outlet_now source source_now causes counts
input-causes ends.Ended false eeprom eeprom_now outlet outlet_now source source_now causes counts = same-all eeprom eeprom_now outlet outlet_now source source_now causes counts
input-causes ends.ReadFault refused eeprom eeprom_now outlet outlet_now source source_now causes counts = (counts.1, ap (λ (f : Faults). f.eeprom) causes, ap (λ (f : Faults). f.outlet) causes)
input-causes ends.TooLong refused eeprom eeprom_now outlet outlet_now source source_now causes counts = same-all eeprom eeprom_now outlet outlet_now source source_now causes counts
input-causes (ends.Stopped stops.Eeprom) refused eeprom eeprom_now outlet outlet_now source source_now causes counts = (causes.eeprom refl, counts, causes.outlet_stays refl)
input-causes (ends.Stopped stops.Outlet) refused eeprom eeprom_now outlet outlet_now source source_now causes counts = (causes.outlet refl, counts, causes.eeprom_later)
input-causes (ends.Stopped stops.Both) refused eeprom eeprom_now outlet outlet_now source source_now causes counts = ((causes.both refl).1, counts, causes.eeprom_later)
input-causes (ends.Stopped stops.NoMemory) refused eeprom eeprom_now outlet outlet_now source source_now causes counts = same-all eeprom eeprom_now outlet outlet_now source source_now (causes.both_stay refl) counts
