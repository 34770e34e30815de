-- What a power loss leaves of a run, line by line, is what is kept of its lines.
use Rattle.std.proofs.Common.{◌≡◌, inl, inr, ℕ, suc, ◌+◌, ◌-◌, ◌≤◌, List, [], ◌∷◌, ◌++◌, length, refl, sym, ap, subst, ◌∙◌, arith, append-nil, append_assoc, length-append}
use Rattle.eeprom.specs.Chip.{Chip, Throughout}
use Rattle.eeprom.proofs.Moments.{throughout-weaker, throughout-both}
use Rattle.scql_model.specs.Heard.{IsKept, IsLawful}
use Rattle.scql_model.specs.Lines.{Language, line_effect, line_step, line_text, run_text, state_after}
use Rattle.scql_model.proofs.Hearing.{kept-after, kept-answered, kept-failing, kept-idle, kept-same}
use Rattle.line_run.specs.declared.line_stop.LineStop.{LineStop}
use Rattle.line_run.specs.declared.line_stop.LineStop.TheVariants.{Eeprom, Outlet, Both, NoMemory}
use Rattle.line_run.specs.Extent.{AreKept, carried_out, stopped_in}
use Rattle.line_run.specs.Moments.{IsAmong, IsInAnswered, IsInLine, IsInStopped, Passes}

-- what is kept where so many octets have gone out since a mark
abbrev KeptFrom : {S : Type 0} → Language S → S → List (List ℕ) → ℕ → ℕ → ℕ → List ℕ → Type 0
KeptFrom L state lines clean mark g left = (out : ℕ) × (g ≡ mark + out) × IsKept L state lines clean out left

-- Between two lines, of which at least those before are clean.
kept-between : {S : Type 0} (L : Language S) (lawful : IsLawful L) (state : S) (before rest : List (List ℕ)) (clean mark g : ℕ) (left : List ℕ) → length before ≤ clean → g ≡ mark + length (run_text L state before)
    → IsKept L (state_after L state before) rest (clean - length before) 0 left → KeptFrom L state (before ++ rest) clean mark g left
kept-between L lawful state before rest clean mark g left enough is kept =
    let out : ℕ = length (run_text L state before) + 0 in (
      out,
      omega (arith, is),
      kept-same L state (before ++ rest) (length before + (clean - length before)) clean out out left (omega (arith, enough)) refl (kept-after L lawful state before rest (clean - length before) 0 left kept),
    )

-- In a line that is answered, behind others.
kept-in_answered : {S : Type 0} (L : Language S) (lawful : IsLawful L) (state : S) (before : List (List ℕ)) (line : List ℕ) (rest : List (List ℕ)) (count mark g : ℕ) (left : List ℕ)
    → IsInAnswered L (state_after L state before) (line_effect L (state_after L state before) line) (mark + length (run_text L state before)) g left → KeptFrom L state (before ++ line ∷ rest) (length before + suc count) mark g left
unfolding line_text line_step
kept-in_answered L lawful state before line rest count mark g left answered =
    let from : ℕ = mark + length (run_text L state before) in
    let later : from ≤ g = answered.line.later in
    let within : g - from ≤ length (line_text L (state_after L state before) line) = omega (arith, answered.within, later) in (
      length (run_text L state before) + (g - from),
      omega (arith, later),
      kept-after L lawful state before (line ∷ rest) (suc count) (g - from) left
          (kept-answered L lawful (state_after L state before) line rest count (g - from) left within answered.line.opens (λ past. answered.done (omega (arith, past)))),
    )

-- in a line in which the EEPROM fails
kept-in_line : {S : Type 0} (L : Language S) (lawful : IsLawful L) (state : S) (before : List (List ℕ)) (line : List ℕ) (rest : List (List ℕ)) (mark g : ℕ) (left : List ℕ)
    → IsInLine L (state_after L state before) (line_effect L (state_after L state before) line) (mark + length (run_text L state before)) g left → KeptFrom L state (before ++ line ∷ rest) (length before) mark g left
kept-in_line L lawful state before line rest mark g left failing =
    let from : ℕ = mark + length (run_text L state before) in
    let later : from ≤ g = failing.later in
    let out : ℕ = length (run_text L state before) + (g - from) in (
      out,
      omega (arith, later),
      kept-same L state (before ++ line ∷ rest) (length before + 0) (length before) out out left (omega arith) refl
          (kept-after L lawful state before (line ∷ rest) 0 (g - from) left (kept-failing L (state_after L state before) line rest (g - from) left failing.opens)),
    )

-- While lines are answered, before others, of which at least the answered ones are clean.
kept-among : {S : Type 0} (L : Language S) (lawful : IsLawful L) (state : S) (lines others : List (List ℕ)) (clean mark g : ℕ) (left : List ℕ) → length lines ≤ clean
    → IsAmong L state lines mark g left → KeptFrom L state (lines ++ others) clean mark g left
kept-among L lawful state lines others clean mark g left enough (inl between) =
    let split : lines ++ others ≡ between.before ++ (between.rest ++ others) = ap (λ (x : List (List ℕ)). x ++ others) between.split ∙ append_assoc between.before between.rest others in
    let few : length between.before ≤ clean = omega (arith, enough, ap length between.split, length-append between.before between.rest) in
    subst (λ (all : List (List ℕ)). KeptFrom L state all clean mark g left) (sym split)
    (kept-between L lawful state between.before (between.rest ++ others) clean mark g left few between.mark_is
    (kept-idle L lawful (state_after L state between.before) (between.rest ++ others) (clean - length between.before) left between.opens))
kept-among L lawful state lines others clean mark g left enough (inr within) =
    let rest : List (List ℕ) = within.rest ++ others in
    let split : lines ++ others ≡ within.before ++ within.line ∷ rest = ap (λ (x : List (List ℕ)). x ++ others) within.split ∙ append_assoc within.before (within.line ∷ within.rest) others in
    let few : length within.before + 1 ≤ clean = omega (arith, enough, ap length within.split, length-append within.before (within.line ∷ within.rest)) in
    let here = kept-in_answered L lawful state within.before within.line rest (clean - (length within.before + 1)) mark g left within.answered in
    subst (λ (all : List (List ℕ)). KeptFrom L state all clean mark g left) (sym split) (
      here.0,
      here.1,
      kept-same L state (within.before ++ within.line ∷ rest) (length within.before + suc (clean - (length within.before + 1))) clean here.0 here.0 left (omega (arith, few)) refl here.2,
    )

-- in a line in which a run stops, which is clean where the outlet alone fails
kept-in_stopped : {S : Type 0} (L : Language S) (lawful : IsLawful L) (stop : LineStop) (state : S) (before : List (List ℕ)) (line : List ℕ) (rest all : List (List ℕ)) (mark g : ℕ) (left : List ℕ)
    → IsInStopped stop L (state_after L state before) (line_effect L (state_after L state before) line) (mark + length (run_text L state before)) g left → KeptFrom L state (before ++ line ∷ rest) (carried_out (stopped_in stop before line) all) mark g left
kept-in_stopped L lawful Outlet state before line rest all mark g left stopped = kept-in_answered L lawful state before line rest 0 mark g left stopped
kept-in_stopped L lawful Eeprom state before line rest all mark g left stopped = kept-in_line L lawful state before line rest mark g left stopped
kept-in_stopped L lawful Both state before line rest all mark g left stopped = kept-in_line L lawful state before line rest mark g left stopped
kept-in_stopped L lawful NoMemory state before line rest all mark g left stopped =
    kept-between L lawful state before (line ∷ rest) (length before) mark g left (omega arith) stopped.0
    (kept-idle L lawful (state_after L state before) (line ∷ rest) (length before - length before) left stopped.1)

carried_out-most : (stop : LineStop) (before : List (List ℕ)) (line : List ℕ) (all : List (List ℕ)) → length before ≤ carried_out (stopped_in stop before line) all
carried_out-most Outlet before line all = omega arith
carried_out-most Eeprom before line all = omega arith
carried_out-most Both before line all = omega arith
carried_out-most NoMemory before line all = omega arith

-- Of lines that are all answered.
pub kept-answered_all : {S : Type 0} (L : Language S) (lawful : IsLawful L) (state : S) (lines : List (List ℕ)) (old new : Chip) → Passes L state lines old new → AreKept L state lines (length lines) old new
kept-answered_all L lawful state lines old new passes =
    throughout-weaker old new (IsAmong L state lines old.still.mark) (KeptFrom L state lines (length lines) old.still.mark) passes.moments
    (λ g left during. subst (λ (x : List (List ℕ)). KeptFrom L state x (length lines) old.still.mark g left) (append-nil lines)
    (kept-among L lawful state lines [] (length lines) old.still.mark g left (omega arith) during))

-- Of lines behind which a run stops in one.
pub kept-stopped : {S : Type 0} (L : Language S) (lawful : IsLawful L) (stop : LineStop) (state : S) (before : List (List ℕ)) (line : List ℕ) (rest all : List (List ℕ)) (old mid new : Chip) → all ≡ before ++ line ∷ rest → Passes L state before old mid
    → Throughout mid new (IsInStopped stop L (state_after L state before) (line_effect L (state_after L state before) line) mid.still.mark)
    → AreKept L state all (carried_out (stopped_in stop before line) all) old new
kept-stopped L lawful stop state before line rest all old mid new split passes last =
    let count : ℕ = carried_out (stopped_in stop before line) all in
    subst (λ (x : List (List ℕ)). Throughout old new (KeptFrom L state x count old.still.mark)) (sym split)
    (throughout-both old mid new (IsAmong L state before old.still.mark) (IsInStopped stop L (state_after L state before) (line_effect L (state_after L state before) line) mid.still.mark)
    (KeptFrom L state (before ++ line ∷ rest) count old.still.mark) passes.moments last
    (λ g left during. kept-among L lawful state before (line ∷ rest) count old.still.mark g left (carried_out-most stop before line all) during)
    (λ g left during. kept-in_stopped L lawful stop state before line rest all old.still.mark g left
    (subst (λ (mark : ℕ). IsInStopped stop L (state_after L state before) (line_effect L (state_after L state before) line) mark g left) passes.mark during)))
